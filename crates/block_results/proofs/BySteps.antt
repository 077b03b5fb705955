-- Each transaction of a run of turns joined by a step of its own actor.
use Rattle.std.proofs.Common.{◌≡◌, ◌∙◌, ℕ, ◌+◌, Option, None, Some, List, [], ◌∷◌, ◌++◌, length, refl, sym, ap, subst, append_assoc, append-nil, arith}
use Rattle.std.proofs.lemmas.List.{length-append}
use Rattle.entries.specs.declared.change.Change.{Change}
use Rattle.entries.specs.declared.entry.Entry.{Entry}
use Rattle.inventory_rows.specs.State.{Inv}
use Rattle.steps.specs.Events.{Deed, Event}
use Rattle.steps.specs.Events.Deed.{OpenNew, OpenCopy, WritePiece, CopyPiece, Seal, Commit, DropTicket, ReadPiece, Ask, Image, Reuse, Force}
use Rattle.machine.proofs.Histories.{after-number}
use Rattle.machine.proofs.Moves.{Moved, entries_of, moves}
use Rattle.machine.specs.Alone.{Moves, behind, with_contents}
use Rattle.machine.specs.Fits.{Joined}
use Rattle.machine.specs.Laws.{GoesWhereAimed}
use Rattle.machine.specs.Machine.{Places}
use Rattle.machine.specs.State.{Core, Machine, inventory, sight}
use Rattle.machine.specs.Turns.{Turn}
use Rattle.crew.specs.Ran.{Turned}
use Rattle.line_results.specs.Resting.{Adds}
use Rattle.block_results.specs.Joining.{AreBySteps}
use Rattle.block_results.proofs.Turned.{turned-more}

-- but for what was read, the core is the step's
pub core-left : (d : Deed) (contents : ℕ → List ℕ) (m : Machine) → (behind d contents m).core ≡ m.core
core-left (OpenNew number size prefer answer) contents m = refl
core-left (OpenCopy object a avoid answer) contents m = refl
core-left (WritePiece number bytes answer) contents m = refl
core-left (CopyPiece number answer) contents m = refl
core-left (Seal number answer) contents m = refl
core-left (Commit asked numbers answer) contents m = refl
core-left (DropTicket number answer) contents m = refl
core-left (ReadPiece object kept from offset wanted answer) contents m = refl
core-left (Ask query answer) contents m = refl
core-left (Image kind answer) contents m = refl
core-left (Reuse file answer) contents m = refl
core-left (Force answer) contents m = refl

module _ (trusted : Type 0) (places : Places) (aimed : GoesWhereAimed places) where
  -- what one step adds
  pub step-adds : (actor : ℕ) (e : Event) (old new : Machine) → Moves trusted places actor e old new
      → (joined : Option Change) × (new.core.base ≡ old.core.base) × (new.core.journal ≡ old.core.journal ++ entries_of actor joined) × Joined (sight actor old.core) e.deed joined
  step-adds actor e old new m =
      let it : Moved actor m.seen e.deed old.core m.next.core = moves places aimed actor e.deed (with_contents m.seen old) m.next m.made.step in
      let core : new.core ≡ m.next.core = ap (λ (x : Machine). x.core) m.left ∙ core-left e.deed old.contents m.next in
      (it.joined, ap (λ (c : Core). c.base) core ∙ it.base, ap (λ (c : Core). c.journal) core ∙ it.journal, it.joins)

  number-next : (old new : Core) (entries : List Entry) → new.base ≡ old.base → new.journal ≡ old.journal ++ entries → (inventory new).number ≡ (inventory old).number + length entries
  number-next old new entries base journal =
      let a : (inventory old).number ≡ old.base.number + length old.journal = after-number old.base old.journal in
      let b : (inventory new).number ≡ new.base.number + length new.journal = after-number new.base new.journal in
      let f : new.base.number ≡ old.base.number = ap (λ (v : Inv). v.number) base in
      let l : length new.journal ≡ length old.journal + length entries = ap length journal ∙ length-append old.journal entries in
      omega (arith, a, b, f, l)

  -- the entry of a step, in front of others
  one-by-step : (all : List Turn) (start last : Machine) (front back : List Turn) (t : Turn) (old next : Machine) → all ≡ front ++ (t ∷ back) → Turned trusted places front start old → Moves trusted places t.actor t.did old next
      → Turned trusted places back next last → (joined : Option Change) → Joined (sight t.actor old.core) t.did.deed joined → (n : ℕ) → t.did.n ≡ n → (more : List Entry)
      → AreBySteps trusted places all start last (n + length (entries_of t.actor joined)) more → AreBySteps trusted places all start last n (entries_of t.actor joined ++ more)
  one-by-step all start last front back t old next parts led made leads None joins n number more h = subst (λ (k : ℕ). AreBySteps trusted places all start last k more) (omega arith) h
  one-by-step all start last front back t old next parts led made leads (Some c) joins n number more h = (
    record {
      turn = t;
      meets = record { front = front; back = back; parts = parts; before = old; after = next; led = led; made = made; leads = leads };
      actor = refl;
      number = number;
      joins = joins;
    },
    h,
  )

  by-steps-behind : (front turns : List Turn) (start old last : Machine) → Turned trusted places front start old → Turned trusted places turns old last
      → (added : List Entry) × Adds added old last × AreBySteps trusted places (front ++ turns) start last (inventory old.core).number added
  by-steps-behind front [] start old last led is =
      ([], record { base = ap (λ (m : Machine). m.core.base) is; journal = ap (λ (m : Machine). m.core.journal) is ∙ sym (append-nil old.core.journal) }, tt)
  by-steps-behind front (t ∷ turns) start old last led (next, made, rest) =
      let one = step-adds t.actor t.did old next made in
      let more = by-steps-behind (front ++ (t ∷ [])) turns start next last (turned-more trusted places front t start old next led made) rest in
      let first : List Entry = entries_of t.actor one.0 in
      let shape : (front ++ (t ∷ [])) ++ turns ≡ front ++ (t ∷ turns) = append_assoc front (t ∷ []) turns in
      let later : AreBySteps trusted places (front ++ (t ∷ turns)) start last (inventory next.core).number more.0 =
      subst (λ (all : List Turn). AreBySteps trusted places all start last (inventory next.core).number more.0) shape more.2 in (
        first ++ more.0,
        record {
          base = more.1.base ∙ one.1;
          journal = more.1.journal ∙ ap (λ (l : List Entry). l ++ more.0) one.2 ∙ append_assoc old.core.journal first more.0;
        },
        one-by-step (front ++ (t ∷ turns)) start last front turns t old next refl led made rest one.0 one.3 (inventory old.core).number made.made.number more.0
            (subst (λ (k : ℕ). AreBySteps trusted places (front ++ (t ∷ turns)) start last k more.0) (number-next old.core next.core first one.1 one.2) later),
      )

  pub by-steps : (turns : List Turn) (old last : Machine) → Turned trusted places turns old last → (added : List Entry) × Adds added old last × AreBySteps trusted places turns old last (inventory old.core).number added
  by-steps turns old last h = by-steps-behind [] turns old old last refl h

  -- what was added is told by the two states
  nothing-more : (xs ys zs : List Entry) → xs ++ ys ≡ xs ++ zs → ys ≡ zs
  nothing-more [] ys zs h = h
  nothing-more (x ∷ xs) ys zs h = nothing-more xs ys zs cc

  pub steps-of : (turns : List Turn) (old last : Machine) (added : List Entry) → Turned trusted places turns old last → Adds added old last → AreBySteps trusted places turns old last (inventory old.core).number added
  steps-of turns old last added h adds =
      let all = by-steps turns old last h in
      subst (λ (l : List Entry). AreBySteps trusted places turns old last (inventory old.core).number l) (nothing-more old.core.journal all.0 added (sym all.1.journal ∙ adds.journal)) all.2
