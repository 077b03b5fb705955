-- A step that some steps of the script met, as the machine made it: what held of the hall where it was made, and what came before and behind it.
use Rattle.std.proofs.Common.{◌≡◌, inl, inr, ℕ, List, [], ◌∷◌, refl, sym, ap, subst, ◌∙◌, arith}
use Rattle.std.specs.List.{AllByRecursion}
use Rattle.steps.specs.Events.{Deed, Event}
use Rattle.steps.specs.Events.Deed.{Ask, Commit, CopyPiece, DropTicket, Force, Image, OpenCopy, OpenNew, ReadPiece, Reuse, Seal, WritePiece}
use Rattle.command_steps.specs.copy_attempts.Outcomes.{MetBy}
use Rattle.machine.specs.Alone.{Alone, Moves, behind, with_contents}
use Rattle.machine.specs.Machine.{Case, Later, Places}
use Rattle.machine.specs.State.{Core, Machine}
use Rattle.line_results.specs.Resting.{Onward}
use Rattle.line_results.proofs.Growing.{Grows, grows-none, grows-then, step-grows}
use Rattle.line_results.proofs.Runs.{onward-none, onward-then}

-- behind a step only bytes may be others than the machine left
behind-is : (deed : Deed) (contents : ℕ → List ℕ) (m : Machine) → (bytes : ℕ → List ℕ) × (behind deed contents m ≡ with_contents bytes m)
behind-is (OpenNew number size prefer answer) contents m = (m.contents, refl)
behind-is (OpenCopy object a avoid answer) contents m = (m.contents, refl)
behind-is (WritePiece number bytes answer) contents m = (m.contents, refl)
behind-is (CopyPiece number answer) contents m = (m.contents, refl)
behind-is (Seal number answer) contents m = (m.contents, refl)
behind-is (Commit asked numbers answer) contents m = (m.contents, refl)
behind-is (DropTicket number answer) contents m = (m.contents, refl)
behind-is (ReadPiece object kept from offset wanted answer) contents m = (contents, refl)
behind-is (Ask query answer) contents m = (m.contents, refl)
behind-is (Image kind answer) contents m = (m.contents, refl)
behind-is (Reuse file answer) contents m = (m.contents, refl)
behind-is (Force answer) contents m = (m.contents, refl)

-- what the machine left is what is there behind the step, but for bytes
pub record Passes (left next : Machine) : Type 0 where
  pub core : next.core ≡ left.core
  pub onward : Onward left next

with-passes : (bytes : ℕ → List ℕ) (left next : Machine) → next ≡ with_contents bytes left → Passes left next
with-passes bytes left next is =
    subst (λ (m : Machine). Passes left m) (sym is) (record { core = refl; onward = record { counts = λ file. omega arith; since = omega arith } })

pub passes : (trusted : Type 0) (places : Places) (e : Event) (m next : Machine) → (moved : Moves trusted places 0 e m next) → Passes moved.next next
passes trusted places e m next moved =
    let b = behind-is e.deed m.contents moved.next in
    with-passes b.0 moved.next next (moved.left ∙ b.1)

pub moved-onward : (trusted : Type 0) (places : Places) (e : Event) (m next : Machine) → (moved : Moves trusted places 0 e m next) → Onward m moved.next
moved-onward trusted places e m next moved = record { counts = moved.made.later.counts; since = moved.made.later.since }

module _ (trusted : Type 0) (places : Places) where
  pub alone-grows : (events : List Event) (m new : Machine) → Alone trusted places 0 events m new → Onward m new × Grows m.core new.core
  alone-grows [] m new is = (
    subst (λ (x : Machine). Onward m x) (sym is) (onward-none m),
    grows-none m.core new.core (ap (λ (x : Machine). x.core.base) is) (ap (λ (x : Machine). x.core.journal) is),
  )
  alone-grows (e ∷ events) m new (next, moved, rest) =
      let p = passes trusted places e m next moved in
      let r = alone-grows events next new rest in
      let step : Grows m.core moved.next.core = step-grows places e.deed (with_contents moved.seen m) moved.next moved.made.step in (
        onward-then m next new (onward-then m moved.next next (moved-onward trusted places e m next moved) p.onward) r.0,
        grows-then m.core next.core new.core (subst (λ (c : Core). Grows m.core c) (sym p.core) step) r.1,
      )

-- the step, as it was made between the first state and the last
pub record MetAt (places : Places) (K : Deed → Type 0) (Q : Core → Type 0) (Is : Deed → Type 0) (old new : Machine) : Type 0 where
  pub before : Machine
  pub after : Machine
  pub deed : Deed
  pub is : Is deed
  pub kind : K deed
  pub step : Case places 0 deed before after
  pub later : Later before after
  pub holds : Q before.core
  pub since : Onward old before
  pub until : Onward after new
  pub grown : Grows before.core new.core

module _ (trusted : Type 0) (places : Places) (K : Deed → Type 0) (Q : Core → Type 0) (keeps : (d : Deed) (m next : Machine) → K d → Case places 0 d m next → Q m.core → Q next.core) (Is : Deed → Type 0) where
  met-since : (events : List Event) (old m new : Machine) → Onward old m → AllByRecursion (λ e. K e.deed) events → Q m.core → Alone trusted places 0 events m new → MetBy Is events → MetAt places K Q Is old new
  met-since [] old m new since all holds f h = absurd h
  met-since (e ∷ events) old m new since all holds (next, moved, rest) (inl is) =
      let p = passes trusted places e m next moved in
      let r = alone-grows trusted places events next new rest in
      let step : Grows m.core moved.next.core = step-grows places e.deed (with_contents moved.seen m) moved.next moved.made.step in
      record {
        before = with_contents moved.seen m;
        after = moved.next;
        deed = e.deed;
        is = is;
        kind = all.0;
        step = moved.made.step;
        later = moved.made.later;
        holds = holds;
        since = record { counts = since.counts; since = since.since };
        until = onward-then moved.next next new p.onward r.0;
        grown = grows-then m.core next.core new.core (subst (λ (c : Core). Grows m.core c) (sym p.core) step) r.1;
      }
  met-since (e ∷ events) old m new since all holds (next, moved, rest) (inr h) =
      let p = passes trusted places e m next moved in
      met-since events old next new (onward-then old m next since (onward-then m moved.next next (moved-onward trusted places e m next moved) p.onward)) all.1
      (subst Q (sym p.core) (keeps e.deed (with_contents moved.seen m) moved.next all.0 moved.made.step holds)) rest h

  pub met-at : (events : List Event) (m new : Machine) → AllByRecursion (λ e. K e.deed) events → Q m.core → Alone trusted places 0 events m new → MetBy Is events → MetAt places K Q Is m new
  met-at events m new all holds f h = met-since events m m new (onward-none m) all holds f h
