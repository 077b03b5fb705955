-- A run of several actors' turns: no count falls, and the moment doesn't; which states it passes, and where each of its steps stands.
use Rattle.std.proofs.Common.{◌≡◌, ◌∙◌, inl, inr, ℕ, ◌+◌, ◌≤◌, ◌==◌, if◌then◌else◌, false, Some, Result, List, [], ◌∷◌, ◌++◌, length, refl, sym, subst, append_assoc, arith}
use Rattle.std.specs.List.{AllByRecursion}
use Rattle.kinds.specs.Refusals.{foremost}
use Rattle.kinds.specs.declared.refusal.Refusal.{Refusal}
use Rattle.kinds.specs.declared.refusal.Refusal.TheVariants as refused
use Rattle.steps.specs.declared.image.ImageKind.{ImageKind}
use Rattle.steps.specs.declared.image.ImageReply.{ImageReply}
use Rattle.steps.specs.Events.{Deed, Event, refusal}
use Rattle.steps.specs.Events.Deed.{OpenNew, OpenCopy, WritePiece, CopyPiece, Seal, Commit, DropTicket, ReadPiece, Ask, Image, Reuse, Force}
use Rattle.machine.specs.Alone.{Moves, behind}
use Rattle.machine.proofs.Elsewhere.{ended-all, foremost-all}
use Rattle.machine.proofs.Mild.{mild-copy, mild-seal, mild-write}
use Rattle.machine.specs.Fits.{is_write_fault}
use Rattle.machine.specs.Machine.{Places, ended}
use Rattle.machine.specs.Pieces.{RoseAt}
use Rattle.machine.specs.State.{Machine, sight}
use Rattle.machine.specs.Turns.{Turn}
use Rattle.crew.specs.Ran.{Turned}
use Rattle.line_results.specs.Resting.{Onward}
use Rattle.block_results.specs.Refusing.{HasNoPlace, HasRisen, HaveCauses, IsRefusedFor, Meets, bounds, held_reasons, own_reasons}
use Rattle.block_results.proofs.MildImages.{bounds-mild, held-mild, own-mild}
use Rattle.block_results.proofs.Reasons.{moved-for}

-- ---- counts and the moment

pub here : (a : Machine) → Onward a a
here a = record { counts = λ file. omega arith; since = omega arith }

pub further : (a b c : Machine) → Onward a b → Onward b c → Onward a c
further a b c first second = record {
  counts = λ file. (let one = first.counts file in let two = second.counts file in omega (arith, one, two));
  since = (let one = first.since in let two = second.since in omega (arith, one, two));
}

-- what a read leaves has the same moment and counts
left : (old m : Machine) (d : Deed) (contents : ℕ → List ℕ) → Onward old m → Onward old (behind d contents m)
left old m (OpenNew number size prefer answer) contents on = on
left old m (OpenCopy object a avoid answer) contents on = on
left old m (WritePiece number bytes answer) contents on = on
left old m (CopyPiece number answer) contents on = on
left old m (Seal number answer) contents on = on
left old m (Commit asked numbers answer) contents on = on
left old m (DropTicket number answer) contents on = on
left old m (ReadPiece object kept from offset wanted answer) contents on = record { counts = on.counts; since = on.since }
left old m (Ask query answer) contents on = on
left old m (Image kind answer) contents on = on
left old m (Reuse file answer) contents on = on
left old m (Force answer) contents on = on

pub moved : (trusted : Type 0) (places : Places) (actor : ℕ) (e : Event) (old new : Machine) → Moves trusted places actor e old new → Onward old new
moved trusted places actor e old new m =
    let on : Onward old m.next = record { counts = m.made.later.counts; since = m.made.later.since } in
    subst (λ (n : Machine). Onward old n) (sym m.left) (left old m.next e.deed old.contents on)

pub turned_on : (trusted : Type 0) (places : Places) (turns : List Turn) (old new : Machine) → Turned trusted places turns old new → Onward old new
turned_on trusted places [] old new is = subst (λ (n : Machine). Onward old n) (sym is) (here old)
turned_on trusted places (t ∷ turns) old new (next, moves, rest) = further old next new (moved trusted places t.actor t.did old next moves) (turned_on trusted places turns next new rest)

-- a count that rose between two states rose between an earlier and a later one
pub rose-within : (a b c d : Machine) (file : ℕ) → Onward a b → RoseAt b.counts c.counts file → Onward c d → RoseAt a.counts d.counts file
rose-within a b c d file first rose last = (let one = first.counts file in let two = last.counts file in omega (arith, one, rose, two))

-- ---- runs one after the other

module _ (trusted : Type 0) (places : Places) where
  pub turned-join : (xs ys : List Turn) (a b c : Machine) → Turned trusted places xs a b → Turned trusted places ys b c → Turned trusted places (xs ++ ys) a c
  turned-join [] ys a b c is next = subst (λ (m : Machine). Turned trusted places ys m c) is next
  turned-join (x ∷ xs) ys a b c (m, made, rest) next = (m, made, turned-join xs ys m b c rest next)

  -- one more behind them
  pub turned-more : (xs : List Turn) (t : Turn) (a b c : Machine) → Turned trusted places xs a b → Moves trusted places t.actor t.did b c → Turned trusted places (xs ++ (t ∷ [])) a c
  turned-more xs t a b c first made = turned-join xs (t ∷ []) a b c first (c, made, refl)

  -- ---- each refused step has its cause

  all-behind : (P : Refusal → Type 0) (xs ys : List Refusal) → AllByRecursion P (xs ++ ys) → AllByRecursion P ys
  all-behind P [] ys h = h
  all-behind P (x ∷ xs) ys h = all-behind P xs ys h.1

  abbrev IsMild : Refusal → Type 0
  IsMild e = is_write_fault e ≡ false

  -- a step whose actor sees no fault of writing, and that asks for nothing of others
  risen-by : (actor : ℕ) (deed : Deed) (file : ℕ) (old before after new : Machine) → Onward old before → Onward after new → AllByRecursion IsMild (ended before ++ own_reasons actor deed (sight actor before.core))
      → (HasNoPlace places actor deed before (refused.WriteFault file) → ⊥) → held_reasons actor deed before.core ≡ [] → bounds deed before.core ≡ [] → IsRefusedFor places actor deed before after (refused.WriteFault file)
      → RoseAt old.counts new.counts file
  risen-by actor deed file old before after new first last mild place held bound (inl h) =
      let odd : is_write_fault (refused.WriteFault file) ≡ false = foremost-all IsMild (own_reasons actor deed (sight actor before.core)) (all-behind IsMild (ended before) (own_reasons actor deed (sight actor before.core)) mild) (refused.WriteFault file) h in
      absurd cc
  risen-by actor deed file old before after new first last mild place held bound (inr (inl h)) = absurd (place h)
  risen-by actor deed file old before after new first last mild place held bound (inr (inr (inl h))) =
      let odd : foremost [] ≡ Some (refused.WriteFault file) = subst (λ (l : List Refusal). foremost l ≡ Some (refused.WriteFault file)) held h in
      absurd cc
  risen-by actor deed file old before after new first last mild place held bound (inr (inr (inr (inl h)))) =
      let odd : foremost [] ≡ Some (refused.WriteFault file) = subst (λ (l : List Refusal). foremost l ≡ Some (refused.WriteFault file)) bound h in
      absurd cc
  risen-by actor deed file old before after new first last mild place held bound (inr (inr (inr (inr (inl h))))) =
      let odd : is_write_fault (refused.WriteFault file) ≡ false = foremost-all IsMild (ended before) (ended-all IsMild refl (λ f count. refl) before) (refused.WriteFault file) h in
      absurd cc
  risen-by actor deed file old before after new first last mild place held bound (inr (inr (inr (inr (inr (inl rose)))))) = rose-within old before after new file first rose last
  risen-by actor deed file old before after new first last mild place held bound (inr (inr (inr (inr (inr (inr h)))))) = absurd cc

  -- a step on an image
  image-risen : (actor : ℕ) (kind : ImageKind) (answer : Result ImageReply Refusal) (file : ℕ) (old before after new : Machine) → Onward old before → Onward after new
      → IsRefusedFor places actor (Image kind answer) before after (refused.WriteFault file) → RoseAt old.counts new.counts file
  image-risen actor kind answer file old before after new first last (inl h) = absurd (own-mild actor kind (sight actor before.core) file h)
  image-risen actor kind answer file old before after new first last (inr (inl h)) = absurd h
  image-risen actor kind answer file old before after new first last (inr (inr (inl h))) = absurd (held-mild actor kind answer before.core file h)
  image-risen actor kind answer file old before after new first last (inr (inr (inr (inl h)))) = absurd (bounds-mild kind answer before.core file h)
  image-risen actor kind answer file old before after new first last (inr (inr (inr (inr (inl h))))) =
      let odd : is_write_fault (refused.WriteFault file) ≡ false = foremost-all IsMild (ended before) (ended-all IsMild refl (λ f count. refl) before) (refused.WriteFault file) h in
      absurd cc
  image-risen actor kind answer file old before after new first last (inr (inr (inr (inr (inr (inl rose)))))) = rose-within old before after new file first rose last
  image-risen actor kind answer file old before after new first last (inr (inr (inr (inr (inr (inr h)))))) = absurd cc

  risen-of : (actor : ℕ) (deed : Deed) (e : Refusal) (old before after new : Machine) → Onward old before → IsRefusedFor places actor deed before after e → Onward after new → HasRisen deed e old new
  risen-of actor (WritePiece number bytes answer) (refused.WriteFault file) old before after new first for last =
      risen-by actor (WritePiece number bytes answer) file old before after new first last (mild-write before number (length bytes) (sight actor before.core)) (λ x. x) refl refl for
  risen-of actor (CopyPiece number answer) (refused.WriteFault file) old before after new first for last =
      risen-by actor (CopyPiece number answer) file old before after new first last (mild-copy before number (sight actor before.core)) (λ x. x) refl refl for
  risen-of actor (Seal number answer) (refused.WriteFault file) old before after new first for last =
      risen-by actor (Seal number answer) file old before after new first last (mild-seal before number (sight actor before.core)) (λ x. x) refl refl for
  risen-of actor (Image kind answer) (refused.WriteFault file) old before after new first for last = image-risen actor kind answer file old before after new first last for
  risen-of actor deed e old before after new first for last = tt

  abbrev HasCause : List Turn → Machine → Machine → Turn → Type 0
  HasCause turns old new t = (why : Refusal) → refusal t.did.deed ≡ Some why → (m : Meets trusted places turns old new t) × IsRefusedFor places t.actor t.did.deed m.before m.after why × HasRisen t.did.deed why old new

  one-cause : (front back : List Turn) (t : Turn) (start old next new : Machine) → Turned trusted places front start old → Moves trusted places t.actor t.did old next → Turned trusted places back next new → HasCause (front ++ (t ∷ back)) start new t
  one-cause front back t start old next new led made leads why is =
      let for = moved-for trusted places t.actor t.did old next why made is in (
        record { front = front; back = back; parts = refl; before = old; after = next; led = led; made = made; leads = leads },
        for,
        risen-of t.actor t.did.deed why start old next new (turned_on trusted places front start old led) for (turned_on trusted places back next new leads),
      )

  causes-behind : (front turns : List Turn) (start old new : Machine) → Turned trusted places front start old → Turned trusted places turns old new → AllByRecursion (HasCause (front ++ turns) start new) turns
  causes-behind front [] start old new led is = tt
  causes-behind front (t ∷ turns) start old new led (next, made, rest) = (
    one-cause front turns t start old next new led made rest,
    subst (λ (all : List Turn). AllByRecursion (HasCause all start new) turns) (append_assoc front (t ∷ []) turns) (causes-behind (front ++ (t ∷ [])) turns start next new (turned-more front t start old next led made) rest),
  )

  pub have-causes : (turns : List Turn) (old new : Machine) → Turned trusted places turns old new → HaveCauses trusted places turns old new
  have-causes turns old new h = causes-behind [] turns old old new refl h
