-- A step that some steps of the script met, as the machine made it, with the steps before it and behind it.
use Rattle.std.proofs.Common.{◌≡◌, inl, inr, ℕ, List, [], ◌∷◌, ◌++◌, refl, ap}
use Rattle.std.specs.List.{AllByRecursion}
use Rattle.steps.specs.Events.{Deed, Event}
use Rattle.steps.specs.Events.Deed.{ReadPiece}
use Rattle.command_steps.specs.copy_attempts.Outcomes.{MetBy}
use Rattle.machine.specs.Alone.{Alone, AreBytes, Moves}
use Rattle.machine.specs.Machine.{Case, Places}
use Rattle.machine.specs.State.{Machine}
use Rattle.line_results.proofs.Spent.{HasTickets, ticket-step}

-- ---- less is trusted

loose-bytes : (trusted : Type 0) (d : Deed) (contents seen : ℕ → List ℕ) → AreBytes trusted d contents seen → AreBytes ⊥ d contents seen
loose-bytes trusted (ReadPiece object kept from offset wanted answer) contents seen h = λ never. absurd never
loose-bytes trusted d contents seen h = h

pub loose-moved : (trusted : Type 0) (places : Places) (e : Event) (m next : Machine) → Moves trusted places 0 e m next → Moves ⊥ places 0 e m next
loose-moved trusted places e m next moved = record { seen = moved.seen; next = moved.next; bytes = loose-bytes trusted e.deed m.contents moved.seen moved.bytes; made = moved.made; left = moved.left }

-- ---- the step

pub record CutAt (places : Places) (Is : Deed → Type 0) (whole : List Event) (old : Machine) : Type 0 where
  pub first : List Event
  pub at : Event
  pub later : List Event
  pub m : Machine
  pub next : Machine
  pub cut : whole ≡ first ++ at ∷ later
  pub made : Alone ⊥ places 0 first old m
  pub is : Is at.deed
  pub step : Case places 0 at.deed m next

pub cut-at : (trusted : Type 0) (places : Places) (Is : Deed → Type 0) (events : List Event) (old new : Machine) → AllByRecursion (λ e. HasTickets e.deed) events → MetBy Is events → Alone trusted places 0 events old new
    → CutAt places Is events old
cut-at trusted places Is [] old new all h f = absurd h
cut-at trusted places Is (e ∷ events) old new all (inl is) (next, moved, rest) =
    let s = ticket-step trusted places e old next all.0 moved in
    record { first = []; at = e; later = events; m = old; next = next; cut = refl; made = refl; is = is; step = s.1 }
cut-at trusted places Is (e ∷ events) old new all (inr h) (next, moved, rest) =
    let r = cut-at trusted places Is events next new all.1 h rest in
    record {
      first = e ∷ r.first;
      at = r.at;
      later = r.later;
      m = r.m;
      next = r.next;
      cut = ap (λ (es : List Event). e ∷ es) r.cut;
      made = (next, loose-moved trusted places e old next moved, r.made);
      is = r.is;
      step = r.step;
    }

-- of the first of some events holds what holds of all
pub all-first : (P : Event → Type 0) (first later : List Event) → AllByRecursion P (first ++ later) → AllByRecursion P first
all-first P [] later h = tt
all-first P (e ∷ first) later h = (h.0, all-first P first later h.1)

-- and of the one behind them
pub at-one : (P : Event → Type 0) (first : List Event) (e : Event) (later : List Event) → AllByRecursion P (first ++ e ∷ later) → P e
at-one P [] e later h = h.0
at-one P (x ∷ first) e later h = at-one P first e later h.1
