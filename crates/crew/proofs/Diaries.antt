-- A step of a pass is one event.
use Rattle.std.proofs.Common.{◌≡◌, ℕ, true, List, [], ◌∷◌, ◌++◌, Option, Result, Ok, Err, refl, sym, ap, ◌∙◌}
use Rattle.kinds.specs.declared.refusal.Refusal.{Refusal}
use Rattle.steps.specs.Calls.{piece_of}
use Rattle.hall.specs.Alone.{raised}
use Rattle.steps.specs.Events.{Deed, Event, event, is_listed, refusal, refusal_in}
use Rattle.crew.specs.Passes.{Diary, Did}

-- one step was made, and the refused ones counted
pub made_by : (old mid after last : Diary) (count count_mid count_after : ℕ) (deed : Deed) (why : Option Refusal) → mid ≡ old → count_mid ≡ count → ((n : ℕ) × (after ≡ (mid.0, mid.1 ++ event n deed ∷ [])))
    → refusal deed ≡ why → last ≡ after → count_after ≡ raised count_mid why → is_listed deed ≡ true → (n : ℕ) × Did old count (event n deed ∷ []) last count_after × (is_listed deed ≡ true)
made_by old mid after last count count_mid count_after deed why same same_count told answered noted counted listed = (
  told.0,
  (
    ap (λ (d : Diary). d.0) noted ∙ ap (λ (d : Diary). d.0) told.1 ∙ ap (λ (d : Diary). d.0) same,
    ap (λ (d : Diary). d.1) noted ∙ ap (λ (d : Diary). d.1) told.1 ∙ ap (λ (d : Diary). d.1 ++ event told.0 deed ∷ []) same,
    counted ∙ ap (λ (n : ℕ). raised n why) same_count ∙ ap (λ (o : Option Refusal). raised count o) (sym answered),
  ),
  listed,
)

-- a read's bytes don't matter for why it was refused
pub read_answers : (answer : Result ℕ Refusal) (bytes : List ℕ) → refusal_in (piece_of answer bytes) ≡ refusal_in answer
read_answers (Ok n) bytes = refl
read_answers (Err e) bytes = refl
