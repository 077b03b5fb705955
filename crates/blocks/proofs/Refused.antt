-- A line that is refused as it is read.
use Rattle.std.proofs.Common.{◌≡◌, inl, inr, ◌==◌, Bool, true, false, Result, Ok, Err, sym, ap, subst, ◌∙◌}
use Rattle.std.specs.Prelude.{IfOk}
use Rattle.kinds.specs.Answers.{Answers}
use Rattle.kinds.specs.Refusals.{number_of}
use Rattle.kinds.specs.declared.refusal.Refusal.{Refusal}
use Rattle.admin_words.specs.declared.command.Command.{Command}

-- what is the same of each refused line is what is said of this one, unless memory was wanted
pub refused_as : {A E : Type 0} (f : Result Command Refusal → A) (none : A) → ((e : Refusal) → f (Err e) ≡ none) → (e : Refusal) (said : Result Command Refusal) (r : Result A E) → Answers {A = Command} (Err e) said
    → IfOk r (λ it. (it ≡ none) × ((number_of e == 50) ≡ false)) → IfOk r (λ it. it ≡ f said)
refused_as f none all e said (Ok it) (inl want) is = let bad : true ≡ false = subst (λ (x : Refusal). (number_of x == 50) ≡ false) want is.1 in absurd cc
refused_as f none all e said (Ok it) (inr refused) is = is.0 ∙ sym (all e) ∙ ap f (sym refused)
refused_as f none all e said (Err x) answers is = tt
