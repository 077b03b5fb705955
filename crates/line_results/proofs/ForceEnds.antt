-- The force behind a command's work: what it leaves of a refusal, and that it is refused only where it ends the run.
use Rattle.std.proofs.Common.{◌≡◌, inl, inr, true, List, [], ◌∷◌, None, Result, Ok, Err, sym, ap, subst, ◌∙◌}
use Rattle.std.proofs.lemmas.Option.{same_Some}
use Rattle.kinds.specs.declared.refusal.Refusal.{Refusal}
use Rattle.kinds.specs.declared.refusal.Refusal.TheVariants as refused
use Rattle.steps.specs.Calls.{Made}
use Rattle.steps.specs.Events.{Event, has_number, is_listed}
use Rattle.steps.specs.Events.Deed.{Force}
use Rattle.command_steps.specs.Answers.{halt_by}
use Rattle.command_steps.specs.Doing.{Forcing, within_run}
use Rattle.command_steps.specs.declared.outcome.Outcome.{Outcome}

abbrev pub no_said : Refusal → Result Outcome Refusal
no_said e = Err e

-- the refusal of a force ends the run
abbrev IsEnd : Refusal → Type 0
IsEnd e = halt_by e ≡ None → ⊥

force-listed : (e : Refusal) → has_number (40 ∷ 41 ∷ []) e ≡ true → IsEnd e
force-listed (refused.LogFault file count) h = λ none. cc
force-listed refused.RunFull h = λ none. cc
force-listed e h = absurd cc

listed-force : (e : Refusal) → is_listed (Force (Err e)) ≡ true → has_number (40 ∷ 41 ∷ []) e ≡ true
unfolding is_listed
listed-force e h = h

pub force-ends : (e : Refusal) (events : List Event) → Made (Force (Err e)) events → IsEnd e
force-ends e events (inl (number, is, listed)) = force-listed e (listed-force e listed)
force-ends e events (inr (memory, none)) = λ mild. (let is : e ≡ refused.Memory = same_Some e refused.Memory memory in let odd : None ≡ halt_by refused.Memory = sym mild ∙ ap (λ (x : Refusal). halt_by x) is in absurd cc)

abbrev said_error : Result Outcome Refusal → Refusal
said_error (Ok it) = refused.Memory
said_error (Err e) = e

pub said-same : (e f : Refusal) → no_said e ≡ no_said f → e ≡ f
said-same e f h = ap said_error h

-- what a force that was made leaves of a refusal by which no run ends is that
within-same : (f e : Refusal) → no_said e ≡ within_run (Err f) → halt_by e ≡ None → e ≡ f
within-same (refused.LogFault file count) e h mild = (let is : e ≡ refused.Memory = said-same e refused.Memory h in let odd : None ≡ halt_by refused.Memory = sym mild ∙ ap (λ (x : Refusal). halt_by x) is in absurd cc)
within-same refused.RunFull e h mild = (let is : e ≡ refused.Memory = said-same e refused.Memory h in let odd : None ≡ halt_by refused.Memory = sym mild ∙ ap (λ (x : Refusal). halt_by x) is in absurd cc)
within-same f e h mild = said-same e f h

pub forced-same : (f e : Refusal) (events : List Event) → Forcing (Err f) events (Err e) → halt_by e ≡ None → e ≡ f
forced-same f e events (Ok number, made, is) mild = within-same f e is mild
forced-same f e events (Err x, made, is) mild = absurd (force-ends x events made (subst (λ (y : Refusal). halt_by y ≡ None) (said-same e x is) mild))

-- the force behind work that was done is refused by the end of a run alone
pub forced-done : (it : Outcome) (why : Refusal) (events : List Event) → Forcing (Ok it) events (Err why) → halt_by why ≡ None → ⊥
forced-done it why events (Ok number, made, is) mild = cc
forced-done it why events (Err x, made, is) mild = force-ends x events made (subst (λ (y : Refusal). halt_by y ≡ None) (said-same why x is) mild)
