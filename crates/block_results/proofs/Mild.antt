-- Of a line that was answered the run goes on behind its work: by no refusal of the work the run ends.
use Rattle.std.proofs.Common.{◌≡◌, List, None, Result, Ok, Err, refl, sym, ap, subst, ◌∙◌}
use Rattle.kinds.specs.declared.refusal.Refusal.{Refusal}
use Rattle.kinds.specs.declared.refusal.Refusal.TheVariants as refused
use Rattle.admin_commands.specs.declared.work.Work.{Work}
use Rattle.steps.specs.Events.{Event}
use Rattle.line_results.specs.command_steps.Answers.{halt_by}
use Rattle.line_results.specs.command_steps.Behind.{Behind, forces, no_more, reuses}
use Rattle.line_results.specs.command_steps.Doing as steps
use Rattle.line_results.specs.command_steps.Doing.{EndsWork, Forcing}
use Rattle.line_results.specs.command_steps.declared.outcome.Outcome.{Outcome}
use Rattle.line_results.proofs.ForceEnds.{force-ends}
use Rattle.line_results.proofs.Mild.{IsMild}
use Rattle.block_results.specs.Clauses.{EndsBy}

-- memory wasn't wanted
pub not-memory : (e : Refusal) → halt_by e ≡ None → e ≡ refused.Memory → ⊥
not-memory e mild is = let odd : None ≡ halt_by refused.Memory = sym mild ∙ ap (λ (x : Refusal). halt_by x) is in cc

abbrev Said : Type 0
Said = Result Outcome Refusal

mild-as : (r s : Said) → r ≡ s → IsMild r → IsMild s
mild-as r s is m = subst (λ (x : Said). IsMild x) is m

-- behind a force that was made
within-mild : (f : Refusal) (said : Said) → said ≡ steps.within_run (Err f) → IsMild said → halt_by f ≡ None
within-mild (refused.LogFault file count) said is m = absurd (not-memory refused.Memory (mild-as said (Err refused.Memory) is m) refl)
within-mild refused.RunFull said is m = absurd (not-memory refused.Memory (mild-as said (Err refused.Memory) is m) refl)
within-mild f said is m = mild-as said (Err f) is m

forced-mild : (f : Refusal) (events : List Event) (said : Said) → Forcing (Err f) events said → IsMild said → halt_by f ≡ None
forced-mild f events said (Ok number, made, is) m = within-mild f said is m
forced-mild f events said (Err x, made, is) m = absurd (force-ends x events made (mild-as said (Err x) is m))

ends-mild : (b : Behind) (f : Refusal) (events : List Event) (said : Said) → EndsWork b (Err f) events said → IsMild said → halt_by f ≡ None
ends-mild no_more f events said (none, is) m = mild-as said (Err f) is m
ends-mild forces f events said h m = forced-mild f events said h m
ends-mild reuses f events said (came, (xs, ys, cut, (none, is), forcing)) m = forced-mild f ys said (subst (λ (c : Said). Forcing c ys said) is forcing) m

pub came-mild : (work : Result Work Refusal) (b : Behind) (came : Said) (events : List Event) (said : Said) → EndsBy work b came events said → IsMild said → IsMild came
came-mild (Err why) b came events said (none, is) m = mild-as said came is m
came-mild (Ok work) b (Ok it) events said h m = tt
came-mild (Ok work) b (Err f) events said h m = ends-mild b f events said h m
