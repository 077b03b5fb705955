use Rattle.std.proofs.Common.{◌≡◌, drop}
use Rattle.command_steps.specs.Answers.{nothing}
use Rattle.line_jobs.specs.Shares.{with_said}
use Rattle.line_jobs.proofs.printing.print_said.Given as goal

-- with what is left to be said the answer is that to all
abbrev pub invariant-said : goal.invariant-said
invariant-said l = with_said l.reply (drop l.one-index l.said) ≡ with_said nothing l.said
