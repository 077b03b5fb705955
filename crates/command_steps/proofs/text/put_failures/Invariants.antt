use Rattle.std.proofs.Common.{◌≡◌, ◌++◌, drop}
use Rattle.std.specs.List.{flat_map}
use Rattle.command_steps.specs.Answers.{failure_line}
use Rattle.command_steps.proofs.text.put_failures.Given as goal

-- the lines so far, and then those that are left, are all
abbrev pub invariant-failures : goal.invariant-failures
invariant-failures l = l.out.items ++ flat_map (failure_line l.line) (drop l.failure-index l.failures) ≡ l.fn.out.items ++ flat_map (failure_line l.line) l.failures
