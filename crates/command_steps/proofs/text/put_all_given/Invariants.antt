use Rattle.std.proofs.Common.{◌≡◌, ◌++◌, length}
use Rattle.command_steps.specs.Answers.{given_lines}
use Rattle.command_steps.proofs.text.put_all_given.Given as goal

-- the lines so far, and then those that are left, are all
abbrev pub invariant-objects : goal.invariant-objects
invariant-objects l = l.out.items ++ given_lines l.line l.objects_left l.given_left ≡ l.fn.out.items ++ given_lines l.line l.objects l.given

abbrev pub decreases-objects : goal.decreases-objects
decreases-objects l = length l.objects_left
