use Rattle.std.proofs.Common.{◌≡◌, ◌≤◌, ◌+◌, length}
use Rattle.command_steps.specs.Answers.{failed_gave}
use Rattle.command_steps.proofs.text.failed_gave.Given as goal

-- those so far, and then those that are left, are all
abbrev pub invariant-given : goal.invariant-given
invariant-given l = record {
  whole : l.count + failed_gave l.left ≡ failed_gave l.given;
  few : l.count + length l.left ≤ length l.given;
}

abbrev pub decreases-given : goal.decreases-given
decreases-given l = length l.left
