use Rattle.std.proofs.Common.{◌≡◌, ◌++◌, drop}
use Rattle.std.specs.List.{flat_map}
use Rattle.command_steps.specs.Answers.{damaged_line}
use Rattle.command_steps.proofs.text.put_damaged.Given as goal

-- the lines so far, and then those that are left, are all
abbrev pub invariant-copies : goal.invariant-copies
invariant-copies l = l.out.items ++ flat_map (damaged_line l.line) (drop l.copy-index l.copies) ≡ l.fn.out.items ++ flat_map (damaged_line l.line) l.copies
