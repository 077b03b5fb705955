use Rattle.std.proofs.Common.{◌≡◌, ◌++◌}
use Rattle.std.specs.List.{flat_map, range_with_len}
use Rattle.command_steps.specs.Answers.{data_line}
use Rattle.command_steps.proofs.text.put_data.Given as goal

abbrev pub invariant-pieces : goal.invariant-pieces
invariant-pieces l = l.out.items ≡ l.fn.out.items ++ flat_map (data_line l.line l.most l.bytes) (range_with_len 0 l.number)
