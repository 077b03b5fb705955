use Rattle.std.proofs.Common.{◌≡◌, ◌++◌, drop}
use Rattle.std.specs.List.{flat_map}
use Rattle.hall.specs.Joined.{left_by_copy}
use Rattle.hall.proofs.committing.add_version.Given as goal

abbrev pub invariant-copies : goal.invariant-copies
invariant-copies l = l.out.items ++ flat_map (left_by_copy l.from) (drop l.copy-index l.copy-items) ≡ l.initial.out.items ++ flat_map (left_by_copy l.from) l.version.copies
