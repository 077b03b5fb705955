use Rattle.std.proofs.Common.{◌≡◌, filter}
use Rattle.std.specs.List.{range_with_len}
use Rattle.copy_groups.specs.Retention.{is_unretained}
use Rattle.copy_groups.proofs.unretained.Given as goal

abbrev pub invariant-places : goal.invariant-places
invariant-places l = l.places.items ≡ filter (is_unretained l.rule l.active l.since l.today) (range_with_len 0 l.place)
