use Rattle.std.proofs.Common.{◌≡◌, drop, not}
use Rattle.std.specs.Prelude.{◌==◌}
use Rattle.std.specs.List.{list_all}
use Rattle.hall.proofs.asked.is_other.Given as goal

abbrev pub invariant-others : goal.invariant-others
invariant-others l = list_all (λ other. not (l.number == other)) l.others ≡ list_all (λ other. not (l.number == other)) (drop l.other-index l.others)
