use Rattle.std.proofs.Common.{◌≡◌, not}
use Rattle.std.specs.List.{list_all}
use Rattle.space.specs.Volumes.{is_held}
use Rattle.kept_index.proofs.volumes.none_freed_there.Given as goal

abbrev pub invariant-freed : goal.invariant-freed
invariant-freed l = list_all (λ f. not (is_held l.file f.1)) l.places-iterator ≡ list_all (λ f. not (is_held l.file f.1)) l.space.freed
