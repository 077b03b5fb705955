use Rattle.std.proofs.Common.{◌≡◌, drop}
use Rattle.db_losses.specs.Lost.{all_put, lost_in_versions}
use Rattle.db_losses.proofs.lost.put_versions.Given as goal

abbrev pub invariant-versions : goal.invariant-versions
invariant-versions l = all_put (lost_in_versions l.losses l.node l.filespace l.path (drop l.version-index l.versions)) l.out.entries ≡ all_put (lost_in_versions l.losses l.node l.filespace l.path l.versions) l.fn.out.entries
