use Rattle.std.proofs.Common.{◌≡◌, ◌+◌, ◌≤◌, length}
use Rattle.space.specs.Volumes.{scratch_count}
use Rattle.space.proofs.volumes.scratch_count.Given as goal

abbrev pub invariant-sites : goal.invariant-sites
invariant-sites l = record {
  whole : l.count + scratch_count l.number l.site-iterator ≡ scratch_count l.number l.sites.entries;
  few : l.count + length l.site-iterator ≤ length l.sites.entries;
}
