use Rattle.std.proofs.Common.{◌^◌}
use Rattle.inventory_bytes.proofs.Groups.{older_within}
use Rattle.inventory_bytes.proofs.version_fits.versions_fit.Goals as goal

pub each_fits-requires-clause-within : goal.each_fits-requires-clause-within
each_fits-requires-clause-within c = older_within (2 ^ 32) c.args.versions.now c.in-len1-up.len_at_least c.requires.inactive c.requires.few
