use Rattle.std.proofs.Common.{ap, ◌∙◌}
use Rattle.inventory_rows.specs.State.{inv_of}
use Rattle.inventory_fits.specs.Targets.{is_sequential_target}
use Rattle.inventory_fits.proofs.Seen.{sequential_seen}
use Rattle.inventory_fits.proofs.overlaps.is_sequential_at.Goals as goal

pub returns : goal.returns
returns c = c.is_sequential.ensures ∙ ap (is_sequential_target c.args.tables.now.pools) c.target_at.ensures ∙ sequential_seen c.args.file c.args.scratch.now (inv_of c.args.tables.now)
