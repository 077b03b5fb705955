use Rattle.std.proofs.Common.{refl, drop, ◌+◌}
use Rattle.std.proofs.lemmas.Result.{err_from_is_err_and}
use Rattle.inventory_rows.proofs.of_version_groups.Lists.{drop_at}
use Rattle.inventory_rows.specs.State.{inv_of}
use Rattle.inventory_rules.specs.Segments.{put, CanPut, put_step}
use Rattle.inventory_effects.proofs.Loops.{first}
use Rattle.inventory_effects.proofs.Ways.{along_next, keeps_same, keeps_then}
use Rattle.inventory_effects.proofs.puts.put_all.Goals as goal

pub segments-init : goal.segments-init
segments-init c = record { under = record { can = c.requires; comes = refl }; way = keeps_same c.args.log.now (inv_of c.args.tables.now) }

pub put_one-requires : goal.put_one-requires
put_one-requires c =
    first (CanPut c.args.object) (put_step c.args.object) (put c.args.object) (drop c.segments.segment-index c.args.segments.now) (drop (c.segments.segment-index + 1) c.args.segments.now) _ (inv_of c.segments.tables) _
    (drop_at c.args.segments.now c.segments.segment-index _ c.segments-test.true) c.segments.invariant.under

pub segments-preserved : goal.segments-preserved
segments-preserved c =
    along_next (CanPut c.args.object) (put_step c.args.object) (put c.args.object) (λ x xs s. refl) c.args.log.now (inv_of c.args.tables.now) (drop c.segments.segment-index c.args.segments.now) (drop (c.segments.segment-index + 1) c.args.segments.now) _ c.segments.log c.put_one.new.log (inv_of c.segments.tables) (inv_of c.put_one.new.tables) _
    (drop_at c.args.segments.now c.segments.segment-index _ c.segments-test.true) c.in_ok-put_one.ensures c.segments.invariant

pub returns-in_err-put_one : goal.returns-in_err-put_one
returns-in_err-put_one c =
    let p = err_from_is_err_and c.from_residual.result c.from_residual.ensures.1 in
    rw (p.1, p.2) (c.in_err-put_one.ensures.0, keeps_then c.segments.invariant.way c.in_err-put_one.ensures.1)
