use Rattle.std.proofs.Common.{refl, drop, ◌+◌}
use Rattle.std.proofs.lemmas.Result.{err_from_is_err_and}
use Rattle.inventory_rows.proofs.of_version_groups.Lists.{drop_at}
use Rattle.inventory_rows.specs.State.{inv_of}
use Rattle.inventory_rules.specs.Common.{each}
use Rattle.inventory_rules.specs.Segments.{make_scratch, CanScratch}
use Rattle.inventory_effects.proofs.Loops.{first}
use Rattle.inventory_effects.proofs.Ways.{along_next, keeps_same, keeps_then}
use Rattle.inventory_effects.proofs.puts.make_scratch.Goals as goal

pub scratch-init : goal.scratch-init
scratch-init c = record { under = record { can = c.requires; comes = refl }; way = keeps_same c.args.log.now (inv_of c.args.tables.now) }

pub make_one-requires : goal.make_one-requires
make_one-requires c =
    first CanScratch make_scratch (each make_scratch) (drop c.scratch.one-index c.args.scratch.now) (drop (c.scratch.one-index + 1) c.args.scratch.now) _ (inv_of c.scratch.tables) _
    (drop_at c.args.scratch.now c.scratch.one-index _ c.scratch-test.true) c.scratch.invariant.under

pub scratch-preserved : goal.scratch-preserved
scratch-preserved c =
    along_next CanScratch make_scratch (each make_scratch) (λ x xs s. refl) c.args.log.now (inv_of c.args.tables.now) (drop c.scratch.one-index c.args.scratch.now) (drop (c.scratch.one-index + 1) c.args.scratch.now) _ c.scratch.log c.make_one.new.log (inv_of c.scratch.tables) (inv_of c.make_one.new.tables) _
    (drop_at c.args.scratch.now c.scratch.one-index _ c.scratch-test.true) c.in_ok-make_one.ensures c.scratch.invariant

pub returns-in_err-make_one : goal.returns-in_err-make_one
returns-in_err-make_one c =
    let p = err_from_is_err_and c.from_residual.result c.from_residual.ensures.1 in
    rw (p.1, p.2) (c.in_err-make_one.ensures.0, keeps_then c.scratch.invariant.way c.in_err-make_one.ensures.1)
