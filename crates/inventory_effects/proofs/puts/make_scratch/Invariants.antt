use Rattle.std.proofs.Common.{drop}
use Rattle.inventory_rows.specs.State.{inv_of}
use Rattle.inventory_rules.specs.Common.{each}
use Rattle.inventory_rules.specs.Segments.{make_scratch, CanScratch}
use Rattle.inventory_effects.proofs.Ways.{Along}
use Rattle.inventory_effects.proofs.puts.make_scratch.Given as goal

abbrev pub invariant-scratch : goal.invariant-scratch
invariant-scratch l =
    Along CanScratch make_scratch (each make_scratch) l.fn.log (inv_of l.fn.tables) (drop l.one-index l.scratch) l.log (inv_of l.tables) (each make_scratch l.fn.scratch (inv_of l.fn.tables))
