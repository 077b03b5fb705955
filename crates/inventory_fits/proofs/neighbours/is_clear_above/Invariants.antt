use Rattle.std.specs.BTreeMap.Range.{entries_between}
use Rattle.std.specs.declared.ops.Bound.TheVariants.{Included, Unbounded}
use Rattle.inventory_rows.specs.volume_rows.Held.{held_cmp}
use Rattle.inventory_fits.proofs.Ahead.{AreLeft}
use Rattle.inventory_fits.proofs.neighbours.is_clear_above.Given as goal

abbrev pub invariant-held : goal.invariant-held
invariant-held l = AreLeft l.moved l.number l.sequential l.segment (entries_between held_cmp (Included l.fn.start) Unbounded l.held.entries) l.there-iterator
