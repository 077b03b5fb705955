use Rattle.inventory_bytes.proofs.row_fits.entries_fit.Goals as goal

pub entries-init : goal.entries-init
entries-init g c = rw (c.into_iter-key-iterator.ensures.into_iter_gives, c.iter-key-items.ensures.rest) (record { passed = λ all. all; within = c.requires })
