use Rattle.std.proofs.Common.{refl}
use Rattle.volume_rows.specs.Held.{held_of}
use Rattle.pool_tables.specs.RowChanges.{take}
use Rattle.pool_rows.specs.PoolRows.{is_sequential_at}
use Rattle.space_index.specs.Tails.{base_at}
use Rattle.space_index.proofs.Listings.{bases_else, changed_at}
use Rattle.space_index.proofs.index.Index.take_copy_in.Goals as goal

pub returns : goal.returns
returns c = λ s claims object today is made.
    let t = c.args.pools.now in
    let x = c.args.segment.now in
    c.in_ok-look_at.ensures t claims (base_at s claims.tickets) (base_at t claims.tickets) (c.in_ok-take_copy.ensures.goes s t claims (base_at s claims.tickets) object today is made)
    (bases_else claims.tickets x.file s t (changed_at s t x.file (take (is_sequential_at x.file s) (held_of object x) today) made)) refl
