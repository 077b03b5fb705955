use Rattle.std.proofs.Common.{◌+◌}
use Rattle.space_index.specs.Index.{shape_at, times_at, tickets_reach}
use Rattle.space_index.specs.Updates.{nothing}
use Rattle.space_index.proofs.Following.{all_index}
use Rattle.space_index.proofs.random.RandomIndex.of.Goals as goal

pub returns : goal.returns
returns c =
    let s = c.args.pools.now in
    let claims = c.args.space.now in
    all_index c.put_freed.new.self s claims
    (c.in_ok-put_freed.ensures (shape_at s) (λ f k. times_at s nothing f k + tickets_reach claims.tickets f k) (c.in_ok-put_tickets.ensures (shape_at s) (times_at s nothing) c.in_ok-index.ensures))
