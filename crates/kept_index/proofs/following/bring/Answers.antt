use Rattle.std.proofs.Common.{subst}
use Rattle.pool_rows.specs.PoolRows.{PoolRows}
use Rattle.kept_index.specs.Following.{IsUnderway}
use Rattle.kept_index.proofs.following.bring.Goals as goal

pub returns : goal.returns
returns g c = λ s full claims is made kinds.
    let remains = c.in_ok-put_items.ensures claims full (c.in_ok-make_all.ensures claims full _ (record { rows = s; is = is; rest = made; kinds = kinds })) in
    subst (λ (t : PoolRows). IsUnderway c.put_items.new.index claims t c.args.pools.now) remains.rest remains.is
