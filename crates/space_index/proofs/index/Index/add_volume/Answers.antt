use Rattle.std.proofs.Common.{refl}
use Rattle.space_index.specs.Tails.{base_at}
use Rattle.space_index.proofs.Listings.{bases_else}
use Rattle.space_index.proofs.index.Index.add_volume.Goals as goal

pub returns : goal.returns
returns c = λ s claims is changes absent there random free.
    let t = c.args.pools.now in
    c.in_ok-look_at.ensures t claims (base_at s claims.tickets) (base_at t claims.tickets) (record { random = c.in_ok-add_volume.ensures s t claims is.random changes absent there random free; tails = is.tails; held = is.held }) (bases_else claims.tickets c.args.file s t changes) refl
