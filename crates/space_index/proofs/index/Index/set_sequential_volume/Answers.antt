use Rattle.std.proofs.Common.{refl}
use Rattle.space_index.specs.Tails.{base_at}
use Rattle.space_index.proofs.Following.{stays_unkept}
use Rattle.space_index.proofs.Listings.{bases_else}
use Rattle.space_index.proofs.index.Index.set_sequential_volume.Goals as goal

pub returns : goal.returns
returns c = λ s claims is changes none none-after.
    let t = c.args.pools.now in
    c.in_ok-look_at.ensures t claims (base_at s claims.tickets) (base_at t claims.tickets) (record { random = stays_unkept c.args.self.now.random s t claims c.args.file changes none none-after is.random; tails = is.tails; held = is.held }) (bases_else claims.tickets c.args.file s t changes) refl
