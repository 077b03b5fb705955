use Rattle.std.proofs.Common.{◌≡◌, List, [], ◌∷◌, ℕ, length, refl, arith}
use Rattle.space_index.proofs.Listings.{own_end}
use Rattle.space_index.proofs.by_pool.Listing.is_empty.Goals as goal

no_length : (l : List (ℕ × ℕ)) → length l ≡ 0 → l ≡ []
no_length [] h = refl
no_length (e ∷ l) h = absurd (omega (arith, h))

pub returns : goal.returns
returns c = λ homes is none. own_end c.args.self.now homes is (no_length c.args.self.now.homes.entries (c.is_empty.ensures.0 none))
