use Rattle.std.proofs.Common.{◌∙◌, ℕ, Option, sym}
use Rattle.space_index.specs.declared.by_pool.Home.{Home}
use Rattle.space_index.proofs.Listings.{without_home, without_here, without_else}
use Rattle.space_index.proofs.by_pool.Listing.set.Goals as goal

pub returns-in-Some : goal.returns-in-Some
returns-in-Some c = λ homes others is same here.
    let file = c.args.file in
    let gone : ℕ → Option Home = without_home file homes in
    c.enter.ensures gone others (c.strike.ensures homes gone is (without_else file homes) (without_here file homes)) (λ q apart. same q apart ∙ sym (without_else file homes q apart)) (without_here file homes) (here ∙ c.in-Some.is)
