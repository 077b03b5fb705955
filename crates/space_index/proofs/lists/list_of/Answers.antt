use Rattle.std.proofs.Common.{Option, subst, sym}
use Rattle.space_index.specs.declared.by_pool.Listing.{Listing}
use Rattle.space_index.specs.Tails.{IsOwnListing}
use Rattle.space_index.proofs.Listings.{own_begin}
use Rattle.space_index.proofs.lists.list_of.Goals as goal

pub returns-in-Some-clause-was : goal.returns-in-Some-clause-was
returns-in-Some-clause-was c = λ homes is. subst (λ (o : Option Listing). IsOwnListing o homes) (sym c.in-Some.ensures.value) is

pub returns-in-None-clause-was : goal.returns-in-None-clause-was
returns-in-None-clause-was c = λ homes is. own_begin c.new.result homes (subst (λ (o : Option Listing). IsOwnListing o homes) (sym c.in-None.ensures.value) is) c.new.ensures
