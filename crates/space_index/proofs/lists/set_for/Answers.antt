use Rattle.std.proofs.Common.{Option, subst, sym, ◌∙◌}
use Rattle.space_index.specs.declared.by_pool.Listing.{Listing}
use Rattle.space_index.specs.Tails.{IsOwnListing}
use Rattle.space_index.proofs.lists.set_for.Goals as goal

pub returns-then-is_empty-clause-here : goal.returns-then-is_empty-clause-here
returns-then-is_empty-clause-here c = λ homes others is same here.
    subst (λ (o : Option Listing). IsOwnListing o others) (sym c.list_of-listing.ensures.gone.here) (c.is_empty.ensures others (c.in_ok-set.ensures homes others (c.list_of-listing.ensures.was homes is) same here) c.if-is_empty.true)

pub returns-then-is_empty-clause-others : goal.returns-then-is_empty-clause-others
returns-then-is_empty-clause-others c = c.list_of-listing.ensures.gone.others

pub returns-clause-here : goal.returns-clause-here
returns-clause-here c = λ homes others is same here.
    subst (λ (o : Option Listing). IsOwnListing o others) (sym c.in_ok-keep.ensures.here) (c.in_ok-set.ensures homes others (c.list_of-listing.ensures.was homes is) same here)

pub returns-clause-others : goal.returns-clause-others
returns-clause-others c = λ q apart. c.in_ok-keep.ensures.others q apart ∙ c.list_of-listing.ensures.gone.others q apart
