use Rattle.std.proofs.Common.{◌∙◌, sym, ap}
use Rattle.space_index.specs.Claimed.{greatest}
use Rattle.space_index.proofs.Bags.{greatest_last}
use Rattle.space_index.proofs.bag.Bag.greatest.Goals as goal

pub returns-in-Some : goal.returns-in-Some
returns-in-Some c = sym (greatest_last c.self.inside.counts.entries c.in-Some.number.now c.in-Some.field-0-1.now c.in-Some.ensures.last) ∙ ap greatest c.self.view_is
