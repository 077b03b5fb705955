use Rattle.std.proofs.Common.{◌≡◌, drop}
use Rattle.std.specs.List.{list_all}
use Rattle.item_refusals.proofs.apart.differs_from_all.Given as goal

abbrev pub invariant-others : goal.invariant-others
invariant-others g l = list_all (g.T.Apart.differs l.item) l.others ≡ list_all (g.T.Apart.differs l.item) (drop l.other-index l.others)
