use Rattle.std.proofs.Common.{ap, ◌∙◌}
use Rattle.kinds.specs.Refusals.{foremost, sooner_of}
use Rattle.hall.specs.Commits.{differs}
use Rattle.hall.proofs.Walking.{differ_next}
use Rattle.hall.proofs.parts.Parts.differ.Goals as goal

pub items-preserved : goal.items-preserved
items-preserved g c =
    differ_next g.T.Given.digest c.args.items.now c.args.numbers.now c.items.at c.index-items-at.result c.in-Some.number.now c.args.actor c.args.self.now c.items.found c.sooner_of-found.result _ c.items-test.true
    c.index-items-at.is c.in-Some.ensures.lookup.3.0 c.in-Some.ensures.lookup.1
    (c.sooner_of-found.ensures ∙ ap (sooner_of c.items.found) (c.differs.ensures ∙ (λ i. foremost (differs (c.digest.ensures i) (c.digest_at-kept.ensures i))))) c.items.invariant
