use Rattle.hall.proofs.parts.Parts.commit.Goals as goal

pub invariant_of-self : goal.invariant_of-self
invariant_of-self g c = (c.join.ensures.keeps c.self.inside.base c.self.invariant.0, c.lose.ensures _ _)
