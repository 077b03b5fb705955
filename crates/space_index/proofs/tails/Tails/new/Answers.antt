use Rattle.space_index.proofs.tails.Tails.new.Goals as goal

pub returns-clause-lists : goal.returns-clause-lists
returns-clause-lists c = c.new.ensures _
