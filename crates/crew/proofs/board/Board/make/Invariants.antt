use Rattle.steps.specs.Events.{event}
use Rattle.crew.proofs.board.Board.make.Given as goal

-- the step that was made
abbrev pub ghosts-tell : goal.ghosts-tell
ghosts-tell g a = record { told = event a.n (g.O.Order.deed a.about.now a.answer.now) }
