use Rattle.steps.specs.Events.{event}
use Rattle.steps.specs.Events.Deed.{WritePiece}
use Rattle.crew.proofs.board.Board.write_hashed.Given as goal

-- the piece that was written
abbrev pub ghosts-tell : goal.ghosts-tell
ghosts-tell g a = record { told = event a.n (WritePiece a.about.now.ticket a.about.now.bytes.now a.answer.now) }
