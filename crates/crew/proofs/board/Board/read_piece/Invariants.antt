use Rattle.steps.specs.Calls.{piece_of}
use Rattle.steps.specs.Events.{event}
use Rattle.steps.specs.Events.Deed.{ReadPiece}
use Rattle.crew.proofs.board.Board.read_piece.Given as goal

-- the read that was made
abbrev pub ghosts-tell : goal.ghosts-tell
ghosts-tell g a = record { told = event a.n (ReadPiece a.about.now.object a.about.now.kept.now a.about.now.from a.about.now.offset a.about.now.wanted (piece_of a.answer.now.answer.now a.answer.now.into.now)) }
