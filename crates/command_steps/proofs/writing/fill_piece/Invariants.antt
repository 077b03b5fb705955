use Rattle.std.proofs.Common.{◌≡◌, take}
use Rattle.command_steps.specs.Writing.{counted}
use Rattle.command_steps.proofs.writing.fill_piece.Given as goal

-- the front of the piece has these bytes
abbrev pub invariant-bytes : goal.invariant-bytes
invariant-bytes l = take l.place l.piece ≡ counted l.fn.fill l.fn.at l.place
