use Rattle.std.proofs.Common.{◌+◌}
use Rattle.hall.proofs.Apart.{ticket_beside}
use Rattle.hall.proofs.Writing.{pends_by, written_beside}
use Rattle.hall.proofs.laws.frame_is_written_beside.Goals as goal

pub returns-clause-written : goal.returns-clause-written
returns-clause-written c = λ m held h new pool number s running few k b w.
    written_beside m held h new pool number s k b w running few (pends_by held.vault s.file s.offset (32 + s.len) h new b.volume.0 w c.pending.ensures.stays)

pub returns-clause-beside : goal.returns-clause-beside
returns-clause-beside c = λ core front back t ahead beyond s tickets segments space numbers. ticket_beside core front t back ahead s beyond tickets segments space numbers
