use Rattle.std.proofs.Common.{◌≡◌, ℕ, false, List, length, rules}
use Rattle.store_api.specs.Told.{ReadsFrom}
use Rattle.volume_frames.specs.Frames.{piece}
use Rattle.copy_checks.specs.Copies.{is_header}
use Rattle.copy_checks.proofs.Framing.{header_short}
use Rattle.copy_checks.proofs.Seeing.{saw_reads}
use Rattle.copy_checks.proofs.pieces.has_header.Goals as goal

pub returns-in-Ok-clause-told : goal.returns-in-Ok-clause-told
returns-in-Ok-clause-told g c =
    let s = c.args.segment.now in
    let long : length c.read_piece.new.into ≡ 32 = c.read_piece.ensures.len in
    saw_reads _ _ s.file (λ bytes. ReadsFrom bytes s.offset c.read_piece.new.into c.in-Ok.field-0) (λ image. false ≡ is_header (piece (image s.file) s.offset 32) c.args.object c.args.number s.len)
    (λ image read. header_short (image s.file) c.read_piece.new.into s.offset c.args.object c.args.number s.len c.in-Ok.field-0 long (search rules) read) c.in-Ok.ensures.looked c.in-Ok.ensures.bytes
