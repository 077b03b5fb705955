use Rattle.std.proofs.Common.{rules}
use Rattle.volume_frames.proofs.Copies.{header_tested}
use Rattle.copy_checks.proofs.Framing.{header_is}
use Rattle.copy_checks.proofs.pieces.is_header.Goals as goal

pub returns-in-Some : goal.returns-in-Some
returns-in-Some c =
    let named = c.in-Some.named in
    header_is c.args.bytes.now c.args.object c.args.number c.args.len c.eq.result
    (header_tested c.args.bytes.now named.0 named.1 named.2 c.args.object c.args.number c.args.len c.eq.result (search rules) (search rules) (search rules) c.ranges.object.fits c.ranges.number.fits c.ranges.len.fits c.in-Some.ensures.found c.eq.ensures)
