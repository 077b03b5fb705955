use Rattle.std.proofs.Common.{◌≡◌, ◌+◌, [], ◌++◌, drop, length, length-append, take, sym, ap, arith}
use Rattle.std.proofs.lemmas.List.{take-append-le}
use Rattle.volume_audits.proofs.Looked.{next-none, next-read, next-refused}
use Rattle.volume_audits.proofs.looking.next_piece.Goals as goal

pub returns-in-Err-clause-reads : goal.returns-in-Err-clause-reads
returns-in-Err-clause-reads g c = next-refused g.P.Stepper.did c.args.p.now c.read_piece.new.self c.args.line.now c.args.at _ [] c.in-Err.refusal c.in-Err.ensures.does

pub returns-then-count-eq0-clause-reads : goal.returns-then-count-eq0-clause-reads
returns-then-count-eq0-clause-reads g c =
    next-none g.P.Stepper.did c.args.p.now c.read_piece.new.self c.args.line.now c.args.at _ [] (take c.in-Ok.count c.read_piece.new.into) c.in-Ok.ensures.does (ap (λ n. take n c.read_piece.new.into) c.if-count-eq0.true)

pub returns-clause-reads : goal.returns-clause-reads
returns-clause-reads g c =
    next-read g.P.Stepper.did c.args.p.now c.read_piece.new.self c.args.line.now c.args.at _ c.in-Ok.count (c.read_piece.new.into ++ drop c.min-room.result c.args.buffer.now) (take c.in-Ok.count c.read_piece.new.into) c.in-Ok.ensures.does
    (sym (take-append-le c.in-Ok.count c.read_piece.new.into (drop c.min-room.result c.args.buffer.now) c.in-Ok.ensures.within)) (omega (arith, c.if-count-eq0.false))
    (let long : length (c.read_piece.new.into ++ drop c.min-room.result c.args.buffer.now) ≡ length c.read_piece.new.into + length (drop c.min-room.result c.args.buffer.now) = length-append c.read_piece.new.into (drop c.min-room.result c.args.buffer.now) in omega (arith, long, c.in-Ok.ensures.within))
