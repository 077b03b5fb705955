use Rattle.std.proofs.Common.{◌≡◌, ◌+◌, [], ◌++◌, drop, length, length-append, take, sym, ap, arith}
use Rattle.std.proofs.lemmas.List.{take-append-le}
use Rattle.client_files.proofs.Giving.{moves-none, moves-refused, moves-unwritten}
use Rattle.client_files.proofs.restoring.next_piece.Goals as goal

pub returns-in-Err-clause-moves : goal.returns-in-Err-clause-moves
returns-in-Err-clause-moves g c =
    moves-refused g.P.Stepper.did c.args.p.now c.read_piece.new.self c.args.stored.now c.args.path.now c.args.at (g.T.Tree.fault_count c.args.tree.now) (g.T.Tree.fault_count c.args.tree.now) _
    (g.T.Tree.files c.args.tree.now) [] c.in-Err.refusal c.in-Err.ensures.does

pub returns-then-count-eq0-clause-moves : goal.returns-then-count-eq0-clause-moves
returns-then-count-eq0-clause-moves g c =
    moves-none g.P.Stepper.did c.args.p.now c.read_piece.new.self c.args.stored.now c.args.path.now c.args.at (g.T.Tree.fault_count c.args.tree.now) (g.T.Tree.fault_count c.args.tree.now) _
    (g.T.Tree.files c.args.tree.now) [] (take c.in-Ok.count c.read_piece.new.into) c.in-Ok.ensures.does (ap (λ n. take n c.read_piece.new.into) c.if-count-eq0.true)

pub returns-in-Err-append-clause-moves : goal.returns-in-Err-append-clause-moves
returns-in-Err-append-clause-moves g c =
    moves-unwritten g.P.Stepper.did c.args.p.now c.read_piece.new.self c.args.stored.now c.args.path.now c.args.at (g.T.Tree.fault_count c.args.tree.now) (g.T.Tree.fault_count c.append.new.self) _
    c.in-Ok.count (g.T.Tree.files c.args.tree.now) (g.T.Tree.files c.append.new.self) (c.read_piece.new.into ++ drop c.min-room.result c.args.buffer.now) (take c.in-Ok.count c.read_piece.new.into) c.in-Ok.ensures.does
    (sym (take-append-le c.in-Ok.count c.read_piece.new.into (drop c.min-room.result c.args.buffer.now) c.in-Ok.ensures.within)) (omega (arith, c.if-count-eq0.false))
    (let long : length (c.read_piece.new.into ++ drop c.min-room.result c.args.buffer.now) ≡ length c.read_piece.new.into + length (drop c.min-room.result c.args.buffer.now) = length-append c.read_piece.new.into (drop c.min-room.result c.args.buffer.now) in omega (arith, long, c.in-Ok.ensures.within))
    c.in-Err-append.ensures.cause.rose c.in-Err-append.ensures.files.1
