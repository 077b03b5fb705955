use Rattle.std.proofs.Common.{◌≡◌, ◌+◌, Option, IfSome, take, drop, length-take-le, subst, ◌∙◌, arith}
use Rattle.steps.specs.Calls.{Call}
use Rattle.client_trees.specs.Files.{ClientFile, Files}
use Rattle.client_files.specs.Reading.{file_of}
use Rattle.client_files.proofs.Filling.{Sent, copies-unwritten, next_of, sent-more}
use Rattle.client_files.proofs.sending.copy_bytes.Goals as goal

pub returns-in-Err-write_piece-clause-copies : goal.returns-in-Err-write_piece-clause-copies
returns-in-Err-write_piece-clause-copies g c =
    copies-unwritten g.P.Stepper.did g.met.P.Stepper.goes_on c.args.p.now c.pieces.p c.write_piece.new.self (file_of (g.T.Tree.files c.args.tree.now) c.args.path.now) c.args.ticket c.args.size
    c.pieces.done c.pieces.hasher (g.T.Tree.fault_count c.args.tree.now) (g.T.Tree.fault_count c.next_piece.new.tree) (take c.in-Ok.count c.next_piece.new.buffer) c.in-Err-write_piece.refusal
    c.unwritten.result c.pieces.invariant.sent (omega (arith, c.pieces-test.true)) c.in-Err-write_piece.ensures c.unwritten.ensures

pub pieces-preserved : goal.pieces-preserved
pieces-preserved g c =
    let file : Option ClientFile = file_of (g.T.Tree.files c.args.tree.now) c.args.path.now in
    let buffer = c.next_piece.new.buffer in
    let count = c.in-Ok.count in
    let reads = c.in-Ok.ensures.reads in
    let next : IfSome file (λ f. take count buffer ≡ take count (drop c.pieces.done f.bytes)) =
    subst (λ (told : Option Files). IfSome (file_of told c.args.path.now) (λ f. take count buffer ≡ take count (drop c.pieces.done f.bytes))) c.pieces.invariant.kept reads.3 in
    let more = sent-more g.P.Stepper.did g.met.P.Stepper.goes_on c.args.p.now c.pieces.p c.write_piece.new.self file c.args.ticket c.pieces.done c.in-Ok-write_piece.field-0 (take count buffer)
    c.pieces.hasher c.update.new.self c.pieces.invariant.sent c.in-Ok-write_piece.ensures (next_of file buffer c.pieces.done count reads.1 next) c.update.ensures in
    record {
      sent = subst (λ k. Call g.P.Stepper.did c.args.p.now c.write_piece.new.self (λ events. Sent file c.args.ticket (c.pieces.done + k) c.update.new.self events)) (length-take-le count buffer
          reads.1) more;
      within = reads.2;
      kept = c.next_piece.ensures.kept ∙ c.pieces.invariant.kept;
      rises = omega (arith, c.next_piece.ensures.rises, c.pieces.invariant.rises);
      long = c.next_piece.ensures.long ∙ c.pieces.invariant.long;
    }
