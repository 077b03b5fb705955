use Rattle.std.proofs.Common.{◌∙◌, arith}
use Rattle.volume_audits.proofs.Looked.{read-missed, read-more}
use Rattle.volume_audits.proofs.looking.read_all.Goals as goal

pub returns-in-Err-clause-reads : goal.returns-in-Err-clause-reads
returns-in-Err-clause-reads g c =
    read-missed g.P.Stepper.did g.met.P.Stepper.goes_on c.args.p.now c.pieces.p c.next_piece.new.p c.args.line.now c.pieces.done c.next_piece.new.buffer c.pieces.hasher c.in-Err.refusal
    c.pieces.invariant.read (omega (arith, c.pieces-test.true)) c.in-Err.ensures.reads

pub pieces-preserved : goal.pieces-preserved
pieces-preserved g c = record {
  read = read-more g.P.Stepper.did g.met.P.Stepper.goes_on c.args.p.now c.pieces.p c.next_piece.new.p c.args.line.now c.pieces.done c.in-Ok.count c.next_piece.new.buffer c.pieces.hasher c.update.new.self
      c.pieces.invariant.read c.in-Ok.ensures.reads c.update.ensures;
  within = c.in-Ok.ensures.end;
  long = c.next_piece.ensures.long ∙ c.pieces.invariant.long;
}
