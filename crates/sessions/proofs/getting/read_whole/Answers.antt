use Rattle.std.proofs.Common.{◌≡◌, ℕ, ◌+◌, List, length, Ok, sym, subst, ◌∙◌, arith}
use Rattle.steps.specs.Calls.{Call}
use Rattle.sessions.proofs.Got.{counted-more, read-more, reads-broken, reads-whole}
use Rattle.sessions.specs.Getting.{ReadsWhole}
use Rattle.sessions.proofs.getting.read_whole.Goals as goal

pub returns-in-Err : goal.returns-in-Err
returns-in-Err g c =
    reads-broken g.P.Stepper.did g.met.P.Stepper.goes_on c.args.p.now c.pieces.p c.take_piece.new.p c.args.stored.now c.pieces.done c.pieces.bytes.items c.take_piece.new.into.items c.in-Err.refusal
    c.pieces.invariant.count (omega (arith, c.pieces-test.true)) c.pieces.invariant.read c.in-Err.ensures.takes

pub pieces-preserved : goal.pieces-preserved
pieces-preserved g c =
    let longer : length c.take_piece.new.into.items ≡ length c.pieces.bytes.items + c.in-Ok.count =
    counted-more g.P.Stepper.did c.pieces.p c.take_piece.new.p c.args.stored.now c.pieces.done c.in-Ok.count c.pieces.bytes.items c.take_piece.new.into.items c.in-Ok.ensures.takes in
    record {
      read = read-more g.P.Stepper.did g.met.P.Stepper.goes_on c.args.p.now c.pieces.p c.take_piece.new.p c.args.stored.now c.pieces.done c.in-Ok.count c.pieces.bytes.items c.take_piece.new.into.items
          c.pieces.invariant.count c.pieces.invariant.read c.in-Ok.ensures.takes;
      count = omega (arith, longer, c.pieces.invariant.count);
      within = c.in-Ok.ensures.end;
      long = c.take_piece.ensures.long ∙ c.pieces.invariant.long;
    }

pub returns : goal.returns
returns g c =
    subst (λ (bytes : List ℕ). Call g.P.Stepper.did c.args.p.now c.pieces.p (λ events. ReadsWhole c.args.stored.now events (Ok bytes))) (sym c.from_vec.ensures)
    (reads-whole g.P.Stepper.did c.args.p.now c.pieces.p c.args.stored.now c.pieces.bytes.items (omega (arith, c.pieces-test.false, c.pieces.invariant.count, c.pieces.invariant.within)) c.pieces.invariant.read)
