use Rattle.std.proofs.Common.{List, ◌∷◌, ◌++◌, [], ap, arith, ◌∙◌}
use Rattle.client_files.specs.declared.outcome.Came.{Came}
use Rattle.client_batches.proofs.Dropping.{same_at}
use Rattle.client_batches.proofs.Filled.{held_more, held_same}
use Rattle.client_batches.proofs.Sealed.{seals-ended, seals-next, seals-wanting}
use Rattle.client_batches.proofs.sealing.seal_each.Goals as goal

pub returns-in-Err-clause-seals : goal.returns-in-Err-clause-seals
returns-in-Err-clause-seals g c =
    seals-wanting g.P.Stepper.did c.args.p.now c.came.p c.args.came.now c.came.it-index c.came.sealed.items c.make_room.new.came.items c.in-Err.refusal c.in-Err.ensures.memory c.came.invariant.seals

pub returns-in-Err-clause-held : goal.returns-in-Err-clause-held
returns-in-Err-clause-held g c =
    held_same c.came.sealed.items c.make_room.new.came.items c.came.held.items c.make_room.new.held.items c.make_room.ensures.came c.came.invariant.held c.make_room.ensures.held

pub returns-in-Err-seal_one-clause-seals : goal.returns-in-Err-seal_one-clause-seals
returns-in-Err-seal_one-clause-seals g c =
    seals-ended g.P.Stepper.did g.met.P.Stepper.goes_on c.args.p.now c.came.p c.seal_one.new.p c.args.came.now c.came.it-index _ c.came.sealed.items c.make_room.new.came.items c.in-Err-seal_one.refusal
    (omega (arith, c.came-test.true)) (same_at c.args.came.now c.came.it-index _ (omega (arith, c.came-test.true))) c.came.invariant.seals c.in-Err-seal_one.ensures

pub returns-in-Err-seal_one-clause-held : goal.returns-in-Err-seal_one-clause-held
returns-in-Err-seal_one-clause-held g c =
    held_same c.came.sealed.items c.make_room.new.came.items c.came.held.items c.make_room.new.held.items c.make_room.ensures.came c.came.invariant.held c.make_room.ensures.held

pub came-preserved : goal.came-preserved
came-preserved g c =
    let it = c.in-Ok-seal_one.behind in
    let more = c.keep_sealed.ensures.sealed ∙ ap (λ (cs : List Came). cs ++ it ∷ []) c.make_room.ensures.came in
    record {
      seals = seals-next g.P.Stepper.did g.met.P.Stepper.goes_on c.args.p.now c.came.p c.seal_one.new.p c.args.came.now c.came.it-index _ c.came.sealed.items c.keep_sealed.new.sealed.items it
          (omega (arith, c.came-test.true)) (same_at c.args.came.now c.came.it-index _ (omega (arith, c.came-test.true))) more c.came.invariant.seals c.in-Ok-seal_one.ensures;
      held = held_more c.came.sealed.items c.keep_sealed.new.sealed.items c.came.held.items c.make_room.new.held.items c.keep_sealed.new.held.items it more c.came.invariant.held c.make_room.ensures.held c.keep_sealed.ensures.held;
    }
