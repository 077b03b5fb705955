use Rattle.std.proofs.Common.{◌≡◌, ◌+◌, ◌++◌, ◌∷◌, [], ◌∙◌, ℕ, nat_le, true, false, List, length, ap, arith, refl, sym}
use Rattle.client_files.specs.declared.outcome.Came.{Came}
use Rattle.client_batches.proofs.Filled.{full_of, held_more, held_same, most_more, most_same, none_next, sends-ended, sends-full, sends-next, sends-paused, sends-wanting}
use Rattle.client_batches.proofs.sending.send_each.Goals as goal

pub returns-then-full-clause-sends : goal.returns-then-full-clause-sends
returns-then-full-clause-sends g c =
    let full : nat_le 32 (length c.lines.held.items) ≡ true =
    sym (c.is_full-full.ensures ∙ ap (λ (ts : List ℕ). nat_le 32 (length ts)) c.as_slice.ensures.value) ∙ c.if-full.true in
    sends-full g.P.Stepper.did c.args.p.now c.lines.p c.args.classes.now (g.T.Tree.files c.args.tree.now) c.args.lines.now c.lines.line-index c.lines.came.items c.lines.held.items
    (g.T.Tree.fault_count c.args.tree.now) (g.T.Tree.fault_count c.lines.tree) c.lines.invariant.free c.lines.invariant.held (full_of c.lines.held.items full) c.lines.invariant.sends

pub returns-in-Err-clause-sends : goal.returns-in-Err-clause-sends
returns-in-Err-clause-sends g c =
    sends-wanting g.P.Stepper.did c.args.p.now c.lines.p c.args.classes.now (g.T.Tree.files c.args.tree.now) c.args.lines.now c.lines.line-index c.lines.came.items c.make_room.new.came.items
    c.in-Err.refusal (g.T.Tree.fault_count c.args.tree.now) (g.T.Tree.fault_count c.lines.tree) c.in-Err.ensures.memory c.make_room.ensures.came c.lines.invariant.sends

pub returns-in-Err-clause-held : goal.returns-in-Err-clause-held
returns-in-Err-clause-held g c =
    held_same c.lines.came.items c.make_room.new.came.items c.lines.held.items c.make_room.new.held.items c.make_room.ensures.came c.lines.invariant.held c.make_room.ensures.held

pub returns-in-Err-clause-most : goal.returns-in-Err-clause-most
returns-in-Err-clause-most g c = most_same c.lines.held.items c.make_room.new.held.items c.make_room.ensures.held c.lines.invariant.most

pub returns-in-Err-send_one-clause-sends : goal.returns-in-Err-send_one-clause-sends
returns-in-Err-send_one-clause-sends g c =
    sends-ended g.P.Stepper.did g.met.P.Stepper.goes_on c.args.p.now c.lines.p c.send_one.new.p c.args.classes.now (g.T.Tree.files c.args.tree.now) (g.T.Tree.files c.lines.tree) c.args.lines.now
    c.lines.line-index c.line-item.result c.lines.came.items c.make_room.new.came.items c.in-Err-send_one.refusal (g.T.Tree.fault_count c.args.tree.now) (g.T.Tree.fault_count c.lines.tree)
    (g.T.Tree.fault_count c.send_one.new.tree) (omega (arith, c.lines-test.true)) c.line-item.is c.lines.invariant.kept c.make_room.ensures.came c.lines.invariant.sends c.in-Err-send_one.ensures.sends

pub returns-in-Err-send_one-clause-held : goal.returns-in-Err-send_one-clause-held
returns-in-Err-send_one-clause-held g c =
    held_same c.lines.came.items c.make_room.new.came.items c.lines.held.items c.make_room.new.held.items c.make_room.ensures.came c.lines.invariant.held c.make_room.ensures.held

pub returns-in-Err-send_one-clause-most : goal.returns-in-Err-send_one-clause-most
returns-in-Err-send_one-clause-most g c = most_same c.lines.held.items c.make_room.new.held.items c.make_room.ensures.held c.lines.invariant.most

pub returns-then-stop-clause-sends : goal.returns-then-stop-clause-sends
returns-then-stop-clause-sends g c =
    let it = c.in-Ok-send_one.it in
    let more = c.keep-stop.ensures.came ∙ ap (λ (cs : List Came). cs ++ it ∷ []) c.make_room.ensures.came in
    let next = sends-next g.P.Stepper.did g.met.P.Stepper.goes_on c.args.p.now c.lines.p c.send_one.new.p c.args.classes.now (g.T.Tree.files c.args.tree.now) (g.T.Tree.files c.lines.tree) c.args.lines.now
    c.lines.line-index c.line-item.result c.lines.came.items (c.lines.came.items ++ it ∷ []) it (g.T.Tree.fault_count c.args.tree.now) (g.T.Tree.fault_count c.lines.tree)
    (g.T.Tree.fault_count c.send_one.new.tree) (omega (arith, c.lines-test.true)) c.line-item.is c.lines.invariant.kept refl c.lines.invariant.sends c.in-Ok-send_one.ensures.sends in
    sends-paused g.P.Stepper.did c.args.p.now c.send_one.new.p c.args.classes.now (g.T.Tree.files c.args.tree.now) c.args.lines.now (c.lines.line-index + 1) c.lines.came.items c.keep-stop.new.came.items it
    c.make_room.new.held.items (g.T.Tree.fault_count c.args.tree.now) (g.T.Tree.fault_count c.send_one.new.tree) c.lines.invariant.free (c.make_room.ensures.held ∙ c.lines.invariant.held)
    (sym c.keep-stop.ensures.stop ∙ c.if-stop.true) more next

pub returns-then-stop-clause-held : goal.returns-then-stop-clause-held
returns-then-stop-clause-held g c =
    held_more c.lines.came.items c.keep-stop.new.came.items c.lines.held.items c.make_room.new.held.items c.keep-stop.new.held.items c.in-Ok-send_one.it
    (c.keep-stop.ensures.came ∙ ap (λ (cs : List Came). cs ++ c.in-Ok-send_one.it ∷ []) c.make_room.ensures.came) c.lines.invariant.held c.make_room.ensures.held c.keep-stop.ensures.held

pub returns-then-stop-clause-most : goal.returns-then-stop-clause-most
returns-then-stop-clause-most g c =
    let free : nat_le 32 (length c.lines.held.items) ≡ false =
    sym (c.is_full-full.ensures ∙ ap (λ (ts : List ℕ). nat_le 32 (length ts)) c.as_slice.ensures.value) ∙ c.if-full.false in
    most_more c.lines.held.items c.make_room.new.held.items c.keep-stop.new.held.items c.in-Ok-send_one.it c.make_room.ensures.held free c.keep-stop.ensures.held

pub lines-preserved : goal.lines-preserved
lines-preserved g c =
    let it = c.in-Ok-send_one.it in
    let more = c.keep-stop.ensures.came ∙ ap (λ (cs : List Came). cs ++ it ∷ []) c.make_room.ensures.came in
    let free : nat_le 32 (length c.lines.held.items) ≡ false =
    sym (c.is_full-full.ensures ∙ ap (λ (ts : List ℕ). nat_le 32 (length ts)) c.as_slice.ensures.value) ∙ c.if-full.false in
    record {
      sends = sends-next g.P.Stepper.did g.met.P.Stepper.goes_on c.args.p.now c.lines.p c.send_one.new.p c.args.classes.now (g.T.Tree.files c.args.tree.now) (g.T.Tree.files c.lines.tree) c.args.lines.now
          c.lines.line-index c.line-item.result c.lines.came.items c.keep-stop.new.came.items it (g.T.Tree.fault_count c.args.tree.now) (g.T.Tree.fault_count c.lines.tree)
          (g.T.Tree.fault_count c.send_one.new.tree) (omega (arith, c.lines-test.true)) c.line-item.is c.lines.invariant.kept more c.lines.invariant.sends c.in-Ok-send_one.ensures.sends;
      free = none_next c.lines.came.items c.keep-stop.new.came.items c.lines.held.items c.make_room.new.held.items it c.lines.invariant.free c.lines.invariant.held c.make_room.ensures.held more
          (sym c.keep-stop.ensures.stop ∙ c.if-stop.false);
      held = held_more c.lines.came.items c.keep-stop.new.came.items c.lines.held.items c.make_room.new.held.items c.keep-stop.new.held.items it more c.lines.invariant.held c.make_room.ensures.held c.keep-stop.ensures.held;
      most = most_more c.lines.held.items c.make_room.new.held.items c.keep-stop.new.held.items it c.make_room.ensures.held free c.keep-stop.ensures.held;
      kept = c.send_one.ensures.kept ∙ c.lines.invariant.kept;
      rises = omega (arith, c.send_one.ensures.rises, c.lines.invariant.rises);
      long = c.send_one.ensures.long ∙ c.lines.invariant.long;
    }
