use Rattle.std.proofs.Common.{false, Option, [], ◌∷◌, ◌++◌, ap, rules, sym, ◌∙◌}
use Rattle.kinds.specs.declared.refusal.Refusal.{Refusal}
use Rattle.client_batches.specs.Verdicts.{verdicts, waiting}
use Rattle.client_batches.proofs.Settled.{settled-held, settled-never, settled-next, settled-whole}
use Rattle.client_batches.proofs.settling.settle.Goals as goal

pub returns-then-stop-clause-ok : goal.returns-then-stop-clause-ok
returns-then-stop-clause-ok c =
    settled-whole c.came.settled.items c.came.some c.came.came_left.now c.in-Some.more.now c.came.sealed_left.now c.in-Some.it.now c.came.outs_left.now
    (c.args.settled.now.items ++ verdicts false c.args.came.now c.args.sealed.now c.args.outs.now) (waiting false c.args.came.now) c.in-Some.ensures.cases.0 (sym c.waits-stop.ensures ∙ c.if-stop.true) c.came.invariant

pub returns-then-stop-clause-holder : goal.returns-then-stop-clause-holder
returns-then-stop-clause-holder c =
    c.holder_of.ensures ∙ settled-held c.came.settled.items c.came.some c.came.came_left.now c.in-Some.more.now c.came.sealed_left.now c.in-Some.it.now c.came.outs_left.now
    (c.args.settled.now.items ++ verdicts false c.args.came.now c.args.sealed.now c.args.outs.now) (waiting false c.args.came.now) c.in-Some.ensures.cases.0 (sym c.waits-stop.ensures ∙ c.if-stop.true) c.came.invariant

pub returns-in-None-clause-ok : goal.returns-in-None-clause-ok
returns-in-None-clause-ok c =
    absurd (settled-never c.came.settled.items c.came.some c.came.came_left.now c.in-Some.more.now c.came.sealed_left.now c.in-Some.it.now c.came.outs_left.now
    (c.args.settled.now.items ++ verdicts false c.args.came.now c.args.sealed.now c.args.outs.now) (waiting false c.args.came.now) c.in-Some.ensures.cases.0 c.in-None.ensures.cases c.came.invariant)

pub returns-in-None-clause-holder : goal.returns-in-None-clause-holder
returns-in-None-clause-holder c =
    absurd (settled-never c.came.settled.items c.came.some c.came.came_left.now c.in-Some.more.now c.came.sealed_left.now c.in-Some.it.now c.came.outs_left.now
    (c.args.settled.now.items ++ verdicts false c.args.came.now c.args.sealed.now c.args.outs.now) (waiting false c.args.came.now) c.in-Some.ensures.cases.0 c.in-None.ensures.cases c.came.invariant)

pub came-preserved : goal.came-preserved
came-preserved c =
    settled-next c.came.settled.items c.push.new.self.items c.came.some _ c.came.came_left.now c.in-Some.more.now c.came.sealed_left.now c.in-Some-split_first.others.now c.in-Some.it.now c.in-Some-split_first.behind.now
    c.came.outs_left.now c.left_behind-outs_left.result.now (c.args.settled.now.items ++ verdicts false c.args.came.now c.args.sealed.now c.args.outs.now) (waiting false c.args.came.now) c.in-Some.ensures.cases.0
    c.in-Some-split_first.ensures.cases.0 (sym c.waits-stop.ensures ∙ c.if-stop.false) (c.in_ok-push-in-Some-split_first.ensures.items ∙ ap (λ (o : Option Refusal). c.came.settled.items ++ o ∷ []) c.verdict.ensures)
    c.left_behind-outs_left.ensures (search rules) c.came.invariant
