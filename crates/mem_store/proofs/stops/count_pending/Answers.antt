use Rattle.std.proofs.Common.{sym, ◌∙◌, ap, ◌∷◌, [], ◌++◌, take, arith}
use Rattle.std.proofs.lemmas.List.{take_more}
use Rattle.mem_store.specs.Stops.{pending_writes, pending_next}
use Rattle.mem_store.proofs.Pending.{pending_step, pending_next_few}
use Rattle.mem_store.proofs.stops.count_pending.Goals as goal

pub calls-preserved : goal.calls-preserved
calls-preserved c =
    let e = c.e-item.result in
    let before = take c.calls.e-index c.args.calls.now in
    record {
      counted = c.pending_after-count.ensures ∙ ap (pending_next e c.args.file) c.calls.invariant.counted ∙ sym (pending_step before e c.args.file)
          ∙ ap (λ x. pending_writes (before ++ x ∷ []) c.args.file) c.e-item.is ∙ ap (λ l. pending_writes l c.args.file) (sym (take_more c.args.calls.now c.calls.e-index e c.calls-test.true));
      few = omega (arith, c.pending_after-count.ensures, pending_next_few e c.args.file c.calls.count, c.calls.invariant.few);
    }
