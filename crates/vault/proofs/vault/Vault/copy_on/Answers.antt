use Rattle.std.proofs.Common.{◌≡◌, ◌∙◌, ◌+◌, inr, Option, Some, IfSome, IsSome, ap, sym, subst}
use Rattle.store_api.proofs.Runs.{told_map}
use Rattle.vault.specs.Pieces.{AllCounted, AllOrderly, Pending}
use Rattle.vault.specs.Vaults.{State, with_pending, with_fault}
use Rattle.vault.proofs.Checkpointing.{of_ours}
use Rattle.vault.proofs.Counting.{counted_copied}
use Rattle.vault.proofs.Leading.{told_not_pieced, pieced_extended, pieced_not_extended}
use Rattle.vault.proofs.vault.Vault.copy_on.Goals as goal

pub returns-in-Err-clause-told : goal.returns-in-Err-clause-told
returns-in-Err-clause-told g c = told_not_pieced (g.S.Store.told c.args.store.now) g.D.Database.meaning c.args.self.now c.args.self.now _

pub returns-in-Ok-copy_batch-clause-told : goal.returns-in-Ok-copy_batch-clause-told
returns-in-Ok-copy_batch-clause-told g c =
    let m = g.D.Database.meaning in
    let inside = c.self.inside in
    let vault = c.args.self.now in
    let generations : inside.generation ≡ vault.generation = ap (λ (v : State g.row.D.Denot). v.generation) c.self.view_is in
    let there : vault.pending ≡ Some c.in-Some.checkpoint = sym (ap (λ (v : State g.row.D.Denot). v.pending) c.self.view_is) ∙ sym c.take.ensures.value ∙ c.in-Some.is in
    let begun : IsSome c.in-Some.checkpoint.log × (c.in-Some.checkpoint.copied ≡ c.args.copied) = subst (λ (o : Option Pending). IfSome o (λ p. IsSome p.log × (p.copied ≡ c.args.copied))) there c.requires.begun in
    let journals = c.deref.ensures.value ∙ ap (λ (v : State g.row.D.Denot). v.journal) c.self.view_is in
    told_map _ _ _ _ (λ h n extended. pieced_extended m vault inside.generation generations c.in-Some.checkpoint c.copy_batch.new.checkpoint _ h n _ _ c.in-Ok-copy_batch.field-0 there c.in-Ok-copy_batch.ensures.same.1 (ap (λ (v : State g.row.D.Denot). with_pending v (Some c.copy_batch.new.checkpoint)) c.self.view_is)
    c.deref.result.now journals c.args.copied begun.1 c.in-Ok.ensures.batch c.in-Ok.ensures.fits c.in-Ok.ensures.place extended) c.in-Ok-copy_batch.ensures.told

pub returns-clause-told : goal.returns-clause-told
returns-clause-told g c =
    let m = g.D.Database.meaning in
    let inside = c.self.inside in
    let vault = c.args.self.now in
    let generations : inside.generation ≡ vault.generation = ap (λ (v : State g.row.D.Denot). v.generation) c.self.view_is in
    told_map _ _ _ _ (λ h n extended. pieced_not_extended m vault inside.generation generations c.in-Some.checkpoint c.copy_batch.new.checkpoint c.halt.new.self h n _ _ c.in-Err-copy_batch.file c.halt.result extended) c.in-Err-copy_batch.ensures.told

pub returns-clause-err : goal.returns-clause-err
returns-clause-err g c =
    let inside = c.self.inside in
    let vault = c.args.self.now in
    inr (
      c.requires.sure,
      (
        c.in-Err-copy_batch.file,
        of_ours (inside.generation + 1) c.in-Err-copy_batch.file c.in-Err-copy_batch.ensures.cause.0,
        c.halt.ensures.refusal,
        c.in-Err-copy_batch.ensures.cause.1,
        (vault.forced, vault.sure, c.halt.ensures.new ∙ ap (λ (v : State g.row.D.Denot). with_fault v c.in-Err-copy_batch.file (g.S.Store.faults_of c.copy_batch.new.store c.in-Err-copy_batch.file)) c.self.view_is),
      ),
    )

pub invariant_of-self-in-Ok-copy_batch : goal.invariant_of-self-in-Ok-copy_batch
invariant_of-self-in-Ok-copy_batch g c =
    let inside = c.self.inside in
    let vault = c.args.self.now in
    let inside_there : inside.pending ≡ Some c.in-Some.checkpoint = sym c.take.ensures.value ∙ c.in-Some.is in
    let there : vault.pending ≡ Some c.in-Some.checkpoint = sym (ap (λ (v : State g.row.D.Denot). v.pending) c.self.view_is) ∙ inside_there in
    let begun : IsSome c.in-Some.checkpoint.log × (c.in-Some.checkpoint.copied ≡ c.args.copied) = subst (λ (o : Option Pending). IfSome o (λ p. IsSome p.log × (p.copied ≡ c.args.copied))) there c.requires.begun in
    let orderly = subst (AllOrderly (inside.generation + 1)) inside_there c.self.invariant.orderly in
    let counted = subst (AllCounted inside.journal.items) inside_there c.self.invariant.counted in
    let same = c.in-Ok-copy_batch.ensures.same in
    record {
      file = c.self.invariant.file;
      sure = c.self.invariant.sure;
      short = c.self.invariant.short;
      orderly = c.in-Ok-copy_batch.ensures.orderly;
      counted = counted_copied inside.journal.items c.deref.result.now c.in-Some.checkpoint c.copy_batch.new.checkpoint c.args.copied c.in-Ok.found.1 c.in-Ok.found.0 c.deref.ensures.value
          orderly.0.ordered counted begun.1 (same.1, same.2) c.in-Ok.ensures.place c.in-Ok.ensures.batch c.in-Ok-copy_batch.ensures.longer;
    }
