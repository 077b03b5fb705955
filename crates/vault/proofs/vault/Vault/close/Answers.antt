use Rattle.std.proofs.Common.{rules, refl, ◌≡◌, ◌∙◌, ◌+◌, ◌≤◌, ℕ, length, Option, Some, IfSome, IsSome, Ok, Err, ap, sym, subst, arith, List}
use Rattle.store_api.proofs.Runs.{told_map}
use Rattle.entries.specs.declared.entry.Entry.{Entry}
use Rattle.vault.specs.Pieces.{AllCounted, AllOrderly, Pending, Finished}
use Rattle.vault.specs.Vaults.{State, at_done, with_fault}
use Rattle.vault.proofs.Checkpointing.{of_ours}
use Rattle.vault.proofs.Counting.{long_done}
use Rattle.vault.proofs.Leading.{pieced_done, pieced_not_done, done_is}
use Rattle.vault.proofs.vault.Vault.close.Goals as goal

pub returns-in-Ok-clause-told : goal.returns-in-Ok-clause-told
returns-in-Ok-clause-told g c =
    let m = g.D.Database.meaning in
    let inside = c.self.inside in
    let vault = c.args.self.now in
    let generations : inside.generation ≡ vault.generation = ap (λ (v : State g.row.D.Denot). v.generation) c.self.view_is in
    let there : vault.pending ≡ Some c.in-Some.checkpoint = sym (ap (λ (v : State g.row.D.Denot). v.pending) c.self.view_is) ∙ sym c.take.ensures.value ∙ c.in-Some.is in
    let begun : IsSome c.in-Some.checkpoint.log × (length vault.journal ≤ c.in-Some.checkpoint.copied) = subst (λ (o : Option Pending). IfSome o (λ p. IsSome p.log × (length vault.journal ≤ p.copied))) there c.requires.begun in
    let all : c.len-self-inside.result ≡ length inside.journal.items = search rules in
    let is = done_is inside.generation inside.forced c.len-self-inside.result inside.log.sure c.in-Ok.log.sure inside.log.end c.in-Ok.log.end inside.database inside.journal.items inside.fault inside.pending c.take.new.self vault c.self.view_is all c.in-Ok.ensures.log.1 (ap (λ (v : State g.row.D.Denot). v.fault) c.self.view_is ∙ c.requires.sure) c.take.ensures.after in
    told_map _ _ _ _ (λ h n finished. pieced_done m vault c.in-Some.checkpoint there begun.1 h n c.in-Ok.log _ is (subst (λ (k : ℕ). Finished {E = ℕ} (k + 1) c.in-Some.checkpoint (Ok c.in-Ok.log) h n) generations finished)) c.in-Ok.ensures.told

pub returns-in-Ok-clause-ok : goal.returns-in-Ok-clause-ok
returns-in-Ok-clause-ok g c =
    let inside = c.self.inside in
    let vault = c.args.self.now in
    let there : vault.pending ≡ Some c.in-Some.checkpoint = sym (ap (λ (v : State g.row.D.Denot). v.pending) c.self.view_is) ∙ sym c.take.ensures.value ∙ c.in-Some.is in
    let begun : IsSome c.in-Some.checkpoint.log × (length vault.journal ≤ c.in-Some.checkpoint.copied) = subst (λ (o : Option Pending). IfSome o (λ p. IsSome p.log × (length vault.journal ≤ p.copied))) there c.requires.begun in
    let all : c.len-self-inside.result ≡ length inside.journal.items = search rules in
    let is = done_is inside.generation inside.forced c.len-self-inside.result inside.log.sure c.in-Ok.log.sure inside.log.end c.in-Ok.log.end inside.database inside.journal.items inside.fault inside.pending c.take.new.self vault c.self.view_is all c.in-Ok.ensures.log.1 (ap (λ (v : State g.row.D.Denot). v.fault) c.self.view_is ∙ c.requires.sure) c.take.ensures.after in
    let inside_there : inside.pending ≡ Some c.in-Some.checkpoint = sym c.take.ensures.value ∙ c.in-Some.is in
    let orderly = subst (AllOrderly (inside.generation + 1)) inside_there c.self.invariant.orderly in
    let journals = ap (λ (v : State g.row.D.Denot). v.journal) c.self.view_is in
    let counted = subst (λ (j : List Entry). AllCounted j (Some c.in-Some.checkpoint)) journals (subst (AllCounted inside.journal.items) inside_there c.self.invariant.counted) in
    let copied : c.in-Some.checkpoint.copied ≡ length vault.journal = omega (arith, begun.1, counted.0) in (
      refl,
      (
        c.in-Some.checkpoint,
        there,
        is ∙ ap (at_done vault) (long_done vault.journal c.in-Some.checkpoint c.in-Ok.log.end begun.0 c.in-Ok.ensures.end orderly.0.ordered copied counted.1),
        orderly.0.durable begun.0,
        copied,
      ),
    )

pub returns-in-Err-clause-told : goal.returns-in-Err-clause-told
returns-in-Err-clause-told g c =
    let m = g.D.Database.meaning in
    let inside = c.self.inside in
    let vault = c.args.self.now in
    let generations : inside.generation ≡ vault.generation = ap (λ (v : State g.row.D.Denot). v.generation) c.self.view_is in
    let there : vault.pending ≡ Some c.in-Some.checkpoint = sym (ap (λ (v : State g.row.D.Denot). v.pending) c.self.view_is) ∙ sym c.take.ensures.value ∙ c.in-Some.is in
    let begun : IsSome c.in-Some.checkpoint.log × (length vault.journal ≤ c.in-Some.checkpoint.copied) = subst (λ (o : Option Pending). IfSome o (λ p. IsSome p.log × (length vault.journal ≤ p.copied))) there c.requires.begun in
    told_map _ _ _ _ (λ h n finished. pieced_not_done m vault c.in-Some.checkpoint there begun.1 h n c.in-Err.file c.halt.result c.halt.new.self (subst (λ (k : ℕ). Finished {E = ℕ} (k + 1) c.in-Some.checkpoint (Err c.in-Err.file) h n) generations finished)) c.in-Err.ensures.told

pub returns-in-Err-clause-err : goal.returns-in-Err-clause-err
returns-in-Err-clause-err g c =
    let inside = c.self.inside in
    let vault = c.args.self.now in (
      c.requires.sure,
      (
        c.in-Err.file,
        of_ours (inside.generation + 1) c.in-Err.file c.in-Err.ensures.cause.0,
        c.halt.ensures.refusal,
        c.in-Err.ensures.cause.1,
        (vault.forced, vault.sure, c.halt.ensures.new ∙ ap (λ (v : State g.row.D.Denot). with_fault v c.in-Err.file (g.S.Store.faults_of c.finish.new.store c.in-Err.file)) c.self.view_is),
      ),
    )
