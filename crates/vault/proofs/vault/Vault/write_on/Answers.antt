use Rattle.std.proofs.Common.{◌≡◌, ◌∙◌, ◌+◌, Some, ap, sym}
use Rattle.store_api.proofs.Runs.{told_map}
use Rattle.vault.specs.Vaults.{State, with_pending, with_fault}
use Rattle.vault.proofs.Checkpointing.{of_ours}
use Rattle.vault.proofs.Leading.{pieced_furthered, pieced_not_furthered}
use Rattle.vault.proofs.vault.Vault.write_on.Goals as goal

pub returns-in-Ok-clause-told : goal.returns-in-Ok-clause-told
returns-in-Ok-clause-told g c =
    let m = g.D.Database.meaning in
    let inside = c.self.inside in
    let vault = c.args.self.now in
    let generations : inside.generation ≡ vault.generation = ap (λ (v : State g.row.D.Denot). v.generation) c.self.view_is in
    let there : vault.pending ≡ Some c.in-Some.checkpoint = sym (ap (λ (v : State g.row.D.Denot). v.pending) c.self.view_is) ∙ sym c.take.ensures.value ∙ c.in-Some.is in
    told_map _ _ _ _ (λ h n further. pieced_furthered m vault inside.generation generations c.in-Some.checkpoint c.advance.new.checkpoint _ h n c.in-Ok.field-0 there c.in-Ok.ensures.piece.1 (ap (λ (v : State g.row.D.Denot). with_pending v (Some c.advance.new.checkpoint)) c.self.view_is) further) c.in-Ok.ensures.told

pub returns-in-Err-clause-told : goal.returns-in-Err-clause-told
returns-in-Err-clause-told g c =
    let m = g.D.Database.meaning in
    let inside = c.self.inside in
    let vault = c.args.self.now in
    let generations : inside.generation ≡ vault.generation = ap (λ (v : State g.row.D.Denot). v.generation) c.self.view_is in
    told_map _ _ _ _ (λ h n further. pieced_not_furthered m vault inside.generation generations c.in-Some.checkpoint c.advance.new.checkpoint c.halt.new.self h n c.in-Err.file c.halt.result further) c.in-Err.ensures.told

pub returns-in-Err-clause-err : goal.returns-in-Err-clause-err
returns-in-Err-clause-err g c =
    let inside = c.self.inside in
    let vault = c.args.self.now in (
      c.requires.sure,
      (
        c.in-Err.file,
        of_ours (inside.generation + 1) c.in-Err.file c.in-Err.ensures.cause.0,
        c.halt.ensures.refusal,
        c.in-Err.ensures.cause.1,
        (vault.forced, vault.sure, c.halt.ensures.new ∙ ap (λ (v : State g.row.D.Denot). with_fault v c.in-Err.file (g.S.Store.faults_of c.advance.new.store c.in-Err.file)) c.self.view_is),
      ),
    )
