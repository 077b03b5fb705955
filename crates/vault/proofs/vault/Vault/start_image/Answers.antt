use Rattle.std.proofs.Common.{rules, ◌≡◌, ◌+◌, ℕ, length, Some, Ok, Err, ap, subst}
use Rattle.store_api.proofs.Runs.{told_map}
use Rattle.vault.specs.Pieces.{Starts}
use Rattle.vault.specs.Vaults.{State, with_pending}
use Rattle.vault.proofs.Leading.{start_made, start_failed}
use Rattle.vault.proofs.vault.Vault.start_image.Goals as goal

pub returns-in-Ok-clause-told : goal.returns-in-Ok-clause-told
returns-in-Ok-clause-told g c =
    let m = g.D.Database.meaning in
    let inside = c.self.inside in
    let vault = c.args.self.now in
    let generations : inside.generation ≡ vault.generation = ap (λ (v : State g.row.D.Denot). v.generation) c.self.view_is in
    let all : c.len.result ≡ length vault.journal = search rules in
    told_map _ _ _ _ (λ h n starts. start_made m vault c.args.payload.items c.requires.spelled c.len.result h n c.in-Ok.checkpoint (c.image_file.result, c.number.result) _ g.met.D.Database.is_meaning c.requires.valid all c.in-Ok.ensures.begun.1 (ap (λ (v : State g.row.D.Denot). with_pending v (Some c.in-Ok.checkpoint)) c.self.view_is)
    (subst (λ (k : ℕ). Starts {E = ℕ} (k + 1) c.args.payload.items c.len.result (Ok c.in-Ok.checkpoint) h n) generations starts)) c.in-Ok.ensures.told

pub returns-in-Err-clause-told : goal.returns-in-Err-clause-told
returns-in-Err-clause-told g c =
    let m = g.D.Database.meaning in
    let inside = c.self.inside in
    let vault = c.args.self.now in
    let generations : inside.generation ≡ vault.generation = ap (λ (v : State g.row.D.Denot). v.generation) c.self.view_is in
    told_map _ _ _ _ (λ h n starts. start_failed m vault c.args.payload.items c.requires.spelled c.len.result h n c.in-Err.file c.halt.result c.halt.new.self
    (subst (λ (k : ℕ). Starts {E = ℕ} (k + 1) c.args.payload.items c.len.result (Err c.in-Err.file) h n) generations starts)) c.in-Err.ensures.told
