use Rattle.std.proofs.Common.{refl, rules, ◌≡◌, ◌∙◌, ap, subst, ℕ, Result, Ok, Err}
use Rattle.kinds.specs.declared.refusal.Refusal.{Refusal}
use Rattle.log_file.specs.Steps.{Forced}
use Rattle.log_file.specs.Sure as log
use Rattle.vault.specs.Files.{log_file}
use Rattle.vault.specs.Vaults.{State}
use Rattle.store_api.proofs.Runs.{told_map}
use Rattle.vault.proofs.Committing.{told_none_forced, forced_is, not_forced, is_forced}
use Rattle.vault.proofs.vault.Vault.force.Goals as goal

pub returns-in-Some-clause-told : goal.returns-in-Some-clause-told
returns-in-Some-clause-told g c = told_none_forced (g.S.Store.told c.args.store.now) g.D.Database.meaning c.args.self.now _ _

pub returns-in-Ok-clause-told : goal.returns-in-Ok-clause-told
returns-in-Ok-clause-told g c =
    let m = g.D.Database.meaning in
    let inside = c.self.inside in
    let vault = c.args.self.now in
    let file : inside.log.file ≡ log_file vault.generation = c.self.invariant.file ∙ ap (λ (v : State g.row.D.Denot). log_file v.generation) c.self.view_is in
    let sures : inside.log.sure ≡ vault.sure = ap (λ (v : State g.row.D.Denot). v.sure) c.self.view_is in
    let ends : inside.log.end ≡ vault.end = ap (λ (v : State g.row.D.Denot). v.end) c.self.view_is in
    let is = forced_is inside.generation inside.forced _ inside.log.sure c.force.new.self.sure inside.log.end c.force.new.self.end inside.database inside.journal.items inside.fault inside.fault inside.pending inside.pending vault c.self.view_is (search rules)
    (ap (λ (l : log.State). l.sure) c.in-Ok.ensures.ok) (ap (λ (l : log.State). l.end) c.in-Ok.ensures.ok) (search rules) refl in
    told_map _ _ _ _ (λ h n forced. is_forced m vault h n inside.log.file file _ _ is
    (subst (λ (k : ℕ). let r : Result (Unit {0}) Refusal = Ok tt in Forced inside.log.file k vault.end r h n) sures (subst (λ (k : ℕ). let r : Result (Unit {0}) Refusal = Ok tt in Forced inside.log.file inside.log.sure k r h n) ends forced))) c.in-Ok.ensures.told

pub returns-in-Err-clause-told : goal.returns-in-Err-clause-told
returns-in-Err-clause-told g c =
    let m = g.D.Database.meaning in
    let inside = c.self.inside in
    let vault = c.args.self.now in
    let file : inside.log.file ≡ log_file vault.generation = c.self.invariant.file ∙ ap (λ (v : State g.row.D.Denot). log_file v.generation) c.self.view_is in
    let sures : inside.log.sure ≡ vault.sure = ap (λ (v : State g.row.D.Denot). v.sure) c.self.view_is in
    let ends : inside.log.end ≡ vault.end = ap (λ (v : State g.row.D.Denot). v.end) c.self.view_is in
    told_map _ _ _ _ (λ h n forced. not_forced m vault h n inside.log.file file _ _ _
    (subst (λ (k : ℕ). let r : Result (Unit {0}) Refusal = Err c.in-Err.field-0 in Forced inside.log.file k vault.end r h n) sures (subst (λ (k : ℕ). let r : Result (Unit {0}) Refusal = Err c.in-Err.field-0 in Forced inside.log.file inside.log.sure k r h n) ends forced))) c.in-Err.ensures.told
