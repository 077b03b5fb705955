use Rattle.std.proofs.Common.{rules, ◌≡◌, ◌∙◌, inl, inr, ap, subst, refl, ℕ, Result, Ok, Err}
use Rattle.kinds.specs.declared.refusal.Refusal.{Refusal}
use Rattle.kinds.specs.declared.refusal.Refusal.TheVariants.{LogFault}
use Rattle.log_file.specs.Steps.{Appended}
use Rattle.log_file.specs.Sure as log
use Rattle.vault.specs.Files.{log_file}
use Rattle.vault.specs.Vaults.{State, in_doubt}
use Rattle.store_api.proofs.Runs.{told_map}
use Rattle.vault.proofs.Committing.{told_not_waiting, waiting_is, doubted_is, not_appended, is_appended}
use Rattle.vault.proofs.vault.Vault.commit.Goals as goal

pub returns-in-Some-clause-told : goal.returns-in-Some-clause-told
returns-in-Some-clause-told g c = told_not_waiting (g.S.Store.told c.args.store.now) g.D.Database.meaning c.args.self.now _ c.args.entry _

pub returns-in-Err-clause-told : goal.returns-in-Err-clause-told
returns-in-Err-clause-told g c = told_not_waiting (g.S.Store.told c.args.store.now) g.D.Database.meaning c.args.self.now c.args.self.now c.args.entry _

pub returns-in-Err-clause-err : goal.returns-in-Err-clause-err
returns-in-Err-clause-err g c = inl (elim c.in-Err.ensures.refused [ inl memory ↦ inl memory | inr full ↦ inr (inl full) ], refl, refl)

pub returns-in-Err-add_entry-clause-told : goal.returns-in-Err-add_entry-clause-told
returns-in-Err-add_entry-clause-told g c = told_not_waiting (g.S.Store.told c.args.store.now) g.D.Database.meaning c.args.self.now _ c.args.entry _

pub returns-in-Ok-append-clause-told : goal.returns-in-Ok-append-clause-told
returns-in-Ok-append-clause-told g c =
    let m = g.D.Database.meaning in
    let inside = c.self.inside in
    let vault = c.args.self.now in
    let file : inside.log.file ≡ log_file vault.generation = c.self.invariant.file ∙ ap (λ (v : State g.row.D.Denot). log_file v.generation) c.self.view_is in
    let sures : inside.log.sure ≡ vault.sure = ap (λ (v : State g.row.D.Denot). v.sure) c.self.view_is in
    let ends : inside.log.end ≡ vault.end = ap (λ (v : State g.row.D.Denot). v.end) c.self.view_is in
    let is = waiting_is m inside.generation inside.forced inside.log.sure c.append.new.self.sure inside.log.end c.append.new.self.end inside.database c.add_entry.new.database inside.journal.items c.add_entry.new.journal.items inside.fault inside.fault inside.pending inside.pending c.args.entry c.in-Ok.framed vault c.self.view_is c.in-Ok-add_entry.ensures.database c.in-Ok-add_entry.ensures.journal c.in-Ok.ensures.framed
    (ap (λ (l : log.State). l.sure) c.in-Ok-append.ensures.ok) (ap (λ (l : log.State). l.end) c.in-Ok-append.ensures.ok) (search rules) refl in
    told_map _ _ _ _ (λ h n appended. is_appended m vault c.args.entry c.frame_entry.ensures.fits c.requires.legal h n inside.log.file file c.in-Ok.framed c.in-Ok.ensures.framed _ _ is
    (subst (λ (k : ℕ). let r : Result (Unit {0}) Refusal = Ok tt in Appended inside.log.file k vault.end c.in-Ok.framed r h n) sures (subst (λ (k : ℕ). let r : Result (Unit {0}) Refusal = Ok tt in Appended inside.log.file inside.log.sure k c.in-Ok.framed r h n) ends appended))) c.in-Ok-append.ensures.told

pub returns-clause-told : goal.returns-clause-told
returns-clause-told g c =
    let m = g.D.Database.meaning in
    let inside = c.self.inside in
    let vault = c.args.self.now in
    let file : inside.log.file ≡ log_file vault.generation = c.self.invariant.file ∙ ap (λ (v : State g.row.D.Denot). log_file v.generation) c.self.view_is in
    let sures : inside.log.sure ≡ vault.sure = ap (λ (v : State g.row.D.Denot). v.sure) c.self.view_is in
    let ends : inside.log.end ≡ vault.end = ap (λ (v : State g.row.D.Denot). v.end) c.self.view_is in
    told_map _ _ _ _ (λ h n appended. not_appended m vault c.args.entry c.frame_entry.ensures.fits c.requires.legal h n inside.log.file file c.in-Ok.framed c.in-Ok.ensures.framed _ _ _
    (subst (λ (k : ℕ). let r : Result (Unit {0}) Refusal = Err c.in-Err-append.field-0 in Appended inside.log.file k vault.end c.in-Ok.framed r h n) sures (subst (λ (k : ℕ). let r : Result (Unit {0}) Refusal = Err c.in-Err-append.field-0 in Appended inside.log.file inside.log.sure k c.in-Ok.framed r h n) ends appended))) c.in-Err-append.ensures.told

pub returns-clause-err : goal.returns-clause-err
returns-clause-err g c =
    let m = g.D.Database.meaning in
    let inside = c.self.inside in
    let vault = c.args.self.now in
    let faults : ℕ → ℕ = g.S.Store.faults_of c.append.new.store in
    let end : ℕ = c.append.new.self.end in
    let file : c.log_file-file.result ≡ log_file vault.generation = c.log_file-file.ensures.value ∙ ap (λ (v : State g.row.D.Denot). log_file v.generation) c.self.view_is in
    let is = doubted_is m inside.generation inside.forced inside.log.sure c.append.new.self.sure inside.log.end end inside.database c.add_entry.new.database inside.journal.items c.add_entry.new.journal.items inside.fault inside.pending c.log_file-file.result c.faults-count.result c.args.entry vault c.self.view_is
    c.in-Ok-add_entry.ensures.database c.in-Ok-add_entry.ensures.journal (ap (λ (l : log.State). l.sure) c.in-Err-append.ensures.err.2) in
    inr (
      search rules,
      ap (λ (n : ℕ). LogFault c.log_file-file.result n) c.faults-count.ensures ∙ ap (λ (n : ℕ). LogFault n (faults n)) file,
      search rules,
      (end, is ∙ ap (λ (n : ℕ). in_doubt m vault c.args.entry end c.log_file-file.result n) c.faults-count.ensures ∙ ap (λ (n : ℕ). in_doubt m vault c.args.entry end n (faults n)) file),
    )
