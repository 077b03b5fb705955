use Rattle.std.proofs.Common.{◌∷◌, ◌∙◌, ℕ, List, Bool, true, Option, None, Some, Result, Ok, Err, ap, sym, subst, arith}
use Rattle.store_api.specs.Told.{Told}
use Rattle.store_api.proofs.Runs.{told_then, told_map}
use Rattle.kinds.specs.declared.refusal.OpenRefused.{OpenRefused}
use Rattle.log_file.specs.declared.found.Record.{Record}
use Rattle.log_file.specs.Cursor.{MayRefuse}
use Rattle.log_file.specs.Starts.{Advanced, KeepsLeft}
use Rattle.log_file.specs.Sure.{State}
use Rattle.log_file.proofs.Starting.{Underway}
use Rattle.entries.specs.EntryForm.{SpellsIn}
use Rattle.entries.specs.Meaning.{IsLegal}
use Rattle.vault.specs.Recovery.{records_in, IsRefused}
use Rattle.vault.specs.Openings.{form_of, Applies, Replayed}
use Rattle.vault.proofs.Replaying.{told_both, applied_more, refused_there, no_memory, all_applied, not_read}
use Rattle.vault.proofs.open.replay.Goals as goal

pub returns-in-Ok-false-clause-told : goal.returns-in-Ok-false-clause-told
returns-in-Ok-false-clause-told g c =
    let inv = c.records.invariant in
    let m = g.D.Database.meaning in
    let old = g.S.Store.told c.args.store.now in
    let mid = g.S.Store.told c.records.store in
    let new = g.S.Store.told c.next.new.store in
    let step : Told mid new (Advanced c.records.records c.next.new.self (Ok (Some c.in-Ok-Some.record))) = subst (λ (found : Option Record). Told mid new (Advanced c.records.records c.next.new.self (Ok found))) c.in-Ok-Some.field-0-is c.in-Ok-Some.ensures.told in
    let given : IsRefused (form_of c.args.first) m c.records.database c.deref.result.now = subst (λ (b : Bool). Applies (form_of c.args.first) m c.deref.result.now c.records.database c.apply_record.new.database b) c.in-Ok-false.field-0-test c.in-Ok-false.ensures.applies in
    let refused : IsRefused (form_of c.args.first) m c.records.database c.in-Ok-Some.record.payload.items = subst (λ (p : List ℕ). IsRefused (form_of c.args.first) m c.records.database p) c.deref.ensures.value given in
    told_then old mid new (λ h n. Underway c.args.file c.records.records (records_in (form_of c.args.first) inv.entries) h n × KeepsLeft c.args.file h n) (Advanced c.records.records c.next.new.self (Ok (Some c.in-Ok-Some.record))) _
    (λ h k n both advanced. refused_there (form_of c.args.first) m c.args.database.now c.args.file c.records.records c.next.new.self inv.entries c.records.database inv.legal inv.gives h k n both.0 both.1 c.in-Ok-Some.record refused c.next.ensures.file.0 advanced c.apply_record.new.database) (told_both old mid _ _ inv.under inv.left) step

pub returns-in-Err-apply_record-clause-told : goal.returns-in-Err-apply_record-clause-told
returns-in-Err-apply_record-clause-told g c =
    let inv = c.records.invariant in
    let m = g.D.Database.meaning in
    let old = g.S.Store.told c.args.store.now in
    let mid = g.S.Store.told c.records.store in
    let new = g.S.Store.told c.next.new.store in
    let step : Told mid new (Advanced c.records.records c.next.new.self (Ok (Some c.in-Ok-Some.record))) = subst (λ (found : Option Record). Told mid new (Advanced c.records.records c.next.new.self (Ok found))) c.in-Ok-Some.field-0-is c.in-Ok-Some.ensures.told in
    subst (λ (refusal : OpenRefused). Told old new (λ h n. let result : Result State OpenRefused = Err refusal in Replayed (form_of c.args.first) m c.args.database.now c.args.file result c.apply_record.new.database h n)) (sym c.in-Err-apply_record.ensures.memory)
    (told_then old mid new (λ h n. Underway c.args.file c.records.records (records_in (form_of c.args.first) inv.entries) h n × KeepsLeft c.args.file h n) (Advanced c.records.records c.next.new.self (Ok (Some c.in-Ok-Some.record))) _
    (λ h k n both advanced. no_memory (form_of c.args.first) m c.args.database.now c.args.file c.records.records c.next.new.self inv.entries c.records.database inv.legal inv.gives h k n both.0 both.1 c.in-Ok-Some.record c.next.ensures.file.0 advanced c.apply_record.new.database) (told_both old mid _ _ inv.under inv.left) step)

pub records-preserved : goal.records-preserved
records-preserved g c =
    let inv = c.records.invariant in
    let m = g.D.Database.meaning in
    let old = g.S.Store.told c.args.store.now in
    let mid = g.S.Store.told c.records.store in
    let new = g.S.Store.told c.next.new.store in
    let step : Told mid new (Advanced c.records.records c.next.new.self (Ok (Some c.in-Ok-Some.record))) = subst (λ (found : Option Record). Told mid new (Advanced c.records.records c.next.new.self (Ok found))) c.in-Ok-Some.field-0-is c.in-Ok-Some.ensures.told in
    let applies : Applies (form_of c.args.first) m c.deref.result.now c.records.database c.apply_record.new.database true = subst (λ (b : Bool). Applies (form_of c.args.first) m c.deref.result.now c.records.database c.apply_record.new.database b) c.in-Ok-true.field-0-test c.in-Ok-true.ensures.applies in
    let spells = subst (λ (p : List ℕ). SpellsIn (form_of c.args.first) p applies.0) c.deref.ensures.value applies.1 in
    let both = told_then old mid new (λ h n. Underway c.args.file c.records.records (records_in (form_of c.args.first) inv.entries) h n × KeepsLeft c.args.file h n) (Advanced c.records.records c.next.new.self (Ok (Some c.in-Ok-Some.record)))
    (λ h n. Underway c.args.file c.next.new.self (records_in (form_of c.args.first) (applies.0 ∷ inv.entries)) h n × KeepsLeft c.args.file h n)
    (λ h k n both advanced. applied_more (form_of c.args.first) m c.args.database.now c.args.file c.records.records c.next.new.self inv.entries c.records.database inv.legal inv.gives h k n both.0 both.1 c.in-Ok-Some.record applies.0 spells c.next.ensures.file.0 advanced) (told_both old mid _ _ inv.under inv.left) step in
    record {
      entries = applies.0 ∷ inv.entries;
      legal = (applies.1.0, subst (λ (d : g.row.D.Denot). IsLegal m d applies.0) inv.gives applies.2, inv.legal);
      gives = applies.3 ∙ ap (λ (d : g.row.D.Denot). m.after d applies.0) inv.gives;
      under = told_map old new _ _ (λ h n b. b.0) both;
      left = told_map old new _ _ (λ h n b. b.1) both;
      file = c.next.ensures.file.0 ∙ inv.file;
      onward = record {
        later = omega (arith, inv.onward.later, c.next.ensures.later);
        time = omega (arith, inv.onward.time, c.next.ensures.time);
        counts = λ file. omega (arith, inv.onward.counts file, c.next.ensures.counts file);
      };
    }

pub returns-in-Ok-None-clause-told : goal.returns-in-Ok-None-clause-told
returns-in-Ok-None-clause-told g c =
    let inv = c.records.invariant in
    let m = g.D.Database.meaning in
    let old = g.S.Store.told c.args.store.now in
    let mid = g.S.Store.told c.records.store in
    let new = g.S.Store.told c.next.new.store in
    let step : Told mid new (Advanced c.records.records c.next.new.self (Ok None)) = subst (λ (found : Option Record). Told mid new (Advanced c.records.records c.next.new.self (Ok found))) c.in-Ok-None.field-0-is c.in-Ok-None.ensures.told in
    told_then old mid new (λ h n. Underway c.args.file c.records.records (records_in (form_of c.args.first) inv.entries) h n × KeepsLeft c.args.file h n) (Advanced c.records.records c.next.new.self (Ok None)) _
    (λ h k n both advanced. all_applied (form_of c.args.first) m c.args.database.now c.args.file c.records.records c.next.new.self inv.entries c.records.database inv.legal inv.gives h k n both.0 both.1 c.finish.result (ap (λ (l : State). l.end) c.finish.ensures) c.next.ensures.file.0 advanced) (told_both old mid _ _ inv.under inv.left) step

pub returns-in-Err-next-clause-told : goal.returns-in-Err-next-clause-told
returns-in-Err-next-clause-told g c =
    let inv = c.records.invariant in
    let m = g.D.Database.meaning in
    let old = g.S.Store.told c.args.store.now in
    let mid = g.S.Store.told c.records.store in
    let new = g.S.Store.told c.next.new.store in
    let may = subst (λ (k : ℕ). MayRefuse k (g.S.Store.faults_of c.records.store) (g.S.Store.faults_of c.next.new.store) (g.S.Store.moment_of c.next.new.store) c.in-Err-next.refused) inv.file c.in-Err-next.ensures.cause in
    told_then old mid new (λ h n. Underway c.args.file c.records.records (records_in (form_of c.args.first) inv.entries) h n × KeepsLeft c.args.file h n) (Advanced c.records.records c.next.new.self (Err c.in-Err-next.refused)) _
    (λ h k n both advanced. not_read (form_of c.args.first) m c.args.database.now c.args.file c.records.records c.next.new.self inv.entries c.records.database inv.legal inv.gives h k n both.0 both.1 c.in-Err-next.refused (g.S.Store.faults_of c.records.store) (g.S.Store.faults_of c.next.new.store) (g.S.Store.moment_of c.next.new.store) may c.next.ensures.file.0 advanced) (told_both old mid _ _ inv.under inv.left) c.in-Err-next.ensures.told
