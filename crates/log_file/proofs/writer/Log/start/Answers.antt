use Rattle.std.proofs.Common.{◌∙◌, ℕ, List, Option, None, Some, Ok, ap, sym, subst, refl, arith}
use Rattle.store_api.specs.Told.{Told}
use Rattle.store_api.proofs.Runs.{told_then}
use Rattle.log_file.specs.declared.found.Record.{Record}
use Rattle.log_file.specs.Sure.{State}
use Rattle.log_file.specs.Starts.{Advanced, payloads_of}
use Rattle.log_file.proofs.Starting.{Underway, goes_further, no_memory, is_refused, is_started, payloads-push}
use Rattle.log_file.proofs.writer.Log.start.Goals as goal

pub records-preserved : goal.records-preserved
records-preserved g c =
    let inv = c.records.invariant in
    let old = g.S.Store.told c.args.store.now in
    let mid = g.S.Store.told c.records.store in
    let new = g.S.Store.told c.next.new.store in
    let payloads = payloads_of c.records.payloads in
    let step : Told mid new (Advanced c.records.records c.next.new.self (Ok (Some c.in-Ok-Some.record))) = subst (λ (found : Option Record). Told mid new (Advanced c.records.records c.next.new.self (Ok found))) c.in-Ok-Some.field-0-is c.in-Ok-Some.ensures.told in
    record {
      under = subst (λ (ps : List (List ℕ)). Told old new (Underway c.args.file c.next.new.self ps)) (sym (payloads-push c.records.payloads c.push.new.self c.in-Ok-Some.record.payload c.in-Ok-push.ensures.items))
          (told_then old mid new _ _ _ (λ h m n under advanced. goes_further c.args.file c.records.records c.next.new.self payloads h m n under c.in-Ok-Some.record c.next.ensures.file.0 advanced) inv.under step);
      file = c.next.ensures.file.0 ∙ inv.file;
      time = omega (arith, inv.time, c.next.ensures.time);
      later = omega (arith, inv.later, c.next.ensures.later);
      counts = λ file. omega (arith, inv.counts file, c.next.ensures.counts file);
    }

pub returns-in-Err-push-clause-told : goal.returns-in-Err-push-clause-told
returns-in-Err-push-clause-told g c =
    let old = g.S.Store.told c.args.store.now in
    let mid = g.S.Store.told c.records.store in
    let new = g.S.Store.told c.next.new.store in
    let step : Told mid new (Advanced c.records.records c.next.new.self (Ok (Some c.in-Ok-Some.record))) = subst (λ (found : Option Record). Told mid new (Advanced c.records.records c.next.new.self (Ok found))) c.in-Ok-Some.field-0-is c.in-Ok-Some.ensures.told in
    told_then old mid new _ _ _ (λ h m n under advanced. no_memory c.args.file c.records.records c.next.new.self (payloads_of c.records.payloads) h m n under c.in-Ok-Some.record advanced) c.records.invariant.under step

pub returns-in-Ok-None-clause-told : goal.returns-in-Ok-None-clause-told
returns-in-Ok-None-clause-told g c =
    let old = g.S.Store.told c.args.store.now in
    let mid = g.S.Store.told c.records.store in
    let new = g.S.Store.told c.next.new.store in
    let step : Told mid new (Advanced c.records.records c.next.new.self (Ok None)) = subst (λ (found : Option Record). Told mid new (Advanced c.records.records c.next.new.self (Ok found))) c.in-Ok-None.field-0-is c.in-Ok-None.ensures.told in
    told_then old mid new _ _ _ (λ h m n under advanced. is_started c.args.file c.records.records c.next.new.self (payloads_of c.records.payloads) h m n under c.finish.result c.records.payloads refl (ap (λ (s : State). s.end) c.finish.ensures) advanced) c.records.invariant.under step

pub returns-in-Err-next-clause-told : goal.returns-in-Err-next-clause-told
returns-in-Err-next-clause-told g c =
    let old = g.S.Store.told c.args.store.now in
    let mid = g.S.Store.told c.records.store in
    let new = g.S.Store.told c.next.new.store in
    told_then old mid new _ _ _ (λ h m n under advanced. is_refused c.args.file c.records.records c.next.new.self (payloads_of c.records.payloads) h m n under c.in-Err-next.refused advanced) c.records.invariant.under c.in-Err-next.ensures.told
