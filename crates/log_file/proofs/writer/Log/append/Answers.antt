use Rattle.std.proofs.Common.{Ok, Err, subst}
use Rattle.store_api.proofs.Runs.{told_map}
use Rattle.store_api.specs.Told.{Told}
use Rattle.kinds.specs.declared.refusal.Refusal.{Refusal}
use Rattle.kinds.specs.declared.refusal.Refusal.TheVariants.{LogFault}
use Rattle.log_file.specs.Sure.{State}
use Rattle.log_file.specs.Steps.{Appended}
use Rattle.log_file.proofs.Told.{told_same}
use Rattle.log_file.proofs.Appending.{not_appended, appended_ok, appended_err}
use Rattle.log_file.proofs.writer.Log.append.Goals as goal

pub returns-in-Some-clause-told : goal.returns-in-Some-clause-told
returns-in-Some-clause-told g c =
    let refusal = LogFault c.self.inside.file c.in-Some.count in
    told_same (g.S.Store.told c.args.store.now) (Appended c.args.self.now.file c.args.self.now.sure c.args.self.now.end c.args.framed.now (Err refusal)) (not_appended {E = Refusal} c.args.self.now.file c.args.self.now.sure c.args.self.now.end c.args.framed.now refusal)

pub returns-in-Ok-clause-told : goal.returns-in-Ok-clause-told
returns-in-Ok-clause-told g c =
    subst (λ (s : State). Told (g.S.Store.told c.args.store.now) (g.S.Store.told c.put_record.new.store) (Appended {E = Refusal} s.file s.sure s.end c.args.framed.now (Ok tt))) c.self.view_is
    (told_map _ _ _ _ (appended_ok {F = Refusal} c.self.inside.file c.self.inside.sure c.self.inside.end c.args.framed.now c.in-Ok.field-0 tt) c.in-Ok.ensures.told)

pub returns-in-Err-clause-told : goal.returns-in-Err-clause-told
returns-in-Err-clause-told g c =
    let refusal = LogFault c.self.inside.file c.faults-count.result in
    subst (λ (s : State). Told (g.S.Store.told c.args.store.now) (g.S.Store.told c.put_record.new.store) (Appended {E = Refusal} s.file s.sure s.end c.args.framed.now (Err refusal))) c.self.view_is
    (told_map _ _ _ _ (appended_err c.self.inside.file c.self.inside.sure c.self.inside.end c.args.framed.now c.in-Err.field-0 refusal) c.in-Err.ensures.told)
