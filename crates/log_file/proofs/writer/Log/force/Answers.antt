use Rattle.std.proofs.Common.{Ok, Err, subst}
use Rattle.store_api.proofs.Runs.{told_map}
use Rattle.store_api.specs.Told.{Told}
use Rattle.kinds.specs.declared.refusal.Refusal.{Refusal}
use Rattle.kinds.specs.declared.refusal.Refusal.TheVariants.{LogFault}
use Rattle.log_file.specs.Sure.{State}
use Rattle.log_file.specs.Steps.{Forced}
use Rattle.log_file.proofs.Told.{told_same}
use Rattle.log_file.proofs.Appending.{not_forced, none_forced, forced_ok, forced_err}
use Rattle.log_file.proofs.writer.Log.force.Goals as goal

pub returns-in-Some-clause-told : goal.returns-in-Some-clause-told
returns-in-Some-clause-told g c =
    let refusal = LogFault c.self.inside.file c.in-Some.count in
    told_same (g.S.Store.told c.args.store.now) (Forced c.args.self.now.file c.args.self.now.sure c.args.self.now.end (Err refusal)) (not_forced {E = Refusal} c.args.self.now.file c.args.self.now.sure c.args.self.now.end refusal)

pub returns-then-self-clause-told : goal.returns-then-self-clause-told
returns-then-self-clause-told g c =
    subst (λ (s : State). Told (g.S.Store.told c.args.store.now) (g.S.Store.told c.args.store.now) (Forced {E = Refusal} s.file s.sure s.end (Ok tt))) c.self.view_is
    (told_same (g.S.Store.told c.args.store.now) (Forced {E = Refusal} c.self.inside.file c.self.inside.sure c.self.inside.end (Ok tt)) (λ h. none_forced {E = Refusal} c.self.inside.file c.self.inside.sure c.self.inside.end h c.if-self.true))

pub returns-in-Ok-clause-told : goal.returns-in-Ok-clause-told
returns-in-Ok-clause-told g c =
    subst (λ (s : State). Told (g.S.Store.told c.args.store.now) (g.S.Store.told c.open_first.new.store) (Forced {E = Refusal} s.file s.sure s.end (Ok tt))) c.self.view_is
    (told_map _ _ _ _ (λ old new each. forced_ok {F = Refusal} c.self.inside.file c.self.inside.sure c.self.inside.end c.in-Ok.field-0 tt old new (each c.self.inside.end c.if-self.false)) c.in-Ok.ensures.told)

pub returns-in-Err-clause-told : goal.returns-in-Err-clause-told
returns-in-Err-clause-told g c =
    let refusal = LogFault c.self.inside.file c.faults-count.result in
    subst (λ (s : State). Told (g.S.Store.told c.args.store.now) (g.S.Store.told c.open_first.new.store) (Forced {E = Refusal} s.file s.sure s.end (Err refusal))) c.self.view_is
    (told_map _ _ _ _ (λ old new each. forced_err c.self.inside.file c.self.inside.sure c.self.inside.end c.in-Err.field-0 refusal old new (each c.self.inside.end c.if-self.false)) c.in-Err.ensures.told)
