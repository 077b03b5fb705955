use Rattle.std.proofs.Common.{◌≡◌, ◌⊎◌, None, Some, Err, subst}
use Rattle.kinds.specs.Refusals.{foremost}
use Rattle.kinds.specs.declared.refusal.Refusal.TheVariants as refusal
use Rattle.steps.specs.Events.Deed.{Image as TakeImage}
use Rattle.hall.specs.Backing.{IsHolding, backup_refused, kind_of}
use Rattle.hall.proofs.BackupBegins.{backup_declines}
use Rattle.hall.proofs.BackupRefused.{files_follow, refusal_listed}
use Rattle.hall.proofs.Following.{each_short, has_reached}
use Rattle.hall.proofs.Stepping.{stays_seen}
use Rattle.hall.proofs.hall.Hall.take_backup.Goals as goal

pub backup_payload-requires-clause-reached : goal.backup_payload-requires-clause-reached
backup_payload-requires-clause-reached g c =
    has_reached g.S.Store.told g.S.Store.moment_of g.S.Store.faults_of (record { store = c.self.inside.store; held = c.self.inside.parts }) c.self.invariant

pub backup_payload-requires-clause-short : goal.backup_payload-requires-clause-short
backup_payload-requires-clause-short g c =
    each_short g.S.Store.told g.S.Store.moment_of g.S.Store.faults_of (record { store = c.self.inside.store; held = c.self.inside.parts }) c.self.invariant

pub begin_backup-requires-clause-none : goal.begin_backup-requires-clause-none
begin_backup-requires-clause-none g c =
    subst (λ h. foremost (backup_refused c.args.actor (g.S.Store.moment_of h.store) c.args.after h.held) ≡ None) c.self.view_is
    (subst (λ n. foremost (backup_refused c.args.actor n c.args.after c.self.inside.parts) ≡ None) c.moment.ensures c.in-Ok.ensures.none)

pub begin_backup-requires-clause-holds : goal.begin_backup-requires-clause-holds
begin_backup-requires-clause-holds g c = subst (λ h. IsHolding c.args.actor c.args.after h.held c.in-Ok.payload.items) c.self.view_is c.in-Ok.ensures.holds

pub returns-in-Err-clause-step : goal.returns-in-Err-clause-step
returns-in-Err-clause-step g c =
    let t = g.S.Store.told in
    let m = g.S.Store.moment_of in
    let f = g.S.Store.faults_of in
    stays_seen t m f c.args.actor (TakeImage (kind_of c.args.after) (Err c.in-Err.refusal)) _ c.args.self.now c.self.view_is
    (backup_declines t m f c.args.actor c.args.after (record { store = c.self.inside.store; held = c.self.inside.parts }) c.in-Err.refusal
    (subst (λ n. (foremost (backup_refused c.args.actor n c.args.after c.self.inside.parts) ≡ Some c.in-Err.refusal) ⊎ (c.in-Err.refusal ≡ refusal.Memory)) c.moment.ensures c.in-Err.ensures.err))

pub returns-in-Err-clause-listed : goal.returns-in-Err-clause-listed
returns-in-Err-clause-listed g c =
    refusal_listed c.args.actor c.moment.result c.args.after c.self.inside.parts c.backup_payload.ensures.valid c.backup_payload.ensures.tied
    (files_follow g.S.Store.told g.S.Store.moment_of g.S.Store.faults_of (record { store = c.self.inside.store; held = c.self.inside.parts }) c.self.invariant) c.in-Err.refusal c.in-Err.ensures.err
