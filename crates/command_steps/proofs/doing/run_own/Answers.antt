use Rattle.command_steps.proofs.Worked.{owned, owned-alone}
use Rattle.command_steps.specs.Doing.{DoesAlone, Gives, MovesSo, moved_line, the_second}
use Rattle.command_steps.specs.Reading.{mover_view}
use Rattle.command_steps.specs.Owns.{audit_volume, back_up_database, back_up_pool, back_up_since, checkpoint, delete_history, empty_filespace, empty_volume, expire, get, none_but_reuse, none_yet, on_tree, own_of, put, validate}
use Rattle.command_steps.specs.Owns as owns
use Rattle.kinds.specs.declared.refusal.Refusal.TheVariants.{UnknownWord}
use Rattle.std.proofs.Common.{ℕ, true, Err, Ok, refl, subst}
use Rattle.copy_pools.specs.Backups.{Backup}
use Rattle.copy_runs.specs.declared.wanted.Moved.{Moved}
use Rattle.deletions.specs.Filespaces.{FilespaceDeletion}
use Rattle.deletions.specs.Volumes.{VolumeDeletion}
use Rattle.deletions.specs.declared.copies.Removed.{Removed}
use Rattle.reports.specs.declared.shown.Shown.TheVariants.{Copied, DeletedVolume, DiscardedFilespace, Reused}
use Rattle.command_steps.specs.declared.outcome.Outcome.TheVariants.{Audited, Said}
use Rattle.steps.specs.Calls.{Call}
use Rattle.volume_audits.specs.Auditing.{VolumeAudit}
use Rattle.steps.proofs.Joining.{call_of_none}
use Rattle.command_steps.specs.Reading.{tree_view}
use Rattle.command_steps.specs.Clients.{client}
use Rattle.command_steps.proofs.doing.run_own.Goals as goal

pub returns-in-Validate-clause-does : goal.returns-in-Validate-clause-does
returns-in-Validate-clause-does g c = owned-alone g.P.Stepper.did c.args.p.now c.validate.new.p (client g.T.Tree.files g.T.Tree.fault_count c.args.binder.now c.args.trees.now c.args.trees.now) (validate c.in-Validate.set.now) (own_of c.args.command.now) c.args.numbers.now c.validate.result c.in-Validate.ensures refl c.validate.ensures

pub returns-in-Put-clause-does : goal.returns-in-Put-clause-does
returns-in-Put-clause-does g c = owned-alone g.P.Stepper.did c.args.p.now c.put.new.p (client g.T.Tree.files g.T.Tree.fault_count c.args.binder.now c.args.trees.now c.args.trees.now) (put c.in-Put.file.now) (own_of c.args.command.now) c.args.numbers.now c.put.result c.in-Put.ensures refl c.put.ensures.puts

pub returns-in-Get-clause-does : goal.returns-in-Get-clause-does
returns-in-Get-clause-does g c = owned-alone g.P.Stepper.did c.args.p.now c.get.new.p (client g.T.Tree.files g.T.Tree.fault_count c.args.binder.now c.args.trees.now c.args.trees.now) (get c.in-Get.file.now) (own_of c.args.command.now) c.args.numbers.now c.get.result c.in-Get.ensures refl c.get.ensures.gets

pub returns-in-Checkpoint-clause-does : goal.returns-in-Checkpoint-clause-does
returns-in-Checkpoint-clause-does g c = owned-alone g.P.Stepper.did c.args.p.now c.keep.new.p (client g.T.Tree.files g.T.Tree.fault_count c.args.binder.now c.args.trees.now c.args.trees.now) checkpoint (own_of c.args.command.now) c.args.numbers.now c.keep.result c.in-Checkpoint.ensures refl c.keep.ensures

pub returns-in-NoneYet-clause-does : goal.returns-in-NoneYet-clause-does
returns-in-NoneYet-clause-does g c = owned-alone g.P.Stepper.did c.args.p.now c.args.p.now (client g.T.Tree.files g.T.Tree.fault_count c.args.binder.now c.args.trees.now c.args.trees.now) none_yet (own_of c.args.command.now) c.args.numbers.now (Err (UnknownWord 1)) c.in-NoneYet.ensures refl
    (call_of_none g.P.Stepper.did (λ events. DoesAlone c.args.binder.now none_yet c.args.numbers.now events (Err (UnknownWord 1))) c.args.p.now c.args.p.now (g.met.P.Stepper.stays c.args.p.now) (refl, refl))

pub returns-in-Expire-clause-does : goal.returns-in-Expire-clause-does
returns-in-Expire-clause-does g c = owned-alone g.P.Stepper.did c.args.p.now c.expire_all.new.p (client g.T.Tree.files g.T.Tree.fault_count c.args.binder.now c.args.trees.now c.args.trees.now) expire (own_of c.args.command.now) c.args.numbers.now c.expire_all.result c.in-Expire.ensures refl c.expire_all.ensures

pub returns-in-EmptyFilespace-clause-does : goal.returns-in-EmptyFilespace-clause-does
returns-in-EmptyFilespace-clause-does g c = owned-alone g.P.Stepper.did c.args.p.now c.empty_filespace.new.p (client g.T.Tree.files g.T.Tree.fault_count c.args.binder.now c.args.trees.now c.args.trees.now) empty_filespace (own_of c.args.command.now) c.args.numbers.now c.empty_filespace.result c.in-EmptyFilespace.ensures refl
    (subst (λ (k : ℕ). Call g.P.Stepper.did c.args.p.now c.empty_filespace.new.p (λ events. Gives (FilespaceDeletion k) (λ discarded. Said (DiscardedFilespace discarded 0)) events c.empty_filespace.result)) c.the_number.ensures c.empty_filespace.ensures)

pub returns-in-EmptyVolume-clause-does : goal.returns-in-EmptyVolume-clause-does
returns-in-EmptyVolume-clause-does g c = owned-alone g.P.Stepper.did c.args.p.now c.empty_volume.new.p (client g.T.Tree.files g.T.Tree.fault_count c.args.binder.now c.args.trees.now c.args.trees.now) empty_volume (own_of c.args.command.now) c.args.numbers.now c.empty_volume.result c.in-EmptyVolume.ensures refl
    (subst (λ (k : ℕ). Call g.P.Stepper.did c.args.p.now c.empty_volume.new.p (λ events. Gives (VolumeDeletion true k) (λ (went : Removed). Said (DeletedVolume went.discarded went.dropped)) events c.empty_volume.result)) c.the_number-in-EmptyVolume.ensures c.empty_volume.ensures)

pub returns-in-NoneButReuse-clause-does : goal.returns-in-NoneButReuse-clause-does
returns-in-NoneButReuse-clause-does g c = owned-alone g.P.Stepper.did c.args.p.now c.args.p.now (client g.T.Tree.files g.T.Tree.fault_count c.args.binder.now c.args.trees.now c.args.trees.now) none_but_reuse (own_of c.args.command.now) c.args.numbers.now (Ok (Said (Reused 0))) c.in-NoneButReuse.ensures refl
    (call_of_none g.P.Stepper.did (λ events. DoesAlone c.args.binder.now none_but_reuse c.args.numbers.now events (Ok (Said (Reused 0)))) c.args.p.now c.args.p.now (g.met.P.Stepper.stays c.args.p.now) (refl, refl))

pub returns-in-BackUpPool-clause-does : goal.returns-in-BackUpPool-clause-does
returns-in-BackUpPool-clause-does g c = owned-alone g.P.Stepper.did c.args.p.now c.back_up_pool.new.p (client g.T.Tree.files g.T.Tree.fault_count c.args.binder.now c.args.trees.now c.args.trees.now) back_up_pool (own_of c.args.command.now) c.args.numbers.now c.back_up_pool.result c.in-BackUpPool.ensures refl
    (subst (λ (k : ℕ). Call g.P.Stepper.did c.args.p.now c.back_up_pool.new.p (λ events. Gives (Backup k (the_second c.args.numbers.now)) (λ (copies : Moved). Said (Copied copies.moved copies.failed)) events c.back_up_pool.result)) c.the_number-in-BackUpPool.ensures
    (subst (λ (k : ℕ). Call g.P.Stepper.did c.args.p.now c.back_up_pool.new.p (λ events. Gives (Backup c.the_number-in-BackUpPool.result k) (λ (copies : Moved). Said (Copied copies.moved copies.failed)) events c.back_up_pool.result)) c.the_second.ensures c.back_up_pool.ensures))

pub returns-in-Moves-clause-does : goal.returns-in-Moves-clause-does
returns-in-Moves-clause-does g c = owned-alone g.P.Stepper.did c.args.p.now c.move_all.new.p (client g.T.Tree.files g.T.Tree.fault_count c.args.binder.now c.args.trees.now c.args.trees.now) (owns.moves (mover_view c.in-Moves.mover)) (own_of c.args.command.now) c.args.numbers.now c.move_all.result c.in-Moves.ensures refl
    (subst (λ (k : ℕ). Call g.P.Stepper.did c.args.p.now c.move_all.new.p (λ events. Gives (MovesSo (mover_view c.in-Moves.mover) k (the_second c.args.numbers.now)) (λ (m : Moved). Said (moved_line (mover_view c.in-Moves.mover) m)) events c.move_all.result)) c.the_number-in-Moves.ensures
    (subst (λ (k : ℕ). Call g.P.Stepper.did c.args.p.now c.move_all.new.p (λ events. Gives (MovesSo (mover_view c.in-Moves.mover) c.the_number-in-Moves.result k) (λ (m : Moved). Said (moved_line (mover_view c.in-Moves.mover) m)) events c.move_all.result)) c.the_second-in-Moves.ensures c.move_all.ensures))

pub returns-in-OnATree-clause-does : goal.returns-in-OnATree-clause-does
returns-in-OnATree-clause-does g c = owned g.P.Stepper.did c.args.p.now c.do_there.new.p (client g.T.Tree.files g.T.Tree.fault_count c.args.binder.now c.args.trees.now c.do_there.new.trees) (on_tree (tree_view c.in-OnATree.work)) (own_of c.args.command.now) c.args.numbers.now c.do_there.result c.in-OnATree.ensures c.do_there.ensures

pub returns-in-BackUpDatabase-clause-does : goal.returns-in-BackUpDatabase-clause-does
returns-in-BackUpDatabase-clause-does g c = owned-alone g.P.Stepper.did c.args.p.now c.back_up_database.new.p (client g.T.Tree.files g.T.Tree.fault_count c.args.binder.now c.args.trees.now c.args.trees.now) back_up_database (own_of c.args.command.now) c.args.numbers.now c.back_up_database.result c.in-BackUpDatabase.ensures refl c.back_up_database.ensures

pub returns-in-BackUpSince-clause-does : goal.returns-in-BackUpSince-clause-does
returns-in-BackUpSince-clause-does g c = owned-alone g.P.Stepper.did c.args.p.now c.back_up_since.new.p (client g.T.Tree.files g.T.Tree.fault_count c.args.binder.now c.args.trees.now c.args.trees.now) back_up_since (own_of c.args.command.now) c.args.numbers.now c.back_up_since.result c.in-BackUpSince.ensures refl c.back_up_since.ensures

pub returns-in-DeleteHistory-clause-does : goal.returns-in-DeleteHistory-clause-does
returns-in-DeleteHistory-clause-does g c = owned-alone g.P.Stepper.did c.args.p.now c.forget_backups.new.p (client g.T.Tree.files g.T.Tree.fault_count c.args.binder.now c.args.trees.now c.args.trees.now) (delete_history c.in-DeleteHistory.to) (own_of c.args.command.now) c.args.numbers.now c.forget_backups.result c.in-DeleteHistory.ensures refl c.forget_backups.ensures

pub returns-in-AuditVolume-clause-does : goal.returns-in-AuditVolume-clause-does
returns-in-AuditVolume-clause-does g c = owned-alone g.P.Stepper.did c.args.p.now c.audit.new.p (client g.T.Tree.files g.T.Tree.fault_count c.args.binder.now c.args.trees.now c.args.trees.now) (audit_volume c.in-AuditVolume.fix) (own_of c.args.command.now) c.args.numbers.now c.audit.result c.in-AuditVolume.ensures refl
    (subst (λ (k : ℕ). Call g.P.Stepper.did c.args.p.now c.audit.new.p (λ events. Gives (VolumeAudit c.in-AuditVolume.fix k) Audited events c.audit.result)) c.the_number-in-AuditVolume.ensures c.audit.ensures.audits)
