use Rattle.std.proofs.Common.{subst, false}
use Rattle.real_edge.proofs.Keeps.{told_from, holds_synced, holds_lost}
use Rattle.files_api.specs.Calls.{IsUsable, Becomes}
use Rattle.files_api.specs.Folder.{with_change, Label}
use Rattle.store_api.specs.Disk.{settle}
use Rattle.real_edge.proofs.folder.Folder.sync_changed.Goals as goal

pub returns-in-Ok-clause-told : goal.returns-in-Ok-clause-told
returns-in-Ok-clause-told g c = told_from (g.F.Files.told c.args.self.now.files) (g.F.Files.told c.sync.new.self) c.in-Ok.ensures.told (λ old new syncs faults seen used named holds.
    holds_synced g.F.Files.label_of _ _ faults old new c.args.file seen c.ranges.file.fits used holds holds.named (λ all. all) c.unmark.ensures.others
    (subst (λ (label : Label). IsUsable old label → Becomes label.name (with_change settle (old.files label.name)) old new) named syncs))

pub returns-in-Err-clause-told : goal.returns-in-Err-clause-told
returns-in-Err-clause-told g c = told_from (g.F.Files.told c.args.self.now.files) (g.F.Files.told c.sync.new.self) c.in-Err.ensures.told (λ old new syncs faults seen used named holds after worse lost.
    holds_lost g.F.Files.label_of _ faults after old new c.args.file seen c.ranges.file.fits used worse lost holds
    (subst (λ (label : Label). IsUsable old label → Becomes label.name (record (old.files label.name) { is_sound = false }) old new) named syncs))
