use Rattle.std.proofs.Common.{subst, false}
use Rattle.store_api.specs.Disk.{settle}
use Rattle.files_api.specs.Folder.{with_change, Label}
use Rattle.files_api.specs.Calls.{IsUsable, Becomes}
use Rattle.real_edge.proofs.Keeps.{told_from, holds_lost, holds_synced}
use Rattle.real_edge.proofs.OpenFiles.{told_joined}
use Rattle.real_edge.proofs.store.settle.Goals as goal

pub returns-in-Err-clause-told : goal.returns-in-Err-clause-told
returns-in-Err-clause-told g c = told_from (g.F.Files.told c.args.folder.now.files) (g.F.Files.told c.sync.new.self) c.in-Err.ensures.told (λ old new syncs seen named holds. record {
  holds = holds_lost g.F.Files.label_of _ c.args.ledger.now c.give_up.new.ledger old new c.args.file seen c.ranges.file.fits c.requires.used c.give_up.ensures.worse c.give_up.ensures.lost holds
      (subst (λ (label : Label). IsUsable old label → Becomes label.name (record (old.files label.name) { is_sound = false }) old new) named syncs);
  got = tt;
})

pub returns-in-Ok-sync_names-clause-told : goal.returns-in-Ok-sync_names-clause-told
returns-in-Ok-sync_names-clause-told g c = told_joined (g.F.Files.told c.args.folder.now.files) (g.F.Files.told c.sync.new.self) (g.F.Files.told c.sync_names.new.folder.files) c.in-Ok.ensures.told c.in-Ok-sync_names.ensures.told (λ old mid new syncs names seen named holds. record {
  holds = names seen (holds_synced g.F.Files.label_of _ _ c.args.ledger.now old mid c.args.file seen c.ranges.file.fits c.requires.used holds holds.named (λ all. all) (λ other apart marks. marks)
      (subst (λ (label : Label). IsUsable old label → Becomes label.name (with_change settle (old.files label.name)) old mid) named syncs));
  got = named;
})

pub returns-in-Err-sync_names-clause-told : goal.returns-in-Err-sync_names-clause-told
returns-in-Err-sync_names-clause-told g c = told_joined (g.F.Files.told c.args.folder.now.files) (g.F.Files.told c.sync.new.self) (g.F.Files.told c.sync_names.new.folder.files) c.in-Ok.ensures.told c.in-Err-sync_names.ensures.told (λ old mid new syncs names seen named holds. record {
  holds = names seen (holds_synced g.F.Files.label_of _ _ c.args.ledger.now old mid c.args.file seen c.ranges.file.fits c.requires.used holds holds.named (λ all. all) (λ other apart marks. marks)
      (subst (λ (label : Label). IsUsable old label → Becomes label.name (with_change settle (old.files label.name)) old mid) named syncs));
  got = tt;
})
