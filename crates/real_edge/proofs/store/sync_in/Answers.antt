use Rattle.std.proofs.Common.{List, ℕ, IsTrue, subst, sym}
use Rattle.store_api.specs.declared.store.Failed.{Failed}
use Rattle.real_edge.specs.Holds.{has}
use Rattle.real_edge.specs.Desks.{desk_of}
use Rattle.real_edge.proofs.Keeps.{told_from, holds_worse}
use Rattle.real_edge.proofs.OpenFiles.{told_joined}
use Rattle.real_edge.proofs.Tellings.{told_same, told_three}
use Rattle.real_edge.proofs.Ends.{holds_settled, holds_missing, got_there, got_none}
use Rattle.real_edge.proofs.store.sync_in.Goals as goal

pub returns-then-is_clean-clause-told : goal.returns-then-is_clean-clause-told
returns-then-is_clean-clause-told g c = told_same _ (g.F.Files.told c.args.folder.now.files) (λ old seen holds.
    holds_settled g.F.Files.label_of (desk_of c.args.folder.now) c.args.ledger.now old c.args.file seen c.ranges.file.fits (c.is_clean.ensures.unchanged c.if-is_clean.true) (c.is_clean.ensures.synced c.if-is_clean.true) holds)

pub returns-in-Ok-sync_names-clause-told : goal.returns-in-Ok-sync_names-clause-told
returns-in-Ok-sync_names-clause-told g c = told_three (g.F.Files.told c.args.folder.now.files) (g.F.Files.told c.reach.new.folder.files) (g.F.Files.told c.sync_open.new.folder.files) (g.F.Files.told c.sync_names.new.folder.files) c.in-Ok-Some.ensures.told c.in-Ok.ensures.told c.in-Ok-sync_names.ensures.told (λ old mid done new reaches syncs names seen holds.
    let there = reaches seen holds in
    holds_settled g.F.Files.label_of (desk_of c.sync_names.new.folder) c.sync_names.new.ledger new c.args.file seen c.ranges.file.fits (subst (λ (files : List ℕ). ¬ IsTrue (has files c.args.file)) (sym c.sync_names.ensures.changed) c.in-Ok.ensures.unchanged) c.in-Ok-sync_names.ensures.synced
    (names seen (syncs c.reach.new.ledger seen c.in-Ok-Some.ensures.used (got_there Failed g.F.Files.label_of c.args.file c.in-Ok-Some.field-0 c.in-Ok-Some.handle mid c.in-Ok-Some.field-0-is there.got) there.holds)))

pub returns-in-Err-sync_names-clause-told : goal.returns-in-Err-sync_names-clause-told
returns-in-Err-sync_names-clause-told g c = told_three (g.F.Files.told c.args.folder.now.files) (g.F.Files.told c.reach.new.folder.files) (g.F.Files.told c.sync_open.new.folder.files) (g.F.Files.told c.sync_names.new.folder.files) c.in-Ok-Some.ensures.told c.in-Ok.ensures.told c.in-Err-sync_names.ensures.told (λ old mid done new reaches syncs names seen holds after worse lost.
    let there = reaches seen holds in
    holds_worse g.F.Files.label_of _ (desk_of c.sync_names.new.folder) c.sync_names.new.ledger after new seen worse (names seen (syncs c.reach.new.ledger seen c.in-Ok-Some.ensures.used (got_there Failed g.F.Files.label_of c.args.file c.in-Ok-Some.field-0 c.in-Ok-Some.handle mid c.in-Ok-Some.field-0-is there.got) there.holds)))

pub returns-in-Err-sync_open-clause-told : goal.returns-in-Err-sync_open-clause-told
returns-in-Err-sync_open-clause-told g c = told_joined (g.F.Files.told c.args.folder.now.files) (g.F.Files.told c.reach.new.folder.files) (g.F.Files.told c.sync_open.new.folder.files) c.in-Ok-Some.ensures.told c.in-Err-sync_open.ensures.told (λ old mid new reaches syncs seen holds after worse lost.
    let there = reaches seen holds in
    syncs c.reach.new.ledger seen c.in-Ok-Some.ensures.used (got_there Failed g.F.Files.label_of c.args.file c.in-Ok-Some.field-0 c.in-Ok-Some.handle mid c.in-Ok-Some.field-0-is there.got) there.holds after worse lost)

pub returns-in-Ok-None-clause-told : goal.returns-in-Ok-None-clause-told
returns-in-Ok-None-clause-told g c = told_from (g.F.Files.told c.args.folder.now.files) (g.F.Files.told c.reach.new.folder.files) c.in-Ok-None.ensures.told (λ old new reaches seen holds.
    let there = reaches seen holds in
    holds_missing g.F.Files.label_of (desk_of c.reach.new.folder) c.reach.new.ledger new c.args.file seen c.ranges.file.fits (got_none Failed g.F.Files.label_of c.args.file c.in-Ok-None.field-0 new c.in-Ok-None.field-0-is there.got) there.holds)

pub returns-in-Err-clause-told : goal.returns-in-Err-clause-told
returns-in-Err-clause-told g c = told_from (g.F.Files.told c.args.folder.now.files) (g.F.Files.told c.reach.new.folder.files) c.in-Err.ensures.told (λ old new reaches seen holds after worse lost.
    holds_worse g.F.Files.label_of _ (desk_of c.reach.new.folder) c.reach.new.ledger after new seen worse (reaches seen holds).holds)
