use Rattle.store_api.specs.declared.store.Failed.{Failed}
use Rattle.real_edge.proofs.Keeps.{told_from}
use Rattle.real_edge.proofs.OpenFiles.{told_joined}
use Rattle.real_edge.proofs.Tellings.{told_same}
use Rattle.real_edge.proofs.Ends.{ends_idle, refused_write, ends_unwritten, is_none, got_there}
use Rattle.real_edge.proofs.store.write_in.Goals as goal

pub returns-then-not-has_room-clause-told : goal.returns-then-not-has_room-clause-told
returns-then-not-has_room-clause-told g c = told_same _ (g.F.Files.told c.args.folder.now.files) (λ old seen holds.
    ends_idle g.F.Files.label_of c.refused.result.step _ c.args.folder.now c.args.ledger.now old seen c.refused.ensures.step (refused_write c.args.file c.args.offset c.args.bytes.now c.refused.result.answer c.refused.ensures.answer) holds)

pub returns-in-Ok-Some-clause-told : goal.returns-in-Ok-Some-clause-told
returns-in-Ok-Some-clause-told g c = told_joined (g.F.Files.told c.args.folder.now.files) (g.F.Files.told c.reach.new.folder.files) (g.F.Files.told c.write_open.new.folder.files) c.in-Ok-Some.ensures.told c.write_open.ensures.told (λ old mid new reaches writes seen holds.
    let there = reaches seen holds in
    writes c.reach.new.ledger seen c.in-Ok-Some.ensures.used (got_there Failed g.F.Files.label_of c.args.file c.in-Ok-Some.field-0 c.in-Ok-Some.handle mid c.in-Ok-Some.field-0-is there.got) there.holds)

pub returns-in-Ok-None-clause-told : goal.returns-in-Ok-None-clause-told
returns-in-Ok-None-clause-told g c = told_from (g.F.Files.told c.args.folder.now.files) (g.F.Files.told c.reach.new.folder.files) c.in-Ok-None.ensures.told (λ old new reaches seen holds.
    ends_unwritten g.F.Files.label_of c.args.file c.args.offset c.args.bytes.now c.reach.new.folder c.reach.new.ledger new seen c.ranges.file.fits (is_none c.args.bytes.now c.if-is_empty.ensures) (reaches seen holds).holds)

pub returns-in_default-clause-told : goal.returns-in_default-clause-told
returns-in_default-clause-told g c = told_from (g.F.Files.told c.args.folder.now.files) (g.F.Files.told c.reach.new.folder.files) c.reach.ensures.told (λ old new reaches seen holds.
    ends_idle g.F.Files.label_of c.refused-in_default.result.step _ c.reach.new.folder c.reach.new.ledger new seen c.refused-in_default.ensures.step (refused_write c.args.file c.args.offset c.args.bytes.now c.refused-in_default.result.answer c.refused-in_default.ensures.answer) (reaches seen holds).holds)
