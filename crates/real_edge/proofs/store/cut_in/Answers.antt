use Rattle.store_api.specs.declared.store.Failed.{Failed}
use Rattle.real_edge.proofs.Keeps.{told_from}
use Rattle.real_edge.proofs.OpenFiles.{told_joined}
use Rattle.real_edge.proofs.Ends.{ends_idle, refused_cut, ends_uncut, got_there, got_none}
use Rattle.real_edge.proofs.store.cut_in.Goals as goal

pub returns-in-Ok-Some-clause-told : goal.returns-in-Ok-Some-clause-told
returns-in-Ok-Some-clause-told g c = told_joined (g.F.Files.told c.args.folder.now.files) (g.F.Files.told c.reach.new.folder.files) (g.F.Files.told c.cut_open.new.folder.files) c.in-Ok-Some.ensures.told c.cut_open.ensures.told (λ old mid new reaches cuts seen holds.
    let there = reaches seen holds in
    cuts c.reach.new.ledger seen c.in-Ok-Some.ensures.used (got_there Failed g.F.Files.label_of c.args.file c.in-Ok-Some.field-0 c.in-Ok-Some.handle mid c.in-Ok-Some.field-0-is there.got) there.holds)

pub returns-in-Ok-None-clause-told : goal.returns-in-Ok-None-clause-told
returns-in-Ok-None-clause-told g c = told_from (g.F.Files.told c.args.folder.now.files) (g.F.Files.told c.reach.new.folder.files) c.in-Ok-None.ensures.told (λ old new reaches seen holds.
    let there = reaches seen holds in
    ends_uncut g.F.Files.label_of c.args.file c.args.len c.reach.new.folder c.reach.new.ledger new seen c.ranges.file.fits (got_none Failed g.F.Files.label_of c.args.file c.in-Ok-None.field-0 new c.in-Ok-None.field-0-is there.got) there.holds)

pub returns-in-Err-clause-told : goal.returns-in-Err-clause-told
returns-in-Err-clause-told g c = told_from (g.F.Files.told c.args.folder.now.files) (g.F.Files.told c.reach.new.folder.files) c.in-Err.ensures.told (λ old new reaches seen holds.
    ends_idle g.F.Files.label_of c.refused.result.step _ c.reach.new.folder c.reach.new.ledger new seen c.refused.ensures.step (refused_cut c.args.file c.args.len c.refused.result.answer c.refused.ensures.answer) (reaches seen holds).holds)
