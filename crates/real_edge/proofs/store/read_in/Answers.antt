use Rattle.std.proofs.Common.{refl}
use Rattle.real_edge.proofs.Keeps.{told_from}
use Rattle.real_edge.proofs.Fills.{known_more}
use Rattle.real_edge.proofs.Looking.{keeps_open, read_reached, none_reached, none_read}
use Rattle.real_edge.proofs.store.read_in.Goals as goal

pub returns-in-Ok-clause-told : goal.returns-in-Ok-clause-told
returns-in-Ok-clause-told g c = keeps_open g.F.Files.label_of c.args.file c.in-Ok-Some.field-0 c.in-Ok-Some.handle c.args.folder.now c.reach.new.folder _ c.args.ledger.now c.reach.new.ledger (g.F.Files.told c.args.folder.now.files) (g.F.Files.told c.reach.new.folder.files) (g.F.Files.told c.read_from-answer.new.files) refl refl
    (c.keep.ensures.named g.F.Files.label_of) c.in-Ok-Some.field-0-is c.in-Ok-Some.ensures.told c.read_from-answer.ensures.told

pub returns-in-Ok-clause-bytes : goal.returns-in-Ok-clause-bytes
returns-in-Ok-clause-bytes g c = read_reached g.F.Files.label_of c.args.file c.in-Ok-Some.field-0 c.in-Ok-Some.handle c.args.folder.now c.reach.new.folder c.args.ledger.now c.reach.new.ledger c.args.offset c.read_from-answer.new.into c.in-Ok.count (g.F.Files.told c.args.folder.now.files) (g.F.Files.told c.reach.new.folder.files) c.ranges.file.fits
    c.in-Ok-Some.ensures.used c.in-Ok-Some.field-0-is c.in-Ok-Some.ensures.told c.in-Ok.ensures.bytes

pub returns-in-Err-answer-clause-told : goal.returns-in-Err-answer-clause-told
returns-in-Err-answer-clause-told g c = keeps_open g.F.Files.label_of c.args.file c.in-Ok-Some.field-0 c.in-Ok-Some.handle c.args.folder.now c.reach.new.folder _ c.args.ledger.now c.reach.new.ledger (g.F.Files.told c.args.folder.now.files) (g.F.Files.told c.reach.new.folder.files) (g.F.Files.told c.read_from-answer.new.files) refl refl
    (c.keep.ensures.named g.F.Files.label_of) c.in-Ok-Some.field-0-is c.in-Ok-Some.ensures.told c.read_from-answer.ensures.told

pub returns-in-Ok-None-clause-told : goal.returns-in-Ok-None-clause-told
returns-in-Ok-None-clause-told g c = told_from (g.F.Files.told c.args.folder.now.files) (g.F.Files.told c.reach.new.folder.files) c.in-Ok-None.ensures.told (λ old new reaches seen holds. (reaches seen holds).holds)

pub returns-in-Ok-None-clause-bytes : goal.returns-in-Ok-None-clause-bytes
returns-in-Ok-None-clause-bytes g c = known_more (g.F.Files.told c.args.folder.now.files) (none_reached g.F.Files.label_of c.args.file c.in-Ok-None.field-0 c.args.folder.now c.reach.new.folder c.args.ledger.now c.reach.new.ledger (g.F.Files.told c.args.folder.now.files) (g.F.Files.told c.reach.new.folder.files) c.ranges.file.fits c.in-Ok-None.field-0-is c.in-Ok-None.ensures.told)
    (λ old none seen holds. none_read (seen c.args.file).bytes c.args.into.now c.args.offset (none seen holds))

pub returns-in-Err-clause-told : goal.returns-in-Err-clause-told
returns-in-Err-clause-told g c = told_from (g.F.Files.told c.args.folder.now.files) (g.F.Files.told c.reach.new.folder.files) c.in-Err.ensures.told (λ old new reaches seen holds. (reaches seen holds).holds)
