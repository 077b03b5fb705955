use Rattle.std.proofs.Common.{refl, sym, ap, length}
use Rattle.real_edge.proofs.Keeps.{told_from}
use Rattle.real_edge.proofs.Fills.{known_more}
use Rattle.real_edge.proofs.Looking.{keeps_open, length_reached, none_reached}
use Rattle.real_edge.proofs.store.length_in.Goals as goal

pub returns-in-Ok-clause-told : goal.returns-in-Ok-clause-told
returns-in-Ok-clause-told g c = keeps_open g.F.Files.label_of c.args.file c.in-Ok-Some.field-0 c.in-Ok-Some.handle c.args.folder.now c.reach.new.folder _ c.args.ledger.now c.reach.new.ledger (g.F.Files.told c.args.folder.now.files) (g.F.Files.told c.reach.new.folder.files) (g.F.Files.told c.len-answer.new.self) refl refl
    (c.keep.ensures.named g.F.Files.label_of) c.in-Ok-Some.field-0-is c.in-Ok-Some.ensures.told c.len-answer.ensures.told

pub returns-in-Ok-clause-value : goal.returns-in-Ok-clause-value
returns-in-Ok-clause-value g c = length_reached g.F.Files.label_of c.args.file c.in-Ok-Some.field-0 c.in-Ok-Some.handle c.args.folder.now c.reach.new.folder c.args.ledger.now c.reach.new.ledger c.in-Ok.len (g.F.Files.told c.args.folder.now.files) (g.F.Files.told c.reach.new.folder.files) c.ranges.file.fits
    c.in-Ok-Some.ensures.used c.in-Ok-Some.field-0-is c.in-Ok-Some.ensures.told c.in-Ok.ensures.length

pub returns-in-Err-answer-clause-told : goal.returns-in-Err-answer-clause-told
returns-in-Err-answer-clause-told g c = keeps_open g.F.Files.label_of c.args.file c.in-Ok-Some.field-0 c.in-Ok-Some.handle c.args.folder.now c.reach.new.folder _ c.args.ledger.now c.reach.new.ledger (g.F.Files.told c.args.folder.now.files) (g.F.Files.told c.reach.new.folder.files) (g.F.Files.told c.len-answer.new.self) refl refl
    (c.keep.ensures.named g.F.Files.label_of) c.in-Ok-Some.field-0-is c.in-Ok-Some.ensures.told c.len-answer.ensures.told

pub returns-in-Ok-None-clause-told : goal.returns-in-Ok-None-clause-told
returns-in-Ok-None-clause-told g c = told_from (g.F.Files.told c.args.folder.now.files) (g.F.Files.told c.reach.new.folder.files) c.in-Ok-None.ensures.told (λ old new reaches seen holds. (reaches seen holds).holds)

pub returns-in-Ok-None-clause-value : goal.returns-in-Ok-None-clause-value
returns-in-Ok-None-clause-value g c = known_more (g.F.Files.told c.args.folder.now.files) (none_reached g.F.Files.label_of c.args.file c.in-Ok-None.field-0 c.args.folder.now c.reach.new.folder c.args.ledger.now c.reach.new.ledger (g.F.Files.told c.args.folder.now.files) (g.F.Files.told c.reach.new.folder.files) c.ranges.file.fits c.in-Ok-None.field-0-is c.in-Ok-None.ensures.told)
    (λ old none seen holds. sym (ap length (none seen holds)))

pub returns-in-Err-clause-told : goal.returns-in-Err-clause-told
returns-in-Err-clause-told g c = told_from (g.F.Files.told c.args.folder.now.files) (g.F.Files.told c.reach.new.folder.files) c.in-Err.ensures.told (λ old new reaches seen holds. (reaches seen holds).holds)
