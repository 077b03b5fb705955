use Rattle.std.proofs.Common.{sym, subst, Option}
use Rattle.store_api.specs.Told.{MayWrite}
use Rattle.real_edge.specs.Past.{Told as Past}
use Rattle.real_edge.specs.Kept.{Tells, TellsTrue}
use Rattle.real_edge.specs.Desks.{desk_of}
use Rattle.real_edge.proofs.Causes.{rose_in}
use Rattle.real_edge.proofs.Pasts.{tells_on, tells_still, small_write, told_call}
use Rattle.real_edge.proofs.store.FolderStoreStore.write_at.Goals as goal

pub invariant_of-self : goal.invariant_of-self
invariant_of-self g c = subst (λ (past : Option Past). Tells (g.F.Files.told c.write-answer.new.folder.files) past (TellsTrue g.F.Files.label_of c.write-answer.new.is_entered (desk_of c.write-answer.new.folder) c.end.new.ledger c.end.new.count)) (sym c.then-self-inside.ensures)
    (tells_still g.F.Files.label_of c.self.inside.is_entered c.write-answer.new.is_entered (desk_of c.self.inside.folder) c.write-answer.new.folder c.self.inside.ledger c.write-answer.new.ledger c.end.new.ledger c.self.inside.count c.end.new.count c.write-answer.result.step (MayWrite c.args.file c.args.offset c.args.bytes.now c.write-answer.result.answer) (g.F.Files.told c.self.inside.folder.files) (g.F.Files.told c.write-answer.new.folder.files) c.self.inside.past.told
    c.write-answer.ensures.entered c.end.ensures.worse c.end.ensures.time (small_write c.args.file c.args.offset c.args.bytes.now c.write-answer.result.answer c.ranges.file.fits) c.self.invariant c.write-answer.ensures.told)

pub returns-clause-told : goal.returns-clause-told
returns-clause-told g c = told_call (MayWrite c.args.file c.args.offset c.args.bytes.now) c.end.result c.write-answer.result.answer _ c.args.self.now _ _ c.self.view_is c.end.ensures.same c.then-self-inside.ensures
    (tells_on g.F.Files.label_of c.self.inside.is_entered (desk_of c.self.inside.folder) c.write-answer.new.folder c.self.inside.ledger c.write-answer.new.ledger c.self.inside.count c.write-answer.result.step (MayWrite c.args.file c.args.offset c.args.bytes.now c.write-answer.result.answer) (g.F.Files.told c.self.inside.folder.files) (g.F.Files.told c.write-answer.new.folder.files) c.self.inside.past.told c.self.invariant c.write-answer.ensures.told)

pub returns-clause-cause : goal.returns-clause-cause
returns-clause-cause g c = rose_in c.end.result c.args.file _ _ c.write-answer.new.ledger c.end.new.ledger c.self.view_is c.write-answer.ensures.counts c.end.ensures.cause
