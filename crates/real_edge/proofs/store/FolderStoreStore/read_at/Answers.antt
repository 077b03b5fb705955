use Rattle.std.proofs.Common.{◌≡◌, sym, subst, Option}
use Rattle.store_api.specs.Disk.{idle}
use Rattle.real_edge.specs.declared.past.Step.TheVariants.{Look}
use Rattle.real_edge.specs.Past.{Told as Past}
use Rattle.real_edge.specs.Kept.{Tells, TellsTrue}
use Rattle.real_edge.specs.Desks.{desk_of}
use Rattle.real_edge.proofs.Causes.{rose_in}
use Rattle.real_edge.proofs.Pasts.{ends_looked, tells_still, small_look}
use Rattle.real_edge.proofs.store.FolderStoreStore.read_at.Goals as goal

pub invariant_of-self : goal.invariant_of-self
invariant_of-self g c = subst (λ (past : Option Past). Tells (g.F.Files.told c.read-answer.new.folder.files) past (TellsTrue g.F.Files.label_of c.read-answer.new.is_entered (desk_of c.read-answer.new.folder) c.end.new.ledger c.end.new.count)) (sym c.then-self-inside.ensures)
    (tells_still g.F.Files.label_of c.self.inside.is_entered c.read-answer.new.is_entered (desk_of c.self.inside.folder) c.read-answer.new.folder c.self.inside.ledger c.read-answer.new.ledger c.end.new.ledger c.self.inside.count c.end.new.count Look (λ call. call ≡ idle) (g.F.Files.told c.self.inside.folder.files) (g.F.Files.told c.read-answer.new.folder.files) c.self.inside.past.told
    c.read-answer.ensures.entered c.end.ensures.worse c.end.ensures.time small_look c.self.invariant (ends_looked g.F.Files.label_of c.self.inside.is_entered (desk_of c.self.inside.folder) c.read-answer.new.folder c.self.inside.ledger c.read-answer.new.ledger (g.F.Files.told c.self.inside.folder.files) (g.F.Files.told c.read-answer.new.folder.files) c.read-answer.ensures.told))

pub returns-clause-cause : goal.returns-clause-cause
returns-clause-cause g c = rose_in c.end.result c.args.file _ _ c.read-answer.new.ledger c.end.new.ledger c.self.view_is c.read-answer.ensures.counts c.end.ensures.cause
