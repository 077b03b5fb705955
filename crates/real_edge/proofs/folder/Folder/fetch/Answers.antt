use Rattle.std.proofs.Common.{subst, sym, true}
use Rattle.real_edge.proofs.OpenFiles.{told_joined}
use Rattle.real_edge.specs.Holds.{Holds}
use Rattle.real_edge.specs.Desks.{desk_of}
use Rattle.files_api.specs.Folder.{Folder}
use Rattle.real_edge.proofs.folder.Folder.fetch.Goals as goal

pub returns-in-Ok-None : goal.returns-in-Ok-None
returns-in-Ok-None g c = record {
  told = told_joined (g.F.Files.told c.args.self.now.files) (g.F.Files.told c.open.new.self) (g.F.Files.told c.make.new.self.files) c.in-Ok-None.ensures.told c.make.ensures.told (λ old mid new looks makes faults seen used holds.
      let made = makes faults seen used (subst (λ (folder : Folder). Holds g.F.Files.label_of true (desk_of c.args.self.now) faults folder seen) (sym looks) holds) in
      record { holds = made.holds; got = made.got });
}
