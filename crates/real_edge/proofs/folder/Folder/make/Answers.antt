use Rattle.std.proofs.Common.{◌≡◌, ◌⊎◌, List, ℕ, subst, refl}
use Rattle.real_edge.proofs.Keeps.{told_from, told_with, label_first, holds_new, holds_created}
use Rattle.files_api.specs.Calls.{Makes}
use Rattle.real_edge.proofs.folder.Folder.make.Goals as goal

pub returns-in-Ok : goal.returns-in-Ok
returns-in-Ok g c = record {
  told = told_with (g.F.Files.told c.args.self.now.files) (g.F.Files.told c.create.new.self) c.in-Ok.ensures.named c.in-Ok.ensures.told (λ old new named creates faults seen used holds. record {
    holds = holds_new g.F.Files.label_of _ faults old new c.args.file seen c.ranges.file.fits holds (subst (λ (name : List ℕ). Makes name old new) c.requires (creates (holds.stage.within refl used)));
    got = label_first old _ c.args.file _ holds.moves c.requires named;
  });
}

pub returns-in-Err : goal.returns-in-Err
returns-in-Err g c = record {
  told = told_from (g.F.Files.told c.args.self.now.files) (g.F.Files.told c.create.new.self) c.in-Err.ensures.told (λ old new creates faults seen used holds. record {
    holds = holds_created g.F.Files.label_of _ faults old new c.args.file seen c.ranges.file.fits holds (subst (λ (name : List ℕ). (new ≡ old) ⊎ Makes name old new) c.requires (creates (holds.stage.within refl used)));
    got = tt;
  });
}
