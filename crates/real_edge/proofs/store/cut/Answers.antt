use Rattle.real_edge.proofs.Keeps.{told_from}
use Rattle.real_edge.proofs.OpenFiles.{told_joined}
use Rattle.real_edge.proofs.Ends.{ends_idle, refused_cut}
use Rattle.real_edge.proofs.store.cut.Goals as goal

pub returns-then-is_lost-clause-told : goal.returns-then-is_lost-clause-told
returns-then-is_lost-clause-told g c = told_from (g.F.Files.told c.args.folder.now.files) (g.F.Files.told c.enter.new.folder.files) c.enter.ensures.told (λ old new enters seen holds.
    ends_idle g.F.Files.label_of c.refused.result.step _ c.enter.new.folder c.enter.new.ledger new seen c.refused.ensures.step (refused_cut c.args.file c.args.len c.refused.result.answer c.refused.ensures.answer) (enters seen holds))

pub returns-clause-told : goal.returns-clause-told
returns-clause-told g c = told_joined (g.F.Files.told c.args.folder.now.files) (g.F.Files.told c.enter.new.folder.files) (g.F.Files.told c.cut_in.new.folder.files) c.enter.ensures.told c.cut_in.ensures.told (λ old mid new enters ends seen holds. ends seen (enters seen holds))
