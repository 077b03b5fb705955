use Rattle.real_edge.proofs.OpenFiles.{told_joined}
use Rattle.real_edge.proofs.Tellings.{known_answer}
use Rattle.real_edge.proofs.store.read.Goals as goal

pub returns-clause-told : goal.returns-clause-told
returns-clause-told g c = told_joined (g.F.Files.told c.args.folder.now.files) (g.F.Files.told c.enter.new.folder.files) (g.F.Files.told c.read_in.new.folder.files) c.enter.ensures.told c.read_in.ensures.told (λ old mid new enters keeps seen holds. keeps seen (enters seen holds))

pub returns-clause-bytes : goal.returns-clause-bytes
returns-clause-bytes g c = known_answer c.read_in.result (g.F.Files.told c.args.folder.now.files) (g.F.Files.told c.enter.new.folder.files) c.enter.ensures.told c.read_in.ensures.bytes (λ v old mid enters known seen holds. known seen (enters seen holds))
