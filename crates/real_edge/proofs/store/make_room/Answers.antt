use Rattle.std.proofs.Common.{refl}
use Rattle.real_edge.proofs.Keeps.{told_from}
use Rattle.real_edge.proofs.Ends.{holds_pool}
use Rattle.real_edge.proofs.Tellings.{told_same}
use Rattle.real_edge.proofs.store.make_room.Goals as goal

pub returns-in-Some-clause-told : goal.returns-in-Some-clause-told
returns-in-Some-clause-told g c = told_from (g.F.Files.told c.args.folder.now.files) (g.F.Files.told c.close.new.folder.files) c.close.ensures.told (λ old new closes seen holds.
    closes seen (c.in-Some.ensures.found g.F.Files.label_of holds.named) (holds_pool refl refl (c.take_oldest.ensures.named g.F.Files.label_of holds.named) holds))

pub returns-in_default-clause-told : goal.returns-in_default-clause-told
returns-in_default-clause-told g c = told_same _ (g.F.Files.told c.args.folder.now.files) (λ old seen holds. holds_pool refl refl (c.take_oldest.ensures.named g.F.Files.label_of holds.named) holds)
