use Rattle.std.proofs.Common.{refl}
use Rattle.real_edge.specs.Desks.{desk_of}
use Rattle.real_edge.proofs.Keeps.{told_from, holds_worse}
use Rattle.real_edge.proofs.OpenFiles.{told_joined}
use Rattle.real_edge.proofs.store.sync.Goals as goal

pub returns-then-is_lost-clause-told : goal.returns-then-is_lost-clause-told
returns-then-is_lost-clause-told g c = told_from (g.F.Files.told c.args.folder.now.files) (g.F.Files.told c.enter.new.folder.files) c.enter.ensures.told (λ old new enters seen holds. record {
  holds = holds_worse g.F.Files.label_of _ (desk_of c.enter.new.folder) c.enter.new.ledger c.give_up.new.ledger new seen c.give_up.ensures.worse (enters seen holds);
  is_one = refl;
})

pub returns-in-Ok-clause-told : goal.returns-in-Ok-clause-told
returns-in-Ok-clause-told g c = told_joined (g.F.Files.told c.args.folder.now.files) (g.F.Files.told c.enter.new.folder.files) (g.F.Files.told c.sync_in.new.folder.files) c.enter.ensures.told c.in-Ok.ensures.told (λ old mid new enters syncs seen holds. record {
  holds = syncs seen (enters seen holds);
  is_one = refl;
})

pub returns-in-Err-clause-told : goal.returns-in-Err-clause-told
returns-in-Err-clause-told g c = told_joined (g.F.Files.told c.args.folder.now.files) (g.F.Files.told c.enter.new.folder.files) (g.F.Files.told c.sync_in.new.folder.files) c.enter.ensures.told c.in-Err.ensures.told (λ old mid new enters syncs seen holds. record {
  holds = syncs seen (enters seen holds) c.give_up-in-Err.new.ledger c.give_up-in-Err.ensures.worse c.give_up-in-Err.ensures.lost;
  is_one = refl;
})
