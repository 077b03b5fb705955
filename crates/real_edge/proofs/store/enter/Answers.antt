use Rattle.std.proofs.Common.{Bool, subst}
use Rattle.real_edge.specs.Desks.{desk_of}
use Rattle.real_edge.specs.Holds.{Holds}
use Rattle.real_edge.proofs.Keeps.{told_from}
use Rattle.real_edge.proofs.Tellings.{told_same}
use Rattle.real_edge.proofs.store.enter.Goals as goal

pub returns-then-is_entered-clause-told : goal.returns-then-is_entered-clause-told
returns-then-is_entered-clause-told g c = told_same _ (g.F.Files.told c.args.folder.now.files) (λ old seen holds. subst (λ (b : Bool). Holds g.F.Files.label_of b (desk_of c.args.folder.now) c.args.ledger.now old seen) c.if-is_entered.true holds)

pub returns-in-Ok-clause-told : goal.returns-in-Ok-clause-told
returns-in-Ok-clause-told g c = told_from (g.F.Files.told c.args.folder.now.files) (g.F.Files.told c.enter.new.self.files) c.in-Ok.ensures.told (λ old new enters seen holds.
    enters c.args.ledger.now seen (subst (λ (b : Bool). Holds g.F.Files.label_of b (desk_of c.args.folder.now) c.args.ledger.now old seen) c.if-is_entered.false holds))

pub returns-in-Err-clause-told : goal.returns-in-Err-clause-told
returns-in-Err-clause-told g c = told_from (g.F.Files.told c.args.folder.now.files) (g.F.Files.told c.enter.new.self.files) c.in-Err.ensures.told (λ old new enters seen holds.
    enters c.args.ledger.now seen (subst (λ (b : Bool). Holds g.F.Files.label_of b (desk_of c.args.folder.now) c.args.ledger.now old seen) c.if-is_entered.false holds) c.lose_all.new.self c.lose_all.ensures.worse c.lose_all.ensures.all)
