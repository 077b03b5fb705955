use Rattle.std.proofs.Common.{refl}
use Rattle.files_api.specs.declared.files.Failed.{Failed}
use Rattle.real_edge.proofs.Keeps.{told_from, not_all}
use Rattle.real_edge.proofs.Ends.{is_used, holds_pool, got_there, got_none}
use Rattle.real_edge.proofs.OpenFiles.{told_joined}
use Rattle.real_edge.proofs.Tellings.{told_same, told_three}
use Rattle.real_edge.proofs.store.reach.Goals as goal

pub returns-in-Some-clause-told : goal.returns-in-Some-clause-told
returns-in-Some-clause-told g c = told_same _ (g.F.Files.told c.args.folder.now.files) (λ old seen holds. record {
  holds = holds_pool refl refl (c.take.ensures.named g.F.Files.label_of holds.named) holds;
  got = c.in-Some.ensures.found g.F.Files.label_of holds.named;
})

pub returns-then-is_lost-clause-told : goal.returns-then-is_lost-clause-told
returns-then-is_lost-clause-told g c = told_from (g.F.Files.told c.args.folder.now.files) (g.F.Files.told c.make_room.new.folder.files) c.make_room.ensures.told (λ old new keeps seen holds. record {
  holds = keeps seen (holds_pool refl refl (c.take.ensures.named g.F.Files.label_of holds.named) holds);
  got = tt;
})

pub returns-in-Ok-Some-clause-told : goal.returns-in-Ok-Some-clause-told
returns-in-Ok-Some-clause-told g c = told_three (g.F.Files.told c.args.folder.now.files) (g.F.Files.told c.make_room.new.folder.files) (g.F.Files.told c.fetch.new.self.files) (g.F.Files.told c.settle.new.folder.files) c.make_room.ensures.told c.in-Ok-Some.ensures.told c.settle.ensures.told (λ old room mid new keeps fetches settles seen holds.
    let fetched = fetches c.make_room.new.ledger seen (not_all c.make_room.new.ledger c.args.file (is_used c.make_room.new.ledger c.args.file c.is_lost.result c.is_lost.ensures c.if-is_lost.false)) (keeps seen (holds_pool refl refl (c.take.ensures.named g.F.Files.label_of holds.named) holds)) in
    settles seen (got_there Failed g.F.Files.label_of c.args.file c.in-Ok-Some.field-0 c.in-Ok-Some.handle mid c.in-Ok-Some.field-0-is fetched.got) fetched.holds)

pub returns-in-Ok-None-clause-told : goal.returns-in-Ok-None-clause-told
returns-in-Ok-None-clause-told g c = told_joined (g.F.Files.told c.args.folder.now.files) (g.F.Files.told c.make_room.new.folder.files) (g.F.Files.told c.fetch.new.self.files) c.make_room.ensures.told c.in-Ok-None.ensures.told (λ old mid new keeps fetches seen holds.
    let fetched = fetches c.make_room.new.ledger seen (not_all c.make_room.new.ledger c.args.file (is_used c.make_room.new.ledger c.args.file c.is_lost.result c.is_lost.ensures c.if-is_lost.false)) (keeps seen (holds_pool refl refl (c.take.ensures.named g.F.Files.label_of holds.named) holds)) in
    record { holds = fetched.holds; got = got_none Failed g.F.Files.label_of c.args.file c.in-Ok-None.field-0 new c.in-Ok-None.field-0-is fetched.got })

pub returns-in-Err-clause-told : goal.returns-in-Err-clause-told
returns-in-Err-clause-told g c = told_joined (g.F.Files.told c.args.folder.now.files) (g.F.Files.told c.make_room.new.folder.files) (g.F.Files.told c.fetch.new.self.files) c.make_room.ensures.told c.in-Err.ensures.told (λ old mid new keeps fetches seen holds.
    let fetched = fetches c.make_room.new.ledger seen (not_all c.make_room.new.ledger c.args.file (is_used c.make_room.new.ledger c.args.file c.is_lost.result c.is_lost.ensures c.if-is_lost.false)) (keeps seen (holds_pool refl refl (c.take.ensures.named g.F.Files.label_of holds.named) holds)) in
    record { holds = fetched.holds; got = tt })
