use Rattle.std.proofs.Common.{subst}
use Rattle.std.specs.Prelude.{Any}
use Rattle.backup_payloads.specs.Holding.{IsLong}
use Rattle.hall.proofs.Following.{count_few, count_numbered, none_behind, none_long, not_long, short_behind, spelled_behind}
use Rattle.hall.proofs.parts.Parts.since_payload.Goals as goal

pub encode_increment_and-requires-clause-few : goal.encode_increment_and-requires-clause-few
encode_increment_and-requires-clause-few c = count_few c.args.self.now c.args.number c.behind.result.now c.requires.from c.requires.to c.requires.few c.requires.numbered c.behind.ensures

pub encode_increment_and-requires-clause-numbered : goal.encode_increment_and-requires-clause-numbered
encode_increment_and-requires-clause-numbered c = count_numbered c.args.self.now c.args.number c.behind.result.now c.requires.from c.requires.to c.requires.few c.requires.numbered c.behind.ensures

pub returns-clause-spelled : goal.returns-clause-spelled
returns-clause-spelled c =
    spelled_behind (λ bytes. bytes.items) c.args.after c.args.number c.behind.result.now _ c.args.entry.now c.encode_increment_and.result c.behind.ensures c.encode_increment_and.ensures.spelled

pub returns-clause-fits : goal.returns-clause-fits
returns-clause-fits c = short_behind c.behind.result.now _ c.args.entry.now c.encode_increment_and.result c.behind.ensures c.encode_increment_and.ensures.short

pub returns-clause-memory : goal.returns-clause-memory
returns-clause-memory c =
    none_long (Any IsLong c.behind.result.now) (IsLong c.args.entry.now) c.encode_increment_and.result
    (λ long. none_behind _ c.args.self.now.vault.journal c.requires.short (subst (Any IsLong) c.behind.ensures long)) (not_long c.args.entry.now c.requires.last) c.encode_increment_and.ensures.full
