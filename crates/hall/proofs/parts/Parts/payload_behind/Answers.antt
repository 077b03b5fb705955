use Rattle.std.proofs.Common.{◌∙◌, Some, ap}
use Rattle.hall.specs.Held.{Held}
use Rattle.hall.proofs.Following.{follows_as, holds_behind, is_followed, short_as}
use Rattle.hall.proofs.parts.Parts.payload_behind.Goals as goal

pub followed_number-number-requires : goal.followed_number-number-requires
followed_number-number-requires c = is_followed c.args.entry.now.actor c.args.after c.args.self.now c.requires.free

pub since_payload-requires-clause-from : goal.since_payload-requires-clause-from
since_payload-requires-clause-from c =
    (follows_as c.args.entry.now.actor c.args.after c.followed_number-number.result c.args.self.now c.database.result.now (c.database.ensures ∙ ap (λ (h : Held). h.vault.database) c.self.view_is) c.tables-tables.ensures.valid c.requires.free c.requires.reached
    c.followed_number-number.ensures).from

pub since_payload-requires-clause-to : goal.since_payload-requires-clause-to
since_payload-requires-clause-to c =
    (follows_as c.args.entry.now.actor c.args.after c.followed_number-number.result c.args.self.now c.database.result.now (c.database.ensures ∙ ap (λ (h : Held). h.vault.database) c.self.view_is) c.tables-tables.ensures.valid c.requires.free c.requires.reached
    c.followed_number-number.ensures).to

pub since_payload-requires-clause-few : goal.since_payload-requires-clause-few
since_payload-requires-clause-few c =
    (follows_as c.args.entry.now.actor c.args.after c.followed_number-number.result c.args.self.now c.database.result.now (c.database.ensures ∙ ap (λ (h : Held). h.vault.database) c.self.view_is) c.tables-tables.ensures.valid c.requires.free c.requires.reached
    c.followed_number-number.ensures).few

pub since_payload-requires-clause-numbered : goal.since_payload-requires-clause-numbered
since_payload-requires-clause-numbered c =
    (follows_as c.args.entry.now.actor c.args.after c.followed_number-number.result c.args.self.now c.database.result.now (c.database.ensures ∙ ap (λ (h : Held). h.vault.database) c.self.view_is) c.tables-tables.ensures.valid c.requires.free c.requires.reached
    c.followed_number-number.ensures).numbered

pub since_payload-requires-clause-last : goal.since_payload-requires-clause-last
since_payload-requires-clause-last c = short_as c.args.entry.now.actor (Some c.args.after) c.args.self.now c.args.entry.now c.requires.begins

pub returns-clause-holds : goal.returns-clause-holds
returns-clause-holds c =
    holds_behind (λ bytes. bytes.items) c.args.after c.followed_number-number.result c.args.self.now c.args.entry.now c.since_payload.result c.requires.begins c.requires.free c.followed_number-number.ensures c.since_payload.ensures.fits c.since_payload.ensures.spelled
