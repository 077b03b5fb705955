use Rattle.std.proofs.Common.{ap, ◌∙◌}
use Rattle.kinds.specs.Refusals.{sooner_of}
use Rattle.inventory_rules.specs.Transactions.{refused}
use Rattle.hall.specs.Held.{Held}
use Rattle.hall.proofs.Deciding.{made_is}
use Rattle.hall.proofs.parts.Parts.change_refused.Goals as goal

pub returns-in-Ok : goal.returns-in-Ok
returns-in-Ok g c =
    c.sooner_of-in-Ok.ensures
    ∙ ap (sooner_of c.refused-illegal.result) c.sooner_of.ensures
    ∙ made_is (g.J.Past.journal c.args.past.now) c.args.entry.now.actor c.args.entry.now.change c.args.self.now c.refused-illegal.result c.in-Ok.long c.held_refused-held.result c.requires
    (c.refused-illegal.ensures ∙ ap (refused (g.J.Past.journal c.args.past.now) c.args.entry.now.change) (c.database.ensures ∙ ap (λ (h : Held). h.vault.database) c.self.view_is)) c.in-Ok.ensures c.held_refused-held.ensures
