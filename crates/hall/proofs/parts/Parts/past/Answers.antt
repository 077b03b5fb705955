use Rattle.std.proofs.Common.{◌≡◌, None, subst}
use Rattle.inventory_rules.specs.Run.{journal_of}
use Rattle.run_past.specs.Told.{journal_from}
use Rattle.hall.specs.Held.{Held}
use Rattle.hall.proofs.parts.Parts.past.Goals as goal

pub returns : goal.returns
returns c = subst (λ (h : Held). h.vault.fault ≡ None → journal_from c.self.inside.past ≡ journal_of h.base h.vault.journal) c.self.view_is c.self.invariant.0.tells
