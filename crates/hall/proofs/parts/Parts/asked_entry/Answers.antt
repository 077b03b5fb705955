use Rattle.std.proofs.Common.{None, Some, inr, refl, sym, ◌∙◌}
use Rattle.hall.proofs.Deciding.{decided, unfit_first}
use Rattle.hall.proofs.parts.Parts.asked_entry.Goals as goal

pub returns-in-Some : goal.returns-in-Some
returns-in-Some g c = inr (unfit_first c.args.actor c.args.asked.now c.args.numbers.now c.args.self.now c.in-Some.refusal (sym c.unfit.ensures ∙ c.in-Some.is))

pub returns-in-None : goal.returns-in-None
returns-in-None g c = (
  refl,
  sym c.in-Ok.ensures,
  decided c.args.actor c.args.asked.now c.args.numbers.now c.args.self.now c.in-Ok.change c.unready-unready.result c.in-Ok-change_refused.refused None (sym c.in_default.is ∙ c.unfit.ensures) c.in-Ok.ensures
      c.unready-unready.ensures c.in-Ok-change_refused.ensures (sym c.sooner_of.ensures ∙ c.in-None.is),
)

pub returns-in-Some-sooner_of : goal.returns-in-Some-sooner_of
returns-in-Some-sooner_of g c =
    inr
    (decided c.args.actor c.args.asked.now c.args.numbers.now c.args.self.now c.in-Ok.change c.unready-unready.result c.in-Ok-change_refused.refused (Some c.in-Some-sooner_of.refusal) (sym c.in_default.is ∙ c.unfit.ensures) c.in-Ok.ensures
    c.unready-unready.ensures c.in-Ok-change_refused.ensures (sym c.sooner_of.ensures ∙ c.in-Some-sooner_of.is))
