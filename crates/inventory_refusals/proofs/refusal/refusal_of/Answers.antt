use Rattle.std.proofs.Common.{sym, ap, ◌∙◌}
use Rattle.kinds.specs.Refusals.{foremost}
use Rattle.inventory_rows.specs.State.{inv_of}
use Rattle.inventory_rules.specs.Transactions.{causes}
use Rattle.inventory_refusals.proofs.refusal.refusal_of.Goals as goal

pub returns-in-Day : goal.returns-in-Day
returns-in-Day g c = c.day_refused.ensures ∙ ap (λ change. foremost (causes (g.J.Past.journal c.args.past.now) change (inv_of c.args.tables.now))) (sym c.in-Day.is)

pub returns-in-Policy : goal.returns-in-Policy
returns-in-Policy g c = c.policy_refused.ensures ∙ ap (λ change. foremost (causes (g.J.Past.journal c.args.past.now) change (inv_of c.args.tables.now))) (sym c.in-Policy.is)

pub returns-in-Object : goal.returns-in-Object
returns-in-Object g c = c.client_refused.ensures ∙ ap (λ change. foremost (causes (g.J.Past.journal c.args.past.now) change (inv_of c.args.tables.now))) (sym c.in-Object.is)

pub returns-in-Pool : goal.returns-in-Pool
returns-in-Pool g c = c.store_refused.ensures ∙ ap (λ change. foremost (causes (g.J.Past.journal c.args.past.now) change (inv_of c.args.tables.now))) (sym c.in-Pool.is)

pub returns-in-Move : goal.returns-in-Move
returns-in-Move g c = c.moves_refused.ensures ∙ ap (λ change. foremost (causes (g.J.Past.journal c.args.past.now) change (inv_of c.args.tables.now))) (sym c.in-Move.is)

pub returns-in-Copy : goal.returns-in-Copy
returns-in-Copy g c = c.copies_refused.ensures ∙ ap (λ change. foremost (causes (g.J.Past.journal c.args.past.now) change (inv_of c.args.tables.now))) (sym c.in-Copy.is)

pub returns-in-DbBegin : goal.returns-in-DbBegin
returns-in-DbBegin g c = c.begin_refused.ensures ∙ ap (λ change. foremost (causes (g.J.Past.journal c.args.past.now) change (inv_of c.args.tables.now))) (sym c.in-DbBegin.is)

pub returns-in-DbEnd : goal.returns-in-DbEnd
returns-in-DbEnd g c = c.end_refused.ensures ∙ ap (λ change. foremost (causes (g.J.Past.journal c.args.past.now) change (inv_of c.args.tables.now))) (sym c.in-DbEnd.is)

pub returns-in-DbDelete : goal.returns-in-DbDelete
returns-in-DbDelete g c = c.delete_refused.ensures ∙ ap (λ change. foremost (causes (g.J.Past.journal c.args.past.now) change (inv_of c.args.tables.now))) (sym c.in-DbDelete.is)
