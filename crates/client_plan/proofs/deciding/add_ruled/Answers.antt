use Rattle.std.proofs.Common.{ap, sym, ◌∙◌, option_copied}
use Rattle.client_plan.proofs.Walk.{ruled_skips}
use Rattle.client_plan.proofs.deciding.add_ruled.Goals as goal

pub returns-then-eq : goal.returns-then-eq
returns-then-eq c =
    ruled_skips c.args.plan.now c.add_skip.new.self c.args.today c.args.class.now c.args.rule.now c.args.file.now (option_copied c.args.active) c.in-Some.version.now
    (ap option_copied c.in-Some.is) (sym c.is_due.ensures ∙ c.if-is_due.false) (sym c.eq.ensures ∙ c.if-eq.true) c.add_skip.ensures
