use Rattle.std.proofs.Common.{◌≡◌, sym, subst, option_copied}
use Rattle.client_plan.specs.Plans.{task_left, joined, lists_of}
use Rattle.client_plan.proofs.deciding.add_left.Goals as goal

pub returns-in-None : goal.returns-in-None
returns-in-None c =
    subst (λ a. c.add_skip.new.self ≡ joined c.args.plan.now (lists_of (task_left c.args.path.now (option_copied a)))) (sym c.in-None.is) (c.add_skip.ensures c.args.path.now)
