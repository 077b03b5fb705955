use Rattle.kinds.proofs.Joins.{three}
use Rattle.kinds.proofs.forms.rules.PoolRuleFormed.write_to.Goals as goal

pub returns : goal.returns
returns c =
    rw (← c.unwrap_or.ensures) (three _ _ _ _ _ _ _ c.in_ok-write_to.ensures c.in_ok-put_u32.ensures.ok c.in_ok-write_to-2.ensures)
