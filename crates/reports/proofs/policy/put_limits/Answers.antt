use Rattle.std.proofs.Common.{append_assoc}
use Rattle.reports.proofs.policy.put_limits.Goals as goal

pub returns : goal.returns
returns c = rw (c.in_ok-put_limit-4.ensures, c.in_ok-put_limit-3.ensures, c.in_ok-put_limit-2.ensures, c.in_ok-put_limit.ensures) (simp append_assoc)
