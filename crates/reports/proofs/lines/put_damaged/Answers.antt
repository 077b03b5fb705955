use Rattle.std.proofs.Common.{append_assoc}
use Rattle.reports.proofs.lines.put_damaged.Goals as goal

pub returns : goal.returns
returns c = rw (c.in_ok-put_two_digests.ensures, c.in_ok-put_number.ensures) (simp append_assoc)
