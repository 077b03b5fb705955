use Rattle.std.proofs.Common.{append_assoc}
use Rattle.reports.proofs.policy.GroupLineRow.write.Goals as goal

pub returns : goal.returns
returns c = rw (c.in_ok-put_word-5.ensures, c.in_ok-put_word-4.ensures, c.in_ok-put_limits.ensures, c.in_ok-put_number.ensures, c.in_ok-put_or_dash.ensures, c.in_ok-put_word-3.ensures, c.in_ok-put_word-2.ensures, c.in_ok-put_word.ensures) (simp append_assoc (cc))
