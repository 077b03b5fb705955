use Rattle.std.proofs.Common.{append_assoc}
use Rattle.reports.proofs.stores.PoolLineRow.write.Goals as goal

pub returns : goal.returns
returns c = rw (c.in_ok-put_size_limit.ensures, c.in_ok-put_settings.ensures, c.in_ok-put_number-2.ensures, c.in_ok-put_or_dash.ensures, c.in_ok-put_word-3.ensures, c.in_ok-put_word-2.ensures, c.in_ok-put_word.ensures, c.in_ok-put_number.ensures) (simp append_assoc (cc))
