use Rattle.std.proofs.Common.{append_assoc}
use Rattle.reports.proofs.stores.put_settings.Goals as goal

pub returns : goal.returns
returns c = rw (c.in_ok-put_number-5.ensures, c.in_ok-put_number-4.ensures, c.in_ok-put_number-3.ensures, c.in_ok-put_number-2.ensures, c.in_ok-put_number.ensures) (simp append_assoc (cc))
