use Rattle.std.proofs.Common.{append_assoc}
use Rattle.reports.proofs.clients.VersionLineRow.write.Goals as goal

pub returns : goal.returns
returns c = rw (c.in_ok-put_digest.ensures, c.in_ok-put_word-3.ensures, c.in_ok-put_word-2.ensures, c.in_ok-put_word.ensures, c.in_ok-put_number_or_dash.ensures, c.in_ok-put_file.ensures, c.in_ok-put_path.ensures) (simp append_assoc (cc))
