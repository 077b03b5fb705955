use Rattle.std.proofs.Common.{◌≡◌, length, ap, ◌∙◌, sym}
use Rattle.migration.proofs.Asking.{as-many}
use Rattle.migration.proofs.left.listed.Goals as goal

pub returns-clause-same : goal.returns-clause-same
returns-clause-same c =
    ap length (c.from_vec-2.ensures.items ∙ c.in_ok-placed.ensures) ∙ as-many c.args.seen c.args.lines.now ∙ sym (ap length (c.from_vec.ensures.items ∙ c.in_ok-candidates.ensures))
