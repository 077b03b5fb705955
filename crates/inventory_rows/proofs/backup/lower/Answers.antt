use Rattle.std.proofs.Common.{ℕ, sym, ap, ◌∙◌}
use Rattle.std.specs.BTreeMap.{is_at}
use Rattle.std.specs.Map.{set_value}
use Rattle.std.specs.Ordering.{nat_cmp}
use Rattle.inventory_rows.proofs.Lowered.{lowered-absent, lowered-there}
use Rattle.inventory_rows.proofs.backup.lower.Goals as goal

pub returns-in-Some : goal.returns-in-Some
returns-in-Some c =
    c.set.ensures ∙ ap (λ (n : ℕ). set_value (is_at (nat_cmp c.args.pool)) c.args.map.now.entries n) c.shorter.ensures
    ∙ lowered-there c.args.pool c.args.delay c.in-Some.there c.args.map.now.entries c.len-len.ensures.ordered (sym (c.in-Some.ensures ∙ c.get.ensures.value))

pub returns-in-None : goal.returns-in-None
returns-in-None c = sym (lowered-absent c.args.pool c.args.delay c.args.map.now.entries (sym (c.in-None.ensures ∙ c.get.ensures.value)))
