use Rattle.policy_domains.proofs.Parts.{brings_changed}
use Rattle.policy_domains.specs.Sets.{in_sets}
use Rattle.policy_domains.specs.Changes.{set_after}
use Rattle.policy_domains.specs.Rows.{changed}
use Rattle.policy_domains.proofs.makings.change_within.Goals as goal

pub returns-in-Some : goal.returns-in-Some
returns-in-Some c =
    brings_changed c.args.domain.now (in_sets (changed c.args.set.now (set_after c.args.change.now))) c.args.rows.now.entries (c.get_mut.follows.lender c.change_within.new.self).entries c.in-Some.row.now c.change_within.new.self c.change_within.result c.in-Some.ensures.value (c.get_mut.follows.holds c.change_within.new.self).0 c.change_within.ensures
