use Rattle.policy_domains.proofs.Parts.{brings_changed}
use Rattle.policy_domains.specs.Sets.{in_sets, set_changed}
use Rattle.policy_domains.proofs.makings.change_set.Goals as goal

pub returns-in-Some : goal.returns-in-Some
returns-in-Some c =
    brings_changed c.args.domain.now (in_sets (set_changed c.args.verb c.args.set.now)) c.args.rows.now.entries (c.get_mut.follows.lender c.change_set.new.self).entries c.in-Some.row.now c.change_set.new.self c.change_set.result c.in-Some.ensures.value (c.get_mut.follows.holds c.change_set.new.self).0 c.change_set.ensures
