use Rattle.policy_domains.proofs.Parts.{brings_changed}
use Rattle.policy_domains.specs.Changes.{set_after}
use Rattle.policy_domains.proofs.policy.change_within.Goals as goal

pub returns-in-Some : goal.returns-in-Some
returns-in-Some c =
    brings_changed c.args.set.now (set_after c.args.change.now) c.args.sets.now.entries (c.get_mut.follows.lender c.make_in.new.row).entries c.in-Some.row.now c.make_in.new.row c.make_in.result c.in-Some.ensures.value (c.get_mut.follows.holds c.make_in.new.row).0 c.make_in.ensures
