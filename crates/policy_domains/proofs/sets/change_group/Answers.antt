use Rattle.policy_domains.proofs.Parts.{said_changed}
use Rattle.policy_domains.specs.Groups.{groups_changed}
use Rattle.policy_domains.proofs.sets.change_group.Goals as goal

pub returns-in-Some : goal.returns-in-Some
returns-in-Some c =
    said_changed c.args.class.now (groups_changed c.args.verb c.args.group) c.args.classes.now.entries (c.get_mut.follows.lender c.change.new.self).entries c.in-Some.place.now c.change.new.self c.in-Some.ensures.value (c.get_mut.follows.holds c.change.new.self).0 c.change.ensures
