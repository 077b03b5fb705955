use Rattle.policy_domains.proofs.Parts.{brings_changed}
use Rattle.policy_domains.specs.Sets.{activated}
use Rattle.policy_domains.proofs.makings.activate.Goals as goal

pub returns-in-Some : goal.returns-in-Some
returns-in-Some c =
    brings_changed c.args.domain.now (activated c.args.set.now) c.args.rows.now.entries (c.get_mut.follows.lender c.activate.new.self).entries c.in-Some.row.now c.activate.new.self c.activate.result c.in-Some.ensures.value (c.get_mut.follows.holds c.activate.new.self).0 c.activate.ensures
