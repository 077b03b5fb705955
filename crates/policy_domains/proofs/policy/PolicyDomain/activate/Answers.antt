use Rattle.std.proofs.Common.{rules, ap, ◌∙◌}
use Rattle.policy_domains.specs.Rows.{DomainRow, row_of}
use Rattle.policy_domains.proofs.Parts.{set_activated, none_activated}
use Rattle.policy_domains.proofs.policy.PolicyDomain.activate.Goals as goal

pub returns-in-None : goal.returns-in-None
returns-in-None c = none_activated c.args.set.now c.args.self.now (c.in-None.ensures.value ∙ ap (λ (d : DomainRow). row_of c.args.set.now d.sets) c.self.view_is)

pub returns-in_ok-insert-in-Some : goal.returns-in_ok-insert-in-Some
returns-in_ok-insert-in-Some c =
    set_activated c.args.set.now c.args.self.now (record { back_retention = c.self.inside.back_retention; sets = c.insert.new.self.entries }) c.in-Some.row.now
    (c.in-Some.ensures.value ∙ ap (λ (d : DomainRow). row_of c.args.set.now d.sets) c.self.view_is) (search rules)
