use Rattle.std.proofs.Common.{Bool, List, ℕ, subst, sym}
use Rattle.backup_payloads.specs.Increments.{IsIncrement}
use Rattle.db_chains.specs.declared.back.Link.{Link}
use Rattle.db_chains.specs.Making.{MakesAll}
use Rattle.db_chains.specs.Walks.{IsAhead}
use Rattle.db_chains.proofs.Walking.{none_ahead, one_ahead, fails_ahead}
use Rattle.db_chains.proofs.chain.go_forward.Goals as goal

pub links-init : goal.links-init
links-init g c = record { comes = λ files file from number passed leads gives. none_ahead {m = g.D.Database.meaning} files file c.args.links.items from number passed c.args.database leads gives }

pub links-preserved : goal.links-preserved
links-preserved g c =
    record {
      comes = λ files file from number passed leads gives.
          (let ahead = c.links.invariant.comes files file from number passed leads gives in
          one_ahead {m = g.D.Database.meaning} files file c.args.links.items from passed c.pop.new.self.items c.in-Some.link c.links.database c.make_increment.new.database
          (subst (λ (l : List Link). IsAhead g.D.Database.meaning files file c.args.links.items from passed l c.links.database) c.in-Some.ensures.items ahead)
          (λ i is. subst (λ (all : Bool). MakesAll g.D.Database.meaning i.records c.links.database c.make_increment.new.database all) c.in-Ok-true.field-0-test
          (c.in-Ok-true.ensures.makes i (subst (λ (l : List ℕ). IsIncrement l i) (sym c.deref.ensures.value) is))));
    }

pub returns-in-Ok-false : goal.returns-in-Ok-false
returns-in-Ok-false g c = λ files file from number passed leads gives.
    (let ahead = c.links.invariant.comes files file from number passed leads gives in
    fails_ahead {m = g.D.Database.meaning} files file c.args.links.items from passed c.pop.new.self.items c.in-Some.link c.links.database
    (subst (λ (l : List Link). IsAhead g.D.Database.meaning files file c.args.links.items from passed l c.links.database) c.in-Some.ensures.items ahead)
    (λ i is. subst (λ (all : Bool). MakesAll g.D.Database.meaning i.records c.links.database c.make_increment.new.database all) c.in-Ok-false.field-0-test
    (c.in-Ok-false.ensures.makes i (subst (λ (l : List ℕ). IsIncrement l i) (sym c.deref.ensures.value) is))))
