use Rattle.std.proofs.Common.{ℕ, List, cond, Some, sym, ap, subst, ◌∙◌}
use Rattle.std.specs.Cmp.Lexicographic.{slice_cmp, nat_list_cmp_total}
use Rattle.std.specs.Map.{lookup}
use Rattle.std.specs.Ordering.{nat_cmp}
use Rattle.object_rows.specs.declared.place.Node.{Node}
use Rattle.object_rows.specs.Names.{at_name, named}
use Rattle.object_rows.proofs.Builds.{Progress, step_one, stop_one}
use Rattle.object_rows.proofs.Kept.{none_from}
use Rattle.object_rows.proofs.build.add_nodes.Goals as goal

pub returns-then-contains_key : goal.returns-then-contains_key
returns-then-contains_key c =
    stop_one nat_list_cmp_total (c.in-Some.node.now.name, c.in-Some.number.now) c.args.names.now.entries c.nodes.names.entries (named c.args.nodes.now.entries) (named c.next.new.self)
    (subst (λ (left : List (ℕ × Node)). Progress (slice_cmp nat_cmp) c.args.names.now.entries c.nodes.names.entries (named c.args.nodes.now.entries) (named left)) c.in-Some.ensures.steps c.nodes.invariant)
    (sym c.contains_key.ensures ∙ c.if-contains_key.true)

pub nodes-preserved : goal.nodes-preserved
nodes-preserved c =
    step_one nat_list_cmp_total (c.in-Some.node.now.name, c.in-Some.number.now) c.args.names.now.entries c.nodes.names.entries c.insert.new.self.entries (named c.args.nodes.now.entries) (named c.next.new.self)
    (subst (λ (left : List (ℕ × Node)). Progress (slice_cmp nat_cmp) c.args.names.now.entries c.nodes.names.entries (named c.args.nodes.now.entries) (named left)) c.in-Some.ensures.steps c.nodes.invariant)
    (none_from (lookup (at_name c.in-Some.node.now.name) c.nodes.names.entries) (sym c.contains_key.ensures ∙ c.if-contains_key.false))
    (λ q. c.in_ok-insert.ensures.updates.0 q ∙ ap (λ (t : List ℕ). cond (at_name t q) (Some c.in-Some.number.now) (lookup (at_name q) c.nodes.names.entries)) c.in_ok-clone.ensures.cases)
    c.in_ok-insert.field-0 (c.in_ok-insert.ensures.old ∙ ap (λ (t : List ℕ). lookup (at_name t) c.nodes.names.entries) c.in_ok-clone.ensures.cases) c.in_ok-insert.ensures.len
