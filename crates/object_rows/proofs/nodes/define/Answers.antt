use Rattle.std.proofs.Common.{◌≡◌, ℕ, List, cond, Some, None, sym, ap, subst, ◌∙◌}
use Rattle.std.specs.Map.{lookup}
use Rattle.object_rows.specs.declared.place.Node.{Node}
use Rattle.object_rows.specs.Filespaces.{at_number}
use Rattle.object_rows.specs.Names.{NodesIndexed, at_name}
use Rattle.object_rows.proofs.Kept.{none_from}
use Rattle.object_rows.proofs.Made.{node_is_new}
use Rattle.object_rows.proofs.NodeLaws.{nodes_put, nodes_back}
use Rattle.object_rows.proofs.nodes.define.Goals as goal

pub returns-in-Ok-clause-indexed : goal.returns-in-Ok-clause-indexed
returns-in-Ok-clause-indexed c =
    let key : c.in_ok-key.key ≡ c.args.name.now = c.in_ok-key.ensures.cases in
    let name : c.in_ok-clone.field-0 ≡ c.args.name.now = c.in_ok-clone.ensures.cases in
    let same : c.in_ok-key.key ≡ c.in_ok-clone.field-0 = key ∙ sym name in
    let node : Node = record { name = c.in_ok-clone.field-0; domain = c.in_ok-clone-2.field-0 } in
    let fresh : lookup (at_name c.in_ok-clone.field-0) c.args.names.now.entries ≡ None = ap (λ (t : List ℕ). lookup (at_name t) c.args.names.now.entries) name ∙ c.requires.indexed.index.found c.args.name.now ∙ node_is_new c.args.name.now c.args.domain.now c.args.number c.args.nodes.now.entries c.requires.fine in
    nodes_put c.args.names.now.entries c.insert.new.self.entries c.args.nodes.now.entries c.insert-2.new.self.entries c.args.number node c.requires.indexed fresh (none_from (lookup (at_number c.args.number) c.args.nodes.now.entries) c.requires.free)
    c.in-Ok.ensures.entries c.in-Ok.ensures.ordered
    (λ q. c.in_ok-insert.ensures.updates.0 q ∙ ap (λ (t : List ℕ). cond (at_name t q) (Some c.args.number) (lookup (at_name q) c.args.names.now.entries)) same)
    c.in_ok-insert.field-0 (c.in_ok-insert.ensures.old ∙ ap (λ (t : List ℕ). lookup (at_name t) c.args.names.now.entries) same) c.in_ok-insert.ensures.len

pub returns-clause-indexed : goal.returns-clause-indexed
returns-clause-indexed c =
    let key : c.in_ok-key.key ≡ c.args.name.now = c.in_ok-key.ensures.cases in
    let fresh : lookup (at_name c.args.name.now) c.args.names.now.entries ≡ None = c.requires.indexed.index.found c.args.name.now ∙ node_is_new c.args.name.now c.args.domain.now c.args.number c.args.nodes.now.entries c.requires.fine in
    subst (λ (t : List (ℕ × Node)). NodesIndexed c.remove.new.self.entries t) (sym c.in-Err.ensures.err)
    (nodes_back c.args.names.now.entries c.insert.new.self.entries c.remove.new.self.entries c.args.nodes.now.entries c.args.name.now c.args.number c.requires.indexed fresh
    (λ q. c.in_ok-insert.ensures.updates.0 q ∙ ap (λ (t : List ℕ). cond (at_name t q) (Some c.args.number) (lookup (at_name q) c.args.names.now.entries)) key)
    c.in_ok-insert.field-0 (c.in_ok-insert.ensures.old ∙ ap (λ (t : List ℕ). lookup (at_name t) c.args.names.now.entries) key) c.in_ok-insert.ensures.len
    (λ q. c.remove.ensures.updates.0 q) c.remove.result c.remove.ensures.value c.remove.ensures.len)
