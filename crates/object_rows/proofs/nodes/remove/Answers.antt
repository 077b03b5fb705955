use Rattle.object_rows.proofs.NodeLaws.{nodes_removed}
use Rattle.object_rows.proofs.nodes.remove.Goals as goal

pub returns-clause-indexed : goal.returns-clause-indexed
returns-clause-indexed c =
    nodes_removed c.args.names.now.entries c.remove.new.self.entries c.args.nodes.now.entries c.remove-2.new.self.entries c.args.name.now c.args.number c.requires.indexed c.requires.there c.remove-2.ensures.entries c.remove-2.ensures.ordered
    (λ q. c.remove.ensures.updates.0 q) c.remove.result c.remove.ensures.value c.remove.ensures.len
