use Rattle.std.proofs.Common.{◌≡◌, ◌++◌, map, append-nil, ap, sym, ◌∙◌}
use Rattle.client_trees.specs.Files.{row_of}
use Rattle.client_trees.proofs.Rows.{in_order}
use Rattle.client_trees.proofs.files.rows.Goals as goal

pub returns-clause-order : goal.returns-clause-order
returns-clause-order c =
    let whole : c.files.rows.items ≡ map row_of c.args.files.now.entries =
    sym (append-nil c.files.rows.items) ∙ ap (λ es. c.files.rows.items ++ map row_of es) (sym c.in-None.ensures.steps.0) ∙ c.files.invariant in
    in_order c.files.rows.items c.args.files.now.entries whole c.len.ensures.ordered
