use Rattle.std.proofs.Common.{◌≡◌, ◌++◌, map, append-nil, ap, sym, ◌∙◌}
use Rattle.std.specs.Map.{keys_of}
use Rattle.client_trees.specs.declared.tree.FileRow.{FileRow}
use Rattle.folder_trees.proofs.Paths.{in_order}
use Rattle.folder_trees.proofs.found.rows.Goals as goal

pub returns : goal.returns
returns c =
    let whole : map (λ (f : FileRow). f.path) c.files.rows.items ≡ keys_of c.args.files.now.entries =
    sym (append-nil (map (λ (f : FileRow). f.path) c.files.rows.items)) ∙ ap (λ es. map (λ (f : FileRow). f.path) c.files.rows.items ++ keys_of es) (sym c.in-None.ensures.steps.0) ∙ c.files.invariant in
    in_order c.files.rows.items (keys_of c.args.files.now.entries) whole c.len.ensures.ordered
