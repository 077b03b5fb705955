use Rattle.std.proofs.Common.{rules, ◌≡◌, drop, ap, ◌∙◌}
use Rattle.std.specs.List.{list_all}
use Rattle.folder_trees.specs.Places.{is_name, parts}
use Rattle.folder_trees.proofs.Parts.{behind_first}
use Rattle.folder_trees.proofs.places.is_below.Goals as goal

pub returns : goal.returns
returns c =
    c.are_below.ensures ∙ ap (λ l. list_all (λ x. is_name x.now) (drop 1 l)) c.as_slice.ensures.value ∙ behind_first c.in_ok-parts.parts.items (parts c.args.path.now) (search rules)
