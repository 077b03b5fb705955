use Rattle.std.proofs.Common.{◌∙◌, ℕ, List, ap, map, subst, sym}
use Rattle.std.proofs.lemmas.Map.Entries.{entries_from_clone}
use Rattle.inventory_rows.specs.version_groups.declared.groups.Filespace.{Filespace}
use Rattle.inventory_rows.specs.object_rows.declared.held_object.HeldRow.{HeldRow}
use Rattle.inventory_rows.specs.object_rows.Rows.{IsSound}
use Rattle.db_losses.specs.Losses.{filespace_left, helds_left}
use Rattle.db_losses.proofs.Staying.{rows_are, sound_left}
use Rattle.db_losses.proofs.left.objects_left.Goals as goal

pub together-requires : goal.together-requires
together-requires c =
    let losses = c.args.losses.now in
    let rows = c.args.objects.now in
    subst IsSound (sym (rows_are losses rows c.in_ok-nodes.nodes.entries c.in_ok-filespaces.filespaces.entries c.in_ok-held.held.entries (entries_from_clone _ _ (λ x y e. e) (λ x y e. e) c.nodes.result.now.entries c.in_ok-nodes.nodes.entries c.in_ok-nodes.ensures.cases ∙ c.nodes.ensures)
    (c.in_ok-filespaces.ensures ∙ ap (λ (l : List (ℕ × Filespace)). map (filespace_left losses) l) c.filespaces.ensures.value) (c.in_ok-held.ensures ∙ ap (λ (l : List (ℕ × HeldRow)). helds_left losses l) c.held.ensures.value)))
    (sound_left losses rows c.filespaces.ensures.sound)
