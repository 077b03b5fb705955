use Rattle.std.proofs.Common.{ℕ, List, Bool, not, ◌&&◌, map, ap, sym, ◌∙◌}
use Rattle.std.specs.Prelude.{◌==◌}
use Rattle.std.specs.List.{list_all, flat_map}
use Rattle.std.proofs.lemmas.List.Folds.{list_all-map}
use Rattle.kinds.specs.Refusals.{foremost, unless}
use Rattle.inventory_rules.specs.change_items.declared.items.ScratchVolume.{ScratchVolume}
use Rattle.inventory_rules.specs.inventory_rows.version_groups.Entries.{all_later}
use Rattle.inventory_rules.specs.inventory_rows.State.{inv_of}
use Rattle.inventory_rules.specs.Common.{is_free_file, file_bound}
use Rattle.item_refusals.proofs.Foremost.{foremost_joined}
use Rattle.item_refusals.proofs.Lists.{all_later_map}
use Rattle.item_refusals.proofs.scratch.scratch_refused.Goals as goal

pub returns : goal.returns
returns c =
    let files : List ℕ = map (λ (s : ScratchVolume). s.file) c.args.scratch.now in
    let free : Bool = list_all (is_free_file (inv_of c.args.tables.now)) files in
    foremost_joined c.are_new.result (free && all_later (λ a b. not (a == b)) files) (flat_map (λ (s : ScratchVolume). file_bound s.file (inv_of c.args.tables.now)) c.args.scratch.now) c.unless-new.result c.file_bounds-bounds.result c.sooner_of.result
    (
    ap (λ b. b && all_later (λ a b. not (a == b)) files) (list_all-map (is_free_file (inv_of c.args.tables.now)) (λ (s : ScratchVolume). s.file) c.args.scratch.now)
    ∙ ap (λ b. list_all (λ (s : ScratchVolume). is_free_file (inv_of c.args.tables.now) s.file) c.args.scratch.now && b) (all_later_map (λ a b. not (a == b)) (λ (s : ScratchVolume). s.file) c.args.scratch.now)
    ∙ sym c.are_new.ensures
    )
    (c.unless-new.ensures ∙ ap (λ e. foremost (unless c.are_new.result e)) c.bad_value.ensures) c.file_bounds-bounds.ensures c.sooner_of.ensures
