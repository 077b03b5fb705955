use Rattle.std.proofs.Common.{◌≡◌, drop}
use Rattle.std.specs.List.{list_all}
use Rattle.inventory_rules.specs.change_items.declared.items.ScratchVolume.{ScratchVolume}
use Rattle.inventory_rules.specs.inventory_rows.State.{inv_of}
use Rattle.inventory_rules.specs.Common.{is_free_file}
use Rattle.item_refusals.proofs.scratch.are_free.Given as goal

abbrev pub invariant-scratch : goal.invariant-scratch
invariant-scratch l =
    list_all (λ (s : ScratchVolume). is_free_file (inv_of l.tables) s.file) l.scratch ≡ list_all (λ (s : ScratchVolume). is_free_file (inv_of l.tables) s.file) (drop l.volume-index l.scratch)
