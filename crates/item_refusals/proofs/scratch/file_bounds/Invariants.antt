use Rattle.std.proofs.Common.{◌≡◌, take}
use Rattle.std.specs.List.{flat_map}
use Rattle.kinds.specs.Refusals.{foremost}
use Rattle.inventory_rules.specs.change_items.declared.items.ScratchVolume.{ScratchVolume}
use Rattle.inventory_rules.specs.inventory_rows.State.{inv_of}
use Rattle.inventory_rules.specs.Common.{file_bound}
use Rattle.item_refusals.proofs.scratch.file_bounds.Given as goal

abbrev pub invariant-scratch : goal.invariant-scratch
invariant-scratch l = l.found ≡ foremost (flat_map (λ (s : ScratchVolume). file_bound s.file (inv_of l.tables)) (take l.volume-index l.scratch))
