use Rattle.std.proofs.Common.{◌≡◌, ◌-◌, ◌≤◌, length, take, drop, IfSome}
use Rattle.store_api.specs.Told.{Told}
use Rattle.files_api.specs.Folder.{Folder}
use Rattle.files_api.specs.Calls.{Looks, IsUsable}
use Rattle.real_edge.proofs.pieces.fill_from.Given as goal

-- The front of the buffer has what stands from the offset on.
abbrev pub invariant-pieces : goal.invariant-pieces
invariant-pieces g l =
    record {
      within : l.done ≤ length l.into;
      long : length l.into ≡ length l.fn.into;
      told : Told (g.F.Files.told l.fn.files) (g.F.Files.told l.files) Looks;
      front : IfSome (g.F.Files.told l.fn.files) (λ (d : Folder). IsUsable d (g.F.Files.label_of l.handle) → take l.done l.into ≡ take l.done (drop l.offset (d.files (g.F.Files.label_of l.handle).name).standing.bytes));
    }

abbrev pub decreases-pieces : goal.decreases-pieces
decreases-pieces g l = length l.into - l.done
