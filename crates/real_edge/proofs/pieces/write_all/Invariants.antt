use Rattle.std.proofs.Common.{◌-◌, ◌≤◌, length}
use Rattle.store_api.specs.Told.{Told}
use Rattle.files_api.specs.Folder.{Folder}
use Rattle.files_api.specs.Calls.{IsUsable}
use Rattle.real_edge.specs.Holds.{WroteFront}
use Rattle.real_edge.proofs.pieces.write_all.Given as goal

-- A front of the bytes was written.
abbrev pub invariant-pieces : goal.invariant-pieces
invariant-pieces g l =
    record {
      within : l.done ≤ length l.bytes;
      told : Told (g.F.Files.told l.fn.files) (g.F.Files.told l.files) (λ (old new : Folder). IsUsable old (g.F.Files.label_of l.handle) → WroteFront (g.F.Files.label_of l.handle).name l.offset l.bytes l.done old new);
    }

abbrev pub decreases-pieces : goal.decreases-pieces
decreases-pieces g l = length l.bytes - l.done
