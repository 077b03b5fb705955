use Rattle.std.proofs.Common.{◌≡◌, ℕ, List, true, drop}
use Rattle.std.specs.List.{AllByRecursion}
use Rattle.inventory_rows.specs.State.{inv_of}
use Rattle.run_past.specs.Telling.{any_emptied}
use Rattle.run_past.specs.Told.{has_path, now_or, told_of_path}
use Rattle.run_past.proofs.telling.tell_emptied.Given as goal

abbrev pub invariant-paths : goal.invariant-paths
invariant-paths l =
    record {
      room : AllByRecursion (λ x. has_path x.filespace x.path l.map.entries ≡ true) (drop l.path-index l.stood);
      tells : (f : ℕ) (p : List ℕ) → now_or (any_emptied f p (drop l.path-index l.stood) (inv_of l.tables)) l.number (told_of_path f p l.map.entries) ≡ now_or (any_emptied f p l.stood (inv_of l.tables)) l.number (told_of_path f p l.fn.map.entries);
    }
