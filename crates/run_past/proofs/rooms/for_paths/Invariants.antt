use Rattle.std.proofs.Common.{◌≡◌, ℕ, true, List, Option, drop}
use Rattle.std.specs.List.{AllByRecursion}
use Rattle.run_past.specs.Told.{has_path, told_of_path}
use Rattle.run_past.proofs.rooms.for_paths.Given as goal

abbrev pub invariant-paths : goal.invariant-paths
invariant-paths l =
    record {
      same : (f : ℕ) (p : List ℕ) → told_of_path f p l.map.entries ≡ told_of_path f p l.fn.map.entries;
      room : (later : List (ℕ × List (List ℕ × Option ℕ))) → ((f : ℕ) (p : List ℕ) → has_path f p l.map.entries ≡ true → has_path f p later ≡ true)
          → AllByRecursion (λ x. has_path x.filespace x.path later ≡ true) (drop l.path-index l.paths) → AllByRecursion (λ x. has_path x.filespace x.path later ≡ true) l.paths;
    }
