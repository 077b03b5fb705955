-- The older versions of a path.
use Rattle.std.proofs.Common.{◌≡◌, ℕ, ◌+◌, ◌-◌, ◌≤◌, ◌<◌, true, List, [], ◌∷◌, length, take, drop, arith}
use Rattle.std.proofs.lemmas.List.Sums.{sum_by-cons}
use Rattle.std.specs.Prelude.{is_some}
use Rattle.std.specs.List.{AllByRecursion, sum_by}
use Rattle.inventory_rows.specs.version_groups.declared.versions.Version.{Version}
use Rattle.inventory_rows.specs.Items.{items_of_version}
use Rattle.inventory_bytes.specs.Tables.{are_older_inactive}
use Rattle.inventory_bytes.proofs.Lists.{each_within, rest_of}

-- the older versions are within their bounds
pub older_within : (bound : ℕ) (versions : List Version) → 1 ≤ length versions → are_older_inactive versions ≡ true → length versions + sum_by items_of_version versions < bound
    → AllByRecursion (λ version. (items_of_version version < bound) × (is_some version.since ≡ true)) (take (length versions - 1) (drop 1 versions))
older_within bound [] some inactive few = absurd (omega arith)
older_within bound (newest ∷ older) some inactive few =
    rw (rest_of newest older) (each_within items_of_version (λ (w : Version). is_some w.since) bound older inactive (omega (arith, few, sum_by-cons items_of_version newest older)))
