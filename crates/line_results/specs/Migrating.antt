-- Why the migration of a pool, and that of all pools that are due, is refused where one actor has the machine alone and the run goes on.
use Rattle.std.specs.Prelude.{◌≡◌, ◌⊎◌, ℕ, Bool, true, false, is_some, List, Result}
use Rattle.std.specs.List.Sorted.{IsStrictlySortedBy}
use Rattle.std.specs.Map.{keys_of}
use Rattle.std.specs.Option.{option_map_or}
use Rattle.std.specs.Ordering.{nat_cmp}
use Rattle.kinds.specs.declared.refusal.Refusal.{Refusal}
use Rattle.kinds.specs.declared.refusal.Refusal.TheVariants.{BadHierarchy, NotFound}
use Rattle.inventory_rows.specs.Search.{pool}
use Rattle.inventory_rows.specs.State.{Inv}
use Rattle.inventory_work.specs.Copies.{has_pool}
use Rattle.command_steps.specs.copy_runs.declared.wanted.Moved.{Moved}
use Rattle.command_steps.specs.migration.Migrating.{Migration}
use Rattle.command_steps.specs.migration.Sweeping.{AllMigration}
use Rattle.steps.specs.Events.{Event}
use Rattle.command_steps.specs.Doing.{first_picks}

-- ---- MIGRATE STGPOOL

-- it was done, with some answer
abbrev pub IsPoolMigration : (number low : ℕ) → List Event → Type 0
IsPoolMigration number low events = (answer : Result Moved Refusal) × Migration first_picks number low events answer

-- the pool is there, and has a next one
abbrev pub has_next : (number : ℕ) → Inv → Bool
has_next number v = option_map_or (λ p. is_some p.settings.next) (pool number v) false

-- The pool isn't there; or it is, and has no next one.
abbrev pub IsWithoutNext : (number : ℕ) → Inv → Refusal → Type 0
IsWithoutNext number v why = ((why ≡ NotFound) × (has_pool number v ≡ false)) ⊎ ((why ≡ BadHierarchy) × (has_pool number v ≡ true) × (has_next number v ≡ false))

-- ---- MIGRATE ALL

abbrev pub IsAllMigration : List Event → Type 0
IsAllMigration events = (answer : Result Moved Refusal) × AllMigration first_picks events answer

-- its pools stand in ascending order of their numbers, each number once, as tables hold them
abbrev pub StandByNumber : Inv → Type 0
StandByNumber v = IsStrictlySortedBy nat_cmp (keys_of v.stores.pools)
