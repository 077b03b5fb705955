-- When a transaction is told by what stood before it and what stands behind it.
use Rattle.std.specs.Prelude.{◌≡◌, ℕ, Bool, true, false, not, ◌==◌, ◌&&◌, is_none, List, Option, None}
use Rattle.std.specs.BTreeMap.{is_at}
use Rattle.std.specs.Cmp.Lexicographic.{slice_cmp}
use Rattle.std.specs.List.{list_any}
use Rattle.std.specs.Option.{option_map_or}
use Rattle.std.specs.Ordering.{nat_cmp}
use Rattle.entries.specs.declared.change.Change.{Change}
use Rattle.inventory_rows.specs.version_groups.declared.copies.CopyRow.{CopyRow}
use Rattle.inventory_rows.specs.version_groups.declared.versions.Version.{Version}
use Rattle.inventory_rows.specs.Search.{copy_in, group, version}
use Rattle.inventory_rows.specs.State.{Inv}
use Rattle.inventory_rules.specs.Journal.{Journal}
use Rattle.inventory_rules.specs.Run.{differs_from}
use Rattle.inventory_rules.specs.Transactions.{effect, refused}
use Rattle.inventory_rules.specs.Valid.{is_valid}
use Rattle.run_past.specs.declared.prepared.PathAt.{PathAt}
use Rattle.run_past.specs.Told.{pair_cmp}

-- ---- what became of what stood

-- an object that stood isn't there any more
abbrev pub is_gone : Version → Inv → Bool
is_gone a w = is_none (version a.object w)

-- it isn't there, or is inactive since another day, or has other copies
abbrev pub differs_now : Version → Option Version → Bool
differs_now a now = option_map_or (differs_from a) now true

-- its copy in a pool isn't there any more, or was placed by another transaction
abbrev pub copy_differs : Option CopyRow → Option CopyRow → Bool
copy_differs old new = option_map_or (λ a. option_map_or (λ b. not (a.placed == b.placed)) new true) old false

abbrev pub copy_differs_in : ℕ → Version → Option Version → Bool
copy_differs_in pool a now = copy_differs (copy_in pool a) (option_map_or (copy_in pool) now None)

-- a path has no versions any more
abbrev pub is_empty_now : PathAt → Inv → Bool
is_empty_now x w = is_none (group x.filespace x.path w)

-- ---- of what stood, what a key names

abbrev pub any_gone : ℕ → List Version → Inv → Bool
any_gone object stood w = list_any (λ a. is_at (nat_cmp a.object) object && is_gone a w) stood

abbrev pub any_differs : ℕ → List Version → Inv → Bool
any_differs object stood w = list_any (λ a. is_at (nat_cmp a.object) object && differs_now a (version a.object w)) stood

abbrev pub any_copy_of : ℕ × ℕ → Version → Option Version → Bool
any_copy_of key a now = list_any (λ c. is_at (pair_cmp (a.object, c.pool)) key && copy_differs_in c.pool a now) a.copies

abbrev pub any_copy : ℕ × ℕ → List Version → Inv → Bool
any_copy key stood w = list_any (λ a. any_copy_of key a (version a.object w)) stood

abbrev pub is_path : ℕ → List ℕ → PathAt → Bool
is_path filespace path x = is_at (nat_cmp x.filespace) filespace && is_at (slice_cmp nat_cmp x.path) path

abbrev pub any_emptied : ℕ → List ℕ → List PathAt → Inv → Bool
any_emptied filespace path stood w = list_any (λ x. is_path filespace path x && is_empty_now x w) stood

-- ---- the transaction

-- a legal transaction made the second database of the first, which is valid
pub record Follows (c : Change) (v w : Inv) : Type 0 where
  pub valid : is_valid v ≡ true
  pub journal : Journal
  pub legal : refused journal c v ≡ None
  pub makes : w ≡ effect c v
