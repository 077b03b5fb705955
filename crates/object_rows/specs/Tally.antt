-- What is counted beside the rows.
use Rattle.std.specs.Prelude.{◌≡◌, ℕ, ◌+◌, ◌==◌, List, Option, Some, None, IfSome, if◌then◌else◌}
use Rattle.std.specs.List.{count_by, sum_by}
use Rattle.std.specs.Map.{lookup, values_of}
use Rattle.std.specs.Option.{option_map_or, unwrap_or}
use Rattle.version_groups.specs.declared.copies.CopyRow.{CopyRow}
use Rattle.version_groups.specs.declared.group.Group.{Group}
use Rattle.version_groups.specs.declared.groups.Filespace.{Filespace}
use Rattle.version_groups.specs.declared.versions.Version.{Version}
use Rattle.version_groups.specs.Versions.{version_of}
use Rattle.object_rows.specs.declared.held_object.HeldRow.{HeldRow}
use Rattle.object_rows.specs.declared.tally.Tally.{Tally}
use Rattle.object_rows.specs.Filespaces.{at_number, group_at}
use Rattle.object_rows.specs.HeldRows.{held_at, weigh_held, weigh_row}
use Rattle.object_rows.specs.Items.{items_of_filespaces, items_of_held}

-- ---- a weight of all versions, where one weighs what its copies do

-- some versions together
abbrev pub weigh : (List CopyRow → ℕ) → List Version → ℕ
weigh of versions = sum_by (λ v. of v.copies) versions

-- a version that was looked for
abbrev pub weigh_found : (List CopyRow → ℕ) → Option Version → ℕ
weigh_found of found = option_map_or (λ v. of v.copies) found 0

-- a group, which weighs something itself
abbrev pub weigh_group : ℕ → (List CopyRow → ℕ) → Group → ℕ
weigh_group one of group = one + weigh of group.versions

abbrev pub weigh_groups : ℕ → (List CopyRow → ℕ) → List (List ℕ × Group) → ℕ
weigh_groups one of groups = sum_by (weigh_group one of) (values_of groups)

abbrev pub weigh_filespaces : ℕ → (List CopyRow → ℕ) → List (ℕ × Filespace) → ℕ
weigh_filespaces one of filespaces = sum_by (λ f. weigh_groups one of f.groups) (values_of filespaces)

-- the group that was looked for, and in it the version of the object
abbrev pub weigh_at : ℕ → (List CopyRow → ℕ) → ℕ → Option Group → ℕ
weigh_at one of object None = 0
weigh_at one of object (Some group) = one + weigh_found of (version_of object group.versions)

-- of some versions none but the object's comes, goes or changes its weight
abbrev pub Exchanges : ℕ → List Version → List Version → Type 0
Exchanges object old new = (of : List CopyRow → ℕ) → weigh of new + weigh_found of (version_of object old) ≡ weigh of old + weigh_found of (version_of object new)

-- nothing but a path's group and the object's version in it comes, goes or changes its weight
abbrev pub ExchangesAt : ℕ → List ℕ → ℕ → List (ℕ × Filespace) → List (ℕ × Filespace) → Type 0
ExchangesAt n path object old new =
    (one : ℕ) (of : List CopyRow → ℕ) → weigh_filespaces one of new + weigh_at one of object (group_at n path old) ≡ weigh_filespaces one of old + weigh_at one of object (group_at n path new)

-- of the held objects none but this one comes, goes or changes its weight
abbrev pub ExchangesHeld : ℕ → List (ℕ × HeldRow) → List (ℕ × HeldRow) → Type 0
ExchangesHeld object old new = (of : List CopyRow → ℕ) → weigh_held of new + weigh_row of (held_at object old) ≡ weigh_held of old + weigh_row of (held_at object new)

-- nothing comes, goes or changes its weight
abbrev pub WeighsTheSame : List (ℕ × Filespace) → List (ℕ × Filespace) → Type 0
WeighsTheSame old new = (one : ℕ) (of : List CopyRow → ℕ) → weigh_filespaces one of new ≡ weigh_filespaces one of old

-- ---- items

-- the number that is kept, where one is kept, is less than the total by what is owed
abbrev pub Owes : ℕ → ℕ → Option ℕ → Type 0
Owes owed total kept = IfSome kept (λ n. n + owed ≡ total)

-- so much is counted, where a count is kept
abbrev pub Counts : ℕ → Option ℕ → Type 0
Counts total kept = IfSome kept (λ n. n ≡ total)

-- ---- copies in each pool

-- how many of the copies lie in the pool
abbrev pub placed_in : ℕ → List CopyRow → ℕ
placed_in pool copies = count_by (λ c. c.pool == pool) copies

-- one, where both pools are one
abbrev pub one_in : ℕ → ℕ → ℕ
one_in pool q = if pool == q then 1 else 0

-- the number that is kept for a pool; nothing where none is
abbrev pub kept_at : ℕ → List (ℕ × ℕ) → ℕ
kept_at pool counts = unwrap_or (lookup (at_number pool) counts) 0

-- for each pool so many are counted, where counts are kept
abbrev pub CountsEach : (ℕ → ℕ) → Option (List (ℕ × ℕ)) → Type 0
CountsEach total kept = IfSome kept (λ counts. (pool : ℕ) → kept_at pool counts ≡ total pool)

-- for each pool the number that is kept, where one is kept, is less than the total by what is owed
abbrev pub OwesEach : (ℕ → ℕ) → (ℕ → ℕ) → Option (List (ℕ × ℕ)) → Type 0
OwesEach owed total kept = IfSome kept (λ counts. (pool : ℕ) → kept_at pool counts + owed pool ≡ total pool)

-- ---- all that is kept

-- what is kept is what the filespaces have
pub record IsCounted (tally : Tally) (filespaces : List (ℕ × Filespace)) : Type 0 where
  pub items : Counts (items_of_filespaces filespaces) tally.items
  pub pools : CountsEach (λ pool. weigh_filespaces 0 (placed_in pool) filespaces) tally.pools

-- what is kept is what the held objects have
pub record IsCountedHeld (tally : Tally) (held : List (ℕ × HeldRow)) : Type 0 where
  pub items : Counts (items_of_held held) tally.items
  pub pools : CountsEach (λ pool. weigh_held (placed_in pool) held) tally.pools
