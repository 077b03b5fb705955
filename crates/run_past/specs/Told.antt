-- What is told of a run's transactions, and how one transaction more is told.
use Rattle.std.specs.Prelude.{ℕ, Bool, List, [], ◌∷◌, Option, None, Some, option_and_then, is_some, if◌then◌else◌}
use Rattle.std.specs.BTreeMap.{is_at}
use Rattle.std.specs.Cmp.Lexicographic.{slice_cmp}
use Rattle.std.specs.Map.{lookup}
use Rattle.std.specs.Ordering.{nat_cmp, ordering_then}
use Rattle.std.specs.declared.cmp.Ordering.{Ordering}
use Rattle.entries.specs.declared.entry.Entry.{Entry}
use Rattle.inventory_rows.specs.State.{Inv}
use Rattle.inventory_rules.specs.Journal.{Journal}
use Rattle.inventory_rules.specs.Run.{is_changed, is_copy_changed, is_emptied, is_removed}
use Rattle.inventory_rules.specs.Transactions.{effect}

-- The last transactions that removed an object; that changed or removed it; that changed or removed its copy in a pool; and that emptied a path, by filespace. Of a key that stands with
-- no number nothing is told yet.
pub record Told : Type 0 where
  pub removed : List (ℕ × Option ℕ)
  pub changed : List (ℕ × Option ℕ)
  pub copies : List ((ℕ × ℕ) × Option ℕ)
  pub emptied : List (ℕ × List (List ℕ × Option ℕ))

-- an object and a pool stand by object, and then by pool
abbrev pub pair_cmp : ℕ × ℕ → ℕ × ℕ → Ordering
pair_cmp a b = ordering_then (nat_cmp a.0 b.0) (nat_cmp a.1 b.1)

-- what is told of the key that the query finds
abbrev pub told_at : {K : Type 0} → (K → Ordering) → List (K × Option ℕ) → Option ℕ
told_at compare entries = option_and_then (λ number. number) (lookup (is_at compare) entries)

-- the query finds a key
abbrev pub has_key : {K : Type 0} → (K → Ordering) → List (K × Option ℕ) → Bool
has_key compare entries = is_some (lookup (is_at compare) entries)

-- what is told of the paths of a filespace
abbrev pub paths_in : Option (List (List ℕ × Option ℕ)) → List (List ℕ × Option ℕ)
paths_in None = []
paths_in (Some paths) = paths

abbrev pub paths_of : ℕ → List (ℕ × List (List ℕ × Option ℕ)) → List (List ℕ × Option ℕ)
paths_of filespace emptied = paths_in (lookup (is_at (nat_cmp filespace)) emptied)

abbrev pub told_of_path : ℕ → List ℕ → List (ℕ × List (List ℕ × Option ℕ)) → Option ℕ
told_of_path filespace path emptied = told_at (slice_cmp nat_cmp path) (paths_of filespace emptied)

abbrev pub has_path : ℕ → List ℕ → List (ℕ × List (List ℕ × Option ℕ)) → Bool
has_path filespace path emptied = has_key (slice_cmp nat_cmp path) (paths_of filespace emptied)

-- what is told, as a journal tells it
abbrev pub journal_from : Told → Journal
journal_from t = record {
  removed = λ object. told_at (nat_cmp object) t.removed;
  changed = λ object. told_at (nat_cmp object) t.changed;
  copy_changed = λ object pool. told_at (pair_cmp (object, pool)) t.copies;
  path_emptied = λ filespace path. told_of_path filespace path t.emptied;
}

-- ---- one transaction more

-- this number where the transaction did so, and else what was told before
abbrev pub now_or : Bool → ℕ → Option ℕ → Option ℕ
now_or did number told = if did then Some number else told

-- what a journal tells with one transaction more, which made the second database of the first
abbrev pub journal_with : Inv → Inv → Journal → Journal
journal_with v w j = record {
  removed = λ object. now_or (is_removed object v w) w.number (j.removed object);
  changed = λ object. now_or (is_changed object v w) w.number (j.changed object);
  copy_changed = λ object pool. now_or (is_copy_changed object pool v w) w.number (j.copy_changed object pool);
  path_emptied = λ filespace path. now_or (is_emptied filespace path v w) w.number (j.path_emptied filespace path);
}

-- the database behind these transactions
abbrev pub behind_all : Inv → List Entry → Inv
behind_all v [] = v
behind_all v (e ∷ entries) = behind_all (effect e.change v) entries
