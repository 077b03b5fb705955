-- What the journal of a run tells, from the transactions of the run.
use Rattle.std.specs.Prelude.{ℕ, Bool, true, false, not, ◌==◌, ◌&&◌, is_some, is_none, List, [], ◌∷◌, Option, Some, None, if◌then◌else◌}
use Rattle.std.specs.Option.{option_map_or, option_or}
use Rattle.entries.specs.declared.entry.Entry.{Entry}
use Rattle.inventory_rows.specs.version_groups.declared.copies.CopyRow.{CopyRow}
use Rattle.inventory_rows.specs.version_groups.declared.versions.Version.{Version}
use Rattle.inventory_rows.specs.Search.{copy_in, group, version}
use Rattle.inventory_rows.specs.State.{Inv}
use Rattle.inventory_rules.specs.Journal.{Journal}
use Rattle.inventory_rules.specs.Transactions.{effect}

-- the number of the last of these transactions, made on this database one after the other, that did something to it
abbrev pub last_of : (Inv → Inv → Bool) → Inv → List Entry → Option ℕ
last_of did v [] = None
last_of did v (e ∷ entries) =
    option_or (last_of did (effect e.change v) entries) (if did v (effect e.change v) then Some (effect e.change v).number else None)

-- the object's version was there and isn't any more
abbrev pub is_removed : ℕ → Inv → Inv → Bool
is_removed object v w = is_some (version object v) && is_none (version object w)

abbrev pub is_same_day : Option ℕ → Option ℕ → Bool
is_same_day None None = true
is_same_day (Some a) (Some b) = a == b
is_same_day _ _ = false

-- copies in the same pools, placed by the same transactions
abbrev pub are_same_copies : List CopyRow → List CopyRow → Bool
are_same_copies [] [] = true
are_same_copies (a ∷ copies) (b ∷ others) = (a.pool == b.pool && a.placed == b.placed) && are_same_copies copies others
are_same_copies _ _ = false

abbrev pub differs_from : Version → Version → Bool
differs_from a b = not (is_same_day a.since b.since && are_same_copies a.copies b.copies)

-- it was there and isn't any more, or is inactive since another day or has other copies
abbrev pub is_changed : ℕ → Inv → Inv → Bool
is_changed object v w = option_map_or (λ a. option_map_or (differs_from a) (version object w) true) (version object v) false

-- the object's copy in a pool
abbrev pub copy_of : ℕ → ℕ → Inv → Option CopyRow
copy_of object pool v = option_map_or (copy_in pool) (version object v) None

-- it was there and isn't any more, or was placed by another transaction
abbrev pub is_copy_changed : ℕ → ℕ → Inv → Inv → Bool
is_copy_changed object pool v w = option_map_or (λ a. option_map_or (λ b. not (a.placed == b.placed)) (copy_of object pool w) true) (copy_of object pool v) false

-- the path had versions and has none any more
abbrev pub is_emptied : ℕ → List ℕ → Inv → Inv → Bool
is_emptied filespace path v w = is_some (group filespace path v) && is_none (group filespace path w)

-- what the journal with these transactions tells, the first of which was made on this database
abbrev pub journal_of : Inv → List Entry → Journal
journal_of base entries = record {
  removed = λ object. last_of (is_removed object) base entries;
  changed = λ object. last_of (is_changed object) base entries;
  copy_changed = λ object pool. last_of (is_copy_changed object pool) base entries;
  path_emptied = λ filespace path. last_of (is_emptied filespace path) base entries;
}
