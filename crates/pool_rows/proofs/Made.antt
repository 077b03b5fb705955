-- What the changes make where they are not refused.
use Rattle.std.proofs.Common.{◌≡◌, ℕ, Bool, true, false, ◌&&◌, List, Option, Some, None, is_some, Result, Ok, Err, if◌then◌else◌, refl, sym, ap, ◌∙◌}
use Rattle.std.specs.Map.{remove_entry}
use Rattle.std.specs.BTreeMap.{insert_entry, is_at}
use Rattle.std.specs.Cmp.Lexicographic.{slice_cmp}
use Rattle.std.specs.Ordering.{nat_cmp}
use Rattle.std.specs.Result.{result_err}
use Rattle.pool_tables.specs.kinds.declared.pool.Access.{Access}
use Rattle.pool_tables.specs.kinds.declared.pool.PoolKind.{PoolKind}
use Rattle.pool_tables.specs.kinds.declared.pool.PoolRule.{PoolRule}
use Rattle.pool_tables.specs.kinds.declared.refusal.Refusal.{Refusal}
use Rattle.pool_tables.specs.kinds.declared.refusal.Refusal.TheVariants.{NotFound, Exists, BadHierarchy}
use Rattle.pool_tables.specs.Rows.{named, row_at, with_row, without_row, edit_row}
use Rattle.pool_tables.specs.RowChanges.{with_settings}
use Rattle.pool_rows.specs.PoolRows.{PoolRows, class_capacity, pool_named, volume_named}
use Rattle.pool_rows.specs.ClassChanges.{define_class, delete_class, class_gone, pool_of_class}
use Rattle.pool_rows.specs.Hierarchy.{is_bad_hierarchy}
use Rattle.pool_rows.specs.Changes.{is_next_there, is_bad_row, new_pool, define_pool, update_numbered, update_pool, delete_numbered, delete_pool, unless_filled, unless_before, volume_of_pool, pool_before, new_volume, define_volume, delete_filed, delete_volume, unless_held, object_on}

-- what is said of a row that comes, by three tests
abbrev said_of : {S : Type 0} → S → Bool → Bool → Bool → Result S Refusal
said_of made supplied taken bad = if supplied then (if taken then Err Exists else (if bad then Err BadHierarchy else Ok made)) else Err NotFound

comes : {S : Type 0} (made : S) (supplied taken bad : Bool) → result_err (said_of made supplied taken bad) ≡ None → (taken ≡ false) × (said_of made supplied taken bad ≡ Ok made)
comes made true false false h = (refl, refl)
comes made true false true h = absurd (cc)
comes made true true bad h = absurd (cc)
comes made false taken bad h = absurd (cc)

nothing : {A : Type 0} (o : Option A) → is_some o ≡ false → o ≡ None
nothing None h = refl
nothing (Some x) h = absurd (cc)

pub class_comes : (class : List ℕ) (capacity : ℕ) (s : PoolRows) → result_err (define_class class capacity s) ≡ None
    → define_class class capacity s ≡ Ok (record s { classes = insert_entry (slice_cmp nat_cmp) s.classes class (Some capacity) })
class_comes class capacity s h =
    (comes (record s { classes = insert_entry (slice_cmp nat_cmp) s.classes class (Some capacity) }) true (is_some (named class s.classes)) false h).1

pub class_goes : (class : List ℕ) (s : PoolRows) → result_err (delete_class class s) ≡ None → delete_class class s ≡ Ok (record s { classes = remove_entry (is_at (slice_cmp nat_cmp class)) s.classes })
class_goes class s = go (is_some (class_capacity class s)) (pool_of_class class s) where
  go : (there : Bool) (user : Option ℕ) → result_err (if there then class_gone class s user else Err NotFound) ≡ None
      → (if there then class_gone class s user else Err NotFound) ≡ Ok (record s { classes = remove_entry (is_at (slice_cmp nat_cmp class)) s.classes })
  go true None h = refl
  go true (Some pool) h = absurd (cc)
  go false user h = absurd (cc)

pool_said : (number : ℕ) (name class : List ℕ) (kind : PoolKind) (rule : PoolRule) (s : PoolRows) → result_err (define_pool number name class kind rule s) ≡ None
    → (is_some (pool_named name s) ≡ false) × (define_pool number name class kind rule s ≡ Ok (record s { pools = with_row number (new_pool name class kind rule) s.pools }))
pool_said number name class kind rule s h =
    comes (record s { pools = with_row number (new_pool name class kind rule) s.pools }) (is_some (named class s.classes) && is_next_there rule.next s) (is_some (pool_named name s)) (is_bad_hierarchy number class kind rule.next s) h

pub pool_is_new : (number : ℕ) (name class : List ℕ) (kind : PoolKind) (rule : PoolRule) (s : PoolRows) → result_err (define_pool number name class kind rule s) ≡ None → pool_named name s ≡ None
pool_is_new number name class kind rule s h = nothing (pool_named name s) (pool_said number name class kind rule s h).0

pub pool_comes : (number : ℕ) (name class : List ℕ) (kind : PoolKind) (rule : PoolRule) (s : PoolRows) → result_err (define_pool number name class kind rule s) ≡ None
    → define_pool number name class kind rule s ≡ Ok (record s { pools = with_row number (new_pool name class kind rule) s.pools })
pool_comes number name class kind rule s h = (pool_said number name class kind rule s h).1

pub pool_changes : (name : List ℕ) (rule : PoolRule) (s : PoolRows) (number : ℕ) → Some number ≡ pool_named name s → result_err (update_pool name rule s) ≡ None
    → update_pool name rule s ≡ Ok (record s { pools = edit_row number (with_settings rule) s.pools })
pool_changes name rule s number found h =
    sym (ap (said (is_next_there rule.next s)) found)
    ∙ go (is_next_there rule.next s) (is_bad_row number rule.next s (row_at number s.pools)) (ap (λ o. result_err (said (is_next_there rule.next s) o)) found ∙ h) where
      said : Bool → Option ℕ → Result PoolRows Refusal
      said there o = if there then update_numbered rule s o else Err NotFound

      go : (there bad : Bool) → result_err (if there then (if bad then Err BadHierarchy else Ok (record s { pools = edit_row number (with_settings rule) s.pools })) else Err NotFound) ≡ None
          → (if there then (if bad then Err BadHierarchy else Ok (record s { pools = edit_row number (with_settings rule) s.pools })) else Err NotFound) ≡ Ok (record s { pools = edit_row number (with_settings rule) s.pools })
      go true false h = refl
      go true true h = absurd (cc)
      go false bad h = absurd (cc)

pub pool_goes : (name : List ℕ) (s : PoolRows) (number : ℕ) → Some number ≡ pool_named name s → result_err (delete_pool name s) ≡ None → delete_pool name s ≡ Ok (record s { pools = without_row number s.pools })
pool_goes name s number found h = sym (ap (delete_numbered s) found) ∙ unfilled (volume_of_pool number s) (ap (λ o. result_err (delete_numbered s o)) found ∙ h) where
  behind_none : (before : Option ℕ) → result_err (unless_before number s before) ≡ None → unless_before number s before ≡ Ok (record s { pools = without_row number s.pools })
  behind_none None h = refl
  behind_none (Some pool) h = absurd (cc)

  unfilled : (file : Option ℕ) → result_err (unless_filled number s file) ≡ None → unless_filled number s file ≡ Ok (record s { pools = without_row number s.pools })
  unfilled None h = behind_none (pool_before number s) h
  unfilled (Some file) h = absurd (cc)

volume_said : (name : List ℕ) (pool file capacity : ℕ) (access : Access) (s : PoolRows) → result_err (define_volume name pool file capacity access s) ≡ None
    → (is_some (volume_named name s) ≡ false) × (define_volume name pool file capacity access s ≡ Ok (record s { volumes = with_row file (new_volume name pool capacity access) s.volumes }))
volume_said name pool file capacity access s h =
    comes (record s { volumes = with_row file (new_volume name pool capacity access) s.volumes }) (is_some (row_at pool s.pools)) (is_some (volume_named name s)) false h

pub volume_is_new : (name : List ℕ) (pool file capacity : ℕ) (access : Access) (s : PoolRows) → result_err (define_volume name pool file capacity access s) ≡ None → volume_named name s ≡ None
volume_is_new name pool file capacity access s h = nothing (volume_named name s) (volume_said name pool file capacity access s h).0

pub volume_comes : (name : List ℕ) (pool file capacity : ℕ) (access : Access) (s : PoolRows) → result_err (define_volume name pool file capacity access s) ≡ None
    → define_volume name pool file capacity access s ≡ Ok (record s { volumes = with_row file (new_volume name pool capacity access) s.volumes })
volume_comes name pool file capacity access s h = (volume_said name pool file capacity access s h).1

pub volume_goes : (name : List ℕ) (s : PoolRows) (file : ℕ) → Some file ≡ volume_named name s → result_err (delete_volume name s) ≡ None → delete_volume name s ≡ Ok (record s { volumes = without_row file s.volumes })
volume_goes name s file found h = sym (ap (delete_filed s) found) ∙ go (object_on (row_at file s.volumes)) (ap (λ o. result_err (delete_filed s o)) found ∙ h) where
  go : (object : Option ℕ) → result_err (unless_held file s object) ≡ None → unless_held file s object ≡ Ok (record s { volumes = without_row file s.volumes })
  go None h = refl
  go (Some object) h = absurd (cc)

-- a change that is refused
pub refused : (e : Refusal) (said : Result PoolRows Refusal) → Some e ≡ result_err said → said ≡ Err e
refused e (Ok s) h = absurd (cc)
refused e (Err f) h = cc
