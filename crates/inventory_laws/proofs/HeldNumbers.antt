-- Held objects stand under their numbers, in filespaces that are there.
use Rattle.std.proofs.Common.{◌≡◌, ℕ, Bool, true, false, cond, eqb, ◌&&◌, ◌||◌, is_some, List, [], ◌∷◌, Some, None, refl, sym, ap, ◌∙◌}
use Rattle.std.specs.Prelude.{is_none}
use Rattle.std.proofs.lemmas.Bool.{and_parts, and_from, eqb-true, eq-eqb}
use Rattle.std.specs.BTreeMap.{insert_entry, is_at}
use Rattle.std.specs.List.{list_all}
use Rattle.std.specs.Map.{lookup, remove_entry}
use Rattle.std.specs.Ordering.{is_eq, match_ordering, nat_cmp}
use Rattle.std.specs.declared.cmp.Ordering.{Ordering}
use Rattle.std.specs.declared.cmp.Ordering.TheVariants.{Less, Equal, Greater}
use Rattle.inventory_rules.specs.inventory_rows.version_groups.declared.groups.Filespace.{Filespace}
use Rattle.inventory_rules.specs.inventory_rows.version_groups.Versions.{has_object}
use Rattle.inventory_rules.specs.inventory_rows.object_rows.declared.held_object.HeldObject.{HeldObject}
use Rattle.inventory_rules.specs.inventory_rows.object_rows.declared.held_object.HeldRow.{HeldRow}
use Rattle.inventory_rules.specs.inventory_rows.object_rows.Filespaces.{at_number, filespace_at}
use Rattle.inventory_rules.specs.inventory_rows.object_rows.HeldRows.{has_row, held_at, held_versions, held_with, held_without, is_held_row}
use Rattle.inventory_rules.proofs.of_inventory_rows.of_object_rows.Stands.{at-eqb, same_number}
use Rattle.inventory_laws.proofs.Kept.{is_held_there}

-- ---- what each entry passes
pub all-removed : {K X : Type 0} (p : K × X → Bool) (test : K → Bool) (es : List (K × X)) → list_all p es ≡ true → list_all p (remove_entry test es) ≡ true
all-removed p test [] h = refl
all-removed p test (e ∷ es) h =
    let hs : (p e ≡ true) × (list_all p es ≡ true) = and_parts (p e) (list_all p es) h in
    elim (test e.0) as (λ b. list_all p (cond b es (e ∷ remove_entry test es)) ≡ true) [
      | true ↦ hs.1
      | false ↦ and_from (p e) (list_all p (remove_entry test es)) hs.0 (all-removed p test es hs.1)
    ]

pub all-inserted : {K X : Type 0} (p : K × X → Bool) (R : K → K → Ordering) (es : List (K × X)) (k : K) (x : X) → lookup (is_at (R k)) es ≡ None → p (k, x) ≡ true → list_all p es ≡ true → list_all p (insert_entry R es k x) ≡ true
all-inserted p R [] k x absent here h = and_from (p (k, x)) true here refl
all-inserted {K} {X} p R (e ∷ es) k x absent here h =
    let hs : (p e ≡ true) × (list_all p es ≡ true) = and_parts (p e) (list_all p es) h in
    elim (R k e.0) as (λ r. cond (is_eq r) (Some e.1) (lookup (is_at (R k)) es) ≡ None → list_all p (match_ordering r ((k, x) ∷ e ∷ es) ((e.0, x) ∷ es) (e ∷ insert_entry R es k x)) ≡ true) [
      | Less ↦ λ _. and_from (p (k, x)) (list_all p (e ∷ es)) here h
      | Equal ↦ λ there. absurd (cc)
      | Greater ↦ λ none. and_from (p e) (list_all p (insert_entry R es k x)) hs.0 (all-inserted p R es k x none here hs.1)
    ] absent

-- ---- a row and its object
number_of : (fs : List (ℕ × Filespace)) (e : ℕ × HeldRow) → is_held_there fs e ≡ true → e.1.held.version.object ≡ e.0
number_of fs e h =
    let row : is_held_row e ≡ true = (and_parts (is_held_row e) (is_some (filespace_at e.1.filespace fs)) h).0 in
    eqb-true e.1.held.version.object e.0 (and_parts (eqb e.1.held.version.object e.0) (is_none e.1.held.version.since) row).0

-- an object is held where a row stands under its number
pub has-held : (k : ℕ) (fs : List (ℕ × Filespace)) (held : List (ℕ × HeldRow)) → list_all (is_held_there fs) held ≡ true → has_object k (held_versions held) ≡ has_row k held
has-held k fs [] h = refl
has-held k fs (e ∷ held) h =
    let hs : (is_held_there fs e ≡ true) × (list_all (is_held_there fs) held ≡ true) = and_parts (is_held_there fs e) (list_all (is_held_there fs) held) h in
    ap (λ n. eqb n k || has_object k (held_versions held)) (number_of fs e hs.0)
    ∙ ap (λ b. b || has_object k (held_versions held)) (sym (at-eqb k e.0))
    ∙ elim (at_number k e.0) as (λ b. (b || has_object k (held_versions held)) ≡ is_some (cond b (Some e.1) (held_at k held))) [
      | true ↦ refl
      | false ↦ has-held k fs held hs.1
    ]

-- the row under a number is of the object of that number
pub held_object : (k : ℕ) (fs : List (ℕ × Filespace)) (held : List (ℕ × HeldRow)) (row : HeldRow) → list_all (is_held_there fs) held ≡ true → held_at k held ≡ Some row → row.held.version.object ≡ k
held_object k fs [] row h found = absurd (cc)
held_object k fs (e ∷ held) row h found =
    let hs : (is_held_there fs e ≡ true) × (list_all (is_held_there fs) held ≡ true) = and_parts (is_held_there fs e) (list_all (is_held_there fs) held) h in
    elim (at_number k e.0) as (λ b. at_number k e.0 ≡ b → cond b (Some e.1) (held_at k held) ≡ Some row → row.held.version.object ≡ k) [
      | true ↦ λ here t.
          let same : row ≡ e.1 = cc in
          ap (λ (r : HeldRow). r.held.version.object) same ∙ number_of fs e hs.0 ∙ sym (same_number k e.0 here)
      | false ↦ λ _ t. held_object k fs held row hs.1 t
    ] refl found

-- ---- rows that come and go
pub held_there-without : (k : ℕ) (fs : List (ℕ × Filespace)) (held : List (ℕ × HeldRow)) → list_all (is_held_there fs) held ≡ true → list_all (is_held_there fs) (held_without k held) ≡ true
held_there-without k fs held h = all-removed (is_held_there fs) (at_number k) held h

pub held_there-with : (n : ℕ) (it : HeldObject) (fs : List (ℕ × Filespace)) (held : List (ℕ × HeldRow)) → held_at it.version.object held ≡ None → is_some (filespace_at n fs) ≡ true → it.version.since ≡ None → list_all (is_held_there fs) held ≡ true
    → list_all (is_held_there fs) (held_with n it held) ≡ true
held_there-with n it fs held none there kept h =
    let k : ℕ = it.version.object in
    all-inserted (is_held_there fs) nat_cmp held k (record { filespace = n; held = it }) none
    (and_from (eqb k k && is_none it.version.since) (is_some (filespace_at n fs)) (and_from (eqb k k) (is_none it.version.since) (eq-eqb k k refl) (ap is_none kept)) there) h
