-- A segment that is clear of what is there now is clear of each database that a stop may bring back.
use Rattle.std.proofs.Common.{◌≡◌, ℕ, ◌+◌, ◌≤◌, Bool, true, false, cond, not, ◌&&◌, ◌||◌, List, [], ◌∷◌, map, Option, Some, None, refl, sym, ap, subst, ◌∙◌, arith}
use Rattle.std.specs.Prelude.{◌==◌, nat_le}
use Rattle.std.specs.List.{AllByRecursion, filter, list_all, list_any}
use Rattle.std.proofs.lemmas.Bool.{and_parts, eqb-true, le-leb}
use Rattle.kinds.specs.declared.segment.Segment.{Segment}
use Rattle.entries.specs.declared.entry.Entry.{Entry}
use Rattle.inventory_rows.specs.volume_rows.declared.volume.Volume.{Volume}
use Rattle.inventory_rows.specs.pool_rows.PoolRows.{is_sequential}
use Rattle.inventory_rows.specs.pool_tables.Rows.{row_at}
use Rattle.inventory_rows.specs.Search.{segments_on}
use Rattle.inventory_rows.specs.State.{Inv}
use Rattle.inventory_rules.specs.Segments.{are_clear}
use Rattle.inventory_rules.specs.Transactions.{effect}
use Rattle.inventory_rules.specs.Valid.{is_valid}
use Rattle.inventory_laws.proofs.Lists.{all_from, each_also, each_joined, each_mapped}
use Rattle.inventory_laws.proofs.Rising.{all_below}
use Rattle.machine.specs.Machine.{all_segments, freed, is_same_segment, left_by}
use Rattle.machine.specs.State.{after}
use Rattle.hall.specs.Covered.{databases, is_any_reuse, is_beside}
use Rattle.hall.proofs.Along.{Along, IsSame, IsStep, end_at, end_found, ends_rise, kept_to_end, none_lies, volume_from_all}

-- ---- a database

or_true : (b : Bool) → (b || true) ≡ true
or_true true = refl
or_true false = refl

-- what begins where another segment ends, or behind, is clear of it
pub clear_behind : (s x : Segment) → x.offset + 32 + x.len ≤ s.offset → are_clear true s x ≡ true
clear_behind s x le =
    ap (λ (b : Bool). nat_le (s.offset + 32 + s.len) x.offset || b) (le-leb (x.offset + 32 + x.len) s.offset le) ∙ or_true (nat_le (s.offset + 32 + s.len) x.offset)

pub clear_before : (s x : Segment) → s.offset + 32 + s.len ≤ x.offset → are_clear true s x ≡ true
clear_before s x le = ap (λ (b : Bool). b || nat_le (x.offset + 32 + x.len) s.offset) (le-leb (s.offset + 32 + s.len) x.offset le)

-- nothing lies on a volume that isn't there
pub beside_absent : (number : ℕ) (s : Segment) (v : Inv) → is_valid v ≡ true → row_at s.file v.stores.volumes ≡ None → is_beside number s v ≡ true
beside_absent number s v valid absent =
    all_from (λ (e : ℕ × Segment). are_clear (is_sequential number v.stores) s e.1) (segments_on s.file v)
    (none_lies (λ x. are_clear (is_sequential number v.stores) s x ≡ true) s.file v valid absent)

pub all_beside_absent : (number : ℕ) (s : Segment) (list : List Inv) → AllByRecursion (λ v. is_valid v ≡ true) list → AllByRecursion (λ v. row_at s.file v.stores.volumes ≡ None) list
    → AllByRecursion (λ v. is_beside number s v ≡ true) list
all_beside_absent number s [] valid absent = tt
all_beside_absent number s (v ∷ list) valid absent = (beside_absent number s v valid.0 absent.0, all_beside_absent number s list valid.1 absent.1)

-- ---- a sequential volume: what is behind its end

module _ (number : ℕ) (s : Segment) (new : Volume) (is : new.pool ≡ number) where
  behind_end : (v : Inv) (es : List Entry) → is_valid v ≡ true → Along (IsStep s.file) v es → AllByRecursion (λ e. is_any_reuse e.change ≡ false) es → row_at s.file (after v es).stores.volumes ≡ Some new
      → is_sequential number (after v es).stores ≡ true → end_at s.file (after v es) ≤ s.offset → is_beside number s v ≡ true
  behind_end v es valid h none there kind behind = go (row_at s.file v.stores.volumes) refl where
    go : (o : Option Volume) → row_at s.file v.stores.volumes ≡ o → is_beside number s v ≡ true
    go None at = beside_absent number s v valid at
    go (Some old) at =
        let same : IsSame v (after v es) old new = kept_to_end s.file v es h old new at there in
        let of : old.pool ≡ number = sym same.pool ∙ is in
        let now : is_sequential old.pool v.stores ≡ true = sym same.sequential ∙ ap (λ (n : ℕ). is_sequential n (after v es).stores) of ∙ kind in
        let rise = ends_rise s.file v es h none in
        let end : end_at s.file v ≡ old.end = end_found s.file v old at in
        let kinds : is_sequential number v.stores ≡ true = ap (λ (n : ℕ). is_sequential n v.stores) (sym of) ∙ now in
        ap (λ (b : Bool). list_all (λ (e : ℕ × Segment). are_clear b s e.1) (segments_on s.file v)) kinds
        ∙ all_from (λ (e : ℕ × Segment). are_clear true s e.1) (segments_on s.file v)
        (each_also (λ (e : ℕ × Segment). e.1.offset + 32 + e.1.len ≤ old.end) (λ (e : ℕ × Segment). are_clear true s e.1 ≡ true) (segments_on s.file v)
        (λ e low. clear_behind s e.1 (omega (arith, low, end, rise, behind))) (all_below v s.file old valid at now))

  pub each_behind_end : (v : Inv) (es : List Entry) → is_valid v ≡ true → Along (IsStep s.file) v es → AllByRecursion (λ e. is_any_reuse e.change ≡ false) es → row_at s.file (after v es).stores.volumes ≡ Some new
      → is_sequential number (after v es).stores ≡ true → end_at s.file (after v es) ≤ s.offset → AllByRecursion (λ x. is_beside number s x ≡ true) (databases v es)
  each_behind_end v [] valid h none there kind behind = (behind_end v [] valid h none there kind behind, tt)
  each_behind_end v (e ∷ es) valid h none there kind behind =
      (behind_end v (e ∷ es) valid h none there kind behind, each_behind_end (effect e.change v) es h.0.left h.1 none.1 there kind behind)

-- ---- a volume of random access: what is there, and what went since

same_segment : (a b : Segment) → is_same_segment a b ≡ true → b ≡ a
same_segment a b h =
    let t = and_parts (a.file == b.file) (a.offset == b.offset && a.len == b.len) h in
    let u = and_parts (a.offset == b.offset) (a.len == b.len) t.1 in
    sym
    (ap (λ (n : ℕ). let x : Segment = record { file = n; offset = a.offset; len = a.len } in x) (eqb-true a.file b.file t.0)
    ∙ ap (λ (n : ℕ). let x : Segment = record { file = b.file; offset = n; len = a.len } in x) (eqb-true a.offset b.offset u.0)
    ∙ ap (λ (n : ℕ). let x : Segment = record { file = b.file; offset = b.offset; len = n } in x) (eqb-true a.len b.len u.1))

module _ (Q : Segment → Type 0) where
  found_same : (x : Segment) (ys : List Segment) → list_any (is_same_segment x) ys ≡ true → AllByRecursion Q ys → Q x
  found_same x [] h all = absurd cc
  found_same x (y ∷ ys) h all =
      elim (is_same_segment x y) as (λ b. is_same_segment x y ≡ b → (b || list_any (is_same_segment x) ys) ≡ true → Q x) [
        | true ↦ λ is _. subst Q (same_segment x y is) all.0
        | false ↦ λ _ later. found_same x ys later all.1
      ] refl h

  -- each segment is still there, or went
  stays_or_went : (there : List Segment) (xs : List Segment) → AllByRecursion Q there → AllByRecursion Q (filter (λ x. not (list_any (is_same_segment x) there)) xs) → AllByRecursion Q xs
  stays_or_went there [] now went = tt
  stays_or_went there (x ∷ xs) now went =
      elim (list_any (is_same_segment x) there) as
      (λ b. list_any (is_same_segment x) there ≡ b → AllByRecursion Q (cond (not b) (x ∷ filter (λ y. not (list_any (is_same_segment y) there)) xs) (filter (λ y. not (list_any (is_same_segment y) there)) xs)) → AllByRecursion Q (x ∷ xs)) [
        | true ↦ λ is w. (found_same x there is now, stays_or_went there xs now w)
        | false ↦ λ _ w. (w.0, stays_or_went there xs now w.1)
      ] refl went

  all_since : (v : Inv) (es : List Entry) → AllByRecursion Q (all_segments (after v es)) → AllByRecursion (λ f. Q f.1) (freed v es) → AllByRecursion Q (all_segments v)
  all_since v [] now went = now
  all_since v (e ∷ es) now went =
      let next : Inv = effect e.change v in
      let t = each_joined (λ (f : ℕ × Segment). Q f.1) (map (λ s. (next.number, s)) (left_by v next)) (freed next es) went in
      stays_or_went (all_segments next) (all_segments v) (all_since next es now t.1) (each_mapped (λ (f : ℕ × Segment). Q f.1) (λ (s : Segment). (next.number, s)) (left_by v next) t.0)

module _ (number : ℕ) (s : Segment) (new : Volume) (is : new.pool ≡ number) where
  abbrev ClearOf : Segment → Type 0
  ClearOf x = x.file ≡ s.file → are_clear false s x ≡ true

  in_free : (v : Inv) (es : List Entry) → is_valid v ≡ true → Along (IsStep s.file) v es → row_at s.file (after v es).stores.volumes ≡ Some new → is_sequential number (after v es).stores ≡ false
      → AllByRecursion ClearOf (all_segments (after v es)) → AllByRecursion (λ f. ClearOf f.1) (freed v es) → is_beside number s v ≡ true
  in_free v es valid h there kind now went = go (row_at s.file v.stores.volumes) refl where
    go : (o : Option Volume) → row_at s.file v.stores.volumes ≡ o → is_beside number s v ≡ true
    go None at = beside_absent number s v valid at
    go (Some old) at =
        let same : IsSame v (after v es) old new = kept_to_end s.file v es h old new at there in
        let of : old.pool ≡ number = sym same.pool ∙ is in
        let before : is_sequential number v.stores ≡ false =
        ap (λ (n : ℕ). is_sequential n v.stores) (sym of) ∙ sym same.sequential ∙ ap (λ (n : ℕ). is_sequential n (after v es).stores) of ∙ kind in
        ap (λ (b : Bool). list_all (λ (e : ℕ × Segment). are_clear b s e.1) (segments_on s.file v)) before
        ∙ all_from (λ (e : ℕ × Segment). are_clear false s e.1) (segments_on s.file v) (volume_from_all (λ x. are_clear false s x ≡ true) s.file v (all_since ClearOf v es now went))

  pub each_in_free : (v : Inv) (es : List Entry) → is_valid v ≡ true → Along (IsStep s.file) v es → row_at s.file (after v es).stores.volumes ≡ Some new → is_sequential number (after v es).stores ≡ false
      → AllByRecursion ClearOf (all_segments (after v es)) → AllByRecursion (λ f. ClearOf f.1) (freed v es) → AllByRecursion (λ x. is_beside number s x ≡ true) (databases v es)
  each_in_free v [] valid h there kind now went = (in_free v [] valid h there kind now went, tt)
  each_in_free v (e ∷ es) valid h there kind now went =
      let next : Inv = effect e.change v in
      let t = each_joined (λ (f : ℕ × Segment). ClearOf f.1) (map (λ x. (next.number, x)) (left_by v next)) (freed next es) went in
      (in_free v (e ∷ es) valid h there kind now went, each_in_free next es h.0.left h.1 there kind now t.1)
