-- What is kept along the databases of a run: each is valid, numbers rise, and a volume that is there to the end lies in one pool and ends later and later.
use Rattle.std.proofs.Common.{◌≡◌, ◌⊎◌, inl, inr, ℕ, suc, zero, ◌+◌, ◌≤◌, Bool, true, false, cond, not, ◌&&◌, is_some, List, [], ◌∷◌, ◌++◌, length, map, take, drop, Option, Some, None, refl, sym, ap, subst, ◌∙◌, arith}
use Rattle.std.specs.Prelude.{◌==◌, if◌then◌else◌}
use Rattle.std.specs.List.{AllByRecursion, filter, flat_map, list_all, list_any, slice_get}
use Rattle.std.specs.BTreeMap.{is_at}
use Rattle.std.specs.Map.{keys_of}
use Rattle.std.specs.Ordering.{nat_cmp}
use Rattle.std.specs.Option.{option_map, option_map_or}
use Rattle.std.proofs.lemmas.Bool.{and_parts, eq-eqb, eqb-false, eqb-true, false≢true, not-true}
use Rattle.std.proofs.lemmas.List.{take_all}
use Rattle.std.proofs.lemmas.Option.{same_Some}
use Rattle.kinds.specs.Refusals.{foremost}
use Rattle.kinds.specs.declared.refusal.Refusal.{Refusal}
use Rattle.kinds.specs.declared.segment.Segment.{Segment}
use Rattle.entries.specs.declared.change.Change.{Change}
use Rattle.entries.specs.declared.change.Change.TheVariants as change
use Rattle.entries.specs.declared.entry.Entry.{Entry}
use Rattle.inventory_rows.specs.volume_rows.declared.volume.Volume.{Volume}
use Rattle.inventory_rows.specs.version_groups.declared.copies.CopyRow.{CopyRow}
use Rattle.inventory_rows.specs.volume_rows.Volumes.{reset}
use Rattle.inventory_rows.specs.pool_rows.PoolRows.{is_sequential}
use Rattle.inventory_rows.specs.pool_tables.RowChanges.{is_scratch_row, reuse_volume}
use Rattle.inventory_rows.specs.pool_tables.Rows.{edited, row_at, without_row}
use Rattle.inventory_rows.proofs.of_pool_tables.Counting.{apart_at, at_is}
use Rattle.inventory_rows.specs.Search.{copies, pool, segments_on}
use Rattle.inventory_rows.specs.State.{Inv}
use Rattle.inventory_rules.specs.Journal.{Journal}
use Rattle.inventory_rules.specs.Run.{journal_of}
use Rattle.inventory_rules.specs.Transactions.{causes, effect, refused, sizes_refused, then_valid}
use Rattle.inventory_rules.specs.Valid.{are_apart, is_of_pool, is_valid}
use Rattle.inventory_laws.specs.Rising.{DrawsOn, is_reuse}
use Rattle.inventory_laws.proofs.Causes.{front_nil}
use Rattle.inventory_laws.proofs.Changing.{apart_front}
use Rattle.inventory_laws.proofs.Facts.{facts_of}
use Rattle.inventory_laws.proofs.Lists.{each_also, each_joined}
use Rattle.inventory_laws.proofs.Rising.{all_below, draws_on, ends_later, sequential_stays}
use Rattle.inventory_laws.proofs.StoreRows.{seen_same, some_from}
use Rattle.machine.proofs.Elsewhere.{none-held}
use Rattle.machine.specs.Machine.{all_segments, is_same_segment, left_by}
use Rattle.machine.specs.State.{Core, after, inventory}
use Rattle.hall.specs.Covered.{IsNewFile, NoneComesBack, Written, came, databases, inv_at, is_any_reuse, written, written_before, written_over}
use Rattle.hall.specs.Good.{IsLawful}
use Rattle.hall.proofs.Apart.{both_joined}
use Rattle.hall.proofs.Databases.{left_true}
use Rattle.hall.proofs.Lists.{each_kept}

-- ---- each transaction of a list, where it is made

abbrev pub Along : (P : Inv → Entry → Type 0) → Inv → List Entry → Type 0
Along P v [] = Unit {0}
Along P v (e ∷ es) = P v e × Along P (effect e.change v) es

pub along : (P : Inv → Entry → Type 0) (v : Inv) (es : List Entry) → ((i : ℕ) (e : Entry) → slice_get es i ≡ Some e → P (after v (take i es)) e) → Along P v es
along P v [] each = tt
along P v (e ∷ es) each = (each 0 e refl, along P (effect e.change v) es (λ i x at. each (suc i) x at))

pub along_also : (P Q : Inv → Entry → Type 0) (v : Inv) (es : List Entry) → ((x : Inv) (e : Entry) → P x e → Q x e) → Along P v es → Along Q v es
along_also P Q v [] up h = tt
along_also P Q v (e ∷ es) up h = (up v e h.0, along_also P Q (effect e.change v) es up h.1)

-- those behind the first so many
pub along_later : (P : Inv → Entry → Type 0) (n : ℕ) (v : Inv) (es : List Entry) → Along P v es → Along P (after v (take n es)) (drop n es)
along_later P zero v es h = h
along_later P (suc n) v [] h = h
along_later P (suc n) v (e ∷ es) h = along_later P n (effect e.change v) es h.1

-- each database of a run is the one behind so many transactions
pub at_each : (P : Inv → Type 0) (v : Inv) (es : List Entry) → ((i : ℕ) → P (after v (take i es))) → AllByRecursion P (databases v es)
at_each P v [] each = (each 0, tt)
at_each P v (e ∷ es) each = (each 0, at_each P (effect e.change v) es (λ i. each (suc i)))

pub each_at : (P : Inv → Type 0) (v : Inv) (es : List Entry) → AllByRecursion P (databases v es) → (i : ℕ) → P (after v (take i es))
each_at P v [] all zero = all.0
each_at P v [] all (suc i) = all.0
each_at P v (e ∷ es) all zero = all.0
each_at P v (e ∷ es) all (suc i) = each_at P (effect e.change v) es all.1 i

-- ---- numbers

draws_same : (v : Inv) → DrawsOn v v
draws_same v = record { node = omega arith; filespace = omega arith; pool = omega arith; file = omega arith; object = omega arith }

draws_then : (a b c : Inv) → DrawsOn a b → DrawsOn b c → DrawsOn a c
draws_then a b c s t = record {
  node = omega (arith, s.node, t.node);
  filespace = omega (arith, s.filespace, t.filespace);
  pool = omega (arith, s.pool, t.pool);
  file = omega (arith, s.file, t.file);
  object = omega (arith, s.object, t.object);
}

draws_after : (v : Inv) (es : List Entry) → DrawsOn v (after v es)
draws_after v [] = draws_same v
draws_after v (e ∷ es) = draws_then v (effect e.change v) (after v (e ∷ es)) (draws_on e.change v) (draws_after (effect e.change v) es)

-- no database of a run draws next what the last one drew
pub each_draws : (v : Inv) (es : List Entry) → AllByRecursion (λ x. DrawsOn x (after v es)) (databases v es)
each_draws v [] = (draws_same v, tt)
each_draws v (e ∷ es) = (draws_after v (e ∷ es), each_draws (effect e.change v) es)

-- ---- legal transactions

abbrev IsLegal : Inv → Entry → Type 0
IsLegal v e = (j : Journal) × (refused j e.change v ≡ None)

legal_causes : (j : Journal) (x : Change) (v : Inv) → refused j x v ≡ None → (causes j x v ≡ []) × (is_valid (effect x v) ≡ true)
unfolding refused
legal_causes j x v h = (
  front_nil (causes j x v) (sizes_refused x v) (none-held (causes j x v ++ sizes_refused x v) (none_first (foremost (causes j x v ++ sizes_refused x v)) (is_valid (effect x v)) h)),
  left_true (foremost (causes j x v ++ sizes_refused x v)) (is_valid (effect x v)) h,
)
  where
    none_first : (o : Option Refusal) (b : Bool) → then_valid o b ≡ None → o ≡ None
    none_first None b n = refl
    none_first (Some e) b n = absurd cc

-- A transaction that is legal on a valid database, behind which a volume that was there still is.
pub record IsStep (file : ℕ) (v : Inv) (e : Entry) : Type 0 where
  pub valid : is_valid v ≡ true
  pub journal : Journal
  pub legal : causes journal e.change v ≡ []
  pub left : is_valid (effect e.change v) ≡ true
  pub stays : is_some (row_at file v.stores.volumes) ≡ true → is_some (row_at file (effect e.change v).stores.volumes) ≡ true

abbrev Stays : ℕ → Inv → Entry → Type 0
Stays file v e = is_some (row_at file v.stores.volumes) ≡ true → is_some (row_at file (effect e.change v).stores.volumes) ≡ true

steps_along : (file : ℕ) (v : Inv) (es : List Entry) → is_valid v ≡ true → Along IsLegal v es → Along (Stays file) v es → Along (IsStep file) v es
steps_along file v [] valid legal stays = tt
steps_along file v (e ∷ es) valid legal stays =
    let l = legal_causes legal.0.0 e.change v legal.0.1 in
    (record { valid = valid; journal = legal.0.0; legal = l.0; left = l.1; stays = stays.0 }, steps_along file (effect e.change v) es l.1 legal.1 stays.1)

some_or_none : {A : Type 0} (o : Option A) → (is_some o ≡ true) ⊎ (o ≡ None)
some_or_none None = inr refl
some_or_none (Some x) = inl refl

next_after : (v : Inv) (es : List Entry) (i : ℕ) (e : Entry) → slice_get es i ≡ Some e → after v (take (i + 1) es) ≡ effect e.change (after v (take i es))
next_after v [] i e at = absurd cc
next_after v (x ∷ es) zero e at = ap (λ (n : ℕ). after v (take n (x ∷ es))) one ∙ ap (λ (y : Entry). effect y.change v) (same_Some x e at)
  where
    one : 0 + 1 ≡ suc 0
    one = omega arith
next_after v (x ∷ es) (suc i) e at = ap (λ (n : ℕ). after v (take n (x ∷ es))) more ∙ next_after (effect x.change v) es i e at
  where
    more : suc i + 1 ≡ suc (i + 1)
    more = omega arith

within : (es : List Entry) (i : ℕ) (e : Entry) → slice_get es i ≡ Some e → i + 1 ≤ length es
within [] i e at = absurd cc
within (x ∷ es) zero e at = omega arith
within (x ∷ es) (suc i) e at = let t = within es i e at in omega (arith, t)

-- Where a volume is there at the end, it never went.
pub run_steps : (c : Core) (file : ℕ) → IsLawful c → NoneComesBack c → is_some (row_at file (inventory c).stores.volumes) ≡ true → Along (IsStep file) c.base c.journal
run_steps c file l none there =
    steps_along file c.base c.journal l.valid (along IsLegal c.base c.journal (λ i e at. (journal_of c.base (take i c.journal), l.legal i e at)))
    (along (Stays file) c.base c.journal (λ i e at was. stays i e at was (some_or_none (row_at file (effect e.change (inv_at i c)).stores.volumes))))
  where
    last : inv_at (length c.journal) c ≡ inventory c
    last = ap (after c.base) (take_all (length c.journal) c.journal (omega arith))

    stays : (i : ℕ) (e : Entry) → slice_get c.journal i ≡ Some e → is_some (row_at file (inv_at i c).stores.volumes) ≡ true
        → (is_some (row_at file (effect e.change (inv_at i c)).stores.volumes) ≡ true) ⊎ (row_at file (effect e.change (inv_at i c)).stores.volumes ≡ None)
        → is_some (row_at file (effect e.change (inv_at i c)).stores.volumes) ≡ true
    stays i e at was (inl is) = is
    stays i e at was (inr gone) =
        let absent : row_at file (inv_at (i + 1) c).stores.volumes ≡ None = ap (λ (v : Inv). row_at file v.stores.volumes) (next_after c.base c.journal i e at) ∙ gone in
        let end : row_at file (inv_at (length c.journal) c).stores.volumes ≡ None = none file i (i + 1) (length c.journal) (omega arith) (within c.journal i e at) was absent in
        absurd (false≢true (sym (ap is_some (ap (λ (v : Inv). row_at file v.stores.volumes) (sym last) ∙ end)) ∙ there))

-- each database of a lawful run is valid
valid_from : (v : Inv) (es : List Entry) → is_valid v ≡ true → Along IsLegal v es → AllByRecursion (λ x. is_valid x ≡ true) (databases v es)
valid_from v [] valid legal = (valid, tt)
valid_from v (e ∷ es) valid legal = (valid, valid_from (effect e.change v) es (legal_causes legal.0.0 e.change v legal.0.1).1 legal.1)

pub run_valid : (c : Core) → IsLawful c → AllByRecursion (λ x. is_valid x ≡ true) (databases c.base c.journal)
run_valid c l = valid_from c.base c.journal l.valid (along IsLegal c.base c.journal (λ i e at. (journal_of c.base (take i c.journal), l.legal i e at)))

-- ---- the pool of a volume

pub no_key : {V : Type 0} (k : ℕ) (rows : List (ℕ × V)) → list_all (λ y. not (k == y)) (keys_of rows) ≡ true → row_at k rows ≡ None
no_key k [] h = refl
no_key {V} k (e ∷ rows) h =
    let t = and_parts (not (k == e.0)) (list_all (λ y. not (k == y)) (keys_of rows)) h in
    ap (λ b. cond b (Some e.1) (row_at k rows)) (apart_at k e.0 (eqb-false k e.0 (not-true (k == e.0) t.0))) ∙ no_key k rows t.1

row_gone : {V : Type 0} (k : ℕ) (rows : List (ℕ × V)) → are_apart (keys_of rows) ≡ true → row_at k (without_row k rows) ≡ None
row_gone k [] h = refl
row_gone {V} k (e ∷ rows) h =
    let t = and_parts (list_all (λ y. not (e.0 == y)) (keys_of rows)) (are_apart (keys_of rows)) h in
    elim (is_at (nat_cmp k) e.0) as (λ b. is_at (nat_cmp k) e.0 ≡ b → row_at k (cond b rows (e ∷ without_row k rows)) ≡ None) [
      | true ↦ λ is. no_key k rows (subst (λ (n : ℕ). list_all (λ y. not (n == y)) (keys_of rows) ≡ true) (sym (at_is k e.0 is)) t.0)
      | false ↦ λ isnt. ap (λ b. cond b (Some e.1) (row_at k (without_row k rows))) isnt ∙ row_gone k rows t.1
    ] refl

reused_pool : (k : ℕ) (rows : List (ℕ × Volume)) (old new : Volume) → are_apart (keys_of rows) ≡ true → row_at k rows ≡ Some old → row_at k (reuse_volume k rows) ≡ Some new → new.pool ≡ old.pool
reused_pool k rows old new apart before after =
    elim (is_scratch_row (row_at k rows)) as (λ b. row_at k (if b then without_row k rows else edited k reset rows (row_at k rows)) ≡ Some new → new.pool ≡ old.pool) [
      | true ↦ λ h. absurd (never (row_at k (without_row k rows)) (row_gone k rows apart) h)
      | false ↦ λ h. go (row_at k rows) before h
    ] after
  where
    never : (o : Option Volume) → o ≡ None → o ≡ Some new → ⊥
    never o n s = false≢true (sym (ap is_some n) ∙ ap is_some s)

    go : (o : Option Volume) → o ≡ Some old → row_at k (edited k reset rows o) ≡ Some new → new.pool ≡ old.pool
    go None n h = absurd cc
    go (Some x) is h =
        let same : option_map (λ (y : Volume). y.pool) (row_at k (edited k reset rows (Some x))) ≡ option_map (λ (y : Volume). y.pool) (row_at k rows) =
        seen_same (λ (o : Option Volume). option_map (λ (y : Volume). y.pool) o) k k x (reset x) rows (before ∙ sym is) refl in
        same_Some new.pool old.pool (sym (ap (λ (o : Option Volume). option_map (λ (y : Volume). y.pool) o) h) ∙ same ∙ ap (λ (o : Option Volume). option_map (λ (y : Volume). y.pool) o) before)

reuse_pool : (file : ℕ) (c : Change) (v : Inv) (old new : Volume) → is_reuse file c ≡ true → are_apart (keys_of v.stores.volumes) ≡ true → row_at file v.stores.volumes ≡ Some old
    → row_at file (effect c v).stores.volumes ≡ Some new → new.pool ≡ old.pool
unfolding effect
reuse_pool file (change.Reuse k) v old new is apart before after =
    let same : file ≡ k = eqb-true file k is in
    reused_pool file v.stores.volumes old new apart before (ap (λ (n : ℕ). row_at file (reuse_volume n v.stores.volumes)) same ∙ after)
reuse_pool file x v old new is apart before after = absurd (false≢true is)

-- a volume that is there before a transaction and behind it lies in the same pool
pub pool_stays : (file : ℕ) (j : Journal) (x : Change) (v : Inv) (old new : Volume) → is_valid v ≡ true → causes j x v ≡ [] → row_at file v.stores.volumes ≡ Some old
    → row_at file (effect x v).stores.volumes ≡ Some new → new.pool ≡ old.pool
pool_stays file j x v old new valid legal before after =
    elim (is_reuse file x) as (λ b. is_reuse file x ≡ b → new.pool ≡ old.pool) [
      | true ↦ λ is. reuse_pool file x v old new is (apart_front (keys_of v.stores.volumes) (keys_of v.backups) (facts_of v valid).files_apart) before after
      | false ↦ λ isnt. (ends_later j x v file old new valid legal isnt before after).pool
    ] refl

pool_kept : (file : ℕ) (v : Inv) (e : Entry) (old new : Volume) → IsStep file v e → row_at file v.stores.volumes ≡ Some old → row_at file (effect e.change v).stores.volumes ≡ Some new → new.pool ≡ old.pool
pool_kept file v e old new s before after = pool_stays file s.journal e.change v old new s.valid s.legal before after

-- what is the same of a volume from one database to the last
pub record IsSame (v w : Inv) (old new : Volume) : Type 0 where
  pub pool : new.pool ≡ old.pool
  pub sequential : is_sequential old.pool w.stores ≡ is_sequential old.pool v.stores

pub kept_to_end : (file : ℕ) (v : Inv) (es : List Entry) → Along (IsStep file) v es → (old new : Volume) → row_at file v.stores.volumes ≡ Some old → row_at file (after v es).stores.volumes ≡ Some new
    → IsSame v (after v es) old new
kept_to_end file v [] h old new before there = record { pool = ap (λ (x : Volume). x.pool) (same_Some new old (sym there ∙ before)); sequential = refl }
kept_to_end file v (e ∷ es) h old new before there =
    let next : Inv = effect e.change v in
    let mid = some_from (row_at file next.stores.volumes) (h.0.stays (ap is_some before)) in
    let pool : mid.0.pool ≡ old.pool = pool_kept file v e old mid.0 h.0 before mid.1 in
    let rest : IsSame next (after next es) mid.0 new = kept_to_end file next es h.1 mid.0 new mid.1 there in
    record {
      pool = rest.pool ∙ pool;
      sequential =
          subst (λ (n : ℕ). is_sequential n (after next es).stores ≡ is_sequential n next.stores) pool rest.sequential
          ∙ sequential_stays v (facts_of v h.0.valid) file old before e.change;
    }

-- ---- where a volume ends

abbrev pub end_at : ℕ → Inv → ℕ
end_at file v = option_map_or (λ volume. volume.end) (row_at file v.stores.volumes) 0

pub end_found : (file : ℕ) (v : Inv) (volume : Volume) → row_at file v.stores.volumes ≡ Some volume → end_at file v ≡ volume.end
end_found file v volume at = ap (λ (o : Option Volume). option_map_or (λ x. x.end) o 0) at

end_rises : (file : ℕ) (v : Inv) (e : Entry) → IsStep file v e → is_reuse file e.change ≡ false → end_at file v ≤ end_at file (effect e.change v)
end_rises file v e s isnt = go (row_at file v.stores.volumes) refl where
  go : (o : Option Volume) → row_at file v.stores.volumes ≡ o → option_map_or (λ x. x.end) o 0 ≤ end_at file (effect e.change v)
  go None at = omega arith
  go (Some old) at =
      let mid = some_from (row_at file (effect e.change v).stores.volumes) (s.stays (ap is_some at)) in
      let later = ends_later s.journal e.change v file old mid.0 s.valid s.legal isnt at mid.1 in
      omega (arith, later.end, end_found file (effect e.change v) mid.0 mid.1)

pub other_reuse : (file : ℕ) (c : Change) → is_any_reuse c ≡ false → is_reuse file c ≡ false
other_reuse file (change.Reuse k) h = absurd (false≢true (sym h))
other_reuse file c h = refl

pub ends_rise : (file : ℕ) (v : Inv) (es : List Entry) → Along (IsStep file) v es → AllByRecursion (λ e. is_any_reuse e.change ≡ false) es → end_at file v ≤ end_at file (after v es)
ends_rise file v [] h none = omega arith
ends_rise file v (e ∷ es) h none =
    let one = end_rises file v e h.0 (other_reuse file e.change none.0) in
    let more = ends_rise file (effect e.change v) es h.1 none.1 in
    omega (arith, one, more)

-- ---- the segments on a volume

module _ (P : Segment → Type 0) (file : ℕ) where
  abbrev IfThere : Segment → Type 0
  IfThere s = s.file ≡ file → P s

  abbrev Of : ℕ × Segment → Type 0
  Of e = P e.1

  here_from : (k : ℕ) (xs : List Segment) → AllByRecursion Of (map (λ s. (k, s)) (filter (λ s. s.file == file) xs)) → AllByRecursion IfThere xs
  here_from k [] all = tt
  here_from k (x ∷ xs) all =
      elim (x.file == file) as
      (λ b. (x.file == file) ≡ b → AllByRecursion Of (map (λ s. (k, s)) (cond b (x ∷ filter (λ s. s.file == file) xs) (filter (λ s. s.file == file) xs))) → AllByRecursion IfThere (x ∷ xs)) [
        | true ↦ λ is a. ((λ same. a.0), here_from k xs a.1)
        | false ↦ λ isnt a. ((λ same. absurd (false≢true (sym isnt ∙ eq-eqb x.file file same))), here_from k xs a)
      ] refl all

  here_to : (k : ℕ) (xs : List Segment) → AllByRecursion IfThere xs → AllByRecursion Of (map (λ s. (k, s)) (filter (λ s. s.file == file) xs))
  here_to k [] all = tt
  here_to k (x ∷ xs) all =
      elim (x.file == file) as (λ b. (x.file == file) ≡ b → AllByRecursion Of (map (λ s. (k, s)) (cond b (x ∷ filter (λ s. s.file == file) xs) (filter (λ s. s.file == file) xs)))) [
        | true ↦ λ is. (all.0 (eqb-true x.file file is), here_to k xs all.1)
        | false ↦ λ isnt. here_to k xs all.1
      ] refl

  on_filter : (xs : List Segment) → AllByRecursion IfThere xs → AllByRecursion P (filter (λ s. s.file == file) xs)
  on_filter [] all = tt
  on_filter (x ∷ xs) all =
      elim (x.file == file) as (λ b. (x.file == file) ≡ b → AllByRecursion P (cond b (x ∷ filter (λ s. s.file == file) xs) (filter (λ s. s.file == file) xs))) [
        | true ↦ λ is. (all.0 (eqb-true x.file file is), on_filter xs all.1)
        | false ↦ λ isnt. on_filter xs all.1
      ] refl

  from_rows : (rows : List (ℕ × CopyRow)) → AllByRecursion Of (flat_map (λ e. map (λ s. (e.0, s)) (filter (λ s. s.file == file) e.1.segments)) rows)
      → AllByRecursion IfThere (flat_map (λ e. e.1.segments) rows)
  from_rows [] all = tt
  from_rows (r ∷ rows) all =
      let t = each_joined Of (map (λ s. (r.0, s)) (filter (λ s. s.file == file) r.1.segments)) (flat_map (λ (e : ℕ × CopyRow). map (λ s. (e.0, s)) (filter (λ s. s.file == file) e.1.segments)) rows) all in
      both_joined IfThere r.1.segments (flat_map (λ (e : ℕ × CopyRow). e.1.segments) rows) (here_from r.0 r.1.segments t.0) (from_rows rows t.1)

  to_rows : (rows : List (ℕ × CopyRow)) → AllByRecursion IfThere (flat_map (λ e. e.1.segments) rows)
      → AllByRecursion Of (flat_map (λ e. map (λ s. (e.0, s)) (filter (λ s. s.file == file) e.1.segments)) rows)
  to_rows [] all = tt
  to_rows (r ∷ rows) all =
      let t = each_joined IfThere r.1.segments (flat_map (λ (e : ℕ × CopyRow). e.1.segments) rows) all in
      both_joined Of (map (λ s. (r.0, s)) (filter (λ s. s.file == file) r.1.segments)) (flat_map (λ (e : ℕ × CopyRow). map (λ s. (e.0, s)) (filter (λ s. s.file == file) e.1.segments)) rows)
      (here_to r.0 r.1.segments t.0) (to_rows rows t.1)

  -- what holds of each segment on a volume holds of each segment that there is, where it lies there; and the other way
  pub all_from_volume : (v : Inv) → AllByRecursion Of (segments_on file v) → AllByRecursion IfThere (all_segments v)
  all_from_volume v all = from_rows (copies v) all

  pub volume_from_all : (v : Inv) → AllByRecursion IfThere (all_segments v) → AllByRecursion Of (segments_on file v)
  volume_from_all v all = to_rows (copies v) all

  -- so of those that came there
  pub came_there : (old new : Inv) → AllByRecursion Of (segments_on file new) → AllByRecursion P (came file old new)
  came_there old new all = on_filter (left_by new old) (each_kept IfThere (λ s. not (list_any (is_same_segment s) (all_segments old))) (all_segments new) (all_from_volume new all))

  -- no copy lies on a volume that isn't there
  none_cited : (rows : List (ℕ × Volume)) → row_at file rows ≡ None → (number : ℕ) (xs : List Segment) → list_all (λ s. is_of_pool number (row_at s.file rows)) xs ≡ true → AllByRecursion IfThere xs
  none_cited rows absent number [] h = tt
  none_cited rows absent number (x ∷ xs) h =
      let t = and_parts (is_of_pool number (row_at x.file rows)) (list_all (λ s. is_of_pool number (row_at s.file rows)) xs) h in
      ((λ same. absurd (false≢true (ap (is_of_pool number) (sym absent ∙ ap (λ (k : ℕ). row_at k rows) (sym same)) ∙ t.0))), none_cited rows absent number xs t.1)

  none_copied : (v : Inv) → row_at file v.stores.volumes ≡ None → (rows : List (ℕ × CopyRow))
      → list_all (λ e. is_some (pool e.1.pool v) && list_all (λ s. is_of_pool e.1.pool (row_at s.file v.stores.volumes)) e.1.segments) rows ≡ true
      → AllByRecursion IfThere (flat_map (λ e. e.1.segments) rows)
  none_copied v absent [] h = tt
  none_copied v absent (r ∷ rows) h =
      let t = and_parts (is_some (pool r.1.pool v) && list_all (λ s. is_of_pool r.1.pool (row_at s.file v.stores.volumes)) r.1.segments)
      (list_all (λ (e : ℕ × CopyRow). is_some (pool e.1.pool v) && list_all (λ s. is_of_pool e.1.pool (row_at s.file v.stores.volumes)) e.1.segments) rows) h in
      let u = and_parts (is_some (pool r.1.pool v)) (list_all (λ s. is_of_pool r.1.pool (row_at s.file v.stores.volumes)) r.1.segments) t.0 in
      both_joined IfThere r.1.segments (flat_map (λ (e : ℕ × CopyRow). e.1.segments) rows) (none_cited v.stores.volumes absent r.1.pool r.1.segments u.1) (none_copied v absent rows t.1)

  pub none_lies : (v : Inv) → is_valid v ≡ true → row_at file v.stores.volumes ≡ None → AllByRecursion Of (segments_on file v)
  none_lies v valid absent = volume_from_all v (none_copied v absent (copies v) (facts_of v valid).copies_cite)

-- ---- what was written on a sequential volume

-- all of it lies below this place
pub record IsUpTo (n : ℕ) (w : Written) : Type 0 where
  pub floor : w.floor ≤ n
  pub segments : AllByRecursion (λ s. s.offset + 32 + s.len ≤ n) w.segments

abbrev pub Lower : ℕ → Segment → Type 0
Lower n s = s.offset + 32 + s.len ≤ n

-- where the volume isn't reused its end doesn't fall, and each segment on it lies below that
pub record IsWriting (file : ℕ) (v : Inv) (e : Entry) : Type 0 where
  pub rises : is_reuse file e.change ≡ false → end_at file v ≤ end_at file (effect e.change v)
  pub below : AllByRecursion (λ x. Lower (end_at file (effect e.change v)) x.1) (segments_on file (effect e.change v))

written_up : (file : ℕ) (v : Inv) (es : List Entry) (w : Written) → Along (IsWriting file) v es → IsUpTo (end_at file v) w → IsUpTo (end_at file (after v es)) (written_over file w v es)
written_up file v [] w h up = up
written_up file v (e ∷ es) w h up =
    written_up file (effect e.change v) es (if is_reuse file e.change then (record { floor = 0; segments = [] }) else (record { floor = w.floor; segments = w.segments ++ came file v (effect e.change v) })) h.1
    (one (is_reuse file e.change) refl)
  where
    one : (b : Bool) → is_reuse file e.change ≡ b
        → IsUpTo (end_at file (effect e.change v)) (if b then (record { floor = 0; segments = [] }) else (record { floor = w.floor; segments = w.segments ++ came file v (effect e.change v) }))
    one true is = record { floor = omega arith; segments = tt }
    one false isnt =
        let n : ℕ = end_at file (effect e.change v) in
        let le = h.0.rises isnt in
        record {
          floor = omega (arith, up.floor, le);
          segments = both_joined (Lower n) w.segments (came file v (effect e.change v)) (each_also (Lower (end_at file v)) (Lower n) w.segments (λ s low. omega (arith, low, le)) up.segments)
              (came_there (Lower n) file v (effect e.change v) h.0.below);
        }

pub writing_there : (file : ℕ) (v : Inv) (es : List Entry) → Along (IsStep file) v es → (new : Volume) → row_at file (after v es).stores.volumes ≡ Some new → is_sequential new.pool (after v es).stores ≡ true
    → Along (IsWriting file) v es
writing_there file v [] h new there sequential = tt
writing_there file v (e ∷ es) h new there sequential =
    (record { rises = end_rises file v e h.0; below = below (row_at file (effect e.change v).stores.volumes) refl }, writing_there file (effect e.change v) es h.1 new there sequential)
  where
    below : (o : Option Volume) → row_at file (effect e.change v).stores.volumes ≡ o → AllByRecursion (λ x. Lower (end_at file (effect e.change v)) x.1) (segments_on file (effect e.change v))
    below None at = none_lies (Lower (end_at file (effect e.change v))) file (effect e.change v) h.0.left at
    below (Some mid) at =
        let next : Inv = effect e.change v in
        let same : IsSame next (after next es) mid new = kept_to_end file next es h.1 mid new at there in
        let kind : is_sequential mid.pool next.stores ≡ true =
        sym same.sequential ∙ ap (λ (n : ℕ). is_sequential n (after next es).stores) (sym same.pool) ∙ sequential in
        let end : end_at file next ≡ mid.end = end_found file next mid at in
        each_also (λ (x : ℕ × Segment). x.1.offset + 32 + x.1.len ≤ mid.end) (λ x. Lower (end_at file next) x.1) (segments_on file next) (λ x low. omega (arith, low, end)) (all_below next file mid h.0.left at kind)

pub written_there : (c : Core) (file : ℕ) (new : Volume) → IsLawful c → NoneComesBack c → row_at file (inventory c).stores.volumes ≡ Some new → is_sequential new.pool (inventory c).stores ≡ true
    → IsUpTo (end_at file (inventory c)) (written file c)
written_there c file new l none there sequential =
    written_up file c.base c.journal (written_before file c.base) (writing_there file c.base c.journal (run_steps c file l none (ap is_some there)) new there sequential)
    (record { floor = omega arith; segments = tt })

pub written_absent : (c : Core) (file : ℕ) → IsLawful c → IsNewFile c file → IsUpTo (end_at file (inventory c)) (written file c)
written_absent c file l unmade =
    written_up file c.base c.journal (written_before file c.base) (along (IsWriting file) c.base c.journal writing) (record { floor = omega arith; segments = tt })
  where
    nothing : (v : Inv) → row_at file v.stores.volumes ≡ None → end_at file v ≡ 0
    nothing v at = ap (λ (o : Option Volume). option_map_or (λ x. x.end) o 0) at

    writing : (i : ℕ) (e : Entry) → slice_get c.journal i ≡ Some e → IsWriting file (inv_at i c) e
    writing i e at =
        let same : inv_at (i + 1) c ≡ effect e.change (inv_at i c) = next_after c.base c.journal i e at in
        let absent : row_at file (effect e.change (inv_at i c)).stores.volumes ≡ None = ap (λ (v : Inv). row_at file v.stores.volumes) (sym same) ∙ unmade (i + 1) in
        let valid : is_valid (effect e.change (inv_at i c)) ≡ true = ap is_valid (sym same) ∙ each_at (λ v. is_valid v ≡ true) c.base c.journal (run_valid c l) (i + 1) in
        record {
          rises = λ isnt. omega (arith, nothing (inv_at i c) (unmade i));
          below = none_lies (Lower (end_at file (effect e.change (inv_at i c)))) file (effect e.change (inv_at i c)) valid absent;
        }
