-- What a database has of its own copies in sequential pools, and what it has of them as a backup of itself.
use Rattle.std.proofs.Common.{◌≡◌, ℕ, ◌+◌, ◌<◌, ◌≤◌, max, Bool, true, false, cond, not, ◌&&◌, List, [], ◌∷◌, ◌++◌, filter, Option, None, Some, is_some, is_none, refl, sym, ap, subst, ◌∙◌, arith}
use Rattle.std.specs.Prelude.{IfSome, nat_le, nat_lt, ◌==◌, if◌then◌else◌}
use Rattle.std.specs.BTreeMap.{is_at}
use Rattle.std.specs.List.{AllByRecursion, Contains, flat_map, list_all, list_any}
use Rattle.std.specs.Map.{keys_of, lookup}
use Rattle.std.specs.Ordering.{nat_cmp}
use Rattle.std.proofs.lemmas.Option.{same_Some}
use Rattle.std.proofs.lemmas.Bool.{and_parts, eq-eqb, eqb-true, false≢true, leb-true, ltb-true, true≢false}
use Rattle.kinds.specs.declared.segment.Segment.{Segment}
use Rattle.entries.specs.declared.change.Change.TheVariants as change
use Rattle.inventory_rows.specs.declared.backup.Backup.{Backup}
use Rattle.inventory_rows.specs.version_groups.Entries.{is_nil}
use Rattle.inventory_rows.specs.version_groups.declared.copies.CopyRow.{CopyRow}
use Rattle.inventory_rows.specs.version_groups.declared.versions.Version.{Version}
use Rattle.inventory_rows.specs.volume_rows.declared.volume.Volume.{Volume}
use Rattle.inventory_rows.specs.pool_tables.declared.pool.Pool.{Pool}
use Rattle.inventory_rows.specs.pool_tables.Rows.{row_at}
use Rattle.inventory_rows.specs.pool_rows.PoolRows.{is_sequential}
use Rattle.inventory_rows.specs.Search.{copies, holds_copy, pool, segments_on, versions}
use Rattle.inventory_rows.specs.State.{Inv}
use Rattle.inventory_rows.proofs.of_pool_tables.Counting.{at_is, each_there}
use Rattle.inventory_rules.specs.Backups.{backup_at, delays_now}
use Rattle.inventory_rules.specs.Common.{this}
use Rattle.inventory_rules.specs.Facts.{Facts}
use Rattle.inventory_rules.specs.Transactions.{effect}
use Rattle.inventory_rules.specs.Valid.{is_emptied_rightly, is_of_pool, is_placed, is_valid, is_volume}
use Rattle.inventory_laws.proofs.Facts.{facts_of}
use Rattle.inventory_laws.proofs.Lists.{all_of, each_also, each_both, each_joined, each_mapped, each_within, none_of}
use Rattle.inventory_laws.proofs.Origins.{contained_holds, each_contained}
use Rattle.inventory_laws.proofs.Rising.{last_parts}
use Rattle.inventory_laws.proofs.ScratchBack.{own_row}
use Rattle.hall.specs.Protected.{EachSequential, HasDelay, IsLeft, IsProvided, IsStill, StillLies, Taken}

-- ---- lists

filter_holds : {A : Type 0} (P : A → Type 0) (q : A → Bool) (xs : List A) → AllByRecursion P (filter q xs) → AllByRecursion (λ x. q x ≡ true → P x) xs
filter_holds P q [] all = tt
filter_holds {A} P q (x ∷ xs) all = go (filter_holds P q xs) (q x) refl all where
  go : (AllByRecursion P (filter q xs) → AllByRecursion (λ x. q x ≡ true → P x) xs) → (b : Bool) → q x ≡ b → AllByRecursion P (cond b (x ∷ filter q xs) (filter q xs)) → AllByRecursion (λ x. q x ≡ true → P x) (x ∷ xs)
  go rest true is all = (λ _. all.0, rest all.1)
  go rest false is all = (λ yes. absurd (false≢true (sym is ∙ yes)), rest all)

-- what holds of each copy in a sequential pool, where another thing does
pub also_sequential : (Q R : Version → CopyRow → Type 0) (v : Inv) → ((w : Version) (r : CopyRow) → Q w r → R w r) → EachSequential Q v → EachSequential R v
also_sequential Q R v f =
    each_also (λ (w : Version). AllByRecursion (λ (r : CopyRow). is_sequential r.pool v.stores ≡ true → Q w r) w.copies) (λ (w : Version). AllByRecursion (λ (r : CopyRow). is_sequential r.pool v.stores ≡ true → R w r) w.copies) (versions v)
    (λ w all. each_also (λ (r : CopyRow). is_sequential r.pool v.stores ≡ true → Q w r) (λ (r : CopyRow). is_sequential r.pool v.stores ≡ true → R w r) w.copies (λ r q sequential. f w r (q sequential)) all)

pub both_sequential : (Q R T : Version → CopyRow → Type 0) (v : Inv) → ((w : Version) (r : CopyRow) → Q w r → R w r → T w r) → EachSequential Q v → EachSequential R v → EachSequential T v
both_sequential Q R T v f =
    each_both (λ (w : Version). AllByRecursion (λ (r : CopyRow). is_sequential r.pool v.stores ≡ true → Q w r) w.copies) (λ (w : Version). AllByRecursion (λ (r : CopyRow). is_sequential r.pool v.stores ≡ true → R w r) w.copies)
    (λ (w : Version). AllByRecursion (λ (r : CopyRow). is_sequential r.pool v.stores ≡ true → T w r) w.copies) (versions v)
    (λ w all some. each_both (λ (r : CopyRow). is_sequential r.pool v.stores ≡ true → Q w r) (λ (r : CopyRow). is_sequential r.pool v.stores ≡ true → R w r) (λ (r : CopyRow). is_sequential r.pool v.stores ≡ true → T w r) w.copies
    (λ r q p sequential. f w r (q sequential) (p sequential)) all some)

-- ---- where a copy lies

-- A segment of a copy lies on a volume of its pool, which isn't emptied, and ends within it; the volume's number was drawn.
pub record Lies (v : Inv) (number : ℕ) (s : Segment) : Type 0 where
  pub volume : Volume
  pub there : row_at s.file v.stores.volumes ≡ Some volume
  pub in_pool : volume.pool ≡ number
  pub within : s.offset + 32 + s.len ≤ volume.end
  pub sequential : is_sequential volume.pool v.stores ≡ true
  pub bare : volume.emptied ≡ None
  pub from : 4 ≤ s.file
  pub below : s.file < v.next_file

module _ (v : Inv) (valid : is_valid v ≡ true) where
  f : Facts v
  f = facts_of v valid

  -- what holds of all that lies on a volume holds of a copy's segments there
  pub on_file : (P : ℕ × Segment → Type 0) (file object : ℕ) (r : CopyRow) → Contains (copies v) (object, r) → AllByRecursion P (segments_on file v) → AllByRecursion (λ (s : Segment). (s.file == file) ≡ true → P (object, s)) r.segments
  on_file P file object r there all =
      filter_holds (λ s. P (object, s)) (λ (s : Segment). s.file == file) r.segments
      (contained_holds (λ (e : ℕ × CopyRow). AllByRecursion (λ (s : Segment). P (e.0, s)) (filter (λ (s : Segment). s.file == file) e.1.segments)) (copies v) (object, r) there
      (each_within P (λ (e : ℕ × CopyRow) (s : Segment). (e.0, s)) (λ (e : ℕ × CopyRow). filter (λ (s : Segment). s.file == file) e.1.segments) (copies v) all))

  row_of : (number file : ℕ) (o : Option Volume) → row_at file v.stores.volumes ≡ o → is_of_pool number o ≡ true → (x : Volume) × (row_at file v.stores.volumes ≡ Some x) × (x.pool ≡ number)
  row_of number file None at h = absurd (false≢true h)
  row_of number file (Some x) at h = (x, at, eqb-true x.pool number h)

  drawn : (file : ℕ) (x : Volume) → row_at file v.stores.volumes ≡ Some x → (4 ≤ file) × (file < v.next_file)
  drawn file x at =
      let keys = each_joined (λ n. (nat_le 4 n && nat_lt n v.next_file) ≡ true) (keys_of v.stores.volumes) (keys_of v.backups)
      (all_of (λ n. nat_le 4 n && nat_lt n v.next_file) (keys_of v.stores.volumes ++ keys_of v.backups) f.files_drawn) in
      let one = each_there (λ (e : ℕ × Volume). (nat_le 4 e.0 && nat_lt e.0 v.next_file) ≡ true) file x v.stores.volumes at
      (each_mapped (λ n. (nat_le 4 n && nat_lt n v.next_file) ≡ true) (λ (e : ℕ × Volume). e.0) v.stores.volumes keys.0) in
      let parts = and_parts (nat_le 4 file) (nat_lt file v.next_file) one in
      (leb-true 4 file parts.0, ltb-true file v.next_file parts.1)

  none_lies : (list : List (ℕ × Segment)) → is_nil list ≡ true → AllByRecursion (λ _. ⊥) list
  none_lies [] h = tt
  none_lies (e ∷ list) h = absurd cc

  -- a volume on which something lies isn't emptied
  bare_of : (x : Volume) (list : List (ℕ × Segment)) → is_emptied_rightly true x list ≡ true → (is_nil list ≡ true → ⊥) → x.emptied ≡ None
  bare_of x list h some = go (not (x.end == 0) && is_nil list) refl h where
    is_nothing : (o : Option ℕ) → is_none o ≡ true → o ≡ None
    is_nothing None h = refl
    is_nothing (Some d) h = absurd (false≢true h)

    go : (b : Bool) → (not (x.end == 0) && is_nil list) ≡ b → cond b (is_some x.emptied) (is_none x.emptied) ≡ true → x.emptied ≡ None
    go true is h = absurd (some (and_parts (not (x.end == 0)) (is_nil list) is).1)
    go false is h = is_nothing x.emptied h

  whole : (file : ℕ) (x : Volume) → row_at file v.stores.volumes ≡ Some x → is_volume v (file, x) ≡ true
  whole file x at = each_there (λ (e : ℕ × Volume). is_volume v e ≡ true) file x v.stores.volumes at (all_of (is_volume v) v.stores.volumes f.volumes_are)

  -- a segment of a copy in a sequential pool
  pub lies : (object : ℕ) (r : CopyRow) → Contains (copies v) (object, r) → is_sequential r.pool v.stores ≡ true → AllByRecursion (Lies v r.pool) r.segments
  lies object r there sequential =
      each_also (λ (s : Segment). Contains r.segments s) (Lies v r.pool) r.segments one (each_contained r.segments)
    where
      cited : AllByRecursion (λ (s : Segment). is_of_pool r.pool (row_at s.file v.stores.volumes) ≡ true) r.segments
      cited =
          all_of (λ (s : Segment). is_of_pool r.pool (row_at s.file v.stores.volumes)) r.segments
          (and_parts (is_some (pool r.pool v)) (list_all (λ (s : Segment). is_of_pool r.pool (row_at s.file v.stores.volumes)) r.segments)
          (contained_holds (λ (e : ℕ × CopyRow). (is_some (pool e.1.pool v) && list_all (λ (s : Segment). is_of_pool e.1.pool (row_at s.file v.stores.volumes)) e.1.segments) ≡ true) (copies v) (object, r) there
          (all_of (λ (e : ℕ × CopyRow). is_some (pool e.1.pool v) && list_all (λ (s : Segment). is_of_pool e.1.pool (row_at s.file v.stores.volumes)) e.1.segments) (copies v) f.copies_cite))).1

      here : (s : Segment) → (s.file == s.file) ≡ true
      here s = eq-eqb s.file s.file refl

      one : (s : Segment) → Contains r.segments s → Lies v r.pool s
      one s in_r =
          let row = row_of r.pool s.file (row_at s.file v.stores.volumes) refl (contained_holds (λ (s : Segment). is_of_pool r.pool (row_at s.file v.stores.volumes) ≡ true) r.segments s in_r cited) in
          let x : Volume = row.0 in
          let parts = last_parts v s.file x (whole s.file x row.1) in
          let q : is_sequential x.pool v.stores ≡ true = subst (λ (n : ℕ). is_sequential n v.stores ≡ true) (sym row.2) sequential in
          let placed : list_all (λ (e : ℕ × Segment). is_placed true x e.1) (segments_on s.file v) ≡ true =
          subst (λ (b : Bool). list_all (λ (e : ℕ × Segment). is_placed b x e.1) (segments_on s.file v) ≡ true) q parts.0 in
          let within : is_placed true x s ≡ true =
          contained_holds (λ (t : Segment). (t.file == s.file) ≡ true → is_placed true x t ≡ true) r.segments s in_r
          (on_file (λ (e : ℕ × Segment). is_placed true x e.1 ≡ true) s.file object r there (all_of (λ (e : ℕ × Segment). is_placed true x e.1) (segments_on s.file v) placed)) (here s) in
          let number = drawn s.file x row.1 in
          record {
            volume = x;
            there = row.1;
            in_pool = row.2;
            sequential = q;
            within = leb-true (s.offset + 32 + s.len) x.end (and_parts (nat_le (s.offset + 32 + s.len) x.end) true within).0;
            bare = bare_of x (segments_on s.file v) (subst (λ (b : Bool). is_emptied_rightly b x (segments_on s.file v) ≡ true) q parts.1)
                (λ nil. contained_holds (λ (t : Segment). (t.file == s.file) ≡ true → ⊥) r.segments s in_r (on_file (λ _. ⊥) s.file object r there (none_lies (segments_on s.file v) nil)) (here s));
            from = number.0;
            below = number.1;
          }

  -- each of its copies is one
  pub each_copy : AllByRecursion (λ (w : Version). AllByRecursion (λ (r : CopyRow). Contains (copies v) (w.object, r)) w.copies) (versions v)
  each_copy = each_within (Contains (copies v)) (λ (w : Version) (r : CopyRow). (w.object, r)) (λ (w : Version). w.copies) (versions v) (each_contained (copies v))

  -- each of its copies in sequential pools does
  pub each_lies : EachSequential (λ w r. AllByRecursion (Lies v r.pool) r.segments) v
  each_lies =
      each_also (λ (w : Version). AllByRecursion (λ (r : CopyRow). Contains (copies v) (w.object, r)) w.copies)
      (λ (w : Version). AllByRecursion (λ (r : CopyRow). is_sequential r.pool v.stores ≡ true → AllByRecursion (Lies v r.pool) r.segments) w.copies) (versions v)
      (λ w all. each_also (λ (r : CopyRow). Contains (copies v) (w.object, r)) (λ (r : CopyRow). is_sequential r.pool v.stores ≡ true → AllByRecursion (Lies v r.pool) r.segments) w.copies (λ r there sequential. lies w.object r there sequential) all)
      each_copy

-- ---- as a backup of itself

some_copy : (v : Inv) (object : ℕ) (r : CopyRow) → Contains (copies v) (object, r) → holds_copy r.pool v ≡ true
some_copy v object r there = go (list_any (λ (e : ℕ × CopyRow). e.1.pool == r.pool) (copies v)) refl where
  here : (r.pool == r.pool) ≡ true
  here = eq-eqb r.pool r.pool refl

  go : (b : Bool) → list_any (λ (e : ℕ × CopyRow). e.1.pool == r.pool) (copies v) ≡ b → list_any (λ (e : ℕ × CopyRow). e.1.pool == r.pool) (copies v) ≡ true
  go true is = is
  go false isnt = absurd (true≢false (sym here ∙ contained_holds (λ (e : ℕ × CopyRow). (e.1.pool == r.pool) ≡ false) (copies v) (object, r) there (none_of (λ (e : ℕ × CopyRow). e.1.pool == r.pool) (copies v) isnt)))

-- the least delays that a backup begins with
abbrev delays_of : Inv → List (ℕ × Pool) → List (ℕ × ℕ)
delays_of v pools = flat_map (λ (p : ℕ × Pool). if is_sequential p.0 v.stores && holds_copy p.0 v then (p.0, p.1.settings.reuse_delay) ∷ [] else []) pools

both_are : (a b : Bool) → a ≡ true → b ≡ true → a && b ≡ true
both_are true b one two = two
both_are false b one two = one

-- that of a sequential pool with a copy is its delay
delay_there : (v : Inv) (n : ℕ) (p : Pool) (pools : List (ℕ × Pool)) → row_at n pools ≡ Some p → is_sequential n v.stores ≡ true → holds_copy n v ≡ true
    → lookup (is_at (nat_cmp n)) (delays_of v pools) ≡ Some p.settings.reuse_delay
delay_there v n p [] there sequential holds = absurd cc
delay_there v n p (e ∷ pools) there sequential holds = by_row (delay_there v n p pools) (is_at (nat_cmp n) e.0) refl there where
  itself : e.0 ≡ n → (is_sequential e.0 v.stores && holds_copy e.0 v) ≡ true
  itself same = subst (λ (k : ℕ). (is_sequential k v.stores && holds_copy k v) ≡ true) (sym same) (both_are (is_sequential n v.stores) (holds_copy n v) sequential holds)

  beside : is_at (nat_cmp n) e.0 ≡ false → (b : Bool) → lookup (is_at (nat_cmp n)) (delays_of v pools) ≡ Some p.settings.reuse_delay
      → lookup (is_at (nat_cmp n)) ((if b then (e.0, e.1.settings.reuse_delay) ∷ [] else []) ++ delays_of v pools) ≡ Some p.settings.reuse_delay
  beside isnt true rest = ap (λ t. cond t (Some e.1.settings.reuse_delay) (lookup (is_at (nat_cmp n)) (delays_of v pools))) isnt ∙ rest
  beside isnt false rest = rest

  by_row : (row_at n pools ≡ Some p → is_sequential n v.stores ≡ true → holds_copy n v ≡ true → lookup (is_at (nat_cmp n)) (delays_of v pools) ≡ Some p.settings.reuse_delay) → (b : Bool) → is_at (nat_cmp n) e.0 ≡ b
      → cond b (Some e.1) (row_at n pools) ≡ Some p → lookup (is_at (nat_cmp n)) (delays_of v (e ∷ pools)) ≡ Some p.settings.reuse_delay
  by_row rest true is there =
      ap (λ b. lookup (is_at (nat_cmp n)) ((if b then (e.0, e.1.settings.reuse_delay) ∷ [] else []) ++ delays_of v pools)) (itself (sym (at_is n e.0 is)))
      ∙ ap (λ t. cond t (Some e.1.settings.reuse_delay) (lookup (is_at (nat_cmp n)) (delays_of v pools))) is
      ∙ ap (λ (q : Pool). Some q.settings.reuse_delay) (same_Some e.1 p there)
  by_row rest false isnt there = beside isnt (is_sequential e.0 v.stores && holds_copy e.0 v) (rest there sequential holds)

module _ (v : Inv) (valid : is_valid v ≡ true) (b : Backup) (delays : b.delays ≡ delays_now v) where
  one_left : (object : ℕ) (r : CopyRow) → Contains (copies v) (object, r) → is_sequential r.pool v.stores ≡ true → (s : Segment) → Lies v r.pool s → IsLeft v b r.pool s
  one_left object r there sequential s l = (l.below, subst (StillLies v b r.pool s) (sym l.there) still) where
    delayed : (o : Option Pool) → row_at r.pool v.stores.pools ≡ o → IfSome o (λ (p : Pool). HasDelay p.settings.reuse_delay (lookup (is_at (nat_cmp r.pool)) b.delays))
    delayed None at = tt
    delayed (Some p) at =
        subst (HasDelay p.settings.reuse_delay) (sym (ap (lookup (is_at (nat_cmp r.pool))) delays ∙ delay_there v r.pool p v.stores.pools at sequential (some_copy v object r there))) (omega arith)

    still : IsStill v b r.pool s l.volume
    still = record {
      pool = l.in_pool;
      sequential = sequential;
      within = l.within;
      emptied = subst (λ (o : Option ℕ). IfSome o (λ day. b.taken ≤ day)) (sym l.bare) tt;
      delayed = delayed (row_at r.pool v.stores.pools) refl;
    }

  -- a database has what its own copies need, as a backup that begins now
  pub self_provided : EachSequential (λ w r. AllByRecursion (IsLeft v b r.pool) r.segments) v
  self_provided =
      each_also (λ (w : Version). AllByRecursion (λ (r : CopyRow). Contains (copies v) (w.object, r)) w.copies)
      (λ (w : Version). AllByRecursion (λ (r : CopyRow). is_sequential r.pool v.stores ≡ true → AllByRecursion (IsLeft v b r.pool) r.segments) w.copies) (versions v)
      (λ w all. each_also (λ (r : CopyRow). Contains (copies v) (w.object, r)) (λ (r : CopyRow). is_sequential r.pool v.stores ≡ true → AllByRecursion (IsLeft v b r.pool) r.segments) w.copies
      (λ r there sequential. each_also (Lies v r.pool) (IsLeft v b r.pool) r.segments (one_left w.object r there sequential) (lies v valid w.object r there sequential)) all) (each_copy v valid)

-- the row of a backup that begins
abbrev pub begun_row : (after : Option ℕ) → Inv → Backup
begun_row after v = record { taken = v.today; number = this v; is_done = false; after = after; delays = delays_now v }

pub row_begun : (k : ℕ) (after : Option ℕ) (v : Inv) → backup_at k (effect (change.DbBegin k after) v) ≡ Some (begun_row after v)
unfolding effect
row_begun k after v = own_row k (begun_row after v) v.backups

below_more : (n m k : ℕ) → k < n → k < max n m
below_more n m k h = omega (arith, h)

still_begun : (k : ℕ) (after : Option ℕ) (v : Inv) (b : Backup) (n : ℕ) (s : Segment) (o : Option Volume) → StillLies v b n s o → StillLies (effect (change.DbBegin k after) v) b n s o
unfolding effect
still_begun k after v b n s None h = tt
still_begun k after v b n s (Some x) h = record { pool = h.pool; sequential = h.sequential; within = h.within; emptied = h.emptied; delayed = h.delayed }

left_begun : (k : ℕ) (after : Option ℕ) (v : Inv) (b : Backup) (n : ℕ) (s : Segment) → IsLeft v b n s → IsLeft (effect (change.DbBegin k after) v) b n s
unfolding effect
left_begun k after v b n s (below, lies) = (below_more v.next_file (k + 1) s.file below, still_begun k after v b n s (row_at s.file v.stores.volumes) lies)

own_begun : (k : ℕ) (after : Option ℕ) (v : Inv) (Q : Version → CopyRow → Type 0) → EachSequential Q v → EachSequential Q (effect (change.DbBegin k after) v)
unfolding effect
own_begun k after v Q all = all

-- so has the database behind its transaction, of which it is
pub provided_begun : (k : ℕ) (after : Option ℕ) (v : Inv) → is_valid v ≡ true → (t : Taken) → t.database ≡ effect (change.DbBegin k after) v → IsProvided (effect (change.DbBegin k after) v) (begun_row after v) t
provided_begun k after v valid t same =
    subst (EachSequential (λ w r. AllByRecursion (IsLeft (effect (change.DbBegin k after) v) (begun_row after v) r.pool) r.segments)) (sym same)
    (own_begun k after v (λ w r. AllByRecursion (IsLeft (effect (change.DbBegin k after) v) (begun_row after v) r.pool) r.segments)
    (also_sequential (λ w r. AllByRecursion (IsLeft v (begun_row after v) r.pool) r.segments) (λ w r. AllByRecursion (IsLeft (effect (change.DbBegin k after) v) (begun_row after v) r.pool) r.segments) v
    (λ w r all. each_also (IsLeft v (begun_row after v) r.pool) (IsLeft (effect (change.DbBegin k after) v) (begun_row after v) r.pool) r.segments (left_begun k after v (begun_row after v) r.pool) all)
    (self_provided v valid (begun_row after v) refl)))

-- ---- the number of a backup

-- it is at most that of the database that lists it
some_is : {A : Type 0} {a b : A} → Some a ≡ Some b → a ≡ b
some_is e = cc

pub found_number : (file n : ℕ) (rows : List (ℕ × Backup)) (b : Backup) → list_all (λ b. nat_le b.1.number n) rows ≡ true → lookup (is_at (nat_cmp file)) rows ≡ Some b → nat_le b.number n ≡ true
found_number file n [] b all at = absurd cc
found_number file n (e ∷ rows) b all at =
    let parts = and_parts (nat_le e.1.number n) (list_all (λ (b : ℕ × Backup). nat_le b.1.number n) rows) all in
    elim (is_at (nat_cmp file) e.0) as (λ t. cond t (Some e.1) (lookup (is_at (nat_cmp file)) rows) ≡ Some b → nat_le b.number n ≡ true) [
      | true ↦ λ s. subst (λ (x : Backup). nat_le x.number n ≡ true) (some_is s) parts.0
      | false ↦ λ s. found_number file n rows b parts.1 s
    ] at
