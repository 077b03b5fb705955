-- The scratch volumes of a transaction, made one after the other.
use Rattle.std.proofs.Common.{◌≡◌, ℕ, ◌+◌, ◌-◌, ◌^◌, ◌<◌, max, Bool, true, false, not, ◌&&◌, List, [], ◌∷◌, ◌++◌, map, Option, Some, None, is_some, is_none, refl, sym, ap, ◌∙◌, arith}
use Rattle.std.specs.Prelude.{◌==◌, nat_le, nat_lt, cond}
use Rattle.std.specs.BTreeMap.{is_at}
use Rattle.std.specs.List.{list_all, flat_map, filter}
use Rattle.std.specs.Ordering.{nat_cmp}
use Rattle.std.proofs.lemmas.Bool.{and_parts, and_from, eq-eqb, eqb-true, lt-ltb, ltb-true, false≢true}
use Rattle.std.proofs.lemmas.List.{append-nil}
use Rattle.kinds.specs.declared.refusal.Refusal.{Refusal}
use Rattle.kinds.specs.declared.segment.Segment.{Segment}
use Rattle.inventory_rules.specs.entries.change_items.declared.items.ScratchVolume.{ScratchVolume}
use Rattle.inventory_rules.specs.inventory_rows.version_groups.declared.copies.CopyRow.{CopyRow}
use Rattle.inventory_rules.specs.inventory_rows.version_groups.Entries.{all_later}
use Rattle.inventory_rules.specs.inventory_rows.volume_rows.declared.volume.Volume.{Volume}
use Rattle.inventory_rules.specs.inventory_rows.pool_tables.Rows.{row_at}
use Rattle.inventory_rules.proofs.of_inventory_rows.of_pool_tables.Counting.{apart_at}
use Rattle.inventory_rules.specs.inventory_rows.pool_rows.PoolRows.{is_sequential}
use Rattle.inventory_rules.specs.inventory_rows.Search.{copies, pool, segments_on}
use Rattle.inventory_rules.specs.inventory_rows.State.{Inv}
use Rattle.inventory_rules.specs.Common.{each, file_bound, files_refused, is_free_file}
use Rattle.inventory_rules.specs.Segments.{make_scratch, scratch_refused, scratch_fits}
use Rattle.kinds.specs.Refusals.{unless}
use Rattle.inventory_rules.specs.Valid.{copies_cite, is_of_pool}
use Rattle.inventory_rules.specs.Halfway.{lying, VolumeFacts}
use Rattle.inventory_laws.specs.Coming.{of_object}
use Rattle.inventory_laws.specs.Kept.{is_cited}
use Rattle.inventory_laws.proofs.VolumeRows.{all_both, all_so}
use Rattle.inventory_laws.proofs.Scratch.{from_none, made, others_there, scratch_made, sequential_made}
use Rattle.inventory_laws.proofs.Swapping.{on_file}
use Rattle.inventory_rules.proofs.Turns.{lookup-insert_other}

-- ---- on a volume that isn't there nothing lies

none_on : (n file : ℕ) (rows : List (ℕ × Volume)) (ss : List Segment) → row_at file rows ≡ None → list_all (λ s. is_of_pool n (row_at s.file rows)) ss ≡ true → filter (λ s. s.file == file) ss ≡ []
none_on n file rows [] absent h = refl
none_on n file rows (s ∷ ss) absent h =
    let parts = and_parts (is_of_pool n (row_at s.file rows)) (list_all (λ t. is_of_pool n (row_at t.file rows)) ss) h in
    elim (s.file == file) as (λ b. (s.file == file) ≡ b → cond b (s ∷ filter (λ t. t.file == file) ss) (filter (λ t. t.file == file) ss) ≡ []) [
      | true ↦ λ e. absurd (false≢true (sym (ap (is_of_pool n) (ap (λ k. row_at k rows) (eqb-true s.file file e) ∙ absent)) ∙ parts.0))
      | false ↦ λ e. none_on n file rows ss absent parts.1
    ] refl

none_of : (file : ℕ) (v : Inv) (cs : List (ℕ × CopyRow)) → row_at file v.stores.volumes ≡ None → list_all (is_cited v) cs ≡ true → on_file file cs ≡ []
none_of file v [] absent h = refl
none_of file v (c ∷ cs) absent h =
    let parts = and_parts (is_cited v c) (list_all (is_cited v) cs) h in
    let own = and_parts (is_some (pool c.1.pool v)) (list_all (λ s. is_of_pool c.1.pool (row_at s.file v.stores.volumes)) c.1.segments) parts.0 in
    ap (λ (l : List Segment). of_object c.0 l ++ on_file file cs) (none_on c.1.pool file v.stores.volumes c.1.segments absent own.1) ∙ none_of file v cs absent parts.1

pub nothing_lies : (file : ℕ) (v : Inv) → copies_cite v ≡ true → row_at file v.stores.volumes ≡ None → lying [] file v ≡ []
nothing_lies file v cite absent = append-nil (segments_on file v) ∙ none_of file v (copies v) absent cite

-- ---- what one leaves as it was

free_absent : (v : Inv) (file : ℕ) → is_free_file v file ≡ true → row_at file v.stores.volumes ≡ None
free_absent v file free =
    let parts = and_parts (nat_le 4 file) (is_none (row_at file v.stores.volumes) && is_none (row_at file v.backups)) free in
    from_none (row_at file v.stores.volumes) (and_parts (is_none (row_at file v.stores.volumes)) (is_none (row_at file v.backups)) parts.1).0

pub still_free : (s : ScratchVolume) (v : Inv) (file : ℕ) → is_free_file v s.file ≡ true → not (s.file == file) ≡ true → is_free_file v file ≡ true → is_free_file (make_scratch s v) file ≡ true
still_free s v file own ne free =
    ap (λ (o : Option Volume). nat_le 4 file && (is_none o && is_none (row_at file v.backups)))
    (lookup-insert_other nat_cmp (is_at (nat_cmp file)) s.file (made s v) off v.stores.volumes (free_absent v s.file own)) ∙ free
  where
    off : is_at (nat_cmp file) s.file ≡ false
    off = apart_at file s.file (λ same. false≢true (sym (ap not (eq-eqb s.file file (sym same))) ∙ ne))

still_below : (next file other most : ℕ) → nat_lt (max next (file + 1)) most ≡ true → nat_lt (max next (other + 1)) most ≡ true → nat_lt (max (max next (file + 1)) (other + 1)) most ≡ true
still_below next file other most h k =
    let a : max next (file + 1) < most = ltb-true (max next (file + 1)) most h in
    let b : max next (other + 1) < most = ltb-true (max next (other + 1)) most k in
    lt-ltb (max (max next (file + 1)) (other + 1)) most (omega arith)

pub cite_made : (s : ScratchVolume) (v : Inv) → is_free_file v s.file ≡ true → copies_cite v ≡ true → copies_cite (make_scratch s v) ≡ true
cite_made s v free h = all_so (is_cited v) (is_cited (make_scratch s v)) one (copies v) h where
  there : (n file : ℕ) (o : Option Volume) → row_at file v.stores.volumes ≡ o → is_of_pool n o ≡ true → is_of_pool n (row_at file (make_scratch s v).stores.volumes) ≡ true
  there n file None found t = absurd cc
  there n file (Some w) found t = ap (is_of_pool n) (others_there s v file w free found) ∙ t

  one : (e : ℕ × CopyRow) → is_cited v e ≡ true → is_cited (make_scratch s v) e ≡ true
  one e t =
      let parts = and_parts (is_some (pool e.1.pool v)) (list_all (λ x. is_of_pool e.1.pool (row_at x.file v.stores.volumes)) e.1.segments) t in
      and_from (is_some (pool e.1.pool v)) (list_all (λ x. is_of_pool e.1.pool (row_at x.file (make_scratch s v).stores.volumes)) e.1.segments) parts.0
      (all_so (λ x. is_of_pool e.1.pool (row_at x.file v.stores.volumes)) (λ x. is_of_pool e.1.pool (row_at x.file (make_scratch s v).stores.volumes)) (λ x h. there e.1.pool x.file (row_at x.file v.stores.volumes) refl h) e.1.segments parts.1)

-- ---- all of them

-- what is asked of scratch volumes
record AreFree (v : Inv) (scratch : List ScratchVolume) : Type 0 where
  free : list_all (λ s. is_free_file v s.file) scratch ≡ true
  apart : all_later (λ a b. not (a.file == b.file)) scratch ≡ true
  below : list_all (λ s. nat_lt (max v.next_file (s.file + 1)) (2 ^ 32 - 1)) scratch ≡ true
  sequential : scratch_fits v scratch ≡ true

record Made (p : List (ℕ × Segment)) (v : Inv) : Type 0 where
  facts : VolumeFacts p v
  cite : copies_cite v ≡ true

next_free : (s : ScratchVolume) (scratch : List ScratchVolume) (v : Inv) → AreFree v (s ∷ scratch) → AreFree (make_scratch s v) scratch
next_free s scratch v a =
    let free = and_parts (is_free_file v s.file) (list_all (λ t. is_free_file v t.file) scratch) a.free in
    let apart = and_parts (list_all (λ t. not (s.file == t.file)) scratch) (all_later (λ x y. not (x.file == y.file)) scratch) a.apart in
    let below = and_parts (nat_lt (max v.next_file (s.file + 1)) (2 ^ 32 - 1)) (list_all (λ t. nat_lt (max v.next_file (t.file + 1)) (2 ^ 32 - 1)) scratch) a.below in
    let fit = and_parts (is_sequential s.pool v.stores) (scratch_fits v scratch) a.sequential in
    record {
      free = all_both (λ t. not (s.file == t.file)) (λ t. is_free_file v t.file) (λ t. is_free_file (make_scratch s v) t.file) (λ t ne h. still_free s v t.file free.0 ne h) scratch apart.0 free.1;
      apart = apart.1;
      below =
          all_so (λ t. nat_lt (max v.next_file (t.file + 1)) (2 ^ 32 - 1)) (λ t. nat_lt (max (max v.next_file (s.file + 1)) (t.file + 1)) (2 ^ 32 - 1)) (λ t h. still_below v.next_file s.file t.file (2 ^ 32 - 1) below.0 h) scratch below.1;
      sequential = all_so (λ t. is_sequential t.pool v.stores) (λ t. is_sequential t.pool (make_scratch s v).stores) (λ t h. sequential_made s v t.pool ∙ h) scratch fit.1;
    }

each_made : (scratch : List ScratchVolume) (v : Inv) → AreFree v scratch → Made [] v → Made [] (each make_scratch scratch v)
each_made [] v a m = m
each_made (s ∷ scratch) v a m =
    let free = and_parts (is_free_file v s.file) (list_all (λ t. is_free_file v t.file) scratch) a.free in
    let below = and_parts (nat_lt (max v.next_file (s.file + 1)) (2 ^ 32 - 1)) (list_all (λ t. nat_lt (max v.next_file (t.file + 1)) (2 ^ 32 - 1)) scratch) a.below in
    let fit = and_parts (is_sequential s.pool v.stores) (scratch_fits v scratch) a.sequential in
    each_made scratch (make_scratch s v) (next_free s scratch v a)
    (record {
      facts = scratch_made [] s v m.facts free.0 fit.0 below.0 (nothing_lies s.file v m.cite (free_absent v s.file free.0));
      cite = cite_made s v free.0 m.cite;
    })

-- ---- by the causes of refusals

pub unless_not : (b : Bool) (e : Refusal) → unless b e ≡ [] → b ≡ true
unless_not true e h = refl
unless_not false e h = absurd cc

pub none_of_both : {A : Type 0} (xs ys : List A) → xs ++ ys ≡ [] → (xs ≡ []) × (ys ≡ [])
none_of_both [] ys h = (refl, h)
none_of_both (x ∷ xs) ys h = absurd cc

bounds_of : (v : Inv) (e : Refusal) (scratch : List ScratchVolume) → flat_map (λ s. unless (nat_lt (max v.next_file (s.file + 1)) (2 ^ 32 - 1)) e) scratch ≡ [] → list_all (λ s. nat_lt (max v.next_file (s.file + 1)) (2 ^ 32 - 1)) scratch ≡ true
bounds_of v e [] h = refl
bounds_of v e (s ∷ scratch) h =
    let parts = none_of_both (unless (nat_lt (max v.next_file (s.file + 1)) (2 ^ 32 - 1)) e) (flat_map (λ t. unless (nat_lt (max v.next_file (t.file + 1)) (2 ^ 32 - 1)) e) scratch) h in
    and_from (nat_lt (max v.next_file (s.file + 1)) (2 ^ 32 - 1)) (list_all (λ t. nat_lt (max v.next_file (t.file + 1)) (2 ^ 32 - 1)) scratch)
    (unless_not (nat_lt (max v.next_file (s.file + 1)) (2 ^ 32 - 1)) e parts.0) (bounds_of v e scratch parts.1)

pub all-mapped : {A B : Type 0} (f : A → B) (p : B → Bool) (xs : List A) → list_all p (map f xs) ≡ true → list_all (λ x. p (f x)) xs ≡ true
all-mapped f p [] h = refl
all-mapped f p (x ∷ xs) h =
    let parts = and_parts (p (f x)) (list_all p (map f xs)) h in
    and_from (p (f x)) (list_all (λ y. p (f y)) xs) parts.0 (all-mapped f p xs parts.1)

pub later-mapped : {A B : Type 0} (f : A → B) (r : B → B → Bool) (xs : List A) → all_later r (map f xs) ≡ true → all_later (λ x y. r (f x) (f y)) xs ≡ true
later-mapped f r [] h = refl
later-mapped f r (x ∷ xs) h =
    let parts = and_parts (list_all (r (f x)) (map f xs)) (all_later r (map f xs)) h in
    and_from (list_all (λ y. r (f x) (f y)) xs) (all_later (λ y z. r (f y) (f z)) xs) (all-mapped f (r (f x)) xs parts.0) (later-mapped f r xs parts.1)

are_free : (scratch : List ScratchVolume) (v : Inv) → scratch_refused scratch v ≡ [] → scratch_fits v scratch ≡ true → AreFree v scratch
are_free scratch v h fit =
    let parts = none_of_both (files_refused (map (λ (s : ScratchVolume). s.file) scratch) v) (flat_map (λ (s : ScratchVolume). file_bound s.file v) scratch) h in
    let files = and_parts (list_all (is_free_file v) (map (λ (s : ScratchVolume). s.file) scratch)) (all_later (λ a b. not (a == b)) (map (λ (s : ScratchVolume). s.file) scratch)) (unless_not _ _ parts.0) in
    record {
      free = all-mapped (λ (s : ScratchVolume). s.file) (is_free_file v) scratch files.0;
      apart = later-mapped (λ (s : ScratchVolume). s.file) (λ a b. not (a == b)) scratch files.1;
      below = bounds_of v _ scratch parts.1;
      sequential = fit;
    }

pub scratch_come : (scratch : List ScratchVolume) (v : Inv) → VolumeFacts [] v → copies_cite v ≡ true → scratch_refused scratch v ≡ [] → scratch_fits v scratch ≡ true
    → VolumeFacts [] (each make_scratch scratch v) × (copies_cite (each make_scratch scratch v) ≡ true)
scratch_come scratch v f cite h fit =
    let m : Made [] (each make_scratch scratch v) = each_made scratch v (are_free scratch v h fit) (record { facts = f; cite = cite }) in
    (m.facts, m.cite)
