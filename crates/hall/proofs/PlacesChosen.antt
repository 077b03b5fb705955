-- What is found for a ticket: each of its pieces lies on a volume of the pool, clear of all that a stop may bring back, and apart from the space of all tickets.
use Rattle.std.proofs.Common.{◌≡◌, ◌⊎◌, inl, inr, ℕ, ◌+◌, ◌-◌, ◌*◌, ◌/◌, ◌<◌, ◌≤◌, ◌^◌, Bool, true, false, cond, not, ◌&&◌, ◌||◌, is_some, is_none, List, [], ◌∷◌, ◌++◌, length, map, Option, Some, None, refl, sym, ap, subst, ◌∙◌, arith}
use Rattle.std.specs.Prelude.{◌==◌, Contains, if◌then◌else◌, nat_le, nat_lt}
use Rattle.std.specs.List.{AllByRecursion, flat_map, list_all, list_any}
use Rattle.std.specs.List.Sorted.{IsStrictlySortedBy}
use Rattle.std.specs.Map.{keys_of}
use Rattle.std.specs.Option.{option_map_or}
use Rattle.std.specs.Ordering.{nat_cmp}
use Rattle.std.proofs.lemmas.Bool.{and_from, and_parts, eq-eqb, eqb-true, false≢true, le-leb, leb-true, ltb-true, or_parts}
use Rattle.std.proofs.lemmas.List.{take_all}
use Rattle.std.proofs.lemmas.Option.{same_Some}
use Rattle.kinds.specs.declared.segment.Segment.{Segment}
use Rattle.entries.specs.declared.entry.Entry.{Entry}
use Rattle.inventory_rows.specs.volume_rows.declared.held.HeldSegment.{HeldSegment}
use Rattle.inventory_rows.specs.volume_rows.declared.volume.Volume.{Volume}
use Rattle.inventory_rows.specs.version_groups.Entries.{all_later}
use Rattle.inventory_rows.specs.pool_rows.PoolRows.{is_sequential, pool_capacity}
use Rattle.inventory_rows.specs.pool_tables.Rows.{row_at}
use Rattle.inventory_rows.specs.Search.{segments_on}
use Rattle.inventory_rows.specs.State.{Inv}
use Rattle.inventory_rows.proofs.of_pool_tables.Counting.{apart_at, each_there}
use Rattle.inventory_rules.specs.Backups.{backup_at}
use Rattle.inventory_rules.specs.Held.{IsTied, holding}
use Rattle.inventory_rules.specs.Segments.{are_clear}
use Rattle.inventory_rules.specs.Valid.{is_valid, lie_in}
use Rattle.inventory_laws.proofs.Facts.{facts_of}
use Rattle.inventory_laws.proofs.Lists.{all_from, all_of, each_also, each_both, each_joined, each_mapped, each_within}
use Rattle.inventory_laws.proofs.Origins.{contained_holds, each_contained}
use Rattle.space.specs.declared.claims.Claim.{Claim}
use Rattle.space.specs.declared.counted.Counted.{Counted}
use Rattle.space.specs.declared.piece.Piece.{Piece}
use Rattle.space.specs.declared.places.Placed.{Placed}
use Rattle.space.specs.declared.site.Site.{Site}
use Rattle.space.specs.Claims.{Claims, counted, if_other, if_own, if_there, on_volume}
use Rattle.space.specs.Lawful.{AreApart, segment_in}
use Rattle.space.specs.Pieces.{claims_on, copies_on}
use Rattle.space.specs.Volumes.{is_held, sites}
use Rattle.space_laws.specs.Ending.{EndsBefore}
use Rattle.space_laws.proofs.Ends.{own_end}
use Rattle.space_laws.proofs.Keys.{AllKeys, all_held}
use Rattle.machine.specs.Machine.{all_segments, durable, freed, space}
use Rattle.machine.specs.State.{Core, Ticket, after, inventory, unforced}
use Rattle.hall.specs.Covered.{IsClear, IsInPool, IsNewFile, IsVolume, LiesIn, NeverBackup, NumbersAreDrawn, SpaceIsClear, Written, all_space, are_apart_in, inv_at, is_any_reuse, is_unwritten, left_open, written}
use Rattle.hall.specs.Good.{IsLawful}
use Rattle.hall.specs.Placed.{IsNoted, IsSpace, claim_of, places_of}
use Rattle.hall.proofs.Along.{Along, IsStep, IsUpTo, along_later, at_each, each_at, each_draws, end_at, end_found, no_key, run_steps, run_valid, written_absent, written_there, all_from_volume}
use Rattle.hall.proofs.Apart.{both_joined, later_joined}
use Rattle.hall.proofs.Clearing.{all_beside_absent, clear_before, clear_behind, each_behind_end, each_in_free}
use Rattle.hall.proofs.Databases.{after_parts, first_left, last_left, later_databases, left_lawful}
use Rattle.hall.proofs.Found.{IsFound, IsRandom, IsTail, OfPool, SiteIn, VolumeIn, each_found, keys_sites, site_in}

-- ---- numbers of files

-- a number that isn't drawn yet is no row's
pub not_drawn : {V : Type 0} (least bound k : ℕ) (rows : List (ℕ × V)) → lie_in least bound (keys_of rows) ≡ true → bound ≤ k → row_at k rows ≡ None
not_drawn least bound k [] h le = refl
not_drawn least bound k (e ∷ rows) h le =
    let t = and_parts (nat_le least e.0 && nat_lt e.0 bound) (lie_in least bound (keys_of rows)) h in
    let u = and_parts (nat_le least e.0) (nat_lt e.0 bound) t.0 in
    let below : e.0 < bound = ltb-true e.0 bound u.1 in
    ap (λ b. cond b (Some e.1) (row_at k rows)) (apart_at k e.0 (λ same. absurd (omega (arith, below, same, le)))) ∙ not_drawn least bound k rows t.1 le

drawn_front : (least bound : ℕ) (xs ys : List ℕ) → lie_in least bound (xs ++ ys) ≡ true → (lie_in least bound xs ≡ true) × (lie_in least bound ys ≡ true)
drawn_front least bound [] ys h = (refl, h)
drawn_front least bound (x ∷ xs) ys h =
    let t = and_parts (nat_le least x && nat_lt x bound) (lie_in least bound (xs ++ ys)) h in
    let u = drawn_front least bound xs ys t.1 in
    (and_from (nat_le least x && nat_lt x bound) (lie_in least bound xs) t.0 u.0, u.1)

by_rows : {V : Type 0} (P : ℕ → Type 0) (rows : List (ℕ × V)) → AllByRecursion P (keys_of rows) → AllByRecursion (λ f. P f.0) rows
by_rows P [] all = tt
by_rows P (e ∷ rows) all = (all.0, by_rows P rows all.1)

to_keys : {V : Type 0} (P : ℕ → Type 0) (rows : List (ℕ × V)) → AllByRecursion (λ f. P f.0) rows → AllByRecursion P (keys_of rows)
to_keys P [] all = tt
to_keys P (e ∷ rows) all = (all.0, to_keys P rows all.1)

-- a volume's file is one
module _ (c : Core) (valid : is_valid (inventory c) ≡ true) (numbers : NumbersAreDrawn c) where
  bounds_of : (keys : List ℕ) → lie_in 4 (inventory c).next_file keys ≡ true → AllByRecursion (λ k. (4 ≤ k) × (k < (inventory c).next_file)) keys
  bounds_of keys h =
      each_also (λ k. (nat_le 4 k && nat_lt k (inventory c).next_file) ≡ true) (λ k. (4 ≤ k) × (k < (inventory c).next_file)) keys
      (λ k t. let u = and_parts (nat_le 4 k) (nat_lt k (inventory c).next_file) t in (leb-true 4 k u.0, ltb-true k (inventory c).next_file u.1))
      (all_of (λ k. nat_le 4 k && nat_lt k (inventory c).next_file) keys h)

  volume_keys : AllByRecursion (λ k. (4 ≤ k) × (k < (inventory c).next_file)) (keys_of (inventory c).stores.volumes)
  volume_keys = bounds_of (keys_of (inventory c).stores.volumes) (drawn_front 4 (inventory c).next_file (keys_of (inventory c).stores.volumes) (keys_of (inventory c).backups) (facts_of (inventory c) valid).files_drawn).0

  no_backup : AllByRecursion (λ k. backup_at k (inventory c) ≡ None) (keys_of (inventory c).stores.volumes)
  no_backup =
      each_also (λ k. list_all (λ y. not (k == y)) (keys_of (inventory c).backups) ≡ true) (λ k. backup_at k (inventory c) ≡ None) (keys_of (inventory c).stores.volumes)
      (λ k h. no_key k (inventory c).backups h) (later_joined (λ a b. not (a == b)) (keys_of (inventory c).stores.volumes) (keys_of (inventory c).backups) (facts_of (inventory c) valid).files_apart).0

  pub row_volume : (file : ℕ) (volume : Volume) → row_at file (inventory c).stores.volumes ≡ Some volume → IsVolume c file
  row_volume file volume row =
      let rows : List (ℕ × Volume) = (inventory c).stores.volumes in
      let at = each_there (λ f. (4 ≤ f.0) × (f.0 < (inventory c).next_file)) file volume rows row (by_rows (λ k. (4 ≤ k) × (k < (inventory c).next_file)) rows volume_keys) in
      let none = each_there (λ f. backup_at f.0 (inventory c) ≡ None) file volume rows row (by_rows (λ k. backup_at k (inventory c) ≡ None) rows no_backup) in
      (at.0, omega (arith, at.1, numbers.next_file.1), none, λ isnt. absurd (false≢true (sym (ap is_none row) ∙ isnt)))

-- a scratch volume's number, which is drawn now, is one where the numbers behind it are drawn next
pub scratch_absent : (c : Core) (file : ℕ) → IsLawful c → NumbersAreDrawn c → c.next_file ≤ file → IsNewFile c file
scratch_absent c file l numbers le =
    λ count.
    let v : Inv = inv_at count c in
    let valid : is_valid v ≡ true = each_at (λ x. is_valid x ≡ true) c.base c.journal (run_valid c l) count in
    let draws = each_at _ c.base c.journal (each_draws c.base c.journal) count in
    not_drawn 4 v.next_file file v.stores.volumes (drawn_front 4 v.next_file (keys_of v.stores.volumes) (keys_of v.backups) (facts_of v valid).files_drawn).0 (omega (arith, draws.file, numbers.next_file.1, le))

-- nor is it a database backup's
pub scratch_unlisted : (c : Core) (file : ℕ) → IsLawful c → NumbersAreDrawn c → c.next_file ≤ file → NeverBackup c file
scratch_unlisted c file l numbers le =
    λ count.
    let v : Inv = inv_at count c in
    let valid : is_valid v ≡ true = each_at (λ x. is_valid x ≡ true) c.base c.journal (run_valid c l) count in
    let draws = each_at _ c.base c.journal (each_draws c.base c.journal) count in
    not_drawn 4 v.next_file file v.backups (drawn_front 4 v.next_file (keys_of v.stores.volumes) (keys_of v.backups) (facts_of v valid).files_drawn).1 (omega (arith, draws.file, numbers.next_file.1, le))

pub scratch_volume : (c : Core) (file : ℕ) → is_valid (inventory c) ≡ true → NumbersAreDrawn c → c.next_file ≤ file → (4 ≤ file) × (backup_at file (inventory c) ≡ None) × (c.base.next_file ≤ file)
scratch_volume c file valid numbers le =
    let v : Inv = inventory c in
    let f = facts_of v valid in
    let t = and_parts (nat_le 4 v.next_file && nat_lt v.next_file (2 ^ 32 - 1)) true f.files_bounded in
    let u = and_parts (nat_le 4 v.next_file) (nat_lt v.next_file (2 ^ 32 - 1)) t.0 in
    let least : 4 ≤ v.next_file = leb-true 4 v.next_file u.0 in (
      omega (arith, least, numbers.next_file.1, le),
      not_drawn 4 v.next_file file v.backups (drawn_front 4 v.next_file (keys_of v.stores.volumes) (keys_of v.backups) f.files_drawn).1 (omega (arith, numbers.next_file.1, le)),
      omega (arith, numbers.next_file.0, numbers.next_file.1, le),
    )

-- ---- the space of tickets, as it is counted

abbrev pub InPlace : (Placed → Type 0) → Ticket → Segment → Type 0
InPlace P u r = P (record { pool = u.place.pool; segment = r })

to_places : (P : Placed → Type 0) (number : ℕ) (xs : List Segment) → AllByRecursion (λ r. P (record { pool = number; segment = r })) xs → AllByRecursion P (map (λ r. record { pool = number; segment = r }) xs)
to_places P number [] all = tt
to_places P number (x ∷ xs) all = (all.0, to_places P number xs all.1)

module _ (actor : ℕ) where
  -- what holds of the segments of all tickets holds of what is counted
  own_counted : (P : Placed → Type 0) (ts : List Ticket) → AllByRecursion (λ u. AllByRecursion (InPlace P u) u.place.segments) ts → AllByRecursion P (flat_map (λ t. if_own actor t.1) (map claim_of ts))
  own_counted P [] all = tt
  own_counted P (u ∷ ts) all =
      both_joined P (if_own actor (claim_of u).1) (flat_map (λ t. if_own actor t.1) (map claim_of ts))
      (elim (u.actor == actor) as (λ b. AllByRecursion P (if b then places_of u.place else [])) [ true ↦ to_places P u.place.pool u.place.segments all.0 | false ↦ tt ]) (own_counted P ts all.1)

  others_counted : (P : Placed → Type 0) (ts : List Ticket) → AllByRecursion (λ u. AllByRecursion (InPlace P u) u.place.segments) ts → AllByRecursion P (flat_map (λ t. if_other actor t.1) (map claim_of ts))
  others_counted P [] all = tt
  others_counted P (u ∷ ts) all =
      both_joined P (if_other actor (claim_of u).1) (flat_map (λ t. if_other actor t.1) (map claim_of ts))
      (elim (u.actor == actor) as (λ b. AllByRecursion P (if b then [] else places_of u.place)) [ true ↦ tt | false ↦ to_places P u.place.pool u.place.segments all.0 ]) (others_counted P ts all.1)

  -- and the other way: of the actor's own tickets the one, of others' the other
  abbrev pub Either : (P Q : Placed → Type 0) → Ticket → Segment → Type 0
  Either P Q u r = (((u.actor == actor) ≡ true) × InPlace P u r) ⊎ InPlace Q u r

  counted_tickets : (P Q : Placed → Type 0) (ts : List Ticket) → AllByRecursion P (flat_map (λ t. if_own actor t.1) (map claim_of ts)) → AllByRecursion Q (flat_map (λ t. if_other actor t.1) (map claim_of ts))
      → AllByRecursion (λ u. AllByRecursion (Either P Q u) u.place.segments) ts
  counted_tickets P Q [] own others = tt
  counted_tickets P Q (u ∷ ts) own others =
      let a = each_joined P (if_own actor (claim_of u).1) (flat_map (λ (t : ℕ × Claim). if_own actor t.1) (map claim_of ts)) own in
      let b = each_joined Q (if_other actor (claim_of u).1) (flat_map (λ (t : ℕ × Claim). if_other actor t.1) (map claim_of ts)) others in
      (here (u.actor == actor) refl a.0 b.0, counted_tickets P Q ts a.1 b.1)
    where
      here : (b : Bool) → (u.actor == actor) ≡ b → AllByRecursion P (if b then places_of u.place else []) → AllByRecursion Q (if b then [] else places_of u.place) → AllByRecursion (Either P Q u) u.place.segments
      here true is own others =
          each_also (InPlace P u) (Either P Q u) u.place.segments (λ r h. inl (is, h)) (each_mapped P (λ (r : Segment). let p : Placed = record { pool = u.place.pool; segment = r } in p) u.place.segments own)
      here false isnt own others =
          each_also (InPlace Q u) (Either P Q u) u.place.segments (λ r h. inr h) (each_mapped Q (λ (r : Segment). let p : Placed = record { pool = u.place.pool; segment = r } in p) u.place.segments others)

-- what lies on a volume of some places
from_volume : (P : Segment → Type 0) (file : ℕ) (places : List Placed) → AllByRecursion P (on_volume file places) → AllByRecursion (λ p. p.segment.file ≡ file → P p.segment) places
from_volume P file [] all = tt
from_volume P file (p ∷ places) all =
    let t = each_joined P (if_there file p) (flat_map (if_there file) places) all in
    (here (p.segment.file == file) refl t.0, from_volume P file places t.1)
  where
    here : (b : Bool) → (p.segment.file == file) ≡ b → AllByRecursion P (if b then p.segment ∷ [] else []) → p.segment.file ≡ file → P p.segment
    here true is h same = h.0
    here false isnt h same = absurd (false≢true (sym isnt ∙ eq-eqb p.segment.file file same))

-- no such place lies on a volume that others hold nothing on
not_held : (file : ℕ) (places : List Placed) → is_held file places ≡ false → AllByRecursion (λ p. p.segment.file ≡ file → ⊥) places
not_held file [] h = tt
not_held file (p ∷ places) h =
    let t = or_parts (p.segment.file == file) (list_any (λ q. q.segment.file == file) places) h in
    ((λ same. false≢true (sym t.0 ∙ eq-eqb p.segment.file file same)), not_held file places t.1)

-- each two elements are so related, where each later one is to each that is before it
each_two : {X : Type 0} (r : X → X → Bool) (S : X → X → Type 0) → ((x : X) → S x x) → ((x y : X) → r x y ≡ true → S x y × S y x) → (xs : List X) → all_later r xs ≡ true
    → AllByRecursion (λ x. AllByRecursion (S x) xs) xs
each_two r S same by [] h = tt
each_two {X} r S same by (x ∷ xs) h =
    let t = and_parts (list_all (r x) xs) (all_later r xs) h in
    let first : AllByRecursion (λ y. r x y ≡ true) xs = all_of (r x) xs t.0 in (
      (same x, each_also (λ y. r x y ≡ true) (S x) xs (λ y h. (by x y h).0) first),
      each_both (λ y. r x y ≡ true) (λ y. AllByRecursion (S y) xs) (λ y. AllByRecursion (S y) (x ∷ xs)) xs (λ y h rest. ((by x y h).1, rest)) first (each_two r S same by xs t.1),
    )

-- two segments on one volume are of one pool
abbrev SamePool : Ticket × Segment → Ticket × Segment → Type 0
SamePool a b = a.1.file ≡ b.1.file → a.0.place.pool ≡ b.0.place.pool

same_pools : (v : Inv) (a b : Ticket × Segment) → are_apart_in v a b ≡ true → SamePool a b × SamePool b a
same_pools v a b h = ((λ same. of (a.1.file == b.1.file) (eq-eqb a.1.file b.1.file same) h), (λ same. sym (of (a.1.file == b.1.file) (eq-eqb a.1.file b.1.file (sym same)) h)))
  where
    of : (t : Bool) → t ≡ true → (not t || (a.0.place.pool == b.0.place.pool && (are_clear (is_sequential a.0.place.pool v.stores) a.1 b.1 && (not (is_sequential a.0.place.pool v.stores) || a.0.actor == b.0.actor)))) ≡ true
        → a.0.place.pool ≡ b.0.place.pool
    of true is g = eqb-true a.0.place.pool b.0.place.pool (and_parts (a.0.place.pool == b.0.place.pool) _ g).0
    of false is g = absurd (false≢true is)

flat_each : {A B : Type 0} (P : B → Type 0) (rows : List (A × List B)) → AllByRecursion P (flat_map (λ f. f.1) rows) → AllByRecursion (λ f. AllByRecursion P f.1) rows
flat_each P [] all = tt
flat_each {A} {B} P (f ∷ rows) all = let t = each_joined P f.1 (flat_map (λ (x : A × List B). x.1) rows) all in (t.0, flat_each P rows t.1)

or_true : (b : Bool) → (b || true) ≡ true
or_true true = refl
or_true false = refl

-- two segments without a block in common are clear, from either side
block_clear : (a x : Segment) → AreApart a x → (are_clear false a x ≡ true) × (are_clear false x a ≡ true)
block_clear a x (inl le) = (
  ap (λ (b : Bool). b || nat_le ((x.offset + 32 + x.len + 4095) / 4096) (a.offset / 4096)) (le-leb ((a.offset + 32 + a.len + 4095) / 4096) (x.offset / 4096) le),
  ap (λ (b : Bool). nat_le ((x.offset + 32 + x.len + 4095) / 4096) (a.offset / 4096) || b) (le-leb ((a.offset + 32 + a.len + 4095) / 4096) (x.offset / 4096) le) ∙ or_true (nat_le ((x.offset + 32 + x.len + 4095) / 4096) (a.offset / 4096)),
)
block_clear a x (inr le) = (
  ap (λ (b : Bool). nat_le ((a.offset + 32 + a.len + 4095) / 4096) (x.offset / 4096) || b) (le-leb ((x.offset + 32 + x.len + 4095) / 4096) (a.offset / 4096) le) ∙ or_true (nat_le ((a.offset + 32 + a.len + 4095) / 4096) (x.offset / 4096)),
  ap (λ (b : Bool). b || nat_le ((a.offset + 32 + a.len + 4095) / 4096) (x.offset / 4096)) (le-leb ((x.offset + 32 + x.len + 4095) / 4096) (a.offset / 4096) le),
)

-- where all that was written lies below this place, nothing is written from there on
pub unwritten : (s : Segment) (w : Written) (n : ℕ) → IsUpTo n w → n ≤ s.offset → is_unwritten s w ≡ true
unwritten s w n up le =
    and_from (nat_le w.floor s.offset) (list_all (are_clear true s) w.segments) (le-leb w.floor s.offset (omega (arith, up.floor, le)))
    (all_from (are_clear true s) w.segments (each_also (λ x. x.offset + 32 + x.len ≤ n) (λ x. are_clear true s x ≡ true) w.segments (λ x low. clear_behind s x (omega (arith, low, le))) up.segments))

-- ---- what a ticket gets

-- another ticket's segment on the same volume
pub record IsApartFrom (c : Core) (actor number : ℕ) (s : Segment) (u : Ticket) (r : Segment) : Type 0 where
  pub pool : u.place.pool ≡ number
  pub clear : are_clear (is_sequential number (inventory c).stores) r s ≡ true
  pub own : is_sequential number (inventory c).stores ≡ true → (u.actor == actor) ≡ true

-- A segment in a pool that an actor's ticket may have.
pub record IsLawfulIn (c : Core) (actor number : ℕ) (s : Segment) : Type 0 where
  pub least : 4 ≤ s.file
  pub no_backup : backup_at s.file (inventory c) ≡ None
  pub drawn : is_none (row_at s.file (inventory c).stores.volumes) ≡ true → (c.base.next_file ≤ s.file) × IsNewFile c s.file × NeverBackup c s.file
  pub lies : LiesIn c number s.file
  pub clear : IsClear c number s
  pub apart : AllByRecursion (λ u. AllByRecursion (λ r. r.file ≡ s.file → IsApartFrom c actor number s u r) u.place.segments) c.tickets
  pub block : is_sequential number (inventory c).stores ≡ false → (block : ℕ) × (s.offset ≡ 4096 * block)

-- a file that is seen of a volume, be it there or drawn
record IsKnown (c : Core) (k : ℕ) : Type 0 where
  volume : IsVolume c k
  unmade : row_at k (inventory c).stores.volumes ≡ None → IsNewFile c k

module _ (c : Core) (claims : Claims) (actor number : ℕ) (l : IsLawful c) (numbers : NumbersAreDrawn c) (clear : SpaceIsClear c) (waiting : AllByRecursion (λ e. is_any_reuse e.change ≡ false) (unforced c))
    (is : IsSpace (inventory c) (space c) claims) (tied : IsTied (inventory c)) (sorted : IsStrictlySortedBy nat_cmp (keys_of (inventory c).stores.volumes)) where
  valid_now : is_valid (inventory c) ≡ true
  valid_now = last_left (λ v. is_valid v ≡ true) c (left_lawful c l)

  valid_durable : is_valid (durable c) ≡ true
  valid_durable = first_left (λ v. is_valid v ≡ true) c (left_lawful c l)

  since : after (durable c) (unforced c) ≡ inventory c
  since = after_parts (length c.stamps) c.base c.journal

  steps_since : (file : ℕ) (volume : Volume) → row_at file (inventory c).stores.volumes ≡ Some volume → Along (IsStep file) (durable c) (unforced c)
  steps_since file volume row = along_later (IsStep file) (length c.stamps) c.base c.journal (run_steps c file l numbers.none_back (ap is_some row))

  -- ---- the counted space

  of_own : (P : Placed → Type 0) → AllByRecursion (λ u. AllByRecursion (InPlace P u) u.place.segments) c.tickets → AllByRecursion P (counted actor claims).own
  of_own P all = subst (λ (ts : List (ℕ × Claim)). AllByRecursion P (flat_map (λ t. if_own actor t.1) ts)) (sym is.tickets) (own_counted actor P c.tickets all)

  of_others : (P : Placed → Type 0) → AllByRecursion (λ u. AllByRecursion (InPlace P u) u.place.segments) c.tickets → AllByRecursion P (counted actor claims).others
  of_others P all = subst (λ (ts : List (ℕ × Claim)). AllByRecursion P (flat_map (λ t. if_other actor t.1) ts)) (sym is.tickets) (others_counted actor P c.tickets all)

  to_tickets : (P Q : Placed → Type 0) → AllByRecursion P (counted actor claims).own → AllByRecursion Q (counted actor claims).others → AllByRecursion (λ u. AllByRecursion (Either actor P Q u) u.place.segments) c.tickets
  to_tickets P Q own others =
      counted_tickets actor P Q c.tickets (subst (λ (ts : List (ℕ × Claim)). AllByRecursion P (flat_map (λ t. if_own actor t.1) ts)) is.tickets own)
      (subst (λ (ts : List (ℕ × Claim)). AllByRecursion Q (flat_map (λ t. if_other actor t.1) ts)) is.tickets others)

  each_segment : (P Q : Ticket → Segment → Type 0) → ((u : Ticket) (r : Segment) → P u r → Q u r) → AllByRecursion (λ u. AllByRecursion (P u) u.place.segments) c.tickets → AllByRecursion (λ u. AllByRecursion (Q u) u.place.segments) c.tickets
  each_segment P Q up all = each_also (λ u. AllByRecursion (P u) u.place.segments) (λ u. AllByRecursion (Q u) u.place.segments) c.tickets (λ u h. each_also (P u) (Q u) u.place.segments (up u) h) all

  both_segments : (P Q R : Ticket → Segment → Type 0) → ((u : Ticket) (r : Segment) → P u r → Q u r → R u r) → AllByRecursion (λ u. AllByRecursion (P u) u.place.segments) c.tickets
      → AllByRecursion (λ u. AllByRecursion (Q u) u.place.segments) c.tickets → AllByRecursion (λ u. AllByRecursion (R u) u.place.segments) c.tickets
  both_segments P Q R up a b =
      each_both (λ u. AllByRecursion (P u) u.place.segments) (λ u. AllByRecursion (Q u) u.place.segments) (λ u. AllByRecursion (R u) u.place.segments) c.tickets
      (λ u g h. each_both (P u) (Q u) (R u) u.place.segments (up u) g h) a b

  -- ---- on a volume of random access

  module _ (p : Piece) (len : ℕ) (fits : len ≤ p.room) (kind : is_sequential number (inventory c).stores ≡ false) (t : IsRandom number (counted actor claims) (inventory c).stores p) where
    parts_of : AllByRecursion (AreApart (segment_in p len)) (copies_on (p.file, t.volume)) × AllByRecursion (AreApart (segment_in p len)) (claims_on p.file (counted actor claims))
    parts_of = each_joined (AreApart (segment_in p len)) (copies_on (p.file, t.volume)) (claims_on p.file (counted actor claims)) (t.free.apart len fits)

    abbrev There : Placed → Type 0
    There q = q.segment.file ≡ p.file → AreApart (segment_in p len) q.segment

    claimed_apart : AllByRecursion There (counted actor claims).own × AllByRecursion There (counted actor claims).others × AllByRecursion There (counted actor claims).freed
    claimed_apart =
        let n : Counted = counted actor claims in
        let one = each_joined (AreApart (segment_in p len)) (on_volume p.file n.own) (on_volume p.file n.others ++ on_volume p.file n.freed) parts_of.1 in
        let two = each_joined (AreApart (segment_in p len)) (on_volume p.file n.others) (on_volume p.file n.freed) one.1 in
        (from_volume (AreApart (segment_in p len)) p.file n.own one.0, from_volume (AreApart (segment_in p len)) p.file n.others two.0, from_volume (AreApart (segment_in p len)) p.file n.freed two.1)

    abbrev ClearThere : Segment → Type 0
    ClearThere x = x.file ≡ p.file → are_clear false (segment_in p len) x ≡ true

    copies_clear : AllByRecursion ClearThere (all_segments (inventory c))
    copies_clear =
        let s : Segment = segment_in p len in
        let held : t.volume.segments ≡ holding (segments_on p.file (inventory c)) =
        each_there (λ (f : ℕ × Volume). f.1.segments ≡ holding (segments_on f.0 (inventory c))) p.file t.volume (inventory c).stores.volumes t.row tied in
        let keys : AllKeys (λ h. AreApart s (record { file = p.file; offset = h.offset; len = h.len })) t.volume.segments =
        each_mapped (AreApart s) (λ (e : HeldSegment × ℕ). let x : Segment = record { file = p.file; offset = e.0.offset; len = e.0.len } in x) t.volume.segments parts_of.0 in
        let all = all_held (λ h. AreApart s (record { file = p.file; offset = h.offset; len = h.len })) (segments_on p.file (inventory c))
        (subst (λ (k : List (HeldSegment × ℕ)). AllKeys (λ h. AreApart s (record { file = p.file; offset = h.offset; len = h.len })) k) held keys) in
        all_from_volume (λ x. are_clear false s x ≡ true) p.file (inventory c)
        (each_also (λ (x : ℕ × Segment). AreApart s (record { file = p.file; offset = x.1.offset; len = x.1.len })) (λ x. are_clear false s x.1 ≡ true) (segments_on p.file (inventory c)) (λ x h. (block_clear s x.1 h).0) all)

    freed_clear : AllByRecursion (λ f. ClearThere f.1) (freed (durable c) (unforced c))
    freed_clear =
        each_also (Contains (space c).freed) (λ f. ClearThere f.1) (freed (durable c) (unforced c))
        (λ f has.
        let noted : IsNoted claims.freed f.0 f.1 = is.noted f.0 f.1 has in
        let row = contained_holds (λ (x : ℕ × List Placed). AllByRecursion There x.1) claims.freed (f.0, noted.0) noted.2 (flat_each There claims.freed claimed_apart.2) in
        let one : There noted.1 = contained_holds There noted.0 noted.1 noted.3 row in
        λ same. (block_clear (segment_in p len) f.1 (subst (λ (x : Segment). x.file ≡ p.file → AreApart (segment_in p len) x) noted.4 one same)).0)
        (each_contained (space c).freed)

    random_clear : IsClear c number (segment_in p len)
    random_clear = (
      each_in_free number (segment_in p len) t.volume t.pool (durable c) (unforced c) valid_durable (steps_since p.file t.volume t.row) (ap (λ (v : Inv). row_at p.file v.stores.volumes) since ∙ t.row)
          (ap (λ (v : Inv). is_sequential number v.stores) since ∙ kind) (subst (λ (v : Inv). AllByRecursion ClearThere (all_segments v)) (sym since) copies_clear) freed_clear,
      λ sequential. absurd (false≢true (sym kind ∙ sequential)),
    )

    random_apart : AllByRecursion (λ u. AllByRecursion (λ r. r.file ≡ p.file → IsApartFrom c actor number (segment_in p len) u r) u.place.segments) c.tickets
    random_apart =
        both_segments (Either actor There There) (λ u r. LiesIn c u.place.pool r.file) (λ u r. r.file ≡ p.file → IsApartFrom c actor number (segment_in p len) u r)
        (λ u r either lies same. record {
          pool = sym (lies_there u.place.pool r.file same lies) ∙ t.pool;
          clear = ap (λ (b : Bool). are_clear b r (segment_in p len)) kind ∙ (block_clear (segment_in p len) r (either_there u r either same)).1;
          own = λ sequential. absurd (false≢true (sym kind ∙ sequential));
        }) (to_tickets There There claimed_apart.0 claimed_apart.1) numbers.lying
      where
        either_there : (u : Ticket) (r : Segment) → Either actor There There u r → r.file ≡ p.file → AreApart (segment_in p len) r
        either_there u r (inl h) same = h.1 same
        either_there u r (inr h) same = h same

        lies_there : (pool file : ℕ) → file ≡ p.file → LiesIn c pool file → t.volume.pool ≡ pool
        lies_there pool file same lies = subst (IsInPool c pool file) (ap (λ (n : ℕ). row_at n (inventory c).stores.volumes) same ∙ t.row) lies

    pub random_lawful : IsLawfulIn c actor number (segment_in p len)
    random_lawful =
        let on : IsVolume c p.file = row_volume c valid_now numbers p.file t.volume t.row in
        record {
          least = on.0;
          no_backup = on.2;
          drawn = on.3;
          lies = subst (IsInPool c number p.file) (sym t.row) t.pool;
          clear = random_clear;
          apart = random_apart;
          block = λ _. t.free.block;
        }

  -- ---- on sequential volumes

  -- a file that no database of the run has had
  absent_clear : (s : Segment) → IsNewFile c s.file → IsClear c number s
  absent_clear s unmade = (
    all_beside_absent number s (left_open c) (left_lawful c l)
        (later_databases (λ v. row_at s.file v.stores.volumes ≡ None) (length c.stamps) c.base c.journal (at_each (λ v. row_at s.file v.stores.volumes ≡ None) c.base c.journal unmade)),
    λ _. unwritten s (written s.file c) (end_at s.file (inventory c)) (written_absent c s.file l unmade) (omega (arith, none)),
  )
    where
      last : inv_at (length c.journal) c ≡ inventory c
      last = ap (after c.base) (take_all (length c.journal) c.journal (omega arith))

      none : end_at s.file (inventory c) ≡ 0
      none = ap (λ (v : Inv). end_at s.file v) (sym last) ∙ ap (λ (o : Option Volume). option_map_or (λ x. x.end) o 0) (unmade (length c.journal))

  pub scratch_lawful : (s : Segment) → is_sequential number (inventory c).stores ≡ true → c.next_file ≤ s.file → IsLawfulIn c actor number s
  scratch_lawful s kind le =
      let unmade : IsNewFile c s.file = scratch_absent c s.file l numbers le in
      let on = scratch_volume c s.file valid_now numbers le in
      record {
        least = on.0;
        no_backup = on.1;
        drawn = λ _. (on.2, unmade, scratch_unlisted c s.file l numbers le);
        lies = subst (IsInPool c number s.file) (sym (absent_now s.file unmade)) unmade;
        clear = absent_clear s unmade;
        apart = each_segment (λ u r. IsVolume c r.file) (λ u r. r.file ≡ s.file → IsApartFrom c actor number s u r) (λ u r volume same. absurd (omega (arith, volume.1, same, le))) numbers.files;
        block = λ random. absurd (false≢true (sym random ∙ kind));
      }
    where
      absent_now : (file : ℕ) → IsNewFile c file → row_at file (inventory c).stores.volumes ≡ None
      absent_now file unmade = ap (λ (es : List Entry). row_at file (after c.base es).stores.volumes) (sym (take_all (length c.journal) c.journal (omega arith))) ∙ unmade (length c.journal)

  -- ---- behind the end of a sequential volume

  known_tickets : AllByRecursion (λ u. AllByRecursion (λ r. IsKnown c r.file) u.place.segments) c.tickets
  known_tickets =
      both_segments (λ u r. IsVolume c r.file) (λ u r. LiesIn c u.place.pool r.file) (λ u r. IsKnown c r.file)
      (λ u r volume lies. record { volume = volume; unmade = λ absent. subst (IsInPool c u.place.pool r.file) absent lies }) numbers.files numbers.lying

  known_rows : AllByRecursion (IsKnown c) (keys_of (inventory c).stores.volumes)
  known_rows =
      let rows : List (ℕ × Volume) = (inventory c).stores.volumes in
      to_keys (IsKnown c) rows
      (each_also (λ (f : ℕ × Volume). row_at f.0 rows ≡ Some f.1) (λ f. IsKnown c f.0) rows
      (λ f row. record { volume = row_volume c valid_now numbers f.0 f.1 row; unmade = λ absent. absurd (false≢true (sym (ap is_some absent) ∙ ap is_some row)) }) (each_found rows sorted))

  known_sites : AllByRecursion (IsKnown c) (keys_of (sites (inventory c).stores (counted actor claims)))
  known_sites =
      keys_sites (IsKnown c) (inventory c).stores (counted actor claims) (of_own (λ q. IsKnown c q.segment.file) known_tickets) (of_others (λ q. IsKnown c q.segment.file) known_tickets) known_rows

  -- a new scratch volume's number is above those of all that are seen
  pub sites_below : AllByRecursion (λ k. k < claims.next_file) (keys_of (sites (inventory c).stores (counted actor claims)))
  sites_below =
      each_also (IsKnown c) (λ k. k < claims.next_file) (keys_of (sites (inventory c).stores (counted actor claims))) (λ k known. omega (arith, known.volume.1, is.next_file)) known_sites

  module _ (p : Piece) (len : ℕ) (kind : is_sequential number (inventory c).stores ≡ true) (t : IsTail number (counted actor claims) (inventory c).stores p) where
    known : IsKnown c p.file
    known =
        let all : List (ℕ × Site) = sites (inventory c).stores (counted actor claims) in
        each_there (λ (f : ℕ × Site). IsKnown c f.0) p.file t.site all t.row
        (by_rows (IsKnown c) all known_sites)

    -- where all tickets' segments there are of one pool, and the volume, so is what is seen of it
    seen_in_pool : (pool end : ℕ) → AllByRecursion (λ u. AllByRecursion (InPlace (OfPool pool p.file) u) u.place.segments) c.tickets → VolumeIn pool end p.file (inventory c).stores (row_at p.file (inventory c).stores.volumes)
        → (t.site.pool ≡ pool) × (end ≤ t.site.end)
    seen_in_pool pool end all row =
        subst (SiteIn pool end) t.row
        (site_in pool end p.file (inventory c).stores (counted actor claims) (of_own (OfPool pool p.file) all) (of_others (OfPool pool p.file) all) row)

    -- a volume that is there
    volume_seen : (volume : Volume) → row_at p.file (inventory c).stores.volumes ≡ Some volume → (t.site.pool ≡ volume.pool) × (volume.end ≤ t.site.end)
    volume_seen volume row =
        seen_in_pool volume.pool volume.end
        (each_segment (λ u r. LiesIn c u.place.pool r.file) (λ u r. InPlace (OfPool volume.pool p.file) u r)
        (λ u r lies same. sym (subst (IsInPool c u.place.pool r.file) (ap (λ (n : ℕ). row_at n (inventory c).stores.volumes) same ∙ row) lies)) numbers.lying)
        (subst (VolumeIn volume.pool volume.end p.file (inventory c).stores) (sym row) (refl, omega arith))

    -- the pool of each ticket that has space there
    pools_of : AllByRecursion (λ u. AllByRecursion (λ r. r.file ≡ p.file → u.place.pool ≡ number) u.place.segments) c.tickets
    pools_of =
        both_segments (λ u r. LiesIn c u.place.pool r.file) (λ u r. AllByRecursion (SamePool (u, r)) (all_space c.tickets)) (λ u r. r.file ≡ p.file → u.place.pool ≡ number)
        (λ u r lies alike same.
        let each = each_within (SamePool (u, r)) (λ (w : Ticket) (x : Segment). (w, x)) (λ w. w.place.segments) c.tickets alike in
        let all = each_segment (λ w x. SamePool (u, r) (w, x)) (λ w x. InPlace (OfPool u.place.pool p.file) w x) (λ w x h there. sym (h (same ∙ sym there))) each in
        let seen = seen_in_pool u.place.pool 0 all (row_in u.place.pool (row_at p.file (inventory c).stores.volumes) (subst (λ (n : ℕ). IsInPool c u.place.pool n (row_at n (inventory c).stores.volumes)) same lies)) in
        sym seen.0 ∙ t.pool)
        numbers.lying
        (each_within (λ a. AllByRecursion (SamePool a) (all_space c.tickets)) (λ (u : Ticket) (r : Segment). (u, r)) (λ u. u.place.segments) c.tickets
        (each_two (are_apart_in (inventory c)) SamePool (λ a same. refl) (λ a b h. same_pools (inventory c) a b h) (all_space c.tickets) clear.apart))
      where
        row_in : (pool : ℕ) (o : Option Volume) → IsInPool c pool p.file o → VolumeIn pool 0 p.file (inventory c).stores o
        row_in pool None lies = omega arith
        row_in pool (Some volume) lies = (lies, omega arith)

    abbrev Own : Placed → Type 0
    Own q = EndsBefore (sites (inventory c).stores (counted actor claims)) q

    abbrev Other : Placed → Type 0
    Other q = q.segment.file ≡ p.file → ⊥

    tail_apart : AllByRecursion (λ u. AllByRecursion (λ r. r.file ≡ p.file → IsApartFrom c actor number (segment_in p len) u r) u.place.segments) c.tickets
    tail_apart =
        both_segments (Either actor Own Other) (λ u r. r.file ≡ p.file → u.place.pool ≡ number) (λ u r. r.file ≡ p.file → IsApartFrom c actor number (segment_in p len) u r)
        (λ u r either pool same. record {
          pool = pool same;
          clear = ap (λ (b : Bool). are_clear b r (segment_in p len)) kind ∙ clear_before r (segment_in p len) (ends u r either same);
          own = λ _. own u r either same;
        })
        (to_tickets Own Other (own_end (inventory c).stores (counted actor claims)) (not_held p.file (counted actor claims).others t.unheld)) pools_of
      where
        own : (u : Ticket) (r : Segment) → Either actor Own Other u r → r.file ≡ p.file → (u.actor == actor) ≡ true
        own u r (inl h) same = h.0
        own u r (inr h) same = absurd (h same)

        ends : (u : Ticket) (r : Segment) → Either actor Own Other u r → r.file ≡ p.file → r.offset + 32 + r.len ≤ p.offset
        ends u r (inl h) same =
            let site : Site = h.1.0 in
            let at : row_at p.file (sites (inventory c).stores (counted actor claims)) ≡ Some site = ap (λ (n : ℕ). row_at n (sites (inventory c).stores (counted actor claims))) (sym same) ∙ h.1.1 in
            let one : t.site ≡ site = same_Some t.site site (sym t.row ∙ at) in
            let end : t.site.end ≡ site.end = ap (λ (x : Site). x.end) one in
            omega (arith, h.1.2, end, t.begins)
        ends u r (inr h) same = absurd (h same)

    lawful_with : IsClear c number (segment_in p len) → LiesIn c number p.file → IsLawfulIn c actor number (segment_in p len)
    lawful_with clean lies = record {
      least = known.volume.0;
      no_backup = known.volume.2;
      drawn = known.volume.3;
      lies = lies;
      clear = clean;
      apart = tail_apart;
      block = λ random. absurd (false≢true (sym random ∙ kind));
    }

    tail_by : (o : Option Volume) → row_at p.file (inventory c).stores.volumes ≡ o → IsLawfulIn c actor number (segment_in p len)
    tail_by None absent = lawful_with (absent_clear (segment_in p len) (known.unmade absent)) (subst (IsInPool c number p.file) (sym absent) (known.unmade absent))
    tail_by (Some volume) row =
        let seen = volume_seen volume row in
        let of : volume.pool ≡ number = sym seen.0 ∙ t.pool in
        let now : is_sequential volume.pool (inventory c).stores ≡ true = ap (λ (n : ℕ). is_sequential n (inventory c).stores) of ∙ kind in
        let end : end_at p.file (inventory c) ≡ volume.end = end_found p.file (inventory c) volume row in
        let behind : end_at p.file (inventory c) ≤ p.offset = omega (arith, end, seen.1, t.begins) in
        lawful_with (
          each_behind_end number (segment_in p len) volume of (durable c) (unforced c) valid_durable (steps_since p.file volume row) waiting (ap (λ (v : Inv). row_at p.file v.stores.volumes) since ∙ row)
              (ap (λ (v : Inv). is_sequential number v.stores) since ∙ kind) (subst (λ (v : Inv). end_at p.file v ≤ p.offset) (sym since) behind),
          λ _. unwritten (segment_in p len) (written p.file c) (end_at p.file (inventory c)) (written_there c p.file volume l numbers.none_back row now) behind,
        ) (subst (IsInPool c number p.file) (sym row) of)

    pub tail_lawful : IsLawfulIn c actor number (segment_in p len)
    tail_lawful = tail_by (row_at p.file (inventory c).stores.volumes) refl

  -- ---- each piece

  pub found_lawful : (p : Piece) (len : ℕ) → len ≤ p.room → (o : Option ℕ) → pool_capacity number (inventory c).stores ≡ o → IsFound o number claims.next_file (counted actor claims) (inventory c).stores p
      → IsLawfulIn c actor number (segment_in p len)
  found_lawful p len fits None kind t = random_lawful p len fits (ap is_some kind) t
  found_lawful p len fits (Some capacity) kind (inl t) = tail_lawful p len (ap is_some kind) t
  found_lawful p len fits (Some capacity) kind (inr t) = scratch_lawful (segment_in p len) (ap is_some kind) (omega (arith, is.next_file, t.drawn))
