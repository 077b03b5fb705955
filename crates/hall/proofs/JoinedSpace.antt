-- The space of tickets, behind a transaction that joined.
use Rattle.std.proofs.Common.{◌≡◌, ◌⊎◌, inl, inr, ℕ, ◌≤◌, ◌&&◌, ◌||◌, Bool, true, false, not, List, [], ◌∷◌, ◌++◌, length, map, is_some, refl, sym, ap, subst, ◌∙◌, if◌then◌else◌}
use Rattle.std.specs.Prelude.{◌==◌, nat_le}
use Rattle.std.specs.List.{AllByRecursion, Contains, list_all, list_any}
use Rattle.std.proofs.lemmas.Bool.{and_from, and_parts, eq-eqb, eqb-true, false≢true}
use Rattle.kinds.specs.declared.segment.Segment.{Segment}
use Rattle.entries.specs.declared.change.Change.{Change}
use Rattle.entries.specs.declared.change.Change.TheVariants as change
use Rattle.entries.specs.declared.entry.Entry.{Entry}
use Rattle.inventory_rows.specs.version_groups.declared.copies.CopyRow.{CopyRow}
use Rattle.inventory_rows.specs.version_groups.Entries.{all_later}
use Rattle.inventory_rows.specs.pool_rows.PoolRows.{is_sequential}
use Rattle.inventory_rows.specs.Search.{copies, pool, segments_on, versions}
use Rattle.inventory_rows.specs.State.{Inv}
use Rattle.inventory_rules.specs.Facts.{Facts}
use Rattle.inventory_rules.specs.Segments.{are_clear}
use Rattle.inventory_rules.specs.Transactions.{effect}
use Rattle.inventory_rules.specs.Valid.{high_of, low_of}
use Rattle.inventory_laws.specs.Origins.{placed_segments}
use Rattle.inventory_laws.specs.Rising.{is_reuse}
use Rattle.inventory_laws.proofs.Facts.{facts_of}
use Rattle.inventory_laws.proofs.Lists.{all_from, all_of, each_also}
use Rattle.inventory_laws.proofs.Origins.{contained_holds, each_contained}
use Rattle.contents.proofs.Segments.{EachSegment, each_on}
use Rattle.machine.specs.Machine.{all_segments, is_same_segment, left_by}
use Rattle.machine.specs.State.{Core, Ticket, after, inventory, is_among, without}
use Rattle.hall.specs.Covered.{IsClear, IsFilled, NumbersAreDrawn, SpaceIsClear, Written, all_space, are_apart_in, came, is_beside, is_unwritten, left_open, with_segments, written, written_before, written_over}
use Rattle.hall.specs.Good.{IsLawful}
use Rattle.hall.proofs.ComeFrom.{all_on, back_copies, each_copy, segments_behind}
use Rattle.hall.proofs.Databases.{last_left}
use Rattle.hall.proofs.DrawnNext.{KeepsBackup}
use Rattle.hall.proofs.Joining.{IsPlacedBy, Joins, Spent, behind, entry_of, inventory_last, last, left_last, valid_now}
use Rattle.hall.proofs.Lists.{each_kept, later_kept, pairs_kept}
use Rattle.hall.proofs.Pairs.{Pair, each_appended, each_filtered, each_flat, each_in, each_passing, each_two}
use Rattle.hall.proofs.PoolsStay.{KeepsPool, pool_alike}
use Rattle.hall.proofs.SamePool.{apart_parts, space_pairs}
use Rattle.hall.proofs.VolumesStay.{KeepsVolume}

-- ---- what was written

pub written_end : (file : ℕ) (w : Written) (v : Inv) (es : List Entry) (e : Entry) → is_reuse file e.change ≡ false
    → written_over file w v (es ++ (e ∷ [])) ≡ (let old = written_over file w v es in record { floor = old.floor; segments = old.segments ++ came file (after v es) (effect e.change (after v es)) })
written_end file w v [] e plain = ap (λ b. if b then record { floor = 0; segments = [] } else record { floor = w.floor; segments = w.segments ++ came file v (effect e.change v) }) plain
written_end file w v (x ∷ es) e plain =
    written_end file (if is_reuse file x.change then record { floor = 0; segments = [] } else record { floor = w.floor; segments = w.segments ++ came file v (effect x.change v) }) (effect x.change v) es e plain

-- a volume that is kept isn't reused
not_reused : (file : ℕ) (x : Change) (v : Inv) → KeepsVolume file x v → is_reuse file x ≡ false
not_reused file (change.Reuse k) v keeps = go (file == k) refl where
  go : (b : Bool) → (file == k) ≡ b → (file == k) ≡ false
  go true is = absurd (keeps (sym (eqb-true file k is)))
  go false isnt = isnt
not_reused file x v keeps = refl

-- ---- two segments

turned : (q : Bool) (a b : Segment) → are_clear q a b ≡ true → are_clear q b a ≡ true
turned q a b h = go (nat_le (high_of q a) (low_of q b)) (nat_le (high_of q b) (low_of q a)) h where
  go : (x y : Bool) → (x || y) ≡ true → (y || x) ≡ true
  go true true h = refl
  go true false h = refl
  go false true h = refl
  go false false h = h

module _ (actor : ℕ) (x : Change) (numbers : List ℕ) (c : Core) (l : IsLawful c) (j : Joins actor x numbers c) (n : NumbersAreDrawn c) (space : SpaceIsClear c) (few : length c.stamps ≤ length c.journal) where
  abbrev now : Inv
  now = inventory c

  abbrev next : Inv
  next = behind actor x numbers c

  facts : Facts now
  facts = facts_of now (valid_now c l)

  abbrev stays : Ticket → Bool
  stays t = not (is_among actor numbers t)

  -- what is asked of a ticket's pool
  abbrev HasPool : Ticket → Type 0
  HasPool t = KeepsPool t.place.pool x now × (is_some (pool t.place.pool now) ≡ true)

  all_pools : AllByRecursion HasPool c.tickets
  all_pools = each_two (λ t. KeepsPool t.place.pool x now) (λ t. is_some (pool t.place.pool now) ≡ true) c.tickets j.pools n.pools

  sequential_so : (t : Ticket) → HasPool t → is_sequential t.place.pool next.stores ≡ is_sequential t.place.pool now.stores
  sequential_so t h = ap is_some (pool_alike now facts t.place.pool h.1 x h.0).capacity

  -- ---- a kept ticket's segments and a spent one's

  abbrev InSpace : Ticket → Segment → Type 0
  InSpace t s = AllByRecursion (λ u. AllByRecursion (λ r. Pair (are_apart_in now) (t, s) (u, r)) u.place.segments) c.tickets

  all_apart : AllByRecursion (λ t. AllByRecursion (InSpace t) t.place.segments) c.tickets
  all_apart = space_pairs c space

  module _ (u : Ticket) (here : Contains c.tickets u) (isnt : is_among actor numbers u ≡ false) (r : Segment) (mine : InSpace u r) where
    abbrev Beside : Segment → Type 0
    Beside s = s.file ≡ r.file → are_clear (is_sequential u.place.pool now.stores) r s ≡ true

    clear_of : (t : Ticket) → Spent actor numbers c t → (s : Segment) → Pair (are_apart_in now) (u, r) (t, s) → Beside s
    clear_of t spends s (inl e) same = absurd (false≢true (sym isnt ∙ (ap (λ (a : Ticket × Segment). is_among actor numbers a.0) e ∙ spends.among)))
    clear_of t spends s (inr (inl h)) same = (apart_parts now u t r s h (sym same)).1
    clear_of t spends s (inr (inr h)) same =
        let p = apart_parts now t u s r h same in
        turned (is_sequential u.place.pool now.stores) s r (subst (λ k. are_clear (is_sequential k now.stores) s r ≡ true) p.0 p.1)

    of_spent : (t : Ticket) → Spent actor numbers c t → AllByRecursion Beside t.place.segments
    of_spent t spends =
        each_also (λ s. Pair (are_apart_in now) (u, r) (t, s)) Beside t.place.segments (λ s p. clear_of t spends s p)
        (contained_holds (λ t. AllByRecursion (λ s. Pair (are_apart_in now) (u, r) (t, s)) t.place.segments) c.tickets t spends.there mine)

    placed : AllByRecursion (λ (e : ℕ × List Segment). AllByRecursion Beside e.1) (placed_segments x)
    placed =
        each_also (λ (e : ℕ × List Segment). (t : Ticket) × Spent actor numbers c t × IsPlacedBy c t e) (λ (e : ℕ × List Segment). AllByRecursion Beside e.1) (placed_segments x)
        (λ e from. subst (λ segments. AllByRecursion Beside segments) from.2.segments (of_spent from.0 from.1)) j.places

    -- beside every copy behind it
    beside_then : HasPool u → is_beside u.place.pool r now ≡ true → is_beside u.place.pool r next ≡ true
    beside_then has before =
        subst (λ q. list_all (λ e. are_clear q r e.1) (segments_on r.file next) ≡ true) (sym (sequential_so u has))
        (all_on (are_clear (is_sequential u.place.pool now.stores) r) r.file next
        (segments_behind Beside x now (each_on (are_clear (is_sequential u.place.pool now.stores) r) r.file now before) placed))

    -- beside what comes
    abbrev OldOrBeside : Segment → Type 0
    OldOrBeside s = (list_any (is_same_segment s) (all_segments now) ≡ true) ⊎ Beside s

    is_old : (s : Segment) (list : List Segment) → Contains list s → list_any (is_same_segment s) list ≡ true
    is_old s list there = elim (list_any (is_same_segment s) list) as (λ b. list_any (is_same_segment s) list ≡ b → b ≡ true) [
      | true ↦ λ _. refl
      | false ↦ λ none. absurd (false≢true (sym (contained_holds (λ y. is_same_segment s y ≡ false) list s there (none_of list none)) ∙ itself s))
    ] refl
      where
        itself : (s : Segment) → is_same_segment s s ≡ true
        itself s = and_from (s.file == s.file) _ (eq-eqb s.file s.file refl) (and_from (s.offset == s.offset) (s.len == s.len) (eq-eqb s.offset s.offset refl) (eq-eqb s.len s.len refl))

        none_of : (list : List Segment) → list_any (is_same_segment s) list ≡ false → AllByRecursion (λ y. is_same_segment s y ≡ false) list
        none_of [] h = tt
        none_of (y ∷ list) h = elim (is_same_segment s y) as (λ b. is_same_segment s y ≡ b → (b || list_any (is_same_segment s) list) ≡ false → (is_same_segment s y ≡ false) × AllByRecursion (λ y. is_same_segment s y ≡ false) list) [
          | true ↦ λ is h. absurd (false≢true (sym h))
          | false ↦ λ is h. (is, none_of list h)
        ] refl h

    came_beside : AllByRecursion (λ s. are_clear (is_sequential u.place.pool now.stores) r s ≡ true) (came r.file now next)
    came_beside =
        each_filtered (λ s. are_clear (is_sequential u.place.pool now.stores) r s ≡ true) (λ (s : Segment). s.file == r.file) (left_by next now)
        (each_filtered (λ (s : Segment). (s.file == r.file) ≡ true → are_clear (is_sequential u.place.pool now.stores) r s ≡ true) (λ s. not (list_any (is_same_segment s) (all_segments now))) (all_segments next)
        (each_flat (λ (s : Segment). not (list_any (is_same_segment s) (all_segments now)) ≡ true → (s.file == r.file) ≡ true → are_clear (is_sequential u.place.pool now.stores) r s ≡ true)
        (λ (e : ℕ × CopyRow). e.1.segments) (copies next)
        (each_also (λ (e : ℕ × CopyRow). AllByRecursion OldOrBeside e.1.segments)
        (λ (e : ℕ × CopyRow). AllByRecursion (λ (s : Segment). not (list_any (is_same_segment s) (all_segments now)) ≡ true → (s.file == r.file) ≡ true → are_clear (is_sequential u.place.pool now.stores) r s ≡ true) e.1.segments)
        (copies next)
        (λ e all. each_also OldOrBeside (λ (s : Segment). not (list_any (is_same_segment s) (all_segments now)) ≡ true → (s.file == r.file) ≡ true → are_clear (is_sequential u.place.pool now.stores) r s ≡ true) e.1.segments pick all)
        (each_copy OldOrBeside next (segments_behind OldOrBeside x now old
        (each_also (λ (e : ℕ × List Segment). AllByRecursion Beside e.1) (λ (e : ℕ × List Segment). AllByRecursion OldOrBeside e.1) (placed_segments x)
        (λ e all. each_also Beside OldOrBeside e.1 (λ s b. inr b) all) placed))))))
      where
        pick : (s : Segment) → OldOrBeside s → not (list_any (is_same_segment s) (all_segments now)) ≡ true → (s.file == r.file) ≡ true → are_clear (is_sequential u.place.pool now.stores) r s ≡ true
        pick s (inl is) new at = absurd (false≢true (sym (ap not is) ∙ new))
        pick s (inr b) new at = b (eqb-true s.file r.file at)

        in_copies : AllByRecursion (λ (e : ℕ × CopyRow). AllByRecursion (Contains (all_segments now)) e.1.segments) (copies now)
        in_copies = each_in (λ (e : ℕ × CopyRow). e.1.segments) (copies now)

        old : EachSegment OldOrBeside (versions now)
        old = back_copies (λ s. OldOrBeside s) (versions now)
            (each_also (λ (e : ℕ × CopyRow). AllByRecursion (Contains (all_segments now)) e.1.segments) (λ (e : ℕ × CopyRow). AllByRecursion OldOrBeside e.1.segments) (copies now)
            (λ e all. each_also (Contains (all_segments now)) OldOrBeside e.1.segments (λ s there. inl (is_old s (all_segments now) there)) all) in_copies)

    unwritten_then : HasPool u → KeepsVolume r.file x now → (is_sequential u.place.pool now.stores ≡ true → is_unwritten r (written r.file c) ≡ true)
        → is_sequential u.place.pool next.stores ≡ true → is_unwritten r (written r.file (last actor x numbers c)) ≡ true
    unwritten_then has keeps before q =
        let seq : is_sequential u.place.pool now.stores ≡ true = sym (sequential_so u has) ∙ q in
        let was = and_parts (nat_le (written r.file c).floor r.offset) (list_all (are_clear true r) (written r.file c).segments) (before seq) in
        subst (λ w. is_unwritten r w ≡ true) (sym (written_end r.file (written_before r.file c.base) c.base c.journal (entry_of actor x numbers c) (not_reused r.file x now keeps)))
        (and_from (nat_le (written r.file c).floor r.offset) (list_all (are_clear true r) ((written r.file c).segments ++ came r.file now next)) was.0
        (all_from (are_clear true r) ((written r.file c).segments ++ came r.file now next)
        (each_appended (λ s. are_clear true r s ≡ true) (written r.file c).segments (came r.file now next)
        (all_of (are_clear true r) (written r.file c).segments was.1)
        (subst (λ q. AllByRecursion (λ s. are_clear q r s ≡ true) (came r.file now next)) seq came_beside))))

    clear_then : HasPool u → KeepsVolume r.file x now → IsClear c u.place.pool r → IsClear (last actor x numbers c) u.place.pool r
    clear_then has keeps clear = (
      subst (λ list. AllByRecursion (λ v. is_beside u.place.pool r v ≡ true) list) (sym (left_last actor x numbers c few))
          (each_appended (λ v. is_beside u.place.pool r v ≡ true) (left_open c) (next ∷ []) clear.0
          (beside_then has (last_left (λ v. is_beside u.place.pool r v ≡ true) c clear.0), tt)),
      (λ q. unwritten_then has keeps clear.1 (subst (λ v. is_sequential u.place.pool v.stores ≡ true) (inventory_last actor x numbers c) q)),
    )

  -- ---- the space of all tickets

  -- two segments that are apart are so behind it
  apart_so : (a b : Ticket × Segment) → HasPool a.0 → are_apart_in now a b ≡ true → are_apart_in next a b ≡ true
  apart_so a b has h = subst (λ q. (not (a.1.file == b.1.file) || (a.0.place.pool == b.0.place.pool && (are_clear q a.1 b.1 && (not q || a.0.actor == b.0.actor)))) ≡ true) (sym (sequential_so a.0 has)) h

  later_so : (list : List (Ticket × Segment)) → AllByRecursion (λ a. HasPool a.0) list → all_later (are_apart_in now) list ≡ true → all_later (are_apart_in next) list ≡ true
  later_so [] has h = refl
  later_so (a ∷ list) has h =
      let parts = and_parts (list_all (are_apart_in now a) list) (all_later (are_apart_in now) list) h in
      and_from (list_all (are_apart_in next a) list) (all_later (are_apart_in next) list)
      (all_from (are_apart_in next a) list (each_also (λ b. are_apart_in now a b ≡ true) (λ b. are_apart_in next a b ≡ true) list (λ b is. apart_so a b has.0 is) (all_of (are_apart_in now a) list parts.0)))
      (later_so list has.1 parts.1)

  apart_then : all_later (are_apart_in next) (all_space (without actor numbers c.tickets)) ≡ true
  apart_then =
      ap (all_later (are_apart_in next)) (pairs_kept (λ (t : Ticket). t.place.segments) stays c.tickets)
      ∙ later_kept (are_apart_in next) (λ (e : Ticket × Segment). stays e.0) (all_space c.tickets)
      (later_so (all_space c.tickets)
      (each_flat (λ (a : Ticket × Segment). HasPool a.0) with_segments c.tickets
      (each_also HasPool (λ t. AllByRecursion (λ (a : Ticket × Segment). HasPool a.0) (with_segments t)) c.tickets (λ t has. same_with t t.place.segments has) all_pools)) space.apart)
    where
      same_with : (t : Ticket) (segments : List Segment) → HasPool t → AllByRecursion (λ (a : Ticket × Segment). HasPool a.0) (map (λ s. (t, s)) segments)
      same_with t [] has = tt
      same_with t (s ∷ segments) has = (has, same_with t segments has)

  clear_ticket : (t : Ticket) → Contains c.tickets t → is_among actor numbers t ≡ false → AllByRecursion (InSpace t) t.place.segments → HasPool t → AllByRecursion (IsClear c t.place.pool) t.place.segments
      → AllByRecursion (IsClear (last actor x numbers c) t.place.pool) t.place.segments
  clear_ticket t there isnt apart has clear =
      each_also (λ s. (KeepsVolume s.file x now × KeepsBackup s.file x) × (InSpace t s × IsClear c t.place.pool s)) (IsClear (last actor x numbers c) t.place.pool) t.place.segments
      (λ s h. clear_then t there isnt s h.1.0 has h.0.0 h.1.1)
      (each_two (λ s. KeepsVolume s.file x now × KeepsBackup s.file x) (λ s. InSpace t s × IsClear c t.place.pool s) t.place.segments
      (contained_holds (λ (t : Ticket). AllByRecursion (λ s. KeepsVolume s.file x now × KeepsBackup s.file x) t.place.segments) c.tickets t there j.volumes)
      (each_two (InSpace t) (IsClear c t.place.pool) t.place.segments apart clear))

  pub space_joined : SpaceIsClear (last actor x numbers c)
  space_joined = record {
    filled = each_kept IsFilled stays c.tickets space.filled;
    clear =
        each_also (λ (t : Ticket). ((Contains c.tickets t × AllByRecursion (InSpace t) t.place.segments) × (HasPool t × AllByRecursion (IsClear c t.place.pool) t.place.segments)) × (stays t ≡ true))
        (λ t. AllByRecursion (IsClear (last actor x numbers c) t.place.pool) t.place.segments) (without actor numbers c.tickets)
        (λ t h. clear_ticket t h.0.0.0 (not_true_is t h.1) h.0.0.1 h.0.1.0 h.0.1.1)
        (each_passing (λ (t : Ticket). (Contains c.tickets t × AllByRecursion (InSpace t) t.place.segments) × (HasPool t × AllByRecursion (IsClear c t.place.pool) t.place.segments)) stays c.tickets
        (each_two (λ t. Contains c.tickets t × AllByRecursion (InSpace t) t.place.segments) (λ t. HasPool t × AllByRecursion (IsClear c t.place.pool) t.place.segments) c.tickets
        (each_two (Contains c.tickets) (λ t. AllByRecursion (InSpace t) t.place.segments) c.tickets (each_contained c.tickets) all_apart)
        (each_two HasPool (λ t. AllByRecursion (IsClear c t.place.pool) t.place.segments) c.tickets all_pools space.clear)));
    apart = subst (λ v. all_later (are_apart_in v) (all_space (without actor numbers c.tickets)) ≡ true) (sym (inventory_last actor x numbers c)) apart_then;
  }
    where
      not_true_is : (t : Ticket) → stays t ≡ true → is_among actor numbers t ≡ false
      not_true_is t h = elim (is_among actor numbers t) as (λ b. not b ≡ true → b ≡ false) [ true ↦ λ no. absurd (false≢true no) | false ↦ λ _. refl ] h
