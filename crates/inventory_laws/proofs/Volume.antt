-- One volume on which a segment comes, or from which one goes.
use Rattle.std.proofs.Common.{◌≡◌, ℕ, ◌+◌, ◌%◌, ◌≤◌, max, Bool, true, false, cond, not, ◌&&◌, ◌||◌, List, [], ◌∷◌, Option, Some, is_some, is_none, refl, sym, ap, ◌∙◌, arith}
use Rattle.std.specs.Prelude.{◌==◌, nat_le}
use Rattle.std.specs.List.{list_all}
use Rattle.std.specs.Option.{option_map_or}
use Rattle.std.proofs.lemmas.Bool.{and_parts, and_from, leb-true, le-leb, ne_eqb, not_from_false}
use Rattle.kinds.specs.declared.segment.Segment.{Segment}
use Rattle.inventory_rules.specs.inventory_rows.version_groups.Entries.{is_nil}
use Rattle.inventory_rules.specs.inventory_rows.volume_rows.declared.volume.Volume.{Volume}
use Rattle.inventory_rules.specs.inventory_rows.volume_rows.declared.held.HeldSegment.{HeldSegment}
use Rattle.inventory_rules.specs.inventory_rows.volume_rows.Held.{held_of}
use Rattle.inventory_rules.specs.inventory_rows.volume_rows.Holdings.{is_bare, with_segment, without_segment}
use Rattle.inventory_rules.specs.inventory_rows.volume_rows.Volumes.{put_on, take_from}
use Rattle.inventory_rules.specs.Held.{holding}
use Rattle.inventory_rules.specs.Valid.{are_disjoint, high_of, low_of, is_emptied_rightly, is_format_size, is_placed, may_have}
use Rattle.inventory_rules.specs.Segments.{are_clear}
use Rattle.inventory_rules.specs.Reordered.{IsReordered}
use Rattle.inventory_laws.proofs.Holding.{is_bare-holding, without-with}
use Rattle.inventory_laws.proofs.Orders.{list_all-reordered, is_nil-reordered, all_later-reordered}
use Rattle.inventory_laws.proofs.VolumeRows.{all_so}

abbrev pub sized : Bool → Option ℕ → Volume → Bool
sized true class volume = option_map_or (λ capacity. volume.capacity == capacity) class false && nat_le volume.end volume.capacity
sized false class volume = is_format_size volume.capacity && (volume.end == 0 && not volume.scratch)

-- what a volume is, where it is sequential or not, its class has this capacity, and its pool is primary or not
pub record Fits (sequential : Bool) (class : Option ℕ) (primary : Bool) (there : List (ℕ × Segment)) (volume : Volume) : Type 0 where
  pub sized : sized sequential class volume ≡ true
  pub access : may_have volume.access primary ≡ true
  pub disjoint : are_disjoint sequential there ≡ true
  pub placed : list_all (λ e. is_placed sequential volume e.1) there ≡ true
  pub emptied : is_emptied_rightly sequential volume there ≡ true

-- ---- other orders

or_turns : (a b : Bool) → (a || b) ≡ (b || a)
or_turns true true = refl
or_turns true false = refl
or_turns false true = refl
or_turns false false = refl

pub clear-flips : (sequential : Bool) (a b : Segment) → are_clear sequential a b ≡ are_clear sequential b a
clear-flips sequential a b = or_turns (nat_le (high_of sequential a) (low_of sequential b)) (nat_le (high_of sequential b) (low_of sequential a))

pub disjoint-reordered : (sequential : Bool) (xs ys : List (ℕ × Segment)) → IsReordered xs ys → are_disjoint sequential xs ≡ are_disjoint sequential ys
disjoint-reordered sequential xs ys r = all_later-reordered (λ (a b : ℕ × Segment). are_clear sequential a.1 b.1) (λ a b. clear-flips sequential a.1 b.1) xs ys r

pub fits_reordered : (sequential : Bool) (class : Option ℕ) (primary : Bool) (xs ys : List (ℕ × Segment)) (volume : Volume) → IsReordered xs ys → Fits sequential class primary xs volume → Fits sequential class primary ys volume
fits_reordered sequential class primary xs ys volume r f = record {
  sized = f.sized;
  access = f.access;
  disjoint = sym (disjoint-reordered sequential xs ys r) ∙ f.disjoint;
  placed = sym (list_all-reordered (λ (e : ℕ × Segment). is_placed sequential volume e.1) xs ys r) ∙ f.placed;
  emptied = ap (λ b. cond (sequential && (not (volume.end == 0) && b)) (is_some volume.emptied) (is_none volume.emptied)) (sym (is_nil-reordered xs ys r)) ∙ f.emptied;
}

-- ---- a segment comes

none_behind : (b : Bool) → cond (b && false) false true ≡ true
none_behind true = refl
none_behind false = refl

pub put_fits : (sequential : Bool) (class : Option ℕ) (primary : Bool) (there : List (ℕ × Segment)) (object : ℕ) (s : Segment) (volume : Volume)
    → nat_le (s.offset + 32 + s.len) volume.capacity ≡ true → (sequential || s.offset % 4096 == 0) ≡ true → list_all (λ e. are_clear sequential s e.1) there ≡ true
    → Fits sequential class primary there volume → Fits sequential class primary ((object, s) ∷ there) (put_on sequential (held_of object s) volume)
put_fits true class primary there object s volume within block clear f =
    let end : ℕ = max volume.end (s.offset + 32 + s.len) in
    let parts = and_parts (option_map_or (λ capacity. volume.capacity == capacity) class false) (nat_le volume.end volume.capacity) f.sized in
    let low : volume.end ≤ volume.capacity = leb-true volume.end volume.capacity parts.1 in
    let high : s.offset + 32 + s.len ≤ volume.capacity = leb-true (s.offset + 32 + s.len) volume.capacity within in
    record {
      sized = and_from (option_map_or (λ capacity. volume.capacity == capacity) class false) (nat_le end volume.capacity) parts.0 (le-leb end volume.capacity (omega arith));
      access = f.access;
      disjoint = and_from (list_all (λ e. are_clear true s e.1) there) (are_disjoint true there) clear f.disjoint;
      placed =
          and_from (nat_le (s.offset + 32 + s.len) end && true) (list_all (λ e. is_placed true (put_on true (held_of object s) volume) e.1) there)
          (and_from (nat_le (s.offset + 32 + s.len) end) true (le-leb (s.offset + 32 + s.len) end (omega arith)) refl)
          (all_so (λ e. is_placed true volume e.1) (λ e. is_placed true (put_on true (held_of object s) volume) e.1) (λ e h. still_placed e.1 h) there f.placed);
      emptied = none_behind (not (end == 0));
    }
  where
    still_placed : (t : Segment) → is_placed true volume t ≡ true → is_placed true (put_on true (held_of object s) volume) t ≡ true
    still_placed t h =
        let under : t.offset + 32 + t.len ≤ volume.end = leb-true (t.offset + 32 + t.len) volume.end (and_parts (nat_le (t.offset + 32 + t.len) volume.end) true h).0 in
        and_from (nat_le (t.offset + 32 + t.len) (max volume.end (s.offset + 32 + s.len))) true (le-leb (t.offset + 32 + t.len) (max volume.end (s.offset + 32 + s.len)) (omega arith)) refl
put_fits false class primary there object s volume within block clear f = record {
  sized = f.sized;
  access = f.access;
  disjoint = and_from (list_all (λ e. are_clear false s e.1) there) (are_disjoint false there) clear f.disjoint;
  placed =
      and_from (is_placed false volume s) (list_all (λ e. is_placed false volume e.1) there) (and_from (nat_le (s.offset + 32 + s.len) volume.capacity) (s.offset % 4096 == 0) within block) f.placed;
  emptied = f.emptied;
}

pub put_holds : (sequential : Bool) (there : List (ℕ × Segment)) (object : ℕ) (s : Segment) (volume : Volume) → volume.segments ≡ holding there → (put_on sequential (held_of object s) volume).segments ≡ holding ((object, s) ∷ there)
put_holds true there object s volume h = ap (with_segment (held_of object s)) h
put_holds false there object s volume h = ap (with_segment (held_of object s)) h

-- ---- a segment goes

pub take_holds : (sequential : Bool) (there : List (ℕ × Segment)) (object : ℕ) (s : Segment) (today : ℕ) (volume : Volume) → volume.segments ≡ holding ((object, s) ∷ there) → (take_from sequential (held_of object s) today volume).segments ≡ holding there
take_holds sequential there object s today volume h = ap (without_segment (held_of object s)) h ∙ without-with (held_of object s) (holding there)

day_of : (written : Bool) (there : List (ℕ × Segment)) (today : ℕ) (old : Option ℕ) → written ≡ true → is_none old ≡ true
    → cond (written && is_nil there) (is_some (cond (is_nil there) (Some today) old)) (is_none (cond (is_nil there) (Some today) old)) ≡ true
day_of written [] today old h n = ap (λ b. cond (b && true) true false) h
day_of written (x ∷ xs) today old h n = ap (λ b. cond (b && false) (is_some old) (is_none old)) h ∙ n

pub take_fits : (sequential : Bool) (class : Option ℕ) (primary : Bool) (there : List (ℕ × Segment)) (object : ℕ) (s : Segment) (today : ℕ) (volume : Volume)
    → volume.segments ≡ holding ((object, s) ∷ there) → Fits sequential class primary ((object, s) ∷ there) volume → Fits sequential class primary there (take_from sequential (held_of object s) today volume)
take_fits true class primary there object s today volume held f =
    let placed = and_parts (is_placed true volume s) (list_all (λ e. is_placed true volume e.1) there) f.placed in
    let under : s.offset + 32 + s.len ≤ volume.end = leb-true (s.offset + 32 + s.len) volume.end (and_parts (nat_le (s.offset + 32 + s.len) volume.end) true placed.0).0 in
    let written : not (volume.end == 0) ≡ true = not_from_false (volume.end == 0) (ne_eqb volume.end 0 (omega arith)) in
    let undated : is_none volume.emptied ≡ true = sym (ap (λ b. cond (b && false) (is_some volume.emptied) (is_none volume.emptied)) written) ∙ f.emptied in
    let left : is_bare (without_segment (held_of object s) volume.segments) ≡ is_nil there = ap is_bare (take_holds true there object s today volume held) ∙ is_bare-holding there in
    record {
      sized = f.sized;
      access = f.access;
      disjoint = (and_parts (list_all (λ e. are_clear true s e.1) there) (are_disjoint true there) f.disjoint).1;
      placed = placed.1;
      emptied =
          ap (λ b. cond (not (volume.end == 0) && is_nil there) (is_some (cond b (Some today) volume.emptied)) (is_none (cond b (Some today) volume.emptied))) left
          ∙ day_of (not (volume.end == 0)) there today volume.emptied written undated;
    }
take_fits false class primary there object s today volume held f = record {
  sized = f.sized;
  access = f.access;
  disjoint = (and_parts (list_all (λ e. are_clear false s e.1) there) (are_disjoint false there) f.disjoint).1;
  placed = (and_parts (is_placed false volume s) (list_all (λ e. is_placed false volume e.1) there) f.placed).1;
  emptied = f.emptied;
}

-- ---- days

pub put_by : (sequential : Bool) (s : HeldSegment) (today : ℕ) (volume : Volume) → option_map_or (λ day. nat_le day today) volume.emptied true ≡ true → option_map_or (λ day. nat_le day today) (put_on sequential s volume).emptied true ≡ true
put_by true s today volume h = refl
put_by false s today volume h = h

pub take_by : (sequential : Bool) (s : HeldSegment) (today : ℕ) (volume : Volume) → option_map_or (λ day. nat_le day today) volume.emptied true ≡ true → option_map_or (λ day. nat_le day today) (take_from sequential s today volume).emptied true ≡ true
take_by true s today volume h =
    elim (is_bare (without_segment s volume.segments)) as (λ b. option_map_or (λ day. nat_le day today) (cond b (Some today) volume.emptied) true ≡ true) [
      | true ↦ le-leb today today (omega arith)
      | false ↦ h
    ]
take_by false s today volume h = h
