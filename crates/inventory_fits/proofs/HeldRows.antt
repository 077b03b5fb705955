-- What is said of all segments on a volume, and of any two of them, is said of those that its row holds.
use Rattle.std.proofs.Common.{◌≡◌, ℕ, ◌+◌, Bool, true, false, cond, ◌&&◌, ◌||◌, nat_le, List, [], ◌∷◌, Some, None, refl, sym, ap, ◌∙◌}
use Rattle.std.specs.List.{list_all}
use Rattle.std.specs.Map.{lookup, set_value}
use Rattle.std.specs.BTreeMap.{insert_entry, is_at}
use Rattle.std.specs.Ordering.{match_ordering, is_eq}
use Rattle.std.specs.declared.cmp.Ordering.{Ordering}
use Rattle.std.specs.declared.cmp.Ordering.TheVariants.{Less, Equal, Greater}
use Rattle.kinds.specs.declared.segment.Segment.{Segment}
use Rattle.entries.specs.change_items.declared.items.MovedCopy.{MovedCopy}
use Rattle.inventory_rows.specs.version_groups.Entries.{all_later}
use Rattle.inventory_rows.specs.volume_rows.declared.held.HeldSegment.{HeldSegment}
use Rattle.inventory_rows.specs.volume_rows.Held.{held_of, held_cmp}
use Rattle.inventory_rows.specs.volume_rows.Holdings.{repeats_of, raised, with_segment}
use Rattle.inventory_rows.proofs.of_volume_rows.Segments.{held_same}
use Rattle.inventory_rules.specs.Held.{holding}
use Rattle.inventory_rules.specs.Valid.{high_of, low_of, are_disjoint}
use Rattle.inventory_rules.specs.Segments.{are_clear, leaves}
use Rattle.inventory_laws.proofs.Facts.{first, rest, both}
use Rattle.inventory_fits.specs.Frames.{frame_of, is_clear_after, are_held_apart}

swapped : (a b c : Bool) → (a && (b && c)) ≡ (b && (a && c))
swapped true b c = refl
swapped false true c = refl
swapped false false c = refl

module _ {K X : Type 0} (p : K → Bool) where
  abbrev keys_pass : List (K × X) → Bool
  keys_pass es = list_all (λ e. p e.0) es

  -- a key that is found passes where all do
  found_passes : (test : K → Bool) (k : K) (same : (q : K) → test q ≡ true → q ≡ k) (es : List (K × X)) (v : X) → lookup test es ≡ Some v → (p k && keys_pass es) ≡ keys_pass es
  found_passes test k same [] v h = absurd cc
  found_passes test k same (e ∷ es) v h =
      elim (test e.0) as (λ b. test e.0 ≡ b → cond b (Some e.1) (lookup test es) ≡ Some v → (p k && (p e.0 && keys_pass es)) ≡ (p e.0 && keys_pass es)) [
        | true ↦ λ t s. ap (λ (q : K). p q && (p e.0 && keys_pass es)) (sym (same e.0 t)) ∙ twice (p e.0) (keys_pass es)
        | false ↦ λ t s. swapped (p k) (p e.0) (keys_pass es) ∙ ap (λ b. p e.0 && b) (found_passes test k same es v s)
      ] refl h where
        twice : (a b : Bool) → (a && (a && b)) ≡ (a && b)
        twice true b = refl
        twice false b = refl

  set_passes : (test : K → Bool) (es : List (K × X)) (v : X) → keys_pass (set_value test es v) ≡ keys_pass es
  set_passes test [] v = refl
  set_passes test (e ∷ es) v =
      elim (test e.0) as (λ b. keys_pass (cond b ((e.0, v) ∷ es) (e ∷ set_value test es v)) ≡ (p e.0 && keys_pass es)) [
        | true ↦ refl
        | false ↦ ap (λ b. p e.0 && b) (set_passes test es v)
      ]

  insert_passes : (cmp : K → K → Ordering) (k : K) (v : X) (es : List (K × X)) → lookup (is_at (cmp k)) es ≡ None → keys_pass (insert_entry cmp es k v) ≡ (p k && keys_pass es)
  insert_passes cmp k v [] h = refl
  insert_passes cmp k v (e ∷ es) h =
      elim (cmp k e.0) as (λ o. cond (is_eq o) (Some e.1) (lookup (is_at (cmp k)) es) ≡ None → keys_pass (match_ordering o ((k, v) ∷ e ∷ es) ((e.0, v) ∷ es) (e ∷ insert_entry cmp es k v)) ≡ (p k && (p e.0 && keys_pass es))) [
        | Less ↦ λ s. refl
        | Equal ↦ λ s. absurd cc
        | Greater ↦ λ s. ap (λ b. p e.0 && b) (insert_passes cmp k v es s) ∙ swapped (p e.0) (p k) (keys_pass es)
      ] h

-- the segments of a row pass where those pass that were put there
with_passes : (p : HeldSegment → Bool) (s : HeldSegment) (held : List (HeldSegment × ℕ)) → list_all (λ e. p e.0) (with_segment s held) ≡ (p s && list_all (λ e. p e.0) held)
with_passes p s held =
    elim (repeats_of s held) as (λ o. repeats_of s held ≡ o → list_all (λ e. p e.0) (raised s o held) ≡ (p s && list_all (λ e. p e.0) held)) [
      | None ↦ λ h. insert_passes p held_cmp s 0 held h
      | Some n ↦ λ h. set_passes p (is_at (held_cmp s)) held (n + 1) ∙ sym (found_passes p (is_at (held_cmp s)) s (held_same s) held n h)
    ] refl

pub holding_passes : (p : HeldSegment → Bool) (segments : List (ℕ × Segment)) → list_all (λ e. p e.0) (holding segments) ≡ list_all (λ s. p (held_of s.0 s.1)) segments
holding_passes p [] = refl
holding_passes p (s ∷ segments) = with_passes p (held_of s.0 s.1) (holding segments) ∙ ap (λ b. p (held_of s.0 s.1) && b) (holding_passes p segments)

module _ {K X : Type 0} (r : K → K → Bool) where
  abbrev keys_apart : List (K × X) → Bool
  keys_apart es = all_later (λ a b. r a.0 b.0) es

  set_apart : (test : K → Bool) (es : List (K × X)) (v : X) → keys_apart (set_value test es v) ≡ keys_apart es
  set_apart test [] v = refl
  set_apart test (e ∷ es) v =
      elim (test e.0) as (λ b. keys_apart (cond b ((e.0, v) ∷ es) (e ∷ set_value test es v)) ≡ (list_all (λ x. r e.0 x.0) es && keys_apart es)) [
        | true ↦ refl
        | false ↦ ap (λ b. b && keys_apart (set_value test es v)) (set_passes (r e.0) test es v) ∙ ap (λ b. list_all (λ x. r e.0 x.0) es && b) (set_apart test es v)
      ]

  insert_apart : (cmp : K → K → Ordering) (flips : (a b : K) → r a b ≡ r b a) (k : K) (v : X) (es : List (K × X)) → lookup (is_at (cmp k)) es ≡ None → list_all (λ x. r k x.0) es ≡ true → keys_apart es ≡ true → keys_apart (insert_entry cmp es k v) ≡ true
  insert_apart cmp flips k v [] absent all apart = refl
  insert_apart cmp flips k v (e ∷ es) absent all apart =
      elim (cmp k e.0) as (λ o. cond (is_eq o) (Some e.1) (lookup (is_at (cmp k)) es) ≡ None → keys_apart (match_ordering o ((k, v) ∷ e ∷ es) ((e.0, v) ∷ es) (e ∷ insert_entry cmp es k v)) ≡ true) [
        | Less ↦ λ s. both (list_all (λ x. r k x.0) (e ∷ es)) (keys_apart (e ∷ es)) all apart
        | Equal ↦ λ s. absurd cc
        | Greater ↦ λ s.
            both (list_all (λ x. r e.0 x.0) (insert_entry cmp es k v)) (keys_apart (insert_entry cmp es k v))
            (insert_passes (r e.0) cmp k v es s ∙ both (r e.0 k) (list_all (λ x. r e.0 x.0) es) (flips e.0 k ∙ first (r k e.0) (list_all (λ x. r k x.0) es) all) (first (list_all (λ x. r e.0 x.0) es) (keys_apart es) apart))
            (insert_apart cmp flips k v es s (rest (r k e.0) (list_all (λ x. r k x.0) es) all) (rest (list_all (λ x. r e.0 x.0) es) (keys_apart es) apart))
      ] absent

with_apart : (r : HeldSegment → HeldSegment → Bool) (flips : (a b : HeldSegment) → r a b ≡ r b a) (s : HeldSegment) (held : List (HeldSegment × ℕ)) → list_all (λ e. r s e.0) held ≡ true → all_later (λ a b. r a.0 b.0) held ≡ true → all_later (λ a b. r a.0 b.0) (with_segment s held) ≡ true
with_apart r flips s held all apart =
    elim (repeats_of s held) as (λ o. repeats_of s held ≡ o → all_later (λ a b. r a.0 b.0) (raised s o held) ≡ true) [
      | None ↦ λ h. insert_apart r held_cmp flips s 0 held h all apart
      | Some n ↦ λ h. set_apart r (is_at (held_cmp s)) held (n + 1) ∙ apart
    ] refl

pub holding_apart : (r : HeldSegment → HeldSegment → Bool) (flips : (a b : HeldSegment) → r a b ≡ r b a) (segments : List (ℕ × Segment)) → all_later (λ a b. r (held_of a.0 a.1) (held_of b.0 b.1)) segments ≡ true → all_later (λ a b. r a.0 b.0) (holding segments) ≡ true
holding_apart r flips [] h = refl
holding_apart r flips (s ∷ segments) h =
    with_apart r flips (held_of s.0 s.1) (holding segments)
    (holding_passes (r (held_of s.0 s.1)) segments ∙ first (list_all (λ b. r (held_of s.0 s.1) (held_of b.0 b.1)) segments) (all_later (λ a b. r (held_of a.0 a.1) (held_of b.0 b.1)) segments) h)
    (holding_apart r flips segments (rest (list_all (λ b. r (held_of s.0 s.1) (held_of b.0 b.1)) segments) (all_later (λ a b. r (held_of a.0 a.1) (held_of b.0 b.1)) segments) h))

either_way : (a b : Bool) → (a || b) ≡ (b || a)
either_way true true = refl
either_way true false = refl
either_way false true = refl
either_way false false = refl

clear_flips : (q : Bool) (a b : Segment) → are_clear q a b ≡ are_clear q b a
clear_flips q a b = either_way (nat_le (high_of q a) (low_of q b)) (nat_le (high_of q b) (low_of q a))

-- those that a row holds are clear of one another where those on the volume are
pub held_are_apart : (q : Bool) (held : List (HeldSegment × ℕ)) (segments : List (ℕ × Segment)) → held ≡ holding segments → are_disjoint q segments ≡ true → are_held_apart q held ≡ true
held_are_apart q held segments is apart =
    ap (are_held_apart q) is ∙ holding_apart (λ a b. are_clear q (frame_of a) (frame_of b)) (λ a b. clear_flips q (frame_of a) (frame_of b)) segments apart

-- a segment is clear of those on a volume where it is clear of those that the row holds
pub clear_of_held : (moved : List MovedCopy) (number : ℕ) (q : Bool) (s : Segment) (held : List (HeldSegment × ℕ)) (segments : List (ℕ × Segment)) → held ≡ holding segments → is_clear_after moved number q s held ≡ list_all (λ e. leaves moved number e.0 || are_clear q s e.1) segments
clear_of_held moved number q s held segments is = ap (is_clear_after moved number q s) is ∙ holding_passes (λ h. leaves moved number h.object || are_clear q s (frame_of h)) segments
