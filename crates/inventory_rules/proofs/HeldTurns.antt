-- Of two segments that are put on a volume, one after the other, either may be first.
use Rattle.std.proofs.Common.{◌≡◌, ℕ, ◌+◌, Bool, true, false, List, Option, Some, None, refl, sym, ap, subst, ◌∙◌}
use Rattle.std.specs.BTreeMap.{insert_entry, is_at}
use Rattle.std.specs.Cmp.{IsTotalOrder}
use Rattle.std.specs.Map.{set_value}
use Rattle.std.specs.Ordering.{is_eq}
use Rattle.std.specs.declared.cmp.Ordering.TheVariants.{Less, Equal, Greater}
use Rattle.std.proofs.lemmas.Cmp.{nat_cmp_total, on_total, then_total}
use Rattle.inventory_rows.specs.volume_rows.declared.held.HeldSegment.{HeldSegment}
use Rattle.inventory_rows.specs.volume_rows.Held.{held_cmp}
use Rattle.inventory_rows.specs.volume_rows.Holdings.{repeats_of, raised, with_segment}
use Rattle.volume_rows.proofs.Segments.{held_same}
use Rattle.inventory_rules.proofs.Turns.{turned, lookup-set_other, set-set_other, lookup-insert_other, set-insert, insert-insert}

held_total : IsTotalOrder held_cmp
held_total = then_total (on_total (λ (s : HeldSegment). s.offset) nat_cmp_total) (then_total (on_total (λ (s : HeldSegment). s.object) nat_cmp_total) (on_total (λ (s : HeldSegment). s.len) nat_cmp_total))

abbrev pub at : HeldSegment → HeldSegment → Bool
at s = is_at (held_cmp s)

never_both : (a b : HeldSegment) → at b a ≡ false → (k : HeldSegment) → at a k ≡ true → at b k ≡ false
never_both a b off k h = ap (at b) (held_same a k h) ∙ off

module _ (a b : HeldSegment) (less : held_cmp a b ≡ Less) (held : List (HeldSegment × ℕ)) where
  first_off : at a b ≡ false
  first_off = ap is_eq less

  second_off : at b a ≡ false
  second_off = ap is_eq (turned held_total a b Less less)

  by_repeats : (p q : Option ℕ) → repeats_of a held ≡ p → repeats_of b held ≡ q → with_segment a (raised b q held) ≡ with_segment b (raised a p held)
  by_repeats None None h k =
      ap (λ r. raised a r (insert_entry held_cmp held b 0)) (lookup-insert_other held_cmp (at a) b 0 first_off held k ∙ h)
      ∙ sym (insert-insert held_total a b 0 0 less held h)
      ∙ sym (ap (λ r. raised b r (insert_entry held_cmp held a 0)) (lookup-insert_other held_cmp (at b) a 0 second_off held h ∙ k))
  by_repeats None (Some n) h k =
      ap (λ r. raised a r (set_value (at b) held (n + 1))) (lookup-set_other (at a) (at b) (never_both b a first_off) held (n + 1) ∙ h)
      ∙ sym (set-insert held_cmp (at b) a 0 (n + 1) second_off held h)
      ∙ sym (ap (λ r. raised b r (insert_entry held_cmp held a 0)) (lookup-insert_other held_cmp (at b) a 0 second_off held h ∙ k))
  by_repeats (Some m) None h k =
      ap (λ r. raised a r (insert_entry held_cmp held b 0)) (lookup-insert_other held_cmp (at a) b 0 first_off held k ∙ h)
      ∙ set-insert held_cmp (at a) b 0 (m + 1) first_off held k
      ∙ sym (ap (λ r. raised b r (set_value (at a) held (m + 1))) (lookup-set_other (at b) (at a) (never_both a b second_off) held (m + 1) ∙ k))
  by_repeats (Some m) (Some n) h k =
      ap (λ r. raised a r (set_value (at b) held (n + 1))) (lookup-set_other (at a) (at b) (never_both b a first_off) held (n + 1) ∙ h)
      ∙ set-set_other (at a) (at b) (never_both b a first_off) held (m + 1) (n + 1)
      ∙ sym (ap (λ r. raised b r (set_value (at a) held (m + 1))) (lookup-set_other (at b) (at a) (never_both a b second_off) held (m + 1) ∙ k))

  in_turn : with_segment a (with_segment b held) ≡ with_segment b (with_segment a held)
  in_turn = by_repeats (repeats_of a held) (repeats_of b held) refl refl

pub with_segment-turns : (a b : HeldSegment) (held : List (HeldSegment × ℕ)) → with_segment a (with_segment b held) ≡ with_segment b (with_segment a held)
with_segment-turns a b held =
    elim (held_cmp a b) as (λ o. held_cmp a b ≡ o → with_segment a (with_segment b held) ≡ with_segment b (with_segment a held)) [
      | Less ↦ λ h. in_turn a b h held
      | Equal ↦ λ h. subst (λ (c : HeldSegment). with_segment a (with_segment c held) ≡ with_segment c (with_segment a held)) (sym (held_same a b (ap is_eq h))) refl
      | Greater ↦ λ h. sym (in_turn b a (turned held_total a b Greater h) held)
    ] refl
