-- The segments of a volume's row are those that it holds, each of them.
use Rattle.std.proofs.Common.{◌≡◌, ℕ, ◌+◌, Bool, true, false, cond, List, [], ◌∷◌, Some, None, refl, subst}
use Rattle.std.specs.List.{AllByRecursion}
use Rattle.std.specs.Map.{lookup, set_value}
use Rattle.std.specs.BTreeMap.{insert_entry, is_at}
use Rattle.std.specs.Ordering.{is_eq, match_ordering}
use Rattle.std.specs.declared.cmp.Ordering.TheVariants.{Less, Equal, Greater}
use Rattle.kinds.specs.declared.segment.Segment.{Segment}
use Rattle.volume_rows.specs.declared.held.HeldSegment.{HeldSegment}
use Rattle.volume_rows.specs.Held.{held_cmp, held_of}
use Rattle.volume_rows.specs.Holdings.{repeats_of, raised, with_segment}
use Rattle.volume_rows.proofs.Segments.{held_same}
use Rattle.inventory_rules.specs.Held.{holding}

abbrev pub AllKeys : (HeldSegment → Type 0) → List (HeldSegment × ℕ) → Type 0
AllKeys P held = AllByRecursion (λ e. P e.0) held

inserted : (P : HeldSegment → Type 0) (s : HeldSegment) (n : ℕ) (held : List (HeldSegment × ℕ)) → lookup (is_at (held_cmp s)) held ≡ None → AllKeys P (insert_entry held_cmp held s n) → P s × AllKeys P held
inserted P s n [] none all = (all.0, tt)
inserted P s n (e ∷ held) none all =
    elim (held_cmp s e.0) as (λ o. cond (is_eq o) (Some e.1) (lookup (is_at (held_cmp s)) held) ≡ None → AllKeys P (match_ordering o ((s, n) ∷ e ∷ held) ((e.0, n) ∷ held) (e ∷ insert_entry held_cmp held s n)) → P s × AllKeys P (e ∷ held)) [
      | Less ↦ λ h a. (a.0, a.1)
      | Equal ↦ λ h a. absurd (cc)
      | Greater ↦ λ h a. let rest = inserted P s n held h a.1 in (rest.0, (a.0, rest.1))
    ] none all

revalued : (P : HeldSegment → Type 0) (test : HeldSegment → Bool) (held : List (HeldSegment × ℕ)) (n : ℕ) → AllKeys P (set_value test held n) → AllKeys P held
revalued P test [] n all = tt
revalued P test (e ∷ held) n all =
    elim (test e.0) as (λ b. AllKeys P (cond b ((e.0, n) ∷ held) (e ∷ set_value test held n)) → AllKeys P (e ∷ held)) [
      | true ↦ λ a. (a.0, a.1)
      | false ↦ λ a. (a.0, revalued P test held n a.1)
    ] all

found : (P : HeldSegment → Type 0) (s : HeldSegment) (held : List (HeldSegment × ℕ)) (n : ℕ) → lookup (is_at (held_cmp s)) held ≡ Some n → AllKeys P held → P s
found P s [] n h all = absurd (cc)
found P s (e ∷ held) n h all =
    elim (is_at (held_cmp s) e.0) as (λ b. is_at (held_cmp s) e.0 ≡ b → cond b (Some e.1) (lookup (is_at (held_cmp s)) held) ≡ Some n → P s) [
      | true ↦ λ t g. subst P (held_same s e.0 t) all.0
      | false ↦ λ t g. found P s held n g all.1
    ] refl h

with_one : (P : HeldSegment → Type 0) (s : HeldSegment) (held : List (HeldSegment × ℕ)) → AllKeys P (with_segment s held) → P s × AllKeys P held
with_one P s held all =
    elim (repeats_of s held) as (λ o. repeats_of s held ≡ o → AllKeys P (raised s o held) → P s × AllKeys P held) [
      | None ↦ λ none a. inserted P s 0 held none a
      | Some n ↦ λ there a. let rest = revalued P (is_at (held_cmp s)) held (n + 1) a in (found P s held n there rest, rest)
    ] refl all

-- what holds of each segment of a row holds of each that it holds
pub all_held : (P : HeldSegment → Type 0) (xs : List (ℕ × Segment)) → AllKeys P (holding xs) → AllByRecursion (λ x. P (held_of x.0 x.1)) xs
all_held P [] all = tt
all_held P (x ∷ xs) all = let one = with_one P (held_of x.0 x.1) (holding xs) all in (one.0, all_held P xs one.1)
