-- What a volume's row holds doesn't depend on the order in which its segments came.
use Rattle.std.proofs.Common.{◌≡◌, ℕ, ◌+◌, true, false, cond, List, [], ◌∷◌, length, Option, Some, None, Result, Ok, Err, refl, sym, ap, ◌∙◌, arith}
use Rattle.std.specs.BTreeMap.{insert_entry}
use Rattle.std.specs.Map.{set_value}
use Rattle.std.specs.Ordering.{match_ordering}
use Rattle.std.specs.declared.cmp.Ordering.TheVariants.{Less, Equal, Greater}
use Rattle.std.proofs.lemmas.Bool.{ne_eqb}
use Rattle.kinds.specs.declared.refusal.Refusal.{Refusal}
use Rattle.kinds.specs.declared.refusal.Refusal.TheVariants.{NotFound}
use Rattle.kinds.specs.declared.segment.Segment.{Segment}
use Rattle.inventory_rules.specs.inventory_rows.volume_rows.declared.held.HeldSegment.{HeldSegment}
use Rattle.inventory_rules.specs.inventory_rows.volume_rows.Held.{held_cmp, held_of}
use Rattle.inventory_rules.specs.inventory_rows.volume_rows.Holdings.{repeats_of, raised, with_segment, without_segment, is_bare, is_held}
use Rattle.inventory_rules.proofs.of_inventory_rows.of_volume_rows.Segments.{taken-with, held_from_taken}
use Rattle.inventory_rules.specs.inventory_rows.version_groups.Entries.{is_nil}
use Rattle.inventory_rules.specs.Held.{holding}
use Rattle.inventory_rules.specs.Reordered.{IsReordered}
use Rattle.inventory_rules.proofs.HeldTurns.{at, with_segment-turns}
use Rattle.inventory_laws.proofs.Orders.{same_by_steps}

pub holding-reordered : (xs ys : List (ℕ × Segment)) → IsReordered xs ys → holding xs ≡ holding ys
holding-reordered xs ys r =
    same_by_steps holding (λ e held. with_segment (held_of e.0 e.1) held) (λ e l. refl) (λ e f held. with_segment-turns (held_of e.0 e.1) (held_of f.0 f.1) held) xs ys r

-- ---- what is held of no segment, and of some

not_bare : (e : HeldSegment × ℕ) (es : List (HeldSegment × ℕ)) → is_bare (e ∷ es) ≡ false
not_bare e es = ne_eqb (length (e ∷ es)) 0 (omega arith)

is_bare-raised : (s : HeldSegment) (held : List (HeldSegment × ℕ)) (o : Option ℕ) → repeats_of s held ≡ o → is_bare (raised s o held) ≡ false
is_bare-raised s [] None h = not_bare (s, 0) []
is_bare-raised s (e ∷ es) None h =
    elim (held_cmp s e.0) as (λ o. is_bare (match_ordering o ((s, 0) ∷ e ∷ es) ((e.0, 0) ∷ es) (e ∷ insert_entry held_cmp es s 0)) ≡ false) [
      | Less ↦ not_bare (s, 0) (e ∷ es)
      | Equal ↦ not_bare (e.0, 0) es
      | Greater ↦ not_bare e (insert_entry held_cmp es s 0)
    ]
is_bare-raised s [] (Some n) h = absurd cc
is_bare-raised s (e ∷ es) (Some n) h =
    elim (at s e.0) as (λ b. is_bare (cond b ((e.0, n + 1) ∷ es) (e ∷ set_value (at s) es (n + 1))) ≡ false) [
      | true ↦ not_bare (e.0, n + 1) es
      | false ↦ not_bare e (set_value (at s) es (n + 1))
    ]

pub is_bare-holding : (xs : List (ℕ × Segment)) → is_bare (holding xs) ≡ is_nil xs
is_bare-holding [] = refl
is_bare-holding (e ∷ xs) = is_bare-raised (held_of e.0 e.1) (holding xs) (repeats_of (held_of e.0 e.1) (holding xs)) refl

-- ---- one that came goes

same_Ok : {A : Type 0} (x y : A) → (let a : Result A Refusal = Ok x in let b : Result A Refusal = Ok y in a ≡ b) → x ≡ y
same_Ok x y h = cc

pub is_held-with : (s : HeldSegment) (held : List (HeldSegment × ℕ)) → is_held s (with_segment s held) ≡ true
is_held-with s held = held_from_taken s (with_segment s held) held (taken-with s held)

pub without-with : (s : HeldSegment) (held : List (HeldSegment × ℕ)) → without_segment s (with_segment s held) ≡ held
without-with s held =
    same_Ok (without_segment s (with_segment s held)) held
    (sym (ap (λ b. cond {A = Result (List (HeldSegment × ℕ)) Refusal} b (Ok (without_segment s (with_segment s held))) (Err NotFound)) (is_held-with s held)) ∙ taken-with s held)
