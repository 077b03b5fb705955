-- What is counted for an object is the sum over the segments that are its own.
use Rattle.std.proofs.Common.{◌≡◌, ℕ, ◌+◌, Bool, true, false, cond, List, [], ◌∷◌, Option, Some, refl, sym, ap, ◌∙◌, arith}
use Rattle.std.proofs.lemmas.Cmp.{nat_cmp_total}
use Rattle.std.proofs.lemmas.List.Sums.{sum_by-cons}
use Rattle.std.proofs.lemmas.Map.Lookups.{exact_unsigned}
use Rattle.std.specs.BTreeMap.{insert_entry, is_at}
use Rattle.std.specs.Cmp.{IsTotalOrder, eq_by_cmp_equiv}
use Rattle.std.specs.Map.{lookup}
use Rattle.std.specs.Ordering.{nat_cmp, match_ordering, is_eq}
use Rattle.std.specs.Prelude.{unwrap_or, if◌then◌else◌}
use Rattle.std.specs.declared.cmp.Ordering.{Ordering}
use Rattle.std.specs.declared.cmp.Ordering.TheVariants.{Less, Equal, Greater}
use Rattle.inventory_work.specs.inventory_rows.volume_rows.declared.held.HeldSegment.{HeldSegment}
use Rattle.inventory_work.specs.inventory_rows.object_rows.Filespaces.{at_number}
use Rattle.inventory_work.specs.inventory_rows.pool_tables.Rows.{row_at}
use Rattle.inventory_answers.specs.Content.{so_far, with_segment, counted, segments_of}

same_test : {A : Type 0} (b c : Bool) (x y z : A) → c ≡ b → cond b x y ≡ cond c x (cond b z y)
same_test true c x y z e = ap (λ t. cond t x z) (sym e)
same_test false c x y z e = ap (λ t. cond t x y) (sym e)

two_tests : {A : Type 0} (a c : Bool) (x y z : A) → (c ≡ true → a ≡ false) → cond a x (cond c y z) ≡ cond c y (cond a x z)
two_tests a true x y z h = ap (λ t. cond t x y) (h refl)
two_tests a false x y z h = refl

-- what a look-up finds once an entry is inserted
lookup-inserted : {K X : Type 0} {R : K → K → Ordering} (o : IsTotalOrder R) (k q : K) (v : X) (es : List (K × X)) → lookup (is_at (R q)) (insert_entry R es k v) ≡ cond (is_at (R q) k) (Some v) (lookup (is_at (R q)) es)
lookup-inserted o k q v [] = refl
lookup-inserted {K} {X} {R} o k q v (e ∷ es) =
    elim (R k e.0) as (λ r. R k e.0 ≡ r → lookup (is_at (R q)) (match_ordering r ((k, v) ∷ e ∷ es) ((e.0, v) ∷ es) (e ∷ insert_entry R es k v)) ≡ cond (is_at (R q) k) (Some v) (lookup (is_at (R q)) (e ∷ es))) [
      | Less ↦ λ _. refl
      | Equal ↦ λ same.
          same_test (is_eq (R q e.0)) (is_eq (R q k)) (Some v) (lookup (is_at (R q)) es) (Some e.1)
          ((eq_by_cmp_equiv o).symm q k ∙ (eq_by_cmp_equiv o).congr k e.0 q (ap is_eq same) ∙ (eq_by_cmp_equiv o).symm e.0 q)
      | Greater ↦ λ above.
          ap (λ t. cond (is_eq (R q e.0)) (Some e.1) t) (lookup-inserted o k q v es)
          ∙ two_tests (is_eq (R q e.0)) (is_eq (R q k)) (Some e.1) (Some v) (lookup (is_at (R q)) es) (λ s. (eq_by_cmp_equiv o).congr q k e.0 s ∙ ap is_eq above)
    ] refl

one_more : (q : ℕ) (counts : List (ℕ × ℕ)) (e : HeldSegment × ℕ) → so_far q (with_segment counts e) ≡ so_far q counts + cond (is_at (nat_cmp q) e.0.object) (e.1 + 1) 0
one_more q counts e =
    ap (λ (t : Option ℕ). unwrap_or t 0) (lookup-inserted nat_cmp_total e.0.object q (so_far e.0.object counts + (e.1 + 1)) counts)
    ∙ elim (nat_cmp q e.0.object) as (λ r. nat_cmp q e.0.object ≡ r → unwrap_or (cond (is_eq r) (Some (so_far e.0.object counts + (e.1 + 1))) (row_at q counts)) 0 ≡ so_far q counts + cond (is_eq r) (e.1 + 1) 0) [
      | Less ↦ λ _. omega arith
      | Equal ↦ λ s. ap (λ n. so_far n counts + (e.1 + 1)) (sym (exact_unsigned q e.0.object s))
      | Greater ↦ λ _. omega arith
    ] refl

in_turn : (a b c x y : ℕ) → x ≡ b + c → b ≡ a + y → x ≡ a + (y + c)
in_turn a b c x y rest one = omega arith

all_more : (q : ℕ) (counts : List (ℕ × ℕ)) (held : List (HeldSegment × ℕ)) → so_far q (counted counts held) ≡ so_far q counts + segments_of q held
all_more q counts [] = omega arith
all_more q counts (e ∷ held) =
    in_turn (so_far q counts) (so_far q (with_segment counts e)) (segments_of q held) (so_far q (counted (with_segment counts e) held)) (cond (is_at (nat_cmp q) e.0.object) (e.1 + 1) 0)
    (all_more q (with_segment counts e) held) (one_more q counts e)
    ∙ ap (λ n. so_far q counts + n) (sym (sum_by-cons (λ (s : HeldSegment × ℕ). if at_number q s.0.object then s.1 + 1 else 0) e held))

pub counted_all : (q : ℕ) (held : List (HeldSegment × ℕ)) → so_far q (counted [] held) ≡ segments_of q held
counted_all q held = let all : so_far q (counted [] held) ≡ 0 + segments_of q held = all_more q [] held in omega arith
