-- The index with one pair more, and with one fewer.
use Rattle.std.proofs.Common.{◌≡◌, ◌+◌, Bool, true, false, cond, List, [], ◌∷◌, ◌++◌, length, Option, Some, None, Ordering, refl, sym, ap, subst, ◌∙◌, arith, length-append}
use Rattle.std.specs.BTreeMap.{is_at}
use Rattle.std.specs.Cmp.{IsTotalOrder, eq_by_cmp_equiv, tied_itself}
use Rattle.std.specs.Map.{lookup}
use Rattle.std.specs.Option.{is_some}
use Rattle.std.specs.Ordering.{is_eq}
use Rattle.object_rows.specs.Index.{AreDistinct, IsIndex}
use Rattle.object_rows.proofs.Splices.{Splices}

-- what isn't in a list isn't in its front
pub lookup-front : {K V : Type 0} (test : K → Bool) (xs ys : List (K × V)) → lookup test (xs ++ ys) ≡ None → lookup test xs ≡ None
lookup-front test [] ys h = refl
lookup-front test (x ∷ xs) ys h =
    elim (test x.0) as (λ b. cond b (Some x.1) (lookup test (xs ++ ys)) ≡ None → cond b (Some x.1) (lookup test xs) ≡ None) [
      | true ↦ λ t. absurd (cc)
      | false ↦ λ t. lookup-front test xs ys t
    ] h

module _ {K V : Type 0} {R : K → K → Ordering} (o : IsTotalOrder R) where
  -- one pair more, whose key doesn't stand before it
  pub lookup-between : (e : K × V) (q : K) (xs ys : List (K × V)) → lookup (is_at (R e.0)) xs ≡ None → lookup (is_at (R q)) (xs ++ (e ∷ ys)) ≡ cond (is_at (R e.0) q) (Some e.1) (lookup (is_at (R q)) (xs ++ ys))
  lookup-between e q [] ys h = ap (λ b. cond b (Some e.1) (lookup (is_at (R q)) ys)) ((eq_by_cmp_equiv o).symm q e.0)
  lookup-between e q (x ∷ xs) ys h =
      elim (is_eq (R e.0 x.0)) as (λ b. is_eq (R e.0 x.0) ≡ b → cond b (Some x.1) (lookup (is_at (R e.0)) xs) ≡ None → lookup (is_at (R q)) (x ∷ (xs ++ (e ∷ ys))) ≡ cond (is_at (R e.0) q) (Some e.1) (lookup (is_at (R q)) (x ∷ (xs ++ ys)))) [
        | true ↦ λ _ t. absurd (cc)
        | false ↦ λ apart t.
            ap (λ z. cond (is_eq (R q x.0)) (Some x.1) z) (lookup-between e q xs ys t)
            ∙ elim (is_eq (R e.0 q)) as (λ b. is_eq (R e.0 q) ≡ b → cond (is_eq (R q x.0)) (Some x.1) (cond b (Some e.1) (lookup (is_at (R q)) (xs ++ ys))) ≡ cond b (Some e.1) (cond (is_eq (R q x.0)) (Some x.1) (lookup (is_at (R q)) (xs ++ ys)))) [
              | true ↦ λ same. ap (λ b. cond b (Some x.1) (Some e.1)) (sym ((eq_by_cmp_equiv o).congr e.0 q x.0 same) ∙ apart)
              | false ↦ λ _. refl
            ] refl
      ] refl h

  pub distinct-more : (e : K × V) (xs ys : List (K × V)) → AreDistinct R (xs ++ ys) → lookup (is_at (R e.0)) (xs ++ ys) ≡ None → AreDistinct R (xs ++ (e ∷ ys))
  distinct-more e [] ys d h = (h, d)
  distinct-more e (x ∷ xs) ys d h =
      elim (is_eq (R e.0 x.0)) as (λ b. is_eq (R e.0 x.0) ≡ b → cond b (Some x.1) (lookup (is_at (R e.0)) (xs ++ ys)) ≡ None → AreDistinct R (x ∷ (xs ++ (e ∷ ys)))) [
        | true ↦ λ _ t. absurd (cc)
        | false ↦ λ apart t.
            (lookup-between e x.0 xs ys (lookup-front (is_at (R e.0)) xs ys t) ∙ ap (λ b. cond b (Some e.1) (lookup (is_at (R x.0)) (xs ++ ys))) apart ∙ d.0, distinct-more e xs ys d.1 t)
      ] refl h

  -- one pair fewer, whose key is then gone
  pub distinct-fewer : (e : K × V) (xs ys : List (K × V)) → AreDistinct R (xs ++ (e ∷ ys)) → AreDistinct R (xs ++ ys) × (lookup (is_at (R e.0)) (xs ++ ys) ≡ None)
  distinct-fewer e [] ys d = (d.1, d.0)
  distinct-fewer e (x ∷ xs) ys d =
      let w : AreDistinct R (xs ++ ys) × (lookup (is_at (R e.0)) (xs ++ ys) ≡ None) = distinct-fewer e xs ys d.1 in
      let all : cond (is_eq (R e.0 x.0)) (Some e.1) (lookup (is_at (R x.0)) (xs ++ ys)) ≡ None = sym (lookup-between e x.0 xs ys (lookup-front (is_at (R e.0)) xs ys w.1)) ∙ d.0 in
      elim (is_eq (R e.0 x.0)) as (λ b. cond b (Some e.1) (lookup (is_at (R x.0)) (xs ++ ys)) ≡ None → AreDistinct R (x ∷ (xs ++ ys)) × (cond b (Some x.1) (lookup (is_at (R e.0)) (xs ++ ys)) ≡ None)) [
        | true ↦ λ t. absurd (cc)
        | false ↦ λ t. ((t, w.0), w.1)
      ] all

  -- equal keys are found alike
  pub absent : (k q : K) (xs : List (K × V)) → is_eq (R k q) ≡ true → lookup (is_at (R k)) xs ≡ None → lookup (is_at (R q)) xs ≡ None
  absent k q [] same h = refl
  absent k q (x ∷ xs) same h =
      elim (is_eq (R k x.0)) as (λ b. is_eq (R k x.0) ≡ b → cond b (Some x.1) (lookup (is_at (R k)) xs) ≡ None → cond (is_eq (R q x.0)) (Some x.1) (lookup (is_at (R q)) xs) ≡ None) [
        | true ↦ λ _ t. absurd (cc)
        | false ↦ λ apart t. ap (λ b. cond b (Some x.1) (lookup (is_at (R q)) xs)) (sym ((eq_by_cmp_equiv o).congr k q x.0 same) ∙ apart) ∙ absent k q xs same t
      ] refl h

  -- the index with one pair more, and the list with it somewhere
  pub index-more : (e : K × V) (index more old new : List (K × V)) → IsIndex R index old → lookup (is_at (R e.0)) index ≡ None → Splices [] (e ∷ []) old new
      → ((q : K) → lookup (is_at (R q)) more ≡ cond (is_at (R e.0) q) (Some e.1) (lookup (is_at (R q)) index))
      → (was : Option V) → was ≡ lookup (is_at (R e.0)) index → length more ≡ length index + cond (is_some was) 0 1 → IsIndex R more new
  index-more e index more old new i fresh s put was had long =
      let none : lookup (is_at (R e.0)) (s.before ++ s.after) ≡ None = ap (lookup (is_at (R e.0))) (sym s.was) ∙ sym (i.found e.0) ∙ fresh in
      record {
        found = λ q. put q ∙ ap (λ z. cond (is_at (R e.0) q) (Some e.1) z) (i.found q ∙ ap (lookup (is_at (R q))) s.was)
            ∙ sym (ap (lookup (is_at (R q))) s.becomes ∙ lookup-between e q s.before s.after (lookup-front (is_at (R e.0)) s.before s.after none));
        distinct = subst (AreDistinct R) (sym s.becomes) (distinct-more e s.before s.after (subst (AreDistinct R) s.was i.distinct) none);
        count =
            let same : length index ≡ length old = i.count in
            let longer : length more ≡ length index + 1 = long ∙ ap (λ o. length index + cond (is_some o) 0 1) (had ∙ fresh) in
            let before : length old ≡ length s.before + length s.after = ap length s.was ∙ length-append s.before s.after in
            let behind : length new ≡ length s.before + length (e ∷ s.after) = ap length s.becomes ∙ length-append s.before (e ∷ s.after) in
            omega arith;
      }

  -- the index with one pair fewer, and the list without it
  pub index-fewer : (e : K × V) (index fewer old new : List (K × V)) → IsIndex R index old → Splices (e ∷ []) [] old new
      → ((q : K) → lookup (is_at (R q)) fewer ≡ cond (is_at (R e.0) q) None (lookup (is_at (R q)) index))
      → (was : Option V) → was ≡ lookup (is_at (R e.0)) index → length fewer + cond (is_some was) 1 0 ≡ length index → IsIndex R fewer new
  index-fewer e index fewer old new i s taken was there short =
      let w : AreDistinct R (s.before ++ s.after) × (lookup (is_at (R e.0)) (s.before ++ s.after) ≡ None) = distinct-fewer e s.before s.after (subst (AreDistinct R) s.was i.distinct) in
      let had : (q : K) → lookup (is_at (R q)) index ≡ cond (is_at (R e.0) q) (Some e.1) (lookup (is_at (R q)) (s.before ++ s.after)) =
      λ q. i.found q ∙ ap (lookup (is_at (R q))) s.was ∙ lookup-between e q s.before s.after (lookup-front (is_at (R e.0)) s.before s.after w.1) in
      record {
        found = λ q. taken q ∙ ap (λ z. cond (is_at (R e.0) q) None z) (had q)
            ∙ elim (is_eq (R e.0 q)) as (λ b. is_eq (R e.0 q) ≡ b → cond b None (cond b (Some e.1) (lookup (is_at (R q)) (s.before ++ s.after))) ≡ lookup (is_at (R q)) (s.before ++ s.after)) [
              | true ↦ λ same. sym (absent e.0 q (s.before ++ s.after) same w.1)
              | false ↦ λ _. refl
            ] refl
            ∙ sym (ap (lookup (is_at (R q))) s.becomes);
        distinct = subst (AreDistinct R) (sym s.becomes) w.0;
        count =
            let same : length index ≡ length old = i.count in
            let found : was ≡ Some e.1 = there ∙ had e.0 ∙ ap (λ b. cond b (Some e.1) (lookup (is_at (R e.0)) (s.before ++ s.after))) (ap is_eq (tied_itself o e.0)) in
            let shorter : length fewer + 1 ≡ length index = ap (λ p. length fewer + cond (is_some p) 1 0) (sym found) ∙ short in
            let before : length old ≡ length s.before + length (e ∷ s.after) = ap length s.was ∙ length-append s.before (e ∷ s.after) in
            let behind : length new ≡ length s.before + length s.after = ap length s.becomes ∙ length-append s.before s.after in
            omega arith;
      }

  -- what was put into the index and is taken out again
  pub index-back : (e : K × V) (index more fewer pairs : List (K × V)) → IsIndex R index pairs → lookup (is_at (R e.0)) index ≡ None
      → ((q : K) → lookup (is_at (R q)) more ≡ cond (is_at (R e.0) q) (Some e.1) (lookup (is_at (R q)) index))
      → (was : Option V) → was ≡ lookup (is_at (R e.0)) index → length more ≡ length index + cond (is_some was) 0 1
      → ((q : K) → lookup (is_at (R q)) fewer ≡ cond (is_at (R e.0) q) None (lookup (is_at (R q)) more))
      → (taken : Option V) → taken ≡ lookup (is_at (R e.0)) more → length fewer + cond (is_some taken) 1 0 ≡ length more → IsIndex R fewer pairs
  index-back e index more fewer pairs i fresh put was had long took taken there short =
      index-fewer e more fewer (e ∷ pairs) pairs
      (index-more e index more pairs (e ∷ pairs) i fresh (record { before = []; after = pairs; was = refl; becomes = refl }) put was had long)
      (record { before = []; after = pairs; was = refl; becomes = refl }) took taken there short
