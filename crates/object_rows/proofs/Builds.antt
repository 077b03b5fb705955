-- An index that is built from a list of pairs, one pair or one part at a time.
use Rattle.std.proofs.Common.{◌≡◌, ◌+◌, Bool, true, false, cond, List, [], ◌∷◌, ◌++◌, length, Option, Some, None, Ordering, Ok, refl, sym, ap, subst, ◌∙◌, append_assoc}
use Rattle.std.proofs.lemmas.Bool.{false≢true}
use Rattle.std.proofs.lemmas.List.{append-nil}
use Rattle.std.specs.BTreeMap.{is_at}
use Rattle.std.specs.Cmp.{IsTotalOrder}
use Rattle.std.specs.Map.{lookup}
use Rattle.std.specs.Option.{is_some}
use Rattle.object_rows.specs.Build.{Builds}
use Rattle.object_rows.specs.Index.{AreDistinct, IsIndex}
use Rattle.object_rows.proofs.IndexLaws.{distinct-fewer, index-more, lookup-front}

module _ {K V : Type 0} {R : K → K → Ordering} (o : IsTotalOrder R) where
  -- a pair whose key the index has already
  pub clash : (e : K × V) (index done rest : List (K × V)) → IsIndex R index done → is_some (lookup (is_at (R e.0)) index) ≡ true → AreDistinct R (done ++ (e ∷ rest)) → ⊥
  clash e index done rest i there d =
      let none : lookup (is_at (R e.0)) done ≡ None = lookup-front (is_at (R e.0)) done rest (distinct-fewer o e done rest d).1 in
      false≢true (sym (ap is_some (i.found e.0 ∙ none)) ∙ there)

  -- one pair more at the end
  pub built_more : (e : K × V) (index more done : List (K × V)) → IsIndex R index done → lookup (is_at (R e.0)) index ≡ None
      → ((q : K) → lookup (is_at (R q)) more ≡ cond (is_at (R e.0) q) (Some e.1) (lookup (is_at (R q)) index))
      → (was : Option V) → was ≡ lookup (is_at (R e.0)) index → length more ≡ length index + cond (is_some was) 0 1 → IsIndex R more (done ++ (e ∷ []))
  built_more e index more done i fresh put was had long =
      index-more o e index more done (done ++ (e ∷ [])) i fresh (record { before = done; after = []; was = sym (append-nil done); becomes = refl }) put was had long

-- what is distinct is so in its front
pub distinct-front : {K V : Type 0} (R : K → K → Ordering) (xs ys : List (K × V)) → AreDistinct R (xs ++ ys) → AreDistinct R xs
distinct-front R [] ys d = tt
distinct-front R (x ∷ xs) ys d = (lookup-front (is_at (R x.0)) xs ys d.0, distinct-front R xs ys d.1)

regroup : {A : Type 0} (d s p r : List A) → d ++ (s ++ (p ++ r)) ≡ ((d ++ s) ++ p) ++ r
regroup d s p r = simp append_assoc

-- how far an index has come that is built from all pairs: these are put into it, and the rest isn't yet
pub record Progress {K V : Type 0} (R : K → K → Ordering) (old now all rest : List (K × V)) : Type 0 where
  pub so_far : List (K × V)
  pub split : all ≡ so_far ++ rest
  pub kept : (done : List (K × V)) → IsIndex R old done → IsIndex R now (done ++ so_far)

pub begin : {K V : Type 0} (R : K → K → Ordering) (old all : List (K × V)) → Progress R old old all all
begin {K} {V} R old all = record { so_far = []; split = refl; kept = λ done i. subst (λ (t : List (K × V)). IsIndex R old t) (sym (append-nil done)) i }

pub finish : {K V : Type 0} (R : K → K → Ordering) (old now all : List (K × V)) → Progress R old now all [] → Builds R (Ok true) old now all
finish {K} {V} R old now all p = λ done i. subst (λ (t : List (K × V)). IsIndex R now (done ++ t)) (sym (p.split ∙ append-nil p.so_far)) (p.kept done i)

pub step_part : {K V : Type 0} (R : K → K → Ordering) (old now more all part rest : List (K × V)) → Progress R old now all (part ++ rest) → Builds R (Ok true) now more part → Progress R old more all rest
step_part {K} {V} R old now more all part rest p b = record {
  so_far = p.so_far ++ part;
  split = p.split ∙ sym (append_assoc p.so_far part rest);
  kept = λ done i. subst (IsIndex R more) (append_assoc done p.so_far part) (b (done ++ p.so_far) (p.kept done i));
}

pub stop_part : {K V : Type 0} (R : K → K → Ordering) (old now new all part rest : List (K × V)) → Progress R old now all (part ++ rest) → Builds R (Ok false) now new part → Builds R (Ok false) old new all
stop_part {K} {V} R old now new all part rest p b =
    λ done i d. b (done ++ p.so_far) (p.kept done i)
    (distinct-front R ((done ++ p.so_far) ++ part) rest
    (subst (AreDistinct R) (ap (λ t. done ++ t) p.split ∙ regroup done p.so_far part rest) d))

module _ {K V : Type 0} {R : K → K → Ordering} (o : IsTotalOrder R) where
  pub step_one : (e : K × V) (old now more all rest : List (K × V)) → Progress R old now all (e ∷ rest) → lookup (is_at (R e.0)) now ≡ None
      → ((q : K) → lookup (is_at (R q)) more ≡ cond (is_at (R e.0) q) (Some e.1) (lookup (is_at (R q)) now))
      → (was : Option V) → was ≡ lookup (is_at (R e.0)) now → length more ≡ length now + cond (is_some was) 0 1 → Progress R old more all rest
  step_one e old now more all rest p fresh put was had long =
      step_part R old now more all (e ∷ []) rest p (λ done i. built_more o e now more done i fresh put was had long)

  pub stop_one : (e : K × V) (old now all rest : List (K × V)) → Progress R old now all (e ∷ rest) → is_some (lookup (is_at (R e.0)) now) ≡ true → Builds R (Ok false) old now all
  stop_one e old now all rest p there =
      stop_part R old now now all (e ∷ []) rest p (λ done i d. clash o e now done [] i there d)

no_index : {K V : Type 0} (R : K → K → Ordering) (index : List (K × V)) → index ≡ [] → IsIndex R index []
no_index {K} {V} R index e = subst (λ (t : List (K × V)). IsIndex R t []) (sym e) (record { found = λ k. refl; distinct = tt; count = refl })

-- an index that is built from nothing
pub built : {K V : Type 0} (R : K → K → Ordering) (b : Bool) (old new pairs : List (K × V)) → Builds R (Ok b) old new pairs → old ≡ [] → b ≡ true → IsIndex R new pairs
built {K} {V} R b old new pairs h empty is =
    let all : Builds R (Ok true) old new pairs = subst (λ (t : Bool). Builds R (Ok t) old new pairs) is h in
    all [] (no_index R old empty)

pub not_built : {K V : Type 0} (R : K → K → Ordering) (b : Bool) (old new pairs : List (K × V)) → Builds R (Ok b) old new pairs → old ≡ [] → b ≡ false → AreDistinct R pairs → ⊥
not_built {K} {V} R b old new pairs h empty is =
    let all : Builds R (Ok false) old new pairs = subst (λ (t : Bool). Builds R (Ok t) old new pairs) is h in
    all [] (no_index R old empty)
