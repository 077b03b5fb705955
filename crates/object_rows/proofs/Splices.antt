-- Lists that differ in one run of elements, and the lists that the entries of a map hold.
use Rattle.std.proofs.Common.{◌≡◌, Bool, true, false, cond, List, [], ◌∷◌, ◌++◌, Some, None, Ordering, refl, sym, ap, ◌∙◌, append_assoc}
use Rattle.std.proofs.lemmas.List.{append-nil}
use Rattle.std.specs.List.{flat_map}
use Rattle.std.specs.BTreeMap.{is_at, insert_entry}
use Rattle.std.specs.Map.{lookup, set_value, remove_entry}
use Rattle.std.specs.Ordering.{is_eq, match_ordering}
use Rattle.std.specs.declared.cmp.Ordering.TheVariants.{Less, Equal, Greater}

-- the new list is the old one with ys in the place of xs
pub record Splices {A : Type 0} (xs ys old new : List A) : Type 0 where
  pub before : List A
  pub after : List A
  pub was : old ≡ before ++ (xs ++ after)
  pub becomes : new ≡ before ++ (ys ++ after)

pub splice_self : {A : Type 0} (xs ys : List A) → Splices xs ys xs ys
splice_self xs ys = record { before = []; after = []; was = sym (append-nil xs); becomes = sym (append-nil ys) }

pub splice_behind : {A : Type 0} {xs ys old new : List A} (more : List A) → Splices xs ys old new → Splices xs ys (more ++ old) (more ++ new)
splice_behind {A} {xs} {ys} {old} {new} more s = record {
  before = more ++ s.before;
  after = s.after;
  was = ap (λ z. more ++ z) s.was ∙ sym (append_assoc more s.before (xs ++ s.after));
  becomes = ap (λ z. more ++ z) s.becomes ∙ sym (append_assoc more s.before (ys ++ s.after));
}

regrouped : {A : Type 0} (p q x r s : List A) → p ++ ((q ++ (x ++ r)) ++ s) ≡ (p ++ q) ++ (x ++ (r ++ s))
regrouped p q x r s = simp append_assoc

pub splice_in : {A : Type 0} {a b c d e f : List A} → Splices a b c d → Splices c d e f → Splices a b e f
splice_in {A} {a} {b} {c} {d} {e} {f} s t = record {
  before = t.before ++ s.before;
  after = s.after ++ t.after;
  was = t.was ∙ ap (λ z. t.before ++ (z ++ t.after)) s.was ∙ regrouped t.before s.before a s.after t.after;
  becomes = t.becomes ∙ ap (λ z. t.before ++ (z ++ t.after)) s.becomes ∙ regrouped t.before s.before b s.after t.after;
}

pub splice_same : {A : Type 0} {xs old new : List A} → Splices xs xs old new → new ≡ old
splice_same s = s.becomes ∙ sym s.was

module _ {K X A : Type 0} (flat : K → X → List A) where
  -- what the entries hold, one after another
  abbrev pub flatten : List (K × X) → List A
  flatten es = flat_map (λ e. flat e.0 e.1) es

  -- one entry holds something else
  pub splice_set : (test : K → Bool) (es : List (K × X)) (x y : X) → lookup test es ≡ Some x → (k : K) × (test k ≡ true) × Splices (flat k x) (flat k y) (flatten es) (flatten (set_value test es y))
  splice_set test [] x y h = absurd (cc)
  splice_set test (e ∷ es) x y h =
      elim (test e.0) as (λ b. test e.0 ≡ b → cond b (Some e.1) (lookup test es) ≡ Some x → (k : K) × (test k ≡ true) × Splices (flat k x) (flat k y) (flat e.0 e.1 ++ flatten es) (flatten (cond b ((e.0, y) ∷ es) (e ∷ set_value test es y)))) [
        | true ↦ λ yes t. let same : e.1 ≡ x = cc in (e.0, yes, record { before = []; after = flatten es; was = ap (λ z. flat e.0 z ++ flatten es) same; becomes = refl })
        | false ↦ λ no t. let w : (k : K) × (test k ≡ true) × Splices (flat k x) (flat k y) (flatten es) (flatten (set_value test es y)) = splice_set test es x y t in (w.0, w.1, splice_behind (flat e.0 e.1) w.2)
      ] refl h

  -- one more entry
  pub splice_new : (R : K → K → Ordering) (k : K) (y : X) (es : List (K × X)) → lookup (is_at (R k)) es ≡ None → Splices [] (flat k y) (flatten es) (flatten (insert_entry R es k y))
  splice_new R k y [] h = record { before = []; after = []; was = refl; becomes = refl }
  splice_new R k y (e ∷ es) h =
      elim (R k e.0) as (λ r. R k e.0 ≡ r → cond (is_eq r) (Some e.1) (lookup (is_at (R k)) es) ≡ None → Splices [] (flat k y) (flatten (e ∷ es)) (flatten (match_ordering r ((k, y) ∷ e ∷ es) ((e.0, y) ∷ es) (e ∷ insert_entry R es k y)))) [
        | Less ↦ λ _ _. record { before = []; after = flatten (e ∷ es); was = refl; becomes = refl }
        | Equal ↦ λ _ t. absurd (cc)
        | Greater ↦ λ _ t. splice_behind (flat e.0 e.1) (splice_new R k y es t)
      ] refl h

  -- one entry fewer
  pub splice_remove : (test : K → Bool) (es : List (K × X)) (x : X) → lookup test es ≡ Some x → (k : K) × (test k ≡ true) × Splices (flat k x) [] (flatten es) (flatten (remove_entry test es))
  splice_remove test [] x h = absurd (cc)
  splice_remove test (e ∷ es) x h =
      elim (test e.0) as (λ b. test e.0 ≡ b → cond b (Some e.1) (lookup test es) ≡ Some x → (k : K) × (test k ≡ true) × Splices (flat k x) [] (flat e.0 e.1 ++ flatten es) (flatten (cond b es (e ∷ remove_entry test es)))) [
        | true ↦ λ yes t. let same : e.1 ≡ x = cc in (e.0, yes, record { before = []; after = flatten es; was = ap (λ z. flat e.0 z ++ flatten es) same; becomes = refl })
        | false ↦ λ no t. let w : (k : K) × (test k ≡ true) × Splices (flat k x) [] (flatten es) (flatten (remove_entry test es)) = splice_remove test es x t in (w.0, w.1, splice_behind (flat e.0 e.1) w.2)
      ] refl h

  -- an entry that holds nothing goes
  pub flatten-remove_entry : (test : K → Bool) (es : List (K × X)) (x : X) → lookup test es ≡ Some x → ((k : K) → flat k x ≡ []) → flatten (remove_entry test es) ≡ flatten es
  flatten-remove_entry test [] x h none = refl
  flatten-remove_entry test (e ∷ es) x h none =
      elim (test e.0) as (λ b. test e.0 ≡ b → cond b (Some e.1) (lookup test es) ≡ Some x → flatten (cond b es (e ∷ remove_entry test es)) ≡ flat e.0 e.1 ++ flatten es) [
        | true ↦ λ _ t. let same : e.1 ≡ x = cc in sym (ap (λ z. z ++ flatten es) (ap (flat e.0) same ∙ none e.0))
        | false ↦ λ _ t. ap (λ z. flat e.0 e.1 ++ z) (flatten-remove_entry test es x t none)
      ] refl h

-- nothing goes where no key passes
pub remove_entry-absent : {K X : Type 0} (test : K → Bool) (es : List (K × X)) → lookup test es ≡ None → remove_entry test es ≡ es
remove_entry-absent test [] h = refl
remove_entry-absent test (e ∷ es) h =
    elim (test e.0) as (λ b. cond b (Some e.1) (lookup test es) ≡ None → cond b es (e ∷ remove_entry test es) ≡ e ∷ es) [
      | true ↦ λ t. absurd (cc)
      | false ↦ λ t. ap (λ z. e ∷ z) (remove_entry-absent test es t)
    ] h
