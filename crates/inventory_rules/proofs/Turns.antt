-- Entries of an ordered map that are put in or changed one after the other: the order in which that is done makes no difference.
use Rattle.std.proofs.Common.{◌≡◌, Bool, true, false, cond, List, [], ◌∷◌, Option, Some, None, Ordering, refl, sym, ap, ◌∙◌}
use Rattle.std.specs.BTreeMap.{insert_entry, is_at}
use Rattle.std.specs.Cmp.{IsTotalOrder}
use Rattle.std.specs.Map.{lookup, set_value}
use Rattle.std.specs.Ordering.{is_eq, match_ordering, ordering_reverse}
use Rattle.std.specs.declared.cmp.Ordering.TheVariants.{Less, Equal, Greater}

-- ---- two values that are changed

pub lookup-set_other : {K X : Type 0} (s t : K → Bool) → ((k : K) → t k ≡ true → s k ≡ false) → (es : List (K × X)) (w : X) → lookup s (set_value t es w) ≡ lookup s es
lookup-set_other s t apart [] w = refl
lookup-set_other {K} {X} s t apart (e ∷ es) w =
    elim (t e.0) as (λ b. t e.0 ≡ b → lookup s (cond b ((e.0, w) ∷ es) (e ∷ set_value t es w)) ≡ cond (s e.0) (Some e.1) (lookup s es)) [
      | true ↦ λ h. ap (λ b. cond b (Some w) (lookup s es)) (apart e.0 h) ∙ sym (ap (λ b. cond b (Some e.1) (lookup s es)) (apart e.0 h))
      | false ↦ λ h. ap (λ (o : Option X). cond (s e.0) (Some e.1) o) (lookup-set_other s t apart es w)
    ] refl

pub set-set_other : {K X : Type 0} (s t : K → Bool) → ((k : K) → t k ≡ true → s k ≡ false) → (es : List (K × X)) (v w : X) → set_value s (set_value t es w) v ≡ set_value t (set_value s es v) w
set-set_other s t apart [] v w = refl
set-set_other {K} {X} s t apart (e ∷ es) v w =
    elim (t e.0) as (λ b. t e.0 ≡ b → set_value s (cond b ((e.0, w) ∷ es) (e ∷ set_value t es w)) v ≡ set_value t (cond (s e.0) ((e.0, v) ∷ es) (e ∷ set_value s es v)) w) [
      | true ↦ λ h.
          ap (λ b. cond b ((e.0, v) ∷ es) ((e.0, w) ∷ set_value s es v)) (apart e.0 h)
          ∙ sym (ap (λ b. cond b ((e.0, w) ∷ set_value s es v) (e ∷ set_value t (set_value s es v) w)) h)
          ∙ sym (ap (λ b. set_value t (cond b ((e.0, v) ∷ es) (e ∷ set_value s es v)) w) (apart e.0 h))
      | false ↦ λ h. go (s e.0) h (set-set_other s t apart es v w)
    ] refl
  where
    go : (c : Bool) → t e.0 ≡ false → set_value s (set_value t es w) v ≡ set_value t (set_value s es v) w
        → cond c ((e.0, v) ∷ set_value t es w) (e ∷ set_value s (set_value t es w) v) ≡ set_value t (cond c ((e.0, v) ∷ es) (e ∷ set_value s es v)) w
    go true h u = sym (ap (λ b. cond b ((e.0, w) ∷ es) ((e.0, v) ∷ set_value t es w)) h)
    go false h u = ap (λ (l : List (K × X)). e ∷ l) u ∙ sym (ap (λ b. cond b ((e.0, w) ∷ set_value s es v) (e ∷ set_value t (set_value s es v) w)) h)

-- ---- one that is put in, and one that is changed

pub lookup-insert_other : {K X : Type 0} (R : K → K → Ordering) (t : K → Bool) (k : K) (x : X) → t k ≡ false → (es : List (K × X)) → lookup (is_at (R k)) es ≡ None → lookup t (insert_entry R es k x) ≡ lookup t es
lookup-insert_other R t k x off [] absent = ap (λ b. cond b (Some x) None) off
lookup-insert_other {K} {X} R t k x off (e ∷ es) absent =
    elim (R k e.0) as (λ o. cond (is_eq o) (Some e.1) (lookup (is_at (R k)) es) ≡ None → lookup t (match_ordering o ((k, x) ∷ e ∷ es) ((e.0, x) ∷ es) (e ∷ insert_entry R es k x)) ≡ lookup t (e ∷ es)) [
      | Less ↦ λ h. ap (λ b. cond b (Some x) (lookup t (e ∷ es))) off
      | Equal ↦ λ h. absurd cc
      | Greater ↦ λ h. ap (λ (o : Option X). cond (t e.0) (Some e.1) o) (lookup-insert_other R t k x off es h)
    ] absent

pub set-insert : {K X : Type 0} (R : K → K → Ordering) (t : K → Bool) (k : K) (x w : X) → t k ≡ false → (es : List (K × X)) → lookup (is_at (R k)) es ≡ None → set_value t (insert_entry R es k x) w ≡ insert_entry R (set_value t es w) k x
set-insert {K} {X} R t k x w off [] absent = ap (λ b. cond b ((k, w) ∷ []) ((k, x) ∷ [])) off
set-insert {K} {X} R t k x w off (e ∷ es) absent =
    elim (R k e.0) as (λ o. R k e.0 ≡ o → cond (is_eq o) (Some e.1) (lookup (is_at (R k)) es) ≡ None → set_value t (match_ordering o ((k, x) ∷ e ∷ es) ((e.0, x) ∷ es) (e ∷ insert_entry R es k x)) w ≡ insert_entry R (cond (t e.0) ((e.0, w) ∷ es) (e ∷ set_value t es w)) k x) [
      | Less ↦ λ r h. ap (λ b. cond b ((k, w) ∷ e ∷ es) ((k, x) ∷ cond (t e.0) ((e.0, w) ∷ es) (e ∷ set_value t es w))) off ∙ before (t e.0) r
      | Equal ↦ λ r h. absurd cc
      | Greater ↦ λ r h. behind (t e.0) r (set-insert R t k x w off es h)
    ] refl absent
  where
    before : (b : Bool) → R k e.0 ≡ Less → (k, x) ∷ cond b ((e.0, w) ∷ es) (e ∷ set_value t es w) ≡ insert_entry R (cond b ((e.0, w) ∷ es) (e ∷ set_value t es w)) k x
    before true r = sym (ap (λ o. match_ordering o ((k, x) ∷ (e.0, w) ∷ es) ((e.0, x) ∷ es) ((e.0, w) ∷ insert_entry R es k x)) r)
    before false r = sym (ap (λ o. match_ordering o ((k, x) ∷ e ∷ set_value t es w) ((e.0, x) ∷ set_value t es w) (e ∷ insert_entry R (set_value t es w) k x)) r)

    behind : (b : Bool) → R k e.0 ≡ Greater → set_value t (insert_entry R es k x) w ≡ insert_entry R (set_value t es w) k x
        → cond b ((e.0, w) ∷ insert_entry R es k x) (e ∷ set_value t (insert_entry R es k x) w) ≡ insert_entry R (cond b ((e.0, w) ∷ es) (e ∷ set_value t es w)) k x
    behind true r u = sym (ap (λ o. match_ordering o ((k, x) ∷ (e.0, w) ∷ es) ((e.0, x) ∷ es) ((e.0, w) ∷ insert_entry R es k x)) r)
    behind false r u =
        ap (λ (l : List (K × X)). e ∷ l) u
        ∙ sym (ap (λ o. match_ordering o ((k, x) ∷ e ∷ set_value t es w) ((e.0, x) ∷ set_value t es w) (e ∷ insert_entry R (set_value t es w) k x)) r)

-- ---- two that are put in

module _ {K : Type 0} {R : K → K → Ordering} (o : IsTotalOrder R) where
  pub turned : (a b : K) (r : Ordering) → R a b ≡ r → R b a ≡ ordering_reverse r
  turned a b r h = o.antisymm b a ∙ ap ordering_reverse h

  above : (a b e : K) → R a b ≡ Less → R a e ≡ Greater → R b e ≡ Greater
  above a b e less h = turned e b Less (o.trans e a b (turned a e Greater h) less)

module _ {K X : Type 0} {R : K → K → Ordering} (o : IsTotalOrder R) where
  pub insert-insert : (a b : K) (x y : X) → R a b ≡ Less → (es : List (K × X)) → lookup (is_at (R a)) es ≡ None → insert_entry R (insert_entry R es a x) b y ≡ insert_entry R (insert_entry R es b y) a x
  insert-insert a b x y less [] absent =
      ap (λ r. match_ordering r ((b, y) ∷ (a, x) ∷ []) ((a, y) ∷ []) ((a, x) ∷ (b, y) ∷ [])) (turned o a b Less less)
      ∙ sym (ap (λ r. match_ordering r ((a, x) ∷ (b, y) ∷ []) ((b, x) ∷ []) ((b, y) ∷ (a, x) ∷ [])) less)
  insert-insert a b x y less (e ∷ es) absent =
      elim (R a e.0) as (λ r. R a e.0 ≡ r → cond (is_eq r) (Some e.1) (lookup (is_at (R a)) es) ≡ None
      → insert_entry R (match_ordering r ((a, x) ∷ e ∷ es) ((e.0, x) ∷ es) (e ∷ insert_entry R es a x)) b y ≡ insert_entry R (match_ordering (R b e.0) ((b, y) ∷ e ∷ es) ((e.0, y) ∷ es) (e ∷ insert_entry R es b y)) a x) [
        | Less ↦ λ r h.
            ap (λ s. match_ordering s ((b, y) ∷ (a, x) ∷ e ∷ es) ((a, y) ∷ e ∷ es) ((a, x) ∷ match_ordering (R b e.0) ((b, y) ∷ e ∷ es) ((e.0, y) ∷ es) (e ∷ insert_entry R es b y))) (turned o a b Less less)
            ∙ front (R b e.0) r
        | Equal ↦ λ r h. absurd cc
        | Greater ↦ λ r h.
            ap (λ s. match_ordering s ((b, y) ∷ e ∷ insert_entry R es a x) ((e.0, y) ∷ insert_entry R es a x) (e ∷ insert_entry R (insert_entry R es a x) b y)) (above o a b e.0 less r)
            ∙ ap (λ (l : List (K × X)). e ∷ l) (insert-insert a b x y less es h)
            ∙ sym (ap (λ s. match_ordering s ((a, x) ∷ e ∷ insert_entry R es b y) ((e.0, x) ∷ insert_entry R es b y) (e ∷ insert_entry R (insert_entry R es b y) a x)) r)
            ∙ sym (ap (λ s. insert_entry R (match_ordering s ((b, y) ∷ e ∷ es) ((e.0, y) ∷ es) (e ∷ insert_entry R es b y)) a x) (above o a b e.0 less r))
      ] refl absent
    where
      front : (s : Ordering) → R a e.0 ≡ Less → (a, x) ∷ match_ordering s ((b, y) ∷ e ∷ es) ((e.0, y) ∷ es) (e ∷ insert_entry R es b y)
          ≡ insert_entry R (match_ordering s ((b, y) ∷ e ∷ es) ((e.0, y) ∷ es) (e ∷ insert_entry R es b y)) a x
      front Less r = sym (ap (λ q. match_ordering q ((a, x) ∷ (b, y) ∷ e ∷ es) ((b, x) ∷ e ∷ es) ((b, y) ∷ insert_entry R (e ∷ es) a x)) less)
      front Equal r = sym (ap (λ q. match_ordering q ((a, x) ∷ (e.0, y) ∷ es) ((e.0, x) ∷ es) ((e.0, y) ∷ insert_entry R es a x)) r)
      front Greater r = sym (ap (λ q. match_ordering q ((a, x) ∷ e ∷ insert_entry R es b y) ((e.0, x) ∷ insert_entry R es b y) (e ∷ insert_entry R (insert_entry R es b y) a x)) r)
