-- Lists with the same elements: an element that is passed over, one relation after another, and what comes and goes in the midst of a list.
use Rattle.std.proofs.Common.{◌≡◌, List, [], ◌∷◌, ◌++◌, refl, sym, ap, subst, ◌∙◌, append_assoc}
use Rattle.inventory_rules.proofs.of_inventory_rows.of_object_rows.Splices.{Splices}
use Rattle.inventory_rules.specs.Reordered.{Picks, IsReordered}

-- ---- an element that is taken out
pub picks_first : {A : Type 0} (x : A) (xs : List A) → Picks x (x ∷ xs) xs
picks_first x xs = record { before = []; after = xs; was = refl; becomes = refl }

pub picks_behind : {A : Type 0} {x : A} {old new : List A} (more : List A) → Picks x old new → Picks x (more ++ old) (more ++ new)
picks_behind {A} {x} {old} {new} more p = record {
  before = more ++ p.before;
  after = p.after;
  was = ap (λ z. more ++ z) p.was ∙ sym (append_assoc more p.before (x ∷ p.after));
  becomes = ap (λ z. more ++ z) p.becomes ∙ sym (append_assoc more p.before p.after);
}

pub picks_ahead : {A : Type 0} {x : A} {old new : List A} (more : List A) → Picks x old new → Picks x (old ++ more) (new ++ more)
picks_ahead {A} {x} {old} {new} more p = record {
  before = p.before;
  after = p.after ++ more;
  was = ap (λ z. z ++ more) p.was ∙ append_assoc p.before (x ∷ p.after) more;
  becomes = ap (λ z. z ++ more) p.becomes ∙ append_assoc p.before p.after more;
}

-- two elements that are taken out, in the other order
record Swapped {A : Type 0} (x b : A) (old new : List A) : Type 0 where
  pub left : List A
  pub first : Picks x old left
  pub second : Picks b left new

swap_parts : {A : Type 0} (b x : A) (p q r s : List A) → p ++ q ≡ r ++ (x ∷ s) → Swapped x b (p ++ (b ∷ q)) (r ++ s)
swap_parts b x [] q r s h = record {
  left = b ∷ (r ++ s);
  first = record { before = b ∷ r; after = s; was = ap (λ t. b ∷ t) h; becomes = refl };
  second = picks_first b (r ++ s);
}
swap_parts b x (c ∷ p) q [] s h =
    let head : c ≡ x = cc in
    let tail : p ++ q ≡ s = cc in
    record {
      left = p ++ (b ∷ q);
      first = record { before = []; after = p ++ (b ∷ q); was = ap (λ t. t ∷ (p ++ (b ∷ q))) head; becomes = refl };
      second = record { before = p; after = q; was = refl; becomes = sym tail };
    }
swap_parts b x (c ∷ p) q (d ∷ r) s h =
    let head : c ≡ d = cc in
    let tail : p ++ q ≡ r ++ (x ∷ s) = cc in
    let w : Swapped x b (p ++ (b ∷ q)) (r ++ s) = swap_parts b x p q r s tail in
    record {
      left = c ∷ w.left;
      first = picks_behind (c ∷ []) w.first;
      second = subst (λ t. Picks b (c ∷ w.left) (t ∷ (r ++ s))) head (picks_behind (c ∷ []) w.second);
    }

swap : {A : Type 0} {b x : A} {old one new : List A} → Picks b old one → Picks x one new → Swapped x b old new
swap {A} {b} {x} {old} {one} {new} p q =
    let w : Swapped x b (p.before ++ (b ∷ p.after)) (q.before ++ q.after) = swap_parts b x p.before p.after q.before q.after (sym p.becomes ∙ q.was) in
    subst (λ t. Swapped x b t new) (sym p.was) (subst (λ t. Swapped x b (p.before ++ (b ∷ p.after)) t) (sym q.becomes) w)

-- ---- lists with the same elements
pub reordered_self : {A : Type 0} (xs : List A) → IsReordered xs xs
reordered_self [] = refl
reordered_self (x ∷ xs) = (xs, picks_first x xs, reordered_self xs)

pub reordered_ahead : {A : Type 0} (xs ys more : List A) → IsReordered xs ys → IsReordered (xs ++ more) (ys ++ more)
reordered_ahead [] ys more h = subst (λ t. IsReordered more (t ++ more)) (sym h) (reordered_self more)
reordered_ahead (x ∷ xs) ys more h = (h.0 ++ more, picks_ahead more h.1, reordered_ahead xs h.0 more h.2)

pub reordered_behind : {A : Type 0} (more xs ys : List A) → IsReordered xs ys → IsReordered (more ++ xs) (more ++ ys)
reordered_behind [] xs ys h = h
reordered_behind (m ∷ more) xs ys h = (more ++ ys, picks_first m (more ++ ys), reordered_behind more xs ys h)

-- what stands in front may stand behind
pub reordered_past : {A : Type 0} (front mid back : List A) → IsReordered (front ++ (mid ++ back)) (mid ++ (front ++ back))
reordered_past [] mid back = reordered_self (mid ++ back)
reordered_past (x ∷ front) mid back = (mid ++ (front ++ back), picks_behind mid (picks_first x (front ++ back)), reordered_past front mid back)

pick_through : {A : Type 0} (x : A) (before after new : List A) → IsReordered (before ++ (x ∷ after)) new → (left : List A) × Picks x new left × IsReordered (before ++ after) left
pick_through x [] after new h = h
pick_through {A} x (b ∷ before) after new h =
    let w : (left : List A) × Picks x h.0 left × IsReordered (before ++ after) left = pick_through x before after h.0 h.2 in
    let s : Swapped x b new w.0 = swap h.1 w.1 in
    (s.left, s.first, (w.0, s.second, w.2))

-- one after another
pub reordered_through : {A : Type 0} (xs ys zs : List A) → IsReordered xs ys → IsReordered ys zs → IsReordered xs zs
reordered_through [] ys zs h k = subst (λ t. IsReordered t zs) h k
reordered_through {A} (x ∷ xs) ys zs h k =
    let p : Picks x ys h.0 = h.1 in
    let w : (left : List A) × Picks x zs left × IsReordered (p.before ++ p.after) left = pick_through x p.before p.after zs (subst (λ t. IsReordered t zs) p.was k) in
    (w.0, w.1, reordered_through xs (p.before ++ p.after) w.0 (subst (λ t. IsReordered xs t) p.becomes h.2) w.2)

-- ---- what comes and goes in one place of a list
within : {A : Type 0} (front back xs ys before after : List A) → IsReordered (front ++ xs) (back ++ ys) → IsReordered (front ++ (before ++ (xs ++ after))) (back ++ (before ++ (ys ++ after)))
within front back xs ys before after h =
    let one : IsReordered (front ++ (before ++ (xs ++ after))) (before ++ (front ++ (xs ++ after))) = reordered_past front before (xs ++ after) in
    let two : IsReordered (before ++ ((front ++ xs) ++ after)) (before ++ ((back ++ ys) ++ after)) =
    reordered_behind before ((front ++ xs) ++ after) ((back ++ ys) ++ after) (reordered_ahead (front ++ xs) (back ++ ys) after h) in
    let also : IsReordered (before ++ (front ++ (xs ++ after))) (before ++ (back ++ (ys ++ after))) =
    subst (λ t. IsReordered (before ++ t) (before ++ (back ++ (ys ++ after)))) (append_assoc front xs after) (subst (λ t. IsReordered (before ++ ((front ++ xs) ++ after)) (before ++ t)) (append_assoc back ys after) two) in
    let three : IsReordered (before ++ (back ++ (ys ++ after))) (back ++ (before ++ (ys ++ after))) = reordered_past before back (ys ++ after) in
    reordered_through (front ++ (before ++ (xs ++ after))) (before ++ (front ++ (xs ++ after))) (back ++ (before ++ (ys ++ after))) one
    (reordered_through (before ++ (front ++ (xs ++ after))) (before ++ (back ++ (ys ++ after))) (back ++ (before ++ (ys ++ after))) also three)

pub splice_reordered : {A : Type 0} (front back : List A) {xs ys old new : List A} → Splices xs ys old new → IsReordered (front ++ xs) (back ++ ys) → IsReordered (front ++ old) (back ++ new)
splice_reordered {A} front back {xs} {ys} {old} {new} s h =
    subst (λ t. IsReordered (front ++ t) (back ++ new)) (sym s.was)
    (subst (λ t. IsReordered (front ++ (s.before ++ (xs ++ s.after))) (back ++ t)) (sym s.becomes) (within front back xs ys s.before s.after h))
