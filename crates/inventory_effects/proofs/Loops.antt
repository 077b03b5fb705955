-- Loops that make a step for each item of a list, one after the other.
use Rattle.std.proofs.Common.{◌≡◌, ◌<◌, ◌≤◌, ◌+◌, ℕ, List, [], ◌∷◌, length, get_or, drop, sym, ap, subst, ◌∙◌}
use Rattle.inventory_rows.proofs.of_version_groups.Lists.{drop_at}
use Rattle.std.proofs.lemmas.List.{drop_all}
use Rattle.inventory_rules.specs.Common.{CanEach}

module _ {X S : Type 0} (step : X → S → S) (all : List X → S → S) where
  -- after the step of the next item those behind it are left
  pub next : ((x : X) (xs : List X) (s : S) → all (x ∷ xs) s ≡ all xs (step x s)) → (items : List X) (i : ℕ) (x : X) (now new whole : S) → i < length items → x ≡ get_or items i x → new ≡ step x now → all (drop i items) now ≡ whole → all (drop (i + 1) items) new ≡ whole
  next unfolds items i x now new whole h is made u =
      ap (all (drop (i + 1) items)) made ∙ sym (unfolds x (drop (i + 1) items) now)
      ∙ sym (ap (λ (left : List X). all left now) (drop_at items i x h ∙ ap (λ (y : X). y ∷ drop (i + 1) items) (sym is))) ∙ u

  -- where no item is left, the whole is reached
  pub last : ((s : S) → all [] s ≡ s) → (items : List X) (i : ℕ) (now whole : S) → length items ≤ i → all (drop i items) now ≡ whole → now ≡ whole
  last ends items i now whole h u = sym (ends now) ∙ sym (ap (λ (left : List X). all left now) (drop_all i items h)) ∙ u

module _ {X S : Type 0} (Can : X → S → Type 0) (step : X → S → S) (all : List X → S → S) where
  -- Of a list these items are left: the steps of what is left can be made, and lead to the whole.
  pub record Underway (left : List X) (now whole : S) : Type 0 where
    pub can : CanEach Can step left now
    pub comes : all left now ≡ whole

  -- what can be done for the next item and for those behind it
  both : (items : List X) (i : ℕ) (x : X) (now whole : S) → i < length items → x ≡ get_or items i x → Underway (drop i items) now whole → CanEach Can step (x ∷ drop (i + 1) items) now
  both items i x now whole h is u =
      subst (λ (left : List X). CanEach Can step left now) (drop_at items i x h ∙ ap (λ (y : X). y ∷ drop (i + 1) items) (sym is)) u.can

  -- the step of the next item can be made
  pub here : (items : List X) (i : ℕ) (x : X) (now whole : S) → i < length items → x ≡ get_or items i x → Underway (drop i items) now whole → Can x now
  here items i x now whole h is u = (both items i x now whole h is u).0

  -- after it those behind it are left
  pub further : ((x : X) (xs : List X) (s : S) → all (x ∷ xs) s ≡ all xs (step x s)) → (items : List X) (i : ℕ) (x : X) (now new whole : S) → i < length items → x ≡ get_or items i x → new ≡ step x now → Underway (drop i items) now whole → Underway (drop (i + 1) items) new whole
  further unfolds items i x now new whole h is made u =
      record {
        can = subst (CanEach Can step (drop (i + 1) items)) (sym made) (both items i x now whole h is u).1;
        comes = next step all unfolds items i x now new whole h is made u.comes;
      }

  -- where no item is left, the whole is reached
  pub over : ((s : S) → all [] s ≡ s) → (items : List X) (i : ℕ) (now whole : S) → length items ≤ i → Underway (drop i items) now whole → now ≡ whole
  over ends items i now whole h u = last step all ends items i now whole h u.comes

module _ {X S : Type 0} (step : X → S → S) (all : List X → S → S) where
  -- the same, where the next item is read by its place
  pub next_at : ((x : X) (xs : List X) (s : S) → all (x ∷ xs) s ≡ all xs (step x s)) → (items : List X) (i : ℕ) (d : X) (now new whole : S) → i < length items → new ≡ step (get_or items i d) now → all (drop i items) now ≡ whole → all (drop (i + 1) items) new ≡ whole
  next_at unfolds items i d now new whole h made u =
      ap (all (drop (i + 1) items)) made ∙ sym (unfolds (get_or items i d) (drop (i + 1) items) now) ∙ sym (ap (λ (left : List X). all left now) (drop_at items i d h)) ∙ u

-- the next item of a list, and those behind it
pub split_item : {X : Type 0} (items : List X) (i : ℕ) (x : X) → i < length items → x ≡ get_or items i x → drop i items ≡ x ∷ drop (i + 1) items
split_item items i x h is = drop_at items i x h ∙ ap (λ y. y ∷ drop (i + 1) items) (sym is)

module _ {X S : Type 0} (Can : X → S → Type 0) (step : X → S → S) (all : List X → S → S) where
  -- the step of the first of what is left can be made
  pub first : (left rest : List X) (x : X) (now whole : S) → left ≡ x ∷ rest → Underway Can step all left now whole → Can x now
  first left rest x now whole split u =
      let p : CanEach Can step (x ∷ rest) now = subst (λ (l : List X). CanEach Can step l now) split u.can in
      p.0

  -- after it the rest is left
  pub behind : ((x : X) (xs : List X) (s : S) → all (x ∷ xs) s ≡ all xs (step x s)) → (left rest : List X) (x : X) (now new whole : S) → left ≡ x ∷ rest → new ≡ step x now → Underway Can step all left now whole → Underway Can step all rest new whole
  behind unfolds left rest x now new whole split made u =
      let p : CanEach Can step (x ∷ rest) now = subst (λ (l : List X). CanEach Can step l now) split u.can in
      record {
        can = subst (CanEach Can step rest) (sym made) p.1;
        comes = ap (all rest) made ∙ sym (unfolds x rest now) ∙ sym (ap (λ (l : List X). all l now) split) ∙ u.comes;
      }
