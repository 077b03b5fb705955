-- A stable sort by objects puts lines in the order of their objects.
use Rattle.std.proofs.Common.{◌≡◌, ℕ, zero, suc, ◌<◌, ◌≤◌, Bool, true, false, cond, eqb, List, [], ◌∷◌, length, get_or, filter, nat_cmp, is_lt, refl, sym, ap, ◌∙◌, arith, inl, inr, leb, suc-le-suc, zero-le}
use Rattle.std.proofs.lemmas.Bool.{cond-true, cond-false, cases_Bool, eq-eqb, false≢true, leb-true, leb-false, ne_eqb}
use Rattle.std.proofs.lemmas.Bool.Decides.{nat_tests}
use Rattle.std.specs.List.Sorted.{ties, IsNonDecreasingBy, IsStableByKey}
use Rattle.inventory_work.specs.ByObject.{by_object, put_line}

ties_at : (m n : ℕ) → (ties (λ x y. is_lt (nat_cmp x y)) m n ≡ true → m ≡ n) × (m ≡ n → ties (λ x y. is_lt (nat_cmp x y)) m n ≡ true)
ties_at m n = (λ h. grind (arith, nat_tests), λ h. grind (arith, nat_tests))

module _ {A : Type 0} (object : A → ℕ) where
  abbrev are_of_one : A → A → Bool
  are_of_one = ties (λ x y. is_lt (nat_cmp (object x) (object y)))

  one-true : (x y : A) → are_of_one x y ≡ true → object x ≡ object y
  one-true x y = (ties_at (object x) (object y)).0

  one_from : (x y : A) → object x ≡ object y → are_of_one x y ≡ true
  one_from x y = (ties_at (object x) (object y)).1

  filter-kept : (p : A → Bool) (y : A) (ys : List A) → p y ≡ true → filter p (y ∷ ys) ≡ y ∷ filter p ys
  filter-kept p y ys h = cond-true _ _ _ h

  filter-dropped : (p : A → Bool) (y : A) (ys : List A) → p y ≡ false → filter p (y ∷ ys) ≡ filter p ys
  filter-dropped p y ys h = cond-false _ _ _ h

  put-here : (x y : A) (ys : List A) → leb (object x) (object y) ≡ true → put_line object x (y ∷ ys) ≡ x ∷ y ∷ ys
  put-here x y ys h = cond-true _ _ _ h

  put-behind : (x y : A) (ys : List A) → leb (object x) (object y) ≡ false → put_line object x (y ∷ ys) ≡ y ∷ put_line object x ys
  put-behind x y ys h = cond-false _ _ _ h

  -- the lines of an object stand in the order that they had

  filter-put : (x c : A) (ds : List A) → filter (are_of_one x) (put_line object c ds) ≡ filter (are_of_one x) (c ∷ ds)
  filter-put x c [] = refl
  filter-put x c (d ∷ ds) =
      let p = are_of_one x in
      elim (cases_Bool (leb (object c) (object d))) [
        | inl here ↦ ap (filter p) (put-here c d ds here)
        | inr past ↦
            let above = leb-false (object c) (object d) past in
            ap (filter p) (put-behind c d ds past)
            ∙ elim (cases_Bool (p d)) [
              | inr without ↦
                  filter-dropped p d (put_line object c ds) without ∙ filter-put x c ds
                  ∙ ap (λ l. cond (p c) (c ∷ l) l) (sym (filter-dropped p d ds without))
              | inl with ↦
                  elim (cases_Bool (p c)) [
                    | inl both ↦ absurd (omega (arith, above, one-true x c both, one-true x d with))
                    | inr only ↦
                        filter-kept p d (put_line object c ds) with ∙ ap (λ l. d ∷ l) (filter-put x c ds ∙ filter-dropped p c ds only)
                        ∙ sym (filter-dropped p c (d ∷ ds) only ∙ filter-kept p d ds with)
                  ]
            ]
      ]

  filter-by_object : (x : A) (cs : List A) → filter (are_of_one x) (by_object object cs) ≡ filter (are_of_one x) cs
  filter-by_object x [] = refl
  filter-by_object x (c ∷ cs) = filter-put x c (by_object object cs) ∙ ap (λ l. cond (are_of_one x c) (c ∷ l) l) (filter-by_object x cs)

  -- they ascend

  abbrev pub AreAtLeast : ℕ → List A → Type 0
  AreAtLeast n [] = Unit {0}
  AreAtLeast n (y ∷ ys) = (n ≤ object y) × AreAtLeast n ys

  abbrev pub Rises : List A → Type 0
  Rises [] = Unit {0}
  Rises (y ∷ ys) = AreAtLeast (object y) ys × Rises ys

  AreAtLeast-le : (n m : ℕ) (ys : List A) → n ≤ m → AreAtLeast m ys → AreAtLeast n ys
  AreAtLeast-le n m [] le h = tt
  AreAtLeast-le n m (y ∷ ys) le h = let first = h.0 in (omega arith, AreAtLeast-le n m ys le h.1)

  AreAtLeast-at : (n : ℕ) (ys : List A) → ((j : ℕ) (d : A) → j < length ys → n ≤ object (get_or ys j d)) → AreAtLeast n ys
  AreAtLeast-at n [] h = tt
  AreAtLeast-at n (y ∷ ys) h = (h zero y (suc-le-suc zero-le), AreAtLeast-at n ys (λ j d lt. h (suc j) d (suc-le-suc lt)))

  Rises-from_sort : (ys : List A) → IsNonDecreasingBy object ys → Rises ys
  Rises-from_sort [] h = tt
  Rises-from_sort (y ∷ ys) h = (
    AreAtLeast-at (object y) ys (λ j d lt. h zero (suc j) d zero-le (suc-le-suc lt)),
    Rises-from_sort ys (λ i j d le lt. h (suc i) (suc j) d (suc-le-suc le) (suc-le-suc lt)),
  )

  AreAtLeast-put : (n : ℕ) (x : A) (ys : List A) → n ≤ object x → AreAtLeast n ys → AreAtLeast n (put_line object x ys)
  AreAtLeast-put n x [] le h = (le, tt)
  AreAtLeast-put n x (y ∷ ys) le h =
      elim (leb (object x) (object y)) as (λ b. AreAtLeast n (cond b (x ∷ y ∷ ys) (y ∷ put_line object x ys))) [
        | true ↦ (le, h)
        | false ↦ (h.0, AreAtLeast-put n x ys le h.1)
      ]

  Rises-put : (x : A) (ys : List A) → Rises ys → Rises (put_line object x ys)
  Rises-put x [] h = (tt, tt)
  Rises-put x (y ∷ ys) h =
      elim (leb (object x) (object y)) as (λ b. leb (object x) (object y) ≡ b → Rises (cond b (x ∷ y ∷ ys) (y ∷ put_line object x ys))) [
        | true ↦ λ t. let le = leb-true (object x) (object y) t in ((le, AreAtLeast-le (object x) (object y) ys le h.0), h)
        | false ↦ λ t. let gt = leb-false (object x) (object y) t in (AreAtLeast-put (object y) x ys (omega (arith, gt)) h.0, Rises-put x ys h.1)
      ] refl

  Rises-by_object : (xs : List A) → Rises (by_object object xs)
  Rises-by_object [] = tt
  Rises-by_object (x ∷ xs) = Rises-put x (by_object object xs) (Rises-by_object xs)

  -- the object of x is that of one of them
  AreAtLeast-found : (n : ℕ) (x : A) (ys : List A) (w : A) (ws : List A) → AreAtLeast n ys → filter (are_of_one x) ys ≡ w ∷ ws → n ≤ object x
  AreAtLeast-found n x [] w ws h e = cc
  AreAtLeast-found n x (y ∷ ys) w ws h e =
      elim (cases_Bool (are_of_one x y)) [
        | inl with ↦ omega (arith, h.0, one-true x y with)
        | inr without ↦ AreAtLeast-found n x ys w ws h.1 (sym (filter-dropped (are_of_one x) y ys without) ∙ e)
      ]

  same_from_objects : (ys zs : List A) → Rises ys → Rises zs → ((x : A) → filter (are_of_one x) ys ≡ filter (are_of_one x) zs) → ys ≡ zs
  same_from_objects [] [] left right same = refl
  same_from_objects [] (z ∷ zs) left right same =
      let clash = same z ∙ filter-kept (are_of_one z) z zs (one_from z z refl) in cc
  same_from_objects (y ∷ ys) [] left right same =
      let clash = sym (same y) ∙ filter-kept (are_of_one y) y ys (one_from y y refl) in cc
  same_from_objects (y ∷ ys) (z ∷ zs) left right same =
      let at_y = filter-kept (are_of_one y) y ys (one_from y y refl) in
      let at_z = filter-kept (are_of_one z) z zs (one_from z z refl) in
      let up = AreAtLeast-found (object z) y (z ∷ zs) y _ (omega arith, right.0) (sym (same y) ∙ at_y) in
      let down = AreAtLeast-found (object y) z (y ∷ ys) z _ (omega arith, left.0) (same z ∙ at_z) in
      let heads = sym at_y ∙ same y ∙ filter-kept (are_of_one y) z zs (one_from y z (omega arith)) in
      let head : y ≡ z = cc in
      let tails : (x : A) → filter (are_of_one x) ys ≡ filter (are_of_one x) zs =
      λ x. elim (cases_Bool (are_of_one x y)) [
        | inl with ↦
            let both = sym (filter-kept (are_of_one x) y ys with) ∙ same x ∙ filter-kept (are_of_one x) z zs (ap (are_of_one x) (sym head) ∙ with) in cc
        | inr without ↦
            sym (filter-dropped (are_of_one x) y ys without) ∙ same x ∙ filter-dropped (are_of_one x) z zs (ap (are_of_one x) (sym head) ∙ without)
      ] in
      ap (λ w. w ∷ ys) head ∙ ap (λ l. z ∷ l) (same_from_objects ys zs left.1 right.1 tails)

  pub by_object-from_sort : (xs ys : List A) → IsNonDecreasingBy object ys → IsStableByKey object nat_cmp xs ys → ys ≡ by_object object xs
  by_object-from_sort xs ys sorted stable =
      same_from_objects ys (by_object object xs) (Rises-from_sort ys sorted) (Rises-by_object xs)
      (λ x. stable x ∙ sym (filter-by_object x xs))

  one_is : (x y : A) → are_of_one x y ≡ eqb (object y) (object x)
  one_is x y =
      elim (cases_Bool (are_of_one x y)) [
        | inl h ↦ h ∙ sym (eq-eqb (object y) (object x) (sym (one-true x y h)))
        | inr h ↦ h ∙ sym (ne_eqb (object y) (object x) (λ e. false≢true (sym h ∙ one_from x y (sym e))))
      ]

  filter_is : (x : A) (ys : List A) → filter (are_of_one x) ys ≡ filter (λ y. eqb (object y) (object x)) ys
  filter_is x [] = refl
  filter_is x (y ∷ ys) =
      ap (λ b. cond b (y ∷ filter (are_of_one x) ys) (filter (are_of_one x) ys)) (one_is x y)
      ∙ ap (λ (l : List A). cond (eqb (object y) (object x)) (y ∷ l) l) (filter_is x ys)

  -- lines that ascend, of each object the same that others have, are those others in the order of objects
  pub by_object-from_objects : (ys cs : List A) → Rises ys → ((n : ℕ) → filter (λ y. eqb (object y) n) ys ≡ filter (λ y. eqb (object y) n) cs) → ys ≡ by_object object cs
  by_object-from_objects ys cs rises same =
      same_from_objects ys (by_object object cs) rises (Rises-by_object cs)
      (λ x. filter_is x ys ∙ same (object x) ∙ sym (filter_is x cs) ∙ sym (filter-by_object x cs))
