-- Reading so many values one after the other, as a loop does.
use Rattle.std.proofs.Common.{◌≡◌, ℕ, zero, suc, length, ◌-◌, ◌+◌, ◌≤◌, ◌<◌, List, [], ◌∷◌, ◌++◌, Option, Some, None, refl, sym, ap, ◌∙◌, append_assoc, arith}
use Rattle.std.proofs.lemmas.List.{append-nil}
use Rattle.fields.specs.declared.errors.Fault.{Fault}
use Rattle.fields.specs.declared.errors.Fault.TheVariants.{Malformed, Memory}
use Rattle.std.proofs.lemmas.Option.{same_Some}
use Rattle.fields.specs.FieldLaws.{bind_some}
use Rattle.fields.specs.Reading.{◌>>=◌}
use Rattle.fields.specs.Forms.{times_at}
use Rattle.fields.specs.Gives.{Fails}

-- what was read before, and what is still read
abbrev pub with_front : {A : Type 0} → List A → Option (List A × List ℕ) → Option (List A × List ℕ)
with_front front read = read >>= λ x. Some (front ++ x.0, x.1)

pub with_front-cons : {A : Type 0} (front : List A) (x : A) (read : Option (List A × List ℕ)) → with_front front (read >>= λ xs. Some (x ∷ xs.0, xs.1)) ≡ with_front (front ++ x ∷ []) read
with_front-cons {A} front x (Some xs) = ap (λ (all : List A). Some (all, xs.1)) (simp append_assoc)
with_front-cons front x None = refl

-- so many values are read
pub length-times_at : {A : Type 0} (read : List ℕ → Option (A × List ℕ)) (n : ℕ) (bytes : List ℕ) (xs : List A × List ℕ) → times_at read n bytes ≡ Some xs → length xs.0 ≡ n
unfolding times_at
length-times_at {A} read zero bytes xs e = ap (λ (x : List A × List ℕ). length x.0) (sym (same_Some ([], bytes) xs e))
length-times_at {A} read (suc n) bytes xs e =
    let a = bind_some (read bytes) (λ x. times_at read n x.1 >>= λ others. Some (x.0 ∷ others.0, others.1)) xs e in
    let b = bind_some (times_at read n a.0.1) (λ others. Some (a.0.0 ∷ others.0, others.1)) xs a.2 in
    ap (λ (x : List A × List ℕ). length x.0) (sym (same_Some (a.0.0 ∷ b.0.0, b.0.1) xs b.2)) ∙ ap suc (length-times_at read n a.0.1 b.0 b.1)

module _ {A : Type 0} (read : List ℕ → Option (A × List ℕ)) (front : List A) (count i : ℕ) (bytes : List ℕ) (total : Option (List A × List ℕ)) where
  pub times_go_on : (x : A) (after : List ℕ) → i < count → read bytes ≡ Some (x, after) → with_front front (times_at read (count - i) bytes) ≡ total → with_front (front ++ x ∷ []) (times_at read (count - (i + 1)) after) ≡ total
  unfolding times_at
  times_go_on x after lt h so_far =
      let k : count - i ≡ suc (count - (i + 1)) = omega arith in
      let one : with_front front (times_at read (count - i) bytes) ≡ with_front (front ++ x ∷ []) (times_at read (count - (i + 1)) after) = rw (k, h) (with_front-cons front x (times_at read (count - (i + 1)) after)) in
      sym one ∙ so_far

  pub times_end : (fault : Fault) → i < count → Fails fault (read bytes) → with_front front (times_at read (count - i) bytes) ≡ total → Fails fault total
  unfolding times_at
  times_end Memory lt h so_far = tt
  times_end Malformed lt h so_far =
      let k : count - i ≡ suc (count - (i + 1)) = omega arith in
      let one : with_front front (times_at read (count - i) bytes) ≡ None = rw (k, h) refl in
      sym so_far ∙ one

  pub times_done : count ≤ i → with_front front (times_at read (count - i) bytes) ≡ total → total ≡ Some (front, bytes)
  unfolding times_at
  times_done le so_far =
      let k : count - i ≡ 0 = omega arith in
      let one : with_front front (times_at read (count - i) bytes) ≡ Some (front, bytes) = rw k (ap (λ (all : List A). Some (all, bytes)) (append-nil front)) in
      sym so_far ∙ one
