-- Bytes written over others, and pieces that stand.
use Rattle.std.proofs.Common.{◌≡◌, ◌⊎◌, inl, inr, ℕ, ◌+◌, ◌-◌, ◌<◌, ◌≤◌, List, [], ◌∷◌, ◌++◌, length, get_or, take, drop, replicate, refl, sym, ◌∙◌, ap, arith}
use Rattle.std.proofs.lemmas.Bool.{cases_lt}
use Rattle.std.proofs.lemmas.List.{ext_get_or, length-append, length-take, length-drop, length-replicate, length-take-le, get_or_append_left, get_or-append_right, get_or-take, get_or-drop, get_or-replicate, get_or_past}
use Rattle.store_api.specs.Disk.{overwritten}
use Rattle.store_api.specs.Runs.{Stands}

-- the part before what is written
front : List ℕ → ℕ → List ℕ
front bytes at = take at bytes ++ replicate (at - length bytes) 0

length-front : (bytes : List ℕ) (at : ℕ) → length (front bytes at) ≡ at
unfolding front
length-front bytes at = grind (arith, length-append {A = ℕ}, length-take {A = ℕ}, length-replicate {A = ℕ})

get_or-front : (bytes : List ℕ) (at k : ℕ) → k < at → get_or (front bytes at) k 0 ≡ get_or bytes k 0
unfolding front
get_or-front bytes at k lt = elim (cases_lt k (length bytes)) [
  | inl within ↦ get_or_append_left (take at bytes) (replicate (at - length bytes) 0) 0 k (omega (arith, length-take at bytes)) ∙ get_or-take at bytes k 0 lt
  | inr past ↦
      get_or-append_right (take at bytes) (replicate (at - length bytes) 0) (length bytes) k 0 (omega (arith, length-take at bytes)) past
      ∙ get_or-replicate (at - length bytes) (k - length bytes) 0 0 (omega arith) ∙ sym (get_or_past bytes k 0 past)
]

-- where nothing is written, what was there
pub overwritten_outside : (bytes : List ℕ) (at : ℕ) (piece : List ℕ) (k : ℕ) → (k < at) ⊎ (at + length piece ≤ k) → get_or (overwritten bytes at piece) k 0 ≡ get_or bytes k 0
unfolding front
overwritten_outside bytes at [] k out = refl
overwritten_outside bytes at (b ∷ piece) k (inl before) =
    get_or_append_left (front bytes at ++ (b ∷ piece)) (drop (at + length (b ∷ piece)) bytes) 0 k (omega (arith, length-append (front bytes at) (b ∷ piece), length-front bytes at))
    ∙ get_or_append_left (front bytes at) (b ∷ piece) 0 k (omega (arith, length-front bytes at))
    ∙ get_or-front bytes at k before
overwritten_outside bytes at (b ∷ piece) k (inr behind) =
    get_or-append_right (front bytes at ++ (b ∷ piece)) (drop (at + length (b ∷ piece)) bytes) (at + length (b ∷ piece)) k 0 (omega (arith, length-append (front bytes at) (b ∷ piece), length-front bytes at)) behind
    ∙ get_or-drop (at + length (b ∷ piece)) bytes (k - (at + length (b ∷ piece))) 0
    ∙ ap (λ (i : ℕ). get_or bytes i 0) (omega arith)

-- where it is written, what is written
pub overwritten_inside : (bytes : List ℕ) (at : ℕ) (piece : List ℕ) (k : ℕ) → k < length piece → get_or (overwritten bytes at piece) (at + k) 0 ≡ get_or piece k 0
unfolding front
overwritten_inside bytes at [] k lt = absurd (omega arith)
overwritten_inside bytes at (b ∷ piece) k lt =
    get_or_append_left (front bytes at ++ (b ∷ piece)) (drop (at + length (b ∷ piece)) bytes) 0 (at + k) (omega (arith, length-append (front bytes at) (b ∷ piece), length-front bytes at))
    ∙ get_or-append_right (front bytes at) (b ∷ piece) at (at + k) 0 (length-front bytes at) (omega arith)
    ∙ ap (λ (i : ℕ). get_or (b ∷ piece) i 0) (omega arith)

-- as long as before, or as what is written reaches
pub length-overwritten : (bytes : List ℕ) (at : ℕ) (piece : List ℕ) → 0 < length piece → length (overwritten bytes at piece) ≡ (at + length piece) + (length bytes - (at + length piece))
unfolding front
length-overwritten bytes at [] some = absurd (omega arith)
length-overwritten bytes at (b ∷ piece) some =
    omega (arith, length-append (front bytes at ++ (b ∷ piece)) (drop (at + length (b ∷ piece)) bytes), length-append (front bytes at) (b ∷ piece), length-front bytes at, length-drop (at + length (b ∷ piece)) bytes)

-- a file never gets shorter by a write
pub overwritten_no_shorter : (bytes : List ℕ) (at : ℕ) (piece : List ℕ) → length bytes ≤ length (overwritten bytes at piece)
overwritten_no_shorter bytes at [] = omega arith
overwritten_no_shorter bytes at (b ∷ piece) = omega (arith, length-overwritten bytes at (b ∷ piece) (omega arith))

-- the piece's end lies within
pub Stands_fits : (bytes : List ℕ) (at : ℕ) (piece : List ℕ) → Stands bytes at piece → at + length piece ≤ length bytes
Stands_fits bytes at piece s = omega (arith, s.some, ap length s.same, length-take (length piece) (drop at bytes), length-drop at bytes)

-- each byte of the piece stands in its place
pub Stands_at : (bytes : List ℕ) (at : ℕ) (piece : List ℕ) → Stands bytes at piece → (k : ℕ) → k < length piece → get_or bytes (at + k) 0 ≡ get_or piece k 0
Stands_at bytes at piece s k lt =
    sym (get_or-drop at bytes k 0) ∙ sym (get_or-take (length piece) (drop at bytes) k 0 lt) ∙ ap (λ (l : List ℕ). get_or l k 0) s.same

-- what holds of each byte holds of the piece
pub Stands_from : (bytes : List ℕ) (at : ℕ) (piece : List ℕ) → 0 < length piece → at + length piece ≤ length bytes → ((k : ℕ) → k < length piece → get_or bytes (at + k) 0 ≡ get_or piece k 0) → Stands bytes at piece
Stands_from bytes at piece some fits each = record {
  some = some;
  same = ext_get_or 0 (take (length piece) (drop at bytes)) piece long (λ i lt.
      let here : i < length piece = omega (arith, lt, long) in
      get_or-take (length piece) (drop at bytes) i 0 here ∙ get_or-drop at bytes i 0 ∙ each i here);
}
  where
    long : length (take (length piece) (drop at bytes)) ≡ length piece
    long = length-take-le (length piece) (drop at bytes) (omega (arith, length-drop at bytes))
