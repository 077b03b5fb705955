-- The parts of a header's 32 bytes.
use Rattle.std.proofs.Common.{◌≡◌, ◌⊎◌, Bool, true, false, ℕ, zero, suc, ◌+◌, ◌≤◌, List, [], ◌∷◌, ◌++◌, length, take, drop, get_or, refl, sym, ap, subst, ◌∙◌, inl, inr, arith}
use Rattle.std.proofs.Math.Dec.{eqb}
use Rattle.std.proofs.Math.Seq.{drop-cons}
use Rattle.std.proofs.lemmas.Bool.Decides.{Decides-eqb}
use Rattle.std.proofs.lemmas.Slice.Eq.{starts_is}
use Rattle.std.specs.Cmp.Lexicographic.{pointwise}
use Rattle.std.proofs.lemmas.List.{take-append-drop, drop-drop, length-take, length-drop, take_all, get_or-take, get_or-drop, get_or_past}
use Rattle.std.proofs.lemmas.Bool.{cases_lt}
use Rattle.std.proofs.lemmas.Nat.{be_bytes_4, be_bytes_8}
use Rattle.std.specs.Prelude.{codes}
use Rattle.std.specs.Int.{w32, w64, to_be_bytes, from_be_bytes}
use Rattle.fields.specs.Forms.{IsBytes}
use Rattle.volume_frames.specs.Frames.{frame_header, first_header, IsHeader}

-- what follows a part
behind : (xs a r b s : List ℕ) → xs ≡ a ++ r → b ≡ a → r ≡ s → xs ≡ b ++ s
behind xs a r b s e f g = cc

-- from any place on, a list is its next part and the rest
next : (n m : ℕ) (xs : List ℕ) → drop n xs ≡ take m (drop n xs) ++ drop (n + m) xs
next n m xs = sym (take-append-drop m (drop n xs)) ∙ ap (λ (r : List ℕ). take m (drop n xs) ++ r) (drop-drop m n xs)

-- a part of bytes is bytes
IsBytes-part : (n m : ℕ) (xs : List ℕ) → IsBytes xs → IsBytes (take m (drop n xs))
IsBytes-part n m xs h i = elim (cases_lt i m) [
  | inl lt ↦ rw (get_or-take m (drop n xs) i 0 lt, get_or-drop n xs i 0) (h (n + i))
  | inr le ↦ rw (get_or_past (take m (drop n xs)) i 0 (omega (arith, length-take m (drop n xs)))) (omega arith)
]

-- the next k bytes, one by one
abbrev one_by_one : ℕ → ℕ → List ℕ → List ℕ
one_by_one zero n b = []
one_by_one (suc k) n b = get_or b n 0 ∷ one_by_one k (suc n) b

one_by_one-part : (k n : ℕ) (b : List ℕ) → n + k ≤ length b → one_by_one k n b ≡ take k (drop n b)
one_by_one-part zero n b long = refl
one_by_one-part (suc k) n b long = rw (drop-cons b n 0 (omega arith)) (ap (λ (r : List ℕ). get_or b n 0 ∷ r) (one_by_one-part k (suc n) b (omega arith)))

-- the bytes at a place spell the number that is read there
number_8 : (b : List ℕ) (n x : ℕ) → IsBytes b → n + 8 ≤ length b → x ≡ from_be_bytes w64 (one_by_one 8 n b) → to_be_bytes w64 x ≡ take 8 (drop n b)
number_8 b n x bytes long e =
    let part = one_by_one-part 8 n b long in
    be_bytes_8 (one_by_one 8 n b) x refl (subst IsBytes (sym part) (IsBytes-part n 8 b bytes)) e ∙ part

number_4 : (b : List ℕ) (n x : ℕ) → IsBytes b → n + 4 ≤ length b → x ≡ from_be_bytes w32 (one_by_one 4 n b) → to_be_bytes w32 x ≡ take 4 (drop n b)
number_4 b n x bytes long e =
    let part = one_by_one-part 4 n b long in
    be_bytes_4 (one_by_one 4 n b) x refl (subst IsBytes (sym part) (IsBytes-part n 4 b bytes)) e ∙ part

-- the bytes behind the mark, as numbers
header_rest : (b : List ℕ) (object number middle last : ℕ) → IsBytes b → length b ≡ 32
    → object ≡ from_be_bytes w64 (one_by_one 8 8 b) → number ≡ from_be_bytes w32 (one_by_one 4 16 b) → middle ≡ from_be_bytes w32 (one_by_one 4 20 b) → last ≡ from_be_bytes w64 (one_by_one 8 24 b)
    → drop 8 b ≡ to_be_bytes w64 object ++ (to_be_bytes w32 number ++ (to_be_bytes w32 middle ++ to_be_bytes w64 last))
header_rest b object number middle last bytes long o n m l =
    let last_on : drop 24 b ≡ to_be_bytes w64 last =
    sym (take_all 8 (drop 24 b) (omega (arith, length-drop 24 b))) ∙ sym (number_8 b 24 last bytes (omega arith) l) in
    let middle_on : drop 20 b ≡ to_be_bytes w32 middle ++ to_be_bytes w64 last = behind _ _ _ _ _ (next 20 4 b) (number_4 b 20 middle bytes (omega arith) m) last_on in
    let number_on : drop 16 b ≡ to_be_bytes w32 number ++ (to_be_bytes w32 middle ++ to_be_bytes w64 last) = behind _ _ _ _ _ (next 16 4 b) (number_4 b 16 number bytes (omega arith) n) middle_on in
    behind _ _ _ _ _ (next 8 8 b) (number_8 b 8 object bytes (omega arith) o) number_on

module _ (b : List ℕ) (object number middle last : ℕ) (bytes : IsBytes b) (long : length b ≡ 32)
    (o : object ≡ from_be_bytes w64 (one_by_one 8 8 b)) (n : number ≡ from_be_bytes w32 (one_by_one 4 16 b))
    (m : middle ≡ from_be_bytes w32 (one_by_one 4 20 b)) (l : last ≡ from_be_bytes w64 (one_by_one 8 24 b)) where
  -- bytes with the mark, and nothing between the number and the last eight, are a header
  pub header_from : b ≡ codes "TSMFRAM2" ++ drop 8 b → middle ≡ 0 → b ≡ frame_header object number last
  unfolding frame_header
  header_from front none =
      front ∙ ap (λ (r : List ℕ). codes "TSMFRAM2" ++ r) (subst (λ k. drop 8 b ≡ to_be_bytes w64 object ++ (to_be_bytes w32 number ++ (to_be_bytes w32 k ++ to_be_bytes w64 last))) none (header_rest b object number middle last bytes long o n m l))

  -- bytes with the first form's mark, and no more than zeros behind the length, are a header of that form
  pub first_from : b ≡ codes "TSMFRAME" ++ drop 8 b → last ≡ 0 → b ≡ first_header object number middle
  unfolding first_header
  first_from front none =
      front ∙ ap (λ (r : List ℕ). codes "TSMFRAME" ++ r) (subst (λ k. drop 8 b ≡ to_be_bytes w64 object ++ (to_be_bytes w32 number ++ (to_be_bytes w32 middle ++ to_be_bytes w64 k))) none (header_rest b object number middle last bytes long o n m l))

  -- a header begins with the mark, and has nothing between its number and its last eight bytes
  pub header_begins : (h k len : ℕ) → b ≡ frame_header h k len → (b ≡ codes "TSMFRAM2" ++ drop 8 b) × (middle ≡ 0)
  unfolding frame_header
  header_begins h k len e = (
    subst (λ (x : List ℕ). x ≡ codes "TSMFRAM2" ++ drop 8 x) (sym e) refl,
    m ∙ ap (λ (x : List ℕ). from_be_bytes w32 (one_by_one 4 20 x)) e,
  )

  pub first_begins : (h k len : ℕ) → b ≡ first_header h k len → (b ≡ codes "TSMFRAME" ++ drop 8 b) × (last ≡ 0)
  unfolding first_header
  first_begins h k len e = (
    subst (λ (x : List ℕ). x ≡ codes "TSMFRAME" ++ drop 8 x) (sym e) refl,
    l ∙ ap (λ (x : List ℕ). from_be_bytes w64 (one_by_one 8 24 x)) e,
  )

  -- bytes that fail the tests of both forms are no header
  pub no_header : (s t : Bool) → s ≡ pointwise eqb (codes "TSMFRAM2") (take 8 b) → t ≡ pointwise eqb (codes "TSMFRAME") (take 8 b)
      → (s ≡ true → middle ≡ 0 → ⊥) → (t ≡ true → last ≡ 0 → ⊥) → (h k len : ℕ) → IsHeader b h k len → ⊥
  no_header s t se te f g h k len (inl e) =
      let begins = header_begins h k len e in
      f ((starts_is Decides-eqb b (codes "TSMFRAM2") s se).1 (drop 8 b) begins.0) begins.1
  no_header s t se te f g h k len (inr e) =
      let begins = first_begins h k len e.1 in
      g ((starts_is Decides-eqb b (codes "TSMFRAME") t te).1 (drop 8 b) begins.0) begins.1

-- not both of two
pub not_both : {s : Bool} {Z : Type 0} → ((s ≡ true) × (Z → ⊥)) ⊎ (s ≡ false) → s ≡ true → Z → ⊥
not_both (inl w) t z = w.1 z
not_both (inr e) t z = absurd cc
