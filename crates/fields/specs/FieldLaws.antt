-- The forms of single fields keep the laws of a form, and what the proofs of the others stand on.
use Rattle.std.proofs.Common.{◌≡◌, ℕ, ◌+◌, ◌^◌, ◌<◌, ◌≤◌, Bool, true, false, List, [], ◌∷◌, ◌++◌, length, take, drop, Option, Some, None, refl, sym, ap, subst, ◌∙◌, append_assoc, arith, inl, inr, ltb}
use Rattle.std.specs.Prelude.{if◌then◌else◌}
use Rattle.std.specs.Int.{Width, w16, w32, w64, byte_len, from_be_bytes, to_be_bytes}
use Rattle.std.proofs.lemmas.Option.{same_Some}
use Rattle.std.proofs.lemmas.Bool.{cases_lt, ltb-false, le-ltb}
use Rattle.std.proofs.lemmas.List.{take_at, drop_at, take-append-drop, length-append, length-take, get_or-drop, get_or-take, get_or_past}
use Rattle.std.proofs.lemmas.Nat.{be_bytes_2, be_bytes_4, be_bytes_8, from_be_bytes-to_be_bytes_2, from_be_bytes-to_be_bytes_4, from_be_bytes-to_be_bytes_8}
use Rattle.fields.specs.Reading.{◌>>=◌, u8_at, bytes_at, number_at, text_at}
use Rattle.fields.specs.Forms.{IsBytes, IsTaken, IsForm, byte, number, block, text, nothing}

-- ---- steps

pub bind_some : {A B : Type 0} (r : Option A) (f : A → Option B) (y : B) → (r >>= f) ≡ Some y → (x : A) × (r ≡ Some x) × (f x ≡ Some y)
bind_some (Some x) f y e = (x, refl, e)
bind_some None f y e = absurd cc

pub stopped_if : {A : Type 0} (b : Bool) (r : Option A) (y : A) → (if b then None else r) ≡ Some y → (b ≡ false) × (r ≡ Some y)
stopped_if true r y e = absurd cc
stopped_if false r y e = (refl, e)

pub goes_on_if : {A : Type 0} (b : Bool) (r : Option A) (y : A) → (if b then r else None) ≡ Some y → (b ≡ true) × (r ≡ Some y)
goes_on_if true r y e = (refl, e)
goes_on_if false r y e = absurd cc

-- ---- bytes

IsBytes-drop : (n : ℕ) (bytes : List ℕ) → IsBytes bytes → IsBytes (drop n bytes)
IsBytes-drop n bytes h i = rw get_or-drop (h (n + i))

IsBytes-take : (n : ℕ) (bytes : List ℕ) → IsBytes bytes → IsBytes (take n bytes)
IsBytes-take n bytes h i =
    elim (cases_lt i n) [
      | inl lt ↦ rw (get_or-take n bytes i 0 lt) (h i)
      | inr le ↦ rw (get_or_past (take n bytes) i 0 (omega (arith, length-take n bytes))) (omega arith)
    ]

pub IsBytes-rest : (bytes front rest : List ℕ) → bytes ≡ front ++ rest → IsBytes bytes → IsBytes rest
IsBytes-rest bytes front rest e h = subst IsBytes (ap (drop (length front)) e ∙ drop_at front rest (length front) refl) (IsBytes-drop (length front) bytes h)

-- ---- one field

pub byte_form : IsForm byte
byte_form = record { takes = taken; again = λ x rest h. refl } where
  taken : (bytes : List ℕ) (read : ℕ × List ℕ) → IsBytes bytes → u8_at bytes ≡ Some read → IsTaken byte bytes read
  taken [] read h e = absurd cc
  taken (b ∷ rest) read h e = subst (IsTaken byte (b ∷ rest)) (same_Some (b, rest) read e) (record { parts = refl; fits = h 0 })

pub block_form : (n : ℕ) → IsForm (block n)
block_form n = record { takes = taken; again = again } where
  taken : (bytes : List ℕ) (read : List ℕ × List ℕ) → IsBytes bytes → bytes_at n bytes ≡ Some read → IsTaken (block n) bytes read
  taken bytes read h e =
      let g = stopped_if (ltb (length bytes) n) (Some (take n bytes, drop n bytes)) read e in
      let long : n ≤ length bytes = ltb-false _ _ g.0 in
      subst (IsTaken (block n) bytes) (same_Some (take n bytes, drop n bytes) read g.1)
      (record { parts = sym (take-append-drop n bytes); fits = omega (arith, length-take n bytes) })

  again : (x rest : List ℕ) → length x ≡ n → bytes_at n (x ++ rest) ≡ Some (x, rest)
  again x rest len =
      let long : ltb (length (x ++ rest)) n ≡ false = le-ltb _ _ (omega (arith, length-append x rest)) in
      rw (long, take_at x rest n len, drop_at x rest n len) refl

-- what a width has: its bytes and the numbers below its limit are one another's
pub record IsWide (w : Width) : Type 0 where
  pub len : (n : ℕ) → length (to_be_bytes w n) ≡ byte_len w
  pub back : (bytes : List ℕ) → length bytes ≡ byte_len w → IsBytes bytes → to_be_bytes w (from_be_bytes w bytes) ≡ bytes
  pub again : (n : ℕ) → n < 256 ^ byte_len w → from_be_bytes w (to_be_bytes w n) ≡ n
  pub below : (bytes : List ℕ) → IsBytes bytes → from_be_bytes w bytes < 256 ^ byte_len w

pub wide16 : IsWide w16
wide16 = record {
  len = λ n. refl;
  back = λ bytes len fits. be_bytes_2 bytes _ len fits refl;
  again = λ n lt. from_be_bytes-to_be_bytes_2 n lt;
  below = λ bytes fits. omega (arith, fits 0, fits 1);
}

pub wide32 : IsWide w32
wide32 = record {
  len = λ n. refl;
  back = λ bytes len fits. be_bytes_4 bytes _ len fits refl;
  again = λ n lt. from_be_bytes-to_be_bytes_4 n lt;
  below = λ bytes fits. omega (arith, fits 0, fits 1, fits 2, fits 3);
}

pub wide64 : IsWide w64
wide64 = record {
  len = λ n. refl;
  back = λ bytes len fits. be_bytes_8 bytes _ len fits refl;
  again = λ n lt. from_be_bytes-to_be_bytes_8 n lt;
  below = λ bytes fits. omega (arith, fits 0, fits 1, fits 2, fits 3, fits 4, fits 5, fits 6, fits 7);
}

pub number_form : (w : Width) → IsWide w → IsForm (number w)
number_form w wide = record { takes = taken; again = again } where
  taken : (bytes : List ℕ) (read : ℕ × List ℕ) → IsBytes bytes → number_at w bytes ≡ Some read → IsTaken (number w) bytes read
  taken bytes read h e =
      let n = byte_len w in
      let g = stopped_if (ltb (length bytes) (byte_len w)) (Some (from_be_bytes w (take (byte_len w) bytes), drop (byte_len w) bytes)) read e in
      let long : byte_len w ≤ length bytes = ltb-false _ _ g.0 in
      let front : to_be_bytes w (from_be_bytes w (take (byte_len w) bytes)) ≡ take (byte_len w) bytes = wide.back (take (byte_len w) bytes) (omega (arith, length-take (byte_len w) bytes)) (IsBytes-take (byte_len w) bytes h) in
      subst (IsTaken (number w) bytes) (same_Some (from_be_bytes w (take (byte_len w) bytes), drop (byte_len w) bytes) read g.1)
      (record { parts = sym (ap (λ (t : List ℕ). t ++ drop (byte_len w) bytes) front ∙ take-append-drop (byte_len w) bytes); fits = wide.below (take (byte_len w) bytes) (IsBytes-take (byte_len w) bytes h) })

  again : (n : ℕ) (rest : List ℕ) → n < 256 ^ byte_len w → number_at w (to_be_bytes w n ++ rest) ≡ Some (n, rest)
  again n rest lt =
      let len = wide.len n in
      let long : ltb (length (to_be_bytes w n ++ rest)) (byte_len w) ≡ false = le-ltb _ _ (omega (arith, length-append (to_be_bytes w n) rest)) in
      rw (long, take_at (to_be_bytes w n) rest (byte_len w) len, drop_at (to_be_bytes w n) rest (byte_len w) len, wide.again n lt) refl

pub text_form : IsForm text
unfolding text_at
text_form = record { takes = taken; again = again } where
  taken : (bytes : List ℕ) (read : List ℕ × List ℕ) → IsBytes bytes → text_at bytes ≡ Some read → IsTaken text bytes read
  taken bytes read h e =
      let b = bind_some (number_at w16 bytes) (λ n. bytes_at n.0 n.1) read e in
      let n = (number_form w16 wide16).takes bytes b.0 h b.1 in
      let t = (block_form b.0.0).takes b.0.1 read (IsBytes-rest bytes (to_be_bytes w16 b.0.0) b.0.1 n.parts h) b.2 in
      let parts : bytes ≡ to_be_bytes w16 b.0.0 ++ (read.0 ++ read.1) = n.parts ∙ ap (λ (r : List ℕ). to_be_bytes w16 b.0.0 ++ r) t.parts in
      record {
        parts = parts ∙ ap (λ (k : ℕ). to_be_bytes w16 k ++ (read.0 ++ read.1)) (sym t.fits) ∙ sym (append_assoc (to_be_bytes w16 (length read.0)) read.0 read.1);
        fits = omega (arith, n.fits, t.fits);
      }

  again : (x rest : List ℕ) → length x < 2 ^ 16 → text_at ((to_be_bytes w16 (length x) ++ x) ++ rest) ≡ Some (x, rest)
  again x rest lt =
      ap text_at (append_assoc (to_be_bytes w16 (length x)) x rest) ∙ rw ((number_form w16 wide16).again (length x) (x ++ rest) lt) ((block_form (length x)).again x rest refl)

pub nothing_form : {X : Type 0} → IsForm (nothing {X = X})
nothing_form = record { takes = λ bytes read h e. absurd cc; again = λ x rest h. absurd h }
