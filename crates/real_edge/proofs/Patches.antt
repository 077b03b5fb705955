-- What a file reads as when bytes of a range were changed, and that the store's file follows it.
use Rattle.std.proofs.Common.{◌≡◌, ◌⊎◌, inl, inr, ⊎_elim, ℕ, ◌+◌, ◌-◌, ◌<◌, ◌≤◌, min, List, [], ◌∷◌, length, get_or, take, drop, IsTrue, refl, sym, ◌∙◌, ap, subst, arith}
use Rattle.std.proofs.lemmas.Bool.{cases_lt}
use Rattle.std.proofs.lemmas.List.{ext_get_or, length-take, length-drop, get_or-take, get_or-drop}
use Rattle.store_api.specs.Disk.{Standing, write, changed, overwritten}
use Rattle.store_api.proofs.Bytes.{overwritten_outside, overwritten_inside, length-overwritten, overwritten_no_shorter}
use Rattle.files_api.specs.Folder.{File}
use Rattle.real_edge.specs.Holds.{Tied, Patched, PatchedFile, rewritten, StandsUpTo}

pub patched_none : (at len : ℕ) (file : Standing) → Patched at len file file
patched_none at len file = record {
  stable = refl;
  loose = λ place in_it. inl in_it;
  longer = omega arith;
  reach = inl refl;
  outside = λ place out. refl;
}

-- a write within the range
pub patched_write : (at len start span : ℕ) (other : List ℕ) (old mid : Standing) → at ≤ start → start + span ≤ at + len → length other ≤ span → Patched at len old mid
    → Patched at len old (changed (write start span other) mid)
unfolding changed
patched_write at len start span other old mid from to long p = record {
  stable = p.stable;
  loose = λ place in_it. ⊎_elim (λ here. inr (omega (arith, here.0, from), omega (arith, here.1, to))) (λ there. p.loose place there) in_it;
  longer = omega (arith, p.longer, overwritten_no_shorter mid.bytes start other);
  reach = reaches other long;
  outside = λ place out. overwritten_outside mid.bytes start other place (⊎_elim (λ before. inl (omega (arith, before, from))) (λ behind. inr (omega (arith, behind, to, long))) out) ∙ p.outside place out;
}
  where
    reaches : (other : List ℕ) → length other ≤ span → (length (overwritten mid.bytes start other) ≡ length old.bytes) ⊎ ((at < length (overwritten mid.bytes start other)) × (length (overwritten mid.bytes start other) ≤ at + len))
    reaches [] long = p.reach
    reaches (b ∷ piece) long =
        let grown = length-overwritten mid.bytes start (b ∷ piece) (omega arith) in
        elim (cases_lt (length mid.bytes) (start + length (b ∷ piece))) [
          | inl shorter ↦ inr (omega (arith, grown, shorter, from), omega (arith, grown, shorter, to, long))
          | inr longer ↦ ⊎_elim (λ same. inl (omega (arith, grown, longer, same))) (λ more. inr (omega (arith, grown, longer, more.0), omega (arith, grown, longer, more.1))) p.reach
        ]

-- what stands in the range, written over the old bytes, gives the new ones
pub refilled : (at len : ℕ) (old new : Standing) → Patched at len old new → overwritten old.bytes at (take len (drop at new.bytes)) ≡ new.bytes
refilled at len old new p = ext_get_or 0 (overwritten old.bytes at (take len (drop at new.bytes))) new.bytes long (λ i lt.
    elim (cases_lt i at) [
      | inl before ↦ overwritten_outside old.bytes at (take len (drop at new.bytes)) i (inl before) ∙ sym (p.outside i (inl before))
      | inr here ↦ elim (cases_lt i (at + length (take len (drop at new.bytes)))) [
        | inl inside ↦
            let k : at + (i - at) ≡ i = omega (arith, here) in
            subst (λ (j : ℕ). get_or (overwritten old.bytes at (take len (drop at new.bytes))) j 0 ≡ get_or new.bytes j 0) k
            (overwritten_inside old.bytes at (take len (drop at new.bytes)) (i - at) (omega (arith, inside, here)) ∙ get_or-take len (drop at new.bytes) (i - at) 0 (omega (arith, inside, here, length_piece)) ∙ get_or-drop at new.bytes (i - at) 0)
        | inr behind ↦ overwritten_outside old.bytes at (take len (drop at new.bytes)) i (inr behind) ∙ sym (p.outside i (inr (omega (arith, behind, length_piece, lt, long, length-drop at new.bytes))))
      ]
    ])
  where
    length_piece : length (take len (drop at new.bytes)) ≡ min len (length new.bytes - at)
    length_piece = length-take len (drop at new.bytes) ∙ ap (min len) (length-drop at new.bytes)

    written : (xs : List ℕ) → length xs ≡ min len (length new.bytes - at) → length (overwritten old.bytes at xs) ≡ length new.bytes
    written [] none = ⊎_elim sym (λ more. absurd (omega (arith, none, more.0, more.1))) p.reach
    written (b ∷ xs) some = ⊎_elim (λ same. omega (arith, length-overwritten old.bytes at (b ∷ xs) (omega arith), some, same)) (λ more. omega (arith, length-overwritten old.bytes at (b ∷ xs) (omega arith), some, more.0, more.1, p.longer)) p.reach

    long : length (overwritten old.bytes at (take len (drop at new.bytes))) ≡ length new.bytes
    long = written (take len (drop at new.bytes)) length_piece

-- the store's file follows
pub tied_patched : (at len : ℕ) (old new : File) (seen : Standing) → PatchedFile at len old new → Tied old seen → Tied new (rewritten at len new seen)
unfolding changed
tied_patched at len old new seen p t = record {
  same = ap (λ (bytes : List ℕ). overwritten bytes at (take len (drop at new.standing.bytes))) t.same ∙ refilled at len old.standing new.standing p.standing;
  within = omega (arith, t.within, overwritten_no_shorter seen.bytes at (take len (drop at new.standing.bytes)));
  stable = omega (arith, t.stable, p.standing.stable);
  loose = λ place lt in_it. ⊎_elim (λ before. inr (t.loose place lt before)) (λ here. inl here) (p.standing.loose place in_it);
  unsure = λ unsure. t.unsure (subst (λ is_sure. ¬ IsTrue is_sure) p.sure unsure);
}

-- the front of the bytes, and more of them behind it
pub stands_more : (bytes : List ℕ) (at : ℕ) (piece : List ℕ) (done count : ℕ) → count ≤ length (drop done piece) → StandsUpTo bytes at piece done
    → StandsUpTo (overwritten bytes (at + done) (take count (drop done piece))) at piece (done + count)
stands_more bytes at piece done count fits s = record {
  fits = λ some. fits_on (take count (drop done piece)) (length-take count (drop done piece)) some;
  each = λ k lt. elim (cases_lt k done) [
    | inl before ↦ overwritten_outside bytes (at + done) (take count (drop done piece)) (at + k) (inl (omega (arith, before))) ∙ s.each k before
    | inr here ↦
        let j : (at + done) + (k - done) ≡ at + k = omega (arith, here) in
        let i : done + (k - done) ≡ k = omega (arith, here) in
        subst (λ (place : ℕ). get_or (overwritten bytes (at + done) (take count (drop done piece))) place 0 ≡ get_or piece k 0) j
        (overwritten_inside bytes (at + done) (take count (drop done piece)) (k - done) (omega (arith, here, lt, fits, length-take count (drop done piece))) ∙ get_or-take count (drop done piece) (k - done) 0 (omega (arith, here, lt))
        ∙ get_or-drop done piece (k - done) 0 ∙ ap (λ (n : ℕ). get_or piece n 0) i)
  ];
}
  where
    fits_on : (xs : List ℕ) → length xs ≡ min count (length (drop done piece)) → 0 < done + count → at + (done + count) ≤ length (overwritten bytes (at + done) xs)
    fits_on [] none some = omega (arith, none, fits, some, s.fits (omega (arith, none, fits, some)))
    fits_on (b ∷ xs) long some = omega (arith, length-overwritten bytes (at + done) (b ∷ xs) (omega arith), long, fits)

pub stands_none : (bytes : List ℕ) (at : ℕ) (piece : List ℕ) → StandsUpTo bytes at piece 0
stands_none bytes at piece = record { fits = λ some. absurd (omega (arith, some)); each = λ k lt. absurd (omega (arith, lt)) }

-- where all of the piece stands, it is what is read there
pub stands_all : (bytes : List ℕ) (at : ℕ) (piece : List ℕ) → StandsUpTo bytes at piece (length piece) → take (length piece) (drop at bytes) ≡ piece
stands_all bytes at piece s = ext_get_or 0 (take (length piece) (drop at bytes)) piece (long piece s.fits) (λ i lt.
    let here : i < length piece = omega (arith, lt, long piece s.fits) in
    get_or-take (length piece) (drop at bytes) i 0 here ∙ get_or-drop at bytes i 0 ∙ s.each i here)
  where
    long : (xs : List ℕ) → (0 < length xs → at + length xs ≤ length bytes) → length (take (length xs) (drop at bytes)) ≡ length xs
    long [] fits = omega (arith, length-take 0 (drop at bytes))
    long (b ∷ xs) fits = omega (arith, length-take (length (b ∷ xs)) (drop at bytes), length-drop at bytes, fits (omega arith))
