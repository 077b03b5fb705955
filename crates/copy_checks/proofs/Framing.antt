-- What the tests of frames say.
use Rattle.std.proofs.Common.{◌≡◌, ◌⊎◌, inl, inr, ℕ, ◌+◌, ◌-◌, ◌^◌, ◌<◌, ◌≤◌, min, suc, Bool, true, false, ◌&&◌, ◌||◌, List, [], ◌∷◌, ◌++◌, length, take, drop, refl, sym, ap, subst, ◌∙◌, length-take, length-drop, arith}
use Rattle.std.specs.Prelude.{◌↔◌, ◌==◌, nat_le, nat_lt, IsTrue}
use Rattle.std.specs.Cmp.Lexicographic.{bytes_decides}
use Rattle.std.proofs.lemmas.Bool.{and_parts, and_from, leb-true, le-leb, ltb-true, lt-ltb, eqb-true, eq-eqb}
use Rattle.std.proofs.lemmas.List.{take_all}
use Rattle.store_api.specs.Told.{ReadsFrom}
use Rattle.kinds.specs.declared.segment.Segment.{Segment}
use Rattle.sha2.specs.Sha256.{sha256}
use Rattle.volume_frames.specs.Frames.{frame_header, first_header, IsHeader, piece, data_end, bytes_of, bytes_len, FramedAt, FramedFrom, Framed}
use Rattle.volume_frames.proofs.Copies.{length-header}
use Rattle.copy_checks.specs.Copies.{is_same, is_header, is_framed, are_framed, is_there}

or_left : (a b : Bool) → a ≡ true → (a || b) ≡ true
or_left true b h = refl
or_left false b h = absurd (cc)

or_right : (a b : Bool) → b ≡ true → (a || b) ≡ true
or_right true b h = refl
or_right false b h = h

either : (a b : Bool) → (a || b) ≡ true → (a ≡ true) ⊎ (b ≡ true)
either true b h = inl refl
either false b h = inr h

pub header_so : (bytes : List ℕ) (object number len : ℕ) → IsHeader bytes object number len → is_header bytes object number len ≡ true
header_so bytes object number len (inl is) = or_left (is_same bytes (frame_header object number len)) (nat_lt len (2 ^ 32) && is_same bytes (first_header object number len)) ((bytes_decides bytes (frame_header object number len)).1 is)
header_so bytes object number len (inr is) =
    or_right (is_same bytes (frame_header object number len)) (nat_lt len (2 ^ 32) && is_same bytes (first_header object number len))
    (and_from (nat_lt len (2 ^ 32)) (is_same bytes (first_header object number len)) (lt-ltb len (2 ^ 32) is.0) ((bytes_decides bytes (first_header object number len)).1 is.1))

pub so_header : (bytes : List ℕ) (object number len : ℕ) → is_header bytes object number len ≡ true → IsHeader bytes object number len
so_header bytes object number len h =
    go (either (is_same bytes (frame_header object number len)) (nat_lt len (2 ^ 32) && is_same bytes (first_header object number len)) h)
  where
    go : (is_same bytes (frame_header object number len) ≡ true) ⊎ ((nat_lt len (2 ^ 32) && is_same bytes (first_header object number len)) ≡ true) → IsHeader bytes object number len
    go (inl is) = inl ((bytes_decides bytes (frame_header object number len)).0 is)
    go (inr is) =
        let parts = and_parts (nat_lt len (2 ^ 32)) (is_same bytes (first_header object number len)) is in
        inr (ltb-true len (2 ^ 32) parts.0, (bytes_decides bytes (first_header object number len)).0 parts.1)

-- a Bool that is true where the other is, and only there
both_ways : (a b : Bool) → (a ≡ true → b ≡ true) → (b ≡ true → a ≡ true) → a ≡ b
both_ways true b to from = sym (to refl)
both_ways false true to from = from refl
both_ways false false to from = refl

pub no_header : (bytes : List ℕ) (object number len : ℕ) → ((o n l : ℕ) → IsHeader bytes o n l → ⊥) → false ≡ is_header bytes object number len
no_header bytes object number len none = both_ways false (is_header bytes object number len) (λ h. absurd (cc)) (λ h. absurd (none object number len (so_header bytes object number len h)))

pub header_is : (bytes : List ℕ) (object number len : ℕ) (found : Bool) → (IsTrue found ↔ IsHeader bytes object number len) → found ≡ is_header bytes object number len
header_is bytes object number len found is =
    both_ways found (is_header bytes object number len) (λ h. header_so bytes object number len (is.0 h)) (λ h. is.1 (so_header bytes object number len h))

-- a header that was read whole, and one that wasn't
pub header_read : (file buffer : List ℕ) (offset object number len : ℕ) (found : Bool) → length buffer ≡ 32 → ReadsFrom file offset buffer 32 → found ≡ is_header buffer object number len → found ≡ is_header (piece file offset 32) object number len
header_read file buffer offset object number len found long read is =
    is ∙ ap (λ (bytes : List ℕ). is_header bytes object number len) (sym (take_whole 32 buffer long) ∙ read.same)
  where
    take_whole : (n : ℕ) (xs : List ℕ) → length xs ≡ n → take n xs ≡ xs
    take_whole n xs is_long = take_all n xs (omega (arith, is_long))

pub header_short : (file buffer : List ℕ) (offset object number len count : ℕ) → length buffer ≡ 32 → (count ≡ 32 → ⊥) → ReadsFrom file offset buffer count → false ≡ is_header (piece file offset 32) object number len
header_short file buffer offset object number len count long short read =
    both_ways false (is_header (piece file offset 32) object number len) (λ h. absurd (cc)) (λ h. absurd (short (
    let is : IsHeader (piece file offset 32) object number len = so_header (piece file offset 32) object number len h in
    let a : length (piece file offset 32) ≡ 32 = length-header (piece file offset 32) object number len is in
    let b = length-take 32 (drop offset file) in
    let c = length-drop offset file in
    let d = read.many in
    omega (arith, a, b, c, d, long))))

-- ---- what the tests mean

pub framed_so : (image : ℕ → List ℕ) (object number : ℕ) (segments : List Segment) → are_framed image object number segments ≡ true → FramedFrom image object number segments
framed_so image object number [] h = tt
framed_so image object number (s ∷ segments) h =
    let parts = and_parts (is_framed (image s.file) object number s) (are_framed image object (suc number) segments) h in
    let here = and_parts (nat_le (data_end s) (length (image s.file))) (is_header (piece (image s.file) s.offset 32) object number s.len) parts.0 in
    (record { header = so_header (piece (image s.file) s.offset 32) object number s.len here.1; within = leb-true (data_end s) (length (image s.file)) here.0 }, framed_so image object (suc number) segments parts.1)

pub so_framed : (image : ℕ → List ℕ) (object number : ℕ) (segments : List Segment) → FramedFrom image object number segments → are_framed image object number segments ≡ true
so_framed image object number [] f = refl
so_framed image object number (s ∷ segments) f =
    and_from (is_framed (image s.file) object number s) (are_framed image object (suc number) segments)
    (and_from (nat_le (data_end s) (length (image s.file))) (is_header (piece (image s.file) s.offset 32) object number s.len) (le-leb (data_end s) (length (image s.file)) f.0.within) (header_so (piece (image s.file) s.offset 32) object number s.len f.0.header))
    (so_framed image object (suc number) segments f.1)

pub there_means : (image : ℕ → List ℕ) (object size : ℕ) (digest : List ℕ) (segments : List Segment) → is_there image object size digest segments ≡ true → Framed image object segments × (bytes_len segments ≡ size) × (digest ≡ sha256 (bytes_of image segments))
there_means image object size digest segments h =
    let parts = and_parts (bytes_len segments == size) (are_framed image object 0 segments && is_same digest (sha256 (bytes_of image segments))) h in
    let rest = and_parts (are_framed image object 0 segments) (is_same digest (sha256 (bytes_of image segments))) parts.1 in
    (framed_so image object 0 segments rest.0, eqb-true (bytes_len segments) size parts.0, (bytes_decides digest (sha256 (bytes_of image segments))).0 rest.1)

pub means_there : (image : ℕ → List ℕ) (object size : ℕ) (digest : List ℕ) (segments : List Segment) → Framed image object segments → bytes_len segments ≡ size → digest ≡ sha256 (bytes_of image segments) → is_there image object size digest segments ≡ true
means_there image object size digest segments framed long same =
    and_from (bytes_len segments == size) (are_framed image object 0 segments && is_same digest (sha256 (bytes_of image segments))) (eq-eqb (bytes_len segments) size long)
    (and_from (are_framed image object 0 segments) (is_same digest (sha256 (bytes_of image segments))) (so_framed image object 0 segments framed) ((bytes_decides digest (sha256 (bytes_of image segments))).1 same))
