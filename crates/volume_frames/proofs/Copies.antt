-- Frames in a file, and the frames of a copy.
use Rattle.std.proofs.Common.{◌≡◌, ◌&&◌, inl, inr, ℕ, suc, ◌+◌, ◌-◌, ◌<◌, ◌≤◌, ◌^◌, List, [], ◌∷◌, ◌++◌, length, take, drop, get_or, refl, sym, ap, subst, ◌∙◌, append_assoc, arith, Bool, false, IsTrue, ◌↔◌}
use Rattle.std.proofs.Math.Dec.{eqb, leb}
use Rattle.std.proofs.lemmas.Bool.{leb-true, le-leb}
use Rattle.std.proofs.Math.Seq.{take-add}
use Rattle.std.proofs.lemmas.List.{drop-drop, drop_at, take_at, take_rest, length-append, length-take, length-drop, get_or-take, get_or-drop, ext_get_or}
use Rattle.std.specs.Array.{IsFirstChunk}
use Rattle.std.specs.Int.{w32, w64, from_be_bytes}
use Rattle.std.proofs.lemmas.Nat.{from_be_bytes-to_be_bytes_4, from_be_bytes-to_be_bytes_8}
use Rattle.kinds.specs.declared.segment.Segment.{Segment}
use Rattle.volume_frames.specs.Frames.{frame_header, first_header, IsHeader, piece, data_place, data_of, FramedAt, FramedFrom, bytes_of, bytes_len, KeepsFrame, KeepsFrames}

pub length-frame_header : (object number len : ℕ) → length (frame_header object number len) ≡ 32
unfolding frame_header
length-frame_header object number len = refl

pub length-first_header : (object number len : ℕ) → length (first_header object number len) ≡ 32
unfolding first_header
length-first_header object number len = refl

-- a header of either form has 32 bytes
pub length-header : (bytes : List ℕ) (object number len : ℕ) → IsHeader bytes object number len → length bytes ≡ 32
length-header bytes object number len (inl e) = ap length e ∙ length-frame_header object number len
length-header bytes object number len (inr e) = ap length e.1 ∙ length-first_header object number len

module _ (object number len other_object other_number other_len : ℕ) (a : object < 2 ^ 64) (b : number < 2 ^ 32) (d : other_object < 2 ^ 64) (e : other_number < 2 ^ 32) where
  abbrev AllSame : Type 0
  AllSame = (object ≡ other_object) × (number ≡ other_number) × (len ≡ other_len)

  -- headers of one form tell what they name
  written_tells : len < 2 ^ 64 → other_len < 2 ^ 64 → frame_header object number len ≡ frame_header other_object other_number other_len → AllSame
  unfolding frame_header
  written_tells c f same = (
    sym (from_be_bytes-to_be_bytes_8 object a) ∙ ap (λ (h : List ℕ). from_be_bytes w64 (take 8 (drop 8 h))) same ∙ from_be_bytes-to_be_bytes_8 other_object d,
    sym (from_be_bytes-to_be_bytes_4 number b) ∙ ap (λ (h : List ℕ). from_be_bytes w32 (take 4 (drop 16 h))) same ∙ from_be_bytes-to_be_bytes_4 other_number e,
    sym (from_be_bytes-to_be_bytes_8 len c) ∙ ap (λ (h : List ℕ). from_be_bytes w64 (take 8 (drop 24 h))) same ∙ from_be_bytes-to_be_bytes_8 other_len f,
  )

  first_tells : len < 2 ^ 32 → other_len < 2 ^ 32 → first_header object number len ≡ first_header other_object other_number other_len → AllSame
  unfolding first_header
  first_tells c f same = (
    sym (from_be_bytes-to_be_bytes_8 object a) ∙ ap (λ (h : List ℕ). from_be_bytes w64 (take 8 (drop 8 h))) same ∙ from_be_bytes-to_be_bytes_8 other_object d,
    sym (from_be_bytes-to_be_bytes_4 number b) ∙ ap (λ (h : List ℕ). from_be_bytes w32 (take 4 (drop 16 h))) same ∙ from_be_bytes-to_be_bytes_4 other_number e,
    sym (from_be_bytes-to_be_bytes_4 len c) ∙ ap (λ (h : List ℕ). from_be_bytes w32 (take 4 (drop 20 h))) same ∙ from_be_bytes-to_be_bytes_4 other_len f,
  )

-- no bytes are headers of both forms
forms_differ : (object number len other_object other_number other_len : ℕ) → frame_header object number len ≡ first_header other_object other_number other_len → ⊥
unfolding frame_header first_header
forms_differ object number len other_object other_number other_len same =
    let eighth = ap (λ (h : List ℕ). get_or h 7 0) same in cc

pub header_tells : (bytes : List ℕ) (object number len other_object other_number other_len : ℕ) →
    object < 2 ^ 64 → number < 2 ^ 32 → len < 2 ^ 64 → other_object < 2 ^ 64 → other_number < 2 ^ 32 → other_len < 2 ^ 64 →
    IsHeader bytes object number len → IsHeader bytes other_object other_number other_len →
    (object ≡ other_object) × (number ≡ other_number) × (len ≡ other_len)
header_tells bytes object number len other_object other_number other_len a b c d e f (inl one) (inl other) =
    written_tells object number len other_object other_number other_len a b d e c f (sym one ∙ other)
header_tells bytes object number len other_object other_number other_len a b c d e f (inr one) (inr other) =
    first_tells object number len other_object other_number other_len a b d e one.0 other.0 (sym one.1 ∙ other.1)
header_tells bytes object number len other_object other_number other_len a b c d e f (inl one) (inr other) =
    absurd (forms_differ object number len other_object other_number other_len (sym one ∙ other.1))
header_tells bytes object number len other_object other_number other_len a b c d e f (inr one) (inl other) =
    absurd (forms_differ other_object other_number other_len object number len (sym other ∙ one.1))

-- a part of a file that has it is as long as it is said
length-piece : (file : List ℕ) (at len : ℕ) → at + len ≤ length file → length (piece file at len) ≡ len
length-piece file at len fits = omega (arith, length-take len (drop at file), length-drop at file)

-- a part of a file is that of another with the same bytes there
piece_same : (file other : List ℕ) (at len : ℕ) → at + len ≤ length file → at + len ≤ length other → ((i : ℕ) → i < len → get_or other (at + i) 0 ≡ get_or file (at + i) 0) → piece other at len ≡ piece file at len
piece_same file other at len fits fits_other same = ext_get_or 0 (piece other at len) (piece file at len) (length-piece other at len fits_other ∙ sym (length-piece file at len fits)) (λ i lt.
    let here : i < len = omega (arith, lt, length-piece other at len fits_other) in
    get_or-take len (drop at other) i 0 here ∙ get_or-drop at other i 0 ∙ same i here ∙ sym (get_or-drop at file i 0) ∙ sym (get_or-take len (drop at file) i 0 here))

-- two parts side by side are one
piece_join : (file : List ℕ) (at len more : ℕ) → piece file at (len + more) ≡ piece file at len ++ piece file (at + len) more
piece_join file at len more = take-add len more (drop at file) ∙ ap (λ (r : List ℕ). take len (drop at file) ++ take more r) (drop-drop len at file)

-- a header and data right behind it are a frame
pub framed_made : (file header bytes : List ℕ) (object number : ℕ) (segment : Segment) → IsHeader header object number segment.len → length bytes ≡ segment.len →
    piece file segment.offset (32 + segment.len) ≡ header ++ bytes →
    FramedAt file object number segment × (data_of file segment ≡ bytes)
framed_made file header bytes object number segment is_header long same =
    let of_header : length header ≡ 32 = length-header header object number segment.len is_header in
    let within : segment.offset + 32 + segment.len ≤ length file =
    omega (arith, ap length same, length-append header bytes, of_header, long, length-take (32 + segment.len) (drop segment.offset file), length-drop segment.offset file) in
    let parts : piece file segment.offset 32 ++ data_of file segment ≡ header ++ bytes = sym (piece_join file segment.offset 32 segment.len) ∙ same in
    let front : length (piece file segment.offset 32) ≡ 32 = length-piece file segment.offset 32 (omega arith) in
    let first : piece file segment.offset 32 ≡ header = sym (take_at (piece file segment.offset 32) (data_of file segment) 32 front) ∙ ap (λ (r : List ℕ). take 32 r) parts ∙ take_at header bytes 32 of_header in
    let second : data_of file segment ≡ bytes = sym (drop_at (piece file segment.offset 32) (data_of file segment) 32 front) ∙ ap (λ (r : List ℕ). drop 32 r) parts ∙ drop_at header bytes 32 of_header in
    (record { header = subst (λ h. IsHeader h object number segment.len) (sym first) is_header; within = within }, second)

-- a frame is a header and the data right behind it
pub framed_whole : (file : List ℕ) (object number : ℕ) (segment : Segment) → FramedAt file object number segment →
    IsHeader (piece file segment.offset 32) object number segment.len × (piece file segment.offset (32 + segment.len) ≡ piece file segment.offset 32 ++ data_of file segment)
framed_whole file object number segment framed = (framed.header, piece_join file segment.offset 32 segment.len)

-- a framed segment has as many bytes as it says
pub length-data_of : (file : List ℕ) (object number : ℕ) (segment : Segment) → FramedAt file object number segment → length (data_of file segment) ≡ segment.len
length-data_of file object number segment framed = length-piece file (data_place segment) segment.len framed.within

pub length-bytes_of : (image : ℕ → List ℕ) (object number : ℕ) (segments : List Segment) → FramedFrom image object number segments → length (bytes_of image segments) ≡ bytes_len segments
length-bytes_of image object number [] framed = refl
length-bytes_of image object number (segment ∷ segments) framed =
    omega (arith, length-append (data_of (image segment.file) segment) (bytes_of image segments), length-data_of (image segment.file) object number segment framed.0, length-bytes_of image object (suc number) segments framed.1)

-- a frame whose bytes stay is a frame of the same data
kept_framed : (file other : List ℕ) (object number : ℕ) (segment : Segment) → KeepsFrame file other segment → FramedAt file object number segment → FramedAt other object number segment
kept_framed file other object number segment keeps framed =
    let within = framed.within in
    let long = keeps.long in
    let same : piece other segment.offset 32 ≡ piece file segment.offset 32 =
    piece_same file other segment.offset 32 (omega arith) (omega arith) (λ i lt. keeps.same (segment.offset + i) (omega arith) (omega arith)) in
    record { header = subst (λ h. IsHeader h object number segment.len) (sym same) framed.header; within = long }

kept_data : (file other : List ℕ) (object number : ℕ) (segment : Segment) → KeepsFrame file other segment → FramedAt file object number segment → data_of other segment ≡ data_of file segment
kept_data file other object number segment keeps framed =
    piece_same file other (data_place segment) segment.len framed.within keeps.long (λ i lt. keeps.same (data_place segment + i) (omega arith) (omega arith))

pub copy_kept : (image other : ℕ → List ℕ) (object number : ℕ) (segments : List Segment) → KeepsFrames image other segments → FramedFrom image object number segments → FramedFrom other object number segments
copy_kept image other object number [] keeps framed = tt
copy_kept image other object number (segment ∷ segments) keeps framed =
    (kept_framed (image segment.file) (other segment.file) object number segment keeps.0 framed.0, copy_kept image other object (suc number) segments keeps.1 framed.1)

pub bytes_kept : (image other : ℕ → List ℕ) (object number : ℕ) (segments : List Segment) → KeepsFrames image other segments → FramedFrom image object number segments → bytes_of other segments ≡ bytes_of image segments
bytes_kept image other object number [] keeps framed = refl
bytes_kept image other object number (segment ∷ segments) keeps framed =
    let first = kept_data (image segment.file) (other segment.file) object number segment keeps.0 framed.0 in
    let rest = bytes_kept image other object (suc number) segments keeps.1 framed.1 in
    cc

-- segments in front of others
pub copy_parts : (image : ℕ → List ℕ) (object number : ℕ) (front back : List Segment) →
    FramedFrom image object number (front ++ back) → FramedFrom image object number front × FramedFrom image object (number + length front) back
copy_parts image object number [] back framed = (tt, subst (λ n. FramedFrom image object n back) (let e : number ≡ number + 0 = omega arith in e) framed)
copy_parts image object number (segment ∷ front) back framed =
    let rest = copy_parts image object (suc number) front back framed.1 in
    ((framed.0, rest.0), subst (λ n. FramedFrom image object n back) (let e : suc number + length front ≡ number + suc (length front) = omega arith in e) rest.1)

pub copy_join : (image : ℕ → List ℕ) (object number : ℕ) (front back : List Segment) →
    FramedFrom image object number front → FramedFrom image object (number + length front) back → FramedFrom image object number (front ++ back)
copy_join image object number [] back first second = subst (λ n. FramedFrom image object n back) (let e : number + 0 ≡ number = omega arith in e) second
copy_join image object number (segment ∷ front) back first second =
    (first.0, copy_join image object (suc number) front back first.1 (subst (λ n. FramedFrom image object n back) (let e : number + suc (length front) ≡ suc number + length front = omega arith in e) second))

pub bytes_of-append : (image : ℕ → List ℕ) (front back : List Segment) → bytes_of image (front ++ back) ≡ bytes_of image front ++ bytes_of image back
bytes_of-append image [] back = refl
bytes_of-append image (segment ∷ front) back =
    ap (λ (r : List ℕ). data_of (image segment.file) segment ++ r) (bytes_of-append image front back) ∙ sym (append_assoc (data_of (image segment.file) segment) (bytes_of image front) (bytes_of image back))

pub bytes_len-append : (front back : List Segment) → bytes_len (front ++ back) ≡ bytes_len front + bytes_len back
bytes_len-append [] back = omega arith
bytes_len-append (segment ∷ front) back = omega (arith, bytes_len-append front back)

-- a test of a header's three values tells whether it is the one that was asked for
pub header_tested : (bytes : List ℕ) (object number len other_object other_number other_len : ℕ) (r : Bool) →
    object < 2 ^ 64 → number < 2 ^ 32 → len < 2 ^ 64 → other_object < 2 ^ 64 → other_number < 2 ^ 32 → other_len < 2 ^ 64 →
    IsHeader bytes object number len → r ≡ (eqb object other_object && eqb number other_number && eqb len other_len) →
    (IsTrue r ↔ IsHeader bytes other_object other_number other_len)
header_tested bytes object number len other_object other_number other_len r a b c d e f there told = (
  λ t.
      let o : object ≡ other_object = grind arith in
      let n : number ≡ other_number = grind arith in
      let l : len ≡ other_len = grind arith in
      subst (λ x. IsHeader bytes x other_number other_len) o (subst (λ x. IsHeader bytes object x other_len) n (subst (λ x. IsHeader bytes object number x) l there)),
  λ other. let same = header_tells bytes object number len other_object other_number other_len a b c d e f there other in grind arith,
)

-- what the test of a frame answers where a header stands, and where none does
module _ (file header : List ℕ) (object number : ℕ) (segment : Segment)
    (first : IsFirstChunk (take (length file - segment.offset) (drop segment.offset file)) header 32) where
  stands : header ≡ piece file segment.offset 32
  stands = first.same ∙ ap (λ (r : List ℕ). take 32 r) (take_rest file segment.offset)

  rest_length : length (take (length file - segment.offset) (drop segment.offset file)) ≡ length file - segment.offset
  rest_length = omega (arith, length-take (length file - segment.offset) (drop segment.offset file), length-drop segment.offset file)

  pub framed_tested : IsHeader header object number segment.len →
      (IsTrue (leb segment.len (length (take (length file - segment.offset) (drop segment.offset file)) - 32)) ↔ FramedAt file object number segment)
  framed_tested is_header =
      let enough = first.enough in (
        λ t. record { header = subst (λ h. IsHeader h object number segment.len) stands is_header; within = omega (arith, enough, rest_length, leb-true _ _ t) },
        λ framed. le-leb _ _ (omega (arith, enough, rest_length, framed.within)),
      )

  pub unframed_tested : (r : Bool) → (IsTrue r ↔ IsHeader header object number segment.len) → r ≡ false → (IsTrue r ↔ FramedAt file object number segment)
  unframed_tested r told isnt = (λ t. absurd cc, λ framed. told.1 (subst (λ h. IsHeader h object number segment.len) (sym stands) framed.header))
