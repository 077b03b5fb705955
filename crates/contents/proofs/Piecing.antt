-- How a piece of a copy comes into a buffer, segment by segment.
use Rattle.std.proofs.Common.{◌≡◌, ◌⊎◌, inl, inr, ℕ, ◌+◌, ◌-◌, ◌<◌, ◌≤◌, true, false, cond, ◌&&◌, nat_lt, List, [], ◌∷◌, ◌++◌, length, get_or, take, drop, Option, None, Some, Result, Ok, Err, sym, ap, subst, ◌∙◌, arith}
use Rattle.std.proofs.Math.Seq.{take-add}
use Rattle.std.proofs.lemmas.Bool.{cases_lt}
use Rattle.std.proofs.lemmas.List.{drop-drop, drop_all, length-drop, length-take-le, take-append-drop, take_all}
use Rattle.kinds.specs.declared.segment.Segment.{Segment}
use Rattle.store_api.specs.Disk.{History, reads}
use Rattle.store_api.specs.Runs.{GoesOn, Stands}
use Rattle.store_api.specs.Told.{Told}
use Rattle.store_api.proofs.Runs.{goes_none, goes_then, told_map, told_then}
use Rattle.volume_frames.specs.Frames.{bytes_len, data_place}
use Rattle.volume_frames.proofs.Copies.{bytes_len-append}
use Rattle.contents.specs.Contents.{FramesHave, InImage}
use Rattle.contents.specs.Reading.{ReadOver, ReadPiece, filled, lies_in_file, segments_in}
use Rattle.contents.specs.declared.frames.Unread.{Unread}
use Rattle.contents.proofs.Looking.{behind_one, from_place, looked_reads, one_file}
use Rattle.contents.proofs.Parts.{frames_long, part_there}

-- What the segments in front of a byte of the object have of a piece is in the front of the buffer, where all of them stand in the frames of an object's bytes.
pub record Going (all : List Segment) (offset start : ℕ) (buffer : List ℕ) (old new : History) : Type 0 where
  pub goes : GoesOn (λ f. ⊥) old new
  pub front : (object number : ℕ) (bytes : List ℕ) → FramesHave (InImage (reads old)) object number all bytes
      → take (filled offset (length buffer) start) buffer ≡ take (filled offset (length buffer) start) (drop offset bytes)

none_filled : (offset count : ℕ) → filled offset count 0 ≡ 0
none_filled offset count = omega arith

pub going_none : (all : List Segment) (offset : ℕ) (buffer : List ℕ) (h : History) → Going all offset 0 buffer h h
going_none all offset buffer h = record {
  goes = goes_none (λ f. ⊥) h;
  front = λ object number bytes f. (let e = none_filled offset (length buffer) in ap (λ n. take n buffer) e ∙ sym (ap (λ n. take n (drop offset bytes)) e));
}

-- one segment more
pub going_further : {T : Type 0} (front : List Segment) (s : Segment) (back : List Segment) (offset : ℕ) (before after : List ℕ) (done : T) (old mid new : History) → length after ≡ length before
    → offset + length after ≤ bytes_len (front ++ s ∷ back)
    → take (filled offset (length before) (bytes_len front)) after ≡ take (filled offset (length before) (bytes_len front)) before → Going (front ++ s ∷ back) offset (bytes_len front) before old mid
    → (let result : Result T Unread = Ok done in ReadOver s (bytes_len front) offset after result mid new) → Going (front ++ s ∷ back) offset (bytes_len front + s.len) after old new
going_further front s back offset before after done old mid new same room stays g read = record {
  goes = goes_then (λ f. ⊥) old mid new g.goes read.goes;
  front = λ object number bytes f. more object number bytes f (cases_lt 0 count);
}
  where
    start : ℕ
    start = bytes_len front

    at : ℕ
    at = filled offset (length after) start

    count : ℕ
    count = filled offset (length after) (start + s.len) - at

    whole : filled offset (length after) (start + s.len) ≡ at + count
    whole = omega arith

    was : (bytes : List ℕ) → take (filled offset (length before) start) before ≡ take (filled offset (length before) start) (drop offset bytes) → take at after ≡ take at (drop offset bytes)
    was bytes h = subst (λ (n : ℕ). take (filled offset n start) after ≡ take (filled offset n start) (drop offset bytes)) (sym same) (stays ∙ h)

    more : (object number : ℕ) (bytes : List ℕ) → FramesHave (InImage (reads old)) object number (front ++ s ∷ back) bytes → (0 < count) ⊎ (count ≤ 0)
        → take (filled offset (length after) (start + s.len)) after ≡ take (filled offset (length after) (start + s.len)) (drop offset bytes)
    more object number bytes f (inr none) =
        let e : filled offset (length after) (start + s.len) ≡ at = omega (arith, none, whole) in
        ap (λ n. take n after) e ∙ was bytes (g.front object number bytes f) ∙ sym (ap (λ n. take n (drop offset bytes)) e)
    more object number bytes f (inl some) =
        let from : ℕ = offset + at - start in
        let place : start + from ≡ offset + at = omega (arith, some) in
        let long : length bytes ≡ bytes_len (front ++ s ∷ back) = frames_long (InImage (reads old)) object number (front ++ s ∷ back) bytes f in
        let piece : List ℕ = take count (drop (start + from) bytes) in
        let size : length piece ≡ count = length-take-le count (drop (start + from) bytes) (omega (arith, length-drop (start + from) bytes, long, room, place, some)) in
        let there : Stands (reads mid s.file) (data_place s + from) piece =
        subst (λ (l : List ℕ). Stands l (data_place s + from) piece) (sym (looked_reads old mid s.file g.goes))
        (part_there (reads old) object number front s back bytes from count some (omega (arith, some)) f) in
        let got : take count (drop at after) ≡ piece = read.bytes piece some size there in
        let part : piece ≡ take count (drop at (drop offset bytes)) = ap (λ (l : List ℕ). take count l) (ap (λ n. drop n bytes) place ∙ sym (drop-drop at offset bytes)) in
        ap (λ n. take n after) whole
        ∙ take-add at count after
        ∙ ap (λ (l : List ℕ). l ++ take count (drop at after)) (was bytes (g.front object number bytes f))
        ∙ ap (λ (l : List ℕ). take at (drop offset bytes) ++ l) (got ∙ part)
        ∙ sym (take-add at count (drop offset bytes))
        ∙ sym (ap (λ n. take n (drop offset bytes)) whole)

-- ---- of all segments

-- those in front of a place, which begin where it is said
parted : (all : List Segment) (i start : ℕ) → start + bytes_len (drop i all) ≡ bytes_len all → start ≡ bytes_len (take i all)
parted all i start e =
    let whole : bytes_len (take i all) + bytes_len (drop i all) ≡ bytes_len all = sym (bytes_len-append (take i all) (drop i all)) ∙ ap bytes_len (take-append-drop i all) in
    omega (arith, e, whole)

module _ (all : List Segment) (i : ℕ) (d : Segment) (start offset : ℕ) (lt : i < length all) (begins : start + bytes_len (drop i all) ≡ bytes_len all) where
  abbrev s : Segment
  s = get_or all i d

  split : all ≡ take i all ++ s ∷ drop (i + 1) all
  split = sym (take-append-drop i all) ∙ ap (λ (l : List Segment). take i all ++ l) (from_place all i d lt)

  pub going_over : {T : Type 0} (before after : List ℕ) (done : T) (told mid new : Option History) → length after ≡ length before → offset + length after ≤ bytes_len all
      → take (filled offset (length before) start) after ≡ take (filled offset (length before) start) before → Told told mid (Going all offset start before)
      → (let result : Result T Unread = Ok done in Told mid new (ReadOver (get_or all i d) start offset after result)) → Told told new (Going all offset (start + (get_or all i d).len) after)
  going_over {T} before after done told mid new same room stays g read =
      told_then told mid new _ _ _ (λ old half last one two.
      let e : start ≡ bytes_len (take i all) = parted all i start begins in
      subst (λ (l : List Segment). Going l offset (start + s.len) after old last) (sym split)
      (subst (λ (n : ℕ). Going (take i all ++ s ∷ drop (i + 1) all) offset (n + s.len) after old last) (sym e)
      (going_further (take i all) s (drop (i + 1) all) offset before after done old half last same (subst (λ (l : List Segment). offset + length after ≤ bytes_len l) split room)
      (subst (λ (n : ℕ). take (filled offset (length before) n) after ≡ take (filled offset (length before) n) before) e stays)
      (subst (λ (n : ℕ). Going (take i all ++ s ∷ drop (i + 1) all) offset n before old half) e (subst (λ (l : List Segment). Going l offset start before old half) split one))
      (subst (λ (n : ℕ). let result : Result T Unread = Ok done in ReadOver s n offset after result half last) e two)))) g read

pub going_begins : (all : List Segment) (offset : ℕ) (buffer : List ℕ) (x : Option History) → Told x x (Going all offset 0 buffer)
going_begins all offset buffer None = tt
going_begins all offset buffer (Some h) = going_none all offset buffer h

-- none is left
pub going_done : {T : Type 0} (all : List Segment) (i start offset : ℕ) (buffer : List ℕ) (done : T) (told new : Option History) → length all ≤ i → start + bytes_len (drop i all) ≡ bytes_len all
    → offset + length buffer ≤ bytes_len all
    → Told told new (Going all offset start buffer) → (let result : Result T Unread = Ok done in Told told new (ReadPiece all offset buffer result))
going_done all i start offset buffer done told new le begins room g =
    let none : drop i all ≡ [] = drop_all i all le in
    let end : start ≡ bytes_len all = (let e : start + 0 ≡ bytes_len all = ap (λ (l : List Segment). start + bytes_len l) (sym none) ∙ begins in omega (arith, e)) in
    let full : filled offset (length buffer) start ≡ length buffer = omega (arith, end, room) in
    told_map told new _ _ (λ old last one. record {
      goes = one.goes;
      bytes = λ object number bytes f. sym (take_all (length buffer) buffer (omega arith)) ∙ subst (λ n. take n buffer ≡ take n (drop offset bytes)) full (one.front object number bytes f);
    }) g

-- a read failed
pub going_failed : (T U : Type 0) (all : List Segment) (s : Segment) (start offset : ℕ) (before after : List ℕ) (unread : Unread) (told mid new : Option History) → Told told mid
    (Going all offset start before)
    → (let result : Result T Unread = Err unread in Told mid new (ReadOver s start offset after result)) →
    (let result : Result U Unread = Err unread in Told told new (ReadPiece all offset after result))
going_failed T U all s start offset before after unread told mid new g read =
    told_then told mid new _ _ _ (λ old half last one two. record { goes = goes_then (λ f. ⊥) old half last one.goes two.goes; bytes = tt }) g read

-- ---- which segments have any of it

module _ (start offset count : ℕ) (s : Segment) (rest : List Segment) where
  -- as many as there are of the first and of the others
  pub length_in : length (segments_in start offset count (s ∷ rest)) ≡ length (segments_in start offset count (s ∷ [])) + length (segments_in (start + s.len) offset count rest)
  length_in = elim (nat_lt start (offset + count) && nat_lt offset (start + s.len)) as
      (λ b. length (cond b (s ∷ []) [] ++ segments_in (start + s.len) offset count rest) ≡ length (cond b (s ∷ []) [] ++ []) + length (segments_in (start + s.len) offset count rest)) [
        | true ↦ omega arith
        | false ↦ omega arith
      ]

  pub first_in : (file : ℕ) → lies_in_file (segments_in start offset count (s ∷ [])) file ≡ true → lies_in_file (segments_in start offset count (s ∷ rest)) file ≡ true
  first_in file h = elim (nat_lt start (offset + count) && nat_lt offset (start + s.len)) as
      (λ b. lies_in_file (cond b (s ∷ []) [] ++ []) file ≡ true → lies_in_file (cond b (s ∷ []) [] ++ segments_in (start + s.len) offset count rest) file ≡ true) [
        | true ↦ λ t. one_file s file (segments_in (start + s.len) offset count rest) t
        | false ↦ λ t. absurd cc
      ] h

  pub others_in : (file : ℕ) → lies_in_file (segments_in (start + s.len) offset count rest) file ≡ true → lies_in_file (segments_in start offset count (s ∷ rest)) file ≡ true
  others_in file h = elim (nat_lt start (offset + count) && nat_lt offset (start + s.len)) as (λ b. lies_in_file (cond b (s ∷ []) [] ++ segments_in (start + s.len) offset count rest) file ≡ true) [
    | true ↦ behind_one s file (segments_in (start + s.len) offset count rest) h
    | false ↦ h
  ]
