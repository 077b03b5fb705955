-- The bytes of a copy, and parts of them, as they stand in its frames.
use Rattle.std.proofs.Common.{◌≡◌, inl, inr, ℕ, suc, ◌+◌, ◌-◌, ◌<◌, ◌≤◌, Bool, true, false, cond, ◌&&◌, nat_lt, List, [], ◌∷◌, ◌++◌, length, take, drop, refl, sym, ap, ap₂, subst, ◌∙◌, arith}
use Rattle.std.specs.List.{AllByRecursion}
use Rattle.std.proofs.Math.Seq.{drop-append-add, take-append-add}
use Rattle.std.proofs.lemmas.Bool.{cases_lt, le-ltb, lt-ltb}
use Rattle.std.proofs.lemmas.List.{drop-append-le, drop-drop, drop-take, length-drop, length-take-le, take-append-drop, take-append-le, take-take}
use Rattle.kinds.specs.declared.segment.Segment.{Segment}
use Rattle.store_api.specs.Runs.{Stands}
use Rattle.store_api.proofs.Pieces.{stands_part}
use Rattle.volume_frames.specs.Frames.{bytes_len, bytes_of, data_of, data_place}
use Rattle.contents.specs.Contents.{FramesHave, HasFrame, InImage}
use Rattle.contents.specs.Reading.{begins_at, segments_in}
use Rattle.contents.proofs.Looking.{data_behind}

module _ (P : ℕ → ℕ → List ℕ → Type 0) (object : ℕ) where
  -- as many bytes as the segments are long
  pub frames_long : (number : ℕ) (segments : List Segment) (bytes : List ℕ) → FramesHave P object number segments bytes → length bytes ≡ bytes_len segments
  frames_long number [] bytes h = ap length h
  frames_long number (s ∷ segments) bytes h = let rest = frames_long (suc number) segments (drop s.len bytes) h.2 in omega (arith, h.0, rest, length-drop s.len bytes)

  -- the frame of one of the segments
  frame_at : (number : ℕ) (front : List Segment) (s : Segment) (back : List Segment) (bytes : List ℕ) → FramesHave P object number (front ++ s ∷ back) bytes
      → (s.len ≤ length (drop (bytes_len front) bytes)) × HasFrame P s.file s.offset object (number + length front) (take s.len (drop (bytes_len front) bytes))
  frame_at number [] s back bytes h = (h.0, subst (λ (n : ℕ). HasFrame P s.file s.offset object n (take s.len bytes)) (let e : number ≡ number + 0 = omega arith in e) h.1)
  frame_at number (t ∷ front) s back bytes h =
      let there = frame_at (suc number) front s back (drop t.len bytes) h.2 in
      let same : drop (bytes_len front) (drop t.len bytes) ≡ drop (bytes_len (t ∷ front)) bytes = drop-drop (bytes_len front) t.len bytes in (
        subst (λ (l : List ℕ). s.len ≤ length l) same there.0,
        subst (λ (l : List ℕ). HasFrame P s.file s.offset object (number + length (t ∷ front)) (take s.len l)) same
            (subst (λ (n : ℕ). HasFrame P s.file s.offset object n (take s.len (drop (bytes_len front) (drop t.len bytes))))
            (let e : suc number + length front ≡ number + length (t ∷ front) = omega arith in e) there.1),
      )

-- ---- lists

-- nothing of anything
none_taken : (n : ℕ) (xs ys : List ℕ) → n ≡ 0 → take n xs ≡ take n ys
none_taken n xs ys e = ap (λ k. take k xs) e ∙ sym (ap (λ k. take k ys) e)

nil_of : (xs : List ℕ) → length xs ≡ 0 → xs ≡ []
nil_of [] e = refl
nil_of (x ∷ xs) e = absurd (omega (arith, e))

-- behind the same bytes
taken_behind : (n : ℕ) (front xs ys : List ℕ) → take (n - length front) xs ≡ take (n - length front) ys → take n (front ++ xs) ≡ take n (front ++ ys)
taken_behind n front xs ys same = elim (cases_lt n (length front)) [
  | inl short ↦ take-append-le n front xs (omega (arith, short)) ∙ sym (take-append-le n front ys (omega (arith, short)))
  | inr long ↦
      let k = n - length front in
      let whole : n ≡ length front + k = omega (arith, long) in
      let from : (zs : List ℕ) → take n (front ++ zs) ≡ front ++ take k zs = λ zs. ap (λ (m : ℕ). take m (front ++ zs)) whole ∙ take-append-add front zs k in
      from xs ∙ ap (λ (l : List ℕ). front ++ l) same ∙ sym (from ys)
]

-- a part of a part
part_of_part : (at len from count : ℕ) (bytes : List ℕ) → from + count ≤ len → take count (drop from (take len (drop at bytes))) ≡ take count (drop (at + from) bytes)
part_of_part at len from count bytes fits =
    let rest = len - from in
    let whole : len ≡ from + rest = omega (arith, fits) in
    ap (λ n. take count (drop from (take n (drop at bytes)))) whole
    ∙ ap (λ (l : List ℕ). take count l) (drop-take from rest (drop at bytes))
    ∙ take-take count rest (drop from (drop at bytes)) (omega (arith, fits))
    ∙ ap (λ (l : List ℕ). take count l) (drop-drop from at bytes)

module _ (image : ℕ → List ℕ) (object : ℕ) where
  -- the data of a segment stands behind its header
  data_is : (s : Segment) (number : ℕ) (part : List ℕ) → length part ≡ s.len → HasFrame (InImage image) s.file s.offset object number part → data_of (image s.file) s ≡ part
  data_is s number [] long h = ap (λ n. take n (drop (data_place s) (image s.file))) (sym long)
  data_is s number (b ∷ part) long h = ap (λ n. take n (drop (data_place s) (image s.file))) (sym long) ∙ (data_behind image s.file s.offset object number (b ∷ part) (omega arith) h).same

  -- the bytes are what stands there
  pub bytes_are : (number : ℕ) (segments : List Segment) (bytes : List ℕ) → FramesHave (InImage image) object number segments bytes → bytes ≡ bytes_of image segments
  bytes_are number [] bytes h = h
  bytes_are number (s ∷ segments) bytes h =
      sym (take-append-drop s.len bytes) ∙ ap₂ (λ (a b : List ℕ). a ++ b) (sym (data_is s number (take s.len bytes) (length-take-le s.len bytes h.0) h.1))
      (bytes_are (suc number) segments (drop s.len bytes) h.2)

  -- a part of one segment's data is that part of the bytes
  pub part_there : (number : ℕ) (front : List Segment) (s : Segment) (back : List Segment) (bytes : List ℕ) (from count : ℕ) → 0 < count → from + count ≤ s.len → FramesHave
      (InImage image) object number (front ++ s ∷ back) bytes
      → Stands (image s.file) (data_place s + from) (take count (drop (bytes_len front + from) bytes))
  part_there number front s back bytes from count some fits h =
      let there = frame_at (InImage image) object number front s back bytes h in
      let part : List ℕ = take s.len (drop (bytes_len front) bytes) in
      let long : length part ≡ s.len = length-take-le s.len (drop (bytes_len front) bytes) there.0 in
      let stands = data_behind image s.file s.offset object (number + length front) part (omega (arith, long, some, fits)) there.1 in
      subst (Stands (image s.file) (data_place s + from)) (part_of_part (bytes_len front) s.len from count bytes fits)
      (stands_part (image s.file) (data_place s) part from count some (omega (arith, fits, long)) stands)

  -- ---- a piece

  abbrev AreWhole : List Segment → Type 0
  AreWhole segments = AllByRecursion (λ (s : Segment). length (data_of (image s.file) s) ≡ s.len) segments

  whole_of : (number : ℕ) (segments : List Segment) (bytes : List ℕ) → FramesHave (InImage image) object number segments bytes → AreWhole segments
  whole_of number [] bytes h = tt
  whole_of number (s ∷ segments) bytes h =
      let long : length (take s.len bytes) ≡ s.len = length-take-le s.len bytes h.0 in
      (ap length (data_is s number (take s.len bytes) long h.1) ∙ long, whole_of (suc number) segments (drop s.len bytes) h.2)

  module _ (offset count : ℕ) where
    -- the segment has bytes of the piece, or none
    with_it : (start : ℕ) (s : Segment) (segments : List Segment) → start < offset + count → offset < start + s.len → segments_in start offset count (s ∷ segments) ≡ s ∷ segments_in
        (start + s.len) offset count segments
    with_it start s segments a b =
        ap (λ (x : Bool). cond (x && nat_lt offset (start + s.len)) (s ∷ []) [] ++ segments_in (start + s.len) offset count segments) (lt-ltb start (offset + count) a)
        ∙ ap (λ (x : Bool). cond x (s ∷ []) [] ++ segments_in (start + s.len) offset count segments) (lt-ltb offset (start + s.len) b)

    without_it : (start : ℕ) (s : Segment) (segments : List Segment) → start + s.len ≤ offset → segments_in start offset count (s ∷ segments) ≡ segments_in (start + s.len) offset count segments
    without_it start s segments le = ap (λ (x : Bool). cond (nat_lt start (offset + count) && x) (s ∷ []) [] ++ segments_in (start + s.len) offset count segments)
        (le-ltb offset (start + s.len) le) ∙ neither (nat_lt start (offset + count)) where
          neither : (x : Bool) → cond (x && false) (s ∷ []) [] ++ segments_in (start + s.len) offset count segments ≡ segments_in (start + s.len) offset count segments
          neither true = refl
          neither false = refl

    -- within the piece
    inside : (start : ℕ) (segments : List Segment) → AreWhole segments → offset ≤ start → take (offset + count - start) (bytes_of image (segments_in start offset count segments)) ≡ take
        (offset + count - start) (bytes_of image segments)
    inside start [] whole le = refl
    inside start (s ∷ segments) whole le =
        let own : List ℕ = data_of (image s.file) s in
        let next : ℕ = start + s.len in
        let rest = inside next segments whole.1 (omega (arith, le)) in
        let left : offset + count - next ≡ offset + count - start - length own = (let e : length own ≡ s.len = whole.0 in omega (arith, e)) in
        elim (cases_lt start (offset + count)) [
          | inr past ↦ none_taken (offset + count - start) _ _ (omega (arith, past))
          | inl before ↦ elim (cases_lt offset next) [
            | inl some ↦
                ap (λ (l : List Segment). take (offset + count - start) (bytes_of image l)) (with_it start s segments before some)
                ∙ taken_behind (offset + count - start) own (bytes_of image (segments_in next offset count segments)) (bytes_of image segments)
                (subst (λ (n : ℕ). take n (bytes_of image (segments_in next offset count segments)) ≡ take n (bytes_of image segments)) left rest)
            | inr none ↦
                let empty : own ≡ [] = nil_of own (let e : length own ≡ s.len = whole.0 in omega (arith, e, none, le)) in
                let same : offset + count - next ≡ offset + count - start = omega (arith, none, le) in
                ap (λ (l : List Segment). take (offset + count - start) (bytes_of image l)) (without_it start s segments none)
                ∙ subst (λ (n : ℕ). take n (bytes_of image (segments_in next offset count segments)) ≡ take n (bytes_of image segments)) same rest
                ∙ ap (λ (l : List ℕ). take (offset + count - start) (l ++ bytes_of image segments)) (sym empty)
          ]
        ]

    -- the piece begins there or behind
    from_start : (start : ℕ) (segments : List Segment) → AreWhole segments → start ≤ offset
        → take count (drop (offset - begins_at start offset segments) (bytes_of image (segments_in start offset count segments))) ≡ take count (drop (offset - start) (bytes_of image segments))
    from_start start [] whole le = refl
    from_start start (s ∷ segments) whole le =
        let own : List ℕ = data_of (image s.file) s in
        let long : length own ≡ s.len = whole.0 in
        let next : ℕ = start + s.len in
        let skip : ℕ = offset - start in
        let behind : List ℕ = bytes_of image (segments_in next offset count segments) in
        let all : List ℕ = bytes_of image segments in
        elim (cases_lt offset next) [
          | inl here ↦
              let begins : begins_at start offset (s ∷ segments) ≡ start = ap (λ (b : Bool). cond b start (begins_at next offset segments)) (lt-ltb offset next here) in
              ap (λ (n : ℕ). take count (drop (offset - n) (bytes_of image (segments_in start offset count (s ∷ segments))))) begins
              ∙ elim (cases_lt start (offset + count)) [
                | inr past ↦ none_taken count _ _ (omega (arith, past, le))
                | inl before ↦
                    let fits : skip ≤ length own = omega (arith, long, here, le) in
                    let left : offset + count - next ≡ count - length (drop skip own) = omega (arith, length-drop skip own, long, here, le) in
                    ap (λ (l : List Segment). take count (drop skip (bytes_of image l))) (with_it start s segments before here)
                    ∙ ap (λ (l : List ℕ). take count l) (drop-append-le skip own behind fits)
                    ∙ taken_behind count (drop skip own) behind all (subst (λ (n : ℕ). take n behind ≡ take n all) left (inside next segments whole.1 (omega (arith, here))))
                    ∙ ap (λ (l : List ℕ). take count l) (sym (drop-append-le skip own all fits))
              ]
          | inr there ↦
              let begins : begins_at start offset (s ∷ segments) ≡ begins_at next offset segments = ap (λ (b : Bool). cond b start (begins_at next offset segments)) (le-ltb offset next there) in
              let further : skip ≡ length own + (offset - next) = omega (arith, long, there) in
              ap (λ (n : ℕ). take count (drop (offset - n) (bytes_of image (segments_in start offset count (s ∷ segments))))) begins
              ∙ ap (λ (l : List Segment). take count (drop (offset - begins_at next offset segments) (bytes_of image l))) (without_it start s segments there)
              ∙ from_start next segments whole.1 there
              ∙ sym (ap (λ (n : ℕ). take count (drop n (own ++ all))) further ∙ ap (λ (l : List ℕ). take count l) (drop-append-add own all (offset - next)))
        ]

    pub piece_there : (number : ℕ) (segments : List Segment) (bytes : List ℕ) → FramesHave (InImage image) object number segments bytes
        → take count (drop (offset - begins_at 0 offset segments) (bytes_of image (segments_in 0 offset count segments))) ≡ take count (drop offset bytes)
    piece_there number segments bytes h =
        from_start 0 segments (whole_of number segments bytes h) (omega arith) ∙ ap (λ (n : ℕ). take count (drop n (bytes_of image segments))) (let e : offset - 0 ≡ offset = omega arith in e)
        ∙ ap (λ (l : List ℕ). take count (drop offset l)) (sym (bytes_are number segments bytes h))
