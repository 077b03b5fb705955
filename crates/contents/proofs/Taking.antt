-- What a ticket has taken stands in frames that grow by pieces.
use Rattle.std.proofs.Common.{◌≡◌, inl, inr, ℕ, suc, ◌+◌, ◌<◌, ◌≤◌, Bool, true, List, [], ◌∷◌, ◌++◌, length, take, drop, refl, sym, ap, subst, append_assoc, arith}
use Rattle.std.specs.List.{AllByRecursion}
use Rattle.std.proofs.lemmas.Bool.{cases_eq}
use Rattle.std.proofs.lemmas.List.{drop-append-le, drop_all, length-append, length-drop, length-take, length-take-le, take-append-le, take_all}
use Rattle.kinds.specs.declared.segment.Segment.{Segment}
use Rattle.store_api.specs.Disk.{History, Standing, reads, settled, standing}
use Rattle.store_api.specs.Runs.{Firm, IsOutside, Stands, WroteWithin}
use Rattle.store_api.proofs.Pieces.{stands_join}
use Rattle.store_api.proofs.Runs.{goes_standing}
use Rattle.store_api.proofs.Standings.{firm_settled}
use Rattle.volume_frames.specs.Frames.{bytes_len, frame_header}
use Rattle.volume_frames.proofs.Copies.{length-frame_header}
use Rattle.inventory_laws.specs.inventory_rows.State.{Inv}
use Rattle.inventory_laws.specs.inventory_rules.Segments.{are_all_clear, are_clear}
use Rattle.inventory_laws.proofs.Lists.{each_also}
use Rattle.contents.specs.Contents.{FramesHave, InImage, InStore, TookHave, frame}
use Rattle.contents.proofs.Growing.{front_clear}
use Rattle.contents.proofs.Kept.{firm_clear}
use Rattle.contents.proofs.Segments.{Carries, clear_apart, frames_carried}

-- where P of what stands at the place of a segment, no longer than its frame, Q of it
abbrev pub CarriesPart : (ℕ → ℕ → List ℕ → Type 0) → (ℕ → ℕ → List ℕ → Type 0) → Segment → Type 0
CarriesPart P Q s = (piece : List ℕ) → length piece ≤ 32 + s.len → P s.file s.offset piece → Q s.file s.offset piece

length-taken : (object number : ℕ) (s : Segment) (bytes : List ℕ) → length (frame_header object number s.len ++ take s.len bytes) ≤ 32 + s.len
length-taken object number s bytes = omega (arith, length-append (frame_header object number s.len) (take s.len bytes), length-frame_header object number s.len, length-take s.len bytes)

pub took_carried : (P Q : ℕ → ℕ → List ℕ → Type 0) (object number : ℕ) (segments : List Segment) (bytes : List ℕ) → AllByRecursion (CarriesPart P Q) segments
    → TookHave P object number segments bytes → TookHave Q object number segments bytes
took_carried P Q object number [] bytes c h = h
took_carried P Q object number (s ∷ segments) [] c h = tt
took_carried P Q object number (s ∷ segments) (b ∷ bytes) c h =
    (c.0 (frame_header object number s.len ++ take s.len (b ∷ bytes)) (length-taken object number s (b ∷ bytes)) h.0, took_carried P Q object (suc number) segments (drop s.len (b ∷ bytes)) c.1 h.1)

frame_is : (object number len : ℕ) (bytes : List ℕ) → length bytes ≡ len → frame_header object number len ++ bytes ≡ frame object number bytes
unfolding frame
frame_is object number len bytes long = ap (λ (n : ℕ). frame_header object number n ++ bytes) (sym long)

-- each of them has room for a byte
abbrev pub AreSome : List Segment → Type 0
AreSome segments = AllByRecursion (λ (s : Segment). 0 < s.len) segments

module _ (P : ℕ → ℕ → List ℕ → Type 0) (object : ℕ) where
  abbrev Took : ℕ → List Segment → List ℕ → Type 0
  Took number segments bytes = TookHave P object number segments bytes

  -- the place of a segment behind others, with its header and these bytes
  abbrev HasPart : ℕ → List Segment → Segment → List ℕ → Type 0
  HasPart number front s part = P s.file s.offset (frame_header object (number + length front) s.len ++ part)

  took_none : (number : ℕ) (segments : List Segment) → Took number segments []
  took_none number [] = refl
  took_none number (s ∷ segments) = tt

  -- what the segments in front took, where those behind took nothing
  took_front : (number : ℕ) (front rest : List Segment) (bytes : List ℕ) → length bytes ≤ bytes_len front → Took number (front ++ rest) bytes → Took number front bytes
  took_front number [] rest [] le h = refl
  took_front number [] rest (b ∷ bytes) le h = absurd (omega (arith, le))
  took_front number (t ∷ front) rest [] le h = tt
  took_front number (t ∷ front) rest (b ∷ bytes) le h = (h.0, took_front (suc number) front rest (drop t.len (b ∷ bytes)) (omega (arith, le, length-drop t.len (b ∷ bytes))) h.1)

  took_with : (number : ℕ) (front rest : List Segment) (bytes : List ℕ) → Took number front bytes → Took number (front ++ rest) bytes
  took_with number [] rest bytes h = subst (Took number rest) (sym h) (took_none number rest)
  took_with number (t ∷ front) rest [] h = tt
  took_with number (t ∷ front) rest (b ∷ bytes) h = (h.0, took_with (suc number) front rest (drop t.len (b ∷ bytes)) h.1)

  -- behind segments that are full the next one takes bytes
  took_more : (number : ℕ) (front : List Segment) (s : Segment) (back : List Segment) (bytes part : List ℕ) → AreSome front → length bytes ≡ bytes_len front → 0 < length part → length part ≤ s.len
      → HasPart number front s part → Took number front bytes → Took number (front ++ s ∷ back) (bytes ++ part)
  took_more number [] s back bytes [] some long any room here h = absurd (omega (arith, any))
  took_more number [] s back (b ∷ bytes) (p ∷ part) some long any room here h = absurd (omega (arith, long))
  took_more number [] s back [] (p ∷ part) some long any room here h =
      let there : P s.file s.offset (frame_header object number s.len ++ (p ∷ part)) = subst (λ (n : ℕ). P s.file s.offset (frame_header object n s.len ++ (p ∷ part)))
      (let e : number + 0 ≡ number = omega arith in e) here in (
        subst (λ (l : List ℕ). P s.file s.offset (frame_header object number s.len ++ l)) (sym (take_all s.len (p ∷ part) room)) there,
        subst (Took (suc number) back) (sym (drop_all s.len (p ∷ part) room)) (took_none (suc number) back),
      )
  took_more number (t ∷ front) s back [] part some long any room here h = absurd (let first : 0 < t.len = some.0 in omega (arith, long, first))
  took_more number (t ∷ front) s back (b ∷ bytes) part some long any room here h =
      let le : t.len ≤ length (b ∷ bytes) = omega (arith, long) in
      let rest : length (drop t.len (b ∷ bytes)) ≡ bytes_len front = omega (arith, long, length-drop t.len (b ∷ bytes)) in
      let there : HasPart (suc number) front s part = subst (λ (n : ℕ). P s.file s.offset (frame_header object n s.len ++ part))
      (let e : number + length (t ∷ front) ≡ suc number + length front = omega arith in e) here in (
        subst (λ (l : List ℕ). P t.file t.offset (frame_header object number t.len ++ l)) (sym (take-append-le t.len (b ∷ bytes) part le)) h.0,
        subst (Took (suc number) (front ++ s ∷ back)) (sym (drop-append-le t.len (b ∷ bytes) part le))
            (took_more (suc number) front s back (drop t.len (b ∷ bytes)) part some.1 rest any room there h.1),
      )

  -- what it took, and those in front
  took_split : (number : ℕ) (front : List Segment) (s : Segment) (back : List Segment) (bytes part : List ℕ) → AreSome front → length bytes ≡ bytes_len front → 0 < length part → length part ≤ s.len
      → Took number (front ++ s ∷ back) (bytes ++ part) → Took number front bytes × HasPart number front s part
  took_split number [] s back bytes [] some long any room h = absurd (omega (arith, any))
  took_split number [] s back (b ∷ bytes) (p ∷ part) some long any room h = absurd (omega (arith, long))
  took_split number [] s back [] (p ∷ part) some long any room h =
      let here : P s.file s.offset (frame_header object number s.len ++ (p ∷ part)) = subst (λ (l : List ℕ). P s.file s.offset (frame_header object number s.len ++ l))
      (take_all s.len (p ∷ part) room) h.0 in
      (refl, subst (λ (n : ℕ). P s.file s.offset (frame_header object n s.len ++ (p ∷ part))) (let e : number ≡ number + 0 = omega arith in e) here)
  took_split number (t ∷ front) s back [] part some long any room h = absurd (let first : 0 < t.len = some.0 in omega (arith, long, first))
  took_split number (t ∷ front) s back (b ∷ bytes) part some long any room h =
      let le : t.len ≤ length (b ∷ bytes) = omega (arith, long) in
      let rest : length (drop t.len (b ∷ bytes)) ≡ bytes_len front = omega (arith, long, length-drop t.len (b ∷ bytes)) in
      let more : Took (suc number) (front ++ s ∷ back) (drop t.len (b ∷ bytes) ++ part) = subst (Took (suc number) (front ++ s ∷ back)) (drop-append-le t.len (b ∷ bytes) part le) h.1 in
      let parts = took_split (suc number) front s back (drop t.len (b ∷ bytes)) part some.1 rest any room more in (
        (subst (λ (l : List ℕ). P t.file t.offset (frame_header object number t.len ++ l)) (take-append-le t.len (b ∷ bytes) part le) h.0, parts.0),
        subst (λ (n : ℕ). P s.file s.offset (frame_header object n s.len ++ part)) (let e : suc number + length front ≡ number + length (t ∷ front) = omega arith in e) parts.1,
      )

  -- all are full
  pub took_whole : (number : ℕ) (segments : List Segment) (bytes : List ℕ) → AreSome segments → length bytes ≡ bytes_len segments → Took number segments bytes
      → FramesHave P object number segments bytes
  took_whole number [] bytes some long h = h
  took_whole number (s ∷ segments) [] some long h = absurd (let first : 0 < s.len = some.0 in omega (arith, long, first))
  took_whole number (s ∷ segments) (b ∷ bytes) some long h =
      let le : s.len ≤ length (b ∷ bytes) = omega (arith, long) in
      let rest : length (drop s.len (b ∷ bytes)) ≡ bytes_len segments = omega (arith, long, length-drop s.len (b ∷ bytes)) in (
        le,
        inl (subst (P s.file s.offset) (frame_is object number s.len (take s.len (b ∷ bytes)) (length-take-le s.len (b ∷ bytes) le)) h.0),
        took_whole (suc number) segments
            (drop s.len (b ∷ bytes)) some.1 rest h.1,
      )

-- ---- runs

-- a write within the frame of a segment leaves what stands in the place of another that is clear of it
part_beside : (sequential : Bool) (s other : Segment) (at len : ℕ) (old new : History) → WroteWithin s.file at len old new → s.offset ≤ at → at + len ≤ s.offset + 32 + s.len →
    (other.file ≡ s.file → are_clear sequential s other ≡ true)
    → CarriesPart (InImage (reads old)) (InImage (reads new)) other
part_beside sequential s other at len old new wrote from to clear piece short stands = elim (cases_eq other.file s.file) [
  | inl same ↦
      let outside : IsOutside at len other.offset piece = elim (clear_apart sequential s other (clear same)) [
        | inl ahead ↦ inr (omega (arith, ahead, to))
        | inr behind ↦ inl
            (omega (arith, behind, short, from))
      ] in
      subst (λ (n : ℕ). Stands (reads new n) other.offset piece) (sym same) (wrote.stands other.offset piece outside (subst (λ (n : ℕ). Stands (reads old n) other.offset piece) same stands))
  | inr apart ↦ subst (λ (f : Standing). Stands f.bytes other.offset piece) (sym (goes_standing (λ n. n ≡ s.file) old new other.file apart wrote.goes)) stands
]

module _ (old new : History) (object number : ℕ) where
  pub took_beside : (sequential : Bool) (s : Segment) (at len : ℕ) (segments : List Segment) (bytes : List ℕ) → AllByRecursion
      (λ (t : Segment). t.file ≡ s.file → are_clear sequential s t ≡ true) segments
      → WroteWithin s.file at len old new → s.offset ≤ at → at + len ≤ s.offset + 32 + s.len → TookHave (InImage (reads old)) object number segments bytes → TookHave
      (InImage (reads new)) object number segments bytes
  took_beside sequential s at len segments bytes clear wrote from to h =
      took_carried (InImage (reads old)) (InImage (reads new)) object number segments bytes
      (each_also (λ (t : Segment). t.file ≡ s.file → are_clear sequential s t ≡ true) (CarriesPart (InImage (reads old)) (InImage (reads new))) segments
      (λ t apart. part_beside sequential s t at len old new wrote from to apart) clear) h

  pub frames_beside : (sequential : Bool) (s : Segment) (segments : List Segment) (bytes : List ℕ) → AllByRecursion (λ (t : Segment). t.file ≡ s.file → are_clear sequential s t ≡ true) segments
      → WroteWithin s.file s.offset (32 + s.len) old new → FramesHave (InStore old) object number segments bytes → FramesHave (InStore new) object number segments bytes
  frames_beside sequential s segments bytes clear wrote h =
      frames_carried (InStore old) (InStore new) object number segments bytes
      (each_also (λ (t : Segment). t.file ≡ s.file → are_clear sequential s t ≡ true) (Carries (InStore old) (InStore new)) segments (λ t apart. firm_clear sequential s t old new wrote apart) clear) h

  pub took_same : (segments : List Segment) (bytes : List ℕ) → AllByRecursion (λ (s : Segment). reads new s.file ≡ reads old s.file) segments → TookHave
      (InImage (reads old)) object number segments bytes → TookHave (InImage (reads new)) object number segments bytes
  took_same segments bytes same h =
      took_carried (InImage (reads old)) (InImage (reads new)) object number segments bytes
      (each_also (λ (s : Segment). reads new s.file ≡ reads old s.file) (CarriesPart (InImage (reads old)) (InImage (reads new))) segments
      (λ s e piece short stands. subst (λ (b : List ℕ). Stands b s.offset piece) (sym e) stands) same) h

  module _ (v : Inv) (front : List Segment) (s : Segment) (back : List Segment) (clear : are_all_clear v (front ++ s ∷ back) ≡ true) (at len : ℕ) (wrote : WroteWithin s.file at len old new)
      (to : at + len ≤ s.offset + 32 + s.len) where
    front_stays : s.offset ≤ at → (bytes : List ℕ) → TookHave (InImage (reads old)) object number front bytes → TookHave (InImage (reads new)) object number front bytes
    front_stays from bytes h =
        took_carried (InImage (reads old)) (InImage (reads new)) object number front bytes
        (front_clear v front s back (CarriesPart (InImage (reads old)) (InImage (reads new))) (λ t q apart. part_beside q s t at len old new wrote from to apart) clear) h

    -- the first bytes of a segment
    pub took_first : s.offset ≤ at → (bytes part : List ℕ) → AreSome front → length bytes ≡ bytes_len front → 0 < length part → length part ≤ s.len → Stands (reads new s.file) s.offset
        (frame_header object (number + length front) s.len ++ part)
        → TookHave (InImage (reads old)) object number (front ++ s ∷ back) bytes → TookHave (InImage (reads new)) object number (front ++ s ∷ back) (bytes ++ part)
    took_first from bytes part some long any room stands h =
        took_more (InImage (reads new)) object number front s back bytes part some long any room stands
        (front_stays from bytes (took_front (InImage (reads old)) object number front (s ∷ back) bytes (omega (arith, long)) h))

    -- and none
    pub took_still : s.offset ≤ at → (bytes : List ℕ) → length bytes ≤ bytes_len front → TookHave (InImage (reads old)) object number (front ++ s ∷ back) bytes → TookHave
        (InImage (reads new)) object number (front ++ s ∷ back) bytes
    took_still from bytes le h =
        took_with (InImage (reads new)) object number front (s ∷ back) bytes (front_stays from bytes (took_front (InImage (reads old)) object number front (s ∷ back) bytes le h))

    module _ (bytes taken : List ℕ) (some : AreSome front) (long : length bytes ≡ bytes_len front) (any : 0 < length taken) (from : s.offset + 32 + length taken ≤ at) where
      -- behind the bytes that it took already
      stays_there : length taken ≤ s.len → TookHave (InImage (reads old)) object number (front ++ s ∷ back) (bytes ++ taken)
          → TookHave (InImage (reads new)) object number front bytes × Stands (reads new s.file) s.offset (frame_header object (number + length front) s.len ++ taken)
      stays_there room h =
          let parts = took_split (InImage (reads old)) object number front s back bytes taken some long any room h in
          let header : List ℕ = frame_header object (number + length front) s.len in (
            front_stays (omega (arith, from)) bytes parts.0,
            wrote.stands s.offset (header ++ taken) (inl (omega (arith, from, length-append header taken, length-frame_header object (number + length front) s.len))) parts.1,
          )

      pub took_kept : length taken ≤ s.len → TookHave (InImage (reads old)) object number (front ++ s ∷ back) (bytes ++ taken) → TookHave (InImage (reads new)) object number (front ++ s ∷ back)
          (bytes ++ taken)
      took_kept room h = let there = stays_there room h in took_more (InImage (reads new)) object number front s back bytes taken some long any room there.1 there.0

      pub took_further : (part : List ℕ) → length taken + length part ≤ s.len → Stands (reads new s.file) (s.offset + 32 + length taken) part
          → TookHave (InImage (reads old)) object number (front ++ s ∷ back) (bytes ++ taken) → TookHave (InImage (reads new)) object number (front ++ s ∷ back) (bytes ++ (taken ++ part))
      took_further part room stands h =
          let there = stays_there (omega (arith, room)) h in
          let header : List ℕ = frame_header object (number + length front) s.len in
          let behind : Stands (reads new s.file) (s.offset + length (header ++ taken)) part =
          subst (λ (n : ℕ). Stands (reads new s.file) n part) (let e : s.offset + 32 + length taken ≡ s.offset + length (header ++ taken) = omega
          (arith, length-append header taken, length-frame_header object (number + length front) s.len) in e) stands in
          took_more (InImage (reads new)) object number front s back bytes (taken ++ part) some long (omega (arith, any, length-append taken part)) (omega (arith, room, length-append taken part))
          (subst (λ (l : List ℕ). Stands (reads new s.file) s.offset l) (append_assoc header taken part) (stands_join (reads new s.file) s.offset (header ++ taken) part there.1 behind)) there.0

-- what was taken whole is firm once its files are on the disk
pub took_sealed : (h : History) (object number : ℕ) (segments : List Segment) (bytes : List ℕ) → AreSome segments → length bytes ≡ bytes_len segments → AllByRecursion
    (λ (s : Segment). standing h s.file ≡ settled (reads h s.file)) segments
    → TookHave (InImage (reads h)) object number segments bytes → FramesHave (InStore h) object number segments bytes
took_sealed h object number segments bytes some long rest taken =
    frames_carried (InImage (reads h)) (InStore h) object number segments bytes
    (each_also (λ (s : Segment). standing h s.file ≡ settled (reads h s.file)) (Carries (InImage (reads h)) (InStore h)) segments
    (λ s e piece size stands. subst (λ (f : Standing). Firm f s.offset piece) (sym e) (firm_settled (reads h s.file) s.offset piece stands)) rest)
    (took_whole (InImage (reads h)) object number segments bytes some long taken)
