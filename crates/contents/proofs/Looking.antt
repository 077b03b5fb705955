-- How the bytes of a copy come into a buffer, segment by segment.
use Rattle.std.proofs.Common.{◌≡◌, inl, inr, ℕ, suc, ◌+◌, ◌<◌, ◌≤◌, eqb, true, false, ◌||◌, List, [], ◌∷◌, ◌++◌, length, get_or, take, drop, Option, Result, Ok, Err, refl, sym, ap, subst, ◌∙◌, arith}
use Rattle.std.specs.Prelude.{IfErr}
use Rattle.std.proofs.Math.Seq.{drop-cons, take-add}
use Rattle.std.proofs.lemmas.List.{append-nil, drop-drop, drop_all, length-take-le, length-drop, take-append-drop, take_all}
use Rattle.kinds.specs.declared.segment.Segment.{Segment}
use Rattle.store_api.specs.Cause.{Rose, NoneFell}
use Rattle.store_api.specs.Disk.{Standing, History, reads}
use Rattle.store_api.specs.Runs.{Stands, GoesOn}
use Rattle.store_api.proofs.Pieces.{stands_right}
use Rattle.store_api.proofs.Runs.{goes_none, goes_standing, goes_then, told_map, told_then}
use Rattle.store_api.specs.Told.{Told}
use Rattle.volume_frames.proofs.Copies.{length-first_header, length-frame_header}
use Rattle.volume_frames.specs.Frames.{bytes_len, first_header, frame_header}
use Rattle.contents.specs.Contents.{first_frame, frame, FramesHave, HasFrame, InImage}
use Rattle.contents.specs.Reading.{Lacks, MayLack, ReadData, ReadCopy, lies_in_file}
use Rattle.contents.specs.declared.frames.Unread.{Unread}
use Rattle.contents.specs.declared.frames.Unread.TheVariants.{Fault, RunFull}

-- files that weren't changed read as before
pub looked_reads : (old new : History) (file : ℕ) → GoesOn (λ f. ⊥) old new → reads new file ≡ reads old file
looked_reads old new file goes = ap (λ (s : Standing). s.bytes) (goes_standing (λ f. ⊥) old new file (λ none. none) goes)

-- behind the header of a frame that stands its data stands
data_stands : (file : List ℕ) (at object number : ℕ) (part : List ℕ) → 0 < length part → Stands file at (frame object number part) → Stands file (at + 32) part
unfolding frame
data_stands file at object number part some s =
    subst (λ (n : ℕ). Stands file (at + n) part) (length-frame_header object number (length part)) (stands_right file at (frame_header object number (length part)) part some s)

first_data_stands : (file : List ℕ) (at object number : ℕ) (part : List ℕ) → 0 < length part → Stands file at (first_frame object number part) → Stands file (at + 32) part
unfolding first_frame
first_data_stands file at object number part some s =
    subst (λ (n : ℕ). Stands file (at + n) part) (length-first_header object number (length part)) (stands_right file at (first_header object number (length part)) part some s)

pub data_behind : (image : ℕ → List ℕ) (file at object number : ℕ) (part : List ℕ) → 0 < length part → HasFrame (InImage image) file at object number part → Stands (image file) (at + 32) part
data_behind image file at object number part some (inl s) = data_stands (image file) at object number part some s
data_behind image file at object number part some (inr s) = first_data_stands (image file) at object number part some s.1

-- Segments were read into the front of a buffer, and these are left: where all stand in the frames of an object's bytes, the
-- front has the front of those, and those that are left stand in the frames of the rest.
pub record Going (all rest : List Segment) (at : ℕ) (buffer : List ℕ) (old new : History) : Type 0 where
  pub goes : GoesOn (λ f. ⊥) old new
  pub front : (object number : ℕ) (bytes : List ℕ) → FramesHave (InImage (reads old)) object number all bytes
      → (next : ℕ) × FramesHave (InImage (reads old)) object next rest (drop at bytes) × (take at buffer ≡ take at bytes)

pub going_start : (all : List Segment) (buffer : List ℕ) (h : History) → Going all all 0 buffer h h
going_start all buffer h = record { goes = goes_none (λ f. ⊥) h; front = λ object number bytes f. (number, f, refl) }

-- a part that was read is the part of the bytes, also where it is empty
part_read : {T : Type 0} (s : Segment) (object number : ℕ) (part buffer : List ℕ) (done : T) (old new : History) → length buffer ≡ s.len → length part ≡ s.len → HasFrame (InImage (reads old)) s.file s.offset object number part
    → (let result : Result T Unread = Ok done in ReadData s 0 buffer result old new) → buffer ≡ part
part_read s object number [] [] done old new long same stands read = refl
part_read s object number [] (b ∷ buffer) done old new long same stands read = absurd (omega arith)
part_read s object number (b ∷ part) buffer done old new long same stands read = read.bytes (b ∷ part) (same ∙ sym long)
    (subst (λ (n : ℕ). Stands (reads old s.file) n (b ∷ part)) (let e : s.offset + 32 ≡ s.offset + 32 + 0 = omega arith in e)
    (data_behind (reads old) s.file s.offset object number (b ∷ part) (omega arith) stands))

pub going_next : {T : Type 0} (all : List Segment) (s : Segment) (rest : List Segment) (at : ℕ) (before after : List ℕ) (done : T) (old mid new : History) → at + s.len ≤ length after → take at after ≡ take at before
    → Going all (s ∷ rest) at before old mid → (let result : Result T Unread = Ok done in ReadData s 0 (take s.len (drop at after)) result mid new) → Going all rest (at + s.len) after old new
going_next {T} all s rest at before after done old mid new room same g read = record {
  goes = goes_then (λ f. ⊥) old mid new g.goes read.goes;
  front = λ object number bytes f. next bytes object (g.front object number bytes f);
}
  where
    next : (bytes : List ℕ) (object : ℕ) → (n : ℕ) × FramesHave (InImage (reads old)) object n (s ∷ rest) (drop at bytes) × (take at before ≡ take at bytes)
        → (n : ℕ) × FramesHave (InImage (reads old)) object n rest (drop (at + s.len) bytes) × (take (at + s.len) after ≡ take (at + s.len) bytes)
    next bytes object h =
        let part : List ℕ = take s.len (drop at bytes) in
        let long : length part ≡ s.len = length-take-le s.len (drop at bytes) h.1.0 in
        let stands : HasFrame (InImage (reads mid)) s.file s.offset object h.0 part =
        subst (λ (l : List ℕ). HasFrame (λ (file : ℕ) (at : ℕ) (piece : List ℕ). Stands l at piece) s.file s.offset object h.0 part) (sym (looked_reads old mid s.file g.goes)) h.1.1 in
        let got : take s.len (drop at after) ≡ part = part_read s object h.0 part (take s.len (drop at after)) done mid new (length-take-le s.len (drop at after) (omega (arith, room, length-drop at after))) long stands read in
        let left : FramesHave (InImage (reads old)) object (suc h.0) rest (drop s.len (drop at bytes)) = h.1.2 in (
          suc h.0,
          subst (λ (l : List ℕ). FramesHave (InImage (reads old)) object (suc h.0) rest l) (drop-drop s.len at bytes) left,
          take-add at s.len after ∙ (ap (λ (l : List ℕ). l ++ take s.len (drop at after)) (same ∙ h.2) ∙ (ap (λ (l : List ℕ). take at bytes ++ l) got ∙ sym (take-add at s.len bytes))),
        )

-- all are read
pub going_end : {T : Type 0} (all : List Segment) (at : ℕ) (buffer : List ℕ) (done : T) (old new : History) → at ≡ length buffer → Going all [] at buffer old new → (let result : Result T Unread = Ok done in ReadCopy all buffer result old new)
going_end all at buffer done old new whole g = record {
  goes = g.goes;
  bytes = λ object number bytes f. end bytes (g.front object number bytes f).1 (g.front object number bytes f).2;
}
  where
    end : (bytes : List ℕ) → drop at bytes ≡ [] → take at buffer ≡ take at bytes → buffer ≡ bytes
    end bytes none same =
        sym (take_all at buffer (omega (arith, whole))) ∙ (same ∙ (sym (append-nil (take at bytes)) ∙ (ap (λ (l : List ℕ). take at bytes ++ l) (sym none) ∙ take-append-drop at bytes)))

-- a read failed
pub going_stop : {T U : Type 0} (all : List Segment) (s : Segment) (rest : List Segment) (at : ℕ) (before part after : List ℕ) (unread : Unread) (old mid new : History) → Going all rest at before old mid
    → (let result : Result T Unread = Err unread in ReadData s 0 part result mid new) → (let result : Result U Unread = Err unread in ReadCopy all after result old new)
going_stop all s rest at before part after unread old mid new g read = record { goes = goes_then (λ f. ⊥) old mid new g.goes read.goes; bytes = tt }

-- ---- why a read failed

rose_since : (before mid after : ℕ) → before ≤ mid → Rose mid after → Rose before after
rose_since before mid after le rose = omega (arith, rose)

pub one_file : (s : Segment) (file : ℕ) (rest : List Segment) → lies_in_file (s ∷ []) file ≡ true → lies_in_file (s ∷ rest) file ≡ true
one_file s file rest h = elim (eqb s.file file) as (λ b. (b || false) ≡ true → (b || lies_in_file rest file) ≡ true) [ true ↦ λ t. refl | false ↦ λ t. absurd cc ] h

-- the cause of a read of some of the segments is one of the reading of all
pub lacks_from : (some all : List Segment) (before mid after : ℕ → ℕ) (moment : ℕ) (unread : Unread) → ((file : ℕ) → lies_in_file some file ≡ true → lies_in_file all file ≡ true) → NoneFell before mid
    → MayLack some mid after moment unread → MayLack all before after moment unread
lacks_from some all before mid after moment (Fault file) among none h = (among file h.0, rose_since (before file) (mid file) (after file) (none file) h.1)
lacks_from some all before mid after moment RunFull among none h = h

pub lacks_since : (all : List Segment) (s : Segment) (rest : List Segment) (before mid after : ℕ → ℕ) (moment : ℕ) (unread : Unread) → ((file : ℕ) → lies_in_file (s ∷ rest) file ≡ true → lies_in_file all file ≡ true) → NoneFell before mid
    → MayLack (s ∷ []) mid after moment unread → MayLack all before after moment unread
lacks_since all s rest before mid after moment unread among none h = lacks_from (s ∷ []) all before mid after moment unread (λ file one. among file (one_file s file rest one)) none h

-- what is lacking where there was time
lacking : (segments : List Segment) (before after : ℕ → ℕ) (moment : ℕ) (unread : Unread) → Lacks segments before after unread → MayLack segments before after moment unread
lacking segments before after moment (Fault file) h = h
lacking segments before after moment RunFull h = absurd h

pub may_lack : {T : Type 0} (segments : List Segment) (before after : ℕ → ℕ) (moment : ℕ) (result : Result T Unread) → IfErr result (Lacks segments before after)
    → IfErr result (MayLack segments before after moment)
may_lack segments before after moment (Ok x) h = tt
may_lack segments before after moment (Err unread) h = lacking segments before after moment unread h

-- the same of more segments
lacks_more : (some all : List Segment) (before mid after : ℕ → ℕ) (unread : Unread) → ((file : ℕ) → lies_in_file some file ≡ true → lies_in_file all file ≡ true) → NoneFell before mid
    → Lacks some mid after unread → Lacks all before after unread
lacks_more some all before mid after (Fault file) among none h = (among file h.0, rose_since (before file) (mid file) (after file) (none file) h.1)
lacks_more some all before mid after RunFull among none h = absurd h

pub behind_one : (s : Segment) (file : ℕ) (rest : List Segment) → lies_in_file rest file ≡ true → lies_in_file (s ∷ rest) file ≡ true
behind_one s file rest h = elim (eqb s.file file) as (λ b. (b || lies_in_file rest file) ≡ true) [ true ↦ refl | false ↦ h ]

pub among_next : (all : List Segment) (s : Segment) (rest : List Segment) → ((file : ℕ) → lies_in_file (s ∷ rest) file ≡ true → lies_in_file all file ≡ true) → (file : ℕ) → lies_in_file rest file ≡ true → lies_in_file all file ≡ true
among_next all s rest among file h = among file (behind_one s file rest h)

-- the segments from a place on are the one there and those behind it
pub from_place : (all : List Segment) (i : ℕ) (d : Segment) → i < length all → drop i all ≡ get_or all i d ∷ drop (i + 1) all
from_place all i d lt = subst (λ (n : ℕ). drop i all ≡ get_or all i d ∷ drop n all) (let e : suc i ≡ i + 1 = omega arith in e) (drop-cons all i d lt)

-- one segment more of those that were read
pub going_at : {T : Type 0} (all : List Segment) (i : ℕ) (d : Segment) (at : ℕ) (before after : List ℕ) (done : T) (told mid new : Option History) → i < length all → at + (get_or all i d).len ≤ length after → take at after ≡ take at before
    → Told told mid (Going all (drop i all) at before) → (let result : Result T Unread = Ok done in Told mid new (ReadData (get_or all i d) 0 (take (get_or all i d).len (drop at after)) result))
    → Told told new (Going all (drop (i + 1) all) (at + (get_or all i d).len) after)
going_at all i d at before after done told mid new lt room same g read =
    told_then told mid new _ _ _
    (λ old half last one two. going_next all (get_or all i d) (drop (i + 1) all) at before after done old half last room same (subst (λ (l : List Segment). Going all l at before old half) (from_place all i d lt) one) two) g read

-- a read that failed
pub going_failed : (T U : Type 0) (all : List Segment) (s : Segment) (rest : List Segment) (at : ℕ) (before part after : List ℕ) (unread : Unread) (told mid new : Option History) → Told told mid (Going all rest at before)
    → (let result : Result T Unread = Err unread in Told mid new (ReadData s 0 part result)) → (let result : Result U Unread = Err unread in Told told new (ReadCopy all after result))
going_failed T U all s rest at before part after unread told mid new g read =
    told_then told mid new _ _ _ (λ old half last one two. going_stop all s rest at before part after unread old half last one two) g read

-- none is left
pub going_over : {T : Type 0} (all : List Segment) (i at : ℕ) (buffer : List ℕ) (done : T) (told new : Option History) → length all ≤ i → at + bytes_len (drop i all) ≡ length buffer → Told told new (Going all (drop i all) at buffer)
    → (let result : Result T Unread = Ok done in Told told new (ReadCopy all buffer result))
going_over all i at buffer done told new le room g =
    let none : drop i all ≡ [] = drop_all i all le in
    told_map told new _ _ (λ old last one. going_end all at buffer done old last (let e : at + 0 ≡ length buffer = ap (λ (l : List Segment). at + bytes_len l) (sym none) ∙ room in omega (arith, e)) (subst (λ (l : List Segment). Going all l at buffer old last) none one)) g
