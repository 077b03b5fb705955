-- Bytes that a hasher takes, piece by piece.
use Rattle.std.proofs.Common.{◌≡◌, ℕ, ◌+◌, ◌-◌, ◌<◌, ◌≤◌, min, suc, Bool, true, false, ◌&&◌, List, [], ◌∷◌, ◌++◌, length, take, drop, get_or, refl, sym, ap, subst, ◌∙◌, append_assoc, append-nil, arith}
use Rattle.std.specs.Prelude.{nat_le}
use Rattle.std.proofs.lemmas.Bool.{leb-true}
use Rattle.std.proofs.lemmas.List.{drop-drop}
use Rattle.std.proofs.Math.Seq.{drop-cons, take-add}
use Rattle.sha2.specs.Hashers.{Holds256}
use Rattle.sha2.specs.declared.Sha256.{Sha256}
use Rattle.kinds.specs.declared.segment.Segment.{Segment}
use Rattle.store_api.specs.Told.{ReadsFrom}
use Rattle.volume_frames.specs.Frames.{piece, data_place, data_end, data_of, bytes_of}
use Rattle.copy_checks.specs.Copies.{is_framed, is_header, are_framed}
use Rattle.copy_checks.specs.Looks.{Takes, TakesPiece, TakesNext, TakesData, TakesSegment, TakesCopy}

pub takes_none : (h : Sha256) → Takes [] h h
takes_none h = λ message held. subst (Holds256 h) (sym (append-nil message)) held

pub takes_then : (xs ys : List ℕ) (a b c : Sha256) → Takes xs a b → Takes ys b c → Takes (xs ++ ys) a c
takes_then xs ys a b c f g = λ message held. subst (Holds256 c) (append_assoc message xs ys) (g (message ++ xs) (f message held))

pub takes_same : (xs ys : List ℕ) (a b : Sha256) → xs ≡ ys → Takes xs a b → Takes ys a b
takes_same xs ys a b is f = subst (λ (l : List ℕ). Takes l a b) is f

-- ---- pieces

pub piece_read : (file buffer : List ℕ) (at room count : ℕ) (a b : Sha256) → length buffer ≡ room → ReadsFrom file at buffer count → Takes (take count buffer) a b → TakesPiece file at room count a b
piece_read file buffer at room count a b long read takes = λ there.
    let many = read.many in
    ((let e : count ≡ room = omega (arith, many, long, there) in e), takes_same (take count buffer) (piece file at count) a b read.same takes)

pub next_taken : (file : List ℕ) (s : Segment) (done room count : ℕ) (a b : Sha256) → 0 < room → done + room ≤ s.len → TakesPiece file (data_place s + done) room count a b → TakesNext file s done count a b
next_taken file s done room count a b some few takes = λ there.
    let is = takes (omega (arith, there, few)) in
    ((let e = is.0 in omega (arith, e, some)), is.1)

-- so many bytes of a segment's data were taken
abbrev pub TakenTo : (file : List ℕ) → Segment → (done : ℕ) → (old now : Sha256) → Type 0
TakenTo file s done old now = data_end s ≤ length file → Takes (piece file (data_place s) done) old now

pub taken_none : (file : List ℕ) (s : Segment) (h : Sha256) → TakenTo file s 0 h h
taken_none file s h = λ there. takes_none h

pub taken_more : (file : List ℕ) (s : Segment) (done count : ℕ) (old now new : Sha256) → TakenTo file s done old now → TakesNext file s done count now new → TakenTo file s (done + count) old new
taken_more file s done count old now new taken next = λ there.
    takes_same (piece file (data_place s) done ++ piece file (data_place s + done) count) (piece file (data_place s) (done + count)) old new
    (ap (λ (l : List ℕ). piece file (data_place s) done ++ take count l) (sym (drop-drop done (data_place s) file)) ∙ sym (take-add done count (drop (data_place s) file)))
    (takes_then (piece file (data_place s) done) (piece file (data_place s + done) count) old now new (taken there) (next there).1)

pub taken_all : (file : List ℕ) (s : Segment) (done : ℕ) (old now : Sha256) → done ≡ s.len → TakenTo file s done old now → TakesData file s old now true
taken_all file s done old now is taken = λ there. (refl, takes_same (piece file (data_place s) done) (data_of file s) old now (ap (piece file (data_place s)) is) (taken there))

-- a segment all of which is there gives a byte more
pub taken_short : (file : List ℕ) (s : Segment) (done count : ℕ) (old now new : Sha256) → count ≡ 0 → TakesNext file s done count now new → TakesData file s old new false
taken_short file s done count old now new none next = λ there. absurd (let some = (next there).0 in omega (arith, some, none))

-- ---- segments

false_is : (b : Bool) → false ≡ b → true ≡ b → ⊥
false_is b f t = cc

and_first : (a b : Bool) → false ≡ a → false ≡ (a && b)
and_first a b h = subst (λ (x : Bool). false ≡ (x && b)) h refl

and_second : (a b : Bool) → a ≡ true → (a && b) ≡ b
and_second a b h = subst (λ (x : Bool). (x && b) ≡ b) (sym h) refl

and_last : (a b : Bool) → false ≡ b → false ≡ (a && b)
and_last true b h = h
and_last false b h = refl

-- its file ends before its data does
pub segment_outside : (file : List ℕ) (object number : ℕ) (s : Segment) (a b : Sha256) → false ≡ nat_le (data_end s) (length file) → TakesSegment file object number s a b false
segment_outside file object number s a b outside = (and_first (nat_le (data_end s) (length file)) (is_header (piece file s.offset 32) object number s.len) outside, λ no. absurd (cc))

-- no header stands at its place
pub segment_headless : (file : List ℕ) (object number : ℕ) (s : Segment) (a b : Sha256) → false ≡ is_header (piece file s.offset 32) object number s.len → TakesSegment file object number s a b false
segment_headless file object number s a b headless = (and_last (nat_le (data_end s) (length file)) (is_header (piece file s.offset 32) object number s.len) headless, λ no. absurd (cc))

pub segment_taken : (file : List ℕ) (object number : ℕ) (s : Segment) (a b : Sha256) (found : Bool) → true ≡ nat_le (data_end s) (length file) → true ≡ is_header (piece file s.offset 32) object number s.len → TakesData file s a b found → TakesSegment file object number s a b found
segment_taken file object number s a b found within header takes =
    let is = takes (leb-true (data_end s) (length file) (sym within)) in
    (is.0 ∙ sym (and_second (nat_le (data_end s) (length file)) (is_header (piece file s.offset 32) object number s.len) (sym within) ∙ sym header), λ yes. is.1)

-- ---- copies

-- the next segment, and those behind it
pub next_segment : (all : List Segment) (i : ℕ) (d : Segment) → i < length all → drop i all ≡ get_or all i d ∷ drop (i + 1) all
next_segment all i d lt = subst (λ (n : ℕ). drop i all ≡ get_or all i d ∷ drop n all) (let e : suc i ≡ i + 1 = omega arith in e) (drop-cons all i d lt)

-- the segments in front of these were taken
pub record Passed (image : ℕ → List ℕ) (object : ℕ) (all : List Segment) (number : ℕ) (rest : List Segment) (old now : Sha256) : Type 0 where
  pub framed : are_framed image object 0 all ≡ are_framed image object number rest
  pub bytes : List ℕ
  pub whole : bytes_of image all ≡ bytes ++ bytes_of image rest
  pub taken : Takes bytes old now

pub passed_none : (image : ℕ → List ℕ) (object : ℕ) (all : List Segment) (h : Sha256) → Passed image object all 0 all h h
passed_none image object all h = record { framed = refl; bytes = []; whole = refl; taken = takes_none h }

pub passed_more : (image : ℕ → List ℕ) (object : ℕ) (all : List Segment) (number : ℕ) (s : Segment) (rest : List Segment) (old now new : Sha256) → Passed image object all number (s ∷ rest) old now → TakesSegment (image s.file) object number s now new true
    → Passed image object all (number + 1) rest old new
passed_more image object all number s rest old now new passed takes = subst (λ (n : ℕ). Passed image object all n rest old new) (let e : suc number ≡ number + 1 = omega arith in e) (record {
  framed = passed.framed ∙ and_second (is_framed (image s.file) object number s) (are_framed image object (suc number) rest) (sym takes.0);
  bytes = passed.bytes ++ data_of (image s.file) s;
  whole = passed.whole ∙ sym (append_assoc passed.bytes (data_of (image s.file) s) (bytes_of image rest));
  taken = takes_then passed.bytes (data_of (image s.file) s) old now new passed.taken (takes.1 refl);
})

pub passed_failed : (image : ℕ → List ℕ) (object : ℕ) (all : List Segment) (number : ℕ) (s : Segment) (rest : List Segment) (old now new : Sha256) → Passed image object all number (s ∷ rest) old now → TakesSegment (image s.file) object number s now new false
    → TakesCopy image object 0 all old new false
passed_failed image object all number s rest old now new passed takes =
    (and_first (is_framed (image s.file) object number s) (are_framed image object (suc number) rest) takes.0 ∙ sym passed.framed, λ no. absurd (cc))

pub passed_all : (image : ℕ → List ℕ) (object : ℕ) (all : List Segment) (number : ℕ) (old now : Sha256) → Passed image object all number [] old now → TakesCopy image object 0 all old now true
passed_all image object all number old now passed =
    (sym passed.framed, λ yes. takes_same passed.bytes (bytes_of image all) old now (sym (passed.whole ∙ append-nil passed.bytes)) passed.taken)
