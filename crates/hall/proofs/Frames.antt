-- How bytes come into a ticket's frames.
use Rattle.std.proofs.Common.{◌≡◌, inl, ℕ, ◌+◌, ◌-◌, ◌<◌, ◌≤◌, Bool, true, false, ◌||◌, List, [], ◌∷◌, ◌++◌, length, get_or, take, drop, Option, None, Some, Result, Ok, Err, refl, sym, ap, subst, ◌∙◌, append_assoc, append-nil, arith}
use Rattle.std.specs.Prelude.{◌==◌, OnOk}
use Rattle.std.specs.List.{list_any}
use Rattle.std.proofs.Math.Seq.{take-add}
use Rattle.std.proofs.lemmas.Bool.{eq-eqb}
use Rattle.std.proofs.lemmas.List.{drop_all, get_or-map, length-map, length-append, length-drop, length-take-le, take-append-drop, take_all, take_more}
use Rattle.kinds.specs.declared.segment.Segment.{Segment}
use Rattle.store_api.specs.Disk.{History, reads}
use Rattle.store_api.specs.Runs.{Stands, WroteWithin, Wrote}
use Rattle.store_api.specs.declared.store.Failed.{Failed}
use Rattle.store_api.specs.Told.{Told}
use Rattle.store_api.proofs.Pieces.{stands_join}
use Rattle.store_api.proofs.Ranges.{wrote_none, wrote_part, wrote_then}
use Rattle.store_api.proofs.Runs.{told_then}
use Rattle.volume_frames.specs.Frames.{bytes_len, frame_header}
use Rattle.volume_frames.proofs.Copies.{bytes_len-append, length-frame_header}
use Rattle.inventory_laws.proofs.Lists.{each_joined}
use Rattle.inventory_rows.specs.State.{Inv}
use Rattle.inventory_rules.specs.Segments.{are_all_clear}
use Rattle.contents.specs.Reading.{filled, lies_in_file}
use Rattle.contents.proofs.Looking.{from_place}
use Rattle.contents.proofs.Taking.{took_first, took_further}
use Rattle.space.specs.declared.places.Placed.{Placed}
use Rattle.hall.specs.Frames.{AreSome, TakesOver, TakesPart, Took, WroteBehind, WroteData, WroteEach, WroteOver, WrotePart, segments_of}

-- ---- one call

pub on_ok_map : {T E : Type 0} (P Q : Type 0) (result : Result T E) → (P → Q) → OnOk result P → OnOk result Q
on_ok_map P Q (Ok x) f h = f h
on_ok_map P Q (Err e) f h = h

-- bytes of a segment's data, at a place that is the right one where the call succeeded
pub wrote_data : {T : Type 0} (s : Segment) (from place : ℕ) (part : List ℕ) (result : Result T Failed) (old new : History) → s.offset ≤ place → place ≤ s.offset + 32 + from
    → from + length part ≤ s.len → OnOk result (place ≡ s.offset + 32 + from) → Wrote s.file place part result old new → WroteData s from part result old new
wrote_data s from place part (Ok done) old new low top room is w = record {
  within = wrote_part s.file place (length part) s.offset (32 + s.len) old new low (omega (arith, top, room)) w.within;
  behind = subst (λ n. WroteWithin s.file n (length part) old new) is w.within;
  there = λ some. subst (λ n. Stands (reads new s.file) n part) is (w.there some);
}
wrote_data s from place part (Err e) old new low top room is w = record {
  within = wrote_part s.file place (length part) s.offset (32 + s.len) old new low (omega (arith, top, room)) w.within;
  behind = tt;
  there = tt;
}

-- ---- a segment

-- further bytes
takes_further : (object number : ℕ) (s : Segment) (from : ℕ) (part : List ℕ) (old new : History) → 0 < from → from + length part ≤ s.len
    → WroteWithin s.file (s.offset + 32 + from) (length part) old new → Stands (reads new s.file) (s.offset + 32 + from) part → TakesPart object number s from part old new
takes_further object number s from part old new some room wrote stands = λ v front back taken clear are n long took.
    let whole : ℕ = bytes_len front in
    let ahead : List ℕ = take whole taken in
    let last : List ℕ = drop whole taken in
    let joined : ahead ++ last ≡ taken = take-append-drop whole taken in
    let long_ahead : length ahead ≡ whole = length-take-le whole taken (omega (arith, long)) in
    let long_last : length last ≡ from = (let d : length last ≡ length taken - whole = length-drop whole taken in omega (arith, d, long)) in
    let more : Took object (front ++ s ∷ back) (ahead ++ (last ++ part)) new =
    took_further old new object 0 v front s back clear (s.offset + 32 + from) (length part) wrote (omega (arith, room)) ahead last are long_ahead (omega (arith, some, long_last))
    (omega (arith, long_last)) part (omega (arith, room, long_last))
    (subst (λ n. Stands (reads new s.file) n part) (let e : s.offset + 32 + from ≡ s.offset + 32 + length last = omega (arith, long_last) in e) stands)
    (subst (λ l. Took object (front ++ s ∷ back) l old) (sym joined) took) in
    subst (λ l. Took object (front ++ s ∷ back) l new) (sym (append_assoc ahead last part) ∙ ap (λ l. l ++ part) joined) more

-- the first bytes
takes_first : (object number : ℕ) (s : Segment) (part : List ℕ) (old new : History) → 0 < length part → length part ≤ s.len
    → WroteWithin s.file s.offset (32 + length part) old new → Stands (reads new s.file) s.offset (frame_header object number s.len ++ part) → TakesPart object number s 0 part old new
takes_first object number s part old new some room wrote stands = λ v front back taken clear are n long took.
    took_first old new object 0 v front s back clear s.offset (32 + length part) wrote (omega (arith, room)) (omega arith) taken part are (omega (arith, long)) some room
    (subst (λ k. Stands (reads new s.file) s.offset (frame_header object k s.len ++ part)) (let e : number ≡ 0 + length front = omega (arith, n) in e) stands) took

-- of bytes behind others
pub part_further : {T : Type 0} (object number : ℕ) (s : Segment) (from : ℕ) (part : List ℕ) (result : Result T Failed) (old new : History) → 0 < from → from + length part ≤ s.len → 0 < length part
    → WroteData s from part result old new → WrotePart object number s from part result old new
part_further object number s from part (Ok done) old new some room any w = record {
  within = w.within;
  took = takes_further object number s from part old new some room w.behind (w.there any);
}
part_further object number s from part (Err e) old new some room any w = record { within = w.within; took = tt }

-- of the header, and of the bytes behind it
module _ {U : Type 0} (object number : ℕ) (s : Segment) (part : List ℕ) (done : U) (old mid new : History) (room : length part ≤ s.len) (any : 0 < length part)
    (h : let first : Result U Failed = Ok done in Wrote s.file s.offset (frame_header object number s.len) first old mid) where
  both_there : WroteWithin s.file (s.offset + 32 + 0) (length part) mid new → Stands (reads new s.file) (s.offset + 32 + 0) part → TakesPart object number s 0 part old new
  both_there behind there =
      let header : List ℕ = frame_header object number s.len in
      let head : length header ≡ 32 = length-frame_header object number s.len in
      takes_first object number s part old new any room
      (wrote_then s.file s.offset (32 + length part) old mid new (wrote_part s.file s.offset (length header) s.offset (32 + length part) old mid (omega arith) (omega (arith, head)) h.within)
      (wrote_part s.file (s.offset + 32 + 0) (length part) s.offset (32 + length part) mid new (omega arith) (omega arith) behind))
      (stands_join (reads new s.file) s.offset header part (behind.stands s.offset header (inl (omega (arith, head))) (h.there (omega (arith, head))))
      (subst (λ n. Stands (reads new s.file) n part) (let e : s.offset + 32 + 0 ≡ s.offset + length header = omega (arith, head) in e) there))

  headed : WroteWithin s.file s.offset (32 + s.len) mid new → WroteWithin s.file s.offset (32 + s.len) old new
  headed w =
      let head = length-frame_header object number s.len in
      wrote_then s.file s.offset (32 + s.len) old mid new
      (wrote_part s.file s.offset (length (frame_header object number s.len)) s.offset (32 + s.len) old mid (omega arith) (omega (arith, head)) h.within) w

  pub part_first : {T : Type 0} (result : Result T Failed) → WroteData s 0 part result mid new → WrotePart object number s 0 part result old new
  part_first (Ok x) w = record { within = headed w.within; took = both_there w.behind (w.there any) }
  part_first (Err e) w = record { within = headed w.within; took = tt }

pub part_unheaded : {T U : Type 0} (object number : ℕ) (s : Segment) (part : List ℕ) (failed again : Failed) (old new : History)
    → (let first : Result U Failed = Err failed in Wrote s.file s.offset (frame_header object number s.len) first old new)
    → (let result : Result T Failed = Err again in WrotePart object number s 0 part result old new)
part_unheaded object number s part failed again old new h = record {
  within = wrote_part s.file s.offset (length (frame_header object number s.len)) s.offset (32 + s.len) old new (omega arith) (let head = length-frame_header object number s.len in omega (arith, head))
      h.within;
  took = tt;
}

-- ---- what a segment has of a piece

module _ (object number : ℕ) (s : Segment) (start count : ℕ) (bytes : List ℕ) where
  abbrev at : ℕ
  at = filled count (length bytes) start

  abbrev until : ℕ
  until = filled count (length bytes) (start + s.len)

  takes_over : (old new : History) → at < until → TakesPart object number s (count - start) (take (until - at) (drop at bytes)) old new → TakesOver object number s start count bytes old new
  takes_over old new some takes = λ v front back taken clear are n begins long took.
      let part : List ℕ = take (until - at) (drop at bytes) in
      let low : at ≤ length bytes = omega arith in
      let ahead : length (take at bytes) ≡ at = length-take-le at bytes low in
      let size : length (taken ++ take at bytes) ≡ bytes_len front + (count - start) = (let all = length-append taken (take at bytes) in omega (arith, all, ahead, long, begins, some)) in
      let whole : take until bytes ≡ take at bytes ++ part = ap (λ k. take k bytes) (let e : until ≡ at + (until - at) = omega (arith, some) in e) ∙ take-add at (until - at) bytes in
      subst (λ l. Took object (front ++ s ∷ back) l new) (append_assoc taken (take at bytes) part ∙ ap (λ l. taken ++ l) (sym whole))
      (takes v front back (taken ++ take at bytes) clear are n size took)

  over_at : {T : Type 0} (result : Result T Failed) (old new : History) → at < until → WrotePart object number s (count - start) (take (until - at) (drop at bytes)) result old new
      → WroteOver object number s start count bytes result old new
  over_at result old new some w = record {
    within = w.within;
    took = on_ok_map (TakesPart object number s (count - start) (take (until - at) (drop at bytes)) old new) (TakesOver object number s start count bytes old new) result (takes_over old new some) w.took;
  }

  -- from this byte of the piece up to that one, behind so many that the segment has
  pub over_some : {T : Type 0} (result : Result T Failed) (old new : History) (a u from : ℕ) → a ≡ at → u ≡ until → from ≡ count - start → a < u
      → WrotePart object number s from (take (u - a) (drop a bytes)) result old new → WroteOver object number s start count bytes result old new
  over_some result old new a u from is_at is_until is_from some w =
      over_at result old new (omega (arith, is_at, is_until, some))
      (subst (λ x. WrotePart object number s (count - start) (take (until - x) (drop x bytes)) result old new) is_at
      (subst (λ y. WrotePart object number s (count - start) (take (y - a) (drop a bytes)) result old new) is_until
      (subst (λ f. WrotePart object number s f (take (u - a) (drop a bytes)) result old new) is_from w)))

  pub over_none : {T E : Type 0} (done : T) (h : History) → until ≤ at → (let result : Result T E = Ok done in WroteOver object number s start count bytes result h h)
  over_none done h none = record {
    within = wrote_none s.file s.offset (32 + s.len) h;
    took = λ v front back taken clear are n begins long took.
        subst (λ k. Took object (front ++ s ∷ back) (taken ++ take k bytes) h) (let e : at ≡ until = omega (arith, none) in e) took;
  }

-- ---- all segments

pub each_snoc : (segments : List Segment) (s : Segment) (old mid new : History) → WroteEach segments old mid → WroteWithin s.file s.offset (32 + s.len) mid new → WroteEach (segments ++ s ∷ []) old new
each_snoc [] s old mid new e w = (new, subst (λ h. WroteWithin s.file s.offset (32 + s.len) h new) e w, refl)
each_snoc (t ∷ segments) s old mid new e w = (e.0, e.1, each_snoc segments s e.0 mid new e.2 w)

-- What the segments in front of the one with this number, which begins at this byte, took of a piece.
pub record Behind (object count : ℕ) (all : List Segment) (i start : ℕ) (bytes : List ℕ) (old new : History) : Type 0 where
  pub wrote : WroteEach (take i all) old new
  pub took : (v : Inv) (taken : List ℕ) → are_all_clear v all ≡ true → AreSome all → length taken ≡ count → Took object all taken old
      → Took object all (taken ++ take (filled count (length bytes) start) bytes) new

pub behind_begins : (object count : ℕ) (all : List Segment) (bytes : List ℕ) (h : History) → Behind object count all 0 0 bytes h h
behind_begins object count all bytes h = record {
  wrote = refl;
  took = λ v taken clear are long took.
      subst (λ l. Took object all l h) (sym (ap (λ k. taken ++ take k bytes) (let e : filled count (length bytes) 0 ≡ 0 = omega arith in e) ∙ append-nil taken)) took;
}

module _ (object count : ℕ) (all : List Segment) (i start : ℕ) (bytes : List ℕ) (d : Segment) (lt : i < length all) where
  abbrev here : Segment
  here = get_or all i d

  split : all ≡ take i all ++ here ∷ drop (i + 1) all
  split = sym (take-append-drop i all) ∙ ap (λ (l : List Segment). take i all ++ l) (from_place all i d lt)

  next : take (i + 1) all ≡ take i all ++ here ∷ []
  next = take_more all i d lt

  before : AreSome all → AreSome (take i all)
  before are = (each_joined (λ (r : Segment). 0 < r.len) (take i all) (here ∷ drop (i + 1) all) (subst AreSome split are)).0

  pub behind_next : {T E : Type 0} (done : T) (old mid new : History) → start ≡ bytes_len (take i all) → Behind object count all i start bytes old mid
      → (let result : Result T E = Ok done in WroteOver object i here start count bytes result mid new) → Behind object count all (i + 1) (start + here.len) bytes old new
  behind_next done old mid new begins b w = record {
    wrote = subst (λ l. WroteEach l old new) (sym next) (each_snoc (take i all) here old mid new b.wrote w.within);
    took = λ v taken clear are long took.
        subst (λ l. Took object l (taken ++ take (filled count (length bytes) (start + here.len)) bytes) new) (sym split)
        (w.took v (take i all) (drop (i + 1) all) taken (subst (λ l. are_all_clear v l ≡ true) split clear) (before are) (length-take-le i all (omega (arith, lt))) (sym begins) long
        (subst (λ l. Took object l (taken ++ take (filled count (length bytes) start) bytes) mid) split (b.took v taken clear are long took)));
  }

  pub behind_fails : {T E U F : Type 0} (e : E) (f : F) (old mid new : History) → Behind object count all i start bytes old mid
      → (let result : Result T E = Err e in WroteOver object i here start count bytes result mid new) → (let result : Result U F = Err f in WroteBehind object count all bytes result old new)
  behind_fails e f old mid new b w = record {
    wrote = (i + 1, subst (λ l. WroteEach l old new) (sym next) (each_snoc (take i all) here old mid new b.wrote w.within));
    took = tt;
  }

pub behind_done : {T E : Type 0} (object count : ℕ) (all : List Segment) (i start : ℕ) (bytes : List ℕ) (done : T) (old new : History) → count + length bytes ≤ start
    → Behind object count all i start bytes old new → (let result : Result T E = Ok done in WroteBehind object count all bytes result old new)
behind_done object count all i start bytes done old new full b = record {
  wrote = (i, b.wrote);
  took = λ v taken clear are long took.
      subst (λ l. Took object all (taken ++ l) new)
      (ap (λ k. take k bytes) (let e : filled count (length bytes) start ≡ length bytes = omega (arith, full) in e) ∙ take_all (length bytes) bytes (omega arith)) (b.took v taken clear are long took);
}

-- ---- as a store tells it

-- no call was made
pub told_here : (R : History → History → Type 0) (x : Option History) → ((h : History) → R h h) → Told x x R
told_here R None f = tt
told_here R (Some h) f = f h

-- ---- places

any_middle : {A : Type 0} (p : A → Bool) (front : List A) (x : A) (back : List A) → p x ≡ true → list_any p (front ++ x ∷ back) ≡ true
any_middle p [] x back h = ap (λ b. b || list_any p back) h
any_middle p (y ∷ front) x back h = ap (λ b. p y || b) (any_middle p front x back h) ∙ or_true (p y)
  where
    or_true : (b : Bool) → (b || true) ≡ true
    or_true true = refl
    or_true false = refl

module _ (places : List Placed) (i : ℕ) (d : Placed) (lt : i < length places) where
  abbrev all : List Segment
  all = segments_of places

  abbrev one : Segment
  one = (get_or places i d).segment

  pub place_is : get_or all i d.segment ≡ one
  place_is = get_or-map (λ p. p.segment) places i d d.segment lt

  pub within_segments : i < length all
  within_segments = let e : length all ≡ length places = length-map places (λ (p : Placed). p.segment) in omega (arith, e, lt)

  pub begins_next : (start : ℕ) → start + bytes_len (drop i all) ≡ bytes_len all → start + one.len + bytes_len (drop (i + 1) all) ≡ bytes_len all
  begins_next start begins =
      let whole : start + bytes_len (get_or all i d.segment ∷ drop (i + 1) all) ≡ bytes_len all =
      ap (λ (l : List Segment). start + bytes_len l) (sym (from_place all i d.segment within_segments)) ∙ begins in
      let same : (get_or all i d.segment).len ≡ one.len = ap (λ (s : Segment). s.len) place_is in
      omega (arith, whole, same)

  pub lies_there : lies_in_file all one.file ≡ true
  lies_there =
      ap (λ l. lies_in_file l one.file) (split 0 0 all i 0 [] d.segment within_segments)
      ∙ any_middle (λ s. s.file == one.file) (take i all) (get_or all i d.segment) (drop (i + 1) all) (eq-eqb (get_or all i d.segment).file one.file (ap (λ (s : Segment). s.file) place_is))

  module _ (object count start : ℕ) (bytes : List ℕ) (begins : start + bytes_len (drop i all) ≡ bytes_len all) where
    ahead : start ≡ bytes_len (take i all)
    ahead =
        let whole : bytes_len (take i all) + bytes_len (drop i all) ≡ bytes_len all = sym (bytes_len-append (take i all) (drop i all)) ∙ ap bytes_len (take-append-drop i all) in
        omega (arith, begins, whole)

    pub behind_place : (T E : Type 0) (done : T) (x y z : Option History) → Told x y (Behind object count all i start bytes)
        → (let result : Result T E = Ok done in Told y z (WroteOver object i one start count bytes result)) → Told x z (Behind object count all (i + 1) (start + one.len) bytes)
    behind_place T E done x y z b w =
        told_then x y z _ _ _ (λ old mid new b w.
        subst (λ (s : Segment). Behind object count all (i + 1) (start + s.len) bytes old new) place_is
        (behind_next object count all i start bytes d.segment within_segments done old mid new ahead b
        (subst (λ (s : Segment). let result : Result T E = Ok done in WroteOver object i s start count bytes result mid new) (sym place_is) w))) b w

    pub behind_place_fails : (T E U F : Type 0) (e : E) (f : F) (x y z : Option History) → Told x y (Behind object count all i start bytes)
        → (let result : Result T E = Err e in Told y z (WroteOver object i one start count bytes result)) → (let result : Result U F = Err f in Told x z (WroteBehind object count all bytes result))
    behind_place_fails T E U F e f x y z b w =
        told_then x y z _ _ _ (λ old mid new b w.
        behind_fails object count all i start bytes d.segment within_segments {T = T} {E = E} {U = U} {F = F} e f old mid new b
        (subst (λ (s : Segment). let result : Result T E = Err e in WroteOver object i s start count bytes result mid new) (sym place_is) w)) b w

-- none is left
pub start_ends : (all : List Segment) (i start : ℕ) → length all ≤ i → start + bytes_len (drop i all) ≡ bytes_len all → start ≡ bytes_len all
start_ends all i start le begins =
    let none : drop i all ≡ [] = drop_all i all le in
    let end : start + 0 ≡ bytes_len all = ap (λ (l : List Segment). start + bytes_len l) (sym none) ∙ begins in
    omega (arith, end)
