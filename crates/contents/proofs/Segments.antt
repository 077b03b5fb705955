-- What is said of each segment of the versions of a database.
use Rattle.std.proofs.Common.{◌≡◌, ◌⊎◌, inl, inr, ℕ, suc, ◌+◌, ◌/◌, ◌≤◌, eqb, Bool, true, false, cond, ◌&&◌, ◌||◌, nat_le, nat_lt, List, [], ◌∷◌, ◌++◌, length, take, drop, map, filter, is_some, Option, Some, None, refl, sym, ap, subst, ◌∙◌, append_assoc, arith}
use Rattle.std.specs.List.{AllByRecursion, list_all, flat_map}
use Rattle.std.specs.Map.{keys_of}
use Rattle.std.proofs.lemmas.Bool.{eq-eqb, eqb-true, leb-true}
use Rattle.std.proofs.lemmas.List.{length-append, length-take-le}
use Rattle.std.proofs.lemmas.List.Folds.{list_all-append}
use Rattle.std.specs.BTreeMap.{is_at}
use Rattle.std.specs.Ordering.{nat_cmp}
use Rattle.kinds.specs.declared.segment.Segment.{Segment}
use Rattle.inventory_laws.specs.inventory_rows.version_groups.declared.copies.CopyRow.{CopyRow}
use Rattle.inventory_laws.specs.inventory_rows.version_groups.declared.versions.Version.{Version}
use Rattle.inventory_laws.specs.inventory_rows.volume_rows.declared.volume.Volume.{Volume}
use Rattle.inventory_laws.proofs.of_inventory_rows.of_object_rows.Stands.{at-eqb}
use Rattle.inventory_laws.specs.inventory_rows.pool_tables.Rows.{row_at}
use Rattle.store_api.specs.Runs.{IsOutside}
use Rattle.volume_frames.proofs.Copies.{length-first_header, length-frame_header}
use Rattle.volume_frames.specs.Frames.{first_header, frame_header}
use Rattle.inventory_laws.specs.inventory_rows.Search.{pool, segments_on, versions}
use Rattle.inventory_laws.specs.inventory_rows.State.{Inv}
use Rattle.inventory_laws.specs.inventory_rules.Valid.{is_valid, is_of_pool, lie_in, high_of, low_of}
use Rattle.inventory_laws.proofs.Facts.{facts_of, first, rest}
use Rattle.inventory_laws.specs.inventory_rules.Segments.{are_clear}
use Rattle.contents.specs.Contents.{first_frame, frame, FramesHave, HasFrame, HasVersion, HaveAll}

-- a frame is 32 bytes longer than its data
pub length-frame : (object number : ℕ) (bytes : List ℕ) → length (frame object number bytes) ≡ 32 + length bytes
unfolding frame
length-frame object number bytes = omega (arith, length-append (frame_header object number (length bytes)) bytes, length-frame_header object number (length bytes))

pub length-first_frame : (object number : ℕ) (bytes : List ℕ) → length (first_frame object number bytes) ≡ 32 + length bytes
unfolding first_frame
length-first_frame object number bytes = omega (arith, length-append (first_header object number (length bytes)) bytes, length-first_header object number (length bytes))

-- R of each segment of each copy of these versions
abbrev pub EachSegment : (Segment → Type 0) → List Version → Type 0
EachSegment R list = AllByRecursion (λ (w : Version). AllByRecursion (λ (c : CopyRow). AllByRecursion R c.segments) w.copies) list

pub all_weaker : {X : Type 0} (P Q : X → Type 0) → ((x : X) → P x → Q x) → (xs : List X) → AllByRecursion P xs → AllByRecursion Q xs
all_weaker P Q f [] h = tt
all_weaker P Q f (x ∷ xs) h = (f x h.0, all_weaker P Q f xs h.1)

pub all_of : {X : Type 0} (P : X → Type 0) → ((x : X) → P x) → (xs : List X) → AllByRecursion P xs
all_of P f [] = tt
all_of P f (x ∷ xs) = (f x, all_of P f xs)

pub each_weaker : (P Q : Segment → Type 0) → ((s : Segment) → P s → Q s) → (list : List Version) → EachSegment P list → EachSegment Q list
each_weaker P Q f list h =
    all_weaker (λ (w : Version). AllByRecursion (λ (c : CopyRow). AllByRecursion P c.segments) w.copies) (λ (w : Version). AllByRecursion (λ (c : CopyRow). AllByRecursion Q c.segments) w.copies)
    (λ w. all_weaker (λ (c : CopyRow). AllByRecursion P c.segments) (λ (c : CopyRow). AllByRecursion Q c.segments) (λ c. all_weaker P Q f c.segments) w.copies) list h

pub each_of : (P : Segment → Type 0) → ((s : Segment) → P s) → (list : List Version) → EachSegment P list
each_of P f list =
    all_of (λ (w : Version). AllByRecursion (λ (c : CopyRow). AllByRecursion P c.segments) w.copies)
    (λ w. all_of (λ (c : CopyRow). AllByRecursion P c.segments) (λ c. all_of P f c.segments) w.copies) list

-- where P of a frame at the place of a segment, Q of it
abbrev pub Carries : (ℕ → ℕ → List ℕ → Type 0) → (ℕ → ℕ → List ℕ → Type 0) → Segment → Type 0
Carries P Q s = (piece : List ℕ) → length piece ≡ 32 + s.len → P s.file s.offset piece → Q s.file s.offset piece

frame_carried : (P Q : ℕ → ℕ → List ℕ → Type 0) (s : Segment) (object number : ℕ) (bytes : List ℕ) → Carries P Q s → length bytes ≡ s.len → HasFrame P s.file s.offset object number bytes → HasFrame Q s.file s.offset object number bytes
frame_carried P Q s object number bytes c long (inl p) = inl (c (frame object number bytes) (length-frame object number bytes ∙ ap (λ (n : ℕ). 32 + n) long) p)
frame_carried P Q s object number bytes c long (inr p) = inr (p.0, c (first_frame object number bytes) (length-first_frame object number bytes ∙ ap (λ (n : ℕ). 32 + n) long) p.1)

pub frames_carried : (P Q : ℕ → ℕ → List ℕ → Type 0) (object number : ℕ) (segments : List Segment) (bytes : List ℕ) → AllByRecursion (Carries P Q) segments → FramesHave P object number segments bytes → FramesHave Q object number segments bytes
frames_carried P Q object number [] bytes c h = h
frames_carried P Q object number (s ∷ segments) bytes c h =
    (h.0, frame_carried P Q s object number (take s.len bytes) c.0 (length-take-le s.len bytes h.0) h.1, frames_carried P Q object (suc number) segments (drop s.len bytes) c.1 h.2)

copies_carried : (P Q : ℕ → ℕ → List ℕ → Type 0) (object : ℕ) (bytes : List ℕ) (cs : List CopyRow) → AllByRecursion (λ (c : CopyRow). AllByRecursion (Carries P Q) c.segments) cs
    → AllByRecursion (λ (c : CopyRow). FramesHave P object 0 c.segments bytes) cs → AllByRecursion (λ (c : CopyRow). FramesHave Q object 0 c.segments bytes) cs
copies_carried P Q object bytes [] c h = tt
copies_carried P Q object bytes (x ∷ cs) c h = (frames_carried P Q object 0 x.segments bytes c.0 h.0, copies_carried P Q object bytes cs c.1 h.1)

pub version_carried : (P Q : ℕ → ℕ → List ℕ → Type 0) (bytes : List ℕ) (w : Version) → AllByRecursion (λ (c : CopyRow). AllByRecursion (Carries P Q) c.segments) w.copies → HasVersion P bytes w → HasVersion Q bytes w
version_carried P Q bytes w c h = record {
  size = h.size;
  digest = h.digest;
  copies = copies_carried P Q w.object bytes w.copies c h.copies;
}

pub all_carried : (P Q : ℕ → ℕ → List ℕ → Type 0) (contents : ℕ → List ℕ) (list : List Version) → EachSegment (Carries P Q) list → HaveAll P contents list → HaveAll Q contents list
all_carried P Q contents [] c h = tt
all_carried P Q contents (w ∷ list) c h = (version_carried P Q (contents w.object) w c.0 h.0, all_carried P Q contents list c.1 h.1)

-- ---- where the segments of a valid database lie

-- the copies of a version, each with its object
abbrev pub with_object : Version → List (ℕ × CopyRow)
with_object w = map (λ (c : CopyRow). (w.object, c)) w.copies

-- a test of each copy is one of each copy of each version
copies_pass : (p : ℕ × CopyRow → Bool) (R : Segment → Type 0) → ((e : ℕ × CopyRow) → p e ≡ true → AllByRecursion R e.1.segments) → (object : ℕ) (cs : List CopyRow)
    → list_all p (map (λ (c : CopyRow). (object, c)) cs) ≡ true → AllByRecursion (λ (c : CopyRow). AllByRecursion R c.segments) cs
copies_pass p R f object [] h = tt
copies_pass p R f object (c ∷ cs) h =
    let more : Bool = list_all p (map (λ (c : CopyRow). (object, c)) cs) in
    (f (object, c) (first (p (object, c)) more h), copies_pass p R f object cs (rest (p (object, c)) more h))

pub versions_pass : (p : ℕ × CopyRow → Bool) (R : Segment → Type 0) → ((e : ℕ × CopyRow) → p e ≡ true → AllByRecursion R e.1.segments) → (list : List Version)
    → list_all p (flat_map with_object list) ≡ true → EachSegment R list
versions_pass p R f [] h = tt
versions_pass p R f (w ∷ list) h =
    let parts : (list_all p (with_object w) && list_all p (flat_map with_object list)) ≡ true = sym (list_all-append p (with_object w) (flat_map with_object list)) ∙ h in
    (copies_pass p R f w.object w.copies (first (list_all p (with_object w)) (list_all p (flat_map with_object list)) parts), versions_pass p R f list (rest (list_all p (with_object w)) (list_all p (flat_map with_object list)) parts))

pub each_passes : {X : Type 0} (p : X → Bool) (xs : List X) → list_all p xs ≡ true → AllByRecursion (λ x. p x ≡ true) xs
each_passes p [] h = tt
each_passes p (x ∷ xs) h = (first (p x) (list_all p xs) h, each_passes p xs (rest (p x) (list_all p xs) h))

-- the number of a row that is found is at least what all of them are
pub drawn_row : {V : Type 0} (least bound k : ℕ) (volume : V) (rows : List (ℕ × V)) → lie_in least bound (keys_of rows) ≡ true → row_at k rows ≡ Some volume → least ≤ k
drawn_row least bound k volume [] all h = absurd cc
drawn_row {V} least bound k volume (e ∷ rows) all h =
    elim (is_at (nat_cmp k) e.0) as (λ b. is_at (nat_cmp k) e.0 ≡ b → cond b (Some e.1) (row_at k rows) ≡ Some volume → least ≤ k) [
      | true ↦ λ t s.
          let key : e.0 ≡ k = eqb-true e.0 k (sym (at-eqb k e.0) ∙ t) in
          let one = first _ (lie_in least bound (keys_of rows)) all in
          subst (λ (n : ℕ). least ≤ n) key (leb-true least e.0 (first (nat_le least e.0) _ one))
      | false ↦ λ t s. drawn_row least bound k volume rows (rest _ (lie_in least bound (keys_of rows)) all) s
    ] refl h

-- a segment on a volume that is there lies in a file from the least number on
of_pool_drawn : (least bound number k : ℕ) (rows : List (ℕ × Volume)) (o : Option Volume) → lie_in least bound (keys_of rows) ≡ true → row_at k rows ≡ o → is_of_pool number o ≡ true → least ≤ k
of_pool_drawn least bound number k rows None all h t = absurd cc
of_pool_drawn least bound number k rows (Some volume) all h t = drawn_row least bound k volume rows all h

pub front_lies : (least bound : ℕ) (xs ys : List ℕ) → lie_in least bound (xs ++ ys) ≡ true → lie_in least bound xs ≡ true
front_lies least bound xs ys h =
    let test : ℕ → Bool = λ n. nat_le least n && nat_lt n bound in
    first (list_all test xs) (list_all test ys) (sym (list_all-append test xs ys) ∙ h)

-- the segments of a valid database lie in files from 4 on
pub on_volumes : (v : Inv) → is_valid v ≡ true → EachSegment (λ s. 4 ≤ s.file) (versions v)
on_volumes v valid =
    let facts = facts_of v valid in
    let drawn = front_lies 4 v.next_file (keys_of v.stores.volumes) (keys_of v.backups) facts.files_drawn in
    versions_pass (λ e. is_some (pool e.1.pool v) && list_all (λ s. is_of_pool e.1.pool (row_at s.file v.stores.volumes)) e.1.segments) (λ s. 4 ≤ s.file)
    (λ e h. all_weaker (λ (s : Segment). is_of_pool e.1.pool (row_at s.file v.stores.volumes) ≡ true) (λ s. 4 ≤ s.file)
    (λ s t. of_pool_drawn 4 v.next_file e.1.pool s.file v.stores.volumes (row_at s.file v.stores.volumes) drawn refl t) e.1.segments
    (each_passes (λ s. is_of_pool e.1.pool (row_at s.file v.stores.volumes)) e.1.segments (rest (is_some (pool e.1.pool v)) (list_all (λ s. is_of_pool e.1.pool (row_at s.file v.stores.volumes)) e.1.segments) h)))
    (versions v) facts.copies_cite

-- ---- the segments on one volume

-- the segments of a copy on a volume, with its object
abbrev here : ℕ → ℕ × CopyRow → List (ℕ × Segment)
here file e = map (λ (s : Segment). (e.0, s)) (filter (λ s. eqb s.file file) e.1.segments)

-- a test of a segment, whatever object it is of
abbrev of_any : (Segment → Bool) → ℕ × Segment → Bool
of_any p e = p e.1

segments_pass : (p : Segment → Bool) (file object : ℕ) (segments : List Segment) → list_all (of_any p) (map (λ (s : Segment). (object, s)) (filter (λ s. eqb s.file file) segments)) ≡ true
    → AllByRecursion (λ (s : Segment). s.file ≡ file → p s ≡ true) segments
segments_pass p file object [] h = tt
segments_pass p file object (s ∷ segments) h =
    elim (eqb s.file file) as (λ b. eqb s.file file ≡ b → list_all (of_any p) (map (λ (s : Segment). (object, s)) (cond b (s ∷ filter (λ s. eqb s.file file) segments) (filter (λ s. eqb s.file file) segments))) ≡ true
    → (s.file ≡ file → p s ≡ true) × AllByRecursion (λ (s : Segment). s.file ≡ file → p s ≡ true) segments) [
      | true ↦ λ t k.
          let more : Bool = list_all (of_any p) (map (λ (s : Segment). (object, s)) (filter (λ s. eqb s.file file) segments)) in
          (λ e. first (p s) more k, segments_pass p file object segments (rest (p s) more k))
      | false ↦ λ t k. (λ e. absurd (let clash : false ≡ true = sym t ∙ eq-eqb s.file file e in cc), segments_pass p file object segments k)
    ] refl h

copies_on : (p : Segment → Bool) (file object : ℕ) (cs : List CopyRow) → list_all (of_any p) (flat_map (here file) (map (λ (c : CopyRow). (object, c)) cs)) ≡ true
    → AllByRecursion (λ (c : CopyRow). AllByRecursion (λ (s : Segment). s.file ≡ file → p s ≡ true) c.segments) cs
copies_on p file object [] h = tt
copies_on p file object (c ∷ cs) h =
    let one = here file (object, c) in
    let more = flat_map (here file) (map (λ (c : CopyRow). (object, c)) cs) in
    let parts : (list_all (of_any p) one && list_all (of_any p) more) ≡ true = sym (list_all-append (of_any p) one more) ∙ h in
    (segments_pass p file object c.segments (first (list_all (of_any p) one) (list_all (of_any p) more) parts), copies_on p file object cs (rest (list_all (of_any p) one) (list_all (of_any p) more) parts))

-- the segments on a volume, version by version
on-append : (file : ℕ) (xs ys : List (ℕ × CopyRow)) → flat_map (here file) (xs ++ ys) ≡ flat_map (here file) xs ++ flat_map (here file) ys
on-append file [] ys = refl
on-append file (x ∷ xs) ys = ap (λ (r : List (ℕ × Segment)). here file x ++ r) (on-append file xs ys) ∙ sym (append_assoc (here file x) (flat_map (here file) xs) (flat_map (here file) ys))

versions_on : (p : Segment → Bool) (file : ℕ) (list : List Version) → list_all (of_any p) (flat_map (here file) (flat_map with_object list)) ≡ true → EachSegment (λ s. s.file ≡ file → p s ≡ true) list
versions_on p file [] h = tt
versions_on p file (w ∷ list) h =
    let one = flat_map (here file) (with_object w) in
    let more = flat_map (here file) (flat_map with_object list) in
    let parts : (list_all (of_any p) one && list_all (of_any p) more) ≡ true =
    sym (list_all-append (of_any p) one more) ∙ (ap (λ (r : List (ℕ × Segment)). list_all (of_any p) r) (sym (on-append file (with_object w) (flat_map with_object list))) ∙ h) in
    (copies_on p file w.object w.copies (first (list_all (of_any p) one) (list_all (of_any p) more) parts), versions_on p file list (rest (list_all (of_any p) one) (list_all (of_any p) more) parts))

-- what each segment on a volume passes, each segment of the versions that lies there does
pub each_on : (p : Segment → Bool) (file : ℕ) (v : Inv) → list_all (of_any p) (segments_on file v) ≡ true → EachSegment (λ s. s.file ≡ file → p s ≡ true) (versions v)
each_on p file v h = versions_on p file (versions v) h

-- frames that don't overlap: the piece in the place of the one lies outside that of the other
either : (a b : Bool) → (a || b) ≡ true → (a ≡ true) ⊎ (b ≡ true)
either true b h = inl refl
either false b h = inr h

ends_before : (sequential : Bool) (a b : Segment) → nat_le (high_of sequential a) (low_of sequential b) ≡ true → a.offset + 32 + a.len ≤ b.offset
ends_before true a b h = leb-true (a.offset + 32 + a.len) b.offset h
ends_before false a b h = let le = leb-true ((a.offset + 32 + a.len + 4095) / 4096) (b.offset / 4096) h in omega arith

pub clear_apart : (sequential : Bool) (s other : Segment) → are_clear sequential s other ≡ true → (s.offset + 32 + s.len ≤ other.offset) ⊎ (other.offset + 32 + other.len ≤ s.offset)
clear_apart sequential s other clear = elim (either (nat_le (high_of sequential s) (low_of sequential other)) (nat_le (high_of sequential other) (low_of sequential s)) clear) [
  | inl ahead ↦ inl (ends_before sequential s other ahead)
  | inr behind ↦ inr (ends_before sequential other s behind)
]

pub clear_outside : (sequential : Bool) (s other : Segment) (piece : List ℕ) → are_clear sequential s other ≡ true → length piece ≡ 32 + other.len → IsOutside s.offset (32 + s.len) other.offset piece
clear_outside sequential s other piece clear long = elim (clear_apart sequential s other clear) [ inl ahead ↦ inr (omega (arith, ahead)) | inr behind ↦ inl (omega (arith, behind, long)) ]
