-- What is left of a database stands in each image of the volumes on which it was found.
use Rattle.std.proofs.Common.{◌≡◌, inl, inr, ℕ, ◌+◌, ◌-◌, ◌<◌, ◌≤◌, ◌^◌, min, suc, Bool, true, false, ◌&&◌, ◌||◌, not, List, [], ◌∷◌, ◌++◌, length, map, filter, take, drop, Option, Some, None, is_some, refl, sym, ap, subst, ◌∙◌, length-append, append_assoc, arith}
use Rattle.std.specs.Prelude.{◌==◌, cond}
use Rattle.std.specs.List.{AllByRecursion, list_all, list_any, flat_map}
use Rattle.std.specs.Map.{keys_of}
use Rattle.std.specs.Option.{option_map_or}
use Rattle.std.proofs.Math.Seq.{take-add}
use Rattle.std.proofs.lemmas.Bool.{and_parts}
use Rattle.std.proofs.lemmas.List.{drop-drop, take_at, drop_at}
use Rattle.sha2.specs.Sha256.{sha256}
use Rattle.kinds.specs.declared.segment.Segment.{Segment}
use Rattle.store_api.specs.Disk.{Leaves, settled}
use Rattle.store_api.specs.Runs.{Stands}
use Rattle.volume_frames.specs.Frames.{IsHeader, frame_header, first_header, piece, data_place, data_end, data_of, bytes_of, bytes_len, FramedAt, FramedFrom, Framed, KeepsFrame, KeepsFrames}
use Rattle.volume_frames.proofs.Copies.{bytes_kept, copy_kept, length-bytes_of, length-data_of, length-header}
use Rattle.contents.specs.Contents.{FramesHave, HasFrame, HasVersion, InImage, frame, first_frame}
use Rattle.copy_checks.proofs.Framing.{there_means}
use Rattle.copy_checks.specs.Copies.{is_there}
use Rattle.inventory_rows.specs.version_groups.declared.copies.CopyRow.{CopyRow}
use Rattle.inventory_rows.specs.version_groups.declared.versions.Version.{Version}
use Rattle.inventory_rows.specs.version_groups.Entries.{is_nil}
use Rattle.db_losses.specs.Losses.{Losses, has_copies, is_lost, version_left, versions_left}
use Rattle.db_restore.specs.Missing.{is_among, is_missing, is_skipped}

-- ---- frames

stands_whole : (file header bytes : List ℕ) (at : ℕ) → length header ≡ 32 → piece file at 32 ≡ header → piece file (at + 32) (length bytes) ≡ bytes → Stands file at (header ++ bytes)
stands_whole file header bytes at long front back = record {
  some = omega (arith, length-append header bytes, long);
  same = ap (λ (n : ℕ). take n (drop at file)) (let e : length (header ++ bytes) ≡ 32 + length bytes = omega (arith, length-append header bytes, long) in e)
      ∙ take-add 32 (length bytes) (drop at file)
      ∙ ap (λ (l : List ℕ). l ++ take (length bytes) (drop 32 (drop at file))) front
      ∙ ap (λ (l : List ℕ). header ++ take (length bytes) l) (drop-drop 32 at file)
      ∙ ap (λ (l : List ℕ). header ++ l) back;
}

frame_stands : (file : List ℕ) (object number : ℕ) (s : Segment) → FramedAt file object number s → HasFrame (λ f at p. Stands file at p) s.file s.offset object number (data_of file s)
unfolding frame first_frame
frame_stands file object number s f = go f.header
  where
    long : length (data_of file s) ≡ s.len
    long = length-data_of file object number s f

    behind : piece file (s.offset + 32) (length (data_of file s)) ≡ data_of file s
    behind = ap (piece file (s.offset + 32)) long

    go : IsHeader (piece file s.offset 32) object number s.len → HasFrame (λ g at p. Stands file at p) s.file s.offset object number (data_of file s)
    go (inl is) = inl (subst (λ (n : ℕ). Stands file s.offset (frame_header object number n ++ data_of file s)) (sym long) (stands_whole file (frame_header object number s.len) (data_of file s) s.offset (length-header (frame_header object number s.len) object number s.len (inl refl)) is behind))
    go (inr is) = inr (subst (λ (n : ℕ). n < 2 ^ 32) (sym long) is.0, subst (λ (n : ℕ). Stands file s.offset (first_header object number n ++ data_of file s)) (sym long) (stands_whole file (first_header object number s.len) (data_of file s) s.offset (length-header (first_header object number s.len) object number s.len (inr (is.0, refl))) is.1 behind))

pub frames_stand : (image : ℕ → List ℕ) (object number : ℕ) (segments : List Segment) → FramedFrom image object number segments → FramesHave (InImage image) object number segments (bytes_of image segments)
frames_stand image object number [] f = refl
frames_stand image object number (s ∷ segments) f =
    let bytes : List ℕ = data_of (image s.file) s in
    let long : length bytes ≡ s.len = length-data_of (image s.file) object number s f.0 in
    let whole = length-append bytes (bytes_of image segments) in (
      omega (arith, whole, long),
      subst (HasFrame (InImage image) s.file s.offset object number) (sym (take_at bytes (bytes_of image segments) s.len long)) (frame_stands (image s.file) object number s f.0),
      subst (FramesHave (InImage image) object (suc number) segments) (sym (ap (λ (n : ℕ). drop n (bytes ++ bytes_of image segments)) (sym long) ∙ drop_front bytes (bytes_of image segments))) (frames_stand image object (suc number) segments f.1),
    )
  where
    drop_front : (xs ys : List ℕ) → drop (length xs) (xs ++ ys) ≡ ys
    drop_front xs ys = drop_at xs ys (length xs) refl

-- ---- files that are on the disk

file_kept : (bytes left : List ℕ) (object number : ℕ) (s : Segment) → Leaves (settled bytes) left → FramedAt bytes object number s → KeepsFrame bytes left s
unfolding settled
file_kept bytes left object number s leaves f = record {
  long = (let a = f.within in let b : length bytes ≤ length left = leaves.long in omega (arith, a, b));
  same = λ place low high. leaves.same place (let a = f.within in omega (arith, a, high)) (λ no. no);
}

pub copy_stays : (image other : ℕ → List ℕ) (object number : ℕ) (segments : List Segment) → AllByRecursion (λ s. Leaves (settled (image s.file)) (other s.file)) segments → FramedFrom image object number segments → KeepsFrames image other segments
copy_stays image other object number [] on f = tt
copy_stays image other object number (s ∷ segments) on f = (file_kept (image s.file) (other s.file) object number s on.0 f.0, copy_stays image other object (suc number) segments on.1 f.1)

-- ---- copies

either_not : (a b : Bool) → (a || not b) ≡ false → (a ≡ false) × (b ≡ true)
either_not true b h = absurd (cc)
either_not false true h = (refl, refl)
either_not false false h = absurd (cc)

-- a copy of a version that isn't missing is there
pub not_missing : (image : ℕ → List ℕ) (skipped : List ℕ) (w : Version) (c : CopyRow) → is_missing image skipped w c ≡ false → (is_skipped skipped c.segments ≡ false) × (Framed image w.object c.segments × (bytes_len c.segments ≡ w.size) × (w.digest.0 ≡ sha256 (bytes_of image c.segments)))
not_missing image skipped w c h =
    let parts = either_not (is_skipped skipped c.segments) (is_there image w.object w.size w.digest.0 c.segments) h in
    (parts.0, there_means image w.object w.size w.digest.0 c.segments parts.1)

module _ (image other : ℕ → List ℕ) (skipped : List ℕ) (contents : ℕ → List ℕ) where
  -- the files of a copy that isn't passed over are on the disk
  abbrev pub AreOn : List Segment → Type 0
  AreOn segments = AllByRecursion (λ s. is_among skipped s.file ≡ false → Leaves (settled (image s.file)) (other s.file)) segments

  all_on : (segments : List Segment) → is_skipped skipped segments ≡ false → AreOn segments → AllByRecursion (λ s. Leaves (settled (image s.file)) (other s.file)) segments
  all_on [] h on = tt
  all_on (s ∷ segments) h on = (let parts = or_parts (is_among skipped s.file) (is_skipped skipped segments) h in (on.0 parts.0, all_on segments parts.1 on.1))
    where
      or_parts : (a b : Bool) → (a || b) ≡ false → (a ≡ false) × (b ≡ false)
      or_parts true b p = absurd (cc)
      or_parts false b p = (refl, p)

  -- a copy that was found stands in the other image, with the bytes that its object has
  copy_stands : (w : Version) (c : CopyRow) → is_missing image skipped w c ≡ false → AreOn c.segments → bytes_of image c.segments ≡ contents w.object → FramesHave (InImage other) w.object 0 c.segments (contents w.object)
  copy_stands w c found on alike =
      let there = not_missing image skipped w c found in
      let keeps = copy_stays image other w.object 0 c.segments (all_on c.segments there.0 on) there.1.0 in
      subst (FramesHave (InImage other) w.object 0 c.segments) (bytes_kept image other w.object 0 c.segments keeps there.1.0 ∙ alike)
      (frames_stand other w.object 0 c.segments (copy_kept image other w.object 0 c.segments keeps there.1.0))

  module _ (losses : Losses) where
    abbrev stays : Version → CopyRow → Bool
    stays w c = not (is_lost losses w.object c.pool)

    abbrev IsRight : Version → CopyRow → Type 0
    IsRight w c = is_lost losses w.object c.pool ≡ is_missing image skipped w c

    abbrev IsAlike : Version → CopyRow → Type 0
    IsAlike w c = bytes_of image c.segments ≡ contents w.object

    copies_stand : (w : Version) (cs : List CopyRow) → AllByRecursion (IsRight w) cs → AllByRecursion (λ c. AreOn c.segments) cs → AllByRecursion (IsAlike w) (filter (stays w) cs) → AllByRecursion (λ c. FramesHave (InImage other) w.object 0 c.segments (contents w.object)) (filter (stays w) cs)
    copies_stand w [] right on alike = tt
    copies_stand w (c ∷ cs) right on alike = go (λ likes. copies_stand w cs right.1 on.1 likes) (is_lost losses w.object c.pool) right.0 alike
      where
        go : (AllByRecursion (IsAlike w) (filter (stays w) cs) → AllByRecursion (λ d. FramesHave (InImage other) w.object 0 d.segments (contents w.object)) (filter (stays w) cs)) → (b : Bool) → b ≡ is_missing image skipped w c → AllByRecursion (IsAlike w) (cond (not b) (c ∷ filter (stays w) cs) (filter (stays w) cs)) → AllByRecursion (λ d. FramesHave (InImage other) w.object 0 d.segments (contents w.object)) (cond (not b) (c ∷ filter (stays w) cs) (filter (stays w) cs))
        go rest true is likes = rest likes
        go rest false is likes = (copy_stands w c (sym is) on.0 likes.0, rest likes.1)

    -- of a version of which a copy is left the size and the digest are those of its bytes
    sized : (w : Version) (cs : List CopyRow) → AllByRecursion (IsRight w) cs → AllByRecursion (IsAlike w) (filter (stays w) cs) → not (is_nil (filter (stays w) cs)) ≡ true → (length (contents w.object) ≡ w.size) × (w.digest.0 ≡ sha256 (contents w.object))
    sized w [] right alike some = absurd (cc)
    sized w (c ∷ cs) right alike some = go (λ likes more. sized w cs right.1 likes more) (is_lost losses w.object c.pool) right.0 alike some
      where
        go : (AllByRecursion (IsAlike w) (filter (stays w) cs) → not (is_nil (filter (stays w) cs)) ≡ true → (length (contents w.object) ≡ w.size) × (w.digest.0 ≡ sha256 (contents w.object))) → (b : Bool) → b ≡ is_missing image skipped w c → AllByRecursion (IsAlike w) (cond (not b) (c ∷ filter (stays w) cs) (filter (stays w) cs)) → not (is_nil (cond (not b) (c ∷ filter (stays w) cs) (filter (stays w) cs))) ≡ true → (length (contents w.object) ≡ w.size) × (w.digest.0 ≡ sha256 (contents w.object))
        go rest true is likes more = rest likes more
        go rest false is likes more =
            let there = not_missing image skipped w c (sym is) in
            (ap length (sym likes.0) ∙ length-bytes_of image w.object 0 c.segments there.1.0 ∙ there.1.1, there.1.2 ∙ ap sha256 likes.0)

    pub versions_stand : (ws : List Version) → AllByRecursion (λ w. AllByRecursion (IsRight w) w.copies) ws → AllByRecursion (λ w. AllByRecursion (λ c. AreOn c.segments) w.copies) ws → AllByRecursion (λ w. AllByRecursion (IsAlike w) w.copies) (versions_left losses ws)
        → AllByRecursion (λ w. HasVersion (InImage other) (contents w.object) w) (versions_left losses ws)
    versions_stand [] right on alike = tt
    versions_stand (w ∷ ws) right on alike = go (λ likes. versions_stand ws right.1 on.1 likes) (has_copies (version_left losses w)) refl alike
      where
        go : (AllByRecursion (λ u. AllByRecursion (IsAlike u) u.copies) (versions_left losses ws) → AllByRecursion (λ u. HasVersion (InImage other) (contents u.object) u) (versions_left losses ws)) → (b : Bool) → has_copies (version_left losses w) ≡ b → AllByRecursion (λ u. AllByRecursion (IsAlike u) u.copies) (cond b (version_left losses w ∷ versions_left losses ws) (versions_left losses ws))
            → AllByRecursion (λ u. HasVersion (InImage other) (contents u.object) u) (cond b (version_left losses w ∷ versions_left losses ws) (versions_left losses ws))
        go rest true some likes =
            let is = sized w w.copies right.0 likes.0 some in
            (record { size = is.0; digest = is.1; copies = copies_stand w w.copies right.0 on.0 likes.0 }, rest likes.1)
        go rest false some likes = rest likes
