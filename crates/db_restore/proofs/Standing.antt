-- Where the frames of a copy's segments have its object's bytes, the copy stands.
use Rattle.std.proofs.Common.{◌≡◌, inl, inr, ℕ, ◌+◌, ◌<◌, ◌≤◌, ◌^◌, min, suc, true, List, [], ◌∷◌, ◌++◌, length, take, drop, refl, sym, ap, subst, ◌∙◌, length-append, arith}
use Rattle.std.specs.List.{AllByRecursion}
use Rattle.std.proofs.lemmas.List.{length-take, take-append-drop}
use Rattle.sha2.specs.Sha256.{sha256}
use Rattle.kinds.specs.declared.segment.Segment.{Segment}
use Rattle.store_api.specs.Runs.{Stands}
use Rattle.volume_frames.specs.Frames.{Framed, FramedAt, FramedFrom, IsHeader, bytes_len, bytes_of, data_of, first_header, frame_header, piece}
use Rattle.volume_frames.proofs.Copies.{framed_made, length-header}
use Rattle.contents.specs.Contents.{FramesHave, HasFrame, InImage, first_frame, frame}
use Rattle.copy_checks.proofs.Framing.{means_there}
use Rattle.copy_checks.specs.Copies.{is_there}
use Rattle.inventory_rows.specs.version_groups.declared.copies.CopyRow.{CopyRow}
use Rattle.inventory_rows.specs.version_groups.declared.versions.Version.{Version}
use Rattle.inventory_rows.specs.Search.{versions}
use Rattle.inventory_rows.specs.State.{Inv}
use Rattle.db_restore.specs.Sequential.{KeepsSequential, StandSequential, StandsWith, is_in_sequential}

-- one segment's frame
one_framed : (image : ℕ → List ℕ) (object number : ℕ) (s : Segment) (bytes : List ℕ) → length bytes ≡ s.len → HasFrame (InImage image) s.file s.offset object number bytes → FramedAt (image s.file) object number s × (data_of (image s.file) s ≡ bytes)
unfolding frame first_frame
one_framed image object number s bytes long has = go has
  where
    whole : (header : List ℕ) → IsHeader header object number s.len → Stands (image s.file) s.offset (header ++ bytes) → FramedAt (image s.file) object number s × (data_of (image s.file) s ≡ bytes)
    whole header is stands =
        let of_header : length header ≡ 32 = length-header header object number s.len is in
        let of_all : length (header ++ bytes) ≡ 32 + s.len = omega (arith, length-append header bytes, of_header, long) in
        framed_made (image s.file) header bytes object number s is long (ap (λ (n : ℕ). piece (image s.file) s.offset n) (sym of_all) ∙ stands.same)

    go : HasFrame (InImage image) s.file s.offset object number bytes → FramedAt (image s.file) object number s × (data_of (image s.file) s ≡ bytes)
    go (inl stands) = whole (frame_header object number s.len) (inl refl) (subst (λ (n : ℕ). Stands (image s.file) s.offset (frame_header object number n ++ bytes)) long stands)
    go (inr (small, stands)) = whole (first_header object number s.len) (inr (subst (λ (n : ℕ). n < 2 ^ 32) long small, refl)) (subst (λ (n : ℕ). Stands (image s.file) s.offset (first_header object number n ++ bytes)) long stands)

-- those of a copy, numbered from there on
pub all_framed : (image : ℕ → List ℕ) (object number : ℕ) (segments : List Segment) (bytes : List ℕ) → FramesHave (InImage image) object number segments bytes
    → FramedFrom image object number segments × (bytes_of image segments ≡ bytes) × (bytes_len segments ≡ length bytes)
all_framed image object number [] bytes none = (tt, sym none, sym (ap (λ (l : List ℕ). length l) none))
all_framed image object number (s ∷ segments) bytes (fits, has, rest) =
    let long : length (take s.len bytes) ≡ s.len = omega (arith, length-take s.len bytes, fits) in
    let first = one_framed image object number s (take s.len bytes) long has in
    let others = all_framed image object (suc number) segments (drop s.len bytes) rest in
    let whole : take s.len bytes ++ drop s.len bytes ≡ bytes = take-append-drop s.len bytes in (
      (first.0, others.0),
      ap (λ (l : List ℕ). l ++ bytes_of image segments) first.1 ∙ ap (λ (l : List ℕ). take s.len bytes ++ l) others.1 ∙ whole,
      (let all : length (take s.len bytes) + length (drop s.len bytes) ≡ length bytes = sym (length-append (take s.len bytes) (drop s.len bytes)) ∙ ap (λ (l : List ℕ). length l) whole in let tail = others.2 in omega (arith, all, tail, long)),
    )

-- so the copy stands there, as it is looked for
frames_there : (image : ℕ → List ℕ) (object : ℕ) (digest bytes : List ℕ) (segments : List Segment) → FramesHave (InImage image) object 0 segments bytes → digest ≡ sha256 bytes → is_there image object (length bytes) digest segments ≡ true
frames_there image object digest bytes segments have is =
    let all = all_framed image object 0 segments bytes have in
    means_there image object (length bytes) digest segments all.0 all.2 (is ∙ ap sha256 (sym all.1))

one_there : (image : ℕ → List ℕ) (bytes : List ℕ) (w : Version) (c : CopyRow) → StandsWith image bytes w c → is_there image w.object w.size w.digest.0 c.segments ≡ true
one_there image bytes w c stands = subst (λ (n : ℕ). is_there image w.object n w.digest.0 c.segments ≡ true) stands.size (frames_there image w.object w.digest.0 bytes c.segments stands.frames stands.digest)

-- each copy in a sequential pool
module _ (image : ℕ → List ℕ) (contents : ℕ → List ℕ) (p : Inv) where
  copies_found : (w : Version) (cs : List CopyRow) → AllByRecursion (λ c. is_in_sequential p c ≡ true → StandsWith image (contents w.object) w c) cs → AllByRecursion (λ c. is_in_sequential p c ≡ true → is_there image w.object w.size w.digest.0 c.segments ≡ true) cs
  copies_found w [] all = tt
  copies_found w (c ∷ cs) all = (λ sequential. one_there image (contents w.object) w c (all.0 sequential), copies_found w cs all.1)

  all_found : (ws : List Version) → AllByRecursion (λ w. AllByRecursion (λ c. is_in_sequential p c ≡ true → StandsWith image (contents w.object) w c) w.copies) ws
      → AllByRecursion (λ w. AllByRecursion (λ c. is_in_sequential p c ≡ true → is_there image w.object w.size w.digest.0 c.segments ≡ true) w.copies) ws
  all_found [] all = tt
  all_found (w ∷ ws) all = (copies_found w w.copies all.0, all_found ws all.1)

  pub found : StandSequential contents image p → KeepsSequential image p
  found all = all_found (versions p) all
