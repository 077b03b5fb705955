-- Copies that each image of now has are on the disk: no stop takes them away.
use Rattle.std.proofs.Common.{◌≡◌, ◌⊎◌, inl, inr, ℕ, suc, ◌+◌, ◌-◌, ◌<◌, ◌≤◌, ◌^◌, List, [], ◌∷◌, length, get_or, set, take, drop, refl, sym, ap, subst, ◌∙◌, length-set, arith}
use Rattle.std.specs.List.{AllByRecursion}
use Rattle.std.proofs.lemmas.Bool.{cond-true, eq-eqb}
use Rattle.std.proofs.lemmas.List.{get_or-set_other, get_or-set_same, get_or-take, length-take}
use Rattle.kinds.specs.declared.segment.Segment.{Segment}
use Rattle.store_api.specs.Disk.{History, ImageAt, IsLoose, Leaves, Standing, now, reads, standing}
use Rattle.store_api.specs.Runs.{Firm, Stands}
use Rattle.store_api.proofs.Bytes.{Stands_at, Stands_fits}
use Rattle.store_api.proofs.Pieces.{image_reads, image_with, stable_within, with_file}
use Rattle.inventory_rows.specs.version_groups.declared.copies.CopyRow.{CopyRow}
use Rattle.inventory_rows.specs.version_groups.declared.versions.Version.{Version}
use Rattle.contents.specs.Contents.{FramesHave, HasFrame, HaveAll, InImage, InStore, first_frame, frame}
use Rattle.contents.proofs.Segments.{length-first_frame, length-frame}

-- ---- one of two pieces

-- Whatever a stop leaves of the file has one of two pieces of one length there, the second only where Q.
module _ (Q : Type 0) (file : Standing) (at : ℕ) (a b : List ℕ) (same : length a ≡ length b) (within : file.stable ≤ length file.bytes)
    (each : (left : List ℕ) → Leaves file left → Stands left at a ⊎ (Q × Stands left at b)) where
  short : Leaves file (take file.stable file.bytes)
  short = record { long = omega (arith, length-take file.stable file.bytes); same = λ place lt clear. get_or-take file.stable file.bytes place 0 lt }

  touched : (place byte : ℕ) → IsLoose file.loose place → Leaves file (set file.bytes place byte)
  touched place byte loose = record {
    long = omega (arith, within, length-set file.bytes place byte);
    same = λ k lt clear. get_or-set_other file.bytes place k byte 0 (λ e. clear (subst (IsLoose file.loose) (sym e) loose));
  }

  is_below : Stands (take file.stable file.bytes) at a ⊎ (Q × Stands (take file.stable file.bytes) at b) → at + length a ≤ file.stable
  is_below (inl s) = let fits : at + length a ≤ length (take file.stable file.bytes) = Stands_fits (take file.stable file.bytes) at a s in omega (arith, fits, length-take file.stable file.bytes)
  is_below (inr s) =
      let fits : at + length b ≤ length (take file.stable file.bytes) = Stands_fits (take file.stable file.bytes) at b s.1 in omega (arith, fits, same, length-take file.stable file.bytes)

  -- a byte that neither has
  abbrev other_byte : ℕ → ℕ
  other_byte k = suc (get_or a k 0 + get_or b k 0)

  not_loose : (place : ℕ) → at ≤ place → place < at + length a → at + length a ≤ length file.bytes
      → (let other : List ℕ = set file.bytes place (other_byte (place - at)) in Stands other at a ⊎ (Q × Stands other at b)) → ⊥
  not_loose place low high long stands =
      let other : List ℕ = set file.bytes place (other_byte (place - at)) in
      let here : at + (place - at) ≡ place = omega (arith, low) in
      let is : get_or other place 0 ≡ other_byte (place - at) = get_or-set_same file.bytes place (other_byte (place - at)) 0 (omega (arith, high, long)) in
      neither other here is stands
    where
      neither : (other : List ℕ) → at + (place - at) ≡ place → get_or other place 0 ≡ other_byte (place - at) → Stands other at a ⊎ (Q × Stands other at b) → ⊥
      neither other here is (inl s) =
          let own : get_or other place 0 ≡ get_or a (place - at) 0 = ap (λ n. get_or other n 0) (sym here) ∙ Stands_at other at a s (place - at) (omega (arith, low, high)) in omega (arith, own, is)
      neither other here is (inr s) =
          let own : get_or other place 0 ≡ get_or b (place - at) 0 = ap (λ n. get_or other n 0) (sym here) ∙ Stands_at other at b s.1 (place - at) (omega (arith, low, high, same)) in
          omega (arith, own, is)

  firm_of : (piece : List ℕ) → length piece ≡ length a → Stands file.bytes at piece → Firm file at piece
  firm_of piece long stands =
      let fits : at + length piece ≤ length file.bytes = Stands_fits file.bytes at piece stands in
      let below : at + length a ≤ file.stable = is_below (each (take file.stable file.bytes) short) in
      record {
        stands = stands;
        below = omega (arith, below, long);
        clear = λ place low high loose.
            not_loose place low (omega (arith, high, long)) (omega (arith, fits, long))
            (each (set file.bytes place (other_byte (place - at))) (touched place (other_byte (place - at)) loose));
      }

  either_of : Stands file.bytes at a ⊎ (Q × Stands file.bytes at b) → Firm file at a ⊎ (Q × Firm file at b)
  either_of (inl s) = inl (firm_of a refl s)
  either_of (inr s) = inr (s.0, firm_of b (sym same) s.1)

  either_firm : Firm file at a ⊎ (Q × Firm file at b)
  either_firm = either_of (each file.bytes (record { long = within; same = λ place lt clear. refl }))

-- ---- copies

module _ (h : History) where
  -- each image of now has it
  abbrev Each : ((ℕ → List ℕ) → Type 0) → Type 0
  Each P = (image : ℕ → List ℕ) → ImageAt h (now h) image → P image

  frame_firm : (file at object number : ℕ) (bytes : List ℕ) → Each (λ image. HasFrame (InImage image) file at object number bytes) → HasFrame (InStore h) file at object number bytes
  unfolding with_file
  frame_firm file at object number bytes each =
      either_firm (length bytes < 2 ^ 32) (standing h file) at (frame object number bytes) (first_frame object number bytes)
      (length-frame object number bytes ∙ sym (length-first_frame object number bytes)) (stable_within h file)
      (λ left leaves. subst (λ (l : List ℕ). Stands l at (frame object number bytes) ⊎ ((length bytes < 2 ^ 32) × Stands l at (first_frame object number bytes)))
      (cond-true _ left (reads h file) (eq-eqb file file refl)) (each (with_file (reads h) file left) (image_with h file left leaves)))

  pub frames_firm : (object number : ℕ) (segments : List Segment) (bytes : List ℕ) → Each (λ image. FramesHave (InImage image) object number segments bytes) → FramesHave (InStore h) object number segments bytes
  frames_firm object number [] bytes each = each (reads h) (image_reads h)
  frames_firm object number (s ∷ segments) bytes each = (
    (each (reads h) (image_reads h)).0,
    frame_firm s.file s.offset object number (take s.len bytes) (λ image here. (each image here).1),
    frames_firm object (suc number) segments (drop s.len bytes) (λ image here. (each image here).2),
  )

  copies_firm : (object : ℕ) (bytes : List ℕ) (cs : List CopyRow) → Each (λ image. AllByRecursion (λ (c : CopyRow). FramesHave (InImage image) object 0 c.segments bytes) cs)
      → AllByRecursion (λ (c : CopyRow). FramesHave (InStore h) object 0 c.segments bytes) cs
  copies_firm object bytes [] each = tt
  copies_firm object bytes (c ∷ cs) each = (frames_firm object 0 c.segments bytes (λ image here. (each image here).0), copies_firm object bytes cs (λ image here. (each image here).1))

  pub all_firm : (contents : ℕ → List ℕ) (list : List Version) → Each (λ image. HaveAll (InImage image) contents list) → HaveAll (InStore h) contents list
  all_firm contents [] each = tt
  all_firm contents (w ∷ list) each =
      let own = (each (reads h) (image_reads h)).0 in (
        record { size = own.size; digest = own.digest; copies = copies_firm w.object (contents w.object) w.copies (λ image here. (each image here).0.copies) },
        all_firm contents list (λ image here. (each image here).1),
      )
