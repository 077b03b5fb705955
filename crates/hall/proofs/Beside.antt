-- What a run that changes files of the vault alone leaves of copies and of tickets.
use Rattle.std.proofs.Common.{◌≡◌, ℕ, ◌≤◌, suc, true, List, [], ◌∷◌, ◌++◌, take, drop, sym, ap, subst, arith}
use Rattle.std.specs.List.{AllByRecursion, flat_map}
use Rattle.kinds.specs.declared.segment.Segment.{Segment}
use Rattle.store_api.specs.Disk.{History, now, reads}
use Rattle.store_api.specs.Runs.{EachImage, GoesOn, Stands}
use Rattle.store_api.proofs.Pieces.{firm_beside}
use Rattle.store_api.proofs.Runs.{goes_standing}
use Rattle.volume_frames.specs.Frames.{frame_header}
use Rattle.contents.specs.Contents.{HasAll, HaveAll, InImage, InStore, TookHave}
use Rattle.contents.proofs.Kept.{beside, beside_since}
use Rattle.contents.proofs.Segments.{Carries, EachSegment, each_weaker, frames_carried, on_volumes}
use Rattle.inventory_laws.proofs.Lists.{each_also}
use Rattle.inventory_rows.specs.Search.{versions}
use Rattle.inventory_rows.specs.State.{Inv}
use Rattle.inventory_rows.specs.version_groups.declared.copies.CopyRow.{CopyRow}
use Rattle.inventory_rows.specs.version_groups.declared.versions.Version.{Version}
use Rattle.inventory_rules.specs.Valid.{is_valid}
use Rattle.vault.specs.Files.{IsOurs}
use Rattle.machine.specs.State.{Ticket, object_of}
use Rattle.hall.specs.declared.seat.Seat.{Seat}
use Rattle.hall.specs.Good.{HasTaken}
use Rattle.hall.proofs.Covering.{all_each}
use Rattle.hall.proofs.Databases.{each_covered}

-- ---- a run on any files

module _ (theirs : ℕ → Type 0) (h new : History) (goes : GoesOn theirs h new) where
  -- the segments of these tickets lie elsewhere
  abbrev AreAway : List Ticket → Type 0
  AreAway tickets = AllByRecursion (λ t. AllByRecursion (λ s. ¬ theirs s.file) t.place.segments) tickets

  reads_same : (file : ℕ) → ¬ theirs file → reads new file ≡ reads h file
  reads_same file away = ap (λ s. s.bytes) (goes_standing theirs h new file away goes)

  took_away : (object number : ℕ) (segments : List Segment) (bytes : List ℕ) → AllByRecursion (λ s. ¬ theirs s.file) segments
      → TookHave (InImage (reads h)) object number segments bytes → TookHave (InImage (reads new)) object number segments bytes
  took_away object number [] bytes away t = t
  took_away object number (s ∷ segments) [] away t = tt
  took_away object number (s ∷ segments) (byte ∷ bytes) away t = (
    subst (λ (b : List ℕ). Stands b s.offset (frame_header object number s.len ++ take s.len (byte ∷ bytes))) (sym (reads_same s.file away.0)) t.0,
    took_away object (suc number) segments (drop s.len (byte ∷ bytes)) away.1 t.1,
  )

  taken_away : (seats : List (ℕ × Seat)) (t : Ticket) → AllByRecursion (λ s. ¬ theirs s.file) t.place.segments → HasTaken seats h t → HasTaken seats new t
  taken_away seats t away taken = record {
    stands = took_away (object_of t.purpose) 0 t.place.segments t.bytes away taken.stands;
    firm = λ is_sealed. frames_carried (InStore h) (InStore new) (object_of t.purpose) 0 t.place.segments t.bytes
        (each_also (λ s. ¬ theirs s.file) (Carries (InStore h) (InStore new)) t.place.segments (λ s one piece long f. firm_beside theirs h new s.file s.offset piece one goes f) away)
        (taken.firm is_sealed);
  }

  pub all_taken_away : (seats : List (ℕ × Seat)) (tickets : List Ticket) → AreAway tickets → AllByRecursion (HasTaken seats h) tickets → AllByRecursion (HasTaken seats new) tickets
  all_taken_away seats [] away taken = tt
  all_taken_away seats (t ∷ tickets) away taken = (taken_away seats t away.0 taken.0, all_taken_away seats tickets away.1 taken.1)

-- ---- a run on files of the vault

module _ (h new : History) (goes : GoesOn IsOurs h new) where
  not_ours : (file : ℕ) → 4 ≤ file → ¬ IsOurs file
  not_ours file from ours = omega (arith, from, ours)

  -- ---- copies

  elsewhere : (list : List Inv) → AllByRecursion (λ v. is_valid v ≡ true) list → EachSegment (λ s. ¬ IsOurs s.file) (flat_map versions list)
  elsewhere list valid =
      each_covered (λ (w : Version). AllByRecursion (λ (c : CopyRow). AllByRecursion (λ s. ¬ IsOurs s.file) c.segments) w.copies) list
      (each_also (λ v. is_valid v ≡ true) (λ v. EachSegment (λ s. ¬ IsOurs s.file) (versions v)) list
      (λ v one. each_weaker (λ s. 4 ≤ s.file) (λ s. ¬ IsOurs s.file) (λ s from. not_ours s.file from) (versions v) (on_volumes v one)) valid)

  pub covered_beside : (contents : ℕ → List ℕ) (list : List Inv) → AllByRecursion (λ v. is_valid v ≡ true) list → HaveAll (InStore h) contents (flat_map versions list)
      → HaveAll (InStore new) contents (flat_map versions list)
  covered_beside contents list valid kept = beside IsOurs contents h new (flat_map versions list) (elsewhere list valid) goes kept

  pub covered_since : (contents : ℕ → List ℕ) (list : List Inv) → AllByRecursion (λ v. is_valid v ≡ true) list → HaveAll (InStore h) contents (flat_map versions list)
      → EachImage (now h) new (λ image. AllByRecursion (HasAll (InImage image) contents) list)
  covered_since contents list valid kept moment image from to at =
      all_each (InImage image) contents list (beside_since IsOurs contents h new (flat_map versions list) (elsewhere list valid) goes kept moment image from to at)

  -- ---- tickets

  pub all_taken_beside : (seats : List (ℕ × Seat)) (tickets : List Ticket) → AllByRecursion (λ t. AllByRecursion (λ s. 4 ≤ s.file) t.place.segments) tickets → AllByRecursion (HasTaken seats h) tickets
      → AllByRecursion (HasTaken seats new) tickets
  all_taken_beside seats tickets from taken =
      all_taken_away IsOurs h new goes seats tickets
      (each_also (λ (t : Ticket). AllByRecursion (λ s. 4 ≤ s.file) t.place.segments) (λ (t : Ticket). AllByRecursion (λ s. ¬ IsOurs s.file) t.place.segments) tickets
      (λ t each. each_also (λ (s : Segment). 4 ≤ s.file) (λ (s : Segment). ¬ IsOurs s.file) t.place.segments (λ s one. not_ours s.file one) each) from) taken
