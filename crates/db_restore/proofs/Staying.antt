-- Copies in sequential pools that stand as a backup's database says are kept.
use Rattle.std.proofs.Common.{◌≡◌, ℕ, ◌≤◌, Bool, true, false, cond, ◌||◌, not, List, [], ◌∷◌, ◌++◌, map, filter, Result, refl, sym, ap, ◌∙◌}
use Rattle.std.specs.List.{AllByRecursion}
use Rattle.store_api.specs.Disk.{History, reads}
use Rattle.kinds.specs.declared.segment.Segment.{Segment}
use Rattle.volume_frames.specs.Frames.{bytes_of, data_of}
use Rattle.copy_checks.specs.Copies.{is_there}
use Rattle.inventory_rows.specs.version_groups.declared.copies.CopyRow.{CopyRow}
use Rattle.inventory_rows.specs.version_groups.declared.versions.Version.{Version}
use Rattle.inventory_rows.specs.version_groups.Entries.{is_nil}
use Rattle.inventory_rows.specs.volume_rows.declared.volume.Volume.{Volume}
use Rattle.inventory_rows.specs.Search.{versions}
use Rattle.inventory_rows.specs.State.{Inv}
use Rattle.inventory_rules.specs.Valid.{is_valid}
use Rattle.db_losses.specs.Losses.{Losses, has_copies, is_lost, restored, version_left, versions_left}
use Rattle.db_losses.proofs.Flat.{versions_restored}
use Rattle.db_restore.specs.declared.done.RestoreDone.{RestoreDone}
use Rattle.db_restore.specs.declared.refused.RestoreRefused.{RestoreRefused}
use Rattle.db_restore.specs.Missing.{AreJudged, is_missing, is_skipped}
use Rattle.db_restore.specs.Restoring.{Restores}
use Rattle.db_restore.specs.Sequential.{KeepsSequential, SparesSequential, is_in_sequential, sequential_of, with_sequential}
use Rattle.db_restore.specs.Settling.{has_volume}
use Rattle.db_restore.proofs.Facts.{all_there}

-- ---- no copy in a sequential pool is lost

module _ (image : ℕ → List ℕ) (skipped : List ℕ) (losses : Losses) (p : Inv) where
  abbrev Stays : Version → CopyRow → Type 0
  Stays w c = is_in_sequential p c ≡ true → is_lost losses w.object c.pool ≡ false

  not_lost : (w : Version) (c : CopyRow) → is_there image w.object w.size w.digest.0 c.segments ≡ true → is_skipped skipped c.segments ≡ false → is_lost losses w.object c.pool ≡ is_missing image skipped w c → is_lost losses w.object c.pool ≡ false
  not_lost w c there free judged = judged ∙ ap (λ (b : Bool). b || not (is_there image w.object w.size w.digest.0 c.segments)) free ∙ ap not there

  copies_kept : (w : Version) (cs : List CopyRow) → AllByRecursion (λ c. is_in_sequential p c ≡ true → is_there image w.object w.size w.digest.0 c.segments ≡ true) cs → AllByRecursion (λ c. is_in_sequential p c ≡ true → is_skipped skipped c.segments ≡ false) cs
      → AllByRecursion (λ c. is_lost losses w.object c.pool ≡ is_missing image skipped w c) cs → AllByRecursion (Stays w) cs
  copies_kept w [] there free judged = tt
  copies_kept w (c ∷ cs) there free judged = (λ seq. not_lost w c (there.0 seq) (free.0 seq) judged.0, copies_kept w cs there.1 free.1 judged.1)

  all_kept : (ws : List Version) → AllByRecursion (λ w. AllByRecursion (λ c. is_in_sequential p c ≡ true → is_there image w.object w.size w.digest.0 c.segments ≡ true) w.copies) ws → AllByRecursion (λ w. AllByRecursion (λ c. is_in_sequential p c ≡ true → is_skipped skipped c.segments ≡ false) w.copies) ws
      → AllByRecursion (λ w. AllByRecursion (λ c. is_lost losses w.object c.pool ≡ is_missing image skipped w c) w.copies) ws → AllByRecursion (λ w. AllByRecursion (Stays w) w.copies) ws
  all_kept [] there free judged = tt
  all_kept (w ∷ ws) there free judged = (copies_kept w w.copies there.0 free.0 judged.0, all_kept ws there.1 free.1 judged.1)

-- ---- so what is left has them

module _ (losses : Losses) (p : Inv) where
  abbrev stays : Version → CopyRow → Bool
  stays w c = not (is_lost losses w.object c.pool)

  abbrev seq : CopyRow → Bool
  seq c = is_in_sequential p c

  copies_same : (w : Version) (cs : List CopyRow) → AllByRecursion (λ c. seq c ≡ true → is_lost losses w.object c.pool ≡ false) cs → filter seq (filter (stays w) cs) ≡ filter seq cs
  copies_same w [] all = refl
  copies_same w (c ∷ cs) all = go (copies_same w cs all.1) (is_lost losses w.object c.pool) (seq c) refl all.0
    where
      go : filter seq (filter (stays w) cs) ≡ filter seq cs → (lost s : Bool) → seq c ≡ s → (s ≡ true → lost ≡ false) → filter seq (cond (not lost) (c ∷ filter (stays w) cs) (filter (stays w) cs)) ≡ cond s (c ∷ filter seq cs) (filter seq cs)
      go rest false s is kept = ap (λ (b : Bool). cond b (c ∷ filter seq (filter (stays w) cs)) (filter seq (filter (stays w) cs))) is ∙ ap (λ (l : List CopyRow). cond s (c ∷ l) l) rest
      go rest true true is kept = absurd (let never : true ≡ false = kept refl in cc)
      go rest true false is kept = rest

  none_of_none : (f : CopyRow → Bool) (cs : List CopyRow) → not (is_nil cs) ≡ false → not (is_nil (filter f cs)) ≡ false
  none_of_none f [] none = refl
  none_of_none f (c ∷ cs) none = absurd (cc)

  same_of : (w : Version) → AllByRecursion (λ c. seq c ≡ true → is_lost losses w.object c.pool ≡ false) w.copies → sequential_of p (version_left losses w) ≡ sequential_of p w
  same_of w all = ap (λ (cs : List CopyRow). record w { copies = cs }) (copies_same w w.copies all)

  all_same : (ws : List Version) → AllByRecursion (λ w. AllByRecursion (λ c. seq c ≡ true → is_lost losses w.object c.pool ≡ false) w.copies) ws → with_sequential p (versions_left losses ws) ≡ with_sequential p ws
  all_same [] all = refl
  all_same (w ∷ ws) all = go (all_same ws all.1) (same_of w all.0) (has_copies (version_left losses w)) refl
    where
      go : with_sequential p (versions_left losses ws) ≡ with_sequential p ws → sequential_of p (version_left losses w) ≡ sequential_of p w → (b : Bool) → has_copies (version_left losses w) ≡ b
          → with_sequential p (cond b (version_left losses w ∷ versions_left losses ws) (versions_left losses ws)) ≡ cond (has_copies (sequential_of p w)) (sequential_of p w ∷ with_sequential p ws) (with_sequential p ws)
      go rest same true some =
          ap (λ (u : Version). cond (has_copies u) (u ∷ with_sequential p (versions_left losses ws)) (with_sequential p (versions_left losses ws))) same
          ∙ ap (λ (l : List Version). cond (has_copies (sequential_of p w)) (sequential_of p w ∷ l) l) rest
      go rest same false none =
          rest
          ∙ sym (ap (λ (b : Bool). cond b (sequential_of p w ∷ with_sequential p ws) (with_sequential p ws))
          (ap has_copies (sym same) ∙ none_of_none seq ((version_left losses w).copies) none))

pub sequentials_stay : (image : ℕ → List ℕ) (skipped : List ℕ) (losses : Losses) (file day : ℕ) (p : Inv) → KeepsSequential image p → SparesSequential skipped p → AreJudged image skipped losses p → with_sequential p (versions (restored losses file day p)) ≡ with_sequential p (versions p)
sequentials_stay image skipped losses file day p there free judged =
    ap (with_sequential p) (versions_restored losses file day p) ∙ all_same losses p (versions p) (all_kept image skipped losses p (versions p) there free judged)

-- ---- and their bytes

module _ (volumes : List (ℕ × Volume)) (old new : ℕ → List ℕ) (same : (other : ℕ) → 4 ≤ other → new other ≡ old other) where
  segments_same : (segments : List Segment) → AllByRecursion (λ s. (4 ≤ s.file) × (has_volume s.file volumes ≡ true)) segments → bytes_of new segments ≡ bytes_of old segments
  segments_same [] there = refl
  segments_same (s ∷ segments) there =
      ap (λ (file : List ℕ). data_of file s ++ bytes_of new segments) (same s.file there.0.0) ∙ ap (λ (l : List ℕ). data_of (old s.file) s ++ l) (segments_same segments there.1)

  copies_read : (cs : List CopyRow) → AllByRecursion (λ c. AllByRecursion (λ s. (4 ≤ s.file) × (has_volume s.file volumes ≡ true)) c.segments) cs → AllByRecursion (λ c. bytes_of new c.segments ≡ bytes_of old c.segments) cs
  copies_read [] there = tt
  copies_read (c ∷ cs) there = (segments_same c.segments there.0, copies_read cs there.1)

  versions_read : (ws : List Version) → AllByRecursion (λ w. AllByRecursion (λ c. AllByRecursion (λ s. (4 ≤ s.file) × (has_volume s.file volumes ≡ true)) c.segments) w.copies) ws → AllByRecursion (λ w. AllByRecursion (λ c. bytes_of new c.segments ≡ bytes_of old c.segments) w.copies) ws
  versions_read [] there = tt
  versions_read (w ∷ ws) there = (copies_read w.copies there.0, versions_read ws there.1)

pub bytes_stay : (p : Inv) (file day : ℕ) (skipped : List ℕ) (result : Result RestoreDone RestoreRefused) (old new : History) → is_valid p ≡ true → Restores p file day skipped result old new → AllByRecursion (λ w. AllByRecursion (λ c. bytes_of (reads new) c.segments ≡ bytes_of (reads old) c.segments) w.copies) (versions p)
bytes_stay p file day skipped result old new valid r = versions_read p.stores.volumes (reads old) (reads new) r.others (versions p) (all_there p valid)
