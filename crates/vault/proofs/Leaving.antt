-- What a stop right now leaves of the vault's files.
use Rattle.std.proofs.Common.{◌≡◌, ⊎_elim, inl, inr, cond, ltb, ℕ, ◌+◌, ◌<◌, ◌≤◌, List, sym, subst, arith}
use Rattle.std.proofs.lemmas.Bool.{cases_lt, lt-ltb, le-ltb, cond-true, cond-false}
use Rattle.store_api.specs.Disk.{History, standing, reads, now, Leaves, ImageAt}
use Rattle.store_api.specs.Runs.{GoesOn, EachImage, LeftNow}
use Rattle.store_api.proofs.Runs.{goes_later, image_now, left_of_image}
use Rattle.store_api.proofs.Pieces.{leaves_reads, left_beside, left_since}
use Rattle.log_file.specs.Blocks.{LogEnds}
use Rattle.db_image.specs.declared.mark.Mark.TheVariants.{Server}
use Rattle.db_image.specs.Images.{HasImage}
use Rattle.entries.specs.Meaning.{Meaning}
use Rattle.vault.specs.Files.{image_file, log_file, IsOurs}
use Rattle.vault.specs.Recovery.{Older, records_in, RecoversWithin}
use Rattle.vault.specs.Vaults.{State, IsGood, IsLeft, RecoversToEither}
use Rattle.vault.proofs.Goodness.{image_ours, log_ours, good_left}

-- the vault's files as they are in one image, and the others as in another
unfoldable ours_in : (ℕ → List ℕ) → (ℕ → List ℕ) → ℕ → List ℕ
ours_in files others file = cond (ltb file 4) (files file) (others file)

ours_same : (files others : ℕ → List ℕ) (file : ℕ) → IsOurs file → ours_in files others file ≡ files file
unfolding ours_in
ours_same files others file ours = cond-true _ (files file) (others file) (lt-ltb file 4 ours)

-- what a stop may leave of the vault's files is part of an image of now
image_of_ours : (h : History) (files : ℕ → List ℕ) → LeftNow IsOurs h files → ImageAt h (now h) (ours_in files (reads h))
unfolding ours_in
image_of_ours h files left = image_now h (ours_in files (reads h)) (λ file. elim (cases_lt file 4) [
  | inl ours ↦ subst (λ l. Leaves (standing h file) l) (sym (cond-true _ (files file) (reads h file) (lt-ltb file 4 ours))) (left file ours)
  | inr behind ↦ subst (λ l. Leaves (standing h file) l) (sym (cond-false _ (files file) (reads h file) (le-ltb file 4 behind))) (leaves_reads h file)
])

-- what is said of the vault's files alone
abbrev OfOurs : ((ℕ → List ℕ) → Type 0) → Type 0
OfOurs P = (files others : ℕ → List ℕ) → ((file : ℕ) → IsOurs file → files file ≡ others file) → P files → P others

-- what each image since the start of a run has, a stop leaves right after it
left_after : (P : (ℕ → List ℕ) → Type 0) (mine : ℕ → Type 0) (old new : History) → OfOurs P → GoesOn mine old new → EachImage (now old) new P → IsLeft P new
left_after P mine old new carries goes each files left =
    carries (ours_in files (reads new)) files (ours_same files (reads new)) (each (now new) (ours_in files (reads new)) (goes_later mine old new goes) (omega arith) (image_of_ours new files left))

module _ {D : Type 0} (m : Meaning D) where
  -- what files recover to, the vault's files say
  one_ours : (d : D) → OfOurs (λ files. RecoversWithin m files d)
  one_ours d files others same r = record {
    form = r.form;
    generation = r.generation;
    base = r.base;
    entries = r.entries;
    valid = r.valid;
    newest = record {
      stands = subst (λ (b : List ℕ). HasImage (image_file r.generation) Server b r.generation (m.spelled r.form r.base)) (same (image_file r.generation) (image_ours r.generation)) r.newest.stands;
      other = subst (λ (b : List ℕ). Older r.generation (image_file (r.generation + 1)) b) (same (image_file (r.generation + 1)) (image_ours (r.generation + 1))) r.newest.other;
    };
    log = subst (λ (b : List ℕ). LogEnds b (records_in r.form r.entries)) (same (log_file r.generation) (log_ours r.generation)) r.log;
    legal = r.legal;
    gives = r.gives;
  }

  either_ours : (before after : D) → OfOurs (RecoversToEither m before after)
  either_ours before after files others same = ⊎_elim (λ r. inl (one_ours before files others same r)) (λ r. inr (one_ours after files others same r))

  pub one_after : (mine : ℕ → Type 0) (d : D) (old new : History) → GoesOn mine old new → EachImage (now old) new (λ files. RecoversWithin m files d) → IsLeft (λ files. RecoversWithin m files d) new
  one_after mine d old new goes each = left_after (λ files. RecoversWithin m files d) mine old new (one_ours d) goes each

  pub either_after : (mine : ℕ → Type 0) (before after : D) (old new : History) → GoesOn mine old new → EachImage (now old) new (RecoversToEither m before after) → IsLeft (RecoversToEither m before after) new
  either_after mine before after old new goes each = left_after (RecoversToEither m before after) mine old new (either_ours before after) goes each

  pub good_is : (vault : State D) (h : History) → IsGood m vault h → IsLeft (λ files. RecoversWithin m files vault.database) h
  good_is vault h good files left = good_left m vault h files good (record {
    image = left (image_file vault.generation) (image_ours vault.generation);
    other = left (image_file (vault.generation + 1)) (image_ours (vault.generation + 1));
    log = left (log_file vault.generation) (log_ours vault.generation);
  })

module _ (P : (ℕ → List ℕ) → Type 0) where
  -- an image of now has it
  pub left_now : (h : History) (files : ℕ → List ℕ) → IsLeft P h → ImageAt h (now h) files → P files
  left_now h files left here = left files (left_of_image IsOurs h files here)

  module _ (theirs : ℕ → Type 0) (old new : History) (apart : (file : ℕ) → IsOurs file → ¬ theirs file) (goes : GoesOn theirs old new) (left : IsLeft P old) where
    -- a run on other files leaves it so
    pub left_kept : IsLeft P new
    left_kept files now_left = left files (left_beside IsOurs theirs old new files apart goes now_left)

    -- and so has each image since
    pub left_each : EachImage (now old) new P
    left_each moment files from to here = left files (left_since IsOurs theirs old new apart goes moment files from to here)

-- files from 4 on aren't the vault's
pub behind_ours : (theirs : ℕ → Type 0) → ((file : ℕ) → theirs file → 4 ≤ file) → (file : ℕ) → IsOurs file → ¬ theirs file
behind_ours theirs behind file ours is = absurd (let lt : file < 4 = ours in omega (arith, lt, behind file is))
