-- A new image takes the place of the older one.
use Rattle.std.proofs.Common.{◌≡◌, ◌⊎◌, ⊎_elim, inl, inr, ℕ, ◌+◌, ◌<◌, ◌^◌, List, [], Result, Ok, refl, sym, ◌∙◌, subst, arith}
use Rattle.store_api.specs.Disk.{History, standing, reads, settled, now, Leaves}
use Rattle.store_api.specs.Runs.{Firm, GoesOn, EachImage}
use Rattle.store_api.proofs.Runs.{goes_weaker, goes_images, now_image}
use Rattle.log_file.specs.Blocks.{LogEnds}
use Rattle.log_file.proofs.Logs.{sure_since, sure_left}
use Rattle.db_image.specs.declared.mark.Mark.TheVariants.{Server}
use Rattle.db_image.proofs.One.{never_spent_less, never_spent_other, image_settled}
use Rattle.db_image.proofs.One as one
use Rattle.db_image.specs.Images.{image_bytes, NeverSpent, HasImage}
use Rattle.db_image.specs.Steps.{CanShut}
use Rattle.entries.specs.declared.entry.Entry.{Entry}
use Rattle.fields.specs.Editions.{Edition, second_form}
use Rattle.entries.specs.Meaning.{Meaning, IsMeaning}
use Rattle.vault.specs.Files.{image_file, log_file, IsOurs, IsOf}
use Rattle.vault.specs.Recovery.{Older, Newest, records_in, after_all, RecoversWithin}
use Rattle.vault.specs.Images.{IsImage, StaysOlder, Replaced}
use Rattle.vault.specs.Vaults.{HoldsIn, Holds}
use Rattle.vault.specs.Openings.{ImagesAre}
use Rattle.vault.proofs.Replacing.{can_shut}
use Rattle.vault.proofs.Goodness.{image_ours, log_ours, image_log, image_next, log_next, image_again, image_left, image_beside, older_left}

-- a generation's files are the vault's
pub of_ours : (generation file : ℕ) → IsOf generation file → IsOurs file
of_ours generation file (inl is) = subst IsOurs (sym is) (image_ours generation)
of_ours generation file (inr is) = subst IsOurs (sym is) (log_ours generation)

-- the newest image and its log aren't of the next generation
pub image_apart : (generation : ℕ) → ¬ IsOf (generation + 1) (image_file generation)
image_apart generation (inl is) = image_next generation is
image_apart generation (inr is) = image_log generation (generation + 1) is

pub log_apart : (generation : ℕ) → ¬ IsOf (generation + 1) (log_file generation)
log_apart generation (inl is) = image_log (generation + 1) generation (sym is)
log_apart generation (inr is) = log_next generation is

-- the images' files are on the disk: no stop takes away the newest, and the gate of the other can be shut
pub images_stay : (generation : ℕ) (start old : History) → generation + 1 < 2 ^ 62 → (are : ImagesAre generation start old) → IsImage old (image_file generation) generation are.payload × CanShut
    (standing old (image_file (generation + 1)))
images_stay generation start old few are =
    let durable : (file : ℕ) → file < 2 → standing old file ≡ settled (reads start file) = are.durable in (
      record {
        firm = subst (λ s. Firm s 0 (image_bytes Server generation are.payload)) (sym (durable (image_file generation) (omega arith)))
            (image_settled (image_file generation) generation Server (reads start (image_file generation)) are.payload are.newest.stands);
        allowed = are.newest.stands.allowed;
        unspent = never_spent_less Server generation are.payload few;
        small = are.newest.stands.small;
      },
      subst CanShut (sym (durable (image_file (generation + 1)) (omega arith))) (one.can_shut (reads start (image_file (generation + 1)))),
    )

-- an image that is put behind one that no stop takes away is there to stay
pub holds_behind : {D T E : Type 0} (m : Meaning D) (generation : ℕ) (before : List ℕ) (d : D) → m.Valid second_form d → (payload : List ℕ) → payload ≡ m.spelled second_form d → NeverSpent Server
    (generation + 1) payload → (old new : History)
    → IsImage old (image_file generation) generation before → CanShut (standing old (image_file (generation + 1))) → (log : T) →
    (let result : Result T E = Ok log in Replaced (generation + 1) payload result old new) → Holds m (generation + 1) d [] 0 new
holds_behind m generation before d valid payload spelled unspent old new image can log replaced =
    let there = replaced.stands unspent can in
    record {
      image = subst (λ (p : List ℕ). IsImage new (image_file (generation + 1)) (generation + 1) p) spelled there.0;
      other = subst (λ (n : ℕ). StaysOlder (generation + 1) n new) (sym (image_again generation))
          (inr (generation, before, image_beside (IsOf (generation + 1)) old new replaced.goes (image_file generation) generation before (image_apart generation) image, omega arith));
      log = there.1;
      valid = valid;
      legal = tt;
    }

module _ {D : Type 0} (m : Meaning D) (generation : ℕ) (base : D) (entries : List Entry) (end : ℕ) (d : D) (valid : m.Valid second_form d) (payload : List ℕ) (spelled : payload ≡ m.spelled second_form d) (unspent : NeverSpent Server (generation + 1) payload) (old new : History) (form : Edition) (holds : HoldsIn form m generation base entries end old) where
  module _ {T E : Type 0} (result : Result T E) (replaced : Replaced (generation + 1) payload result old new) where
    -- each image since recovers to what was there, or to what was put in its place
    pub replaced_since : EachImage (now old) new (λ files. RecoversWithin m files (after_all m base entries) ⊎ RecoversWithin m files d)
    replaced_since moment files from to here =
        let stands : HasImage (image_file generation) Server (files (image_file generation)) generation (m.spelled form base) =
        image_left old (image_file generation) generation (m.spelled form base) (files (image_file generation)) holds.image (goes_images (IsOf (generation + 1)) old new (image_file generation) (image_apart generation) replaced.goes moment files from to here) in
        ⊎_elim
        (λ older. inl (record {
          form = form;
          generation = generation;
          base = base;
          entries = entries;
          valid = holds.valid;
          newest = record { stands = stands; other = older };
          log = sure_since (IsOf (generation + 1)) old new (log_file generation) (records_in form entries) end (log_apart generation) replaced.goes holds.log moment files from to here;
          legal = holds.legal;
          gives = refl;
        }))
        (λ begun. inr (record {
          form = second_form;
          generation = generation + 1;
          base = d;
          entries = [];
          valid = valid;
          newest = record {
            stands = subst (λ (p : List ℕ). HasImage (image_file (generation + 1)) Server (files (image_file (generation + 1))) (generation + 1) p) spelled begun.0;
            other = subst (λ (n : ℕ). Older (generation + 1) n (files n)) (sym (image_again generation)) (inr (generation, m.spelled form base, stands, omega arith));
          };
          log = begun.1;
          legal = tt;
          gives = refl;
        }))
        (replaced.since generation unspent holds.other moment files from to here)

    pub replaced_ours : GoesOn IsOurs old new
    replaced_ours = goes_weaker (IsOf (generation + 1)) IsOurs old new (of_ours (generation + 1)) replaced.goes

  -- the new image is there to stay
  pub replaced_holds : {T E : Type 0} (log : T) → (let result : Result T E = Ok log in Replaced (generation + 1) payload result old new) → Holds m (generation + 1) d [] 0 new
  replaced_holds {T} {E} log replaced =
      holds_behind {T = T} {E = E} m generation (m.spelled form base) d valid payload spelled unspent old new holds.image
      (can_shut generation (image_file (generation + 1)) old holds.other) log replaced

-- a database in the form that is written is never spent
pub written_unspent : {D : Type 0} (m : Meaning D) (law : IsMeaning m) (generation : ℕ) (payload : List ℕ) (d : D) → m.Valid second_form d → payload ≡ m.spelled second_form d → NeverSpent Server generation payload
written_unspent m law generation payload d valid spelled =
    let begins = law.begins second_form d valid in
    subst (NeverSpent Server generation) (sym (spelled ∙ begins.1)) (never_spent_other Server generation 2 begins.0 (λ e. absurd (omega (arith, e))))

-- an image of now is that database, with an empty log
pub holds_fresh : {D : Type 0} (m : Meaning D) (generation : ℕ) (d : D) (h : History) → Holds m generation d [] 0 h → EachImage (now h) h (λ files. Newest files generation (m.spelled second_form d) × LogEnds (files (log_file generation)) [])
holds_fresh m generation d h holds moment files from to here =
    let there = now_image h files (subst (λ k. Rattle.store_api.specs.Disk.ImageAt h k files) (let e : moment ≡ now h = omega (arith, from, to) in e) here) in (
      record {
        stands = image_left h (image_file generation) generation (m.spelled second_form d) (files (image_file generation)) holds.image (there (image_file generation));
        other = older_left generation (image_file (generation + 1)) h (files (image_file (generation + 1))) holds.other (there (image_file (generation + 1)));
      },
      sure_left h (log_file generation) [] 0 (files (log_file generation)) holds.log (there (log_file generation)),
    )
