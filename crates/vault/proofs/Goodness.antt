-- What no stop takes away from a vault, and what a stop leaves of it.
use Rattle.std.proofs.Common.{◌≡◌, ◌≢◌, inl, inr, ℕ, ◌+◌, List, [], ◌∷◌, refl, sym, subst, arith}
use Rattle.store_api.specs.Disk.{History, standing, now, Leaves, ImageAt}
use Rattle.store_api.specs.Runs.{GoesOn, EachImage}
use Rattle.store_api.proofs.Runs.{goes_images, now_image}
use Rattle.store_api.proofs.Pieces.{firm_beside}
use Rattle.store_api.proofs.Standings.{leaves_firm}
use Rattle.log_file.proofs.Logs.{sure_left, sure_beside}
use Rattle.log_file.proofs.Appending.{waiting_beside}
use Rattle.db_image.specs.declared.mark.Mark.TheVariants.{Server}
use Rattle.db_image.specs.Images.{image_bytes, HasImage}
use Rattle.db_image.specs.Steps.{FirmShut}
use Rattle.db_image.proofs.One.{stands_image}
use Rattle.entries.specs.declared.entry.Entry.{Entry}
use Rattle.fields.specs.Editions.{Edition, second_form}
use Rattle.entries.specs.Meaning.{Meaning}
use Rattle.vault.specs.Files.{image_file, log_file, IsOurs}
use Rattle.vault.specs.Recovery.{Older, Newest, records_in, records_of, after_all, RecoversWithin}
use Rattle.vault.specs.Images.{IsImage, StaysOlder}
use Rattle.vault.specs.Vaults.{State, HoldsIn, IsGoodIn, IsGood, IsHeld, IsLeft, RecoversAs}
use Rattle.vault.proofs.Replacing.{shut_left}

-- the vault's files
pub image_ours : (generation : ℕ) → IsOurs (image_file generation)
image_ours generation = omega arith

pub log_ours : (generation : ℕ) → IsOurs (log_file generation)
log_ours generation = omega arith

pub image_log : (generation other : ℕ) → image_file generation ≢ log_file other
image_log generation other e = absurd (omega (arith, e))

pub image_next : (generation : ℕ) → image_file generation ≢ image_file (generation + 1)
image_next generation e = absurd (omega (arith, e))

pub log_next : (generation : ℕ) → log_file generation ≢ log_file (generation + 1)
log_next generation e = absurd (omega (arith, e))

pub image_again : (generation : ℕ) → image_file (generation + 1 + 1) ≡ image_file generation
image_again generation = omega arith

-- what a stop leaves of an image that no stop takes away
pub image_left : (h : History) (file generation : ℕ) (payload left : List ℕ) → IsImage h file generation payload → Leaves (standing h file) left → HasImage file Server left generation payload
image_left h file generation payload left is leaves = stands_image file generation Server left payload is.allowed is.unspent is.small (leaves_firm (standing h file) left 0 (image_bytes Server generation payload) leaves is.firm)

-- and of an older one
pub older_left : (bound file : ℕ) (h : History) (left : List ℕ) → StaysOlder bound file h → Leaves (standing h file) left → Older bound file left
older_left bound file h left (inl shut) leaves = inl (shut_left h file left shut leaves)
older_left bound file h left (inr there) leaves = inr (there.0, there.1, image_left h file there.0 there.1 left there.2 leaves, there.3)

module _ (theirs : ℕ → Type 0) (old new : History) (goes : GoesOn theirs old new) where
  pub image_beside : (file generation : ℕ) (payload : List ℕ) → ¬ theirs file → IsImage old file generation payload → IsImage new file generation payload
  image_beside file generation payload beside is = record { firm = firm_beside theirs old new file 0 (image_bytes Server generation payload) beside goes is.firm; allowed = is.allowed; unspent = is.unspent; small = is.small }

  pub shut_beside : (file : ℕ) → ¬ theirs file → FirmShut (standing old file) → FirmShut (standing new file)
  shut_beside file beside shut = record { gate = shut.gate; closed = shut.closed; firm = firm_beside theirs old new file 0 (shut.gate ∷ []) beside goes shut.firm }

  pub older_beside : (bound file : ℕ) → ¬ theirs file → StaysOlder bound file old → StaysOlder bound file new
  older_beside bound file beside (inl shut) = inl (shut_beside file beside shut)
  older_beside bound file beside (inr there) = inr (there.0, there.1, image_beside file there.0 there.1 beside there.2, there.3)

  pub holds_beside : {D : Type 0} {form : Edition} (m : Meaning D) (generation : ℕ) (base : D) (entries : List Entry) (end : ℕ) → ¬ theirs (image_file generation) → ¬ theirs (image_file (generation + 1)) → ¬ theirs (log_file generation) →
      HoldsIn form m generation base entries end old → HoldsIn form m generation base entries end new
  holds_beside {D} {form} m generation base entries end a b l holds = record {
    image = image_beside (image_file generation) generation (m.spelled form base) a holds.image;
    other = older_beside generation (image_file (generation + 1)) b holds.other;
    log = sure_beside theirs old new (log_file generation) (records_in form entries) end l goes holds.log;
    valid = holds.valid;
    legal = holds.legal;
  }

-- what a stop leaves of the vault's files
pub record LeftOf (generation : ℕ) (h : History) (files : ℕ → List ℕ) : Type 0 where
  pub image : Leaves (standing h (image_file generation)) (files (image_file generation))
  pub other : Leaves (standing h (image_file (generation + 1))) (files (image_file (generation + 1)))
  pub log : Leaves (standing h (log_file generation)) (files (log_file generation))

module _ {D : Type 0} (m : Meaning D) where
  pub newest_left : {form : Edition} (generation : ℕ) (base : D) (entries : List Entry) (end : ℕ) (h : History) (files : ℕ → List ℕ) → HoldsIn form m generation base entries end h →
      Leaves (standing h (image_file generation)) (files (image_file generation)) → Older generation (image_file (generation + 1)) (files (image_file (generation + 1))) → Newest files generation (m.spelled form base)
  newest_left {form} generation base entries end h files holds left older = record { stands = image_left h (image_file generation) generation (m.spelled form base) (files (image_file generation)) holds.image left; other = older }

  pub holds_left : {form : Edition} (generation : ℕ) (base : D) (entries : List Entry) (end : ℕ) (h : History) (files : ℕ → List ℕ) → HoldsIn form m generation base entries end h → LeftOf generation h files → RecoversWithin m files (after_all m base entries)
  holds_left {form} generation base entries end h files holds left = record {
    form = form;
    generation = generation;
    base = base;
    entries = entries;
    valid = holds.valid;
    newest = newest_left generation base entries end h files holds left.image (older_left generation (image_file (generation + 1)) h (files (image_file (generation + 1))) holds.other left.other);
    log = sure_left h (log_file generation) (records_in form entries) end (files (log_file generation)) holds.log left.log;
    legal = holds.legal;
    gives = refl;
  }

  pub good_left : {form : Edition} (vault : State D) (h : History) (files : ℕ → List ℕ) → IsGoodIn form m vault h → LeftOf vault.generation h files → RecoversWithin m files vault.database
  good_left vault h files good left = subst (RecoversWithin m files) (sym good.gives) (holds_left vault.generation good.base good.entries vault.end h files good.holds left)

  pub good_beside : {form : Edition} (theirs : ℕ → Type 0) (vault : State D) (old new : History) → ((file : ℕ) → IsOurs file → ¬ theirs file) → GoesOn theirs old new → IsGoodIn form m vault old → IsGoodIn form m vault new
  good_beside theirs vault old new apart goes good = record {
    base = good.base;
    entries = good.entries;
    holds = holds_beside theirs old new goes m vault.generation good.base good.entries vault.end (apart (image_file vault.generation) (image_ours vault.generation)) (apart (image_file (vault.generation + 1)) (image_ours (vault.generation + 1))) (apart (log_file vault.generation) (log_ours vault.generation)) good.holds;
    gives = good.gives;
    none = good.none;
    all = good.all;
  }

  -- the same of the database that was forced
  pub held_left : (vault : State D) (durable : D) (h : History) (files : ℕ → List ℕ) → IsHeld m vault durable h → LeftOf vault.generation h files → RecoversWithin m files durable
  held_left vault durable h files held left = subst (RecoversWithin m files) (sym held.gives) (holds_left vault.generation held.base held.entries vault.sure h files held.holds left)

  pub held_is : (vault : State D) (durable : D) (h : History) → IsHeld m vault durable h → IsLeft (λ files. RecoversWithin m files durable) h
  held_is vault durable h held files left = held_left vault durable h files held (record {
    image = left (image_file vault.generation) (image_ours vault.generation);
    other = left (image_file (vault.generation + 1)) (image_ours (vault.generation + 1));
    log = left (log_file vault.generation) (log_ours vault.generation);
  })

  pub held_since : (theirs : ℕ → Type 0) (vault : State D) (durable : D) (old new : History) → ((file : ℕ) → IsOurs file → ¬ theirs file) → GoesOn theirs old new → IsHeld m vault durable old → EachImage (now old) new (λ files. RecoversWithin m files durable)
  held_since theirs vault durable old new apart goes held moment files from to here =
      held_left vault durable old files held
      (record {
        image = goes_images theirs old new (image_file vault.generation) (apart (image_file vault.generation) (image_ours vault.generation)) goes moment files from to here;
        other = goes_images theirs old new (image_file (vault.generation + 1)) (apart (image_file (vault.generation + 1)) (image_ours (vault.generation + 1))) goes moment files from to here;
        log = goes_images theirs old new (log_file vault.generation) (apart (log_file vault.generation) (log_ours vault.generation)) goes moment files from to here;
      })

  pub held_image : (vault : State D) (durable : D) (h : History) (files : ℕ → List ℕ) → IsHeld m vault durable h → ImageAt h (now h) files → RecoversWithin m files durable
  held_image vault durable h files held here =
      held_left vault durable h files held (record { image = now_image h files here (image_file vault.generation); other = now_image h files here (image_file (vault.generation + 1)); log = now_image h files here (log_file vault.generation) })

  pub held_beside : (theirs : ℕ → Type 0) (vault : State D) (durable : D) (old new : History) → ((file : ℕ) → IsOurs file → ¬ theirs file) → GoesOn theirs old new → IsHeld m vault durable old → IsHeld m vault durable new
  held_beside theirs vault durable old new apart goes held =
      let holds = holds_beside theirs old new goes m vault.generation held.base held.entries vault.sure (apart (image_file vault.generation) (image_ours vault.generation)) (apart (image_file (vault.generation + 1)) (image_ours (vault.generation + 1))) (apart (log_file vault.generation) (log_ours vault.generation)) held.holds in
      record {
        base = held.base;
        entries = held.entries;
        waiting = held.waiting;
        holds = holds;
        gives = held.gives;
        log = waiting_beside theirs old new (log_file vault.generation) (records_of held.entries) (records_of held.waiting) vault.sure vault.end (apart (log_file vault.generation) (log_ours vault.generation)) goes holds.log held.log;
        legal = held.legal;
        all = held.all;
        are = held.are;
        within = held.within;
      }

  pub good_since : {form : Edition} (theirs : ℕ → Type 0) (vault : State D) (old new : History) → ((file : ℕ) → IsOurs file → ¬ theirs file) → GoesOn theirs old new → IsGoodIn form m vault old → EachImage (now old) new (λ files. RecoversWithin m files vault.database)
  good_since theirs vault old new apart goes good moment files from to here =
      good_left vault old files good
      (record {
        image = goes_images theirs old new (image_file vault.generation) (apart (image_file vault.generation) (image_ours vault.generation)) goes moment files from to here;
        other = goes_images theirs old new (image_file (vault.generation + 1)) (apart (image_file (vault.generation + 1)) (image_ours (vault.generation + 1))) goes moment files from to here;
        log = goes_images theirs old new (log_file vault.generation) (apart (log_file vault.generation) (log_ours vault.generation)) goes moment files from to here;
      })

  pub good_image : {form : Edition} (vault : State D) (h : History) (files : ℕ → List ℕ) → IsGoodIn form m vault h → ImageAt h (now h) files → RecoversWithin m files vault.database
  good_image vault h files good here =
      good_left vault h files good (record { image = now_image h files here (image_file vault.generation); other = now_image h files here (image_file (vault.generation + 1)); log = now_image h files here (log_file vault.generation) })

  -- and by which image and which log
  pub whole_image : (vault : State D) (h : History) (files : ℕ → List ℕ) → IsGood m vault h → ImageAt h (now h) files → RecoversAs m vault files
  whole_image vault h files good here =
      let holds = good.holds in
      record {
        recovers = record {
          form = second_form;
          generation = vault.generation;
          base = good.base;
          entries = good.entries;
          valid = holds.valid;
          newest = newest_left vault.generation good.base good.entries vault.end h files holds (now_image h files here (image_file vault.generation)) (older_left vault.generation (image_file (vault.generation + 1)) h (files (image_file (vault.generation + 1))) holds.other (now_image h files here (image_file (vault.generation + 1))));
          log = sure_left h (log_file vault.generation) (records_of good.entries) vault.end (files (log_file vault.generation)) holds.log (now_image h files here (log_file vault.generation));
          legal = holds.legal;
          gives = good.gives;
        };
        by_image = refl;
        written = refl;
        log = sym holds.log.is_end;
      }
