-- What opening leaves of a sound store: each image since gives back a database that one gave back before.
use Rattle.std.proofs.Common.{◌≡◌, inl, inr, ℕ, ◌+◌, ◌<◌, ◌≤◌, cond, ltb, true, List, [], ◌∷◌, Option, Result, Ok, Err, sym, subst, arith}
use Rattle.std.proofs.lemmas.Bool.{cases_lt, cond-false, cond-true, le-ltb, lt-ltb}
use Rattle.store_api.specs.Disk.{History, ImageAt, Leaves, now, standing}
use Rattle.store_api.specs.Runs.{EachImage, Stands}
use Rattle.store_api.specs.Told.{Told}
use Rattle.store_api.proofs.Runs.{goes_images, goes_later, image_now, now_image, told_map}
use Rattle.kinds.specs.declared.refusal.OpenRefused.{OpenRefused}
use Rattle.kinds.specs.declared.refusal.OpenRefused.TheVariants.{Memory}
use Rattle.log_file.specs.Blocks.{LogEnds}
use Rattle.db_image.specs.Images.{HasImage}
use Rattle.db_image.specs.declared.mark.Mark.TheVariants.{Server}
use Rattle.entries.specs.declared.entry.Entry.{Entry}
use Rattle.fields.specs.Editions.{Edition}
use Rattle.contents.specs.Contents.{Holds, InImage}
use Rattle.contents.proofs.Segments.{Carries, all_carried, each_weaker, on_volumes}
use Rattle.inventory.specs.Meaningful.{is_meaning}
use Rattle.inventory.specs.Meant.{IsInventory, meaning}
use Rattle.inventory.proofs.Nothing.{is_free}
use Rattle.inventory_rows.specs.Search.{versions}
use Rattle.inventory_rows.specs.State.{Inv}
use Rattle.inventory_rules.specs.Journal.{no_journal}
use Rattle.inventory_rules.specs.Valid.{is_valid}
use Rattle.vault.specs.Files.{IsOurs, image_file, log_file}
use Rattle.vault.specs.Openings.{HadOne, Opened, Spared}
use Rattle.vault.specs.Openings as vault
use Rattle.vault.specs.Recovery.{AllLegalIn, Older, RecoversWithin, after_all, records_in}
use Rattle.vault.specs.Vaults.{IsGood, State}
use Rattle.vault.proofs.Goodness.{good_image, image_ours, log_ours}
use Rattle.vault.proofs.Sounding.{within_recovers}
use Rattle.vault.proofs.Unique.{one_database}
use Rattle.hall.specs.Good.{IsSoundWith}
use Rattle.hall.specs.Opening.{GaveBack, IsSound, OpensFiles}

-- ---- what files recover to

-- one database at most
pub one_within : (files : ℕ → List ℕ) (v other : Inv) → RecoversWithin meaning files v → RecoversWithin meaning files other → v ≡ other
one_within files v other first second = one_database meaning is_meaning files v other (within_recovers meaning files v first) (within_recovers meaning files other second)

-- a valid one
valid_after : (form : Edition) (base : Inv) (entries : List Entry) → is_valid base ≡ true → AllLegalIn form meaning base entries → is_valid (after_all meaning base entries) ≡ true
valid_after form base [] valid legal = valid
valid_after form base (newest ∷ earlier) valid legal = (is_free no_journal newest.change (after_all meaning base earlier) legal.1).valid

pub recovered_valid : (files : ℕ → List ℕ) (v : Inv) → RecoversWithin meaning files v → is_valid v ≡ true
recovered_valid files v r =
    let is : IsInventory r.form r.base = r.valid in
    subst (λ (w : Inv). is_valid w ≡ true) (sym r.gives) (valid_after r.form r.base r.entries is.valid r.legal)

-- ---- the vault's files of one image, and the others of another

unfoldable pub mixed : (ours others : ℕ → List ℕ) → ℕ → List ℕ
mixed ours others file = cond (ltb file 4) (ours file) (others file)

module _ (ours others : ℕ → List ℕ) where
  mixed_ours : (file : ℕ) → IsOurs file → ours file ≡ mixed ours others file
  unfolding mixed
  mixed_ours file is = sym (cond-true _ (ours file) (others file) (lt-ltb file 4 is))

  pub mixed_others : (file : ℕ) → 4 ≤ file → mixed ours others file ≡ others file
  unfolding mixed
  mixed_others file from = cond-false _ (ours file) (others file) (le-ltb file 4 from)

  -- they recover to what the vault's files do
  pub mixed_recovers : (v : Inv) → RecoversWithin meaning ours v → RecoversWithin meaning (mixed ours others) v
  mixed_recovers v r = record {
    form = r.form;
    generation = r.generation;
    base = r.base;
    entries = r.entries;
    valid = r.valid;
    newest = record {
      stands = subst (λ (b : List ℕ). HasImage (image_file r.generation) Server b r.generation (meaning.spelled r.form r.base)) (mixed_ours (image_file r.generation) (image_ours r.generation)) r.newest.stands;
      other = subst (λ (b : List ℕ). Older r.generation (image_file (r.generation + 1)) b) (mixed_ours (image_file (r.generation + 1)) (image_ours (r.generation + 1))) r.newest.other;
    };
    log = subst (λ (b : List ℕ). LogEnds b (records_in r.form r.entries)) (mixed_ours (log_file r.generation) (log_ours r.generation)) r.log;
    legal = r.legal;
    gives = r.gives;
  }

  -- and hold of a valid database what the others do
  mixed_holds : (contents : ℕ → List ℕ) (v : Inv) → is_valid v ≡ true → Holds contents (mixed ours others) v → Holds contents others v
  mixed_holds contents v valid holds =
      all_carried (InImage (mixed ours others)) (InImage others) contents (versions v)
      (each_weaker (λ s. 4 ≤ s.file) (Carries (InImage (mixed ours others)) (InImage others))
      (λ s from piece long stands. subst (λ (b : List ℕ). Stands b s.offset piece) (mixed_others s.file from) stands) (versions v) (on_volumes v valid)) holds

  pub mixed_left : (h : History) → ImageAt h (now h) ours → ((file : ℕ) → 4 ≤ file → Leaves (standing h file) (others file)) → ImageAt h (now h) (mixed ours others)
  mixed_left h here left = image_now h (mixed ours others) (λ file. elim (cases_lt file 4) [
    | inl is ↦ subst (λ b. Leaves (standing h file) b) (mixed_ours file is) (now_image h ours here file)
    | inr from ↦ subst (λ b. Leaves (standing h file) b) (sym (mixed_others file from)) (left file from)
  ])

-- ---- opening

module _ (contents : ℕ → List ℕ) (before after : History) (sound : IsSound contents before) where
  pub vault_sound : vault.IsSound meaning before
  vault_sound files at = let back = sound.each files at in (back.0, back.1.0)

  -- each image since gives back a database that one gave back before
  pub gives_since : Spared meaning before after → EachImage (now before) after (GaveBack contents before)
  gives_since spared moment image from to here =
      let had = spared.since vault_sound moment image from to here in
      let mix : ℕ → List ℕ = mixed had.start image in
      let left : ImageAt before (now before) mix =
      mixed_left had.start image before had.left (λ file high. goes_images IsOurs before after file (λ ours. let lt : file < 4 = ours in omega (arith, lt, high)) spared.goes moment image from to here) in
      let recovers : RecoversWithin meaning mix had.database = mixed_recovers had.start image had.database had.same in
      let back = sound.each mix left in
      let holds : Holds contents mix had.database = subst (λ v. Holds contents mix v) (one_within mix back.0 had.database back.1.0 recovers) back.1.1 in
      (had.database, mix, left, (recovers, holds), (had.recovers, mixed_holds had.start image contents had.database (recovered_valid mix had.database recovers) holds))

  -- and each image behind it, that of the vault
  pub sound_behind : (state : State Inv) → (let result : Result (State Inv) OpenRefused = Ok state in Opened meaning result before after) → IsSoundWith contents state.database (now after) after
  sound_behind state opened image here =
      let good : IsGood meaning state after = opened.good vault_sound in
      let back = gives_since opened.spared (now after) image (goes_later IsOurs before after opened.spared.goes) (omega arith) here in
      let recovers = good_image meaning state after image good here in
      (recovers, subst (λ v. Holds contents image v) (one_within image back.0 state.database back.4.0 recovers) back.4.1)

pub opens_files : (result : Result (State Inv) OpenRefused) (before after : History) → Opened meaning result before after → OpensFiles result before after
opens_files result before after opened = record { vault = opened; since = λ contents sound. gives_since contents before after sound opened.spared }

-- memory was wanted behind it
no_memory : (state : State Inv) (before after : History) → (let found : Result (State Inv) OpenRefused = Ok state in Opened meaning found before after)
    → (let result : Result (State Inv) OpenRefused = Err Memory in Opened meaning result before after)
no_memory state before after opened = record { spared = opened.spared; opens = tt; says = tt; good = λ sound. tt; good_now = λ sound. tt }

pub told_opened : (result : Result (State Inv) OpenRefused) (before after : Option History) → Told before after (Opened meaning result) → Told before after (OpensFiles result)
told_opened result before after files = told_map before after (Opened meaning result) (OpensFiles result) (λ b a opened. opens_files result b a opened) files

pub told_memory : (state : State Inv) (before after : Option History) → (let found : Result (State Inv) OpenRefused = Ok state in Told before after (Opened meaning found))
    → (let result : Result (State Inv) OpenRefused = Err Memory in Told before after (OpensFiles result))
told_memory state before after files =
    let found : Result (State Inv) OpenRefused = Ok state in
    let result : Result (State Inv) OpenRefused = Err Memory in
    told_map before after (Opened meaning found) (OpensFiles result) (λ b a opened. opens_files result b a (no_memory state b a opened)) files
