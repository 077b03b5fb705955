-- While a store is opened no stop takes a database backup from it.
use Rattle.std.proofs.Common.{◌≡◌, ℕ, ◌<◌, ◌≤◌, true, List, subst, arith}
use Rattle.std.specs.List.{AllByRecursion}
use Rattle.store_api.specs.Disk.{History, ImageAt, Leaves, back, now, reads, standing}
use Rattle.store_api.specs.Runs.{EachImage, Stands}
use Rattle.store_api.specs.Told.{StopsAs}
use Rattle.store_api.proofs.Pieces.{image_reads}
use Rattle.store_api.proofs.Runs.{goes_images}
use Rattle.contents.specs.Contents.{InImage}
use Rattle.contents.proofs.Segments.{Carries}
use Rattle.inventory.specs.Meaningful.{is_meaning}
use Rattle.inventory.specs.Meant.{meaning}
use Rattle.inventory_rows.specs.Fresh.{fresh}
use Rattle.inventory_rows.specs.State.{Inv}
use Rattle.inventory_rows.specs.declared.backup.Backup.{Backup}
use Rattle.inventory_rules.specs.Valid.{is_valid}
use Rattle.inventory_laws.proofs.Lists.{each_also}
use Rattle.inventory_laws.proofs.Origins.{contained_holds}
use Rattle.vault.specs.Files.{IsOurs}
use Rattle.vault.specs.Openings.{HadOne, Spared}
use Rattle.vault.specs.Recovery.{Recovers, RecoversWithin}
use Rattle.vault.proofs.Sounding.{within_recovers}
use Rattle.vault.proofs.Unique.{one_database}
use Rattle.hall.specs.Opening.{IsSound}
use Rattle.hall.specs.Protected.{AlwaysBacked, Backs, EachSequential, GivesBack, HadBackups, HasCopy, IsNoVolume, Taken, files_of}
use Rattle.hall.proofs.BackedUp.{Lies, both_sequential, each_lies}
use Rattle.hall.proofs.BackupsOpened.{gives_alike, gives_valid, had_fresh}
use Rattle.hall.proofs.BackupsStopped.{had_stopped}
use Rattle.hall.proofs.Protecting.{copy_carried}
use Rattle.hall.proofs.Sound.{gives_since, mixed, mixed_left, mixed_others, mixed_recovers, vault_sound}
use Rattle.hall.proofs.Stopped.{image_again, sound_again}
use Rattle.hall_turns.specs.Runs.{HasOwnBackups, IsBacked}

-- ---- images whose files of volumes and of backups are the same

module _ (image other : ℕ → List ℕ) (same : (n : ℕ) → 4 ≤ n → image n ≡ other n) where
  -- a valid database's copies in sequential pools stand in the other where they do in the one
  pub copies_alike : (contents : ℕ → List ℕ) (v : Inv) → is_valid v ≡ true → EachSequential (λ w c. HasCopy (InImage image) (contents w.object) w c) v → EachSequential (λ w c. HasCopy (InImage other) (contents w.object) w c) v
  copies_alike contents v valid each =
      both_sequential (λ w c. AllByRecursion (Lies v c.pool) c.segments) (λ w c. HasCopy (InImage image) (contents w.object) w c) (λ w c. HasCopy (InImage other) (contents w.object) w c) v
      (λ w c lies has. copy_carried (InImage image) (InImage other) (contents w.object) w c
      (each_also (Lies v c.pool) (Carries (InImage image) (InImage other)) c.segments (λ s l piece long f. subst (λ (bytes : List ℕ). Stands bytes s.offset piece) (same s.file l.from) f) lies) has)
      (each_lies v valid) each

  gives_back_alike : (v : Inv) (file : ℕ) (b : Backup) (t : Taken) → AllByRecursion (IsNoVolume v) (files_of file t.increments) → GivesBack image file b t → GivesBack other file b t
  gives_back_alike v file b t none back = record {
    gives = gives_alike image other file b.number t.increments t.database (λ n one. same n (contained_holds (IsNoVolume v) (files_of file t.increments) n one none).0) back.gives;
    row = back.row;
    copies = copies_alike t.contents t.database (gives_valid image file b.number t.increments t.database back.gives) back.copies;
  }

  -- what the one backs, the other does
  backs_alike : (v : Inv) → Backs image v → Backs other v
  backs_alike v backs = record {
    before = backs.before;
    each = λ file b p.
        let it = backs.each file b p in
        (it.0, gives_back_alike v file b it.0 it.2 it.1, it.2, it.3, it.4);
  }

-- ---- an image that recovers to a database to which one did at the start

module _ (h : History) (backed : AlwaysBacked (now h) h) where
  -- with files of volumes and of backups as one might have had them then
  pub backed_since : (image : ℕ → List ℕ) → HadOne meaning h image → ((file : ℕ) → 4 ≤ file → Leaves (standing h file) (image file)) → (v : Inv) → Recovers meaning image v → Backs image v
  backed_since image had others v is =
      let mix : ℕ → List ℕ = mixed had.start image in
      let there : ImageAt h (now h) mix = mixed_left had.start image h had.left others in
      let recovers : Recovers meaning mix had.database = within_recovers meaning mix had.database (mixed_recovers had.start image had.database had.same) in
      let same : had.database ≡ v = one_database meaning is_meaning image had.database v (within_recovers meaning image had.database had.recovers) is in
      let backs : Backs mix had.database = backed (now h) mix (omega arith) (omega arith) there had.database recovers in
      subst (Backs image) same (backs_alike mix image (λ n from. mixed_others had.start image n from) had.database backs)

-- so each image of each moment of an opening backs its own database
pub opened_backed : (contents : ℕ → List ℕ) (start mid : History) → IsSound contents start → Spared meaning start mid → IsBacked start → AlwaysBacked (now start) mid
opened_backed contents start mid sound spared backed moment image from to here =
    backed_since start backed image (spared.since (vault_sound contents start mid sound) moment image from to here)
    (λ file high. goes_images IsOurs start mid file (λ ours. let lt : file < 4 = ours in omega (arith, lt, high)) spared.goes moment image from to here)

-- ---- what a stop leaves

pub stopped_backed : (opened : ℕ) (h : History) (moment : ℕ) (after : History) → AlwaysBacked opened h → opened ≤ moment → moment ≤ now h → StopsAs (back h moment) after → IsBacked after × HasOwnBackups after
stopped_backed opened h moment after always from to stops = (
  λ later image since until here.
      let same : later ≡ now after = omega (arith, since, until) in
      always moment image from to (image_again h moment after stops image (subst (λ (n : ℕ). ImageAt after n image) same here)),
  λ v recovers. had_stopped opened h moment after v always from to stops recovers,
)

-- within an opening it leaves a sound store
pub stopped_sound_again : (contents : ℕ → List ℕ) (start mid : History) (moment : ℕ) (after : History) → IsSound contents start → Spared meaning start mid → now start ≤ moment → moment ≤ now mid → StopsAs (back mid moment) after → IsSound contents after
stopped_sound_again contents start mid moment after sound spared from to stops =
    sound_again mid moment after stops contents (λ image here. let it = gives_since contents start mid sound spared moment image from to here in (it.0, it.4))

-- ---- each image recovers to one database

had_backs : (h : History) (v : Inv) (image : ℕ → List ℕ) → HadBackups v (now h) h → ImageAt h (now h) image → Backs image v
had_backs h v image had here = record {
  before = had.before;
  each = λ file b p.
      let w = had.given file b p in
      (w.backup, record { gives = w.gives image here; row = w.row; copies = w.copies image here }, w.files, w.smaller, w.provided);
}

-- of which the store has the backups
pub one_backed : (h : History) (v : Inv) → HadBackups v (now h) h → ((image : ℕ → List ℕ) → ImageAt h (now h) image → Recovers meaning image v) → IsBacked h × HasOwnBackups h
one_backed h v had one = (
  λ moment image from to at w recovers.
      let same : moment ≡ now h = omega (arith, from, to) in
      let here : ImageAt h (now h) image = subst (λ (n : ℕ). ImageAt h n image) same at in
      subst (Backs image) (one_database meaning is_meaning image v w (one image here) recovers) (had_backs h v image had here),
  λ w recovers. subst (λ (u : Inv). HadBackups u (now h) h) (one_database meaning is_meaning (reads h) v w (one (reads h) (image_reads h)) recovers) had,
)

pub new_backed : (h : History) → EachImage (now h) h (λ files. RecoversWithin meaning files fresh) → IsBacked h × HasOwnBackups h
new_backed h new = one_backed h fresh (had_fresh h) (λ image here. within_recovers meaning image fresh (new (now h) image (omega arith) (omega arith) here))
