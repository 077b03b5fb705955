-- What stops leave of a store over which a hall ran is a store over which one may be opened, and so is what stops leave while that is done.
use Rattle.std.proofs.Common.{◌≡◌, ℕ, ◌≤◌, List, subst, arith}
use Rattle.store_api.specs.Disk.{History, ImageAt, back, now, reads}
use Rattle.store_api.specs.Runs.{EachImage}
use Rattle.store_api.specs.Told.{StopsAs}
use Rattle.store_api.proofs.Pieces.{image_reads}
use Rattle.contents.specs.Contents.{Holds}
use Rattle.inventory.specs.Meaningful.{is_meaning}
use Rattle.inventory.specs.Meant.{meaning}
use Rattle.inventory_rows.specs.Fresh.{fresh}
use Rattle.inventory_rows.specs.State.{Inv}
use Rattle.log_file.specs.Safety.{acknowledged}
use Rattle.vault.specs.Openings.{Spared}
use Rattle.vault.specs.Recovery.{RecoversWithin}
use Rattle.vault.proofs.Resting.{one_at_rest}
use Rattle.vault.proofs.Sounding.{within_recovers}
use Rattle.vault.proofs.Unique.{one_database}
use Rattle.machine.specs.State.{Machine}
use Rattle.hall.specs.Covered.{inv_at}
use Rattle.hall.specs.Good.{AlwaysSafe}
use Rattle.hall.specs.Opening.{GaveBack, IsSound}
use Rattle.hall.proofs.Sound.{gives_since}
use Rattle.hall.proofs.Stopped.{on_disk, own_image, sound_again}
use Rattle.hall_turns.specs.Left.{HasFirst, IsOnDisk}

pub stopped_sound : (m : Machine) (opened : ℕ) (h : History) (moment : ℕ) (after : History) → AlwaysSafe m.contents m.core opened h → opened ≤ moment → moment ≤ now h → StopsAs (back h moment) after
    → IsOnDisk after × HasFirst m (acknowledged moment m.core.stamps) after
stopped_sound m opened h moment after always from to stops =
    let own = always moment (reads after) from to (own_image h moment after stops) in (
      on_disk h moment after stops,
      record {
        last = own.last;
        durable = own.durable;
        made = own.made;
        recovers = within_recovers meaning (reads after) (inv_at own.last m.core) own.recovers;
        sound = sound_again h moment after stops m.contents (λ image here. let it = always moment image from to here in (inv_at it.last m.core, (it.recovers, it.holds)));
      },
    )

module _ (m : Machine) (count : ℕ) (start mid : History) (rests : IsOnDisk start) (has : HasFirst m count start) (spared : Spared meaning start mid) where
  since : EachImage (now start) mid (GaveBack m.contents start)
  since = gives_since m.contents start mid has.sound spared

  abbrev database : Inv
  database = inv_at has.last m.core

  -- each image since recovers to what the files did
  as_before : (image : ℕ → List ℕ) → GaveBack m.contents start image → RecoversWithin meaning image database
  as_before image had =
      let there : RecoversWithin meaning had.1 database =
      one_at_rest meaning is_meaning start (λ file ours. rests file) (λ files here. let it = has.sound.each files here in (it.0, it.1.0)) database had.1 has.recovers had.2 in
      let same : had.0 ≡ database = one_database meaning is_meaning had.1 had.0 database (within_recovers meaning had.1 had.0 had.3.0) (within_recovers meaning had.1 database there) in
      subst (λ (v : Inv). RecoversWithin meaning image v) same had.4.0

  pub opened_sound : (second : ℕ) (after : History) → now start ≤ second → second ≤ now mid → StopsAs (back mid second) after → IsOnDisk after × HasFirst m count after
  opened_sound second after from to stops = (
    on_disk mid second after stops,
    record {
      last = has.last;
      durable = has.durable;
      made = has.made;
      recovers = within_recovers meaning (reads after) database (as_before (reads after) (since second (reads after) from to (own_image mid second after stops)));
      sound = sound_again mid second after stops m.contents (λ image here. let it = since second image from to here in (it.0, it.4));
    },
  )

-- a new server's database has no object, so whatever bytes these are to have, they have them
no_copies : (contents image : ℕ → List ℕ) → Holds contents image fresh
no_copies contents image = tt

pub new_sound : (contents : ℕ → List ℕ) (h : History) → EachImage (now h) h (λ files. RecoversWithin meaning files fresh) → IsSound contents h
new_sound contents h new = record {
  each = λ image here. (fresh, (new (now h) image (omega arith) (omega arith) here, no_copies contents image));
  read = λ v is image here.
      subst (λ (w : Inv). Holds contents image w) (one_database meaning is_meaning (reads h) fresh v (within_recovers meaning (reads h) fresh (new (now h) (reads h) (omega arith) (omega arith) (image_reads h))) is)
      (no_copies contents image);
}
