-- What a stop left of files whose images of that moment each gave back a database: a store over which a hall may be opened.
use Rattle.std.proofs.Common.{◌≡◌, ℕ, ◌≤◌, List, length, subst, ◌∙◌, arith}
use Rattle.store_api.specs.Disk.{History, ImageAt, Leaves, Standing, back, now, reads, settled, standing}
use Rattle.store_api.specs.Told.{StopsAs}
use Rattle.store_api.proofs.Images.{stop_image, stop_settled}
use Rattle.store_api.proofs.Runs.{back_now, now_image}
use Rattle.store_api.proofs.Standings.{leaves_settled}
use Rattle.contents.specs.Contents.{Holds}
use Rattle.inventory.specs.Meaningful.{is_meaning}
use Rattle.inventory.specs.Meant.{meaning}
use Rattle.inventory_rows.specs.State.{Inv}
use Rattle.vault.specs.Recovery.{Recovers, RecoversWithin}
use Rattle.vault.proofs.Resting.{one_at_rest}
use Rattle.vault.proofs.Sounding.{within_recovers}
use Rattle.vault.proofs.Unique.{one_database}
use Rattle.hall.specs.Opening.{GivesBack, IsSound}

-- what may stand behind files that are on the disk might have been left at once
leaves_again : (file : Standing) (mid left : List ℕ) → Leaves file mid → Leaves (settled mid) left → Leaves file left
unfolding settled
leaves_again file mid left first second = record {
  long = (let one : file.stable ≤ length mid = first.long in let two : length mid ≤ length left = second.long in omega (arith, one, two));
  same = λ place below firm. leaves_settled mid left second place (let one : file.stable ≤ length mid = first.long in omega (arith, one, below)) ∙ first.same place below firm;
}

-- an image of the files as they were at a moment is one of that moment
back_image : (h : History) (moment : ℕ) (image : ℕ → List ℕ) → ImageAt (back h moment) (now (back h moment)) image → ImageAt h moment image
back_image h moment image is file = subst (λ (g : History). Leaves (standing g file) (image file)) (back_now (back h moment)) (is file)

module _ (h : History) (moment : ℕ) (after : History) (stops : StopsAs (back h moment) after) where
  pub on_disk : (file : ℕ) → standing after file ≡ settled (reads after file)
  on_disk file = stop_settled (back h moment) after file stops

  pub own_image : ImageAt h moment (reads after)
  own_image = back_image h moment (reads after) (stop_image (back h moment) after stops)

  pub image_again : (image : ℕ → List ℕ) → ImageAt after (now after) image → ImageAt h moment image
  image_again image here file =
      leaves_again (standing (back h moment) file) (reads after file) (image file) (own_image file) (subst (λ (s : Standing). Leaves s (image file)) (on_disk file) (now_image after image here file))

  module _ (contents : ℕ → List ℕ) (gives : (image : ℕ → List ℕ) → ImageAt h moment image → (v : Inv) × GivesBack contents image v) where
    each_back : (image : ℕ → List ℕ) → ImageAt after (now after) image → (v : Inv) × GivesBack contents image v
    each_back image here = gives image (image_again image here)

    each_sound : (image : ℕ → List ℕ) → ImageAt after (now after) image → (v : Inv) × RecoversWithin meaning image v
    each_sound image here = let it = each_back image here in (it.0, it.1.0)

    -- each image recovers to what the files do
    one_back : (v : Inv) → Recovers meaning (reads after) v → (image : ℕ → List ℕ) → ImageAt after (now after) image → Holds contents image v
    one_back v is image here =
        let it = each_back image here in
        let same : it.0 ≡ v = one_database meaning is_meaning image it.0 v (within_recovers meaning image it.0 it.1.0)
        (within_recovers meaning image v (one_at_rest meaning is_meaning after (λ file ours. on_disk file) each_sound v image is here)) in
        subst (λ (w : Inv). Holds contents image w) same it.1.1

    pub sound_again : IsSound contents after
    sound_again = record { each = each_back; read = one_back }
