-- A store that a stop has left has the backups of the database to which it recovers.
use Rattle.std.proofs.Common.{◌≡◌, ℕ, ◌+◌, ◌<◌, ◌≤◌, ◌^◌, List, [], ◌∷◌, sym, subst}
use Rattle.std.specs.List.{AllByRecursion}
use Rattle.store_api.specs.Disk.{History, ImageAt, Leaves, back, now, reads, settled, standing}
use Rattle.store_api.specs.Runs.{Firm, Stands}
use Rattle.store_api.specs.Told.{StopsAs}
use Rattle.store_api.proofs.Runs.{now_image}
use Rattle.store_api.proofs.Standings.{firm_settled, leaves_firm}
use Rattle.kinds.specs.declared.segment.Segment.{Segment}
use Rattle.contents.specs.Contents.{InImage}
use Rattle.contents.proofs.Segments.{Carries}
use Rattle.backup_payloads.specs.Increments.{Increment}
use Rattle.backup_payloads.specs.declared.payload.Payload.{Payload}
use Rattle.db_chains.specs.Chains.{Gives, IsBackup}
use Rattle.db_image.specs.Images.{image_bytes}
use Rattle.db_image.specs.declared.mark.Mark.TheVariants.{Backup as OfBackup}
use Rattle.db_image.proofs.One.{image_settled, stands_image}
use Rattle.inventory.specs.Meant.{meaning}
use Rattle.inventory_rows.specs.declared.backup.Backup.{Backup}
use Rattle.inventory_rows.specs.State.{Inv}
use Rattle.inventory_laws.proofs.Lists.{each_any}
use Rattle.vault.specs.Recovery.{Recovers}
use Rattle.hall.specs.Protected.{AlwaysBacked, Backs, HadBackups, HasCopy, IsProtected, Taken, WasGiven}
use Rattle.hall.proofs.BackedUp.{also_sequential}
use Rattle.hall.proofs.Protecting.{copy_carried}
use Rattle.hall.proofs.Stopped.{on_disk, own_image}

module _ (h : History) (is_settled : (file : ℕ) → standing h file ≡ settled (reads h file)) (image : ℕ → List ℕ) (here : ImageAt h (now h) image) where
  -- what stands in a file that is on the disk stands in each image
  still_stands : (file at : ℕ) (piece : List ℕ) → Stands (reads h file) at piece → Stands (image file) at piece
  still_stands file at piece s = leaves_firm (standing h file) (image file) at piece (now_image h image here file) (subst (λ f. Firm f at piece) (sym (is_settled file)) (firm_settled (reads h file) at piece s))

  still_backup : (file number : ℕ) (held : Payload Inv) → IsBackup meaning (reads h) file number held → IsBackup meaning image file number held
  still_backup file number held b =
      let firm : Firm (standing h file) 0 (image_bytes OfBackup number b.payload) = subst (λ f. Firm f 0 (image_bytes OfBackup number b.payload)) (sym (is_settled file)) (image_settled file number OfBackup (reads h file) b.payload b.image) in
      record {
        payload = b.payload;
        possible = b.possible;
        image = stands_image file number OfBackup (image file) b.payload b.image.allowed (λ rest no. no) b.image.small (leaves_firm (standing h file) (image file) 0 (image_bytes OfBackup number b.payload) (now_image h image here file) firm);
        holds = b.holds;
        numbered = b.numbered;
      }

  still_gives : (file number : ℕ) (increments : List Increment) (v : Inv) → Gives meaning (reads h) file number increments v → Gives meaning image file number increments v
  still_gives file number [] v b = still_backup file number _ b
  still_gives file number (i ∷ older) v (b, below, (base, gives, makes)) = (still_backup file number _ b, below, (base, still_gives i.after i.number older base gives, makes))

-- one of which all is on the disk, and that backs a database as it reads
had_settled : (h : History) (v : Inv) → ((file : ℕ) → standing h file ≡ settled (reads h file)) → Backs (reads h) v → HadBackups v (now h) h
had_settled h v is_settled backs = record { before = backs.before; given = of_one } where
  of_one : (file : ℕ) (b : Backup) → IsProtected v file b → WasGiven v (now h) h file b
  of_one file b p =
      let g = backs.each file b p in
      let t : Taken = g.0 in
      record {
        backup = t;
        row = g.1.row;
        files = g.2;
        smaller = g.3;
        provided = g.4;
        gives = λ image here. still_gives h is_settled image here file b.number t.increments t.database g.1.gives;
        copies = λ image here.
            also_sequential (λ w r. HasCopy (InImage (reads h)) (t.contents w.object) w r) (λ w r. HasCopy (InImage image) (t.contents w.object) w r) t.database
            (λ w r has. copy_carried (InImage (reads h)) (InImage image) (t.contents w.object) w r
            (each_any (Carries (InImage (reads h)) (InImage image)) r.segments (λ s piece long f. still_stands h is_settled image here s.file s.offset piece f)) has) g.1.copies;
      }

-- what a stop leaves at one of the moments at which each image backs its own database
pub had_stopped : (opened : ℕ) (h : History) (moment : ℕ) (after : History) (v : Inv) → AlwaysBacked opened h → opened ≤ moment → moment ≤ now h → StopsAs (back h moment) after → Recovers meaning (reads after) v
    → HadBackups v (now after) after
had_stopped opened h moment after v always from to stops recovers = had_settled after v (on_disk h moment after stops) (always moment (reads after) from to (own_image h moment after stops) v recovers)
