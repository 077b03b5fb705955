-- What a script's run says of images.
use Rattle.std.proofs.Common.{◌≡◌, ℕ, Option, None, Some, List, sym, subst}
use Rattle.std.specs.Prelude.{IfSome}
use Rattle.store_api.specs.Disk.{History, now}
use Rattle.store_api.specs.Runs.{GoesOn}
use Rattle.store_api.specs.Told.{Told}
use Rattle.store_api.proofs.Runs.{each_then}
use Rattle.block_results.specs.command_steps.Clients.{Client}
use Rattle.entries.specs.declared.entry.Entry.{Entry}
use Rattle.inventory.specs.Meant.{meaning}
use Rattle.inventory_rows.specs.State.{Inv}
use Rattle.script_loop.specs.declared.ends.End.{End}
use Rattle.vault.specs.Recovery.{Recovers}
use Rattle.hall.specs.Protected.{AlwaysBacked, Backs}
use Rattle.tsm_top.specs.declared.note.Note.{Note}
use Rattle.tsm_top.specs.Serve.{Command, Had, KeepsBacked, Opens, RanSafe, RanScript, SparesAll, Sure, Throughout, format, fresh_run, restore, run}

-- ---- from the start of a call on

-- a store was opened, and went on from there
all_along : (x y z : Option History) (base : Inv) (journal : List Entry) (opened : ℕ) → IfSome y (λ h. now h ≡ opened) → Told x y SparesAll → Told y z (GoesOn (λ file. Unit {0})) → ((contents : ℕ → List ℕ) → Sure run contents x → Had run x → IfSome z (KeepsBacked base journal opened))
    → Throughout run x z
all_along None y z base journal opened at spared goes keeps = λ contents sure had. absurd sure
all_along (Some a) None z base journal opened at spared goes keeps = absurd spared
all_along (Some a) (Some b) None base journal opened at spared goes keeps = absurd goes
all_along (Some a) (Some b) (Some c) base journal opened at spared goes keeps = λ contents sure had backed.
    each_then (λ file. Unit {0}) a b c (λ image. (v : Inv) → Recovers meaning image v → Backs image v) goes (spared.backups contents sure backed)
    (subst (λ (n : ℕ). AlwaysBacked n c) (sym at) (keeps contents sure had).always)

throughout : (command : Command) (x y z : Option History) (base : Inv) (journal : List Entry) (opened : ℕ) → IfSome y (λ h. now h ≡ opened) → Opens command x y → Told y z (GoesOn (λ file. Unit {0})) → ((contents : ℕ → List ℕ) → Sure command contents x → Had command x → IfSome z (KeepsBacked base journal opened))
    → Throughout command x z
throughout format x y z base journal opened at opens goes keeps = tt
throughout run x y z base journal opened at opens goes keeps = all_along x y z base journal opened at opens goes keeps
throughout fresh_run x y z base journal opened at opens goes keeps = tt
throughout (restore file day skipped) x y z base journal opened at opens goes keeps = tt

-- ---- a run

pub safe : (command : Command) (k : Client) (told left_told : Option History) (before after : ℕ → ℕ) (opened last : ℕ) (end : End) (status : ℕ) (journal : List Entry) (stamps : List ℕ) (notes : List Note) (base : Option Inv) (generation : ℕ) (script left was is : Option (List ℕ))
    → (opening : Option History) → IfSome opening (λ h. now h ≡ opened) → Opens command told opening → Told opening left_told (GoesOn (λ file. Unit {0}))
    → RanScript command k told left_told before after opened last end status journal stamps notes base generation script left was is → RanSafe command told left_told opened journal stamps base
safe command k told left_told before after opened last end status journal stamps notes base generation script left was is opening at opens goes ran = record {
  database = ran.database;
  base_is = ran.base_is;
  safe = λ contents known.
      let over = (ran.sound contents known).3 in
      (over.final, over.base_stays, sym over.journal_is, sym over.stamps_are, over.images tt, over.left tt);
  backups = ran.backups;
  throughout = throughout command told opening left_told ran.database journal opened at opens goes ran.backups;
}
