-- A step on an image is refused for a fault of writing only where a call failed.
use Rattle.std.proofs.Common.{◌≡◌, ◌+◌, ◌^◌, ℕ, Bool, true, false, List, [], ◌∷◌, ◌++◌, is_some, Option, None, Some, Result, refl}
use Rattle.std.specs.List.{AllByRecursion}
use Rattle.kinds.specs.Refusals.{bad_value, foremost, unless}
use Rattle.kinds.specs.declared.refusal.Refusal.{Refusal}
use Rattle.kinds.specs.declared.refusal.Refusal.TheVariants as refused
use Rattle.entries.specs.declared.change.Change.TheVariants as change
use Rattle.inventory_rows.specs.State.{Inv}
use Rattle.inventory_rules.specs.Backups.{after_refused}
use Rattle.inventory_rules.specs.Common.{file_bound, files_refused, full_at}
use Rattle.inventory_rules.specs.Transactions as rules
use Rattle.inventory_rules.specs.Transactions.{causes, sizes_refused, then_valid}
use Rattle.steps.specs.declared.image.ImageKind.{ImageKind}
use Rattle.steps.specs.declared.image.ImageKind.TheVariants as image
use Rattle.steps.specs.declared.image.ImageReply.{ImageReply}
use Rattle.steps.specs.Events.Deed.{Image}
use Rattle.machine.proofs.Elsewhere.{append-all, foremost-all, unless-all}
use Rattle.machine.specs.Causes.{change_illegal, image_refused, listed, since_refused}
use Rattle.machine.specs.Fits.{is_write_fault}
use Rattle.machine.specs.Machine.{in_progress}
use Rattle.machine.specs.State.{Core, Image as Picture, Sight}
use Rattle.block_results.specs.Refusing.{bounds, held_reasons}

abbrev IsMild : Refusal → Type 0
IsMild e = is_write_fault e ≡ false

abbrev AreMild : List Refusal → Type 0
AreMild causes = AllByRecursion IsMild causes

mild-after : (after : Option ℕ) (v : Inv) → AreMild (after_refused after v)
mild-after None v = tt
mild-after (Some file) v = unless-all IsMild _ refused.NotFound refl

mild-then : (o : Option Refusal) (valid : Bool) → ((e : Refusal) → o ≡ Some e → IsMild e) → AreMild (listed (then_valid o valid))
mild-then (Some e) valid h = (h e refl, tt)
mild-then None true h = tt
mild-then None false h = (refl, tt)

-- the beginning of a backup of the database
mild-begins : (file : ℕ) (after : Option ℕ) (s : Sight) → AreMild (change_illegal (change.DbBegin file after) s)
unfolding rules.refused
mild-begins file after s =
    mild-then (foremost (causes s.journal (change.DbBegin file after) s.inventory ++ sizes_refused (change.DbBegin file after) s.inventory)) _
    (λ e is.
    foremost-all IsMild (causes s.journal (change.DbBegin file after) s.inventory ++ sizes_refused (change.DbBegin file after) s.inventory)
    (append-all IsMild (causes s.journal (change.DbBegin file after) s.inventory) (sizes_refused (change.DbBegin file after) s.inventory)
    (append-all IsMild (after_refused after s.inventory) (files_refused (file ∷ []) s.inventory ++ file_bound file s.inventory) (mild-after after s.inventory)
    (append-all IsMild (files_refused (file ∷ []) s.inventory) (file_bound file s.inventory) (unless-all IsMild _ bad_value refl) (unless-all IsMild _ refused.InventoryFull refl)))
    (append-all IsMild (unless _ refused.InventoryFull) (full_at s.inventory.number (2 ^ 62)) (unless-all IsMild _ refused.InventoryFull refl) (unless-all IsMild _ refused.InventoryFull refl))) e is)

mild-image : (kind : ImageKind) (s : Sight) → AreMild (image_refused kind s)
mild-image image.Checkpoint s = tt
mild-image image.Backup s = mild-begins s.next_file None s
mild-image (image.Since after) s =
    append-all IsMild (since_refused after s) (change_illegal (change.DbBegin s.next_file (Some after)) s)
    (append-all IsMild (unless _ refused.NotFound) (unless _ refused.InventoryFull) (unless-all IsMild _ refused.NotFound refl) (unless-all IsMild _ refused.InventoryFull refl)) (mild-begins s.next_file (Some after) s)
mild-image image.Next s = unless-all IsMild (is_some s.image) refused.NotFound refl

mild-progress : (i : Option Picture) → AreMild (in_progress i)
mild-progress None = tt
mild-progress (Some i) = (refl, tt)

mild-held : (actor : ℕ) (kind : ImageKind) (answer : Result ImageReply Refusal) (c : Core) → AreMild (held_reasons actor (Image kind answer) c)
mild-held actor image.Checkpoint answer c = mild-progress c.image
mild-held actor image.Backup answer c = mild-progress c.image
mild-held actor (image.Since after) answer c = mild-progress c.image
mild-held actor image.Next answer c = tt

mild-bounds : (kind : ImageKind) (answer : Result ImageReply Refusal) (c : Core) → AreMild (bounds (Image kind answer) c)
mild-bounds image.Checkpoint answer c = unless-all IsMild _ refused.InventoryFull refl
mild-bounds image.Backup answer c = tt
mild-bounds (image.Since after) answer c = tt
mild-bounds image.Next answer c = tt

-- none of the reasons that its actor sees is one, nor of those by which others hold what it needs, nor of bounds
pub own-mild : (actor : ℕ) (kind : ImageKind) (s : Sight) (file : ℕ) → foremost (image_refused kind s) ≡ Some (refused.WriteFault file) → ⊥
own-mild actor kind s file h = (let odd : is_write_fault (refused.WriteFault file) ≡ false = foremost-all IsMild (image_refused kind s) (mild-image kind s) (refused.WriteFault file) h in absurd cc)

pub held-mild : (actor : ℕ) (kind : ImageKind) (answer : Result ImageReply Refusal) (c : Core) (file : ℕ) → foremost (held_reasons actor (Image kind answer) c) ≡ Some (refused.WriteFault file) → ⊥
held-mild actor kind answer c file h =
    (let odd : is_write_fault (refused.WriteFault file) ≡ false = foremost-all IsMild (held_reasons actor (Image kind answer) c) (mild-held actor kind answer c) (refused.WriteFault file) h in absurd cc)

pub bounds-mild : (kind : ImageKind) (answer : Result ImageReply Refusal) (c : Core) (file : ℕ) → foremost (bounds (Image kind answer) c) ≡ Some (refused.WriteFault file) → ⊥
bounds-mild kind answer c file h = (let odd : is_write_fault (refused.WriteFault file) ≡ false = foremost-all IsMild (bounds (Image kind answer) c) (mild-bounds kind answer c) (refused.WriteFault file) h in absurd cc)
