-- What the calls within a store in a folder keep true.
use Rattle.std.specs.Prelude.{◌≡◌, ℕ, IsTrue, true, false, Option, Result}
use Rattle.store_api.specs.Disk.{Standing, Call}
use Rattle.files_api.specs.Folder.{Folder, Label}
use Rattle.real_edge.specs.Ledger.{Faults, is_lost}
use Rattle.real_edge.specs.Names.{file_label}
use Rattle.real_edge.specs.Holds.{Desk, Holds, After, Got, after_call}
use Rattle.real_edge.specs.declared.folder.Folder.{Folder as Run}

abbrev pub desk_of : {F H : Type 0} → Run F H → Desk H
desk_of run = record { pool = run.pool; changed = run.changed.keys; is_synced = run.is_synced }

-- what was kept true is still, of the same files of the store
abbrev pub Keeps : {F H : Type 0} → (H → Label) → Run F H → Faults → Run F H → Faults → Folder → Folder → Type 0
Keeps label_of run faults run' faults' old new = (seen : ℕ → Standing) → Holds label_of true (desk_of run) faults old seen → Holds label_of true (desk_of run') faults' new seen

-- the run enters the folder, or no file is used
abbrev pub Enters : {F H T E : Type 0} → (H → Label) → Result T E → Run F H → Run F H → Folder → Folder → Type 0
Enters label_of result run run' old new = (faults : Faults) (seen : ℕ → Standing) → Holds label_of false (desk_of run) faults old seen →
    After result (λ after. IsTrue after.all_lost) faults (λ after. Holds label_of true (desk_of run') after new seen)

-- The changes of an open file become durable. Where that fails the file is lost.
abbrev pub SyncsChanged : {F H T E : Type 0} → (H → Label) → ℕ → H → Result T E → Run F H → Run F H → Folder → Folder → Type 0
SyncsChanged label_of file handle result run run' old new = (faults : Faults) (seen : ℕ → Standing) → ¬ IsTrue (is_lost faults file) → label_of handle ≡ file_label file →
    Holds label_of true (desk_of run) faults old seen → After result (λ after. IsTrue (is_lost after file)) faults (λ after. Holds label_of true (desk_of run') after new seen)

-- The names become durable. Where that fails no file is used any more.
abbrev pub SyncsAllNames : {F H T E : Type 0} → (H → Label) → Result T E → Run F H → Run F H → Folder → Folder → Type 0
SyncsAllNames label_of result run run' old new = (faults : Faults) (seen : ℕ → Standing) → ¬ IsTrue faults.all_lost →
    Holds label_of true (desk_of run) faults old seen → After result (λ after. IsTrue after.all_lost) faults (λ after. Holds label_of true (desk_of run') after new seen)

-- a file was looked for by its number, and perhaps made
pub record Reached {F H E : Type 0} (label_of : H → Label) (file : ℕ) (result : Result (Option H) E) (run : Run F H) (faults : Faults) (new : Folder) (seen : ℕ → Standing) : Type 0 where
  pub holds : Holds label_of true (desk_of run) faults new seen
  pub got : Got label_of file result new

-- the same as a call of the store does it, which may close another file before
abbrev pub LooksFor : {F H E : Type 0} → (H → Label) → ℕ → Result (Option H) E → Run F H → Faults → Run F H → Faults → Folder → Folder → Type 0
LooksFor label_of file result run faults run' faults' old new = (seen : ℕ → Standing) → Holds label_of true (desk_of run) faults old seen → Reached label_of file result run' faults' new seen

-- A call of the store that changes a file ended so. `may` says which calls it may have been.
pub record Ends {F H : Type 0} (label_of : H → Label) (call : Call) (may : Call → Type 0) (run : Run F H) (faults : Faults) (new : Folder) (seen : ℕ → Standing) : Type 0 where
  pub holds : Holds label_of true (desk_of run) faults new (after_call call seen)
  pub is_one : may call
