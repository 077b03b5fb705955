-- What a line does to a session: its hall, its clients' trees and its notes.
use Rattle.std.specs.Prelude.{◌≡◌, ◌≤◌, ◌^◌, ℕ, Option, List, length, Ok, Err}
use Rattle.store_api.specs.Disk.{History}
use Rattle.kinds.specs.declared.refusal.Refusal.{Refusal}
use Rattle.client_trees.specs.Files.{Files}
use Rattle.script_loop.specs.Reply.{Answer}
use Rattle.script_loop.specs.declared.ends.Halt.{Halt}
use Rattle.hall.specs.Held.{Hall}
use Rattle.hall_turns.specs.Runs.{CameTo}
use Rattle.block_results.specs.command_steps.Answering.{AnswersLine}
use Rattle.block_results.specs.command_steps.Clients.{Client, client}
use Rattle.block_results.specs.command_steps.Lines.{line_of}
use Rattle.tsm_top.specs.Notes.{note_of, with_note}
use Rattle.tsm_top.specs.declared.session.Session.{Session}

-- the number of the last transaction
abbrev pub number_of : {S : Type 0} → Hall S → ℕ
number_of hall = hall.held.vault.database.number

-- there is a buffer for pieces
pub record can_serve {S T : Type 0} (s : Session S T) : Type 0 where
  pub some : 1 ≤ length s.buffer.items
  pub few : length s.buffer.items ≤ 2 ^ 16

-- the include-exclude list, and the trees of the one session and of the other
abbrev pub clients : {S T : Type 0} → (files : T → Option Files) → (tree_faults : T → ℕ) → (old new : Session S T) → Client
clients files tree_faults old new = client files tree_faults old.binder old.trees.items new.trees.items

module _ {S T : Type 0} (told : S → Option History) (moment : S → ℕ) (faults : S → ℕ → ℕ) (files : T → Option Files) (tree_faults : T → ℕ) where
  -- The line with this number was answered so, by steps of actor 0 who had the hall alone and by calls on the tree that it names, and what is noted of it joins the notes.
  abbrev pub ServesLine : Session S T → (n : ℕ) → List ℕ → Answer → Session S T → Type 0
  ServesLine old n line answer new =
      (why : Option Refusal) × CameTo told moment faults 0 (λ events. AnswersLine (clients files tree_faults old new) n (line_of line) events (Ok (answer, why))) old.hall new.hall × (new.binder ≡ old.binder)
      × (new.notes.items ≡ with_note (line_of line) (note_of n old.hall.held.base.number (number_of old.hall) (number_of new.hall) why) old.notes.items)

  -- or it ended the run so; of such a line nothing is noted
  abbrev pub HaltsLine : Session S T → (n : ℕ) → List ℕ → Halt → Session S T → Type 0
  HaltsLine old n line how new =
      CameTo told moment faults 0 (λ events. AnswersLine (clients files tree_faults old new) n (line_of line) events (Err how)) old.hall new.hall × (new.binder ≡ old.binder) × (new.notes.items ≡ old.notes.items)
