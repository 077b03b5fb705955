-- What one line of a script comes to, by itself.
use Rattle.std.specs.Prelude.{◌≡◌, ℕ, Option, IfSome, List, Result, Ok, Err}
use Rattle.store_api.specs.Disk.{History}
use Rattle.store_api.specs.Runs.{GoesOn}
use Rattle.store_api.specs.Told.{Told}
use Rattle.client_trees.specs.Files.{Files}
use Rattle.script_loop.specs.Reply.{Answer}
use Rattle.script_loop.specs.declared.ends.Halt.{Halt}
use Rattle.machine.specs.State.{Machine}
use Rattle.hall.specs.Good.{AlwaysSafe, Is}
use Rattle.hall.specs.Held.{Hall}
use Rattle.hall.specs.Steps.{IsTrusted}
use Rattle.hall_turns.specs.Left.{LeavesSound}
use Rattle.block_results.specs.command_steps.Clients.{all_seen}
use Rattle.block_results.specs.line_results.Resting.{IsAtRest, Onward}
use Rattle.tsm_top.specs.Sites.{RepliesAt, Site, StopsAt, site}
use Rattle.tsm_top.specs.declared.session.Session.{Session}

module _ {S : Type 0} (told : S → Option History) (moment : S → ℕ) (faults : S → ℕ → ℕ) where
  -- The session's hall is in this state of the machine, and nothing is in progress there.
  pub record RestsAs {T : Type 0} (s : Session S T) (m : Machine) : Type 0 where
    pub is : Is told moment faults s.hall m
    pub rests : IsAtRest m.core

  -- The hall behind a line is in this state, which comes no earlier than the one before it. Where the store is trusted it is so still, each image of each moment since the hall was opened is safe, and what is left is
  -- a sound store with every transaction that has a stamp.
  pub record GoesTo (trusted : Type 0) (old new : Hall S) (m next : Machine) : Type 0 where
    pub is : Is told moment faults new next
    pub onward : Onward m next
    pub base : next.core.base ≡ m.core.base
    pub goes : Told (told old.store) (told new.store) (GoesOn (λ file. Unit {0}))
    pub known : trusted → IsTrusted (told new.store) new.held
    pub images : trusted → IfSome (told new.store) (AlwaysSafe next.contents next.core new.held.opened)
    pub left : trusted → IfSome (told new.store) (LeavesSound next)

  module _ {T : Type 0} (files : T → Option Files) (tree_faults : T → ℕ) where
    -- the session's state of the machine, with its trees and its notes
    abbrev pub site_of : Session S T → Machine → Site
    site_of s m = site m (all_seen files tree_faults s.trees.items) s.notes.items

    -- The line was answered so: the line's case, with all that holds of an answered line (`RepliesAt`); and the hall is at rest again.
    pub record Answered (trusted : Type 0) (old : Session S T) (n : ℕ) (line : List ℕ) (answer : Answer) (new : Session S T) (m : Machine) : Type 0 where
      pub next : Machine
      pub replies : RepliesAt trusted old.binder (told new.hall.store) (site_of old m) n line answer (site_of new next)
      pub rests : IsAtRest next.core
      pub leaves : GoesTo trusted old.hall new.hall m next

    -- or it ended the run so (`StopsAt`)
    pub record Halted (trusted : Type 0) (old : Session S T) (n : ℕ) (line : List ℕ) (how : Halt) (new : Session S T) (m : Machine) : Type 0 where
      pub next : Machine
      pub stops : StopsAt trusted old.binder (told new.hall.store) (site_of old m) n line how (site_of new next)
      pub leaves : GoesTo trusted old.hall new.hall m next

    -- What a line comes to whose call answered so, on a hall in this state.
    abbrev pub ComesTo : (trusted : Type 0) → (old : Session S T) → (n : ℕ) → List ℕ → Result Answer Halt → (new : Session S T) → Machine → Type 0
    ComesTo trusted old n line (Ok answer) new m = Answered trusted old n line answer new m
    ComesTo trusted old n line (Err how) new m = Halted trusted old n line how new m
