-- A process that makes further copies of objects, or moves copies, and that has room for these and can read them, where one actor has the machine alone: no object fails.
use Rattle.std.proofs.Common.{◌≡◌, inl, inr, ℕ, ◌≤◌, Bool, true, false, if◌then◌else◌, List, [], ◌∷◌, ◌++◌, length, Some, Result, Ok, Err, refl, sym, ap, subst, ◌∙◌, append_assoc, arith}
use Rattle.std.specs.List.{AllByRecursion, filter}
use Rattle.kinds.specs.declared.refusal.Refusal.{Refusal}
use Rattle.choosers.specs.declared.rule.Rule.{Rule}
use Rattle.entries.specs.declared.change.Change.{Change}
use Rattle.command_steps.specs.copy_runs.Runs.{failing_in, is_failing}
use Rattle.command_steps.specs.copy_runs.declared.wanted.Moved.{Moved}
use Rattle.command_steps.specs.migration.Migrating.{IsMigration}
use Rattle.command_steps.specs.migration.Sweeping.{IsSweep}
use Rattle.command_steps.specs.pool_restores.Restoring.{IsRestore}
use Rattle.command_steps.specs.pool_restores.Volumes.{IsVolumeRestore}
use Rattle.command_steps.specs.reclamation.Moving.{IsMoving}
use Rattle.command_steps.specs.reclamation.Reclaiming.{IsReclaiming}
use Rattle.steps.specs.declared.asked.Asked.{Asked}
use Rattle.steps.specs.Events.{Deed, Event, event}
use Rattle.steps.specs.Events.Deed.{Ask, Commit, CopyPiece, DropTicket, Force, OpenCopy, Seal}
use Rattle.machine.specs.Alone.{Alone}
use Rattle.machine.specs.Machine.{Case, Places, asked_change}
use Rattle.machine.specs.Pieces.{RoseAt}
use Rattle.machine.specs.State.{Machine}
use Rattle.command_steps.specs.Answers.{failed_in}
use Rattle.command_steps.specs.Doing.{DoesAlone, MovesSo, moved_line, the_number, the_second}
use Rattle.command_steps.specs.Owns.{Mover, Own, all_migrator, back_up_pool, data_mover, migrator, moves, pool_restorer, reclaimer, volume_restorer}
use Rattle.command_steps.specs.declared.outcome.Outcome.{Outcome}
use Rattle.command_steps.specs.declared.outcome.Outcome.TheVariants as came
use Rattle.line_results.specs.Commands.{IsLoss, IsStill}
use Rattle.line_results.specs.Copied.{ComesTo, HasRoomForCopies}
use Rattle.line_results.specs.Resting.{Onward, RoseFrom}
use Rattle.line_results.proofs.Copying.{AllCopy, Copies, has-tickets}
use Rattle.line_results.proofs.Harmless.{IsGentle, ask-harmless, commit-harmless, drop-harmless, force-harmless, joined-gentle, loss-gentle, open-harmless, piece-harmless, seal-harmless}
use Rattle.line_results.proofs.Processed.{NoOther, all-copies, backup-copies, data-moves, migration-moves, reclaim-moves, restore-moves, sweep-moves, volume-moves}
use Rattle.line_results.proofs.Runs.{alone-append, alone-onward, onward-later, onward-then, rose-from, rose-on}
use Rattle.line_results.proofs.Spent.{ticket-step}

-- ---- counts

-- none of these steps was refused as that of an object that can't be copied
abbrev pub NoneFailing : List Event → Type 0
NoneFailing events = AllByRecursion (λ e. is_failing e.deed ≡ false) events

pub none-counted : (events : List Event) → NoneFailing events → failing_in events ≡ 0
none-counted [] h = refl
none-counted (e ∷ events) h =
    ap (λ b. length (if b then e ∷ filter (λ x. is_failing x.deed) events else filter (λ x. is_failing x.deed) events)) h.0 ∙ none-counted events h.1

no-more : (failed failing : ℕ) → failed ≤ failing → failing ≡ 0 → failed ≡ 0
no-more failed failing low none = omega (arith, low, none)

-- ---- steps

module _ (trusted : Type 0) (places : Places) (choice : List Rule) (numbers : List ℕ) (own : Own) (result : Outcome) (old start new : Machine) (whole : List Event) (room : HasRoomForCopies trusted places choice numbers own old)
    (still : IsStill old start) (order : DoesAlone choice own numbers whole (Ok result)) (sound : (file : ℕ) → RoseFrom old new file → ⊥) (moving : Bool) (P : Change → Type 0) (gentle : (c : Change) → P c → IsGentle c) where
  module _ (first later : List Event) (n : ℕ) (m next : Machine) (made : Alone trusted places 0 first start m) (on : Onward m new) (more : Onward next new) where
    comes : (d : Deed) → whole ≡ first ++ event n d ∷ later → ComesTo trusted places choice numbers own d old m
    comes d cut = record {
      start = start;
      first = first;
      number = n;
      later = later;
      result = result;
      order = subst (λ (l : List Event). DoesAlone choice own numbers l (Ok result)) cut order;
      still = still;
      made = made;
      sound = λ file rose. sound file (rose-on old m new file rose on);
    }

    -- no volume's count rose by it
    never-rose : (file : ℕ) → RoseAt m.counts next.counts file → ⊥
    never-rose file rose = sound file (rose-on old next new file (rose-from old m next file (onward-then old start m still.onward (alone-onward trusted places first start m made)) rose) more)

    gentle-by : (asked : Asked) (tickets : List ℕ) (answer : Result ℕ Refusal) → Copies moving P (Commit asked tickets answer) → (c : Change) → asked_change 0 asked tickets m.core ≡ Some c → IsGentle c
    gentle-by asked tickets answer (inl (number, is, one)) c joins = joined-gentle 0 tickets c m.core (subst (λ (a : Asked). asked_change 0 a tickets m.core ≡ Some c) is joins)
    gentle-by asked tickets answer (inr (none, so)) c joins = gentle c (so c m.core (subst (λ (ts : List ℕ). asked_change 0 asked ts m.core ≡ Some c) none joins))

    deed-harmless : (d : Deed) → whole ≡ first ++ event n d ∷ later → Copies moving P d → Case places 0 d m next → is_failing d ≡ false
    deed-harmless (Ask query (Ok answer)) cut kind h = refl
    deed-harmless (Ask query (Err e)) cut kind h = ask-harmless m next e query h
    deed-harmless (Force (Ok number)) cut kind h = refl
    deed-harmless (Force (Err e)) cut kind h = force-harmless m next e h
    deed-harmless (OpenCopy object a avoid (Ok number)) cut kind h = refl
    deed-harmless (OpenCopy object a avoid (Err e)) cut kind h = open-harmless m next e places object a avoid (λ placed at. room.placed object a avoid (Err e) m placed (comes (OpenCopy object a avoid (Err e)) cut) at) h
    deed-harmless (CopyPiece number (Ok count)) cut kind h = refl
    deed-harmless (CopyPiece number (Err e)) cut kind h = piece-harmless m next e number (λ t is. room.read number (Err e) m t (comes (CopyPiece number (Err e)) cut) is) never-rose h
    deed-harmless (Seal number (Ok done)) cut kind h = refl
    deed-harmless (Seal number (Err e)) cut kind h = seal-harmless m next e number never-rose h
    deed-harmless (DropTicket number (Ok done)) cut kind h = refl
    deed-harmless (DropTicket number (Err e)) cut kind h = drop-harmless m next e number h
    deed-harmless (Commit asked tickets (Ok number)) cut kind h = refl
    deed-harmless (Commit asked tickets (Err e)) cut kind h =
        commit-harmless m next e asked tickets (gentle-by asked tickets (Err e) kind) (λ c joins. room.short asked tickets (Err e) m c (comes (Commit asked tickets (Err e)) cut) joins) h
    deed-harmless d cut kind h = absurd kind

  harmless-walk : (first rest : List Event) (m : Machine) → whole ≡ first ++ rest → AllCopy moving P rest → Alone trusted places 0 first start m → Alone trusted places 0 rest m new → NoneFailing rest
  harmless-walk first [] m cut all made same = tt
  harmless-walk first (e ∷ rest) m cut all made (next, moved, more) =
      let s = ticket-step trusted places e m next (has-tickets moving P e.deed all.0) moved in
      let on_next = alone-onward trusted places rest next new more in
      let on = onward-then m next new (onward-later m next s.0) on_next in (
        deed-harmless first rest e.n m next made on on_next e.deed cut all.0 s.1,
        harmless-walk (first ++ e ∷ []) rest next (cut ∙ sym (append_assoc first (e ∷ []) rest)) all.1 (alone-append trusted places 0 first (e ∷ []) start m next made (next, moved, refl)) more,
      )

  -- none of its steps was refused so
  none-failing : AllCopy moving P whole → Alone trusted places 0 whole start new → failing_in whole ≡ 0
  none-failing all alone = none-counted whole (harmless-walk [] whole start refl all refl alone)

-- ---- processes

abbrev failed_by : Result Outcome Refusal → ℕ
failed_by (Ok it) = failed_in it
failed_by (Err e) = 0

-- none of these steps was refused as that of an object that can't be copied, if they are those of such a process
abbrev pub RefusesNone : List Event → Type 1
RefusesNone events = (moving : Bool) (P : Change → Type 0) → ((c : Change) → P c → IsGentle c) → AllCopy moving P events → failing_in events ≡ 0

no-gentle : (c : Change) → NoOther c → IsGentle c
no-gentle c h = absurd h

loss-as : (file : ℕ) (c : Change) → IsLoss file c → IsGentle c
loss-as file c (name, capacity, is) = subst IsGentle (sym is) (loss-gentle name file capacity)

line-failed : (mover : Mover) (m : Moved) → failed_in (came.Said (moved_line mover m)) ≡ m.failed
line-failed data_mover m = refl
line-failed reclaimer m = refl
line-failed pool_restorer m = refl
line-failed volume_restorer m = refl
line-failed migrator m = refl
line-failed all_migrator m = refl

moved-none : (mover : Mover) (numbers : List ℕ) (events : List Event) (m : Moved) → RefusesNone events → MovesSo mover (the_number numbers) (the_second numbers) events (Ok m) → m.failed ≡ 0
moved-none data_mover numbers events m none did =
    no-more m.failed (failing_in events) did.came.risen
    (none true NoOther no-gentle (all-copies true NoOther (IsMoving (the_number numbers) (the_second numbers)) (data-moves (the_number numbers) (the_second numbers)) events did.only))
moved-none reclaimer numbers events m none did =
    no-more m.failed (failing_in events) did.came.risen
    (none true NoOther no-gentle (all-copies true NoOther (IsReclaiming did.files (the_number numbers)) (reclaim-moves did.files (the_number numbers)) events did.only))
moved-none pool_restorer numbers events m none did = no-more m.failed (failing_in events) did.came.counts.risen (none true NoOther no-gentle (all-copies true NoOther IsRestore (restore-moves NoOther) events did.only))
moved-none volume_restorer numbers events m none did =
    no-more m.failed (failing_in events) did.came.counts.risen
    (none true (IsLoss (the_number numbers)) (loss-as (the_number numbers)) (all-copies true (IsLoss (the_number numbers)) (IsVolumeRestore (the_number numbers)) (volume-moves (the_number numbers)) events did.only))
moved-none migrator numbers events m none did =
    no-more m.failed (failing_in events) did.came.risen (none true NoOther no-gentle (all-copies true NoOther (IsMigration (the_number numbers)) (migration-moves (the_number numbers)) events did.only))
moved-none all_migrator numbers events m none did = no-more m.failed (failing_in events) did.came.risen (none true NoOther no-gentle (all-copies true NoOther IsSweep sweep-moves events did.only))

-- where none was, what such a process answers counts no object as failed
pub backed-none : (choice : List Rule) (numbers : List ℕ) (events : List Event) (it : Outcome) → RefusesNone events → DoesAlone choice back_up_pool numbers events (Ok it) → failed_in it ≡ 0
backed-none choice numbers events it none (Err e, did, is) = absurd cc
backed-none choice numbers events it none (Ok m, did, is) =
    ap failed_by is ∙ no-more m.failed (failing_in events) did.came.risen (none false NoOther no-gentle (backup-copies (the_second numbers) events did.only))

pub mover-none : (choice : List Rule) (mover : Mover) (numbers : List ℕ) (events : List Event) (it : Outcome) → RefusesNone events → DoesAlone choice (moves mover) numbers events (Ok it) → failed_in it ≡ 0
mover-none choice mover numbers events it none (Err e, did, is) = absurd cc
mover-none choice mover numbers events it none (Ok m, did, is) = ap failed_by is ∙ line-failed mover m ∙ moved-none mover numbers events m none did

-- ---- where one actor has the machine alone

module _ (trusted : Type 0) (places : Places) (choice : List Rule) (numbers : List ℕ) (old start new : Machine) (still : IsStill old start) (sound : (file : ℕ) → RoseFrom old new file → ⊥) (events : List Event)
    (alone : Alone trusted places 0 events start new) where
  pub copies-none : (it : Outcome) → HasRoomForCopies trusted places choice numbers back_up_pool old → DoesAlone choice back_up_pool numbers events (Ok it) → failed_in it ≡ 0
  copies-none it room did =
      backed-none choice numbers events it (λ moving P gentle all. none-failing trusted places choice numbers back_up_pool it old start new events room still did sound moving P gentle all alone) did

  pub moves-none : (mover : Mover) (it : Outcome) → HasRoomForCopies trusted places choice numbers (moves mover) old → DoesAlone choice (moves mover) numbers events (Ok it) → failed_in it ≡ 0
  moves-none mover it room did =
      mover-none choice mover numbers events it (λ moving P gentle all. none-failing trusted places choice numbers (moves mover) it old start new events room still did sound moving P gentle all alone) did
