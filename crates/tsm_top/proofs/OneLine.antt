-- One line of a script, by itself: what its session's steps come to.
use Rattle.std.proofs.Common.{◌≡◌, ℕ, Option, List, Result, Ok, Err, refl}
use Rattle.std.specs.Prelude.{IfErr, IfOk, IfSome}
use Rattle.store_api.specs.Disk.{History, now}
use Rattle.client_trees.specs.Files.{Files}
use Rattle.inventory_rows.specs.Ascending.{AreAscending}
use Rattle.script_loop.specs.Reply.{Answer}
use Rattle.script_loop.specs.declared.ends.Halt.{Halt}
use Rattle.machine.specs.State.{Machine}
use Rattle.hall.specs.Good.{Is}
use Rattle.hall.specs.Steps.{IsTrusted}
use Rattle.block_results.specs.line_results.Resting.{Onward}
use Rattle.tsm_top.specs.OneLine.{Answered, ComesTo, GoesTo, Halted, RestsAs}
use Rattle.tsm_top.specs.Sessions.{HaltsLine, ServesLine}
use Rattle.tsm_top.specs.declared.session.Session.{Session}
use Rattle.tsm_top.proofs.Opening.{goes_further, goes_no_further}
use Rattle.tsm_top.proofs.Running.{AreAlone, AreThere, At, Come, End_, Goes, GoOn, Hold, halt, step}
use Rattle.tsm_top.proofs.There.{AreKept, LeaveSound, left_sound, safe_since}
use Rattle.tsm_top.proofs.Treed.{ChangeTheirTree}

module _ {S T : Type 0} (told : S → Option History) (moment : S → ℕ) (faults : S → ℕ → ℕ) (files : T → Option Files) (tree_faults : T → ℕ) (clock : (s : S) → IfSome (told s) (λ h. now h ≡ moment s))
    (changes : ChangeTheirTree) (goes : GoOn told moment faults) (gives : AreThere told moment faults) (kept : AreKept told moment faults) (leave : LeaveSound told moment faults)
    (trusted : Type 0) (alone : AreAlone trusted told moment faults) (comes : Come trusted) (ends : End_ trusted) (hold : Hold trusted) where
  module _ (old new : Session S T) (n : ℕ) (line : List ℕ) (ascends : AreAscending old.hall.held.base) (m : Machine) (rests : RestsAs told moment faults old m) (known : trusted → IsTrusted (told old.hall.store) old.hall.held) where
    begun : At told moment faults files tree_faults clock changes goes gives goes_further goes_no_further trusted alone comes ends hold old.binder old m
    begun = record { is = rests.is; ascends = ascends; known = known; rests = rests.rests; binder = refl }

    goes_to : (next : Machine) → Is told moment faults new.hall next → Onward m next → next.core.base ≡ m.core.base
        → Goes told moment faults files tree_faults clock changes goes gives goes_further goes_no_further trusted alone comes ends hold old.binder old new → (trusted → IsTrusted (told new.hall.store) new.hall.held)
        → GoesTo told moment faults trusted old.hall new.hall m next
    goes_to next is onward same on known_then = record {
      is = is;
      onward = onward;
      base = same;
      goes = on.2;
      known = known_then;
      images = λ t. safe_since told moment faults kept new.hall next (told new.hall.store) refl is (known_then t);
      left = λ t. left_sound told moment faults leave new.hall next (told new.hall.store) refl is (known_then t);
    }

    answered : (answer : Answer) → ServesLine told moment faults files tree_faults old n line answer new → Answered told moment faults files tree_faults trusted old n line answer new m
    answered answer serves =
        let one = step told moment faults files tree_faults clock changes goes gives goes_further goes_no_further trusted alone comes ends hold old.binder old new n line answer m begun serves in
        record {
          next = one.next;
          replies = one.run new (refl, refl, goes_no_further (told new.hall.store));
          rests = one.at.rests;
          leaves = goes_to one.next one.at.is one.onward one.same one.goes one.at.known;
        }

    halted : (how : Halt) → HaltsLine told moment faults files tree_faults old n line how new → Halted told moment faults files tree_faults trusted old n line how new m
    halted how stopped =
        let one = halt told moment faults files tree_faults clock changes goes gives goes_further goes_no_further trusted alone comes ends hold old.binder old new n line how m begun stopped in
        record { next = one.next; stops = one.run; leaves = goes_to one.next one.is one.onward one.same one.goes one.known }

    pub comes_to : (result : Result Answer Halt) → IfOk result (λ answer. ServesLine told moment faults files tree_faults old n line answer new) → IfErr result (λ how. HaltsLine told moment faults files tree_faults old n line how new)
        → ComesTo told moment faults files tree_faults trusted old n line result new m
    comes_to (Ok answer) serves stopped = answered answer serves
    comes_to (Err how) serves stopped = halted how stopped
