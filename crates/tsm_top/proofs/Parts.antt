-- A script's run in parts: up to the end of a block, which is run, or up to its own.
use Rattle.std.proofs.Common.{◌≡◌, ℕ, ◌+◌, ◌-◌, ◌^◌, ◌≤◌, Option, None, Some, List, Result, Ok, Err, subst, arith}
use Rattle.std.specs.Prelude.{IfErr, IfOk, IsSome}
use Rattle.store_api.specs.Disk.{History}
use Rattle.client_trees.specs.Files.{Files}
use Rattle.script_loop.specs.Ends.{SinkCause, SourceCause}
use Rattle.script_loop.specs.Pauses.{AnswersAs, ComesTo, HasRoom, NextWithin, RoomBehind, SinkSays, SourceSays, Stage, Stands, Waits}
use Rattle.script_loop.specs.Reply.{Answer}
use Rattle.script_loop.specs.Runs.{Says}
use Rattle.script_loop.specs.declared.ends.End.{End}
use Rattle.script_loop.specs.declared.ends.End.TheVariants.{Done, SourceFault, SinkFault, Halted, TooLong}
use Rattle.script_loop.specs.declared.ends.Halt.{Halt}
use Rattle.tsm_top.specs.Servers.{Asks, EndsBlock, HaltsBy, Serves, ServesBlock, can_take}
use Rattle.tsm_top.specs.declared.server.Server.{Server}
use Rattle.tsm_top.proofs.Serving.{asked_halted, asked_served, fewer, some_open}

-- ---- the counts of faults

later_source : (end : End) (a b c : ℕ) → a ≤ b → SourceCause end b c → SourceCause end a c
later_source (Done tally) a b c up on = omega (arith, up, on)
later_source SourceFault a b c up on = (omega (arith, up, on.0), (let rose = on.1 in omega (arith, up, rose)))
later_source SinkFault a b c up on = omega (arith, up, on)
later_source (Halted halt) a b c up on = omega (arith, up, on)
later_source (TooLong n) a b c up on = omega (arith, up, on)

pub source_says : (ended : Option End) (a b c : ℕ) → a ≤ b → SourceSays ended b c → SourceSays ended a c
source_says None a b c up on = omega (arith, up, on)
source_says (Some end) a b c up on = later_source end a b c up on

later_sink : (end : End) (a b c : ℕ) → a ≤ b → SinkCause end b c → SinkCause end a c
later_sink (Done tally) a b c up on = omega (arith, up, on)
later_sink SourceFault a b c up on = omega (arith, up, on)
later_sink SinkFault a b c up on = (omega (arith, up, on.0), (let rose = on.1 in omega (arith, up, rose)))
later_sink (Halted halt) a b c up on = omega (arith, up, on)
later_sink (TooLong n) a b c up on = omega (arith, up, on)

pub sink_says : (ended : Option End) (a b c : ℕ) → a ≤ b → SinkSays ended b c → SinkSays ended a c
sink_says None a b c up on = omega (arith, up, on)
sink_says (Some end) a b c up on = later_sink end a b c up on

-- ---- numbers, and room for the lines that may still come

-- ---- where a part was the last one, and where it wasn't

pub source_on : (ended : Option End) (a b : ℕ) → ended ≡ None → SourceSays ended a b → a ≤ b
source_on ended a b is says = subst (λ (e : Option End). SourceSays e a b) is says

pub sink_on : (ended : Option End) (a b : ℕ) → ended ≡ None → SinkSays ended a b → a ≤ b
sink_on ended a b is says = subst (λ (e : Option End). SinkSays e a b) is says

pub next_on : (ended : Option End) (low high next : ℕ) → ended ≡ None → NextWithin ended low high next → next ≤ high
next_on ended low high next is within = (let both : (low ≤ next) × (next ≤ high) = subst (λ (e : Option End). NextWithin e low high next) is within in both.1)

module _ {S T : Type 0} where
  abbrev takes : Server S T → ℕ → Type 0
  takes s left = can_take left s

  pub room_on : (ended : Option End) (s : Server S T) (p : Stage) → ended ≡ None → RoomBehind ended takes p s → HasRoom takes p s
  room_on ended s p is room = subst (λ (e : Option End). RoomBehind e takes p s) is room

  pub room_at_first : (s : Server S T) (p : Stage) → p.next ≡ 1 → can_take (2 ^ 20) s → HasRoom takes p s
  room_at_first s p first can = λ m is. fewer m (2 ^ 20) s (omega (arith, first, is)) can

  -- at line n, which is one that is taken, there is room for one block more
  pub room_for_one : (s : Server S T) (p : Stage) → p.next ≤ 2 ^ 20 → HasRoom takes p s → can_take 1 s
  room_for_one s p within room =
      let left : (m : ℕ) × (m + p.next ≡ 2 ^ 20 + 1) = (2 ^ 20 + 1 - p.next, omega (arith, within)) in
      fewer 1 left.0 s (let sum = left.1 in omega (arith, within, sum)) (room left.0 left.1)

  pub room_behind : (ended : Option End) (old new : Server S T) (p q : Stage) → NextWithin ended (p.next + 1) (p.next + 1) q.next → HasRoom takes p old → ((left : ℕ) → can_take (left + 1) old → can_take left new) → RoomBehind ended takes q new
  room_behind (Some end) old new p q next room on = tt
  room_behind None old new p q (from, to) room on = λ m is. on m (room (m + 1) (omega (arith, from, to, is)))

module _ {S T : Type 0} (told : S → Option History) (moment : S → ℕ) (faults : S → ℕ → ℕ) (files : T → Option Files) (tree_faults : T → ℕ) where
  abbrev Served : Server S T → ℕ → Option (List ℕ) → Answer → Server S T → Type 0
  Served = Serves told moment faults files tree_faults

  abbrev Stopped : Server S T → ℕ → Option (List ℕ) → Halt → Server S T → Type 0
  Stopped = HaltsBy told moment faults files tree_faults

  answers_in : (old mid new : Server S T) (n : ℕ) (given : Option (List ℕ)) (result : Result Answer Halt) → Asks old given mid → IfOk result (λ answer. ServesBlock told moment faults files tree_faults mid n answer new)
      → IfErr result (λ how. EndsBlock told moment faults files tree_faults mid n how new) → AnswersAs Served Stopped old n given result new
  answers_in old mid new n given (Ok answer) asked served halted = asked_served told moment faults files tree_faults old mid new n given answer asked served
  answers_in old mid new n given (Err how) asked served halted = asked_halted told moment faults files tree_faults old mid new n given how asked halted

  -- the block that was asked for was run, and so the run that waits is answered
  pub answers_as : (start mid new : Server S T) (script contents left put : Option (List ℕ)) (p : Stage) (n : ℕ) (result : Result Answer Halt) → (waits : Waits Served (λ old n given new. Asks old given new) start script contents p mid left put) → n ≡ p.next
      → IfOk result (λ answer. ServesBlock told moment faults files tree_faults mid n answer new) → IfErr result (λ how. EndsBlock told moment faults files tree_faults mid n how new)
      → AnswersAs Served Stopped waits.old p.next waits.given result new
  answers_as start mid new script contents left put p n result waits is served halted =
      subst (λ (k : ℕ). AnswersAs Served Stopped waits.old k waits.given result new) is (answers_in waits.old mid new n waits.given result waits.asked served halted)

  -- and it was open
  pub is_open : (start mid : Server S T) (script contents left put : Option (List ℕ)) (p : Stage) → Waits Served (λ old n given new. Asks old given new) start script contents p mid left put → IsSome mid.block
  is_open start mid script contents left put p waits = some_open waits.old mid waits.given waits.asked

  -- ---- where the run ended, and where it goes on

  pub comes_some : (start state : Server S T) (script contents left put : Option (List ℕ)) (p : Stage) (ended : Option End) (end : End) → ended ≡ Some end → ComesTo Served Stopped start script contents p state left put ended
      → Says Served Stopped start state script contents put end
  comes_some start state script contents left put p ended end is comes = subst (λ (e : Option End). ComesTo Served Stopped start script contents p state left put e) is comes

  pub comes_none : (start state : Server S T) (script contents left put : Option (List ℕ)) (p : Stage) (ended : Option End) → ended ≡ None → ComesTo Served Stopped start script contents p state left put ended
      → Stands Served start script contents p state left put
  comes_none start state script contents left put p ended is comes = subst (λ (e : Option End). ComesTo Served Stopped start script contents p state left put e) is comes
