-- What a server does where the block is run that it asked for; and how many blocks may still be run.
use Rattle.std.proofs.Common.{◌≡◌, ◌∙◌, inl, ℕ, ◌+◌, ◌≤◌, Bool, Option, None, Some, List, refl, sym, subst, arith}
use Rattle.std.specs.Prelude.{IsSome}
use Rattle.store_api.specs.Disk.{History}
use Rattle.client_trees.specs.Files.{Files}
use Rattle.script_loop.specs.Reply.{Answer}
use Rattle.script_loop.specs.declared.ends.Halt.{Halt}
use Rattle.blocks.specs.Shapes.{Gathered}
use Rattle.tsm_top.specs.InBlock.{BlockEnds, BlockRan}
use Rattle.tsm_top.specs.Servers.{Asks, EndsBlock, EndsOpen, HaltsBy, HaltsIn, HaltsInside, Serves, ServesBlock, ServesIn, ServesInside, Stays, Works, can_take}
use Rattle.tsm_top.specs.declared.server.Server.{Server}
use Rattle.tsm_top.specs.declared.session.Session.{Session}

pub fewer : {S T : Type 0} (m n : ℕ) (s : Server S T) → m ≤ n → can_take n s → can_take m s
fewer m n s less can = record { ready = can.ready; actors = (let most = can.actors in omega (arith, most, less)) }

open_in : (o : Option Gathered) (given : Option (List ℕ)) → EndsOpen o given → IsSome o
open_in None given ends = absurd ends
open_in (Some b) given ends = refl

-- the block is open that is asked for
pub some_open : {S T : Type 0} (old mid : Server S T) (given : Option (List ℕ)) → Asks old given mid → IsSome mid.block
some_open old mid given (ends, (same, (still, as_many))) = subst (λ (o : Option Gathered). IsSome o) (sym still) (open_in old.block given ends)

module _ {S T : Type 0} (told : S → Option History) (moment : S → ℕ) (faults : S → ℕ → ℕ) (files : T → Option Files) (tree_faults : T → ℕ) (old mid new : Server S T) (n : ℕ) where
  ran : (answer : Answer) → Stays old mid → ServesBlock told moment faults files tree_faults mid n answer new → ServesBlock told moment faults files tree_faults old n answer new
  ran answer (same, (still, as_many)) (c, is_open, works, closed, counted) =
      subst (λ (j : ℕ). (g : Gathered) × (old.block ≡ Some g) × Works (λ x y. BlockRan told moment faults files tree_faults g (j + 1) n x answer y) old new × (new.block ≡ None) × (new.jobs ≡ j + (g.job + 1))) as_many
      (c, sym still ∙ is_open, subst (λ (x : Session S T). BlockRan told moment faults files tree_faults c (mid.jobs + 1) n x answer new.session) same works, closed, counted)

  asked_in : (o : Option Gathered) (given : Option (List ℕ)) (answer : Answer) → EndsOpen o given → ServesBlock told moment faults files tree_faults old n answer new → ServesIn told moment faults files tree_faults o old n given answer new
  asked_in None given answer ends served = absurd ends
  asked_in (Some b) (Some line) answer ends served = subst (λ (e : Bool). ServesInside told moment faults files tree_faults e b old n line answer new) (sym ends) served
  asked_in (Some b) None answer ends served = served

  -- it was run, and so is answered what was given
  pub asked_served : (given : Option (List ℕ)) (answer : Answer) → Asks old given mid → ServesBlock told moment faults files tree_faults mid n answer new → Serves told moment faults files tree_faults old n given answer new
  asked_served given answer (ends, stays) served = asked_in old.block given answer ends (ran answer stays served)

  ended : (how : Halt) → Stays old mid → EndsBlock told moment faults files tree_faults mid n how new → EndsBlock told moment faults files tree_faults old n how new
  ended how (same, (still, as_many)) (c, is_open, works) =
      subst (λ (j : ℕ). (g : Gathered) × (old.block ≡ Some g) × Works (λ x y. BlockEnds told moment faults files tree_faults g (j + 1) n x how y) old new) as_many
      (c, sym still ∙ is_open, subst (λ (x : Session S T). BlockEnds told moment faults files tree_faults c (mid.jobs + 1) n x how new.session) same works)

  asked_ends_in : (o : Option Gathered) (given : Option (List ℕ)) (how : Halt) → EndsOpen o given → EndsBlock told moment faults files tree_faults old n how new → HaltsIn told moment faults files tree_faults o old n given how new
  asked_ends_in None given how ends stopped = absurd ends
  asked_ends_in (Some b) (Some line) how ends stopped = inl (subst (λ (e : Bool). HaltsInside told moment faults files tree_faults e old n how new) (sym ends) stopped)
  asked_ends_in (Some b) None how ends stopped = stopped

  -- or it ended the run
  pub asked_halted : (given : Option (List ℕ)) (how : Halt) → Asks old given mid → EndsBlock told moment faults files tree_faults mid n how new → HaltsBy told moment faults files tree_faults old n given how new
  asked_halted given how (ends, stays) stopped = asked_ends_in old.block given how ends (ended how stays stopped)
