-- What a line of a script does to its server: a session, and the block that is open. And what the script's end does.
use Rattle.std.specs.Prelude.{◌≡◌, ◌⊎◌, ℕ, ◌+◌, ◌*◌, ◌^◌, ◌<◌, Bool, true, false, Option, None, Some, List}
use Rattle.store_api.specs.Disk.{History}
use Rattle.client_trees.specs.Files.{Files}
use Rattle.script_loop.specs.Reply.{Answer}
use Rattle.script_loop.specs.declared.ends.Halt.{Halt}
use Rattle.script_loop.specs.declared.ends.Halt.TheVariants.{Memory}
use Rattle.block_results.specs.command_steps.Answers.{nothing}
use Rattle.blocks.specs.Parts.{begins, part}
use Rattle.blocks.specs.Shapes.{Gathered, begun, is_end, with_line}
use Rattle.tsm_top.specs.InBlock.{BlockEnds, BlockRan}
use Rattle.tsm_top.specs.Sessions.{HaltsLine, ServesLine, can_serve}
use Rattle.tsm_top.specs.declared.server.Server.{Server}
use Rattle.tsm_top.specs.declared.session.Session.{Session}

-- The session has a buffer for pieces, and so many blocks more may be run.
pub record can_take (blocks : ℕ) {S T : Type 0} (s : Server S T) : Type 0 where
  pub ready : can_serve s.session
  pub actors : s.jobs + 32 * blocks + 1 < 2 ^ 32

-- the server's session did this
abbrev pub Works : {S T : Type 0} → (Of : Session S T → Session S T → Type 0) → (old new : Server S T) → Type 0
Works Of old new = Of old.session new.session

-- the same is open, and as many jobs were run
abbrev pub SameOpen : {S T : Type 0} → (old new : Server S T) → Type 0
SameOpen old new = (new.block ≡ old.block) × (new.jobs ≡ old.jobs)

-- A line was kept in the block, which is this now; and nothing was done.
abbrev pub Keeps : {S T : Type 0} → (block : Gathered) → (old new : Server S T) → Type 0
Keeps block old new = (new.session ≡ old.session) × (new.block ≡ Some block) × (new.jobs ≡ old.jobs)

-- nothing was done
abbrev pub Stays : {S T : Type 0} → (old new : Server S T) → Type 0
Stays old new = (new.session ≡ old.session) × SameOpen old new

-- what is given ends the block that is open: the line that ends it, or the script's end
abbrev pub EndsOpen : Option Gathered → Option (List ℕ) → Type 0
EndsOpen None given = ⊥
EndsOpen (Some block) (Some line) = is_end (part line) ≡ true
EndsOpen (Some block) None = Unit {0}

-- What is given ends the block that is open, which is still to be run: nothing was done.
abbrev pub Asks : {S T : Type 0} → Server S T → Option (List ℕ) → Server S T → Type 0
Asks old given new = EndsOpen old.block given × Stays old new

module _ {S T : Type 0} (told : S → Option History) (moment : S → ℕ) (faults : S → ℕ → ℕ) (files : T → Option Files) (tree_faults : T → ℕ) where
  -- A line that stands in no block and begins none was answered so.
  abbrev pub ServesOutside : Server S T → (n : ℕ) → List ℕ → Answer → Server S T → Type 0
  ServesOutside old n line answer new = Works (λ a b. ServesLine told moment faults files tree_faults a n line answer b) old new × SameOpen old new

  abbrev pub EndsOutside : Server S T → (n : ℕ) → List ℕ → Halt → Server S T → Type 0
  EndsOutside old n line how new = Works (λ a b. HaltsLine told moment faults files tree_faults a n line how b) old new × SameOpen old new

  -- The block that is open was run and answered so. Its jobs' actors have the numbers behind those of the jobs before.
  abbrev pub ServesBlock : Server S T → (n : ℕ) → Answer → Server S T → Type 0
  ServesBlock old n answer new =
      (b : Gathered) × (old.block ≡ Some b) × Works (λ x y. BlockRan told moment faults files tree_faults b (old.jobs + 1) n x answer y) old new × (new.block ≡ None) × (new.jobs ≡ old.jobs + (b.job + 1))

  abbrev pub EndsBlock : Server S T → (n : ℕ) → Halt → Server S T → Type 0
  EndsBlock old n how new = (b : Gathered) × (old.block ≡ Some b) × Works (λ x y. BlockEnds told moment faults files tree_faults b (old.jobs + 1) n x how y) old new

  -- In a block a line that doesn't end it is kept.
  abbrev pub ServesInside : Bool → (block : Gathered) → Server S T → (n : ℕ) → List ℕ → Answer → Server S T → Type 0
  ServesInside true block old n line answer new = ServesBlock old n answer new
  ServesInside false block old n line answer new = (answer ≡ nothing) × Keeps (with_line block n line) old new

  -- Outside blocks one that begins one is kept.
  abbrev pub ServesHere : Bool → Server S T → (n : ℕ) → List ℕ → Answer → Server S T → Type 0
  ServesHere true old n line answer new = (answer ≡ nothing) × Keeps begun old new
  ServesHere false old n line answer new = ServesOutside old n line answer new

  abbrev pub ServesIn : Option Gathered → Server S T → (n : ℕ) → Option (List ℕ) → Answer → Server S T → Type 0
  ServesIn None old n (Some line) answer new = ServesHere (begins line) old n line answer new
  ServesIn (Some block) old n (Some line) answer new = ServesInside (is_end (part line)) block old n line answer new
  ServesIn None old n None answer new = (answer ≡ nothing) × Stays old new
  ServesIn (Some block) old n None answer new = ServesBlock old n answer new

  -- What is given was answered so: a line; or the script's end, at which a block that is open is run.
  abbrev pub Serves : Server S T → (n : ℕ) → Option (List ℕ) → Answer → Server S T → Type 0
  Serves old n given answer new = ServesIn old.block old n given answer new

  -- memory was wanted before it was known what the line is to a block, and nothing changed
  abbrev pub Wants : Server S T → Halt → Server S T → Type 0
  Wants old how new = (how ≡ Memory) × Stays old new

  abbrev pub HaltsInside : Bool → Server S T → (n : ℕ) → Halt → Server S T → Type 0
  HaltsInside true old n how new = EndsBlock old n how new
  HaltsInside false old n how new = ⊥

  abbrev pub HaltsHere : Bool → Server S T → (n : ℕ) → List ℕ → Halt → Server S T → Type 0
  HaltsHere true old n line how new = ⊥
  HaltsHere false old n line how new = EndsOutside old n line how new

  abbrev pub HaltsIn : Option Gathered → Server S T → (n : ℕ) → Option (List ℕ) → Halt → Server S T → Type 0
  HaltsIn None old n (Some line) how new = HaltsHere (begins line) old n line how new ⊎ Wants old how new
  HaltsIn (Some block) old n (Some line) how new = HaltsInside (is_end (part line)) old n how new ⊎ Wants old how new
  HaltsIn None old n None how new = ⊥
  HaltsIn (Some block) old n None how new = EndsBlock old n how new

  -- What is given may end the run so: a line; or the script's end, at which a block that is open is run.
  abbrev pub HaltsBy : Server S T → (n : ℕ) → Option (List ℕ) → Halt → Server S T → Type 0
  HaltsBy old n given how new = HaltsIn old.block old n given how new
