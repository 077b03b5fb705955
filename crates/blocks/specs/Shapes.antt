-- What the lines of a block come to.
use Rattle.std.specs.Prelude.{◌≡◌, ℕ, ◌+◌, ◌-◌, nat_lt, ◌&&◌, Bool, true, false, if◌then◌else◌, List, [], ◌∷◌, ◌++◌, Option, Some, Result, Ok, Err}
use Rattle.blocks.specs.declared.block.Fate.{Fate}
use Rattle.blocks.specs.declared.block.Fate.TheVariants.{Beyond, Done}
use Rattle.blocks.specs.declared.part.Part.{Part}
use Rattle.blocks.specs.declared.part.Part.TheVariants.{And, End, Other}
use Rattle.blocks.specs.Parts.{part}

-- A line of a job: the place of the job in the block, from 0, the line's number in the script, its text, and what becomes of it.
pub record Placed : Type 0 where
  pub job : ℕ
  pub number : ℕ
  pub text : List ℕ
  pub fate : Fate

-- a block: the lines of its jobs, and how many jobs it has
pub record Shape : Type 0 where
  pub lines : List Placed
  pub jobs : ℕ

-- it ends the block
abbrev pub is_end : Part → Bool
is_end End = true
is_end And = false
is_end (Other tree) = false

-- it ends the job at this place and begins the next one, where the block may have so many lines more: a block has at most 32 jobs
abbrev pub opens : (room job : ℕ) → Part → Bool
opens room job And = nat_lt 0 room && nat_lt (job + 1) 32
opens room job End = false
opens room job (Other tree) = false

-- what becomes of a line that begins no job, where the block may have so many lines more
abbrev pub fate : (room : ℕ) → Part → Fate
fate room And = Beyond
fate room End = Beyond
fate room (Other tree) = if nat_lt 0 room then Done tree else Beyond

-- the text that is kept of a line
abbrev pub kept : Fate → List ℕ → List ℕ
kept (Done tree) text = text
kept Beyond text = []

abbrev pub placed : (room job number : ℕ) → List ℕ → Part → Placed
placed room job number line p = record { job = job; number = number; text = kept (fate room p) line; fate = fate room p }

abbrev pub in_front : Bool → Placed → Shape → Shape
in_front true line rest = rest
in_front false line rest = record { lines = line ∷ rest.lines; jobs = rest.jobs }

-- The block that lines with their numbers are which stand behind PARALLEL, where it may have so many lines and stands at the job of this place: up to the first line that ends it, or to the script's end. Each
-- line counts, a comment or a refused one, too.
abbrev pub shape : (room job : ℕ) → List (ℕ × List ℕ) → Shape
shape room job [] = record { lines = []; jobs = job + 1 }
shape room job (l ∷ lines) =
    if is_end (part l.1) then record { lines = []; jobs = job + 1 }
    else in_front (opens room job (part l.1)) (placed room job l.0 l.1 (part l.1)) (shape (room - 1) (if opens room job (part l.1) then job + 1 else job) lines)

-- the block that these lines are
abbrev pub block : List (ℕ × List ℕ) → Shape
block lines = shape 1024 0 lines

-- ---- line by line

-- what was gathered so far: the lines, how many more the block may have, and the place of the job in which the next one stands
pub record Gathered : Type 0 where
  pub lines : List Placed
  pub room : ℕ
  pub job : ℕ

abbrev pub begun : Gathered
begun = record { lines = []; room = 1024; job = 0 }

-- one line more in the present job
abbrev pub with_placed : Gathered → Placed → Gathered
with_placed g line = record { lines = g.lines ++ line ∷ []; room = g.room - 1; job = g.job }

-- one line more that isn't END
abbrev pub with_part : Gathered → (number : ℕ) → List ℕ → Part → Gathered
with_part g number line p = if opens g.room g.job p then record { lines = g.lines; room = g.room - 1; job = g.job + 1 } else with_placed g (placed g.room g.job number line p)

abbrev pub with_line : Gathered → (number : ℕ) → List ℕ → Gathered
with_line g number line = with_part g number line (part line)

-- a call took the line, or it ended the block
abbrev pub Takes : {E : Type 0} → (number : ℕ) → List ℕ → Result Bool E → Gathered → Gathered → Type 0
Takes number line (Ok true) old new = (is_end (part line) ≡ true) × (new ≡ old)
Takes number line (Ok false) old new = (is_end (part line) ≡ false) × (new ≡ with_line old number line)
Takes number line (Err e) old new = new ≡ old

-- the block that what was gathered comes to with the lines that follow
abbrev pub comes_to : Gathered → List (ℕ × List ℕ) → Shape
comes_to g lines = let s = shape g.room g.job lines in record { lines = g.lines ++ s.lines; jobs = s.jobs }
