-- Which of the clients' trees are in use in a block.
use Rattle.std.specs.Prelude.{◌≡◌, ℕ, ◌<◌, ◌==◌, nat_lt, Bool, true, false, if◌then◌else◌, List, [], ◌∷◌, ◌++◌, Option, None, Some}
use Rattle.blocks.specs.declared.block.Fate.{Fate}
use Rattle.blocks.specs.declared.block.Fate.TheVariants.{Beyond, Done}
use Rattle.blocks.specs.Shapes.{Placed}

abbrev pub named : (tree : ℕ) → Fate → Bool
named tree (Done (Some number)) = number == tree
named tree (Done None) = false
named tree Beyond = false

-- the line is done and names this tree
abbrev pub names : (tree : ℕ) → Placed → Bool
names tree line = named tree line.fate

-- the job of the first line that names the tree
abbrev pub first_job : (tree : ℕ) → List Placed → Option ℕ
first_job tree [] = None
first_job tree (line ∷ lines) = if names tree line then Some line.job else first_job tree lines

abbrev pub behind : (tree job : ℕ) → Option ℕ → Option ℕ
behind tree job (Some first) = if nat_lt first job then Some tree else None
behind tree job None = None

abbrev pub in_use_by : List Placed → (job : ℕ) → Fate → Option ℕ
in_use_by lines job (Done (Some tree)) = behind tree job (first_job tree lines)
in_use_by lines job (Done None) = None
in_use_by lines job Beyond = None

-- the tree that a line names and that an earlier job of the block has, if there is one
abbrev pub in_use : List Placed → Placed → Option ℕ
in_use lines line = in_use_by lines line.job line.fate

-- one of the lines is done, names this tree and stands in an earlier job than this
abbrev pub IsNamedBefore : List Placed → (job tree : ℕ) → Type 0
IsNamedBefore lines job tree = (front : List Placed) × (line : Placed) × (back : List Placed) × (lines ≡ front ++ line ∷ back) × (names tree line ≡ true) × (line.job < job)
