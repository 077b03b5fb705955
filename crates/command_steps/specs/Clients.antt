-- What a line has of the clients: the include-exclude list of their files, and the trees that have these.
use Rattle.std.specs.Prelude.{◌≡◌, ℕ, ◌≤◌, List, ◌∷◌, ◌++◌, length, map, Option}
use Rattle.choosers.specs.declared.rule.Rule.{Rule}
use Rattle.client_trees.specs.Files.{Files}

-- what is known of a tree: its files, where it tells them, and its count of faults
pub record Known : Type 0 where
  pub files : Option Files
  pub faults : ℕ

-- what is known of a tree of any type, and of several
abbrev pub seen : {T : Type 0} → (T → Option Files) → (T → ℕ) → T → Known
seen files faults tree = record { files = files tree; faults = faults tree }

abbrev pub all_seen : {T : Type 0} → (T → Option Files) → (T → ℕ) → List T → List Known
all_seen files faults trees = map (seen files faults) trees

-- The include-exclude list, and the trees by their numbers, which count from 0: as they were before the line, and as they are behind it.
pub record Client : Type 0 where
  pub choice : List Rule
  pub old : List Known
  pub new : List Known

abbrev pub client : {T : Type 0} → (T → Option Files) → (T → ℕ) → List Rule → (old new : List T) → Client
client files faults choice old new = record { choice = choice; old = all_seen files faults old; new = all_seen files faults new }

-- all trees are as they were
abbrev pub IsKept : Client → Type 0
IsKept k = k.new ≡ k.old

-- no tree has this number
abbrev pub IsNone : (number : ℕ) → Client → Type 0
IsNone number k = length k.old ≤ number

-- the tree with this number was `before` and is `after`, and all others are as they were
abbrev pub Turns : (number : ℕ) → (before after : Known) → Client → Type 0
Turns number before after k = (front : List Known) × (back : List Known) × (length front ≡ number) × (k.old ≡ front ++ (before ∷ back)) × (k.new ≡ front ++ (after ∷ back))
