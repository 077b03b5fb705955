-- Room for the jobs of a block.
use Rattle.std.specs.Prelude.{ℕ, ◌+◌, List, [], ◌∷◌}
use Rattle.blocks.specs.Shapes.{Placed}
use Rattle.line_jobs.specs.Shares.{exchanged}

-- the trees that each job has, from the one at this place on, of those that have these places for trees: one job after the other takes those that it has, and leaves what stood in its places for them
abbrev pub taken_in : {X : Type 0} → (all : List Placed) → (job : ℕ) → (rooms : List (List X)) → List X → List (List X)
taken_in all job [] trees = []
taken_in all job (own ∷ rooms) trees = exchanged all job 0 own trees ∷ taken_in all (job + 1) rooms (exchanged all job 0 trees own)
