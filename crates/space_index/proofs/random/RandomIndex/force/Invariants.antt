use Rattle.std.proofs.Common.{ℕ, Option}
use Rattle.space_index.specs.Index.{Shape, IsIndexBy}
use Rattle.space_index.proofs.Following.{and_freed}
use Rattle.space_index.proofs.random.RandomIndex.force.Given as goal

abbrev pub invariant-freed : goal.invariant-freed
invariant-freed l = (shapes : ℕ → Option Shape) (times : ℕ → ℕ → ℕ) → IsIndexBy l.initial.self shapes (and_freed l.space.freed times) → IsIndexBy l.self shapes (and_freed l.places-iterator times)
