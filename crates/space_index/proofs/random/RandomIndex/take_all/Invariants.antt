use Rattle.std.proofs.Common.{ℕ, drop, Option}
use Rattle.space_index.specs.Index.{Shape, IsIndexBy}
use Rattle.space_index.specs.Updates.{and_places}
use Rattle.space_index.proofs.random.RandomIndex.take_all.Given as goal

abbrev pub invariant-places : goal.invariant-places
invariant-places l = (shapes : ℕ → Option Shape) (times : ℕ → ℕ → ℕ) → IsIndexBy l.initial.self shapes (and_places l.places times) → IsIndexBy l.self shapes (and_places (drop l.place-index l.places) times)
