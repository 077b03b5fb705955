use Rattle.std.proofs.Common.{ℕ, take, Option}
use Rattle.space_index.specs.Index.{Shape, IsIndexBy}
use Rattle.space_index.specs.Updates.{and_places}
use Rattle.space_index.proofs.random.RandomIndex.put_all.Given as goal

abbrev pub invariant-places : goal.invariant-places
invariant-places l = (shapes : ℕ → Option Shape) (times : ℕ → ℕ → ℕ) → IsIndexBy l.initial.self shapes times → IsIndexBy l.self shapes (and_places (take l.place-index l.places) times)
