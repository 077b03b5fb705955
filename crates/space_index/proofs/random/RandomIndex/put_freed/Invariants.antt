use Rattle.std.proofs.Common.{◌≡◌, ◌+◌, ℕ, Option}
use Rattle.space_index.specs.Index.{Shape, IsIndexBy, freed_reach}
use Rattle.space_index.proofs.random.RandomIndex.put_freed.Given as goal

abbrev pub invariant-freed : goal.invariant-freed
invariant-freed l = (shapes : ℕ → Option Shape) (times : ℕ → ℕ → ℕ) → IsIndexBy l.initial.self shapes times
    → (now : ℕ → ℕ → ℕ) × ((f k : ℕ) → now f k + freed_reach l.places-iterator f k ≡ times f k + freed_reach l.space.freed f k) × IsIndexBy l.self shapes now
