use Rattle.std.proofs.Common.{◌≡◌, ◌+◌, ℕ, Option}
use Rattle.space_index.specs.Index.{Shape, IsIndexBy, tickets_reach}
use Rattle.space_index.proofs.random.RandomIndex.put_tickets.Given as goal

abbrev pub invariant-tickets : goal.invariant-tickets
invariant-tickets l = (shapes : ℕ → Option Shape) (times : ℕ → ℕ → ℕ) → IsIndexBy l.initial.self shapes times
    → (now : ℕ → ℕ → ℕ) × ((f k : ℕ) → now f k + tickets_reach l.claim-iterator f k ≡ times f k + tickets_reach l.space.tickets f k) × IsIndexBy l.self shapes now
