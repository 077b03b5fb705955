use Rattle.std.proofs.Common.{◌≡◌, drop}
use Rattle.hall.specs.Joined.{without_seats}
use Rattle.hall.proofs.parts.Parts.drop_seats.Given as goal

abbrev pub invariant-numbers : goal.invariant-numbers
invariant-numbers l = without_seats (drop l.number-index l.numbers) l.self ≡ without_seats l.numbers l.fn.self
