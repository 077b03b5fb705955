use Rattle.std.proofs.Common.{◌≡◌, drop, map}
use Rattle.kinds.specs.Refusals.{foremost, sooner_of}
use Rattle.hall.specs.Commits.{differ}
use Rattle.hall.proofs.parts.Parts.differ.Given as goal

abbrev pub invariant-items : goal.invariant-items
invariant-items g l =
    sooner_of l.found (foremost (differ (map g.T.Given.digest (drop l.at l.items)) l.actor (drop l.at l.numbers) l.self)) ≡ foremost (differ (map g.T.Given.digest l.items) l.actor l.numbers l.self)
