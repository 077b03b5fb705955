use Rattle.std.proofs.Common.{◌≡◌, take}
use Rattle.std.specs.List.{flat_map}
use Rattle.kinds.specs.Refusals.{foremost}
use Rattle.machine.specs.State.{ticket}
use Rattle.hall.specs.Commits.{lacks}
use Rattle.hall.specs.Sights.{sight_of}
use Rattle.hall.proofs.parts.Parts.all_lack.Given as goal

abbrev pub invariant-numbers : goal.invariant-numbers
invariant-numbers l = l.found ≡ foremost (flat_map (λ number. lacks l.needed (ticket number (sight_of l.actor l.self).tickets)) (take l.number-index l.numbers))
