use Rattle.std.proofs.Common.{[], ap, ◌∙◌}
use Rattle.kinds.specs.Refusals.{sooner_of}
use Rattle.item_refusals.proofs.Foremost.{foremost_more}
use Rattle.machine.specs.State.{ticket}
use Rattle.hall.specs.Commits.{lacks}
use Rattle.hall.specs.Sights.{sight_of}
use Rattle.hall.proofs.parts.Parts.all_lack.Goals as goal

pub numbers-preserved : goal.numbers-preserved
numbers-preserved c =
    foremost_more [] (λ number. lacks c.args.needed (ticket number (sight_of c.args.actor c.args.self.now).tickets)) c.args.numbers.now c.numbers.number-index _ c.numbers.found c.sooner_of-found.result c.numbers-test.true c.numbers.invariant
    (c.sooner_of-found.ensures ∙ ap (sooner_of c.numbers.found) c.lacks.ensures)
