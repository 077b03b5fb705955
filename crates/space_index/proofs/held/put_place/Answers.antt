use Rattle.std.proofs.Common.{◌∙◌, Some}
use Rattle.space_index.proofs.Claiming.{held_set}
use Rattle.space_index.proofs.held.put_place.Goals as goal

pub returns-clause-counts : goal.returns-clause-counts
returns-clause-counts c = λ less more are one.
    held_set c.args.actor c.args.place.now less more c.args.held.now.entries c.keep.new.held.entries (Some c.put.new.self) one are (λ q apart. c.in_ok-keep.ensures.others q apart ∙ c.held_on-it.ensures.gone.others q apart) c.in_ok-keep.ensures.here
    (c.in_ok-put.ensures less more (c.held_on-it.ensures.was less are) one)

pub returns-clause-others : goal.returns-clause-others
returns-clause-others c = λ q apart. c.in_ok-keep.ensures.others q apart ∙ c.held_on-it.ensures.gone.others q apart
