use Rattle.std.proofs.Common.{◌≡◌, []}
use Rattle.inventory_answers.specs.Content.{counted}
use Rattle.inventory_answers.proofs.content.counted.Given as goal

abbrev pub invariant-held : goal.invariant-held
invariant-held l = counted l.counts.entries l.segment-iterator ≡ counted [] l.held.entries
