use Rattle.std.proofs.Common.{false, true, inl}
use Rattle.tsm_top.proofs.Making.{looked_not, has_image}
use Rattle.tsm_top.proofs.top.has_none.Goals as goal

pub returns-in-Ok-false-clause-none : goal.returns-in-Ok-false-clause-none
returns-in-Ok-false-clause-none g c = has_image false (g.S.Store.told c.args.store.now) (rw c.in-Ok-false.field-0-test at c.in-Ok-false.ensures.gates)

pub returns-in-Ok-true-clause-not_made : goal.returns-in-Ok-true-clause-not_made
returns-in-Ok-true-clause-not_made g c = (has_image true (g.S.Store.told c.args.store.now) (rw c.in-Ok-true.field-0-test at c.in-Ok-true.ensures.gates), c.is_formatted.ensures.looked)

pub returns-in-Err-clause-not_made : goal.returns-in-Err-clause-not_made
returns-in-Err-clause-not_made g c = (looked_not (g.S.Store.told c.args.store.now) c.in-Err.refusal (g.S.Store.moment_of c.is_formatted.new.store) (g.S.Store.faults_of c.args.store.now) (g.S.Store.faults_of c.is_formatted.new.store) c.in-Err.ensures.refused, inl c.is_formatted.ensures.looked)
