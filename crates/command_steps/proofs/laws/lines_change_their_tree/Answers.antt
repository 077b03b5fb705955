use Rattle.std.proofs.Common.{None, refl}
use Rattle.command_steps.proofs.Changed.{changes-only, erased-there, written-there}
use Rattle.command_steps.proofs.laws.lines_change_their_tree.Goals as goal

pub returns-clause-only : goal.returns-clause-only
returns-clause-only c k n line events result h = changes-only k n line events result h

pub returns-clause-written : goal.returns-clause-written
returns-clause-written c k n w events answer h = written-there k n w events answer (answer, None) refl h

pub returns-clause-erased : goal.returns-clause-erased
returns-clause-erased c k n e events answer h = erased-there k n e events answer (answer, None) refl h
