use Rattle.std.proofs.Common.{arith}
use Rattle.log_file.proofs.Told.{looked_then}
use Rattle.vault.proofs.Looking.{gates_told, looking_refused, second_refused}
use Rattle.vault.proofs.open.is_formatted.Goals as goal

pub returns-in-Err-clause-refused : goal.returns-in-Err-clause-refused
returns-in-Err-clause-refused g c = looking_refused 0 (g.S.Store.faults_of c.args.store.now) (g.S.Store.faults_of c.args.store.now) (g.S.Store.faults_of c.is_open.new.store) (g.S.Store.moment_of c.is_open.new.store) c.in-Err.refused (omega arith) (λ file. omega arith) c.in-Err.ensures.undamaged c.in-Err.ensures.refused

pub returns-clause-looked : goal.returns-clause-looked
returns-clause-looked g c = looked_then _ _ _ c.in-Ok-false.ensures.looked c.is_open-2.ensures.looked

pub returns-clause-gates : goal.returns-clause-gates
returns-clause-gates g c = gates_told (g.S.Store.told c.args.store.now) (g.S.Store.told c.is_open.new.store) c.in-Ok-false.field-0 c.is_open-2.result c.in-Ok-false.field-0-test c.in-Ok-false.ensures.looked c.in-Ok-false.ensures.gate c.is_open-2.ensures.gate

pub returns-clause-refused : goal.returns-clause-refused
returns-clause-refused g c = second_refused (g.S.Store.faults_of c.args.store.now) (g.S.Store.faults_of c.is_open.new.store) (g.S.Store.faults_of c.is_open-2.new.store) (g.S.Store.moment_of c.is_open-2.new.store) c.is_open-2.result c.in-Ok-false.ensures.onward.counts c.is_open-2.ensures.undamaged c.is_open-2.ensures.refused
