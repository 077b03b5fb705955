use Rattle.std.proofs.Common.{inl, inr, arith}
use Rattle.store_api.proofs.Runs.{told_map, told_then}
use Rattle.db_image.proofs.Shutting.{not_looked, was_shut, was_open, one_byte}
use Rattle.db_image.proofs.gate.shut_gate.Goals as goal
use Rattle.db_image.proofs.gate.shut_gate.Goals.{then-count-eq0-via-then-count-eq0, then-count-eq0-via-else-count-eq0+then-gate-eq1}

pub returns-then-count-eq0-clause-told : goal.returns-then-count-eq0-clause-told
returns-then-count-eq0-clause-told g c =
    told_then _ _ _ _ _ _ (λ old mid new read wrote. was_open c.args.file c.read_within.new.into old mid c.in-Ok.count (omega arith) read _ new c.write_synced.result (one_byte c.read_within.new.into (omega arith)) (elim c.then-count-eq0.branch [
      | then-count-eq0-via-then-count-eq0 w ↦ inl w.if-count-eq0.true
      | then-count-eq0-via-else-count-eq0+then-gate-eq1 w ↦ inr w.if-gate-eq1.true
    ]) wrote)
    c.in-Ok.ensures.told c.write_synced.ensures.told

pub returns-else-gate-eq1-clause-told : goal.returns-else-gate-eq1-clause-told
returns-else-gate-eq1-clause-told g c =
    told_map _ _ _ _ (λ old new read. was_shut c.args.file c.read_within.new.into old new c.in-Ok.count (omega arith) read _ tt (one_byte c.read_within.new.into (omega arith)) c.if-count-eq0.false c.if-gate-eq1.false) c.in-Ok.ensures.told

pub returns-in-Err-clause-told : goal.returns-in-Err-clause-told
returns-in-Err-clause-told g c = told_map _ _ _ _ (λ old new read. not_looked c.args.file c.read_within.new.into old new c.in-Err.failed c.in-Err.failed read) c.in-Err.ensures.told
