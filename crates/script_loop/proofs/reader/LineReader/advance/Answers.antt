use Rattle.script_loop.proofs.Lines.{takes_ended, exceeds_long, gives_rest}
use Rattle.script_loop.proofs.reader.LineReader.advance.Goals as goal

pub returns-in-Ended-clause-gives : goal.returns-in-Ended-clause-gives
returns-in-Ended-clause-gives g c = takes_ended _ _ _ _ _ c.pieces.invariant.to_come c.in-Ended.ensures

pub returns-in-Long-clause-gives : goal.returns-in-Long-clause-gives
returns-in-Long-clause-gives g c = exceeds_long _ _ _ _ c.find_line.new.self.line c.pieces.invariant.to_come c.in-Long.ensures

pub returns-in-Ok-eq0-clause-gives : goal.returns-in-Ok-eq0-clause-gives
returns-in-Ok-eq0-clause-gives g c =
    gives_rest c.take_rest.result _ _ _ _ _ _ _ c.find_line.new.self.line _ c.in-Ok-eq0.field-0 c.pieces.invariant.to_come c.in-Open.ensures c.in-Ok-eq0.ensures.bytes c.in-Ok-eq0.field-0-test c.take_rest.ensures
