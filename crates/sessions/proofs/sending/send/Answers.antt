use Rattle.std.proofs.Common.{Option, sym, subst, ◌∙◌, arith}
use Rattle.client_files.specs.Reading.{file_of}
use Rattle.client_trees.specs.Files.{Files}
use Rattle.steps.specs.Calls.{Call}
use Rattle.sessions.specs.Putting.{SendsOnce}
use Rattle.sessions.proofs.Trying.{obtains-came, obtains-stopped, obtains-used, waits-more}
use Rattle.sessions.proofs.sending.send.Goals as goal

pub tries-preserved : goal.tries-preserved
tries-preserved g c = record {
  waited =
      waits-more g.P.Stepper.did g.met.P.Stepper.goes_on (SendsOnce (file_of (g.T.Tree.files c.args.tree.now) c.args.file.now.path) c.args.pool c.args.file.now.size) c.args.p.now c.tries.p c.send_once-answer.new.p
      c.wait.new.self c.tries.tries c.send_once-answer.result c.in-Some.holder c.tries.invariant.waited
      (subst (λ (told : Option Files). Call g.P.Stepper.did c.tries.p c.send_once-answer.new.p (SendsOnce (file_of told c.args.file.now.path) c.args.pool c.args.file.now.size c.send_once-answer.result)) c.tries.invariant.kept c.send_once-answer.ensures.sends)
      (sym c.in-Some.ensures) c.in-Ok.ensures;
  within = omega (arith, c.tries-test.true);
  kept = c.send_once-answer.ensures.kept ∙ c.tries.invariant.kept;
  rises = omega (arith, c.send_once-answer.ensures.rises, c.tries.invariant.rises);
  long = c.send_once-answer.ensures.long ∙ c.tries.invariant.long;
}

pub returns-in-Err-clause-sends : goal.returns-in-Err-clause-sends
returns-in-Err-clause-sends g c =
    obtains-stopped g.P.Stepper.did g.met.P.Stepper.goes_on (SendsOnce (file_of (g.T.Tree.files c.args.tree.now) c.args.file.now.path) c.args.pool c.args.file.now.size) c.args.p.now c.tries.p c.send_once-answer.new.p
    c.wait.new.self c.tries.tries c.send_once-answer.result c.in-Some.holder c.in-Err.refusal c.tries.invariant.waited
    (subst (λ (told : Option Files). Call g.P.Stepper.did c.tries.p c.send_once-answer.new.p (SendsOnce (file_of told c.args.file.now.path) c.args.pool c.args.file.now.size c.send_once-answer.result)) c.tries.invariant.kept c.send_once-answer.ensures.sends)
    (sym c.in-Some.ensures) c.in-Err.ensures

pub returns-in-None-clause-sends : goal.returns-in-None-clause-sends
returns-in-None-clause-sends g c =
    obtains-came g.P.Stepper.did g.met.P.Stepper.goes_on (SendsOnce (file_of (g.T.Tree.files c.args.tree.now) c.args.file.now.path) c.args.pool c.args.file.now.size) c.args.p.now c.tries.p c.send_once-answer.new.p
    c.tries.tries c.send_once-answer.result c.tries.invariant.waited
    (subst (λ (told : Option Files). Call g.P.Stepper.did c.tries.p c.send_once-answer.new.p (SendsOnce (file_of told c.args.file.now.path) c.args.pool c.args.file.now.size c.send_once-answer.result)) c.tries.invariant.kept c.send_once-answer.ensures.sends)
    (sym c.in-None.ensures)

pub returns-clause-sends : goal.returns-clause-sends
returns-clause-sends g c =
    obtains-used g.P.Stepper.did g.met.P.Stepper.goes_on (SendsOnce (file_of (g.T.Tree.files c.args.tree.now) c.args.file.now.path) c.args.pool c.args.file.now.size) c.args.p.now c.tries.p c.tries.tries
    (g.met.P.Stepper.stays c.tries.p) (omega (arith, c.tries-test.false, c.tries.invariant.within)) c.tries.invariant.waited
