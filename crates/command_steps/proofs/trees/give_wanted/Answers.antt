use Rattle.std.proofs.Common.{inl}
use Rattle.command_steps.proofs.Treed.{gives-none, gives-wanted}
use Rattle.command_steps.specs.Clients.{seen}
use Rattle.command_steps.proofs.trees.give_wanted.Goals as goal

pub returns-in-Ok-which_of : goal.returns-in-Ok-which_of
returns-in-Ok-which_of g c =
    gives-wanted g.P.Stepper.did c.args.p.now c.give_back-outcome.new.p c.args.files.now c.in-Ok-which_of.which (seen g.T.Tree.files g.T.Tree.fault_count c.args.tree.now) (seen g.T.Tree.files g.T.Tree.fault_count c.give_back-outcome.new.tree) c.give_back-outcome.result
    c.in-Ok-which_of.ensures c.give_back-outcome.ensures

pub returns-in-Err-which_of : goal.returns-in-Err-which_of
returns-in-Err-which_of g c = gives-none g.P.Stepper.did c.args.p.now c.args.files.now (seen g.T.Tree.files g.T.Tree.fault_count c.args.tree.now) c.in-Err-which_of.refusal (g.met.P.Stepper.stays c.args.p.now) c.in-Err-which_of.ensures

pub returns-in-Err : goal.returns-in-Err
returns-in-Err g c = gives-none g.P.Stepper.did c.args.p.now c.args.files.now (seen g.T.Tree.files g.T.Tree.fault_count c.args.tree.now) c.in-Err.refusal (g.met.P.Stepper.stays c.args.p.now) (inl c.in-Err.ensures.memory)
