use Rattle.std.proofs.Common.{List, ap, ◌∙◌}
use Rattle.incrementals.specs.Filespaces.{number_in}
use Rattle.inventory_answers.specs.declared.lines.FilespaceLine.{FilespaceLine}
use Rattle.incrementals.proofs.Beginning.{finds-none, finds-one}
use Rattle.incrementals.proofs.filespaces.find_filespace.Goals as goal

pub returns-in-Err : goal.returns-in-Err
returns-in-Err g c =
    finds-none g.P.Stepper.did c.args.p.now c.ask_filespaces.new.p c.args.node.now c.args.filespace.now c.in-Err.refusal c.in-Err.ensures

pub returns : goal.returns
returns g c =
    finds-one g.P.Stepper.did c.args.p.now c.ask_filespaces.new.p c.args.node.now c.args.filespace.now c.in-Ok.lines c.number_in-found.result (c.number_in-found.ensures ∙ ap (λ (ls : List FilespaceLine). number_in c.args.filespace.now ls) c.as_slice.ensures) c.in-Ok.ensures
