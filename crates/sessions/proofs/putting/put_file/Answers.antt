use Rattle.client_files.specs.Reading.{file_of}
use Rattle.steps.proofs.Joining.{so_call}
use Rattle.sessions.proofs.Reasons.{putting-of}
use Rattle.sessions.specs.Putting.{Puts, Putting}
use Rattle.sessions.proofs.putting.put_file.Goals as goal

pub returns-clause-puts : goal.returns-clause-puts
returns-clause-puts g c =
    let given = file_of (g.T.Tree.files c.args.tree.now) c.args.file.now.path in
    so_call g.P.Stepper.did (λ events. Puts c.args.node.now c.args.filespace.now c.args.binder.now given c.args.file.now events c.find_and_put.result)
    (λ events. Putting c.args.node.now c.args.filespace.now c.args.binder.now given c.args.file.now events c.find_and_put.result) c.args.p.now c.find_and_put.new.p c.find_and_put.ensures.puts
    (λ events h. putting-of c.args.binder.now given c.args.file.now c.args.node.now c.args.filespace.now events c.find_and_put.result h)
