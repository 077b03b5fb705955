use Rattle.steps.proofs.Joining.{so_call}
use Rattle.client_files.specs.Outcomes.{Writing}
use Rattle.client_files.specs.Reading.{file_of}
use Rattle.client_files.specs.Writing.{Puts}
use Rattle.client_files.proofs.Whole.{writing-of}
use Rattle.client_files.proofs.sending.write_file.Goals as goal

pub returns-clause-writes : goal.returns-clause-writes
returns-clause-writes g c =
    let file = file_of (g.T.Tree.files c.args.tree.now) c.args.file.now.path in
    let size = c.args.file.now.size in
    let before = g.T.Tree.fault_count c.args.tree.now in
    let after = g.T.Tree.fault_count c.open_and_keep.new.tree in
    so_call g.P.Stepper.did (λ events. Puts file c.args.pool size before after events c.open_and_keep.result) (λ events. Writing file c.args.pool size before after events c.open_and_keep.result)
    c.args.p.now c.open_and_keep.new.p c.open_and_keep.ensures.puts (λ events h. writing-of file c.args.pool size before after events c.open_and_keep.result c.open_and_keep.ensures.rises h)
