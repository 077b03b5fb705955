use Rattle.client_trees.specs.Files.{appended, created}
use Rattle.client_trees.specs.Memory.{TreeState}
use Rattle.command_steps.proofs.Worked.{file-of}
use Rattle.std.proofs.Common.{ℕ, List, ap, ◌∙◌}
use Rattle.command_steps.proofs.doing.tree_of.Goals as goal

pub returns-in-Ok-finish-clause-there : goal.returns-in-Ok-finish-clause-there
returns-in-Ok-finish-clause-there c = file-of c.args.file.now c.create.new.self.files c.append.new.self.files c.finish.new.self.files
    (ap (λ (t : TreeState). t.files) c.in-Ok.ensures.state ∙ ap (λ (t : TreeState). created c.args.file.now.path t.files) c.new-tree.ensures)
    (ap (λ (t : TreeState). t.files) c.in-Ok-append.ensures.state ∙ ap (λ (text : List ℕ). appended c.args.file.now.path text c.create.new.self.files) c.as_bytes.ensures)
    (ap (λ (t : TreeState). t.files) c.in-Ok-finish.ensures.state)
