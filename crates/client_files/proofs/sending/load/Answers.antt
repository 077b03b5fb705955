use Rattle.std.proofs.Common.{◌≤◌, Option, IfSome, length, subst}
use Rattle.client_trees.specs.Files.{Files}
use Rattle.client_files.specs.Reading.{file_of}
use Rattle.client_files.proofs.Filling.{loads-whole}
use Rattle.client_files.proofs.sending.load.Goals as goal

pub returns-in-Ok-see_end-clause-loads : goal.returns-in-Ok-see_end-clause-loads
returns-in-Ok-see_end-clause-loads g c =
    loads-whole g.P.Stepper.did c.args.p.now c.copy_bytes.new.p (file_of (g.T.Tree.files c.args.tree.now) c.args.path.now) c.args.ticket c.args.size
    (g.T.Tree.fault_count c.args.tree.now) (g.T.Tree.fault_count c.copy_bytes.new.tree) (g.T.Tree.fault_count c.see_end.new.tree) c.in-Ok.digest c.in-Ok.ensures.copies
    (subst (λ (told : Option Files). IfSome (file_of told c.args.path.now) (λ f. length f.bytes ≤ c.args.size)) c.copy_bytes.ensures.kept c.in-Ok-see_end.ensures.ended)
