use Rattle.std.proofs.Common.{ℕ, List, sym, subst}
use Rattle.admin_words.specs.declared.files.Contents.{Contents}
use Rattle.command_steps.proofs.Written.{puts-all}
use Rattle.command_steps.specs.Clients.{seen}
use Rattle.command_steps.specs.Writing.{PutsFile, PutsMore, bytes_of}
use Rattle.command_steps.proofs.writing.put_contents.Goals as goal

pub returns-in-Text : goal.returns-in-Text
returns-in-Text g c =
    subst (λ (it : Contents). PutsFile c.args.path.now (bytes_of it) 0 (seen g.T.Tree.files g.T.Tree.fault_count c.args.tree.now) (seen g.T.Tree.files g.T.Tree.fault_count c.put_bytes.new.tree) c.put_bytes.result) (sym c.in-Text.is)
    (puts-all c.args.path.now c.in-Text.text (seen g.T.Tree.files g.T.Tree.fault_count c.args.tree.now) (seen g.T.Tree.files g.T.Tree.fault_count c.put_bytes.new.tree) c.put_bytes.result c.requires.begun
    (subst (λ (bytes : List ℕ). PutsMore c.args.path.now bytes (seen g.T.Tree.files g.T.Tree.fault_count c.args.tree.now) (seen g.T.Tree.files g.T.Tree.fault_count c.put_bytes.new.tree) c.put_bytes.result) c.as_bytes.ensures c.put_bytes.ensures))
