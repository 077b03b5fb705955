use Rattle.std.proofs.Common.{Bool, subst}
use Rattle.inventory_rows.specs.object_rows.HeldRows.{held_versions}
use Rattle.inventory_bytes.specs.Segments.{of_filespaces, of_versions, Fills}
use Rattle.inventory_bytes.proofs.Filling.{both, filled-short}
use Rattle.inventory_bytes.proofs.segments.put_all.Goals as goal

pub returns-then-not-branch : goal.returns-then-not-branch
returns-then-not-branch c =
    filled-short (of_filespaces c.args.filespaces.now.entries) (of_versions (held_versions c.args.held.now.entries)) c.args.volumes.now.entries
    (subst (λ (b : Bool). Fills b c.args.volumes.now.entries c.put_filespaces.new.volumes.entries (of_filespaces c.args.filespaces.now.entries)) c.if-not-branch.true c.in_ok-put_filespaces.ensures)

pub returns : goal.returns
returns c =
    both (of_filespaces c.args.filespaces.now.entries) (of_versions (held_versions c.args.held.now.entries)) c.args.volumes.now.entries c.put_filespaces.new.volumes.entries c.put_held.new.volumes.entries c.put_held.result
    (subst (λ (b : Bool). Fills b c.args.volumes.now.entries c.put_filespaces.new.volumes.entries (of_filespaces c.args.filespaces.now.entries)) c.if-not-branch.false c.in_ok-put_filespaces.ensures) c.put_held.ensures
