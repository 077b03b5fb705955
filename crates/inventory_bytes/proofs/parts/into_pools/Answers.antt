use Rattle.std.proofs.Common.{Bool, subst}
use Rattle.inventory_bytes.specs.Payload.{stores_with}
use Rattle.inventory_bytes.specs.Segments.{of_kept, Fills}
use Rattle.inventory_bytes.proofs.Tables.{none_filled, not_there}
use Rattle.inventory_bytes.proofs.parts.into_pools.Goals as goal

pub returns-then-not-branch-clause-none : goal.returns-then-not-branch-clause-none
returns-then-not-branch-clause-none c = λ sound there.
    not_there c.args.filespaces.now.entries c.args.held.now.entries c.args.volumes.entries
    (subst (λ (b : Bool). Fills b c.args.volumes.entries c.put_all.new.volumes.entries (of_kept c.args.filespaces.now.entries c.args.held.now.entries)) c.if-not-branch.true c.in_ok-put_all.ensures) there

pub returns-in-Ok-clause-none : goal.returns-in-Ok-clause-none
returns-in-Ok-clause-none c =
    none_filled c.args.filespaces.now.entries c.args.held.now.entries (stores_with (c.args.classes.entries, (c.args.pools.entries, c.args.volumes.entries))) c.put_all.new.volumes.entries c.in-Ok.made
    (subst (λ (b : Bool). Fills b c.args.volumes.entries c.put_all.new.volumes.entries (of_kept c.args.filespaces.now.entries c.args.held.now.entries)) c.if-not-branch.false c.in_ok-put_all.ensures) c.in-Ok.ensures
