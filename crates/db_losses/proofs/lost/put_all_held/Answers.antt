use Rattle.std.proofs.Common.{◌≡◌, ◌∙◌, ℕ, List, ap, subst, sym}
use Rattle.inventory_rows.specs.object_rows.declared.held_object.HeldRow.{HeldRow}
use Rattle.db_losses.specs.declared.lost.Lost.{Lost}
use Rattle.db_losses.specs.Lost.{all_put, lost_in_held}
use Rattle.db_losses.proofs.Losing.{held_next}
use Rattle.db_losses.proofs.lost.put_all_held.Goals as goal

pub held-preserved : goal.held-preserved
held-preserved c =
    let losses = c.args.losses.now in
    let nodes = c.args.nodes.now.entries in
    let spaces = c.args.filespaces.now.entries in
    let rest = c.next.new.self in
    ap (λ (s : List (ℕ × Lost)). all_put (lost_in_held losses nodes spaces rest) s) c.in_ok-put_held.ensures.put
    ∙ sym (held_next losses nodes spaces (0, c.in-Some.row.now) rest c.held.out.entries)
    ∙ subst (λ (left : List (ℕ × HeldRow)). all_put (lost_in_held losses nodes spaces left) c.held.out.entries ≡ all_put (lost_in_held losses nodes spaces c.args.held.now.entries) c.args.out.now.entries) c.in-Some.ensures.steps c.held.invariant
