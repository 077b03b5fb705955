use Rattle.std.proofs.Common.{◌≡◌, ◌∙◌, ℕ, List, ap, subst, sym}
use Rattle.inventory_rows.specs.version_groups.declared.groups.Filespace.{Filespace}
use Rattle.db_losses.specs.declared.lost.Lost.{Lost}
use Rattle.db_losses.specs.Lost.{all_put, lost_in_filespaces}
use Rattle.db_losses.proofs.Losing.{filespace_next}
use Rattle.db_losses.proofs.lost.put_filespaces.Goals as goal

pub filespaces-preserved : goal.filespaces-preserved
filespaces-preserved c =
    let losses = c.args.losses.now in
    let nodes = c.args.nodes.now.entries in
    let rest = c.next.new.self in
    ap (λ (s : List (ℕ × Lost)). all_put (lost_in_filespaces losses nodes rest) s) c.in_ok-put_filespace.ensures.put
    ∙ sym (filespace_next losses nodes (0, c.in-Some.filespace.now) rest c.filespaces.out.entries)
    ∙ subst (λ (left : List (ℕ × Filespace)). all_put (lost_in_filespaces losses nodes left) c.filespaces.out.entries ≡ all_put (lost_in_filespaces losses nodes c.args.filespaces.now.entries) c.args.out.now.entries) c.in-Some.ensures.steps c.filespaces.invariant
