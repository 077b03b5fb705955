use Rattle.std.proofs.Common.{◌∙◌, ap, List, sym, ℕ}
use Rattle.inventory_rows.specs.version_groups.declared.group.Group.{Group}
use Rattle.inventory_rows.specs.version_groups.declared.versions.Version.{Version}
use Rattle.db_losses.specs.declared.lost.Lost.{Lost}
use Rattle.db_losses.specs.Lost.{all_put, lost_in_groups, lost_in_versions}
use Rattle.db_losses.proofs.Losing.{group_next}
use Rattle.db_losses.proofs.lost.put_groups.Goals as goal

pub groups-preserved : goal.groups-preserved
groups-preserved c =
    let losses = c.args.losses.now in
    let node = c.args.node.now in
    let space = c.args.filespace.now in
    let rest = c.next.new.self in
    ap (λ (s : List (ℕ × Lost)). all_put (lost_in_groups losses node space rest) s) c.in_ok-put_versions.ensures.put
    ∙ ap (λ (l : List Version). all_put (lost_in_groups losses node space rest) (all_put (lost_in_versions losses node space c.in-Some.path.now l) c.groups.out.entries)) c.as_slice.ensures.value
    ∙ sym (group_next losses node space (c.in-Some.path.now, c.in-Some.group.now) rest c.groups.out.entries)
    ∙ ap (λ (l : List (List ℕ × Group)). all_put (lost_in_groups losses node space l) c.groups.out.entries) (sym c.in-Some.ensures.steps) ∙ c.groups.invariant
