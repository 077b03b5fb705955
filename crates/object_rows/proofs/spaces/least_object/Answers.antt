use Rattle.std.proofs.Common.{List, ℕ, map, Option, sym, ap, ◌∙◌}
use Rattle.version_groups.specs.declared.group.Group.{Group}
use Rattle.version_groups.specs.declared.versions.Version.{Version}
use Rattle.version_groups.specs.kinds.Least.{lesser}
use Rattle.object_rows.specs.Changes.{least, least_object}
use Rattle.object_rows.proofs.Least.{least_group_more}
use Rattle.object_rows.proofs.spaces.least_object.Goals as goal

pub groups-preserved : goal.groups-preserved
groups-preserved c =
    ap (λ (o : Option ℕ). lesser o (least_object c.next.new.self)) (c.lesser-found.ensures ∙ ap (lesser c.groups.found) (c.least_of.ensures ∙ ap (λ (vs : List Version). least (map (λ (v : Version). v.object) vs)) c.as_slice.ensures.value))
    ∙ least_group_more c.groups.found (c.in-Some.field-0-0.now, c.in-Some.group.now) c.next.new.self
    ∙ ap (λ (gs : List (List ℕ × Group)). lesser c.groups.found (least_object gs)) (sym c.in-Some.ensures.steps)
    ∙ c.groups.invariant
