use Rattle.std.proofs.Common.{◌+◌, length, sym, ap, ◌∙◌}
use Rattle.object_rows.specs.Filespaces.{versions_of}
use Rattle.object_rows.specs.Rows.{Rows, kept_of}
use Rattle.object_rows.proofs.KeptLaws.{kept-length}
use Rattle.object_rows.proofs.RowLaws.{length-places}
use Rattle.object_rows.proofs.objects.Objects.count.Goals as goal

pub returns : goal.returns
returns c =
    ap (λ n. n + c.len-2.result) (c.len.ensures.len ∙ length-places c.self.inside.places.entries c.self.inside.filespaces.entries c.self.invariant.1)
    ∙ ap (λ n. length (versions_of c.self.inside.filespaces.entries) + n) c.len-2.ensures.value
    ∙ sym (kept-length (record { nodes = c.self.inside.nodes.entries; filespaces = c.self.inside.filespaces.entries; held = c.self.inside.held }))
    ∙ ap (λ (rows : Rows). length (kept_of rows)) c.self.view_is
