use Rattle.std.proofs.Common.{◌≡◌, ◌||◌, false, true, sym, ap, ◌∙◌}
use Rattle.std.specs.Option.{is_some}
use Rattle.version_groups.specs.Versions.{has_object}
use Rattle.object_rows.specs.Filespaces.{versions_of}
use Rattle.object_rows.specs.HeldRows.{has_row}
use Rattle.object_rows.specs.Rows.{Rows, kept_of}
use Rattle.object_rows.proofs.KeptLaws.{kept-has_at}
use Rattle.object_rows.proofs.Stands.{has-listed}
use Rattle.object_rows.proofs.objects.Objects.has_object.Goals as goal

pub returns-then-contains_key : goal.returns-then-contains_key
returns-then-contains_key c =
    let present : has_object c.args.object (versions_of c.self.inside.filespaces.entries) ≡ true = sym (c.contains_key.ensures ∙ ap is_some (c.self.invariant.1.index.found c.args.object) ∙ has-listed c.args.object c.self.inside.filespaces.entries) ∙ c.if-contains_key.true in
    c.if-contains_key.true ∙ sym (kept-has_at c.args.object (record { nodes = c.self.inside.nodes.entries; filespaces = c.self.inside.filespaces.entries; held = c.self.inside.held }) c.self.invariant.4.numbered ∙ ap (λ b. b || has_row c.args.object c.self.inside.held) present)
    ∙ ap (λ (rows : Rows). has_object c.args.object (kept_of rows)) c.self.view_is

pub returns-else-contains_key : goal.returns-else-contains_key
returns-else-contains_key c =
    let absent : has_object c.args.object (versions_of c.self.inside.filespaces.entries) ≡ false = sym (c.contains_key.ensures ∙ ap is_some (c.self.invariant.1.index.found c.args.object) ∙ has-listed c.args.object c.self.inside.filespaces.entries) ∙ c.if-contains_key.false in
    c.contains.ensures
    ∙ sym (kept-has_at c.args.object (record { nodes = c.self.inside.nodes.entries; filespaces = c.self.inside.filespaces.entries; held = c.self.inside.held }) c.self.invariant.4.numbered ∙ ap (λ b. b || has_row c.args.object c.self.inside.held) absent)
    ∙ ap (λ (rows : Rows). has_object c.args.object (kept_of rows)) c.self.view_is
