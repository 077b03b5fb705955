use Rattle.std.proofs.Common.{ℕ, List, sym, ap, ◌∙◌}
use Rattle.std.specs.Option.{option_map}
use Rattle.version_groups.specs.Versions.{version_of}
use Rattle.object_rows.specs.declared.held_object.HeldRow.{HeldRow}
use Rattle.object_rows.specs.HeldRows.{held_versions}
use Rattle.object_rows.proofs.HeldLists.{version-held}
use Rattle.object_rows.proofs.held_rows.HeldRows.version.Goals as goal

pub returns-in-None : goal.returns-in-None
returns-in-None c =
    ap (option_map (λ (r : HeldRow). r.held.version)) c.in-None.ensures.value ∙ sym (version-held c.args.object c.self.inside.map.entries c.self.invariant.0.numbered)
    ∙ ap (λ (held : List (ℕ × HeldRow)). version_of c.args.object (held_versions held)) c.self.view_is

pub returns-in-Some : goal.returns-in-Some
returns-in-Some c =
    ap (option_map (λ (r : HeldRow). r.held.version)) c.in-Some.ensures.value ∙ sym (version-held c.args.object c.self.inside.map.entries c.self.invariant.0.numbered)
    ∙ ap (λ (held : List (ℕ × HeldRow)). version_of c.args.object (held_versions held)) c.self.view_is
