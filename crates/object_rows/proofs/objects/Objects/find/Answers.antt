use Rattle.std.proofs.Common.{◌≡◌, Some, true, refl, ap, subst, ◌∙◌}
use Rattle.version_groups.specs.Versions.{are_distinct, version_of}
use Rattle.object_rows.specs.Rows.{Rows, kept_of}
use Rattle.object_rows.proofs.KeptLaws.{kept-distinct, kept-found, kept-not_found}
use Rattle.object_rows.proofs.Stands.{distinct-listed}
use Rattle.object_rows.proofs.objects.Objects.find.Goals as goal

pub returns-in-Some-clause-value : goal.returns-in-Some-clause-value
returns-in-Some-clause-value c =
    kept-found c.args.object (record { nodes = c.self.inside.nodes.entries; filespaces = c.self.inside.filespaces.entries; held = c.self.inside.held }) (Some c.in-Some.version.now) c.in-Some.version.now refl c.in-Some.ensures
    ∙ ap (λ (rows : Rows). version_of c.args.object (kept_of rows)) c.self.view_is

pub returns-in-Some-clause-distinct : goal.returns-in-Some-clause-distinct
returns-in-Some-clause-distinct c =
    subst (λ (rows : Rows). are_distinct (kept_of rows) ≡ true) c.self.view_is
    (kept-distinct (record { nodes = c.self.inside.nodes.entries; filespaces = c.self.inside.filespaces.entries; held = c.self.inside.held }) c.self.invariant.4 c.self.invariant.5 (distinct-listed c.self.inside.filespaces.entries c.self.invariant.1.index.distinct))

pub returns-in-None-clause-value : goal.returns-in-None-clause-value
returns-in-None-clause-value c =
    kept-not_found c.args.object (record { nodes = c.self.inside.nodes.entries; filespaces = c.self.inside.filespaces.entries; held = c.self.inside.held }) _ c.in-None.ensures c.version.ensures
    ∙ ap (λ (rows : Rows). version_of c.args.object (kept_of rows)) c.self.view_is

pub returns-in-None-clause-distinct : goal.returns-in-None-clause-distinct
returns-in-None-clause-distinct c =
    subst (λ (rows : Rows). are_distinct (kept_of rows) ≡ true) c.self.view_is
    (kept-distinct (record { nodes = c.self.inside.nodes.entries; filespaces = c.self.inside.filespaces.entries; held = c.self.inside.held }) c.self.invariant.4 c.self.invariant.5 (distinct-listed c.self.inside.filespaces.entries c.self.invariant.1.index.distinct))
