use Rattle.std.proofs.Common.{◌≡◌, ℕ, List, sym, ap, subst, ◌∙◌}
use Rattle.std.proofs.lemmas.Map.Entries.{entries_from_clone}
use Rattle.version_groups.specs.declared.groups.Filespace.{Filespace}
use Rattle.object_rows.specs.declared.held_object.HeldRow.{HeldRow}
use Rattle.object_rows.specs.declared.place.Node.{Node}
use Rattle.object_rows.specs.declared.place.Place.{Place}
use Rattle.object_rows.specs.declared.tally.Tally.{Tally}
use Rattle.object_rows.specs.HeldRows.{AreApart, AreHeld}
use Rattle.object_rows.specs.Names.{NodesIndexed, SpacesIndexed}
use Rattle.object_rows.specs.Places.{Indexed}
use Rattle.object_rows.specs.Tally.{IsCounted}
use Rattle.object_rows.proofs.Answered.{both_same}
use Rattle.object_rows.proofs.objects.ObjectsClone.clone.Goals as goal

pub invariant_of-result : goal.invariant_of-result
invariant_of-result c =
    let nodes : c.self.inside.nodes.entries ≡ c.in_ok-clone.field-0.entries = sym (entries_from_clone _ _ (λ x y e. e) (λ x y e. e) c.self.inside.nodes.entries c.in_ok-clone.field-0.entries c.in_ok-clone.ensures.cases) in
    let names : c.self.inside.names.entries ≡ c.in_ok-clone-2.field-0.entries = sym (entries_from_clone _ _ (λ x y e. e) (λ x y e. e) c.self.inside.names.entries c.in_ok-clone-2.field-0.entries c.in_ok-clone-2.ensures.cases) in
    let filespaces : c.self.inside.filespaces.entries ≡ c.in_ok-clone-3.field-0.entries = sym (entries_from_clone _ _ (λ x y e. e) (λ x y e. e) c.self.inside.filespaces.entries c.in_ok-clone-3.field-0.entries c.in_ok-clone-3.ensures.cases) in
    let spaces : c.self.inside.spaces.entries ≡ c.in_ok-clone-4.field-0.entries = sym (entries_from_clone _ _ (λ x y e. e) (λ x y e. e) c.self.inside.spaces.entries c.in_ok-clone-4.field-0.entries c.in_ok-clone-4.ensures.cases) in
    let places : c.self.inside.places.entries ≡ c.in_ok-clone-5.field-0.entries = sym (entries_from_clone _ _ (λ x y e. e) (λ x y e. e) c.self.inside.places.entries c.in_ok-clone-5.field-0.entries c.in_ok-clone-5.ensures.cases) in
    let tally : c.self.inside.tally ≡ c.in_ok-clone-6.field-0 = sym c.in_ok-clone-6.ensures.cases in
    let held : c.self.inside.held ≡ c.in_ok-clone-7.field-0 = sym c.in_ok-clone-7.ensures.cases in (
      both_same (λ (t : List (List ℕ × ℕ)) (u : List (ℕ × Node)). NodesIndexed t u) names nodes c.self.invariant.0,
      both_same (λ (t : List (ℕ × Place)) (u : List (ℕ × Filespace)). Indexed t u) places filespaces c.self.invariant.1,
      both_same (λ (t : Tally) (u : List (ℕ × Filespace)). IsCounted t u) tally filespaces c.self.invariant.2,
      both_same (λ (t : List (ℕ × List (List ℕ × ℕ))) (u : List (ℕ × Filespace)). SpacesIndexed t u) spaces filespaces c.self.invariant.3,
      subst AreHeld held c.self.invariant.4,
      both_same (λ (t : List (ℕ × Filespace)) (u : List (ℕ × HeldRow)). AreApart t u) filespaces held c.self.invariant.5,
    )

pub returns : goal.returns
returns c =
    let nodes : c.in_ok-clone.field-0.entries ≡ c.self.inside.nodes.entries = entries_from_clone _ _ (λ x y e. e) (λ x y e. e) c.self.inside.nodes.entries c.in_ok-clone.field-0.entries c.in_ok-clone.ensures.cases in
    let filespaces : c.in_ok-clone-3.field-0.entries ≡ c.self.inside.filespaces.entries = entries_from_clone _ _ (λ x y e. e) (λ x y e. e) c.self.inside.filespaces.entries c.in_ok-clone-3.field-0.entries c.in_ok-clone-3.ensures.cases in
    let held : c.in_ok-clone-7.field-0 ≡ c.self.inside.held = c.in_ok-clone-7.ensures.cases in
    record {
      cases =
          ap (λ (t : List (ℕ × Node)). record { nodes = t; filespaces = c.in_ok-clone-3.field-0.entries; held = c.in_ok-clone-7.field-0 }) nodes
          ∙ ap (λ (t : List (ℕ × Filespace)). record { nodes = c.self.inside.nodes.entries; filespaces = t; held = c.in_ok-clone-7.field-0 }) filespaces
          ∙ ap (λ (t : List (ℕ × HeldRow)). record { nodes = c.self.inside.nodes.entries; filespaces = c.self.inside.filespaces.entries; held = t }) held
          ∙ c.self.view_is;
    }
