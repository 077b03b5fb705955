use Rattle.std.proofs.Common.{◌≡◌, ℕ, List, ap, subst, sym, ◌∙◌}
use Rattle.std.proofs.lemmas.Bool.{false≢true}
use Rattle.std.specs.Cmp.Lexicographic.{slice_cmp}
use Rattle.std.specs.Ordering.{nat_cmp}
use Rattle.object_rows.specs.declared.held_object.HeldRow.{HeldRow}
use Rattle.object_rows.specs.HeldRows.{AreApart, AreHeld, are_held_rows}
use Rattle.object_rows.specs.Names.{named}
use Rattle.object_rows.specs.Places.{listed}
use Rattle.object_rows.proofs.Apart.{apart_tested, tested_apart}
use Rattle.object_rows.proofs.Builds.{built, not_built}
use Rattle.object_rows.proofs.HeldLists.{taken_over}
use Rattle.object_rows.proofs.KeptLaws.{distinct-apart, distinct-versions, kept-distinct}
use Rattle.object_rows.proofs.NamedSpaces.{names_built, names_not_built}
use Rattle.object_rows.proofs.Stands.{distinct-listed, listed-distinct}
use Rattle.object_rows.proofs.objects.Objects.from_parts.Goals as goal

pub returns-then-not-branch-2 : goal.returns-then-not-branch-2
returns-then-not-branch-2 c = λ sound.
    names_not_built c.in_ok-add_spaces.field-0 c.new-spaces.result.entries c.add_spaces.new.spaces.entries c.args.filespaces.entries c.in_ok-add_spaces.ensures c.new-spaces.ensures.empty c.if-not-branch-2.true sound.spaces

pub returns-then-not-branch-3 : goal.returns-then-not-branch-3
returns-then-not-branch-3 c = λ sound.
    not_built nat_cmp c.in_ok-add_filespaces.field-0 c.new-places.result.entries c.add_filespaces.new.places.entries (listed c.args.filespaces.entries) c.in_ok-add_filespaces.ensures c.new-places.ensures.empty c.if-not-branch-3.true
    (listed-distinct c.args.filespaces.entries (distinct-versions (record { nodes = c.args.nodes.entries; filespaces = c.args.filespaces.entries; held = c.args.held.entries }) sound.objects))

pub returns-then-not-are_apart : goal.returns-then-not-are_apart
returns-then-not-are_apart c = λ sound.
    false≢true (sym (sym c.are_apart.ensures ∙ c.if-not-are_apart.true)
    ∙ apart_tested c.add_filespaces.new.places.entries c.args.filespaces.entries c.args.held.entries
    (built nat_cmp c.in_ok-add_filespaces.field-0 c.new-places.result.entries c.add_filespaces.new.places.entries (listed c.args.filespaces.entries) c.in_ok-add_filespaces.ensures c.new-places.ensures.empty c.if-not-branch-3.false)
    (distinct-apart (record { nodes = c.args.nodes.entries; filespaces = c.args.filespaces.entries; held = c.args.held.entries }) sound.held sound.objects))

pub invariant_of-result : goal.invariant_of-result
invariant_of-result c = (
  record {
    index = built (slice_cmp nat_cmp) c.in_ok-add_nodes.field-0 c.new-names.result.entries c.add_nodes.new.names.entries (named c.args.nodes.entries) c.in_ok-add_nodes.ensures c.new-names.ensures.empty c.if-not-branch.false;
    by_number = c.len.ensures.ordered;
  },
  record {
    index = built nat_cmp c.in_ok-add_filespaces.field-0 c.new-places.result.entries c.add_filespaces.new.places.entries (listed c.args.filespaces.entries) c.in_ok-add_filespaces.ensures c.new-places.ensures.empty c.if-not-branch-3.false;
    by_number = c.len-2.ensures.ordered;
    orderly = c.are_all_full.ensures.orderly c.if-not-are_all_full.false;
  },
  c.of-tally.ensures,
  names_built c.in_ok-add_spaces.field-0 c.new-spaces.result.entries c.add_spaces.new.spaces.entries c.args.filespaces.entries c.in_ok-add_spaces.ensures c.new-spaces.ensures.empty c.if-not-branch-2.false,
  c.in-Some.ensures.held,
  subst (AreApart c.args.filespaces.entries) (sym (taken_over (are_held_rows c.args.held.entries) c.in-Some.held c.args.held.entries c.in-Some.ensures.value))
      (tested_apart c.add_filespaces.new.places.entries c.args.filespaces.entries c.args.held.entries
      (built nat_cmp c.in_ok-add_filespaces.field-0 c.new-places.result.entries c.add_filespaces.new.places.entries (listed c.args.filespaces.entries) c.in_ok-add_filespaces.ensures c.new-places.ensures.empty c.if-not-branch-3.false)
      (sym c.are_apart.ensures ∙ c.if-not-are_apart.false)),
)

pub returns : goal.returns
returns c =
    let same : c.in-Some.held ≡ c.args.held.entries = taken_over (are_held_rows c.args.held.entries) c.in-Some.held c.args.held.entries c.in-Some.ensures.value in (
      ap (λ (t : List (ℕ × HeldRow)). record { nodes = c.args.nodes.entries; filespaces = c.args.filespaces.entries; held = t }) same,
      record {
        names = (built (slice_cmp nat_cmp) c.in_ok-add_nodes.field-0 c.new-names.result.entries c.add_nodes.new.names.entries (named c.args.nodes.entries) c.in_ok-add_nodes.ensures c.new-names.ensures.empty c.if-not-branch.false).distinct;
        spaces = λ node. ((names_built c.in_ok-add_spaces.field-0 c.new-spaces.result.entries c.add_spaces.new.spaces.entries c.args.filespaces.entries c.in_ok-add_spaces.ensures c.new-spaces.ensures.empty c.if-not-branch-2.false).index node).distinct;
        objects =
            kept-distinct (record { nodes = c.args.nodes.entries; filespaces = c.args.filespaces.entries; held = c.args.held.entries }) (subst AreHeld same c.in-Some.ensures.held)
            (tested_apart c.add_filespaces.new.places.entries c.args.filespaces.entries c.args.held.entries
            (built nat_cmp c.in_ok-add_filespaces.field-0 c.new-places.result.entries c.add_filespaces.new.places.entries (listed c.args.filespaces.entries) c.in_ok-add_filespaces.ensures c.new-places.ensures.empty c.if-not-branch-3.false)
            (sym c.are_apart.ensures ∙ c.if-not-are_apart.false))
            (distinct-listed c.args.filespaces.entries
            (built nat_cmp c.in_ok-add_filespaces.field-0 c.new-places.result.entries c.add_filespaces.new.places.entries (listed c.args.filespaces.entries) c.in_ok-add_filespaces.ensures c.new-places.ensures.empty c.if-not-branch-3.false).distinct);
        full = sym c.are_all_full.ensures.value ∙ c.if-not-are_all_full.false;
        held = (subst AreHeld same c.in-Some.ensures.held).numbered;
      },
    )
