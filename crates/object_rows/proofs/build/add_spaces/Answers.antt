use Rattle.std.proofs.Common.{ℕ, List, sym, ap, subst, ◌∙◌}
use Rattle.std.specs.Cmp.Lexicographic.{slice_cmp}
use Rattle.std.specs.Map.{lookup}
use Rattle.std.specs.Option.{is_some}
use Rattle.std.specs.Ordering.{nat_cmp}
use Rattle.version_groups.specs.declared.groups.Filespace.{Filespace}
use Rattle.object_rows.specs.Names.{at_name, named_of, names_at}
use Rattle.object_rows.specs.SpaceNames.{Puts}
use Rattle.object_rows.proofs.Builds.{Progress}
use Rattle.object_rows.proofs.Kept.{none_from}
use Rattle.object_rows.proofs.NamedSpaces.{names_step, names_stop}
use Rattle.object_rows.proofs.build.add_spaces.Goals as goal

pub returns-then-is_some : goal.returns-then-is_some
returns-then-is_some c =
    names_stop c.args.spaces.now.entries c.filespaces.spaces.entries c.args.filespaces.now.entries c.next.new.self (c.in-Some.number.now, c.in-Some.filespace.now)
    (λ m. subst (λ (left : List (ℕ × Filespace)). Progress (slice_cmp nat_cmp) (names_at m c.args.spaces.now.entries) (names_at m c.filespaces.spaces.entries) (named_of m c.args.filespaces.now.entries) (named_of m left)) c.in-Some.ensures.steps (c.filespaces.invariant m))
    (ap is_some (sym c.get.ensures) ∙ sym c.is_some.ensures ∙ c.if-is_some.true)

pub filespaces-preserved : goal.filespaces-preserved
filespaces-preserved c =
    names_step c.args.spaces.now.entries c.filespaces.spaces.entries c.put.new.spaces.entries c.args.filespaces.now.entries c.next.new.self (c.in-Some.number.now, c.in-Some.filespace.now)
    (λ m. subst (λ (left : List (ℕ × Filespace)). Progress (slice_cmp nat_cmp) (names_at m c.args.spaces.now.entries) (names_at m c.filespaces.spaces.entries) (named_of m c.args.filespaces.now.entries) (named_of m left)) c.in-Some.ensures.steps (c.filespaces.invariant m))
    (none_from (lookup (at_name c.in-Some.filespace.now.name) (names_at c.in-Some.filespace.now.node c.filespaces.spaces.entries)) (ap is_some (sym c.get.ensures) ∙ sym c.is_some.ensures ∙ c.if-is_some.false))
    (subst (λ (t : List ℕ). Puts c.in-Some.filespace.now.node t c.in-Some.number.now c.filespaces.spaces.entries c.put.new.spaces.entries) c.in_ok-name.ensures.cases c.in_ok-put.ensures.put)
