use Rattle.std.proofs.Common.{◌≡◌, ℕ, List, None, sym, ap, subst, ◌∙◌}
use Rattle.std.specs.Map.{lookup}
use Rattle.object_rows.specs.Filespaces.{filespace_at}
use Rattle.object_rows.specs.Names.{SpacesIndexed, at_name, named_of}
use Rattle.object_rows.specs.SpaceNames.{Puts}
use Rattle.object_rows.proofs.Counts.{counted_same}
use Rattle.object_rows.proofs.Kept.{none_from}
use Rattle.object_rows.proofs.NamedSpaces.{spaces_back, spaces_put}
use Rattle.object_rows.proofs.SpaceLaws.{space_defined}
use Rattle.object_rows.proofs.Weights.{defined_weighs}
use Rattle.object_rows.proofs.spaces.define.Goals as goal

pub returns-in-Ok-clause-indexed : goal.returns-in-Ok-clause-indexed
returns-in-Ok-clause-indexed c =
    space_defined c.args.places.now.entries c.args.filespaces.now.entries c.insert.new.self.entries c.args.number (record { node = c.args.node; name = c.in_ok-clone.field-0; groups = c.new.result }) c.requires.indexed (none_from (filespace_at c.args.number c.args.filespaces.now.entries) c.requires.free) c.new.ensures
    c.in-Ok.ensures.entries c.in-Ok.ensures.ordered

pub returns-in-Ok-clause-named : goal.returns-in-Ok-clause-named
returns-in-Ok-clause-named c =
    let name : c.in_ok-clone.field-0 ≡ c.args.name.now = c.in_ok-clone.ensures.cases in
    let key : c.in_ok-clone-2.field-0 ≡ c.in_ok-clone.field-0 = c.in_ok-clone-2.ensures.cases ∙ sym name in
    let unnamed : lookup (at_name c.in_ok-clone.field-0) (named_of c.args.node c.args.filespaces.now.entries) ≡ None =
    ap (λ (t : List ℕ). lookup (at_name t) (named_of c.args.node c.args.filespaces.now.entries)) name
    ∙ c.requires.new in
    spaces_put c.args.spaces.now.entries c.put.new.spaces.entries c.args.filespaces.now.entries c.insert.new.self.entries c.args.number (record { node = c.args.node; name = c.in_ok-clone.field-0; groups = c.new.result }) c.requires.named unnamed
    (none_from (filespace_at c.args.number c.args.filespaces.now.entries) c.requires.free) c.in-Ok.ensures.entries
    (subst (λ (t : List ℕ). Puts c.args.node t c.args.number c.args.spaces.now.entries c.put.new.spaces.entries) key c.in_ok-put.ensures.put)

pub returns-in-Ok-clause-counted : goal.returns-in-Ok-clause-counted
returns-in-Ok-clause-counted c = λ tally.
    counted_same tally c.args.filespaces.now.entries c.insert.new.self.entries
    (defined_weighs c.args.number (record { node = c.args.node; name = c.in_ok-clone.field-0; groups = c.new.result }) c.args.filespaces.now.entries c.insert.new.self.entries c.requires.indexed.by_number
    (none_from (filespace_at c.args.number c.args.filespaces.now.entries) c.requires.free) c.new.ensures c.in-Ok.ensures.entries)

pub returns-clause-named : goal.returns-clause-named
returns-clause-named c =
    subst (SpacesIndexed c.take.new.spaces.entries) (sym c.in-Err.ensures.err)
    (spaces_back c.args.spaces.now.entries c.put.new.spaces.entries c.take.new.spaces.entries c.args.filespaces.now.entries c.args.node c.args.name.now c.args.number c.requires.named
    (c.requires.new)
    (subst (λ (t : List ℕ). Puts c.args.node t c.args.number c.args.spaces.now.entries c.put.new.spaces.entries) c.in_ok-clone-2.ensures.cases c.in_ok-put.ensures.put)
    c.take.ensures)
