use Rattle.std.proofs.Common.{sym}
use Rattle.object_rows.proofs.Counts.{counted_same}
use Rattle.object_rows.proofs.Made.{space_is_unused}
use Rattle.object_rows.proofs.NamedSpaces.{spaces_taken}
use Rattle.object_rows.proofs.SpaceLaws.{space_deleted}
use Rattle.object_rows.proofs.Weights.{deleted_weighs}
use Rattle.object_rows.proofs.spaces.delete.Goals as goal

pub returns-clause-indexed : goal.returns-clause-indexed
returns-clause-indexed c =
    space_deleted c.args.places.now.entries c.args.filespaces.now.entries c.remove.new.self.entries c.args.number c.in-Some.filespace.now c.requires.indexed (sym c.in-Some.ensures.value)
    (space_is_unused c.args.number c.args.held.now c.args.filespaces.now.entries c.in-Some.filespace.now c.in-Some.ensures.value c.requires.fine) c.remove.ensures.entries c.remove.ensures.ordered

pub returns-clause-counted : goal.returns-clause-counted
returns-clause-counted c = λ tally.
    counted_same tally c.args.filespaces.now.entries c.remove.new.self.entries
    (deleted_weighs c.args.number c.in-Some.filespace.now c.args.filespaces.now.entries c.remove.new.self.entries c.requires.indexed.orderly (sym c.in-Some.ensures.value)
    (space_is_unused c.args.number c.args.held.now c.args.filespaces.now.entries c.in-Some.filespace.now c.in-Some.ensures.value c.requires.fine) c.remove.ensures.entries)

pub returns-clause-named : goal.returns-clause-named
returns-clause-named c =
    spaces_taken c.args.spaces.now.entries c.take.new.spaces.entries c.args.filespaces.now.entries c.remove.new.self.entries c.args.number c.in-Some.filespace.now c.requires.named (sym c.in-Some.ensures.value)
    c.remove.ensures.entries c.take.ensures
