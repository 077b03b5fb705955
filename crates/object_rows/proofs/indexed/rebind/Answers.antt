use Rattle.std.proofs.Common.{refl}
use Rattle.version_groups.specs.declared.group.GroupChange.TheVariants.{Rebind}
use Rattle.object_rows.specs.Filespaces.{filespaces_after}
use Rattle.object_rows.proofs.Counts.{counted_same}
use Rattle.object_rows.proofs.Kept.{indexed_change}
use Rattle.object_rows.proofs.Answered.{made}
use Rattle.object_rows.proofs.Weights.{rebind_weighs}
use Rattle.object_rows.proofs.indexed.rebind.Goals as goal

pub returns-clause-indexed : goal.returns-clause-indexed
returns-clause-indexed c =
    indexed_change c.args.places.now.entries c.args.number c.args.path.now (Rebind c.args.class) c.args.filespaces.now.entries c.change.new.map.entries c.requires
    (made c.change.result c.args.filespaces.now.entries c.change.new.map.entries (filespaces_after c.args.number c.args.path.now (Rebind c.args.class) c.args.filespaces.now.entries) c.change.ensures.value)
    (c.change.ensures.orderly c.requires.orderly)
    refl

pub returns-clause-counted : goal.returns-clause-counted
returns-clause-counted c = λ tally.
    counted_same tally c.args.filespaces.now.entries c.change.new.map.entries
    (rebind_weighs c.args.number c.args.path.now c.args.class c.args.filespaces.now.entries c.change.new.map.entries c.requires.orderly
    (made c.change.result c.args.filespaces.now.entries c.change.new.map.entries (filespaces_after c.args.number c.args.path.now (Rebind c.args.class) c.args.filespaces.now.entries) c.change.ensures.value))
