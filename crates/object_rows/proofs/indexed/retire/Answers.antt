use Rattle.version_groups.specs.declared.group.GroupChange.TheVariants.{Gone}
use Rattle.object_rows.specs.Filespaces.{filespaces_after, versions_at}
use Rattle.object_rows.proofs.Steps.{listed-retired}
use Rattle.object_rows.proofs.Counts.{counted_same}
use Rattle.object_rows.proofs.Kept.{indexed_change}
use Rattle.object_rows.proofs.Answered.{made}
use Rattle.object_rows.proofs.Weights.{gone_weighs}
use Rattle.object_rows.proofs.indexed.retire.Goals as goal

pub returns-clause-indexed : goal.returns-clause-indexed
returns-clause-indexed c =
    indexed_change c.args.places.now.entries c.args.number c.args.path.now (Gone c.args.object c.args.today) c.args.filespaces.now.entries c.change.new.map.entries c.requires
    (made c.change.result c.args.filespaces.now.entries c.change.new.map.entries (filespaces_after c.args.number c.args.path.now (Gone c.args.object c.args.today) c.args.filespaces.now.entries) c.change.ensures.value)
    (c.change.ensures.orderly c.requires.orderly)
    (listed-retired c.args.number c.args.path.now c.args.today (versions_at c.args.number c.args.path.now c.args.filespaces.now.entries))

pub returns-clause-counted : goal.returns-clause-counted
returns-clause-counted c = λ tally.
    counted_same tally c.args.filespaces.now.entries c.change.new.map.entries
    (gone_weighs c.args.number c.args.path.now c.args.object c.args.today c.args.filespaces.now.entries c.change.new.map.entries c.requires.orderly
    (made c.change.result c.args.filespaces.now.entries c.change.new.map.entries (filespaces_after c.args.number c.args.path.now (Gone c.args.object c.args.today) c.args.filespaces.now.entries) c.change.ensures.value))
