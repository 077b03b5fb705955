-- The transactions that a plan's lines ask for.
use Rattle.std.specs.Prelude.{ℕ, List, map}
use Rattle.entries.specs.change_items.declared.items.NamedVersion.{NamedVersion}
use Rattle.entries.specs.change_items.declared.items.Rebinding.{Rebinding}
use Rattle.entries.specs.declared.change.Change.TheVariants as change
use Rattle.client_plan.specs.declared.lines.GoneLine.{GoneLine}
use Rattle.client_plan.specs.declared.lines.RebindLine.{RebindLine}
use Rattle.steps.specs.declared.asked.Asked.{Asked}
use Rattle.steps.specs.declared.asked.Asked.TheVariants as asked
use Rattle.steps.specs.declared.asked.Item.{Item}
use Rattle.client_batches.specs.declared.listing.SealedLine.{SealedLine}

abbrev pub stored : SealedLine → Item
stored line = record { path = line.path; class = line.class; mtime = line.mtime; digest = line.digest }

-- the files become versions of their paths
abbrev pub storing : ℕ → List SealedLine → Asked
storing filespace lines = asked.Backup filespace (map stored lines)

abbrev pub rebound : RebindLine → Rebinding
rebound line = record { path = line.path; class = line.class }

-- the paths are bound to other classes
abbrev pub rebinding : ℕ → List RebindLine → Asked
rebinding filespace lines = asked.Plain (change.Rebind (record { filespace = filespace; items = map rebound lines }))

abbrev pub named : GoneLine → NamedVersion
named line = record { path = line.path; object = line.object }

-- the versions are no longer active
abbrev pub ending : ℕ → List GoneLine → Asked
ending filespace lines = asked.Plain (change.Gone (record { filespace = filespace; items = map named lines }))
