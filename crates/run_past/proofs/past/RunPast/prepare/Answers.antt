use Rattle.std.proofs.Common.{◌∙◌, ap}
use Rattle.run_past.specs.Told.{Told, journal_from}
use Rattle.run_past.proofs.Noting.{same_told}
use Rattle.run_past.proofs.past.RunPast.prepare.Goals as goal

pub returns-clause-same : goal.returns-clause-same
returns-clause-same c =
    let old : Told = record { removed = c.self.inside.removed.entries; changed = c.self.inside.changed.entries; copies = c.self.inside.copies.entries; emptied = c.self.inside.emptied.entries } in
    same_told old (record { removed = c.for_objects.new.map.entries; changed = c.for_objects-2.new.map.entries; copies = c.for_copies.new.map.entries; emptied = c.for_paths.new.map.entries })
    c.for_objects.ensures.same c.for_objects-2.ensures.same c.for_copies.ensures.same c.for_paths.ensures.same ∙ ap journal_from c.self.view_is
