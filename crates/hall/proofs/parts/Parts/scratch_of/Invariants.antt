use Rattle.std.proofs.Common.{◌≡◌, drop}
use Rattle.std.specs.List.{flat_map}
use Rattle.machine.specs.Changes.{all_tickets, new_files, scratch_of}
use Rattle.hall.specs.Commits.{scratch_more}
use Rattle.hall.specs.Sights.{sight_of}
use Rattle.hall.proofs.parts.Parts.scratch_of.Given as goal

abbrev pub invariant-numbers : goal.invariant-numbers
invariant-numbers l =
    scratch_more (flat_map (new_files l.self.vault.database) (all_tickets (drop l.number-index l.numbers) (sight_of l.actor l.self))) l.out
    ≡ scratch_of l.self.vault.database (all_tickets l.numbers (sight_of l.actor l.self))
