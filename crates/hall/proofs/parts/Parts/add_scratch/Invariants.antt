use Rattle.std.proofs.Common.{◌≡◌, drop}
use Rattle.machine.specs.Changes.{new_files}
use Rattle.hall.specs.Commits.{scratch_more}
use Rattle.hall.specs.Sights.{ticket_of}
use Rattle.hall.proofs.Walking.{files_from}
use Rattle.hall.proofs.parts.Parts.add_scratch.Given as goal

abbrev pub invariant-places : goal.invariant-places
invariant-places l =
    scratch_more (files_from l.self.vault.database l.seat.pool (drop l.place-index l.place-items)) l.out ≡ scratch_more (new_files l.self.vault.database (ticket_of 0 l.seat)) l.initial.out
