use Rattle.std.proofs.Common.{ap}
use Rattle.space.specs.declared.places.Placed.{Placed}
use Rattle.hall.specs.Commits.{scratch_more}
use Rattle.hall.proofs.Walking.{files_from, places_next}
use Rattle.hall.proofs.parts.Parts.add_scratch.Goals as goal

pub places-init : goal.places-init
places-init c = ap (λ places. scratch_more (files_from c.args.self.now.vault.database c.args.seat.now.pool places) c.args.out.now) c.as_slice-place-items.ensures

pub places-preserved : goal.places-preserved
places-preserved c =
    let bare : Placed = record { pool = 0; segment = record { file = 0; offset = 0; len = 0 } } in
    places_next c.args.self.now.vault.database c.args.seat.now.pool c.as_slice-place-items.result.now c.places.place-index bare c.places.out c.add_file.new.out _ c.places-test.true c.in_ok-add_file.ensures.ok c.places.invariant
