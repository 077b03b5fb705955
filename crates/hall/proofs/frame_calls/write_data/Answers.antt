use Rattle.std.proofs.Common.{◌≡◌, ◌+◌, ◌<◌, ◌^◌, length, arith}
use Rattle.store_api.proofs.Ranges.{wrote_adds}
use Rattle.store_api.proofs.Runs.{told_map}
use Rattle.hall.proofs.Frames.{on_ok_map, wrote_data}
use Rattle.hall.proofs.frame_calls.write_data.Goals as goal

pub returns-clause-told : goal.returns-clause-told
returns-clause-told g c =
    let s = c.args.segment.now in
    let place = c.saturating_add-place.result in
    let part = c.args.part.now in
    told_map _ _ _ _
    (λ old new adds. wrote_data s c.args.from place part c.write_at.result old new (omega (arith, c.saturating_add.ensures, c.saturating_add-place.ensures))
    (omega (arith, c.saturating_add.ensures, c.saturating_add-place.ensures)) c.requires.room
    (on_ok_map (place + length part < 2 ^ 64) (place ≡ s.offset + 32 + c.args.from) c.write_at.result
    (λ fits. omega (arith, fits, c.requires.some, c.saturating_add.ensures, c.saturating_add-place.ensures)) c.write_at.ensures.fits)
    (wrote_adds s.file place part c.write_at.result old new adds)) c.write_at.ensures.told
