use Rattle.std.proofs.Common.{◌≡◌, ◌+◌, ◌-◌, ◌*◌, ◌^◌, ◌≤◌, drop, Some}
use Rattle.volume_frames.specs.Frames.{bytes_len}
use Rattle.inventory_rows.specs.State.{inv_of}
use Rattle.contents.specs.Reading.{segments_in}
use Rattle.hall.specs.Reading.{both, tally}
use Rattle.hall.proofs.reading.tally.Given as goal

abbrev pub invariant-segments : goal.invariant-segments
invariant-segments g l =
    record {
      begins : l.start + bytes_len (drop l.segment-index l.segments) ≡ bytes_len l.segments;
      few : l.sum ≤ l.segment-index * (2 ^ 64 - 1);
      sum : both (Some l.sum) (tally (g.S.Store.faults_of l.store) (inv_of l.tables) (segments_in l.start l.offset l.count (drop l.segment-index l.segments)))
          ≡ tally (g.S.Store.faults_of l.store) (inv_of l.tables) (segments_in 0 l.offset l.count l.segments);
    }
