use Rattle.std.proofs.Common.{◌≡◌, ◌+◌, ◌^◌, ◌<◌, ◌≤◌, ℕ, true, length, drop}
use Rattle.std.specs.List.{AllByRecursion}
use Rattle.store_api.specs.Cause.{NoneFell}
use Rattle.store_api.specs.Told.{Told}
use Rattle.volume_frames.specs.Frames.{bytes_len}
use Rattle.contents.specs.Reading.{lies_in_file, segments_in}
use Rattle.contents.proofs.Piecing.{Going}
use Rattle.contents.proofs.frames.read_piece.Given as goal

abbrev pub invariant-segments : goal.invariant-segments
invariant-segments g l =
    record {
      told : Told (g.S.Store.told l.fn.store) (g.S.Store.told l.store) (Going l.segments l.offset l.start l.into);
      begins : l.start + bytes_len (drop l.segment-index l.segments) ≡ bytes_len l.segments;
      len : length l.into ≡ length l.fn.into;
      brief : g.S.Store.moment_of l.store + length (segments_in l.start l.offset (length l.fn.into) (drop l.segment-index l.segments)) ≤ g.S.Store.moment_of l.fn.store + length
          (segments_in 0 l.offset (length l.fn.into) l.segments);
      later : g.S.Store.moment_of l.fn.store ≤ g.S.Store.moment_of l.store;
      counts : NoneFell (g.S.Store.faults_of l.fn.store) (g.S.Store.faults_of l.store);
      places : AllByRecursion (λ s. s.offset + 32 + s.len < 2 ^ 64) (drop l.segment-index l.segments);
      among : (file : ℕ) → lies_in_file (segments_in l.start l.offset (length l.fn.into) (drop l.segment-index l.segments)) file ≡ true → lies_in_file
          (segments_in 0 l.offset (length l.fn.into) l.segments) file ≡ true;
    }
