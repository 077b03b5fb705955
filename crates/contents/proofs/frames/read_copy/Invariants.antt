use Rattle.std.proofs.Common.{◌≡◌, ◌+◌, ◌-◌, ◌^◌, ◌<◌, ◌≤◌, ℕ, max, true, length, drop}
use Rattle.std.specs.List.{AllByRecursion}
use Rattle.store_api.specs.Cause.{NoneFell}
use Rattle.store_api.specs.Told.{Told}
use Rattle.volume_frames.specs.Frames.{bytes_len}
use Rattle.contents.specs.Reading.{lies_in_file}
use Rattle.contents.proofs.Looking.{Going}
use Rattle.contents.proofs.frames.read_copy.Given as goal

abbrev pub invariant-segments : goal.invariant-segments
invariant-segments g l =
    record {
      told : Told (g.S.Store.told l.fn.store) (g.S.Store.told l.store) (Going l.segments (drop l.segment-index l.segments) l.at l.into);
      room : l.at + bytes_len (drop l.segment-index l.segments) ≡ length l.into;
      len : length l.into ≡ length l.fn.into;
      time : g.S.Store.moment_of l.store ≤ max (g.S.Store.moment_of l.fn.store) (2 ^ 62 - 2 ^ 24);
      later : g.S.Store.moment_of l.fn.store ≤ g.S.Store.moment_of l.store;
      counts : NoneFell (g.S.Store.faults_of l.fn.store) (g.S.Store.faults_of l.store);
      places : AllByRecursion (λ s. s.offset + 32 < 2 ^ 64) (drop l.segment-index l.segments);
      among : (file : ℕ) → lies_in_file (drop l.segment-index l.segments) file ≡ true → lies_in_file l.segments file ≡ true;
    }
