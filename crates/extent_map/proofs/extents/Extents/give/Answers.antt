use Rattle.std.proofs.Common.{◌≡◌, ◌∙◌, ◌+◌, ◌-◌, ◌*◌, ◌<◌, ◌≤◌, ◌^◌, List, Bool, true, false, arith, length, ap, sym}
use Rattle.extent_map.specs.Blocks.{end_of, marked, total_room, free_runs, joined}
use Rattle.extent_map.proofs.Members.{length-marked_from}
use Rattle.extent_map.proofs.FreeRuns.{total_room-given, total_room-bound, AllAre-fits}
use Rattle.extent_map.proofs.extents.Extents.give.Goals as goal

pub overflow_add-self : goal.overflow_add-self
overflow_add-self c =
    let some : 0 < c.args.run.blocks = omega arith in
    let fits : end_of c.args.run ≤ length c.args.self.now = AllAre-fits true c.args.run c.args.self.now some c.requires in
    let len : length c.self.inside.used ≡ length c.args.self.now = ap length c.self.view_is in
    let len' : length (marked false c.args.run c.args.self.now) ≡ length c.args.self.now = length-marked_from false c.args.run.first c.args.run.blocks c.args.self.now fits in
    let room : c.self.inside.room ≡ total_room (free_runs c.args.self.now) = c.self.invariant.1 ∙ ap (λ (l : List Bool). total_room (free_runs l)) c.self.view_is in
    let given : total_room (free_runs (marked false c.args.run c.args.self.now)) + 32 ≡ total_room (free_runs c.args.self.now) + joined c.args.run c.args.self.now = total_room-given c.args.run c.args.self.now some c.requires in
    let bound : total_room (free_runs (marked false c.args.run c.args.self.now)) ≤ 4096 * length (marked false c.args.run c.args.self.now) = total_room-bound (marked false c.args.run c.args.self.now) in
    let few : length c.self.inside.used < 2 ^ 32 = c.self.invariant.2 in
    let bytes : c.bytes_joined-with_neighbours.result ≡ joined c.args.run c.args.self.now = c.bytes_joined-with_neighbours.ensures in
    omega (arith, len, len', room, given, bound, few, bytes)

pub invariant_of-self : goal.invariant_of-self
invariant_of-self c =
    let some : 0 < c.args.run.blocks = omega arith in
    let fits : end_of c.args.run ≤ length c.args.self.now = AllAre-fits true c.args.run c.args.self.now some c.requires in
    let new : c.mark.new.used ≡ marked false c.args.run c.args.self.now = c.mark.ensures.used ∙ ap (marked false c.args.run) c.self.view_is in
    let len : length c.self.inside.used ≡ length c.args.self.now = ap length c.self.view_is in
    let len' : length c.mark.new.used ≡ length c.args.self.now = ap length new ∙ length-marked_from false c.args.run.first c.args.run.blocks c.args.self.now fits in
    let room : c.self.inside.room ≡ total_room (free_runs c.args.self.now) = c.self.invariant.1 ∙ ap (λ (l : List Bool). total_room (free_runs l)) c.self.view_is in
    let given : total_room (free_runs (marked false c.args.run c.args.self.now)) + 32 ≡ total_room (free_runs c.args.self.now) + joined c.args.run c.args.self.now = total_room-given c.args.run c.args.self.now some c.requires in
    let bytes : c.bytes_joined-with_neighbours.result ≡ joined c.args.run c.args.self.now = c.bytes_joined-with_neighbours.ensures in
    let sum : c.self.inside.room + c.bytes_joined-with_neighbours.result - 32 ≡ total_room (free_runs (marked false c.args.run c.args.self.now)) = omega (arith, room, given, bytes) in
    let few : length c.self.inside.used < 2 ^ 32 = c.self.invariant.2 in (
      c.mark.ensures.free,
      sum ∙ ap (λ (l : List Bool). total_room (free_runs l)) (sym new),
      omega (arith, len, len', few),
    )
