use Rattle.std.proofs.Common.{◌≡◌, ◌∙◌, ◌+◌, ◌-◌, ◌*◌, ◌<◌, ◌≤◌, ◌^◌, List, Bool, true, false, arith, length, ap, sym}
use Rattle.extent_map.specs.Blocks.{end_of, marked, total_room, free_runs, joined}
use Rattle.extent_map.proofs.Members.{length-marked_from}
use Rattle.extent_map.proofs.FreeRuns.{total_room-taken, total_room-bound, AllAre-fits}
use Rattle.extent_map.proofs.extents.Extents.occupy.Goals as goal

pub overflow_add-self : goal.overflow_add-self
overflow_add-self c =
    let bound : total_room (free_runs c.self.inside.used) ≤ 4096 * length c.self.inside.used = total_room-bound c.self.inside.used in
    let room : c.self.inside.room ≡ total_room (free_runs c.self.inside.used) = c.self.invariant.1 in
    let few : length c.self.inside.used < 2 ^ 32 = c.self.invariant.2 in
    omega (arith, bound, room, few)

pub overflow_sub-self : goal.overflow_sub-self
overflow_sub-self c =
    let room : c.self.inside.room ≡ total_room (free_runs c.args.self.now) = c.self.invariant.1 ∙ ap (λ (l : List Bool). total_room (free_runs l)) c.self.view_is in
    let taken : total_room (free_runs c.args.self.now) + 32 ≡ total_room (free_runs (marked true c.args.run c.args.self.now)) + joined c.args.run c.args.self.now = total_room-taken c.args.run c.args.self.now c.requires.some c.requires.free in
    let bytes : c.bytes_joined-with_neighbours.result ≡ joined c.args.run c.args.self.now = c.bytes_joined-with_neighbours.ensures in
    omega (arith, room, taken, bytes)

pub invariant_of-self : goal.invariant_of-self
invariant_of-self c =
    let fits : end_of c.args.run ≤ length c.args.self.now = AllAre-fits false c.args.run c.args.self.now c.requires.some c.requires.free in
    let new : c.mark.new.used ≡ marked true c.args.run c.args.self.now = c.mark.ensures.used ∙ ap (marked true c.args.run) c.self.view_is in
    let len : length c.self.inside.used ≡ length c.args.self.now = ap length c.self.view_is in
    let len' : length c.mark.new.used ≡ length c.args.self.now = ap length new ∙ length-marked_from true c.args.run.first c.args.run.blocks c.args.self.now fits in
    let room : c.self.inside.room ≡ total_room (free_runs c.args.self.now) = c.self.invariant.1 ∙ ap (λ (l : List Bool). total_room (free_runs l)) c.self.view_is in
    let taken : total_room (free_runs c.args.self.now) + 32 ≡ total_room (free_runs (marked true c.args.run c.args.self.now)) + joined c.args.run c.args.self.now = total_room-taken c.args.run c.args.self.now c.requires.some c.requires.free in
    let bytes : c.bytes_joined-with_neighbours.result ≡ joined c.args.run c.args.self.now = c.bytes_joined-with_neighbours.ensures in
    let left : c.self.inside.room + 32 - c.bytes_joined-with_neighbours.result ≡ total_room (free_runs (marked true c.args.run c.args.self.now)) = omega (arith, room, taken, bytes) in
    let few : length c.self.inside.used < 2 ^ 32 = c.self.invariant.2 in (
      c.mark.ensures.free,
      left ∙ ap (λ (l : List Bool). total_room (free_runs l)) (sym new),
      omega (arith, len, len', few),
    )
