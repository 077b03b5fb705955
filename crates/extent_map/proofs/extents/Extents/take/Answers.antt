use Rattle.std.proofs.Common.{◌≡◌, ◌∙◌, ◌≤◌, List, Bool, arith, ap, sym, subst}
use Rattle.extent_map.specs.declared.extents.Run.{Run}
use Rattle.extent_map.specs.Blocks.{total_room, free_runs, AreFree, Ascend}
use Rattle.extent_map.proofs.FreeRuns.{Ascend-free_runs}
use Rattle.extent_map.proofs.Taking.{taken_free, Ascend-first_of, total_room-first_of}
use Rattle.extent_map.proofs.extents.Extents.take.Goals as goal

pub occupy_all-requires : goal.occupy_all-requires
occupy_all-requires c =
    subst (λ (l : List Run). AreFree l c.args.self.now) (sym (c.as_slice.ensures.value ∙ c.in_ok-runs.ensures)) (taken_free c.args.bytes c.args.self.now)

pub returns-clause-free : goal.returns-clause-free
returns-clause-free c =
    subst (λ (l : List Run). AreFree l c.args.self.now) (sym c.in_ok-runs.ensures) (taken_free c.args.bytes c.args.self.now)

pub returns-clause-ascending : goal.returns-clause-ascending
returns-clause-ascending c =
    subst (λ (l : List Run). Ascend 0 l) (sym c.in_ok-runs.ensures) (Ascend-first_of c.args.bytes 0 (free_runs c.args.self.now) (Ascend-free_runs 0 c.args.self.now))

pub returns-clause-enough : goal.returns-clause-enough
returns-clause-enough c =
    let room : c.self.inside.room ≡ total_room (free_runs c.args.self.now) = c.self.invariant.1 ∙ ap (λ (l : List Bool). total_room (free_runs l)) c.self.view_is in
    let le : c.args.bytes ≤ total_room (free_runs c.args.self.now) = omega arith in
    subst (λ (l : List Run). c.args.bytes ≤ total_room l) (sym c.in_ok-runs.ensures) (total_room-first_of c.args.bytes (free_runs c.args.self.now) le)
