use Rattle.std.proofs.Common.{◌≡◌, ℕ, ◌∙◌, ◌+◌, ◌≤◌, ◌++◌, ◌∷◌, [], List, Vec, Global, arith, ap}
use Rattle.extent_map.specs.declared.extents.Run.{Run}
use Rattle.extent_map.specs.Blocks.{run, blocks_for, end_of, total_room, room_in, free_runs, first_of}
use Rattle.extent_map.proofs.FreeRuns.{runs_at}
use Rattle.extent_map.proofs.Taking.{plan_last, plan_more, plan_enough, plan_done}
use Rattle.extent_map.proofs.extents.Extents.plan.Goals as goal
use Rattle.extent_map.proofs.extents.Extents.plan.Goals.{then-rest-room+in_ok-push, else-rest-room+in_ok-push-2}

pub runs-preserved : goal.runs-preserved
runs-preserved c =
    let enough : c.runs.rest ≤ room_in c.free_run-run.result + total_room (runs_at (end_of c.free_run-run.result) c.args.self.now) = plan_enough (runs_at c.runs.at c.args.self.now) (runs_at (end_of c.free_run-run.result) c.args.self.now) c.runs.rest c.free_run-run.result c.free_run-run.ensures.next c.runs.invariant.enough in
    record {
      within = c.free_run-run.ensures.within;
      enough = elim c.if-rest-room.branch [
        | then-rest-room+in_ok-push w ↦ omega (arith, w.rest-is)
        | else-rest-room+in_ok-push-2 w ↦ omega (arith, w.rest-is, enough)
      ];
      so_far = elim c.if-rest-room.branch [
        | then-rest-room+in_ok-push w ↦
            let pushed : c.if-rest-room.runs.items ≡ c.runs.runs.items ++ run c.free_run-run.result.first (blocks_for c.runs.rest) ∷ [] =
            ap (λ (v : Vec Run Global). v.items) w.runs-is ∙ w.in_ok-push.ensures.items ∙ ap (λ (n : ℕ). c.runs.runs.items ++ run c.free_run-run.result.first n ∷ []) w.div_ceil.ensures in
            ap (λ (l : List Run). l ++ first_of c.if-rest-room.rest (runs_at (end_of c.free_run-run.result) c.args.self.now)) pushed
            ∙ ap (λ (n : ℕ). (c.runs.runs.items ++ run c.free_run-run.result.first (blocks_for c.runs.rest) ∷ []) ++ first_of n (runs_at (end_of c.free_run-run.result) c.args.self.now)) w.rest-is
            ∙ plan_last c.runs.runs.items (runs_at c.runs.at c.args.self.now) (runs_at (end_of c.free_run-run.result) c.args.self.now) (first_of c.args.bytes (free_runs c.args.self.now)) c.runs.rest c.free_run-run.result c.free_run-run.ensures.next c.runs.invariant.so_far c.runs-test.true w.if-rest-room.true
        | else-rest-room+in_ok-push-2 w ↦
            let pushed : c.if-rest-room.runs.items ≡ c.runs.runs.items ++ c.free_run-run.result ∷ [] = ap (λ (v : Vec Run Global). v.items) w.runs-is ∙ w.in_ok-push-2.ensures.items in
            ap (λ (l : List Run). l ++ first_of c.if-rest-room.rest (runs_at (end_of c.free_run-run.result) c.args.self.now)) pushed
            ∙ ap (λ (n : ℕ). (c.runs.runs.items ++ c.free_run-run.result ∷ []) ++ first_of n (runs_at (end_of c.free_run-run.result) c.args.self.now)) w.rest-is
            ∙ plan_more c.runs.runs.items (runs_at c.runs.at c.args.self.now) (runs_at (end_of c.free_run-run.result) c.args.self.now) (first_of c.args.bytes (free_runs c.args.self.now)) c.runs.rest c.free_run-run.result c.free_run-run.ensures.next c.runs.invariant.so_far c.runs-test.true w.if-rest-room.false
      ];
    }

pub returns : goal.returns
returns c = plan_done c.runs.runs.items (runs_at c.runs.at c.args.self.now) (first_of c.args.bytes (free_runs c.args.self.now)) c.runs.rest c.runs-test.false c.runs.invariant.so_far
