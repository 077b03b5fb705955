use Rattle.std.proofs.Common.{◌≡◌, ◌∙◌, ℕ, List, Bool, ap}
use Rattle.extent_map.specs.Blocks.{free_runs, first_of, total_room}
use Rattle.extent_map.proofs.Taking.{all_runs}
use Rattle.extent_map.proofs.extents.Extents.free_runs.Goals as goal

pub returns : goal.returns
returns c =
    let room : c.self.inside.room ≡ total_room (free_runs c.args.self.now) = c.self.invariant.1 ∙ ap (λ (l : List Bool). total_room (free_runs l)) c.self.view_is in
    c.in_ok-runs.ensures ∙ ap (λ (n : ℕ). first_of n (free_runs c.args.self.now)) room ∙ all_runs c.args.self.now
