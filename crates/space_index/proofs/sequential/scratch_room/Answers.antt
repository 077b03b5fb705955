use Rattle.std.proofs.Common.{◌∙◌, ◌*◌, ◌-◌, ℕ, sym, ap}
use Rattle.space_index.proofs.Serving.{scratch_times}
use Rattle.space_index.proofs.sequential.scratch_room.Goals as goal

pub returns : goal.returns
returns c =
    ap (λ (n : ℕ). n * c.from-2.result) (c.from.ensures ∙ c.saturating_sub.ensures) ∙ ap (λ (n : ℕ). (c.args.capacity - 32) * n) c.from-2.ensures ∙ sym (scratch_times c.args.capacity c.args.count 0)
