use Rattle.std.proofs.Common.{ℕ, not, nat_eq, subst, ap, ◌∙◌}
use Rattle.object_rows.specs.HeldRows.{weigh_held}
use Rattle.object_rows.specs.Tally.{CountsEach, placed_in}
use Rattle.object_rows.proofs.PoolLaws.{counted_rows}
use Rattle.object_rows.proofs.tally.Tally.holds_copy_held.Goals as goal

pub returns-in-Some : goal.returns-in-Some
returns-in-Some c =
    ap (λ n. not (nat_eq n 0)) c.at.ensures
    ∙ counted_rows c.args.pool c.in-Some.counts c.args.held.now.entries
    (subst (CountsEach (λ (pool : ℕ). weigh_held (placed_in pool) c.args.held.now.entries)) c.in-Some.is c.requires.pools c.args.pool)
