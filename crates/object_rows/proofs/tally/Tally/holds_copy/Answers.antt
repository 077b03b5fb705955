use Rattle.std.proofs.Common.{ℕ, not, nat_eq, subst, ap, ◌∙◌}
use Rattle.object_rows.specs.Tally.{CountsEach, placed_in, weigh_filespaces}
use Rattle.object_rows.proofs.PoolLaws.{counted_held}
use Rattle.object_rows.proofs.tally.Tally.holds_copy.Goals as goal

pub returns-in-Some : goal.returns-in-Some
returns-in-Some c =
    ap (λ n. not (nat_eq n 0)) c.at.ensures
    ∙ counted_held c.args.pool c.in-Some.counts c.args.filespaces.now.entries
    (subst (CountsEach (λ (pool : ℕ). weigh_filespaces 0 (placed_in pool) c.args.filespaces.now.entries)) c.in-Some.is c.requires.pools c.args.pool)
