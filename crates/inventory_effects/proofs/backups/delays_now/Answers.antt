use Rattle.std.proofs.Common.{◌≡◌, ◌++◌, ℕ, List, sym, ap, subst, ◌∙◌}
use Rattle.std.specs.List.Sorted.{IsStrictlySortedBy}
use Rattle.std.specs.Map.{keys_of}
use Rattle.std.specs.Ordering.{nat_cmp}
use Rattle.inventory_rows.specs.pool_tables.declared.pool.Pool.{Pool}
use Rattle.inventory_rows.specs.State.{inv_of}
use Rattle.inventory_effects.proofs.Ways.{same_Ok}
use Rattle.inventory_effects.specs.Delaying.{delay_kept}
use Rattle.inventory_effects.proofs.Delays.{delays_of, kept_next}
use Rattle.inventory_effects.proofs.backups.delays_now.Goals as goal

pub pools-preserved : goal.pools-preserved
pools-preserved c =
    let v = inv_of c.args.tables.now in
    let made = same_Ok (delay_kept v c.in-Some.number.now c.in-Some.pool.now c.pools.delays.entries) c.keep_delay.new.delays.entries c.in_ok-keep_delay.ensures in
    ap (λ (l : List (ℕ × ℕ)). l ++ delays_of v c.next.new.self) (sym made)
    ∙ kept_next v c.in-Some.number.now c.in-Some.pool.now c.pools.delays.entries c.next.new.self c.args.tables.now.pools.pools
    (subst (λ (es : List (ℕ × Pool)). IsStrictlySortedBy nat_cmp (keys_of es)) c.pools-2.ensures.value c.len-len.ensures.ordered)
    (subst (λ (left : List (ℕ × Pool)). c.pools.delays.entries ++ delays_of v left ≡ delays_of v c.args.tables.now.pools.pools) c.in-Some.ensures.steps c.pools.invariant)
