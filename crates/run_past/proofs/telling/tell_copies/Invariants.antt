use Rattle.std.proofs.Common.{◌≡◌, ℕ, true, drop}
use Rattle.std.specs.List.{AllByRecursion}
use Rattle.inventory_rows.specs.State.{inv_of}
use Rattle.run_past.specs.Telling.{any_copy}
use Rattle.run_past.specs.Told.{has_key, now_or, pair_cmp, told_at}
use Rattle.run_past.proofs.telling.tell_copies.Given as goal

abbrev pub invariant-versions : goal.invariant-versions
invariant-versions l =
    record {
      room : AllByRecursion (λ w. AllByRecursion (λ c. has_key (pair_cmp (w.object, c.pool)) l.map.entries ≡ true) w.copies) (drop l.version-index l.stood);
      tells : (q : ℕ × ℕ) → now_or (any_copy q (drop l.version-index l.stood) (inv_of l.tables)) l.number (told_at (pair_cmp q) l.map.entries) ≡ now_or (any_copy q l.stood (inv_of l.tables)) l.number (told_at (pair_cmp q) l.fn.map.entries);
    }
