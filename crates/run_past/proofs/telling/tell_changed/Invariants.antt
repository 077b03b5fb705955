use Rattle.std.proofs.Common.{◌≡◌, ℕ, true, drop}
use Rattle.std.specs.List.{AllByRecursion}
use Rattle.std.specs.Ordering.{nat_cmp}
use Rattle.inventory_rows.specs.State.{inv_of}
use Rattle.run_past.specs.Telling.{any_differs}
use Rattle.run_past.specs.Told.{has_key, now_or, told_at}
use Rattle.run_past.proofs.telling.tell_changed.Given as goal

abbrev pub invariant-versions : goal.invariant-versions
invariant-versions l =
    record {
      room : AllByRecursion (λ w. has_key (nat_cmp w.object) l.map.entries ≡ true) (drop l.version-index l.stood);
      tells : (q : ℕ) → now_or (any_differs q (drop l.version-index l.stood) (inv_of l.tables)) l.number (told_at (nat_cmp q) l.map.entries) ≡ now_or (any_differs q l.stood (inv_of l.tables)) l.number (told_at (nat_cmp q) l.fn.map.entries);
    }
