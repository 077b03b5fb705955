use Rattle.std.proofs.Common.{◌≡◌, ℕ, true, List, Option, drop}
use Rattle.std.specs.List.{AllByRecursion}
use Rattle.run_past.specs.Told.{has_key, pair_cmp, told_at}
use Rattle.run_past.proofs.rooms.for_copies.Given as goal

abbrev pub invariant-versions : goal.invariant-versions
invariant-versions l =
    record {
      same : (q : ℕ × ℕ) → told_at (pair_cmp q) l.map.entries ≡ told_at (pair_cmp q) l.fn.map.entries;
      room : (later : List ((ℕ × ℕ) × Option ℕ)) → ((q : ℕ × ℕ) → has_key (pair_cmp q) l.map.entries ≡ true → has_key (pair_cmp q) later ≡ true)
          → AllByRecursion (λ w. AllByRecursion (λ c. has_key (pair_cmp (w.object, c.pool)) later ≡ true) w.copies) (drop l.version-index l.versions)
          → AllByRecursion (λ w. AllByRecursion (λ c. has_key (pair_cmp (w.object, c.pool)) later ≡ true) w.copies) l.versions;
    }
