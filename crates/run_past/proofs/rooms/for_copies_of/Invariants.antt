use Rattle.std.proofs.Common.{◌≡◌, ℕ, true, List, Option, drop}
use Rattle.std.specs.List.{AllByRecursion}
use Rattle.run_past.specs.Told.{has_key, pair_cmp, told_at}
use Rattle.run_past.proofs.rooms.for_copies_of.Given as goal

abbrev pub invariant-copies : goal.invariant-copies
invariant-copies l =
    record {
      same : (q : ℕ × ℕ) → told_at (pair_cmp q) l.map.entries ≡ told_at (pair_cmp q) l.fn.map.entries;
      keeps : (q : ℕ × ℕ) → has_key (pair_cmp q) l.fn.map.entries ≡ true → has_key (pair_cmp q) l.map.entries ≡ true;
      room : (later : List ((ℕ × ℕ) × Option ℕ)) → ((q : ℕ × ℕ) → has_key (pair_cmp q) l.map.entries ≡ true → has_key (pair_cmp q) later ≡ true)
          → AllByRecursion (λ c. has_key (pair_cmp (l.version.object, c.pool)) later ≡ true) (drop l.copy-index l.copies) → AllByRecursion (λ c. has_key (pair_cmp (l.version.object, c.pool)) later ≡ true) l.copies;
    }
