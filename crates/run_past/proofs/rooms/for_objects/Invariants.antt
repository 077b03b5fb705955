use Rattle.std.proofs.Common.{◌≡◌, ℕ, true, List, Option, drop}
use Rattle.std.specs.List.{AllByRecursion}
use Rattle.std.specs.Ordering.{nat_cmp}
use Rattle.run_past.specs.Told.{has_key, told_at}
use Rattle.run_past.proofs.rooms.for_objects.Given as goal

abbrev pub invariant-versions : goal.invariant-versions
invariant-versions l =
    record {
      same : (q : ℕ) → told_at (nat_cmp q) l.map.entries ≡ told_at (nat_cmp q) l.fn.map.entries;
      room : (later : List (ℕ × Option ℕ)) → ((q : ℕ) → has_key (nat_cmp q) l.map.entries ≡ true → has_key (nat_cmp q) later ≡ true)
          → AllByRecursion (λ w. has_key (nat_cmp w.object) later ≡ true) (drop l.version-index l.versions) → AllByRecursion (λ w. has_key (nat_cmp w.object) later ≡ true) l.versions;
    }
