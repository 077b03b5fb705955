use Rattle.std.proofs.Common.{◌≡◌, ◌&&◌, ℕ, true, drop}
use Rattle.std.specs.BTreeMap.{is_at}
use Rattle.std.specs.List.{AllByRecursion, list_any}
use Rattle.std.specs.Option.{option_copied}
use Rattle.run_past.specs.Telling.{copy_differs_in}
use Rattle.run_past.specs.Told.{has_key, now_or, pair_cmp, told_at}
use Rattle.run_past.proofs.telling.tell_copies_of.Given as goal

abbrev pub invariant-copies : goal.invariant-copies
invariant-copies l =
    record {
      room : AllByRecursion (λ c. has_key (pair_cmp (l.old.object, c.pool)) l.map.entries ≡ true) (drop l.copy-index l.copies);
      keeps : (q : ℕ × ℕ) → has_key (pair_cmp q) l.map.entries ≡ has_key (pair_cmp q) l.fn.map.entries;
      tells : (q : ℕ × ℕ)
          → now_or (list_any (λ c. is_at (pair_cmp (l.old.object, c.pool)) q && copy_differs_in c.pool l.old (option_copied l.now)) (drop l.copy-index l.copies)) l.number (told_at (pair_cmp q) l.map.entries)
          ≡ now_or (list_any (λ c. is_at (pair_cmp (l.old.object, c.pool)) q && copy_differs_in c.pool l.old (option_copied l.now)) l.copies) l.number (told_at (pair_cmp q) l.fn.map.entries);
    }
