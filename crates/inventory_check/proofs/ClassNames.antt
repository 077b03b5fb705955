-- What stands under a name, and whether a name is among those of some rows.
use Rattle.std.proofs.Common.{◌≡◌, ℕ, Bool, true, false, cond, ◌||◌, is_some, List, [], ◌∷◌, Option, Some, refl, sym, ap, ◌∙◌}
use Rattle.std.specs.List.{list_any}
use Rattle.kinds.specs.Names.{is_same_name}
use Rattle.inventory_rows.specs.pool_tables.Rows.{named}
use Rattle.inventory_rules.specs.Valid.{disk}
use Rattle.inventory_rows.proofs.of_pool_tables.Names.{at_name}

named_any : {V : Type 0} (name : List ℕ) (rows : List (List ℕ × V)) → list_any (λ r. is_same_name name r.0) rows ≡ is_some (named name rows)
named_any name [] = refl
named_any {V} name (r ∷ rows) =
    go (is_same_name name r.0) (named_any name rows) ∙ sym (ap (λ b. is_some (cond b (Some r.1) (named name rows))) (at_name name r.0))
  where
    go : (b : Bool) → list_any (λ r. is_same_name name r.0) rows ≡ is_some (named name rows) → (b || list_any (λ r. is_same_name name r.0) rows) ≡ is_some (cond b (Some r.1) (named name rows))
    go true h = refl
    go false h = h

-- DISK is found exactly where one of the classes has its name
pub disk_there : (classes : List (List ℕ × Option ℕ)) → list_any (λ c. is_same_name disk c.0) classes ≡ is_some (named disk classes)
disk_there classes = named_any disk classes
