-- The beginning and the end of a transaction on data.
use Rattle.std.proofs.Common.{◌≡◌, ◌+◌, true, [], arith}
use Rattle.std.proofs.lemmas.Bool.{le-leb}
use Rattle.inventory_rules.specs.entries.declared.change.Change.{Change}
use Rattle.inventory_rules.specs.inventory_rows.State.{Inv}
use Rattle.inventory_rules.specs.Transactions.{changed, effect, sizes_refused, is_of_data}
use Rattle.inventory_rules.specs.Held.{IsTied}
use Rattle.inventory_rules.specs.Valid.{is_valid}
use Rattle.inventory_rules.specs.Facts.{Facts}
use Rattle.inventory_rules.proofs.Touched.{effect-data}
use Rattle.inventory_laws.proofs.Facts.{facts_of, valid_of}
use Rattle.inventory_laws.proofs.Assembled.{steady_begins, steady_counted, steady_ends}
use Rattle.inventory_laws.proofs.RemovedItems.{Holds}
use Rattle.inventory_laws.specs.Steady.{IsSteady}
use Rattle.inventory_laws.proofs.ScratchList.{none_of_both, unless_not}

pub data_ends : (c : Change) (v : Inv) → is_of_data c ≡ true → Facts v → IsSteady (v.number + 1) [] (changed c v) → sizes_refused c v ≡ []
    → (is_valid (effect c v) ≡ true) × IsTied (effect c v)
unfolding effect
data_ends c v of_data f s sizes =
    let parts = none_of_both _ _ sizes in
    let ends : Facts (effect c v) × IsTied (effect c v) =
    steady_ends v (effect c v) f (effect-data c v of_data) (le-leb v.number (v.number + 1) (omega arith)) (steady_counted (v.number + 1) (v.number + 1) [] (changed c v) s)
    (unless_not _ _ parts.1) (unless_not _ _ parts.0) in
    (valid_of (effect c v) ends.0, ends.1)

pub begins : (v : Inv) → is_valid v ≡ true → IsTied v → Holds (v.number + 1) v
begins v valid tied =
    let f : Facts v = facts_of v valid in
    record { steady = steady_begins (v.number + 1) v f tied (le-leb v.number (v.number + 1) (omega arith)) }

pub ends : (c : Change) (v : Inv) → is_of_data c ≡ true → is_valid v ≡ true → sizes_refused c v ≡ [] → Holds (v.number + 1) (changed c v) → (is_valid (effect c v) ≡ true) × IsTied (effect c v)
unfolding effect
ends c v of_data valid sizes h = data_ends c v of_data (facts_of v valid) h.steady sizes
