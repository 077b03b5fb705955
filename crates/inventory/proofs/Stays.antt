-- A legal transaction leaves a valid database whose volumes hold what lies on them.
use Rattle.std.proofs.Common.{◌≡◌, true, None, Result, Ok, Err, sym, subst}
use Rattle.entries.specs.declared.change.Change.{Change}
use Rattle.inventory_rows.specs.State.{Inv}
use Rattle.inventory_rules.specs.Transactions.{CanMake, effect, parts_fit, refused, IsDayOf}
use Rattle.inventory_rules.specs.Facts.{Facts}
use Rattle.inventory_effects.proofs.Ways.{same_Ok}
use Rattle.inventory_rows.specs.Ascending.{AreAscending}
use Rattle.kinds.specs.Answers.{Becomes}
use Rattle.kinds.specs.declared.refusal.Refusal.{Refusal}
use Rattle.inventory_rules.specs.Held.{IsTied}
use Rattle.inventory_rules.specs.Journal.{Journal}
use Rattle.inventory_rules.specs.Valid.{is_valid}
use Rattle.inventory.specs.Legal.{IsAscending}
use Rattle.inventory.proofs.Nothing.{IsFree, is_free}
use Rattle.inventory.proofs.Orders.{ascending}
use Rattle.inventory_laws.proofs.Facts.{facts_of}
use Rattle.inventory_laws.proofs.Every.{can_make, stays}
use Rattle.inventory_laws.proofs.Fitting.{fitting}
use Rattle.inventory_laws.proofs.Others.{orderly_all}

-- the database is valid, and its volumes hold what lies on them
abbrev pub IsWhole : Inv → Type 0
IsWhole v = (is_valid v ≡ true) × IsTied v

-- what a transaction that isn't refused brings fits where it comes
pub legal_fits : (j : Journal) (c : Change) (v : Inv) → is_valid v ≡ true → IsTied v → AreAscending v → refused j c v ≡ None → parts_fit c v ≡ true
legal_fits j c v valid tied order legal =
    let free : IsFree j c v = is_free j c v legal in
    let up : IsAscending v = ascending v order in
    fitting j c v valid tied up.rows up.pools free.causes free.valid

-- a transaction that isn't refused leaves a valid database
pub legal_stays : (j : Journal) (c : Change) (v : Inv) → is_valid v ≡ true → IsTied v → AreAscending v → IsDayOf c → refused j c v ≡ None → IsWhole (effect c v)
legal_stays j c v valid tied order days legal =
    let free : IsFree j c v = is_free j c v legal in
    let up : IsAscending v = ascending v order in
    stays j c v valid tied up.rows up.pools days free.causes free.sizes (legal_fits j c v valid tied order legal)

-- and it can be made
pub legal_can : (j : Journal) (c : Change) (v : Inv) → is_valid v ≡ true → IsTied v → AreAscending v → refused j c v ≡ None → CanMake c v
legal_can j c v valid tied order legal =
    let free : IsFree j c v = is_free j c v legal in
    let f : Facts v = facts_of v valid in
    can_make j c v f (orderly_all v.clients.filespaces order.paths f.groups_orderly) free.causes (legal_fits j c v valid tied order legal)

-- what the rows become is valid, or they stay as they were
pub kept : {A : Type 0} (r : Result A Refusal) (c : Change) (old new : Inv) → Becomes {A = A} r old new (Ok (effect c old)) → IsWhole old → IsWhole (effect c old) → IsWhole new
kept (Ok x) c old new is was will = subst IsWhole (same_Ok (effect c old) new is) will
kept (Err e) c old new is was will = subst IsWhole (sym is.0) was
