-- The database behind each number of a history.
use Rattle.std.proofs.Common.{◌≡◌, ℕ, ◌+◌, ◌-◌, ◌<◌, ◌≤◌, List, [], ◌∷◌, ◌++◌, length, take, get_or, Some, refl, ap, ◌∙◌, arith}
use Rattle.std.proofs.lemmas.List.{take_more}
use Rattle.std.proofs.lemmas.Option.{slice_get_within, get_or_from_slice_get}
use Rattle.std.specs.List.{slice_get}
use Rattle.steps.specs.entries.declared.change.Change.{Change}
use Rattle.steps.specs.entries.declared.entry.Entry.{Entry}
use Rattle.steps.specs.inventory_rows.State.{Inv}
use Rattle.item_refusals.specs.inventory_rules.Transactions.{effect}
use Rattle.machine.specs.Fits.{History, inv}
use Rattle.machine.specs.State.{after}

pub after-append : (v : Inv) (xs ys : List Entry) → after v (xs ++ ys) ≡ after (after v xs) ys
after-append v [] ys = refl
after-append v (x ∷ xs) ys = after-append (effect x.change v) xs ys

effect-number : (c : Change) (v : Inv) → (effect c v).number ≡ v.number + 1
unfolding effect
effect-number c v = refl

-- each transaction makes the next number
pub after-number : (v : Inv) (entries : List Entry) → (after v entries).number ≡ v.number + length entries
after-number v [] = omega arith
after-number v (e ∷ entries) =
    let h : (after (effect e.change v) entries).number ≡ (effect e.change v).number + length entries = after-number (effect e.change v) entries in
    let n : (effect e.change v).number ≡ v.number + 1 = effect-number e.change v in
    omega arith

-- behind the transaction that stands there the database is what it makes of the one before
pub inv-next : (w : History) (n : ℕ) (e : Entry) → w.base.number ≤ n → slice_get w.journal (n - w.base.number) ≡ Some e → inv w (n + 1) ≡ effect e.change (inv w n)
unfolding inv
inv-next w n e l h =
    let k : ℕ = n - w.base.number in
    let m : n + 1 - w.base.number ≡ n - w.base.number + 1 = omega arith in
    let there : n - w.base.number < length w.journal = slice_get_within w.journal (n - w.base.number) e h in
    let x : get_or w.journal (n - w.base.number) e ≡ e = get_or_from_slice_get w.journal (n - w.base.number) e e h in
    ap (λ i. after w.base (take i w.journal)) m
    ∙ ap (after w.base) (take_more w.journal (n - w.base.number) e there)
    ∙ after-append w.base (take (n - w.base.number) w.journal) (get_or w.journal (n - w.base.number) e ∷ [])
    ∙ ap (λ (y : Entry). effect y.change (after w.base (take (n - w.base.number) w.journal))) x
