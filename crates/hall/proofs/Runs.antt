-- A run with a transaction more.
use Rattle.std.proofs.Common.{◌≡◌, ◌⊎◌, inl, inr, ℕ, ◌<◌, suc, zero, List, [], ◌∷◌, ◌++◌, length, Some, refl, sym, ap, ◌∙◌, arith}
use Rattle.std.specs.List.{slice_get}
use Rattle.entries.specs.declared.entry.Entry.{Entry}
use Rattle.inventory_rows.specs.State.{Inv}
use Rattle.inventory_rules.specs.Transactions.{effect}
use Rattle.machine.specs.Machine.{freed, left_by}
use Rattle.machine.specs.State.{after}
use Rattle.hall.specs.Covered.{databases}
use Rattle.kinds.specs.declared.segment.Segment.{Segment}
use Rattle.std.specs.Prelude.{map}
use Rattle.std.proofs.lemmas.List.{append-nil, append_assoc}

pub after_end : (v : Inv) (es : List Entry) (e : Entry) → after v (es ++ (e ∷ [])) ≡ effect e.change (after v es)
after_end v [] e = refl
after_end v (x ∷ es) e = after_end (effect x.change v) es e

pub databases_end : (v : Inv) (es : List Entry) (e : Entry) → databases v (es ++ (e ∷ [])) ≡ databases v es ++ (effect e.change (after v es) ∷ [])
databases_end v [] e = refl
databases_end v (x ∷ es) e = ap (λ (l : List Inv). v ∷ l) (databases_end (effect x.change v) es e)

-- what the last one frees comes last
abbrev pub freed_by : Inv → Entry → List (ℕ × Segment)
freed_by v e = map (λ s. ((effect e.change v).number, s)) (left_by v (effect e.change v))

pub freed_end : (v : Inv) (es : List Entry) (e : Entry) → freed v (es ++ (e ∷ [])) ≡ freed v es ++ freed_by (after v es) e
freed_end v [] e = append-nil (freed_by v e)
freed_end v (x ∷ es) e = ap (λ (l : List (ℕ × Segment)). freed_by v x ++ l) (freed_end (effect x.change v) es e) ∙ sym (append_assoc (freed_by v x) (freed (effect x.change v) es) (freed_by (after (effect x.change v) es) e))

-- the i-th transaction is one of those before, or the last
pub at_end : (es : List Entry) (e : Entry) (i : ℕ) (x : Entry) → slice_get (es ++ (e ∷ [])) i ≡ Some x → ((slice_get es i ≡ Some x) × (i < length es)) ⊎ ((x ≡ e) × (i ≡ length es))
at_end [] e zero x h = let same : e ≡ x = cc in inr (sym same, refl)
at_end [] e (suc i) x h = absurd cc
at_end (y ∷ es) e zero x h = inl (h, omega arith)
at_end (y ∷ es) e (suc i) x h = elim (at_end es e i x h) as (λ _. ((slice_get (y ∷ es) (suc i) ≡ Some x) × (suc i < length (y ∷ es))) ⊎ ((x ≡ e) × (suc i ≡ length (y ∷ es)))) [
  | inl is ↦ inl (is.0, omega (arith, is.1))
  | inr is ↦ inr (is.0, omega (arith, is.1))
]
