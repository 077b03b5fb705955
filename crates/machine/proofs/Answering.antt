-- How a step ends says how it is answered for causes of the actor's own.
use Rattle.std.proofs.Common.{◌≡◌, ◌⊎◌, inl, inr, true, List, [], ◌++◌, Some, None, Result, Ok, Err, refl, sym, ap, subst}
use Rattle.std.proofs.lemmas.List.{append-nil}
use Rattle.kinds.specs.Refusals.{foremost}
use Rattle.kinds.specs.declared.refusal.Refusal.{Refusal}
use Rattle.kinds.specs.declared.refusal.Refusal.TheVariants as refusal
use Rattle.machine.specs.Machine.{Ends, Stays}
use Rattle.machine.specs.Says.{Answered, is_elsewhere}
use Rattle.machine.specs.State.{Machine}
use Rattle.machine.proofs.Elsewhere.{AreElsewhere, append-none, none-held, own-none, own-or-elsewhere}

-- the refusal is one elsewhere
pub elsewhere-by : (e f : Refusal) → is_elsewhere f ≡ true → e ≡ f → is_elsewhere e ≡ true
elsewhere-by e f h s = subst (λ x. is_elsewhere x ≡ true) (sym s) h

held-answered : (first own others : List Refusal) → AreElsewhere first → AreElsewhere others → (e : Refusal)
    → (foremost (first ++ (own ++ others)) ≡ Some e) ⊎ (e ≡ refusal.Memory) → (foremost own ≡ Some e) ⊎ (is_elsewhere e ≡ true)
held-answered first own others a b e (inl h) = own-or-elsewhere first own others a b e h
held-answered first own others a b e (inr h) = inr (elsewhere-by e refusal.Memory refl h)

pub others-err : (first own others : List Refusal) (F : Type 0) (old new : Machine) (e : Refusal) → AreElsewhere first → AreElsewhere others
    → (((foremost (first ++ (own ++ others)) ≡ Some e) ⊎ (e ≡ refusal.Memory)) × Stays old new) ⊎ ((foremost (first ++ (own ++ others)) ≡ None) × F)
    → (F → is_elsewhere e ≡ true) → (foremost own ≡ Some e) ⊎ (is_elsewhere e ≡ true)
others-err first own others F old new e a b (inl h) fails = held-answered first own others a b e h.0
others-err first own others F old new e a b (inr h) fails = inr (fails h.1)

pub ends-answered : {A : Type 0} (first own others : List Refusal) (Is : A → Type 0) (Does : A → Machine → Type 0) (Fails : Refusal → Machine → Type 0) (old new : Machine) (answer : Result A Refusal)
    → AreElsewhere first → AreElsewhere others → ((x : A) → Does x new → Is x) → ((e : Refusal) → Fails e new → is_elsewhere e ≡ true)
    → Ends (first ++ (own ++ others)) Does Fails old new answer → Answered own Is answer
ends-answered first own others Is Does Fails old new (Ok x) a b does fails h = (own-none first own others h.0, does x h.1)
ends-answered first own others Is Does Fails old new (Err e) a b does fails h = others-err first own others (Fails e new) old new e a b h (fails e)

-- the same where no one else's causes are asked
pub alone-none : (first own : List Refusal) → foremost (first ++ own) ≡ None → foremost own ≡ None
alone-none first own h = ap foremost (append-none first own (none-held (first ++ own) h)).1

pub alone-err : (first own : List Refusal) (F : Type 0) (old new : Machine) (e : Refusal) → AreElsewhere first
    → (((foremost (first ++ own) ≡ Some e) ⊎ (e ≡ refusal.Memory)) × Stays old new) ⊎ ((foremost (first ++ own) ≡ None) × F)
    → (F → is_elsewhere e ≡ true) → (foremost own ≡ Some e) ⊎ (is_elsewhere e ≡ true)
alone-err first own F old new e a h fails =
    others-err first own [] F old new e a tt
    (subst (λ (xs : List Refusal). (((foremost (first ++ xs) ≡ Some e) ⊎ (e ≡ refusal.Memory)) × Stays old new) ⊎ ((foremost (first ++ xs) ≡ None) × F)) (sym (append-nil own)) h)
    fails
