-- How a copy is mended, part by part.
use Rattle.std.proofs.Common.{◌≡◌, inl, inr, ℕ, List, [], ◌∷◌, ◌++◌, Result, Ok, Err, refl, subst}
use Rattle.kinds.specs.declared.refusal.Refusal.{Refusal}
use Rattle.kinds.specs.declared.segment.Digest.{Digest}
use Rattle.inventory_work.specs.declared.lines.CopyLine.{CopyLine}
use Rattle.steps.proofs.Joining.{GoesOn, so_call, then_call}
use Rattle.steps.specs.Calls.{Call, Then}
use Rattle.steps.specs.Events.{Event}
use Rattle.volume_audits.specs.declared.mending.Dropped.{Dropped}
use Rattle.volume_audits.specs.declared.mending.Dropped.TheVariants as came
use Rattle.volume_audits.specs.Mending.{Discards, Drops, Mends}

-- a result is told as what it is
pub dropped-is : {S : Type 0} (did : S → List Event → S → Type 0) (p q : S) (file : ℕ) (line : CopyLine) (found : Digest) (told is : Dropped) → told ≡ is → Call did p q (λ events. Drops file line found events (Ok told))
    → Call did p q (λ events. Drops file line found events (Ok is))
dropped-is did p q file line found told is same a =
    subst (λ (it : Dropped). Call did p q (λ events. Drops file line found events (Ok it))) same a

pub mends-gone : {S : Type 0} (did : S → List Event → S → Type 0) (p q : S) (file : ℕ) (line : CopyLine) (found : Digest) → Call did p q (λ events. Drops file line found events (Ok came.Gone))
    → Call did p q (λ events. Mends file line found events (Ok 1))
mends-gone did p q file line found a = so_call did (λ events. Drops file line found events (Ok came.Gone)) (λ events. Mends file line found events (Ok 1)) p q a (λ xs f. inl (f, refl))

pub mends-passed : {S : Type 0} (did : S → List Event → S → Type 0) (p q : S) (file : ℕ) (line : CopyLine) (found : Digest) → Call did p q (λ events. Drops file line found events (Ok came.Passed))
    → Call did p q (λ events. Mends file line found events (Ok 0))
mends-passed did p q file line found a = so_call did (λ events. Drops file line found events (Ok came.Passed)) (λ events. Mends file line found events (Ok 0)) p q a (λ xs f. inr (inl (f, refl)))

pub mends-last : {S : Type 0} (did : S → List Event → S → Type 0) → GoesOn did → (p q r : S) (file : ℕ) (line : CopyLine) (found : Digest) (result : Result ℕ Refusal) → Call did p q (λ events. Drops file line found events (Ok came.Last))
    → Call did q r (λ events. Discards file line found events result) → Call did p r (λ events. Mends file line found events result)
mends-last did goes p q r file line found result a b =
    so_call did (λ events. Then (λ xs. Drops file line found xs (Ok came.Last)) (λ ys. Discards file line found ys result) events) (λ events. Mends file line found events result) p r
    (then_call did goes (λ events. Drops file line found events (Ok came.Last)) (λ events. Discards file line found events result) p q r a b) (λ xs f. inr (inr (inl f)))

pub mends-not : {S : Type 0} (did : S → List Event → S → Type 0) (p q : S) (file : ℕ) (line : CopyLine) (found : Digest) (e : Refusal) → Call did p q (λ events. Drops file line found events (Err e))
    → Call did p q (λ events. Mends file line found events (Err e))
mends-not did p q file line found e a = so_call did (λ events. Drops file line found events (Err e)) (λ events. Mends file line found events (Err e)) p q a (λ xs f. inr (inr (inr (e, f, refl))))
