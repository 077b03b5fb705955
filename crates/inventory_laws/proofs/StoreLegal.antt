-- What it says that a change isn't refused.
use Rattle.std.proofs.Common.{◌≡◌, Bool, true, false, List, [], ◌∷◌, ◌++◌, Result, Err, if◌then◌else◌, refl}
use Rattle.kinds.specs.declared.refusal.Refusal.{Refusal}
use Rattle.kinds.specs.Refusals.{refusal_of, unless}

-- no refusal of two lists
pub none_of_both : {A : Type 0} (xs ys : List A) → xs ++ ys ≡ [] → (xs ≡ []) × (ys ≡ [])
none_of_both [] ys h = (refl, h)
none_of_both (x ∷ xs) ys h = absurd cc

-- the test holds
pub held : (b : Bool) (e : Refusal) → unless b e ≡ [] → b ≡ true
held true e h = refl
held false e h = absurd cc

-- the test doesn't hold, and the change gives what is said behind it
pub unless_so : {S : Type 0} (b : Bool) (e : Refusal) (r : Result S Refusal) → refusal_of (if b then Err e else r) ≡ [] → (b ≡ false) × (refusal_of r ≡ []) × ((if b then Err e else r) ≡ r)
unless_so true e r h = absurd cc
unless_so false e r h = (refl, h, refl)

-- the test holds, and the change gives what is said behind it
pub where_so : {S : Type 0} (b : Bool) (e : Refusal) (r : Result S Refusal) → refusal_of (if b then r else Err e) ≡ [] → (b ≡ true) × (refusal_of r ≡ []) × ((if b then r else Err e) ≡ r)
where_so true e r h = (refl, h, refl)
where_so false e r h = absurd cc
