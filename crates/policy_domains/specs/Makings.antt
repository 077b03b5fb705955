-- What the making of a change that is not refused leaves.
use Rattle.std.specs.Prelude.{◌≡◌, Result, Ok, Err}
use Rattle.kinds.specs.declared.refusal.Refusal.{Refusal}
use Rattle.kinds.specs.declared.refusal.Refusal.TheVariants.{Memory}

-- where the definition says a state, it is this one
abbrev pub IsAsSaid : {S : Type 0} → S → Result S Refusal → Type 0
IsAsSaid {S} new said = (s : S) → said ≡ Ok s → new ≡ s

-- where the definition says a state, it comes, or want of memory leaves what was
abbrev pub Brings : {A S : Type 0} → Result A Refusal → S → S → Result S Refusal → Type 0
Brings (Ok _) old new said = IsAsSaid new said
Brings (Err e) old new said = (new ≡ old) × (e ≡ Memory)
