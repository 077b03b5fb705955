-- The words in which contracts say what is read from left to right, and the first refusal that is met.
use Rattle.std.specs.Prelude.{◌≡◌, ◌⊎◌, Result, Ok, Err}
use Rattle.kinds.specs.declared.refusal.Refusal.{Refusal}
use Rattle.kinds.specs.declared.refusal.Refusal.TheVariants.{Memory}

-- what is read next, where what stands before it was read; else the refusal that was met there
infixl 10 ◌>>=◌
abbrev pub ◌>>=◌ : {A B : Type 0} → Result A Refusal → (A → Result B Refusal) → Result B Refusal
(Ok x) >>= f = f x
(Err e) >>= f = Err e

-- what a call that takes no memory read, seen by `view`, is what is said
abbrev pub Says : {A B : Type 0} → (A → B) → Result A Refusal → Result B Refusal → Type 0
Says view (Ok x) said = said ≡ Ok (view x)
Says view (Err e) said = said ≡ Err e

-- what was read, seen by `view`, is what is said, or memory is wanted
abbrev pub Reads : {A B : Type 0} → (A → B) → Result A Refusal → Result B Refusal → Type 0
Reads view (Ok x) said = said ≡ Ok (view x)
Reads view (Err e) said = (e ≡ Memory) ⊎ (said ≡ Err e)
