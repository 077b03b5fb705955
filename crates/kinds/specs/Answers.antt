-- The words in which every crate writes what a call answers. `said` is what a definition says: the value, or the refusal.
use Rattle.std.specs.Prelude.{◌≡◌, ◌⊎◌, Result, Ok, Err}
use Rattle.kinds.specs.declared.refusal.Refusal.{Refusal}
use Rattle.kinds.specs.declared.refusal.Refusal.TheVariants.{Memory}

-- a reader answers what is said, or want of memory
abbrev pub Answers : {A : Type 0} → Result A Refusal → Result A Refusal → Type 0
Answers (Ok x) said = said ≡ Ok x
Answers (Err e) said = (e ≡ Memory) ⊎ (said ≡ Err e)

-- the answer, seen by `view`, is what is said, or memory is wanted
abbrev pub AnswersBy : {A B : Type 0} → (A → B) → Result A Refusal → B → Type 0
AnswersBy view (Ok x) said = view x ≡ said
AnswersBy view (Err e) said = e ≡ Memory

-- a change that takes memory: the state becomes what is said, or stays as it was, by the refusal that is said or for want of memory
abbrev pub Becomes : {A S : Type 0} → Result A Refusal → S → S → Result S Refusal → Type 0
Becomes (Ok _) old new said = said ≡ Ok new
Becomes (Err e) old new said = (new ≡ old) × ((e ≡ Memory) ⊎ (said ≡ Err e))

-- a change that takes no memory: the state becomes what is said, or stays as it was, by the refusal that is said
abbrev pub Makes : {A S : Type 0} → Result A Refusal → S → S → Result S Refusal → Type 0
Makes (Ok _) old new said = said ≡ Ok new
Makes (Err e) old new said = (new ≡ old) × (said ≡ Err e)
