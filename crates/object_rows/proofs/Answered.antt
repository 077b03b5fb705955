-- What a change answers: nothing happened, or what is said.
use Rattle.std.proofs.Common.{◌≡◌, ◌⊎◌, inl, inr, Result, Ok, Err, subst}
use Rattle.std.specs.Result.{OnOk}
use Rattle.version_groups.specs.kinds.Answers.{Becomes, Makes}
use Rattle.version_groups.specs.kinds.declared.refusal.Refusal.{Refusal}
use Rattle.version_groups.specs.declared.copies.CopyChange.{CopyChange}
use Rattle.version_groups.specs.declared.copies.CopyChange.TheVariants.{Add, Replace, Drop}
use Rattle.version_groups.specs.Copies.{Alters}

pub made : {A S : Type 0} (r : Result A Refusal) (old new : S) (said : Result S Refusal) → Makes {A = A} r old new said → (new ≡ old) ⊎ (said ≡ Ok new)
made (Ok x) old new said h = inr h
made (Err e) old new said h = inl h.0

pub became : {A S : Type 0} (r : Result A Refusal) (old new : S) (said : Result S Refusal) → Becomes {A = A} r old new said → (new ≡ old) ⊎ (said ≡ Ok new)
became (Ok x) old new said h = inr h
became (Err e) old new said h = inl h.0

pub altered : {A S : Type 0} (change : CopyChange) (r : Result A Refusal) (old new : S) (said : Result S Refusal) → Alters {A = A} change r old new said → (new ≡ old) ⊎ (said ≡ Ok new)
altered (Add copy) r old new said h = became r old new said h
altered (Replace from copy) r old new said h = made r old new said h
altered (Drop pool) r old new said h = made r old new said h

-- where what is said is no refusal, nothing happened, or it did
pub became_to : {A S : Type 0} (r : Result A Refusal) (old new said : S) → Becomes {A = A} r old new (Ok said) → (new ≡ old) ⊎ (said ≡ new)
became_to (Ok x) old new said h = inr (let same : said ≡ new = cc in same)
became_to (Err e) old new said h = inl h.0

pub held_to : {A S : Type 0} (P : Type 0) (r : Result A Refusal) (old new said : S) → Becomes {A = A} r old new (Ok said) → (said ≡ new → P) → OnOk r P
held_to P (Ok x) old new said h p = p (let same : said ≡ new = cc in same)
held_to P (Err e) old new said h p = tt

-- what holds of two holds of what is the same
pub both_same : {A B : Type 0} (P : A → B → Type 0) {a c : A} {b d : B} → a ≡ c → b ≡ d → P a b → P c d
both_same P {a} {c} {b} {d} first second h = subst (λ t. P t d) first (subst (λ t. P a t) second h)
