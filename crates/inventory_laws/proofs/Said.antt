-- What holds of what an answer gives, where it isn't a refusal.
use Rattle.std.proofs.Common.{◌≡◌, Bool, true, false, cond, Option, None, Some, Result, Ok, Err, IfOk, refl}
use Rattle.kinds.specs.declared.refusal.By.{By}
use Rattle.kinds.specs.declared.refusal.Refusal.{Refusal}
use Rattle.inventory_rules.specs.inventory_rows.version_groups.Entries.{if_found, on_ok}
use Rattle.inventory_rules.specs.inventory_rows.object_rows.Changes.{unless_used}
use Rattle.inventory_rules.specs.Common.{or_same}

-- one step on
pub on_ok_if : {A B : Type 0} (P : A → Type 0) (Q : B → Type 0) (f : A → B) (r : Result A Refusal) → ((x : A) → P x → Q (f x)) → IfOk r P → IfOk (on_ok f r) Q
on_ok_if P Q f (Ok x) up h = up x h
on_ok_if P Q f (Err e) up h = tt

-- what was there holds where it is refused
pub kept_or : {S : Type 0} (P : S → Type 0) (old : S) (r : Result S Refusal) → P old → IfOk r P → P (or_same old r)
kept_or P old (Ok new) was h = h
kept_or P old (Err e) was h = was

pub if_some : {A B : Type 0} (P : B → Type 0) (o : Option A) (f : A → Result B Refusal) → ((x : A) → o ≡ Some x → IfOk (f x) P) → IfOk (if_found o f) P
if_some P None f h = tt
if_some P (Some x) f h = h x refl

pub if_either : {A : Type 0} (P : A → Type 0) (b : Bool) (x y : Result A Refusal) → (b ≡ true → IfOk x P) → (b ≡ false → IfOk y P) → IfOk (cond b x y) P
if_either P true x y a b = a refl
if_either P false x y a b = b refl

pub unless_used_if : {A : Type 0} (P : A → Type 0) (o : Option By) (x : A) → P x → IfOk (unless_used o x) P
unless_used_if P None x p = p
unless_used_if P (Some by) x p = tt
