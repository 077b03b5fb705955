-- What is told before and after calls, one after the other.
use Rattle.std.proofs.Common.{Option, None, Some, IfSome, Result, Ok, Err, IfOk}
use Rattle.store_api.specs.Told.{Told}
use Rattle.real_edge.proofs.OpenFiles.{told_joined}

-- nothing was called
pub told_same : {A : Type 0} (R : A → A → Type 0) (x : Option A) → ((a : A) → R a a) → Told x x R
told_same R None f = tt
told_same R (Some a) f = f a

-- three relations one after the other
pub told_three : {A B C D : Type 0} {R : A → B → Type 0} {Q : B → C → Type 0} {S : C → D → Type 0} {P : A → D → Type 0} (x : Option A) (y : Option B) (z : Option C) (w : Option D) → Told x y R → Told y z Q → Told z w S
    → ((a : A) (b : B) (c : C) (d : D) → R a b → Q b c → S c d → P a d) → Told x w P
told_three {A} {B} {C} {D} {R} {Q} {S} {P} x y z w r q s f =
    let both : Told x z (λ (a : A) (c : C). (b : B) × R a b × Q b c) = told_joined x y z r q (λ a b c first second. (b, first, second)) in
    told_joined x z w both s (λ a c d two third. f a two.0 c d two.1 two.2 third)

-- what is known where the second one tells says something of the first
pub known_of : {A B : Type 0} {R : A → B → Type 0} {K : B → Type 0} {M : A → Type 0} (x : Option A) (y : Option B) → Told x y R → IfSome y K → ((a : A) (b : B) → R a b → K b → M a) → IfSome x M
known_of None None told known f = tt
known_of (Some a) (Some b) told known f = f a b told known
known_of None (Some b) told known f = tt
known_of (Some a) None told known f = absurd told

-- a relation says something of the first
pub known_from : {A B : Type 0} {R : A → B → Type 0} {M : A → Type 0} (x : Option A) (y : Option B) → Told x y R → ((a : A) (b : B) → R a b → M a) → IfSome x M
known_from None None told f = tt
known_from (Some a) (Some b) told f = f a b told
known_from None (Some b) told f = tt
known_from (Some a) None told f = absurd told

-- the same of what a call answers
pub known_answer : {T E A B : Type 0} {R : A → B → Type 0} {K : T → B → Type 0} {M : T → A → Type 0} (answer : Result T E) (x : Option A) (y : Option B) → Told x y R → IfOk answer (λ v. IfSome y (K v))
    → ((v : T) (a : A) (b : B) → R a b → K v b → M v a) → IfOk answer (λ v. IfSome x (M v))
known_answer (Ok v) x y told known f = known_of x y told known (f v)
known_answer (Err e) x y told known f = tt
