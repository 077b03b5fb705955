-- Why commands are refused: each refusal is want of memory, or one that a step of the command met.
use Rattle.std.proofs.Common.{◌≡◌, ◌⊎◌, inl, inr, ℕ, zero, suc, ◌==◌, ◌||◌, Bool, true, false, List, [], ◌∷◌, ◌++◌, Option, Some, Result, Ok, Err, if◌then◌else◌, refl, sym, subst}
use Rattle.std.specs.List.{AllByRecursion, list_any}
use Rattle.std.specs.Option.{option_map_or}
use Rattle.std.proofs.lemmas.Bool.{eqb-true}
use Rattle.kinds.specs.Refusals.{number_of}
use Rattle.kinds.specs.declared.refusal.Holder.{Holder}
use Rattle.kinds.specs.declared.refusal.Holder.TheVariants as holder
use Rattle.kinds.specs.declared.refusal.Refusal.{Refusal}
use Rattle.kinds.specs.declared.refusal.Refusal.TheVariants as refused
use Rattle.copy_attempts.proofs.Facts.{all-append, met-before, met-behind, some-memory}
use Rattle.copy_attempts.specs.Attempts.{Awaits}
use Rattle.copy_attempts.specs.Outcomes.{Met}
use Rattle.steps.specs.Calls.{Made}
use Rattle.steps.specs.Events.{Deed, Event, event, has_number, is_listed, numbers, refusal}
use Rattle.steps.specs.Events.Deed.{Force}
use Rattle.sessions.specs.Outcomes.{HasCause, IsCaused}
use Rattle.sessions.specs.Waiting.{Held, Obtains, Waited}

pub caused-behind : (list : List ℕ) (xs ys : List Event) (e : Refusal) → IsCaused list ys e → IsCaused list (xs ++ ys) e
caused-behind list xs ys e (inl h) = inl h
caused-behind list xs ys e (inr h) = inr (h.0, met-behind (λ d. refusal d ≡ Some e) xs ys h.1)

pub caused-before : (list : List ℕ) (xs ys : List Event) (e : Refusal) → IsCaused list xs e → IsCaused list (xs ++ ys) e
caused-before list xs ys e (inl h) = inl h
caused-before list xs ys e (inr h) = inr (h.0, met-before (λ d. refusal d ≡ Some e) xs ys h.1)

pub cause-behind : {A : Type 0} (list : List ℕ) (xs ys : List Event) (result : Result A Refusal) → HasCause list ys result → HasCause list (xs ++ ys) result
cause-behind list xs ys (Ok x) h = tt
cause-behind list xs ys (Err e) h = caused-behind list xs ys e h

-- a step's refusal is one of its list
listed-number : (d : Deed) (e : Refusal) → refusal d ≡ Some e → is_listed d ≡ true → has_number (numbers d) e ≡ true
unfolding is_listed
listed-number d e is listed = subst (λ (o : Option Refusal). option_map_or (has_number (numbers d)) o true ≡ true) is listed

-- the refusal of a step
pub made-caused : (d : Deed) (e : Refusal) (list : List ℕ) (events : List Event) → Made d events → refusal d ≡ Some e → (has_number (numbers d) e ≡ true → has_number list e ≡ true) → IsCaused list events e
made-caused d e list events (inl h) is among = inr (among (listed-number d e is h.2), subst (λ (es : List Event). Met e es) (sym h.1) (inl is))
made-caused d e list events (inr h) is among = inl (some-memory e d is h.0)

-- the refusal of a step, where others stand for want of memory
pub limited-caused : (list : List ℕ) (why : Refusal) (d : Deed) (events : List Event) (test : Bool) → Made d events → refusal d ≡ Some why → (test ≡ true → has_number list why ≡ true)
    → IsCaused list events (if test then why else refused.Memory)
limited-caused list why d events true made is among = made-caused d why list events made is (λ _. among refl)
limited-caused list why d events false made is among = inl refl

-- a halted hall and a full run are on the list
abbrev pub HasEnds : List ℕ → Type 0
HasEnds list = (e : Refusal) → has_number (40 ∷ 41 ∷ []) e ≡ true → has_number list e ≡ true

one-of-two : (k : ℕ) (a b : Bool) → (40 == k) ≡ a → (41 == k) ≡ b → (a || (b || false)) ≡ true → (40 ≡ k) ⊎ (41 ≡ k)
one-of-two k true b x y h = inl (eqb-true 40 k x)
one-of-two k false true x y h = inr (eqb-true 41 k y)
one-of-two k false false x y h = absurd cc

pub one-of-three : (k : ℕ) (a b c : Bool) → (40 == k) ≡ a → (41 == k) ≡ b → (50 == k) ≡ c → (a || (b || (c || false))) ≡ true → (40 ≡ k) ⊎ (41 ≡ k) ⊎ (50 ≡ k)
one-of-three k true b c x y z h = inl (eqb-true 40 k x)
one-of-three k false true c x y z h = inr (inl (eqb-true 41 k y))
one-of-three k false false true x y z h = inr (inr (eqb-true 50 k z))
one-of-three k false false false x y z h = absurd cc

pub has-ends : (list : List ℕ) → list_any (λ n. n == 40) list ≡ true → list_any (λ n. n == 41) list ≡ true → HasEnds list
has-ends list forty more e h = elim (one-of-two (number_of e) (40 == number_of e) (41 == number_of e) refl refl h) as (λ _. has_number list e ≡ true) [
  | inl is ↦ subst (λ (m : ℕ). list_any (λ n. n == m) list ≡ true) is forty
  | inr is ↦ subst (λ (m : ℕ). list_any (λ n. n == m) list ≡ true) is more
]

-- a wait that was refused
pub wait-caused : (list : List ℕ) → HasEnds list → (xs ys : List Event) (h : Holder) (e : Refusal) → IsCaused list xs (refused.Busy h) → Awaits h ys (Err e) → IsCaused list (xs ++ ys) e
wait-caused list ends xs ys (holder.Unforced number) e busy (Ok n, same, made) = absurd cc
wait-caused list ends xs ys (holder.Unforced number) e busy (Err f, same, made) =
    let is : e ≡ f = cc in
    subst (λ (x : Refusal). IsCaused list (xs ++ ys) x) (sym is) (caused-behind list xs ys f (made-caused (Force (Err f)) f list ys made refl (ends f)))
wait-caused list ends xs ys (holder.Ticket number) e busy (none, inl same) = absurd cc
wait-caused list ends xs ys (holder.Ticket number) e busy (none, inr (inl same)) =
    let is : e ≡ refused.Busy (holder.Ticket number) = cc in
    subst (λ (x : Refusal). IsCaused list (xs ++ ys) x) (sym is) (caused-before list xs ys (refused.Busy (holder.Ticket number)) busy)
wait-caused list ends xs ys (holder.Ticket number) e busy (none, inr (inr same)) = inl cc
wait-caused list ends xs ys (holder.Image actor) e busy (none, inl same) = absurd cc
wait-caused list ends xs ys (holder.Image actor) e busy (none, inr (inl same)) =
    let is : e ≡ refused.Busy (holder.Image actor) = cc in
    subst (λ (x : Refusal). IsCaused list (xs ++ ys) x) (sym is) (caused-before list xs ys (refused.Busy (holder.Image actor)) busy)
wait-caused list ends xs ys (holder.Image actor) e busy (none, inr (inr same)) = inl cc

-- tries each of which has a cause have one together
pub obtains-caused : {A : Type 0} (list : List ℕ) → HasEnds list → (Tries : Result A Refusal → List Event → Type 0) → ((answer : Result A Refusal) (xs : List Event) → Tries answer xs → HasCause list xs answer)
    → (events : List Event) (result : Result A Refusal) → Obtains Tries events result → HasCause list events result
obtains-caused list ends Tries each events result (number, (xs, ys, same, waited, inl h)) =
    subst (λ (es : List Event). HasCause list es result) (sym same) (cause-behind list xs ys result (each result ys h.1))
obtains-caused list ends Tries each events result (number, (xs, ys, same, waited, inr (inl (e, (h, (zs, ws, cut, tried, awaited)), is)))) =
    let held : IsCaused list ys e = subst (λ (es : List Event). IsCaused list es e) (sym cut) (wait-caused list ends zs ws h e (each (Err (refused.Busy h)) zs tried) awaited) in
    subst (λ r. HasCause list events r) (sym is) (subst (λ (es : List Event). IsCaused list es e) (sym same) (caused-behind list xs ys e held))
obtains-caused list ends Tries each events result (number, (xs, ys, same, waited, inr (inr h))) =
    subst (λ r. HasCause list events r) (sym h.2) (inl refl)

-- ---- what holds of each step

pub made-all : (P : Event → Type 0) (d : Deed) (events : List Event) → Made d events → ((n : ℕ) → P (event n d)) → AllByRecursion P events
made-all P d events (inl h) each = subst (λ (es : List Event). AllByRecursion P es) (sym h.1) (each h.0, tt)
made-all P d events (inr h) each = subst (λ (es : List Event). AllByRecursion P es) (sym h.1) tt

pub awaits-all : (P : Event → Type 0) → ((n : ℕ) (answer : Result ℕ Refusal) → P (event n (Force answer))) → (h : Holder) (events : List Event) (answer : Result (Unit {0}) Refusal) → Awaits h events answer
    → AllByRecursion P events
awaits-all P forces (holder.Unforced number) events answer (a, same, made) = made-all P (Force a) events made (λ n. forces n a)
awaits-all P forces (holder.Ticket number) events answer h = subst (λ (es : List Event). AllByRecursion P es) (sym h.0) tt
awaits-all P forces (holder.Image actor) events answer h = subst (λ (es : List Event). AllByRecursion P es) (sym h.0) tt

pub then-all : (P : Event → Type 0) (events xs ys : List Event) → events ≡ xs ++ ys → AllByRecursion P xs → AllByRecursion P ys → AllByRecursion P events
then-all P events xs ys cut a b = subst (λ (es : List Event). AllByRecursion P es) (sym cut) (all-append P xs ys a b)

held-all : {A : Type 0} (P : Event → Type 0) → ((n : ℕ) (answer : Result ℕ Refusal) → P (event n (Force answer))) → (Tries : Result A Refusal → List Event → Type 0)
    → ((answer : Result A Refusal) (xs : List Event) → Tries answer xs → AllByRecursion P xs) → (events : List Event) (answer : Result (Unit {0}) Refusal) → Held Tries events answer → AllByRecursion P events
held-all P forces Tries each events answer (h, (xs, ys, cut, tried, awaited)) = then-all P events xs ys cut (each (Err (refused.Busy h)) xs tried) (awaits-all P forces h ys answer awaited)

waited-all : {A : Type 0} (P : Event → Type 0) → ((n : ℕ) (answer : Result ℕ Refusal) → P (event n (Force answer))) → (Tries : Result A Refusal → List Event → Type 0)
    → ((answer : Result A Refusal) (xs : List Event) → Tries answer xs → AllByRecursion P xs) → (number : ℕ) (events : List Event) → Waited Tries number events → AllByRecursion P events
waited-all P forces Tries each zero events h = subst (λ (es : List Event). AllByRecursion P es) (sym h) tt
waited-all P forces Tries each (suc number) events (xs, ys, cut, waited, held) =
    then-all P events xs ys cut (waited-all P forces Tries each number xs waited) (held-all P forces Tries each ys (Ok tt) held)

pub obtains-all : {A : Type 0} (P : Event → Type 0) → ((n : ℕ) (answer : Result ℕ Refusal) → P (event n (Force answer))) → (Tries : Result A Refusal → List Event → Type 0)
    → ((answer : Result A Refusal) (xs : List Event) → Tries answer xs → AllByRecursion P xs) → (events : List Event) (result : Result A Refusal) → Obtains Tries events result → AllByRecursion P events
obtains-all P forces Tries each events result (number, (xs, ys, cut, waited, inl h)) =
    then-all P events xs ys cut (waited-all P forces Tries each number xs waited) (each result ys h.1)
obtains-all P forces Tries each events result (number, (xs, ys, cut, waited, inr (inl (e, held, is)))) =
    then-all P events xs ys cut (waited-all P forces Tries each number xs waited) (held-all P forces Tries each ys (Err e) held)
obtains-all P forces Tries each events result (number, (xs, ys, cut, waited, inr (inr h))) =
    then-all P events xs ys cut (waited-all P forces Tries each number xs waited) (subst (λ (es : List Event). AllByRecursion P es) (sym h.1) tt)
