-- Which refusal is answered of those that hold when a step begins.
use Rattle.std.proofs.Common.{◌≡◌, ℕ, ◌+◌, ◌<◌, ◌≤◌, ◌^◌, true, false, nat_lt, is_some, List, [], ◌∷◌, ◌++◌, Option, Some, None, refl, sym, ap, ◌∙◌, if◌then◌else◌, arith}
use Rattle.std.specs.List.{AllByRecursion}
use Rattle.std.proofs.lemmas.Bool.{le-ltb, ltb-true}
use Rattle.item_refusals.proofs.Foremost.{foremost_append}
use Rattle.kinds.specs.Refusals.{foremost, place_of, sooner_of, unless}
use Rattle.kinds.specs.declared.refusal.Refusal.{Refusal}
use Rattle.kinds.specs.declared.refusal.Refusal.TheVariants as refusal
use Rattle.machine.specs.Causes.{of_ticket}
use Rattle.machine.specs.Machine.{ended, halted, last_moment}
use Rattle.machine.specs.State.{Machine, Ticket}
use Rattle.machine.proofs.Elsewhere.{append-all, foremost-all, unless-all}
use Rattle.hall.specs.Held.{Held, IsCore}
use Rattle.hall.specs.Seats.{ended_at}

-- what the hall holds tells the same as the machine
pub ended_is : (moment : ℕ) (h : Held) (m : Machine) → IsCore h m.core → m.moment ≡ moment → ended m ≡ ended_at moment h
ended_is moment h m is at =
    ap (λ (n : ℕ). unless (nat_lt n last_moment) refusal.RunFull ++ halted m.core.fault) at
    ∙ ap (λ (f : Option (ℕ × ℕ)). unless (nat_lt moment last_moment) refusal.RunFull ++ halted f) is.fault

pub halted_all : (P : Refusal → Type 0) → ((file count : ℕ) → P (refusal.LogFault file count)) → (fault : Option (ℕ × ℕ)) → AllByRecursion P (halted fault)
halted_all P h None = tt
halted_all P h (Some f) = (h f.0 f.1, tt)

-- what holds of a full run and of a fault holds of each of these
pub ended_all : (P : Refusal → Type 0) → P refusal.RunFull → ((file count : ℕ) → P (refusal.LogFault file count)) → (moment : ℕ) (h : Held) → AllByRecursion P (ended_at moment h)
ended_all P full fault moment h =
    append-all P (unless (nat_lt moment last_moment) refusal.RunFull) (halted h.vault.fault) (unless-all P (nat_lt moment last_moment) refusal.RunFull full) (halted_all P fault h.vault.fault)

-- and of what is answered
pub ended_has : (P : Refusal → Type 0) → P refusal.RunFull → ((file count : ℕ) → P (refusal.LogFault file count)) → (moment : ℕ) (h : Held) (e : Refusal) → foremost (ended_at moment h) ≡ Some e → P e
ended_has P full fault moment h e is =
    foremost-all P (ended_at moment h) (ended_all P full fault moment h) e is

no_fault : (fault : Option (ℕ × ℕ)) → foremost (halted fault) ≡ None → fault ≡ None
no_fault None h = refl
no_fault (Some f) h = absurd cc

second_none : (a b : Option Refusal) → sooner_of a b ≡ None → b ≡ None
second_none None b h = h
second_none (Some x) None h = refl
second_none (Some x) (Some y) h = absurd cc

is_less : (a b : ℕ) (faults : List Refusal) → foremost (unless (nat_lt a b) refusal.RunFull ++ faults) ≡ None → nat_lt a b ≡ true
is_less a b faults h = elim (nat_lt a b) as (λ t. foremost (unless t refusal.RunFull ++ faults) ≡ None → t ≡ true) [
  | true ↦ λ _. refl
  | false ↦ λ n. absurd (some_first (foremost faults) n)
] h
  where
    some_first : (o : Option Refusal) → sooner_of (Some refusal.RunFull) o ≡ None → ⊥
    some_first None h = absurd cc
    some_first (Some x) h = absurd cc

-- where a step may begin the run isn't full
pub not_over : (moment : ℕ) (h : Held) → foremost (ended_at moment h) ≡ None → moment < last_moment
not_over moment h is = ltb-true moment last_moment (is_less moment last_moment (halted h.vault.fault) is)

-- where a step may begin there is time for its calls
pub time_left : (moment : ℕ) (h : Held) → foremost (ended_at moment h) ≡ None → moment + 3 ≤ 2 ^ 62
time_left moment h is = let l : moment < last_moment = not_over moment h is in omega (arith, l)

-- where a step may begin no fault has halted the hall
pub none_halted : (moment : ℕ) (h : Held) → foremost (ended_at moment h) ≡ None → h.vault.fault ≡ None
none_halted moment h is =
    let full : List Refusal = unless (nat_lt moment last_moment) refusal.RunFull in
    no_fault h.vault.fault (second_none (foremost full) (foremost (halted h.vault.fault)) (sym (foremost_append full (halted h.vault.fault)) ∙ is))

-- the same of what a reader answered
pub said_at : (at moment : ℕ) (h : Held) (r o : Option Refusal) → at ≡ moment → r ≡ foremost (ended_at at h) → r ≡ o → foremost (ended_at moment h) ≡ o
said_at at moment h r o same is answer = ap (λ n. foremost (ended_at n h)) (sym same) ∙ sym is ∙ answer

-- the answers of two readers that look one after the other
pub full_first : (fault : Option (ℕ × ℕ)) → Some refusal.RunFull ≡ foremost (refusal.RunFull ∷ halted fault)
full_first None = refl
full_first (Some f) = refl

sooner_first : (a : Refusal) (o : Option Refusal) → ((b : Refusal) → o ≡ Some b → place_of a ≤ place_of b) → sooner_of (Some a) o ≡ Some a
sooner_first a None before = refl
sooner_first a (Some b) before = ap (λ t. Some (if t then b else a)) (le-ltb (place_of b) (place_of a) (before b refl))

-- the first of these lists has the one that is answered, where no later one comes before it
pub first_answers : (xs ys : List Refusal) (e : Refusal) → foremost xs ≡ Some e → AllByRecursion (λ y. place_of e ≤ place_of y) ys → foremost (xs ++ ys) ≡ Some e
first_answers xs ys e is later =
    foremost_append xs ys ∙ ap (λ (o : Option Refusal). sooner_of o (foremost ys)) is ∙ sooner_first e (foremost ys) (λ b at. foremost-all (λ y. place_of e ≤ place_of y) ys later b at)

-- nothing is answered of the first
pub next_answers : (xs ys : List Refusal) → foremost xs ≡ None → foremost (xs ++ ys) ≡ foremost ys
next_answers xs ys is = foremost_append xs ys ∙ ap (λ (o : Option Refusal). sooner_of o (foremost ys)) is

-- A full run and a fault come before all others.
pub ended_first : (moment : ℕ) (h : Held) (ys : List Refusal) (e : Refusal) → foremost (ended_at moment h) ≡ Some e → AllByRecursion (λ y. 1 ≤ place_of y) ys
    → foremost (ended_at moment h ++ ys) ≡ Some e
ended_first moment h ys e is later =
    let low : place_of e ≤ 1 = ended_has (λ x. place_of x ≤ 1) (omega arith) (λ file count. omega arith) moment h e is in
    first_answers (ended_at moment h) ys e is (all_after low ys later)
  where
    all_after : place_of e ≤ 1 → (list : List Refusal) → AllByRecursion (λ y. 1 ≤ place_of y) list → AllByRecursion (λ y. place_of e ≤ place_of y) list
    all_after low [] all = tt
    all_after low (y ∷ list) all = (omega (arith, low, all.0), all_after low list all.1)

-- ---- a ticket that has to be the actor's

pub of_there : (rule : Ticket → List Refusal) (found : Option Ticket) → ((t : Ticket) → rule t ≡ []) → is_some found ≡ true → of_ticket rule found ≡ []
of_there rule None none h = absurd cc
of_there rule (Some t) none h = none t

pub of_absent : (rule : Ticket → List Refusal) (found : Option Ticket) → is_some found ≡ false → of_ticket rule found ≡ refusal.NotFound ∷ []
of_absent rule None h = refl
of_absent rule (Some t) h = absurd cc
