-- Runs of the machine by the actor who has it alone, one after the other, and how a step ends where no fault has halted it.
use Rattle.std.proofs.Common.{◌≡◌, ◌⊎◌, inl, inr, ℕ, ◌+◌, ◌-◌, ◌^◌, ◌≤◌, nat_lt, min, Bool, true, false, List, [], ◌∷◌, ◌++◌, Option, None, Some, Ok, Err, refl, sym, ap, subst, ◌∙◌, arith}
use Rattle.std.proofs.lemmas.Bool.{le-ltb, ltb-false, ltb-true}
use Rattle.std.proofs.lemmas.Option.{same_Some}
use Rattle.kinds.specs.Refusals.{foremost, sooner_of, unless}
use Rattle.kinds.specs.declared.refusal.Refusal.{Refusal}
use Rattle.kinds.specs.declared.refusal.Refusal.TheVariants as refused
use Rattle.item_refusals.proofs.Foremost.{foremost_append}
use Rattle.steps.specs.Calls.{Made}
use Rattle.steps.specs.Events.{Deed, Event, event, is_listed, refusal}
use Rattle.steps.specs.Events.Deed.{ReadPiece}
use Rattle.machine.specs.Alone.{Alone, AreBytes, Moves, behind, with_contents}
use Rattle.machine.specs.Machine.{Becomes, Case, Ends, Later, Places, Stays, ended, halted, last_moment}
use Rattle.machine.specs.Pieces.{RoseAt}
use Rattle.machine.specs.State.{Core, Machine}
use Rattle.machine.proofs.Elsewhere.{append-none, none-held, sooner-one}
use Rattle.line_results.specs.Resting.{EndsRun, IsLate, Onward, RoseFrom}

-- ---- several steps

pub alone-cut : (trusted : Type 0) (places : Places) (actor : ℕ) (xs ys : List Event) (old new : Machine) → Alone trusted places actor (xs ++ ys) old new
    → (mid : Machine) × Alone trusted places actor xs old mid × Alone trusted places actor ys mid new
alone-cut trusted places actor [] ys old new h = (old, refl, h)
alone-cut trusted places actor (x ∷ xs) ys old new h = let r = alone-cut trusted places actor xs ys h.0 new h.2 in (r.0, (h.0, h.1, r.1), r.2)

pub alone-append : (trusted : Type 0) (places : Places) (actor : ℕ) (xs ys : List Event) (old mid new : Machine) → Alone trusted places actor xs old mid → Alone trusted places actor ys mid new
    → Alone trusted places actor (xs ++ ys) old new
alone-append trusted places actor [] ys old mid new f g = subst (λ (m : Machine). Alone trusted places actor ys m new) f g
alone-append trusted places actor (x ∷ xs) ys old mid new f g = (f.0, f.1, alone-append trusted places actor xs ys f.0 mid new f.2 g)

-- cut where the steps are said to be
pub alone-parts : (trusted : Type 0) (places : Places) (actor : ℕ) (events xs ys : List Event) (old new : Machine) → events ≡ xs ++ ys → Alone trusted places actor events old new
    → (mid : Machine) × Alone trusted places actor xs old mid × Alone trusted places actor ys mid new
alone-parts trusted places actor events xs ys old new cut h = alone-cut trusted places actor xs ys old new (subst (λ (l : List Event). Alone trusted places actor l old new) cut h)

pub alone-none : (trusted : Type 0) (places : Places) (actor : ℕ) (events : List Event) (old new : Machine) → events ≡ [] → Alone trusted places actor events old new → new ≡ old
alone-none trusted places actor events old new none h = subst (λ (l : List Event). Alone trusted places actor l old new) none h

-- a step that reads no bytes is the machine's
pub stepped : (trusted : Type 0) (places : Places) (n : ℕ) (deed : Deed) (events : List Event) (old new : Machine)
    → ((contents seen : ℕ → List ℕ) → AreBytes trusted deed contents seen → seen ≡ contents)
    → ((contents : ℕ → List ℕ) (m : Machine) → behind deed contents m ≡ m)
    → events ≡ event n deed ∷ [] → Alone trusted places 0 events old new → Later old new × Case places 0 deed old new
stepped trusted places n deed events old new is stays one given =
    let h : Alone trusted places 0 (event n deed ∷ []) old new = subst (λ (l : List Event). Alone trusted places 0 l old new) one given in
    let m : Moves trusted places 0 (event n deed) old h.0 = h.1 in
    let same : m.seen ≡ old.contents = is old.contents m.seen m.bytes in
    let end : new ≡ m.next = h.2 ∙ m.left ∙ stays old.contents m.next in
    subst (λ (x : Machine). Later old x × Case places 0 deed old x) (sym end)
    (subst (λ (c : ℕ → List ℕ). Later (with_contents c old) m.next × Case places 0 deed (with_contents c old) m.next) same (m.made.later, m.made.step))

-- ---- later states

pub onward-none : (m : Machine) → Onward m m
onward-none m = record { counts = λ file. omega arith; since = omega arith }

pub onward-then : (a b c : Machine) → Onward a b → Onward b c → Onward a c
onward-then a b c x y = record {
  counts = λ file. (let p : a.counts file ≤ b.counts file = x.counts file in let q : b.counts file ≤ c.counts file = y.counts file in omega (arith, p, q));
  since = (let p : a.moment ≤ b.moment = x.since in let q : b.moment ≤ c.moment = y.since in omega (arith, p, q));
}

pub onward-later : (a b : Machine) → Later a b → Onward a b
onward-later a b l = record { counts = l.counts; since = l.since }

deed-onward : (d : Deed) (contents : ℕ → List ℕ) (m next : Machine) → Onward m next → Onward m (behind d contents next)
deed-onward (ReadPiece object kept from offset wanted answer) contents m next x = record { counts = x.counts; since = x.since }
deed-onward d contents m next x = x

-- no count falls by what one actor does
pub alone-onward : (trusted : Type 0) (places : Places) (events : List Event) (m new : Machine) → Alone trusted places 0 events m new → Onward m new
alone-onward trusted places [] m new same = subst (λ (x : Machine). Onward m x) (sym same) (onward-none m)
alone-onward trusted places (e ∷ events) m new (next, moved, rest) =
    let first : Onward m next = subst (λ (x : Machine). Onward m x) (sym moved.left) (deed-onward e.deed m.contents m moved.next (record { counts = moved.made.later.counts; since = moved.made.later.since })) in
    onward-then m next new first (alone-onward trusted places events next new rest)

pub rose-from : (a b c : Machine) (file : ℕ) → Onward a b → RoseAt b.counts c.counts file → RoseFrom a c file
rose-from a b c file x rose =
    let low : a.counts file ≤ b.counts file = x.counts file in
    let high : min (b.counts file + 1) (2 ^ 64 - 1) ≤ c.counts file = rose in
    omega (arith, low, high)

pub rose-on : (a b c : Machine) (file : ℕ) → RoseFrom a b file → Onward b c → RoseFrom a c file
rose-on a b c file rose x =
    let low : min (a.counts file + 1) (2 ^ 64 - 1) ≤ b.counts file = rose in
    let high : b.counts file ≤ c.counts file = x.counts file in
    omega (arith, low, high)

pub late-on : (a b : Machine) → Onward a b → IsLate a → IsLate b
late-on a b x late = let since : a.moment ≤ b.moment = x.since in let l : last_moment ≤ a.moment = late in omega (arith, since, l)

-- what ended the run behind a later state ended it behind this one
pub ends-since : (a b c : Machine) (e : Refusal) → Onward a b → EndsRun b c e → EndsRun a c e
ends-since a b c (refused.LogFault file count) x h = (h.0, rose-from a b c file x h.1)
ends-since a b c refused.RunFull x h = h
ends-since a b c refused.Memory x h = tt
ends-since a b c e x h = absurd h

-- ---- what the machine became

-- the machine has this core, and what objects have is what it was
pub record Became (c : Core) (old new : Machine) : Type 0 where
  pub core : new.core ≡ c
  pub contents : new.contents ≡ old.contents
  pub onward : Onward old new

abbrev pub as_is : Core → (old m : Machine) → Machine
as_is c old m = record { core = c; contents = old.contents; moment = m.moment; counts = m.counts }

pub is-as : (c : Core) (old m : Machine) → Became c old m → m ≡ as_is c old m
is-as c old m b = ap (λ (x : Core). record m { core = x }) b.core ∙ ap (λ (x : ℕ → List ℕ). record { core = c; contents = x; moment = m.moment; counts = m.counts }) b.contents

pub became-none : (old : Machine) → Became old.core old old
became-none old = record { core = refl; contents = refl; onward = onward-none old }

pub became-same : (old new : Machine) → new ≡ old → Became old.core old new
became-same old new h = subst (λ (m : Machine). Became old.core old m) (sym h) (became-none old)

-- the same core by another name
pub became-as : (c d : Core) (old new : Machine) → c ≡ d → Became c old new → Became d old new
became-as c d old new same b = record { core = b.core ∙ same; contents = b.contents; onward = b.onward }

-- one after the other
pub became-then : (c d : Core) (old mid new : Machine) → Became c old mid → Became d mid new → Became d old new
became-then c d old mid new a b = record { core = b.core; contents = b.contents ∙ a.contents; onward = onward-then old mid new a.onward b.onward }

-- nothing changed but counts and the moment, and then nothing but these again
pub became-still : (c : Core) (old mid new : Machine) → Became c old mid → Became mid.core mid new → Became c old new
became-still c old mid new a b = record { core = b.core ∙ a.core; contents = b.contents ∙ a.contents; onward = onward-then old mid new a.onward b.onward }

pub stays-became : (old new : Machine) → Later old new → Stays old new → Became old.core old new
stays-became old new later stays = record { core = stays.core; contents = stays.contents; onward = onward-later old new later }

pub becomes-became : (c : Core) (old new : Machine) → Later old new → Becomes c old new → Became c old new
becomes-became c old new later b = record { core = b.core; contents = b.contents; onward = onward-later old new later }

-- ---- a full run

-- the run is full, or memory was wanted
abbrev pub Stops : Machine → Refusal → Type 0
Stops new e = ((e ≡ refused.RunFull) × IsLate new) ⊎ (e ≡ refused.Memory)

pub stops-run : (old new : Machine) (e : Refusal) → Stops new e → EndsRun old new e
stops-run old new e (inl h) = subst (λ (x : Refusal). EndsRun old new x) (sym h.0) h.1
stops-run old new e (inr h) = subst (λ (x : Refusal). EndsRun old new x) (sym h) tt

full : (b : Bool) (e : Refusal) → foremost (unless b refused.RunFull ++ []) ≡ Some e → (b ≡ false) × (e ≡ refused.RunFull)
full true e h = absurd cc
full false e h = let same : Some refused.RunFull ≡ Some e = h in (refl, cc)

late : (m : Machine) (e : Refusal) → m.core.fault ≡ None → foremost (ended m) ≡ Some e → (e ≡ refused.RunFull) × IsLate m
late m e none h =
    let f = full (nat_lt m.moment last_moment) e (subst (λ (fault : Option (ℕ × ℕ)). foremost (unless (nat_lt m.moment last_moment) refused.RunFull ++ halted fault) ≡ Some e) none h) in
    (f.1, ltb-false m.moment last_moment f.0)

-- what is answered where none has halted the machine: the run is full, or it is one of the others
pub full-or : (m : Machine) (own : List Refusal) (e : Refusal) → m.core.fault ≡ None → foremost (ended m ++ own) ≡ Some e → ((e ≡ refused.RunFull) × IsLate m) ⊎ (foremost own ≡ Some e)
full-or m own e none h =
    elim (sooner-one (foremost (ended m)) (foremost own) e (sym (foremost_append (ended m) own) ∙ h)) as (λ _. ((e ≡ refused.RunFull) × IsLate m) ⊎ (foremost own ≡ Some e)) [
      | inl s ↦ inl (late m e none s)
      | inr s ↦ inr s
    ]

-- where none is answered the run isn't full, and none of the others is
not-full : (b : Bool) → unless b refused.RunFull ≡ [] → b ≡ true
not-full true h = refl
not-full false h = absurd cc

pub none-full : (m : Machine) (own : List Refusal) → foremost (ended m ++ own) ≡ None → (IsLate m → ⊥) × (foremost own ≡ None)
none-full m own h =
    let all = append-none (ended m) own (none-held (ended m ++ own) h) in
    let first = append-none (unless (nat_lt m.moment last_moment) refused.RunFull) (halted m.core.fault) all.0 in
    let soon = ltb-true m.moment last_moment (not-full (nat_lt m.moment last_moment) first.0) in
    (λ late. (let l : last_moment ≤ m.moment = late in omega (arith, soon, l)), ap foremost all.1)

-- ---- how a step ends

-- It was refused at its start for a cause of its own; or the run is full or memory is wanted; or it was begun.
pub ends-ok : {A : Type 0} (own : List Refusal) (Does : A → Machine → Type 0) (Fails : Refusal → Machine → Type 0) (old new : Machine) (x : A)
    → Ends (ended old ++ own) Does Fails old new (Ok x) → (IsLate old → ⊥) × (foremost own ≡ None) × Does x new
ends-ok own Does Fails old new x h = let n = none-full old own h.0 in (n.0, n.1, h.1)

abbrev pub Refuses : (own : List Refusal) (Fails : Refusal → Machine → Type 0) (old new : Machine) → Refusal → Type 0
Refuses own Fails old new e =
    ((Stops new e ⊎ (foremost own ≡ Some e)) × Became old.core old new)
    ⊎ ((IsLate old → ⊥) × (foremost own ≡ None) × Fails e new)

held-refuses : (own : List Refusal) (old new : Machine) (e : Refusal) → old.core.fault ≡ None → Later old new → (foremost (ended old ++ own) ≡ Some e) ⊎ (e ≡ refused.Memory)
    → Stops new e ⊎ (foremost own ≡ Some e)
held-refuses own old new e none later (inl h) =
    elim (full-or old own e none h) as (λ _. Stops new e ⊎ (foremost own ≡ Some e)) [
      | inl s ↦ inl (inl (s.0, late-on old new (onward-later old new later) s.1))
      | inr s ↦ inr s
    ]
held-refuses own old new e none later (inr h) = inl (inr h)

pub ends-err : {A : Type 0} (own : List Refusal) (Does : A → Machine → Type 0) (Fails : Refusal → Machine → Type 0) (old new : Machine) (e : Refusal) → old.core.fault ≡ None → Later old new
    → Ends (ended old ++ own) Does Fails old new (Err e) → Refuses own Fails old new e
ends-err own Does Fails old new e none later (inl h) = inl (held-refuses own old new e none later h.0, stays-became old new later h.1)
ends-err own Does Fails old new e none later (inr h) = let n = none-full old own h.0 in inr (n.0, n.1, h.1)

-- ---- a step that begins late

-- a full run is answered before all else
full-leads : (o : Option Refusal) → sooner_of (Some refused.RunFull) o ≡ Some refused.RunFull
full-leads None = refl
full-leads (Some refused.RunFull) = refl
full-leads (Some e) = refl

pub late-first : (soon : Bool) (fault : Option (ℕ × ℕ)) (own : List Refusal) → soon ≡ false → foremost ((unless soon refused.RunFull ++ halted fault) ++ own) ≡ Some refused.RunFull
late-first soon fault own f = ap (λ (b : Bool). foremost ((unless b refused.RunFull ++ halted fault) ++ own)) f ∙ full-leads (foremost (halted fault ++ own))

-- it is refused so, or memory is wanted
abbrev pub AreLast : Refusal → Type 0
AreLast e = (e ≡ refused.RunFull) ⊎ (e ≡ refused.Memory)

late-held : (old : Machine) (own : List Refusal) (e : Refusal) → IsLate old → (foremost (ended old ++ own) ≡ Some e) ⊎ (e ≡ refused.Memory) → AreLast e
late-held old own e late (inl h) =
    let is : Some refused.RunFull ≡ Some e = sym (late-first (nat_lt old.moment last_moment) old.core.fault own (le-ltb old.moment last_moment late)) ∙ h in
    inl (sym (same_Some refused.RunFull e is))
late-held old own e late (inr h) = inr h

late-none : (old : Machine) (own : List Refusal) → IsLate old → foremost (ended old ++ own) ≡ None → ⊥
late-none old own late h = (none-full old own h).0 late

pub late-ends : {A : Type 0} (own : List Refusal) (Does : A → Machine → Type 0) (Fails : Refusal → Machine → Type 0) (old new : Machine) (e : Refusal) → IsLate old
    → Ends (ended old ++ own) Does Fails old new (Err e) → AreLast e
late-ends own Does Fails old new e late (inl h) = late-held old own e late h.0
late-ends own Does Fails old new e late (inr h) = absurd (late-none old own late h.0)

-- the one step that was made, or none
pub one-or-none : (trusted : Type 0) (places : Places) (d : Deed) (events : List Event) (old new : Machine) → ((contents seen : ℕ → List ℕ) → AreBytes trusted d contents seen → seen ≡ contents)
    → ((contents : ℕ → List ℕ) (m : Machine) → behind d contents m ≡ m) → Made d events → Alone trusted places 0 events old new
    → (Later old new × Case places 0 d old new × (is_listed d ≡ true)) ⊎ ((refusal d ≡ Some refused.Memory) × (new ≡ old))
one-or-none trusted places d events old new is stays (inl h) f = (let s = stepped trusted places h.0 d events old new is stays h.1 f in inl (s.0, s.1, h.2))
one-or-none trusted places d events old new is stays (inr h) f = inr (h.0, alone-none trusted places 0 events old new h.1 f)
