-- Which of several lists of causes is answered.
use Rattle.std.proofs.Common.{◌≡◌, ◌⊎◌, inl, inr, ℕ, Bool, true, false, nat_lt, if◌then◌else◌, List, [], ◌∷◌, ◌++◌, Option, Some, None, refl, sym, ap, subst, ◌∙◌}
use Rattle.std.specs.List.{AllByRecursion}
use Rattle.item_refusals.proofs.Foremost.{foremost_append}
use Rattle.kinds.specs.Refusals.{foremost, place_of, sooner_of, unless}
use Rattle.kinds.specs.declared.refusal.Refusal.{Refusal}
use Rattle.kinds.specs.declared.refusal.Refusal.TheVariants as refusal
use Rattle.machine.specs.Machine.{ended, halted, last_moment}
use Rattle.machine.specs.Says.{is_elsewhere}
use Rattle.machine.specs.State.{Machine}

-- each is a cause elsewhere
abbrev pub AreElsewhere : List Refusal → Type 0
AreElsewhere causes = AllByRecursion (λ e. is_elsewhere e ≡ true) causes

sooner_some : (a : Refusal) (o : Option Refusal) → sooner_of (Some a) o ≡ None → ⊥
sooner_some a None h = cc
sooner_some a (Some b) h = cc

-- where no cause is answered there is none
pub none-held : (causes : List Refusal) → foremost causes ≡ None → causes ≡ []
none-held [] h = refl
none-held (e ∷ causes) h = absurd (sooner_some e (foremost causes) h)

pub append-none : {A : Type 0} (xs ys : List A) → xs ++ ys ≡ [] → (xs ≡ []) × (ys ≡ [])
append-none [] ys h = (refl, h)
append-none (x ∷ xs) ys h = absurd cc

pub sooner-one : (a b : Option Refusal) (e : Refusal) → sooner_of a b ≡ Some e → (a ≡ Some e) ⊎ (b ≡ Some e)
sooner-one None b e h = inr h
sooner-one (Some a) None e h = inl h
sooner-one (Some a) (Some b) e h =
    elim (nat_lt (place_of b) (place_of a)) as (λ t. Some (if t then b else a) ≡ Some e → (Some a ≡ Some e) ⊎ (Some b ≡ Some e)) [
      | true ↦ λ s. inr s
      | false ↦ λ s. inl s
    ] h

-- what holds of all causes holds of the one that is answered
pub foremost-all : (P : Refusal → Type 0) (causes : List Refusal) → AllByRecursion P causes → (e : Refusal) → foremost causes ≡ Some e → P e
foremost-all P [] all e h = absurd cc
foremost-all P (x ∷ causes) all e h =
    elim (sooner-one (Some x) (foremost causes) e h) as (λ _. P e) [
      | inl s ↦ let same : x ≡ e = cc in subst P same all.0
      | inr s ↦ foremost-all P causes all.1 e s
    ]

pub unless-all : (P : Refusal → Type 0) (holds : Bool) (e : Refusal) → P e → AllByRecursion P (unless holds e)
unless-all P true e h = tt
unless-all P false e h = (h, tt)

pub append-all : (P : Refusal → Type 0) (xs ys : List Refusal) → AllByRecursion P xs → AllByRecursion P ys → AllByRecursion P (xs ++ ys)
append-all P [] ys a b = b
append-all P (x ∷ xs) ys a b = (a.0, append-all P xs ys a.1 b)

elsewhere-answered : (causes : List Refusal) → AreElsewhere causes → (e : Refusal) → foremost causes ≡ Some e → is_elsewhere e ≡ true
elsewhere-answered causes all e h = foremost-all (λ x. is_elsewhere x ≡ true) causes all e h

-- between causes elsewhere, what is answered is one of the actor's own or elsewhere
pub own-or-elsewhere : (first own others : List Refusal) → AreElsewhere first → AreElsewhere others → (e : Refusal) → foremost (first ++ (own ++ others)) ≡ Some e
    → (foremost own ≡ Some e) ⊎ (is_elsewhere e ≡ true)
own-or-elsewhere first own others a b e h =
    elim (sooner-one (foremost first) (foremost (own ++ others)) e (sym (foremost_append first (own ++ others)) ∙ h)) as (λ _. (foremost own ≡ Some e) ⊎ (is_elsewhere e ≡ true)) [
      | inl s ↦ inr (elsewhere-answered first a e s)
      | inr s ↦ elim (sooner-one (foremost own) (foremost others) e (sym (foremost_append own others) ∙ s)) as (λ _. (foremost own ≡ Some e) ⊎ (is_elsewhere e ≡ true)) [
        | inl t ↦ inl t
        | inr t ↦ inr (elsewhere-answered others b e t)
      ]
    ]

-- where none of all is answered, none of the actor's own is
pub own-none : (first own others : List Refusal) → foremost (first ++ (own ++ others)) ≡ None → foremost own ≡ None
own-none first own others h =
    let all : first ++ (own ++ others) ≡ [] = none-held (first ++ (own ++ others)) h in
    let rest : own ++ others ≡ [] = (append-none first (own ++ others) all).1 in
    ap foremost (append-none own others rest).0

pub unless-elsewhere : (holds : Bool) (e : Refusal) → is_elsewhere e ≡ true → AreElsewhere (unless holds e)
unless-elsewhere holds e h = unless-all (λ x. is_elsewhere x ≡ true) holds e h

pub append-elsewhere : (xs ys : List Refusal) → AreElsewhere xs → AreElsewhere ys → AreElsewhere (xs ++ ys)
append-elsewhere xs ys a b = append-all (λ x. is_elsewhere x ≡ true) xs ys a b

halted-all : (P : Refusal → Type 0) → ((file count : ℕ) → P (refusal.LogFault file count)) → (fault : Option (ℕ × ℕ)) → AllByRecursion P (halted fault)
halted-all P h None = tt
halted-all P h (Some f) = (h f.0 f.1, tt)

-- what holds of a full run and of a fault of the log holds of all that ends a run
pub ended-all : (P : Refusal → Type 0) → P refusal.RunFull → ((file count : ℕ) → P (refusal.LogFault file count)) → (m : Machine) → AllByRecursion P (ended m)
ended-all P full fault m = append-all P (unless (nat_lt m.moment last_moment) refusal.RunFull) (halted m.core.fault) (unless-all P (nat_lt m.moment last_moment) refusal.RunFull full) (halted-all P fault m.core.fault)

pub ended-elsewhere : (m : Machine) → AreElsewhere (ended m)
ended-elsewhere m = ended-all (λ e. is_elsewhere e ≡ true) refl (λ file count. refl) m
