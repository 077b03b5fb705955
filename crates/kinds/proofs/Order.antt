-- The refusal that is answered: laws for loops over many causes.
use Rattle.std.proofs.Common.{◌≡◌, ℕ, ◌+◌, ◌<◌, ◌≤◌, true, false, nat_lt, if◌then◌else◌, List, [], ◌∷◌, ◌++◌, length, slice_index_or, take, Option, Some, None, IfSome, refl, sym, subst, ◌∙◌, ap, arith, All, Contains}
use Rattle.std.proofs.lemmas.Bool.{ltb-true, ltb-false, lt-ltb, le-ltb}
use Rattle.std.proofs.lemmas.List.{take_more, take_all}
use Rattle.std.proofs.lemmas.List.Elements.{All-cons, All-nil, Contains-append_right}
use Rattle.kinds.specs.declared.refusal.Refusal.{Refusal}
use Rattle.kinds.specs.Refusals.{place_of, sooner, sooner_of, foremost}

-- the one of least key, the first where keys are equal
abbrev lesser : {A : Type 0} → (A → ℕ) → A → A → A
lesser f a b = if nat_lt (f b) (f a) then b else a

lesser-assoc : {A : Type 0} (f : A → ℕ) (a b c : A) → lesser f (lesser f a b) c ≡ lesser f a (lesser f b c)
lesser-assoc f a b c =
    elim (nat_lt (f b) (f a)) as (λ p. nat_lt (f b) (f a) ≡ p → lesser f (if p then b else a) c ≡ lesser f a (lesser f b c)) [
      | true ↦ λ ba. elim (nat_lt (f c) (f b)) as (λ q. nat_lt (f c) (f b) ≡ q → (if q then c else b) ≡ lesser f a (if q then c else b)) [
        | true ↦ λ cb.
            let below : f c < f a = omega (arith, ltb-true (f b) (f a) ba, ltb-true (f c) (f b) cb) in
            sym (ap (λ t. if t then c else a) (lt-ltb (f c) (f a) below))
        | false ↦ λ _. sym (ap (λ t. if t then b else a) ba)
      ] refl
      | false ↦ λ ba. elim (nat_lt (f c) (f b)) as (λ q. nat_lt (f c) (f b) ≡ q → lesser f a c ≡ lesser f a (if q then c else b)) [
        | true ↦ λ _. refl
        | false ↦ λ cb.
            let above : f a ≤ f c = omega (arith, ltb-false (f b) (f a) ba, ltb-false (f c) (f b) cb) in
            ap (λ t. if t then c else a) (le-ltb (f c) (f a) above) ∙ sym (ap (λ t. if t then b else a) ba)
      ] refl
    ] refl

lesser-left : {A : Type 0} (f : A → ℕ) (a b : A) → f (lesser f a b) ≤ f a
lesser-left f a b =
    elim (nat_lt (f b) (f a)) as (λ t. nat_lt (f b) (f a) ≡ t → f (if t then b else a) ≤ f a) [
      | true ↦ λ e. omega (arith, ltb-true (f b) (f a) e)
      | false ↦ λ _. omega arith
    ] refl

lesser-right : {A : Type 0} (f : A → ℕ) (a b : A) → f (lesser f a b) ≤ f b
lesser-right f a b =
    elim (nat_lt (f b) (f a)) as (λ t. nat_lt (f b) (f a) ≡ t → f (if t then b else a) ≤ f b) [
      | true ↦ λ _. omega arith
      | false ↦ λ e. omega (arith, ltb-false (f b) (f a) e)
    ] refl

-- which of three is answered doesn't depend on the order in which two of them are compared first
pub sooner_of-assoc : (a b c : Option Refusal) → sooner_of (sooner_of a b) c ≡ sooner_of a (sooner_of b c)
sooner_of-assoc None b c = refl
sooner_of-assoc (Some a) None c = refl
sooner_of-assoc (Some a) (Some b) None = refl
sooner_of-assoc (Some a) (Some b) (Some c) = ap Some (lesser-assoc place_of a b c)

-- one refusal more
pub foremost-push : (es : List Refusal) (e : Refusal) → foremost (es ++ e ∷ []) ≡ sooner_of (foremost es) (Some e)
foremost-push [] e = refl
foremost-push (x ∷ es) e = ap (sooner_of (Some x)) (foremost-push es e) ∙ sym (sooner_of-assoc (Some x) (foremost es) (Some e))

-- the refusal that is answered is one of those that hold
pub foremost-held : (es : List Refusal) → IfSome (foremost es) (Contains es)
foremost-held [] = tt
foremost-held (x ∷ es) =
    let here : Contains (x ∷ es) x = (0, omega arith, refl) in
    elim (foremost es) as (λ o. IfSome o (Contains es) → IfSome (sooner_of (Some x) o) (Contains (x ∷ es))) [
      | None ↦ λ _. here
      | Some b ↦ λ h. elim (nat_lt (place_of b) (place_of x)) as (λ t. Contains (x ∷ es) (if t then b else x)) [
        | true ↦ Contains-append_right (x ∷ []) es b h
        | false ↦ here
      ]
    ] (foremost-held es)

-- no refusal holds, or none that holds comes before this one
abbrev Least : List Refusal → Option Refusal → Type 0
Least es None = es ≡ []
Least es (Some e) = All (λ other. place_of e ≤ place_of other) es

least : (es : List Refusal) → Least es (foremost es)
least [] = refl
least (x ∷ es) =
    elim (foremost es) as (λ o. Least es o → Least (x ∷ es) (sooner_of (Some x) o)) [
      | None ↦ λ e. All-cons (λ other. place_of x ≤ place_of other) x es (omega arith) (subst (All (λ other. place_of x ≤ place_of other)) (sym e) (All-nil (λ other. place_of x ≤ place_of other)))
      | Some b ↦ λ h. All-cons (λ other. place_of (sooner x b) ≤ place_of other) x es (lesser-left place_of x b) (λ k d below. let r : place_of (sooner x b) ≤ place_of b = lesser-right place_of x b in omega (arith, h k d below))
    ] (least es)

-- none that holds comes before the refusal that is answered
pub foremost-least : (es : List Refusal) → IfSome (foremost es) (λ e. All (λ other. place_of e ≤ place_of other) es)
foremost-least es =
    elim (foremost es) as (λ o. Least es o → IfSome o (λ e. All (λ other. place_of e ≤ place_of other) es)) [
      | None ↦ λ _. tt
      | Some e ↦ λ h. h
    ] (least es)

-- a loop that has looked at i of the refusals looks at one more
pub foremost-more : (es : List Refusal) (i : ℕ) (d : Refusal) (found next : Option Refusal) → i < length es → found ≡ foremost (take i es) → next ≡ sooner_of found (Some (slice_index_or es i d)) → next ≡ foremost (take (i + 1) es)
foremost-more es i d found next below e n =
    n ∙ ap (λ o. sooner_of o (Some (slice_index_or es i d))) e ∙ sym (foremost-push (take i es) (slice_index_or es i d)) ∙ ap foremost (sym (take_more es i d below))

-- and has looked at all of them
pub foremost-done : (es : List Refusal) (i : ℕ) (found : Option Refusal) → length es ≤ i → found ≡ foremost (take i es) → found ≡ foremost es
foremost-done es i found past e = e ∙ ap foremost (take_all i es past)
