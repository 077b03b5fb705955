-- Which of an actor's tickets are left, behind one list of steps after another.
use Rattle.std.proofs.Common.{◌≡◌, ◌⊎◌, inl, inr, ℕ, ◌==◌, ◌||◌, Bool, true, false, List, [], ◌∷◌, ◌++◌, Some, Ok, Err, refl, sym, ap, subst, ◌∙◌}
use Rattle.std.proofs.lemmas.Bool.{eq-eqb, eqb-true, false≢true}
use Rattle.std.proofs.lemmas.List.Folds.{list_any-append}
use Rattle.std.specs.List.{AllByRecursion, list_any}
use Rattle.kinds.specs.declared.refusal.Refusal.TheVariants.{Memory}
use Rattle.steps.specs.Calls.{IsStep, Made}
use Rattle.steps.specs.Events.{Deed, Event, refusal}
use Rattle.steps.specs.Events.Deed.{OpenNew, OpenCopy, WritePiece, CopyPiece, Seal, Commit, DropTicket, ReadPiece, Ask, Image, Reuse, Force}
use Rattle.steps.specs.Spent.{AreSettled, IsSettled, is_spent, spends}

-- ---- steps of which one is so

or-true : (b : Bool) → (b || true) ≡ true
or-true true = refl
or-true false = refl

pub any-behind : (test : Event → Bool) (xs ys : List Event) → list_any test ys ≡ true → list_any test (xs ++ ys) ≡ true
any-behind test xs ys h = list_any-append test xs ys ∙ ap (λ b. list_any test xs || b) h ∙ or-true (list_any test xs)

pub any-before : (test : Event → Bool) (xs ys : List Event) → list_any test xs ≡ true → list_any test (xs ++ ys) ≡ true
any-before test xs ys h = list_any-append test xs ys ∙ ap (λ b. b || list_any test ys) h

-- ---- tickets that are spent

pub spent-behind : (ticket : ℕ) (xs ys : List Event) → is_spent ticket ys ≡ true → is_spent ticket (xs ++ ys) ≡ true
spent-behind ticket xs ys h = any-behind (λ e. spends ticket e.deed) xs ys h

pub spent-before : (ticket : ℕ) (xs ys : List Event) → is_spent ticket xs ≡ true → is_spent ticket (xs ++ ys) ≡ true
spent-before ticket xs ys h = any-before (λ e. spends ticket e.deed) xs ys h

settled-later : (d : Deed) (later more : List Event) → IsSettled d later → IsSettled d (later ++ more)
settled-later (OpenNew pool size prefer (Ok ticket)) later more h = spent-before ticket later more h
settled-later (OpenNew pool size prefer (Err e)) later more h = tt
settled-later (OpenCopy object aim avoid (Ok ticket)) later more h = spent-before ticket later more h
settled-later (OpenCopy object aim avoid (Err e)) later more h = tt
settled-later (WritePiece ticket bytes answer) later more h = tt
settled-later (CopyPiece ticket answer) later more h = tt
settled-later (Seal ticket answer) later more h = tt
settled-later (Commit a tickets answer) later more h = tt
settled-later (DropTicket ticket answer) later more h = tt
settled-later (ReadPiece object kept from offset wanted answer) later more h = tt
settled-later (Ask query answer) later more h = tt
settled-later (Image kind answer) later more h = tt
settled-later (Reuse file answer) later more h = tt
settled-later (Force answer) later more h = tt

pub settled-append : (xs ys : List Event) → AreSettled xs → AreSettled ys → AreSettled (xs ++ ys)
settled-append [] ys a b = b
settled-append (x ∷ xs) ys a b = (settled-later x.deed xs ys a.0, settled-append xs ys a.1 b)

-- ---- tickets that are held on

-- one of these
abbrev pub is_in : ℕ → List ℕ → Bool
is_in ticket held = list_any (λ t. t == ticket) held

-- a ticket that the step opened for a new object is one of these, or isn't there any more behind the later steps
abbrev pub IsHeld : (held : List ℕ) → Deed → List Event → Type 0
IsHeld held (OpenNew pool size prefer (Ok ticket)) later = (is_spent ticket later ≡ true) ⊎ (is_in ticket held ≡ true)
IsHeld held d later = IsSettled d later

-- no others are left
abbrev pub AreHeld : (held : List ℕ) → List Event → Type 0
AreHeld held [] = Unit {0}
AreHeld held (e ∷ events) = IsHeld held e.deed events × AreHeld held events

-- each of these tickets is spent by later steps, or held on
abbrev pub PassesOn : (held kept : List ℕ) → List Event → Type 0
PassesOn held kept more = (t : ℕ) → is_in t held ≡ true → (is_spent t more ≡ true) ⊎ (is_in t kept ≡ true)

held-later : (held kept : List ℕ) (d : Deed) (later more : List Event) → PassesOn held kept more → IsHeld held d later → IsHeld kept d (later ++ more)
held-later held kept (OpenNew pool size prefer (Ok ticket)) later more so (inl h) = inl (spent-before ticket later more h)
held-later held kept (OpenNew pool size prefer (Ok ticket)) later more so (inr h) = elim (so ticket h) as (λ _. (is_spent ticket (later ++ more) ≡ true) ⊎ (is_in ticket kept ≡ true)) [
  | inl s ↦ inl (spent-behind ticket later more s)
  | inr k ↦ inr k
]
held-later held kept (OpenNew pool size prefer (Err e)) later more so h = tt
held-later held kept (OpenCopy object aim avoid answer) later more so h = settled-later (OpenCopy object aim avoid answer) later more h
held-later held kept (WritePiece ticket bytes answer) later more so h = tt
held-later held kept (CopyPiece ticket answer) later more so h = tt
held-later held kept (Seal ticket answer) later more so h = tt
held-later held kept (Commit a tickets answer) later more so h = tt
held-later held kept (DropTicket ticket answer) later more so h = tt
held-later held kept (ReadPiece object digest from offset wanted answer) later more so h = tt
held-later held kept (Ask query answer) later more so h = tt
held-later held kept (Image kind answer) later more so h = tt
held-later held kept (Reuse file answer) later more so h = tt
held-later held kept (Force answer) later more so h = tt

pub held-join : (held kept : List ℕ) (xs ys : List Event) → PassesOn held kept ys → AreHeld held xs → AreHeld kept ys → AreHeld kept (xs ++ ys)
held-join held kept [] ys so a b = b
held-join held kept (x ∷ xs) ys so a b = (held-later held kept x.deed xs ys so a.0, held-join held kept xs ys so a.1 b)

-- one list behind another, both of which leave these at most
pub held-both : (held : List ℕ) (events xs ys : List Event) → events ≡ xs ++ ys → AreHeld held xs → AreHeld held ys → AreHeld held events
held-both held events xs ys made a b = subst (λ (es : List Event). AreHeld held es) (sym made) (held-join held held xs ys (λ t h. inr h) a b)

more-held : (held kept : List ℕ) (d : Deed) (later : List Event) → ((t : ℕ) → is_in t held ≡ true → is_in t kept ≡ true) → IsHeld held d later → IsHeld kept d later
more-held held kept (OpenNew pool size prefer (Ok ticket)) later so (inl h) = inl h
more-held held kept (OpenNew pool size prefer (Ok ticket)) later so (inr h) = inr (so ticket h)
more-held held kept (OpenNew pool size prefer (Err e)) later so h = tt
more-held held kept (OpenCopy object aim avoid answer) later so h = h
more-held held kept (WritePiece ticket bytes answer) later so h = tt
more-held held kept (CopyPiece ticket answer) later so h = tt
more-held held kept (Seal ticket answer) later so h = tt
more-held held kept (Commit a tickets answer) later so h = tt
more-held held kept (DropTicket ticket answer) later so h = tt
more-held held kept (ReadPiece object digest from offset wanted answer) later so h = tt
more-held held kept (Ask query answer) later so h = tt
more-held held kept (Image kind answer) later so h = tt
more-held held kept (Reuse file answer) later so h = tt
more-held held kept (Force answer) later so h = tt

-- no more are left where more may be
pub held-more : (held kept : List ℕ) (xs : List Event) → ((t : ℕ) → is_in t held ≡ true → is_in t kept ≡ true) → AreHeld held xs → AreHeld kept xs
held-more held kept [] so a = tt
held-more held kept (x ∷ xs) so a = (more-held held kept x.deed xs so a.0, held-more held kept xs so a.1)

none-held : (d : Deed) (later : List Event) → IsHeld [] d later → IsSettled d later
none-held (OpenNew pool size prefer (Ok ticket)) later (inl h) = h
none-held (OpenNew pool size prefer (Ok ticket)) later (inr h) = absurd (false≢true h)
none-held (OpenNew pool size prefer (Err e)) later h = tt
none-held (OpenCopy object aim avoid answer) later h = h
none-held (WritePiece ticket bytes answer) later h = tt
none-held (CopyPiece ticket answer) later h = tt
none-held (Seal ticket answer) later h = tt
none-held (Commit a tickets answer) later h = tt
none-held (DropTicket ticket answer) later h = tt
none-held (ReadPiece object digest from offset wanted answer) later h = tt
none-held (Ask query answer) later h = tt
none-held (Image kind answer) later h = tt
none-held (Reuse file answer) later h = tt
none-held (Force answer) later h = tt

-- where none is held on none is left
pub held-settled : (xs : List Event) → AreHeld [] xs → AreSettled xs
held-settled [] h = tt
held-settled (x ∷ xs) h = (none-held x.deed xs h.0, held-settled xs h.1)

-- ---- steps that open none

abbrev pub opens_one : Deed → Bool
opens_one (OpenNew pool size prefer (Ok ticket)) = true
opens_one (OpenCopy object aim avoid (Ok ticket)) = true
opens_one _ = false

abbrev pub AreClosed : List Event → Type 0
AreClosed events = AllByRecursion (λ e. opens_one e.deed ≡ false) events

closed-one : (held : List ℕ) (d : Deed) (later : List Event) → opens_one d ≡ false → IsHeld held d later
closed-one held (OpenNew pool size prefer (Ok ticket)) later h = absurd (false≢true (sym h))
closed-one held (OpenNew pool size prefer (Err e)) later h = tt
closed-one held (OpenCopy object aim avoid (Ok ticket)) later h = absurd (false≢true (sym h))
closed-one held (OpenCopy object aim avoid (Err e)) later h = tt
closed-one held (WritePiece ticket bytes answer) later h = tt
closed-one held (CopyPiece ticket answer) later h = tt
closed-one held (Seal ticket answer) later h = tt
closed-one held (Commit a tickets answer) later h = tt
closed-one held (DropTicket ticket answer) later h = tt
closed-one held (ReadPiece object digest from offset wanted answer) later h = tt
closed-one held (Ask query answer) later h = tt
closed-one held (Image kind answer) later h = tt
closed-one held (Reuse file answer) later h = tt
closed-one held (Force answer) later h = tt

pub closed-held : (held : List ℕ) (xs : List Event) → AreClosed xs → AreHeld held xs
closed-held held [] h = tt
closed-held held (x ∷ xs) h = (closed-one held x.deed xs h.0, closed-held held xs h.1)

closed-append : (xs ys : List Event) → AreClosed xs → AreClosed ys → AreClosed (xs ++ ys)
closed-append [] ys a b = b
closed-append (x ∷ xs) ys a b = (a.0, closed-append xs ys a.1 b)

pub closed-both : (events xs ys : List Event) → events ≡ xs ++ ys → AreClosed xs → AreClosed ys → AreClosed events
closed-both events xs ys made a b = subst AreClosed (sym made) (closed-append xs ys a b)

pub closed-none : (events : List Event) → events ≡ [] → AreClosed events
closed-none events none = subst AreClosed (sym none) tt

pub closed-step : (d : Deed) (events : List Event) → opens_one d ≡ false → IsStep d events → AreClosed events
closed-step d events is h = subst AreClosed (sym h.1) (is, tt)

pub closed-made : (d : Deed) (events : List Event) → opens_one d ≡ false → Made d events → AreClosed events
closed-made d events is (inl h) = closed-step d events is h
closed-made d events is (inr h) = closed-none events h.1

-- ---- one step that spends one

pub step-spends : (ticket : ℕ) (d : Deed) (events : List Event) → IsStep d events → spends ticket d ≡ true → is_spent ticket events ≡ true
step-spends ticket d events h s = subst (λ (es : List Event). is_spent ticket es ≡ true) (sym h.1) (ap (λ b. b || false) s)

pub made-spends : (ticket : ℕ) (d : Deed) (events : List Event) → Made d events → (refusal d ≡ Some Memory → ⊥) → spends ticket d ≡ true → is_spent ticket events ≡ true
made-spends ticket d events (inl h) mild s = step-spends ticket d events h s
made-spends ticket d events (inr h) mild s = absurd (mild h.0)

-- ---- one ticket

-- it is the one that is held on
pub is-one : (ticket : ℕ) → is_in ticket (ticket ∷ []) ≡ true
is-one ticket = ap (λ b. b || false) (eq-eqb ticket ticket refl)

one-test : (ticket t : ℕ) (b : Bool) → (ticket == t) ≡ b → (b || false) ≡ true → ticket ≡ t
one-test ticket t true is h = eqb-true ticket t is
one-test ticket t false is h = absurd (false≢true h)

pub one-is : (ticket t : ℕ) → is_in t (ticket ∷ []) ≡ true → ticket ≡ t
one-is ticket t h = one-test ticket t (ticket == t) refl h
