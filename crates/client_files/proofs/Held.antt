-- Which ticket is left behind a file that was written, by its steps alone.
use Rattle.std.proofs.Common.{◌≡◌, ◌⊎◌, inl, inr, ℕ, ◌==◌, ◌&&◌, Bool, true, false, if◌then◌else◌, List, [], ◌∷◌, ◌++◌, length, Option, Some, Result, Ok, Err, refl, sym, ap, subst, ◌∙◌}
use Rattle.std.proofs.lemmas.Bool.{eq-eqb, false≢true}
use Rattle.std.proofs.lemmas.Option.{same_Some}
use Rattle.std.specs.List.{AllByRecursion}
use Rattle.kinds.specs.Refusals.{number_of}
use Rattle.kinds.specs.declared.refusal.Refusal.{Refusal}
use Rattle.kinds.specs.declared.refusal.Refusal.TheVariants as refused
use Rattle.kinds.specs.declared.segment.Digest.{Digest}
use Rattle.client_trees.specs.Files.{ClientFile}
use Rattle.steps.specs.Calls.{IsStep, Made}
use Rattle.steps.specs.Events.{Deed, Event, is_listed}
use Rattle.steps.specs.Events.Deed.{OpenNew, OpenCopy, WritePiece, CopyPiece, Seal, Commit, DropTicket, ReadPiece, Ask, Image, Reuse, Force}
use Rattle.steps.specs.Spent.{is_spent}
use Rattle.steps.proofs.Spending.{AreClosed, AreHeld, closed-both, closed-held, closed-made, closed-none, closed-step, held-join, is_in, is-one, made-spends, one-is, opens_one, spent-before, spent-behind, step-spends}
use Rattle.client_files.specs.declared.outcome.Came.{Came}
use Rattle.client_files.specs.declared.outcome.Came.TheVariants as came
use Rattle.client_files.specs.Sending.{Breaks, Copies, GivesUp, Writes, Wrote, behind_drop, failing, is_unfilled, stopping, unwritten}
use Rattle.client_files.specs.Writing.{Keeps, Loads, Puts}
use Rattle.client_files.specs.Tickets.{is_lasting}
use Rattle.client_files.proofs.Ticketed.{early-other, longer-other, numbered, one-of-dropped, spent-by, stopping-lasting, tree-other, unwritten-other}

-- ---- no other is opened

writes-closed : (ticket : ℕ) (d : Deed) → Writes ticket d → opens_one d ≡ false
writes-closed ticket (OpenNew pool size prefer answer) h = absurd h
writes-closed ticket (OpenCopy object aim avoid answer) h = absurd h
writes-closed ticket (WritePiece number bytes answer) h = refl
writes-closed ticket (CopyPiece number answer) h = refl
writes-closed ticket (Seal number answer) h = refl
writes-closed ticket (Commit asked tickets answer) h = refl
writes-closed ticket (DropTicket number answer) h = refl
writes-closed ticket (ReadPiece object digest from offset wanted answer) h = refl
writes-closed ticket (Ask query answer) h = refl
writes-closed ticket (Image kind answer) h = refl
writes-closed ticket (Reuse file answer) h = refl
writes-closed ticket (Force answer) h = refl

all-closed : (ticket : ℕ) (events : List Event) → AllByRecursion (λ e. Writes ticket e.deed) events → AreClosed events
all-closed ticket [] h = tt
all-closed ticket (e ∷ events) h = (writes-closed ticket e.deed h.0, all-closed ticket events h.1)

module _ (file : Option ClientFile) (ticket size before after : ℕ) where
  wrote-closed : (bytes : List ℕ) (events : List Event) → Wrote file ticket bytes events → AreClosed events
  wrote-closed bytes events h = all-closed ticket events h.only

  breaks-closed : (e : Refusal) (events : List Event) → Breaks file ticket size before after e events → AreClosed events
  breaks-closed e events (bytes, less, (xs, ys, cut, wrote, ends)) =
      closed-both events xs ys cut (wrote-closed bytes xs wrote) (elim ends as (λ _. AreClosed ys) [ inl h ↦ closed-none ys h.0 | inr h ↦ closed-made (WritePiece ticket h.0 (Err h.1)) ys refl h.3 ])

  copies-closed : (digest : Digest) (events : List Event) → Copies file ticket size before after events (Ok digest) → AreClosed events
  copies-closed digest events h = wrote-closed h.0 events h.1

  loads-closed : (result : Result Digest Refusal) (events : List Event) → Loads file ticket size before after events result → AreClosed events
  loads-closed (Ok digest) events h = copies-closed digest events h.1
  loads-closed (Err e) events (inl h) = breaks-closed e events h
  loads-closed (Err e) events (inr h) = copies-closed h.0 events h.1

  gives-closed : (e : Refusal) (events : List Event) (result : Result Came Refusal) → GivesUp ticket e events result → AreClosed events
  gives-closed e events result (inl h) = closed-none events h.1
  gives-closed e events result (inr h) = closed-step (DropTicket ticket h.1) events refl h.2

  keeps-closed : (events : List Event) (result : Result Came Refusal) → Keeps file ticket size before after events result → AreClosed events
  keeps-closed events result (inl h) = loads-closed (Ok h.0) events h.1
  keeps-closed events result (inr (e, (xs, ys, cut, loads, gives))) = closed-both events xs ys cut (loads-closed (Err e) xs loads) (gives-closed e ys result gives)

-- ---- a fault of writing spends the ticket

fault-of : (why e : Refusal) → e ≡ unwritten why → (number_of e == 25) ≡ true → (number_of why == 25) ≡ true
fault-of why e is h = elim (number_of why == 25) as (λ b. (number_of why == 25) ≡ b → b ≡ true) [
  | true ↦ λ _. refl
  | false ↦ λ other. absurd (false≢true (sym (unwritten-other why other) ∙ subst (λ (x : Refusal). (number_of x == 25) ≡ true) is h))
] refl

not-memory : (why : Refusal) → (number_of why == 25) ≡ true → Some why ≡ Some refused.Memory → ⊥
not-memory why fault is = false≢true (subst (λ (x : Refusal). (number_of x == 25) ≡ true) (same_Some why refused.Memory is) fault)

one-spends : (ticket : ℕ) (why : Refusal) → (number_of why == 25) ≡ true → (ticket == ticket && number_of why == 25) ≡ true
one-spends ticket why fault = ap (λ b. b && number_of why == 25) (eq-eqb ticket ticket refl) ∙ fault

not-fault : (e : Refusal) → (number_of e == 25) ≡ false → (number_of e == 25) ≡ true → ⊥
not-fault e other fault = false≢true (sym other ∙ fault)

module _ (file : Option ClientFile) (ticket size before after : ℕ) (e : Refusal) (fault : (number_of e == 25) ≡ true) where
  breaks-spent : (events : List Event) → Breaks file ticket size before after e events → is_spent ticket events ≡ true
  breaks-spent events (bytes, less, (xs, ys, cut, wrote, ends)) = elim ends as (λ _. is_spent ticket events ≡ true) [
    | inl h ↦ absurd (not-fault e (elim h.1 as (λ _. (number_of e == 25) ≡ false) [ inl t ↦ tree-other before after e t | inr t ↦ early-other file (length bytes) size e t ]) fault)
    | inr h ↦
        (let so = fault-of h.1 e h.2 fault in
        subst (λ (es : List Event). is_spent ticket es ≡ true) (sym cut) (spent-behind ticket xs ys (made-spends ticket (WritePiece ticket h.0 (Err h.1)) ys h.3 (not-memory h.1 so) (one-spends ticket h.1 so))))
  ]

  loads-spent : (events : List Event) → Loads file ticket size before after events (Err e) → is_spent ticket events ≡ true
  loads-spent events (inl h) = breaks-spent events h
  loads-spent events (inr (digest, copies, fails)) =
      absurd (not-fault e (elim fails as (λ _. (number_of e == 25) ≡ false) [ inl t ↦ tree-other before after e t | inr t ↦ longer-other file size e t ]) fault)

-- ---- what is answered

-- with a halted hall, or a full run, in which a ticket may be left
abbrev pub lasts : {A : Type 0} → Result A Refusal → Bool
lasts (Ok x) = false
lasts (Err e) = is_lasting e

-- the ticket that is left, where the file is written
abbrev pub kept_of : Result Came Refusal → List ℕ
kept_of (Ok (came.Written ticket digest)) = ticket ∷ []
kept_of (Ok (came.Failed e)) = []
kept_of (Ok (came.Held holder)) = []
kept_of (Err e) = []

failing-lasts : (e : Refusal) → is_unfilled e ≡ false → is_lasting e ≡ true → lasts (failing e) ≡ true
failing-lasts e filled lasting = ap (λ (c : Bool). lasts (if c then Ok (came.Failed e) else Err (stopping e))) filled ∙ stopping-lasting e lasting

-- a ticket that was given up is spent, by a fault before that or then
given-up : (ticket : ℕ) (e : Refusal) (events : List Event) (result : Result Came Refusal) → GivesUp ticket e events result → lasts result ≡ false → ((number_of e == 25) ≡ true) ⊎ (is_spent ticket events ≡ true)
unfolding is_listed
given-up ticket e events result (inl (spent, none, is)) mild = elim (spent-by e spent) as (λ _. ((number_of e == 25) ≡ true) ⊎ (is_spent ticket events ≡ true)) [
  | inl k ↦ inl (eq-eqb (number_of e) 25 (sym k))
  | inr (inl k) ↦ never (failing-lasts e (subst (λ (m : ℕ). numbered (25 ∷ 26 ∷ 27 ∷ []) m ≡ false) k refl) (subst (λ (m : ℕ). numbered (40 ∷ 41 ∷ []) m ≡ true) k refl))
  | inr (inr k) ↦ never (failing-lasts e (subst (λ (m : ℕ). numbered (25 ∷ 26 ∷ 27 ∷ []) m ≡ false) k refl) (subst (λ (m : ℕ). numbered (40 ∷ 41 ∷ []) m ≡ true) k refl))
]
  where
    never : lasts (failing e) ≡ true → ((number_of e == 25) ≡ true) ⊎ (is_spent ticket events ≡ true)
    never h = absurd (false≢true (sym mild ∙ ap (λ (r : Result Came Refusal). lasts r) is ∙ h))
given-up ticket e events result (inr (kept, Ok done, step, is)) mild = inr (step-spends ticket (DropTicket ticket (Ok done)) events step (eq-eqb ticket ticket refl))
given-up ticket e events result (inr (kept, Err other, step, is)) mild =
    elim (one-of-dropped (number_of other) (10 == number_of other) (40 == number_of other) (41 == number_of other) refl refl refl step.2) as (λ _. ((number_of e == 25) ≡ true) ⊎ (is_spent ticket events ≡ true)) [
      | inl k ↦ inr (step-spends ticket (DropTicket ticket (Err other)) events step (ap (λ b. b && number_of other == 10) (eq-eqb ticket ticket refl) ∙ eq-eqb (number_of other) 10 (sym k)))
      | inr (inl k) ↦ never (stopping-lasting other (subst (λ (m : ℕ). numbered (40 ∷ 41 ∷ []) m ≡ true) k refl))
      | inr (inr k) ↦ never (stopping-lasting other (subst (λ (m : ℕ). numbered (40 ∷ 41 ∷ []) m ≡ true) k refl))
    ]
  where
    never : is_lasting (stopping other) ≡ true → ((number_of e == 25) ≡ true) ⊎ (is_spent ticket events ≡ true)
    never h = absurd (false≢true (sym mild ∙ ap (λ (r : Result Came Refusal). lasts r) is ∙ h))

-- ---- all of it

module _ (file : Option ClientFile) (size before after : ℕ) where
  spent-or-kept : (ticket : ℕ) (events : List Event) (result : Result Came Refusal) → Keeps file ticket size before after events result → lasts result ≡ false
      → (is_spent ticket events ≡ true) ⊎ (is_in ticket (kept_of result) ≡ true)
  spent-or-kept ticket events result (inl (digest, loads, is)) mild = inr (subst (λ (r : Result Came Refusal). is_in ticket (kept_of r) ≡ true) (sym is) (is-one ticket))
  spent-or-kept ticket events result (inr (e, (xs, ys, cut, loads, gives))) mild =
      inl (subst (λ (es : List Event). is_spent ticket es ≡ true) (sym cut) (elim (given-up ticket e ys result gives mild) as (λ _. is_spent ticket (xs ++ ys) ≡ true) [
        | inl fault ↦ spent-before ticket xs ys (loads-spent file ticket size before after e fault xs loads)
        | inr s ↦ spent-behind ticket xs ys s
      ]))

  opened-held : (pool ticket : ℕ) (events : List Event) → Made (OpenNew pool size 0 (Ok ticket)) events → AreHeld (ticket ∷ []) events
  opened-held pool ticket events (inl h) = subst (λ (es : List Event). AreHeld (ticket ∷ []) es) (sym h.1) (inr (is-one ticket), tt)
  opened-held pool ticket events (inr h) = absurd cc

  -- Of the tickets that its steps opened that of a file that is written is left, and no other, unless the hall is halted or the run is full.
  pub file-held : (pool : ℕ) (events : List Event) (result : Result Came Refusal) → Puts file pool size before after events result → lasts result ≡ false → AreHeld (kept_of result) events
  file-held pool events result (inl (e, made, is)) mild = closed-held (kept_of result) events (closed-made (OpenNew pool size 0 (Err e)) events refl made)
  file-held pool events result (inr (ticket, (xs, ys, cut, made, s))) mild =
      subst (λ (es : List Event). AreHeld (kept_of result) es) (sym cut)
      (held-join (ticket ∷ []) (kept_of result) xs ys
      (λ t h. subst (λ (x : ℕ). (is_spent x ys ≡ true) ⊎ (is_in x (kept_of result) ≡ true)) (one-is ticket t h) (spent-or-kept ticket ys result s mild))
      (opened-held pool ticket xs made) (closed-held (kept_of result) ys (keeps-closed file ticket size before after ys result s)))
