-- The ticket of a file that is sent, step by step.
use Rattle.std.proofs.Common.{◌≡◌, ◌⊎◌, inl, inr, ℕ, ◌==◌, ◌&&◌, ◌||◌, not, Bool, true, false, if◌then◌else◌, List, [], ◌∷◌, ◌++◌, length, Option, Some, None, IfSome, Result, Ok, Err, refl, sym, ap, subst, ◌∙◌, append-nil, append_assoc}
use Rattle.std.proofs.lemmas.Bool.{eq-eqb, eqb-true, false≢true}
use Rattle.std.proofs.lemmas.Grind.{flat_map-append}
use Rattle.std.specs.List.{AllByRecursion, list_any}
use Rattle.sha2.specs.Sha256.{sha256}
use Rattle.kinds.specs.Refusals.{foremost, number_of}
use Rattle.kinds.specs.ValueForms.{digest_with}
use Rattle.kinds.specs.declared.refusal.Refusal.{Refusal}
use Rattle.kinds.specs.declared.refusal.Refusal.TheVariants as refused
use Rattle.kinds.specs.declared.segment.Digest.{Digest}
use Rattle.client_trees.specs.Files.{ClientFile}
use Rattle.machine.specs.Causes.{drop_refused, of_ticket}
use Rattle.machine.specs.Fits.{Fits, History, Own, Step, is_write_fault, sight_at}
use Rattle.machine.specs.Says.{Says, is_elsewhere}
use Rattle.machine.specs.State.{Ticket, is_among, is_ticket, sealed, sealing, storing, taking, ticket, took, without}
use Rattle.machine.proofs.Runs.{fits-cut, fits-one}
use Rattle.steps.specs.Calls.{IsStep, Made}
use Rattle.steps.specs.Events.{Deed, Event, event, has_number, is_listed}
use Rattle.steps.specs.Events.Deed.{OpenNew, OpenCopy, WritePiece, CopyPiece, Seal, Commit, DropTicket, ReadPiece, Ask, Image, Reuse, Force}
use Rattle.client_files.specs.declared.outcome.Came.{Came}
use Rattle.client_files.specs.declared.outcome.Came.TheVariants as came
use Rattle.client_files.specs.Outcomes.{IsFile, Sending, Stores}
use Rattle.client_files.specs.Reading.{EndsEarly, GoesOn, TreeFails}
use Rattle.client_files.specs.Sending.{Breaks, Fills, GivesUp, Sends, Writes, behind_drop, bytes_by, failing, is_spent_by, is_stopping, is_unfilled, is_unopened, stopping, unopened, unwritten, written}
use Rattle.client_files.specs.Tickets.{HasFile, LeavesTickets, is_lasting}

-- ---- one step

pub none-fits : (w : History) (actor : ℕ) (a b : Own) → Fits w actor a [] b → b ≡ a
unfolding Fits
none-fits w actor a b f = f

module _ (w : History) (actor : ℕ) (a b : Own) (d : Deed) (events : List Event) (f : Fits w actor a events b) where
  pub one-step : IsStep d events → (n : ℕ) × Step w actor a (event n d) b
  one-step h = (h.0, fits-one w actor a b (event h.0 d) (subst (λ (es : List Event). Fits w actor a es b) h.1 f))

  pub no-step : events ≡ [] → b ≡ a
  no-step h = none-fits w actor a b (subst (λ (es : List Event). Fits w actor a es b) h f)

-- ---- numbers of refusals

pub tree-other : (before after : ℕ) (e : Refusal) → TreeFails before after e → (number_of e == 25) ≡ false
tree-other before after e h = subst (λ (x : Refusal). (number_of x == 25) ≡ false) (sym h.0) refl

pub early-other : (file : Option ClientFile) (at size : ℕ) (e : Refusal) → EndsEarly file at size e → (number_of e == 25) ≡ false
early-other file at size e h = subst (λ (x : Refusal). (number_of x == 25) ≡ false) (sym h.0) refl

pub longer-other : (file : Option ClientFile) (size : ℕ) (e : Refusal) → GoesOn file size e → (number_of e == 25) ≡ false
longer-other file size e h = subst (λ (x : Refusal). (number_of x == 25) ≡ false) (sym h.0) refl

-- what writing is refused with is a fault of writing exactly where it was refused so
unwritten-fault : (why : Refusal) → (number_of why == 25) ≡ true → (number_of (unwritten why) == 25) ≡ true
unwritten-fault why h = ap (λ (b : Bool). number_of (if b then why else stopping why) == 25) h ∙ h

pub unwritten-other : (why : Refusal) → (number_of why == 25) ≡ false → (number_of (unwritten why) == 25) ≡ false
unwritten-other why h =
    ap (λ (b : Bool). number_of (if b then why else stopping why) == 25) h
    ∙ elim (is_stopping why) as (λ b. (number_of (if b then why else refused.Memory) == 25) ≡ false) [
      | true ↦ h
      | false ↦ refl
    ]

-- the three with which a ticket is spent
one-of-spent : (k : ℕ) (a b c : Bool) → (25 == k) ≡ a → (40 == k) ≡ b → (41 == k) ≡ c → (a || (b || (c || false))) ≡ true → (25 ≡ k) ⊎ (40 ≡ k) ⊎ (41 ≡ k)
one-of-spent k true b c x y z h = inl (eqb-true 25 k x)
one-of-spent k false true c x y z h = inr (inl (eqb-true 40 k y))
one-of-spent k false false true x y z h = inr (inr (eqb-true 41 k z))
one-of-spent k false false false x y z h = absurd cc

pub spent-by : (e : Refusal) → is_spent_by e ≡ true → (25 ≡ number_of e) ⊎ (40 ≡ number_of e) ⊎ (41 ≡ number_of e)
spent-by e h = one-of-spent (number_of e) (25 == number_of e) (40 == number_of e) (41 == number_of e) refl refl refl h

-- the three that the drop of a ticket is refused with
pub one-of-dropped : (k : ℕ) (a b c : Bool) → (10 == k) ≡ a → (40 == k) ≡ b → (41 == k) ≡ c → (a || (b || (c || false))) ≡ true → (10 ≡ k) ⊎ (40 ≡ k) ⊎ (41 ≡ k)
one-of-dropped k true b c x y z h = inl (eqb-true 10 k x)
one-of-dropped k false true c x y z h = inr (inl (eqb-true 40 k y))
one-of-dropped k false false true x y z h = inr (inr (eqb-true 41 k z))
one-of-dropped k false false false x y z h = absurd cc

abbrev pub numbered : List ℕ → ℕ → Bool
numbered ns k = list_any (λ n. n == k) ns

-- what is elsewhere among those is lasting
dropped-lasting : (e : Refusal) → has_number (10 ∷ 40 ∷ 41 ∷ []) e ≡ true → is_elsewhere e ≡ true → is_lasting e ≡ true
dropped-lasting e h there = elim (one-of-dropped (number_of e) (10 == number_of e) (40 == number_of e) (41 == number_of e) refl refl refl h) as (λ _. is_lasting e ≡ true) [
  | inl is ↦ absurd (false≢true (subst (λ (k : ℕ). numbered (20 ∷ 21 ∷ 24 ∷ 25 ∷ 31 ∷ 40 ∷ 41 ∷ 50 ∷ []) k ≡ true) (sym is) there))
  | inr (inl is) ↦ subst (λ (k : ℕ). numbered (40 ∷ 41 ∷ []) k ≡ true) is refl
  | inr (inr is) ↦ subst (λ (k : ℕ). numbered (40 ∷ 41 ∷ []) k ≡ true) is refl
]

-- what is lasting is answered as it is
pub stopping-lasting : (e : Refusal) → is_lasting e ≡ true → is_lasting (stopping e) ≡ true
stopping-lasting e h = elim (is_stopping e) as (λ b. is_stopping e ≡ b → is_lasting (if b then e else refused.Memory) ≡ true) [
  | true ↦ λ _. h
  | false ↦ λ never. absurd (false≢true (sym never ∙ lasting-stops e h))
] refl
  where
    one-of-two : (k : ℕ) (a b : Bool) → (40 == k) ≡ a → (41 == k) ≡ b → (a || (b || false)) ≡ true → (40 ≡ k) ⊎ (41 ≡ k)
    one-of-two k true b x y h = inl (eqb-true 40 k x)
    one-of-two k false true x y h = inr (eqb-true 41 k y)
    one-of-two k false false x y h = absurd cc

    lasting-stops : (e : Refusal) → is_lasting e ≡ true → is_stopping e ≡ true
    lasting-stops e h = elim (one-of-two (number_of e) (40 == number_of e) (41 == number_of e) refl refl h) as (λ _. is_stopping e ≡ true) [
      | inl is ↦ subst (λ (k : ℕ). numbered (40 ∷ 41 ∷ 50 ∷ []) k ≡ true) is refl
      | inr is ↦ subst (λ (k : ℕ). numbered (40 ∷ 41 ∷ 50 ∷ []) k ≡ true) is refl
    ]

-- the drop of a ticket that is there isn't refused for the ticket's own sake
pub drop-lasting : (w : History) (actor number : ℕ) (a b : Own) (t : Ticket) (n : ℕ) (other : Refusal) → a.tickets ≡ t ∷ [] → t.number ≡ number → Step w actor a (event n (DropTicket number (Err other))) b
    → is_listed (DropTicket number (Err other)) ≡ true → is_lasting other ≡ true
unfolding Says is_listed
drop-lasting w actor number a b t n other is its s listed = elim s.says as (λ _. is_lasting other ≡ true) [
  | inl held ↦
      (let found : ticket number a.tickets ≡ Some t = ap (ticket number) is ∙ ap (λ (b : Bool). if b then Some t else None) (eq-eqb t.number number its) in
      let none : drop_refused number (sight_at w a n s.next_file) ≡ [] = ap (of_ticket (λ t. [])) found in
      let never : None ≡ Some other = sym (ap foremost none) ∙ held in
      absurd cc)
  | inr there ↦ dropped-lasting other listed there
]

-- ---- the ticket

-- the actor's one ticket, which took these bytes
record Takes (whose its room : ℕ) (taken : List ℕ) (t : Ticket) : Type 0 where
  actor : t.actor ≡ whose
  number : t.number ≡ its
  object : ℕ
  purpose : t.purpose ≡ storing object
  size : t.size ≡ room
  bytes : t.bytes ≡ taken

abbrev One : (actor number size : ℕ) → (bytes : List ℕ) → List Ticket → Type 0
One actor number size bytes tickets = (t : Ticket) × (tickets ≡ t ∷ []) × Takes actor number size bytes t

-- it was taken away where writing failed, and else it is there
abbrev Left : (actor number size : ℕ) → Refusal → List Ticket → Type 0
Left actor number size e tickets =
    (((number_of e == 25) ≡ true) × (tickets ≡ [])) ⊎ (((number_of e == 25) ≡ false) × ((bytes : List ℕ) × One actor number size bytes tickets))

module _ (actor number size : ℕ) where
  is-its : (bytes : List ℕ) (t : Ticket) → Takes actor number size bytes t → is_ticket actor number t ≡ true
  is-its bytes t h = ap (λ (b : Bool). b && t.number == number) (eq-eqb t.actor actor h.actor) ∙ eq-eqb t.number number h.number

  among-these : (bytes : List ℕ) (t : Ticket) → Takes actor number size bytes t → is_among actor (number ∷ []) t ≡ true
  among-these bytes t h = ap (λ (b : Bool). b && (number == t.number || false)) (eq-eqb t.actor actor h.actor) ∙ ap (λ (b : Bool). b || false) (eq-eqb number t.number (sym h.number))

  gone-from : (bytes : List ℕ) (t : Ticket) → Takes actor number size bytes t → without actor (number ∷ []) (t ∷ []) ≡ []
  gone-from bytes t h = ap (λ (b : Bool). if not b then t ∷ [] else []) (among-these bytes t h)

  takes-more : (bytes more : List ℕ) (old new : List Ticket) → One actor number size bytes old → new ≡ taking actor number more old → One actor number size (bytes ++ more) new
  takes-more bytes more old new (t, is, h) new-is = (
    took more t,
    new-is ∙ ap (taking actor number more) is ∙ ap (λ (b : Bool). (if b then took more t else t) ∷ []) (is-its bytes t h),
    record { number = h.number; actor = h.actor; object = h.object; purpose = h.purpose; size = h.size; bytes = ap (λ (l : List ℕ). l ++ more) h.bytes },
  )

  goes-away : (bytes : List ℕ) (old new : List Ticket) → One actor number size bytes old → new ≡ without actor (number ∷ []) old → new ≡ []
  goes-away bytes old new (t, is, h) new-is = new-is ∙ ap (without actor (number ∷ [])) is ∙ gone-from bytes t h

  -- behind a refusal of writing it
  refused-left : (bytes : List ℕ) (why : Refusal) (old new : List Ticket) → One actor number size bytes old → new ≡ (if is_write_fault why then without actor (number ∷ []) old else old)
      → Left actor number size (unwritten why) new
  refused-left bytes why old new one h =
      elim (is_write_fault why) as (λ b. is_write_fault why ≡ b → new ≡ (if b then without actor (number ∷ []) old else old) → Left actor number size (unwritten why) new) [
        | true ↦ λ is h. inl (unwritten-fault why is, goes-away bytes old new one h)
        | false ↦ λ is h. inr (unwritten-other why is, (bytes, (one.0, h ∙ one.1, one.2)))
      ] refl h

-- ---- steps

module _ (w : History) (actor number size : ℕ) where
  abbrev Holds : List ℕ → Own → Type 0
  Holds bytes a = One actor number size bytes a.tickets

  -- a piece
  writes-one : (a b : Own) (n : ℕ) (d : Deed) (bytes : List ℕ) → Writes number d → Step w actor a (event n d) b → Holds bytes a → Holds (bytes ++ bytes_by d) b
  writes-one a b n (OpenNew pool room prefer answer) bytes is s one = absurd is
  writes-one a b n (OpenCopy object aim avoid answer) bytes is s one = absurd is
  writes-one a b n (WritePiece its piece (Ok count)) bytes is s one =
      takes-more actor number size bytes piece a.tickets b.tickets one (s.has.tickets ∙ ap (λ (k : ℕ). taking actor k piece a.tickets) is)
  writes-one a b n (WritePiece its piece (Err e)) bytes is s one = absurd is
  writes-one a b n (CopyPiece its answer) bytes is s one = absurd is
  writes-one a b n (Seal its answer) bytes is s one = absurd is
  writes-one a b n (Commit asked tickets answer) bytes is s one = absurd is
  writes-one a b n (DropTicket its answer) bytes is s one = absurd is
  writes-one a b n (ReadPiece object kept from offset wanted answer) bytes is s one = absurd is
  writes-one a b n (Ask query answer) bytes is s one = absurd is
  writes-one a b n (Image kind answer) bytes is s one = absurd is
  writes-one a b n (Reuse file answer) bytes is s one = absurd is
  writes-one a b n (Force answer) bytes is s one = absurd is

  writes-all : (a b : Own) (events : List Event) (bytes : List ℕ) → AllByRecursion (λ e. Writes number e.deed) events → Fits w actor a events b → Holds bytes a → Holds (bytes ++ written events) b
  unfolding Fits
  writes-all a b [] bytes all f one = subst (λ (l : List ℕ). Holds l b) (sym (append-nil bytes)) (subst (Holds bytes) (sym f) one)
  writes-all a b (e ∷ events) bytes all f one =
      subst (λ (l : List ℕ). Holds l b) (append_assoc bytes (bytes_by e.deed) (written events))
      (writes-all f.0 b events (bytes ++ bytes_by e.deed) all.1 f.2 (writes-one a f.0 e.n e.deed bytes all.0 f.1 one))

  -- a piece that isn't written, or a seal that isn't made
  not-written : (a b : Own) (piece bytes : List ℕ) (why : Refusal) (events : List Event) → Made (WritePiece number piece (Err why)) events → Fits w actor a events b → Holds bytes a → Left actor number size (unwritten why) b.tickets
  not-written a b piece bytes why events (inl h) f one =
      (let s = one-step w actor a b (WritePiece number piece (Err why)) events f h in refused-left actor number size bytes why a.tickets b.tickets one s.1.has.tickets)
  not-written a b piece bytes why events (inr h) f one =
      (let is : why ≡ refused.Memory = cc in
      let same : b ≡ a = no-step w actor a b (WritePiece number piece (Err why)) events f h.1 in
      inr (unwritten-other why (subst (λ (x : Refusal). (number_of x == 25) ≡ false) (sym is) refl), (bytes, subst (Holds bytes) (sym same) one)))

  not-sealed : (a b : Own) (bytes : List ℕ) (why : Refusal) (events : List Event) → Made (Seal number (Err why)) events → Fits w actor a events b → Holds bytes a → Left actor number size (unwritten why) b.tickets
  not-sealed a b bytes why events (inl h) f one =
      (let s = one-step w actor a b (Seal number (Err why)) events f h in refused-left actor number size bytes why a.tickets b.tickets one s.1.has.tickets)
  not-sealed a b bytes why events (inr h) f one =
      (let is : why ≡ refused.Memory = cc in
      let same : b ≡ a = no-step w actor a b (Seal number (Err why)) events f h.1 in
      inr (unwritten-other why (subst (λ (x : Refusal). (number_of x == 25) ≡ false) (sym is) refl), (bytes, subst (Holds bytes) (sym same) one)))

  -- ---- a ticket that isn't filled

  module _ (file : Option ClientFile) (before after : ℕ) where
    breaks-left : (a b : Own) (bytes : List ℕ) (e : Refusal) (events : List Event) → Breaks file number size before after e events → Fits w actor a events b → Holds bytes a → Left actor number size e b.tickets
    breaks-left a b bytes e events (some, less, (xs, ys, cut, wrote, ends)) f one =
        let parts = fits-cut w actor a b xs ys (subst (λ (es : List Event). Fits w actor a es b) cut f) in
        let at : Holds (bytes ++ written xs) parts.0 = writes-all a parts.0 xs bytes wrote.only parts.1 one in
        elim ends as (λ _. Left actor number size e b.tickets) [
          | inl h ↦
              (let same : b ≡ parts.0 = none-fits w actor parts.0 b (subst (λ (es : List Event). Fits w actor parts.0 es b) h.0 parts.2) in
              let other : (number_of e == 25) ≡ false = elim h.1 as (λ _. (number_of e == 25) ≡ false) [ inl t ↦ tree-other before after e t | inr t ↦ early-other file (length some) size e t ] in
              inr (other, (bytes ++ written xs, subst (Holds (bytes ++ written xs)) (sym same) at)))
          | inr h ↦ subst (λ (x : Refusal). Left actor number size x b.tickets) (sym h.2) (not-written parts.0 b h.0 (bytes ++ written xs) h.1 ys h.3 parts.2 at)
        ]

    fills-left : (a b : Own) (e : Refusal) (events : List Event) → Fills file number size before after events (Err e) → Fits w actor a events b → Holds [] a → Left actor number size e b.tickets
    fills-left a b e events (inl h) f one = breaks-left a b [] e events h f one
    fills-left a b e events (inr (inl (digest, copies, fails))) f one =
        let other : (number_of e == 25) ≡ false = elim fails as (λ _. (number_of e == 25) ≡ false) [ inl t ↦ tree-other before after e t | inr t ↦ longer-other file size e t ] in
        inr (other, (written events, writes-all a b events [] copies.1.only f one))
    fills-left a b e events (inr (inr (digest, why, is, (xs, ys, cut, copies, made)))) f one =
        let parts = fits-cut w actor a b xs ys (subst (λ (es : List Event). Fits w actor a es b) cut f) in
        subst (λ (x : Refusal). Left actor number size x b.tickets) (sym is)
        (not-sealed parts.0 b (written xs) why ys made parts.2 (writes-all a parts.0 xs [] copies.1.only parts.1 one))

    -- ---- and is given back

    abbrev Leaves : Result Came Refusal → Own → Type 0
    Leaves result b = LeavesTickets actor file size result b.tickets

    none-fails : (b : Own) (e : Refusal) → b.tickets ≡ [] → Leaves (failing e) b
    none-fails b e none = elim (is_unfilled e) as (λ c. Leaves (if c then Ok (came.Failed e) else Err (stopping e)) b) [
      | true ↦ none
      | false ↦ λ _. none
    ]

    lasting-fails : (b : Own) (e : Refusal) → is_unfilled e ≡ false → is_lasting e ≡ true → Leaves (failing e) b
    lasting-fails b e filled lasting =
        subst (λ (c : Bool). Leaves (if c then Ok (came.Failed e) else Err (stopping e)) b) (sym filled)
        (λ mild. absurd (false≢true (sym mild ∙ stopping-lasting e lasting)))

    drops : (a b : Own) (bytes : List ℕ) (e : Refusal) (answer : Result (Unit {0}) Refusal) (events : List Event) → IsStep (DropTicket number answer) events → Fits w actor a events b → Holds bytes a → Leaves (behind_drop e answer) b
    drops a b bytes e (Ok done) events h f one =
        (let s = one-step w actor a b (DropTicket number (Ok done)) events f h in
        none-fails b e (goes-away actor number size bytes a.tickets b.tickets one s.1.has.tickets))
    drops a b bytes e (Err other) events h f one =
        (let s = one-step w actor a b (DropTicket number (Err other)) events f h in
        λ mild. absurd (false≢true (sym mild ∙ stopping-lasting other (drop-lasting w actor number a b one.0 s.0 other one.1 one.2.number s.1 h.2))))

    given-back : (a b : Own) (e : Refusal) (events : List Event) (result : Result Came Refusal) → GivesUp number e events result → Fits w actor a events b → Left actor number size e a.tickets → Leaves result b
    given-back a b e events result (inl (spent, none, is)) f left =
        subst (λ (r : Result Came Refusal). Leaves r b) (sym is) (spent-fails (none-fits w actor a b (subst (λ (es : List Event). Fits w actor a es b) none f)) left) where
          spent-fails : b ≡ a → Left actor number size e a.tickets → Leaves (failing e) b
          spent-fails same (inl h) = none-fails b e (ap (λ (o : Own). o.tickets) same ∙ h.1)
          spent-fails same (inr h) = elim (spent-by e spent) as (λ _. Leaves (failing e) b) [
            | inl k ↦ absurd (false≢true (sym h.0 ∙ eq-eqb (number_of e) 25 (sym k)))
            | inr (inl k) ↦ lasting-fails b e (subst (λ (m : ℕ). numbered (25 ∷ 26 ∷ 27 ∷ []) m ≡ false) k refl) (subst (λ (m : ℕ). numbered (40 ∷ 41 ∷ []) m ≡ true) k refl)
            | inr (inr k) ↦ lasting-fails b e (subst (λ (m : ℕ). numbered (25 ∷ 26 ∷ 27 ∷ []) m ≡ false) k refl) (subst (λ (m : ℕ). numbered (40 ∷ 41 ∷ []) m ≡ true) k refl)
          ]
    given-back a b e events result (inr (kept, answer, step, is)) f left =
        subst (λ (r : Result Came Refusal). Leaves r b) (sym is) (drop-leaves left) where
          drop-leaves : Left actor number size e a.tickets → Leaves (behind_drop e answer) b
          drop-leaves (inl h) = absurd (false≢true (sym kept ∙ subst (λ (m : ℕ). numbered (25 ∷ 40 ∷ 41 ∷ []) m ≡ true) (sym (eqb-true (number_of e) 25 h.0)) refl))
          drop-leaves (inr h) = drops a b h.1.0 e answer events step f h.1.1

-- ---- all of it

written-append : (xs ys : List Event) → written (xs ++ ys) ≡ written xs ++ written ys
written-append xs ys = flat_map-append (λ (e : Event). bytes_by e.deed) xs ys

module _ (w : History) (actor : ℕ) (file : Option ClientFile) (pool size before after : ℕ) where
  -- a ticket is opened
  opened : (number : ℕ) (a b : Own) (events : List Event) → Made (OpenNew pool size 0 (Ok number)) events → Fits w actor a events b → a.tickets ≡ [] → One actor number size [] b.tickets
  opened number a b events (inl h) f none =
      (let s = one-step w actor a b (OpenNew pool size 0 (Ok number)) events f h in
      let new : Ticket = record { number = number; actor = actor; purpose = s.1.has.tickets.0; size = size; place = s.1.has.tickets.1; bytes = []; is_sealed = false } in
      (new, s.1.has.tickets.3 ∙ ap (λ (l : List Ticket). l ++ new ∷ []) none, record { number = refl; actor = refl; object = s.1.has.tickets.2.0; purpose = s.1.has.tickets.2.1; size = refl; bytes = refl }))
  opened number a b events (inr h) f none = absurd cc

  opens-nothing : (number : ℕ) (events : List Event) → Made (OpenNew pool size 0 (Ok number)) events → written events ≡ []
  opens-nothing number events (inl h) = ap written h.1
  opens-nothing number events (inr h) = ap written h.1

  not-opened : (e : Refusal) (a b : Own) (events : List Event) → Made (OpenNew pool size 0 (Err e)) events → Fits w actor a events b → b.tickets ≡ a.tickets
  not-opened e a b events (inl h) f = (one-step w actor a b (OpenNew pool size 0 (Err e)) events f h).1.has.tickets
  not-opened e a b events (inr h) f = ap (λ (o : Own). o.tickets) (no-step w actor a b (OpenNew pool size 0 (Err e)) events f h.1)

  none-unopened : (e : Refusal) (b : Own) → b.tickets ≡ [] → LeavesTickets actor file size (unopened e) b.tickets
  none-unopened (refused.Busy holder) b none = none
  none-unopened e b none = elim (is_unopened e) as (λ c. LeavesTickets actor file size (if c then Ok (came.Failed e) else Err (stopping e)) b.tickets) [
    | true ↦ none
    | false ↦ λ _. none
  ]

  -- it is filled and sealed
  filled : (number : ℕ) (digest : Digest) (a b : Own) (events : List Event) → Fills file number size before after events (Ok digest) → Fits w actor a events b → One actor number size [] a.tickets
      → (t : Ticket) × (b.tickets ≡ t ∷ []) × Takes actor number size (written events) t × (t.is_sealed ≡ true)
  filled number digest a b events (ends, (xs, ys, cut, copies, step)) f one =
      let parts = fits-cut w actor a b xs ys (subst (λ (es : List Event). Fits w actor a es b) cut f) in
      let at = writes-all w actor number size a parts.0 xs [] copies.1.only parts.1 one in
      let s = one-step w actor parts.0 b (Seal number (Ok tt)) ys parts.2 step in
      let all : written events ≡ written xs = ap written cut ∙ written-append xs ys ∙ ap (λ (es : List Event). written xs ++ written es) step.1 ∙ append-nil (written xs) in (
        sealed at.0,
        s.1.has.tickets ∙ ap (sealing actor number) at.1 ∙ ap (λ (c : Bool). (if c then sealed at.0 else at.0) ∷ []) (is-its actor number size (written xs) at.0 at.2),
        record { number = at.2.number; actor = at.2.actor; object = at.2.object; purpose = at.2.purpose; size = at.2.size; bytes = at.2.bytes ∙ sym all },
        refl,
      )

  has-file : (number : ℕ) (digest : Digest) (t : Ticket) (bytes : List ℕ) (events : List Event) → bytes ≡ written events → Takes actor number size bytes t → t.is_sealed ≡ true → IsFile file size digest events
      → HasFile actor number file size digest t
  has-file number digest t bytes events same h is sent =
      let all : written events ≡ t.bytes = sym same ∙ sym h.bytes in
      record {
        number = h.number;
        actor = h.actor;
        object = h.object;
        purpose = h.purpose;
        size = h.size;
        long = ap length (sym all) ∙ sent.long;
        hash = subst (λ (l : List ℕ). digest ≡ digest_with (sha256 l)) all sent.hash;
        whole = subst (λ (l : List ℕ). IfSome file (λ f. f.bytes ≡ l)) all sent.whole;
        sealed = is;
      }

  pub sent-tickets : (a b : Own) (events : List Event) (result : Result Came Refusal) → Fits w actor a events b → a.tickets ≡ [] → Sending file pool size before after events result
      → LeavesTickets actor file size result b.tickets
  sent-tickets a b events result f none sent = go sent.order where
    go : Sends file pool size before after events result → LeavesTickets actor file size result b.tickets
    go (inl (e, made, is)) = subst (λ (r : Result Came Refusal). LeavesTickets actor file size r b.tickets) (sym is) (none-unopened e b (not-opened e a b events made f ∙ none))
    go (inr (number, (xs, ys, cut, made, inl (digest, fills, is)))) =
        let parts = fits-cut w actor a b xs ys (subst (λ (es : List Event). Fits w actor a es b) cut f) in
        let at = filled number digest parts.0 b ys fills parts.2 (opened number a parts.0 xs made parts.1 none) in
        let unwritten_first : written xs ≡ [] = opens-nothing number xs made in
        let all : written ys ≡ written events = sym (ap written cut ∙ written-append xs ys ∙ ap (λ (l : List ℕ). l ++ written ys) unwritten_first) in
        subst (λ (r : Result Came Refusal). LeavesTickets actor file size r b.tickets) (sym is)
        (at.0, at.1, has-file number digest at.0 (written ys) events all at.2 at.3 (subst (λ (r : Result Came Refusal). Stores file size events r) is sent.stored))
    go (inr (number, (xs, ys, cut, made, inr (e, (zs, vs, apart, fills, gives))))) =
        let parts = fits-cut w actor a b xs ys (subst (λ (es : List Event). Fits w actor a es b) cut f) in
        let pieces = fits-cut w actor parts.0 b zs vs (subst (λ (es : List Event). Fits w actor parts.0 es b) apart parts.2) in
        let left = fills-left w actor number size file before after parts.0 pieces.0 e zs fills pieces.1 (opened number a parts.0 xs made parts.1 none) in
        given-back w actor number size file before after pieces.0 b e vs result gives pieces.2 left
