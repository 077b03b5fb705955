-- What an attempt came to in a history that its events fit: whether a ticket is left, and where its copy isn't wanted any more.
use Rattle.std.proofs.Common.{◌≡◌, ◌⊎◌, inl, inr, ℕ, ◌+◌, ◌≤◌, ◌==◌, zero, suc, Bool, true, false, List, [], ◌∷◌, Option, Some, None, Result, Ok, Err, refl, sym, ap, subst, ◌∙◌, arith, if◌then◌else◌}
use Rattle.std.proofs.lemmas.Bool.{eq-eqb, eqb-true, false≢true}
use Rattle.std.specs.List.{AllByRecursion}
use Rattle.kinds.specs.Refusals.{number_of}
use Rattle.kinds.specs.declared.refusal.Holder.{Holder}
use Rattle.kinds.specs.declared.refusal.Holder.TheVariants as holder
use Rattle.kinds.specs.declared.refusal.Refusal.{Refusal}
use Rattle.kinds.specs.declared.refusal.Refusal.TheVariants as refused
use Rattle.entries.specs.declared.change.Change.{Change}
use Rattle.space.specs.declared.aim.Aim.{Aim}
use Rattle.space.specs.declared.aim.Aim.TheVariants as aim
use Rattle.steps.specs.declared.asked.Asked.TheVariants as asked
use Rattle.steps.specs.Calls.{Made, fails_object}
use Rattle.steps.specs.Events.{Deed, Event, event, is_listed, refusal, refusal_in}
use Rattle.steps.specs.Events.Deed.{OpenNew, OpenCopy, WritePiece, CopyPiece, Seal, Commit, DropTicket, ReadPiece, Ask, Image, Reuse, Force}
use Rattle.copy_attempts.proofs.Facts.{commit-listed, held-by, not-dropped, some-memory, spent-by}
use Rattle.copy_attempts.specs.declared.outcome.Came.{Came}
use Rattle.copy_attempts.specs.declared.outcome.Came.TheVariants as came
use Rattle.copy_attempts.specs.Attempts.{Awaits, Copies, Ends, Fills, GivesUp, Goes, Held, IsPiece, Makes, Spends, Tries, Waited, behind_drop, came_of, is_passed, is_spent_by, piece_count, stopping, unopened}
use Rattle.copy_attempts.specs.Outcomes.{may_leave}
use Rattle.machine.specs.Fits.{Fits, History, Own, Step, inv, is_write_fault, number_after}
use Rattle.machine.proofs.Runs.{fits-cut, fits-first, fits-one, fits-rises}
use Rattle.copy_runs.proofs.Carrying.{Carries, Keeps, commit-refused, committed-none, dropped-none, force-leaves, open-refused, opened, piece-refused, seal-refused, seals, takes, undropped-none}
use Rattle.copy_runs.proofs.Committed.{Leaves, committed}
use Rattle.copy_runs.proofs.Passing.{commit-passed, open-passed, piece-passed, seal-passed}
use Rattle.copy_runs.specs.Wanting.{IsPast, is_wanted}

-- ---- numbers

not-before : (n : ℕ) (joined : Option Change) → n ≤ number_after n joined
not-before n None = omega arith
not-before n (Some c) = omega arith

pub reaches : (w : History) (actor : ℕ) (a b : Own) (e : Event) → Step w actor a e b → e.n ≤ b.reached
reaches w actor a b e s =
    let l : e.n ≤ number_after e.n s.joined = not-before e.n s.joined in
    let r : b.reached ≡ number_after e.n s.joined = s.has.reached in
    omega arith

pub past-later : (n m : ℕ) (a : Aim) → n ≤ m → IsPast n a → IsPast m a
past-later n m (aim.New number) l h = tt
past-later n m (aim.Move from placed to along) l h = omega arith
past-later n m (aim.Copy to) l h = tt

-- at one of these numbers the copy isn't wanted
abbrev pub Unwanted : History → (from to : ℕ) → Aim → (object : ℕ) → Type 0
Unwanted w from to a object = (m : ℕ) × (from ≤ m) × (m ≤ to) × (is_wanted a object (inv w m) ≡ false)

pub unwanted-within : (w : History) (from to first last object : ℕ) (a : Aim) → first ≤ from → to ≤ last → Unwanted w from to a object → Unwanted w first last a object
unwanted-within w from to first last object a l r u =
    let low : from ≤ u.0 = u.1 in
    let high : u.0 ≤ to = u.2 in
    (u.0, omega arith, omega arith, u.3)

-- ---- events that fit

pub fits-empty : (w : History) (actor : ℕ) (a b : Own) → Fits w actor a [] b → b ≡ a
unfolding Fits
fits-empty w actor a b f = f

-- one step was made, or memory was wanted and nothing was
pub fits-made : (w : History) (actor : ℕ) (a b : Own) (d : Deed) (events : List Event) → Made d events → Fits w actor a events b
    → ((n : ℕ) × Step w actor a (event n d) b × (is_listed d ≡ true)) ⊎ ((refusal d ≡ Some refused.Memory) × (b ≡ a))
fits-made w actor a b d events (inl h) f = inl (h.0, fits-one w actor a b (event h.0 d) (subst (λ (es : List Event). Fits w actor a es b) h.1 f), h.2)
fits-made w actor a b d events (inr h) f = inr (h.0, fits-empty w actor a b (subst (λ (es : List Event). Fits w actor a es b) h.1 f))

pub none-some : {A : Type 0} (x : A) → None ≡ Some x → ⊥
none-some x h = absurd cc

pub ok-err : {A : Type 0} (x : A) (e : Refusal) → Ok x ≡ Err e → ⊥
ok-err x e h = absurd cc

-- ---- pieces

piece-step : (w : History) (actor : ℕ) (a b : Own) (n number object : ℕ) (to : Aim) (d : Deed) → IsPiece number d → Carries actor number object to false a → Step w actor a (event n d) b
    → Carries actor number object to false b
piece-step w actor a b n number object to (OpenNew pool size prefer answer) h c s = absurd h
piece-step w actor a b n number object to (OpenCopy other aim avoid answer) h c s = absurd h
piece-step w actor a b n number object to (WritePiece t bytes answer) h c s = absurd h
piece-step w actor a b n number object to (CopyPiece t (Ok count)) h c s = takes w actor a b n number count object to c (subst (λ (k : ℕ). Step w actor a (event n (CopyPiece k (Ok count))) b) h s)
piece-step w actor a b n number object to (CopyPiece t (Err e)) h c s = absurd h
piece-step w actor a b n number object to (Seal t answer) h c s = absurd h
piece-step w actor a b n number object to (Commit asked tickets answer) h c s = absurd h
piece-step w actor a b n number object to (DropTicket t answer) h c s = absurd h
piece-step w actor a b n number object to (ReadPiece other kept from offset wanted answer) h c s = absurd h
piece-step w actor a b n number object to (Ask query answer) h c s = absurd h
piece-step w actor a b n number object to (Image kind answer) h c s = absurd h
piece-step w actor a b n number object to (Reuse file answer) h c s = absurd h
piece-step w actor a b n number object to (Force answer) h c s = absurd h

pieces-carry : (w : History) (actor : ℕ) (a b : Own) (number object : ℕ) (to : Aim) (events : List Event) → AllByRecursion (λ e. IsPiece number e.deed) events → Carries actor number object to false a
    → Fits w actor a events b → Carries actor number object to false b
pieces-carry w actor a b number object to [] h c f = subst (Carries actor number object to false) (sym (fits-empty w actor a b f)) c
pieces-carry w actor a b number object to (x ∷ xs) h c f =
    let r = fits-first w actor a b x xs f in
    pieces-carry w actor r.0 b number object to xs h.1 (piece-step w actor a r.0 x.n number object to x.deed h.0 c r.1) r.2

-- ---- a refusal before the ticket's end

-- the actor has the ticket still, or none; and where the refusal passes over the object, its copy isn't wanted
record Halt (w : History) (actor number object : ℕ) (to : Aim) (e : Refusal) (a b : Own) : Type 0 where
  keeps : Keeps actor number object to e b
  passed : is_passed e ≡ true → Unwanted w a.reached b.reached to object

halt-later : (w : History) (actor number object : ℕ) (to : Aim) (e : Refusal) (o a b : Own) → o.reached ≤ a.reached → Halt w actor number object to e a b → Halt w actor number object to e o b
halt-later w actor number object to e o a b l h = record {
  keeps = h.keeps;
  passed = λ p. unwanted-within w a.reached b.reached o.reached b.reached object to l (omega arith) (h.passed p);
}

-- memory was wanted before the step
halt-none : (w : History) (actor number object : ℕ) (to : Aim) (full : Bool) (e : Refusal) (a b : Own) → e ≡ refused.Memory → b ≡ a → Carries actor number object to full a
    → Halt w actor number object to e a b
halt-none w actor number object to full e a b is same c = record {
  keeps = record {
    fault = λ t. absurd (false≢true (sym (ap is_write_fault is) ∙ t));
    either = inr (full, subst (Carries actor number object to full) (sym same) c);
  };
  passed = λ p. absurd (false≢true (sym (ap is_passed is) ∙ p));
}

-- a step was refused, and the copy isn't wanted at its number
halt-at : (w : History) (actor number object : ℕ) (to : Aim) (e : Refusal) (a b : Own) (n : ℕ) (d : Deed) → Step w actor a (event n d) b → Keeps actor number object to e b
    → (is_passed e ≡ true → is_wanted to object (inv w n) ≡ false) → Halt w actor number object to e a b
halt-at w actor number object to e a b n d s keeps unwanted = record {
  keeps = keeps;
  passed = λ p. (n, s.since, reaches w actor a b (event n d) s, unwanted p);
}

copies-halt : (w : History) (actor number count object : ℕ) (to : Aim) (e : Refusal) (a b : Own) (events : List Event) → Copies number count events (Err e)
    → Carries actor number object to false a → Fits w actor a events b
    → Halt w actor number object to e a b
copies-halt w actor number count object to e a b events h c f =
    let r = fits-cut w actor a b h.2.0 h.2.1 (subst (λ (es : List Event). Fits w actor a es b) h.2.2 f) in
    let d : Carries actor number object to false r.0 = pieces-carry w actor a r.0 number object to h.2.0 h.2.3.only c r.1 in
    halt-later w actor number object to e a r.0 b (fits-rises w actor a r.0 h.2.0 r.1)
    (elim (fits-made w actor r.0 b (CopyPiece number (Err e)) h.2.1 h.2.4 r.2) as (λ _. Halt w actor number object to e r.0 b) [
      | inl s ↦ halt-at w actor number object to e r.0 b s.0 (CopyPiece number (Err e)) s.1 (piece-refused w actor r.0 b s.0 number object to e d s.1)
          (λ p. piece-passed w actor r.0 b s.0 number object to e d s.1 p)
      | inr m ↦ halt-none w actor number object to false e r.0 b (some-memory e (CopyPiece number (Err e)) refl m.0) m.1 d
    ])

pub fills-full : (w : History) (actor number size object : ℕ) (to : Aim) (a b : Own) (events : List Event) → Fills number size events (Ok tt) → Carries actor number object to false a
    → Fits w actor a events b
    → Carries actor number object to true b
fills-full w actor number size object to a b events (inl h) c f = absurd (ok-err tt h.0 h.2)
fills-full w actor number size object to a b events (inr h) c f =
    let r = fits-cut w actor a b h.0 h.1 (subst (λ (es : List Event). Fits w actor a es b) h.2 f) in
    let d : Carries actor number object to false r.0 = pieces-carry w actor a r.0 number object to h.0 h.3.only c r.1 in
    elim (fits-made w actor r.0 b (Seal number (Ok tt)) h.1 h.4 r.2) as (λ _. Carries actor number object to true b) [
      | inl s ↦ seals w actor r.0 b s.0 number object to d s.1
      | inr m ↦ absurd (none-some refused.Memory m.0)
    ]

err-same : (e f : Refusal) → Some e ≡ Some f → f ≡ e
err-same e f h = cc

fills-halt : (w : History) (actor number size object : ℕ) (to : Aim) (e : Refusal) (a b : Own) (events : List Event) → Fills number size events (Err e) → Carries actor number object to false a
    → Fits w actor a events b
    → Halt w actor number object to e a b
fills-halt w actor number size object to e a b events (inl h) c f =
    subst (λ (x : Refusal). Halt w actor number object to x a b) (err-same e h.0 (ap refusal_in h.2)) (copies-halt w actor number (piece_count size) object to h.0 a b events h.1 c f)
fills-halt w actor number size object to e a b events (inr h) c f =
    let r = fits-cut w actor a b h.0 h.1 (subst (λ (es : List Event). Fits w actor a es b) h.2 f) in
    let d : Carries actor number object to false r.0 = pieces-carry w actor a r.0 number object to h.0 h.3.only c r.1 in
    halt-later w actor number object to e a r.0 b (fits-rises w actor a r.0 h.0 r.1)
    (elim (fits-made w actor r.0 b (Seal number (Err e)) h.1 h.4 r.2) as (λ _. Halt w actor number object to e r.0 b) [
      | inl s ↦ halt-at w actor number object to e r.0 b s.0 (Seal number (Err e)) s.1 (seal-refused w actor r.0 b s.0 number object to e d s.1) (λ p. absurd
          (seal-passed w actor r.0 b s.0 number object to e d s.1 p))
      | inr m ↦ halt-none w actor number object to false e r.0 b (some-memory e (Seal number (Err e)) refl m.0) m.1 d
    ])

no-fault : (number : ℕ) (e : Refusal) → is_listed (Commit asked.Placed (number ∷ []) (Err e)) ≡ true → is_write_fault e ≡ false
no-fault number e listed = elim (is_write_fault e) as (λ b. is_write_fault e ≡ b → b ≡ false) [
  | true ↦ λ t. absurd (commit-listed (number ∷ []) e listed (eqb-true (number_of e) 25 t))
  | false ↦ λ t. refl
] refl

makes-halt : (w : History) (actor number size object : ℕ) (to : Aim) (e : Refusal) (a b : Own) (events : List Event) → Makes number size events (Err e) → Carries actor number object to false a
    → Fits w actor a events b
    → Halt w actor number object to e a b
makes-halt w actor number size object to e a b events (inl h) c f =
    subst (λ (x : Refusal). Halt w actor number object to x a b) (err-same e h.0 (ap refusal_in h.2)) (fills-halt w actor number size object to h.0 a b events h.1 c f)
makes-halt w actor number size object to e a b events (inr h) c f =
    let r = fits-cut w actor a b h.0 h.1 (subst (λ (es : List Event). Fits w actor a es b) h.2 f) in
    let d : Carries actor number object to true r.0 = fills-full w actor number size object to a r.0 h.0 h.3 c r.1 in
    halt-later w actor number object to e a r.0 b (fits-rises w actor a r.0 h.0 r.1)
    (elim (fits-made w actor r.0 b (Commit asked.Placed (number ∷ []) (Err e)) h.1 h.4 r.2) as (λ _. Halt w actor number object to e r.0 b) [
      | inl s ↦ halt-at w actor number object to e r.0 b s.0 (Commit asked.Placed (number ∷ []) (Err e)) s.1 (commit-refused w actor r.0 b s.0 number object to e d (no-fault number e s.2) s.1)
          (λ p. commit-passed w actor r.0 b s.0 number object to e d s.1 p)
      | inr m ↦ halt-none w actor number object to true e r.0 b (some-memory e (Commit asked.Placed (number ∷ []) (Err e)) refl m.0) m.1 d
    ])

-- ---- what it came to

abbrev pub is_done : Result Came Refusal → Bool
is_done (Ok (came.Copied number)) = true
is_done (Ok came.Failed) = false
is_done (Ok came.Passed) = true
is_done (Err e) = false

-- No ticket is left, unless none can be given back; and where it was made or passed over, the copy isn't wanted at one of the numbers.
pub record Tale (w : History) (object : ℕ) (to : Aim) (a b : Own) (result : Result Came Refusal) : Type 0 where
  pub empty : may_leave result ≡ false → b.tickets ≡ []
  pub done : is_done result ≡ true → IsPast a.reached to → Unwanted w a.reached b.reached to object

tale-later : (w : History) (object : ℕ) (to : Aim) (o a b : Own) (result : Result Came Refusal) → o.reached ≤ a.reached → Tale w object to a b result → Tale w object to o b result
tale-later w object to o a b result l h = record {
  empty = h.empty;
  done = λ d past. unwanted-within w a.reached b.reached o.reached b.reached object to l (omega arith) (h.done d (past-later o.reached a.reached to l past));
}

-- ---- a ticket to its end

makes-tale : (w : History) (actor number size object made : ℕ) (to : Aim) (a b : Own) (events : List Event) → Makes number size events (Ok made) → Carries actor number object to false a
    → Fits w actor a events b
    → Tale w object to a b (Ok (came.Copied made))
makes-tale w actor number size object made to a b events (inl h) c f = absurd (ok-err made h.0 h.2)
makes-tale w actor number size object made to a b events (inr h) c f =
    let r = fits-cut w actor a b h.0 h.1 (subst (λ (es : List Event). Fits w actor a es b) h.2 f) in
    let d : Carries actor number object to true r.0 = fills-full w actor number size object to a r.0 h.0 h.3 c r.1 in
    tale-later w object to a r.0 b (Ok (came.Copied made)) (fits-rises w actor a r.0 h.0 r.1)
    (elim (fits-made w actor r.0 b (Commit asked.Placed (number ∷ []) (Ok made)) h.1 h.4 r.2) as (λ _. Tale w object to r.0 b (Ok (came.Copied made))) [
      | inl s ↦ record {
        empty = λ _. committed-none w actor r.0 b s.0 number object to made d s.1;
        done = λ _ past.
            (let since : r.0.reached ≤ s.0 = s.1.since in
            let l : Leaves w s.0 object to b = committed w actor r.0 b s.0 number object to made d s.1 (past-later r.0.reached s.0 to since past) in
            let reached : b.reached ≡ s.0 + 1 = l.reached in
            (s.0 + 1, omega arith, omega arith, l.unwanted));
      }
      | inr m ↦ absurd (none-some refused.Memory m.0)
    ])

came-done : (e : Refusal) → is_done (came_of e) ≡ true → is_passed e ≡ true
came-done e h =
    elim (is_passed e) as (λ b. is_passed e ≡ b → is_done (if b then Ok came.Passed else (if fails_object e then Ok came.Failed else Err (stopping e))) ≡ true → b ≡ true) [
      | true ↦ λ t g. refl
      | false ↦ λ t g. elim (fails_object e) as (λ b. is_done (if b then Ok came.Failed else Err (stopping e)) ≡ true → false ≡ true) [
        | true ↦ λ k. k
        | false ↦ λ k. k
      ] g
    ] refl h

fault-is : (e : Refusal) → (number_of e ≡ 25) ⊎ (may_leave (came_of e) ≡ true) → may_leave (came_of e) ≡ false → is_write_fault e ≡ true
fault-is e (inl h) leave = eq-eqb (number_of e) 25 h
fault-is e (inr h) leave = absurd (false≢true (sym leave ∙ h))

ten-is : (other : Refusal) → (number_of other ≡ 10) ⊎ (may_leave (Err (stopping other)) ≡ true) → may_leave (Err (stopping other)) ≡ false → number_of other ≡ 10
ten-is other (inl h) leave = h
ten-is other (inr h) leave = absurd (false≢true (sym leave ∙ h))

given-nothing : (w : History) (actor number object : ℕ) (to : Aim) (e : Refusal) (o a b : Own) → Halt w actor number object to e o a → is_spent_by e ≡ true → b ≡ a → Tale w object to o b (came_of e)
given-nothing w actor number object to e o a b h spent same = record {
  empty = λ leave. ap (λ (x : Own). x.tickets) same ∙ h.keeps.fault (fault-is e (spent-by e spent) leave);
  done = λ d past. subst (λ (x : Own). Unwanted w o.reached x.reached to object) (sym same) (h.passed (came-done e d));
}

given-back : (w : History) (actor number object : ℕ) (to : Aim) (e : Refusal) (o a b : Own) (n : ℕ) (answer : Result (Unit {0}) Refusal) → Halt w actor number object to e o a
    → is_listed (DropTicket number answer) ≡ true → Step w actor a (event n (DropTicket number answer)) b → Tale w object to o b (behind_drop e answer)
given-back w actor number object to e o a b n (Ok tt) h listed s =
    let since : a.reached ≤ n = s.since in
    let end : n ≤ b.reached = reaches w actor a b (event n (DropTicket number (Ok tt))) s in
    let rise : a.reached ≤ b.reached = omega arith in
    record {
      empty = λ leave. dropped-none w actor a b n number object to e h.keeps s;
      done = λ d past. unwanted-within w o.reached a.reached o.reached b.reached object to (omega arith) rise (h.passed (came-done e d));
    }
given-back w actor number object to e o a b n (Err other) h listed s = record {
  empty = λ leave. undropped-none w actor a b n number object to e other h.keeps (ten-is other (not-dropped number other listed) leave) s;
  done = λ d past. absurd (false≢true d);
}

given-up : (w : History) (actor number object : ℕ) (to : Aim) (e : Refusal) (o a b : Own) (events : List Event) (result : Result Came Refusal) → Halt w actor number object to e o a
    → GivesUp number e events result → Fits w actor a events b → Tale w object to o b result
given-up w actor number object to e o a b events result h (inl g) f =
    subst (λ (r : Result Came Refusal). Tale w object to o b r) (sym g.2)
    (given-nothing w actor number object to e o a b h g.0 (fits-empty w actor a b (subst (λ (es : List Event). Fits w actor a es b) g.1 f)))
given-up w actor number object to e o a b events result h (inr g) f =
    subst (λ (r : Result Came Refusal). Tale w object to o b r) (sym g.3)
    (given-back w actor number object to e o a b g.2.0 g.1 h g.2.2 (fits-one w actor a b (event g.2.0 (DropTicket number g.1)) (subst (λ (es : List Event). Fits w actor a es b) g.2.1 f)))

spends-tale : (w : History) (actor number size object : ℕ) (to : Aim) (a b : Own) (events : List Event) (result : Result Came Refusal) → Spends number size events result
    → Carries actor number object to false a
    → Fits w actor a events b → Tale w object to a b result
spends-tale w actor number size object to a b events result (inl h) c f =
    subst (λ (r : Result Came Refusal). Tale w object to a b r) (sym h.2) (makes-tale w actor number size object h.0 to a b events h.1 c f)
spends-tale w actor number size object to a b events result (inr h) c f =
    let r = fits-cut w actor a b h.1.0 h.1.1 (subst (λ (es : List Event). Fits w actor a es b) h.1.2 f) in
    given-up w actor number object to h.0 a r.0 b h.1.1 result (makes-halt w actor number size object to h.0 a r.0 h.1.0 h.1.3 c r.1) h.1.4 r.2

-- ---- tries

unopened-done : (e : Refusal) → is_done (unopened e) ≡ true → ((number_of e == 10) ≡ false) × (is_passed e ≡ true)
unopened-done e h =
    elim (number_of e == 10) as (λ b. (number_of e == 10) ≡ b → is_done (if b then Err e else came_of e) ≡ true → (b ≡ false) × (is_passed e ≡ true)) [
      | true ↦ λ t g. absurd (false≢true g)
      | false ↦ λ t g. (refl, came-done e g)
    ] refl h

opens-tale : (w : History) (actor object : ℕ) (to : Aim) (avoid : ℕ) (e : Refusal) (a b : Own) (n : ℕ) → a.tickets ≡ [] → Step w actor a (event n (OpenCopy object to avoid (Err e))) b
    → Tale w object to a b (unopened e)
opens-tale w actor object to avoid e a b n none s = record {
  empty = λ leave. open-refused w actor a b n object to avoid e s ∙ none;
  done = λ d past.
      (let is = unopened-done e d in
      (n, s.since, reaches w actor a b (event n (OpenCopy object to avoid (Err e))) s, open-passed w actor a b n object to avoid e s is.0 is.1));
}

wants-tale : (w : History) (object : ℕ) (to : Aim) (e : Refusal) (a b : Own) → a.tickets ≡ [] → e ≡ refused.Memory → b ≡ a → Tale w object to a b (unopened e)
wants-tale w object to e a b none is same = record {
  empty = λ leave. ap (λ (x : Own). x.tickets) same ∙ none;
  done = λ d past. absurd (false≢true (sym (ap (λ x. is_done (unopened x)) is) ∙ d));
}

tries-tale : (w : History) (actor object : ℕ) (to : Aim) (avoid size : ℕ) (a b : Own) (events : List Event) (result : Result Came Refusal) → Tries object to avoid size events result
    → a.tickets ≡ [] → Fits w actor a events b
    → Tale w object to a b result
tries-tale w actor object to avoid size a b events result (inl h) none f =
    subst (λ (r : Result Came Refusal). Tale w object to a b r) (sym h.2)
    (elim (fits-made w actor a b (OpenCopy object to avoid (Err h.0)) events h.1 f) as (λ _. Tale w object to a b (unopened h.0)) [
      | inl s ↦ opens-tale w actor object to avoid h.0 a b s.0 none s.1
      | inr m ↦ wants-tale w object to h.0 a b none (some-memory h.0 (OpenCopy object to avoid (Err h.0)) refl m.0) m.1
    ])
tries-tale w actor object to avoid size a b events result (inr h) none f =
    let r = fits-cut w actor a b h.1.0 h.1.1 (subst (λ (es : List Event). Fits w actor a es b) h.1.2 f) in
    tale-later w object to a r.0 b result (fits-rises w actor a r.0 h.1.0 r.1)
    (elim (fits-made w actor a r.0 (OpenCopy object to avoid (Ok h.0)) h.1.0 h.1.3 r.1) as (λ _. Tale w object to r.0 b result) [
      | inl s ↦ spends-tale w actor h.0 size object to r.0 b h.1.1 result h.1.4 (opened w actor a r.0 s.0 object to avoid h.0 none s.1) r.2
      | inr m ↦ absurd (none-some refused.Memory m.0)
    ])

-- ---- waiting

awaits-none : (w : History) (actor : ℕ) (h : Holder) (a b : Own) (events : List Event) (answer : Result (Unit {0}) Refusal) → Awaits h events answer → Fits w actor a events b → b.tickets ≡ a.tickets
awaits-none w actor (holder.Unforced number) a b events answer h f = elim (fits-made w actor a b (Force h.0) events h.2 f) as (λ _. b.tickets ≡ a.tickets) [
  | inl s ↦ force-leaves w actor a b s.0 h.0 s.1
  | inr m ↦ ap (λ (x : Own). x.tickets) m.1
]
awaits-none w actor (holder.Ticket number) a b events answer h f = ap (λ (x : Own). x.tickets) (fits-empty w actor a b (subst (λ (es : List Event). Fits w actor a es b) h.0 f))
awaits-none w actor (holder.Image other) a b events answer h f = ap (λ (x : Own). x.tickets) (fits-empty w actor a b (subst (λ (es : List Event). Fits w actor a es b) h.0 f))

held-none : (w : History) (actor object : ℕ) (to : Aim) (avoid size : ℕ) (a b : Own) (events : List Event) (answer : Result (Unit {0}) Refusal) → Held object to avoid size events answer
    → a.tickets ≡ [] → Fits w actor a events b
    → b.tickets ≡ []
held-none w actor object to avoid size a b events answer h none f =
    let r = fits-cut w actor a b h.3.0 h.3.1 (subst (λ (es : List Event). Fits w actor a es b) h.3.2 f) in
    let t : Tale w object to a r.0 h.0 = tries-tale w actor object to avoid size a r.0 h.3.0 h.0 h.3.3 none r.1 in
    awaits-none w actor h.1 r.0 b h.3.1 answer h.3.4 r.2 ∙ t.empty (ap may_leave (held-by h.0 h.1 h.2))

pub waited-none : (w : History) (actor object : ℕ) (to : Aim) (avoid size number : ℕ) (a b : Own) (events : List Event) → Waited object to avoid size number events → a.tickets ≡ []
    → Fits w actor a events b → b.tickets ≡ []
waited-none w actor object to avoid size zero a b events h none f = ap (λ (x : Own). x.tickets) (fits-empty w actor a b (subst (λ (es : List Event). Fits w actor a es b) h f)) ∙ none
waited-none w actor object to avoid size (suc number) a b events h none f =
    let r = fits-cut w actor a b h.0 h.1 (subst (λ (es : List Event). Fits w actor a es b) h.2 f) in
    held-none w actor object to avoid size r.0 b h.1 (Ok tt) h.4 (waited-none w actor object to avoid size number a r.0 h.0 h.3 none r.1) r.2

-- ---- the whole

refused-tale : (w : History) (object : ℕ) (to : Aim) (a b : Own) (e : Refusal) → b.tickets ≡ [] → Tale w object to a b (Err e)
refused-tale w object to a b e none = record { empty = λ leave. none; done = λ d past. absurd (false≢true d) }

ends-tale : (w : History) (actor object : ℕ) (to : Aim) (avoid size waited : ℕ) (a b : Own) (events : List Event) (result : Result Came Refusal) → Ends object to avoid size waited events result
    → a.tickets ≡ []
    → Fits w actor a events b → Tale w object to a b result
ends-tale w actor object to avoid size waited a b events result (inl h) none f = tries-tale w actor object to avoid size a b events result h.1 none f
ends-tale w actor object to avoid size waited a b events result (inr (inl h)) none f =
    subst (λ (r : Result Came Refusal). Tale w object to a b r) (sym h.2) (refused-tale w object to a b (stopping h.0) (held-none w actor object to avoid size a b events (Err h.0) h.1 none f))
ends-tale w actor object to avoid size waited a b events result (inr (inr h)) none f =
    subst (λ (r : Result Came Refusal). Tale w object to a b r) (sym h.2)
    (refused-tale w object to a b refused.Memory (ap (λ (x : Own). x.tickets) (fits-empty w actor a b (subst (λ (es : List Event). Fits w actor a es b) h.1 f)) ∙ none))

pub goes-tale : (w : History) (actor object : ℕ) (to : Aim) (avoid size : ℕ) (a b : Own) (events : List Event) (result : Result Came Refusal) → Goes object to avoid size events result → a.tickets ≡ []
    → Fits w actor a events b → Tale w object to a b result
goes-tale w actor object to avoid size a b events result h none f =
    let r = fits-cut w actor a b h.1.0 h.1.1 (subst (λ (es : List Event). Fits w actor a es b) h.1.2 f) in
    tale-later w object to a r.0 b result (fits-rises w actor a r.0 h.1.0 r.1)
    (ends-tale w actor object to avoid size h.0 r.0 b h.1.1 result h.1.4 (waited-none w actor object to avoid size h.0 a r.0 h.1.0 h.1.3 none r.1) r.2)
