-- What holds of each step by which lists are committed and tickets given back.
use Rattle.std.proofs.Common.{◌≡◌, ◌⊎◌, inl, inr, ℕ, zero, suc, List, [], ◌∷◌, ◌++◌, take, drop, Option, None, Some, Result, Ok, Err, sym, subst}
use Rattle.std.specs.List.{AllByRecursion}
use Rattle.kinds.specs.declared.refusal.Holder.{Holder}
use Rattle.kinds.specs.declared.refusal.Holder.TheVariants as holder
use Rattle.kinds.specs.declared.refusal.Refusal.{Refusal}
use Rattle.steps.specs.declared.asked.Asked.{Asked}
use Rattle.steps.specs.Calls.{IsStep, Made, Then}
use Rattle.steps.specs.Events.{Deed, Event}
use Rattle.steps.specs.Events.Deed.{Commit, DropTicket, Force}
use Rattle.client_batches.specs.Commits.{Alone, Commits, CommitsAll, EachAlone, Singles, Stops, Tries}
use Rattle.client_batches.specs.Rounds.{Awaits, AwaitsOne, CommitsSome, InRuns, Rounds}
use Rattle.client_batches.specs.Tickets.{DropsAll, DropsEach, GivesBack}
use Rattle.client_batches.proofs.Quiet.{all_append}

-- ---- any steps

abbrev pub Each : (Deed → Type 0) → List Event → Type 0
Each K events = AllByRecursion (λ e. K e.deed) events

module _ (K : Deed → Type 0) where
  pub each-both : (events xs ys : List Event) → events ≡ xs ++ ys → Each K xs → Each K ys → Each K events
  each-both events xs ys cut a b = subst (λ (es : List Event). Each K es) (sym cut) (all_append (λ e. K e.deed) xs ys a b)

  pub each-none : (events : List Event) → events ≡ [] → Each K events
  each-none events none = subst (λ (es : List Event). Each K es) (sym none) tt

  pub each-step : (d : Deed) (events : List Event) → K d → IsStep d events → Each K events
  each-step d events is h = subst (λ (es : List Event). Each K es) (sym h.1) (is, tt)

  pub each-made : (d : Deed) (events : List Event) → K d → Made d events → Each K events
  each-made d events is (inl h) = each-step d events is h
  each-made d events is (inr h) = each-none events h.1

  pub each-then : (Q R : List Event → Type 0) (events : List Event) → Then Q R events → ((xs : List Event) → Q xs → Each K xs) → ((ys : List Event) → R ys → Each K ys) → Each K events
  each-then Q R events (xs, ys, cut, q, r) first next = each-both events xs ys cut (first xs q) (next ys r)

pub each-as : (K J : Deed → Type 0) → ((d : Deed) → K d → J d) → (events : List Event) → Each K events → Each J events
each-as K J so [] h = tt
each-as K J so (e ∷ events) h = (so e.deed h.0, each-as K J so events h.1)

-- ---- waits

module _ (K : Deed → Type 0) (force : (answer : Result ℕ Refusal) → K (Force answer)) where
  each-awaits : (h : Holder) (events : List Event) (result : Result (Unit {0}) Refusal) → Awaits h events result → Each K events
  each-awaits (holder.Unforced number) events result w = each-made K (Force w.0) events (force w.0) w.2
  each-awaits (holder.Ticket number) events result w = each-none K events w.0
  each-awaits (holder.Image actor) events result w = each-none K events w.0

  pub each-waits : (h : Option Holder) (events : List Event) (result : Result (Unit {0}) Refusal) → AwaitsOne h events result → Each K events
  each-waits None events result w = each-none K events w.0
  each-waits (Some h) events (Ok done) w = each-awaits h events (Ok tt) w
  each-waits (Some h) events (Err e) w = each-awaits h events (Err w.0) w.2

-- ---- tickets

module _ (K : Deed → Type 0) (drops : (ticket : ℕ) (answer : Result (Unit {0}) Refusal) → K (DropTicket ticket answer)) where
  each-dropped : (tickets : List ℕ) (events : List Event) → DropsAll tickets events → Each K events
  each-dropped [] events h = each-none K events h
  each-dropped (ticket ∷ tickets) events (answer, last, (xs, ys, cut, step, rest)) = each-both K events xs ys cut (each-step K (DropTicket ticket answer) xs (drops ticket answer) step) (each-dropped tickets ys rest)

  each-dropped-so : (tickets : List ℕ) (events : List Event) (e : Option Refusal) → DropsEach tickets events e → Each K events
  each-dropped-so tickets events None h = each-dropped tickets events h
  each-dropped-so tickets events (Some e) (front, ticket, back, parts, answer, last, (xs, ys, cut, all, step)) =
      each-both K events xs ys cut (each-dropped front xs all) (each-step K (DropTicket ticket answer) ys (drops ticket answer) step)

  pub each-given : (tickets : List ℕ) (e : Refusal) (events : List Event) (why : Refusal) → GivesBack tickets e events why → Each K events
  each-given tickets e events why (inl h) = each-none K events h.1
  each-given tickets e events why (inr (inl h)) = each-dropped-so tickets events None h.1
  each-given tickets e events why (inr (inr h)) = each-dropped-so tickets events (Some why) h.1

-- ---- transactions

-- lists of lines, of which each part asks for what may be committed where P holds of each of its lines
module _ (K : Deed → Type 0) (drops : (ticket : ℕ) (answer : Result (Unit {0}) Refusal) → K (DropTicket ticket answer)) {L : Type 0} (P : L → Type 0) (asking : List L → Asked)
    (commits : (lines : List L) (tickets : List ℕ) (answer : Result ℕ Refusal) → AllByRecursion P lines → K (Commit (asking lines) tickets answer)) where
  each-tries : (lines : List L) → AllByRecursion P lines → (tickets : List ℕ) (events : List Event) (result : Result (Option Refusal) Refusal) → Tries (asking lines) tickets events result → Each K events
  each-tries lines is tickets events result (inl h) = each-none K events h.0
  each-tries lines is tickets events result (inr h) = each-made K (Commit (asking lines) tickets h.0) events (commits lines tickets h.0 is) h.1

  each-alone : (l : L) → P l → (ticket : List ℕ) (events : List Event) (result : Result (Option Refusal) Refusal) → Alone (asking (l ∷ [])) ticket events result → Each K events
  each-alone l is ticket events result (inl h) = each-tries (l ∷ []) (is, tt) ticket events (Ok None) h.0
  each-alone l is ticket events result (inr (inl h)) = each-tries (l ∷ []) (is, tt) ticket events (Err h.0) h.1
  each-alone l is ticket events result (inr (inr (e, why, (xs, ys, cut, t, g), same))) =
      each-both K events xs ys cut (each-tries (l ∷ []) (is, tt) ticket xs (Ok (Some e)) t) (each-given K drops ticket e ys why g)

  all-front : (xs ys : List L) → AllByRecursion P (xs ++ ys) → AllByRecursion P xs
  all-front [] ys h = tt
  all-front (x ∷ xs) ys h = (h.0, all-front xs ys h.1)

  all-back : (xs ys : List L) → AllByRecursion P (xs ++ ys) → AllByRecursion P ys
  all-back [] ys h = h
  all-back (x ∷ xs) ys h = all-back xs ys h.1

  each-singles : (lines : List L) → AllByRecursion P lines → (tickets : List ℕ) (outs : List (Option Refusal)) (events : List Event) → Singles asking lines tickets outs events → Each K events
  each-singles [] is tickets [] events h = each-none K events h
  each-singles [] is tickets (o ∷ outs) events h = absurd h
  each-singles (l ∷ lines) is tickets [] events h = absurd h
  each-singles (l ∷ lines) is tickets (o ∷ outs) events (xs, ys, cut, a, s) = each-both K events xs ys cut (each-alone l is.0 (take 1 tickets) xs (Ok o) a) (each-singles lines is.1 (drop 1 tickets) outs ys s)

  each-last : (back : List L) → AllByRecursion P back → (l : L) (rest : List L) (ticket : List ℕ) (e : Refusal) (events : List Event) → back ≡ l ∷ rest → Alone (asking (l ∷ [])) ticket events (Err e) → Each K events
  each-last back is l rest ticket e events cut h = each-alone l (subst (λ (ls : List L). AllByRecursion P ls) cut is).0 ticket events (Err e) h

  each-stops : (lines : List L) → AllByRecursion P lines → (tickets : List ℕ) (e : Refusal) (events : List Event) → Stops asking lines tickets e events → Each K events
  each-stops lines is tickets e events h =
      let all = subst (λ (ls : List L). AllByRecursion P ls) h.lined is in
      each-both K events h.xs h.ys h.made (each-singles h.front (all-front h.front h.back all) tickets h.outs h.xs h.singles)
      (elim h.ends as (λ _. Each K h.ys) [ inl m ↦ each-none K h.ys m.1 | inr s ↦ each-last h.back (all-back h.front h.back all) s.0 s.1 _ e h.ys s.2 s.3 ])

  each-each : (lines : List L) → AllByRecursion P lines → (tickets : List ℕ) (events : List Event) (result : Result (List (Option Refusal)) Refusal) → EachAlone asking lines tickets events result → Each K events
  each-each lines is tickets events (Ok outs) h = each-singles lines is tickets outs events h
  each-each lines is tickets events (Err e) h = each-stops lines is tickets e events h

  each-all : (lines : List L) → AllByRecursion P lines → (tickets : List ℕ) (events : List Event) (result : Result (List (Option Refusal)) Refusal) → CommitsAll asking lines tickets events result → Each K events
  each-all lines is tickets events result (inl h) = each-tries lines is tickets events (Ok None) h.0
  each-all lines is tickets events result (inr (inl h)) = each-tries lines is tickets events (Err h.0) h.1
  each-all lines is tickets events result (inr (inr (why, (xs, ys, cut, t, s)))) = each-both K events xs ys cut (each-tries lines is tickets xs (Ok (Some why)) t) (each-each lines is tickets ys result s)

  pub each-commits : (lines : List L) → AllByRecursion P lines → (tickets : List ℕ) (events : List Event) (result : Result (List (Option Refusal)) Refusal) → Commits asking lines tickets events result → Each K events
  each-commits lines is tickets events (Ok outs) h = each-all lines is tickets events (Ok outs) h
  each-commits lines is tickets events (Err e) (why, (xs, ys, cut, a, g)) = each-both K events xs ys cut (each-all lines is tickets xs (Err why) a) (each-given K drops tickets why ys e g)

  -- what is left behind rounds is of the list
  each-rounds : (number : ℕ) (lines rest : List L) → AllByRecursion P lines → (outs : List (Option Refusal)) (before after : ℕ) (events : List Event) → Rounds (CommitsSome asking) number lines rest outs before after events
      → Each K events × AllByRecursion P rest
  each-rounds zero lines rest is outs before after events (left, none, same, empty) = (each-none K events empty, subst (λ (ls : List L). AllByRecursion P ls) (sym left) is)
  each-rounds (suc number) lines rest is outs before after events (left, first, next, count, joined, (xs, ys, cut, rounds, (run, parts, few, same, commits-these))) =
      let earlier = each-rounds number lines left is first before count xs rounds in
      let all = subst (λ (ls : List L). AllByRecursion P ls) parts earlier.1 in (
        each-both K events xs ys cut earlier.0 (each-commits run (all-front run rest all) [] ys (Ok next) commits-these),
        all-back run rest all,
      )

  each-last-run : (rest run back : List L) → rest ≡ run ++ back → AllByRecursion P rest → (events : List Event) (e : Refusal) → Commits asking run [] events (Err e) → Each K events
  each-last-run rest run back cut is events e h = each-commits run (all-front run back (subst (λ (ls : List L). AllByRecursion P ls) cut is)) [] events (Err e) h

  pub each-runs : (lines : List L) → AllByRecursion P lines → (events : List Event) (result : Result (List (Option Refusal)) Refusal) → InRuns asking lines events result → Each K events
  each-runs lines is events (Ok outs) h = (each-rounds h.0 lines [] is outs 0 0 events h.1).0
  each-runs lines is events (Err e) (number, rest, outs, (xs, ys, cut, rounds, ends)) =
      let earlier = each-rounds number lines rest is outs 0 0 xs rounds in
      each-both K events xs ys cut earlier.0 (elim ends as (λ _. Each K ys) [ inl m ↦ each-none K ys m.1 | inr s ↦ each-last-run rest s.0 s.1 s.2 earlier.1 ys e s.4 ])
