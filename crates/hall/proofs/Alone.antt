-- What one actor did on a hall that it has alone fits every history that goes on from there.
use Rattle.std.proofs.Common.{◌≡◌, inl, inr, ℕ, ◌≤◌, false, List, [], ◌∷◌, Option, refl, sym, ap, subst, ◌∙◌, if◌then◌else◌}
use Rattle.std.specs.Prelude.{IfSome}
use Rattle.std.specs.List.{AllByRecursion}
use Rattle.std.proofs.lemmas.Bool.{eq-eqb}
use Rattle.store_api.specs.Disk.{History, now}
use Rattle.inventory_rows.specs.State.{Inv}
use Rattle.steps.specs.Events.{Deed, Event, event}
use Rattle.steps.specs.Events.Deed.{OpenNew, OpenCopy, WritePiece, CopyPiece, Seal, Commit, DropTicket, ReadPiece, Ask, Image, Reuse, Force}
use Rattle.machine.specs.Fits.{Fits, History as Run}
use Rattle.machine.specs.Laws.{GoesWhereAimed, RefusesElsewhere}
use Rattle.machine.specs.Machine.{Made}
use Rattle.machine.specs.State.{Machine, inventory}
use Rattle.machine.specs.Turns.{Runs, Turn, events_of, own_in}
use Rattle.machine.proofs.Fitting.{turns-fit}
use Rattle.machine.proofs.Moves.{Moved, entries_of, moves}
use Rattle.hall.specs.Covered.{WasThere}
use Rattle.hall.specs.Alone.{AreExact, Continues, Ran, is_read}
use Rattle.hall.specs.Good.{Is}
use Rattle.hall.specs.Held.{Hall}
use Rattle.hall.specs.Placed.{hall_places}
use Rattle.machine.specs.Alone.{with_contents}
use Rattle.hall.specs.Steps.{IsTrusted, Steps}
use Rattle.hall.proofs.Exact.{exact, still_trusted}
use Rattle.hall.proofs.Remaining.{bytes_stay, had_before, had_now}

-- ---- events as turns of one actor

abbrev turns_of : ℕ → List Event → List Turn
turns_of actor [] = []
turns_of actor (e ∷ events) = record { actor = actor; did = e } ∷ turns_of actor events

all_own : (actor : ℕ) (events : List Event) → events_of actor (turns_of actor events) ≡ events
all_own actor [] = refl
all_own actor (e ∷ events) =
    ap (λ b. if b then e ∷ events_of actor (turns_of actor events) else events_of actor (turns_of actor events)) (eq-eqb actor actor refl) ∙ ap (λ (l : List Event). e ∷ l) (all_own actor events)

-- ---- one step

module _ {S : Type 0} (told : S → Option History) (moment : S → ℕ) (faults : S → ℕ → ℕ) where
  -- the machine's step, with its own bytes
  abbrev Exact : (actor : ℕ) → Hall S → Machine → Deed → Type 0
  Exact actor new m deed = (next : Machine) × Made hall_places actor (event (inventory m.core).number deed) m next × Is told moment faults new next

  module _ (actor : ℕ) (old new : Hall S) (m : Machine) (is : Is told moment faults old m) where
    as_made : (deed : Deed) (seen : ℕ → List ℕ) (next : Machine) → seen ≡ m.contents → Made hall_places actor (event (inventory m.core).number deed) (with_contents seen m) next
        → Made hall_places actor (event (inventory m.core).number deed) m next
    as_made deed seen next same made = subst (λ c. Made hall_places actor (event (inventory m.core).number deed) (with_contents c m) next) same made

    -- of a step that reads nothing, whatever the store tells
    unread : (deed : Deed) → is_read deed ≡ false → Steps told moment faults actor deed old new → Exact actor new m deed
    unread (OpenNew pool size prefer answer) none s = let r = s m is in (r.1, as_made (OpenNew pool size prefer answer) r.0 r.1 r.2 r.3, r.4)
    unread (OpenCopy object aim avoid answer) none s = let r = s m is in (r.1, as_made (OpenCopy object aim avoid answer) r.0 r.1 r.2 r.3, r.4)
    unread (WritePiece ticket bytes answer) none s = let r = s m is in (r.1, as_made (WritePiece ticket bytes answer) r.0 r.1 r.2 r.3, r.4)
    unread (CopyPiece ticket answer) none s = let r = s m is in (r.1, as_made (CopyPiece ticket answer) r.0 r.1 r.2 r.3, r.4)
    unread (Seal ticket answer) none s = let r = s m is in (r.1, as_made (Seal ticket answer) r.0 r.1 r.2 r.3, r.4)
    unread (Commit asked tickets answer) none s = let r = s m is in (r.1, as_made (Commit asked tickets answer) r.0 r.1 r.2 r.3, r.4)
    unread (DropTicket ticket answer) none s = let r = s m is in (r.1, as_made (DropTicket ticket answer) r.0 r.1 r.2 r.3, r.4)
    unread (ReadPiece object kept from offset wanted answer) none s = absurd cc
    unread (Ask query answer) none s = let r = s m is in (r.1, as_made (Ask query answer) r.0 r.1 r.2 r.3, r.4)
    unread (Image kind answer) none s = let r = s m is in (r.1, as_made (Image kind answer) r.0 r.1 r.2 r.3, r.4)
    unread (Reuse file answer) none s = let r = s m is in (r.1, as_made (Reuse file answer) r.0 r.1 r.2 r.3, r.4)
    unread (Force answer) none s = let r = s m is in (r.1, as_made (Force answer) r.0 r.1 r.2 r.3, r.4)

  -- ---- runs

  module _ (clock : (s : S) → IfSome (told s) (λ h. now h ≡ moment s)) (refuses : RefusesElsewhere hall_places) (aimed : GoesWhereAimed hall_places) (actor : ℕ) where
    -- the machine's steps lead here, in every history that goes on from there
    abbrev Leads : List Event → Machine → Machine → Type 0
    Leads events m last = (w : Run) → Continues last w → Runs hall_places w m (turns_of actor events) last × ((object : ℕ) → WasThere m.core object → w.contents object ≡ m.contents object)

    abbrev Ended : List Event → Hall S → Machine → Type 0
    Ended events new m = (last : Machine) × Is told moment faults new last × Leads events m last

    -- one step more in front
    module _ (e : Event) (events : List Event) (old new : Hall S) (m next : Machine) (is : Is told moment faults old m) (number : e.n ≡ old.held.vault.database.number)
        (made : Made hall_places actor (event (inventory m.core).number e.deed) m next) where
      as_event : Made hall_places actor e m next
      as_event = record { number = number ∙ ap (λ (v : Inv). v.number) is.core.database; later = made.later; step = made.step }

      in_front : (w : Run) → ((object : ℕ) → WasThere next.core object → w.contents object ≡ next.contents object) → (object : ℕ) → WasThere m.core object → w.contents object ≡ m.contents object
      in_front w later object had =
          let moved : Moved actor m.contents e.deed m.core next.core = moves hall_places aimed actor e.deed m next made.step in
          later object (had_before m.core next.core moved.base (entries_of actor moved.joined) moved.journal object had)
          ∙ bytes_stay m next object had is.good.numbers hall_places actor e.deed made.step

      more : Ended events new next → Ended (e ∷ events) new m
      more rest = (
        rest.0,
        rest.1,
        λ w goes.
            let back = rest.2 w goes in
            let same : (object : ℕ) → WasThere m.core object → w.contents object ≡ m.contents object = in_front w back.1 in
            ((next, as_event, λ object there. same object (had_now m.core object there), back.0), same),
      )

    nothing : (new : Hall S) (m : Machine) → Is told moment faults new m → Ended [] new m
    nothing new m is = (m, is, λ w goes. ((refl, λ object there. goes.bytes object (had_now m.core object there)), goes.bytes))

    trusted_run : (events : List Event) (old new : Hall S) (m : Machine) → Is told moment faults old m → IsTrusted (told old.store) old.held → Ran told moment faults actor events old new
        → Ended events new m
    trusted_run [] old new m is trusted ran = nothing new m (subst (λ (h : Hall S). Is told moment faults h m) (sym ran) is)
    trusted_run (e ∷ events) old new m is trusted ran =
        let one = exact told moment faults actor old ran.0 m is trusted e.deed ran.2 in
        more e events old new m one.0 is ran.1 one.1 (trusted_run events ran.0 new one.0 one.2 (still_trusted told moment faults clock old ran.0 m is trusted ran.3) ran.4)

    unread_run : (events : List Event) (old new : Hall S) (m : Machine) → Is told moment faults old m → AllByRecursion (λ e. is_read e.deed ≡ false) events → Ran told moment faults actor events old new
        → Ended events new m
    unread_run [] old new m is none ran = nothing new m (subst (λ (h : Hall S). Is told moment faults h m) (sym ran) is)
    unread_run (e ∷ events) old new m is none ran =
        let one = unread actor old ran.0 m is e.deed none.0 ran.2 in
        more e events old new m one.0 is ran.1 one.1 (unread_run events ran.0 new one.0 one.2 none.1 ran.4)

    either_run : (events : List Event) (old new : Hall S) (m : Machine) → Is told moment faults old m → AreExact (IsTrusted (told old.store) old.held) events → Ran told moment faults actor events old new
        → Ended events new m
    either_run events old new m is (inl trusted) ran = trusted_run events old new m is trusted ran
    either_run events old new m is (inr none) ran = unread_run events old new m is none ran

    -- what it did fits every history that goes on from there
    pub alone_fits : (reached : ℕ) (events : List Event) (old new : Hall S) (m : Machine) → Is told moment faults old m → AreExact (IsTrusted (told old.store) old.held) events
        → Ran told moment faults actor events old new → reached ≤ (inventory m.core).number
        → (last : Machine) × Is told moment faults new last
        × ((w : Run) → Continues last w → (n : ℕ) × (n ≤ (inventory last.core).number) × Fits w actor (own_in actor reached m.core) events (own_in actor n last.core))
    alone_fits reached events old new m is trusted ran l =
        let run = either_run events old new m is trusted ran in (
          run.0,
          run.1,
          λ w goes.
              let fits = turns-fit hall_places refuses aimed w actor reached m run.0 (turns_of actor events) (run.2 w goes).0 goes.begins l in
              (fits.0, fits.1, subst (λ (l : List Event). Fits w actor (own_in actor reached m.core) l (own_in actor fits.0 run.0.core)) (all_own actor events) fits.2),
        )
