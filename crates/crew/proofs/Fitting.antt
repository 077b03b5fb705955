-- What was done in a block fits every history that goes on from behind it, actor by actor.
use Rattle.std.proofs.Common.{◌≡◌, ◌⊎◌, inl, inr, ℕ, false, List, [], ◌∷◌, Option, Some, Result, refl, sym, ap, subst, ◌∙◌}
use Rattle.std.specs.Prelude.{IfSome}
use Rattle.std.specs.List.{AllByRecursion}
use Rattle.std.proofs.lemmas.List.{append-nil}
use Rattle.store_api.specs.Disk.{History, now}
use Rattle.steps.specs.Events.{Deed, event}
use Rattle.steps.specs.Events.Deed.{OpenNew, OpenCopy, WritePiece, CopyPiece, Seal, Commit, DropTicket, ReadPiece, Ask, Image, Reuse, Force}
use Rattle.machine.specs.Alone.{Moves, with_contents}
use Rattle.machine.specs.Fits.{History as Run}
use Rattle.machine.specs.Laws.{GoesWhereAimed, RefusesElsewhere}
use Rattle.machine.specs.Machine.{Made}
use Rattle.machine.specs.Stamps.{KeepsStamps}
use Rattle.machine.specs.State.{Machine}
use Rattle.machine.specs.Turns.{Runs, Turn}
use Rattle.machine.proofs.Fitting.{turns-fit}
use Rattle.machine.proofs.Moves.{Moved, entries_of, moves}
use Rattle.hall.specs.Alone.{Continues, is_read}
use Rattle.hall.specs.Covered.{WasThere}
use Rattle.hall.specs.Good.{Is}
use Rattle.hall.specs.Held.{Hall}
use Rattle.hall.specs.Placed.{hall_places}
use Rattle.hall.specs.Steps.{IsTrusted}
use Rattle.hall.proofs.Exact.{read_contents}
use Rattle.hall.proofs.Remaining.{bytes_stay, had_before, had_now}
use Rattle.hall_turns.proofs.Alones.{IsKnown}
use Rattle.crew.specs.Ran.{Began, EachFits, Ran, RanFrom, ReadExactly, Turned, began}
use Rattle.crew.proofs.Turning.{alike, keeps, one_turn, same_began, turned}

-- ---- a step with the machine's own bytes

module _ (trusted : Type 0) (actor n : ℕ) (old new : Machine) where
  own_bytes : (deed : Deed) (seen : ℕ → List ℕ) (next : Machine) → seen ≡ old.contents → Made hall_places actor (event n deed) (with_contents seen old) next → new ≡ next → Made hall_places actor (event n deed) old new
  own_bytes deed seen next same made left =
      subst (λ (m : Machine). Made hall_places actor (event n deed) old m) (sym left) (subst (λ c. Made hall_places actor (event n deed) (with_contents c old) next) same made)

  -- the store is trusted, or the step reads nothing
  abbrev IsSure : Deed → Type 0
  IsSure deed = trusted ⊎ (is_read deed ≡ false)

  exactly : (deed : Deed) → IsSure deed → Moves trusted hall_places actor (event n deed) old new → Made hall_places actor (event n deed) old new
  exactly (OpenNew pool size prefer answer) sure m = own_bytes (OpenNew pool size prefer answer) m.seen m.next m.bytes m.made m.left
  exactly (OpenCopy object aim avoid answer) sure m = own_bytes (OpenCopy object aim avoid answer) m.seen m.next m.bytes m.made m.left
  exactly (WritePiece ticket bytes answer) sure m = own_bytes (WritePiece ticket bytes answer) m.seen m.next m.bytes m.made m.left
  exactly (CopyPiece ticket answer) sure m = own_bytes (CopyPiece ticket answer) m.seen m.next m.bytes m.made m.left
  exactly (Seal ticket answer) sure m = own_bytes (Seal ticket answer) m.seen m.next m.bytes m.made m.left
  exactly (Commit asked tickets answer) sure m = own_bytes (Commit asked tickets answer) m.seen m.next m.bytes m.made m.left
  exactly (DropTicket ticket answer) sure m = own_bytes (DropTicket ticket answer) m.seen m.next m.bytes m.made m.left
  exactly (ReadPiece object kept from offset wanted answer) (inl t) m =
      let same : m.seen ≡ old.contents = m.bytes t in
      let stays : m.next.contents ≡ old.contents = read_contents actor object kept from offset wanted (with_contents m.seen old) m.next answer m.made.step ∙ same in
      own_bytes (ReadPiece object kept from offset wanted answer) m.seen m.next same m.made (m.left ∙ ap (λ c. with_contents c m.next) (sym stays))
  exactly (ReadPiece object kept from offset wanted answer) (inr unread) m = absurd cc
  exactly (Ask query answer) sure m = own_bytes (Ask query answer) m.seen m.next m.bytes m.made m.left
  exactly (Image kind answer) sure m = own_bytes (Image kind answer) m.seen m.next m.bytes m.made m.left
  exactly (Reuse file answer) sure m = own_bytes (Reuse file answer) m.seen m.next m.bytes m.made m.left
  exactly (Force answer) sure m = own_bytes (Force answer) m.seen m.next m.bytes m.made m.left

-- ---- runs

abbrev AreSure : (trusted : Type 0) → List Turn → Type 0
AreSure trusted turns = AllByRecursion (λ t. trusted ⊎ (is_read t.did.deed ≡ false)) turns

all_known : (turns : List Turn) → AreSure (Unit {0}) turns
all_known [] = tt
all_known (t ∷ turns) = (inl tt, all_known turns)

none_read : (turns : List Turn) → AllByRecursion (λ t. is_read t.did.deed ≡ false) turns → AreSure ⊥ turns
none_read [] none = tt
none_read (t ∷ turns) none = (inr none.0, none_read turns none.1)

module _ {S : Type 0} (told : S → Option History) (moment : S → ℕ) (faults : S → ℕ → ℕ) (clock : (s : S) → IfSome (told s) (λ h. now h ≡ moment s)) where
  module _ (refuses : RefusesElsewhere hall_places) (aimed : GoesWhereAimed hall_places) where
    -- the machine's steps lead here, in every history that goes on from there
    abbrev Leads : List Turn → Machine → Machine → Type 0
    Leads turns m last = (w : Run) → Continues last w → Runs hall_places w m turns last × ((object : ℕ) → WasThere m.core object → w.contents object ≡ m.contents object)

    abbrev Ended : (trusted : Type 0) → List Turn → Hall S → Machine → Type 0
    Ended trusted turns new m =
        (last : Machine) × Turned trusted hall_places turns m last × Is told moment faults new last × IsKnown told moment faults trusted new × KeepsStamps m.core last.core × Leads turns m last

    -- one step more in front
    module _ (trusted : Type 0) (t : Turn) (turns : List Turn) (old new : Hall S) (m next : Machine) (is : Is told moment faults old m) (made : Made hall_places t.actor t.did m next) where
      in_front : (w : Run) → ((object : ℕ) → WasThere next.core object → w.contents object ≡ next.contents object) → (object : ℕ) → WasThere m.core object → w.contents object ≡ m.contents object
      in_front w later object had =
          let moved : Moved t.actor m.contents t.did.deed m.core next.core = moves hall_places aimed t.actor t.did.deed m next made.step in
          later object (had_before m.core next.core moved.base (entries_of t.actor moved.joined) moved.journal object had)
          ∙ bytes_stay m next object had is.good.numbers hall_places t.actor t.did.deed made.step

      more : (last : Machine) → Leads turns next last → Leads (t ∷ turns) m last
      more last rest = λ w goes.
          let back = rest w goes in
          let same : (object : ℕ) → WasThere m.core object → w.contents object ≡ m.contents object = in_front w back.1 in
          ((next, made, λ object there. same object (had_now m.core object there), back.0), same)

    nothing : (trusted : Type 0) (old new : Hall S) (m : Machine) → Is told moment faults old m → IsKnown told moment faults trusted old → new ≡ old → Ended trusted [] new m
    nothing trusted old new m is knows ran = (
      m,
      refl,
      subst (λ (h : Hall S). Is told moment faults h m) (sym ran) is,
      subst (λ (h : Hall S). IsKnown told moment faults trusted h) (sym ran) knows,
      ([], sym (append-nil m.core.stamps)),
      λ w goes. ((refl, λ object there. goes.bytes object (had_now m.core object there)), goes.bytes),
    )

    run : (trusted : Type 0) (turns : List Turn) (old new : Hall S) (m : Machine) → Is told moment faults old m → IsKnown told moment faults trusted old → AreSure trusted turns → Ran told moment faults turns old new
        → Ended trusted turns new m
    run trusted [] old new m is knows sure ran = nothing trusted old new m is knows ran
    run trusted (t ∷ turns) old new m is knows sure ran =
        let one = one_turn told moment faults clock trusted t old ran.0 m is knows ran.1 ran.2 ran.3 in
        let rest = run trusted turns ran.0 new one.0 one.2 one.3 sure.1 ran.4 in (
          rest.0,
          (one.0, one.1, rest.1),
          rest.2,
          rest.3,
          keeps told moment faults clock trusted m one.0 rest.0 one.4 rest.4,
          more trusted t turns old new m one.0 is (exactly trusted t.actor t.did.n m one.0 t.did.deed sure.0 one.1) rest.0 rest.5,
        )

    -- what leads somewhere fits, actor by actor
    fits : (turns : List Turn) (m last : Machine) → Leads turns m last → EachFits turns m last
    fits turns m last leads = λ w goes actor reached l. turns-fit hall_places refuses aimed w actor reached m last turns (leads w goes).0 goes.begins l

    either_run : (turns : List Turn) (old new : Hall S) (m : Machine) → Is told moment faults old m → ReadExactly (IsTrusted (told old.store) old.held) turns → Ran told moment faults turns old new
        → (last : Machine) × Is told moment faults new last × EachFits turns m last
    either_run turns old new m is (inl trusted) ran =
        let ended = run (Unit {0}) turns old new m is (λ t. trusted) (all_known turns) ran in
        (ended.0, ended.2, fits turns m ended.0 ended.5)
    either_run turns old new m is (inr none) ran =
        let ended = run ⊥ turns old new m is (λ t. absurd t) (none_read turns none) ran in
        (ended.0, ended.2, fits turns m ended.0 ended.5)

    pub block_fits : (turns : List Turn) (hall new : Hall S) (m : Machine) → Is told moment faults hall m → ReadExactly (IsTrusted (told hall.store) hall.held) turns
        → RanFrom told moment faults (Some (began told moment faults hall)) turns new → (last : Machine) × Is told moment faults new last × EachFits turns m last
    block_fits turns hall new m is exact from =
        let same : began told moment faults hall ≡ began told moment faults from.0 = same_began told moment faults hall from.0 from.1 in
        either_run turns from.0 new m (alike told moment faults hall from.0 m same is) (subst (λ (b : Began). ReadExactly (IsTrusted b.told b.held) turns) same exact) from.2

    -- over a store that is trusted
    pub exact_turns : (turns : List Turn) (hall new : Hall S) (m : Machine) → Is told moment faults hall m → IsTrusted (told hall.store) hall.held → RanFrom told moment faults (Some (began told moment faults hall)) turns new
        → (last : Machine) × Turned (Unit {0}) hall_places turns m last × Is told moment faults new last × IsTrusted (told new.store) new.held × KeepsStamps m.core last.core × EachFits turns m last
    exact_turns turns hall new m is trusted from =
        let same : began told moment faults hall ≡ began told moment faults from.0 = same_began told moment faults hall from.0 from.1 in
        let ended = run (Unit {0}) turns from.0 new m (alike told moment faults hall from.0 m same is) (λ t. subst (λ (b : Began). IsTrusted b.told b.held) same trusted) (all_known turns) from.2 in
        (ended.0, ended.1, ended.2, ended.3 tt, ended.4, fits turns m ended.0 ended.5)

  -- the steps of a block leave a trusted store so
  pub stays_trusted : (turns : List Turn) (hall new : Hall S) (m : Machine) → Is told moment faults hall m → IsTrusted (told hall.store) hall.held
      → RanFrom told moment faults (Some (began told moment faults hall)) turns new → IsTrusted (told new.store) new.held
  stays_trusted turns hall new m is trusted from = (turned told moment faults clock (Unit {0}) turns hall new m is (λ t. trusted) from).3 tt
