-- What was done in a block is a run of the machine, turn by turn.
use Rattle.std.proofs.Common.{◌≡◌, ℕ, List, [], ◌∷◌, ◌++◌, Option, Some, refl, sym, ap, subst, ◌∙◌, append_assoc}
use Rattle.std.specs.Prelude.{IfSome}
use Rattle.std.proofs.lemmas.List.{append-nil}
use Rattle.store_api.specs.Disk.{History, now}
use Rattle.store_api.specs.Runs.{GoesOn}
use Rattle.store_api.specs.Told.{Told}
use Rattle.machine.specs.Alone.{Moves}
use Rattle.machine.specs.Stamps.{KeepsStamps}
use Rattle.machine.specs.State.{Machine}
use Rattle.machine.specs.Turns.{Turn}
use Rattle.machine.proofs.Stamps.{alone-stamps}
use Rattle.hall.specs.Good.{Is, IsGood}
use Rattle.hall.specs.Held.{Hall, IsCore}
use Rattle.hall.specs.Placed.{hall_places}
use Rattle.hall.specs.Steps.{Goes, IsTrusted, Steps}
use Rattle.hall_turns.proofs.Alones.{IsKnown, Onward, alone, goes, onward_here, onward_then}
use Rattle.crew.specs.Ran.{Began, Ran, RanFrom, Turned, began}

some_from : (b c : Began) → Some b ≡ Some c → b ≡ c
some_from b c is = cc is

module _ {S : Type 0} (told : S → Option History) (moment : S → ℕ) (faults : S → ℕ → ℕ) where
  -- ---- a hall with the same in it over a store that tells the same

  pub same_began : (hall other : Hall S) → Some (began told moment faults hall) ≡ Some (began told moment faults other) → began told moment faults hall ≡ began told moment faults other
  same_began hall other is = some_from (began told moment faults hall) (began told moment faults other) is

  pub alike : (hall other : Hall S) (m : Machine) → began told moment faults hall ≡ began told moment faults other → Is told moment faults hall m → Is told moment faults other m
  alike hall other m same is = record {
    core = subst (λ (b : Began). IsCore b.held m.core) same is.core;
    clock = is.clock ∙ ap (λ (b : Began). b.moment) same;
    counts = is.counts ∙ ap (λ (b : Began). b.faults) same;
    good = subst (λ (b : Began). IsGood b.told m b.held) same is.good;
  }

  -- ---- the machine

  module _ (clock : (s : S) → IfSome (told s) (λ h. now h ≡ moment s)) (trusted : Type 0) where
    -- one turn
    pub one_turn : (t : Turn) (old next : Hall S) (m : Machine) → Is told moment faults old m → IsKnown told moment faults trusted old → t.did.n ≡ old.held.vault.database.number
        → Steps told moment faults t.actor t.did.deed old next → Goes told old next
        → (after : Machine) × Moves trusted hall_places t.actor t.did m after × Is told moment faults next after × IsKnown told moment faults trusted next × KeepsStamps m.core after.core
    one_turn t old next m is knows number steps went =
        let r = alone told moment faults clock trusted t.actor (t.did ∷ []) old next m is knows (next, number, steps, went, refl) in (
          r.0,
          subst (λ (n : Machine). Moves trusted hall_places t.actor t.did m n) (sym r.1.2) r.1.1,
          r.2,
          r.3,
          alone-stamps trusted hall_places t.actor (t.did ∷ []) m r.0 r.1,
        )

    abbrev Ended : List Turn → Hall S → Machine → Type 0
    Ended turns new m = (last : Machine) × Turned trusted hall_places turns m last × Is told moment faults new last × IsKnown told moment faults trusted new × KeepsStamps m.core last.core

    pub keeps : (a b c : Machine) → KeepsStamps a.core b.core → KeepsStamps b.core c.core → KeepsStamps a.core c.core
    keeps a b c first second = (first.0 ++ second.0, second.1 ∙ ap (λ (l : List ℕ). l ++ second.0) first.1 ∙ append_assoc a.core.stamps first.0 second.0)

    run : (turns : List Turn) (old new : Hall S) (m : Machine) → Is told moment faults old m → IsKnown told moment faults trusted old → Ran told moment faults turns old new → Ended turns new m
    run [] old new m is knows ran =
        (m, refl, subst (λ (h : Hall S). Is told moment faults h m) (sym ran) is, subst (λ (h : Hall S). IsKnown told moment faults trusted h) (sym ran) knows, ([], sym (append-nil m.core.stamps)))
    run (t ∷ turns) old new m is knows ran =
        let first = one_turn t old ran.0 m is knows ran.1 ran.2 ran.3 in
        let rest = run turns ran.0 new first.0 first.2 first.3 ran.4 in
        (rest.0, (first.0, first.1, rest.1), rest.2, rest.3, keeps m first.0 rest.0 first.4 rest.4)

    pub turned : (turns : List Turn) (hall new : Hall S) (m : Machine) → Is told moment faults hall m → (trusted → IsTrusted (told hall.store) hall.held) → RanFrom told moment faults (Some (began told moment faults hall)) turns new → Ended turns new m
    turned turns hall new m is knows from =
        let same : began told moment faults hall ≡ began told moment faults from.0 = same_began hall from.0 from.1 in
        run turns from.0 new m (alike hall from.0 m same is) (λ t. subst (λ (b : Began). IsTrusted b.told b.held) same (knows t)) from.2

  -- ---- the store

  went : (turns : List Turn) (old new : Hall S) → Ran told moment faults turns old new → Onward told moment faults old new
  went [] old new ran = subst (λ (h : Hall S). Onward told moment faults old h) (sym ran) (onward_here told moment faults old)
  went (t ∷ turns) old new ran =
      onward_then told moment faults old ran.0 new (goes told moment faults t.actor (t.did ∷ []) old ran.0 (ran.0, ran.1, ran.2, ran.3, refl)) (went turns ran.0 new ran.4)

  pub gone-on : (turns : List Turn) (hall new : Hall S) → RanFrom told moment faults (Some (began told moment faults hall)) turns new
      → (new.held.base ≡ hall.held.base) × (new.held.opened ≡ hall.held.opened) × Told (told hall.store) (told new.store) (GoesOn (λ file. Unit {0}))
  gone-on turns hall new from =
      let same : began told moment faults hall ≡ began told moment faults from.0 = same_began hall from.0 from.1 in
      subst (λ (b : Began). (new.held.base ≡ b.held.base) × (new.held.opened ≡ b.held.opened) × Told b.told (told new.store) (GoesOn (λ file. Unit {0}))) (sym same) (went turns from.0 new from.2)
