-- A run of one actor on a hall is a run of the machine by this actor alone.
use Rattle.std.proofs.Common.{◌≡◌, ℕ, List, [], ◌∷◌, Option, refl, sym, ap, subst, ◌∙◌}
use Rattle.std.specs.Prelude.{IfSome}
use Rattle.store_api.specs.Disk.{History, now}
use Rattle.store_api.specs.Runs.{GoesOn}
use Rattle.store_api.specs.Told.{Told}
use Rattle.store_api.proofs.Runs.{goes_none, goes_then, told_then}
use Rattle.vault.proofs.of_log_file.Told.{told_same}
use Rattle.inventory_rows.specs.State.{Inv}
use Rattle.steps.specs.Events.{Deed, Event}
use Rattle.steps.specs.Events.Deed.{OpenNew, OpenCopy, WritePiece, CopyPiece, Seal, Commit, DropTicket, ReadPiece, Ask, Image, Reuse, Force}
use Rattle.machine.specs.Alone.{Alone, AreBytes, Moves, behind}
use Rattle.machine.specs.State.{Machine}
use Rattle.hall.specs.Alone.{Ran}
use Rattle.hall.specs.Good.{Is}
use Rattle.hall.specs.Held.{Hall}
use Rattle.hall.specs.Placed.{hall_places}
use Rattle.hall.specs.Steps.{IsTrusted, Steps}
use Rattle.hall.proofs.Exact.{still_trusted}

-- what is so where the store is trusted is so under any premise by which it is
as_bytes : (known trusted : Type 0) → (trusted → known) → (deed : Deed) (contents seen : ℕ → List ℕ) → AreBytes known deed contents seen → AreBytes trusted deed contents seen
as_bytes known trusted knows (OpenNew pool size prefer answer) contents seen is = is
as_bytes known trusted knows (OpenCopy object aim avoid answer) contents seen is = is
as_bytes known trusted knows (WritePiece ticket bytes answer) contents seen is = is
as_bytes known trusted knows (CopyPiece ticket answer) contents seen is = is
as_bytes known trusted knows (Seal ticket answer) contents seen is = is
as_bytes known trusted knows (Commit asked tickets answer) contents seen is = is
as_bytes known trusted knows (DropTicket ticket answer) contents seen is = is
as_bytes known trusted knows (ReadPiece object kept from offset wanted answer) contents seen is = λ t. is (knows t)
as_bytes known trusted knows (Ask query answer) contents seen is = is
as_bytes known trusted knows (Image kind answer) contents seen is = is
as_bytes known trusted knows (Reuse file answer) contents seen is = is
as_bytes known trusted knows (Force answer) contents seen is = is

module _ {S : Type 0} (told : S → Option History) (moment : S → ℕ) (faults : S → ℕ → ℕ) where
  abbrev pub IsKnown : Type 0 → Hall S → Type 0
  IsKnown trusted hall = trusted → IsTrusted (told hall.store) hall.held

  one : (trusted : Type 0) (actor : ℕ) (e : Event) (old next : Hall S) (m : Machine) → Is told moment faults old m → IsKnown trusted old → e.n ≡ old.held.vault.database.number
      → Steps told moment faults actor e.deed old next → (after : Machine) × Moves trusted hall_places actor e m after × Is told moment faults next after
  one trusted actor e old next m is knows number step =
      let r = step m is in (
        behind e.deed m.contents r.1,
        record {
          seen = r.0;
          next = r.1;
          bytes = as_bytes (IsTrusted (told old.store) old.held) trusted knows e.deed m.contents r.0 r.2;
          made = record { number = number ∙ ap (λ (v : Inv). v.number) is.core.database; later = r.3.later; step = r.3.step };
          left = refl;
        },
        r.4,
      )

  pub alone : (clock : (s : S) → IfSome (told s) (λ h. now h ≡ moment s)) (trusted : Type 0) (actor : ℕ) (events : List Event) (old new : Hall S) (m : Machine) → Is told moment faults old m
      → IsKnown trusted old → Ran told moment faults actor events old new
      → (last : Machine) × Alone trusted hall_places actor events m last × Is told moment faults new last × IsKnown trusted new
  alone clock trusted actor [] old new m is knows ran =
      (m, refl, subst (λ (h : Hall S). Is told moment faults h m) (sym ran) is, subst (λ (h : Hall S). IsKnown trusted h) (sym ran) knows)
  alone clock trusted actor (e ∷ events) old new m is knows ran =
      let first = one trusted actor e old ran.0 m is knows ran.1 ran.2 in
      let rest = alone clock trusted actor events ran.0 new first.0 first.2 (λ t. still_trusted told moment faults clock old ran.0 m is (knows t) ran.3) ran.4 in
      (rest.0, (first.0, first.1, rest.1), rest.2, rest.3)

  -- the store of the one goes on from what the other's told
  abbrev pub Onward : Hall S → Hall S → Type 0
  Onward old new = (new.held.base ≡ old.held.base) × (new.held.opened ≡ old.held.opened) × Told (told old.store) (told new.store) (GoesOn (λ file. Unit {0}))

  pub onward_then : (a b c : Hall S) → Onward a b → Onward b c → Onward a c
  onward_then a b c first second = (
    second.0 ∙ first.0,
    second.1 ∙ first.1,
    told_then (told a.store) (told b.store) (told c.store) (GoesOn (λ file. Unit {0})) (GoesOn (λ file. Unit {0})) (GoesOn (λ file. Unit {0})) (λ x y z one two. goes_then (λ file. Unit {0}) x y z one two) first.2 second.2,
  )

  pub onward_here : (a : Hall S) → Onward a a
  onward_here a = (refl, refl, told_same (told a.store) (GoesOn (λ file. Unit {0})) (goes_none (λ file. Unit {0})))

  pub goes : (actor : ℕ) (events : List Event) (old new : Hall S) → Ran told moment faults actor events old new → Onward old new
  goes actor [] old new ran = subst (λ (h : Hall S). Onward old h) (sym ran) (onward_here old)
  goes actor (e ∷ events) old new ran = onward_then old ran.0 new (ran.3.base, ran.3.opened, ran.3.files) (goes actor events ran.0 new ran.4)
