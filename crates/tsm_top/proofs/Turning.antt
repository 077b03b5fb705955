-- What a run of several actors' turns adds to the journal is theirs.
use Rattle.std.proofs.Common.{◌≡◌, ◌∙◌, ℕ, ◌≤◌, ◌<◌, Option, None, Some, List, [], ◌∷◌, ◌++◌, ap, sym, append_assoc, append-nil}
use Rattle.std.specs.List.{AllByRecursion}
use Rattle.entries.specs.declared.change.Change.{Change}
use Rattle.entries.specs.declared.entry.Entry.{Entry}
use Rattle.machine.specs.State.{Machine}
use Rattle.machine.specs.Turns.{Turn}
use Rattle.machine.proofs.Moves.{entries_of}
use Rattle.hall.specs.Placed.{hall_places}
use Rattle.hall.proofs.Apart.{both_joined}
use Rattle.hall.proofs.Spots.{goes_where_aimed}
use Rattle.crew.specs.Knowing.{IsWithin}
use Rattle.crew.specs.Ran.{Turned}
use Rattle.block_results.specs.line_results.Resting.{Adds}
use Rattle.block_results.proofs.BySteps.{step-adds}
use Rattle.tsm_top.specs.Stands.{IsBy}

by_actor : (least most actor : ℕ) (joined : Option Change) → least ≤ actor → actor < most → AllByRecursion (IsBy least most) (entries_of actor joined)
by_actor least most actor None low high = tt
by_actor least most actor (Some c) low high = ((low, high), tt)

-- the transactions of a run of turns stand behind those that were there, and each is of an actor that made one of the turns
pub jobs_add : (trusted : Type 0) (least most : ℕ) (turns : List Turn) (old new : Machine) → Turned trusted hall_places turns old new → AllByRecursion (IsWithin least most) turns
    → (added : List Entry) × Adds added old new × AllByRecursion (IsBy least most) added
jobs_add trusted least most [] old new is within =
    ([], record { base = ap (λ (m : Machine). m.core.base) is; journal = ap (λ (m : Machine). m.core.journal) is ∙ sym (append-nil old.core.journal) }, tt)
jobs_add trusted least most (t ∷ turns) old new (next, did, rest) (within, others) =
    let one = step-adds trusted hall_places goes_where_aimed t.actor t.did old next did in
    let more = jobs_add trusted least most turns next new rest others in
    let first : List Entry = entries_of t.actor one.0 in (
      first ++ more.0,
      record {
        base = more.1.base ∙ one.1;
        journal = more.1.journal ∙ ap (λ (l : List Entry). l ++ more.0) one.2 ∙ append_assoc old.core.journal first more.0;
      },
      both_joined (IsBy least most) first more.0 (by_actor least most t.actor one.0 within.0 within.1) more.2,
    )
