-- A job is run.
use Rattle.std.proofs.Common.{◌≡◌, ℕ, List, ◌++◌, length, take, drop, Option, refl, subst, sym}
use Rattle.client_trees.specs.Files.{Files}
use Rattle.script_loop.proofs.Ranges.{written_back}
use Rattle.script_loop.specs.declared.ends.Halt.{Halt}
use Rattle.steps.proofs.Joining.{so_call}
use Rattle.steps.specs.Calls.{Call}
use Rattle.steps.specs.Events.{Event}
use Rattle.command_steps.specs.Clients.{all_seen}
use Rattle.line_jobs.specs.Jobs.{Did, DoesLines, Job, lines_of}
use Rattle.line_jobs.specs.declared.job.Said.{Said}
use Rattle.line_jobs.specs.declared.lent.Lent.{Lent}

-- what was done on a slice that a vector lent was done on the vector's elements
pub lent_out : {A : Type 0} (Q : List A → List A → Type 0) (n : ℕ) (was old new : List A) → was ≡ old → length new ≡ n → Q was new → Q old (take n (new ++ drop (length new) old))
lent_out Q n was old new same size done = subst (Q old) (sym (written_back n new old size)) (subst (λ l. Q l new) same done)

pub ran : {S T : Type 0} (did : S → List Event → S → Type 0) (p q : S) (files : Lent T → Option Files) (faults : Lent T → ℕ) (inside now : Job T) → inside ≡ now → (was new : List (Lent T)) (n : ℕ) → was ≡ inside.trees
    → length new ≡ n → (said : List Said) (ended : Option Halt)
    → Call did p q (λ events. (more : List Said) × (said ≡ inside.said ++ more) × DoesLines inside.choice (lines_of inside.lines inside.job inside.lines) (all_seen files faults was) events more ended (all_seen files faults new))
    → Call did p q (λ events. Did files faults now events (record { choice = inside.choice; lines = inside.lines; job = inside.job; trees = take n (new ++ drop (length new) inside.trees); said = said; ended = ended }))
ran {S} {T} did p q files faults inside now same was new n is size said ended a =
    let after : Job T = record { choice = inside.choice; lines = inside.lines; job = inside.job; trees = take n (new ++ drop (length new) inside.trees); said = said; ended = ended } in
    so_call did (λ events. (more : List Said) × (said ≡ inside.said ++ more) × DoesLines inside.choice (lines_of inside.lines inside.job inside.lines) (all_seen files faults was) events more ended (all_seen files faults new))
    (λ events. Did files faults now events after) p q a
    (λ xs h. subst (λ (j : Job T). Did files faults j xs after) same (
      refl,
      refl,
      refl,
      h.0,
      h.1,
      lent_out (λ a b. DoesLines inside.choice (lines_of inside.lines inside.job inside.lines) (all_seen files faults a) xs h.0 ended (all_seen files faults b)) n was inside.trees new is size h.2,
    ))
