-- A commit that is refused, as a step of the machine.
use Rattle.std.proofs.Common.{◌≡◌, ◌⊎◌, inl, inr, ℕ, true, List, [], ◌++◌, Option, Some, None, Err, refl, sym, ap, ◌∙◌}
use Rattle.std.specs.Option.{option_map_or}
use Rattle.store_api.specs.Disk.{History}
use Rattle.kinds.specs.Refusals.{foremost, sooner_of}
use Rattle.kinds.specs.declared.refusal.Refusal.{Refusal}
use Rattle.kinds.specs.declared.refusal.Refusal.TheVariants as refusal
use Rattle.item_refusals.proofs.Foremost.{foremost_append}
use Rattle.steps.specs.Events.{is_listed}
use Rattle.steps.specs.Events.Deed.{Commit}
use Rattle.steps.specs.declared.asked.Asked.{Asked}
use Rattle.machine.specs.Causes.{commit_refused}
use Rattle.machine.specs.Machine.{asked_change, ended, held_refused}
use Rattle.machine.specs.State.{Machine, sight}
use Rattle.hall.specs.Commits.{commit_causes}
use Rattle.hall.specs.Good.{Is}
use Rattle.hall.specs.Held.{Hall, Held}
use Rattle.hall.specs.Seats.{ended_at}
use Rattle.hall.specs.Steps.{Steps}
use Rattle.hall.proofs.Deciding.{answered_own, causes_behind, own_listed}
use Rattle.hall.proofs.Dropping.{no_later}
use Rattle.hall.proofs.Ended.{ended_first, ended_has, ended_is, next_answers}
use Rattle.hall.proofs.Refusing.{commit_alike}

module _ {S : Type 0} (told : S → Option History) (moment : S → ℕ) (faults : S → ℕ → ℕ) (actor : ℕ) (a : Asked) (numbers : List ℕ) (hall : Hall S) where
  -- what is answered by the machine is what is answered over what the hall holds
  pub answered_alike : (m : Machine) → Is told moment faults hall m
      → foremost (ended m ++ (commit_refused actor a numbers (sight actor m.core) ++ option_map_or (λ x. held_refused x m.core) (asked_change actor a numbers m.core) []))
      ≡ foremost (ended_at (moment hall.store) hall.held ++ commit_causes actor a numbers hall.held)
  answered_alike m is =
      let rest : List Refusal = commit_refused actor a numbers (sight actor m.core) ++ option_map_or (λ x. held_refused x m.core) (asked_change actor a numbers m.core) [] in
      let full : ended m ≡ ended_at (moment hall.store) hall.held = ended_is (moment hall.store) hall.held m is.core is.clock in
      let same : foremost rest ≡ foremost (commit_causes actor a numbers hall.held) = commit_alike actor a numbers hall.held m.core is.core is.good.numbers.tickets in
      foremost_append (ended m) rest ∙ (λ i. sooner_of (foremost (full i)) (same i)) ∙ sym (foremost_append (ended_at (moment hall.store) hall.held) (commit_causes actor a numbers hall.held))

  refused_by : (e : Refusal) → foremost (ended_at (moment hall.store) hall.held ++ commit_causes actor a numbers hall.held) ≡ Some e → Steps told moment faults actor (Commit a numbers (Err e)) hall hall
  refused_by e at = λ m is.
      (m.contents, m, refl, record { number = refl; later = no_later m m.contents m refl refl; step = inl (inl (answered_alike m is ∙ at), record { core = refl; contents = refl }) }, is)

  -- the run is full, or a fault has halted the hall
  pub declines_ended : (e : Refusal) → foremost (ended_at (moment hall.store) hall.held) ≡ Some e → Steps told moment faults actor (Commit a numbers (Err e)) hall hall
  declines_ended e full = refused_by e (ended_first (moment hall.store) hall.held (commit_causes actor a numbers hall.held) e full (causes_behind actor a numbers hall.held))

  -- what is asked is refused, or memory is wanted
  pub declines : (e : Refusal) → foremost (ended_at (moment hall.store) hall.held) ≡ None → (e ≡ refusal.Memory) ⊎ (foremost (commit_causes actor a numbers hall.held) ≡ Some e)
      → Steps told moment faults actor (Commit a numbers (Err e)) hall hall
  declines e free (inl memory) = λ m is.
      (m.contents, m, refl, record { number = refl; later = no_later m m.contents m refl refl; step = inl (inr memory, record { core = refl; contents = refl }) }, is)
  declines e free (inr at) = refused_by e (next_answers (ended_at (moment hall.store) hall.held) (commit_causes actor a numbers hall.held) free ∙ at)

  -- nothing refuses it
  pub may_commit : foremost (ended_at (moment hall.store) hall.held) ≡ None → foremost (commit_causes actor a numbers hall.held) ≡ None → (m : Machine) → Is told moment faults hall m
      → foremost (ended m ++ (commit_refused actor a numbers (sight actor m.core) ++ option_map_or (λ x. held_refused x m.core) (asked_change actor a numbers m.core) [])) ≡ None
  may_commit free none m is = answered_alike m is ∙ next_answers (ended_at (moment hall.store) hall.held) (commit_causes actor a numbers hall.held) free ∙ none

-- ---- its refusals

memory_listed : (a : Asked) (numbers : List ℕ) (e : Refusal) → e ≡ refusal.Memory → is_listed (Commit a numbers (Err e)) ≡ true
unfolding is_listed
memory_listed a numbers e h = ap (λ x. is_listed (Commit a numbers (Err x))) h

pub declined_listed : (actor : ℕ) (a : Asked) (numbers : List ℕ) (h : Held) (e : Refusal) → (e ≡ refusal.Memory) ⊎ (foremost (commit_causes actor a numbers h) ≡ Some e) → is_listed (Commit a numbers (Err e)) ≡ true
declined_listed actor a numbers h e (inl memory) = memory_listed a numbers e memory
declined_listed actor a numbers h e (inr at) = own_listed a numbers e (answered_own actor a numbers h e at)

pub ended_listed : (a : Asked) (numbers : List ℕ) (moment : ℕ) (h : Held) (e : Refusal) → foremost (ended_at moment h) ≡ Some e → is_listed (Commit a numbers (Err e)) ≡ true
unfolding is_listed
ended_listed a numbers moment h e is = ended_has (λ x. is_listed (Commit a numbers (Err x)) ≡ true) refl (λ file count. refl) moment h e is
