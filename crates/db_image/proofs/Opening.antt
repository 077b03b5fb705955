-- An image's gate is opened.
use Rattle.std.proofs.Common.{◌≡◌, inr, ℕ, List, [], ◌∷◌, length, Option, Some, None, Result, Ok, Err, OnOk, subst, sym, ◌∙◌, arith}
use Rattle.store_api.specs.declared.store.Failed.{Failed}
use Rattle.store_api.specs.Disk.{History, standing}
use Rattle.store_api.specs.Runs.{WroteSynced, WroteWithin}
use Rattle.store_api.specs.Told.{Told}
use Rattle.store_api.proofs.Pieces.{firm_join}
use Rattle.store_api.proofs.Runs.{goes_none}
use Rattle.store_api.proofs.Ranges.{wrote_none}
use Rattle.db_image.specs.declared.mark.Mark.{Mark}
use Rattle.db_image.specs.declared.phase.Phase.{Phase}
use Rattle.db_image.specs.declared.phase.Phase.TheVariants.{Begun, Open, Durable, Failed as Stuck}
use Rattle.db_image.specs.Images.{body_bytes}
use Rattle.db_image.specs.Steps.{Job, from_of, most_of, Underway, UnderwayAs, IsWriting, Started, Opened, Stepped, at_phase}
use Rattle.db_image.proofs.Gates.{gate_or_shut}

-- an image as its writer has it
abbrev pub as_job : ℕ → Mark → ℕ → List ℕ → Phase → Job
as_job file mark number payload phase = record { file = file; mark = mark; number = number; payload = payload; phase = phase }

module _ (job : Job) where
  pub opened : {T U : Type 0} (answer : T) (done : U) (old new : History) → (let first : Result U Failed = Ok done in WroteSynced job.file 0 (1 ∷ []) first old new) → (let result : Result T Failed = Ok answer in Opened job (at_phase Open job) result old new)
  opened answer done old new wrote = record {
    goes = wrote.within.goes;
    within = wrote.within;
    underway = λ under. firm_join (standing new job.file) 0 (1 ∷ []) (body_bytes job.mark job.number job.payload) (wrote.firm (omega arith)) (wrote.within.firm 1 (body_bytes job.mark job.number job.payload) (inr (omega arith)) under.1);
    opening = λ under. gate_or_shut job.file old new (body_bytes job.mark job.number job.payload) wrote.within (λ some. under.1);
  }

  pub not_opened : {T U : Type 0} (failed again : Failed) (old new : History) → (let first : Result U Failed = Err failed in WroteSynced job.file 0 (1 ∷ []) first old new) → (let result : Result T Failed = Err again in Opened job (at_phase Stuck job) result old new)
  not_opened failed again old new wrote = record {
    goes = wrote.within.goes;
    within = wrote.within;
    underway = tt;
    opening = λ under. gate_or_shut job.file old new (body_bytes job.mark job.number job.payload) wrote.within (λ some. under.1);
  }

  -- that was the step of an image that was durable
  pub opening_step : {T : Type 0} (next : Job) (result : Result T Failed) (old new : History) → job.phase ≡ Durable → Opened job next result old new → Stepped job next result old new
  opening_step next result old new is opening = record {
    goes = opening.goes;
    within = subst (λ p. WroteWithin job.file (from_of p) (most_of p (length job.payload)) old new) (sym is) opening.within;
    underway = on_ok result (λ f under. f (subst (λ p. UnderwayAs p job old) is under)) opening.underway;
    shut = λ writing. absurd (subst IsWriting is writing);
    older = λ begun. absurd (let other : Begun ≡ Durable = sym begun ∙ is in cc);
    opening = λ durable under. opening.opening (subst (λ p. UnderwayAs p job old) is under);
  }
    where
      on_ok : {T : Type 0} (r : Result T Failed) {P Q : Type 0} → (P → Q) → OnOk r P → OnOk r Q
      on_ok (Ok d) f p = f p
      on_ok (Err e) f p = tt

  -- the first step
  pub starting_step : {T : Type 0} (next : Job) (result : Result T Failed) (old new : History) → job.phase ≡ Begun → Started job next result old new → Stepped job next result old new
  starting_step next result old new is started = record {
    goes = started.goes;
    within = subst (λ p. WroteWithin job.file (from_of p) (most_of p (length job.payload)) old new) (sym is) started.within;
    underway = on_ok result (λ f under. f (subst (λ p. UnderwayAs p job old) is under)) started.underway;
    shut = λ writing. started.shut;
    older = λ begun. started.older;
    opening = λ durable. absurd (let other : Durable ≡ Begun = sym durable ∙ is in cc);
  }
    where
      on_ok : {T : Type 0} (r : Result T Failed) {P Q : Type 0} → (P → Q) → OnOk r P → OnOk r Q
      on_ok (Ok d) f p = f p
      on_ok (Err e) f p = tt

  -- the gate is open, or a call failed earlier: nothing is done
  idle_step : {T : Type 0} (result : Result T Failed) (h : History) → (IsWriting job.phase → ⊥) → (job.phase ≡ Begun → ⊥) → (job.phase ≡ Durable → ⊥) → OnOk result (Underway job h → Underway job h) → Stepped job job result h h
  idle_step result h writing begun durable under = record {
    goes = goes_none (λ other. other ≡ job.file) h;
    within = wrote_none job.file (from_of job.phase) (most_of job.phase (length job.payload)) h;
    underway = under;
    shut = λ is. absurd (writing is);
    older = λ is. absurd (begun is);
    opening = λ is. absurd (durable is);
  }

  pub open_step : {T : Type 0} (x : Option History) (answer : T) → job.phase ≡ Open → Told x x (λ old new. let result : Result T Failed = Ok answer in Stepped job job result old new)
  open_step None answer is = tt
  open_step (Some h) answer is = idle_step (Ok answer) h (λ writing. absurd (subst IsWriting is writing)) (λ begun. (let other : Begun ≡ Open = sym begun ∙ is in cc)) (λ durable. (let other : Durable ≡ Open = sym durable ∙ is in cc)) (λ under. under)

  pub stuck_step : (T : Type 0) (x : Option History) (failed : Failed) → job.phase ≡ Stuck → Told x x (λ old new. let result : Result T Failed = Err failed in Stepped job job result old new)
  stuck_step T None failed is = tt
  stuck_step T (Some h) failed is = idle_step {T = T} (Err failed) h (λ writing. absurd (subst IsWriting is writing)) (λ begun. (let other : Begun ≡ Stuck = sym begun ∙ is in cc)) (λ durable. (let other : Durable ≡ Stuck = sym durable ∙ is in cc)) tt
