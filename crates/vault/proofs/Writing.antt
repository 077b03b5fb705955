-- The payload of the next image is written.
use Rattle.std.proofs.Common.{◌≡◌, ◌⊎◌, inl, inr, ℕ, ◌+◌, ◌*◌, ◌<◌, ◌≤◌, ◌^◌, List, [], ◌∷◌, length, Result, Ok, Err, refl, sym, ◌∙◌, ap, subst, arith}
use Rattle.std.proofs.lemmas.Bool.{cases_lt, lt-leb, le-leb}
use Rattle.store_api.specs.declared.store.Failed.{Failed}
use Rattle.store_api.specs.Cause.{Rose}
use Rattle.store_api.specs.Disk.{History, standing, now, ImageAt}
use Rattle.store_api.specs.Runs.{GoesOn}
use Rattle.store_api.proofs.Runs.{goes_none, goes_then, now_image}
use Rattle.log_file.specs.Blocks.{IsClosed}
use Rattle.db_image.specs.declared.phase.Phase.{Phase}
use Rattle.db_image.specs.declared.phase.Phase.TheVariants.{Begun, Written, Durable, Open, Failed as Stuck}
use Rattle.db_image.specs.Steps.{Job, FirmShut, KeepsShut, IsWriting, Stepped, at_phase, further}
use Rattle.store_api.proofs.Standings.{leaves_firm}
use Rattle.db_image.proofs.Gates.{is_shut, keeps_then}
use Rattle.vault.specs.Images.{Went, IsPaced, left_of}

-- an image was written on, up to here
abbrev pub OnWay : Job → Job → History → History → Type 0
OnWay job next old new = let done : Result (Unit {0}) Failed = Ok tt in Went job next done old new

-- a gate that was shut for good is shut in each image of now
shut_now : (file : ℕ) (h : History) (moment : ℕ) (image : ℕ → List ℕ) → FirmShut (standing h file) → now h ≤ moment → moment ≤ now h → ImageAt h moment image → IsClosed (image file)
shut_now file h moment image shut from to here =
    is_shut (image file) shut.gate shut.closed (leaves_firm (standing h file) (image file) 0 (shut.gate ∷ []) (now_image h image (subst (λ m. ImageAt h m image) (let e : moment ≡ now h = omega (arith, from, to) in e) here) file) shut.firm)

-- nothing was done yet
pub not_begun : (job : Job) (h : History) → OnWay job job h h
not_begun job h = record { goes = goes_none (λ file. file ≡ job.file) h; underway = λ under. under; shut = λ shut. (shut, λ moment image from to here. shut_now job.file h moment image shut from to here) }

module _ (job mid_job next : Job) (here : mid_job.file ≡ job.file) (writing : IsWriting mid_job.phase) (old mid new : History) (went : OnWay job mid_job old mid) where
  goes_on : GoesOn (λ file. file ≡ mid_job.file) mid new → GoesOn (λ file. file ≡ job.file) mid new
  goes_on goes = subst (λ (n : ℕ). GoesOn (λ file. file ≡ n) mid new) here goes

  -- one step more
  pub went_ok : {T : Type 0} (answer : T) → (let result : Result T Failed = Ok answer in Stepped mid_job next result mid new) → OnWay job next old new
  went_ok answer step = record {
    goes = goes_then (λ file. file ≡ job.file) old mid new went.goes (goes_on step.goes);
    underway = λ under. step.underway (went.underway under);
    shut = keeps_then job.file old mid new (goes_on step.goes) went.shut (subst (λ (n : ℕ). KeepsShut n mid new) here (step.shut writing));
  }

  -- a step that failed
  pub went_err : {T : Type 0} (failed again : Failed) → (let result : Result T Failed = Err failed in Stepped mid_job next result mid new) → (let last : Result (Unit {0}) Failed = Err again in Went job next last old new)
  went_err failed again step = record {
    goes = goes_then (λ file. file ≡ job.file) old mid new went.goes (goes_on step.goes);
    underway = tt;
    shut = keeps_then job.file old mid new (goes_on step.goes) went.shut (subst (λ (n : ℕ). KeepsShut n mid new) here (step.shut writing));
  }

-- the payload is being written
pub paced_writing : (phase : Phase) (len began moment : ℕ) → IsPaced phase len began moment → (phase ≡ Durable → ⊥) → IsWriting phase
paced_writing Begun len began moment paced not = tt
paced_writing (Written done) len began moment paced not = tt
paced_writing Durable len began moment paced not = absurd (not refl)
paced_writing Open len began moment paced not = absurd paced
paced_writing Stuck len began moment paced not = absurd paced

-- one step more keeps the pace, and comes nearer
pub paced_on : (phase : Phase) (len began moment later : ℕ) → IsPaced phase len began moment → (phase ≡ Durable → ⊥) → later ≤ moment + 6 → IsPaced (further phase len) len began later × (left_of (further phase len) len < left_of phase len)
paced_on Begun len began moment later paced not le = absurd paced
paced_on (Written done) len began moment later paced not le =
    let le : later ≤ moment + 6 = le in
    let within : done ≤ len = paced.0 in
    let pace : 8192 * moment ≤ 8192 * began + done = paced.1 in
    elim (cases_lt (done + 65536) len) [
      | inl more ↦ rw (lt-leb len (done + 65536) more) ((omega (arith, more), omega (arith, pace, le)), omega (arith, more))
      | inr last ↦ rw (le-leb len (done + 65536) last) (omega (arith, pace, le, within), omega arith)
    ]
paced_on Durable len began moment later paced not le = absurd (not refl)
paced_on Open len began moment later paced not le = absurd paced
paced_on Stuck len began moment later paced not le = absurd paced

-- how many calls were made at most
pub paced_time : (phase : Phase) (len began moment : ℕ) → IsPaced phase len began moment → len < 2 ^ 36 → moment ≤ began + 8388616
paced_time Begun len began moment paced short = absurd paced
paced_time (Written done) len began moment paced short =
    let within : done ≤ len = paced.0 in
    let pace : 8192 * moment ≤ 8192 * began + done = paced.1 in
    omega (arith, pace, within, short)
paced_time Durable len began moment paced short = let pace : 8192 * moment ≤ 8192 * began + (len + 65536) = paced in omega (arith, pace, short)
paced_time Open len began moment paced short = absurd paced
paced_time Stuck len began moment paced short = absurd paced

-- a failed call on the image's file
pub paced_rose : (phase : Phase) (len began moment before mid after : ℕ) → IsPaced phase len began moment → before ≤ mid → (phase ≡ Stuck) ⊎ Rose mid after → Rose before after
paced_rose phase len began moment before mid after paced le (inl stuck) = absurd (subst (λ (p : Phase). IsPaced p len began moment) stuck paced)
paced_rose phase len began moment before mid after paced le (inr rose) = omega (arith, le, rose)

-- the image after a step
pub same_step : (first mid next : Job) → mid ≡ at_phase mid.phase first → next ≡ at_phase (further mid.phase (length mid.payload)) mid → (next ≡ at_phase next.phase first) × (next.phase ≡ further mid.phase (length first.payload))
same_step first mid next same e =
    let lens : length mid.payload ≡ length first.payload = ap (λ (j : Job). length j.payload) same in
    let phases : next.phase ≡ further mid.phase (length mid.payload) = ap (λ (j : Job). j.phase) e in (
      e ∙ ap (λ (j : Job). at_phase (further mid.phase (length mid.payload)) j) same ∙ ap (λ (p : Phase). at_phase p first) (sym phases),
      phases ∙ ap (λ (n : ℕ). further mid.phase n) lens,
    )

pub same_at : (first next : Job) (phase : Phase) → next ≡ at_phase phase first → next ≡ at_phase next.phase first
same_at first next phase e = e ∙ ap (λ (p : Phase). at_phase p first) (sym (ap (λ (j : Job). j.phase) e))
