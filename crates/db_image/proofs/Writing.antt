-- The payload of an image under the calls that write it.
use Rattle.std.proofs.Common.{◌≡◌, inl, inr, ℕ, ◌+◌, ◌-◌, ◌<◌, ◌≤◌, min, List, ◌++◌, length, take, drop, Result, Ok, Err, refl, sym, ◌∙◌, ap, subst, arith, append_assoc, length-append}
use Rattle.std.proofs.Math.Seq.{take-add}
use Rattle.std.proofs.lemmas.Bool.{cases_lt}
use Rattle.std.proofs.lemmas.List.{length-take, length-drop, take_all}
use Rattle.store_api.specs.declared.store.Failed.{Failed}
use Rattle.store_api.specs.Disk.{History, standing, reads}
use Rattle.store_api.specs.Runs.{Stands, Firm, Wrote, Synced, WroteWithin}
use Rattle.store_api.proofs.Runs.{goes_then}
use Rattle.store_api.proofs.Ranges.{wrote_then, wrote_nothing, wrote_part}
use Rattle.store_api.proofs.Pieces.{stands_join}
use Rattle.db_image.specs.declared.mark.Mark.{Mark}
use Rattle.db_image.specs.declared.mark.Mark.TheVariants.{Server, Backup}
use Rattle.db_image.specs.declared.phase.Phase.{Phase}
use Rattle.db_image.specs.declared.phase.Phase.TheVariants.{Written, Durable, Failed as Stuck}
use Rattle.db_image.specs.Images.{head_bytes}
use Rattle.db_image.specs.Steps.{Job, Put, KeepsShut}
use Rattle.db_image.proofs.Gates.{keeps_shut}

pub length-head_bytes : (mark : Mark) (number len : ℕ) → length (head_bytes mark number len) ≡ 23
unfolding head_bytes
length-head_bytes Server number len = refl
length-head_bytes Backup number len = refl

-- the payload up to one place, and what follows up to another
more_of : (payload : List ℕ) (done end : ℕ) → done ≤ end → take done payload ++ take (end - done) (drop done payload) ≡ take end payload
more_of payload done end le = sym (take-add done (end - done) payload) ∙ ap (λ n. take n payload) (let e : done + (end - done) ≡ end = omega arith in e)

-- a piece that was written behind what stands
stands_on : (bytes head payload : List ℕ) (done end : ℕ) → length head ≡ 23 → done ≤ end → end ≤ length payload → Stands bytes 1 (head ++ take done payload)
    → (0 < length (take (end - done) (drop done payload)) → Stands bytes (24 + done) (take (end - done) (drop done payload))) → Stands bytes 1 (head ++ take end payload)
stands_on bytes head payload done end long le fits before piece = elim (cases_lt done end) [
  | inl lt ↦ (
      let there = piece (omega (arith, lt, length-take (end - done) (drop done payload), length-drop done payload)) in
      let place : 24 + done ≡ 1 + length (head ++ take done payload) = omega (arith, long, length-append head (take done payload), length-take done payload) in
      subst (λ (l : List ℕ). Stands bytes 1 l) (append_assoc head (take done payload) (take (end - done) (drop done payload)) ∙ ap (λ (l : List ℕ). head ++ l) (more_of payload done end le))
      (stands_join bytes 1 (head ++ take done payload) (take (end - done) (drop done payload)) before (subst (λ n. Stands bytes n (take (end - done) (drop done payload))) place there)))
  | inr ge ↦ subst (λ n. Stands bytes 1 (head ++ take n payload)) (let e : done ≡ end = omega (arith, ge, le) in e) before
]

module _ (file number : ℕ) (mark : Mark) (payload : List ℕ) (phase : Phase) (done end : ℕ) where
  abbrev pub job : Phase → Job
  job p = record { file = file; mark = mark; number = number; payload = payload; phase = p }

  abbrev head : List ℕ
  head = head_bytes mark number (length payload)

  abbrev piece : List ℕ
  piece = take (end - done) (drop done payload)

  module _ (written : List ℕ) (is : written ≡ piece) (le : done ≤ end) (fits : end ≤ length payload) (few : end ≤ done + 65536) where
    written_long : length written ≡ end - done
    written_long = ap length is ∙ omega (arith, length-take (end - done) (drop done payload), length-drop done payload)

    -- no more than one piece is written
    in_range : (old new : History) → WroteWithin file (24 + done) (length written) old new → WroteWithin file (24 + done) (min 65536 (length payload - done)) old new
    in_range old new within = wrote_part file (24 + done) (length written) (24 + done) (min 65536 (length payload - done)) old new (omega arith) (omega (arith, written_long)) within

    -- the write failed
    pub put_failed : {T : Type 0} {U : Type 0} (failed again : Failed) (old new : History) → (let first : Result U Failed = Err failed in Wrote file (24 + done) written first old new) → (let result : Result T Failed = Err again in Put (job phase) (job Stuck) done result old new)
    put_failed failed again old new wrote = record { goes = wrote.within.goes; within = in_range old new wrote.within; underway = tt; shut = keeps_shut file (24 + done) (length written) old new (λ gate. inl (omega arith)) wrote.within }

    module _ {U : Type 0} (ok : U) (old mid : History) (wrote : (let first : Result U Failed = Ok ok in Wrote file (24 + done) written first old mid)) where
      shut_mid : KeepsShut file old mid
      shut_mid = keeps_shut file (24 + done) (length written) old mid (λ gate. inl (omega arith)) wrote.within

      stands_mid : Stands (reads old file) 1 (head ++ take done payload) → Stands (reads mid file) 1 (head ++ take end payload)
      stands_mid before =
          stands_on (reads mid file) head payload done end (length-head_bytes mark number (length payload)) le fits
          (wrote.within.stands 1 (head ++ take done payload) (inl (omega (arith, length-head_bytes mark number (length payload), length-append head (take done payload), length-take done payload))) before)
          (subst (λ (l : List ℕ). 0 < length l → Stands (reads mid file) (24 + done) l) is wrote.there)

      pub put_more : {T : Type 0} (answer : T) → (let result : Result T Failed = Ok answer in Put (job phase) (job (Written end)) done result old mid)
      put_more answer = record { goes = wrote.within.goes; within = in_range old mid wrote.within; underway = λ under. ((shut_mid under.0).0, stands_mid under.1); shut = shut_mid }

      module _ (new : History) where
        within_new : {V : Type 0} (second : Result V Failed) → Synced file second mid new → WroteWithin file (24 + done) (length written) old new
        within_new second synced = wrote_then file (24 + done) (length written) old mid new wrote.within (wrote_nothing file (24 + done) (length written) mid new synced.within)

        shut_new : {V : Type 0} (second : Result V Failed) → Synced file second mid new → KeepsShut file old new
        shut_new second synced = keeps_shut file (24 + done) (length written) old new (λ gate. inl (omega arith)) (within_new second synced)

        pub put_durable : {T V : Type 0} (answer : T) (again : V) → end ≡ length payload → (let second : Result V Failed = Ok again in Synced file second mid new) → (let result : Result T Failed = Ok answer in Put (job phase) (job Durable) done result old new)
        put_durable answer again whole synced = record {
          goes = goes_then (λ other. other ≡ file) old mid new wrote.within.goes synced.within.goes;
          within = in_range old new (within_new (Ok again) synced);
          underway = λ under. ((shut_new (Ok again) synced under.0).0, subst (λ (l : List ℕ). Firm (standing new file) 1 (head ++ l)) (take_all end payload (omega (arith, whole))) (synced.firm 1 (head ++ take end payload) (stands_mid under.1)));
          shut = shut_new (Ok again) synced;
        }

        pub put_not_synced : {T V : Type 0} (failed again : Failed) → (let second : Result V Failed = Err failed in Synced file second mid new) → (let result : Result T Failed = Err again in Put (job phase) (job Stuck) done result old new)
        put_not_synced failed again synced = record {
          goes = goes_then (λ other. other ≡ file) old mid new wrote.within.goes synced.within.goes;
          within = in_range old new (within_new (Err failed) synced);
          underway = tt;
          shut = shut_new (Err failed) synced;
        }
