-- An image's gate is shut, and what stands first behind it is written.
use Rattle.std.proofs.Common.{◌≡◌, inl, ℕ, ◌+◌, ◌-◌, min, List, [], ◌++◌, length, Result, Ok, Err, OnOk, subst, sym, append-nil, arith}
use Rattle.store_api.specs.declared.store.Failed.{Failed}
use Rattle.store_api.specs.Disk.{History, reads}
use Rattle.store_api.specs.Runs.{Stands, Wrote, WroteWithin}
use Rattle.store_api.proofs.Runs.{goes_then}
use Rattle.store_api.proofs.Ranges.{wrote_then, wrote_part}
use Rattle.db_image.specs.declared.phase.Phase.TheVariants.{Failed as Stuck}
use Rattle.db_image.specs.Images.{head_bytes}
use Rattle.db_image.specs.Steps.{Job, Shut, Put, Started, at_phase}
use Rattle.db_image.proofs.Gates.{keeps_shut, keeps_then, older_then}
use Rattle.db_image.proofs.Writing.{length-head_bytes}

module _ (job : Job) where
  abbrev head : List ℕ
  head = head_bytes job.mark job.number (length job.payload)

  -- what is written of the gate, of the head and of the first piece
  abbrev most : ℕ
  most = 24 + min 65536 (length job.payload)

  gate_part : (old new : History) → WroteWithin job.file 0 1 old new → WroteWithin job.file 0 most old new
  gate_part old new within = wrote_part job.file 0 1 0 most old new (omega arith) (omega arith) within

  head_part : (old new : History) → WroteWithin job.file 1 (length head) old new → WroteWithin job.file 0 most old new
  head_part old new within = wrote_part job.file 1 (length head) 0 most old new (omega arith) (omega (arith, length-head_bytes job.mark job.number (length job.payload))) within

  -- the gate could not be shut
  pub not_shut : {T U : Type 0} (failed again : Failed) (old new : History) → (let first : Result U Failed = Err failed in Shut job.file first old new) → (let result : Result T Failed = Err again in Started job (at_phase Stuck job) result old new)
  not_shut failed again old new shut = record { goes = shut.within.goes; within = gate_part old new shut.within; underway = tt; shut = shut.keeps; older = shut.older }

  module _ {U : Type 0} (done : U) (old mid : History) (shut : (let first : Result U Failed = Ok done in Shut job.file first old mid)) where
    -- the head could not be written
    pub no_head : {T V : Type 0} (failed again : Failed) (new : History) → (let second : Result V Failed = Err failed in Wrote job.file 1 head second mid new) → (let result : Result T Failed = Err again in Started job (at_phase Stuck job) result old new)
    no_head failed again new wrote =
        let keeps = keeps_shut job.file 1 (length head) mid new (λ gate. inl (omega arith)) wrote.within in
        record {
          goes = goes_then (λ other. other ≡ job.file) old mid new shut.within.goes wrote.within.goes;
          within = wrote_then job.file 0 most old mid new (gate_part old mid shut.within) (head_part mid new wrote.within);
          underway = tt;
          shut = keeps_then job.file old mid new wrote.within.goes shut.keeps keeps;
          older = older_then job.file old mid new wrote.within.goes shut.older shut.shut keeps;
        }

    pub started : {T V : Type 0} (also : V) (next : Job) (result : Result T Failed) (then new : History) → (let second : Result V Failed = Ok also in Wrote job.file 1 head second mid then) → Put (at_phase Stuck job) next 0 result then new → Started job next result old new
    started also next result then new wrote put =
        let keeps = keeps_shut job.file 1 (length head) mid then (λ gate. inl (omega arith)) wrote.within in
        let both = keeps_then job.file mid then new put.goes keeps put.shut in
        let goes = goes_then (λ other. other ≡ job.file) mid then new wrote.within.goes put.goes in
        let there : Stands (reads then job.file) 1 (head ++ []) = subst (λ (l : List ℕ). Stands (reads then job.file) 1 l) (sym (append-nil head)) (wrote.there (omega (arith, length-head_bytes job.mark job.number (length job.payload)))) in
        record {
          goes = goes_then (λ other. other ≡ job.file) old mid new shut.within.goes goes;
          within = wrote_then job.file 0 most old then new (wrote_then job.file 0 most old mid then (gate_part old mid shut.within) (head_part mid then wrote.within))
              (wrote_part job.file (24 + 0) (min 65536 (length job.payload - 0)) 0 most then new (omega arith) (omega arith) put.within);
          underway = on_ok result (λ f can. f ((keeps (shut.shut can)).0, there)) put.underway;
          shut = keeps_then job.file old mid new goes shut.keeps both;
          older = older_then job.file old mid new goes shut.older shut.shut both;
        }
      where
        on_ok : {T : Type 0} (r : Result T Failed) {P Q : Type 0} → (P → Q) → OnOk r P → OnOk r Q
        on_ok (Ok d) f p = f p
        on_ok (Err e) f p = tt
