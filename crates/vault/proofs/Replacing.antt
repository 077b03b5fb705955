-- An image and its empty log are put in place.
use Rattle.std.proofs.Common.{◌≡◌, ◌≢◌, ◌⊎◌, inl, inr, ℕ, ◌<◌, ◌^◌, List, [], ◌∷◌, length, Result, Ok, Err, OnOk, refl, sym, ◌∙◌, ap, subst, arith}
use Rattle.std.proofs.lemmas.Bool.{cases_lt, lt-leb, le-leb}
use Rattle.store_api.specs.declared.store.Failed.{Failed}
use Rattle.store_api.specs.Disk.{History, standing, now, Leaves}
use Rattle.store_api.specs.Runs.{Stands, GoesOn, EachImage}
use Rattle.store_api.proofs.Runs.{goes_then, goes_weaker, each_then, each_weaker, goes_images}
use Rattle.store_api.proofs.Pieces.{firm_left}
use Rattle.store_api.proofs.Standings.{leaves_firm}
use Rattle.log_file.specs.Blocks.{IsClosed}
use Rattle.log_file.specs.Steps.{Created}
use Rattle.log_file.specs.Sure.{IsSure}
use Rattle.log_file.proofs.Logs.{sure_beside, sure_since}
use Rattle.db_image.specs.declared.mark.Mark.TheVariants.{Server}
use Rattle.db_image.specs.declared.phase.Phase.{Phase}
use Rattle.db_image.specs.declared.phase.Phase.TheVariants.{Begun, Written, Durable, Open, Failed as Stuck}
use Rattle.db_image.specs.Images.{image_bytes, body_bytes, NeverSpent}
use Rattle.db_image.specs.Steps.{Job, FirmShut, CanShut, Underway, UnderwayAs, KeepsShut, OldOrShut, IsWriting, Stepped, at_phase, further, written_to}
use Rattle.db_image.proofs.Gates.{is_shut}
use Rattle.db_image.proofs.One.{stands_image, underway_beside}
use Rattle.vault.specs.Files.{image_file, log_file, IsOf}
use Rattle.vault.specs.Recovery.{Older}
use Rattle.vault.specs.Images.{StaysOlder, Wrote, Went, IsBegun, Replaced, IsPaced}

-- what a stop leaves of a gate that was shut for good
pub shut_left : (h : History) (file : ℕ) (left : List ℕ) → FirmShut (standing h file) → Leaves (standing h file) left → IsClosed left
shut_left h file left shut leaves = is_shut left shut.gate shut.closed (leaves_firm (standing h file) left 0 (shut.gate ∷ []) leaves shut.firm)

-- the gate of an older image can be shut
pub can_shut : (bound file : ℕ) (h : History) → StaysOlder bound file h → CanShut (standing h file)
can_shut bound file h (inl shut) = inl (shut.gate, shut.firm)
can_shut bound file h (inr older) = inl (1, firm_left (standing h file) 0 (1 ∷ []) (body_bytes Server older.0 older.1) (omega arith) older.2.firm)

-- while its gate is being shut, each image has the older one, or a shut gate
pub each_older : (bound file : ℕ) (old new : History) → StaysOlder bound file old → KeepsShut file old new → OldOrShut file old new → EachImage (now old) new (λ files. Older bound file (files file))
each_older bound file old new (inl shut) keeps older = each_weaker (now old) new _ _ (λ image closed. inl closed) (keeps shut).1
each_older bound file old new (inr there) keeps older =
    each_weaker (now old) new (λ files. IsClosed (files file) ⊎ _) (λ files. Older bound file (files file))
    (λ image has. elim has [ inl closed ↦ inl closed | inr stands ↦ inr (there.0, there.1, stands_image file there.0 Server (image file) there.1 there.2.allowed there.2.unspent there.2.small stands, there.3) ]) (older (body_bytes Server there.0 there.1) there.2.firm)

-- an image that is being written has its gate shut for good
under_shut : (phase : Phase) (job : Job) (len began moment : ℕ) (h : History) → IsPaced phase len began moment → UnderwayAs phase job h → FirmShut (standing h job.file)
under_shut Begun job len began moment h paced under = absurd paced
under_shut (Written done) job len began moment h paced under = under.0
under_shut Durable job len began moment h paced under = under.0
under_shut Open job len began moment h paced under = absurd paced
under_shut Stuck job len began moment h paced under = absurd paced

-- after its first step
pub paced_first : (phase : Phase) (len moment : ℕ) → phase ≡ written_to 65536 len → IsPaced phase len moment moment
paced_first phase len moment is = subst (λ (p : Phase). IsPaced p len moment moment) (sym is) first
  where
    first : IsPaced (written_to 65536 len) len moment moment
    first = elim (cases_lt 65536 len) [
      | inl more ↦ rw (lt-leb len 65536 more) (omega (arith, more), omega arith)
      | inr last ↦ rw (le-leb len 65536 last) (omega arith)
    ]

module _ (job mid_job : Job) (begun : job.phase ≡ Begun) (here : mid_job.file ≡ job.file) (phase : mid_job.phase ≡ written_to 65536 (length job.payload)) {T : Type 0} (answer : T) (old mid new : History)
    (step : (let first : Result T Failed = Ok answer in Stepped job mid_job first old mid)) where
  begun_under : CanShut (standing old job.file) → Underway job old
  begun_under can = subst (λ (p : Phase). UnderwayAs p job old) (sym begun) can

  pub shut_mid : (bound : ℕ) → StaysOlder bound job.file old → FirmShut (standing mid job.file)
  shut_mid bound stays =
      subst (λ (n : ℕ). FirmShut (standing mid n)) here
      (under_shut mid_job.phase mid_job (length job.payload) 0 0 mid (paced_first mid_job.phase (length job.payload) 0 phase) (step.underway (begun_under (can_shut bound job.file old stays))))

  since_mid : (bound : ℕ) → StaysOlder bound job.file old → EachImage (now old) mid (λ files. Older bound job.file (files job.file))
  since_mid bound stays = each_older bound job.file old mid stays (step.shut (subst (λ (p : Phase). IsWriting p) (sym begun) tt)) (step.older begun)

  module _ (goes : GoesOn (λ file. file ≡ job.file) mid new) (keeps : KeepsShut job.file mid new) where
    since_all : (bound : ℕ) → StaysOlder bound job.file old → EachImage (now old) new (λ files. Older bound job.file (files job.file))
    since_all bound stays =
        each_then (λ file. file ≡ job.file) old mid new (λ files. Older bound job.file (files job.file)) goes (since_mid bound stays)
        (each_weaker (now mid) new _ _ (λ image closed. inl closed) (keeps (shut_mid bound stays)).1)

  pub wrote_ok : {U : Type 0} (next : Job) (done : U) → next ≡ at_phase Durable mid_job → mid_job ≡ at_phase mid_job.phase job → (let last : Result U Failed = Ok done in Went mid_job next last mid new) → (let result : Result U Failed = Ok done in Wrote job result old new)
  wrote_ok next done is same went =
      let goes : GoesOn (λ file. file ≡ job.file) mid new = subst (λ (n : ℕ). GoesOn (λ file. file ≡ n) mid new) here went.goes in
      let all : next ≡ at_phase Durable job = is ∙ ap (λ (j : Job). at_phase Durable j) same in
      record {
        goes = goes_then (λ file. file ≡ job.file) old mid new step.goes goes;
        durable = λ can. subst (λ (j : Job). Underway j new) all (went.underway (step.underway (begun_under can)));
        since = since_all goes (subst (λ (n : ℕ). KeepsShut n mid new) here went.shut);
      }

  pub wrote_err : {U : Type 0} (next : Job) (failed : Failed) → (let last : Result U Failed = Err failed in Went mid_job next last mid new) → (let result : Result U Failed = Err failed in Wrote job result old new)
  wrote_err next failed went =
      let goes : GoesOn (λ file. file ≡ job.file) mid new = subst (λ (n : ℕ). GoesOn (λ file. file ≡ n) mid new) here went.goes in
      record {
        goes = goes_then (λ file. file ≡ job.file) old mid new step.goes goes;
        durable = tt;
        since = since_all goes (subst (λ (n : ℕ). KeepsShut n mid new) here went.shut);
      }

pub wrote_same : {U : Type 0} (job mid_job next : Job) (begun : job.phase ≡ Begun) (here : mid_job.file ≡ job.file) (phase : mid_job.phase ≡ written_to 65536 (length job.payload)) {T : Type 0} (answer : T) (result : Result U Failed) (old mid new : History)
    → OnOk result (next ≡ at_phase Durable mid_job) → mid_job ≡ at_phase mid_job.phase job → (let first : Result T Failed = Ok answer in Stepped job mid_job first old mid) → Went mid_job next result mid new → Wrote job result old new
wrote_same job mid_job next begun here phase answer (Ok done) old mid new is same step went = wrote_ok job mid_job begun here phase answer old mid new step next done is same went
wrote_same job mid_job next begun here phase answer (Err failed) old mid new is same step went = wrote_err job mid_job begun here phase answer old mid new step next failed went

-- the first step failed
pub not_wrote : {T U : Type 0} (job next : Job) (failed again : Failed) (old new : History) → job.phase ≡ Begun → (let first : Result T Failed = Err failed in Stepped job next first old new) → (let result : Result U Failed = Err again in Wrote job result old new)
not_wrote job next failed again old new begun step = record {
  goes = step.goes;
  durable = tt;
  since = λ bound stays. each_older bound job.file old new stays (step.shut (subst (λ (p : Phase). IsWriting p) (sym begun) tt)) (step.older begun);
}

-- the image of a generation before it is written
abbrev pub first_job : ℕ → List ℕ → Job
first_job generation payload = record { file = image_file generation; mark = Server; number = generation; payload = payload; phase = Begun }

module _ (generation : ℕ) (payload : List ℕ) where
  apart : log_file generation ≢ image_file generation
  apart e = absurd (omega (arith, e))

  module _ (few : generation < 2 ^ 62) (short : length payload < 2 ^ 36) (job : Job) (is : job ≡ first_job generation payload) where
    first_goes : {U : Type 0} (result : Result U Failed) (old new : History) → Wrote job result old new → GoesOn (IsOf generation) old new
    first_goes result old new wrote =
        goes_weaker (λ file. file ≡ job.file) (IsOf generation) old new (λ file here. inl (here ∙ ap (λ (j : Job). j.file) is)) wrote.goes

    first_since : {U : Type 0} (result : Result U Failed) (old new : History) → Wrote job result old new → (bound : ℕ) → StaysOlder bound (image_file generation) old →
        EachImage (now old) new (λ files. Older bound (image_file generation) (files (image_file generation)) ⊎ IsBegun generation payload files)
    first_since result old new wrote bound stays =
        each_weaker (now old) new (λ files. Older bound (image_file generation) (files (image_file generation))) _ (λ image older. inl older)
        (subst (λ (j : Job). EachImage (now old) new (λ files. Older bound j.file (files j.file))) is (wrote.since bound (subst (λ (j : Job). StaysOlder bound j.file old) (sym is) stays)))

    pub not_written : {T E : Type 0} (failed : Failed) (why : E) (old new : History) → (let first : Result (Unit {0}) Failed = Err failed in Wrote job first old new) → (let result : Result T E = Err why in Replaced generation payload result old new)
    not_written failed why old new wrote = record { goes = first_goes (Err failed) old new wrote; stands = tt; since = λ bound unspent. first_since (Err failed) old new wrote bound }

    module _ (old mid : History) (wrote : (let first : Result (Unit {0}) Failed = Ok tt in Wrote job first old mid)) where
      durable_mid : CanShut (standing old (image_file generation)) → UnderwayAs Durable (first_job generation payload) mid
      durable_mid can = subst (λ (j : Job). UnderwayAs Durable j mid) is (wrote.durable (subst (λ (j : Job). CanShut (standing old j.file)) (sym is) can))

      -- the log was begun, or that failed
      module _ {A B : Type 0} (created : Result A B) (file : ℕ) (is_log : file ≡ log_file generation) (next : History) (begins : Created file created mid next) where
        begins_goes : GoesOn (λ other. other ≡ log_file generation) mid next
        begins_goes = subst (λ (n : ℕ). GoesOn (λ other. other ≡ n) mid next) is_log begins.goes

        begins_ours : GoesOn (IsOf generation) mid next
        begins_ours = goes_weaker (λ other. other ≡ log_file generation) (IsOf generation) mid next (λ other here. inr here) begins_goes

        goes_next : GoesOn (IsOf generation) old next
        goes_next = goes_then (IsOf generation) old mid next (first_goes (Ok tt) old mid wrote) begins_ours

        shut_since : (bound : ℕ) → StaysOlder bound (image_file generation) old → EachImage (now mid) next (λ files. IsClosed (files (image_file generation)))
        shut_since bound stays =
            each_weaker (now mid) next (λ files. Leaves (standing mid (image_file generation)) (files (image_file generation))) _
            (λ image leaves. shut_left mid (image_file generation) (image (image_file generation)) (durable_mid (can_shut bound (image_file generation) old stays)).0 leaves)
            (goes_images (λ other. other ≡ log_file generation) mid next (image_file generation) (λ e. apart (sym e)) begins_goes)

        since_next : (bound : ℕ) → StaysOlder bound (image_file generation) old → EachImage (now old) next (λ files. Older bound (image_file generation) (files (image_file generation)) ⊎ IsBegun generation payload files)
        since_next bound stays =
            each_then (IsOf generation) old mid next (λ files. Older bound (image_file generation) (files (image_file generation)) ⊎ IsBegun generation payload files) begins_ours (first_since (Ok tt) old mid wrote bound stays)
            (each_weaker (now mid) next (λ files. IsClosed (files (image_file generation))) _ (λ image closed. inl (inl closed)) (shut_since bound stays))

        pub not_created : {T E : Type 0} (why : E) → (let result : Result T E = Err why in Replaced generation payload result old next)
        not_created why = record { goes = goes_next; stands = tt; since = λ bound unspent. since_next bound }

        durable_next : CanShut (standing old (image_file generation)) → UnderwayAs Durable (first_job generation payload) next
        durable_next can = underway_beside (λ other. other ≡ log_file generation) mid next begins_goes Durable (first_job generation payload) (λ e. apart (sym e)) (durable_mid can)

        module _ (sure_there : IsSure next file [] 0) (second last : Job) (at_durable : second ≡ at_phase Durable (first_job generation payload)) where
          sure : IsSure next (log_file generation) [] 0
          sure = subst (λ (n : ℕ). IsSure next n [] 0) is_log sure_there

          module _ {U : Type 0} (opened : Result U Failed) (new : History) (step : Stepped second last opened next new) where
            opens_goes : GoesOn (λ other. other ≡ image_file generation) next new
            opens_goes = subst (λ (j : Job). GoesOn (λ other. other ≡ j.file) next new) at_durable step.goes

            opens_ours : GoesOn (IsOf generation) next new
            opens_ours = goes_weaker (λ other. other ≡ image_file generation) (IsOf generation) next new (λ other here. inl here) opens_goes

            goes_new : GoesOn (IsOf generation) old new
            goes_new = goes_then (IsOf generation) old next new goes_next opens_ours

            either_since : (bound : ℕ) → StaysOlder bound (image_file generation) old → EachImage (now next) new (λ files. IsClosed (files (image_file generation)) ⊎ Stands (files (image_file generation)) 0 (image_bytes Server generation payload))
            either_since bound stays =
                subst (λ (j : Job). EachImage (now next) new (λ files. IsClosed (files j.file) ⊎ Stands (files j.file) 0 (image_bytes j.mark j.number j.payload))) at_durable
                (step.opening (ap (λ (j : Job). j.phase) at_durable) (subst (λ (j : Job). Underway j next) (sym at_durable) (durable_next (can_shut bound (image_file generation) old stays))))

            since_new : (bound : ℕ) → NeverSpent Server generation payload → StaysOlder bound (image_file generation) old → EachImage (now old) new (λ files. Older bound (image_file generation) (files (image_file generation)) ⊎ IsBegun generation payload files)
            since_new bound unspent stays =
                each_then (IsOf generation) old next new (λ files. Older bound (image_file generation) (files (image_file generation)) ⊎ IsBegun generation payload files) opens_ours (since_next bound stays)
                (λ moment image from to here. elim (either_since bound stays moment image from to here) [
                  | inl closed ↦ inl (inl closed)
                  | inr stands ↦ inr (
                    stands_image (image_file generation) generation Server (image (image_file generation)) payload (few, refl) unspent (omega (arith, short)) stands,
                    sure_since (λ other. other ≡ image_file generation) next new (log_file generation) [] 0 apart opens_goes sure moment image from to here,
                  )
                ])

          pub not_opened : {U T E : Type 0} (failed : Failed) (why : E) (new : History) → (let opened : Result U Failed = Err failed in Stepped second last opened next new) → (let result : Result T E = Err why in Replaced generation payload result old new)
          not_opened failed why new step = record { goes = goes_new (Err failed) new step; stands = tt; since = since_new (Err failed) new step }

          pub is_opened : {U T E : Type 0} (answer : U) (log : T) (new : History) → last ≡ at_phase Open (first_job generation payload) → (let opened : Result U Failed = Ok answer in Stepped second last opened next new) → (let result : Result T E = Ok log in Replaced generation payload result old new)
          is_opened answer log new is_open step = record {
            goes = goes_new (Ok answer) new step;
            stands = λ unspent can. (
              record {
                firm = subst (λ (j : Job). Underway j new) is_open (step.underway (subst (λ (j : Job). Underway j next) (sym at_durable) (durable_next can)));
                allowed = (few, refl);
                unspent = unspent;
                small = omega (arith, short);
              },
              sure_beside (λ other. other ≡ image_file generation) next new (log_file generation) [] 0 apart (opens_goes (Ok answer) new step) sure,
            );
            since = since_new (Ok answer) new step;
          }

pub begin_is : (generation file : ℕ) (payload : List ℕ) (job : Job) → job ≡ record { file = file; mark = Server; number = generation; payload = payload; phase = Begun } → file ≡ image_file generation → job ≡ first_job generation payload
begin_is generation file payload job is here = is ∙ ap (λ (n : ℕ). let j : Job = record { file = n; mark = Server; number = generation; payload = payload; phase = Begun } in j) here

pub open_is : (first second last : Job) → second ≡ at_phase Durable first → last ≡ at_phase (further second.phase (length second.payload)) second → last ≡ at_phase Open first
open_is first second last at_durable is =
    is ∙ ap (λ (p : Phase). at_phase (further p (length second.payload)) second) (ap (λ (j : Job). j.phase) at_durable) ∙ ap (λ (j : Job). at_phase Open j) at_durable
