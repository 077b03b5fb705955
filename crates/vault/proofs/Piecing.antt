-- A checkpoint goes on by steps: its image and its log are written, and at the end the image's gate is opened.
use Rattle.std.proofs.Common.{◌≡◌, ◌≢◌, ◌⊎◌, ⊎_elim, inl, inr, ℕ, ◌+◌, ◌-◌, ◌<◌, ◌≤◌, ◌^◌, List, [], ◌∷◌, ◌++◌, length, get_or, take, drop, map, reverse, drop-cons, IsSome, Option, Some, None, Result, Ok, Err, refl, sym, ◌∙◌, ap, subst, arith, length-append}
use Rattle.std.specs.List.{AllByRecursion}
use Rattle.std.proofs.lemmas.Bool.{cases_lt, lt-leb, le-leb, false≢true}
use Rattle.std.proofs.Math.Seq.{take-add}
use Rattle.std.proofs.lemmas.List.{map-append, drop-drop, drop-append-le, take-append-le, take_all, reverse-append, length-drop}
use Rattle.store_api.specs.declared.store.Failed.{Failed}
use Rattle.store_api.specs.Disk.{History, standing, now, Leaves, ImageAt}
use Rattle.store_api.specs.Runs.{GoesOn, EachImage}
use Rattle.store_api.specs.Told.{Told}
use Rattle.store_api.proofs.Runs.{goes_none, goes_then, goes_weaker, each_then, each_weaker, goes_images, now_image}
use Rattle.log_file.specs.Blocks.{Fits, block, blocks, IsClosed, LogEnds}
use Rattle.log_file.specs.Steps.{Created, Copied, Sealed}
use Rattle.log_file.specs.Sure.{IsSure, IsWritten}
use Rattle.log_file.specs.Sure as log
use Rattle.log_file.proofs.Appending.{sure_written, written_beside}
use Rattle.log_file.proofs.RecordBytes.{blocks-append, fits-append, length-block}
use Rattle.log_file.proofs.Logs.{sure_beside, sure_since}
use Rattle.db_image.specs.declared.phase.Phase.{Phase}
use Rattle.db_image.specs.declared.phase.Phase.TheVariants.{Begun, Written, Durable, Open, Failed as Stuck}
use Rattle.db_image.specs.declared.mark.Mark.TheVariants.{Server}
use Rattle.db_image.specs.Images.{HasImage, NeverSpent}
use Rattle.db_image.specs.Steps.{Job, FirmShut, Underway, UnderwayAs, KeepsShut, IsWriting, Stepped, at_phase, further, written_to}
use Rattle.db_image.proofs.One.{stands_image, underway_beside}
use Rattle.entries.specs.declared.entry.Entry.{Entry}
use Rattle.entries.specs.EntryForm.{entry}
use Rattle.fields.specs.Editions.{second_form}
use Rattle.entries.specs.Meaning.{Meaning, IsLegal}
use Rattle.vault.specs.Files.{image_file, log_file, IsOurs, IsOf}
use Rattle.vault.specs.Images.{StaysOlder}
use Rattle.vault.specs.Recovery.{Older, after_all, AllLegal}
use Rattle.vault.specs.Vaults.{State, IsPending, StaysShut, with_waiting, all_forced}
use Rattle.vault.specs.Pieces.{Pending, job_of, IsGoing, IsOrderly, records_between, CopiesAt, StandsAt, Starts, Furthered, Extended, HasBoth, Finished}
use Rattle.vault.proofs.Goodness.{image_ours, log_ours, image_log, log_next, shut_beside}
use Rattle.vault.proofs.Replacing.{shut_left, can_shut, each_older, shut_mid}

-- an image that is being written and isn't all on the disk may be written on
pub going_writes : (phase : Phase) → IsGoing phase → (phase ≡ Durable → ⊥) → IsWriting phase
going_writes Begun going not = absurd going
going_writes (Written done) going not = tt
going_writes Durable going not = absurd (not refl)
going_writes Open going not = absurd going
going_writes Stuck going not = absurd going

-- and goes on being written
going_written : (done len : ℕ) → IsGoing (written_to done len)
going_written done len = elim (cases_lt done len) [ inl more ↦ rw (lt-leb len done more) tt | inr last ↦ rw (le-leb len done last) tt ]

pub going_on : (phase : Phase) (len : ℕ) → IsGoing phase → (phase ≡ Durable → ⊥) → IsGoing (further phase len)
going_on Begun len going not = absurd going
going_on (Written done) len going not = going_written (done + 65536) len
going_on Durable len going not = absurd (not refl)
going_on Open len going not = absurd going
going_on Stuck len going not = absurd going

-- records behind records
pub between_none : (journal : List Entry) (start copied : ℕ) → copied ≡ start → records_between journal start copied ≡ []
between_none journal start copied e = ap (λ n. map entry.spell (take n (drop start journal))) (let zero_long : copied - start ≡ 0 = omega (arith, e) in zero_long)

pub between_join : (journal : List Entry) (start copied place : ℕ) → start ≤ copied → copied ≤ place → records_between journal start copied ++ records_between journal copied place ≡ records_between journal start place
between_join journal start copied place a b =
    sym (
    ap (λ n. map entry.spell (take n (drop start journal))) (let e : place - start ≡ (copied - start) + (place - copied) = omega (arith, a, b) in e)
    ∙ ap (map entry.spell) (take-add (copied - start) (place - copied) (drop start journal))
    ∙ map-append entry.spell (take (copied - start) (drop start journal)) (take (place - copied) (drop (copied - start) (drop start journal)))
    ∙ ap (λ (l : List Entry). records_between journal start copied ++ map entry.spell (take (place - copied) l)) (drop-drop (copied - start) start journal ∙ ap (λ n. drop n journal) (let e : start + (copied - start) ≡ copied = omega (arith, a) in e)))

-- entries that are committed later change nothing of what was copied
pub between_more : (journal more : List Entry) (start copied : ℕ) → start ≤ copied → copied ≤ length journal → records_between (journal ++ more) start copied ≡ records_between journal start copied
between_more journal more start copied a b =
    ap (λ (l : List Entry). map entry.spell (take (copied - start) l)) (drop-append-le start journal more (omega (arith, a, b)))
    ∙ ap (map entry.spell) (take-append-le (copied - start) (drop start journal) more (omega (arith, a, b, length-drop start journal)))

-- all of the journal behind the start
pub between_all : (journal : List Entry) (start copied : ℕ) → start ≤ copied → copied ≡ length journal → records_between journal start copied ≡ map entry.spell (drop start journal)
between_all journal start copied a b = ap (map entry.spell) (take_all (copied - start) (drop start journal) (omega (arith, a, b, length-drop start journal)))

-- what was copied under a run on other files
pub copies_beside : (generation : ℕ) (journal : List Entry) (start copied : ℕ) (theirs : ℕ → Type 0) (old new : History) → ¬ theirs (log_file generation) → GoesOn theirs old new → (its : Option log.State) → CopiesAt generation journal start copied its old → CopiesAt generation journal start copied its new
copies_beside generation journal start copied theirs old new apart goes None is = is
copies_beside generation journal start copied theirs old new apart goes (Some its) is = written_beside theirs old new (log_file generation) (records_between journal start copied) its.end apart goes is

pub copies_more : (generation : ℕ) (journal more : List Entry) (start copied : ℕ) (h : History) → start ≤ copied → copied ≤ length journal → (its : Option log.State) → CopiesAt generation journal start copied its h → CopiesAt generation (journal ++ more) start copied its h
copies_more generation journal more start copied h a b None is = is
copies_more generation journal more start copied h a b (Some its) is = subst (λ (l : List (List ℕ)). IsWritten h (log_file generation) l its.end) (sym (between_more journal more start copied a b)) is

-- a checkpoint under a run on other files
pub stands_beside : (generation : ℕ) (payload : List ℕ) (journal : List Entry) (pending : Pending) (theirs : ℕ → Type 0) (old new : History) → ¬ theirs (image_file generation) → ¬ theirs (log_file generation) → GoesOn theirs old new
    → StandsAt generation payload journal pending old → StandsAt generation payload journal pending new
stands_beside generation payload journal pending theirs old new image_apart log_apart goes at = record {
  few = at.few;
  unspent = at.unspent;
  small = at.small;
  job = at.job;
  underway = underway_beside theirs old new goes pending.job.phase pending.job (λ is. image_apart (subst theirs (ap (λ (j : Job). j.file) at.job) is)) at.underway;
  shut = shut_beside theirs old new goes (image_file generation) image_apart at.shut;
  copies = copies_beside generation journal pending.start pending.copied theirs old new log_apart goes pending.log at.copies;
  ordered = at.ordered;
  within = at.within;
}

-- and while entries are committed
pub stands_more : (generation : ℕ) (payload : List ℕ) (journal more : List Entry) (pending : Pending) (h : History) → StandsAt generation payload journal pending h → StandsAt generation payload (journal ++ more) pending h
stands_more generation payload journal more pending h at = record {
  few = at.few;
  unspent = at.unspent;
  small = at.small;
  job = at.job;
  underway = at.underway;
  shut = at.shut;
  copies = copies_more generation journal more pending.start pending.copied h at.ordered at.within pending.log at.copies;
  ordered = at.ordered;
  within = omega (arith, at.within, length-append journal more);
}

-- the files of a generation apart
log_image : (generation : ℕ) → log_file generation ≢ image_file generation
log_image generation e = absurd (omega (arith, e))

-- the image under calls on the log alone
module _ (generation file : ℕ) (is_log : file ≡ log_file generation) (old new : History) (goes : GoesOn (λ other. other ≡ file) old new) where
  goes_log : GoesOn (λ other. other ≡ log_file generation) old new
  goes_log = subst (λ (n : ℕ). GoesOn (λ other. other ≡ n) old new) is_log goes

  goes_gen : GoesOn (IsOf generation) old new
  goes_gen = goes_weaker (λ other. other ≡ log_file generation) (IsOf generation) old new (λ other here. inr here) goes_log

  shut_since : FirmShut (standing old (image_file generation)) → EachImage (now old) new (λ files. IsClosed (files (image_file generation)))
  shut_since shut =
      each_weaker (now old) new (λ files. Leaves (standing old (image_file generation)) (files (image_file generation))) _ (λ image leaves. shut_left old (image_file generation) (image (image_file generation)) shut leaves)
      (goes_images (λ other. other ≡ log_file generation) old new (image_file generation) (λ e. log_image generation (sym e)) goes_log)

  keeps_log : KeepsShut (image_file generation) old new
  keeps_log shut = (shut_beside (λ other. other ≡ log_file generation) old new goes_log (image_file generation) (λ e. log_image generation (sym e)) shut, shut_since shut)

  under_log : (payload : List ℕ) (job : Job) → job ≡ job_of generation payload job.phase → Underway job old → Underway job new
  under_log payload job is under = underway_beside (λ other. other ≡ log_file generation) old new goes_log job.phase job (λ e. log_image generation (sym (sym (ap (λ (j : Job). j.file) is) ∙ e))) under

-- the image under its own step
module _ (generation : ℕ) (pending : Pending) (orderly : IsOrderly generation pending) (job : Job) (old new : History) (going : pending.job.phase ≡ Durable → ⊥) where
  module _ {T : Type 0} (result : Result T Failed) (step : Stepped pending.job job result old new) where
    goes_image : GoesOn (λ other. other ≡ image_file generation) old new
    goes_image = subst (λ (n : ℕ). GoesOn (λ other. other ≡ n) old new) orderly.file step.goes

    goes_piece : GoesOn (IsOf generation) old new
    goes_piece = goes_weaker (λ other. other ≡ image_file generation) (IsOf generation) old new (λ other here. inl here) goes_image

    keeps_piece : KeepsShut (image_file generation) old new
    keeps_piece = subst (λ (n : ℕ). KeepsShut n old new) orderly.file (step.shut (going_writes pending.job.phase orderly.going going))

  -- a piece of the payload was written
  pub piece_written : {T E U : Type 0} (answer : T) (done : U) → job ≡ at_phase job.phase pending.job → (let result : Result T Failed = Ok answer in Stepped pending.job job result old new)
      → (let result : Result U E = Ok done in Furthered generation pending (record { job = job; start = pending.start; copied = pending.copied; log = pending.log }) result old new)
  piece_written answer done is step = record {
    goes = goes_piece (Ok answer) step;
    stands = λ payload journal at. record {
      few = at.few;
      unspent = at.unspent;
      small = at.small;
      job = is ∙ ap (λ (j : Job). at_phase job.phase j) at.job;
      underway = step.underway at.underway;
      shut = (keeps_piece (Ok answer) step at.shut).0;
      copies = copies_beside generation journal pending.start pending.copied (λ other. other ≡ image_file generation) old new (log_image generation) (goes_image (Ok answer) step) pending.log at.copies;
      ordered = at.ordered;
      within = at.within;
    };
    shut = keeps_piece (Ok answer) step;
  }

  pub piece_failed : {T E U : Type 0} (failed : Failed) (why : E) (next : Pending) → (let result : Result T Failed = Err failed in Stepped pending.job job result old new) → (let result : Result U E = Err why in Furthered generation pending next result old new)
  piece_failed failed why next step = record { goes = goes_piece (Err failed) step; stands = tt; shut = keeps_piece (Err failed) step }

-- its log was begun
pub log_begun : {T E F U : Type 0} (generation : ℕ) (pending : Pending) (file : ℕ) (is_log : file ≡ log_file generation) (its : log.State) (old new : History) (made : T) (done : U) → pending.log ≡ None → its.end ≡ 0 → (let result : Result T F = Ok made in Created file result old new)
    → (let result : Result U E = Ok done in Furthered generation pending (record { job = pending.job; start = pending.start; copied = pending.copied; log = Some its }) result old new)
log_begun generation pending file is_log its old new made done none ends created = record {
  goes = goes_gen generation file is_log old new created.goes;
  stands = λ payload journal at. record {
    few = at.few;
    unspent = at.unspent;
    small = at.small;
    job = at.job;
    underway = under_log generation file is_log old new created.goes payload pending.job at.job at.underway;
    shut = (keeps_log generation file is_log old new created.goes at.shut).0;
    copies =
        subst (λ (l : List (List ℕ)). IsWritten new (log_file generation) l its.end) (sym (between_none journal pending.start pending.copied (subst (λ (l : Option log.State). CopiesAt generation journal pending.start pending.copied l old) none at.copies)))
        (subst (λ (n : ℕ). IsWritten new (log_file generation) [] n) (sym ends) (subst (λ (n : ℕ). IsWritten new n [] 0) is_log (sure_written new file [] 0 created.sure)));
    ordered = at.ordered;
    within = at.within;
  };
  shut = keeps_log generation file is_log old new created.goes;
}

pub log_not_begun : {T E F U : Type 0} (generation : ℕ) (pending next : Pending) (file : ℕ) (is_log : file ≡ log_file generation) (old new : History) (failed : F) (why : E) → (let result : Result T F = Err failed in Created file result old new) → (let result : Result U E = Err why in Furthered generation pending next result old new)
log_not_begun generation pending next file is_log old new failed why created = record { goes = goes_gen generation file is_log old new created.goes; stands = tt; shut = keeps_log generation file is_log old new created.goes }

-- nothing was to be done
pub furthered_none : {T E : Type 0} (generation : ℕ) (pending : Pending) (done : T) (h : History) → (let result : Result T E = Ok done in Furthered generation pending pending result h h)
furthered_none generation pending done h = record {
  goes = goes_none (IsOf generation) h;
  stands = λ payload journal at. at;
  shut = λ shut. (
    shut,
    each_weaker (now h) h (λ files. Leaves (standing h (image_file generation)) (files (image_file generation))) _ (λ image leaves. shut_left h (image_file generation) (image (image_file generation)) shut leaves)
        (goes_images (λ file. ⊥) h h (image_file generation) (λ no. no) (goes_none (λ file. ⊥) h)),
  );
}

pub told_furthered : {T : Type 0} (E : Type 0) (x : Option History) (generation : ℕ) (pending : Pending) (done : T) → Told x x (λ old new. let result : Result T E = Ok done in Furthered generation pending pending result old new)
told_furthered E None generation pending done = tt
told_furthered E (Some h) generation pending done = furthered_none generation pending done h

-- one step after another
module _ (generation : ℕ) (pending mid_pending next : Pending) (old mid new : History) {T E : Type 0} (done : T) (first : (let result : Result T E = Ok done in Furthered generation pending mid_pending result old mid)) where
  shut_then : (KeepsShut (image_file generation) mid new) → GoesOn (IsOf generation) mid new → KeepsShut (image_file generation) old new
  shut_then keeps goes shut =
      let one = first.shut shut in
      let two = keeps one.0 in
      (two.0, each_then (IsOf generation) old mid new (λ files. IsClosed (files (image_file generation))) goes one.1 two.1)

  pub furthered_then : {U F : Type 0} (result : Result U F) → Furthered generation mid_pending next result mid new → Furthered generation pending next result old new
  furthered_then (Ok answer) second = record {
    goes = goes_then (IsOf generation) old mid new first.goes second.goes;
    stands = λ payload journal at. second.stands payload journal (first.stands payload journal at);
    shut = shut_then second.shut second.goes;
  }
  furthered_then (Err why) second = record {
    goes = goes_then (IsOf generation) old mid new first.goes second.goes;
    stands = tt;
    shut = shut_then second.shut second.goes;
  }

-- ---- a checkpoint is begun

module _ (generation : ℕ) (payload : List ℕ) (made : ℕ) (few : generation < 2 ^ 62) (short : length payload < 2 ^ 36) (job first : Job) (is_job : job ≡ job_of generation payload Begun) where
  begun_phase : job.phase ≡ Begun
  begun_phase = ap (λ (j : Job). j.phase) is_job

  at_file : job.file ≡ image_file generation
  at_file = ap (λ (j : Job). j.file) is_job

  module _ (old mid : History) {T : Type 0} (result : Result T Failed) (step : Stepped job first result old mid) where
    goes_first : GoesOn (λ other. other ≡ image_file generation) old mid
    goes_first = subst (λ (n : ℕ). GoesOn (λ other. other ≡ n) old mid) at_file step.goes

    goes_start : GoesOn (IsOf generation) old mid
    goes_start = goes_weaker (λ other. other ≡ image_file generation) (IsOf generation) old mid (λ other here. inl here) goes_first

    since_first : (bound : ℕ) → StaysOlder bound (image_file generation) old → EachImage (now old) mid (λ files. Older bound (image_file generation) (files (image_file generation)))
    since_first bound stays =
        subst (λ (n : ℕ). EachImage (now old) mid (λ files. Older bound n (files n))) at_file
        (each_older bound job.file old mid (subst (λ (n : ℕ). StaysOlder bound n old) (sym at_file) stays) (step.shut (subst (λ (p : Phase). IsWriting p) (sym begun_phase) tt)) (step.older begun_phase))

  -- the first step failed
  pub not_started : {T E : Type 0} (failed : Failed) (why : E) (old new : History) → (let result : Result T Failed = Err failed in Stepped job first result old new) → (let result : Result Pending E = Err why in Starts generation payload made result old new)
  not_started failed why old new step = record { goes = goes_start old new (Err failed) step; stands = tt; since = since_first old new (Err failed) step }

  module _ (old mid new : History) {T : Type 0} (answer : T) (step : (let result : Result T Failed = Ok answer in Stepped job first result old mid)) (is_first : first ≡ at_phase (written_to 65536 (length payload)) job) where
    shut_first : (bound : ℕ) → StaysOlder bound (image_file generation) old → FirmShut (standing mid (image_file generation))
    shut_first bound stays =
        subst (λ (n : ℕ). FirmShut (standing mid n)) at_file
        (shut_mid job first begun_phase (ap (λ (j : Job). j.file) is_first) (ap (λ (j : Job). j.phase) is_first ∙ ap (λ (j : Job). written_to 65536 (length j.payload)) (sym is_job)) answer old mid mid step bound
        (subst (λ (n : ℕ). StaysOlder bound n old) (sym at_file) stays))

    stands_first : (bound : ℕ) (journal : List Entry) → NeverSpent Server generation payload → StaysOlder bound (image_file generation) old → made ≡ length journal → StandsAt generation payload journal (record { job = first; start = made; copied = made; log = None }) mid
    stands_first bound journal unspent stays all = record {
      few = few;
      unspent = unspent;
      small = omega (arith, short);
      job = is_first ∙ ap (λ (j : Job). at_phase (written_to 65536 (length payload)) j) is_job ∙ ap (job_of generation payload) (sym (ap (λ (j : Job). j.phase) is_first));
      underway = step.underway (subst (λ (p : Phase). UnderwayAs p job old) (sym begun_phase) (can_shut bound job.file old (subst (λ (n : ℕ). StaysOlder bound n old) (sym at_file) stays)));
      shut = shut_first bound stays;
      copies = refl;
      ordered = omega arith;
      within = omega (arith, all);
    }

    module _ {U E : Type 0} (next : Pending) (result : Result U E) (further : Furthered generation (record { job = first; start = made; copied = made; log = None }) next result mid new) where
      goes_further : GoesOn (IsOf generation) old new
      goes_further = goes_then (IsOf generation) old mid new (goes_start old mid (Ok answer) step) further.goes

      since_further : (bound : ℕ) → StaysOlder bound (image_file generation) old → EachImage (now old) new (λ files. Older bound (image_file generation) (files (image_file generation)))
      since_further bound stays =
          each_then (IsOf generation) old mid new (λ files. Older bound (image_file generation) (files (image_file generation))) further.goes (since_first old mid (Ok answer) step bound stays)
          (each_weaker (now mid) new (λ files. IsClosed (files (image_file generation))) _ (λ image closed. inl closed) (further.shut (shut_first bound stays)).1)

    pub started_not : {U E F : Type 0} (next : Pending) (failed : E) (why : F) → (let result : Result U E = Err failed in Furthered generation (record { job = first; start = made; copied = made; log = None }) next result mid new) → (let result : Result Pending F = Err why in Starts generation payload made result old new)
    started_not {U} next failed why further = record { goes = goes_further {U = U} next (Err failed) further; stands = tt; since = since_further {U = U} next (Err failed) further }

    pub started : {U E F : Type 0} (next : Pending) (done : U) → (let result : Result U E = Ok done in Furthered generation (record { job = first; start = made; copied = made; log = None }) next result mid new) → (let result : Result Pending F = Ok next in Starts generation payload made result old new)
    started {U} {E} next done further = record {
      goes = goes_further {E = E} next (Ok done) further;
      stands = λ bound journal unspent stays all. further.stands payload journal (stands_first bound journal unspent stays all);
      since = since_further {E = E} next (Ok done) further;
    }

-- records were copied to it
pub log_extended : {E F : Type 0} (generation : ℕ) (pending : Pending) (before its : log.State) (is_log : before.file ≡ log_file generation) (batch : List ℕ) (place : ℕ) (old new : History) → pending.log ≡ Some before → its.end ≡ before.end + length batch
    → (let result : Result (Unit {0}) F = Ok tt in Copied before.file before.end batch result old new) → (let result : Result (Unit {0}) E = Ok tt in Extended generation pending (record { job = pending.job; start = pending.start; copied = place; log = Some its }) batch place result old new)
log_extended generation pending before its is_log batch place old new there ends copied = record {
  goes = goes_gen generation before.file is_log old new copied.goes;
  stands = λ payload journal at is fits from to.
      let was : IsWritten old (log_file generation) (records_between journal pending.start pending.copied) before.end = subst (λ (l : Option log.State). CopiesAt generation journal pending.start pending.copied l old) there at.copies in
      let written = copied.written (records_between journal pending.start pending.copied) (records_between journal pending.copied place) (subst (λ (n : ℕ). IsWritten old n (records_between journal pending.start pending.copied) before.end) (sym is_log) was) is fits in
      record {
        few = at.few;
        unspent = at.unspent;
        small = at.small;
        job = at.job;
        underway = under_log generation before.file is_log old new copied.goes payload pending.job at.job at.underway;
        shut = (keeps_log generation before.file is_log old new copied.goes at.shut).0;
        copies =
            subst (λ (l : List (List ℕ)). IsWritten new (log_file generation) l its.end) (between_join journal pending.start pending.copied place at.ordered from)
            (subst (λ (n : ℕ). IsWritten new (log_file generation) (records_between journal pending.start pending.copied ++ records_between journal pending.copied place) n) (sym ends)
            (subst (λ (n : ℕ). IsWritten new n (records_between journal pending.start pending.copied ++ records_between journal pending.copied place) (before.end + length batch)) is_log written));
        ordered = omega (arith, at.ordered, from);
        within = to;
      };
  shut = keeps_log generation before.file is_log old new copied.goes;
}

pub log_not_extended : {E F : Type 0} (generation : ℕ) (pending next : Pending) (file end : ℕ) (is_log : file ≡ log_file generation) (batch : List ℕ) (place : ℕ) (old new : History) (failed : F) (why : E) → (let result : Result (Unit {0}) F = Err failed in Copied file end batch result old new)
    → (let result : Result (Unit {0}) E = Err why in Extended generation pending next batch place result old new)
log_not_extended generation pending next file end is_log batch place old new failed why copied = record { goes = goes_gen generation file is_log old new copied.goes; stands = tt; shut = keeps_log generation file is_log old new copied.goes }

-- its log was to be made durable, and that failed
pub not_sealed : {E F : Type 0} (generation : ℕ) (pending : Pending) (file end : ℕ) (is_log : file ≡ log_file generation) (old new : History) (failed : F) (why : E) → (let result : Result (Unit {0}) F = Err failed in Sealed file end result old new) → (let result : Result log.State E = Err why in Finished generation pending result old new)
not_sealed generation pending file end is_log old new failed why sealed = record {
  goes = goes_gen generation file is_log old new sealed.goes;
  stands = tt;
  since = λ payload journal at. each_weaker (now old) new _ _ (λ files closed. inl closed) (shut_since generation file is_log old new sealed.goes at.shut);
}

-- it was, and then the gate was opened
module _ (generation : ℕ) (pending : Pending) (orderly : IsOrderly generation pending) (its : log.State) (there : pending.log ≡ Some its) (is_log : its.file ≡ log_file generation) (durable : pending.job.phase ≡ Durable) (job : Job) (old mid new : History) {F : Type 0} (sealed : (let result : Result (Unit {0}) F = Ok tt in Sealed its.file its.end result old mid)) where
  module _ (payload : List ℕ) (journal : List Entry) (at : StandsAt generation payload journal pending old) where
    records : List (List ℕ)
    records = records_between journal pending.start pending.copied

    sure_mid : IsSure mid (log_file generation) (records_between journal pending.start pending.copied) its.end
    sure_mid =
        subst (λ (n : ℕ). IsSure mid n (records_between journal pending.start pending.copied) its.end) is_log
        (sealed.sure (records_between journal pending.start pending.copied) (subst (λ (n : ℕ). IsWritten old n (records_between journal pending.start pending.copied) its.end) (sym is_log)
        (subst (λ (l : Option log.State). CopiesAt generation journal pending.start pending.copied l old) there at.copies)))

    under_mid : Underway pending.job mid
    under_mid = under_log generation its.file is_log old mid sealed.goes payload pending.job at.job at.underway

    module _ {T : Type 0} (result : Result T Failed) (step : Stepped pending.job job result mid new) where
      goes_gate : GoesOn (λ other. other ≡ image_file generation) mid new
      goes_gate = subst (λ (n : ℕ). GoesOn (λ other. other ≡ n) mid new) orderly.file step.goes

      since_gate : EachImage (now mid) new (λ files. IsClosed (files (image_file generation)) ⊎ HasBoth generation payload (records_between journal pending.start pending.copied) files)
      since_gate moment image from to here =
          let log : LogEnds (image (log_file generation)) (records_between journal pending.start pending.copied) = sure_since (λ other. other ≡ image_file generation) mid new (log_file generation) (records_between journal pending.start pending.copied) its.end (log_image generation) goes_gate sure_mid moment image from to here in
          ⊎_elim
          (λ closed. inl (subst (λ (j : Job). IsClosed (image j.file)) at.job closed))
          (λ stands. inr (
            stands_image (image_file generation) generation Server (image (image_file generation)) payload (at.few, refl) at.unspent at.small
                (subst (λ (j : Job). Rattle.store_api.specs.Runs.Stands (image j.file) 0 (Rattle.db_image.specs.Images.image_bytes j.mark j.number j.payload)) at.job stands),
            log,
          ))
          (step.opening durable under_mid moment image from to here)

  module _ {T : Type 0} (result : Result T Failed) (step : Stepped pending.job job result mid new) where
    goes_both : GoesOn (IsOf generation) old new
    goes_both =
        goes_then (IsOf generation) old mid new (goes_gen generation its.file is_log old mid sealed.goes)
        (goes_weaker (λ other. other ≡ pending.job.file) (IsOf generation) mid new (λ other here. inl (here ∙ orderly.file)) step.goes)

    since_both : (payload : List ℕ) (journal : List Entry) → StandsAt generation payload journal pending old → EachImage (now old) new (λ files. IsClosed (files (image_file generation)) ⊎ HasBoth generation payload (records_between journal pending.start pending.copied) files)
    since_both payload journal at =
        each_then (λ other. other ≡ pending.job.file) old mid new (λ files. IsClosed (files (image_file generation)) ⊎ HasBoth generation payload (records_between journal pending.start pending.copied) files) step.goes
        (each_weaker (now old) mid _ _ (λ files closed. inl closed) (shut_since generation its.file is_log old mid sealed.goes at.shut)) (since_gate payload journal at result step)

  pub not_opened : {T E : Type 0} (failed : Failed) (why : E) → (let result : Result T Failed = Err failed in Stepped pending.job job result mid new) → (let result : Result log.State E = Err why in Finished generation pending result old new)
  not_opened failed why step = record { goes = goes_both (Err failed) step; stands = tt; since = since_both (Err failed) step }

  pub is_finished : {T E : Type 0} (answer : T) (last : log.State) → last.end ≡ its.end → job ≡ at_phase Open pending.job → (let result : Result T Failed = Ok answer in Stepped pending.job job result mid new) → (let result : Result log.State E = Ok last in Finished generation pending result old new)
  is_finished answer last ends is step = record {
    goes = goes_both (Ok answer) step;
    stands = λ payload journal at. (
      record {
        firm = subst (λ (j : Job). Underway j new) (is ∙ ap (λ (j : Job). at_phase Open j) at.job) (step.underway (under_mid payload journal at));
        allowed = (at.few, refl);
        unspent = at.unspent;
        small = at.small;
      },
      subst (λ (n : ℕ). IsSure new (log_file generation) (records_between journal pending.start pending.copied) n) (sym ends)
          (sure_beside (λ other. other ≡ image_file generation) mid new (log_file generation) (records_between journal pending.start pending.copied) its.end (log_image generation) (goes_gate payload journal at (Ok answer) step) (sure_mid payload journal at)),
    );
    since = since_both (Ok answer) step;
  }

-- ---- what a step leaves of the checkpoint's form

-- the image went on
pub orderly_on : (generation : ℕ) (pending : Pending) (job : Job) → IsOrderly generation pending → pending.log ≡ None → (pending.job.phase ≡ Durable → ⊥) → job ≡ at_phase (further pending.job.phase (length pending.job.payload)) pending.job
    → IsOrderly generation (record { job = job; start = pending.start; copied = pending.copied; log = pending.log })
orderly_on generation pending job orderly none going is = record {
  number = ap (λ (j : Job). j.number) is ∙ orderly.number;
  file = ap (λ (j : Job). j.file) is ∙ orderly.file;
  mark = ap (λ (j : Job). j.mark) is ∙ orderly.mark;
  going = subst IsGoing (sym (ap (λ (j : Job). j.phase) is)) (going_on pending.job.phase (length pending.job.payload) orderly.going going);
  log = orderly.log;
  durable = λ some. absurd (false≢true (subst (λ (l : Option log.State). IsSome l) none some));
  ordered = orderly.ordered;
}

-- its log was begun, or is another than before
pub orderly_log : (generation : ℕ) (pending : Pending) (place : ℕ) (its : log.State) → IsOrderly generation pending → pending.job.phase ≡ Durable → its.file ≡ log_file generation → its.doubt ≡ None → pending.copied ≤ place
    → IsOrderly generation (record { job = pending.job; start = pending.start; copied = place; log = Some its })
orderly_log generation pending place its orderly durable is_log sure from = record {
  number = orderly.number;
  file = orderly.file;
  mark = orderly.mark;
  going = orderly.going;
  log = (is_log, sure);
  durable = λ some. durable;
  ordered = omega (arith, orderly.ordered, from);
}

-- records are copied one by one
pub between_one : (journal : List Entry) (start place : ℕ) (e : Entry) → start ≤ place → place < length journal → get_or journal place e ≡ e → records_between journal start (place + 1) ≡ records_between journal start place ++ entry.spell e ∷ []
between_one journal start place e from to is = sym (between_join journal start place (place + 1) from (omega arith)) ∙ ap (λ (l : List (List ℕ)). records_between journal start place ++ l) (ap (map entry.spell) (ap (λ n. take n (drop place journal)) (let one : place + 1 - place ≡ 1 = omega arith in one) ∙ take_one))
  where
    take_one : take 1 (drop place journal) ≡ e ∷ []
    take_one = ap (take 1) (drop-cons journal place e to) ∙ ap (λ (x : Entry). x ∷ []) is

-- one entry more behind a place of the journal
pub behind_more : (n : ℕ) (journal : List Entry) (e : Entry) → n ≤ length journal → reverse (drop n (journal ++ e ∷ [])) ≡ e ∷ reverse (drop n journal)
behind_more n journal e le = ap (λ (l : List Entry). reverse l) (drop-append-le n journal (e ∷ []) le) ∙ reverse-append (drop n journal) (e ∷ [])

-- ---- a checkpoint in progress, while entries are committed and forced

module _ {D : Type 0} (m : Meaning D) (vault : State D) (old new : History) (goes : GoesOn (λ file. file ≡ log_file vault.generation) old new) where
  stands_new : (payload : List ℕ) (pending : Pending) → StandsAt (vault.generation + 1) payload vault.journal pending old → StandsAt (vault.generation + 1) payload vault.journal pending new
  stands_new payload pending at =
      stands_beside (vault.generation + 1) payload vault.journal pending (λ file. file ≡ log_file vault.generation) old new (image_log (vault.generation + 1) vault.generation) (λ e. log_next vault.generation (sym e)) goes at

  pub pending_waiting : (e : Entry) → entry.Fits e → IsLegal m vault.database e → (snapshot : D) → IsPending m vault snapshot old → IsPending m (with_waiting m vault e) snapshot new
  pending_waiting e fits legal snapshot is = record {
    pending = is.pending;
    is = is.is;
    valid = is.valid;
    stands = stands_more (vault.generation + 1) (m.spelled second_form snapshot) vault.journal (e ∷ []) is.pending new (stands_new (m.spelled second_form snapshot) is.pending is.stands);
    legal = subst (λ (l : List Entry). AllLegal m snapshot l) (sym more) (fits, subst (λ (d : D). IsLegal m d e) is.gives legal, is.legal);
    gives = ap (λ (d : D). m.after d e) is.gives ∙ ap (after_all m snapshot) (sym more);
  }
    where
      more : reverse (drop is.pending.start (vault.journal ++ e ∷ [])) ≡ e ∷ reverse (drop is.pending.start vault.journal)
      more = behind_more is.pending.start vault.journal e (omega (arith, is.stands.ordered, is.stands.within))

  pub pending_forced : (snapshot : D) → IsPending m vault snapshot old → IsPending m (all_forced vault) snapshot new
  pending_forced snapshot is = record {
    pending = is.pending;
    is = is.is;
    valid = is.valid;
    stands = stands_new (m.spelled second_form snapshot) is.pending is.stands;
    legal = is.legal;
    gives = is.gives;
  }

  pub shut_log : StaysShut m vault old new
  shut_log snapshot is =
      each_weaker (now old) new (λ files. Leaves (standing old (image_file (vault.generation + 1))) (files (image_file (vault.generation + 1)))) _ (λ image leaves. shut_left old (image_file (vault.generation + 1)) (image (image_file (vault.generation + 1))) is.stands.shut leaves)
      (goes_images (λ file. file ≡ log_file vault.generation) old new (image_file (vault.generation + 1)) (image_log (vault.generation + 1) vault.generation) goes)

-- ---- records are put together

-- none yet
pub batch_none : (journal : List Entry) (from : ℕ) → records_between journal from from ≡ []
batch_none journal from = between_none journal from from refl

-- one more
pub batch_more : (journal : List Entry) (from place : ℕ) (e : Entry) (old new framed : List ℕ) → from ≤ place → place < length journal → get_or journal place e ≡ e → framed ≡ entry.spell e → Fits framed → new ≡ old ++ block framed
    → old ≡ blocks (records_between journal from place) → AllByRecursion Fits (records_between journal from place)
    → (new ≡ blocks (records_between journal from (place + 1))) × AllByRecursion Fits (records_between journal from (place + 1)) × (length new ≡ length old + (5 + length framed))
batch_more journal from place e old new framed a b at is fits add have all =
    let one : records_between journal from (place + 1) ≡ records_between journal from place ++ framed ∷ [] = between_one journal from place e a b at ∙ ap (λ (l : List ℕ). records_between journal from place ++ l ∷ []) (sym is) in (
      add ∙ ap (λ (l : List ℕ). l ++ block framed) have ∙ sym (blocks-append (records_between journal from place) framed) ∙ ap blocks (sym one),
      subst (λ (l : List (List ℕ)). AllByRecursion Fits l) (sym one) (fits-append (records_between journal from place) framed all fits),
      ap length add ∙ length-append old (block framed) ∙ ap (λ n. length old + n) (length-block framed),
    )

-- ---- a checkpoint in progress, while others work on other files

pub pending_shut : {D : Type 0} (m : Meaning D) (vault : State D) (snapshot : D) (h : History) → IsPending m vault snapshot h → (files : ℕ → List ℕ) → ImageAt h (now h) files → IsClosed (files (image_file (vault.generation + 1)))
pending_shut m vault snapshot h is files here = shut_left h (image_file (vault.generation + 1)) (files (image_file (vault.generation + 1))) is.stands.shut (now_image h files here (image_file (vault.generation + 1)))

pub pending_beside : {D : Type 0} (m : Meaning D) (theirs : ℕ → Type 0) (vault : State D) (snapshot : D) (old new : History) → ((file : ℕ) → IsOurs file → ¬ theirs file) → GoesOn theirs old new → IsPending m vault snapshot old → IsPending m vault snapshot new
pending_beside m theirs vault snapshot old new apart goes is = record {
  pending = is.pending;
  is = is.is;
  valid = is.valid;
  stands =
      stands_beside (vault.generation + 1) (m.spelled second_form snapshot) vault.journal is.pending theirs old new (apart (image_file (vault.generation + 1)) (image_ours (vault.generation + 1))) (apart (log_file (vault.generation + 1)) (log_ours (vault.generation + 1))) goes is.stands;
  legal = is.legal;
  gives = is.gives;
}
