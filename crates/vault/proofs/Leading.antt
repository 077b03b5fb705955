-- What a vault is while a checkpoint goes on, and after it.
use Rattle.std.proofs.Common.{◌≡◌, ⊎_elim, inl, inr, ℕ, ◌+◌, ◌<◌, ◌≤◌, List, [], ◌∷◌, ◌++◌, length, drop, map, reverse, Option, Some, None, Result, Ok, Err, OnOk, IfOk, refl, sym, ◌∙◌, ap, subst, arith}
use Rattle.std.specs.List.{AllByRecursion}
use Rattle.std.proofs.lemmas.List.{drop_all, map-append, reverse-append, reverse-reverse}
use Rattle.store_api.specs.Disk.{History, standing, now, ImageAt}
use Rattle.store_api.specs.Runs.{GoesOn, EachImage}
use Rattle.store_api.specs.Told.{Told}
use Rattle.store_api.proofs.Runs.{goes_none, goes_then, goes_weaker, goes_images, each_then, each_weaker, now_image}
use Rattle.kinds.specs.declared.refusal.Refusal.{Refusal}
use Rattle.log_file.specs.Blocks.{Fits, blocks, IsClosed, LogEnds}
use Rattle.log_file.specs.Sure.{IsSure, HasWaiting}
use Rattle.log_file.specs.Sure as log
use Rattle.log_file.proofs.Logs.{sure_left, sure_beside, sure_since}
use Rattle.log_file.proofs.Appending.{waiting_beside}
use Rattle.db_image.specs.declared.phase.Progress.{Progress}
use Rattle.db_image.specs.declared.phase.Progress.TheVariants.{More, Done}
use Rattle.db_image.specs.Steps.{FirmShut, KeepsShut}
use Rattle.entries.specs.declared.entry.Entry.{Entry}
use Rattle.entries.specs.EntryForm.{entry}
use Rattle.fields.specs.Editions.{second_form}
use Rattle.entries.specs.Meaning.{Meaning, IsMeaning}
use Rattle.vault.specs.Files.{image_file, log_file, IsOurs, IsOf}
use Rattle.vault.specs.Recovery.{Older, Newest, records_of, after_all, AllLegal, RecoversWithin}
use Rattle.vault.specs.Images.{StaysOlder}
use Rattle.vault.specs.Pieces.{Pending, records_between, StandsAt, Starts, Furthered, Extended, Finished}
use Rattle.vault.specs.Vaults.{State, Holds, IsGood, IsHeld, IsPending, all_forced, with_pending, at_done, IsMadeOf, RecoversToEither, IsLeft, Forces, Begins, Started, Pieced, GoesTo}
use Rattle.vault.proofs.Leaving.{either_after}
use Rattle.vault.proofs.Goodness.{image_again, image_left, image_beside, older_left, newest_left, held_since, held_is}
use Rattle.vault.proofs.Committing.{good_held, log_goes}
use Rattle.vault.proofs.Checkpointing.{of_ours, image_apart, log_apart, written_unspent}
use Rattle.vault.proofs.Piecing.{between_all}

-- the records of entries, oldest first
spelled : (entries : List Entry) → records_of entries ≡ map entry.spell (reverse entries)
spelled [] = refl
spelled (e ∷ entries) =
    ap (λ (l : List (List ℕ)). l ++ entry.spell e ∷ []) (spelled entries)
    ∙ sym (ap (map entry.spell) (reverse-append (e ∷ []) entries) ∙ map-append entry.spell (reverse entries) (e ∷ []))

records_reverse : (entries : List Entry) → records_of (reverse entries) ≡ map entry.spell entries
records_reverse entries = spelled (reverse entries) ∙ ap (map entry.spell) (reverse-reverse entries)

-- the checkpoint that was begun
abbrev pub of_some : Pending → Option Pending → Pending
of_some p None = p
of_some p (Some q) = q

same_pending : {D : Type 0} (m : Meaning D) (vault : State D) (snapshot : D) (h : History) (is : IsPending m vault snapshot h) (pending : Pending) → vault.pending ≡ Some pending → is.pending ≡ pending
same_pending m vault snapshot h is pending there = ap (of_some pending) (sym is.is ∙ there)

-- ---- a step that writes only files of the next generation

module _ {D : Type 0} (m : Meaning D) (vault : State D) (old new : History) (goes : GoesOn (IsOf (vault.generation + 1)) old new) where
  next : ℕ
  next = vault.generation + 1

  goes_ours : GoesOn IsOurs old new
  goes_ours = goes_weaker (IsOf (vault.generation + 1)) IsOurs old new (of_ours (vault.generation + 1)) goes

  -- the newest image and its log are as they were
  module _ (durable : D) (held : IsHeld m vault durable old) where
    -- an image since whose other gate is shut
    closed_recovers : (moment : ℕ) (files : ℕ → List ℕ) → now old ≤ moment → moment ≤ now new → ImageAt new moment files → IsClosed (files (image_file (vault.generation + 1))) → RecoversWithin m files durable
    closed_recovers moment files from to here closed =
        subst (RecoversWithin m files) (sym held.gives) (record {
          form = second_form;
          generation = vault.generation;
          base = held.base;
          entries = held.entries;
          valid = held.holds.valid;
          newest = record {
            stands = image_left old (image_file vault.generation) vault.generation (m.spelled second_form held.base) (files (image_file vault.generation)) held.holds.image (goes_images (IsOf (vault.generation + 1)) old new (image_file vault.generation) (image_apart vault.generation) goes moment files from to here);
            other = inl closed;
          };
          log = sure_since (IsOf (vault.generation + 1)) old new (log_file vault.generation) (records_of held.entries) vault.sure (log_apart vault.generation) goes held.holds.log moment files from to here;
          legal = held.holds.legal;
          gives = refl;
        })

    held_new : FirmShut (standing new (image_file (vault.generation + 1))) → IsHeld m vault durable new
    held_new shut =
        let log : IsSure new (log_file vault.generation) (records_of held.entries) vault.sure = sure_beside (IsOf (vault.generation + 1)) old new (log_file vault.generation) (records_of held.entries) vault.sure (log_apart vault.generation) goes held.holds.log in
        record {
          base = held.base;
          entries = held.entries;
          waiting = held.waiting;
          holds = record {
            image = image_beside (IsOf (vault.generation + 1)) old new goes (image_file vault.generation) vault.generation (m.spelled second_form held.base) (image_apart vault.generation) held.holds.image;
            other = inl shut;
            log = log;
            valid = held.holds.valid;
            legal = held.holds.legal;
          };
          gives = held.gives;
          log = waiting_beside (IsOf (vault.generation + 1)) old new (log_file vault.generation) (records_of held.entries) (records_of held.waiting) vault.sure vault.end (log_apart vault.generation) goes log held.log;
          legal = held.legal;
          all = held.all;
          are = held.are;
          within = held.within;
        }

  -- while the image's gate stays shut
  module _ (keeps : KeepsShut (image_file (vault.generation + 1)) old new) where
    since_shut : (durable snapshot : D) → IsHeld m vault durable old → IsPending m vault snapshot old → EachImage (now old) new (RecoversToEither m durable vault.database)
    since_shut durable snapshot held is moment files from to here = inl (closed_recovers durable held moment files from to here ((keeps is.stands.shut).1 moment files from to here))

    left_shut : (durable snapshot : D) → IsHeld m vault durable old → IsPending m vault snapshot old → IsLeft (RecoversToEither m durable vault.database) new
    left_shut durable snapshot held is = either_after m IsOurs durable vault.database old new goes_ours (since_shut durable snapshot held is)

    pub pieced_failed : {E : Type 0} (why : E) (after : State D) → (let result : Result Progress E = Err why in Pieced m vault result after old new)
    pieced_failed why after = record { goes = goes_ours; leads = tt; since = since_shut; left = left_shut; shut = tt }

    pub pieced_more : {E : Type 0} (pending last : Pending) (after : State D) → vault.pending ≡ Some pending → last.start ≡ pending.start → after ≡ with_pending vault (Some last) → ((payload : List ℕ) → StandsAt (vault.generation + 1) payload vault.journal pending old → StandsAt (vault.generation + 1) payload vault.journal last new)
        → (let result : Result Progress E = Ok More in Pieced m vault result after old new)
    pieced_more pending last after there same is_after on = record {
      goes = goes_ours;
      leads = λ durable snapshot held is.
          let which : is.pending ≡ pending = same_pending m vault snapshot old is pending there in
          let stood : StandsAt (vault.generation + 1) (m.spelled second_form snapshot) vault.journal pending old = subst (λ (p : Pending). StandsAt (vault.generation + 1) (m.spelled second_form snapshot) vault.journal p old) which is.stands in
          let stands = on (m.spelled second_form snapshot) stood in
          let starts : is.pending.start ≡ last.start = ap (λ (p : Pending). p.start) which ∙ sym same in
          subst (λ (v : State D). IsPending m v snapshot new × IsHeld m v durable new) (sym is_after) (
            record {
              pending = last;
              is = refl;
              valid = is.valid;
              stands = stands;
              legal = subst (λ (n : ℕ). AllLegal m snapshot (reverse (drop n vault.journal))) starts is.legal;
              gives = subst (λ (n : ℕ). vault.database ≡ after_all m snapshot (reverse (drop n vault.journal))) starts is.gives;
            },
            held_pending (held_new durable held stands.shut),
          );
      since = since_shut;
      left = left_shut;
      shut = λ snapshot is. (keeps is.stands.shut).1;
    }
      where
        held_pending : {durable : D} → IsHeld m vault durable new → IsHeld m (with_pending vault (Some last)) durable new
        held_pending held = record { base = held.base; entries = held.entries; waiting = held.waiting; holds = held.holds; gives = held.gives; log = held.log; legal = held.legal; all = held.all; are = held.are; within = held.within }

-- a piece was written, or records were copied; or that failed
module _ {D : Type 0} (m : Meaning D) (vault : State D) (generation : ℕ) (is_generation : generation ≡ vault.generation) (pending last : Pending) (after : State D) (old new : History) where
  pub pieced_furthered : {T F E : Type 0} (done : T) → vault.pending ≡ Some pending → last.start ≡ pending.start → after ≡ with_pending vault (Some last) → (let result : Result T F = Ok done in Furthered (generation + 1) pending last result old new) → (let result : Result Progress E = Ok More in Pieced m vault result after old new)
  pieced_furthered {T} {F} done there same is_after further =
      let f : (let result : Result T F = Ok done in Furthered (vault.generation + 1) pending last result old new) = subst (λ (k : ℕ). let result : Result T F = Ok done in Furthered (k + 1) pending last result old new) is_generation further in
      pieced_more m vault old new f.goes f.shut pending last after there same is_after (λ payload at. f.stands payload vault.journal at)

  pub pieced_not_furthered : {T F E : Type 0} (failed : F) (why : E) → (let result : Result T F = Err failed in Furthered (generation + 1) pending last result old new) → (let result : Result Progress E = Err why in Pieced m vault result after old new)
  pieced_not_furthered {T} {F} failed why further =
      let f : (let result : Result T F = Err failed in Furthered (vault.generation + 1) pending last result old new) = subst (λ (k : ℕ). let result : Result T F = Err failed in Furthered (k + 1) pending last result old new) is_generation further in
      pieced_failed m vault old new f.goes f.shut why after

  module _ (batch : List ℕ) (place : ℕ) where
    pub pieced_extended : {T F E : Type 0} (done : T) → vault.pending ≡ Some pending → last.start ≡ pending.start → after ≡ with_pending vault (Some last) → (journal : List Entry) → journal ≡ vault.journal → (copied : ℕ) → pending.copied ≡ copied → batch ≡ blocks (records_between journal copied place)
        → AllByRecursion Fits (records_between journal copied place) → (copied < place) × (place ≤ length journal) → (let result : Result T F = Ok done in Extended (generation + 1) pending last batch place result old new) → (let result : Result Progress E = Ok More in Pieced m vault result after old new)
    pieced_extended {T} {F} done there same is_after journal is_journal copied is_copied are fits bounds extended =
        let f : (let result : Result T F = Ok done in Extended (vault.generation + 1) pending last batch place result old new) = subst (λ (k : ℕ). let result : Result T F = Ok done in Extended (k + 1) pending last batch place result old new) is_generation extended in
        let records : records_between journal copied place ≡ records_between vault.journal pending.copied place = ap (λ (l : List Entry). records_between l copied place) is_journal ∙ ap (λ n. records_between vault.journal n place) (sym is_copied) in
        pieced_more m vault old new f.goes f.shut pending last after there same is_after
        (λ payload at. f.stands payload vault.journal at (are ∙ ap blocks records) (subst (λ (l : List (List ℕ)). AllByRecursion Fits l) records fits) (let lt : copied < place = bounds.0 in omega (arith, lt, is_copied)) (subst (λ (l : List Entry). place ≤ length l) is_journal bounds.1))

    pub pieced_not_extended : {T F E : Type 0} (failed : F) (why : E) → (let result : Result T F = Err failed in Extended (generation + 1) pending last batch place result old new) → (let result : Result Progress E = Err why in Pieced m vault result after old new)
    pieced_not_extended {T} {F} failed why extended =
        let f : (let result : Result T F = Err failed in Extended (vault.generation + 1) pending last batch place result old new) = subst (λ (k : ℕ). let result : Result T F = Err failed in Extended (k + 1) pending last batch place result old new) is_generation extended in
        pieced_failed m vault old new f.goes f.shut why after

-- ---- memory was wanted, and nothing was done

pub not_pieced : {D E : Type 0} (m : Meaning D) (vault after : State D) (why : E) (h : History) → (let result : Result Progress E = Err why in Pieced m vault result after h h)
not_pieced m vault after why h = record {
  goes = goes_none IsOurs h;
  leads = tt;
  since = λ durable snapshot held is. each_weaker (now h) h _ _ (λ files recovers. inl recovers) (held_since m (λ file. ⊥) vault durable h h (λ file ours no. no) (goes_none (λ file. ⊥) h) held);
  left = λ durable snapshot held is files left. inl (held_is m vault durable h held files left);
  shut = tt;
}

pub told_not_pieced : {D : Type 0} (x : Option History) (m : Meaning D) (vault after : State D) (why : Refusal) → Told x x (λ old new. let result : Result Progress Refusal = Err why in Pieced m vault result after old new)
told_not_pieced None m vault after why = tt
told_not_pieced (Some h) m vault after why = not_pieced m vault after why h

-- ---- what waits wasn't forced

pub pieced_not_forced : {D E : Type 0} (m : Meaning D) (vault after : State D) (old new : History) (why : E) → (let result : Result ℕ E = Err why in Forces m vault result after old new) → (let result : Result Progress E = Err why in Pieced m vault result after old new)
pieced_not_forced m vault after old new why forces = record {
  goes = log_goes vault.generation old new forces.goes;
  leads = tt;
  since = λ durable snapshot held is. forces.since durable held;
  left = λ durable snapshot held is. forces.left durable held;
  shut = tt;
}

-- it was, and then a last step was taken
module _ {D : Type 0} (m : Meaning D) (vault middle : State D) (is_middle : middle ≡ all_forced vault) (old mid new : History) {U F : Type 0} (number : U) (forces : (let result : Result U F = Ok number in Forces m vault result middle old mid)) where
  same_database : middle.database ≡ vault.database
  same_database = ap (λ (v : State D). v.database) is_middle

  held_mid : (durable : D) → IsHeld m vault durable old → IsHeld m middle vault.database mid
  held_mid durable held = subst (λ (d : D). IsHeld m middle d mid) same_database (good_held m middle mid (forces.good durable held))

  module _ {E : Type 0} (result : Result Progress E) (after : State D) (pieced : Pieced m middle result after mid new) where
    goes_two : GoesOn IsOurs old new
    goes_two = goes_then IsOurs old mid new (log_goes vault.generation old mid forces.goes) pieced.goes

    since_two : (durable snapshot : D) → IsHeld m vault durable old → IsPending m vault snapshot old → EachImage (now old) new (RecoversToEither m durable vault.database)
    since_two durable snapshot held is =
        each_then IsOurs old mid new (RecoversToEither m durable vault.database) pieced.goes (forces.since durable held)
        (each_weaker (now mid) new _ _ (λ files either. inr (⊎_elim (λ r. r) (λ r. subst (RecoversWithin m files) same_database r) either)) (pieced.since vault.database snapshot (held_mid durable held) (forces.pends snapshot is)))

    left_two : (durable snapshot : D) → IsHeld m vault durable old → IsPending m vault snapshot old → IsLeft (RecoversToEither m durable vault.database) new
    left_two durable snapshot held is = either_after m IsOurs durable vault.database old new goes_two (since_two durable snapshot held is)

  pub pieced_not_then : {E : Type 0} (why : E) (after : State D) → (let result : Result Progress E = Err why in Pieced m middle result after mid new) → (let result : Result Progress E = Err why in Pieced m vault result after old new)
  pieced_not_then why after pieced = record { goes = goes_two (Err why) after pieced; leads = tt; since = since_two (Err why) after pieced; left = left_two (Err why) after pieced; shut = tt }

  pub pieced_then : {E : Type 0} (after : State D) → (let result : Result Progress E = Ok Done in Pieced m middle result after mid new) → (let result : Result Progress E = Ok Done in Pieced m vault result after old new)
  pieced_then {E} after pieced = record {
    goes = goes_two {E = E} (Ok Done) after pieced;
    leads = λ durable snapshot held is.
        let done = pieced.leads vault.database snapshot (held_mid durable held) (forces.pends snapshot is) in
        (done.0, λ pending there. done.1 pending (ap (λ (v : State D). v.pending) is_middle ∙ there));
    since = since_two {E = E} (Ok Done) after pieced;
    left = left_two {E = E} (Ok Done) after pieced;
    shut = tt;
  }

-- an image of now has the newest image and its log
pub holds_made : {D : Type 0} (m : Meaning D) (generation : ℕ) (base : D) (entries : List Entry) (end : ℕ) (h : History) → Holds m generation base entries end h
    → EachImage (now h) h (λ files. Newest files generation (m.spelled second_form base) × LogEnds (files (log_file generation)) (records_of entries))
holds_made m generation base entries end h holds moment files from to here =
    let there = now_image h files (subst (λ k. ImageAt h k files) (let e : moment ≡ now h = omega (arith, from, to) in e) here) in (
      newest_left m generation base entries end h files holds (there (image_file generation)) (older_left generation (image_file (generation + 1)) h (files (image_file (generation + 1))) holds.other (there (image_file (generation + 1)))),
      sure_left h (log_file generation) (records_of entries) end (files (log_file generation)) holds.log (there (log_file generation)),
    )

-- a step that answers done, or fails
abbrev IsMore : Progress → Type 0
IsMore More = Unit {0}
IsMore Done = ⊥

pub pieced_behind : {D : Type 0} (P : Type 0) (m : Meaning D) (vault middle : State D) (is_middle : middle ≡ all_forced vault) (old mid new : History) {U F : Type 0} (number : U) (forces : (let result : Result U F = Ok number in Forces m vault result middle old mid)) {E : Type 0} (result : Result Progress E) (after : State D)
    → IfOk result (λ progress. (progress ≡ Done) × P) → Pieced m middle result after mid new → Pieced m vault result after old new
pieced_behind P m vault middle is_middle old mid new number forces (Ok More) after is pieced = absurd (subst IsMore is.0 tt)
pieced_behind P m vault middle is_middle old mid new number forces (Ok Done) after is pieced = pieced_then m vault middle is_middle old mid new number forces after pieced
pieced_behind P m vault middle is_middle old mid new number forces (Err why) after is pieced = pieced_not_then m vault middle is_middle old mid new number forces why after pieced

pub goes_behind : {D E : Type 0} (vault middle next : State D) → middle ≡ all_forced vault → (result : Result Progress E) → IfOk result (λ progress. (progress ≡ Done) × GoesTo middle next Done) → IfOk result (GoesTo vault next)
goes_behind vault middle last is_middle (Ok More) is = absurd (subst IsMore is.0 tt)
goes_behind {D} vault middle last is_middle (Ok Done) is = subst (λ (v : State D). GoesTo v last Done) is_middle is.1
goes_behind vault middle last is_middle (Err why) is = tt

-- the vault after the last step, from its parts
pub done_is : {D : Type 0} (generation forced now_forced sure new_sure end new_end : ℕ) (database : D) (journal : List Entry) (fault : Option (ℕ × ℕ)) (pending now_pending : Option Pending) (vault : State D)
    → record { generation = generation; database = database; journal = journal; forced = forced; sure = sure; end = end; fault = fault; pending = pending } ≡ vault → now_forced ≡ length journal → new_sure ≡ new_end → fault ≡ None → now_pending ≡ None
    → record { generation = generation + 1; database = database; journal = journal; forced = now_forced; sure = new_sure; end = new_end; fault = fault; pending = now_pending } ≡ at_done vault new_end
done_is {D} generation forced now_forced sure new_sure end new_end database journal fault pending now_pending vault view f s none gone =
    subst (λ (v : State D). record { generation = generation + 1; database = database; journal = journal; forced = now_forced; sure = new_sure; end = new_end; fault = fault; pending = now_pending } ≡ at_done v new_end) view (rw (f, s, none, gone) refl)

-- ---- the last step

module _ {D : Type 0} (m : Meaning D) (vault : State D) (pending : Pending) (there : vault.pending ≡ Some pending) (all : length vault.journal ≤ pending.copied) (old new : History) where
  -- the records that were copied are those of all entries behind the image's
  all_copied : (payload : List ℕ) → StandsAt (vault.generation + 1) payload vault.journal pending old → records_between vault.journal pending.start pending.copied ≡ records_of (reverse (drop pending.start vault.journal))
  all_copied payload at = between_all vault.journal pending.start pending.copied at.ordered (omega (arith, all, at.within)) ∙ sym (records_reverse (drop pending.start vault.journal))

  module _ {E : Type 0} (result : Result log.State E) (finished : Finished (vault.generation + 1) pending result old new) (durable snapshot : D) (held : IsHeld m vault durable old) (is : IsPending m vault snapshot old) where
    which : is.pending ≡ pending
    which = same_pending m vault snapshot old is pending there

    stood : StandsAt (vault.generation + 1) (m.spelled second_form snapshot) vault.journal pending old
    stood = subst (λ (p : Pending). StandsAt (vault.generation + 1) (m.spelled second_form snapshot) vault.journal p old) which is.stands

    legal_behind : AllLegal m snapshot (reverse (drop pending.start vault.journal))
    legal_behind = subst (λ (p : Pending). AllLegal m snapshot (reverse (drop p.start vault.journal))) which is.legal

    gives_behind : vault.database ≡ after_all m snapshot (reverse (drop pending.start vault.journal))
    gives_behind = subst (λ (p : Pending). vault.database ≡ after_all m snapshot (reverse (drop p.start vault.journal))) which is.gives

    since_close : EachImage (now old) new (RecoversToEither m durable vault.database)
    since_close moment files from to here =
        ⊎_elim
        (λ closed. inl (closed_recovers m vault old new finished.goes durable held moment files from to here closed))
        (λ both. inr (record {
          form = second_form;
          generation = vault.generation + 1;
          base = snapshot;
          entries = reverse (drop pending.start vault.journal);
          valid = is.valid;
          newest = record {
            stands = both.0;
            other = subst (λ (n : ℕ). Older (vault.generation + 1) n (files n)) (sym (image_again vault.generation)) (inr (
              vault.generation,
              m.spelled second_form held.base,
              image_left old (image_file vault.generation) vault.generation (m.spelled second_form held.base) (files (image_file vault.generation)) held.holds.image (goes_images (IsOf (vault.generation + 1)) old new (image_file vault.generation) (image_apart vault.generation) finished.goes moment files from to here),
              omega arith,
            ));
          };
          log = subst (λ (l : List (List ℕ)). LogEnds (files (log_file (vault.generation + 1))) l) (all_copied (m.spelled second_form snapshot) stood) both.1;
          legal = legal_behind;
          gives = gives_behind;
        }))
        (finished.since (m.spelled second_form snapshot) vault.journal stood moment files from to here)

    left_close : IsLeft (RecoversToEither m durable vault.database) new
    left_close = either_after m IsOurs durable vault.database old new (goes_ours m vault old new finished.goes) since_close

  pub pieced_not_done : {E F : Type 0} (failed : F) (why : E) (after : State D) → (let result : Result log.State F = Err failed in Finished (vault.generation + 1) pending result old new) → (let result : Result Progress E = Err why in Pieced m vault result after old new)
  pieced_not_done failed why after finished = record { goes = goes_ours m vault old new finished.goes; leads = tt; since = since_close (Err failed) finished; left = left_close (Err failed) finished; shut = tt }

  module _ {F : Type 0} (last : log.State) (finished : (let result : Result log.State F = Ok last in Finished (vault.generation + 1) pending result old new)) (durable snapshot : D) (held : IsHeld m vault durable old) (is : IsPending m vault snapshot old) where
    holds_done : Holds m (vault.generation + 1) snapshot (reverse (drop pending.start vault.journal)) last.end new
    holds_done =
        let stands = finished.stands (m.spelled second_form snapshot) vault.journal (stood (Ok last) finished durable snapshot held is) in
        record {
          image = stands.0;
          other = subst (λ (n : ℕ). StaysOlder (vault.generation + 1) n new) (sym (image_again vault.generation)) (inr (
            vault.generation,
            m.spelled second_form held.base,
            image_beside (IsOf (vault.generation + 1)) old new finished.goes (image_file vault.generation) vault.generation (m.spelled second_form held.base) (image_apart vault.generation) held.holds.image,
            omega arith,
          ));
          log = subst (λ (l : List (List ℕ)). IsSure new (log_file (vault.generation + 1)) l last.end) (all_copied (m.spelled second_form snapshot) (stood (Ok last) finished durable snapshot held is)) stands.1;
          valid = is.valid;
          legal = legal_behind (Ok last) finished durable snapshot held is;
        }

  pub pieced_done : {E F : Type 0} (last : log.State) (after : State D) → after ≡ at_done vault last.end → (let result : Result log.State F = Ok last in Finished (vault.generation + 1) pending result old new) → (let result : Result Progress E = Ok Done in Pieced m vault result after old new)
  pieced_done last after is_after finished = record {
    goes = goes_ours m vault old new finished.goes;
    leads = λ durable snapshot held is.
        let holds = holds_done last finished durable snapshot held is in (
          subst (λ (v : State D). IsGood m v new) (sym is_after)
              (record { base = snapshot; entries = reverse (drop pending.start vault.journal); holds = holds; gives = gives_behind (Ok last) finished durable snapshot held is; none = refl; all = refl }),
          λ which here.
              let starts : pending.start ≡ which.start = ap (λ (p : Pending). p.start) (ap (of_some pending) (sym there ∙ here)) in
              subst (λ (v : State D). EachImage (now new) new (IsMadeOf m v snapshot which.start)) (sym is_after)
              (subst (λ (n : ℕ). EachImage (now new) new (IsMadeOf m (at_done vault last.end) snapshot n)) starts
              (holds_made m (vault.generation + 1) snapshot (reverse (drop pending.start vault.journal)) last.end new holds)),
        );
    since = since_close (Ok last) finished;
    left = left_close (Ok last) finished;
    shut = tt;
  }

-- ---- a checkpoint is begun

-- nothing was done
pub not_begun : {D T E : Type 0} (m : Meaning D) (vault after : State D) (why : E) (h : History) → (let result : Result T E = Err why in Begins m vault result after h h)
not_begun m vault after why h = record {
  goes = goes_none IsOurs h;
  begun = tt;
  since = λ durable held. each_weaker (now h) h _ _ (λ files recovers. inl recovers) (held_since m (λ file. ⊥) vault durable h h (λ file ours no. no) (goes_none (λ file. ⊥) h) held);
  left = λ durable held files left. inl (held_is m vault durable h held files left);
}

pub told_not_begun : {D : Type 0} (T : Type 0) (x : Option History) (m : Meaning D) (vault after : State D) (why : Refusal) → Told x x (λ old new. let result : Result T Refusal = Err why in Begins m vault result after old new)
told_not_begun T None m vault after why = tt
told_not_begun T (Some h) m vault after why = not_begun m vault after why h

-- what waits wasn't forced
pub begins_not_forced : {D T U E : Type 0} (m : Meaning D) (vault after : State D) (why : E) (old new : History) → (let result : Result U E = Err why in Forces m vault result after old new) → (let result : Result T E = Err why in Begins m vault result after old new)
begins_not_forced m vault after why old new forces = record { goes = log_goes vault.generation old new forces.goes; begun = tt; since = forces.since; left = forces.left }

-- its image was begun
module _ {D : Type 0} (m : Meaning D) (vault : State D) (payload : List ℕ) (spelled_so : payload ≡ m.spelled second_form vault.database) (made : ℕ) (old new : History) where
  module _ {E : Type 0} (result : Result Pending E) (starts : Starts (vault.generation + 1) payload made result old new) where
    goes_starts : GoesOn IsOurs old new
    goes_starts = goes_weaker (IsOf (vault.generation + 1)) IsOurs old new (of_ours (vault.generation + 1)) starts.goes

    since_starts : IsGood m vault old → EachImage (now old) new (λ files. RecoversWithin m files vault.database)
    since_starts good moment files from to here =
        subst (RecoversWithin m files) (sym good.gives) (record {
          form = second_form;
          generation = vault.generation;
          base = good.base;
          entries = good.entries;
          valid = good.holds.valid;
          newest = record {
            stands = image_left old (image_file vault.generation) vault.generation (m.spelled second_form good.base) (files (image_file vault.generation)) good.holds.image (goes_images (IsOf (vault.generation + 1)) old new (image_file vault.generation) (image_apart vault.generation) starts.goes moment files from to here);
            other = starts.since vault.generation good.holds.other moment files from to here;
          };
          log = sure_since (IsOf (vault.generation + 1)) old new (log_file vault.generation) (records_of good.entries) vault.end (log_apart vault.generation) starts.goes good.holds.log moment files from to here;
          legal = good.holds.legal;
          gives = refl;
        })

  pub start_failed : {T E F : Type 0} (failed : F) (why : E) (after : State D) → (let result : Result Pending F = Err failed in Starts (vault.generation + 1) payload made result old new) → (let result : Result T E = Err why in Started m vault result after old new)
  start_failed failed why after starts = record { goes = goes_starts (Err failed) starts; begun = tt; since = since_starts (Err failed) starts }

  pub start_made : {T E F : Type 0} (pending : Pending) (begun : T) (after : State D) → IsMeaning m → m.Valid second_form vault.database → made ≡ length vault.journal → pending.start ≡ made → after ≡ with_pending vault (Some pending) → (let result : Result Pending F = Ok pending in Starts (vault.generation + 1) payload made result old new)
      → (let result : Result T E = Ok begun in Started m vault result after old new)
  start_made {T} {E} {F} pending begun after law valid all same is_after starts = record {
    goes = goes_starts {E = F} (Ok pending) starts;
    begun = λ good. subst (λ (v : State D). IsGood m v new × IsPending m v vault.database new) (sym is_after) (good_new good, pending_new good);
    since = since_starts {E = F} (Ok pending) starts;
  }
    where
      stands : IsGood m vault old → StandsAt (vault.generation + 1) (m.spelled second_form vault.database) vault.journal pending new
      stands good = subst (λ (l : List ℕ). StandsAt (vault.generation + 1) l vault.journal pending new) spelled_so (starts.stands vault.generation vault.journal (written_unspent m law (vault.generation + 1) payload vault.database valid spelled_so) good.holds.other all)

      good_new : IsGood m vault old → IsGood m (with_pending vault (Some pending)) new
      good_new good = record {
        base = good.base;
        entries = good.entries;
        holds = record {
          image = image_beside (IsOf (vault.generation + 1)) old new starts.goes (image_file vault.generation) vault.generation (m.spelled second_form good.base) (image_apart vault.generation) good.holds.image;
          other = inl (stands good).shut;
          log = sure_beside (IsOf (vault.generation + 1)) old new (log_file vault.generation) (records_of good.entries) vault.end (log_apart vault.generation) starts.goes good.holds.log;
          valid = good.holds.valid;
          legal = good.holds.legal;
        };
        gives = good.gives;
        none = good.none;
        all = good.all;
      }

      none_behind : reverse (drop pending.start vault.journal) ≡ []
      none_behind = ap (λ (l : List Entry). reverse l) (drop_all pending.start vault.journal (omega (arith, all, same)))

      pending_new : IsGood m vault old → IsPending m (with_pending vault (Some pending)) vault.database new
      pending_new good = record {
        pending = pending;
        is = refl;
        valid = valid;
        stands = stands good;
        legal = subst (λ (l : List Entry). AllLegal m vault.database l) (sym none_behind) tt;
        gives = sym (ap (after_all m vault.database) none_behind);
      }

-- what waits was forced, and then its image was begun
module _ {D : Type 0} (m : Meaning D) (vault middle : State D) (is_middle : middle ≡ all_forced vault) (old mid new : History) {U F : Type 0} (number : U) (forces : (let result : Result U F = Ok number in Forces m vault result middle old mid)) where
  pub begins_after : {T E : Type 0} (result : Result T E) (after : State D) → Started m middle result after mid new → Begins m vault result after old new
  begins_after {T} {E} result after started = record {
    goes = goes;
    begun = begun result started.begun;
    since = since;
    left = λ durable held. either_after m IsOurs durable vault.database old new goes (since durable held);
  }
    where
      same : middle.database ≡ vault.database
      same = ap (λ (v : State D). v.database) is_middle

      goes : GoesOn IsOurs old new
      goes = goes_then IsOurs old mid new (log_goes vault.generation old mid forces.goes) started.goes

      since : (durable : D) → IsHeld m vault durable old → EachImage (now old) new (RecoversToEither m durable vault.database)
      since durable held =
          each_then IsOurs old mid new (RecoversToEither m durable vault.database) started.goes (forces.since durable held)
          (each_weaker (now mid) new _ _ (λ files r. inr (subst (RecoversWithin m files) same r)) (started.since (forces.good durable held)))

      begun : (result : Result T E) → OnOk result (IsGood m middle mid → IsGood m after new × IsPending m after middle.database new) → OnOk result ((durable : D) → IsHeld m vault durable old → IsGood m after new × IsPending m after vault.database new)
      begun (Ok done) has = λ durable held. let both = has (forces.good durable held) in (both.0, subst (λ (d : D). IsPending m after d new) same both.1)
      begun (Err why) has = tt
