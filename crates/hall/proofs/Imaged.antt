-- The steps of a checkpoint: it begins, goes on, and is done; or a call on the vault's files failed, and the hall halts.
use Rattle.std.proofs.Common.{◌≡◌, inl, inr, ℕ, ◌+◌, ◌-◌, ◌<◌, ◌≤◌, ◌^◌, ◌%◌, true, false, nat_lt, is_some, List, [], ◌∷◌, ◌++◌, length, map, drop, Option, Some, None, Result, Ok, Err, refl, sym, ap, subst, ◌∙◌, arith}
use Rattle.std.specs.Prelude.{IfErr, IfOk, IfSome, OnErr, OnOk}
use Rattle.std.specs.Option.{option_map_or}
use Rattle.std.specs.List.{AllByRecursion}
use Rattle.std.proofs.lemmas.List.{length-append, take_all}
use Rattle.store_api.specs.Cause.{NoneFell, Rose}
use Rattle.store_api.specs.Disk.{History, now}
use Rattle.store_api.specs.Runs.{EachImage, GoesOn}
use Rattle.store_api.specs.Told.{Told}
use Rattle.store_api.proofs.Runs.{told_map}
use Rattle.kinds.specs.Refusals.{foremost, place_of, unless}
use Rattle.kinds.specs.declared.refusal.Refusal.{Refusal}
use Rattle.kinds.specs.declared.refusal.Refusal.TheVariants as refusal
use Rattle.entries.specs.declared.entry.Entry.{Entry}
use Rattle.entries.specs.EntryForm.{entry as entry_form}
use Rattle.log_file.specs.Blocks.{block, blocks}
use Rattle.log_file.proofs.RecordBytes.{length-block}
use Rattle.db_image.specs.declared.phase.Phase.{Phase}
use Rattle.db_image.specs.declared.phase.Progress.TheVariants.{Done}
use Rattle.db_image.specs.Steps.{IsWithin, Job, further, written_to}
use Rattle.inventory.specs.Meant.{meaning}
use Rattle.inventory_rows.specs.State.{Inv}
use Rattle.steps.specs.Events.{Deed, is_listed}
use Rattle.steps.specs.Events.Deed.{Image as TakeImage}
use Rattle.steps.specs.declared.image.ImageKind.{ImageKind}
use Rattle.steps.specs.declared.image.ImageKind.TheVariants as kind
use Rattle.steps.specs.declared.image.ImageReply.{ImageReply}
use Rattle.steps.specs.declared.image.ImageReply.TheVariants as reply
use Rattle.vault.specs.Files.{IsOurs, image_file}
use Rattle.vault.specs.Pieces.{IsGoing, Nears, Pending, job_of}
use Rattle.vault.specs.Vaults.{Begins, GoesTo, IsBegun, IsLeft, IsPending, Pieced, RecoversToEither, RefusesCheckpoint, State, halted_at, with_pending}
use Rattle.machine.specs.Causes.{image_refused}
use Rattle.machine.specs.Machine.{WroteMore, checkpointed, durable, ended, halting, image_file as machine_file, records_length, stamped, with_image}
use Rattle.machine.specs.State.{Core, Image, Machine, after, checkpoint, inventory, sight}
use Rattle.machine.proofs.Elsewhere.{append-all, foremost-all, unless-all}
use Rattle.machine.proofs.Histories.{after-number}
use Rattle.hall.specs.Covered.{inv_at, left_open}
use Rattle.hall.specs.Good.{AllInProgress, InProgress, Is, IsKept, StandsOn}
use Rattle.hall.specs.Held.{BegunImage, Hall, Held, IsCheckpoint, IsCore, IsImage, begun_of, unwritten_at}
use Rattle.hall.specs.Imaging.{GoesFurther, checkpoint_begun, checkpoint_by, checkpoint_done, checkpoint_refused, image_held, own_begun, progress_of}
use Rattle.hall.specs.Seats.{ended_at, with_vault}
use Rattle.hall.specs.Steps.{Steps}
use Rattle.hall.proofs.Calling.{kept_by, later_run}
use Rattle.hall.proofs.Dropping.{no_later}
use Rattle.hall.proofs.Ended.{ended_all, ended_first, ended_has, ended_is, next_answers, none_halted}
use Rattle.hall.proofs.Forcing.{all_have_stamps, further_kept, halted_kept, stamped_kept}
use Rattle.hall.proofs.Imaging.{OwnCheckpoint, begin_is, first_going, goes_less, image_alike, may_begin, no_image, its_own as own_of, nothing_pends}
use Rattle.hall.proofs.Stamped.{AllForced, checkpoint_unlisted, core_further, core_halted, core_stamped, good_further, good_halted, good_stamped}

-- ---- numbers

-- the number of the last transaction
last_number : (c : Core) → (inventory c).number ≡ c.base.number + length c.journal
last_number c = after-number c.base c.journal

-- the database behind all of the journal
all_made : (c : Core) (n : ℕ) → n ≡ length c.journal → inv_at n c ≡ inventory c
all_made c n is = ap (after c.base) (take_all n c.journal (omega (arith, is)))

-- the new log is as long as the machine's
records_alike : (es : List Entry) → records_length es ≡ length (blocks (map entry_form.spell es))
records_alike [] = refl
records_alike (e ∷ es) =
    let first : List ℕ = block (entry_form.spell e) in
    let others : List ℕ = blocks (map entry_form.spell es) in
    let rest : records_length es ≡ length others = records_alike es in
    let one : length first ≡ 5 + length (entry_form.spell e) = length-block (entry_form.spell e) in
    let both : length (first ++ others) ≡ length first + length others = length-append first others in
    omega (arith, rest, one, both)

-- ---- a checkpoint that begins

-- as the machine has it
abbrev image_by : (actor : ℕ) → Core → Pending → Image
image_by actor c p =
    record { actor = actor; picture = checkpoint; file = machine_file c; seq = (inventory c).number; unwritten = unwritten_at p.job.phase (length p.job.payload); copied = 0 }

-- as it is held
abbrev seat_by : (actor generation seq : ℕ) → BegunImage
seat_by actor generation seq = record { actor = actor; picture = checkpoint; file = image_file (generation + 1); seq = seq }

job_going : (n generation : ℕ) (payload : List ℕ) (job : Job) → job ≡ job_of generation payload (written_to n (length payload)) → IsGoing job.phase × IsWithin job.phase (length job.payload)
job_going n generation payload job is =
    let made = first_going n (length payload) in
    (subst (λ (j : Job). IsGoing j.phase) (sym is) made.0, subst (λ (j : Job). IsWithin j.phase (length j.payload)) (sym is) made.1)

module _ (actor : ℕ) (held : Held) (c : Core) (is : IsCore held c) (next : State Inv) (b : IsBegun meaning held.vault next) where
  begun_is : held.vault.generation + 1 < 2 ^ 62 → IsCheckpoint c.base.number held.vault.generation b.0 (image_by actor c b.0)
  begun_is few =
      let going = job_going _ _ _ b.0.job b.5 in
      let many : length c.journal ≡ length held.vault.journal = ap length is.journal in
      let number : (inventory c).number ≡ c.base.number + length c.journal = last_number c in
      let starts : b.0.start ≡ length held.vault.journal = b.2 in
      let copied : b.0.copied ≡ length held.vault.journal = b.3 in
      record {
        few = few;
        going = going.0;
        within = going.1;
        ordered = omega (arith, starts, copied);
        picture = refl;
        file = ap (λ n. (n + 1) % 2) is.generation;
        seq = omega (arith, number, many, starts);
        unwritten = refl;
        copied = omega (arith, starts, copied);
      }

  begun_seat : begun_of (Some (image_by actor c b.0)) ≡ Some (checkpoint_by actor held.vault)
  begun_seat = ap (λ n. Some (seat_by actor n (inventory c).number)) is.generation ∙ ap (λ (v : Inv). Some (seat_by actor held.vault.generation v.number)) (sym is.database)

  begun_forced : AllForced held.vault next
  begun_forced = record {
    database = ap (λ (v : State Inv). v.database) b.1;
    journal = ap (λ (v : State Inv). v.journal) b.1;
    forced = ap (λ (v : State Inv). v.forced) b.1;
    fault = ap (λ (v : State Inv). v.fault) b.1;
  }

  begun_image : held.vault.generation + 1 < 2 ^ 62 → held.job ≡ None → IsImage c.base.number next.generation next.pending held.job (Some (image_by actor c b.0))
  begun_image few no_job =
      subst (λ (v : State Inv). IsImage c.base.number v.generation v.pending held.job (Some (image_by actor c b.0))) (sym b.1)
      (subst (λ (j : Option Job). IsImage c.base.number held.vault.generation (Some b.0) j (Some (image_by actor c b.0))) (sym no_job) (begun_is few))

  begun_core : (t : ℕ) → held.vault.fault ≡ None → length c.stamps ≤ length c.journal → held.vault.generation + 1 < 2 ^ 62 → held.job ≡ None
      → IsCore (checkpoint_begun actor t next held) (with_image (Some (image_by actor c b.0)) (stamped t c))
  begun_core t none stamps few no_job =
      core_stamped t held c next (Some (image_by actor c b.0)) c.generation c.log_length (Some (checkpoint_by actor held.vault)) held.job begun_forced is none stamps begun_seat (begun_image few no_job)
      (is.generation ∙ sym (ap (λ (v : State Inv). v.generation) b.1)) (is.log_length none ∙ sym (ap (λ (v : State Inv). v.end) b.1))

  begun_stands : (t : ℕ) (h : History) → length c.stamps ≤ length c.journal → held.job ≡ None → IsPending meaning next held.vault.database h
      → InProgress (with_image (Some (image_by actor c b.0)) (stamped t c)) (checkpoint_begun actor t next held) (image_by actor c b.0) h
  begun_stands t h stamps no_job pends =
      let number : (inventory c).number ≡ c.base.number + length c.journal = last_number c in
      let all : length (stamped t c).stamps ≡ length c.journal = all_have_stamps t c stamps in
      let last : (inventory c).number - c.base.number ≡ length c.journal = omega (arith, number) in
      record {
        since = omega (arith, number);
        durable = omega (arith, number, all);
        stands = subst (λ (j : Option Job). StandsOn (with_image (Some (image_by actor c b.0)) (stamped t c)) next j (image_by actor c b.0) h) (sym no_job)
            (subst (λ (v : Inv). IsPending meaning next v h) (is.database ∙ sym (all_made c ((inventory c).number - c.base.number) last)) pends);
      }

-- ---- a checkpoint that goes on

-- what a step makes of its image
pub record IsFurther (c : Core) (generation : ℕ) (i : Image) (last : Pending) : Type 0 where
  pub its : Image
  pub wrote : WroteMore i its c
  pub is : IsCheckpoint c.base.number generation last its
  pub seat : begun_of (Some its) ≡ begun_of (Some i)
  pub seq : its.seq ≡ i.seq

further_image : (c : Core) (journal : List Entry) (generation : ℕ) (p last : Pending) (i : Image) → c.journal ≡ journal → IsCheckpoint c.base.number generation p i → Nears journal p last
    → IsFurther c generation i last
further_image c journal generation p last i same is (starts, inl piece) =
    let less = goes_less p.job.phase (length p.job.payload) is.going is.within piece.0 in
    let left : unwritten_at last.job.phase (length last.job.payload) ≡ unwritten_at (further p.job.phase (length p.job.payload)) (length p.job.payload) = ap
    (λ (k : Job). unwritten_at k.phase (length k.payload)) piece.1 in
    let copied : last.copied ≡ p.copied = piece.2 in
    record {
      its = record i { unwritten = unwritten_at last.job.phase (length last.job.payload) };
      wrote = inl (omega (arith, less.less, left, is.unwritten), refl);
      is = record {
        few = is.few;
        going = subst (λ (k : Job). IsGoing k.phase) (sym piece.1) less.going;
        within = subst (λ (k : Job). IsWithin k.phase (length k.payload)) (sym piece.1) less.within;
        ordered = omega (arith, starts, copied, is.ordered);
        picture = is.picture;
        file = is.file;
        seq = is.seq ∙ ap (λ n. c.base.number + n) (sym starts);
        unwritten = refl;
        copied = omega (arith, is.copied, starts, copied);
      };
      seat = refl;
      seq = refl;
    }
further_image c journal generation p last i same is (starts, inr copy) =
    let many : length c.journal ≡ length journal = ap length same in
    let number : (inventory c).number ≡ c.base.number + length c.journal = last_number c in
    let more : p.copied < last.copied = copy.2 in
    let within : last.copied ≤ length journal = copy.3 in
    record {
      its = record i { copied = last.copied - last.start };
      wrote = inr (
        is.unwritten ∙ ap (λ (f : Phase). unwritten_at f (length p.job.payload)) copy.0,
        is.picture,
        omega (arith, is.copied, starts, more, is.ordered),
        omega (arith, number, many, is.seq, starts, within),
        refl,
      );
      is = record {
        few = is.few;
        going = subst (λ (k : Job). IsGoing k.phase) (sym copy.1) is.going;
        within = subst (λ (k : Job). IsWithin k.phase (length k.payload)) (sym copy.1) is.within;
        ordered = omega (arith, starts, more, is.ordered);
        picture = is.picture;
        file = is.file;
        seq = is.seq ∙ ap (λ n. c.base.number + n) (sym starts);
        unwritten = is.unwritten ∙ ap (λ (k : Job). unwritten_at k.phase (length k.payload)) (sym copy.1);
        copied = refl;
      };
      seat = refl;
      seq = refl;
    }

abbrev of_some : Pending → Option Pending → Pending
of_some p None = p
of_some p (Some q) = q

-- ---- the steps

module _ {S : Type 0} (told : S → Option History) (moment : S → ℕ) (faults : S → ℕ → ℕ) (clock : (s : S) → IfSome (told s) (λ h. now h ≡ moment s)) (actor : ℕ) (hall : Hall S) (store : S)
    (counts : NoneFell (faults hall.store) (faults store)) (since : moment hall.store ≤ moment store) where
  abbrev vault : State Inv
  vault = hall.held.vault

  abbrev behind_run : Core → Machine → Machine
  behind_run core m = record m { core = core; moment = moment store; counts = faults store }

  -- a call on one of the vault's files failed
  module _ (none : vault.fault ≡ None) (file count forced sure : ℕ) where
    halted_is : (R : History → History → Type 0) (m : Machine) → Is told moment faults hall m → Told (told hall.store) (told store) R → ((h new : History) → R h new → GoesOn IsOurs h new)
        → ((h new : History) → R h new → IsKept m hall.held h
        → EachImage (now h) new (RecoversToEither meaning (durable m.core) vault.database) × IsLeft (RecoversToEither meaning (durable m.core) vault.database) new)
        → Is told moment faults (record { store = store; held = with_vault (halted_at vault forced sure file count) hall.held }) (behind_run (halting file count m.core) m)
    halted_is R m is did goes images = record {
      core = core_halted file count forced sure hall.held m.core is.core;
      clock = refl;
      counts = refl;
      good = good_halted (told hall.store) (told store) m hall.held (halted_at vault forced sure file count) (moment store) (faults store) file count is.good (omega (arith, is.clock, since))
          (kept_by told moment faults hall store R m (behind_run (halting file count m.core) m) (with_vault (halted_at vault forced sure file count) hall.held) is did clock goes
          (λ h new r to k.
          let both = images h new r k in
          halted_kept m hall.held h new (goes h new r) is.core k is.good.lawful is.good.stamped.few is.good.numbers both.0 file count (halted_at vault forced sure file count) (faults store)
          (moment store) both.1));
    }

  -- nothing was done
  unchanged : (deed : Deed) (next : State Inv) → next ≡ vault → store ≡ hall.store → Steps told moment faults actor deed hall hall
      → Steps told moment faults actor deed hall (record { store = store; held = with_vault next hall.held })
  unchanged deed next same quiet steps =
      subst (λ (s : S). Steps told moment faults actor deed hall (record { store = s; held = with_vault next hall.held })) (sym quiet)
      (subst (λ (v : State Inv). Steps told moment faults actor deed hall (record { store = hall.store; held = with_vault v hall.held })) (sym same) steps)

  rises : (m : Machine) → Is told moment faults hall m → (file : ℕ) → Rose (faults hall.store file) (faults store file) → Rose (m.counts file) (faults store file)
  rises m is file rose = subst (λ n. Rose n (faults store file)) (sym (ap (λ (f : ℕ → ℕ). f file) is.counts)) rose

  -- ---- a checkpoint begins

  module _ (free : foremost (checkpoint_refused (moment hall.store) hall.held) ≡ None) (soon : moment store ≤ moment hall.store + 11) where
    none_begins : vault.fault ≡ None
    none_begins = none_halted (moment hall.store) hall.held (may_begin (moment hall.store) hall.held free).free

    abbrev begun_deed : Result ImageReply Refusal → Deed
    begun_deed result = TakeImage kind.Checkpoint result

    -- none was in progress
    no_other : (m : Machine) → Is told moment faults hall m → hall.held.job ≡ None
    no_other m is =
        let absent : m.core.image ≡ None = no_image m.core.image (is.core.image ∙ (may_begin (moment hall.store) hall.held free).none) in
        (nothing_pends m.core.base.number vault.generation vault.pending hall.held.job
        (subst (λ (i : Option Image). IsImage m.core.base.number vault.generation vault.pending hall.held.job i) absent (is.core.is_image none_begins))).1

    begins : (next : State Inv) (b : IsBegun meaning vault next) (answer : ImageReply) → answer ≡ reply.Begun (image_file (vault.generation + 1)) (meaning.number vault.database)
        → (let result : Result ImageReply Refusal = Ok answer in Told (told hall.store) (told store) (Begins meaning vault result next))
        → Steps told moment faults actor (begun_deed (Ok answer)) hall (record { store = store; held = checkpoint_begun actor (moment store) next hall.held })
    begins next b answer said did = λ m is.
        let may = may_begin (moment hall.store) hall.held free in
        let i : Image = image_by actor m.core b.0 in
        let after : Machine = behind_run (with_image (Some i) (stamped (moment store) m.core)) m in
        let no_job : hall.held.job ≡ None = no_other m is in (
          m.contents,
          after,
          refl,
          record {
            number = refl;
            later = later_run told moment faults hall store counts since (omega (arith, soon)) m after is refl refl;
            step = (
              ap foremost (begin_is actor (moment hall.store) hall.held m is.core is.clock) ∙ free,
              (
                i.unwritten,
                said ∙ ap (λ n. reply.Begun ((n + 1) % 2) vault.database.number) (sym is.core.generation) ∙ ap (λ (v : Inv). reply.Begun (machine_file m.core) v.number) is.core.database,
                record { core = refl; contents = refl },
              ),
            );
          },
          record {
            core = begun_core actor hall.held m.core is.core next b (moment store) none_begins is.good.stamped.few may.few no_job;
            clock = refl;
            counts = refl;
            good = good_stamped (told hall.store) (told store) m hall.held next (moment store) (faults store) (Some i) m.core.generation m.core.log_length (Some (checkpoint_by actor vault))
                hall.held.job is.good (omega (arith, is.clock, since)) (λ none. checkpoint_unlisted (left_open (stamped (moment store) m.core)) i refl)
                (kept_by told moment faults hall store (let result : Result ImageReply Refusal = Ok answer in Begins meaning vault result next) m after
                (checkpoint_begun actor (moment store) next hall.held) is did clock (λ h new r. r.goes)
                (λ h new r to k.
                let held = k.sure (is.core.fault ∙ none_begins) in
                let both = r.begun (durable m.core) held in
                stamped_kept m hall.held h new r.goes is.core k is.good.lawful is.good.stamped.few is.good.numbers (r.since (durable m.core) held) (moment store) to next
                (begun_forced actor hall.held m.core is.core next b).database both.0 (Some i) m.core.generation m.core.log_length (Some (checkpoint_by actor vault)) (faults store)
                (λ _. begun_stands actor hall.held m.core is.core next b (moment store) new is.good.stamped.few no_job both.1)));
          },
        )

    begin_fails : (e : Refusal) (next : State Inv) → (let result : Result ImageReply Refusal = Err e in Told (told hall.store) (told store) (Begins meaning vault result next))
        → RefusesCheckpoint vault (faults hall.store) (faults store) e next (store ≡ hall.store)
        → Steps told moment faults actor (begun_deed (Err e)) hall (record { store = store; held = with_vault next hall.held })
    begin_fails e next did (inl (inl memory, same, quiet)) =
        unchanged (begun_deed (Err e)) next same quiet
        (λ m is. (m.contents, m, refl, record { number = refl; later = no_later m m.contents m refl refl; step = inl (inr memory, record { core = refl; contents = refl }) }, is))
    begin_fails e next did (inl (inr halted, same, quiet)) = absurd (let both : Some (halted.0, halted.1) ≡ None = sym halted.2 ∙ none_begins in cc)
    begin_fails e next did (inr fails) =
        let f = fails.1 in
        let count : ℕ = faults store f.0 in
        subst (λ (v : State Inv). Steps told moment faults actor (begun_deed (Err e)) hall (record { store = store; held = with_vault v hall.held })) (sym f.4.2)
        (λ m is. (
          m.contents,
          behind_run (halting f.0 count m.core) m,
          refl,
          record {
            number = refl;
            later = later_run told moment faults hall store counts since (omega (arith, soon)) m (behind_run (halting f.0 count m.core) m) is refl refl;
            step = inr (
              ap foremost (begin_is actor (moment hall.store) hall.held m is.core is.clock) ∙ free,
              (f.0, count, moment store, m.core, f.2, (f.1, rises m is f.0 f.3, refl), inl refl, record { core = refl; contents = refl }),
            );
          },
          halted_is none_begins f.0 count f.4.0 f.4.1 (let result : Result ImageReply Refusal = Err e in Begins meaning vault result next) m is did (λ h new r. r.goes)
              (λ h new r k. let held = k.sure (is.core.fault ∙ none_begins) in (r.since (durable m.core) held, r.left (durable m.core) held)),
        ))

    -- whatever came of it
    pub checkpoints : (result : Result ImageReply Refusal) (new : Held) → Told (told hall.store) (told store) (Begins meaning vault result new.vault)
        → OnOk result (new ≡ checkpoint_begun actor (moment store) new.vault hall.held) → OnOk result (IsBegun meaning vault new.vault)
        → IfOk result (λ answer. answer ≡ reply.Begun (image_file (vault.generation + 1)) (meaning.number vault.database)) → OnErr result (new ≡ with_vault new.vault hall.held)
        → IfErr result (λ e. RefusesCheckpoint vault (faults hall.store) (faults store) e new.vault (store ≡ hall.store))
        → Steps told moment faults actor (begun_deed result) hall (record { store = store; held = new })
    checkpoints (Ok answer) new did ok begun said same err =
        subst (λ (h : Held). Steps told moment faults actor (begun_deed (Ok answer)) hall (record { store = store; held = h })) (sym ok) (begins new.vault begun answer said did)
    checkpoints (Err e) new did ok begun said same err =
        subst (λ (h : Held). Steps told moment faults actor (begun_deed (Err e)) hall (record { store = store; held = h })) (sym same) (begin_fails e new.vault did err)

  -- ---- it goes on

  module _ (free : foremost (ended_at (moment hall.store) hall.held) ≡ None) (mine : is_some (own_begun actor hall.held.image) ≡ true) (no_job : hall.held.job ≡ None)
      (soon : moment store ≤ moment hall.store + 6) where
    none_goes : vault.fault ≡ None
    none_goes = none_halted (moment hall.store) hall.held free

    abbrev next_deed : Result ImageReply Refusal → Deed
    next_deed result = TakeImage kind.Next result

    its_own : (m : Machine) → Is told moment faults hall m → OwnCheckpoint actor m.core.base.number vault.generation vault.pending m.core.image
    its_own m is = own_of told moment faults actor hall free mine no_job is

    next_open : (m : Machine) → Is told moment faults hall m → foremost (ended m ++ image_refused kind.Next (sight actor m.core)) ≡ None
    next_open m is =
        ap (λ (l : List Refusal). foremost (l ++ image_refused kind.Next (sight actor m.core))) (ended_is (moment hall.store) hall.held m is.core is.clock)
        ∙ next_answers (ended_at (moment hall.store) hall.held) (image_refused kind.Next (sight actor m.core)) free
        ∙ ap (λ (o : Option Image). foremost (unless (is_some o) refusal.NotFound)) (its_own m is).mine

    -- the checkpoint in progress is the vault's
    its_pending : (m : Machine) (is : Is told moment faults hall m) (h : History) → IsKept m hall.held h → InProgress m.core hall.held (its_own m is).its h
    its_pending m is h k = subst (λ (o : Option Image). AllInProgress m.core hall.held o h) (its_own m is).there (k.image (is.core.fault ∙ none_goes))

    pends_now : (m : Machine) (is : Is told moment faults hall m) (h : History) → IsKept m hall.held h → IsPending meaning vault (inv_at ((its_own m is).its.seq - m.core.base.number) m.core) h
    pends_now m is h k = subst (λ (j : Option Job). StandsOn m.core vault j (its_own m is).its h) no_job (its_pending m is h k).stands

    goes_on : (pending last : Pending) → vault.pending ≡ Some pending → Nears vault.journal pending last
        → (let result : Result ImageReply Refusal = Ok reply.More in Told (told hall.store) (told store) (Pieced meaning vault (progress_of result) (with_pending vault (Some last))))
        → Steps told moment faults actor (next_deed (Ok reply.More)) hall (record { store = store; held = with_vault (with_pending vault (Some last)) hall.held })
    goes_on pending last there nears did = λ m is.
        let own = its_own m is in
        let same : pending ≡ own.last = ap (of_some own.last) (sym there ∙ own.pends) in
        let further = further_image m.core vault.journal vault.generation own.last last own.its is.core.journal own.is (subst (λ (p : Pending). Nears vault.journal p last) same nears) in
        let after : Machine = behind_run (with_image (Some further.its) m.core) m in
        let next : State Inv = with_pending vault (Some last) in (
          m.contents,
          after,
          refl,
          record {
            number = refl;
            later = later_run told moment faults hall store counts since (omega (arith, soon)) m after is refl refl;
            step = (next_open m is, (own.its, further.its, own.mine, further.wrote, record { core = refl; contents = refl }));
          },
          record {
            core = core_further hall.held m.core (Some last) (Some further.its) is.core (further.seat ∙ sym (ap begun_of own.there) ∙ is.core.image)
                (λ _. subst (λ (j : Option Job). IsImage m.core.base.number vault.generation (Some last) j (Some further.its)) (sym no_job) further.is);
            clock = refl;
            counts = refl;
            good = good_further (told hall.store) (told store) m hall.held next (moment store) (faults store) (Some further.its) m.core.generation m.core.log_length is.good
                (omega (arith, is.clock, since)) (λ none. checkpoint_unlisted (left_open m.core) further.its further.is.picture)
                (kept_by told moment faults hall store (let result : Result ImageReply Refusal = Ok reply.More in Pieced meaning vault (progress_of result) next) m after (with_vault next hall.held) is did
                clock (λ h new r. r.goes)
                (λ h new r to k.
                let held = k.sure (is.core.fault ∙ none_goes) in
                let was = its_pending m is h k in
                let pends = pends_now m is h k in
                let snapshot : Inv = inv_at (own.its.seq - m.core.base.number) m.core in
                let leads = r.leads (durable m.core) snapshot held pends in
                further_kept m hall.held h new r.goes is.core k is.good.lawful is.good.stamped.few is.good.numbers (r.since (durable m.core) snapshot held pends) next (Some further.its)
                m.core.generation m.core.log_length (faults store) (moment store) (r.left (durable m.core) snapshot held pends) leads.1
                (record {
                  since = subst (λ n. m.core.base.number ≤ n) (sym further.seq) was.since;
                  durable = subst (λ n. n ≤ m.core.base.number + length m.core.stamps) (sym further.seq) was.durable;
                  stands = subst (λ (j : Option Job). StandsOn (with_image (Some further.its) m.core) next j further.its new) (sym no_job)
                      (subst (λ n. IsPending meaning next (inv_at (n - m.core.base.number) m.core) new) (sym further.seq) leads.0);
                })));
          },
        )

    is_done : (next : State Inv) (seq : ℕ) (b : BegunImage) → hall.held.image ≡ Some b → seq ≡ b.seq → GoesTo vault next Done
        → (let result : Result ImageReply Refusal = Ok (reply.Done seq) in Told (told hall.store) (told store) (Pieced meaning vault (progress_of result) next))
        → Steps told moment faults actor (next_deed (Ok (reply.Done seq))) hall (record { store = store; held = checkpoint_done (moment store) next hall.held })
    is_done next seq b held_there said goes did = λ m is.
        let own = its_own m is in
        let c : Core = m.core in
        let same : goes.0 ≡ own.last = ap (of_some own.last) (sym goes.1 ∙ own.pends) in
        let after : Machine = behind_run (checkpointed (moment store) own.its c) m in
        let number : (inventory c).number ≡ c.base.number + length c.journal = last_number c in
        let many : length c.journal ≡ length vault.journal = ap length is.core.journal in
        let starts : goes.0.start ≡ own.last.start = ap (λ (p : Pending). p.start) same in
        let all : own.last.copied ≡ length vault.journal = sym (ap (λ (p : Pending). p.copied) same) ∙ goes.4 in
        let from : own.its.seq - c.base.number ≡ goes.0.start = let at = own.is.seq in omega (arith, at, starts) in
        let long : records_length (drop (own.its.seq - c.base.number) c.journal) ≡ next.end =
        ap (λ n. records_length (drop n c.journal)) from
        ∙ ap (λ (j : List Entry). records_length (drop goes.0.start j)) is.core.journal
        ∙ records_alike (drop goes.0.start vault.journal)
        ∙ sym (ap (λ (v : State Inv). v.end) goes.2) in
        let forced : AllForced vault next = record {
          database = ap (λ (v : State Inv). v.database) goes.2;
          journal = ap (λ (v : State Inv). v.journal) goes.2;
          forced = ap (λ (v : State Inv). v.forced) goes.2;
          fault = ap (λ (v : State Inv). v.fault) goes.2;
        } in (
          m.contents,
          after,
          refl,
          record {
            number = refl;
            later = later_run told moment faults hall store counts since (omega (arith, soon)) m after is refl refl;
            step = (
              next_open m is,
              (
                own.its,
                own.mine,
                said ∙ ap (λ (o : Option BegunImage). option_map_or (λ x. x.seq) o 0) (sym held_there ∙ sym is.core.image ∙ ap begun_of own.there),
                own.is.unwritten ∙ ap (λ (f : Phase). unwritten_at f (length own.last.job.payload)) (sym (ap (λ (p : Pending). p.job.phase) same) ∙ goes.3),
                inl (own.is.picture, (let at = own.is.seq in let copied = own.is.copied in omega (arith, at, copied, all, number, many)), record { core = refl; contents = refl }),
              ),
            );
          },
          record {
            core = core_stamped (moment store) hall.held c next None (c.generation + 1) (records_length (drop (own.its.seq - c.base.number) c.journal)) None hall.held.job forced is.core none_goes
                is.good.stamped.few refl
                (subst (λ (v : State Inv). IsImage c.base.number v.generation v.pending hall.held.job None) (sym goes.2)
                (subst (λ (j : Option Job). IsImage c.base.number (vault.generation + 1) None j None) (sym no_job) tt))
                (ap (λ n. n + 1) is.core.generation ∙ sym (ap (λ (v : State Inv). v.generation) goes.2)) long;
            clock = refl;
            counts = refl;
            good = good_stamped (told hall.store) (told store) m hall.held next (moment store) (faults store) None (c.generation + 1) (records_length (drop (own.its.seq - c.base.number) c.journal)) None
                hall.held.job is.good (omega (arith, is.clock, since)) (λ none. tt)
                (kept_by told moment faults hall store (let result : Result ImageReply Refusal = Ok (reply.Done seq) in Pieced meaning vault (progress_of result) next) m after
                (checkpoint_done (moment store) next hall.held) is did clock (λ h new r. r.goes)
                (λ h new r to k.
                let held = k.sure (is.core.fault ∙ none_goes) in
                let pends = pends_now m is h k in
                let snapshot : Inv = inv_at (own.its.seq - c.base.number) c in
                let leads = r.leads (durable c) snapshot held pends in
                stamped_kept m hall.held h new r.goes is.core k is.good.lawful is.good.stamped.few is.good.numbers (r.since (durable c) snapshot held pends) (moment store) to next forced.database leads.0
                None (c.generation + 1) (records_length (drop (own.its.seq - c.base.number) c.journal)) None (faults store) (λ _. tt)));
          },
        )

    next_fails : (e : Refusal) (next : State Inv) → (let result : Result ImageReply Refusal = Err e in Told (told hall.store) (told store) (Pieced meaning vault (progress_of result) next))
        → RefusesCheckpoint vault (faults hall.store) (faults store) e next (store ≡ hall.store)
        → Steps told moment faults actor (next_deed (Err e)) hall (record { store = store; held = with_vault next hall.held })
    next_fails e next did (inl (inl memory, same, quiet)) =
        unchanged (next_deed (Err e)) next same quiet
        (λ m is. (m.contents, m, refl, record { number = refl; later = no_later m m.contents m refl refl; step = inl (inr memory, record { core = refl; contents = refl }) }, is))
    next_fails e next did (inl (inr halted, same, quiet)) = absurd (let both : Some (halted.0, halted.1) ≡ None = sym halted.2 ∙ none_goes in cc)
    next_fails e next did (inr fails) =
        let f = fails.1 in
        let count : ℕ = faults store f.0 in
        subst (λ (v : State Inv). Steps told moment faults actor (next_deed (Err e)) hall (record { store = store; held = with_vault v hall.held })) (sym f.4.2)
        (λ m is. (
          m.contents,
          behind_run (halting f.0 count m.core) m,
          refl,
          record {
            number = refl;
            later = later_run told moment faults hall store counts since (omega (arith, soon)) m (behind_run (halting f.0 count m.core) m) is refl refl;
            step = inr (
              next_open m is,
              (
                (its_own m is).its,
                (its_own m is).mine,
                inr (inr (f.0, count, moment store, m.core, f.2, (f.1, rises m is f.0 f.3, refl), inl refl, record { core = refl; contents = refl })),
              ),
            );
          },
          halted_is none_goes f.0 count f.4.0 f.4.1 (let result : Result ImageReply Refusal = Err e in Pieced meaning vault (progress_of result) next) m is did (λ h new r. r.goes)
              (λ h new r k.
              let held = k.sure (is.core.fault ∙ none_goes) in
              let pends = pends_now m is h k in
              let snapshot : Inv = inv_at ((its_own m is).its.seq - m.core.base.number) m.core in
              (r.since (durable m.core) snapshot held pends, r.left (durable m.core) snapshot held pends)),
        ))

    -- whatever came of it
    pub goes_further : (result : Result ImageReply Refusal) (new : Held) → Told (told hall.store) (told store) (Pieced meaning vault (progress_of result) new.vault)
        → IfOk result (GoesFurther (moment store) hall.held new) → OnErr result (new ≡ with_vault new.vault hall.held)
        → IfErr result (λ e. RefusesCheckpoint vault (faults hall.store) (faults store) e new.vault (store ≡ hall.store))
        → Steps told moment faults actor (next_deed result) hall (record { store = store; held = new })
    goes_further (Ok reply.More) new did ok same err =
        subst (λ (h : Held). Steps told moment faults actor (next_deed (Ok reply.More)) hall (record { store = store; held = h })) (sym ok.0)
        (let g = ok.1 in
        subst (λ (v : State Inv). Steps told moment faults actor (next_deed (Ok reply.More)) hall (record { store = store; held = with_vault v hall.held })) (sym g.3)
        (goes_on g.0 g.1 g.2 g.4 (subst (λ (v : State Inv). let result : Result ImageReply Refusal = Ok reply.More in Told (told hall.store) (told store) (Pieced meaning vault (progress_of result) v)) g.3 did)))
    goes_further (Ok (reply.Done seq)) new did ok same err =
        subst (λ (h : Held). Steps told moment faults actor (next_deed (Ok (reply.Done seq))) hall (record { store = store; held = h })) (sym ok.3) (is_done new.vault seq ok.0 ok.1 ok.2 ok.4 did)
    goes_further (Ok (reply.Begun file seq)) new did ok same err = absurd ok
    goes_further (Err e) new did ok same err =
        subst (λ (h : Held). Steps told moment faults actor (next_deed (Err e)) hall (record { store = store; held = h })) (sym same) (next_fails e new.vault did err)

-- ---- steps that may not begin

module _ {S : Type 0} (told : S → Option History) (moment : S → ℕ) (faults : S → ℕ → ℕ) (actor : ℕ) (hall : Hall S) where
  pub begin_stops : (e : Refusal) → foremost (checkpoint_refused (moment hall.store) hall.held) ≡ Some e → Steps told moment faults actor (TakeImage kind.Checkpoint (Err e)) hall hall
  begin_stops e held = λ m is. (
    m.contents,
    m,
    refl,
    record {
      number = refl;
      later = no_later m m.contents m refl refl;
      step = inl (inl (ap foremost (begin_is actor (moment hall.store) hall.held m is.core is.clock) ∙ held), record { core = refl; contents = refl });
    },
    is,
  )

  not_own : (found : Option Image) → AllByRecursion (λ y. 1 ≤ place_of y) (unless (is_some found) refusal.NotFound)
  not_own None = (omega arith, tt)
  not_own (Some i) = tt

  pub next_ended : (e : Refusal) → foremost (ended_at (moment hall.store) hall.held) ≡ Some e → Steps told moment faults actor (TakeImage kind.Next (Err e)) hall hall
  next_ended e full = λ m is.
      let held : foremost (ended m ++ image_refused kind.Next (sight actor m.core)) ≡ Some e =
      ap (λ (l : List Refusal). foremost (l ++ image_refused kind.Next (sight actor m.core))) (ended_is (moment hall.store) hall.held m is.core is.clock)
      ∙ ended_first (moment hall.store) hall.held (image_refused kind.Next (sight actor m.core)) e full (not_own (sight actor m.core).image) in
      (m.contents, m, refl, record { number = refl; later = no_later m m.contents m refl refl; step = inl (inl held, record { core = refl; contents = refl }) }, is)

  pub next_absent : foremost (ended_at (moment hall.store) hall.held) ≡ None → is_some (own_begun actor hall.held.image) ≡ false
      → Steps told moment faults actor (TakeImage kind.Next (Err refusal.NotFound)) hall hall
  next_absent free absent = λ m is.
      let gone : is_some (sight actor m.core).image ≡ false = sym (image_alike actor hall.held m.core is.core) ∙ absent in
      let held : foremost (ended m ++ image_refused kind.Next (sight actor m.core)) ≡ Some refusal.NotFound =
      ap (λ (l : List Refusal). foremost (l ++ image_refused kind.Next (sight actor m.core))) (ended_is (moment hall.store) hall.held m is.core is.clock)
      ∙ next_answers (ended_at (moment hall.store) hall.held) (image_refused kind.Next (sight actor m.core)) free
      ∙ ap (λ b. foremost (unless b refusal.NotFound)) gone in
      (m.contents, m, refl, record { number = refl; later = no_later m m.contents m refl refl; step = inl (inl held, record { core = refl; contents = refl }) }, is)

-- ---- their refusals

pub begin_listed : (moment : ℕ) (h : Held) (e : Refusal) → foremost (checkpoint_refused moment h) ≡ Some e → is_listed (TakeImage kind.Checkpoint (Err e)) ≡ true
unfolding is_listed
begin_listed moment h e is =
    foremost-all P (checkpoint_refused moment h)
    (append-all P (ended_at moment h) (image_held h.image ++ unless (nat_lt (h.vault.generation + 1) (2 ^ 62)) refusal.InventoryFull) (ended_all P refl (λ file count. refl) moment h)
    (append-all P (image_held h.image) (unless (nat_lt (h.vault.generation + 1) (2 ^ 62)) refusal.InventoryFull) (busy_listed h.image)
    (unless-all P (nat_lt (h.vault.generation + 1) (2 ^ 62)) refusal.InventoryFull refl))) e is
  where
    P : Refusal → Type 0
    P x = is_listed (TakeImage kind.Checkpoint (Err x)) ≡ true

    busy_listed : (i : Option BegunImage) → AllByRecursion P (image_held i)
    busy_listed None = tt
    busy_listed (Some i) = (refl, tt)

pub next_listed : (moment : ℕ) (h : Held) (e : Refusal) → foremost (ended_at moment h) ≡ Some e → is_listed (TakeImage kind.Next (Err e)) ≡ true
unfolding is_listed
next_listed moment h e is = ended_has (λ x. is_listed (TakeImage kind.Next (Err x)) ≡ true) refl (λ file count. refl) moment h e is

pub absent_listed : is_listed (TakeImage kind.Next (Err refusal.NotFound)) ≡ true
unfolding is_listed
absent_listed = refl

answer_listed : (k : ImageKind) (answer : ImageReply) → is_listed (TakeImage k (Ok answer)) ≡ true
unfolding is_listed
answer_listed k answer = refl

refused_listed : (k : ImageKind) (state : State Inv) (before after : ℕ → ℕ) (e : Refusal) (next : State Inv) (same : Type 0) → RefusesCheckpoint state before after e next same → is_listed (TakeImage k (Err e)) ≡ true
unfolding is_listed
refused_listed k state before after e next same (inl (inl memory, stays, quiet)) = ap (λ x. is_listed (TakeImage k (Err x))) memory
refused_listed k state before after e next same (inl (inr halted, stays, quiet)) = ap (λ x. is_listed (TakeImage k (Err x))) halted.3
refused_listed k state before after e next same (inr fails) = ap (λ x. is_listed (TakeImage k (Err x))) fails.1.2

pub image_listed : (k : ImageKind) (state : State Inv) (before after : ℕ → ℕ) (result : Result ImageReply Refusal) (next : State Inv) (same : Type 0)
    → IfErr result (λ e. RefusesCheckpoint state before after e next same) → is_listed (TakeImage k result) ≡ true
image_listed k state before after (Ok answer) next same h = answer_listed k answer
image_listed k state before after (Err e) next same h = refused_listed k state before after e next same h

-- ---- their files

pub begins_files : (state next : State Inv) (result : Result ImageReply Refusal) (old new : Option History) → Told old new (Begins meaning state result next) → Told old new (GoesOn IsOurs)
begins_files state next result old new did = told_map old new (Begins meaning state result next) (GoesOn IsOurs) (λ h n r. r.goes) did

pub pieced_files : (state next : State Inv) (result : Result ImageReply Refusal) (old new : Option History) → Told old new (Pieced meaning state (progress_of result) next) → Told old new (GoesOn IsOurs)
pieced_files state next result old new did = told_map old new (Pieced meaning state (progress_of result) next) (GoesOn IsOurs) (λ h n r. r.goes) did

-- the hall is still the one that was opened
pub begins_stay : (actor moment : ℕ) (old new : Held) (result : Result ImageReply Refusal) → OnOk result (new ≡ checkpoint_begun actor moment new.vault old) → OnErr result (new ≡ with_vault new.vault old)
    → (new.base ≡ old.base) × (new.opened ≡ old.opened)
begins_stay actor moment old new (Ok answer) ok same = (ap (λ (h : Held). h.base) ok, ap (λ (h : Held). h.opened) ok)
begins_stay actor moment old new (Err e) ok same = (ap (λ (h : Held). h.base) same, ap (λ (h : Held). h.opened) same)

pub further_stays : (moment : ℕ) (old new : Held) (result : Result ImageReply Refusal) → IfOk result (GoesFurther moment old new) → OnErr result (new ≡ with_vault new.vault old)
    → (new.base ≡ old.base) × (new.opened ≡ old.opened)
further_stays moment old new (Ok reply.More) ok same = (ap (λ (h : Held). h.base) ok.0, ap (λ (h : Held). h.opened) ok.0)
further_stays moment old new (Ok (reply.Done seq)) ok same = (ap (λ (h : Held). h.base) ok.3, ap (λ (h : Held). h.opened) ok.3)
further_stays moment old new (Ok (reply.Begun file seq)) ok same = absurd ok
further_stays moment old new (Err e) ok same = (ap (λ (h : Held). h.base) same, ap (λ (h : Held). h.opened) same)
