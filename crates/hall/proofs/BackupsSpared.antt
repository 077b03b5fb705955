-- What a hall keeps of backups over its calls: on the vault's files, on a ticket's, on those of the backup that is written, and on a file that is none of theirs.
use Rattle.std.proofs.Common.{◌≡◌, ◌⊎◌, inl, inr, ℕ, ◌+◌, ◌<◌, ◌≤◌, true, is_some, List, [], ◌∷◌, length, map, Option, None, Some, refl, sym, ap, subst, ◌∙◌, arith}
use Rattle.std.specs.Prelude.{IfSome}
use Rattle.std.specs.List.{AllByRecursion, Contains}
use Rattle.std.proofs.lemmas.Bool.{cases_lt, false≢true}
use Rattle.store_api.specs.Disk.{History, ImageAt, Leaves, now, standing}
use Rattle.store_api.specs.Runs.{EachImage, GoesOn, IsOutside, WroteWithin}
use Rattle.store_api.specs.Told.{Told}
use Rattle.store_api.proofs.Runs.{goes_image_after, goes_image_before, goes_images, goes_weaker, image_now}
use Rattle.kinds.specs.declared.segment.Segment.{Segment}
use Rattle.backup_payloads.specs.Increments.{Increment}
use Rattle.db_image.specs.Steps.{Job, at_phase}
use Rattle.db_image.specs.declared.phase.Phase.{Phase}
use Rattle.inventory.specs.Meaningful.{is_meaning}
use Rattle.inventory.specs.Meant.{meaning}
use Rattle.inventory_rows.specs.declared.backup.Backup.{Backup}
use Rattle.inventory_rows.specs.pool_tables.Rows.{row_at}
use Rattle.inventory_rows.specs.Search.{versions}
use Rattle.inventory_rows.specs.State.{Inv}
use Rattle.inventory_laws.proofs.Lists.{each_also, each_any, each_both}
use Rattle.inventory_laws.proofs.Origins.{contained_holds, each_contained}
use Rattle.vault.specs.Files.{IsOurs}
use Rattle.vault.specs.Recovery.{Recovers, RecoversWithin}
use Rattle.vault.specs.Vaults.{IsHeld, RecoversToEither, State}
use Rattle.vault.proofs.Goodness.{held_since}
use Rattle.vault.proofs.Sounding.{within_recovers}
use Rattle.vault.proofs.Unique.{one_database}
use Rattle.machine.specs.Machine.{durable}
use Rattle.machine.specs.State.{Core, inventory}
use Rattle.hall.specs.Good.{RecoversToOne}
use Rattle.hall.specs.Covered.{IsNewFile, inv_at, left_open}
use Rattle.hall.specs.Protected.{AlwaysBacked, EachSequential, HadBackups, HasBackups, HasCopy, IsAside, IsCovered, IsFiled, IsLaid, IsListedAs, IsWatched, IsWriting, IsWrittenOn, KeepsAllBackups, Backs, Taken, WasDone, WasGiven, WasVolume, files_of, is_protected, WritesBackup}
use Rattle.hall.proofs.BackedUp.{also_sequential, both_sequential}
use Rattle.hall.proofs.Databases.{first_left, last_left, left_at}
use Rattle.hall.proofs.Protecting.{IsSpared, IsSparedWriting, Spares, always_since, backups_over, keeps_over, spares_others, spares_range, writes_over}
use Rattle.hall.proofs.Sparing.{AreApart}

-- ---- the store when it was opened

-- a store that was sound for backups is so before the calls, too
pub had_before : (mine : ℕ → Type 0) (base : Inv) (opened : ℕ) (h new : History) → GoesOn mine h new → opened ≤ now h → HadBackups base opened new → HadBackups base opened h
had_before mine base opened h new goes from had = record { before = had.before; given = λ file b p. of_one file b (had.given file b p) } where
  of_one : (file : ℕ) (b : Backup) → WasGiven base opened new file b → WasGiven base opened h file b
  of_one file b w = record {
    backup = w.backup;
    row = w.row;
    files = w.files;
    smaller = w.smaller;
    provided = w.provided;
    gives = λ image at. w.gives image (goes_image_after mine h new opened image goes from at);
    copies = λ image at. w.copies image (goes_image_after mine h new opened image goes from at);
  }

-- ---- a segment that spares backups

-- the second lies in another file, or beside it
abbrev pub IsSafeOf : Segment → Segment → Type 0
IsSafeOf u s = (s.file ≡ u.file → ⊥) ⊎ ((s.file ≡ u.file) × AreApart s u)

-- it lies in no backup's file, and in another file than each segment that is covered, or beside it
abbrev pub SparesBackups : Core → Segment → Type 0
SparesBackups c u = ((n : ℕ) → IsFiled c n → n ≡ u.file → ⊥) × ((s : Segment) → IsLaid c s → IsWrittenOn c s → IsSafeOf u s)

-- ---- what images recover to

-- each of these images recovers to a database that a stop may bring back
abbrev pub RecoverOpen : Core → ℕ → History → Type 0
RecoverOpen c from h = EachImage from h (λ image. (v : Inv) → Recovers meaning image v → Contains (left_open c) v)

-- each is among them
pub all_open : (c : Core) → AllByRecursion (Contains (left_open c)) (left_open c)
all_open c = each_contained (left_open c)

pub durable_there : (c : Core) → Contains (left_open c) (durable c)
durable_there c = first_left (Contains (left_open c)) c (each_contained (left_open c))

pub last_there : (c : Core) → Contains (left_open c) (inventory c)
last_there c = last_left (Contains (left_open c)) c (each_contained (left_open c))

-- it is the one to which it recovers within the log's end
the_one : (c : Core) (d : Inv) (image : ℕ → List ℕ) → Contains (left_open c) d → RecoversWithin meaning image d → (v : Inv) → Recovers meaning image v → Contains (left_open c) v
the_one c d image there within v recovers = subst (Contains (left_open c)) (one_database meaning is_meaning image d v (within_recovers meaning image d within) recovers) there

pub open_of : (c : Core) (d : Inv) (from : ℕ) (h : History) → Contains (left_open c) d → EachImage from h (λ image. RecoversWithin meaning image d) → RecoverOpen c from h
open_of c d from h there each moment image low high at = the_one c d image there (each moment image low high at)

pub open_either : (c : Core) (d : Inv) (from : ℕ) (h : History) → d ≡ inventory c → EachImage from h (RecoversToEither meaning (durable c) d) → RecoverOpen c from h
open_either c d from h same each moment image low high at = by (each moment image low high at) where
  by : RecoversWithin meaning image (durable c) ⊎ RecoversWithin meaning image d → (v : Inv) → Recovers meaning image v → Contains (left_open c) v
  by (inl first) = the_one c (durable c) image (durable_there c) first
  by (inr last) = the_one c d image (subst (Contains (left_open c)) (sym same) (last_there c)) last

-- what a stop leaves of a hall recovers to one of them
pub recovered_open : (c : Core) (image : ℕ → List ℕ) → RecoversToOne c image → (v : Inv) → Recovers meaning image v → Contains (left_open c) v
recovered_open c image one = the_one c (inv_at one.0 c) image (left_at (Contains (left_open c)) c one.0 one.1 (all_open c)) one.3

-- ---- files and segments that are spared

module _ (h new : History) (c : Core) (opened : ℕ) (recovers : RecoverOpen c (now h) new) where
  module _ (mine : ℕ → Type 0) (Safe : Segment → Type 0) (filed : (n : ℕ) → IsFiled c n → mine n) (safe : (v : Inv) (t : Taken) → IsCovered h c v t → EachSequential (λ w r. AllByRecursion Safe r.segments) t.database) where
    spared_listed : (job : Option Job) (v : Inv) (file : ℕ) (b : Backup) (l : IsListedAs h c job v file b) → IsSpared mine Safe (is_protected v.today b ≡ true) file l.backup
    spared_listed job v file b l = record {
      files = each_also (IsFiled c) mine (files_of file l.backup.increments) filed l.files;
      segments = λ young. safe v l.backup (l.covered young);
    }

    spared_writing : (spares : Spares mine Safe h new) (job : Option Job) → IsSparedWriting mine Safe h new spares c opened job
    spared_writing spares None = tt
    spared_writing spares (Some job) = λ t w. (each_also (IsFiled c) mine (map (λ (i : Increment). i.after) t.increments) filed w.files, λ v k. safe v t k)

    pub spared_keeps : Spares mine Safe h new → (job : Option Job) → KeepsAllBackups c opened h job → KeepsAllBackups c opened new job
    spared_keeps spares job k = keeps_over mine Safe h new spares c opened job (λ v file b l. spared_listed job v file b l) (spared_writing spares job) recovers k

  -- calls on the files below 4
  pub vault_keeps : GoesOn IsOurs h new → (job : Option Job) → KeepsAllBackups c opened h job → KeepsAllBackups c opened new job
  vault_keeps goes job k =
      spared_keeps (λ n. 4 ≤ n) (λ s. 4 ≤ s.file) (λ n filed. filed.0.0)
      (λ v t covered. also_sequential (λ w r. AllByRecursion (IsLaid c) r.segments) (λ w r. AllByRecursion (λ (s : Segment). 4 ≤ s.file) r.segments) t.database
      (λ w r all. each_also (IsLaid c) (λ (s : Segment). 4 ≤ s.file) r.segments (λ s is. is.0) all) covered.laid)
      (spares_others IsOurs (λ n. 4 ≤ n) (λ s. 4 ≤ s.file) h new (λ n own ours. omega (arith, own, ours)) (λ s own ours. omega (arith, own, ours)) goes) job k

  -- on a file whose number isn't drawn yet
  pub fresh_keeps : (file : ℕ) → (inventory c).next_file ≤ file → c.base.next_file ≤ file → IsNewFile c file → GoesOn (λ n. n ≡ file) h new → (job : Option Job) → KeepsAllBackups c opened h job → KeepsAllBackups c opened new job
  fresh_keeps file drawn first unmade goes job k =
      spared_keeps (λ n. n ≡ file → ⊥) (λ s. s.file ≡ file → ⊥) (λ n filed same. let low = filed.0.1 in omega (arith, low, same, drawn))
      (λ v t covered. also_sequential (λ w r. AllByRecursion (IsLaid c) r.segments) (λ w r. AllByRecursion (λ (s : Segment). s.file ≡ file → ⊥) r.segments) t.database
      (λ w r all. each_also (IsLaid c) (λ (s : Segment). s.file ≡ file → ⊥) r.segments elsewhere all) covered.laid)
      (spares_others (λ n. n ≡ file) (λ n. n ≡ file → ⊥) (λ s. s.file ≡ file → ⊥) h new (λ n own same. own same) (λ s own same. own same) goes) job k
    where
      elsewhere : (s : Segment) → IsLaid c s → s.file ≡ file → ⊥
      elsewhere s (from, inl old) same = omega (arith, old, same, first)
      elsewhere s (from, inr (count, was)) same = false≢true (sym (ap is_some (unmade count)) ∙ subst (λ n. is_some (row_at n (inv_at count c).stores.volumes) ≡ true) same was)

  -- where it is watched for all, calls that spare what was written
  module _ (mine : ℕ → Type 0) (Safe : Segment → Type 0) (watched : (v : Inv) → IsWatched c v) (filed : (n : ℕ) → IsFiled c n → mine n) (safe : (s : Segment) → IsLaid c s → IsWrittenOn c s → Safe s) where
    pub written_keeps : Spares mine Safe h new → (job : Option Job) → KeepsAllBackups c opened h job → KeepsAllBackups c opened new job
    written_keeps spares job k =
        spared_keeps mine Safe filed
        (λ v t covered. both_sequential (λ w r. AllByRecursion (IsLaid c) r.segments) (λ w r. AllByRecursion (IsWrittenOn c) r.segments) (λ w r. AllByRecursion Safe r.segments) t.database
        (λ w r a b. each_both (IsLaid c) (IsWrittenOn c) Safe r.segments safe a b) covered.laid (covered.written (watched v))) spares job k

  -- one write within a segment that spares them
  pub range_keeps : (u : Segment) → ((v : Inv) → IsWatched c v) → SparesBackups c u → WroteWithin u.file u.offset (32 + u.len) h new → (job : Option Job) → KeepsAllBackups c opened h job → KeepsAllBackups c opened new job
  range_keeps u watched apart wrote job k =
      written_keeps (λ n. n ≡ u.file → ⊥) (IsSafeOf u) watched apart.0 apart.1 (spares_range (λ n. n ≡ u.file → ⊥) (IsSafeOf u) u.file u.offset (32 + u.len) h new (λ own. own refl) outside wrote) job k
    where
      outside : (s : Segment) → IsSafeOf u s → (s.file ≡ u.file → ⊥) ⊎ ((s.file ≡ u.file) × ((piece : List ℕ) → length piece ≡ 32 + s.len → IsOutside u.offset (32 + u.len) s.offset piece))
      outside s (inl elsewhere) = inl elsewhere
      outside s (inr (same, inl before)) = inr (same, λ piece long. inl (omega (arith, before, long)))
      outside s (inr (same, inr behind)) = inr (same, λ piece long. inr (omega (arith, behind)))

  others : (file : ℕ) (l : List Increment) → AllByRecursion (λ (i : Increment). i.after < file) l → AllByRecursion (λ n. n ≡ file → ⊥) (map (λ (i : Increment). i.after) l)
  others file [] smaller = tt
  others file (i ∷ l) smaller = ((λ same. let less = smaller.0 in omega (arith, less, same)), others file l smaller.1)

  -- on the file of the backup that is written
  pub job_keeps : (job : Job) → c.fault ≡ None → GoesOn (λ n. n ≡ job.file) h new → KeepsAllBackups c opened h (Some job) → KeepsAllBackups c opened new (Some job)
  job_keeps job none goes k =
      let spares = spares_others (λ n. n ≡ job.file) (λ n. n ≡ job.file → ⊥) (λ s. s.file ≡ job.file → ⊥) h new (λ n own same. own same) (λ s own same. own same) goes in
      keeps_over (λ n. n ≡ job.file → ⊥) (λ s. s.file ≡ job.file → ⊥) h new spares c opened (Some job) (λ v file b l. record { files = (l.aside none).0; segments = (l.aside none).1 })
      (λ t w. (others job.file t.increments w.smaller, λ v covered. w.aside)) recovers k

-- ---- calls that change no file

module _ (h new : History) (c : Core) (opened : ℕ) (goes : GoesOn (λ n. ⊥) h new) (from : opened ≤ now h) where
  spares_all : Spares (λ n. Unit {0}) (λ s. Unit {0}) h new
  spares_all = spares_others (λ n. ⊥) (λ n. Unit {0}) (λ s. Unit {0}) h new (λ n own none. none) (λ s own none. none) goes

  any_file : (l : List ℕ) → AllByRecursion (λ n. Unit {0}) l
  any_file [] = tt
  any_file (n ∷ l) = (tt, any_file l)

  any_segment : (t : Taken) → EachSequential (λ w r. AllByRecursion (λ s. Unit {0}) r.segments) t.database
  any_segment t = each_any _ (versions t.database) (λ w. each_any _ w.copies (λ r sequential. each_any (λ s. Unit {0}) r.segments (λ s. tt)))

  still_writing : (job : Option Job) → IsSparedWriting (λ n. Unit {0}) (λ s. Unit {0}) h new spares_all c opened job
  still_writing None = tt
  still_writing (Some job) = λ t w. (any_file (map (λ (i : Increment). i.after) t.increments), λ v covered. any_segment t)

  pub still_keeps : (job : Option Job) → KeepsAllBackups c opened h job → KeepsAllBackups c opened new job
  still_keeps job k = record {
    always = λ moment image first last at v recovers. elim (cases_lt moment (now h)) as (λ _. Backs image v) [
      | inl early ↦ k.always moment image first (omega (arith, early)) (goes_image_before (λ n. ⊥) h new moment image goes (omega (arith, early)) at) v recovers
      | inr late ↦ k.always (now h) image from (omega arith) (image_now h image (λ file. goes_images (λ n. ⊥) h new file (λ none. none) goes moment image late last at)) v recovers
    ];
    before = k.before;
    now = each_also (HasBackups h c job) (HasBackups new c job) (left_open c)
        (λ v has. backups_over (λ n. Unit {0}) (λ s. Unit {0}) h new spares_all c job v (λ file b l. record { files = any_file (files_of file l.backup.increments); segments = λ young. any_segment l.backup }) has) k.now;
    writes = writes_over (λ n. Unit {0}) (λ s. Unit {0}) h new spares_all c opened job (still_writing job) k.writes;
  }

-- ---- the backup that is written

module _ (h : History) (c : Core) (opened : ℕ) where
  -- it isn't written any more
  pub dropped_keeps : (job : Option Job) → KeepsAllBackups c opened h job → KeepsAllBackups c opened h None
  dropped_keeps job k = record { always = k.always; before = k.before; now = each_also (HasBackups h c job) (HasBackups h c None) (left_open c) alone k.now; writes = tt } where
    alone : (v : Inv) → HasBackups h c job v → HasBackups h c None v
    alone v has file b at done which =
        let m = has file b at done which in
        record { backup = m.backup; readable = m.readable; own = m.own; files = m.files; none_here = m.none_here; smaller = m.smaller; provided = m.provided; covered = m.covered; aside = λ none. tt }

  -- it is in another phase
  pub further_keeps : (job : Job) (phase : Phase) → KeepsAllBackups c opened h (Some job) → KeepsAllBackups c opened h (Some (at_phase phase job))
  further_keeps job phase k = record { always = k.always; before = k.before; now = each_also (HasBackups h c (Some job)) (HasBackups h c (Some (at_phase phase job))) (left_open c) still k.now; writes = λ none. let t = k.writes none in (t.0, writes t.0 t.1) } where
    still : (v : Inv) → HasBackups h c (Some job) v → HasBackups h c (Some (at_phase phase job)) v
    still v has file b at done which =
        let m = has file b at done which in
        record { backup = m.backup; readable = m.readable; own = m.own; files = m.files; none_here = m.none_here; smaller = m.smaller; provided = m.provided; covered = m.covered; aside = m.aside }

    writes : (t : Taken) → IsWriting h c job t → IsWriting h c (at_phase phase job) t
    writes t w = record {
      number = w.number;
      small = w.small;
      possible = w.possible;
      holds = w.holds;
      own = w.own;
      leads = w.leads;
      never = w.never;
      files = w.files;
      smaller = w.smaller;
      listed = w.listed;
      aside = w.aside;
    }

  -- one begins to be written, in a file that no database of the run has as a volume's or a whole backup's
  pub begun_keeps : (job : Job) → c.base.next_file ≤ job.file → IsNewFile c job.file → (WasDone c job.file → ⊥) → (c.fault ≡ None → (t : Taken) × IsWriting h c job t) → KeepsAllBackups c opened h None → KeepsAllBackups c opened h (Some job)
  begun_keeps job first unmade undone writing k = record { always = k.always; before = k.before; now = each_also (HasBackups h c None) (HasBackups h c (Some job)) (left_open c) beside k.now; writes = writing } where
    other_file : (n : ℕ) → IsFiled c n → n ≡ job.file → ⊥
    other_file n (never, inl old) same = omega (arith, old, same, first)
    other_file n (never, inr was) same = undone (subst (WasDone c) same was)

    other_segment : (s : Segment) → IsLaid c s → s.file ≡ job.file → ⊥
    other_segment s (from, inl old) same = omega (arith, old, same, first)
    other_segment s (from, inr (count, was)) same = false≢true (sym (ap is_some (unmade count)) ∙ subst (λ n. is_some (row_at n (inv_at count c).stores.volumes) ≡ true) same was)

    beside : (v : Inv) → HasBackups h c None v → HasBackups h c (Some job) v
    beside v has file b at done which =
        let m = has file b at done which in
        record {
          backup = m.backup;
          readable = m.readable;
          own = m.own;
          files = m.files;
          none_here = m.none_here;
          smaller = m.smaller;
          provided = m.provided;
          covered = m.covered;
          aside = λ none. (
            each_also (IsFiled c) (λ n. n ≡ job.file → ⊥) (files_of file m.backup.increments) other_file m.files,
            λ young. also_sequential (λ w r. AllByRecursion (IsLaid c) r.segments) (λ w r. AllByRecursion (λ (s : Segment). s.file ≡ job.file → ⊥) r.segments) m.backup.database
                (λ w r all. each_also (IsLaid c) (λ (s : Segment). s.file ≡ job.file → ⊥) r.segments other_segment all) (m.covered young).laid,
          );
        }

  -- once a fault has halted the hall it doesn't matter which one it is
  pub halted_any : (c.fault ≡ None → ⊥) → (job other : Option Job) → KeepsAllBackups c opened h job → KeepsAllBackups c opened h other
  halted_any fault job other k = record { always = k.always; before = k.before; now = each_also (HasBackups h c job) (HasBackups h c other) (left_open c) whichever k.now; writes = none_writes other } where
    whichever : (v : Inv) → HasBackups h c job v → HasBackups h c other v
    whichever v has file b at done which =
        let m = has file b at done which in
        record { backup = m.backup; readable = m.readable; own = m.own; files = m.files; none_here = m.none_here; smaller = m.smaller; provided = m.provided; covered = m.covered; aside = λ none. absurd (fault none) }

    none_writes : (other : Option Job) → WritesBackup h c other
    none_writes None = tt
    none_writes (Some job) = λ none. absurd (fault none)
