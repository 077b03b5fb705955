-- What BACKUP DB says of its backup is so: which one it follows, which file it has, which number, and which transactions were made.
use Rattle.std.proofs.Common.{◌≡◌, inl, inr, ℕ, zero, suc, ◌+◌, ◌-◌, ◌^◌, ◌&&◌, nat_le, nat_lt, Bool, true, false, if◌then◌else◌, List, [], ◌∷◌, ◌++◌, None, Option, Some, Result, Ok, Err, refl, sym, ap, subst, ◌∙◌}
use Rattle.std.proofs.lemmas.List.{append-nil, append_assoc, append_cancel_left}
use Rattle.std.proofs.lemmas.Option.{same_Some}
use Rattle.std.specs.List.{AllByRecursion}
use Rattle.std.specs.Option.{option_map_or}
use Rattle.kinds.specs.Refusals.{unless}
use Rattle.kinds.specs.declared.refusal.Holder.{Holder}
use Rattle.kinds.specs.declared.refusal.Holder.TheVariants as holder
use Rattle.kinds.specs.declared.refusal.Refusal.{Refusal}
use Rattle.kinds.specs.declared.refusal.Refusal.TheVariants as refused
use Rattle.entries.specs.declared.change.Change.TheVariants as change
use Rattle.entries.specs.declared.entry.Entry.{Entry}
use Rattle.inventory_rows.specs.version_groups.Entries.{on_ok}
use Rattle.inventory_rows.specs.State.{Inv}
use Rattle.inventory_rows.specs.declared.backup.Backup.{Backup}
use Rattle.inventory_rules.specs.Backups.{backup_at, is_done}
use Rattle.inventory_answers.specs.Stores.{backup_lines}
use Rattle.inventory_answers.specs.declared.lines.BackupLine.{BackupLine}
use Rattle.inventory_answers.specs.declared.query.Query.TheVariants as query
use Rattle.inventory_answers.specs.declared.reply.Answer.{Answer}
use Rattle.inventory_answers.specs.declared.reply.Rows.TheVariants as listing
use Rattle.admin_words.specs.declared.command.Command.{Command}
use Rattle.admin_commands.specs.declared.work.Work.{Work}
use Rattle.admin_commands.specs.declared.work.Work.TheVariants.{Commit, Run, Show}
use Rattle.command_steps.specs.copy_attempts.Attempts.{Awaits}
use Rattle.reports.specs.declared.shown.Shown.TheVariants.{BackedUp}
use Rattle.command_steps.specs.sessions.Checkpoints.{AreMore}
use Rattle.command_steps.specs.sessions.Waiting.{Held, Waited}
use Rattle.steps.specs.declared.image.ImageKind.TheVariants as image
use Rattle.steps.specs.declared.image.ImageReply.{ImageReply}
use Rattle.steps.specs.declared.image.ImageReply.TheVariants as reply
use Rattle.steps.specs.Calls.{Made}
use Rattle.steps.specs.Events.{Deed, Event, event, has_number}
use Rattle.steps.specs.Events.Deed.{Ask, Force, Image}
use Rattle.command_steps.specs.db_backup.declared.taking.Taken.{Taken}
use Rattle.command_steps.specs.db_backup.Backups.{Follows, FollowsNewest, Listed}
use Rattle.command_steps.specs.db_backup.Listing.{newest_file}
use Rattle.command_steps.specs.db_backup.Taking.{Backs, Begins, Continues, Opens, kind_of, numbers}
use Rattle.machine.specs.Alone.{Alone, Moves}
use Rattle.machine.specs.Causes.{change_illegal, image_refused, since_refused}
use Rattle.machine.proofs.Elsewhere.{append-none, none-held}
use Rattle.machine.specs.Machine.{BeginsBackup, Continues as ContinuesBy, Forces, Images, IsAnswer, Places, WroteMore, ended, halting, in_progress, stamped}
use Rattle.machine.specs.State.{Core, Image as Picture, Machine, after as behind_all, backup, checkpoint, inventory, sight}
use Rattle.command_steps.specs.Behind.{forces}
use Rattle.command_steps.specs.Clients.{Client}
use Rattle.command_steps.specs.Doing.{backed_up, behind_force}
use Rattle.command_steps.specs.Owns.{Own, back_up_database, back_up_since, own_of}
use Rattle.command_steps.specs.declared.outcome.Outcome.{Outcome}
use Rattle.command_steps.specs.declared.outcome.Outcome.TheVariants.{Said}
use Rattle.line_results.specs.Bounds.{is_of_run}
use Rattle.line_results.specs.Clauses.{HasFollowedNewest, IsBackedUp, ToldBy, ToldOwn}
use Rattle.line_results.specs.Commands.{DoesOwn, IsReuse, Works, WorksWith}
use Rattle.line_results.specs.Resting.{Adds, database, entry}
use Rattle.line_results.proofs.Backing.{own-is}
use Rattle.line_results.proofs.Runs.{alone-none, alone-parts, one-or-none, stepped}

-- ---- tries that wait

-- the same transactions were made, and the same file number is drawn next
pub record Like (old m : Machine) : Type 0 where
  pub base : m.core.base ≡ old.core.base
  pub journal : m.core.journal ≡ old.core.journal
  pub next : m.core.next_file ≡ old.core.next_file

pub like-none : (m : Machine) → Like m m
like-none m = record { base = refl; journal = refl; next = refl }

like-core : (old m next : Machine) (d : Core) → next.core ≡ d → d.base ≡ m.core.base → d.journal ≡ m.core.journal → d.next_file ≡ m.core.next_file → Like old m → Like old next
like-core old m next d is base journal file l = record {
  base = ap (λ (k : Core). k.base) is ∙ base ∙ l.base;
  journal = ap (λ (k : Core). k.journal) is ∙ journal ∙ l.journal;
  next = ap (λ (k : Core). k.next_file) is ∙ file ∙ l.next;
}

-- a refusal that another image is being written is the step's
pub busy-by : (why : Refusal) (h : Holder) (among : Bool) → refused.Busy h ≡ (if among then why else refused.Memory) → why ≡ refused.Busy h
busy-by why h true is = sym is
busy-by why h false is = absurd cc

busy-like : (after : Option ℕ) (why : Refusal) (h : Holder) (held : List Refusal) (old m next : Machine) → why ≡ refused.Busy h → Like old m → BeginsBackup 0 after held m next (Err why) → Like old next
busy-like after why h held old m next busy l (inl x) = like-core old m next m.core x.1.core refl refl refl l
busy-like after why h held old m next busy l (inr (none, inl (file, count, is, fault, becomes))) = (let odd : refused.Busy h ≡ refused.LogFault file count = sym busy ∙ is in absurd cc)
busy-like after why h held old m next busy l (inr (none, inr (moment, is, rose, becomes))) = (let odd : refused.Busy h ≡ refused.WriteFault m.core.next_file = sym busy ∙ is in absurd cc)

force-like : (answer : Result ℕ Refusal) (old m next : Machine) → Like old m → Forces 0 m next answer → Like old next
force-like (Ok number) old m next l h = like-core old m next (stamped next.moment m.core) h.1.1.core refl refl refl l
force-like (Err e) old m next l (inl h) = like-core old m next m.core h.1.core refl refl refl l
force-like (Err e) old m next l (inr (none, (file, count, is, fault, becomes))) = like-core old m next (halting file count m.core) becomes.core refl refl refl l

same-like : (old m new : Machine) → new ≡ m → Like old m → Like old new
same-like old m new same l = subst (λ (x : Machine). Like old x) (sym same) l

-- the same backups are of the run
pub like-run : (file : ℕ) (old m : Machine) → Like old m → is_of_run file m.core ≡ is_of_run file old.core
like-run file old m l =
    let same : inventory m.core ≡ inventory old.core = ap (λ (b : Inv). behind_all b m.core.journal) l.base ∙ ap (λ (j : List Entry). behind_all old.core.base j) l.journal in
    ap (λ (v : Inv). is_done (backup_at file v) && option_map_or (λ (b : Backup). nat_le m.core.base.number b.number) (backup_at file v) false) same
    ∙ ap (λ (k : Inv). is_done (backup_at file (inventory old.core)) && option_map_or (λ (b : Backup). nat_le k.number b.number) (backup_at file (inventory old.core)) false) l.base

-- the one that is followed, if any, is of this run
abbrev pub CanFollow : Option ℕ → Core → Type 0
CanFollow None c = Unit {0}
CanFollow (Some file) c = is_of_run file c ≡ true

like-can : (after : Option ℕ) (old m : Machine) → Like old m → CanFollow after m.core → CanFollow after old.core
like-can None old m l can = tt
like-can (Some file) old m l can = sym (like-run file old m l) ∙ can

-- a backup that was begun and isn't whole yet: its beginning joined, and its image is in progress
pub record HasBegun (after : Option ℕ) (t : Taken) (old m : Machine) : Type 0 where
  pub can : CanFollow after old.core
  pub file : t.file ≡ old.core.next_file
  pub seq : t.seq ≡ (database old).number + 1
  pub journal : m.core.journal ≡ old.core.journal ++ entry (change.DbBegin old.core.next_file after) ∷ []
  pub written : Picture
  pub there : m.core.image ≡ Some written
  pub of : written.picture ≡ backup
  pub into : written.file ≡ old.core.next_file

-- its end joined, too
pub record IsWhole (after : Option ℕ) (t : Taken) (old m : Machine) : Type 0 where
  can : CanFollow after old.core
  file : t.file ≡ old.core.next_file
  seq : t.seq ≡ (database old).number + 1
  journal : m.core.journal ≡ old.core.journal ++ (entry (change.DbBegin old.core.next_file after) ∷ entry (change.DbEnd old.core.next_file) ∷ [])

like-number : (old m : Machine) → Like old m → (inventory m.core).number ≡ (database old).number
like-number old m l = ap (λ b. (behind_all b m.core.journal).number) l.base ∙ ap (λ (j : List Entry). (behind_all old.core.base j).number) l.journal

begun-by : (after : Option ℕ) (t : Taken) (held : List Refusal) (old m next : Machine) → CanFollow after m.core → Like old m → BeginsBackup 0 after held m next (Ok (reply.Begun t.file t.seq)) → HasBegun after t old next
begun-by after t held old m next can l (none, (unwritten, is, becomes)) =
    let file : t.file ≡ m.core.next_file = cc in
    let seq : t.seq ≡ (inventory m.core).number + 1 = cc in
    record {
      can = like-can after old m l can;
      file = file ∙ l.next;
      seq = seq ∙ ap (λ (n : ℕ). n + 1) (like-number old m l);
      journal = ap (λ (k : Core). k.journal) becomes.core ∙ ap (λ (j : List Entry). j ++ entry (change.DbBegin m.core.next_file after) ∷ []) l.journal
          ∙ ap (λ (n : ℕ). old.core.journal ++ entry (change.DbBegin n after) ∷ []) l.next;
      written = record { actor = 0; picture = backup; file = m.core.next_file; seq = (inventory m.core).number + 1; unwritten = unwritten; copied = 0 };
      there = ap (λ (k : Core). k.image) becomes.core;
      of = refl;
      into = l.next;
    }

wrote-same : (i j : Picture) (c : Core) → WroteMore i j c → (j.picture ≡ i.picture) × (j.file ≡ i.file)
wrote-same i j c (inl (less, is)) = (ap (λ (x : Picture). x.picture) is, ap (λ (x : Picture). x.file) is)
wrote-same i j c (inr (none, of, less, most, is)) = (ap (λ (x : Picture). x.picture) is, ap (λ (x : Picture). x.file) is)

more-by : (after : Option ℕ) (t : Taken) (old m next : Machine) → HasBegun after t old m → ContinuesBy 0 m next (Ok reply.More) → HasBegun after t old next
more-by after t old m next b (none, (i, j, own, wrote, becomes)) =
    let same : b.written ≡ i = same_Some b.written i (sym b.there ∙ own-is m.core.image i own) in
    let alike = wrote-same i j m.core wrote in
    record {
      can = b.can;
      file = b.file;
      seq = b.seq;
      journal = ap (λ (k : Core). k.journal) becomes.core ∙ b.journal;
      written = j;
      there = ap (λ (k : Core). k.image) becomes.core;
      of = alike.0 ∙ ap (λ (x : Picture). x.picture) (sym same) ∙ b.of;
      into = alike.1 ∙ ap (λ (x : Picture). x.file) (sym same) ∙ b.into;
    }

done-by : (after : Option ℕ) (t : Taken) (seq : ℕ) (old m next : Machine) → HasBegun after t old m → ContinuesBy 0 m next (Ok (reply.Done seq)) → IsWhole after t old next
done-by after t seq old m next b (none, (i, own, is, all, inl (of, copied, becomes))) =
    let same : b.written ≡ i = same_Some b.written i (sym b.there ∙ own-is m.core.image i own) in
    (let odd : backup ≡ checkpoint = sym b.of ∙ ap (λ (x : Picture). x.picture) same ∙ of in absurd cc)
done-by after t seq old m next b (none, (i, own, is, all, inr (of, legal, becomes))) =
    let same : b.written ≡ i = same_Some b.written i (sym b.there ∙ own-is m.core.image i own) in
    let into : i.file ≡ old.core.next_file = ap (λ (x : Picture). x.file) (sym same) ∙ b.into in
    record {
      can = b.can;
      file = b.file;
      seq = b.seq;
      journal = ap (λ (k : Core). k.journal) becomes.core ∙ ap (λ (j : List Entry). j ++ entry (change.DbEnd i.file) ∷ []) b.journal
          ∙ ap (λ (n : ℕ). (old.core.journal ++ entry (change.DbBegin old.core.next_file after) ∷ []) ++ entry (change.DbEnd n) ∷ []) into
          ∙ append_assoc old.core.journal (entry (change.DbBegin old.core.next_file after) ∷ []) (entry (change.DbEnd old.core.next_file) ∷ []);
    }

force-journal : (answer : Result ℕ Refusal) (m next : Machine) → Forces 0 m next answer → next.core.journal ≡ m.core.journal
force-journal answer m next h = (force-like answer m m next (like-none m) h).journal

whole-on : (after : Option ℕ) (t : Taken) (old m next : Machine) → IsWhole after t old m → next.core.journal ≡ m.core.journal → IsWhole after t old next
whole-on after t old m next w same = record { can = w.can; file = w.file; seq = w.seq; journal = same ∙ w.journal }

-- ---- all steps

-- the first step of a backup, of the whole database or of what came behind another one
first-step : (after : Option ℕ) (old new : Machine) (answer : Result ImageReply Refusal) → Images 0 (kind_of after) old new answer → (held : List Refusal) × BeginsBackup 0 after held old new answer
first-step None old new answer h = (image_refused image.Backup (sight 0 old.core), h)
first-step (Some file) old new answer h = (image_refused (image.Since file) (sight 0 old.core), h)

unless-none : (b : Bool) (e : Refusal) → unless b e ≡ [] → b ≡ true
unless-none true e h = refl
unless-none false e h = absurd cc

-- it isn't refused where the one that is followed is of this run
first-can : (after : Option ℕ) (old new : Machine) (told : ImageReply) → Images 0 (kind_of after) old new (Ok told) → CanFollow after old.core
first-can None old new told h = tt
first-can (Some file) old new told h =
    let own : List Refusal = image_refused (image.Since file) (sight 0 old.core) in
    let all : ended old ++ (own ++ in_progress old.core.image) ≡ [] = none-held (ended old ++ (own ++ in_progress old.core.image)) h.0 in
    let rules : own ≡ [] = (append-none own (in_progress old.core.image) (append-none (ended old) (own ++ in_progress old.core.image) all).1).0 in
    let since : since_refused file (sight 0 old.core) ≡ [] = (append-none (since_refused file (sight 0 old.core)) (change_illegal (change.DbBegin old.core.next_file (Some file)) (sight 0 old.core)) rules).0 in
    unless-none (is_of_run file old.core) refused.NotFound
    (append-none (unless (is_of_run file old.core) refused.NotFound)
    (unless (option_map_or (λ (b : Backup). nat_lt ((inventory old.core).number + 1 - b.number) (2 ^ 32)) (backup_at file (inventory old.core)) true) refused.InventoryFull) since).0

module _ (trusted : Type 0) (places : Places) (after : Option ℕ) where
  try-like : (h : Holder) (events : List Event) (old m new : Machine) → Begins (kind_of after) (Err (refused.Busy h)) events → Like old m → Alone trusted places 0 events m new → Like old new
  try-like h events old m new (inl (why, same, made)) l f =
      elim (one-or-none trusted places (Image (kind_of after) (Err why)) events m new (λ contents seen x. x) (λ contents x. refl) made f) as (λ _. Like old new) [
        | inl s ↦ (let step = first-step after m new (Err why) s.1 in busy-like after why h step.0 old m new (busy-by why h (has_number (numbers (kind_of after)) why) same) l step.1)
        | inr s ↦ same-like old m new s.1 l
      ]
  try-like h events old m new (inr (told, same, made)) l f = (let odd : refused.Busy h ≡ refused.Memory = same in absurd cc)

  await-like : (h : Holder) (events : List Event) (old m new : Machine) → Awaits h events (Ok tt) → Like old m → Alone trusted places 0 events m new → Like old new
  await-like (holder.Unforced number) events old m new (answer, is, made) l f =
      elim (one-or-none trusted places (Force answer) events m new (λ contents seen x. x) (λ contents x. refl) made f) as (λ _. Like old new) [
        | inl s ↦ force-like answer old m new l s.1
        | inr s ↦ same-like old m new s.1 l
      ]
  await-like (holder.Ticket number) events old m new (none, how) l f = same-like old m new (alone-none trusted places 0 events m new none f) l
  await-like (holder.Image actor) events old m new (none, how) l f = same-like old m new (alone-none trusted places 0 events m new none f) l

  held-like : (events : List Event) (old m new : Machine) → Held (Begins (kind_of after)) events (Ok tt) → Like old m → Alone trusted places 0 events m new → Like old new
  held-like events old m new (h, (xs, ys, cut, tried, awaited)) l f =
      let parts = alone-parts trusted places 0 events xs ys m new cut f in
      await-like h ys old parts.0 new awaited (try-like h xs old m parts.0 tried l parts.1) parts.2

  pub waited-like : (number : ℕ) (events : List Event) (old m new : Machine) → Waited (Begins (kind_of after)) number events → Like old m → Alone trusted places 0 events m new → Like old new
  waited-like zero events old m new none l f = same-like old m new (alone-none trusted places 0 events m new none f) l
  waited-like (suc number) events old m new (xs, ys, cut, waited, held) l f =
      let parts = alone-parts trusted places 0 events xs ys m new cut f in
      held-like ys old parts.0 new held (waited-like number xs old m parts.0 waited l parts.1) parts.2

  pub opened : (t : Taken) (events : List Event) (old new : Machine) → Opens (kind_of after) events (Ok t) → Alone trusted places 0 events old new → HasBegun after t old new
  opened t events old new (number, (xs, ys, cut, waited, inl (none, made))) f =
      let parts = alone-parts trusted places 0 events xs ys old new cut f in
      elim (one-or-none trusted places (Image (kind_of after) (Ok (reply.Begun t.file t.seq))) ys parts.0 new (λ contents seen x. x) (λ contents x. refl) made parts.2) as (λ _. HasBegun after t old new) [
        | inl s ↦ (let step = first-step after parts.0 new (Ok (reply.Begun t.file t.seq)) s.1 in begun-by after t step.0 old parts.0 new (first-can after parts.0 new (reply.Begun t.file t.seq) s.1) (waited-like number xs old old parts.0 waited (like-none old) parts.1) step.1)
        | inr s ↦ absurd (let odd = s.0 in cc)
      ]
  opened t events old new (number, (xs, ys, cut, waited, inr (inl (e, held, is)))) f = absurd cc
  opened t events old new (number, (xs, ys, cut, waited, inr (inr (many, none, is)))) f = absurd cc

  pub more-on : (t : Taken) (events : List Event) (old m new : Machine) → AreMore events → HasBegun after t old m → Alone trusted places 0 events m new → HasBegun after t old new
  more-on t [] old m new more b same = subst (λ (x : Machine). HasBegun after t old x) (sym same) b
  more-on t (e ∷ events) old m new more b (next, moved, rest) =
      let d : Deed = Image image.Next (Ok reply.More) in
      let by : Moves trusted places 0 (event e.n d) m next = subst (λ (x : Deed). Moves trusted places 0 (event e.n x) m next) more.0 moved in
      let s = stepped trusted places e.n d (event e.n d ∷ []) m next (λ contents seen x. x) (λ contents x. refl) refl (next, by, refl) in
      more-on t events old next new more.1 (more-by after t old m next b s.1) rest

  written : (t : Taken) (seq : ℕ) (events : List Event) (old m new : Machine) → Continues events (Ok seq) → HasBegun after t old m → Alone trusted places 0 events m new → IsWhole after t old new
  written t seq events old m new (xs, ys, cut, more, made) b f =
      let parts = alone-parts trusted places 0 events xs ys m new cut f in
      elim (one-or-none trusted places (Image image.Next (Ok (reply.Done seq))) ys parts.0 new (λ contents seen x. x) (λ contents x. refl) made parts.2) as (λ _. IsWhole after t old new) [
        | inl s ↦ done-by after t seq old parts.0 new (more-on t xs old m parts.0 more b parts.1) s.1
        | inr s ↦ absurd (let odd = s.0 in cc)
      ]

  forced : (t : Taken) (last : ℕ) (events : List Event) (old m new : Machine) → Made (Force (Ok last)) events → IsWhole after t old m → Alone trusted places 0 events m new → IsWhole after t old new
  forced t last events old m new made w f =
      elim (one-or-none trusted places (Force (Ok last)) events m new (λ contents seen x. x) (λ contents x. refl) made f) as (λ _. IsWhole after t old new) [
        | inl s ↦ whole-on after t old m new w (force-journal (Ok last) m new s.1)
        | inr s ↦ absurd (let odd = s.0 in cc)
      ]

  taken : (t : Taken) (events : List Event) (old new : Machine) → Backs (kind_of after) events (Ok t) → Alone trusted places 0 events old new → IsWhole after t old new
  taken t events old new (inl (e, starts, is)) f = absurd cc
  taken t events old new (inr (begun, (xs, ys, cut, opens, (same, seq, last, (us, vs, apart, continues, made))))) f =
      let parts = alone-parts trusted places 0 events xs ys old new cut f in
      let pieces = alone-parts trusted places 0 ys us vs parts.0 new apart parts.2 in
      let b = opened begun xs old parts.0 opens parts.1 in
      let w = forced begun last vs old pieces.0 new made (written begun seq us old parts.0 pieces.0 continues b pieces.1) pieces.2 in
      subst (λ (x : Taken). IsWhole after x old new) (sym same) w

-- ---- one that follows another

-- the earlier state has the same core
told-as : (after : Option ℕ) (t : Taken) (start old new : Machine) → start.core ≡ old.core → IsWhole after t start new → IsWhole after t old new
told-as after t start old new same w = record {
  can = subst (λ (k : Core). CanFollow after k) same w.can;
  file = w.file ∙ ap (λ (k : Core). k.next_file) same;
  seq = w.seq ∙ ap (λ (k : Core). (inventory k).number + 1) same;
  journal = w.journal ∙ ap (λ (k : Core). k.journal ++ (entry (change.DbBegin k.next_file after) ∷ entry (change.DbEnd k.next_file) ∷ [])) same;
}

-- a backup in this file is the newest whole one, and one that follows it was made
record HasFollowed (after : ℕ) (t : Taken) (old new : Machine) : Type 0 where
  newest : newest_file (backup_lines (database old).backups) ≡ Some after
  whole : IsWhole (Some after) t old new

ok-is : {A : Type 0} (a b : A) → ◌≡◌ {A = Result A Refusal} (Ok a) (Ok b) → a ≡ b
ok-is a b h = cc

list-is : (a b : List BackupLine) → listing.History a ≡ listing.History b → a ≡ b
list-is a b h = cc

module _ (trusted : Type 0) (places : Places) where
  -- the list that was answered is the database's, and nothing changed
  pub listed-as : (lines : List BackupLine) (events : List Event) (old new : Machine) → Listed events lines → Alone trusted places 0 events old new → (new.core ≡ old.core) × (lines ≡ backup_lines (database old).backups)
  listed-as lines events old new (n, answer, asked, rows) f =
      let s = stepped trusted places n (Ask query.History (Ok answer)) events old new (λ contents seen x. x) (λ contents x. refl) asked f in
      let is : IsAnswer old.core.log_length query.History (inventory old.core) answer = s.1.1.0 in
      let v : Inv = database old in
      let same : answer ≡ record { n = v.number; today = v.today; rows = listing.History (backup_lines v.backups) } =
      is.2 ∙ sym (ok-is (record { n = v.number; today = v.today; rows = listing.History (backup_lines v.backups) }) is.0 is.1) in
      (s.1.1.1.core, list-is lines (backup_lines v.backups) (sym rows ∙ ap (λ (a : Answer). a.rows) same))

  follow-on : (o : Option ℕ) (t : Taken) (events : List Event) (old mid new : Machine) → newest_file (backup_lines (database old).backups) ≡ o → mid.core ≡ old.core → Follows o events (Ok t)
      → Alone trusted places 0 events mid new → (after : ℕ) × HasFollowed after t old new
  follow-on None t events old mid new newest same follows f = absurd (let odd = follows.1 in cc)
  follow-on (Some after) t events old mid new newest same follows f =
      (after, record { newest = newest; whole = told-as (Some after) t mid old new same (taken trusted places (Some after) t events mid new follows.order f) })

  followed : (t : Taken) (events : List Event) (old new : Machine) → FollowsNewest events (Ok t) → Alone trusted places 0 events old new → (after : ℕ) × HasFollowed after t old new
  followed t events old new (inl (e, unanswered, is)) f = absurd cc
  followed t events old new (inr (lines, (xs, ys, cut, listed, follows))) f =
      let parts = alone-parts trusted places 0 events xs ys old new cut f in
      let list = listed-as lines xs old parts.0 listed parts.1 in
      follow-on (newest_file lines) t ys old parts.0 new (ap newest_file (sym list.1)) list.0 follows parts.2

-- ---- a command

whole-told : (after : Option ℕ) (t : Taken) (old new : Machine) (first : List Entry) → Adds first old new → IsWhole after t old new → IsBackedUp after old (backed_up t) first
whole-told after t old new first adds w = (
  ap (λ (n : ℕ). Said (BackedUp n t.seq)) w.file ∙ ap (λ (n : ℕ). Said (BackedUp old.core.next_file n)) w.seq,
  append_cancel_left old.core.journal first (entry (change.DbBegin old.core.next_file after) ∷ entry (change.DbEnd old.core.next_file) ∷ []) (sym adds.journal ∙ w.journal),
)

answered-told : (P : Outcome → Type 0) (answer : Result Taken Refusal) (it : Outcome) → Ok it ≡ on_ok backed_up answer → ((t : Taken) → answer ≡ Ok t → P (backed_up t)) → P it
answered-told P (Ok t) it is told = subst P (let same : Ok it ≡ Ok (backed_up t) = is in let one : backed_up t ≡ it = cc in one) (told t refl)
answered-told P (Err e) it is told = absurd cc

followed-told : (t : Taken) (start old new : Machine) (first : List Entry) → Adds first old new → start.core ≡ old.core → (after : ℕ) × HasFollowed after t start new → HasFollowedNewest old (backed_up t) first
followed-told t start old new first adds same (after, h) = (
  after,
  ap (λ (k : Core). newest_file (backup_lines (inventory k).backups)) (sym same) ∙ h.newest,
  ap (λ (k : Core). is_of_run after k) (sym same) ∙ h.whole.can,
  whole-told (Some after) t old new first adds (told-as (Some after) t start old new same h.whole),
)

module _ (trusted : Type 0) (places : Places) (k : Client) (old mid : Machine) (it : Outcome) (first : List Entry) (adds : Adds first old mid) where
  told-own : (own : Own) (numbers : List ℕ) → DoesOwn trusted places k numbers own old mid (Ok it) first → ToldOwn own old it first
  told-own back_up_database numbers (kept, ((start, events, still, alone, (answer, made, is)), are, generation, bytes, reason)) =
      answered-told (λ it. IsBackedUp None old it first) answer it is
      (λ t same. whole-told None t old mid first adds (told-as None t start old mid still.core (taken trusted places None t events start mid (subst (λ (r : Result Taken Refusal). Backs image.Backup events r) same made.order) alone)))
  told-own back_up_since numbers (kept, ((start, events, still, alone, (answer, made, is)), are, generation, bytes, reason)) =
      answered-told (λ it. HasFollowedNewest old it first) answer it is
      (λ t same. followed-told t start old mid first adds still.core (followed trusted places t events start mid (subst (λ (r : Result Taken Refusal). FollowsNewest events r) same made.order) alone))
  told-own own numbers h = tt

-- what was said behind a force that was made was said before it
force-kept : (answer : Result ℕ Refusal) (said : Result Outcome Refusal) (it : Outcome) → Ok it ≡ behind_force said answer → said ≡ Ok it
force-kept (Ok number) (Ok x) it is = sym is
force-kept (Ok number) (Err (refused.LogFault file count)) it is = absurd cc
force-kept (Ok number) (Err refused.RunFull) it is = absurd cc
force-kept (Ok number) (Err e) it is = (let odd : Ok it ≡ Err e = is in absurd cc)
force-kept (Err e) said it is = absurd cc

-- nothing comes behind it
no-reuse : (later : List Entry) → AllByRecursion (λ e. (e.actor ≡ 0) × IsReuse forces e.change) later → later ≡ []
no-reuse [] h = refl
no-reuse (e ∷ later) h = absurd h.0.1

module _ (trusted : Type 0) (places : Places) (k : Client) (c : Command) (old new : Machine) (it : Outcome) (added : List Entry) where
  told-run : (numbers : List ℕ) → WorksWith trusted places k c (Ok (Run numbers)) forces old new (Ok it) added → ToldOwn (own_of c) old it added
  told-run numbers w =
      let ends = w.ends in
      let said : w.said ≡ Ok it = force-kept ends.2.0 w.said it ends.2.2 in
      let does : DoesOwn trusted places k numbers (own_of c) old w.mid (Ok it) w.first = subst (λ (r : Result Outcome Refusal). DoesOwn trusted places k numbers (own_of c) old w.mid r w.first) said w.does in
      let same : w.first ≡ added = sym (w.parts ∙ ap (λ (l : List Entry). w.first ++ l) (no-reuse w.later w.reused) ∙ append-nil w.first) in
      subst (λ (l : List Entry). ToldOwn (own_of c) old it l) same (told-own trusted places k old w.mid it w.first w.adds (own_of c) numbers does)

  pub told-by : (w : Result Work Refusal) → Works trusted places k c w forces old new (Ok it) added → ToldBy (own_of c) w old it added
  told-by (Ok (Run numbers)) h = told-run numbers h
  told-by (Ok (Commit what)) h = tt
  told-by (Ok (Show q)) h = tt
  told-by (Err why) h = tt
