-- A database backup's steps, one after the other: what they leave, and that no image is left where the run goes on.
use Rattle.std.proofs.Common.{◌≡◌, ◌⊎◌, inl, inr, ℕ, zero, suc, ◌+◌, ◌==◌, ◌||◌, Bool, true, false, if◌then◌else◌, List, [], ◌∷◌, ◌++◌, Option, None, Some, Result, Ok, Err, refl, sym, ap, subst, ◌∙◌}
use Rattle.std.proofs.lemmas.Bool.{eqb-true, false≢true}
use Rattle.std.proofs.lemmas.Option.{same_Some}
use Rattle.std.specs.List.{AllByRecursion}
use Rattle.kinds.specs.Refusals.{foremost, number_of, unless}
use Rattle.kinds.specs.declared.refusal.Refusal.{Refusal}
use Rattle.kinds.specs.declared.refusal.Refusal.TheVariants as refused
use Rattle.entries.specs.declared.change.Change.{Change}
use Rattle.entries.specs.declared.change.Change.TheVariants as change
use Rattle.entries.specs.declared.entry.Entry.{Entry}
use Rattle.inventory_answers.specs.declared.query.Query.{Query}
use Rattle.inventory_answers.specs.declared.reply.Answer.{Answer}
use Rattle.command_steps.proofs.of_copy_attempts.Facts.{some-memory}
use Rattle.command_steps.specs.copy_runs.Ends.{AreAsking, IsAsking}
use Rattle.command_steps.proofs.of_reuse_delay.Causes.{not-both}
use Rattle.command_steps.proofs.of_sessions.Causes.{awaits-all, made-all, then-all}
use Rattle.command_steps.specs.sessions.Changing.{IsOf as IsChanging}
use Rattle.command_steps.specs.sessions.Waiting.{Held, Waited}
use Rattle.steps.specs.declared.asked.Asked.{Asked}
use Rattle.steps.specs.declared.image.ImageKind.TheVariants as image
use Rattle.steps.specs.declared.image.ImageReply.{ImageReply}
use Rattle.steps.specs.declared.image.ImageReply.TheVariants as reply
use Rattle.steps.specs.Events.{Deed, Event, event, has_number}
use Rattle.steps.specs.Events.Deed.{Ask, Commit, Force, Image}
use Rattle.command_steps.specs.db_backup.declared.taking.Taken.{Taken}
use Rattle.command_steps.specs.db_backup.Backups.{Follows, FollowsNewest}
use Rattle.command_steps.specs.db_backup.Listing.{newest_file}
use Rattle.command_steps.specs.db_backup.Taking.{Backs, Begins, Completes, Continues, GivesUp, Opens, Starts, TakesOff, begun_file, failed_file, kind_of, may_leave, unwritten}
use Rattle.machine.proofs.Elsewhere.{append-all, ended-all, foremost-all, unless-all}
use Rattle.machine.specs.Alone.{Alone, AreBytes, behind}
use Rattle.machine.specs.Causes.{image_refused}
use Rattle.machine.specs.Fits.{drops_image}
use Rattle.machine.specs.Machine.{Asks, BeginsBackup, Case, Commits, Continues as ContinuesBy, Forces, IsLogFault, Places, Stays, asked_change, begun_change, ended, ending, halting, made, stamped, with_image}
use Rattle.machine.specs.State.{Core, Image as Picture, Machine, backup, checkpoint, inventory, own_image, sight}
use Rattle.line_results.specs.Resting.{IsAtRest, Onward, entry}
use Rattle.line_results.proofs.Runs.{onward-later, stepped}
use Rattle.line_results.proofs.Walking.{AreOf, Grew, Under, are-more, grew-as, grew-halts, grew-none, joined-under, spent-same, stamped-under, under-image}

-- ---- steps

-- It asks, forces, or commits a change without tickets; or it begins a database backup, or goes on with an image; and of each change that joins by it P holds.
abbrev pub MayBack : (P : Change → Type 0) → Deed → Type 0
MayBack P (Ask query answer) = Unit {0}
MayBack P (Force answer) = Unit {0}
MayBack P (Commit asked tickets answer) = (tickets ≡ []) × ((c : Change) (core : Core) → asked_change 0 asked [] core ≡ Some c → P c)
MayBack P (Image image.Backup answer) = (file : ℕ) → P (change.DbBegin file None)
MayBack P (Image (image.Since after) answer) = (file : ℕ) → P (change.DbBegin file (Some after))
MayBack P (Image image.Next answer) = (file : ℕ) → P (change.DbEnd file)
MayBack P _ = ⊥

abbrev pub AllBack : (P : Change → Type 0) → List Event → Type 0
AllBack P events = AllByRecursion (λ e. MayBack P e.deed) events

-- whether an image may be in progress behind a step, where one may be before it
abbrev pub left : Bool → Deed → Bool
left before (Image kind (Ok (reply.Begun file seq))) = true
left before (Image kind (Ok (reply.Done seq))) = false
left before (Image image.Next (Err e)) = if drops_image e then false else before
left before d = before

abbrev pub left_by : Bool → List Event → Bool
left_by before [] = before
left_by before (e ∷ events) = left_by (left before e.deed) events

-- ---- what they leave

-- an image in progress is a database backup's
abbrev pub IsBackups : Option Picture → Type 0
IsBackups it = (i : Picture) → it ≡ Some i → i.picture ≡ backup

-- Transactions were made, of each of which P holds, no ticket is held, and an image in progress is a database backup's; there is none unless one may be.
pub record Backed (P : Change → Type 0) (may : Bool) (first later : List Entry) (old m : Machine) : Type 0 where
  pub grew : Grew P first later old m
  pub free : m.core.tickets ≡ []
  pub image : IsBackups m.core.image
  pub idle : may ≡ false → m.core.image ≡ None

none-backups : (it : Option Picture) → it ≡ None → IsBackups it
none-backups it none i is = (let odd : None ≡ Some i = sym none ∙ is in absurd cc)

pub backed-none : (P : Change → Type 0) (m : Machine) → IsAtRest m.core → Backed P false [] [] m m
backed-none P m rest = record { grew = grew-none P m rest; free = rest.tickets; image = none-backups m.core.image rest.image; idle = λ h. rest.image }

-- the actor's own image is the one in progress
pub own-is : (it : Option Picture) (i : Picture) → own_image 0 it ≡ Some i → it ≡ Some i
own-is None i h = absurd cc
own-is (Some x) i h = elim (x.actor == 0) as (λ b. (if b then Some x else None) ≡ Some i → Some x ≡ Some i) [
  | true ↦ λ same. same
  | false ↦ λ odd. absurd cc
] h

-- what is refused before the next piece is written drops no image
held-drops : (m : Machine) (e : Refusal) → (foremost (ended m ++ image_refused image.Next (sight 0 m.core)) ≡ Some e) ⊎ (e ≡ refused.Memory) → drops_image e ≡ false
held-drops m e (inl h) =
    let P : Refusal → Type 0 = λ x. drops_image x ≡ false in
    foremost-all P (ended m ++ image_refused image.Next (sight 0 m.core))
    (append-all P (ended m) (image_refused image.Next (sight 0 m.core)) (ended-all P refl (λ file count. refl) m) (unless-all P _ refused.NotFound refl)) e h
held-drops m e (inr h) = ap drops_image h

abbrev Went : (P : Change → Type 0) → (may : Bool) → (first : List Entry) → (old next : Machine) → Type 0
Went P may first old next = (more : List Entry) × Backed P may first more old next

module _ (P : Change → Type 0) (may : Bool) (first later : List Entry) (old m next : Machine) (w : Backed P may first later old m) (since : Onward m next) where
  -- the machine became this, which no fault halted that hadn't before
  as-back : (may_now : Bool) (more : List Entry) (d : Core) → Under (first ++ more) old.core d → AreOf P more → d.fault ≡ m.core.fault → d.tickets ≡ [] → IsBackups d.image → (may_now ≡ false → d.image ≡ None) → next.core ≡ d
      → next.contents ≡ m.contents → Backed P may_now first more old next
  as-back may_now more d u are same free image idle is bytes = record {
    grew = grew-as P first later more d old m next w.grew u are same since is bytes;
    free = ap (λ (k : Core). k.tickets) is ∙ free;
    image = subst (λ (k : Core). IsBackups k.image) (sym is) image;
    idle = λ h. ap (λ (k : Core). k.image) is ∙ idle h;
  }

  -- a fault halted it
  halts-back : (may_now : Bool) (more : List Entry) (d : Core) (file count : ℕ) → Under (first ++ more) old.core d → AreOf P more → d.tickets ≡ [] → IsBackups d.image → (may_now ≡ false → d.image ≡ None) → IsLogFault m next file count
      → next.core ≡ halting file count d → next.contents ≡ m.contents → Backed P may_now first more old next
  halts-back may_now more d file count u are free image idle fault is bytes = record {
    grew = grew-halts P first later more d file count old m next w.grew u are fault since is bytes;
    free = ap (λ (k : Core). k.tickets) is ∙ free;
    image = subst (λ (k : Core). IsBackups k.image) (sym is) image;
    idle = λ h. ap (λ (k : Core). k.image) is ∙ idle h;
  }

  stays-as : (may_now : Bool) → (may_now ≡ false → m.core.image ≡ None) → Stays m next → Backed P may_now first later old next
  stays-as may_now idle h = as-back may_now later m.core w.grew.core w.grew.are refl w.free w.image idle h.core h.contents

  stays-back : Stays m next → Backed P may first later old next
  stays-back h = stays-as may w.idle h

  ask-back : (query : Query) (answer : Result Answer Refusal) → Asks 0 query m next answer → Backed P may first later old next
  ask-back query (Ok told) h = stays-back h.1.1
  ask-back query (Err e) (inl h) = stays-back h.1
  ask-back query (Err e) (inr h) = absurd h.1

  force-back : (answer : Result ℕ Refusal) → Forces 0 m next answer → Backed P may first later old next
  force-back (Ok number) h =
      as-back may later (stamped next.moment m.core) (stamped-under (first ++ later) next.moment old.core m.core w.grew.core) w.grew.are refl w.free w.image w.idle h.1.1.core h.1.1.contents
  force-back (Err e) (inl h) = stays-back h.1
  force-back (Err e) (inr (none, (file, count, is, fault, becomes))) = halts-back may later m.core file count w.grew.core w.grew.are w.free w.image w.idle fault becomes.core becomes.contents

  -- one more joined
  one-more : (c : Change) → Under (first ++ (later ++ entry c ∷ [])) old.core (made 0 c m.core)
  one-more c = joined-under first later c old.core m.core w.grew.core

  join-back : (asked : Asked) (answer : Result ℕ Refusal) → ((c : Change) (core : Core) → asked_change 0 asked [] core ≡ Some c → P c) → Commits 0 asked [] m next answer → Went P may first old next
  join-back asked (Ok number) p (none, (c, is, numbered, joins)) = (
    later ++ entry c ∷ [],
    as-back may (later ++ entry c ∷ []) (made 0 c m.core) (one-more c) (are-more P later c w.grew.are (p c m.core is)) refl w.free w.image w.idle (joins.0 ∙ spent-same c m.core w.free) joins.1,
  )
  join-back asked (Err e) p (inl h) = (later, stays-back h.1)
  join-back asked (Err e) p (inr (none, (c, file, count, is, why, fault, joins))) = (
    later ++ entry c ∷ [],
    halts-back may (later ++ entry c ∷ []) (made 0 c m.core) file count (one-more c) (are-more P later c w.grew.are (p c m.core is)) w.free w.image w.idle fault
        (joins.0 ∙ ap (λ (k : Core). halting file count k) (spent-same c m.core w.free)) joins.1,
  )

  -- a backup begins
  begin-back : (after : Option ℕ) (held : List Refusal) (answer : Result ImageReply Refusal) (may_now : Bool) → ((file seq : ℕ) → answer ≡ Ok (reply.Begun file seq) → may_now ≡ true) → ((e : Refusal) → answer ≡ Err e → may_now ≡ may)
      → ((file : ℕ) → P (change.DbBegin file after)) → BeginsBackup 0 after held m next answer → Went P may_now first old next
  begin-back after held (Ok (reply.Begun file seq)) may_now some none_else p (none, (unwritten, is, becomes)) =
      let c : Change = begun_change after m.core in
      let i : Picture = record { actor = 0; picture = backup; file = m.core.next_file; seq = (inventory m.core).number + 1; unwritten = unwritten; copied = 0 } in (
        later ++ entry c ∷ [],
        as-back may_now (later ++ entry c ∷ []) _
            (under-image (first ++ (later ++ entry c ∷ [])) (Some i) old.core (stamped next.moment (made 0 c m.core)) (stamped-under (first ++ (later ++ entry c ∷ [])) next.moment old.core (made 0 c m.core) (one-more c)))
            (are-more P later c w.grew.are (p m.core.next_file)) refl w.free (λ j same. ap (λ (x : Picture). x.picture) (sym (same_Some i j same))) (λ odd. absurd (false≢true (sym odd ∙ some file seq refl))) becomes.core becomes.contents,
      )
  begin-back after held (Ok reply.More) may_now some none_else p (none, (unwritten, is, becomes)) = absurd cc
  begin-back after held (Ok (reply.Done seq)) may_now some none_else p (none, (unwritten, is, becomes)) = absurd cc
  begin-back after held (Err e) may_now some none_else p (inl h) = (later, stays-as may_now (λ x. w.idle (sym (none_else e refl) ∙ x)) h.1)
  begin-back after held (Err e) may_now some none_else p (inr (none, inl (file, count, is, fault, becomes))) =
      let c : Change = begun_change after m.core in (
        later ++ entry c ∷ [],
        halts-back may_now (later ++ entry c ∷ []) (made 0 c m.core) file count (one-more c) (are-more P later c w.grew.are (p m.core.next_file)) w.free w.image (λ x. w.idle (sym (none_else e refl) ∙ x)) fault becomes.core becomes.contents,
      )
  begin-back after held (Err e) may_now some none_else p (inr (none, inr (moment, is, rose, becomes))) =
      let c : Change = begun_change after m.core in (
        later ++ entry c ∷ [],
        as-back may_now (later ++ entry c ∷ []) (stamped moment (made 0 c m.core)) (stamped-under (first ++ (later ++ entry c ∷ [])) moment old.core (made 0 c m.core) (one-more c))
            (are-more P later c w.grew.are (p m.core.next_file)) refl w.free w.image (λ x. w.idle (sym (none_else e refl) ∙ x)) becomes.core becomes.contents,
      )

  -- the image in progress is the script's own, of a backup
  is-own : (i : Picture) → (sight 0 m.core).image ≡ Some i → m.core.image ≡ Some i
  is-own i own = own-is m.core.image i own

  is-backup : (i : Picture) → (sight 0 m.core).image ≡ Some i → i.picture ≡ backup
  is-backup i own = w.image i (is-own i own)

  -- it is written further
  more-back : (i j : Picture) → (sight 0 m.core).image ≡ Some i → j.picture ≡ i.picture → next.core ≡ with_image (Some j) m.core → next.contents ≡ m.contents → Backed P may first later old next
  more-back i j own same is bytes =
      as-back may later (with_image (Some j) m.core) (under-image (first ++ later) (Some j) old.core m.core w.grew.core) w.grew.are refl w.free
      (λ k one. ap (λ (x : Picture). x.picture) (sym (same_Some j k one)) ∙ same ∙ is-backup i own) (λ h. (let odd : None ≡ Some i = sym (w.idle h) ∙ is-own i own in absurd cc)) is bytes

  -- it is dropped
  drop-back : (may_now : Bool) → next.core ≡ with_image None m.core → next.contents ≡ m.contents → Backed P may_now first later old next
  drop-back may_now is bytes = as-back may_now later (with_image None m.core) (under-image (first ++ later) None old.core m.core w.grew.core) w.grew.are refl w.free (λ k one. absurd cc) (λ h. refl) is bytes

  end-back : (i : Picture) → P (change.DbEnd i.file) → next.core ≡ with_image None (ending 0 i m.core) → next.contents ≡ m.contents → Went P false first old next
  end-back i p is bytes =
      let c : Change = change.DbEnd i.file in (
        later ++ entry c ∷ [],
        as-back false (later ++ entry c ∷ []) (with_image None (made 0 c m.core)) (under-image (first ++ (later ++ entry c ∷ [])) None old.core (made 0 c m.core) (one-more c)) (are-more P later c w.grew.are p) refl w.free
            (λ k one. absurd cc) (λ h. refl) is bytes,
      )

  next-back : (answer : Result ImageReply Refusal) → ((file : ℕ) → P (change.DbEnd file)) → ContinuesBy 0 m next answer → Went P (left may (Image image.Next answer)) first old next
  next-back (Ok reply.More) p (none, (i, j, own, inl (less, is), becomes)) = (later, more-back i j own (ap (λ (x : Picture). x.picture) is) becomes.core becomes.contents)
  next-back (Ok reply.More) p (none, (i, j, own, inr (none_left, of, less, most, is), becomes)) = (later, more-back i j own (ap (λ (x : Picture). x.picture) is) becomes.core becomes.contents)
  next-back (Ok (reply.Done seq)) p (none, (i, own, is, all, inl (of, copied, becomes))) = (let odd : backup ≡ checkpoint = sym (is-backup i own) ∙ of in absurd cc)
  next-back (Ok (reply.Done seq)) p (none, (i, own, is, all, inr (of, legal, becomes))) = end-back i (p i.file) becomes.core becomes.contents
  next-back (Ok (reply.Begun file seq)) p (none, h) = absurd h
  next-back (Err e) p (inl h) = (later, stays-as (left may (Image image.Next (Err e))) (λ x. w.idle (sym (ap (λ (b : Bool). if b then false else may) (held-drops m e h.0)) ∙ x)) h.1)
  next-back (Err e) p (inr (none, (i, own, inl (of, is, rose, becomes)))) = (later, drop-back (left may (Image image.Next (Err e))) becomes.core becomes.contents)
  next-back (Err e) p (inr (none, (i, own, inr (inl (of, all, is, full, becomes))))) = (later, drop-back (left may (Image image.Next (Err e))) becomes.core becomes.contents)
  next-back (Err e) p (inr (none, (i, own, inr (inr (file, count, moment, core, is, fault, kinds, becomes))))) =
      let idle : left may (Image image.Next (Err e)) ≡ false → m.core.image ≡ None = λ x. w.idle (sym (ap (λ (b : Bool). if b then false else may) (ap drops_image is)) ∙ x) in
      fault-back kinds idle
    where
      fault-back : (core ≡ m.core) ⊎ ((core ≡ stamped moment m.core) ⊎ ((i.picture ≡ backup) × (core ≡ ending 0 i m.core))) → (left may (Image image.Next (Err e)) ≡ false → m.core.image ≡ None)
          → Went P (left may (Image image.Next (Err e))) first old next
      fault-back (inl same) idle = (
        later,
        halts-back (left may (Image image.Next (Err e))) later m.core file count w.grew.core w.grew.are w.free w.image idle fault (becomes.core ∙ ap (λ (k : Core). halting file count k) same) becomes.contents,
      )
      fault-back (inr (inl same)) idle = (
        later,
        halts-back (left may (Image image.Next (Err e))) later (stamped moment m.core) file count (stamped-under (first ++ later) moment old.core m.core w.grew.core) w.grew.are w.free w.image idle fault
            (becomes.core ∙ ap (λ (k : Core). halting file count k) same) becomes.contents,
      )
      fault-back (inr (inr (of, same))) idle = (
        later ++ entry (change.DbEnd i.file) ∷ [],
        halts-back (left may (Image image.Next (Err e))) (later ++ entry (change.DbEnd i.file) ∷ []) (made 0 (change.DbEnd i.file) m.core) file count (one-more (change.DbEnd i.file))
            (are-more P later (change.DbEnd i.file) w.grew.are (p i.file)) w.free w.image idle fault (becomes.core ∙ ap (λ (k : Core). halting file count k) same) becomes.contents,
      )

  deed-back : (places : Places) (d : Deed) → MayBack P d → Case places 0 d m next → Went P (left may d) first old next
  deed-back places (Ask query answer) so h = (later, ask-back query answer h)
  deed-back places (Force answer) so h = (later, force-back answer h)
  deed-back places (Commit asked tickets answer) so h = join-back asked answer so.1 (subst (λ (ts : List ℕ). Commits 0 asked ts m next answer) so.0 h)
  deed-back places (Image image.Backup (Ok reply.More)) so h = begin-back None _ (Ok reply.More) may (λ file seq odd. absurd cc) (λ e odd. absurd cc) so h
  deed-back places (Image image.Backup (Ok (reply.Done seq))) so h = begin-back None _ (Ok (reply.Done seq)) false (λ file s odd. absurd cc) (λ e odd. absurd cc) so h
  deed-back places (Image image.Backup (Ok (reply.Begun file seq))) so h = begin-back None _ (Ok (reply.Begun file seq)) true (λ f s is. refl) (λ e odd. absurd cc) so h
  deed-back places (Image image.Backup (Err e)) so h = begin-back None _ (Err e) may (λ file seq odd. absurd cc) (λ f is. refl) so h
  deed-back places (Image (image.Since after) (Ok reply.More)) so h = begin-back (Some after) _ (Ok reply.More) may (λ file seq odd. absurd cc) (λ e odd. absurd cc) so h
  deed-back places (Image (image.Since after) (Ok (reply.Done seq))) so h = begin-back (Some after) _ (Ok (reply.Done seq)) false (λ file s odd. absurd cc) (λ e odd. absurd cc) so h
  deed-back places (Image (image.Since after) (Ok (reply.Begun file seq))) so h = begin-back (Some after) _ (Ok (reply.Begun file seq)) true (λ f s is. refl) (λ e odd. absurd cc) so h
  deed-back places (Image (image.Since after) (Err e)) so h = begin-back (Some after) _ (Err e) may (λ file seq odd. absurd cc) (λ f is. refl) so h
  deed-back places (Image image.Next answer) so h = next-back answer so h
  deed-back places d so h = absurd so

-- no step of these reads bytes
seen-same : (trusted : Type 0) (P : Change → Type 0) (d : Deed) → MayBack P d → (contents seen : ℕ → List ℕ) → AreBytes trusted d contents seen → seen ≡ contents
seen-same trusted P (Ask query answer) so contents seen h = h
seen-same trusted P (Force answer) so contents seen h = h
seen-same trusted P (Commit asked tickets answer) so contents seen h = h
seen-same trusted P (Image kind answer) so contents seen h = h
seen-same trusted P d so contents seen h = absurd so

left-same : (P : Change → Type 0) (d : Deed) → MayBack P d → (contents : ℕ → List ℕ) (m : Machine) → behind d contents m ≡ m
left-same P (Ask query answer) so contents m = refl
left-same P (Force answer) so contents m = refl
left-same P (Commit asked tickets answer) so contents m = refl
left-same P (Image kind answer) so contents m = refl
left-same P d so contents m = absurd so

module _ (trusted : Type 0) (places : Places) (P : Change → Type 0) (first : List Entry) where
  pub back-walk : (events : List Event) (may : Bool) (later : List Entry) (old m new : Machine) → AllBack P events → Backed P may first later old m → Alone trusted places 0 events m new
      → (more : List Entry) × Backed P (left_by may events) first more old new
  back-walk [] may later old m new all w same = (later, subst (λ (x : Machine). Backed P may first later old x) (sym same) w)
  back-walk (e ∷ events) may later old m new all w (next, moved, rest) =
      let s = stepped trusted places e.n e.deed (e ∷ []) m next (seen-same trusted P e.deed all.0) (left-same P e.deed all.0) refl (next, moved, refl) in
      let r = deed-back P may first later old m next w (onward-later m next s.0) places e.deed all.0 s.1 in
      back-walk events (left may e.deed) r.0 old next new all.1 r.1 rest

-- ---- no image is left

left-append : (may : Bool) (xs ys : List Event) → left_by may (xs ++ ys) ≡ left_by (left_by may xs) ys
left-append may [] ys = refl
left-append may (x ∷ xs) ys = left-append (left may x.deed) xs ys

-- the step leaves the image
abbrev Quiet : Event → Type 0
Quiet e = (may : Bool) → left may e.deed ≡ may

quiet-left : (may : Bool) (events : List Event) → AllByRecursion Quiet events → left_by may events ≡ may
quiet-left may [] q = refl
quiet-left may (x ∷ xs) q = quiet-left (left may x.deed) xs q.1 ∙ q.0 may

-- behind steps that leave it so, and others
left-then : (may after : Bool) (events xs ys : List Event) → events ≡ xs ++ ys → left_by may xs ≡ after → AllByRecursion Quiet ys → left_by may events ≡ after
left-then may after events xs ys cut is q = ap (λ (l : List Event). left_by may l) cut ∙ left-append may xs ys ∙ quiet-left (left_by may xs) ys q ∙ is

kind-quiet : (after : Option ℕ) (n : ℕ) (why : Refusal) → Quiet (event n (Image (kind_of after) (Err why)))
kind-quiet None n why may = refl
kind-quiet (Some file) n why may = refl

refused-quiet : (after : Option ℕ) (e : Refusal) (events : List Event) → (e ≡ refused.Memory → ⊥) → Begins (kind_of after) (Err e) events → AllByRecursion Quiet events
refused-quiet after e events mild (inl (why, same, f)) = made-all Quiet (Image (kind_of after) (Err why)) events f (λ n. kind-quiet after n why)
refused-quiet after e events mild (inr (told, same, f)) = absurd (mild same)

held-quiet : (after : Option ℕ) (events : List Event) (answer : Result (Unit {0}) Refusal) → Held (Begins (kind_of after)) events answer → AllByRecursion Quiet events
held-quiet after events answer (h, (xs, ys, cut, tried, awaited)) =
    then-all Quiet events xs ys cut (refused-quiet after (refused.Busy h) xs (λ same. absurd cc) tried) (awaits-all Quiet (λ n a may. refl) h ys answer awaited)

waited-quiet : (after : Option ℕ) (number : ℕ) (events : List Event) → Waited (Begins (kind_of after)) number events → AllByRecursion Quiet events
waited-quiet after zero events h = subst (AllByRecursion Quiet) (sym h) tt
waited-quiet after (suc number) events (xs, ys, cut, waited, held) = then-all Quiet events xs ys cut (waited-quiet after number xs waited) (held-quiet after ys (Ok tt) held)

opens-quiet : (after : Option ℕ) (e : Refusal) (events : List Event) → (e ≡ refused.Memory → ⊥) → Opens (kind_of after) events (Err e) → AllByRecursion Quiet events
opens-quiet after e events mild (number, (xs, ys, cut, waited, inl h)) = then-all Quiet events xs ys cut (waited-quiet after number xs waited) (refused-quiet after e ys mild h.1)
opens-quiet after e events mild (number, (xs, ys, cut, waited, inr (inl (f, held, is)))) = then-all Quiet events xs ys cut (waited-quiet after number xs waited) (held-quiet after ys (Err f) held)
opens-quiet after e events mild (number, (xs, ys, cut, waited, inr (inr h))) = absurd (mild (let same : Err e ≡ Err refused.Memory = h.2 in cc))

changing-quiet : (file n : ℕ) (d : Deed) → IsChanging (change.DbDelete file) d → Quiet (event n d)
changing-quiet file n (Commit asked tickets answer) h may = refl
changing-quiet file n (Force answer) h may = refl
changing-quiet file n d h may = absurd h

changes-quiet : (file : ℕ) (events : List Event) → AllByRecursion (λ e. IsChanging (change.DbDelete file) e.deed) events → AllByRecursion Quiet events
changes-quiet file [] h = tt
changes-quiet file (x ∷ xs) h = (changing-quiet file x.n x.deed h.0, changes-quiet file xs h.1)

off-quiet : (file : ℕ) (events : List Event) (result : Result (Unit {0}) Refusal) → TakesOff file events result → AllByRecursion Quiet events
off-quiet file events result (inl (number, c, is)) = changes-quiet file events c.only
off-quiet file events result (inr (why, c, is)) = changes-quiet file events c.only

gives-quiet : (file : Option ℕ) (e answer : Refusal) (events : List Event) → GivesUp file e events answer → AllByRecursion Quiet events
gives-quiet None e answer events h = subst (AllByRecursion Quiet) (sym h.0) tt
gives-quiet (Some file) e answer events (inl h) = off-quiet file events (Ok tt) h.0
gives-quiet (Some file) e answer events (inr h) = off-quiet file events (Err answer) h

-- a refusal with which an image may be left
abbrev leaves : Refusal → Bool
leaves e = has_number (40 ∷ 41 ∷ 50 ∷ []) e

starts-none : (after : Option ℕ) (events : List Event) (e : Refusal) → Starts (kind_of after) events (Err e) → leaves e ≡ false → left_by false events ≡ false
starts-none after events e (why, (xs, ys, cut, opens, gives)) ends =
    let mild : why ≡ refused.Memory → ⊥ = λ same. (
    let h : GivesUp None refused.Memory ys e = subst (λ (x : Refusal). GivesUp (failed_file x) x ys e) same gives in
    false≢true (sym ends ∙ ap leaves h.1)) in
    quiet-left false events (then-all Quiet events xs ys cut (opens-quiet after why xs mild opens) (gives-quiet (failed_file why) why e ys gives))

-- behind this one step, whatever came before
last-left : (may : Bool) (events xs ys : List Event) (n : ℕ) (d : Deed) → events ≡ xs ++ ys → ys ≡ event n d ∷ [] → ((before : Bool) → left before d ≡ false) → left_by may events ≡ false
last-left may events xs ys n d cut one so =
    ap (λ (l : List Event). left_by may l) cut ∙ left-append may xs ys ∙ ap (λ (l : List Event). left_by (left_by may xs) l) one ∙ so (left_by may xs)

done-left : (may : Bool) (seq : ℕ) (events : List Event) → Continues events (Ok seq) → left_by may events ≡ false
done-left may seq events (xs, ys, cut, more, inl it) = last-left may events xs ys it.0 (Image image.Next (Ok (reply.Done seq))) cut it.1 (λ before. refl)
done-left may seq events (xs, ys, cut, more, inr m) = absurd cc

-- a refusal that ends the pieces, and that leaves no image, has dropped it
drops-by : (k : ℕ) → (25 == k || (31 == k || (40 == k || (41 == k || (50 == k || false))))) ≡ true → (40 == k || (41 == k || (50 == k || false))) ≡ false → (k == 25 || k == 31) ≡ true
drops-by k some none = elim (25 == k) as (λ x. (25 == k) ≡ x → (x || (31 == k || (40 == k || (41 == k || (50 == k || false))))) ≡ true → (k == 25 || k == 31) ≡ true) [
  | true ↦ λ x _. subst (λ (n : ℕ). (n == 25 || n == 31) ≡ true) (eqb-true 25 k x) refl
  | false ↦ λ _ others. elim (31 == k) as (λ y. (31 == k) ≡ y → (y || (40 == k || (41 == k || (50 == k || false)))) ≡ true → (k == 25 || k == 31) ≡ true) [
    | true ↦ λ y _. subst (λ (n : ℕ). (n == 25 || n == 31) ≡ true) (eqb-true 31 k y) refl
    | false ↦ λ _ rest. absurd (false≢true (sym none ∙ rest))
  ] refl others
] refl some

dropped-as : (w0 : Refusal) (t : Bool) → has_number (25 ∷ 31 ∷ 40 ∷ 41 ∷ 50 ∷ []) w0 ≡ t → leaves (if t then w0 else refused.Memory) ≡ false → drops_image w0 ≡ true
dropped-as w0 true is mild = drops-by (number_of w0) is mild
dropped-as w0 false is mild = absurd cc

dropped : (w0 why : Refusal) → why ≡ unwritten w0 → leaves why ≡ false → drops_image w0 ≡ true
dropped w0 why same mild = dropped-as w0 (has_number (25 ∷ 31 ∷ 40 ∷ 41 ∷ 50 ∷ []) w0) refl (ap leaves (sym same) ∙ mild)

memory-leaves : (e : Refusal) → e ≡ refused.Memory → leaves e ≡ false → ⊥
memory-leaves e same mild = false≢true (sym mild ∙ ap leaves same)

broken-left : (may : Bool) (why : Refusal) (events : List Event) → Continues events (Err why) → leaves why ≡ false → left_by may events ≡ false
broken-left may why events (zs, (xs, ys, cut, more, inl (w0, same, inl it))) mild =
    last-left may events xs ys it.0 (Image image.Next (Err w0)) cut it.1 (λ before. ap (λ (b : Bool). if b then false else before) (dropped w0 why same mild))
broken-left may why events (zs, (xs, ys, cut, more, inl (w0, same, inr m))) mild =
    absurd (memory-leaves why (same ∙ ap unwritten (some-memory w0 (Image image.Next (Err w0)) refl m.0)) mild)
broken-left may why events (zs, (xs, ys, cut, more, inr (inl (file, seq, same, m)))) mild = absurd (memory-leaves why same mild)
broken-left may why events (zs, (xs, ys, cut, more, inr (inr h))) mild = absurd (memory-leaves why h.1 mild)

-- what may leave an image isn't a fault of the backup's file, and is answered as it is
given-up-mild : (file : ℕ) (why e : Refusal) (events : List Event) → GivesUp (begun_file file why) why events e → leaves e ≡ false → leaves why ≡ false
given-up-mild file why e events gives ends = elim (leaves why) as (λ t. leaves why ≡ t → t ≡ false) [
  | true ↦ λ stays. absurd (
      let other : (number_of why == 25) ≡ false = (elim (number_of why == 25) as (λ t. (number_of why == 25) ≡ t → t ≡ false) [
        | true ↦ λ same. absurd (not-both (40 ∷ 41 ∷ 50 ∷ []) (25 ∷ []) why refl stays (subst (λ (k : ℕ). (25 == k || false) ≡ true) (sym (eqb-true (number_of why) 25 same)) refl))
        | false ↦ λ _. refl
      ] refl) in
      let h : GivesUp None why events e = subst (λ (o : Option ℕ). GivesUp o why events e) (ap (λ (t : Bool). if t then Some file else None) other) gives in
      false≢true (sym ends ∙ ap leaves h.1 ∙ stays))
  | false ↦ λ _. refl
] refl

completes-none : (may : Bool) (t : Taken) (events : List Event) (result : Result Taken Refusal) → Completes t events result → may_leave result ≡ false → left_by may events ≡ false
completes-none may t events (Ok done) (is, seq, last, (xs, ys, cut, continues, forced)) ends =
    left-then may false events xs ys cut (done-left may seq xs continues) (made-all Quiet (Force (Ok last)) ys forced (λ n b. refl))
completes-none may t events (Err e) (inl (why, (xs, ys, cut, broken, gives))) ends =
    left-then may false events xs ys cut (broken-left may why xs broken (given-up-mild t.file why e ys gives ends)) (gives-quiet (begun_file t.file why) why e ys gives)
completes-none may t events (Err e) (inr (seq, why, is, (xs, ys, cut, continues, forced))) ends =
    left-then may false events xs ys cut (done-left may seq xs continues) (made-all Quiet (Force (Err why)) ys forced (λ n b. refl))

pub backs-none : (after : Option ℕ) (events : List Event) (result : Result Taken Refusal) → Backs (kind_of after) events result → may_leave result ≡ false → left_by false events ≡ false
backs-none after events result (inl (e, starts, is)) ends = starts-none after events e starts (subst (λ (r : Result Taken Refusal). may_leave r ≡ false) is ends)
backs-none after events result (inr (t, (xs, ys, cut, opens, completes))) ends =
    ap (λ (l : List Event). left_by false l) cut ∙ left-append false xs ys ∙ completes-none (left_by false xs) t ys result completes ends

-- ---- a backup that follows another

asking-quiet : (e : Event) → IsAsking e.deed → Quiet e
asking-quiet e (q, answer, is) may = ap (λ (d : Deed). left may d) is

asks-quiet : (events : List Event) → AreAsking events → AllByRecursion Quiet events
asks-quiet [] h = tt
asks-quiet (x ∷ xs) h = (asking-quiet x h.0, asks-quiet xs h.1)

follows-none : (after : Option ℕ) (events : List Event) (result : Result Taken Refusal) → Follows after events result → may_leave result ≡ false → left_by false events ≡ false
follows-none None events result h ends = ap (λ (l : List Event). left_by false l) h.0
follows-none (Some file) events result h ends = backs-none (Some file) events result h.order ends

pub newest-none : (events : List Event) (result : Result Taken Refusal) → FollowsNewest events result → may_leave result ≡ false → left_by false events ≡ false
newest-none events result (inl (e, unasked, is)) ends = quiet-left false events (asks-quiet events unasked.1)
newest-none events result (inr (lines, (xs, ys, cut, (n, answer, one, told), follows))) ends =
    ap (λ (l : List Event). left_by false l) (cut ∙ ap (λ (l : List Event). l ++ ys) one) ∙ follows-none (newest_file lines) ys result follows ends
