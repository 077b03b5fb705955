-- Why processes without tickets and images are refused where one actor has the machine alone, if no run ends.
use Rattle.std.proofs.Common.{◌≡◌, ◌⊎◌, inl, inr, ℕ, ◌+◌, ◌^◌, ◌≤◌, ◌==◌, nat_le, Bool, true, false, if◌then◌else◌, List, [], ◌∷◌, ◌++◌, map, Option, None, Some, Result, Ok, Err, refl, sym, ap, subst, ◌∙◌, arith}
use Rattle.std.proofs.lemmas.Option.{same_Some}
use Rattle.std.specs.List.{AllByRecursion}
use Rattle.kinds.specs.Names.{is_same_name}
use Rattle.kinds.specs.Refusals.{bad_value, foremost, number_of, refusal_of, unless}
use Rattle.kinds.specs.declared.change.DefineOrDelete.TheVariants as two
use Rattle.kinds.specs.declared.change.ObjectChange.TheVariants as client
use Rattle.kinds.specs.declared.change.PoolChange.TheVariants as store
use Rattle.kinds.specs.declared.change.Verb.TheVariants as verb
use Rattle.kinds.specs.declared.refusal.Holder.{Holder}
use Rattle.kinds.specs.declared.refusal.Refusal.{Refusal}
use Rattle.kinds.specs.declared.refusal.Refusal.TheVariants as refused
use Rattle.kinds.specs.declared.segment.Digest.{Digest}
use Rattle.entries.specs.change_items.declared.reasons.DiscardReason.{DiscardReason}
use Rattle.entries.specs.change_items.declared.lists.DiscardedVersions.{DiscardedVersions}
use Rattle.entries.specs.change_items.declared.lists.DroppedCopies.{DroppedCopies}
use Rattle.entries.specs.change_items.declared.lists.NamedVersions.{NamedVersions}
use Rattle.entries.specs.declared.change.Change.{Change}
use Rattle.entries.specs.declared.change.Change.TheVariants as change
use Rattle.inventory_rows.specs.Items.{count_items}
use Rattle.inventory_rows.specs.Search.{version}
use Rattle.inventory_rows.specs.version_groups.Entries.{on_ok}
use Rattle.inventory_rows.specs.version_groups.declared.versions.Version.{Version}
use Rattle.inventory_rules.specs.Journal.{Journal}
use Rattle.inventory_rules.specs.Ordered.{IsOrdered}
use Rattle.inventory_rules.specs.Transactions.{effect}
use Rattle.inventory_rules.specs.Valid.{is_valid}
use Rattle.inventory_rules.specs.Versions.{gone_or_unknown, of_version}
use Rattle.inventory_work.specs.Copies.{has_volume}
use Rattle.inventory_laws.proofs.BackupCounts.{delete_takes}
use Rattle.inventory_laws.proofs.ClientCounts.{clients_take}
use Rattle.inventory_laws.proofs.CopyCounts.{drops_take}
use Rattle.inventory_laws.proofs.Facts.{facts_of}
use Rattle.inventory_laws.proofs.StoreCounts.{stores_take}
use Rattle.inventory_laws.proofs.Removals.{discard_all_takes, expire_takes}
use Rattle.inventory_answers.specs.declared.query.Query.{Query}
use Rattle.inventory_answers.specs.declared.query.Query.TheVariants as query
use Rattle.inventory_answers.specs.declared.reply.Answer.{Answer}
use Rattle.inventory_answers.specs.declared.reply.Rows.{Rows}
use Rattle.inventory_answers.specs.declared.reply.Rows.TheVariants as rows
use Rattle.steps.specs.declared.asked.Asked.{Asked}
use Rattle.steps.specs.declared.asked.Asked.TheVariants.{Plain}
use Rattle.steps.specs.Events.{Deed, Event, has_number, refusal}
use Rattle.steps.specs.Events.Deed.{Ask, Commit, Force, ReadPiece, Reuse}
use Rattle.command_steps.specs.copy_attempts.Attempts.{is_stopping}
use Rattle.command_steps.specs.copy_attempts.Outcomes.{MetBy}
use Rattle.command_steps.specs.copy_runs.Ends.{IsAsking, IsEnding, IsStopped, Unanswered}
use Rattle.command_steps.specs.db_backup.Deleting.{HistoryDeletion, IsDeleting}
use Rattle.command_steps.specs.db_backup.Listing.{due_files}
use Rattle.command_steps.specs.deletions.Discarding.{IsDiscarding, discarding as removing}
use Rattle.command_steps.specs.deletions.Dropping.{dropping as dropping_for, for_volume}
use Rattle.command_steps.specs.deletions.Filespaces as filespaces
use Rattle.command_steps.specs.deletions.Filespaces.{FilespaceDeletion, is_kept_by}
use Rattle.command_steps.specs.deletions.Volumes as volumes
use Rattle.command_steps.specs.deletions.Volumes.{VolumeDeletion}
use Rattle.command_steps.specs.expiration.Expiring.{Expiration, IsExpiring, named}
use Rattle.command_steps.specs.expiration.Expiring as expiring
use Rattle.command_steps.specs.reuse_delay.Reusing.{IsReusing, VolumeReuse}
use Rattle.command_steps.specs.volume_audits.Auditing.{IsAuditing, VolumeAudit}
use Rattle.command_steps.specs.volume_audits.Mending.{discarding, dropping}
use Rattle.machine.specs.Alone.{Alone, with_contents}
use Rattle.machine.specs.Causes.{has_copy_in, most_bytes, read_refused}
use Rattle.machine.specs.Machine.{Asks, Case, Forces, Places, Reads, Reuses, ended, halting, made, stamped}
use Rattle.machine.specs.State.{Core, Machine, inventory, sight}
use Rattle.machine.proofs.Elsewhere.{append-all, ended-all, foremost-all, unless-all}
use Rattle.command_steps.specs.Answers.{halt_by}
use Rattle.command_steps.specs.Behind.{reuses, with_reused}
use Rattle.command_steps.specs.Doing.{Forcing, Reusing}
use Rattle.command_steps.specs.Owns.{Own}
use Rattle.command_steps.specs.declared.outcome.Outcome.{Outcome}
use Rattle.line_results.specs.Bounds.{HasReason, IsBounded, IsReasoned, IsReused, IsUnaudited}
use Rattle.line_results.specs.Moving.{HasCopyReason, IsCopyReasoned}
use Rattle.line_results.specs.Removing.{IsAbsent, has_filespace}
use Rattle.line_results.specs.Resting.{database}
use Rattle.line_results.proofs.Clearing.{IsSound}
use Rattle.line_results.proofs.Bounds.{filespace-takes, volume-takes, Common, IsFew, IsNoHolder, Takes, ask-all, ask-other, ask-unheld, commit-full, commit-unheld, delete-takes, discard-takes, drop-takes, expire-takes, force-other, force-unheld, legal-valid, reuse-full, reuse-unheld}
use Rattle.line_results.proofs.Emptying.{IsUnremoved, absent, ten-is}
use Rattle.line_results.proofs.ForceEnds.{forced-done, forced-same}
use Rattle.line_results.proofs.Growing.{Goes, Grows, Makes, grown-number, step-goes}
use Rattle.line_results.proofs.Handling.{IsFree, commit-free, same-free}
use Rattle.line_results.proofs.Meeting.{MetAt, alone-grows, met-at, passes}
use Rattle.line_results.proofs.Removable.{absent-volume}
use Rattle.line_results.proofs.Stopping.{Ends, ends-halt}
use Rattle.line_results.proofs.VolumesThere.{discarded-stays, dropped-stays}
use Rattle.line_results.proofs.Walking.{force-free, force-image}

-- ---- refusals

no-memory : (e : Refusal) → e ≡ refused.Memory → halt_by e ≡ None → ⊥
no-memory e memory mild = ends-halt e (subst Ends (sym memory) refl) mild

-- of those that end a process one ends no run
full-mild : (e : Refusal) → has_number (31 ∷ 40 ∷ 41 ∷ 50 ∷ []) e ≡ true → halt_by e ≡ None → e ≡ refused.InventoryFull
full-mild refused.InventoryFull h none = refl
full-mild (refused.LogFault file count) h none = absurd cc
full-mild refused.RunFull h none = absurd cc
full-mild refused.Memory h none = absurd cc
full-mild e h none = absurd cc

pub stopping-mild : (e : Refusal) → is_stopping e ≡ true → halt_by e ≡ None → (e ≡ refused.InventoryFull) ⊎ ((h : Holder) × (e ≡ refused.Busy h))
stopping-mild refused.InventoryFull h none = inl refl
stopping-mild (refused.Busy holder) h none = inr (holder, refl)
stopping-mild (refused.LogFault file count) h none = absurd cc
stopping-mild refused.RunFull h none = absurd cc
stopping-mild refused.Memory h none = absurd cc
stopping-mild e h none = absurd cc

abbrev Refuses : Refusal → Deed → Type 0
Refuses e d = refusal d ≡ Some e

-- ---- steps

-- neither is the database full for it, nor has anything to be waited for
abbrev IsPlain : Refusal → Type 0
IsPlain e = (e ≡ refused.InventoryFull → ⊥) × IsNoHolder e

as-plain : (x e : Refusal) → ◌≡◌ {A = Option Refusal} (Some x) (Some e) → IsPlain x → IsPlain e
as-plain x e is h = subst IsPlain (same_Some x e is) h

ask-plain : (q : Query) (answer : Result Answer Refusal) (m next : Machine) (e : Refusal) → Refuses e (Ask q answer) → Asks 0 q m next answer → IsPlain e
ask-plain q (Ok a) m next e is h = absurd cc
ask-plain q (Err x) m next e is h = as-plain x e is (ask-other q m next x h, ask-unheld q m next x h)

force-plain : (answer : Result ℕ Refusal) (m next : Machine) (e : Refusal) → Refuses e (Force answer) → Forces 0 m next answer → IsPlain e
force-plain (Ok number) m next e is h = absurd cc
force-plain (Err x) m next e is h = as-plain x e is (force-other m next x h, force-unheld m next x h)

module _ (places : Places) (m next : Machine) (e : Refusal) where
  ending-plain : (d : Deed) → IsEnding d → Refuses e d → Case places 0 d m next → IsPlain e
  ending-plain d (inl (q, answer, is)) why step =
      ask-plain q answer m next e (subst (Refuses e) is why) (subst (λ (x : Deed). Case places 0 x m next) is step)
  ending-plain d (inr (answer, is)) why step = force-plain answer m next e (subst (Refuses e) is why) (subst (λ (x : Deed). Case places 0 x m next) is step)

  -- a commit that brings no items
  plain-full : (w : Change) (answer : Result ℕ Refusal) (d : Deed) → Takes w → count_items (effect w (inventory m.core)) ≤ count_items (inventory m.core) → IsFew (inventory m.core) → d ≡ Commit (Plain w) [] answer
      → Refuses e d → Case places 0 d m next → e ≡ refused.InventoryFull → 2 ^ 62 ≤ (inventory m.core).number + 1
  plain-full w (Ok number) d t less few is why step full = (let odd : Refuses e (Commit (Plain w) [] (Ok number)) = subst (Refuses e) is why in absurd cc)
  plain-full w (Err x) d t less few is why step full =
      let same : x ≡ e = same_Some x e (subst (Refuses e) is why) in
      commit-full w m next x t less few (subst (λ (y : Deed). Case places 0 y m next) is step) (same ∙ full)

  plain-unheld : (w : Change) (answer : Result ℕ Refusal) (d : Deed) → Takes w → (m.core.tickets ≡ []) × (m.core.image ≡ None) → d ≡ Commit (Plain w) [] answer → Refuses e d → Case places 0 d m next → IsNoHolder e
  plain-unheld w (Ok number) d t free is why step = (let odd : Refuses e (Commit (Plain w) [] (Ok number)) = subst (Refuses e) is why in absurd cc)
  plain-unheld w (Err x) d t free is why step =
      subst IsNoHolder (same_Some x e (subst (Refuses e) is why)) (commit-unheld w m next x t free.1 free.0 (subst (λ (y : Deed). Case places 0 y m next) is step))

-- a question is refused only where the run ends
pub asking-answered : (trusted : Type 0) (places : Places) (events : List Event) (e : Refusal) (old new : Machine) → halt_by e ≡ None → Unanswered events e → Alone trusted places 0 events old new → ⊥
asking-answered trusted places events e old new mild (inl memory, asks) f = no-memory e memory mild
asking-answered trusted places events e old new mild (inr (stops, met), asks) f =
    let at = met-at trusted places IsAsking (λ c. Unit {0}) (λ d m next so step h. tt) (Refuses e) events old new asks tt f met in
    let plain : IsPlain e = ending-plain places at.before at.after e at.deed (inl at.kind) at.is at.step in
    elim (stopping-mild e stops mild) as (λ _. ⊥) [
      | inl full ↦ plain.0 full
      | inr busy ↦ plain.1 busy.0 busy.1
    ]

-- ---- what stays

abbrev pub IsAny : Change → Type 0
IsAny w = Unit {0}

pub valid-goes : (P : Change → Type 0) (c d : Core) → Goes P c d → is_valid (inventory c) ≡ true → is_valid (inventory d) ≡ true
valid-goes P c d (inl same) valid = ap is_valid same ∙ valid
valid-goes P c d (inr (w, so, legal, is)) valid = ap is_valid is ∙ legal-valid (sight 0 c).journal w (inventory c) legal

-- so it is behind steps of one kind, none of which begins an image
pub valid-behind : (trusted : Type 0) (places : Places) (K : Deed → Type 0) → ((d : Deed) → K d → Makes IsAny d) → (events : List Event) (m new : Machine) → AllByRecursion (λ e. K e.deed) events → is_valid (database m) ≡ true
    → Alone trusted places 0 events m new → is_valid (database new) ≡ true
valid-behind trusted places K makes [] m new all valid same = ap (λ (x : Machine). is_valid (database x)) same ∙ valid
valid-behind trusted places K makes (e ∷ events) m new all valid (next, moved, rest) =
    let p = passes trusted places e m next moved in
    let now : is_valid (inventory moved.next.core) ≡ true =
    valid-goes IsAny m.core moved.next.core (step-goes IsAny places e.deed (with_contents moved.seen m) moved.next (makes e.deed all.0) moved.made.step) valid in
    valid-behind trusted places K makes events next new all.1 (subst (λ (c : Core). is_valid (inventory c) ≡ true) (sym p.core) now) rest

ask-free : (q : Query) (answer : Result Answer Refusal) (m next : Machine) → Asks 0 q m next answer → IsFree m.core → IsFree next.core
ask-free q (Ok a) m next h free = same-free m.core m.core next.core h.1.1.core refl refl free
ask-free q (Err x) m next (inl h) free = same-free m.core m.core next.core h.1.core refl refl free
ask-free q (Err x) m next (inr h) free = absurd h.1

forced-free : (answer : Result ℕ Refusal) (m next : Machine) → Forces 0 m next answer → IsFree m.core → IsFree next.core
forced-free answer m next h free = (force-free m next answer h ∙ free.0, force-image m next answer h ∙ free.1)

reuse-free : (file : ℕ) (answer : Result ℕ Refusal) (m next : Machine) → Reuses 0 file m next answer → IsFree m.core → IsFree next.core
reuse-free file (Ok number) m next h free = same-free m.core (stamped next.moment (made 0 (change.Reuse file) m.core)) next.core h.1.1.core refl refl free
reuse-free file (Err x) m next (inl h) free = same-free m.core m.core next.core h.1.core refl refl free
reuse-free file (Err x) m next (inr (none, (log, count, is, fault, becomes))) free =
    same-free m.core (halting log count (made 0 (change.Reuse file) m.core)) next.core becomes.core refl refl free

module _ (places : Places) (m next : Machine) where
  ending-free : (d : Deed) → IsEnding d → Case places 0 d m next → IsFree m.core → IsFree next.core
  ending-free d (inl (q, answer, is)) step free = ask-free q answer m next (subst (λ (x : Deed). Case places 0 x m next) is step) free
  ending-free d (inr (answer, is)) step free = forced-free answer m next (subst (λ (x : Deed). Case places 0 x m next) is step) free

pub ending-makes : (P : Change → Type 0) (d : Deed) → IsEnding d → Makes P d
ending-makes P d (inl (q, answer, is)) = subst (λ (x : Deed). Makes P x) (sym is) tt
ending-makes P d (inr (answer, is)) = subst (λ (x : Deed). Makes P x) (sym is) tt

-- ---- bounds

-- the number had no other behind it where a step was refused, nor has the last one
last-number : (old before new : Machine) (e : Refusal) → e ≡ refused.InventoryFull → Grows before.core new.core → 2 ^ 62 ≤ (inventory before.core).number + 1 → IsBounded old new e
last-number old before new e full grown last =
    let more : (inventory before.core).number ≤ (inventory new.core).number = grown-number before.core new.core grown in
    (full, omega (arith, last, more))

-- ---- EXPIRE INVENTORY

met-so : (e : Refusal) (events : List Event) → expiring.Met e events → MetBy (Refuses e) events
met-so e [] h = h
met-so e (x ∷ events) (inl h) = inl h
met-so e (x ∷ events) (inr h) = inr (met-so e events h)

expiring-makes : (d : Deed) → IsExpiring d → Makes IsAny d
expiring-makes (Ask q answer) h = tt
expiring-makes (Force answer) h = tt
expiring-makes (Commit asked tickets answer) h = λ c core is. tt
expiring-makes d h = absurd h

expiring-full : (places : Places) (d : Deed) (m next : Machine) (e : Refusal) → IsExpiring d → Refuses e d → Case places 0 d m next → is_valid (inventory m.core) ≡ true → e ≡ refused.InventoryFull
    → 2 ^ 62 ≤ (inventory m.core).number + 1
expiring-full places (Ask q answer) m next e so why step valid full = absurd ((ask-plain q answer m next e why step).0 full)
expiring-full places (Force answer) m next e so why step valid full = absurd ((force-plain answer m next e why step).0 full)
expiring-full places (Commit asked tickets answer) m next e (filespace, lines, is, none) why step valid full =
    let c : NamedVersions = record { filespace = filespace; items = map named lines } in
    plain-full places m next e (change.Expire c) answer (Commit asked tickets answer) (expire-takes c) (expire_takes c (inventory m.core)) (facts_of (inventory m.core) valid).few_items
    (ap (λ (a : Asked). Commit a tickets answer) is ∙ ap (λ (ts : List ℕ). Commit (Plain (change.Expire c)) ts answer) none) why step full
expiring-full places d m next e so why step valid full = absurd so

module _ (trusted : Type 0) (places : Places) (old new : Machine) (e : Refusal) (mild : halt_by e ≡ None) (valid : is_valid (database old) ≡ true) where
  pub expire-reason : (events : List Event) → Expiration events (Err e) → Alone trusted places 0 events old new → IsBounded old new e
  expire-reason events h f = elim h.cause as (λ _. IsBounded old new e) [
    | inl memory ↦ absurd (no-memory e memory mild)
    | inr met ↦ (let full : e ≡ refused.InventoryFull = full-mild e met.0 mild in by-step full (met-at trusted places IsExpiring (λ c. is_valid (inventory c) ≡ true)
        (λ d m next so step there. valid-goes IsAny m.core next.core (step-goes IsAny places d m next (expiring-makes d so) step) there) (Refuses e) events old new h.only valid f (met-so e events met.1)))
  ]
    where
      by-step : e ≡ refused.InventoryFull → MetAt places IsExpiring (λ c. is_valid (inventory c) ≡ true) (Refuses e) old new → IsBounded old new e
      by-step full at = last-number old at.before new e full at.grown (expiring-full places at.deed at.before at.after e at.kind at.is at.step at.holds full)

-- ---- DELETE VOLHISTORY

deleting-makes : (files : List ℕ) (d : Deed) → IsDeleting files d → Makes IsAny d
deleting-makes files d (inl h) = ending-makes IsAny d h
deleting-makes files d (inr (file, answer, among, is)) = subst (λ (x : Deed). Makes IsAny x) (sym is) (λ c core so. tt)

deleting-free : (places : Places) (files : List ℕ) (d : Deed) (m next : Machine) → IsDeleting files d → Case places 0 d m next → IsFree m.core → IsFree next.core
deleting-free places files d m next (inl h) step free = ending-free places m next d h step free
deleting-free places files d m next (inr (file, answer, among, is)) step free =
    commit-free (Plain (change.DbDelete file)) answer m next (subst (λ (x : Deed). Case places 0 x m next) is step) free

deleting-full : (places : Places) (files : List ℕ) (d : Deed) (m next : Machine) (e : Refusal) → IsDeleting files d → Refuses e d → Case places 0 d m next → is_valid (inventory m.core) ≡ true → e ≡ refused.InventoryFull
    → 2 ^ 62 ≤ (inventory m.core).number + 1
deleting-full places files d m next e (inl h) why step valid full = absurd ((ending-plain places m next e d h why step).0 full)
deleting-full places files d m next e (inr (file, answer, among, is)) why step valid full =
    plain-full places m next e (change.DbDelete file) answer d (delete-takes file) (delete_takes file (inventory m.core)) (facts_of (inventory m.core) valid).few_items is why step full

deleting-unheld : (places : Places) (files : List ℕ) (d : Deed) (m next : Machine) (e : Refusal) → IsDeleting files d → Refuses e d → Case places 0 d m next → IsFree m.core → IsNoHolder e
deleting-unheld places files d m next e (inl h) why step free = (ending-plain places m next e d h why step).1
deleting-unheld places files d m next e (inr (file, answer, among, is)) why step free = plain-unheld places m next e (change.DbDelete file) answer d (delete-takes file) free is why step

-- ---- steps of one kind, of which each keeps this

module _ (trusted : Type 0) (places : Places) (K : Deed → Type 0) (makes : (d : Deed) → K d → Makes IsAny d) (frees : (d : Deed) (m next : Machine) → K d → Case places 0 d m next → IsFree m.core → IsFree next.core)
    (fills : (d : Deed) (m next : Machine) (e : Refusal) → K d → Refuses e d → Case places 0 d m next → is_valid (inventory m.core) ≡ true → e ≡ refused.InventoryFull → 2 ^ 62 ≤ (inventory m.core).number + 1)
    (holds : (d : Deed) (m next : Machine) (e : Refusal) → K d → Refuses e d → Case places 0 d m next → IsFree m.core → IsNoHolder e) where
  valid-step : (d : Deed) (m next : Machine) → K d → Case places 0 d m next → is_valid (inventory m.core) ≡ true → is_valid (inventory next.core) ≡ true
  valid-step d m next so step valid = valid-goes IsAny m.core next.core (step-goes IsAny places d m next (makes d so) step) valid

  -- what stopped them is the bound, in a valid database
  pub stopped-valid : (events : List Event) (e : Refusal) (old new : Machine) → halt_by e ≡ None → IsFree old.core → is_valid (database old) ≡ true → AllByRecursion (λ x. K x.deed) events → IsStopped events e
      → Alone trusted places 0 events old new → IsBounded old new e
  stopped-valid events e old new mild free valid all (inl memory) f = absurd (no-memory e memory mild)
  stopped-valid events e old new mild free valid all (inr (stops, met)) f = elim (stopping-mild e stops mild) as (λ _. IsBounded old new e) [
    | inl full ↦ (let at = met-at trusted places K (λ c. is_valid (inventory c) ≡ true) valid-step (Refuses e) events old new all valid f met in
        last-number old at.before new e full at.grown (fills at.deed at.before at.after e at.kind at.is at.step at.holds full))
    | inr busy ↦ (let at = met-at trusted places K IsFree frees (Refuses e) events old new all free f met in
        absurd (holds at.deed at.before at.after e at.kind at.is at.step at.holds busy.0 busy.1))
  ]

pub history-reason : (trusted : Type 0) (places : Places) (to : ℕ) (events : List Event) (e : Refusal) (old new : Machine) → halt_by e ≡ None → IsFree old.core → is_valid (database old) ≡ true → HistoryDeletion to events (Err e) → Alone trusted places 0 events old new
    → IsBounded old new e
history-reason trusted places to events e old new mild free valid h f =
    let files : List ℕ = due_files to h.lines in
    stopped-valid trusted places (IsDeleting files) (deleting-makes files) (deleting-free places files) (deleting-full places files) (deleting-unheld places files) events e old new mild free valid h.only h.came f

-- ---- the reuse of volumes

reusing-makes : (files : List ℕ) (d : Deed) → IsReusing files d → Makes IsAny d
reusing-makes files d (inl h) = ending-makes IsAny d h
reusing-makes files d (inr (file, answer, among, is)) = subst (λ (x : Deed). Makes IsAny x) (sym is) tt

reusing-free : (places : Places) (files : List ℕ) (d : Deed) (m next : Machine) → IsReusing files d → Case places 0 d m next → IsFree m.core → IsFree next.core
reusing-free places files d m next (inl h) step free = ending-free places m next d h step free
reusing-free places files d m next (inr (file, answer, among, is)) step free = reuse-free file answer m next (subst (λ (x : Deed). Case places 0 x m next) is step) free

reused-full : (file : ℕ) (answer : Result ℕ Refusal) (m next : Machine) (e : Refusal) → Refuses e (Reuse file answer) → Reuses 0 file m next answer → is_valid (inventory m.core) ≡ true → e ≡ refused.InventoryFull
    → 2 ^ 62 ≤ (inventory m.core).number + 1
reused-full file (Ok number) m next e why step valid full = absurd cc
reused-full file (Err x) m next e why step valid full = reuse-full file m next x (facts_of (inventory m.core) valid).few_items step (same_Some x e why ∙ full)

reused-unheld : (file : ℕ) (answer : Result ℕ Refusal) (m next : Machine) (e : Refusal) → Refuses e (Reuse file answer) → Reuses 0 file m next answer → IsFree m.core → IsNoHolder e
reused-unheld file (Ok number) m next e why step free = absurd cc
reused-unheld file (Err x) m next e why step free = subst IsNoHolder (same_Some x e why) (reuse-unheld file m next x free.0 step)

reusing-full : (places : Places) (files : List ℕ) (d : Deed) (m next : Machine) (e : Refusal) → IsReusing files d → Refuses e d → Case places 0 d m next → is_valid (inventory m.core) ≡ true → e ≡ refused.InventoryFull
    → 2 ^ 62 ≤ (inventory m.core).number + 1
reusing-full places files d m next e (inl h) why step valid full = absurd ((ending-plain places m next e d h why step).0 full)
reusing-full places files d m next e (inr (file, answer, among, is)) why step valid full =
    reused-full file answer m next e (subst (Refuses e) is why) (subst (λ (x : Deed). Case places 0 x m next) is step) valid full

reusing-unheld : (places : Places) (files : List ℕ) (d : Deed) (m next : Machine) (e : Refusal) → IsReusing files d → Refuses e d → Case places 0 d m next → IsFree m.core → IsNoHolder e
reusing-unheld places files d m next e (inl h) why step free = (ending-plain places m next e d h why step).1
reusing-unheld places files d m next e (inr (file, answer, among, is)) why step free =
    reused-unheld file answer m next e (subst (Refuses e) is why) (subst (λ (x : Deed). Case places 0 x m next) is step) free

pub reuse-reason : (trusted : Type 0) (places : Places) (events : List Event) (e : Refusal) (old new : Machine) → halt_by e ≡ None → IsFree old.core → is_valid (database old) ≡ true → VolumeReuse events (Err e) → Alone trusted places 0 events old new → IsBounded old new e
reuse-reason trusted places events e old new mild free valid h f =
    stopped-valid trusted places (IsReusing h.files) (reusing-makes h.files) (reusing-free places h.files) (reusing-full places h.files) (reusing-unheld places h.files) events e old new mild free valid h.only h.came f

-- ---- AUDIT VOLUME

-- copies are dropped, or objects discarded
abbrev IsMend : Change → Type 0
IsMend w = ((c : DroppedCopies) × (w ≡ change.DropCopies c)) ⊎ ((c : DiscardedVersions) × (w ≡ change.Discard c))

auditing-makes : (fix : Bool) (file : ℕ) (d : Deed) → IsAuditing fix file d → Makes IsMend d
auditing-makes fix file d (inl h) = ending-makes IsMend d h
auditing-makes fix file d (inr (inl (line, offset, wanted, answer, is))) = subst (λ (x : Deed). Makes IsMend x) (sym is) tt
auditing-makes fix file d (inr (inr (asked, (line, found, answer, inl is)))) = subst (λ (x : Deed). Makes IsMend x) (sym is) (λ c core so. inl (_, sym (same_Some _ c so)))
auditing-makes fix file d (inr (inr (asked, (line, found, answer, inr is)))) = subst (λ (x : Deed). Makes IsMend x) (sym is) (λ c core so. inr (_, sym (same_Some _ c so)))

there-goes : (file : ℕ) (c d : Core) → Goes IsMend c d → has_volume file (inventory d) ≡ has_volume file (inventory c)
there-goes file c d (inl same) = ap (has_volume file) same
there-goes file c d (inr (w, inl (r, so), legal, is)) = ap (has_volume file) is ∙ ap (λ (x : Change). has_volume file (effect x (inventory c))) so ∙ dropped-stays file r (inventory c)
there-goes file c d (inr (w, inr (r, so), legal, is)) = ap (has_volume file) is ∙ ap (λ (x : Change). has_volume file (effect x (inventory c))) so ∙ discarded-stays file r (inventory c)

version-plain : (j : Journal) (object : ℕ) (rule : Version → List Refusal) → ((w : Version) → AllByRecursion IsPlain (rule w)) → (found : Option Version) → AllByRecursion IsPlain (of_version j object rule found)
version-plain j object rule h None = (
  elim (j.removed object) as (λ o. IsPlain (gone_or_unknown o)) [
    | None ↦ (λ is. absurd cc, λ holder is. absurd cc)
    | Some n ↦ (λ is. absurd cc, λ holder is. absurd cc)
  ],
  tt,
)
version-plain j object rule h (Some w) = h w

read-plain : (object : ℕ) (kept : Digest) (from offset wanted : ℕ) (answer : Result (List ℕ) Refusal) (m next : Machine) (e : Refusal) → Refuses e (ReadPiece object kept from offset wanted answer)
    → Reads 0 object kept from offset wanted m next answer → IsPlain e
read-plain object kept from offset wanted (Ok bytes) m next e is h = absurd cc
read-plain object kept from offset wanted (Err x) m next e is (inl (inl why, stays)) =
    as-plain x e is
    (foremost-all IsPlain (ended m ++ read_refused object kept from offset wanted (sight 0 m.core))
    (append-all IsPlain (ended m) _ (ended-all IsPlain (λ is. absurd cc, λ holder is. absurd cc) (λ file count. (λ is. absurd cc, λ holder is. absurd cc)) m)
    (append-all IsPlain (unless (nat_le wanted most_bytes) bad_value) _ (unless-all IsPlain (nat_le wanted most_bytes) bad_value (λ is. absurd cc, λ holder is. absurd cc))
    (version-plain (sight 0 m.core).journal object _
    (λ w. append-all IsPlain (unless (has_copy_in from w) refused.NotFound) _ (unless-all IsPlain (has_copy_in from w) refused.NotFound (λ is. absurd cc, λ holder is. absurd cc))
    (append-all IsPlain (unless (nat_le offset w.size) bad_value) _ (unless-all IsPlain (nat_le offset w.size) bad_value (λ is. absurd cc, λ holder is. absurd cc))
    (unless-all IsPlain (is_same_name w.digest.0 kept.0) (refused.DigestDiffers w.digest kept) (λ is. absurd cc, λ holder is. absurd cc)))) (version object (sight 0 m.core).inventory)))) x why)
read-plain object kept from offset wanted (Err x) m next e is (inl (inr memory, stays)) = as-plain x e is (subst IsPlain (sym memory) (λ is. absurd cc, λ holder is. absurd cc))
read-plain object kept from offset wanted (Err x) m next e is (inr (none, (gone, lost, stays))) = as-plain x e is (subst IsPlain (sym gone) (λ is. absurd cc, λ holder is. absurd cc))

read-still : (object : ℕ) (kept : Digest) (from offset wanted : ℕ) (answer : Result (List ℕ) Refusal) (m next : Machine) → Reads 0 object kept from offset wanted m next answer → IsFree m.core → IsFree next.core
read-still object kept from offset wanted (Ok bytes) m next h free = same-free m.core m.core next.core h.1.2.core refl refl free
read-still object kept from offset wanted (Err x) m next (inl h) free = same-free m.core m.core next.core h.1.core refl refl free
read-still object kept from offset wanted (Err x) m next (inr (none, (gone, lost, stays))) free = same-free m.core m.core next.core stays.core refl refl free

auditing-free : (places : Places) (fix : Bool) (file : ℕ) (d : Deed) (m next : Machine) → IsAuditing fix file d → Case places 0 d m next → IsFree m.core → IsFree next.core
auditing-free places fix file d m next (inl h) step free = ending-free places m next d h step free
auditing-free places fix file d m next (inr (inl (line, offset, wanted, answer, is))) step free =
    read-still line.object line.digest line.pool offset wanted answer m next (subst (λ (x : Deed). Case places 0 x m next) is step) free
auditing-free places fix file d m next (inr (inr (asked, (line, found, answer, inl is)))) step free =
    commit-free (dropping file line found) answer m next (subst (λ (x : Deed). Case places 0 x m next) is step) free
auditing-free places fix file d m next (inr (inr (asked, (line, found, answer, inr is)))) step free =
    commit-free (discarding file line found) answer m next (subst (λ (x : Deed). Case places 0 x m next) is step) free

module _ (places : Places) (fix : Bool) (file : ℕ) (d : Deed) (m next : Machine) (e : Refusal) where
  auditing-unheld : IsAuditing fix file d → Refuses e d → Case places 0 d m next → IsFree m.core → IsNoHolder e
  auditing-unheld (inl h) why step free = (ending-plain places m next e d h why step).1
  auditing-unheld (inr (inl (line, offset, wanted, answer, is))) why step free =
      (read-plain line.object line.digest line.pool offset wanted answer m next e (subst (Refuses e) is why) (subst (λ (x : Deed). Case places 0 x m next) is step)).1
  auditing-unheld (inr (inr (asked, (line, found, answer, inl is)))) why step free = plain-unheld places m next e _ answer d (drop-takes _) free is why step
  auditing-unheld (inr (inr (asked, (line, found, answer, inr is)))) why step free = plain-unheld places m next e _ answer d (discard-takes _) free is why step

  -- the database is full for none but what mends
  auditing-fix : IsAuditing fix file d → Refuses e d → Case places 0 d m next → e ≡ refused.InventoryFull → fix ≡ true
  auditing-fix (inl h) why step full = absurd ((ending-plain places m next e d h why step).0 full)
  auditing-fix (inr (inl (line, offset, wanted, answer, is))) why step full =
      absurd ((read-plain line.object line.digest line.pool offset wanted answer m next e (subst (Refuses e) is why) (subst (λ (x : Deed). Case places 0 x m next) is step)).0 full)
  auditing-fix (inr (inr (asked, h))) why step full = asked

  auditing-full : IsAuditing fix file d → Refuses e d → Case places 0 d m next → is_valid (inventory m.core) ≡ true → e ≡ refused.InventoryFull → 2 ^ 62 ≤ (inventory m.core).number + 1
  auditing-full (inl h) why step valid full = absurd ((ending-plain places m next e d h why step).0 full)
  auditing-full (inr (inl (line, offset, wanted, answer, is))) why step valid full =
      absurd ((read-plain line.object line.digest line.pool offset wanted answer m next e (subst (Refuses e) is why) (subst (λ (x : Deed). Case places 0 x m next) is step)).0 full)
  auditing-full (inr (inr (asked, (line, found, answer, inl is)))) why step valid full =
      let facts = facts_of (inventory m.core) valid in
      plain-full places m next e _ answer d (drop-takes _) (drops_take _ (inventory m.core) facts.objects_apart) facts.few_items is why step full
  auditing-full (inr (inr (asked, (line, found, answer, inr is)))) why step valid full =
      plain-full places m next e _ answer d (discard-takes _) (discard_all_takes _ (inventory m.core)) (facts_of (inventory m.core) valid).few_items is why step full

-- ---- a volume that isn't there

abbrev Missing : Refusal → Type 0
Missing e = (number_of e == 10) ≡ true → e ≡ refused.NotFound

common-missing : Common Missing
common-missing = record { full = λ is. absurd cc; fault = λ file count is. absurd cc; memory = λ is. absurd cc; bad = λ is. absurd cc; long = λ is. absurd cc }

abbrev NoneMissing : Refusal → Type 0
NoneMissing e = (number_of e == 10) ≡ true → ⊥

-- what is there is told
told-there : {A : Type 0} (there : Bool) (x : A) (refusals : Result A Refusal → List Refusal) (m : Machine) (e : Refusal) → refusals (Ok x) ≡ [] → (number_of e == 10) ≡ true
    → foremost (ended m ++ refusals (if there then Ok x else Err refused.NotFound)) ≡ Some e → there ≡ false
told-there true x refusals m e none ten why =
    absurd
    (foremost-all NoneMissing (ended m ++ refusals (Ok x))
    (append-all NoneMissing (ended m) (refusals (Ok x)) (ended-all NoneMissing (λ is. absurd cc) (λ file count is. absurd cc) m) (subst (λ (l : List Refusal). AllByRecursion NoneMissing l) (sym none) tt)) e why ten)
told-there false x refusals m e none ten why = refl

pub volume-missing : (file : ℕ) (m next : Machine) (e : Refusal) → (number_of e == 10) ≡ true → Asks 0 (query.OnVolume file) m next (Err e) → has_volume file (inventory m.core) ≡ false
volume-missing file m next e ten (inl (inl why, stays)) =
    let shape : Rows → Answer = (λ it. record { n = (inventory m.core).number; today = (inventory m.core).today; rows = it }) in
    told-there (has_volume file (inventory m.core)) _ (λ r. refusal_of (on_ok shape (on_ok rows.OnVolume r))) m e refl ten why
volume-missing file m next e ten (inl (inr memory, stays)) = (let odd : (number_of refused.Memory == 10) ≡ true = subst (λ (x : Refusal). (number_of x == 10) ≡ true) memory ten in absurd cc)
volume-missing file m next e ten (inr (none, never)) = absurd never

module _ (trusted : Type 0) (places : Places) (fix : Bool) (file : ℕ) (events : List Event) (e : Refusal) (old new : Machine) (all : AllByRecursion (λ x. IsAuditing fix file x.deed) events) (f : Alone trusted places 0 events old new) where
  audit-goes : (d : Deed) (m next : Machine) → IsAuditing fix file d → Case places 0 d m next → Goes IsMend m.core next.core
  audit-goes d m next so step = step-goes IsMend places d m next (auditing-makes fix file d so) step

  audit-full : is_valid (database old) ≡ true → MetBy (Refuses e) events → e ≡ refused.InventoryFull → IsUnaudited fix file old new e
  audit-full valid met full =
      let at = met-at trusted places (IsAuditing fix file) (λ c. is_valid (inventory c) ≡ true) (λ d m next so step h. valid-goes IsMend m.core next.core (audit-goes d m next so step) h) (Refuses e) events old new all valid f met in
      inr (auditing-fix places fix file at.deed at.before at.after e at.kind at.is at.step full, last-number old at.before new e full at.grown (auditing-full places fix file at.deed at.before at.after e at.kind at.is at.step at.holds full))

  audit-missing : (number_of e == 10) ≡ true → MetBy (λ d. d ≡ Ask (query.OnVolume file) (Err e)) events → IsUnaudited fix file old new e
  audit-missing ten met =
      let at = met-at trusted places (IsAuditing fix file) (λ c. has_volume file (inventory c) ≡ has_volume file (database old))
      (λ d m next so step h. there-goes file m.core next.core (audit-goes d m next so step) ∙ h) (λ d. d ≡ Ask (query.OnVolume file) (Err e)) events old new all refl f met in
      let asks : Asks 0 (query.OnVolume file) at.before at.after (Err e) = subst (λ (x : Deed). Case places 0 x at.before at.after) at.is at.step in
      inl (ask-all Missing common-missing at.before at.after e (λ ten. refl) (query.OnVolume file) asks ten, sym at.holds ∙ volume-missing file at.before at.after e ten asks)

  audit-stopped : is_valid (database old) ≡ true → IsFree old.core → halt_by e ≡ None → IsStopped events e → IsUnaudited fix file old new e
  audit-stopped valid free mild (inl memory) = absurd (no-memory e memory mild)
  audit-stopped valid free mild (inr (stops, met)) = elim (stopping-mild e stops mild) as (λ _. IsUnaudited fix file old new e) [
    | inl full ↦ audit-full valid met full
    | inr busy ↦ (let at = met-at trusted places (IsAuditing fix file) IsFree (auditing-free places fix file) (Refuses e) events old new all free f met in
        absurd (auditing-unheld places fix file at.deed at.before at.after e at.kind at.is at.step at.holds busy.0 busy.1))
  ]

pub audit-reason : (trusted : Type 0) (places : Places) (fix : Bool) (file : ℕ) (events : List Event) (e : Refusal) (old new : Machine) → halt_by e ≡ None → IsFree old.core → is_valid (database old) ≡ true → VolumeAudit fix file events (Err e)
    → Alone trusted places 0 events old new → IsUnaudited fix file old new e
audit-reason trusted places fix file events e old new mild free valid h f = elim h.came as (λ _. IsUnaudited fix file old new e) [
  | inl stopped ↦ audit-stopped trusted places fix file events e old new h.only f valid free mild stopped
  | inr missing ↦ audit-missing trusted places fix file events e old new h.only f missing.0 missing.1
]

-- ---- DELETE FILESPACE, DELETE VOLUME

-- of what is there, or used, no more is said
pub kept-so : (e : Refusal) → is_kept_by e ≡ true → IsUnremoved e
kept-so refused.NotFound h = inl refl
kept-so (refused.InUse user) h = inr (inl (user, refl))
kept-so (refused.NotYet file day) h = inr (inr (file, day, refl))
kept-so e h = absurd cc

removing-makes : (reason : DiscardReason) (d : Deed) → IsDiscarding reason d → Makes IsAny d
removing-makes reason d (objects, answer, is) = subst (λ (x : Deed). Makes IsAny x) (sym is) (λ c core so. tt)

removing-free : (places : Places) (reason : DiscardReason) (d : Deed) (m next : Machine) → IsDiscarding reason d → Case places 0 d m next → IsFree m.core → IsFree next.core
removing-free places reason d m next (objects, answer, is) step free = commit-free (removing reason objects) answer m next (subst (λ (x : Deed). Case places 0 x m next) is step) free

removing-full : (places : Places) (reason : DiscardReason) (d : Deed) (m next : Machine) (e : Refusal) → IsDiscarding reason d → Refuses e d → Case places 0 d m next → is_valid (inventory m.core) ≡ true → e ≡ refused.InventoryFull
    → 2 ^ 62 ≤ (inventory m.core).number + 1
removing-full places reason d m next e (objects, answer, is) why step valid full =
    plain-full places m next e _ answer d (discard-takes _) (discard_all_takes _ (inventory m.core)) (facts_of (inventory m.core) valid).few_items is why step full

removing-unheld : (places : Places) (reason : DiscardReason) (d : Deed) (m next : Machine) (e : Refusal) → IsDiscarding reason d → Refuses e d → Case places 0 d m next → IsFree m.core → IsNoHolder e
removing-unheld places reason d m next e (objects, answer, is) why step free = plain-unheld places m next e _ answer d (discard-takes _) free is why step

module _ (places : Places) (filespace : ℕ) where
  space-makes : (d : Deed) → filespaces.IsDeleting filespace d → Makes IsAny d
  space-makes d (inl h) = ending-makes IsAny d h
  space-makes d (inr (inl h)) = removing-makes (filespaces.reason_of filespace) d h
  space-makes d (inr (inr (name, answer, is))) = subst (λ (x : Deed). Makes IsAny x) (sym is) (λ c core so. tt)

  space-free : (d : Deed) (m next : Machine) → filespaces.IsDeleting filespace d → Case places 0 d m next → IsFree m.core → IsFree next.core
  space-free d m next (inl h) step free = ending-free places m next d h step free
  space-free d m next (inr (inl h)) step free = removing-free places (filespaces.reason_of filespace) d m next h step free
  space-free d m next (inr (inr (name, answer, is))) step free = commit-free (filespaces.deleting name filespace) answer m next (subst (λ (x : Deed). Case places 0 x m next) is step) free

  space-full : (d : Deed) (m next : Machine) (e : Refusal) → filespaces.IsDeleting filespace d → Refuses e d → Case places 0 d m next → is_valid (inventory m.core) ≡ true → e ≡ refused.InventoryFull → 2 ^ 62 ≤ (inventory m.core).number + 1
  space-full d m next e (inl h) why step valid full = absurd ((ending-plain places m next e d h why step).0 full)
  space-full d m next e (inr (inl h)) why step valid full = removing-full places (filespaces.reason_of filespace) d m next e h why step valid full
  space-full d m next e (inr (inr (name, answer, is))) why step valid full =
      plain-full places m next e _ answer d (filespace-takes name filespace) (clients_take (client.Filespace two.Delete 0 name filespace) (inventory m.core) refl) (facts_of (inventory m.core) valid).few_items is why step full

  space-unheld : (d : Deed) (m next : Machine) (e : Refusal) → filespaces.IsDeleting filespace d → Refuses e d → Case places 0 d m next → IsFree m.core → IsNoHolder e
  space-unheld d m next e (inl h) why step free = (ending-plain places m next e d h why step).1
  space-unheld d m next e (inr (inl h)) why step free = removing-unheld places (filespaces.reason_of filespace) d m next e h why step free
  space-unheld d m next e (inr (inr (name, answer, is))) why step free = plain-unheld places m next e _ answer d (filespace-takes name filespace) free is why step

pub filespace-reason : (trusted : Type 0) (places : Places) (filespace : ℕ) (events : List Event) (e : Refusal) (old new : Machine) → halt_by e ≡ None → IsFree old.core → is_valid (database old) ≡ true → IsOrdered (database old) → FilespaceDeletion filespace events (Err e)
    → Alone trusted places 0 events old new → IsAbsent (has_filespace filespace (database old)) e ⊎ IsBounded old new e
filespace-reason trusted places filespace events e old new mild free valid ordered h f = elim h.came as (λ _. IsAbsent (has_filespace filespace (database old)) e ⊎ IsBounded old new e) [
  | inl stopped ↦ inr (stopped-valid trusted places (filespaces.IsDeleting filespace) (space-makes places filespace) (space-free places filespace) (space-full places filespace) (space-unheld places filespace)
      events e old new mild free valid h.only stopped f)
  | inr other ↦ (elim other as (λ _. IsAbsent (has_filespace filespace (database old)) e ⊎ IsBounded old new e) [
    | inl missing ↦ inl (absent trusted places filespace events e old new (inl (ten-is e missing.0)) f valid ordered h.place)
    | inr kept ↦ inl (absent trusted places filespace events e old new (kept-so e kept.0) f valid ordered h.place)
  ])
]

module _ (places : Places) (file : ℕ) where
  volume-makes : (d : Deed) → volumes.IsDeleting true file d → Makes IsAny d
  volume-makes d (inl (inl h)) = ending-makes IsAny d h
  volume-makes d (inl (inr (row, answer, is))) = subst (λ (x : Deed). Makes IsAny x) (sym is) (λ c core so. tt)
  volume-makes d (inr (inl (lines, answer, is))) = subst (λ (x : Deed). Makes IsAny x) (sym is) (λ c core so. tt)
  volume-makes d (inr (inr h)) = removing-makes (for_volume file) d h

  volume-free : (d : Deed) (m next : Machine) → volumes.IsDeleting true file d → Case places 0 d m next → IsFree m.core → IsFree next.core
  volume-free d m next (inl (inl h)) step free = ending-free places m next d h step free
  volume-free d m next (inl (inr (row, answer, is))) step free = commit-free (volumes.deleting row file) answer m next (subst (λ (x : Deed). Case places 0 x m next) is step) free
  volume-free d m next (inr (inl (lines, answer, is))) step free = commit-free (dropping_for file lines) answer m next (subst (λ (x : Deed). Case places 0 x m next) is step) free
  volume-free d m next (inr (inr h)) step free = removing-free places (for_volume file) d m next h step free

  volume-full : (d : Deed) (m next : Machine) (e : Refusal) → volumes.IsDeleting true file d → Refuses e d → Case places 0 d m next → is_valid (inventory m.core) ≡ true → e ≡ refused.InventoryFull
      → 2 ^ 62 ≤ (inventory m.core).number + 1
  volume-full d m next e (inl (inl h)) why step valid full = absurd ((ending-plain places m next e d h why step).0 full)
  volume-full d m next e (inl (inr (row, answer, is))) why step valid full =
      plain-full places m next e _ answer d (volume-takes row.name file row.capacity row.access) (stores_take (store.Volume verb.Delete row.name 0 file row.capacity row.access) (inventory m.core) refl)
      (facts_of (inventory m.core) valid).few_items is why step full
  volume-full d m next e (inr (inl (lines, answer, is))) why step valid full =
      let facts = facts_of (inventory m.core) valid in
      plain-full places m next e _ answer d (drop-takes _) (drops_take _ (inventory m.core) facts.objects_apart) facts.few_items is why step full
  volume-full d m next e (inr (inr h)) why step valid full = removing-full places (for_volume file) d m next e h why step valid full

  volume-unheld : (d : Deed) (m next : Machine) (e : Refusal) → volumes.IsDeleting true file d → Refuses e d → Case places 0 d m next → IsFree m.core → IsNoHolder e
  volume-unheld d m next e (inl (inl h)) why step free = (ending-plain places m next e d h why step).1
  volume-unheld d m next e (inl (inr (row, answer, is))) why step free = plain-unheld places m next e _ answer d (volume-takes row.name file row.capacity row.access) free is why step
  volume-unheld d m next e (inr (inl (lines, answer, is))) why step free = plain-unheld places m next e _ answer d (drop-takes _) free is why step
  volume-unheld d m next e (inr (inr h)) why step free = removing-unheld places (for_volume file) d m next e h why step free

pub volume-reason : (trusted : Type 0) (places : Places) (file : ℕ) (events : List Event) (e : Refusal) (old new : Machine) → halt_by e ≡ None → IsFree old.core → IsSound (database old) → VolumeDeletion true file events (Err e)
    → Alone trusted places 0 events old new → IsAbsent (has_volume file (database old)) e ⊎ IsBounded old new e
volume-reason trusted places file events e old new mild free sound h f = elim h.came as (λ _. IsAbsent (has_volume file (database old)) e ⊎ IsBounded old new e) [
  | inl stopped ↦ inr (stopped-valid trusted places (volumes.IsDeleting true file) (volume-makes places file) (volume-free places file) (volume-full places file) (volume-unheld places file)
      events e old new mild free sound.0 h.only stopped f)
  | inr other ↦ (elim other as (λ _. IsAbsent (has_volume file (database old)) e ⊎ IsBounded old new e) [
    | inl missing ↦ inl (absent-volume trusted places file events e old new free (inl (ten-is e missing.0)) f sound h.place)
    | inr kept ↦ inl (absent-volume trusted places file events e old new free (kept-so e kept.0) f sound h.place)
  ])
]

-- ---- results

-- a process that is refused has its reason, or the run ended
pub reasoned : {A : Type 0} (numbers : List ℕ) (own : Own) (old new : Machine) (shape : A → Outcome) (answer : Result A Refusal) (said : Result Outcome Refusal) → said ≡ on_ok shape answer
    → ((e : Refusal) → answer ≡ Err e → halt_by e ≡ None → HasReason numbers own old new e) → IsReasoned numbers own old new said
reasoned numbers own old new shape (Ok x) said is h = subst (λ (r : Result Outcome Refusal). IsReasoned numbers own old new r) (sym is) tt
reasoned numbers own old new shape (Err e) said is h = subst (λ (r : Result Outcome Refusal). IsReasoned numbers own old new r) (sym is)
    (elim (halt_by e) as (λ o. halt_by e ≡ o → IsReasoned numbers own old new (Err e)) [
      | None ↦ λ mild. inl (h e refl mild)
      | Some how ↦ λ halts. inr (how, halts)
    ] refl)

-- so it is of one that makes copies
pub copy-reasoned : {A : Type 0} (places : Places) (numbers : List ℕ) (own : Own) (old : Machine) (shape : A → Outcome) (answer : Result A Refusal) (said : Result Outcome Refusal) → said ≡ on_ok shape answer
    → ((e : Refusal) → answer ≡ Err e → halt_by e ≡ None → HasCopyReason places numbers own old e) → IsCopyReasoned places numbers own old said
copy-reasoned places numbers own old shape (Ok x) said is h = subst (λ (r : Result Outcome Refusal). IsCopyReasoned places numbers own old r) (sym is) tt
copy-reasoned places numbers own old shape (Err e) said is h = subst (λ (r : Result Outcome Refusal). IsCopyReasoned places numbers own old r) (sym is)
    (elim (halt_by e) as (λ o. halt_by e ≡ o → IsCopyReasoned places numbers own old (Err e)) [
      | None ↦ λ mild. inl (h e refl mild)
      | Some how ↦ λ halts. inr (how, halts)
    ] refl)

pub copy-unreasoned : (places : Places) (numbers : List ℕ) (own : Own) (old : Machine) (said : Result Outcome Refusal) → ((e : Refusal) → HasCopyReason places numbers own old e) → IsCopyReasoned places numbers own old said
copy-unreasoned places numbers own old (Ok it) h = tt
copy-unreasoned places numbers own old (Err e) h = inl (h e)

-- where nothing else is asked
pub unreasoned : (numbers : List ℕ) (own : Own) (old new : Machine) (said : Result Outcome Refusal) → ((e : Refusal) → HasReason numbers own old new e) → IsReasoned numbers own old new said
unreasoned numbers own old new (Ok it) h = tt
unreasoned numbers own old new (Err e) h = inl (h e)

-- ---- what comes behind work

bounded-on : (old mid new : Machine) (e f : Refusal) → e ≡ f → Grows mid.core new.core → IsBounded old mid f → IsBounded old new e
bounded-on old mid new e f same grown (full, last) =
    let more : (inventory mid.core).number ≤ (inventory new.core).number = grown-number mid.core new.core grown in
    (same ∙ full, omega (arith, last, more))

module _ (trusted : Type 0) (places : Places) (it : Outcome) (e : Refusal) (old mid new : Machine) (mild : halt_by e ≡ None) (free : IsFree old.core) (valid : is_valid (database old) ≡ true) where
  reused-behind : (answer : Result ℕ Refusal) (came : Result Outcome Refusal) (xs ys : List Event) → VolumeReuse xs answer → came ≡ on_ok (λ number. with_reused number it) answer → Forcing came ys (Err e)
      → Alone trusted places 0 xs old mid → Alone trusted places 0 ys mid new → IsBounded old new e
  reused-behind (Ok number) came xs ys called is forcing f g = absurd (forced-done (with_reused number it) e ys (subst (λ (r : Result Outcome Refusal). Forcing r ys (Err e)) is forcing) mild)
  reused-behind (Err x) came xs ys called is forcing f g =
      let same : e ≡ x = forced-same x e ys (subst (λ (r : Result Outcome Refusal). Forcing r ys (Err e)) is forcing) mild in
      bounded-on old mid new e x same (alone-grows trusted places ys mid new g).1
      (reuse-reason trusted places xs x old mid (subst (λ (y : Refusal). halt_by y ≡ None) same mild) free valid called f)

-- where volumes are reused behind work that was done
pub reuses-reason : (trusted : Type 0) (places : Places) (said came result : Result Outcome Refusal) (xs ys : List Event) (old mid new : Machine) → ((it : Outcome) → said ≡ Ok it → (old.core.tickets ≡ []) × (old.core.image ≡ None)) → is_valid (database old) ≡ true
    → Reusing said xs came → Forcing came ys result → Alone trusted places 0 xs old mid → Alone trusted places 0 ys mid new → IsReused reuses said old new result
reuses-reason trusted places (Err x) came result xs ys old mid new free valid reusing forcing f g = tt
reuses-reason trusted places (Ok it) came (Ok other) xs ys old mid new free valid reusing forcing f g = tt
reuses-reason trusted places (Ok it) came (Err e) xs ys old mid new free valid (answer, called, is) forcing f g = elim (halt_by e) as (λ o. halt_by e ≡ o → IsReused reuses (Ok it) old new (Err e)) [
  | None ↦ λ mild. inl (reused-behind trusted places it e old mid new mild (free it refl) valid answer came xs ys called is forcing f g)
  | Some how ↦ λ halts. inr (how, halts)
] refl
