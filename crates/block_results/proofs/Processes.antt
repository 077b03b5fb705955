-- Processes that aren't refused in a block, but where a wait is: what stops one is met by one of its steps at a state that its line's turns pass.
use Rattle.std.proofs.Common.{◌≡◌, ◌⊎◌, inl, inr, ℕ, ◌+◌, ◌^◌, ◌≤◌, ◌==◌, ◌&&◌, not, is_some, nat_le, nat_lt, Bool, true, false, if◌then◌else◌, List, [], ◌∷◌, ◌++◌, map, Option, None, Some, Result, Ok, Err, refl, sym, ap, subst, ap₂, ◌∙◌, true≢false, arith}
use Rattle.std.proofs.lemmas.Bool.{le-leb, lt-ltb}
use Rattle.std.proofs.lemmas.Option.{same_Some}
use Rattle.std.specs.List.{AllByRecursion}
use Rattle.kinds.specs.Names.{is_same_name}
use Rattle.kinds.specs.Refusals.{bad_value, foremost, number_of, refusal_of, unless}
use Rattle.kinds.specs.declared.refusal.Holder.{Holder}
use Rattle.kinds.specs.declared.refusal.Holder.TheVariants as holder
use Rattle.kinds.specs.declared.refusal.Refusal.{Refusal}
use Rattle.kinds.specs.declared.refusal.Refusal.TheVariants as refused
use Rattle.kinds.specs.declared.segment.Digest.{Digest}
use Rattle.entries.specs.change_items.declared.lists.NamedVersions.{NamedVersions}
use Rattle.entries.specs.declared.change.Change.{Change}
use Rattle.entries.specs.declared.change.Change.TheVariants as change
use Rattle.inventory_rows.specs.Items.{count_items, most_items}
use Rattle.inventory_rows.specs.Search.{pool, version}
use Rattle.inventory_rows.specs.State.{Inv}
use Rattle.inventory_rows.specs.version_groups.Entries.{on_ok}
use Rattle.inventory_rules.specs.Backups.{backup_at, is_unfinished}
use Rattle.inventory_rules.specs.Common.{full_at}
use Rattle.inventory_rules.specs.Transactions.{causes, effect, refused as refused_by, sizes_refused}
use Rattle.inventory_rules.specs.Valid.{is_valid}
use Rattle.inventory_laws.proofs.BackupCounts.{delete_takes, end_takes}
use Rattle.inventory_laws.proofs.CopyCounts.{drops_take}
use Rattle.inventory_laws.proofs.Facts.{facts_of}
use Rattle.inventory_laws.proofs.Removals.{discard_all_takes, expire_takes}
use Rattle.inventory_work.specs.Copies.{has_pool, has_volume, missing, missing_in}
use Rattle.inventory_work.specs.declared.lines.MissingLine.{MissingLine}
use Rattle.inventory_answers.specs.Answered.{answered, rows_of}
use Rattle.inventory_answers.specs.Stores.{backup_lines, pool_lines}
use Rattle.inventory_answers.specs.declared.query.Query.{Query}
use Rattle.inventory_answers.specs.declared.query.Query.TheVariants as query
use Rattle.inventory_answers.specs.declared.reply.Answer.{Answer}
use Rattle.inventory_answers.specs.declared.reply.Rows.{Rows}
use Rattle.inventory_answers.specs.declared.reply.Rows.TheVariants as rows
use Rattle.space.specs.declared.aim.Aim.TheVariants as aim
use Rattle.steps.specs.declared.asked.Asked.{Asked}
use Rattle.steps.specs.declared.asked.Asked.TheVariants.{Plain}
use Rattle.steps.specs.declared.image.ImageKind.{ImageKind}
use Rattle.steps.specs.declared.image.ImageKind.TheVariants as image
use Rattle.steps.specs.declared.image.ImageReply.{ImageReply}
use Rattle.steps.specs.Events.{Deed, Event, has_number, refusal}
use Rattle.steps.specs.Events.Deed.{Ask, Commit, Force, Image, OpenCopy, ReadPiece}
use Rattle.machine.specs.Causes.{change_illegal, change_refused, has_copy_in, is_copy_pool, is_plain, most_bytes, read_refused}
use Rattle.machine.specs.Changes.{filled}
use Rattle.machine.specs.Machine.{Places, ended, in_progress, written_by}
use Rattle.machine.specs.Pieces.{RoseAt}
use Rattle.machine.specs.State.{Image as Picture, Machine, inventory, own_image, sight}
use Rattle.machine.proofs.Elsewhere.{append-all, ended-all, foremost-all, unless-all}
use Rattle.line_results.specs.command_steps.Answers.{halt_by}
use Rattle.line_results.specs.copy_attempts.Attempts.{is_stopping}
use Rattle.line_results.specs.copy_attempts.Outcomes.{MetBy}
use Rattle.line_results.specs.copy_pools.Backups as pools
use Rattle.line_results.specs.copy_pools.Backups.{Backup, are_kinds, pool_kind}
use Rattle.line_results.specs.copy_runs.Ends.{AreAsking, IsAsking, IsEnding, IsStopped}
use Rattle.line_results.specs.db_backup.Backups.{DatabaseBackup, Follows, FollowsNewest, IncrementalBackup, IsFollowing}
use Rattle.line_results.specs.db_backup.Deleting.{HistoryDeletion, IsDeleting}
use Rattle.line_results.specs.db_backup.Listing.{due_files, newest_file}
use Rattle.line_results.specs.db_backup.Taking.{Backs, IsOf, kind_of, since_numbers, whole_numbers}
use Rattle.line_results.specs.expiration.Expiring.{Expiration, IsExpiring, named}
use Rattle.line_results.specs.expiration.Expiring as expiring
use Rattle.line_results.specs.volume_audits.Auditing.{IsAuditing, VolumeAudit}
use Rattle.line_results.specs.Resting.{database}
use Rattle.line_results.specs.Sound.{HasSoundRows}
use Rattle.line_results.proofs.Asked.{is_log}
use Rattle.line_results.proofs.Bounds.{IsNoHolder, Named, Takes, delete-takes, discard-takes, drop-takes, expire-takes, listed-all, refused-all, version-all}
use Rattle.line_results.proofs.CopyReason.{no-copy-kind, no-kinds}
use Rattle.line_results.proofs.of_copy_pools.Missing.{kind-is}
use Rattle.line_results.proofs.PutHomes.{ok-of}
use Rattle.line_results.proofs.Reasons.{stopping-mild}
use Rattle.line_results.proofs.Unfound.{IsFound, answered-found}
use Rattle.block_results.specs.Processes.{HasNumbers, IsKnown, IsWithin, MayAudit, MayBackUpDatabase, MayCopy, MayFollow}
use Rattle.block_results.specs.Refusing.{Failed, HasNoPlace, IsRefusedFor, IsUnended, bounds, held_reasons, own_reasons}
use Rattle.block_results.proofs.Attempting.{attempt-full, further-there, none-first, none-full}
use Rattle.block_results.proofs.Following.{IsUnfound, backs-missing}
use Rattle.block_results.proofs.Mild.{not-memory}

-- ---- refusals

-- others hold what it needs
abbrev pub IsBusy : Refusal → Type 0
IsBusy e = (h : Holder) × (e ≡ refused.Busy h)

-- What stops a process where the run goes on: a bound is reached, others hold what it needs, or a file can't be written.
abbrev pub Stops : Refusal → Type 0
Stops e = (e ≡ refused.InventoryFull) ⊎ IsBusy e ⊎ ((file : ℕ) × (e ≡ refused.WriteFault file))

-- no such refusal
abbrev pub IsPlain : Refusal → Type 0
IsPlain e = (e ≡ refused.InventoryFull → ⊥) × IsNoHolder e × ((file : ℕ) → e ≡ refused.WriteFault file → ⊥)

plain-not : (e : Refusal) → Stops e → IsPlain e → ⊥
plain-not e (inl full) p = p.0 full
plain-not e (inr (inl (h, is))) p = p.1 h is
plain-not e (inr (inr (file, is))) p = p.2 file is

named-plain : Named IsPlain
named-plain = record {
  bad = (λ is. cc, λ h is. cc, λ file is. cc);
  missing = (λ is. cc, λ h is. cc, λ file is. cc);
  used = λ by. (λ is. cc, λ h is. cc, λ file is. cc);
  gone = λ n. (λ is. cc, λ h is. cc, λ file is. cc);
  stale = λ n. (λ is. cc, λ h is. cc, λ file is. cc);
  early = λ file day. (λ is. cc, λ h is. cc, λ other is. cc);
}

ended-plain : (m : Machine) → AllByRecursion IsPlain (ended m)
ended-plain m = ended-all IsPlain (λ is. cc, λ h is. cc, λ file is. cc) (λ log count. (λ is. cc, λ h is. cc, λ file is. cc)) m

pub stopping-stops : (e : Refusal) → is_stopping e ≡ true → halt_by e ≡ None → Stops e
stopping-stops e stops mild = elim (stopping-mild e stops mild) as (λ _. Stops e) [
  | inl full ↦ inl full
  | inr busy ↦ inr (inl busy)
]

whole-stops : (e : Refusal) → has_number whole_numbers e ≡ true → halt_by e ≡ None → Stops e
whole-stops refused.InventoryFull h mild = inl refl
whole-stops (refused.Busy x) h mild = inr (inl (x, refl))
whole-stops (refused.WriteFault file) h mild = inr (inr (file, refl))
whole-stops (refused.LogFault file count) h mild = absurd cc
whole-stops refused.RunFull h mild = absurd cc
whole-stops refused.Memory h mild = absurd cc
whole-stops e h mild = absurd cc

ending-full : (e : Refusal) → expiring.is_ending e ≡ true → halt_by e ≡ None → e ≡ refused.InventoryFull
ending-full refused.InventoryFull h mild = refl
ending-full (refused.LogFault file count) h mild = absurd cc
ending-full refused.RunFull h mild = absurd cc
ending-full refused.Memory h mild = absurd cc
ending-full e h mild = absurd cc

-- ---- a step

module _ (places : Places) (actor : ℕ) (before after : Machine) (e : Refusal) (stops : Stops e) (unrisen : (file : ℕ) → RoseAt before.counts after.counts file → ⊥) where
  failed-not : (deed : Deed) → Stops e → (IsUnended actor deed before → ⊥) → Failed actor deed before after e → ⊥
  failed-not deed (inl full) unended f = unended (subst (λ (x : Refusal). Failed actor deed before after x) full f)
  failed-not deed (inr (inl (h, is))) unended f = subst (λ (x : Refusal). Failed actor deed before after x) is f
  failed-not deed (inr (inr (file, is))) unended f = unrisen file (subst (λ (x : Refusal). Failed actor deed before after x) is f)

  -- A step that its actor sees no reason against, of which no bound is reached, is refused so for what others hold.
  pub stopped-by : (deed : Deed) → (foremost (own_reasons actor deed (sight actor before.core)) ≡ Some e → ⊥) → (HasNoPlace places actor deed before e → ⊥) → bounds deed before.core ≡ [] → (IsUnended actor deed before → ⊥)
      → IsRefusedFor places actor deed before after e → foremost (held_reasons actor deed before.core) ≡ Some e
  stopped-by deed own place bound unended (inl h) = absurd (own h)
  stopped-by deed own place bound unended (inr (inl h)) = absurd (place h)
  stopped-by deed own place bound unended (inr (inr (inl h))) = h
  stopped-by deed own place bound unended (inr (inr (inr (inl h)))) = absurd (none-first e (bounds deed before.core) bound h)
  stopped-by deed own place bound unended (inr (inr (inr (inr (inl h))))) = absurd (plain-not e stops (foremost-all IsPlain (ended before) (ended-plain before) e h))
  stopped-by deed own place bound unended (inr (inr (inr (inr (inr (inl h)))))) = absurd (failed-not deed stops unended h)
  stopped-by deed own place bound unended (inr (inr (inr (inr (inr (inr h)))))) = absurd (plain-not e stops (subst IsPlain (sym h) (λ is. cc, λ x is. cc, λ file is. cc)))

  not-own : (list : List Refusal) → AllByRecursion IsPlain list → foremost list ≡ Some e → ⊥
  not-own list all h = plain-not e stops (foremost-all IsPlain list all e h)

  -- a question, a force
  found-plain : {A : Type 0} (r : Result A Refusal) → IsFound r → AllByRecursion IsPlain (refusal_of r)
  found-plain (Ok x) h = tt
  found-plain (Err f) h = (subst IsPlain (sym h) named-plain.missing, tt)

  ask-never : (q : Query) (answer : Result Answer Refusal) → IsRefusedFor places actor (Ask q answer) before after e → ⊥
  ask-never q answer for =
      none-first e [] refl
      (stopped-by (Ask q answer) (not-own (refusal_of (answered q (inventory before.core))) (found-plain (answered q (inventory before.core)) (answered-found q (inventory before.core)))) (λ h. h) refl (λ h. h) for)

  force-never : (answer : Result ℕ Refusal) → IsRefusedFor places actor (Force answer) before after e → ⊥
  force-never answer for = none-first e [] refl (stopped-by (Force answer) (none-first e [] refl) (λ h. h) refl (λ h. h) for)

  pub ending-never : (d : Deed) → IsEnding d → IsRefusedFor places actor d before after e → ⊥
  ending-never d (inl (q, answer, is)) for = ask-never q answer (subst (λ (x : Deed). IsRefusedFor places actor x before after e) is for)
  ending-never d (inr (answer, is)) for = force-never answer (subst (λ (x : Deed). IsRefusedFor places actor x before after e) is for)

  -- a piece that is read
  pub read-never : (object : ℕ) (kept : Digest) (from offset wanted : ℕ) (answer : Result (List ℕ) Refusal) → IsRefusedFor places actor (ReadPiece object kept from offset wanted answer) before after e → ⊥
  read-never object kept from offset wanted answer for =
      none-first e [] refl
      (stopped-by (ReadPiece object kept from offset wanted answer)
      (not-own (read_refused object kept from offset wanted (sight actor before.core))
      (append-all IsPlain (unless (nat_le wanted most_bytes) bad_value) _ (unless-all IsPlain (nat_le wanted most_bytes) bad_value named-plain.bad)
      (version-all IsPlain named-plain (sight actor before.core).journal object _
      (λ w. append-all IsPlain (unless (has_copy_in from w) refused.NotFound) _ (unless-all IsPlain (has_copy_in from w) refused.NotFound named-plain.missing)
      (append-all IsPlain (unless (nat_le offset w.size) bad_value) _ (unless-all IsPlain (nat_le offset w.size) bad_value named-plain.bad)
      (unless-all IsPlain (is_same_name w.digest.0 kept.0) (refused.DigestDiffers w.digest kept) (λ is. cc, λ h is. cc, λ file is. cc)))) (version object (inventory before.core))))) (λ h. h) refl (λ h. h) for)

  -- a transaction that brings no items
  none-plain : (b : Bool) (x : Refusal) → b ≡ true → AllByRecursion IsPlain (unless b x)
  none-plain true x h = tt
  none-plain false x h = absurd cc

  sizes-plain : (w : Change) → IsWithin before → count_items (effect w (inventory before.core)) ≤ count_items (inventory before.core) → AllByRecursion IsPlain (sizes_refused w (inventory before.core))
  sizes-plain w within less =
      let v : Inv = inventory before.core in
      let few : count_items v ≤ most_items = within.0 in
      append-all IsPlain (unless (nat_le (count_items (effect w v)) most_items) refused.InventoryFull) (full_at v.number (2 ^ 62))
      (none-plain (nat_le (count_items (effect w v)) most_items) refused.InventoryFull (le-leb (count_items (effect w v)) most_items (omega (arith, less, few))))
      (none-plain (nat_lt (v.number + 1) (2 ^ 62)) refused.InventoryFull (lt-ltb (v.number + 1) (2 ^ 62) within.1))

  change-plain : (w : Change) → AllByRecursion IsPlain (causes (sight actor before.core).journal w (inventory before.core)) → AllByRecursion IsPlain (sizes_refused w (inventory before.core))
      → AllByRecursion IsPlain (change_refused actor (Some w) (sight actor before.core))
  change-plain w own sizes =
      append-all IsPlain (change_illegal w (sight actor before.core)) _
      (listed-all IsPlain (refused_by (sight actor before.core).journal w (inventory before.core))
      (λ x is. refused-all IsPlain (sight actor before.core).journal w (inventory before.core) x named-plain.bad own sizes is)) (unless-all IsPlain _ refused.RecordFull (λ is. cc, λ h is. cc, λ file is. cc))

  pub take-held : (w : Change) (answer : Result ℕ Refusal) → Takes w → IsWithin before → count_items (effect w (inventory before.core)) ≤ count_items (inventory before.core) → IsRefusedFor places actor (Commit (Plain w) [] answer) before after e
      → foremost (held_reasons actor (Commit (Plain w) [] answer) before.core) ≡ Some e
  take-held w answer t within less for =
      stopped-by (Commit (Plain w) [] answer)
      (not-own (unless (is_plain w) bad_value ++ change_refused actor (Some (filled before.core.next_file (inventory before.core) w)) (sight actor before.core))
      (append-all IsPlain (unless (is_plain w) bad_value) _ (unless-all IsPlain (is_plain w) bad_value named-plain.bad)
      (subst (λ (x : Change). AllByRecursion IsPlain (change_refused actor (Some x) (sight actor before.core))) (sym (t.fills before.core.next_file (inventory before.core)))
      (change-plain w (t.own IsPlain named-plain (sight actor before.core).journal (inventory before.core)) (sizes-plain w within less))))) (λ h. h) refl (λ h. h) for

  -- a backup is taken off the list, but while it is written
  written-busy : (file : ℕ) (o : Option Picture) → foremost (written_by file o) ≡ Some e → IsBusy e
  written-busy file None h = absurd cc
  written-busy file (Some i) h = busy-if (not (i.file == file)) (holder.Image i.actor) h where
    busy-if : (b : Bool) (x : Holder) → foremost (unless b (refused.Busy x)) ≡ Some e → IsBusy e
    busy-if true x h = absurd cc
    busy-if false x h = (x, sym (same_Some (refused.Busy x) e h))

  pub delete-busy : (file : ℕ) (answer : Result ℕ Refusal) → IsWithin before → IsRefusedFor places actor (Commit (Plain (change.DbDelete file)) [] answer) before after e → IsBusy e
  delete-busy file answer within for = written-busy file before.core.image (take-held (change.DbDelete file) answer (delete-takes file) within (delete_takes file (inventory before.core)) for)

  -- ---- kinds of steps

  abbrev For : Deed → Type 0
  For d = IsRefusedFor places actor d before after e

  pub expiring-never : (d : Deed) → IsExpiring d → IsWithin before → For d → ⊥
  expiring-never (Ask q answer) h within for = ask-never q answer for
  expiring-never (Force answer) h within for = force-never answer for
  expiring-never (Commit asked tickets answer) (filespace, lines, is, none) within for =
      let c : NamedVersions = record { filespace = filespace; items = map named lines } in
      none-first e [] refl
      (take-held (change.Expire c) answer (expire-takes c) within (expire_takes c (inventory before.core))
      (subst (λ (ts : List ℕ). For (Commit (Plain (change.Expire c)) ts answer)) none (subst (λ (a : Asked). For (Commit a tickets answer)) is for)))
  expiring-never d h within for = absurd h

  pub deleting-busy : (files : List ℕ) (d : Deed) → IsDeleting files d → IsWithin before → For d → IsBusy e
  deleting-busy files d (inl h) within for = absurd (ending-never d h for)
  deleting-busy files d (inr (file, answer, among, is)) within for = delete-busy file answer within (subst For is for)

  pub auditing-never : (fix : Bool) (file : ℕ) (d : Deed) → IsAuditing fix file d → is_valid (inventory before.core) ≡ true → MayAudit fix file before → For d → ⊥
  auditing-never fix file d (inl h) valid may for = ending-never d h for
  auditing-never fix file d (inr (inl (line, offset, wanted, answer, is))) valid may for = read-never line.object line.digest line.pool offset wanted answer (subst For is for)
  auditing-never fix file d (inr (inr (asked, (line, found, answer, inl is)))) valid may for =
      none-first e [] refl (take-held _ answer (drop-takes _) (may.1 asked) (drops_take _ (inventory before.core) (facts_of (inventory before.core) valid).objects_apart) (subst For is for))
  auditing-never fix file d (inr (inr (asked, (line, found, answer, inr is)))) valid may for =
      none-first e [] refl (take-held _ answer (discard-takes _) (may.1 asked) (discard_all_takes _ (inventory before.core)) (subst For is for))

  -- a backup of the database
  progress-busy : (i : Option Picture) → foremost (in_progress i) ≡ Some e → IsBusy e
  progress-busy None h = absurd cc
  progress-busy (Some i) h = (holder.Image i.actor, sym (same_Some (refused.Busy (holder.Image i.actor)) e h))

  none-some : (o : Option Refusal) → o ≡ None → o ≡ Some e → ⊥
  none-some o none some = (let odd : None ≡ Some e = sym none ∙ some in cc)

  begin-busy : (from : Option ℕ) (answer : Result ImageReply Refusal) → MayBackUpDatabase actor (kind_of from) before → For (Image (kind_of from) answer) → IsBusy e
  begin-busy None answer may for = progress-busy before.core.image (stopped-by (Image image.Backup answer) (none-some _ may.0) (λ h. h) refl (λ h. h) for)
  begin-busy (Some file) answer may for = progress-busy before.core.image (stopped-by (Image (image.Since file) answer) (none-some _ may.0) (λ h. h) refl (λ h. h) for)

  end-not : IsWithin before → IsUnended actor (Image image.Next (Err e)) before → ⊥
  end-not within (i, own, is, full) =
      let v : Inv = inventory before.core in
      (refused-all IsPlain (sight actor before.core).journal (change.DbEnd i.file) v refused.InventoryFull named-plain.bad (unless-all IsPlain (is_unfinished (backup_at i.file v)) refused.NotFound named-plain.missing)
      (sizes-plain (change.DbEnd i.file) within (end_takes i.file v)) full).0 refl

  next-never : (answer : Result ImageReply Refusal) → IsWithin before → For (Image image.Next answer) → ⊥
  next-never answer within for =
      none-first e [] refl
      (stopped-by (Image image.Next answer) (not-own (unless (is_some (own_image actor before.core.image)) refused.NotFound) (unless-all IsPlain (is_some (own_image actor before.core.image)) refused.NotFound named-plain.missing)) (λ h. h) refl
      (λ h. end-not within h) for)

  pub taking-busy : (from : Option ℕ) (d : Deed) → IsOf (kind_of from) d → MayBackUpDatabase actor (kind_of from) before → For d → IsBusy e
  taking-busy from (Image other answer) (inl is) may for = begin-busy from answer may (subst (λ (k : ImageKind). For (Image k answer)) is for)
  taking-busy from (Image other answer) (inr is) may for = absurd (next-never answer may.1 (subst (λ (k : ImageKind). For (Image k answer)) is for))
  taking-busy from (Commit asked tickets answer) (file, is, none) may for =
      delete-busy file answer may.1 (subst (λ (ts : List ℕ). For (Commit (Plain (change.DbDelete file)) ts answer)) none (subst (λ (a : Asked). For (Commit a tickets answer)) is for))
  taking-busy from (Force answer) h may for = absurd (force-never answer for)
  taking-busy from d h may for = absurd h

-- ---- what isn't there

pub missing-is : (e : Refusal) → (number_of e == 10) ≡ true → e ≡ refused.NotFound
missing-is refused.NotFound h = refl
missing-is e h = absurd cc

module _ (places : Places) (actor : ℕ) (before after : Machine) where
  -- a step isn't refused as something isn't there, where its actor sees that it is
  pub missing-never : (d : Deed) → (foremost (own_reasons actor d (sight actor before.core)) ≡ Some refused.NotFound → ⊥) → (HasNoPlace places actor d before refused.NotFound → ⊥) → (foremost (held_reasons actor d before.core) ≡ Some refused.NotFound → ⊥)
      → bounds d before.core ≡ [] → IsRefusedFor places actor d before after refused.NotFound → ⊥
  missing-never d own place held bound (inl h) = own h
  missing-never d own place held bound (inr (inl h)) = place h
  missing-never d own place held bound (inr (inr (inl h))) = held h
  missing-never d own place held bound (inr (inr (inr (inl h)))) = none-first refused.NotFound (bounds d before.core) bound h
  missing-never d own place held bound (inr (inr (inr (inr (inl h))))) =
      foremost-all (λ x. x ≡ refused.NotFound → ⊥) (ended before) (ended-all (λ x. x ≡ refused.NotFound → ⊥) (λ is. cc) (λ log count is. cc) before) refused.NotFound h refl
  missing-never d own place held bound (inr (inr (inr (inr (inr (inl h)))))) = h
  missing-never d own place held bound (inr (inr (inr (inr (inr (inr h)))))) = cc

  -- what lies on a volume that is there is told
  pub told-there : {A : Type 0} (there : Bool) (x : A) (refusals : Result A Refusal → List Refusal) → refusals (Ok x) ≡ [] → there ≡ true → foremost (refusals (if there then Ok x else Err refused.NotFound)) ≡ Some refused.NotFound → ⊥
  told-there true x refusals none is h = none-first refused.NotFound (refusals (Ok x)) none h
  told-there false x refusals none is h = absurd cc

  pub volume-there : (file : ℕ) (answer : Result Answer Refusal) → has_volume file (database before) ≡ true → IsRefusedFor places actor (Ask (query.OnVolume file) answer) before after refused.NotFound → ⊥
  volume-there file answer there for =
      let v : Inv = inventory before.core in
      let shape : Rows → Answer = (λ it. record { n = v.number; today = v.today; rows = it }) in
      missing-never (Ask (query.OnVolume file) answer) (λ h. told-there (has_volume file v) _ (λ r. refusal_of (on_ok shape (on_ok rows.OnVolume r))) refl there h) (λ h. h) (λ h. cc) refl for

  -- nor is the beginning of a backup that the database has no reason against, nor a force
  progress-there : (i : Option Picture) → foremost (in_progress i) ≡ Some refused.NotFound → ⊥
  progress-there None h = cc
  progress-there (Some i) h = cc

  pub follow-there : (file : ℕ) (d : Deed) → IsUnfound (image.Since file) d → MayBackUpDatabase actor (image.Since file) before → IsRefusedFor places actor d before after refused.NotFound → ⊥
  follow-there file d (inl is) may for =
      missing-never (Image (image.Since file) (Err refused.NotFound)) (λ h. (let odd : None ≡ Some refused.NotFound = sym may.0 ∙ h in cc)) (λ h. h) (progress-there before.core.image) refl
      (subst (λ (x : Deed). IsRefusedFor places actor x before after refused.NotFound) is for)
  follow-there file d (inr is) may for =
      missing-never (Force (Err refused.NotFound)) (λ h. cc) (λ h. h) (λ h. cc) refl (subst (λ (x : Deed). IsRefusedFor places actor x before after refused.NotFound) is for)

-- ---- processes

module _ (places : Places) (actor : ℕ) (Is : Machine → Type 0) where
  -- a step that stood at one of the states, whose rows it was answered, and made no count of faults rise; where it was refused, by which no run ends, these rows are sound
  pub record Stood (Q : Deed → Type 0) : Type 0 where
    pub deed : Deed
    pub is : Q deed
    pub before : Machine
    pub after : Machine
    pub passes : Is before
    pub for : (e : Refusal) → refusal deed ≡ Some e → IsRefusedFor places actor deed before after e
    pub answers : (q : Query) (a : Answer) → is_log q ≡ false → deed ≡ Ask q (Ok a) → rows_of q (database before) ≡ Ok a.rows
    pub unrisen : (file : ℕ) → RoseAt before.counts after.counts file → ⊥
    pub sound : (e : Refusal) → refusal deed ≡ Some e → halt_by e ≡ None → HasSoundRows (database before)

  -- Of steps that are each of one kind, one that is of another kind too stood at one of the states.
  abbrev pub AllStood : List Event → Type 1
  AllStood events = (K Q : Deed → Type 0) → AllByRecursion (λ x. K x.deed) events → MetBy Q events → Stood (λ d. Q d × K d)

  module _ (events : List Event) (stood : AllStood events) (e : Refusal) (mild : halt_by e ≡ None) where
    abbrev Refuses : Deed → Type 0
    Refuses d = refusal d ≡ Some e

    met-so : expiring.Met e events → MetBy Refuses events
    met-so h = met-in events h where
      met-in : (list : List Event) → expiring.Met e list → MetBy Refuses list
      met-in [] h = h
      met-in (x ∷ list) (inl h) = inl h
      met-in (x ∷ list) (inr h) = inr (met-in list h)

    pub unexpired : ((m : Machine) → Is m → IsWithin m) → Expiration events (Err e) → ⊥
    unexpired may h = elim h.cause as (λ _. ⊥) [
      | inl memory ↦ not-memory e mild memory
      | inr met ↦ (let s = stood IsExpiring Refuses h.only (met-so met.1) in
          expiring-never places actor s.before s.after e (inl (ending-full e met.0 mild)) s.unrisen s.deed s.is.1 (may s.before s.passes) (s.for e s.is.0))
    ]

    pub undeleted : (to : ℕ) → ((m : Machine) → Is m → IsWithin m) → HistoryDeletion to events (Err e) → IsBusy e
    undeleted to may h = elim h.came as (λ _. IsBusy e) [
      | inl memory ↦ absurd (not-memory e mild memory)
      | inr met ↦ (let s = stood (IsDeleting (due_files to h.lines)) Refuses h.only met.1 in
          deleting-busy places actor s.before s.after e (stopping-stops e met.0 mild) s.unrisen (due_files to h.lines) s.deed s.is.1 (may s.before s.passes) (s.for e s.is.0))
    ]

    pub unaudited : (fix : Bool) (file : ℕ) → ((m : Machine) → Is m → MayAudit fix file m) → VolumeAudit fix file events (Err e) → ⊥
    unaudited fix file may h = elim h.came as (λ _. ⊥) [
      | inl (inl memory) ↦ not-memory e mild memory
      | inl (inr met) ↦ (let s = stood (IsAuditing fix file) Refuses h.only met.1 in
          auditing-never places actor s.before s.after e (stopping-stops e met.0 mild) s.unrisen fix file s.deed s.is.1 (s.sound e s.is.0 mild).valid (may s.before s.passes) (s.for e s.is.0))
      | inr missing ↦ (let s = stood (IsAuditing fix file) (λ d. d ≡ Ask (query.OnVolume file) (Err e)) h.only missing.1 in
          let same : e ≡ refused.NotFound = missing-is e missing.0 in
          volume-there places actor s.before s.after file (Err e) (may s.before s.passes).0
          (subst (λ (d : Deed). IsRefusedFor places actor d s.before s.after refused.NotFound) s.is.0 (subst (λ (x : Refusal). IsRefusedFor places actor s.deed s.before s.after x) same (s.for e (ap refusal s.is.0)))))
    ]

    -- a backup of the database
    unbacked : (from : Option ℕ) (own : List Event) → AllStood own → has_number whole_numbers e ≡ true → ((m : Machine) → Is m → MayBackUpDatabase actor (kind_of from) m) → AllByRecursion (λ x. IsOf (kind_of from) x.deed) own → MetBy Refuses own
        → IsBusy e
    unbacked from own stood_there listed may only met =
        let s = stood_there (IsOf (kind_of from)) Refuses only met in
        taking-busy places actor s.before s.after e (whole-stops e listed mild) s.unrisen from s.deed s.is.1 (may s.before s.passes) (s.for e s.is.0)

    pub unbacked-whole : ((m : Machine) → Is m → MayBackUpDatabase actor image.Backup m) → DatabaseBackup None events (Err e) → IsBusy e
    unbacked-whole may h = elim h.cause as (λ _. IsBusy e) [
      | inl memory ↦ absurd (not-memory e mild memory)
      | inr met ↦ unbacked None events stood met.0 may h.only met.1
    ]

    -- one that follows another
    since-or : (x : Refusal) → has_number since_numbers x ≡ true → (has_number whole_numbers x ≡ true) ⊎ (x ≡ refused.NotFound)
    since-or refused.NotFound h = inr refl
    since-or x h = inl h

    unfollowed-from : (file : ℕ) (own : List Event) → AllStood own → ((m : Machine) → Is m → MayBackUpDatabase actor (image.Since file) m) → DatabaseBackup (Some file) own (Err e) → IsBusy e
    unfollowed-from file own stood_there may h = elim h.cause as (λ _. IsBusy e) [
      | inl memory ↦ absurd (not-memory e mild memory)
      | inr met ↦ elim (since-or e met.0) as (λ _. IsBusy e) [
        | inl whole ↦ unbacked (Some file) own stood_there whole may h.only met.1
        | inr missing ↦ (let s = stood_there (IsOf (image.Since file)) (IsUnfound (image.Since file)) h.only
            (backs-missing (image.Since file) own (subst (λ (x : Refusal). Backs (image.Since file) own (Err x)) missing h.order)) in
            absurd (follow-there places actor s.before s.after file s.deed s.is.0 (may s.before s.passes) (s.for refused.NotFound (unfound-refuses file s.deed s.is.0))))
      ]
    ] where
      unfound-refuses : (file : ℕ) (d : Deed) → IsUnfound (image.Since file) d → refusal d ≡ Some refused.NotFound
      unfound-refuses file d (inl is) = ap refusal is
      unfound-refuses file d (inr is) = ap refusal is

    pub unfollowed : ((xs ys : List Event) → events ≡ xs ++ ys → AllStood ys)
        → MayFollow Is actor → IncrementalBackup events (Err e) → IsBusy e
    unfollowed later may h = by-order h.order where
      unasked-not : IsStopped events e → AreAsking events → ⊥
      unasked-not (inl memory) asks = not-memory e mild memory
      unasked-not (inr met) asks =
          let s = stood IsAsking Refuses asks met.1 in
          ending-never places actor s.before s.after e (stopping-stops e met.0 mild) s.unrisen s.deed (inl s.is.1) (s.for e s.is.0)

      by-order : FollowsNewest events (Err e) → IsBusy e
      by-order (inl (f, unanswered, is)) = (let same : f ≡ e = cc in absurd (unasked-not (subst (IsStopped events) same unanswered.0) unanswered.1))
      by-order (inr (lines, (xs, ys, cut, (n, answer, one, has), follows))) =
          let met : MetBy (λ d. d ≡ Ask query.History (Ok answer)) events = subst (λ (l : List Event). MetBy (λ d. d ≡ Ask query.History (Ok answer)) l) (sym (cut ∙ ap (λ (l : List Event). l ++ ys) one)) (inl refl) in
          let at = stood IsFollowing (λ d. d ≡ Ask query.History (Ok answer)) h.only met in
          let there = may at.before at.passes in
          let both : ◌≡◌ {A = Result Rows Refusal} (Ok (rows.History (backup_lines (database at.before).backups))) (Ok (rows.History lines)) = at.answers query.History answer refl at.is.0 ∙ ap (λ (r : Rows). Ok r) has in
          let same : lines ≡ backup_lines (database at.before).backups = cc in
          let newest : newest_file lines ≡ Some there.0 = ap newest_file same ∙ there.1 in
          unfollowed-from there.0 ys (later xs ys cut) there.2 (subst (λ (o : Option ℕ). Follows o ys (Err e)) newest follows)

    -- ---- further copies

    backup-full : (copy : ℕ) (d : Deed) (before after : Machine) → ((file : ℕ) → RoseAt before.counts after.counts file → ⊥) → pools.IsBackup copy d → HasNumbers places actor (aim.Copy copy) 0 before
        → IsRefusedFor places actor d before after refused.InventoryFull → ⊥
    backup-full copy d before after unrisen (inl h) free for = ending-never places actor before after refused.InventoryFull (inl refl) unrisen d h for
    backup-full copy d before after unrisen (inr (object, h)) free for = attempt-full places actor before after object (aim.Copy copy) 0 d h free for

    abbrev missing-lines-in : Rows → List MissingLine
    missing-lines-in (rows.Missing lines) = lines
    missing-lines-in _ = []

    module _ (primary copy : ℕ) (may : MayCopy places Is actor primary copy) (did : Backup primary copy events (Err e)) where
      -- the pools are of their kinds
      there-so : (b : Bool) (m : Machine) → Is m → (b ≡ false → are_kinds (pool_kind primary (database m)) (pool_kind copy (database m)) ≡ false) → b ≡ true
      there-so true m at other = refl
      there-so false m at other = absurd (true≢false (sym (may.0 m at).0 ∙ other refl))

      pools-there : (m : Machine) → Is m → (has_pool primary (database m) && has_pool copy (database m)) ≡ true
      pools-there m at = there-so (has_pool primary (database m) && has_pool copy (database m)) m at (no-kinds (pool primary (database m)) (pool copy (database m)))

      copies-there : (m : Machine) → Is m → is_copy_pool copy (sight actor m.core) ≡ true
      copies-there m at = there-so (is_copy_pool copy (sight actor m.core)) m at (no-copy-kind (pool_kind primary (database m)) (pool copy (database m)))

      unlisted-not : MetBy (λ d. d ≡ Ask (query.Missing primary copy) (Err refused.NotFound)) events → ⊥
      unlisted-not met =
          let s = stood (pools.IsBackup copy) (λ d. d ≡ Ask (query.Missing primary copy) (Err refused.NotFound)) did.only met in
          let v : Inv = database s.before in
          let shape : Rows → Answer = (λ it. record { n = v.number; today = v.today; rows = it }) in
          missing-never places actor s.before s.after (Ask (query.Missing primary copy) (Err refused.NotFound))
          (λ h. told-there places actor s.before s.after (has_pool primary v && has_pool copy v) (missing_in primary copy v) (λ r. refusal_of (on_ok shape (on_ok rows.Missing r))) refl (pools-there s.before s.passes) h) (λ h. h) (λ h. cc) refl
          (subst (λ (d : Deed). IsRefusedFor places actor d s.before s.after refused.NotFound) s.is.0 (s.for refused.NotFound (ap refusal s.is.0)))

      otherwise-not : MetBy (pools.TellsOtherwise primary copy) events → ⊥
      otherwise-not met =
          let s = stood (pools.IsBackup copy) (pools.TellsOtherwise primary copy) did.only met in
          let w = s.is.0 in
          let v : Inv = database s.before in
          let both : ◌≡◌ {A = Result Rows Refusal} (Ok (rows.Pools (pool_lines None v.stores))) (Ok (rows.Pools w.1)) = s.answers (query.Pools None) w.0 refl w.2 ∙ ap (λ (r : Rows). Ok r) w.3 in
          let lines : w.1 ≡ pool_lines None v.stores = cc in
          true≢false (sym (may.0 s.before s.passes).0 ∙ sym (ap₂ are_kinds (kind-is primary v w.1 lines) (kind-is copy v w.1 lines)) ∙ w.4)

      unopened-not : (object : ℕ) → MetBy (λ d. d ≡ OpenCopy object (aim.Copy copy) 0 (Err refused.NotFound)) events → ⊥
      unopened-not object met =
          let opened : Deed = OpenCopy object (aim.Copy copy) 0 (Err refused.NotFound) in
          let s = stood (pools.IsForListed primary copy events) (λ d. d ≡ opened) did.listed met in
          let listed : MetBy (pools.Lacks primary copy object) events = subst (pools.IsForListed primary copy events) s.is.0 s.is.1 in
          let l = stood (pools.IsBackup copy) (pools.Lacks primary copy object) did.only listed in
          let w = l.is.0 in
          let told : missing primary copy (database l.before) ≡ Ok w.1 =
          ok-of rows.Missing missing-lines-in (λ x. refl) (missing primary copy (database l.before)) w.1 (l.answers (query.Missing primary copy) w.0 refl w.2 ∙ ap (λ (r : Rows). Ok r) w.3) in
          let known : IsKnown actor object s.before = subst (λ (n : ℕ). IsKnown actor n s.before) w.6 (may.1 l.before s.before l.passes s.passes w.1 w.4 told w.5) in
          let free : HasNumbers places actor (aim.Copy copy) 0 s.before = (may.0 s.before s.passes).1 in
          missing-never places actor s.before s.after opened (further-there places actor s.before s.after object copy (copies-there s.before s.passes) known) (λ h. (free.1 object refused.NotFound h).1 refl) (λ h. cc)
          (none-full (nat_lt (s.before.core.next_ticket + 1) (2 ^ 62)) (lt-ltb (s.before.core.next_ticket + 1) (2 ^ 62) free.0))
          (subst (λ (d : Deed). IsRefusedFor places actor d s.before s.after refused.NotFound) s.is.0 (s.for refused.NotFound (ap refusal s.is.0)))

      missing-not : e ≡ refused.NotFound → pools.IsNotThere primary copy events e → ⊥
      missing-not same (ten, inl unlisted) = unlisted-not (subst (λ (x : Refusal). MetBy (λ d. d ≡ Ask (query.Missing primary copy) (Err x)) events) same unlisted)
      missing-not same (ten, inr (inl otherwise)) = otherwise-not otherwise.1
      missing-not same (ten, inr (inr (object, met))) = unopened-not object (subst (λ (x : Refusal). MetBy (λ d. d ≡ OpenCopy object (aim.Copy copy) 0 (Err x)) events) same met)

      pub uncopied : IsBusy e
      uncopied = elim did.came.cause as (λ _. IsBusy e) [
        | inl stopped ↦ elim stopped as (λ _. IsBusy e) [
          | inl memory ↦ absurd (not-memory e mild memory)
          | inr met ↦ elim (stopping-mild e met.0 mild) as (λ _. IsBusy e) [
            | inl full ↦ (let s = stood (pools.IsBackup copy) Refuses did.only met.1 in
                absurd (backup-full copy s.deed s.before s.after s.unrisen s.is.1 (may.0 s.before s.passes).1 (subst (λ (x : Refusal). IsRefusedFor places actor s.deed s.before s.after x) full (s.for e s.is.0))))
            | inr busy ↦ busy
          ]
        ]
        | inr missing ↦ absurd (missing-not (missing-is e missing.0) missing)
      ]
