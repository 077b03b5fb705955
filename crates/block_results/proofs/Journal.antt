-- Each transaction of a command that was answered is one that the command orders.
use Rattle.std.proofs.Common.{◌≡◌, if◌then◌else◌, inl, inr, ℕ, ◌≤◌, ◌==◌, Bool, true, false, List, [], ◌∷◌, ◌++◌, length, map, Option, None, Some, Result, Ok, Err, refl, sym, ap, subst, ◌∙◌, arith}
use Rattle.std.proofs.lemmas.Bool.{and_parts, eqb-true}
use Rattle.std.proofs.lemmas.Option.{same_Some}
use Rattle.std.specs.List.{AllByRecursion}
use Rattle.sha2.specs.Sha256.{sha256}
use Rattle.kinds.specs.ValueForms.{digest_with}
use Rattle.kinds.specs.declared.change.DefineOrDelete.TheVariants as two
use Rattle.kinds.specs.declared.change.ObjectChange.TheVariants as client
use Rattle.kinds.specs.declared.refusal.Refusal.{Refusal}
use Rattle.kinds.specs.declared.refusal.Refusal.TheVariants.{TreeFault}
use Rattle.kinds.specs.declared.segment.Digest.{Digest}
use Rattle.client_trees.specs.Files.{Files}
use Rattle.client_plan.specs.Plans.{Lists}
use Rattle.client_batches.specs.Listings.{stored}
use Rattle.client_batches.specs.declared.listing.SealedLine.{SealedLine}
use Rattle.entries.specs.change_items.declared.items.ScratchVolume.{ScratchVolume}
use Rattle.entries.specs.declared.change.Change.{Change}
use Rattle.entries.specs.declared.change.Change.TheVariants as change
use Rattle.inventory_answers.specs.declared.query.Query.TheVariants as query
use Rattle.admin_words.specs.declared.files.FilePut.{FilePut}
use Rattle.admin_words.specs.declared.files.FilesRestore.{FilesRestore}
use Rattle.admin_words.specs.declared.files.IncrementalBackup.{IncrementalBackup}
use Rattle.admin_words.specs.declared.command.Command.{Command}
use Rattle.admin_commands.specs.declared.work.Work.{Work}
use Rattle.admin_commands.specs.declared.work.Work.TheVariants.{Commit as CommitWork, Run, Show}
use Rattle.line_results.specs.db_backup.Backups.{IsFollowing}
use Rattle.line_results.specs.db_backup.Deleting.{IsDeleting}
use Rattle.line_results.specs.db_backup.Listing.{due_files}
use Rattle.line_results.specs.db_backup.Taking.{IsOf as IsOfImage, kind_of}
use Rattle.line_results.specs.copy_pools.Backups.{IsEnteredIn as IsFurther}
use Rattle.line_results.specs.deletions.Filespaces as filespaces
use Rattle.line_results.specs.deletions.Volumes as volumes
use Rattle.line_results.specs.expiration.Expiring.{IsExpiring}
use Rattle.line_results.specs.incrementals.Orders.{IsOfBackup, IsOfPlan as IsRowOfPlan, IsOrdered, IsQuestion, IsReadAs}
use Rattle.line_results.specs.incrementals.Process.{Only}
use Rattle.line_results.specs.incrementals.declared.planning.Begun.{Begun}
use Rattle.machine.proofs.Runs.{fits-rises}
use Rattle.machine.specs.Changes.{all_tickets, are_so_many, change_of, filled, paired, scratch_of, version_from}
use Rattle.machine.specs.Fits.{Fits, History, Own as Holding}
use Rattle.machine.specs.State.{Sight, Ticket}
use Rattle.line_results.specs.migration.Migrating.{IsEnteredIn as IsMigrated}
use Rattle.line_results.specs.migration.Sweeping.{IsEnteredAny}
use Rattle.line_results.specs.pool_restores.Restoring.{IsEnteredSo}
use Rattle.line_results.specs.pool_restores.Volumes.{IsEnteredOr}
use Rattle.line_results.specs.reclamation.Moving.{IsEnteredOff}
use Rattle.line_results.specs.reuse_delay.Reusing.{IsReusing}
use Rattle.line_results.specs.volume_audits.Auditing.{IsAuditing}
use Rattle.line_results.proofs.of_restores.Caused.{restores-reading}
use Rattle.line_results.specs.restores.Causes.{IsReading}
use Rattle.line_results.proofs.of_sessions.Changed.{made-none}
use Rattle.line_results.specs.sessions.Changing.{IsOf}
use Rattle.line_results.specs.sessions.Checkpoints.{IsOf as IsOfCheckpoint}
use Rattle.line_results.specs.sessions.Putting.{Puts}
use Rattle.line_results.specs.copy_runs.declared.wanted.Moved.{Moved}
use Rattle.steps.specs.declared.asked.Asked.{Asked}
use Rattle.steps.specs.Events.{Deed, Event}
use Rattle.steps.specs.Events.Deed.{Ask, Commit, DropTicket, Force, Image, OpenNew, ReadPiece, Seal, WritePiece}
use Rattle.steps.specs.Receipts.{is_made, made}
use Rattle.line_results.specs.command_steps.Behind.{Behind, behind, forces, no_more, reuses}
use Rattle.line_results.specs.command_steps.Clients.{Client, Known, Turns}
use Rattle.line_results.specs.command_steps.Doing.{Does, DoesAlone, DoesOwn, EndsWork, Forcing, MovesSo, PutsText, Reusing, the_number, the_second}
use Rattle.line_results.specs.command_steps.Owns.{Mover, OnTree, Own, all_migrator, audit_volume, back_up, back_up_database, back_up_pool, back_up_since, checkpoint, data_mover, delete_history, empty_filespace, empty_volume, erase, expire, file_put, get, migrator, moves, none_but_reuse, none_yet, on_tree, own_of, pool_restorer, put, reclaimer, restore, row_put, validate, volume_restorer, write}
use Rattle.line_results.specs.command_steps.Trees.{DoesThere, GivesWanted}
use Rattle.inventory_rows.specs.State.{Inv}
use Rattle.line_results.specs.Commands.{IsReuse, MayMake}
use Rattle.block_results.specs.Clauses.{OrderedBy, OrderedOwn, orders}
use Rattle.block_results.specs.Standing.{IsEntered}
use Rattle.block_results.specs.Works.{IsOfFile, IsOfPlan, IsPlannedAt, IsSent}
use Rattle.block_results.proofs.Came.{Said}
use Rattle.block_results.proofs.Entering.{Makes, all-so, any-entered, auditing-joins, backup-joins, entered-all, entered-append, entered-none, entered-so, expiring-joins, filespace-joins, following-joins, further-entered, history-joins, made-entered, migrated-entered, none-made, off-entered, off-reclaimed, or-entered, process-entered, reusing-joins, so-entered, volume-joins}
use Rattle.block_results.proofs.Fitting.{fits-parts}
use Rattle.block_results.proofs.Treed.{planned-at, planned-to}
use Rattle.block_results.proofs.Walks.{gets-all, puts-all}

-- ---- rows of a plan as they are stored

sent-paired : (told : Option Files) (plan : Lists) (rows : List SealedLine) (tickets : List Ticket) → AllByRecursion (IsRowOfPlan told plan) rows → AllByRecursion (IsSent told plan) (paired version_from (map stored rows) tickets)
sent-paired told plan [] tickets h = tt
sent-paired told plan (row ∷ rows) [] h = tt
sent-paired told plan (row ∷ rows) (t ∷ tickets) ((l, digest, among, is, read), later) = (
  (
    l,
    among,
    ap (λ (x : SealedLine). x.path) is,
    ap (λ (x : SealedLine). x.class) is,
    ap (λ (x : SealedLine). x.mtime) is,
    subst (λ (d : Digest). IsReadAs told l d) (sym (ap (λ (x : SealedLine). x.digest) is)) read,
  ),
  sent-paired told plan rows tickets later,
)

-- ---- what PUT and a backup store

put-store : (p : FilePut) (number : ℕ) (class : List ℕ) (digest : Digest) (tickets : List Ticket) (scratch : List ScratchVolume) (test : Bool) (c : Change) → digest ≡ digest_with (sha256 p.text) → (test ≡ true → length tickets ≡ 1)
    → (if test then Some (change.Backup (record { filespace = number; scratch = scratch; items = paired version_from (record { path = p.path; class = class; mtime = p.mtime; digest = digest } ∷ []) tickets })) else None) ≡ Some c
    → IsOfFile p c
put-store p number class digest tickets scratch false c hash long same = absurd cc
put-store p number class digest [] scratch true c hash long same = (let odd : ◌≡◌ {A = ℕ} 0 1 = long refl in absurd (omega (arith, odd)))
put-store p number class digest (t ∷ tickets) scratch true c hash long same =
    inr (number, scratch, version_from (record { path = p.path; class = class; mtime = p.mtime; digest = digest }) t, sym (same_Some _ c same), refl, refl, hash)

put-define : (p : FilePut) (number next : ℕ) (c : Change) → Some (change.Object (client.Filespace two.Define number p.filespace next)) ≡ Some c → IsOfFile p c
put-define p number next c same = inl (number, next, sym (same_Some (change.Object (client.Filespace two.Define number p.filespace next)) c same))

plan-store : (node : ℕ) (name : List ℕ) (told : Option Files) (plan : Lists) (filespace : ℕ) (rows : List SealedLine) (tickets : List Ticket) (scratch : List ScratchVolume) (test : Bool) (c : Change) → AllByRecursion (IsRowOfPlan told plan) rows
    → (if test then Some (change.Backup (record { filespace = filespace; scratch = scratch; items = paired version_from (map stored rows) tickets })) else None) ≡ Some c → IsOfPlan node name told plan c
plan-store node name told plan filespace rows tickets scratch false c all same = absurd cc
plan-store node name told plan filespace rows tickets scratch true c all same =
    inl (filespace, scratch, paired version_from (map stored rows) tickets, sym (same_Some _ c same), sent-paired told plan rows tickets all)

plan-orders : (node : ℕ) (name : List ℕ) (told : Option Files) (bg : Begun) (asked : Asked) (numbers : List ℕ) (s : Sight) (c : Change) → node ≡ bg.node → IsOrdered told name bg asked → change_of asked numbers s ≡ Some c → IsOfPlan node name told bg.plan c
plan-orders node name told bg asked numbers s c same (inl (filespace, rows, is, all)) made =
    plan-store node name told bg.plan filespace rows (all_tickets numbers s) (scratch_of s.inventory (all_tickets numbers s)) (are_so_many (length (map stored rows)) numbers s) c all
    (subst (λ (x : Asked). change_of x numbers s ≡ Some c) is made)
plan-orders node name told bg asked numbers s c same (inr (inl (filespace, lines, is, all))) made =
    inr (inl (filespace, lines, sym (same_Some _ c (subst (λ (x : Asked). change_of x numbers s ≡ Some c) is made)), all))
plan-orders node name told bg asked numbers s c same (inr (inr (inl (filespace, lines, is, all)))) made =
    inr (inr (inl (filespace, lines, sym (same_Some _ c (subst (λ (x : Asked). change_of x numbers s ≡ Some c) is made)), all)))
plan-orders node name told bg asked numbers s c same (inr (inr (inr is))) made =
    inr (inr (inr (s.inventory.next_filespace, sym (same_Some _ c (subst (λ (x : Asked). change_of x numbers s ≡ Some c) is made)) ∙ ap (λ (x : ℕ). change.Object (client.Filespace two.Define x name s.inventory.next_filespace)) (sym same))))

module _ (w : History) (actor : ℕ) (k : Client) (a b : Holding) (until : ℕ) (high : b.reached ≤ until) (events : List Event) (f : Fits w actor a events b) where
  abbrev Orders : List ℕ → Own → ℕ → Change → Type 0
  Orders numbers own n c = OrderedOwn w a.reached until k numbers own c

  abbrev Entered : List ℕ → Own → Type 0
  Entered numbers own = AllByRecursion (IsEntered w actor (Orders numbers own)) (made events)

  none-entered : (numbers : List ℕ) (own : Own) → events ≡ [] → Entered numbers own
  none-entered numbers own none = entered-none w actor (Orders numbers own) events (ap made none)

  -- steps by which nothing joins
  asks-nothing : (P : ℕ → Change → Type 0) (Is : Deed → Type 0) → ((n : ℕ) (d : Deed) → Is d → Makes w actor P n d) → AllByRecursion (λ e. Is e.deed) events → AllByRecursion (IsEntered w actor P) (made events)
  asks-nothing P Is so all = entered-all w actor P events a b (all-so (λ e. Is e.deed) (λ e. Makes w actor P e.n e.deed) (λ e h. so e.n e.deed h) events all) f

  reading-makes : (P : ℕ → Change → Type 0) (n : ℕ) (d : Deed) → IsReading d → Makes w actor P n d
  reading-makes P n (Ask q answer) h = tt
  reading-makes P n (ReadPiece object kept from at wanted answer) h = tt
  reading-makes P n d h = absurd h

  checkpoint-makes : (P : ℕ → Change → Type 0) (n : ℕ) (d : Deed) → IsOfCheckpoint d → Makes w actor P n d
  checkpoint-makes P n (Image kind answer) h = tt
  checkpoint-makes P n (Force answer) h = tt
  checkpoint-makes P n d h = absurd h

  -- ---- work of a command's own

  put-entered : (p : FilePut) (numbers : List ℕ) (r : Result ℕ Refusal) → Puts p.node p.filespace k.choice (Some (file_put p)) (row_put p) events r → Entered numbers (put p)
  put-entered p numbers r puts =
      entered-all w actor (Orders numbers (put p)) events a b
      (puts-all (λ e. Makes w actor (Orders numbers (put p)) e.n e.deed) (file_put p) (row_put p) p.node p.filespace (λ n q answer. tt) (λ n answer. tt) (λ n pool prefer answer. tt) (λ n ticket bytes answer. tt) (λ n ticket answer. tt)
      (λ n ticket answer. tt) (λ n number answer s at c same. put-define p number s.inventory.next_filespace c same)
      (λ n number class digest ticket answer hash s at c same.
      put-store p number class digest (all_tickets (ticket ∷ []) s) (scratch_of s.inventory (all_tickets (ticket ∷ []) s)) (are_so_many 1 (ticket ∷ []) s) c hash
      (λ many. eqb-true (length (all_tickets (ticket ∷ []) s)) 1 (and_parts (length (all_tickets (ticket ∷ []) s) == 1) (length (ticket ∷ []) == 1) many).0) same) k.choice events r puts) f

  text-entered : (p : FilePut) (numbers : List ℕ) (r : Result ℕ Refusal) → PutsText k.choice p events r → Entered numbers (put p)
  text-entered p numbers r (inl (puts, tree)) = put-entered p numbers r puts
  text-entered p numbers r (inr (puts, wanted)) = put-entered p numbers (Err TreeFault) puts

  moves-entered : (mover : Mover) (numbers : List ℕ) (r : Result Moved Refusal) → a.tickets ≡ [] → MovesSo mover (the_number numbers) (the_second numbers) events r → Entered numbers (moves mover)
  moves-entered data_mover numbers r none h =
      all-so (IsEnteredOff (the_second numbers) w actor) (IsEntered w actor (Orders numbers (moves data_mover))) (λ e x. off-entered w actor (the_second numbers) e numbers x) (made events) (h.entries w actor a b none f)
  moves-entered reclaimer numbers r none h =
      all-so (IsEnteredOff (the_number numbers) w actor) (IsEntered w actor (Orders numbers (moves reclaimer))) (λ e x. off-reclaimed w actor (the_number numbers) e numbers x) (made events) (h.entries w actor a b none f)
  moves-entered pool_restorer numbers r none h =
      all-so (IsEnteredSo w actor) (IsEntered w actor (Orders numbers (moves pool_restorer))) (λ e x. so-entered w actor e numbers x) (made events) (h.entries w actor a b none f)
  moves-entered volume_restorer numbers r none h =
      made-entered w actor (Orders numbers (moves volume_restorer)) (IsEnteredOr (the_number numbers) w actor) (λ x y e o s is. or-entered w actor numbers x y e o s is) events a b (h.entries w actor a b none f) f
  moves-entered migrator numbers r none h =
      all-so (IsMigrated (the_number numbers) w actor) (IsEntered w actor (Orders numbers (moves migrator))) (λ e x. migrated-entered w actor (the_number numbers) e numbers x) (made events) (h.entries w actor a b none f)
  moves-entered all_migrator numbers r none h =
      all-so (IsEnteredAny w actor) (IsEntered w actor (Orders numbers (moves all_migrator))) (λ e x. any-entered w actor e numbers x) (made events) (h.entries w actor a b none f)

  alone-entered : (own : Own) (numbers : List ℕ) (r : Said) → a.tickets ≡ [] → DoesAlone k.choice own numbers events r → Entered numbers own
  alone-entered (validate set) numbers r none (answer, inl asks, is) = entered-none w actor (Orders numbers (validate set)) events (made-none (Ask (query.Validated set.domain set.set) answer) events asks refl)
  alone-entered (validate set) numbers r none (answer, inr (nothing, wanted), is) = none-entered numbers (validate set) nothing
  alone-entered (put p) numbers r none (answer, inl puts, is) = text-entered p numbers answer puts
  alone-entered (put p) numbers r none (answer, inr (nothing, wanted), is) = none-entered numbers (put p) nothing
  alone-entered (get g) numbers r none (answer, inl gets, is) =
      entered-all w actor (Orders numbers (get g)) events a b (gets-all (λ e. Makes w actor (Orders numbers (get g)) e.n e.deed) (λ n q x. tt) (λ n object kept from at wanted x. tt) g.node g.filespace g.path events answer gets) f
  alone-entered (get g) numbers r none (answer, inr (nothing, wanted), is) = none-entered numbers (get g) nothing
  alone-entered checkpoint numbers r none h = asks-nothing (Orders numbers checkpoint) IsOfCheckpoint (checkpoint-makes (Orders numbers checkpoint)) h.1.only
  alone-entered (on_tree work) numbers r none h = absurd h
  alone-entered none_yet numbers r none h = none-entered numbers none_yet h.0
  alone-entered none_but_reuse numbers r none h = none-entered numbers none_but_reuse h.0
  alone-entered expire numbers r none h = process-entered w actor (MayMake numbers expire) IsExpiring (expiring-joins w actor numbers) events a b h.1.only f
  alone-entered empty_filespace numbers r none h = process-entered w actor (MayMake numbers empty_filespace) (filespaces.IsDeleting (the_number numbers)) (filespace-joins w actor numbers) events a b h.1.only f
  alone-entered empty_volume numbers r none h = process-entered w actor (MayMake numbers empty_volume) (volumes.IsDeleting true (the_number numbers)) (volume-joins w actor numbers) events a b h.1.only f
  alone-entered back_up_pool numbers r none h =
      all-so (IsFurther (the_second numbers) w actor) (IsEntered w actor (Orders numbers back_up_pool)) (λ e x. further-entered w actor numbers e x) (made events) (h.1.entries w actor a b none f)
  alone-entered (moves mover) numbers r none h = moves-entered mover numbers h.0 none h.1
  alone-entered back_up_database numbers r none h = process-entered w actor (MayMake numbers back_up_database) (IsOfImage (kind_of None)) (backup-joins w actor numbers) events a b h.1.only f
  alone-entered back_up_since numbers r none h = process-entered w actor (MayMake numbers back_up_since) IsFollowing (following-joins w actor numbers) events a b h.1.only f
  alone-entered (delete_history to) numbers r none h =
      process-entered w actor (MayMake numbers (delete_history to)) (IsDeleting (due_files to h.1.lines)) (history-joins w actor to numbers (due_files to h.1.lines)) events a b h.1.only f
  alone-entered (audit_volume fix) numbers r none h = process-entered w actor (MayMake numbers (audit_volume fix)) (IsAuditing fix (the_number numbers)) (auditing-joins w actor fix numbers) events a b h.1.only f

  -- ---- work on a tree

  question-makes : (P : ℕ → Change → Type 0) (n : ℕ) (d : Deed) → IsQuestion d → Makes w actor P n d
  question-makes P n (Ask q answer) h = tt
  question-makes P n d h = absurd h

  backup-makes : (i : IncrementalBackup) (numbers : List ℕ) (before after : Known) (bg : Begun) → Turns i.tree before after k → IsPlannedAt w a.reached until k.choice i before.files bg → (n : ℕ) (d : Deed) → IsOfBackup before.files i.filespace bg d
      → Makes w actor (Orders numbers (on_tree (back_up i))) n d
  backup-makes i numbers before after bg turns planned n (Commit asked tickets answer) h =
      λ s at c same. (before, after, turns, bg, planned, plan-orders bg.node i.filespace before.files bg asked tickets s c refl h same)
  backup-makes i numbers before after bg turns planned n (OpenNew pool size prefer answer) h = tt
  backup-makes i numbers before after bg turns planned n (WritePiece ticket bytes answer) h = tt
  backup-makes i numbers before after bg turns planned n (Seal ticket answer) h = tt
  backup-makes i numbers before after bg turns planned n (DropTicket ticket answer) h = tt
  backup-makes i numbers before after bg turns planned n (Ask q answer) h = tt
  backup-makes i numbers before after bg turns planned n (Force answer) h = tt
  backup-makes i numbers before after bg turns planned n d h = absurd h

  backup-entered : (i : IncrementalBackup) (numbers : List ℕ) (before after : Known) → Turns i.tree before after k → Only i.node i.filespace k.choice before.files before.faults events → Entered numbers (on_tree (back_up i))
  backup-entered i numbers before after turns (inl questions) = asks-nothing (Orders numbers (on_tree (back_up i))) IsQuestion (question-makes (Orders numbers (on_tree (back_up i)))) questions
  backup-entered i numbers before after turns (inr (bg, count, (xs, ys, cut, (begins, questions), of))) =
      let P : ℕ → Change → Type 0 = Orders numbers (on_tree (back_up i)) in
      let parts = fits-parts w actor a b events xs ys cut f in
      let rises : parts.0.reached ≤ b.reached = fits-rises w actor parts.0 b ys parts.2 in
      let planned = planned-to w actor k.choice i before.files bg a.reached parts.0.reached until (omega (arith, rises, high)) (planned-at w actor k.choice i before.files before.faults count bg a parts.0 xs begins parts.1) in
      entered-append w actor P events xs ys cut
      (entered-all w actor P xs a parts.0 (all-so (λ e. IsQuestion e.deed) (λ e. Makes w actor P e.n e.deed) (λ e h. question-makes P e.n e.deed h) xs questions) parts.1)
      (entered-all w actor P ys parts.0 b (all-so (λ e. IsOfBackup before.files i.filespace bg e.deed) (λ e. Makes w actor P e.n e.deed) (λ e h. backup-makes i numbers before after bg turns planned e.n e.deed h) ys of) parts.2)

  wanted-entered : (r : FilesRestore) (numbers : List ℕ) (before after : Known) (said : Said) → GivesWanted r before after events said → Entered numbers (on_tree (restore r))
  wanted-entered r numbers before after said (inl (versions, which, (answer, restores, is))) =
      asks-nothing (Orders numbers (on_tree (restore r))) IsReading (reading-makes (Orders numbers (on_tree (restore r))))
      (restores-reading r.node r.filespace versions before.faults after.faults before.files after.files events answer restores)
  wanted-entered r numbers before after said (inr (e, why, nothing, same, is)) = none-entered numbers (on_tree (restore r)) nothing

  tree-entered : (work : OnTree) (numbers : List ℕ) (r : Said) → DoesThere k work events r → Entered numbers (on_tree work)
  tree-entered (back_up i) numbers r (inl (before, after, turns, backs)) = backup-entered i numbers before after turns backs.1.only
  tree-entered (restore x) numbers r (inl (before, after, turns, gives)) = wanted-entered x numbers before after r gives
  tree-entered (write x) numbers r (inl (before, after, turns, does)) = none-entered numbers (on_tree (write x)) does.0
  tree-entered (erase x) numbers r (inl (before, after, turns, does)) = none-entered numbers (on_tree (erase x)) does.0
  tree-entered work numbers r (inr (missing, kept, nothing, is)) = none-entered numbers (on_tree work) nothing

  own-entered : (own : Own) (numbers : List ℕ) (r : Said) → a.tickets ≡ [] → DoesOwn k own numbers events r → Entered numbers own
  own-entered (on_tree work) numbers r none h = tree-entered work numbers r h
  own-entered (validate set) numbers r none h = alone-entered (validate set) numbers r none h.1
  own-entered (put p) numbers r none h = alone-entered (put p) numbers r none h.1
  own-entered (get g) numbers r none h = alone-entered (get g) numbers r none h.1
  own-entered checkpoint numbers r none h = alone-entered checkpoint numbers r none h.1
  own-entered none_yet numbers r none h = alone-entered none_yet numbers r none h.1
  own-entered none_but_reuse numbers r none h = alone-entered none_but_reuse numbers r none h.1
  own-entered expire numbers r none h = alone-entered expire numbers r none h.1
  own-entered empty_filespace numbers r none h = alone-entered empty_filespace numbers r none h.1
  own-entered empty_volume numbers r none h = alone-entered empty_volume numbers r none h.1
  own-entered back_up_pool numbers r none h = alone-entered back_up_pool numbers r none h.1
  own-entered (moves mover) numbers r none h = alone-entered (moves mover) numbers r none h.1
  own-entered back_up_database numbers r none h = alone-entered back_up_database numbers r none h.1
  own-entered back_up_since numbers r none h = alone-entered back_up_since numbers r none h.1
  own-entered (delete_history to) numbers r none h = alone-entered (delete_history to) numbers r none h.1
  own-entered (audit_volume fix) numbers r none h = alone-entered (audit_volume fix) numbers r none h.1

  -- ---- any work

  commit-makes : (what : Change) (own : Own) (n : ℕ) (d : Deed) → IsOf what d → Makes w actor (OrderedBy w a.reached until k own (Ok (CommitWork what))) n d
  commit-makes what own n (Commit asked tickets answer) (is, nothing) =
      λ s at c same. (
        s.next_file,
        sym (same_Some (filled s.next_file s.inventory what) c (subst (λ (x : Asked). change_of x tickets s ≡ Some c) is same)) ∙ ap (λ (v : Inv). filled s.next_file v what) at,
      )
  commit-makes what own n (Force answer) h = tt
  commit-makes what own n d h = absurd h

  pub work-entered : (c : Command) (work : Work) (r : Said) → a.tickets ≡ [] → Does k c work events r → AllByRecursion (IsEntered w actor (OrderedBy w a.reached until k (own_of c) (Ok work))) (made events)
  work-entered c (CommitWork what) r none h = asks-nothing (OrderedBy w a.reached until k (own_of c) (Ok (CommitWork what))) (IsOf what) (commit-makes what (own_of c)) h.1.1.only
  work-entered c (Show q) r none h = entered-none w actor (OrderedBy w a.reached until k (own_of c) (Ok (Show q))) events (made-none (Ask q h.1.0) events h.1.1 refl)
  work-entered c (Run numbers) r none h = own-entered (own_of c) numbers r none h

-- ---- what comes behind it

module _ (w : History) (actor : ℕ) where
  forced-none : (said r : Said) (events : List Event) → Forcing said events r → made events ≡ []
  forced-none said r events (answer, forced, is) = made-none (Force answer) events forced refl

  reusing-entered : (came r : Said) (events : List Event) (a b : Holding) → Reusing came events r → Fits w actor a events b → AllByRecursion (IsEntered w actor (λ n c. IsReuse reuses c)) (made events)
  reusing-entered (Ok it) r events a b (answer, called, is) f = process-entered w actor (IsReuse reuses) (IsReusing called.files) (reusing-joins w actor called.files) events a b called.only f
  reusing-entered (Err e) r events a b (nothing, is) f = entered-none w actor (λ n c. IsReuse reuses c) events (ap made nothing)

  follows-entered : (b : Behind) (came said : Said) (events : List Event) (x y : Holding) → EndsWork b came events said → Fits w actor x events y → AllByRecursion (IsEntered w actor (λ n c. IsReuse b c)) (made events)
  follows-entered no_more came said events x y (nothing, is) f = entered-none w actor (λ n c. IsReuse no_more c) events (ap made nothing)
  follows-entered forces came said events x y h f = entered-none w actor (λ n c. IsReuse forces c) events (forced-none came said events h)
  follows-entered reuses came said events x y (mid, (us, vs, cut, reusing, forcing)) f =
      let parts = fits-parts w actor x y events us vs cut f in
      entered-append w actor (λ n c. IsReuse reuses c) events us vs cut (reusing-entered came mid us x parts.0 reusing parts.1) (entered-none w actor (λ n c. IsReuse reuses c) vs (forced-none mid said vs forcing))

  -- look-ups, work, and what comes behind it
  pub command-entered : (k : Client) (c : Command) (work : Work) (until : ℕ) (events looks works follows : List Event) (came said : Said) (a b d : Holding) → b.reached ≤ until → events ≡ looks ++ (works ++ follows)
      → AllByRecursion (λ e. is_made e.deed ≡ false) looks → a.tickets ≡ [] → Does k c work works came → EndsWork (behind c) came follows said → Fits w actor a works b → Fits w actor b follows d
      → AllByRecursion (IsEntered w actor (orders w a.reached until k c (Ok work))) (made events)
  command-entered k c work until events looks works follows came said a b d high cut nothing none does ends f g =
      let P : ℕ → Change → Type 0 = orders w a.reached until k c (Ok work) in
      entered-append w actor P events looks (works ++ follows) cut (entered-none w actor P looks (none-made looks nothing))
      (entered-append w actor P (works ++ follows) works follows refl
      (entered-so w actor (OrderedBy w a.reached until k (own_of c) (Ok work)) P (λ n x h. inl h) (made works) (work-entered w actor k a b until high works f c work came none does))
      (entered-so w actor (λ n x. IsReuse (behind c) x) P (λ n x h. inr h) (made follows) (follows-entered (behind c) came said follows b d ends g)))
