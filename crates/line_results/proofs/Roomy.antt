-- A backup that has room for all its files, and a restore of versions that can be given back, where one actor has the machine alone: no file fails.
use Rattle.std.proofs.Common.{◌≡◌, ◌≢◌, ◌⊎◌, inl, inr, ℕ, ◌+◌, ◌==◌, ◌≤◌, nat_le, Bool, true, false, true≢false, if◌then◌else◌, List, [], ◌∷◌, ◌++◌, length, Option, None, Some, Result, Ok, Err, refl, sym, ap, subst, ◌∙◌, append_assoc, arith}
use Rattle.std.proofs.lemmas.List.{take_all}
use Rattle.std.proofs.lemmas.List.Sorted.{length_permutation}
use Rattle.std.proofs.lemmas.Option.{same_Some}
use Rattle.std.specs.List.{AllByRecursion}
use Rattle.std.specs.Option.{option_map_or}
use Rattle.sha2.specs.Sha256.{sha256}
use Rattle.kinds.specs.Names.{is_same_name}
use Rattle.kinds.specs.declared.change.PoolChange.TheVariants as store
use Rattle.kinds.specs.declared.change.Verb.TheVariants as verb
use Rattle.kinds.specs.Refusals.{bad_value, foremost, number_of, unless}
use Rattle.kinds.specs.ValueForms.{digest_with}
use Rattle.kinds.specs.declared.refusal.Refusal.{Refusal}
use Rattle.kinds.specs.declared.refusal.Refusal.TheVariants as refused
use Rattle.kinds.specs.declared.segment.Digest.{Digest}
use Rattle.choosers.specs.declared.rule.Rule.{Rule}
use Rattle.entries.specs.declared.change.Change.{Change}
use Rattle.entries.specs.declared.change.Change.TheVariants as change
use Rattle.entries.specs.declared.entry.Entry.{Entry}
use Rattle.inventory_rows.specs.version_groups.declared.versions.Version.{Version}
use Rattle.inventory_rows.specs.version_groups.Entries.{on_ok}
use Rattle.inventory_rules.specs.Journal.{Journal}
use Rattle.inventory_rules.specs.Versions.{of_version}
use Rattle.inventory_work.specs.declared.lines.Rules.{Rules}
use Rattle.inventory_answers.specs.Answered.{answered}
use Rattle.space.specs.declared.aim.Aim.TheVariants as aim
use Rattle.admin_commands.specs.declared.work.Work.{Work}
use Rattle.admin_commands.specs.declared.work.Work.TheVariants.{Commit as Committing, Show, Run}
use Rattle.admin_words.specs.declared.command.Command.{Command}
use Rattle.admin_words.specs.declared.files.FilesRestore.{FilesRestore}
use Rattle.admin_words.specs.declared.files.IncrementalBackup.{IncrementalBackup}
use Rattle.client_trees.specs.Files.{Files}
use Rattle.command_steps.specs.client_files.declared.outcome.Gave.{Gave}
use Rattle.command_steps.specs.client_files.declared.outcome.Gave.TheVariants as gave
use Rattle.command_steps.specs.client_files.declared.restoring.Stored.{Stored}
use Rattle.command_steps.specs.client_files.Restoring.{Breaks, Misses, ReadsAll, Restores as RestoresOne, is_unrestored, read_in}
use Rattle.command_steps.specs.client_files.Sending.{is_unopened, stopping}
use Rattle.client_batches.specs.Commits.{is_in_the_way}
use Rattle.client_batches.proofs.Ordering.{Each}
use Rattle.command_steps.specs.incrementals.Answering.{failed_of}
use Rattle.command_steps.specs.incrementals.Planning.{Begins}
use Rattle.command_steps.specs.incrementals.Process.{Finishes, Increments}
use Rattle.command_steps.specs.incrementals.declared.answering.Failure.{Failure}
use Rattle.command_steps.specs.incrementals.declared.answering.Outs.{Outs}
use Rattle.command_steps.specs.incrementals.declared.answering.Sent.{Sent}
use Rattle.command_steps.specs.incrementals.declared.planning.Begun.{Begun}
use Rattle.command_steps.specs.deletions.declared.copies.Removed.{Removed}
use Rattle.command_steps.specs.restores.Causes.{AreReading}
use Rattle.command_steps.specs.restores.Given.{Gives}
use Rattle.command_steps.specs.restores.declared.choosing.RestoreLine.{RestoreLine}
use Rattle.command_steps.specs.restores.declared.process.Restored.{Restored}
use Rattle.command_steps.proofs.of_restores.Caused.{restores-reading}
use Rattle.reports.specs.declared.shown.Shown.{Shown}
use Rattle.reports.specs.declared.shown.Shown.TheVariants as shown
use Rattle.script_loop.specs.Reply.{Answer}
use Rattle.steps.specs.declared.asked.Asked.{Asked}
use Rattle.steps.specs.Calls.{Made}
use Rattle.steps.specs.Events.{Deed, Event, event}
use Rattle.steps.specs.Events.Deed.{Commit, OpenNew, ReadPiece, Seal, WritePiece}
use Rattle.tree_api.specs.Cause.{Rose}
use Rattle.machine.proofs.Elsewhere.{append-all, ended-all, foremost-all, none-held, unless-all}
use Rattle.machine.proofs.Mild.{mild-answered, mild-seal, mild-write}
use Rattle.machine.specs.Alone.{Alone}
use Rattle.machine.specs.Causes.{commit_refused, has_copy_in, most_bytes, read_refused, seal_refused, write_refused}
use Rattle.machine.specs.Changes.{are_so_many}
use Rattle.machine.specs.Machine.{CantRead, Case, Commits, IsLostFor, IsPlaced, OpensNew, Places, Seals, WritesPiece, asked_change, can_place_new, ended, held_refused, read_count, space}
use Rattle.machine.specs.Pieces.{IsCopyLost, RoseAt}
use Rattle.machine.specs.State.{Core, Machine, inventory, sight}
use Rattle.command_steps.specs.Answers.{Ends, failed_gave, failed_in, failed_weight}
use Rattle.command_steps.specs.Behind.{Behind, behind, forces, line_reused, no_more, reuses, with_reused}
use Rattle.command_steps.specs.Clients.{Client, Known}
use Rattle.command_steps.specs.Doing.{Forcing, Reusing, backed_up, within_run}
use Rattle.command_steps.specs.Lines.{Line, asks, comment, refused as refused_line}
use Rattle.command_steps.specs.Owns.{OnTree, Own, audit_volume, back_up, back_up_database, back_up_pool, back_up_since, checkpoint, delete_history, empty_filespace, empty_volume, erase, expire, get, last_of, moves, none_but_reuse, none_yet, on_tree, own_of, put, restore, validate, write}
use Rattle.command_steps.specs.Trees.{BacksUp, GivesWanted, ShowsSent, is_absent}
use Rattle.command_steps.specs.declared.outcome.Outcome.{Outcome}
use Rattle.command_steps.specs.declared.outcome.Outcome.TheVariants as came
use Rattle.line_results.specs.Commands.{Comes, Does, DoesOwn, DoesThere, EndsWith, IsStill, Works, WorksWith, validated, work_over}
use Rattle.line_results.specs.Lines.{Says}
use Rattle.line_results.specs.Resting.{EndsRun, IsAtRest, Onward, RoseFrom, database}
use Rattle.line_results.specs.Room.{ArePlanned, CanBeGiven, CanBeSent, ComesTo, HasRoomBy, HasRoomForAll, HasRoomOn, HasRoomOwn, IsOfOne, NoneFails}
use Rattle.line_results.specs.Trees.{GivesChosen, IsChosen, IsOfBackup}
use Rattle.line_results.proofs.Copyable.{copies-none, moves-none}
use Rattle.line_results.proofs.Leaving.{rest-as}
use Rattle.line_results.proofs.Opened.{orders-of}
use Rattle.line_results.proofs.Planned.{backup-sends, begun-plan}
use Rattle.line_results.proofs.PutStoring.{same-self}
use Rattle.line_results.proofs.Read.{read-step, reads-on}
use Rattle.line_results.proofs.Readable.{contained_holds, not-lost}
use Rattle.line_results.proofs.Restoring.{reads-walk}
use Rattle.line_results.proofs.Runs.{Became, Stops, alone-append, alone-onward, alone-parts, became-still, is-as, onward-later, onward-none, onward-then, rose-from, rose-on}
use Rattle.line_results.proofs.Sending.{AllSend, has-tickets}
use Rattle.line_results.proofs.Spent.{HasTickets, ticket-step}
use Rattle.line_results.proofs.Unfailed.{AreFine, IsFine, failed-none, fine-parts, finishes-none}

-- ---- the steps of a backup

-- where the step's own causes are none it is refused by the end of a run alone
own-free : (P : Refusal → Type 0) (m : Machine) (own : List Refusal) (e : Refusal) → P refused.RunFull → ((file count : ℕ) → P (refused.LogFault file count)) → own ≡ [] → foremost (ended m ++ own) ≡ Some e → P e
own-free P m own e full fault none held =
    foremost-all P (ended m ++ []) (append-all P (ended m) [] (ended-all P full fault m) tt) e (subst (λ (l : List Refusal). foremost (ended m ++ l) ≡ Some e) none held)

abbrev others_of : Asked → (tickets : List ℕ) → Core → List Refusal
others_of asked tickets c = option_map_or (λ x. held_refused x c) (asked_change 0 asked tickets c) []

stored-free : (b : Bool) (x : Change) (c : Core) → held_refused x c ≡ [] → option_map_or (λ y. held_refused y c) (if b then Some x else None) [] ≡ []
stored-free true x c h = h
stored-free false x c h = refl

-- what others hold isn't in the way of versions
one-free : (asked : Asked) (tickets : List ℕ) (c : Core) → IsOfOne asked → others_of asked tickets c ≡ []
one-free asked tickets c (inl (filespace, line, is)) =
    subst (λ (a : Asked). others_of a tickets c ≡ []) (sym is) (stored-free (are_so_many 1 tickets (sight 0 c)) _ c refl)
one-free asked tickets c (inr (inl (filespace, line, is))) = subst (λ (a : Asked). others_of a tickets c ≡ []) (sym is) refl
one-free asked tickets c (inr (inr (filespace, line, is))) = subst (λ (a : Asked). others_of a tickets c ≡ []) (sym is) refl

module _ (trusted : Type 0) (places : Places) (choice : List Rule) (i : IncrementalBackup) (told : Option Files) (old start new : Machine) (before after : ℕ) (result : Result Sent Refusal) (whole : List Event)
    (room : HasRoomForAll trusted places choice i told old) (still : IsStill old start) (order : Increments i.node i.filespace choice told before after whole result) (calm : Rose before after → ⊥)
    (sound : (file : ℕ) → RoseFrom old new file → ⊥) where
  comes : (first later : List Event) (n : ℕ) (d : Deed) (m : Machine) → whole ≡ first ++ event n d ∷ later → Alone trusted places 0 first start m → Onward m new → ComesTo trusted places choice i told d old m
  comes first later n d m cut made on = record {
    start = start;
    first = first;
    number = n;
    later = later;
    before = before;
    after = after;
    result = result;
    order = subst (λ (l : List Event). Increments i.node i.filespace choice told before after l result) cut order;
    still = still;
    made = made;
    sound = λ file rose. sound file (rose-on old m new file rose on);
    whole = calm;
  }

  module _ (first later : List Event) (n : ℕ) (m next : Machine) (made : Alone trusted places 0 first start m) (on : Onward m new) (more : Onward next new) where
    -- no volume's count rose by it
    never-rose : (file : ℕ) → RoseAt m.counts next.counts file → ⊥
    never-rose file rose = sound file (rose-on old next new file (rose-from old m next file (onward-then old start m still.onward (alone-onward trusted places first start m made)) rose) more)

    open-fine : (pool size prefer : ℕ) (e : Refusal) → prefer ≡ 0 → whole ≡ first ++ event n (OpenNew pool size prefer (Err e)) ∷ later → OpensNew places 0 pool size prefer m next (Err e) → is_unopened e ≡ false
    open-fine pool size prefer e plain cut (placed, at, inl (inl held, stays)) =
        own-free (λ x. is_unopened x ≡ false) m _ e refl (λ file count. refl)
        (none-held _ (room.placed pool size (Err e) m placed
        (subst (λ (k : ℕ). ComesTo trusted places choice i told (OpenNew pool size k (Err e)) old m) plain (comes first later n (OpenNew pool size prefer (Err e)) m cut made on))
        (subst (λ (k : ℕ). IsPlaced (can_place_new pool size (sight 0 m.core)) (places (inventory m.core) (space m.core) 0 size (aim.New pool) k 0) placed) plain at))) held
    open-fine pool size prefer e plain cut (placed, at, inl (inr memory, stays)) = ap is_unopened memory
    open-fine pool size prefer e plain cut (placed, at, inr (none, never)) = absurd never

    commit-fine : (asked : Asked) (tickets : List ℕ) (e : Refusal) → IsOfOne asked → whole ≡ first ++ event n (Commit asked tickets (Err e)) ∷ later → Commits 0 asked tickets m next (Err e) → is_in_the_way e ≡ false
    commit-fine asked tickets e one cut (inl (inl held, stays)) =
        own-free (λ x. is_in_the_way x ≡ false) m _ e refl (λ file count. refl)
        (ap (λ (l : List Refusal). l ++ others_of asked tickets m.core) (none-held (commit_refused 0 asked tickets (sight 0 m.core)) (room.free asked tickets (Err e) m (comes first later n (Commit asked tickets (Err e)) m cut made on) one))
        ∙ one-free asked tickets m.core one) held
    commit-fine asked tickets e one cut (inl (inr memory, stays)) = ap is_in_the_way memory
    commit-fine asked tickets e one cut (inr (none, (c, file, count, is, why, fault, joins))) = ap is_in_the_way why

    write-fine : (ticket : ℕ) (bytes : List ℕ) (e : Refusal) → WritesPiece 0 ticket bytes m next (Err e) → (number_of e == 25) ≡ false
    write-fine ticket bytes e (inl h) = mild-answered (ended m ++ write_refused ticket (length bytes) (sight 0 m.core)) e (mild-write m ticket (length bytes) (sight 0 m.core)) h.0
    write-fine ticket bytes e (inr (none, (t, file, is, has, why, rose, becomes))) = absurd (never-rose file rose)

    seal-fine : (ticket : ℕ) (e : Refusal) → Seals 0 ticket m next (Err e) → (number_of e == 25) ≡ false
    seal-fine ticket e (inl h) = mild-answered (ended m ++ seal_refused ticket (sight 0 m.core)) e (mild-seal m ticket (sight 0 m.core)) h.0
    seal-fine ticket e (inr (none, (t, file, is, has, why, rose, becomes))) = absurd (never-rose file rose)

    deed-fine : (d : Deed) → whole ≡ first ++ event n d ∷ later → Case places 0 d m next → IsFine d
    deed-fine (OpenNew pool size prefer (Err e)) cut h = λ plain. open-fine pool size prefer e plain cut h
    deed-fine (WritePiece ticket bytes (Err e)) cut h = write-fine ticket bytes e h
    deed-fine (Seal ticket (Err e)) cut h = seal-fine ticket e h
    deed-fine (Commit asked tickets (Err e)) cut h = λ one. commit-fine asked tickets e one cut h
    deed-fine d cut h = tt

  fine-walk : (first rest : List Event) (m : Machine) → whole ≡ first ++ rest → Each HasTickets rest → Alone trusted places 0 first start m → Alone trusted places 0 rest m new → AreFine rest
  fine-walk first [] m cut has made same = tt
  fine-walk first (e ∷ rest) m cut has made (next, moved, more) =
      let s = ticket-step trusted places e m next has.0 moved in
      let on_next = alone-onward trusted places rest next new more in
      let on = onward-then m next new (onward-later m next s.0) on_next in (
        deed-fine first rest e.n m next made on on_next e.deed cut s.1,
        fine-walk (first ++ e ∷ []) rest next (cut ∙ sym (append_assoc first (e ∷ []) rest)) has.1 (alone-append trusted places 0 first (e ∷ []) start m next made (next, moved, refl)) more,
      )

-- ---- a backup

sends-has : (P : Change → Type 0) (whole events : List Event) → AllSend P whole events → Each HasTickets events
sends-has P whole [] h = tt
sends-has P whole (e ∷ events) h = (has-tickets P whole e.deed h.0, sends-has P whole events h.1)

begins-rise : (node filespace : List ℕ) (choice : List Rule) (told : Option Files) (before after : ℕ) (events : List Event) (b : Begun) → Begins node filespace choice told before after events (Ok b) → before ≤ after
begins-rise node filespace choice told before after events b (basis, asked, (files, listing, planned)) = listing.rises

module _ (trusted : Type 0) (places : Places) (choice : List Rule) (i : IncrementalBackup) (told : Option Files) (old start new : Machine) (before after : ℕ) (room : HasRoomForAll trusted places choice i told old) (still : IsStill old start)
    (rest : IsAtRest old.core) (calm : Rose before after → ⊥) (sound : (file : ℕ) → RoseFrom old new file → ⊥) where
  all-fine : (events : List Event) (result : Result Sent Refusal) → Increments i.node i.filespace choice told before after events result → Alone trusted places 0 events start new → AreFine events
  all-fine events result order alone =
      let rested = rest-as start.core old.core still.core rest in
      let sends = backup-sends trusted places choice i told before events start new rested (orders-of i.node i.filespace choice told before after events result order) alone in
      fine-walk trusted places choice i told old start new before after result events room still order calm sound [] events start refl (sends-has (IsOfBackup choice i told (database start)) events events sends) refl alone

  plan-none : (b : Begun) (count : ℕ) (o : Outs) (events xs ys : List Event) → events ≡ xs ++ ys → Begins i.node i.filespace choice told before count xs (Ok b) → Finishes i.node i.filespace b told count after ys (Ok o) → AreFine events
      → Alone trusted places 0 events start new → failed_of b.plan o ≡ []
  plan-none b count o events xs ys cut begins finishes fine alone =
      let rested = rest-as start.core old.core still.core rest in
      let parts = alone-parts trusted places 0 events xs ys start new cut alone in
      let p = begun-plan trusted places choice i told before count b xs start parts.0 rested begins parts.1 in
      let planned : ArePlanned choice i told (database start) = subst (λ (c : Core). ArePlanned choice i told (inventory c)) (sym still.core) room.planned in
      let of_plan = planned b.plan p.0 in
      let can : AllByRecursion (CanBeSent b.classes told) b.plan.send = subst (λ (r : Rules). AllByRecursion (CanBeSent r told) b.plan.send) p.2 of_plan.1 in
      let low : before ≤ count = begins-rise i.node i.filespace choice told before count xs b begins in
      failed-none b.plan o of_plan.0
      (finishes-none told b can i.node i.filespace count after ys o (λ rose. calm (omega (arith, low, rose))) (fine-parts events xs ys cut fine).1 finishes)

  -- where a backup answers that has room for all its files none of them failed
  backup-none : (events : List Event) (s : Sent) → Increments i.node i.filespace choice told before after events (Ok s) → Alone trusted places 0 events start new → s.failed ≡ []
  backup-none events s (inl (e, begins, is)) alone = absurd cc
  backup-none events s (inr (inl (b, count, e, steps, is))) alone = absurd cc
  backup-none events s (inr (inr (b, count, o, (xs, ys, cut, begins, finishes), is))) alone =
      ap (λ (x : Sent). x.failed) is
      ∙ plan-none b count o events xs ys cut begins finishes (all-fine events (Ok s) (inr (inr (b, count, o, (xs, ys, cut, begins, finishes), is))) alone) alone

-- ---- a version

abbrev IsOther : Refusal → Type 0
IsOther e = is_unrestored e ≡ false

abbrev own_of_piece : Digest → (at wanted : ℕ) → Journal → (object : ℕ) → Option Version → List Refusal
own_of_piece kept at wanted j object found =
    unless (nat_le wanted most_bytes) bad_value
    ++ of_version j object (λ w.
    unless (has_copy_in 0 w) refused.NotFound
    ++ (unless (nat_le at w.size) bad_value
    ++ unless (is_same_name w.digest.0 kept.0) (refused.DigestDiffers w.digest kept))) found

same-other : (b : Bool) (w : Version) (kept : Digest) → b ≡ true → AllByRecursion (λ e. is_unrestored e ≡ false) (unless b (refused.DigestDiffers w.digest kept))
same-other true w kept is = tt
same-other false w kept is = absurd (true≢false (sym is))

own-other : (kept : Digest) (at wanted : ℕ) (j : Journal) (object : ℕ) (w : Version) → w.digest ≡ kept → AllByRecursion (λ e. is_unrestored e ≡ false) (own_of_piece kept at wanted j object (Some w))
own-other kept at wanted j object w same =
    append-all IsOther (unless (nat_le wanted most_bytes) bad_value) _ (unless-all IsOther (nat_le wanted most_bytes) bad_value refl)
    (append-all IsOther (unless (has_copy_in 0 w) refused.NotFound) _ (unless-all IsOther (has_copy_in 0 w) refused.NotFound refl)
    (append-all IsOther (unless (nat_le at w.size) bad_value) _ (unless-all IsOther (nat_le at w.size) bad_value refl)
    (same-other (is_same_name w.digest.0 kept.0) w kept (ap (λ (d : Digest). is_same_name d.0 kept.0) same ∙ same-self kept.0))))

stops-other : (m : Machine) (e : Refusal) → Stops m e → is_unrestored e ≡ false
stops-other m e (inl (is, late)) = ap is_unrestored is
stops-other m e (inr is) = ap is_unrestored is

reading-cut : (xs ys : List Event) → AreReading (xs ++ ys) → AreReading xs × AreReading ys
reading-cut [] ys h = (tt, h)
reading-cut (x ∷ xs) ys h = let r = reading-cut xs ys h.1 in ((h.0, r.0), r.1)

reading-parts : (events xs ys : List Event) → events ≡ xs ++ ys → AreReading events → AreReading xs × AreReading ys
reading-parts events xs ys cut h = reading-cut xs ys (subst AreReading cut h)

-- how many of what came failed
abbrev IsWhole : Result Gave Refusal → Type 0
IsWhole (Ok gave.Restored) = Unit {0}
IsWhole (Ok (gave.Failed e)) = ⊥
IsWhole (Err e) = Unit {0}

given-whole : (e : Refusal) (b : Bool) → b ≡ false → IsWhole (if b then Ok (gave.Failed e) else Err (stopping e))
given-whole e true h = absurd (true≢false h)
given-whole e false h = tt

same-weight : (g : Gave) → IsWhole (Ok g) → failed_weight g ≡ 0
same-weight gave.Restored h = refl
same-weight (gave.Failed e) h = absurd h

module _ (trusted : Type 0) (trust : trusted) (places : Places) (l : RestoreLine) (before after : ℕ) (calm : Rose before after → ⊥) where
  abbrev s : Stored
  s = l.stored

  -- its bytes are those of its object
  digest-same : (events : List Event) (m new : Machine) (digest : Digest) → m.core.fault ≡ None → CanBeGiven m l → ReadsAll s before after events (Ok digest) → Alone trusted places 0 events m new → s.digest ≡ digest
  digest-same events m new digest none (w, at, kept, copy, among, readable, sized, hashed) (reads, long, is) alone =
      let r = reads-on trusted places s 0 events m new none reads alone in
      let all : read_in events ≡ m.contents s.object = r.bytes trust ∙ take_all (length (read_in events)) (m.contents s.object) (omega (arith, sized, long)) in
      hashed ∙ ap (λ (bytes : List ℕ). digest_with (sha256 bytes)) (sym all) ∙ sym is

  -- a piece of it isn't refused
  missed-other : (at wanted count : ℕ) (e : Refusal) (m new : Machine) → CanBeGiven m l → ((file : ℕ) → RoseAt m.counts new.counts file → ⊥)
      → (Stops new e ⊎ (foremost (read_refused s.object s.digest 0 at wanted (sight 0 m.core)) ≡ Some e)) ⊎ ((e ≡ refused.Unavailable) × CantRead s.object 0 at count m new) → is_unrestored e ≡ false
  missed-other at wanted count e m new can sound (inl (inl stops)) = stops-other new e stops
  missed-other at wanted count e m new (w, there, kept, copy, among, readable, sized, hashed) sound (inl (inr held)) =
      foremost-all (λ x. is_unrestored x ≡ false) (own_of_piece s.digest at wanted (sight 0 m.core).journal s.object (Some w)) (own-other s.digest at wanted (sight 0 m.core).journal s.object w kept) e
      (subst (λ (o : Option Version). foremost (own_of_piece s.digest at wanted (sight 0 m.core).journal s.object o) ≡ Some e) there held)
  missed-other at wanted count e m new (w, there, kept, copy, among, readable, sized, hashed) sound (inr (is, cant)) =
      let lost = subst (λ (o : Option Version). IsLostFor m new 0 at count o) there cant in
      absurd (not-lost (RoseAt m.counts new.counts) (database m) at count copy sound readable (contained_holds (IsCopyLost (RoseAt m.counts new.counts) (database m) at count) w.copies copy among lost))

  piece-other : (at wanted : ℕ) (e : Refusal) (events : List Event) (m new : Machine) → m.core.fault ≡ None → CanBeGiven m l → ((file : ℕ) → RoseAt m.counts new.counts file → ⊥)
      → Made (ReadPiece s.object s.digest 0 at wanted (Err e)) events → Alone trusted places 0 events m new → is_unrestored e ≡ false
  piece-other at wanted e events m new none can sound made alone =
      elim (read-step trusted places s.object s.digest at wanted (Err e) events m new none made alone) as (λ _. is_unrestored e ≡ false) [
        | inl h ↦ missed-other at wanted (read_count s.object wanted at (inventory m.core)) e m new can sound h.2
        | inr h ↦ ap is_unrestored (same_Some e refused.Memory h.0)
      ]

  misses-other : (at : ℕ) (e : Refusal) (events : List Event) (m new : Machine) → m.core.fault ≡ None → CanBeGiven m l → ((file : ℕ) → RoseAt m.counts new.counts file → ⊥) → Misses s at before after e events
      → Alone trusted places 0 events m new → is_unrestored e ≡ false
  misses-other at e events m new none can sound (inl (wanted, made)) alone = piece-other at wanted e events m new none can sound made alone
  misses-other at e events m new none can sound (inr (inl (wanted, made, is))) alone = ap is_unrestored is
  misses-other at e events m new none can sound (inr (inr (reads, tree))) alone = absurd (calm tree.1)

  -- what has this database and these bytes has them later
  can-since : (m next : Machine) → Became m.core m next → CanBeGiven m l → CanBeGiven next l
  can-since m next b can = subst (λ (x : Machine). CanBeGiven x l) (sym (is-as m.core m next b)) can

  breaks-other : (e : Refusal) (events : List Event) (m new : Machine) → m.core.fault ≡ None → CanBeGiven m l → ((file : ℕ) → RoseAt m.counts new.counts file → ⊥) → AreReading events → Breaks s before after e events
      → Alone trusted places 0 events m new → is_unrestored e ≡ false
  breaks-other e events m new none can sound reading (inl (xs, ys, cut, reads, less, missed)) alone =
      let parts = alone-parts trusted places 0 events xs ys m new cut alone in
      let still = (reads-walk trusted places xs m parts.0 none (reading-parts events xs ys cut reading).0 parts.1).still in
      misses-other (length (read_in xs)) e ys parts.0 new (ap (λ (c : Core). c.fault) still.core ∙ none) (can-since m parts.0 still can) (λ file rose. sound file (rose-from m parts.0 new file still.onward rose)) missed parts.2
  breaks-other e events m new none can sound reading (inr (inl (digest, reads, differ, is))) alone = absurd (differ (digest-same events m new digest none can reads alone))
  breaks-other e events m new none can sound reading (inr (inr (inl (reads, tree)))) alone = absurd (calm tree.1)
  breaks-other e events m new none can sound reading (inr (inr (inr (empty, tree)))) alone = absurd (calm tree.1)

  one-whole : (result : Result Gave Refusal) (events : List Event) (m new : Machine) → m.core.fault ≡ None → CanBeGiven m l → ((file : ℕ) → RoseAt m.counts new.counts file → ⊥) → AreReading events → RestoresOne s before after events result
      → Alone trusted places 0 events m new → IsWhole result
  one-whole result events m new none can sound reading (inl (reads, is)) alone = subst IsWhole (sym is) tt
  one-whole result events m new none can sound reading (inr (e, breaks, is)) alone =
      subst IsWhole (sym is) (given-whole e (is_unrestored e) (breaks-other e events m new none can sound reading breaks alone))

-- ---- a restore

gives-rise : (lines : List RestoreLine) (given : List Gave) (before after : ℕ) (told told_new : Option Files) (events : List Event) → Gives lines given before after told told_new events → before ≤ after
gives-rise [] [] before after told told_new events h = (let same : after ≡ before = h.1 in omega (arith, same))
gives-rise [] (g ∷ given) before after told told_new events h = absurd h
gives-rise (l ∷ lines) [] before after told told_new events h = absurd h
gives-rise (l ∷ lines) (g ∷ given) before after told told_new events (xs, ys, count, between, cut, one, rest) =
    let low : before ≤ count = one.rises in
    let high : count ≤ after = gives-rise lines given count after between told_new ys rest in
    omega (arith, low, high)

all-since : (lines : List RestoreLine) (m next : Machine) → Became m.core m next → AllByRecursion (CanBeGiven m) lines → AllByRecursion (CanBeGiven next) lines
all-since lines m next b can = subst (λ (x : Machine). AllByRecursion (CanBeGiven x) lines) (sym (is-as m.core m next b)) can

module _ (trusted : Type 0) (trust : trusted) (places : Places) where
  gives-none : (lines : List RestoreLine) (given : List Gave) (before after : ℕ) (told told_new : Option Files) (events : List Event) (m new : Machine) → m.core.fault ≡ None → (Rose before after → ⊥)
      → ((file : ℕ) → RoseAt m.counts new.counts file → ⊥) → AllByRecursion (CanBeGiven m) lines → AreReading events → Gives lines given before after told told_new events → Alone trusted places 0 events m new → failed_gave given ≡ 0
  gives-none [] [] before after told told_new events m new none calm sound can reading h alone = refl
  gives-none [] (g ∷ given) before after told told_new events m new none calm sound can reading h alone = absurd h
  gives-none (l ∷ lines) [] before after told told_new events m new none calm sound can reading h alone = absurd h
  gives-none (l ∷ lines) (g ∷ given) before after told told_new events m new none calm sound can reading (xs, ys, count, between, cut, one, rest) alone =
      let parts = alone-parts trusted places 0 events xs ys m new cut alone in
      let read = reading-parts events xs ys cut reading in
      let still = (reads-walk trusted places xs m parts.0 none read.0 parts.1).still in
      let more = alone-onward trusted places ys parts.0 new parts.2 in
      let low : before ≤ count = one.rises in
      let high : count ≤ after = gives-rise lines given count after between told_new ys rest in
      let first : failed_weight g ≡ 0 =
      same-weight g
      (one-whole trusted trust places l before count (λ rose. calm (omega (arith, high, rose))) (Ok g) xs m parts.0 none can.0 (λ file rose. sound file (rose-on m parts.0 new file rose more)) read.0 one.order parts.1) in
      let others : failed_gave given ≡ 0 =
      gives-none lines given count after between told_new ys parts.0 new (ap (λ (c : Core). c.fault) still.core ∙ none) (λ rose. calm (omega (arith, low, rose))) (λ file rose. sound file (rose-from m parts.0 new file still.onward rose))
      (all-since lines m parts.0 still can.1) read.1 rest parts.2 in
      omega (arith, first, others)

-- ---- results

abbrev failed_by : Result Outcome Refusal → ℕ
failed_by (Ok it) = failed_in it
failed_by (Err e) = 0

on-failed : {A : Type 0} (f : A → Outcome) → ((x : A) → failed_in (f x) ≡ 0) → (r : Result A Refusal) → failed_by (on_ok f r) ≡ 0
on-failed f none (Ok x) = none x
on-failed f none (Err e) = refl

tells-failed : (told said : Result Outcome Refusal) (old new : Machine) → failed_by told ≡ 0 → (said ≡ told) ⊎ ((e : Refusal) × (said ≡ Err e) × EndsRun old new e) → failed_by said ≡ 0
tells-failed told said old new none (inl is) = ap failed_by is ∙ none
tells-failed told said old new none (inr (e, is, ends)) = ap failed_by is

-- no file fails in a change
pub last-failed : (what : Change) → failed_in (came.Said (last_of what)) ≡ 0
last-failed (change.Day day) = refl
last-failed (change.Pool (store.Volume verb.Delete name pool file capacity access)) = refl
last-failed what = refl

-- ---- work on a tree

absent-not : (b : Bool) (x : Restored) (it : Outcome) → ◌≡◌ {A = Result Outcome Refusal} (Ok it) (if b then Err refused.NotFound else Ok (came.Restored x)) → it ≡ came.Restored x
absent-not true x it is = absurd cc
absent-not false x it is = cc

module _ (trusted : Type 0) (places : Places) (k : Client) (old new : Machine) (rest : IsAtRest old.core) (sound : (file : ℕ) → RoseFrom old new file → ⊥) where
  -- what is answered of a restore
  restored-none : (r : FilesRestore) (before after : Known) (trust : trusted) (it : Outcome) (start : Machine) (events : List Event) → (Rose before.faults after.faults → ⊥)
      → ((lines : List RestoreLine) → IsChosen r (database old) lines → AllByRecursion (CanBeGiven old) lines) → IsStill old start → Alone trusted places 0 events start new → GivesWanted r before after events (Ok it)
      → GivesChosen r (database old) before after (Ok it) → failed_in it ≡ 0
  restored-none r before after trust it start events calm can still alone (inr (e, why, empty, same, is)) chosen = absurd cc
  restored-none r before after trust it start events calm can still alone (inl (versions, of, (Err e, restores, is))) chosen = absurd cc
  restored-none r before after trust it start events calm can still alone (inl (versions, of, (Ok x, (xs, ys, cut, begins, gives), is))) chosen =
      let same : it ≡ came.Restored x = absent-not (is_absent r.wanted x.lines) x it is in
      let at_start : Became old.core old start = record { core = still.core; contents = still.contents; onward = still.onward } in
      let among = (subst (λ (o : Outcome). GivesChosen r (database old) before after (Ok o)) same chosen).0 in
      let parts = alone-parts trusted places 0 events xs ys start new cut alone in
      let reading = restores-reading r.node r.filespace versions before.faults after.faults before.files after.files events (Ok x) (xs, ys, cut, begins, gives) in
      let read = reading-parts events xs ys cut reading in
      let free : start.core.fault ≡ None = ap (λ (c : Core). c.fault) still.core ∙ rest.fault in
      let walked = (reads-walk trusted places xs start parts.0 free read.0 parts.1).still in
      let at : Became old.core old parts.0 = became-still old.core old start parts.0 at_start walked in
      ap failed_in same
      ∙ gives-none trusted trust places x.lines x.gave before.faults after.faults before.files after.files ys parts.0 new (ap (λ (c : Core). c.fault) at.core ∙ rest.fault) calm
      (λ file rose. sound file (rose-from old parts.0 new file at.onward rose)) (all-since x.lines old parts.0 at (can x.lines among)) read.1 gives parts.2

  none-shown : (told : Sent) (it : Outcome) → told.failed ≡ [] → ShowsSent (Ok told) (Ok it) → failed_in it ≡ 0
  none-shown told (came.Sent shown) none h = length_permutation told.failed shown.failed h.same ∙ ap (λ (fs : List Failure). length fs) none
  none-shown told it none h = absurd h

  -- what is answered of a backup
  backed-none : (i : IncrementalBackup) (before after : Known) (it : Outcome) (start : Machine) (events : List Event) → (Rose before.faults after.faults → ⊥) → HasRoomForAll trusted places k.choice i before.files old → IsStill old start
      → Alone trusted places 0 events start new → BacksUp k.choice i before after events (Ok it) → failed_in it ≡ 0
  backed-none i before after it start events calm room still alone (Err e, did, kept, shows) = absurd cc
  backed-none i before after it start events calm room still alone (Ok told, did, kept, shows) =
      none-shown told it (backup-none trusted places k.choice i before.files old start new before.faults after.faults room still rest calm sound events told did.order alone) shows

  there-none : (work : OnTree) (it : Outcome) (added : List Entry) → HasRoomOn trusted places k work old → DoesThere trusted places k work old new (Ok it) added → failed_in it ≡ 0
  there-none (write w) it added room (inl (before, after, turns, ((answer, writes, is), still, none))) = ap failed_by is ∙ on-failed (λ x. came.Said shown.Done) (λ x. refl) answer
  there-none (write w) it added room (inr (missing, kept, is, stays, none)) = absurd cc
  there-none (erase e) it added room (inl (before, after, turns, ((answer, erases, is), still, none))) = ap failed_by is ∙ on-failed (λ x. came.Said shown.Done) (λ x. refl) answer
  there-none (erase e) it added room (inr (missing, kept, is, stays, none)) = absurd cc
  there-none (back_up i) it added room (inl (before, after, turns, ((start, events, still, alone, did), are, image, keeps, have, why))) = backed-none i before after it start events (room.0 before after turns) (room.1 before after turns) still alone did
  there-none (back_up i) it added room (inr (missing, kept, is, stays, none)) = absurd cc
  there-none (restore r) it added room (inl (before, after, turns, ((start, events, still, alone, did), chosen, ends, stays, none))) =
      restored-none r before after room.1 it start events (room.0 before after turns) room.2 still alone did chosen
  there-none (restore r) it added room (inr (missing, kept, is, stays, none)) = absurd cc

  own-none : (own : Own) (numbers : List ℕ) (it : Outcome) (added : List Entry) → HasRoomOwn trusted places k numbers own old → DoesOwn trusted places k numbers own old new (Ok it) added → failed_in it ≡ 0
  own-none (on_tree work) numbers it added room h = there-none work it added room h
  own-none (validate set) numbers it added room (kept, h) = tells-failed _ (Ok it) old new (on-failed (λ x. came.Said shown.Done) (λ x. refl) (validated set (database old))) h.0
  own-none (put p) numbers it added room (kept, (answer, puts, is, image)) = ap failed_by is ∙ on-failed (λ object. came.Said (shown.Stored object)) (λ x. refl) answer
  own-none (get g) numbers it added room (kept, (answer, gets, is, none, image, bytes)) = ap failed_by is ∙ on-failed came.Read (λ x. refl) answer
  own-none checkpoint numbers it added room (kept, (answer, made, is, none, bytes)) = ap failed_by is ∙ on-failed (λ seq. came.Said shown.Done) (λ x. refl) answer
  own-none expire numbers it added room (kept, ((start, events, still, alone, (answer, did, is)), are, image, bytes, why)) = ap failed_by is ∙ on-failed (λ expired. came.Said (shown.Expired expired 0)) (λ x. refl) answer
  own-none empty_filespace numbers it added room (kept, ((start, events, still, alone, (answer, did, is)), are, image, bytes, why)) =
      ap failed_by is ∙ on-failed (λ discarded. came.Said (shown.DiscardedFilespace discarded 0)) (λ x. refl) answer
  own-none empty_volume numbers it added room (kept, ((start, events, still, alone, (answer, did, is)), are, image, bytes, why)) =
      ap failed_by is ∙ on-failed (λ (went : Removed). came.Said (shown.DeletedVolume went.discarded went.dropped)) (λ x. refl) answer
  own-none back_up_pool numbers it added room (kept, ((start, events, still, alone, did), are, image, bytes, why)) = copies-none trusted places k.choice numbers old start new still sound events alone it room did
  own-none (moves mover) numbers it added room (kept, ((start, events, still, alone, did), are, image, bytes, why)) = moves-none trusted places k.choice numbers old start new still sound events alone mover it room did
  own-none back_up_database numbers it added room (kept, ((start, events, still, alone, (answer, did, is)), are, image, bytes, why)) = ap failed_by is ∙ on-failed backed_up (λ x. refl) answer
  own-none back_up_since numbers it added room (kept, ((start, events, still, alone, (answer, did, is)), are, image, bytes, why)) = ap failed_by is ∙ on-failed backed_up (λ x. refl) answer
  own-none (delete_history to) numbers it added room (kept, ((start, events, still, alone, (answer, did, is)), are, image, bytes, why)) =
      ap failed_by is ∙ on-failed (λ deleted. came.Said (shown.DeletedHistory deleted)) (λ x. refl) answer
  own-none (audit_volume fix) numbers it added room (kept, ((start, events, still, alone, (answer, did, is)), are, image, bytes, why)) = ap failed_by is ∙ on-failed came.Audited (λ x. refl) answer
  own-none none_but_reuse numbers it added room (kept, h) = tells-failed (Ok (came.Said (shown.Reused 0))) (Ok it) old new refl h.0
  own-none none_yet numbers it added room (kept, h) = tells-failed (Err (refused.UnknownWord 1)) (Ok it) old new refl h.0

-- ---- what comes behind it

within-done : (said : Result Outcome Refusal) (it : Outcome) → Ok it ≡ within_run said → said ≡ Ok it
within-done (Ok x) it h = sym h
within-done (Err (refused.LogFault file count)) it h = absurd cc
within-done (Err refused.RunFull) it h = absurd cc
within-done (Err e) it h = absurd cc

forced-done : (said : Result Outcome Refusal) (it : Outcome) (events : List Event) → Forcing said events (Ok it) → said ≡ Ok it
forced-done said it events (Ok number, made, is) = within-done said it is
forced-done said it events (Err e, made, is) = absurd cc

-- how many volumes are used again changes nothing of what failed
line-reused : (number : ℕ) (line : Shown) → failed_in (came.Said (line_reused number line)) ≡ failed_in (came.Said line)
line-reused number (shown.Reused before) = refl
line-reused number (shown.Expired expired before) = refl
line-reused number (shown.DiscardedFilespace discarded before) = refl
line-reused number (shown.Moved moved failed before) = refl
line-reused number (shown.RestoredCopies restored failed before) = refl
line-reused number line = refl

same-reused : (number : ℕ) (it : Outcome) → failed_in (with_reused number it) ≡ failed_in it
same-reused number (came.Said line) = line-reused number line
same-reused number it = refl

pub reused-done : (said : Result Outcome Refusal) (it : Outcome) (events : List Event) → Reusing said events (Ok it) → (x : Outcome) × (said ≡ Ok x) × (failed_in it ≡ failed_in x)
reused-done (Ok x) it events (Ok number, reuse, is) = (x, refl, ap failed_by is ∙ same-reused number x)
reused-done (Ok x) it events (Err e, reuse, is) = absurd cc
reused-done (Err e) it events (none, is) = absurd cc

-- the work behind which something came was done, and as much of it failed
behind-done : (trusted : Type 0) (places : Places) (b : Behind) (said : Result Outcome Refusal) (it : Outcome) (mid new : Machine) → EndsWith trusted places b said mid new (Ok it)
    → ((x : Outcome) × (said ≡ Ok x) × (failed_in it ≡ failed_in x)) × Onward mid new
behind-done trusted places no_more said it mid new (same, is) = ((it, sym is, refl), subst (λ (x : Machine). Onward mid x) (sym same) (onward-none mid))
behind-done trusted places forces said it mid new (events, alone, forcing, image, bytes, reason) = ((it, forced-done said it events forcing, refl), alone-onward trusted places events mid new alone)
behind-done trusted places reuses said it mid new (events, alone, (came_so, (xs, ys, cut, reusing, forcing)), image, bytes, reason) =
    let is : came_so ≡ Ok it = forced-done came_so it ys forcing in
    (reused-done said it xs (subst (λ (r : Result Outcome Refusal). Reusing said xs r) is reusing), alone-onward trusted places events mid new alone)

-- ---- a line

module _ (trusted : Type 0) (places : Places) (k : Client) (c : Command) (old : Machine) (rest : IsAtRest old.core) where
  does-none : (w : Result Work Refusal) (it : Outcome) (mid : Machine) (added : List Entry) → ((file : ℕ) → RoseFrom old mid file → ⊥) → HasRoomBy trusted places k (own_of c) w old → Does trusted places k c w old mid (Ok it) added
      → failed_in it ≡ 0
  does-none (Err why) it mid added sound room (kept, h) = tells-failed (Err why) (Ok it) old mid refl h.0
  does-none (Ok (Committing what)) it mid added sound room (kept, answer, commits, is, image, bytes) = ap failed_by is ∙ on-failed (λ number. came.Said (last_of what)) (λ x. last-failed what) answer
  does-none (Ok (Show query)) it mid added sound room (kept, h) = tells-failed _ (Ok it) old mid (on-failed came.Rows (λ x. refl) (answered query (database old))) h.0
  does-none (Ok (Run numbers)) it mid added sound room h = own-none trusted places k old mid rest sound (own_of c) numbers it added room h

  with-none : (w : Result Work Refusal) (b : Behind) (it : Outcome) (mid : Machine) (added : List Entry) → ((file : ℕ) → RoseFrom old mid file → ⊥) → HasRoomBy trusted places k (own_of c) w old
      → WorksWith trusted places k c w b old mid (Ok it) added → failed_in it ≡ 0
  with-none w b it mid added sound room h =
      let d = behind-done trusted places b h.said it h.mid mid h.ends in
      d.0.2 ∙ does-none w d.0.0 h.mid h.first (λ file rose. sound file (rose-on old h.mid mid file rose d.1)) room (subst (λ (r : Result Outcome Refusal). Does trusted places k c w old h.mid r h.first) d.0.1 h.does)

  works-none : (w : Result Work Refusal) (b : Behind) (it : Outcome) (mid : Machine) (added : List Entry) → ((file : ℕ) → RoseFrom old mid file → ⊥) → HasRoomBy trusted places k (own_of c) w old
      → Works trusted places k c w b old mid (Ok it) added → failed_in it ≡ 0
  works-none w no_more it mid added sound room h = does-none w it mid added sound room h
  works-none (Err why) forces it mid added sound room (kept, h) = tells-failed (Err why) (Ok it) old mid refl h.0
  works-none (Err why) reuses it mid added sound room (kept, h) = tells-failed (Err why) (Ok it) old mid refl h.0
  works-none (Ok work) forces it mid added sound room h = with-none (Ok work) forces it mid added sound room h
  works-none (Ok work) reuses it mid added sound room h = with-none (Ok work) reuses it mid added sound room h

  comes-none : (said : Result Outcome Refusal) (mid : Machine) (added : List Entry) → ((file : ℕ) → RoseFrom old mid file → ⊥) → HasRoomBy trusted places k (own_of c) (work_over c (database old)) old
      → Comes trusted places k c old mid said added → failed_by said ≡ 0
  comes-none (Err e) mid added sound room h = refl
  comes-none (Ok it) mid added sound room (inl (kept, e, is, ends, none, image, bytes), full) = absurd cc
  comes-none (Ok it) mid added sound room (inr works, full) = works-none (work_over c (database old)) (behind c) it mid added sound room works

failed-said : (n : ℕ) (said : Result Outcome Refusal) (answer : Answer) (why : Option Refusal) → Ends n said (Ok (answer, why)) → answer.tally.failed ≡ failed_by said
failed-said n (Ok it) answer why h = ap (λ (p : Answer × Option Refusal). p.0.tally.failed) h
failed-said n (Err e) answer why h = ap (λ (p : Answer × Option Refusal). p.0.tally.failed) h.1

-- in a line of which this holds no file fails
pub says-none : (trusted : Type 0) (places : Places) (k : Client) (n : ℕ) (line : Line) (old mid : Machine) (answer : Answer) (why : Option Refusal) (added : List Entry)
    → Says trusted places k n line old answer why added mid → NoneFails trusted places k line old mid answer
says-none trusted places k n comment old mid answer why added (kept, is, w, none, same) = λ rest sound room. ap (λ (a : Answer). a.tally.failed) is
says-none trusted places k n (refused_line given) old mid answer why added (kept, is, w, none, same) = λ rest sound room. ap (λ (a : Answer). a.tally.failed) is
says-none trusted places k n (asks c) old mid answer why added (said, came_so, ends) =
    λ rest sound room. failed-said n said answer why ends ∙ comes-none trusted places k c old rest said mid added sound room came_so
