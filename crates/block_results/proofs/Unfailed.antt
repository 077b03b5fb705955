-- No file fails in a backup of a tree that has room at each state that its steps meet, and no object in a process that has room for its copies and can read them.
use Rattle.std.proofs.Common.{◌≡◌, ◌∙◌, inl, inr, ℕ, ◌+◌, ◌≤◌, ◌==◌, if◌then◌else◌, Bool, true, false, List, [], ◌∷◌, ◌++◌, length, Option, None, Some, Result, Ok, Err, refl, sym, ap, subst, append_assoc, arith}
use Rattle.std.proofs.lemmas.Bool.{eqb-true}
use Rattle.std.proofs.lemmas.List.Sorted.{length_permutation}
use Rattle.std.specs.List.{AllByRecursion}
use Rattle.std.specs.Option.{option_map_or}
use Rattle.kinds.specs.Refusals.{foremost, number_of}
use Rattle.kinds.specs.declared.refusal.Refusal.{Refusal}
use Rattle.kinds.specs.declared.refusal.Refusal.TheVariants as refused
use Rattle.choosers.specs.declared.rule.Rule.{Rule}
use Rattle.blocks.specs.Shapes.{Placed}
use Rattle.blocks.specs.declared.block.Fate.{Fate}
use Rattle.blocks.specs.declared.block.Fate.TheVariants.{Beyond, Done}
use Rattle.entries.specs.declared.change.Change.{Change}
use Rattle.admin_words.specs.declared.command.Command.{Command}
use Rattle.admin_words.specs.declared.command.Command.TheVariants as commands
use Rattle.admin_words.specs.declared.command.FileCommand.TheVariants as files
use Rattle.admin_words.specs.declared.files.FilesRestore.{FilesRestore}
use Rattle.admin_words.specs.declared.files.IncrementalBackup.{IncrementalBackup}
use Rattle.admin_commands.specs.Found.{filespace_named, number_found}
use Rattle.admin_commands.specs.Orders.{run, work_of}
use Rattle.inventory_rows.specs.version_groups.Entries.{if_found, on_ok}
use Rattle.admin_commands.specs.declared.work.Work.{Work}
use Rattle.admin_commands.specs.declared.work.Work.TheVariants.{Commit as CommitWork, Run, Show}
use Rattle.client_trees.specs.Files.{Files}
use Rattle.script_loop.specs.Reply.{Answer}
use Rattle.line_results.specs.client_files.Sending.{is_unopened}
use Rattle.client_batches.specs.Commits.{is_in_the_way}
use Rattle.line_results.specs.incrementals.Planning.{Begins}
use Rattle.line_results.specs.incrementals.Process.{Increments}
use Rattle.line_results.specs.incrementals.declared.answering.Failure.{Failure}
use Rattle.line_results.specs.incrementals.declared.answering.Sent.{Sent}
use Rattle.line_results.specs.incrementals.declared.planning.Begun.{Begun}
use Rattle.line_results.proofs.Copyable.{backed-none as pool-none, mover-none}
use Rattle.line_results.proofs.Roomy.{last-failed, reused-done}
use Rattle.line_results.proofs.Unfailed.{AreFine, IsFine, failed-none, fine-parts, finishes-none}
use Rattle.steps.specs.declared.asked.Asked.{Asked}
use Rattle.steps.specs.Events.{Deed, Event, refusal}
use Rattle.steps.specs.Events.Deed.{Commit, OpenNew, Seal, WritePiece}
use Rattle.machine.proofs.Elsewhere.{ended-all, foremost-all}
use Rattle.machine.specs.Changes.{are_so_many}
use Rattle.machine.specs.Machine.{Places, ended, held_refused}
use Rattle.machine.specs.State.{Core, Machine, sight}
use Rattle.machine.specs.Turns.{Turn, events_of}
use Rattle.crew.specs.Ran.{Turned}
use Rattle.tree_api.specs.Cause.{Rose}
use Rattle.line_results.specs.command_steps.Answers.{Ends, failed_in}
use Rattle.line_results.specs.command_steps.Clients.{Client, Known, Turns}
use Rattle.line_results.specs.command_steps.Behind.{Behind, behind, forces, no_more, reuses}
use Rattle.line_results.specs.command_steps.Doing.{Does, DoesOwn, DoesWork, Doing, EndsWork, Forcing, Reusing, within_run}
use Rattle.line_results.specs.command_steps.Jobs.{AnswersInJob, DoesInJob}
use Rattle.line_results.specs.command_steps.Lines.{Line, asks, comment, line_in, refused as refused_line}
use Rattle.line_results.specs.command_steps.Owns.{Own, back_up, back_up_pool, last_of, moves, own_of, restore}
use Rattle.line_results.specs.command_steps.Trees.{BacksUp, DoesThere, ShowsSent}
use Rattle.line_results.specs.command_steps.declared.outcome.Outcome.{Outcome}
use Rattle.line_results.specs.command_steps.declared.outcome.Outcome.TheVariants as came
use Rattle.line_results.specs.Resting.{RoseFrom}
use Rattle.line_results.specs.Room.{IsCalm, IsOfOne}
use Rattle.line_jobs.specs.Jobs.{AnswersFate, JobLine, between, lines_of}
use Rattle.line_jobs.specs.Shares.{AreDone, Came}
use Rattle.line_jobs.specs.declared.job.Said.{Said}
use Rattle.block_results.specs.Legal.{Passes}
use Rattle.block_results.specs.Refusing.{Failed, HasNoPlace, HasRisen, IsRefusedFor, Meets, held_reasons}
use Rattle.block_results.specs.Room.{AreUnfailed, CanGiveAll, CommandUnfailed, FateUnfailed, HasRoomForAll, HasRoomForCopies, JobsUnfailed, LineUnfailed, OwnUnfailed}
use Rattle.block_results.proofs.Based.{basis-in}
use Rattle.block_results.proofs.Came.{Said as SaidOf}
use Rattle.block_results.proofs.Copyable.{refuses-none}
use Rattle.block_results.proofs.JobsComplete.{AreCut, JobsCut, jobs-cut}
use Rattle.block_results.proofs.Restored.{restored-none}
use Rattle.block_results.proofs.Sized.{IsRun, found-run}
use Rattle.block_results.proofs.Turned.{have-causes, rose-within, turned_on}

-- ---- steps

-- what others hold isn't in the way of versions
stored-free : (b : Bool) (x : Change) (c : Core) → held_refused x c ≡ [] → option_map_or (λ y. held_refused y c) (if b then Some x else None) [] ≡ []
stored-free true x c h = h
stored-free false x c h = refl

one-free : (actor : ℕ) (asked : Asked) (tickets : List ℕ) (answer : Result ℕ Refusal) (c : Core) → IsOfOne asked → held_reasons actor (Commit asked tickets answer) c ≡ []
one-free actor asked tickets answer c (inl (filespace, line, is)) =
    subst (λ (a : Asked). held_reasons actor (Commit a tickets answer) c ≡ []) (sym is) (stored-free (are_so_many 1 tickets (sight actor c)) _ c refl)
one-free actor asked tickets answer c (inr (inl (filespace, line, is))) = subst (λ (a : Asked). held_reasons actor (Commit a tickets answer) c ≡ []) (sym is) refl
one-free actor asked tickets answer c (inr (inr (filespace, line, is))) = subst (λ (a : Asked). held_reasons actor (Commit a tickets answer) c ≡ []) (sym is) refl

never-held : (l : List Refusal) (e : Refusal) → l ≡ [] → foremost l ≡ Some e → ⊥
never-held l e none held = (let odd : None ≡ Some e = ap foremost (sym none) ∙ held in absurd cc)

never-both : (o : Option Refusal) (e : Refusal) → o ≡ None → o ≡ Some e → ⊥
never-both o e none is = (let odd : None ≡ Some e = sym none ∙ is in absurd cc)

module _ (trusted : Type 0) (places : Places) (actor : ℕ) (choice : List Rule) (i : IncrementalBackup) (told : Option Files) (turns : List Turn) (old new : Machine) (ran : Turned trusted places turns old new)
    (room : HasRoomForAll trusted places actor choice i told turns old new) (sound : (file : ℕ) → RoseFrom old new file → ⊥) where
  -- no count rose in a step of them
  never-rose : (t : Turn) (m : Meets trusted places turns old new t) (file : ℕ) → RoseFrom m.before m.after file → ⊥
  never-rose t m file rose = sound file (rose-within old m.before m.after new file (turned_on trusted places m.front old m.before m.led) rose (turned_on trusted places m.back m.after new m.leads))

  opened-failed : (t : Turn) (m : Meets trusted places turns old new t) (pool size prefer : ℕ) (e : Refusal) → Failed actor (OpenNew pool size prefer (Err e)) m.before m.after e → is_unopened e ≡ false
  opened-failed t m pool size prefer (refused.WriteFault file) h = absurd (never-rose t m file h)
  opened-failed t m pool size prefer (refused.LogFault file count) h = refl
  opened-failed t m pool size prefer e h = absurd h

  open-fine : (t : Turn) (m : Meets trusted places turns old new t) → t.actor ≡ actor → (pool size prefer : ℕ) (e : Refusal) → prefer ≡ 0 → t.did.deed ≡ OpenNew pool size prefer (Err e)
      → IsRefusedFor places actor (OpenNew pool size prefer (Err e)) m.before m.after e → is_unopened e ≡ false
  open-fine t m mine pool size prefer e plain is h =
      let at = room.placed t m mine pool size (Err e) (is ∙ ap (λ (n : ℕ). OpenNew pool size n (Err e)) plain) in
      elim h as (λ _. is_unopened e ≡ false) [
        | inl own ↦ absurd (never-both _ e at.0 own)
        | inr (inl none) ↦ (let busy = at.2 e (subst (λ (n : ℕ). HasNoPlace places actor (OpenNew pool size n (Err e)) m.before e) plain none) in ap is_unopened busy.1)
        | inr (inr (inl held)) ↦ absurd (never-held [] e refl held)
        | inr (inr (inr (inl bound))) ↦ absurd (never-both _ e at.1 bound)
        | inr (inr (inr (inr (inl over)))) ↦ foremost-all (λ x. is_unopened x ≡ false) (ended m.before) (ended-all (λ x. is_unopened x ≡ false) refl (λ file count. refl) m.before) e over
        | inr (inr (inr (inr (inr (inl failed))))) ↦ opened-failed t m pool size prefer e failed
        | inr (inr (inr (inr (inr (inr memory))))) ↦ ap is_unopened memory
      ]

  committed-failed : (t : Turn) (m : Meets trusted places turns old new t) (asked : Asked) (tickets : List ℕ) (e : Refusal) → Failed actor (Commit asked tickets (Err e)) m.before m.after e → is_in_the_way e ≡ false
  committed-failed t m asked tickets (refused.WriteFault file) h = absurd (never-rose t m file h)
  committed-failed t m asked tickets (refused.LogFault file count) h = refl
  committed-failed t m asked tickets e h = absurd h

  commit-fine : (t : Turn) (m : Meets trusted places turns old new t) → t.actor ≡ actor → (asked : Asked) (tickets : List ℕ) (e : Refusal) → IsOfOne asked → t.did.deed ≡ Commit asked tickets (Err e)
      → IsRefusedFor places actor (Commit asked tickets (Err e)) m.before m.after e → is_in_the_way e ≡ false
  commit-fine t m mine asked tickets e one is h =
      elim h as (λ _. is_in_the_way e ≡ false) [
        | inl own ↦ absurd (never-both _ e (room.free t m mine asked tickets (Err e) is one) own)
        | inr (inl none) ↦ absurd none
        | inr (inr (inl held)) ↦ absurd (never-held _ e (one-free actor asked tickets (Err e) m.before.core one) held)
        | inr (inr (inr (inl bound))) ↦ absurd (never-held [] e refl bound)
        | inr (inr (inr (inr (inl over)))) ↦ foremost-all (λ x. is_in_the_way x ≡ false) (ended m.before) (ended-all (λ x. is_in_the_way x ≡ false) refl (λ file count. refl) m.before) e over
        | inr (inr (inr (inr (inr (inl failed))))) ↦ committed-failed t m asked tickets e failed
        | inr (inr (inr (inr (inr (inr memory))))) ↦ ap is_in_the_way memory
      ]

  -- a step that writes to a volume
  wrote-fine : (e : Refusal) → ((file : ℕ) → e ≡ refused.WriteFault file → ⊥) → (number_of e == 25) ≡ false
  wrote-fine (refused.WriteFault file) never = absurd (never file refl)
  wrote-fine e never = refl

  abbrev Caused : Turn → Type 0
  Caused t = (why : Refusal) → refusal t.did.deed ≡ Some why → (m : Meets trusted places turns old new t) × IsRefusedFor places t.actor t.did.deed m.before m.after why × HasRisen t.did.deed why old new

  deed-fine : (t : Turn) (d : Deed) → t.did.deed ≡ d → t.actor ≡ actor → Caused t → IsFine d
  deed-fine t (OpenNew pool size prefer (Err e)) is mine caused = λ plain.
      (let c = caused e (ap refusal is) in open-fine t c.0 mine pool size prefer e plain is (subst (λ (a : ℕ). IsRefusedFor places a (OpenNew pool size prefer (Err e)) c.0.before c.0.after e) mine (subst (λ (x : Deed). IsRefusedFor places t.actor x c.0.before c.0.after e) is c.1)))
  deed-fine t (WritePiece ticket bytes (Err e)) is mine caused =
      let c = caused e (ap refusal is) in
      wrote-fine e (λ file same. sound file (subst (λ (x : Refusal). HasRisen (WritePiece ticket bytes (Err e)) x old new) same (subst (λ (x : Deed). HasRisen x e old new) is c.2)))
  deed-fine t (Seal ticket (Err e)) is mine caused =
      let c = caused e (ap refusal is) in
      wrote-fine e (λ file same. sound file (subst (λ (x : Refusal). HasRisen (Seal ticket (Err e)) x old new) same (subst (λ (x : Deed). HasRisen x e old new) is c.2)))
  deed-fine t (Commit asked tickets (Err e)) is mine caused = λ one.
      (let c = caused e (ap refusal is) in commit-fine t c.0 mine asked tickets e one is (subst (λ (a : ℕ). IsRefusedFor places a (Commit asked tickets (Err e)) c.0.before c.0.after e) mine (subst (λ (x : Deed). IsRefusedFor places t.actor x c.0.before c.0.after e) is c.1)))
  deed-fine t d is mine caused = tt

  all-fine : (some : List Turn) → AllByRecursion Caused some → AreFine (events_of actor some)
  all-fine [] h = tt
  all-fine (t ∷ some) h = elim (t.actor == actor) as (λ b. (t.actor == actor) ≡ b → AreFine (if b then t.did ∷ events_of actor some else events_of actor some)) [
    | true ↦ λ is. (deed-fine t t.did.deed refl (eqb-true t.actor actor is) h.0, all-fine some h.1)
    | false ↦ λ is. all-fine some h.1
  ] refl

  pub own-fine : AreFine (events_of actor turns)
  own-fine = all-fine turns (have-causes trusted places turns old new ran)

  -- ---- the backup

  begins-rise : (before after : ℕ) (events : List Event) (b : Begun) → Begins i.node i.filespace choice told before after events (Ok b) → before ≤ after
  begins-rise before after events b (basis, asked, (files, listing, planned)) = listing.rises

  backup-none : (before after : ℕ) (front events back : List Event) (s : Sent) → events_of actor turns ≡ front ++ (events ++ back) → (Rose before after → ⊥) → AreFine events
      → Increments i.node i.filespace choice told before after events (Ok s) → s.failed ≡ []
  backup-none before after front events back s all calm fine (inl (e, begins, is)) = absurd cc
  backup-none before after front events back s all calm fine (inr (inl (b, count, e, steps, is))) = absurd cc
  backup-none before after front events back s all calm fine (inr (inr (b, count, o, (xs, ys, cut, begins, finishes), is))) =
      let whole : events_of actor turns ≡ front ++ (xs ++ (ys ++ back)) = all ∙ ap (λ (l : List Event). front ++ (l ++ back)) cut ∙ ap (λ (l : List Event). front ++ l) (append_assoc xs ys back) in
      let basis = basis-in trusted places actor turns old new ran i begins.0 front xs (ys ++ back) whole begins.1 in
      let planned = room.planned begins.0 begins.2.0 b basis begins.2.1.listing begins.2.2 in
      let low : before ≤ count = begins-rise before count xs b begins in
      ap (λ (x : Sent). x.failed) is
      ∙ failed-none b.plan o planned.0 (finishes-none told b planned.1 i.node i.filespace count after ys o (λ rose. calm (omega (arith, low, rose))) (fine-parts events xs ys cut fine).1 finishes)

  none-shown : (said : Sent) (it : Outcome) → said.failed ≡ [] → ShowsSent (Ok said) (Ok it) → failed_in it ≡ 0
  none-shown said (came.Sent shown) none h = length_permutation said.failed shown.failed h.same ∙ ap (λ (fs : List Failure). length fs) none
  none-shown said it none h = absurd h

  pub backed-none : (before after : Known) (front events back : List Event) (it : Outcome) → before.files ≡ told → events_of actor turns ≡ front ++ (events ++ back) → (Rose before.faults after.faults → ⊥)
      → BacksUp choice i before after events (Ok it) → failed_in it ≡ 0
  backed-none before after front events back it same all calm (Err e, did, kept, shows) = absurd cc
  backed-none before after front events back it same all calm (Ok s, did, kept, shows) =
      let fine : AreFine events = (fine-parts (events ++ back) events back refl (fine-parts (events_of actor turns) front (events ++ back) all own-fine).1).0 in
      none-shown s it (backup-none before.faults after.faults front events back s all calm fine (subst (λ (f : Option Files). Increments i.node i.filespace choice f before.faults after.faults events (Ok s)) same did.order)) shows

-- ---- a line

abbrev failed_by : SaidOf → ℕ
failed_by (Ok it) = failed_in it
failed_by (Err e) = 0

failed-said : (n : ℕ) (said : SaidOf) (reply : Answer × Option Refusal) → Ends n said (Ok reply) → reply.0.tally.failed ≡ failed_by said
failed-said n (Ok it) reply h = ap (λ (p : Answer × Option Refusal). p.0.tally.failed) h
failed-said n (Err e) reply h = ap (λ (p : Answer × Option Refusal). p.0.tally.failed) h.1

within-done : (said : SaidOf) (it : Outcome) → Ok it ≡ within_run said → said ≡ Ok it
within-done (Ok x) it h = sym h
within-done (Err (refused.LogFault file count)) it h = absurd cc
within-done (Err refused.RunFull) it h = absurd cc
within-done (Err e) it h = absurd cc

forced-done : (said : SaidOf) (it : Outcome) (events : List Event) → Forcing said events (Ok it) → said ≡ Ok it
forced-done said it events (Ok number, made, is) = within-done said it is
forced-done said it events (Err e, made, is) = absurd cc

module _ (trusted : Type 0) (places : Places) (actor : ℕ) (k : Client) (i : IncrementalBackup) (turns : List Turn) (old new : Machine) (ran : Turned trusted places turns old new) (sound : (file : ℕ) → RoseFrom old new file → ⊥)
    (calm : IsCalm i.tree k) (room : (before : Known) (after : Known) → Turns i.tree before after k → HasRoomForAll trusted places actor k.choice i before.files turns old new) where
  there-none : (front events back : List Event) (it : Outcome) → events_of actor turns ≡ front ++ (events ++ back) → DoesThere k (back_up i) events (Ok it) → failed_in it ≡ 0
  there-none front events back it all (inl (before, after, turned, backs)) =
      backed-none trusted places actor k.choice i before.files turns old new ran (room before after turned) sound before after front events back it refl all (calm before after turned) backs
  there-none front events back it all (inr (missing, kept, nothing, is)) = absurd cc

  works-none : (work : Result Work Refusal) → IsRun work → (front events : List Event) (it : Outcome) → events_of actor turns ≡ front ++ events → DoesWork k (commands.File (files.Incremental i)) work events (Ok it) → failed_in it ≡ 0
  works-none (Ok (CommitWork what)) runs front events it all h = absurd runs
  works-none (Ok (Show q)) runs front events it all h = absurd runs
  works-none (Ok (Run numbers)) runs front events it all (said, (us, vs, cut, does, forcing)) =
      there-none front us vs it (all ∙ ap (λ (l : List Event). front ++ l) cut) (subst (λ (r : SaidOf). DoesThere k (back_up i) us r) (forced-done said it vs forcing) does)
  works-none (Err why) runs front events it all (kept, nothing, is) = absurd cc

  doing-none : (said : SaidOf) → Doing k (commands.File (files.Incremental i)) (events_of actor turns) said → failed_by said ≡ 0
  doing-none (Err e) h = refl
  doing-none (Ok it) (inl (e, kept, looks, is)) = absurd cc
  doing-none (Ok it) (inr (answers, (xs, ys, cut, looks, inl works))) = works-none (work_of (commands.File (files.Incremental i)) answers) (found-run (number_found answers)) xs ys it cut works
  doing-none (Ok it) (inr (answers, (xs, ys, cut, looks, inr (kept, nothing, is)))) = absurd cc

-- over the number of what is found nothing is committed or shown
filespace-run : {X : Type 0} (o : Option X) (f : X → ℕ) → IsRun (if_found o (λ x. run (f x ∷ [])))
filespace-run None f = tt
filespace-run (Some x) f = tt

module _ (trusted : Type 0) (places : Places) (actor : ℕ) (k : Client) (r : FilesRestore) (turns : List Turn) (old new : Machine) (ran : Turned trusted places turns old new) (sound : (file : ℕ) → RoseFrom old new file → ⊥)
    (calm : IsCalm r.tree k) (trust : trusted) (can : CanGiveAll (Passes trusted places turns old new) r) where
  given-there : (front events back : List Event) (it : Outcome) → events_of actor turns ≡ front ++ (events ++ back) → DoesThere k (restore r) events (Ok it) → failed_in it ≡ 0
  given-there front events back it all (inl (before, after, turned, gives)) = restored-none trusted trust places actor turns old new ran sound r before after front events back it all (calm before after turned) can gives
  given-there front events back it all (inr (missing, kept, nothing, is)) = absurd cc

  given-works : (work : Result Work Refusal) → IsRun work → (front events : List Event) (it : Outcome) → events_of actor turns ≡ front ++ events → DoesWork k (commands.File (files.RestoreFiles r)) work events (Ok it) → failed_in it ≡ 0
  given-works (Ok (CommitWork what)) runs front events it all h = absurd runs
  given-works (Ok (Show q)) runs front events it all h = absurd runs
  given-works (Ok (Run numbers)) runs front events it all (said, (us, vs, cut, does, (nothing, same))) =
      given-there front us vs it (all ∙ ap (λ (l : List Event). front ++ l) cut) (subst (λ (x : SaidOf). DoesThere k (restore r) us x) (sym same) does)
  given-works (Err why) runs front events it all (kept, nothing, is) = absurd cc

  given-doing : (said : SaidOf) → Doing k (commands.File (files.RestoreFiles r)) (events_of actor turns) said → failed_by said ≡ 0
  given-doing (Err e) h = refl
  given-doing (Ok it) (inl (e, kept, looks, is)) = absurd cc
  given-doing (Ok it) (inr (answers, (xs, ys, cut, looks, inl works))) =
      given-works (work_of (commands.File (files.RestoreFiles r)) answers) (filespace-run (filespace_named r.filespace answers) (λ f. f.number)) xs ys it cut works
  given-doing (Ok it) (inr (answers, (xs, ys, cut, looks, inr (kept, nothing, is)))) = absurd cc

-- ---- copies

abbrev MakesCopies : Own → Type 0
MakesCopies back_up_pool = Unit {0}
MakesCopies (moves mover) = Unit {0}
MakesCopies own = ⊥

-- what came behind a work changes nothing of what failed
behind-done : (b : Behind) (said : SaidOf) (it : Outcome) (events : List Event) → EndsWork b said events (Ok it) → (x : Outcome) × (said ≡ Ok x) × (failed_in it ≡ failed_in x)
behind-done no_more said it events (none, is) = (it, sym is, refl)
behind-done forces said it events forcing = (it, forced-done said it events forcing, refl)
behind-done reuses said it events (came_so, (xs, ys, cut, reusing, forcing)) =
    reused-done said it xs (subst (λ (r : SaidOf). Reusing said xs r) (forced-done came_so it ys forcing) reusing)

on-failed : {A : Type 0} (f : A → Outcome) → ((x : A) → failed_in (f x) ≡ 0) → (r : Result A Refusal) → failed_by (on_ok f r) ≡ 0
on-failed f none (Ok x) = none x
on-failed f none (Err e) = refl

module _ (trusted : Type 0) (places : Places) (actor : ℕ) (k : Client) (c : Command) (turns : List Turn) (old new : Machine) (ran : Turned trusted places turns old new) (sound : (file : ℕ) → RoseFrom old new file → ⊥)
    (room : HasRoomForCopies trusted places actor turns old new) where
  copied-own : (own : Own) → MakesCopies own → (numbers : List ℕ) (front events back : List Event) (it : Outcome) → events_of actor turns ≡ front ++ (events ++ back) → DoesOwn k own numbers events (Ok it) → failed_in it ≡ 0
  copied-own back_up_pool makes numbers front events back it all (kept, did) =
      pool-none k.choice numbers events it (λ moving P gentle copies. refuses-none trusted places actor turns old new ran room sound moving P gentle front events back all copies) did
  copied-own (moves mover) makes numbers front events back it all (kept, did) =
      mover-none k.choice mover numbers events it (λ moving P gentle copies. refuses-none trusted places actor turns old new ran room sound moving P gentle front events back all copies) did
  copied-own own makes numbers front events back it all h = absurd makes

  copied-does : (w : Work) → MakesCopies (own_of c) → (front events back : List Event) (it : Outcome) → events_of actor turns ≡ front ++ (events ++ back) → Does k c w events (Ok it) → failed_in it ≡ 0
  copied-does (CommitWork what) makes front events back it all (kept, (answer, made, is)) = ap failed_by is ∙ on-failed (λ number. came.Said (last_of what)) (λ number. last-failed what) answer
  copied-does (Show q) makes front events back it all (kept, (answer, made, is)) = ap failed_by is ∙ on-failed came.Rows (λ x. refl) answer
  copied-does (Run numbers) makes front events back it all h = copied-own (own_of c) makes numbers front events back it all h

  copied-works : (work : Result Work Refusal) → MakesCopies (own_of c) → (front events : List Event) (it : Outcome) → events_of actor turns ≡ front ++ events → DoesWork k c work events (Ok it) → failed_in it ≡ 0
  copied-works (Ok w) makes front events it all (said, (us, vs, cut, does, ends)) =
      let done = behind-done (behind c) said it vs ends in
      done.2 ∙ copied-does w makes front us vs done.0 (all ∙ ap (λ (l : List Event). front ++ l) cut) (subst (λ (r : SaidOf). Does k c w us r) done.1 does)
  copied-works (Err why) makes front events it all (kept, nothing, is) = absurd cc

  copied-doing : MakesCopies (own_of c) → (said : SaidOf) → Doing k c (events_of actor turns) said → failed_by said ≡ 0
  copied-doing makes (Err e) h = refl
  copied-doing makes (Ok it) (inl (e, kept, looks, is)) = absurd cc
  copied-doing makes (Ok it) (inr (answers, (xs, ys, cut, looks, inl works))) = copied-works (work_of c answers) makes xs ys it cut works
  copied-doing makes (Ok it) (inr (answers, (xs, ys, cut, looks, inr (kept, nothing, is)))) = absurd cc

module _ (trusted : Type 0) (places : Places) (actor : ℕ) (k : Client) (turns : List Turn) (old new : Machine) (ran : Turned trusted places turns old new) (sound : (file : ℕ) → RoseFrom old new file → ⊥) where
  own-unfailed : (c : Command) (own : Own) → own_of c ≡ own → (n : ℕ) (said : SaidOf) (reply : Answer × Option Refusal) → Doing k c (events_of actor turns) said → Ends n said (Ok reply) → OwnUnfailed trusted places actor own turns old new reply.0
  own-unfailed c back_up_pool is n said reply doing ends = λ room.
      failed-said n said reply ends ∙ copied-doing trusted places actor k c turns old new ran sound room (subst MakesCopies (sym is) tt) said doing
  own-unfailed c (moves mover) is n said reply doing ends = λ room.
      failed-said n said reply ends ∙ copied-doing trusted places actor k c turns old new ran sound room (subst MakesCopies (sym is) tt) said doing
  own-unfailed c own is n said reply doing ends = tt

  command-unfailed : (c : Command) (n : ℕ) (said : SaidOf) (reply : Answer × Option Refusal) → Doing k c (events_of actor turns) said → Ends n said (Ok reply) → CommandUnfailed trusted places actor k c turns old new reply.0
  command-unfailed (commands.File (files.Incremental i)) n said reply doing ends = λ calm room. failed-said n said reply ends ∙ doing-none trusted places actor k i turns old new ran sound calm room said doing
  command-unfailed (commands.File (files.RestoreFiles r)) n said reply doing ends = λ calm trust can. failed-said n said reply ends ∙ given-doing trusted places actor k r turns old new ran sound calm trust can said doing
  command-unfailed (commands.File c) n said reply doing ends = tt
  command-unfailed c n said reply doing ends = own-unfailed c (own_of c) refl n said reply doing ends

  in-job-unfailed : (in_use : Option ℕ) (n : ℕ) (line : Line) (reply : Answer × Option Refusal) → DoesInJob k in_use n line (events_of actor turns) (Ok reply) → LineUnfailed in_use trusted places actor k line turns old new reply.0
  in-job-unfailed in_use n comment reply h = tt
  in-job-unfailed in_use n (refused_line why) reply h = tt
  in-job-unfailed None n (asks c) reply (said, doing, ends) = command-unfailed c n said reply doing ends
  in-job-unfailed (Some number) n (asks c) reply h = tt

  line-unfailed : (in_use : Option ℕ) (n : ℕ) (line : Line) (reply : Answer × Option Refusal) → AnswersInJob k in_use n line (events_of actor turns) (Ok reply) → LineUnfailed in_use trusted places actor k line turns old new reply.0
  line-unfailed in_use n line reply (inl h) = in-job-unfailed in_use n line reply h
  line-unfailed in_use n line reply (inr (kept, nothing, is)) = absurd cc

fate-unfailed : (trusted : Type 0) (places : Places) (actor : ℕ) (k : Client) (fate : Fate) (l : JobLine) (turns : List Turn) (old new : Machine) (reply : Answer × Option Refusal) → Turned trusted places turns old new
    → AnswersFate k fate l (events_of actor turns) (Ok reply) → FateUnfailed trusted places actor k fate l turns old new reply.0
fate-unfailed trusted places actor k Beyond l turns old new reply ran h = tt
fate-unfailed trusted places actor k (Done tree) l turns old new reply ran h = λ sound. line-unfailed trusted places actor k turns old new ran sound l.in_use l.line.number (line_in true l.line.text) reply h.0

-- ---- a job

module _ (trusted : Type 0) (places : Places) (choice : List Rule) where
  lines-unfailed : (actor : ℕ) (lines : List JobLine) (trees : List Known) (turns : List Turn) (old new : Machine) (said : List Said) → AreCut trusted places choice actor lines trees turns old new said
      → AreUnfailed trusted places actor choice lines trees turns old new said
  lines-unfailed actor lines trees turns old new [] h = tt
  lines-unfailed actor [] trees turns old new (s ∷ said) h = absurd h
  lines-unfailed actor (l ∷ lines) trees turns old new (s ∷ said) (mid, mine, others, next, parts, led, leads, did, rest) = (
    mid,
    mine,
    others,
    next,
    parts,
    led,
    leads,
    did,
    fate-unfailed trusted places actor (between choice trees mid) l.line.fate l mine old next (s.reply, s.why) led did,
    lines-unfailed actor lines mid others next new said rest,
  )

  all-unfailed : (all : List Placed) (job first : ℕ) (turns : List Turn) (old new : Machine) (trees : List (List Known)) (came : List Came) → JobsCut trusted places choice all job first turns old new trees came
      → JobsUnfailed trusted places choice all job first turns old new trees came
  all-unfailed all job first turns old new [] [] h = tt
  all-unfailed all job first turns old new (own ∷ trees) [] h = tt
  all-unfailed all job first turns old new [] (c ∷ came) h = tt
  all-unfailed all job first turns old new (own ∷ trees) (c ∷ came) (one, later) =
      (lines-unfailed (first + job) (lines_of all job all) own turns old new c.said one, all-unfailed all (job + 1) first turns old new trees came later)

  pub jobs-unfailed : (all : List Placed) (job first : ℕ) (turns : List Turn) (old new : Machine) (trees : List (List Known)) (came : List Came) → Turned trusted places turns old new → AreDone choice all job first turns trees came
      → JobsUnfailed trusted places choice all job first turns old new trees came
  jobs-unfailed all job first turns old new trees came ran h = all-unfailed all job first turns old new trees came (jobs-cut trusted places choice all job first turns old new trees came ran h)
