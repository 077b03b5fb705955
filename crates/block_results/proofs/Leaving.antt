-- Behind a command that was answered its actor has no ticket, where it had none before.
use Rattle.std.proofs.Common.{◌≡◌, inl, inr, ℕ, true, false, List, [], ◌∷◌, ◌++◌, None, Some, Result, Ok, Err, refl, sym, subst}
use Rattle.std.specs.List.{AllByRecursion}
use Rattle.kinds.specs.declared.refusal.Refusal.{Refusal}
use Rattle.kinds.specs.declared.refusal.Refusal.TheVariants as refused
use Rattle.entries.specs.declared.change.Change.{Change}
use Rattle.entries.specs.change_items.declared.reasons.DiscardReason.{DiscardReason}
use Rattle.inventory_answers.specs.declared.query.Query.TheVariants as query
use Rattle.admin_words.specs.declared.command.Command.{Command}
use Rattle.admin_words.specs.declared.files.FilePut.{FilePut}
use Rattle.admin_words.specs.declared.files.FilesRestore.{FilesRestore}
use Rattle.admin_commands.specs.declared.work.Work.{Work}
use Rattle.admin_commands.specs.declared.work.Work.TheVariants.{Commit as CommitWork, Run, Show}
use Rattle.line_results.specs.copy_runs.Ends.{IsEnding}
use Rattle.line_results.specs.copy_runs.declared.wanted.Moved.{Moved}
use Rattle.line_results.specs.copy_pools.Backups.{Came as BackupCame}
use Rattle.line_results.specs.deletions.Discarding.{IsDiscarding}
use Rattle.line_results.specs.deletions.Dropping.{IsTaking}
use Rattle.line_results.specs.deletions.Filespaces as filespaces
use Rattle.line_results.specs.deletions.Volumes as volumes
use Rattle.line_results.specs.expiration.Expiring.{IsExpiring}
use Rattle.line_results.specs.incrementals.Orders.{AreQuestions, IsQuestion}
use Rattle.line_results.specs.incrementals.declared.answering.Sent.{Sent}
use Rattle.machine.specs.Fits.{Fits, History, Own as Holding}
use Rattle.line_results.proofs.of_restores.Caused.{restores-reading}
use Rattle.line_results.specs.restores.Causes.{IsReading}
use Rattle.line_results.specs.reuse_delay.Reusing.{IsReusing}
use Rattle.line_results.proofs.of_sessions.BackedUp.{put-none}
use Rattle.line_results.specs.sessions.Changing.{IsOf}
use Rattle.line_results.specs.sessions.Checkpoints.{IsOf as IsOfCheckpoint}
use Rattle.line_results.specs.sessions.Putting.{Puts}
use Rattle.steps.proofs.Spending.{settled-append}
use Rattle.steps.specs.Calls.{Made}
use Rattle.steps.specs.Events.{Deed, Event, has_number}
use Rattle.steps.specs.Events.Deed.{Ask, Commit, Force, Image, ReadPiece, Reuse}
use Rattle.steps.specs.Spent.{AreSettled, IsSettled}
use Rattle.line_results.specs.command_steps.Answers.{halt_by}
use Rattle.line_results.specs.command_steps.Behind.{Behind, forces, no_more, reuses}
use Rattle.line_results.specs.command_steps.Clients.{Client, Known}
use Rattle.line_results.specs.command_steps.Doing.{Does, DoesAlone, DoesOwn, EndsWork, Forcing, MovesSo, PutsText, Reusing, the_number, the_second}
use Rattle.line_results.specs.command_steps.Owns.{Mover, OnTree, Own, all_migrator, audit_volume, back_up, back_up_database, back_up_pool, back_up_since, checkpoint, data_mover, delete_history, empty_filespace, empty_volume, erase, expire, file_put, get, migrator, moves, none_but_reuse, none_yet, on_tree, own_of, pool_restorer, put, reclaimer, restore, row_put, validate, volume_restorer, write}
use Rattle.line_results.specs.command_steps.Trees.{DoesThere, GivesWanted, ShowsSent}
use Rattle.line_results.specs.command_steps.declared.outcome.Outcome.{Outcome}
use Rattle.inventory_rows.specs.version_groups.Entries.{on_ok}
use Rattle.line_results.proofs.Mild.{IsMild}
use Rattle.block_results.proofs.Came.{Said}
use Rattle.block_results.proofs.Settled.{settled-none}
use Rattle.block_results.proofs.Single.{mild-of}
use Rattle.block_results.proofs.Walks.{gets-all}

-- by a refusal of which no run ends a ticket can still be given back
lasting-none : (e : Refusal) → halt_by e ≡ None → has_number (40 ∷ 41 ∷ []) e ≡ false
lasting-none (refused.LogFault file count) h = absurd cc
lasting-none refused.RunFull h = absurd cc
lasting-none e h = refl

-- ---- steps that open no ticket

abbrev IsShut : Deed → Type 0
IsShut d = (later : List Event) → IsSettled d later

shut-as : (d x : Deed) → d ≡ x → IsShut x → IsShut d
shut-as d x is shut = subst (λ (y : Deed). IsShut y) (sym is) shut

settled-of : (Is : Deed → Type 0) → ((d : Deed) → Is d → IsShut d) → (events : List Event) → AllByRecursion (λ e. Is e.deed) events → AreSettled events
settled-of Is so [] h = tt
settled-of Is so (e ∷ events) h = (so e.deed h.0 events, settled-of Is so events h.1)

none-settled : (events : List Event) → events ≡ [] → AreSettled events
none-settled events none = subst AreSettled (sym none) tt

made-settled : (d : Deed) (events : List Event) → IsShut d → Made d events → AreSettled events
made-settled d events shut (inl (n, one, listed)) = subst AreSettled (sym one) (shut [], tt)
made-settled d events shut (inr (memory, none)) = none-settled events none

both-settled : (events xs ys : List Event) → events ≡ xs ++ ys → AreSettled xs → AreSettled ys → AreSettled events
both-settled events xs ys cut h k = subst AreSettled (sym cut) (settled-append xs ys h k)

ending-shut : (d : Deed) → IsEnding d → IsShut d
ending-shut d (inl (q, answer, is)) = shut-as d (Ask q answer) is (λ later. tt)
ending-shut d (inr (answer, is)) = shut-as d (Force answer) is (λ later. tt)

question-shut : (d : Deed) → IsQuestion d → IsShut d
question-shut (Ask q answer) h = λ later. tt
question-shut d h = absurd h

reading-shut : (d : Deed) → IsReading d → IsShut d
reading-shut (Ask q answer) h = λ later. tt
reading-shut (ReadPiece object kept from at wanted answer) h = λ later. tt
reading-shut d h = absurd h

change-shut : (c : Change) (d : Deed) → IsOf c d → IsShut d
change-shut c (Commit asked tickets answer) h = λ later. tt
change-shut c (Force answer) h = λ later. tt
change-shut c d h = absurd h

checkpoint-shut : (d : Deed) → IsOfCheckpoint d → IsShut d
checkpoint-shut (Image kind answer) h = λ later. tt
checkpoint-shut (Force answer) h = λ later. tt
checkpoint-shut d h = absurd h

expiring-shut : (d : Deed) → IsExpiring d → IsShut d
expiring-shut (Ask q answer) h = λ later. tt
expiring-shut (Force answer) h = λ later. tt
expiring-shut (Commit asked tickets answer) h = λ later. tt
expiring-shut d h = absurd h

discarding-shut : (reason : DiscardReason) (d : Deed) → IsDiscarding reason d → IsShut d
discarding-shut reason d (objects, answer, is) = shut-as d _ is (λ later. tt)

filespace-shut : (filespace : ℕ) (d : Deed) → filespaces.IsDeleting filespace d → IsShut d
filespace-shut filespace d (inl h) = ending-shut d h
filespace-shut filespace d (inr (inl h)) = discarding-shut _ d h
filespace-shut filespace d (inr (inr (name, answer, is))) = shut-as d _ is (λ later. tt)

taking-shut : (file : ℕ) (d : Deed) → IsTaking file d → IsShut d
taking-shut file d (inl (lines, answer, is)) = shut-as d _ is (λ later. tt)
taking-shut file d (inr h) = discarding-shut _ d h

volume-shut : (file : ℕ) (d : Deed) → volumes.IsDeleting true file d → IsShut d
volume-shut file d (inl (inl h)) = ending-shut d h
volume-shut file d (inl (inr (row, answer, is))) = shut-as d _ is (λ later. tt)
volume-shut file d (inr h) = taking-shut file d h

reusing-shut : (files : List ℕ) (d : Deed) → IsReusing files d → IsShut d
reusing-shut files d (inl h) = ending-shut d h
reusing-shut files d (inr (file, answer, among, is)) = shut-as d (Reuse file answer) is (λ later. tt)

-- ---- what moves copies, or makes further ones

moves-settled : (mover : Mover) (first second : ℕ) (events : List Event) (answer : Result Moved Refusal) → IsMild answer → MovesSo mover first second events answer → AreSettled events
moves-settled data_mover first second events (Ok m) mild h = h.came.settled
moves-settled data_mover first second events (Err e) mild h = h.came.settled (lasting-none e mild)
moves-settled reclaimer first second events (Ok m) mild h = h.came.settled
moves-settled reclaimer first second events (Err e) mild h = h.came.settled (lasting-none e mild)
moves-settled pool_restorer first second events (Ok m) mild h = h.came.counts.settled
moves-settled pool_restorer first second events (Err e) mild h = h.came.settled (lasting-none e mild)
moves-settled volume_restorer first second events (Ok m) mild h = h.came.counts.settled
moves-settled volume_restorer first second events (Err e) mild h = h.came.settled (lasting-none e mild)
moves-settled migrator first second events (Ok m) mild h = h.came.settled
moves-settled migrator first second events (Err e) mild h = h.came.settled (lasting-none e mild)
moves-settled all_migrator first second events (Ok m) mild h = h.came.settled
moves-settled all_migrator first second events (Err e) mild h = h.came.settled (lasting-none e mild)

further-settled : (primary copy : ℕ) (events : List Event) (answer : Result Moved Refusal) → IsMild answer → BackupCame primary copy events answer → AreSettled events
further-settled primary copy events (Ok m) mild h = h.settled
further-settled primary copy events (Err e) mild h = h.settled (lasting-none e mild)

-- what an answer became is mild where it is
pub shaped-mild : {A : Type 0} (shape : A → Outcome) (answer : Result A Refusal) (r : Said) → r ≡ on_ok shape answer → IsMild r → IsMild answer
shaped-mild shape (Ok x) r is m = tt
shaped-mild shape (Err e) r is m = mild-of r e is m

-- ---- work

module _ (w : History) (actor : ℕ) (k : Client) (a b : Holding) (none : a.tickets ≡ []) (events : List Event) (f : Fits w actor a events b) where
  by-settled : AreSettled events → b.tickets ≡ []
  by-settled settled = settled-none actor w events a b none settled f

  puts-none : (p : FilePut) (r : Result ℕ Refusal) → IsMild r → Puts p.node p.filespace k.choice (Some (file_put p)) (row_put p) events r → b.tickets ≡ []
  puts-none p (Ok object) mild puts = put-none w actor p.node p.filespace (Some (file_put p)) (row_put p) k.choice a b events (Ok object) f none puts
  puts-none p (Err e) mild puts = put-none w actor p.node p.filespace (Some (file_put p)) (row_put p) k.choice a b events (Err e) f none puts (lasting-none e mild)

  text-none : (p : FilePut) (r : Result ℕ Refusal) → IsMild r → PutsText k.choice p events r → b.tickets ≡ []
  text-none p r mild (inl (puts, tree)) = puts-none p r mild puts
  text-none p r mild (inr (puts, wanted)) = puts-none p (Err refused.TreeFault) refl puts

  alone-none : (own : Own) (numbers : List ℕ) (r : Said) → IsMild r → DoesAlone k.choice own numbers events r → b.tickets ≡ []
  alone-none (validate set) numbers r m (answer, inl asks, is) = by-settled (made-settled (Ask (query.Validated set.domain set.set) answer) events (λ later. tt) asks)
  alone-none (validate set) numbers r m (answer, inr (nothing, wanted), is) = by-settled (none-settled events nothing)
  alone-none (put p) numbers r m (answer, inl puts, is) = text-none p answer (shaped-mild _ answer r is m) puts
  alone-none (put p) numbers r m (answer, inr (nothing, wanted), is) = by-settled (none-settled events nothing)
  alone-none (get g) numbers r m (answer, inl gets, is) =
      by-settled (settled-of IsShut (λ d shut. shut) events (gets-all (λ e. IsShut e.deed) (λ n q x later. tt) (λ n object kept from at wanted x later. tt) g.node g.filespace g.path events answer gets))
  alone-none (get g) numbers r m (answer, inr (nothing, wanted), is) = by-settled (none-settled events nothing)
  alone-none checkpoint numbers r m h = by-settled (settled-of IsOfCheckpoint checkpoint-shut events h.1.only)
  alone-none (on_tree work) numbers r m h = absurd h
  alone-none none_yet numbers r m h = by-settled (none-settled events h.0)
  alone-none none_but_reuse numbers r m h = by-settled (none-settled events h.0)
  alone-none expire numbers r m h = by-settled (settled-of IsExpiring expiring-shut events h.1.only)
  alone-none empty_filespace numbers r m h = by-settled (settled-of (filespaces.IsDeleting (the_number numbers)) (filespace-shut (the_number numbers)) events h.1.only)
  alone-none empty_volume numbers r m h = by-settled (settled-of (volumes.IsDeleting true (the_number numbers)) (volume-shut (the_number numbers)) events h.1.only)
  alone-none back_up_pool numbers r m (answer, made, is) = by-settled (further-settled (the_number numbers) (the_second numbers) events answer (shaped-mild _ answer r is m) made.came)
  alone-none (moves mover) numbers r m (answer, made, is) = by-settled (moves-settled mover (the_number numbers) (the_second numbers) events answer (shaped-mild _ answer r is m) made)
  alone-none back_up_database numbers r m h = by-settled h.1.settled
  alone-none back_up_since numbers r m h = by-settled h.1.settled
  alone-none (delete_history to) numbers r m h = by-settled h.1.settled
  alone-none (audit_volume fix) numbers r m h = by-settled h.1.settled

  wanted-settled : (x : FilesRestore) (before after : Known) (r : Said) → GivesWanted x before after events r → AreSettled events
  wanted-settled x before after r (inl (versions, which, (answer, restores, is))) =
      settled-of IsReading reading-shut events (restores-reading x.node x.filespace versions before.faults after.faults before.files after.files events answer restores)
  wanted-settled x before after r (inr (e, why, nothing, same, is)) = none-settled events nothing

  sent-mild : (answer : Result Sent Refusal) (r : Said) → ShowsSent answer r → IsMild r → IsMild answer
  sent-mild (Ok s) r h m = tt
  sent-mild (Err e) r h m = mild-of r e h m

  tree-none : (work : OnTree) (r : Said) → IsMild r → DoesThere k work events r → b.tickets ≡ []
  tree-none (back_up i) r m (inl (before, after, turns, (Ok s, made, same, shows))) = by-settled (made.settled refl)
  tree-none (back_up i) r m (inl (before, after, turns, (Err e, made, same, shows))) = by-settled (made.settled (lasting-none e (sent-mild (Err e) r shows m)))
  tree-none (restore x) r m (inl (before, after, turns, gives)) = by-settled (wanted-settled x before after r gives)
  tree-none (write x) r m (inl (before, after, turns, does)) = by-settled (none-settled events does.0)
  tree-none (erase x) r m (inl (before, after, turns, does)) = by-settled (none-settled events does.0)
  tree-none work r m (inr (missing, kept, nothing, is)) = by-settled (none-settled events nothing)

  own-none : (own : Own) (numbers : List ℕ) (r : Said) → IsMild r → DoesOwn k own numbers events r → b.tickets ≡ []
  own-none (on_tree work) numbers r m h = tree-none work r m h
  own-none (validate set) numbers r m h = alone-none (validate set) numbers r m h.1
  own-none (put p) numbers r m h = alone-none (put p) numbers r m h.1
  own-none (get g) numbers r m h = alone-none (get g) numbers r m h.1
  own-none checkpoint numbers r m h = alone-none checkpoint numbers r m h.1
  own-none none_yet numbers r m h = alone-none none_yet numbers r m h.1
  own-none none_but_reuse numbers r m h = alone-none none_but_reuse numbers r m h.1
  own-none expire numbers r m h = alone-none expire numbers r m h.1
  own-none empty_filespace numbers r m h = alone-none empty_filespace numbers r m h.1
  own-none empty_volume numbers r m h = alone-none empty_volume numbers r m h.1
  own-none back_up_pool numbers r m h = alone-none back_up_pool numbers r m h.1
  own-none (moves mover) numbers r m h = alone-none (moves mover) numbers r m h.1
  own-none back_up_database numbers r m h = alone-none back_up_database numbers r m h.1
  own-none back_up_since numbers r m h = alone-none back_up_since numbers r m h.1
  own-none (delete_history to) numbers r m h = alone-none (delete_history to) numbers r m h.1
  own-none (audit_volume fix) numbers r m h = alone-none (audit_volume fix) numbers r m h.1

  pub work-none : (c : Command) (work : Work) (r : Said) → IsMild r → Does k c work events r → b.tickets ≡ []
  work-none c (CommitWork what) r m h = by-settled (settled-of (IsOf what) (change-shut what) events h.1.1.only)
  work-none c (Show q) r m h = by-settled (made-settled (Ask q h.1.0) events (λ later. tt) h.1.1)
  work-none c (Run numbers) r m h = own-none (own_of c) numbers r m h

-- ---- what comes behind it, and look-ups

force-settled : (said r : Said) (events : List Event) → Forcing said events r → AreSettled events
force-settled said r events (answer, forced, is) = made-settled (Force answer) events (λ later. tt) forced

reusing-settled : (came r : Said) (events : List Event) → Reusing came events r → AreSettled events
reusing-settled (Ok it) r events (answer, called, is) = settled-of (IsReusing called.files) (reusing-shut called.files) events called.only
reusing-settled (Err e) r events (nothing, is) = none-settled events nothing

follows-settled : (b : Behind) (came said : Said) (events : List Event) → EndsWork b came events said → AreSettled events
follows-settled no_more came said events (nothing, is) = none-settled events nothing
follows-settled forces came said events h = force-settled came said events h
follows-settled reuses came said events (mid, (us, vs, cut, reusing, forcing)) = both-settled events us vs cut (reusing-settled came mid us reusing) (force-settled mid said vs forcing)

pub follows-none : (w : History) (actor : ℕ) (b : Behind) (came said : Said) (events : List Event) (x y : Holding) → x.tickets ≡ [] → EndsWork b came events said → Fits w actor x events y → y.tickets ≡ []
follows-none w actor b came said events x y none h f = settled-none actor w events x y none (follows-settled b came said events h) f

pub looks-none : (w : History) (actor : ℕ) (events : List Event) (x y : Holding) → x.tickets ≡ [] → AreQuestions events → Fits w actor x events y → y.tickets ≡ []
looks-none w actor events x y none h f = settled-none actor w events x y none (settled-of IsQuestion question-shut events h) f
