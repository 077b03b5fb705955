-- What the work of a command comes to in a history, whichever it is.
use Rattle.std.proofs.Common.{◌≡◌, None, ℕ, List, Ok, Err, refl}
use Rattle.kinds.specs.declared.refusal.Refusal.{Refusal}
use Rattle.kinds.specs.declared.refusal.Refusal.TheVariants.{UnknownWord}
use Rattle.admin_words.specs.declared.command.Command.{Command}
use Rattle.admin_commands.specs.declared.work.Work.{Work}
use Rattle.admin_commands.specs.declared.work.Work.TheVariants.{Commit, Run, Show}
use Rattle.line_results.proofs.of_db_backup.Following.{followed}
use Rattle.line_results.proofs.of_db_backup.Journaled.{backed-up}
use Rattle.machine.specs.Fits.{Fits, History, Own as Holding}
use Rattle.steps.specs.Events.{Event}
use Rattle.line_results.specs.command_steps.Clients.{Client}
use Rattle.line_results.specs.command_steps.Doing.{Does, DoesAlone, DoesOwn, backed_up}
use Rattle.line_results.specs.command_steps.Owns.{Own, audit_volume, back_up_database, back_up_pool, back_up_since, checkpoint, delete_history, empty_filespace, empty_volume, expire, get, moves, none_but_reuse, none_yet, on_tree, own_of, put, validate}
use Rattle.line_results.specs.command_steps.declared.outcome.Outcome.{Outcome}
use Rattle.line_results.proofs.Mild.{IsMild}
use Rattle.line_results.proofs.Needs.{IsPlainWork}
use Rattle.block_results.specs.Clauses.{CauseOwn, DidOwn, ShowsOwn}
use Rattle.block_results.proofs.Came.{Came, Said, came-err, came-ok}
use Rattle.block_results.proofs.Single.{change-came, checkpoint-came, get-came, put-came, query-came, validate-came}
use Rattle.block_results.proofs.Treed.{tree-came}

module _ (w : History) (actor : ℕ) (k : Client) (a b : Holding) (events : List Event) (f : Fits w actor a events b) where
  -- a process, of which its own contract says what it did
  process-came : (own : Own) (numbers : List ℕ) → ((it : Outcome) → ShowsOwn w a.reached b.reached k own it)
      → ((why : Refusal) → DoesAlone k.choice own numbers events (Err why) → CauseOwn w actor a.reached b.reached k numbers own events why)
      → ((it : Outcome) → DoesAlone k.choice own numbers events (Ok it) → DidOwn w actor a.reached b.reached k numbers own events it) → (r : Said) → DoesAlone k.choice own numbers events r → Came w actor k own (Ok (Run numbers)) a b events r
  process-came own numbers shows causes did (Ok it) h = came-ok w actor k own (Ok (Run numbers)) a b events (Ok it) it refl (shows it) (λ none. did it h)
  process-came own numbers shows causes did (Err e) h = came-err w actor k own (Ok (Run numbers)) a b events (Err e) e refl (causes e h)

  backup-did : (numbers : List ℕ) (it : Outcome) → DoesAlone k.choice back_up_database numbers events (Ok it) → DidOwn w actor a.reached b.reached k numbers back_up_database events it
  backup-did numbers it (Ok t, made, is) = (let same : it ≡ backed_up t = cc in ((Ok t, made, is), (t, same, backed-up w actor a b None events t f made.order)))
  backup-did numbers it (Err e, made, is) = absurd cc

  since-did : (numbers : List ℕ) (it : Outcome) → DoesAlone k.choice back_up_since numbers events (Ok it) → DidOwn w actor a.reached b.reached k numbers back_up_since events it
  since-did numbers it (Ok t, made, is) = (let same : it ≡ backed_up t = cc in ((Ok t, made, is), (t, same, followed w actor a b events t f made.order)))
  since-did numbers it (Err e, made, is) = absurd cc

  alone-came : (own : Own) (numbers : List ℕ) (r : Said) → IsMild r → DoesAlone k.choice own numbers events r → Came w actor k own (Ok (Run numbers)) a b events r
  alone-came (validate set) numbers r m h = validate-came w actor k (validate set) a b events f set numbers r m h
  alone-came (put p) numbers r m h = put-came w actor k a b events f p numbers r m h
  alone-came (get g) numbers r m h = get-came w actor k (get g) a b events f g numbers r m h
  alone-came checkpoint numbers r m h = checkpoint-came w actor k checkpoint a b events f numbers r m h
  alone-came (on_tree work) numbers r m h = absurd h
  alone-came none_yet numbers r m h = came-err w actor k none_yet (Ok (Run numbers)) a b events r (UnknownWord 1) h.1 refl
  alone-came expire numbers r m h = process-came expire numbers (λ it. tt) (λ why x. x) (λ it x. x) r h
  alone-came empty_filespace numbers r m h = process-came empty_filespace numbers (λ it. tt) (λ why x. x) (λ it x. x) r h
  alone-came empty_volume numbers r m h = process-came empty_volume numbers (λ it. tt) (λ why x. x) (λ it x. x) r h
  alone-came none_but_reuse numbers r m h = process-came none_but_reuse numbers (λ it. tt) (λ why x. x) (λ it x. x) r h
  alone-came back_up_pool numbers r m h = process-came back_up_pool numbers (λ it. tt) (λ why x. x) (λ it x. x) r h
  alone-came (moves mover) numbers r m h = process-came (moves mover) numbers (λ it. tt) (λ why x. x) (λ it x. x) r h
  alone-came back_up_database numbers r m h = process-came back_up_database numbers (λ it. tt) (λ why x. x) (backup-did numbers) r h
  alone-came back_up_since numbers r m h = process-came back_up_since numbers (λ it. tt) (λ why x. x) (since-did numbers) r h
  alone-came (delete_history to) numbers r m h = process-came (delete_history to) numbers (λ it. tt) (λ why x. x) (λ it x. x) r h
  alone-came (audit_volume fix) numbers r m h = process-came (audit_volume fix) numbers (λ it. tt) (λ why x. x) (λ it x. x) r h

  own-came : (own : Own) (numbers : List ℕ) (r : Said) → IsMild r → DoesOwn k own numbers events r → Came w actor k own (Ok (Run numbers)) a b events r
  own-came (on_tree work) numbers r m h = tree-came w actor k a b events f work numbers r h
  own-came (validate set) numbers r m h = alone-came (validate set) numbers r m h.1
  own-came (put p) numbers r m h = alone-came (put p) numbers r m h.1
  own-came (get g) numbers r m h = alone-came (get g) numbers r m h.1
  own-came checkpoint numbers r m h = alone-came checkpoint numbers r m h.1
  own-came none_yet numbers r m h = alone-came none_yet numbers r m h.1
  own-came expire numbers r m h = alone-came expire numbers r m h.1
  own-came empty_filespace numbers r m h = alone-came empty_filespace numbers r m h.1
  own-came empty_volume numbers r m h = alone-came empty_volume numbers r m h.1
  own-came none_but_reuse numbers r m h = alone-came none_but_reuse numbers r m h.1
  own-came back_up_pool numbers r m h = alone-came back_up_pool numbers r m h.1
  own-came (moves mover) numbers r m h = alone-came (moves mover) numbers r m h.1
  own-came back_up_database numbers r m h = alone-came back_up_database numbers r m h.1
  own-came back_up_since numbers r m h = alone-came back_up_since numbers r m h.1
  own-came (delete_history to) numbers r m h = alone-came (delete_history to) numbers r m h.1
  own-came (audit_volume fix) numbers r m h = alone-came (audit_volume fix) numbers r m h.1

  pub work-came : (c : Command) (work : Work) (r : Said) → IsPlainWork (Ok work) → IsMild r → Does k c work events r → Came w actor k (own_of c) (Ok work) a b events r
  work-came c (Commit what) r plain m h = change-came w actor k (own_of c) a b events f what r m h.1
  work-came c (Show q) r plain m h = query-came w actor k (own_of c) a b events f q r plain m h.1
  work-came c (Run numbers) r plain m h = own-came (own_of c) numbers r m h
