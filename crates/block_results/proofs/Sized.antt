-- What the lines of a job stored has as many bytes as the client gave.
use Rattle.std.proofs.Common.{◌≡◌, ◌∙◌, inl, inr, ℕ, ◌+◌, ◌-◌, ◌≤◌, ◌==◌, suc, Bool, true, false, not, if◌then◌else◌, List, [], ◌∷◌, ◌++◌, length, map, Option, None, Some, Result, Ok, Err, refl, sym, ap, subst, append_assoc, arith}
use Rattle.std.proofs.lemmas.Bool.{and_parts, eqb-true}
use Rattle.std.proofs.lemmas.List.{append-nil}
use Rattle.std.proofs.lemmas.Option.{same_Some}
use Rattle.std.specs.List.{AllByRecursion, slice_get}
use Rattle.std.specs.Option.{option_map_or}
use Rattle.kinds.specs.declared.refusal.Refusal.{Refusal}
use Rattle.kinds.specs.declared.refusal.Refusal.TheVariants.{TreeFault}
use Rattle.kinds.specs.declared.segment.Digest.{Digest}
use Rattle.choosers.specs.declared.rule.Rule.{Rule}
use Rattle.blocks.specs.Shapes.{Placed}
use Rattle.blocks.specs.declared.block.Fate.{Fate}
use Rattle.blocks.specs.declared.block.Fate.TheVariants.{Beyond, Done}
use Rattle.client_trees.specs.Files.{Files}
use Rattle.client_plan.specs.Plans.{Lists}
use Rattle.client_batches.specs.Listings.{named, rebound, storing, stored}
use Rattle.client_batches.specs.declared.listing.SealedLine.{SealedLine}
use Rattle.entries.specs.change_items.declared.items.NewVersion.{NewVersion}
use Rattle.entries.specs.declared.change.Change.{Change}
use Rattle.entries.specs.declared.change.Change.TheVariants as change
use Rattle.kinds.specs.declared.change.DefineOrDelete.TheVariants as two
use Rattle.kinds.specs.declared.change.ObjectChange.TheVariants as client
use Rattle.admin_words.specs.declared.command.Command.{Command}
use Rattle.admin_words.specs.declared.command.Command.TheVariants as commands
use Rattle.admin_words.specs.declared.command.FileCommand.TheVariants as files
use Rattle.admin_words.specs.declared.files.IncrementalBackup.{IncrementalBackup}
use Rattle.admin_commands.specs.Found.{number_found}
use Rattle.admin_commands.specs.Orders.{needs, run, work_of}
use Rattle.inventory_rows.specs.version_groups.Entries.{if_found}
use Rattle.admin_words.specs.declared.files.FilePut.{FilePut}
use Rattle.admin_commands.specs.declared.work.Work.{Work}
use Rattle.admin_commands.specs.declared.work.Work.TheVariants.{Commit as CommitWork, Run, Show}
use Rattle.script_loop.specs.Reply.{Answer}
use Rattle.script_loop.specs.declared.ends.Halt.{Halt}
use Rattle.steps.specs.declared.asked.Asked.{Asked}
use Rattle.steps.specs.declared.asked.Item.{Item}
use Rattle.steps.specs.Events.{Deed, Event, event}
use Rattle.steps.specs.Events.Deed.{OpenNew, WritePiece, Seal, Commit, DropTicket, Ask, Reuse, Force}
use Rattle.steps.specs.Receipts.{is_made, made}
use Rattle.machine.proofs.Runs.{fits-rises}
use Rattle.machine.specs.Changes.{all_tickets, are_so_many, change_of, paired, scratch_of, version_from}
use Rattle.machine.specs.Fits.{Fits, History, IsMadeOf, JoinsAt, Own as Holding, Step, TicketsDoubt, inv, is_write_fault, sight_at}
use Rattle.crew.specs.Ran.{Turned}
use Rattle.machine.specs.Machine.{Places}
use Rattle.machine.specs.State.{Machine, Sight, Ticket, is_among, is_ticket, sealed, ticket, took, without}
use Rattle.machine.specs.Turns.{Turn, events_of, own_in}
use Rattle.line_results.proofs.Opened.{AreSized as AreSizedRows, IsOrderedBy, IsStepOf, orders-of}
use Rattle.line_results.proofs.Sending.{WasOpened}
use Rattle.line_results.proofs.Spent.{all-map, all-push}
use Rattle.line_results.specs.incrementals.Orders.{IsReadAs}
use Rattle.line_results.specs.incrementals.Process.{Increments}
use Rattle.line_results.specs.incrementals.declared.answering.Sent.{Sent}
use Rattle.line_results.specs.incrementals.declared.planning.Begun.{Begun}
use Rattle.line_results.specs.command_steps.Clients.{Client, Known, Turns}
use Rattle.line_results.proofs.of_sessions.Changed.{made-none}
use Rattle.line_results.specs.sessions.InTurn.{OrMemory}
use Rattle.line_results.specs.sessions.Putting.{Puts, backed_up}
use Rattle.line_results.specs.command_steps.Doing.{DoesWork, Doing, Forcing, PutsText}
use Rattle.line_results.specs.command_steps.Jobs.{AnswersInJob, DoesInJob}
use Rattle.line_results.specs.command_steps.Lines.{Line, asks, comment, line_in, refused}
use Rattle.line_results.specs.command_steps.Owns.{back_up, file_put, row_put}
use Rattle.line_results.specs.command_steps.Trees.{DoesThere}
use Rattle.line_results.specs.Trees.{IsOrdered, IsSent}
use Rattle.line_jobs.specs.Jobs.{AnswersFate, AreAnswered, DoesLines, JobLine, between, lines_of}
use Rattle.line_jobs.specs.Shares.{AreDone, Came}
use Rattle.line_jobs.specs.declared.job.Said.{Said}
use Rattle.block_results.specs.Jobs.{nothing_at}
use Rattle.block_results.specs.Sizes.{AreSized, CommandSized, FateSized, HasListedSizes, HasTextSize, JobsSized, LineSized}
use Rattle.block_results.specs.Standing.{IsEntered}
use Rattle.block_results.specs.Works.{IsPlannedAt}
use Rattle.block_results.proofs.Came.{Said as SaidOf}
use Rattle.block_results.proofs.Entering.{all-so, entered-append, entered-none}
use Rattle.block_results.proofs.Fitting.{fits-parts, met-first, met-next}
use Rattle.block_results.proofs.Drawn.{opened-once}
use Rattle.block_results.proofs.Jobs.{fate-holds, fate-none, nothing-in}
use Rattle.block_results.proofs.Leaving.{looks-none}
use Rattle.block_results.proofs.Lines.{fits-nothing, looks-questions, questions-made}
use Rattle.block_results.proofs.Treed.{planned-at, planned-to}
use Rattle.block_results.proofs.Walks.{puts-all}

-- a ticket with a number was opened for one size
abbrev pub IsOnce : List Event → Type 0
IsOnce events = (number first second : ℕ) → WasOpened number first events → WasOpened number second events → first ≡ second

once-first : (events xs ys : List Event) → events ≡ xs ++ ys → IsOnce events → IsOnce xs
once-first events xs ys cut once number first second h k =
    (let all : IsOnce (xs ++ ys) = subst IsOnce cut once in all number first second (met-first xs ys _ h) (met-first xs ys _ k))

once-next : (events xs ys : List Event) → events ≡ xs ++ ys → IsOnce events → IsOnce ys
once-next events xs ys cut once number first second h k =
    (let all : IsOnce (xs ++ ys) = subst IsOnce cut once in all number first second (met-next xs ys _ h) (met-next xs ys _ k))

-- ---- tickets

all-without : (Q : Ticket → Type 0) (actor : ℕ) (numbers : List ℕ) (tickets : List Ticket) → AllByRecursion Q tickets → AllByRecursion Q (without actor numbers tickets)
all-without Q actor numbers [] h = tt
all-without Q actor numbers (t ∷ tickets) h = elim (not (is_among actor numbers t)) as (λ b. AllByRecursion Q (if b then t ∷ without actor numbers tickets else without actor numbers tickets)) [
  | true ↦ (h.0, all-without Q actor numbers tickets h.1)
  | false ↦ all-without Q actor numbers tickets h.1
]

-- tickets that were opened so, each with its number and for its size
module _ (Opens : (number size : ℕ) → Type 0) where
  abbrev pub IsOpened : Ticket → Type 0
  IsOpened t = Opens t.number t.size

  abbrev pub AreOpened : List Ticket → Type 0
  AreOpened tickets = AllByRecursion IsOpened tickets

  one-opened : (actor number : ℕ) (f : Ticket → Ticket) → ((t : Ticket) → IsOpened t → IsOpened (f t)) → (t : Ticket) → IsOpened t → IsOpened (if is_ticket actor number t then f t else t)
  one-opened actor number f so t h = elim (is_ticket actor number t) as (λ b. IsOpened (if b then f t else t)) [
    | true ↦ so t h
    | false ↦ h
  ]

  -- the one that is found was opened with the number
  found-opened : (number : ℕ) (tickets : List Ticket) (t : Ticket) → AreOpened tickets → ticket number tickets ≡ Some t → Opens number t.size
  found-opened number [] t h is = absurd cc
  found-opened number (x ∷ tickets) t h is =
      elim (x.number == number) as (λ b. (x.number == number) ≡ b → (if b then Some x else ticket number tickets) ≡ Some t → Opens number t.size) [
        | true ↦ λ same found.
            (let first : x ≡ t = same_Some x t found in
            subst (λ (y : Ticket). Opens number y.size) first (subst (λ (n : ℕ). Opens n x.size) (eqb-true x.number number same) h.0))
        | false ↦ λ other found. found-opened number tickets t h.1 found
      ] refl is

-- ---- transactions that join by steps, by the tickets that their actor has

module _ (w : History) (actor : ℕ) (P : ℕ → Change → Type 0) (Opens : (number size : ℕ) → Type 0) where
  -- The step asks, forces, opens a ticket for a new object so, fills, seals or drops one, or commits; and what may join by it is such a one, where the tickets that there are were opened so.
  abbrev pub SendsSo : ℕ → Deed → Type 0
  SendsSo n (Ask query answer) = Unit {0}
  SendsSo n (Force answer) = Unit {0}
  SendsSo n (OpenNew pool size prefer (Ok number)) = Opens number size
  SendsSo n (OpenNew pool size prefer (Err e)) = Unit {0}
  SendsSo n (WritePiece number bytes answer) = Unit {0}
  SendsSo n (Seal number answer) = Unit {0}
  SendsSo n (DropTicket number answer) = Unit {0}
  SendsSo n (Commit asked numbers answer) = (s : Sight) → s.inventory ≡ inv w n → AreOpened Opens s.tickets → (c : Change) → change_of asked numbers s ≡ Some c → P n c
  SendsSo n _ = ⊥

  refused-left : (number : ℕ) (b : Bool) (old new : List Ticket) → new ≡ (if b then without actor (number ∷ []) old else old) → AreOpened Opens old → AreOpened Opens new
  refused-left number true old new is h = subst (AreOpened Opens) (sym is) (all-without (IsOpened Opens) actor (number ∷ []) old h)
  refused-left number false old new is h = subst (AreOpened Opens) (sym is) h

  doubt-left : (numbers : List ℕ) (e : Refusal) (old new : List Ticket) → TicketsDoubt actor numbers e old new → AreOpened Opens old → AreOpened Opens new
  doubt-left numbers e old new (inl is) h = subst (AreOpened Opens) (sym is) h
  doubt-left numbers e old new (inr fault) h = subst (AreOpened Opens) (sym fault.1) (all-without (IsOpened Opens) actor numbers old h)

  step-opened : (a b : Holding) (n : ℕ) (d : Deed) → SendsSo n d → Step w actor a (event n d) b → AreOpened Opens a.tickets → AreOpened Opens b.tickets
  step-opened a b n (Ask query answer) so s h = subst (AreOpened Opens) (sym s.has.tickets) h
  step-opened a b n (Force answer) so s h = subst (AreOpened Opens) (sym s.has.tickets) h
  step-opened a b n (OpenNew pool size prefer (Ok number)) so s h = subst (AreOpened Opens) (sym s.has.tickets.3) (all-push (IsOpened Opens) a.tickets _ h so)
  step-opened a b n (OpenNew pool size prefer (Err e)) so s h = subst (AreOpened Opens) (sym s.has.tickets) h
  step-opened a b n (WritePiece number bytes (Ok count)) so s h =
      subst (AreOpened Opens) (sym s.has.tickets) (all-map (IsOpened Opens) (IsOpened Opens) (λ t. if is_ticket actor number t then took bytes t else t) (one-opened Opens actor number (took bytes) (λ t x. x)) a.tickets h)
  step-opened a b n (WritePiece number bytes (Err e)) so s h = refused-left number (is_write_fault e) a.tickets b.tickets s.has.tickets h
  step-opened a b n (Seal number (Ok done)) so s h =
      subst (AreOpened Opens) (sym s.has.tickets) (all-map (IsOpened Opens) (IsOpened Opens) (λ t. if is_ticket actor number t then sealed t else t) (one-opened Opens actor number sealed (λ t x. x)) a.tickets h)
  step-opened a b n (Seal number (Err e)) so s h = refused-left number (is_write_fault e) a.tickets b.tickets s.has.tickets h
  step-opened a b n (DropTicket number (Ok done)) so s h = subst (AreOpened Opens) (sym s.has.tickets) (all-without (IsOpened Opens) actor (number ∷ []) a.tickets h)
  step-opened a b n (DropTicket number (Err e)) so s h = subst (AreOpened Opens) (sym s.has.tickets) h
  step-opened a b n (Commit asked numbers (Ok number)) so s h = subst (AreOpened Opens) (sym s.has.tickets) (all-without (IsOpened Opens) actor numbers a.tickets h)
  step-opened a b n (Commit asked numbers (Err e)) so s h = doubt-left numbers e a.tickets b.tickets s.has.tickets h
  step-opened a b n d so s h = absurd so

  committed-so : (a b : Holding) (n : ℕ) (asked : Asked) (numbers : List ℕ) (number : ℕ) (s : Step w actor a (event n (Commit asked numbers (Ok number))) b) → SendsSo n (Commit asked numbers (Ok number)) → AreOpened Opens a.tickets
      → (joined : Option Change) → s.joined ≡ joined → IsEntered w actor P (event n (Commit asked numbers (Ok number)))
  committed-so a b n asked numbers number s so h None is = absurd (subst (λ (o : Option Change). IsMadeOf asked numbers (sight_at w a n s.next_file) o) is s.joins)
  committed-so a b n asked numbers number s so h (Some c) is =
      let made : change_of asked numbers (sight_at w a n s.next_file) ≡ Some c = subst (λ (o : Option Change). IsMadeOf asked numbers (sight_at w a n s.next_file) o) is s.joins in
      let at : slice_get w.journal (n - w.base.number) ≡ Some (record { actor = actor; change = c }) = subst (λ (o : Option Change). JoinsAt w actor n o) is s.joins_at in
      (c, at, so (sight_at w a n s.next_file) refl h c made)

  entered-one : (a b : Holding) (n : ℕ) (d : Deed) → SendsSo n d → Step w actor a (event n d) b → AreOpened Opens a.tickets → is_made d ≡ true → IsEntered w actor P (event n d)
  entered-one a b n (Commit asked numbers (Ok number)) so s h is = committed-so a b n asked numbers number s so h s.joined refl
  entered-one a b n (Reuse file answer) so s h is = absurd so
  entered-one a b n d so s h is = absurd cc

  pub sends-entered : (events : List Event) (a b : Holding) → AllByRecursion (λ e. SendsSo e.n e.deed) events → AreOpened Opens a.tickets → Fits w actor a events b → AllByRecursion (IsEntered w actor P) (made events)
  unfolding Fits
  sends-entered [] a b all h f = tt
  sends-entered (e ∷ events) a b all h f =
      let later = sends-entered events f.0 b all.1 (step-opened a f.0 e.n e.deed all.0 f.1 h) f.2 in
      elim (is_made e.deed) as (λ t. is_made e.deed ≡ t → AllByRecursion (IsEntered w actor P) (if t then e ∷ made events else made events)) [
        | true ↦ λ is. (entered-one a f.0 e.n e.deed all.0 f.1 h is, later)
        | false ↦ λ is. later
      ] refl

-- ---- rows of a plan as they are stored

few-tickets : (numbers : List ℕ) (s : Sight) → length (all_tickets numbers s) ≤ length numbers
few-tickets [] s = omega arith
few-tickets (number ∷ numbers) s =
    let rest : length (all_tickets numbers s) ≤ length numbers = few-tickets numbers s in
    elim (ticket number s.tickets) as (λ o. length (option_map_or (λ t. t ∷ []) o [] ++ all_tickets numbers s) ≤ suc (length numbers)) [
      | None ↦ omega (arith, rest)
      | Some t ↦ omega (arith, rest)
    ]

-- these steps opened it
abbrev By : (whole : List Event) → (number size : ℕ) → Type 0
By whole number size = WasOpened number size whole

module _ (told : Option Files) (plan : Lists) (whole : List Event) (s : Sight) (opened : AreOpened (By whole) s.tickets) (once : IsOnce whole) where
  -- each ticket that is found was opened for as many bytes as were listed
  rows-sent : (lines : List SealedLine) (numbers : List ℕ) → length (all_tickets numbers s) ≡ length numbers → AreSizedRows told plan whole lines numbers
      → AllByRecursion (IsSent told plan) (paired version_from (map stored lines) (all_tickets numbers s))
  rows-sent [] numbers all h = tt
  rows-sent (row ∷ lines) [] all h = tt
  rows-sent (row ∷ lines) (number ∷ numbers) all ((l, digest, among, is, read, mine), later) =
      elim (ticket number s.tickets) as (λ o. ticket number s.tickets ≡ o → length (option_map_or (λ t. t ∷ []) o [] ++ all_tickets numbers s) ≡ suc (length numbers)
      → AllByRecursion (IsSent told plan) (paired version_from (stored row ∷ map stored lines) (option_map_or (λ t. t ∷ []) o [] ++ all_tickets numbers s))) [
        | None ↦ λ at long.
            (let few : length (all_tickets numbers s) ≤ length numbers = few-tickets numbers s in
            let same : length (all_tickets numbers s) ≡ suc (length numbers) = long in
            absurd (omega (arith, same, few)))
        | Some t ↦ λ at long.
            (let same : suc (length (all_tickets numbers s)) ≡ suc (length numbers) = long in (
              (
                l,
                among,
                ap (λ (x : SealedLine). x.path) is,
                ap (λ (x : SealedLine). x.class) is,
                ap (λ (x : SealedLine). x.mtime) is,
                once number t.size l.file.size (found-opened (By whole) number s.tickets t opened at) mine,
                subst (λ (d : Digest). IsReadAs told l d) (sym (ap (λ (x : SealedLine). x.digest) is)) read,
              ),
              rows-sent lines numbers (omega (arith, same)) later,
            ))
      ] refl all

  storing-ordered : (node : ℕ) (name : List ℕ) (filespace : ℕ) (lines : List SealedLine) (numbers : List ℕ) (c : Change) → AreSizedRows told plan whole lines numbers → change_of (storing filespace lines) numbers s ≡ Some c → IsOrdered node name told plan c
  storing-ordered node name filespace lines numbers c sized is =
      let all = all_tickets numbers s in
      let new = change.Backup (record { filespace = filespace; scratch = scratch_of s.inventory all; items = paired version_from (map stored lines) all }) in
      elim (are_so_many (length (map stored lines)) numbers s) as (λ b. are_so_many (length (map stored lines)) numbers s ≡ b → (if b then Some new else None) ≡ Some c → IsOrdered node name told plan c) [
        | true ↦ λ many same.
            (let parts = and_parts (length all == length (map stored lines)) (length numbers == length (map stored lines)) many in
            let long : length all ≡ length numbers = eqb-true (length all) (length (map stored lines)) parts.0 ∙ sym (eqb-true (length numbers) (length (map stored lines)) parts.1) in
            inl (filespace, scratch_of s.inventory all, paired version_from (map stored lines) all, sym (same_Some new c same), rows-sent lines numbers long sized))
        | false ↦ λ many odd. absurd cc
      ] refl is

-- what joins by what the plan orders is of the plan
ordered-so : (told : Option Files) (name : List ℕ) (b : Begun) (whole : List Event) (given : Asked) (numbers : List ℕ) (c : Change) (s : Sight) → IsOnce whole → AreOpened (By whole) s.tickets → IsOrderedBy told name b whole given numbers
    → change_of given numbers s ≡ Some c → IsOrdered b.node name told b.plan c
ordered-so told name b whole given numbers c s once opened (inl (filespace, lines, is, sized)) joins =
    storing-ordered told b.plan whole s opened once b.node name filespace lines numbers c sized (subst (λ (x : Asked). change_of x numbers s ≡ Some c) is joins)
ordered-so told name b whole given numbers c s once opened (inr (inl (filespace, lines, is, of))) joins =
    let same : change.Rebind (record { filespace = filespace; items = map rebound lines }) ≡ c = same_Some _ c (subst (λ (x : Asked). change_of x numbers s ≡ Some c) is joins) in
    inr (inl (filespace, lines, sym same, of))
ordered-so told name b whole given numbers c s once opened (inr (inr (inl (filespace, lines, is, of)))) joins =
    let same : change.Gone (record { filespace = filespace; items = map named lines }) ≡ c = same_Some _ c (subst (λ (x : Asked). change_of x numbers s ≡ Some c) is joins) in
    inr (inr (inl (filespace, lines, sym same, of)))
ordered-so told name b whole given numbers c s once opened (inr (inr (inr is))) joins =
    let same : change.Object (client.Filespace two.Define b.node name s.inventory.next_filespace) ≡ c = same_Some _ c (subst (λ (x : Asked). change_of x numbers s ≡ Some c) is joins) in
    inr (inr (inr (s.inventory.next_filespace, sym same)))

-- ---- a backup of a tree

module _ (w : History) (actor : ℕ) (k : Client) (i : IncrementalBackup) (since until : ℕ) where
  abbrev Listed : ℕ → Change → Type 0
  Listed n c = HasListedSizes w since until k i c

  module _ (before after : Known) (turns : Turns i.tree before after k) (bg : Begun) (planned : IsPlannedAt w since until k.choice i before.files bg) (whole : List Event) (once : IsOnce whole) where
    backup-step : (n : ℕ) (d : Deed) → IsStepOf before.files i.filespace bg whole d → SendsSo w actor Listed (By whole) n d
    backup-step n (OpenNew pool size prefer (Ok number)) h = h
    backup-step n (OpenNew pool size prefer (Err e)) h = tt
    backup-step n (WritePiece number bytes answer) h = tt
    backup-step n (Seal number answer) h = tt
    backup-step n (DropTicket number answer) h = tt
    backup-step n (Ask query answer) h = tt
    backup-step n (Force answer) h = tt
    backup-step n (Commit asked numbers answer) h = λ s at opened c same. (before, after, turns, bg, planned, ordered-so before.files i.filespace bg whole asked numbers c s once opened h same)
    backup-step n d h = absurd h

  planned-from : (bg : Begun) (told : Option Files) (from to : ℕ) → since ≤ from → IsPlannedAt w from to k.choice i told bg → IsPlannedAt w since to k.choice i told bg
  planned-from bg told from to low (basis, (n, n0, n1, asked), files, listing, planned) = (basis, (n, omega (arith, low, n0), n1, asked), files, listing, planned)

  backup-sized : (events : List Event) (a b : Holding) (before after : Known) (answer : Result Sent Refusal) → since ≤ a.reached → b.reached ≤ until → a.tickets ≡ [] → IsOnce events → Fits w actor a events b → Turns i.tree before after k
      → Increments i.node i.filespace k.choice before.files before.faults after.faults events answer → AllByRecursion (IsEntered w actor Listed) (made events)
  backup-sized events a b before after answer low high none once f turns does =
      elim (orders-of i.node i.filespace k.choice before.files before.faults after.faults events answer does) as (λ _. AllByRecursion (IsEntered w actor Listed) (made events)) [
        | inl questions ↦ entered-none w actor Listed events (questions-made events questions)
        | inr (bg, count, (xs, ys, cut, (begins, questions), of)) ↦
            (let parts = fits-parts w actor a b events xs ys cut f in
            let rises : parts.0.reached ≤ b.reached = fits-rises w actor parts.0 b ys parts.2 in
            let planned = planned-from bg before.files a.reached until low (planned-to w actor k.choice i before.files bg a.reached parts.0.reached until (omega (arith, rises, high)) (planned-at w actor k.choice i before.files before.faults count bg a parts.0 xs begins parts.1)) in
            entered-append w actor Listed events xs ys cut (entered-none w actor Listed xs (questions-made xs questions))
            (sends-entered w actor Listed (By events) ys parts.0 b (all-so (λ e. IsStepOf before.files i.filespace bg events e.deed) (λ e. SendsSo w actor Listed (By events) e.n e.deed)
            (λ e h. backup-step before after turns bg planned events once e.n e.deed h) ys of)
            (subst (λ (ts : List Ticket). AreOpened (By events) ts) (sym (looks-none w actor xs a parts.0 none questions parts.1)) tt) parts.2))
      ]

  tree-sized : (events : List Event) (a b : Holding) (said : SaidOf) → since ≤ a.reached → b.reached ≤ until → a.tickets ≡ [] → IsOnce events → Fits w actor a events b → DoesThere k (back_up i) events said → AllByRecursion (IsEntered w actor Listed) (made events)
  tree-sized events a b said low high none once f (inl (before, after, turns, backs)) = backup-sized events a b before after backs.0 low high none once f turns backs.1.order
  tree-sized events a b said low high none once f (inr (missing, kept, nothing, is)) = entered-none w actor Listed events (ap made nothing)

-- ---- a PUT

-- tickets of this size give versions of it
paired-sized : (size : ℕ) (items : List Item) (tickets : List Ticket) → AllByRecursion (λ t. t.size ≡ size) tickets → AllByRecursion (λ (v : NewVersion). v.size ≡ size) (paired version_from items tickets)
paired-sized size [] tickets h = tt
paired-sized size (i ∷ items) [] h = tt
paired-sized size (i ∷ items) (t ∷ tickets) h = (h.0, paired-sized size items tickets h.1)

module _ (w : History) (actor : ℕ) (p : FilePut) where
  -- the ticket is for as many bytes as the text has
  abbrev OfText : (number size : ℕ) → Type 0
  OfText number size = size ≡ length p.text

  one-found : (number : ℕ) (tickets : List Ticket) → AreOpened OfText tickets → (o : Option Ticket) → ticket number tickets ≡ o → AllByRecursion (λ t. t.size ≡ length p.text) (option_map_or (λ t. t ∷ []) o [] ++ [])
  one-found number tickets opened None is = tt
  one-found number tickets opened (Some t) is = (found-opened OfText number tickets t opened is, tt)

  text-stored : (number : ℕ) (class : List ℕ) (digest : Digest) (ticket_number : ℕ) (s : Sight) (c : Change) → AreOpened OfText s.tickets → change_of (backed_up number (row_put p) class digest) (ticket_number ∷ []) s ≡ Some c → HasTextSize p c
  text-stored number class digest its s c opened is =
      let all = all_tickets (its ∷ []) s in
      let items : List Item = record { path = p.path; class = class; mtime = p.mtime; digest = digest } ∷ [] in
      let new = change.Backup (record { filespace = number; scratch = scratch_of s.inventory all; items = paired version_from items all }) in
      elim (are_so_many 1 (its ∷ []) s) as (λ b. (if b then Some new else None) ≡ Some c → HasTextSize p c) [
        | true ↦ λ same. subst (λ (x : Change). HasTextSize p x) (same_Some new c same) (paired-sized (length p.text) items all (one-found its s.tickets opened (ticket its s.tickets) refl))
        | false ↦ λ odd. absurd cc
      ] is

  text-defined : (number next : ℕ) (c : Change) → Some (change.Object (client.Filespace two.Define number p.filespace next)) ≡ Some c → HasTextSize p c
  text-defined number next c is = subst (λ (x : Change). HasTextSize p x) (same_Some (change.Object (client.Filespace two.Define number p.filespace next)) c is) tt

  abbrev Sends : Event → Type 0
  Sends e = SendsSo w actor (λ n c. HasTextSize p c) OfText e.n e.deed

  opens-text : (n pool prefer : ℕ) (answer : Result ℕ Refusal) → Sends (event n (OpenNew pool (length p.text) prefer answer))
  opens-text n pool prefer (Ok number) = refl
  opens-text n pool prefer (Err e) = tt

  text-sized : (choice : List Rule) (events : List Event) (a b : Holding) (answer : Result ℕ Refusal) → a.tickets ≡ [] → Fits w actor a events b → Puts p.node p.filespace choice (Some (file_put p)) (row_put p) events answer
      → AllByRecursion (IsEntered w actor (λ n c. HasTextSize p c)) (made events)
  text-sized choice events a b answer none f puts =
      sends-entered w actor (λ n c. HasTextSize p c) OfText events a b
      (puts-all Sends (file_put p) (row_put p) p.node p.filespace (λ n q x. tt) (λ n x. tt) opens-text (λ n ticket bytes x. tt) (λ n ticket x. tt) (λ n ticket x. tt)
      (λ n number x s at opened c same. text-defined number s.inventory.next_filespace c same)
      (λ n number class digest ticket x hash s at opened c same. text-stored number class digest ticket s c opened same) choice events answer puts)
      (subst (λ (ts : List Ticket). AreOpened OfText ts) (sym none) tt) f

  puts-sized : (choice : List Rule) (events : List Event) (a b : Holding) (answer : Result ℕ Refusal) → a.tickets ≡ [] → Fits w actor a events b → OrMemory (PutsText choice p) events answer
      → AllByRecursion (IsEntered w actor (λ n c. HasTextSize p c)) (made events)
  puts-sized choice events a b answer none f (inl (inl (puts, tree))) = text-sized choice events a b answer none f puts
  puts-sized choice events a b answer none f (inl (inr (puts, wanted))) = text-sized choice events a b (Err TreeFault) none f puts
  puts-sized choice events a b answer none f (inr (nothing, wanted)) = entered-none w actor (λ n c. HasTextSize p c) events (ap made nothing)

-- ---- a command

abbrev pub IsRun : Result Work Refusal → Type 0
IsRun (Ok (CommitWork what)) = ⊥
IsRun (Ok (Show q)) = ⊥
IsRun (Ok (Run numbers)) = Unit {0}
IsRun (Err why) = Unit {0}

pub found-run : (o : Option ℕ) → IsRun (if_found o (λ number. run (number ∷ [])))
found-run None = tt
found-run (Some number) = tt

module _ (w : History) (actor : ℕ) (k : Client) where
  abbrev Entered : (ℕ → Change → Type 0) → List Event → Type 0
  Entered P events = AllByRecursion (IsEntered w actor P) (made events)

  forced-none : (P : ℕ → Change → Type 0) (came said : SaidOf) (events : List Event) → Forcing came events said → Entered P events
  forced-none P came said events (answer, forced, is) = entered-none w actor P events (made-none (Force answer) events forced refl)

  incremental-works : (i : IncrementalBackup) (since until : ℕ) (work : Result Work Refusal) (events : List Event) (a b : Holding) (said : SaidOf) → since ≤ a.reached → b.reached ≤ until → a.tickets ≡ [] → IsOnce events
      → Fits w actor a events b → IsRun work → DoesWork k (commands.File (files.Incremental i)) work events said → Entered (λ n c. HasListedSizes w since until k i c) events
  incremental-works i since until (Ok (CommitWork what)) events a b said low high none once f runs h = absurd runs
  incremental-works i since until (Ok (Show q)) events a b said low high none once f runs h = absurd runs
  incremental-works i since until (Ok (Run numbers)) events a b said low high none once f runs (came, (us, vs, apart, does, ends)) =
      let P : ℕ → Change → Type 0 = λ n c. HasListedSizes w since until k i c in
      let parts = fits-parts w actor a b events us vs apart f in
      let rises : parts.0.reached ≤ b.reached = fits-rises w actor parts.0 b vs parts.2 in
      entered-append w actor P events us vs apart (tree-sized w actor k i since until us a parts.0 came low (omega (arith, rises, high)) none (once-first events us vs apart once) parts.1 does) (forced-none P came said vs ends)
  incremental-works i since until (Err why) events a b said low high none once f runs (kept, nothing, is) = entered-none w actor (λ n c. HasListedSizes w since until k i c) events (ap made nothing)

  incremental-sized : (i : IncrementalBackup) (events : List Event) (old new : Holding) (said : SaidOf) → old.tickets ≡ [] → IsOnce events → Fits w actor old events new → Doing k (commands.File (files.Incremental i)) events said
      → Entered (λ n c. HasListedSizes w old.reached new.reached k i c) events
  incremental-sized i events old new said none once f (inl (e, kept, looks, is)) =
      entered-none w actor (λ n c. HasListedSizes w old.reached new.reached k i c) events (questions-made events (looks-questions (needs (commands.File (files.Incremental i))) events (Err e) looks))
  incremental-sized i events old new said none once f (inr (answers, (xs, ys, cut, looks, inl works))) =
      let P : ℕ → Change → Type 0 = λ n c. HasListedSizes w old.reached new.reached k i c in
      let parts = fits-parts w actor old new events xs ys cut f in
      let questions = looks-questions (needs (commands.File (files.Incremental i))) xs (Ok answers) looks in
      entered-append w actor P events xs ys cut (entered-none w actor P xs (questions-made xs questions))
      (incremental-works i old.reached new.reached (work_of (commands.File (files.Incremental i)) answers) ys parts.0 new said (fits-rises w actor old parts.0 xs parts.1) (omega arith)
      (looks-none w actor xs old parts.0 none questions parts.1) (once-next events xs ys cut once) parts.2 (found-run (number_found answers)) works)
  incremental-sized i events old new said none once f (inr (answers, (xs, ys, cut, looks, inr (kept, nothing, is)))) =
      let P : ℕ → Change → Type 0 = λ n c. HasListedSizes w old.reached new.reached k i c in
      entered-append w actor P events xs ys cut (entered-none w actor P xs (questions-made xs (looks-questions (needs (commands.File (files.Incremental i))) xs (Ok answers) looks))) (entered-none w actor P ys (ap made nothing))

  put-works : (p : FilePut) (work : Result Work Refusal) (events : List Event) (a b : Holding) (said : SaidOf) → a.tickets ≡ [] → Fits w actor a events b → IsRun work → DoesWork k (commands.File (files.Put p)) work events said
      → Entered (λ n c. HasTextSize p c) events
  put-works p (Ok (CommitWork what)) events a b said none f runs h = absurd runs
  put-works p (Ok (Show q)) events a b said none f runs h = absurd runs
  put-works p (Ok (Run numbers)) events a b said none f runs (came, (us, vs, apart, (kept, (answer, does, shown)), (nothing, same))) =
      let parts = fits-parts w actor a b events us vs apart f in
      entered-append w actor (λ n c. HasTextSize p c) events us vs apart (puts-sized w actor p k.choice us a parts.0 answer none parts.1 does) (entered-none w actor (λ n c. HasTextSize p c) vs (ap made nothing))
  put-works p (Err why) events a b said none f runs (kept, nothing, is) = entered-none w actor (λ n c. HasTextSize p c) events (ap made nothing)

  put-sized : (p : FilePut) (events : List Event) (old new : Holding) (said : SaidOf) → old.tickets ≡ [] → Fits w actor old events new → Doing k (commands.File (files.Put p)) events said → Entered (λ n c. HasTextSize p c) events
  put-sized p events old new said none f (inl (e, kept, looks, is)) =
      entered-none w actor (λ n c. HasTextSize p c) events (questions-made events (looks-questions (needs (commands.File (files.Put p))) events (Err e) looks))
  put-sized p events old new said none f (inr (answers, (xs, ys, cut, looks, inl works))) =
      let parts = fits-parts w actor old new events xs ys cut f in
      let questions = looks-questions (needs (commands.File (files.Put p))) xs (Ok answers) looks in
      entered-append w actor (λ n c. HasTextSize p c) events xs ys cut (entered-none w actor (λ n c. HasTextSize p c) xs (questions-made xs questions))
      (put-works p (work_of (commands.File (files.Put p)) answers) ys parts.0 new said (looks-none w actor xs old parts.0 none questions parts.1) parts.2 (found-run (number_found answers)) works)
  put-sized p events old new said none f (inr (answers, (xs, ys, cut, looks, inr (kept, nothing, is)))) =
      entered-append w actor (λ n c. HasTextSize p c) events xs ys cut
      (entered-none w actor (λ n c. HasTextSize p c) xs (questions-made xs (looks-questions (needs (commands.File (files.Put p))) xs (Ok answers) looks))) (entered-none w actor (λ n c. HasTextSize p c) ys (ap made nothing))

  command-sized : (c : Command) (events : List Event) (old new : Holding) (said : SaidOf) → old.tickets ≡ [] → IsOnce events → Fits w actor old events new → Doing k c events said → CommandSized w actor k c old.reached new.reached events
  command-sized (commands.File (files.Incremental i)) events old new said none once f h = incremental-sized i events old new said none once f h
  command-sized (commands.File (files.Put p)) events old new said none once f h = put-sized p events old new said none f h
  command-sized c events old new said none once f h = tt

  -- ---- a line

  in-job-sized : (in_use : Option ℕ) (n : ℕ) (line : Line) (events : List Event) (result : Result (Answer × Option Refusal) Halt) (old new : Holding) → old.tickets ≡ [] → IsOnce events → Fits w actor old events new → DoesInJob k in_use n line events result
      → LineSized in_use w actor k line old.reached new.reached events
  in-job-sized in_use n comment events result old new none once f h = tt
  in-job-sized in_use n (refused why) events result old new none once f h = tt
  in-job-sized None n (asks c) events result old new none once f (said, doing, ends) = command-sized c events old new said none once f doing
  in-job-sized (Some number) n (asks c) events result old new none once f h = tt

  -- memory was wanted before it was known what the line is
  command-unmade : (c : Command) (events : List Event) (since until : ℕ) → events ≡ [] → CommandSized w actor k c since until events
  command-unmade (commands.File (files.Incremental i)) events since until nothing = entered-none w actor (λ n c. HasListedSizes w since until k i c) events (ap made nothing)
  command-unmade (commands.File (files.Put p)) events since until nothing = entered-none w actor (λ n c. HasTextSize p c) events (ap made nothing)
  command-unmade c events since until nothing = tt

  wanted-sized : (in_use : Option ℕ) (line : Line) (events : List Event) (since until : ℕ) → events ≡ [] → LineSized in_use w actor k line since until events
  wanted-sized in_use comment events since until nothing = tt
  wanted-sized in_use (refused why) events since until nothing = tt
  wanted-sized None (asks c) events since until nothing = command-unmade c events since until nothing
  wanted-sized (Some number) (asks c) events since until nothing = tt

  line-sized : (in_use : Option ℕ) (n : ℕ) (line : Line) (events : List Event) (result : Result (Answer × Option Refusal) Halt) (old new : Holding) → old.tickets ≡ [] → IsOnce events → Fits w actor old events new → AnswersInJob k in_use n line events result
      → LineSized in_use w actor k line old.reached new.reached events
  line-sized in_use n line events result old new none once f (inl h) = in-job-sized in_use n line events result old new none once f h
  line-sized in_use n line events result old new none once f (inr (kept, nothing, is)) = wanted-sized in_use line events old.reached new.reached nothing

  fate-sized : (fate : Fate) (l : JobLine) (events : List Event) (result : Result (Answer × Option Refusal) Halt) (old new : Holding) → old.tickets ≡ [] → IsOnce events → Fits w actor old events new → AnswersFate k fate l events result
      → FateSized w actor k fate l old.reached new.reached events
  fate-sized Beyond l events result old new none once f h = tt
  fate-sized (Done tree) l events result old new none once f h = line-sized l.in_use l.line.number (line_in true l.line.text) events result old new none once f h.0

-- ---- a job

module _ (w : History) (actor : ℕ) (choice : List Rule) where
  -- some of its lines, in front of others
  front-sized : (front others : List JobLine) (trees mids left : List Known) (events xs ys : List Event) (said : List Said) (ended : Option Halt) (old mid : Holding) → old.tickets ≡ [] → IsOnce events → events ≡ xs ++ ys → Fits w actor old xs mid
      → AreAnswered choice front trees xs said mids → (mid.tickets ≡ [] → AreSized w actor choice others mids left mid ys [] ended) → AreSized w actor choice (front ++ others) trees left old events said ended
  front-sized [] others trees mids left events xs ys said ended old mid free once cut f (none, is, same) rest =
      let still = fits-nothing w actor old mid xs none f in
      let all : ys ≡ events = sym (cut ∙ ap (λ (es : List Event). es ++ ys) none) in
      let first = subst (λ (ts : List Known). AreSized w actor choice others ts left mid ys [] ended) same (rest (ap (λ (o : Holding). o.tickets) still ∙ free)) in
      let second = subst (λ (o : Holding). AreSized w actor choice others trees left o ys [] ended) still first in
      subst (λ (s : List Said). AreSized w actor choice others trees left old events s ended) (sym is) (subst (λ (es : List Event). AreSized w actor choice others trees left old es [] ended) all second)
  front-sized (l ∷ front) others trees mids left events xs ys said ended old mid free once cut f (reply, next, more, is, (us, vs, apart, one, rest)) behind =
      let parts = fits-parts w actor old mid xs us vs apart f in
      let all : events ≡ us ++ (vs ++ ys) = cut ∙ ap (λ (es : List Event). es ++ ys) apart ∙ append_assoc us vs ys in
      let holds = fate-holds w actor (between choice trees next) l.line.fate l us reply old parts.0 free parts.1 one in
      subst (λ (s : List Said). AreSized w actor choice (l ∷ (front ++ others)) trees left old events s ended) (sym is) (
        next,
        parts.0,
        us,
        vs ++ ys,
        all,
        parts.1,
        fate-sized w actor (between choice trees next) l.line.fate l us (Ok reply) old parts.0 free (once-first events us (vs ++ ys) all once) parts.1 one,
        front-sized front others next mids left (vs ++ ys) vs ys more ended parts.0 mid (fate-none w actor (between choice trees next) l.line.fate l us reply.0 old parts.0 free holds) (once-next events us (vs ++ ys) all once) refl parts.2 rest behind,
      )

  job-sized : (lines : List JobLine) (trees left : List Known) (events : List Event) (said : List Said) (ended : Option Halt) (old new : Holding) → old.tickets ≡ [] → IsOnce events → Fits w actor old events new
      → DoesLines choice lines trees events said ended left → AreSized w actor choice lines trees left old events said ended
  job-sized lines trees left events said None old new free once f h =
      subst (λ (ls : List JobLine). AreSized w actor choice ls trees left old events said None) (append-nil lines)
      (front-sized lines [] trees left left events events [] said None old new free once (sym (append-nil events)) f h (λ free. refl))
  job-sized lines trees left events said (Some how) old new free once f (front, l, back, mid, is, (xs, ys, cut, answered, ended)) =
      let parts = fits-parts w actor old new events xs ys cut f in
      subst (λ (ls : List JobLine). AreSized w actor choice ls trees left old events said (Some how)) (sym is)
      (front-sized front (l ∷ back) trees mid left events xs ys said (Some how) old parts.0 free once cut parts.1 answered
      (λ none. (new, parts.2, fate-sized w actor (between choice mid left) l.line.fate l ys (Err how) parts.0 new none (once-next events xs ys cut once) parts.2 ended)))

-- each of these jobs
jobs-sized-by : (w : History) (choice : List Rule) (all : List Placed) (job first reached : ℕ) (turns : List Turn) (trees : List (List Known)) (came : List Came) → ((actor : ℕ) → IsOnce (events_of actor turns))
    → ((actor : ℕ) → (last : Holding) × Fits w actor (nothing_at reached) (events_of actor turns) last) → AreDone choice all job first turns trees came → JobsSized w choice all job first reached turns trees came
jobs-sized-by w choice all job first reached turns [] came once fits h = tt
jobs-sized-by w choice all job first reached turns (own ∷ trees) [] once fits h = tt
jobs-sized-by w choice all job first reached turns (own ∷ trees) (c ∷ came) once fits (one, later) =
    let f = fits (first + job) in (
      job-sized w (first + job) choice (lines_of all job all) own c.left (events_of (first + job) turns) c.said c.ended (nothing_at reached) f.0 refl (once (first + job)) f.1 one,
      jobs-sized-by w choice all (job + 1) first reached turns trees came once fits later,
    )

pub jobs-sized : (trusted : Type 0) (places : Places) (w : History) (choice : List Rule) (all : List Placed) (job first reached : ℕ) (turns : List Turn) (old new : Machine) (trees : List (List Known)) (came : List Came) → Turned trusted places turns old new
    → ((actor : ℕ) → (last : Holding) × Fits w actor (nothing_at reached) (events_of actor turns) last) → AreDone choice all job first turns trees came → JobsSized w choice all job first reached turns trees came
jobs-sized trusted places w choice all job first reached turns old new trees came ran fits h = jobs-sized-by w choice all job first reached turns trees came (λ actor. opened-once trusted places actor turns old new ran) fits h

-- the jobs of a block that begins where nothing is in progress
pub block-sized : (trusted : Type 0) (places : Places) (w : History) (choice : List Rule) (all : List Placed) (first reached : ℕ) (turns : List Turn) (old new : Machine) (trees : List (List Known)) (came : List Came) → Turned trusted places turns old new
    → old.core.tickets ≡ [] → old.core.image ≡ None → ((actor : ℕ) → (last : Holding) × Fits w actor (own_in actor reached old.core) (events_of actor turns) last) → AreDone choice all 0 first turns trees came
    → JobsSized w choice all 0 first reached turns trees came
block-sized trusted places w choice all first reached turns old new trees came ran tickets image fits h =
    jobs-sized trusted places w choice all 0 first reached turns old new trees came ran
    (λ actor. (let f = fits actor in (f.0, subst (λ (o : Holding). Fits w actor o (events_of actor turns) f.0) (nothing-in actor reached old.core tickets image) f.1))) h
