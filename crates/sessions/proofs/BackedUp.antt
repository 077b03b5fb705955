-- A file that is put has its bytes in every history that the steps fit, and no ticket is left.
use Rattle.std.proofs.Common.{◌≡◌, inl, inr, ℕ, zero, suc, ◌==◌, ◌&&◌, ◌||◌, ◌+◌, ◌-◌, not, Bool, true, false, if◌then◌else◌, List, [], ◌∷◌, ◌++◌, length, Option, Some, None, IfSome, Result, Ok, Err, refl, sym, ap, subst, ◌∙◌, append_assoc, arith}
use Rattle.std.proofs.lemmas.Bool.{eq-eqb, eqb-true, false≢true, or_left}
use Rattle.std.proofs.lemmas.List.Elements.{Contains-append_left, Contains-append_right, Contains-push}
use Rattle.std.proofs.lemmas.List.Folds.{list_any-append}
use Rattle.std.specs.List.{AllByRecursion, Contains, list_any, slice_get}
use Rattle.std.specs.Option.{option_map_or}
use Rattle.sha2.specs.Sha256.{sha256}
use Rattle.kinds.specs.Refusals.{number_of}
use Rattle.kinds.specs.ValueForms.{digest_with}
use Rattle.kinds.specs.declared.refusal.Holder.{Holder}
use Rattle.kinds.specs.declared.refusal.Refusal.{Refusal}
use Rattle.kinds.specs.declared.refusal.Refusal.TheVariants as refused
use Rattle.kinds.specs.declared.segment.Digest.{Digest}
use Rattle.entries.specs.declared.change.Change.{Change}
use Rattle.entries.specs.declared.change.Change.TheVariants as change
use Rattle.choosers.specs.declared.rule.Rule.{Rule}
use Rattle.client_files.proofs.Ticketed.{drop-lasting, no-step, none-fits, one-step, sent-tickets, stopping-lasting}
use Rattle.client_files.specs.declared.outcome.Came.{Came}
use Rattle.client_files.specs.declared.outcome.Came.TheVariants as came
use Rattle.client_files.specs.Tickets.{HasFile, LeavesTickets}
use Rattle.client_trees.specs.Files.{ClientFile}
use Rattle.client_trees.specs.declared.tree.FileRow.{FileRow}
use Rattle.copy_attempts.specs.Attempts.{Awaits}
use Rattle.inventory_answers.specs.declared.query.Query.{Query}
use Rattle.inventory_answers.specs.declared.query.Query.TheVariants as query
use Rattle.inventory_answers.specs.declared.reply.Rows.{Rows}
use Rattle.inventory_answers.specs.declared.reply.Rows.TheVariants as rows
use Rattle.inventory_rows.specs.State.{Inv}
use Rattle.inventory_work.specs.declared.search.Found.TheVariants as found
use Rattle.inventory_work.specs.declared.search.Named.TheVariants as thing
use Rattle.machine.proofs.Runs.{fits-cut, fits-one}
use Rattle.machine.specs.Changes.{all_tickets, change_of, paired, scratch_of, version_from}
use Rattle.machine.specs.Fits.{Fits, History, IsMadeOf, JoinsAt, Own, Step, TicketsDoubt, inv, is_log_fault, sight_at}
use Rattle.machine.specs.Machine.{storing_contents, stored_by}
use Rattle.machine.specs.Says.{Says}
use Rattle.machine.specs.State.{Purpose, Ticket, is_among, is_storing, object_of, ticket, without}
use Rattle.steps.specs.declared.asked.Asked.{Asked}
use Rattle.steps.specs.declared.asked.Item.{Item}
use Rattle.steps.specs.Events.{Deed, Event, event}
use Rattle.steps.specs.Events.Deed.{OpenNew, OpenCopy, WritePiece, CopyPiece, Seal, Commit, DropTicket, ReadPiece, Ask, Image, Reuse, Force}
use Rattle.steps.specs.Receipts.{forces, is_forced, is_receipt, receipts}
use Rattle.sessions.proofs.Causes.{awaits-all, has-ends, made-all, then-all}
use Rattle.sessions.proofs.Changed.{inv-number}
use Rattle.sessions.specs.Asking.{Asks, AsksFilespace, AsksNode, AsksPath, AsksRules}
use Rattle.sessions.specs.BackedUp.{IsBackedUp, IsPut, LeavesNone, MakesVersion}
use Rattle.sessions.specs.Changing.{IsOf}
use Rattle.sessions.specs.Homes.{home_of}
use Rattle.sessions.specs.InTurn.{Decides, InTurn, OrMemory}
use Rattle.sessions.specs.Putting.{AsksFor, CommitsOne, Defines, FindsFilespace, FindsHome, FindsIn, ForcesOne, GivesBack, Looks, Names, OrGivesBack, Puts, PutsIn, PutsUnder, Sends, SendsOnce, Stores, backed_up, defined, is_lasting, is_unplaced, object_stored, sealed_of, unplaced}
use Rattle.sessions.specs.Waiting.{Ends, Held, Waited}
use Rattle.sessions.specs.declared.homes.Home.{Home}
use Rattle.sessions.specs.declared.sending.Sealed.{Sealed}

-- ---- steps that leave the tickets

abbrev is_empty : List ℕ → Bool
is_empty [] = true
is_empty (number ∷ numbers) = false

abbrev leaves_tickets : Deed → Bool
leaves_tickets (Ask query answer) = true
leaves_tickets (Force answer) = true
leaves_tickets (Commit asked numbers answer) = is_empty numbers
leaves_tickets _ = false

abbrev AreQuiet : List Event → Type 0
AreQuiet events = AllByRecursion (λ e. leaves_tickets e.deed ≡ true) events

no-one : (b : Bool) → (b && false) ≡ false
no-one true = refl
no-one false = refl

without-none : (actor : ℕ) (tickets : List Ticket) → without actor [] tickets ≡ tickets
without-none actor [] = refl
without-none actor (t ∷ tickets) = ap (λ (b : Bool). if not b then t ∷ without actor [] tickets else without actor [] tickets) (no-one (t.actor == actor)) ∙ ap (λ (l : List Ticket). t ∷ l) (without-none actor tickets)

doubt-none : (actor : ℕ) (e : Refusal) (old new : List Ticket) → TicketsDoubt actor [] e old new → new ≡ old
doubt-none actor e old new (inl h) = h
doubt-none actor e old new (inr h) = h.1 ∙ without-none actor old

quiet-step : (w : History) (actor : ℕ) (a b : Own) (n : ℕ) (d : Deed) → leaves_tickets d ≡ true → Step w actor a (event n d) b → b.tickets ≡ a.tickets
quiet-step w actor a b n (OpenNew pool size prefer answer) q s = absurd cc
quiet-step w actor a b n (OpenCopy object aim avoid answer) q s = absurd cc
quiet-step w actor a b n (WritePiece its bytes answer) q s = absurd cc
quiet-step w actor a b n (CopyPiece its answer) q s = absurd cc
quiet-step w actor a b n (Seal its answer) q s = absurd cc
quiet-step w actor a b n (Commit asked [] (Ok number)) q s = s.has.tickets ∙ without-none actor a.tickets
quiet-step w actor a b n (Commit asked [] (Err e)) q s = doubt-none actor e a.tickets b.tickets s.has.tickets
quiet-step w actor a b n (Commit asked (number ∷ numbers) answer) q s = absurd cc
quiet-step w actor a b n (DropTicket its answer) q s = absurd cc
quiet-step w actor a b n (ReadPiece object kept from offset wanted answer) q s = absurd cc
quiet-step w actor a b n (Ask query answer) q s = s.has.tickets
quiet-step w actor a b n (Image kind answer) q s = absurd cc
quiet-step w actor a b n (Reuse file answer) q s = absurd cc
quiet-step w actor a b n (Force answer) q s = s.has.tickets

quiet-tickets : (w : History) (actor : ℕ) (a b : Own) (events : List Event) → AreQuiet events → Fits w actor a events b → b.tickets ≡ a.tickets
unfolding Fits
quiet-tickets w actor a b [] q f = ap (λ (o : Own). o.tickets) f
quiet-tickets w actor a b (x ∷ xs) q f = quiet-tickets w actor f.0 b xs q.1 f.2 ∙ quiet-step w actor a f.0 x.n x.deed q.0 f.1

-- ---- calls of such steps

turn-quiet : {A B : Type 0} (First : List Event → Result A Refusal → Type 0) (Next : A → List Event → Result B Refusal → Type 0)
    → ((xs : List Event) (r : Result A Refusal) → First xs r → AreQuiet xs) → ((x : A) (ys : List Event) (r : Result B Refusal) → Next x ys r → AreQuiet ys)
    → (events : List Event) (result : Result B Refusal) → InTurn First Next events result → AreQuiet events
turn-quiet First Next first next events result (inl (e, h, is)) = first events (Err e) h
turn-quiet First Next first next events result (inr (x, (xs, ys, cut, h, k))) = then-all (λ e. leaves_tickets e.deed ≡ true) events xs ys cut (first xs (Ok x) h) (next x ys result k)

or-quiet : {A : Type 0} (Calls : List Event → Result A Refusal → Type 0) → ((xs : List Event) (r : Result A Refusal) → Calls xs r → AreQuiet xs)
    → (events : List Event) (result : Result A Refusal) → OrMemory Calls events result → AreQuiet events
or-quiet Calls each events result (inl h) = each events result h
or-quiet Calls each events result (inr h) = subst AreQuiet (sym h.0) tt

decides-quiet : {A : Type 0} (said : Result A Refusal) (events : List Event) (result : Result A Refusal) → Decides said events result → AreQuiet events
decides-quiet said events result h = subst AreQuiet (sym h.0) tt

asks-quiet : {A : Type 0} (query : Query) (kind : A → Rows) (events : List Event) (result : Result A Refusal) → Asks query kind events result → AreQuiet events
asks-quiet query kind events (Ok lines) (answer, is, made) = made-all (λ e. leaves_tickets e.deed ≡ true) (Ask query (Ok answer)) events made (λ n. refl)
asks-quiet query kind events (Err e) (inl (why, is, made)) = made-all (λ e. leaves_tickets e.deed ≡ true) (Ask query (Err why)) events made (λ n. refl)
asks-quiet query kind events (Err e) (inr (answer, is, made)) = made-all (λ e. leaves_tickets e.deed ≡ true) (Ask query (Ok answer)) events made (λ n. refl)

change-quiet : (c : Change) (d : Deed) → IsOf c d → leaves_tickets d ≡ true
change-quiet c (OpenNew pool size prefer answer) h = absurd h
change-quiet c (OpenCopy object aim avoid answer) h = absurd h
change-quiet c (WritePiece its bytes answer) h = absurd h
change-quiet c (CopyPiece its answer) h = absurd h
change-quiet c (Seal its answer) h = absurd h
change-quiet c (Commit asked numbers answer) h = ap is_empty h.1
change-quiet c (DropTicket its answer) h = absurd h
change-quiet c (ReadPiece object kept from offset wanted answer) h = absurd h
change-quiet c (Ask query answer) h = absurd h
change-quiet c (Image kind answer) h = absurd h
change-quiet c (Reuse file answer) h = absurd h
change-quiet c (Force answer) h = refl

changes-quiet : (c : Change) (events : List Event) → AllByRecursion (λ e. IsOf c e.deed) events → AreQuiet events
changes-quiet c [] all = tt
changes-quiet c (e ∷ events) all = (change-quiet c e.deed all.0, changes-quiet c events all.1)

-- ---- what is asked and defined for a file

home-quiet : (node : List ℕ) (choice : List Rule) (path : List ℕ) (events : List Event) (result : Result Home Refusal) → FindsHome node choice path events result → AreQuiet events
home-quiet node choice path events result h =
    turn-quiet (OrMemory (AsksNode node)) (λ number. InTurn (AsksRules number) (λ rules. Decides (home_of number rules choice path)))
    (or-quiet (AsksNode node) (asks-quiet (query.Lookup (thing.Node node)) (λ (number : ℕ). rows.Lookup (found.Number number))))
    (λ number. turn-quiet (AsksRules number) (λ rules. Decides (home_of number rules choice path)) (asks-quiet (query.Rules number) rows.Rules) (λ rules. decides-quiet (home_of number rules choice path))) events result h

for-quiet : (node filespace : List ℕ) (events : List Event) (result : Result ℕ Refusal) → AsksFor node filespace events result → AreQuiet events
for-quiet node filespace events result h = or-quiet (AsksFilespace node filespace) (asks-quiet (query.Lookup (thing.Filespace node filespace)) (λ (number : ℕ). rows.Lookup (found.Number number))) events result h

looks-quiet : (node filespace : List ℕ) (events : List Event) (result : Result (Option ℕ) Refusal) → Looks node filespace events result → AreQuiet events
looks-quiet node filespace events result h = for-quiet node filespace events h.0 h.1

defines-quiet : (number : ℕ) (filespace : List ℕ) (events : List Event) (result : Result (Unit {0}) Refusal) → Defines number filespace events result → AreQuiet events
defines-quiet number filespace events result h = changes-quiet (defined number filespace) events h.1.only

in-quiet : (node filespace : List ℕ) (number : ℕ) (it : Option ℕ) (events : List Event) (result : Result ℕ Refusal) → FindsIn node filespace number it events result → AreQuiet events
in-quiet node filespace number None events result h =
    turn-quiet (OrMemory (Defines number filespace)) (λ done. AsksFor node filespace) (or-quiet (Defines number filespace) (defines-quiet number filespace)) (λ done. for-quiet node filespace) events result h
in-quiet node filespace number (Some it) events result h = decides-quiet (Ok it) events result h

filespace-quiet : (node filespace : List ℕ) (number : ℕ) (events : List Event) (result : Result ℕ Refusal) → FindsFilespace node filespace number events result → AreQuiet events
filespace-quiet node filespace number events result h =
    turn-quiet (Looks node filespace) (FindsIn node filespace number) (looks-quiet node filespace) (in-quiet node filespace number) events result h

names-quiet : (node filespace : List ℕ) (file : FileRow) (digest : Digest) (events : List Event) (result : Result ℕ Refusal) → Names node filespace file digest events result → AreQuiet events
names-quiet node filespace file digest events result h =
    turn-quiet (OrMemory (AsksPath node filespace file.path)) (λ lines. Decides (object_stored file digest lines))
    (or-quiet (AsksPath node filespace file.path) (asks-quiet (query.Path node filespace file.path) rows.Versions)) (λ lines. decides-quiet (object_stored file digest lines)) events result h

-- what was committed is forced
forced-behind : (number : ℕ) (events : List Event) (result : Result ℕ Refusal) → ForcesOne number events result → AreQuiet events
forced-behind number events (Ok same) (is, last, made) = made-all (λ e. leaves_tickets e.deed ≡ true) (Force (Ok last)) events made (λ n. refl)
forced-behind number events (Err e) made = made-all (λ e. leaves_tickets e.deed ≡ true) (Force (Err e)) events made (λ n. refl)

-- ---- the ticket

module _ (w : History) (actor : ℕ) (given : Option ClientFile) (pool size : ℕ) where
  -- the one ticket that was sealed; else none, unless the hall is halted or the run is full
  abbrev LeavesSealed : Result Sealed Refusal → List Ticket → Type 0
  LeavesSealed (Ok s) tickets = (t : Ticket) × (tickets ≡ t ∷ []) × HasFile actor s.ticket given size s.digest t
  LeavesSealed (Err e) tickets = is_lasting e ≡ false → tickets ≡ []

  as-sealed : (it : Result Came Refusal) (tickets : List Ticket) → LeavesTickets actor given size it tickets → LeavesSealed (sealed_of it) tickets
  as-sealed (Ok (came.Written number digest)) tickets h = h
  as-sealed (Ok (came.Failed e)) tickets h = λ _. h
  as-sealed (Ok (came.Held holder)) tickets h = λ _. h
  as-sealed (Err e) tickets h = h

  once-sealed : (a b : Own) (answer : Result Sealed Refusal) (events : List Event) → SendsOnce given pool size answer events → Fits w actor a events b → a.tickets ≡ [] → LeavesSealed answer b.tickets
  once-sealed a b answer events (before, after, it, sent, is) f none =
      subst (λ (r : Result Sealed Refusal). LeavesSealed r b.tickets) (sym is) (as-sealed it b.tickets (sent-tickets w actor given pool size before after a b events it f none sent))

  awaits-none : (a b : Own) (h : Holder) (events : List Event) (answer : Result (Unit {0}) Refusal) → Awaits h events answer → Fits w actor a events b → a.tickets ≡ [] → b.tickets ≡ []
  awaits-none a b h events answer awaited f none = quiet-tickets w actor a b events (awaits-all (λ e. leaves_tickets e.deed ≡ true) (λ n a. refl) h events answer awaited) f ∙ none

  held-none : (a b : Own) (events : List Event) (answer : Result (Unit {0}) Refusal) → Held (SendsOnce given pool size) events answer → Fits w actor a events b → a.tickets ≡ [] → b.tickets ≡ []
  held-none a b events answer (h, (xs, ys, cut, tried, awaited)) f none =
      let parts = fits-cut w actor a b xs ys (subst (λ (es : List Event). Fits w actor a es b) cut f) in
      awaits-none parts.0 b h ys answer awaited parts.2 (once-sealed a parts.0 (Err (refused.Busy h)) xs tried parts.1 none refl)

  waited-none : (a b : Own) (number : ℕ) (events : List Event) → Waited (SendsOnce given pool size) number events → Fits w actor a events b → a.tickets ≡ [] → b.tickets ≡ []
  waited-none a b zero events h f none = ap (λ (o : Own). o.tickets) (none-fits w actor a b (subst (λ (es : List Event). Fits w actor a es b) h f)) ∙ none
  waited-none a b (suc number) events (xs, ys, cut, waited, held) f none =
      let parts = fits-cut w actor a b xs ys (subst (λ (es : List Event). Fits w actor a es b) cut f) in
      held-none parts.0 b ys (Ok tt) held parts.2 (waited-none a parts.0 number xs waited parts.1 none)

  ends-sealed : (a b : Own) (waited : ℕ) (events : List Event) (result : Result Sealed Refusal) → Ends (SendsOnce given pool size) waited events result → Fits w actor a events b → a.tickets ≡ [] → LeavesSealed result b.tickets
  ends-sealed a b waited events result (inl h) f none = once-sealed a b result events h.1 f none
  ends-sealed a b waited events result (inr (inl (e, held, is))) f none = subst (λ (r : Result Sealed Refusal). LeavesSealed r b.tickets) (sym is) (λ _. held-none a b events (Err e) held f none)
  ends-sealed a b waited events result (inr (inr h)) f none =
      subst (λ (r : Result Sealed Refusal). LeavesSealed r b.tickets) (sym h.2)
      (λ _. ap (λ (o : Own). o.tickets) (none-fits w actor a b (subst (λ (es : List Event). Fits w actor a es b) h.1 f)) ∙ none)

  sends-sealed : (a b : Own) (events : List Event) (result : Result Sealed Refusal) → Sends given pool size events result → Fits w actor a events b → a.tickets ≡ [] → LeavesSealed result b.tickets
  sends-sealed a b events result (waited, (xs, ys, cut, some, ends)) f none =
      let parts = fits-cut w actor a b xs ys (subst (λ (es : List Event). Fits w actor a es b) cut f) in
      ends-sealed parts.0 b waited ys result ends parts.2 (waited-none a parts.0 waited xs some parts.1 none)

-- ---- the transaction

-- the commit stands among these events, and all before it was made durable behind it
abbrev IsAmong : Event → List Event → Type 0
IsAmong e events = (xs : List Event) × (ys : List Event) × (events ≡ xs ++ e ∷ ys) × (is_forced ys ≡ true)

among-behind : (e : Event) (events front xs : List Event) → events ≡ front ++ xs → IsAmong e xs → IsAmong e events
among-behind e events front xs cut (zs, ys, is, forced) = (front ++ zs, ys, cut ∙ ap (λ (l : List Event). front ++ l) is ∙ sym (append_assoc front zs (e ∷ ys)), forced)

among-before : (e : Event) (events xs back : List Event) → events ≡ xs ++ back → IsAmong e xs → IsAmong e events
among-before e events xs back cut (zs, ys, is, forced) =
    (zs, ys ++ back, cut ∙ ap (λ (l : List Event). l ++ back) is ∙ append_assoc zs (e ∷ ys) back, list_any-append (λ x. forces x.deed) ys back ∙ or_left (is_forced ys) (is_forced back) forced)

among-receipts : (e : Event) (events : List Event) → ((later : List Event) → is_forced later ≡ true → is_receipt e.deed later ≡ true) → IsAmong e events → Contains (receipts events) e
among-receipts e events receipt (xs, ys, is, forced) = subst (λ (es : List Event). Contains (receipts es) e) (sym is) (go xs) where
  go : (xs : List Event) → Contains (receipts (xs ++ e ∷ ys)) e
  go [] = subst (λ (b : Bool). Contains ((if b then e ∷ [] else []) ++ receipts ys) e) (sym (receipt ys forced)) (Contains-append_left (e ∷ []) (receipts ys) e (Contains-push [] e))
  go (x ∷ xs) = Contains-append_right (if is_receipt x.deed (xs ++ e ∷ ys) then x ∷ [] else []) (receipts (xs ++ e ∷ ys)) e (go xs)

-- the commit of a version of the file, among these events
abbrev Commits : History → (actor : ℕ) → Option ClientFile → FileRow → (filespace : ℕ) → (under : List ℕ) → List Event → Type 0
Commits w actor given file filespace under events =
    (n : ℕ) × (ticket : ℕ) × (digest : Digest) × MakesVersion w actor given file filespace under n digest
    × IsAmong (event n (Commit (backed_up filespace file under digest) (ticket ∷ []) (Ok (n + 1)))) events

commits-behind : (w : History) (actor : ℕ) (given : Option ClientFile) (file : FileRow) (filespace : ℕ) (under : List ℕ) (events front xs : List Event) → events ≡ front ++ xs
    → Commits w actor given file filespace under xs → Commits w actor given file filespace under events
commits-behind w actor given file filespace under events front xs cut (n, ticket, digest, makes, among) = (n, ticket, digest, makes, among-behind (event n (Commit (backed_up filespace file under digest) (ticket ∷ []) (Ok (n + 1)))) events front xs cut among)

commits-before : (w : History) (actor : ℕ) (given : Option ClientFile) (file : FileRow) (filespace : ℕ) (under : List ℕ) (events xs back : List Event) → events ≡ xs ++ back
    → Commits w actor given file filespace under xs → Commits w actor given file filespace under events
commits-before w actor given file filespace under events xs back cut (n, ticket, digest, makes, among) = (n, ticket, digest, makes, among-before (event n (Commit (backed_up filespace file under digest) (ticket ∷ []) (Ok (n + 1)))) events xs back cut among)

commits-acknowledged : (w : History) (actor : ℕ) (given : Option ClientFile) (file : FileRow) (filespace : ℕ) (under : List ℕ) (events : List Event) → Commits w actor given file filespace under events
    → IsBackedUp w actor given file filespace under events
commits-acknowledged w actor given file filespace under events (n, ticket, digest, makes, among) = (n, ticket, digest, makes, among-receipts (event n (Commit (backed_up filespace file under digest) (ticket ∷ []) (Ok (n + 1)))) events (λ later forced. forced) among)

turned : (given : Option ClientFile) (bytes : List ℕ) → IfSome given (λ f. f.bytes ≡ bytes) → IfSome given (λ f. bytes ≡ f.bytes)
turned None bytes h = tt
turned (Some f) bytes h = sym h

-- ---- refusals that last

either-way : {A : Type 0} (result : Result A Refusal) (b : Own) → b.tickets ≡ [] → LeavesNone result b.tickets
either-way (Ok x) b none = none
either-way (Err e) b none = λ _. none

abbrev numbered : List ℕ → ℕ → Bool
numbered ns k = list_any (λ n. n == k) ns

fault-lasts : (why : Refusal) → is_log_fault why ≡ true → is_lasting why ≡ true
fault-lasts why h = subst (λ (k : ℕ). numbered (40 ∷ 41 ∷ []) k ≡ true) (sym (eqb-true (number_of why) 40 h)) refl

-- what lasts is answered as it is
unplaced-lasts : (why : Refusal) → is_lasting why ≡ true → is_lasting (unplaced why) ≡ true
unplaced-lasts why h = elim (is_unplaced why) as (λ b. is_unplaced why ≡ b → is_lasting (if b then why else refused.Memory) ≡ true) [
  | true ↦ λ _. h
  | false ↦ λ never. absurd (false≢true (sym never ∙ has-ends (10 ∷ 30 ∷ 31 ∷ 40 ∷ 41 ∷ 50 ∷ []) refl refl why h))
] refl

lasting-given-back : (ticket : ℕ) (why e : Refusal) (events : List Event) → GivesBack ticket why events e → is_lasting why ≡ true → is_lasting e ≡ true
lasting-given-back ticket why e events (inl (lasts, none, same)) lasting = ap is_lasting same ∙ unplaced-lasts why lasting
lasting-given-back ticket why e events (inr (other, answer, step, same)) lasting = absurd (false≢true (sym other ∙ lasting))

-- ---- one ticket

-- of the one ticket
module _ (w : History) (actor number : ℕ) (a : Own) (t : Ticket) (is : a.tickets ≡ t ∷ []) (its : t.number ≡ number) (mine : t.actor ≡ actor) where
  found-first : ticket number a.tickets ≡ Some t
  found-first = ap (ticket number) is ∙ ap (λ (b : Bool). if b then Some t else None) (eq-eqb t.number number its)

  all-one : (n next_file : ℕ) → all_tickets (number ∷ []) (sight_at w a n next_file) ≡ t ∷ []
  all-one n next_file = ap (λ (o : Option Ticket). option_map_or (λ (u : Ticket). u ∷ []) o [] ++ []) found-first

  none-behind : (new : List Ticket) → new ≡ without actor (number ∷ []) a.tickets → new ≡ []
  none-behind new h = h ∙ ap (without actor (number ∷ [])) is ∙ ap (λ (b : Bool). if not b then t ∷ [] else []) among where
    among : is_among actor (number ∷ []) t ≡ true
    among = ap (λ (b : Bool). b && (number == t.number || false)) (eq-eqb t.actor actor mine) ∙ ap (λ (b : Bool). b || false) (eq-eqb number t.number (sym its))

-- what is asked with the one ticket
abbrev backup_with : (filespace : ℕ) → Item → Inv → (numbers : List ℕ) → List Ticket → Option Change
backup_with filespace i v numbers tickets =
    if length tickets == 1 && length numbers == 1 then Some (change.Backup (record { filespace = filespace; scratch = scratch_of v tickets; items = paired version_from (i ∷ []) tickets })) else None

module _ (w : History) (actor : ℕ) (given : Option ClientFile) (file : FileRow) (filespace : ℕ) (under : List ℕ) (s : Sealed) where
  abbrev its_item : Item
  its_item = record { path = file.path; class = under; mtime = file.mtime; digest = s.digest }

  abbrev its_asked : Asked
  its_asked = backed_up filespace file under s.digest

  module _ (a b : Own) (t : Ticket) (is : a.tickets ≡ t ∷ []) (h : HasFile actor s.ticket given file.size s.digest t) where
    -- the commit
    module _ (n number : ℕ) (step : Step w actor a (event n (Commit its_asked (s.ticket ∷ []) (Ok number))) b) where
      one : all_tickets (s.ticket ∷ []) (sight_at w a n step.next_file) ≡ t ∷ []
      one = all-one w actor s.ticket a t is h.number h.actor n step.next_file

      asked-is : change_of its_asked (s.ticket ∷ []) (sight_at w a n step.next_file) ≡ Some (change.Backup (record { filespace = filespace; scratch = scratch_of (inv w n) (t ∷ []); items = version_from its_item t ∷ [] }))
      asked-is = ap (backup_with filespace its_item (inv w n) (s.ticket ∷ [])) one

      joins-so : (joined : Option Change) → IsMadeOf its_asked (s.ticket ∷ []) (sight_at w a n step.next_file) joined → JoinsAt w actor n joined
          → slice_get w.journal (n - w.base.number) ≡ Some (record { actor = actor; change = change.Backup (record { filespace = filespace; scratch = scratch_of (inv w n) (t ∷ []); items = version_from its_item t ∷ [] }) })
      joins-so None made at = absurd made
      joins-so (Some c) made at =
          let same : Some c ≡ Some (change.Backup (record { filespace = filespace; scratch = scratch_of (inv w n) (t ∷ []); items = version_from its_item t ∷ [] })) = sym made ∙ asked-is in
          let it : c ≡ change.Backup (record { filespace = filespace; scratch = scratch_of (inv w n) (t ∷ []); items = version_from its_item t ∷ [] }) = cc in
          subst (λ (x : Change). slice_get w.journal (n - w.base.number) ≡ Some (record { actor = actor; change = x })) it at

      stores-it : stored_by (object_of t.purpose) t ≡ true
      stores-it = ap (λ (p : Purpose). is_storing p && object_of t.purpose == object_of t.purpose) h.purpose ∙ eq-eqb (object_of t.purpose) (object_of t.purpose) refl

      has-bytes : w.contents (object_of t.purpose) ≡ t.bytes
      has-bytes =
          step.stored (object_of t.purpose)
          ∙ ap (λ (tickets : List Ticket). storing_contents tickets w.contents (object_of t.purpose)) one
          ∙ ap (λ (c : Bool). option_map_or (λ (u : Ticket). u.bytes) (if c then Some t else None) (w.contents (object_of t.purpose))) stores-it

      makes : MakesVersion w actor given file filespace under n s.digest
      makes = record {
        since = step.begun;
        scratch = scratch_of (inv w n) (t ∷ []);
        item = version_from its_item t;
        joined = joins-so step.joined step.joins step.joins_at;
        path = refl;
        class = refl;
        size = h.size;
        mtime = refl;
        digest = refl;
        long = ap length has-bytes ∙ h.long;
        hash = subst (λ (l : List ℕ). s.digest ≡ digest_with (sha256 l)) (sym has-bytes) h.hash;
        bytes = subst (λ (l : List ℕ). IfSome given (λ f. l ≡ f.bytes)) (sym has-bytes) (turned given t.bytes h.whole);
      }

      number-is : number ≡ n + 1
      unfolding Says
      number-is =
          let says : number ≡ (inv w n).number + 1 = step.says.1 in
          let behind : (inv w n).number ≡ n = inv-number w n step.begun step.within in
          omega (arith, says, behind)

    -- behind a commit that was refused the ticket is there still, unless the hall is halted
    doubt-kept : (why : Refusal) (new : List Ticket) → TicketsDoubt actor (s.ticket ∷ []) why a.tickets new → is_lasting why ≡ false → new ≡ t ∷ []
    doubt-kept why new (inl same) mild = same ∙ is
    doubt-kept why new (inr fault) mild = absurd (false≢true (sym mild ∙ fault-lasts why fault.0))

    not-committed : (why : Refusal) (events : List Event) → OrMemory (CommitsOne its_asked s.ticket) events (Err why) → Fits w actor a events b → is_lasting why ≡ false → b.tickets ≡ t ∷ []
    not-committed why events (inl (inl made)) f mild =
        (let step = one-step w actor a b (Commit its_asked (s.ticket ∷ []) (Err why)) events f made in doubt-kept why b.tickets step.1.has.tickets mild)
    not-committed why events (inl (inr made)) f mild = ap (λ (o : Own). o.tickets) (no-step w actor a b (Commit its_asked (s.ticket ∷ []) (Err why)) events f made.1) ∙ is
    not-committed why events (inr none) f mild = ap (λ (o : Own). o.tickets) (no-step w actor a b (Commit its_asked (s.ticket ∷ []) (Err why)) events f none.0) ∙ is

    -- it is given back
    dropped : (why e : Refusal) (events : List Event) → GivesBack s.ticket why events e → Fits w actor a events b → is_lasting e ≡ false → b.tickets ≡ []
    dropped why e events (inl (lasting, none, same)) f mild = absurd (false≢true (sym mild ∙ ap is_lasting same ∙ unplaced-lasts why lasting))
    dropped why e events (inr (other, Ok done, given_back, same)) f mild =
        (let step = one-step w actor a b (DropTicket s.ticket (Ok done)) events f given_back in none-behind w actor s.ticket a t is h.number h.actor b.tickets step.1.has.tickets)
    dropped why e events (inr (other, Err again, given_back, same)) f mild =
        (let step = one-step w actor a b (DropTicket s.ticket (Err again)) events f given_back in
        absurd (false≢true (sym mild ∙ ap is_lasting same ∙ stopping-lasting again (drop-lasting w actor s.ticket a b t step.0 again is h.number step.1 given_back.2))))

  -- the commit with the one ticket, or its return
  module _ (a b : Own) (t : Ticket) (is : a.tickets ≡ t ∷ []) (h : HasFile actor s.ticket given file.size s.digest t) where
    is-forced : (number seq : ℕ) (events : List Event) → ForcesOne number events (Ok seq) → is_forced events ≡ true
    is-forced number seq events (same, last, inl made) = ap is_forced made.1
    is-forced number seq events (same, last, inr made) = absurd cc

    -- the commit was made
    committed : (number : ℕ) (events : List Event) → OrMemory (CommitsOne its_asked s.ticket) events (Ok number) → Fits w actor a events b
        → (n : ℕ) × (events ≡ event n (Commit its_asked (s.ticket ∷ []) (Ok number)) ∷ []) × Step w actor a (event n (Commit its_asked (s.ticket ∷ []) (Ok number))) b
    committed number events (inl (inl made)) f = (made.0, made.1, fits-one w actor a b (event made.0 (Commit its_asked (s.ticket ∷ []) (Ok number))) (subst (λ (es : List Event). Fits w actor a es b) made.1 f))
    committed number events (inl (inr made)) f = absurd cc
    committed number events (inr none) f = absurd cc

    spent-by : (number : ℕ) (events : List Event) → OrMemory (CommitsOne its_asked s.ticket) events (Ok number) → Fits w actor a events b → b.tickets ≡ []
    spent-by number events made f = (let c = committed number events made f in none-behind w actor s.ticket a t is h.number h.actor b.tickets c.2.has.tickets)

    -- with what made it durable it is the file's version
    commits-it : (number seq : ℕ) (xs ys events : List Event) → OrMemory (CommitsOne its_asked s.ticket) xs (Ok number) → Fits w actor a xs b → ForcesOne number ys (Ok seq) → events ≡ xs ++ ys
        → Commits w actor given file filespace under events
    commits-it number seq xs ys events made f forced cut =
        (let c = committed number xs made f in
        let its : number ≡ c.0 + 1 = number-is a b t is h c.0 number c.2 in (
          c.0,
          s.ticket,
          s.digest,
          makes a b t is h c.0 number c.2,
          ([], ys, cut ∙ ap (λ (l : List Event). l ++ ys) c.1 ∙ ap (λ (m : ℕ). event c.0 (Commit its_asked (s.ticket ∷ []) (Ok m)) ∷ ys) its, is-forced number seq ys forced),
        ))

  given-back-none : (a b : Own) (t : Ticket) (e : Refusal) (events : List Event) → a.tickets ≡ t ∷ [] → HasFile actor s.ticket given file.size s.digest t
      → OrGivesBack s.ticket (OrMemory (CommitsOne its_asked s.ticket)) events (Err e) → Fits w actor a events b → is_lasting e ≡ false → b.tickets ≡ []
  given-back-none a b t e events is h (why, (xs, ys, cut, made, gives)) f mild =
      let parts = fits-cut w actor a b xs ys (subst (λ (es : List Event). Fits w actor a es b) cut f) in
      elim (is_lasting why) as (λ l. is_lasting why ≡ l → b.tickets ≡ []) [
        | true ↦ λ lasting. absurd (false≢true (sym mild ∙ lasting-given-back s.ticket why e ys gives lasting))
        | false ↦ λ other. dropped parts.0 b t (not-committed a parts.0 t is h why xs made parts.1 other) h why e ys gives parts.2 mild
      ] refl

  stored-none : (a b : Own) (t : Ticket) (events : List Event) (result : Result ℕ Refusal) → a.tickets ≡ t ∷ [] → HasFile actor s.ticket given file.size s.digest t
      → Stores filespace file under s events result → Fits w actor a events b → LeavesNone result b.tickets
  stored-none a b t events result is h (inl (e, given_back, same)) f = subst (λ (r : Result ℕ Refusal). LeavesNone r b.tickets) (sym same) (given-back-none a b t e events is h given_back f)
  stored-none a b t events result is h (inr (number, (xs, ys, cut, made, forced))) f =
      let parts = fits-cut w actor a b xs ys (subst (λ (es : List Event). Fits w actor a es b) cut f) in
      let none : b.tickets ≡ [] = quiet-tickets w actor parts.0 b ys (forced-behind number ys result forced) parts.2 ∙ spent-by a parts.0 t is h number xs made parts.1 in
      either-way result b none

  stored-commits : (a b : Own) (t : Ticket) (seq : ℕ) (events : List Event) → a.tickets ≡ t ∷ [] → HasFile actor s.ticket given file.size s.digest t
      → Stores filespace file under s events (Ok seq) → Fits w actor a events b → Commits w actor given file filespace under events
  stored-commits a b t seq events is h (inl (e, given_back, same)) f = absurd cc
  stored-commits a b t seq events is h (inr (number, (xs, ys, cut, made, forced))) f =
      let parts = fits-cut w actor a b xs ys (subst (λ (es : List Event). Fits w actor a es b) cut f) in
      commits-it a parts.0 t is h number seq xs ys events made parts.1 forced cut

-- ---- all of it

module _ (w : History) (actor : ℕ) (node filespace : List ℕ) (given : Option ClientFile) (file : FileRow) where
  -- into the filespace with this number
  module _ (home : Home) (number : ℕ) where
    in-none : (a b : Own) (events : List Event) (result : Result ℕ Refusal) → PutsIn node filespace given file home number events result → Fits w actor a events b → a.tickets ≡ [] → LeavesNone result b.tickets
    in-none a b events result (inl (e, sent, same)) f none = subst (λ (r : Result ℕ Refusal). LeavesNone r b.tickets) (sym same) (sends-sealed w actor given home.pool file.size a b events (Err e) sent f none)
    in-none a b events result (inr (s, (xs, ys, cut, sent, inl (e, stores, same)))) f none =
        let parts = fits-cut w actor a b xs ys (subst (λ (es : List Event). Fits w actor a es b) cut f) in
        let one = sends-sealed w actor given home.pool file.size a parts.0 xs (Ok s) sent parts.1 none in
        subst (λ (r : Result ℕ Refusal). LeavesNone r b.tickets) (sym same) (stored-none w actor given file number home.class s parts.0 b one.0 ys (Err e) one.1 one.2 stores parts.2)
    in-none a b events result (inr (s, (xs, ys, cut, sent, inr (seq, (zs, vs, apart, stores, names))))) f none =
        let parts = fits-cut w actor a b xs ys (subst (λ (es : List Event). Fits w actor a es b) cut f) in
        let pieces = fits-cut w actor parts.0 b zs vs (subst (λ (es : List Event). Fits w actor parts.0 es b) apart parts.2) in
        let one = sends-sealed w actor given home.pool file.size a parts.0 xs (Ok s) sent parts.1 none in
        either-way result b
        (quiet-tickets w actor pieces.0 b vs (names-quiet node filespace file s.digest vs result names) pieces.2
        ∙ stored-none w actor given file number home.class s parts.0 pieces.0 one.0 zs (Ok seq) one.1 one.2 stores pieces.1)

    in-commits : (a b : Own) (object : ℕ) (events : List Event) → PutsIn node filespace given file home number events (Ok object) → Fits w actor a events b → a.tickets ≡ [] → Commits w actor given file number home.class events
    in-commits a b object events (inl (e, sent, same)) f none = absurd cc
    in-commits a b object events (inr (s, (xs, ys, cut, sent, inl (e, stores, same)))) f none = absurd cc
    in-commits a b object events (inr (s, (xs, ys, cut, sent, inr (seq, (zs, vs, apart, stores, names))))) f none =
        let parts = fits-cut w actor a b xs ys (subst (λ (es : List Event). Fits w actor a es b) cut f) in
        let pieces = fits-cut w actor parts.0 b zs vs (subst (λ (es : List Event). Fits w actor parts.0 es b) apart parts.2) in
        let one = sends-sealed w actor given home.pool file.size a parts.0 xs (Ok s) sent parts.1 none in
        commits-behind w actor given file number home.class events xs ys cut
        (commits-before w actor given file number home.class ys zs vs apart (stored-commits w actor given file number home.class s parts.0 pieces.0 one.0 seq zs one.1 one.2 stores pieces.1))

  under-none : (home : Home) (a b : Own) (events : List Event) (result : Result ℕ Refusal) → PutsUnder node filespace given file home events result → Fits w actor a events b → a.tickets ≡ [] → LeavesNone result b.tickets
  under-none home a b events result (inl (e, finds, same)) f none =
      subst (λ (r : Result ℕ Refusal). LeavesNone r b.tickets) (sym same) (λ _. quiet-tickets w actor a b events (filespace-quiet node filespace home.node events (Err e) finds) f ∙ none)
  under-none home a b events result (inr (number, (xs, ys, cut, finds, puts))) f none =
      let parts = fits-cut w actor a b xs ys (subst (λ (es : List Event). Fits w actor a es b) cut f) in
      in-none home number parts.0 b ys result puts parts.2 (quiet-tickets w actor a parts.0 xs (filespace-quiet node filespace home.node xs (Ok number) finds) parts.1 ∙ none)

  under-commits : (home : Home) (a b : Own) (object : ℕ) (events : List Event) → PutsUnder node filespace given file home events (Ok object) → Fits w actor a events b → a.tickets ≡ []
      → (number : ℕ) × Commits w actor given file number home.class events
  under-commits home a b object events (inl (e, finds, same)) f none = absurd cc
  under-commits home a b object events (inr (number, (xs, ys, cut, finds, puts))) f none =
      let parts = fits-cut w actor a b xs ys (subst (λ (es : List Event). Fits w actor a es b) cut f) in
      let before : parts.0.tickets ≡ [] = quiet-tickets w actor a parts.0 xs (filespace-quiet node filespace home.node xs (Ok number) finds) parts.1 ∙ none in
      (number, commits-behind w actor given file number home.class events xs ys cut (in-commits home number parts.0 b object ys puts parts.2 before))

  pub put-none : (choice : List Rule) (a b : Own) (events : List Event) (result : Result ℕ Refusal) → Fits w actor a events b → a.tickets ≡ [] → Puts node filespace choice given file events result → LeavesNone result b.tickets
  put-none choice a b events result f none (inl (e, finds, same)) =
      subst (λ (r : Result ℕ Refusal). LeavesNone r b.tickets) (sym same) (λ _. quiet-tickets w actor a b events (home-quiet node choice file.path events (Err e) finds) f ∙ none)
  put-none choice a b events result f none (inr (home, (xs, ys, cut, finds, puts))) =
      let parts = fits-cut w actor a b xs ys (subst (λ (es : List Event). Fits w actor a es b) cut f) in
      under-none home parts.0 b ys result puts parts.2 (quiet-tickets w actor a parts.0 xs (home-quiet node choice file.path xs (Ok home) finds) parts.1 ∙ none)

  pub put-has : (choice : List Rule) (a b : Own) (object : ℕ) (events : List Event) → Fits w actor a events b → a.tickets ≡ [] → Puts node filespace choice given file events (Ok object) → IsPut w actor node choice given file events
  put-has choice a b object events f none (inl (e, finds, same)) = absurd cc
  put-has choice a b object events f none (inr (home, (xs, ys, cut, finds, puts))) =
      let parts = fits-cut w actor a b xs ys (subst (λ (es : List Event). Fits w actor a es b) cut f) in
      let before : parts.0.tickets ≡ [] = quiet-tickets w actor a parts.0 xs (home-quiet node choice file.path xs (Ok home) finds) parts.1 ∙ none in
      let it = under-commits home parts.0 b object ys puts parts.2 before in
      (home, it.0, (xs, ys, cut, finds, commits-acknowledged w actor given file it.0 home.class ys it.1))
