-- An incremental backup makes no other steps than its own.
use Rattle.std.proofs.Common.{◌≡◌, ◌⊎◌, inl, inr, ℕ, zero, suc, Bool, Contains, List, [], ◌∷◌, ◌++◌, drop, length, Option, None, Some, Result, Ok, Err, refl, sym, subst}
use Rattle.std.proofs.lemmas.List.Elements.{All-contains_itself, recursion_from_All}
use Rattle.std.specs.List.{AllByRecursion}
use Rattle.kinds.specs.declared.refusal.Refusal.{Refusal}
use Rattle.choosers.specs.declared.rule.Rule.{Rule}
use Rattle.client_batches.specs.declared.batch.Batch.{Batch}
use Rattle.client_batches.specs.declared.listing.SealedLine.{SealedLine}
use Rattle.client_batches.specs.Batches.{Batches, SealsAndStores, Stores, sealed_lines}
use Rattle.client_batches.specs.Handling.{BindsPaths, EndsVersions, SendsFiles}
use Rattle.client_batches.specs.Listings.{ending, rebinding, storing}
use Rattle.client_batches.specs.Rounds.{AwaitsOne, InRuns, Rounds, SendsAll, SendsNone, SendsSome}
use Rattle.client_batches.specs.Sends.{Sent, Stops, tickets_in}
use Rattle.client_batches.specs.Verdicts.{waiting}
use Rattle.client_batches.proofs.Ordering.{Each, each-as, each-both, each-commits, each-given, each-made, each-none, each-runs, each-then, each-waits}
use Rattle.client_batches.proofs.Sealed.{behind-each}
use Rattle.client_batches.proofs.Quiet.{each_quiet, one_quiet, seals_quiet, unsealed_quiet}
use Rattle.client_batches.specs.Quiet.{AreQuiet, IsQuiet}
use Rattle.client_files.specs.declared.outcome.Came.{Came}
use Rattle.client_files.specs.declared.outcome.Came.TheVariants as came
use Rattle.client_plan.specs.Plans.{Lists}
use Rattle.client_plan.specs.declared.lines.GoneLine.{GoneLine}
use Rattle.client_plan.specs.declared.lines.RebindLine.{RebindLine}
use Rattle.client_plan.specs.declared.lines.SendLine.{SendLine}
use Rattle.client_trees.specs.Files.{Files}
use Rattle.inventory_answers.specs.declared.lines.FilespaceLine.{FilespaceLine}
use Rattle.inventory_answers.specs.declared.lines.VersionLine.{VersionLine}
use Rattle.inventory_answers.specs.declared.query.Query.{Query}
use Rattle.inventory_answers.specs.declared.query.Query.TheVariants as query
use Rattle.inventory_answers.specs.declared.reply.Answer.{Answer}
use Rattle.inventory_work.specs.declared.lines.Rules.{Rules}
use Rattle.inventory_work.specs.declared.search.Named.TheVariants as thing
use Rattle.steps.specs.declared.asked.Asked.{Asked}
use Rattle.steps.specs.Calls.{Made}
use Rattle.steps.specs.Events.{Deed, Event}
use Rattle.steps.specs.Events.Deed.{OpenNew, OpenCopy, WritePiece, CopyPiece, Seal, Commit, DropTicket, ReadPiece, Ask, Image, Reuse, Force}
use Rattle.incrementals.specs.declared.answering.Outs.{Outs}
use Rattle.incrementals.specs.declared.answering.Sent.{Sent as Said}
use Rattle.incrementals.specs.declared.asking.Basis.{Basis}
use Rattle.incrementals.specs.declared.asking.Ruled.{Ruled}
use Rattle.incrementals.specs.declared.planning.Begun.{Begun}
use Rattle.incrementals.specs.Asking.{AsksAll, AsksFor, AsksNode, AsksNodeRules, AsksRules, AsksVersions, HasFilespaces, HasNumber, HasRules, Unanswered}
use Rattle.incrementals.specs.Filespaces.{DefinesAndFinds, DefinesOne, FindsOne, HasFilespace, defining}
use Rattle.incrementals.specs.Orders.{AreOfBackup, AreQuestions, IsOfBackup, IsOfPlan, IsOrdered, IsQuestion}
use Rattle.incrementals.specs.Planning.{Begins}
use Rattle.incrementals.proofs.Sized.{AreRead, seals-read, sends-read}
use Rattle.incrementals.specs.Process.{CarriesOut, CommitsLists, Finishes, Forces, Increments, Only, Works, is_sending}

-- ---- questions

module _ (K : Deed → Type 0) (asks : (q : Query) (answer : Result Answer Refusal) → K (Ask q answer)) where
  each-unanswered : (q : Query) (events : List Event) (e : Refusal) → Unanswered q events e → Each K events
  each-unanswered q events e (inl h) = each-none K events h.1
  each-unanswered q events e (inr (inl h)) = each-made K (Ask q (Ok h.0)) events (asks q (Ok h.0)) h.2
  each-unanswered q events e (inr (inr h)) = each-made K (Ask q (Err h.0)) events (asks q (Err h.0)) h.2

  each-asks : {A : Type 0} (q : Query) (Has : A → Answer → Type 0) (events : List Event) (result : Result A Refusal) → AsksFor q Has events result → Each K events
  each-asks q Has events (Ok x) h = each-made K (Ask q (Ok h.0)) events (asks q (Ok h.0)) h.2
  each-asks q Has events (Err e) h = each-unanswered q events e h

  each-versions : (node filespace : List ℕ) (events : List Event) (result : Result (List VersionLine) Refusal) → AsksVersions node filespace events result → Each K events
  each-versions node filespace events (Ok lines) (inl h) = each-made K (Ask (query.Versions node filespace) (Ok h.0)) events (asks (query.Versions node filespace) (Ok h.0)) h.2
  each-versions node filespace events (Ok lines) (inr h) = each-made K (Ask (query.Versions node filespace) (Err h.1)) events (asks (query.Versions node filespace) (Err h.1)) h.3
  each-versions node filespace events (Err e) h = each-unanswered (query.Versions node filespace) events e h.1

  each-node : (node : List ℕ) (events : List Event) (result : Result ℕ Refusal) → AsksNode node events result → Each K events
  each-node node events result h = each-asks (query.Lookup (thing.Node node)) HasNumber events result h

  each-rules : (number : ℕ) (events : List Event) (result : Result Ruled Refusal) → AsksRules number events result → Each K events
  each-rules number events result h = each-asks (query.Rules number) (HasRules number) events result h

  each-node-rules : (node : List ℕ) (events : List Event) (result : Result Ruled Refusal) → AsksNodeRules node events result → Each K events
  each-node-rules node events result (inl (number, (xs, ys, cut, a, b))) = each-both K events xs ys cut (each-node node xs (Ok number) a) (each-rules number ys result b)
  each-node-rules node events result (inr h) = each-node node events (Err h.0) h.1

  pub each-questions : (node filespace : List ℕ) (events : List Event) (result : Result Basis Refusal) → AsksAll node filespace events result → Each K events
  each-questions node filespace events (Ok b) (xs, ys, cut, a, c) = each-both K events xs ys cut (each-versions node filespace xs (Ok b.versions) a) (each-node-rules node ys (Ok b.ruled) c)
  each-questions node filespace events (Err e) (inl h) = each-versions node filespace events (Err e) h
  each-questions node filespace events (Err e) (inr (versions, (xs, ys, cut, a, c))) = each-both K events xs ys cut (each-versions node filespace xs (Ok versions) a) (each-node-rules node ys (Err e) c)

  pub each-begins : (node filespace : List ℕ) (choice : List Rule) (told : Option Files) (before after : ℕ) (events : List Event) (result : Result Begun Refusal) → Begins node filespace choice told before after events result → Each K events
  each-begins node filespace choice told before after events (Ok b) h = each-questions node filespace events (Ok h.0) h.1
  each-begins node filespace choice told before after events (Err e) (inl h) = each-questions node filespace events (Err e) h.0
  each-begins node filespace choice told before after events (Err e) (inr h) = each-questions node filespace events (Ok h.0) h.1

  each-finds : (node filespace : List ℕ) (events : List Event) (result : Result (Option ℕ) Refusal) → FindsOne node filespace events result → Each K events
  each-finds node filespace events (Ok found) h = each-asks (query.Filespaces (Some node)) HasFilespaces events (Ok h.0) h.1
  each-finds node filespace events (Err e) h = each-asks {A = List FilespaceLine} (query.Filespaces (Some node)) HasFilespaces events (Err e) h

  -- ---- the filespace

  module _ (node : List ℕ) (number : ℕ) (filespace : List ℕ) (defines : (answer : Result ℕ Refusal) → K (Commit (defining number filespace) [] answer)) where
    each-defines : (events : List Event) (result : Result (Unit {0}) Refusal) → DefinesOne number filespace events result → Each K events
    each-defines events result (inl h) = each-none K events h.0
    each-defines events result (inr h) = each-made K (Commit (defining number filespace) [] h.0) events (defines h.0) h.1

    each-found : (events : List Event) (result : Result ℕ Refusal) → DefinesAndFinds node number filespace events result → Each K events
    each-found events result (inl (found, (xs, ys, cut, d, f), is)) = each-both K events xs ys cut (each-defines xs (Ok tt) d) (each-finds node filespace ys (Ok found) f)
    each-found events result (inr (inl (e, (xs, ys, cut, d, f), is))) = each-both K events xs ys cut (each-defines xs (Ok tt) d) (each-finds node filespace ys (Err e) f)
    each-found events result (inr (inr (e, d, is))) = each-defines events (Err e) d

    pub each-filespace : (sends : Bool) (events : List Event) (result : Result ℕ Refusal) → HasFilespace node number filespace sends events result → Each K events
    each-filespace sends events result (inl h) = each-finds node filespace events (Ok (Some h.0)) h.1
    each-filespace sends events result (inr (inl h)) = each-finds node filespace events (Err h.0) h.1
    each-filespace sends events result (inr (inr (inl h))) = each-finds node filespace events (Ok None) h.1
    each-filespace sends events result (inr (inr (inr (is, (xs, ys, cut, f, d))))) = each-both K events xs ys cut (each-finds node filespace xs (Ok None) f) (each-found ys result d)

-- ---- all its steps

quiet-own : (told : Option Files) (name : List ℕ) (b : Begun) (d : Deed) → IsQuiet d → IsOfBackup told name b d
quiet-own told name b (OpenNew pool size prefer answer) h = tt
quiet-own told name b (OpenCopy object aim avoid answer) h = absurd h
quiet-own told name b (WritePiece ticket bytes answer) h = tt
quiet-own told name b (CopyPiece ticket answer) h = absurd h
quiet-own told name b (Seal ticket answer) h = tt
quiet-own told name b (Commit asked tickets answer) h = absurd h
quiet-own told name b (DropTicket ticket answer) h = tt
quiet-own told name b (ReadPiece object digest from offset wanted answer) h = absurd h
quiet-own told name b (Ask query answer) h = tt
quiet-own told name b (Image kind answer) h = absurd h
quiet-own told name b (Reuse file answer) h = absurd h
quiet-own told name b (Force answer) h = tt

all-drop : {L : Type 0} (P : L → Type 0) (count : ℕ) (xs : List L) → AllByRecursion P xs → AllByRecursion P (drop count xs)
all-drop P zero xs h = h
all-drop P (suc count) [] h = tt
all-drop P (suc count) (x ∷ xs) h = all-drop P count xs h.1

all-in : {A : Type 0} (xs : List A) → AllByRecursion (λ x. Contains xs x) xs
all-in xs = recursion_from_All (λ x. Contains xs x) xs (All-contains_itself xs)

module _ (told : Option Files) (name : List ℕ) (begun : Begun) where
  abbrev Own : Deed → Type 0
  Own d = IsOfBackup told name begun d

  abbrev Sending : SendLine → Type 0
  Sending l = Contains begun.plan.send l

  own-quiet : (events : List Event) → AreQuiet events → Each Own events
  own-quiet events h = each-as (λ d. IsQuiet d) Own (quiet-own told name begun) events h

  -- the files of a batch that are sealed are the plan's
  own-rows : (lines : List SendLine) (all : List Came) → AllByRecursion Sending lines → AreRead told lines all → AllByRecursion (IsOfPlan told begun.plan) (sealed_lines lines all)
  own-rows [] all h read = tt
  own-rows (l ∷ lines) [] h read = tt
  own-rows (l ∷ lines) (came.Written ticket digest ∷ all) h read = ((l, digest, h.0, refl, read.0), own-rows lines all h.1 read.1)
  own-rows (l ∷ lines) (came.Failed e ∷ all) h read = own-rows lines all h.1 read.1
  own-rows (l ∷ lines) (came.Held holder ∷ all) h read = own-rows lines all h.1 read.1

  module _ (rules : Rules) (filespace : ℕ) where
    own-stores : (lines : List SendLine) → AllByRecursion Sending lines → (all : List Came) → AreRead told lines all → (held : List ℕ) (events : List Event) (result : Result (List (Option Refusal)) Refusal) → Stores filespace lines all held events result → Each Own events
    own-stores lines is all read held events result (inl h) = each-none Own events h.1
    own-stores lines is all read held events result (inr (inl h)) = each-given Own (λ ticket answer. tt) held _ events h.0 h.1
    own-stores lines is all read held events result (inr (inr h)) =
        each-commits Own (λ ticket answer. tt) (IsOfPlan told begun.plan) (storing filespace) (λ rows tickets answer are. inl (filespace, rows, refl, are)) (sealed_lines lines all) (own-rows lines all is read) held events result h

    own-sent : (lines : List SendLine) (before after : ℕ) (all : List Came) (events : List Event) → Sent rules told lines before after all events → Each Own events
    own-sent lines before after all events h = own-quiet events (each_quiet rules told h.front all before after events h.sends)

    sent-read : (lines : List SendLine) (before after : ℕ) (all : List Came) (events : List Event) → Sent rules told lines before after all events → AreRead told lines all
    sent-read lines before after all events h = subst (λ (ls : List SendLine). AreRead told ls all) (sym h.lined) (sends-read rules told h.front h.back all before after events h.sends)

    own-stops : (lines : List SendLine) (before after : ℕ) (all : List Came) (e : Refusal) (events : List Event) → Stops rules told lines before after all e events → Each Own events
    own-stops lines before after all e events h =
        each-both Own events h.xs h.ys h.made (own-quiet h.xs (each_quiet rules told h.front all before h.count h.xs h.sends))
        (elim h.ends as (λ _. Each Own h.ys) [ inl m ↦ each-none Own h.ys m.1 | inr s ↦ own-quiet h.ys (one_quiet rules told s.0 h.count after h.ys (Err e) s.3) ])

    own-sealed : (lines : List SendLine) → AllByRecursion Sending lines → (all sealed : List Came) → AreRead told lines all → (events : List Event) (result : Result (List (Option Refusal)) Refusal) → SealsAndStores filespace lines all sealed events result → Each Own events
    own-sealed lines is all sealed read events result (inl (e, (why, (xs, ys, cut, stops, gives)), same)) =
        each-both Own events xs ys cut (own-quiet xs (unsealed_quiet all why xs stops)) (each-given Own (λ ticket answer. tt) (tickets_in all) why ys e gives)
    own-sealed lines is all sealed read events result (inr (xs, ys, cut, seals, stores)) =
        each-both Own events xs ys cut (own-quiet xs (seals_quiet all sealed xs seals)) (own-stores lines is sealed (seals-read told lines all sealed (behind-each all sealed xs seals) read) (tickets_in sealed) ys result stores)

    own-batch : (lines : List SendLine) → AllByRecursion Sending lines → (before after : ℕ) (events : List Event) (result : Result Batch Refusal) → Batches rules told filespace lines before after events result → Each Own events
    own-batch lines is before after events (Ok b) (xs, ys, cut, sent, stores) = each-both Own events xs ys cut (own-sent lines before after b.came xs sent) (own-sealed lines is b.came b.sealed (sent-read lines before after b.came xs sent) ys (Ok b.outs) stores)
    own-batch lines is before after events (Err e) (inl (all, (why, (xs, ys, cut, stops, gives)))) =
        each-both Own events xs ys cut (own-stops lines before after all why xs stops) (each-given Own (λ ticket answer. tt) (tickets_in all) why ys e gives)
    own-batch lines is before after events (Err e) (inr (all, sealed, (xs, ys, cut, sent, stores))) = each-both Own events xs ys cut (own-sent lines before after all xs sent) (own-sealed lines is all sealed (sent-read lines before after all xs sent) ys (Err e) stores)

    own-none-sent : (lines : List SendLine) → AllByRecursion Sending lines → (before after : ℕ) (events : List Event) (e : Refusal) → SendsNone rules told filespace lines before after events e → Each Own events
    own-none-sent lines is before after events e (inl h) = own-batch lines is before after events (Err e) h
    own-none-sent lines is before after events e (inr (inl h)) = own-batch lines is before after events (Ok h.0) h.1
    own-none-sent lines is before after events e (inr (inr (b, (xs, ys, cut, batch, waits)))) = each-both Own events xs ys cut (own-batch lines is before after xs (Ok b) batch) (each-waits Own (λ answer. tt) _ ys (Err e) waits)

    own-rounds : (number : ℕ) (lines rest : List SendLine) → AllByRecursion Sending lines → (outs : List (Option Refusal)) (before after : ℕ) (events : List Event) → Rounds (SendsSome rules told filespace) number lines rest outs before after events
        → Each Own events × AllByRecursion Sending rest
    own-rounds zero lines rest is outs before after events (left, none, same, empty) = (each-none Own events empty, subst (λ (ls : List SendLine). AllByRecursion Sending ls) (sym left) is)
    own-rounds (suc number) lines rest is outs before after events (left, first, next, count, joined, (xs, ys, cut, rounds, (b, said, dropped, (us, vs, parts, batch, waits)))) =
        let earlier = own-rounds number lines left is first before count xs rounds in (
          each-both Own events xs ys cut earlier.0 (each-both Own ys us vs parts (own-batch left earlier.1 count after us (Ok b) batch) (each-waits Own (λ answer. tt) _ vs (Ok tt) waits)),
          subst (λ (ls : List SendLine). AllByRecursion Sending ls) (sym dropped) (all-drop Sending (length next) left earlier.1),
        )

    own-sends : (lines : List SendLine) → AllByRecursion Sending lines → (before after : ℕ) (events : List Event) (result : Result (List (Option Refusal)) Refusal) → SendsAll rules told filespace lines before after events result → Each Own events
    own-sends lines is before after events (Ok outs) (number, rounds) = (own-rounds number lines [] is outs before after events rounds).0
    own-sends lines is before after events (Err e) (number, rest, outs, count, (xs, ys, cut, rounds, ends)) =
        let earlier = own-rounds number lines rest is outs before count xs rounds in
        each-both Own events xs ys cut earlier.0 (elim ends as (λ _. Each Own ys) [ inl m ↦ each-none Own ys m.1 | inr s ↦ own-none-sent rest earlier.1 count after ys e s ])

  -- ---- lists without tickets

  own-bound : (filespace : ℕ) (events : List Event) (result : Result (List (Option Refusal)) Refusal) → BindsPaths filespace begun.plan.rebind events result → Each Own events
  own-bound filespace events result h =
      each-runs Own (λ ticket answer. tt) (λ (l : RebindLine). Contains begun.plan.rebind l) (rebinding filespace) (λ lines tickets answer is. inr (inl (filespace, lines, refl, is))) begun.plan.rebind (all-in begun.plan.rebind) events result h.order

  own-ended : (filespace : ℕ) (events : List Event) (result : Result (List (Option Refusal)) Refusal) → EndsVersions filespace begun.plan.gone events result → Each Own events
  own-ended filespace events result h =
      each-runs Own (λ ticket answer. tt) (λ (l : GoneLine). Contains begun.plan.gone l) (ending filespace) (λ lines tickets answer is. inr (inr (inl (filespace, lines, refl, is)))) begun.plan.gone (all-in begun.plan.gone) events result h.order

  own-lists : (filespace : ℕ) (sent : List (Option Refusal)) (events : List Event) (result : Result Outs Refusal) → CommitsLists filespace begun.plan sent events result → Each Own events
  own-lists filespace sent events (Ok o) (same, (xs, ys, cut, binds, ends)) = each-both Own events xs ys cut (own-bound filespace xs (Ok o.rebound) binds) (own-ended filespace ys (Ok o.gone) ends)
  own-lists filespace sent events (Err e) (inl h) = own-bound filespace events (Err e) h
  own-lists filespace sent events (Err e) (inr (outs, (xs, ys, cut, binds, ends))) = each-both Own events xs ys cut (own-bound filespace xs (Ok outs) binds) (own-ended filespace ys (Err e) ends)

-- ---- all of it

own-carries : (filespace : ℕ) (b : Begun) (told : Option Files) (before after : ℕ) (events : List Event) (result : Result Outs Refusal) → CarriesOut filespace b told before after events result → (name : List ℕ) → AreOfBackup told name b events
own-carries filespace b told before after events result (inl (sent, (xs, ys, cut, sends, lists))) name =
    each-both (Own told name b) events xs ys cut (own-sends told name b b.classes filespace b.plan.send (all-in b.plan.send) before after xs (Ok sent) sends.order) (own-lists told name b filespace sent ys result lists)
own-carries filespace b told before after events result (inr (e, sends, is)) name = own-sends told name b b.classes filespace b.plan.send (all-in b.plan.send) before after events (Err e) sends.order

own-filespace : (told : Option Files) (b : Begun) (node filespace : List ℕ) (sends : Bool) (events : List Event) (result : Result ℕ Refusal) → HasFilespace node b.node filespace sends events result → AreOfBackup told filespace b events
own-filespace told b node filespace sends events result h =
    each-filespace (Own told filespace b) (λ q answer. tt) node b.node filespace (λ answer. inr (inr (inr refl))) sends events result h

own-works : (node filespace : List ℕ) (b : Begun) (told : Option Files) (before after : ℕ) (events : List Event) (result : Result Outs Refusal) → Works node filespace b told before after events result → AreOfBackup told filespace b events
own-works node filespace b told before after events result (inl h) = each-none (Own told filespace b) events h.1
own-works node filespace b told before after events result (inr (inl (busy, number, (xs, ys, cut, has, carries)))) =
    each-both (Own told filespace b) events xs ys cut (own-filespace told b node filespace (is_sending b.plan) xs (Ok number) has) (own-carries number b told before after ys result carries filespace)
own-works node filespace b told before after events result (inr (inr (busy, e, has, same, is))) = own-filespace told b node filespace (is_sending b.plan) events (Err e) has

own-forces : (told : Option Files) (name : List ℕ) (b : Begun) (events : List Event) (result : Result (Unit {0}) Refusal) → Forces events result → AreOfBackup told name b events
own-forces told name b events result h = each-made (Own told name b) (Force h.0) events tt h.1

own-finishes : (node filespace : List ℕ) (b : Begun) (told : Option Files) (before after : ℕ) (events : List Event) (result : Result Outs Refusal) → Finishes node filespace b told before after events result → AreOfBackup told filespace b events
own-finishes node filespace b told before after events (Ok o) (xs, ys, cut, works, forces) = each-both (Own told filespace b) events xs ys cut (own-works node filespace b told before after xs (Ok o) works) (own-forces told filespace b ys (Ok tt) forces)
own-finishes node filespace b told before after events (Err e) (inl h) = own-works node filespace b told before after events (Err e) h
own-finishes node filespace b told before after events (Err e) (inr (o, (xs, ys, cut, works, forces))) =
    each-both (Own told filespace b) events xs ys cut (own-works node filespace b told before after xs (Ok o) works) (own-forces told filespace b ys (Err e) forces)

asked-only : (node filespace : List ℕ) (choice : List Rule) (told : Option Files) (before after : ℕ) (events : List Event) (result : Result Begun Refusal) → Begins node filespace choice told before after events result → AreQuestions events
asked-only node filespace choice told before after events result h = each-begins (λ d. IsQuestion d) (λ q answer. tt) node filespace choice told before after events result h

-- Each of its steps is its own, and each of its transactions one that its plan orders.
pub own-increments : (node filespace : List ℕ) (choice : List Rule) (told : Option Files) (before after : ℕ) (events : List Event) (result : Result Said Refusal) → Increments node filespace choice told before after events result
    → Only node filespace choice told before events
own-increments node filespace choice told before after events result (inl (e, begins, is)) = inl (asked-only node filespace choice told before after events (Err e) begins)
own-increments node filespace choice told before after events result (inr (inl (b, count, e, (xs, ys, cut, begins, finishes), is))) =
    inr (b, count, (xs, ys, cut, (begins, asked-only node filespace choice told before count xs (Ok b) begins), own-finishes node filespace b told count after ys (Err e) finishes))
own-increments node filespace choice told before after events result (inr (inr (b, count, o, (xs, ys, cut, begins, finishes), is))) =
    inr (b, count, (xs, ys, cut, (begins, asked-only node filespace choice told before count xs (Ok b) begins), own-finishes node filespace b told count after ys (Ok o) finishes))
