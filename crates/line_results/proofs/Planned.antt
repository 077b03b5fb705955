-- What an incremental backup goes by where one actor has the machine alone: the plan over the database, and the transactions that it orders.
use Rattle.std.proofs.Common.{◌≡◌, ◌⊎◌, inl, inr, ℕ, suc, ◌==◌, ◌≤◌, true, false, if◌then◌else◌, List, [], ◌∷◌, ◌++◌, length, map, Option, None, Some, Result, Ok, Err, refl, sym, ap, subst, ◌∙◌, arith}
use Rattle.std.proofs.lemmas.Bool.{and_parts, eqb-true, false≢true}
use Rattle.std.proofs.lemmas.Option.{same_Some}
use Rattle.std.specs.List.{AllByRecursion}
use Rattle.std.specs.Option.{option_map_or}
use Rattle.kinds.specs.Refusals.{number_of}
use Rattle.kinds.specs.declared.change.DefineOrDelete.TheVariants as two
use Rattle.kinds.specs.declared.change.ObjectChange.TheVariants as client
use Rattle.kinds.specs.declared.refusal.Refusal.{Refusal}
use Rattle.kinds.specs.declared.refusal.Refusal.TheVariants as refused
use Rattle.kinds.specs.declared.segment.Digest.{Digest}
use Rattle.choosers.specs.declared.rule.Rule.{Rule}
use Rattle.entries.specs.declared.change.Change.{Change}
use Rattle.entries.specs.declared.change.Change.TheVariants as change
use Rattle.inventory_rows.specs.object_rows.Names.{node_named}
use Rattle.inventory_rows.specs.version_groups.Entries.{on_ok}
use Rattle.inventory_rows.specs.State.{Inv}
use Rattle.inventory_work.specs.Rules.{rules_of}
use Rattle.inventory_work.specs.declared.search.Found.{Found}
use Rattle.inventory_work.specs.declared.search.Found.TheVariants as found
use Rattle.inventory_work.specs.declared.search.Named.TheVariants as thing
use Rattle.inventory_answers.specs.Answered.{answered, rows_of}
use Rattle.inventory_answers.specs.Clients.{versions_of}
use Rattle.inventory_answers.specs.declared.lines.VersionLine.{VersionLine}
use Rattle.inventory_answers.specs.declared.query.Query.TheVariants as query
use Rattle.inventory_answers.specs.declared.reply.Answer.{Answer}
use Rattle.inventory_answers.specs.declared.reply.Rows.{Rows}
use Rattle.inventory_answers.specs.declared.reply.Rows.TheVariants as rows
use Rattle.admin_words.specs.declared.files.IncrementalBackup.{IncrementalBackup}
use Rattle.client_trees.specs.Files.{Files}
use Rattle.client_plan.specs.Plans.{Lists, actives, plan_of, scheme}
use Rattle.client_batches.specs.Listings.{named, rebound, stored, storing}
use Rattle.client_batches.specs.declared.listing.SealedLine.{SealedLine}
use Rattle.command_steps.specs.incrementals.Asking.{AsksNode, AsksNodeRules, AsksRules, AsksVersions, number_found}
use Rattle.client_batches.proofs.Ordering.{Each}
use Rattle.command_steps.specs.incrementals.Orders.{AreQuestions, IsQuestion, IsReadAs}
use Rattle.command_steps.specs.incrementals.Planning.{Begins}
use Rattle.command_steps.specs.incrementals.declared.asking.Ruled.{Ruled}
use Rattle.command_steps.specs.incrementals.declared.planning.Begun.{Begun}
use Rattle.steps.specs.declared.asked.Asked.{Asked}
use Rattle.steps.specs.declared.asked.Asked.TheVariants as asked
use Rattle.steps.specs.Events.{Deed, Event}
use Rattle.steps.specs.Events.Deed.{Ask, Commit, DropTicket, Force, OpenNew, Seal, WritePiece}
use Rattle.machine.specs.Alone.{Alone}
use Rattle.machine.specs.Changes.{all_tickets, are_so_many, paired, scratch_of, version_from}
use Rattle.machine.specs.Machine.{Places, asked_change}
use Rattle.machine.specs.State.{Core, Machine, Ticket, inventory, own_tickets, sight, ticket}
use Rattle.line_results.specs.Resting.{EndsRun, IsAtRest, database}
use Rattle.line_results.specs.Trees.{HasVersions, IsOfBackup, IsOrdered, IsPlan, IsSent, new_versions}
use Rattle.line_results.proofs.Asked.{EndsBy, asked-step}
use Rattle.line_results.proofs.Keeping.{BringsVersions, all-has, chosen, found-has}
use Rattle.line_results.proofs.Leaving.{rest-as}
use Rattle.line_results.proofs.Opened.{AreSized, IsOrderedBy, IsStepOf, Orders}
use Rattle.line_results.proofs.PutHomes.{asks-to, err-of, node-of, ok-of, rules-told}
use Rattle.line_results.proofs.Runs.{Became, alone-parts, became-still}
use Rattle.line_results.proofs.Sending.{AllSend, AreOpened, IsOpened, Sends, WasOpened, opened-once}

-- ---- questions

-- only what isn't there has that number
not-there : (e : Refusal) → (number_of e == 10) ≡ true → e ≡ refused.NotFound
not-there refused.NotFound h = refl
not-there e h = absurd (false≢true h)

abbrev pub versions_in : Rows → List VersionLine
versions_in (rows.Versions lines) = lines
versions_in _ = []

abbrev no_versions : Refusal → Result (List VersionLine) Refusal
no_versions e = Err e

none-told : (node filespace : List ℕ) (why : Refusal) (old new : Machine) → (number_of why == 10) ≡ true → (Err why ≡ answered (query.Versions node filespace) (database old)) ⊎ EndsBy {A = Answer} old new (Err why)
    → versions_of node filespace (database old) ≡ no_versions refused.NotFound
none-told node filespace why old new ten (inl h) =
    err-of rows.Versions (versions_of node filespace (database old)) why
    (err-of (λ (x : Rows). record { n = (database old).number; today = (database old).today; rows = x }) (rows_of (query.Versions node filespace) (database old)) why (sym h))
    ∙ ap no_versions (not-there why ten)
none-told node filespace why old new ten (inr (e, is, ends)) =
    let same : why ≡ e = cc in
    absurd (subst (λ (x : Refusal). EndsRun old new x) (sym same ∙ not-there why ten) ends)

found-is : (f : Found) (number : ℕ) → number_found f ≡ Some number → f ≡ found.Number number
found-is (found.Number n) number h = ap found.Number (same_Some n number h)
found-is (found.DevClass capacity) number h = absurd cc

answer-today : (r : Result Rows Refusal) (n today : ℕ) (answer : Answer) → Ok answer ≡ on_ok (λ (x : Rows). record { n = n; today = today; rows = x }) r → answer.today ≡ today
answer-today (Ok x) n today answer h = (let same : answer ≡ record { n = n; today = today; rows = x } = cc in ap (λ (a : Answer). a.today) same)
answer-today (Err e) n today answer h = absurd cc

today-told : (number : ℕ) (answer : Answer) (old new : Machine) → (Ok answer ≡ answered (query.Rules number) (database old)) ⊎ EndsBy old new (Ok answer) → answer.today ≡ (database old).today
today-told number answer old new (inl h) = answer-today (rows_of (query.Rules number) (database old)) (database old).number (database old).today answer h
today-told number answer old new (inr (e, is, ends)) = absurd cc

-- the rules that were answered
pub record AreRules (node : List ℕ) (r : Ruled) (v : Inv) : Type 0 where
  pub has_node : node_named node v.clients.nodes ≡ Some r.node
  pub ruled : rules_of r.node v ≡ Ok r.rules
  pub today : r.today ≡ v.today

module _ (trusted : Type 0) (places : Places) where
  pub asked-versions : (node filespace : List ℕ) (lines : List VersionLine) (events : List Event) (old new : Machine) → IsAtRest old.core → AsksVersions node filespace events (Ok lines) → Alone trusted places 0 events old new
      → Became old.core old new × HasVersions node filespace (database old) lines
  asked-versions node filespace lines events old new rest (inl told) f =
      let k = asks-to trusted places (query.Versions node filespace) rows.Versions (Ok lines) events old new refl rest told f in
      (k.0, inl (ok-of rows.Versions versions_in (λ x. refl) (versions_of node filespace (database old)) lines k.1))
  asked-versions node filespace lines events old new rest (inr (none, why, ten, made)) f =
      let t = asked-step trusted places (query.Versions node filespace) (Err why) events old new refl rest made f in
      (t.still, inr (none-told node filespace why old new ten t.told, none))

  pub asked-node : (node : List ℕ) (number : ℕ) (events : List Event) (old new : Machine) → IsAtRest old.core → AsksNode node events (Ok number) → Alone trusted places 0 events old new
      → Became old.core old new × (node_named node (database old).clients.nodes ≡ Some number)
  asked-node node number events old new rest (answer, (f, is, numbered), made) a =
      let k = asks-to trusted places (query.Lookup (thing.Node node)) (λ n. rows.Lookup (found.Number n)) (Ok number) events old new refl rest (answer, is ∙ ap rows.Lookup (found-is f number numbered), made) a in
      (k.0, node-of node number (database old) k.1)

  pub asked-rules : (number : ℕ) (r : Ruled) (events : List Event) (old new : Machine) → IsAtRest old.core → AsksRules number events (Ok r) → Alone trusted places 0 events old new
      → Became old.core old new × (rules_of number (database old) ≡ Ok r.rules) × (r.today ≡ (database old).today) × (r.node ≡ number)
  asked-rules number r events old new rest (answer, (is, today, node), made) a =
      let k = asks-to trusted places (query.Rules number) rows.Rules (Ok r.rules) events old new refl rest (answer, is, made) a in
      let t = asked-step trusted places (query.Rules number) (Ok answer) events old new refl rest made a in
      (k.0, rules-told number r.rules (database old) k.1, today ∙ today-told number answer old new t.told, node)

  pub asked-node-rules : (node : List ℕ) (r : Ruled) (events : List Event) (old new : Machine) → IsAtRest old.core → AsksNodeRules node events (Ok r) → Alone trusted places 0 events old new
      → Became old.core old new × AreRules node r (database old)
  asked-node-rules node r events old new rest (inl (number, (xs, ys, cut, first, next))) a =
      let parts = alone-parts trusted places 0 events xs ys old new cut a in
      let n = asked-node node number xs old parts.0 rest first parts.1 in
      let k = asked-rules number r ys parts.0 new (rest-as parts.0.core old.core n.0.core rest) next parts.2 in
      let core : inventory parts.0.core ≡ inventory old.core = ap (λ (c : Core). inventory c) n.0.core in (
        became-still old.core old parts.0 new n.0 k.0,
        record {
          has_node = n.1 ∙ ap (λ (x : ℕ). Some x) (sym k.3);
          ruled = ap (λ (x : ℕ). rules_of x (database old)) k.3 ∙ ap (λ (v : Inv). rules_of number v) (sym core) ∙ k.1;
          today = k.2 ∙ ap (λ (v : Inv). v.today) core;
        },
      )
  asked-node-rules node r events old new rest (inr (e, refuses, is)) a = absurd cc

  -- ---- the plan

  -- it was asked and listed, and this is the plan, by the rules that were answered
  pub begun-plan : (choice : List Rule) (i : IncrementalBackup) (told : Option Files) (before count : ℕ) (b : Begun) (events : List Event) (old new : Machine) → IsAtRest old.core
      → Begins i.node i.filespace choice told before count events (Ok b) → Alone trusted places 0 events old new → (p : IsPlan choice i told (database old) b.plan) × (p.node ≡ b.node) × (p.rules ≡ b.classes)
  begun-plan choice i told before count b events old new rest (basis, (xs, ys, cut, first, next), (files, listing, planned)) a =
      let parts = alone-parts trusted places 0 events xs ys old new cut a in
      let n = asked-versions i.node i.filespace basis.versions xs old parts.0 rest first parts.1 in
      let k = asked-node-rules i.node basis.ruled ys parts.0 new (rest-as parts.0.core old.core n.0.core rest) next parts.2 in
      let r : AreRules i.node basis.ruled (database old) = subst (λ (c : Core). AreRules i.node basis.ruled (inventory c)) n.0.core k.1 in (
        record {
          node = b.node;
          rules = basis.ruled.rules;
          files = files;
          versions = basis.versions;
          found = r.has_node ∙ ap (λ (x : ℕ). Some x) (sym planned.node);
          ruled = ap (λ (x : ℕ). rules_of x (database old)) planned.node ∙ r.ruled;
          listed = listing.listing;
          kept = n.1;
          value = λ active. planned.value active ∙ ap (λ (today : ℕ). plan_of (scheme basis.ruled.rules choice today) files (actives basis.versions)) r.today;
        },
        refl,
        sym planned.classes,
      )

-- ---- transactions

few-chosen : (numbers : List ℕ) (tickets : List Ticket) → length (chosen numbers tickets) ≤ length numbers
few-chosen [] tickets = omega arith
few-chosen (number ∷ numbers) tickets =
    let rest : length (chosen numbers tickets) ≤ length numbers = few-chosen numbers tickets in
    elim (ticket number (own_tickets 0 tickets)) as (λ o. length (option_map_or (λ t. t ∷ []) o [] ++ chosen numbers tickets) ≤ suc (length numbers)) [
      | None ↦ omega (arith, rest)
      | Some t ↦ omega (arith, rest)
    ]

module _ (told : Option Files) (plan : Lists) (whole : List Event) (tickets : List Ticket) (opened : AreOpened whole tickets)
    (once : (number first second : ℕ) → WasOpened number first whole → WasOpened number second whole → first ≡ second) where
  -- each ticket that is found was opened for as many bytes as were listed
  sent-sized : (lines : List SealedLine) (numbers : List ℕ) → length (chosen numbers tickets) ≡ length numbers → AreSized told plan whole lines numbers
      → AllByRecursion (IsSent told plan) (paired version_from (map stored lines) (chosen numbers tickets))
  sent-sized [] numbers all h = tt
  sent-sized (row ∷ lines) [] all h = tt
  sent-sized (row ∷ lines) (number ∷ numbers) all ((l, digest, among, is, read, mine), later) =
      elim (ticket number (own_tickets 0 tickets)) as (λ o. ticket number (own_tickets 0 tickets) ≡ o → length (option_map_or (λ t. t ∷ []) o [] ++ chosen numbers tickets) ≡ suc (length numbers)
      → AllByRecursion (IsSent told plan) (paired version_from (stored row ∷ map stored lines) (option_map_or (λ t. t ∷ []) o [] ++ chosen numbers tickets))) [
        | None ↦ λ at long.
            (let few : length (chosen numbers tickets) ≤ length numbers = few-chosen numbers tickets in
            let same : length (chosen numbers tickets) ≡ suc (length numbers) = long in
            absurd (omega (arith, same, few)))
        | Some t ↦ λ at long.
            (let at_one = found-has number tickets t at in
            let same : suc (length (chosen numbers tickets)) ≡ suc (length numbers) = long in (
              (
                l,
                among,
                ap (λ (x : SealedLine). x.path) is,
                ap (λ (x : SealedLine). x.class) is,
                ap (λ (x : SealedLine). x.mtime) is,
                once number t.size l.file.size (subst (λ (n : ℕ). WasOpened n t.size whole) at_one.1 (all-has (IsOpened whole) tickets opened t at_one.0)) mine,
                subst (λ (d : Digest). IsReadAs told l d) (sym (ap (λ (x : SealedLine). x.digest) is)) read,
              ),
              sent-sized lines numbers (omega (arith, same)) later,
            ))
      ] refl all

storing-ordered : (node : ℕ) (name : List ℕ) (told : Option Files) (plan : Lists) (whole : List Event) (filespace : ℕ) (lines : List SealedLine) (numbers : List ℕ) (c : Change) (core : Core)
    → ((number first second : ℕ) → WasOpened number first whole → WasOpened number second whole → first ≡ second) → AreOpened whole core.tickets → AreSized told plan whole lines numbers
    → asked_change 0 (storing filespace lines) numbers core ≡ Some c → IsOrdered node name told plan c
storing-ordered node name told plan whole filespace lines numbers c core once opened sized is =
    let all = all_tickets numbers (sight 0 core) in
    let new = change.Backup (record { filespace = filespace; scratch = scratch_of (inventory core) all; items = paired version_from (map stored lines) all }) in
    elim (are_so_many (length (map stored lines)) numbers (sight 0 core)) as (λ b. are_so_many (length (map stored lines)) numbers (sight 0 core) ≡ b → (if b then Some new else None) ≡ Some c → IsOrdered node name told plan c) [
      | true ↦ λ many same.
          (let parts = and_parts (length all == length (map stored lines)) (length numbers == length (map stored lines)) many in
          let long : length all ≡ length numbers = eqb-true (length all) (length (map stored lines)) parts.0 ∙ sym (eqb-true (length numbers) (length (map stored lines)) parts.1) in
          inl (filespace, scratch_of (inventory core) all, paired version_from (map stored lines) all, sym (same_Some new c same), sent-sized told plan whole core.tickets opened once lines numbers long sized))
      | false ↦ λ many odd. absurd cc
    ] refl is

abbrev plain_change : Change → (tickets : List ℕ) → Core → Option Change
plain_change w tickets core = asked_change 0 (asked.Plain w) tickets core

-- what joins by what the plan orders is of the plan
ordered : (told : Option Files) (name : List ℕ) (b : Begun) (whole : List Event) (given : Asked) (tickets : List ℕ) (c : Change) (core : Core)
    → ((number first second : ℕ) → WasOpened number first whole → WasOpened number second whole → first ≡ second) → AreOpened whole core.tickets → IsOrderedBy told name b whole given tickets
    → asked_change 0 given tickets core ≡ Some c → IsOrdered b.node name told b.plan c
ordered told name b whole given tickets c core once opened (inl (filespace, files, is, sized)) joins =
    storing-ordered b.node name told b.plan whole filespace files tickets c core once opened sized (subst (λ (x : Asked). asked_change 0 x tickets core ≡ Some c) is joins)
ordered told name b whole given tickets c core once opened (inr (inl (filespace, lines, is, of))) joins =
    let same : change.Rebind (record { filespace = filespace; items = map rebound lines }) ≡ c = same_Some _ c (subst (λ (x : Asked). asked_change 0 x tickets core ≡ Some c) is joins) in
    inr (inl (filespace, lines, sym same, of))
ordered told name b whole given tickets c core once opened (inr (inr (inl (filespace, lines, is, of)))) joins =
    let same : change.Gone (record { filespace = filespace; items = map named lines }) ≡ c = same_Some _ c (subst (λ (x : Asked). asked_change 0 x tickets core ≡ Some c) is joins) in
    inr (inr (inl (filespace, lines, sym same, of)))
ordered told name b whole given tickets c core once opened (inr (inr (inr is))) joins =
    let same : change.Object (client.Filespace two.Define b.node name (inventory core).next_filespace) ≡ c = same_Some _ c (subst (λ (x : Asked). asked_change 0 x tickets core ≡ Some c) is joins) in
    inr (inr (inr ((inventory core).next_filespace, sym same)))

-- it brings versions from tickets, or none
brings : (told : Option Files) (name : List ℕ) (b : Begun) (whole : List Event) (given : Asked) (numbers : List ℕ) → IsOrderedBy told name b whole given numbers → BringsVersions given
brings told name b whole given numbers (inl (filespace, files, is, sized)) = inl (filespace, map stored files, is)
brings told name b whole given numbers (inr (inl (filespace, lines, is, of))) =
    inr (λ tickets core c joins. ap new_versions (sym (same_Some (change.Rebind (record { filespace = filespace; items = map rebound lines })) c (subst (λ (x : Asked). asked_change 0 x tickets core ≡ Some c) is joins))))
brings told name b whole given numbers (inr (inr (inl (filespace, lines, is, of)))) =
    inr (λ tickets core c joins. ap new_versions (sym (same_Some (change.Gone (record { filespace = filespace; items = map named lines })) c (subst (λ (x : Asked). asked_change 0 x tickets core ≡ Some c) is joins))))
brings told name b whole given numbers (inr (inr (inr is))) =
    inr (λ tickets core c joins. ap new_versions (sym (same_Some (change.Object (client.Filespace two.Define b.node name (inventory core).next_filespace)) c (subst (λ (x : Asked). asked_change 0 x tickets core ≡ Some c) is joins))))

-- ---- steps

question-sends : (P : Change → Type 0) (whole : List Event) (d : Deed) → IsQuestion d → Sends P whole d
question-sends P whole (Ask query answer) h = tt
question-sends P whole d h = absurd h

module _ (P : Change → Type 0) (told : Option Files) (name : List ℕ) (b : Begun) (whole : List Event)
    (may : (given : Asked) (tickets : List ℕ) (c : Change) (core : Core) → AreOpened whole core.tickets → IsOrderedBy told name b whole given tickets → asked_change 0 given tickets core ≡ Some c → P c) where
  step-sends : (d : Deed) → IsStepOf told name b whole d → Sends P whole d
  step-sends (OpenNew pool size prefer (Ok number)) h = h
  step-sends (OpenNew pool size prefer (Err e)) h = tt
  step-sends (WritePiece ticket bytes answer) h = tt
  step-sends (Seal ticket answer) h = tt
  step-sends (DropTicket ticket answer) h = tt
  step-sends (Ask query answer) h = tt
  step-sends (Force answer) h = tt
  step-sends (Commit given tickets answer) h = (brings told name b whole given tickets h, λ c core opened joins. may given tickets c core opened h joins)
  step-sends d h = absurd h

  steps-send : (events : List Event) → Each (IsStepOf told name b whole) events → AllSend P whole events
  steps-send [] h = tt
  steps-send (e ∷ events) h = (step-sends e.deed h.0, steps-send events h.1)

questions-send : (P : Change → Type 0) (whole events : List Event) → AreQuestions events → AllSend P whole events
questions-send P whole [] h = tt
questions-send P whole (e ∷ events) h = (question-sends P whole e.deed h.0, questions-send P whole events h.1)

both-send : (P : Change → Type 0) (whole xs ys : List Event) → AllSend P whole xs → AllSend P whole ys → AllSend P whole (xs ++ ys)
both-send P whole [] ys h k = k
both-send P whole (x ∷ xs) ys h k = (h.0, both-send P whole xs ys h.1 k)

abbrev Any : Change → Type 0
Any c = Unit {0}

-- whatever joins by them
any-sends : (choice : List Rule) (i : IncrementalBackup) (told : Option Files) (before : ℕ) (events : List Event) → Orders i.node i.filespace choice told before events → AllSend Any events events
any-sends choice i told before events (inl questions) = questions-send Any events events questions
any-sends choice i told before events (inr (b, count, (xs, ys, cut, (begins, questions), of))) =
    subst (λ (l : List Event). AllSend Any events l) (sym cut)
    (both-send Any events xs ys (questions-send Any events xs questions) (steps-send Any told i.filespace b events (λ given tickets c core opened is joins. tt) ys of))

-- the steps of a backup, each transaction of which is of the plan over the database
pub backup-sends : (trusted : Type 0) (places : Places) (choice : List Rule) (i : IncrementalBackup) (told : Option Files) (before : ℕ) (events : List Event) (old new : Machine) → IsAtRest old.core
    → Orders i.node i.filespace choice told before events → Alone trusted places 0 events old new → AllSend (IsOfBackup choice i told (database old)) events events
backup-sends trusted places choice i told before events old new rest (inl questions) a = questions-send (IsOfBackup choice i told (database old)) events events questions
backup-sends trusted places choice i told before events old new rest (inr (b, count, (xs, ys, cut, (begins, questions), of))) a =
    let parts = alone-parts trusted places 0 events xs ys old new cut a in
    let plan = begun-plan trusted places choice i told before count b xs old parts.0 rest begins parts.1 in
    let once = opened-once Any events trusted places events old new (any-sends choice i told before events (inr (b, count, (xs, ys, cut, (begins, questions), of)))) a in
    let P : Change → Type 0 = IsOfBackup choice i told (database old) in
    subst (λ (l : List Event). AllSend P events l) (sym cut)
    (both-send P events xs ys (questions-send P events xs questions)
    (steps-send P told i.filespace b events
    (λ given tickets c core opened is joins. (b.plan, plan.0, subst (λ (n : ℕ). IsOrdered n i.filespace told b.plan c) (sym plan.1) (ordered told i.filespace b events given tickets c core once opened is joins))) ys of))
