-- What work on a client's tree comes to in a history.
use Rattle.std.proofs.Common.{◌≡◌, if◌then◌else◌, inl, inr, ℕ, ◌≤◌, ◌==◌, Bool, true, false, List, Option, None, Some, Result, Ok, Err, refl, sym, ap, subst, ◌∙◌, arith}
use Rattle.std.proofs.lemmas.Bool.{false≢true}
use Rattle.std.proofs.lemmas.Option.{same_Some}
use Rattle.kinds.specs.Refusals.{number_of}
use Rattle.kinds.specs.declared.refusal.Refusal.{Refusal}
use Rattle.kinds.specs.declared.refusal.Refusal.TheVariants as refused
use Rattle.choosers.specs.declared.rule.Rule.{Rule}
use Rattle.client_trees.specs.Files.{Files}
use Rattle.inventory_rows.specs.object_rows.Names.{node_named}
use Rattle.inventory_work.specs.Rules.{rules_of}
use Rattle.inventory_work.specs.declared.search.Found.{Found}
use Rattle.inventory_work.specs.declared.search.Found.TheVariants as found
use Rattle.inventory_work.specs.declared.search.Named.TheVariants as thing
use Rattle.inventory_answers.specs.Answered.{rows_of}
use Rattle.inventory_answers.specs.Clients.{versions_of}
use Rattle.inventory_answers.specs.declared.lines.VersionLine.{VersionLine}
use Rattle.inventory_answers.specs.declared.query.Query.TheVariants as query
use Rattle.inventory_answers.specs.declared.reply.Rows.TheVariants as rows
use Rattle.admin_words.specs.declared.files.FilesRestore.{FilesRestore}
use Rattle.admin_words.specs.declared.files.IncrementalBackup.{IncrementalBackup}
use Rattle.admin_commands.specs.declared.work.Work.TheVariants.{Run}
use Rattle.line_results.specs.incrementals.Asking.{AsksAll, AsksNode, AsksNodeRules, AsksRules, AsksVersions, number_found}
use Rattle.line_results.specs.incrementals.Planning.{Begins}
use Rattle.line_results.specs.incrementals.declared.asking.Basis.{Basis}
use Rattle.line_results.specs.incrementals.declared.asking.Ruled.{Ruled}
use Rattle.line_results.specs.incrementals.declared.planning.Begun.{Begun}
use Rattle.machine.proofs.Runs.{fits-rises}
use Rattle.machine.specs.Fits.{Fits, History, Own as Holding, inv}
use Rattle.line_results.proofs.of_restores.Standing.{each-stands}
use Rattle.line_results.specs.restores.Given.{Gives as GivesEach}
use Rattle.line_results.specs.restores.declared.process.Restored.{Restored}
use Rattle.steps.specs.Events.{Event}
use Rattle.line_results.specs.command_steps.Answers.{halt_by}
use Rattle.line_results.specs.command_steps.Clients.{Client, Known}
use Rattle.line_results.specs.command_steps.Owns.{OnTree, back_up, erase, on_tree, restore, write}
use Rattle.line_results.specs.command_steps.Trees.{BacksUp, DoesThere, GivesWanted, is_absent}
use Rattle.line_results.specs.command_steps.declared.outcome.Outcome.{Outcome}
use Rattle.line_results.specs.command_steps.declared.outcome.Outcome.TheVariants as came
use Rattle.line_results.proofs.Planned.{versions_in}
use Rattle.line_results.proofs.PutHomes.{err-of, node-of, ok-of, rules-told}
use Rattle.line_results.specs.Trees.{HasVersions, IsChosen, Stand}
use Rattle.block_results.specs.Clauses.{DidOn, ShowsOn}
use Rattle.block_results.specs.Standing.{At}
use Rattle.block_results.specs.Works.{HasGiven, HasSent, IsBasisAt, IsPlannedAt}
use Rattle.block_results.proofs.Came.{Came, Said, came-err, came-ok}
use Rattle.block_results.proofs.Fitting.{at-so, at-to, fits-parts}
use Rattle.block_results.proofs.Rows.{rows-at, unrows-at}

-- ---- DSMC RESTORE

stand-of : (x : Restored) (before after : ℕ) (old new : Option Files) (events : List Event) → GivesEach x.lines x.gave before after old new events → Stand x old new
stand-of x before after (Some old) (Some new) events h = λ apart. each-stands x.lines x.gave before after old new events apart h
stand-of x before after None new events h = tt
stand-of x before after (Some old) None events h = tt

given-ok : (x : Restored) (it : Outcome) (test : Bool) → ◌≡◌ {A = Said} (Ok it) (if test then Err refused.NotFound else Ok (came.Restored x)) → it ≡ came.Restored x
given-ok x it true h = absurd cc
given-ok x it false h = cc

-- ---- DSMC INCREMENTAL

pub not-there : (e : Refusal) → (number_of e == 10) ≡ true → e ≡ refused.NotFound
not-there refused.NotFound h = refl
not-there e h = absurd (false≢true h)

pub found-is : (x : Found) (number : ℕ) → number_found x ≡ Some number → x ≡ found.Number number
found-is (found.Number n) number h = ap found.Number (same_Some n number h)
found-is (found.DevClass capacity) number h = absurd cc

abbrev no_versions : Refusal → Result (List VersionLine) Refusal
no_versions e = Err e

module _ (w : History) (actor : ℕ) where
  given-at : (r : FilesRestore) (before after : Known) (it : Outcome) (a b : Holding) (events : List Event) → GivesWanted r before after events (Ok it) → Fits w actor a events b → HasGiven w a.reached b.reached r before after it
  given-at r before after it a b events (inl (versions, which, (Ok x, (xs, ys, cut, (lines, (answer, has, made), chosen), gives), is))) f =
      let parts = fits-parts w actor a b events xs ys cut f in (
        x,
        given-ok x it (is_absent r.wanted x.lines) is,
        at-to a.reached parts.0.reached b.reached (λ n. IsChosen r (inv w n) x.lines) (fits-rises w actor parts.0 b ys parts.2)
            (at-so a.reached parts.0.reached (λ n. (rows_of (query.Versions r.node r.filespace) (inv w n) ≡ Ok answer.rows) × (answer.today ≡ (inv w n).today)) (λ n. IsChosen r (inv w n) x.lines)
            (λ n h. (versions, which, lines, ok-of rows.Versions versions_in (λ y. refl) (versions_of r.node r.filespace (inv w n)) lines (h.0 ∙ ap Ok has), chosen))
            (rows-at w actor a parts.0 xs parts.1 (query.Versions r.node r.filespace) answer refl made)),
        stand-of x before.faults after.faults before.files after.files ys gives,
      )
  given-at r before after it a b events (inl (versions, which, (Err e, restores, is))) f = absurd cc
  given-at r before after it a b events (inr (e, why, none, same, is)) f = absurd cc

  versions-at : (i : IncrementalBackup) (lines : List VersionLine) (a b : Holding) (events : List Event) → AsksVersions i.node i.filespace events (Ok lines) → Fits w actor a events b
      → At a.reached b.reached (λ n. HasVersions i.node i.filespace (inv w n) lines)
  versions-at i lines a b events (inl (answer, has, made)) f =
      at-so a.reached b.reached (λ n. (rows_of (query.Versions i.node i.filespace) (inv w n) ≡ Ok answer.rows) × (answer.today ≡ (inv w n).today)) (λ n. HasVersions i.node i.filespace (inv w n) lines)
      (λ n h. inl (ok-of rows.Versions versions_in (λ y. refl) (versions_of i.node i.filespace (inv w n)) lines (h.0 ∙ ap Ok has))) (rows-at w actor a b events f (query.Versions i.node i.filespace) answer refl made)
  versions-at i lines a b events (inr (none, why, ten, made)) f =
      let is : why ≡ refused.NotFound = not-there why ten in
      at-so a.reached b.reached (λ n. rows_of (query.Versions i.node i.filespace) (inv w n) ≡ Err why) (λ n. HasVersions i.node i.filespace (inv w n) lines)
      (λ n h. inr (err-of rows.Versions (versions_of i.node i.filespace (inv w n)) why h ∙ ap no_versions is, none))
      (unrows-at w actor a b events f (query.Versions i.node i.filespace) why refl (ap halt_by is) made)

  node-at : (node : List ℕ) (number : ℕ) (a b : Holding) (events : List Event) → AsksNode node events (Ok number) → Fits w actor a events b → At a.reached b.reached (λ n. node_named node (inv w n).clients.nodes ≡ Some number)
  node-at node number a b events (answer, (x, has, numbered), made) f =
      at-so a.reached b.reached (λ n. (rows_of (query.Lookup (thing.Node node)) (inv w n) ≡ Ok answer.rows) × (answer.today ≡ (inv w n).today)) (λ n. node_named node (inv w n).clients.nodes ≡ Some number)
      (λ n h. node-of node number (inv w n) (h.0 ∙ ap Ok (has ∙ ap rows.Lookup (found-is x number numbered)))) (rows-at w actor a b events f (query.Lookup (thing.Node node)) answer refl made)

  abbrev Ruling : (number : ℕ) → Ruled → ℕ → Type 0
  Ruling number r n = (rules_of number (inv w n) ≡ Ok r.rules) × (r.today ≡ (inv w n).today)

  rules-at : (number : ℕ) (r : Ruled) (a b : Holding) (events : List Event) → AsksRules number events (Ok r) → Fits w actor a events b → At a.reached b.reached (Ruling number r) × (r.node ≡ number)
  rules-at number r a b events (answer, (has, today, node), made) f = (
    at-so a.reached b.reached (λ n. (rows_of (query.Rules number) (inv w n) ≡ Ok answer.rows) × (answer.today ≡ (inv w n).today)) (Ruling number r)
        (λ n h. (rules-told number r.rules (inv w n) (h.0 ∙ ap Ok has), today ∙ h.1)) (rows-at w actor a b events f (query.Rules number) answer refl made),
    node,
  )

  abbrev Based : (i : IncrementalBackup) → Ruled → (until n : ℕ) → Type 0
  Based i r until n = (node_named i.node (inv w n).clients.nodes ≡ Some r.node) × At n until (λ l. Ruling r.node r l)

  node-rules-at : (i : IncrementalBackup) (r : Ruled) (a b : Holding) (events : List Event) → AsksNodeRules i.node events (Ok r) → Fits w actor a events b → At a.reached b.reached (Based i r b.reached)
  node-rules-at i r a b events (inl (number, (xs, ys, cut, first, next))) f =
      let parts = fits-parts w actor a b events xs ys cut f in
      let n = node-at i.node number a parts.0 xs first parts.1 in
      let k = rules-at number r parts.0 b ys next parts.2 in
      let l = k.0 in
      let mid : n.0 ≤ parts.0.reached = n.2 in
      let low : parts.0.reached ≤ l.0 = l.1 in
      let high : l.0 ≤ b.reached = l.2 in (
        n.0,
        n.1,
        omega arith,
        (n.3 ∙ ap (λ (x : ℕ). Some x) (sym k.1), (l.0, omega arith, high, subst (λ (x : ℕ). Ruling x r l.0) (sym k.1) l.3)),
      )
  node-rules-at i r a b events (inr (e, refuses, is)) f = absurd cc

  basis-at : (i : IncrementalBackup) (basis : Basis) (a b : Holding) (events : List Event) → AsksAll i.node i.filespace events (Ok basis) → Fits w actor a events b → IsBasisAt w a.reached b.reached i basis
  basis-at i basis a b events (xs, ys, cut, first, next) f =
      let parts = fits-parts w actor a b events xs ys cut f in
      let n = versions-at i basis.versions a parts.0 xs first parts.1 in
      let m = node-rules-at i basis.ruled parts.0 b ys next parts.2 in
      let mid : n.0 ≤ parts.0.reached = n.2 in
      let low : parts.0.reached ≤ m.0 = m.1 in
      let high : m.0 ≤ b.reached = m.2 in
      (n.0, n.1, omega arith, (n.3, (m.0, omega arith, high, m.3)))

  pub planned-at : (choice : List Rule) (i : IncrementalBackup) (told : Option Files) (before count : ℕ) (bg : Begun) (a b : Holding) (events : List Event) → Begins i.node i.filespace choice told before count events (Ok bg)
      → Fits w actor a events b → IsPlannedAt w a.reached b.reached choice i told bg
  planned-at choice i told before count bg a b events (basis, asks, (files, listing, planned)) f = (basis, basis-at i basis a b events asks f, files, listing.listing, planned)

  pub planned-to : (choice : List Rule) (i : IncrementalBackup) (told : Option Files) (bg : Begun) (since until more : ℕ) → until ≤ more → IsPlannedAt w since until choice i told bg → IsPlannedAt w since more choice i told bg
  planned-to choice i told bg since until more high (basis, (n, n0, n1, (versions, (m, m0, m1, (node, (l, l0, l1, ruling))))), files, listing, planned) =
      (basis, (n, n0, omega arith, (versions, (m, m0, omega arith, (node, (l, l0, omega arith, ruling))))), files, listing, planned)

  sent-so : (choice : List Rule) (i : IncrementalBackup) (before after : Known) (it : Outcome) (a b : Holding) (events : List Event) → BacksUp choice i before after events (Ok it) → Fits w actor a events b
      → HasSent w a.reached b.reached choice i before after events it
  sent-so choice i before after it a b events (Ok s, inc, same, shows) f =
      let d = inc.done in
      let xs = d.steps.0 in
      let ys = d.steps.1 in
      let parts = fits-parts w actor a b events xs ys d.steps.2 f in
      (s, d, planned-to choice i before.files d.begun a.reached parts.0.reached b.reached (fits-rises w actor parts.0 b ys parts.2) (planned-at choice i before.files before.faults d.count d.begun a parts.0 xs d.steps.3 parts.1), shows)
  sent-so choice i before after it a b events (Err e, inc, same, shows) f = absurd cc

  -- ---- each of them

  module _ (k : Client) (a b : Holding) (events : List Event) (f : Fits w actor a events b) where
    shown-on : (work : OnTree) (it : Outcome) → DoesThere k work events (Ok it) → ShowsOn w a.reached b.reached k work it
    shown-on (restore r) it (inl (before, after, turns, gives)) = (before, after, turns, given-at r before after it a b events gives f)
    shown-on (restore r) it (inr (missing, kept, none, is)) = absurd cc
    shown-on (write x) it h = tt
    shown-on (erase x) it h = tt
    shown-on (back_up i) it h = tt

    did-on : (work : OnTree) (it : Outcome) → DoesThere k work events (Ok it) → DidOn w a.reached b.reached k work events it
    did-on (back_up i) it (inl (before, after, turns, backs)) = (before, after, turns, sent-so k.choice i before after it a b events backs f)
    did-on (back_up i) it (inr (missing, kept, none, is)) = absurd cc
    did-on (restore r) it h = h
    did-on (write x) it h = h
    did-on (erase x) it h = h

    pub tree-came : (work : OnTree) (numbers : List ℕ) (r : Said) → DoesThere k work events r → Came w actor k (on_tree work) (Ok (Run numbers)) a b events r
    tree-came work numbers (Ok it) h = came-ok w actor k (on_tree work) (Ok (Run numbers)) a b events (Ok it) it refl (shown-on work it h) (λ none. did-on work it h)
    tree-came work numbers (Err e) h = came-err w actor k (on_tree work) (Ok (Run numbers)) a b events (Err e) e refl h
