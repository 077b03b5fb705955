-- Why a file isn't stored, and why one isn't read.
use Rattle.std.proofs.Common.{◌≡◌, ◌⊎◌, inl, inr, ℕ, ◌==◌, ◌||◌, ◌&&◌, Bool, true, false, List, [], ◌∷◌, ◌++◌, Option, None, Some, Result, Ok, Err, if◌then◌else◌, refl, sym, ap, subst}
use Rattle.std.proofs.lemmas.Bool.{eqb-true}
use Rattle.std.specs.List.{list_all, list_any}
use Rattle.kinds.specs.Refusals.{bad_value, number_of}
use Rattle.kinds.specs.declared.refusal.Holder.{Holder}
use Rattle.kinds.specs.declared.refusal.Refusal.{Refusal}
use Rattle.kinds.specs.declared.refusal.Refusal.TheVariants as refused
use Rattle.kinds.specs.declared.segment.Digest.{Digest}
use Rattle.choosers.specs.declared.rule.Rule.{Rule}
use Rattle.choosers.specs.Rules.{class_of}
use Rattle.client_files.specs.declared.outcome.Came.{Came}
use Rattle.client_files.specs.declared.outcome.Came.TheVariants as came
use Rattle.client_files.specs.declared.restoring.Stored.{Stored}
use Rattle.client_files.specs.Sending as client
use Rattle.client_plan.specs.Classes.{destination, has_class, is_left_out}
use Rattle.client_trees.specs.Files.{ClientFile}
use Rattle.client_trees.specs.declared.tree.FileRow.{FileRow}
use Rattle.inventory_answers.specs.declared.lines.VersionLine.{VersionLine}
use Rattle.inventory_answers.specs.declared.query.Query.TheVariants as query
use Rattle.inventory_answers.specs.declared.reply.Rows.TheVariants as rows
use Rattle.inventory_work.specs.declared.lines.Rules.{Rules}
use Rattle.inventory_work.specs.declared.search.Found.TheVariants as found
use Rattle.inventory_work.specs.declared.search.Named.TheVariants as thing
use Rattle.steps.specs.declared.asked.Asked.{Asked}
use Rattle.steps.specs.Calls.{Made}
use Rattle.steps.specs.Events.{Deed, Event, has_number, refusal}
use Rattle.steps.specs.Events.Deed.{Commit, DropTicket, Force, OpenNew, ReadPiece, Seal, WritePiece}
use Rattle.sessions.proofs.Asked.{asks-caused, has-asked}
use Rattle.sessions.proofs.Causes.{HasEnds, caused-before, caused-behind, has-ends, limited-caused, made-caused, wait-caused}
use Rattle.sessions.specs.Asking.{AsksFilespace, AsksNode, AsksPath, AsksRules}
use Rattle.sessions.specs.Changing as change
use Rattle.sessions.specs.Getting as get
use Rattle.sessions.specs.Homes.{home_at, home_in, home_of, home_under}
use Rattle.sessions.specs.InTurn.{Decides, InTurn, OrMemory}
use Rattle.sessions.specs.Outcomes.{HasCause, HasCauseOr, IsCaused, IsCausedOr}
use Rattle.sessions.specs.Putting.{AsksFor, CommitsOne, Defines, FindsFilespace, FindsHome, FindsIn, ForcesOne, GivesBack, IsDecided, Looks, Names, OrGivesBack, Puts, Putting, PutsIn, PutsUnder, Sends, SendsOnce, Stores, StoresAndNames, backed_up, behind_drop, defined_by, found_or, is_unplaced, numbers, object_among, object_stored, sealed_of, there_or_not, unplaced}
use Rattle.sessions.specs.Waiting.{Obtains}
use Rattle.sessions.specs.declared.getting.FileRead.{FileRead}
use Rattle.sessions.specs.declared.homes.Home.{Home}
use Rattle.sessions.specs.declared.sending.Sealed.{Sealed}

-- ---- numbers of refusals

and-first : (a b : Bool) → (a && b) ≡ true → a ≡ true
and-first true b h = refl
and-first false b h = h

and-then : (a b : Bool) → (a && b) ≡ true → b ≡ true
and-then true b h = h
and-then false b h = absurd cc

-- a number of the one list, all of whose numbers the other one has
pub among : (few all : List ℕ) (k : ℕ) → list_all (λ m. list_any (λ n. n == m) all) few ≡ true → list_any (λ n. n == k) few ≡ true → list_any (λ n. n == k) all ≡ true
among [] all k each h = absurd cc
among (m ∷ few) all k each h =
    elim (m == k) as (λ b. (m == k) ≡ b → (b || list_any (λ n. n == k) few) ≡ true → list_any (λ n. n == k) all ≡ true) [
      | true ↦ λ here h. subst (λ (i : ℕ). list_any (λ n. n == i) all ≡ true) (eqb-true m k here) (and-first (list_any (λ n. n == m) all) (list_all (λ i. list_any (λ n. n == i) all) few) each)
      | false ↦ λ other h. among few all k (and-then (list_any (λ n. n == m) all) (list_all (λ i. list_any (λ n. n == i) all) few) each) h
    ] refl h

-- ---- causes, of which some are decided without a step being refused

module _ (Decided : Refusal → Type 0) (list : List ℕ) where
  err-behind : (xs ys : List Event) (e : Refusal) → IsCausedOr Decided list ys e → IsCausedOr Decided list (xs ++ ys) e
  err-behind xs ys e (inl h) = inl h
  err-behind xs ys e (inr h) = inr (caused-behind list xs ys e h)

  or-behind : {A : Type 0} (xs ys : List Event) (result : Result A Refusal) → HasCauseOr Decided list ys result → HasCauseOr Decided list (xs ++ ys) result
  or-behind xs ys (Ok x) h = tt
  or-behind xs ys (Err e) h = err-behind xs ys e h

  or-before : (xs ys : List Event) (e : Refusal) → IsCausedOr Decided list xs e → IsCausedOr Decided list (xs ++ ys) e
  or-before xs ys e (inl h) = inl h
  or-before xs ys e (inr h) = inr (caused-before list xs ys e h)

  or-of : {A : Type 0} (events : List Event) (result : Result A Refusal) → HasCause list events result → HasCauseOr Decided list events result
  or-of events (Ok x) h = tt
  or-of events (Err e) h = inr h

  turn-caused : {A B : Type 0} (First : List Event → Result A Refusal → Type 0) (Next : A → List Event → Result B Refusal → Type 0)
      → ((events : List Event) (answer : Result A Refusal) → First events answer → HasCauseOr Decided list events answer)
      → ((x : A) (events : List Event) (answer : Result B Refusal) → Next x events answer → HasCauseOr Decided list events answer)
      → (events : List Event) (result : Result B Refusal) → InTurn First Next events result → HasCauseOr Decided list events result
  turn-caused First Next first next events result (inl (e, f, is)) = subst (λ r. HasCauseOr Decided list events r) (sym is) (first events (Err e) f)
  turn-caused First Next first next events result (inr (x, (xs, ys, cut, f, g))) =
      subst (λ (es : List Event). HasCauseOr Decided list es result) (sym cut) (or-behind xs ys result (next x ys result g))

  memory-caused : {A : Type 0} (Calls : List Event → Result A Refusal → Type 0) → ((events : List Event) (answer : Result A Refusal) → Calls events answer → HasCauseOr Decided list events answer)
      → (events : List Event) (result : Result A Refusal) → OrMemory Calls events result → HasCauseOr Decided list events result
  memory-caused Calls each events result (inl h) = each events result h
  memory-caused Calls each events result (inr (none, is)) = subst (λ r. HasCauseOr Decided list events r) (sym is) (inr (inl refl))

  decides-caused : {A : Type 0} (said : Result A Refusal) → ((e : Refusal) → said ≡ Err e → Decided e) → (events : List Event) (result : Result A Refusal) → Decides said events result → HasCauseOr Decided list events result
  decides-caused said why events (Ok x) h = tt
  decides-caused said why events (Err e) (none, inl memory) = inr (inl memory)
  decides-caused said why events (Err e) (none, inr is) = inl (why e is)

  -- who is waited for is never decided without a step
  waits-for : ((h : Holder) → Decided (refused.Busy h) → ⊥) → (events : List Event) (h : Holder) → IsCausedOr Decided list events (refused.Busy h) → IsCaused list events (refused.Busy h)
  waits-for never events h (inl is) = absurd (never h is)
  waits-for never events h (inr is) = is

  tries-caused : {A : Type 0} → HasEnds list → ((h : Holder) → Decided (refused.Busy h) → ⊥) → (Tries : Result A Refusal → List Event → Type 0)
      → ((answer : Result A Refusal) (xs : List Event) → Tries answer xs → HasCauseOr Decided list xs answer)
      → (events : List Event) (result : Result A Refusal) → Obtains Tries events result → HasCauseOr Decided list events result
  tries-caused ends never Tries each events result (number, (xs, ys, same, waited, inl h)) =
      subst (λ (es : List Event). HasCauseOr Decided list es result) (sym same) (or-behind xs ys result (each result ys h.1))
  tries-caused ends never Tries each events result (number, (xs, ys, same, waited, inr (inl (e, (h, (zs, ws, cut, tried, awaited)), is)))) =
      let held : IsCaused list ys e =
      subst (λ (es : List Event). IsCaused list es e) (sym cut) (wait-caused list ends zs ws h e (waits-for never zs h (each (Err (refused.Busy h)) zs tried)) awaited) in
      subst (λ r. HasCauseOr Decided list events r) (sym is) (inr (subst (λ (es : List Event). IsCaused list es e) (sym same) (caused-behind list xs ys e held)))
  tries-caused ends never Tries each events result (number, (xs, ys, same, waited, inr (inr h))) =
      subst (λ r. HasCauseOr Decided list events r) (sym h.2) (inr (inl refl))

-- ---- where a file goes

at-home : (node : ℕ) (class : List ℕ) (pool : Option ℕ) (e : Refusal) → home_at node class pool ≡ Err e → e ≡ refused.NoBackupGroup
at-home node class None e h = (let same : refused.NoBackupGroup ≡ e = cc in sym same)
at-home node class (Some pool) e h = absurd cc

under-home : (node : ℕ) (rules : Rules) (class : Option (List ℕ)) (e : Refusal) → home_under node rules class ≡ Err e → e ≡ refused.NoBackupGroup
under-home node rules None e h = (let same : refused.NoBackupGroup ≡ e = cc in sym same)
under-home node rules (Some class) e h = at-home node class (destination rules class) e h

in-home : (node : ℕ) (rules : Rules) (default : Option (List ℕ)) (choice : List Rule) (path : List ℕ) (e : Refusal) → home_in node rules default choice path ≡ Err e → e ≡ refused.NoBackupGroup
in-home node rules None choice path e h = (let same : refused.NoBackupGroup ≡ e = cc in sym same)
in-home node rules (Some default) choice path e h = under-home node rules (class_of (has_class rules.classes) default choice path) e h

no-home : (node : ℕ) (rules : Rules) (choice : List Rule) (path : List ℕ) (e : Refusal) → home_of node rules choice path ≡ Err e → ((e ≡ bad_value) × (is_left_out choice path ≡ true)) ⊎ (e ≡ refused.NoBackupGroup)
no-home node rules choice path e h =
    elim (is_left_out choice path) as (λ b. is_left_out choice path ≡ b → (if b then Err bad_value else home_in node rules rules.default_class choice path) ≡ Err e
    → ((e ≡ bad_value) × (is_left_out choice path ≡ true)) ⊎ (e ≡ refused.NoBackupGroup)) [
      | true ↦ λ left h. inl ((let same : bad_value ≡ e = cc in sym same), left)
      | false ↦ λ stays h. inr (in-home node rules rules.default_class choice path e h)
    ] refl h

-- ---- a file that is stored

abbrev unplaced-numbers : List ℕ
unplaced-numbers = 10 ∷ 30 ∷ 31 ∷ 40 ∷ 41 ∷ 50 ∷ []

abbrev stopping-numbers : List ℕ
stopping-numbers = 40 ∷ 41 ∷ 50 ∷ []

put-ends : HasEnds numbers
put-ends = has-ends numbers refl refl

put-placed : (e : Refusal) → is_unplaced e ≡ true → has_number numbers e ≡ true
put-placed e is = among unplaced-numbers numbers (number_of e) refl is

put-stops : (e : Refusal) → client.is_stopping e ≡ true → has_number numbers e ≡ true
put-stops e is = among stopping-numbers numbers (number_of e) refl is

placed-of : (events : List Event) (e : Refusal) (test : Bool) → is_unplaced e ≡ test → IsCaused change.numbers events e → IsCaused numbers events (if test then e else refused.Memory)
placed-of events e true is (inl memory) = inl memory
placed-of events e true is (inr (listed, met)) = inr (put-placed e is, met)
placed-of events e false is h = inl refl

unwritten-caused : (d : Deed) (why : Refusal) (events : List Event) → Made d events → refusal d ≡ Some why → IsCaused numbers events (client.unwritten why)
unwritten-caused d why events made is =
    elim (number_of why == 25) as (λ b. (number_of why == 25) ≡ b → IsCaused numbers events (if b then why else client.stopping why)) [
      | true ↦ λ here. made-caused d why numbers events made is (λ _. subst (λ (m : ℕ). list_any (λ n. n == m) numbers ≡ true) (sym (eqb-true (number_of why) 25 here)) refl)
      | false ↦ λ other. limited-caused numbers why d events (client.is_stopping why) made is (put-stops why)
    ] refl

module _ (choice : List Rule) (given : Option ClientFile) (file : FileRow) where
  abbrev Own : Refusal → Type 0
  Own = IsDecided choice given file

  never-busy : (h : Holder) → Own (refused.Busy h) → ⊥
  never-busy h (inl is) = (let same : refused.Busy h ≡ refused.BadValue 0 = is.0 in absurd cc)
  never-busy h (inr (inl is)) = absurd cc
  never-busy h (inr (inr (inl is))) = absurd cc
  never-busy h (inr (inr (inr (inl is)))) = (let same = is.1.0 in absurd cc)
  never-busy h (inr (inr (inr (inr (inl is))))) = (let same = is.0 in absurd cc)
  never-busy h (inr (inr (inr (inr (inr is))))) = absurd cc

  home-decided : (node : ℕ) (rules : Rules) (e : Refusal) → home_of node rules choice file.path ≡ Err e → Own e
  home-decided node rules e h = elim (no-home node rules choice file.path e h) as (λ _. Own e) [
    | inl left ↦ inl left
    | inr none ↦ inr (inl none)
  ]

  node-caused : (node : List ℕ) (events : List Event) (answer : Result ℕ Refusal) → AsksNode node events answer → HasCauseOr Own numbers events answer
  node-caused node events answer h =
      or-of Own numbers events answer (asks-caused numbers (has-asked numbers refl refl refl) (query.Lookup (thing.Node node)) (λ (number : ℕ). rows.Lookup (found.Number number)) events answer h)

  rules-caused : (node : ℕ) (events : List Event) (answer : Result Rules Refusal) → AsksRules node events answer → HasCauseOr Own numbers events answer
  rules-caused node events answer h = or-of Own numbers events answer (asks-caused numbers (has-asked numbers refl refl refl) (query.Rules node) rows.Rules events answer h)

  space-caused : (node filespace : List ℕ) (events : List Event) (answer : Result ℕ Refusal) → AsksFilespace node filespace events answer → HasCauseOr Own numbers events answer
  space-caused node filespace events answer h =
      or-of Own numbers events answer (asks-caused numbers (has-asked numbers refl refl refl) (query.Lookup (thing.Filespace node filespace)) (λ (number : ℕ). rows.Lookup (found.Number number)) events answer h)

  path-caused : (node filespace : List ℕ) (events : List Event) (answer : Result (List VersionLine) Refusal) → AsksPath node filespace file.path events answer → HasCauseOr Own numbers events answer
  path-caused node filespace events answer h =
      or-of Own numbers events answer (asks-caused numbers (has-asked numbers refl refl refl) (query.Path node filespace file.path) rows.Versions events answer h)

  home-caused : (node : List ℕ) (events : List Event) (result : Result Home Refusal) → FindsHome node choice file.path events result → HasCauseOr Own numbers events result
  home-caused node events result h =
      turn-caused Own numbers (OrMemory (AsksNode node)) (λ (number : ℕ). InTurn (AsksRules number) (λ (rules : Rules). Decides (home_of number rules choice file.path)))
      (memory-caused Own numbers (AsksNode node) (node-caused node))
      (λ number. turn-caused Own numbers (AsksRules number) (λ (rules : Rules). Decides (home_of number rules choice file.path)) (rules-caused number)
      (λ rules. decides-caused Own numbers (home_of number rules choice file.path) (home-decided number rules)))
      events result h

  for-caused : (node filespace : List ℕ) (events : List Event) (answer : Result ℕ Refusal) → AsksFor node filespace events answer → HasCauseOr Own numbers events answer
  for-caused node filespace events answer h = memory-caused Own numbers (AsksFilespace node filespace) (space-caused node filespace) events answer h

  there-caused : (events : List Event) (answer : Result ℕ Refusal) → HasCauseOr Own numbers events answer → HasCauseOr Own numbers events (there_or_not answer)
  there-caused events (Ok number) h = tt
  there-caused events (Err refused.NotFound) h = tt
  there-caused events (Err e) h = h

  looks-caused : (node filespace : List ℕ) (events : List Event) (result : Result (Option ℕ) Refusal) → Looks node filespace events result → HasCauseOr Own numbers events result
  looks-caused node filespace events result (answer, asked, is) =
      subst (λ r. HasCauseOr Own numbers events r) (sym is) (there-caused events answer (for-caused node filespace events answer asked))

  defined-caused : (events : List Event) (answer : Result ℕ Refusal) → HasCause change.numbers events answer → HasCauseOr Own numbers events (defined_by answer)
  defined-caused events (Ok number) h = tt
  defined-caused events (Err refused.Exists) h = tt
  defined-caused events (Err e) h = inr (placed-of events e (is_unplaced e) refl h)

  defines-caused : (node : ℕ) (filespace : List ℕ) (events : List Event) (result : Result (Unit {0}) Refusal) → Defines node filespace events result → HasCauseOr Own numbers events result
  defines-caused node filespace events result (answer, changing, is) =
      subst (λ r. HasCauseOr Own numbers events r) (sym is) (defined-caused events answer changing.cause)

  in-caused : (node filespace : List ℕ) (number : ℕ) (it : Option ℕ) (events : List Event) (result : Result ℕ Refusal) → FindsIn node filespace number it events result → HasCauseOr Own numbers events result
  in-caused node filespace number None events result h =
      turn-caused Own numbers (OrMemory (Defines number filespace)) (λ (done : Unit {0}). AsksFor node filespace) (memory-caused Own numbers (Defines number filespace) (defines-caused number filespace))
      (λ done. for-caused node filespace) events result h
  in-caused node filespace number (Some it) events result h = decides-caused Own numbers (Ok it) (λ e is. absurd cc) events result h

  finds-caused : (node filespace : List ℕ) (number : ℕ) (events : List Event) (result : Result ℕ Refusal) → FindsFilespace node filespace number events result → HasCauseOr Own numbers events result
  finds-caused node filespace number events result h =
      turn-caused Own numbers (Looks node filespace) (FindsIn node filespace number) (looks-caused node filespace) (in-caused node filespace number) events result h

  -- ---- its ticket

  opened-other : (pool : ℕ) (events : List Event) (e : Refusal) (test : Bool) → client.is_unopened e ≡ test → Made (OpenNew pool file.size 0 (Err e)) events
      → HasCauseOr Own numbers events (sealed_of (if test then Ok (came.Failed e) else Err (client.stopping e)))
  opened-other pool events e true is made = inr (made-caused (OpenNew pool file.size 0 (Err e)) e numbers events made refl (λ _. among (10 ∷ 20 ∷ 29 ∷ 31 ∷ []) numbers (number_of e) refl is))
  opened-other pool events e false is made = inr (limited-caused numbers e (OpenNew pool file.size 0 (Err e)) events (client.is_stopping e) made refl (put-stops e))

  unopened-caused : (pool : ℕ) (events : List Event) (e : Refusal) → Made (OpenNew pool file.size 0 (Err e)) events → HasCauseOr Own numbers events (sealed_of (client.unopened e))
  unopened-caused pool events (refused.Busy h) made = inr (made-caused (OpenNew pool file.size 0 (Err (refused.Busy h))) (refused.Busy h) numbers events made refl (λ _. refl))
  unopened-caused pool events e made = opened-other pool events e (client.is_unopened e) refl made

  stopped-caused : (events : List Event) (e : Refusal) (test : Bool) → IsCausedOr Own numbers events e → IsCausedOr Own numbers events (if test then e else refused.Memory)
  stopped-caused events e true h = h
  stopped-caused events e false h = inr (inl refl)

  failing-caused : (events : List Event) (e : Refusal) (test : Bool) → IsCausedOr Own numbers events e → HasCauseOr Own numbers events (sealed_of (if test then Ok (came.Failed e) else Err (client.stopping e)))
  failing-caused events e true h = h
  failing-caused events e false h = stopped-caused events e (client.is_stopping e) h

  fills-caused : (ticket before after : ℕ) (events : List Event) (e : Refusal) → client.Fills given ticket file.size before after events (Err e) → IsCausedOr Own numbers events e
  fills-caused ticket before after events e (inl (bytes, less, (xs, ys, cut, wrote, inl (none, inl fails)))) = inl (inr (inr (inl fails.0)))
  fills-caused ticket before after events e (inl (bytes, less, (xs, ys, cut, wrote, inl (none, inr ends)))) = inl (inr (inr (inr (inl (_, ends)))))
  fills-caused ticket before after events e (inl (bytes, less, (xs, ys, cut, wrote, inr (piece, why, is, made)))) =
      inr (subst (λ (es : List Event). IsCaused numbers es e) (sym cut)
      (caused-behind numbers xs ys e (subst (λ (x : Refusal). IsCaused numbers ys x) (sym is) (unwritten-caused (WritePiece ticket piece (Err why)) why ys made refl))))
  fills-caused ticket before after events e (inr (inl (digest, copies, inl fails))) = inl (inr (inr (inl fails.0)))
  fills-caused ticket before after events e (inr (inl (digest, copies, inr goes))) = inl (inr (inr (inr (inr (inl goes)))))
  fills-caused ticket before after events e (inr (inr (digest, why, is, (xs, ys, cut, copies, made)))) =
      inr (subst (λ (es : List Event). IsCaused numbers es e) (sym cut)
      (caused-behind numbers xs ys e (subst (λ (x : Refusal). IsCaused numbers ys x) (sym is) (unwritten-caused (Seal ticket (Err why)) why ys made refl))))

  dropped-caused : (ticket : ℕ) (xs ys : List Event) (e : Refusal) (answer : Result (Unit {0}) Refusal) → Made (DropTicket ticket answer) ys → IsCausedOr Own numbers xs e
      → HasCauseOr Own numbers (xs ++ ys) (sealed_of (client.behind_drop e answer))
  dropped-caused ticket xs ys e (Ok done) made why = failing-caused (xs ++ ys) e (client.is_unfilled e) (or-before Own numbers xs ys e why)
  dropped-caused ticket xs ys e (Err other) made why =
      inr (caused-behind numbers xs ys (client.stopping other) (limited-caused numbers other (DropTicket ticket (Err other)) ys (client.is_stopping other) made refl (put-stops other)))

  gives-up-caused : (ticket : ℕ) (xs ys : List Event) (e : Refusal) (came : Result Came Refusal) → IsCausedOr Own numbers xs e → client.GivesUp ticket e ys came → HasCauseOr Own numbers (xs ++ ys) (sealed_of came)
  gives-up-caused ticket xs ys e came why (inl (spent, none, is)) =
      subst (λ (c : Result Came Refusal). HasCauseOr Own numbers (xs ++ ys) (sealed_of c)) (sym is) (failing-caused (xs ++ ys) e (client.is_unfilled e) (or-before Own numbers xs ys e why))
  gives-up-caused ticket xs ys e came why (inr (spent, answer, step, is)) =
      subst (λ (c : Result Came Refusal). HasCauseOr Own numbers (xs ++ ys) (sealed_of c)) (sym is) (dropped-caused ticket xs ys e answer (inl step) why)

  spends-caused : (ticket before after : ℕ) (events : List Event) (came : Result Came Refusal) → client.Spends given ticket file.size before after events came → HasCauseOr Own numbers events (sealed_of came)
  spends-caused ticket before after events came (inl (digest, fills, is)) = subst (λ (c : Result Came Refusal). HasCauseOr Own numbers events (sealed_of c)) (sym is) tt
  spends-caused ticket before after events came (inr (e, (xs, ys, cut, fills, gives))) =
      subst (λ (es : List Event). HasCauseOr Own numbers es (sealed_of came)) (sym cut) (gives-up-caused ticket xs ys e came (fills-caused ticket before after xs e fills) gives)

  sent-caused : (pool before after : ℕ) (events : List Event) (came : Result Came Refusal) → client.Sends given pool file.size before after events came → HasCauseOr Own numbers events (sealed_of came)
  sent-caused pool before after events came (inl (e, made, is)) = subst (λ (c : Result Came Refusal). HasCauseOr Own numbers events (sealed_of c)) (sym is) (unopened-caused pool events e made)
  sent-caused pool before after events came (inr (ticket, (xs, ys, cut, opened, spent))) =
      subst (λ (es : List Event). HasCauseOr Own numbers es (sealed_of came)) (sym cut) (or-behind Own numbers xs ys (sealed_of came) (spends-caused ticket before after ys came spent))

  once-caused : (pool : ℕ) (answer : Result Sealed Refusal) (events : List Event) → SendsOnce given pool file.size answer events → HasCauseOr Own numbers events answer
  once-caused pool answer events (before, after, came, sending, is) = subst (λ r. HasCauseOr Own numbers events r) (sym is) (sent-caused pool before after events came sending.order)

  sends-caused : (pool : ℕ) (events : List Event) (result : Result Sealed Refusal) → Sends given pool file.size events result → HasCauseOr Own numbers events result
  sends-caused pool events result h = tries-caused Own numbers put-ends never-busy (SendsOnce given pool file.size) (once-caused pool) events result h

  -- ---- its transaction

  tried-caused : (asked : Asked) (ticket : ℕ) (events : List Event) (why : Refusal) → OrMemory (CommitsOne asked ticket) events (Err why) → IsCaused numbers events (unplaced why)
  tried-caused asked ticket events why (inl made) = limited-caused numbers why (Commit asked (ticket ∷ []) (Err why)) events (is_unplaced why) made refl (put-placed why)
  tried-caused asked ticket events why (inr (none, is)) = (let same : why ≡ refused.Memory = cc in inl (ap unplaced same))

  back-caused : (ticket : ℕ) (xs ys : List Event) (why : Refusal) (answer : Result (Unit {0}) Refusal) → Made (DropTicket ticket answer) ys → IsCaused numbers xs (unplaced why)
      → IsCaused numbers (xs ++ ys) (behind_drop why answer)
  back-caused ticket xs ys why (Ok done) made cause = caused-before numbers xs ys (unplaced why) cause
  back-caused ticket xs ys why (Err other) made cause =
      caused-behind numbers xs ys (client.stopping other) (limited-caused numbers other (DropTicket ticket (Err other)) ys (client.is_stopping other) made refl (put-stops other))

  gives-caused : (ticket : ℕ) (xs ys : List Event) (why e : Refusal) → IsCaused numbers xs (unplaced why) → GivesBack ticket why ys e → IsCaused numbers (xs ++ ys) e
  gives-caused ticket xs ys why e cause (inl (lasting, none, is)) = subst (λ (x : Refusal). IsCaused numbers (xs ++ ys) x) (sym is) (caused-before numbers xs ys (unplaced why) cause)
  gives-caused ticket xs ys why e cause (inr (lasting, answer, step, is)) = subst (λ (x : Refusal). IsCaused numbers (xs ++ ys) x) (sym is) (back-caused ticket xs ys why answer (inl step) cause)

  committed-caused : (asked : Asked) (ticket : ℕ) (events : List Event) (result : Result ℕ Refusal) → OrGivesBack ticket (OrMemory (CommitsOne asked ticket)) events result → HasCauseOr Own numbers events result
  committed-caused asked ticket events (Ok number) h = tt
  committed-caused asked ticket events (Err e) (why, (xs, ys, cut, tried, gives)) =
      inr (subst (λ (es : List Event). IsCaused numbers es e) (sym cut) (gives-caused ticket xs ys why e (tried-caused asked ticket xs why tried) gives))

  forces-caused : (number : ℕ) (events : List Event) (result : Result ℕ Refusal) → ForcesOne number events result → HasCauseOr Own numbers events result
  forces-caused number events (Ok same) h = tt
  forces-caused number events (Err e) made = inr (made-caused (Force (Err e)) e numbers events made refl (put-ends e))

  stores-caused : (filespace : ℕ) (class : List ℕ) (s : Sealed) (events : List Event) (result : Result ℕ Refusal) → Stores filespace file class s events result → HasCauseOr Own numbers events result
  stores-caused filespace class s events result h =
      turn-caused Own numbers (OrGivesBack s.ticket (OrMemory (CommitsOne (backed_up filespace file class s.digest) s.ticket))) ForcesOne
      (committed-caused (backed_up filespace file class s.digest) s.ticket) forces-caused events result h

  -- ---- its number

  unfound : (e : Refusal) (it : Option ℕ) → found_or it ≡ Err e → Own e
  unfound e None h = (let same : refused.NotFound ≡ e = cc in inr (inr (inr (inr (inr (sym same))))))
  unfound e (Some it) h = absurd cc

  names-caused : (node filespace : List ℕ) (digest : Digest) (events : List Event) (result : Result ℕ Refusal) → Names node filespace file digest events result → HasCauseOr Own numbers events result
  names-caused node filespace digest events result h =
      turn-caused Own numbers (OrMemory (AsksPath node filespace file.path)) (λ (lines : List VersionLine). Decides (object_stored file digest lines))
      (memory-caused Own numbers (AsksPath node filespace file.path) (path-caused node filespace))
      (λ lines. decides-caused Own numbers (object_stored file digest lines) (λ e is. unfound e (object_among file digest lines) is)) events result h

  -- ---- all of it

  in-space-caused : (node filespace : List ℕ) (home : Home) (number : ℕ) (events : List Event) (result : Result ℕ Refusal) → PutsIn node filespace given file home number events result → HasCauseOr Own numbers events result
  in-space-caused node filespace home number events result h =
      turn-caused Own numbers (Sends given home.pool file.size) (StoresAndNames node filespace number file home.class) (sends-caused home.pool)
      (λ s. turn-caused Own numbers (Stores number file home.class s) (λ (seq : ℕ). Names node filespace file s.digest) (stores-caused number home.class s) (λ seq. names-caused node filespace s.digest))
      events result h

  puts-caused : (node filespace : List ℕ) (events : List Event) (result : Result ℕ Refusal) → Puts node filespace choice given file events result → HasCauseOr Own numbers events result
  puts-caused node filespace events result h =
      turn-caused Own numbers (FindsHome node choice file.path) (PutsUnder node filespace given file) (home-caused node)
      (λ home. turn-caused Own numbers (FindsFilespace node filespace home.node) (PutsIn node filespace given file home) (finds-caused node filespace home.node) (in-space-caused node filespace home))
      events result h

  pub putting-of : (node filespace : List ℕ) (events : List Event) (result : Result ℕ Refusal) → Puts node filespace choice given file events result → Putting node filespace choice given file events result
  putting-of node filespace events result h = record { order = h; cause = puts-caused node filespace events result h }

-- ---- a file that is read

abbrev Unread : Refusal → Type 0
Unread e = e ≡ refused.NotFound

misses-caused : (s : Stored) (at : ℕ) (e : Refusal) (events : List Event) → get.Misses s at e events → IsCaused get.numbers events e
misses-caused s at e events (inl (wanted, why, is, made)) =
    subst (λ (x : Refusal). IsCaused get.numbers events x) (sym is)
    (limited-caused get.numbers why (ReadPiece s.object s.digest 0 at wanted (Err why)) events (has_number (23 ∷ 24 ∷ 40 ∷ 41 ∷ []) why) made refl (λ few. among (23 ∷ 24 ∷ 40 ∷ 41 ∷ []) get.numbers (number_of why) refl few))
misses-caused s at e events (inr (inl (wanted, is, made))) = inl is
misses-caused s at e events (inr (inr (read, is))) = inl is

reads-caused : (s : Stored) (events : List Event) (result : Result (List ℕ) Refusal) → get.ReadsWhole s events result → HasCauseOr Unread get.numbers events result
reads-caused s events (Ok bytes) h = tt
reads-caused s events (Err e) (bytes, less, (xs, ys, cut, read, misses)) =
    inr (subst (λ (es : List Event). IsCaused get.numbers es e) (sym cut) (caused-behind get.numbers xs ys e (misses-caused s _ e ys misses)))

chooses-caused : (node filespace path : List ℕ) (events : List Event) (result : Result Stored Refusal) → get.Chooses node filespace path events result → HasCauseOr Unread get.numbers events result
chooses-caused node filespace path events (Ok s) h = tt
chooses-caused node filespace path events (Err e) (inl asked) =
    inr (asks-caused get.numbers (has-asked get.numbers refl refl refl) (query.Path node filespace path) rows.Versions events (Err e) asked)
chooses-caused node filespace path events (Err e) (inr (lines, asked, none, is)) = inl is

gets-caused : (node filespace path : List ℕ) (events : List Event) (result : Result FileRead Refusal) → get.Gets node filespace path events result → HasCauseOr Unread get.numbers events result
gets-caused node filespace path events (Ok r) h = tt
gets-caused node filespace path events (Err e) (inl unchosen) = chooses-caused node filespace path events (Err e) unchosen
gets-caused node filespace path events (Err e) (inr (s, (xs, ys, cut, chosen, broken))) =
    subst (λ (es : List Event). IsCausedOr Unread get.numbers es e) (sym cut) (err-behind Unread get.numbers xs ys e (reads-caused s ys (Err e) broken))

pub getting-of : (node filespace path : List ℕ) (events : List Event) (result : Result FileRead Refusal) → get.Gets node filespace path events result → get.Getting node filespace path events result
getting-of node filespace path events result h = record { order = h; cause = gets-caused node filespace path events result h }
