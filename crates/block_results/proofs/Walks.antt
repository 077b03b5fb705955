-- What holds of each step of a PUT, of a GET and of questions, by their kinds.
use Rattle.std.proofs.Common.{◌≡◌, inl, inr, ℕ, ◌+◌, List, [], ◌∷◌, length, Option, None, Some, Result, Ok, Err, sym, subst}
use Rattle.std.specs.List.{AllByRecursion}
use Rattle.sha2.specs.Sha256.{sha256}
use Rattle.kinds.specs.ValueForms.{digest_with}
use Rattle.kinds.specs.declared.refusal.Refusal.{Refusal}
use Rattle.kinds.specs.declared.segment.Digest.{Digest}
use Rattle.choosers.specs.declared.rule.Rule.{Rule}
use Rattle.line_results.specs.client_files.Sending as client
use Rattle.line_results.specs.client_files.declared.outcome.Came.{Came}
use Rattle.line_results.specs.client_files.declared.restoring.Stored.{Stored}
use Rattle.line_results.specs.client_files.Restoring.{ReadOn, read_by}
use Rattle.client_trees.specs.Files.{ClientFile}
use Rattle.client_trees.specs.declared.tree.FileRow.{FileRow}
use Rattle.inventory_work.specs.declared.lines.Rules.{Rules}
use Rattle.inventory_work.specs.declared.search.Found.TheVariants as found
use Rattle.inventory_work.specs.declared.search.Named.TheVariants as thing
use Rattle.inventory_answers.specs.declared.lines.VersionLine.{VersionLine}
use Rattle.inventory_answers.specs.declared.query.Query.{Query}
use Rattle.inventory_answers.specs.declared.query.Query.TheVariants as query
use Rattle.inventory_answers.specs.declared.reply.Answer.{Answer}
use Rattle.inventory_answers.specs.declared.reply.Rows.TheVariants as rows
use Rattle.line_results.proofs.of_sessions.Asked.{asks-all}
use Rattle.line_results.proofs.of_sessions.Causes.{made-all, obtains-all, then-all}
use Rattle.line_results.specs.sessions.Asking.{AsksFilespace, AsksNode, AsksPath, AsksRules}
use Rattle.line_results.specs.sessions.Changing.{IsOf}
use Rattle.line_results.specs.sessions.Getting.{Chooses, Gets, Misses, ReadsWhole}
use Rattle.line_results.specs.sessions.Homes.{home_of}
use Rattle.line_results.specs.sessions.InTurn.{Decides, InTurn, OrMemory}
use Rattle.line_results.specs.sessions.Putting.{AsksFor, CommitsOne, Defines, FindsFilespace, FindsHome, FindsIn, ForcesOne, GivesBack, Looks, Names, OrGivesBack, Puts, PutsIn, PutsUnder, Sends, SendsOnce, Stores, StoresAndNames, backed_up, defined, object_stored}
use Rattle.line_results.specs.sessions.declared.getting.FileRead.{FileRead}
use Rattle.line_results.specs.sessions.declared.homes.Home.{Home}
use Rattle.line_results.specs.sessions.declared.sending.Sealed.{Sealed}
use Rattle.steps.specs.declared.asked.Asked.{Asked}
use Rattle.steps.specs.declared.asked.Asked.TheVariants.{Plain}
use Rattle.steps.specs.Events.{Deed, Event, event}
use Rattle.steps.specs.Events.Deed.{Ask, Commit, DropTicket, Force, OpenNew, ReadPiece, Seal, WritePiece}
use Rattle.block_results.proofs.Single.{sent-hash}

-- ---- calls in turn

module _ (P : Event → Type 0) where
  abbrev All : List Event → Type 0
  All events = AllByRecursion P events

  none-all : (events : List Event) → events ≡ [] → All events
  none-all events none = subst All (sym none) tt

  turn-all : {A B : Type 0} (First : List Event → Result A Refusal → Type 0) (Next : A → List Event → Result B Refusal → Type 0) → ((xs : List Event) (r : Result A Refusal) → First xs r → All xs)
      → ((y : A) (xs : List Event) → First xs (Ok y) → (ys : List Event) (r : Result B Refusal) → Next y ys r → All ys) → (events : List Event) (r : Result B Refusal) → InTurn First Next events r → All events
  turn-all First Next first next events r (inl (e, h, is)) = first events (Err e) h
  turn-all First Next first next events r (inr (y, (xs, ys, cut, h, g))) = then-all P events xs ys cut (first xs (Ok y) h) (next y xs h ys r g)

  or-all : {A : Type 0} (Calls : List Event → Result A Refusal → Type 0) → ((xs : List Event) (r : Result A Refusal) → Calls xs r → All xs) → (events : List Event) (r : Result A Refusal) → OrMemory Calls events r → All events
  or-all Calls each events r (inl h) = each events r h
  or-all Calls each events r (inr (none, is)) = none-all events none

-- ---- GET

module _ (P : Event → Type 0) (ask : (n : ℕ) (q : Query) (answer : Result Answer Refusal) → P (event n (Ask q answer)))
    (read : (n object : ℕ) (kept : Digest) (from at wanted : ℕ) (answer : Result (List ℕ) Refusal) → P (event n (ReadPiece object kept from at wanted answer))) where
  on-all : (s : Stored) (at : ℕ) (events : List Event) → ReadOn s at events → AllByRecursion P events
  on-all s at [] h = tt
  on-all s at (e ∷ events) ((wanted, bytes, is, some), later) =
      (subst (λ (d : Deed). P (event e.n d)) (sym is) (read e.n s.object s.digest 0 at wanted (Ok bytes)), on-all s (at + length (read_by e.deed)) events later)

  misses-all : (s : Stored) (at : ℕ) (e : Refusal) (events : List Event) → Misses s at e events → AllByRecursion P events
  misses-all s at e events (inl (wanted, why, same, made)) = made-all P (ReadPiece s.object s.digest 0 at wanted (Err why)) events made (λ n. read n s.object s.digest 0 at wanted (Err why))
  misses-all s at e events (inr (inl (wanted, is, made))) = made-all P (ReadPiece s.object s.digest 0 at wanted (Ok [])) events made (λ n. read n s.object s.digest 0 at wanted (Ok []))
  misses-all s at e events (inr (inr (on, is))) = on-all s at events on

  whole-all : (s : Stored) (events : List Event) (r : Result (List ℕ) Refusal) → ReadsWhole s events r → AllByRecursion P events
  whole-all s events (Ok bytes) h = on-all s 0 events h.0
  whole-all s events (Err e) (bytes, less, (xs, ys, cut, on, misses)) = then-all P events xs ys cut (on-all s 0 xs on.0) (misses-all s (length bytes) e ys misses)

  chooses-all : (node filespace path : List ℕ) (events : List Event) (r : Result Stored Refusal) → Chooses node filespace path events r → AllByRecursion P events
  chooses-all node filespace path events (Ok s) (lines, line, asks, found, is) = asks-all P (query.Path node filespace path) rows.Versions (λ n answer. ask n (query.Path node filespace path) answer) events (Ok lines) asks
  chooses-all node filespace path events (Err e) (inl asks) = asks-all P (query.Path node filespace path) rows.Versions (λ n answer. ask n (query.Path node filespace path) answer) events (Err e) asks
  chooses-all node filespace path events (Err e) (inr (lines, asks, none, is)) = asks-all P (query.Path node filespace path) rows.Versions (λ n answer. ask n (query.Path node filespace path) answer) events (Ok lines) asks

  pub gets-all : (node filespace path : List ℕ) (events : List Event) (r : Result FileRead Refusal) → Gets node filespace path events r → AllByRecursion P events
  gets-all node filespace path events (Ok x) (s, object, size, (xs, ys, cut, chooses, reads)) = then-all P events xs ys cut (chooses-all node filespace path xs (Ok s) chooses) (whole-all s ys (Ok x.bytes) reads)
  gets-all node filespace path events (Err e) (inl chooses) = chooses-all node filespace path events (Err e) chooses
  gets-all node filespace path events (Err e) (inr (s, (xs, ys, cut, chooses, reads))) = then-all P events xs ys cut (chooses-all node filespace path xs (Ok s) chooses) (whole-all s ys (Err e) reads)

-- ---- PUT

module _ (P : Event → Type 0) (given : ClientFile) (file : FileRow) (node filespace : List ℕ)
    (ask : (n : ℕ) (q : Query) (answer : Result Answer Refusal) → P (event n (Ask q answer)))
    (force : (n : ℕ) (answer : Result ℕ Refusal) → P (event n (Force answer)))
    (open_new : (n pool prefer : ℕ) (answer : Result ℕ Refusal) → P (event n (OpenNew pool file.size prefer answer)))
    (write : (n ticket : ℕ) (bytes : List ℕ) (answer : Result ℕ Refusal) → P (event n (WritePiece ticket bytes answer)))
    (seal : (n ticket : ℕ) (answer : Result (Unit {0}) Refusal) → P (event n (Seal ticket answer)))
    (give_back : (n ticket : ℕ) (answer : Result (Unit {0}) Refusal) → P (event n (DropTicket ticket answer))) where
  abbrev Each : List Event → Type 0
  Each events = AllByRecursion P events

  node-each : (events : List Event) (r : Result ℕ Refusal) → AsksNode node events r → Each events
  node-each events r h = asks-all P (query.Lookup (thing.Node node)) (λ (n : ℕ). rows.Lookup (found.Number n)) (λ n answer. ask n (query.Lookup (thing.Node node)) answer) events r h

  rules-each : (number : ℕ) (events : List Event) (r : Result Rules Refusal) → AsksRules number events r → Each events
  rules-each number events r h = asks-all P (query.Rules number) rows.Rules (λ n answer. ask n (query.Rules number) answer) events r h

  space-each : (events : List Event) (r : Result ℕ Refusal) → AsksFilespace node filespace events r → Each events
  space-each events r h = asks-all P (query.Lookup (thing.Filespace node filespace)) (λ (n : ℕ). rows.Lookup (found.Number n)) (λ n answer. ask n (query.Lookup (thing.Filespace node filespace)) answer) events r h

  path-each : (events : List Event) (r : Result (List VersionLine) Refusal) → AsksPath node filespace file.path events r → Each events
  path-each events r h = asks-all P (query.Path node filespace file.path) rows.Versions (λ n answer. ask n (query.Path node filespace file.path) answer) events r h

  pub home-each : (choice : List Rule) (events : List Event) (r : Result Home Refusal) → FindsHome node choice file.path events r → Each events
  home-each choice events r h =
      turn-all P (OrMemory (AsksNode node)) (λ (number : ℕ). InTurn (AsksRules number) (λ (rules : Rules). Decides (home_of number rules choice file.path))) (or-all P (AsksNode node) node-each)
      (λ number xs f ys s g. turn-all P (AsksRules number) (λ (rules : Rules). Decides (home_of number rules choice file.path)) (rules-each number) (λ rules us i vs t d. none-all P vs d.0) ys s g) events r h

  pub for-each : (events : List Event) (r : Result ℕ Refusal) → AsksFor node filespace events r → Each events
  for-each events r h = or-all P (AsksFilespace node filespace) space-each events r h

  -- ---- its ticket

  written-each : (ticket n : ℕ) (d : Deed) → client.Writes ticket d → P (event n d)
  written-each ticket n (WritePiece number bytes (Ok done)) h = write n number bytes (Ok done)
  written-each ticket n d h = absurd h

  all-written : (ticket : ℕ) (events : List Event) → AllByRecursion (λ e. client.Writes ticket e.deed) events → Each events
  all-written ticket [] h = tt
  all-written ticket (e ∷ events) h = (written-each ticket e.n e.deed h.0, all-written ticket events h.1)

  breaks-each : (ticket size before after : ℕ) (e : Refusal) (events : List Event) → client.Breaks (Some given) ticket size before after e events → Each events
  breaks-each ticket size before after e events (bytes, less, (xs, ys, cut, wrote, inl (none, why))) = then-all P events xs ys cut (all-written ticket xs wrote.only) (none-all P ys none)
  breaks-each ticket size before after e events (bytes, less, (xs, ys, cut, wrote, inr (piece, why, is, made))) =
      then-all P events xs ys cut (all-written ticket xs wrote.only) (made-all P (WritePiece ticket piece (Err why)) ys made (λ n. write n ticket piece (Err why)))

  copied-each : (ticket size before after : ℕ) (digest : Digest) (events : List Event) → client.Copies (Some given) ticket size before after events (Ok digest) → Each events
  copied-each ticket size before after digest events (bytes, wrote, long, is) = all-written ticket events wrote.only

  fills-each : (ticket size before after : ℕ) (events : List Event) (r : Result Digest Refusal) → client.Fills (Some given) ticket size before after events r → Each events
  fills-each ticket size before after events (Ok digest) (whole, (xs, ys, cut, copies, step)) =
      then-all P events xs ys cut (copied-each ticket size before after digest xs copies) (made-all P (Seal ticket (Ok tt)) ys (inl step) (λ n. seal n ticket (Ok tt)))
  fills-each ticket size before after events (Err e) (inl breaks) = breaks-each ticket size before after e events breaks
  fills-each ticket size before after events (Err e) (inr (inl (digest, copies, why))) = copied-each ticket size before after digest events copies
  fills-each ticket size before after events (Err e) (inr (inr (digest, why, is, (xs, ys, cut, copies, made)))) =
      then-all P events xs ys cut (copied-each ticket size before after digest xs copies) (made-all P (Seal ticket (Err why)) ys made (λ n. seal n ticket (Err why)))

  gives-up-each : (ticket : ℕ) (e : Refusal) (events : List Event) (r : Result Came Refusal) → client.GivesUp ticket e events r → Each events
  gives-up-each ticket e events r (inl (spent, none, is)) = none-all P events none
  gives-up-each ticket e events r (inr (spent, answer, step, is)) = made-all P (DropTicket ticket answer) events (inl step) (λ n. give_back n ticket answer)

  spends-each : (ticket size before after : ℕ) (events : List Event) (r : Result Came Refusal) → client.Spends (Some given) ticket size before after events r → Each events
  spends-each ticket size before after events r (inl (digest, fills, is)) = fills-each ticket size before after events (Ok digest) fills
  spends-each ticket size before after events r (inr (e, (xs, ys, cut, fills, gives))) = then-all P events xs ys cut (fills-each ticket size before after xs (Err e) fills) (gives-up-each ticket e ys r gives)

  sent-each : (pool before after : ℕ) (events : List Event) (r : Result Came Refusal) → client.Sends (Some given) pool file.size before after events r → Each events
  sent-each pool before after events r (inl (e, made, is)) = made-all P (OpenNew pool file.size 0 (Err e)) events made (λ n. open_new n pool 0 (Err e))
  sent-each pool before after events r (inr (ticket, (xs, ys, cut, made, spends))) =
      then-all P events xs ys cut (made-all P (OpenNew pool file.size 0 (Ok ticket)) xs made (λ n. open_new n pool 0 (Ok ticket))) (spends-each ticket file.size before after ys r spends)

  pub sends-each : (pool : ℕ) (events : List Event) (r : Result Sealed Refusal) → Sends (Some given) pool file.size events r → Each events
  sends-each pool events r h =
      obtains-all P force (SendsOnce (Some given) pool file.size) (λ answer xs once. sent-each pool once.0 once.1 xs once.2 once.3.order) events r h

  pub back-each : (ticket : ℕ) (why e : Refusal) (events : List Event) → GivesBack ticket why events e → Each events
  back-each ticket why e events (inl (lasting, none, is)) = none-all P events none
  back-each ticket why e events (inr (lasting, answer, step, is)) = made-all P (DropTicket ticket answer) events (inl step) (λ n. give_back n ticket answer)

  forces-each : (number : ℕ) (events : List Event) (r : Result ℕ Refusal) → ForcesOne number events r → Each events
  forces-each number events (Ok same) (is, last, made) = made-all P (Force (Ok last)) events made (λ n. force n (Ok last))
  forces-each number events (Err e) made = made-all P (Force (Err e)) events made (λ n. force n (Err e))

  pub names-each : (digest : Digest) (events : List Event) (r : Result ℕ Refusal) → Names node filespace file digest events r → Each events
  names-each digest events r h =
      turn-all P (OrMemory (AsksPath node filespace file.path)) (λ (lines : List VersionLine). Decides (object_stored file digest lines)) (or-all P (AsksPath node filespace file.path) path-each) (λ lines xs f ys s d. none-all P ys d.0) events r h

  -- ---- its transactions

  module _ (define : (n number : ℕ) (answer : Result ℕ Refusal) → P (event n (Commit (Plain (defined number filespace)) [] answer)))
      (store : (n number : ℕ) (class : List ℕ) (digest : Digest) (ticket : ℕ) (answer : Result ℕ Refusal) → digest ≡ digest_with (sha256 given.bytes) → P (event n (Commit (backed_up number file class digest) (ticket ∷ []) answer))) where
    defined-each : (number n : ℕ) (d : Deed) → IsOf (defined number filespace) d → P (event n d)
    defined-each number n (Commit asked tickets answer) (is, none) =
        subst (λ (x : Asked). P (event n (Commit x tickets answer))) (sym is) (subst (λ (l : List ℕ). P (event n (Commit (Plain (defined number filespace)) l answer))) (sym none) (define n number answer))
    defined-each number n (Force answer) h = force n answer
    defined-each number n d h = absurd h

    all-defined : (number : ℕ) (events : List Event) → AllByRecursion (λ e. IsOf (defined number filespace) e.deed) events → Each events
    all-defined number [] h = tt
    all-defined number (e ∷ events) h = (defined-each number e.n e.deed h.0, all-defined number events h.1)

    defines-each : (number : ℕ) (events : List Event) (r : Result (Unit {0}) Refusal) → Defines number filespace events r → Each events
    defines-each number events r (answer, changing, is) = all-defined number events changing.only

    finds-in-each : (number : ℕ) (it : Option ℕ) (events : List Event) (r : Result ℕ Refusal) → FindsIn node filespace number it events r → Each events
    finds-in-each number None events r h =
        turn-all P (OrMemory (Defines number filespace)) (λ (done : Unit {0}). AsksFor node filespace) (or-all P (Defines number filespace) (defines-each number)) (λ done xs f ys s g. for-each ys s g) events r h
    finds-in-each number (Some it) events r h = none-all P events h.0

    finds-each : (number : ℕ) (events : List Event) (r : Result ℕ Refusal) → FindsFilespace node filespace number events r → Each events
    finds-each number events r h =
        turn-all P (Looks node filespace) (FindsIn node filespace number) (λ xs s l. for-each xs l.0 l.1) (λ it xs f ys s g. finds-in-each number it ys s g) events r h

    commits-each : (number : ℕ) (class : List ℕ) (digest : Digest) (ticket : ℕ) → digest ≡ digest_with (sha256 given.bytes) → (events : List Event) (r : Result ℕ Refusal)
        → OrMemory (CommitsOne (backed_up number file class digest) ticket) events r → Each events
    commits-each number class digest ticket hash events r h =
        or-all P (CommitsOne (backed_up number file class digest) ticket)
        (λ xs s made. made-all P (Commit (backed_up number file class digest) (ticket ∷ []) s) xs made (λ n. store n number class digest ticket s hash)) events r h

    tried-each : (number : ℕ) (class : List ℕ) (digest : Digest) (ticket : ℕ) → digest ≡ digest_with (sha256 given.bytes) → (events : List Event) (r : Result ℕ Refusal)
        → OrGivesBack ticket (OrMemory (CommitsOne (backed_up number file class digest) ticket)) events r → Each events
    tried-each number class digest ticket hash events (Ok seq) h = commits-each number class digest ticket hash events (Ok seq) h
    tried-each number class digest ticket hash events (Err e) (why, (xs, ys, cut, tried, gives)) =
        then-all P events xs ys cut (commits-each number class digest ticket hash xs (Err why) tried) (back-each ticket why e ys gives)

    stores-each : (number : ℕ) (class : List ℕ) (s : Sealed) → s.digest ≡ digest_with (sha256 given.bytes) → (events : List Event) (r : Result ℕ Refusal) → StoresAndNames node filespace number file class s events r → Each events
    stores-each number class s hash events r h =
        turn-all P (Stores number file class s) (λ (seq : ℕ). Names node filespace file s.digest)
        (λ xs t stores. turn-all P (OrGivesBack s.ticket (OrMemory (CommitsOne (backed_up number file class s.digest) s.ticket))) ForcesOne (tried-each number class s.digest s.ticket hash) (λ seq us f vs o g. forces-each seq vs o g) xs t stores)
        (λ seq xs f ys t g. names-each s.digest ys t g) events r h

    pub puts-all : (choice : List Rule) (events : List Event) (r : Result ℕ Refusal) → Puts node filespace choice (Some given) file events r → Each events
    puts-all choice events r h =
        turn-all P (FindsHome node choice file.path) (PutsUnder node filespace (Some given) file) (home-each choice)
        (λ home xs f ys s under. turn-all P (FindsFilespace node filespace home.node) (PutsIn node filespace (Some given) file home) (finds-each home.node)
        (λ number us g vs t into. turn-all P (Sends (Some given) home.pool file.size) (StoresAndNames node filespace number file home.class) (sends-each home.pool)
        (λ sealed ps sends qs o stores. stores-each number home.class sealed (sent-hash given home.pool file.size sealed ps sends) qs o stores) vs t into) ys s under) events r h
