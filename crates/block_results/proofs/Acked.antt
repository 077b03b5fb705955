-- Each transaction of a command that was answered is acknowledged: all was made durable behind it.
use Rattle.std.proofs.Common.{◌≡◌, inl, inr, ℕ, Bool, true, false, if◌then◌else◌, List, [], ◌∷◌, ◌++◌, Option, None, Some, Result, Ok, Err, refl, sym, ap, subst, ◌∙◌, append_assoc}
use Rattle.std.specs.List.{AllByRecursion}
use Rattle.kinds.specs.declared.refusal.Refusal.{Refusal}
use Rattle.kinds.specs.declared.refusal.Refusal.TheVariants as refused
use Rattle.kinds.specs.declared.segment.Digest.{Digest}
use Rattle.choosers.specs.declared.rule.Rule.{Rule}
use Rattle.client_trees.specs.Files.{ClientFile}
use Rattle.client_trees.specs.declared.tree.FileRow.{FileRow}
use Rattle.entries.specs.declared.change.Change.{Change}
use Rattle.inventory_answers.specs.declared.query.Query.TheVariants as query
use Rattle.admin_words.specs.declared.command.Command.{Command}
use Rattle.admin_words.specs.declared.files.FilePut.{FilePut}
use Rattle.admin_commands.specs.declared.work.Work.{Work}
use Rattle.admin_commands.specs.declared.work.Work.TheVariants.{Commit as CommitWork, Run, Show}
use Rattle.line_results.proofs.of_restores.Caused.{restores-reading}
use Rattle.line_results.specs.restores.Causes.{IsReading}
use Rattle.line_results.proofs.of_sessions.Causes.{made-all, then-all}
use Rattle.line_results.proofs.of_sessions.Changed.{awaits-none, made-none, two-none, waited-none}
use Rattle.line_results.specs.sessions.Changing.{Changes, Changing, Joins}
use Rattle.line_results.specs.sessions.Checkpoints.{IsOf as IsOfCheckpoint}
use Rattle.line_results.specs.sessions.InTurn.{OrMemory}
use Rattle.line_results.specs.sessions.Putting.{AsksFor, CommitsOne, Defines, FindsFilespace, FindsHome, FindsIn, ForcesOne, GivesBack, Names, Sends, Puts, PutsIn, PutsUnder, Stores, StoresAndNames, backed_up, defined, defined_by, is_unplaced}
use Rattle.line_results.specs.sessions.declared.homes.Home.{Home}
use Rattle.line_results.specs.sessions.declared.sending.Sealed.{Sealed}
use Rattle.steps.proofs.Spending.{any-before, any-behind}
use Rattle.steps.specs.declared.asked.Asked.TheVariants.{Plain}
use Rattle.steps.specs.Calls.{Made}
use Rattle.steps.specs.Events.{Deed, Event}
use Rattle.steps.specs.Events.Deed.{OpenNew, OpenCopy, WritePiece, CopyPiece, Seal, Commit, DropTicket, ReadPiece, Ask, Image, Reuse, Force}
use Rattle.steps.specs.Receipts.{forces, is_forced, is_made, is_receipt, made, receipts}
use Rattle.line_results.specs.command_steps.Answers.{halt_by}
use Rattle.line_results.specs.command_steps.Behind as comes
use Rattle.line_results.specs.command_steps.Behind.{Behind, behind, no_more, reuses}
use Rattle.line_results.specs.command_steps.Clients.{Client}
use Rattle.line_results.specs.command_steps.Doing.{Does, DoesOwn, EndsWork, Forcing, PutsText}
use Rattle.line_results.specs.command_steps.Owns.{OnTree, Own, back_up, checkpoint, erase, file_put, get, none_yet, on_tree, own_of, put, restore, row_put, validate, write}
use Rattle.line_results.specs.command_steps.Trees.{DoesThere}
use Rattle.line_results.proofs.ForceEnds.{force-ends}
use Rattle.line_results.proofs.Mild.{IsMild}
use Rattle.line_results.proofs.Processing.{IsPlainOwn, IsPlainTree, kind}
use Rattle.block_results.proofs.Came.{Said}
use Rattle.block_results.proofs.Entering.{all-so}
use Rattle.block_results.proofs.Leaving.{shaped-mild}
use Rattle.block_results.proofs.Mild.{not-memory}
use Rattle.block_results.proofs.Walks.{back-each, for-each, gets-all, home-each, names-each, sends-each}

-- ---- lists of steps

-- the step is acknowledged where a transaction joined by it
abbrev IsAcked : Deed → List Event → Type 0
IsAcked d later = is_receipt d later ≡ is_made d

abbrev pub AreAcked : List Event → Type 0
AreAcked [] = Unit {0}
AreAcked (e ∷ events) = IsAcked e.deed events × AreAcked events

one-more : (b : Bool) (e : Event) (events : List Event) → (if b then e ∷ [] else []) ++ events ≡ (if b then e ∷ events else events)
one-more true e events = refl
one-more false e events = refl

pub acked-receipts : (events : List Event) → AreAcked events → receipts events ≡ made events
acked-receipts [] h = refl
acked-receipts (e ∷ events) h =
    ap (λ (b : Bool). (if b then e ∷ [] else []) ++ receipts events) h.0 ∙ ap (λ (l : List Event). (if is_made e.deed then e ∷ [] else []) ++ l) (acked-receipts events h.1) ∙ one-more (is_made e.deed) e (made events)

acked-more : (d : Deed) (xs ys : List Event) → IsAcked d xs → IsAcked d (xs ++ ys)
acked-more (OpenNew pool size prefer answer) xs ys h = refl
acked-more (OpenCopy object aim avoid answer) xs ys h = refl
acked-more (WritePiece ticket bytes answer) xs ys h = refl
acked-more (CopyPiece ticket answer) xs ys h = refl
acked-more (Seal ticket answer) xs ys h = refl
acked-more (Commit asked tickets (Ok number)) xs ys h = any-before (λ e. forces e.deed) xs ys h
acked-more (Commit asked tickets (Err e)) xs ys h = refl
acked-more (DropTicket ticket answer) xs ys h = refl
acked-more (ReadPiece object kept from offset wanted answer) xs ys h = refl
acked-more (Ask query answer) xs ys h = refl
acked-more (Image kind answer) xs ys h = refl
acked-more (Reuse file (Ok number)) xs ys h = refl
acked-more (Reuse file (Err e)) xs ys h = refl
acked-more (Force answer) xs ys h = refl

forced-acked : (d : Deed) (later : List Event) → is_forced later ≡ true → IsAcked d later
forced-acked (OpenNew pool size prefer answer) later h = refl
forced-acked (OpenCopy object aim avoid answer) later h = refl
forced-acked (WritePiece ticket bytes answer) later h = refl
forced-acked (CopyPiece ticket answer) later h = refl
forced-acked (Seal ticket answer) later h = refl
forced-acked (Commit asked tickets (Ok number)) later h = h
forced-acked (Commit asked tickets (Err e)) later h = refl
forced-acked (DropTicket ticket answer) later h = refl
forced-acked (ReadPiece object kept from offset wanted answer) later h = refl
forced-acked (Ask query answer) later h = refl
forced-acked (Image kind answer) later h = refl
forced-acked (Reuse file (Ok number)) later h = refl
forced-acked (Reuse file (Err e)) later h = refl
forced-acked (Force answer) later h = refl

unmade-acked : (d : Deed) (later : List Event) → is_made d ≡ false → IsAcked d later
unmade-acked (OpenNew pool size prefer answer) later h = refl
unmade-acked (OpenCopy object aim avoid answer) later h = refl
unmade-acked (WritePiece ticket bytes answer) later h = refl
unmade-acked (CopyPiece ticket answer) later h = refl
unmade-acked (Seal ticket answer) later h = refl
unmade-acked (Commit asked tickets (Ok number)) later h = absurd cc
unmade-acked (Commit asked tickets (Err e)) later h = refl
unmade-acked (DropTicket ticket answer) later h = refl
unmade-acked (ReadPiece object kept from offset wanted answer) later h = refl
unmade-acked (Ask query answer) later h = refl
unmade-acked (Image kind answer) later h = refl
unmade-acked (Reuse file (Ok number)) later h = absurd cc
unmade-acked (Reuse file (Err e)) later h = refl
unmade-acked (Force answer) later h = refl

abbrev IsUnmade : Event → Type 0
IsUnmade e = is_made e.deed ≡ false

pub all-acked : (events : List Event) → AllByRecursion IsUnmade events → AreAcked events
all-acked [] h = tt
all-acked (e ∷ events) h = (unmade-acked e.deed events h.0, all-acked events h.1)

none-acked : (events : List Event) → made events ≡ [] → AreAcked events
none-acked [] h = tt
none-acked (e ∷ events) h = elim (is_made e.deed) as (λ b. is_made e.deed ≡ b → (if b then e ∷ made events else made events) ≡ [] → IsAcked e.deed events × AreAcked events) [
  | true ↦ λ is none. absurd cc
  | false ↦ λ is none. (unmade-acked e.deed events is, none-acked events none)
] refl h

empty-acked : (events : List Event) → events ≡ [] → AreAcked events
empty-acked events none = subst AreAcked (sym none) tt

append-acked : (xs ys : List Event) → AreAcked xs → AreAcked ys → AreAcked (xs ++ ys)
append-acked [] ys h k = k
append-acked (x ∷ xs) ys h k = (acked-more x.deed xs ys h.0, append-acked xs ys h.1 k)

pub both-acked : (events xs ys : List Event) → events ≡ xs ++ ys → AreAcked xs → AreAcked ys → AreAcked events
both-acked events xs ys cut h k = subst AreAcked (sym cut) (append-acked xs ys h k)

before-acked : (xs ys : List Event) → is_forced ys ≡ true → AreAcked ys → AreAcked (xs ++ ys)
before-acked [] ys forced k = k
before-acked (x ∷ xs) ys forced k = (forced-acked x.deed (xs ++ ys) (any-behind (λ e. forces e.deed) xs ys forced), before-acked xs ys forced k)

-- whatever came before a force that was answered
force-acked : (events xs ys : List Event) (number : ℕ) → events ≡ xs ++ ys → Made (Force (Ok number)) ys → AreAcked events
force-acked events xs ys number cut (inl (n, one, listed)) =
    subst AreAcked (sym cut) (before-acked xs ys (ap is_forced one) (subst AreAcked (sym one) (refl, tt)))
force-acked events xs ys number cut (inr (memory, none)) = absurd cc

-- ---- a change

joins-none : (c : Change) (e : Refusal) (events : List Event) → Joins (Plain c) events (Err e) → made events ≡ []
joins-none c e events (waited, (xs, ys, cut, some, inl (none, tried))) = two-none events xs ys cut (waited-none c waited xs some) (made-none (Commit (Plain c) [] (Err e)) ys tried refl)
joins-none c e events (waited, (xs, ys, cut, some, inr (inl (x, (h, (zs, ws, apart, tried, awaited)), is)))) =
    two-none events xs ys cut (waited-none c waited xs some)
    (two-none ys zs ws apart (made-none (Commit (Plain c) [] (Err (refused.Busy h))) zs tried refl) (awaits-none h ws (Err x) awaited))
joins-none c e events (waited, (xs, ys, cut, some, inr (inr (used, nothing, is)))) = two-none events xs ys cut (waited-none c waited xs some) (ap made nothing)

change-acked : (c : Change) (answer : Result ℕ Refusal) (events : List Event) → IsMild answer → Changing c events answer → AreAcked events
change-acked c answer events mild h = go answer mild h.order where
  go : (answer : Result ℕ Refusal) → IsMild answer → Changes c events answer → AreAcked events
  go (Ok number) m (last, (xs, ys, cut, joins, forced)) = force-acked events xs ys last cut forced
  go (Err e) m (inl joins) = none-acked events (joins-none c e events joins)
  go (Err e) m (inr (number, (xs, ys, cut, joins, forced))) = absurd (force-ends e ys forced m)

-- ---- PUT

unplaced-mild : (e : Refusal) (test : Bool) → halt_by (if test then e else refused.Memory) ≡ None → halt_by e ≡ None
unplaced-mild e true h = h
unplaced-mild e false h = absurd (not-memory refused.Memory h refl)

defined-mild : (answer : Result ℕ Refusal) → IsMild (defined_by answer) → IsMild answer
defined-mild (Ok number) m = tt
defined-mild (Err refused.Exists) m = refl
defined-mild (Err e) m = unplaced-mild e (is_unplaced e) m

module _ (given : ClientFile) (file : FileRow) (node filespace : List ℕ) where
  home-acked : (choice : List Rule) (events : List Event) (r : Result Home Refusal) → FindsHome node choice file.path events r → AreAcked events
  home-acked choice events r h = all-acked events (home-each IsUnmade given file node filespace (λ n q x. refl) (λ n x. refl) (λ n p o x. refl) (λ n t b x. refl) (λ n t x. refl) (λ n t x. refl) choice events r h)

  for-acked : (events : List Event) (r : Result ℕ Refusal) → AsksFor node filespace events r → AreAcked events
  for-acked events r h = all-acked events (for-each IsUnmade given file node filespace (λ n q x. refl) (λ n x. refl) (λ n p o x. refl) (λ n t b x. refl) (λ n t x. refl) (λ n t x. refl) events r h)

  sends-acked : (pool : ℕ) (events : List Event) (r : Result Sealed Refusal) → Sends (Some given) pool file.size events r → AreAcked events
  sends-acked pool events r h = all-acked events (sends-each IsUnmade given file node filespace (λ n q x. refl) (λ n x. refl) (λ n p o x. refl) (λ n t b x. refl) (λ n t x. refl) (λ n t x. refl) pool events r h)

  names-acked : (digest : Digest) (events : List Event) (r : Result ℕ Refusal) → Names node filespace file digest events r → AreAcked events
  names-acked digest events r h = all-acked events (names-each IsUnmade given file node filespace (λ n q x. refl) (λ n x. refl) (λ n p o x. refl) (λ n t b x. refl) (λ n t x. refl) (λ n t x. refl) digest events r h)

  back-unmade : (ticket : ℕ) (why e : Refusal) (events : List Event) → GivesBack ticket why events e → AllByRecursion IsUnmade events
  back-unmade ticket why e events h = back-each IsUnmade given file node filespace (λ n q x. refl) (λ n x. refl) (λ n p o x. refl) (λ n t b x. refl) (λ n t x. refl) (λ n t x. refl) ticket why e events h

  defines-acked : (number : ℕ) (events : List Event) (r : Result (Unit {0}) Refusal) → IsMild r → Defines number filespace events r → AreAcked events
  defines-acked number events r m (answer, changing, is) = change-acked (defined number filespace) answer events (defined-mild answer (subst (λ (x : Result (Unit {0}) Refusal). IsMild x) is m)) changing

  or-defines-acked : (number : ℕ) (events : List Event) (r : Result (Unit {0}) Refusal) → IsMild r → OrMemory (Defines number filespace) events r → AreAcked events
  or-defines-acked number events r m (inl h) = defines-acked number events r m h
  or-defines-acked number events r m (inr (none, is)) = empty-acked events none

  in-acked : (number : ℕ) (it : Option ℕ) (events : List Event) (r : Result ℕ Refusal) → IsMild r → FindsIn node filespace number it events r → AreAcked events
  in-acked number None events r m (inl (e, h, is)) = or-defines-acked number events (Err e) (subst (λ (x : Result ℕ Refusal). IsMild x) is m) h
  in-acked number None events r m (inr (done, (xs, ys, cut, h, asks))) = both-acked events xs ys cut (or-defines-acked number xs (Ok done) tt h) (for-acked ys r asks)
  in-acked number (Some it) events r m h = empty-acked events h.0

  finds-acked : (number : ℕ) (events : List Event) (r : Result ℕ Refusal) → IsMild r → FindsFilespace node filespace number events r → AreAcked events
  finds-acked number events r m (inl (e, looks, is)) = for-acked events looks.0 looks.1
  finds-acked number events r m (inr (it, (xs, ys, cut, looks, h))) = both-acked events xs ys cut (for-acked xs looks.0 looks.1) (in-acked number it ys r m h)

  -- ---- its transaction

  commits-unmade : (number : ℕ) (class : List ℕ) (digest : Digest) (ticket : ℕ) (why : Refusal) (events : List Event) → OrMemory (CommitsOne (backed_up number file class digest) ticket) events (Err why) → AllByRecursion IsUnmade events
  commits-unmade number class digest ticket why events (inl made) = made-all IsUnmade (Commit (backed_up number file class digest) (ticket ∷ []) (Err why)) events made (λ n. refl)
  commits-unmade number class digest ticket why events (inr (none, is)) = subst (λ (es : List Event). AllByRecursion IsUnmade es) (sym none) tt

  forces-acked : (number : ℕ) (events xs ys : List Event) (r : Result ℕ Refusal) → events ≡ xs ++ ys → IsMild r → ForcesOne number ys r → AreAcked events
  forces-acked number events xs ys (Ok same) cut m (is, last, forced) = force-acked events xs ys last cut forced
  forces-acked number events xs ys (Err e) cut m forced = absurd (force-ends e ys forced m)

  stores-acked : (number : ℕ) (class : List ℕ) (s : Sealed) (events : List Event) (r : Result ℕ Refusal) → IsMild r → Stores number file class s events r → AreAcked events
  stores-acked number class s events r m (inl (e, (why, (xs, ys, cut, tried, gives)), is)) =
      all-acked events (then-all IsUnmade events xs ys cut (commits-unmade number class s.digest s.ticket why xs tried) (back-unmade s.ticket why e ys gives))
  stores-acked number class s events r m (inr (seq, (xs, ys, cut, commits, forces_))) = forces-acked seq events xs ys r cut m forces_

  names-stores-acked : (number : ℕ) (class : List ℕ) (s : Sealed) (events : List Event) (r : Result ℕ Refusal) → IsMild r → StoresAndNames node filespace number file class s events r → AreAcked events
  names-stores-acked number class s events r m (inl (e, stores, is)) = stores-acked number class s events (Err e) (subst (λ (x : Result ℕ Refusal). IsMild x) is m) stores
  names-stores-acked number class s events r m (inr (seq, (xs, ys, cut, stores, names))) = both-acked events xs ys cut (stores-acked number class s xs (Ok seq) tt stores) (names-acked s.digest ys r names)

  into-acked : (home : Home) (number : ℕ) (events : List Event) (r : Result ℕ Refusal) → IsMild r → PutsIn node filespace (Some given) file home number events r → AreAcked events
  into-acked home number events r m (inl (e, sends, is)) = sends-acked home.pool events (Err e) sends
  into-acked home number events r m (inr (s, (xs, ys, cut, sends, stores))) = both-acked events xs ys cut (sends-acked home.pool xs (Ok s) sends) (names-stores-acked number home.class s ys r m stores)

  under-acked : (home : Home) (events : List Event) (r : Result ℕ Refusal) → IsMild r → PutsUnder node filespace (Some given) file home events r → AreAcked events
  under-acked home events r m (inl (e, finds, is)) = finds-acked home.node events (Err e) (subst (λ (x : Result ℕ Refusal). IsMild x) is m) finds
  under-acked home events r m (inr (number, (xs, ys, cut, finds, into))) = both-acked events xs ys cut (finds-acked home.node xs (Ok number) tt finds) (into-acked home number ys r m into)

  puts-acked : (choice : List Rule) (events : List Event) (r : Result ℕ Refusal) → IsMild r → Puts node filespace choice (Some given) file events r → AreAcked events
  puts-acked choice events r m (inl (e, home, is)) = home-acked choice events (Err e) home
  puts-acked choice events r m (inr (home, (xs, ys, cut, finds, under))) = both-acked events xs ys cut (home-acked choice xs (Ok home) finds) (under-acked home ys r m under)

-- ---- work behind which nothing comes

module _ (k : Client) (events : List Event) where
  text-acked : (p : FilePut) (r : Result ℕ Refusal) → IsMild r → PutsText k.choice p events r → AreAcked events
  text-acked p r m (inl (puts, tree)) = puts-acked (file_put p) (row_put p) p.node p.filespace k.choice events r m puts
  text-acked p r m (inr (puts, wanted)) = puts-acked (file_put p) (row_put p) p.node p.filespace k.choice events (Err refused.TreeFault) refl puts

  reading-unmade : (d : Deed) → IsReading d → is_made d ≡ false
  reading-unmade (Ask q answer) h = refl
  reading-unmade (ReadPiece object kept from at wanted answer) h = refl
  reading-unmade d h = absurd h

  checkpoint-unmade : (d : Deed) → IsOfCheckpoint d → is_made d ≡ false
  checkpoint-unmade (Image kind answer) h = refl
  checkpoint-unmade (Force answer) h = refl
  checkpoint-unmade d h = absurd h

  each-acked : (Is : Deed → Type 0) → ((d : Deed) → Is d → is_made d ≡ false) → AllByRecursion (λ e. Is e.deed) events → AreAcked events
  each-acked Is so h = all-acked events (all-so (λ e. Is e.deed) IsUnmade (λ e x. so e.deed x) events h)

  tree-acked : (work : OnTree) (r : Said) → IsPlainTree work → DoesThere k work events r → AreAcked events
  tree-acked (back_up i) r plain h = absurd plain
  tree-acked (write x) r plain (inl (before, after, turns, does)) = empty-acked events does.0
  tree-acked (erase x) r plain (inl (before, after, turns, does)) = empty-acked events does.0
  tree-acked (restore x) r plain (inl (before, after, turns, inl (versions, which, (answer, restores, is)))) =
      each-acked IsReading reading-unmade (restores-reading x.node x.filespace versions before.faults after.faults before.files after.files events answer restores)
  tree-acked (restore x) r plain (inl (before, after, turns, inr (e, why, nothing, same, is))) = empty-acked events nothing
  tree-acked work r plain (inr (missing, kept, nothing, is)) = empty-acked events nothing

  own-acked : (own : Own) (numbers : List ℕ) (r : Said) → IsPlainOwn own → IsMild r → DoesOwn k own numbers events r → AreAcked events
  own-acked (on_tree work) numbers r plain m h = tree-acked work r plain h
  own-acked (validate set) numbers r plain m (kept, (answer, inl asks, is)) = none-acked events (made-none (Ask (query.Validated set.domain set.set) answer) events asks refl)
  own-acked (validate set) numbers r plain m (kept, (answer, inr (nothing, wanted), is)) = empty-acked events nothing
  own-acked (put p) numbers r plain m (kept, (answer, inl puts, is)) = text-acked p answer (shaped-mild _ answer r is m) puts
  own-acked (put p) numbers r plain m (kept, (answer, inr (nothing, wanted), is)) = empty-acked events nothing
  own-acked (get g) numbers r plain m (kept, (answer, inl gets, is)) = all-acked events (gets-all IsUnmade (λ n q x. refl) (λ n object kept from at wanted x. refl) g.node g.filespace g.path events answer gets)
  own-acked (get g) numbers r plain m (kept, (answer, inr (nothing, wanted), is)) = empty-acked events nothing
  own-acked checkpoint numbers r plain m h = each-acked IsOfCheckpoint checkpoint-unmade h.1.1.only
  own-acked none_yet numbers r plain m h = empty-acked events h.1.0
  own-acked own numbers r plain m h = absurd plain

  work-acked : (c : Command) (work : Work) (r : Said) → IsPlainOwn (own_of c) → IsMild r → Does k c work events r → AreAcked events
  work-acked c (CommitWork what) r plain m (kept, (answer, changing, is)) = change-acked what answer events (shaped-mild _ answer r is m) changing
  work-acked c (Show q) r plain m (kept, (answer, asks, is)) = none-acked events (made-none (Ask q answer) events asks refl)
  work-acked c (Run numbers) r plain m h = own-acked (own_of c) numbers r plain m h

-- ---- with what comes behind it

forcing-acked : (came said : Said) (events xs ys : List Event) → events ≡ xs ++ ys → IsMild said → Forcing came ys said → AreAcked events
forcing-acked came said events xs ys cut m (Ok number, forced, is) = force-acked events xs ys number cut forced
forcing-acked came said events xs ys cut m (Err e, forced, is) = absurd (force-ends e ys forced (subst (λ (x : Said). IsMild x) is m))

some-acked : (b : Behind) (came said : Said) (events xs follows : List Event) → (b ≡ no_more → ⊥) → events ≡ xs ++ follows → IsMild said → EndsWork b came follows said → AreAcked events
some-acked no_more came said events xs follows some cut m h = absurd (some refl)
some-acked comes.forces came said events xs follows some cut m h = forcing-acked came said events xs follows cut m h
some-acked reuses came said events xs follows some cut m (mid, (us, vs, apart, reusing, forcing)) =
    forcing-acked mid said events (xs ++ us) vs (cut ∙ ap (λ (l : List Event). xs ++ l) apart ∙ sym (append_assoc xs us vs)) m forcing

none-behind : (b : Behind) (came said : Said) (follows : List Event) → b ≡ no_more → EndsWork b came follows said → (follows ≡ []) × (said ≡ came)
none-behind b came said follows is h = subst (λ (x : Behind). EndsWork x came follows said) is h

pub command-acked : (k : Client) (c : Command) (work : Work) (events looks works follows : List Event) (came said : Said) → events ≡ looks ++ (works ++ follows) → AllByRecursion IsUnmade looks → IsMild came → IsMild said → Does k c work works came
    → EndsWork (behind c) came follows said → AreAcked events
command-acked k c work events looks works follows came said cut unmade mild m does ends = elim (kind c) as (λ _. AreAcked events) [
  | inl x ↦ both-acked events looks (works ++ follows) cut (all-acked looks unmade)
      (both-acked (works ++ follows) works follows refl (work-acked k works c work came x.1 mild does) (empty-acked follows (none-behind (behind c) came said follows x.0 ends).0))
  | inr p ↦ some-acked (behind c) came said events (looks ++ works) follows p.some (cut ∙ sym (append_assoc looks works follows)) m ends
]
