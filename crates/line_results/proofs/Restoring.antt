-- Steps that only ask and read, where one actor has the machine alone: nothing changes by them, and where they end the run, that has its cause. So it is with a restore.
use Rattle.std.proofs.Common.{◌≡◌, ◌⊎◌, inl, inr, ℕ, nat_le, Bool, true, false, if◌then◌else◌, List, [], ◌∷◌, ◌++◌, Option, None, Some, IfErr, Result, Ok, Err, refl, sym, ap, subst, ◌∙◌}
use Rattle.std.proofs.lemmas.Bool.{false≢true}
use Rattle.std.proofs.lemmas.Option.{same_Some}
use Rattle.std.specs.List.{AllByRecursion}
use Rattle.kinds.specs.Names.{is_same_name}
use Rattle.kinds.specs.Refusals.{bad_value, foremost, unless}
use Rattle.kinds.specs.declared.refusal.Refusal.{Refusal}
use Rattle.kinds.specs.declared.refusal.Refusal.TheVariants as refused
use Rattle.kinds.specs.declared.segment.Digest.{Digest}
use Rattle.path_patterns.specs.Patterns.{is_pattern}
use Rattle.inventory_rows.specs.version_groups.Entries.{on_ok}
use Rattle.inventory_rows.specs.version_groups.declared.versions.Version.{Version}
use Rattle.inventory_rows.specs.Search.{version}
use Rattle.inventory_rows.specs.State.{Inv}
use Rattle.inventory_rules.specs.Journal.{Journal}
use Rattle.inventory_rules.specs.Versions.{gone_or_unknown, of_version}
use Rattle.inventory_answers.specs.Answered.{answered, rows_of}
use Rattle.inventory_answers.specs.Clients.{versions_of}
use Rattle.inventory_answers.specs.declared.query.Query.{Query}
use Rattle.inventory_answers.specs.declared.query.Query.TheVariants as query
use Rattle.inventory_answers.specs.declared.reply.Answer.{Answer}
use Rattle.inventory_answers.specs.declared.reply.Rows.{Rows}
use Rattle.inventory_answers.specs.declared.reply.Rows.TheVariants as rows
use Rattle.admin_words.specs.declared.files.FilesRestore.{FilesRestore}
use Rattle.admin_words.specs.declared.files.Wanted.{Wanted}
use Rattle.admin_words.specs.declared.files.Wanted.TheVariants.{Active, Like, Object, On}
use Rattle.command_steps.specs.client_files.Restoring.{Restores as RestoresOne, is_unrestored}
use Rattle.command_steps.specs.client_files.Sending.{is_stopping, stopping}
use Rattle.command_steps.specs.client_files.declared.outcome.Gave.{Gave}
use Rattle.command_steps.specs.client_files.declared.outcome.Gave.TheVariants as gave
use Rattle.client_trees.specs.Files.{Files}
use Rattle.command_steps.specs.restores.Causes.{AreReading, IsCaused, IsReading}
use Rattle.command_steps.specs.restores.Given.{Ends as EndsAt, Gives, Stops}
use Rattle.command_steps.specs.restores.Restores.{Restores, unasked}
use Rattle.command_steps.specs.restores.declared.choosing.RestoreLine.{RestoreLine}
use Rattle.command_steps.specs.restores.declared.choosing.Which.{Which}
use Rattle.command_steps.specs.restores.declared.choosing.Which.TheVariants as which
use Rattle.command_steps.specs.restores.declared.process.Restored.{Restored}
use Rattle.command_steps.proofs.of_restores.Caused.{restores-caused, restores-reading}
use Rattle.command_steps.proofs.of_restores.Standing.{each-stands}
use Rattle.command_steps.specs.copy_attempts.Outcomes.{Met}
use Rattle.script_loop.specs.declared.ends.Halt.{Halt}
use Rattle.script_loop.specs.declared.ends.Halt.TheVariants as halt
use Rattle.steps.specs.Events.{Deed, Event, event, has_number, refusal}
use Rattle.steps.specs.Events.Deed.{Ask, ReadPiece}
use Rattle.machine.proofs.Elsewhere.{append-all, foremost-all, unless-all}
use Rattle.machine.specs.Alone.{Alone, Moves, with_contents}
use Rattle.machine.specs.Causes.{ask_refused, has_copy_in, most_bytes, read_refused}
use Rattle.machine.specs.Machine.{Asks, CantRead, IsAnswer, Later, Never, Places, Reads, Stays, read_count}
use Rattle.machine.specs.Pieces.{piece}
use Rattle.machine.specs.State.{Core, Machine, inventory, sight}
use Rattle.command_steps.specs.Answers.{halt_by}
use Rattle.command_steps.specs.Clients.{Known}
use Rattle.command_steps.specs.Trees.{GivesWanted, given_by, is_absent, which_of}
use Rattle.command_steps.specs.declared.outcome.Outcome.{Outcome}
use Rattle.command_steps.specs.declared.outcome.Outcome.TheVariants as came
use Rattle.line_results.specs.Commands.{EndsSo, IsStill, Ran}
use Rattle.line_results.specs.Resting.{EndsRun, IsAtRest, Onward, database}
use Rattle.line_results.specs.Trees.{GivesChosen, GivesNothing, IsChosen, Stand}
use Rattle.line_results.proofs.Asked.{EndsBy, asked-step, refused-of}
use Rattle.line_results.proofs.Ending.{m-answered}
use Rattle.line_results.proofs.Mild.{mild-err}
use Rattle.line_results.proofs.PutHomes.{asks-to, err-of, ok-of}
use Rattle.line_results.proofs.Planned.{versions_in}
use Rattle.line_results.proofs.Runs.{Became, Refuses, alone-none, alone-parts, became-same, became-still, ends-err, ends-since, late-on, onward-none, rose-on, stays-became, stepped, stops-run}

-- ---- one step

-- where it ended the run, that has its cause
abbrev Causes : (old new : Machine) → Deed → Type 0
Causes old new d = (e : Refusal) (how : Halt) → refusal d ≡ Some e → halt_by e ≡ Some how → EndsRun old new e

-- a refusal by which no run ends
abbrev GoesOn : Refusal → Type 0
GoesOn e = halt_by e ≡ None

no-halt : (e : Refusal) (how : Halt) → halt_by e ≡ None → halt_by e ≡ Some how → ⊥
no-halt e how none h = let odd : None ≡ Some how = sym none ∙ h in cc

-- it is said of this refusal
caused-so : (old new : Machine) (d : Deed) (e : Refusal) → refusal d ≡ Some e → ((how : Halt) → halt_by e ≡ Some how → EndsRun old new e) → Causes old new d
caused-so old new d e is h f how same halts =
    let one : e ≡ f = same_Some e f (sym is ∙ same) in
    subst (λ (x : Refusal). EndsRun old new x) one (h how (ap halt_by one ∙ halts))

nothing-caused : (old new : Machine) (d : Deed) → refusal d ≡ None → Causes old new d
nothing-caused old new d none e how is halts = let odd : None ≡ Some e = sym none ∙ is in absurd cc

abbrev AskDoes : Query → Machine → Answer → Machine → Type 0
AskDoes q old told after = IsAnswer old.core.log_length q (inventory old.core) told × Stays old after

ask-refused : (q : Query) (e : Refusal) (old new : Machine) → Refuses (ask_refused q (sight 0 old.core)) Never old new e → Became old.core old new × Causes old new (Ask q (Err e))
ask-refused q e old new (inl (inl s, b)) = (b, caused-so old new (Ask q (Err e)) e refl (λ how halts. stops-run old new e s))
ask-refused q e old new (inl (inr f, b)) =
    (b, caused-so old new (Ask q (Err e)) e refl (λ how halts. absurd (no-halt e how (mild-err (answered q (database old)) e (m-answered q (database old)) (refused-of (answered q (database old)) e f)) halts)))
ask-refused q e old new (inr (soon, none, never)) = absurd never

ask-still : (q : Query) (answer : Result Answer Refusal) (old new : Machine) → old.core.fault ≡ None → Later old new → Asks 0 q old new answer → Became old.core old new × Causes old new (Ask q answer)
ask-still q (Ok told) old new none later h = (stays-became old new later h.1.1, nothing-caused old new (Ask q (Ok told)) refl)
ask-still q (Err e) old new none later h = ask-refused q e old new (ends-err (ask_refused q (sight 0 old.core)) (AskDoes q old) Never old new e none later h)

-- what refuses a piece ends no run

gone-on : (o : Option ℕ) → GoesOn (gone_or_unknown o)
gone-on None = refl
gone-on (Some n) = refl

abbrev held_by : Digest → (from at wanted : ℕ) → Journal → (object : ℕ) → Option Version → List Refusal
held_by kept from at wanted j object found =
    unless (nat_le wanted most_bytes) bad_value
    ++ of_version j object (λ w.
    unless (has_copy_in from w) refused.NotFound
    ++ (unless (nat_le at w.size) bad_value
    ++ unless (is_same_name w.digest.0 kept.0) (refused.DigestDiffers w.digest kept))) found

held-on : (kept : Digest) (from at wanted : ℕ) (j : Journal) (object : ℕ) (o : Option Version) → AllByRecursion (λ e. halt_by e ≡ None) (held_by kept from at wanted j object o)
held-on kept from at wanted j object None = append-all GoesOn (unless (nat_le wanted most_bytes) bad_value) _ (unless-all GoesOn (nat_le wanted most_bytes) bad_value refl) (gone-on (j.removed object), tt)
held-on kept from at wanted j object (Some w) =
    append-all GoesOn (unless (nat_le wanted most_bytes) bad_value) _ (unless-all GoesOn (nat_le wanted most_bytes) bad_value refl)
    (append-all GoesOn (unless (has_copy_in from w) refused.NotFound) _ (unless-all GoesOn (has_copy_in from w) refused.NotFound refl)
    (append-all GoesOn (unless (nat_le at w.size) bad_value) _ (unless-all GoesOn (nat_le at w.size) bad_value refl)
    (unless-all GoesOn (is_same_name w.digest.0 kept.0) (refused.DigestDiffers w.digest kept) refl)))

module _ (object : ℕ) (kept : Digest) (from at wanted : ℕ) (old : Machine) where
  abbrev own : List Refusal
  own = read_refused object kept from at wanted (sight 0 old.core)

  abbrev ReadDoes : (seen : ℕ → List ℕ) → List ℕ → Machine → Type 0
  ReadDoes seen bytes after =
      (bytes ≡ piece at (read_count object wanted at (inventory old.core)) (seen object)) × ¬ CantRead object from at (read_count object wanted at (inventory old.core)) (with_contents seen old) after × Stays (with_contents seen old) after

  abbrev ReadFails : (seen : ℕ → List ℕ) → Refusal → Machine → Type 0
  ReadFails seen e after = (e ≡ refused.Unavailable) × CantRead object from at (read_count object wanted at (inventory old.core)) (with_contents seen old) after × Stays (with_contents seen old) after

  own-on : (e : Refusal) → foremost own ≡ Some e → halt_by e ≡ None
  own-on e h = foremost-all (λ x. halt_by x ≡ None) own (held-on kept from at wanted (sight 0 old.core).journal object (version object (database old))) e h

  read-refused : (seen : ℕ → List ℕ) (e : Refusal) (next : Machine) → Later (with_contents seen old) next → Refuses own (ReadFails seen) (with_contents seen old) next e
      → Became old.core old (with_contents old.contents next) × Causes old (with_contents old.contents next) (ReadPiece object kept from at wanted (Err e))
  read-refused seen e next later (inl (inl s, b)) = (
    record { core = b.core; contents = refl; onward = record { counts = later.counts; since = later.since } },
    caused-so old (with_contents old.contents next) (ReadPiece object kept from at wanted (Err e)) e refl (λ how halts. stops-run old (with_contents old.contents next) e s),
  )
  read-refused seen e next later (inl (inr f, b)) = (
    record { core = b.core; contents = refl; onward = record { counts = later.counts; since = later.since } },
    caused-so old (with_contents old.contents next) (ReadPiece object kept from at wanted (Err e)) e refl (λ how halts. absurd (no-halt e how (own-on e f) halts)),
  )
  read-refused seen e next later (inr (soon, none, (is, lost, stays))) = (
    record { core = stays.core; contents = refl; onward = record { counts = later.counts; since = later.since } },
    caused-so old (with_contents old.contents next) (ReadPiece object kept from at wanted (Err e)) e refl (λ how halts. absurd (no-halt e how (ap halt_by is) halts)),
  )

  read-still : (seen : ℕ → List ℕ) (answer : Result (List ℕ) Refusal) (next : Machine) → old.core.fault ≡ None → Later (with_contents seen old) next → Reads 0 object kept from at wanted (with_contents seen old) next answer
      → Became old.core old (with_contents old.contents next) × Causes old (with_contents old.contents next) (ReadPiece object kept from at wanted answer)
  read-still seen (Ok bytes) next none later h = (
    record { core = h.1.2.core; contents = refl; onward = record { counts = later.counts; since = later.since } },
    nothing-caused old (with_contents old.contents next) (ReadPiece object kept from at wanted (Ok bytes)) refl,
  )
  read-still seen (Err e) next none later h = read-refused seen e next later (ends-err own (ReadDoes seen) (ReadFails seen) (with_contents seen old) next e none later h)

module _ (trusted : Type 0) (places : Places) where
  reading-still : (n : ℕ) (d : Deed) (old new : Machine) → old.core.fault ≡ None → IsReading d → Moves trusted places 0 (event n d) old new → Became old.core old new × Causes old new d
  reading-still n (Ask q answer) old new none so moved =
      let s = stepped trusted places n (Ask q answer) (event n (Ask q answer) ∷ []) old new (λ contents seen h. h) (λ contents m. refl) refl (new, moved, refl) in
      ask-still q answer old new none s.0 s.1
  reading-still n (ReadPiece object kept from at wanted answer) old new none so moved =
      subst (λ (x : Machine). Became old.core old x × Causes old x (ReadPiece object kept from at wanted answer)) (sym moved.left)
      (read-still object kept from at wanted old moved.seen answer moved.next none moved.made.later moved.made.step)
  reading-still n d old new none so moved = absurd so

-- ---- all steps

-- what ended the run before a later state ended it before that
ends-on : (a b c : Machine) (e : Refusal) → EndsRun a b e → Onward b c → EndsRun a c e
ends-on a b c (refused.LogFault file count) h x = (h.0, rose-on a b c file h.1 x)
ends-on a b c refused.RunFull h x = late-on b c x h
ends-on a b c refused.Memory h x = tt
ends-on a b c e h x = absurd h

-- nothing changed but counts and the moment, and what ended the run has its cause
pub record WereReading (events : List Event) (old new : Machine) : Type 0 where
  pub still : Became old.core old new
  pub ends : (e : Refusal) (how : Halt) → Met e events → halt_by e ≡ Some how → EndsRun old new e

met-ends : (first : Event) (events : List Event) (old next new : Machine) → Became old.core old next → Causes old next first.deed → WereReading events next new → (e : Refusal) (how : Halt)
    → Met e (first ∷ events) → halt_by e ≡ Some how → EndsRun old new e
met-ends first events old next new b causes w e how (inl is) halts = ends-on old next new e (causes e how is halts) w.still.onward
met-ends first events old next new b causes w e how (inr met) halts = ends-since old next new e b.onward (w.ends e how met halts)

module _ (trusted : Type 0) (places : Places) where
  pub reads-walk : (events : List Event) (old new : Machine) → old.core.fault ≡ None → AreReading events → Alone trusted places 0 events old new → WereReading events old new
  reads-walk [] old new none all same = record { still = became-same old new same; ends = λ e how met. absurd met }
  reads-walk (first ∷ events) old new none all (next, moved, rest) =
      let one = reading-still trusted places first.n first.deed old next none all.0 moved in
      let others = reads-walk events next new (ap (λ (c : Core). c.fault) one.0.core ∙ none) all.1 rest in
      record { still = became-still old.core old next new one.0 others.still; ends = met-ends first events old next new one.0 one.1 others }

-- ---- a restore

pub still-of : (old new : Machine) → Became old.core old new → IsStill old new
still-of old new b = record { core = b.core; contents = b.contents; onward = b.onward }

-- a pattern that is none ends no run
pattern-on : (b : Bool) (bytes : List ℕ) (e : Refusal) → on_ok which.Like (if b then Ok bytes else Err (refused.BadValue 0)) ≡ Err e → halt_by e ≡ None
pattern-on true bytes e h = absurd cc
pattern-on false bytes e h = (let same : refused.BadValue 0 ≡ e = cc in ap halt_by (sym same))

which-on : (wanted : Wanted) (e : Refusal) → which_of wanted ≡ Err e → halt_by e ≡ None
which-on Active e h = absurd cc
which-on (Like pattern) e h = pattern-on (is_pattern pattern) pattern e h
which-on (On day) e h = absurd cc
which-on (Object object) e h = absurd cc

abbrev outcome_error : Result Outcome Refusal → Refusal
outcome_error (Ok it) = refused.Memory
outcome_error (Err e) = e

-- it ended so
refused-ends : (old new : Machine) (result : Result Outcome Refusal) (e : Refusal) → result ≡ Err e → ((how : Halt) → halt_by e ≡ Some how → EndsRun old new e) → EndsSo old new result
refused-ends old new result e is h f how same halts =
    let one : e ≡ f = ap outcome_error (sym is ∙ same) in
    subst (λ (x : Refusal). EndsRun old new x) one (h how (ap halt_by one ∙ halts))

wanted-ends : (old new : Machine) (wanted : Wanted) (e : Refusal) → (e ≡ refused.Memory) ⊎ (which_of wanted ≡ Err e) → (how : Halt) → halt_by e ≡ Some how → EndsRun old new e
wanted-ends old new wanted e (inl is) how halts = subst (λ (x : Refusal). EndsRun old new x) (sym is) tt
wanted-ends old new wanted e (inr is) how halts = absurd (no-halt e how (which-on wanted e is) halts)

-- of what was restored it is answered, or that there is none
back-ends : (b : Bool) (r : Restored) (old new : Machine) → EndsSo old new (if b then Err refused.NotFound else Ok (came.Restored r))
back-ends true r old new e how is halts = (let same : refused.NotFound ≡ e = ap outcome_error is in absurd (no-halt e how (ap halt_by (sym same)) halts))
back-ends false r old new e how is halts = absurd cc

answer-ends : (wanted : Wanted) (answer : Result Restored Refusal) (events : List Event) (old new : Machine) → WereReading events old new → IfErr answer (λ e. IsCaused events e) → EndsSo old new (given_by wanted answer)
answer-ends wanted (Ok r) events old new w caused = back-ends (is_absent wanted r.lines) r old new
answer-ends wanted (Err e) events old new w (inl memory) = refused-ends old new (Err e) e refl (λ how halts. subst (λ (x : Refusal). EndsRun old new x) (sym memory) tt)
answer-ends wanted (Err e) events old new w (inr (ending, met)) = refused-ends old new (Err e) e refl (λ how halts. w.ends e how met halts)

-- it wasn't known what is wanted, or memory was wanted
unknown-given : (r : FilesRestore) (v : Inv) (e : Refusal) → (e ≡ refused.Memory) ⊎ (which_of r.wanted ≡ Err e) → GivesNothing r v e
unknown-given r v e (inl is) = inr (inr (inr (halt.Memory, ap halt_by is)))
unknown-given r v e (inr h) = inl h

-- what was restored stands in a tree that tells its files
stand : (x : Restored) (before after : ℕ) (old new : Option Files) (events : List Event) → Gives x.lines x.gave before after old new events → Stand x old new
stand x before after (Some old) (Some new) events h = λ apart. each-stands x.lines x.gave before after old new events apart h
stand x before after (Some old) None events h = tt
stand x before after None (Some new) events h = tt
stand x before after None None events h = tt

-- ---- why nothing was restored

-- what ends the run
stopping-halts : (e : Refusal) → is_stopping e ≡ true → (how : Halt) × (halt_by e ≡ Some how)
stopping-halts (refused.LogFault file count) h = (halt.LogFault file, refl)
stopping-halts refused.RunFull h = (halt.RunFull, refl)
stopping-halts refused.Memory h = (halt.Memory, refl)
stopping-halts e h = absurd (false≢true h)

memory-halts : (e : Refusal) → e ≡ refused.Memory → (how : Halt) × (halt_by e ≡ Some how)
memory-halts e is = (halt.Memory, ap halt_by is)

as-stopping : (e : Refusal) (b : Bool) → is_stopping e ≡ b → (how : Halt) × (halt_by (if b then e else refused.Memory) ≡ Some how)
as-stopping e true is = stopping-halts e is
as-stopping e false is = (halt.Memory, refl)

given-halts : (e f : Refusal) (b : Bool) → ◌≡◌ {A = Result Gave Refusal} (Err e) (if b then Ok (gave.Failed f) else Err (stopping f)) → (how : Halt) × (halt_by e ≡ Some how)
given-halts e f true is = absurd cc
given-halts e f false is =
    let h = as-stopping f (is_stopping f) refl in
    let same : e ≡ stopping f = cc in
    (h.0, ap halt_by same ∙ h.1)

one-halts : (l : RestoreLine) (before after : ℕ) (e : Refusal) (events : List Event) → RestoresOne l.stored before after events (Err e) → (how : Halt) × (halt_by e ≡ Some how)
one-halts l before after e events (inl (reads, is)) = absurd cc
one-halts l before after e events (inr (f, breaks, is)) = given-halts e f (is_unrestored f) is

last-halts : (lines : List RestoreLine) (before after : ℕ) (old new : Option Files) (e : Refusal) (events : List Event) → EndsAt lines before after old new e events → (how : Halt) × (halt_by e ≡ Some how)
last-halts [] before after old new e events h = absurd h
last-halts (l ∷ lines) before after old new e events h = one-halts l before after e events h.order

stops-halts : (lines : List RestoreLine) (before after : ℕ) (old new : Option Files) (e : Refusal) (events : List Event) → Stops lines before after old new e events → (how : Halt) × (halt_by e ≡ Some how)
stops-halts lines before after old new e events h = elim h.ends as (λ _. (how : Halt) × (halt_by e ≡ Some how)) [
  | inl m ↦ memory-halts e m.0
  | inr s ↦ last-halts h.back h.count after h.between new e h.ys s
]

-- the refusal of the question, as it is answered
ends-halts : (old new : Machine) (why : Refusal) → EndsRun old new why → (how : Halt) × (halt_by (unasked why) ≡ Some how)
ends-halts old new (refused.LogFault file count) h = (halt.LogFault file, refl)
ends-halts old new refused.RunFull h = (halt.RunFull, refl)
ends-halts old new refused.Memory h = (halt.Memory, refl)
ends-halts old new e h = absurd h

not-told : (r : FilesRestore) (old new : Machine) (e why : Refusal) (b : Bool) → e ≡ (if b then why else refused.Memory) → versions_of r.node r.filespace (database old) ≡ Err why → GivesNothing r (database old) e
not-told r old new e why true is h = inr (inl (h ∙ ap (λ (x : Refusal). Err x) (sym is)))
not-told r old new e why false is h = inr (inr (inr (memory-halts e is)))

no-versions-told : (r : FilesRestore) (old new : Machine) (e why : Refusal) → e ≡ unasked why → (Err why ≡ answered (query.Versions r.node r.filespace) (database old)) ⊎ EndsBy {A = Answer} old new (Err why) → GivesNothing r (database old) e
no-versions-told r old new e why is (inl h) =
    not-told r old new e why (has_number (10 ∷ 40 ∷ 41 ∷ []) why) is
    (err-of rows.Versions (versions_of r.node r.filespace (database old)) why
    (err-of (λ (x : Rows). record { n = (database old).number; today = (database old).today; rows = x }) (rows_of (query.Versions r.node r.filespace) (database old)) why (sym h)))
no-versions-told r old new e why is (inr (f, same, ends)) =
    let one : why ≡ f = cc in
    let h = ends-halts old new why (subst (λ (x : Refusal). EndsRun old new x) (sym one) ends) in
    inr (inr (inr (h.0, ap halt_by is ∙ h.1)))

back-given : (b : Bool) (r : FilesRestore) (v : Inv) (before after : Known) (x : Restored) → is_absent r.wanted x.lines ≡ b → IsChosen r v x.lines → Stand x before.files after.files
    → GivesChosen r v before after (if b then Err refused.NotFound else Ok (came.Restored x))
back-given true r v before after x absent chosen stands = inr (inr (inl (refl, x.lines, chosen, absent)))
back-given false r v before after x absent chosen stands = (chosen, stands)

module _ (trusted : Type 0) (places : Places) (r : FilesRestore) (before after : Known) where
  answer-given : (versions : Which) (answer : Result Restored Refusal) (events : List Event) (old new : Machine) → IsAtRest old.core → which_of r.wanted ≡ Ok versions
      → Restores r.node r.filespace versions before.faults after.faults before.files after.files events answer → Alone trusted places 0 events old new
      → GivesChosen r (database old) before after (given_by r.wanted answer)
  answer-given versions (Err e) events old new rest of (inl (inl (inl (why, is, made)), same, kept)) f =
      no-versions-told r old new e why is (asked-step trusted places (query.Versions r.node r.filespace) (Err why) events old new refl rest made f).told
  answer-given versions (Err e) events old new rest of (inl (inl (inr (answer, is, made)), same, kept)) f = inr (inr (inr (memory-halts e is)))
  answer-given versions (Err e) events old new rest of (inl (inr (lines, asked, is), same, kept)) f = inr (inr (inr (memory-halts e is)))
  answer-given versions (Err e) events old new rest of (inr (lines, (xs, ys, cut, begins, stops))) f = inr (inr (inr (stops-halts lines before.faults after.faults before.files after.files e ys stops)))
  answer-given versions (Ok x) events old new rest of (xs, ys, cut, (lines, asked, chosen), gives) f =
      let parts = alone-parts trusted places 0 events xs ys old new cut f in
      let k = asks-to trusted places (query.Versions r.node r.filespace) rows.Versions (Ok lines) xs old parts.0 refl rest asked parts.1 in
      back-given (is_absent r.wanted x.lines) r (database old) before after x refl
      (versions, of, lines, ok-of rows.Versions versions_in (λ l. refl) (versions_of r.node r.filespace (database old)) lines k.1, chosen) (stand x before.faults after.faults before.files after.files ys gives)

  -- what a restore comes to, and that nothing changed but counts and the moment
  pub restore-did : (events : List Event) (result : Result Outcome Refusal) (old new : Machine) → IsAtRest old.core → GivesWanted r before after events result → Alone trusted places 0 events old new
      → Ran trusted places (λ events. GivesWanted r before after events result) old new × GivesChosen r (database old) before after result × EndsSo old new result × Became old.core old new
  restore-did events result old new rest (inl (versions, of, (answer, restores, is))) f =
      let w = reads-walk trusted places events old new rest.fault (restores-reading r.node r.filespace versions before.faults after.faults before.files after.files events answer restores) f in (
        (old, events, record { core = refl; contents = refl; onward = onward-none old }, f, inl (versions, of, (answer, restores, is))),
        subst (λ (x : Result Outcome Refusal). GivesChosen r (database old) before after x) (sym is) (answer-given versions answer events old new rest of restores f),
        subst (λ (x : Result Outcome Refusal). EndsSo old new x) (sym is)
            (answer-ends r.wanted answer events old new w (restores-caused r.node r.filespace versions before.faults after.faults before.files after.files events answer restores)),
        w.still,
      )
  restore-did events result old new rest (inr (e, why, none, same, is)) f = (
    (old, events, record { core = refl; contents = refl; onward = onward-none old }, f, inr (e, why, none, same, is)),
    subst (λ (x : Result Outcome Refusal). GivesChosen r (database old) before after x) (sym is) (unknown-given r (database old) e why),
    refused-ends old new result e is (wanted-ends old new r.wanted e why),
    became-same old new (alone-none trusted places 0 events old new none f),
  )
