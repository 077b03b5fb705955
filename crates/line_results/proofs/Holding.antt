-- What holds of a line that was answered.
use Rattle.std.proofs.Common.{◌≡◌, ◌⊎◌, inl, inr, ℕ, zero, suc, ◌+◌, ◌^◌, ◌<◌, ◌≤◌, ◌&&◌, nat_lt, min, Bool, true, false, if◌then◌else◌, Contains, slice_index_or, is_none, find, option_and_then, List, [], ◌∷◌, ◌++◌, length, Option, None, Some, Result, Ok, Err, refl, sym, ap, subst, ◌∙◌, true≢false, arith}
use Rattle.std.proofs.lemmas.Bool.{and_parts, false≢true}
use Rattle.std.proofs.lemmas.Option.{same_Some}
use Rattle.std.specs.List.{AllByRecursion}
use Rattle.sha2.specs.Sha256.{sha256}
use Rattle.kinds.specs.ValueForms.{digest_with}
use Rattle.kinds.specs.declared.refusal.Refusal.{Refusal}
use Rattle.kinds.specs.declared.refusal.Refusal.TheVariants as refused
use Rattle.entries.specs.declared.change.Change.{Change}
use Rattle.entries.specs.declared.change.Change.TheVariants as change
use Rattle.entries.specs.declared.entry.Entry.{Entry}
use Rattle.inventory_rows.specs.object_rows.Filespaces.{group_at}
use Rattle.inventory_rows.specs.object_rows.Names.{filespace_named, node_named}
use Rattle.inventory_rows.specs.version_groups.Entries.{on_ok}
use Rattle.inventory_rows.specs.version_groups.declared.copies.CopyRow.{CopyRow}
use Rattle.inventory_rows.specs.version_groups.declared.group.Group.{Group}
use Rattle.inventory_rows.specs.version_groups.declared.versions.Version.{Version}
use Rattle.inventory_rows.specs.State.{Inv}
use Rattle.inventory_work.specs.Copies.{has_volume}
use Rattle.inventory_work.specs.Rules.{rules_of}
use Rattle.inventory_work.specs.declared.lines.Rules.{Rules}
use Rattle.inventory_answers.specs.Answered.{answered}
use Rattle.inventory_answers.specs.Stores.{backup_lines}
use Rattle.inventory_answers.specs.declared.query.Query.{Query}
use Rattle.inventory_answers.specs.declared.reply.Answer as rows
use Rattle.placing.specs.Placing.{active_of, active_version, can_read}
use Rattle.admin_words.specs.declared.command.Command.{Command}
use Rattle.admin_words.specs.declared.files.FileGet.{FileGet}
use Rattle.admin_words.specs.declared.files.FilePut.{FilePut}
use Rattle.admin_words.specs.declared.files.IncrementalBackup.{IncrementalBackup}
use Rattle.admin_words.specs.declared.policy.NamedSet.{NamedSet}
use Rattle.admin_commands.specs.declared.work.Work.{Work}
use Rattle.admin_commands.specs.declared.work.Work.TheVariants.{Commit, Show, Run}
use Rattle.reports.specs.Lines.{shown_line}
use Rattle.reports.specs.declared.shown.Shown.TheVariants.{Done, Reused, Stored}
use Rattle.script_loop.specs.Reply.{Answer}
use Rattle.steps.specs.Events.{Event}
use Rattle.machine.specs.Machine.{Places}
use Rattle.machine.specs.Pieces.{IsCopyLost, IsUnavailable}
use Rattle.machine.specs.State.{Machine}
use Rattle.command_steps.specs.sessions.declared.getting.FileRead.{FileRead}
use Rattle.command_steps.specs.db_backup.Listing.{newest_file}
use Rattle.command_steps.specs.Answers.{Ends, answer_of, counting, done, halt_by, outcome_lines, refusal, row_lines}
use Rattle.tree_api.specs.Cause.{Rose}
use Rattle.command_steps.specs.Clients.{Client, IsKept, Known, Turns}
use Rattle.command_steps.specs.Lines.{Line, asks, comment, refused as refused_line}
use Rattle.command_steps.specs.Behind.{Behind, behind, forces, no_more, reuses}
use Rattle.command_steps.specs.Doing.{Forcing, Reusing, the_number, the_second}
use Rattle.command_steps.specs.Writing.{Erases, Writes, bytes_of}
use Rattle.command_steps.specs.Owns.{Mover, OnTree, Own, all_migrator, audit_volume, back_up, back_up_database, back_up_pool, back_up_since, checkpoint, data_mover, delete_history, empty_filespace, empty_volume, erase, expire, get, last_of, migrator, moves, none_but_reuse, none_yet, on_tree, own_of, pool_restorer, put, reclaimer, restore, validate, volume_restorer, write}
use Rattle.command_steps.specs.declared.outcome.Outcome.{Outcome}
use Rattle.command_steps.specs.declared.outcome.Outcome.TheVariants.{Read, Rows, Said}
use Rattle.line_results.specs.Bounds.{IsBounded, IsUnaudited, IsUnfollowed, IsUnmade, IsUnmadeBehind, ReachesBound, begins, end_refused, illegal, is_near, is_of_run}
use Rattle.line_results.specs.Clauses.{BytesBy, BytesOwn, CauseBy, CauseOwn, CauseWith, DidBy, DidWith, Holds, IsAnsweredWith, IsRows, IsThereOrDefined, ItemsBy, ItemsOf, ItemsOwn, MayAudit, MayBackUp, MayBackUpDatabase, MayBy, MayFollow, MayGet, MayGive, MayOn, MayOwn, OrderedBy, OrderedWith, RowsBy, StaysWithin, orders}
use Rattle.line_results.specs.Commands.{Comes, Does, DoesOwn, DoesThere, EndsWith, IsReuse, Tells, Works, WorksWith, drawn, validated, work_over}
use Rattle.line_results.specs.Files.{Checkpoints, Gets, GetsOf, GetsUnder, Puts, ShowsFound, active_at, filespace_defined}
use Rattle.line_results.specs.Lines.{Replies, Says}
use Rattle.line_results.specs.Migrating.{IsAllMigration, IsPoolMigration}
use Rattle.line_results.specs.Moving.{HasMoveReason, IsDataMove, IsOpen, IsReclamation, IsStuck, IsUncopied, MayCopy, MayMove}
use Rattle.line_results.specs.Removing.{IsAbsent, has_filespace}
use Rattle.line_results.specs.Resting.{Commits, EndsRun, Onward, RoseFrom, SameBytes, database, why_not}
use Rattle.line_results.specs.Returning.{CanBeLost, CannotBeLost, RestoresPool, RestoresVolume}
use Rattle.admin_words.specs.declared.files.FilesRestore.{FilesRestore}
use Rattle.command_steps.specs.Trees.{is_absent, which_of}
use Rattle.inventory_answers.specs.Clients.{versions_of}
use Rattle.inventory_answers.specs.declared.lines.VersionLine.{VersionLine}
use Rattle.command_steps.specs.restores.Chosen.{chosen}
use Rattle.command_steps.specs.restores.declared.choosing.RestoreLine.{RestoreLine}
use Rattle.command_steps.specs.restores.declared.choosing.Which.{Which}
use Rattle.script_loop.specs.declared.ends.Halt.{Halt}
use Rattle.line_results.specs.Trees.{GivesNothing, HasBytes, IsChosen, IsOfBackup, IsOfTree, IsRefusedSo, IsUndefinable, StoresNothing}
use Rattle.line_results.proofs.ForceEnds.{forced-done, forced-same, no_said, said-same}
use Rattle.line_results.proofs.Growing.{Grows, grown-number}
use Rattle.line_results.proofs.Keeping.{each-same}
use Rattle.line_results.proofs.Meeting.{alone-grows}
use Rattle.line_results.proofs.MigrateReason.{next-not}
use Rattle.line_results.proofs.Changing.{comes-trees}
use Rattle.line_results.proofs.Processing.{IsPlainOwn, IsPlainTree, IsProcess, IsProcessOwn, IsProcessTree, IsRowless, kind, over-rowless}
use Rattle.line_results.proofs.Readable.{contained_holds, not-lost}
use Rattle.line_results.proofs.PutHeld.{IsMild, PutHeld, no-end, no-put, put-held}
use Rattle.line_results.proofs.Denied.{denied-by}
use Rattle.line_results.proofs.Roomy.{last-failed, says-none}
use Rattle.line_results.proofs.Runs.{rose-on}
use Rattle.line_results.proofs.Told.{told-by}

-- ---- answers

-- how a result is answered
abbrev IsShown : ℕ → Result Outcome Refusal → Answer → Type 0
IsShown n (Ok it) answer = answer ≡ answer_of n it
IsShown n (Err e) answer = (halt_by e ≡ None) × (answer ≡ refusal n e)

shown-of : (n : ℕ) (said : Result Outcome Refusal) (answer : Answer) (why : Option Refusal) → Ends n said (Ok (answer, why)) → IsShown n said answer
shown-of n (Ok it) answer why h = ap (λ (p : Answer × Option Refusal). p.0) h
shown-of n (Err e) answer why h = (h.0, ap (λ (p : Answer × Option Refusal). p.0) h.1)

came-refused : (n : ℕ) (it : Outcome) (answer : Answer) → answer ≡ answer_of n it → answer.tally.refused ≡ 0
came-refused n it answer h = ap (λ (a : Answer). a.tally.refused) h

last-shown : (n : ℕ) (what : Change) (answer : Answer) → answer ≡ answer_of n (Said (last_of what)) → answer ≡ done (shown_line n (last_of what))
last-shown n what answer h = h ∙ ap (λ (k : ℕ). counting (shown_line n (last_of what)) k) (last-failed what)

none-refused : (text : List ℕ) (answer : Answer) → answer ≡ done text → answer.tally.refused ≡ 0
none-refused text answer h = ap (λ (a : Answer). a.tally.refused) h

one-refused : (n : ℕ) (e : Refusal) (answer : Answer) → answer ≡ refusal n e → answer.tally.refused ≡ 1
one-refused n e answer h = ap (λ (a : Answer). a.tally.refused) h

zero-one : (k : ℕ) → k ≡ 0 → k ≡ 1 → ⊥
zero-one k a b = omega (arith, a, b)

-- what holds of a command that asks for this work
pub record HeldBy (trusted : Type 0) (places : Places) (k : Client) (n : ℕ) (own : Own) (w : Result Work Refusal) (old mid : Machine) (answer : Answer) (added : List Entry) : Type 0 where
  pub journal : AllByRecursion (λ e. (e.actor ≡ 0) × OrderedBy k own w old e.change) added
  pub queries : RowsBy n (database old) w answer
  pub bytes : BytesBy trusted n own w old mid answer
  pub items : AllByRecursion (λ e. ItemsBy own w mid e.change) added
  pub causes : answer.tally.refused ≡ 1 → (why : Refusal) × (answer ≡ refusal n why) × CauseBy trusted places k own w old mid why added
  pub done : answer.tally.refused ≡ 0 → DidBy trusted places k n own w old mid answer added
  pub complete : ((file : ℕ) → RoseFrom old mid file → ⊥) → MayBy places k own w old mid → answer.tally.refused ≡ 0

no-entries : (P : Entry → Type 0) (added : List Entry) → added ≡ [] → AllByRecursion P added
no-entries P added none = subst (λ (l : List Entry). AllByRecursion P l) (sym none) tt

module _ (trusted : Type 0) (places : Places) (k : Client) (n : ℕ) (old mid : Machine) (answer : Answer) (added : List Entry) where
  -- it was refused
  as-refused : (own : Own) (w : Result Work Refusal) (e : Refusal) → answer ≡ refusal n e → AllByRecursion (λ x. (x.actor ≡ 0) × OrderedBy k own w old x.change) added → RowsBy n (database old) w answer
      → BytesBy trusted n own w old mid answer → AllByRecursion (λ x. ItemsBy own w mid x.change) added → CauseBy trusted places k own w old mid e added
      → (((file : ℕ) → RoseFrom old mid file → ⊥) → MayBy places k own w old mid → ⊥) → HeldBy trusted places k n own w old mid answer added
  as-refused own w e is journal rows bytes items cause never = record {
    journal = journal;
    queries = rows;
    bytes = bytes;
    items = items;
    causes = λ one. (e, is, cause);
    done = λ none. absurd (zero-one answer.tally.refused none (one-refused n e answer is));
    complete = λ none may. absurd (never none may);
  }

  -- it was done
  as-done : (own : Own) (w : Result Work Refusal) (text : List ℕ) → answer ≡ done text → AllByRecursion (λ x. (x.actor ≡ 0) × OrderedBy k own w old x.change) added → RowsBy n (database old) w answer
      → BytesBy trusted n own w old mid answer → AllByRecursion (λ x. ItemsBy own w mid x.change) added → DidBy trusted places k n own w old mid answer added → HeldBy trusted places k n own w old mid answer added
  as-done own w text is journal rows bytes items did = record {
    journal = journal;
    queries = rows;
    bytes = bytes;
    items = items;
    causes = λ one. absurd (zero-one answer.tally.refused (none-refused text answer is) one);
    done = λ none. did;
    complete = λ none may. none-refused text answer is;
  }

-- ---- a change

work-none : (o : Option Refusal) (e : Refusal) → o ≡ None → o ≡ Some e → ⊥
work-none o e a b = let odd : None ≡ Some e = sym a ∙ b in cc

answer-none : (r : Result rows.Answer Refusal) (a : rows.Answer) (e : Refusal) → r ≡ Ok a → r ≡ Err e → ⊥
answer-none (Ok x) a e h k = cc
answer-none (Err f) a e h k = cc

module _ (trusted : Type 0) (places : Places) (k : Client) (n : ℕ) (own : Own) (old mid : Machine) (answer : Answer) (added : List Entry) where
  commit-held : (what : Change) (r : Result ℕ Refusal) → Commits (drawn what old) old mid r added → IsShown n (on_ok (λ number. Said (last_of what)) r) answer
      → HeldBy trusted places k n own (Ok (Commit what)) old mid answer added
  commit-held what (Ok number) (legal, is) shown =
      as-done trusted places k n old mid answer added own (Ok (Commit what)) (shown_line n (last_of what)) (last-shown n what answer shown)
      (subst (λ (l : List Entry). AllByRecursion (λ x. (x.actor ≡ 0) × (x.change ≡ drawn what old)) l) (sym is) ((refl, refl), tt)) tt tt
      (subst (λ (l : List Entry). AllByRecursion (λ x. ItemsBy own (Ok (Commit what)) mid x.change) l) (sym is) (tt, tt)) (is, last-shown n what answer shown)
  commit-held what (Err e) (inl (why, none)) shown =
      as-refused trusted places k n old mid answer added own (Ok (Commit what)) e shown.1 (no-entries (λ x. (x.actor ≡ 0) × OrderedBy k own (Ok (Commit what)) old x.change) added none) tt tt
      (no-entries (λ x. ItemsBy own (Ok (Commit what)) mid x.change) added none) why (λ rose may. work-none (why_not (drawn what old) old.core) e may why)
  commit-held what (Err e) (inr (ends, h)) shown = absurd (no-end e old mid ends shown.0)

  -- ---- a query

  show-held : (q : Query) (r : Result rows.Answer Refusal) → answered q (database old) ≡ r → added ≡ [] → IsShown n (on_ok Rows r) answer → HeldBy trusted places k n own (Ok (Show q)) old mid answer added
  show-held q (Ok a) is none shown =
      as-done trusted places k n old mid answer added own (Ok (Show q)) (row_lines n a) shown (no-entries (λ x. (x.actor ≡ 0) × OrderedBy k own (Ok (Show q)) old x.change) added none)
      (subst (λ (x : Result rows.Answer Refusal). IsRows n x answer) (sym is) shown) tt (no-entries (λ x. ItemsBy own (Ok (Show q)) mid x.change) added none) none
  show-held q (Err e) is none shown =
      as-refused trusted places k n old mid answer added own (Ok (Show q)) e shown.1 (no-entries (λ x. (x.actor ≡ 0) × OrderedBy k own (Ok (Show q)) old x.change) added none)
      (subst (λ (x : Result rows.Answer Refusal). IsRows n x answer) (sym is) shown.1) tt (no-entries (λ x. ItemsBy own (Ok (Show q)) mid x.change) added none) is
      (λ rose may. answer-none (answered q (database old)) may.0 e may.1 is)

  -- ---- a refusal before any work

  given-held : (given : Refusal) → added ≡ [] → answer ≡ refusal n given → HeldBy trusted places k n own (Err given) old mid answer added
  given-held given none is =
      as-refused trusted places k n old mid answer added own (Err given) given is (no-entries (λ x. (x.actor ≡ 0) × OrderedBy k own (Err given) old x.change) added none) tt tt
      (no-entries (λ x. ItemsBy own (Err given) mid x.change) added none) refl (λ rose may. may)

-- ---- a file that may be read

-- the active version is the first that isn't inactive
newest-first : (list : List Version) (w : Version) → active_of list ≡ Some w → find (λ x. is_none x.since) list ≡ Some w
newest-first [] w h = absurd cc
newest-first (x ∷ list) w h =
    elim (is_none x.since) as (λ b. (if b then Some x else None) ≡ Some w → (if b then Some x else find (λ y. is_none y.since) list) ≡ Some w) [
      | true ↦ λ k. k
      | false ↦ λ k. absurd cc
    ] h

group-first : (o : Option Group) (w : Version) → option_and_then (λ (g : Group). active_of g.versions) o ≡ Some w → option_and_then (λ (g : Group). find (λ x. is_none x.since) g.versions) o ≡ Some w
group-first None w h = absurd cc
group-first (Some g) w h = newest-first g.versions w h

active-first : (filespace : ℕ) (path : List ℕ) (v : Inv) (w : Version) → active_version filespace path v ≡ Some w → active_at filespace path v ≡ Some w
active-first filespace path v w h = group-first (group_at filespace path v.clients.filespaces) w h

abbrev read_refused : Refusal → Result FileRead Refusal
read_refused e = Err e

no-missed : (w : Version) (e : Refusal) (old mid : Machine) → halt_by e ≡ None → ((file : ℕ) → RoseFrom old mid file → ⊥) → (copy : CopyRow) → Contains w.copies copy → can_read copy (database old) ≡ true
    → ((e ≡ refused.Unavailable) × (offset : ℕ) × (count : ℕ) × IsUnavailable (RoseFrom old mid) (database old) 0 offset count w) ⊎ EndsRun old mid e → ⊥
no-missed w e old mid mild none copy among readable (inl (is, offset, count, lost)) =
    not-lost (RoseFrom old mid) (database old) offset count copy none readable (contained_holds (IsCopyLost (RoseFrom old mid) (database old) offset count) w.copies copy among lost)
no-missed w e old mid mild none copy among readable (inr ends) = no-end e old mid ends mild

no-get : (trusted : Type 0) (g : FileGet) (e : Refusal) (old mid : Machine) → halt_by e ≡ None → ((file : ℕ) → RoseFrom old mid file → ⊥) → MayGet g (database old) → Gets trusted g old mid (Err e) → ⊥
no-get trusted g e old mid mild none may (inl ends) = no-end e old mid ends mild
no-get trusted g e old mid mild none (node, at, filespace, there, w, active, sound, copy, among, readable) (inr h) =
    let under : GetsUnder trusted (filespace_named node g.filespace (database old).clients.filespaces) g.path old mid (read_refused e) = subst (λ (o : Option ℕ). GetsOf trusted o g old mid (read_refused e)) at h in
    let found : ShowsFound trusted (active_at filespace g.path (database old)) old mid (read_refused e) = subst (λ (o : Option ℕ). GetsUnder trusted o g.path old mid (read_refused e)) there under in
    let shows : ShowsFound trusted (Some w) old mid (read_refused e) = subst (λ (o : Option Version). ShowsFound trusted o old mid (read_refused e)) (active-first filespace g.path (database old) w active) found in
    no-missed w e old mid mild none copy among readable (shows.0 sound)

-- ---- work of a command's own

unit-none : (r : Result (Unit {0}) Refusal) (e : Refusal) → r ≡ Ok tt → r ≡ Err e → ⊥
unit-none (Ok x) e h k = cc
unit-none (Err f) e h k = cc

abbrev number_error : Result ℕ Refusal → Refusal
number_error (Ok k) = refused.Memory
number_error (Err e) = e

abbrev no_number : Refusal → Result ℕ Refusal
no_number e = Err e

number-same : (e f : Refusal) → no_number e ≡ no_number f → e ≡ f
number-same e f h = ap number_error h

module _ (trusted : Type 0) (places : Places) (k : Client) (n : ℕ) (numbers : List ℕ) (old mid : Machine) (answer : Answer) (added : List Entry) where
  refused-own : (own : Own) (e : Refusal) → answer ≡ refusal n e → added ≡ [] → BytesBy trusted n own (Ok (Run numbers)) old mid answer → CauseOwn trusted places k own old mid e added
      → (((file : ℕ) → RoseFrom old mid file → ⊥) → MayOwn places k numbers own old mid → ⊥) → HeldBy trusted places k n own (Ok (Run numbers)) old mid answer added
  refused-own own e is none bytes cause never =
      as-refused trusted places k n old mid answer added own (Ok (Run numbers)) e is (no-entries (λ x. (x.actor ≡ 0) × OrderedBy k own (Ok (Run numbers)) old x.change) added none) tt bytes
      (no-entries (λ x. ItemsBy own (Ok (Run numbers)) mid x.change) added none) cause never

  done-own : (own : Own) (text : List ℕ) → answer ≡ done text → added ≡ [] → BytesBy trusted n own (Ok (Run numbers)) old mid answer → DidBy trusted places k n own (Ok (Run numbers)) old mid answer added
      → HeldBy trusted places k n own (Ok (Run numbers)) old mid answer added
  done-own own text is none bytes did =
      as-done trusted places k n old mid answer added own (Ok (Run numbers)) text is (no-entries (λ x. (x.actor ≡ 0) × OrderedBy k own (Ok (Run numbers)) old x.change) added none) tt bytes
      (no-entries (λ x. ItemsBy own (Ok (Run numbers)) mid x.change) added none) did

  validate-held : (set : NamedSet) (r : Result (Unit {0}) Refusal) → validated set (database old) ≡ r → added ≡ [] → IsShown n (on_ok (λ it. Said Done) r) answer
      → HeldBy trusted places k n (validate set) (Ok (Run numbers)) old mid answer added
  validate-held set (Ok it) is none shown = done-own (validate set) (shown_line n Done) shown none tt (is, none)
  validate-held set (Err e) is none shown = refused-own (validate set) e shown.1 none tt is (λ rose may. unit-none (validated set (database old)) e may is)

  get-held : (g : FileGet) (r : Result FileRead Refusal) → Gets trusted g old mid r → added ≡ [] → IsShown n (on_ok Read r) answer → HeldBy trusted places k n (get g) (Ok (Run numbers)) old mid answer added
  get-held g (Ok file) gets none shown = done-own (get g) (outcome_lines n (Read file)) shown none (inl (file, gets, shown)) none
  get-held g (Err e) gets none shown = refused-own (get g) e shown.1 none (inr (e, gets, shown.1)) gets (λ rose may. no-get trusted g e old mid shown.0 rose may gets)

  checkpoint-held : (r : Result ℕ Refusal) → Checkpoints old mid r → added ≡ [] → IsShown n (on_ok (λ seq. Said Done) r) answer → HeldBy trusted places k n checkpoint (Ok (Run numbers)) old mid answer added
  checkpoint-held (Ok seq) came none shown = done-own checkpoint (shown_line n Done) shown none tt (came.0, none)
  checkpoint-held (Err e) (inl full) none shown = refused-own checkpoint e shown.1 none tt full (λ rose may. (let most : 2 ^ 62 ≤ old.core.generation + 1 = full.1 in let less : old.core.generation + 1 < 2 ^ 62 = may in omega (arith, most, less)))
  checkpoint-held (Err e) (inr ends) none shown = absurd (no-end e old mid ends shown.0)

  put-by : (p : FilePut) (r : Result ℕ Refusal) → Puts places k.choice p old mid r added → PutHeld p r mid added → IsMild r → IsShown n (on_ok (λ object. Said (Stored object)) r) answer
      → HeldBy trusted places k n (put p) (Ok (Run numbers)) old mid answer added
  put-by p (Ok object) puts h mild shown =
      let d = h.done object refl in
      as-done trusted places k n old mid answer added (put p) (Ok (Run numbers)) (shown_line n (Stored object)) shown h.journal tt tt h.items
      (d.0, d.1, d.2, d.3, d.4, d.5, subst (λ (k : ℕ). answer ≡ done (shown_line n (Stored k))) d.6 shown)
  put-by p (Err e) puts h mild shown =
      as-refused trusted places k n old mid answer added (put p) (Ok (Run numbers)) e shown.1 h.journal tt tt h.items puts (λ rose may. no-put places k.choice p (Err e) e old mid added mild rose may refl puts)

  mild-shown : (r : Result ℕ Refusal) → IsShown n (on_ok (λ object. Said (Stored object)) r) answer → (e : Refusal) → r ≡ Err e → halt_by e ≡ None
  mild-shown (Ok object) shown e is = absurd cc
  mild-shown (Err f) shown e is = subst (λ (x : Refusal). halt_by x ≡ None) (number-same f e is) shown.0

-- what was told without a change is the answer, since no run ended
told-as : (n : ℕ) (old mid : Machine) (answer : Answer) (told said : Result Outcome Refusal) → IsShown n said answer → (said ≡ told) ⊎ ((e : Refusal) × (said ≡ Err e) × EndsRun old mid e) → said ≡ told
told-as n old mid answer told said shown (inl is) = is
told-as n old mid answer told said shown (inr (e, is, ends)) =
    let by : IsShown n (Err e) answer = subst (λ (r : Result Outcome Refusal). IsShown n r answer) is shown in
    absurd (no-end e old mid ends by.0)

module _ (trusted : Type 0) (places : Places) (k : Client) (n : ℕ) (old mid : Machine) (answer : Answer) (added : List Entry) where
  -- work on a tree, behind which nothing comes, makes no transaction
  tree-quiet : (work : OnTree) (said : Result Outcome Refusal) → IsPlainTree work → DoesThere trusted places k work old mid said added → added ≡ []
  tree-quiet (write w) said so (inl (before, after, turns, (did, still, none))) = none
  tree-quiet (erase e) said so (inl (before, after, turns, (did, still, none))) = none
  tree-quiet (back_up i) said so h = absurd so
  tree-quiet (restore r) said so (inl (before, after, turns, (ran, gives, ends, still, none))) = none
  tree-quiet work said so (inr (missing, kept, is, still, none)) = none

  -- where its tree is there and no call on it fails a file is written, and erased
  write-legal : (before after : Known) (path bytes : List ℕ) (mtime : ℕ) (r : Result (Unit {0}) Refusal) (e : Refusal) → Writes path bytes mtime before after r → no_said e ≡ on_ok (λ done. Said Done) r → Rose before.faults after.faults
  write-legal before after path bytes mtime (Ok done) e h is = absurd cc
  write-legal before after path bytes mtime (Err f) e (same, count, rose, low, left) is = omega (arith, rose, low)

  erase-legal : (before after : Known) (path : List ℕ) (r : Result (Unit {0}) Refusal) (e : Refusal) → Erases path before after r → no_said e ≡ on_ok (λ done. Said Done) r → Rose before.faults after.faults
  erase-legal before after path (Ok done) e h is = absurd cc
  erase-legal before after path (Err f) e h is = h.1

  -- where it is known what is wanted, and it is there, a restore isn't refused, unless the run ends
  chosen-same : (r : FilesRestore) (v : Inv) (xs ys : List RestoreLine) → IsChosen r v xs → IsChosen r v ys → xs ≡ ys
  chosen-same r v xs ys (which, of, versions, are, is) (other, also, others, too, this) =
      let one : which ≡ other = cc in
      let all : versions ≡ others = cc in
      is ∙ ap (λ (w : Which). chosen w versions) one ∙ ap (λ (ls : List VersionLine). chosen other ls) all ∙ sym this

  absent-not : (r : FilesRestore) (v : Inv) (xs ys : List RestoreLine) → IsChosen r v xs → IsChosen r v ys → is_absent r.wanted xs ≡ true → is_absent r.wanted ys ≡ false → ⊥
  absent-not r v xs ys a b none some = true≢false (sym none ∙ ap (is_absent r.wanted) (chosen-same r v xs ys a b) ∙ some)

  which-not : (r : FilesRestore) (v : Inv) (e : Refusal) (xs : List RestoreLine) → IsChosen r v xs → which_of r.wanted ≡ Err e → ⊥
  which-not r v e xs (which, of, versions, are, is) refused = absurd cc

  versions-not : (r : FilesRestore) (v : Inv) (e : Refusal) (xs : List RestoreLine) → IsChosen r v xs → versions_of r.node r.filespace v ≡ Err e → ⊥
  versions-not r v e xs (which, of, versions, are, is) refused = absurd cc

  halts-not : (e : Refusal) (how : Halt) → halt_by e ≡ None → halt_by e ≡ Some how → ⊥
  halts-not e how mild halts = (let odd : None ≡ Some how = sym mild ∙ halts in cc)

  give-legal : (r : FilesRestore) (v : Inv) (e : Refusal) → halt_by e ≡ None → GivesNothing r v e → MayGive r v → ⊥
  give-legal r v e mild (inl h) may = which-not r v e may.0 may.1 h
  give-legal r v e mild (inr (inl h)) may = versions-not r v e may.0 may.1 h
  give-legal r v e mild (inr (inr (inl h))) may = absent-not r v h.1 may.0 h.2 may.1 h.3 may.2
  give-legal r v e mild (inr (inr (inr h))) may = halts-not e h.0 mild h.1

  tree-legal : (work : OnTree) (e : Refusal) → IsPlainTree work → halt_by e ≡ None → DoesThere trusted places k work old mid (Err e) added → MayOn k work old → ⊥
  tree-legal (write w) e so mild (inl (before, after, turns, ((r, writes, is), still, none))) may = may.1 before after turns (write-legal before after w.path (bytes_of w.contents) w.mtime r e writes is)
  tree-legal (erase x) e so mild (inl (before, after, turns, ((r, erases, is), still, none))) may = may.1 before after turns (erase-legal before after x.path r e erases is)
  tree-legal (restore r) e so mild (inl (before, after, turns, (ran, gives, ends, still, none))) may = give-legal r (database old) e mild gives may.0
  tree-legal (back_up i) e so mild h may = absurd so
  tree-legal (write w) e so mild (inr (missing, kept, is, still, none)) may = (let there = may.0 in omega (arith, missing, there))
  tree-legal (erase x) e so mild (inr (missing, kept, is, still, none)) may = (let there = may.0 in omega (arith, missing, there))
  tree-legal (restore r) e so mild (inr (missing, kept, is, still, none)) may = (let there = may.1 in omega (arith, missing, there))

  tree-held : (work : OnTree) (numbers : List ℕ) (said : Result Outcome Refusal) → IsPlainTree work → DoesThere trusted places k work old mid said added → IsShown n said answer
      → HeldBy trusted places k n (on_tree work) (Ok (Run numbers)) old mid answer added
  tree-held work numbers (Ok it) so h shown =
      let none : added ≡ [] = tree-quiet work (Ok it) so h in
      record {
        journal = no-entries (λ x. (x.actor ≡ 0) × OrderedBy k (on_tree work) (Ok (Run numbers)) old x.change) added none;
        queries = tt;
        bytes = tt;
        items = no-entries (λ x. ItemsBy (on_tree work) (Ok (Run numbers)) mid x.change) added none;
        causes = λ one. absurd (zero-one answer.tally.refused (came-refused n it answer shown) one);
        done = λ zero. (it, shown, h);
        complete = λ rose may. came-refused n it answer shown;
      }
  tree-held work numbers (Err e) so h shown =
      as-refused trusted places k n old mid answer added (on_tree work) (Ok (Run numbers)) e shown.1
      (no-entries (λ x. (x.actor ≡ 0) × OrderedBy k (on_tree work) (Ok (Run numbers)) old x.change) added (tree-quiet work (Err e) so h)) tt tt
      (no-entries (λ x. ItemsBy (on_tree work) (Ok (Run numbers)) mid x.change) added (tree-quiet work (Err e) so h)) h (λ rose may. tree-legal work e so shown.0 h may)

  own-held : (own : Own) (numbers : List ℕ) (said : Result Outcome Refusal) → IsPlainOwn own → DoesOwn trusted places k numbers own old mid said added → IsShown n said answer
      → HeldBy trusted places k n own (Ok (Run numbers)) old mid answer added
  own-held (validate set) numbers said so (kept, h) shown =
      let is = told-as n old mid answer (on_ok (λ it. Said Done) (validated set (database old))) said shown h.0 in
      validate-held trusted places k n numbers old mid answer added set (validated set (database old)) refl h.1 (subst (λ (r : Result Outcome Refusal). IsShown n r answer) is shown)
  own-held (put p) numbers said so (kept, (r, puts, is, image)) shown =
      let by = subst (λ (x : Result Outcome Refusal). IsShown n x answer) is shown in
      let mild = mild-shown trusted places k n numbers old mid answer added r by in
      put-by trusted places k n numbers old mid answer added p r puts (put-held places k.choice p r old mid added mild puts) mild by
  own-held (get g) numbers said so (kept, (r, gets, is, none, image, bytes)) shown =
      get-held trusted places k n numbers old mid answer added g r gets none (subst (λ (x : Result Outcome Refusal). IsShown n x answer) is shown)
  own-held checkpoint numbers said so (kept, (r, came, is, none, bytes)) shown =
      checkpoint-held trusted places k n numbers old mid answer added r came none (subst (λ (x : Result Outcome Refusal). IsShown n x answer) is shown)
  own-held (on_tree work) numbers said so h shown = tree-held work numbers said so h shown
  own-held none_yet numbers said so (kept, h) shown =
      let is = told-as n old mid answer (Err (refused.UnknownWord 1)) said shown h.0 in
      let by : IsShown n (Err (refused.UnknownWord 1)) answer = subst (λ (r : Result Outcome Refusal). IsShown n r answer) is shown in
      refused-own trusted places k n numbers old mid answer added none_yet (refused.UnknownWord 1) by.1 h.1 tt refl (λ rose may. may)
  own-held own numbers said so h shown = absurd so

  does-held : (c : Command) (w : Result Work Refusal) (said : Result Outcome Refusal) → IsPlainOwn (own_of c) → Does trusted places k c w old mid said added → IsShown n said answer
      → HeldBy trusted places k n (own_of c) w old mid answer added
  does-held c (Err given) said so (kept, h) shown =
      let is = told-as n old mid answer (Err given) said shown h.0 in
      let by : IsShown n (Err given) answer = subst (λ (r : Result Outcome Refusal). IsShown n r answer) is shown in
      given-held trusted places k n (own_of c) old mid answer added given h.1 by.1
  does-held c (Ok (Commit what)) said so (kept, r, commits, is, image, bytes) shown =
      commit-held trusted places k n (own_of c) old mid answer added what r commits (subst (λ (x : Result Outcome Refusal). IsShown n x answer) is shown)
  does-held c (Ok (Show q)) said so (kept, h) shown =
      let is = told-as n old mid answer (on_ok Rows (answered q (database old))) said shown h.0 in
      show-held trusted places k n (own_of c) old mid answer added q (answered q (database old)) refl h.1 (subst (λ (r : Result Outcome Refusal). IsShown n r answer) is shown)
  does-held c (Ok (Run numbers)) said so h shown = own-held (own_of c) numbers said so h shown

-- ---- a process

-- what holds of a command with what comes behind its work
pub record HeldWith (trusted : Type 0) (places : Places) (k : Client) (n : ℕ) (c : Command) (b : Behind) (old mid : Machine) (answer : Answer) (added : List Entry) : Type 0 where
  pub journal : AllByRecursion (λ e. (e.actor ≡ 0) × OrderedWith k b (own_of c) (work_over c (database old)) old e.change) added
  pub queries : RowsBy n (database old) (work_over c (database old)) answer
  pub bytes : BytesBy trusted n (own_of c) (work_over c (database old)) old mid answer
  pub items : AllByRecursion (λ e. ItemsBy (own_of c) (work_over c (database old)) mid e.change) added
  pub causes : answer.tally.refused ≡ 1 → (why : Refusal) × (answer ≡ refusal n why) × CauseWith trusted places k c b old mid why added
  pub done : answer.tally.refused ≡ 0 → DidWith trusted places k n c b old mid answer added
  pub complete : ((file : ℕ) → RoseFrom old mid file → ⊥) → MayBy places k (own_of c) (work_over c (database old)) old mid → IsAnsweredWith trusted places k n c b old mid answer

rows-none : (n : ℕ) (v : Inv) (w : Result Work Refusal) (answer : Answer) → IsRowless w → RowsBy n v w answer
rows-none n v (Ok (Commit what)) answer so = tt
rows-none n v (Ok (Show q)) answer so = absurd so
rows-none n v (Ok (Run numbers)) answer so = tt
rows-none n v (Err why) answer so = tt

own-bytes-none : (trusted : Type 0) (n : ℕ) (own : Own) (old mid : Machine) (answer : Answer) → IsProcessOwn own → BytesOwn trusted n own old mid answer
own-bytes-none trusted n (get g) old mid answer so = absurd so
own-bytes-none trusted n own old mid answer so = tt

bytes-none : (trusted : Type 0) (n : ℕ) (own : Own) (w : Result Work Refusal) (old mid : Machine) (answer : Answer) → IsProcessOwn own → BytesBy trusted n own w old mid answer
bytes-none trusted n own (Ok (Commit what)) old mid answer so = tt
bytes-none trusted n own (Ok (Show q)) old mid answer so = tt
bytes-none trusted n own (Ok (Run numbers)) old mid answer so = own-bytes-none trusted n own old mid answer so
bytes-none trusted n own (Err why) old mid answer so = tt

-- ---- what it stored

abbrev HaveItems : Own → Result Work Refusal → (mid : Machine) → List Entry → Type 0
HaveItems own w mid added = AllByRecursion (λ e. ItemsBy own w mid e.change) added

each-entry : (P : Change → Type 0) → ((c : Change) → P c) → (added : List Entry) → AllByRecursion (λ e. P e.change) added
each-entry P so [] = tt
each-entry P so (e ∷ added) = (so e.change, each-entry P so added)

-- what a backup stored keeps its bytes behind it
there-items : (trusted : Type 0) (places : Places) (k : Client) (numbers : List ℕ) (work : OnTree) (old mid new : Machine) (said : Result Outcome Refusal) (added : List Entry)
    → DoesThere trusted places k work old mid said added → SameBytes mid new → HaveItems (on_tree work) (Ok (Run numbers)) new added
there-items trusted places k numbers (back_up i) old mid new said added (inl (before, after, turns, (ran, are, image, keeps, have, why))) same =
    each-same (HasBytes mid) (HasBytes new)
    (λ i h. (let is : mid.contents i.object ≡ new.contents i.object = ap (λ (f : ℕ → List ℕ). f i.object) (sym same) in (h.0 ∙ ap length is, h.1 ∙ ap (λ (l : List ℕ). digest_with (sha256 l)) is))) added have
there-items trusted places k numbers (write w) old mid new said added (inl (before, after, turns, (did, still, none))) same = no-entries (λ x. ItemsBy (on_tree (write w)) (Ok (Run numbers)) new x.change) added none
there-items trusted places k numbers (erase e) old mid new said added (inl (before, after, turns, (did, still, none))) same = no-entries (λ x. ItemsBy (on_tree (erase e)) (Ok (Run numbers)) new x.change) added none
there-items trusted places k numbers (restore r) old mid new said added (inl (before, after, turns, (ran, gives, ends, still, none))) same =
    no-entries (λ x. ItemsBy (on_tree (restore r)) (Ok (Run numbers)) new x.change) added none
there-items trusted places k numbers work old mid new said added (inr (missing, kept, is, still, none)) same = no-entries (λ x. ItemsBy (on_tree work) (Ok (Run numbers)) new x.change) added none

process-items : (trusted : Type 0) (places : Places) (k : Client) (numbers : List ℕ) (own : Own) (old mid new : Machine) (said : Result Outcome Refusal) (added : List Entry) → IsProcessOwn own
    → DoesOwn trusted places k numbers own old mid said added → SameBytes mid new → HaveItems own (Ok (Run numbers)) new added
process-items trusted places k numbers (on_tree work) old mid new said added so h same = there-items trusted places k numbers work old mid new said added h same
process-items trusted places k numbers (put p) old mid new said added so h same = absurd so
process-items trusted places k numbers own old mid new said added so h same = each-entry (λ c. ItemsBy own (Ok (Run numbers)) new c) (λ c. tt) added

work-items : (trusted : Type 0) (places : Places) (k : Client) (c : Command) (w : Work) (old mid new : Machine) (said : Result Outcome Refusal) (added : List Entry) → IsProcessOwn (own_of c)
    → Does trusted places k c (Ok w) old mid said added → SameBytes mid new → HaveItems (own_of c) (Ok w) new added
work-items trusted places k c (Commit what) old mid new said added so h same = each-entry (λ x. ItemsBy (own_of c) (Ok (Commit what)) new x) (λ x. tt) added
work-items trusted places k c (Show q) old mid new said added so h same = each-entry (λ x. ItemsBy (own_of c) (Ok (Show q)) new x) (λ x. tt) added
work-items trusted places k c (Run numbers) old mid new said added so h same = process-items trusted places k numbers (own_of c) old mid new said added so h same

-- a volume that is reused brings none
tree-reused : (work : OnTree) (mid : Machine) (file : ℕ) → ItemsOwn (on_tree work) mid (change.Reuse file)
tree-reused (back_up i) mid file = tt
tree-reused work mid file = tt

own-reused : (own : Own) (mid : Machine) (file : ℕ) → ItemsOwn own mid (change.Reuse file)
own-reused (on_tree work) mid file = tree-reused work mid file
own-reused own mid file = tt

reused-items : (own : Own) (w : Result Work Refusal) (b : Behind) (mid : Machine) (c : Change) → IsReuse b c → ItemsBy own w mid c
reused-items own (Ok (Commit what)) b mid c h = tt
reused-items own (Ok (Show q)) b mid c h = tt
reused-items own (Ok (Run numbers)) reuses mid c h = subst (λ (x : Change). ItemsOwn own mid x) (sym h.1) (own-reused own mid h.0)
reused-items own (Ok (Run numbers)) b mid c h = absurd h
reused-items own (Err why) b mid c h = tt

both-items : (own : Own) (w : Result Work Refusal) (b : Behind) (mid : Machine) (first later : List Entry) → HaveItems own w mid first → AllByRecursion (λ e. (e.actor ≡ 0) × IsReuse b e.change) later → HaveItems own w mid (first ++ later)
both-items own w b mid [] [] h l = tt
both-items own w b mid [] (e ∷ later) h l = (reused-items own w b mid e.change l.0.1, both-items own w b mid [] later tt l.1)
both-items own w b mid (e ∷ first) later h l = (h.0, both-items own w b mid first later h.1 l)

-- what comes behind a command's work changes no bytes
behind-bytes : (trusted : Type 0) (places : Places) (b : Behind) (said result : Result Outcome Refusal) (mid new : Machine) → (b ≡ no_more → ⊥) → EndsWith trusted places b said mid new result → SameBytes mid new
behind-bytes trusted places no_more said result mid new some h = absurd (some refl)
behind-bytes trusted places forces said result mid new some (events, alone, ends, image, bytes, reason) = bytes
behind-bytes trusted places reuses said result mid new some (events, alone, ends, image, bytes, reason) = bytes

-- ---- which transactions

abbrev AreBy : Client → Own → Result Work Refusal → Machine → List Entry → Type 0
AreBy k own w old added = AllByRecursion (λ e. (e.actor ≡ 0) × OrderedBy k own w old e.change) added

commits-ordered : {A : Type 0} (k : Client) (own : Own) (what : Change) (old mid : Machine) (r : Result A Refusal) (added : List Entry) → Commits (drawn what old) old mid r added → AreBy k own (Ok (Commit what)) old added
commits-ordered k own what old mid (Ok x) added h = subst (λ (l : List Entry). AreBy k own (Ok (Commit what)) old l) (sym h.1) ((refl, refl), tt)
commits-ordered k own what old mid (Err e) added (inl h) = no-entries (λ x. (x.actor ≡ 0) × OrderedBy k own (Ok (Commit what)) old x.change) added h.1
commits-ordered k own what old mid (Err e) added (inr (ends, inl none)) = no-entries (λ x. (x.actor ≡ 0) × OrderedBy k own (Ok (Commit what)) old x.change) added none
commits-ordered k own what old mid (Err e) added (inr (ends, inr h)) = subst (λ (l : List Entry). AreBy k own (Ok (Commit what)) old l) (sym h.1) ((refl, refl), tt)

-- of the plan of the tree that the command names
of-tree : (k : Client) (i : IncrementalBackup) (before after : Known) (old : Machine) (added : List Entry) → Turns i.tree before after k
    → AllByRecursion (λ e. (e.actor ≡ 0) × IsOfBackup k.choice i before.files (database old) e.change) added → AllByRecursion (λ e. (e.actor ≡ 0) × IsOfTree k i (database old) e.change) added
of-tree k i before after old [] turns h = tt
of-tree k i before after old (e ∷ added) turns h = ((h.0.0, (before, after, turns, h.0.1)), of-tree k i before after old added turns h.1)

there-ordered : (trusted : Type 0) (places : Places) (k : Client) (numbers : List ℕ) (work : OnTree) (old mid : Machine) (said : Result Outcome Refusal) (added : List Entry)
    → DoesThere trusted places k work old mid said added → AreBy k (on_tree work) (Ok (Run numbers)) old added
there-ordered trusted places k numbers (back_up i) old mid said added (inl (before, after, turns, (ran, are, image, keeps, have, why))) = of-tree k i before after old added turns are
there-ordered trusted places k numbers (write w) old mid said added (inl (before, after, turns, (did, still, none))) = no-entries (λ x. (x.actor ≡ 0) × OrderedBy k (on_tree (write w)) (Ok (Run numbers)) old x.change) added none
there-ordered trusted places k numbers (erase e) old mid said added (inl (before, after, turns, (did, still, none))) = no-entries (λ x. (x.actor ≡ 0) × OrderedBy k (on_tree (erase e)) (Ok (Run numbers)) old x.change) added none
there-ordered trusted places k numbers (restore r) old mid said added (inl (before, after, turns, (ran, gives, ends, still, none))) =
    no-entries (λ x. (x.actor ≡ 0) × OrderedBy k (on_tree (restore r)) (Ok (Run numbers)) old x.change) added none
there-ordered trusted places k numbers work old mid said added (inr (missing, kept, is, still, none)) = no-entries (λ x. (x.actor ≡ 0) × OrderedBy k (on_tree work) (Ok (Run numbers)) old x.change) added none

process-ordered : (trusted : Type 0) (places : Places) (k : Client) (numbers : List ℕ) (own : Own) (old mid : Machine) (said : Result Outcome Refusal) (added : List Entry) → IsProcessOwn own
    → DoesOwn trusted places k numbers own old mid said added → AreBy k own (Ok (Run numbers)) old added
process-ordered trusted places k numbers (on_tree work) old mid said added so h = there-ordered trusted places k numbers work old mid said added h
process-ordered trusted places k numbers expire old mid said added so h = h.1.1
process-ordered trusted places k numbers empty_filespace old mid said added so h = h.1.1
process-ordered trusted places k numbers empty_volume old mid said added so h = h.1.1
process-ordered trusted places k numbers back_up_pool old mid said added so h = h.1.1
process-ordered trusted places k numbers (moves mover) old mid said added so h = h.1.1
process-ordered trusted places k numbers back_up_database old mid said added so h = h.1.1
process-ordered trusted places k numbers back_up_since old mid said added so h = h.1.1
process-ordered trusted places k numbers (delete_history to) old mid said added so h = h.1.1
process-ordered trusted places k numbers (audit_volume fix) old mid said added so h = h.1.1
process-ordered trusted places k numbers none_but_reuse old mid said added so h = no-entries (λ x. (x.actor ≡ 0) × OrderedBy k none_but_reuse (Ok (Run numbers)) old x.change) added h.1.1
process-ordered trusted places k numbers none_yet old mid said added so h = no-entries (λ x. (x.actor ≡ 0) × OrderedBy k none_yet (Ok (Run numbers)) old x.change) added h.1.1
process-ordered trusted places k numbers own old mid said added so h = absurd so

work-ordered : (trusted : Type 0) (places : Places) (k : Client) (c : Command) (w : Work) (old mid : Machine) (said : Result Outcome Refusal) (added : List Entry) → IsProcessOwn (own_of c) → IsRowless (Ok w)
    → Does trusted places k c (Ok w) old mid said added → AreBy k (own_of c) (Ok w) old added
work-ordered trusted places k c (Commit what) old mid said added so rowless (kept, r, commits, is, image, bytes) = commits-ordered k (own_of c) what old mid r added commits
work-ordered trusted places k c (Show q) old mid said added so rowless h = absurd rowless
work-ordered trusted places k c (Run numbers) old mid said added so rowless h = process-ordered trusted places k numbers (own_of c) old mid said added so h

-- of both parts
abbrev AreWith : Client → Behind → Own → Result Work Refusal → Machine → List Entry → Type 0
AreWith k b own w old added = AllByRecursion (λ e. (e.actor ≡ 0) × OrderedWith k b own w old e.change) added

some-with : (k : Client) (b : Behind) (own : Own) (w : Result Work Refusal) (old : Machine) (c : Change) → (b ≡ no_more → ⊥) → OrderedBy k own w old c ⊎ IsReuse b c → OrderedWith k b own w old c
some-with k no_more own w old c some h = absurd (some refl)
some-with k forces own w old c some h = h
some-with k reuses own w old c some h = h

both-ordered : (k : Client) (b : Behind) (own : Own) (w : Result Work Refusal) (old : Machine) (first later : List Entry) → (b ≡ no_more → ⊥) → AreBy k own w old first → AllByRecursion (λ e. (e.actor ≡ 0) × IsReuse b e.change) later
    → AreWith k b own w old (first ++ later)
both-ordered k b own w old [] [] some h l = tt
both-ordered k b own w old [] (e ∷ later) some h l = ((l.0.0, some-with k b own w old e.change some (inr l.0.1)), both-ordered k b own w old [] later some tt l.1)
both-ordered k b own w old (e ∷ first) later some h l = ((h.0.0, some-with k b own w old e.change some (inl h.0.1)), both-ordered k b own w old first later some h.1 l)

-- ---- put together

cause-with : (trusted : Type 0) (places : Places) (k : Client) (c : Command) (b : Behind) (old mid : Machine) (why : Refusal) (added : List Entry) → (b ≡ no_more → ⊥)
    → Works trusted places k c (work_over c (database old)) b old mid (Err why) added → CauseWith trusted places k c b old mid why added
cause-with trusted places k c no_more old mid why added some h = absurd (some refl)
cause-with trusted places k c forces old mid why added some h = (h, denied-by trusted places k c old mid why added (work_over c (database old)) h)
cause-with trusted places k c reuses old mid why added some h = h

did-with : (trusted : Type 0) (places : Places) (k : Client) (n : ℕ) (c : Command) (b : Behind) (old mid : Machine) (answer : Answer) (it : Outcome) (added : List Entry) → (b ≡ no_more → ⊥)
    → answer ≡ answer_of n it → Works trusted places k c (work_over c (database old)) b old mid (Ok it) added → DidWith trusted places k n c b old mid answer added
did-with trusted places k n c no_more old mid answer it added some is h = absurd (some refl)
did-with trusted places k n c forces old mid answer it added some is h = (it, is, h, told-by trusted places k c old mid it added (work_over c (database old)) h)
did-with trusted places k n c reuses old mid answer it added some is h = (it, is, h)

-- ---- a process that was refused

reused-same : (f : Refusal) (came : Result Outcome Refusal) (e : Refusal) (xs ys : List Event) → Reusing (Err f) xs came → Forcing came ys (Err e) → halt_by e ≡ None → e ≡ f
reused-same f came e xs ys (none, is) forcing mild = forced-same f e ys (subst (λ (r : Result Outcome Refusal). Forcing r ys (Err e)) is forcing) mild

-- the work's own refusal is answered, if no run ends
own-refused : (trusted : Type 0) (places : Places) (b : Behind) (f e : Refusal) (mid new : Machine) → (b ≡ no_more → ⊥) → EndsWith trusted places b (Err f) mid new (Err e) → halt_by e ≡ None → e ≡ f
own-refused trusted places no_more f e mid new some h mild = absurd (some refl)
own-refused trusted places forces f e mid new some (events, alone, ends, image, bytes, reason) mild = forced-same f e events ends mild
own-refused trusted places reuses f e mid new some (events, alone, (came, (xs, ys, cut, reusing, forcing)), image, bytes, reason) mild = reused-same f came e xs ys reusing forcing mild

commit-legal : (A : Type 0) (what : Change) (f : Refusal) (old mid : Machine) (added : List Entry) → why_not (drawn what old) old.core ≡ None → halt_by f ≡ None → Commits {A = A} (drawn what old) old mid (Err f) added → ⊥
commit-legal A what f old mid added may mild (inl h) = work-none (why_not (drawn what old) old.core) f may h.0
commit-legal A what f old mid added may mild (inr h) = no-end f old mid h.0 mild

answer-legal : (what : Change) (f : Refusal) (r : Result ℕ Refusal) (old mid : Machine) (added : List Entry) → why_not (drawn what old) old.core ≡ None → halt_by f ≡ None → no_said f ≡ on_ok (λ number. Said (last_of what)) r
    → Commits (drawn what old) old mid r added → ⊥
answer-legal what f (Ok number) old mid added may mild is h = absurd cc
answer-legal what f (Err x) old mid added may mild is h = commit-legal ℕ what x old mid added may (subst (λ (y : Refusal). halt_by y ≡ None) (said-same f x is) mild) h

rules-not : (node : ℕ) (v : Inv) (e : Refusal) (rules : Rules) → rules_of node v ≡ Ok rules → rules_of node v ≡ Err e → ⊥
rules-not node v e rules h k = cc

defined-not : (o : Option ℕ) (node : ℕ) (name : List ℕ) (old : Machine) (e : Refusal) → o ≡ None → IsThereOrDefined o node name old → why_not (filespace_defined node name (database old)) old.core ≡ Some e → ⊥
defined-not (Some filespace) node name old e none may why = cc
defined-not None node name old e none may why = work-none (why_not (filespace_defined node name (database old)) old.core) e may why

some-same : (o : Option ℕ) (a b : ℕ) → o ≡ Some a → o ≡ Some b → a ≡ b
some-same o a b h k = same_Some a b (sym h ∙ k)

-- a backup whose node and rules are there, and whose filespace is there or may be defined, isn't refused, unless the run ends
module _ (i : IncrementalBackup) (before after : Known) (old : Machine) (e : Refusal) (may : MayBackUp i old) where
  cause-legal : StoresNothing i before after old e → Rose before.faults after.faults
  cause-legal (inl h) = absurd (let odd : None ≡ Some may.0 = sym h.0 ∙ may.1 in cc)
  cause-legal (inr (inl (node, at, inl refuses))) =
      absurd (rules-not may.0 (database old) e may.2 may.3 (subst (λ (n : ℕ). rules_of n (database old) ≡ Err e) (some-same (node_named i.node (database old).clients.nodes) node may.0 at may.1) refuses))
  cause-legal (inr (inl (node, at, inr undefined))) =
      absurd (let same : node ≡ may.0 = some-same (node_named i.node (database old).clients.nodes) node may.0 at may.1 in
      let un : IsUndefinable may.0 i.filespace old e = subst (λ (n : ℕ). IsUndefinable n i.filespace old e) same undefined in
      defined-not (filespace_named may.0 i.filespace (database old).clients.filespaces) may.0 i.filespace old e un.0 may.4 un.1)
  cause-legal (inr (inr h)) = h.1

  backup-legal : (added : List Entry) → halt_by e ≡ None → IsRefusedSo i before after old (Err e) added → Rose before.faults after.faults
  backup-legal added mild (inl h) = cause-legal h.0
  backup-legal added mild (inr (how, halts)) = absurd (let odd : None ≡ Some how = sym mild ∙ halts in cc)

never-there : (trusted : Type 0) (places : Places) (k : Client) (work : OnTree) (f : Refusal) (old between : Machine) (first : List Entry) → IsProcessTree work → MayOn k work old → halt_by f ≡ None
    → DoesThere trusted places k work old between (Err f) first → ⊥
never-there trusted places k (write w) f old between first so may mild h = so
never-there trusted places k (erase e) f old between first so may mild h = so
never-there trusted places k (restore r) f old between first so may mild h = so
never-there trusted places k (back_up i) f old between first so may mild (inl (before, after, turns, (ran, are, image, keeps, have, why))) = may.1.1 before after turns (backup-legal i before after old f may.0 first mild why)
never-there trusted places k (back_up i) f old between first so may mild (inr (missing, kept, is, still, none)) = (let there = may.1.0 in omega (arith, missing, there))

-- no count of faults rose
abbrev NoneRose : (old mid : Machine) → Type 0
NoneRose old mid = (file : ℕ) → RoseFrom old mid file → ⊥

-- the one state comes behind the other, with what it had made
abbrev IsBehind : (between mid : Machine) → Type 0
IsBehind between mid = Onward between mid × Grows between.core mid.core

reaches-on : (old between mid : Machine) → IsBehind between mid → ReachesBound old between → ReachesBound old mid
reaches-on old between mid on last =
    let more : (database between).number ≤ (database mid).number = grown-number between.core mid.core on.1 in
    omega (arith, last, more)

some-not : (f : Refusal) (how : Halt) → halt_by f ≡ None → halt_by f ≡ Some how → ⊥
some-not f how mild halts = (let odd : None ≡ Some how = sym mild ∙ halts in cc)

module _ (old between mid : Machine) (on : IsBehind between mid) (rose : NoneRose old mid) (f : Refusal) (mild : halt_by f ≡ None) where
  within-bounds : IsBounded old between f ⊎ ((how : Halt) × (halt_by f ≡ Some how)) → StaysWithin old mid → ⊥
  within-bounds (inl bounded) may = may (reaches-on old between mid on bounded.1)
  within-bounds (inr halts) may = some-not f halts.0 mild halts.1

  made-so : (after : Option ℕ) → IsUnmade after old between f → MayBackUpDatabase after old → ⊥
  made-so after (inl no_begin) may = work-none (illegal (begins after old.core) old.core) f may.0 no_begin
  made-so after (inr (inl no_end)) may = work-none (end_refused after old.core) f may.1 no_end
  made-so after (inr (inr fault)) may = rose old.core.next_file (rose-on old between mid old.core.next_file fault on.0)

  database-backed : IsUnmade None old between f ⊎ ((how : Halt) × (halt_by f ≡ Some how)) → MayBackUpDatabase None old → ⊥
  database-backed (inl unmade) may = made-so None unmade may
  database-backed (inr halts) may = some-not f halts.0 mild halts.1

  -- the one that is followed is the newest
  behind-not : (file : ℕ) → IsUnmadeBehind file old between f → is_of_run file old.core ≡ true → is_near file old.core ≡ true → MayBackUpDatabase (Some file) old → ⊥
  behind-not file (inl (is, other)) of_run near may = true≢false (sym of_run ∙ other)
  behind-not file (inr (inl (is, far))) of_run near may = true≢false (sym near ∙ far)
  behind-not file (inr (inr unmade)) of_run near may = made-so (Some file) unmade may

  followed-so : IsUnfollowed old between f ⊎ ((how : Halt) × (halt_by f ≡ Some how)) → MayFollow old → ⊥
  followed-so (inl (inl (is, none))) may = (let odd : None ≡ Some may.0 = sym none ∙ may.1 in cc)
  followed-so (inl (inr (file, newest, behind))) may =
      let same : file ≡ may.0 = some-same (newest_file (backup_lines (database old).backups)) file may.0 newest may.1 in
      behind-not may.0 (subst (λ (n : ℕ). IsUnmadeBehind n old between f) same behind) may.2 may.3 may.4
  followed-so (inr halts) may = some-not f halts.0 mild halts.1

  audited-so : (fix : Bool) (file : ℕ) → IsUnaudited fix file old between f ⊎ ((how : Halt) × (halt_by f ≡ Some how)) → MayAudit fix file old mid → ⊥
  audited-so fix file (inl (inl missing)) may = true≢false (sym may.0 ∙ missing.1)
  audited-so fix file (inl (inr (fixes, bounded))) may = may.1 fixes (reaches-on old between mid on bounded.1)
  audited-so fix file (inr halts) may = some-not f halts.0 mild halts.1

  copied-so : (places : Places) (primary copy : ℕ) → IsUncopied places primary copy old f ⊎ ((how : Halt) × (halt_by f ≡ Some how)) → MayCopy places primary copy old → ⊥
  copied-so places primary copy (inl (inl (is, kinds))) may = true≢false (sym may.0 ∙ kinds)
  copied-so places primary copy (inl (inr (full, bound))) may = may.1 bound
  copied-so places primary copy (inr halts) may = some-not f halts.0 mild halts.1

  stuck-so : (places : Places) (Did : List Event → Type 0) → IsStuck places Did old f → IsOpen places Did old → ⊥
  stuck-so places Did stuck may = may stuck.1

  lost-so : (file : ℕ) → CannotBeLost file old f → CanBeLost file old → ⊥
  lost-so file (inl none) may = (let odd : ◌≡◌ {A = Result Change Refusal} (Err f) (Ok may.0) = sym none ∙ may.1 in cc)
  lost-so file (inr (c, is, why)) may =
      let both : ◌≡◌ {A = Result Change Refusal} (Ok c) (Ok may.0) = sym is ∙ may.1 in
      let same : c ≡ may.0 = cc in
      (let odd : None ≡ Some f = sym may.2 ∙ ap (λ (x : Change). why_not x old.core) (sym same) ∙ why in cc)

  moved-so : (places : Places) (mover : Mover) (numbers : List ℕ) → HasMoveReason places numbers mover old f ⊎ ((how : Halt) × (halt_by f ≡ Some how)) → MayMove places numbers mover old → ⊥
  moved-so places data_mover numbers (inl (inl (is, none))) may = true≢false (sym may.0 ∙ none)
  moved-so places data_mover numbers (inl (inr (inl (named, barred)))) may = (let odd : ◌≡◌ {A = Result (Unit {0}) Refusal} (Ok tt) (Err f) = sym (may.1 named) ∙ barred in cc)
  moved-so places data_mover numbers (inl (inr (inr stuck))) may = stuck-so places (IsDataMove (the_number numbers) (the_second numbers)) stuck may.2
  moved-so places reclaimer numbers (inl (inl (is, none))) may = true≢false (sym may.0 ∙ none)
  moved-so places reclaimer numbers (inl (inr stuck)) may = stuck-so places (IsReclamation (the_number numbers) (min (the_second numbers) 100)) stuck may.1
  moved-so places migrator numbers (inl (inl without)) may = next-not (the_number numbers) (database old) f may.0 without
  moved-so places migrator numbers (inl (inr stuck)) may = stuck-so places (IsPoolMigration (the_number numbers) (min (the_second numbers) 100)) stuck may.1
  moved-so places all_migrator numbers (inl stuck) may = stuck-so places IsAllMigration stuck may
  moved-so places pool_restorer numbers (inl (inl none)) may = true≢false (sym may.0 ∙ none.1)
  moved-so places pool_restorer numbers (inl (inr stuck)) may = stuck-so places (RestoresPool (the_number numbers)) stuck may.1
  moved-so places volume_restorer numbers (inl (inl barred)) may = lost-so (the_number numbers) barred may.0
  moved-so places volume_restorer numbers (inl (inr stuck)) may = stuck-so places (RestoresVolume (the_number numbers)) stuck may.1
  moved-so places mover numbers (inr halts) may = some-not f halts.0 mild halts.1

  emptied-so : (filespace : ℕ) → (IsAbsent (has_filespace filespace (database old)) f ⊎ IsBounded old between f) ⊎ ((how : Halt) × (halt_by f ≡ Some how)) → (has_filespace filespace (database old) ≡ true) × StaysWithin old mid → ⊥
  emptied-so filespace (inl (inl absent)) may = true≢false (sym may.0 ∙ absent.1)
  emptied-so filespace (inl (inr bounded)) may = may.1 (reaches-on old between mid on bounded.1)
  emptied-so filespace (inr halts) may = some-not f halts.0 mild halts.1

  volume-so : (file : ℕ) → (IsAbsent (has_volume file (database old)) f ⊎ IsBounded old between f) ⊎ ((how : Halt) × (halt_by f ≡ Some how))
      → (has_volume file (database old) ≡ true) × StaysWithin old mid → ⊥
  volume-so file (inl (inl absent)) may = true≢false (sym may.0 ∙ absent.1)
  volume-so file (inl (inr bounded)) may = may.1 (reaches-on old between mid on bounded.1)
  volume-so file (inr halts) may = some-not f halts.0 mild halts.1

  never-own : (trusted : Type 0) (places : Places) (k : Client) (own : Own) (numbers : List ℕ) (first : List Entry) → IsProcessOwn own → MayOwn places k numbers own old mid
      → DoesOwn trusted places k numbers own old between (Err f) first → ⊥
  never-own trusted places k (validate set) numbers first so may h = so
  never-own trusted places k (put p) numbers first so may h = so
  never-own trusted places k (get g) numbers first so may h = so
  never-own trusted places k checkpoint numbers first so may h = so
  never-own trusted places k (on_tree work) numbers first so may h = never-there trusted places k work f old between first so may mild h
  never-own trusted places k expire numbers first so may (kept, (ran, are, image, bytes, why)) = within-bounds why.at_all may
  never-own trusted places k empty_filespace numbers first so may (kept, (ran, are, image, bytes, why)) = emptied-so (the_number numbers) why.at_all may
  never-own trusted places k empty_volume numbers first so may (kept, (ran, are, image, bytes, why)) = volume-so (the_number numbers) why.at_all may
  never-own trusted places k back_up_database numbers first so may (kept, (ran, are, image, bytes, why)) = database-backed why.at_all may
  never-own trusted places k back_up_since numbers first so may (kept, (ran, are, image, bytes, why)) = followed-so why.at_all may
  never-own trusted places k (delete_history to) numbers first so may (kept, (ran, are, image, bytes, why)) = within-bounds why.at_all may
  never-own trusted places k (audit_volume fix) numbers first so may (kept, (ran, are, image, bytes, why)) = audited-so fix (the_number numbers) why.at_all may
  never-own trusted places k back_up_pool numbers first so may (kept, (ran, are, image, bytes, why)) = copied-so places (the_number numbers) (the_second numbers) why.copying may
  never-own trusted places k (moves mover) numbers first so may (kept, (ran, are, image, bytes, why)) = moved-so places mover numbers why.copying may
  never-own trusted places k none_but_reuse numbers first so may (kept, (inl is, none, image, bytes)) = (let odd : ◌≡◌ {A = Result Outcome Refusal} (Err f) (Ok (Said (Reused 0))) = is in cc)
  never-own trusted places k none_but_reuse numbers first so may (kept, (inr (e, is, ends), none, image, bytes)) = no-end e old between ends (subst (λ (x : Refusal). halt_by x ≡ None) (said-same f e is) mild)
  never-own trusted places k own numbers first so may h = may

module _ (trusted : Type 0) (places : Places) (k : Client) (c : Command) (old : Machine) where
  -- work that is legal isn't refused
  never-refused : (w : Result Work Refusal) (f : Refusal) (between mid : Machine) (first : List Entry) → IsProcessOwn (own_of c) → IsRowless w → IsBehind between mid → NoneRose old mid → MayBy places k (own_of c) w old mid
      → halt_by f ≡ None → Does trusted places k c w old between (Err f) first → ⊥
  never-refused (Err why) f between mid first so rowless on rose may mild h = may
  never-refused (Ok (Commit what)) f between mid first so rowless on rose may mild (kept, r, commits, is, image, bytes) = answer-legal what f r old between first may mild is commits
  never-refused (Ok (Show q)) f between mid first so rowless on rose may mild h = rowless
  never-refused (Ok (Run numbers)) f between mid first so rowless on rose may mild h = never-own old between mid on rose f mild trusted places k (own_of c) numbers first so may h

-- what comes behind work comes behind it
ends-behind : (trusted : Type 0) (places : Places) (b : Behind) (said result : Result Outcome Refusal) (between mid : Machine) → (b ≡ no_more → ⊥) → EndsWith trusted places b said between mid result → IsBehind between mid
ends-behind trusted places no_more said result between mid some h = absurd (some refl)
ends-behind trusted places forces said result between mid some (events, alone, ends, image, bytes, reason) = alone-grows trusted places events between mid alone
ends-behind trusted places reuses said result between mid some (events, alone, ends, image, bytes, reason) = alone-grows trusted places events between mid alone

-- what comes behind this work, which was done, was refused so, and the run goes on
abbrev BehindIn : (trusted : Type 0) → Places → Client → (n : ℕ) → Command → Result Work Refusal → Behind → (old mid : Machine) → Answer → Type 0
BehindIn trusted places k n c w b old mid answer =
    (why : Refusal) × (answer ≡ refusal n why) × (halt_by why ≡ None) × (it : Outcome) × (between : Machine) × (first : List Entry)
    × Does trusted places k c w old between (Ok it) first × EndsWith trusted places b (Ok it) between mid (Err why)

-- where a result is a refusal by which no run ends, of work that is legal, what comes behind it was refused
abbrev Blames : (trusted : Type 0) → Places → Client → (n : ℕ) → Command → Result Work Refusal → Behind → (old mid : Machine) → Answer → Result Outcome Refusal → Type 0
Blames trusted places k n c w b old mid answer said =
    (why : Refusal) → said ≡ Err why → answer ≡ refusal n why → halt_by why ≡ None → NoneRose old mid → MayBy places k (own_of c) w old mid → BehindIn trusted places k n c w b old mid answer

module _ (trusted : Type 0) (places : Places) (k : Client) (n : ℕ) (c : Command) (own : IsProcessOwn (own_of c)) (old mid : Machine) (answer : Answer) where
  -- what comes behind it was refused, unless the work wasn't legal
  refused-behind : (b : Behind) (w : Result Work Refusal) (why : Refusal) (said : Result Outcome Refusal) (between : Machine) (first : List Entry) → (b ≡ no_more → ⊥) → IsRowless w → answer ≡ refusal n why → halt_by why ≡ None
      → Does trusted places k c w old between said first → EndsWith trusted places b said between mid (Err why) → NoneRose old mid → MayBy places k (own_of c) w old mid
      → BehindIn trusted places k n c w b old mid answer
  refused-behind b w why (Ok it) between first some rowless is mild does ends rose may = (why, is, mild, it, between, first, does, ends)
  refused-behind b w why (Err f) between first some rowless is mild does ends rose may =
      let same : why ≡ f = own-refused trusted places b f why between mid some ends mild in
      absurd (never-refused trusted places k c old w f between mid first own rowless (ends-behind trusted places b (Err f) (Err why) between mid some ends) rose may (subst (λ (x : Refusal). halt_by x ≡ None) same mild) does)

  with-parts : (b : Behind) (w : Work) (said : Result Outcome Refusal) (added : List Entry) → (b ≡ no_more → ⊥) → IsRowless (Ok w) → WorksWith trusted places k c (Ok w) b old mid said added
      → AreWith k b (own_of c) (Ok w) old added × Blames trusted places k n c (Ok w) b old mid answer said × HaveItems (own_of c) (Ok w) mid added
  with-parts b w said added some rowless h = (
    subst (λ (l : List Entry). AreWith k b (own_of c) (Ok w) old l) (sym h.parts)
        (both-ordered k b (own_of c) (Ok w) old h.first h.later some (work-ordered trusted places k c w old h.mid h.said h.first own rowless h.does) h.reused),
    λ why same is mild rose may. refused-behind b (Ok w) why h.said h.mid h.first some rowless is mild h.does (subst (λ (r : Result Outcome Refusal). EndsWith trusted places b h.said h.mid mid r) same h.ends) rose may,
    subst (λ (l : List Entry). HaveItems (own_of c) (Ok w) mid l) (sym h.parts)
        (both-items (own_of c) (Ok w) b mid h.first h.later (work-items trusted places k c w old h.mid mid h.said h.first own h.does (behind-bytes trusted places b h.said said h.mid mid some h.ends)) h.reused),
  )

  given-parts : (b : Behind) (given : Refusal) (said : Result Outcome Refusal) (added : List Entry) → IsKept k × Tells (Err given) old mid said added
      → AreWith k b (own_of c) (Err given) old added × Blames trusted places k n c (Err given) b old mid answer said × HaveItems (own_of c) (Err given) mid added
  given-parts b given said added h = (
    no-entries (λ e. (e.actor ≡ 0) × OrderedWith k b (own_of c) (Err given) old e.change) added h.1.1,
    λ why same is mild rose may. absurd may,
    no-entries (λ e. ItemsBy (own_of c) (Err given) mid e.change) added h.1.1,
  )

  parts : (b : Behind) (w : Result Work Refusal) (said : Result Outcome Refusal) (added : List Entry) → (b ≡ no_more → ⊥) → IsRowless w → Works trusted places k c w b old mid said added
      → AreWith k b (own_of c) w old added × Blames trusted places k n c w b old mid answer said × HaveItems (own_of c) w mid added
  parts no_more w said added some rowless h = absurd (some refl)
  parts forces (Err given) said added some rowless h = given-parts forces given said added h
  parts reuses (Err given) said added some rowless h = given-parts reuses given said added h
  parts forces (Ok w) said added some rowless h = with-parts forces w said added some rowless h
  parts reuses (Ok w) said added some rowless h = with-parts reuses w said added some rowless h

module _ (trusted : Type 0) (places : Places) (k : Client) (n : ℕ) (c : Command) where
  answered-done : (b : Behind) (old mid : Machine) (answer : Answer) → answer.tally.refused ≡ 0 → IsAnsweredWith trusted places k n c b old mid answer
  answered-done no_more old mid answer h = h
  answered-done forces old mid answer h = h
  answered-done reuses old mid answer h = inl h

  answered-behind : (b : Behind) (old mid : Machine) (answer : Answer) → (b ≡ no_more → ⊥)
      → BehindIn trusted places k n c (work_over c (database old)) b old mid answer → IsAnsweredWith trusted places k n c b old mid answer
  answered-behind no_more old mid answer some h = absurd (some refl)
  answered-behind forces old mid answer some (why, shown, mild, it, between, first, does, (events, alone, ends, image, bytes, reason)) = absurd (forced-done it why events ends mild)
  answered-behind reuses old mid answer some (why, shown, mild, it, between, first, does, (events, alone, ends, image, bytes, inl bounded)) =
      inr (why, shown, it, between, first, does, (events, alone, ends, image, bytes, inl bounded), bounded)
  answered-behind reuses old mid answer some (why, shown, mild, it, between, first, does, (events, alone, ends, image, bytes, inr halts)) = absurd (some-not why halts.0 mild halts.1)

module _ (trusted : Type 0) (places : Places) (k : Client) (n : ℕ) (c : Command) (p : IsProcess c) (old mid : Machine) (answer : Answer) (added : List Entry) where
  held-with : (b : Behind) (said : Result Outcome Refusal) → (b ≡ no_more → ⊥) → Works trusted places k c (work_over c (database old)) b old mid said added
      → AreWith k b (own_of c) (work_over c (database old)) old added → Blames trusted places k n c (work_over c (database old)) b old mid answer said
      → HaveItems (own_of c) (work_over c (database old)) mid added → IsShown n said answer → HeldWith trusted places k n c b old mid answer added
  held-with b (Ok it) some works are blames items shown = record {
    journal = are;
    queries = rows-none n (database old) (work_over c (database old)) answer (over-rowless c (database old) p);
    bytes = bytes-none trusted n (own_of c) (work_over c (database old)) old mid answer p.own;
    items = items;
    causes = λ one. absurd (zero-one answer.tally.refused (came-refused n it answer shown) one);
    done = λ none. did-with trusted places k n c b old mid answer it added some shown works;
    complete = λ rose may. answered-done trusted places k n c b old mid answer (came-refused n it answer shown);
  }
  held-with b (Err e) some works are blames items shown = record {
    journal = are;
    queries = rows-none n (database old) (work_over c (database old)) answer (over-rowless c (database old) p);
    bytes = bytes-none trusted n (own_of c) (work_over c (database old)) old mid answer p.own;
    items = items;
    causes = λ one. (e, shown.1, cause-with trusted places k c b old mid e added some works);
    done = λ none. absurd (zero-one answer.tally.refused none (one-refused n e answer shown.1));
    complete = λ rose may. answered-behind trusted places k n c b old mid answer some (blames e refl shown.1 shown.0 rose may);
  }

  process-held : (b : Behind) (said : Result Outcome Refusal) → (b ≡ no_more → ⊥) → Works trusted places k c (work_over c (database old)) b old mid said added → IsShown n said answer
      → HeldWith trusted places k n c b old mid answer added
  process-held b said some works shown =
      let h = parts trusted places k n c p.own old mid answer b (work_over c (database old)) said added some (over-rowless c (database old) p) works in
      held-with b said some works h.0 h.1 h.2 shown

-- what holds of a command behind whose work nothing comes, with what may have come
module _ (trusted : Type 0) (places : Places) (k : Client) (n : ℕ) (c : Command) (old mid : Machine) (answer : Answer) (added : List Entry) where
  plain-held : HeldBy trusted places k n (own_of c) (work_over c (database old)) old mid answer added → HeldWith trusted places k n c no_more old mid answer added
  plain-held h = record { journal = h.journal; queries = h.queries; bytes = h.bytes; items = h.items; causes = h.causes; done = h.done; complete = λ rose may. h.complete rose may }

  works-held : (said : Result Outcome Refusal) → Works trusted places k c (work_over c (database old)) (behind c) old mid said added → IsShown n said answer
      → HeldWith trusted places k n c (behind c) old mid answer added
  works-held said h shown = elim (kind c) as (λ _. HeldWith trusted places k n c (behind c) old mid answer added) [
    | inl it ↦ subst (λ (b : Behind). HeldWith trusted places k n c b old mid answer added) (sym it.0)
        (plain-held (does-held trusted places k n old mid answer added c (work_over c (database old)) said it.1
        (subst (λ (b : Behind). Works trusted places k c (work_over c (database old)) b old mid said added) it.0 h) shown))
    | inr it ↦ process-held trusted places k n c it old mid answer added (behind c) said it.some h shown
  ]

  comes-held : (said : Result Outcome Refusal) → Comes trusted places k c old mid said added → IsShown n said answer → HeldWith trusted places k n c (behind c) old mid answer added
  comes-held said (inl (kept, e, is, ends, none, image, bytes), full) shown =
      let by : IsShown n (Err e) answer = subst (λ (r : Result Outcome Refusal). IsShown n r answer) is shown in
      absurd (no-end e old mid ends by.0)
  comes-held said (inr works, full) shown = works-held said works shown

-- ---- a line

module _ (trusted : Type 0) (places : Places) (k : Client) (n : ℕ) (old mid : Machine) (answer : Answer) (added : List Entry) where
  says-held : (line : Line) (why : Option Refusal) → Says trusted places k n line old answer why added mid → Holds trusted places k n line old mid answer added
  says-held comment why (kept, is, w, none, same) = record {
    journal = no-entries (λ x. (x.actor ≡ 0) × orders k comment old x.change) added none;
    queries = tt;
    bytes = tt;
    items = no-entries (λ x. ItemsOf comment old mid x.change) added none;
    causes = λ one. absurd (zero-one answer.tally.refused (ap (λ (a : Answer). a.tally.refused) is) one);
    done = λ zero. none;
    complete = λ rose may. ap (λ (a : Answer). a.tally.refused) is;
    none_fails = says-none trusted places k n comment old mid answer why added (kept, is, w, none, same);
    trees = kept;
  }
  says-held (refused_line given) why (kept, is, w, none, same) = record {
    journal = no-entries (λ x. (x.actor ≡ 0) × orders k (refused_line given) old x.change) added none;
    queries = tt;
    bytes = tt;
    items = no-entries (λ x. ItemsOf (refused_line given) old mid x.change) added none;
    causes = λ one. (given, is, refl);
    done = λ zero. absurd (zero-one answer.tally.refused zero (one-refused n given answer is));
    complete = λ rose may. absurd may;
    none_fails = says-none trusted places k n (refused_line given) old mid answer why added (kept, is, w, none, same);
    trees = kept;
  }
  says-held (asks c) why (said, comes, ends) =
      let h = comes-held trusted places k n c old mid answer added said comes (shown-of n said answer why ends) in
      record {
        journal = h.journal;
        queries = h.queries;
        bytes = h.bytes;
        items = h.items;
        causes = h.causes;
        done = h.done;
        complete = h.complete;
        none_fails = says-none trusted places k n (asks c) old mid answer why added (said, comes, ends);
        trees = comes-trees trusted places k c old mid added said comes;
      }

-- what holds of a line that was answered so
pub replies-hold : (trusted : Type 0) (places : Places) (k : Client) (n : ℕ) (line : Line) (old new : Machine) (answer : Answer) (why : Option Refusal)
    → (r : Replies trusted places k n line old answer why new) → Holds trusted places k n line old r.mid answer r.added
replies-hold trusted places k n line old new answer why r = says-held trusted places k n old r.mid answer r.added line why r.says
