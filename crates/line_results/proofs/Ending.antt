-- A command ends the run by a fault, a full run or want of memory alone.
use Rattle.std.proofs.Common.{◌≡◌, ◌⊎◌, inl, inr, ℕ, ◌+◌, ◌^◌, nat_le, nat_lt, Bool, true, false, List, [], ◌∷◌, ◌++◌, length, Option, None, Some, Result, Ok, Err, refl, sym, ap, subst, ◌∙◌}
use Rattle.std.proofs.lemmas.Bool.{and_parts}
use Rattle.std.specs.List.{AllByRecursion}
use Rattle.kinds.specs.Refusals.{bad_value, unless}
use Rattle.kinds.specs.declared.change.ObjectChange.TheVariants as client
use Rattle.kinds.specs.declared.change.DefineOrDelete.TheVariants as two
use Rattle.kinds.specs.declared.change.PolicyChange.TheVariants as policy
use Rattle.kinds.specs.declared.change.PoolChange.TheVariants as store
use Rattle.kinds.specs.declared.change.Verb.TheVariants as verb
use Rattle.kinds.specs.declared.refusal.Refusal.{Refusal}
use Rattle.kinds.specs.declared.refusal.Refusal.TheVariants as refused
use Rattle.choosers.specs.declared.rule.Rule.{Rule}
use Rattle.choosers.specs.Rules.{class_of}
use Rattle.client_plan.specs.Classes.{destination, has_class, is_left_out}
use Rattle.entries.specs.EntryForm.{entry as entry_form}
use Rattle.entries.specs.declared.change.Change.{Change}
use Rattle.entries.specs.declared.change.Change.TheVariants as change
use Rattle.entries.specs.declared.entry.Entry.{Entry}
use Rattle.inventory_rows.specs.object_rows.Names.{filespace_named, node_named}
use Rattle.inventory_rows.specs.policy_domains.Changes.{after}
use Rattle.inventory_rows.specs.version_groups.Entries.{on_ok}
use Rattle.inventory_rows.specs.version_groups.declared.versions.Version.{Version}
use Rattle.inventory_rows.specs.Search.{is_primary}
use Rattle.inventory_rows.specs.State.{Inv}
use Rattle.inventory_rules.specs.Transactions.{refused as refused_change}
use Rattle.inventory_work.specs.Rules.{rules_of}
use Rattle.inventory_work.specs.declared.lines.Rules.{Rules}
use Rattle.inventory_answers.specs.Answered.{answered}
use Rattle.inventory_answers.specs.declared.query.Query.{Query}
use Rattle.inventory_answers.specs.declared.reply.Answer as rows
use Rattle.command_words.specs.Reading.{◌>>=◌}
use Rattle.admin_words.specs.declared.command.Command.{Command}
use Rattle.admin_words.specs.declared.files.FileGet.{FileGet}
use Rattle.admin_words.specs.declared.files.FilePut.{FilePut}
use Rattle.admin_commands.specs.Orders.{needs, work_of}
use Rattle.admin_commands.specs.declared.work.Work.{Work}
use Rattle.admin_commands.specs.declared.work.Work.TheVariants.{Commit, Show, Run}
use Rattle.reports.specs.declared.shown.Shown.TheVariants.{Done, Stored}
use Rattle.script_loop.specs.declared.ends.Halt.{Halt}
use Rattle.steps.specs.Events.{has_number}
use Rattle.machine.proofs.Elsewhere.{append-all, foremost-all, unless-all}
use Rattle.machine.specs.Causes.{change_illegal, change_refused, is_plain, listed, new_refused}
use Rattle.machine.specs.Changes.{filled}
use Rattle.machine.specs.Machine.{IsPlaced, Places, can_place_new, placing_refused}
use Rattle.machine.specs.State.{Core, Machine, Place, inventory, sight}
use Rattle.command_steps.specs.sessions.Homes.{home_at, home_in, home_of, home_under}
use Rattle.command_steps.specs.sessions.declared.getting.FileRead.{FileRead}
use Rattle.command_steps.specs.sessions.declared.homes.Home.{Home}
use Rattle.command_steps.specs.Answers.{halt_by}
use Rattle.command_steps.specs.Behind.{Behind, behind, forces, no_more, reuses}
use Rattle.command_steps.specs.Clients.{Client, Known}
use Rattle.command_steps.specs.Owns.{OnTree, Own, back_up, checkpoint, erase, get, last_of, none_yet, on_tree, own_of, put, restore, validate, write}
use Rattle.command_steps.specs.Writing.{Erases, Writes, bytes_of}
use Rattle.command_steps.specs.declared.outcome.Outcome.{Outcome}
use Rattle.command_steps.specs.declared.outcome.Outcome.TheVariants.{Read, Rows, Said}
use Rattle.line_results.specs.Commands.{Comes, Does, DoesOn, DoesOwn, DoesThere, Works, answers_to, drawn, validated, work_over}
use Rattle.line_results.specs.Files.{Checkpoints, Gets, GetsOf, GetsUnder, IsPlacedIn, Puts, PutsBy, PutsHome, PutsOf, PutsUnder, ShowsFound, Stores, StoresAt, StoresBy, active_at, backed_up, filespace_defined, why_no_place}
use Rattle.line_results.specs.Resting.{Commits, EndsNoRun, EndsRun, database, why_not}
use Rattle.line_results.proofs.Processing.{IsPlainOwn, IsPlainTree, kind}
use Rattle.line_results.proofs.Mild.{IsMild, is_common, m-after, m-if, m-on, m-refused, mild-err}
use Rattle.line_results.proofs.Needs.{IsPlainWork, work-plain}
use Rattle.line_results.proofs.Runs.{ends-since}
use Rattle.line_results.proofs.Unfound.{answered-found, found-mild, rules-found}

-- ---- queries

m-rules : (node : ℕ) (v : Inv) → IsMild (rules_of node v)
m-rules node v = found-mild (rules_of node v) (rules-found node v)

pub m-answered : (q : Query) (v : Inv) → IsMild (answered q v)
m-answered q v = found-mild (answered q v) (answered-found q v)

m-then : {A B : Type 0} (r : Result A Refusal) (f : A → Result B Refusal) → IsMild r → ((x : A) → IsMild (f x)) → IsMild (r >>= f)
m-then (Ok x) f h k = k x
m-then (Err e) f h k = h

m-answers : (queries : List Query) (v : Inv) → IsMild (answers_to queries v)
m-answers [] v = tt
m-answers (q ∷ queries) v =
    m-then (answered q v) (λ first. answers_to queries v >>= λ others. Ok (first ∷ others)) (m-answered q v)
    (λ first. m-then (answers_to queries v) (λ others. Ok (first ∷ others)) (m-answers queries v) (λ others. tt))

-- ---- work

m-plain : (w : Result Work Refusal) → IsPlainWork w → IsMild w
m-plain (Ok (Commit what)) h = tt
m-plain (Ok (Show q)) h = tt
m-plain (Ok (Run numbers)) h = tt
m-plain (Err why) h = h

m-work : (c : Command) (v : Inv) → IsMild (work_over c v)
m-work c v = m-then (answers_to (needs c) v) (λ answers. work_of c answers) (m-answers (needs c) v) (λ answers. m-plain (work_of c answers) (work-plain c answers))

-- the change that a command asks for is a common one
abbrev IsCommonWork : Result Work Refusal → Type 0
IsCommonWork (Ok (Commit what)) = is_common what ≡ true
IsCommonWork _ = Unit {0}

c-plain : (w : Result Work Refusal) → IsPlainWork w → IsCommonWork w
c-plain (Ok (Commit what)) h = (and_parts (is_plain what) (is_common what) h).1
c-plain (Ok (Show q)) h = tt
c-plain (Ok (Run numbers)) h = tt
c-plain (Err why) h = tt

c-then : (r : Result (List rows.Answer) Refusal) (f : List rows.Answer → Result Work Refusal) → ((x : List rows.Answer) → IsCommonWork (f x)) → IsCommonWork (r >>= f)
c-then (Ok x) f h = h x
c-then (Err e) f h = tt

c-work : (c : Command) (v : Inv) → IsCommonWork (work_over c v)
c-work c v = c-then (answers_to (needs c) v) (λ answers. work_of c answers) (λ answers. c-plain (work_of c answers) (work-plain c answers))

-- ---- changes

filled-common : (next_file : ℕ) (v : Inv) (c : Change) → is_common c ≡ true → is_common (filled next_file v c) ≡ true
filled-common next_file v (change.Pool (store.Volume verb.Define name pool file capacity access)) h = refl
filled-common next_file v (change.Object (client.Filespace two.Define node name filespace)) h = refl
filled-common next_file v c h = h

m-listed : (o : Option Refusal) → ((e : Refusal) → o ≡ Some e → halt_by e ≡ None) → AllByRecursion (λ x. halt_by x ≡ None) (listed o)
m-listed None h = tt
m-listed (Some e) h = (h e refl, tt)

pub why-mild : (c : Change) (core : Core) (e : Refusal) → is_common c ≡ true → why_not c core ≡ Some e → halt_by e ≡ None
why-mild c core e is h =
    foremost-all (λ x. halt_by x ≡ None) (change_refused 0 (Some c) (sight 0 core))
    (append-all (λ x. halt_by x ≡ None) (change_illegal c (sight 0 core)) _
    (m-listed (refused_change (sight 0 core).journal c (inventory core)) (λ f at. m-refused (sight 0 core).journal c (inventory core) f is at))
    (unless-all (λ x. halt_by x ≡ None) (nat_le (length (entry_form.spell (record { actor = 0; change = c }))) (2 ^ 24)) refused.RecordFull refl)) e h

-- ---- what ends the run

-- a refusal that ends the run
abbrev IsEnd : Refusal → Halt → Type 0
IsEnd e how = halt_by e ≡ Some how

not-end : (e : Refusal) (how : Halt) → halt_by e ≡ None → halt_by e ≡ Some how → ⊥
not-end e how none h = let odd : None ≡ Some how = sym none ∙ h in cc

commits-end : (A : Type 0) (c : Change) (e : Refusal) (how : Halt) (old new : Machine) (added : List Entry) → is_common c ≡ true → Commits {A = A} c old new (Err e) added → halt_by e ≡ Some how → EndsRun old new e
commits-end A c e how old new added is (inl (why, none)) h = absurd (not-end e how (why-mild c old.core e is why) h)
commits-end A c e how old new added is (inr (ends, rest)) h = ends

-- ---- results

abbrev number_error : Result ℕ Refusal → Refusal
number_error (Ok number) = refused.Memory
number_error (Err e) = e

abbrev no_number : Refusal → Result ℕ Refusal
no_number e = Err e

abbrev file_error : Result FileRead Refusal → Refusal
file_error (Ok file) = refused.Memory
file_error (Err e) = e

abbrev no_file : Refusal → Result FileRead Refusal
no_file e = Err e

abbrev outcome_error : Result Outcome Refusal → Refusal
outcome_error (Ok it) = refused.Memory
outcome_error (Err e) = e

abbrev no_outcome : Refusal → Result Outcome Refusal
no_outcome e = Err e

on-err : {A : Type 0} (f : A → Outcome) (answer : Result A Refusal) (e : Refusal) → on_ok f answer ≡ no_outcome e → (x : Refusal) × (answer ≡ Err x) × (x ≡ e)
on-err f (Ok x) e h = absurd cc
on-err f (Err x) e h = (x, refl, ap outcome_error h)

-- ---- a PUT

number-mild : (e : Refusal) → has_number (40 ∷ 41 ∷ 50 ∷ []) e ≡ false → halt_by e ≡ None
number-mild (refused.LogFault file count) h = absurd cc
number-mild refused.RunFull h = absurd cc
number-mild refused.Memory h = absurd cc
number-mild e h = refl

m-placing : (can : Bool) (Is : Result Place Refusal → Type 0) (placed : Result Place Refusal) → ((e : Refusal) → Is (Err e) → halt_by e ≡ None) → IsPlaced can Is placed
    → AllByRecursion (λ x. halt_by x ≡ None) (placing_refused can placed)
m-placing true Is (Ok place) f h = tt
m-placing true Is (Err e) f h = (f e h, tt)
m-placing false Is placed f h = tt

m-home-at : (node : ℕ) (class : List ℕ) (pool : Option ℕ) → IsMild (home_at node class pool)
m-home-at node class None = refl
m-home-at node class (Some pool) = tt

m-home-under : (node : ℕ) (rules : Rules) (class : Option (List ℕ)) → IsMild (home_under node rules class)
m-home-under node rules None = refl
m-home-under node rules (Some class) = m-home-at node class (destination rules class)

m-home-in : (node : ℕ) (rules : Rules) (default : Option (List ℕ)) (choice : List Rule) (path : List ℕ) → IsMild (home_in node rules default choice path)
m-home-in node rules None choice path = refl
m-home-in node rules (Some default) choice path = m-home-under node rules (class_of (has_class rules.classes) default choice path)

m-home : (node : ℕ) (rules : Rules) (choice : List Rule) (path : List ℕ) → IsMild (home_of node rules choice path)
m-home node rules choice path = m-if (is_left_out choice path) (Err bad_value) (home_in node rules rules.default_class choice path) refl (m-home-in node rules rules.default_class choice path)

module _ (places : Places) (goes_on : EndsNoRun places) (choice : List Rule) (p : FilePut) (e : Refusal) (how : Halt) (is : halt_by e ≡ Some how) where
  mild-not : (f : Refusal) → no_number e ≡ no_number f → halt_by f ≡ None → ⊥
  mild-not f same mild = not-end e how (subst (λ (x : Refusal). halt_by x ≡ None) (sym (ap number_error same)) mild) is

  no-place-mild : (pool size : ℕ) (c : Core) (placed : Result Place Refusal) (f : Refusal) → IsPlacedIn places pool size c placed → why_no_place pool size c placed ≡ Some f → halt_by f ≡ None
  no-place-mild pool size c placed f at h =
      foremost-all (λ x. halt_by x ≡ None)
      (new_refused pool size (sight 0 c)
      ++ (placing_refused (can_place_new pool size (sight 0 c)) placed
      ++ (unless (nat_lt (c.next_object + 1) (2 ^ 62)) refused.InventoryFull ++ unless (nat_lt (c.next_ticket + 1) (2 ^ 62)) refused.InventoryFull)))
      (append-all (λ x. halt_by x ≡ None) (new_refused pool size (sight 0 c)) _
      (append-all (λ x. halt_by x ≡ None) (unless (nat_lt size (2 ^ 44)) refused.TooLarge) _ (unless-all (λ x. halt_by x ≡ None) (nat_lt size (2 ^ 44)) refused.TooLarge refl)
      (unless-all (λ x. halt_by x ≡ None) (is_primary pool (inventory c)) refused.NotFound refl))
      (append-all (λ x. halt_by x ≡ None) (placing_refused (can_place_new pool size (sight 0 c)) placed) _
      (m-placing (can_place_new pool size (sight 0 c)) _ placed (λ x refuses. number-mild x (goes_on _ _ _ _ _ _ _ x refuses)) at)
      (append-all (λ x. halt_by x ≡ None) (unless (nat_lt (c.next_object + 1) (2 ^ 62)) refused.InventoryFull) _ (unless-all (λ x. halt_by x ≡ None) (nat_lt (c.next_object + 1) (2 ^ 62)) refused.InventoryFull refl)
      (unless-all (λ x. halt_by x ≡ None) (nat_lt (c.next_ticket + 1) (2 ^ 62)) refused.InventoryFull refl)))) f h

  stored-at-ends : (class : List ℕ) (filespace : ℕ) (place : Place) (old new : Machine) (added : List Entry) → StoresAt p class filespace place old new (Err e) added → EndsRun old new e
  stored-at-ends class filespace place old new added (inl (file, same, has, rose, none, bytes)) = absurd (mild-not (refused.WriteFault file) same refl)
  stored-at-ends class filespace place old new added (inr (commits, next, stored)) = commits-end ℕ (backed_up filespace p class place old.core) e how old new added refl commits is

  stored-by-ends : (why : Option Refusal) (placed : Result Place Refusal) (class : List ℕ) (filespace : ℕ) (old new : Machine) (added : List Entry) → ((f : Refusal) → why ≡ Some f → halt_by f ≡ None)
      → StoresBy why p class filespace placed old new (Err e) added → EndsRun old new e
  stored-by-ends (Some f) placed class filespace old new added mild (same, none, bytes) = absurd (mild-not f same (mild f refl))
  stored-by-ends None (Ok place) class filespace old new added mild h = stored-at-ends class filespace place old new added h
  stored-by-ends None (Err f) class filespace old new added mild h = absurd h

  stored-ends : (home : Home) (filespace : ℕ) (old new : Machine) (added : List Entry) → Stores places p home filespace old new (Err e) added → EndsRun old new e
  stored-ends home filespace old new added (inl (breaks, bytes)) = breaks.0
  stored-ends home filespace old new added (inr (placed, at, by)) =
      stored-by-ends (why_no_place home.pool (length p.text) old.core placed) placed home.class filespace old new added (λ f why. no-place-mild home.pool (length p.text) old.core placed f at why) by

  under-ends : (there : Option ℕ) (home : Home) (old new : Machine) (added : List Entry) → PutsUnder places there p home old new (Err e) added → EndsRun old new e
  under-ends (Some filespace) home old new added h = stored-ends home filespace old new added h
  under-ends None home old new added (inl (f, same, commits, bytes)) =
      let alike : e ≡ f = ap number_error same in
      subst (λ (x : Refusal). EndsRun old new x) (sym alike)
      (commits-end (Unit {0}) (filespace_defined home.node p.filespace (database old)) f how old new added refl commits (subst (λ (x : Refusal). halt_by x ≡ Some how) alike is))
  under-ends None home old new added (inr (next, more, legal, makes, behind, all, stored)) =
      ends-since old next new e makes.3 (stored-ends home (database old).next_filespace next new more stored)

  home-ends : (home : Result Home Refusal) (old new : Machine) (added : List Entry) → IsMild home → PutsHome places p home old new (Err e) added → EndsRun old new e
  home-ends (Err f) old new added mild (same, none, bytes) = absurd (mild-not f same mild)
  home-ends (Ok home) old new added mild h = under-ends (filespace_named home.node p.filespace (database old).clients.filespaces) home old new added h

  by-ends : (node : ℕ) (rules : Result Rules Refusal) (old new : Machine) (added : List Entry) → IsMild rules → PutsBy places choice p node rules old new (Err e) added → EndsRun old new e
  by-ends node (Err f) old new added mild (same, none, bytes) = absurd (mild-not f same mild)
  by-ends node (Ok rules) old new added mild h = home-ends (home_of node rules choice p.path) old new added (m-home node rules choice p.path) h

  of-ends : (there : Option ℕ) (old new : Machine) (added : List Entry) → PutsOf places choice p there old new (Err e) added → EndsRun old new e
  of-ends None old new added (same, none, bytes) = absurd (mild-not refused.NotFound same refl)
  of-ends (Some node) old new added h = by-ends node (rules_of node (database old)) old new added (m-rules node (database old)) h

  puts-end : (old new : Machine) (added : List Entry) → Puts places choice p old new (Err e) added → EndsRun old new e
  puts-end old new added (inl (breaks, bytes)) = breaks.0
  puts-end old new added (inr h) = of-ends (node_named p.node (database old).clients.nodes) old new added h

-- ---- a GET and a checkpoint

module _ (trusted : Type 0) (g : FileGet) (e : Refusal) (how : Halt) (is : halt_by e ≡ Some how) (old new : Machine) where
  unread-not : no_file e ≡ no_file refused.NotFound → ⊥
  unread-not same = not-end e how (subst (λ (x : Refusal). halt_by x ≡ None) (sym (ap file_error same)) refl) is

  shown-ends : (there : Option Version) → ShowsFound trusted there old new (Err e) → EndsRun old new e
  shown-ends None h = absurd (unread-not h)
  shown-ends (Some w) h = h.1 how is

  got-under-ends : (there : Option ℕ) (path : List ℕ) → GetsUnder trusted there path old new (Err e) → EndsRun old new e
  got-under-ends None path h = absurd (unread-not h)
  got-under-ends (Some filespace) path h = shown-ends (active_at filespace path (database old)) h

  got-of-ends : (there : Option ℕ) → GetsOf trusted there g old new (Err e) → EndsRun old new e
  got-of-ends None h = absurd (unread-not h)
  got-of-ends (Some node) h = got-under-ends (filespace_named node g.filespace (database old).clients.filespaces) g.path h

  gets-end : Gets trusted g old new (Err e) → EndsRun old new e
  gets-end (inl ends) = ends
  gets-end (inr h) = got-of-ends (node_named g.node (database old).clients.nodes) h

checkpoint-ends : (e : Refusal) (how : Halt) (old new : Machine) → Checkpoints {A = ℕ} old new (Err e) → halt_by e ≡ Some how → EndsRun old new e
checkpoint-ends e how old new (inl (full, last)) is = absurd (not-end e how (subst (λ (x : Refusal). halt_by x ≡ None) (sym full) refl) is)
checkpoint-ends e how old new (inr ends) is = ends

-- ---- a command

tells-end : (told : Result Outcome Refusal) (e : Refusal) (how : Halt) (old new : Machine) → IsMild told → (no_outcome e ≡ told) ⊎ ((f : Refusal) × (no_outcome e ≡ Err f) × EndsRun old new f) → halt_by e ≡ Some how → EndsRun old new e
tells-end told e how old new mild (inl same) is = absurd (not-end e how (mild-err told e mild (sym same)) is)
tells-end told e how old new mild (inr (f, same, ends)) is = subst (λ (x : Refusal). EndsRun old new x) (sym (ap outcome_error same)) ends

-- work on a tree, behind which nothing comes
module _ (trusted : Type 0) (places : Places) (k : Client) (e : Refusal) (how : Halt) (is : halt_by e ≡ Some how) (old new : Machine) (added : List Entry) where
  -- a call on the tree failed
  written-not : (answer : Result (Unit {0}) Refusal) (before after : Known) (path bytes : List ℕ) (mtime : ℕ) → Writes path bytes mtime before after answer → no_outcome e ≡ on_ok (λ done. Said Done) answer → ⊥
  written-not (Ok done) before after path bytes mtime h same = absurd cc
  written-not (Err x) before after path bytes mtime h same = not-end e how (ap halt_by (ap outcome_error same ∙ h.0)) is

  erased-not : (answer : Result (Unit {0}) Refusal) (before after : Known) (path : List ℕ) → Erases path before after answer → no_outcome e ≡ on_ok (λ done. Said Done) answer → ⊥
  erased-not (Ok done) before after path h same = absurd cc
  erased-not (Err x) before after path h same = not-end e how (ap halt_by (ap outcome_error same ∙ h.0)) is

  on-ends : (work : OnTree) (before after : Known) → IsPlainTree work → DoesOn trusted places k.choice work before after old new (Err e) added → EndsRun old new e
  on-ends (write w) before after so ((answer, writes, same), still, none) = absurd (written-not answer before after w.path (bytes_of w.contents) w.mtime writes same)
  on-ends (erase x) before after so ((answer, erases, same), still, none) = absurd (erased-not answer before after x.path erases same)
  on-ends (back_up i) before after so h = absurd so
  on-ends (restore r) before after so (ran, gives, ends, still, none) = ends e how refl is

  there-ends : (work : OnTree) → IsPlainTree work → DoesThere trusted places k work old new (Err e) added → EndsRun old new e
  there-ends work so (inl (before, after, turns, did)) = on-ends work before after so did
  there-ends work so (inr (missing, kept, same, still, none)) = absurd (not-end e how (ap halt_by (ap outcome_error same)) is)

module _ (trusted : Type 0) (places : Places) (goes_on : EndsNoRun places) (k : Client) (e : Refusal) (how : Halt) (is : halt_by e ≡ Some how) (old new : Machine) (added : List Entry) where
  own-ends : (own : Own) (numbers : List ℕ) → IsPlainOwn own → DoesOwn trusted places k numbers own old new (Err e) added → EndsRun old new e
  own-ends (validate set) numbers so (kept, h) =
      tells-end (on_ok (λ it. Said Done) (validated set (database old))) e how old new
      (m-on (λ it. Said Done) (validated set (database old)) (m-on (λ domains. tt {0}) (after (policy.Activate set.domain set.set) (database old).domains) (m-after (policy.Activate set.domain set.set) (database old).domains))) h.0 is
  own-ends (put p) numbers so (kept, (answer, puts, same, image)) =
      let r = on-err (λ object. Said (Stored object)) answer e (sym same) in
      puts-end places goes_on k.choice p e how is old new added (subst (λ (x : Refusal). Puts places k.choice p old new (Err x) added) r.2 (subst (λ (x : Result ℕ Refusal). Puts places k.choice p old new x added) r.1 puts))
  own-ends (get g) numbers so (kept, (answer, gets, same, none, image, bytes)) =
      let r = on-err Read answer e (sym same) in
      gets-end trusted g e how is old new (subst (λ (x : Refusal). Gets trusted g old new (Err x)) r.2 (subst (λ (x : Result FileRead Refusal). Gets trusted g old new x) r.1 gets))
  own-ends checkpoint numbers so (kept, (answer, came, same, none, bytes)) =
      let r = on-err (λ seq. Said Done) answer e (sym same) in
      checkpoint-ends e how old new (subst (λ (x : Refusal). Checkpoints {A = ℕ} old new (Err x)) r.2 (subst (λ (x : Result ℕ Refusal). Checkpoints old new x) r.1 came)) is
  own-ends (on_tree work) numbers so h = there-ends trusted places k e how is old new added work so h
  own-ends none_yet numbers so (kept, h) = tells-end (Err (refused.UnknownWord 1)) e how old new refl h.0 is
  own-ends own numbers so h = absurd so

  does-end : (c : Command) (w : Result Work Refusal) → IsPlainOwn (own_of c) → IsMild w → IsCommonWork w → Does trusted places k c w old new (Err e) added → EndsRun old new e
  does-end c (Err why) so mild common (kept, h) = tells-end (Err why) e how old new mild h.0 is
  does-end c (Ok (Commit what)) so mild common (kept, answer, commits, same, image, bytes) =
      let r = on-err (λ number. Said (last_of what)) answer e (sym same) in
      commits-end ℕ (drawn what old) e how old new added (filled-common old.core.next_file (database old) what common)
      (subst (λ (x : Refusal). Commits {A = ℕ} (drawn what old) old new (Err x) added) r.2 (subst (λ (x : Result ℕ Refusal). Commits (drawn what old) old new x added) r.1 commits)) is
  does-end c (Ok (Show q)) so mild common (kept, h) = tells-end (on_ok Rows (answered q (database old))) e how old new (m-on Rows (answered q (database old)) (m-answered q (database old))) h.0 is
  does-end c (Ok (Run numbers)) so mild common h = own-ends (own_of c) numbers so h

  -- of a process it says so itself
  process-end : (c : Command) (w : Result Work Refusal) (b : Behind) → (b ≡ no_more → ⊥) → IsMild w → Works trusted places k c w b old new (Err e) added → EndsRun old new e
  process-end c w no_more some mild h = absurd (some refl)
  process-end c (Err why) forces some mild (kept, h) = tells-end (Err why) e how old new mild h.0 is
  process-end c (Err why) reuses some mild (kept, h) = tells-end (Err why) e how old new mild h.0 is
  process-end c (Ok work) forces some mild h = h.cause e how refl is
  process-end c (Ok work) reuses some mild h = h.cause e how refl is

  work-end : (c : Command) (w : Result Work Refusal) → IsMild w → IsCommonWork w → Works trusted places k c w (behind c) old new (Err e) added → EndsRun old new e
  work-end c w mild common h = elim (kind c) as (λ _. EndsRun old new e) [
    | inl it ↦ does-end c w it.1 mild common (subst (λ (b : Behind). Works trusted places k c w b old new (Err e) added) it.0 h)
    | inr it ↦ process-end c w (behind c) it.some mild h
  ]

  pub comes-end : (c : Command) → Comes trusted places k c old new (Err e) added → EndsRun old new e
  comes-end c (inl (kept, f, same, ends, none, image, bytes), full) = subst (λ (x : Refusal). EndsRun old new x) (sym (ap outcome_error same)) ends
  comes-end c (inr does, full) = work-end c (work_over c (database old)) (m-work c (database old)) (c-work c (database old)) does
