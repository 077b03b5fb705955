-- Why a backup is refused where one actor has the machine alone, if no run ends: its node isn't there, the node's rules can't be told, the tree couldn't be listed, or its filespace isn't there and can't be defined.
use Rattle.std.proofs.Common.{◌≡◌, ◌⊎◌, inl, inr, ℕ, ◌+◌, ◌^◌, ◌-◌, ◌==◌, ◌≤◌, ◌&&◌, nat_le, nat_lt, Bool, true, false, cond, true≢false, is_some, if◌then◌else◌, find, List, [], ◌∷◌, ◌++◌, length, map, Option, None, Some, Result, Ok, Err, refl, sym, ap, subst, ◌∙◌, arith}
use Rattle.std.proofs.lemmas.Bool.{ltb-false}
use Rattle.std.proofs.lemmas.Cmp.{nat_list_eq_equiv}
use Rattle.std.proofs.lemmas.List.{append-nil, append_cancel_left}
use Rattle.std.proofs.lemmas.Map.Text.{is_eq-slice_cmp}
use Rattle.std.specs.BTreeMap.{insert_entry}
use Rattle.std.specs.List.{AllByRecursion, flat_map}
use Rattle.std.specs.List.Sorted.{IsStrictlySortedBy}
use Rattle.std.specs.Map.{lookup}
use Rattle.std.specs.Option.{option_map}
use Rattle.std.specs.Ordering.{nat_cmp}
use Rattle.std.specs.Str.{bytes_eq}
use Rattle.kinds.specs.Refusals.{bad_value, foremost, number_of, refusal_of, unless}
use Rattle.kinds.specs.declared.change.DefineOrDelete.TheVariants as two
use Rattle.kinds.specs.declared.change.ObjectChange.TheVariants as client
use Rattle.kinds.specs.declared.refusal.Refusal.{Refusal}
use Rattle.kinds.specs.declared.refusal.Refusal.TheVariants as refused
use Rattle.kinds.specs.declared.rule.BackupRule.{BackupRule}
use Rattle.choosers.specs.declared.rule.Rule.{Rule}
use Rattle.command_steps.specs.client_files.Sending.{stopping}
use Rattle.client_plan.specs.Classes.{bound_to, is_left_out, own_group}
use Rattle.client_plan.specs.Plans.{AreActive, Lists, Scheme, actives, file_task, plan_of, rebinds, scheme, task_bound, task_grouped, task_left, task_listed}
use Rattle.client_plan.specs.declared.lines.RebindLine.{RebindLine}
use Rattle.client_plan.specs.declared.lines.SendLine.{SendLine}
use Rattle.client_trees.specs.Files.{Files}
use Rattle.client_trees.specs.declared.tree.FileRow.{FileRow}
use Rattle.entries.specs.declared.change.Change.{Change}
use Rattle.entries.specs.declared.change.Change.TheVariants as change
use Rattle.entries.specs.declared.entry.Entry.{Entry}
use Rattle.inventory_rows.specs.object_rows.Changes.{rows_changed}
use Rattle.inventory_rows.specs.object_rows.Filespaces.{at_number}
use Rattle.inventory_rows.specs.object_rows.Names.{at_name, filespace_named, named_of, node_named}
use Rattle.inventory_rows.specs.object_rows.Rows.{Rows as Clients, with_filespaces}
use Rattle.inventory_rows.specs.version_groups.Entries.{if_found, on_ok}
use Rattle.inventory_rows.specs.version_groups.declared.groups.Filespace.{Filespace}
use Rattle.inventory_rows.specs.Items.{count_items, most_items}
use Rattle.inventory_rows.specs.State.{Inv}
use Rattle.inventory_rules.specs.Common.{full_at}
use Rattle.inventory_rules.specs.Journal.{Journal}
use Rattle.inventory_rules.specs.Transactions.{causes, effect, refused as refused_by, sizes_refused, then_valid}
use Rattle.inventory_rules.specs.Valid.{is_valid}
use Rattle.inventory_work.specs.Found.{filespace_asked}
use Rattle.inventory_work.specs.Rules.{rules_of}
use Rattle.inventory_work.specs.declared.lines.ClassRule.{ClassRule}
use Rattle.inventory_work.specs.declared.search.Named.TheVariants as thing
use Rattle.inventory_answers.specs.Answered.{rows_of}
use Rattle.inventory_answers.specs.Clients.{filespace_line, filespace_lines, filespace_lines_of, versions_at, versions_of}
use Rattle.inventory_answers.specs.declared.lines.FilespaceLine.{FilespaceLine}
use Rattle.inventory_answers.specs.declared.lines.VersionLine.{VersionLine}
use Rattle.inventory_answers.specs.declared.query.Query.{Query}
use Rattle.inventory_answers.specs.declared.query.Query.TheVariants as query
use Rattle.inventory_answers.specs.declared.reply.Rows.{Rows}
use Rattle.inventory_answers.specs.declared.reply.Rows.TheVariants as rows
use Rattle.inventory_work.specs.Lists.{only}
use Rattle.admin_words.specs.declared.files.IncrementalBackup.{IncrementalBackup}
use Rattle.command_steps.specs.incrementals.Asking.{AsksAll, AsksNodeRules, Unanswered}
use Rattle.command_steps.specs.incrementals.Filespaces.{DefinesAndFinds, DefinesOne, FindsOne, HasFilespace, number_in, there, undefined}
use Rattle.command_steps.specs.incrementals.Planning.{Begins}
use Rattle.command_steps.specs.incrementals.Process.{Finishes, Increments, Works, is_idle, is_sending}
use Rattle.command_steps.specs.incrementals.declared.answering.Outs.{Outs}
use Rattle.command_steps.specs.incrementals.declared.asking.Basis.{Basis}
use Rattle.command_steps.specs.incrementals.declared.answering.Sent.{Sent}
use Rattle.command_steps.specs.incrementals.declared.planning.Begun.{Begun}
use Rattle.steps.specs.Events.{Event, has_number}
use Rattle.machine.specs.Alone.{Alone}
use Rattle.machine.specs.Causes.{change_illegal, change_refused, listed}
use Rattle.machine.specs.Machine.{Places, made}
use Rattle.machine.specs.State.{Core, Machine, inventory, sight}
use Rattle.machine.proofs.Elsewhere.{append-all, foremost-all, unless-all}
use Rattle.command_steps.specs.Answers.{halt_by}
use Rattle.command_steps.specs.Clients.{Known}
use Rattle.command_steps.specs.Trees.{ShowsSent}
use Rattle.command_steps.specs.declared.outcome.Outcome.{Outcome}
use Rattle.script_loop.specs.declared.ends.Halt.{Halt}
use Rattle.line_results.specs.Files.{filespace_defined}
use Rattle.line_results.specs.Resting.{IsAtRest, database, entry, why_not}
use Rattle.line_results.specs.Trees.{HasVersions, IsRefusedSo, IsUndefinable, StoresNothing}
use Rattle.line_results.proofs.Asked.{is_log}
use Rattle.line_results.proofs.Changed.{JoinFails, join-step}
use Rattle.line_results.proofs.Leaving.{rest-as}
use Rattle.line_results.proofs.Planned.{asked-node, asked-node-rules, asked-versions}
use Rattle.line_results.proofs.PutHeld.{no-end}
use Rattle.line_results.proofs.PutHomes.{after-one, asked-there, asks-unhalted, defined-there, err-of, no-node, no-rules}
use Rattle.line_results.proofs.Runs.{Became, alone-parts, became-still, is-as}
use Rattle.line_results.proofs.Stopping.{AreFree, Ends, carries-end, ends-as, ends-halt, ends-stopping, finish-ends, free-parts, same-err}

-- ---- plans

grouped-none : (today : ℕ) (class : List ℕ) (o : Option BackupRule) (f : FileRow) → rebinds (task_grouped today class o f None) ≡ []
grouped-none today class None f = refl
grouped-none today class (Some rule) f = refl

bound-none : (today : ℕ) (o : Option ClassRule) (f : FileRow) → rebinds (task_bound today o f None) ≡ []
bound-none today None f = refl
bound-none today (Some row) f = grouped-none today row.class (own_group row.rule) f

-- where no version is active no path is bound anew
task-none : (s : Scheme) (f : FileRow) → rebinds (task_listed s f None) ≡ []
task-none s f = elim (is_left_out s.choice f.path) as (λ b. rebinds (if b then task_left f.path None else task_bound s.today (bound_to s.rules s.choice f.path) f None) ≡ []) [
  | true ↦ refl
  | false ↦ bound-none s.today (bound_to s.rules s.choice f.path) f
]

rebinds-none : (s : Scheme) (files : List FileRow) → flat_map rebinds (map (file_task s []) files) ≡ []
rebinds-none s [] = refl
rebinds-none s (f ∷ files) = ap (λ (l : List RebindLine). l ++ flat_map rebinds (map (file_task s []) files)) (task-none s f) ∙ rebinds-none s files

lists-idle : (send : List SendLine) (rebind : List RebindLine) → nat_lt 0 (length send) ≡ false → rebind ≡ [] → ((length send == 0) && (length rebind == 0) && (0 == 0)) ≡ true
lists-idle [] [] none empty = refl
lists-idle [] (r ∷ rebind) none empty = absurd cc
lists-idle (l ∷ send) rebind none empty = (let few : length (l ∷ send) ≤ 0 = ltb-false 0 (length (l ∷ send)) none in absurd (omega (arith, few)))

-- a plan over no versions has something to be committed only where it sends files
pub plan-idle : (s : Scheme) (files : List FileRow) (plan : Lists) → plan ≡ plan_of s files [] → is_sending plan ≡ false → is_idle plan ≡ true
plan-idle s files plan is none =
    subst (λ (p : Lists). is_idle p ≡ true) (sym is)
    (lists-idle (plan_of s files []).send (flat_map rebinds (map (file_task s []) files)) (subst (λ (p : Lists). is_sending p ≡ false) is none) (rebinds-none s files))

pub none-active : AreActive []
unfolding IsStrictlySortedBy
none-active = tt

-- ---- filespaces

names-same : (name other : List ℕ) → at_name name other ≡ bytes_eq other name
names-same name other = is_eq-slice_cmp name other ∙ nat_list_eq_equiv.symm name other

-- the number that the rows show of a node's filespace is that which it has
pub number-shown : (node : ℕ) (name : List ℕ) (clients : Clients) (es : List (ℕ × Filespace)) → number_in name (flat_map (filespace_lines_of clients (Some node)) es) ≡ filespace_named node name es
number-shown node name clients [] = refl
number-shown node name clients (e ∷ es) =
    elim (e.1.node == node) as (λ b. number_in name (only b (filespace_line clients e) ++ flat_map (filespace_lines_of clients (Some node)) es)
    ≡ lookup (at_name name) ((if b then (e.1.name, e.0) ∷ [] else []) ++ named_of node es)) [
      | true ↦ elim (bytes_eq e.1.name name) as (λ b. bytes_eq e.1.name name ≡ b
          → option_map (λ (l : FilespaceLine). l.number) (if b then Some (filespace_line clients e) else find (λ l. bytes_eq l.name name) (flat_map (filespace_lines_of clients (Some node)) es))
          ≡ cond (at_name name e.1.name) (Some e.0) (lookup (at_name name) (named_of node es))) [
            | true ↦ λ is. sym (ap (λ (b : Bool). cond b (Some e.0) (lookup (at_name name) (named_of node es))) (names-same name e.1.name ∙ is))
            | false ↦ λ is. number-shown node name clients es ∙ sym (ap (λ (b : Bool). cond b (Some e.0) (lookup (at_name name) (named_of node es))) (names-same name e.1.name ∙ is))
          ] refl
      | false ↦ number-shown node name clients es
    ]

-- the filespaces of a node that is there are shown
pub shown-there : (name : List ℕ) (k : ℕ) (v : Inv) → node_named name v.clients.nodes ≡ Some k → rows_of (query.Filespaces (Some name)) v ≡ Ok (rows.Filespaces (filespace_lines v.clients (Some k)))
shown-there name k v known = rw known refl

abbrev lines-in : Rows → List FilespaceLine
lines-in (rows.Filespaces lines) = lines
lines-in _ = []

lines-same : (r : Result Rows Refusal) (a b : List FilespaceLine) → r ≡ Ok (rows.Filespaces a) → r ≡ Ok (rows.Filespaces b) → a ≡ b
lines-same (Ok x) a b h k = (let first : x ≡ rows.Filespaces a = cc in let second : x ≡ rows.Filespaces b = cc in ap lines-in (sym first ∙ second))
lines-same (Err e) a b h k = absurd cc

-- a filespace that isn't there has no versions
pub no-versions : (node name : List ℕ) (k : ℕ) (v : Inv) (versions : List VersionLine) → node_named node v.clients.nodes ≡ Some k → filespace_named k name v.clients.filespaces ≡ None → HasVersions node name v versions → versions ≡ []
no-versions node name k v versions known none (inl are) =
    (let at : filespace_asked node name v.clients ≡ if_found (filespace_named k name v.clients.filespaces) Ok = asked-there node name k v.clients known in
    let missing : filespace_asked node name v.clients ≡ Err refused.NotFound = at ∙ ap (λ (o : Option ℕ). if_found o Ok) none in
    let odd : versions_of node name v ≡ Err refused.NotFound = ap (λ (r : Result ℕ Refusal). on_ok (λ n. versions_at n v) r) missing in
    absurd cc)
no-versions node name k v versions known none (inr (missing, is)) = is

-- what isn't found is refused so
found-refused : {A B : Type 0} (o : Option A) (f : A → Result B Refusal) (e : Refusal) → ((x : A) → f x ≡ Err e → e ≡ refused.NotFound) → if_found o f ≡ Err e → e ≡ refused.NotFound
found-refused None f e so h = cc
found-refused (Some x) f e so h = so x h

never-ok : {A : Type 0} (x : A) (e : Refusal) → ◌≡◌ {A = Result A Refusal} (Ok x) (Err e) → e ≡ refused.NotFound
never-ok x e h = cc

pub asked-missing : (node name : List ℕ) (clients : Clients) (e : Refusal) → filespace_asked node name clients ≡ Err e → e ≡ refused.NotFound
asked-missing node name clients e h =
    found-refused (node_named node clients.nodes) (λ n. if_found (filespace_named n name clients.filespaces) Ok) e (λ n g. found-refused (filespace_named n name clients.filespaces) Ok e (λ x k. never-ok x e k) g) h

-- ---- a filespace that is defined

-- a refusal other than that it is there already
abbrev IsOther : Refusal → Type 0
IsOther e = (number_of e == 11) ≡ false

other-valid : (o : Option Refusal) (valid : Bool) (e : Refusal) → ((f : Refusal) → o ≡ Some f → IsOther f) → then_valid o valid ≡ Some e → IsOther e
other-valid (Some f) valid e so h = so e h
other-valid None true e so h = absurd cc
other-valid None false e so h = (let same : bad_value ≡ e = cc in subst IsOther same refl)

other-listed : (o : Option Refusal) → ((e : Refusal) → o ≡ Some e → IsOther e) → AllByRecursion IsOther (listed o)
other-listed None so = tt
other-listed (Some e) so = (so e refl, tt)

other-rows : (node : ℕ) (name : List ℕ) (v : Inv) → filespace_named node name v.clients.filespaces ≡ None
    → AllByRecursion IsOther (refusal_of (rows_changed (client.Filespace two.Define node name v.next_filespace) v.next_node v.clients))
other-rows node name v none =
    let f : Filespace = record { node = node; name = name; groups = [] } in
    let es : List (ℕ × Filespace) = v.clients.filespaces in
    elim (lookup (at_number node) v.clients.nodes) as (λ o. AllByRecursion IsOther
    (refusal_of (with_filespaces v.clients (if_found o (λ _. if is_some (filespace_named node name es) then Err refused.Exists else Ok (insert_entry nat_cmp es v.next_filespace f)))))) [
      | None ↦ (refl, tt)
      | Some it ↦ subst (λ (o : Option ℕ). AllByRecursion IsOther (refusal_of (with_filespaces v.clients (if is_some o then Err refused.Exists else Ok (insert_entry nat_cmp es v.next_filespace f))))) (sym none) tt
    ]

other-causes : (j : Journal) (node : ℕ) (name : List ℕ) (v : Inv) → filespace_named node name v.clients.filespaces ≡ None
    → AllByRecursion IsOther (causes j (filespace_defined node name v) v ++ sizes_refused (filespace_defined node name v) v)
other-causes j node name v none =
    append-all IsOther (causes j (filespace_defined node name v) v) _
    (append-all IsOther (refusal_of (rows_changed (client.Filespace two.Define node name v.next_filespace) v.next_node v.clients)) _ (other-rows node name v none)
    (append-all IsOther (unless (v.next_filespace == v.next_filespace) bad_value) _ (unless-all IsOther (v.next_filespace == v.next_filespace) bad_value refl) (unless-all IsOther (nat_lt (v.next_filespace + 1) (2 ^ 32 - 1)) refused.InventoryFull refl)))
    (append-all IsOther (unless (nat_le (count_items (effect (filespace_defined node name v) v)) most_items) refused.InventoryFull) (full_at v.number (2 ^ 62))
    (unless-all IsOther (nat_le (count_items (effect (filespace_defined node name v) v)) most_items) refused.InventoryFull refl) (unless-all IsOther (nat_lt (v.number + 1) (2 ^ 62)) refused.InventoryFull refl))

other-refused : (j : Journal) (node : ℕ) (name : List ℕ) (v : Inv) (e : Refusal) → filespace_named node name v.clients.filespaces ≡ None → refused_by j (filespace_defined node name v) v ≡ Some e → IsOther e
unfolding refused_by
other-refused j node name v e none h =
    other-valid (foremost (causes j (filespace_defined node name v) v ++ sizes_refused (filespace_defined node name v) v)) (is_valid (effect (filespace_defined node name v) v)) e
    (λ f is. foremost-all IsOther _ (other-causes j node name v none) f is) h

-- defining a filespace that isn't there isn't refused since it is
pub not-there-yet : (actor node : ℕ) (name : List ℕ) (core : Core) (e : Refusal) → filespace_named node name (inventory core).clients.filespaces ≡ None
    → foremost (change_refused actor (Some (filespace_defined node name (inventory core))) (sight actor core)) ≡ Some e → (number_of e == 11) ≡ false
not-there-yet actor node name core e none h =
    foremost-all IsOther (change_refused actor (Some (filespace_defined node name (inventory core))) (sight actor core))
    (append-all IsOther (change_illegal (filespace_defined node name (inventory core)) (sight actor core)) _
    (other-listed (refused_by (sight actor core).journal (filespace_defined node name (inventory core)) (inventory core)) (λ f is. other-refused (sight actor core).journal node name (inventory core) f none is))
    (unless-all IsOther _ refused.RecordFull refl)) e h

-- ---- questions

module _ (trusted : Type 0) (places : Places) where
  -- a question that is refused, by which no run ends, is refused so by the database
  question-refused : (q : Query) (events : List Event) (e : Refusal) (m new : Machine) → is_log q ≡ false → m.core.fault ≡ None → Unanswered q events e → Alone trusted places 0 events m new → halt_by e ≡ None
      → (rows_of q (database m) ≡ Err e) × Became m.core m new
  question-refused q events e m new unlogged none (inl (memory, empty)) a mild = absurd (ends-halt e (subst Ends (sym memory) refl) mild)
  question-refused q events e m new unlogged none (inr (inl (answer, memory, made))) a mild = absurd (ends-halt e (subst Ends (sym memory) refl) mild)
  question-refused q events e m new unlogged none (inr (inr (why, is, made))) a mild =
      let t = asks-unhalted trusted places q rows.Versions (Err e) events m new unlogged none (inl (why, is, made)) a in
      elim t.1 as (λ _. (rows_of q (database m) ≡ Err e) × Became m.core m new) [
        | inl h ↦ (h, t.0)
        | inr ends ↦ absurd (no-end e m new ends mild)
      ]

  -- the filespaces of a node that is there are told
  filespaces-told : (node : List ℕ) (k : ℕ) (events : List Event) (e : Refusal) (m new : Machine) → node_named node (database m).clients.nodes ≡ Some k → m.core.fault ≡ None
      → Unanswered (query.Filespaces (Some node)) events e → Alone trusted places 0 events m new → halt_by e ≡ None → ⊥
  filespaces-told node k events e m new known none h a mild =
      (let odd : rows_of (query.Filespaces (Some node)) (database m) ≡ Err e = (question-refused (query.Filespaces (Some node)) events e m new refl none h a mild).0 in
      let is = shown-there node k (database m) known in
      let no : ◌≡◌ {A = Result Rows Refusal} (Ok (rows.Filespaces (filespace_lines (database m).clients (Some k)))) (Err e) = sym is ∙ odd in
      cc)

  -- the filespace is found by its name
  finds-number : (node name : List ℕ) (k : ℕ) (events : List Event) (found : Option ℕ) (m new : Machine) → node_named node (database m).clients.nodes ≡ Some k → m.core.fault ≡ None → FindsOne node name events (Ok found)
      → Alone trusted places 0 events m new → Became m.core m new × (found ≡ filespace_named k name (database m).clients.filespaces)
  finds-number node name k events found m new known none (lines, (answer, has, made), is) a =
      let t = asks-unhalted trusted places (query.Filespaces (Some node)) rows.Filespaces (Ok lines) events m new refl none (answer, has, made) a in
      let same : lines ≡ filespace_lines (database m).clients (Some k) =
      lines-same (rows_of (query.Filespaces (Some node)) (database m)) lines (filespace_lines (database m).clients (Some k)) t.1 (shown-there node k (database m) known) in
      (t.0, is ∙ ap (λ (l : List FilespaceLine). number_in name l) same ∙ number-shown k name (database m).clients (database m).clients.filespaces)

  -- ---- the filespace is defined

  -- it joined
  pub record IsDefined (k : ℕ) (name : List ℕ) (m new : Machine) : Type 0 where
    pub legal : why_not (filespace_defined k name (database m)) m.core ≡ None
    pub became : Became (made 0 (filespace_defined k name (database m)) m.core) m new

  pub already-not : (why : Refusal) (b : Bool) → (number_of why == 11) ≡ b → ◌≡◌ {A = Result (Unit {0}) Refusal} (Ok tt) (if b then Ok tt else Err (undefined why)) → (number_of why == 11) ≡ true
  already-not why true is h = is
  already-not why false is h = absurd cc

  not-exists : (k : ℕ) (name : List ℕ) (why : Refusal) (m new : Machine) → filespace_named k name (database m).clients.filespaces ≡ None → (number_of why == 11) ≡ true
      → JoinFails (change.Object (client.Filespace two.Define k name 0)) m new why → ⊥
  not-exists k name why m new none is (inl (inl (inl (full, late)), b)) = true≢false (sym is ∙ ap (λ (e : Refusal). number_of e == 11) full)
  not-exists k name why m new none is (inl (inl (inr memory), b)) = true≢false (sym is ∙ ap (λ (e : Refusal). number_of e == 11) memory)
  not-exists k name why m new none is (inl (inr refuses, b)) = true≢false (sym is ∙ not-there-yet 0 k name m.core why none refuses)
  not-exists k name why m new none is (inr (legal, (file, count, fault, rose, b))) = true≢false (sym is ∙ ap (λ (e : Refusal). number_of e == 11) fault)

  defines : (k : ℕ) (name : List ℕ) (events : List Event) (m new : Machine) → IsAtRest m.core → filespace_named k name (database m).clients.filespaces ≡ None → DefinesOne k name events (Ok tt)
      → Alone trusted places 0 events m new → IsDefined k name m new
  defines k name events m new rest none (inl (empty, is)) a = absurd cc
  defines k name events m new rest none (inr (Ok number, made, is)) a =
      let j = join-step trusted places (change.Object (client.Filespace two.Define k name 0)) (Ok number) events m new refl rest made a in
      record { legal = j.1; became = j.2 }
  defines k name events m new rest none (inr (Err why, made, is)) a =
      let j = join-step trusted places (change.Object (client.Filespace two.Define k name 0)) (Err why) events m new refl rest made a in
      absurd (not-exists k name why m new none (already-not why (number_of why == 11) refl is) j.1)

  -- what is answered where it isn't
  mild-undefined : (e why : Refusal) (b : Bool) → e ≡ (if b then why else stopping why) → halt_by e ≡ None → e ≡ why
  mild-undefined e why true is mild = is
  mild-undefined e why false is mild = absurd (ends-halt e (subst Ends (sym is) (ends-stopping why)) mild)

  pub mild-defined : (e why : Refusal) (b : Bool) → ◌≡◌ {A = Result (Unit {0}) Refusal} (Err e) (if b then Ok tt else Err (undefined why)) → halt_by e ≡ None → e ≡ why
  mild-defined e why true is mild = absurd cc
  mild-defined e why false is mild = mild-undefined e why (has_number (10 ∷ 31 ∷ []) why) (same-err (Unit {0}) e (undefined why) is) mild

  undefinable : (k : ℕ) (name : List ℕ) (e : Refusal) (m new : Machine) → halt_by e ≡ None → JoinFails (change.Object (client.Filespace two.Define k name 0)) m new e
      → (why_not (filespace_defined k name (database m)) m.core ≡ Some e) × Became m.core m new
  undefinable k name e m new mild (inl (inl (inl (full, late)), b)) = absurd (ends-halt e (subst Ends (sym full) refl) mild)
  undefinable k name e m new mild (inl (inl (inr memory), b)) = absurd (ends-halt e (subst Ends (sym memory) refl) mild)
  undefinable k name e m new mild (inl (inr refuses, b)) = (refuses, b)
  undefinable k name e m new mild (inr (legal, (file, count, fault, rose, b))) = absurd (ends-halt e (subst Ends (sym fault) refl) mild)

  defines-not : (k : ℕ) (name : List ℕ) (events : List Event) (e : Refusal) (m new : Machine) → IsAtRest m.core → DefinesOne k name events (Err e) → Alone trusted places 0 events m new → halt_by e ≡ None
      → (why_not (filespace_defined k name (database m)) m.core ≡ Some e) × Became m.core m new
  defines-not k name events e m new rest (inl (empty, is)) a mild = absurd (ends-halt e (ends-as (Unit {0}) e refused.Memory is refl) mild)
  defines-not k name events e m new rest (inr (Ok number, made, is)) a mild = absurd cc
  defines-not k name events e m new rest (inr (Err why, made, is)) a mild =
      let same : e ≡ why = mild-defined e why (number_of why == 11) is mild in
      let j = join-step trusted places (change.Object (client.Filespace two.Define k name 0)) (Err why) events m new refl rest made a in
      undefinable k name e m new mild (subst (λ (x : Refusal). JoinFails (change.Object (client.Filespace two.Define k name 0)) m new x) (sym same) j.1)

  -- then it is there
  behind-defined : (node name : List ℕ) (k : ℕ) (m new : Machine) → node_named node (database m).clients.nodes ≡ Some k → filespace_named k name (database m).clients.filespaces ≡ None → IsDefined k name m new
      → (node_named node (database new).clients.nodes ≡ Some k) × (filespace_named k name (database new).clients.filespaces ≡ Some (database m).next_filespace)
  behind-defined node name k m new known none d =
      let c : Change = filespace_defined k name (database m) in
      let is : database new ≡ effect c (database m) = ap (λ (x : Core). inventory x) d.became.core ∙ after-one m.core.base m.core.journal (entry c) in
      let there_now = defined-there k name m.core d.legal none in (
        ap (λ (v : Inv). node_named node v.clients.nodes) is ∙ ap (λ nodes. node_named node nodes) there_now.0 ∙ known,
        ap (λ (v : Inv). filespace_named k name v.clients.filespaces) is ∙ there_now.1,
      )

  there-not : (found : Option ℕ) (number : ℕ) (e : Refusal) → found ≡ Some number → ◌≡◌ {A = Result ℕ Refusal} (Err e) (there found) → ⊥
  there-not found number e is h = (let odd : ◌≡◌ {A = Result ℕ Refusal} (Err e) (Ok number) = h ∙ ap there is in cc)

  unhalted : (c : Change) (m new : Machine) → IsAtRest m.core → Became (made 0 c m.core) m new → new.core.fault ≡ None
  unhalted c m new rest b = ap (λ (x : Core). x.fault) b.core ∙ rest.fault

  defines-finds : (node name : List ℕ) (k : ℕ) (events : List Event) (e : Refusal) (m new : Machine) → IsAtRest m.core → node_named node (database m).clients.nodes ≡ Some k
      → filespace_named k name (database m).clients.filespaces ≡ None → DefinesAndFinds node k name events (Err e) → Alone trusted places 0 events m new → halt_by e ≡ None
      → (why_not (filespace_defined k name (database m)) m.core ≡ Some e) × Became m.core m new
  defines-finds node name k events e m new rest known none (inl (found, (xs, ys, cut, defining, finding), is)) a mild =
      let parts = alone-parts trusted places 0 events xs ys m new cut a in
      let d = defines k name xs m parts.0 rest none defining parts.1 in
      let behind = behind-defined node name k m parts.0 known none d in
      let f = finds-number node name k ys found parts.0 new behind.0 (unhalted (filespace_defined k name (database m)) m parts.0 rest d.became) finding parts.2 in
      absurd (there-not found (database m).next_filespace e (f.1 ∙ behind.1) is)
  defines-finds node name k events e m new rest known none (inr (inl (why, (xs, ys, cut, defining, finding), is))) a mild =
      let parts = alone-parts trusted places 0 events xs ys m new cut a in
      let d = defines k name xs m parts.0 rest none defining parts.1 in
      let behind = behind-defined node name k m parts.0 known none d in
      let same : e ≡ why = same-err ℕ e why is in
      absurd (filespaces-told node k ys why parts.0 new behind.0 (unhalted (filespace_defined k name (database m)) m parts.0 rest d.became) finding parts.2 (subst (λ (x : Refusal). halt_by x ≡ None) same mild))
  defines-finds node name k events e m new rest known none (inr (inr (why, defining, is))) a mild =
      let same : e ≡ why = same-err ℕ e why is in
      defines-not k name events e m new rest (subst (λ (x : Refusal). DefinesOne k name events (Err x)) (sym same) defining) a mild

  filespace-not : (node name : List ℕ) (k : ℕ) (sends : Bool) (events : List Event) (e : Refusal) (m new : Machine) → IsAtRest m.core → node_named node (database m).clients.nodes ≡ Some k
      → (sends ≡ false → filespace_named k name (database m).clients.filespaces ≡ None → ⊥) → HasFilespace node k name sends events (Err e) → Alone trusted places 0 events m new → halt_by e ≡ None
      → IsUndefinable k name m e × Became m.core m new
  filespace-not node name k sends events e m new rest known some (inl (found, finding, is)) a mild = absurd cc
  filespace-not node name k sends events e m new rest known some (inr (inl (why, finding, is))) a mild =
      let same : e ≡ why = same-err ℕ e why is in
      absurd (filespaces-told node k events why m new known rest.fault finding a (subst (λ (x : Refusal). halt_by x ≡ None) same mild))
  filespace-not node name k sends events e m new rest known some (inr (inr (inl (idle, finding, is)))) a mild =
      absurd (some idle (sym (finds-number node name k events None m new known rest.fault finding a).1))
  filespace-not node name k sends events e m new rest known some (inr (inr (inr (sending, (xs, ys, cut, finding, defining))))) a mild =
      let parts = alone-parts trusted places 0 events xs ys m new cut a in
      let f = finds-number node name k xs None m parts.0 known rest.fault finding parts.1 in
      let none : filespace_named k name (database m).clients.filespaces ≡ None = sym f.1 in
      let at = ap (λ (c : Core). node_named node (inventory c).clients.nodes) f.0.core ∙ known in
      let missing = ap (λ (c : Core). filespace_named k name (inventory c).clients.filespaces) f.0.core ∙ none in
      let no = defines-finds node name k ys e parts.0 new (rest-as parts.0.core m.core f.0.core rest) at missing defining parts.2 mild in
      ((none, subst (λ (c : Core). why_not (filespace_defined k name (inventory c)) c ≡ Some e) f.0.core no.0), became-still m.core m parts.0 new f.0 no.1)

-- ---- the beginning

module _ (trusted : Type 0) (places : Places) (choice : List Rule) (i : IncrementalBackup) where
  -- that is its cause, and nothing was made
  abbrev StoredNothing : (before after : Known) → Refusal → (m new : Machine) → Type 0
  StoredNothing before after e m new = StoresNothing i before after m e × Became m.core m new

  -- the same of an earlier state with the same database
  nothing-since : (before after : Known) (e : Refusal) (old m new : Machine) → Became old.core old m → StoredNothing before after e m new → StoredNothing before after e old new
  nothing-since before after e old m new b h = (subst (λ (x : Machine). StoresNothing i before after x e) (is-as old.core old m b) h.0, became-still old.core old m new b h.1)

  rules-refused : (before after : Known) (events : List Event) (e : Refusal) (m new : Machine) → IsAtRest m.core → AsksNodeRules i.node events (Err e) → Alone trusted places 0 events m new → halt_by e ≡ None
      → StoredNothing before after e m new
  rules-refused before after events e m new rest (inl (number, (xs, ys, cut, first, next))) a mild =
      let parts = alone-parts trusted places 0 events xs ys m new cut a in
      let n = asked-node trusted places i.node number xs m parts.0 rest first parts.1 in
      let q = question-refused trusted places (query.Rules number) ys e parts.0 new refl (rest-as parts.0.core m.core n.0.core rest).fault next parts.2 mild in
      let no = no-rules number e (database parts.0) q.0 in
      (inr (inl (number, n.1, inl (subst (λ (c : Core). rules_of number (inventory c) ≡ Err e) n.0.core no))), became-still m.core m parts.0 new n.0 q.1)
  rules-refused before after events e m new rest (inr (why, asks, is)) a mild =
      let same : e ≡ why = same-err _ e why is in
      let q = question-refused trusted places (query.Lookup (thing.Node i.node)) events e m new refl rest.fault (subst (λ (x : Refusal). Unanswered (query.Lookup (thing.Node i.node)) events x) (sym same) asks) a mild in
      (inl (no-node i.node e (database m) q.0), q.1)

  asked-refused : (before after : Known) (events : List Event) (e : Refusal) (old new : Machine) → IsAtRest old.core → AsksAll i.node i.filespace events (Err e) → Alone trusted places 0 events old new → halt_by e ≡ None
      → StoredNothing before after e old new
  asked-refused before after events e old new rest (inl (there_not, asks)) a mild =
      let no = (question-refused trusted places (query.Versions i.node i.filespace) events e old new refl rest.fault asks a mild).0 in
      let missing : e ≡ refused.NotFound =
      asked-missing i.node i.filespace (database old).clients e
      (err-of (λ n. versions_at n (database old)) (filespace_asked i.node i.filespace (database old).clients) e (err-of rows.Versions (versions_of i.node i.filespace (database old)) e no)) in
      absurd (true≢false (sym (ap (λ (x : Refusal). number_of x == 10) missing) ∙ there_not))
  asked-refused before after events e old new rest (inr (versions, (xs, ys, cut, first, next))) a mild =
      let parts = alone-parts trusted places 0 events xs ys old new cut a in
      let n = asked-versions trusted places i.node i.filespace versions xs old parts.0 rest first parts.1 in
      nothing-since before after e old parts.0 new n.0 (rules-refused before after ys e parts.0 new (rest-as parts.0.core old.core n.0.core rest) next parts.2 mild)

  -- questions that were answered changed nothing
  asked-still : (basis : Basis) (events : List Event) (old m : Machine) → IsAtRest old.core → AsksAll i.node i.filespace events (Ok basis) → Alone trusted places 0 events old m → Became old.core old m
  asked-still basis events old m rest (xs, ys, cut, first, next) a =
      let parts = alone-parts trusted places 0 events xs ys old m cut a in
      let n = asked-versions trusted places i.node i.filespace basis.versions xs old parts.0 rest first parts.1 in
      became-still old.core old parts.0 m n.0 (asked-node-rules trusted places i.node basis.ruled ys parts.0 m (rest-as parts.0.core old.core n.0.core rest) next parts.2).0

  begins-refused : (before after : Known) (events : List Event) (e : Refusal) (old new : Machine) → IsAtRest old.core → Begins i.node i.filespace choice before.files before.faults after.faults events (Err e)
      → Alone trusted places 0 events old new → halt_by e ≡ None → StoredNothing before after e old new
  begins-refused before after events e old new rest (inl (asks, same)) a mild = asked-refused before after events e old new rest asks a mild
  begins-refused before after events e old new rest (inr (basis, asks, inl memory)) a mild = absurd (ends-halt e (subst Ends (sym memory) refl) mild)
  begins-refused before after events e old new rest (inr (basis, asks, inr rose)) a mild = (inr (inr rose), asked-still basis events old new rest asks a)

  -- it began: the node is there, and where nothing is to be sent but the plan isn't idle, so is the filespace
  pub record HasBegun (b : Begun) (old m : Machine) : Type 0 where
    pub still : Became old.core old m
    pub known : node_named i.node (database m).clients.nodes ≡ Some b.node
    pub some : is_idle b.plan ≡ false → is_sending b.plan ≡ false → filespace_named b.node i.filespace (database m).clients.filespaces ≡ None → ⊥

  begun-has : (told : Option Files) (before count : ℕ) (b : Begun) (events : List Event) (old m : Machine) → IsAtRest old.core → Begins i.node i.filespace choice told before count events (Ok b)
      → Alone trusted places 0 events old m → HasBegun b old m
  begun-has told before count b events old m rest (basis, (xs, ys, cut, first, next), (files, listing, planned)) a =
      let parts = alone-parts trusted places 0 events xs ys old m cut a in
      let n = asked-versions trusted places i.node i.filespace basis.versions xs old parts.0 rest first parts.1 in
      let k = asked-node-rules trusted places i.node basis.ruled ys parts.0 m (rest-as parts.0.core old.core n.0.core rest) next parts.2 in
      let still = became-still old.core old parts.0 m n.0 k.0 in
      let node_at : node_named i.node (database parts.0).clients.nodes ≡ Some b.node = k.1.has_node ∙ ap (λ (x : ℕ). Some x) (sym planned.node) in
      let known : node_named i.node (database m).clients.nodes ≡ Some b.node = ap (λ (c : Core). node_named i.node (inventory c).clients.nodes) k.0.core ∙ node_at in
      let has : HasVersions i.node i.filespace (database m) basis.versions = subst (λ (c : Core). HasVersions i.node i.filespace (inventory c) basis.versions) (sym still.core) n.1 in
      record {
        still = still;
        known = known;
        some = λ busy unsent none.
            (let no : basis.versions ≡ [] = no-versions i.node i.filespace b.node (database m) basis.versions known none has in
            let value = subst (λ (vs : List VersionLine). AreActive (actives vs) → b.plan ≡ plan_of (scheme basis.ruled.rules choice basis.ruled.today) files (actives vs)) no planned.value in
            let idle = plan-idle (scheme basis.ruled.rules choice basis.ruled.today) files b.plan (value none-active) unsent in
            true≢false (sym idle ∙ busy));
      }

  -- ---- behind it

  works-refused : (before after : Known) (b : Begun) (told : Option Files) (first last : ℕ) (events : List Event) (e : Refusal) (old m new : Machine) → IsAtRest m.core → HasBegun b old m
      → Works i.node i.filespace b told first last events (Err e) → AreFree events → Alone trusted places 0 events m new → halt_by e ≡ None → StoredNothing before after e m new
  works-refused before after b told first last events e old m new rest has (inl (idle, empty, same, is)) free a mild = absurd cc
  works-refused before after b told first last events e old m new rest has (inr (inl (busy, number, (xs, ys, cut, filespace, carries)))) free a mild =
      absurd (ends-halt e (carries-end number b told first last ys e carries (free-parts events xs ys cut free).1) mild)
  works-refused before after b told first last events e old m new rest has (inr (inr (busy, why, filespace, same, is))) free a mild =
      let one : e ≡ why = same-err Outs e why is in
      let no = filespace-not trusted places i.node i.filespace b.node (is_sending b.plan) events e m new rest has.known (λ unsent none. has.some busy unsent none)
      (subst (λ (x : Refusal). HasFilespace i.node b.node i.filespace (is_sending b.plan) events (Err x)) (sym one) filespace) a mild in
      (inr (inl (b.node, has.known, inr no.0)), no.1)

  finishes-refused : (before after : Known) (b : Begun) (told : Option Files) (first last : ℕ) (events : List Event) (e : Refusal) (old m new : Machine) → IsAtRest m.core → HasBegun b old m
      → Finishes i.node i.filespace b told first last events (Err e) → AreFree events → Alone trusted places 0 events m new → halt_by e ≡ None → StoredNothing before after e m new
  finishes-refused before after b told first last events e old m new rest has (inl works) free a mild = works-refused before after b told first last events e old m new rest has works free a mild
  finishes-refused before after b told first last events e old m new rest has (inr (outs, (xs, ys, cut, works, (answer, made, is)))) free a mild = absurd (ends-halt e (finish-ends e answer is) mild)

  increments-refused : (before after : Known) (events : List Event) (e : Refusal) (old new : Machine) → IsAtRest old.core → Increments i.node i.filespace choice before.files before.faults after.faults events (Err e)
      → AreFree events → Alone trusted places 0 events old new → halt_by e ≡ None → StoredNothing before after e old new
  increments-refused before after events e old new rest (inl (why, begins, is)) free a mild =
      let same : e ≡ why = same-err Sent e why is in
      begins-refused before after events e old new rest (subst (λ (x : Refusal). Begins i.node i.filespace choice before.files before.faults after.faults events (Err x)) (sym same) begins) a mild
  increments-refused before after events e old new rest (inr (inl (b, count, why, (xs, ys, cut, begins, finishes), is))) free a mild =
      let same : e ≡ why = same-err Sent e why is in
      let parts = alone-parts trusted places 0 events xs ys old new cut a in
      let has = begun-has before.files before.faults count b xs old parts.0 rest begins parts.1 in
      nothing-since before after e old parts.0 new has.still
      (finishes-refused before after b before.files count after.faults ys e old parts.0 new (rest-as parts.0.core old.core has.still.core rest) has
      (subst (λ (x : Refusal). Finishes i.node i.filespace b before.files count after.faults ys (Err x)) (sym same) finishes) (free-parts events xs ys cut free).1 parts.2 mild)
  increments-refused before after events e old new rest (inr (inr (b, count, outs, steps, memory))) free a mild = absurd (ends-halt e (subst Ends (sym memory) refl) mild)

  -- none of the transactions that came are its own
  none-added : (added : List Entry) (old new : Machine) → Became old.core old new → new.core.journal ≡ old.core.journal ++ added → added ≡ []
  none-added added old new b is = append_cancel_left old.core.journal added [] (sym is ∙ ap (λ (c : Core). c.journal) b.core ∙ sym (append-nil old.core.journal))

  refused-so : (before after : Known) (events : List Event) (e : Refusal) (old new : Machine) (added : List Entry) → IsAtRest old.core → Increments i.node i.filespace choice before.files before.faults after.faults events (Err e)
      → AreFree events → Alone trusted places 0 events old new → new.core.journal ≡ old.core.journal ++ added → IsRefusedSo i before after old (Err e) added
  refused-so before after events e old new added rest order free a is =
      elim (halt_by e) as (λ o. halt_by e ≡ o → (StoresNothing i before after old e × (added ≡ [])) ⊎ ((how : Halt) × (halt_by e ≡ Some how))) [
        | None ↦ λ mild. (let h = increments-refused before after events e old new rest order free a mild in inl (h.0, none-added added old new h.1 is))
        | Some how ↦ λ halts. inr (how, halts)
      ] refl

  -- Where a backup is refused that has its cause, and it made nothing; or the run ended.
  pub backup-refused : (before after : Known) (events : List Event) (answer : Result Sent Refusal) (result : Result Outcome Refusal) (old new : Machine) (added : List Entry) → IsAtRest old.core
      → Increments i.node i.filespace choice before.files before.faults after.faults events answer → ShowsSent answer result → AreFree events → Alone trusted places 0 events old new
      → new.core.journal ≡ old.core.journal ++ added → IsRefusedSo i before after old result added
  backup-refused before after events (Ok told) (Ok it) old new added rest order shows free a is = tt
  backup-refused before after events (Ok told) (Err e) old new added rest order shows free a is = absurd shows
  backup-refused before after events (Err e) result old new added rest order shows free a is =
      subst (λ (r : Result Outcome Refusal). IsRefusedSo i before after old r added) (sym shows) (refused-so before after events e old new added rest order free a is)
