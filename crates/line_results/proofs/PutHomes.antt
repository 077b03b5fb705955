-- Where a file goes, as it is asked, and the filespace that is defined for it.
use Rattle.std.proofs.Common.{◌≡◌, ◌⊎◌, inl, inr, ℕ, ◌==◌, Bool, true, false, cond, is_some, if◌then◌else◌, List, [], ◌∷◌, ◌++◌, Option, None, Some, Result, Ok, Err, refl, sym, ap, subst, ◌∙◌}
use Rattle.std.proofs.lemmas.Bool.{eq-eqb}
use Rattle.std.proofs.lemmas.Map.Lookups.{exact_unsigned}
use Rattle.std.specs.BTreeMap.{insert_entry}
use Rattle.std.specs.Map.{lookup}
use Rattle.std.specs.Ordering.{match_ordering, nat_cmp}
use Rattle.std.specs.declared.cmp.Ordering.TheVariants.{Less, Equal, Greater}
use Rattle.kinds.specs.Refusals.{bad_value, foremost, refusal_of}
use Rattle.kinds.specs.declared.change.DefineOrDelete.TheVariants as two
use Rattle.kinds.specs.declared.change.ObjectChange.TheVariants as client
use Rattle.kinds.specs.declared.refusal.Refusal.{Refusal}
use Rattle.kinds.specs.declared.refusal.Refusal.TheVariants as refused
use Rattle.choosers.specs.Rules.{class_of}
use Rattle.choosers.specs.declared.rule.Rule.{Rule}
use Rattle.client_plan.specs.Classes.{destination, has_class, is_left_out}
use Rattle.entries.specs.declared.change.Change.{Change}
use Rattle.entries.specs.declared.entry.Entry.{Entry}
use Rattle.inventory_rows.specs.object_rows.Changes.{rows_changed}
use Rattle.inventory_rows.specs.object_rows.Filespaces.{at_number}
use Rattle.inventory_rows.specs.object_rows.Names.{at_name, filespace_named, named_of, node_named}
use Rattle.inventory_rows.specs.object_rows.Rows.{Rows as Clients, with_filespaces}
use Rattle.inventory_rows.specs.version_groups.Entries.{if_found, on_ok}
use Rattle.inventory_rows.specs.version_groups.declared.groups.Filespace.{Filespace}
use Rattle.inventory_rows.specs.State.{Inv}
use Rattle.inventory_rules.specs.Common.{or_same}
use Rattle.inventory_rules.specs.Transactions.{causes, effect, refused as refused_by, sizes_refused, then_valid}
use Rattle.inventory_rules.specs.Valid.{is_valid}
use Rattle.inventory_rules.specs.Journal.{Journal}
use Rattle.inventory_work.specs.Found.{filespace_asked, filespace_found, number_found}
use Rattle.inventory_work.specs.Rules.{rules_of}
use Rattle.inventory_work.specs.declared.lines.Rules.{Rules}
use Rattle.inventory_work.specs.declared.search.Found.{Found}
use Rattle.inventory_work.specs.declared.search.Found.TheVariants as found
use Rattle.inventory_work.specs.declared.search.Named.TheVariants as thing
use Rattle.inventory_answers.specs.Answered.{answered, rows_of}
use Rattle.inventory_answers.specs.declared.query.Query.{Query}
use Rattle.inventory_answers.specs.declared.query.Query.TheVariants as query
use Rattle.inventory_answers.specs.declared.reply.Answer.{Answer}
use Rattle.inventory_answers.specs.declared.reply.Rows.{Rows}
use Rattle.inventory_answers.specs.declared.reply.Rows.TheVariants as rows
use Rattle.steps.specs.Events.{Event, has_number}
use Rattle.command_steps.specs.sessions.Asking.{Asks, unasked}
use Rattle.command_steps.specs.sessions.Homes.{home_at, home_in, home_of, home_under}
use Rattle.command_steps.specs.sessions.declared.homes.Home.{Home}
use Rattle.machine.specs.Alone.{Alone}
use Rattle.machine.specs.Causes.{change_illegal, change_refused, listed}
use Rattle.machine.specs.Machine.{Places}
use Rattle.machine.specs.State.{Core, Machine, after, inventory, sight}
use Rattle.machine.proofs.Elsewhere.{append-none, none-held}
use Rattle.line_results.specs.Files.{filespace_defined}
use Rattle.line_results.specs.Resting.{EndsRun, IsAtRest, database, why_not}
use Rattle.line_results.proofs.Asked.{EndsBy, Told, asked-unhalted, is_log}
use Rattle.line_results.proofs.PutNaming.{at-self}
use Rattle.line_results.proofs.Runs.{Became}

-- ---- a query of a session

ends-unasked : (old new : Machine) (e : Refusal) → EndsRun old new e → EndsRun old new (unasked e)
ends-unasked old new (refused.LogFault file count) h = h
ends-unasked old new refused.RunFull h = h
ends-unasked old new refused.Memory h = tt
ends-unasked old new e h = absurd h

pub rows-told : (r : Result Rows Refusal) (n today : ℕ) (answer : Answer) (k : Rows) → on_ok (λ (x : Rows). record { n = n; today = today; rows = x }) r ≡ Ok answer → answer.rows ≡ k → r ≡ Ok k
rows-told (Ok x) n today answer k h is = (let same : record { n = n; today = today; rows = x } ≡ answer = cc in ap Ok (ap (λ (a : Answer). a.rows) same ∙ is))
rows-told (Err e) n today answer k h is = absurd cc

pub err-of : {A B : Type 0} (f : A → B) (r : Result A Refusal) (e : Refusal) → on_ok f r ≡ Err e → r ≡ Err e
err-of f (Ok x) e h = absurd cc
err-of f (Err d) e h = (let same : d ≡ e = cc in ap Err same)

-- what is known behind it: the rows that the database has, or that it refuses so, or the run ended
abbrev pub AskedAs : {A : Type 0} → Query → (kind : A → Rows) → (old new : Machine) → Result A Refusal → Type 0
AskedAs q kind old new (Ok lines) = rows_of q (database old) ≡ Ok (kind lines)
AskedAs q kind old new (Err e) = (rows_of q (database old) ≡ Err e) ⊎ EndsRun old new e

unasked-either : (q : Query) (why : Refusal) (old new : Machine) → rows_of q (database old) ≡ Err why → (rows_of q (database old) ≡ Err (unasked why)) ⊎ EndsRun old new (unasked why)
unasked-either q why old new h = elim (has_number (10 ∷ 40 ∷ 41 ∷ []) why) as (λ b. (rows_of q (database old) ≡ Err (if b then why else refused.Memory)) ⊎ EndsRun old new (if b then why else refused.Memory)) [
  | true ↦ inl h
  | false ↦ inr tt
]

told-rows : (q : Query) (answer : Answer) (k : Rows) (old new : Machine) → answer.rows ≡ k → (Ok answer ≡ answered q (database old)) ⊎ EndsBy old new (Ok answer) → rows_of q (database old) ≡ Ok k
told-rows q answer k old new is (inl h) = rows-told (rows_of q (database old)) (database old).number (database old).today answer k (sym h) is
told-rows q answer k old new is (inr h) = absurd cc

told-err : (q : Query) (why : Refusal) (old new : Machine) → (Err why ≡ answered q (database old)) ⊎ EndsBy {A = Answer} old new (Err why)
    → (rows_of q (database old) ≡ Err (unasked why)) ⊎ EndsRun old new (unasked why)
told-err q why old new (inl h) = unasked-either q why old new (err-of (λ (x : Rows). record { n = (database old).number; today = (database old).today; rows = x }) (rows_of q (database old)) why (sym h))
told-err q why old new (inr h) = (let same : why ≡ h.0 = cc in inr (subst (λ (x : Refusal). EndsRun old new (unasked x)) (sym same) (ends-unasked old new h.0 h.2)))

-- where no fault has halted the machine
pub asks-unhalted : {A : Type 0} (trusted : Type 0) (places : Places) (q : Query) (kind : A → Rows) (result : Result A Refusal) (events : List Event) (old new : Machine) → is_log q ≡ false → old.core.fault ≡ None
    → Asks q kind events result → Alone trusted places 0 events old new → Became old.core old new × AskedAs q kind old new result
asks-unhalted trusted places q kind (Ok lines) events old new unlogged none h a =
    let t : Told q old new (Ok h.0) = asked-unhalted trusted places q (Ok h.0) events old new unlogged none h.2 a in
    (t.still, told-rows q h.0 (kind lines) old new h.1 t.told)
asks-unhalted trusted places q kind (Err e) events old new unlogged none (inl h) a =
    let t : Told q old new (Err h.0) = asked-unhalted trusted places q (Err h.0) events old new unlogged none h.2 a in
    (t.still, subst (λ (x : Refusal). (rows_of q (database old) ≡ Err x) ⊎ EndsRun old new x) (sym h.1) (told-err q h.0 old new t.told))
asks-unhalted trusted places q kind (Err e) events old new unlogged none (inr h) a =
    let t : Told q old new (Ok h.0) = asked-unhalted trusted places q (Ok h.0) events old new unlogged none h.2 a in
    (t.still, subst (λ (x : Refusal). (rows_of q (database old) ≡ Err x) ⊎ EndsRun old new x) (sym h.1) (inr tt))

pub asks-to : {A : Type 0} (trusted : Type 0) (places : Places) (q : Query) (kind : A → Rows) (result : Result A Refusal) (events : List Event) (old new : Machine) → is_log q ≡ false → IsAtRest old.core
    → Asks q kind events result → Alone trusted places 0 events old new → Became old.core old new × AskedAs q kind old new result
asks-to trusted places q kind result events old new unlogged rest h a = asks-unhalted trusted places q kind result events old new unlogged rest.fault h a

-- ---- what rows say

pub ok-of : {A B : Type 0} (f : A → B) (back : B → A) → ((x : A) → back (f x) ≡ x) → (r : Result A Refusal) (x : A) → on_ok f r ≡ Ok (f x) → r ≡ Ok x
ok-of f back inverse (Ok y) x h = (let same : f y ≡ f x = cc in ap Ok (sym (inverse y) ∙ ap back same ∙ inverse x))
ok-of f back inverse (Err e) x h = absurd cc

abbrev found-in : Rows → Found
found-in (rows.Lookup f) = f
found-in _ = found.Number 0

abbrev rules-in : Rules → Rows → Rules
rules-in other (rows.Rules r) = r
rules-in other _ = other

abbrev number-in : Found → ℕ
number-in (found.Number n) = n
number-in _ = 0

some-number : (o : Option ℕ) (n : ℕ) → number_found o ≡ Ok (found.Number n) → o ≡ Some n
some-number None n h = absurd cc
some-number (Some m) n h = (let same : found.Number m ≡ found.Number n = cc in ap Some (ap number-in same))

none-number : (o : Option ℕ) (e : Refusal) → number_found o ≡ Err e → (o ≡ None) × (e ≡ refused.NotFound)
none-number None e h = (refl, cc)
none-number (Some m) e h = absurd cc

pub node-of : (name : List ℕ) (n : ℕ) (v : Inv) → rows_of (query.Lookup (thing.Node name)) v ≡ Ok (rows.Lookup (found.Number n)) → node_named name v.clients.nodes ≡ Some n
node-of name n v h = some-number (node_named name v.clients.nodes) n (ok-of rows.Lookup found-in (λ x. refl) (number_found (node_named name v.clients.nodes)) (found.Number n) h)

pub no-node : (name : List ℕ) (e : Refusal) (v : Inv) → rows_of (query.Lookup (thing.Node name)) v ≡ Err e → (node_named name v.clients.nodes ≡ None) × (e ≡ refused.NotFound)
no-node name e v h = none-number (node_named name v.clients.nodes) e (err-of rows.Lookup (number_found (node_named name v.clients.nodes)) e h)

pub rules-told : (n : ℕ) (r : Rules) (v : Inv) → rows_of (query.Rules n) v ≡ Ok (rows.Rules r) → rules_of n v ≡ Ok r
rules-told n r v h = ok-of rows.Rules (rules-in r) (λ x. refl) (rules_of n v) r h

pub no-rules : (n : ℕ) (e : Refusal) (v : Inv) → rows_of (query.Rules n) v ≡ Err e → rules_of n v ≡ Err e
no-rules n e v h = err-of rows.Rules (rules_of n v) e h

some-asked : (o : Option ℕ) (n : ℕ) → if_found o Ok ≡ Ok n → o ≡ Some n
some-asked None n h = absurd cc
some-asked (Some m) n h = (let same : m ≡ n = cc in ap Some same)

none-asked : (o : Option ℕ) (e : Refusal) → if_found o Ok ≡ Err e → (o ≡ None) × (e ≡ refused.NotFound)
none-asked None e h = (refl, cc)
none-asked (Some m) e h = absurd cc

pub asked-there : (node name : List ℕ) (k : ℕ) (c : Clients) → node_named node c.nodes ≡ Some k → filespace_asked node name c ≡ if_found (filespace_named k name c.filespaces) Ok
asked-there node name k c h = rw h refl

pub filespace-of : (node name : List ℕ) (k n : ℕ) (v : Inv) → node_named node v.clients.nodes ≡ Some k → rows_of (query.Lookup (thing.Filespace node name)) v ≡ Ok (rows.Lookup (found.Number n))
    → filespace_named k name v.clients.filespaces ≡ Some n
filespace-of node name k n v known h =
    let it : filespace_asked node name v.clients ≡ Ok n = ok-of found.Number number-in (λ x. refl) (filespace_asked node name v.clients) n (ok-of rows.Lookup found-in (λ x. refl) (filespace_found node name v.clients) (found.Number n) h) in
    some-asked (filespace_named k name v.clients.filespaces) n (sym (asked-there node name k v.clients known) ∙ it)

pub no-filespace : (node name : List ℕ) (k : ℕ) (e : Refusal) (v : Inv) → node_named node v.clients.nodes ≡ Some k → rows_of (query.Lookup (thing.Filespace node name)) v ≡ Err e
    → (filespace_named k name v.clients.filespaces ≡ None) × (e ≡ refused.NotFound)
no-filespace node name k e v known h =
    let it : filespace_asked node name v.clients ≡ Err e = err-of found.Number (filespace_asked node name v.clients) e (err-of rows.Lookup (filespace_found node name v.clients) e h) in
    none-asked (filespace_named k name v.clients.filespaces) e (sym (asked-there node name k v.clients known) ∙ it)

-- ---- a home is of its node

home-there : (node : ℕ) (class : List ℕ) (pool : Option ℕ) (home : Home) → home_at node class pool ≡ Ok home → home.node ≡ node
home-there node class None home h = absurd cc
home-there node class (Some pool) home h = (let same : record { node = node; class = class; pool = pool } ≡ home = cc in sym (ap (λ (x : Home). x.node) same))

home-class : (node : ℕ) (r : Rules) (class : Option (List ℕ)) (home : Home) → home_under node r class ≡ Ok home → home.node ≡ node
home-class node r None home h = absurd cc
home-class node r (Some class) home h = home-there node class (destination r class) home h

home-default : (node : ℕ) (r : Rules) (default : Option (List ℕ)) (choice : List Rule) (path : List ℕ) (home : Home) → home_in node r default choice path ≡ Ok home → home.node ≡ node
home-default node r None choice path home h = absurd cc
home-default node r (Some default) choice path home h = home-class node r (class_of (has_class r.classes) default choice path) home h

pub home-node : (node : ℕ) (r : Rules) (choice : List Rule) (path : List ℕ) (home : Home) → home_of node r choice path ≡ Ok home → home.node ≡ node
home-node node r choice path home h =
    elim (is_left_out choice path) as (λ b. (if b then Err bad_value else home_in node r r.default_class choice path) ≡ Ok home → home.node ≡ node) [
      | true ↦ λ s. absurd cc
      | false ↦ λ s. home-default node r r.default_class choice path home s
    ] h

-- ---- the filespace that is defined

-- the entry with the name that nothing had has it
named-new : (node number : ℕ) (name : List ℕ) (f : Filespace) (es : List (ℕ × Filespace)) → f.node ≡ node → at_name name f.name ≡ true → filespace_named node name es ≡ None
    → filespace_named node name (insert_entry nat_cmp es number f) ≡ Some number
named-new node number name f [] same at none = rw (eq-eqb f.node node same) (rw at refl)
named-new node number name f (e ∷ es) same at none =
    elim (nat_cmp number e.0) as (λ r. nat_cmp number e.0 ≡ r → filespace_named node name (match_ordering r ((number, f) ∷ e ∷ es) ((e.0, f) ∷ es) (e ∷ insert_entry nat_cmp es number f)) ≡ Some number) [
      | Less ↦ λ _. rw (eq-eqb f.node node same) (rw at refl)
      | Equal ↦ λ is. rw (eq-eqb f.node node same) (rw at (ap Some (sym (exact_unsigned number e.0 is))))
      | Greater ↦ λ _. elim (e.1.node == node) as (λ b. lookup (at_name name) ((if b then (e.1.name, e.0) ∷ [] else []) ++ named_of node es) ≡ None
          → lookup (at_name name) ((if b then (e.1.name, e.0) ∷ [] else []) ++ named_of node (insert_entry nat_cmp es number f)) ≡ Some number) [
            | true ↦ λ n. elim (at_name name e.1.name) as (λ b. cond b (Some e.0) (lookup (at_name name) (named_of node es)) ≡ None
                → cond b (Some e.0) (lookup (at_name name) (named_of node (insert_entry nat_cmp es number f))) ≡ Some number) [
                  | true ↦ λ s. absurd cc
                  | false ↦ λ s. named-new node number name f es same at s
                ] n
            | false ↦ λ n. named-new node number name f es same at n
          ] none
    ] refl

refusal-none : {S : Type 0} (r : Result S Refusal) → refusal_of r ≡ [] → (x : S) × (r ≡ Ok x)
refusal-none (Ok x) h = (x, refl)
refusal-none (Err e) h = absurd cc

listed-none : (o : Option Refusal) → listed o ≡ [] → o ≡ None
listed-none None h = refl
listed-none (Some e) h = absurd cc

valid-none : (o : Option Refusal) (valid : Bool) → then_valid o valid ≡ None → o ≡ None
valid-none None valid h = refl
valid-none (Some e) valid h = absurd cc

refused-none : (j : Journal) (c : Change) (v : Inv) → refused_by j c v ≡ None → causes j c v ≡ []
unfolding refused_by
refused-none j c v h = (append-none (causes j c v) (sizes_refused c v) (none-held (causes j c v ++ sizes_refused c v) (valid-none (foremost (causes j c v ++ sizes_refused c v)) (is_valid (effect c v)) h))).0

legal : (c : Change) (core : Core) → why_not c core ≡ None → refused_by (sight 0 core).journal c (inventory core) ≡ None
legal c core h = listed-none (refused_by (sight 0 core).journal c (inventory core)) (append-none (change_illegal c (sight 0 core)) _ (none-held (change_refused 0 (Some c) (sight 0 core)) h)).0

clients-behind : (node : ℕ) (name : List ℕ) (v : Inv) (rows : Clients) → or_same v.clients (rows_changed (client.Filespace two.Define node name v.next_filespace) v.next_node v.clients) ≡ rows → (effect (filespace_defined node name v) v).clients ≡ rows
unfolding effect
clients-behind node name v rows h = h

-- which rows there are then
defined-rows : (node : ℕ) (name : List ℕ) (v : Inv) (x : Clients) → rows_changed (client.Filespace two.Define node name v.next_filespace) v.next_node v.clients ≡ Ok x → filespace_named node name v.clients.filespaces ≡ None
    → (x.nodes ≡ v.clients.nodes) × (filespace_named node name x.filespaces ≡ Some v.next_filespace)
defined-rows node name v x h none =
    let f : Filespace = record { node = node; name = name; groups = [] } in
    let es : List (ℕ × Filespace) = v.clients.filespaces in
    elim (lookup (at_number node) v.clients.nodes) as (λ o. with_filespaces v.clients (if_found o (λ _. if is_some (filespace_named node name es) then Err refused.Exists else Ok (insert_entry nat_cmp es v.next_filespace f))) ≡ Ok x
    → (x.nodes ≡ v.clients.nodes) × (filespace_named node name x.filespaces ≡ Some v.next_filespace)) [
      | None ↦ λ s. absurd cc
      | Some it ↦ λ s. elim (filespace_named node name es) as (λ o. with_filespaces v.clients (if is_some o then Err refused.Exists else Ok (insert_entry nat_cmp es v.next_filespace f)) ≡ Ok x
          → (x.nodes ≡ v.clients.nodes) × (filespace_named node name x.filespaces ≡ Some v.next_filespace)) [
            | Some number ↦ λ t. absurd cc
            | None ↦ λ t. (let same : record { nodes = v.clients.nodes; filespaces = insert_entry nat_cmp es v.next_filespace f; held = v.clients.held } ≡ x = cc in (
              sym (ap (λ (c : Clients). c.nodes) same),
              ap (λ (c : Clients). filespace_named node name c.filespaces) (sym same) ∙ named-new node v.next_filespace name f es refl (at-self name) none,
            ))
          ] s
    ] h

-- where the database doesn't refuse it
pub defined-so : (j : Journal) (node : ℕ) (name : List ℕ) (v : Inv) → refused_by j (filespace_defined node name v) v ≡ None → filespace_named node name v.clients.filespaces ≡ None
    → ((effect (filespace_defined node name v) v).clients.nodes ≡ v.clients.nodes) × (filespace_named node name (effect (filespace_defined node name v) v).clients.filespaces ≡ Some v.next_filespace)
defined-so j node name v legal none =
    let it : Change = filespace_defined node name v in
    let held = append-none (refusal_of (rows_changed (client.Filespace two.Define node name v.next_filespace) v.next_node v.clients)) _ (refused-none j it v legal) in
    let made = refusal-none (rows_changed (client.Filespace two.Define node name v.next_filespace) v.next_node v.clients) held.0 in
    let x : Clients = made.0 in
    let left : (effect it v).clients ≡ x = clients-behind node name v x (ap (or_same v.clients) made.1) in
    let d = defined-rows node name v x made.1 none in
    (ap (λ (c : Clients). c.nodes) left ∙ d.0, ap (λ (c : Clients). filespace_named node name c.filespaces) left ∙ d.1)

pub defined-there : (node : ℕ) (name : List ℕ) (core : Core) → why_not (filespace_defined node name (inventory core)) core ≡ None → filespace_named node name (inventory core).clients.filespaces ≡ None
    → ((effect (filespace_defined node name (inventory core)) (inventory core)).clients.nodes ≡ (inventory core).clients.nodes)
    × (filespace_named node name (effect (filespace_defined node name (inventory core)) (inventory core)).clients.filespaces ≡ Some (inventory core).next_filespace)
defined-there node name core why none = defined-so (sight 0 core).journal node name (inventory core) (legal (filespace_defined node name (inventory core)) core why) none

-- ---- one transaction more

pub after-one : (v : Inv) (entries : List Entry) (e : Entry) → after v (entries ++ e ∷ []) ≡ effect e.change (after v entries)
after-one v [] e = refl
after-one v (x ∷ entries) e = after-one (effect x.change v) entries e
