-- A PUT, where one actor has the machine alone and it was at rest: what it comes to.
use Rattle.std.proofs.Common.{◌≡◌, ◌⊎◌, inl, inr, ℕ, ◌+◌, ◌-◌, ◌==◌, nat_le, nat_lt, ◌^◌, Bool, true, false, is_some, if◌then◌else◌, List, [], ◌∷◌, ◌++◌, length, append_assoc, Option, None, Some, Result, Ok, Err, refl, sym, ap, subst, ◌∙◌, arith}
use Rattle.std.specs.List.{AllByRecursion}
use Rattle.std.specs.BTreeMap.{insert_entry}
use Rattle.std.specs.Map.{lookup}
use Rattle.std.specs.Ordering.{nat_cmp}
use Rattle.kinds.specs.Answers.{Answers}
use Rattle.kinds.specs.Refusals.{bad_value, foremost, refusal_of, unless}
use Rattle.kinds.specs.declared.change.DefineOrDelete.TheVariants as two
use Rattle.kinds.specs.declared.change.ObjectChange.TheVariants as client
use Rattle.kinds.specs.declared.refusal.Refusal.{Refusal}
use Rattle.kinds.specs.declared.refusal.Refusal.TheVariants as refused
use Rattle.choosers.specs.Rules.{class_of}
use Rattle.choosers.specs.declared.rule.Rule.{Rule}
use Rattle.client_plan.specs.Classes.{destination, has_class, is_left_out}
use Rattle.entries.specs.EntryForm.{entry as entry_form}
use Rattle.entries.specs.declared.change.Change.{Change}
use Rattle.entries.specs.declared.entry.Entry.{Entry}
use Rattle.inventory_rows.specs.object_rows.Changes.{rows_changed}
use Rattle.inventory_rows.specs.object_rows.Filespaces.{at_number}
use Rattle.inventory_rows.specs.object_rows.Names.{filespace_named, node_named}
use Rattle.inventory_rows.specs.object_rows.Rows.{with_filespaces}
use Rattle.inventory_rows.specs.version_groups.Entries.{if_found}
use Rattle.inventory_rows.specs.Items.{count_items, most_items}
use Rattle.inventory_rows.specs.Search.{domain_of_node}
use Rattle.inventory_rows.specs.State.{Inv}
use Rattle.inventory_rules.specs.Journal.{Journal}
use Rattle.inventory_rules.specs.Transactions.{causes, effect, refused as refused_by, sizes_refused, then_valid}
use Rattle.inventory_rules.specs.Valid.{is_valid}
use Rattle.inventory_work.specs.Rules.{rules_in, rules_of}
use Rattle.inventory_work.specs.declared.lines.Rules.{Rules}
use Rattle.inventory_work.specs.declared.search.Found.TheVariants as found
use Rattle.inventory_work.specs.declared.search.Named.TheVariants as thing
use Rattle.inventory_answers.specs.declared.query.Query.TheVariants as query
use Rattle.inventory_answers.specs.declared.reply.Rows.TheVariants as rows
use Rattle.steps.specs.Events.{Event, has_number}
use Rattle.admin_words.specs.declared.files.FilePut.{FilePut}
use Rattle.command_steps.specs.Doing.{PutsText}
use Rattle.command_steps.specs.Owns.{file_put, row_put}
use Rattle.command_steps.specs.sessions.Asking.{AsksRules}
use Rattle.command_steps.specs.sessions.Changing.{Changing}
use Rattle.command_steps.specs.sessions.Homes.{home_at, home_in, home_of, home_under}
use Rattle.command_steps.specs.sessions.InTurn.{Decides, InTurn, OrMemory}
use Rattle.command_steps.specs.sessions.Putting as putting
use Rattle.command_steps.specs.sessions.Putting.{AsksFor, defined, defined_by, is_unplaced, there_or_not, unplaced}
use Rattle.command_steps.specs.sessions.declared.homes.Home.{Home}
use Rattle.machine.specs.Alone.{Alone}
use Rattle.machine.specs.Causes.{change_illegal, change_refused, listed}
use Rattle.machine.specs.Machine.{Places, made, record_length, records_length, stamped}
use Rattle.machine.specs.State.{Core, Machine, inventory, sight}
use Rattle.machine.proofs.Elsewhere.{append-all, foremost-all, unless-all}
use Rattle.line_results.specs.Files.{Puts, PutsBy, PutsHome, PutsOf, PutsUnder, filespace_defined}
use Rattle.line_results.specs.Resting.{Adds, Breaks, Commits, EndsRun, HasSizes, IsAtRest, Leaves, LogEnds, Makes, NobodyHolds, Onward, SameImage, database, entry, has_ended, why_not}
use Rattle.line_results.proofs.Changed.{Changed, changes, makes}
use Rattle.line_results.proofs.Leaving.{rest-as, still-leaves}
use Rattle.line_results.proofs.PutHomes.{after-one, asks-to, defined-there, filespace-of, home-node, no-filespace, no-node, no-rules, node-of, rules-told}
use Rattle.line_results.proofs.PutIn.{err-is, leaves-since, ok-is, puts-in-since, stored-since}
use Rattle.line_results.proofs.PutStored.{DoneOr, IsOther, IsStored, err-other, lasting-other, run-ended, stamped-all, unplaced-other}
use Rattle.line_results.proofs.Runs.{Became, alone-none, alone-parts, as_is, became-same, became-still, ends-since, is-as, onward-then}

-- ---- a PUT that ends before anything is stored

-- the run ended before a transaction was made, or this
abbrev Or : (Is : Result ℕ Refusal → List Entry → Type 0) → (old new : Machine) → Result ℕ Refusal → List Entry → Type 0
Or Is old new result added = (Breaks old new result added × (new.contents ≡ old.contents)) ⊎ Is result added

done-other : (Is Or_ : Result ℕ Refusal → List Entry → Type 0) (result : Result ℕ Refusal) (old new : Machine) → ((r : Result ℕ Refusal) (added : List Entry) → Is r added → Or_ r added) → DoneOr Is result old new
    → DoneOr Or_ result old new
done-other Is Or_ result old new f (inl h) = inl ((h.0.0, f result h.0.0 h.0.1, h.0.2, h.0.3), h.1)
done-other Is Or_ result old new f (inr h) = inr (h.0, (h.1.0, f (Err refused.Memory) h.1.0 h.1.1, h.1.2, h.1.3))

-- nothing changed, and this was answered
still-done : (Is : Result ℕ Refusal → List Entry → Type 0) (e : Refusal) (result : Result ℕ Refusal) (old new : Machine) → IsAtRest old.core → Became old.core old new → Is (Err e) [] → IsOther e → result ≡ Err e
    → DoneOr Is result old new
still-done Is e result old new rest b is other said =
    subst (λ (r : Result ℕ Refusal). DoneOr Is r old new) (sym said) (inl (([], is, ap (λ (c : Core). c.generation) b.core, still-leaves (Err e) old new rest b), err-other e other))

broke : (Is : Result ℕ Refusal → List Entry → Type 0) (e : Refusal) (result : Result ℕ Refusal) (old new : Machine) → IsAtRest old.core → Became old.core old new → EndsRun old new e → result ≡ Err e
    → DoneOr (Or Is old new) result old new
broke Is e result old new rest b ends said = still-done (Or Is old new) e result old new rest b (inl ((ends, refl), b.contents)) (lasting-other e (run-ended old new e ends)) said

memory-ends : (old new : Machine) (e : Refusal) → e ≡ refused.Memory → EndsRun old new e
memory-ends old new e memory = subst (λ (x : Refusal). EndsRun old new x) (sym memory) tt

-- memory was wanted before a call
none-made : (A : Type 0) (trusted : Type 0) (places : Places) (e : Refusal) (r : Result A Refusal) (events : List Event) (old new : Machine) → r ≡ Err e → (events ≡ []) × (r ≡ Err refused.Memory)
    → Alone trusted places 0 events old new → Became old.core old new × EndsRun old new e
none-made A trusted places e r events old new is h a =
    (became-same old new (alone-none trusted places 0 events old new h.0 a), memory-ends old new e (err-is A e refused.Memory r is h.1))

-- ---- a filespace is looked for

ends-there : (old new : Machine) (e : Refusal) → EndsRun old new e → there_or_not (Err e) ≡ Err e
ends-there old new (refused.LogFault file count) h = refl
ends-there old new refused.RunFull h = refl
ends-there old new refused.Memory h = refl
ends-there old new e h = absurd h

-- what is known of it, or the run ended
abbrev IsLooked : (node : ℕ) → (name : List ℕ) → (old new : Machine) → Result (Option ℕ) Refusal → Type 0
IsLooked node name old new r = (r ≡ Ok (filespace_named node name (database old).clients.filespaces)) ⊎ ((e : Refusal) × (r ≡ Err e) × EndsRun old new e)

-- what is known of its number
abbrev IsNumbered : (node : ℕ) → (name : List ℕ) → (old new : Machine) → Result ℕ Refusal → Type 0
IsNumbered node name old new (Ok n) = filespace_named node name (database old).clients.filespaces ≡ Some n
IsNumbered node name old new (Err e) = ((filespace_named node name (database old).clients.filespaces ≡ None) × (e ≡ refused.NotFound)) ⊎ EndsRun old new e

numbered : (trusted : Type 0) (places : Places) (node : ℕ) (name filespace : List ℕ) (events : List Event) (answer : Result ℕ Refusal) (old new : Machine) → IsAtRest old.core
    → node_named name (database old).clients.nodes ≡ Some node → AsksFor name filespace events answer → Alone trusted places 0 events old new → Became old.core old new × IsNumbered node filespace old new answer
numbered trusted places node name filespace events (Ok n) old new rest known (inl h) a =
    let k = asks-to trusted places (query.Lookup (thing.Filespace name filespace)) (λ n. rows.Lookup (found.Number n)) (Ok n) events old new refl rest h a in
    (k.0, filespace-of name filespace node n (database old) known k.1)
numbered trusted places node name filespace events (Err e) old new rest known (inl h) a =
    let k = asks-to trusted places (query.Lookup (thing.Filespace name filespace)) (λ n. rows.Lookup (found.Number n)) (Err e) events old new refl rest h a in (
      k.0,
      elim k.1 as (λ _. ((filespace_named node filespace (database old).clients.filespaces ≡ None) × (e ≡ refused.NotFound)) ⊎ EndsRun old new e) [
        | inl refuses ↦ inl (no-filespace name filespace node e (database old) known refuses)
        | inr ends ↦ inr ends
      ],
    )
numbered trusted places node name filespace events (Ok n) old new rest known (inr h) a = absurd cc
numbered trusted places node name filespace events (Err e) old new rest known (inr h) a =
    let k = none-made ℕ trusted places e (Err e) events old new refl h a in (k.0, inr k.1)

looked-by : (node : ℕ) (name : List ℕ) (answer : Result ℕ Refusal) (r : Result (Option ℕ) Refusal) (old new : Machine) → r ≡ there_or_not answer → IsNumbered node name old new answer → IsLooked node name old new r
looked-by node name (Ok n) r old new is h = inl (is ∙ ap Ok (sym h))
looked-by node name (Err e) r old new is (inl h) = inl (is ∙ ap (λ (x : Refusal). there_or_not (Err x)) h.1 ∙ ap Ok (sym h.0))
looked-by node name (Err e) r old new is (inr ends) = inr (e, is ∙ ends-there old new e ends, ends)

looks-to : (trusted : Type 0) (places : Places) (node : ℕ) (name filespace : List ℕ) (events : List Event) (r : Result (Option ℕ) Refusal) (old new : Machine) → IsAtRest old.core
    → node_named name (database old).clients.nodes ≡ Some node → putting.Looks name filespace events r → Alone trusted places 0 events old new → Became old.core old new × IsLooked node filespace old new r
looks-to trusted places node name filespace events r old new rest known h a =
    let k = numbered trusted places node name filespace events h.0 old new rest known h.1 a in (k.0, looked-by node filespace h.0 r old new h.2 k.1)

-- ---- it isn't defined

-- a filespace that isn't there is not refused because it is
abbrev IsNew : Refusal → Type 0
IsNew e = e ≡ refused.Exists → ⊥

listed-new : (o : Option Refusal) → ((e : Refusal) → o ≡ Some e → IsNew e) → AllByRecursion IsNew (listed o)
listed-new None h = tt
listed-new (Some e) h = (h e refl, tt)

valid-new : (o : Option Refusal) (valid : Bool) (e : Refusal) → ((d : Refusal) → o ≡ Some d → IsNew d) → then_valid o valid ≡ Some e → IsNew e
valid-new (Some d) valid e h is exists = (let same : d ≡ e = cc in h d refl (same ∙ exists))
valid-new None true e h is exists = absurd cc
valid-new None false e h is exists = (let same : bad_value ≡ e = cc in let w : bad_value ≡ refused.Exists = same ∙ exists in absurd cc)

rows-new : (node : ℕ) (name : List ℕ) (v : Inv) → filespace_named node name v.clients.filespaces ≡ None
    → AllByRecursion IsNew (refusal_of (rows_changed (client.Filespace two.Define node name v.next_filespace) v.next_node v.clients))
rows-new node name v none = elim (lookup (at_number node) v.clients.nodes) as (λ o. AllByRecursion IsNew (refusal_of (with_filespaces v.clients (if_found o (λ _.
    if is_some (filespace_named node name v.clients.filespaces) then Err refused.Exists else Ok (insert_entry nat_cmp v.clients.filespaces v.next_filespace (record { node = node; name = name; groups = [] }))))))) [
      | None ↦ ((λ s. absurd cc), tt)
      | Some it ↦ subst (λ (o : Option ℕ). AllByRecursion IsNew (refusal_of (with_filespaces v.clients
          (if is_some o then Err refused.Exists else Ok (insert_entry nat_cmp v.clients.filespaces v.next_filespace (record { node = node; name = name; groups = [] })))))) (sym none) tt
    ]

two-new : (a b : Bool) (x y : Refusal) → IsNew x → IsNew y → AllByRecursion IsNew (unless a x ++ unless b y)
two-new a b x y f g = append-all IsNew (unless a x) (unless b y) (unless-all IsNew a x f) (unless-all IsNew b y g)

refused-new : (j : Journal) (node : ℕ) (name : List ℕ) (v : Inv) (e : Refusal) → filespace_named node name v.clients.filespaces ≡ None → refused_by j (filespace_defined node name v) v ≡ Some e → IsNew e
unfolding refused_by
refused-new j node name v e none h =
    valid-new (foremost (causes j (filespace_defined node name v) v ++ sizes_refused (filespace_defined node name v) v)) (is_valid (effect (filespace_defined node name v) v)) e
    (λ d is. foremost-all IsNew (causes j (filespace_defined node name v) v ++ sizes_refused (filespace_defined node name v) v)
    (append-all IsNew (causes j (filespace_defined node name v) v) _
    (append-all IsNew (refusal_of (rows_changed (client.Filespace two.Define node name v.next_filespace) v.next_node v.clients)) _ (rows-new node name v none)
    (two-new (v.next_filespace == v.next_filespace) (nat_lt (v.next_filespace + 1) (2 ^ 32 - 1)) bad_value refused.InventoryFull (λ s. absurd cc) (λ s. absurd cc)))
    (two-new (nat_le (count_items (effect (filespace_defined node name v) v)) most_items) (nat_lt (v.number + 1) (2 ^ 62)) refused.InventoryFull refused.InventoryFull (λ s. absurd cc) (λ s. absurd cc))) d is) h

never-exists : (node : ℕ) (name : List ℕ) (c : Core) → filespace_named node name (inventory c).clients.filespaces ≡ None → why_not (filespace_defined node name (inventory c)) c ≡ Some refused.Exists → ⊥
never-exists node name c none h =
    let it : Change = filespace_defined node name (inventory c) in
    foremost-all IsNew (change_refused 0 (Some it) (sight 0 c))
    (append-all IsNew (change_illegal it (sight 0 c)) _
    (listed-new (refused_by (sight 0 c).journal it (inventory c)) (λ e is. refused-new (sight 0 c).journal node name (inventory c) e none is))
    (unless-all IsNew (nat_le (length (entry_form.spell (entry it))) (2 ^ 24)) refused.RecordFull (λ s. absurd cc))) refused.Exists h refl

ends-unplaced : (old new : Machine) (e : Refusal) → EndsRun old new e → EndsRun old new (unplaced e)
ends-unplaced old new (refused.LogFault file count) h = h
ends-unplaced old new refused.RunFull h = h
ends-unplaced old new refused.Memory h = tt
ends-unplaced old new e h = absurd h

-- what the session answers for it
unplaced-commits : (c : Change) (e : Refusal) (added : List Entry) (old new : Machine) → Commits {A = ℕ} c old new (Err e) added → Commits {A = Unit {0}} c old new (Err (unplaced e)) added
unplaced-commits c e added old new (inr h) = inr (ends-unplaced old new e h.0, h.1)
unplaced-commits c e added old new (inl h) =
    elim (is_unplaced e) as (λ b. Commits {A = Unit {0}} c old new (Err (if b then e else refused.Memory)) added) [
      | true ↦ inl h
      | false ↦ inr (tt, inl h.1)
    ]

not-broken : (e : Refusal) → is_unplaced e ≡ false → has_number (40 ∷ 41 ∷ []) e ≡ false
not-broken (refused.LogFault file count) h = absurd cc
not-broken refused.RunFull h = absurd cc
not-broken e h = refl

-- what is left of it, by what is answered
unplaced-leaves : (e : Refusal) (added : List Entry) (old new : Machine) → Leaves {A = ℕ} (Err e) added old new → Leaves {A = ℕ} (Err (unplaced e)) added old new
unplaced-leaves e added old new l = elim (is_unplaced e) as (λ b. is_unplaced e ≡ b → Leaves {A = ℕ} (Err (if b then e else refused.Memory)) added old new) [
  | true ↦ λ _. l
  | false ↦ λ not. record {
    adds = l.adds;
    onward = l.onward;
    log = l.log;
    nearly = l.nearly;
    rests = λ s. absurd cc;
    durable = λ _. elim (l.durable (not-broken e not)) as (λ _. (length new.core.stamps ≡ length new.core.journal) ⊎ ((true ≡ true) × (added ≡ [] → ⊥))) [
      | inl all ↦ inl all
      | inr more ↦ inr (refl, more.1)
    ];
  }
] refl

-- ---- it is defined

abbrev NewSpace : FilePut → Home → Machine → Change
NewSpace p home old = filespace_defined home.node p.filespace (database old)

-- behind a change that was made
more-adds : (c : Change) (more : List Entry) (old mid new : Machine) → Makes c old mid → Adds more mid new → Adds (entry c ∷ more) old new
more-adds c more old mid new m a = record {
  base = a.base ∙ ap (λ (x : Core). x.base) m.1;
  journal = a.journal ∙ ap (λ (l : List Entry). l ++ more) (ap (λ (x : Core). x.journal) m.1) ∙ append_assoc old.core.journal (entry c ∷ []) more;
}

more-log : (c : Change) (more : List Entry) (old mid new : Machine) → Makes c old mid → LogEnds more mid new → LogEnds (entry c ∷ more) old new
more-log c more old mid new m (inl l) =
    let first : mid.core.log_length ≡ old.core.log_length + record_length (entry c) = ap (λ (x : Core). x.log_length) m.1 in
    let second : new.core.log_length ≡ mid.core.log_length + records_length more = l.1 in
    inl (l.0 ∙ ap (λ (x : Core). x.generation) m.1, omega (arith, first, second))
more-log c more old mid new m (inr l) = inr (l.0 ∙ ap (λ (x : Core). x.generation + 1) m.1, l.1)

more-leaves : (result : Result ℕ Refusal) (c : Change) (more : List Entry) (old mid new : Machine) → Makes c old mid → Leaves result more mid new → Leaves result (entry c ∷ more) old new
more-leaves result c more old mid new m l = record {
  adds = more-adds c more old mid new m l.adds;
  onward = onward-then old mid new m.3 l.onward;
  log = more-log c more old mid new m l.log;
  nearly = l.nearly;
  rests = l.rests;
  durable = λ not. elim (l.durable not) as (λ _. (length new.core.stamps ≡ length new.core.journal) ⊎ ((has_ended result ≡ true) × (entry c ∷ more ≡ [] → ⊥))) [
    | inl all ↦ inl all
    | inr ended ↦ inr (ended.0, λ none. absurd cc)
  ];
}

rest-made : (c : Change) (old mid : Machine) → IsAtRest old.core → Makes c old mid → IsAtRest mid.core
rest-made c old mid rest m = rest-as mid.core (stamped m.0 (made 0 c old.core)) m.1 (record {
  tickets = rest.tickets;
  image = rest.image;
  durable = stamped-all m.0 old.core (made 0 c old.core) (entry c) rest.durable refl refl;
  fault = rest.fault;
})

database-made : (c : Change) (old mid : Machine) → Makes c old mid → database mid ≡ effect c (database old)
database-made c old mid m = ap inventory m.1 ∙ after-one old.core.base old.core.journal (entry c)

abbrev IsUnder : Places → Option ℕ → FilePut → Home → (old new : Machine) → Result ℕ Refusal → List Entry → Type 0
IsUnder places found p home old new result added = Or (λ r entries. PutsUnder places found p home old new r entries) old new result added

-- the file is stored in it
defined-done : (places : Places) (p : FilePut) (home : Home) (result : Result ℕ Refusal) (old mid new : Machine) → why_not (NewSpace p home old) old.core ≡ None → Makes (NewSpace p home old) old mid → Onward mid new
    → DoneOr (IsStored places p home (database old).next_filespace mid new) result mid new → DoneOr (IsUnder places None p home old new) result old new
defined-done places p home result old mid new none m on (inl h) =
    inl ((entry (NewSpace p home old) ∷ h.0.0, inr (inr (mid, h.0.0, none, m, on, refl, h.0.1)), h.0.2 ∙ ap (λ (x : Core). x.generation) m.1, more-leaves result (NewSpace p home old) h.0.0 old mid new m h.0.3), h.1)
defined-done places p home result old mid new none m on (inr h) =
    inr (
      h.0,
      (
        entry (NewSpace p home old) ∷ h.1.0,
        inr (inr (mid, h.1.0, none, m, on, refl, h.1.1)),
        h.1.2 ∙ ap (λ (x : Core). x.generation) m.1,
        more-leaves (Err refused.Memory) (NewSpace p home old) h.1.0 old mid new m h.1.3,
      ),
    )

-- the run ended behind it
defined-broke : (places : Places) (p : FilePut) (home : Home) (e : Refusal) (result : Result ℕ Refusal) (old mid new : Machine) → IsAtRest mid.core → why_not (NewSpace p home old) old.core ≡ None → Makes (NewSpace p home old) old mid
    → Became mid.core mid new → EndsRun mid new e → result ≡ Err e → DoneOr (IsUnder places None p home old new) result old new
defined-broke places p home e result old mid new rest none m b ends said =
    defined-done places p home result old mid new none m b.onward
    (still-done (IsStored places p home (database old).next_filespace mid new) e result mid new rest b (inl ((ends, refl), b.contents)) (lasting-other e (run-ended mid new e ends)) said)

-- it wasn't defined
undefined-done : (places : Places) (p : FilePut) (home : Home) (e : Refusal) (result : Result ℕ Refusal) (old new : Machine) → Changed (defined home.node p.filespace) old new (Err e) → result ≡ Err (unplaced e)
    → DoneOr (IsUnder places None p home old new) result old new
undefined-done places p home e result old new c said =
    let none : Commits {A = Unit {0}} (NewSpace p home old) old new (Err (unplaced e)) c.added = unplaced-commits (NewSpace p home old) e c.added old new c.commits in
    subst (λ (r : Result ℕ Refusal). DoneOr (IsUnder places None p home old new) r old new) (sym said)
    (inl ((c.added, inr (inl (unplaced e, refl, none, c.bytes)), c.image, unplaced-leaves e c.added old new c.leaves), err-other (unplaced e) (unplaced-other e)))

exists-never : (p : FilePut) (home : Home) (old new : Machine) → filespace_named home.node p.filespace (database old).clients.filespaces ≡ None → Changed (defined home.node p.filespace) old new (Err refused.Exists) → ⊥
exists-never p home old new none c = elim c.commits as (λ _. ⊥) [
  | inl h ↦ never-exists home.node p.filespace old.core none h.0
  | inr h ↦ h.0
]

-- ---- it is found or defined, and the file stored in it

some-is : {A : Type 0} (a b : A) (o : Option A) → o ≡ Some a → o ≡ Some b → a ≡ b
some-is a b o h k = cc

done-onward : (places : Places) (p : FilePut) (home : Home) (filespace : ℕ) (result : Result ℕ Refusal) (old new : Machine) → DoneOr (IsStored places p home filespace old new) result old new → Onward old new
done-onward places p home filespace result old new (inl h) = h.0.3.onward
done-onward places p home filespace result old new (inr h) = h.1.3.onward

-- behind the number's question: the file is put in the filespace; or that was refused so, and nothing follows
abbrev ThenIn : (trusted : Type 0) → Places → FilePut → Home → List Event → Result ℕ Refusal → Result ℕ Refusal → (old new : Machine) → Type 0
ThenIn trusted places p home events (Ok n) result old new = putting.PutsIn p.node p.filespace (Some (file_put p)) (row_put p) home n events result × Alone trusted places 0 events old new
ThenIn trusted places p home events (Err e) result old new = (result ≡ Err e) × (new ≡ old)

-- what is behind the definition, with its number asked again
behind-defined : (trusted : Type 0) (places : Places) (p : FilePut) (home : Home) (xs ys : List Event) (answer result : Result ℕ Refusal) (old mid then_ new : Machine) → NobodyHolds places → IsAtRest old.core
    → node_named p.node (database old).clients.nodes ≡ Some home.node → filespace_named home.node p.filespace (database old).clients.filespaces ≡ None
    → why_not (NewSpace p home old) old.core ≡ None → Makes (NewSpace p home old) old mid → AsksFor p.node p.filespace xs answer → Alone trusted places 0 xs mid then_
    → ThenIn trusted places p home ys answer result then_ new
    → DoneOr (IsUnder places None p home old new) result old new
behind-defined trusted places p home xs ys (Err e) result old mid then_ new nobody rest known none why m asks a (said, empty) =
    let d = defined-there home.node p.filespace old.core why none in
    let here : node_named p.node (database mid).clients.nodes ≡ Some home.node = ap (λ (v : Inv). node_named p.node v.clients.nodes) (database-made (NewSpace p home old) old mid m) ∙ ap (λ nodes. node_named p.node nodes) d.0 ∙ known in
    let there : filespace_named home.node p.filespace (database mid).clients.filespaces ≡ Some (database old).next_filespace =
    ap (λ (v : Inv). filespace_named home.node p.filespace v.clients.filespaces) (database-made (NewSpace p home old) old mid m) ∙ d.1 in
    let quiet : IsAtRest mid.core = rest-made (NewSpace p home old) old mid rest m in
    let k = numbered trusted places home.node p.node p.filespace xs (Err e) mid then_ quiet here asks a in
    let b : Became mid.core mid new = subst (λ (x : Machine). Became mid.core mid x) (sym empty) k.0 in
    elim k.1 as (λ _. DoneOr (IsUnder places None p home old new) result old new) [
      | inl refuses ↦ (let w : None ≡ Some (database old).next_filespace = sym refuses.0 ∙ there in absurd cc)
      | inr ends ↦ defined-broke places p home e result old mid new quiet why m b (subst (λ (x : Machine). EndsRun mid x e) (sym empty) ends) said
    ]
behind-defined trusted places p home xs ys (Ok n) result old mid then_ new nobody rest known none why m asks a (puts, last) =
    let d = defined-there home.node p.filespace old.core why none in
    let here : node_named p.node (database mid).clients.nodes ≡ Some home.node = ap (λ (v : Inv). node_named p.node v.clients.nodes) (database-made (NewSpace p home old) old mid m) ∙ ap (λ nodes. node_named p.node nodes) d.0 ∙ known in
    let there : filespace_named home.node p.filespace (database mid).clients.filespaces ≡ Some (database old).next_filespace =
    ap (λ (v : Inv). filespace_named home.node p.filespace v.clients.filespaces) (database-made (NewSpace p home old) old mid m) ∙ d.1 in
    let quiet : IsAtRest mid.core = rest-made (NewSpace p home old) old mid rest m in
    let k = numbered trusted places home.node p.node p.filespace xs (Ok n) mid then_ quiet here asks a in
    let same : n ≡ (database old).next_filespace = some-is n (database old).next_filespace (filespace_named home.node p.filespace (database mid).clients.filespaces) k.1 there in
    let it : putting.PutsIn p.node p.filespace (Some (file_put p)) (row_put p) home (database old).next_filespace ys result =
    subst (λ (x : ℕ). putting.PutsIn p.node p.filespace (Some (file_put p)) (row_put p) home x ys result) same puts in
    let done = puts-in-since trusted places p home home.node (database old).next_filespace ys result mid then_ new nobody quiet here there k.0 it last in
    defined-done places p home result old mid new why m (done-onward places p home (database old).next_filespace result mid new done) done

abbrev named : Machine → FilePut → Home → Option ℕ
named old p home = filespace_named home.node p.filespace (database old).clients.filespaces

abbrev Comes : Places → FilePut → Home → (old new : Machine) → Result ℕ Refusal → Type 0
Comes places p home old new result = DoneOr (IsUnder places (named old p home) p home old new) result old new

none-comes : (places : Places) (p : FilePut) (home : Home) (result : Result ℕ Refusal) (old new : Machine) → named old p home ≡ None → DoneOr (IsUnder places None p home old new) result old new → Comes places p home old new result
none-comes places p home result old new none h = subst (λ (o : Option ℕ). DoneOr (IsUnder places o p home old new) result old new) (sym none) h

-- memory was wanted where the filespace is defined
ended-comes : (places : Places) (p : FilePut) (home : Home) (e : Refusal) (result : Result ℕ Refusal) (old new : Machine) → IsAtRest old.core → Became old.core old new → EndsRun old new e → result ≡ Err e → Comes places p home old new result
ended-comes places p home e result old new rest b ends said = broke (λ r entries. PutsUnder places (named old p home) p home old new r entries) e result old new rest b ends said

defined-err : (d e : Refusal) → Err e ≡ defined_by (Err d) → e ≡ unplaced d
defined-err refused.Exists e h = absurd cc
defined-err d e h = err-is (Unit {0}) e (unplaced d) (defined_by (Err d)) (sym h) refl

defined-ok : (d : Refusal) → Ok tt ≡ defined_by (Err d) → d ≡ refused.Exists
defined-ok refused.Exists h = refl
defined-ok d h = absurd cc

module _ (trusted : Type 0) (places : Places) where
  -- the change by which it is defined was refused
  not-made : (p : FilePut) (home : Home) (e : Refusal) (answer result : Result ℕ Refusal) (events : List Event) (old new : Machine) → IsAtRest old.core → Changing (defined home.node p.filespace) events answer
      → Err e ≡ defined_by answer → Alone trusted places 0 events old new → result ≡ Err e → DoneOr (IsUnder places None p home old new) result old new
  not-made p home e (Ok n) result events old new rest h said a is = absurd cc
  not-made p home e (Err d) result events old new rest h said a is =
      undefined-done places p home d result old new (changes trusted places (defined home.node p.filespace) events (Err d) old new refl rest h.order a) (is ∙ ap Err (defined-err d e said))

  -- it was made, and the number is asked
  was-made : (p : FilePut) (home : Home) (events xs ys : List Event) (answer number result : Result ℕ Refusal) (old mid then_ new : Machine) → NobodyHolds places → IsAtRest old.core
      → node_named p.node (database old).clients.nodes ≡ Some home.node → named old p home ≡ None → Changing (defined home.node p.filespace) events answer → Ok tt ≡ defined_by answer
      → Alone trusted places 0 events old mid → AsksFor p.node p.filespace xs number → Alone trusted places 0 xs mid then_ → ThenIn trusted places p home ys number result then_ new
      → DoneOr (IsUnder places None p home old new) result old new
  was-made p home events xs ys (Ok n) number result old mid then_ new nobody rest known none h said a asks b last =
      let m = makes trusted places (defined home.node p.filespace) events n old mid refl rest h.order a in
      behind-defined trusted places p home xs ys number result old mid then_ new nobody rest known none m.0 m.1 asks b last
  was-made p home events xs ys (Err d) number result old mid then_ new nobody rest known none h said a asks b last =
      let c = changes trusted places (defined home.node p.filespace) events (Err d) old mid refl rest h.order a in
      absurd (exists-never p home old mid none (subst (λ (x : Refusal). Changed (defined home.node p.filespace) old mid (Err x)) (defined-ok d said) c))

  is-there : (p : FilePut) (home : Home) (it : ℕ) (xs ys : List Event) (r result : Result ℕ Refusal) (old mid new : Machine) → NobodyHolds places → IsAtRest old.core
      → node_named p.node (database old).clients.nodes ≡ Some home.node → named old p home ≡ Some it → mid ≡ old → Answers r (Ok it) → ThenIn trusted places p home ys r result mid new
      → Comes places p home old new result
  is-there p home it xs ys (Ok n) result old mid new nobody rest known found same answers last =
      let is : it ≡ n = ok-is it n (Ok it) refl answers in
      let at : named old p home ≡ Some n = found ∙ ap Some is in
      let done = puts-in-since trusted places p home home.node n ys result old mid new nobody rest known at (became-same old mid same) last.0 last.1 in
      subst (λ (o : Option ℕ). DoneOr (IsUnder places o p home old new) result old new) (sym at)
      (done-other (IsStored places p home n old new) (IsUnder places (Some n) p home old new) result old new (λ r added h. inr h) done)
  is-there p home it xs ys (Err e) result old mid new nobody rest known found same (inl memory) last =
      ended-comes places p home e result old new rest (became-same old new (last.1 ∙ same)) (memory-ends old new e memory) last.0
  is-there p home it xs ys (Err e) result old mid new nobody rest known found same (inr h) last = absurd cc

  -- what its finding among those that are there leads to
  space-then : (p : FilePut) (home : Home) (o : Option ℕ) (xs ys : List Event) (r result : Result ℕ Refusal) (old mid new : Machine) → NobodyHolds places → IsAtRest old.core
      → node_named p.node (database old).clients.nodes ≡ Some home.node → named old p home ≡ o → putting.FindsIn p.node p.filespace home.node o xs r → Alone trusted places 0 xs old mid
      → ThenIn trusted places p home ys r result mid new → Comes places p home old new result
  space-then p home (Some it) xs ys r result old mid new nobody rest known found h a last =
      is-there p home it xs ys r result old mid new nobody rest known found (alone-none trusted places 0 xs old mid h.0 a) h.1 last
  space-then p home None xs ys r result old mid new nobody rest known found (inl h) a last =
      let end = subst (λ (x : Result ℕ Refusal). ThenIn trusted places p home ys x result mid new) h.2 last in
      elim h.1 as (λ _. Comes places p home old new result) [
        | inl d ↦ none-comes places p home result old new found
            (not-made p home h.0 d.0 result xs old new rest d.1 d.2 (subst (λ (m : Machine). Alone trusted places 0 xs old m) (sym end.1) a) end.0)
        | inr none ↦ (let k = none-made (Unit {0}) trusted places h.0 (Err h.0) xs old mid refl none a in
            ended-comes places p home h.0 result old new rest (subst (λ (m : Machine). Became old.core old m) (sym end.1) k.0) (subst (λ (m : Machine). EndsRun old m h.0) (sym end.1) k.1) end.0)
      ]
  space-then p home None xs ys r result old mid new nobody rest known found (inr h) a last =
      let cut = alone-parts trusted places 0 xs h.1.0 h.1.1 old mid h.1.2 a in
      elim h.1.3 as (λ _. Comes places p home old new result) [
        | inl d ↦ none-comes places p home result old new found
            (was-made p home h.1.0 h.1.1 ys d.0 r result old cut.0 mid new nobody rest known found d.1 d.2 cut.1 h.1.4 cut.2 last)
        | inr none ↦ absurd cc
      ]

-- ---- from an earlier state

commits-since : (c : Change) (e : Refusal) (added : List Entry) (old m new : Machine) → Onward old m → why_not c old.core ≡ why_not c m.core → Commits {A = Unit {0}} c m new (Err e) added → Commits {A = Unit {0}} c old new (Err e) added
commits-since c e added old m new on same (inl h) = inl (same ∙ h.0, h.1)
commits-since c e added old m new on same (inr (ends, inl h)) = inr (ends-since old m new e on ends, inl h)
commits-since c e added old m new on same (inr (ends, inr h)) = inr (ends-since old m new e on ends, inr (same ∙ h.0, h.1))

breaks-since : (result : Result ℕ Refusal) (added : List Entry) (old m new : Machine) → Onward old m → Breaks m new result added → Breaks old new result added
breaks-since (Ok x) added old m new on h = absurd h
breaks-since (Err e) added old m new on h = (ends-since old m new e on h.0, h.1)

puts-since : (places : Places) (o : Option ℕ) (p : FilePut) (home : Home) (result : Result ℕ Refusal) (added : List Entry) (old mid new : Machine) → Onward old (as_is old.core old mid)
    → PutsUnder places o p home (as_is old.core old mid) new result added → PutsUnder places o p home old new result added
puts-since places (Some filespace) p home result added old mid new on h = stored-since places p home filespace result added old mid new on h
puts-since places None p home result added old mid new on (inl h) = inl (h.0, h.1, commits-since (NewSpace p home old) h.0 added old (as_is old.core old mid) new on refl h.2, h.3)
puts-since places None p home result added old mid new on (inr h) =
    inr (h.0, h.1, h.2, (h.3.0, h.3.1, h.3.2, onward-then old (as_is old.core old mid) h.0 on h.3.3), h.4, h.5, h.6)

under-since : (places : Places) (o : Option ℕ) (p : FilePut) (home : Home) (result : Result ℕ Refusal) (added : List Entry) (old mid new : Machine) → Onward old (as_is old.core old mid)
    → IsUnder places o p home (as_is old.core old mid) new result added → IsUnder places o p home old new result added
under-since places o p home result added old mid new on (inl h) = inl (breaks-since result added old (as_is old.core old mid) new on h.0, h.1)
under-since places o p home result added old mid new on (inr h) = inr (puts-since places o p home result added old mid new on h)

comes-since : (places : Places) (p : FilePut) (home : Home) (result : Result ℕ Refusal) (old mid new : Machine) → Became old.core old mid → Comes places p home mid new result → Comes places p home old new result
comes-since places p home result old mid new b h =
    let on : Onward old (as_is old.core old mid) = record { counts = b.onward.counts; since = b.onward.since } in
    let o : Option ℕ = named old p home in
    elim (subst (λ (x : Machine). Comes places p home x new result) (is-as old.core old mid b) h) as (λ _. Comes places p home old new result) [
      | inl d ↦ inl ((d.0.0, under-since places o p home result d.0.0 old mid new on d.0.1, d.0.2, leaves-since result d.0.0 old mid new on d.0.3), d.1)
      | inr d ↦ inr (d.0, (d.1.0, under-since places o p home (Err refused.Memory) d.1.0 old mid new on d.1.1, d.1.2, leaves-since (Err refused.Memory) d.1.0 old mid new on d.1.3))
    ]

-- ---- the filespace, and then the file

module _ (trusted : Type 0) (places : Places) where
  finds-then : (p : FilePut) (home : Home) (xs ys : List Event) (r result : Result ℕ Refusal) (old mid new : Machine) → NobodyHolds places → IsAtRest old.core
      → node_named p.node (database old).clients.nodes ≡ Some home.node → putting.FindsFilespace p.node p.filespace home.node xs r → Alone trusted places 0 xs old mid
      → ThenIn trusted places p home ys r result mid new → Comes places p home old new result
  finds-then p home xs ys r result old mid new nobody rest known (inl h) a last =
      let end = subst (λ (x : Result ℕ Refusal). ThenIn trusted places p home ys x result mid new) h.2 last in
      let k = looks-to trusted places home.node p.node p.filespace xs (Err h.0) old mid rest known h.1 a in
      elim k.1 as (λ _. Comes places p home old new result) [
        | inl is ↦ absurd cc
        | inr ends ↦ (let same : h.0 ≡ ends.0 = err-is (Option ℕ) h.0 ends.0 (Err h.0) refl ends.1 in
            ended-comes places p home ends.0 result old new rest (subst (λ (m : Machine). Became old.core old m) (sym end.1) k.0) (subst (λ (m : Machine). EndsRun old m ends.0) (sym end.1) ends.2) (end.0 ∙ ap Err same))
      ]
  finds-then p home xs ys r result old mid new nobody rest known (inr h) a last =
      let cut = alone-parts trusted places 0 xs h.1.0 h.1.1 old mid h.1.2 a in
      let k = looks-to trusted places home.node p.node p.filespace h.1.0 (Ok h.0) old cut.0 rest known h.1.3 cut.1 in
      elim k.1 as (λ _. Comes places p home old new result) [
        | inl is ↦ (let found : h.0 ≡ named old p home = ok-is h.0 (named old p home) (Ok h.0) refl is in
            let at : named cut.0 p home ≡ h.0 = ap (λ (c : Core). filespace_named home.node p.filespace (inventory c).clients.filespaces) k.0.core ∙ sym found in
            let here : node_named p.node (database cut.0).clients.nodes ≡ Some home.node = ap (λ (c : Core). node_named p.node (inventory c).clients.nodes) k.0.core ∙ known in
            comes-since places p home result old cut.0 new k.0
            (space-then trusted places p home h.0 h.1.1 ys r result cut.0 mid new nobody (rest-as cut.0.core old.core k.0.core rest) here at h.1.4 cut.2 last))
        | inr ends ↦ absurd cc
      ]

  under-comes : (p : FilePut) (home : Home) (events : List Event) (result : Result ℕ Refusal) (old new : Machine) → NobodyHolds places → IsAtRest old.core
      → node_named p.node (database old).clients.nodes ≡ Some home.node → putting.PutsUnder p.node p.filespace (Some (file_put p)) (row_put p) home events result → Alone trusted places 0 events old new
      → Comes places p home old new result
  under-comes p home events result old new nobody rest known (inl h) a = finds-then p home events [] (Err h.0) result old new new nobody rest known h.1 a (h.2, refl)
  under-comes p home events result old new nobody rest known (inr h) a =
      let cut = alone-parts trusted places 0 events h.1.0 h.1.1 old new h.1.2 a in
      finds-then p home h.1.0 h.1.1 (Ok h.0) result old cut.0 new nobody rest known h.1.3 cut.1 (h.1.4, cut.2)

-- ---- all of it

home-err : (node : ℕ) (class : List ℕ) (pool : Option ℕ) (e : Refusal) → home_at node class pool ≡ Err e → IsOther e
home-err node class None e h tree = (let same : refused.NoBackupGroup ≡ e = cc in let w : refused.NoBackupGroup ≡ refused.TreeFault = same ∙ tree in absurd cc)
home-err node class (Some pool) e h tree = absurd cc

class-err : (node : ℕ) (r : Rules) (class : Option (List ℕ)) (e : Refusal) → home_under node r class ≡ Err e → IsOther e
class-err node r None e h tree = (let same : refused.NoBackupGroup ≡ e = cc in let w : refused.NoBackupGroup ≡ refused.TreeFault = same ∙ tree in absurd cc)
class-err node r (Some class) e h tree = home-err node class (destination r class) e h tree

default-err : (node : ℕ) (r : Rules) (default : Option (List ℕ)) (choice : List Rule) (path : List ℕ) (e : Refusal) → home_in node r default choice path ≡ Err e → IsOther e
default-err node r None choice path e h tree = (let same : refused.NoBackupGroup ≡ e = cc in let w : refused.NoBackupGroup ≡ refused.TreeFault = same ∙ tree in absurd cc)
default-err node r (Some default) choice path e h tree = class-err node r (class_of (has_class r.classes) default choice path) e h tree

no-home : (node : ℕ) (r : Rules) (choice : List Rule) (path : List ℕ) (e : Refusal) → home_of node r choice path ≡ Err e → IsOther e
no-home node r choice path e h =
    elim (is_left_out choice path) as (λ b. (if b then Err bad_value else home_in node r r.default_class choice path) ≡ Err e → IsOther e) [
      | true ↦ λ s tree. (let same : bad_value ≡ e = cc in let w : bad_value ≡ refused.TreeFault = same ∙ tree in absurd cc)
      | false ↦ λ s. default-err node r r.default_class choice path e s
    ] h

rules-err : (node : ℕ) (v : Inv) (e : Refusal) → rules_of node v ≡ Err e → IsOther e
rules-err node v e h tree = elim (domain_of_node node v) as (λ o. if_found o (λ domain. Ok (rules_in domain v.domains)) ≡ Err e → ⊥) [
  | None ↦ λ s. (let same : refused.NotFound ≡ e = cc in let w : refused.NotFound ≡ refused.TreeFault = same ∙ tree in absurd cc)
  | Some domain ↦ λ s. absurd cc
] h

not-found-other : (e : Refusal) → e ≡ refused.NotFound → IsOther e
not-found-other e is tree = (let w : refused.NotFound ≡ refused.TreeFault = sym is ∙ tree in absurd cc)

abbrev IsPut : Places → List Rule → FilePut → (old new : Machine) → Result ℕ Refusal → List Entry → Type 0
IsPut places choice p old new result added = Puts places choice p old new result added

abbrev Put : Places → List Rule → FilePut → (old new : Machine) → Result ℕ Refusal → Type 0
Put places choice p old new result = DoneOr (IsPut places choice p old new) result old new

-- behind the question for the home: the file is put under it; or that was refused so, and nothing follows
abbrev ThenUnder : (trusted : Type 0) → Places → FilePut → List Event → Result Home Refusal → Result ℕ Refusal → (old new : Machine) → Type 0
ThenUnder trusted places p events (Ok home) result old new = putting.PutsUnder p.node p.filespace (Some (file_put p)) (row_put p) home events result × Alone trusted places 0 events old new
ThenUnder trusted places p events (Err e) result old new = (result ≡ Err e) × (new ≡ old)

-- the rules are asked, and by them the home is decided
abbrev RulesThen : List Rule → FilePut → (node : ℕ) → List Event → Result Home Refusal → Type 0
RulesThen choice p node events h = InTurn (AsksRules node) (λ r. Decides (home_of node r choice p.path)) events h

-- under its home
home-put : (places : Places) (choice : List Rule) (p : FilePut) (node : ℕ) (r : Rules) (home : Home) (result : Result ℕ Refusal) (old new : Machine) → node_named p.node (database old).clients.nodes ≡ Some node
    → rules_of node (database old) ≡ Ok r → home_of node r choice p.path ≡ Ok home → Comes places p home old new result → Put places choice p old new result
home-put places choice p node r home result old new known ruled homed h =
    let puts : (x : Result ℕ Refusal) (added : List Entry) → PutsUnder places (named old p home) p home old new x added → PutsOf places choice p (node_named p.node (database old).clients.nodes) old new x added =
    λ x added u.
    subst (λ (o : Option ℕ). PutsOf places choice p o old new x added) (sym known)
    (subst (λ (q : Result Rules Refusal). PutsBy places choice p node q old new x added) (sym ruled)
    (subst (λ (q : Result Home Refusal). PutsHome places p q old new x added) (sym homed) u)) in
    done-other (IsUnder places (named old p home) p home old new) (IsPut places choice p old new) result old new (λ x added u. elim u as (λ _. IsPut places choice p old new x added) [
      | inl broken ↦ inl broken
      | inr under ↦ inr (puts x added under)
    ]) h

module _ (trusted : Type 0) (places : Places) where
  ended-put : (choice : List Rule) (p : FilePut) (e : Refusal) (result : Result ℕ Refusal) (old new : Machine) → IsAtRest old.core → Became old.core old new → EndsRun old new e → result ≡ Err e → Put places choice p old new result
  ended-put choice p e result old new rest b ends said =
      broke (λ r added. PutsOf places choice p (node_named p.node (database old).clients.nodes) old new r added) e result old new rest b ends said

  -- its home is decided, or why it has none
  homed : (choice : List Rule) (p : FilePut) (node : ℕ) (r : Rules) (xs ys : List Event) (h : Result Home Refusal) (result : Result ℕ Refusal) (old mid then_ new : Machine) → NobodyHolds places → IsAtRest old.core
      → node_named p.node (database old).clients.nodes ≡ Some node → rules_of node (database old) ≡ Ok r → Became old.core old mid → then_ ≡ mid → Answers h (home_of node r choice p.path)
      → ThenUnder trusted places p ys h result then_ new → Put places choice p old new result
  homed choice p node r xs ys (Ok home) result old mid then_ new nobody rest known ruled b same decided last =
      let is : home.node ≡ node = home-node node r choice p.path home decided in
      let here : node_named p.node (database mid).clients.nodes ≡ Some home.node = ap (λ (c : Core). node_named p.node (inventory c).clients.nodes) b.core ∙ known ∙ ap Some (sym is) in
      home-put places choice p node r home result old new known ruled decided
      (comes-since places p home result old mid new b
      (under-comes trusted places p home ys result mid new nobody (rest-as mid.core old.core b.core rest) here last.0 (subst (λ (m : Machine). Alone trusted places 0 ys m new) same last.1)))
  homed choice p node r xs ys (Err e) result old mid then_ new nobody rest known ruled b same (inl memory) last =
      ended-put choice p e result old new rest (subst (λ (m : Machine). Became old.core old m) (sym (last.1 ∙ same)) b) (memory-ends old new e memory) last.0
  homed choice p node r xs ys (Err e) result old mid then_ new nobody rest known ruled b same (inr decided) last =
      let c : Became old.core old new = subst (λ (m : Machine). Became old.core old m) (sym (last.1 ∙ same)) b in
      still-done (IsPut places choice p old new) e result old new rest c
      (inr (subst (λ (o : Option ℕ). PutsOf places choice p o old new (Err e) []) (sym known)
      (subst (λ (q : Result Rules Refusal). PutsBy places choice p node q old new (Err e) []) (sym ruled)
      (subst (λ (q : Result Home Refusal). PutsHome places p q old new (Err e) []) (sym decided) (refl, refl, c.contents)))))
      (no-home node r choice p.path e decided) last.0

  -- its node was found, and the rules are asked
  ruled-by : (choice : List Rule) (p : FilePut) (node : ℕ) (xs ys : List Event) (h : Result Home Refusal) (result : Result ℕ Refusal) (old mid then_ new : Machine) → NobodyHolds places → IsAtRest old.core
      → node_named p.node (database old).clients.nodes ≡ Some node → Became old.core old mid → RulesThen choice p node xs h → Alone trusted places 0 xs mid then_ → ThenUnder trusted places p ys h result then_ new
      → Put places choice p old new result
  ruled-by choice p node xs ys h result old mid then_ new nobody rest known b (inl t) a last =
      let end = subst (λ (x : Result Home Refusal). ThenUnder trusted places p ys x result then_ new) t.2 last in
      let k = asks-to trusted places (query.Rules node) rows.Rules (Err t.0) xs mid then_ refl (rest-as mid.core old.core b.core rest) t.1 a in
      let c : Became old.core old new = subst (λ (m : Machine). Became old.core old m) (sym end.1) (became-still old.core old mid then_ b k.0) in
      elim k.1 as (λ _. Put places choice p old new result) [
        | inl refuses ↦ (let why : rules_of node (database old) ≡ Err t.0 = ap (λ (x : Core). rules_of node (inventory x)) (sym b.core) ∙ no-rules node t.0 (database mid) refuses in
            still-done (IsPut places choice p old new) t.0 result old new rest c
            (inr (subst (λ (o : Option ℕ). PutsOf places choice p o old new (Err t.0) []) (sym known)
            (subst (λ (q : Result Rules Refusal). PutsBy places choice p node q old new (Err t.0) []) (sym why) (refl, refl, c.contents))))
            (rules-err node (database old) t.0 why) end.0)
        | inr ends ↦ ended-put choice p t.0 result old new rest c (subst (λ (m : Machine). EndsRun old m t.0) (sym end.1) (ends-since old mid then_ t.0 b.onward ends)) end.0
      ]
  ruled-by choice p node xs ys h result old mid then_ new nobody rest known b (inr t) a last =
      let cut = alone-parts trusted places 0 xs t.1.0 t.1.1 mid then_ t.1.2 a in
      let k = asks-to trusted places (query.Rules node) rows.Rules (Ok t.0) t.1.0 mid cut.0 refl (rest-as mid.core old.core b.core rest) t.1.3 cut.1 in
      let is : rules_of node (database old) ≡ Ok t.0 = ap (λ (x : Core). rules_of node (inventory x)) (sym b.core) ∙ rules-told node t.0 (database mid) k.1 in
      homed choice p node t.0 t.1.1 ys h result old cut.0 then_ new nobody rest known is (became-still old.core old mid cut.0 b k.0) (alone-none trusted places 0 t.1.1 cut.0 then_ t.1.4.0 cut.2) t.1.4.1 last

  finds-home : (choice : List Rule) (p : FilePut) (xs ys : List Event) (h : Result Home Refusal) (result : Result ℕ Refusal) (old then_ new : Machine) → NobodyHolds places → IsAtRest old.core
      → putting.FindsHome p.node choice p.path xs h → Alone trusted places 0 xs old then_ → ThenUnder trusted places p ys h result then_ new → Put places choice p old new result
  finds-home choice p xs ys h result old then_ new nobody rest (inl t) a last =
      let end = subst (λ (x : Result Home Refusal). ThenUnder trusted places p ys x result then_ new) t.2 last in
      elim t.1 as (λ _. Put places choice p old new result) [
        | inl asked ↦ (let k = asks-to trusted places (query.Lookup (thing.Node p.node)) (λ n. rows.Lookup (found.Number n)) (Err t.0) xs old then_ refl rest asked a in
            let c : Became old.core old new = subst (λ (m : Machine). Became old.core old m) (sym end.1) k.0 in
            elim k.1 as (λ _. Put places choice p old new result) [
              | inl refuses ↦ (let none = no-node p.node t.0 (database old) refuses in
                  still-done (IsPut places choice p old new) t.0 result old new rest c
                  (inr (subst (λ (o : Option ℕ). PutsOf places choice p o old new (Err t.0) []) (sym none.0) (ap Err none.1, refl, c.contents))) (not-found-other t.0 none.1) end.0)
              | inr ends ↦ ended-put choice p t.0 result old new rest c (subst (λ (m : Machine). EndsRun old m t.0) (sym end.1) ends) end.0
            ])
        | inr none ↦ (let k = none-made ℕ trusted places t.0 (Err t.0) xs old then_ refl none a in
            ended-put choice p t.0 result old new rest (subst (λ (m : Machine). Became old.core old m) (sym end.1) k.0) (subst (λ (m : Machine). EndsRun old m t.0) (sym end.1) k.1) end.0)
      ]
  finds-home choice p xs ys h result old then_ new nobody rest (inr t) a last =
      let cut = alone-parts trusted places 0 xs t.1.0 t.1.1 old then_ t.1.2 a in
      elim t.1.3 as (λ _. Put places choice p old new result) [
        | inl asked ↦ (let k = asks-to trusted places (query.Lookup (thing.Node p.node)) (λ n. rows.Lookup (found.Number n)) (Ok t.0) t.1.0 old cut.0 refl rest asked cut.1 in
            ruled-by choice p t.0 t.1.1 ys h result old cut.0 then_ new nobody rest (node-of p.node t.0 (database old) k.1) k.0 t.1.4 cut.2 last)
        | inr none ↦ absurd cc
      ]

  put-comes : (choice : List Rule) (p : FilePut) (events : List Event) (result : Result ℕ Refusal) (old new : Machine) → NobodyHolds places → IsAtRest old.core
      → putting.Puts p.node p.filespace choice (Some (file_put p)) (row_put p) events result → Alone trusted places 0 events old new → Put places choice p old new result
  put-comes choice p events result old new nobody rest (inl h) a = finds-home choice p events [] (Err h.0) result old new new nobody rest h.1 a (h.2, refl)
  put-comes choice p events result old new nobody rest (inr h) a =
      let cut = alone-parts trusted places 0 events h.1.0 h.1.1 old new h.1.2 a in
      finds-home choice p h.1.0 h.1.1 (Ok h.0) result old cut.0 new nobody rest h.1.3 cut.1 (h.1.4, cut.2)

-- the answer is what was answered; or want of memory, where the tree failed
shown : (places : Places) (choice : List Rule) (p : FilePut) (result : Result ℕ Refusal) (old new : Machine) → (result ≡ Err refused.TreeFault → ⊥) → Put places choice p old new result
    → (added : List Entry) × Puts places choice p old new result added × SameImage old new × Leaves result added old new
shown places choice p result old new never (inl h) = h.0
shown places choice p result old new never (inr h) = absurd (never h.0)

as-memory : (places : Places) (choice : List Rule) (p : FilePut) (result : Result ℕ Refusal) (old new : Machine) → result ≡ Err refused.Memory → Put places choice p old new (Err refused.TreeFault)
    → (added : List Entry) × Puts places choice p old new result added × SameImage old new × Leaves result added old new
as-memory places choice p result old new is (inl h) = absurd (h.1 refl)
as-memory places choice p result old new is (inr h) =
    subst (λ (r : Result ℕ Refusal). (added : List Entry) × Puts places choice p old new r added × SameImage old new × Leaves r added old new) (sym is) h.1

pub puts : (places : Places) → NobodyHolds places → (trusted : Type 0) (choice : List Rule) (p : FilePut) (old new : Machine) (events : List Event) (answer : Result ℕ Refusal) → IsAtRest old.core → HasSizes old
    → OrMemory (PutsText choice p) events answer → Alone trusted places 0 events old new
    → (added : List Entry) × Puts places choice p old new answer added × SameImage old new × Leaves answer added old new
puts places nobody trusted choice p old new events answer rest sizes (inl (inl h)) a = shown places choice p answer old new h.1 (put-comes trusted places choice p events answer old new nobody rest h.0 a)
puts places nobody trusted choice p old new events answer rest sizes (inl (inr h)) a = as-memory places choice p answer old new h.1 (put-comes trusted places choice p events (Err refused.TreeFault) old new nobody rest h.0 a)
puts places nobody trusted choice p old new events answer rest sizes (inr h) a =
    let same : new ≡ old = alone-none trusted places 0 events old new h.0 a in
    shown places choice p answer old new (λ tree. (let w : refused.Memory ≡ refused.TreeFault = err-is ℕ refused.Memory refused.TreeFault answer h.1 tree in absurd cc))
    (ended-put trusted places choice p refused.Memory answer old new rest (became-same old new same) tt h.1)
