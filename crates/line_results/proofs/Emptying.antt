-- Where a filespace may be deleted, its deletion isn't refused since something isn't there, or is used still.
use Rattle.std.proofs.Common.{◌≡◌, ◌⊎◌, inl, inr, ℕ, ◌+◌, ◌^◌, ◌==◌, nat_le, nat_lt, Bool, true, false, cond, if◌then◌else◌, List, [], ◌∷◌, ◌++◌, map, Option, None, Some, Result, Ok, Err, refl, sym, ap, subst, ◌∙◌}
use Rattle.std.proofs.lemmas.Bool.{false≢true}
use Rattle.std.proofs.lemmas.Option.{same_Some}
use Rattle.std.specs.Prelude.{is_some}
use Rattle.std.specs.List.{AllByRecursion, find, flat_map, list_any}
use Rattle.kinds.specs.Refusals.{number_of, refusal_of, unless}
use Rattle.kinds.specs.declared.change.DefineOrDelete.TheVariants as two
use Rattle.kinds.specs.declared.change.ObjectChange.TheVariants as client
use Rattle.kinds.specs.declared.refusal.By.{By}
use Rattle.kinds.specs.declared.refusal.Refusal.{Refusal}
use Rattle.kinds.specs.declared.refusal.Refusal.TheVariants as refused
use Rattle.entries.specs.declared.change.Change.{Change}
use Rattle.entries.specs.declared.change.Change.TheVariants as change
use Rattle.inventory_rows.specs.Items.{count_items, most_items}
use Rattle.inventory_rows.specs.object_rows.Filespaces.{at_number, filespace_at}
use Rattle.inventory_rows.specs.object_rows.Rows.{Rows as Clients}
use Rattle.inventory_rows.specs.version_groups.declared.groups.Filespace.{Filespace}
use Rattle.inventory_rows.specs.version_groups.Entries.{on_ok}
use Rattle.inventory_rows.specs.Search.{filespace_of}
use Rattle.inventory_rows.specs.State.{Inv}
use Rattle.inventory_rows.proofs.of_object_rows.Stands.{at-eqb}
use Rattle.inventory_rules.specs.Common.{full_at}
use Rattle.inventory_rules.specs.Halfway.{VersionFacts}
use Rattle.inventory_rules.specs.Ordered.{IsOrdered}
use Rattle.inventory_rules.specs.Transactions.{effect, sizes_refused}
use Rattle.inventory_rules.specs.Valid.{is_valid}
use Rattle.inventory_laws.proofs.CopyCounts.{is_found}
use Rattle.inventory_laws.proofs.Facts.{facts_of}
use Rattle.inventory_laws.proofs.VersionsWhole.{begins}
use Rattle.inventory_answers.specs.Answered.{answered, rows_of}
use Rattle.inventory_answers.specs.Clients.{filespace_line, filespace_lines, filespace_lines_of, versions_at}
use Rattle.inventory_answers.specs.Held.{held_lines}
use Rattle.inventory_answers.specs.Look.{name_of_node}
use Rattle.inventory_answers.specs.declared.lines.FilespaceLine.{FilespaceLine}
use Rattle.inventory_answers.specs.declared.lines.HeldLine.{HeldLine}
use Rattle.inventory_answers.specs.declared.lines.VersionLine.{VersionLine}
use Rattle.inventory_answers.specs.declared.query.Query.{Query}
use Rattle.inventory_answers.specs.declared.query.Query.TheVariants as query
use Rattle.inventory_answers.specs.declared.reply.Answer.{Answer}
use Rattle.inventory_answers.specs.declared.reply.Rows.{Rows}
use Rattle.inventory_answers.specs.declared.reply.Rows.TheVariants as rows
use Rattle.steps.specs.Events.{Deed, Event}
use Rattle.steps.specs.Events.Deed.{Ask, Commit}
use Rattle.command_steps.specs.copy_attempts.Attempts.{is_stopping}
use Rattle.command_steps.specs.copy_runs.Ends.{IsAsking, IsStopped}
use Rattle.command_steps.specs.deletions.Filespaces.{Answered, Found, IsInPlace, IsKept, IsMissing, IsUnfound, IsUnlisted, Objects, deleting, is_kept_by, names_found, names_in, of_held, of_version, with_node}
use Rattle.machine.specs.Alone.{Alone}
use Rattle.machine.specs.Machine.{Asks, Case, Commits, Places, answer_with, ended}
use Rattle.machine.specs.State.{Core, Machine, inventory, sight}
use Rattle.machine.proofs.Elsewhere.{append-all, ended-all, foremost-all, unless-all}
use Rattle.line_results.specs.Removing.{IsAbsent, has_filespace}
use Rattle.line_results.specs.Resting.{database}
use Rattle.line_results.proofs.Bounds.{Common, commit-all, filespace-takes}
use Rattle.line_results.proofs.Emptied.{Going, handled}
use Rattle.line_results.proofs.Listed.{doomed_in, is-listed}
use Rattle.line_results.proofs.Meeting.{met-at}
use Rattle.line_results.proofs.PutHomes.{rows-told}
use Rattle.line_results.proofs.Runs.{alone-parts, stepped}
use Rattle.line_results.proofs.Unused.{row-legal}
use Rattle.line_results.proofs.Shown.{IsNamed, filespace-shown}
use Rattle.line_results.proofs.Types.{Doomed, Names}

-- ---- refusals

-- it isn't one of those that a row's own transaction is answered with
abbrev pub IsBare : Refusal → Type 0
IsBare e = is_kept_by e ≡ false

pub bare-common : Common IsBare
bare-common = record { full = refl; fault = λ file count. refl; memory = refl; bad = refl; long = refl }

pub bare-sizes : (w : Change) (v : Inv) → AllByRecursion IsBare (sizes_refused w v)
bare-sizes w v =
    append-all IsBare (unless (nat_le (count_items (effect w v)) most_items) refused.InventoryFull) (full_at v.number (2 ^ 62)) (unless-all IsBare (nat_le (count_items (effect w v)) most_items) refused.InventoryFull refl)
    (unless-all IsBare (nat_lt (v.number + 1) (2 ^ 62)) refused.InventoryFull refl)

-- What it names isn't there, or something uses it still, or may for some days.
abbrev pub IsUnremoved : Refusal → Type 0
IsUnremoved why = (why ≡ refused.NotFound) ⊎ ((by : By) × (why ≡ refused.InUse by)) ⊎ ((file : ℕ) × (day : ℕ) × (why ≡ refused.NotYet file day))

pub kept-of : (e : Refusal) → IsUnremoved e → is_kept_by e ≡ true
kept-of e (inl is) = ap is_kept_by is
kept-of e (inr (inl (user, is))) = ap is_kept_by is
kept-of e (inr (inr (file, day, is))) = ap is_kept_by is

pub unstopped : (e : Refusal) (events : List Event) → IsUnremoved e → IsStopped events e → ⊥
unstopped e events un (inl memory) = false≢true (sym (ap is_kept_by memory) ∙ kept-of e un)
unstopped e events (inl is) (inr (stops, met)) = false≢true (sym (ap is_stopping is) ∙ stops)
unstopped e events (inr (inl (user, is))) (inr (stops, met)) = false≢true (sym (ap is_stopping is) ∙ stops)
unstopped e events (inr (inr (file, day, is))) (inr (stops, met)) = false≢true (sym (ap is_stopping is) ∙ stops)

-- ---- questions

-- one that the database answers isn't refused so
pub ask-told : (q : Query) (m next : Machine) (e : Refusal) (told : Answer) → answered q (inventory m.core) ≡ Ok told → is_kept_by e ≡ true → Asks 0 q m next (Err e) → ⊥
ask-told q m next e told is kept (inl (inl why, stays)) =
    false≢true
    (sym (foremost-all IsBare (ended m ++ refusal_of (answered q (inventory m.core)))
    (append-all IsBare (ended m) (refusal_of (answered q (inventory m.core))) (ended-all IsBare refl (λ file count. refl) m) (subst (λ (r : Result Answer Refusal). AllByRecursion IsBare (refusal_of r)) (sym is) tt)) e why)
    ∙ kept)
ask-told q m next e told is kept (inl (inr memory, stays)) = false≢true (sym (ap is_kept_by memory) ∙ kept)
ask-told q m next e told is kept (inr (none, never)) = never

abbrev Plain : Query → Type 0
Plain q = (n : ℕ) (a : Answer) → answer_with n q a ≡ a

-- the rows that were shown are the database's
pub ask-rows : (q : Query) (k : Rows) (answer : Answer) (m next : Machine) → Plain q → answer.rows ≡ k → Asks 0 q m next (Ok answer) → (next.core ≡ m.core) × (rows_of q (inventory m.core) ≡ Ok k)
ask-rows q k answer m next plain is (none, ((told, shown, same), stays)) = (
  stays.core,
  rows-told (rows_of q (inventory m.core)) (inventory m.core).number (inventory m.core).today told k shown (ap (λ (a : Answer). a.rows) (sym (same ∙ plain m.core.log_length told)) ∙ is),
)

pub ask-same : (q : Query) (answer : Result Answer Refusal) (m next : Machine) → Asks 0 q m next answer → next.core ≡ m.core
ask-same q (Ok a) m next (none, (is, stays)) = stays.core
ask-same q (Err e) m next (inl (why, stays)) = stays.core
ask-same q (Err e) m next (inr (none, never)) = absurd never

pub asking-same : (places : Places) (v : Inv) (d : Deed) (m next : Machine) → IsAsking d → Case places 0 d m next → inventory m.core ≡ v → inventory next.core ≡ v
asking-same places v d m next (q, answer, is) step h = ap inventory (ask-same q answer m next (subst (λ (x : Deed). Case places 0 x m next) is step)) ∙ h

pub same-ok : {A : Type 0} (f : Rows → A) (x y : Rows) (r : Result Rows Refusal) → r ≡ Ok x → r ≡ Ok y → f x ≡ f y
same-ok f x y (Ok z) h k = (let first : z ≡ x = cc in let second : z ≡ y = cc in ap f (sym first ∙ second))
same-ok f x y (Err e) h k = absurd cc

module _ (trusted : Type 0) (places : Places) where
  -- one question, as its only step
  pub asked-rows : (q : Query) (k : Rows) (answer : Answer) (events : List Event) (m new : Machine) → Plain q → answer.rows ≡ k → Answered q events answer → Alone trusted places 0 events m new
      → (new.core ≡ m.core) × (rows_of q (inventory m.core) ≡ Ok k)
  asked-rows q k answer events m new plain is (n, one) f = ask-rows q k answer m new plain is (stepped trusted places n (Ask q (Ok answer)) events m new (λ contents seen h. h) (λ contents x. refl) one f).1

-- ---- its names

-- the lines of all filespaces tell those of the one with this number
pub names-shown : (filespace : ℕ) (clients : Clients) (es : List (ℕ × Filespace)) (x : Filespace) → filespace_at filespace es ≡ Some x
    → names_in filespace (flat_map (filespace_lines_of clients None) es) ≡ with_node x.name (name_of_node x.node clients)
names-shown filespace clients [] x at = absurd (let odd : None ≡ Some x = at in cc)
names-shown filespace clients (e ∷ es) x at =
    let rest : Option FilespaceLine = find (λ l. l.number == filespace) (flat_map (filespace_lines_of clients None) es) in
    elim (at_number filespace e.0) as (λ b. at_number filespace e.0 ≡ b → cond b (Some e.1) (filespace_at filespace es) ≡ Some x
    → names_found (if e.0 == filespace then Some (filespace_line clients e) else rest) ≡ with_node x.name (name_of_node x.node clients)) [
      | true ↦ λ here is.
          ap (λ (b : Bool). names_found (if b then Some (filespace_line clients e) else rest)) (sym (at-eqb filespace e.0) ∙ here)
          ∙ ap (λ (y : Filespace). with_node y.name (name_of_node y.node clients)) (same_Some e.1 x is)
      | false ↦ λ other is. ap (λ (b : Bool). names_found (if b then Some (filespace_line clients e) else rest)) (sym (at-eqb filespace e.0) ∙ other) ∙ names-shown filespace clients es x is
    ] refl at

-- one that they tell is there
names-there : (filespace : ℕ) (clients : Clients) (es : List (ℕ × Filespace)) (names : Names) → names_in filespace (flat_map (filespace_lines_of clients None) es) ≡ Ok names → is_some (filespace_at filespace es) ≡ true
names-there filespace clients [] names is = absurd cc
names-there filespace clients (e ∷ es) names is =
    let rest : Option FilespaceLine = find (λ l. l.number == filespace) (flat_map (filespace_lines_of clients None) es) in
    elim (at_number filespace e.0) as (λ b. at_number filespace e.0 ≡ b → is_some (cond b (Some e.1) (filespace_at filespace es)) ≡ true) [
      | true ↦ λ here. refl
      | false ↦ λ other.
          names-there filespace clients es names
          (ap (λ (b : Bool). names_found (if b then Some (filespace_line clients e) else rest)) (sym (sym (at-eqb filespace e.0) ∙ other)) ∙ is)
    ] refl

abbrev lines-of : Rows → List FilespaceLine
lines-of (rows.Filespaces lines) = lines
lines-of _ = []

abbrev versions-in : Rows → List VersionLine
versions-in (rows.Versions lines) = lines
versions-in _ = []

abbrev held-in : Rows → List HeldLine
held-in (rows.Held lines) = lines
held-in _ = []

pub ok-same : {A : Type 0} (x y : A) → ◌≡◌ {A = Result A Refusal} (Ok x) (Ok y) → x ≡ y
ok-same x y h = cc

pub no-both : {A : Type 0} (x : A) (e : Refusal) (r : Result A Refusal) → r ≡ Ok x → r ≡ Err e → ⊥
no-both x e (Ok y) h k = cc
no-both x e (Err d) h k = cc

abbrev pub shape : Inv → Rows → Answer
shape v it = record { n = v.number; today = v.today; rows = it }

-- it is there, in a valid database whose rows stand in order
abbrev IsThereIn : (filespace : ℕ) → Inv → Type 0
IsThereIn filespace v = (is_some (filespace_at filespace v.clients.filespaces) ≡ true) × (is_valid v ≡ true) × IsOrdered v

module _ (filespace : ℕ) (v : Inv) (can : IsThereIn filespace v) where
  abbrev here : IsNamed filespace v
  here = filespace-shown filespace v can.1 can.0

  abbrev its-names : Names
  its-names = record { node = here.2; name = here.0.name }

  names-are : names_in filespace (filespace_lines v.clients None) ≡ Ok its-names
  names-are = names-shown filespace v.clients v.clients.filespaces here.0 here.1 ∙ ap (λ (o : Option (List ℕ)). with_node here.0.name o) here.3

  named-lines : (lines : List FilespaceLine) → rows_of (query.Filespaces None) v ≡ Ok (rows.Filespaces lines) → names_in filespace lines ≡ Ok its-names
  named-lines lines is =
      ap (names_in filespace) (same-ok lines-of (rows.Filespaces lines) (rows.Filespaces (filespace_lines v.clients None)) (rows_of (query.Filespaces None) v) is refl) ∙ names-are

  versions-are : rows_of (query.Versions its-names.node its-names.name) v ≡ Ok (rows.Versions (versions_at filespace v))
  versions-are = ap (λ (r : Result ℕ Refusal). on_ok rows.Versions (on_ok (λ n. versions_at n v) r)) here.4

  held-are : rows_of (query.Held filespace) v ≡ Ok (rows.Held (held_lines v.today filespace v.clients.held))
  held-are = ap (λ (o : Option Filespace). on_ok rows.Held (if is_some o then Ok (held_lines v.today filespace v.clients.held) else Err refused.NotFound)) here.1

  going-first : (c : Core) (objects : List Doomed) → inventory c ≡ v → objects ≡ doomed_in filespace v → Going filespace objects c
  going-first c objects is all = record {
    there = ap (λ (x : Inv). is_some (filespace_at filespace x.clients.filespaces)) is ∙ ap is_some here.1;
    valid = ap is_valid is ∙ can.1;
    ordered = subst IsOrdered (sym is) can.2;
    left = λ k kept. ap (list_any (λ (d : Doomed). d.object == k)) all ∙ is-listed filespace v.number k v (begins v (facts_of v can.1)) can.2 (sym (ap (filespace_of k) is) ∙ kept);
  }

-- where nothing is kept in it, its row's transaction isn't refused so
row-goes : (filespace : ℕ) (name : List ℕ) (m next : Machine) (e : Refusal) → Going filespace [] m.core → Commits 0 (deleting name filespace) [] m next (Err e) → is_kept_by e ≡ false
row-goes filespace name m next e g step =
    let v : Inv = inventory m.core in
    let w : Change = change.Object (client.Filespace two.Delete 0 name filespace) in
    let x = is_found (filespace_at filespace v.clients.filespaces) g.there in
    let f : VersionFacts v.number v = begins v (facts_of v g.valid) in
    commit-all IsBare bare-common m next e w ((filespace-takes name filespace).fills m.core.next_file v)
    (subst (λ (l : List Refusal). AllByRecursion IsBare l) (sym (row-legal filespace v.number v f (λ k kept. false≢true (g.left k kept)) (sight 0 m.core).journal name x.0 x.1)) tt) (bare-sizes w v) tt step

-- ---- the whole

module _ (trusted : Type 0) (places : Places) (filespace : ℕ) (e : Refusal) (un : is_kept_by e ≡ true) (v : Inv) (can : IsThereIn filespace v) where
  abbrev its : Names
  its = its-names filespace v can

  -- it is found
  unfound : (events : List Event) (m new : Machine) → inventory m.core ≡ v → IsMissing (IsUnfound filespace e) events e → Alone trusted places 0 events m new → ⊥
  unfound events m new is (ten, asks, met) f =
      let at = met-at trusted places IsAsking (λ c. inventory c ≡ v) (λ d x next so step h. asking-same places v d x next so step h) (IsUnfound filespace e) events m new asks is f met in
      by at.before at.after at.deed at.holds at.step at.is
    where
      by : (m next : Machine) (d : Deed) → inventory m.core ≡ v → Case places 0 d m next → IsUnfound filespace e d → ⊥
      by m next d same step (inl asked) =
          ask-told (query.Filespaces None) m next e (shape (inventory m.core) (rows.Filespaces (filespace_lines (inventory m.core).clients None))) refl un (subst (λ (x : Deed). Case places 0 x m next) asked step)
      by m next d same step (inr (answer, lines, asked, shown, none)) =
          let told = ask-rows (query.Filespaces None) (rows.Filespaces lines) answer m next (λ n a. refl) shown (subst (λ (x : Deed). Case places 0 x m next) asked step) in
          no-both its e (names_in filespace lines) (named-lines filespace v can lines (ap (rows_of (query.Filespaces None)) (sym same) ∙ told.1)) none

  -- and so are its objects
  unlisted : (names : Names) (events : List Event) (m new : Machine) → names ≡ its → inventory m.core ≡ v → IsMissing (IsUnlisted filespace names e) events e → Alone trusted places 0 events m new → ⊥
  unlisted names events m new named is (ten, asks, met) f =
      let at = met-at trusted places IsAsking (λ c. inventory c ≡ v) (λ d x next so step h. asking-same places v d x next so step h) (IsUnlisted filespace names e) events m new asks is f met in
      by at.before at.after at.deed at.holds at.step at.is
    where
      by : (m next : Machine) (d : Deed) → inventory m.core ≡ v → Case places 0 d m next → IsUnlisted filespace names e d → ⊥
      by m next d same step (inl asked) =
          ask-told (query.Versions names.node names.name) m next e (shape v (rows.Versions (versions_at filespace v)))
          (ap (answered (query.Versions names.node names.name)) same ∙ ap (λ (n : Names). answered (query.Versions n.node n.name) v) named ∙ ap (on_ok (shape v)) (versions-are filespace v can)) un
          (subst (λ (x : Deed). Case places 0 x m next) asked step)
      by m next d same step (inr asked) =
          ask-told (query.Held filespace) m next e (shape v (rows.Held (held_lines v.today filespace v.clients.held))) (ap (answered (query.Held filespace)) same ∙ ap (on_ok (shape v)) (held-are filespace v can)) un
          (subst (λ (x : Deed). Case places 0 x m next) asked step)

  -- these are all that is kept in it
  listed-all : (names : Names) (events : List Event) (objects : List Doomed) (m new : Machine) → names ≡ its → inventory m.core ≡ v → Objects filespace names events objects → Alone trusted places 0 events m new → Going filespace objects new.core
  listed-all names events objects m new named is (versions, held, are, (xs, ys, cut, (first, asked, shown), (second, asked_held, shown_held))) f =
      let parts = alone-parts trusted places 0 events xs ys m new cut f in
      let a = asked-rows trusted places (query.Versions names.node names.name) (rows.Versions versions) first xs m parts.0 (λ n a. refl) shown asked parts.1 in
      let b = asked-rows trusted places (query.Held filespace) (rows.Held held) second ys parts.0 new (λ n a. refl) shown_held asked_held parts.2 in
      let mid : inventory parts.0.core ≡ v = ap inventory a.0 ∙ is in
      let told : rows_of (query.Versions names.node names.name) v ≡ Ok (rows.Versions versions) = ap (rows_of (query.Versions names.node names.name)) (sym is) ∙ a.1 in
      let told_held : rows_of (query.Held filespace) v ≡ Ok (rows.Held held) = ap (rows_of (query.Held filespace)) (sym mid) ∙ b.1 in
      let there : rows_of (query.Versions names.node names.name) v ≡ Ok (rows.Versions (versions_at filespace v)) = ap (λ (n : Names). rows_of (query.Versions n.node n.name) v) named ∙ versions-are filespace v can in
      let all_versions : versions ≡ versions_at filespace v = same-ok versions-in (rows.Versions versions) (rows.Versions (versions_at filespace v)) (rows_of (query.Versions names.node names.name) v) told there in
      let all_held : held ≡ held_lines v.today filespace v.clients.held =
      same-ok held-in (rows.Held held) (rows.Held (held_lines v.today filespace v.clients.held)) (rows_of (query.Held filespace) v) told_held (held-are filespace v can) in
      going-first filespace v can new.core objects (ap inventory b.0 ∙ mid)
      (are ∙ ap (λ (l : List VersionLine). map of_version l ++ map of_held held) all_versions ∙ ap (λ (l : List HeldLine). map of_version (versions_at filespace v) ++ map of_held l) all_held)

  -- its row goes
  unkept : (names : Names) (events : List Event) (m new : Machine) → names ≡ its → inventory m.core ≡ v → IsKept filespace names events e → Alone trusted places 0 events m new → ⊥
  unkept names events m new named is (count, (us, ws, cut, (objects, (os, hs, apart, found, handles)), (n, name, one))) f =
      let parts = alone-parts trusted places 0 events us ws m new cut f in
      let more = alone-parts trusted places 0 us os hs m parts.0 apart parts.1 in
      let all = listed-all names os objects m more.0 named is found more.1 in
      let none : Going filespace [] parts.0.core = handled trusted places filespace hs objects more.0 parts.0 handles.each all more.2 in
      let step = (stepped trusted places n (Commit (deleting name filespace) [] (Err e)) ws parts.0 new (λ contents seen h. h) (λ contents x. refl) one parts.2).1 in
      false≢true (sym (row-goes filespace name parts.0 new e none step) ∙ un)

  found-names : (names : Names) (events : List Event) (m new : Machine) → inventory m.core ≡ v → Found filespace events names → Alone trusted places 0 events m new → (inventory new.core ≡ v) × (names ≡ its)
  found-names names events m new is (answer, lines, asked, shown, told) f =
      let a = asked-rows trusted places (query.Filespaces None) (rows.Filespaces lines) answer events m new (λ n a. refl) shown asked f in (
        ap inventory a.0 ∙ is,
        ok-same names its (sym told ∙ named-lines filespace v can lines (ap (rows_of (query.Filespaces None)) (sym is) ∙ a.1)),
      )

  behind-found : (names : Names) (events : List Event) (m new : Machine) → names ≡ its → inventory m.core ≡ v → IsMissing (IsUnlisted filespace names e) events e ⊎ IsKept filespace names events e → Alone trusted places 0 events m new → ⊥
  behind-found names events m new named is (inl missing) f = unlisted names events m new named is missing f
  behind-found names events m new named is (inr kept) f = unkept names events m new named is kept f

  placed : (events : List Event) (m new : Machine) → inventory m.core ≡ v → IsUnremoved e → IsInPlace filespace events e → Alone trusted places 0 events m new → ⊥
  placed events m new is one (inl stopped) f = unstopped e events one stopped
  placed events m new is one (inr (inl missing)) f = unfound events m new is missing f
  placed events m new is one (inr (inr (names, (xs, ys, cut, found, rest)))) f =
      let parts = alone-parts trusted places 0 events xs ys m new cut f in
      let known = found-names names xs m parts.0 is found parts.1 in
      behind-found names ys parts.0 new known.1 known.0 rest parts.2

-- where the filespace is there none is refused so
pub unbarred : (trusted : Type 0) (places : Places) (filespace : ℕ) (events : List Event) (e : Refusal) (old new : Machine) → IsUnremoved e → IsInPlace filespace events e → Alone trusted places 0 events old new
    → is_valid (database old) ≡ true → IsOrdered (database old) → has_filespace filespace (database old) ≡ true → ⊥
unbarred trusted places filespace events e old new one place f valid ordered there = placed trusted places filespace e (kept-of e one) (database old) (there, valid, ordered) events old new refl one place f

pub not-there : (b : Bool) → (b ≡ true → ⊥) → b ≡ false
not-there true never = absurd (never refl)
not-there false never = refl

pub ten-is : (e : Refusal) → (number_of e == 10) ≡ true → e ≡ refused.NotFound
ten-is refused.NotFound h = refl
ten-is e h = absurd cc

module _ (trusted : Type 0) (places : Places) (filespace : ℕ) (events : List Event) (e : Refusal) (old new : Machine) (one : IsUnremoved e) (f : Alone trusted places 0 events old new) (valid : is_valid (database old) ≡ true) (ordered : IsOrdered (database old)) where
  found-there : (names : Names) (xs ys : List Event) → events ≡ xs ++ ys → Found filespace xs names → has_filespace filespace (database old) ≡ true
  found-there names xs ys cut (answer, lines, asked, shown, told) =
      let parts = alone-parts trusted places 0 events xs ys old new cut f in
      let a = asked-rows trusted places (query.Filespaces None) (rows.Filespaces lines) answer xs old parts.0 (λ n a. refl) shown asked parts.1 in
      let all : lines ≡ filespace_lines (database old).clients None =
      same-ok lines-of (rows.Filespaces lines) (rows.Filespaces (filespace_lines (database old).clients None)) (rows_of (query.Filespaces None) (database old)) a.1 refl in
      names-there filespace (database old).clients (database old).clients.filespaces names (ap (names_in filespace) (sym all) ∙ told)

  -- one that is refused so isn't there, and no other refusal says so
  pub absent : IsInPlace filespace events e → IsAbsent (has_filespace filespace (database old)) e
  absent (inl stopped) = absurd (unstopped e events one stopped)
  absent (inr (inl missing)) = (
    ten-is e missing.0,
    not-there (has_filespace filespace (database old)) (unbarred trusted places filespace events e old new one (inr (inl missing)) f valid ordered),
  )
  absent (inr (inr (names, (xs, ys, cut, found, rest)))) =
      absurd (unbarred trusted places filespace events e old new one (inr (inr (names, (xs, ys, cut, found, rest)))) f valid ordered (found-there names xs ys cut found))
