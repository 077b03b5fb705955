-- The object that a file was stored as is the newest version of its path.
use Rattle.std.proofs.Common.{◌≡◌, ℕ, ◌==◌, Bool, true, false, cond, if◌then◌else◌, List, [], ◌∷◌, ◌++◌, Option, None, Some, Result, Ok, refl, sym, ap, ◌∙◌}
use Rattle.std.proofs.lemmas.Bool.{eq-eqb}
use Rattle.std.proofs.lemmas.Cmp.{nat_cmp_total}
use Rattle.std.proofs.lemmas.Map.Text.{is_eq-slice_cmp}
use Rattle.std.specs.BTreeMap.{insert_entry, is_at}
use Rattle.std.specs.Cmp.{IsTotalOrder, eq_by_cmp_equiv}
use Rattle.std.specs.Cmp.Lexicographic.{nat_list_cmp_total, slice_cmp}
use Rattle.std.specs.Map.{lookup, set_value}
use Rattle.std.specs.Ordering.{is_eq, match_ordering, nat_cmp}
use Rattle.std.specs.declared.cmp.Ordering.{Ordering}
use Rattle.std.specs.declared.cmp.Ordering.TheVariants.{Less, Equal, Greater}
use Rattle.sha2.specs.Sha256.{sha256}
use Rattle.kinds.specs.Names.{is_same_name}
use Rattle.kinds.specs.ValueForms.{digest_with}
use Rattle.kinds.specs.declared.refusal.Refusal.{Refusal}
use Rattle.kinds.specs.declared.rule.RuleFound.{RuleFound}
use Rattle.kinds.specs.declared.segment.Segment.{Segment}
use Rattle.entries.specs.change_items.declared.items.NewVersion.{NewVersion}
use Rattle.entries.specs.change_items.declared.items.ScratchVolume.{ScratchVolume}
use Rattle.entries.specs.declared.change.Change.TheVariants as change
use Rattle.inventory_rows.specs.object_rows.Filespaces.{at_number, filespaces_with, group_at, groups_in}
use Rattle.inventory_rows.specs.object_rows.Names.{at_name, filespace_named, name_in, named_of, node_named}
use Rattle.inventory_rows.specs.object_rows.Rows.{Rows}
use Rattle.inventory_rows.specs.version_groups.Groups.{at_path, group_with, groups_with}
use Rattle.inventory_rows.specs.version_groups.Groups as grouped
use Rattle.inventory_rows.specs.version_groups.Entries.{on_ok}
use Rattle.inventory_rows.specs.version_groups.declared.group.Group.{Group}
use Rattle.inventory_rows.specs.version_groups.declared.groups.Filespace.{Filespace}
use Rattle.inventory_rows.specs.version_groups.declared.versions.Version.{Version}
use Rattle.inventory_rows.specs.Search.{rule_in}
use Rattle.inventory_rows.specs.State.{Inv}
use Rattle.inventory_rules.specs.Common.{each, or_same}
use Rattle.inventory_rules.specs.Segments.{make_scratch, put}
use Rattle.inventory_rules.specs.Transactions.{effect}
use Rattle.inventory_rules.specs.Versions.{inserted, new_version}
use Rattle.inventory_work.specs.Found.{filespace_asked}
use Rattle.inventory_answers.specs.Clients.{group_versions, path_versions_of, versions_of_group, versions_under}
use Rattle.inventory_answers.specs.declared.lines.VersionLine.{VersionLine}
use Rattle.admin_words.specs.declared.files.FilePut.{FilePut}
use Rattle.command_steps.specs.Owns.{row_put}
use Rattle.command_steps.specs.sessions.Putting.{found_or, object_among, object_stored}
use Rattle.machine.specs.Changes.{scratch_of}
use Rattle.machine.specs.State.{Core, Place, inventory}
use Rattle.line_results.specs.Files.{backed_up, item_of, ticket_of}
use Rattle.line_results.proofs.PutStoring.{same-self}

-- ---- rows of maps

same_test : {A : Type 0} (b c : Bool) (x y z : A) → c ≡ b → cond b x y ≡ cond c x (cond b z y)
same_test true c x y z e = ap (λ t. cond t x z) (sym e)
same_test false c x y z e = ap (λ t. cond t x y) (sym e)

two_tests : {A : Type 0} (a c : Bool) (x y z : A) → (c ≡ true → a ≡ false) → cond a x (cond c y z) ≡ cond c y (cond a x z)
two_tests a true x y z h = ap (λ t. cond t x y) (h refl)
two_tests a false x y z h = refl

-- what a look-up finds once an entry is inserted
lookup-inserted : {K X : Type 0} {R : K → K → Ordering} (o : IsTotalOrder R) (k q : K) (v : X) (es : List (K × X)) → lookup (is_at (R q)) (insert_entry R es k v) ≡ cond (is_at (R q) k) (Some v) (lookup (is_at (R q)) es)
lookup-inserted o k q v [] = refl
lookup-inserted {K} {X} {R} o k q v (e ∷ es) =
    elim (R k e.0) as (λ r. R k e.0 ≡ r → lookup (is_at (R q)) (match_ordering r ((k, v) ∷ e ∷ es) ((e.0, v) ∷ es) (e ∷ insert_entry R es k v)) ≡ cond (is_at (R q) k) (Some v) (lookup (is_at (R q)) (e ∷ es))) [
      | Less ↦ λ _. refl
      | Equal ↦ λ same.
          same_test (is_eq (R q e.0)) (is_eq (R q k)) (Some v) (lookup (is_at (R q)) es) (Some e.1)
          ((eq_by_cmp_equiv o).symm q k ∙ (eq_by_cmp_equiv o).congr k e.0 q (ap is_eq same) ∙ (eq_by_cmp_equiv o).symm e.0 q)
      | Greater ↦ λ above.
          ap (λ t. cond (is_eq (R q e.0)) (Some e.1) t) (lookup-inserted o k q v es)
          ∙ two_tests (is_eq (R q e.0)) (is_eq (R q k)) (Some e.1) (Some v) (lookup (is_at (R q)) es) (λ s. (eq_by_cmp_equiv o).congr q k e.0 s ∙ ap is_eq above)
    ] refl

set-found : {X : Type 0} (test : ℕ → Bool) (w x : X) (es : List (ℕ × X)) → lookup test es ≡ Some x → lookup test (set_value test es w) ≡ Some w
set-found test w x [] h = absurd cc
set-found test w x (e ∷ es) h = elim (test e.0) as (λ b. test e.0 ≡ b → cond b (Some e.1) (lookup test es) ≡ Some x → lookup test (cond b ((e.0, w) ∷ es) (e ∷ set_value test es w)) ≡ Some w) [
  | true ↦ λ is _. ap (λ b. cond b (Some w) (lookup test es)) is
  | false ↦ λ is rest. ap (λ b. cond b (Some e.1) (lookup test (set_value test es w))) is ∙ set-found test w x es rest
] refl h

-- ---- clients behind the transaction

scratch-clients : (volumes : List ScratchVolume) (v : Inv) → (each make_scratch volumes v).clients ≡ v.clients
scratch-clients [] v = refl
scratch-clients (s ∷ volumes) v = scratch-clients volumes (make_scratch s v)

put-clients : (object : ℕ) (segments : List Segment) (v : Inv) → (put object segments v).clients ≡ v.clients
put-clients object [] v = refl
put-clients object (s ∷ segments) v = put-clients object segments _

-- the filespaces with this version as the newest of its path
abbrev pub with_version : (filespace : ℕ) → (path class : List ℕ) → Version → List (ℕ × Filespace) → List (ℕ × Filespace)
with_version filespace path class version filespaces = or_same filespaces (filespaces_with filespace path class version filespaces)

abbrev with_newest : (filespace : ℕ) → (path class : List ℕ) → Version → Rows → Rows
with_newest filespace path class version rows = record rows { filespaces = with_version filespace path class version rows.filespaces }

-- the version that the file became, of the object with this number, whatever else is said of it
pub record IsNewest (p : FilePut) (number : ℕ) (version : Version) : Type 0 where
  pub object : version.object ≡ number
  pub mtime : version.mtime ≡ p.mtime
  pub digest : version.digest ≡ digest_with (sha256 p.text)

-- what an item of a file's becomes, under whatever class and in whatever place
pub stored-clients : (filespace : ℕ) (p : FilePut) (scratch : List ScratchVolume) (item : NewVersion) (v : Inv) → item.path ≡ p.path → item.mtime ≡ p.mtime → item.digest ≡ digest_with (sha256 p.text)
    → (version : Version) × IsNewest p item.object version
    × ((effect (change.Backup (record { filespace = filespace; scratch = scratch; items = item ∷ [] })) v).clients ≡ with_newest filespace p.path item.class version v.clients)
unfolding effect
stored-clients filespace p scratch item v path mtime digest =
    let w : Inv = each make_scratch scratch v in
    let version : Version = new_version w item in (
      version,
      record { object = refl; mtime = mtime; digest = digest },
      put-clients item.object item.segments (inserted filespace item w)
          ∙ ap (λ (rows : Rows). with_newest filespace item.path item.class version rows) (scratch-clients scratch v) ∙ ap (λ (l : List ℕ). with_newest filespace l item.class version v.clients) path,
    )

-- ---- the filespace and its node are found as before

-- one of the entries has this number
passed : (number : ℕ) (e : ℕ × Filespace) (es : List (ℕ × Filespace)) → (f : Filespace) × (lookup (at_number number) es ≡ Some f) → (f : Filespace) × (lookup (at_number number) (e ∷ es) ≡ Some f)
passed number e es h = elim (at_number number e.0) as (λ b. (f : Filespace) × (cond b (Some e.1) (lookup (at_number number) es) ≡ Some f)) [
  | true ↦ (e.1, refl)
  | false ↦ h
]

pub same-number : (n : ℕ) → at_number n n ≡ true
same-number n = (eq_by_cmp_equiv nat_cmp_total).refl n

there-by : (node number : ℕ) (name : List ℕ) (es : List (ℕ × Filespace)) → filespace_named node name es ≡ Some number → (f : Filespace) × (lookup (at_number number) es ≡ Some f)
there-by node number name [] h = absurd cc
there-by node number name (e ∷ es) h =
    elim (e.1.node == node) as (λ b. lookup (at_name name) ((if b then (e.1.name, e.0) ∷ [] else []) ++ named_of node es) ≡ Some number → (f : Filespace) × (lookup (at_number number) (e ∷ es) ≡ Some f)) [
      | true ↦ λ s. elim (at_name name e.1.name) as (λ b. cond b (Some e.0) (lookup (at_name name) (named_of node es)) ≡ Some number → (f : Filespace) × (lookup (at_number number) (e ∷ es) ≡ Some f)) [
        | true ↦ λ is. (let same : e.0 ≡ number = cc in
            (e.1, ap (λ (b : Bool). cond b (Some e.1) (lookup (at_number number) es)) (ap (λ (n : ℕ). at_number n e.0) (sym same) ∙ same-number e.0)))
        | false ↦ λ is. passed number e es (there-by node number name es is)
      ] s
      | false ↦ λ s. passed number e es (there-by node number name es s)
    ] h

named-set : (test : ℕ → Bool) (node : ℕ) (old new : Filespace) (es : List (ℕ × Filespace)) → lookup test es ≡ Some old → new.node ≡ old.node → new.name ≡ old.name → named_of node (set_value test es new) ≡ named_of node es
named-set test node old new [] h nodes names = refl
named-set test node old new (e ∷ es) h nodes names =
    elim (test e.0) as (λ b. cond b (Some e.1) (lookup test es) ≡ Some old → named_of node (cond b ((e.0, new) ∷ es) (e ∷ set_value test es new)) ≡ named_of node (e ∷ es)) [
      | true ↦ λ is. (let same : e.1 ≡ old = cc in
          let n : new.node ≡ e.1.node = nodes ∙ ap (λ (f : Filespace). f.node) (sym same) in
          let m : new.name ≡ e.1.name = names ∙ ap (λ (f : Filespace). f.name) (sym same) in
          ap (λ (k : ℕ). (if k == node then (new.name, e.0) ∷ [] else []) ++ named_of node es) n
          ∙ ap (λ (k : List ℕ). (if e.1.node == node then (k, e.0) ∷ [] else []) ++ named_of node es) m)
      | false ↦ λ is. ap (λ (l : List (List ℕ × ℕ)). name_in node e.0 e.1 ++ l) (named-set test node old new es is nodes names)
    ] h

-- the filespace that has the version
abbrev newer : (path class : List ℕ) → Version → Filespace → Filespace
newer path class version f = record f { groups = groups_with path class version f.groups }

with-found : (filespace : ℕ) (path class : List ℕ) (version : Version) (f : Filespace) (es : List (ℕ × Filespace)) → lookup (at_number filespace) es ≡ Some f
    → with_version filespace path class version es ≡ set_value (at_number filespace) es (newer path class version f)
with-found filespace path class version f es h = rw h refl

-- ---- the newest version of the path

pub at-self : (path : List ℕ) → at_path path path ≡ true
at-self path = is_eq-slice_cmp path path ∙ same-self path

first-is : (p : FilePut) (number : ℕ) (rule : Option RuleFound) (today : ℕ) (path class : List ℕ) (version : Version) (group : Group) (older : List Version) → IsNewest p number version → group.versions ≡ version ∷ older
    → object_among (row_put p) (digest_with (sha256 p.text)) (group_versions rule today path group) ≡ Some number
first-is p number rule today path class version group older is newest =
    let time : (version.mtime == p.mtime) ≡ true = eq-eqb version.mtime p.mtime is.mtime in
    let same : is_same_name version.digest.0 (digest_with (sha256 p.text)).0 ≡ true = ap (λ d. is_same_name d.0 (digest_with (sha256 p.text)).0) is.digest ∙ same-self (digest_with (sha256 p.text)).0 in
    rw newest (rw time (rw same (ap Some is.object)))

group-first : (class : List ℕ) (version : Version) (old : Option Group) → (older : List Version) × ((group_with class version old).versions ≡ version ∷ older)
group-first class version None = ([], refl)
group-first class version (Some group) = (_, refl)

group-found : (filespace : ℕ) (path class : List ℕ) (version : Version) (f : Filespace) (es : List (ℕ × Filespace)) → lookup (at_number filespace) es ≡ Some f
    → group_at filespace path (with_version filespace path class version es) ≡ Some (group_with class version (grouped.group_at path f.groups))
group-found filespace path class version f es h =
    let g : Group = group_with class version (grouped.group_at path f.groups) in
    let there : lookup (at_number filespace) (with_version filespace path class version es) ≡ Some (newer path class version f) =
    ap (lookup (at_number filespace)) (with-found filespace path class version f es h) ∙ set-found (at_number filespace) (newer path class version f) f es h in
    ap (λ (o : Option Filespace). grouped.group_at path (groups_in o)) there
    ∙ lookup-inserted nat_list_cmp_total path path g f.groups ∙ ap (λ (b : Bool). cond b (Some g) (lookup (is_at (slice_cmp nat_cmp path)) f.groups)) (at-self path)

-- the versions of the path, behind a transaction that left these clients
pub named-in : (node filespace : ℕ) (p : FilePut) (class : List ℕ) (number : ℕ) (version : Version) (v w : Inv) → IsNewest p number version → w.clients ≡ with_newest filespace p.path class version v.clients
    → node_named p.node v.clients.nodes ≡ Some node → filespace_named node p.filespace v.clients.filespaces ≡ Some filespace
    → (lines : List VersionLine) × (path_versions_of p.node p.filespace p.path w ≡ Ok lines) × (object_among (row_put p) (digest_with (sha256 p.text)) lines ≡ Some number)
named-in node filespace p class number version v w newest left known found =
    let es : List (ℕ × Filespace) = v.clients.filespaces in
    let there = there-by node filespace p.filespace es found in
    let rows : Rows = with_newest filespace p.path class version v.clients in
    let names : filespace_named node p.filespace rows.filespaces ≡ Some filespace =
    ap (λ (l : List (ℕ × Filespace)). filespace_named node p.filespace l) (with-found filespace p.path class version there.0 es there.1)
    ∙ ap (lookup (at_name p.filespace)) (named-set (at_number filespace) node there.0 (newer p.path class version there.0) es there.1 refl refl) ∙ found in
    let asked : filespace_asked p.node p.filespace rows ≡ Ok filespace = rw known (rw names refl) in
    let group : Group = group_with class version (grouped.group_at p.path there.0.groups) in
    let at : group_at filespace p.path rows.filespaces ≡ Some group = group-found filespace p.path class version there.0 es there.1 in
    let lines : List VersionLine = group_versions (rule_in filespace group.class w) w.today p.path group in
    let under : versions_under filespace p.path w ≡ lines =
    ap (λ (r : Rows). versions_of_group filespace p.path w (group_at filespace p.path r.filespaces)) left ∙ ap (λ (o : Option Group). versions_of_group filespace p.path w o) at in
    let first = group-first class version (grouped.group_at p.path there.0.groups) in (
      lines,
      ap (λ (r : Result ℕ Refusal). on_ok (λ n. versions_under n p.path w) r) (ap (λ (r : Rows). filespace_asked p.node p.filespace r) left ∙ asked) ∙ ap Ok under,
      first-is p number (rule_in filespace group.class w) w.today p.path class version group first.0 newest first.1,
    )

pub named-object : (node filespace : ℕ) (p : FilePut) (class : List ℕ) (place : Place) (c : Core) → node_named p.node (inventory c).clients.nodes ≡ Some node
    → filespace_named node p.filespace (inventory c).clients.filespaces ≡ Some filespace
    → (lines : List VersionLine) × (path_versions_of p.node p.filespace p.path (effect (backed_up filespace p class place c) (inventory c)) ≡ Ok lines)
    × (object_stored (row_put p) (digest_with (sha256 p.text)) lines ≡ Ok c.next_object)
named-object node filespace p class place c known found =
    let b = stored-clients filespace p (scratch_of (inventory c) (ticket_of p place c ∷ [])) (item_of p class place c) (inventory c) refl refl refl in
    let named = named-in node filespace p class c.next_object b.0 (inventory c) (effect (backed_up filespace p class place c) (inventory c)) b.1 b.2 known found in
    (named.0, named.1, ap found_or named.2)
