-- What is kept in a filespace is on the lists that its deletion asks for, and may be discarded for it.
use Rattle.std.proofs.Common.{◌≡◌, ℕ, suc, ◌+◌, ◌^◌, Bool, true, false, cond, eqb, ◌||◌, nat_le, nat_lt, List, [], ◌∷◌, ◌++◌, map, Option, Some, None, Err, refl, sym, ap, subst, ◌∙◌}
use Rattle.std.proofs.lemmas.Bool.{eq-eqb, false≢true}
use Rattle.std.proofs.lemmas.Option.{same_Some}
use Rattle.std.specs.Prelude.{is_some}
use Rattle.std.specs.List.{AllByRecursion, list_any}
use Rattle.std.specs.Option.{option_map, option_or}
use Rattle.kinds.specs.Refusals.{unless}
use Rattle.kinds.specs.declared.refusal.Refusal.{Refusal}
use Rattle.kinds.specs.declared.refusal.Refusal.TheVariants as refused
use Rattle.kinds.specs.declared.rule.RuleFound.{RuleFound}
use Rattle.entries.specs.change_items.declared.reasons.DiscardReason.TheVariants as because
use Rattle.entries.specs.declared.change.Change.{Change}
use Rattle.entries.specs.declared.change.Change.TheVariants as change
use Rattle.inventory_rows.specs.Items.{count_items, most_items}
use Rattle.inventory_rows.specs.object_rows.declared.held_object.HeldRow.{HeldRow}
use Rattle.inventory_rows.specs.object_rows.declared.place.Place.{Place}
use Rattle.inventory_rows.specs.object_rows.Filespaces.{at_number, filespace_at, groups_in, versions_at, versions_of}
use Rattle.inventory_rows.specs.object_rows.HeldRows.{held_at, held_versions}
use Rattle.inventory_rows.specs.object_rows.Places.{place_of}
use Rattle.inventory_rows.specs.version_groups.declared.group.Group.{Group}
use Rattle.inventory_rows.specs.version_groups.declared.versions.Version.{Version}
use Rattle.inventory_rows.specs.version_groups.Groups as grouped
use Rattle.inventory_rows.specs.version_groups.Groups.{at_path}
use Rattle.inventory_rows.specs.version_groups.Versions.{has_object}
use Rattle.inventory_rows.specs.Search.{filespace_of, rule_in, version, versions}
use Rattle.inventory_rows.specs.State.{Inv}
use Rattle.inventory_rows.proofs.of_object_rows.Stands.{has-listed}
use Rattle.inventory_rules.specs.Common.{full_at}
use Rattle.inventory_rules.specs.Halfway.{VersionFacts}
use Rattle.inventory_rules.specs.Journal.{Journal}
use Rattle.inventory_rules.specs.Ordered.{IsOrdered}
use Rattle.inventory_rules.specs.Transactions.{causes, effect, sizes_refused}
use Rattle.inventory_rules.specs.Versions.{is_in, of_version as of_there}
use Rattle.inventory_laws.proofs.Arriving.{has-append, has-version}
use Rattle.inventory_laws.proofs.CopyCounts.{is_found}
use Rattle.inventory_laws.proofs.HeldNumbers.{has-held, held_object}
use Rattle.inventory_laws.proofs.Others.{path_of_place}
use Rattle.inventory_answers.specs.Clients as lines
use Rattle.inventory_answers.specs.Clients.{group_versions, lines_from, version_line_at, version_lines}
use Rattle.inventory_answers.specs.Held.{held_line, held_lines, held_lines_of}
use Rattle.inventory_answers.specs.declared.lines.HeldLine.{HeldLine}
use Rattle.inventory_answers.specs.declared.lines.VersionLine.{VersionLine}
use Rattle.inventory_work.specs.Lists.{only}
use Rattle.command_steps.specs.copy_attempts.Attempts.{is_passed}
use Rattle.command_steps.specs.deletions.Discarding.{discarded, discarding}
use Rattle.command_steps.specs.deletions.Filespaces.{of_held, of_version}
use Rattle.machine.specs.Machine.{Commits}
use Rattle.machine.specs.State.{Machine, inventory, sight}
use Rattle.machine.proofs.Elsewhere.{append-all, unless-all}
use Rattle.line_results.proofs.Bounds.{Common, commit-all}
use Rattle.line_results.proofs.Types.{Doomed}

-- ---- lists

pub any-left : {A : Type 0} (p : A → Bool) (xs ys : List A) → list_any p xs ≡ true → list_any p (xs ++ ys) ≡ true
any-left p [] ys h = absurd (false≢true h)
any-left p (x ∷ xs) ys h = elim (p x) as (λ b. (b || list_any p xs) ≡ true → (b || list_any p (xs ++ ys)) ≡ true) [
  | true ↦ λ t. refl
  | false ↦ λ t. any-left p xs ys t
] h

pub any-right : {A : Type 0} (p : A → Bool) (xs ys : List A) → list_any p ys ≡ true → list_any p (xs ++ ys) ≡ true
any-right p [] ys h = h
any-right p (x ∷ xs) ys h = elim (p x) as (λ b. (b || list_any p (xs ++ ys)) ≡ true) [
  | true ↦ refl
  | false ↦ any-right p xs ys h
]

pub any-map : {A B : Type 0} (f : A → B) (p : B → Bool) (xs : List A) → list_any (λ x. p (f x)) xs ≡ true → list_any p (map f xs) ≡ true
any-map f p [] h = h
any-map f p (x ∷ xs) h = elim (p (f x)) as (λ b. (b || list_any (λ y. p (f y)) xs) ≡ true → (b || list_any p (map f xs)) ≡ true) [
  | true ↦ λ t. refl
  | false ↦ λ t. any-map f p xs t
] h

-- ---- the lists of a filespace

abbrev pub IsLine : ℕ → VersionLine → Bool
IsLine m l = eqb l.object m

abbrev pub IsHeldLine : ℕ → HeldLine → Bool
IsHeldLine m l = eqb l.object m

pub lines-have : (m today : ℕ) (path : List ℕ) (g : Group) (rule : Option RuleFound) (place : ℕ) (ws : List Version) → has_object m ws ≡ true → list_any (IsLine m) (lines_from (version_line_at rule today path g) place ws) ≡ true
lines-have m today path g rule place [] h = absurd (false≢true h)
lines-have m today path g rule place (w ∷ ws) h =
    elim (eqb w.object m) as (λ b. (b || has_object m ws) ≡ true → (b || list_any (IsLine m) (lines_from (version_line_at rule today path g) (suc place) ws)) ≡ true) [
      | true ↦ λ t. refl
      | false ↦ λ t. lines-have m today path g rule (suc place) ws t
    ] h

groups-have : (m filespace : ℕ) (v : Inv) (path : List ℕ) (groups : List (List ℕ × Group)) → has_object m (grouped.versions_at path groups) ≡ true → list_any (IsLine m) (version_lines filespace v groups) ≡ true
groups-have m filespace v path [] h = absurd (false≢true h)
groups-have m filespace v path (g ∷ groups) h =
    let here : List VersionLine = group_versions (rule_in filespace g.1.class v) v.today g.0 g.1 in
    elim (at_path path g.0) as (λ b. has_object m (grouped.versions_in (cond b (Some g.1) (grouped.group_at path groups))) ≡ true → list_any (IsLine m) (here ++ version_lines filespace v groups) ≡ true) [
      | true ↦ λ t. any-left (IsLine m) here (version_lines filespace v groups) (lines-have m v.today g.0 g.1 (rule_in filespace g.1.class v) 0 g.1.versions t)
      | false ↦ λ t. any-right (IsLine m) here (version_lines filespace v groups) (groups-have m filespace v path groups t)
    ] h

held-have : (m filespace today : ℕ) (v : Inv) (held : List (ℕ × HeldRow)) (row : HeldRow) → ((r : HeldRow) → held_at m held ≡ Some r → r.held.version.object ≡ m) → held_at m held ≡ Some row → row.filespace ≡ filespace
    → list_any (IsHeldLine m) (held_lines today filespace held) ≡ true
held-have m filespace today v [] row number found is = absurd (let odd : None ≡ Some row = found in cc)
held-have m filespace today v (e ∷ held) row number found is =
    elim (at_number m e.0) as (λ b. ((r : HeldRow) → cond b (Some e.1) (held_at m held) ≡ Some r → r.held.version.object ≡ m) → cond b (Some e.1) (held_at m held) ≡ Some row
    → list_any (IsHeldLine m) (held_lines_of today filespace e.1 ++ held_lines today filespace held) ≡ true) [
      | true ↦ λ one at. any-left (IsHeldLine m) (held_lines_of today filespace e.1) (held_lines today filespace held) (here (one e.1 refl) (same_Some e.1 row at))
      | false ↦ λ one at. any-right (IsHeldLine m) (held_lines_of today filespace e.1) (held_lines today filespace held) (held-have m filespace today v held row one at is)
    ] number found
  where
    here : e.1.held.version.object ≡ m → e.1 ≡ row → list_any (IsHeldLine m) (only (eqb e.1.filespace filespace) (held_line today e.1)) ≡ true
    here number same =
        let there : eqb e.1.filespace filespace ≡ true = eq-eqb e.1.filespace filespace (ap (λ (r : HeldRow). r.filespace) same ∙ is) in
        ap (λ (b : Bool). list_any (IsHeldLine m) (only b (held_line today e.1))) there ∙ ap (λ (b : Bool). b || false) (eq-eqb e.1.held.version.object m number)

abbrev pub IsDoomed : ℕ → Doomed → Bool
IsDoomed m d = eqb d.object m

-- the objects that are listed of a filespace
abbrev pub doomed_in : ℕ → Inv → List Doomed
doomed_in filespace v = map of_version (lines.versions_at filespace v) ++ map of_held (held_lines v.today filespace v.clients.held)

module _ (filespace n m : ℕ) (v : Inv) (f : VersionFacts n v) (o : IsOrdered v) where
  by-place : (p : Option Place) (r : Option HeldRow) → place_of m v.clients.filespaces ≡ p → held_at m v.clients.held ≡ r → option_or (option_map (λ (place : Place). place.filespace) p) (option_map (λ (row : HeldRow). row.filespace) r) ≡ Some filespace
      → list_any (IsDoomed m) (doomed_in filespace v) ≡ true
  by-place (Some at) r here there is =
      let same : at.filespace ≡ filespace = same_Some at.filespace filespace is in
      let has : has_object m (versions_at filespace at.path v.clients.filespaces) ≡ true =
      subst (λ (k : ℕ). has_object m (versions_at k at.path v.clients.filespaces) ≡ true) same (path_of_place n m v at f o here) in
      any-left (IsDoomed m) (map of_version (lines.versions_at filespace v)) (map of_held (held_lines v.today filespace v.clients.held))
      (any-map of_version (IsDoomed m) (lines.versions_at filespace v) (groups-have m filespace v at.path (groups_in (filespace_at filespace v.clients.filespaces)) has))
  by-place None (Some row) here there is =
      any-right (IsDoomed m) (map of_version (lines.versions_at filespace v)) (map of_held (held_lines v.today filespace v.clients.held))
      (any-map of_held (IsDoomed m) (held_lines v.today filespace v.clients.held)
      (held-have m filespace v.today v v.clients.held row (λ r at. held_object m v.clients.filespaces v.clients.held r f.held at) there (same_Some row.filespace filespace is)))
  by-place None None here there is = absurd (let odd : ◌≡◌ {A = Option ℕ} None (Some filespace) = is in cc)

  -- what is kept in it is on them
  pub is-listed : filespace_of m v ≡ Some filespace → list_any (IsDoomed m) (doomed_in filespace v) ≡ true
  is-listed is = by-place (place_of m v.clients.filespaces) (held_at m v.clients.held) refl refl is

  or-right : (a b : Bool) → b ≡ true → (a || b) ≡ true
  or-right true b h = refl
  or-right false b h = h

  has-by : (p : Option Place) (r : Option HeldRow) → place_of m v.clients.filespaces ≡ p → held_at m v.clients.held ≡ r → option_or (option_map (λ (place : Place). place.filespace) p) (option_map (λ (row : HeldRow). row.filespace) r) ≡ Some filespace
      → (has_object m (versions_of v.clients.filespaces) || has_object m (held_versions v.clients.held)) ≡ true
  has-by (Some at) r here there is =
      ap (λ (b : Bool). b || has_object m (held_versions v.clients.held)) (sym (has-listed m v.clients.filespaces) ∙ ap is_some here)
  has-by None (Some row) here there is =
      or-right (has_object m (versions_of v.clients.filespaces)) (has_object m (held_versions v.clients.held)) (has-held m v.clients.filespaces v.clients.held f.held ∙ ap is_some there)
  has-by None None here there is = absurd (let odd : ◌≡◌ {A = Option ℕ} None (Some filespace) = is in cc)

  -- and has a version
  pub has-one : filespace_of m v ≡ Some filespace → (w : Version) × (version m v ≡ Some w)
  has-one is =
      is_found (version m v)
      (sym (has-version m (versions v)) ∙ has-append m (versions_of v.clients.filespaces) (held_versions v.clients.held)
      ∙ has-by (place_of m v.clients.filespaces) (held_at m v.clients.held) refl refl is)

-- ---- its discard

-- the transaction that discards one object for the filespace's deletion
abbrev pub alone_of : (filespace : ℕ) → Doomed → Change
alone_of filespace it = change.Discard (record { reason = because.Filespace filespace; items = discarded it ∷ [] })

pub is-legal : (filespace n : ℕ) (j : Journal) (it : Doomed) (v : Inv) → VersionFacts n v → IsOrdered v → filespace_of it.object v ≡ Some filespace → causes j (alone_of filespace it) v ≡ []
is-legal filespace n j it v f o is =
    let w = has-one filespace n it.object v f o is in
    ap (λ (x : Option Version). of_there j it.object (λ w. unless (is_in filespace (filespace_of it.object v)) refused.NotFound) x ++ []) w.1
    ∙ ap (λ (k : Option ℕ). unless (is_in filespace k) refused.NotFound ++ []) is
    ∙ ap (λ (b : Bool). unless b refused.NotFound ++ []) (eq-eqb filespace filespace refl)

abbrev pub IsBare : Refusal → Type 0
IsBare e = is_passed e ≡ true → ⊥

pub bare-common : Common IsBare
bare-common = record { full = λ is. cc; fault = λ file count is. cc; memory = λ is. cc; bad = λ is. cc; long = λ is. cc }

-- it isn't passed over
pub not-passed : (filespace n : ℕ) (it : Doomed) (m next : Machine) (why : Refusal) → VersionFacts n (inventory m.core) → IsOrdered (inventory m.core) → filespace_of it.object (inventory m.core) ≡ Some filespace
    → Commits 0 (discarding (because.Filespace filespace) (it ∷ [])) [] m next (Err why) → is_passed why ≡ true → ⊥
not-passed filespace n it m next why f o is step =
    let v : Inv = inventory m.core in
    let w : Change = alone_of filespace it in
    let sizes : AllByRecursion IsBare (sizes_refused w v) =
    append-all IsBare (unless (nat_le (count_items (effect w v)) most_items) refused.InventoryFull) (full_at v.number (2 ^ 62))
    (unless-all IsBare (nat_le (count_items (effect w v)) most_items) refused.InventoryFull (λ is. cc)) (unless-all IsBare (nat_lt (v.number + 1) (2 ^ 62)) refused.InventoryFull (λ is. cc)) in
    commit-all IsBare bare-common m next why w refl (subst (λ (l : List Refusal). AllByRecursion IsBare l) (sym (is-legal filespace n (sight 0 m.core).journal it v f o is)) tt) sizes tt step
