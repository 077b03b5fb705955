-- Held rows: what a search of their objects finds, and where they stand after each change.
use Rattle.std.proofs.Common.{◌≡◌, ◌⊎◌, ℕ, Bool, true, false, ◌||◌, cond, eqb, List, [], ◌∷◌, Option, Some, None, Ordering, Result, Ok, Err, refl, sym, ap, subst, ◌∙◌, ⊎_elim}
use Rattle.std.proofs.lemmas.Bool.{and_from, and_parts, eq-eqb, eqb-true, or_parts}
use Rattle.std.proofs.lemmas.Map.{keys-set_value, lookup-none}
use Rattle.std.proofs.lemmas.Map.Entries.{none_past_head}
use Rattle.std.proofs.lemmas.Map.Keys.{IsDistinct-from_sorted, sorted_tail}
use Rattle.std.specs.BTreeMap.{insert_entry, is_at}
use Rattle.std.specs.Cmp.{eq_by_cmp_equiv, nat_cmp_total}
use Rattle.std.specs.List.{flat_map, list_all}
use Rattle.std.specs.List.Sorted.{IsStrictlySortedBy}
use Rattle.std.specs.Map.{keys_of, lookup, set_value, remove_entry}
use Rattle.std.specs.Option.{is_none, is_some, option_map, option_map_or}
use Rattle.std.specs.Ordering.{is_eq, match_ordering, nat_cmp}
use Rattle.std.specs.declared.cmp.Ordering.TheVariants.{Less, Equal, Greater}
use Rattle.version_groups.specs.kinds.declared.refusal.Refusal.{Refusal}
use Rattle.version_groups.specs.declared.copies.CopyChange.{CopyChange}
use Rattle.version_groups.specs.declared.copies.CopyRow.{CopyRow}
use Rattle.version_groups.specs.declared.versions.Version.{Version}
use Rattle.version_groups.specs.Copies.{copies_after}
use Rattle.version_groups.specs.Entries.{on_ok, if_found}
use Rattle.version_groups.specs.Versions.{are_distinct, copies_of, has_object, version_of}
use Rattle.version_groups.proofs.Lists.{are_of_others, of_others, version_of-object}
use Rattle.version_groups.proofs.Maps.{remove-new}
use Rattle.object_rows.specs.declared.held_object.HeldRow.{HeldRow}
use Rattle.object_rows.specs.Filespaces.{at_number}
use Rattle.object_rows.specs.HeldRows.{AreHeld, are_held_rows, copies_at, has_row, held_altered, held_altered_at, held_at, held_copied, held_versions, held_without, is_held_row, row_altered, row_copied}
use Rattle.object_rows.proofs.ByNumber.{mapped-set_value}
use Rattle.object_rows.proofs.Stands.{at_itself, at-eqb}

-- ---- what passes for all entries

-- passes for those that are left
all_left : {K X : Type 0} (p : K × X → Bool) (test : K → Bool) (es : List (K × X)) → list_all p es ≡ true → list_all p (remove_entry test es) ≡ true
all_left p test [] h = refl
all_left p test (e ∷ es) h =
    let hs : (p e ≡ true) × (list_all p es ≡ true) = and_parts (p e) (list_all p es) h in
    elim (test e.0) as (λ b. list_all p (cond b es (e ∷ remove_entry test es)) ≡ true) [
      | true ↦ hs.1
      | false ↦ and_from (p e) (list_all p (remove_entry test es)) hs.0 (all_left p test es hs.1)
    ]

-- and for one more that is put in at a key that no entry has
all_with : {K X : Type 0} (p : K × X → Bool) (R : K → K → Ordering) (es : List (K × X)) (k : K) (v : X) → lookup (is_at (R k)) es ≡ None → p (k, v) ≡ true → list_all p es ≡ true → list_all p (insert_entry R es k v) ≡ true
all_with p R [] k v absent here h = and_from (p (k, v)) true here refl
all_with p R (e ∷ es) k v absent here h =
    let hs : (p e ≡ true) × (list_all p es ≡ true) = and_parts (p e) (list_all p es) h in
    elim (R k e.0) as (λ r. cond (is_eq r) (Some e.1) (lookup (is_at (R k)) es) ≡ None → list_all p (match_ordering r ((k, v) ∷ e ∷ es) ((e.0, v) ∷ es) (e ∷ insert_entry R es k v)) ≡ true) [
      | Less ↦ λ _. and_from (p (k, v)) (list_all p (e ∷ es)) here h
      | Equal ↦ λ t. absurd (cc)
      | Greater ↦ λ t. and_from (p e) (list_all p (insert_entry R es k v)) hs.0 (all_with p R es k v t here hs.1)
    ] absent

-- and for a value that is set where one stood for which the test says the same
all_set : {K X : Type 0} (p : K × X → Bool) (test : K → Bool) (es : List (K × X)) (v w : X) → lookup test es ≡ Some v → ((k : K) → p (k, w) ≡ p (k, v)) → list_all p es ≡ true → list_all p (set_value test es w) ≡ true
all_set p test [] v w found same h = refl
all_set {K} {X} p test (e ∷ es) v w found same h =
    let hs : (p e ≡ true) × (list_all p es ≡ true) = and_parts (p e) (list_all p es) h in
    elim (test e.0) as (λ b. cond b (Some e.1) (lookup test es) ≡ Some v → list_all p (cond b ((e.0, w) ∷ es) (e ∷ set_value test es w)) ≡ true) [
      | true ↦ λ t.
          let it : e.1 ≡ v = cc in
          and_from (p (e.0, w)) (list_all p es) (same e.0 ∙ ap (λ (x : X). p (e.0, x)) (sym it) ∙ hs.0) hs.1
      | false ↦ λ t. and_from (p e) (list_all p (set_value test es w)) hs.0 (all_set p test es v w t same hs.1)
    ] found

-- ---- a search by object is a search by number

held_here : (e : ℕ × HeldRow) → is_held_row e ≡ true → e.1.held.version.object ≡ e.0
held_here e h = eqb-true e.1.held.version.object e.0 (and_parts (eqb e.1.held.version.object e.0) (is_none e.1.held.version.since) h).0

same_test : (k : ℕ) (e : ℕ × HeldRow) → is_held_row e ≡ true → eqb e.1.held.version.object k ≡ at_number k e.0
same_test k e h = ap (λ n. eqb n k) (held_here e h) ∙ sym (at-eqb k e.0)

pub version-held : (k : ℕ) (held : List (ℕ × HeldRow)) → are_held_rows held ≡ true → version_of k (held_versions held) ≡ option_map (λ (r : HeldRow). r.held.version) (held_at k held)
version-held k [] h = refl
version-held k (e ∷ es) h =
    let hs : (is_held_row e ≡ true) × (are_held_rows es ≡ true) = and_parts (is_held_row e) (are_held_rows es) h in
    ap (λ b. cond b (Some e.1.held.version) (version_of k (held_versions es))) (same_test k e hs.0)
    ∙ elim (at_number k e.0) as (λ b. cond b (Some e.1.held.version) (version_of k (held_versions es)) ≡ option_map (λ (r : HeldRow). r.held.version) (cond b (Some e.1) (held_at k es))) [
      | true ↦ refl
      | false ↦ version-held k es hs.1
    ]

pub has-held : (k : ℕ) (held : List (ℕ × HeldRow)) → are_held_rows held ≡ true → has_object k (held_versions held) ≡ has_row k held
has-held k [] h = refl
has-held k (e ∷ es) h =
    let hs : (is_held_row e ≡ true) × (are_held_rows es ≡ true) = and_parts (is_held_row e) (are_held_rows es) h in
    ap (λ b. b || has_object k (held_versions es)) (same_test k e hs.0)
    ∙ elim (at_number k e.0) as (λ b. (b || has_object k (held_versions es)) ≡ is_some (cond b (Some e.1) (held_at k es))) [
      | true ↦ refl
      | false ↦ has-held k es hs.1
    ]

-- a row that is found is its object's
pub held-object : (k : ℕ) (held : List (ℕ × HeldRow)) (r : HeldRow) → are_held_rows held ≡ true → held_at k held ≡ Some r → r.held.version.object ≡ k
held-object k held r h there = version_of-object k (held_versions held) r.held.version (version-held k held h ∙ ap (option_map (λ (x : HeldRow). x.held.version)) there)

pub copies-held : (k : ℕ) (held : List (ℕ × HeldRow)) → are_held_rows held ≡ true → copies_at k held ≡ copies_of k (held_versions held)
copies-held k held h =
    elim (held_at k held) as (λ o. option_map_or (λ (r : HeldRow). r.held.version.copies) o [] ≡ option_map_or (λ (v : Version). v.copies) (option_map (λ (r : HeldRow). r.held.version) o) []) [
      | None ↦ refl
      | Some r ↦ refl
    ]
    ∙ sym (ap (λ (o : Option Version). option_map_or (λ (v : Version). v.copies) o []) (version-held k held h))

-- no two of the rows' versions are of one object
pub distinct-held : (held : List (ℕ × HeldRow)) → are_held_rows held ≡ true → IsStrictlySortedBy nat_cmp (keys_of held) → are_distinct (held_versions held) ≡ true
distinct-held [] h s = refl
distinct-held (e ∷ es) h s =
    let hs : (is_held_row e ≡ true) × (are_held_rows es ≡ true) = and_parts (is_held_row e) (are_held_rows es) h in
    let none : held_at e.0 es ≡ None = lookup-none (at_number e.0) es (none_past_head (eq_by_cmp_equiv nat_cmp_total) e.0 e es (IsDistinct-from_sorted nat_cmp (keys_of (e ∷ es)) s) (at_itself e.0)) in
    and_from (are_of_others e.1.held.version.object (held_versions es)) (are_distinct (held_versions es))
    (of_others e.1.held.version.object (held_versions es) (ap (λ n. has_object n (held_versions es)) (held_here e hs.0) ∙ has-held e.0 es hs.1 ∙ ap is_some none))
    (distinct-held es hs.1 (sorted_tail nat_cmp e.0 (keys_of es) s))

-- ---- copies

row_stays : (k : ℕ) (copies : List CopyRow) (r : HeldRow) → eqb r.held.version.object k ≡ false → row_copied k copies r ≡ r
row_stays k copies r n = ap (λ b. record r { held = record (r.held) { version = cond {A = Version} b (record (r.held.version) { copies = copies }) r.held.version } }) n

-- rows of other objects keep their copies
pub copied-others : (k : ℕ) (copies : List CopyRow) (held : List (ℕ × HeldRow)) → has_object k (held_versions held) ≡ false → held_copied k copies held ≡ held
copied-others k copies [] n = refl
copied-others k copies (e ∷ es) n =
    let ns : (eqb e.1.held.version.object k ≡ false) × (has_object k (held_versions es) ≡ false) = or_parts (eqb e.1.held.version.object k) (has_object k (held_versions es)) n in
    ap (λ (r : HeldRow). (e.0, r) ∷ held_copied k copies es) (row_stays k copies e.1 ns.0) ∙ ap (λ t. e ∷ t) (copied-others k copies es ns.1)

row_changes : (k : ℕ) (copies : List CopyRow) (r : HeldRow) → eqb r.held.version.object k ≡ true → row_copied k copies r ≡ record r { held = record (r.held) { version = record (r.held.version) { copies = copies } } }
row_changes k copies r y = ap (λ b. record r { held = record (r.held) { version = cond {A = Version} b (record (r.held.version) { copies = copies }) r.held.version } }) y

abbrev one : HeldRow → List Version
one r = r.held.version ∷ []

fixed_row : (k : ℕ) (copies : List CopyRow) (r : HeldRow) → has_object k (one r) ≡ false → row_copied k copies r ≡ r
fixed_row k copies r n = row_stays k copies r (or_parts (eqb r.held.version.object k) false n).0

pub ones : (held : List (ℕ × HeldRow)) → flat_map (λ (e : ℕ × HeldRow). one e.1) held ≡ held_versions held
ones [] = refl
ones (e ∷ es) = ap (λ t. e.1.held.version ∷ t) (ones es)

copied-set : (k : ℕ) (copies : List CopyRow) (held : List (ℕ × HeldRow)) (r : HeldRow) → AreHeld held → held_at k held ≡ Some r
    → set_value (at_number k) held (record r { held = record (r.held) { version = record (r.held.version) { copies = copies } } }) ≡ held_copied k copies held
copied-set k copies held r h there =
    let is : eqb r.held.version.object k ≡ true = eq-eqb r.held.version.object k (held-object k held r h.numbered there) in
    ap (set_value (at_number k) held) (sym (row_changes k copies r is))
    ∙ sym (mapped-set_value one (row_copied k copies) k (fixed_row k copies) (at_number k) held r there (ap (λ b. b || false) is)
    (ap are_distinct (ones held) ∙ distinct-held held h.numbered h.sorted))

-- a change at the number is the change of the object
pub altered-held : (k : ℕ) (change : CopyChange) (held : List (ℕ × HeldRow)) → AreHeld held → held_altered_at k change held ≡ held_altered k change held
altered-held k change held h =
    elim (held_at k held) as (λ o. held_at k held ≡ o → if_found o (λ r. on_ok (set_value (at_number k) held) (row_altered change r)) ≡ if_found (option_map (λ (r : HeldRow). r.held.version) o) (λ v. on_ok (λ copies. held_copied k copies held) (copies_after change v.copies))) [
      | None ↦ λ _. refl
      | Some r ↦ λ there.
          elim (copies_after change r.held.version.copies) as (λ said. on_ok (set_value (at_number k) held) (on_ok (λ copies. record r { held = record (r.held) { version = record (r.held.version) { copies = copies } } }) said) ≡ on_ok (λ copies. held_copied k copies held) said) [
            | Ok copies ↦ ap Ok (copied-set k copies held r h there)
            | Err e ↦ refl
          ]
    ] refl
    ∙ sym (ap (λ o. if_found o (λ (v : Version). on_ok (λ copies. held_copied k copies held) (copies_after change v.copies))) (version-held k held h.numbered))

-- ---- each row stands where it belongs

pub none_of : {V : Type 0} (o : Option V) → is_some o ≡ false → o ≡ None
none_of None h = refl
none_of (Some v) h = absurd (cc)

held_put : (held new : List (ℕ × HeldRow)) (r : HeldRow) → AreHeld held → has_row r.held.version.object held ≡ false → r.held.version.since ≡ None
    → new ≡ insert_entry nat_cmp held r.held.version.object r → IsStrictlySortedBy nat_cmp (keys_of new) → AreHeld new
held_put held new r h absent active is sorted =
    let k : ℕ = r.held.version.object in
    record {
      numbered = ap are_held_rows is
          ∙ all_with is_held_row nat_cmp held k r (none_of (held_at k held) absent) (and_from (eqb k k) (is_none r.held.version.since) (eq-eqb k k refl) (ap is_none active)) h.numbered;
      sorted = sorted;
    }

pub held_became : (r : HeldRow) (held new : List (ℕ × HeldRow)) → AreHeld held → has_row r.held.version.object held ≡ false → r.held.version.since ≡ None
    → (new ≡ held) ⊎ (insert_entry nat_cmp held r.held.version.object r ≡ new) → IsStrictlySortedBy nat_cmp (keys_of new) → AreHeld new
held_became r held new h absent active how sorted =
    ⊎_elim (λ stays. subst AreHeld (sym stays) h) (λ is. held_put held new r h absent active (sym is) sorted) how

-- a row that was put in goes without a trace
pub held_back : (k : ℕ) (r : HeldRow) (held new : List (ℕ × HeldRow)) → has_row k held ≡ false → insert_entry nat_cmp held k r ≡ new → held_without k new ≡ held
held_back k r held new absent is = ap (held_without k) (sym is) ∙ remove-new nat_cmp_total k r held (none_of (held_at k held) absent)

pub held_taken : (k : ℕ) (held new : List (ℕ × HeldRow)) → AreHeld held → new ≡ remove_entry (at_number k) held → IsStrictlySortedBy nat_cmp (keys_of new) → AreHeld new
held_taken k held new h is sorted = record { numbered = ap are_held_rows is ∙ all_left is_held_row (at_number k) held h.numbered; sorted = sorted }

altered_row : (k : ℕ) (held new : List (ℕ × HeldRow)) (r : HeldRow) (said : Result (List CopyRow) Refusal) → held_at k held ≡ Some r → AreHeld held
    → on_ok (set_value (at_number k) held) (on_ok (λ copies. record r { held = record (r.held) { version = record (r.held.version) { copies = copies } } }) said) ≡ Ok new → AreHeld new
altered_row k held new r (Ok copies) there h t =
    let q : HeldRow = record r { held = record (r.held) { version = record (r.held.version) { copies = copies } } } in
    let made : set_value (at_number k) held q ≡ new = cc in
    subst AreHeld made
    (record {
      numbered = all_set is_held_row (at_number k) held r q there (λ n. refl) h.numbered;
      sorted = subst (IsStrictlySortedBy nat_cmp) (sym (keys-set_value (at_number k) held q)) h.sorted;
    })
altered_row k held new r (Err e) there h t = absurd (cc)

altered_rows : (k : ℕ) (change : CopyChange) (held new : List (ℕ × HeldRow)) → AreHeld held → held_altered_at k change held ≡ Ok new → AreHeld new
altered_rows k change held new h said =
    elim (held_at k held) as (λ o. held_at k held ≡ o → if_found o (λ r. on_ok (set_value (at_number k) held) (row_altered change r)) ≡ Ok new → AreHeld new) [
      | None ↦ λ _ t. absurd (cc)
      | Some r ↦ λ there t. altered_row k held new r (copies_after change r.held.version.copies) there h t
    ] refl said

pub held_altered_so : (k : ℕ) (change : CopyChange) (held new : List (ℕ × HeldRow)) → AreHeld held → (new ≡ held) ⊎ (held_altered_at k change held ≡ Ok new) → AreHeld new
held_altered_so k change held new h how = ⊎_elim (λ stays. subst AreHeld (sym stays) h) (altered_rows k change held new h) how

-- what was taken where a test passes
pub taken_over : {S : Type 0} (b : Bool) (x y : S) → Some x ≡ cond b (Some y) None → x ≡ y
taken_over true x y h = cc
taken_over false x y h = absurd (cc)
