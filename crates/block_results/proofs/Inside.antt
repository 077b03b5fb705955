-- An object that has a version in a filespace, or is held in it: it is kept there, the lists of its deletion show it, and the least one is such an object.
use Rattle.std.proofs.Common.{◌≡◌, ◌⊎◌, inl, inr, ℕ, ◌==◌, Bool, true, false, cond, eqb, if◌then◌else◌, ◌||◌, List, [], ◌∷◌, ◌++◌, map, Option, Some, None, refl, sym, ap, subst, ◌∙◌, arith}
use Rattle.std.proofs.lemmas.Bool.{and_parts, eq-eqb, eqb-true, false≢true, ltb-false, ltb-true, or_right}
use Rattle.std.proofs.lemmas.Option.{same_Some}
use Rattle.std.specs.Cmp.Lexicographic.{slice_cmp}
use Rattle.std.specs.List.{AllByRecursion, list_all, list_any}
use Rattle.std.specs.List.Sorted.{IsStrictlySortedBy}
use Rattle.std.specs.Map.{keys_of}
use Rattle.std.specs.Option.{option_map, option_or}
use Rattle.std.specs.Ordering.{is_eq, nat_cmp}
use Rattle.std.specs.Prelude.{min, nat_lt}
use Rattle.std.specs.declared.cmp.Ordering.TheVariants.{Less}
use Rattle.kinds.specs.Least.{lesser}
use Rattle.inventory_rows.specs.object_rows.declared.held_object.HeldRow.{HeldRow}
use Rattle.inventory_rows.specs.object_rows.declared.place.Place.{Place}
use Rattle.inventory_rows.specs.object_rows.Changes.{least, least_in, least_object, numbers_in}
use Rattle.inventory_rows.specs.object_rows.Filespaces.{at_number, filespace_at, groups_in, versions_at, versions_in, versions_of}
use Rattle.inventory_rows.specs.object_rows.HeldRows.{held_at, held_versions}
use Rattle.inventory_rows.specs.object_rows.Places.{place_of}
use Rattle.inventory_rows.specs.version_groups.declared.group.Group.{Group}
use Rattle.inventory_rows.specs.version_groups.declared.groups.Filespace.{Filespace}
use Rattle.inventory_rows.specs.version_groups.declared.versions.Version.{Version}
use Rattle.inventory_rows.specs.version_groups.Groups as grouped
use Rattle.inventory_rows.specs.version_groups.Groups.{AreByPath, at_path}
use Rattle.inventory_rows.specs.version_groups.Versions.{are_distinct, has_object}
use Rattle.inventory_rows.specs.Search.{filespace_of, rule_in}
use Rattle.inventory_rows.specs.State.{Inv}
use Rattle.inventory_rows.proofs.of_object_rows.Stands.{at-eqb, at_itself, path_itself, same_path}
use Rattle.inventory_rules.specs.Halfway.{VersionFacts}
use Rattle.inventory_laws.proofs.Arriving.{has-append}
use Rattle.inventory_laws.proofs.Facts.{facts_of}
use Rattle.inventory_laws.proofs.HeldNumbers.{held_object}
use Rattle.inventory_laws.proofs.Kept.{is_held_there}
use Rattle.inventory_laws.proofs.Others.{place_of_path}
use Rattle.inventory_laws.proofs.VersionsWhole.{begins}
use Rattle.inventory_answers.specs.Clients.{group_versions, version_lines}
use Rattle.inventory_answers.specs.Held.{held_line, held_lines}
use Rattle.inventory_answers.specs.declared.lines.VersionLine.{VersionLine}
use Rattle.inventory_work.specs.Lists.{only}
use Rattle.line_results.specs.Sound.{HasSoundRows}
use Rattle.line_results.proofs.Listed.{IsHeldLine, IsLine, any-left, any-right, lines-have}
use Rattle.line_results.proofs.Unused.{back-distinct, row-kept, skips}
use Rattle.block_results.specs.Filled.{IsLeastIn, is_held_in, is_version_in}

-- ---- the least one

min-one : (n m : ℕ) → (min n m ≡ n) ⊎ (min n m ≡ m)
min-one n m = elim (nat_lt m n) as (λ b. nat_lt m n ≡ b → (min n m ≡ n) ⊎ (min n m ≡ m)) [
  | true ↦ λ h. inr (let less = ltb-true m n h in omega (arith, less))
  | false ↦ λ h. inl (let least = ltb-false m n h in omega (arith, least))
] refl

lesser-one : (a b : Option ℕ) (k : ℕ) → lesser a b ≡ Some k → (a ≡ Some k) ⊎ (b ≡ Some k)
lesser-one None b k h = inr h
lesser-one (Some n) None k h = inl h
lesser-one (Some n) (Some m) k h = elim (min-one n m) as (λ _. (Some n ≡ Some k) ⊎ (Some m ≡ Some k)) [
  | inl is ↦ inl (ap (λ (x : ℕ). Some x) (sym is) ∙ h)
  | inr is ↦ inr (ap (λ (x : ℕ). Some x) (sym is) ∙ h)
]

least-among : (k : ℕ) (ns : List ℕ) → least ns ≡ Some k → list_any (λ n. n == k) ns ≡ true
least-among k [] h = absurd (let odd : None ≡ Some k = h in cc)
least-among k (n ∷ ns) h = elim (lesser-one (Some n) (least ns) k h) as (λ _. (eqb n k || list_any (λ x. x == k) ns) ≡ true) [
  | inl is ↦ ap (λ (b : Bool). b || list_any (λ x. x == k) ns) (eq-eqb n k (same_Some n k is))
  | inr is ↦ or_right (eqb n k) (list_any (λ x. x == k) ns) (least-among k ns is)
]

numbers-same : (k : ℕ) (vs : List Version) → list_any (λ n. n == k) (map (λ (w : Version). w.object) vs) ≡ has_object k vs
numbers-same k [] = refl
numbers-same k (w ∷ vs) = ap (λ (b : Bool). eqb w.object k || b) (numbers-same k vs)

-- it has a version in it, or is held in it
pub least-inside : (filespace k : ℕ) (v : Inv) → IsLeastIn filespace k v → (is_version_in filespace k v ≡ true) ⊎ (is_held_in filespace k v ≡ true)
least-inside filespace k v (x, at, is) = elim (lesser-one (least_object x.groups) (least_in filespace v.clients.held) k is) as (λ _. (is_version_in filespace k v ≡ true) ⊎ (is_held_in filespace k v ≡ true)) [
  | inl one ↦ inl (ap (λ (o : Option Filespace). has_object k (versions_in (groups_in o))) at ∙ sym (numbers-same k (versions_in x.groups)) ∙ least-among k (map (λ (w : Version). w.object) (versions_in x.groups)) one)
  | inr one ↦ inr (least-among k (numbers_in filespace v.clients.held) one)
]

-- ---- versions

-- a path that stands before others isn't one of them
apart-path : (k : ℕ) (first path : List ℕ) (gs : List (List ℕ × Group)) → AllByRecursion (λ q. slice_cmp nat_cmp first q ≡ Less) (keys_of gs) → has_object k (grouped.versions_at path gs) ≡ true → at_path path first ≡ false
apart-path k first path [] less h = absurd (false≢true h)
apart-path k first path (g ∷ gs) less h = elim (at_path path g.0) as (λ b. at_path path g.0 ≡ b → has_object k (grouped.versions_in (cond b (Some g.1) (grouped.group_at path gs))) ≡ true → at_path path first ≡ false) [
  | true ↦ λ here t. other (at_path path first) refl (subst (λ (q : List ℕ). slice_cmp nat_cmp first q ≡ Less) (sym (same_path path g.0 here)) less.0)
  | false ↦ λ there t. apart-path k first path gs less.1 t
] refl h where
  other : (b : Bool) → at_path path first ≡ b → slice_cmp nat_cmp first path ≡ Less → b ≡ false
  other false is below = refl
  other true is below =
      let below_itself : slice_cmp nat_cmp path path ≡ Less = subst (λ (q : List ℕ). slice_cmp nat_cmp q path ≡ Less) (sym (same_path path first is)) below in
      absurd (false≢true (ap is_eq (sym below_itself) ∙ path_itself path))

-- a version of a filespace is one of a path
under-path : (k : ℕ) (gs : List (List ℕ × Group)) → AreByPath gs → has_object k (versions_in gs) ≡ true → (path : List ℕ) × (has_object k (grouped.versions_at path gs) ≡ true)
unfolding IsStrictlySortedBy
under-path k [] s h = absurd (false≢true h)
under-path k (g ∷ gs) s h = go (λ t. under-path k gs s.1 t) (has_object k g.1.versions) refl where
  go : (has_object k (versions_in gs) ≡ true → (path : List ℕ) × (has_object k (grouped.versions_at path gs) ≡ true)) → (b : Bool) → has_object k g.1.versions ≡ b
      → (path : List ℕ) × (has_object k (grouped.versions_at path (g ∷ gs)) ≡ true)
  go again true here = (g.0, ap (λ (b : Bool). has_object k (grouped.versions_in (cond b (Some g.1) (grouped.group_at g.0 gs)))) (path_itself g.0) ∙ here)
  go again false none =
      let rest = again (ap (λ (b : Bool). b || has_object k (versions_in gs)) (sym none) ∙ sym (has-append k g.1.versions (versions_in gs)) ∙ h) in
      (rest.0, ap (λ (b : Bool). has_object k (grouped.versions_in (cond b (Some g.1) (grouped.group_at rest.0 gs)))) (apart-path k g.0 rest.0 gs s.0 rest.1) ∙ rest.1)

paths-at : (n : ℕ) (fs : List (ℕ × Filespace)) (x : Filespace) → AllByRecursion (λ f. AreByPath f.1.groups) fs → filespace_at n fs ≡ Some x → AreByPath x.groups
paths-at n [] x all at = absurd (let odd : None ≡ Some x = at in cc)
paths-at n (f ∷ fs) x all at = elim (at_number n f.0) as (λ b. cond b (Some f.1) (filespace_at n fs) ≡ Some x → AreByPath x.groups) [
  | true ↦ λ is. subst (λ (y : Filespace). AreByPath y.groups) (same_Some f.1 x is) all.0
  | false ↦ λ is. paths-at n fs x all.1 is
] at

-- ---- what is held

held-row : (filespace k n : ℕ) (v : Inv) (f : VersionFacts n v) (held : List (ℕ × HeldRow)) → list_all (is_held_there v.clients.filespaces) held ≡ true → are_distinct (held_versions held) ≡ true → list_any (λ m. m == k) (numbers_in filespace held) ≡ true
    → (row : HeldRow) × (held_at k held ≡ Some row) × (row.filespace ≡ filespace)
held-row filespace k n v f [] all apart h = absurd (false≢true h)
held-row filespace k n v f (e ∷ held) all apart h =
    let again : list_any (λ m. m == k) (numbers_in filespace held) ≡ true → (row : HeldRow) × (held_at k held ≡ Some row) × (row.filespace ≡ filespace) = (λ t. held-row filespace k n v f held (and_parts (is_held_there v.clients.filespaces e) (list_all (is_held_there v.clients.filespaces) held) all).1 (back-distinct n v f (e.1.held.version ∷ []) (held_versions held) apart) t) in
    elim (eqb e.1.filespace filespace) as (λ b. eqb e.1.filespace filespace ≡ b → list_any (λ m. m == k) (if b then e.0 ∷ numbers_in filespace held else numbers_in filespace held) ≡ true
    → (row : HeldRow) × (held_at k (e ∷ held) ≡ Some row) × (row.filespace ≡ filespace)) [
      | true ↦ λ mine t. first again (eqb-true e.1.filespace filespace mine) (eqb e.0 k) refl t
      | false ↦ λ other t. later again t
    ] refl h
  where
    later : (list_any (λ m. m == k) (numbers_in filespace held) ≡ true → (row : HeldRow) × (held_at k held ≡ Some row) × (row.filespace ≡ filespace)) → list_any (λ m. m == k) (numbers_in filespace held) ≡ true → (row : HeldRow) × (held_at k (e ∷ held) ≡ Some row) × (row.filespace ≡ filespace)
    later again t =
        let r = again t in
        (r.0, ap (λ (b : Bool). cond b (Some e.1) (held_at k held)) (skips n v f e held k r.0 all apart r.1) ∙ r.1, r.2)

    first : (list_any (λ m. m == k) (numbers_in filespace held) ≡ true → (row : HeldRow) × (held_at k held ≡ Some row) × (row.filespace ≡ filespace)) → e.1.filespace ≡ filespace → (b : Bool) → eqb e.0 k ≡ b → (b || list_any (λ m. m == k) (numbers_in filespace held)) ≡ true → (row : HeldRow) × (held_at k (e ∷ held) ≡ Some row) × (row.filespace ≡ filespace)
    first again mine true here t = (e.1, ap (λ (b : Bool). cond b (Some e.1) (held_at k held)) (at-eqb k e.0 ∙ here), mine)
    first again mine false other t = later again t

held-shown : (filespace k today : ℕ) (v : Inv) (held : List (ℕ × HeldRow)) → list_all (is_held_there v.clients.filespaces) held ≡ true → list_any (λ m. m == k) (numbers_in filespace held) ≡ true → list_any (IsHeldLine k) (held_lines today filespace held) ≡ true
held-shown filespace k today v [] all h = absurd (false≢true h)
held-shown filespace k today v (e ∷ held) all h =
    let later : list_any (λ m. m == k) (numbers_in filespace held) ≡ true → list_any (IsHeldLine k) (held_lines today filespace held) ≡ true = (λ t. held-shown filespace k today v held (and_parts (is_held_there v.clients.filespaces e) (list_all (is_held_there v.clients.filespaces) held) all).1 t) in
    elim (eqb e.1.filespace filespace) as (λ b. list_any (λ m. m == k) (if b then e.0 ∷ numbers_in filespace held else numbers_in filespace held) ≡ true
    → list_any (IsHeldLine k) (only b (held_line today e.1) ++ held_lines today filespace held) ≡ true) [
      | true ↦ λ t. first later (eqb e.0 k) refl t
      | false ↦ λ t. later t
    ] h
  where
    number : e.1.held.version.object ≡ e.0
    number = held_object e.0 v.clients.filespaces (e ∷ held) e.1 all (ap (λ (b : Bool). cond b (Some e.1) (held_at e.0 held)) (at_itself e.0))

    first : (list_any (λ m. m == k) (numbers_in filespace held) ≡ true → list_any (IsHeldLine k) (held_lines today filespace held) ≡ true) → (b : Bool) → eqb e.0 k ≡ b → (b || list_any (λ m. m == k) (numbers_in filespace held)) ≡ true → (eqb e.1.held.version.object k || list_any (IsHeldLine k) (held_lines today filespace held)) ≡ true
    first later true here t = ap (λ (b : Bool). b || list_any (IsHeldLine k) (held_lines today filespace held)) (ap (λ (m : ℕ). eqb m k) number ∙ here)
    first later false other t = or_right (eqb e.1.held.version.object k) (list_any (IsHeldLine k) (held_lines today filespace held)) (later t)

pub versions-shown : (filespace k : ℕ) (v : Inv) (gs : List (List ℕ × Group)) → has_object k (versions_in gs) ≡ true → list_any (IsLine k) (version_lines filespace v gs) ≡ true
versions-shown filespace k v [] h = absurd (false≢true h)
versions-shown filespace k v (g ∷ gs) h = go (λ t. versions-shown filespace k v gs t) (has_object k g.1.versions) refl where
  here : List VersionLine
  here = group_versions (rule_in filespace g.1.class v) v.today g.0 g.1

  go : (has_object k (versions_in gs) ≡ true → list_any (IsLine k) (version_lines filespace v gs) ≡ true) → (b : Bool) → has_object k g.1.versions ≡ b → list_any (IsLine k) (here ++ version_lines filespace v gs) ≡ true
  go again true t = any-left (IsLine k) here (version_lines filespace v gs) (lines-have k v.today g.0 g.1 (rule_in filespace g.1.class v) 0 g.1.versions t)
  go again false none =
      any-right (IsLine k) here (version_lines filespace v gs)
      (again (ap (λ (b : Bool). b || has_object k (versions_in gs)) (sym none) ∙ sym (has-append k g.1.versions (versions_in gs)) ∙ h))

-- ---- in sound rows

module _ (filespace k : ℕ) (v : Inv) (sound : HasSoundRows v) where
  facts : VersionFacts v.number v
  facts = begins v (facts_of v sound.valid)

  -- it is kept there
  pub version-kept : is_version_in filespace k v ≡ true → filespace_of k v ≡ Some filespace
  version-kept h = go (filespace_at filespace v.clients.filespaces) refl h where
    go : (o : Option Filespace) → filespace_at filespace v.clients.filespaces ≡ o → has_object k (versions_in (groups_in o)) ≡ true → filespace_of k v ≡ Some filespace
    go None at has = absurd (false≢true has)
    go (Some x) at has =
        let p = under-path k x.groups (paths-at filespace v.clients.filespaces x sound.rows.by_path at) has in
        let there : has_object k (versions_at filespace p.0 v.clients.filespaces) ≡ true = ap (λ (o : Option Filespace). has_object k (grouped.versions_at p.0 (groups_in o))) at ∙ p.1 in
        let place : place_of k v.clients.filespaces ≡ Some (record { filespace = filespace; path = p.0 }) = place_of_path filespace k p.0 v facts.objects_apart there in
        ap (λ (p : Option Place). option_or (option_map (λ (place : Place). place.filespace) p) (option_map (λ (row : HeldRow). row.filespace) (held_at k v.clients.held))) place

  pub held-kept : is_held_in filespace k v ≡ true → filespace_of k v ≡ Some filespace
  held-kept h =
      let r = held-row filespace k v.number v facts v.clients.held facts.held (back-distinct v.number v facts (versions_of v.clients.filespaces) (held_versions v.clients.held) facts.objects_apart) h in
      row-kept v.number v facts filespace k r.0 r.1 r.2

  -- and the lists show it
  pub held-listed : is_held_in filespace k v ≡ true → list_any (IsHeldLine k) (held_lines v.today filespace v.clients.held) ≡ true
  held-listed h = held-shown filespace k v.today v v.clients.held facts.held h
