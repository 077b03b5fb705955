-- A copy that came can be undone.
use Rattle.std.proofs.Common.{◌≡◌, ◌⊎◌, inl, inr, ℕ, true, false, cond, eqb, not, ◌||◌, List, [], ◌∷◌, ◌++◌, Option, Some, None, Result, Ok, Err, refl, sym, ap, ◌∙◌}
use Rattle.std.specs.List.{AllByRecursion}
use Rattle.std.specs.Option.{is_some, option_map_or}
use Rattle.std.specs.Prelude.{nat_lt, ◌==◌}
use Rattle.std.proofs.lemmas.Bool.{false≢true, and_parts, or_parts, eq-eqb, eqb-true, not-true}
use Rattle.kinds.specs.declared.refusal.Refusal.{Refusal}
use Rattle.kinds.specs.declared.refusal.Refusal.TheVariants.{Memory, NotFound}
use Rattle.inventory_rows.specs.version_groups.declared.copies.CopyChange.TheVariants as copy
use Rattle.inventory_rows.specs.version_groups.declared.copies.CopyChange as copies
use Rattle.inventory_rows.specs.version_groups.declared.copies.CopyRow.{CopyRow}
use Rattle.inventory_rows.specs.version_groups.declared.group.Group.{Group}
use Rattle.inventory_rows.specs.version_groups.declared.groups.Filespace.{Filespace}
use Rattle.inventory_rows.specs.version_groups.declared.versions.Version.{Version}
use Rattle.inventory_rows.specs.version_groups.Copies.{has_copy, with_copy, without_copy, copies_after}
use Rattle.inventory_rows.specs.version_groups.Entries.{on_ok, if_found}
use Rattle.inventory_rows.specs.version_groups.Versions.{has_object, are_distinct, having_copies, version_of, with_copies}
use Rattle.inventory_rows.proofs.of_version_groups.Lists.{are_of_others}
use Rattle.inventory_rows.specs.object_rows.declared.held_object.HeldRow.{HeldRow}
use Rattle.inventory_rows.specs.object_rows.Filespaces.{filespaces_copied, filespace_copied, groups_copied, group_copied, versions_in, versions_of}
use Rattle.inventory_rows.specs.object_rows.HeldRows.{held_copied, held_versions, row_copied}
use Rattle.inventory_rows.specs.object_rows.Rows.{Rows, FreePool, kept_of, rows_altered, rows_copied}
use Rattle.inventory_rows.proofs.of_object_rows.VersionLists.{none_of_others}
use Rattle.inventory_rows.specs.State.{Inv}
use Rattle.inventory_rules.proofs.CopiedLists.{kept_of-copied}
use Rattle.inventory_rules.specs.Common.{or_same}
use Rattle.inventory_rules.specs.Copies.{change_copy}
use Rattle.inventory_effects.specs.Undoing.{KeepsWay}
use Rattle.inventory_effects.specs.declared.undo.Undo.{Undo}
use Rattle.inventory_effects.specs.declared.undo.Undo.TheVariants as undo
use Rattle.inventory_effects.proofs.Ways.{keeps_step, same_Ok}

-- ---- the copies of one version

without_others : (pool : ℕ) (cs : List CopyRow) → has_copy pool cs ≡ false → without_copy pool cs ≡ cs
without_others pool [] h = refl
without_others pool (c ∷ cs) h =
    let hs : ((c.pool == pool) ≡ false) × (has_copy pool cs ≡ false) = or_parts (c.pool == pool) (has_copy pool cs) h in
    ap (λ b. cond (not b) (c ∷ without_copy pool cs) (without_copy pool cs)) hs.0 ∙ ap (λ l. c ∷ l) (without_others pool cs hs.1)

same_pool : (n : ℕ) → (n == n) ≡ true
same_pool n = eq-eqb n n refl

-- a copy that came to its place, and goes again
without-with : (row : CopyRow) (cs : List CopyRow) → has_copy row.pool cs ≡ false → without_copy row.pool (with_copy row cs) ≡ cs
without-with row [] h = ap (λ b. cond (not b) (row ∷ []) []) (same_pool row.pool)
without-with row (c ∷ cs) h =
    let hs : ((c.pool == row.pool) ≡ false) × (has_copy row.pool cs ≡ false) = or_parts (c.pool == row.pool) (has_copy row.pool cs) h in
    elim (nat_lt row.pool c.pool) as (λ b. without_copy row.pool (cond b (row ∷ c ∷ cs) (c ∷ with_copy row cs)) ≡ c ∷ cs) [
      | true ↦ ap (λ b. cond (not b) (row ∷ without_copy row.pool (c ∷ cs)) (without_copy row.pool (c ∷ cs))) (same_pool row.pool) ∙ without_others row.pool (c ∷ cs) h
      | false ↦ ap (λ b. cond (not b) (c ∷ without_copy row.pool (with_copy row cs)) (without_copy row.pool (with_copy row cs))) hs.0 ∙ ap (λ l. c ∷ l) (without-with row cs hs.1)
    ]

has-with : (row : CopyRow) (cs : List CopyRow) → has_copy row.pool (with_copy row cs) ≡ true
has-with row [] = ap (λ b. b || false) (same_pool row.pool)
has-with row (c ∷ cs) =
    elim (nat_lt row.pool c.pool) as (λ b. has_copy row.pool (cond b (row ∷ c ∷ cs) (c ∷ with_copy row cs)) ≡ true) [
      | true ↦ ap (λ b. b || has_copy row.pool (c ∷ cs)) (same_pool row.pool)
      | false ↦ elim (c.pool == row.pool) as (λ b. (b || has_copy row.pool (with_copy row cs)) ≡ true) [ true ↦ refl | false ↦ has-with row cs ]
    ]

dropped-added : (row : CopyRow) (cs : List CopyRow) → has_copy row.pool cs ≡ false → copies_after (copy.Drop row.pool) (with_copy row cs) ≡ Ok cs
dropped-added row cs free =
    ap (λ b. cond {A = Result (List CopyRow) Refusal} b (Ok (without_copy row.pool (with_copy row cs))) (Err NotFound)) (has-with row cs) ∙ ap Ok (without-with row cs free)

-- ---- the object's version has the copies that it has

abbrev Stays : ℕ → List CopyRow → List Version → Type 0
Stays k cs vs = AllByRecursion (λ (v : Version). having_copies k cs v ≡ v) vs

others_stay : (k : ℕ) (cs : List CopyRow) (vs : List Version) → has_object k vs ≡ false → Stays k cs vs
others_stay k cs [] h = tt
others_stay k cs (v ∷ vs) h =
    let hs : (eqb v.object k ≡ false) × (has_object k vs ≡ false) = or_parts (eqb v.object k) (has_object k vs) h in
    (ap (λ b. cond {A = Version} b (record v { copies = cs }) v) hs.0, others_stay k cs vs hs.1)

found_stays : (k : ℕ) (w : Version) (vs : List Version) → version_of k vs ≡ Some w → are_distinct vs ≡ true → Stays k w.copies vs
found_stays k w [] h d = absurd (cc)
found_stays k w (v ∷ vs) h d =
    let ds : (are_of_others v.object vs ≡ true) × (are_distinct vs ≡ true) = and_parts (are_of_others v.object vs) (are_distinct vs) d in
    elim (eqb v.object k) as (λ b. eqb v.object k ≡ b → cond b (Some v) (version_of k vs) ≡ Some w → (having_copies k w.copies v ≡ v) × Stays k w.copies vs) [
      | true ↦ λ t g.
          let same : v ≡ w = cc in (
            ap (λ b. cond {A = Version} b (record v { copies = w.copies }) v) t ∙ ap (λ (x : Version). record v { copies = x.copies }) (sym same),
            others_stay k w.copies vs (ap (λ n. has_object n vs) (sym (eqb-true v.object k t)) ∙ none_of_others v.object vs ds.0),
          )
      | false ↦ λ t g. (ap (λ b. cond {A = Version} b (record v { copies = w.copies }) v) t, found_stays k w vs g ds.1)
    ] refl h

split_all : {X : Type 0} (P : X → Type 0) (xs ys : List X) → AllByRecursion P (xs ++ ys) → AllByRecursion P xs × AllByRecursion P ys
split_all P [] ys a = (tt, a)
split_all P (x ∷ xs) ys a = let r = split_all P xs ys a.1 in ((a.0, r.0), r.1)

versions_stay : (k : ℕ) (cs : List CopyRow) (vs : List Version) → Stays k cs vs → with_copies k cs vs ≡ vs
versions_stay k cs [] a = refl
versions_stay k cs (v ∷ vs) a = ap (λ (x : Version). x ∷ with_copies k cs vs) a.0 ∙ ap (λ l. v ∷ l) (versions_stay k cs vs a.1)

groups_stay : (k : ℕ) (cs : List CopyRow) (gs : List (List ℕ × Group)) → Stays k cs (versions_in gs) → groups_copied k cs gs ≡ gs
groups_stay k cs [] a = refl
groups_stay k cs (g ∷ gs) a =
    let p = split_all (λ (v : Version). having_copies k cs v ≡ v) g.1.versions (versions_in gs) a in
    ap (λ (vs : List Version). (g.0, record g.1 { versions = vs }) ∷ groups_copied k cs gs) (versions_stay k cs g.1.versions p.0) ∙ ap (λ l. g ∷ l) (groups_stay k cs gs p.1)

spaces_stay : (k : ℕ) (cs : List CopyRow) (fs : List (ℕ × Filespace)) → Stays k cs (versions_of fs) → filespaces_copied k cs fs ≡ fs
spaces_stay k cs [] a = refl
spaces_stay k cs (f ∷ fs) a =
    let p = split_all (λ (v : Version). having_copies k cs v ≡ v) (versions_in f.1.groups) (versions_of fs) a in
    ap (λ (gs : List (List ℕ × Group)). (f.0, record f.1 { groups = gs }) ∷ filespaces_copied k cs fs) (groups_stay k cs f.1.groups p.0) ∙ ap (λ l. f ∷ l) (spaces_stay k cs fs p.1)

held_stay : (k : ℕ) (cs : List CopyRow) (held : List (ℕ × HeldRow)) → Stays k cs (held_versions held) → held_copied k cs held ≡ held
held_stay k cs [] a = refl
held_stay k cs (h ∷ held) a =
    ap (λ (x : Version). (h.0, record h.1 { held = record (h.1.held) { version = x } }) ∷ held_copied k cs held) a.0 ∙ ap (λ l. h ∷ l) (held_stay k cs held a.1)

rows_stay : (k : ℕ) (cs : List CopyRow) (rows : Rows) → Stays k cs (kept_of rows) → rows_copied k cs rows ≡ rows
rows_stay k cs rows a =
    let p = split_all (λ (v : Version). having_copies k cs v ≡ v) (versions_of rows.filespaces) (held_versions rows.held) a in
    ap (λ (fs : List (ℕ × Filespace)). record rows { filespaces = fs; held = held_copied k cs rows.held }) (spaces_stay k cs rows.filespaces p.0)
    ∙ ap (λ (held : List (ℕ × HeldRow)). record rows { held = held }) (held_stay k cs rows.held p.1)

-- ---- of two lists of copies, one after the other, the second stays

having-having : (k : ℕ) (cs ds : List CopyRow) (v : Version) → having_copies k ds (having_copies k cs v) ≡ having_copies k ds v
having-having k cs ds v =
    elim (eqb v.object k) as (λ b. eqb v.object k ≡ b → having_copies k ds (cond {A = Version} b (record v { copies = cs }) v) ≡ cond {A = Version} b (record v { copies = ds }) v) [
      | true ↦ λ t. ap (λ b. cond {A = Version} b (record v { copies = ds }) (record v { copies = cs })) t
      | false ↦ λ t. ap (λ b. cond {A = Version} b (record v { copies = ds }) v) t
    ] refl

versions_twice : (k : ℕ) (cs ds : List CopyRow) (vs : List Version) → with_copies k ds (with_copies k cs vs) ≡ with_copies k ds vs
versions_twice k cs ds [] = refl
versions_twice k cs ds (v ∷ vs) = ap (λ (x : Version). x ∷ with_copies k ds (with_copies k cs vs)) (having-having k cs ds v) ∙ ap (λ l. having_copies k ds v ∷ l) (versions_twice k cs ds vs)

groups_twice : (k : ℕ) (cs ds : List CopyRow) (gs : List (List ℕ × Group)) → groups_copied k ds (groups_copied k cs gs) ≡ groups_copied k ds gs
groups_twice k cs ds [] = refl
groups_twice k cs ds (g ∷ gs) =
    ap (λ (vs : List Version). (g.0, record g.1 { versions = vs }) ∷ groups_copied k ds (groups_copied k cs gs)) (versions_twice k cs ds g.1.versions)
    ∙ ap (λ l. (g.0, group_copied k ds g.1) ∷ l) (groups_twice k cs ds gs)

spaces_twice : (k : ℕ) (cs ds : List CopyRow) (fs : List (ℕ × Filespace)) → filespaces_copied k ds (filespaces_copied k cs fs) ≡ filespaces_copied k ds fs
spaces_twice k cs ds [] = refl
spaces_twice k cs ds (f ∷ fs) =
    ap (λ (gs : List (List ℕ × Group)). (f.0, record f.1 { groups = gs }) ∷ filespaces_copied k ds (filespaces_copied k cs fs)) (groups_twice k cs ds f.1.groups)
    ∙ ap (λ l. (f.0, filespace_copied k ds f.1) ∷ l) (spaces_twice k cs ds fs)

held_twice : (k : ℕ) (cs ds : List CopyRow) (held : List (ℕ × HeldRow)) → held_copied k ds (held_copied k cs held) ≡ held_copied k ds held
held_twice k cs ds [] = refl
held_twice k cs ds (h ∷ held) =
    ap (λ (x : Version). (h.0, record h.1 { held = record (h.1.held) { version = x } }) ∷ held_copied k ds (held_copied k cs held)) (having-having k cs ds h.1.held.version)
    ∙ ap (λ l. (h.0, row_copied k ds h.1) ∷ l) (held_twice k cs ds held)

rows_twice : (k : ℕ) (cs ds : List CopyRow) (rows : Rows) → rows_copied k ds (rows_copied k cs rows) ≡ rows_copied k ds rows
rows_twice k cs ds rows =
    ap (λ (fs : List (ℕ × Filespace)). record rows { filespaces = fs; held = held_copied k ds (held_copied k cs rows.held) }) (spaces_twice k cs ds rows.filespaces)
    ∙ ap (λ (held : List (ℕ × HeldRow)). record rows { filespaces = filespaces_copied k ds rows.filespaces; held = held }) (held_twice k cs ds rows.held)

-- ---- the version that is found has the copies

found-copied : (k : ℕ) (cs : List CopyRow) (w : Version) (vs : List Version) → version_of k vs ≡ Some w → version_of k (with_copies k cs vs) ≡ Some (record w { copies = cs })
found-copied k cs w [] h = absurd (cc)
found-copied k cs w (v ∷ vs) h =
    elim (eqb v.object k) as (λ b. eqb v.object k ≡ b → cond b (Some v) (version_of k vs) ≡ Some w → version_of k (cond {A = Version} b (record v { copies = cs }) v ∷ with_copies k cs vs) ≡ Some (record w { copies = cs })) [
      | true ↦ λ t g.
          let same : v ≡ w = cc in
          ap (λ b. cond b (Some (record v { copies = cs })) (version_of k (with_copies k cs vs))) t ∙ ap (λ (x : Version). Some (record x { copies = cs })) same
      | false ↦ λ t g. ap (λ b. cond b (Some v) (version_of k (with_copies k cs vs))) t ∙ found-copied k cs w vs g
    ] refl h

-- ---- a copy that came, and goes again

abbrev alter : ℕ → copies.CopyChange → Rows → Option Version → Result Rows Refusal
alter k change rows found = if_found found (λ v. on_ok (λ copies. rows_copied k copies rows) (copies_after change v.copies))

back : (k : ℕ) (row : CopyRow) (w : Version) (rows : Rows) → version_of k (kept_of rows) ≡ Some w → are_distinct (kept_of rows) ≡ true → has_copy row.pool w.copies ≡ false
    → rows_altered k (copy.Drop row.pool) (rows_copied k (with_copy row w.copies) rows) ≡ Ok rows
back k row w rows found d free =
    let more : List CopyRow = with_copy row w.copies in
    let here : version_of k (kept_of (rows_copied k more rows)) ≡ Some (record w { copies = more }) = ap (version_of k) (kept_of-copied k more rows) ∙ found-copied k more w (kept_of rows) found in
    ap (alter k (copy.Drop row.pool) (rows_copied k more rows)) here
    ∙ ap (on_ok (λ (cs : List CopyRow). rows_copied k cs (rows_copied k more rows))) (dropped-added row w.copies free)
    ∙ ap Ok (rows_twice k more w.copies rows ∙ rows_stay k w.copies rows (found_stays k w (kept_of rows) found d))

pub placed_goes : (object pool : ℕ) (row : CopyRow) (v : Inv) (rows : Rows) (log more : List Undo) → is_some (version_of object (kept_of v.clients)) ≡ true → are_distinct (kept_of v.clients) ≡ true → FreePool (copy.Add row) object v.clients → row.pool ≡ pool
    → (let a : Result (List Undo) Refusal = Ok (undo.Copy object pool ∷ log) in a ≡ Ok more) → rows_altered object (copy.Add row) v.clients ≡ Ok rows
    → (record v { clients = rows } ≡ change_copy object (copy.Add row) v) × KeepsWay log v more (record v { clients = rows })
placed_goes object pool row v rows log more there d free same pushed said = go (version_of object (kept_of v.clients)) refl free said where
  go : (o : Option Version) → version_of object (kept_of v.clients) ≡ o → not (has_copy row.pool (option_map_or (λ (w : Version). w.copies) o [])) ≡ true → alter object (copy.Add row) v.clients o ≡ Ok rows
      → (record v { clients = rows } ≡ change_copy object (copy.Add row) v) × KeepsWay log v more (record v { clients = rows })
  go None found free h = absurd (cc)
  go (Some w) found free h =
      let new : Rows = rows_copied object (with_copy row w.copies) v.clients in
      let is : new ≡ rows = same_Ok new rows h in (
        ap (λ (r : Result Rows Refusal). record v { clients = or_same v.clients r }) (sym said),
        keeps_step (undo.Copy object pool) log more v (record v { clients = rows }) pushed tt
            (ap (λ (r : Rows). record v { clients = or_same r (rows_altered object (copy.Drop pool) r) }) (sym is)
            ∙ ap (λ (p : ℕ). record v { clients = or_same new (rows_altered object (copy.Drop p) new) }) (sym same)
            ∙ ap (λ (r : Result Rows Refusal). record v { clients = or_same new r }) (back object row w v.clients found d (not-true (has_copy row.pool w.copies) free))),
      )

-- of an object that is there adding a copy isn't refused
pub placed_for_memory : (object : ℕ) (row : CopyRow) (old : Rows) (e : Refusal) → is_some (version_of object (kept_of old)) ≡ true → (e ≡ Memory) ⊎ (rows_altered object (copy.Add row) old ≡ Err e) → e ≡ Memory
placed_for_memory object row old e there (inl m) = m
placed_for_memory object row old e there (inr h) = absurd (go (version_of object (kept_of old)) there h) where
  go : (o : Option Version) → is_some o ≡ true → alter object (copy.Add row) old o ≡ Err e → ⊥
  go None t h = false≢true t
  go (Some w) t h = cc
