-- An object goes from the rows, held or a version, and its copies with it.
use Rattle.std.proofs.Common.{◌≡◌, ℕ, Bool, true, false, cond, eqb, ◌||◌, List, [], ◌∷◌, ◌++◌, map, length, Option, Some, None, Ok, Result, refl, sym, ap, subst, ◌∙◌, arith, ◌+◌}
use Rattle.std.proofs.lemmas.Bool.{eqb-true, eq-eqb, ne_eqb, eqb-false}
use Rattle.std.specs.Map.{lookup}
use Rattle.std.specs.Option.{is_some, option_map_or}
use Rattle.kinds.specs.declared.refusal.Refusal.{Refusal}
use Rattle.inventory_rules.specs.inventory_rows.version_groups.declared.group.GroupChange.TheVariants.{Remove}
use Rattle.inventory_rules.specs.inventory_rows.version_groups.declared.groups.Filespace.{Filespace}
use Rattle.inventory_rules.specs.inventory_rows.version_groups.declared.versions.Version.{Version}
use Rattle.inventory_rules.specs.inventory_rows.version_groups.Entries.{if_found}
use Rattle.inventory_rules.specs.inventory_rows.version_groups.Versions.{has_object}
use Rattle.inventory_rules.proofs.of_inventory_rows.of_version_groups.Lists.{version_of-object}
use Rattle.inventory_rules.specs.inventory_rows.object_rows.declared.held_object.HeldRow.{HeldRow}
use Rattle.inventory_rules.specs.inventory_rows.object_rows.declared.place.Place.{Place}
use Rattle.inventory_rules.specs.inventory_rows.object_rows.Filespaces.{at_number, filespaces_after, versions_at, versions_of}
use Rattle.inventory_rules.specs.inventory_rows.object_rows.HeldRows.{held_at, held_versions, held_without, is_under as row_under}
use Rattle.inventory_rules.specs.inventory_rows.object_rows.Places.{listed, place_of}
use Rattle.inventory_rules.specs.inventory_rows.object_rows.Rows.{Rows, filespaces_cleared, rows_after, rows_cleared, rows_without, with_filespaces as rows_with_filespaces, with_held}
use Rattle.inventory_rules.proofs.of_inventory_rows.of_object_rows.Splices.{Splices}
use Rattle.inventory_rules.proofs.of_inventory_rows.of_object_rows.Stands.{at-eqb, has-listed}
use Rattle.inventory_rules.specs.inventory_rows.Search.{copies, version, versions}
use Rattle.inventory_rules.specs.inventory_rows.State.{Inv}
use Rattle.inventory_rules.specs.Common.{or_same, with_clients, with_filespaces}
use Rattle.inventory_rules.specs.Halfway.{VersionFacts}
use Rattle.inventory_rules.specs.Ordered.{IsOrdered}
use Rattle.inventory_rules.specs.Reordered.{IsReordered}
use Rattle.inventory_rules.specs.Versions.{is_under}
use Rattle.inventory_laws.specs.Kept.{clients_after}
use Rattle.inventory_laws.proofs.Arriving.{has-append, has-version}
use Rattle.inventory_laws.proofs.CopyCounts.{is_found}
use Rattle.inventory_laws.proofs.Gone.{lookup-beside_removed}
use Rattle.inventory_laws.proofs.GroupSteps.{Removed, all_go, differ, found_in, goes, nothing_sound, removed, removes}
use Rattle.inventory_laws.proofs.HeldNumbers.{has-held, held_object, held_there-without}
use Rattle.inventory_laws.proofs.Kept.{facts_objects, held_goes, sound_all, sound_come, splice_held, with_objects}
use Rattle.inventory_laws.proofs.Ordered.{ordered_change}
use Rattle.inventory_laws.proofs.Others.{path_of_place, place_stays, same_version}
use Rattle.inventory_laws.proofs.Spliced.{later_fewer, splice_length}

-- ---- what goes

-- The object goes from the rows, and nothing else: the other held objects stay, and other versions stand where they stood.
pub record Leaves (n object : ℕ) (old : Version) (v : Inv) (c : Rows) : Type 0 where
  pub spliced : Splices (old ∷ []) [] (versions v) (versions (with_clients c v))
  pub facts : VersionFacts n (with_clients c v)
  pub order : IsReordered (copies v) (map (λ c. (object, c)) old.copies ++ copies (with_clients c v))
  pub ordered : IsOrdered v → IsOrdered (with_clients c v)
  pub held : (other : ℕ) → eqb other object ≡ false → held_at other c.held ≡ held_at other v.clients.held
  pub places : (other : ℕ) → eqb other object ≡ false → place_of other c.filespaces ≡ place_of other v.clients.filespaces

-- ---- a held object

without_row : (k other : ℕ) → eqb other k ≡ false → (n : ℕ) → at_number k n ≡ true → at_number other n ≡ false
without_row k other ne n here =
    let same : n ≡ k = eqb-true n k (sym (at-eqb k n) ∙ here) in
    at-eqb other n ∙ ap (λ m. eqb m other) same ∙ ne_eqb k other (λ e. eqb-false other k ne (sym e))

pub held_leaves : (n object : ℕ) (v : Inv) (row : HeldRow) → VersionFacts n v → held_at object v.clients.held ≡ Some row
    → Leaves n object row.held.version v (record { nodes = v.clients.nodes; filespaces = v.clients.filespaces; held = held_without object v.clients.held })
held_leaves n object v row f found =
    let fs : List (ℕ × Filespace) = v.clients.filespaces in
    let left : List (ℕ × HeldRow) = held_without object v.clients.held in
    let w : Inv = with_objects fs left v in
    let s : Splices (row.held.version ∷ []) [] (versions v) (versions w) = splice_held v left (held_goes object row v.clients.held found) in
    record {
      spliced = s;
      facts = facts_objects n v fs left f refl (held_there-without object fs v.clients.held f.held) (sound_come n v s (sound_all n v f) (nothing_sound n v)) (later_fewer (λ (x y : Version). differ x.object y.object) s f.objects_apart) f.orderly;
      order = all_go object row.held.version (versions v) (versions w) (held_object object fs v.clients.held row f.held found) s;
      ordered = λ o. record { by_number = o.by_number; by_path = o.by_path };
      held = λ other ne. lookup-beside_removed (at_number object) (at_number other) (without_row object other ne) v.clients.held;
      places = λ other ne. refl;
    }

-- it is what is kept of the object
held_is : (n object : ℕ) (v : Inv) (row : HeldRow) → VersionFacts n v → held_at object v.clients.held ≡ Some row → version object v ≡ Some row.held.version
held_is n object v row f found =
    let named : row.held.version.object ≡ object = held_object object v.clients.filespaces v.clients.held row f.held found in
    let here : eqb row.held.version.object object ≡ true = eq-eqb row.held.version.object object named in
    let s : Splices (row.held.version ∷ []) [] (versions v) (versions (with_objects v.clients.filespaces (held_without object v.clients.held) v)) = splice_held v (held_without object v.clients.held) (held_goes object row v.clients.held found) in
    found_in object s f.objects_apart (ap (λ b. b || false) here) ∙ ap (λ b. cond b (Some row.held.version) None) here

-- ---- a version

pub path_leaves : (n filespace object : ℕ) (path : List ℕ) (v : Inv) (old : Version) (new : List (ℕ × Filespace)) → VersionFacts n v → version object v ≡ Some old → has_object object (versions_at filespace path v.clients.filespaces) ≡ true
    → filespaces_after filespace path (Remove object) v.clients.filespaces ≡ Ok new → Leaves n object old v (record { nodes = v.clients.nodes; filespaces = new; held = v.clients.held })
path_leaves n filespace object path v old new f found has said =
    let fs : List (ℕ × Filespace) = v.clients.filespaces in
    let r : Removed n object old v (with_filespaces new v) = subst (λ (x : Result (List (ℕ × Filespace)) Refusal). Removed n object old v (with_filespaces (or_same fs x) v)) said (removed n filespace object path v old f found has) in
    record {
      spliced = goes filespace path object v new old f.objects_apart found has said;
      facts = r.0;
      order = r.1;
      ordered = λ o. subst (λ (x : Result (List (ℕ × Filespace)) Refusal). IsOrdered (with_filespaces (or_same fs x) v)) said (ordered_change filespace path (Remove object) v o);
      held = λ other ne. refl;
      places = λ other ne. ap (λ (x : Result (List (ℕ × Filespace)) Refusal). place_of other (or_same fs x)) (sym said) ∙ place_stays filespace object other path v ne;
    }

-- ---- the steps

-- what a step makes of the rows, where the object is there
pub record Goes (n object : ℕ) (old : Version) (v : Inv) (r : Result Rows Refusal) : Type 0 where
  pub rows : Rows
  pub said : r ≡ Ok rows
  pub leaves : Leaves n object old v rows

by_path : (n filespace object : ℕ) (path : List ℕ) (v : Inv) (old : Version) → VersionFacts n v → version object v ≡ Some old → has_object object (versions_at filespace path v.clients.filespaces) ≡ true
    → Goes n object old v (rows_after filespace path (Remove object) v.clients)
by_path n filespace object path v old f found has =
    let a : (new : List (ℕ × Filespace)) × (filespaces_after filespace path (Remove object) v.clients.filespaces ≡ Ok new) = removes filespace path object v.clients.filespaces has in
    record {
      rows = record { nodes = v.clients.nodes; filespaces = a.0; held = v.clients.held };
      said = ap (rows_with_filespaces v.clients) a.1;
      leaves = path_leaves n filespace object path v old a.0 f found has a.1;
    }

by_number : (n object : ℕ) (v : Inv) (old : Version) (row : HeldRow) → VersionFacts n v → version object v ≡ Some old → held_at object v.clients.held ≡ Some row
    → Goes n object old v (with_held v.clients (Ok (held_without object v.clients.held)))
by_number n object v old row f found there =
    let is : row.held.version ≡ old = (let both : Some row.held.version ≡ Some old = sym (held_is n object v row f there) ∙ found in cc) in
    record {
      rows = record { nodes = v.clients.nodes; filespaces = v.clients.filespaces; held = held_without object v.clients.held };
      said = refl;
      leaves = subst (λ (x : Version). Leaves n object x v (record { nodes = v.clients.nodes; filespaces = v.clients.filespaces; held = held_without object v.clients.held })) is (held_leaves n object v row f there);
    }

-- from a path of a filespace
pub cleared : (n filespace object : ℕ) (path : List ℕ) (v : Inv) (old : Version) → VersionFacts n v → version object v ≡ Some old → is_under filespace path object v ≡ true → Goes n object old v (rows_cleared filespace path object v.clients)
cleared n filespace object path v old f found under = go (held_at object v.clients.held) refl under where
  go : (o : Option HeldRow) → held_at object v.clients.held ≡ o → (option_map_or (row_under filespace path) o false || has_object object (versions_at filespace path v.clients.filespaces)) ≡ true
      → Goes n object old v (cond (option_map_or (row_under filespace path) o false) (with_held v.clients (Ok (held_without object v.clients.held))) (rows_after filespace path (Remove object) v.clients))
  go None none has = by_path n filespace object path v old f found has
  go (Some row) there has = here (row_under filespace path row) has where
    here : (b : Bool) → (b || has_object object (versions_at filespace path v.clients.filespaces)) ≡ true
        → Goes n object old v (cond b (with_held v.clients (Ok (held_without object v.clients.held))) (rows_after filespace path (Remove object) v.clients))
    here true h = by_number n object v old row f found there
    here false h = by_path n filespace object path v old f found h

-- a version is listed at its place
placed : (n object : ℕ) (v : Inv) (old : Version) → VersionFacts n v → version object v ≡ Some old → held_at object v.clients.held ≡ None → (at : Place) × (place_of object v.clients.filespaces ≡ Some at)
placed n object v old f found none = is_found (place_of object v.clients.filespaces) (has-listed object v.clients.filespaces ∙ only_there) where
  or_none : (b : Bool) → b ≡ (b || false)
  or_none true = refl
  or_none false = refl

  here : Bool
  here = has_object object (versions_of v.clients.filespaces)

  only_there : here ≡ true
  only_there =
      or_none here ∙ ap (λ b. here || b) (sym (has-held object v.clients.filespaces v.clients.held f.held ∙ ap is_some none))
      ∙ sym (has-append object (versions_of v.clients.filespaces) (held_versions v.clients.held)) ∙ has-version object (versions v) ∙ ap is_some found

-- wherever it is kept
pub without : (n object : ℕ) (v : Inv) (old : Version) → VersionFacts n v → IsOrdered v → version object v ≡ Some old → Goes n object old v (rows_without object v.clients)
without n object v old f o found = go (held_at object v.clients.held) refl where
  there : (at : Place) → place_of object v.clients.filespaces ≡ Some at → Goes n object old v (rows_with_filespaces v.clients (filespaces_cleared object (lookup (at_number object) (listed v.clients.filespaces)) v.clients.filespaces))
  there at stands =
      let has : has_object object (versions_at at.filespace at.path v.clients.filespaces) ≡ true = path_of_place n object v at f o stands in
      subst (λ (p : Option Place). Goes n object old v (rows_with_filespaces v.clients (if_found p (λ place. filespaces_after place.filespace place.path (Remove object) v.clients.filespaces)))) (sym stands)
      (by_path n at.filespace object at.path v old f found has)

  go : (o : Option HeldRow) → held_at object v.clients.held ≡ o
      → Goes n object old v (cond (is_some o) (with_held v.clients (Ok (held_without object v.clients.held))) (rows_with_filespaces v.clients (filespaces_cleared object (lookup (at_number object) (listed v.clients.filespaces)) v.clients.filespaces)))
  go None none = let at = placed n object v old f found none in there at.0 at.1
  go (Some row) here = by_number n object v old row f found here

-- ---- after a step

pub after_is : (n object : ℕ) (old : Version) (v : Inv) (step : Rows → Result Rows Refusal) → (g : Goes n object old v (step v.clients)) → clients_after step v ≡ with_clients g.rows v
after_is n object old v step g = ap (λ (r : Result Rows Refusal). with_clients (or_same v.clients r) v) g.said

pub facts_after : (n object : ℕ) (old : Version) (v : Inv) (step : Rows → Result Rows Refusal) → Goes n object old v (step v.clients) → VersionFacts n (clients_after step v)
facts_after n object old v step g = subst (VersionFacts n) (sym (after_is n object old v step g)) g.leaves.facts

pub order_after : (n object : ℕ) (old : Version) (v : Inv) (step : Rows → Result Rows Refusal) → Goes n object old v (step v.clients) → IsReordered (copies v) (map (λ c. (object, c)) old.copies ++ copies (clients_after step v))
order_after n object old v step g = subst (λ (w : Inv). IsReordered (copies v) (map (λ c. (object, c)) old.copies ++ copies w)) (sym (after_is n object old v step g)) g.leaves.order

pub ordered_after : (n object : ℕ) (old : Version) (v : Inv) (step : Rows → Result Rows Refusal) → Goes n object old v (step v.clients) → IsOrdered v → IsOrdered (clients_after step v)
ordered_after n object old v step g o = subst IsOrdered (sym (after_is n object old v step g)) (g.leaves.ordered o)

pub other_after : (n object other : ℕ) (old : Version) (v : Inv) (step : Rows → Result Rows Refusal) → version object v ≡ Some old → Goes n object old v (step v.clients) → eqb other object ≡ false → version other (clients_after step v) ≡ version other v
other_after n object other old v step found g ne =
    ap (version other) (after_is n object old v step g)
    ∙ same_version other g.leaves.spliced (sym (ap (λ b. cond b (Some old) None) (ap (λ m. eqb m other) (version_of-object object (versions v) old found) ∙ ne_eqb object other (λ e. eqb-false other object ne (sym e)))))

pub length_after : (n object : ℕ) (old : Version) (v : Inv) (step : Rows → Result Rows Refusal) → Goes n object old v (step v.clients) → length (versions (clients_after step v)) + 1 ≡ length (versions v)
length_after n object old v step g =
    let less : length (versions (with_clients g.rows v)) + length (old ∷ []) ≡ length (versions v) + length {A = Version} [] = splice_length g.leaves.spliced in
    let one : length (versions (with_clients g.rows v)) + 1 ≡ length (versions v) = omega (arith, less) in
    ap (λ (w : Inv). length (versions w) + 1) (after_is n object old v step g) ∙ one
