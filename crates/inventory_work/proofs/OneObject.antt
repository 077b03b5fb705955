-- The copies of one object, among those of all objects that lie somewhere.
use Rattle.std.proofs.Common.{◌≡◌, ℕ, Bool, true, false, cond, eqb, not, ◌&&◌, List, [], ◌∷◌, ◌++◌, map, filter, find, Option, Some, None, refl, sym, ap, ap₂, ◌∙◌}
use Rattle.std.proofs.lemmas.Bool.{and_parts, cond-false, cond-true, eqb-true, not-true}
use Rattle.std.proofs.lemmas.Grind.{flat_map-append}
use Rattle.std.proofs.lemmas.List.{append-nil, map-append}
use Rattle.std.proofs.lemmas.List.Elements.{filter-append}
use Rattle.std.proofs.lemmas.List.Folds.{find-append, flat_map-map, list_all-map}
use Rattle.std.specs.Cmp.{nat_cmp_total}
use Rattle.std.specs.List.{AllByRecursion, flat_map, list_all}
use Rattle.std.specs.List.Sorted.{IsStrictlySortedBy}
use Rattle.std.specs.Map.{keys_of, lookup}
use Rattle.std.specs.Option.{option_map, option_map_or, option_or}
use Rattle.std.specs.Ordering.{nat_cmp}
use Rattle.inventory_rows.proofs.of_object_rows.Stands.{at-eqb, at_itself, passed}
use Rattle.inventory_rows.specs.State.{Inv}
use Rattle.inventory_rows.specs.object_rows.Filespaces.{at_number, filespace_at, versions_in, versions_of}
use Rattle.inventory_rows.specs.object_rows.HeldRows.{are_held_rows, held_at, held_versions, is_held_row}
use Rattle.inventory_rows.specs.object_rows.Places.{listed, listed_at, listed_in}
use Rattle.inventory_rows.specs.object_rows.Rows.{IsSound, Rows, filespace_of_kept, kept_of}
use Rattle.inventory_rows.specs.object_rows.declared.held_object.HeldRow.{HeldRow}
use Rattle.inventory_rows.specs.object_rows.declared.place.Place.{Place}
use Rattle.inventory_rows.specs.version_groups.Entries.{all_later}
use Rattle.inventory_rows.specs.version_groups.Versions.{version_of}
use Rattle.inventory_rows.specs.version_groups.declared.copies.CopyRow.{CopyRow}
use Rattle.inventory_rows.specs.version_groups.declared.group.Group.{Group}
use Rattle.inventory_rows.specs.version_groups.declared.groups.Filespace.{Filespace}
use Rattle.inventory_rows.specs.version_groups.declared.versions.Version.{Version}
use Rattle.inventory_work.specs.Copies.{copies_found, copies_of_filespaces, copies_of_group, copies_of_version, copy_line, copy_lines, lies_there, node_of}
use Rattle.inventory_work.specs.Lists.{only}
use Rattle.inventory_work.specs.OnVolume.{copies_of_object}
use Rattle.inventory_work.specs.declared.copies.Where.{Where}
use Rattle.inventory_work.specs.declared.lines.CopyLine.{CopyLine}

-- ---- lists

-- what was found, as a list
abbrev pub found_one : {A : Type 0} → Option A → List A
found_one None = []
found_one (Some x) = x ∷ []

-- the element whose number this is, where no number is that of two
pub filter-once : {A : Type 0} (number : A → ℕ) (n : ℕ) (xs : List A) → all_later (λ v w. not (eqb (number w) (number v))) xs ≡ true → filter (λ x. eqb (number x) n) xs ≡ found_one (find (λ x. eqb (number x) n) xs)
filter-once number n [] h = refl
filter-once {A} number n (x ∷ xs) h =
    let t = and_parts (list_all (λ w. not (eqb (number w) (number x))) xs) (all_later (λ v w. not (eqb (number w) (number v))) xs) h in
    elim (eqb (number x) n) as (λ b. eqb (number x) n ≡ b → cond b (x ∷ filter (λ y. eqb (number y) n) xs) (filter (λ y. eqb (number y) n) xs) ≡ found_one (cond b (Some x) (find (λ y. eqb (number y) n) xs))) [
      | true ↦ λ is. ap (λ (l : List A). x ∷ l) (none (eqb-true (number x) n is) xs t.0)
      | false ↦ λ _. filter-once number n xs t.1
    ] refl where
      none : number x ≡ n → (ys : List A) → list_all (λ w. not (eqb (number w) (number x))) ys ≡ true → filter (λ y. eqb (number y) n) ys ≡ []
      none is [] h = refl
      none is (y ∷ ys) h =
          let t = and_parts (not (eqb (number y) (number x))) (list_all (λ w. not (eqb (number w) (number x))) ys) h in
          cond-false _ _ _ (ap (λ m. eqb (number y) m) (sym is) ∙ not-true (eqb (number y) (number x)) t.0) ∙ none is ys t.1

find-map : {A B : Type 0} (p : B → Bool) (f : A → B) (xs : List A) → find p (map f xs) ≡ option_map f (find (λ x. p (f x)) xs)
find-map p f [] = refl
find-map {A} {B} p f (x ∷ xs) =
    elim (p (f x)) as (λ b. cond b (Some (f x)) (find p (map f xs)) ≡ option_map f (cond b (Some x) (find (λ y. p (f y)) xs))) [
      | true ↦ refl
      | false ↦ find-map p f xs
    ]

lookup-append : {K V : Type 0} (test : K → Bool) (xs ys : List (K × V)) → lookup test (xs ++ ys) ≡ option_or (lookup test xs) (lookup test ys)
lookup-append test [] ys = refl
lookup-append test (x ∷ xs) ys =
    elim (test x.0) as (λ b. cond b (Some x.1) (lookup test (xs ++ ys)) ≡ option_or (cond b (Some x.1) (lookup test xs)) (lookup test ys)) [
      | true ↦ refl
      | false ↦ lookup-append test xs ys
    ]

option_map-or : {A B : Type 0} (f : A → B) (a b : Option A) → option_map f (option_or a b) ≡ option_or (option_map f a) (option_map f b)
option_map-or f None b = refl
option_map-or f (Some x) b = refl

later-map : {A B : Type 0} (r : B → B → Bool) (f : A → B) (xs : List A) → all_later r (map f xs) ≡ all_later (λ x y. r (f x) (f y)) xs
later-map r f [] = refl
later-map r f (x ∷ xs) = ap₂ (λ a b. a && b) (list_all-map (r (f x)) f xs) (later-map r f xs)

map-same : {A B : Type 0} (f : A → B) (g : B → A) (xs : List A) → ((x : A) → g (f x) ≡ x) → map g (map f xs) ≡ xs
map-same f g [] h = refl
map-same f g (x ∷ xs) h = ap₂ (λ y l. y ∷ l) (h x) (map-same f g xs h)

each_found : {V : Type 0} (rows : List (ℕ × V)) → IsStrictlySortedBy nat_cmp (keys_of rows) → AllByRecursion (λ e. lookup (at_number e.0) rows ≡ Some e.1) rows
unfolding IsStrictlySortedBy
each_found [] h = tt
each_found {V} (e ∷ rows) h = (cond-true _ _ _ (at_itself e.0), behind rows (each_found rows h.1)) where
  behind : (es : List (ℕ × V)) → AllByRecursion (λ f. lookup (at_number f.0) rows ≡ Some f.1) es → AllByRecursion (λ f. lookup (at_number f.0) (e ∷ rows) ≡ Some f.1) es
  behind [] t = tt
  behind (f ∷ es) t = (passed nat_cmp_total f.0 e rows f.1 h t.0, behind es t.1)

-- ---- the lines of one object

-- those of the lines that are of the object
abbrev pub of_object : ℕ → List CopyLine → List CopyLine
of_object n lines = filter (λ line. eqb line.object n) lines

-- all lines are of the object
abbrev pub AreOf : ℕ → List CopyLine → Type 0
AreOf m lines = AllByRecursion (λ line. line.object ≡ m) lines

of_one : (n m : ℕ) (lines : List CopyLine) → AreOf m lines → of_object n lines ≡ cond (eqb m n) lines []
of_one n m [] h = none (eqb m n) where
  none : (b : Bool) → [] ≡ cond {A = List CopyLine} b [] []
  none true = refl
  none false = refl
of_one n m (l ∷ lines) h = ap (λ k. cond (eqb k n) (l ∷ of_object n lines) (of_object n lines)) h.0 ∙ more (eqb m n) (of_object n lines) (of_one n m lines h.1) where
  more : (b : Bool) (s : List CopyLine) → s ≡ cond b lines [] → cond b (l ∷ s) s ≡ cond b (l ∷ lines) []
  more true s h = ap (λ (r : List CopyLine). l ∷ r) h
  more false s h = h

pub of_object-flat : {A : Type 0} (number : A → ℕ) (lines : A → List CopyLine) (n : ℕ) → ((x : A) → AreOf (number x) (lines x)) → (xs : List A) → of_object n (flat_map lines xs) ≡ flat_map lines (filter (λ x. eqb (number x) n) xs)
of_object-flat number lines n one [] = refl
of_object-flat {A} number lines n one (x ∷ xs) =
    filter-append (λ line. eqb line.object n) (lines x) (flat_map lines xs)
    ∙ ap₂ (λ (a b : List CopyLine). a ++ b) (of_one n (number x) (lines x) (one x)) (of_object-flat number lines n one xs)
    ∙ elim (eqb (number x) n) as (λ b. cond b (lines x) [] ++ flat_map lines (filter (λ y. eqb (number y) n) xs) ≡ flat_map lines (cond b (x ∷ filter (λ y. eqb (number y) n) xs) (filter (λ y. eqb (number y) n) xs))) [
      | true ↦ refl
      | false ↦ refl
    ]

pub of_version : (here : Where) (node : ℕ) (w : Version) → AreOf w.object (copies_of_version here node w)
of_version here node w = all w.copies where
  all : (cs : List CopyRow) → AreOf w.object (flat_map (copy_lines here node w) cs)
  all [] = tt
  all (c ∷ cs) =
      elim (lies_there here c) as (λ b. AreOf w.object (only b (copy_line node w c) ++ flat_map (copy_lines here node w) cs)) [
        | true ↦ (refl, all cs)
        | false ↦ all cs
      ]

-- ---- all that is kept, each with the number of its filespace

abbrev in_filespaces : List (ℕ × Filespace) → List (ℕ × Version)
in_filespaces filespaces = flat_map (λ f. map (λ w. (f.0, w)) (versions_in f.1.groups)) filespaces

abbrev in_held : List (ℕ × HeldRow) → List (ℕ × Version)
in_held held = map (λ h. (h.1.filespace, h.1.held.version)) held

abbrev kept_in : Rows → List (ℕ × Version)
kept_in rows = in_filespaces rows.filespaces ++ in_held rows.held

in_filespaces-kept : (filespaces : List (ℕ × Filespace)) → map (λ p. p.1) (in_filespaces filespaces) ≡ versions_of filespaces
in_filespaces-kept [] = refl
in_filespaces-kept (f ∷ fs) =
    map-append (λ p. p.1) (map (λ w. (f.0, w)) (versions_in f.1.groups)) (in_filespaces fs)
    ∙ ap₂ (λ (a b : List Version). a ++ b) (map-same (λ w. (f.0, w)) (λ p. p.1) (versions_in f.1.groups) (λ _. refl)) (in_filespaces-kept fs)

in_held-kept : (held : List (ℕ × HeldRow)) → map (λ p. p.1) (in_held held) ≡ held_versions held
in_held-kept [] = refl
in_held-kept (h ∷ hs) = ap (λ (l : List Version). h.1.held.version ∷ l) (in_held-kept hs)

kept_in-kept : (rows : Rows) → map (λ p. p.1) (kept_in rows) ≡ kept_of rows
kept_in-kept rows =
    map-append (λ p. p.1) (in_filespaces rows.filespaces) (in_held rows.held) ∙ ap₂ (λ (a b : List Version). a ++ b) (in_filespaces-kept rows.filespaces) (in_held-kept rows.held)

-- what is found of an object there
abbrev pair_of : ℕ → List (ℕ × Version) → Option (ℕ × Version)
pair_of n pairs = find (λ p. eqb p.1.object n) pairs

pair-version : (n : ℕ) (rows : Rows) → option_map (λ p. p.1) (pair_of n (kept_in rows)) ≡ version_of n (kept_of rows)
pair-version n rows = sym (find-map (λ w. eqb w.object n) (λ p. p.1) (kept_in rows)) ∙ ap (version_of n) (kept_in-kept rows)

-- the pairs lead to the filespace to which the places lead
abbrev LeadsTo : ℕ → List (ℕ × Version) → List (ℕ × Place) → Type 0
LeadsTo n pairs places = option_map (λ p. p.0) (pair_of n pairs) ≡ option_map (λ place. place.filespace) (lookup (at_number n) places)

leads-joined : (n : ℕ) (ps qs : List (ℕ × Version)) (xs ys : List (ℕ × Place)) → LeadsTo n ps xs → LeadsTo n qs ys → LeadsTo n (ps ++ qs) (xs ++ ys)
leads-joined n ps qs xs ys a b =
    ap (option_map (λ p. p.0)) (find-append (λ (p : ℕ × Version). eqb p.1.object n) ps qs)
    ∙ option_map-or (λ p. p.0) (pair_of n ps) (pair_of n qs)
    ∙ ap₂ option_or a b
    ∙ sym (option_map-or (λ (place : Place). place.filespace) (lookup (at_number n) xs) (lookup (at_number n) ys))
    ∙ sym (ap (option_map (λ (place : Place). place.filespace)) (lookup-append (at_number n) xs ys))

leads-path : (n k : ℕ) (path : List ℕ) (ws : List Version) → LeadsTo n (map (λ w. (k, w)) ws) (listed_at k path ws)
leads-path n k path [] = refl
leads-path n k path (w ∷ ws) =
    elim (eqb w.object n) as (λ b. option_map (λ p. p.0) (cond b (Some (k, w)) (pair_of n (map (λ w. (k, w)) ws))) ≡ option_map (λ (place : Place). place.filespace) (cond b (Some (record { filespace = k; path = path })) (lookup (at_number n) (listed_at k path ws)))) [
      | true ↦ refl
      | false ↦ leads-path n k path ws
    ]
    ∙ ap (λ b. option_map (λ (place : Place). place.filespace) (cond b (Some (record { filespace = k; path = path })) (lookup (at_number n) (listed_at k path ws)))) (sym (at-eqb n w.object))

leads-groups : (n k : ℕ) (groups : List (List ℕ × Group)) → LeadsTo n (map (λ w. (k, w)) (versions_in groups)) (listed_in k groups)
leads-groups n k [] = refl
leads-groups n k (g ∷ gs) =
    ap (λ l. option_map (λ p. p.0) (pair_of n l)) (map-append (λ w. (k, w)) g.1.versions (versions_in gs))
    ∙ leads-joined n (map (λ w. (k, w)) g.1.versions) (map (λ w. (k, w)) (versions_in gs)) (listed_at k g.0 g.1.versions) (listed_in k gs) (leads-path n k g.0 g.1.versions) (leads-groups n k gs)

leads-filespaces : (n : ℕ) (filespaces : List (ℕ × Filespace)) → LeadsTo n (in_filespaces filespaces) (listed filespaces)
leads-filespaces n [] = refl
leads-filespaces n (f ∷ fs) =
    leads-joined n (map (λ w. (f.0, w)) (versions_in f.1.groups)) (in_filespaces fs) (listed_in f.0 f.1.groups) (listed fs) (leads-groups n f.0 f.1.groups) (leads-filespaces n fs)

leads-held : (n : ℕ) (held : List (ℕ × HeldRow)) → are_held_rows held ≡ true → option_map (λ p. p.0) (pair_of n (in_held held)) ≡ option_map (λ row. row.filespace) (held_at n held)
leads-held n [] h = refl
leads-held n (e ∷ held) h =
    let t = and_parts (is_held_row e) (are_held_rows held) h in
    let number : e.1.held.version.object ≡ e.0 = eqb-true e.1.held.version.object e.0 (and_parts _ _ t.0).0 in
    elim (eqb e.1.held.version.object n) as (λ b. option_map (λ p. p.0) (cond b (Some (e.1.filespace, e.1.held.version)) (pair_of n (in_held held))) ≡ option_map (λ (row : HeldRow). row.filespace) (cond b (Some e.1) (held_at n held))) [
      | true ↦ refl
      | false ↦ leads-held n held t.1
    ]
    ∙ ap (λ b. option_map (λ (row : HeldRow). row.filespace) (cond b (Some e.1) (held_at n held))) (ap (λ m. eqb m n) number ∙ sym (at-eqb n e.0))

pair-filespace : (n : ℕ) (rows : Rows) → are_held_rows rows.held ≡ true → option_map (λ p. p.0) (pair_of n (kept_in rows)) ≡ filespace_of_kept n rows
pair-filespace n rows held =
    ap (option_map (λ p. p.0)) (find-append (λ (p : ℕ × Version). eqb p.1.object n) (in_filespaces rows.filespaces) (in_held rows.held))
    ∙ option_map-or (λ p. p.0) (pair_of n (in_filespaces rows.filespaces)) (pair_of n (in_held rows.held))
    ∙ ap₂ option_or (leads-filespaces n rows.filespaces) (leads-held n rows.held held)

-- ---- the copies of all that is kept

-- the copies of what is kept in a filespace with this number
abbrev lines_of : Where → List (ℕ × Filespace) → ℕ × Version → List CopyLine
lines_of here filespaces p = copies_of_version here (node_of p.0 filespaces) p.1

found-groups : (here : Where) (node : ℕ) (groups : List (List ℕ × Group)) → flat_map (λ g. copies_of_group here node g.1) groups ≡ flat_map (copies_of_version here node) (versions_in groups)
found-groups here node [] = refl
found-groups here node (g ∷ gs) =
    ap (λ (l : List CopyLine). copies_of_group here node g.1 ++ l) (found-groups here node gs) ∙ sym (flat_map-append (copies_of_version here node) g.1.versions (versions_in gs))

found-filespaces : (here : Where) (all fs : List (ℕ × Filespace)) → AllByRecursion (λ f. filespace_at f.0 all ≡ Some f.1) fs → copies_of_filespaces here fs ≡ flat_map (lines_of here all) (in_filespaces fs)
found-filespaces here all [] h = refl
found-filespaces here all (f ∷ fs) h =
    ap₂ (λ (a b : List CopyLine). a ++ b)
    (found-groups here f.1.node f.1.groups
    ∙ ap (λ node. flat_map (copies_of_version here node) (versions_in f.1.groups)) (ap (λ (o : Option Filespace). option_map_or (λ x. x.node) o 0) (sym h.0))
    ∙ sym (flat_map-map (lines_of here all) (λ w. (f.0, w)) (versions_in f.1.groups)))
    (found-filespaces here all fs h.1)
    ∙ sym (flat_map-append (lines_of here all) (map (λ w. (f.0, w)) (versions_in f.1.groups)) (in_filespaces fs))

found-kept : (here : Where) (v : Inv) → IsStrictlySortedBy nat_cmp (keys_of v.clients.filespaces) → copies_found here v ≡ flat_map (lines_of here v.clients.filespaces) (kept_in v.clients)
found-kept here v sorted =
    ap₂ (λ (a b : List CopyLine). a ++ b)
    (found-filespaces here v.clients.filespaces v.clients.filespaces (each_found v.clients.filespaces sorted))
    (sym (flat_map-map (lines_of here v.clients.filespaces) (λ (h : ℕ × HeldRow). (h.1.filespace, h.1.held.version)) v.clients.held))
    ∙ sym (flat_map-append (lines_of here v.clients.filespaces) (in_filespaces v.clients.filespaces) (in_held v.clients.held))

found_pair : (here : Where) (filespaces : List (ℕ × Filespace)) (o : Option (ℕ × Version)) (w : Option Version) (k : Option ℕ) → option_map (λ p. p.1) o ≡ w → option_map (λ p. p.0) o ≡ k
    → flat_map (lines_of here filespaces) (found_one o) ≡ option_map_or (copies_of_version here (option_map_or (λ n. node_of n filespaces) k 0)) w []
found_pair here filespaces o w k is in_it =
    only_one o
    ∙ ap₂ (λ (x : Option ℕ) (y : Option Version). option_map_or (copies_of_version here (option_map_or (λ n. node_of n filespaces) x 0)) y []) in_it is
  where
    only_one : (p : Option (ℕ × Version)) → flat_map (lines_of here filespaces) (found_one p) ≡ option_map_or (copies_of_version here (option_map_or (λ n. node_of n filespaces) (option_map (λ p. p.0) p) 0)) (option_map (λ p. p.1) p) []
    only_one None = refl
    only_one (Some p) = append-nil (lines_of here filespaces p)

-- of all copies that lie there those of an object are those of what is found of it
pub one_object : (here : Where) (n : ℕ) (v : Inv) → IsStrictlySortedBy nat_cmp (keys_of v.clients.filespaces) → IsSound v.clients → of_object n (copies_found here v) ≡ copies_of_object here v.clients n
one_object here n v sorted sound =
    let fs = v.clients.filespaces in
    let apart : all_later (λ p q. not (eqb q.1.object p.1.object)) (kept_in v.clients) ≡ true =
    sym (later-map (λ (a b : Version). not (eqb b.object a.object)) (λ p. p.1) (kept_in v.clients)) ∙ ap (all_later (λ (a b : Version). not (eqb b.object a.object))) (kept_in-kept v.clients) ∙ sound.objects in
    ap (of_object n) (found-kept here v sorted)
    ∙ of_object-flat (λ p. p.1.object) (lines_of here fs) n (λ p. of_version here (node_of p.0 fs) p.1) (kept_in v.clients)
    ∙ ap (flat_map (lines_of here fs)) (filter-once (λ p. p.1.object) n (kept_in v.clients) apart)
    ∙ found_pair here fs (pair_of n (kept_in v.clients)) (version_of n (kept_of v.clients)) (filespace_of_kept n v.clients) (pair-version n v.clients) (pair-filespace n v.clients sound.held)
