-- What lies on a volume: it is on the list of it, discards leave none that they name, and where nothing does its row has no segment.
use Rattle.std.proofs.Common.{◌≡◌, ◌⊎◌, inl, inr, ℕ, ◌==◌, Bool, true, false, cond, eqb, not, ◌||◌, nat_le, if◌then◌else◌, List, [], ◌∷◌, ◌++◌, map, Some, None, Ok, Err, refl, sym, ap, subst, ◌∙◌}
use Rattle.std.proofs.lemmas.Bool.{and_parts, eq-eqb, eqb-true, false≢true}
use Rattle.std.proofs.lemmas.Grind.{flat_map-append}
use Rattle.std.proofs.lemmas.Option.{same_Some}
use Rattle.std.specs.List.{AllByRecursion, filter, flat_map, list_all, list_any}
use Rattle.kinds.specs.declared.refusal.Refusal.TheVariants.{NotFound}
use Rattle.kinds.specs.declared.segment.Segment.{Segment}
use Rattle.inventory_rows.specs.object_rows.declared.held_object.HeldRow.{HeldRow}
use Rattle.inventory_rows.specs.object_rows.Filespaces.{at_number, versions_in, versions_of}
use Rattle.inventory_rows.specs.object_rows.HeldRows.{held_versions}
use Rattle.inventory_rows.specs.pool_tables.Rows.{row_at}
use Rattle.inventory_rows.specs.version_groups.declared.copies.CopyRow.{CopyRow}
use Rattle.inventory_rows.specs.version_groups.declared.group.Group.{Group}
use Rattle.inventory_rows.specs.version_groups.declared.groups.Filespace.{Filespace}
use Rattle.inventory_rows.specs.version_groups.declared.versions.Version.{Version}
use Rattle.inventory_rows.specs.version_groups.Versions.{are_distinct, has_object, version_of}
use Rattle.inventory_rows.specs.volume_rows.declared.volume.Volume.{Volume}
use Rattle.inventory_rows.specs.Search.{lies_on, segments_on, version, versions}
use Rattle.inventory_rows.specs.State.{Inv}
use Rattle.inventory_rows.proofs.of_object_rows.Stands.{at-eqb}
use Rattle.inventory_rules.specs.Held.{IsTied, holding}
use Rattle.inventory_work.specs.declared.lines.CopyLine.{CopyLine}
use Rattle.inventory_work.specs.ByObject.{by_object, put_line}
use Rattle.inventory_work.specs.Copies.{copy_line, has_volume, node_of, on_volume}
use Rattle.inventory_work.specs.Lists.{only}
use Rattle.command_steps.specs.deletions.Dropping.{doomed}
use Rattle.line_results.proofs.Discarded.{apart-after}
use Rattle.line_results.proofs.Listed.{any-left, any-map, any-right}
use Rattle.line_results.proofs.Types.{Doomed}

-- ---- lists

or-right : (a b : Bool) → b ≡ true → (a || b) ≡ true
or-right true b h = refl
or-right false b h = h

put-any : {A : Type 0} (object : A → ℕ) (p : A → Bool) (line : A) (lines : List A) → p line ≡ true → list_any p (put_line object line lines) ≡ true
put-any object p line [] h = ap (λ (b : Bool). b || false) h
put-any object p line (other ∷ lines) h =
    elim (nat_le (object line) (object other)) as (λ b. list_any p (if b then line ∷ other ∷ lines else other ∷ put_line object line lines) ≡ true) [
      | true ↦ ap (λ (b : Bool). b || list_any p (other ∷ lines)) h
      | false ↦ or-right (p other) (list_any p (put_line object line lines)) (put-any object p line lines h)
    ]

put-other : {A : Type 0} (object : A → ℕ) (p : A → Bool) (line : A) (lines : List A) → list_any p lines ≡ true → list_any p (put_line object line lines) ≡ true
put-other object p line [] h = absurd (false≢true h)
put-other object p line (other ∷ lines) h =
    elim (nat_le (object line) (object other)) as (λ b. list_any p (if b then line ∷ other ∷ lines else other ∷ put_line object line lines) ≡ true) [
      | true ↦ or-right (p line) (list_any p (other ∷ lines)) h
      | false ↦ elim (p other) as (λ b. (b || list_any p lines) ≡ true → (b || list_any p (put_line object line lines)) ≡ true) [
        | true ↦ λ t. refl
        | false ↦ λ t. put-other object p line lines t
      ] h
    ]

sorted-any : {A : Type 0} (object : A → ℕ) (p : A → Bool) (lines : List A) → list_any p lines ≡ true → list_any p (by_object object lines) ≡ true
sorted-any object p [] h = h
sorted-any object p (x ∷ xs) h =
    elim (p x) as (λ b. p x ≡ b → (b || list_any p xs) ≡ true → list_any p (put_line object x (by_object object xs)) ≡ true) [
      | true ↦ λ here t. put-any object p x (by_object object xs) here
      | false ↦ λ other t. put-other object p x (by_object object xs) (sorted-any object p xs t)
    ] refl h

-- ---- the list of a volume

abbrev IsLine : ℕ → CopyLine → Bool
IsLine k l = eqb l.object k

-- a copy of the version lies on the volume
abbrev pub LiesOn : (file : ℕ) → Version → Type 0
LiesOn file w = list_any (lies_on file) w.copies ≡ true

-- the copies on a volume, as they are listed
abbrev pub on-copies : (file node : ℕ) → Version → CopyRow → List CopyLine
on-copies file node x c = only (lies_on file c) (copy_line node x c)

abbrev pub on-version : (file node : ℕ) → Version → List CopyLine
on-version file node x = flat_map (on-copies file node x) x.copies

abbrev pub on-group : (file node : ℕ) → Group → List CopyLine
on-group file node g = flat_map (on-version file node) g.versions

abbrev pub on-space : (file : ℕ) → Filespace → List CopyLine
on-space file f = flat_map (λ g. on-group file f.node g.1) f.groups

abbrev pub on-spaces : (file : ℕ) → List (ℕ × Filespace) → List CopyLine
on-spaces file fs = flat_map (λ f. on-space file f.1) fs

abbrev pub on-held : (file : ℕ) → List (ℕ × Filespace) → List (ℕ × HeldRow) → List CopyLine
on-held file fs held = flat_map (λ h. on-version file (node_of h.1.filespace fs) h.1.held.version) held

abbrev pub on-found : (file : ℕ) → Inv → List CopyLine
on-found file v = on-spaces file v.clients.filespaces ++ on-held file v.clients.filespaces v.clients.held

module _ (file k : ℕ) (w : Version) (lying : LiesOn file w) where
  copy-listed : (node : ℕ) (x : Version) (copies : List CopyRow) → eqb x.object k ≡ true → list_any (lies_on file) copies ≡ true → list_any (IsLine k) (flat_map (on-copies file node x) copies) ≡ true
  copy-listed node x [] same h = absurd (false≢true h)
  copy-listed node x (c ∷ copies) same h =
      (elim (lies_on file c) as (λ b. (b || list_any (lies_on file) copies) ≡ true → list_any (IsLine k) (only b (copy_line node x c) ++ flat_map (on-copies file node x) copies) ≡ true) [
        | true ↦ λ t. ap (λ (b : Bool). b || list_any (IsLine k) (flat_map (on-copies file node x) copies)) same
        | false ↦ λ t. copy-listed node x copies same t
      ] h)

  version-listed : (node : ℕ) (x : Version) → eqb x.object k ≡ true → x ≡ w → list_any (IsLine k) (on-version file node x) ≡ true
  version-listed node x same is = copy-listed node x x.copies same (ap (λ (y : Version). list_any (lies_on file) y.copies) is ∙ lying)

  versions-listed : (node : ℕ) (ws : List Version) → version_of k ws ≡ Some w → list_any (IsLine k) (flat_map (on-version file node) ws) ≡ true
  versions-listed node [] found = absurd (let odd : None ≡ Some w = found in cc)
  versions-listed node (x ∷ ws) found =
      elim (eqb x.object k) as (λ b. eqb x.object k ≡ b → (if b then Some x else version_of k ws) ≡ Some w
      → list_any (IsLine k) (on-version file node x ++ flat_map (on-version file node) ws) ≡ true) [
        | true ↦ λ same is. any-left (IsLine k) (on-version file node x) (flat_map (on-version file node) ws) (version-listed node x same (same_Some x w is))
        | false ↦ λ other is. any-right (IsLine k) (on-version file node x) (flat_map (on-version file node) ws) (versions-listed node ws is)
      ] refl found

  parted : (xs ys : List Version) → version_of k (xs ++ ys) ≡ Some w → (version_of k xs ≡ Some w) ⊎ (version_of k ys ≡ Some w)
  parted [] ys found = inr found
  parted (x ∷ xs) ys found =
      elim (eqb x.object k) as (λ b. (if b then Some x else version_of k (xs ++ ys)) ≡ Some w → ((if b then Some x else version_of k xs) ≡ Some w) ⊎ (version_of k ys ≡ Some w)) [
        | true ↦ λ is. inl is
        | false ↦ λ is. parted xs ys is
      ] found

  groups-listed : (node : ℕ) (gs : List (List ℕ × Group)) → version_of k (versions_in gs) ≡ Some w → list_any (IsLine k) (flat_map (λ g. on-group file node g.1) gs) ≡ true
  groups-listed node [] found = absurd (let odd : None ≡ Some w = found in cc)
  groups-listed node (g ∷ gs) found =
      let rest : List CopyLine = flat_map (λ h. on-group file node h.1) gs in
      elim (parted g.1.versions (versions_in gs) found) as (λ _. list_any (IsLine k) (on-group file node g.1 ++ rest) ≡ true) [
        | inl first ↦ any-left (IsLine k) (on-group file node g.1) rest (versions-listed node g.1.versions first)
        | inr later ↦ any-right (IsLine k) (on-group file node g.1) rest (groups-listed node gs later)
      ]

  spaces-listed : (fs : List (ℕ × Filespace)) → version_of k (versions_of fs) ≡ Some w → list_any (IsLine k) (on-spaces file fs) ≡ true
  spaces-listed [] found = absurd (let odd : None ≡ Some w = found in cc)
  spaces-listed (f ∷ fs) found =
      let rest : List CopyLine = on-spaces file fs in
      elim (parted (versions_in f.1.groups) (versions_of fs) found) as (λ _. list_any (IsLine k) (on-space file f.1 ++ rest) ≡ true) [
        | inl first ↦ any-left (IsLine k) (on-space file f.1) rest (groups-listed f.1.node f.1.groups first)
        | inr later ↦ any-right (IsLine k) (on-space file f.1) rest (spaces-listed fs later)
      ]

  held-listed : (fs : List (ℕ × Filespace)) (held : List (ℕ × HeldRow)) → version_of k (held_versions held) ≡ Some w → list_any (IsLine k) (on-held file fs held) ≡ true
  held-listed fs [] found = absurd (let odd : None ≡ Some w = found in cc)
  held-listed fs (h ∷ held) found =
      let these : List CopyLine = on-version file (node_of h.1.filespace fs) h.1.held.version in
      let rest : List CopyLine = on-held file fs held in
      elim (eqb h.1.held.version.object k) as (λ b. eqb h.1.held.version.object k ≡ b → (if b then Some h.1.held.version else version_of k (held_versions held)) ≡ Some w → list_any (IsLine k) (these ++ rest) ≡ true) [
        | true ↦ λ same is. any-left (IsLine k) these rest (version-listed (node_of h.1.filespace fs) h.1.held.version same (same_Some h.1.held.version w is))
        | false ↦ λ other is. any-right (IsLine k) these rest (held-listed fs held is)
      ] refl found

  -- an object of which a copy lies there is on it
  pub lies-listed : (v : Inv) → version k v ≡ Some w → list_any (λ (d : Doomed). eqb d.object k) (map doomed (by_object (λ (l : CopyLine). l.object) (on-found file v))) ≡ true
  lies-listed v found =
      let spaces : List CopyLine = on-spaces file v.clients.filespaces in
      let held : List CopyLine = on-held file v.clients.filespaces v.clients.held in
      let any : list_any (IsLine k) (spaces ++ held) ≡ true =
      (elim (parted (versions_of v.clients.filespaces) (held_versions v.clients.held) found) as (λ _. list_any (IsLine k) (spaces ++ held) ≡ true) [
        | inl first ↦ any-left (IsLine k) spaces held (spaces-listed v.clients.filespaces first)
        | inr later ↦ any-right (IsLine k) spaces held (held-listed v.clients.filespaces v.clients.held later)
      ]) in
      any-map doomed (λ (d : Doomed). eqb d.object k) (by_object (λ (l : CopyLine). l.object) (on-found file v)) (sorted-any (λ (l : CopyLine). l.object) (IsLine k) (on-found file v) any)

told-list : (file k : ℕ) (w : Version) (v : Inv) (b : Bool) (lines : List CopyLine) → LiesOn file w → (if b then Ok (by_object (λ (l : CopyLine). l.object) (on-found file v)) else Err NotFound) ≡ Ok lines → version k v ≡ Some w → list_any (λ (d : Doomed). eqb d.object k) (map doomed lines) ≡ true
told-list file k w v true lines lying is found =
    let same : by_object (λ (l : CopyLine). l.object) (on-found file v) ≡ lines = cc in
    subst (λ (ls : List CopyLine). list_any (λ (d : Doomed). eqb d.object k) (map doomed ls) ≡ true) same (lies-listed file k w lying v found)
told-list file k w v false lines lying is found = absurd cc

-- an object of which a copy lies on the volume is on the list of what does
pub on-list : (file k : ℕ) (w : Version) (v : Inv) (lines : List CopyLine) → LiesOn file w → on_volume file v ≡ Ok lines → version k v ≡ Some w → list_any (λ (d : Doomed). eqb d.object k) (map doomed lines) ≡ true
on-list file k w v lines lying is found = told-list file k w v (has_volume file v) lines lying is found

-- ---- a volume on which nothing lies

-- no copy lies on the volume
abbrev pub NoneLies : (file : ℕ) → Inv → Type 0
NoneLies file v = (k : ℕ) (w : Version) → version k v ≡ Some w → LiesOn file w → ⊥

none-or : (a b : Bool) → (a || b) ≡ false → (a ≡ false) × (b ≡ false)
none-or true b h = absurd (false≢true (sym h))
none-or false b h = (refl, h)

abbrev Placed : ℕ → ℕ × CopyRow → List (ℕ × Segment)
Placed file e = map (λ s. (e.0, s)) (filter (λ s. s.file == file) e.1.segments)

none-filtered : (file : ℕ) (segments : List Segment) → list_any (λ (s : Segment). s.file == file) segments ≡ false → filter (λ (s : Segment). s.file == file) segments ≡ []
none-filtered file [] h = refl
none-filtered file (s ∷ segments) h =
    let parts = none-or (s.file == file) (list_any (λ (x : Segment). x.file == file) segments) h in
    ap (λ (b : Bool). if b then s ∷ filter (λ (x : Segment). x.file == file) segments else filter (λ (x : Segment). x.file == file) segments) parts.0 ∙ none-filtered file segments parts.1

none-placed : (file object : ℕ) (copies : List CopyRow) → list_any (lies_on file) copies ≡ false → flat_map (Placed file) (map (λ c. (object, c)) copies) ≡ []
none-placed file object [] h = refl
none-placed file object (c ∷ copies) h =
    let parts = none-or (lies_on file c) (list_any (lies_on file) copies) h in
    ap (λ (l : List Segment). map (λ s. (object, s)) l ++ flat_map (Placed file) (map (λ x. (object, x)) copies)) (none-filtered file c.segments parts.0) ∙ none-placed file object copies parts.1

none-there : (file : ℕ) (ws : List Version) → are_distinct ws ≡ true → ((k : ℕ) (w : Version) → version_of k ws ≡ Some w → LiesOn file w → ⊥)
    → flat_map (Placed file) (flat_map (λ (w : Version). map (λ c. (w.object, c)) w.copies) ws) ≡ []
none-there file [] apart none = refl
none-there file (w ∷ ws) apart none =
    let parts = and_parts (list_all (λ (x : Version). not (eqb x.object w.object)) ws) (are_distinct ws) apart in
    let rest : List (ℕ × CopyRow) = flat_map (λ (x : Version). map (λ c. (x.object, c)) x.copies) ws in
    flat_map-append (Placed file) (map (λ c. (w.object, c)) w.copies) rest
    ∙ ap (λ (l : List (ℕ × Segment)). l ++ flat_map (Placed file) rest) (none-placed file w.object w.copies (unlying (list_any (lies_on file) w.copies) refl))
    ∙ none-there file ws parts.1 (λ k x found lying. none k x (later k x found parts.0) lying)
  where
    unlying : (b : Bool) → list_any (lies_on file) w.copies ≡ b → b ≡ false
    unlying false h = refl
    unlying true h = absurd (none w.object w (ap (λ (b : Bool). if b then Some w else version_of w.object ws) (eq-eqb w.object w.object refl)) h)

    later : (k : ℕ) (x : Version) → version_of k ws ≡ Some x → list_all (λ (y : Version). not (eqb y.object w.object)) ws ≡ true → version_of k (w ∷ ws) ≡ Some x
    later k x found all = go (eqb w.object k) refl where
      has-found : (ys : List Version) → version_of k ys ≡ Some x → has_object k ys ≡ true
      has-found [] h = absurd (let odd : None ≡ Some x = h in cc)
      has-found (y ∷ ys) h = elim (eqb y.object k) as (λ b. (if b then Some y else version_of k ys) ≡ Some x → (b || has_object k ys) ≡ true) [
        | true ↦ λ is. refl
        | false ↦ λ is. has-found ys is
      ] h

      go : (b : Bool) → eqb w.object k ≡ b → version_of k (w ∷ ws) ≡ Some x
      go false other = ap (λ (b : Bool). if b then Some w else version_of k ws) other ∙ found
      go true same = absurd (false≢true (sym (apart-after w ws all) ∙ subst (λ (n : ℕ). has_object n ws ≡ true) (sym (eqb-true w.object k same)) (has-found ws found)))

row-tied : (file : ℕ) (v : Inv) (vs : List (ℕ × Volume)) (x : Volume) → AllByRecursion (λ (f : ℕ × Volume). f.1.segments ≡ holding (segments_on f.0 v)) vs → row_at file vs ≡ Some x → x.segments ≡ holding (segments_on file v)
row-tied file v [] x tied at = absurd (let odd : None ≡ Some x = at in cc)
row-tied file v (e ∷ vs) x tied at =
    elim (at_number file e.0) as (λ b. at_number file e.0 ≡ b → cond b (Some e.1) (row_at file vs) ≡ Some x → x.segments ≡ holding (segments_on file v)) [
      | true ↦ λ here is. ap (λ (y : Volume). y.segments) (sym (same_Some e.1 x is)) ∙ tied.0 ∙ ap (λ (n : ℕ). holding (segments_on n v)) (eqb-true e.0 file (sym (at-eqb file e.0) ∙ here))
      | false ↦ λ other is. row-tied file v vs x tied.1 is
    ] refl at

-- its row has no segment
pub none-held : (file : ℕ) (v : Inv) (x : Volume) → are_distinct (versions v) ≡ true → IsTied v → NoneLies file v → row_at file v.stores.volumes ≡ Some x → x.segments ≡ []
none-held file v x apart tied none at = row-tied file v v.stores.volumes x tied at ∙ ap holding (none-there file (versions v) apart none)
