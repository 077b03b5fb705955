-- Copies on a volume, in a valid database: they lie in the volume's pool, of one object at most one does, and each is listed as it is.
use Rattle.std.proofs.Common.{◌≡◌, ℕ, ◌<◌, ◌==◌, nat_le, nat_lt, is_some, Bool, true, false, cond, eqb, not, ◌||◌, ◌&&◌, if◌then◌else◌, List, [], ◌∷◌, ◌++◌, map, Some, None, Ok, Err, refl, sym, ap, subst, ◌∙◌, arith}
use Rattle.std.proofs.lemmas.Bool.{and_parts, eq-eqb, eqb-false, eqb-true, false≢true, ltb-true, ne_eqb, not-false, not-true, or_parts, or_right}
use Rattle.std.proofs.lemmas.Option.{same_Some}
use Rattle.std.specs.List.{AllByRecursion, flat_map, list_all, list_any}
use Rattle.kinds.specs.declared.refusal.Refusal.TheVariants.{NotFound}
use Rattle.kinds.specs.declared.segment.Segment.{Segment}
use Rattle.inventory_rows.specs.object_rows.declared.held_object.HeldRow.{HeldRow}
use Rattle.inventory_rows.specs.object_rows.Filespaces.{versions_in, versions_of}
use Rattle.inventory_rows.specs.object_rows.HeldRows.{held_versions}
use Rattle.inventory_rows.specs.pool_tables.Rows.{row_at}
use Rattle.inventory_rows.specs.version_groups.Copies.{are_by_pool, has_copy}
use Rattle.inventory_rows.specs.version_groups.Versions.{are_distinct, version_of}
use Rattle.inventory_rows.specs.version_groups.declared.copies.CopyRow.{CopyRow}
use Rattle.inventory_rows.specs.version_groups.declared.group.Group.{Group}
use Rattle.inventory_rows.specs.version_groups.declared.groups.Filespace.{Filespace}
use Rattle.inventory_rows.specs.version_groups.declared.versions.Version.{Version}
use Rattle.inventory_rows.specs.volume_rows.declared.volume.Volume.{Volume}
use Rattle.inventory_rows.specs.Search.{copy_in, is_primary, lies_on, pool, version, versions}
use Rattle.inventory_rows.specs.State.{Inv}
use Rattle.inventory_rules.specs.Copies.{lies_elsewhere}
use Rattle.inventory_rules.specs.Valid.{is_copied, is_of_pool, is_valid}
use Rattle.inventory_laws.specs.Kept.{is_cited}
use Rattle.inventory_laws.proofs.Copied.{Own, own_of}
use Rattle.inventory_laws.proofs.CopyLists.{in_pool, sound_by_pool}
use Rattle.inventory_laws.proofs.Facts.{facts_of}
use Rattle.inventory_laws.proofs.Kept.{copies_in}
use Rattle.inventory_laws.proofs.Lists.{all_of}
use Rattle.inventory_laws.proofs.VersionsWhole.{begins}
use Rattle.inventory_laws.proofs.VolumeRows.{list_all-parts}
use Rattle.inventory_work.specs.declared.lines.CopyLine.{CopyLine}
use Rattle.inventory_work.specs.ByObject.{by_object, put_line}
use Rattle.inventory_work.specs.Copies.{copy_line, has_volume, node_of, on_volume}
use Rattle.inventory_work.specs.Lists.{only}
use Rattle.line_results.proofs.Lying.{on-copies, on-found, on-group, on-held, on-space, on-spaces, on-version}

-- ---- lists

all-joined : {A : Type 0} (P : A → Type 0) (xs ys : List A) → AllByRecursion P xs → AllByRecursion P ys → AllByRecursion P (xs ++ ys)
all-joined P [] ys h k = k
all-joined P (x ∷ xs) ys h k = (h.0, all-joined P xs ys h.1 k)

all-front : {A : Type 0} (P : A → Type 0) (xs ys : List A) → AllByRecursion P (xs ++ ys) → AllByRecursion P xs
all-front P [] ys h = tt
all-front P (x ∷ xs) ys h = (h.0, all-front P xs ys h.1)

pub all-back : {A : Type 0} (P : A → Type 0) (xs ys : List A) → AllByRecursion P (xs ++ ys) → AllByRecursion P ys
all-back P [] ys h = h
all-back P (x ∷ xs) ys h = all-back P xs ys h.1

put-all : {A : Type 0} (P : A → Type 0) (f : A → ℕ) (x : A) (xs : List A) → P x → AllByRecursion P xs → AllByRecursion P (put_line f x xs)
put-all P f x [] h all = (h, tt)
put-all P f x (o ∷ xs) h all = elim (nat_le (f x) (f o)) as (λ b. AllByRecursion P (if b then x ∷ o ∷ xs else o ∷ put_line f x xs)) [
  | true ↦ (h, all)
  | false ↦ (all.0, put-all P f x xs h all.1)
]

sorted-all : {A : Type 0} (P : A → Type 0) (f : A → ℕ) (xs : List A) → AllByRecursion P xs → AllByRecursion P (by_object f xs)
sorted-all P f [] all = tt
sorted-all P f (x ∷ xs) all = put-all P f x (by_object f xs) all.0 (sorted-all P f xs all.1)

-- ---- the copies of an object

-- those that lie on the volume lie in this pool
abbrev pub AreInPool : (file pool : ℕ) → List CopyRow → Type 0
AreInPool file pool copies = AllByRecursion (λ (c : CopyRow). lies_on file c ≡ true → c.pool ≡ pool) copies

segments-of : (file number : ℕ) (volumes : List (ℕ × Volume)) (x : Volume) (segments : List Segment) → row_at file volumes ≡ Some x → list_all (λ (s : Segment). is_of_pool number (row_at s.file volumes)) segments ≡ true
    → list_any (λ (s : Segment). s.file == file) segments ≡ true → number ≡ x.pool
segments-of file number volumes x [] at cites any = absurd (false≢true any)
segments-of file number volumes x (s ∷ segments) at cites any =
    let parts = and_parts (is_of_pool number (row_at s.file volumes)) (list_all (λ (y : Segment). is_of_pool number (row_at y.file volumes)) segments) cites in
    elim (eqb s.file file) as (λ b. eqb s.file file ≡ b → (b || list_any (λ (y : Segment). y.file == file) segments) ≡ true → number ≡ x.pool) [
      | true ↦ λ same t.
          (let here : is_of_pool number (row_at file volumes) ≡ true = subst (λ (n : ℕ). is_of_pool number (row_at n volumes) ≡ true) (eqb-true s.file file same) parts.0 in
          sym (eqb-true x.pool number (sym (ap (is_of_pool number) at) ∙ here)))
      | false ↦ λ other t. segments-of file number volumes x segments at parts.1 t
    ] refl any

cited-copies : (file object : ℕ) (v : Inv) (x : Volume) (copies : List CopyRow) → row_at file v.stores.volumes ≡ Some x → list_all (is_cited v) (map (λ (c : CopyRow). (object, c)) copies) ≡ true → AreInPool file x.pool copies
cited-copies file object v x [] at cites = tt
cited-copies file object v x (c ∷ copies) at cites =
    let parts = and_parts (is_cited v (object, c)) (list_all (is_cited v) (map (λ (d : CopyRow). (object, d)) copies)) cites in
    let its = and_parts (is_some (pool c.pool v)) (list_all (λ (s : Segment). is_of_pool c.pool (row_at s.file v.stores.volumes)) c.segments) parts.0 in
    ((λ lies. segments-of file c.pool v.stores.volumes x c.segments at its.1 lies), cited-copies file object v x copies at parts.1)

-- what holds of the copies of all objects holds of those of one
copies-found : (p : ℕ × CopyRow → Bool) (k : ℕ) (ws : List Version) (w : Version) → list_all p (copies_in ws) ≡ true → version_of k ws ≡ Some w → list_all p (map (λ (c : CopyRow). (w.object, c)) w.copies) ≡ true
copies-found p k [] w all found = absurd (let odd : None ≡ Some w = found in cc)
copies-found p k (x ∷ ws) w all found =
    let parts = list_all-parts p (map (λ (c : CopyRow). (x.object, c)) x.copies) (copies_in ws) all in
    elim (eqb x.object k) as (λ b. (if b then Some x else version_of k ws) ≡ Some w → list_all p (map (λ (c : CopyRow). (w.object, c)) w.copies) ≡ true) [
      | true ↦ λ is. subst (λ (y : Version). list_all p (map (λ (c : CopyRow). (y.object, c)) y.copies) ≡ true) (same_Some x w is) parts.0
      | false ↦ λ is. copies-found p k ws w parts.1 is
    ] found

pub in-its-pool : (file k : ℕ) (v : Inv) (x : Volume) (w : Version) → is_valid v ≡ true → row_at file v.stores.volumes ≡ Some x → version k v ≡ Some w → AreInPool file x.pool w.copies
in-its-pool file k v x w valid at found = cited-copies file w.object v x w.copies at (copies-found (is_cited v) k (versions v) w (facts_of v valid).copies_cite found)

-- so one of them lies in that pool where one lies on the volume
pub has-there : (file number : ℕ) (copies : List CopyRow) → AreInPool file number copies → list_any (lies_on file) copies ≡ true → has_copy number copies ≡ true
has-there file number [] all any = any
has-there file number (c ∷ copies) all any =
    elim (lies_on file c) as (λ b. lies_on file c ≡ b → (b || list_any (lies_on file) copies) ≡ true → (eqb c.pool number || has_copy number copies) ≡ true) [
      | true ↦ λ lies t. ap (λ (b : Bool). b || has_copy number copies) (eq-eqb c.pool number (all.0 lies))
      | false ↦ λ other t. or_right (eqb c.pool number) (has_copy number copies) (has-there file number copies all.1 t)
    ] refl any

-- and where that is a primary pool the object's primary copy lies there
pub primary-there : (file number : ℕ) (v : Inv) (copies : List CopyRow) → is_primary number v ≡ true → AreInPool file number copies → list_any (lies_on file) copies ≡ true
    → list_any (λ (c : CopyRow). is_primary c.pool v && lies_on file c) copies ≡ true
primary-there file number v [] primary all any = any
primary-there file number v (c ∷ copies) primary all any =
    let more : Bool = list_any (λ (d : CopyRow). is_primary d.pool v && lies_on file d) copies in
    elim (lies_on file c) as (λ b. lies_on file c ≡ b → (b || list_any (lies_on file) copies) ≡ true → ((is_primary c.pool v && b) || more) ≡ true) [
      | true ↦ λ lies t. ap (λ (b : Bool). (b && true) || more) (ap (λ (n : ℕ). is_primary n v) (all.0 lies) ∙ primary)
      | false ↦ λ other t. or_right (is_primary c.pool v && false) more (primary-there file number v copies primary all.1 t)
    ] refl any

own : (k : ℕ) (v : Inv) (w : Version) → is_valid v ≡ true → version k v ≡ Some w → Own v.number v w
own k v w valid found = own_of v.number k v w (begins v (facts_of v valid)) found

pub by-pool : (k : ℕ) (v : Inv) (w : Version) → is_valid v ≡ true → version k v ≡ Some w → are_by_pool w.copies ≡ true
by-pool k v w valid found = sound_by_pool (λ (c : CopyRow). is_primary c.pool v) w.size w.copies (own k v w valid found).copied

-- where none lies in another pool, there is one copy: so all of them lie on the volume where one does
pub all-there : (file number : ℕ) (copies : List CopyRow) → are_by_pool copies ≡ true → lies_elsewhere number copies ≡ false → list_any (lies_on file) copies ≡ true → list_all (lies_on file) copies ≡ true
all-there file number [] ordered none any = refl
all-there file number (c ∷ []) ordered none any = elim (lies_on file c) as (λ b. (b || false) ≡ true → (b && true) ≡ true) [ true ↦ λ t. refl | false ↦ λ t. absurd (false≢true t) ] any
all-there file number (c ∷ d ∷ copies) ordered none any =
    let one = or_parts (not (eqb c.pool number)) (not (eqb d.pool number) || lies_elsewhere number copies) none in
    let two = or_parts (not (eqb d.pool number)) (lies_elsewhere number copies) one.1 in
    let first : c.pool ≡ number = eqb-true c.pool number (not-false (eqb c.pool number) one.0) in
    let second : d.pool ≡ number = eqb-true d.pool number (not-false (eqb d.pool number) two.0) in
    let later = and_parts (list_all (λ (e : CopyRow). nat_lt c.pool e.pool) (d ∷ copies)) (are_by_pool (d ∷ copies)) ordered in
    let less : c.pool < d.pool = ltb-true c.pool d.pool (and_parts (nat_lt c.pool d.pool) (list_all (λ (e : CopyRow). nat_lt c.pool e.pool) copies) later.0).0 in
    absurd (omega (arith, first, second, less))

-- ---- a copy is found in its pool, and a version by its number

further : (c : CopyRow) (copies ds : List CopyRow) → list_all (λ (d : CopyRow). nat_lt c.pool d.pool) ds ≡ true → AllByRecursion (λ (d : CopyRow). in_pool d.pool copies ≡ Some d) ds → AllByRecursion (λ (d : CopyRow). in_pool d.pool (c ∷ copies) ≡ Some d) ds
further c copies [] later all = tt
further c copies (d ∷ ds) later all =
    let parts = and_parts (nat_lt c.pool d.pool) (list_all (λ (e : CopyRow). nat_lt c.pool e.pool) ds) later in
    let less : c.pool < d.pool = ltb-true c.pool d.pool parts.0 in
    let other : eqb c.pool d.pool ≡ false = ne_eqb c.pool d.pool (λ same. omega (arith, same, less)) in
    (ap (λ (b : Bool). cond b (Some c) (in_pool d.pool copies)) other ∙ all.0, further c copies ds parts.1 all.1)

each-found : (copies : List CopyRow) → are_by_pool copies ≡ true → AllByRecursion (λ (c : CopyRow). in_pool c.pool copies ≡ Some c) copies
each-found [] ordered = tt
each-found (c ∷ copies) ordered =
    let parts = and_parts (list_all (λ (d : CopyRow). nat_lt c.pool d.pool) copies) (are_by_pool copies) ordered in
    (ap (λ (b : Bool). cond b (Some c) (in_pool c.pool copies)) (eq-eqb c.pool c.pool refl), further c copies copies parts.0 (each-found copies parts.1))

-- what is found is among them, and in the pool
pub found-among : (P : CopyRow → Type 0) (number : ℕ) (copies : List CopyRow) (c : CopyRow) → in_pool number copies ≡ Some c → AllByRecursion P copies → P c × (c.pool ≡ number)
found-among P number [] c found all = absurd (let odd : None ≡ Some c = found in cc)
found-among P number (d ∷ copies) c found all =
    elim (eqb d.pool number) as (λ b. eqb d.pool number ≡ b → cond b (Some d) (in_pool number copies) ≡ Some c → P c × (c.pool ≡ number)) [
      | true ↦ λ same is. subst (λ (e : CopyRow). P e × (e.pool ≡ number)) (same_Some d c is) (all.0, eqb-true d.pool number same)
      | false ↦ λ other is. found-among P number copies c is all.1
    ] refl found

behind : (w : Version) (ws xs : List Version) → list_all (λ (x : Version). not (eqb x.object w.object)) xs ≡ true → AllByRecursion (λ (x : Version). version_of x.object ws ≡ Some x) xs → AllByRecursion (λ (x : Version). version_of x.object (w ∷ ws) ≡ Some x) xs
behind w ws [] apart all = tt
behind w ws (x ∷ xs) apart all =
    let parts = and_parts (not (eqb x.object w.object)) (list_all (λ (y : Version). not (eqb y.object w.object)) xs) apart in
    let other : eqb w.object x.object ≡ false = ne_eqb w.object x.object (λ same. eqb-false x.object w.object (not-true (eqb x.object w.object) parts.0) (sym same)) in
    (ap (λ (b : Bool). if b then Some w else version_of x.object ws) other ∙ all.0, behind w ws xs parts.1 all.1)

each-version : (ws : List Version) → are_distinct ws ≡ true → AllByRecursion (λ (x : Version). version_of x.object ws ≡ Some x) ws
each-version [] apart = tt
each-version (w ∷ ws) apart =
    let parts = and_parts (list_all (λ (x : Version). not (eqb x.object w.object)) ws) (are_distinct ws) apart in
    (ap (λ (b : Bool). if b then Some w else version_of w.object ws) (eq-eqb w.object w.object refl), behind w ws ws parts.0 (each-version ws parts.1))

-- ---- what is listed

-- The line is of a copy of what is kept of its object, which is in the pool and of the transaction that it names, and lies on the volume.
pub record IsOf (file : ℕ) (v : Inv) (line : CopyLine) : Type 0 where
  pub object : Version
  pub found : version line.object v ≡ Some object
  pub copy : CopyRow
  pub there : copy_in line.pool object ≡ Some copy
  pub placed : copy.placed ≡ line.placed
  pub lies : lies_on file copy ≡ true

module _ (file : ℕ) (v : Inv) where
  -- a version that is found by its number, with copies that are found by their pools
  abbrev IsFound : Version → Type 0
  IsFound x = (version x.object v ≡ Some x) × AllByRecursion (λ (c : CopyRow). in_pool c.pool x.copies ≡ Some c) x.copies

  copies-listed : (node : ℕ) (x : Version) (copies : List CopyRow) → version x.object v ≡ Some x → AllByRecursion (λ (c : CopyRow). in_pool c.pool x.copies ≡ Some c) copies → AllByRecursion (IsOf file v) (flat_map (on-copies file node x) copies)
  copies-listed node x [] found all = tt
  copies-listed node x (c ∷ copies) found all =
      all-joined (IsOf file v) (only (lies_on file c) (copy_line node x c)) (flat_map (on-copies file node x) copies) (one (lies_on file c) refl) (copies-listed node x copies found all.1)
    where
      one : (b : Bool) → lies_on file c ≡ b → AllByRecursion (IsOf file v) (only b (copy_line node x c))
      one false other = tt
      one true lies = (record { object = x; found = found; copy = c; there = all.0; placed = refl; lies = lies }, tt)

  versions-listed : (node : ℕ) (ws : List Version) → AllByRecursion IsFound ws → AllByRecursion (IsOf file v) (flat_map (on-version file node) ws)
  versions-listed node [] all = tt
  versions-listed node (x ∷ ws) all = all-joined (IsOf file v) (on-version file node x) (flat_map (on-version file node) ws) (copies-listed node x x.copies all.0.0 all.0.1) (versions-listed node ws all.1)

  groups-listed : (node : ℕ) (gs : List (List ℕ × Group)) → AllByRecursion IsFound (versions_in gs) → AllByRecursion (IsOf file v) (flat_map (λ (g : List ℕ × Group). on-group file node g.1) gs)
  groups-listed node [] all = tt
  groups-listed node (g ∷ gs) all =
      all-joined (IsOf file v) (on-group file node g.1) (flat_map (λ (h : List ℕ × Group). on-group file node h.1) gs) (versions-listed node g.1.versions (all-front IsFound g.1.versions (versions_in gs) all))
      (groups-listed node gs (all-back IsFound g.1.versions (versions_in gs) all))

  spaces-listed : (fs : List (ℕ × Filespace)) → AllByRecursion IsFound (versions_of fs) → AllByRecursion (IsOf file v) (on-spaces file fs)
  spaces-listed [] all = tt
  spaces-listed (f ∷ fs) all =
      all-joined (IsOf file v) (on-space file f.1) (on-spaces file fs) (groups-listed f.1.node f.1.groups (all-front IsFound (versions_in f.1.groups) (versions_of fs) all))
      (spaces-listed fs (all-back IsFound (versions_in f.1.groups) (versions_of fs) all))

  held-listed : (fs : List (ℕ × Filespace)) (held : List (ℕ × HeldRow)) → AllByRecursion IsFound (held_versions held) → AllByRecursion (IsOf file v) (on-held file fs held)
  held-listed fs [] all = tt
  held-listed fs (h ∷ held) all =
      all-joined (IsOf file v) (on-version file (node_of h.1.filespace fs) h.1.held.version) (on-held file fs held)
      (copies-listed (node_of h.1.filespace fs) h.1.held.version h.1.held.version.copies all.0.0 all.0.1) (held-listed fs held all.1)

  both-found : (ws : List Version) → AllByRecursion (λ (x : Version). version x.object v ≡ Some x) ws → AllByRecursion (λ (x : Version). is_copied v x ≡ true) ws → AllByRecursion IsFound ws
  both-found [] found copied = tt
  both-found (x ∷ ws) found copied =
      ((found.0, each-found x.copies (sound_by_pool (λ (c : CopyRow). is_primary c.pool v) x.size x.copies copied.0)), both-found ws found.1 copied.1)

  -- each line of a volume is so
  pub are-listed : (lines : List CopyLine) → is_valid v ≡ true → on_volume file v ≡ Ok lines → AllByRecursion (IsOf file v) lines
  are-listed lines valid told = by (has_volume file v) told where
    all : AllByRecursion (IsOf file v) (by_object (λ (l : CopyLine). l.object) (on-found file v))
    all =
        let found : AllByRecursion IsFound (versions v) = both-found (versions v) (each-version (versions v) (facts_of v valid).objects_apart) (all_of (is_copied v) (versions v) (facts_of v valid).versions_copied) in
        sorted-all (IsOf file v) (λ (l : CopyLine). l.object) (on-found file v)
        (all-joined (IsOf file v) (on-spaces file v.clients.filespaces) (on-held file v.clients.filespaces v.clients.held)
        (spaces-listed v.clients.filespaces (all-front IsFound (versions_of v.clients.filespaces) (held_versions v.clients.held) found))
        (held-listed v.clients.filespaces v.clients.held (all-back IsFound (versions_of v.clients.filespaces) (held_versions v.clients.held) found)))

    by : (b : Bool) → (if b then Ok (by_object (λ (l : CopyLine). l.object) (on-found file v)) else Err NotFound) ≡ Ok lines → AllByRecursion (IsOf file v) lines
    by true is = (let same : by_object (λ (l : CopyLine). l.object) (on-found file v) ≡ lines = cc in subst (AllByRecursion (IsOf file v)) same all)
    by false is = absurd cc

  -- its pool is the volume's, and is there
  pub line-pool : (line : CopyLine) (x : Volume) → is_valid v ≡ true → row_at file v.stores.volumes ≡ Some x → IsOf file v line → (line.pool ≡ x.pool) × (is_some (pool line.pool v) ≡ true)
  line-pool line x valid at l =
      let in_it = found-among (λ (c : CopyRow). lies_on file c ≡ true → c.pool ≡ x.pool) line.pool l.object.copies l.copy l.there (in-its-pool file line.object v x l.object valid at l.found) in
      let is_there = found-among (λ (c : CopyRow). is_some (pool c.pool v) ≡ true) line.pool l.object.copies l.copy l.there
      (all_of (λ (c : CopyRow). is_some (pool c.pool v)) l.object.copies (own line.object v l.object valid l.found).in_pools) in
      (sym in_it.1 ∙ in_it.0 l.lies, subst (λ (n : ℕ). is_some (pool n v) ≡ true) is_there.1 is_there.0)
