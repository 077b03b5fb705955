-- What the transactions leave by which copies are made or moved: the storage pools, and which objects are kept.
use Rattle.std.proofs.Common.{◌≡◌, inl, inr, ℕ, ◌==◌, is_some, Bool, true, false, if◌then◌else◌, List, [], ◌∷◌, ◌++◌, map, Some, refl, sym, ap, ◌∙◌}
use Rattle.entries.specs.declared.change.Change.{Change}
use Rattle.entries.specs.declared.change.Change.TheVariants as change
use Rattle.entries.specs.declared.entry.Entry.{Entry}
use Rattle.inventory_rows.specs.object_rows.declared.held_object.HeldRow.{HeldRow}
use Rattle.inventory_rows.specs.object_rows.Filespaces.{versions_in, versions_of}
use Rattle.inventory_rows.specs.object_rows.HeldRows.{held_versions}
use Rattle.inventory_rows.specs.object_rows.Rows.{Rows, kept_of}
use Rattle.inventory_rows.specs.version_groups.declared.group.Group.{Group}
use Rattle.inventory_rows.specs.version_groups.declared.groups.Filespace.{Filespace}
use Rattle.inventory_rows.specs.version_groups.declared.versions.Version.{Version}
use Rattle.inventory_rows.specs.version_groups.Versions.{version_of}
use Rattle.inventory_rows.specs.Search.{version}
use Rattle.inventory_rows.specs.State.{Inv}
use Rattle.inventory_rules.specs.Kept.{Kept, bare, bare_group, bare_held, bare_rows, kept, kept_after, without_copies}
use Rattle.inventory_rules.specs.Transactions.{effect}
use Rattle.inventory_rules.proofs.KeptLaws.{effect-kept}
use Rattle.inventory_rules.proofs.Touched.{effect-data}
use Rattle.machine.specs.State.{Machine, after, inventory}
use Rattle.machine.proofs.Histories.{after-append}
use Rattle.line_results.proofs.Copying.{IsCopy, MayJoin}
use Rattle.line_results.proofs.Trying.{NoOther}
use Rattle.line_results.proofs.Walking.{AreOf, Grew}

-- ---- one transaction

pools-left : (moves : Bool) (c : Change) (v : Inv) → IsCopy moves c → (effect c v).stores.pools ≡ v.stores.pools
pools-left true c v (scratch, items, is) = ap (λ (x : Change). (effect x v).stores.pools) is ∙ (effect-data (change.Move (record { scratch = scratch; items = items })) v refl).pools
pools-left false c v (scratch, items, is) = ap (λ (x : Change). (effect x v).stores.pools) is ∙ (effect-data (change.Copy (record { scratch = scratch; items = items })) v refl).pools

kept-left : (moves : Bool) (c : Change) (v : Inv) → IsCopy moves c → kept (effect c v) ≡ kept v
unfolding kept_after
kept-left true c v (scratch, items, is) = ap (λ (x : Change). kept (effect x v)) is ∙ effect-kept (change.Move (record { scratch = scratch; items = items })) v
kept-left false c v (scratch, items, is) = ap (λ (x : Change). kept (effect x v)) is ∙ effect-kept (change.Copy (record { scratch = scratch; items = items })) v

-- ---- objects that are kept

map-both : (xs ys : List Version) → map without_copies (xs ++ ys) ≡ map without_copies xs ++ map without_copies ys
map-both [] ys = refl
map-both (x ∷ xs) ys = ap (λ (l : List Version). without_copies x ∷ l) (map-both xs ys)

bare-in : (groups : List (List ℕ × Group)) → versions_in (map (λ (g : List ℕ × Group). (g.0, bare_group g.1)) groups) ≡ map without_copies (versions_in groups)
bare-in [] = refl
bare-in (g ∷ groups) = ap (λ (l : List Version). map without_copies g.1.versions ++ l) (bare-in groups) ∙ sym (map-both g.1.versions (versions_in groups))

bare-of : (filespaces : List (ℕ × Filespace)) → versions_of (bare filespaces) ≡ map without_copies (versions_of filespaces)
bare-of [] = refl
bare-of (f ∷ filespaces) =
    ap (λ (l : List Version). l ++ versions_of (bare filespaces)) (bare-in f.1.groups) ∙ ap (λ (l : List Version). map without_copies (versions_in f.1.groups) ++ l) (bare-of filespaces)
    ∙ sym (map-both (versions_in f.1.groups) (versions_of filespaces))

bare-held-of : (held : List (ℕ × HeldRow)) → held_versions (bare_held held) ≡ map without_copies (held_versions held)
bare-held-of [] = refl
bare-held-of (h ∷ held) = ap (λ (l : List Version). without_copies h.1.held.version ∷ l) (bare-held-of held)

bare-all : (rows : Rows) → kept_of (bare_rows rows) ≡ map without_copies (kept_of rows)
bare-all rows =
    ap (λ (l : List Version). l ++ held_versions (bare_held rows.held)) (bare-of rows.filespaces) ∙ ap (λ (l : List Version). map without_copies (versions_of rows.filespaces) ++ l) (bare-held-of rows.held)
    ∙ sym (map-both (versions_of rows.filespaces) (held_versions rows.held))

bare-there : (object : ℕ) (vs : List Version) → is_some (version_of object (map without_copies vs)) ≡ is_some (version_of object vs)
bare-there object [] = refl
bare-there object (w ∷ vs) =
    elim (w.object == object) as (λ b. is_some (if b then Some (without_copies w) else version_of object (map without_copies vs)) ≡ is_some (if b then Some w else version_of object vs)) [
      | true ↦ refl
      | false ↦ bare-there object vs
    ]

-- whether an object is kept, by what is kept
there-by : (object : ℕ) (v : Inv) → is_some (version_of object (kept_of (kept v).clients)) ≡ is_some (version object v)
there-by object v = ap (λ (l : List Version). is_some (version_of object l)) (bare-all v.clients) ∙ bare-there object (kept_of v.clients)

there-left : (moves : Bool) (object : ℕ) (c : Change) (v : Inv) → IsCopy moves c → is_some (version object (effect c v)) ≡ is_some (version object v)
there-left moves object c v copies =
    sym (there-by object (effect c v)) ∙ ap (λ (k : Kept). is_some (version_of object (kept_of k.clients))) (kept-left moves c v copies) ∙ there-by object v

-- ---- several

abbrev AreCopies : (moves : Bool) → List Entry → Type 0
AreCopies moves entries = AreOf (MayJoin moves NoOther) entries

is-copy : (moves : Bool) (c : Change) → MayJoin moves NoOther c → IsCopy moves c
is-copy moves c (inl h) = h
is-copy moves c (inr h) = absurd h

pools-stay : (moves : Bool) (v : Inv) (entries : List Entry) → AreCopies moves entries → (after v entries).stores.pools ≡ v.stores.pools
pools-stay moves v [] h = refl
pools-stay moves v (e ∷ entries) h = pools-stay moves (effect e.change v) entries h.1 ∙ pools-left moves e.change v (is-copy moves e.change h.0.1)

there-stay : (moves : Bool) (object : ℕ) (v : Inv) (entries : List Entry) → AreCopies moves entries → is_some (version object (after v entries)) ≡ is_some (version object v)
there-stay moves object v [] h = refl
there-stay moves object v (e ∷ entries) h = there-stay moves object (effect e.change v) entries h.1 ∙ there-left moves object e.change v (is-copy moves e.change h.0.1)

-- ---- over steps

made-after : (moves : Bool) (more : List Entry) (old m : Machine) → Grew (MayJoin moves NoOther) [] more old m → inventory m.core ≡ after (inventory old.core) more
made-after moves more old m g =
    ap (λ (v : Inv). after v m.core.journal) g.core.base ∙ ap (λ (l : List Entry). after old.core.base l) g.core.journal ∙ after-append old.core.base old.core.journal more

pub grew-pools : (moves : Bool) (more : List Entry) (old m : Machine) → Grew (MayJoin moves NoOther) [] more old m → (inventory m.core).stores.pools ≡ (inventory old.core).stores.pools
grew-pools moves more old m g = ap (λ (v : Inv). v.stores.pools) (made-after moves more old m g) ∙ pools-stay moves (inventory old.core) more g.are

pub grew-there : (moves : Bool) (object : ℕ) (more : List Entry) (old m : Machine) → Grew (MayJoin moves NoOther) [] more old m → is_some (version object (inventory m.core)) ≡ is_some (version object (inventory old.core))
grew-there moves object more old m g = ap (λ (v : Inv). is_some (version object v)) (made-after moves more old m g) ∙ there-stay moves object (inventory old.core) more g.are
