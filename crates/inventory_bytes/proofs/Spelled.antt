-- What the volumes hold and the numbers of the held objects are neither in the bytes of a database nor in what makes its parts sound.
use Rattle.std.proofs.Common.{◌≡◌, ℕ, true, cond, ◌&&◌, List, [], ◌∷◌, ◌++◌, map, length, Option, Some, is_none, refl, sym, ap, ◌∙◌}
use Rattle.std.specs.Int.{w32, w64, to_be_bytes}
use Rattle.std.specs.List.{flat_map, AllByRecursion}
use Rattle.std.specs.Prelude.{◌==◌}
use Rattle.std.proofs.lemmas.Bool.{and_parts, eq-eqb, eqb-true}
use Rattle.std.proofs.lemmas.List.{length-map}
use Rattle.std.proofs.lemmas.Option.{same_Some}
use Rattle.fields.specs.Editions.{Edition, first_form, second_form}
use Rattle.fields.specs.Forms.{number, pair}
use Rattle.inventory_rows.specs.object_rows.declared.held_object.HeldRow.{HeldRow}
use Rattle.inventory_rows.specs.object_rows.HeldRows.{are_held_rows, is_held_row}
use Rattle.inventory_rows.specs.volume_rows.declared.held.HeldSegment.{HeldSegment}
use Rattle.inventory_rows.specs.volume_rows.declared.volume.Volume.{Volume}
use Rattle.inventory_rows.specs.pool_tables.Counted.{are_sound}
use Rattle.inventory_rows.specs.pool_tables.Names.{row_named, are_apart}
use Rattle.kinds.specs.Names.{is_same_name}
use Rattle.inventory_rows.specs.pool_tables.Scratch.{volume_name, is_rightly_named, are_rightly_named}
use Rattle.inventory_rows.specs.pool_rows.PoolRows.{PoolRows}
use Rattle.inventory_bytes.specs.ClientForms.{held, held_row, held_with, held_fields}
use Rattle.inventory_bytes.specs.PolicyForms.{domains}
use Rattle.inventory_bytes.specs.StoreForms.{classes, pools, volumes, volume_row, volume_with, volume_fields, backups}
use Rattle.inventory_rows.specs.State.{Inv}
use Rattle.inventory_bytes.specs.Payload.{payload, mark, numbers, numbers_of, clients, held_objects, stores, unheld, unheld_volumes, with_number, unnumbered, numbered}
use Rattle.inventory_bytes.specs.Segments.{with_held, with_volumes}

-- ---- the bytes of the volumes

module _ (change : ℕ → List (HeldSegment × ℕ) → List (HeldSegment × ℕ)) where
  row_spelled : (v : Volume) (segments : List (HeldSegment × ℕ)) → volume_row.spell (record v { segments = segments }) ≡ volume_row.spell v
  unfolding volume_row
  row_spelled v segments = refl

  rows_spelled : (vs : List (ℕ × Volume)) → flat_map (pair (number w32) volume_row).spell (with_held change vs) ≡ flat_map (pair (number w32) volume_row).spell vs
  rows_spelled [] = refl
  rows_spelled (v ∷ vs) =
      ap (λ (bytes : List ℕ). (to_be_bytes w32 v.0 ++ bytes) ++ flat_map (pair (number w32) volume_row).spell (with_held change vs)) (row_spelled v.1 (change v.0 v.1.segments))
      ∙ ap (λ (bytes : List ℕ). (to_be_bytes w32 v.0 ++ volume_row.spell v.1) ++ bytes) (rows_spelled vs)

  volumes_spelled : (vs : List (ℕ × Volume)) → volumes.spell (with_held change vs) ≡ volumes.spell vs
  volumes_spelled vs =
      ap (λ n. to_be_bytes w32 n ++ flat_map (pair (number w32) volume_row).spell (with_held change vs)) (length-map vs (λ (f : ℕ × Volume). (f.0, record f.1 { segments = change f.0 f.1.segments })))
      ∙ ap (λ (bytes : List ℕ). to_be_bytes w32 (length vs) ++ bytes) (rows_spelled vs)

  stores_spelled : (e : Edition) (s : PoolRows) → (stores e).spell (record s { volumes = with_held change s.volumes }) ≡ (stores e).spell s
  unfolding stores
  stores_spelled e s = ap (λ (bytes : List ℕ). classes.spell s.classes ++ ((pools e).spell s.pools ++ bytes)) (volumes_spelled s.volumes)

  -- ---- the names

  named-held : (name : List ℕ) (vs : List (ℕ × Volume)) → row_named volume_name name (with_held change vs) ≡ row_named volume_name name vs
  named-held name [] = refl
  named-held name (v ∷ vs) = ap (λ (o : Option ℕ). cond (is_same_name v.1.name name) (Some v.0) o) (named-held name vs)

  apart-held : (vs : List (ℕ × Volume)) → are_apart volume_name (with_held change vs) ≡ are_apart volume_name vs
  apart-held [] = refl
  apart-held (v ∷ vs) =
      ap (λ (o : Option ℕ). is_none o && are_apart volume_name (with_held change vs)) (named-held v.1.name vs)
      ∙ ap (λ b. is_none (row_named volume_name v.1.name vs) && b) (apart-held vs)

  rightly-held : (vs : List (ℕ × Volume)) → are_rightly_named (with_held change vs) ≡ are_rightly_named vs
  rightly-held [] = refl
  rightly-held (v ∷ vs) = ap (λ b. is_rightly_named v.0 v.1 && b) (rightly-held vs)

  pub sound-held : (vs : List (ℕ × Volume)) → are_sound (with_held change vs) ≡ are_sound vs
  sound-held vs = ap (λ b. b && are_rightly_named (with_held change vs)) (apart-held vs) ∙ ap (λ b. are_apart volume_name vs && b) (rightly-held vs)

-- ---- the bytes of the held objects

module _ (number_at : ℕ → ℕ) where
  -- the held objects with these numbers
  abbrev renumbered : List (ℕ × HeldRow) → List (ℕ × HeldRow)
  renumbered hs = map (λ h. (h.0, with_number (number_at h.0) h.1)) hs

  held_row_spelled : (object : ℕ) (row : HeldRow) → held_row.spell (with_number object row) ≡ held_row.spell row
  unfolding held_row
  held_row_spelled object row = refl

  held_rows_spelled : (hs : List (ℕ × HeldRow)) → flat_map (pair (number w64) held_row).spell (renumbered hs) ≡ flat_map (pair (number w64) held_row).spell hs
  held_rows_spelled [] = refl
  held_rows_spelled (h ∷ hs) =
      ap (λ (bytes : List ℕ). (to_be_bytes w64 h.0 ++ bytes) ++ flat_map (pair (number w64) held_row).spell (renumbered hs)) (held_row_spelled (number_at h.0) h.1)
      ∙ ap (λ (bytes : List ℕ). (to_be_bytes w64 h.0 ++ held_row.spell h.1) ++ bytes) (held_rows_spelled hs)

  held_spelled : (hs : List (ℕ × HeldRow)) → held.spell (renumbered hs) ≡ held.spell hs
  held_spelled hs =
      ap (λ n. to_be_bytes w32 n ++ flat_map (pair (number w64) held_row).spell (renumbered hs)) (length-map hs (λ (h : ℕ × HeldRow). (h.0, with_number (number_at h.0) h.1)))
      ∙ ap (λ (bytes : List ℕ). to_be_bytes w32 (length hs) ++ bytes) (held_rows_spelled hs)

  held_objects_spelled : (e : Edition) (hs : List (ℕ × HeldRow)) → (held_objects e).spell (renumbered hs) ≡ (held_objects e).spell hs
  unfolding held_objects
  held_objects_spelled first_form hs = refl
  held_objects_spelled second_form hs = held_spelled hs

-- ---- the bytes of the database

-- the database with other segments on its volumes, and with these numbers of its held objects
abbrev pub changed : (ℕ → List (HeldSegment × ℕ) → List (HeldSegment × ℕ)) → (ℕ → ℕ) → Inv → Inv
changed change number_at v = with_volumes (with_held change v.stores.volumes) (record v { clients = record v.clients { held = renumbered number_at v.clients.held } })

-- the bytes of the database with these ones of its stores and of its held objects
abbrev framed : Edition → Inv → List ℕ → List ℕ → List ℕ
framed e v stored last = mark e ∷ (numbers.spell (numbers_of v) ++ ((domains e).spell v.domains ++ ((clients e).spell (v.clients.nodes, v.clients.filespaces) ++ (stored ++ ((backups e).spell v.backups ++ last)))))

pub spelled : (change : ℕ → List (HeldSegment × ℕ) → List (HeldSegment × ℕ)) (number_at : ℕ → ℕ) (e : Edition) (v : Inv) → (payload e).spell (changed change number_at v) ≡ (payload e).spell v
unfolding payload
spelled change number_at e v =
    ap (λ (bytes : List ℕ). framed e v bytes ((held_objects e).spell (renumbered number_at v.clients.held))) (stores_spelled change e v.stores)
    ∙ ap (framed e v ((stores e).spell v.stores)) (held_objects_spelled number_at e v.clients.held)

pub unheld_spelled : (e : Edition) (v : Inv) → (payload e).spell (unheld v) ≡ (payload e).spell v
unheld_spelled e v = spelled (λ _ _. []) (λ _. 0) e v

-- ---- volumes as they are read hold nothing

bare_row : (v : Volume) → volume_row.Fits v → v.segments ≡ []
unfolding volume_row
bare_row v fits = sym (ap (λ (w : Volume). w.segments) (same_Some (volume_with (volume_fields v)) v fits.1))

bare_rows : (vs : List (ℕ × Volume)) → AllByRecursion (pair (number w32) volume_row).Fits vs → AllByRecursion (λ f. f.1.segments ≡ []) vs
bare_rows [] fit = tt
bare_rows (v ∷ vs) fit = (bare_row v.1 fit.0.1, bare_rows vs fit.1)

bare_stores : (e : Edition) (s : PoolRows) → (stores e).Fits s → AllByRecursion (λ f. f.1.segments ≡ []) s.volumes
unfolding stores
bare_stores e s fits = bare_rows s.volumes fits.1.1.0.2

pub bare : (e : Edition) (v : Inv) → (payload e).Fits v → AllByRecursion (λ f. f.1.segments ≡ []) v.stores.volumes
unfolding payload
bare e v fits = bare_stores e v.stores fits.1.1.1.1.0

pub unheld-bare : (vs : List (ℕ × Volume)) → AllByRecursion (λ f. f.1.segments ≡ []) vs → unheld_volumes vs ≡ vs
unheld-bare [] none = refl
unheld-bare (v ∷ vs) none =
    ap (λ (segments : List (HeldSegment × ℕ)). (v.0, record v.1 { segments = segments }) ∷ unheld_volumes vs) (sym none.0) ∙ ap (λ (l : List (ℕ × Volume)). v ∷ l) (unheld-bare vs none.1)

-- ---- held objects as they are read have the number 0, and no day from which they are inactive

abbrev pub Unnumbered : HeldRow → Type 0
Unnumbered row = (with_number 0 row ≡ row) × (is_none row.held.version.since ≡ true)

unnumbered_row : (row : HeldRow) → held_row.Fits row → Unnumbered row
unfolding held_row
unnumbered_row row fits =
    let is : held_with (held_fields row) ≡ row = same_Some (held_with (held_fields row)) row fits.1 in
    (ap (with_number 0) (sym is) ∙ is, ap (λ (r : HeldRow). is_none r.held.version.since) (sym is))

unnumbered_rows : (hs : List (ℕ × HeldRow)) → AllByRecursion (pair (number w64) held_row).Fits hs → AllByRecursion (λ h. Unnumbered h.1) hs
unnumbered_rows [] fit = tt
unnumbered_rows (h ∷ hs) fit = (unnumbered_row h.1 fit.0.1, unnumbered_rows hs fit.1)

unnumbered_held : (e : Edition) (hs : List (ℕ × HeldRow)) → (held_objects e).Fits hs → AllByRecursion (λ h. Unnumbered h.1) hs
unfolding held_objects
unnumbered_held first_form [] fits = tt
unnumbered_held first_form (h ∷ hs) fits = absurd (cc)
unnumbered_held second_form hs fits = unnumbered_rows hs fits.0.2

pub unnumbered_all : (e : Edition) (v : Inv) → (payload e).Fits v → AllByRecursion (λ h. Unnumbered h.1) v.clients.held
unfolding payload
unnumbered_all e v fits = unnumbered_held e v.clients.held fits.1.1.1.1.1.1

pub unnumbered-same : (hs : List (ℕ × HeldRow)) → AllByRecursion (λ h. Unnumbered h.1) hs → unnumbered hs ≡ hs
unnumbered-same [] each = refl
unnumbered-same (h ∷ hs) each =
    ap (λ (row : HeldRow). (h.0, row) ∷ unnumbered hs) each.0.0 ∙ ap (λ (l : List (ℕ × HeldRow)). h ∷ l) (unnumbered-same hs each.1)

pub unnumbered-numbered : (hs : List (ℕ × HeldRow)) → unnumbered (numbered hs) ≡ unnumbered hs
unnumbered-numbered [] = refl
unnumbered-numbered (h ∷ hs) = ap (λ (l : List (ℕ × HeldRow)). (h.0, with_number 0 h.1) ∷ l) (unnumbered-numbered hs)

-- ---- held objects under their numbers

-- they stand there once these are given
pub numbered_held : (hs : List (ℕ × HeldRow)) → AllByRecursion (λ h. Unnumbered h.1) hs → are_held_rows (numbered hs) ≡ true
numbered_held [] each = refl
numbered_held (h ∷ hs) each =
    ap (λ b. (b && is_none h.1.held.version.since) && are_held_rows (numbered hs)) (eq-eqb h.0 h.0 refl)
    ∙ ap (λ b. b && are_held_rows (numbered hs)) each.0.1
    ∙ numbered_held hs each.1

-- those that stand there come back
pub numbered-back : (hs : List (ℕ × HeldRow)) → are_held_rows hs ≡ true → numbered (unnumbered hs) ≡ hs
numbered-back [] so = refl
numbered-back (h ∷ hs) so =
    let parts = and_parts (is_held_row h) (are_held_rows hs) so in
    let own = and_parts (h.1.held.version.object == h.0) (is_none h.1.held.version.since) parts.0 in
    ap (λ n. (h.0, with_number n h.1) ∷ numbered (unnumbered hs)) (sym (eqb-true h.1.held.version.object h.0 own.0))
    ∙ ap (λ (l : List (ℕ × HeldRow)). h ∷ l) (numbered-back hs parts.1)
