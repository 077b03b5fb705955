-- A segment in the free space of a volume of random access fits there.
use Rattle.std.proofs.Common.{◌≡◌, ℕ, ◌+◌, ◌*◌, ◌%◌, ◌/◌, ◌≤◌, Bool, true, false, List, [], ◌∷◌, ◌++◌, map, Option, Some, refl, ap, subst, ◌∙◌, arith, inl, inr}
use Rattle.std.specs.Prelude.{◌==◌, ◌&&◌, ◌||◌, nat_le}
use Rattle.std.specs.List.{AllByRecursion, list_all}
use Rattle.std.proofs.lemmas.Bool.{eq-eqb, le-leb}
use Rattle.kinds.specs.declared.segment.Segment.{Segment}
use Rattle.entries.specs.change_items.declared.items.MovedCopy.{MovedCopy}
use Rattle.volume_rows.specs.declared.held.HeldSegment.{HeldSegment}
use Rattle.volume_rows.specs.declared.volume.Volume.{Volume}
use Rattle.volume_rows.specs.Held.{held_of}
use Rattle.pool_tables.specs.Rows.{row_at}
use Rattle.pool_tables.proofs.Ascending.{both}
use Rattle.pool_tables.proofs.Counting.{each_there}
use Rattle.inventory_rows.specs.pool_rows.PoolRows.{is_sequential}
use Rattle.inventory_rows.specs.Search.{segments_on}
use Rattle.inventory_rows.specs.State.{Inv}
use Rattle.inventory_rules.specs.Held.{holding, IsTied}
use Rattle.inventory_rules.specs.Segments.{are_clear, leaves, lies_rightly, segment_fits_after}
use Rattle.space.specs.declared.counted.Counted.{Counted}
use Rattle.space.specs.declared.piece.Piece.{Piece}
use Rattle.space.specs.Pieces.{copies_on, claims_on, free_pieces}
use Rattle.space.specs.Lawful.{AreApart, segment_in, IsFree}
use Rattle.space.proofs.Free.{pieces_free}
use Rattle.space_laws.specs.Fitting.{FitsThere}
use Rattle.space_laws.proofs.Keys.{AllKeys, all_held}

all_left : {A : Type 0} (P : A → Type 0) (xs ys : List A) → AllByRecursion P (xs ++ ys) → AllByRecursion P xs
all_left P [] ys all = tt
all_left P (x ∷ xs) ys all = (all.0, all_left P xs ys all.1)

-- a held segment, on its volume
abbrev there : ℕ → HeldSegment → Segment
there file h = record { file = file; offset = h.offset; len = h.len }

keys_apart : (a : Segment) (file : ℕ) (held : List (HeldSegment × ℕ)) → AllByRecursion (AreApart a) (map (λ e. there file e.0) held) → AllKeys (λ h. AreApart a (there file h)) held
keys_apart a file [] all = tt
keys_apart a file (e ∷ held) all = (all.0, keys_apart a file held all.1)

or_true : (b : Bool) → (b || true) ≡ true
or_true true = refl
or_true false = refl

apart_clear : (a x : Segment) (file : ℕ) → AreApart a (record { file = file; offset = x.offset; len = x.len }) → are_clear false a x ≡ true
apart_clear a x file apart =
    elim apart [
      | inl le ↦ ap (λ (b : Bool). b || nat_le ((x.offset + 32 + x.len + 4095) / 4096) (a.offset / 4096)) (le-leb _ _ le)
      | inr le ↦ ap (λ (b : Bool). nat_le ((a.offset + 32 + a.len + 4095) / 4096) (x.offset / 4096) || b) (le-leb _ _ le) ∙ or_true (nat_le ((a.offset + 32 + a.len + 4095) / 4096) (x.offset / 4096))
    ]

all_clear : (moved : List MovedCopy) (number file : ℕ) (a : Segment) (xs : List (ℕ × Segment)) → AllByRecursion (λ x. AreApart a (there file (held_of x.0 x.1))) xs → list_all (λ e. leaves moved number e.0 || are_clear false a e.1) xs ≡ true
all_clear moved number file a [] all = refl
all_clear moved number file a (x ∷ xs) all =
    both (leaves moved number x.0 || are_clear false a x.1) (list_all (λ e. leaves moved number e.0 || are_clear false a e.1) xs)
    (ap (λ (b : Bool). leaves moved number x.0 || b) (apart_clear a x.1 file all.0) ∙ or_true (leaves moved number x.0))
    (all_clear moved number file a xs all.1)

lies : (number file block len : ℕ) (p : Piece) (volume : Volume) → volume.pool ≡ number → p.offset ≡ 4096 * block → p.offset + 32 + p.room ≤ volume.capacity → len ≤ p.room → lies_rightly false number (record { file = file; offset = p.offset; len = len }) (Some volume) ≡ true
lies number file block len p volume of-pool begins within fits =
    both (volume.pool == number) (nat_le (p.offset + 32 + len) volume.capacity && (false || p.offset % 4096 == 0)) (eq-eqb volume.pool number of-pool)
    (both (nat_le (p.offset + 32 + len) volume.capacity) (false || p.offset % 4096 == 0) (le-leb (p.offset + 32 + len) volume.capacity (omega (arith, within, fits)))
    (eq-eqb (p.offset % 4096) 0 (omega (arith, begins))))

fits_there : (v : Inv) (c : Counted) (file : ℕ) (volume : Volume) (p : Piece) → IsTied v → row_at file v.stores.volumes ≡ Some volume → is_sequential volume.pool v.stores ≡ false → IsFree c (file, volume) p → FitsThere v volume.pool p
fits_there v c file volume p tied row random free moved len fits =
    let a : Segment = record { file = file; offset = p.offset; len = len } in
    let same : segment_in p len ≡ a = ap (λ (n : ℕ). let s : Segment = record { file = n; offset = p.offset; len = len } in s) free.on in
    let held : volume.segments ≡ holding (segments_on file v) = each_there (λ (f : ℕ × Volume). f.1.segments ≡ holding (segments_on f.0 v)) file volume v.stores.volumes row tied in
    let apart : AllByRecursion (AreApart a) (copies_on (file, volume)) =
    subst (λ (s : Segment). AllByRecursion (AreApart s) (copies_on (file, volume))) same (all_left (AreApart (segment_in p len)) (copies_on (file, volume)) (claims_on file c) (free.apart len fits)) in
    let keys : AllKeys (λ h. AreApart a (there file h)) (holding (segments_on file v)) =
    subst (λ (l : List (HeldSegment × ℕ)). AllKeys (λ h. AreApart a (there file h)) l) held (keys_apart a file volume.segments apart) in
    let clear : list_all (λ e. leaves moved volume.pool e.0 || are_clear false a e.1) (segments_on file v) ≡ true =
    all_clear moved volume.pool file a (segments_on file v) (all_held (λ h. AreApart a (there file h)) (segments_on file v) keys) in
    ap (segment_fits_after moved v volume.pool) same
    ∙ ap (λ (b : Bool). lies_rightly b volume.pool a (row_at file v.stores.volumes) && list_all (λ e. leaves moved volume.pool e.0 || are_clear b a e.1) (segments_on file v)) random
    ∙ ap (λ (o : Option Volume). lies_rightly false volume.pool a o && list_all (λ e. leaves moved volume.pool e.0 || are_clear false a e.1) (segments_on file v)) row
    ∙ both (lies_rightly false volume.pool a (Some volume)) (list_all (λ e. leaves moved volume.pool e.0 || are_clear false a e.1) (segments_on file v))
    (lies volume.pool file free.block.0 len p volume refl free.block.1 free.within fits) clear

all_fit : (v : Inv) (c : Counted) (file : ℕ) (volume : Volume) (free : List Piece) → IsTied v → row_at file v.stores.volumes ≡ Some volume → is_sequential volume.pool v.stores ≡ false → AllByRecursion (IsFree c (file, volume)) free → AllByRecursion (FitsThere v volume.pool) free
all_fit v c file volume [] tied row random all = tt
all_fit v c file volume (p ∷ free) tied row random all = (fits_there v c file volume p tied row random all.0, all_fit v c file volume free tied row random all.1)

pub pieces_fit : (v : Inv) (c : Counted) (file : ℕ) (volume : Volume) → IsTied v → row_at file v.stores.volumes ≡ Some volume → is_sequential volume.pool v.stores ≡ false → AllByRecursion (FitsThere v volume.pool) (free_pieces c (file, volume))
pieces_fit v c file volume tied row random = all_fit v c file volume (free_pieces c (file, volume)) tied row random (pieces_free c (file, volume))
