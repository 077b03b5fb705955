-- What holds of each object and of each segment that a transaction brings, and of those before it, holds of each behind it.
use Rattle.std.proofs.Common.{◌≡◌, inl, inr, ℕ, Bool, true, false, List, map, None, is_some, refl, ap}
use Rattle.std.specs.Prelude.{◌==◌}
use Rattle.std.specs.List.{AllByRecursion, Contains, filter, flat_map, list_all}
use Rattle.std.proofs.lemmas.Bool.{eqb-false, eqb-true}
use Rattle.kinds.specs.declared.segment.Digest.{Digest}
use Rattle.kinds.specs.declared.segment.Segment.{Segment}
use Rattle.entries.specs.declared.change.Change.{Change}
use Rattle.inventory_rows.specs.version_groups.declared.copies.CopyRow.{CopyRow}
use Rattle.inventory_rows.specs.version_groups.declared.versions.Version.{Version}
use Rattle.inventory_rows.specs.Search.{copies, segments_on, version, versions}
use Rattle.inventory_rows.specs.State.{Inv}
use Rattle.inventory_rules.specs.Transactions.{effect}
use Rattle.inventory_laws.specs.Origins.{Known, new_objects, placed_segments}
use Rattle.inventory_laws.proofs.Lists.{all_from, each_also, each_any, each_mapped}
use Rattle.inventory_laws.proofs.Origins.{Has, Places, contained_holds, each_contained, effect_has}
use Rattle.contents.proofs.Segments.{EachSegment}
use Rattle.hall.proofs.Pairs.{each_filtered, each_flat, each_map, each_of_flat, find_none, none_found, some_or_none}

-- ---- objects

abbrev pub Nothing : ℕ → CopyRow → Type 0
Nothing object copy = Unit {0}

-- whatever transaction places it
abbrev pub Whenever : ℕ → Type 0
Whenever n = Unit {0}

module _ (H : ℕ → ℕ → Digest → Type 0) where
  bare : (w : Version) → H w.object w.size w.digest → Has H Nothing Whenever w
  bare w h = record { is = h; copies = each_any (Nothing w.object) w.copies (λ c. tt) }

  pub objects_behind : (x : Change) (v : Inv) → AllByRecursion (λ (w : Version). H w.object w.size w.digest) (versions v)
      → AllByRecursion (λ (o : Known). H o.object o.size o.digest) (new_objects x) → AllByRecursion (λ (w : Version). H w.object w.size w.digest) (versions (effect x v))
  objects_behind x v h new =
      each_also (Has H Nothing Whenever) (λ (w : Version). H w.object w.size w.digest) (versions (effect x v)) (λ w has. has.is)
      (effect_has H Nothing Whenever x v
      (record { objects = new; places = each_any (λ (e : ℕ × List Segment). Places H Nothing Whenever e.0 e.1) (placed_segments x) (λ e pool placed is. tt) })
      tt
      (each_also (λ (w : Version). H w.object w.size w.digest) (Has H Nothing Whenever) (versions v) bare h))

-- ---- segments

abbrev pub Any : ℕ → ℕ → Digest → Type 0
Any object size digest = Unit {0}

module _ (P : Segment → Type 0) where
  abbrev Of : ℕ → CopyRow → Type 0
  Of object copy = AllByRecursion P copy.segments

  pub segments_behind : (x : Change) (v : Inv) → EachSegment P (versions v) → AllByRecursion (λ (e : ℕ × List Segment). AllByRecursion P e.1) (placed_segments x) → EachSegment P (versions (effect x v))
  segments_behind x v h new =
      each_also (Has Any Of Whenever) (λ (w : Version). AllByRecursion (λ (c : CopyRow). AllByRecursion P c.segments) w.copies) (versions (effect x v)) (λ w has. has.copies)
      (effect_has Any Of Whenever x v (record {
        objects = each_any (λ (o : Known). Any o.object o.size o.digest) (new_objects x) (λ o. tt);
        places = each_also (λ (e : ℕ × List Segment). AllByRecursion P e.1) (λ (e : ℕ × List Segment). Places Any Of Whenever e.0 e.1) (placed_segments x) (λ e all pool placed is. all) new;
      })
      tt
      (each_also (λ (w : Version). AllByRecursion (λ (c : CopyRow). AllByRecursion P c.segments) w.copies) (Has Any Of Whenever) (versions v) (λ w all. record { is = tt; copies = all }) h))

  -- of each segment of each copy
  pub each_copy : (v : Inv) → EachSegment P (versions v) → AllByRecursion (λ (e : ℕ × CopyRow). AllByRecursion P e.1.segments) (copies v)
  each_copy v h =
      each_flat (λ (e : ℕ × CopyRow). AllByRecursion P e.1.segments) (λ (w : Version). map (λ (c : CopyRow). (w.object, c)) w.copies) (versions v)
      (each_also (λ (w : Version). AllByRecursion (λ (c : CopyRow). AllByRecursion P c.segments) w.copies)
      (λ (w : Version). AllByRecursion (λ (e : ℕ × CopyRow). AllByRecursion P e.1.segments) (map (λ (c : CopyRow). (w.object, c)) w.copies)) (versions v)
      (λ w all. each_map (λ (e : ℕ × CopyRow). AllByRecursion P e.1.segments) (λ (c : CopyRow). (w.object, c)) w.copies all) h)

-- and back
pub back_copies : (P : Segment → Type 0) (list : List Version) → AllByRecursion (λ (e : ℕ × CopyRow). AllByRecursion P e.1.segments) (flat_map (λ (w : Version). map (λ (c : CopyRow). (w.object, c)) w.copies) list)
    → EachSegment P list
back_copies P list h =
    each_also (λ (w : Version). AllByRecursion (λ (e : ℕ × CopyRow). AllByRecursion P e.1.segments) (map (λ (c : CopyRow). (w.object, c)) w.copies))
    (λ (w : Version). AllByRecursion (λ (c : CopyRow). AllByRecursion P c.segments) w.copies) list
    (λ w all. each_mapped (λ (e : ℕ × CopyRow). AllByRecursion P e.1.segments) (λ (c : CopyRow). (w.object, c)) w.copies all)
    (each_of_flat (λ (e : ℕ × CopyRow). AllByRecursion P e.1.segments) (λ (w : Version). map (λ (c : CopyRow). (w.object, c)) w.copies) list h)

-- what each segment of a file passes, those on the volume do
pub all_on : (p : Segment → Bool) (file : ℕ) (v : Inv) → EachSegment (λ s. s.file ≡ file → p s ≡ true) (versions v) → list_all (λ (e : ℕ × Segment). p e.1) (segments_on file v) ≡ true
all_on p file v h =
    all_from (λ (e : ℕ × Segment). p e.1) (segments_on file v)
    (each_flat (λ (e : ℕ × Segment). p e.1 ≡ true) (λ (e : ℕ × CopyRow). map (λ (s : Segment). (e.0, s)) (filter (λ (s : Segment). s.file == file) e.1.segments)) (copies v)
    (each_also (λ (e : ℕ × CopyRow). AllByRecursion (λ (s : Segment). s.file ≡ file → p s ≡ true) e.1.segments)
    (λ (e : ℕ × CopyRow). AllByRecursion (λ (e : ℕ × Segment). p e.1 ≡ true) (map (λ (s : Segment). (e.0, s)) (filter (λ (s : Segment). s.file == file) e.1.segments))) (copies v)
    (λ e all. each_map (λ (e : ℕ × Segment). p e.1 ≡ true) (λ (s : Segment). (e.0, s)) (filter (λ (s : Segment). s.file == file) e.1.segments)
    (each_filtered (λ (s : Segment). p s ≡ true) (λ (s : Segment). s.file == file) e.1.segments
    (each_also (λ (s : Segment). s.file ≡ file → p s ≡ true) (λ (s : Segment). (s.file == file) ≡ true → p s ≡ true) e.1.segments
    (λ s is at. is (eqb-true s.file file at)) all)))
    (each_copy (λ s. s.file ≡ file → p s ≡ true) v h)))

-- ---- the version of an object

pub version_none : (object : ℕ) (v : Inv) → AllByRecursion (λ (w : Version). w.object ≡ object → ⊥) (versions v) → version object v ≡ None
version_none object v h =
    find_none (λ (w : Version). w.object == object) (versions v)
    (each_also (λ (w : Version). w.object ≡ object → ⊥) (λ (w : Version). (w.object == object) ≡ false) (versions v) (λ w ne. unequal w.object object ne) h)
  where
    unequal : (a b : ℕ) → (a ≡ b → ⊥) → (a == b) ≡ false
    unequal a b ne = elim (a == b) as (λ t. (a == b) ≡ t → t ≡ false) [ true ↦ λ is. absurd (ne (eqb-true a b is)) | false ↦ λ is. refl ] refl

pub no_version : (object : ℕ) (v : Inv) → version object v ≡ None → AllByRecursion (λ (w : Version). w.object ≡ object → ⊥) (versions v)
no_version object v h =
    each_also (λ (w : Version). (w.object == object) ≡ false) (λ (w : Version). w.object ≡ object → ⊥) (versions v) (λ w isnt. eqb-false w.object object isnt)
    (none_found (λ (w : Version). w.object == object) (versions v) h)

-- each version's object has one
pub each_found : (v : Inv) → AllByRecursion (λ (w : Version). is_some (version w.object v) ≡ true) (versions v)
each_found v = each_also (Contains (versions v)) (λ (w : Version). is_some (version w.object v) ≡ true) (versions v) found (each_contained (versions v)) where
  found : (w : Version) → Contains (versions v) w → is_some (version w.object v) ≡ true
  found w c = elim (some_or_none (version w.object v)) as (λ _. is_some (version w.object v) ≡ true) [
    | inl some ↦ ap is_some some.1
    | inr none ↦ absurd (contained_holds (λ (u : Version). u.object ≡ w.object → ⊥) (versions v) w c (no_version w.object v none) refl)
  ]
