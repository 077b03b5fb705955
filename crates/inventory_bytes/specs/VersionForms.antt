-- The bytes of versions and their copies, and that they are forms.
use Rattle.std.proofs.Common.{sym, ap, ◌∙◌}
use Rattle.std.proofs.lemmas.Bool.{eqb-true}
use Rattle.std.proofs.lemmas.Option.{same_Some}
use Rattle.std.specs.Prelude.{◌≡◌, ℕ, Bool, true, false, is_some, is_none, ◌==◌, if◌then◌else◌, List, [], ◌∷◌, Option, Some, None, refl}
use Rattle.std.specs.Int.{w32, w64}
use Rattle.fields.specs.Reading.{◌>>=◌}
use Rattle.fields.specs.Forms.{Form, IsForm, number, pair, viewed, only, variant, partly, flag, items}
use Rattle.fields.specs.FieldLaws.{number_form, wide32, wide64}
use Rattle.fields.specs.FormLaws.{pair_form, viewed_form, variant_form, partly_form, only_form, flag_form}
use Rattle.fields.specs.ListLaws.{items_form}
use Rattle.fields.specs.Editions.{Edition}
use Rattle.kinds.specs.declared.segment.Digest.{Digest}
use Rattle.kinds.specs.declared.segment.Segment.{Segment}
use Rattle.kinds.specs.ValueForms.{name, name_form, day, day_form, size, size_form, digest, digest_form, segments, segments_form}
use Rattle.inventory_rows.specs.version_groups.declared.copies.CopyRow.{CopyRow}
use Rattle.inventory_rows.specs.version_groups.declared.group.Group.{Group}
use Rattle.inventory_rows.specs.version_groups.declared.versions.Version.{Version}
use Rattle.inventory_rows.specs.version_groups.Copies.{are_by_pool}
use Rattle.inventory_rows.specs.version_groups.Versions.{are_distinct, has_active}

-- a copy: its pool, the transaction that placed it, and its segments
abbrev pub copy_with : ℕ × (ℕ × List Segment) → CopyRow
copy_with f = record { pool = f.0; placed = f.1.0; segments = f.1.1 }

abbrev pub copy_fields : CopyRow → ℕ × (ℕ × List Segment)
copy_fields c = (c.pool, (c.placed, c.segments))

unfoldable pub copy_row : Edition → Form CopyRow
copy_row e = viewed copy_with copy_fields (pair (number w32) (pair (number w64) (segments e)))

-- the copies of an object, in ascending order of their pools
unfoldable pub copies : Edition → Form (List CopyRow)
copies e = only are_by_pool (items 4294967295 (copy_row e))

-- A version that is spelled with a day since which it is inactive: its object, size, time and digest, the day on which it was stored, that
-- day, and its copies.
abbrev pub VersionFields : Type 0
VersionFields = ℕ × (ℕ × (ℕ × (Digest × (ℕ × (ℕ × List CopyRow)))))

abbrev pub version_with : VersionFields → Version
version_with f = record {
  object = f.0;
  size = f.1.0;
  mtime = f.1.1.0;
  digest = f.1.1.1.0;
  stored = f.1.1.1.1.0;
  since = Some f.1.1.1.1.1.0;
  copies = f.1.1.1.1.1.1;
}

abbrev pub fields_since : Version → ℕ → VersionFields
fields_since v day = (v.object, (v.size, (v.mtime, (v.digest, (v.stored, (day, v.copies))))))

abbrev pub fields_at : Version → Option ℕ → Option VersionFields
fields_at v None = None
fields_at v (Some day) = Some (fields_since v day)

abbrev pub version_fields : Version → Option VersionFields
version_fields v = fields_at v v.since

unfoldable pub dated_fields : Edition → Form VersionFields
dated_fields e = pair (number w64) (pair (size e) (pair (number w64) (pair digest (pair day (pair day (copies e))))))

unfoldable pub dated : Edition → Form Version
dated e = variant version_with version_fields (dated_fields e)

-- the day with which a version is spelled: 0 for an active one
abbrev pub day_of : Option ℕ → ℕ
day_of None = 0
day_of (Some day) = day

-- the versions of a path as they are spelled: an active one, which is the newest, with day 0
abbrev pub as_spelled : List Version → List Version
as_spelled [] = []
as_spelled (newest ∷ older) = record newest { since = Some (day_of newest.since) } ∷ older

abbrev pub is_zero : Option ℕ → Bool
is_zero None = false
is_zero (Some day) = day == 0

-- the versions that are meant, with an active one or without one; none where there is no version
abbrev pub as_meant : Bool → List Version → Option (List Version)
as_meant active [] = None
as_meant true (newest ∷ older) = if is_zero newest.since then Some (record newest { since = None } ∷ older) else None
as_meant false (newest ∷ older) = if is_some newest.since then Some (newest ∷ older) else None

-- a group: the class of the path, whether it has an active version, and its versions, newest first
abbrev pub group_of : List ℕ → List Version → Option Group
group_of class versions = if are_distinct versions then Some (record { class = class; versions = versions }) else None

abbrev pub group_with : List ℕ × (Bool × List Version) → Option Group
group_with f = as_meant f.1.0 f.1.1 >>= λ versions. group_of f.0 versions

abbrev pub group_fields : Group → List ℕ × (Bool × List Version)
group_fields g = (g.class, (has_active g.versions, as_spelled g.versions))

abbrev group_shown : List ℕ → Bool → Version → List Version → List ℕ × (Bool × List Version)
group_shown class active newest older = (class, (active, newest ∷ older))

unfoldable pub group_row : Edition → Form Group
group_row e = partly group_with group_fields (pair (name 30) (pair flag (items 4294967295 (dated e))))

-- ---- laws

pub copy_row_form : (e : Edition) → IsForm (copy_row e)
unfolding copy_row
copy_row_form e = viewed_form copy_with copy_fields (λ _. refl) (λ _. refl) (pair_form (number_form w32 wide32) (pair_form (number_form w64 wide64) (segments_form e)))

pub copies_form : (e : Edition) → IsForm (copies e)
unfolding copies
copies_form e = only_form are_by_pool (items_form 4294967295 (copy_row_form e))

pub dated_fields_form : (e : Edition) → IsForm (dated_fields e)
unfolding dated_fields
dated_fields_form e = pair_form (number_form w64 wide64) (pair_form (size_form e) (pair_form (number_form w64 wide64) (pair_form digest_form (pair_form day_form (pair_form day_form (copies_form e))))))

abbrev version_since : Version → Option ℕ → Version
version_since v since = record v { since = since }

dated_back : (v : Version) (f : VersionFields) (since : Option ℕ) → v.since ≡ since → fields_at v since ≡ Some f → version_with f ≡ v
dated_back v f None e h = absurd cc
dated_back v f (Some day) e h = ap version_with (sym (same_Some (fields_since v day) f h)) ∙ ap (λ (o : Option ℕ). version_since v o) (sym e)

pub dated_form : (e : Edition) → IsForm (dated e)
unfolding dated
dated_form e = variant_form version_with version_fields (λ _. refl) (λ v f h. dated_back v f v.since refl h) (dated_fields_form e)

pub group_row_form : (e : Edition) → IsForm (group_row e)
unfolding group_row
group_row_form e = partly_form group_with group_fields back (pair_form (name_form 30) (pair_form flag_form (items_form 4294967295 (dated_form e)))) where
  made : (class : List ℕ) (versions : List Version) (g : Group) (distinct : Bool) → (if distinct then Some (record { class = class; versions = versions }) else None) ≡ Some g → g ≡ record { class = class; versions = versions }
  made class versions g true e = cc
  made class versions g false e = absurd cc

  active : (class : List ℕ) (newest : Version) (older : List Version) (g : Group) (since : Option ℕ) → newest.since ≡ since → ((if is_zero since then Some (record newest { since = None } ∷ older) else None) >>= λ versions. group_of class versions) ≡ Some g → group_fields g ≡ (class, (true, newest ∷ older))
  active class newest older g None s e = absurd cc
  active class newest older g (Some day) s e = zero day s (day == 0) refl e
    where
      zero : (day : ℕ) → newest.since ≡ Some day → (b : Bool) → (day == 0) ≡ b → ((if b then Some (record newest { since = None } ∷ older) else None) >>= λ versions. group_of class versions) ≡ Some g → group_fields g ≡ (class, (true, newest ∷ older))
      zero day s true z e =
          ap group_fields (made class (record newest { since = None } ∷ older) g (are_distinct (record newest { since = None } ∷ older)) e)
          ∙ ap (λ (o : Option ℕ). group_shown class true (record newest { since = o }) older) (sym (s ∙ ap Some (eqb-true day 0 z)))
      zero day s false z e = absurd cc

  inactive : (class : List ℕ) (newest : Version) (older : List Version) (g : Group) (since : Option ℕ) → newest.since ≡ since → ((if is_some since then Some (newest ∷ older) else None) >>= λ versions. group_of class versions) ≡ Some g → group_fields g ≡ (class, (false, newest ∷ older))
  inactive class newest older g None s e = absurd cc
  inactive class newest older g (Some day) s e =
      ap group_fields (made class (newest ∷ older) g (are_distinct (newest ∷ older)) e)
      ∙ ap (λ (o : Option ℕ). group_shown class (is_none o) (record newest { since = Some (day_of o) }) older) s
      ∙ ap (λ (o : Option ℕ). group_shown class false (record newest { since = o }) older) (sym s)

  back : (f : List ℕ × (Bool × List Version)) (g : Group) → group_with f ≡ Some g → group_fields g ≡ f
  back (class, (flag, [])) g e = absurd cc
  back (class, (true, newest ∷ older)) g e = active class newest older g newest.since refl e
  back (class, (false, newest ∷ older)) g e = inactive class newest older g newest.since refl e
