-- The bytes of what transactions on stored objects list, and that they are forms.
use Rattle.std.specs.Prelude.{ℕ, List, Option, refl}
use Rattle.std.specs.Int.{w32, w64}
use Rattle.fields.specs.Forms.{Form, IsForm, number, pair, viewed, items, option}
use Rattle.fields.specs.Editions.{Edition, second_form}
use Rattle.fields.specs.FieldLaws.{number_form, wide32, wide64}
use Rattle.fields.specs.FormLaws.{pair_form, viewed_form, option_form}
use Rattle.fields.specs.ListLaws.{items_form}
use Rattle.kinds.specs.declared.segment.Digest.{Digest}
use Rattle.kinds.specs.declared.segment.Segment.{Segment}
use Rattle.kinds.specs.ValueForms.{name, name_form, path, path_form, description, description_form, size, size_form, digest, digest_form, segments, segments_form}
use Rattle.change_items.specs.declared.items.DiscardedVersion.{DiscardedVersion}
use Rattle.change_items.specs.declared.items.DroppedCopy.{DroppedCopy}
use Rattle.change_items.specs.declared.items.MovedCopy.{MovedCopy}
use Rattle.change_items.specs.declared.items.NamedVersion.{NamedVersion}
use Rattle.change_items.specs.declared.items.NewCopy.{NewCopy}
use Rattle.change_items.specs.declared.items.NewHeldObject.{NewHeldObject}
use Rattle.change_items.specs.declared.items.NewVersion.{NewVersion}
use Rattle.change_items.specs.declared.items.Rebinding.{Rebinding}
use Rattle.change_items.specs.declared.items.ScratchVolume.{ScratchVolume}

-- a scratch volume that a transaction makes: its pool, and its file number
abbrev pub scratch_with : ℕ × ℕ → ScratchVolume
scratch_with f = record { pool = f.0; file = f.1 }

abbrev pub scratch_fields : ScratchVolume → ℕ × ℕ
scratch_fields s = (s.pool, s.file)

unfoldable pub scratch_volume : Form ScratchVolume
scratch_volume = viewed scratch_with scratch_fields (pair (number w32) (number w32))

-- the scratch volumes that a transaction makes
abbrev pub scratch : Form (List ScratchVolume)
scratch = items 4294967295 scratch_volume

-- where a copy comes to lie: its pool, and its segments
abbrev pub Placed : Type 0
Placed = ℕ × List Segment

abbrev pub placed : Edition → Form Placed
placed e = pair (number w32) (segments e)

-- where a new object is kept: its digest, its number, and where its copy comes to lie
abbrev pub Stored : Type 0
Stored = Digest × (ℕ × Placed)

abbrev pub stored : Edition → Form Stored
stored e = pair digest (pair (number w64) (placed e))

-- a new version: its path, its management class, its size, its time, and where it is kept
abbrev pub VersionFields : Type 0
VersionFields = List ℕ × (List ℕ × (ℕ × (ℕ × Stored)))

abbrev pub version_with : VersionFields → NewVersion
version_with f = record {
  path = f.0;
  class = f.1.0;
  size = f.1.1.0;
  mtime = f.1.1.1.0;
  digest = f.1.1.1.1.0;
  object = f.1.1.1.1.1.0;
  pool = f.1.1.1.1.1.1.0;
  segments = f.1.1.1.1.1.1.1;
}

abbrev pub version_fields : NewVersion → VersionFields
version_fields v = (v.path, (v.class, (v.size, (v.mtime, (v.digest, (v.object, (v.pool, v.segments)))))))

unfoldable pub new_version : Edition → Form NewVersion
new_version e = viewed version_with version_fields (pair (path 1024) (pair (name 30) (pair (size e) (pair (number w64) (stored e)))))

-- a new held object: its path, its description, its size, its time, its digest, its number, where its copy comes to lie, and the day until
-- which it is kept, or none
abbrev pub HeldFields : Type 0
HeldFields = List ℕ × (List ℕ × (ℕ × (ℕ × (Digest × (ℕ × (ℕ × (List Segment × Option ℕ)))))))

abbrev pub held_with : HeldFields → NewHeldObject
held_with f = record {
  path = f.0;
  description = f.1.0;
  size = f.1.1.0;
  mtime = f.1.1.1.0;
  digest = f.1.1.1.1.0;
  object = f.1.1.1.1.1.0;
  pool = f.1.1.1.1.1.1.0;
  segments = f.1.1.1.1.1.1.1.0;
  until = f.1.1.1.1.1.1.1.1;
}

abbrev pub held_fields : NewHeldObject → HeldFields
held_fields h = (h.path, (h.description, (h.size, (h.mtime, (h.digest, (h.object, (h.pool, (h.segments, h.until))))))))

unfoldable pub new_held_object : Form NewHeldObject
new_held_object = viewed held_with held_fields
    (pair (path 1024) (pair description (pair (size second_form) (pair (number w64) (pair digest (pair (number w64) (pair (number w32) (pair (segments second_form) (option (number w32))))))))))

-- a path, and the management class that it is bound to
abbrev pub rebinding_with : List ℕ × List ℕ → Rebinding
rebinding_with f = record { path = f.0; class = f.1 }

abbrev pub rebinding_fields : Rebinding → List ℕ × List ℕ
rebinding_fields r = (r.path, r.class)

unfoldable pub rebinding : Form Rebinding
rebinding = viewed rebinding_with rebinding_fields (pair (path 1024) (name 30))

-- a version: its path, and its object number
abbrev pub named_with : List ℕ × ℕ → NamedVersion
named_with f = record { path = f.0; object = f.1 }

abbrev pub named_fields : NamedVersion → List ℕ × ℕ
named_fields v = (v.path, v.object)

unfoldable pub named_version : Form NamedVersion
named_version = viewed named_with named_fields (pair (path 1024) (number w64))

-- a copy that moves: its object, the pool that it leaves, the transaction that placed it there, and where it comes to lie
abbrev pub MovedFields : Type 0
MovedFields = ℕ × (ℕ × (ℕ × Placed))

abbrev pub moved_with : MovedFields → MovedCopy
moved_with f = record { object = f.0; from = f.1.0; placed = f.1.1.0; pool = f.1.1.1.0; segments = f.1.1.1.1 }

abbrev pub moved_fields : MovedCopy → MovedFields
moved_fields m = (m.object, (m.from, (m.placed, (m.pool, m.segments))))

unfoldable pub moved_copy : Edition → Form MovedCopy
moved_copy e = viewed moved_with moved_fields (pair (number w64) (pair (number w32) (pair (number w64) (placed e))))

-- a new copy: its object, and where it comes to lie
abbrev pub CopyFields : Type 0
CopyFields = ℕ × Placed

abbrev pub copy_with : CopyFields → NewCopy
copy_with f = record { object = f.0; pool = f.1.0; segments = f.1.1 }

abbrev pub copy_fields : NewCopy → CopyFields
copy_fields c = (c.object, (c.pool, c.segments))

unfoldable pub new_copy : Edition → Form NewCopy
new_copy e = viewed copy_with copy_fields (pair (number w64) (placed e))

-- a copy that goes: its object, its pool, the transaction that placed it, and the digest that was found
abbrev pub DroppedFields : Type 0
DroppedFields = ℕ × (ℕ × (ℕ × Digest))

abbrev pub dropped_with : DroppedFields → DroppedCopy
dropped_with f = record { object = f.0; pool = f.1.0; placed = f.1.1.0; found = f.1.1.1 }

abbrev pub dropped_fields : DroppedCopy → DroppedFields
dropped_fields d = (d.object, (d.pool, (d.placed, d.found)))

unfoldable pub dropped_copy : Form DroppedCopy
dropped_copy = viewed dropped_with dropped_fields (pair (number w64) (pair (number w32) (pair (number w64) digest)))

-- a version that goes with its copies: its object, and the digest that was found
abbrev pub discarded_with : ℕ × Digest → DiscardedVersion
discarded_with f = record { object = f.0; found = f.1 }

abbrev pub discarded_fields : DiscardedVersion → ℕ × Digest
discarded_fields d = (d.object, d.found)

unfoldable pub discarded_version : Form DiscardedVersion
discarded_version = viewed discarded_with discarded_fields (pair (number w64) digest)

-- ---- laws

pub scratch_volume_form : IsForm scratch_volume
unfolding scratch_volume
scratch_volume_form = viewed_form scratch_with scratch_fields (λ _. refl) (λ _. refl) (pair_form (number_form w32 wide32) (number_form w32 wide32))

pub scratch_form : IsForm scratch
scratch_form = items_form 4294967295 scratch_volume_form

pub placed_form : (e : Edition) → IsForm (placed e)
placed_form e = pair_form (number_form w32 wide32) (segments_form e)

pub stored_form : (e : Edition) → IsForm (stored e)
stored_form e = pair_form digest_form (pair_form (number_form w64 wide64) (placed_form e))

pub new_version_form : (e : Edition) → IsForm (new_version e)
unfolding new_version
new_version_form e = viewed_form version_with version_fields (λ _. refl) (λ _. refl) (pair_form (path_form 1024) (pair_form (name_form 30) (pair_form (size_form e) (pair_form (number_form w64 wide64) (stored_form e)))))

pub new_held_object_form : IsForm new_held_object
unfolding new_held_object
new_held_object_form = viewed_form held_with held_fields (λ _. refl) (λ _. refl)
    (pair_form (path_form 1024) (pair_form description_form (pair_form (size_form second_form) (pair_form (number_form w64 wide64) (pair_form digest_form (pair_form (number_form w64 wide64) (pair_form (number_form w32 wide32) (pair_form (segments_form second_form) (option_form (number_form w32 wide32))))))))))

pub rebinding_form : IsForm rebinding
unfolding rebinding
rebinding_form = viewed_form rebinding_with rebinding_fields (λ _. refl) (λ _. refl) (pair_form (path_form 1024) (name_form 30))

pub named_version_form : IsForm named_version
unfolding named_version
named_version_form = viewed_form named_with named_fields (λ _. refl) (λ _. refl) (pair_form (path_form 1024) (number_form w64 wide64))

pub moved_copy_form : (e : Edition) → IsForm (moved_copy e)
unfolding moved_copy
moved_copy_form e = viewed_form moved_with moved_fields (λ _. refl) (λ _. refl) (pair_form (number_form w64 wide64) (pair_form (number_form w32 wide32) (pair_form (number_form w64 wide64) (placed_form e))))

pub new_copy_form : (e : Edition) → IsForm (new_copy e)
unfolding new_copy
new_copy_form e = viewed_form copy_with copy_fields (λ _. refl) (λ _. refl) (pair_form (number_form w64 wide64) (placed_form e))

pub dropped_copy_form : IsForm dropped_copy
unfolding dropped_copy
dropped_copy_form = viewed_form dropped_with dropped_fields (λ _. refl) (λ _. refl) (pair_form (number_form w64 wide64) (pair_form (number_form w32 wide32) (pair_form (number_form w64 wide64) digest_form)))

pub discarded_version_form : IsForm discarded_version
unfolding discarded_version
discarded_version_form = viewed_form discarded_with discarded_fields (λ _. refl) (λ _. refl) (pair_form (number_form w64 wide64) digest_form)
