-- The bytes of what transactions on stored objects change, by their kinds, and that they are forms.
use Rattle.std.specs.Prelude.{ℕ, List, refl}
use Rattle.std.specs.Int.{w32}
use Rattle.fields.specs.Forms.{Form, IsForm, number, pair, viewed, items}
use Rattle.fields.specs.Editions.{Edition}
use Rattle.fields.specs.FieldLaws.{number_form, wide32}
use Rattle.fields.specs.FormLaws.{pair_form, viewed_form}
use Rattle.fields.specs.ListLaws.{items_form}
use Rattle.change_items.specs.ItemForms.{scratch, scratch_form, new_version, new_version_form, new_held_object, new_held_object_form, rebinding, rebinding_form, named_version, named_version_form, moved_copy, moved_copy_form, new_copy, new_copy_form, dropped_copy, dropped_copy_form, discarded_version, discarded_version_form}
use Rattle.change_items.specs.ReasonForms.{drop_reason, drop_reason_form, discard_reason, discard_reason_form}
use Rattle.change_items.specs.declared.items.ScratchVolume.{ScratchVolume}
use Rattle.change_items.specs.declared.reasons.DiscardReason.{DiscardReason}
use Rattle.change_items.specs.declared.reasons.DropReason.{DropReason}
use Rattle.change_items.specs.declared.items.NewVersion.{NewVersion}
use Rattle.change_items.specs.declared.items.NewHeldObject.{NewHeldObject}
use Rattle.change_items.specs.declared.items.Rebinding.{Rebinding}
use Rattle.change_items.specs.declared.items.NamedVersion.{NamedVersion}
use Rattle.change_items.specs.declared.items.MovedCopy.{MovedCopy}
use Rattle.change_items.specs.declared.items.NewCopy.{NewCopy}
use Rattle.change_items.specs.declared.items.DroppedCopy.{DroppedCopy}
use Rattle.change_items.specs.declared.items.DiscardedVersion.{DiscardedVersion}
use Rattle.change_items.specs.declared.lists.NewVersions.{NewVersions}
use Rattle.change_items.specs.declared.lists.NewHeldObjects.{NewHeldObjects}
use Rattle.change_items.specs.declared.lists.Rebindings.{Rebindings}
use Rattle.change_items.specs.declared.lists.NamedVersions.{NamedVersions}
use Rattle.change_items.specs.declared.lists.MovedCopies.{MovedCopies}
use Rattle.change_items.specs.declared.lists.NewCopies.{NewCopies}
use Rattle.change_items.specs.declared.lists.DroppedCopies.{DroppedCopies}
use Rattle.change_items.specs.declared.lists.DiscardedVersions.{DiscardedVersions}

-- the filespace, the scratch volumes, and the versions
abbrev pub new_versions_with : ℕ × (List ScratchVolume × List NewVersion) → NewVersions
new_versions_with f = record { filespace = f.0; scratch = f.1.0; items = f.1.1 }

abbrev pub new_versions_fields : NewVersions → ℕ × (List ScratchVolume × List NewVersion)
new_versions_fields x = (x.filespace, (x.scratch, x.items))

unfoldable pub new_versions : Edition → Form NewVersions
new_versions e = viewed new_versions_with new_versions_fields (pair (number w32) (pair scratch (items 256 (new_version e))))

-- the filespace, the scratch volumes, and the held objects
abbrev pub new_held_objects_with : ℕ × (List ScratchVolume × List NewHeldObject) → NewHeldObjects
new_held_objects_with f = record { filespace = f.0; scratch = f.1.0; items = f.1.1 }

abbrev pub new_held_objects_fields : NewHeldObjects → ℕ × (List ScratchVolume × List NewHeldObject)
new_held_objects_fields x = (x.filespace, (x.scratch, x.items))

unfoldable pub new_held_objects : Form NewHeldObjects
new_held_objects = viewed new_held_objects_with new_held_objects_fields (pair (number w32) (pair scratch (items 256 new_held_object)))

-- the filespace, and the paths
abbrev pub rebindings_with : ℕ × List Rebinding → Rebindings
rebindings_with f = record { filespace = f.0; items = f.1 }

abbrev pub rebindings_fields : Rebindings → ℕ × List Rebinding
rebindings_fields x = (x.filespace, x.items)

unfoldable pub rebindings : Form Rebindings
rebindings = viewed rebindings_with rebindings_fields (pair (number w32) (items 256 rebinding))

-- the filespace, and the versions
abbrev pub named_versions_with : ℕ × List NamedVersion → NamedVersions
named_versions_with f = record { filespace = f.0; items = f.1 }

abbrev pub named_versions_fields : NamedVersions → ℕ × List NamedVersion
named_versions_fields x = (x.filespace, x.items)

unfoldable pub named_versions : Form NamedVersions
named_versions = viewed named_versions_with named_versions_fields (pair (number w32) (items 256 named_version))

-- the scratch volumes, and the copies
abbrev pub moved_copies_with : List ScratchVolume × List MovedCopy → MovedCopies
moved_copies_with f = record { scratch = f.0; items = f.1 }

abbrev pub moved_copies_fields : MovedCopies → List ScratchVolume × List MovedCopy
moved_copies_fields x = (x.scratch, x.items)

unfoldable pub moved_copies : Edition → Form MovedCopies
moved_copies e = viewed moved_copies_with moved_copies_fields (pair scratch (items 256 (moved_copy e)))

-- the scratch volumes, and the copies
abbrev pub new_copies_with : List ScratchVolume × List NewCopy → NewCopies
new_copies_with f = record { scratch = f.0; items = f.1 }

abbrev pub new_copies_fields : NewCopies → List ScratchVolume × List NewCopy
new_copies_fields x = (x.scratch, x.items)

unfoldable pub new_copies : Edition → Form NewCopies
new_copies e = viewed new_copies_with new_copies_fields (pair scratch (items 256 (new_copy e)))

-- the reason, and the copies
abbrev pub dropped_copies_with : DropReason × List DroppedCopy → DroppedCopies
dropped_copies_with f = record { reason = f.0; items = f.1 }

abbrev pub dropped_copies_fields : DroppedCopies → DropReason × List DroppedCopy
dropped_copies_fields x = (x.reason, x.items)

unfoldable pub dropped_copies : Form DroppedCopies
dropped_copies = viewed dropped_copies_with dropped_copies_fields (pair drop_reason (items 256 dropped_copy))

-- the reason, and the versions
abbrev pub discarded_versions_with : DiscardReason × List DiscardedVersion → DiscardedVersions
discarded_versions_with f = record { reason = f.0; items = f.1 }

abbrev pub discarded_versions_fields : DiscardedVersions → DiscardReason × List DiscardedVersion
discarded_versions_fields x = (x.reason, x.items)

unfoldable pub discarded_versions : Form DiscardedVersions
discarded_versions = viewed discarded_versions_with discarded_versions_fields (pair discard_reason (items 256 discarded_version))

-- ---- laws

pub new_versions_form : (e : Edition) → IsForm (new_versions e)
unfolding new_versions
new_versions_form e = viewed_form new_versions_with new_versions_fields (λ _. refl) (λ _. refl) (pair_form (number_form w32 wide32) (pair_form scratch_form (items_form 256 (new_version_form e))))

pub new_held_objects_form : IsForm new_held_objects
unfolding new_held_objects
new_held_objects_form = viewed_form new_held_objects_with new_held_objects_fields (λ _. refl) (λ _. refl) (pair_form (number_form w32 wide32) (pair_form scratch_form (items_form 256 new_held_object_form)))

pub rebindings_form : IsForm rebindings
unfolding rebindings
rebindings_form = viewed_form rebindings_with rebindings_fields (λ _. refl) (λ _. refl) (pair_form (number_form w32 wide32) (items_form 256 rebinding_form))

pub named_versions_form : IsForm named_versions
unfolding named_versions
named_versions_form = viewed_form named_versions_with named_versions_fields (λ _. refl) (λ _. refl) (pair_form (number_form w32 wide32) (items_form 256 named_version_form))

pub moved_copies_form : (e : Edition) → IsForm (moved_copies e)
unfolding moved_copies
moved_copies_form e = viewed_form moved_copies_with moved_copies_fields (λ _. refl) (λ _. refl) (pair_form scratch_form (items_form 256 (moved_copy_form e)))

pub new_copies_form : (e : Edition) → IsForm (new_copies e)
unfolding new_copies
new_copies_form e = viewed_form new_copies_with new_copies_fields (λ _. refl) (λ _. refl) (pair_form scratch_form (items_form 256 (new_copy_form e)))

pub dropped_copies_form : IsForm dropped_copies
unfolding dropped_copies
dropped_copies_form = viewed_form dropped_copies_with dropped_copies_fields (λ _. refl) (λ _. refl) (pair_form drop_reason_form (items_form 256 dropped_copy_form))

pub discarded_versions_form : IsForm discarded_versions
unfolding discarded_versions
discarded_versions_form = viewed_form discarded_versions_with discarded_versions_fields (λ _. refl) (λ _. refl) (pair_form discard_reason_form (items_form 256 discarded_version_form))
