-- How long the spellings of nodes, of filespaces with their versions, and of held objects are at most.
use Rattle.std.proofs.Common.{◌≡◌, ℕ, ◌+◌, ◌*◌, ◌≤◌, List, [], ◌∷◌, length, Option, Some, None, refl, sym, ap, arith}
use Rattle.std.proofs.lemmas.List.Sums.{sum_by-cons}
use Rattle.std.proofs.lemmas.Option.{same_Some}
use Rattle.std.specs.Cmp.Lexicographic.{slice_cmp}
use Rattle.std.specs.Int.{w32, w64}
use Rattle.std.specs.List.{sum_by}
use Rattle.std.specs.Map.{values_of}
use Rattle.std.specs.Ordering.{nat_cmp}
use Rattle.fields.specs.Editions.{second_form}
use Rattle.fields.specs.FieldLaws.{wide32, wide64}
use Rattle.inventory_rows.specs.object_rows.declared.held_object.HeldRow.{HeldRow}
use Rattle.inventory_rows.specs.object_rows.Items.{items_of_held, items_with}
use Rattle.inventory_rows.specs.Items.{items_of_version, items_of_group, items_of_filespace}
use Rattle.kinds.specs.Days.{is_day}
use Rattle.kinds.specs.Sizes.{is_size}
use Rattle.kinds.specs.ValueForms.{day, digest, digest_with, size, segment, segment_with, segment_fields, segments}
use Rattle.kinds.specs.declared.segment.Digest.{Digest}
use Rattle.inventory_rows.specs.version_groups.Copies.{are_by_pool}
use Rattle.inventory_rows.specs.version_groups.declared.versions.Version.{Version}
use Rattle.inventory_bytes.specs.ClientForms.{node_with, node_fields, node_row, nodes, filespace_with, filespace_fields, filespace_row, filespaces, held_with, held_fields, held_row, held}
use Rattle.inventory_bytes.specs.VersionForms.{copy_with, copy_fields, copy_row, copies, VersionFields, version_with, fields_since, fields_at, version_fields, dated_fields, dated, as_spelled, group_with, group_fields, group_row}
use Rattle.inventory_bytes.proofs.PolicyRows.{flag_within}
use Rattle.inventory_bytes.proofs.Spellings.{IsWithin, weakened, number_within, block_within, description_within, name_within, path_within, pair_within, viewed_within, partly_within, only_within, option_within, variant_within, list_of_rows, list_of_lists, table_of_rows, table_of_lists}

pub day_within : IsWithin day (λ _. 4)
day_within = only_within is_day (number_within w32 wide32)

digest_within : IsWithin digest (λ _. 32)
digest_within = viewed_within digest_with (λ (d : Digest). d.0) (block_within 32)

size_within : IsWithin (size second_form) (λ _. 8)
size_within = only_within is_size (number_within w64 wide64)

segment_within : IsWithin (segment second_form) (λ _. 20)
segment_within = viewed_within segment_with segment_fields (pair_within (number_within w32 wide32) (pair_within (number_within w64 wide64) (number_within w64 wide64)))

node_within : IsWithin node_row (λ _. 98)
unfolding node_row
node_within = viewed_within node_with node_fields (pair_within (name_within 64) (name_within 30))

-- a version is spelled with all its copies
same_copies : (v : Version) (since : Option ℕ) (f : VersionFields) → fields_at v since ≡ Some f → f.1.1.1.1.1.1 ≡ v.copies
same_copies v None f e = absurd cc
same_copies v (Some day) f e = ap (λ (g : VersionFields). g.1.1.1.1.1.1) (sym (same_Some (fields_since v day) f e))

-- versions hold as many items as those that are spelled for them
same_items : (vs : List Version) → length (as_spelled vs) + sum_by items_of_version (as_spelled vs) ≡ length vs + sum_by items_of_version vs
same_items [] = refl
same_items (newest ∷ older) = refl

pub items_of_more : (h : ℕ × HeldRow) (hs : List (ℕ × HeldRow)) → items_of_held (h ∷ hs) ≡ items_with h.1.held.version.copies + items_of_held hs
items_of_more h hs = sum_by-cons (λ (r : HeldRow). items_with r.held.version.copies) h.1 (values_of hs)

-- held objects are items, and hold those of what is kept of them
pub items_of_each : (hs : List (ℕ × HeldRow)) → length hs + sum_by (λ h. items_of_version h.1.held.version) hs ≡ items_of_held hs
items_of_each [] = refl
items_of_each (h ∷ hs) =
    omega (arith, items_of_more h hs, sum_by-cons (λ (e : ℕ × HeldRow). items_of_version e.1.held.version) h hs, items_of_each hs)

-- k bytes for each item, which is more than a row takes with its key and the counts of its lists
module _ {k : ℕ} (large : 4000 ≤ k) where
  pub nodes_within : IsWithin nodes (λ ns. 4 + k * length ns)
  nodes_within = table_of_rows k nat_cmp 4294967295 (number_within w32 wide32) node_within (omega (arith, large))

  segments_within : IsWithin (segments second_form) (λ ss. 4 + k * length ss)
  segments_within = list_of_rows k 4294967295 segment_within (omega (arith, large))

  copy_within : IsWithin (copy_row second_form) (λ c. 16 + k * length c.segments)
  unfolding copy_row
  copy_within = weakened (viewed_within copy_with copy_fields (pair_within (number_within w32 wide32) (pair_within (number_within w64 wide64) segments_within))) (λ c. omega arith)

  copies_within : IsWithin (copies second_form) (λ cs. 4 + k * (length cs + sum_by (λ c. length c.segments) cs))
  unfolding copies
  copies_within = only_within are_by_pool (list_of_lists k 16 (λ c. length c.segments) 4294967295 copy_within (omega (arith, large)))

  dated_fields_within : IsWithin (dated_fields second_form) (λ f. 68 + k * (length f.1.1.1.1.1.1 + sum_by (λ c. length c.segments) f.1.1.1.1.1.1))
  unfolding dated_fields
  dated_fields_within =
      weakened (pair_within (number_within w64 wide64) (pair_within size_within (pair_within (number_within w64 wide64)
      (pair_within digest_within (pair_within day_within (pair_within day_within copies_within))))))
      (λ f. omega arith)

  version_within : IsWithin (dated second_form) (λ v. 68 + k * items_of_version v)
  unfolding dated
  version_within = variant_within version_with version_fields dated_fields_within (λ v f e. same v f (same_copies v v.since f e)) where
    same : (v : Version) (f : VersionFields) → f.1.1.1.1.1.1 ≡ v.copies → 68 + k * (length f.1.1.1.1.1.1 + sum_by (λ c. length c.segments) f.1.1.1.1.1.1) ≤ 68 + k * items_of_version v
    same v f e = rw e (omega arith)

  group_within : IsWithin (group_row second_form) (λ g. 37 + k * items_of_group g)
  unfolding group_row
  group_within =
      weakened (partly_within group_with group_fields (pair_within (name_within 30) (pair_within flag_within (list_of_lists k 68 items_of_version 4294967295 version_within (omega (arith, large))))))
      (λ g. rw (same_items g.versions) (omega arith))

  filespace_within : IsWithin (filespace_row second_form) (λ f. 74 + k * items_of_filespace f)
  unfolding filespace_row
  filespace_within =
      weakened (viewed_within filespace_with filespace_fields (pair_within (number_within w32 wide32) (pair_within (path_within 64) (table_of_lists k 37 items_of_group (slice_cmp nat_cmp) 4294967295 (path_within 1024) group_within (omega (arith, large))))))
      (λ f. omega arith)

  pub filespaces_within : IsWithin (filespaces second_form) (λ fs. 4 + k * (length fs + sum_by (λ f. items_of_filespace f.1) fs))
  filespaces_within = table_of_lists k 74 items_of_filespace nat_cmp 4294967295 (number_within w32 wide32) filespace_within (omega (arith, large))

  held_row_within : IsWithin held_row (λ h. 1348 + k * items_of_version h.held.version)
  unfolding held_row
  held_row_within =
      weakened (partly_within (λ f. Some (held_with f)) held_fields (pair_within (number_within w32 wide32) (pair_within (path_within 1024) (pair_within description_within (pair_within size_within
      (pair_within (number_within w64 wide64) (pair_within digest_within (pair_within day_within (pair_within (option_within (number_within w32 wide32)) copies_within)))))))))
      (λ h. omega arith)

  pub held_within : IsWithin held (λ hs. 4 + k * items_of_held hs)
  held_within =
      weakened (table_of_lists k 1348 (λ h. items_of_version h.held.version) nat_cmp 4294967295 (number_within w64 wide64) held_row_within (omega (arith, large)))
      (λ hs. rw (items_of_each hs) (omega arith))
