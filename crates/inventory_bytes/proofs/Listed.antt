-- The segments in the order in which they are put are those of all copies.
use Rattle.std.proofs.Common.{◌≡◌, ℕ, Bool, true, false, cond, ◌&&◌, List, [], ◌∷◌, ◌++◌, map, filter, refl, sym, ap, ◌∙◌}
use Rattle.std.specs.Prelude.{◌==◌}
use Rattle.std.specs.List.{flat_map, list_all}
use Rattle.std.proofs.lemmas.Grind.{flat_map-append}
use Rattle.std.proofs.lemmas.List.Elements.{filter-append}
use Rattle.std.proofs.lemmas.List.Folds.{flat_map-map, list_all-append, list_all-map}
use Rattle.kinds.specs.declared.segment.Segment.{Segment}
use Rattle.inventory_rows.specs.version_groups.declared.copies.CopyRow.{CopyRow}
use Rattle.inventory_rows.specs.version_groups.declared.group.Group.{Group}
use Rattle.inventory_rows.specs.version_groups.declared.groups.Filespace.{Filespace}
use Rattle.inventory_rows.specs.version_groups.declared.versions.Version.{Version}
use Rattle.inventory_rows.specs.object_rows.Filespaces.{versions_in, versions_of}
use Rattle.inventory_rows.specs.object_rows.HeldRows.{held_versions}
use Rattle.inventory_rows.specs.object_rows.Rows.{Rows, kept_of}
use Rattle.inventory_rows.specs.Search.{copies, segments_on}
use Rattle.inventory_rows.specs.State.{Inv}
use Rattle.inventory_bytes.specs.Segments.{is_there, are_there, all_lie, of_segments, of_copies, of_versions, of_groups, of_filespaces, of_kept}

abbrev of_pair : ℕ × CopyRow → List (ℕ × Segment)
of_pair e = of_segments e.0 e.1.segments

abbrev pairs : Version → List (ℕ × CopyRow)
pairs version = map (λ c. (version.object, c)) version.copies

by_version : (vs : List Version) → of_versions vs ≡ flat_map of_pair (flat_map pairs vs)
by_version [] = refl
by_version (v ∷ vs) =
    ap (λ (l : List (ℕ × Segment)). l ++ of_versions vs) (sym (flat_map-map of_pair (λ (c : CopyRow). (v.object, c)) v.copies))
    ∙ ap (λ (l : List (ℕ × Segment)). flat_map of_pair (pairs v) ++ l) (by_version vs)
    ∙ sym (flat_map-append of_pair (pairs v) (flat_map pairs vs))

by_group : (groups : List (List ℕ × Group)) → of_groups groups ≡ of_versions (versions_in groups)
by_group [] = refl
by_group (g ∷ groups) =
    ap (λ (l : List (ℕ × Segment)). of_versions g.1.versions ++ l) (by_group groups)
    ∙ sym (flat_map-append (λ (v : Version). of_copies v.object v.copies) g.1.versions (versions_in groups))

by_filespace : (filespaces : List (ℕ × Filespace)) → of_filespaces filespaces ≡ of_versions (versions_of filespaces)
by_filespace [] = refl
by_filespace (f ∷ filespaces) =
    ap (λ (l : List (ℕ × Segment)). l ++ of_filespaces filespaces) (by_group f.1.groups)
    ∙ ap (λ (l : List (ℕ × Segment)). of_versions (versions_in f.1.groups) ++ l) (by_filespace filespaces)
    ∙ sym (flat_map-append (λ (v : Version). of_copies v.object v.copies) (versions_in f.1.groups) (versions_of filespaces))

by_rows : (rows : Rows) → of_kept rows.filespaces rows.held ≡ of_versions (kept_of rows)
by_rows rows =
    ap (λ (l : List (ℕ × Segment)). l ++ of_versions (held_versions rows.held)) (by_filespace rows.filespaces)
    ∙ sym (flat_map-append (λ (v : Version). of_copies v.object v.copies) (versions_of rows.filespaces) (held_versions rows.held))

all_listed : (v : Inv) → of_kept v.clients.filespaces v.clients.held ≡ flat_map of_pair (copies v)
all_listed v = by_rows v.clients ∙ by_version (kept_of v.clients)

-- ---- which of them pass a test

module _ (test : Segment → Bool) where
  abbrev passes : ℕ × Segment → Bool
  passes s = test s.1

  passing_of : (object : ℕ) (segments : List Segment) → filter passes (of_segments object segments) ≡ of_segments object (filter test segments)
  passing_of object [] = refl
  passing_of object (s ∷ segments) =
      elim (test s) as (λ b. cond b ((object, s) ∷ filter passes (of_segments object segments)) (filter passes (of_segments object segments)) ≡ of_segments object (cond b (s ∷ filter test segments) (filter test segments))) [
        | true ↦ ap (λ (l : List (ℕ × Segment)). (object, s) ∷ l) (passing_of object segments)
        | false ↦ passing_of object segments
      ]

  passing : (es : List (ℕ × CopyRow)) → filter passes (flat_map of_pair es) ≡ flat_map (λ e. of_segments e.0 (filter test e.1.segments)) es
  passing [] = refl
  passing (e ∷ es) =
      filter-append passes (of_pair e) (flat_map of_pair es)
      ∙ ap (λ (l : List (ℕ × Segment)). l ++ filter passes (flat_map of_pair es)) (passing_of e.0 e.1.segments)
      ∙ ap (λ (l : List (ℕ × Segment)). of_segments e.0 (filter test e.1.segments) ++ l) (passing es)

  all_passing : (es : List (ℕ × CopyRow)) → list_all passes (flat_map of_pair es) ≡ list_all (λ e. list_all test e.1.segments) es
  all_passing [] = refl
  all_passing (e ∷ es) =
      list_all-append passes (of_pair e) (flat_map of_pair es)
      ∙ ap (λ b. b && list_all passes (flat_map of_pair es)) (list_all-map passes (λ (s : Segment). (e.0, s)) e.1.segments)
      ∙ ap (λ b. list_all test e.1.segments && b) (all_passing es)

-- those on a volume
pub listed_on : (v : Inv) (file : ℕ) → filter (λ s. s.1.file == file) (of_kept v.clients.filespaces v.clients.held) ≡ segments_on file v
listed_on v file = ap (filter (λ (s : ℕ × Segment). s.1.file == file)) (all_listed v) ∙ passing (λ s. s.file == file) (copies v)

-- each of them lies on a volume that is there
pub listed_lie : (v : Inv) → are_there v.clients.filespaces v.clients.held v.stores.volumes ≡ all_lie v
listed_lie v = ap (list_all (λ (s : ℕ × Segment). is_there v.stores.volumes s.1)) (all_listed v) ∙ all_passing (is_there v.stores.volumes) (copies v)
