-- The bytes of client nodes, filespaces and held objects, and that they are forms.
use Rattle.std.proofs.Common.{sym, ap}
use Rattle.std.proofs.lemmas.Option.{same_Some}
use Rattle.std.specs.Prelude.{◌≡◌, ℕ, List, Option, Some, None, refl}
use Rattle.std.specs.Cmp.Lexicographic.{slice_cmp}
use Rattle.std.specs.Int.{w32, w64}
use Rattle.std.specs.Ordering.{nat_cmp}
use Rattle.fields.specs.Forms.{Form, IsForm, number, pair, viewed, partly, option, ascending}
use Rattle.fields.specs.FieldLaws.{number_form, wide32, wide64}
use Rattle.fields.specs.FormLaws.{pair_form, viewed_form, partly_form, option_form}
use Rattle.fields.specs.ListLaws.{ascending_form}
use Rattle.fields.specs.Editions.{Edition, second_form}
use Rattle.kinds.specs.declared.segment.Digest.{Digest}
use Rattle.kinds.specs.ValueForms.{name, name_form, path, path_form, description, description_form, size, size_form, digest, digest_form, day, day_form}
use Rattle.inventory_rows.specs.version_groups.declared.group.Group.{Group}
use Rattle.inventory_rows.specs.version_groups.declared.groups.Filespace.{Filespace}
use Rattle.inventory_rows.specs.version_groups.declared.copies.CopyRow.{CopyRow}
use Rattle.inventory_rows.specs.object_rows.declared.held_object.HeldRow.{HeldRow}
use Rattle.inventory_rows.specs.object_rows.declared.place.Node.{Node}
use Rattle.inventory_bytes.specs.VersionForms.{copies, copies_form, group_row, group_row_form}

-- a node: its name, and that of its domain
abbrev pub node_with : List ℕ × List ℕ → Node
node_with f = record { name = f.0; domain = f.1 }

abbrev pub node_fields : Node → List ℕ × List ℕ
node_fields n = (n.name, n.domain)

unfoldable pub node_row : Form Node
node_row = viewed node_with node_fields (pair (name 64) (name 30))

-- the nodes by number
abbrev pub nodes : Form (List (ℕ × Node))
nodes = ascending nat_cmp 4294967295 (number w32) node_row

-- a filespace: its node's number, its name, and its groups by path
abbrev pub filespace_with : ℕ × (List ℕ × List (List ℕ × Group)) → Filespace
filespace_with f = record { node = f.0; name = f.1.0; groups = f.1.1 }

abbrev pub filespace_fields : Filespace → ℕ × (List ℕ × List (List ℕ × Group))
filespace_fields f = (f.node, (f.name, f.groups))

unfoldable pub filespace_row : Edition → Form Filespace
filespace_row e = viewed filespace_with filespace_fields (pair (number w32) (pair (path 64) (ascending (slice_cmp nat_cmp) 4294967295 (path 1024) (group_row e))))

-- the filespaces by number
abbrev pub filespaces : Edition → Form (List (ℕ × Filespace))
filespaces e = ascending nat_cmp 4294967295 (number w32) (filespace_row e)

-- A held object without its number, under which it stands: its filespace, its path, its description, its size, its time, its digest, the day on which
-- it was stored, the day until which it is held, or none, and its copies. It is spelled in the second form alone.
abbrev pub HeldFields : Type 0
HeldFields = ℕ × (List ℕ × (List ℕ × (ℕ × (ℕ × (Digest × (ℕ × (Option ℕ × List CopyRow)))))))

abbrev pub held_with : HeldFields → HeldRow
held_with f = record {
  filespace = f.0;
  held = record {
    path = f.1.0;
    description = f.1.1.0;
    version = record {
      object = 0;
      size = f.1.1.1.0;
      mtime = f.1.1.1.1.0;
      digest = f.1.1.1.1.1.0;
      stored = f.1.1.1.1.1.1.0;
      since = None;
      copies = f.1.1.1.1.1.1.1.1;
    };
    until = f.1.1.1.1.1.1.1.0;
  };
}

abbrev pub held_fields : HeldRow → HeldFields
held_fields r = (r.filespace, (r.held.path, (r.held.description, (r.held.version.size, (r.held.version.mtime, (r.held.version.digest, (r.held.version.stored, (r.held.until, r.held.version.copies))))))))

abbrev pub held_bytes : Form HeldFields
held_bytes = pair (number w32) (pair (path 1024) (pair description (pair (size second_form) (pair (number w64) (pair digest (pair day (pair (option (number w32)) (copies second_form))))))))

unfoldable pub held_row : Form HeldRow
held_row = partly (λ f. Some (held_with f)) held_fields held_bytes

-- the held objects by number
abbrev pub held : Form (List (ℕ × HeldRow))
held = ascending nat_cmp 4294967295 (number w64) held_row

-- ---- laws

pub node_row_form : IsForm node_row
unfolding node_row
node_row_form = viewed_form node_with node_fields (λ _. refl) (λ _. refl) (pair_form (name_form 64) (name_form 30))

pub nodes_form : IsForm nodes
nodes_form = ascending_form nat_cmp 4294967295 (number_form w32 wide32) node_row_form

pub filespace_row_form : (e : Edition) → IsForm (filespace_row e)
unfolding filespace_row
filespace_row_form e = viewed_form filespace_with filespace_fields (λ _. refl) (λ _. refl) (pair_form (number_form w32 wide32) (pair_form (path_form 64) (ascending_form (slice_cmp nat_cmp) 4294967295 (path_form 1024) (group_row_form e))))

pub filespaces_form : (e : Edition) → IsForm (filespaces e)
filespaces_form e = ascending_form nat_cmp 4294967295 (number_form w32 wide32) (filespace_row_form e)

held_back : (f : HeldFields) (r : HeldRow) → Some (held_with f) ≡ Some r → held_fields r ≡ f
held_back f r h = ap held_fields (sym (same_Some (held_with f) r h))

pub held_row_form : IsForm held_row
unfolding held_row
held_row_form = partly_form (λ f. Some (held_with f)) held_fields held_back
    (pair_form (number_form w32 wide32) (pair_form (path_form 1024) (pair_form description_form (pair_form (size_form second_form) (pair_form (number_form w64 wide64) (pair_form digest_form (pair_form day_form (pair_form (option_form (number_form w32 wide32)) (copies_form second_form)))))))))

pub held_form : IsForm held
held_form = ascending_form nat_cmp 4294967295 (number_form w64 wide64) held_row_form
