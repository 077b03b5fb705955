-- The bytes of the changes of client nodes and filespaces, by their tags: 8 a node, 24 a filespace.
use Rattle.std.specs.Prelude.{◌≡◌, ℕ, List, Option, Some, None, refl}
use Rattle.std.specs.Int.{w32}
use Rattle.std.proofs.Common.{sym, ap}
use Rattle.std.proofs.lemmas.Option.{same_Some}
use Rattle.fields.specs.Forms.{Form, number, pair, variant, row, no_more}
use Rattle.fields.specs.FieldLaws.{number_form, wide32}
use Rattle.fields.specs.FormLaws.{IsTable, pair_form, row_table, no_more_table, variant_row}
use Rattle.kinds.specs.declared.change.DefineOrDelete.{DefineOrDelete}
use Rattle.kinds.specs.declared.change.ObjectChange.{ObjectChange}
use Rattle.kinds.specs.declared.change.ObjectChange.TheVariants.{Node, Filespace}
use Rattle.kinds.specs.ValueForms.{name, name_form, path, path_form}
use Rattle.kinds.specs.VerbForms.{define_or_delete, define_or_delete_form}

abbrev pub object_tag : ObjectChange → ℕ
object_tag (Node v n d) = 8
object_tag (Filespace v n s f) = 24

-- the verb, the node's name, and its domain
abbrev pub NodeFields : Type 0
NodeFields = DefineOrDelete × (List ℕ × List ℕ)

abbrev pub node_fields : Form NodeFields
node_fields = pair define_or_delete (pair (name 64) (name 30))

abbrev pub node_with : NodeFields → ObjectChange
node_with f = Node f.0 f.1.0 f.1.1

abbrev pub node_of : ObjectChange → Option NodeFields
node_of (Node v n d) = Some (v, (n, d))
node_of _ = None

-- the verb, the node's number, the filespace's name, and its number
abbrev pub FilespaceFields : Type 0
FilespaceFields = DefineOrDelete × (ℕ × (List ℕ × ℕ))

abbrev pub filespace_fields : Form FilespaceFields
filespace_fields = pair define_or_delete (pair (number w32) (pair (path 64) (number w32)))

abbrev pub filespace_with : FilespaceFields → ObjectChange
filespace_with f = Filespace f.0 f.1.0 f.1.1.0 f.1.1.1

abbrev pub filespace_of : ObjectChange → Option FilespaceFields
filespace_of (Filespace v n s f) = Some (v, (n, (s, f)))
filespace_of _ = None

-- what follows each tag
unfoldable pub object_body : ℕ → Form ObjectChange
object_body = row 8 (variant node_with node_of node_fields) (row 24 (variant filespace_with filespace_of filespace_fields) no_more)

-- ---- laws

node_back : (c : ObjectChange) (f : NodeFields) → node_of c ≡ Some f → node_with f ≡ c
node_back (Node v n d) f e = ap node_with (sym (same_Some (v, (n, d)) f e))
node_back _ f e = absurd cc

filespace_back : (c : ObjectChange) (f : FilespaceFields) → filespace_of c ≡ Some f → filespace_with f ≡ c
filespace_back (Filespace v n s k) f e = ap filespace_with (sym (same_Some (v, (n, (s, k))) f e))
filespace_back _ f e = absurd cc

pub object_table : IsTable object_tag object_body
unfolding object_body
object_table = row_table (variant_row object_tag 8 node_with node_of (λ _. refl) (λ _. refl) node_back (pair_form define_or_delete_form (pair_form (name_form 64) (name_form 30))))
    (row_table (variant_row object_tag 24 filespace_with filespace_of (λ _. refl) (λ _. refl) filespace_back (pair_form define_or_delete_form (pair_form (number_form w32 wide32) (pair_form (path_form 64) (number_form w32 wide32)))))
    (no_more_table object_tag))
