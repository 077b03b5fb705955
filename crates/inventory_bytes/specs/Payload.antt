-- The bytes of the whole database, and that they are a form.
use Rattle.std.specs.Prelude.{◌≡◌, ℕ, List, [], map, Option, Some, if◌then◌else◌, refl}
use Rattle.std.specs.Int.{w32, w64}
use Rattle.fields.specs.Forms.{Form, IsForm, number, pair, viewed, marked}
use Rattle.fields.specs.FieldLaws.{number_form, wide32, wide64}
use Rattle.fields.specs.FormLaws.{pair_form, viewed_form, marked_form}
use Rattle.fields.specs.Editions.{Edition, is_second, added, added_form}
use Rattle.kinds.specs.ValueForms.{day, day_form}
use Rattle.inventory_rows.specs.policy_domains.Rows.{DomainRow}
use Rattle.inventory_rows.specs.object_rows.declared.held_object.HeldRow.{HeldRow}
use Rattle.inventory_rows.specs.object_rows.declared.place.Node.{Node}
use Rattle.inventory_rows.specs.object_rows.Rows.{IsSound}
use Rattle.inventory_rows.specs.pool_tables.declared.pool.Pool.{Pool}
use Rattle.inventory_rows.specs.pool_rows.PoolRows.{PoolRows, with_rows}
use Rattle.inventory_rows.specs.version_groups.declared.groups.Filespace.{Filespace}
use Rattle.inventory_rows.specs.volume_rows.declared.volume.Volume.{Volume}
use Rattle.inventory_rows.specs.declared.backup.Backup.{Backup}
use Rattle.inventory_rows.specs.State.{Inv}
use Rattle.inventory_bytes.specs.PolicyForms.{domains, domains_form}
use Rattle.inventory_bytes.specs.ClientForms.{nodes, nodes_form, filespaces, filespaces_form, held, held_form}
use Rattle.inventory_bytes.specs.StoreForms.{classes, classes_form, pools, pools_form, volumes, volumes_form, backups, backups_form}
use Rattle.inventory_bytes.specs.declared.numbers.Numbers.{Numbers}

-- the number of the last transaction, the day, and the next numbers of nodes, filespaces, pools, files and objects
abbrev pub NumberFields : Type 0
NumberFields = ℕ × (ℕ × (ℕ × (ℕ × (ℕ × (ℕ × ℕ)))))

abbrev pub numbers_with : NumberFields → Numbers
numbers_with f = record {
  number = f.0;
  today = f.1.0;
  next_node = f.1.1.0;
  next_filespace = f.1.1.1.0;
  next_pool = f.1.1.1.1.0;
  next_file = f.1.1.1.1.1.0;
  next_object = f.1.1.1.1.1.1;
}

abbrev pub number_fields : Numbers → NumberFields
number_fields n = (n.number, (n.today, (n.next_node, (n.next_filespace, (n.next_pool, (n.next_file, n.next_object))))))

unfoldable pub numbers : Form Numbers
numbers = viewed numbers_with number_fields (pair (number w64) (pair day (pair (number w32) (pair (number w32) (pair (number w32) (pair (number w32) (number w64)))))))

-- the nodes, and the filespaces with their versions
abbrev pub ClientFields : Type 0
ClientFields = List (ℕ × Node) × List (ℕ × Filespace)

unfoldable pub clients : Edition → Form ClientFields
clients e = pair nodes (filespaces e)

-- the held objects, which the second form adds
unfoldable pub held_objects : Edition → Form (List (ℕ × HeldRow))
held_objects e = added e [] held

-- the device classes, the pools, and the volumes without the segments on them
abbrev pub StoreFields : Type 0
StoreFields = List (List ℕ × Option ℕ) × (List (ℕ × Pool) × List (ℕ × Volume))

abbrev pub stores_with : StoreFields → PoolRows
stores_with f = record { classes = f.0; pools = f.1.0; volumes = f.1.1 }

abbrev pub store_fields : PoolRows → StoreFields
store_fields rows = (rows.classes, (rows.pools, rows.volumes))

unfoldable pub stores : Edition → Form PoolRows
stores e = viewed stores_with store_fields (pair classes (pair (pools e) volumes))

-- The database: the number of the form, 1 or 2, the numbers, the domains, the nodes and filespaces, the device classes, pools and
-- volumes, the listed backups, and the held objects.
abbrev pub Fields : Type 0
Fields = Numbers × (List (List ℕ × DomainRow) × (ClientFields × (PoolRows × (List (ℕ × Backup) × List (ℕ × HeldRow)))))

abbrev pub inv_with : Fields → Inv
inv_with f = record {
  number = f.0.number;
  today = f.0.today;
  next_node = f.0.next_node;
  next_filespace = f.0.next_filespace;
  next_pool = f.0.next_pool;
  next_file = f.0.next_file;
  next_object = f.0.next_object;
  domains = f.1.0;
  clients = record { nodes = f.1.1.0.0; filespaces = f.1.1.0.1; held = f.1.1.1.1.1 };
  stores = f.1.1.1.0;
  backups = f.1.1.1.1.0;
}

abbrev pub numbers_of : Inv → Numbers
numbers_of v = record {
  number = v.number;
  today = v.today;
  next_node = v.next_node;
  next_filespace = v.next_filespace;
  next_pool = v.next_pool;
  next_file = v.next_file;
  next_object = v.next_object;
}

abbrev pub fields_of : Inv → Fields
fields_of v = (numbers_of v, (v.domains, ((v.clients.nodes, v.clients.filespaces), (v.stores, (v.backups, v.clients.held)))))

-- the number of the form
abbrev pub mark : Edition → ℕ
mark e = if is_second e then 2 else 1

unfoldable pub payload : Edition → Form Inv
payload e = marked (mark e) (viewed inv_with fields_of (pair numbers (pair (domains e) (pair (clients e) (pair (stores e) (pair (backups e) (held_objects e)))))))

-- the volumes without the segments on them
abbrev pub unheld_volume : Volume → Volume
unheld_volume v = record v { segments = [] }

abbrev pub unheld_volumes : List (ℕ × Volume) → List (ℕ × Volume)
unheld_volumes volumes = map (λ f. (f.0, unheld_volume f.1)) volumes

abbrev pub unheld_stores : PoolRows → PoolRows
unheld_stores rows = record rows { volumes = unheld_volumes rows.volumes }

-- the held objects without their numbers, and with those under which they stand
abbrev pub with_number : ℕ → HeldRow → HeldRow
with_number object row = record row { held = record (row.held) { version = record (row.held.version) { object = object } } }

abbrev pub unnumbered : List (ℕ × HeldRow) → List (ℕ × HeldRow)
unnumbered held = map (λ h. (h.0, with_number 0 h.1)) held

abbrev pub numbered : List (ℕ × HeldRow) → List (ℕ × HeldRow)
numbered held = map (λ h. (h.0, with_number h.0 h.1)) held

-- the database whose held objects have the numbers under which they stand
abbrev pub having_numbers : Inv → Inv
having_numbers v = record v { clients = record v.clients { held = numbered v.clients.held } }

-- the database as it is spelled: without the segments on its volumes, which stand with the copies, and without the numbers in its held objects
abbrev pub unheld : Inv → Inv
unheld v = record v { stores = unheld_stores v.stores; clients = record v.clients { held = unnumbered v.clients.held } }

-- The parts are such as tables hold them: no two nodes have one name, nor do two filespaces of one node, no two objects that are kept have one
-- number, each group has a version, each held object stands under its number, no two pools or volumes have one name, and a volume has the name of a scratch volume exactly where it
-- is one.
pub record AreSound (v : Inv) : Type 0 where
  pub clients : IsSound v.clients
  pub stores : with_rows v.stores.classes v.stores.pools v.stores.volumes ≡ Some v.stores

-- ---- laws

pub numbers_form : IsForm numbers
unfolding numbers
numbers_form = viewed_form numbers_with number_fields (λ _. refl) (λ _. refl)
    (pair_form (number_form w64 wide64) (pair_form day_form (pair_form (number_form w32 wide32) (pair_form (number_form w32 wide32) (pair_form (number_form w32 wide32) (pair_form (number_form w32 wide32) (number_form w64 wide64)))))))

pub clients_form : (e : Edition) → IsForm (clients e)
unfolding clients
clients_form e = pair_form nodes_form (filespaces_form e)

pub held_objects_form : (e : Edition) → IsForm (held_objects e)
unfolding held_objects
held_objects_form e = added_form e [] held_form

pub stores_form : (e : Edition) → IsForm (stores e)
unfolding stores
stores_form e = viewed_form stores_with store_fields (λ _. refl) (λ _. refl) (pair_form classes_form (pair_form (pools_form e) volumes_form))

pub payload_form : (e : Edition) → IsForm (payload e)
unfolding payload
payload_form e = marked_form (mark e) (viewed_form inv_with fields_of (λ _. refl) (λ _. refl) (pair_form numbers_form (pair_form (domains_form e) (pair_form (clients_form e) (pair_form (stores_form e) (pair_form (backups_form e) (held_objects_form e)))))))
