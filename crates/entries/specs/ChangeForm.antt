-- The bytes of a change: a tag, and what stands under it.
use Rattle.std.specs.Prelude.{◌≡◌, ℕ, Bool, ◌==◌, ◌&&◌, ◌||◌, nat_le, Option, Some, None, refl}
use Rattle.std.specs.Int.{w32}
use Rattle.std.proofs.Common.{sym, ap}
use Rattle.std.proofs.lemmas.Option.{same_Some}
use Rattle.fields.specs.Editions.{Edition, added, added_form, added_rows, added_rows_table}
use Rattle.fields.specs.Forms.{Form, IsForm, number, pair, option, variant, row, no_more, tagged}
use Rattle.fields.specs.FieldLaws.{number_form, wide32}
use Rattle.fields.specs.FormLaws.{IsTable, pair_form, option_form, row_table, no_more_table, variant_row, tagged_form}
use Rattle.kinds.specs.declared.change.ObjectChange.{ObjectChange}
use Rattle.kinds.specs.declared.change.PolicyChange.{PolicyChange}
use Rattle.kinds.specs.declared.change.PoolChange.{PoolChange}
use Rattle.kinds.specs.ValueForms.{day, day_form}
use Rattle.change_items.specs.BatchForms.{new_versions, new_versions_form, new_held_objects, new_held_objects_form, rebindings, rebindings_form, named_versions, named_versions_form, moved_copies, moved_copies_form, new_copies, new_copies_form, dropped_copies, dropped_copies_form, discarded_versions, discarded_versions_form}
use Rattle.entries.specs.NodeTags.{object_tag, object_body, object_table}
use Rattle.entries.specs.PolicyTags.{policy_tag, policy_body, policy_table}
use Rattle.entries.specs.PoolTags.{pool_tag, pool_body, pool_table}
use Rattle.entries.specs.Tables.{rows, held, rows_table, held_table}
use Rattle.entries.specs.declared.change.Change.{Change}
use Rattle.entries.specs.declared.change.Change.TheVariants.{Day, Policy, Object, Pool, Backup, Rebind, Gone, Move, Copy, DropCopies, Expire, Discard, Reuse, DbBegin, DbEnd, DbDelete, Hold}
use Rattle.change_items.specs.declared.lists.NewVersions.{NewVersions}
use Rattle.change_items.specs.declared.lists.NewHeldObjects.{NewHeldObjects}
use Rattle.change_items.specs.declared.lists.Rebindings.{Rebindings}
use Rattle.change_items.specs.declared.lists.NamedVersions.{NamedVersions}
use Rattle.change_items.specs.declared.lists.MovedCopies.{MovedCopies}
use Rattle.change_items.specs.declared.lists.NewCopies.{NewCopies}
use Rattle.change_items.specs.declared.lists.DroppedCopies.{DroppedCopies}
use Rattle.change_items.specs.declared.lists.DiscardedVersions.{DiscardedVersions}

-- the tag of a change
abbrev pub change_tag : Change → ℕ
change_tag (Day d) = 1
change_tag (Policy p) = policy_tag p
change_tag (Object o) = object_tag o
change_tag (Pool p) = pool_tag p
change_tag (Backup x) = 12
change_tag (Rebind x) = 13
change_tag (Gone x) = 14
change_tag (Move x) = 15
change_tag (Copy x) = 16
change_tag (DropCopies x) = 17
change_tag (Expire x) = 18
change_tag (Discard x) = 19
change_tag (Reuse f) = 20
change_tag (DbBegin f a) = 21
change_tag (DbEnd f) = 22
change_tag (DbDelete f) = 23
change_tag (Hold x) = 25

-- ---- each variant, and what it holds

abbrev pub day_with : ℕ → Change
day_with d = Day d

abbrev pub day_of : Change → Option ℕ
day_of (Day d) = Some d
day_of _ = None

abbrev pub policy_with : PolicyChange → Change
policy_with x = Policy x

abbrev pub policy_of : Change → Option PolicyChange
policy_of (Policy x) = Some x
policy_of _ = None

abbrev pub object_with : ObjectChange → Change
object_with x = Object x

abbrev pub object_of : Change → Option ObjectChange
object_of (Object x) = Some x
object_of _ = None

abbrev pub pool_with : PoolChange → Change
pool_with x = Pool x

abbrev pub pool_of : Change → Option PoolChange
pool_of (Pool x) = Some x
pool_of _ = None

abbrev pub backup_with : NewVersions → Change
backup_with x = Backup x

abbrev pub backup_of : Change → Option NewVersions
backup_of (Backup x) = Some x
backup_of _ = None

abbrev pub rebind_with : Rebindings → Change
rebind_with x = Rebind x

abbrev pub rebind_of : Change → Option Rebindings
rebind_of (Rebind x) = Some x
rebind_of _ = None

abbrev pub gone_with : NamedVersions → Change
gone_with x = Gone x

abbrev pub gone_of : Change → Option NamedVersions
gone_of (Gone x) = Some x
gone_of _ = None

abbrev pub move_with : MovedCopies → Change
move_with x = Move x

abbrev pub move_of : Change → Option MovedCopies
move_of (Move x) = Some x
move_of _ = None

abbrev pub copy_with : NewCopies → Change
copy_with x = Copy x

abbrev pub copy_of : Change → Option NewCopies
copy_of (Copy x) = Some x
copy_of _ = None

abbrev pub drop_copies_with : DroppedCopies → Change
drop_copies_with x = DropCopies x

abbrev pub drop_copies_of : Change → Option DroppedCopies
drop_copies_of (DropCopies x) = Some x
drop_copies_of _ = None

abbrev pub expire_with : NamedVersions → Change
expire_with x = Expire x

abbrev pub expire_of : Change → Option NamedVersions
expire_of (Expire x) = Some x
expire_of _ = None

abbrev pub discard_with : DiscardedVersions → Change
discard_with x = Discard x

abbrev pub discard_of : Change → Option DiscardedVersions
discard_of (Discard x) = Some x
discard_of _ = None

abbrev pub reuse_with : ℕ → Change
reuse_with x = Reuse x

abbrev pub reuse_of : Change → Option ℕ
reuse_of (Reuse x) = Some x
reuse_of _ = None

-- the file, and the backup that this one follows
abbrev pub BeginFields : Type 0
BeginFields = ℕ × Option ℕ

abbrev pub begin_fields : Edition → Form BeginFields
begin_fields e = pair (number w32) (added e None (option (number w32)))

abbrev pub db_begin_with : BeginFields → Change
db_begin_with x = DbBegin x.0 x.1

abbrev pub db_begin_of : Change → Option BeginFields
db_begin_of (DbBegin f a) = Some (f, a)
db_begin_of _ = None

abbrev pub db_end_with : ℕ → Change
db_end_with x = DbEnd x

abbrev pub db_end_of : Change → Option ℕ
db_end_of (DbEnd x) = Some x
db_end_of _ = None

abbrev pub db_delete_with : ℕ → Change
db_delete_with x = DbDelete x

abbrev pub db_delete_of : Change → Option ℕ
db_delete_of (DbDelete x) = Some x
db_delete_of _ = None

abbrev pub hold_with : NewHeldObjects → Change
hold_with x = Hold x

abbrev pub hold_of : Change → Option NewHeldObjects
hold_of (Hold x) = Some x
hold_of _ = None

-- ---- what follows each tag

-- the tags of the changes of stored objects: 12 to 20, and in the second form 25
unfoldable pub data_body : Edition → ℕ → Form Change
data_body e = row 12 (variant backup_with backup_of (new_versions e)) (row 13 (variant rebind_with rebind_of rebindings) (row 14 (variant gone_with gone_of named_versions)
    (row 15 (variant move_with move_of (moved_copies e)) (row 16 (variant copy_with copy_of (new_copies e)) (row 17 (variant drop_copies_with drop_copies_of dropped_copies)
    (row 18 (variant expire_with expire_of named_versions) (row 19 (variant discard_with discard_of discarded_versions) (row 20 (variant reuse_with reuse_of (number w32))
    (added_rows e (row 25 (variant hold_with hold_of new_held_objects) no_more))))))))))

-- the tags of the changes of database backups: 21 to 23
unfoldable pub database_body : Edition → ℕ → Form Change
database_body e = row 21 (variant db_begin_with db_begin_of (begin_fields e)) (row 22 (variant db_end_with db_end_of (number w32)) (row 23 (variant db_delete_with db_delete_of (number w32)) no_more))

abbrev pub is_policy : ℕ → Bool
is_policy tag = (nat_le 2 tag && nat_le tag 7) || tag == 26

abbrev pub is_object : ℕ → Bool
is_object tag = tag == 8 || tag == 24

abbrev pub is_pool : ℕ → Bool
is_pool tag = nat_le 9 tag && nat_le tag 11

abbrev pub is_data : ℕ → Bool
is_data tag = (nat_le 12 tag && nat_le tag 20) || tag == 25

-- 1 is a new day, 2 to 7 and 26 change policy domains, 8 and 24 client nodes and filespaces, 9 to 11 device classes, storage pools
-- and volumes, 12 to 20 and 25 stored objects, 21 to 23 database backups
unfoldable pub change_body : Edition → ℕ → Form Change
change_body e = row 1 (variant day_with day_of day) (rows is_policy (held policy_with policy_of (policy_body e)) (rows is_object (held object_with object_of object_body)
    (rows is_pool (held pool_with pool_of (pool_body e)) (rows is_data (data_body e) (database_body e)))))

-- a change: its tag, and what follows it
unfoldable pub change : Edition → Form Change
change e = tagged change_tag (change_body e)

-- ---- laws

day_back : (c : Change) (d : ℕ) → day_of c ≡ Some d → day_with d ≡ c
day_back (Day k) d e = ap day_with (sym (same_Some k d e))
day_back _ d e = absurd cc

policy_back : (c : Change) (x : PolicyChange) → policy_of c ≡ Some x → policy_with x ≡ c
policy_back (Policy k) x e = ap policy_with (sym (same_Some k x e))
policy_back _ x e = absurd cc

object_back : (c : Change) (x : ObjectChange) → object_of c ≡ Some x → object_with x ≡ c
object_back (Object k) x e = ap object_with (sym (same_Some k x e))
object_back _ x e = absurd cc

pool_back : (c : Change) (x : PoolChange) → pool_of c ≡ Some x → pool_with x ≡ c
pool_back (Pool k) x e = ap pool_with (sym (same_Some k x e))
pool_back _ x e = absurd cc

backup_back : (c : Change) (x : NewVersions) → backup_of c ≡ Some x → backup_with x ≡ c
backup_back (Backup k) x e = ap backup_with (sym (same_Some k x e))
backup_back _ x e = absurd cc

rebind_back : (c : Change) (x : Rebindings) → rebind_of c ≡ Some x → rebind_with x ≡ c
rebind_back (Rebind k) x e = ap rebind_with (sym (same_Some k x e))
rebind_back _ x e = absurd cc

gone_back : (c : Change) (x : NamedVersions) → gone_of c ≡ Some x → gone_with x ≡ c
gone_back (Gone k) x e = ap gone_with (sym (same_Some k x e))
gone_back _ x e = absurd cc

move_back : (c : Change) (x : MovedCopies) → move_of c ≡ Some x → move_with x ≡ c
move_back (Move k) x e = ap move_with (sym (same_Some k x e))
move_back _ x e = absurd cc

copy_back : (c : Change) (x : NewCopies) → copy_of c ≡ Some x → copy_with x ≡ c
copy_back (Copy k) x e = ap copy_with (sym (same_Some k x e))
copy_back _ x e = absurd cc

drop_copies_back : (c : Change) (x : DroppedCopies) → drop_copies_of c ≡ Some x → drop_copies_with x ≡ c
drop_copies_back (DropCopies k) x e = ap drop_copies_with (sym (same_Some k x e))
drop_copies_back _ x e = absurd cc

expire_back : (c : Change) (x : NamedVersions) → expire_of c ≡ Some x → expire_with x ≡ c
expire_back (Expire k) x e = ap expire_with (sym (same_Some k x e))
expire_back _ x e = absurd cc

discard_back : (c : Change) (x : DiscardedVersions) → discard_of c ≡ Some x → discard_with x ≡ c
discard_back (Discard k) x e = ap discard_with (sym (same_Some k x e))
discard_back _ x e = absurd cc

reuse_back : (c : Change) (x : ℕ) → reuse_of c ≡ Some x → reuse_with x ≡ c
reuse_back (Reuse k) x e = ap reuse_with (sym (same_Some k x e))
reuse_back _ x e = absurd cc

db_begin_back : (c : Change) (x : BeginFields) → db_begin_of c ≡ Some x → db_begin_with x ≡ c
db_begin_back (DbBegin k a) x e = ap db_begin_with (sym (same_Some (k, a) x e))
db_begin_back _ x e = absurd cc

db_end_back : (c : Change) (x : ℕ) → db_end_of c ≡ Some x → db_end_with x ≡ c
db_end_back (DbEnd k) x e = ap db_end_with (sym (same_Some k x e))
db_end_back _ x e = absurd cc

db_delete_back : (c : Change) (x : ℕ) → db_delete_of c ≡ Some x → db_delete_with x ≡ c
db_delete_back (DbDelete k) x e = ap db_delete_with (sym (same_Some k x e))
db_delete_back _ x e = absurd cc

hold_back : (c : Change) (x : NewHeldObjects) → hold_of c ≡ Some x → hold_with x ≡ c
hold_back (Hold k) x e = ap hold_with (sym (same_Some k x e))
hold_back _ x e = absurd cc

pub data_table : (e : Edition) → IsTable change_tag (data_body e)
unfolding data_body
data_table e = (row_table (variant_row change_tag 12 backup_with backup_of (λ _. refl) (λ _. refl) backup_back (new_versions_form e))
    (row_table (variant_row change_tag 13 rebind_with rebind_of (λ _. refl) (λ _. refl) rebind_back rebindings_form)
    (row_table (variant_row change_tag 14 gone_with gone_of (λ _. refl) (λ _. refl) gone_back named_versions_form)
    (row_table (variant_row change_tag 15 move_with move_of (λ _. refl) (λ _. refl) move_back (moved_copies_form e))
    (row_table (variant_row change_tag 16 copy_with copy_of (λ _. refl) (λ _. refl) copy_back (new_copies_form e))
    (row_table (variant_row change_tag 17 drop_copies_with drop_copies_of (λ _. refl) (λ _. refl) drop_copies_back dropped_copies_form)
    (row_table (variant_row change_tag 18 expire_with expire_of (λ _. refl) (λ _. refl) expire_back named_versions_form)
    (row_table (variant_row change_tag 19 discard_with discard_of (λ _. refl) (λ _. refl) discard_back discarded_versions_form)
    (row_table (variant_row change_tag 20 reuse_with reuse_of (λ _. refl) (λ _. refl) reuse_back (number_form w32 wide32))
    (added_rows_table e (row_table (variant_row change_tag 25 hold_with hold_of (λ _. refl) (λ _. refl) hold_back new_held_objects_form)
    (no_more_table change_tag))))))))))))

pub database_table : (e : Edition) → IsTable change_tag (database_body e)
unfolding database_body
database_table e = (row_table (variant_row change_tag 21 db_begin_with db_begin_of (λ _. refl) (λ _. refl) db_begin_back (pair_form (number_form w32 wide32) (added_form e None (option_form (number_form w32 wide32)))))
    (row_table (variant_row change_tag 22 db_end_with db_end_of (λ _. refl) (λ _. refl) db_end_back (number_form w32 wide32))
    (row_table (variant_row change_tag 23 db_delete_with db_delete_of (λ _. refl) (λ _. refl) db_delete_back (number_form w32 wide32))
    (no_more_table change_tag))))

pub change_table : (e : Edition) → IsTable change_tag (change_body e)
unfolding change_body
change_table e = row_table (variant_row change_tag 1 day_with day_of (λ _. refl) (λ _. refl) day_back day_form)
    (rows_table is_policy (held_table change_tag policy_with policy_of (λ _. refl) (λ _. refl) policy_back (policy_table e))
    (rows_table is_object (held_table change_tag object_with object_of (λ _. refl) (λ _. refl) object_back object_table)
    (rows_table is_pool (held_table change_tag pool_with pool_of (λ _. refl) (λ _. refl) pool_back (pool_table e))
    (rows_table is_data (data_table e) (database_table e)))))

pub change_form : (e : Edition) → IsForm (change e)
unfolding change
change_form e = tagged_form (change_table e)
