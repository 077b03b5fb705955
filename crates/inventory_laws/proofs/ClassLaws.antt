-- A legal change of device classes leaves a valid database.
use Rattle.std.proofs.Common.{◌≡◌, ℕ, true, List, [], Option, Some, None, is_some, Result, Ok, refl, sym, ap, ◌∙◌}
use Rattle.std.specs.Map.{remove_entry}
use Rattle.std.specs.BTreeMap.{insert_entry, is_at}
use Rattle.std.specs.Cmp.Lexicographic.{slice_cmp}
use Rattle.std.specs.Ordering.{nat_cmp}
use Rattle.std.proofs.lemmas.Bool.{false≢true}
use Rattle.kinds.specs.declared.change.DefineOrDelete.TheVariants as two
use Rattle.kinds.specs.declared.change.PoolChange.TheVariants as store
use Rattle.kinds.specs.declared.refusal.Refusal.{Refusal}
use Rattle.kinds.specs.declared.refusal.Refusal.TheVariants.{Exists, NotFound}
use Rattle.inventory_rules.specs.entries.declared.change.Change.TheVariants as change
use Rattle.inventory_rules.specs.inventory_rows.pool_tables.Rows.{named}
use Rattle.inventory_rules.proofs.of_inventory_rows.of_pool_tables.Ascending.{none_from}
use Rattle.inventory_rules.specs.inventory_rows.pool_rows.PoolRows.{PoolRows, capacity_there, class_capacity}
use Rattle.inventory_rules.specs.inventory_rows.pool_rows.ClassChanges.{class_gone, define_class, delete_class, pool_of_class}
use Rattle.inventory_rules.specs.inventory_rows.State.{Inv}
use Rattle.inventory_rules.specs.Transactions.{effect, causes, sizes_refused}
use Rattle.inventory_rules.specs.Held.{IsTied}
use Rattle.inventory_rules.specs.Journal.{Journal}
use Rattle.kinds.specs.Refusals.{refusal_of}
use Rattle.inventory_rules.specs.Valid.{is_valid}
use Rattle.inventory_laws.proofs.Facts.{facts_of}
use Rattle.inventory_laws.proofs.StoreLegal.{none_of_both, unless_so, where_so}
use Rattle.inventory_laws.proofs.Stored.{Stands, becomes, room}
use Rattle.inventory_laws.proofs.Classes.{classes_stand, defined_are, defined_stays, deleted_are, deleted_stays}

pub class_defined : (j : Journal) (class : List ℕ) (capacity : ℕ) (v : Inv) → is_valid v ≡ true → IsTied v → causes j (change.Pool (store.DevClass two.Define class capacity)) v ≡ []
    → sizes_refused (change.Pool (store.DevClass two.Define class capacity)) v ≡ [] → Stands (effect (change.Pool (store.DevClass two.Define class capacity)) v)
unfolding effect
class_defined j class capacity v valid tied legal sizes =
    let f = facts_of v valid in
    let classes = insert_entry (slice_cmp nat_cmp) v.stores.classes class (Some capacity) in
    let new : Result PoolRows Refusal = Ok (record v.stores { classes = classes }) in
    let t = unless_so (is_some (named class v.stores.classes)) Exists new (none_of_both (refusal_of (define_class class capacity v.stores)) [] legal).0 in
    let absent : named class v.stores.classes ≡ None = none_from (named class v.stores.classes) t.0 in
    becomes v (define_class class capacity v.stores) new v.next_pool v.next_file v.backups t.2
    (classes_stand v classes f tied (defined_stays v class (Some capacity) f absent) (defined_are class capacity v.stores.classes f.classes_are absent))
    (room (change.Pool (store.DevClass two.Define class capacity)) v sizes)

gone : (class : List ℕ) (s : PoolRows) (o : Option ℕ) → refusal_of (class_gone class s o) ≡ []
    → (o ≡ None) × (class_gone class s o ≡ Ok (record s { classes = remove_entry (is_at (slice_cmp nat_cmp class)) s.classes }))
gone class s None h = (refl, refl)
gone class s (Some pool) h = absurd cc

there : (o : Option (Option ℕ)) → is_some (capacity_there o) ≡ true → (x : Option ℕ) × (o ≡ Some x)
there None h = absurd (false≢true h)
there (Some x) h = (x, refl)

pub class_deleted : (j : Journal) (class : List ℕ) (capacity : ℕ) (v : Inv) → is_valid v ≡ true → IsTied v → causes j (change.Pool (store.DevClass two.Delete class capacity)) v ≡ []
    → sizes_refused (change.Pool (store.DevClass two.Delete class capacity)) v ≡ [] → Stands (effect (change.Pool (store.DevClass two.Delete class capacity)) v)
unfolding effect
class_deleted j class capacity v valid tied legal sizes =
    let f = facts_of v valid in
    let classes = remove_entry (is_at (slice_cmp nat_cmp class)) v.stores.classes in
    let new : Result PoolRows Refusal = Ok (record v.stores { classes = classes }) in
    let t = where_so (is_some (class_capacity class v.stores)) NotFound (class_gone class v.stores (pool_of_class class v.stores)) (none_of_both (refusal_of (delete_class class v.stores)) [] legal).0 in
    let u = gone class v.stores (pool_of_class class v.stores) t.1 in
    let x = there (named class v.stores.classes) t.0 in
    becomes v (delete_class class v.stores) new v.next_pool v.next_file v.backups (t.2 ∙ u.1)
    (classes_stand v classes f tied (deleted_stays v class x.0 x.1 u.0) (deleted_are class x.0 v.stores.classes f.classes_are x.1 (sym (ap (λ o. is_some (capacity_there o)) x.1) ∙ t.0)))
    (room (change.Pool (store.DevClass two.Delete class capacity)) v sizes)
