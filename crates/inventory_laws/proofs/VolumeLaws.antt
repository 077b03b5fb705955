-- A legal change of volumes, and the legal reuse of one, leave a valid database.
use Rattle.std.proofs.Common.{◌≡◌, ℕ, ◌+◌, ◌-◌, ◌^◌, max, Bool, true, false, not, ◌&&◌, ◌||◌, List, [], ◌∷◌, ◌++◌, Option, Some, None, is_some, is_none, nat_le, nat_lt, Result, Ok, Err, if◌then◌else◌, refl, sym, ap, subst, ◌∙◌}
use Rattle.std.specs.Prelude.{◌==◌}
use Rattle.std.specs.Option.{option_map_or}
use Rattle.std.proofs.lemmas.Bool.{and_parts, false≢true, not-false, or_parts}
use Rattle.kinds.specs.declared.change.PoolChange.TheVariants as store
use Rattle.kinds.specs.declared.change.Verb.TheVariants as verb
use Rattle.kinds.specs.declared.pool.Access.{Access}
use Rattle.kinds.specs.declared.refusal.Refusal.{Refusal}
use Rattle.kinds.specs.declared.refusal.Refusal.TheVariants.{Exists, InventoryFull, NotFound}
use Rattle.inventory_rules.specs.entries.declared.change.Change.TheVariants as change
use Rattle.inventory_rules.specs.inventory_rows.volume_rows.declared.volume.Volume.{Volume}
use Rattle.inventory_rules.specs.inventory_rows.volume_rows.Holdings.{least_object}
use Rattle.inventory_rules.specs.inventory_rows.volume_rows.Volumes.{may_reuse, reset, reuse_unless_used}
use Rattle.inventory_rules.specs.inventory_rows.pool_tables.declared.pool.Pool.{Pool}
use Rattle.inventory_rules.specs.inventory_rows.pool_tables.RowChanges.{is_scratch_row, reuse_volume, with_access}
use Rattle.kinds.specs.Names.{is_same_name}
use Rattle.inventory_rules.specs.inventory_rows.pool_tables.Rows.{edited, row_at, set_row, with_row, without_row}
use Rattle.inventory_rules.specs.inventory_rows.pool_tables.Scratch.{is_scratch_name, volume_name}
use Rattle.inventory_rules.proofs.of_inventory_rows.of_pool_tables.Ascending.{none_from}
use Rattle.inventory_rules.specs.inventory_rows.pool_rows.Changes.{define_volume, delete_filed, delete_volume, new_volume, object_on, unless_held, update_filed, update_volume}
use Rattle.inventory_rules.specs.inventory_rows.pool_rows.PoolRows.{PoolRows, is_sequential, is_sequential_at, is_sequential_row, pool_capacity, volume_named}
use Rattle.inventory_rules.specs.inventory_rows.pool_rows.Segments.{delay_of, reuse_row}
use Rattle.inventory_rules.specs.inventory_rows.Search.{is_primary, is_primary_kind, pool}
use Rattle.inventory_rules.specs.inventory_rows.State.{Inv}
use Rattle.inventory_rules.specs.Common.{or_same, file_bound, files_refused, is_free_file}
use Rattle.inventory_rules.specs.Transactions.{effect, causes, sizes_refused, parts_fit}
use Rattle.inventory_rules.specs.Held.{IsTied}
use Rattle.inventory_rules.specs.Journal.{Journal}
use Rattle.kinds.specs.Refusals.{refusal_of, bad_value}
use Rattle.inventory_rules.specs.Stores.{access_refused, pool_of_volume, capacity_fits}
use Rattle.inventory_rules.specs.Valid.{is_valid, is_volume, may_have}
use Rattle.inventory_rules.specs.Facts.{Facts}
use Rattle.inventory_laws.proofs.Facts.{facts_of}
use Rattle.inventory_laws.proofs.StoreLegal.{held, none_of_both, unless_so, where_so}
use Rattle.inventory_laws.proofs.StoreRows.{all_there, number_there, some_from}
use Rattle.inventory_laws.proofs.Stored.{IsRoom, Stands, becomes, room, stored}
use Rattle.inventory_laws.proofs.StoreVolumes.{VolumesFit, access_is, off_bare, reset_is, volume_changes, volume_comes, volume_goes, volumes_stand}

is_none_from : {A : Type 0} (o : Option A) → is_none o ≡ true → o ≡ None
is_none_from None h = refl
is_none_from (Some x) h = absurd (false≢true h)

-- ---- a volume is defined

free_file : (v : Inv) (file : ℕ) → files_refused (file ∷ []) v ≡ [] → (nat_le 4 file ≡ true) × (row_at file v.stores.volumes ≡ None) × (row_at file v.backups ≡ None)
free_file v file h =
    let one = and_parts (is_free_file v file && true) true (held ((is_free_file v file && true) && true) bad_value h) in
    let t = and_parts (is_free_file v file) true one.0 in
    let a = and_parts (nat_le 4 file) (is_none (row_at file v.stores.volumes) && is_none (row_at file v.backups)) t.0 in
    let b = and_parts (is_none (row_at file v.stores.volumes)) (is_none (row_at file v.backups)) a.1 in
    (a.0, is_none_from (row_at file v.stores.volumes) b.0, is_none_from (row_at file v.backups) b.1)

pub volume_defined : (j : Journal) (name : List ℕ) (number file capacity : ℕ) (access : Access) (v : Inv) → is_valid v ≡ true → IsTied v → causes j (change.Pool (store.Volume verb.Define name number file capacity access)) v ≡ []
    → sizes_refused (change.Pool (store.Volume verb.Define name number file capacity access)) v ≡ [] → parts_fit (change.Pool (store.Volume verb.Define name number file capacity access)) v ≡ true
    → Stands (effect (change.Pool (store.Volume verb.Define name number file capacity access)) v)
unfolding effect parts_fit
volume_defined j name number file capacity access v valid tied legal sizes fit =
    let f = facts_of v valid in
    let s = v.stores in
    let volumes = with_row file (new_volume name number capacity access) s.volumes in
    let new : Result PoolRows Refusal = Ok (record s { volumes = volumes }) in
    let h = none_of_both (refusal_of (define_volume name number file capacity access s)) (files_refused (file ∷ []) v ++ file_bound file v) legal in
    let bounds = none_of_both (files_refused (file ∷ []) v) (file_bound file v) h.1 in
    let named_so : Result PoolRows Refusal = (if is_some (volume_named name s) then Err Exists else new) in
    let a = where_so (is_some (row_at number s.pools)) NotFound named_so h.0 in
    let b = unless_so (is_some (volume_named name s)) Exists new a.1 in
    let free = free_file v file bounds.0 in
    let sound = and_parts (not (is_scratch_name name)) (capacity_fits (pool_capacity number s) capacity && may_have access (is_primary number v)) fit in
    let fits = and_parts (capacity_fits (pool_capacity number s) capacity) (may_have access (is_primary number v)) sound.1 in
    let next = max v.next_file (file + 1) in
    becomes v (define_volume name number file capacity access s) new v.next_pool next v.backups (a.2 ∙ b.2)
    (volumes_stand v volumes next f
    (volume_comes v name number file capacity access f tied a.0 (none_from (volume_named name s) b.0) free.0 free.1 free.2 (held (nat_lt next (2 ^ 32 - 1)) InventoryFull bounds.1) sound.0 fits.0 fits.1))
    (room (change.Pool (store.Volume verb.Define name number file capacity access)) v sizes)

-- ---- a volume is updated

may_so : (access : Access) (o : Option Pool) → is_some o ≡ true → access_refused access o ≡ [] → may_have access (option_map_or (λ p. is_primary_kind p.kind) o false) ≡ true
may_so access None there h = absurd (false≢true there)
may_so access (Some p) there h = held (may_have access (is_primary_kind p.kind)) bad_value h

-- the pool of the volume with this file number
abbrev pool_at : Inv → Option Volume → Option Pool
pool_at v o = option_map_or (λ x. pool x.pool v) o None

updated_at : (v : Inv) (name : List ℕ) (access : Access) → is_valid v ≡ true → IsTied v → (o : Option ℕ) → volume_named name v.stores ≡ o → refusal_of (update_filed access v.stores o) ≡ []
    → access_refused access (option_map_or (λ file. pool_at v (row_at file v.stores.volumes)) o None) ≡ []
    → IsRoom (stored v (or_same v.stores (update_filed access v.stores o)) v.next_pool v.next_file v.backups) → Stands (stored v (or_same v.stores (update_filed access v.stores o)) v.next_pool v.next_file v.backups)
updated_at v name access valid tied None found legal refused = absurd cc
updated_at v name access valid tied (Some file) found legal refused =
    let f = facts_of v valid in
    let old = v.stores.volumes in
    let x = some_from (row_at file old) (number_there (λ (e : Volume). is_same_name (volume_name e) name) file old found) in
    let y = with_access access x.0 in
    let may : may_have access (is_primary x.0.pool v) ≡ true = may_so access (pool x.0.pool v) (all_there (λ (e : ℕ × Volume). is_some (pool e.1.pool v)) file x.0 old x.1 f.volumes_cite) (ap (λ (o : Option Volume). access_refused access (pool_at v o)) (sym x.1) ∙ refused) in
    let volumes : Result PoolRows Refusal = Ok (record v.stores { volumes = set_row file y old }) in
    becomes v (update_filed access v.stores (Some file)) volumes v.next_pool v.next_file v.backups (ap (λ (o : Option Volume). Ok (record v.stores { volumes = edited file (with_access access) old o })) x.1)
    (volumes_stand v (set_row file y old) v.next_file f
    (volume_changes v file x.0 y f tied x.1 (record { pool = refl; name = refl; scratch = refl; segments = refl }) (access_is v file access x.0 may (all_there (is_volume v) file x.0 old x.1 f.volumes_are))
    (all_there (λ (e : ℕ × Volume). option_map_or (λ day. nat_le day v.today) e.1.emptied true) file x.0 old x.1 f.volumes_by_today)))

pub volume_updated : (j : Journal) (name : List ℕ) (number file capacity : ℕ) (access : Access) (v : Inv) → is_valid v ≡ true → IsTied v → causes j (change.Pool (store.Volume verb.Update name number file capacity access)) v ≡ []
    → sizes_refused (change.Pool (store.Volume verb.Update name number file capacity access)) v ≡ [] → Stands (effect (change.Pool (store.Volume verb.Update name number file capacity access)) v)
unfolding effect
volume_updated j name number file capacity access v valid tied legal sizes =
    let h = none_of_both (refusal_of (update_volume name access v.stores)) (access_refused access (pool_of_volume name v)) legal in
    updated_at v name access valid tied (volume_named name v.stores) refl h.0 h.1 (room (change.Pool (store.Volume verb.Update name number file capacity access)) v sizes)

-- ---- a volume is deleted

held_so : (v : Inv) (file : ℕ) (o : Option ℕ) → refusal_of (unless_held file v.stores o) ≡ [] → (o ≡ None) × (unless_held file v.stores o ≡ Ok (record v.stores { volumes = without_row file v.stores.volumes }))
held_so v file None h = (refl, refl)
held_so v file (Some n) h = absurd cc

deleted_at : (v : Inv) (name : List ℕ) → is_valid v ≡ true → IsTied v → (o : Option ℕ) → volume_named name v.stores ≡ o → refusal_of (delete_filed v.stores o) ≡ []
    → IsRoom (stored v (or_same v.stores (delete_filed v.stores o)) v.next_pool v.next_file v.backups) → Stands (stored v (or_same v.stores (delete_filed v.stores o)) v.next_pool v.next_file v.backups)
deleted_at v name valid tied None found legal = absurd cc
deleted_at v name valid tied (Some file) found legal =
    let f = facts_of v valid in
    let old = v.stores.volumes in
    let x = some_from (row_at file old) (number_there (λ (e : Volume). is_same_name (volume_name e) name) file old found) in
    let t = held_so v file (object_on (row_at file old)) legal in
    becomes v (delete_filed v.stores (Some file)) (Ok (record v.stores { volumes = without_row file old })) v.next_pool v.next_file v.backups t.1
    (volumes_stand v (without_row file old) v.next_file f (volume_goes v file x.0 f tied x.1 (ap object_on (sym x.1) ∙ t.0)))

pub volume_deleted : (j : Journal) (name : List ℕ) (number file capacity : ℕ) (access : Access) (v : Inv) → is_valid v ≡ true → IsTied v → causes j (change.Pool (store.Volume verb.Delete name number file capacity access)) v ≡ []
    → sizes_refused (change.Pool (store.Volume verb.Delete name number file capacity access)) v ≡ [] → Stands (effect (change.Pool (store.Volume verb.Delete name number file capacity access)) v)
unfolding effect
volume_deleted j name number file capacity access v valid tied legal sizes =
    let h = none_of_both (refusal_of (delete_volume name v.stores)) [] legal in
    deleted_at v name valid tied (volume_named name v.stores) refl h.0 (room (change.Pool (store.Volume verb.Delete name number file capacity access)) v sizes)

-- ---- a volume is reused

used_so : (file delay today : ℕ) (x : Volume) (o : Option ℕ) → refusal_of (reuse_unless_used file delay today x o) ≡ [] → o ≡ None
used_so file delay today x None h = refl
used_so file delay today x (Some n) h = absurd cc

-- what it says that the volume may be reused
may_so_reuse : (sequential : Bool) (file delay today : ℕ) (x : Volume) → refusal_of (may_reuse sequential file delay today x) ≡ [] → (sequential ≡ true) × (least_object x.segments ≡ None)
may_so_reuse sequential file delay today x h =
    let t = unless_so (not sequential || x.end == 0) NotFound (reuse_unless_used file delay today x (least_object x.segments)) h in
    (not-false sequential (or_parts (not sequential) (x.end == 0) t.0).0, used_so file delay today x (least_object x.segments) t.1)

row_so : (s : PoolRows) (file today : ℕ) (o : Option Volume) → refusal_of (reuse_row s file today o) ≡ [] → (x : Volume) × (o ≡ Some x) × (is_sequential_at file s ≡ true) × (least_object x.segments ≡ None)
row_so s file today None h = absurd cc
row_so s file today (Some x) h = let t = may_so_reuse (is_sequential_at file s) file (delay_of (row_at x.pool s.pools)) today x h in (x, refl, t.0, t.1)

-- the volumes after the one of this row is reused
abbrev reused_row : ℕ → List (ℕ × Volume) → Option Volume → List (ℕ × Volume)
reused_row file volumes o = if is_scratch_row o then without_row file volumes else edited file reset volumes o

reused_fit : (v : Inv) (file : ℕ) (x : Volume) → Facts v → IsTied v → row_at file v.stores.volumes ≡ Some x → is_sequential x.pool v.stores ≡ true → least_object x.segments ≡ None → (b : Bool)
    → VolumesFit v (if b then without_row file v.stores.volumes else set_row file (reset x) v.stores.volumes) v.next_file
reused_fit v file x f tied there sequential least true = volume_goes v file x f tied there least
reused_fit v file x f tied there sequential least false =
    volume_changes v file x (reset x) f tied there (record { pool = refl; name = refl; scratch = refl; segments = refl }) (reset_is v file x sequential (off_bare v file x tied there least) (all_there (is_volume v) file x v.stores.volumes there f.volumes_are)) refl

pub volume_reused : (j : Journal) (file : ℕ) (v : Inv) → is_valid v ≡ true → IsTied v → causes j (change.Reuse file) v ≡ [] → sizes_refused (change.Reuse file) v ≡ [] → Stands (effect (change.Reuse file) v)
unfolding effect
volume_reused j file v valid tied legal sizes =
    let f = facts_of v valid in
    let t = row_so v.stores file v.today (row_at file v.stores.volumes) legal in
    let sequential : is_sequential t.0.pool v.stores ≡ true = ap (is_sequential_row v.stores) (sym t.1) ∙ t.2 in
    volumes_stand v (reuse_volume file v.stores.volumes) v.next_file f
    (subst (λ (o : Option Volume). VolumesFit v (reused_row file v.stores.volumes o) v.next_file) (sym t.1) (reused_fit v file t.0 f tied t.1 sequential t.3 t.0.scratch))
    (room (change.Reuse file) v sizes)
