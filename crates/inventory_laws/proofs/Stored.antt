-- A valid database with other stores: which facts are to be shown, and those that follow where pools are seen as before.
use Rattle.std.proofs.Common.{◌≡◌, ℕ, ◌+◌, ◌-◌, ◌^◌, Bool, true, false, not, ◌&&◌, List, [], ◌∷◌, ◌++◌, map, length, Option, Some, None, Result, is_some, nat_le, nat_lt, refl, sym, ap, subst, ◌∙◌, arith}
use Rattle.std.specs.Prelude.{◌==◌}
use Rattle.std.specs.List.{list_all, sum_by, AllByRecursion}
use Rattle.std.specs.Map.{keys_of}
use Rattle.std.specs.Option.{option_map_or}
use Rattle.std.proofs.lemmas.Bool.{and_parts, le-leb, leb-true}
use Rattle.kinds.specs.declared.refusal.Refusal.{Refusal}
use Rattle.kinds.specs.declared.refusal.Refusal.TheVariants.{InventoryFull}
use Rattle.kinds.specs.declared.segment.Segment.{Segment}
use Rattle.inventory_rules.specs.entries.declared.change.Change.{Change}
use Rattle.inventory_rules.specs.inventory_rows.version_groups.declared.copies.CopyRow.{CopyRow}
use Rattle.inventory_rules.specs.inventory_rows.version_groups.declared.versions.Version.{Version}
use Rattle.inventory_rules.specs.inventory_rows.version_groups.Copies.{are_by_pool}
use Rattle.inventory_rules.specs.inventory_rows.version_groups.Entries.{is_nil}
use Rattle.inventory_rules.specs.inventory_rows.volume_rows.declared.volume.Volume.{Volume}
use Rattle.inventory_rules.specs.inventory_rows.pool_tables.declared.pool.Pool.{Pool}
use Rattle.inventory_rules.specs.inventory_rows.pool_tables.Rows.{row_at}
use Rattle.inventory_rules.specs.inventory_rows.pool_rows.PoolRows.{PoolRows, is_sequential, pool_capacity, pool_class_capacity}
use Rattle.inventory_rules.specs.inventory_rows.declared.backup.Backup.{Backup}
use Rattle.inventory_rules.specs.inventory_rows.Items.{count_items, most_items}
use Rattle.inventory_rules.specs.inventory_rows.Search.{copies, destinations, is_primary_kind, pool, segments_on, versions}
use Rattle.inventory_rules.specs.inventory_rows.State.{Inv}
use Rattle.inventory_rules.specs.Common.{or_same, full_at}
use Rattle.inventory_rules.specs.Transactions.{effect, sizes_refused}
use Rattle.inventory_rules.specs.Held.{IsTied}
use Rattle.kinds.specs.Refusals.{unless}
use Rattle.inventory_rules.specs.Valid.{are_apart, are_disjoint, classes_are, copies_cite, is_copied, is_emptied_rightly, is_named_soundly, is_of_pool, is_placed, is_sized, is_valid, is_volume, lie_in, may_have, names_apart, next_is_there, no_ring, pools_cite, rules_cite, versions_are_copied, volumes_are, volumes_cite}
use Rattle.inventory_rules.specs.Facts.{Facts}
use Rattle.inventory_laws.proofs.Facts.{valid_of}
use Rattle.inventory_laws.proofs.StoreLegal.{held, none_of_both}
use Rattle.inventory_laws.proofs.Lists.{all_of, all_also, all_alike, each_also, each_within, filter_alike}

-- the database after a transaction on its stores
abbrev pub stored : Inv → PoolRows → ℕ → ℕ → List (ℕ × Backup) → Inv
stored v s next_pool next_file backups = record v {
  number = v.number + 1;
  next_pool = next_pool;
  next_file = next_file;
  stores = s;
  backups = backups;
}

-- what is to be shown of it
pub record StoreFacts (w : Inv) : Type 0 where
  pub rules_cite : rules_cite w ≡ true
  pub pools_cite : pools_cite w ≡ true
  pub volumes_cite : volumes_cite w ≡ true
  pub copies_cite : copies_cite w ≡ true
  pub pools_drawn : lie_in 1 w.next_pool (keys_of w.stores.pools) ≡ true
  pub files_drawn : lie_in 4 w.next_file (keys_of w.stores.volumes ++ keys_of w.backups) ≡ true
  pub pools_bounded : lie_in 1 (2 ^ 16) (w.next_pool ∷ []) ≡ true
  pub files_bounded : lie_in 4 (2 ^ 32 - 1) (w.next_file ∷ []) ≡ true
  pub files_apart : are_apart (keys_of w.stores.volumes ++ keys_of w.backups) ≡ true
  pub pool_names : names_apart (map (λ p. p.1.name) w.stores.pools) ≡ true
  pub volume_names : names_apart (map (λ f. f.1.name) w.stores.volumes) ≡ true
  pub named_soundly : list_all is_named_soundly w.stores.volumes ≡ true
  pub versions_copied : versions_are_copied w ≡ true
  pub volumes_are : volumes_are w ≡ true
  pub no_ring : no_ring w ≡ true
  pub classes_are : classes_are w ≡ true
  pub volumes_by_today : list_all (λ f. option_map_or (λ day. nat_le day w.today) f.1.emptied true) w.stores.volumes ≡ true

-- the backups are as they were, but for their delays
pub record BackupFacts (v : Inv) (backups : List (ℕ × Backup)) : Type 0 where
  pub apart : are_apart (map (λ b. b.1.number) backups) ≡ true
  pub past : list_all (λ b. nat_le b.1.number v.number) backups ≡ true
  pub by_today : list_all (λ b. nat_le b.1.taken v.today) backups ≡ true

pub same_backups : (v : Inv) → Facts v → BackupFacts v v.backups
same_backups v f = record { apart = f.backups_apart; past = f.backups_past; by_today = f.backups_by_today }

-- the number is within its bound, and so are the items
pub record IsRoom (w : Inv) : Type 0 where
  pub number : nat_lt w.number (2 ^ 62) ≡ true
  pub items : nat_le (count_items w) most_items ≡ true

-- what the law says
abbrev pub Stands : Inv → Type 0
Stands w = (is_valid w ≡ true) × IsTied w

later_still : (n m : ℕ) → nat_le n m ≡ true → nat_le n (m + 1) ≡ true
later_still n m h = le-leb n (m + 1) (let t = leb-true n m h in omega (arith, t))

pub stored_valid : (v : Inv) (s : PoolRows) (next_pool next_file : ℕ) (backups : List (ℕ × Backup)) → Facts v → BackupFacts v backups → StoreFacts (stored v s next_pool next_file backups) → IsRoom (stored v s next_pool next_file backups)
    → is_valid (stored v s next_pool next_file backups) ≡ true
stored_valid v s next_pool next_file backups f b t room = valid_of (stored v s next_pool next_file backups) (record {
  nodes_cite = f.nodes_cite;
  filespaces_cite = f.filespaces_cite;
  held_cite = f.held_cite;
  rules_cite = t.rules_cite;
  pools_cite = t.pools_cite;
  volumes_cite = t.volumes_cite;
  copies_cite = t.copies_cite;
  nodes_drawn = f.nodes_drawn;
  filespaces_drawn = f.filespaces_drawn;
  pools_drawn = t.pools_drawn;
  files_drawn = t.files_drawn;
  objects_drawn = f.objects_drawn;
  clients_bounded = f.clients_bounded;
  pools_bounded = t.pools_bounded;
  files_bounded = t.files_bounded;
  objects_bounded = f.objects_bounded;
  number_bounded = room.number;
  day_bounded = f.day_bounded;
  objects_apart = f.objects_apart;
  files_apart = t.files_apart;
  backups_apart = b.apart;
  backups_past = all_also (λ (e : ℕ × Backup). nat_le e.1.number v.number) (λ e. nat_le e.1.number (v.number + 1)) backups (λ e h. later_still e.1.number v.number h) b.past;
  copies_past = all_also (λ (e : ℕ × CopyRow). nat_le e.1.placed v.number) (λ e. nat_le e.1.placed (v.number + 1)) (copies v) (λ e h. later_still e.1.placed v.number h) f.copies_past;
  node_names = f.node_names;
  pool_names = t.pool_names;
  volume_names = t.volume_names;
  filespace_names = f.filespace_names;
  named_soundly = t.named_soundly;
  defaults_there = f.defaults_there;
  groups_orderly = f.groups_orderly;
  versions_copied = t.versions_copied;
  volumes_are = t.volumes_are;
  no_ring = t.no_ring;
  versions_by_today = f.versions_by_today;
  backups_by_today = b.by_today;
  volumes_by_today = t.volumes_by_today;
  classes_are = t.classes_are;
  few_items = room.items;
})

-- ---- pools that are seen as before

-- the pool is there or not, primary or not, and of the capacity, as it was
pub record Alike (s t : PoolRows) (number : ℕ) : Type 0 where
  pub there : is_some (row_at number t.pools) ≡ is_some (row_at number s.pools)
  pub primary : option_map_or (λ p. is_primary_kind p.kind) (row_at number t.pools) false ≡ option_map_or (λ p. is_primary_kind p.kind) (row_at number s.pools) false
  pub capacity : pool_capacity number t ≡ pool_capacity number s

-- so is each pool that is the destination of a copy group, or has a volume or a copy
pub record Uses (v : Inv) (t : PoolRows) : Type 0 where
  pub destinations : AllByRecursion (Alike v.stores t) (destinations v)
  pub volumes : AllByRecursion (λ (f : ℕ × Volume). Alike v.stores t f.1.pool) v.stores.volumes
  pub copies : AllByRecursion (λ (e : ℕ × CopyRow). Alike v.stores t e.1.pool) (copies v)

-- each segment of the copy lies on a volume of the copy's pool
abbrev pub lies : Inv → CopyRow → Bool
lies v c = list_all (λ s. is_of_pool c.pool (row_at s.file v.stores.volumes)) c.segments

-- they are, where all are that are there
pub uses_found : (v : Inv) (t : PoolRows) → Facts v → ((n : ℕ) → is_some (row_at n v.stores.pools) ≡ true → Alike v.stores t n) → Uses v t
uses_found v t f found = record {
  destinations = each_also (λ n. is_some (pool n v) ≡ true) (Alike v.stores t) (destinations v) found (all_of (λ n. is_some (pool n v)) (destinations v) f.rules_cite);
  volumes = each_also (λ (e : ℕ × Volume). is_some (pool e.1.pool v) ≡ true) (λ e. Alike v.stores t e.1.pool) v.stores.volumes (λ e h. found e.1.pool h)
      (all_of (λ e. is_some (pool e.1.pool v)) v.stores.volumes f.volumes_cite);
  copies = each_also (λ (e : ℕ × CopyRow). (is_some (pool e.1.pool v) && lies v e.1) ≡ true) (λ e. Alike v.stores t e.1.pool) (copies v) (λ e h. found e.1.pool (and_parts (is_some (pool e.1.pool v)) (lies v e.1) h).0)
      (all_of (λ e. is_some (pool e.1.pool v) && lies v e.1) (copies v) f.copies_cite);
}

sized_alike : (b : Bool) (v w : Inv) (x : Volume) → pool_capacity x.pool w.stores ≡ pool_capacity x.pool v.stores → is_sized b w x ≡ is_sized b v x
sized_alike true v w x h = ap (λ c. option_map_or (λ capacity. x.capacity == capacity) c false && nat_le x.end x.capacity) h
sized_alike false v w x h = refl

-- what is asked of a volume, of its pool's kind and the segments on it
abbrev tested : Inv → ℕ × Volume → Bool → Bool → List (ℕ × Segment) → Bool
tested u f sequential primary there =
    is_sized sequential u f.1
    && (may_have f.1.access primary
    && (are_disjoint sequential there
    && (list_all (λ e. is_placed sequential f.1 e.1) there
    && is_emptied_rightly sequential f.1 there)))

abbrev primary_in : Inv → ℕ → Bool
primary_in u n = option_map_or (λ p. is_primary_kind p.kind) (pool n u) false

pub volume_alike : (v w : Inv) (f : ℕ × Volume) → Alike v.stores w.stores f.1.pool → segments_on f.0 w ≡ segments_on f.0 v → is_volume w f ≡ is_volume v f
volume_alike v w f a same =
    ap (λ (c : Option ℕ). tested w f (is_some c) (primary_in w f.1.pool) (segments_on f.0 w)) a.capacity
    ∙ ap (λ b. tested w f (is_sequential f.1.pool v.stores) b (segments_on f.0 w)) a.primary
    ∙ ap (λ (l : List (ℕ × Segment)). tested w f (is_sequential f.1.pool v.stores) (primary_in v f.1.pool) l) same
    ∙ ap (λ b. b && (may_have f.1.access (primary_in v f.1.pool) && (are_disjoint (is_sequential f.1.pool v.stores) (segments_on f.0 v) && (list_all (λ e. is_placed (is_sequential f.1.pool v.stores) f.1 e.1) (segments_on f.0 v) && is_emptied_rightly (is_sequential f.1.pool v.stores) f.1 (segments_on f.0 v)))))
    (sized_alike (is_sequential f.1.pool v.stores) v w f.1 a.capacity)

copied_alike : (v w : Inv) (x : Version) → AllByRecursion (λ (c : CopyRow). Alike v.stores w.stores c.pool) x.copies → is_copied w x ≡ is_copied v x
copied_alike v w x h =
    ap (λ (l : List CopyRow). not (is_nil x.copies) && (nat_le (length l) 1 && (are_by_pool x.copies && list_all (λ c. sum_by (λ s. s.len) c.segments == x.size) x.copies)))
    (filter_alike (λ (c : CopyRow). primary_in w c.pool) (λ c. primary_in v c.pool) x.copies (each_also (λ (c : CopyRow). Alike v.stores w.stores c.pool) (λ c. primary_in w c.pool ≡ primary_in v c.pool) x.copies (λ c a. a.primary) h))

-- the stores with other classes and pools
abbrev pub with_pools : Inv → List (List ℕ × Option ℕ) → List (ℕ × Pool) → PoolRows
with_pools v classes pools = record { classes = classes; pools = pools; volumes = v.stores.volumes }

pub same_capacity : (v : Inv) (pools : List (ℕ × Pool)) (o : Option Pool) → pool_class_capacity (with_pools v v.stores.classes pools) o ≡ pool_class_capacity v.stores o
same_capacity v pools None = refl
same_capacity v pools (Some p) = refl

-- a next pool that was there is there
pub next_also : (o : Option ℕ) (v w : Inv) → ((n : ℕ) → is_some (pool n v) ≡ true → is_some (pool n w) ≡ true) → next_is_there o v ≡ true → next_is_there o w ≡ true
next_also None v w there h = refl
next_also (Some n) v w there h = there n h

-- the facts of those that see the pools, where the volumes stay
pub record SeenFacts (w : Inv) : Type 0 where
  pub rules_cite : rules_cite w ≡ true
  pub volumes_cite : volumes_cite w ≡ true
  pub copies_cite : copies_cite w ≡ true
  pub versions_copied : versions_are_copied w ≡ true
  pub volumes_are : volumes_are w ≡ true

pub seen : (v : Inv) (classes : List (List ℕ × Option ℕ)) (pools : List (ℕ × Pool)) (next_pool : ℕ) (backups : List (ℕ × Backup)) → Facts v → Uses v (with_pools v classes pools) → SeenFacts (stored v (with_pools v classes pools) next_pool v.next_file backups)
seen v classes pools next_pool backups f uses = (let w = stored v (with_pools v classes pools) next_pool v.next_file backups in record {
  rules_cite = all_alike (λ n. is_some (pool n w)) (λ n. is_some (pool n v)) (destinations v)
      (each_also (Alike v.stores w.stores) (λ n. is_some (pool n w) ≡ is_some (pool n v)) (destinations v) (λ n a. a.there) uses.destinations)
      ∙ f.rules_cite;
  volumes_cite = all_alike (λ (e : ℕ × Volume). is_some (pool e.1.pool w)) (λ e. is_some (pool e.1.pool v)) v.stores.volumes
      (each_also (λ (e : ℕ × Volume). Alike v.stores w.stores e.1.pool) (λ e. is_some (pool e.1.pool w) ≡ is_some (pool e.1.pool v)) v.stores.volumes (λ e a. a.there) uses.volumes)
      ∙ f.volumes_cite;
  copies_cite = all_alike (λ (e : ℕ × CopyRow). is_some (pool e.1.pool w) && lies v e.1) (λ e. is_some (pool e.1.pool v) && lies v e.1) (copies v)
      (each_also (λ (e : ℕ × CopyRow). Alike v.stores w.stores e.1.pool) (λ e. (is_some (pool e.1.pool w) && lies v e.1) ≡ (is_some (pool e.1.pool v) && lies v e.1)) (copies v) (λ e a. ap (λ b. b && lies v e.1) a.there) uses.copies)
      ∙ f.copies_cite;
  versions_copied = all_alike (is_copied w) (is_copied v) (versions v)
      (each_also (λ (x : Version). AllByRecursion (λ (c : CopyRow). Alike v.stores w.stores c.pool) x.copies) (λ x. is_copied w x ≡ is_copied v x) (versions v) (λ x a. copied_alike v w x a)
      (each_within (λ (e : ℕ × CopyRow). Alike v.stores w.stores e.1.pool) (λ (x : Version) c. (x.object, c)) (λ x. x.copies) (versions v) uses.copies))
      ∙ f.versions_copied;
  volumes_are = all_alike (is_volume w) (is_volume v) v.stores.volumes
      (each_also (λ (e : ℕ × Volume). Alike v.stores w.stores e.1.pool) (λ e. is_volume w e ≡ is_volume v e) v.stores.volumes (λ e a. volume_alike v w e a refl) uses.volumes)
      ∙ f.volumes_are;
})

-- ---- a transaction that isn't refused

-- no size is refused
pub room : (c : Change) (v : Inv) → sizes_refused c v ≡ [] → IsRoom (effect c v)
unfolding effect
room c v h =
    let t = none_of_both (unless (nat_le (count_items (effect c v)) most_items) InventoryFull) (full_at v.number (2 ^ 62)) h in record {
      number = held (nat_lt (v.number + 1) (2 ^ 62)) InventoryFull t.1;
      items = held (nat_le (count_items (effect c v)) most_items) InventoryFull t.0;
    }

-- what is shown where a change gives its stores
pub becomes : (v : Inv) (r q : Result PoolRows Refusal) (next_pool next_file : ℕ) (backups : List (ℕ × Backup)) → r ≡ q
    → (IsRoom (stored v (or_same v.stores q) next_pool next_file backups) → Stands (stored v (or_same v.stores q) next_pool next_file backups))
    → IsRoom (stored v (or_same v.stores r) next_pool next_file backups) → Stands (stored v (or_same v.stores r) next_pool next_file backups)
becomes v r q next_pool next_file backups e stands =
    subst (λ (x : Result PoolRows Refusal). IsRoom (stored v (or_same v.stores x) next_pool next_file backups) → Stands (stored v (or_same v.stores x) next_pool next_file backups)) (sym e) stands
