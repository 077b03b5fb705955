-- What is said of a valid database, in groups of facts, each over the rows and numbers that it speaks of.
use Rattle.std.proofs.Common.{◌≡◌, ℕ, ◌+◌, ◌-◌, ◌^◌, Bool, true, false, not, ltb, leb, eqb, ◌&&◌, ◌||◌, is_some, List, [], ◌∷◌, ◌++◌, map, filter, length, Option, Some, None, refl, sym, ap, ◌∙◌, le-leb, arith}
use Rattle.std.specs.List.{list_all, sum_by, flat_map, AllByRecursion}
use Rattle.std.specs.Map.{keys_of, lookup}
use Rattle.std.specs.Option.{option_map_or}
use Rattle.kinds.specs.declared.segment.Segment.{Segment}
use Rattle.inventory_rules.specs.inventory_rows.policy_domains.Rows.{DomainRow, row_of}
use Rattle.inventory_rules.specs.inventory_rows.version_groups.declared.copies.CopyRow.{CopyRow}
use Rattle.inventory_rules.specs.inventory_rows.version_groups.declared.groups.Filespace.{Filespace}
use Rattle.inventory_rules.specs.inventory_rows.version_groups.declared.versions.Version.{Version}
use Rattle.inventory_rules.specs.inventory_rows.version_groups.Copies.{are_by_pool}
use Rattle.inventory_rules.specs.inventory_rows.version_groups.Entries.{all_later, is_nil}
use Rattle.inventory_rules.specs.inventory_rows.version_groups.Versions.{are_distinct}
use Rattle.inventory_rules.specs.inventory_rows.volume_rows.declared.volume.Volume.{Volume}
use Rattle.inventory_rules.specs.inventory_rows.object_rows.declared.place.Node.{Node}
use Rattle.inventory_rules.specs.inventory_rows.object_rows.Filespaces.{at_number, filespace_at}
use Rattle.inventory_rules.specs.inventory_rows.object_rows.declared.held_object.HeldRow.{HeldRow}
use Rattle.inventory_rules.specs.inventory_rows.object_rows.HeldRows.{is_held_row}
use Rattle.inventory_rules.specs.inventory_rows.pool_rows.Hierarchy.{comes_to}
use Rattle.inventory_rules.specs.inventory_rows.pool_rows.PoolRows.{PoolRows, is_sequential, pool_capacity}
use Rattle.inventory_rules.specs.inventory_rows.pool_tables.declared.pool.Pool.{Pool}
use Rattle.kinds.specs.Names.{is_same_name}
use Rattle.inventory_rules.specs.inventory_rows.pool_tables.Rows.{named, row_at}
use Rattle.inventory_rules.specs.inventory_rows.declared.backup.Backup.{Backup}
use Rattle.inventory_rules.specs.inventory_rows.Items.{count_items, most_items}
use Rattle.inventory_rules.specs.inventory_rows.Search.{destinations_of_set, is_primary_kind, segments_on, versions}
use Rattle.inventory_rules.specs.inventory_rows.State.{Inv}
use Rattle.inventory_rules.specs.Held.{IsTied, holding}
use Rattle.inventory_rules.specs.Valid.{are_apart, are_disjoint, disk, is_class, is_default_there, is_emptied_rightly, is_format_size, is_named_soundly, is_of_pool, is_orderly, is_placed, is_sized, is_valid, is_volume, lie_in, may_have, names_apart, next_is_there}
use Rattle.inventory_rules.specs.Facts.{Facts}
use Rattle.inventory_laws.proofs.Facts.{both, facts_of, first, rest, valid_of}
use Rattle.inventory_laws.proofs.RowsKept.{list_all-mono, list_all-same, le_then}

-- ---- forms over parts of the database

abbrev pub is_next : List (ℕ × Pool) → Option ℕ → Bool
is_next pools None = true
is_next pools (Some next) = is_some (row_at next pools)

abbrev pub is_sized_in : PoolRows → Volume → Bool → Bool
is_sized_in stores volume true = option_map_or (λ capacity. eqb volume.capacity capacity) (pool_capacity volume.pool stores) false && leb volume.end volume.capacity
is_sized_in stores volume false = is_format_size volume.capacity && (eqb volume.end 0 && not volume.scratch)

abbrev pub is_volume_in : PoolRows → List (ℕ × Segment) → ℕ × Volume → Bool
is_volume_in stores there f =
    is_sized_in stores f.1 (is_sequential f.1.pool stores)
    && (may_have f.1.access (option_map_or (λ p. is_primary_kind p.kind) (row_at f.1.pool stores.pools) false)
    && (are_disjoint (is_sequential f.1.pool stores) there
    && (list_all (λ e. is_placed (is_sequential f.1.pool stores) f.1 e.1) there
    && is_emptied_rightly (is_sequential f.1.pool stores) f.1 there)))

-- the copies of some versions, each with its object, and their segments on a volume
abbrev pub copies_in : List Version → List (ℕ × CopyRow)
copies_in vs = flat_map (λ version. map (λ c. (version.object, c)) version.copies) vs

abbrev pub segments_there : ℕ → List Version → List (ℕ × Segment)
segments_there file vs = flat_map (λ e. map (λ s. (e.0, s)) (filter (λ s. eqb s.file file) e.1.segments)) (copies_in vs)

-- ---- the groups

pub record PolicyParts (domains : List (List ℕ × DomainRow)) (nodes : List (ℕ × Node)) (pools : List (ℕ × Pool)) : Type 0 where
  pub nodes_cite : list_all (λ n. is_some (row_of n.1.domain domains)) nodes ≡ true
  pub rules_cite : list_all (λ n. is_some (row_at n pools)) (flat_map (λ d. flat_map (λ s. destinations_of_set s.1) d.1.sets) domains) ≡ true
  pub defaults_there : list_all (λ d. list_all (λ s. is_default_there s.0 s.1) d.1.sets) domains ≡ true

pub record ClientParts (next_node next_filespace : ℕ) (nodes : List (ℕ × Node)) (filespaces : List (ℕ × Filespace)) (held : List (ℕ × HeldRow)) : Type 0 where
  pub filespaces_cite : list_all (λ f. is_some (lookup (at_number f.1.node) nodes)) filespaces ≡ true
  pub held_cite : list_all (λ h. is_held_row h && is_some (filespace_at h.1.filespace filespaces)) held ≡ true
  pub nodes_drawn : lie_in 1 next_node (keys_of nodes) ≡ true
  pub filespaces_drawn : lie_in 1 next_filespace (keys_of filespaces) ≡ true
  pub bounded : lie_in 1 (2 ^ 32 - 1) (next_node ∷ next_filespace ∷ []) ≡ true
  pub node_names : names_apart (map (λ n. n.1.name) nodes) ≡ true
  pub filespace_names : all_later (λ f g. not (eqb f.1.node g.1.node) || not (is_same_name f.1.name g.1.name)) filespaces ≡ true
  pub groups_orderly : list_all (λ f. list_all (λ g. is_orderly g.1) f.1.groups) filespaces ≡ true

pub record StoreParts (next_pool : ℕ) (stores : PoolRows) : Type 0 where
  pub pools_cite : list_all (λ p. is_some (named p.1.class stores.classes) && is_next stores.pools p.1.settings.next) stores.pools ≡ true
  pub volumes_cite : list_all (λ f. is_some (row_at f.1.pool stores.pools)) stores.volumes ≡ true
  pub drawn : lie_in 1 next_pool (keys_of stores.pools) ≡ true
  pub bounded : lie_in 1 (2 ^ 16) (next_pool ∷ []) ≡ true
  pub pool_names : names_apart (map (λ p. p.1.name) stores.pools) ≡ true
  pub volume_names : names_apart (map (λ f. f.1.name) stores.volumes) ≡ true
  pub named_soundly : list_all is_named_soundly stores.volumes ≡ true
  pub no_ring : list_all (λ p. not (comes_to p.0 p.1.settings.next stores.pools)) stores.pools ≡ true
  pub classes_are : (is_some (named disk stores.classes) && list_all is_class stores.classes) ≡ true

pub record FileParts (number today next_file : ℕ) (volumes : List (ℕ × Volume)) (backups : List (ℕ × Backup)) : Type 0 where
  pub drawn : lie_in 4 next_file (keys_of volumes ++ keys_of backups) ≡ true
  pub bounded : lie_in 4 (2 ^ 32 - 1) (next_file ∷ []) ≡ true
  pub apart : are_apart (keys_of volumes ++ keys_of backups) ≡ true
  pub backups_apart : are_apart (map (λ b. b.1.number) backups) ≡ true
  pub past : list_all (λ b. leb b.1.number number) backups ≡ true
  pub by_today : list_all (λ b. leb b.1.taken today) backups ≡ true

pub record VersionParts (number today next_object : ℕ) (stores : PoolRows) (vs : List Version) : Type 0 where
  pub copies_cite : list_all (λ e. is_some (row_at e.1.pool stores.pools) && list_all (λ s. is_of_pool e.1.pool (row_at s.file stores.volumes)) e.1.segments) (copies_in vs) ≡ true
  pub drawn : lie_in 1 next_object (map (λ version. version.object) vs) ≡ true
  pub bounded : lie_in 1 (2 ^ 62) (next_object ∷ []) ≡ true
  pub apart : are_distinct vs ≡ true
  pub past : list_all (λ e. leb e.1.placed number) (copies_in vs) ≡ true
  pub copied : list_all (λ version. not (is_nil version.copies) && (leb (length (filter (λ c. option_map_or (λ p. is_primary_kind p.kind) (row_at c.pool stores.pools) false) version.copies)) 1 && (are_by_pool version.copies && list_all (λ c. eqb (sum_by (λ s. s.len) c.segments) version.size) version.copies))) vs ≡ true
  pub volumes_are : list_all (λ f. is_volume_in stores (segments_there f.0 vs) f) stores.volumes ≡ true
  pub by_today : list_all (λ version. leb version.stored today && option_map_or (λ day. leb day today) version.since true) vs ≡ true
  pub tied : AllByRecursion (λ f. f.1.segments ≡ holding (segments_there f.0 vs)) stores.volumes

pub record ClockParts (number today : ℕ) (volumes : List (ℕ × Volume)) : Type 0 where
  pub number_bounded : ltb number (2 ^ 62) ≡ true
  pub day_bounded : ltb today (2 ^ 31) ≡ true
  pub volumes_by_today : list_all (λ f. option_map_or (λ day. leb day today) f.1.emptied true) volumes ≡ true

pub record Parts (v : Inv) : Type 0 where
  pub policy : PolicyParts v.domains v.clients.nodes v.stores.pools
  pub clients : ClientParts v.next_node v.next_filespace v.clients.nodes v.clients.filespaces v.clients.held
  pub stores : StoreParts v.next_pool v.stores
  pub files : FileParts v.number v.today v.next_file v.stores.volumes v.backups
  pub versions : VersionParts v.number v.today v.next_object v.stores (versions v)
  pub clock : ClockParts v.number v.today v.stores.volumes
  pub few_items : leb (count_items v) most_items ≡ true

-- ---- the whole and its parts

next-parts : (v : Inv) (o : Option ℕ) → next_is_there o v ≡ is_next v.stores.pools o
next-parts v None = refl
next-parts v (Some next) = refl

cites-parts : (v : Inv) (p : ℕ × Pool) → (is_some (named p.1.class v.stores.classes) && next_is_there p.1.settings.next v) ≡ (is_some (named p.1.class v.stores.classes) && is_next v.stores.pools p.1.settings.next)
cites-parts v p = ap (λ b. is_some (named p.1.class v.stores.classes) && b) (next-parts v p.1.settings.next)

pools-parts : (v : Inv) → list_all (λ p. is_some (named p.1.class v.stores.classes) && next_is_there p.1.settings.next v) v.stores.pools ≡ list_all (λ p. is_some (named p.1.class v.stores.classes) && is_next v.stores.pools p.1.settings.next) v.stores.pools
pools-parts v = list_all-same (λ p. is_some (named p.1.class v.stores.classes) && next_is_there p.1.settings.next v) (λ p. is_some (named p.1.class v.stores.classes) && is_next v.stores.pools p.1.settings.next) (cites-parts v) v.stores.pools

sized-parts : (v : Inv) (volume : Volume) (b : Bool) → is_sized b v volume ≡ is_sized_in v.stores volume b
sized-parts v volume true = refl
sized-parts v volume false = refl

volume-parts : (v : Inv) (f : ℕ × Volume) → is_volume v f ≡ is_volume_in v.stores (segments_there f.0 (versions v)) f
volume-parts v f =
    ap (λ b. b
    && (may_have f.1.access (option_map_or (λ p. is_primary_kind p.kind) (row_at f.1.pool v.stores.pools) false)
    && (are_disjoint (is_sequential f.1.pool v.stores) (segments_on f.0 v)
    && (list_all (λ e. is_placed (is_sequential f.1.pool v.stores) f.1 e.1) (segments_on f.0 v)
    && is_emptied_rightly (is_sequential f.1.pool v.stores) f.1 (segments_on f.0 v))))) (sized-parts v f.1 (is_sequential f.1.pool v.stores))

volumes-parts : (v : Inv) → list_all (is_volume v) v.stores.volumes ≡ list_all (λ f. is_volume_in v.stores (segments_there f.0 (versions v)) f) v.stores.volumes
volumes-parts v = list_all-same (is_volume v) (λ f. is_volume_in v.stores (segments_there f.0 (versions v)) f) (volume-parts v) v.stores.volumes

parts-from : (v : Inv) → Facts v → IsTied v → Parts v
parts-from v f t = record {
  policy = record { nodes_cite = f.nodes_cite; rules_cite = f.rules_cite; defaults_there = f.defaults_there };
  clients = record {
    filespaces_cite = f.filespaces_cite;
    held_cite = f.held_cite;
    nodes_drawn = f.nodes_drawn;
    filespaces_drawn = f.filespaces_drawn;
    bounded = f.clients_bounded;
    node_names = f.node_names;
    filespace_names = f.filespace_names;
    groups_orderly = f.groups_orderly;
  };
  stores = record {
    pools_cite = sym (pools-parts v) ∙ f.pools_cite;
    volumes_cite = f.volumes_cite;
    drawn = f.pools_drawn;
    bounded = f.pools_bounded;
    pool_names = f.pool_names;
    volume_names = f.volume_names;
    named_soundly = f.named_soundly;
    no_ring = f.no_ring;
    classes_are = f.classes_are;
  };
  files = record {
    drawn = f.files_drawn;
    bounded = f.files_bounded;
    apart = f.files_apart;
    backups_apart = f.backups_apart;
    past = f.backups_past;
    by_today = f.backups_by_today;
  };
  versions = record {
    copies_cite = f.copies_cite;
    drawn = f.objects_drawn;
    bounded = f.objects_bounded;
    apart = f.objects_apart;
    past = f.copies_past;
    copied = f.versions_copied;
    volumes_are = sym (volumes-parts v) ∙ f.volumes_are;
    by_today = f.versions_by_today;
    tied = t;
  };
  clock = record { number_bounded = f.number_bounded; day_bounded = f.day_bounded; volumes_by_today = f.volumes_by_today };
  few_items = f.few_items;
}

facts-from : (v : Inv) → Parts v → Facts v
facts-from v p = record {
  nodes_cite = p.policy.nodes_cite;
  filespaces_cite = p.clients.filespaces_cite;
  held_cite = p.clients.held_cite;
  rules_cite = p.policy.rules_cite;
  pools_cite = pools-parts v ∙ p.stores.pools_cite;
  volumes_cite = p.stores.volumes_cite;
  copies_cite = p.versions.copies_cite;
  nodes_drawn = p.clients.nodes_drawn;
  filespaces_drawn = p.clients.filespaces_drawn;
  pools_drawn = p.stores.drawn;
  files_drawn = p.files.drawn;
  objects_drawn = p.versions.drawn;
  clients_bounded = p.clients.bounded;
  pools_bounded = p.stores.bounded;
  files_bounded = p.files.bounded;
  objects_bounded = p.versions.bounded;
  number_bounded = p.clock.number_bounded;
  day_bounded = p.clock.day_bounded;
  objects_apart = p.versions.apart;
  files_apart = p.files.apart;
  backups_apart = p.files.backups_apart;
  backups_past = p.files.past;
  copies_past = p.versions.past;
  node_names = p.clients.node_names;
  pool_names = p.stores.pool_names;
  volume_names = p.stores.volume_names;
  filespace_names = p.clients.filespace_names;
  named_soundly = p.stores.named_soundly;
  defaults_there = p.policy.defaults_there;
  groups_orderly = p.clients.groups_orderly;
  versions_copied = p.versions.copied;
  volumes_are = volumes-parts v ∙ p.versions.volumes_are;
  no_ring = p.stores.no_ring;
  versions_by_today = p.versions.by_today;
  backups_by_today = p.files.by_today;
  volumes_by_today = p.clock.volumes_by_today;
  classes_are = p.stores.classes_are;
  few_items = p.few_items;
}

pub parts_of : (v : Inv) → is_valid v ≡ true → IsTied v → Parts v
parts_of v h t = parts-from v (facts_of v h) t

pub valid_from : (v : Inv) → Parts v → (is_valid v ≡ true) × IsTied v
valid_from v p = (valid_of v (facts-from v p), p.versions.tied)

-- ---- a later transaction, and a later day

by_later : (n m : ℕ) → leb n m ≡ true → (o : Option ℕ) → option_map_or (λ day. leb day n) o true ≡ true → option_map_or (λ day. leb day m) o true ≡ true
by_later n m le None h = refl
by_later n m le (Some day) h = le_then day n m h le

pub files_later : (number more today day next : ℕ) (volumes : List (ℕ × Volume)) (backups : List (ℕ × Backup)) → leb number more ≡ true → leb today day ≡ true → FileParts number today next volumes backups → FileParts more day next volumes backups
files_later number more today day next volumes backups n d f = record {
  drawn = f.drawn;
  bounded = f.bounded;
  apart = f.apart;
  backups_apart = f.backups_apart;
  past = list_all-mono (λ b. leb b.1.number number) (λ b. leb b.1.number more) (λ b h. le_then b.1.number number more h n) backups f.past;
  by_today = list_all-mono (λ b. leb b.1.taken today) (λ b. leb b.1.taken day) (λ b h. le_then b.1.taken today day h d) backups f.by_today;
}

pub versions_later : (number more today day next : ℕ) (stores : PoolRows) (vs : List Version) → leb number more ≡ true → leb today day ≡ true → VersionParts number today next stores vs → VersionParts more day next stores vs
versions_later number more today day next stores vs n d p = record {
  copies_cite = p.copies_cite;
  drawn = p.drawn;
  bounded = p.bounded;
  apart = p.apart;
  past = list_all-mono (λ e. leb e.1.placed number) (λ e. leb e.1.placed more) (λ e h. le_then e.1.placed number more h n) (copies_in vs) p.past;
  copied = p.copied;
  volumes_are = p.volumes_are;
  by_today = list_all-mono (λ version. leb version.stored today && option_map_or (λ day. leb day today) version.since true) (λ version. leb version.stored day && option_map_or (λ d. leb d day) version.since true)
      (λ w h. both _ _ (le_then w.stored today day (first _ _ h) d) (by_later today day d w.since (rest _ _ h))) vs p.by_today;
  tied = p.tied;
}

pub clock_later : (number more today day : ℕ) (volumes : List (ℕ × Volume)) → ltb more (2 ^ 62) ≡ true → ltb day (2 ^ 31) ≡ true → leb today day ≡ true → ClockParts number today volumes → ClockParts more day volumes
clock_later number more today day volumes n b d c = record {
  number_bounded = n;
  day_bounded = b;
  volumes_by_today = list_all-mono (λ f. option_map_or (λ x. leb x today) f.1.emptied true) (λ f. option_map_or (λ x. leb x day) f.1.emptied true) (λ f h. by_later today day d f.1.emptied h) volumes c.volumes_by_today;
}

pub le_itself : (n : ℕ) → leb n n ≡ true
le_itself n = le-leb n n (omega arith)

pub le_more : (n : ℕ) → leb n (n + 1) ≡ true
le_more n = le-leb n (n + 1) (omega arith)
