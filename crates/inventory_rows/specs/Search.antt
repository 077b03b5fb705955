-- Where things stand in the database, and what uses them.
use Rattle.std.specs.Prelude.{◌≡◌, ℕ, Bool, true, false, not, ◌==◌, ◌&&◌, ◌||◌, is_some, List, [], ◌∷◌, ◌++◌, map, filter, Option, Some, None, option_and_then}
use Rattle.std.specs.List.{list_all, list_any, flat_map, find}
use Rattle.std.specs.Map.{lookup}
use Rattle.std.specs.Option.{option_map, option_map_or}
use Rattle.kinds.specs.declared.pool.PoolKind.{PoolKind}
use Rattle.kinds.specs.declared.pool.PoolKind.TheVariants.{Primary, Copy}
use Rattle.kinds.specs.declared.rule.RuleFound.{RuleFound}
use Rattle.kinds.specs.declared.segment.Segment.{Segment}
use Rattle.kinds.specs.Names.{is_same_name}
use Rattle.policy_domains.specs.declared.classes.ManagementClass.{ManagementClass}
use Rattle.policy_domains.specs.Rows.{SetRow, DomainRow}
use Rattle.policy_domains.specs.Rules.{rule_of}
use Rattle.object_rows.specs.version_groups.declared.copies.CopyRow.{CopyRow}
use Rattle.object_rows.specs.version_groups.declared.group.Group.{Group}
use Rattle.object_rows.specs.version_groups.declared.groups.Filespace.{Filespace}
use Rattle.object_rows.specs.version_groups.declared.versions.Version.{Version}
use Rattle.object_rows.specs.version_groups.Versions.{version_of}
use Rattle.object_rows.specs.declared.place.Node.{Node}
use Rattle.object_rows.specs.declared.held_object.HeldRow.{HeldRow}
use Rattle.object_rows.specs.Filespaces.{at_number, filespace_at, group_at}
use Rattle.object_rows.specs.Held.{copies_in}
use Rattle.object_rows.specs.Held as held_copies
use Rattle.object_rows.specs.HeldRows.{held_at}
use Rattle.object_rows.specs.Rows.{Rows, kept_of, filespace_of_kept}
use Rattle.pool_rows.specs.pool_tables.declared.pool.Pool.{Pool}
use Rattle.pool_rows.specs.PoolRows.{PoolRows}
use Rattle.pool_rows.specs.pool_tables.Rows.{row_at, number_where}
use Rattle.inventory_rows.specs.State.{Inv}

-- what is kept of each object: the versions of all paths, and, as a version that is never inactive, each held object
abbrev pub versions : Inv → List Version
versions v = kept_of v.clients

-- what is kept of an object
abbrev pub version : ℕ → Inv → Option Version
version object v = version_of object (versions v)

-- an object that is held
abbrev pub held : ℕ → Inv → Option HeldRow
held object v = held_at object v.clients.held

-- the filespace in which an object is kept
abbrev pub filespace_of : ℕ → Inv → Option ℕ
filespace_of object v = filespace_of_kept object v.clients

-- the group of a path
abbrev pub group : ℕ → List ℕ → Inv → Option Group
group filespace path v = group_at filespace path v.clients.filespaces

-- the copy of a version in a pool
abbrev pub copy_in : ℕ → Version → Option CopyRow
copy_in pool version = find (λ c. c.pool == pool) version.copies

-- one of the copy's segments lies on the volume
abbrev pub lies_on : ℕ → CopyRow → Bool
lies_on file copy = list_any (λ s. s.file == file) copy.segments

-- the pool with this number
abbrev pub pool : ℕ → Inv → Option Pool
pool number v = row_at number v.stores.pools

abbrev pub is_primary_kind : PoolKind → Bool
is_primary_kind Primary = true
is_primary_kind Copy = false

-- the pool is there and a primary one
abbrev pub is_primary : ℕ → Inv → Bool
is_primary number v = option_map_or (λ p. is_primary_kind p.kind) (pool number v) false

-- the name of the domain of a node
abbrev pub node_domain : ℕ → Rows → Option (List ℕ)
node_domain node clients = option_map (λ n. n.domain) (lookup (at_number node) clients.nodes)

abbrev pub domain_of_node : ℕ → Inv → Option (List ℕ)
domain_of_node node v = node_domain node v.clients

-- the name of the domain of a filespace's node
abbrev pub filespace_domain : ℕ → Rows → Option (List ℕ)
filespace_domain filespace clients = option_and_then (λ f. node_domain f.node clients) (filespace_at filespace clients.filespaces)

abbrev pub domain_of : ℕ → Inv → Option (List ℕ)
domain_of filespace v = filespace_domain filespace v.clients

-- the rule by which the versions of a class are kept in a filespace
abbrev pub rule_for : ℕ → List ℕ → List (List ℕ × DomainRow) → Rows → Option RuleFound
rule_for filespace class domains clients = option_and_then (λ domain. rule_of domains domain class) (filespace_domain filespace clients)

abbrev pub rule_in : ℕ → List ℕ → Inv → Option RuleFound
rule_in filespace class v = rule_for filespace class v.domains v.clients

-- the destinations of the copy groups of a class
abbrev pub destinations_of : ManagementClass → List ℕ
destinations_of class = option_map_or (λ rule. rule.destination ∷ []) class.backup [] ++ option_map_or (λ rule. rule.destination ∷ []) class.archive []

-- the destinations of the copy groups of a set
abbrev pub destinations_of_set : SetRow → List ℕ
destinations_of_set set = flat_map (λ c. destinations_of c.1) set.classes

-- the destinations of the copy groups of all sets of all domains
abbrev pub destinations : Inv → List ℕ
destinations v = flat_map (λ d. flat_map (λ s. destinations_of_set s.1) d.1.sets) v.domains

-- a copy group has the pool as its destination
abbrev pub is_destination : ℕ → Inv → Bool
is_destination pool v = list_any (λ destination. destination == pool) (destinations v)

-- the least node of a domain
abbrev pub node_in : List ℕ → Inv → Option ℕ
node_in domain v = number_where (λ n. is_same_name n.domain domain) v.clients.nodes

-- the copies of all objects, each with its object
abbrev pub copies : Inv → List (ℕ × CopyRow)
copies v = copies_in v.clients

-- a copy lies in the pool
abbrev pub holds_copy : ℕ → Inv → Bool
holds_copy pool v = held_copies.holds_copy pool v.clients

-- the segments on a volume, each with its object
abbrev pub segments_on : ℕ → Inv → List (ℕ × Segment)
segments_on file v = flat_map (λ e. map (λ s. (e.0, s)) (filter (λ s. s.file == file) e.1.segments)) (copies v)
