-- A query is refused only where what it names isn't there.
use Rattle.std.proofs.Common.{◌≡◌, ℕ, ◌&&◌, is_some, Bool, true, false, if◌then◌else◌, List, Option, None, Some, Result, Ok, Err, refl, ap}
use Rattle.kinds.specs.declared.refusal.Refusal.{Refusal}
use Rattle.kinds.specs.declared.refusal.Refusal.TheVariants as refused
use Rattle.inventory_rows.specs.object_rows.Filespaces.{filespace_at}
use Rattle.inventory_rows.specs.object_rows.Names.{filespace_named, node_named}
use Rattle.inventory_rows.specs.object_rows.Rows.{Rows as Clients}
use Rattle.inventory_rows.specs.policy_domains.Rows.{DomainRow, row_of}
use Rattle.inventory_rows.specs.pool_rows.PoolRows.{PoolRows, pool_named, volume_named}
use Rattle.inventory_rows.specs.pool_tables.Rows.{named}
use Rattle.inventory_rows.specs.version_groups.Entries.{if_found, on_ok}
use Rattle.inventory_rows.specs.Search.{domain_of_node}
use Rattle.inventory_rows.specs.State.{Inv}
use Rattle.inventory_work.specs.Copies.{has_pool, has_volume, missing, missing_in, on_pool, on_volume}
use Rattle.inventory_work.specs.Found.{filespace_asked, find_named}
use Rattle.inventory_work.specs.Rules.{rules_in, rules_of}
use Rattle.inventory_work.specs.Volumes.{eligible, eligible_in}
use Rattle.inventory_work.specs.declared.lines.Rules.{Rules}
use Rattle.inventory_work.specs.declared.search.Found.TheVariants as found
use Rattle.inventory_work.specs.declared.search.Named.{Named}
use Rattle.inventory_work.specs.declared.search.Named.TheVariants as thing
use Rattle.inventory_answers.specs.Answered.{answered, rows_of}
use Rattle.inventory_answers.specs.Clients.{filespace_lines, filespaces_of, path_versions_of, versions_at, versions_of, versions_under}
use Rattle.inventory_answers.specs.Content.{content_lines, content_of, volume_at}
use Rattle.inventory_answers.specs.Held.{held_lines, held_of}
use Rattle.inventory_answers.specs.Look.{asked, node_asked, pool_asked, set_row, volume_asked}
use Rattle.inventory_answers.specs.Policy.{class_lines, classes_of, group_lines, groups_of, set_lines, sets_of}
use Rattle.inventory_answers.specs.Stores.{pool_lines, pools_of, volumes_asked, volumes_of}
use Rattle.inventory_answers.specs.declared.query.Query.{Query}
use Rattle.inventory_answers.specs.declared.query.Query.TheVariants as query
use Rattle.inventory_answers.specs.declared.reply.Rows.TheVariants as kind
use Rattle.command_steps.specs.Answers.{halt_by}
use Rattle.line_results.proofs.Mild.{IsMild}

-- there is something, or it isn't found
abbrev pub IsFound : {A : Type 0} → Result A Refusal → Type 0
IsFound (Ok x) = Unit {0}
IsFound (Err e) = e ≡ refused.NotFound

f-found : {X A : Type 0} (o : Option X) (f : X → Result A Refusal) → ((x : X) → IsFound (f x)) → IsFound (if_found o f)
f-found None f h = refl
f-found (Some x) f h = h x

f-on : {A B : Type 0} (f : A → B) (r : Result A Refusal) → IsFound r → IsFound (on_ok f r)
f-on f (Ok x) h = tt
f-on f (Err e) h = h

f-if : {A : Type 0} (b : Bool) (r s : Result A Refusal) → IsFound r → IsFound s → IsFound (if b then r else s)
f-if true r s h k = h
f-if false r s h k = k

-- no run ends so
pub found-mild : {A : Type 0} (r : Result A Refusal) → IsFound r → IsMild r
found-mild (Ok x) h = tt
found-mild (Err e) h = ap halt_by h

-- ---- queries

f-set-row : (domain set : List ℕ) (domains : List (List ℕ × DomainRow)) → IsFound (set_row domain set domains)
f-set-row domain set domains = f-found (row_of domain domains) (λ row. if_found (row_of set row.sets) Ok) (λ row. f-found (row_of set row.sets) Ok (λ it. tt))

f-asked : (find : List ℕ → Option ℕ) (name : Option (List ℕ)) → IsFound (asked find name)
f-asked find None = tt
f-asked find (Some name) = f-found (find name) (λ number. Ok (Some number)) (λ number. tt)

f-volumes : (s : PoolRows) (volume pool : Result (Option ℕ) Refusal) → IsFound volume → IsFound pool → IsFound (volumes_asked volume pool s)
f-volumes s (Err e) pool h k = h
f-volumes s (Ok file) (Err e) h k = k
f-volumes s (Ok file) (Ok pool) h k = tt

f-filespace : (node filespace : List ℕ) (clients : Clients) → IsFound (filespace_asked node filespace clients)
f-filespace node filespace clients =
    f-found (node_named node clients.nodes) (λ n. if_found (filespace_named n filespace clients.filespaces) Ok) (λ n. f-found (filespace_named n filespace clients.filespaces) Ok (λ it. tt))

f-named : (name : Named) (v : Inv) → IsFound (find_named name v)
f-named (thing.Node name) v = f-found (node_named name v.clients.nodes) (λ n. Ok (found.Number n)) (λ n. tt)
f-named (thing.DevClass name) v = f-found (named name v.stores.classes) (λ capacity. Ok (found.DevClass capacity)) (λ n. tt)
f-named (thing.Pool name) v = f-found (pool_named name v.stores) (λ n. Ok (found.Number n)) (λ n. tt)
f-named (thing.Volume name) v = f-found (volume_named name v.stores) (λ n. Ok (found.Number n)) (λ n. tt)
f-named (thing.Filespace node filespace) v = f-on found.Number (filespace_asked node filespace v.clients) (f-filespace node filespace v.clients)

pub rules-found : (node : ℕ) (v : Inv) → IsFound (rules_of node v)
rules-found node v = f-found (domain_of_node node v) (λ domain. Ok (rules_in domain v.domains)) (λ domain. tt)

f-there : {A : Type 0} (b : Bool) (x : A) → IsFound (if b then Ok x else Err refused.NotFound)
f-there true x = tt
f-there false x = refl

f-rows-of : (q : Query) (v : Inv) → IsFound (rows_of q v)
f-rows-of query.Today v = tt
f-rows-of query.Domains v = tt
f-rows-of (query.Sets domain) v = f-on kind.Sets (sets_of domain v.domains) (f-found (row_of domain v.domains) (λ row. Ok (set_lines domain row)) (λ row. tt))
f-rows-of (query.Classes domain set) v = f-on kind.Classes (classes_of domain set v.domains) (f-on (class_lines domain set) (set_row domain set v.domains) (f-set-row domain set v.domains))
f-rows-of (query.Groups domain set) v = f-on kind.Groups (groups_of domain set v.domains v.stores) (f-on (group_lines domain set v.stores) (set_row domain set v.domains) (f-set-row domain set v.domains))
f-rows-of (query.Validated domain set) v = tt
f-rows-of query.Nodes v = tt
f-rows-of (query.Filespaces node) v = f-on kind.Filespaces (filespaces_of node v.clients) (f-on (filespace_lines v.clients) (node_asked node v.clients) (f-asked (λ n. node_named n v.clients.nodes) node))
f-rows-of query.Devices v = tt
f-rows-of (query.Pools pool) v = f-on kind.Pools (pools_of pool v.stores) (f-on (λ number. pool_lines number v.stores) (pool_asked pool v.stores) (f-asked (λ n. pool_named n v.stores) pool))
f-rows-of (query.Volumes volume pool) v =
    f-on kind.Volumes (volumes_of volume pool v.stores)
    (f-volumes v.stores (volume_asked volume v.stores) (pool_asked pool v.stores) (f-asked (λ n. volume_named n v.stores) volume) (f-asked (λ n. pool_named n v.stores) pool))
f-rows-of (query.Content volume) v = f-on kind.Content (content_of volume v) (f-found (volume_at volume v.stores) (λ it. Ok (content_lines v it)) (λ it. tt))
f-rows-of query.History v = tt
f-rows-of (query.Versions node filespace) v = f-on kind.Versions (versions_of node filespace v) (f-on (λ n. versions_at n v) (filespace_asked node filespace v.clients) (f-filespace node filespace v.clients))
f-rows-of (query.Path node filespace path) v = f-on kind.Versions (path_versions_of node filespace path v) (f-on (λ n. versions_under n path v) (filespace_asked node filespace v.clients) (f-filespace node filespace v.clients))
f-rows-of (query.Held filespace) v = f-on kind.Held (held_of filespace v) (f-if (is_some (filespace_at filespace v.clients.filespaces)) (Ok (held_lines v.today filespace v.clients.held)) (Err refused.NotFound) tt refl)
f-rows-of (query.Lookup name) v = f-on kind.Lookup (find_named name v) (f-named name v)
f-rows-of (query.Rules node) v = f-on kind.Rules (rules_of node v) (rules-found node v)
f-rows-of (query.OnPool pool) v = f-on kind.OnPool (on_pool pool v) (f-there (has_pool pool v) _)
f-rows-of (query.OnVolume file) v = f-on kind.OnVolume (on_volume file v) (f-there (has_volume file v) _)
f-rows-of (query.Missing primary copy) v = f-on kind.Missing (missing primary copy v) (f-if (has_pool primary v && has_pool copy v) (Ok (missing_in primary copy v)) (Err refused.NotFound) tt refl)
f-rows-of (query.Eligible pool threshold) v = f-on kind.Eligible (eligible pool threshold v) (f-if (has_pool pool v) (Ok (eligible_in pool threshold v.stores)) (Err refused.NotFound) tt refl)
f-rows-of query.Unretained v = tt
f-rows-of query.Emptied v = tt
f-rows-of query.LogBytes v = tt

pub answered-found : (q : Query) (v : Inv) → IsFound (answered q v)
answered-found q v = f-on (λ it. record { n = v.number; today = v.today; rows = it }) (rows_of q v) (f-rows-of q v)
