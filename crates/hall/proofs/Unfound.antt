-- A query is refused only where what it names isn't there.
use Rattle.std.proofs.Common.{◌≡◌, Bool, true, false, ◌&&◌, is_some, List, ℕ, Option, Some, None, Result, Ok, Err, refl, if◌then◌else◌, ◌∙◌}
use Rattle.kinds.specs.declared.refusal.Refusal.{Refusal}
use Rattle.kinds.specs.declared.refusal.Refusal.TheVariants as refusal
use Rattle.inventory_rows.specs.object_rows.Filespaces.{filespace_at}
use Rattle.inventory_rows.specs.State.{Inv}
use Rattle.inventory_rows.specs.version_groups.Entries.{if_found, on_ok}
use Rattle.inventory_rows.specs.Search.{domain_of_node}
use Rattle.inventory_rows.specs.object_rows.Names.{filespace_named, node_named}
use Rattle.inventory_rows.specs.policy_domains.Rows.{DomainRow, row_of}
use Rattle.inventory_rows.specs.pool_rows.PoolRows.{PoolRows, pool_named, volume_named}
use Rattle.inventory_rows.specs.pool_tables.Rows.{named}
use Rattle.inventory_work.specs.Copies.{has_pool, has_volume, missing, missing_in, on_pool, on_volume}
use Rattle.inventory_work.specs.Found.{device_found, filespace_asked, find_named, number_found}
use Rattle.inventory_work.specs.Rules.{rules_in, rules_of}
use Rattle.inventory_work.specs.Volumes.{eligible, eligible_in}
use Rattle.inventory_work.specs.declared.search.Found.TheVariants as found
use Rattle.inventory_work.specs.declared.search.Named.{Named}
use Rattle.inventory_work.specs.declared.search.Named.TheVariants as thing
use Rattle.inventory_answers.specs.Answered.{answered, rows_of}
use Rattle.inventory_answers.specs.Clients.{filespace_lines, filespaces_of, path_versions_of, versions_at, versions_of, versions_under}
use Rattle.inventory_answers.specs.Content.{content_lines, content_of, volume_at}
use Rattle.inventory_answers.specs.Held.{held_lines, held_of}
use Rattle.inventory_answers.specs.Look.{asked, node_asked, pool_asked, set_row, volume_asked}
use Rattle.inventory_answers.specs.Policy.{class_lines, classes_of, group_lines, groups_of, set_lines, sets_of}
use Rattle.inventory_answers.specs.Stores.{pool_lines, pools_of, volumes_asked, volumes_of}
use Rattle.inventory_answers.specs.declared.reply.Answer.{Answer}
use Rattle.inventory_answers.specs.declared.reply.Rows.TheVariants as rows
use Rattle.inventory_answers.specs.declared.query.Query.{Query}
use Rattle.inventory_answers.specs.declared.query.Query.TheVariants as query

-- there is something, or it isn't found
abbrev pub IsFound : {A : Type 0} → Result A Refusal → Type 0
IsFound (Ok x) = Unit {0}
IsFound (Err e) = e ≡ refusal.NotFound

if_there : {A B : Type 0} (o : Option A) (f : A → Result B Refusal) → ((x : A) → IsFound (f x)) → IsFound (if_found o f)
if_there None f h = refl
if_there (Some x) f h = h x

on_there : {A B : Type 0} (f : A → B) (r : Result A Refusal) → IsFound r → IsFound (on_ok f r)
on_there f (Ok x) h = tt
on_there f (Err e) h = h

where_true : {A : Type 0} (b : Bool) (x : A) → IsFound (if b then Ok x else Err refusal.NotFound)
where_true true x = tt
where_true false x = refl

asked_there : (find : List ℕ → Option ℕ) (name : Option (List ℕ)) → IsFound (asked find name)
asked_there find None = tt
asked_there find (Some name) = if_there (find name) (λ number. Ok (Some number)) (λ x. tt)

both_there : (a b : Result (Option ℕ) Refusal) (s : PoolRows) → IsFound a → IsFound b → IsFound (volumes_asked a b s)
both_there (Err e) b s h t = h
both_there (Ok file) (Err e) s h t = t
both_there (Ok file) (Ok pool) s h t = tt

number_there : (o : Option ℕ) → IsFound (number_found o)
number_there None = refl
number_there (Some n) = tt

device_there : (class : List ℕ) (s : PoolRows) → IsFound (device_found class s)
device_there class s = if_there (named class s.classes) (λ capacity. Ok (found.DevClass capacity)) (λ x. tt)

filespace_there : (node name : List ℕ) (v : Inv) → IsFound (filespace_asked node name v.clients)
filespace_there node name v = if_there (node_named node v.clients.nodes) (λ n. if_found (filespace_named n name v.clients.filespaces) Ok)
    (λ n. if_there (filespace_named n name v.clients.filespaces) Ok (λ x. tt))

named_there : (name : Named) (v : Inv) → IsFound (find_named name v)
named_there (thing.Node name) v = number_there (node_named name v.clients.nodes)
named_there (thing.DevClass name) v = device_there name v.stores
named_there (thing.Pool name) v = number_there (pool_named name v.stores)
named_there (thing.Volume name) v = number_there (volume_named name v.stores)
named_there (thing.Filespace node name) v = on_there found.Number (filespace_asked node name v.clients) (filespace_there node name v)

set_there : (domain set : List ℕ) (domains : List (List ℕ × DomainRow)) → IsFound (set_row domain set domains)
set_there domain set domains = if_there (row_of domain domains) (λ row. if_found (row_of set row.sets) Ok) (λ row. if_there (row_of set row.sets) Ok (λ x. tt))

rows_there : (q : Query) (v : Inv) → IsFound (rows_of q v)
rows_there query.Today v = tt
rows_there query.Domains v = tt
rows_there (query.Sets domain) v = on_there rows.Sets (sets_of domain v.domains) (if_there (row_of domain v.domains) (λ row. Ok (set_lines domain row)) (λ x. tt))
rows_there (query.Classes domain set) v = on_there rows.Classes (classes_of domain set v.domains) (on_there (class_lines domain set) (set_row domain set v.domains) (set_there domain set v.domains))
rows_there (query.Groups domain set) v = on_there rows.Groups (groups_of domain set v.domains v.stores)
    (on_there (group_lines domain set v.stores) (set_row domain set v.domains) (set_there domain set v.domains))
rows_there (query.Validated domain set) v = tt
rows_there query.Nodes v = tt
rows_there (query.Filespaces node) v = on_there rows.Filespaces (filespaces_of node v.clients)
    (on_there (filespace_lines v.clients) (node_asked node v.clients) (asked_there (λ n. node_named n v.clients.nodes) node))
rows_there query.Devices v = tt
rows_there (query.Pools name) v = on_there rows.Pools (pools_of name v.stores)
    (on_there (λ number. pool_lines number v.stores) (pool_asked name v.stores) (asked_there (λ n. pool_named n v.stores) name))
rows_there (query.Volumes volume name) v =
    on_there rows.Volumes (volumes_of volume name v.stores)
    (both_there (volume_asked volume v.stores) (pool_asked name v.stores) v.stores (asked_there (λ n. volume_named n v.stores) volume) (asked_there (λ n. pool_named n v.stores) name))
rows_there (query.Content name) v = on_there rows.Content (content_of name v) (if_there (volume_at name v.stores) (λ volume. Ok (content_lines v volume)) (λ x. tt))
rows_there query.History v = tt
rows_there (query.Versions node name) v = on_there rows.Versions (versions_of node name v) (on_there (λ n. versions_at n v) (filespace_asked node name v.clients) (filespace_there node name v))
rows_there (query.Path node name path) v = on_there rows.Versions (path_versions_of node name path v) (on_there (λ n. versions_under n path v) (filespace_asked node name v.clients) (filespace_there node name v))
rows_there (query.Held filespace) v =
    on_there rows.Held (held_of filespace v) (where_true (is_some (filespace_at filespace v.clients.filespaces)) (held_lines v.today filespace v.clients.held))
rows_there (query.Lookup name) v = on_there rows.Lookup (find_named name v) (named_there name v)
rows_there (query.Rules node) v = on_there rows.Rules (rules_of node v) (if_there (domain_of_node node v) (λ domain. Ok (rules_in domain v.domains)) (λ x. tt))
rows_there (query.OnPool number) v = on_there rows.OnPool (on_pool number v) (where_true (has_pool number v) _)
rows_there (query.OnVolume file) v = on_there rows.OnVolume (on_volume file v) (where_true (has_volume file v) _)
rows_there (query.Missing primary copy) v = on_there rows.Missing (missing primary copy v) (where_true (has_pool primary v && has_pool copy v) (missing_in primary copy v))
rows_there (query.Eligible number threshold) v = on_there rows.Eligible (eligible number threshold v) (where_true (has_pool number v) (eligible_in number threshold v.stores))
rows_there query.Unretained v = tt
rows_there query.Emptied v = tt
rows_there query.LogBytes v = tt

pub answer_there : (q : Query) (v : Inv) → IsFound (answered q v)
answer_there q v = on_there (λ rows. let answer : Answer = record { n = v.number; today = v.today; rows = rows } in answer) (rows_of q v) (rows_there q v)

pub err_unfound : {A : Type 0} (r : Result A Refusal) (e : Refusal) → IsFound r → r ≡ Err e → e ≡ refusal.NotFound
err_unfound (Ok x) e h is = absurd cc
err_unfound (Err d) e h is = let same : d ≡ e = cc in (let turn : e ≡ d = cc in turn) ∙ h
