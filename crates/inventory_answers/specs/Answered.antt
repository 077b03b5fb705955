-- What the database answers to queries.
use Rattle.std.specs.Prelude.{Result, Ok}
use Rattle.kinds.specs.declared.refusal.Refusal.{Refusal}
use Rattle.inventory_work.specs.inventory_rows.version_groups.Entries.{on_ok}
use Rattle.inventory_work.specs.inventory_rows.State.{Inv}
use Rattle.inventory_work.specs.Copies.{on_pool, on_volume, missing}
use Rattle.inventory_work.specs.Expiring.{unretained}
use Rattle.inventory_work.specs.Found.{find_named}
use Rattle.inventory_work.specs.Rules.{rules_of}
use Rattle.inventory_work.specs.Volumes.{eligible, emptied}
use Rattle.inventory_answers.specs.declared.reply.Answer.{Answer}
use Rattle.inventory_answers.specs.declared.reply.Rows.{Rows}
use Rattle.inventory_answers.specs.declared.reply.Rows.TheVariants as rows
use Rattle.inventory_answers.specs.declared.query.Query.{Query}
use Rattle.inventory_answers.specs.declared.query.Query.TheVariants as query
use Rattle.inventory_answers.specs.Clients.{node_lines, filespaces_of, versions_of, path_versions_of}
use Rattle.inventory_answers.specs.Content.{content_of}
use Rattle.inventory_answers.specs.Held.{held_of}
use Rattle.inventory_answers.specs.Policy.{domain_lines, sets_of, classes_of, groups_of, activation_refusal}
use Rattle.inventory_answers.specs.Stores.{device_lines, pools_of, volumes_of, backup_lines}

-- the rows that a query asks for, or its refusal
abbrev pub rows_of : Query → Inv → Result Rows Refusal
rows_of query.Today v = Ok rows.Today
rows_of query.Domains v = Ok (rows.Domains (domain_lines v.domains))
rows_of (query.Sets domain) v = on_ok rows.Sets (sets_of domain v.domains)
rows_of (query.Classes domain set) v = on_ok rows.Classes (classes_of domain set v.domains)
rows_of (query.Groups domain set) v = on_ok rows.Groups (groups_of domain set v.domains v.stores)
rows_of (query.Validated domain set) v = Ok (rows.Validated (activation_refusal domain set v.domains))
rows_of query.Nodes v = Ok (rows.Nodes (node_lines v.clients))
rows_of (query.Filespaces node) v = on_ok rows.Filespaces (filespaces_of node v.clients)
rows_of query.Devices v = Ok (rows.Devices (device_lines v.stores))
rows_of (query.Pools pool) v = on_ok rows.Pools (pools_of pool v.stores)
rows_of (query.Volumes volume pool) v = on_ok rows.Volumes (volumes_of volume pool v.stores)
rows_of (query.Content volume) v = on_ok rows.Content (content_of volume v)
rows_of query.History v = Ok (rows.History (backup_lines v.backups))
rows_of (query.Versions node filespace) v = on_ok rows.Versions (versions_of node filespace v)
rows_of (query.Path node filespace path) v = on_ok rows.Versions (path_versions_of node filespace path v)
rows_of (query.Held filespace) v = on_ok rows.Held (held_of filespace v)
rows_of (query.Lookup named) v = on_ok rows.Lookup (find_named named v)
rows_of (query.Rules node) v = on_ok rows.Rules (rules_of node v)
rows_of (query.OnPool pool) v = on_ok rows.OnPool (on_pool pool v)
rows_of (query.OnVolume file) v = on_ok rows.OnVolume (on_volume file v)
rows_of (query.Missing primary copy) v = on_ok rows.Missing (missing primary copy v)
rows_of (query.Eligible pool threshold) v = on_ok rows.Eligible (eligible pool threshold v)
rows_of query.Unretained v = Ok (rows.Unretained (unretained v))
rows_of query.Emptied v = Ok (rows.Emptied (emptied v))
rows_of query.LogBytes v = Ok (rows.LogBytes 0)

-- what is answered: the number of the last transaction, the day, and the rows
abbrev pub answered : Query → Inv → Result Answer Refusal
answered query v = on_ok (λ rows. record { n = v.number; today = v.today; rows = rows }) (rows_of query v)
