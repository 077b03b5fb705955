use Rattle.std.proofs.Common.{[], ◌∷◌, ◌++◌}
use Rattle.inventory_rules.specs.Backups.{after_refused}
use Rattle.inventory_rules.specs.Common.{file_bound, files_refused}
use Rattle.inventory_laws.proofs.BackupCounts.{begin_counted, delete_takes, end_takes}
use Rattle.inventory_laws.proofs.BackupRows.{begin_stays, delete_stays, end_stays}
use Rattle.inventory_laws.proofs.Causes.{back_nil, file_below}
use Rattle.inventory_laws.proofs.ClientCounts as client_counts
use Rattle.inventory_laws.proofs.Clients.{object_stays}
use Rattle.inventory_laws.proofs.DayChanges as days
use Rattle.inventory_laws.proofs.Facts.{facts_of}
use Rattle.inventory_laws.proofs.MadeRows.{can_clients, can_policy}
use Rattle.inventory_laws.proofs.Policy as policy
use Rattle.inventory_laws.proofs.PolicyCounts.{policy_effect}
use Rattle.inventory_laws.proofs.PolicyTakes.{policy_takes}
use Rattle.inventory_laws.proofs.by_kind.rows_by_kind.Goals as goal

pub returns-clause-day_stays : goal.returns-clause-day_stays
returns-clause-day_stays c j day v of_calendar valid tied legal sizes = days.day_stays j day v of_calendar valid tied legal sizes

pub returns-clause-policy_stays : goal.returns-clause-policy_stays
returns-clause-policy_stays c j x v valid tied legal sizes = policy.policy_stays j x v valid tied legal sizes

pub returns-clause-clients_stay : goal.returns-clause-clients_stay
returns-clause-clients_stay c j x v valid tied legal sizes = object_stays j x v valid tied legal sizes

pub returns-clause-begun_stays : goal.returns-clause-begun_stays
returns-clause-begun_stays c j file after v valid tied legal sizes = begin_stays j file after v valid tied legal sizes

pub returns-clause-ended_stays : goal.returns-clause-ended_stays
returns-clause-ended_stays c j file v valid tied legal sizes = end_stays j file v valid tied legal sizes

pub returns-clause-deleted_stays : goal.returns-clause-deleted_stays
returns-clause-deleted_stays c j file v valid tied legal sizes = delete_stays j file v valid tied legal sizes

pub returns-clause-policy_counted : goal.returns-clause-policy_counted
returns-clause-policy_counted c j x v ordered legal new = policy_effect x v new ordered legal

pub returns-clause-policy_less : goal.returns-clause-policy_less
returns-clause-policy_less c x v old = policy_takes x v old

pub returns-clause-clients_counted : goal.returns-clause-clients_counted
returns-clause-clients_counted c j x v valid legal new = client_counts.clients_counted x v (facts_of v valid) legal new

pub returns-clause-clients_less : goal.returns-clause-clients_less
returns-clause-clients_less c x v old = client_counts.clients_take x v old

pub returns-clause-begun_counted : goal.returns-clause-begun_counted
returns-clause-begun_counted c j file after v legal = begin_counted file after v legal

pub returns-clause-ended_less : goal.returns-clause-ended_less
returns-clause-ended_less c file v = end_takes file v

pub returns-clause-deleted_less : goal.returns-clause-deleted_less
returns-clause-deleted_less c file v = delete_takes file v

pub returns-clause-policy_made : goal.returns-clause-policy_made
returns-clause-policy_made c j x v legal = can_policy x v legal

pub returns-clause-clients_made : goal.returns-clause-clients_made
returns-clause-clients_made c j x v facts legal = can_clients x v facts legal

pub returns-clause-begun_made : goal.returns-clause-begun_made
returns-clause-begun_made c j file after v legal =
    file_below file v (back_nil (files_refused (file ∷ []) v) (file_bound file v) (back_nil (after_refused after v) (files_refused (file ∷ []) v ++ file_bound file v) legal))
