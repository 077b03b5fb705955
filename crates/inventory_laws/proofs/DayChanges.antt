-- A new day leaves a valid database.
use Rattle.std.proofs.Common.{◌≡◌, ℕ, ◌+◌, ◌^◌, true, ltb, leb, []}
use Rattle.kinds.specs.declared.refusal.Refusal.TheVariants as refusal
use Rattle.inventory_rules.specs.entries.declared.change.Change.TheVariants as change
use Rattle.inventory_rules.specs.inventory_rows.Search.{versions}
use Rattle.inventory_rules.specs.inventory_rows.State.{Inv}
use Rattle.inventory_rules.specs.Transactions.{effect, causes, sizes_refused}
use Rattle.inventory_rules.specs.Held.{IsTied}
use Rattle.inventory_rules.specs.Journal.{Journal}
use Rattle.inventory_rules.specs.Valid.{is_valid}
use Rattle.inventory_laws.proofs.RowParts.{Parts, parts_of, valid_from, files_later, versions_later, clock_later, le_more}
use Rattle.inventory_laws.proofs.Refusals.{few_items, met, number_bounded}

parts-day : (day : ℕ) (v : Inv) → ltb day (2 ^ 31) ≡ true → leb v.today day ≡ true → sizes_refused (change.Day day) v ≡ [] → Parts v → Parts (effect (change.Day day) v)
unfolding effect
parts-day day v bound later sizes p = record {
  policy = p.policy;
  clients = p.clients;
  stores = p.stores;
  files = files_later v.number (v.number + 1) v.today day v.next_file v.stores.volumes v.backups (le_more v.number) later p.files;
  versions = versions_later v.number (v.number + 1) v.today day v.next_object v.stores (versions v) (le_more v.number) later p.versions;
  clock = clock_later v.number (v.number + 1) v.today day v.stores.volumes (number_bounded (change.Day day) v sizes) bound later p.clock;
  few_items = few_items (change.Day day) v sizes;
}

pub day_stays : (j : Journal) (day : ℕ) (v : Inv) → ltb day (2 ^ 31) ≡ true → is_valid v ≡ true → IsTied v → causes j (change.Day day) v ≡ [] → sizes_refused (change.Day day) v ≡ []
    → (is_valid (effect (change.Day day) v) ≡ true) × IsTied (effect (change.Day day) v)
day_stays j day v bound h t c s =
    valid_from (effect (change.Day day) v) (parts-day day v bound (met (leb v.today day) (refusal.DayBack v.today day) c) s (parts_of v h t))
