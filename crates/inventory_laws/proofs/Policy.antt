-- A change of the policy leaves a valid database.
use Rattle.std.proofs.Common.{◌≡◌, ℕ, ◌+◌, true, false, not, ◌++◌, is_some, List, [], ◌∷◌, Option, Some, None, Ok, refl}
use Rattle.std.proofs.lemmas.Bool.{not-true}
use Rattle.std.specs.List.{list_all}
use Rattle.std.specs.Option.{option_map_or}
use Rattle.kinds.specs.declared.change.PolicyChange.{PolicyChange}
use Rattle.kinds.specs.declared.change.PolicyChange.TheVariants as policy
use Rattle.kinds.specs.declared.change.Verb.TheVariants as verb
use Rattle.kinds.specs.declared.refusal.By.TheVariants as by
use Rattle.kinds.specs.declared.refusal.Refusal.TheVariants as refusal
use Rattle.inventory_rules.specs.entries.declared.change.Change.TheVariants as change
use Rattle.inventory_rules.specs.inventory_rows.policy_domains.Changes.{after, names_active}
use Rattle.inventory_rules.specs.inventory_rows.policy_domains.Rows.{DomainRow, row_of}
use Rattle.inventory_rules.specs.inventory_rows.object_rows.declared.place.Node.{Node}
use Rattle.inventory_rules.specs.inventory_rows.pool_tables.declared.pool.Pool.{Pool}
use Rattle.kinds.specs.Names.{is_same_name}
use Rattle.inventory_rules.specs.inventory_rows.Search.{is_primary, is_primary_kind, node_in, versions}
use Rattle.inventory_rules.specs.inventory_rows.State.{Inv}
use Rattle.inventory_rules.specs.Transactions.{effect, causes, sizes_refused}
use Rattle.inventory_rules.specs.Held.{IsTied}
use Rattle.inventory_rules.specs.Journal.{Journal}
use Rattle.kinds.specs.Refusals.{refusal_of, bad_value, unless}
use Rattle.inventory_rules.specs.Policy.{destination_refused, domain_used}
use Rattle.inventory_rules.specs.Valid.{is_valid}
use Rattle.inventory_laws.proofs.Domains.{after-names, after-sound, are_sound, defaults-from_sound, deleted_domain, destination_there, is_other, rules-from_sound, sound_from}
use Rattle.inventory_laws.proofs.Names.{none_where}
use Rattle.inventory_laws.proofs.RowParts.{Parts, PolicyParts, clock_later, files_later, le_itself, le_more, parts_of, valid_from, versions_later}
use Rattle.inventory_laws.proofs.Refusals.{behind_nil, few_items, front_nil, given, met, number_bounded, unused}
use Rattle.inventory_laws.proofs.RowsKept.{list_all-two}

primary-there : (o : Option Pool) → option_map_or (λ p. is_primary_kind p.kind) o false ≡ true → is_some o ≡ true
primary-there None h = absurd (cc)
primary-there (Some p) h = refl

destination-met : (c : PolicyChange) (v : Inv) → destination_refused c v ≡ [] → destination_there v.stores.pools c ≡ true
destination-met (policy.Group verb.Define domain set class rule) v h = primary-there _ (met (is_primary rule.destination v) refusal.NotFound h)
destination-met (policy.Group verb.Update domain set class rule) v h = primary-there _ (met (is_primary rule.destination v) refusal.NotFound h)
destination-met (policy.ArchiveGroup verb.Define domain set class rule) v h = primary-there _ (met (is_primary rule.destination v) refusal.NotFound h)
destination-met (policy.ArchiveGroup verb.Update domain set class rule) v h = primary-there _ (met (is_primary rule.destination v) refusal.NotFound h)
destination-met _ v h = refl

all_true : {A : Type 0} (xs : List A) → list_all (λ _. true) xs ≡ true
all_true [] = refl
all_true (x ∷ xs) = all_true xs

-- no node is of the domain that goes
others : (c : PolicyChange) (v : Inv) → domain_used c v ≡ [] → list_all (λ (n : ℕ × Node). is_other n.1.domain (deleted_domain c)) v.clients.nodes ≡ true
others (policy.Domain verb.Delete domain days) v h = none_where (λ (n : Node). is_same_name n.domain domain) v.clients.nodes (unused (λ n. refusal.InUse (by.Node n)) (node_in domain v) h)
others _ v h = all_true v.clients.nodes

policy-after : (c : PolicyChange) (v : Inv) → PolicyParts v.domains v.clients.nodes v.stores.pools → names_active c ≡ false → destination_refused c v ≡ [] → domain_used c v ≡ []
    → (new : List (List ℕ × DomainRow)) → after c v.domains ≡ Ok new → PolicyParts new v.clients.nodes v.stores.pools
policy-after c v p other destined used new said =
    let sound : are_sound v.stores.pools new ≡ true = after-sound v.stores.pools c other (destination-met c v destined) v.domains new said (sound_from v.stores.pools v.domains p.rules_cite p.defaults_there) in
    record {
      nodes_cite = list_all-two (λ n. is_other n.1.domain (deleted_domain c)) (λ n. is_some (row_of n.1.domain v.domains)) (λ n. is_some (row_of n.1.domain new))
          (λ n h there. after-names c v.domains new said n.1.domain h there) v.clients.nodes (others c v used) p.nodes_cite;
      rules_cite = rules-from_sound v.stores.pools new sound;
      defaults_there = defaults-from_sound v.stores.pools new sound;
    }

parts-policy : (c : PolicyChange) (v : Inv) → names_active c ≡ false → refusal_of (after c v.domains) ≡ [] → destination_refused c v ≡ [] → domain_used c v ≡ [] → sizes_refused (change.Policy c) v ≡ []
    → Parts v → Parts (effect (change.Policy c) v)
unfolding effect
parts-policy c v other taken destined used sizes p = record {
  policy = given (λ domains. PolicyParts domains v.clients.nodes v.stores.pools) v.domains (after c v.domains) taken (λ new said. policy-after c v p.policy other destined used new said);
  clients = p.clients;
  stores = p.stores;
  files = files_later v.number (v.number + 1) v.today v.today v.next_file v.stores.volumes v.backups (le_more v.number) (le_itself v.today) p.files;
  versions = versions_later v.number (v.number + 1) v.today v.today v.next_object v.stores (versions v) (le_more v.number) (le_itself v.today) p.versions;
  clock = clock_later v.number (v.number + 1) v.today v.today v.stores.volumes (number_bounded (change.Policy c) v sizes) p.clock.day_bounded (le_itself v.today) p.clock;
  few_items = few_items (change.Policy c) v sizes;
}

pub policy_stays : (j : Journal) (c : PolicyChange) (v : Inv) → is_valid v ≡ true → IsTied v → causes j (change.Policy c) v ≡ [] → sizes_refused (change.Policy c) v ≡ []
    → (is_valid (effect (change.Policy c) v) ≡ true) × IsTied (effect (change.Policy c) v)
policy_stays j c v h t r s =
    let more : refusal_of (after c v.domains) ++ (destination_refused c v ++ domain_used c v) ≡ [] =
    behind_nil (unless (not (names_active c)) bad_value) (refusal_of (after c v.domains) ++ (destination_refused c v ++ domain_used c v)) r in
    let used : destination_refused c v ++ domain_used c v ≡ [] = behind_nil (refusal_of (after c v.domains)) (destination_refused c v ++ domain_used c v) more in
    let other : not (names_active c) ≡ true = met (not (names_active c)) bad_value (front_nil (unless (not (names_active c)) bad_value) (refusal_of (after c v.domains) ++ (destination_refused c v ++ domain_used c v)) r) in
    valid_from (effect (change.Policy c) v)
    (parts-policy c v (not-true (names_active c) other) (front_nil (refusal_of (after c v.domains)) (destination_refused c v ++ domain_used c v) more)
    (front_nil (destination_refused c v) (domain_used c v) used) (behind_nil (destination_refused c v) (domain_used c v) used) s (parts_of v h t))
