-- A change of the policy that brings nothing leaves it no more items.
use Rattle.std.proofs.Common.{◌≡◌, ℕ, ◌+◌, ◌≤◌, Bool, true, false, cond, is_some, List, Some, Result, Ok, Err, refl, sym, ap, subst, ◌∙◌, arith}
use Rattle.kinds.specs.declared.change.DefineOrDelete.TheVariants as two
use Rattle.kinds.specs.declared.change.PolicyChange.{PolicyChange}
use Rattle.kinds.specs.declared.change.PolicyChange.TheVariants as policy
use Rattle.kinds.specs.declared.change.Verb.TheVariants as verb
use Rattle.kinds.specs.declared.refusal.Refusal.{Refusal}
use Rattle.kinds.specs.declared.refusal.Refusal.TheVariants.{NotFound}
use Rattle.inventory_rules.specs.entries.declared.change.Change.TheVariants as change
use Rattle.inventory_rules.specs.inventory_rows.policy_domains.declared.classes.ManagementClass.{ManagementClass}
use Rattle.inventory_rules.specs.inventory_rows.policy_domains.Changes.{after}
use Rattle.inventory_rules.specs.inventory_rows.policy_domains.Rows.{SetRow, DomainRow, row_of, deleted, changed}
use Rattle.inventory_rules.specs.inventory_rows.policy_domains.Sets.{in_sets, set_changed, class_changed, assigned, other_default}
use Rattle.inventory_rules.specs.inventory_rows.Items.{count_items, items_of_domain}
use Rattle.inventory_rules.specs.inventory_rows.State.{Inv}
use Rattle.inventory_rules.specs.Common.{or_same}
use Rattle.inventory_rules.specs.Transactions.{effect}
use Rattle.inventory_rules.specs.Policy.{is_new_policy}
use Rattle.inventory_laws.proofs.CountedParts.{first_less, in_backups, in_clients, in_domains, in_stores, same_value}
use Rattle.inventory_laws.proofs.Domains.{archive_changed, backup_changed, in_class}
use Rattle.inventory_laws.proofs.PolicyCounts.{Placed, Stepped, classes_in, placed, rows-deleted, step_in_sets, stepped}
use Rattle.inventory_laws.proofs.Weights.{less_set, rows, rows-length}

-- a domain whose sets weigh no more
sets_less : (domain : List ℕ) (step : List (List ℕ × SetRow) → Result (List (List ℕ × SetRow)) Refusal) → ((old new : List (List ℕ × SetRow)) → step old ≡ Ok new → rows classes_in new ≤ rows classes_in old) → (ds new : List (List ℕ × DomainRow)) → changed domain (in_sets step) ds ≡ Ok new
    → in_domains new ≤ in_domains ds
sets_less domain step less ds new h =
    let s : Stepped items_of_domain domain (in_sets step) ds new = stepped items_of_domain domain (in_sets step) ds new h in
    let i : (sets : List (List ℕ × SetRow)) × (step s.there.sets ≡ Ok sets) × (items_of_domain s.became ≡ rows classes_in sets) = step_in_sets step s.there s.became s.made in
    less_set (in_domains new) (items_of_domain s.there) (in_domains ds) (items_of_domain s.became) s.weighs (subst (λ n. n ≤ items_of_domain s.there) (sym i.2) (less s.there.sets i.0 i.1))

-- a set with no more classes
classes_less : (set : List ℕ) (step : SetRow → Result SetRow Refusal) → ((old new : SetRow) → step old ≡ Ok new → classes_in new ≤ classes_in old) → (old new : List (List ℕ × SetRow)) → changed set step old ≡ Ok new → rows classes_in new ≤ rows classes_in old
classes_less set step less old new h =
    let s : Stepped classes_in set step old new = stepped classes_in set step old new h in
    less_set (rows classes_in new) (classes_in s.there) (rows classes_in old) (classes_in s.became) s.weighs (less s.there s.became s.made)

lengths_less : (m n w k : ℕ) → m ≡ w → n ≡ k → w ≤ k → m ≤ n
lengths_less m n w k a b h = omega (arith, a, b, h)

class_deleted : (class : List ℕ) (old new : SetRow) → class_changed two.Delete class old ≡ Ok new → classes_in new ≤ classes_in old
class_deleted class old new h =
    let place : List (List ℕ × ManagementClass) → SetRow = λ classes. record { default_class = other_default class old.default_class; classes = classes } in
    let p : Placed place (deleted class old.classes) new = placed place (deleted class old.classes) new h in
    lengths_less (classes_in new) (classes_in old) (rows (λ (x : ManagementClass). 0) p.part) (rows (λ (x : ManagementClass). 0) old.classes)
    (ap classes_in p.whole ∙ sym (rows-length p.part)) (sym (rows-length old.classes)) (rows-deleted (λ (x : ManagementClass). 0) class old.classes p.part p.gives)

zero_less : (w k : ℕ) → w + 0 ≡ k + 0 → w ≤ k
zero_less w k h = omega (arith, h)

class_set : (class : List ℕ) (step : ManagementClass → Result ManagementClass Refusal) (old new : SetRow) → in_class class step old ≡ Ok new → classes_in new ≤ classes_in old
class_set class step old new h =
    let place : List (List ℕ × ManagementClass) → SetRow = λ classes. record { default_class = old.default_class; classes = classes } in
    let p : Placed place (changed class step old.classes) new = placed place (changed class step old.classes) new h in
    let s : Stepped (λ (x : ManagementClass). 0) class step old.classes p.part = stepped (λ (x : ManagementClass). 0) class step old.classes p.part p.gives in
    lengths_less (classes_in new) (classes_in old) (rows (λ (x : ManagementClass). 0) p.part) (rows (λ (x : ManagementClass). 0) old.classes)
    (ap classes_in p.whole ∙ sym (rows-length p.part)) (sym (rows-length old.classes)) (zero_less (rows (λ (x : ManagementClass). 0) p.part) (rows (λ (x : ManagementClass). 0) old.classes) s.weighs)

default_set : (class : List ℕ) (old new : SetRow) → assigned class old ≡ Ok new → classes_in new ≤ classes_in old
default_set class old new h = go (is_some (row_of class old.classes)) h where
  go : (b : Bool) → cond {A = Result SetRow Refusal} b (Ok (record { default_class = Some class; classes = old.classes })) (Err NotFound) ≡ Ok new → classes_in new ≤ classes_in old
  go true k = subst (λ (t : SetRow). classes_in t ≤ classes_in old) (same_value (record { default_class = Some class; classes = old.classes }) new k) (omega arith)
  go false k = absurd cc

days_set : (domain : List ℕ) (days : ℕ) (ds new : List (List ℕ × DomainRow)) → changed domain (λ row. Ok (record { back_retention = days; sets = row.sets })) ds ≡ Ok new → in_domains new ≤ in_domains ds
days_set domain days ds new h =
    let step : DomainRow → Result DomainRow Refusal = λ row. Ok (record { back_retention = days; sets = row.sets }) in
    let s : Stepped items_of_domain domain step ds new = stepped items_of_domain domain step ds new h in
    let same : items_of_domain s.there ≡ items_of_domain s.became = ap items_of_domain (same_value (record { back_retention = days; sets = s.there.sets }) s.became s.made) in
    less_set (in_domains new) (items_of_domain s.there) (in_domains ds) (items_of_domain s.became) s.weighs (subst (λ n. n ≤ items_of_domain s.there) same (omega arith))

class_less : (domain set class : List ℕ) (step : ManagementClass → Result ManagementClass Refusal) (ds new : List (List ℕ × DomainRow)) → changed domain (in_sets (changed set (in_class class step))) ds ≡ Ok new → in_domains new ≤ in_domains ds
class_less domain set class step ds new h = sets_less domain (changed set (in_class class step)) (classes_less set (in_class class step) (class_set class step)) ds new h

policy_less : (c : PolicyChange) (ds new : List (List ℕ × DomainRow)) → is_new_policy c ≡ false → after c ds ≡ Ok new → in_domains new ≤ in_domains ds
policy_less (policy.Domain verb.Define domain days) ds new n h = absurd cc
policy_less (policy.Domain verb.Update domain days) ds new n h = days_set domain days ds new h
policy_less (policy.Domain verb.Delete domain days) ds new n h = rows-deleted items_of_domain domain ds new h
policy_less (policy.Set two.Define domain set) ds new n h = absurd cc
policy_less (policy.Set two.Delete domain set) ds new n h = sets_less domain (set_changed two.Delete set) (λ old sets k. rows-deleted classes_in set old sets k) ds new h
policy_less (policy.Class two.Define domain set class) ds new n h = absurd cc
policy_less (policy.Class two.Delete domain set class) ds new n h = sets_less domain (changed set (class_changed two.Delete class)) (classes_less set (class_changed two.Delete class) (class_deleted class)) ds new h
policy_less (policy.Group v1 domain set class rule) ds new n h = class_less domain set class (backup_changed v1 rule) ds new h
policy_less (policy.ArchiveGroup v1 domain set class rule) ds new n h = class_less domain set class (archive_changed v1 rule) ds new h
policy_less (policy.Assign domain set class) ds new n h = sets_less domain (changed set (assigned class)) (classes_less set (assigned class) (default_set class)) ds new h
policy_less (policy.Activate domain set) ds new n h = absurd cc

or_same_less : (c : PolicyChange) (ds : List (List ℕ × DomainRow)) → is_new_policy c ≡ false → (r : Result (List (List ℕ × DomainRow)) Refusal) → after c ds ≡ r → in_domains (or_same ds r) ≤ in_domains ds
or_same_less c ds n (Ok new) h = policy_less c ds new n h
or_same_less c ds n (Err e) h = omega arith

pub policy_takes : (c : PolicyChange) (v : Inv) → is_new_policy c ≡ false → count_items (effect (change.Policy c) v) ≤ count_items v
unfolding effect
policy_takes c v n =
    first_less (in_domains v.domains) (in_domains (or_same v.domains (after c v.domains))) (in_clients v.clients) (in_stores v.stores) (in_backups v.backups) (or_same_less c v.domains n (after c v.domains) refl)
