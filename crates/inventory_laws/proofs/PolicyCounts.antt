-- How many items the policy has after a change of it.
use Rattle.std.proofs.Common.{◌≡◌, ℕ, ◌+◌, ◌≤◌, Bool, true, false, cond, not, is_some, List, [], ◌∷◌, ◌++◌, length, Option, Some, None, Result, Ok, Err, refl, sym, ap, subst, ◌∙◌, arith}
use Rattle.std.specs.BTreeMap.{is_at}
use Rattle.std.specs.Cmp.Lexicographic.{slice_cmp, nat_list_cmp_total}
use Rattle.std.specs.List.{AllByRecursion}
use Rattle.std.specs.List.Sorted.{IsStrictlySortedBy}
use Rattle.std.specs.Map.{keys_of, lookup}
use Rattle.std.specs.Ordering.{nat_cmp}
use Rattle.kinds.specs.declared.change.DefineOrDelete.TheVariants as two
use Rattle.kinds.specs.declared.change.PolicyChange.{PolicyChange}
use Rattle.kinds.specs.declared.change.PolicyChange.TheVariants as policy
use Rattle.kinds.specs.declared.change.Verb.TheVariants as verb
use Rattle.kinds.specs.declared.refusal.Refusal.{Refusal}
use Rattle.kinds.specs.declared.refusal.Refusal.TheVariants.{NotFound, Exists, NoDefaultClass}
use Rattle.inventory_rules.specs.entries.declared.change.Change.TheVariants as change
use Rattle.inventory_rules.specs.inventory_rows.policy_domains.declared.classes.ManagementClass.{ManagementClass}
use Rattle.inventory_rules.specs.inventory_rows.policy_domains.Changes.{after, names_active}
use Rattle.inventory_rules.specs.inventory_rows.policy_domains.Rows.{SetRow, DomainRow, active_set, row_of, with_row, with_value, without_row, within, defined, deleted, changed, changed_row}
use Rattle.inventory_rules.specs.inventory_rows.policy_domains.Sets.{bare_class, empty_set, empty_domain, in_sets, set_changed, class_changed, activated, to_activate}
use Rattle.inventory_rules.proofs.of_inventory_rows.of_version_groups.Maps.{insert_present}
use Rattle.inventory_rules.specs.inventory_rows.Items.{count_items, items_of_domain}
use Rattle.inventory_rules.specs.inventory_rows.State.{Inv}
use Rattle.inventory_rules.specs.Transactions.{effect}
use Rattle.inventory_rules.specs.Common as effects
use Rattle.kinds.specs.Refusals.{refusal_of, bad_value, unless}
use Rattle.inventory_rules.specs.Policy.{destination_refused, domain_used, policy_refused, is_new_policy, items_of_set, policy_added, policy_gone, set_in, set_of, AreSetsOrdered, IsPolicyOrdered}
use Rattle.inventory_laws.proofs.CountedParts.{accepted, first_more, in_backups, in_clients, in_domains, in_stores, nothing_first, nothing_then, same_value}
use Rattle.inventory_laws.proofs.Weights.{rows, rows-inserted, rows-length, rows-removed, rows-set}

-- ---- one row

pub rows-defined : {V : Type 0} (f : V → ℕ) (name : List ℕ) (v : V) (es new : List (List ℕ × V)) → defined name v es ≡ Ok new → rows f new ≡ 1 + (f v + rows f es)
rows-defined {V} f name v es new h = go (row_of name es) refl h where
  go : (o : Option V) → row_of name es ≡ o → cond {A = Result (List (List ℕ × V)) Refusal} (is_some o) (Err Exists) (Ok (with_row name v es)) ≡ Ok new → rows f new ≡ 1 + (f v + rows f es)
  go None e k = ap (λ (t : List (List ℕ × V)). rows f t) (sym (same_value (with_row name v es) new k)) ∙ rows-inserted f (slice_cmp nat_cmp) es name v e
  go (Some x) e k = absurd cc

pub rows-deleted : {V : Type 0} (f : V → ℕ) (name : List ℕ) (es new : List (List ℕ × V)) → deleted name es ≡ Ok new → rows f new ≤ rows f es
rows-deleted {V} f name es new h = go (is_some (row_of name es)) h where
  go : (b : Bool) → cond {A = Result (List (List ℕ × V)) Refusal} b (Ok (without_row name es)) (Err NotFound) ≡ Ok new → rows f new ≤ rows f es
  go true k = subst (λ (t : List (List ℕ × V)). rows f t ≤ rows f es) (same_value (without_row name es) new k) (rows-removed f (is_at (slice_cmp nat_cmp name)) es)
  go false k = absurd cc

-- what a step found, and what it made of it
pub record Stepped {V : Type 0} (f : V → ℕ) (name : List ℕ) (step : V → Result V Refusal) (es new : List (List ℕ × V)) : Type 0 where
  pub there : V
  pub became : V
  pub found : row_of name es ≡ Some there
  pub made : step there ≡ Ok became
  pub weighs : rows f new + f there ≡ rows f es + f became

pub stepped : {V : Type 0} (f : V → ℕ) (name : List ℕ) (step : V → Result V Refusal) (es new : List (List ℕ × V)) → changed name step es ≡ Ok new → Stepped f name step es new
stepped {V} f name step es new h = go (row_of name es) refl h where
  by : (x : V) → row_of name es ≡ Some x → (r : Result V Refusal) → step x ≡ r → within (λ w. with_value name w es) r ≡ Ok new → Stepped f name step es new
  by x e (Ok w) m k = record {
    there = x;
    became = w;
    found = e;
    made = m;
    weighs = ap (λ (t : List (List ℕ × V)). rows f t + f x) (sym (same_value (with_value name w es) new k)) ∙ rows-set f (is_at (slice_cmp nat_cmp name)) es x w e;
  }
  by x e (Err r) m k = absurd cc

  go : (o : Option V) → row_of name es ≡ o → changed_row name step es o ≡ Ok new → Stepped f name step es new
  go None e k = absurd cc
  go (Some x) e k = by x e (step x) refl k

-- what was put in its place
pub record Placed {A B : Type 0} (place : A → B) (r : Result A Refusal) (b : B) : Type 0 where
  pub part : A
  pub gives : r ≡ Ok part
  pub whole : b ≡ place part

pub placed : {A B : Type 0} (place : A → B) (r : Result A Refusal) (b : B) → within place r ≡ Ok b → Placed place r b
placed place (Ok a) b h = record { part = a; gives = refl; whole = sym (same_value (place a) b h) }
placed place (Err e) b h = absurd cc

-- ---- sets and classes

abbrev pub classes_in : SetRow → ℕ
classes_in set = length set.classes

-- the items of a domain whose sets are changed
pub step_in_sets : (step : List (List ℕ × SetRow) → Result (List (List ℕ × SetRow)) Refusal) (row new : DomainRow) → in_sets step row ≡ Ok new → (sets : List (List ℕ × SetRow)) × (step row.sets ≡ Ok sets) × (items_of_domain new ≡ rows classes_in sets)
step_in_sets step row new h =
    let p : Placed (λ (sets : List (List ℕ × SetRow)). record { back_retention = row.back_retention; sets = sets }) (step row.sets) new = placed (λ (sets : List (List ℕ × SetRow)). record { back_retention = row.back_retention; sets = sets }) (step row.sets) new h in
    (p.part, p.gives, ap items_of_domain p.whole)

-- ---- what a change adds

more_set : (w x k y n : ℕ) → w + x ≡ k + y → y ≡ n + x → w ≡ n + k
more_set w x k y n h g = omega (arith, h, g)

one_more : (w k : ℕ) → w ≡ 1 + (0 + k) → w ≡ 1 + k
one_more w k h = omega (arith, h)

more : (w k n : ℕ) → w ≡ n + k → w + 0 ≡ k + n
more w k n h = omega (arith, h)

domain_defined : (domain : List ℕ) (days : ℕ) (ds new : List (List ℕ × DomainRow)) → defined domain (empty_domain days) ds ≡ Ok new → in_domains new + 0 ≡ in_domains ds + 1
domain_defined domain days ds new h = more (in_domains new) (in_domains ds) 1 (one_more (in_domains new) (in_domains ds) (rows-defined items_of_domain domain (empty_domain days) ds new h))

set_defined : (domain set : List ℕ) (ds new : List (List ℕ × DomainRow)) → changed domain (in_sets (set_changed two.Define set)) ds ≡ Ok new → in_domains new + 0 ≡ in_domains ds + 1
set_defined domain set ds new h =
    let s : Stepped items_of_domain domain (in_sets (set_changed two.Define set)) ds new = stepped items_of_domain domain (in_sets (set_changed two.Define set)) ds new h in
    let i : (sets : List (List ℕ × SetRow)) × (defined set empty_set s.there.sets ≡ Ok sets) × (items_of_domain s.became ≡ rows classes_in sets) = step_in_sets (set_changed two.Define set) s.there s.became s.made in
    let one : items_of_domain s.became ≡ 1 + items_of_domain s.there = i.2 ∙ one_more (rows classes_in i.0) (items_of_domain s.there) (rows-defined classes_in set empty_set s.there.sets i.0 i.1) in
    more (in_domains new) (in_domains ds) 1 (more_set (in_domains new) (items_of_domain s.there) (in_domains ds) (items_of_domain s.became) 1 s.weighs one)

class_defined_in : (class : List ℕ) (set new : SetRow) → class_changed two.Define class set ≡ Ok new → classes_in new ≡ 1 + classes_in set
class_defined_in class set new h =
    let p : Placed (λ (classes : List (List ℕ × ManagementClass)). record { default_class = set.default_class; classes = classes }) (defined class bare_class set.classes) new = placed (λ (classes : List (List ℕ × ManagementClass)). record { default_class = set.default_class; classes = classes }) (defined class bare_class set.classes) new h in
    let w : rows (λ (x : ManagementClass). 0) p.part ≡ 1 + (0 + rows (λ (x : ManagementClass). 0) set.classes) = rows-defined (λ (x : ManagementClass). 0) class bare_class set.classes p.part p.gives in
    ap classes_in p.whole ∙ sym (rows-length p.part) ∙ one_more (rows (λ (x : ManagementClass). 0) p.part) (rows (λ (x : ManagementClass). 0) set.classes) w ∙ ap (λ n. 1 + n) (rows-length set.classes)

class_defined : (domain set class : List ℕ) (ds new : List (List ℕ × DomainRow)) → changed domain (in_sets (changed set (class_changed two.Define class))) ds ≡ Ok new → in_domains new + 0 ≡ in_domains ds + 1
class_defined domain set class ds new h =
    let s : Stepped items_of_domain domain (in_sets (changed set (class_changed two.Define class))) ds new = stepped items_of_domain domain (in_sets (changed set (class_changed two.Define class))) ds new h in
    let i : (sets : List (List ℕ × SetRow)) × (changed set (class_changed two.Define class) s.there.sets ≡ Ok sets) × (items_of_domain s.became ≡ rows classes_in sets) = step_in_sets (changed set (class_changed two.Define class)) s.there s.became s.made in
    let t : Stepped classes_in set (class_changed two.Define class) s.there.sets i.0 = stepped classes_in set (class_changed two.Define class) s.there.sets i.0 i.1 in
    let one : items_of_domain s.became ≡ 1 + items_of_domain s.there = i.2 ∙ more_set (rows classes_in i.0) (classes_in t.there) (items_of_domain s.there) (classes_in t.became) 1 t.weighs (class_defined_in class t.there t.became t.made) in
    more (in_domains new) (in_domains ds) 1 (more_set (in_domains new) (items_of_domain s.there) (in_domains ds) (items_of_domain s.became) 1 s.weighs one)

-- a set in the place of the one that is active
activation : (copy : SetRow) (sets : List (List ℕ × SetRow)) → IsStrictlySortedBy (slice_cmp nat_cmp) (keys_of sets) → rows classes_in (with_row active_set copy sets) + items_of_set (row_of active_set sets) ≡ rows classes_in sets + (1 + classes_in copy)
activation copy sets sorted = go (row_of active_set sets) refl where
  new : (w k n : ℕ) → w ≡ 1 + (n + k) → w + 0 ≡ k + (1 + n)
  new w k n h = omega (arith, h)

  set_again : (w k n o : ℕ) → w + o ≡ k + n → w + (1 + o) ≡ k + (1 + n)
  set_again w k n o h = omega (arith, h)

  go : (o : Option SetRow) → row_of active_set sets ≡ o → rows classes_in (with_row active_set copy sets) + items_of_set o ≡ rows classes_in sets + (1 + classes_in copy)
  go None e = new (rows classes_in (with_row active_set copy sets)) (rows classes_in sets) (classes_in copy) (rows-inserted classes_in (slice_cmp nat_cmp) sets active_set copy e)
  go (Some old) e =
      set_again (rows classes_in (with_row active_set copy sets)) (rows classes_in sets) (classes_in copy) (classes_in old)
      (ap (λ (t : List (List ℕ × SetRow)). rows classes_in t + classes_in old) (insert_present nat_list_cmp_total active_set copy old sets sorted e) ∙ rows-set classes_in (is_at (slice_cmp nat_cmp active_set)) sets old copy e)

to_activate_is : (o : Option SetRow) (copy : SetRow) → to_activate o ≡ Ok copy → o ≡ Some copy
to_activate_is None copy h = absurd cc
to_activate_is (Some set) copy h = go (is_some set.default_class) h where
  go : (b : Bool) → cond {A = Result SetRow Refusal} b (Ok set) (Err NoDefaultClass) ≡ Ok copy → Some set ≡ Some copy
  go true k = ap Some (same_value set copy k)
  go false k = absurd cc

pub found_in : {K X : Type 0} (P : X → Type 0) (test : K → Bool) (es : List (K × X)) (x : X) → lookup test es ≡ Some x → AllByRecursion (λ e. P e.1) es → P x
found_in P test [] x h all = absurd cc
found_in {K} {X} P test (e ∷ es) x h all =
    elim (test e.0) as (λ b. cond b (Some e.1) (lookup test es) ≡ Some x → P x) [
      | true ↦ λ k. let same : e.1 ≡ x = cc in subst P same all.0
      | false ↦ λ k. found_in P test es x k all.1
    ] h

replaced : (w x k y g a : ℕ) → w + x ≡ k + y → y + g ≡ x + a → w + g ≡ k + a
replaced w x k y g a h i = omega (arith, h, i)

set_activated : (domain set : List ℕ) (ds new : List (List ℕ × DomainRow)) → AreSetsOrdered ds → changed domain (activated set) ds ≡ Ok new
    → in_domains new + items_of_set (set_in domain active_set ds) ≡ in_domains ds + items_of_set (set_in domain set ds)
set_activated domain set ds new sorted h =
    let s : Stepped items_of_domain domain (activated set) ds new = stepped items_of_domain domain (activated set) ds new h in
    let place : SetRow → DomainRow = λ copy. record { back_retention = s.there.back_retention; sets = with_row active_set copy s.there.sets } in
    let p : Placed place (to_activate (row_of set s.there.sets)) s.became = placed place (to_activate (row_of set s.there.sets)) s.became s.made in
    let copy : row_of set s.there.sets ≡ Some p.part = to_activate_is (row_of set s.there.sets) p.part p.gives in
    let here : IsStrictlySortedBy (slice_cmp nat_cmp) (keys_of s.there.sets) = found_in (λ (d : DomainRow). IsStrictlySortedBy (slice_cmp nat_cmp) (keys_of d.sets)) (is_at (slice_cmp nat_cmp domain)) ds s.there s.found sorted in
    let gone : items_of_set (set_in domain active_set ds) ≡ items_of_set (row_of active_set s.there.sets) = ap (λ o. items_of_set (set_of active_set o)) s.found in
    let added : items_of_set (set_in domain set ds) ≡ 1 + classes_in p.part = ap (λ o. items_of_set (set_of set o)) s.found ∙ ap items_of_set copy in
    let inner : items_of_domain s.became + items_of_set (row_of active_set s.there.sets) ≡ items_of_domain s.there + (1 + classes_in p.part) = ap (λ d. items_of_domain d + items_of_set (row_of active_set s.there.sets)) p.whole ∙ activation p.part s.there.sets here in
    ap (λ n. in_domains new + n) gone
    ∙ replaced (in_domains new) (items_of_domain s.there) (in_domains ds) (items_of_domain s.became) (items_of_set (row_of active_set s.there.sets)) (1 + classes_in p.part) s.weighs inner
    ∙ ap (λ n. in_domains ds + n) (sym added)

pub policy_more : (c : PolicyChange) (ds new : List (List ℕ × DomainRow)) → is_new_policy c ≡ true → IsPolicyOrdered c ds → after c ds ≡ Ok new
    → in_domains new + policy_gone c ds ≡ in_domains ds + policy_added c ds
policy_more (policy.Domain verb.Define domain days) ds new n sorted h = domain_defined domain days ds new h
policy_more (policy.Set two.Define domain set) ds new n sorted h = set_defined domain set ds new h
policy_more (policy.Class two.Define domain set class) ds new n sorted h = class_defined domain set class ds new h
policy_more (policy.Activate domain set) ds new n sorted h = set_activated domain set ds new sorted h
policy_more _ ds new n sorted h = absurd cc

-- the domains that a change gives, where it isn't refused
pub policy_accepted : (c : PolicyChange) (v : Inv) → policy_refused c v ≡ [] → (new : List (List ℕ × DomainRow)) × (after c v.domains ≡ Ok new)
policy_accepted c v h =
    accepted (after c v.domains)
    (nothing_first (refusal_of (after c v.domains)) (destination_refused c v ++ domain_used c v)
    (nothing_then (unless (not (names_active c)) bad_value) (refusal_of (after c v.domains) ++ (destination_refused c v ++ domain_used c v)) h))

pub policy_counted : (c : PolicyChange) (v : Inv) → is_new_policy c ≡ true → IsPolicyOrdered c v.domains → policy_refused c v ≡ []
    → in_domains (effects.or_same v.domains (after c v.domains)) + policy_gone c v.domains ≡ in_domains v.domains + policy_added c v.domains
policy_counted c v n o h =
    let s : (new : List (List ℕ × DomainRow)) × (after c v.domains ≡ Ok new) = policy_accepted c v h in
    ap (λ r. in_domains (effects.or_same v.domains r) + policy_gone c v.domains) s.1 ∙ policy_more c v.domains s.0 n o s.1

pub policy_effect : (c : PolicyChange) (v : Inv) → is_new_policy c ≡ true → IsPolicyOrdered c v.domains → policy_refused c v ≡ [] → count_items (effect (change.Policy c) v) + policy_gone c v.domains ≡ count_items v + policy_added c v.domains
unfolding effect
policy_effect c v n o h =
    first_more (in_domains v.domains) (in_domains (effects.or_same v.domains (after c v.domains))) (in_clients v.clients) (in_stores v.stores) (in_backups v.backups) (policy_gone c v.domains) (policy_added c v.domains) (policy_counted c v n o h)
