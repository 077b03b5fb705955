-- Transactions that leave what is kept as it is.
use Rattle.std.proofs.Common.{◌≡◌, ℕ, ◌-◌, ◌^◌, ◌<◌, eqb, ltb, leb, Bool, true, false, cond, ◌&&◌, is_some, if◌then◌else◌, List, [], ◌∷◌, ◌++◌, Option, Some, None, Result, Ok, Err, refl, sym, ap, subst, ◌∙◌, arith}
use Rattle.std.specs.BTreeMap.{insert_entry}
use Rattle.std.specs.Map.{keys_of, lookup, remove_entry}
use Rattle.std.specs.Ordering.{nat_cmp}
use Rattle.std.proofs.lemmas.Bool.{eqb-true, ltb-true}
use Rattle.kinds.specs.declared.change.DefineOrDelete.TheVariants as two
use Rattle.kinds.specs.declared.change.Verb.TheVariants as verb
use Rattle.kinds.specs.declared.change.ObjectChange.{ObjectChange}
use Rattle.kinds.specs.declared.change.ObjectChange.TheVariants as client
use Rattle.kinds.specs.declared.change.PolicyChange.{PolicyChange}
use Rattle.kinds.specs.declared.change.PoolChange.{PoolChange}
use Rattle.kinds.specs.declared.change.PoolChange.TheVariants as store
use Rattle.kinds.specs.declared.refusal.Refusal.{Refusal}
use Rattle.kinds.specs.declared.refusal.Refusal.TheVariants as refusal
use Rattle.inventory_laws.specs.entries.declared.change.Change.TheVariants as change
use Rattle.inventory_laws.specs.inventory_rows.version_groups.declared.groups.Filespace.{Filespace}
use Rattle.inventory_laws.specs.inventory_rows.version_groups.declared.versions.Version.{Version}
use Rattle.inventory_laws.specs.inventory_rows.version_groups.Entries.{if_found}
use Rattle.inventory_laws.specs.inventory_rows.object_rows.declared.place.Node.{Node}
use Rattle.inventory_laws.specs.inventory_rows.object_rows.Changes.{by_object, least_in, least_object, nodes_with, nodes_without, rows_changed, unless_used, with_nodes}
use Rattle.inventory_laws.specs.inventory_rows.object_rows.Filespaces.{at_number, filespace_at, versions_in, versions_of}
use Rattle.inventory_laws.specs.inventory_rows.object_rows.HeldRows.{held_versions}
use Rattle.inventory_laws.specs.inventory_rows.object_rows.Names.{filespace_named}
use Rattle.inventory_laws.specs.inventory_rows.object_rows.Rows.{Rows, kept_of, with_filespaces}
use Rattle.inventory_laws.proofs.of_inventory_rows.of_object_rows.Least.{least_of_none}
use Rattle.inventory_laws.proofs.of_inventory_rows.of_object_rows.Splices.{Splices, flatten-remove_entry, splice_new, splice_same}
use Rattle.inventory_laws.proofs.of_inventory_rows.of_object_rows.Stands.{at-eqb}
use Rattle.inventory_laws.specs.inventory_rows.Search.{versions}
use Rattle.inventory_laws.specs.inventory_rows.State.{Inv}
use Rattle.inventory_laws.specs.inventory_rules.Common.{or_same, full_at}
use Rattle.inventory_laws.specs.inventory_rules.Transactions.{effect, causes}
use Rattle.inventory_laws.specs.inventory_rules.Journal.{Journal}
use Rattle.kinds.specs.Least.{lesser}
use Rattle.kinds.specs.Refusals.{refusal_of, bad_value, unless}
use Rattle.inventory_laws.specs.inventory_rules.Clients.{client_bounds}
use Rattle.inventory_laws.specs.inventory_rules.Valid.{is_valid, lie_in}
use Rattle.inventory_laws.proofs.Facts.{facts_of, first, rest}

pub day_same : (day : ℕ) (v : Inv) → versions (effect (change.Day day) v) ≡ versions v
unfolding effect
day_same day v = refl

pub policy_same : (c : PolicyChange) (v : Inv) → versions (effect (change.Policy c) v) ≡ versions v
unfolding effect
policy_same c v = refl

pub stores_same : (c : PoolChange) (v : Inv) → versions (effect (change.Pool c) v) ≡ versions v
unfolding effect
stores_same (store.DevClass v1 name capacity) v = refl
stores_same (store.Pool verb.Define name class kind rule) v = refl
stores_same (store.Pool verb.Update name class kind rule) v = refl
stores_same (store.Pool verb.Delete name class kind rule) v = refl
stores_same (store.Volume verb.Define name pool file capacity access) v = refl
stores_same (store.Volume verb.Update name pool file capacity access) v = refl
stores_same (store.Volume verb.Delete name pool file capacity access) v = refl

-- ---- what isn't refused

front_nil : {A : Type 0} (xs ys : List A) → xs ++ ys ≡ [] → xs ≡ []
front_nil [] ys h = refl
front_nil (x ∷ xs) ys h = absurd cc

behind_nil : {A : Type 0} (xs ys : List A) → xs ++ ys ≡ [] → ys ≡ []
behind_nil [] ys h = h
behind_nil (x ∷ xs) ys h = absurd cc

met : (b : Bool) (e : Refusal) → unless b e ≡ [] → b ≡ true
met true e h = refl
met false e h = absurd cc

-- no row has the number that is drawn next
found_below : {V : Type 0} (least bound k : ℕ) (x : V) (rows : List (ℕ × V)) → lie_in least bound (keys_of rows) ≡ true → lookup (at_number k) rows ≡ Some x → k < bound
found_below least bound k x [] all h = absurd cc
found_below {V} least bound k x (e ∷ rows) all h =
    elim (at_number k e.0) as (λ b. at_number k e.0 ≡ b → cond b (Some e.1) (lookup (at_number k) rows) ≡ Some x → k < bound) [
      | true ↦ λ t s.
          let key : e.0 ≡ k = eqb-true e.0 k (sym (at-eqb k e.0) ∙ t) in
          let one = first (leb least e.0 && ltb e.0 bound) (lie_in least bound (keys_of rows)) all in
          subst (λ (n : ℕ). n < bound) key (ltb-true e.0 bound (rest (leb least e.0) (ltb e.0 bound) one))
      | false ↦ λ t s. found_below least bound k x rows (rest (leb least e.0 && ltb e.0 bound) (lie_in least bound (keys_of rows)) all) s
    ] refl h

next_free : {V : Type 0} (least next : ℕ) (rows : List (ℕ × V)) (o : Option V) → lie_in least next (keys_of rows) ≡ true → lookup (at_number next) rows ≡ o → o ≡ None
next_free least next rows None all h = refl
next_free least next rows (Some x) all h = let lt = found_below least next next x rows all h in absurd (omega (arith, lt))

-- ---- nodes and filespaces

nodes_only : (rows : Rows) (said : Result (List (ℕ × Node)) Refusal) → kept_of (or_same rows (with_nodes rows said)) ≡ kept_of rows
nodes_only rows (Ok nodes) = refl
nodes_only rows (Err e) = refl

-- the same versions, and the held objects
kept_same : (rows : Rows) (new : List (ℕ × Filespace)) → versions_of new ≡ versions_of rows.filespaces → kept_of (or_same rows (with_filespaces rows (Ok new))) ≡ kept_of rows
kept_same rows new same = ap (λ (l : List Version). l ++ held_versions rows.held) same

-- a filespace without groups under a number that none has
one_more : (n : ℕ) (f : Filespace) (fs : List (ℕ × Filespace)) → filespace_at n fs ≡ None → f.groups ≡ [] → versions_of (insert_entry nat_cmp fs n f) ≡ versions_of fs
one_more n f fs free bare =
    splice_same (subst (λ l. Splices [] (versions_in l) (versions_of fs) (versions_of (insert_entry nat_cmp fs n f))) bare (splice_new (λ (m : ℕ) (x : Filespace). versions_in x.groups) nat_cmp n f fs free))

defined_as : {A : Type 0} (rows : Rows) (o : Option A) (b : Bool) (new : List (ℕ × Filespace)) → versions_of new ≡ versions_of rows.filespaces
    → kept_of (or_same rows (with_filespaces rows (if_found o (λ _. if b then Err refusal.Exists else Ok new)))) ≡ kept_of rows
defined_as rows None b new same = refl
defined_as rows (Some x) true new same = refl
defined_as rows (Some x) false new same = kept_same rows new same

-- of two numbers, of which none is the lesser, the first is missing
none_first : (a b : Option ℕ) → lesser a b ≡ None → a ≡ None
none_first None b h = refl
none_first (Some n) None h = absurd cc
none_first (Some n) (Some m) h = absurd cc

unused_as : (rows : Rows) (n : ℕ) (f : Filespace) (o : Option ℕ) → filespace_at n rows.filespaces ≡ Some f → lesser (least_object f.groups) (least_in n rows.held) ≡ o
    → kept_of (or_same rows (with_filespaces rows (unless_used (by_object o) (remove_entry (at_number n) rows.filespaces)))) ≡ kept_of rows
unused_as rows n f None there unused =
    kept_same rows (remove_entry (at_number n) rows.filespaces) (flatten-remove_entry (λ (m : ℕ) (x : Filespace). versions_in x.groups) (at_number n) rows.filespaces f there
    (λ _. least_of_none (versions_in f.groups) (none_first (least_object f.groups) (least_in n rows.held) unused)))
unused_as rows n f (Some object) there used = refl

gone_as : (rows : Rows) (n : ℕ) (o : Option Filespace) → filespace_at n rows.filespaces ≡ o
    → kept_of (or_same rows (with_filespaces rows (if_found o (λ f. unless_used (by_object (lesser (least_object f.groups) (least_in n rows.held))) (remove_entry (at_number n) rows.filespaces))))) ≡ kept_of rows
gone_as rows n None there = refl
gone_as rows n (Some f) there = unused_as rows n f (lesser (least_object f.groups) (least_in n rows.held)) there refl

pub clients_same : (c : ObjectChange) (v : Inv) → is_valid v ≡ true → client_bounds c v ≡ [] → versions (effect (change.Object c) v) ≡ versions v
unfolding effect
clients_same (client.Node two.Define name domain) v valid bounds = nodes_only v.clients (nodes_with name domain v.next_node v.clients.nodes)
clients_same (client.Node two.Delete name domain) v valid bounds = nodes_only v.clients (nodes_without name v.clients.filespaces v.clients.nodes)
clients_same (client.Filespace two.Define node name n) v valid bounds =
    let f : Filespace = record { node = node; name = name; groups = [] } in
    let same : n ≡ v.next_filespace = eqb-true n v.next_filespace (met (eqb n v.next_filespace) bad_value (front_nil (unless (eqb n v.next_filespace) bad_value) (full_at v.next_filespace (2 ^ 32 - 1)) bounds)) in
    let free : filespace_at v.next_filespace v.clients.filespaces ≡ None = next_free 1 v.next_filespace v.clients.filespaces (filespace_at v.next_filespace v.clients.filespaces) (facts_of v valid).filespaces_drawn refl in
    let new : filespace_at n v.clients.filespaces ≡ None = ap (λ (m : ℕ). filespace_at m v.clients.filespaces) same ∙ free in
    defined_as v.clients (lookup (at_number node) v.clients.nodes) (is_some (filespace_named node name v.clients.filespaces)) (insert_entry nat_cmp v.clients.filespaces n f) (one_more n f v.clients.filespaces new refl)
clients_same (client.Filespace two.Delete node name n) v valid bounds = gone_as v.clients n (filespace_at n v.clients.filespaces) refl

pub caused_same : (j : Journal) (c : ObjectChange) (v : Inv) → is_valid v ≡ true → causes j (change.Object c) v ≡ [] → versions (effect (change.Object c) v) ≡ versions v
caused_same j c v valid free = clients_same c v valid (behind_nil (refusal_of (rows_changed c v.next_node v.clients)) (client_bounds c v) free)
