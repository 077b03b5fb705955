-- What a change of nodes and filespaces leaves of the versions of a path.
use Rattle.std.proofs.Common.{◌≡◌, ℕ, Bool, true, false, cond, ◌||◌, List, [], ◌∷◌, Option, Some, None, Ok, Err, Result, refl, sym, ap, ◌∙◌}
use Rattle.std.proofs.lemmas.Bool.{false≢true}
use Rattle.std.specs.BTreeMap.{insert_entry}
use Rattle.std.specs.Map.{lookup, remove_entry}
use Rattle.std.specs.Option.{is_some}
use Rattle.std.specs.Ordering.{nat_cmp}
use Rattle.kinds.specs.Least.{lesser}
use Rattle.kinds.specs.declared.change.DefineOrDelete.TheVariants as two
use Rattle.kinds.specs.declared.change.ObjectChange.{ObjectChange}
use Rattle.kinds.specs.declared.change.ObjectChange.TheVariants as client
use Rattle.kinds.specs.declared.refusal.Refusal.{Refusal}
use Rattle.kinds.specs.declared.refusal.Refusal.TheVariants as refusal
use Rattle.entries.specs.declared.change.Change.TheVariants as change
use Rattle.inventory_rows.specs.version_groups.declared.group.Group.{Group}
use Rattle.inventory_rows.specs.version_groups.declared.groups.Filespace.{Filespace}
use Rattle.inventory_rows.specs.version_groups.Entries.{if_found}
use Rattle.inventory_rows.specs.version_groups.Groups as grouped
use Rattle.inventory_rows.specs.version_groups.Groups.{at_path}
use Rattle.inventory_rows.specs.version_groups.Versions.{has_object}
use Rattle.inventory_rows.specs.object_rows.declared.place.Node.{Node}
use Rattle.inventory_rows.specs.object_rows.Changes.{by_object, least_in, least_object, nodes_with, nodes_without, unless_used, with_nodes}
use Rattle.inventory_rows.specs.object_rows.Filespaces.{at_number, filespace_at, groups_in, versions_at, versions_in}
use Rattle.inventory_rows.specs.object_rows.Names.{filespace_named}
use Rattle.inventory_rows.specs.object_rows.Rows.{Rows, with_filespaces}
use Rattle.inventory_rows.proofs.of_object_rows.Least.{least_of_none}
use Rattle.inventory_rows.proofs.of_object_rows.Stands.{same_number}
use Rattle.inventory_rows.specs.State.{Inv}
use Rattle.inventory_rules.specs.Clients.{CanClients}
use Rattle.inventory_rules.specs.Common.{or_same}
use Rattle.inventory_rules.specs.Transactions.{effect}
use Rattle.inventory_laws.proofs.Arriving.{has-append}
use Rattle.inventory_laws.proofs.Gone.{lookup-beside_removed}
use Rattle.inventory_laws.proofs.Lists.{came, lookup_left}
use Rattle.run_past.proofs.Groups.{Stands}
use Rattle.run_past.proofs.Paths.{beside}

abbrev HasIn : ℕ → List ℕ → ℕ → List (ℕ × Filespace) → Type 0
HasIn f p m fs = has_object m (versions_at f p fs) ≡ true

none_is : {X : Type 0} (o : Option X) → is_some o ≡ false → o ≡ None
none_is None h = refl
none_is (Some x) h = absurd (false≢true (sym h))

nodes_only : (f : ℕ) (p : List ℕ) (m : ℕ) (rows : Rows) (said : Result (List (ℕ × Node)) Refusal) → HasIn f p m rows.filespaces → HasIn f p m (or_same rows (with_nodes rows said)).filespaces
nodes_only f p m rows (Ok nodes) h = h
nodes_only f p m rows (Err e) h = h

-- a filespace more, under a number that none has
one_more : (f : ℕ) (p : List ℕ) (m n : ℕ) (x : Filespace) (fs : List (ℕ × Filespace)) → filespace_at n fs ≡ None → HasIn f p m fs → HasIn f p m (insert_entry nat_cmp fs n x)
one_more f p m n x fs free h =
    elim (at_number f n) as (λ b. at_number f n ≡ b → HasIn f p m (insert_entry nat_cmp fs n x)) [
      | true ↦ λ here.
          let none : filespace_at f fs ≡ None = ap (λ k. filespace_at k fs) (same_number f n here) ∙ free in
          absurd (false≢true (sym (ap (λ (o : Option Filespace). has_object m (grouped.versions_at p (groups_in o))) none) ∙ h))
      | false ↦ λ away. ap (λ (o : Option Filespace). has_object m (grouped.versions_at p (groups_in o))) (lookup_left (at_number f) (n, x) (insert_entry nat_cmp fs n x) fs (came nat_cmp n x fs free) away) ∙ h
    ] refl

defined_as : {A : Type 0} (f : ℕ) (p : List ℕ) (m : ℕ) (rows : Rows) (o : Option A) (b : Bool) (new : List (ℕ × Filespace)) → HasIn f p m rows.filespaces → HasIn f p m new
    → HasIn f p m (or_same rows (with_filespaces rows (if_found o (λ _. cond b (Err refusal.Exists) (Ok new))))).filespaces
defined_as f p m rows None b new h k = h
defined_as f p m rows (Some x) true new h k = h
defined_as f p m rows (Some x) false new h k = k

none_first : (a b : Option ℕ) → lesser a b ≡ None → a ≡ None
none_first None b h = refl
none_first (Some n) None h = absurd cc
none_first (Some n) (Some m) h = absurd cc

-- an object of a path is one of the filespace's
within_groups : (p : List ℕ) (m : ℕ) (groups : List (List ℕ × Group)) → has_object m (grouped.versions_at p groups) ≡ true → has_object m (versions_in groups) ≡ true
within_groups p m [] h = h
within_groups p m (g ∷ groups) h =
    has-append m g.1.versions (versions_in groups)
    ∙ elim (at_path p g.0) as (λ b. has_object m (grouped.versions_in (cond b (Some g.1) (lookup (at_path p) groups))) ≡ true → (has_object m g.1.versions || has_object m (versions_in groups)) ≡ true) [
      | true ↦ λ t. ap (λ b. b || has_object m (versions_in groups)) t
      | false ↦ λ t. ap (λ b. has_object m g.1.versions || b) (within_groups p m groups t) ∙ elim (has_object m g.1.versions) as (λ b. (b || true) ≡ true) [ true ↦ refl | false ↦ refl ]
    ] h

-- a filespace fewer, which has no versions
one_fewer : (f : ℕ) (p : List ℕ) (m n : ℕ) (x : Filespace) (fs : List (ℕ × Filespace)) → filespace_at n fs ≡ Some x → versions_in x.groups ≡ [] → HasIn f p m fs → HasIn f p m (remove_entry (at_number n) fs)
one_fewer f p m n x fs there bare h =
    elim (at_number n f) as (λ b. at_number n f ≡ b → HasIn f p m (remove_entry (at_number n) fs)) [
      | true ↦ λ here.
          let has : has_object m (grouped.versions_at p x.groups) ≡ true =
          sym (ap (λ k. has_object m (versions_at k p fs)) (sym (same_number n f here)) ∙ ap (λ (o : Option Filespace). has_object m (grouped.versions_at p (groups_in o))) there) ∙ h in
          absurd (false≢true (sym (ap (has_object m) bare) ∙ within_groups p m x.groups has))
      | false ↦ λ away. ap (λ (o : Option Filespace). has_object m (grouped.versions_at p (groups_in o))) (lookup-beside_removed (at_number n) (at_number f) (beside n f away) fs) ∙ h
    ] refl

unused_as : (f : ℕ) (p : List ℕ) (m : ℕ) (rows : Rows) (n : ℕ) (x : Filespace) (o : Option ℕ) → filespace_at n rows.filespaces ≡ Some x → lesser (least_object x.groups) (least_in n rows.held) ≡ o → HasIn f p m rows.filespaces
    → HasIn f p m (or_same rows (with_filespaces rows (unless_used (by_object o) (remove_entry (at_number n) rows.filespaces)))).filespaces
unused_as f p m rows n x None there unused h = one_fewer f p m n x rows.filespaces there (least_of_none (versions_in x.groups) (none_first (least_object x.groups) (least_in n rows.held) unused)) h
unused_as f p m rows n x (Some object) there used h = h

gone_as : (f : ℕ) (p : List ℕ) (m : ℕ) (rows : Rows) (n : ℕ) (o : Option Filespace) → filespace_at n rows.filespaces ≡ o → HasIn f p m rows.filespaces
    → HasIn f p m (or_same rows (with_filespaces rows (if_found o (λ x. unless_used (by_object (lesser (least_object x.groups) (least_in n rows.held))) (remove_entry (at_number n) rows.filespaces))))).filespaces
gone_as f p m rows n None there h = h
gone_as f p m rows n (Some x) there h = unused_as f p m rows n x (lesser (least_object x.groups) (least_in n rows.held)) there refl h

pub clients_stand : (f : ℕ) (p : List ℕ) (m : ℕ) (c : ObjectChange) (v : Inv) → CanClients c v → Stands f p m v → Stands f p m (effect (change.Object c) v)
unfolding effect
clients_stand f p m (client.Node two.Define name domain) v can h = nodes_only f p m v.clients (nodes_with name domain v.next_node v.clients.nodes) h
clients_stand f p m (client.Node two.Delete name domain) v can h = nodes_only f p m v.clients (nodes_without name v.clients.filespaces v.clients.nodes) h
clients_stand f p m (client.Filespace two.Define node name n) v can h =
    let x : Filespace = record { node = node; name = name; groups = [] } in
    defined_as f p m v.clients (lookup (at_number node) v.clients.nodes) (is_some (filespace_named node name v.clients.filespaces)) (insert_entry nat_cmp v.clients.filespaces n x) h
    (one_more f p m n x v.clients.filespaces (none_is (filespace_at n v.clients.filespaces) can.free) h)
clients_stand f p m (client.Filespace two.Delete node name n) v can h = gone_as f p m v.clients n (filespace_at n v.clients.filespaces) refl h
