-- A filespace that is to be defined: it isn't there, or the database refuses it since it is.
use Rattle.std.proofs.Common.{◌≡◌, ◌∙◌, ℕ, ◌+◌, ◌-◌, ◌^◌, ◌==◌, Bool, true, false, cond, is_some, nat_le, nat_lt, if◌then◌else◌, List, [], ◌∷◌, ◌++◌, Option, None, Some, Ok, Err, refl, sym, ap, subst}
use Rattle.std.proofs.lemmas.Bool.{eq-eqb}
use Rattle.std.proofs.lemmas.Option.{same_Some}
use Rattle.std.specs.BTreeMap.{insert_entry}
use Rattle.std.specs.List.{AllByRecursion}
use Rattle.std.specs.Map.{lookup}
use Rattle.std.specs.Ordering.{nat_cmp}
use Rattle.kinds.specs.Refusals.{bad_value, foremost, place_of, refusal_of, sooner_of, unless}
use Rattle.kinds.specs.declared.change.DefineOrDelete.TheVariants as two
use Rattle.kinds.specs.declared.change.ObjectChange.TheVariants as client
use Rattle.kinds.specs.declared.refusal.Refusal.{Refusal}
use Rattle.kinds.specs.declared.refusal.Refusal.TheVariants as refused
use Rattle.inventory_rows.specs.Items.{count_items, most_items}
use Rattle.inventory_rows.specs.object_rows.Changes.{rows_changed}
use Rattle.inventory_rows.specs.object_rows.Filespaces.{at_number}
use Rattle.inventory_rows.specs.object_rows.Names.{at_name, filespace_named, node_named}
use Rattle.inventory_rows.specs.object_rows.Rows.{with_filespaces}
use Rattle.inventory_rows.specs.object_rows.declared.place.Node.{Node}
use Rattle.inventory_rows.specs.version_groups.Entries.{if_found}
use Rattle.inventory_rows.specs.version_groups.declared.groups.Filespace.{Filespace}
use Rattle.inventory_rows.specs.State.{Inv}
use Rattle.inventory_rules.specs.Common.{full_at}
use Rattle.inventory_rules.specs.Journal.{Journal}
use Rattle.inventory_rules.specs.Transactions.{effect, refused as refused_by, sizes_refused, then_valid}
use Rattle.inventory_rules.specs.Valid.{is_valid}
use Rattle.machine.proofs.Elsewhere.{append-all, foremost-all, unless-all}
use Rattle.machine.specs.Causes.{change_refused, listed}
use Rattle.machine.specs.State.{Core, inventory, sight}
use Rattle.line_results.specs.Files.{filespace_defined}
use Rattle.line_results.proofs.PutNaming.{same-number}

-- ---- the order of refusals

-- it doesn't come before that something is there
abbrev IsLater : Refusal → Type 0
IsLater e = nat_lt (place_of e) 13 ≡ false

sooner-exists : (o : Option Refusal) → ((e : Refusal) → o ≡ Some e → IsLater e) → sooner_of (Some refused.Exists) o ≡ Some refused.Exists
sooner-exists None late = refl
sooner-exists (Some e) late = ap (λ (b : Bool). Some (if b then e else refused.Exists)) (late e refl)

exists-first : (rest : List Refusal) → AllByRecursion IsLater rest → foremost (refused.Exists ∷ rest) ≡ Some refused.Exists
exists-first rest late = sooner-exists (foremost rest) (λ e is. foremost-all IsLater rest late e is)

-- ---- a node

-- a node that has a name has a row
named-there : (name : List ℕ) (k : ℕ) (nodes : List (ℕ × Node)) → node_named name nodes ≡ Some k → is_some (lookup (at_number k) nodes) ≡ true
named-there name k [] h = absurd cc
named-there name k (e ∷ nodes) h =
    elim (at_name name e.1.name) as (λ b. cond b (Some e.0) (node_named name nodes) ≡ Some k → is_some (cond (at_number k e.0) (Some e.1) (lookup (at_number k) nodes)) ≡ true) [
      | true ↦ λ is.
          (let same : e.0 ≡ k = same_Some e.0 k is in ap (λ (b : Bool). is_some (cond b (Some e.1) (lookup (at_number k) nodes))) (ap (at_number k) same ∙ same-number k))
      | false ↦ λ is. elim (at_number k e.0) as (λ b. is_some (cond b (Some e.1) (lookup (at_number k) nodes)) ≡ true) [
        | true ↦ refl
        | false ↦ named-there name k nodes is
      ]
    ] h

-- ---- a filespace that is there

exists-rows : (node number : ℕ) (name : List ℕ) (next : ℕ) (v : Inv) → is_some (lookup (at_number node) v.clients.nodes) ≡ true → is_some (filespace_named node name v.clients.filespaces) ≡ true
    → rows_changed (client.Filespace two.Define node name number) next v.clients ≡ Err refused.Exists
exists-rows node number name next v known has =
    let f : Filespace = record { node = node; name = name; groups = [] } in
    let es : List (ℕ × Filespace) = v.clients.filespaces in
    elim (lookup (at_number node) v.clients.nodes) as (λ o. is_some o ≡ true
    → with_filespaces v.clients (if_found o (λ _. if is_some (filespace_named node name es) then Err refused.Exists else Ok (insert_entry nat_cmp es number f))) ≡ Err refused.Exists) [
      | None ↦ λ odd. absurd cc
      | Some it ↦ λ _. ap (λ (b : Bool). with_filespaces v.clients (if b then Err refused.Exists else Ok (insert_entry nat_cmp es number f))) has
    ] known

-- what else may stand in its way comes later
abbrev bounds-of : Inv → List Refusal
bounds-of v = unless (v.next_filespace == v.next_filespace) bad_value ++ unless (nat_lt (v.next_filespace + 1) (2 ^ 32 - 1)) refused.InventoryFull

abbrev others-of : ℕ → List ℕ → Inv → List Refusal
others-of node name v = bounds-of v ++ sizes_refused (filespace_defined node name v) v

later-others : (node : ℕ) (name : List ℕ) (v : Inv) → AllByRecursion IsLater (others-of node name v)
later-others node name v =
    append-all IsLater (bounds-of v) (sizes_refused (filespace_defined node name v) v)
    (append-all IsLater (unless (v.next_filespace == v.next_filespace) bad_value) _
    (subst (λ (b : Bool). AllByRecursion IsLater (unless b bad_value)) (sym (eq-eqb v.next_filespace v.next_filespace refl)) tt)
    (unless-all IsLater (nat_lt (v.next_filespace + 1) (2 ^ 32 - 1)) refused.InventoryFull refl))
    (append-all IsLater (unless (nat_le (count_items (effect (filespace_defined node name v) v)) most_items) refused.InventoryFull) (full_at v.number (2 ^ 62))
    (unless-all IsLater (nat_le (count_items (effect (filespace_defined node name v) v)) most_items) refused.InventoryFull refl) (unless-all IsLater (nat_lt (v.number + 1) (2 ^ 62)) refused.InventoryFull refl))

exists-refused : (j : Journal) (node : ℕ) (name : List ℕ) (v : Inv) → is_some (lookup (at_number node) v.clients.nodes) ≡ true → is_some (filespace_named node name v.clients.filespaces) ≡ true
    → refused_by j (filespace_defined node name v) v ≡ Some refused.Exists
unfolding refused_by
exists-refused j node name v known has =
    let made = exists-rows node v.next_filespace name v.next_node v known has in
    ap (λ r. then_valid (foremost ((refusal_of r ++ bounds-of v) ++ sizes_refused (filespace_defined node name v) v)) (is_valid (effect (filespace_defined node name v) v))) made
    ∙ ap (λ (o : Option Refusal). then_valid o (is_valid (effect (filespace_defined node name v) v))) (exists-first (others-of node name v) (later-others node name v))

-- a filespace that is there is refused so
pub exists-so : (actor node : ℕ) (name owner : List ℕ) (core : Core) (e : Refusal) → node_named owner (inventory core).clients.nodes ≡ Some node → is_some (filespace_named node name (inventory core).clients.filespaces) ≡ true
    → foremost (change_refused actor (Some (filespace_defined node name (inventory core))) (sight actor core)) ≡ Some e → e ≡ refused.Exists
exists-so actor node name owner core e known has h =
    let v : Inv = inventory core in
    let it = exists-refused (sight actor core).journal node name v (named-there owner node v.clients.nodes known) has in
    let rest : List Refusal = unless _ refused.RecordFull in
    let is : foremost (change_refused actor (Some (filespace_defined node name v)) (sight actor core)) ≡ Some refused.Exists =
    ap (λ (o : Option Refusal). foremost (listed o ++ rest)) it ∙ exists-first rest (unless-all IsLater _ refused.RecordFull refl) in
    same_Some e refused.Exists (sym h ∙ is)
