-- Rows under names.
use Rattle.std.proofs.Common.{◌≡◌, ℕ, Bool, true, false, cond, not, eqb, ◌&&◌, ◌||◌, ◌++◌, List, [], ◌∷◌, map, Some, None, refl, sym, ap, ◌∙◌, eq-eqb, eqb-true, ne_eqb}
use Rattle.std.proofs.lemmas.Bool.{true≢false}
use Rattle.std.proofs.lemmas.Map.Text.{is_eq-slice_cmp}
use Rattle.std.specs.Cmp.Lexicographic.{nat_list_eq_equiv}
use Rattle.std.specs.List.{list_all}
use Rattle.std.specs.Map.{lookup}
use Rattle.inventory_rules.specs.inventory_rows.version_groups.declared.groups.Filespace.{Filespace}
use Rattle.inventory_rules.specs.inventory_rows.object_rows.declared.place.Node.{Node}
use Rattle.inventory_rules.specs.inventory_rows.object_rows.Names.{at_name, filespace_named, filespace_of, first_number, named_of, node_named}
use Rattle.kinds.specs.Names.{is_same_name}
use Rattle.inventory_rules.specs.inventory_rows.pool_tables.Rows.{number_where}
use Rattle.inventory_laws.proofs.Facts.{both}

-- a name is found exactly where it is the same one
pub at-same : (a b : List ℕ) → at_name a b ≡ is_same_name a b
at-same a b = is_eq-slice_cmp a b

pub names_swap : (a b : List ℕ) → is_same_name a b ≡ is_same_name b a
names_swap a b = nat_list_eq_equiv.symm a b

-- no node has a name that isn't found
pub node_unnamed : (name : List ℕ) (nodes : List (ℕ × Node)) → node_named name nodes ≡ None → list_all (λ b. not (is_same_name name b)) (map (λ n. n.1.name) nodes) ≡ true
node_unnamed name [] h = refl
node_unnamed name (e ∷ es) h =
    elim (at_name name e.1.name) as (λ b. at_name name e.1.name ≡ b → cond b (Some e.0) (node_named name es) ≡ None → (not (is_same_name name e.1.name) && list_all (λ b. not (is_same_name name b)) (map (λ n. n.1.name) es)) ≡ true) [
      | true ↦ λ _ t. absurd (cc)
      | false ↦ λ no t. both _ _ (ap not (sym (at-same name e.1.name) ∙ no)) (node_unnamed name es t)
    ] refl h

-- a search by name goes past a filespace that is another node's or has another name
named_more : (node : ℕ) (name : List ℕ) (e : ℕ × Filespace) (es : List (ℕ × Filespace)) → filespace_named node name (e ∷ es) ≡ cond (eqb e.1.node node && at_name name e.1.name) (Some e.0) (filespace_named node name es)
named_more node name e es = elim (eqb e.1.node node) as (λ b. lookup (at_name name) (cond b ((e.1.name, e.0) ∷ []) [] ++ named_of node es) ≡ cond (b && at_name name e.1.name) (Some e.0) (filespace_named node name es)) [ true ↦ refl | false ↦ refl ]

other_space : (node : ℕ) (name : List ℕ) (x : ℕ) (other : List ℕ) → (eqb x node && at_name name other) ≡ false → (not (eqb node x) || not (is_same_name name other)) ≡ true
other_space node name x other h =
    elim (eqb x node) as (λ b. eqb x node ≡ b → (b && at_name name other) ≡ false → (not (eqb node x) || not (is_same_name name other)) ≡ true) [
      | true ↦ λ yes t. ap (λ b. not b || not (is_same_name name other)) (eq-eqb node x (sym (eqb-true x node yes))) ∙ ap not (sym (at-same name other) ∙ t)
      | false ↦ λ no _. ap (λ b. not b || not (is_same_name name other)) (ne_eqb node x (λ same. true≢false (sym (eq-eqb x node (sym same)) ∙ no)))
    ] refl h

-- none of a node's filespaces has a name that isn't found
pub space_unnamed : (node : ℕ) (name : List ℕ) (fs : List (ℕ × Filespace)) → filespace_named node name fs ≡ None → list_all (λ g. not (eqb node g.1.node) || not (is_same_name name g.1.name)) fs ≡ true
space_unnamed node name [] h = refl
space_unnamed node name (e ∷ es) h =
    elim (eqb e.1.node node && at_name name e.1.name) as (λ b. (eqb e.1.node node && at_name name e.1.name) ≡ b → cond b (Some e.0) (filespace_named node name es) ≡ None
    → ((not (eqb node e.1.node) || not (is_same_name name e.1.name)) && list_all (λ g. not (eqb node g.1.node) || not (is_same_name name g.1.name)) es) ≡ true) [
      | true ↦ λ _ t. absurd (cc)
      | false ↦ λ no t. both _ _ (other_space node name e.1.node e.1.name no) (space_unnamed node name es t)
    ] refl (sym (named_more node name e es) ∙ h)

-- a node without filespaces is the node of none
pub no_space : (node : ℕ) (fs : List (ℕ × Filespace)) → filespace_of node fs ≡ None → list_all (λ f. not (eqb f.1.node node)) fs ≡ true
no_space node [] h = refl
no_space node (e ∷ es) h =
    elim (eqb e.1.node node) as (λ b. first_number (cond b ((e.1.name, e.0) ∷ []) [] ++ named_of node es) ≡ None → (not b && list_all (λ f. not (eqb f.1.node node)) es) ≡ true) [
      | true ↦ λ t. absurd (cc)
      | false ↦ λ t. no_space node es t
    ] h

-- where the least row that passes isn't there, none passes
pub none_where : {V : Type 0} (test : V → Bool) (rows : List (ℕ × V)) → number_where test rows ≡ None → list_all (λ e. not (test e.1)) rows ≡ true
none_where test [] h = refl
none_where test (e ∷ rows) h =
    elim (test e.1) as (λ b. cond b (Some e.0) (number_where test rows) ≡ None → (not b && list_all (λ e. not (test e.1)) rows) ≡ true) [
      | true ↦ λ t. absurd (cc)
      | false ↦ λ t. none_where test rows t
    ] h
