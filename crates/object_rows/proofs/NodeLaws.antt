-- The index of the nodes' names after each change.
use Rattle.std.proofs.Common.{◌≡◌, ℕ, ◌+◌, true, false, cond, List, [], ◌∷◌, length, Option, Some, None, refl, sym, ap, subst, ◌∙◌}
use Rattle.std.proofs.lemmas.Map.Keys.{sorted_tail}
use Rattle.std.specs.BTreeMap.{insert_entry}
use Rattle.std.specs.Cmp.{nat_cmp_total}
use Rattle.std.specs.Cmp.Lexicographic.{nat_list_cmp_total}
use Rattle.std.specs.List.Sorted.{IsStrictlySortedBy}
use Rattle.std.specs.Map.{keys_of, lookup, remove_entry}
use Rattle.std.specs.Option.{is_some}
use Rattle.std.specs.Ordering.{nat_cmp}
use Rattle.object_rows.specs.declared.place.Node.{Node}
use Rattle.object_rows.specs.Filespaces.{at_number}
use Rattle.object_rows.specs.Names.{NodesIndexed, at_name, named, node_named}
use Rattle.object_rows.proofs.IndexLaws.{index-back, index-fewer, index-more}
use Rattle.object_rows.proofs.Splices.{Splices, splice_new, splice_remove}
use Rattle.object_rows.proofs.Stands.{at_itself, passed, same_number, same_path}

pub nodes_put : (names more : List (List ℕ × ℕ)) (nodes new : List (ℕ × Node)) (n : ℕ) (x : Node) → NodesIndexed names nodes → lookup (at_name x.name) names ≡ None → lookup (at_number n) nodes ≡ None
    → new ≡ insert_entry nat_cmp nodes n x → IsStrictlySortedBy nat_cmp (keys_of new)
    → ((q : List ℕ) → lookup (at_name q) more ≡ cond (at_name x.name q) (Some n) (lookup (at_name q) names))
    → (was : Option ℕ) → was ≡ lookup (at_name x.name) names → length more ≡ length names + cond (is_some was) 0 1 → NodesIndexed more new
nodes_put names more nodes new n x i fresh free entries sorted put was had long = record {
  index = index-more nat_list_cmp_total (x.name, n) names more (named nodes) (named new) i.index fresh
      (subst (λ (t : List (ℕ × Node)). Splices [] ((x.name, n) ∷ []) (named nodes) (named t)) (sym entries) (splice_new (λ (m : ℕ) (y : Node). (y.name, m) ∷ []) nat_cmp n x nodes free)) put was had long;
  by_number = sorted;
}

-- a name that is found leads to the node with its number
pub named_stands : (name : List ℕ) (n : ℕ) (nodes : List (ℕ × Node)) → IsStrictlySortedBy nat_cmp (keys_of nodes) → node_named name nodes ≡ Some n → (x : Node) × (lookup (at_number n) nodes ≡ Some x) × (x.name ≡ name)
named_stands name n [] sorted h = absurd (cc)
named_stands name n (e ∷ es) sorted h =
    elim (at_name name e.1.name) as (λ b. at_name name e.1.name ≡ b → cond b (Some e.0) (node_named name es) ≡ Some n → (x : Node) × (lookup (at_number n) (e ∷ es) ≡ Some x) × (x.name ≡ name)) [
      | true ↦ λ yes t.
          let same : e.0 ≡ n = cc in
          (e.1, ap (λ m. lookup (at_number m) (e ∷ es)) (sym same) ∙ ap (λ b. cond b (Some e.1) (lookup (at_number e.0) es)) (at_itself e.0), sym (same_path name e.1.name yes))
      | false ↦ λ _ t.
          let w : (x : Node) × (lookup (at_number n) es ≡ Some x) × (x.name ≡ name) = named_stands name n es (sorted_tail nat_cmp e.0 (keys_of es) sorted) t in
          (w.0, passed nat_cmp_total n e es w.0 sorted w.1, w.2)
    ] refl h

pub nodes_removed : (names fewer : List (List ℕ × ℕ)) (nodes new : List (ℕ × Node)) (name : List ℕ) (n : ℕ) → NodesIndexed names nodes → node_named name nodes ≡ Some n
    → new ≡ remove_entry (at_number n) nodes → IsStrictlySortedBy nat_cmp (keys_of new)
    → ((q : List ℕ) → lookup (at_name q) fewer ≡ cond (at_name name q) None (lookup (at_name q) names))
    → (taken : Option ℕ) → taken ≡ lookup (at_name name) names → length fewer + cond (is_some taken) 1 0 ≡ length names → NodesIndexed fewer new
nodes_removed names fewer nodes new name n i found entries sorted took taken there short =
    let w : (x : Node) × (lookup (at_number n) nodes ≡ Some x) × (x.name ≡ name) = named_stands name n nodes i.by_number found in
    let s : (k : ℕ) × (at_number n k ≡ true) × Splices ((w.0.name, k) ∷ []) [] (named nodes) (named (remove_entry (at_number n) nodes)) = splice_remove (λ (m : ℕ) (y : Node). (y.name, m) ∷ []) (at_number n) nodes w.0 w.1 in
    record {
      index = index-fewer nat_list_cmp_total (name, n) names fewer (named nodes) (named new) i.index
          (subst (λ (t : List (ℕ × Node)). Splices ((name, n) ∷ []) [] (named nodes) (named t)) (sym entries)
          (subst (λ (m : ℕ). Splices ((name, m) ∷ []) [] (named nodes) (named (remove_entry (at_number n) nodes))) (sym (same_number n s.0 s.1))
          (subst (λ (t : List ℕ). Splices ((t, s.0) ∷ []) [] (named nodes) (named (remove_entry (at_number n) nodes))) w.2 s.2)))
          took taken there short;
      by_number = sorted;
    }

-- a name that was put into the index and is taken out again
pub nodes_back : (names more fewer : List (List ℕ × ℕ)) (nodes : List (ℕ × Node)) (name : List ℕ) (n : ℕ) → NodesIndexed names nodes → lookup (at_name name) names ≡ None
    → ((q : List ℕ) → lookup (at_name q) more ≡ cond (at_name name q) (Some n) (lookup (at_name q) names))
    → (was : Option ℕ) → was ≡ lookup (at_name name) names → length more ≡ length names + cond (is_some was) 0 1
    → ((q : List ℕ) → lookup (at_name q) fewer ≡ cond (at_name name q) None (lookup (at_name q) more))
    → (taken : Option ℕ) → taken ≡ lookup (at_name name) more → length fewer + cond (is_some taken) 1 0 ≡ length more → NodesIndexed fewer nodes
nodes_back names more fewer nodes name n i fresh put was had long took taken there short = record {
  index = index-back nat_list_cmp_total (name, n) names more fewer (named nodes) i.index fresh put was had long took taken there short;
  by_number = i.by_number;
}
