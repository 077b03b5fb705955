-- Every object of a valid database of which no copy is left is among those that are listed as lost, and no other.
use Rattle.std.proofs.Common.{◌≡◌, ℕ, Bool, true, false, ◌&&◌, ◌||◌, cond, not, is_some, List, [], ◌∷◌, ◌++◌, map, filter, Option, Some, None, refl, sym, ap, subst, ◌∙◌, arith}
use Rattle.std.specs.Prelude.{◌==◌}
use Rattle.std.specs.BTreeMap.{insert_entry, is_at}
use Rattle.std.specs.List.{list_all, list_any}
use Rattle.std.specs.Map.{lookup}
use Rattle.std.specs.Ordering.{is_eq, match_ordering, nat_cmp}
use Rattle.std.specs.declared.cmp.Ordering.{Ordering}
use Rattle.std.specs.declared.cmp.Ordering.TheVariants.{Equal, Greater, Less}
use Rattle.std.proofs.lemmas.Bool.{and_parts}
use Rattle.std.proofs.lemmas.Bool as bool
use Rattle.std.proofs.lemmas.Bool.Decides.{nat_tests}
use Rattle.inventory_rows.specs.version_groups.declared.group.Group.{Group}
use Rattle.inventory_rows.specs.version_groups.declared.groups.Filespace.{Filespace}
use Rattle.inventory_rows.specs.version_groups.declared.versions.Version.{Version}
use Rattle.inventory_rows.specs.object_rows.declared.held_object.HeldRow.{HeldRow}
use Rattle.inventory_rows.specs.object_rows.declared.place.Node.{Node}
use Rattle.inventory_rows.specs.object_rows.Filespaces.{at_number, filespace_at, versions_in, versions_of}
use Rattle.inventory_rows.specs.object_rows.HeldRows.{held_versions, is_held_row}
use Rattle.inventory_rows.specs.Search.{versions}
use Rattle.inventory_rows.specs.State.{Inv}
use Rattle.inventory_rules.specs.Facts.{Facts}
use Rattle.inventory_rules.specs.Valid.{is_valid}
use Rattle.inventory_laws.proofs.Facts.{facts_of}
use Rattle.db_losses.specs.declared.lost.Lost.{Lost}
use Rattle.db_losses.specs.Losses.{Losses, has_copies, version_left}
use Rattle.db_losses.specs.Lost.{all_put, lost_held_in, lost_held_of, lost_in_filespaces, lost_in_groups, lost_in_held, lost_in_versions, lost_of_node, lost_rows}

same_number : (x y : ℕ) → is_at (nat_cmp x) y ≡ (x == y)
same_number x y = grind (arith, nat_tests)

or_assoc : (a b c : Bool) → ((a || b) || c) ≡ (a || (b || c))
or_assoc true b c = refl
or_assoc false b c = refl

or_swap : (a b c : Bool) → (a || (b || c)) ≡ (b || (a || c))
or_swap true true c = refl
or_swap true false c = refl
or_swap false b c = refl

or_false : (a : Bool) → (a || false) ≡ a
or_false true = refl
or_false false = refl

or_twice : (a b : Bool) → (a || b) ≡ (a || (a || b))
or_twice true b = refl
or_twice false b = refl

any_joined : {X : Type 0} (f : X → Bool) (xs ys : List X) → list_any f (xs ++ ys) ≡ (list_any f xs || list_any f ys)
any_joined f [] ys = refl
any_joined f (x ∷ xs) ys = ap (λ (b : Bool). f x || b) (any_joined f xs ys) ∙ sym (or_assoc (f x) (list_any f xs) (list_any f ys))

module _ (n : ℕ) where
  -- a row has this number
  abbrev here : List (ℕ × Lost) → Bool
  here rows = list_any (λ r. n == r.0) rows

  looked_up : (rows : List (ℕ × Lost)) → is_some (lookup (at_number n) rows) ≡ here rows
  looked_up [] = refl
  looked_up (r ∷ rows) = go (is_at (nat_cmp n) r.0) (same_number n r.0) (looked_up rows)
    where
      go : (b : Bool) → b ≡ (n == r.0) → is_some (lookup (at_number n) rows) ≡ here rows → is_some (cond b (Some r.1) (lookup (at_number n) rows)) ≡ ((n == r.0) || here rows)
      go true is below = ap (λ (c : Bool). c || here rows) is
      go false is below = below ∙ ap (λ (c : Bool). c || here rows) is

  inserted : (k : ℕ) (x : Lost) (rows : List (ℕ × Lost)) → here (insert_entry nat_cmp rows k x) ≡ ((n == k) || here rows)
  inserted k x [] = refl
  inserted k x (r ∷ rows) = go (nat_cmp k r.0) refl (inserted k x rows)
    where
      same : nat_cmp k r.0 ≡ Equal → k ≡ r.0
      same is = bool.eqb-true k r.0 (sym (same_number k r.0) ∙ ap is_eq is)

      go : (o : Ordering) → nat_cmp k r.0 ≡ o → here (insert_entry nat_cmp rows k x) ≡ ((n == k) || here rows) → here (match_ordering o ((k, x) ∷ r ∷ rows) ((r.0, x) ∷ rows) (r ∷ insert_entry nat_cmp rows k x)) ≡ ((n == k) || ((n == r.0) || here rows))
      go Less is below = refl
      go Equal is below = or_twice (n == r.0) (here rows) ∙ ap (λ (m : ℕ). (n == m) || ((n == r.0) || here rows)) (sym (same is))
      go Greater is below = ap (λ (b : Bool). (n == r.0) || b) below ∙ or_swap (n == r.0) (n == k) (here rows)

  all_there : (rows out : List (ℕ × Lost)) → here (all_put rows out) ≡ (here rows || here out)
  all_there [] out = refl
  all_there (r ∷ rows) out =
      all_there rows (insert_entry nat_cmp out r.0 r.1) ∙ ap (λ (b : Bool). here rows || b) (inserted r.0 r.1 out) ∙ or_swap (here rows) (n == r.0) (here out)
      ∙ sym (or_assoc (n == r.0) (here rows) (here out))

  module _ (losses : Losses) where
    -- the version is this object's, and no copy of it is left
    abbrev pub is_gone : Version → Bool
    is_gone w = (n == w.object) && not (has_copies (version_left losses w))

    in_versions : (node space path : List ℕ) (vs : List Version) → here (lost_in_versions losses node space path vs) ≡ list_any is_gone vs
    in_versions node space path [] = refl
    in_versions node space path (w ∷ vs) = go (not (has_copies (version_left losses w))) (in_versions node space path vs)
      where
        row : Version → ℕ × Lost
        row u = (u.object, record { node = node; filespace = space; path = path })

        gone : List Version
        gone = filter (λ u. not (has_copies (version_left losses u))) vs

        and_true : (a : Bool) → a ≡ (a && true)
        and_true true = refl
        and_true false = refl

        and_false : (a : Bool) → false ≡ (a && false)
        and_false true = refl
        and_false false = refl

        go : (b : Bool) → here (map row gone) ≡ list_any is_gone vs → here (map row (cond b (w ∷ gone) gone)) ≡ (((n == w.object) && b) || list_any is_gone vs)
        go true below = ap (λ (c : Bool). (n == w.object) || c) below ∙ ap (λ (c : Bool). c || list_any is_gone vs) (and_true (n == w.object))
        go false below = below ∙ ap (λ (c : Bool). c || list_any is_gone vs) (and_false (n == w.object))

    in_groups : (node space : List ℕ) (gs : List (List ℕ × Group)) → here (lost_in_groups losses node space gs) ≡ list_any is_gone (versions_in gs)
    in_groups node space [] = refl
    in_groups node space (g ∷ gs) =
        any_joined (λ r. n == r.0) (lost_in_versions losses node space g.0 g.1.versions) (lost_in_groups losses node space gs)
        ∙ ap (λ (b : Bool). b || here (lost_in_groups losses node space gs)) (in_versions node space g.0 g.1.versions)
        ∙ ap (λ (b : Bool). list_any is_gone g.1.versions || b) (in_groups node space gs) ∙ sym (any_joined is_gone g.1.versions (versions_in gs))

    of_node : (node : Option Node) (f : Filespace) → is_some node ≡ true → here (lost_of_node losses node f) ≡ list_any is_gone (versions_in f.groups)
    of_node None f h = absurd (cc)
    of_node (Some node) f h = in_groups node.name f.name f.groups

    in_filespaces : (nodes : List (ℕ × Node)) (fs : List (ℕ × Filespace)) → list_all (λ f. is_some (lookup (at_number f.1.node) nodes)) fs ≡ true → here (lost_in_filespaces losses nodes fs) ≡ list_any is_gone (versions_of fs)
    in_filespaces nodes [] h = refl
    in_filespaces nodes (f ∷ fs) h =
        let parts = and_parts (is_some (lookup (at_number f.1.node) nodes)) (list_all (λ x. is_some (lookup (at_number x.1.node) nodes)) fs) h in
        any_joined (λ r. n == r.0) (lost_of_node losses (lookup (at_number f.1.node) nodes) f.1) (lost_in_filespaces losses nodes fs)
        ∙ ap (λ (b : Bool). b || here (lost_in_filespaces losses nodes fs)) (of_node (lookup (at_number f.1.node) nodes) f.1 parts.0)
        ∙ ap (λ (b : Bool). list_any is_gone (versions_in f.1.groups) || b) (in_filespaces nodes fs parts.1) ∙ sym (any_joined is_gone (versions_in f.1.groups) (versions_of fs))

    -- the node of a filespace that is there
    node_there : (nodes : List (ℕ × Node)) (number : ℕ) (fs : List (ℕ × Filespace)) (f : Filespace) → list_all (λ x. is_some (lookup (at_number x.1.node) nodes)) fs ≡ true → filespace_at number fs ≡ Some f → is_some (lookup (at_number f.node) nodes) ≡ true
    node_there nodes number [] f h is = absurd (cc)
    node_there nodes number (x ∷ fs) f h is =
        let parts = and_parts (is_some (lookup (at_number x.1.node) nodes)) (list_all (λ y. is_some (lookup (at_number y.1.node) nodes)) fs) h in
        go parts.0 (λ later. node_there nodes number fs f parts.1 later) (at_number number x.0) is
      where
        go : is_some (lookup (at_number x.1.node) nodes) ≡ true → (filespace_at number fs ≡ Some f → is_some (lookup (at_number f.node) nodes) ≡ true) → (b : Bool) → cond b (Some x.1) (filespace_at number fs) ≡ Some f → is_some (lookup (at_number f.node) nodes) ≡ true
        go there rest true found = (let same : x.1 ≡ f = cc in subst (λ (y : Filespace). is_some (lookup (at_number y.node) nodes) ≡ true) same there)
        go there rest false found = rest found

    held_of : (nodes : List (ℕ × Node)) (f : Option Filespace) (row : HeldRow) → ((space : Filespace) → f ≡ Some space → is_some (lookup (at_number space.node) nodes) ≡ true) → is_some f ≡ true → here (lost_held_in losses nodes f row) ≡ list_any is_gone (row.held.version ∷ [])
    held_of nodes None row there h = absurd (cc)
    held_of nodes (Some f) row there h = go (lookup (at_number f.node) nodes) (there f refl)
      where
        go : (node : Option Node) → is_some node ≡ true → here (lost_held_of losses node f row) ≡ list_any is_gone (row.held.version ∷ [])
        go None t = absurd (cc)
        go (Some node) t = in_versions node.name f.name row.held.path (row.held.version ∷ [])

    in_held : (nodes : List (ℕ × Node)) (fs : List (ℕ × Filespace)) (hs : List (ℕ × HeldRow)) → list_all (λ f. is_some (lookup (at_number f.1.node) nodes)) fs ≡ true → list_all (λ h. is_held_row h && is_some (filespace_at h.1.filespace fs)) hs ≡ true
        → here (lost_in_held losses nodes fs hs) ≡ list_any is_gone (held_versions hs)
    in_held nodes fs [] cited h = refl
    in_held nodes fs (row ∷ hs) cited h =
        let parts = and_parts (is_held_row row && is_some (filespace_at row.1.filespace fs)) (list_all (λ x. is_held_row x && is_some (filespace_at x.1.filespace fs)) hs) h in
        let there = (and_parts (is_held_row row) (is_some (filespace_at row.1.filespace fs)) parts.0).1 in
        any_joined (λ r. n == r.0) (lost_held_in losses nodes (filespace_at row.1.filespace fs) row.1) (lost_in_held losses nodes fs hs)
        ∙ ap (λ (b : Bool). b || here (lost_in_held losses nodes fs hs)) (held_of nodes (filespace_at row.1.filespace fs) row.1 (λ space is. node_there nodes row.1.filespace fs space cited is) there ∙ or_false (is_gone row.1.held.version))
        ∙ ap (λ (b : Bool). is_gone row.1.held.version || b) (in_held nodes fs hs cited parts.1)

    pub lost_named : (v : Inv) → is_valid v ≡ true → is_some (lookup (at_number n) (all_put (lost_rows losses v.clients) [])) ≡ list_any is_gone (versions v)
    lost_named v valid =
        let f : Facts v = facts_of v valid in
        let rows = v.clients in
        looked_up (all_put (lost_rows losses rows) []) ∙ all_there (lost_rows losses rows) [] ∙ or_false (here (lost_rows losses rows))
        ∙ any_joined (λ r. n == r.0) (lost_in_filespaces losses rows.nodes rows.filespaces) (lost_in_held losses rows.nodes rows.filespaces rows.held)
        ∙ ap (λ (b : Bool). b || here (lost_in_held losses rows.nodes rows.filespaces rows.held)) (in_filespaces rows.nodes rows.filespaces f.filespaces_cite)
        ∙ ap (λ (b : Bool). list_any is_gone (versions_of rows.filespaces) || b) (in_held rows.nodes rows.filespaces rows.held f.filespaces_cite f.held_cite)
        ∙ sym (any_joined is_gone (versions_of rows.filespaces) (held_versions rows.held))
