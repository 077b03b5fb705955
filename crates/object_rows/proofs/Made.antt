-- What the changes of nodes and filespaces make where they are not refused.
use Rattle.std.proofs.Common.{◌≡◌, inr, ℕ, List, [], Option, Some, None, is_some, Result, Ok, Err, if◌then◌else◌, refl, sym, ap, ◌∙◌}
use Rattle.std.specs.BTreeMap.{insert_entry}
use Rattle.std.specs.Map.{lookup, remove_entry}
use Rattle.std.specs.Ordering.{nat_cmp}
use Rattle.std.specs.Result.{result_err}
use Rattle.version_groups.specs.kinds.declared.change.DefineOrDelete.TheVariants.{Define, Delete}
use Rattle.version_groups.specs.kinds.declared.change.ObjectChange.{ObjectChange}
use Rattle.version_groups.specs.kinds.declared.change.ObjectChange.TheVariants as changes
use Rattle.version_groups.specs.kinds.declared.refusal.By.{By}
use Rattle.version_groups.specs.kinds.declared.refusal.Refusal.{Refusal}
use Rattle.version_groups.specs.kinds.declared.refusal.Refusal.TheVariants.{Exists}
use Rattle.version_groups.specs.declared.groups.Filespace.{Filespace}
use Rattle.version_groups.specs.Entries.{on_ok, if_found}
use Rattle.version_groups.specs.kinds.Least.{lesser}
use Rattle.object_rows.specs.declared.held_object.HeldRow.{HeldRow}
use Rattle.object_rows.specs.declared.place.Node.{Node}
use Rattle.object_rows.specs.Changes.{Changes, by_filespace, by_object, filespaces_defined, filespaces_without, least_in, least_object, nodes_with, nodes_without, unless_used}
use Rattle.object_rows.specs.Filespaces.{at_number, filespace_at}
use Rattle.object_rows.specs.Names.{filespace_named, filespace_of, node_named}

-- a change of nodes, or of filespaces, is refused as the whole is
pub error_on_ok : {A B : Type 0} (f : A → B) (said : Result A Refusal) → result_err (on_ok f said) ≡ result_err said
error_on_ok f (Ok a) = refl
error_on_ok f (Err e) = refl

-- a change that is refused
refused : {S : Type 0} (e : Refusal) (said : Result S Refusal) → Some e ≡ result_err said → said ≡ Err e
refused e (Ok s) h = absurd (cc)
refused e (Err f) h = cc

-- what comes where its name is not taken
comes : {S : Type 0} (made : S) (taken : Option ℕ) → result_err (if is_some taken then Err Exists else Ok made) ≡ None → (taken ≡ None) × ((if is_some taken then Err Exists else Ok made) ≡ Ok made)
comes made None h = (refl, refl)
comes made (Some n) h = absurd (cc)

-- what goes where nothing uses it
goes : {S : Type 0} (made : S) (user : Option By) → result_err (unless_used user made) ≡ None → (user ≡ None) × (unless_used user made ≡ Ok made)
goes made None h = (refl, refl)
goes made (Some by) h = absurd (cc)

pub node_is_new : (name domain : List ℕ) (number : ℕ) (nodes : List (ℕ × Node)) → result_err (nodes_with name domain number nodes) ≡ None → node_named name nodes ≡ None
node_is_new name domain number nodes h = (comes (insert_entry nat_cmp nodes number (record { name = name; domain = domain })) (node_named name nodes) h).0

pub node_comes : (name domain : List ℕ) (number : ℕ) (nodes : List (ℕ × Node)) → result_err (nodes_with name domain number nodes) ≡ None
    → nodes_with name domain number nodes ≡ Ok (insert_entry nat_cmp nodes number (record { name = name; domain = domain }))
node_comes name domain number nodes h = (comes (insert_entry nat_cmp nodes number (record { name = name; domain = domain })) (node_named name nodes) h).1

pub node_goes : (name : List ℕ) (filespaces : List (ℕ × Filespace)) (nodes : List (ℕ × Node)) (number : ℕ) → Some number ≡ node_named name nodes → result_err (nodes_without name filespaces nodes) ≡ None
    → nodes_without name filespaces nodes ≡ Ok (remove_entry (at_number number) nodes)
node_goes name filespaces nodes number found h =
    sym (ap (λ o. if_found o step) found) ∙ (goes (remove_entry (at_number number) nodes) (by_filespace (filespace_of number filespaces)) (ap (λ o. result_err (if_found o step)) found ∙ h)).1 where
      step : ℕ → Result (List (ℕ × Node)) Refusal
      step n = unless_used (by_filespace (filespace_of n filespaces)) (remove_entry (at_number n) nodes)

space_said : (node : ℕ) (name : List ℕ) (number : ℕ) (filespaces : List (ℕ × Filespace)) (there : Option Node)
    → result_err (if_found there (λ _. if is_some (filespace_named node name filespaces) then Err Exists else Ok (insert_entry nat_cmp filespaces number (record { node = node; name = name; groups = [] })))) ≡ None
    → (filespace_named node name filespaces ≡ None) × (if_found there (λ _. if is_some (filespace_named node name filespaces) then Err Exists else Ok (insert_entry nat_cmp filespaces number (record { node = node; name = name; groups = [] }))) ≡ Ok (insert_entry nat_cmp filespaces number (record { node = node; name = name; groups = [] })))
space_said node name number filespaces None h = absurd (cc)
space_said node name number filespaces (Some n) h = comes (insert_entry nat_cmp filespaces number (record { node = node; name = name; groups = [] })) (filespace_named node name filespaces) h

pub space_is_new : (node : ℕ) (name : List ℕ) (number : ℕ) (nodes : List (ℕ × Node)) (filespaces : List (ℕ × Filespace)) → result_err (filespaces_defined node name number nodes filespaces) ≡ None → filespace_named node name filespaces ≡ None
space_is_new node name number nodes filespaces h = (space_said node name number filespaces (lookup (at_number node) nodes) h).0

pub space_comes : (node : ℕ) (name : List ℕ) (number : ℕ) (nodes : List (ℕ × Node)) (filespaces : List (ℕ × Filespace)) → result_err (filespaces_defined node name number nodes filespaces) ≡ None
    → filespaces_defined node name number nodes filespaces ≡ Ok (insert_entry nat_cmp filespaces number (record { node = node; name = name; groups = [] }))
space_comes node name number nodes filespaces h = (space_said node name number filespaces (lookup (at_number node) nodes) h).1

nothing : (object : Option ℕ) → by_object object ≡ None → object ≡ None
nothing None h = refl
nothing (Some n) h = absurd (cc)

no_lesser : (a b : Option ℕ) → lesser a b ≡ None → a ≡ None
no_lesser None b h = refl
no_lesser (Some n) None h = absurd (cc)
no_lesser (Some n) (Some m) h = absurd (cc)

space_left : (number : ℕ) (held : List (ℕ × HeldRow)) (filespaces : List (ℕ × Filespace)) (f : Filespace) → Some f ≡ filespace_at number filespaces → result_err (filespaces_without number held filespaces) ≡ None
    → (least_object f.groups ≡ None) × (filespaces_without number held filespaces ≡ Ok (remove_entry (at_number number) filespaces))
space_left number held filespaces f found h =
    let w = goes (remove_entry (at_number number) filespaces) (by_object (lesser (least_object f.groups) (least_in number held))) (ap (λ o. result_err (if_found o step)) found ∙ h) in
    (no_lesser (least_object f.groups) (least_in number held) (nothing (lesser (least_object f.groups) (least_in number held)) w.0), sym (ap (λ o. if_found o step) found) ∙ w.1) where
      step : Filespace → Result (List (ℕ × Filespace)) Refusal
      step g = unless_used (by_object (lesser (least_object g.groups) (least_in number held))) (remove_entry (at_number number) filespaces)

pub space_is_unused : (number : ℕ) (held : List (ℕ × HeldRow)) (filespaces : List (ℕ × Filespace)) (f : Filespace) → Some f ≡ filespace_at number filespaces → result_err (filespaces_without number held filespaces) ≡ None → least_object f.groups ≡ None
space_is_unused number held filespaces f found h = (space_left number held filespaces f found h).0

pub space_goes : (number : ℕ) (held : List (ℕ × HeldRow)) (filespaces : List (ℕ × Filespace)) (f : Filespace) → Some f ≡ filespace_at number filespaces → result_err (filespaces_without number held filespaces) ≡ None
    → filespaces_without number held filespaces ≡ Ok (remove_entry (at_number number) filespaces)
space_goes number held filespaces f found h = (space_left number held filespaces f found h).1

pub changes_refused : (A : Type 0) {S : Type 0} (change : ObjectChange) (e : Refusal) (old : S) (said : Result S Refusal) → Some e ≡ result_err said → Changes {A = A} change (Err e) old old said
changes_refused A (changes.Node Define name domain) e old said h = (refl, inr (refused e said h))
changes_refused A (changes.Node Delete name domain) e old said h = (refl, refused e said h)
changes_refused A (changes.Filespace Define node name filespace) e old said h = (refl, inr (refused e said h))
changes_refused A (changes.Filespace Delete node name filespace) e old said h = (refl, refused e said h)
