-- The index of the filespaces' names after each change, and as it is built.
use Rattle.std.proofs.Common.{◌≡◌, ◌⊎◌, ℕ, Bool, true, false, cond, List, [], ◌∷◌, ◌++◌, length, Option, Some, None, Result, Ok, Err, refl, sym, ap, subst, ◌∙◌, ⊎_elim}
use Rattle.std.specs.BTreeMap.{insert_entry}
use Rattle.std.specs.Cmp.Lexicographic.{slice_cmp, nat_list_cmp_total}
use Rattle.std.specs.Map.{lookup, remove_entry, set_value}
use Rattle.std.specs.Option.{is_some}
use Rattle.std.specs.Ordering.{nat_cmp}
use Rattle.std.specs.Result.{IfErr}
use Rattle.version_groups.specs.kinds.declared.refusal.Refusal.{Refusal}
use Rattle.version_groups.specs.kinds.declared.refusal.Refusal.TheVariants.{Memory}
use Rattle.version_groups.specs.declared.copies.CopyChange.{CopyChange}
use Rattle.version_groups.specs.declared.copies.CopyRow.{CopyRow}
use Rattle.version_groups.specs.declared.group.Group.{Group}
use Rattle.version_groups.specs.declared.group.GroupChange.{GroupChange}
use Rattle.version_groups.specs.declared.group.GroupChange.TheVariants.{Remove}
use Rattle.version_groups.specs.declared.groups.Filespace.{Filespace}
use Rattle.version_groups.specs.declared.versions.Version.{Version}
use Rattle.version_groups.specs.Copies.{copies_after}
use Rattle.version_groups.specs.Entries.{on_ok, if_found}
use Rattle.version_groups.specs.Groups.{groups_after, groups_with}
use Rattle.version_groups.specs.Versions.{version_of}
use Rattle.object_rows.specs.declared.place.Place.{Place}
use Rattle.object_rows.specs.Filespaces.{at_number, filespace_at, filespaces_after, filespaces_altered, filespaces_copied, filespaces_with, in_filespace, versions_of}
use Rattle.object_rows.specs.Index.{AreDistinct, IsIndex}
use Rattle.object_rows.specs.Names.{SpacesIndexed, at_name, filespace_of, first_number, name_in, named_of, names_at}
use Rattle.object_rows.specs.Rows.{filespaces_cleared}
use Rattle.object_rows.specs.SpaceNames.{BuildsNames, Puts, Takes}
use Rattle.object_rows.proofs.Builds.{Progress, begin, built, finish, not_built, step_one, stop_one}
use Rattle.object_rows.proofs.IndexLaws.{index-back, index-fewer, index-more}
use Rattle.object_rows.proofs.Splices.{Splices, splice_new, splice_remove, splice_same, splice_set}
use Rattle.object_rows.proofs.Stands.{at-eqb, at_itself, same_number}
use Rattle.object_rows.proofs.Steps.{Within, within}

-- what a call leaves as it was in a part, is left so in the whole
pub kept_so : {A X Y : Type 0} (r : Result A Refusal) (was now : X) (old new : Y) → (now ≡ was → new ≡ old) → IfErr r (λ e. (e ≡ Memory) × (now ≡ was)) → IfErr r (λ e. (e ≡ Memory) × (new ≡ old))
kept_so (Ok x) was now old new so h = h
kept_so (Err e) was now old new so h = (h.0, so h.1)

-- ---- a filespace is named at its own node, and at no other
own : (n : ℕ) (f : Filespace) → name_in f.node n f ≡ (f.name, n) ∷ []
own n f = ap (λ b. cond b ((f.name, n) ∷ []) []) (sym (at-eqb f.node f.node) ∙ at_itself f.node)

number_flips : (n m : ℕ) → at_number n m ≡ at_number m n
number_flips n m = go (at_number n m) (at_number m n) refl refl where
  go : (a b : Bool) → at_number n m ≡ a → at_number m n ≡ b → at_number n m ≡ at_number m n
  go true b same h = same ∙ sym (ap (at_number m) (same_number n m same) ∙ at_itself m)
  go false true apart same = ap (at_number n) (same_number m n same) ∙ at_itself n ∙ sym same
  go false false apart h = apart ∙ sym h

another : (node n : ℕ) (f : Filespace) → at_number f.node node ≡ false → name_in node n f ≡ []
another node n f apart = ap (λ b. cond b ((f.name, n) ∷ []) []) (sym (at-eqb node f.node) ∙ number_flips node f.node ∙ apart)

-- what holds at a filespace's node, and at each other node, holds at each
at_each : (P : ℕ → Type 0) (n : ℕ) → P n → ((m : ℕ) → at_number n m ≡ false → P m) → (m : ℕ) → P m
at_each P n here others m = go (at_number n m) refl where
  go : (b : Bool) → at_number n m ≡ b → P m
  go true same = subst P (same_number n m same) here
  go false apart = others m apart

-- ---- a filespace is defined or deleted
pub spaces_put : (spaces more : List (ℕ × List (List ℕ × ℕ))) (fs new : List (ℕ × Filespace)) (n : ℕ) (f : Filespace) → SpacesIndexed spaces fs → lookup (at_name f.name) (named_of f.node fs) ≡ None → filespace_at n fs ≡ None
    → new ≡ insert_entry nat_cmp fs n f → Puts f.node f.name n spaces more → SpacesIndexed more new
spaces_put spaces more fs new n f i unnamed free entries put = record {
  index = at_each (λ m. IsIndex (slice_cmp nat_cmp) (names_at m more) (named_of m new)) f.node
      (index-more nat_list_cmp_total (f.name, n) (names_at f.node spaces) (names_at f.node more) (named_of f.node fs) (named_of f.node new) (i.index f.node)
      ((i.index f.node).found f.name ∙ unnamed)
      (subst (λ (t : List (ℕ × Filespace)). Splices [] ((f.name, n) ∷ []) (named_of f.node fs) (named_of f.node t)) (sym entries)
      (subst (λ (t : List (List ℕ × ℕ)). Splices [] t (named_of f.node fs) (named_of f.node (insert_entry nat_cmp fs n f))) (own n f) (splice_new (name_in f.node) nat_cmp n f fs free)))
      put.here.found (lookup (at_name f.name) (names_at f.node spaces)) refl put.here.count)
      (λ m apart.
      let same : named_of m new ≡ named_of m fs =
      ap (named_of m) entries ∙ splice_same (subst (λ (t : List (List ℕ × ℕ)). Splices [] t (named_of m fs) (named_of m (insert_entry nat_cmp fs n f))) (another m n f apart) (splice_new (name_in m) nat_cmp n f fs free)) in
      subst (λ (t : List (List ℕ × ℕ)). IsIndex (slice_cmp nat_cmp) t (named_of m new)) (sym (put.others m apart))
      (subst (IsIndex (slice_cmp nat_cmp) (names_at m spaces)) (sym same) (i.index m)));
}

pub spaces_taken : (spaces fewer : List (ℕ × List (List ℕ × ℕ))) (fs new : List (ℕ × Filespace)) (n : ℕ) (f : Filespace) → SpacesIndexed spaces fs → filespace_at n fs ≡ Some f
    → new ≡ remove_entry (at_number n) fs → Takes f.node f.name spaces fewer → SpacesIndexed fewer new
spaces_taken spaces fewer fs new n f i there entries take = record {
  index = at_each (λ m. IsIndex (slice_cmp nat_cmp) (names_at m fewer) (named_of m new)) f.node
      (let s : (k : ℕ) × (at_number n k ≡ true) × Splices (name_in f.node k f) [] (named_of f.node fs) (named_of f.node (remove_entry (at_number n) fs)) = splice_remove (name_in f.node) (at_number n) fs f there in
      index-fewer nat_list_cmp_total (f.name, n) (names_at f.node spaces) (names_at f.node fewer) (named_of f.node fs) (named_of f.node new) (i.index f.node)
      (subst (λ (t : List (ℕ × Filespace)). Splices ((f.name, n) ∷ []) [] (named_of f.node fs) (named_of f.node t)) (sym entries)
      (subst (λ (k : ℕ). Splices ((f.name, k) ∷ []) [] (named_of f.node fs) (named_of f.node (remove_entry (at_number n) fs))) (sym (same_number n s.0 s.1))
      (subst (λ (t : List (List ℕ × ℕ)). Splices t [] (named_of f.node fs) (named_of f.node (remove_entry (at_number n) fs))) (own s.0 f) s.2)))
      take.here.found (lookup (at_name f.name) (names_at f.node spaces)) refl take.here.count)
      (λ m apart.
      let s : (k : ℕ) × (at_number n k ≡ true) × Splices (name_in m k f) [] (named_of m fs) (named_of m (remove_entry (at_number n) fs)) = splice_remove (name_in m) (at_number n) fs f there in
      let same : named_of m new ≡ named_of m fs =
      ap (named_of m) entries ∙ splice_same (subst (λ (t : List (List ℕ × ℕ)). Splices t [] (named_of m fs) (named_of m (remove_entry (at_number n) fs))) (another m s.0 f apart) s.2) in
      subst (λ (t : List (List ℕ × ℕ)). IsIndex (slice_cmp nat_cmp) t (named_of m new)) (sym (take.others m apart))
      (subst (IsIndex (slice_cmp nat_cmp) (names_at m spaces)) (sym same) (i.index m)));
}

-- a name that was put into the index and is taken out again
pub spaces_back : (spaces more fewer : List (ℕ × List (List ℕ × ℕ))) (fs : List (ℕ × Filespace)) (node : ℕ) (name : List ℕ) (n : ℕ) → SpacesIndexed spaces fs → lookup (at_name name) (named_of node fs) ≡ None
    → Puts node name n spaces more → Takes node name more fewer → SpacesIndexed fewer fs
spaces_back spaces more fewer fs node name n i unnamed put take = record {
  index = at_each (λ m. IsIndex (slice_cmp nat_cmp) (names_at m fewer) (named_of m fs)) node
      (index-back nat_list_cmp_total (name, n) (names_at node spaces) (names_at node more) (names_at node fewer) (named_of node fs) (i.index node) ((i.index node).found name ∙ unnamed)
      put.here.found (lookup (at_name name) (names_at node spaces)) refl put.here.count
      take.here.found (lookup (at_name name) (names_at node more)) refl take.here.count)
      (λ m apart. subst (λ (t : List (List ℕ × ℕ)). IsIndex (slice_cmp nat_cmp) t (named_of m fs)) (sym (take.others m apart ∙ put.others m apart)) (i.index m));
}

-- ---- filespaces keep their nodes and names
pub spaces_same : (spaces : List (ℕ × List (List ℕ × ℕ))) (fs new : List (ℕ × Filespace)) → ((m : ℕ) → named_of m new ≡ named_of m fs) → SpacesIndexed spaces fs → SpacesIndexed spaces new
spaces_same spaces fs new same i = record { index = λ m. subst (IsIndex (slice_cmp nat_cmp) (names_at m spaces)) (sym (same m)) (i.index m) }

named-within : (m n : ℕ) (by : List (List ℕ × Group) → Result (List (List ℕ × Group)) Refusal) (fs new : List (ℕ × Filespace)) → Within n by fs new → named_of m new ≡ named_of m fs
named-within m n by fs new w =
    let f : Filespace = record w.filespace { groups = w.groups } in
    let s : (k : ℕ) × (at_number n k ≡ true) × Splices (name_in m k w.filespace) (name_in m k f) (named_of m fs) (named_of m (set_value (at_number n) fs f)) = splice_set (name_in m) (at_number n) fs w.filespace f w.there in
    ap (named_of m) (sym w.becomes) ∙ splice_same s.2

named-in : (n : ℕ) (by : List (List ℕ × Group) → Result (List (List ℕ × Group)) Refusal) (fs new : List (ℕ × Filespace)) → in_filespace n by fs ≡ Ok new → (m : ℕ) → named_of m new ≡ named_of m fs
named-in n by fs new h m = named-within m n by fs new (within n by fs new h)

named-copied : (k : ℕ) (copies : List CopyRow) (fs : List (ℕ × Filespace)) (m : ℕ) → named_of m (filespaces_copied k copies fs) ≡ named_of m fs
named-copied k copies [] m = refl
named-copied k copies (e ∷ fs) m = ap (λ t. name_in m e.0 e.1 ++ t) (named-copied k copies fs m)

named-altered : (k : ℕ) (change : CopyChange) (fs new : List (ℕ × Filespace)) → filespaces_altered k change fs ≡ Ok new → (m : ℕ) → named_of m new ≡ named_of m fs
named-altered k change fs new h m = go (version_of k (versions_of fs)) h where
  copied : (r : Result (List CopyRow) Refusal) → on_ok (λ copies. filespaces_copied k copies fs) r ≡ Ok new → named_of m new ≡ named_of m fs
  copied (Ok copies) t = let same : filespaces_copied k copies fs ≡ new = cc in ap (named_of m) (sym same) ∙ named-copied k copies fs m
  copied (Err e) t = absurd (cc)

  go : (o : Option Version) → if_found o (λ v. on_ok (λ copies. filespaces_copied k copies fs) (copies_after change v.copies)) ≡ Ok new → named_of m new ≡ named_of m fs
  go None t = absurd (cc)
  go (Some v) t = copied (copies_after change v.copies) t

named-cleared : (k : ℕ) (o : Option Place) (fs new : List (ℕ × Filespace)) → filespaces_cleared k o fs ≡ Ok new → (m : ℕ) → named_of m new ≡ named_of m fs
named-cleared k None fs new h m = absurd (cc)
named-cleared k (Some place) fs new h m = named-in place.filespace (groups_after place.path (Remove k)) fs new h m

-- so the index is right after each of these changes
kept : (spaces : List (ℕ × List (List ℕ × ℕ))) (fs new : List (ℕ × Filespace)) (said : Result (List (ℕ × Filespace)) Refusal) → (said ≡ Ok new → (m : ℕ) → named_of m new ≡ named_of m fs) → (new ≡ fs) ⊎ (said ≡ Ok new) → SpacesIndexed spaces fs → SpacesIndexed spaces new
kept spaces fs new said same h i = ⊎_elim (λ stays. subst (SpacesIndexed spaces) (sym stays) i) (λ t. spaces_same spaces fs new (same t) i) h

pub spaces_with : (spaces : List (ℕ × List (List ℕ × ℕ))) (n : ℕ) (path class : List ℕ) (v : Version) (fs new : List (ℕ × Filespace)) → (new ≡ fs) ⊎ (filespaces_with n path class v fs ≡ Ok new) → SpacesIndexed spaces fs → SpacesIndexed spaces new
spaces_with spaces n path class v fs new h i = kept spaces fs new (filespaces_with n path class v fs) (named-in n (λ groups. Ok (groups_with path class v groups)) fs new) h i

pub spaces_after : (spaces : List (ℕ × List (List ℕ × ℕ))) (n : ℕ) (path : List ℕ) (change : GroupChange) (fs new : List (ℕ × Filespace)) → (new ≡ fs) ⊎ (filespaces_after n path change fs ≡ Ok new) → SpacesIndexed spaces fs → SpacesIndexed spaces new
spaces_after spaces n path change fs new h i = kept spaces fs new (filespaces_after n path change fs) (named-in n (groups_after path change) fs new) h i

pub spaces_cleared : (spaces : List (ℕ × List (List ℕ × ℕ))) (k : ℕ) (o : Option Place) (fs new : List (ℕ × Filespace)) → (new ≡ fs) ⊎ (filespaces_cleared k o fs ≡ Ok new) → SpacesIndexed spaces fs → SpacesIndexed spaces new
spaces_cleared spaces k o fs new h i = kept spaces fs new (filespaces_cleared k o fs) (named-cleared k o fs new) h i

pub spaces_altered : (spaces : List (ℕ × List (List ℕ × ℕ))) (k : ℕ) (change : CopyChange) (fs new : List (ℕ × Filespace)) → (new ≡ fs) ⊎ (filespaces_altered k change fs ≡ Ok new) → SpacesIndexed spaces fs → SpacesIndexed spaces new
spaces_altered spaces k change fs new h i = kept spaces fs new (filespaces_altered k change fs) (named-altered k change fs new) h i

-- a node for which the index has no name has no filespace
no_number : (xs : List (List ℕ × ℕ)) → length xs ≡ 0 → None ≡ first_number xs
no_number [] h = refl
no_number (x ∷ xs) h = absurd (cc)

pub no_filespace : (spaces : List (ℕ × List (List ℕ × ℕ))) (fs : List (ℕ × Filespace)) (node : ℕ) → SpacesIndexed spaces fs → length (names_at node spaces) ≡ 0 → None ≡ filespace_of node fs
no_filespace spaces fs node i none = no_number (named_of node fs) (sym (i.index node).count ∙ none)

-- ---- the index is built
pub names_step : (old now more : List (ℕ × List (List ℕ × ℕ))) (all rest : List (ℕ × Filespace)) (e : ℕ × Filespace) → ((m : ℕ) → Progress (slice_cmp nat_cmp) (names_at m old) (names_at m now) (named_of m all) (named_of m (e ∷ rest)))
    → lookup (at_name e.1.name) (names_at e.1.node now) ≡ None → Puts e.1.node e.1.name e.0 now more → (m : ℕ) → Progress (slice_cmp nat_cmp) (names_at m old) (names_at m more) (named_of m all) (named_of m rest)
names_step old now more all rest e p fresh put =
    at_each (λ m. Progress (slice_cmp nat_cmp) (names_at m old) (names_at m more) (named_of m all) (named_of m rest)) e.1.node
    (step_one nat_list_cmp_total (e.1.name, e.0) (names_at e.1.node old) (names_at e.1.node now) (names_at e.1.node more) (named_of e.1.node all) (named_of e.1.node rest)
    (subst (λ (t : List (List ℕ × ℕ)). Progress (slice_cmp nat_cmp) (names_at e.1.node old) (names_at e.1.node now) (named_of e.1.node all) (t ++ named_of e.1.node rest)) (own e.0 e.1) (p e.1.node))
    fresh put.here.found (lookup (at_name e.1.name) (names_at e.1.node now)) refl put.here.count)
    (λ m apart.
    subst (λ (t : List (List ℕ × ℕ)). Progress (slice_cmp nat_cmp) (names_at m old) t (named_of m all) (named_of m rest)) (sym (put.others m apart))
    (subst (λ (t : List (List ℕ × ℕ)). Progress (slice_cmp nat_cmp) (names_at m old) (names_at m now) (named_of m all) (t ++ named_of m rest)) (another m e.0 e.1 apart) (p m)))

pub names_stop : (old now : List (ℕ × List (List ℕ × ℕ))) (all rest : List (ℕ × Filespace)) (e : ℕ × Filespace) → ((m : ℕ) → Progress (slice_cmp nat_cmp) (names_at m old) (names_at m now) (named_of m all) (named_of m (e ∷ rest)))
    → is_some (lookup (at_name e.1.name) (names_at e.1.node now)) ≡ true → BuildsNames (Ok false) old now all
names_stop old now all rest e p there = (
  e.1.node,
  stop_one nat_list_cmp_total (e.1.name, e.0) (names_at e.1.node old) (names_at e.1.node now) (named_of e.1.node all) (named_of e.1.node rest)
      (subst (λ (t : List (List ℕ × ℕ)). Progress (slice_cmp nat_cmp) (names_at e.1.node old) (names_at e.1.node now) (named_of e.1.node all) (t ++ named_of e.1.node rest)) (own e.0 e.1) (p e.1.node))
      there,
)

pub names_begin : (old : List (ℕ × List (List ℕ × ℕ))) (all : List (ℕ × Filespace)) (m : ℕ) → Progress (slice_cmp nat_cmp) (names_at m old) (names_at m old) (named_of m all) (named_of m all)
names_begin old all m = begin (slice_cmp nat_cmp) (names_at m old) (named_of m all)

pub names_finish : (old now : List (ℕ × List (List ℕ × ℕ))) (all rest : List (ℕ × Filespace)) → ((m : ℕ) → Progress (slice_cmp nat_cmp) (names_at m old) (names_at m now) (named_of m all) (named_of m rest)) → rest ≡ [] → BuildsNames (Ok true) old now all
names_finish old now all rest p ends =
    λ m. finish (slice_cmp nat_cmp) (names_at m old) (names_at m now) (named_of m all) (subst (λ (t : List (ℕ × Filespace)). Progress (slice_cmp nat_cmp) (names_at m old) (names_at m now) (named_of m all) (named_of m t)) ends (p m))

-- an index that is built from nothing
pub names_built : (b : Bool) (old new : List (ℕ × List (List ℕ × ℕ))) (fs : List (ℕ × Filespace)) → BuildsNames (Ok b) old new fs → old ≡ [] → b ≡ true → SpacesIndexed new fs
names_built true old new fs h empty is = record { index = λ m. built (slice_cmp nat_cmp) true (names_at m old) (names_at m new) (named_of m fs) (h m) (ap (names_at m) empty) refl }
names_built false old new fs h empty is = absurd (cc)

pub names_not_built : (b : Bool) (old new : List (ℕ × List (List ℕ × ℕ))) (fs : List (ℕ × Filespace)) → BuildsNames (Ok b) old new fs → old ≡ [] → b ≡ false → ((m : ℕ) → AreDistinct (slice_cmp nat_cmp) (named_of m fs)) → ⊥
names_not_built true old new fs h empty is d = absurd (cc)
names_not_built false old new fs h empty is d = not_built (slice_cmp nat_cmp) false (names_at h.0 old) (names_at h.0 new) (named_of h.0 fs) h.1 (ap (names_at h.0) empty) refl (d h.0)
