-- Each group has a version, after each change; what orderly groups are.
use Rattle.std.proofs.Common.{◌≡◌, ℕ, Bool, true, false, cond, not, List, [], ◌∷◌, Option, Some, None, Ordering, Result, Ok, Err, refl, sym, ap, ◌∙◌, ⊎_elim}
use Rattle.std.proofs.lemmas.Bool.{and_from, and_parts}
use Rattle.std.specs.BTreeMap.{insert_entry}
use Rattle.std.specs.Cmp.Lexicographic.{slice_cmp}
use Rattle.std.specs.List.{list_all}
use Rattle.std.specs.Map.{lookup, remove_entry, set_value}
use Rattle.std.specs.Ordering.{match_ordering, nat_cmp}
use Rattle.std.specs.declared.cmp.Ordering.TheVariants.{Less, Equal, Greater}
use Rattle.version_groups.specs.kinds.Answers.{Becomes, Makes}
use Rattle.version_groups.specs.kinds.declared.refusal.Refusal.{Refusal}
use Rattle.version_groups.specs.declared.copies.CopyChange.{CopyChange}
use Rattle.version_groups.specs.declared.copies.CopyRow.{CopyRow}
use Rattle.version_groups.specs.declared.group.Group.{Group}
use Rattle.version_groups.specs.declared.group.GroupChange.{GroupChange}
use Rattle.version_groups.specs.declared.groups.Filespace.{Filespace}
use Rattle.version_groups.specs.declared.versions.Version.{Version}
use Rattle.version_groups.specs.Copies.{Alters, copies_after}
use Rattle.version_groups.specs.Entries.{on_ok, if_found}
use Rattle.version_groups.specs.Groups.{at_path, class_after, group_altered, group_at, group_with, groups_after, groups_altered, groups_with, versions_after, versions_in}
use Rattle.version_groups.specs.Versions.{is_empty, version_of, with_copies}
use Rattle.version_groups.proofs.Laws.{AfterIs, after-is}
use Rattle.version_groups.proofs.Maps.{lookup-set}
use Rattle.object_rows.specs.Places.{AreAllOrderly, PathsAscend, are_all_full, are_full}
use Rattle.object_rows.proofs.Answered.{altered, became, made}

module _ {K X : Type 0} (p : X → Bool) where
  -- each value passes
  abbrev pub all : List (K × X) → Bool
  all es = list_all (λ e. p e.1) es

  pub all-insert_entry : (R : K → K → Ordering) (es : List (K × X)) (k : K) (v : X) → all es ≡ true → p v ≡ true → all (insert_entry R es k v) ≡ true
  all-insert_entry R [] k v a h = and_from (p v) true h refl
  all-insert_entry R (e ∷ es) k v a h =
      let ps : (p e.1 ≡ true) × (all es ≡ true) = and_parts (p e.1) (all es) a in
      elim (R k e.0) as (λ r. all (match_ordering r ((k, v) ∷ e ∷ es) ((e.0, v) ∷ es) (e ∷ insert_entry R es k v)) ≡ true) [
        | Less ↦ and_from (p v) (all (e ∷ es)) h a
        | Equal ↦ and_from (p v) (all es) h ps.1
        | Greater ↦ and_from (p e.1) (all (insert_entry R es k v)) ps.0 (all-insert_entry R es k v ps.1 h)
      ]

  pub all-set_value : (test : K → Bool) (es : List (K × X)) (v : X) → all es ≡ true → p v ≡ true → all (set_value test es v) ≡ true
  all-set_value test [] v a h = a
  all-set_value test (e ∷ es) v a h =
      let ps : (p e.1 ≡ true) × (all es ≡ true) = and_parts (p e.1) (all es) a in
      elim (test e.0) as (λ b. all (cond b ((e.0, v) ∷ es) (e ∷ set_value test es v)) ≡ true) [
        | true ↦ and_from (p v) (all es) h ps.1
        | false ↦ and_from (p e.1) (all (set_value test es v)) ps.0 (all-set_value test es v ps.1 h)
      ]

  -- a value that is set and goes
  pub all-remove_set : (test : K → Bool) (es : List (K × X)) (v : X) → all es ≡ true → all (remove_entry test (set_value test es v)) ≡ true
  all-remove_set test [] v a = a
  all-remove_set test (e ∷ es) v a =
      let ps : (p e.1 ≡ true) × (all es ≡ true) = and_parts (p e.1) (all es) a in
      elim (test e.0) as (λ b. test e.0 ≡ b → all (remove_entry test (cond b ((e.0, v) ∷ es) (e ∷ set_value test es v))) ≡ true) [
        | true ↦ λ yes. ap (λ b. all (cond b es ((e.0, v) ∷ remove_entry test es))) yes ∙ ps.1
        | false ↦ λ no. ap (λ b. all (cond b (set_value test es v) (e ∷ remove_entry test (set_value test es v)))) no ∙ and_from (p e.1) (all (remove_entry test (set_value test es v))) ps.0 (all-remove_set test es v ps.1)
      ] refl

  pub all-lookup : (test : K → Bool) (es : List (K × X)) (x : X) → all es ≡ true → lookup test es ≡ Some x → p x ≡ true
  all-lookup test [] x a h = absurd (cc)
  all-lookup test (e ∷ es) x a h =
      let ps : (p e.1 ≡ true) × (all es ≡ true) = and_parts (p e.1) (all es) a in
      elim (test e.0) as (λ b. cond b (Some e.1) (lookup test es) ≡ Some x → p x ≡ true) [
        | true ↦ λ t. let same : e.1 ≡ x = cc in ap p (sym same) ∙ ps.0
        | false ↦ λ t. all-lookup test es x ps.1 t
      ] h

full_with : (path class : List ℕ) (v : Version) (groups : List (List ℕ × Group)) → are_full groups ≡ true → are_full (groups_with path class v groups) ≡ true
full_with path class v groups a =
    all-insert_entry (λ (g : Group). not (is_empty g.versions)) (slice_cmp nat_cmp) groups path (group_with class v (group_at path groups)) a
    (elim (group_at path groups) as (λ o. not (is_empty (group_with class v o).versions) ≡ true) [ None ↦ refl | Some g ↦ refl ])

full_after : (path : List ℕ) (change : GroupChange) (groups new : List (List ℕ × Group)) → groups_after path change groups ≡ Ok new → are_full groups ≡ true → are_full new ≡ true
full_after path change groups new h a =
    let w : AfterIs path change groups new = after-is path change groups new h in
    let g : Group = record { class = class_after change w.0.class; versions = versions_after change w.0.versions } in
    let found : group_at path (set_value (at_path path) groups g) ≡ Some g = lookup-set (at_path path) w.0 g groups w.1 in
    ap are_full (sym w.3)
    ∙ ap (λ (o : Option Group). are_full (cond (is_empty (versions_in o)) (remove_entry (at_path path) (set_value (at_path path) groups g)) (set_value (at_path path) groups g))) found
    ∙ elim (is_empty g.versions) as (λ b. is_empty g.versions ≡ b → are_full (cond b (remove_entry (at_path path) (set_value (at_path path) groups g)) (set_value (at_path path) groups g)) ≡ true) [
      | true ↦ λ _. all-remove_set (λ (x : Group). not (is_empty x.versions)) (at_path path) groups g a
      | false ↦ λ some. all-set_value (λ (x : Group). not (is_empty x.versions)) (at_path path) groups g a (ap not some)
    ] refl

empty-with_copies : (k : ℕ) (copies : List CopyRow) (vs : List Version) → is_empty (with_copies k copies vs) ≡ is_empty vs
empty-with_copies k copies [] = refl
empty-with_copies k copies (v ∷ vs) = refl

full_altered : (path : List ℕ) (k : ℕ) (change : CopyChange) (groups new : List (List ℕ × Group)) → groups_altered path k change groups ≡ Ok new → are_full groups ≡ true → are_full new ≡ true
full_altered path k change groups new h a =
    elim (group_at path groups) as (λ o. group_at path groups ≡ o → if_found o (λ g. on_ok (set_value (at_path path) groups) (group_altered k change g)) ≡ Ok new → are_full new ≡ true) [
      | None ↦ λ _ t. absurd (cc)
      | Some g ↦ λ there.
          elim (version_of k g.versions) as (λ o. on_ok (set_value (at_path path) groups) (on_ok (λ versions. record g { versions = versions }) (if_found o (λ v. on_ok (λ copies. with_copies k copies g.versions) (copies_after change v.copies)))) ≡ Ok new → are_full new ≡ true) [
            | None ↦ λ t. absurd (cc)
            | Some v ↦ elim (copies_after change v.copies) as (λ r. on_ok (set_value (at_path path) groups) (on_ok (λ versions. record g { versions = versions }) (on_ok (λ copies. with_copies k copies g.versions) r)) ≡ Ok new → are_full new ≡ true) [
              | Ok copies ↦ λ t.
                  let same : set_value (at_path path) groups (record g { versions = with_copies k copies g.versions }) ≡ new = cc in
                  ap are_full (sym same)
                  ∙ all-set_value (λ (x : Group). not (is_empty x.versions)) (at_path path) groups (record g { versions = with_copies k copies g.versions }) a
                  (ap not (empty-with_copies k copies g.versions) ∙ all-lookup (λ (x : Group). not (is_empty x.versions)) (at_path path) groups g a there)
              | Err e ↦ λ t. absurd (cc)
            ]
          ]
    ] refl h

pub full_put : {A : Type 0} (r : Result A Refusal) (path class : List ℕ) (v : Version) (groups new : List (List ℕ × Group)) → Becomes {A = A} r groups new (Ok (groups_with path class v groups)) → are_full groups ≡ true → are_full new ≡ true
full_put r path class v groups new h a =
    ⊎_elim (λ stays. ap are_full stays ∙ a) (λ said. let same : groups_with path class v groups ≡ new = cc in ap are_full (sym same) ∙ full_with path class v groups a) (became r groups new (Ok (groups_with path class v groups)) h)

pub full_change : {A : Type 0} (r : Result A Refusal) (path : List ℕ) (change : GroupChange) (groups new : List (List ℕ × Group)) → Makes {A = A} r groups new (groups_after path change groups) → are_full groups ≡ true → are_full new ≡ true
full_change r path change groups new h a =
    ⊎_elim (λ stays. ap are_full stays ∙ a) (λ said. full_after path change groups new said a) (made r groups new (groups_after path change groups) h)

pub full_alter : {A : Type 0} (change : CopyChange) (r : Result A Refusal) (path : List ℕ) (k : ℕ) (groups new : List (List ℕ × Group)) → Alters {A = A} change r groups new (groups_altered path k change groups) → are_full groups ≡ true → are_full new ≡ true
full_alter change r path k groups new h a =
    ⊎_elim (λ stays. ap are_full stays ∙ a) (λ said. full_altered path k change groups new said a) (altered change r groups new (groups_altered path k change groups) h)

pub full_from : (fs : List (ℕ × Filespace)) → AreAllOrderly fs → are_all_full fs ≡ true
full_from [] a = refl
full_from (f ∷ fs) a = and_from (are_full f.1.groups) (are_all_full fs) a.0.1 (full_from fs a.1)

pub paths_from : (fs : List (ℕ × Filespace)) → AreAllOrderly fs → PathsAscend fs
paths_from [] a = tt
paths_from (f ∷ fs) a = (a.0.0, paths_from fs a.1)
