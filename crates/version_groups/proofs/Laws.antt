-- What the changes of the groups leave at each path, and how many versions there are afterwards.
use Rattle.std.proofs.Common.{◌≡◌, ◌⊎◌, ℕ, ◌+◌, suc, Bool, true, false, cond, eqb, not, ◌||◌, List, [], ◌∷◌, length, Option, Some, None, IsSome, Ordering, Result, Ok, Err, sum_by, refl, sym, ap, subst, ◌∙◌, arith, ⊎_elim}
use Rattle.std.proofs.lemmas.Bool.{false≢true, eqb-true, and_parts, or_parts, not-true, not_from_false, cases_Bool}
use Rattle.std.proofs.lemmas.Map.{lookup-set_value, lookup-remove_entry, keys-set_value}
use Rattle.std.proofs.lemmas.Map.Entries.{sum_by-insert_entry, sum_by-set_value, sum_by-remove_entry}
use Rattle.std.proofs.lemmas.Map.Keys.{IsDistinct-from_sorted}
use Rattle.std.proofs.lemmas.Map.Lookups.{exact_bytes}
use Rattle.std.proofs.lemmas.Map.Steps.{set_value_same}
use Rattle.std.specs.BTreeMap.{is_at, insert_entry}
use Rattle.std.specs.Cmp.{IsTotalOrder, IsEquivalence, eq_by_cmp_equiv, tied_itself}
use Rattle.std.specs.Cmp.Lexicographic.{slice_cmp, nat_list_cmp_total}
use Rattle.std.specs.List.{list_any}
use Rattle.std.specs.List.Sorted.{IsStrictlySortedBy}
use Rattle.std.specs.Map.{lookup, set_value, remove_entry, keys_of, values_of}
use Rattle.std.specs.Option.{unwrap_or, option_map}
use Rattle.std.specs.Ordering.{is_eq, match_ordering, nat_cmp, eq_by_cmp}
use Rattle.std.specs.declared.cmp.Ordering.TheVariants.{Less, Equal, Greater}
use Rattle.kinds.specs.Answers.{Becomes, Makes}
use Rattle.std.specs.Result.{OnOk}
use Rattle.kinds.specs.declared.refusal.Refusal.{Refusal}
use Rattle.kinds.specs.declared.refusal.Refusal.TheVariants.{NotFound}
use Rattle.version_groups.specs.declared.copies.CopyRow.{CopyRow}
use Rattle.version_groups.specs.declared.copies.CopyChange.{CopyChange}
use Rattle.version_groups.specs.declared.group.Group.{Group}
use Rattle.version_groups.specs.declared.group.GroupChange.{GroupChange}
use Rattle.version_groups.specs.declared.group.GroupChange.TheVariants.{Gone, Remove, Rebind, Undo}
use Rattle.version_groups.specs.declared.versions.Version.{Version}
use Rattle.version_groups.specs.Copies.{copies_after}
use Rattle.version_groups.specs.Entries.{on_ok, if_found, changed_at}
use Rattle.version_groups.specs.Versions.{is_empty, has_object, are_distinct, has_active, superseded, revived, undone, without_object, with_copies, having_copies, version_of, versions_altered}
use Rattle.version_groups.specs.Groups.{AreByPath, TakesAway, WasSo, UndoGivesBack, VersionsBecome, ObjectsStay, at_path, count_of, class_after, names_kept, group_after, group_altered, group_at, group_with, groups_after, groups_altered, groups_with, taken, versions_after, versions_at, versions_in, without_empty}
use Rattle.version_groups.proofs.Lists.{are_of_others}
use Rattle.version_groups.proofs.Maps.{insert_present, lookup-set, set-set, lookup-new, set-new, remove-new}

-- ---- one entry more
lookup-other : {K X : Type 0} {R : K → K → Ordering} (o : IsTotalOrder R) (k q : K) (v : X) (es : List (K × X)) → lookup (is_at (R k)) es ≡ None → lookup (is_at (R q)) (insert_entry R es k v) ≡ cond (is_at (R k) q) (Some v) (lookup (is_at (R q)) es)
lookup-other {K} {X} {R} o k q v [] h = ap (λ b. cond b (Some v) None) ((eq_by_cmp_equiv o).symm q k)
lookup-other {K} {X} {R} o k q v (e ∷ es) h =
    elim (R k e.0) as (λ r. R k e.0 ≡ r → cond (is_eq r) (Some e.1) (lookup (is_at (R k)) es) ≡ None
    → lookup (is_at (R q)) (match_ordering r ((k, v) ∷ e ∷ es) ((e.0, v) ∷ es) (e ∷ insert_entry R es k v)) ≡ cond (is_at (R k) q) (Some v) (lookup (is_at (R q)) (e ∷ es))) [
      | Less ↦ λ _ _. ap (λ b. cond b (Some v) (lookup (is_at (R q)) (e ∷ es))) ((eq_by_cmp_equiv o).symm q k)
      | Equal ↦ λ _ there. absurd (cc)
      | Greater ↦ λ above none.
          ap (λ t. cond (is_eq (R q e.0)) (Some e.1) t) (lookup-other o k q v es none)
          ∙ elim (is_eq (R k q)) as (λ b. is_eq (R k q) ≡ b → cond (is_eq (R q e.0)) (Some e.1) (cond b (Some v) (lookup (is_at (R q)) es)) ≡ cond b (Some v) (cond (is_eq (R q e.0)) (Some e.1) (lookup (is_at (R q)) es))) [
            | true ↦ λ same. ap (λ b. cond b (Some e.1) (Some v)) (sym ((eq_by_cmp_equiv o).congr k q e.0 same) ∙ ap is_eq above)
            | false ↦ λ _. refl
          ] refl
    ] refl h

-- ---- lists of versions
length-superseded : (day : ℕ) (vs : List Version) → length (superseded day vs) ≡ length vs
length-superseded day [] = refl
length-superseded day (v ∷ vs) = elim v.since as (λ s. length (superseded day (record v { since = s } ∷ vs)) ≡ length (v ∷ vs)) [ None ↦ refl | Some d ↦ refl ]

-- what was put in front and is undone leaves the versions as they were
undone-put : (v : Version) (vs : List Version) → undone (has_active vs) (v ∷ superseded v.stored vs) ≡ vs
undone-put v [] = refl
undone-put v (w ∷ ws) = elim w.since as (λ s. undone (has_active (record w { since = s } ∷ ws)) (v ∷ superseded v.stored (record w { since = s } ∷ ws)) ≡ record w { since = s } ∷ ws) [ None ↦ refl | Some d ↦ refl ]

-- ---- a version that is put
versions-put : (path class : List ℕ) (v : Version) (groups : List (List ℕ × Group)) → (group_with class v (group_at path groups)).versions ≡ v ∷ superseded v.stored (versions_at path groups)
versions-put path class v groups = elim (group_at path groups) as (λ o. (group_with class v o).versions ≡ v ∷ superseded v.stored (versions_in o)) [ None ↦ refl | Some g ↦ refl ]

versions-cond : (b : Bool) (g : Group) (o : Option Group) → versions_in (cond b (Some g) o) ≡ cond b g.versions (versions_in o)
versions-cond true g o = refl
versions-cond false g o = refl

one_path : (p x y : List ℕ) → at_path p x ≡ true → at_path p y ≡ eq_by_cmp (slice_cmp nat_cmp) x y
one_path p x y h = (eq_by_cmp_equiv nat_list_cmp_total).congr p x y h

-- after a value was set at a path
set-found : (path q : List ℕ) (g x : Group) (groups : List (List ℕ × Group)) → group_at path groups ≡ Some x → group_at q (set_value (at_path path) groups g) ≡ cond (at_path path q) (Some g) (group_at q groups)
set-found path q g x groups there = lookup-set_value (eq_by_cmp_equiv nat_list_cmp_total) (at_path path) (one_path path) q g groups (subst IsSome (sym there) refl)

put-found : (path q : List ℕ) (g : Group) (groups : List (List ℕ × Group)) → AreByPath groups → group_at q (insert_entry (slice_cmp nat_cmp) groups path g) ≡ cond (at_path path q) (Some g) (group_at q groups)
put-found path q g groups sorted =
    elim (group_at path groups) as (λ o. group_at path groups ≡ o → group_at q (insert_entry (slice_cmp nat_cmp) groups path g) ≡ cond (at_path path q) (Some g) (group_at q groups)) [
      | None ↦ λ none. lookup-other nat_list_cmp_total path q g groups none
      | Some x ↦ λ there. ap (group_at q) (insert_present nat_list_cmp_total path g x groups sorted there) ∙ set-found path q g x groups there
    ] refl

pub put-becomes : (path class : List ℕ) (v : Version) (groups : List (List ℕ × Group)) → AreByPath groups → VersionsBecome path (v ∷ superseded v.stored (versions_at path groups)) groups (groups_with path class v groups)
put-becomes path class v groups sorted q =
    ap versions_in (put-found path q (group_with class v (group_at path groups)) groups sorted)
    ∙ versions-cond (at_path path q) (group_with class v (group_at path groups)) (group_at q groups)
    ∙ ap (λ t. cond (at_path path q) t (versions_at q groups)) (versions-put path class v groups)

-- how many versions a path has
weighs : (o : Option Group) → unwrap_or (option_map (λ (g : Group). length g.versions) o) 0 ≡ length (versions_in o)
weighs None = refl
weighs (Some g) = refl

one_more : {m n : ℕ} → m ≡ n → suc m ≡ n + 1
one_more e = omega arith

pub put-counts : (path class : List ℕ) (v : Version) (groups : List (List ℕ × Group)) → AreByPath groups → count_of (groups_with path class v groups) ≡ count_of groups + 1
put-counts path class v groups sorted =
    let all : count_of (groups_with path class v groups) + unwrap_or (option_map (λ (g : Group). length g.versions) (group_at path groups)) 0 ≡ count_of groups + length (group_with class v (group_at path groups)).versions =
    sum_by-insert_entry (λ (g : Group). length g.versions) nat_list_cmp_total groups path (group_with class v (group_at path groups)) sorted in
    let here : unwrap_or (option_map (λ (g : Group). length g.versions) (group_at path groups)) 0 ≡ length (versions_at path groups) = weighs (group_at path groups) in
    let more : length (group_with class v (group_at path groups)).versions ≡ length (versions_at path groups) + 1 =
    ap length (versions-put path class v groups) ∙ one_more (length-superseded v.stored (versions_at path groups)) in
    omega arith

-- ---- a change of a group
nil : (vs : List Version) → is_empty vs ≡ true → vs ≡ []
nil [] h = refl
nil (v ∷ vs) h = absurd (false≢true h)

equal : (r : Ordering) → is_eq r ≡ true → r ≡ Equal
equal Less h = absurd (false≢true h)
equal Equal h = refl
equal Greater h = absurd (false≢true h)

-- an empty group has no versions, there or not
settled : (path q : List ℕ) (groups : List (List ℕ × Group)) → AreByPath groups → versions_at q (without_empty path groups) ≡ versions_at q groups
settled path q groups sorted =
    elim (is_empty (versions_at path groups)) as (λ b. is_empty (versions_at path groups) ≡ b → versions_at q (cond b (remove_entry (at_path path) groups) groups) ≡ versions_at q groups) [
      | true ↦ λ none.
          ap versions_in (lookup-remove_entry (eq_by_cmp_equiv nat_list_cmp_total) (at_path path) (one_path path) q groups (IsDistinct-from_sorted (slice_cmp nat_cmp) (keys_of groups) sorted))
          ∙ elim (at_path path q) as (λ b. at_path path q ≡ b → versions_in (cond b None (group_at q groups)) ≡ versions_at q groups) [
            | true ↦ λ here. sym (ap (λ p. versions_at p groups) (sym (exact_bytes path q (equal (slice_cmp nat_cmp path q) here))) ∙ nil (versions_at path groups) none)
            | false ↦ λ _. refl
          ] refl
      | false ↦ λ _. refl
    ] refl

counts-settled : (path : List ℕ) (groups : List (List ℕ × Group)) → count_of (without_empty path groups) ≡ count_of groups
counts-settled path groups =
    elim (is_empty (versions_at path groups)) as (λ b. is_empty (versions_at path groups) ≡ b → count_of (cond b (remove_entry (at_path path) groups) groups) ≡ count_of groups) [
      | true ↦ λ none.
          let all : count_of (remove_entry (at_path path) groups) + unwrap_or (option_map (λ (g : Group). length g.versions) (group_at path groups)) 0 ≡ count_of groups = sum_by-remove_entry (λ (g : Group). length g.versions) (at_path path) groups in
          let here : unwrap_or (option_map (λ (g : Group). length g.versions) (group_at path groups)) 0 ≡ 0 = weighs (group_at path groups) ∙ ap length (nil (versions_at path groups) none) in
          omega arith
      | false ↦ λ _. refl
    ] refl

abbrev pub AfterIs : List ℕ → GroupChange → List (List ℕ × Group) → List (List ℕ × Group) → Type 0
AfterIs path change groups new = (g : Group) × (group_at path groups ≡ Some g) × (names_kept change g.versions ≡ true)
    × (without_empty path (set_value (at_path path) groups (record { class = class_after change g.class; versions = versions_after change g.versions })) ≡ new)

-- what a change that isn't refused is
pub after-is : (path : List ℕ) (change : GroupChange) (groups new : List (List ℕ × Group)) → groups_after path change groups ≡ Ok new → AfterIs path change groups new
after-is path change groups new h =
    elim (group_at path groups) as (λ o. group_at path groups ≡ o → on_ok (without_empty path) (if_found o (λ g. on_ok (set_value (at_path path) groups) (group_after change g))) ≡ Ok new → AfterIs path change groups new) [
      | None ↦ λ _ e. absurd (cc)
      | Some g ↦ λ there. elim (names_kept change g.versions) as (λ b. names_kept change g.versions ≡ b
          → on_ok (without_empty path) (on_ok (set_value (at_path path) groups) (cond b (Ok (record { class = class_after change g.class; versions = versions_after change g.versions })) (Err NotFound))) ≡ Ok new → AfterIs path change groups new) [
            | true ↦ λ named e. (g, there, named, let same : without_empty path (set_value (at_path path) groups (record { class = class_after change g.class; versions = versions_after change g.versions })) ≡ new = cc in same)
            | false ↦ λ _ e. absurd (cc)
          ] refl
    ] refl h

pub after-becomes : (path : List ℕ) (change : GroupChange) (groups new : List (List ℕ × Group)) → AreByPath groups → groups_after path change groups ≡ Ok new → VersionsBecome path (versions_after change (versions_at path groups)) groups new
after-becomes path change groups new sorted h q =
    let w : AfterIs path change groups new = after-is path change groups new h in
    let g : Group = record { class = class_after change w.0.class; versions = versions_after change w.0.versions } in
    let es : List (List ℕ × Group) = set_value (at_path path) groups g in
    let in_order : AreByPath es = subst (IsStrictlySortedBy (slice_cmp nat_cmp)) (sym (keys-set_value (at_path path) groups g)) sorted in
    ap (versions_at q) (sym w.3) ∙ settled path q es in_order ∙ ap versions_in (set-found path q g w.0 groups w.1) ∙ versions-cond (at_path path q) g (group_at q groups)
    ∙ ap (λ (o : Option Group). cond (at_path path q) (versions_after change (versions_in o)) (versions_at q groups)) (sym w.1)

pub after-counts : (path : List ℕ) (change : GroupChange) (groups new : List (List ℕ × Group)) → groups_after path change groups ≡ Ok new → count_of new + length (versions_at path groups) ≡ count_of groups + length (versions_after change (versions_at path groups))
after-counts path change groups new h =
    let w : AfterIs path change groups new = after-is path change groups new h in
    let g : Group = record { class = class_after change w.0.class; versions = versions_after change w.0.versions } in
    let all : count_of (set_value (at_path path) groups g) + length w.0.versions ≡ count_of groups + length g.versions = sum_by-set_value (λ (x : Group). length x.versions) (at_path path) groups w.0 g w.1 in
    let same : count_of new ≡ count_of (set_value (at_path path) groups g) = ap count_of (sym w.3) ∙ counts-settled path (set_value (at_path path) groups g) in
    let before : length (versions_at path groups) ≡ length w.0.versions = ap (λ (o : Option Group). length (versions_in o)) w.1 in
    let behind : length (versions_after change (versions_at path groups)) ≡ length g.versions = ap (λ (o : Option Group). length (versions_after change (versions_in o))) w.1 in
    omega arith

-- ---- undoing what was put
undone_one : (active : Bool) (v : Version) → undone active (v ∷ []) ≡ []
undone_one true v = refl
undone_one false v = refl

pub put-undone : (path class : List ℕ) (v : Version) (groups : List (List ℕ × Group)) → AreByPath groups → UndoGivesBack path groups (groups_with path class v groups)
put-undone path class v groups sorted was active so =
    elim (group_at path groups) as (λ o. group_at path groups ≡ o → WasSo was active o → groups_after path (Undo was active) (insert_entry (slice_cmp nat_cmp) groups path (group_with class v o)) ≡ Ok groups) [
      | None ↦ λ none _.
          let g : Group = record { class = class; versions = v ∷ [] } in
          let e : Group = record { class = was; versions = [] } in
          ap (λ o. on_ok (without_empty path) (if_found o (λ x. on_ok (set_value (at_path path) (insert_entry (slice_cmp nat_cmp) groups path g)) (group_after (Undo was active) x)))) (lookup-new nat_list_cmp_total path g groups none)
          ∙ ap (λ b. on_ok (without_empty path) (on_ok (set_value (at_path path) (insert_entry (slice_cmp nat_cmp) groups path g)) (Ok (record { class = was; versions = b })))) (undone_one active v)
          ∙ ap (λ t. Ok (without_empty path t)) (set-new nat_list_cmp_total path g e groups none)
          ∙ ap (λ o. Ok (cond (is_empty (versions_in o)) (remove_entry (at_path path) (insert_entry (slice_cmp nat_cmp) groups path e)) (insert_entry (slice_cmp nat_cmp) groups path e))) (lookup-new nat_list_cmp_total path e groups none)
          ∙ ap Ok (remove-new nat_list_cmp_total path e groups none)
      | Some x ↦ λ there same.
          let g : Group = record { class = class; versions = v ∷ superseded v.stored x.versions } in
          let es : List (List ℕ × Group) = set_value (at_path path) groups g in
          let back : record { class = was; versions = undone active (v ∷ superseded v.stored x.versions) } ≡ x =
          ap (λ (n : List ℕ). record { class = n; versions = undone active (v ∷ superseded v.stored x.versions) }) same.0
          ∙ ap (λ (b : Bool). record { class = x.class; versions = undone b (v ∷ superseded v.stored x.versions) }) same.1
          ∙ ap (λ (vs : List Version). record { class = x.class; versions = vs }) (undone-put v x.versions) in
          ap (groups_after path (Undo was active)) (insert_present nat_list_cmp_total path g x groups sorted there)
          ∙ ap (λ o. on_ok (without_empty path) (if_found o (λ y. on_ok (set_value (at_path path) es) (group_after (Undo was active) y)))) (lookup-set (at_path path) x g groups there)
          ∙ ap (λ (y : Group). Ok (without_empty path (set_value (at_path path) es y))) back
          ∙ ap (λ t. Ok (without_empty path t)) (set-set (at_path path) g x groups ∙ set_value_same (at_path path) groups x there)
          ∙ ap (λ o. Ok (cond (is_empty (versions_in o)) (remove_entry (at_path path) groups) groups)) there
          ∙ ap (λ b. Ok (cond b (remove_entry (at_path path) groups) groups)) same.2
    ] refl so

-- ---- a change of copies
object_stays : (object : ℕ) (copies : List CopyRow) (v : Version) → (having_copies object copies v).object ≡ v.object
object_stays object copies v = elim (eqb v.object object) as (λ b. (cond {A = Version} b (record v { copies = copies }) v).object ≡ v.object) [ true ↦ refl | false ↦ refl ]

objects-with_copies : (n object : ℕ) (copies : List CopyRow) (vs : List Version) → has_object n (with_copies object copies vs) ≡ has_object n vs
objects-with_copies n object copies [] = refl
objects-with_copies n object copies (v ∷ vs) = ap (λ k. eqb k n || has_object n (with_copies object copies vs)) (object_stays object copies v) ∙ ap (λ t. eqb v.object n || t) (objects-with_copies n object copies vs)

length-with_copies : (object : ℕ) (copies : List CopyRow) (vs : List Version) → length (with_copies object copies vs) ≡ length vs
length-with_copies object copies [] = refl
length-with_copies object copies (v ∷ vs) = ap suc (length-with_copies object copies vs)

abbrev AlteredIs : List ℕ → ℕ → List (List ℕ × Group) → List (List ℕ × Group) → Type 0
AlteredIs path object groups new = (g : Group) × (group_at path groups ≡ Some g) × (copies : List CopyRow) × (set_value (at_path path) groups (record g { versions = with_copies object copies g.versions }) ≡ new)

altered-is : (path : List ℕ) (object : ℕ) (change : CopyChange) (groups new : List (List ℕ × Group)) → groups_altered path object change groups ≡ Ok new → AlteredIs path object groups new
altered-is path object change groups new h =
    elim (group_at path groups) as (λ o. group_at path groups ≡ o → if_found o (λ g. on_ok (set_value (at_path path) groups) (group_altered object change g)) ≡ Ok new → AlteredIs path object groups new) [
      | None ↦ λ _ e. absurd (cc)
      | Some g ↦ λ there. elim (version_of object g.versions) as (λ f.
          on_ok (set_value (at_path path) groups) (on_ok (λ (vs : List Version). record g { versions = vs }) (if_found f (λ v. on_ok (λ copies. with_copies object copies g.versions) (copies_after change v.copies)))) ≡ Ok new → AlteredIs path object groups new) [
            | None ↦ λ e. absurd (cc)
            | Some v ↦ elim (copies_after change v.copies) as (λ r.
                on_ok (set_value (at_path path) groups) (on_ok (λ (vs : List Version). record g { versions = vs }) (on_ok (λ copies. with_copies object copies g.versions) r)) ≡ Ok new → AlteredIs path object groups new) [
                  | Ok copies ↦ λ e. (g, there, copies, let same : set_value (at_path path) groups (record g { versions = with_copies object copies g.versions }) ≡ new = cc in same)
                  | Err r ↦ λ e. absurd (cc)
                ]
          ]
    ] refl h

pub altered-stays : (path : List ℕ) (object : ℕ) (change : CopyChange) (groups new : List (List ℕ × Group)) → groups_altered path object change groups ≡ Ok new → ObjectsStay groups new
altered-stays path object change groups new h q n =
    let w : AlteredIs path object groups new = altered-is path object change groups new h in
    let g : Group = record w.0 { versions = with_copies object w.2 w.0.versions } in
    ap (λ t. has_object n (versions_at q t)) (sym w.3)
    ∙ ap (λ o. has_object n (versions_in o)) (set-found path q g w.0 groups w.1)
    ∙ elim (at_path path q) as (λ b. at_path path q ≡ b → has_object n (versions_in (cond b (Some g) (group_at q groups))) ≡ has_object n (versions_at q groups)) [
      | true ↦ λ here.
          objects-with_copies n object w.2 w.0.versions
          ∙ ap (λ (o : Option Group). has_object n (versions_in o)) (sym w.1)
          ∙ ap (λ p. has_object n (versions_at p groups)) (exact_bytes path q (equal (slice_cmp nat_cmp path q) here))
      | false ↦ λ _. refl
    ] refl

pub altered-counts : (path : List ℕ) (object : ℕ) (change : CopyChange) (groups new : List (List ℕ × Group)) → groups_altered path object change groups ≡ Ok new → count_of new ≡ count_of groups
altered-counts path object change groups new h =
    let w : AlteredIs path object groups new = altered-is path object change groups new h in
    let g : Group = record w.0 { versions = with_copies object w.2 w.0.versions } in
    let all : count_of (set_value (at_path path) groups g) + length w.0.versions ≡ count_of groups + length g.versions = sum_by-set_value (λ (x : Group). length x.versions) (at_path path) groups w.0 g w.1 in
    let same : count_of new ≡ count_of (set_value (at_path path) groups g) = ap count_of (sym w.3) in
    let stays : length g.versions ≡ length w.0.versions = length-with_copies object w.2 w.0.versions in
    omega arith

-- ---- what holds of what is said holds of what comes of it
pub Becomes-ok : {A S : Type 0} (P : S → Type 0) (r : Result A Refusal) (old new said : S) → Becomes {A = A} r old new (Ok said) → P said → OnOk r (P new)
Becomes-ok P (Ok x) old new said h p = let same : said ≡ new = cc in subst P same p
Becomes-ok P (Err e) old new said h p = tt

pub Makes-ok : {A S : Type 0} (P : S → Type 0) (r : Result A Refusal) (old new : S) (said : Result S Refusal) → Makes {A = A} r old new said → ((x : S) → said ≡ Ok x → P x) → OnOk r (P new)
Makes-ok P (Ok x) old new said h p = p new h
Makes-ok P (Err e) old new said h p = tt

-- fewer versions, by those that are taken away
pub counts-taken : (path : List ℕ) (change : GroupChange) (groups new : List (List ℕ × Group)) → TakesAway change (versions_at path groups) → groups_after path change groups ≡ Ok new → count_of new + taken change (versions_at path groups) ≡ count_of groups
counts-taken path change groups new t h =
    let all : count_of new + length (versions_at path groups) ≡ count_of groups + length (versions_after change (versions_at path groups)) = after-counts path change groups new h in
    let left : length (versions_after change (versions_at path groups)) + taken change (versions_at path groups) ≡ length (versions_at path groups) = t in
    omega arith

-- none of the object's goes where all are of others
without-others : (object : ℕ) (vs : List Version) → are_of_others object vs ≡ true → without_object object vs ≡ vs
without-others object [] h = refl
without-others object (v ∷ vs) h =
    let hs : (not (eqb v.object object) ≡ true) × (are_of_others object vs ≡ true) = and_parts (not (eqb v.object object)) (are_of_others object vs) h in
    ap (λ b. cond b (v ∷ without_object object vs) (without_object object vs)) hs.0 ∙ ap (λ t. v ∷ t) (without-others object vs hs.1)

-- of versions of different objects the object's one goes
pub length-without_object : (object : ℕ) (vs : List Version) → are_distinct vs ≡ true → has_object object vs ≡ true → length (without_object object vs) + 1 ≡ length vs
length-without_object object [] d h = absurd (false≢true h)
length-without_object object (v ∷ vs) d h =
    let ds : (are_of_others v.object vs ≡ true) × (are_distinct vs ≡ true) = and_parts (are_of_others v.object vs) (are_distinct vs) d in
    elim (eqb v.object object) as (λ b. eqb v.object object ≡ b → (b || has_object object vs) ≡ true → length (cond (not b) (v ∷ without_object object vs) (without_object object vs)) + 1 ≡ length (v ∷ vs)) [
      | true ↦ λ e _.
          let stay : length (without_object object vs) ≡ length vs = ap length (without-others object vs (ap (λ n. are_of_others n vs) (sym (eqb-true v.object object e)) ∙ ds.0)) in
          omega arith
      | false ↦ λ e t. let less : length (without_object object vs) + 1 ≡ length vs = length-without_object object vs ds.1 t in omega arith
    ] refl h

pub Makes-both : {A S : Type 0} (P : S → Type 0) (Q : Type 0) (r : Result A Refusal) (old new : S) (said : Result S Refusal) → Makes {A = A} r old new said → OnOk r Q → ((x : S) → Q → said ≡ Ok x → P x) → OnOk r (P new)
Makes-both P Q (Ok x) old new said h q p = p new q h
Makes-both P Q (Err e) old new said h q p = tt
