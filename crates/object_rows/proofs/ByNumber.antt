-- A change of the copies of an object's version, at its place and by its number.
use Rattle.std.proofs.Common.{◌≡◌, ℕ, Bool, true, false, cond, eqb, ◌||◌, List, [], ◌∷◌, ◌++◌, map, Option, Some, None, Ok, Err, refl, sym, ap, subst, ◌∙◌}
use Rattle.std.proofs.lemmas.Bool.{or_parts}
use Rattle.std.proofs.lemmas.List.Folds.{list_any-append}
use Rattle.std.specs.List.{flat_map}
use Rattle.std.specs.Map.{lookup, set_value}
use Rattle.std.specs.Option.{option_map_or}
use Rattle.version_groups.specs.kinds.declared.refusal.Refusal.TheVariants.{NotFound}
use Rattle.version_groups.specs.declared.copies.CopyChange.{CopyChange}
use Rattle.version_groups.specs.declared.copies.CopyRow.{CopyRow}
use Rattle.version_groups.specs.declared.group.Group.{Group}
use Rattle.version_groups.specs.declared.groups.Filespace.{Filespace}
use Rattle.version_groups.specs.declared.versions.Version.{Version}
use Rattle.version_groups.specs.Copies.{Alters, copies_after}
use Rattle.version_groups.specs.Entries.{on_ok, if_found}
use Rattle.version_groups.specs.Groups.{at_path, group_altered, groups_altered}
use Rattle.version_groups.specs.Groups as grouped
use Rattle.version_groups.specs.Versions.{copies_of, has_object, are_distinct, version_of, with_copies}
use Rattle.version_groups.proofs.Altered.{Alters-missing}
use Rattle.version_groups.proofs.Lists.{version_of-none}
use Rattle.object_rows.specs.declared.place.Place.{Place}
use Rattle.object_rows.specs.Filespaces.{at_number, filespace_after, filespace_at, filespace_copied, filespaces_altered, filespaces_altered_at, filespaces_copied, group_copied, groups_in, versions_at, versions_in, versions_of}
use Rattle.object_rows.proofs.Stands.{Stands}
use Rattle.object_rows.proofs.VersionLists.{apart_behind, parted, with_copies-others}

or-true : (b : Bool) → (b || true) ≡ true
or-true true = refl
or-true false = refl

has-joined : (k : ℕ) (vs ws : List Version) → has_object k (vs ++ ws) ≡ (has_object k vs || has_object k ws)
has-joined k vs ws = list_any-append (λ (v : Version). eqb v.object k) vs ws

module _ {K X : Type 0} (flat : X → List Version) (h : X → X) (k : ℕ) (fixed : (x : X) → has_object k (flat x) ≡ false → h x ≡ x) where
  -- the versions of the entries
  abbrev pub versions : List (K × X) → List Version
  versions es = flat_map (λ e. flat e.1) es

  abbrev pub mapped : List (K × X) → List (K × X)
  mapped es = map (λ e. (e.0, h e.1)) es

  mapped_others : (es : List (K × X)) → has_object k (versions es) ≡ false → mapped es ≡ es
  mapped_others [] n = refl
  mapped_others (e ∷ es) n =
      let ns : (has_object k (flat e.1) ≡ false) × (has_object k (versions es) ≡ false) = or_parts (has_object k (flat e.1)) (has_object k (versions es)) (sym (has-joined k (flat e.1) (versions es)) ∙ n) in
      ap (λ x. (e.0, x) ∷ mapped es) (fixed e.1 ns.0) ∙ ap (λ t. e ∷ t) (mapped_others es ns.1)

  has-found : (test : K → Bool) (es : List (K × X)) (x : X) → lookup test es ≡ Some x → has_object k (flat x) ≡ true → has_object k (versions es) ≡ true
  has-found test [] x f t = absurd (cc)
  has-found test (e ∷ es) x f t =
      has-joined k (flat e.1) (versions es)
      ∙ elim (test e.0) as (λ b. cond b (Some e.1) (lookup test es) ≡ Some x → (has_object k (flat e.1) || has_object k (versions es)) ≡ true) [
        | true ↦ λ g. let same : e.1 ≡ x = cc in ap (λ b. b || has_object k (versions es)) (ap (λ y. has_object k (flat y)) same ∙ t)
        | false ↦ λ g. ap (λ b. has_object k (flat e.1) || b) (has-found test es x g t) ∙ or-true (has_object k (flat e.1))
      ] f

  -- what is done to the one entry that has the object is done to all
  pub mapped-set_value : (test : K → Bool) (es : List (K × X)) (x : X) → lookup test es ≡ Some x → has_object k (flat x) ≡ true → are_distinct (versions es) ≡ true → mapped es ≡ set_value test es (h x)
  mapped-set_value test [] x f t d = absurd (cc)
  mapped-set_value test (e ∷ es) x f t d =
      elim (test e.0) as (λ b. cond b (Some e.1) (lookup test es) ≡ Some x → (e.0, h e.1) ∷ mapped es ≡ cond b ((e.0, h x) ∷ es) (e ∷ set_value test es (h x))) [
        | true ↦ λ g.
            let same : e.1 ≡ x = cc in
            ap (λ y. (e.0, h y) ∷ mapped es) same
            ∙ ap (λ l. (e.0, h x) ∷ l) (mapped_others es ((parted (flat e.1) (versions es) d).apart k (ap (λ y. has_object k (flat y)) same ∙ t)))
        | false ↦ λ g.
            ap (λ y. (e.0, y) ∷ mapped es) (fixed e.1 (apart_behind k (flat e.1) (versions es) d (has-found test es x g t)))
            ∙ ap (λ l. e ∷ l) (mapped-set_value test es x g t (parted (flat e.1) (versions es) d).behind)
      ] f

  -- the versions of one entry are distinct where all are
  pub distinct-found : (test : K → Bool) (es : List (K × X)) (x : X) → lookup test es ≡ Some x → are_distinct (versions es) ≡ true → are_distinct (flat x) ≡ true
  distinct-found test [] x f d = absurd (cc)
  distinct-found test (e ∷ es) x f d =
      elim (test e.0) as (λ b. cond b (Some e.1) (lookup test es) ≡ Some x → are_distinct (flat x) ≡ true) [
        | true ↦ λ g. let same : e.1 ≡ x = cc in ap (λ y. are_distinct (flat y)) (sym same) ∙ (parted (flat e.1) (versions es) d).front
        | false ↦ λ g. distinct-found test es x g (parted (flat e.1) (versions es) d).behind
      ] f

fixed_group : (k : ℕ) (copies : List CopyRow) (g : Group) → has_object k g.versions ≡ false → group_copied k copies g ≡ g
fixed_group k copies g n = ap (λ vs. record g { versions = vs }) (with_copies-others k copies g.versions n)

fixed_filespace : (k : ℕ) (copies : List CopyRow) (f : Filespace) → has_object k (versions_in f.groups) ≡ false → filespace_copied k copies f ≡ f
fixed_filespace k copies f n = ap (λ gs. record f { groups = gs }) (mapped_others (λ (g : Group). g.versions) (group_copied k copies) k (fixed_group k copies) f.groups n)

-- filespaces without the object stay as they are
pub filespaces-others : (k : ℕ) (copies : List CopyRow) (fs : List (ℕ × Filespace)) → has_object k (versions_of fs) ≡ false → filespaces_copied k copies fs ≡ fs
filespaces-others k copies fs n = mapped_others (λ (f : Filespace). versions_in f.groups) (filespace_copied k copies) k (fixed_filespace k copies) fs n

-- the object's version has these copies: at its place, and wherever it stands
pub copied-at : (k n : ℕ) (p : List ℕ) (copies : List CopyRow) (fs : List (ℕ × Filespace)) (f : Filespace) (g : Group) → filespace_at n fs ≡ Some f → grouped.group_at p f.groups ≡ Some g
    → has_object k g.versions ≡ true → are_distinct (versions_of fs) ≡ true
    → set_value (at_number n) fs (record f { groups = set_value (at_path p) f.groups (record g { versions = with_copies k copies g.versions }) }) ≡ filespaces_copied k copies fs
copied-at k n p copies fs f g fthere gthere has d =
    let inner : are_distinct (versions_in f.groups) ≡ true = distinct-found (λ (x : Filespace). versions_in x.groups) (filespace_copied k copies) k (fixed_filespace k copies) (at_number n) fs f fthere d in
    let has_in : has_object k (versions_in f.groups) ≡ true = has-found (λ (x : Group). x.versions) (group_copied k copies) k (fixed_group k copies) (at_path p) f.groups g gthere has in
    ap (λ gs. set_value (at_number n) fs (record f { groups = gs })) (sym (mapped-set_value (λ (x : Group). x.versions) (group_copied k copies) k (fixed_group k copies) (at_path p) f.groups g gthere has inner))
    ∙ sym (mapped-set_value (λ (x : Filespace). versions_in x.groups) (filespace_copied k copies) k (fixed_filespace k copies) (at_number n) fs f fthere has_in d)

-- the change at the object's place is the change by its number
pub altered-at : (k : ℕ) (change : CopyChange) (fs : List (ℕ × Filespace)) (place : Place) → are_distinct (versions_of fs) ≡ true → Stands k place fs
    → filespaces_altered_at place.filespace place.path k change fs ≡ filespaces_altered k change fs
altered-at k change fs place d s =
    let n : ℕ = place.filespace in
    let p : List ℕ = place.path in
    ap (λ o. if_found o (λ f. on_ok (set_value (at_number n) fs) (filespace_after (groups_altered p k change) f))) s.there
    ∙ ap (λ o. on_ok (set_value (at_number n) fs) (on_ok (λ gs. record s.filespace { groups = gs }) (if_found o (λ g. on_ok (set_value (at_path p) s.filespace.groups) (group_altered k change g))))) s.group_there
    ∙ elim (version_of k s.group.versions) as (λ o. on_ok (set_value (at_number n) fs) (on_ok (λ gs. record s.filespace { groups = gs }) (on_ok (set_value (at_path p) s.filespace.groups) (on_ok (λ vs. record s.group { versions = vs })
    (if_found o (λ v. on_ok (λ copies. with_copies k copies s.group.versions) (copies_after change v.copies))))))
    ≡ if_found o (λ v. on_ok (λ copies. filespaces_copied k copies fs) (copies_after change v.copies))) [
      | None ↦ refl
      | Some v ↦ elim (copies_after change v.copies) as (λ r. on_ok (set_value (at_number n) fs) (on_ok (λ gs. record s.filespace { groups = gs }) (on_ok (set_value (at_path p) s.filespace.groups) (on_ok (λ vs. record s.group { versions = vs })
          (on_ok (λ copies. with_copies k copies s.group.versions) r)))) ≡ on_ok (λ copies. filespaces_copied k copies fs) r) [
            | Ok copies ↦ ap Ok (copied-at k n p copies fs s.filespace s.group s.there s.group_there s.has d)
            | Err e ↦ refl
          ]
    ]
    ∙ ap (λ o. if_found o (λ v. on_ok (λ copies. filespaces_copied k copies fs) (copies_after change v.copies))) (sym s.found)

-- what the path of a place has, as it is found from all filespaces
pub versions-there : (k : ℕ) (fs : List (ℕ × Filespace)) (place : Place) (s : Stands k place fs) → versions_at place.filespace place.path fs ≡ s.group.versions
versions-there k fs place s =
    ap (λ o. grouped.versions_at place.path (groups_in o)) s.there ∙ ap grouped.versions_in s.group_there

pub found-there : (k : ℕ) (fs : List (ℕ × Filespace)) (place : Place) → Stands k place fs → version_of k (versions_at place.filespace place.path fs) ≡ version_of k (versions_of fs)
found-there k fs place s = ap (version_of k) (versions-there k fs place s) ∙ sym s.found

pub copies-there : (k : ℕ) (fs : List (ℕ × Filespace)) (place : Place) → Stands k place fs → copies_of k (versions_at place.filespace place.path fs) ≡ copies_of k (versions_of fs)
copies-there k fs place s = ap (λ o. option_map_or (λ (v : Version). v.copies) o []) (found-there k fs place s)

-- a change of an object that isn't there is refused
pub altered-missing : (A : Type 0) (k : ℕ) (change : CopyChange) (fs : List (ℕ × Filespace)) → has_object k (versions_of fs) ≡ false → Alters {A = A} change (Err NotFound) fs fs (filespaces_altered k change fs)
altered-missing A k change fs none =
    subst (λ (o : Option Version). Alters {A = A} change (Err NotFound) fs fs (if_found o (λ v. on_ok (λ copies. filespaces_copied k copies fs) (copies_after change v.copies)))) (sym (version_of-none k (versions_of fs) none))
    (Alters-missing A change fs NotFound)
