-- Versions of a path that go, become inactive, or are bound to another class.
use Rattle.std.proofs.Common.{◌≡◌, ℕ, Bool, true, cond, eqb, not, ◌&&◌, List, [], ◌∷◌, ◌++◌, map, Option, Some, None, Ok, Err, Result, refl, sym, ap, subst, ◌∙◌, arith}
use Rattle.std.specs.Prelude.{nat_le}
use Rattle.std.proofs.lemmas.Bool.{false≢true, and_parts, and_from, le-leb, or_left}
use Rattle.std.proofs.lemmas.List.{append-nil}
use Rattle.std.proofs.lemmas.List.Folds.{list_any-append}
use Rattle.std.specs.List.{list_all}
use Rattle.std.specs.Map.{set_value}
use Rattle.std.specs.Option.{option_map_or}
use Rattle.kinds.specs.declared.refusal.Refusal.{Refusal}
use Rattle.kinds.specs.declared.refusal.Refusal.TheVariants.{NotFound}
use Rattle.inventory_rules.specs.inventory_rows.version_groups.declared.copies.CopyRow.{CopyRow}
use Rattle.inventory_rules.specs.inventory_rows.version_groups.declared.group.Group.{Group}
use Rattle.inventory_rules.specs.inventory_rows.version_groups.declared.group.GroupChange.{GroupChange}
use Rattle.inventory_rules.specs.inventory_rows.version_groups.declared.group.GroupChange.TheVariants.{Gone, Remove, Rebind}
use Rattle.inventory_rules.specs.inventory_rows.version_groups.declared.groups.Filespace.{Filespace}
use Rattle.inventory_rules.specs.inventory_rows.version_groups.declared.versions.Version.{Version}
use Rattle.inventory_rules.specs.inventory_rows.version_groups.Entries.{all_later, on_ok, if_found}
use Rattle.inventory_rules.specs.inventory_rows.version_groups.Groups as grouped
use Rattle.inventory_rules.specs.inventory_rows.version_groups.Groups.{at_path, group_after, groups_after, versions_after, without_empty}
use Rattle.inventory_rules.specs.inventory_rows.version_groups.Versions.{are_distinct, has_object, retired, version_of, without_object}
use Rattle.inventory_rules.proofs.of_inventory_rows.of_version_groups.Lists.{version_of-object}
use Rattle.inventory_rules.specs.inventory_rows.object_rows.Filespaces.{at_number, filespace_after, filespace_at, filespaces_after, groups_in, versions_at}
use Rattle.inventory_rules.proofs.of_inventory_rows.of_object_rows.Splices.{Splices, splice_in, splice_same}
use Rattle.inventory_rules.proofs.of_inventory_rows.of_object_rows.VersionLists.{apart_behind, parted, version_of-behind, version_of-front}
use Rattle.inventory_rules.specs.inventory_rows.Search.{copies, version, versions}
use Rattle.inventory_rules.specs.inventory_rows.State.{Inv}
use Rattle.inventory_rules.specs.Common.{or_same, with_filespaces}
use Rattle.inventory_rules.specs.Versions.{change_group}
use Rattle.inventory_rules.specs.Halfway.{VersionFacts}
use Rattle.inventory_rules.specs.Reordered.{IsReordered}
use Rattle.inventory_laws.proofs.Copied.{version_goes}
use Rattle.inventory_laws.proofs.VersionDays.{by_day, days, orderly-days, orderly-retired, orderly-without}
use Rattle.inventory_laws.proofs.Grouped.{frames_changed, orderly_changed, versions_changed}
use Rattle.inventory_laws.proofs.Kept.{Sound, copies_in, facts_from, is_by_today, sound_all, sound_come, sound_gone, splice_kept}
use Rattle.inventory_laws.proofs.Reordered.{reordered_self, splice_reordered}
use Rattle.inventory_laws.proofs.Spliced.{all_later-map, later_fewer, splice_flat, splice_map}

-- ---- a part of all versions
has_front : (k : ℕ) (xs ys : List Version) → has_object k xs ≡ true → has_object k (xs ++ ys) ≡ true
has_front k xs ys h = list_any-append (λ (v : Version). eqb v.object k) xs ys ∙ or_left (has_object k xs) (has_object k ys) h

pub found_in : (k : ℕ) {xs ys old new : List Version} → Splices xs ys old new → are_distinct old ≡ true → has_object k xs ≡ true → version_of k old ≡ version_of k xs
found_in k {xs} s d h =
    let all : are_distinct (s.before ++ (xs ++ s.after)) ≡ true = ap are_distinct (sym s.was) ∙ d in
    ap (version_of k) s.was
    ∙ version_of-behind k s.before (xs ++ s.after) (apart_behind k s.before (xs ++ s.after) all (has_front k xs s.after h))
    ∙ version_of-front k xs s.after h

pub distinct_in : {xs ys old new : List Version} → Splices xs ys old new → are_distinct old ≡ true → are_distinct xs ≡ true
distinct_in {xs} s d = (parted xs s.after (parted s.before (xs ++ s.after) (ap are_distinct (sym s.was) ∙ d)).behind).front

-- the objects of some versions
abbrev pub objects : List Version → List ℕ
objects vs = map (λ (w : Version). w.object) vs

abbrev pub differ : ℕ → ℕ → Bool
differ a b = not (eqb b a)

pub distinct-objects : (vs : List Version) → are_distinct vs ≡ all_later differ (objects vs)
distinct-objects vs = sym (all_later-map differ (λ (w : Version). w.object) vs)

pub same_distinct : (old new : List Version) → objects new ≡ objects old → are_distinct new ≡ are_distinct old
same_distinct old new h = distinct-objects new ∙ ap (all_later differ) h ∙ sym (distinct-objects old)

-- ---- what a change makes of the filespaces, or that it is refused
pub either_way : (P : Inv → Type 0) (n : ℕ) (path : List ℕ) (change : GroupChange) (v : Inv) → P v → ((new : List (ℕ × Filespace)) → filespaces_after n path change v.clients.filespaces ≡ Ok new → P (with_filespaces new v)) → P (change_group n path change v)
either_way P n path change v same made =
    elim (filespaces_after n path change v.clients.filespaces) as (λ r. filespaces_after n path change v.clients.filespaces ≡ r → P (with_filespaces (or_same v.clients.filespaces r) v)) [
      | Ok new ↦ λ e. made new e
      | Err e ↦ λ _. same
    ] refl

abbrev Answer : ℕ → List ℕ → ℕ → List (ℕ × Filespace) → Type 0
Answer n path k fs = (new : List (ℕ × Filespace)) × (filespaces_after n path (Remove k) fs ≡ Ok new)

abbrev said_in : ℕ → List ℕ → ℕ → List (ℕ × Filespace) → Filespace → Option Group → Result (List (ℕ × Filespace)) Refusal
said_in n path k fs f o = on_ok (set_value (at_number n) fs) (on_ok (λ groups. record f { groups = groups }) (on_ok (without_empty path) (if_found o (λ g. on_ok (set_value (at_path path) f.groups) (group_after (Remove k) g)))))

removes_in : (n : ℕ) (path : List ℕ) (k : ℕ) (fs : List (ℕ × Filespace)) (f : Filespace) (o : Option Group) → has_object k (grouped.versions_in o) ≡ true → (new : List (ℕ × Filespace)) × (said_in n path k fs f o ≡ Ok new)
removes_in n path k fs f None h = absurd (false≢true h)
removes_in n path k fs f (Some g) h =
    let groups : List (List ℕ × Group) = without_empty path (set_value (at_path path) f.groups (record { class = g.class; versions = without_object k g.versions })) in (
      set_value (at_number n) fs (record f { groups = groups }),
      ap (λ b. on_ok (set_value (at_number n) fs) (on_ok (λ t. record f { groups = t }) (on_ok (without_empty path) (on_ok (set_value (at_path path) f.groups)
          (cond {A = Result Group Refusal} b (Ok (record { class = g.class; versions = without_object k g.versions })) (Err NotFound)))))) h,
    )

removes_at : (n : ℕ) (path : List ℕ) (k : ℕ) (fs : List (ℕ × Filespace)) (o : Option Filespace) → has_object k (grouped.versions_at path (groups_in o)) ≡ true
    → (new : List (ℕ × Filespace)) × (if_found o (λ f. on_ok (set_value (at_number n) fs) (filespace_after (groups_after path (Remove k)) f)) ≡ Ok new)
removes_at n path k fs None h = absurd (false≢true h)
removes_at n path k fs (Some f) h = removes_in n path k fs f (grouped.group_at path f.groups) h

pub removes : (n : ℕ) (path : List ℕ) (k : ℕ) (fs : List (ℕ × Filespace)) → has_object k (versions_at n path fs) ≡ true → Answer n path k fs
removes n path k fs h = removes_at n path k fs (filespace_at n fs) h

-- ---- a version that goes
pub nothing_sound : (n : ℕ) (v : Inv) → Sound n v []
nothing_sound n v = record { drawn = refl; in_pools = refl; past = refl; copied = refl; by_today = refl }

abbrev pub Removed : ℕ → ℕ → Version → Inv → Inv → Type 0
Removed n object old v w = VersionFacts n w × IsReordered (copies v) (map (λ c. (object, c)) old.copies ++ copies w)

-- the version in the midst of all
pub goes : (n : ℕ) (path : List ℕ) (k : ℕ) (v : Inv) (new : List (ℕ × Filespace)) (old : Version) → are_distinct (versions v) ≡ true → version k v ≡ Some old → has_object k (versions_at n path v.clients.filespaces) ≡ true
    → filespaces_after n path (Remove k) v.clients.filespaces ≡ Ok new → Splices (old ∷ []) [] (versions v) (versions (with_filespaces new v))
goes n path k v new old d there has said =
    let xs : List Version = versions_at n path v.clients.filespaces in
    let s : Splices xs (without_object k xs) (versions v) (versions (with_filespaces new v)) = splice_kept v new (versions_changed n path (Remove k) v.clients.filespaces new said) in
    splice_in (version_goes k xs old (distinct_in s d) (sym (found_in k s d has) ∙ there)) s

pub all_go : (k : ℕ) (old : Version) (vs ws : List Version) → old.object ≡ k → Splices (old ∷ []) [] vs ws → IsReordered (copies_in vs) (map (λ c. (k, c)) old.copies ++ copies_in ws)
all_go k old vs ws named s =
    let m : List (ℕ × CopyRow) = map (λ c. (old.object, c)) old.copies in
    let t : Splices (m ++ []) [] (copies_in vs) (copies_in ws) = splice_flat (λ (x : Version). map (λ c. (x.object, c)) x.copies) s in
    let u : Splices m [] (copies_in vs) (copies_in ws) = subst (λ z. Splices z [] (copies_in vs) (copies_in ws)) (append-nil m) t in
    subst (λ n. IsReordered (copies_in vs) (map (λ c. (n, c)) old.copies ++ copies_in ws)) named
    (splice_reordered [] m u (subst (λ z. IsReordered m z) (sym (append-nil m)) (reordered_self m)))

pub removed : (n filespace object : ℕ) (path : List ℕ) (v : Inv) (old : Version) → VersionFacts n v → version object v ≡ Some old → has_object object (versions_at filespace path v.clients.filespaces) ≡ true
    → Removed n object old v (change_group filespace path (Remove object) v)
removed n filespace object path v old f there has =
    let fs : List (ℕ × Filespace) = v.clients.filespaces in
    let a : Answer filespace path object fs = removes filespace path object fs has in
    let new : List (ℕ × Filespace) = a.0 in
    let s : Splices (old ∷ []) [] (versions v) (versions (with_filespaces new v)) = goes filespace path object v new old f.objects_apart there has a.1 in
    let facts : VersionFacts n (with_filespaces new v) =
    facts_from n v new f (frames_changed filespace path (Remove object) fs new a.1) (sound_come n v s (sound_all n v f) (nothing_sound n v))
    (later_fewer (λ (x y : Version). differ x.object y.object) s f.objects_apart)
    (orderly_changed filespace path (Remove object) fs new a.1 f.orderly (λ g same h some. orderly-without g.class object g h some)) in
    let said : with_filespaces new v ≡ change_group filespace path (Remove object) v = sym (ap (λ (r : Result (List (ℕ × Filespace)) Refusal). with_filespaces (or_same fs r) v) a.1) in
    subst (Removed n object old v) said (facts, all_go object old (versions v) (versions (with_filespaces new v)) (version_of-object object (versions v) old there) s)

-- ---- the newest becomes inactive
pub copies-retired : (day : ℕ) (vs : List Version) → copies_in (retired day vs) ≡ copies_in vs
copies-retired day [] = refl
copies-retired day (v ∷ vs) = refl

pub objects-retired : (day : ℕ) (vs : List Version) → objects (retired day vs) ≡ objects vs
objects-retired day [] = refl
objects-retired day (v ∷ vs) = refl

pub sound-retired : (n : ℕ) (v : Inv) (vs : List Version) → Sound n v vs → Sound n v (retired v.today vs)
sound-retired n v [] a = a
sound-retired n v (w ∷ vs) a =
    let by : (is_by_today v.today w ≡ true) × (list_all (is_by_today v.today) vs ≡ true) = and_parts (is_by_today v.today w) (list_all (is_by_today v.today) vs) a.by_today in
    let stored : nat_le w.stored v.today ≡ true = (and_parts (nat_le w.stored v.today) (option_map_or (λ day. nat_le day v.today) w.since true) by.0).0 in
    record {
      drawn = a.drawn;
      in_pools = a.in_pools;
      past = a.past;
      copied = a.copied;
      by_today = and_from (nat_le w.stored v.today && nat_le v.today v.today) (list_all (is_by_today v.today) vs) (and_from (nat_le w.stored v.today) (nat_le v.today v.today) stored (le-leb v.today v.today (omega arith))) by.1;
    }

pub by_days : (today : ℕ) (vs : List Version) → list_all (is_by_today today) vs ≡ true → list_all (by_day today) (days vs) ≡ true
by_days today [] h = refl
by_days today (w ∷ vs) h =
    let hs : (is_by_today today w ≡ true) × (list_all (is_by_today today) vs ≡ true) = and_parts (is_by_today today w) (list_all (is_by_today today) vs) h in
    and_from (by_day today w.since) (list_all (by_day today) (days vs)) (and_parts (nat_le w.stored today) (by_day today w.since) hs.0).1 (by_days today vs hs.1)

-- no copy comes or goes, and no object
abbrev pub Stayed : ℕ → Inv → Inv → Type 0
Stayed n v w = VersionFacts n w × (copies w ≡ copies v) × (objects (versions w) ≡ objects (versions v))

pub gone : (n filespace object : ℕ) (path : List ℕ) (v : Inv) → VersionFacts n v → Stayed n v (change_group filespace path (Gone object v.today) v)
gone n filespace object path v f =
    let fs : List (ℕ × Filespace) = v.clients.filespaces in
    let change : GroupChange = Gone object v.today in
    let xs : List Version = versions_at filespace path fs in
    either_way (Stayed n v) filespace path change v (f, refl, refl)
    (λ new said.
    let all_new : List Version = versions (with_filespaces new v) in
    let s : Splices xs (retired v.today xs) (versions v) all_new = splice_kept v new (versions_changed filespace path change fs new said) in
    let all : Sound n v (versions v) = sound_all n v f in
    let some : Sound n v xs = sound_gone n v s all in
    let same_objects : objects all_new ≡ objects (versions v) = splice_same (subst (λ t. Splices (objects xs) t (objects (versions v)) (objects all_new)) (objects-retired v.today xs) (splice_map (λ (w : Version). w.object) s)) in
    let same_copies : copies_in all_new ≡ copies_in (versions v) =
    splice_same (subst (λ t. Splices (copies_in xs) t (copies_in (versions v)) (copies_in all_new)) (copies-retired v.today xs) (splice_flat (λ (w : Version). map (λ c. (w.object, c)) w.copies) s)) in
    let by : list_all (by_day v.today) (days xs) ≡ true = by_days v.today xs some.by_today in (
      facts_from n v new f (frames_changed filespace path change fs new said) (sound_come n v s all (sound-retired n v xs some)) (same_distinct (versions v) all_new same_objects ∙ f.objects_apart)
          (orderly_changed filespace path change fs new said f.orderly (λ g same h _. orderly-retired v.today g.class g (ap (λ (ws : List Version). list_all (by_day v.today) (days ws)) same ∙ by) h)),
      same_copies,
      same_objects,
    ))

-- ---- another class
pub rebound : (n filespace : ℕ) (path class : List ℕ) (v : Inv) → VersionFacts n v → VersionFacts n (change_group filespace path (Rebind class) v) × (versions (change_group filespace path (Rebind class) v) ≡ versions v)
rebound n filespace path class v f =
    let fs : List (ℕ × Filespace) = v.clients.filespaces in
    let change : GroupChange = Rebind class in
    either_way (λ w. VersionFacts n w × (versions w ≡ versions v)) filespace path change v (f, refl)
    (λ new said.
    let same : versions (with_filespaces new v) ≡ versions v = splice_same (splice_kept v new (versions_changed filespace path change fs new said)) in (
      facts_from n v new f (frames_changed filespace path change fs new said) (subst (Sound n v) (sym same) (sound_all n v f)) (ap are_distinct same ∙ f.objects_apart)
          (orderly_changed filespace path change fs new said f.orderly (λ g _ h _. orderly-days (record { class = class; versions = g.versions }) ∙ sym (orderly-days g) ∙ h)),
      same,
    ))
