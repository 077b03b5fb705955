-- What stands at a path once a version was put there, and what undoing gives back.
use Rattle.std.proofs.Common.{◌≡◌, ℕ, Bool, false, cond, List, [], ◌∷◌, ◌++◌, Option, Some, None, Result, Ok, Err, refl, sym, ap, subst, ◌∙◌}
use Rattle.std.proofs.lemmas.Bool.{eq-eqb}
use Rattle.std.proofs.lemmas.Map.Steps.{set_value_same}
use Rattle.std.specs.Cmp.{nat_cmp_total}
use Rattle.std.specs.Map.{lookup, set_value}
use Rattle.std.specs.Result.{OnOk}
use Rattle.version_groups.specs.kinds.Answers.{Becomes}
use Rattle.version_groups.specs.kinds.declared.refusal.Refusal.{Refusal}
use Rattle.version_groups.specs.declared.group.Group.{Group}
use Rattle.version_groups.specs.declared.group.GroupChange.TheVariants.{Undo}
use Rattle.version_groups.specs.declared.groups.Filespace.{Filespace}
use Rattle.version_groups.specs.declared.versions.Version.{Version}
use Rattle.version_groups.specs.Entries.{on_ok, if_found}
use Rattle.version_groups.specs.Groups as grouped
use Rattle.version_groups.specs.Groups.{WasSo, at_path, groups_after, groups_with}
use Rattle.version_groups.specs.Versions.{has_object, superseded, version_of}
use Rattle.version_groups.proofs.Laws.{put-becomes, put-undone}
use Rattle.version_groups.proofs.Maps.{lookup-set, set-set}
use Rattle.object_rows.specs.declared.place.Place.{Place}
use Rattle.object_rows.specs.Filespaces.{at_number, filespace_after, filespaces_after, filespaces_with, group_at, groups_in, versions_at, versions_of}
use Rattle.object_rows.specs.Places.{AreAllOrderly, Indexed, listed}
use Rattle.object_rows.proofs.ByNumber.{versions-there}
use Rattle.object_rows.proofs.IndexLaws.{lookup-between, lookup-front}
use Rattle.object_rows.proofs.Kept.{unlisted}
use Rattle.object_rows.proofs.Splices.{Splices}
use Rattle.object_rows.proofs.Stands.{Stands, at_itself, path_itself, stands}
use Rattle.object_rows.proofs.Steps.{Within, orderly_at, put_of, within}

pub put_newest : (n : ℕ) (path class : List ℕ) (v : Version) (fs new : List (ℕ × Filespace)) → AreAllOrderly fs → filespaces_with n path class v fs ≡ Ok new → versions_at n path new ≡ v ∷ superseded v.stored (versions_at n path fs)
put_newest n path class v fs new orderly h =
    let by : List (List ℕ × Group) → Result (List (List ℕ × Group)) Refusal = λ groups. Ok (groups_with path class v groups) in
    let w : Within n by fs new = within n by fs new h in
    let f : Filespace = record w.filespace { groups = w.groups } in
    let after : by w.filespace.groups ≡ Ok w.groups = w.after in
    let same : groups_with path class v w.filespace.groups ≡ w.groups = cc in
    ap (versions_at n path) (sym w.becomes)
    ∙ ap (λ (o : Option Filespace). grouped.versions_at path (groups_in o)) (lookup-set (at_number n) w.filespace f fs w.there)
    ∙ ap (grouped.versions_at path) (sym same)
    ∙ put-becomes path class v w.filespace.groups (orderly_at n fs w.filespace orderly w.there).0 path
    ∙ ap (λ b. cond b (v ∷ superseded v.stored (grouped.versions_at path w.filespace.groups)) (grouped.versions_at path w.filespace.groups)) (path_itself path)
    ∙ ap (λ (o : Option Filespace). v ∷ superseded v.stored (grouped.versions_at path (groups_in o))) (sym w.there)

pub put_found : (places more : List (ℕ × Place)) (n : ℕ) (path class : List ℕ) (v : Version) (fs new : List (ℕ × Filespace)) → Indexed places fs → Indexed more new → has_object v.object (versions_of fs) ≡ false → filespaces_with n path class v fs ≡ Ok new
    → version_of v.object (versions_of new) ≡ Some v
put_found places more n path class v fs new i j fresh h =
    let place : Place = record { filespace = n; path = path } in
    let s : Splices [] ((v.object, place) ∷ []) (listed fs) (listed new) = put_of n path class v fs new i.orderly h in
    let none : lookup (at_number v.object) (s.before ++ s.after) ≡ None = ap (lookup (at_number v.object)) (sym s.was) ∙ sym (i.index.found v.object) ∙ unlisted places fs v.object i fresh in
    let found : lookup (at_number v.object) (listed new) ≡ Some place =
    ap (lookup (at_number v.object)) s.becomes ∙ lookup-between nat_cmp_total (v.object, place) v.object s.before s.after (lookup-front (at_number v.object) s.before s.after none)
    ∙ ap (λ b. cond b (Some place) (lookup (at_number v.object) (s.before ++ s.after))) (at_itself v.object) in
    let st : Stands v.object place new = stands v.object new place j.by_number j.orderly found in
    st.found
    ∙ ap (version_of v.object) (sym (versions-there v.object new place st) ∙ put_newest n path class v fs new i.orderly h)
    ∙ ap (λ b. cond b (Some v) (version_of v.object (superseded v.stored (versions_at n path fs)))) (eq-eqb v.object v.object refl)

pub put_undone : (n : ℕ) (path class : List ℕ) (v : Version) (fs new : List (ℕ × Filespace)) → AreAllOrderly fs → filespaces_with n path class v fs ≡ Ok new
    → (was : List ℕ) (active : Bool) → WasSo was active (group_at n path fs) → filespaces_after n path (Undo was active) new ≡ Ok fs
put_undone n path class v fs new orderly h was active so =
    let by : List (List ℕ × Group) → Result (List (List ℕ × Group)) Refusal = λ groups. Ok (groups_with path class v groups) in
    let undo : List (List ℕ × Group) → Result (List (List ℕ × Group)) Refusal = groups_after path (Undo was active) in
    let w : Within n by fs new = within n by fs new h in
    let f : Filespace = record w.filespace { groups = w.groups } in
    let after : by w.filespace.groups ≡ Ok w.groups = w.after in
    let same : groups_with path class v w.filespace.groups ≡ w.groups = cc in
    let back : groups_after path (Undo was active) w.groups ≡ Ok w.filespace.groups =
    ap (groups_after path (Undo was active)) (sym same)
    ∙ put-undone path class v w.filespace.groups (orderly_at n fs w.filespace orderly w.there).0 was active (subst (λ (o : Option Filespace). WasSo was active (grouped.group_at path (groups_in o))) w.there so) in
    ap (filespaces_after n path (Undo was active)) (sym w.becomes)
    ∙ ap (λ (o : Option Filespace). if_found o (λ (x : Filespace). on_ok (set_value (at_number n) (set_value (at_number n) fs f)) (filespace_after undo x))) (lookup-set (at_number n) w.filespace f fs w.there)
    ∙ ap (λ r. on_ok (set_value (at_number n) (set_value (at_number n) fs f)) (on_ok (λ groups. record f { groups = groups }) r)) back
    ∙ ap Ok (set-set (at_number n) f w.filespace fs ∙ set_value_same (at_number n) fs w.filespace w.there)

pub became_ok : {A S : Type 0} (P : Type 0) (r : Result A Refusal) (old new : S) (said : Result S Refusal) → Becomes {A = A} r old new said → (said ≡ Ok new → P) → OnOk r P
became_ok P (Ok x) old new said h p = p h
became_ok P (Err e) old new said h p = tt
