-- No number is that of a version and of a held object, after each change.
use Rattle.std.proofs.Common.{◌≡◌, ◌⊎◌, ℕ, Bool, true, false, cond, eqb, not, List, [], ◌∷◌, ◌++◌, filter, Option, Some, None, Result, Ok, Err, refl, sym, ap, subst, ◌∙◌, ⊎_elim}
use Rattle.std.proofs.lemmas.Bool.{and_from, and_parts, false≢true, not-true, or_from, or_parts}
use Rattle.std.specs.BTreeMap.{insert_entry}
use Rattle.std.specs.Map.{lookup, remove_entry}
use Rattle.std.specs.Option.{is_some}
use Rattle.std.specs.Ordering.{match_ordering, nat_cmp}
use Rattle.std.specs.declared.cmp.Ordering.TheVariants.{Less, Equal, Greater}
use Rattle.version_groups.specs.kinds.declared.refusal.Refusal.{Refusal}
use Rattle.version_groups.specs.declared.copies.CopyChange.{CopyChange}
use Rattle.version_groups.specs.declared.copies.CopyRow.{CopyRow}
use Rattle.version_groups.specs.declared.group.GroupChange.{GroupChange}
use Rattle.version_groups.specs.declared.group.GroupChange.TheVariants.{Gone, Remove, Rebind, Undo}
use Rattle.version_groups.specs.declared.groups.Filespace.{Filespace}
use Rattle.version_groups.specs.declared.versions.Version.{Version}
use Rattle.version_groups.specs.Copies.{copies_after}
use Rattle.version_groups.specs.Entries.{on_ok, if_found}
use Rattle.version_groups.specs.Groups.{versions_after}
use Rattle.version_groups.specs.Versions.{has_object, version_of, retired, revived, undone}
use Rattle.object_rows.specs.declared.held_object.HeldRow.{HeldRow}
use Rattle.object_rows.specs.declared.place.Place.{Place}
use Rattle.object_rows.specs.Build.{are_apart}
use Rattle.object_rows.specs.Filespaces.{at_number, filespaces_after, filespaces_with, versions_at, versions_of}
use Rattle.object_rows.specs.HeldRows.{AreApart, has_row, held_altered, held_at, held_copied, held_versions, row_copied}
use Rattle.object_rows.specs.Index.{IsIndex}
use Rattle.object_rows.specs.Places.{AreAllOrderly, Indexed, listed, listed_at}
use Rattle.object_rows.specs.Rows.{filespaces_cleared}
use Rattle.object_rows.proofs.HeldLists.{none_of}
use Rattle.object_rows.proofs.IndexLaws.{lookup-front}
use Rattle.object_rows.proofs.Splices.{Splices}
use Rattle.object_rows.proofs.Stands.{at_itself, has-keys, has-listed, keys-listed_at, lookup-behind, same_number}
use Rattle.object_rows.proofs.Steps.{change_of, put_of}

-- ---- filespaces change, and held objects don't

-- the same places for both
pub apart_places : (places : List (ℕ × Place)) (fs new : List (ℕ × Filespace)) (held : List (ℕ × HeldRow)) → Indexed places fs → Indexed places new → AreApart fs held → AreApart new held
apart_places places fs new held i j a k h =
    sym (has-listed k new) ∙ ap is_some (sym (j.index.found k) ∙ i.index.found k) ∙ has-listed k fs ∙ a k h

-- no key comes where none comes in what is spliced in
absent-spliced : {K V : Type 0} (test : K → Bool) (xs ys old new : List (K × V)) → Splices xs ys old new → (lookup test xs ≡ None → lookup test ys ≡ None) → lookup test old ≡ None → lookup test new ≡ None
absent-spliced test xs ys old new s f h =
    let all : lookup test (s.before ++ (xs ++ s.after)) ≡ None = ap (lookup test) (sym s.was) ∙ h in
    let front : lookup test s.before ≡ None = lookup-front test s.before (xs ++ s.after) all in
    let rest : lookup test (xs ++ s.after) ≡ None = sym (lookup-behind test s.before (xs ++ s.after) front) ∙ all in
    let here : lookup test xs ≡ None = lookup-front test xs s.after rest in
    ap (lookup test) s.becomes ∙ lookup-behind test s.before (ys ++ s.after) front ∙ lookup-behind test ys s.after (f here) ∙ sym (lookup-behind test xs s.after here) ∙ rest

none_filtered : (k : ℕ) (q : Version → Bool) (vs : List Version) → has_object k vs ≡ false → has_object k (filter q vs) ≡ false
none_filtered k q [] h = refl
none_filtered k q (v ∷ vs) h =
    let hs : (eqb v.object k ≡ false) × (has_object k vs ≡ false) = or_parts (eqb v.object k) (has_object k vs) h in
    elim (q v) as (λ b. has_object k (cond b (v ∷ filter q vs) (filter q vs)) ≡ false) [
      | true ↦ or_from (eqb v.object k) (has_object k (filter q vs)) hs.0 (none_filtered k q vs hs.1)
      | false ↦ none_filtered k q vs hs.1
    ]

none_retired : (k day : ℕ) (vs : List Version) → has_object k vs ≡ false → has_object k (retired day vs) ≡ false
none_retired k day [] h = h
none_retired k day (v ∷ vs) h = h

none_revived : (k : ℕ) (vs : List Version) → has_object k vs ≡ false → has_object k (revived vs) ≡ false
none_revived k [] h = h
none_revived k (v ∷ vs) h = h

none_undone : (k : ℕ) (active : Bool) (vs : List Version) → has_object k vs ≡ false → has_object k (undone active vs) ≡ false
none_undone k active [] h = h
none_undone k true (v ∷ vs) h = none_revived k vs (or_parts (eqb v.object k) (has_object k vs) h).1
none_undone k false (v ∷ vs) h = (or_parts (eqb v.object k) (has_object k vs) h).1

-- no change of a group brings an object
none_comes : (k : ℕ) (change : GroupChange) (vs : List Version) → has_object k vs ≡ false → has_object k (versions_after change vs) ≡ false
none_comes k (Gone object today) vs h = none_retired k today vs h
none_comes k (Remove object) vs h = none_filtered k (λ (v : Version). not (eqb v.object object)) vs h
none_comes k (Rebind class) vs h = h
none_comes k (Undo class active) vs h = none_undone k active vs h

place_comes : (n : ℕ) (path : List ℕ) (change : GroupChange) (k : ℕ) (vs : List Version) → lookup (at_number k) (listed_at n path vs) ≡ None → lookup (at_number k) (listed_at n path (versions_after change vs)) ≡ None
place_comes n path change k vs h =
    none_of (lookup (at_number k) (listed_at n path (versions_after change vs)))
    (has-keys k (listed_at n path (versions_after change vs)) (versions_after change vs) (keys-listed_at n path (versions_after change vs))
    ∙ none_comes k change vs (sym (has-keys k (listed_at n path vs) vs (keys-listed_at n path vs)) ∙ ap is_some h))

pub apart_said : (n : ℕ) (path : List ℕ) (change : GroupChange) (fs new : List (ℕ × Filespace)) (held : List (ℕ × HeldRow)) → filespaces_after n path change fs ≡ Ok new → AreApart fs held → AreApart new held
apart_said n path change fs new held said a k h =
    sym (has-listed k new)
    ∙ ap is_some (absent-spliced (at_number k) (listed_at n path (versions_at n path fs)) (listed_at n path (versions_after change (versions_at n path fs))) (listed fs) (listed new) (change_of n path change fs new said)
    (place_comes n path change k (versions_at n path fs)) (none_of (lookup (at_number k) (listed fs)) (has-listed k fs ∙ a k h)))

pub apart_after : (n : ℕ) (path : List ℕ) (change : GroupChange) (fs new : List (ℕ × Filespace)) (held : List (ℕ × HeldRow)) → (new ≡ fs) ⊎ (filespaces_after n path change fs ≡ Ok new) → AreApart fs held → AreApart new held
apart_after n path change fs new held how a =
    ⊎_elim (λ stays. subst (λ (t : List (ℕ × Filespace)). AreApart t held) (sym stays) a) (λ said. apart_said n path change fs new held said a) how

cleared_said : (k : ℕ) (o : Option Place) (fs new : List (ℕ × Filespace)) (held : List (ℕ × HeldRow)) → filespaces_cleared k o fs ≡ Ok new → AreApart fs held → AreApart new held
cleared_said k None fs new held said a = absurd (cc)
cleared_said k (Some place) fs new held said a = apart_said place.filespace place.path (Remove k) fs new held said a

pub apart_cleared : (k : ℕ) (o : Option Place) (fs new : List (ℕ × Filespace)) (held : List (ℕ × HeldRow)) → (new ≡ fs) ⊎ (filespaces_cleared k o fs ≡ Ok new) → AreApart fs held → AreApart new held
apart_cleared k o fs new held how a =
    ⊎_elim (λ stays. subst (λ (t : List (ℕ × Filespace)). AreApart t held) (sym stays) a) (λ said. cleared_said k o fs new held said a) how

-- an object comes that isn't held
pub apart_put : (n : ℕ) (path class : List ℕ) (v : Version) (fs new : List (ℕ × Filespace)) (held : List (ℕ × HeldRow)) → AreAllOrderly fs → has_row v.object held ≡ false → (new ≡ fs) ⊎ (filespaces_with n path class v fs ≡ Ok new)
    → AreApart fs held → AreApart new held
apart_put n path class v fs new held orderly free how a =
    ⊎_elim (λ stays. subst (λ (t : List (ℕ × Filespace)). AreApart t held) (sym stays) a) put how
  where
    place : Place
    place = record { filespace = n; path = path }

    other : (k : ℕ) → has_row k held ≡ true → at_number k v.object ≡ false
    other k h =
        elim (at_number k v.object) as (λ b. at_number k v.object ≡ b → b ≡ false) [
          | true ↦ λ same. absurd (false≢true (sym free ∙ ap (λ m. has_row m held) (sym (same_number k v.object same)) ∙ h))
          | false ↦ λ _. refl
        ] refl

    put : filespaces_with n path class v fs ≡ Ok new → AreApart new held
    put said k h =
        sym (has-listed k new)
        ∙ ap is_some (absent-spliced (at_number k) [] ((v.object, place) ∷ []) (listed fs) (listed new) (put_of n path class v fs new orderly said)
        (λ _. ap (λ b. cond b (Some place) None) (other k h)) (none_of (lookup (at_number k) (listed fs)) (has-listed k fs ∙ a k h)))

-- ---- held objects change, and filespaces don't

there_before : (k q : ℕ) (held : List (ℕ × HeldRow)) → has_row q (remove_entry (at_number k) held) ≡ true → has_row q held ≡ true
there_before k q [] h = h
there_before k q (e ∷ es) h =
    elim (at_number k e.0) as (λ b. has_row q (cond b es (e ∷ remove_entry (at_number k) es)) ≡ true → has_row q (e ∷ es) ≡ true) [
      | true ↦ λ t. elim (at_number q e.0) as (λ b. is_some (cond b (Some e.1) (held_at q es)) ≡ true) [ true ↦ refl | false ↦ t ]
      | false ↦ elim (at_number q e.0) as (λ b. is_some (cond b (Some e.1) (held_at q (remove_entry (at_number k) es))) ≡ true → is_some (cond b (Some e.1) (held_at q es)) ≡ true) [
        | true ↦ λ _. refl
        | false ↦ λ t. there_before k q es t
      ]
    ] h

pub apart_taken : (k : ℕ) (fs : List (ℕ × Filespace)) (held new : List (ℕ × HeldRow)) → new ≡ remove_entry (at_number k) held → AreApart fs held → AreApart fs new
apart_taken k fs held new is a q h = a q (there_before k q held (ap (has_row q) (sym is) ∙ h))

none_before : (k q : ℕ) (r : HeldRow) (held : List (ℕ × HeldRow)) → at_number q k ≡ false → has_row q (insert_entry nat_cmp held k r) ≡ true → has_row q held ≡ true
none_before k q r [] other h = absurd (false≢true (sym (ap (λ b. is_some (cond b (Some r) None)) other) ∙ h))
none_before k q r (e ∷ es) other h =
    elim (nat_cmp k e.0) as (λ o. has_row q (match_ordering o ((k, r) ∷ e ∷ es) ((e.0, r) ∷ es) (e ∷ insert_entry nat_cmp es k r)) ≡ true → has_row q (e ∷ es) ≡ true) [
      | Less ↦ λ t. sym (ap (λ b. is_some (cond b (Some r) (held_at q (e ∷ es)))) other) ∙ t
      | Equal ↦ elim (at_number q e.0) as (λ b. is_some (cond b (Some r) (held_at q es)) ≡ true → is_some (cond b (Some e.1) (held_at q es)) ≡ true) [ true ↦ λ _. refl | false ↦ λ t. t ]
      | Greater ↦ elim (at_number q e.0) as (λ b. is_some (cond b (Some e.1) (held_at q (insert_entry nat_cmp es k r))) ≡ true → is_some (cond b (Some e.1) (held_at q es)) ≡ true) [
        | true ↦ λ _. refl
        | false ↦ λ t. none_before k q r es other t
      ]
    ] h

pub apart_held : (k : ℕ) (r : HeldRow) (fs : List (ℕ × Filespace)) (held new : List (ℕ × HeldRow)) → has_object k (versions_of fs) ≡ false → (new ≡ held) ⊎ (insert_entry nat_cmp held k r ≡ new) → AreApart fs held → AreApart fs new
apart_held k r fs held new free how a =
    ⊎_elim (λ stays. subst (AreApart fs) (sym stays) a) (λ is. subst (AreApart fs) is put) how
  where
    put : AreApart fs (insert_entry nat_cmp held k r)
    put q h =
        elim (at_number q k) as (λ b. at_number q k ≡ b → has_object q (versions_of fs) ≡ false) [
          | true ↦ λ same. ap (λ n. has_object n (versions_of fs)) (same_number q k same) ∙ free
          | false ↦ λ other. a q (none_before k q r held other h)
        ] refl

has-copied : (k q : ℕ) (copies : List CopyRow) (held : List (ℕ × HeldRow)) → has_row q (held_copied k copies held) ≡ has_row q held
has-copied k q copies [] = refl
has-copied k q copies (e ∷ es) =
    elim (at_number q e.0) as (λ b. is_some (cond b (Some (row_copied k copies e.1)) (held_at q (held_copied k copies es))) ≡ is_some (cond b (Some e.1) (held_at q es))) [
      | true ↦ refl
      | false ↦ has-copied k q copies es
    ]

apart_copied : (k : ℕ) (copies : List CopyRow) (fs : List (ℕ × Filespace)) (held : List (ℕ × HeldRow)) → AreApart fs held → AreApart fs (held_copied k copies held)
apart_copied k copies fs held a q h = a q (sym (has-copied k q copies held) ∙ h)

altered_apart : (k : ℕ) (change : CopyChange) (fs : List (ℕ × Filespace)) (held new : List (ℕ × HeldRow)) → held_altered k change held ≡ Ok new → AreApart fs held → AreApart fs new
altered_apart k change fs held new said a = go (version_of k (held_versions held)) said where
  copied : (r : Result (List CopyRow) Refusal) → on_ok (λ copies. held_copied k copies held) r ≡ Ok new → AreApart fs new
  copied (Ok copies) t = let same : held_copied k copies held ≡ new = cc in subst (AreApart fs) same (apart_copied k copies fs held a)
  copied (Err e) t = absurd (cc)

  go : (o : Option Version) → if_found o (λ v. on_ok (λ copies. held_copied k copies held) (copies_after change v.copies)) ≡ Ok new → AreApart fs new
  go None t = absurd (cc)
  go (Some v) t = copied (copies_after change v.copies) t

pub apart_altered : (k : ℕ) (change : CopyChange) (fs : List (ℕ × Filespace)) (held new : List (ℕ × HeldRow)) → (new ≡ held) ⊎ (held_altered k change held ≡ Ok new) → AreApart fs held → AreApart fs new
apart_altered k change fs held new how a = ⊎_elim (λ stays. subst (AreApart fs) (sym stays) a) (λ said. altered_apart k change fs held new said a) how

-- ---- as a test

pub apart_tested : (places : List (ℕ × Place)) (fs : List (ℕ × Filespace)) (held : List (ℕ × HeldRow)) → IsIndex nat_cmp places (listed fs) → AreApart fs held → are_apart places held ≡ true
apart_tested places fs [] i a = refl
apart_tested places fs (e ∷ es) i a =
    and_from (not (is_some (lookup (at_number e.0) places))) (are_apart places es)
    (ap not (ap is_some (i.found e.0) ∙ has-listed e.0 fs ∙ a e.0 (ap (λ b. is_some (cond b (Some e.1) (held_at e.0 es))) (at_itself e.0))))
    (apart_tested places fs es i (λ k h. a k (elim (at_number k e.0) as (λ b. is_some (cond b (Some e.1) (held_at k es)) ≡ true) [ true ↦ refl | false ↦ h ])))

pub tested_apart : (places : List (ℕ × Place)) (fs : List (ℕ × Filespace)) (held : List (ℕ × HeldRow)) → IsIndex nat_cmp places (listed fs) → are_apart places held ≡ true → AreApart fs held
tested_apart places fs [] i t k h = absurd (false≢true h)
tested_apart places fs (e ∷ es) i t k h =
    let ts : (not (is_some (lookup (at_number e.0) places)) ≡ true) × (are_apart places es ≡ true) = and_parts (not (is_some (lookup (at_number e.0) places))) (are_apart places es) t in
    elim (at_number k e.0) as (λ b. at_number k e.0 ≡ b → is_some (cond b (Some e.1) (held_at k es)) ≡ true → has_object k (versions_of fs) ≡ false) [
      | true ↦ λ same _.
          ap (λ n. has_object n (versions_of fs)) (same_number k e.0 same) ∙ sym (ap is_some (i.found e.0) ∙ has-listed e.0 fs) ∙ not-true (is_some (lookup (at_number e.0) places)) ts.0
      | false ↦ λ _ u. tested_apart places fs es i ts.1 k u
    ] refl h
