-- All that is kept, versions and held objects together.
use Rattle.std.proofs.Common.{◌≡◌, ℕ, ◌+◌, Bool, true, false, ◌||◌, cond, eqb, not, List, [], ◌∷◌, ◌++◌, length, Option, Some, None, refl, sym, ap, subst, ◌∙◌, length-append}
use Rattle.std.proofs.lemmas.Bool.{and_from, and_parts, eq-eqb, false≢true}
use Rattle.std.proofs.lemmas.List.{length-map, map-append}
use Rattle.std.proofs.lemmas.List.Folds.{list_all-append, list_any-append}
use Rattle.std.specs.BTreeMap.{insert_entry}
use Rattle.std.specs.List.{flat_map}
use Rattle.std.specs.Option.{option_map, option_map_or, option_or}
use Rattle.std.specs.Ordering.{nat_cmp}
use Rattle.version_groups.specs.declared.copies.CopyRow.{CopyRow}
use Rattle.version_groups.specs.declared.group.Group.{Group}
use Rattle.version_groups.specs.declared.groups.Filespace.{Filespace}
use Rattle.version_groups.specs.declared.versions.Version.{Version}
use Rattle.version_groups.specs.Versions.{are_distinct, copies_of, has_object, having_copies, version_of, with_copies}
use Rattle.version_groups.proofs.Lists.{are_of_others, of_others, version_of-none}
use Rattle.object_rows.specs.declared.held_object.HeldRow.{HeldRow}
use Rattle.object_rows.specs.Filespaces.{at_number, filespaces_copied, groups_copied, versions_in, versions_of}
use Rattle.object_rows.specs.HeldRows.{AreApart, AreHeld, are_held_rows, has_row, held_at, held_copied, held_versions, held_without}
use Rattle.object_rows.specs.Rows.{Rows, kept_of, rows_copied}
use Rattle.object_rows.proofs.HeldLists.{distinct-held, has-held, ones, version-held}
use Rattle.object_rows.proofs.Splices.{Splices, splice_behind, splice_in, splice_new, splice_remove}
use Rattle.object_rows.proofs.VersionLists.{Parted, parted, version_of-behind}

-- ---- a search of all that is kept

pub joined-version_of : (k : ℕ) (vs ws : List Version) → version_of k (vs ++ ws) ≡ option_or (version_of k vs) (version_of k ws)
joined-version_of k [] ws = refl
joined-version_of k (v ∷ vs) ws =
    elim (eqb v.object k) as (λ b. cond b (Some v) (version_of k (vs ++ ws)) ≡ option_or (cond b (Some v) (version_of k vs)) (version_of k ws)) [
      | true ↦ refl
      | false ↦ joined-version_of k vs ws
    ]

-- an object is found among the versions, or else among the held objects
pub kept-version_of : (k : ℕ) (rows : Rows) → version_of k (kept_of rows) ≡ option_or (version_of k (versions_of rows.filespaces)) (version_of k (held_versions rows.held))
kept-version_of k rows = joined-version_of k (versions_of rows.filespaces) (held_versions rows.held)

-- the same, where each held object stands under its number
pub kept-version_at : (k : ℕ) (rows : Rows) → are_held_rows rows.held ≡ true → version_of k (kept_of rows) ≡ option_or (version_of k (versions_of rows.filespaces)) (option_map (λ (r : HeldRow). r.held.version) (held_at k rows.held))
kept-version_at k rows h = kept-version_of k rows ∙ ap (option_or (version_of k (versions_of rows.filespaces))) (version-held k rows.held h)

pub kept-has : (k : ℕ) (rows : Rows) → has_object k (kept_of rows) ≡ (has_object k (versions_of rows.filespaces) || has_object k (held_versions rows.held))
kept-has k rows = list_any-append (λ (v : Version). eqb v.object k) (versions_of rows.filespaces) (held_versions rows.held)

pub kept-has_at : (k : ℕ) (rows : Rows) → are_held_rows rows.held ≡ true → has_object k (kept_of rows) ≡ (has_object k (versions_of rows.filespaces) || has_row k rows.held)
kept-has_at k rows h = kept-has k rows ∙ ap (λ b. has_object k (versions_of rows.filespaces) || b) (has-held k rows.held h)

abbrev found_copies : Option Version → List CopyRow
found_copies found = option_map_or (λ (v : Version). v.copies) found []

-- an object that is held and no version, or a version and not held
pub kept-held : (k : ℕ) (rows : Rows) → has_object k (versions_of rows.filespaces) ≡ false → version_of k (kept_of rows) ≡ version_of k (held_versions rows.held)
kept-held k rows h = version_of-behind k (versions_of rows.filespaces) (held_versions rows.held) h

pub kept-unheld : (k : ℕ) (rows : Rows) → has_object k (held_versions rows.held) ≡ false → version_of k (kept_of rows) ≡ version_of k (versions_of rows.filespaces)
kept-unheld k rows h =
    kept-version_of k rows ∙ ap (option_or (version_of k (versions_of rows.filespaces))) (version_of-none k (held_versions rows.held) h)
    ∙ elim (version_of k (versions_of rows.filespaces)) as (λ o. option_or o None ≡ o) [ None ↦ refl | Some v ↦ refl ]

pub kept-found : (k : ℕ) (rows : Rows) (o : Option Version) (v : Version) → o ≡ Some v → o ≡ version_of k (versions_of rows.filespaces) → o ≡ version_of k (kept_of rows)
kept-found k rows o v some h = some ∙ sym (kept-version_of k rows ∙ ap (λ o. option_or o (version_of k (held_versions rows.held))) (sym h ∙ some))

pub kept-there : (k : ℕ) (rows : Rows) (v : Version) → version_of k (versions_of rows.filespaces) ≡ Some v → version_of k (kept_of rows) ≡ Some v
kept-there k rows v h = sym (kept-found k rows (Some v) v refl (sym h))

pub kept-not_found : (k : ℕ) (rows : Rows) (o : Option Version) → None ≡ version_of k (versions_of rows.filespaces) → o ≡ version_of k (held_versions rows.held) → o ≡ version_of k (kept_of rows)
kept-not_found k rows o none h = h ∙ sym (kept-version_of k rows ∙ ap (λ o. option_or o (version_of k (held_versions rows.held))) (sym none))

-- the copies of an object that is held and no version, or a version and not held
pub copies-held : (k : ℕ) (rows : Rows) → has_object k (versions_of rows.filespaces) ≡ false → copies_of k (kept_of rows) ≡ copies_of k (held_versions rows.held)
copies-held k rows h = ap found_copies (kept-held k rows h)

pub copies-unheld : (k : ℕ) (rows : Rows) → has_object k (held_versions rows.held) ≡ false → copies_of k (kept_of rows) ≡ copies_of k (versions_of rows.filespaces)
copies-unheld k rows h = ap found_copies (kept-unheld k rows h)

pub kept-length : (rows : Rows) → length (kept_of rows) ≡ length (versions_of rows.filespaces) + length rows.held
kept-length rows =
    length-append (versions_of rows.filespaces) (held_versions rows.held) ∙ ap (λ n. length (versions_of rows.filespaces) + n) (length-map rows.held (λ (e : ℕ × HeldRow). e.1.held.version))

-- ---- no two are of one object

or-true : (b : Bool) → (b || true) ≡ true
or-true true = refl
or-true false = refl

of_neither : (k : ℕ) (vs ws : List Version) → are_of_others k vs ≡ true → are_of_others k ws ≡ true → are_of_others k (vs ++ ws) ≡ true
of_neither k vs ws h i = list_all-append (λ (w : Version). not (eqb w.object k)) vs ws ∙ and_from (are_of_others k vs) (are_of_others k ws) h i

pub distinct-joined : (vs ws : List Version) → are_distinct vs ≡ true → are_distinct ws ≡ true → ((k : ℕ) → has_object k vs ≡ true → has_object k ws ≡ false) → are_distinct (vs ++ ws) ≡ true
distinct-joined [] ws d e a = e
distinct-joined (v ∷ vs) ws d e a =
    let ds : (are_of_others v.object vs ≡ true) × (are_distinct vs ≡ true) = and_parts (are_of_others v.object vs) (are_distinct vs) d in
    and_from (are_of_others v.object (vs ++ ws)) (are_distinct (vs ++ ws))
    (of_neither v.object vs ws ds.0 (of_others v.object ws (a v.object (ap (λ b. b || has_object v.object vs) (eq-eqb v.object v.object refl)))))
    (distinct-joined vs ws ds.1 e (λ k h. a k (ap (λ b. eqb v.object k || b) h ∙ or-true (eqb v.object k))))

flipped : (a b : Bool) → (b ≡ true → a ≡ false) → a ≡ true → b ≡ false
flipped a true f h = absurd (false≢true (sym (f refl) ∙ h))
flipped a false f h = refl

pub kept-distinct : (rows : Rows) → AreHeld rows.held → AreApart rows.filespaces rows.held → are_distinct (versions_of rows.filespaces) ≡ true → are_distinct (kept_of rows) ≡ true
kept-distinct rows h a d =
    distinct-joined (versions_of rows.filespaces) (held_versions rows.held) d (distinct-held rows.held h.numbered h.sorted)
    (λ k t. has-held k rows.held h.numbered ∙ flipped (has_object k (versions_of rows.filespaces)) (has_row k rows.held) (a k) t)

-- what is distinct is so in its parts
pub distinct-versions : (rows : Rows) → are_distinct (kept_of rows) ≡ true → are_distinct (versions_of rows.filespaces) ≡ true
distinct-versions rows d = (parted (versions_of rows.filespaces) (held_versions rows.held) d).front

pub distinct-apart : (rows : Rows) → are_held_rows rows.held ≡ true → are_distinct (kept_of rows) ≡ true → AreApart rows.filespaces rows.held
distinct-apart rows h d k t =
    let p : Parted (versions_of rows.filespaces) (held_versions rows.held) = parted (versions_of rows.filespaces) (held_versions rows.held) d in
    flipped (has_object k (held_versions rows.held)) (has_object k (versions_of rows.filespaces)) (p.apart k) (has-held k rows.held h ∙ t)

-- ---- what comes and goes

pub splice_before : {A : Type 0} {xs ys old new : List A} (more : List A) → Splices xs ys old new → Splices xs ys (old ++ more) (new ++ more)
splice_before more s = splice_in s (record { before = []; after = more; was = refl; becomes = refl })

-- the versions change, and the held objects don't
pub kept-splice : {xs ys : List Version} (old new : Rows) → new.held ≡ old.held → Splices xs ys (versions_of old.filespaces) (versions_of new.filespaces) → Splices xs ys (kept_of old) (kept_of new)
kept-splice {xs} {ys} old new same s =
    subst (λ (t : List (ℕ × HeldRow)). Splices xs ys (kept_of old) (versions_of new.filespaces ++ held_versions t)) (sym same) (splice_before (held_versions old.held) s)

-- the held objects change, and the versions don't
pub kept-splice_held : {xs ys : List Version} (old new : Rows) → new.filespaces ≡ old.filespaces → Splices xs ys (held_versions old.held) (held_versions new.held) → Splices xs ys (kept_of old) (kept_of new)
kept-splice_held {xs} {ys} old new same s =
    subst (λ (t : List (ℕ × Filespace)). Splices xs ys (kept_of old) (versions_of t ++ held_versions new.held)) (sym same) (splice_behind (versions_of old.filespaces) s)

-- one more is held
pub held-comes : (k : ℕ) (r : HeldRow) (held : List (ℕ × HeldRow)) → held_at k held ≡ None → Splices [] (r.held.version ∷ []) (held_versions held) (held_versions (insert_entry nat_cmp held k r))
held-comes k r held none =
    subst (λ (t : List Version). Splices [] (r.held.version ∷ []) t (held_versions (insert_entry nat_cmp held k r))) (ones held)
    (subst (λ (t : List Version). Splices [] (r.held.version ∷ []) (flat_map (λ (e : ℕ × HeldRow). e.1.held.version ∷ []) held) t) (ones (insert_entry nat_cmp held k r))
    (splice_new (λ (n : ℕ) (q : HeldRow). q.held.version ∷ []) nat_cmp k r held none))

-- one fewer is held
pub held-goes : (k : ℕ) (r : HeldRow) (held : List (ℕ × HeldRow)) → held_at k held ≡ Some r → Splices (r.held.version ∷ []) [] (held_versions held) (held_versions (held_without k held))
held-goes k r held there =
    subst (λ (t : List Version). Splices (r.held.version ∷ []) [] t (held_versions (held_without k held))) (ones held)
    (subst (λ (t : List Version). Splices (r.held.version ∷ []) [] (flat_map (λ (e : ℕ × HeldRow). e.1.held.version ∷ []) held) t) (ones (held_without k held))
    (splice_remove (λ (n : ℕ) (q : HeldRow). q.held.version ∷ []) (at_number k) held r there).2)

-- ---- the copies of an object

pub groups-copied : (k : ℕ) (copies : List CopyRow) (groups : List (List ℕ × Group)) → versions_in (groups_copied k copies groups) ≡ with_copies k copies (versions_in groups)
groups-copied k copies [] = refl
groups-copied k copies (g ∷ groups) =
    ap (λ t. with_copies k copies g.1.versions ++ t) (groups-copied k copies groups) ∙ sym (map-append (having_copies k copies) g.1.versions (versions_in groups))

pub versions-copied : (k : ℕ) (copies : List CopyRow) (fs : List (ℕ × Filespace)) → versions_of (filespaces_copied k copies fs) ≡ with_copies k copies (versions_of fs)
versions-copied k copies [] = refl
versions-copied k copies (f ∷ fs) =
    ap (λ t. t ++ versions_of (filespaces_copied k copies fs)) (groups-copied k copies f.1.groups)
    ∙ ap (λ t. with_copies k copies (versions_in f.1.groups) ++ t) (versions-copied k copies fs)
    ∙ sym (map-append (having_copies k copies) (versions_in f.1.groups) (versions_of fs))

pub held-copied : (k : ℕ) (copies : List CopyRow) (held : List (ℕ × HeldRow)) → held_versions (held_copied k copies held) ≡ with_copies k copies (held_versions held)
held-copied k copies [] = refl
held-copied k copies (e ∷ held) = ap (λ t. having_copies k copies e.1.held.version ∷ t) (held-copied k copies held)

pub kept-copied : (k : ℕ) (copies : List CopyRow) (rows : Rows) → kept_of (rows_copied k copies rows) ≡ with_copies k copies (kept_of rows)
kept-copied k copies rows =
    ap (λ t. t ++ held_versions (held_copied k copies rows.held)) (versions-copied k copies rows.filespaces)
    ∙ ap (λ t. with_copies k copies (versions_of rows.filespaces) ++ t) (held-copied k copies rows.held)
    ∙ sym (map-append (having_copies k copies) (versions_of rows.filespaces) (held_versions rows.held))
