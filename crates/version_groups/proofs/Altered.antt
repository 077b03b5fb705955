-- A change of copies, carried from one version up to the lists that hold it.
use Rattle.std.proofs.Common.{◌≡◌, ◌⊎◌, inl, inr, ℕ, ◌<◌, true, List, [], length, get_or, Option, Some, None, Result, Ok, Err, refl, sym, ap, subst, ◌∙◌, ⊎_elim, arith, ◌≤◌}
use Rattle.std.proofs.lemmas.Option.{slice_get-get_or, slice_get_cases}
use Rattle.std.specs.List.{slice_get, slice_set}
use Rattle.std.specs.Option.{option_map_or}
use Rattle.kinds.specs.Answers.{AnswersBy, Becomes}
use Rattle.std.specs.Result.{OnErr}
use Rattle.kinds.specs.declared.refusal.Refusal.{Refusal}
use Rattle.kinds.specs.declared.refusal.Refusal.TheVariants.{Memory, NotFound}
use Rattle.version_groups.specs.declared.copies.CopyRow.{CopyRow}
use Rattle.version_groups.specs.declared.copies.CopyChange.{CopyChange}
use Rattle.version_groups.specs.declared.copies.CopyChange.TheVariants.{Add, Replace, Drop}
use Rattle.version_groups.specs.declared.versions.Version.{Version}
use Rattle.version_groups.specs.Entries.{on_ok, if_found}
use Rattle.version_groups.specs.Copies.{Alters, copies_after}
use Rattle.version_groups.specs.Versions.{are_distinct, version_of, with_copies, copies_at, put_copies_at, versions_altered}
use Rattle.version_groups.proofs.Lists.{put-with_copies, version_of-object, set-get, distinct-with_copies}

takes : {A S T : Type 0} (r : Result A Refusal) (a b : S) (said : Result S Refusal) (f : S → T) → Alters {A = A} (Drop 0) r a b said → Alters {A = A} (Drop 0) r (f a) (f b) (on_ok f said)
takes (Ok x) a b said f h = ap (on_ok f) h
takes (Err e) a b said f h = (ap f h.0, ap (on_ok f) h.1)

-- what is done to a part is done to the whole
pub Becomes-lift : {A S T : Type 0} (r : Result A Refusal) (a b : S) (said : Result S Refusal) (f : S → T) → Becomes {A = A} r a b said → Becomes {A = A} r (f a) (f b) (on_ok f said)
Becomes-lift (Ok x) a b said f h = ap (on_ok f) h
Becomes-lift (Err e) a b said f h = (ap f h.0, ⊎_elim (λ m. inl m) (λ s. inr (ap (on_ok f) s)) h.1)

fills : {A S T : Type 0} (copy : CopyRow) (r : Result A Refusal) (a b : S) (said : Result S Refusal) (f : S → T) → Alters {A = A} (Add copy) r a b said → Alters {A = A} (Add copy) r (f a) (f b) (on_ok f said)
fills copy r a b said f h = Becomes-lift r a b said f h

-- what is done to a part is done to the whole
pub Alters-lift : {A S T : Type 0} (change : CopyChange) (r : Result A Refusal) (a b : S) (said : Result S Refusal) (f : S → T) → Alters {A = A} change r a b said → Alters {A = A} change r (f a) (f b) (on_ok f said)
Alters-lift (Add copy) r a b said f h = fills copy r a b said f h
Alters-lift (Replace from copy) r a b said f h = takes r a b said f h
Alters-lift (Drop pool) r a b said f h = takes r a b said f h

-- what holds of the old value, and of the one that is said, holds of the new one
pub Alters-keeps : {A S : Type 0} (P : S → Type 0) (change : CopyChange) (r : Result A Refusal) (a b : S) (said : Result S Refusal) → P a → ((x : S) → said ≡ Ok x → P x) → Alters {A = A} change r a b said → P b
Alters-keeps P (Add copy) (Ok x) a b said old new h = new b h
Alters-keeps P (Add copy) (Err e) a b said old new h = subst P (sym h.0) old
Alters-keeps P (Replace from copy) (Ok x) a b said old new h = new b h
Alters-keeps P (Replace from copy) (Err e) a b said old new h = subst P (sym h.0) old
Alters-keeps P (Drop pool) (Ok x) a b said old new h = new b h
Alters-keeps P (Drop pool) (Err e) a b said old new h = subst P (sym h.0) old

-- what isn't there is refused
pub Alters-missing : (A : Type 0) {S : Type 0} (change : CopyChange) (a : S) (e : Refusal) → Alters {A = A} change (Err e) a a (Err e)
Alters-missing A (Add copy) a e = (refl, inr refl)
Alters-missing A (Replace from copy) a e = (refl, refl)
Alters-missing A (Drop pool) a e = (refl, refl)

-- at one place of a list
pub Alters-place : {A : Type 0} (change : CopyChange) (r : Result A Refusal) (vs : List Version) (i : ℕ) (d : Version) (copies : List CopyRow) → i < length vs
    → Alters {A = A} change r (get_or vs i d).copies copies (copies_after change (get_or vs i d).copies)
    → Alters {A = A} change r vs (slice_set vs i (record (get_or vs i d) { copies = copies })) (on_ok (put_copies_at i vs) (copies_after change (copies_at i vs)))
Alters-place {A} change r vs i d copies l h =
    let v : Version = get_or vs i d in
    let found : slice_get vs i ≡ Some (get_or vs i d) = slice_get-get_or vs i d l in
    let of_found : copies_at i vs ≡ (get_or vs i d).copies = ap (λ o. option_map_or (λ (w : Version). w.copies) o []) found in
    let put : put_copies_at i vs copies ≡ slice_set vs i (record (get_or vs i d) { copies = copies }) = ap (λ o. option_map_or (λ (w : Version). slice_set vs i (record w { copies = copies })) o vs) found in
    let same : put_copies_at i vs (get_or vs i d).copies ≡ vs = ap (λ o. option_map_or (λ (w : Version). slice_set vs i (record w { copies = (get_or vs i d).copies })) o vs) found ∙ set-get vs i d in
    subst (λ (c : List CopyRow). Alters {A = A} change r vs (slice_set vs i (record (get_or vs i d) { copies = copies })) (on_ok (put_copies_at i vs) (copies_after change c))) (sym of_found)
    (subst (λ (t : List Version). Alters {A = A} change r vs t (on_ok (put_copies_at i vs) (copies_after change (get_or vs i d).copies))) put
    (subst (λ (t : List Version). Alters {A = A} change r t (put_copies_at i vs copies) (on_ok (put_copies_at i vs) (copies_after change (get_or vs i d).copies))) same
    (Alters-lift change r (get_or vs i d).copies copies (copies_after change (get_or vs i d).copies) (put_copies_at i vs) h)))

pointwise : {S T : Type 0} (f g : S → T) → ((x : S) → f x ≡ g x) → (r : Result S Refusal) → on_ok f r ≡ on_ok g r
pointwise f g h (Ok x) = ap Ok (h x)
pointwise f g h (Err e) = refl

altered-found : (object : ℕ) (change : CopyChange) (vs : List Version) (i : ℕ) (v : Version) → are_distinct vs ≡ true → slice_get vs i ≡ Some v → version_of object vs ≡ slice_get vs i
    → on_ok (put_copies_at i vs) (copies_after change (copies_at i vs)) ≡ versions_altered object change vs
altered-found object change vs i v h found e =
    let named : v.object ≡ object = version_of-object object vs v (e ∙ found) in
    ap (λ o. on_ok (λ copies. option_map_or (λ (w : Version). slice_set vs i (record w { copies = copies })) o vs) (copies_after change (option_map_or (λ (w : Version). w.copies) o []))) found
    ∙ pointwise (λ copies. slice_set vs i (record v { copies = copies })) (λ copies. with_copies object copies vs) (λ copies. put-with_copies vs i v copies h found ∙ ap (λ n. with_copies n copies vs) named) (copies_after change v.copies)
    ∙ ap (λ o. if_found o (λ (w : Version). on_ok (λ copies. with_copies object copies vs) (copies_after change w.copies))) (sym (e ∙ found))

-- a change at the place of the object's version is the change of its copies
pub altered-place : (object : ℕ) (change : CopyChange) (vs : List Version) (i : ℕ) → are_distinct vs ≡ true → i < length vs → version_of object vs ≡ slice_get vs i
    → on_ok (put_copies_at i vs) (copies_after change (copies_at i vs)) ≡ versions_altered object change vs
altered-place object change vs i h l e =
    ⊎_elim (λ w. altered-found object change vs i w.0 h w.2 e) (λ w. let past : length vs ≤ i = w.0 in absurd (omega arith)) (slice_get_cases vs i).1

-- no version of the object: the change is refused
pub altered-missing : (A : Type 0) (object : ℕ) (change : CopyChange) (vs : List Version) → version_of object vs ≡ None → Alters {A = A} change (Err NotFound) vs vs (versions_altered object change vs)
altered-missing A object change vs none =
    subst (λ (o : Option Version). Alters {A = A} change (Err NotFound) vs vs (if_found o (λ (w : Version). on_ok (λ copies. with_copies object copies vs) (copies_after change w.copies)))) (sym none) (Alters-missing A change vs NotFound)

-- versions whose copies are changed are of the same objects
pub distinct-altered : (object : ℕ) (change : CopyChange) (vs xs : List Version) → are_distinct vs ≡ true → versions_altered object change vs ≡ Ok xs → are_distinct xs ≡ true
distinct-altered object change vs xs h e =
    elim (version_of object vs) as (λ o. if_found o (λ v. on_ok (λ copies. with_copies object copies vs) (copies_after change v.copies)) ≡ Ok xs → are_distinct xs ≡ true) [
      | None ↦ λ t. absurd (cc)
      | Some v ↦ elim (copies_after change v.copies) as (λ r. on_ok (λ copies. with_copies object copies vs) r ≡ Ok xs → are_distinct xs ≡ true) [
        | Ok copies ↦ λ t. let same : with_copies object copies vs ≡ xs = cc in ap are_distinct (sym same) ∙ distinct-with_copies object copies vs ∙ h
        | Err r ↦ λ t. absurd (cc)
      ]
    ] e

-- what is answered by its value, and else leaves the old one
pub AnswersBy-keeps : {A S : Type 0} (P : S → Type 0) (r : Result A Refusal) (new said old : S) → AnswersBy {A = A} (λ _. new) r said → OnErr r (new ≡ old) → P said → P old → P new
AnswersBy-keeps P (Ok x) new said old a u ps po = subst P (sym a) ps
AnswersBy-keeps P (Err e) new said old a u ps po = subst P (sym u) po
