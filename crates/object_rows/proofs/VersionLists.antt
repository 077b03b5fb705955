-- Lists of versions, joined and searched by object.
use Rattle.std.proofs.Common.{◌≡◌, ℕ, true, false, cond, eqb, not, ◌||◌, List, [], ◌∷◌, ◌++◌, Some, refl, sym, ap, ◌∙◌}
use Rattle.std.proofs.lemmas.Bool.{false≢true, and_parts, and_from, or_parts, or_from, not-true, eqb-true}
use Rattle.std.proofs.lemmas.List.Folds.{list_all-append, list_any-append}
use Rattle.version_groups.specs.declared.copies.CopyRow.{CopyRow}
use Rattle.version_groups.specs.declared.versions.Version.{Version}
use Rattle.version_groups.specs.Versions.{has_object, are_distinct, version_of, with_copies, without_object}
use Rattle.version_groups.proofs.Lists.{are_of_others}
use Rattle.object_rows.proofs.Splices.{Splices}

pub version_of-front : (k : ℕ) (vs ws : List Version) → has_object k vs ≡ true → version_of k (vs ++ ws) ≡ version_of k vs
version_of-front k [] ws h = absurd (false≢true h)
version_of-front k (v ∷ vs) ws h =
    elim (eqb v.object k) as (λ b. (b || has_object k vs) ≡ true → cond b (Some v) (version_of k (vs ++ ws)) ≡ cond b (Some v) (version_of k vs)) [
      | true ↦ λ _. refl
      | false ↦ λ t. version_of-front k vs ws t
    ] h

pub version_of-behind : (k : ℕ) (vs ws : List Version) → has_object k vs ≡ false → version_of k (vs ++ ws) ≡ version_of k ws
version_of-behind k [] ws h = refl
version_of-behind k (v ∷ vs) ws h =
    elim (eqb v.object k) as (λ b. (b || has_object k vs) ≡ false → cond b (Some v) (version_of k (vs ++ ws)) ≡ version_of k ws) [
      | true ↦ λ t. absurd (false≢true (sym t))
      | false ↦ λ t. version_of-behind k vs ws t
    ] h

-- what no version is of, none of a part is of
pub has-part : (k : ℕ) (xs ys old new : List Version) → Splices xs ys old new → has_object k old ≡ false → has_object k xs ≡ false
has-part k xs ys old new s h =
    let all : (has_object k s.before || (has_object k xs || has_object k s.after)) ≡ false =
    sym (list_any-append (λ (v : Version). eqb v.object k) s.before (xs ++ s.after) ∙ ap (λ b. has_object k s.before || b) (list_any-append (λ (v : Version). eqb v.object k) xs s.after)) ∙ ap (has_object k) (sym s.was) ∙ h in
    let rest : (has_object k s.before ≡ false) × ((has_object k xs || has_object k s.after) ≡ false) = or_parts (has_object k s.before) (has_object k xs || has_object k s.after) all in
    let here : (has_object k xs ≡ false) × (has_object k s.after ≡ false) = or_parts (has_object k xs) (has_object k s.after) rest.1 in
    here.0

-- none of others' versions is of the object
pub none_of_others : (k : ℕ) (vs : List Version) → are_of_others k vs ≡ true → has_object k vs ≡ false
none_of_others k [] h = refl
none_of_others k (v ∷ vs) h =
    let hs : (not (eqb v.object k) ≡ true) × (are_of_others k vs ≡ true) = and_parts (not (eqb v.object k)) (are_of_others k vs) h in
    or_from (eqb v.object k) (has_object k vs) (not-true (eqb v.object k) hs.0) (none_of_others k vs hs.1)

-- versions of which no two are of one object: those of each part, and no object of one is in the other
pub record Parted (vs ws : List Version) : Type 0 where
  pub front : are_distinct vs ≡ true
  pub behind : are_distinct ws ≡ true
  pub apart : (k : ℕ) → has_object k vs ≡ true → has_object k ws ≡ false

pub parted : (vs ws : List Version) → are_distinct (vs ++ ws) ≡ true → Parted vs ws
parted [] ws h = record { front = refl; behind = h; apart = λ k t. absurd (false≢true t) }
parted (v ∷ vs) ws h =
    let hs : (are_of_others v.object (vs ++ ws) ≡ true) × (are_distinct (vs ++ ws) ≡ true) = and_parts (are_of_others v.object (vs ++ ws)) (are_distinct (vs ++ ws)) h in
    let os : (are_of_others v.object vs ≡ true) × (are_of_others v.object ws ≡ true) =
    and_parts (are_of_others v.object vs) (are_of_others v.object ws) (sym (list_all-append (λ (w : Version). not (eqb w.object v.object)) vs ws) ∙ hs.0) in
    let p : Parted vs ws = parted vs ws hs.1 in
    record {
      front = and_from (are_of_others v.object vs) (are_distinct vs) os.0 p.front;
      behind = p.behind;
      apart = λ k t. elim (eqb v.object k) as (λ b. eqb v.object k ≡ b → (b || has_object k vs) ≡ true → has_object k ws ≡ false) [
        | true ↦ λ e _. ap (λ n. has_object n ws) (sym (eqb-true v.object k e)) ∙ none_of_others v.object ws os.1
        | false ↦ λ _ u. p.apart k u
      ] refl t;
    }

pub apart_behind : (k : ℕ) (vs ws : List Version) → are_distinct (vs ++ ws) ≡ true → has_object k ws ≡ true → has_object k vs ≡ false
apart_behind k vs ws d h =
    elim (has_object k vs) as (λ b. has_object k vs ≡ b → b ≡ false) [
      | true ↦ λ t. absurd (false≢true (sym ((parted vs ws d).apart k t) ∙ h))
      | false ↦ λ _. refl
    ] refl

-- versions of other objects keep their copies
pub with_copies-others : (k : ℕ) (copies : List CopyRow) (vs : List Version) → has_object k vs ≡ false → with_copies k copies vs ≡ vs
with_copies-others k copies [] h = refl
with_copies-others k copies (v ∷ vs) h =
    let hs : (eqb v.object k ≡ false) × (has_object k vs ≡ false) = or_parts (eqb v.object k) (has_object k vs) h in
    ap (λ b. cond {A = Version} b (record v { copies = copies }) v ∷ with_copies k copies vs) hs.0 ∙ ap (λ t. v ∷ t) (with_copies-others k copies vs hs.1)

-- no version of the object is left out where there is none
pub without_object-others : (k : ℕ) (vs : List Version) → has_object k vs ≡ false → without_object k vs ≡ vs
without_object-others k [] h = refl
without_object-others k (v ∷ vs) h =
    let hs : (eqb v.object k ≡ false) × (has_object k vs ≡ false) = or_parts (eqb v.object k) (has_object k vs) h in
    ap (λ b. cond (not b) (v ∷ without_object k vs) (without_object k vs)) hs.0 ∙ ap (λ t. v ∷ t) (without_object-others k vs hs.1)
