-- An index of names, after a row came, changed or went.
use Rattle.std.proofs.Common.{◌≡◌, ℕ, Bool, true, false, cond, ◌&&◌, List, [], ◌∷◌, Option, Some, None, refl, sym, ap, subst, ◌∙◌}
use Rattle.std.specs.Prelude.{is_none}
use Rattle.std.proofs.lemmas.Bool.{and_parts}
use Rattle.std.proofs.lemmas.Map.Lookups.{exact_bytes}
use Rattle.std.specs.BTreeMap.{is_at}
use Rattle.std.specs.Cmp.Lexicographic.{slice_cmp, nat_list_eq_equiv, texts_ties}
use Rattle.std.specs.Ordering.{is_eq, match_ordering, nat_cmp}
use Rattle.std.specs.declared.cmp.Ordering.{Ordering}
use Rattle.std.specs.declared.cmp.Ordering.TheVariants.{Less, Equal, Greater}
use Rattle.volume_rows.specs.kinds.Names.{is_same_name}
use Rattle.pool_tables.specs.Rows.{named, row_at, with_row, without_row, set_row, edited, edit_row, number_where}
use Rattle.pool_tables.specs.Names.{row_named, are_apart, IsIndex}

-- ---- names

equal_is : (o : Ordering) → is_eq o ≡ true → o ≡ Equal
equal_is Less h = absurd (cc)
equal_is Equal h = refl
equal_is Greater h = absurd (cc)

pub same_is : (a b : List ℕ) → is_same_name a b ≡ true → a ≡ b
same_is a b h = exact_bytes a b (equal_is (slice_cmp nat_cmp a b) (sym (texts_ties a b) ∙ h))

pub same_flips : (a b : List ℕ) → is_same_name a b ≡ is_same_name b a
same_flips a b = nat_list_eq_equiv.symm a b

pub same_itself : (a : List ℕ) → is_same_name a a ≡ true
same_itself a = nat_list_eq_equiv.refl a

pub at_name : (a b : List ℕ) → is_at (slice_cmp nat_cmp a) b ≡ is_same_name a b
at_name a b = sym (texts_ties a b)

-- ---- a search among rows

pub number_where-insert : {V : Type 0} (p : V → Bool) (k : ℕ) (v : V) (rows : List (ℕ × V)) → row_at k rows ≡ None → p v ≡ false → number_where p (with_row k v rows) ≡ number_where p rows
number_where-insert p k v [] absent miss = ap (λ b. cond b (Some k) None) miss
number_where-insert {V} p k v (e ∷ rows) absent miss =
    elim (nat_cmp k e.0) as (λ o. cond (is_eq o) (Some e.1) (row_at k rows) ≡ None → number_where p (match_ordering o ((k, v) ∷ e ∷ rows) ((e.0, v) ∷ rows) (e ∷ with_row k v rows)) ≡ number_where p (e ∷ rows)) [
      | Less ↦ λ _. ap (λ b. cond b (Some k) (number_where p (e ∷ rows))) miss
      | Equal ↦ λ h. absurd (cc)
      | Greater ↦ λ h. ap (λ t. cond (p e.1) (Some e.0) t) (number_where-insert p k v rows h miss)
    ] absent

pub number_where-inserted : {V : Type 0} (p : V → Bool) (k : ℕ) (v : V) (rows : List (ℕ × V)) → row_at k rows ≡ None → p v ≡ true → number_where p rows ≡ None → number_where p (with_row k v rows) ≡ Some k
number_where-inserted p k v [] absent hit none = ap (λ b. cond b (Some k) None) hit
number_where-inserted {V} p k v (e ∷ rows) absent hit none =
    elim (nat_cmp k e.0) as (λ o. cond (is_eq o) (Some e.1) (row_at k rows) ≡ None → number_where p (match_ordering o ((k, v) ∷ e ∷ rows) ((e.0, v) ∷ rows) (e ∷ with_row k v rows)) ≡ Some k) [
      | Less ↦ λ _. ap (λ b. cond b (Some k) (number_where p (e ∷ rows))) hit
      | Equal ↦ λ h. absurd (cc)
      | Greater ↦ λ h.
          elim (p e.1) as (λ b. cond b (Some e.0) (number_where p rows) ≡ None → cond b (Some e.0) (number_where p (with_row k v rows)) ≡ Some k) [
            | true ↦ λ t. absurd (cc)
            | false ↦ λ t. number_where-inserted p k v rows h hit t
          ] none
    ] absent

pub number_where-set : {V : Type 0} (p : V → Bool) (k : ℕ) (v w : V) (rows : List (ℕ × V)) → row_at k rows ≡ Some v → p w ≡ p v → number_where p (set_row k w rows) ≡ number_where p rows
number_where-set p k v w [] there same = absurd (cc)
number_where-set {V} p k v w (e ∷ rows) there same =
    elim (is_at (nat_cmp k) e.0) as (λ b. cond b (Some e.1) (row_at k rows) ≡ Some v → number_where p (cond b ((e.0, w) ∷ rows) (e ∷ set_row k w rows)) ≡ number_where p (e ∷ rows)) [
      | true ↦ λ t. let here : e.1 ≡ v = cc in ap (λ b. cond b (Some e.0) (number_where p rows)) (same ∙ ap p (sym here))
      | false ↦ λ t. ap (λ r. cond (p e.1) (Some e.0) r) (number_where-set p k v w rows t same)
    ] there

pub number_where-remove : {V : Type 0} (p : V → Bool) (k : ℕ) (v : V) (rows : List (ℕ × V)) → row_at k rows ≡ Some v → p v ≡ false → number_where p (without_row k rows) ≡ number_where p rows
number_where-remove p k v [] there miss = absurd (cc)
number_where-remove {V} p k v (e ∷ rows) there miss =
    elim (is_at (nat_cmp k) e.0) as (λ b. cond b (Some e.1) (row_at k rows) ≡ Some v → number_where p (cond b rows (e ∷ without_row k rows)) ≡ number_where p (e ∷ rows)) [
      | true ↦ λ t. let here : e.1 ≡ v = cc in sym (ap (λ b. cond b (Some e.0) (number_where p rows)) (ap p here ∙ miss))
      | false ↦ λ t. ap (λ r. cond (p e.1) (Some e.0) r) (number_where-remove p k v rows t miss)
    ] there

-- what no row passes, none of fewer passes
pub number_where-none_removed : {V : Type 0} (p : V → Bool) (k : ℕ) (rows : List (ℕ × V)) → number_where p rows ≡ None → number_where p (without_row k rows) ≡ None
number_where-none_removed p k [] none = refl
number_where-none_removed {V} p k (e ∷ rows) none =
    elim (p e.1) as (λ b. p e.1 ≡ b → cond b (Some e.0) (number_where p rows) ≡ None → number_where p (without_row k (e ∷ rows)) ≡ None) [
      | true ↦ λ _ t. absurd (cc)
      | false ↦ λ no t.
          elim (is_at (nat_cmp k) e.0) as (λ b. number_where p (cond b rows (e ∷ without_row k rows)) ≡ None) [
            | true ↦ t
            | false ↦ ap (λ b. cond b (Some e.0) (number_where p (without_row k rows))) no ∙ number_where-none_removed p k rows t
          ]
    ] refl none

-- what no row passes, the one with this number does not pass
pub none_passes : {V : Type 0} (p : V → Bool) (k : ℕ) (v : V) (rows : List (ℕ × V)) → number_where p rows ≡ None → row_at k rows ≡ Some v → p v ≡ false
none_passes p k v [] none there = absurd (cc)
none_passes {V} p k v (e ∷ rows) none there =
    elim (p e.1) as (λ b. p e.1 ≡ b → cond b (Some e.0) (number_where p rows) ≡ None → p v ≡ false) [
      | true ↦ λ _ t. absurd (cc)
      | false ↦ λ no t.
          elim (is_at (nat_cmp k) e.0) as (λ b. cond b (Some e.1) (row_at k rows) ≡ Some v → p v ≡ false) [
            | true ↦ λ h. let here : e.1 ≡ v = cc in ap p (sym here) ∙ no
            | false ↦ λ h. none_passes p k v rows t h
          ] there
    ] refl none

-- ---- rows whose names are their own

is_none_from : {A : Type 0} (o : Option A) → is_none o ≡ true → o ≡ None
is_none_from None h = refl
is_none_from (Some x) h = absurd (cc)

both : (a b : Bool) → a ≡ true → b ≡ true → (a && b) ≡ true
both a b x y = ap (λ t. t && b) x ∙ y

pub first_apart : {V : Type 0} (name_of : V → List ℕ) (e : ℕ × V) (rows : List (ℕ × V)) → are_apart name_of (e ∷ rows) ≡ true → row_named name_of (name_of e.1) rows ≡ None
first_apart name_of e rows h = is_none_from (row_named name_of (name_of e.1) rows) (and_parts (is_none (row_named name_of (name_of e.1) rows)) (are_apart name_of rows) h).0

pub others_apart : {V : Type 0} (name_of : V → List ℕ) (e : ℕ × V) (rows : List (ℕ × V)) → are_apart name_of (e ∷ rows) ≡ true → are_apart name_of rows ≡ true
others_apart name_of e rows h = (and_parts (is_none (row_named name_of (name_of e.1) rows)) (are_apart name_of rows) h).1

pub apart-insert : {V : Type 0} (name_of : V → List ℕ) (k : ℕ) (v : V) (rows : List (ℕ × V)) → row_at k rows ≡ None → row_named name_of (name_of v) rows ≡ None → are_apart name_of rows ≡ true → are_apart name_of (with_row k v rows) ≡ true
apart-insert name_of k v [] absent free h = refl
apart-insert {V} name_of k v (e ∷ rows) absent free h =
    elim (nat_cmp k e.0) as (λ o. cond (is_eq o) (Some e.1) (row_at k rows) ≡ None → are_apart name_of (match_ordering o ((k, v) ∷ e ∷ rows) ((e.0, v) ∷ rows) (e ∷ with_row k v rows)) ≡ true) [
      | Less ↦ λ _. both (is_none (row_named name_of (name_of v) (e ∷ rows))) (are_apart name_of (e ∷ rows)) (ap is_none free) h
      | Equal ↦ λ t. absurd (cc)
      | Greater ↦ λ t.
          elim (is_same_name (name_of e.1) (name_of v)) as (λ b. is_same_name (name_of e.1) (name_of v) ≡ b → cond b (Some e.0) (row_named name_of (name_of v) rows) ≡ None → are_apart name_of (e ∷ with_row k v rows) ≡ true) [
            | true ↦ λ _ f. absurd (cc)
            | false ↦ λ no f.
                both (is_none (row_named name_of (name_of e.1) (with_row k v rows))) (are_apart name_of (with_row k v rows))
                (ap is_none (number_where-insert (λ row. is_same_name (name_of row) (name_of e.1)) k v rows t (same_flips (name_of v) (name_of e.1) ∙ no) ∙ first_apart name_of e rows h))
                (apart-insert name_of k v rows t f (others_apart name_of e rows h))
          ] refl free
    ] absent

apart-set : {V : Type 0} (name_of : V → List ℕ) (k : ℕ) (v w : V) (rows : List (ℕ × V)) → row_at k rows ≡ Some v → name_of w ≡ name_of v → are_apart name_of (set_row k w rows) ≡ are_apart name_of rows
apart-set name_of k v w [] there same = absurd (cc)
apart-set {V} name_of k v w (e ∷ rows) there same =
    elim (is_at (nat_cmp k) e.0) as (λ b. cond b (Some e.1) (row_at k rows) ≡ Some v → are_apart name_of (cond b ((e.0, w) ∷ rows) (e ∷ set_row k w rows)) ≡ are_apart name_of (e ∷ rows)) [
      | true ↦ λ t. let here : e.1 ≡ v = cc in ap (λ n. is_none (row_named name_of n rows) && are_apart name_of rows) (same ∙ ap name_of (sym here))
      | false ↦ λ t.
          ap (λ r. is_none r && are_apart name_of (set_row k w rows)) (number_where-set (λ row. is_same_name (name_of row) (name_of e.1)) k v w rows t (ap (λ n. is_same_name n (name_of e.1)) same))
          ∙ ap (λ b. is_none (row_named name_of (name_of e.1) rows) && b) (apart-set name_of k v w rows t same)
    ] there

apart-remove : {V : Type 0} (name_of : V → List ℕ) (k : ℕ) (rows : List (ℕ × V)) → are_apart name_of rows ≡ true → are_apart name_of (without_row k rows) ≡ true
apart-remove name_of k [] h = refl
apart-remove {V} name_of k (e ∷ rows) h =
    elim (is_at (nat_cmp k) e.0) as (λ b. are_apart name_of (cond b rows (e ∷ without_row k rows)) ≡ true) [
      | true ↦ others_apart name_of e rows h
      | false ↦
          both (is_none (row_named name_of (name_of e.1) (without_row k rows))) (are_apart name_of (without_row k rows))
          (ap is_none (number_where-none_removed (λ row. is_same_name (name_of row) (name_of e.1)) k rows (first_apart name_of e rows h)))
          (apart-remove name_of k rows (others_apart name_of e rows h))
    ]

-- the name of a row that goes is free
name_freed : {V : Type 0} (name_of : V → List ℕ) (k : ℕ) (v : V) (rows : List (ℕ × V)) → row_at k rows ≡ Some v → are_apart name_of rows ≡ true → row_named name_of (name_of v) (without_row k rows) ≡ None
name_freed name_of k v [] there h = absurd (cc)
name_freed {V} name_of k v (e ∷ rows) there h =
    elim (is_at (nat_cmp k) e.0) as (λ b. cond b (Some e.1) (row_at k rows) ≡ Some v → row_named name_of (name_of v) (cond b rows (e ∷ without_row k rows)) ≡ None) [
      | true ↦ λ t. let here : e.1 ≡ v = cc in ap (λ w. row_named name_of (name_of w) rows) (sym here) ∙ first_apart name_of e rows h
      | false ↦ λ t.
          ap (λ b. cond b (Some e.0) (row_named name_of (name_of v) (without_row k rows)))
          (same_flips (name_of e.1) (name_of v) ∙ none_passes (λ row. is_same_name (name_of row) (name_of e.1)) k v rows (first_apart name_of e rows h) t)
          ∙ name_freed name_of k v rows t (others_apart name_of e rows h)
    ] there

-- ---- the index

-- a row came, and its name
pub index_insert : {V : Type 0} (name_of : V → List ℕ) (names more : List (List ℕ × ℕ)) (k : ℕ) (v : V) (rows : List (ℕ × V)) → row_at k rows ≡ None → row_named name_of (name_of v) rows ≡ None
    → ((name : List ℕ) → named name more ≡ cond (is_at (slice_cmp nat_cmp (name_of v)) name) (Some k) (named name names)) → IsIndex name_of names rows → IsIndex name_of more (with_row k v rows)
index_insert {V} name_of names more k v rows absent free put h = record {
  finds = λ name. put name ∙ ap (λ b. cond b (Some k) (named name names)) (at_name (name_of v) name)
      ∙ elim (is_same_name (name_of v) name) as (λ b. is_same_name (name_of v) name ≡ b → cond b (Some k) (named name names) ≡ row_named name_of name (with_row k v rows)) [
        | true ↦ λ yes. sym (number_where-inserted (λ row. is_same_name (name_of row) name) k v rows absent yes (ap (λ n. row_named name_of n rows) (sym (same_is (name_of v) name yes)) ∙ free))
        | false ↦ λ no. h.finds name ∙ sym (number_where-insert (λ row. is_same_name (name_of row) name) k v rows absent no)
      ] refl;
  apart = apart-insert name_of k v rows absent free h.apart;
}

-- a name came, and went again
pub index_undone : {V : Type 0} (name_of : V → List ℕ) (name : List ℕ) (k : ℕ) (names more less : List (List ℕ × ℕ)) (rows : List (ℕ × V)) → row_named name_of name rows ≡ None
    → ((q : List ℕ) → named q more ≡ cond (is_at (slice_cmp nat_cmp name) q) (Some k) (named q names)) → ((q : List ℕ) → named q less ≡ cond (is_at (slice_cmp nat_cmp name) q) None (named q more))
    → IsIndex name_of names rows → IsIndex name_of less rows
index_undone {V} name_of name k names more less rows free put took h = record {
  finds = λ q. took q ∙ ap (λ b. cond b None (named q more)) (at_name name q)
      ∙ elim (is_same_name name q) as (λ b. is_same_name name q ≡ b → cond b None (named q more) ≡ row_named name_of q rows) [
        | true ↦ λ yes. sym (ap (λ n. row_named name_of n rows) (sym (same_is name q yes)) ∙ free)
        | false ↦ λ no. put q ∙ ap (λ b. cond b (Some k) (named q names)) (at_name name q ∙ no) ∙ h.finds q
      ] refl;
  apart = h.apart;
}

-- a row changed, and kept its name
pub index_set : {V : Type 0} (name_of : V → List ℕ) (names : List (List ℕ × ℕ)) (k : ℕ) (v w : V) (rows : List (ℕ × V)) → row_at k rows ≡ Some v → name_of w ≡ name_of v → IsIndex name_of names rows → IsIndex name_of names (set_row k w rows)
index_set name_of names k v w rows there same h = record {
  finds = λ name. h.finds name ∙ sym (number_where-set (λ row. is_same_name (name_of row) name) k v w rows there (ap (λ n. is_same_name n name) same));
  apart = apart-set name_of k v w rows there same ∙ h.apart;
}

-- a row went, and its name
pub index_remove : {V : Type 0} (name_of : V → List ℕ) (names less : List (List ℕ × ℕ)) (k : ℕ) (v : V) (rows : List (ℕ × V)) → row_at k rows ≡ Some v
    → ((name : List ℕ) → named name less ≡ cond (is_at (slice_cmp nat_cmp (name_of v)) name) None (named name names)) → IsIndex name_of names rows → IsIndex name_of less (without_row k rows)
index_remove {V} name_of names less k v rows there took h = record {
  finds = λ name. took name ∙ ap (λ b. cond b None (named name names)) (at_name (name_of v) name)
      ∙ elim (is_same_name (name_of v) name) as (λ b. is_same_name (name_of v) name ≡ b → cond b None (named name names) ≡ row_named name_of name (without_row k rows)) [
        | true ↦ λ yes. sym (ap (λ n. row_named name_of n (without_row k rows)) (sym (same_is (name_of v) name yes)) ∙ name_freed name_of k v rows there h.apart)
        | false ↦ λ no. h.finds name ∙ sym (number_where-remove (λ row. is_same_name (name_of row) name) k v rows there no)
      ] refl;
  apart = apart-remove name_of k rows h.apart;
}

-- a row was edited, and kept its name
pub index_edit : {V : Type 0} (name_of : V → List ℕ) (names : List (List ℕ × ℕ)) (k : ℕ) (f : V → V) (rows new : List (ℕ × V)) → new ≡ edit_row k f rows → ((v : V) → name_of (f v) ≡ name_of v) → IsIndex name_of names rows → IsIndex name_of names new
index_edit {V} name_of names k f rows new done same h =
    subst (λ (n : List (ℕ × V)). IsIndex name_of names n) (sym done)
    (elim (row_at k rows) as (λ o. row_at k rows ≡ o → IsIndex name_of names (edited k f rows o)) [
      | None ↦ λ _. h
      | Some v ↦ λ there. index_set name_of names k v (f v) rows there (same v) h
    ] refl)
