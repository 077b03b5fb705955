-- A table that is filled from rows in ascending order.
use Rattle.std.proofs.Common.{◌≡◌, ℕ, Bool, true, false, cond, ◌&&◌, List, [], ◌∷◌, ◌++◌, Option, Some, None, is_some, Result, Ok, refl, sym, ap, subst, ◌∙◌, append_assoc, arith}
use Rattle.std.proofs.lemmas.Bool.{and_parts}
use Rattle.std.proofs.lemmas.Map.Keys.{sorted_head, sorted_tail}
use Rattle.std.specs.List.{AllByRecursion}
use Rattle.std.specs.List.Sorted.{IsStrictlySortedBy}
use Rattle.std.specs.Map.{keys_of}
use Rattle.std.specs.Ordering.{nat_cmp, is_eq, match_ordering}
use Rattle.std.specs.declared.cmp.Ordering.TheVariants.{Less, Greater}
use Rattle.volume_rows.specs.kinds.declared.refusal.Refusal.{Refusal}
use Rattle.volume_rows.specs.declared.volume.Volume.{Volume}
use Rattle.volume_rows.specs.kinds.Names.{is_same_name}
use Rattle.pool_tables.specs.Rows.{row_at, with_row, number_where}
use Rattle.pool_tables.specs.Names.{row_named, are_apart}
use Rattle.pool_tables.specs.Scratch.{is_rightly_named, are_rightly_named}
use Rattle.pool_tables.specs.Counted.{IsSound}
use Rattle.pool_tables.proofs.Names.{same_flips, first_apart, others_apart, apart-insert}

middle : {V : Type 0} (P : ℕ → Type 0) (xs : List (ℕ × V)) (k : ℕ) (v : V) (ys : List (ℕ × V)) → AllByRecursion P (keys_of (xs ++ (k, v) ∷ ys)) → P k
middle P [] k v ys all = all.0
middle P (e ∷ xs) k v ys all = middle P xs k v ys all.1

above : (a b : ℕ) → nat_cmp a b ≡ Less → nat_cmp b a ≡ Greater
above a b h = grind arith

-- a row behind all others stands at the end
pub last_row : {V : Type 0} (xs : List (ℕ × V)) (k : ℕ) (v : V) (ys : List (ℕ × V)) → IsStrictlySortedBy nat_cmp (keys_of (xs ++ (k, v) ∷ ys)) → (with_row k v xs ≡ xs ++ (k, v) ∷ []) × (row_at k xs ≡ None)
last_row [] k v ys sorted = (refl, refl)
last_row {V} (e ∷ xs) k v ys sorted =
    let greater : nat_cmp k e.0 ≡ Greater = above e.0 k (middle (λ y. nat_cmp e.0 y ≡ Less) xs k v ys (sorted_head nat_cmp e.0 (keys_of (xs ++ (k, v) ∷ ys)) sorted)) in
    let rest = last_row xs k v ys (sorted_tail nat_cmp e.0 (keys_of (xs ++ (k, v) ∷ ys)) sorted) in (
      ap (λ o. match_ordering o ((k, v) ∷ e ∷ xs) ((e.0, v) ∷ xs) (e ∷ with_row k v xs)) greater ∙ ap (λ (r : List (ℕ × V)). e ∷ r) rest.0,
      ap (λ o. cond (is_eq o) (Some e.1) (row_at k xs)) greater ∙ rest.1,
    )

passes_not : {V : Type 0} (p : V → Bool) (xs : List (ℕ × V)) (e : ℕ × V) (ys : List (ℕ × V)) → number_where p (xs ++ e ∷ ys) ≡ None → p e.1 ≡ false
passes_not p [] e ys none = elim (p e.1) as (λ b. cond b (Some e.0) (number_where p ys) ≡ None → b ≡ false) [ true ↦ λ t. absurd (cc) | false ↦ λ _. refl ] none
passes_not p (x ∷ xs) e ys none = elim (p x.1) as (λ b. cond b (Some x.0) (number_where p (xs ++ e ∷ ys)) ≡ None → p e.1 ≡ false) [ true ↦ λ t. absurd (cc) | false ↦ λ t. passes_not p xs e ys t ] none

-- where the names are the rows' own, none before a row has its name
pub free_before : {V : Type 0} (name_of : V → List ℕ) (xs : List (ℕ × V)) (e : ℕ × V) (ys : List (ℕ × V)) → are_apart name_of (xs ++ e ∷ ys) ≡ true → row_named name_of (name_of e.1) xs ≡ None
free_before name_of [] e ys h = refl
free_before {V} name_of (x ∷ xs) e ys h =
    ap (λ b. cond b (Some x.0) (row_named name_of (name_of e.1) xs))
    (same_flips (name_of x.1) (name_of e.1) ∙ passes_not (λ row. is_same_name (name_of row) (name_of x.1)) xs e ys (first_apart name_of x (xs ++ e ∷ ys) h))
    ∙ free_before name_of xs e ys (others_apart name_of x (xs ++ e ∷ ys) h)

-- a name that was there before: the names are not all the rows' own
pub name_twice : {V : Type 0} (name_of : V → List ℕ) (xs : List (ℕ × V)) (k : ℕ) (v : V) (ys all : List (ℕ × V)) → xs ++ (k, v) ∷ ys ≡ all → is_some (row_named name_of (name_of v) xs) ≡ true → are_apart name_of all ≡ false
name_twice name_of xs k v ys all whole there =
    elim (are_apart name_of all) as (λ b. are_apart name_of all ≡ b → b ≡ false) [
      | true ↦ λ h.
          let free : row_named name_of (name_of v) xs ≡ None = free_before name_of xs (k, v) ys (ap (are_apart name_of) whole ∙ h) in
          absurd (let clash : false ≡ true = sym (ap is_some free) ∙ there in cc)
      | false ↦ λ _. refl
    ] refl

-- a volume that is not rightly named
pub wrongly_named : (xs : List (ℕ × Volume)) (k : ℕ) (v : Volume) (ys all : List (ℕ × Volume)) → xs ++ (k, v) ∷ ys ≡ all → is_rightly_named k v ≡ false → are_rightly_named all ≡ false
wrongly_named [] k v ys all whole wrong = sym (ap are_rightly_named whole) ∙ ap (λ b. b && are_rightly_named ys) wrong
wrongly_named (x ∷ xs) k v ys all whole wrong =
    sym (ap are_rightly_named whole) ∙ ap (λ b. is_rightly_named x.0 x.1 && b) (wrongly_named xs k v ys (xs ++ (k, v) ∷ ys) refl wrong)
    ∙ elim (is_rightly_named x.0 x.1) as (λ b. (b && false) ≡ false) [ true ↦ refl | false ↦ refl ]

pub neither : (a b : Bool) → b ≡ false → (a && b) ≡ false
neither a b h = ap (λ t. a && t) h ∙ elim a as (λ x. (x && false) ≡ false) [ true ↦ refl | false ↦ refl ]

pub also_named : (xs : List (ℕ × Volume)) (k : ℕ) (v : Volume) → are_rightly_named xs ≡ true → is_rightly_named k v ≡ true → are_rightly_named (xs ++ (k, v) ∷ []) ≡ true
also_named [] k v h named = ap (λ b. b && true) named
also_named (x ∷ xs) k v h named =
    let parts = and_parts (is_rightly_named x.0 x.1) (are_rightly_named xs) h in
    ap (λ b. b && are_rightly_named (xs ++ (k, v) ∷ [])) parts.0 ∙ also_named xs k v parts.1 named

-- volumes of which each is sound
pub sound_named : (xs : List (ℕ × Volume)) → AllByRecursion (λ (e : ℕ × Volume). IsSound e.0 e.1) xs → are_rightly_named xs ≡ true
sound_named [] all = refl
sound_named (x ∷ xs) all = ap (λ b. b && are_rightly_named xs) all.0.named ∙ sound_named xs all.1

pub both : (a b : Bool) → a ≡ true → b ≡ true → (a && b) ≡ true
both a b x y = ap (λ t. t && b) x ∙ y

pub none_from : {A : Type 0} (o : Option A) → is_some o ≡ false → o ≡ None
none_from None h = refl
none_from (Some x) h = absurd (cc)

same_Ok : {A : Type 0} (x y : A) → (let a : Result A Refusal = Ok x in let b : Result A Refusal = Ok y in a ≡ b) → x ≡ y
same_Ok x y h = cc

-- the rows so far and those to come, with one row more
pub record NextRow {V : Type 0} (name_of : V → List ℕ) (xs new : List (ℕ × V)) (k : ℕ) (v : V) (ys all : List (ℕ × V)) : Type 0 where
  pub whole : new ++ ys ≡ all
  pub apart : are_apart name_of new ≡ true
  pub last : new ≡ xs ++ (k, v) ∷ []

pub row_absent : {V : Type 0} (xs : List (ℕ × V)) (k : ℕ) (v : V) (ys it all : List (ℕ × V)) → it ≡ (k, v) ∷ ys → xs ++ it ≡ all → IsStrictlySortedBy nat_cmp (keys_of all) → row_at k xs ≡ None
row_absent {V} xs k v ys it all first whole sorted =
    let e : xs ++ (k, v) ∷ ys ≡ all = ap (λ (r : List (ℕ × V)). xs ++ r) (sym first) ∙ whole in
    (last_row xs k v ys (subst (λ (r : List (ℕ × V)). IsStrictlySortedBy nat_cmp (keys_of r)) (sym e) sorted)).1

pub next_row : {V : Type 0} (name_of : V → List ℕ) (xs new : List (ℕ × V)) (k : ℕ) (v : V) (ys it all : List (ℕ × V)) → it ≡ (k, v) ∷ ys → xs ++ it ≡ all → IsStrictlySortedBy nat_cmp (keys_of all)
    → (let a : Result (List (ℕ × V)) Refusal = Ok (with_row k v xs) in let b : Result (List (ℕ × V)) Refusal = Ok new in a ≡ b) → row_named name_of (name_of v) xs ≡ None → are_apart name_of xs ≡ true → NextRow name_of xs new k v ys all
next_row {V} name_of xs new k v ys it all first whole sorted put free apart =
    let e : xs ++ (k, v) ∷ ys ≡ all = ap (λ (r : List (ℕ × V)). xs ++ r) (sym first) ∙ whole in
    let at = last_row xs k v ys (subst (λ (r : List (ℕ × V)). IsStrictlySortedBy nat_cmp (keys_of r)) (sym e) sorted) in
    let came : with_row k v xs ≡ new = same_Ok (with_row k v xs) new put in
    let end : new ≡ xs ++ (k, v) ∷ [] = sym came ∙ at.0 in
    record {
      whole = ap (λ (r : List (ℕ × V)). r ++ ys) end ∙ append_assoc xs ((k, v) ∷ []) ys ∙ e;
      apart = ap (are_apart name_of) (sym came) ∙ apart-insert name_of k v xs at.1 free apart;
      last = end;
    }

-- the first of the rows to come has a name that was there
pub twice_so : {V : Type 0} (name_of : V → List ℕ) (xs : List (ℕ × V)) (k : ℕ) (v : V) (ys it all : List (ℕ × V)) → it ≡ (k, v) ∷ ys → xs ++ it ≡ all → is_some (row_named name_of (name_of v) xs) ≡ true → are_apart name_of all ≡ false
twice_so {V} name_of xs k v ys it all first whole there = name_twice name_of xs k v ys all (ap (λ (r : List (ℕ × V)). xs ++ r) (sym first) ∙ whole) there

-- or one that is not of its kind
pub wrong_so : (xs : List (ℕ × Volume)) (k : ℕ) (v : Volume) (ys it all : List (ℕ × Volume)) → it ≡ (k, v) ∷ ys → xs ++ it ≡ all → is_rightly_named k v ≡ false → are_rightly_named all ≡ false
wrong_so xs k v ys it all first whole wrong = wrongly_named xs k v ys all (ap (λ (r : List (ℕ × Volume)). xs ++ r) (sym first) ∙ whole) wrong
