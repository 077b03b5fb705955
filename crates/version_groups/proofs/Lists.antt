-- Laws of the lists of copies and of versions.
use Rattle.std.proofs.Common.{◌≡◌, ℕ, ◌+◌, ◌-◌, ◌<◌, ◌≤◌, Bool, true, false, cond, not, ◌&&◌, ◌||◌, suc, zero, eqb, ltb, nat_lt, List, [], ◌∷◌, length, get_or, take, drop, map, Option, Some, None, Result, Ok, Err, refl, sym, ap, subst, ◌∙◌, arith, add-one}
use Rattle.std.proofs.Math.Seq.{drop-cons}
use Rattle.std.proofs.lemmas.List.{drop_all, take_rest}
use Rattle.std.proofs.lemmas.Option.{slice_get-get_or}
use Rattle.std.proofs.lemmas.Bool.{and_parts, and_from, or_parts, or_from, not-true, not-false, ltb-true, ltb-false, eqb-true, eqb-false, eq-eqb, ne_eqb, lt-ltb, le-ltb, not_from_false, false≢true}
use Rattle.std.specs.List.{list_all, list_any, filter, insert, slice_get, slice_set, find}
use Rattle.version_groups.specs.declared.copies.CopyRow.{CopyRow}
use Rattle.version_groups.specs.declared.versions.Version.{Version}
use Rattle.version_groups.specs.Entries.{all_later}
use Rattle.version_groups.specs.Copies.{has_copy, are_by_pool, without_copy, with_copy, place_of}
use Rattle.version_groups.specs.Versions.{has_object, are_distinct, version_of, superseded, undone, without_object, with_copies, having_copies}

-- ---- a loop from the front
pub drop_at : {X : Type 0} (xs : List X) (i : ℕ) (d : X) → i < length xs → drop i xs ≡ get_or xs i d ∷ drop (i + 1) xs
drop_at xs i d l = rw add-one (drop-cons xs i d l)

-- one more row is so related to each later one
pub all_later-more : {X : Type 0} (r : X → X → Bool) (xs : List X) (i : ℕ) (d : X) → i < length xs → list_all (r (get_or xs i d)) (take (length xs - (i + 1)) (drop (i + 1) xs)) ≡ true → all_later r (drop i xs) ≡ all_later r (drop (i + 1) xs)
all_later-more r xs i d l h =
    ap (all_later r) (drop_at xs i d l) ∙ ap (λ b. b && all_later r (drop (i + 1) xs)) (ap (list_all (r (get_or xs i d))) (sym (take_rest xs (i + 1))) ∙ h)

-- this row is not
pub all_later-stop : {X : Type 0} (r : X → X → Bool) (xs : List X) (i : ℕ) (d : X) → i < length xs → list_all (r (get_or xs i d)) (take (length xs - (i + 1)) (drop (i + 1) xs)) ≡ false → all_later r (drop i xs) ≡ false
all_later-stop r xs i d l h =
    ap (all_later r) (drop_at xs i d l) ∙ ap (λ b. b && all_later r (drop (i + 1) xs)) (ap (list_all (r (get_or xs i d))) (sym (take_rest xs (i + 1))) ∙ h)

-- each row was so related
pub all_later-all : {X : Type 0} (r : X → X → Bool) (xs : List X) (i : ℕ) → length xs ≤ i → all_later r (drop i xs) ≡ true
all_later-all r xs i l = ap (all_later r) (drop_all i xs l)

-- ---- a filter
pub list_all-filter : {X : Type 0} (p q : X → Bool) (xs : List X) → list_all p xs ≡ true → list_all p (filter q xs) ≡ true
list_all-filter p q [] h = refl
list_all-filter p q (x ∷ xs) h =
    let hs : (p x ≡ true) × (list_all p xs ≡ true) = and_parts (p x) (list_all p xs) h in
    elim (q x) as (λ b. list_all p (cond b (x ∷ filter q xs) (filter q xs)) ≡ true) [
      | true ↦ and_from (p x) (list_all p (filter q xs)) hs.0 (list_all-filter p q xs hs.1)
      | false ↦ list_all-filter p q xs hs.1
    ]

pub all_later-filter : {X : Type 0} (r : X → X → Bool) (q : X → Bool) (xs : List X) → all_later r xs ≡ true → all_later r (filter q xs) ≡ true
all_later-filter r q [] h = refl
all_later-filter r q (x ∷ xs) h =
    let hs : (list_all (r x) xs ≡ true) × (all_later r xs ≡ true) = and_parts (list_all (r x) xs) (all_later r xs) h in
    elim (q x) as (λ b. all_later r (cond b (x ∷ filter q xs) (filter q xs)) ≡ true) [
      | true ↦ and_from (list_all (r x) (filter q xs)) (all_later r (filter q xs)) (list_all-filter (r x) q xs hs.0) (all_later-filter r q xs hs.1)
      | false ↦ all_later-filter r q xs hs.1
    ]

-- a filter that leaves something out
pub length-filter : {X : Type 0} (q : X → Bool) (xs : List X) → length (filter q xs) ≤ length xs
length-filter q [] = omega arith
length-filter q (x ∷ xs) =
    elim (q x) as (λ b. length (cond b (x ∷ filter q xs) (filter q xs)) ≤ length (x ∷ xs)) [
      | true ↦ omega (arith, length-filter q xs)
      | false ↦ omega (arith, length-filter q xs)
    ]

pub length-filter_some : {X : Type 0} (p : X → Bool) (xs : List X) → list_any p xs ≡ true → length (filter (λ x. not (p x)) xs) < length xs
length-filter_some p [] h = absurd (false≢true h)
length-filter_some p (x ∷ xs) h =
    elim (p x) as (λ b. (b || list_any p xs) ≡ true → length (cond (not b) (x ∷ filter (λ y. not (p y)) xs) (filter (λ y. not (p y)) xs)) < length (x ∷ xs)) [
      | true ↦ λ _. omega (arith, length-filter (λ y. not (p y)) xs)
      | false ↦ λ t. omega (arith, length-filter_some p xs t)
    ] h

-- ---- copies
pub place_of-within : (pool : ℕ) (cs : List CopyRow) → place_of pool cs ≤ length cs
place_of-within pool [] = omega arith
place_of-within pool (c ∷ cs) =
    elim (nat_lt pool c.pool) as (λ b. cond b 0 (place_of pool cs + 1) ≤ length (c ∷ cs)) [
      | true ↦ omega arith
      | false ↦ omega (arith, place_of-within pool cs)
    ]

pub place_of-here : (pool : ℕ) (cs : List CopyRow) (i : ℕ) (d : CopyRow) → i < length cs → pool < (get_or cs i d).pool → place_of pool cs ≡ place_of pool (drop i cs) + i → i ≡ place_of pool cs
place_of-here pool cs i d l h so =
    let e : place_of pool (drop i cs) ≡ 0 = ap (place_of pool) (drop_at cs i d l) ∙ ap (λ b. cond b 0 (place_of pool (drop (i + 1) cs) + 1)) (lt-ltb pool (get_or cs i d).pool h) in
    omega arith

pub place_of-further : (pool : ℕ) (cs : List CopyRow) (i : ℕ) (d : CopyRow) → i < length cs → (get_or cs i d).pool ≤ pool → place_of pool cs ≡ place_of pool (drop i cs) + i → place_of pool cs ≡ place_of pool (drop (i + 1) cs) + (i + 1)
place_of-further pool cs i d l h so =
    let e : place_of pool (drop i cs) ≡ place_of pool (drop (i + 1) cs) + 1 = ap (place_of pool) (drop_at cs i d l) ∙ ap (λ b. cond b 0 (place_of pool (drop (i + 1) cs) + 1)) (le-ltb pool (get_or cs i d).pool h) in
    omega arith

pub place_of-end : (pool : ℕ) (cs : List CopyRow) (i : ℕ) → length cs ≤ i → i ≤ length cs → place_of pool cs ≡ place_of pool (drop i cs) + i → length cs ≡ place_of pool cs
place_of-end pool cs i l m so =
    let e : place_of pool (drop i cs) ≡ 0 = ap (place_of pool) (drop_all i cs l) in
    omega arith

pub insert-with_copy : (copy : CopyRow) (cs : List CopyRow) → insert cs (place_of copy.pool cs) copy ≡ with_copy copy cs
insert-with_copy copy [] = refl
insert-with_copy copy (c ∷ cs) =
    elim (nat_lt copy.pool c.pool) as (λ b. insert (c ∷ cs) (cond b 0 (place_of copy.pool cs + 1)) copy ≡ cond b (copy ∷ c ∷ cs) (c ∷ with_copy copy cs)) [
      | true ↦ refl
      | false ↦ rw add-one (ap (λ t. c ∷ t) (insert-with_copy copy cs))
    ]

list_all-with_copy : (p : CopyRow → Bool) (copy : CopyRow) (cs : List CopyRow) → p copy ≡ true → list_all p cs ≡ true → list_all p (with_copy copy cs) ≡ true
list_all-with_copy p copy [] h t = and_from (p copy) true h refl
list_all-with_copy p copy (c ∷ cs) h t =
    let ts : (p c ≡ true) × (list_all p cs ≡ true) = and_parts (p c) (list_all p cs) t in
    elim (nat_lt copy.pool c.pool) as (λ b. list_all p (cond b (copy ∷ c ∷ cs) (c ∷ with_copy copy cs)) ≡ true) [
      | true ↦ and_from (p copy) (list_all p (c ∷ cs)) h t
      | false ↦ and_from (p c) (list_all p (with_copy copy cs)) ts.0 (list_all-with_copy p copy cs h ts.1)
    ]

-- what lies above a pool lies above each lower one
all_above : (a b : ℕ) (cs : List CopyRow) → a < b → list_all (λ d. nat_lt b d.pool) cs ≡ true → list_all (λ d. nat_lt a d.pool) cs ≡ true
all_above a b [] l h = refl
all_above a b (c ∷ cs) l h =
    let hs : (nat_lt b c.pool ≡ true) × (list_all (λ d. nat_lt b d.pool) cs ≡ true) = and_parts (nat_lt b c.pool) (list_all (λ d. nat_lt b d.pool) cs) h in
    and_from (nat_lt a c.pool) (list_all (λ d. nat_lt a d.pool) cs) (let w : a < c.pool = omega (arith, ltb-true b c.pool hs.0) in lt-ltb a c.pool w) (all_above a b cs l hs.1)

pub by_pool-with_copy : (copy : CopyRow) (cs : List CopyRow) → has_copy copy.pool cs ≡ false → are_by_pool cs ≡ true → are_by_pool (with_copy copy cs) ≡ true
by_pool-with_copy copy [] n h = refl
by_pool-with_copy copy (c ∷ cs) n h =
    let ns : (eqb c.pool copy.pool ≡ false) × (has_copy copy.pool cs ≡ false) = or_parts (eqb c.pool copy.pool) (has_copy copy.pool cs) n in
    let hs : (list_all (λ d. nat_lt c.pool d.pool) cs ≡ true) × (are_by_pool cs ≡ true) = and_parts (list_all (λ d. nat_lt c.pool d.pool) cs) (are_by_pool cs) h in
    elim (nat_lt copy.pool c.pool) as (λ b. nat_lt copy.pool c.pool ≡ b → are_by_pool (cond b (copy ∷ c ∷ cs) (c ∷ with_copy copy cs)) ≡ true) [
      | true ↦ λ e. and_from (list_all (λ d. nat_lt copy.pool d.pool) (c ∷ cs)) (are_by_pool (c ∷ cs)) (and_from (nat_lt copy.pool c.pool) (list_all (λ d. nat_lt copy.pool d.pool) cs) e (all_above copy.pool c.pool cs (ltb-true copy.pool c.pool e) hs.0)) h
      | false ↦ λ e.
          let ne : c.pool ≡ copy.pool → ⊥ = eqb-false c.pool copy.pool ns.0 in
          let le : c.pool ≤ copy.pool = ltb-false copy.pool c.pool e in
          let below : c.pool < copy.pool = omega arith in
          and_from (list_all (λ d. nat_lt c.pool d.pool) (with_copy copy cs)) (are_by_pool (with_copy copy cs)) (list_all-with_copy (λ d. nat_lt c.pool d.pool) copy cs (lt-ltb c.pool copy.pool below) hs.0) (by_pool-with_copy copy cs ns.1 hs.1)
    ] refl

pub by_pool-without_copy : (pool : ℕ) (cs : List CopyRow) → are_by_pool cs ≡ true → are_by_pool (without_copy pool cs) ≡ true
by_pool-without_copy pool cs h = all_later-filter (λ (a b : CopyRow). nat_lt a.pool b.pool) (λ (c : CopyRow). not (eqb c.pool pool)) cs h

-- a pool that has no copy has none of those that are left
pub still_free : (pool from : ℕ) (cs : List CopyRow) → has_copy pool cs ≡ false → has_copy pool (without_copy from cs) ≡ false
still_free pool from [] h = refl
still_free pool from (c ∷ cs) h =
    let hs : (eqb c.pool pool ≡ false) × (has_copy pool cs ≡ false) = or_parts (eqb c.pool pool) (has_copy pool cs) h in
    elim (eqb c.pool from) as (λ b. has_copy pool (cond (not b) (c ∷ without_copy from cs) (without_copy from cs)) ≡ false) [
      | true ↦ still_free pool from cs hs.1
      | false ↦ or_from (eqb c.pool pool) (has_copy pool (without_copy from cs)) hs.0 (still_free pool from cs hs.1)
    ]

-- ---- versions
pub distinct-without_object : (object : ℕ) (vs : List Version) → are_distinct vs ≡ true → are_distinct (without_object object vs) ≡ true
distinct-without_object object vs h = all_later-filter (λ (v w : Version). not (eqb w.object v.object)) (λ (v : Version). not (eqb v.object object)) vs h

-- none of the versions is of the object
abbrev pub are_of_others : ℕ → List Version → Bool
are_of_others object vs = list_all (λ w. not (eqb w.object object)) vs

pub of_others : (object : ℕ) (vs : List Version) → has_object object vs ≡ false → are_of_others object vs ≡ true
of_others object [] h = refl
of_others object (v ∷ vs) h =
    let hs : (eqb v.object object ≡ false) × (has_object object vs ≡ false) = or_parts (eqb v.object object) (has_object object vs) h in
    and_from (not (eqb v.object object)) (are_of_others object vs) (not_from_false (eqb v.object object) hs.0) (of_others object vs hs.1)

pub of_others-superseded : (object day : ℕ) (vs : List Version) → are_of_others object (superseded day vs) ≡ are_of_others object vs
of_others-superseded object day [] = refl
of_others-superseded object day (v ∷ vs) = elim v.since as (λ s. are_of_others object (superseded day (record v { since = s } ∷ vs)) ≡ are_of_others object (v ∷ vs)) [ None ↦ refl | Some d ↦ refl ]

pub distinct-superseded : (day : ℕ) (vs : List Version) → are_distinct (superseded day vs) ≡ are_distinct vs
distinct-superseded day [] = refl
distinct-superseded day (v ∷ vs) = elim v.since as (λ s. are_distinct (superseded day (record v { since = s } ∷ vs)) ≡ are_distinct (v ∷ vs)) [ None ↦ refl | Some d ↦ refl ]

pub distinct-put : (v : Version) (vs : List Version) → has_object v.object vs ≡ false → are_distinct vs ≡ true → are_distinct (v ∷ superseded v.stored vs) ≡ true
distinct-put v vs n h =
    and_from (are_of_others v.object (superseded v.stored vs)) (are_distinct (superseded v.stored vs)) (of_others-superseded v.object v.stored vs ∙ of_others v.object vs n) (distinct-superseded v.stored vs ∙ h)

pub distinct-undone : (active : Bool) (vs : List Version) → are_distinct vs ≡ true → are_distinct (undone active vs) ≡ true
distinct-undone active [] h = refl
distinct-undone active (v ∷ []) h = elim active as (λ b. are_distinct (undone b (v ∷ [])) ≡ true) [ true ↦ refl | false ↦ refl ]
distinct-undone active (v ∷ w ∷ vs) h =
    let hs : (are_of_others v.object (w ∷ vs) ≡ true) × (are_distinct (w ∷ vs) ≡ true) = and_parts (are_of_others v.object (w ∷ vs)) (are_distinct (w ∷ vs)) h in
    elim active as (λ b. are_distinct (undone b (v ∷ w ∷ vs)) ≡ true) [ true ↦ hs.1 | false ↦ hs.1 ]

number_stays : (object : ℕ) (copies : List CopyRow) (v : Version) → (having_copies object copies v).object ≡ v.object
number_stays object copies v = elim (eqb v.object object) as (λ b. (cond {A = Version} b (record v { copies = copies }) v).object ≡ v.object) [ true ↦ refl | false ↦ refl ]

of_others-with_copies : (n object : ℕ) (copies : List CopyRow) (vs : List Version) → are_of_others n (with_copies object copies vs) ≡ are_of_others n vs
of_others-with_copies n object copies [] = refl
of_others-with_copies n object copies (v ∷ vs) = ap (λ k. not (eqb k n) && are_of_others n (with_copies object copies vs)) (number_stays object copies v) ∙ ap (λ t. not (eqb v.object n) && t) (of_others-with_copies n object copies vs)

pub distinct-with_copies : (object : ℕ) (copies : List CopyRow) (vs : List Version) → are_distinct (with_copies object copies vs) ≡ are_distinct vs
distinct-with_copies object copies [] = refl
distinct-with_copies object copies (v ∷ vs) =
    ap (λ k. are_of_others k (with_copies object copies vs) && are_distinct (with_copies object copies vs)) (number_stays object copies v)
    ∙ ap (λ t. t && are_distinct (with_copies object copies vs)) (of_others-with_copies v.object object copies vs)
    ∙ ap (λ t. are_of_others v.object vs && t) (distinct-with_copies object copies vs)

-- versions of other objects keep their copies
with_copies-others : (object : ℕ) (copies : List CopyRow) (vs : List Version) → are_of_others object vs ≡ true → with_copies object copies vs ≡ vs
with_copies-others object copies [] h = refl
with_copies-others object copies (v ∷ vs) h =
    let hs : (not (eqb v.object object) ≡ true) × (are_of_others object vs ≡ true) = and_parts (not (eqb v.object object)) (are_of_others object vs) h in
    ap (λ b. cond {A = Version} b (record v { copies = copies }) v ∷ with_copies object copies vs) (not-true (eqb v.object object) hs.0) ∙ ap (λ t. v ∷ t) (with_copies-others object copies vs hs.1)

-- a version among those of other objects than n isn't of n
apart : (vs : List Version) (i : ℕ) (v : Version) (n : ℕ) → are_of_others n vs ≡ true → slice_get vs i ≡ Some v → eqb v.object n ≡ false
apart [] i v n h g = absurd (cc)
apart (w ∷ vs) zero v n h g =
    let same : w ≡ v = cc in
    let hs : (not (eqb w.object n) ≡ true) × (are_of_others n vs ≡ true) = and_parts (not (eqb w.object n)) (are_of_others n vs) h in
    ap (λ (t : Version). eqb t.object n) (sym same) ∙ not-true (eqb w.object n) hs.0
apart (w ∷ vs) (suc i) v n h g =
    let hs : (not (eqb w.object n) ≡ true) × (are_of_others n vs ≡ true) = and_parts (not (eqb w.object n)) (are_of_others n vs) h in
    apart vs i v n hs.1 g

eqb-swap : (a b : ℕ) → eqb a b ≡ false → eqb b a ≡ false
eqb-swap a b h = ne_eqb b a (λ e. eqb-false a b h (sym e))

-- the version at a place, among versions of which no two are of one object, is its object's version
pub version_of-at : (vs : List Version) (i : ℕ) (v : Version) → are_distinct vs ≡ true → slice_get vs i ≡ Some v → version_of v.object vs ≡ Some v
version_of-at [] i v h g = absurd (cc)
version_of-at (w ∷ vs) zero v h g =
    let same : w ≡ v = cc in
    ap (λ b. cond b (Some w) (version_of v.object vs)) (eq-eqb w.object v.object (ap (λ (t : Version). t.object) same)) ∙ g
version_of-at (w ∷ vs) (suc i) v h g =
    let hs : (are_of_others w.object vs ≡ true) × (are_distinct vs ≡ true) = and_parts (are_of_others w.object vs) (are_distinct vs) h in
    ap (λ b. cond b (Some w) (version_of v.object vs)) (eqb-swap v.object w.object (apart vs i v w.object hs.0 g)) ∙ version_of-at vs i v hs.1 g

-- other copies at a version's place are other copies of its object's version
pub put-with_copies : (vs : List Version) (i : ℕ) (v : Version) (copies : List CopyRow) → are_distinct vs ≡ true → slice_get vs i ≡ Some v → slice_set vs i (record v { copies = copies }) ≡ with_copies v.object copies vs
put-with_copies [] i v copies h g = absurd (cc)
put-with_copies (w ∷ vs) zero v copies h g =
    let same : w ≡ v = cc in
    let hs : (are_of_others w.object vs ≡ true) × (are_distinct vs ≡ true) = and_parts (are_of_others w.object vs) (are_distinct vs) h in
    let others : with_copies v.object copies vs ≡ vs = with_copies-others v.object copies vs (ap (λ (t : Version). are_of_others t.object vs) (sym same) ∙ hs.0) in
    let here : having_copies v.object copies w ≡ record v { copies = copies } =
    ap (λ (t : Version). having_copies v.object copies t) same ∙ ap (λ b. cond {A = Version} b (record v { copies = copies }) v) (eq-eqb v.object v.object refl) in
    ap (λ t. record v { copies = copies } ∷ t) (sym others) ∙ ap (λ t. t ∷ with_copies v.object copies vs) (sym here)
put-with_copies (w ∷ vs) (suc i) v copies h g =
    let hs : (are_of_others w.object vs ≡ true) × (are_distinct vs ≡ true) = and_parts (are_of_others w.object vs) (are_distinct vs) h in
    ap (λ t. w ∷ t) (put-with_copies vs i v copies hs.1 g)
    ∙ ap (λ b. cond {A = Version} b (record w { copies = copies }) w ∷ with_copies v.object copies vs) (sym (eqb-swap v.object w.object (apart vs i v w.object hs.0 g)))

-- no version passes the test of a place, where no place does
pub version_of-none : (object : ℕ) (vs : List Version) → has_object object vs ≡ false → version_of object vs ≡ None
version_of-none object [] h = refl
version_of-none object (v ∷ vs) h =
    let hs : (eqb v.object object ≡ false) × (has_object object vs ≡ false) = or_parts (eqb v.object object) (has_object object vs) h in
    ap (λ b. cond b (Some v) (version_of object vs)) hs.0 ∙ version_of-none object vs hs.1

-- the version that is found is of the object
pub version_of-object : (object : ℕ) (vs : List Version) (v : Version) → version_of object vs ≡ Some v → v.object ≡ object
version_of-object object [] v h = absurd (cc)
version_of-object object (w ∷ vs) v h =
    elim (eqb w.object object) as (λ b. eqb w.object object ≡ b → cond b (Some w) (version_of object vs) ≡ Some v → v.object ≡ object) [
      | true ↦ λ e g. let same : w ≡ v = cc in ap (λ (t : Version). t.object) (sym same) ∙ eqb-true w.object object e
      | false ↦ λ e g. version_of-object object vs v g
    ] refl h

-- a loop that looks for the object's version
pub version_of-here : (object : ℕ) (vs : List Version) (i : ℕ) (d : Version) → i < length vs → (get_or vs i d).object ≡ object → version_of object vs ≡ version_of object (drop i vs) → version_of object vs ≡ slice_get vs i
version_of-here object vs i d l h so =
    so ∙ ap (version_of object) (drop_at vs i d l) ∙ ap (λ b. cond b (Some (get_or vs i d)) (version_of object (drop (i + 1) vs))) (eq-eqb (get_or vs i d).object object h) ∙ sym (slice_get-get_or vs i d l)

pub version_of-further : (object : ℕ) (vs : List Version) (i : ℕ) (d : Version) → i < length vs → ((get_or vs i d).object ≡ object → ⊥) → version_of object vs ≡ version_of object (drop i vs) → version_of object vs ≡ version_of object (drop (i + 1) vs)
version_of-further object vs i d l h so =
    so ∙ ap (version_of object) (drop_at vs i d l) ∙ ap (λ b. cond b (Some (get_or vs i d)) (version_of object (drop (i + 1) vs))) (ne_eqb (get_or vs i d).object object h)

pub version_of-end : (object : ℕ) (vs : List Version) (i : ℕ) → length vs ≤ i → version_of object vs ≡ version_of object (drop i vs) → version_of object vs ≡ None
version_of-end object vs i l so = so ∙ ap (version_of object) (drop_all i vs l)

-- what is written back to its place changes nothing
pub set-get : {X : Type 0} (xs : List X) (i : ℕ) (d : X) → slice_set xs i (get_or xs i d) ≡ xs
set-get [] i d = refl
set-get (x ∷ xs) zero d = refl
set-get (x ∷ xs) (suc i) d = ap (λ t. x ∷ t) (set-get xs i d)
