-- What holds of a list of which one run of elements is put in the place of another.
use Rattle.std.proofs.Common.{◌≡◌, ◌+◌, Bool, true, ◌&&◌, List, [], ◌∷◌, ◌++◌, map, length, refl, sym, ap, ap₂, ◌∙◌, arith, length-append}
use Rattle.std.proofs.lemmas.Bool.{and_parts, and_from}
use Rattle.std.proofs.lemmas.List.{map-append}
use Rattle.std.proofs.lemmas.List.Concat.{flat_map-append}
use Rattle.std.proofs.lemmas.List.Elements.{filter-append}
use Rattle.std.proofs.lemmas.List.Folds.{list_all-append, list_all-map}
use Rattle.std.specs.List.{list_all, flat_map, filter}
use Rattle.inventory_rules.specs.inventory_rows.version_groups.Entries.{all_later}
use Rattle.inventory_rules.proofs.of_inventory_rows.of_object_rows.Splices.{Splices}

-- the other way round
pub turned : {A : Type 0} {xs ys old new : List A} → Splices xs ys old new → Splices ys xs new old
turned s = record { before = s.before; after = s.after; was = s.becomes; becomes = s.was }

all_of_parts : {A : Type 0} (p : A → Bool) (before mid after : List A) → list_all p (before ++ (mid ++ after)) ≡ (list_all p before && (list_all p mid && list_all p after))
all_of_parts p before mid after = list_all-append p before (mid ++ after) ∙ ap (λ b. list_all p before && b) (list_all-append p mid after)

-- what holds of all holds of the run that goes
pub all_gone : {A : Type 0} (p : A → Bool) {xs ys old new : List A} → Splices xs ys old new → list_all p old ≡ true → list_all p xs ≡ true
all_gone p {xs} s h =
    let all : (list_all p s.before && (list_all p xs && list_all p s.after)) ≡ true = sym (all_of_parts p s.before xs s.after) ∙ ap (list_all p) (sym s.was) ∙ h in
    let rest : (list_all p xs && list_all p s.after) ≡ true = (and_parts (list_all p s.before) (list_all p xs && list_all p s.after) all).1 in
    (and_parts (list_all p xs) (list_all p s.after) rest).0

-- and of the new list, where it holds of the run that comes
pub all_come : {A : Type 0} (p : A → Bool) {xs ys old new : List A} → Splices xs ys old new → list_all p old ≡ true → list_all p ys ≡ true → list_all p new ≡ true
all_come p {xs} {ys} s h k =
    let all : (list_all p s.before && (list_all p xs && list_all p s.after)) ≡ true = sym (all_of_parts p s.before xs s.after) ∙ ap (list_all p) (sym s.was) ∙ h in
    let front : list_all p s.before ≡ true = (and_parts (list_all p s.before) (list_all p xs && list_all p s.after) all).0 in
    let rest : (list_all p xs && list_all p s.after) ≡ true = (and_parts (list_all p s.before) (list_all p xs && list_all p s.after) all).1 in
    let back : list_all p s.after ≡ true = (and_parts (list_all p xs) (list_all p s.after) rest).1 in
    ap (list_all p) s.becomes ∙ all_of_parts p s.before ys s.after
    ∙ and_from (list_all p s.before) (list_all p ys && list_all p s.after) front (and_from (list_all p ys) (list_all p s.after) k back)

-- ---- functions of each element
pub splice_flat : {A B : Type 0} (f : A → List B) {xs ys old new : List A} → Splices xs ys old new → Splices (flat_map f xs) (flat_map f ys) (flat_map f old) (flat_map f new)
splice_flat f {xs} {ys} s = record {
  before = flat_map f s.before;
  after = flat_map f s.after;
  was = ap (flat_map f) s.was ∙ flat_map-append f s.before (xs ++ s.after) ∙ ap (λ z. flat_map f s.before ++ z) (flat_map-append f xs s.after);
  becomes = ap (flat_map f) s.becomes ∙ flat_map-append f s.before (ys ++ s.after) ∙ ap (λ z. flat_map f s.before ++ z) (flat_map-append f ys s.after);
}

pub splice_map : {A B : Type 0} (f : A → B) {xs ys old new : List A} → Splices xs ys old new → Splices (map f xs) (map f ys) (map f old) (map f new)
splice_map f {xs} {ys} s = record {
  before = map f s.before;
  after = map f s.after;
  was = ap (map f) s.was ∙ map-append f s.before (xs ++ s.after) ∙ ap (λ z. map f s.before ++ z) (map-append f xs s.after);
  becomes = ap (map f) s.becomes ∙ map-append f s.before (ys ++ s.after) ∙ ap (λ z. map f s.before ++ z) (map-append f ys s.after);
}

pub splice_filter : {A : Type 0} (p : A → Bool) {xs ys old new : List A} → Splices xs ys old new → Splices (filter p xs) (filter p ys) (filter p old) (filter p new)
splice_filter p {xs} {ys} s = record {
  before = filter p s.before;
  after = filter p s.after;
  was = ap (filter p) s.was ∙ filter-append p s.before (xs ++ s.after) ∙ ap (λ z. filter p s.before ++ z) (filter-append p xs s.after);
  becomes = ap (filter p) s.becomes ∙ filter-append p s.before (ys ++ s.after) ∙ ap (λ z. filter p s.before ++ z) (filter-append p ys s.after);
}

length_of_parts : {A : Type 0} (before mid after : List A) → length (before ++ (mid ++ after)) ≡ length before + (length mid + length after)
length_of_parts before mid after = length-append before (mid ++ after) ∙ ap (λ n. length before + n) (length-append mid after)

-- how long the lists are
pub splice_length : {A : Type 0} {xs ys old new : List A} → Splices xs ys old new → length new + length xs ≡ length old + length ys
splice_length {A} {xs} {ys} {old} {new} s =
    let one : length old ≡ length s.before + (length xs + length s.after) = ap length s.was ∙ length_of_parts s.before xs s.after in
    let two : length new ≡ length s.before + (length ys + length s.after) = ap length s.becomes ∙ length_of_parts s.before ys s.after in
    omega arith

-- ---- each related to each later one
pub all_later-map : {A B : Type 0} (r : B → B → Bool) (f : A → B) (xs : List A) → all_later r (map f xs) ≡ all_later (λ a b. r (f a) (f b)) xs
all_later-map r f [] = refl
all_later-map r f (x ∷ xs) = ap₂ (λ a b. a && b) (list_all-map (r (f x)) f xs) (all_later-map r f xs)

later_behind : {A : Type 0} (r : A → A → Bool) (mid after : List A) → all_later r (mid ++ after) ≡ true → all_later r after ≡ true
later_behind r [] after h = h
later_behind r (x ∷ mid) after h = later_behind r mid after (and_parts (list_all (r x) (mid ++ after)) (all_later r (mid ++ after)) h).1

later_without : {A : Type 0} (r : A → A → Bool) (before mid after : List A) → all_later r (before ++ (mid ++ after)) ≡ true → all_later r (before ++ after) ≡ true
later_without r [] mid after h = later_behind r mid after h
later_without r (x ∷ before) mid after h =
    let hs : (list_all (r x) (before ++ (mid ++ after)) ≡ true) × (all_later r (before ++ (mid ++ after)) ≡ true) = and_parts (list_all (r x) (before ++ (mid ++ after))) (all_later r (before ++ (mid ++ after))) h in
    let all : (list_all (r x) before && (list_all (r x) mid && list_all (r x) after)) ≡ true = sym (all_of_parts (r x) before mid after) ∙ hs.0 in
    let front : list_all (r x) before ≡ true = (and_parts (list_all (r x) before) (list_all (r x) mid && list_all (r x) after) all).0 in
    let rest : (list_all (r x) mid && list_all (r x) after) ≡ true = (and_parts (list_all (r x) before) (list_all (r x) mid && list_all (r x) after) all).1 in
    let back : list_all (r x) after ≡ true = (and_parts (list_all (r x) mid) (list_all (r x) after) rest).1 in
    and_from (list_all (r x) (before ++ after)) (all_later r (before ++ after)) (list_all-append (r x) before after ∙ and_from (list_all (r x) before) (list_all (r x) after) front back) (later_without r before mid after hs.1)

-- a run that goes
pub later_fewer : {A : Type 0} (r : A → A → Bool) {xs old new : List A} → Splices xs [] old new → all_later r old ≡ true → all_later r new ≡ true
later_fewer r {xs} s h = ap (all_later r) s.becomes ∙ later_without r s.before xs s.after (ap (all_later r) (sym s.was) ∙ h)

-- one element that comes, to which all others are related both ways
one_between : {A : Type 0} (r : A → A → Bool) (x : A) (before after : List A) → list_all (λ a. r a x) (before ++ after) ≡ true → list_all (r x) (before ++ after) ≡ true → all_later r (before ++ after) ≡ true → all_later r (before ++ (x ∷ after)) ≡ true
one_between r x [] after p q h = and_from (list_all (r x) after) (all_later r after) q h
one_between r x (b ∷ before) after p q h =
    let ps : (r b x ≡ true) × (list_all (λ a. r a x) (before ++ after) ≡ true) = and_parts (r b x) (list_all (λ a. r a x) (before ++ after)) p in
    let qs : (r x b ≡ true) × (list_all (r x) (before ++ after) ≡ true) = and_parts (r x b) (list_all (r x) (before ++ after)) q in
    let hs : (list_all (r b) (before ++ after) ≡ true) × (all_later r (before ++ after) ≡ true) = and_parts (list_all (r b) (before ++ after)) (all_later r (before ++ after)) h in
    let parts : (list_all (r b) before ≡ true) × (list_all (r b) after ≡ true) = and_parts (list_all (r b) before) (list_all (r b) after) (sym (list_all-append (r b) before after) ∙ hs.0) in
    and_from (list_all (r b) (before ++ (x ∷ after))) (all_later r (before ++ (x ∷ after)))
    (list_all-append (r b) before (x ∷ after) ∙ and_from (list_all (r b) before) (list_all (r b) (x ∷ after)) parts.0 (and_from (r b x) (list_all (r b) after) ps.0 parts.1))
    (one_between r x before after ps.1 qs.1 hs.1)

pub later_more : {A : Type 0} (r : A → A → Bool) (x : A) {old new : List A} → Splices [] (x ∷ []) old new → list_all (λ a. r a x) old ≡ true → list_all (r x) old ≡ true → all_later r old ≡ true → all_later r new ≡ true
later_more r x s p q h =
    ap (all_later r) s.becomes
    ∙ one_between r x s.before s.after (ap (list_all (λ a. r a x)) (sym s.was) ∙ p) (ap (list_all (r x)) (sym s.was) ∙ q) (ap (all_later r) (sym s.was) ∙ h)
