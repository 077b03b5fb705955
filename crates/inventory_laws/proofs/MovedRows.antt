-- The copies that a list of moves takes from their pools, among all copies.
use Rattle.std.proofs.Common.{◌≡◌, ℕ, ◌<◌, Bool, true, false, cond, eqb, not, ◌&&◌, ◌||◌, List, [], ◌∷◌, ◌++◌, map, Option, Some, refl, sym, ap, subst, ◌∙◌, append_assoc, append-nil, arith}
use Rattle.std.specs.Prelude.{nat_lt}
use Rattle.std.specs.List.{AllByRecursion, filter, find, flat_map, list_all}
use Rattle.std.specs.Option.{option_map_or}
use Rattle.std.proofs.lemmas.Bool.{and_parts, eqb-true, ltb-true, ne_eqb, not-true}
use Rattle.inventory_rules.specs.entries.change_items.declared.items.MovedCopy.{MovedCopy}
use Rattle.inventory_rules.specs.inventory_rows.version_groups.declared.copies.CopyRow.{CopyRow}
use Rattle.inventory_rules.specs.inventory_rows.version_groups.declared.versions.Version.{Version}
use Rattle.inventory_rules.specs.inventory_rows.version_groups.Copies.{are_by_pool}
use Rattle.inventory_rules.specs.inventory_rows.version_groups.Entries.{all_later}
use Rattle.inventory_rules.specs.inventory_rows.version_groups.Versions.{are_distinct, version_of}
use Rattle.inventory_rules.specs.inventory_rows.Search.{copy_in}
use Rattle.inventory_rules.specs.Reordered.{IsReordered}
use Rattle.inventory_rules.specs.Segments.{leaves}
use Rattle.inventory_laws.proofs.Orders.{filter-append, reordered_back, reordered_behind, reordered_cons, reordered_front, reordered_itself, reordered_then}

-- ---- lists in two parts

split : {A : Type 0} (p : A → Bool) (xs : List A) → IsReordered xs (filter p xs ++ filter (λ x. not (p x)) xs)
split p [] = refl
split {A} p (x ∷ xs) =
    let yes : List A = filter p xs in
    let no : List A = filter (λ x. not (p x)) xs in
    let r : IsReordered xs (yes ++ no) = split p xs in
    elim (p x) as (λ b. IsReordered (x ∷ xs) (cond b (x ∷ yes) yes ++ cond (not b) (x ∷ no) no)) [
      | true ↦ reordered_cons x xs (yes ++ no) r
      | false ↦ reordered_then (x ∷ xs) (x ∷ (yes ++ no)) (yes ++ x ∷ no) (reordered_cons x xs (yes ++ no) r) (reordered_back (yes ++ x ∷ no) (x ∷ (yes ++ no)) (reordered_front yes x no))
    ]

-- a test that only passes what another does is made before that other or alone
filter-within : {A : Type 0} (p q : A → Bool) → ((x : A) → p x ≡ true → q x ≡ true) → (xs : List A) → filter p (filter q xs) ≡ filter p xs
filter-within p q so [] = refl
filter-within {A} p q so (x ∷ xs) = go (p x) (q x) refl refl (filter-within p q so xs) where
  go : (b c : Bool) → p x ≡ b → q x ≡ c → filter p (filter q xs) ≡ filter p xs → filter p (filter q (x ∷ xs)) ≡ filter p (x ∷ xs)
  go b true m n more =
      ap (λ t. filter p (cond {A = List A} t (x ∷ filter q xs) (filter q xs))) n ∙ ap (λ (l : List A). cond {A = List A} (p x) (x ∷ l) l) more
  go true false m n more = absurd (let clash : false ≡ true = sym n ∙ so x m in cc)
  go false false m n more =
      ap (λ t. filter p (cond {A = List A} t (x ∷ filter q xs) (filter q xs))) n ∙ more ∙ sym (ap (λ t. cond {A = List A} t (x ∷ filter p xs) (filter p xs)) m)

-- what passes neither of two tests
filter-neither : {A : Type 0} (p q : A → Bool) (xs : List A) → filter (λ x. not (q x)) (filter (λ x. not (p x)) xs) ≡ filter (λ x. not (p x || q x)) xs
filter-neither p q [] = refl
filter-neither {A} p q (x ∷ xs) =
    elim (p x) as (λ b. filter (λ x. not (q x)) (cond {A = List A} (not b) (x ∷ filter (λ x. not (p x)) xs) (filter (λ x. not (p x)) xs)) ≡ cond {A = List A} (not (b || q x)) (x ∷ filter (λ x. not (p x || q x)) xs) (filter (λ x. not (p x || q x)) xs)) [
      | true ↦ filter-neither p q xs
      | false ↦ ap (λ (l : List A). cond {A = List A} (not (q x)) (x ∷ l) l) (filter-neither p q xs)
    ]

pub filter-every : {A : Type 0} (xs : List A) → xs ≡ filter (λ x. true) xs
filter-every [] = refl
filter-every {A} (x ∷ xs) = ap (λ (l : List A). x ∷ l) (filter-every xs)

-- ---- copies that leave, and those that stay

abbrev pub matches : MovedCopy → ℕ × CopyRow → Bool
matches i e = eqb e.0 i.object && eqb e.1.pool i.from

abbrev pub is_going : List MovedCopy → ℕ × CopyRow → Bool
is_going items e = leaves items e.1.pool e.0

abbrev pub staying : List MovedCopy → List (ℕ × CopyRow) → List (ℕ × CopyRow)
staying items copies = filter (λ e. not (is_going items e)) copies

other_item : (i j : MovedCopy) → not (eqb i.object j.object) ≡ true → (e : ℕ × CopyRow) → matches j e ≡ true → not (matches i e) ≡ true
other_item i j ne e h =
    let its : e.0 ≡ j.object = eqb-true e.0 j.object (and_parts (eqb e.0 j.object) (eqb e.1.pool j.from) h).0 in
    ap (λ b. not (b && eqb e.1.pool i.from)) (ne_eqb e.0 i.object (λ same. let clash : eqb i.object j.object ≡ true = ap (λ n. eqb n j.object) (sym same) ∙ (and_parts (eqb e.0 j.object) (eqb e.1.pool j.from) h).0 in absurd (let no : false ≡ true = sym (not-true (eqb i.object j.object) ne) ∙ clash in cc)))

others_match : (left : MovedCopy → List (ℕ × CopyRow)) (i : MovedCopy) (items : List MovedCopy) (copies : List (ℕ × CopyRow)) → list_all (λ j. not (eqb i.object j.object)) items ≡ true → AllByRecursion (λ j. filter (matches j) copies ≡ left j) items
    → AllByRecursion (λ j. filter (matches j) (filter (λ e. not (matches i e)) copies) ≡ left j) items
others_match left i [] copies ne h = tt
others_match left i (j ∷ items) copies ne h =
    let parts = and_parts (not (eqb i.object j.object)) (list_all (λ j. not (eqb i.object j.object)) items) ne in
    (filter-within (matches j) (λ e. not (matches i e)) (other_item i j parts.0) copies ∙ h.0, others_match left i items copies parts.1 h.1)

pub parted : (left : MovedCopy → List (ℕ × CopyRow)) (items : List MovedCopy) (copies : List (ℕ × CopyRow)) → all_later (λ i j. not (eqb i.object j.object)) items ≡ true → AllByRecursion (λ i. filter (matches i) copies ≡ left i) items
    → IsReordered copies (flat_map left items ++ staying items copies)
parted left [] copies once h = subst (IsReordered copies) (filter-every copies) (reordered_itself copies)
parted left (i ∷ items) copies once h =
    let parts = and_parts (list_all (λ j. not (eqb i.object j.object)) items) (all_later (λ i j. not (eqb i.object j.object)) items) once in
    let others : List (ℕ × CopyRow) = filter (λ e. not (matches i e)) copies in
    let first : IsReordered copies (left i ++ others) = subst (λ (l : List (ℕ × CopyRow)). IsReordered copies (l ++ others)) h.0 (split (matches i) copies) in
    let more : IsReordered others (flat_map left items ++ staying items others) = parted left items others parts.1 (others_match left i items copies parts.0 h.1) in
    let both : IsReordered (left i ++ others) (left i ++ (flat_map left items ++ staying (i ∷ items) copies)) =
    reordered_behind (left i) others (flat_map left items ++ staying (i ∷ items) copies)
    (subst (λ (l : List (ℕ × CopyRow)). IsReordered others (flat_map left items ++ l)) (filter-neither (matches i) (is_going items) copies) more) in
    subst (IsReordered copies) (sym (append_assoc (left i) (flat_map left items) (staying (i ∷ items) copies)))
    (reordered_then copies (left i ++ others) (left i ++ (flat_map left items ++ staying (i ∷ items) copies)) first both)

-- ---- an object has one copy in a pool

abbrev pub rows_of : List Version → List (ℕ × CopyRow)
rows_of versions = flat_map (λ (w : Version). map (λ (c : CopyRow). (w.object, c)) w.copies) versions

-- the copy that moves, where it is there
abbrev pub left_of : MovedCopy → Option Version → List (ℕ × CopyRow)
left_of i o = option_map_or (λ w. option_map_or (λ c. (i.object, c) ∷ []) (copy_in i.from w) []) o []

-- of another object
none_match : (i : MovedCopy) (k : ℕ) (cs : List CopyRow) → eqb k i.object ≡ false → filter (matches i) (map (λ (c : CopyRow). (k, c)) cs) ≡ []
none_match i k [] ne = refl
none_match i k (c ∷ cs) ne =
    ap (λ b. cond {A = List (ℕ × CopyRow)} (b && eqb c.pool i.from) ((k, c) ∷ filter (matches i) (map (λ (c : CopyRow). (k, c)) cs)) (filter (matches i) (map (λ (c : CopyRow). (k, c)) cs))) ne ∙ none_match i k cs ne

-- behind a copy in the pool there is none there
none_behind : (i : MovedCopy) (k pool : ℕ) (cs : List CopyRow) → eqb k i.object ≡ true → pool ≡ i.from → list_all (λ (d : CopyRow). nat_lt pool d.pool) cs ≡ true → filter (matches i) (map (λ (c : CopyRow). (k, c)) cs) ≡ []
none_behind i k pool [] its is h = refl
none_behind i k pool (c ∷ cs) its is h =
    let parts = and_parts (nat_lt pool c.pool) (list_all (λ (d : CopyRow). nat_lt pool d.pool) cs) h in
    let off : eqb c.pool i.from ≡ false = ne_eqb c.pool i.from (λ same. let less : pool < c.pool = ltb-true pool c.pool parts.0 in absurd (omega (arith, less, is, same))) in
    let rest : List (ℕ × CopyRow) = filter (matches i) (map (λ (c : CopyRow). (k, c)) cs) in
    ap (λ b. cond {A = List (ℕ × CopyRow)} (b && eqb c.pool i.from) ((k, c) ∷ rest) rest) its
    ∙ ap (λ b. cond {A = List (ℕ × CopyRow)} b ((k, c) ∷ rest) rest) off ∙ none_behind i k pool cs its is parts.1

its_match : (i : MovedCopy) (k : ℕ) (cs : List CopyRow) → eqb k i.object ≡ true → are_by_pool cs ≡ true
    → filter (matches i) (map (λ (c : CopyRow). (k, c)) cs) ≡ option_map_or (λ c. (k, c) ∷ []) (find (λ (c : CopyRow). eqb c.pool i.from) cs) []
its_match i k [] its by = refl
its_match i k (c ∷ cs) its by =
    let parts = and_parts (list_all (λ (d : CopyRow). nat_lt c.pool d.pool) cs) (are_by_pool cs) by in
    let rest : List (ℕ × CopyRow) = filter (matches i) (map (λ (c : CopyRow). (k, c)) cs) in
    ap (λ b. cond {A = List (ℕ × CopyRow)} (b && eqb c.pool i.from) ((k, c) ∷ rest) rest) its
    ∙ elim (eqb c.pool i.from) as (λ b. eqb c.pool i.from ≡ b → cond {A = List (ℕ × CopyRow)} b ((k, c) ∷ rest) rest ≡ option_map_or (λ d. (k, d) ∷ []) (cond {A = Option CopyRow} b (Some c) (find (λ (c : CopyRow). eqb c.pool i.from) cs)) []) [
      | true ↦ λ on. ap (λ (l : List (ℕ × CopyRow)). (k, c) ∷ l) (none_behind i k c.pool cs its (eqb-true c.pool i.from on) parts.0)
      | false ↦ λ off. its_match i k cs its parts.1
    ] refl

-- none of these is the object's
none_of : (i : MovedCopy) (vs : List Version) → list_all (λ (w : Version). not (eqb w.object i.object)) vs ≡ true → filter (matches i) (rows_of vs) ≡ []
none_of i [] h = refl
none_of i (w ∷ vs) h =
    let parts = and_parts (not (eqb w.object i.object)) (list_all (λ (w : Version). not (eqb w.object i.object)) vs) h in
    filter-append (matches i) (map (λ (c : CopyRow). (w.object, c)) w.copies) (rows_of vs)
    ∙ ap (λ (l : List (ℕ × CopyRow)). l ++ filter (matches i) (rows_of vs)) (none_match i w.object w.copies (not-true (eqb w.object i.object) parts.0)) ∙ none_of i vs parts.1

pub one_matches : (i : MovedCopy) (vs : List Version) → are_distinct vs ≡ true → list_all (λ (w : Version). are_by_pool w.copies) vs ≡ true → filter (matches i) (rows_of vs) ≡ left_of i (version_of i.object vs)
one_matches i [] d by = refl
one_matches i (w ∷ vs) d by =
    let apart = and_parts (list_all (λ (x : Version). not (eqb x.object w.object)) vs) (are_distinct vs) d in
    let pools = and_parts (are_by_pool w.copies) (list_all (λ (x : Version). are_by_pool x.copies) vs) by in
    let here : List (ℕ × CopyRow) = filter (matches i) (map (λ (c : CopyRow). (w.object, c)) w.copies) in
    filter-append (matches i) (map (λ (c : CopyRow). (w.object, c)) w.copies) (rows_of vs)
    ∙ elim (eqb w.object i.object) as (λ b. eqb w.object i.object ≡ b → here ++ filter (matches i) (rows_of vs) ≡ left_of i (cond {A = Option Version} b (Some w) (version_of i.object vs))) [
      | true ↦ λ on.
          let same : w.object ≡ i.object = eqb-true w.object i.object on in
          ap (λ (l : List (ℕ × CopyRow)). here ++ l) (none_of i vs (subst (λ (n : ℕ). list_all (λ (x : Version). not (eqb x.object n)) vs ≡ true) same apart.0))
          ∙ append-nil here ∙ its_match i w.object w.copies on pools.0
          ∙ ap (λ (n : ℕ). option_map_or (λ c. (n, c) ∷ []) (copy_in i.from w) []) same
      | false ↦ λ off.
          ap (λ (l : List (ℕ × CopyRow)). l ++ filter (matches i) (rows_of vs)) (none_match i w.object w.copies off) ∙ one_matches i vs apart.1 pools.1
    ] refl
