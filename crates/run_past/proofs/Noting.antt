-- What is told of a transaction, by what stood before it, is what it did.
use Rattle.std.proofs.Common.{◌≡◌, ℕ, Bool, true, false, cond, eqb, not, ◌&&◌, ◌||◌, List, [], ◌∷◌, ◌++◌, Option, Some, None, refl, sym, ap, ◌∙◌}
use Rattle.std.proofs.Math.Path.{fun_ext}
use Rattle.std.proofs.lemmas.Bool.{and_parts, eq-eqb, eqb-true, false≢true}
use Rattle.std.specs.BTreeMap.{is_at}
use Rattle.std.specs.List.{AllByRecursion, find, flat_map, list_any}
use Rattle.std.specs.Option.{is_some, option_map_or}
use Rattle.std.specs.Ordering.{is_eq, nat_cmp, ordering_then}
use Rattle.std.specs.Prelude.{is_none}
use Rattle.std.specs.declared.cmp.Ordering.{Ordering}
use Rattle.std.specs.declared.cmp.Ordering.TheVariants.{Less, Equal, Greater}
use Rattle.entries.specs.change_items.declared.items.DiscardedVersion.{DiscardedVersion}
use Rattle.entries.specs.change_items.declared.items.NamedVersion.{NamedVersion}
use Rattle.entries.specs.change_items.declared.items.NewVersion.{NewVersion}
use Rattle.entries.specs.declared.change.Change.{Change}
use Rattle.entries.specs.declared.change.Change.TheVariants as change
use Rattle.inventory_rows.specs.version_groups.declared.copies.CopyRow.{CopyRow}
use Rattle.inventory_rows.specs.version_groups.declared.group.Group.{Group}
use Rattle.inventory_rows.specs.version_groups.declared.groups.Filespace.{Filespace}
use Rattle.inventory_rows.specs.version_groups.declared.versions.Version.{Version}
use Rattle.inventory_rows.specs.version_groups.Groups.{at_path}
use Rattle.inventory_rows.proofs.of_version_groups.Lists.{version_of-object}
use Rattle.inventory_rows.specs.object_rows.Filespaces.{at_number, versions_at}
use Rattle.inventory_rows.proofs.of_object_rows.Stands.{at_itself, same_number, same_path}
use Rattle.inventory_rows.specs.Ascending.{AreAscending}
use Rattle.inventory_rows.specs.Search.{copy_in, group, version, versions}
use Rattle.inventory_rows.specs.State.{Inv}
use Rattle.inventory_work.specs.Lists.{only}
use Rattle.inventory_rules.specs.Run.{are_same_copies, copy_of, differs_from, is_changed, is_copy_changed, is_emptied, is_removed, is_same_day}
use Rattle.run_past.specs.Before.{IsBefore, found, going_from, going_in, has_going, lie_in, named, newest_of, path_going, path_if, paths, stood}
use Rattle.run_past.specs.Telling.{Follows, any_copy, any_copy_of, any_differs, any_emptied, any_gone, copy_differs, copy_differs_in, differs_now, is_empty_now, is_gone, is_path}
use Rattle.run_past.specs.Told.{Told, journal_from, journal_with, now_or, pair_cmp, told_at, told_of_path}
use Rattle.run_past.specs.declared.prepared.PathAt.{PathAt}
use Rattle.run_past.specs.declared.prepared.Prepared.{Prepared}
use Rattle.run_past.proofs.Frames.{path_stays, stays}
use Rattle.run_past.proofs.Goes.{same_journal}
use Rattle.run_past.proofs.Touched.{is_of}

-- ---- what stood stands

abbrev StandsIn : Inv → Version → Type 0
StandsIn v a = version a.object v ≡ Some a

all_joined : {X : Type 0} (P : X → Type 0) (xs ys : List X) → AllByRecursion P xs → AllByRecursion P ys → AllByRecursion P (xs ++ ys)
all_joined P [] ys a b = b
all_joined P (x ∷ xs) ys a b = (a.0, all_joined P xs ys a.1 b)

all_flat : {X Y : Type 0} (P : Y → Type 0) (f : X → List Y) → ((x : X) → AllByRecursion P (f x)) → (xs : List X) → AllByRecursion P (flat_map f xs)
all_flat P f each [] = tt
all_flat P f each (x ∷ xs) = all_joined P (f x) (flat_map f xs) (each x) (all_flat P f each xs)

found_stands : (k : ℕ) (v : Inv) → AllByRecursion (StandsIn v) (found (version k v))
found_stands k v = go (version k v) refl where
  go : (o : Option Version) → version k v ≡ o → AllByRecursion (StandsIn v) (found o)
  go None none = tt
  go (Some a) there = (ap (λ m. version m v) (version_of-object k (versions v) a there) ∙ there, tt)

named_stand : {X : Type 0} (object : X → ℕ) (items : List X) (v : Inv) → AllByRecursion (StandsIn v) (named object items v)
named_stand object items v = all_flat (StandsIn v) (λ i. found (version (object i) v)) (λ i. found_stands (object i) v) items

newest_stands : (vs : List Version) (v : Inv) → AllByRecursion (StandsIn v) (newest_of vs v)
newest_stands [] v = tt
newest_stands (w ∷ vs) v = found_stands w.object v

all_stood : (c : Change) (v : Inv) → AllByRecursion (StandsIn v) (stood c v)
all_stood (change.Day day) v = tt
all_stood (change.Policy c) v = tt
all_stood (change.Object c) v = tt
all_stood (change.Pool c) v = tt
all_stood (change.Backup c) v = all_flat (StandsIn v) (λ (i : NewVersion). newest_of (versions_at c.filespace i.path v.clients.filespaces) v) (λ i. newest_stands (versions_at c.filespace i.path v.clients.filespaces) v) c.items
all_stood (change.Hold c) v = tt
all_stood (change.Rebind c) v = tt
all_stood (change.Gone c) v = named_stand (λ i. i.object) c.items v
all_stood (change.Move c) v = named_stand (λ i. i.object) c.items v
all_stood (change.Copy c) v = named_stand (λ i. i.object) c.items v
all_stood (change.DropCopies c) v = named_stand (λ i. i.object) c.items v
all_stood (change.Expire c) v = named_stand (λ i. i.object) c.items v
all_stood (change.Discard c) v = named_stand (λ i. i.object) c.items v
all_stood (change.Reuse file) v = tt
all_stood (change.DbBegin file after) v = tt
all_stood (change.DbEnd file) v = tt
all_stood (change.DbDelete file) v = tt

abbrev PathStands : Inv → PathAt → Type 0
PathStands v x = is_some (group x.filespace x.path v) ≡ true

only_stands : (n : ℕ) (path : List ℕ) (v : Inv) (b : Bool) → is_some (group n path v) ≡ b → AllByRecursion (PathStands v) (only b (record { filespace = n; path = path }))
only_stands n path v true h = (h, tt)
only_stands n path v false h = tt

path_stands : (n : ℕ) (path : List ℕ) (v : Inv) → AllByRecursion (PathStands v) (path_if n path v)
path_stands n path v = only_stands n path v (is_some (group n path v)) refl

going_stands : (items : List DiscardedVersion) (n : ℕ) (path : List ℕ) (v : Inv) (b : Bool) → AllByRecursion (PathStands v) (cond b (path_if n path v) [])
going_stands items n path v true = path_stands n path v
going_stands items n path v false = tt

from_stands : (items : List DiscardedVersion) (n : ℕ) (f : Filespace) (v : Inv) (b : Bool) → AllByRecursion (PathStands v) (cond b (going_in items n f v) [])
from_stands items n f v true = all_flat (PathStands v) (λ (g : List ℕ × Group). path_going items n g.0 g.1 v) (λ g. going_stands items n g.0 v (has_going items g.1.versions)) f.groups
from_stands items n f v false = tt

all_paths : (c : Change) (v : Inv) → AllByRecursion (PathStands v) (paths c v)
all_paths (change.Day day) v = tt
all_paths (change.Policy c) v = tt
all_paths (change.Object c) v = tt
all_paths (change.Pool c) v = tt
all_paths (change.Backup c) v = tt
all_paths (change.Hold c) v = tt
all_paths (change.Rebind c) v = tt
all_paths (change.Gone c) v = tt
all_paths (change.Move c) v = tt
all_paths (change.Copy c) v = tt
all_paths (change.DropCopies c) v = tt
all_paths (change.Expire c) v = all_flat (PathStands v) (λ (i : NamedVersion). path_if c.filespace i.path v) (λ i. path_stands c.filespace i.path v) c.items
all_paths (change.Discard c) v =
    all_flat (PathStands v) (λ (f : ℕ × Filespace). going_from c.items f.0 f.1 v) (λ f. from_stands c.items f.0 f.1 v (lie_in c.items f.0 v)) v.clients.filespaces
all_paths (change.Reuse file) v = tt
all_paths (change.DbBegin file after) v = tt
all_paths (change.DbEnd file) v = tt
all_paths (change.DbDelete file) v = tt

-- ---- tests of what stood

once_more : (d any : Bool) → (d || (any && d)) ≡ d
once_more true any = refl
once_more false true = refl
once_more false false = refl

-- elements that pass a first test are alike by a second one
all_alike : {X : Type 0} (p q : X → Bool) (d : Bool) (xs : List X) → AllByRecursion (λ x. p x ≡ true → q x ≡ d) xs → list_any (λ x. p x && q x) xs ≡ (list_any p xs && d)
all_alike p q d [] h = refl
all_alike p q d (x ∷ xs) h =
    ap (λ b. (p x && q x) || b) (all_alike p q d xs h.1)
    ∙ elim (p x) as (λ b. (b ≡ true → q x ≡ d) → ((b && q x) || (list_any p xs && d)) ≡ ((b || list_any p xs) && d)) [
      | true ↦ λ same. ap (λ b. b || (list_any p xs && d)) (same refl) ∙ once_more d (list_any p xs)
      | false ↦ λ _. refl
    ] h.0

alike_each : {X : Type 0} (P : X → Type 0) (p q : X → Bool) (d : Bool) → ((x : X) → P x → p x ≡ true → q x ≡ d) → (xs : List X) → AllByRecursion P xs → AllByRecursion (λ x. p x ≡ true → q x ≡ d) xs
alike_each P p q d same [] h = tt
alike_each P p q d same (x ∷ xs) h = (same x h.0, alike_each P p q d same xs h.1)

-- what can only be said where an element passes
both_or : (any d : Bool) → (d ≡ true → any ≡ true) → (any && d) ≡ d
both_or any true f = ap (λ b. b && true) (f refl)
both_or true false f = refl
both_or false false f = refl

both_off : (any : Bool) → (any && false) ≡ false
both_off true = refl
both_off false = refl

one_version : (k : ℕ) (a b : Version) (v : Inv) → StandsIn v a → version k v ≡ Some b → is_of k a ≡ true → a ≡ b
one_version k a b v at there is = let both : Some a ≡ Some b = sym at ∙ ap (λ m. version m v) (same_number a.object k is) ∙ there in cc

-- a test of what stood under a number is a test of what stands there
gathered : (q : Version → Bool) (k : ℕ) (b : Version) (ws : List Version) (v : Inv) → AllByRecursion (StandsIn v) ws → version k v ≡ Some b → (q b ≡ true → list_any (is_of k) ws ≡ true) → list_any (λ a. is_of k a && q a) ws ≡ q b
gathered q k b ws v all there f =
    all_alike (is_of k) q (q b) ws (alike_each (StandsIn v) (is_of k) q (q b) (λ a at is. ap q (one_version k a b v at there is)) ws all) ∙ both_or (list_any (is_of k) ws) (q b) f

none_gathered : (q : Version → Bool) (k : ℕ) (ws : List Version) (v : Inv) → AllByRecursion (StandsIn v) ws → version k v ≡ None → list_any (λ a. is_of k a && q a) ws ≡ false
none_gathered q k ws v all none =
    all_alike (is_of k) q false ws (alike_each (StandsIn v) (is_of k) q false (λ a at is. let never : Some a ≡ None = sym at ∙ ap (λ m. version m v) (same_number a.object k is) ∙ none in absurd cc) ws all) ∙ both_off (list_any (is_of k) ws)

-- ---- a version is as it was

same_day : (o : Option ℕ) → is_same_day o o ≡ true
same_day None = refl
same_day (Some day) = eq-eqb day day refl

same_copies : (cs : List CopyRow) → are_same_copies cs cs ≡ true
same_copies [] = refl
same_copies (c ∷ cs) = ap (λ b. (b && eqb c.placed c.placed) && are_same_copies cs cs) (eq-eqb c.pool c.pool refl) ∙ ap (λ b. b && are_same_copies cs cs) (eq-eqb c.placed c.placed refl) ∙ same_copies cs

differs_not : (a : Version) → differs_from a a ≡ false
differs_not a = ap (λ b. not (b && are_same_copies a.copies a.copies)) (same_day a.since) ∙ ap not (same_copies a.copies)

copy_same : (o : Option CopyRow) → copy_differs o o ≡ false
copy_same None = refl
copy_same (Some c) = ap not (eq-eqb c.placed c.placed refl)

-- ---- copies

pair_is : (o k pool p : ℕ) → is_at (pair_cmp (o, pool)) (k, p) ≡ (at_number o k && at_number pool p)
pair_is o k pool p =
    elim (nat_cmp o k) as (λ (d : Ordering). is_eq (ordering_then d (nat_cmp pool p)) ≡ (is_eq d && is_eq (nat_cmp pool p))) [ Less ↦ refl | Equal ↦ refl | Greater ↦ refl ]

-- a common test of all elements
taken_out : {X : Type 0} (b : Bool) (p q : X → Bool) (xs : List X) → list_any (λ x. (b && p x) && q x) xs ≡ (b && list_any (λ x. p x && q x) xs)
taken_out true p q xs = refl
taken_out false p q [] = refl
taken_out false p q (x ∷ xs) = taken_out false p q xs

or-true : (b : Bool) → (b || true) ≡ true
or-true true = refl
or-true false = refl

copy_there : (p : ℕ) (c : CopyRow) (cs : List CopyRow) → find (λ x. eqb x.pool p) cs ≡ Some c → list_any (λ (x : CopyRow). at_number x.pool p) cs ≡ true
copy_there p c [] h = absurd cc
copy_there p c (x ∷ cs) h =
    elim (eqb x.pool p) as (λ b. eqb x.pool p ≡ b → cond b (Some x) (find (λ x. eqb x.pool p) cs) ≡ Some c → (at_number x.pool p || list_any (λ (x : CopyRow). at_number x.pool p) cs) ≡ true) [
      | true ↦ λ e _. ap (λ m. at_number m p || list_any (λ (x : CopyRow). at_number x.pool p) cs) (eqb-true x.pool p e) ∙ ap (λ b. b || list_any (λ (x : CopyRow). at_number x.pool p) cs) (at_itself p)
      | false ↦ λ _ t. ap (λ b. at_number x.pool p || b) (copy_there p c cs t) ∙ or-true (at_number x.pool p)
    ] refl h

copy_told : (p : ℕ) (a : Version) (now : Option Version) → copy_differs_in p a now ≡ true → list_any (λ (x : CopyRow). at_number x.pool p) a.copies ≡ true
copy_told p a now = go (copy_in p a) refl where
  go : (o : Option CopyRow) → copy_in p a ≡ o → copy_differs o (option_map_or (copy_in p) now None) ≡ true → list_any (λ (x : CopyRow). at_number x.pool p) a.copies ≡ true
  go None none h = absurd (false≢true h)
  go (Some c) there h = copy_there p c a.copies there

copies_told : (k p : ℕ) (a : Version) (now : Option Version) → any_copy_of (k, p) a now ≡ (is_of k a && copy_differs_in p a now)
copies_told k p a now =
    let here : CopyRow → Bool = λ x. at_number x.pool p in
    let differs : CopyRow → Bool = λ x. copy_differs_in x.pool a now in
    ap (λ (t : CopyRow → Bool). list_any t a.copies) (fun_ext (λ (x : CopyRow). ap (λ b. b && differs x) (pair_is a.object k x.pool p)))
    ∙ taken_out (is_of k a) here differs a.copies
    ∙ ap (λ b. is_of k a && b)
    (all_alike here differs (copy_differs_in p a now) a.copies (alike_each (λ _. Unit {0}) here differs (copy_differs_in p a now) (λ x _ is. ap (λ m. copy_differs_in m a now) (same_number x.pool p is)) a.copies (every a.copies))
    ∙ both_or (list_any here a.copies) (copy_differs_in p a now) (copy_told p a now))
  where
    every : (cs : List CopyRow) → AllByRecursion (λ _. Unit {0}) cs
    every [] = tt
    every (c ∷ cs) = (tt, every cs)

-- ---- what the transaction did

none_or : (any : Bool) → (any ≡ false → ⊥) → any ≡ true
none_or true f = refl
none_or false f = absurd (f refl)

-- an object that isn't among what stood is as it was
as_it_was : (c : Change) (v w : Inv) → AreAscending v → Follows c v w → (k : ℕ) (b : Version) → version k v ≡ Some b → (P : Option Version → Bool) → P (Some b) ≡ false → P (version k w) ≡ true → list_any (is_of k) (stood c v) ≡ true
as_it_was c v w asc f k b there P off on =
    none_or (list_any (is_of k) (stood c v))
    (λ none.
    let same : version k w ≡ Some b = ap (version k) f.makes ∙ stays f.journal c v k b f.valid asc f.legal there none in
    false≢true (sym off ∙ ap P (sym same) ∙ on))

named_here : (k : ℕ) (b : Version) (v w : Inv) → version k v ≡ Some b → version b.object w ≡ version k w
named_here k b v w there = ap (λ m. version m w) (version_of-object k (versions v) b there)

removed_is : (c : Change) (v w : Inv) → AreAscending v → Follows c v w → (k : ℕ) → any_gone k (stood c v) w ≡ is_removed k v w
removed_is c v w asc f k = go (version k v) refl where
  go : (o : Option Version) → version k v ≡ o → any_gone k (stood c v) w ≡ (is_some o && is_none (version k w))
  go None none = none_gathered (λ a. is_gone a w) k (stood c v) v (all_stood c v) none
  go (Some b) there =
      gathered (λ a. is_gone a w) k b (stood c v) v (all_stood c v) there (λ on. as_it_was c v w asc f k b there is_none refl (ap is_none (sym (named_here k b v w there)) ∙ on)) ∙ ap is_none (named_here k b v w there)

changed_is : (c : Change) (v w : Inv) → AreAscending v → Follows c v w → (k : ℕ) → any_differs k (stood c v) w ≡ is_changed k v w
changed_is c v w asc f k = go (version k v) refl where
  go : (o : Option Version) → version k v ≡ o → any_differs k (stood c v) w ≡ option_map_or (λ a. option_map_or (differs_from a) (version k w) true) o false
  go None none = none_gathered (λ a. differs_now a (version a.object w)) k (stood c v) v (all_stood c v) none
  go (Some b) there =
      gathered (λ a. differs_now a (version a.object w)) k b (stood c v) v (all_stood c v) there
      (λ on. as_it_was c v w asc f k b there (differs_now b) (differs_not b) (ap (differs_now b) (sym (named_here k b v w there)) ∙ on)) ∙ ap (differs_now b) (named_here k b v w there)

copies_are : (c : Change) (v w : Inv) → AreAscending v → Follows c v w → (k p : ℕ) → any_copy (k, p) (stood c v) w ≡ is_copy_changed k p v w
copies_are c v w asc f k p = ap (λ (t : Version → Bool). list_any t (stood c v)) (fun_ext (λ (a : Version). copies_told k p a (version a.object w))) ∙ go (version k v) refl where
  go : (o : Option Version) → version k v ≡ o
      → list_any (λ (a : Version). is_of k a && copy_differs_in p a (version a.object w)) (stood c v) ≡ copy_differs (option_map_or (copy_in p) o None) (copy_of k p w)
  go None none = none_gathered (λ a. copy_differs_in p a (version a.object w)) k (stood c v) v (all_stood c v) none
  go (Some b) there =
      gathered (λ a. copy_differs_in p a (version a.object w)) k b (stood c v) v (all_stood c v) there
      (λ on. as_it_was c v w asc f k b there (copy_differs_in p b) (copy_same (copy_in p b)) (ap (copy_differs_in p b) (sym (named_here k b v w there)) ∙ on)) ∙ ap (copy_differs_in p b) (named_here k b v w there)

emptied_is : (c : Change) (v w : Inv) → AreAscending v → Follows c v w → (n : ℕ) (path : List ℕ) → any_emptied n path (paths c v) w ≡ is_emptied n path v w
emptied_is c v w asc f n path = alike ∙ go (group n path v) refl where
  here : (x : PathAt) → is_path n path x ≡ true → group x.filespace x.path ≡ group n path
  here x is =
      let both = and_parts (at_number x.filespace n) (at_path x.path path) is in
      ap (λ m. group m x.path) (same_number x.filespace n both.0) ∙ ap (group n) (same_path x.path path both.1)

  alike : any_emptied n path (paths c v) w ≡ (list_any (is_path n path) (paths c v) && is_none (group n path w))
  alike =
      all_alike (is_path n path) (λ x. is_empty_now x w) (is_none (group n path w)) (paths c v)
      (alike_each (PathStands v) (is_path n path) (λ x. is_empty_now x w) (is_none (group n path w)) (λ x _ is. ap (λ (g : Inv → Option Group). is_none (g w)) (here x is)) (paths c v) (all_paths c v))

  none_named : group n path v ≡ None → (xs : List PathAt) → AllByRecursion (PathStands v) xs → list_any (is_path n path) xs ≡ false
  none_named none [] all = refl
  none_named none (x ∷ xs) all =
      ap (λ b. is_path n path x || b) (none_named none xs all.1)
      ∙ elim (is_path n path x) as (λ b. is_path n path x ≡ b → (b || false) ≡ false) [
        | true ↦ λ is. absurd (false≢true (sym (ap (λ (g : Inv → Option Group). is_some (g v)) (here x is) ∙ ap is_some none) ∙ all.0))
        | false ↦ λ _. refl
      ] refl

  some_none : (o : Option Group) → is_some o ≡ true → is_none o ≡ true → ⊥
  some_none None a b = false≢true a
  some_none (Some g) a b = false≢true b

  go : (o : Option Group) → group n path v ≡ o → (list_any (is_path n path) (paths c v) && is_none (group n path w)) ≡ (is_some o && is_none (group n path w))
  go None none = ap (λ b. b && is_none (group n path w)) (none_named none (paths c v) (all_paths c v))
  go (Some g) there =
      both_or (list_any (is_path n path) (paths c v)) (is_none (group n path w))
      (λ on. none_or (list_any (is_path n path) (paths c v))
      (λ none. some_none (group n path w) (ap (λ (u : Inv). is_some (group n path u)) f.makes ∙ path_stays f.journal c v n path g f.valid asc f.legal there none) on))

-- ---- what is told then

pub same_told : (old new : Told) → ((q : ℕ) → told_at (nat_cmp q) new.removed ≡ told_at (nat_cmp q) old.removed) → ((q : ℕ) → told_at (nat_cmp q) new.changed ≡ told_at (nat_cmp q) old.changed)
    → ((q : ℕ × ℕ) → told_at (pair_cmp q) new.copies ≡ told_at (pair_cmp q) old.copies) → ((f : ℕ) (p : List ℕ) → told_of_path f p new.emptied ≡ told_of_path f p old.emptied) → journal_from new ≡ journal_from old
same_told old new removed changed copies emptied =
    same_journal (journal_from new) (journal_from old) (fun_ext removed) (fun_ext changed) (fun_ext (λ k. fun_ext (λ p. copies (k, p)))) (fun_ext (λ f. fun_ext (λ p. emptied f p)))

pub noted : (c : Change) (v w : Inv) (p : Prepared) (ws : List Version) (xs : List PathAt) (number : ℕ) (old new : Told) → IsBefore c v p → Follows c v w → ws ≡ p.versions.items → xs ≡ p.paths.items → number ≡ w.number
    → ((q : ℕ) → told_at (nat_cmp q) new.removed ≡ now_or (any_gone q ws w) number (told_at (nat_cmp q) old.removed))
    → ((q : ℕ) → told_at (nat_cmp q) new.changed ≡ now_or (any_differs q ws w) number (told_at (nat_cmp q) old.changed))
    → ((q : ℕ × ℕ) → told_at (pair_cmp q) new.copies ≡ now_or (any_copy q ws w) number (told_at (pair_cmp q) old.copies))
    → ((f : ℕ) (p : List ℕ) → told_of_path f p new.emptied ≡ now_or (any_emptied f p xs w) number (told_of_path f p old.emptied)) → journal_from new ≡ journal_with v w (journal_from old)
noted c v w p ws xs number old new b f is_ws is_xs is_number removed changed copies emptied =
    let asc : AreAscending v = b.ascending in
    let vs : ws ≡ stood c v = is_ws ∙ b.versions in
    let ps : xs ≡ paths c v = is_xs ∙ b.paths in
    same_journal (journal_from new) (journal_with v w (journal_from old))
    (fun_ext (λ k. removed k ∙ ap (λ d. now_or d number (told_at (nat_cmp k) old.removed)) (ap (λ l. any_gone k l w) vs ∙ removed_is c v w asc f k) ∙ ap (λ m. now_or (is_removed k v w) m (told_at (nat_cmp k) old.removed)) is_number))
    (fun_ext (λ k. changed k ∙ ap (λ d. now_or d number (told_at (nat_cmp k) old.changed)) (ap (λ l. any_differs k l w) vs ∙ changed_is c v w asc f k) ∙ ap (λ m. now_or (is_changed k v w) m (told_at (nat_cmp k) old.changed)) is_number))
    (fun_ext (λ k. fun_ext (λ pool.
    copies (k, pool) ∙ ap (λ d. now_or d number (told_at (pair_cmp (k, pool)) old.copies)) (ap (λ l. any_copy (k, pool) l w) vs ∙ copies_are c v w asc f k pool)
    ∙ ap (λ m. now_or (is_copy_changed k pool v w) m (told_at (pair_cmp (k, pool)) old.copies)) is_number)))
    (fun_ext (λ n. fun_ext (λ path.
    emptied n path ∙ ap (λ d. now_or d number (told_of_path n path old.emptied)) (ap (λ l. any_emptied n path l w) ps ∙ emptied_is c v w asc f n path)
    ∙ ap (λ m. now_or (is_emptied n path v w) m (told_of_path n path old.emptied)) is_number)))
