-- Keys of which each stands once: as an index needs it, and as a test of all pairs says it.
use Rattle.std.proofs.Common.{◌≡◌, ℕ, Bool, true, false, ◌&&◌, not, cond, is_none, List, [], ◌∷◌, ◌++◌, map, Option, Some, None, Result, Ok, Err, refl, sym, ap, subst, ◌∙◌}
use Rattle.std.specs.Prelude.{◌==◌, ◌||◌, if◌then◌else◌}
use Rattle.std.specs.BTreeMap.{is_at}
use Rattle.std.specs.Cmp.Lexicographic.{slice_cmp}
use Rattle.std.specs.List.{list_all}
use Rattle.std.specs.Map.{lookup}
use Rattle.std.specs.Ordering.{nat_cmp}
use Rattle.std.specs.declared.cmp.Ordering.{Ordering}
use Rattle.std.proofs.lemmas.Bool.{and_from, and_parts, eq-eqb, eqb-true}
use Rattle.std.proofs.lemmas.List.Concat.{flat_map_single}
use Rattle.std.proofs.lemmas.List.Folds.{list_all-map}
use Rattle.kinds.specs.Answers.{AnswersBy}
use Rattle.kinds.specs.declared.refusal.Refusal.{Refusal}
use Rattle.inventory_rows.specs.version_groups.declared.groups.Filespace.{Filespace}
use Rattle.inventory_rows.specs.version_groups.Entries.{all_later}
use Rattle.inventory_rows.specs.volume_rows.declared.volume.Volume.{Volume}
use Rattle.inventory_rows.specs.object_rows.Build.{Builds}
use Rattle.inventory_rows.specs.object_rows.Index.{AreDistinct, IsIndex}
use Rattle.inventory_rows.specs.object_rows.Names.{named, named_of}
use Rattle.inventory_rows.specs.object_rows.declared.place.Node.{Node}
use Rattle.inventory_rows.specs.object_rows.Rows.{IsSound}
use Rattle.inventory_rows.specs.pool_tables.declared.pool.Pool.{Pool}
use Rattle.inventory_rows.specs.pool_tables.Counted.{are_sound}
use Rattle.inventory_rows.specs.pool_tables.Names.{are_apart, pool_name}
use Rattle.inventory_rows.specs.pool_tables.Scratch.{are_rightly_named, volume_name}
use Rattle.kinds.specs.Names.{is_same_name}
use Rattle.inventory_rows.specs.pool_tables.Rows.{number_where}
use Rattle.inventory_rows.proofs.of_pool_tables.Names.{at_name, same_flips}
use Rattle.inventory_rows.specs.declared.backup.Backup.{Backup}
use Rattle.inventory_rows.specs.State.{Inv}
use Rattle.inventory_rules.specs.Valid.{names_apart}
use Rattle.inventory_rules.specs.Valid as valid
use Rattle.inventory_check.proofs.Apart.{same_number}
use Rattle.inventory_check.proofs.Walking.{list_all-same}
use Rattle.inventory_check.specs.Rows.{numbered}

-- ---- tests of all pairs
all_later-map : {X Y : Type 0} (r : Y → Y → Bool) (f : X → Y) (xs : List X) → all_later r (map f xs) ≡ all_later (λ a b. r (f a) (f b)) xs
all_later-map r f [] = refl
all_later-map r f (x ∷ xs) =
    ap (λ b. b && all_later r (map f xs)) (list_all-map (r (f x)) f xs) ∙ ap (λ b. list_all (λ y. r (f x) (f y)) xs && b) (all_later-map r f xs)

all_later-same : {X : Type 0} (r q : X → X → Bool) → ((a b : X) → r a b ≡ q a b) → (xs : List X) → all_later r xs ≡ all_later q xs
all_later-same r q e [] = refl
all_later-same r q e (x ∷ xs) = ap (λ b. b && all_later r xs) (list_all-same (r x) (q x) (e x) xs) ∙ ap (λ b. list_all (q x) xs && b) (all_later-same r q e xs)

-- ---- keys
if_not : (b : Bool) → (b ≡ true → ⊥) → false ≡ b
if_not true h = absurd (h refl)
if_not false h = refl

module _ {K V : Type 0} (R : K → K → Ordering) where
  abbrev keys_differ : List (K × V) → Bool
  keys_differ pairs = all_later (λ a b. not (is_at (R a.0) b.0)) pairs

  unmatched : (test : K → Bool) (es : List (K × V)) → lookup test es ≡ None → list_all (λ e. not (test e.0)) es ≡ true
  unmatched test [] h = refl
  unmatched test (e ∷ es) h =
      elim (test e.0) as (λ b. cond b (Some e.1) (lookup test es) ≡ None → (not b && list_all (λ (d : K × V). not (test d.0)) es) ≡ true) [
        | true ↦ λ t. absurd cc
        | false ↦ λ t. unmatched test es t
      ] h

  not_found : (test : K → Bool) (es : List (K × V)) → list_all (λ e. not (test e.0)) es ≡ true → lookup test es ≡ None
  not_found test [] h = refl
  not_found test (e ∷ es) h =
      elim (test e.0) as (λ b. (not b && list_all (λ (d : K × V). not (test d.0)) es) ≡ true → cond b (Some e.1) (lookup test es) ≡ None) [
        | true ↦ λ t. absurd cc
        | false ↦ λ t. not_found test es t
      ] h

  differ_from_distinct : (pairs : List (K × V)) → AreDistinct R pairs → keys_differ pairs ≡ true
  differ_from_distinct [] h = refl
  differ_from_distinct (e ∷ es) h =
      and_from (list_all (λ (d : K × V). not (is_at (R e.0) d.0)) es) (keys_differ es) (unmatched (is_at (R e.0)) es h.0) (differ_from_distinct es h.1)

  distinct_from_differ : (pairs : List (K × V)) → keys_differ pairs ≡ true → AreDistinct R pairs
  distinct_from_differ [] h = tt
  distinct_from_differ (e ∷ es) h =
      let parts = and_parts (list_all (λ (d : K × V). not (is_at (R e.0) d.0)) es) (keys_differ es) h in
      (not_found (is_at (R e.0)) es parts.0, distinct_from_differ es parts.1)

  no_index : (index : List (K × V)) → index ≡ [] → IsIndex R index []
  no_index index e = subst (λ (t : List (K × V)). IsIndex R t []) (sym e) (record { found = λ k. refl; distinct = tt; count = refl })

  -- an index that is built from nothing, or not, says whether the keys differ
  built_answers : (r : Result Bool Refusal) (old new pairs : List (K × V)) (said : Bool) → Builds R r old new pairs → old ≡ [] → keys_differ pairs ≡ said → AnswersBy (λ b. b) r said
  built_answers (Ok true) old new pairs said h empty same = let i : IsIndex R new pairs = h [] (no_index old empty) in sym (differ_from_distinct pairs i.distinct) ∙ same
  built_answers (Ok false) old new pairs said h empty same = if_not said (λ t. h [] (no_index old empty) (distinct_from_differ pairs (same ∙ t)))
  built_answers (Err e) old new pairs said h empty same = h [] (no_index old empty)

-- ---- backups
pub numbers_differ : (backups : List (ℕ × Backup)) → keys_differ nat_cmp (numbered backups) ≡ valid.are_apart (map (λ b. b.1.number) backups)
numbers_differ backups =
    all_later-map (λ (a b : ℕ × ℕ). not (is_at (nat_cmp a.0) b.0)) (λ (b : ℕ × Backup). (b.1.number, b.0)) backups
    ∙ all_later-same (λ (a b : ℕ × Backup). not (is_at (nat_cmp a.1.number) b.1.number)) (λ (a b : ℕ × Backup). not (a.1.number == b.1.number)) (λ a b. ap not (same_number a.1.number b.1.number)) backups
    ∙ sym (all_later-map (λ a b. not (a == b)) (λ (b : ℕ × Backup). b.1.number) backups)

pub numbers_answer : (r : Result Bool Refusal) (old new : List (ℕ × ℕ)) (backups : List (ℕ × Backup)) → Builds nat_cmp r old new (numbered backups) → old ≡ [] → AnswersBy (λ b. b) r (valid.are_apart (map (λ b. b.1.number) backups))
numbers_answer r old new backups h empty = built_answers nat_cmp r old new (numbered backups) (valid.are_apart (map (λ (b : ℕ × Backup). b.1.number) backups)) h empty (numbers_differ backups)

-- ---- filespaces
flips : (a b : ℕ) → (a == b) ≡ (b == a)
flips a b = elim (a == b) as (λ t. (a == b) ≡ t → t ≡ (b == a)) [
  | true ↦ λ e. sym (eq-eqb b a (sym (eqb-true a b e)))
  | false ↦ λ e. if_not (b == a) (λ t. let same : (a == b) ≡ true = eq-eqb a b (sym (eqb-true b a t)) in absurd (cc))
] refl

-- the filespaces of two nodes, or of two names
abbrev differs : ℕ → List ℕ → ℕ × Filespace → Bool
differs node name g = not (node == g.1.node) || not (is_same_name name g.1.name)

abbrev name_of_one : Bool → ℕ × Filespace → List (List ℕ × ℕ)
name_of_one b g = if b then (g.1.name, g.0) ∷ [] else []

not_first : (b : Bool) (x : ℕ) (found : Option ℕ) → cond b (Some x) found ≡ None → (b ≡ false) × (found ≡ None)
not_first true x found h = absurd (cc)
not_first false x found h = (refl, h)

or_true : (b : Bool) → (b || true) ≡ true
or_true true = refl
or_true false = refl

passed : (node : ℕ) (name : List ℕ) (g : ℕ × Filespace) (fs : List (ℕ × Filespace)) (b : Bool) → (g.1.node == node) ≡ b → lookup (is_at (slice_cmp nat_cmp name)) (name_of_one b g ++ named_of node fs) ≡ None
    → (differs node name g ≡ true) × (lookup (is_at (slice_cmp nat_cmp name)) (named_of node fs) ≡ None)
passed node name g fs true same h =
    let w : (is_at (slice_cmp nat_cmp name) g.1.name ≡ false) × (lookup (is_at (slice_cmp nat_cmp name)) (named_of node fs) ≡ None) = not_first (is_at (slice_cmp nat_cmp name) g.1.name) g.0 (lookup (is_at (slice_cmp nat_cmp name)) (named_of node fs)) h in
    (ap (λ b. not (node == g.1.node) || not b) (sym (at_name name g.1.name) ∙ w.0) ∙ or_true (not (node == g.1.node)), w.1)
passed node name g fs false other h = (ap (λ b. not b || not (is_same_name name g.1.name)) (flips node g.1.node ∙ other), h)

all_differ : (node : ℕ) (name : List ℕ) (fs : List (ℕ × Filespace)) → lookup (is_at (slice_cmp nat_cmp name)) (named_of node fs) ≡ None → list_all (differs node name) fs ≡ true
all_differ node name [] h = refl
all_differ node name (g ∷ fs) h =
    let w : (differs node name g ≡ true) × (lookup (is_at (slice_cmp nat_cmp name)) (named_of node fs) ≡ None) = passed node name g fs (g.1.node == node) refl h in
    and_from (differs node name g) (list_all (differs node name) fs) w.0 (all_differ node name fs w.1)

behind : (node : ℕ) (f : ℕ × Filespace) (fs : List (ℕ × Filespace)) (b : Bool) → AreDistinct (slice_cmp nat_cmp) (name_of_one b f ++ named_of node fs) → AreDistinct (slice_cmp nat_cmp) (named_of node fs)
behind node f fs true d = d.1
behind node f fs false d = d

alone : (node : ℕ) (f : ℕ × Filespace) (fs : List (ℕ × Filespace)) (b : Bool) → b ≡ true → AreDistinct (slice_cmp nat_cmp) (name_of_one b f ++ named_of node fs) → lookup (is_at (slice_cmp nat_cmp f.1.name)) (named_of node fs) ≡ None
alone node f fs true is d = d.0
alone node f fs false is d = absurd (cc)

-- the names of the filespaces of one node are their own
spaces_apart : (fs : List (ℕ × Filespace)) → ((node : ℕ) → AreDistinct (slice_cmp nat_cmp) (named_of node fs)) → all_later (λ f g. not (f.1.node == g.1.node) || not (is_same_name f.1.name g.1.name)) fs ≡ true
spaces_apart [] d = refl
spaces_apart (f ∷ fs) d =
    and_from (list_all (differs f.1.node f.1.name) fs) (all_later (λ (f g : ℕ × Filespace). not (f.1.node == g.1.node) || not (is_same_name f.1.name g.1.name)) fs)
    (all_differ f.1.node f.1.name fs (alone f.1.node f fs (f.1.node == f.1.node) (eq-eqb f.1.node f.1.node refl) (d f.1.node)))
    (spaces_apart fs (λ node. behind node f fs (f.1.node == node) (d node)))

-- ---- what the tables see to
pub nodes_apart : (nodes : List (ℕ × Node)) → AreDistinct (slice_cmp nat_cmp) (named nodes) → names_apart (map (λ n. n.1.name) nodes) ≡ true
nodes_apart nodes h =
    let pair : ℕ × Node → List ℕ × ℕ = λ e. (e.1.name, e.0) in
    all_later-map (λ a b. not (is_same_name a b)) (λ (n : ℕ × Node). n.1.name) nodes
    ∙ all_later-same (λ (m n : ℕ × Node). not (is_same_name m.1.name n.1.name)) (λ (m n : ℕ × Node). not (is_at (slice_cmp nat_cmp m.1.name) n.1.name)) (λ m n. ap not (sym (at_name m.1.name n.1.name))) nodes
    ∙ sym (all_later-map (λ (a b : List ℕ × ℕ). not (is_at (slice_cmp nat_cmp a.0) b.0)) pair nodes)
    ∙ ap (keys_differ (slice_cmp nat_cmp)) (sym (flat_map_single pair nodes))
    ∙ differ_from_distinct (slice_cmp nat_cmp) (named nodes) h

none_named : {V : Type 0} (name_of : V → List ℕ) (name : List ℕ) (rows : List (ℕ × V)) → list_all (λ e. not (is_same_name name (name_of e.1))) rows ≡ is_none (number_where (λ row. is_same_name (name_of row) name) rows)
none_named name_of name [] = refl
none_named {V} name_of name (e ∷ rows) =
    ap (λ b. not b && list_all (λ (d : ℕ × V). not (is_same_name name (name_of d.1))) rows) (same_flips name (name_of e.1))
    ∙ elim (is_same_name (name_of e.1) name) as (λ b. (not b && list_all (λ (d : ℕ × V). not (is_same_name name (name_of d.1))) rows) ≡ is_none (cond b (Some e.0) (number_where (λ row. is_same_name (name_of row) name) rows))) [
      | true ↦ refl
      | false ↦ none_named name_of name rows
    ]

rows_differ : {V : Type 0} (name_of : V → List ℕ) (rows : List (ℕ × V)) → all_later (λ a b. not (is_same_name (name_of a.1) (name_of b.1))) rows ≡ are_apart name_of rows
rows_differ name_of [] = refl
rows_differ {V} name_of (e ∷ rows) =
    ap (λ b. b && all_later (λ (a b : ℕ × V). not (is_same_name (name_of a.1) (name_of b.1))) rows) (none_named name_of (name_of e.1) rows)
    ∙ ap (λ b. is_none (number_where (λ row. is_same_name (name_of row) (name_of e.1)) rows) && b) (rows_differ name_of rows)

pub rows_apart : {V : Type 0} (name_of : V → List ℕ) (rows : List (ℕ × V)) → are_apart name_of rows ≡ true → names_apart (map (λ e. name_of e.1) rows) ≡ true
rows_apart {V} name_of rows h = all_later-map (λ a b. not (is_same_name a b)) (λ (e : ℕ × V). name_of e.1) rows ∙ rows_differ name_of rows ∙ h

pub all_named : (v : Inv) → IsSound v.clients → are_apart pool_name v.stores.pools ≡ true → are_sound v.stores.volumes ≡ true → valid.are_named v ≡ true
all_named v sound pools volumes =
    let parts = and_parts (are_apart volume_name v.stores.volumes) (are_rightly_named v.stores.volumes) volumes in
    let pools_named : Bool = names_apart (map (λ (p : ℕ × Pool). p.1.name) v.stores.pools) in
    let volumes_named : Bool = names_apart (map (λ (f : ℕ × Volume). f.1.name) v.stores.volumes) in
    let spaces_named : Bool = valid.filespaces_apart v in
    let soundly : Bool = list_all valid.is_named_soundly v.stores.volumes in
    ap (λ b. b && (pools_named && (volumes_named && (spaces_named && soundly)))) (nodes_apart v.clients.nodes sound.names)
    ∙ ap (λ b. b && (volumes_named && (spaces_named && soundly))) (rows_apart pool_name v.stores.pools pools)
    ∙ ap (λ b. b && (spaces_named && soundly)) (rows_apart volume_name v.stores.volumes parts.0)
    ∙ ap (λ b. b && soundly) (spaces_apart v.clients.filespaces sound.spaces)
    ∙ parts.1
