-- In a valid database a volume that is there is found by its name, and so is a filespace by its own and its node's.
use Rattle.std.proofs.Common.{◌≡◌, ℕ, Bool, true, false, cond, eqb, not, ◌||◌, ◌&&◌, is_some, if◌then◌else◌, List, [], ◌∷◌, ◌++◌, map, Option, Some, None, Ok, refl, sym, ap, ◌∙◌}
use Rattle.std.proofs.lemmas.Bool.{and_parts, eq-eqb, eqb-true, not-true}
use Rattle.std.proofs.lemmas.List.Folds.{list_all-map}
use Rattle.std.proofs.lemmas.Option.{same_Some}
use Rattle.std.specs.List.{list_all}
use Rattle.std.specs.Map.{lookup}
use Rattle.std.specs.Option.{option_map}
use Rattle.kinds.specs.Names.{is_same_name}
use Rattle.inventory_rows.specs.object_rows.declared.place.Node.{Node}
use Rattle.inventory_rows.specs.object_rows.Filespaces.{at_number, filespace_at}
use Rattle.inventory_rows.specs.object_rows.Names.{at_name, filespace_named, named_of, node_named}
use Rattle.inventory_rows.specs.pool_tables.Rows.{number_where, row_at}
use Rattle.inventory_rows.specs.version_groups.Entries.{all_later, if_found}
use Rattle.inventory_rows.specs.version_groups.declared.groups.Filespace.{Filespace}
use Rattle.inventory_rows.specs.volume_rows.declared.volume.Volume.{Volume}
use Rattle.inventory_rows.specs.State.{Inv}
use Rattle.inventory_rows.proofs.of_object_rows.Stands.{at-eqb}
use Rattle.inventory_rules.specs.Valid.{is_valid}
use Rattle.inventory_laws.proofs.CopyCounts.{is_found}
use Rattle.inventory_laws.proofs.Facts.{facts_of}
use Rattle.inventory_laws.proofs.Names.{at-same, names_swap}
use Rattle.inventory_work.specs.Found.{filespace_asked}
use Rattle.inventory_answers.specs.Look.{name_of_node}
use Rattle.line_results.specs.Removing.{IsVolume}
use Rattle.line_results.proofs.PutStoring.{same-self}

-- ---- rows by their numbers

-- what holds of all rows holds of the one with a number
row-passes : {V : Type 0} (q : V → Bool) (n : ℕ) (es : List (ℕ × V)) (x : V) → lookup (at_number n) es ≡ Some x → list_all (λ (e : ℕ × V). q e.1) es ≡ true → q x ≡ true
row-passes q n [] x at all = absurd (let odd : None ≡ Some x = at in cc)
row-passes {V} q n (e ∷ es) x at all =
    let parts = and_parts (q e.1) (list_all (λ (d : ℕ × V). q d.1) es) all in
    elim (at_number n e.0) as (λ b. cond b (Some e.1) (lookup (at_number n) es) ≡ Some x → q x ≡ true) [
      | true ↦ λ is. ap q (sym (same_Some e.1 x is)) ∙ parts.0
      | false ↦ λ is. row-passes q n es x is parts.1
    ] at

-- where no two rows are the same, the first that is the same as the one with a number has that number
first-same : {V : Type 0} (same apart : V → V → Bool) → ((a b : V) → apart a b ≡ true → same a b ≡ false) → (n : ℕ) (es : List (ℕ × V)) (x : V) → lookup (at_number n) es ≡ Some x → all_later (λ (e d : ℕ × V). apart e.1 d.1) es ≡ true → same x x ≡ true
    → number_where (λ (a : V). same a x) es ≡ Some n
first-same same apart so n [] x at all one = absurd (let odd : None ≡ Some x = at in cc)
first-same {V} same apart so n (e ∷ es) x at all one =
    let parts = and_parts (list_all (λ (d : ℕ × V). apart e.1 d.1) es) (all_later (λ (d f : ℕ × V). apart d.1 f.1) es) all in
    let rest : Option ℕ = number_where (λ (a : V). same a x) es in
    elim (at_number n e.0) as (λ b. at_number n e.0 ≡ b → cond b (Some e.1) (lookup (at_number n) es) ≡ Some x → cond (same e.1 x) (Some e.0) rest ≡ Some n) [
      | true ↦ λ here is. ap (λ (b : Bool). cond b (Some e.0) rest) (ap (λ (a : V). same a x) (same_Some e.1 x is) ∙ one) ∙ ap (λ (k : ℕ). Some k) (eqb-true e.0 n (sym (at-eqb n e.0) ∙ here))
      | false ↦ λ other is.
          ap (λ (b : Bool). cond b (Some e.0) rest) (so e.1 x (row-passes (apart e.1) n es x is parts.0)) ∙ first-same same apart so n es x is parts.1 one
    ] refl at

later-map : {A B : Type 0} (r : B → B → Bool) (f : A → B) (xs : List A) → all_later r (map f xs) ≡ all_later (λ (a b : A). r (f a) (f b)) xs
later-map r f [] = refl
later-map {A} r f (x ∷ xs) = ap (λ (b : Bool). b && all_later r (map f xs)) (list_all-map (r (f x)) f xs) ∙ ap (λ (b : Bool). list_all (λ (y : A). r (f x) (f y)) xs && b) (later-map r f xs)

-- ---- a volume

pub volume-shown : (file : ℕ) (v : Inv) → is_valid v ≡ true → is_some (row_at file v.stores.volumes) ≡ true → IsVolume file v
volume-shown file v valid has =
    let x = is_found (row_at file v.stores.volumes) has in
    let apart : all_later (λ (f g : ℕ × Volume). not (is_same_name f.1.name g.1.name)) v.stores.volumes ≡ true =
    sym (later-map (λ (a b : List ℕ). not (is_same_name a b)) (λ (f : ℕ × Volume). f.1.name) v.stores.volumes) ∙ (facts_of v valid).volume_names in (
      x.0,
      x.1,
      first-same (λ (a b : Volume). is_same_name a.name b.name) (λ (a b : Volume). not (is_same_name a.name b.name)) (λ a b h. not-true (is_same_name a.name b.name) h) file v.stores.volumes x.0 x.1 apart (same-self x.0.name),
    )

-- ---- a filespace

-- the filespace with this number is there, and so is its node; and it is the one that its node's name and its own name
abbrev pub IsNamed : (filespace : ℕ) → Inv → Type 0
IsNamed filespace v =
    (x : Filespace) × (filespace_at filespace v.clients.filespaces ≡ Some x) × (node : List ℕ) × (name_of_node x.node v.clients ≡ Some node) × (filespace_asked node x.name v.clients ≡ Ok filespace)

node-where : (name : List ℕ) (es : List (ℕ × Node)) → node_named name es ≡ number_where (λ (n : Node). is_same_name n.name name) es
node-where name [] = refl
node-where name (e ∷ es) =
    ap (λ (b : Bool). cond b (Some e.0) (node_named name es)) (at-same name e.1.name ∙ names_swap name e.1.name) ∙ ap (λ (o : Option ℕ). cond (is_same_name e.1.name name) (Some e.0) o) (node-where name es)

space-where : (node : ℕ) (name : List ℕ) (es : List (ℕ × Filespace)) → filespace_named node name es ≡ number_where (λ (f : Filespace). eqb f.node node && is_same_name f.name name) es
space-where node name [] = refl
space-where node name (e ∷ es) =
    (elim (eqb e.1.node node) as (λ b. lookup (at_name name) ((if b then (e.1.name, e.0) ∷ [] else []) ++ named_of node es) ≡ cond (b && is_same_name e.1.name name) (Some e.0) (filespace_named node name es)) [
      | true ↦ ap (λ (b : Bool). cond b (Some e.0) (filespace_named node name es)) (at-same name e.1.name ∙ names_swap name e.1.name)
      | false ↦ refl
    ])
    ∙ ap (λ (o : Option ℕ). cond (eqb e.1.node node && is_same_name e.1.name name) (Some e.0) o) (space-where node name es)

not-both : (a b : Bool) → (not a || not b) ≡ true → (a && b) ≡ false
not-both true b h = not-true b h
not-both false b h = refl

both-same : (x : Filespace) → (eqb x.node x.node && is_same_name x.name x.name) ≡ true
both-same x = ap (λ (b : Bool). b && is_same_name x.name x.name) (eq-eqb x.node x.node refl) ∙ same-self x.name

pub filespace-shown : (filespace : ℕ) (v : Inv) → is_valid v ≡ true → is_some (filespace_at filespace v.clients.filespaces) ≡ true → IsNamed filespace v
filespace-shown filespace v valid has =
    let x = is_found (filespace_at filespace v.clients.filespaces) has in
    let facts = facts_of v valid in
    let y = is_found (lookup (at_number x.0.node) v.clients.nodes) (row-passes (λ (f : Filespace). is_some (lookup (at_number f.node) v.clients.nodes)) filespace v.clients.filespaces x.0 x.1 facts.filespaces_cite) in
    let nodes_apart : all_later (λ (m n : ℕ × Node). not (is_same_name m.1.name n.1.name)) v.clients.nodes ≡ true =
    sym (later-map (λ (a b : List ℕ). not (is_same_name a b)) (λ (n : ℕ × Node). n.1.name) v.clients.nodes) ∙ facts.node_names in
    let node : node_named y.0.name v.clients.nodes ≡ Some x.0.node =
    node-where y.0.name v.clients.nodes
    ∙ first-same (λ (a b : Node). is_same_name a.name b.name) (λ (a b : Node). not (is_same_name a.name b.name)) (λ a b h. not-true (is_same_name a.name b.name) h) x.0.node v.clients.nodes y.0 y.1 nodes_apart (same-self y.0.name) in
    let space : filespace_named x.0.node x.0.name v.clients.filespaces ≡ Some filespace =
    space-where x.0.node x.0.name v.clients.filespaces
    ∙ first-same (λ (a b : Filespace). eqb a.node b.node && is_same_name a.name b.name) (λ (a b : Filespace). not (eqb a.node b.node) || not (is_same_name a.name b.name)) (λ a b h. not-both (eqb a.node b.node) (is_same_name a.name b.name) h) filespace
    v.clients.filespaces x.0 x.1 facts.filespace_names (both-same x.0) in (
      x.0,
      x.1,
      y.0.name,
      ap (λ (o : Option Node). option_map (λ (n : Node). n.name) o) y.1,
      ap (λ (o : Option ℕ). if_found o (λ n. if_found (filespace_named n x.0.name v.clients.filespaces) Ok)) node ∙ ap (λ (o : Option ℕ). if_found o Ok) space,
    )
