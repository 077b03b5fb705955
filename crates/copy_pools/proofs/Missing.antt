-- What a copy pool lacks is listed, and what pools are for is told.
use Rattle.std.proofs.Common.{◌≡◌, ◌⊎◌, inl, inr, ℕ, ◌==◌, ◌&&◌, Bool, true, false, cond, is_some, nat_le, List, [], ◌∷◌, ◌++◌, map, Some, None, Result, Ok, Err, refl, sym, ap, subst, ◌∙◌, if◌then◌else◌}
use Rattle.std.proofs.lemmas.Bool.{eq-eqb, eqb-true}
use Rattle.std.specs.List.{find, flat_map}
use Rattle.std.specs.Map.{lookup}
use Rattle.std.specs.Option.{option_map}
use Rattle.kinds.specs.declared.refusal.Refusal.{Refusal}
use Rattle.kinds.specs.declared.refusal.Refusal.TheVariants as refused
use Rattle.inventory_rows.proofs.of_object_rows.Stands.{at-eqb}
use Rattle.inventory_rows.specs.version_groups.declared.group.Group.{Group}
use Rattle.inventory_rows.specs.version_groups.declared.groups.Filespace.{Filespace}
use Rattle.inventory_rows.specs.version_groups.declared.versions.Version.{Version}
use Rattle.inventory_rows.specs.version_groups.Versions.{version_of}
use Rattle.inventory_rows.specs.version_groups.Entries.{on_ok}
use Rattle.inventory_rows.specs.object_rows.declared.held_object.HeldRow.{HeldRow}
use Rattle.inventory_rows.specs.object_rows.Filespaces.{at_number, versions_in, versions_of}
use Rattle.inventory_rows.specs.object_rows.HeldRows.{held_versions}
use Rattle.inventory_rows.specs.pool_tables.declared.pool.Pool.{Pool}
use Rattle.inventory_rows.specs.pool_rows.PoolRows.{PoolRows}
use Rattle.inventory_rows.specs.Search.{version}
use Rattle.inventory_rows.specs.State.{Inv}
use Rattle.inventory_answers.specs.Stores.{pool_line, pool_lines}
use Rattle.inventory_answers.specs.declared.lines.PoolLine.{PoolLine}
use Rattle.inventory_answers.specs.declared.query.Query.TheVariants as query
use Rattle.inventory_answers.specs.declared.reply.Answer.{Answer}
use Rattle.inventory_answers.specs.declared.reply.Rows.{Rows}
use Rattle.inventory_answers.specs.declared.reply.Rows.TheVariants as rows
use Rattle.inventory_work.specs.ByObject.{by_object, put_line}
use Rattle.inventory_work.specs.Copies.{has_pool, is_missing, missing_found, missing_in, missing_lines, missing_of_filespace, missing_of_filespaces, missing_of_group, missing_of_held}
use Rattle.inventory_work.specs.Lists.{only}
use Rattle.inventory_work.specs.declared.lines.MissingLine.{MissingLine}
use Rattle.steps.specs.Events.{event}
use Rattle.steps.specs.Events.Deed.{Ask}
use Rattle.machine.specs.Fits.{History, Own, Step, inv}
use Rattle.machine.specs.Says.{Says}
use Rattle.copy_pools.specs.Backups.{kind_of, pool_kind}
use Rattle.copy_runs.proofs.Outcomes.{in-before, in-behind}
use Rattle.copy_runs.specs.Wanting.{IsIn}

-- ---- elements

put-in : {A : Type 0} (f : A → ℕ) (x l : A) (xs : List A) → IsIn x (l ∷ xs) → IsIn x (put_line f l xs)
put-in f x l [] h = h
put-in f x l (o ∷ xs) h =
    elim (nat_le (f l) (f o)) as (λ b. IsIn x (if b then l ∷ o ∷ xs else o ∷ put_line f l xs)) [
      | true ↦ h
      | false ↦ elim h as (λ _. IsIn x (o ∷ put_line f l xs)) [
        | inl a ↦ inr (put-in f x l xs (inl a))
        | inr r ↦ elim r as (λ _. IsIn x (o ∷ put_line f l xs)) [ inl b ↦ inl b | inr m ↦ inr (put-in f x l xs (inr m)) ]
      ]
    ]

sorted-in : {A : Type 0} (f : A → ℕ) (x : A) (xs : List A) → IsIn x xs → IsIn x (by_object f xs)
sorted-in f x [] h = absurd h
sorted-in f x (l ∷ xs) (inl h) = put-in f x l (by_object f xs) (inl h)
sorted-in f x (l ∷ xs) (inr h) = put-in f x l (by_object f xs) (inr (sorted-in f x xs h))

in-parts : {A : Type 0} (x : A) (xs ys : List A) → IsIn x (xs ++ ys) → IsIn x xs ⊎ IsIn x ys
in-parts x [] ys m = inr m
in-parts x (l ∷ xs) ys (inl h) = inl (inl h)
in-parts x (l ∷ xs) ys (inr m) = elim (in-parts x xs ys m) as (λ _. IsIn x (l ∷ xs) ⊎ IsIn x ys) [
  | inl h ↦ inl (inr h)
  | inr h ↦ inr h
]

flat-in : {A B : Type 0} (f : A → List B) (x : B) (y : A) (ys : List A) → IsIn y ys → IsIn x (f y) → IsIn x (flat_map f ys)
flat-in f x y [] h m = absurd h
flat-in f x y (z ∷ zs) (inl h) m = in-before x (f z) (flat_map f zs) (subst (λ a. IsIn x (f a)) (sym h) m)
flat-in f x y (z ∷ zs) (inr h) m = in-behind x (f z) (flat_map f zs) (flat-in f x y zs h m)

flat-parts : {A B : Type 0} (f : A → List B) (x : B) (ys : List A) → IsIn x (flat_map f ys) → (y : A) × IsIn y ys × IsIn x (f y)
flat-parts f x [] h = absurd h
flat-parts {A} f x (z ∷ zs) h = elim (in-parts x (f z) (flat_map f zs) h) as (λ _. (y : A) × IsIn y (z ∷ zs) × IsIn x (f y)) [
  | inl m ↦ (z, inl refl, m)
  | inr m ↦ (let r = flat-parts f x zs m in (r.0, inr r.1, r.2))
]

map-parts : {A B : Type 0} (f : A → B) (x : B) (ys : List A) → IsIn x (map f ys) → (y : A) × IsIn y ys × (f y ≡ x)
map-parts f x [] h = absurd h
map-parts f x (z ∷ zs) (inl h) = (z, inl refl, h)
map-parts f x (z ∷ zs) (inr h) = let r = map-parts f x zs h in (r.0, inr r.1, r.2)

-- what is looked up is one of the versions
found-in : (object : ℕ) (vs : List Version) (x : Version) → version_of object vs ≡ Some x → IsIn x vs × (x.object ≡ object)
found-in object [] x h = absurd cc
found-in object (v ∷ vs) x h =
    elim (v.object == object) as (λ b. (v.object == object) ≡ b → (if b then Some v else version_of object vs) ≡ Some x → IsIn x (v ∷ vs) × (x.object ≡ object)) [
      | true ↦ λ e t. (let same : v ≡ x = cc in (inl same, ap (λ (y : Version). y.object) (sym same) ∙ eqb-true v.object object e))
      | false ↦ λ e t. (let r = found-in object vs x t in (inr r.0, r.1))
    ] refl h

-- ---- what is missing is listed

abbrev line : Version → MissingLine
line x = record { object = x.object; size = x.size }

only-in : {A : Type 0} (b : Bool) (l : A) → b ≡ true → IsIn l (only b l)
only-in true l h = inl refl
only-in false l h = let never : false ≡ true = h in absurd cc

version-listed : (primary copy : ℕ) (x : Version) → is_missing primary copy x ≡ true → IsIn (line x) (missing_lines primary copy x)
version-listed primary copy x h = only-in (is_missing primary copy x) (line x) h

group-listed : (primary copy : ℕ) (x : Version) (f : Filespace) → is_missing primary copy x ≡ true → IsIn x (versions_in f.groups) → IsIn (line x) (missing_of_filespace primary copy f)
group-listed primary copy x f h m =
    let r = flat-parts (λ (g : List ℕ × Group). g.1.versions) x f.groups m in
    flat-in (λ (g : List ℕ × Group). missing_of_group primary copy g.1) (line x) r.0 f.groups r.1 (flat-in (missing_lines primary copy) (line x) x r.0.1.versions r.2 (version-listed primary copy x h))

kept-listed : (primary copy : ℕ) (v : Inv) (x : Version) → is_missing primary copy x ≡ true → IsIn x (versions_of v.clients.filespaces) ⊎ IsIn x (held_versions v.clients.held)
    → IsIn (line x) (missing_in primary copy v)
kept-listed primary copy v x h (inl m) =
    let r = flat-parts (λ (f : ℕ × Filespace). versions_in f.1.groups) x v.clients.filespaces m in
    sorted-in (λ (l : MissingLine). l.object) (line x) (missing_found primary copy v)
    (in-before (line x) (missing_of_filespaces primary copy v.clients.filespaces) (missing_of_held primary copy v.clients.held) (flat-in (λ
    (f : ℕ × Filespace). missing_of_filespace primary copy f.1) (line x) r.0 v.clients.filespaces r.1 (group-listed primary copy x r.0.1 h r.2)))
kept-listed primary copy v x h (inr m) =
    let r = map-parts (λ (e : ℕ × HeldRow). e.1.held.version) x v.clients.held m in
    sorted-in (λ (l : MissingLine). l.object) (line x) (missing_found primary copy v)
    (in-behind (line x) (missing_of_filespaces primary copy v.clients.filespaces) (missing_of_held primary copy v.clients.held) (flat-in (λ
    (e : ℕ × HeldRow). missing_lines primary copy e.1.held.version) (line x) r.0 v.clients.held r.1
    (subst (λ (y : Version). IsIn (line x) (missing_lines primary copy y)) (sym r.2) (version-listed primary copy x h))))

pub missing-listed : (primary copy object : ℕ) (v : Inv) (x : Version) → version object v ≡ Some x → is_missing primary copy x ≡ true
    → (l : MissingLine) × (l.object ≡ object) × IsIn l (missing_in primary copy v)
missing-listed primary copy object v x there h =
    let r = found-in object _ x there in
    (line x, r.1, kept-listed primary copy v x h (in-parts x (versions_of v.clients.filespaces) (held_versions v.clients.held) r.0))

-- ---- what is listed is kept

put-out : {A : Type 0} (f : A → ℕ) (x l : A) (xs : List A) → IsIn x (put_line f l xs) → IsIn x (l ∷ xs)
put-out f x l [] h = h
put-out f x l (o ∷ xs) h =
    elim (nat_le (f l) (f o)) as (λ b. IsIn x (if b then l ∷ o ∷ xs else o ∷ put_line f l xs) → IsIn x (l ∷ o ∷ xs)) [
      | true ↦ λ m. m
      | false ↦ λ m. elim m as (λ _. IsIn x (l ∷ o ∷ xs)) [
        | inl a ↦ inr (inl a)
        | inr r ↦ elim (put-out f x l xs r) as (λ _. IsIn x (l ∷ o ∷ xs)) [ inl a ↦ inl a | inr k ↦ inr (inr k) ]
      ]
    ] h

sorted-out : {A : Type 0} (f : A → ℕ) (x : A) (xs : List A) → IsIn x (by_object f xs) → IsIn x xs
sorted-out f x [] h = h
sorted-out f x (l ∷ xs) h = elim (put-out f x l (by_object f xs) h) as (λ _. IsIn x (l ∷ xs)) [
  | inl a ↦ inl a
  | inr r ↦ inr (sorted-out f x xs r)
]

version-found : (w : Version) (vs : List Version) → IsIn w vs → is_some (version_of w.object vs) ≡ true
version-found w [] h = absurd h
version-found w (v ∷ vs) (inl same) =
    ap (λ b. is_some (if b then Some v else version_of w.object vs)) (eq-eqb v.object w.object (ap (λ (y : Version). y.object) same))
version-found w (v ∷ vs) (inr h) = elim (v.object == w.object) as (λ b. is_some (if b then Some v else version_of w.object vs) ≡ true) [
  | true ↦ refl
  | false ↦ version-found w vs h
]

line-same : (b : Bool) (w : Version) (l : MissingLine) → IsIn l (only b (line w)) → w.object ≡ l.object
line-same true w l (inl same) = ap (λ (y : MissingLine). y.object) same
line-same true w l (inr h) = absurd h
line-same false w l h = absurd h

kept-out : (primary copy : ℕ) (v : Inv) (l : MissingLine) → IsIn l (missing_of_filespaces primary copy v.clients.filespaces) ⊎ IsIn l (missing_of_held primary copy v.clients.held)
    → (w : Version) × (w.object ≡ l.object) × IsIn w (versions_of v.clients.filespaces ++ held_versions v.clients.held)
kept-out primary copy v l (inl m) =
    let f = flat-parts (λ (f : ℕ × Filespace). missing_of_filespace primary copy f.1) l v.clients.filespaces m in
    let g = flat-parts (λ (g : List ℕ × Group). missing_of_group primary copy g.1) l f.0.1.groups f.2 in
    let w = flat-parts (missing_lines primary copy) l g.0.1.versions g.2 in (
      w.0,
      line-same (is_missing primary copy w.0) w.0 l w.2,
      in-before w.0 (versions_of v.clients.filespaces) (held_versions v.clients.held)
          (flat-in (λ (f : ℕ × Filespace). versions_in f.1.groups) w.0 f.0 v.clients.filespaces f.1 (flat-in (λ (g : List ℕ × Group). g.1.versions) w.0 g.0 f.0.1.groups g.1 w.1)),
    )
kept-out primary copy v l (inr m) =
    let h = flat-parts (λ (e : ℕ × HeldRow). missing_lines primary copy e.1.held.version) l v.clients.held m in (
      h.0.1.held.version,
      line-same (is_missing primary copy h.0.1.held.version) h.0.1.held.version l h.2,
      in-behind h.0.1.held.version (versions_of v.clients.filespaces) (held_versions v.clients.held)
          (map-in (λ (e : ℕ × HeldRow). e.1.held.version) h.0 v.clients.held h.1),
    )
  where
    map-in : {A B : Type 0} (f : A → B) (y : A) (ys : List A) → IsIn y ys → IsIn (f y) (map f ys)
    map-in f y [] k = absurd k
    map-in f y (z ∷ zs) (inl k) = inl (ap f k)
    map-in f y (z ∷ zs) (inr k) = inr (map-in f y zs k)

-- each object of the list is kept
pub listed-kept : (primary copy : ℕ) (v : Inv) (l : MissingLine) → IsIn l (missing_in primary copy v) → is_some (version l.object v) ≡ true
listed-kept primary copy v l h =
    let w = kept-out primary copy v l (in-parts l (missing_of_filespaces primary copy v.clients.filespaces) (missing_of_held primary copy v.clients.held)
    (sorted-out (λ (k : MissingLine). k.object) l (missing_found primary copy v) h)) in
    subst (λ (n : ℕ). is_some (version n v) ≡ true) w.1 (version-found w.0 (versions_of v.clients.filespaces ++ held_versions v.clients.held) w.2)

-- ---- what was answered

abbrev rows_told : Result Answer Refusal → Rows
rows_told (Ok a) = a.rows
rows_told (Err e) = rows.Today

pub told-missing : (v : Inv) (b : Bool) (xs : List MissingLine) (told : Answer)
    → on_ok (λ (r : Rows). record { n = v.number; today = v.today; rows = r }) (on_ok rows.Missing (if b then Ok xs else Err refused.NotFound)) ≡ Ok told
    → told.rows ≡ rows.Missing xs
told-missing v true xs told h = sym (ap rows_told h)
told-missing v false xs told h = absurd cc

pub asked-missing : (w : History) (actor : ℕ) (a b : Own) (n primary copy : ℕ) (answer : Answer) (lines : List MissingLine) → Step w actor a (event n (Ask (query.Missing primary copy) (Ok answer))) b
    → answer.rows ≡ rows.Missing lines → lines ≡ missing_in primary copy (inv w n)
unfolding Says
asked-missing w actor a b n primary copy answer lines s is =
    let v : Inv = inv w n in
    let h = s.says.1.1 in
    let told : h.0.rows ≡ rows.Missing (missing_in primary copy v) = told-missing v (has_pool primary v && has_pool copy v) (missing_in primary copy v) h.0 h.1 in
    let both : rows.Missing lines ≡ rows.Missing (missing_in primary copy v) = sym is ∙ ap (λ (x : Answer). x.rows) h.2 ∙ told in
    cc

pub asked-pools : (w : History) (actor : ℕ) (a b : Own) (n : ℕ) (answer : Answer) (lines : List PoolLine) → Step w actor a (event n (Ask (query.Pools None) (Ok answer))) b
    → answer.rows ≡ rows.Pools lines → lines ≡ pool_lines None (inv w n).stores
unfolding Says
asked-pools w actor a b n answer lines s is =
    let h = s.says.1.1 in
    let told : rows.Pools (pool_lines None (inv w n).stores) ≡ h.0.rows = ap rows_told h.1 in
    let both : rows.Pools lines ≡ rows.Pools (pool_lines None (inv w n).stores) = sym is ∙ ap (λ (x : Answer). x.rows) h.2 ∙ sym told in
    cc

-- ---- kinds

kind-found : (s : PoolRows) (number : ℕ) (pools : List (ℕ × Pool))
    → option_map (λ (l : PoolLine). l.kind) (find (λ (l : PoolLine). l.number == number) (map (pool_line s) pools)) ≡ option_map (λ (p : Pool). p.kind) (lookup (at_number number) pools)
kind-found s number [] = refl
kind-found s number (p ∷ pools) =
    elim (p.0 == number) as (λ b. option_map (λ (l : PoolLine). l.kind) (cond b (Some (pool_line s p)) (find (λ (l : PoolLine). l.number == number) (map (pool_line s) pools))) ≡ option_map (λ
    (q : Pool). q.kind) (cond b (Some p.1) (lookup (at_number number) pools))) [
      | true ↦ refl
      | false ↦ kind-found s number pools
    ]
    ∙ ap (λ b. option_map (λ (q : Pool). q.kind) (cond b (Some p.1) (lookup (at_number number) pools))) (sym (at-eqb number p.0))

pub kind-is : (number : ℕ) (v : Inv) (lines : List PoolLine) → lines ≡ pool_lines None v.stores → kind_of number lines ≡ pool_kind number v
kind-is number v lines h = ap (kind_of number) h ∙ kind-found v.stores number v.stores.pools
