-- A copy that passes a test is among those that pass it, and of each of these there is one.
use Rattle.std.proofs.Common.{◌≡◌, ◌⊎◌, inl, inr, ℕ, ◌==◌, ◌&&◌, is_some, Bool, true, false, nat_le, List, [], ◌∷◌, ◌++◌, map, Some, None, Result, Ok, Err, refl, sym, ap, subst, ◌∙◌, if◌then◌else◌}
use Rattle.std.proofs.lemmas.Bool.{eqb-true, false≢true}
use Rattle.std.specs.List.{AllByRecursion, find, flat_map, list_all}
use Rattle.kinds.specs.declared.refusal.Refusal.{Refusal}
use Rattle.kinds.specs.declared.refusal.Refusal.TheVariants as refused
use Rattle.inventory_rows.specs.version_groups.declared.copies.CopyRow.{CopyRow}
use Rattle.inventory_rows.specs.version_groups.declared.group.Group.{Group}
use Rattle.inventory_rows.specs.version_groups.declared.groups.Filespace.{Filespace}
use Rattle.inventory_rows.specs.version_groups.declared.versions.Version.{Version}
use Rattle.inventory_rows.specs.version_groups.Entries.{on_ok}
use Rattle.inventory_rows.specs.object_rows.declared.held_object.HeldRow.{HeldRow}
use Rattle.inventory_rows.specs.object_rows.Filespaces.{versions_in, versions_of}
use Rattle.inventory_rows.specs.object_rows.HeldRows.{held_versions}
use Rattle.inventory_rows.specs.pool_tables.Rows.{row_at}
use Rattle.inventory_rows.specs.Search.{copies, lies_on, pool, versions}
use Rattle.inventory_rows.specs.State.{Inv}
use Rattle.inventory_rules.specs.Valid.{is_of_pool, is_valid}
use Rattle.inventory_laws.proofs.Facts.{facts_of, first}
use Rattle.inventory_laws.proofs.Lists.{all_of}
use Rattle.inventory_answers.specs.declared.lines.VolumeLine.{VolumeLine}
use Rattle.inventory_answers.specs.declared.query.Query.TheVariants as query
use Rattle.inventory_answers.specs.declared.reply.Answer.{Answer}
use Rattle.inventory_answers.specs.declared.reply.Rows.{Rows}
use Rattle.inventory_answers.specs.declared.reply.Rows.TheVariants as rows
use Rattle.inventory_answers.specs.Stores.{volume_lines}
use Rattle.inventory_work.specs.declared.lines.CopyLine.{CopyLine}
use Rattle.inventory_work.specs.ByObject.{by_object, put_line}
use Rattle.inventory_work.specs.Copies.{copy_line, has_volume, node_of, on_volume}
use Rattle.inventory_work.specs.Lists.{only}
use Rattle.steps.specs.Events.{event}
use Rattle.steps.specs.Events.Deed.{Ask}
use Rattle.machine.specs.Fits.{History, Own, Step, inv}
use Rattle.machine.specs.Machine.{IsAnswer}
use Rattle.machine.specs.Says.{Says}
use Rattle.copy_runs.proofs.Outcomes.{in-before, in-behind}
use Rattle.copy_runs.proofs.Returning.{IsHeld, all-held}
use Rattle.copy_runs.specs.Returning.{Holds}
use Rattle.copy_runs.specs.Wanting.{IsIn}

-- ---- elements

put-in : {A : Type 0} (f : A → ℕ) (x l : A) (xs : List A) → IsIn x (l ∷ xs) → IsIn x (put_line f l xs)
put-in f x l [] h = h
put-in f x l (o ∷ xs) h =
    elim (nat_le (f l) (f o)) as (λ b. IsIn x (if b then l ∷ o ∷ xs else o ∷ put_line f l xs)) [
      | true ↦ h
      | false ↦ elim h as (λ _. IsIn x (o ∷ put_line f l xs)) [
        | inl a ↦ inr (put-in f x l xs (inl a))
        | inr r ↦ elim r as (λ _. IsIn x (o ∷ put_line f l xs)) [ inl b ↦ inl b | inr m ↦ inr (put-in f x l xs (inr m)) ]
      ]
    ]

sorted-in : {A : Type 0} (f : A → ℕ) (x : A) (xs : List A) → IsIn x xs → IsIn x (by_object f xs)
sorted-in f x [] h = absurd h
sorted-in f x (l ∷ xs) (inl h) = put-in f x l (by_object f xs) (inl h)
sorted-in f x (l ∷ xs) (inr h) = put-in f x l (by_object f xs) (inr (sorted-in f x xs h))

in-parts : {A : Type 0} (x : A) (xs ys : List A) → IsIn x (xs ++ ys) → IsIn x xs ⊎ IsIn x ys
in-parts x [] ys m = inr m
in-parts x (l ∷ xs) ys (inl h) = inl (inl h)
in-parts x (l ∷ xs) ys (inr m) = elim (in-parts x xs ys m) as (λ _. IsIn x (l ∷ xs) ⊎ IsIn x ys) [
  | inl h ↦ inl (inr h)
  | inr h ↦ inr h
]

flat-in : {A B : Type 0} (f : A → List B) (x : B) (y : A) (ys : List A) → IsIn y ys → IsIn x (f y) → IsIn x (flat_map f ys)
flat-in f x y [] h m = absurd h
flat-in f x y (z ∷ zs) (inl h) m = in-before x (f z) (flat_map f zs) (subst (λ a. IsIn x (f a)) (sym h) m)
flat-in f x y (z ∷ zs) (inr h) m = in-behind x (f z) (flat_map f zs) (flat-in f x y zs h m)

pub flat-parts : {A B : Type 0} (f : A → List B) (x : B) (ys : List A) → IsIn x (flat_map f ys) → (y : A) × IsIn y ys × IsIn x (f y)
flat-parts f x [] h = absurd h
flat-parts {A} f x (z ∷ zs) h = elim (in-parts x (f z) (flat_map f zs) h) as (λ _. (y : A) × IsIn y (z ∷ zs) × IsIn x (f y)) [
  | inl m ↦ (z, inl refl, m)
  | inr m ↦ (let r = flat-parts f x zs m in (r.0, inr r.1, r.2))
]

map-parts : {A B : Type 0} (f : A → B) (x : B) (ys : List A) → IsIn x (map f ys) → (y : A) × IsIn y ys × (f y ≡ x)
map-parts f x [] h = absurd h
map-parts f x (z ∷ zs) (inl h) = (z, inl refl, h)
map-parts f x (z ∷ zs) (inr h) = let r = map-parts f x zs h in (r.0, inr r.1, r.2)

found-in : {A : Type 0} (test : A → Bool) (xs : List A) (x : A) → find test xs ≡ Some x → IsIn x xs × (test x ≡ true)
found-in test [] x h = absurd cc
found-in {A} test (y ∷ ys) x h =
    elim (test y) as (λ b. test y ≡ b → (if b then Some y else find test ys) ≡ Some x → IsIn x (y ∷ ys) × (test x ≡ true)) [
      | true ↦ λ e t. (let same : y ≡ x = cc in (inl same, subst (λ (z : A). test z ≡ true) same e))
      | false ↦ λ e t. (let r = found-in test ys x t in (inr r.0, r.1))
    ] refl h

only-in : {A : Type 0} (b : Bool) (l : A) → b ≡ true → IsIn l (only b l)
only-in true l h = inl refl
only-in false l h = absurd (false≢true h)

-- ---- a copy is listed

-- the copies that pass it, as they are listed
abbrev lines_where : (here : CopyRow → Bool) (node : ℕ) → Version → List CopyLine
lines_where here node x = flat_map (λ (c : CopyRow). only (here c) (copy_line node x c)) x.copies

abbrev filespace_where : (here : CopyRow → Bool) → Filespace → List CopyLine
filespace_where here f = flat_map (λ (g : List ℕ × Group). flat_map (lines_where here f.node) g.1.versions) f.groups

abbrev filespaces_where : (here : CopyRow → Bool) → Inv → List CopyLine
filespaces_where here v = flat_map (λ (f : ℕ × Filespace). filespace_where here f.1) v.clients.filespaces

abbrev held_where : (here : CopyRow → Bool) → Inv → List CopyLine
held_where here v = flat_map (λ (h : ℕ × HeldRow). lines_where here (node_of h.1.filespace v.clients.filespaces) h.1.held.version) v.clients.held

abbrev pub lines_of_copies : (here : CopyRow → Bool) → Inv → List CopyLine
lines_of_copies here v = by_object (λ (l : CopyLine). l.object) (filespaces_where here v ++ held_where here v)

-- a line that is of the copy
abbrev pub IsLineOf : (object : ℕ) → CopyRow → CopyLine → Type 0
IsLineOf object copy l = (l.object ≡ object) × (l.pool ≡ copy.pool) × (l.placed ≡ copy.placed)

abbrev pub HasLine : (object : ℕ) → CopyRow → List CopyLine → Type 0
HasLine object copy lines = (l : CopyLine) × IsLineOf object copy l × IsIn l lines

version-lists : (here : CopyRow → Bool) (node : ℕ) (x : Version) (copy : CopyRow) → IsIn copy x.copies → here copy ≡ true → IsIn (copy_line node x copy) (lines_where here node x)
version-lists here node x copy m h = flat-in (λ (c : CopyRow). only (here c) (copy_line node x c)) (copy_line node x copy) copy x.copies m (only-in (here copy) (copy_line node x copy) h)

filespace-lists : (here : CopyRow → Bool) (f : Filespace) (x : Version) (copy : CopyRow) → IsIn copy x.copies → here copy ≡ true → IsIn x (versions_in f.groups) → IsIn (copy_line f.node x copy) (filespace_where here f)
filespace-lists here f x copy c h m =
    let r = flat-parts (λ (g : List ℕ × Group). g.1.versions) x f.groups m in
    flat-in (λ (g : List ℕ × Group). flat_map (lines_where here f.node) g.1.versions) (copy_line f.node x copy) r.0 f.groups r.1
    (flat-in (lines_where here f.node) (copy_line f.node x copy) x r.0.1.versions r.2 (version-lists here f.node x copy c h))

kept-lists : (here : CopyRow → Bool) (v : Inv) (x : Version) (copy : CopyRow) → IsIn copy x.copies → here copy ≡ true → IsIn x (versions_of v.clients.filespaces) ⊎ IsIn x (held_versions v.clients.held)
    → HasLine x.object copy (lines_of_copies here v)
kept-lists here v x copy c h (inl m) =
    let r = flat-parts (λ (f : ℕ × Filespace). versions_in f.1.groups) x v.clients.filespaces m in
    let l : CopyLine = copy_line r.0.1.node x copy in (
      l,
      (refl, refl, refl),
      sorted-in (λ (k : CopyLine). k.object) l (filespaces_where here v ++ held_where here v)
          (in-before l (filespaces_where here v) (held_where here v)
          (flat-in (λ (f : ℕ × Filespace). filespace_where here f.1) l r.0 v.clients.filespaces r.1 (filespace-lists here r.0.1 x copy c h r.2))),
    )
kept-lists here v x copy c h (inr m) =
    let r = map-parts (λ (e : ℕ × HeldRow). e.1.held.version) x v.clients.held m in
    let node : ℕ = node_of r.0.1.filespace v.clients.filespaces in
    let l : CopyLine = copy_line node x copy in (
      l,
      (refl, refl, refl),
      sorted-in (λ (k : CopyLine). k.object) l (filespaces_where here v ++ held_where here v)
          (in-behind l (filespaces_where here v) (held_where here v)
          (flat-in (λ (e : ℕ × HeldRow). lines_where here (node_of e.1.filespace v.clients.filespaces) e.1.held.version) l r.0 v.clients.held r.1
          (subst (λ (y : Version). IsIn l (lines_where here node y)) (sym r.2) (version-lists here node x copy c h)))),
    )

pub copy-listed : (here : CopyRow → Bool) (object : ℕ) (copy : CopyRow) (v : Inv) → Holds object copy v → here copy ≡ true → HasLine object copy (lines_of_copies here v)
copy-listed here object copy v (x, there, own) h =
    let r = found-in (λ (y : Version). y.object == object) _ x there in
    let k = found-in (λ (y : CopyRow). y.pool == copy.pool) x.copies copy own in
    subst (λ (n : ℕ). HasLine n copy (lines_of_copies here v)) (eqb-true x.object object r.1)
    (kept-lists here v x copy k.0 h (in-parts x (versions_of v.clients.filespaces) (held_versions v.clients.held) r.0))

-- ---- what is listed is there

in-put : {A : Type 0} (f : A → ℕ) (x l : A) (xs : List A) → IsIn x (put_line f l xs) → IsIn x (l ∷ xs)
in-put f x l [] h = h
in-put f x l (o ∷ xs) h =
    elim (nat_le (f l) (f o)) as (λ b. IsIn x (if b then l ∷ o ∷ xs else o ∷ put_line f l xs) → IsIn x (l ∷ o ∷ xs)) [
      | true ↦ λ m. m
      | false ↦ λ m. elim m as (λ _. IsIn x (l ∷ o ∷ xs)) [
        | inl same ↦ inr (inl same)
        | inr later ↦ (elim (in-put f x l xs later) as (λ _. IsIn x (l ∷ o ∷ xs)) [
          | inl same ↦ inl same
          | inr other ↦ inr (inr other)
        ])
      ]
    ] h

in-sorted : {A : Type 0} (f : A → ℕ) (x : A) (xs : List A) → IsIn x (by_object f xs) → IsIn x xs
in-sorted f x [] h = h
in-sorted f x (l ∷ xs) h = elim (in-put f x l (by_object f xs) h) as (λ _. IsIn x (l ∷ xs)) [
  | inl same ↦ inl same
  | inr later ↦ inr (in-sorted f x xs later)
]

pub is-only : {A : Type 0} (b : Bool) (l x : A) → IsIn x (only b l) → (l ≡ x) × (b ≡ true)
is-only true l x (inl h) = (h, refl)
is-only true l x (inr h) = absurd h
is-only false l x h = absurd h

map-in : {A B : Type 0} (f : A → B) (y : A) (ys : List A) → IsIn y ys → IsIn (f y) (map f ys)
map-in f y [] h = absurd h
map-in f y (z ∷ zs) (inl h) = inl (ap f h)
map-in f y (z ∷ zs) (inr h) = inr (map-in f y zs h)

all-has : {A : Type 0} (P : A → Type 0) (xs : List A) (x : A) → AllByRecursion P xs → IsIn x xs → P x
all-has P [] x h m = absurd m
all-has P (y ∷ ys) x h (inl same) = subst P same h.0
all-has P (y ∷ ys) x h (inr m) = all-has P ys x h.1 m

-- a copy of the database, of which the line is
record FromCopy (test : CopyRow → Bool) (l : CopyLine) (v : Inv) : Type 0 where
  x : Version
  c : CopyRow
  kept : IsIn x (versions v)
  its : IsIn c x.copies
  object : x.object ≡ l.object
  pool : c.pool ≡ l.pool
  passes : test c ≡ true

from-version : (here : CopyRow → Bool) (node : ℕ) (x : Version) (l : CopyLine) (v : Inv) → IsIn x (versions v) → IsIn l (lines_where here node x) → FromCopy here l v
from-version here node x l v kept m =
    let r = flat-parts (λ (c : CopyRow). only (here c) (copy_line node x c)) l x.copies m in
    let same = is-only (here r.0) (copy_line node x r.0) l r.2 in
    record { x = x; c = r.0; kept = kept; its = r.1; object = ap (λ (k : CopyLine). k.object) same.0; pool = ap (λ (k : CopyLine). k.pool) same.0; passes = same.1 }

from-filespace : (here : CopyRow → Bool) (v : Inv) (l : CopyLine) → IsIn l (filespaces_where here v) → FromCopy here l v
from-filespace here v l m =
    let f = flat-parts (λ (e : ℕ × Filespace). filespace_where here e.1) l v.clients.filespaces m in
    let g = flat-parts (λ (e : List ℕ × Group). flat_map (lines_where here f.0.1.node) e.1.versions) l f.0.1.groups f.2 in
    let x = flat-parts (lines_where here f.0.1.node) l g.0.1.versions g.2 in
    from-version here f.0.1.node x.0 l v
    (in-before x.0 (versions_of v.clients.filespaces) (held_versions v.clients.held)
    (flat-in (λ (e : ℕ × Filespace). versions_in e.1.groups) x.0 f.0 v.clients.filespaces f.1 (flat-in (λ (e : List ℕ × Group). e.1.versions) x.0 g.0 f.0.1.groups g.1 x.1))) x.2

from-held : (here : CopyRow → Bool) (v : Inv) (l : CopyLine) → IsIn l (held_where here v) → FromCopy here l v
from-held here v l m =
    let h = flat-parts (λ (e : ℕ × HeldRow). lines_where here (node_of e.1.filespace v.clients.filespaces) e.1.held.version) l v.clients.held m in
    from-version here (node_of h.0.1.filespace v.clients.filespaces) h.0.1.held.version l v
    (in-behind h.0.1.held.version (versions_of v.clients.filespaces) (held_versions v.clients.held) (map-in (λ (e : ℕ × HeldRow). e.1.held.version) h.0 v.clients.held h.1)) h.2

-- in a valid database the object has a copy in the line's pool, which is there
pub line-held : (here : CopyRow → Bool) (v : Inv) (l : CopyLine) → is_valid v ≡ true → IsIn l (lines_of_copies here v) → (copy : CopyRow) × Holds l.object copy v × (copy.pool ≡ l.pool) × (is_some (pool copy.pool v) ≡ true) × (here copy ≡ true)
line-held here v l valid m =
    let k : FromCopy here l v = elim (in-parts l (filespaces_where here v) (held_where here v) (in-sorted (λ (a : CopyLine). a.object) l (filespaces_where here v ++ held_where here v) m)) as (λ _. FromCopy here l v) [
      | inl kept ↦ from-filespace here v l kept
      | inr held ↦ from-held here v l held
    ] in
    let its : IsIn (k.x.object, k.c) (copies v) = flat-in (λ (w : Version). map (λ (c : CopyRow). (w.object, c)) w.copies) (k.x.object, k.c) k.x (versions v) k.kept (map-in (λ (c : CopyRow). (k.x.object, c)) k.c k.x.copies k.its) in
    let cited = all-has (λ (e : ℕ × CopyRow). (is_some (pool e.1.pool v) && list_all (λ s. is_of_pool e.1.pool (row_at s.file v.stores.volumes)) e.1.segments) ≡ true) (copies v) (k.x.object, k.c)
    (all_of (λ (e : ℕ × CopyRow). is_some (pool e.1.pool v) && list_all (λ s. is_of_pool e.1.pool (row_at s.file v.stores.volumes)) e.1.segments) (copies v) (facts_of v valid).copies_cite) its in (
      k.c,
      subst (λ (n : ℕ). Holds n k.c v) k.object (all-has (IsHeld v) (copies v) (k.x.object, k.c) (all-held v valid) its),
      k.pool,
      first (is_some (pool k.c.pool v)) (list_all (λ s. is_of_pool k.c.pool (row_at s.file v.stores.volumes)) k.c.segments) cited,
      k.passes,
    )
