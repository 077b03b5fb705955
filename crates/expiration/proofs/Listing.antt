-- What can expire is listed.
use Rattle.std.proofs.Common.{◌≡◌, ◌⊎◌, inl, inr, ℕ, suc, ◌==◌, ◌||◌, Bool, true, false, not, nat_le, List, [], ◌∷◌, ◌++◌, Option, Some, None, refl, sym, ap, subst, ◌∙◌, if◌then◌else◌}
use Rattle.std.proofs.lemmas.Bool.{and_parts, eqb-true, false≢true}
use Rattle.std.specs.List.{flat_map}
use Rattle.std.specs.Map.{lookup}
use Rattle.std.specs.Option.{option_map_or}
use Rattle.kinds.specs.declared.rule.RuleFound.{RuleFound}
use Rattle.copy_groups.specs.Retention.{is_held_on, is_owed}
use Rattle.inventory_rows.proofs.of_object_rows.Stands.{same_number, same_path}
use Rattle.inventory_rows.proofs.of_pool_tables.Names.{same_is}
use Rattle.inventory_rows.specs.version_groups.declared.group.Group.{Group}
use Rattle.inventory_rows.specs.version_groups.declared.groups.Filespace.{Filespace}
use Rattle.inventory_rows.specs.version_groups.declared.versions.Version.{Version}
use Rattle.inventory_rows.specs.version_groups.Groups.{at_path, versions_in}
use Rattle.inventory_rows.specs.version_groups.Versions.{has_active, has_object}
use Rattle.inventory_rows.specs.object_rows.declared.held_object.HeldRow.{HeldRow}
use Rattle.inventory_rows.specs.object_rows.Filespaces.{at_number, filespace_at, group_at, groups_in, versions_at}
use Rattle.inventory_rows.specs.object_rows.HeldRows.{has_under, held_at, is_under as row_under}
use Rattle.inventory_rows.specs.Search.{rule_in}
use Rattle.inventory_rows.specs.State.{Inv}
use Rattle.inventory_rules.specs.Owed.{is_owed_from, is_owed_of, is_retained}
use Rattle.inventory_rules.specs.Versions.{is_under}
use Rattle.inventory_work.specs.ByObject.{by_object, put_line}
use Rattle.inventory_work.specs.Expiring.{unretained, unretained_lines, unretained_of_filespace, unretained_of_filespaces, unretained_of_group, unretained_of_held, unretained_of_row}
use Rattle.inventory_work.specs.Lists.{flat_from, only}
use Rattle.inventory_work.specs.declared.lines.UnretainedLine.{UnretainedLine}
use Rattle.expiration.specs.Rows.{is_expirable}

-- one of the elements
abbrev pub Member : {A : Type 0} → A → List A → Type 0
Member x [] = ⊥
Member x (y ∷ ys) = (y ≡ x) ⊎ Member x ys

-- an object under a path, as what isn't retained lists it
abbrev pub line : ℕ → List ℕ → ℕ → UnretainedLine
line filespace path object = record { filespace = filespace; path = path; object = object }

-- each held object stands under its own number
abbrev pub AreNumbered : List (ℕ × HeldRow) → Type 0
AreNumbered held = (object : ℕ) (row : HeldRow) → held_at object held ≡ Some row → row.held.version.object ≡ object

-- ---- members of lists

put-member : {A : Type 0} (f : A → ℕ) (x l : A) (xs : List A) → Member x (l ∷ xs) → Member x (put_line f l xs)
put-member f x l [] h = h
put-member f x l (o ∷ xs) h =
    elim (nat_le (f l) (f o)) as (λ b. Member x (if b then l ∷ o ∷ xs else o ∷ put_line f l xs)) [
      | true ↦ h
      | false ↦ elim h as (λ _. Member x (o ∷ put_line f l xs)) [
        | inl a ↦ inr (put-member f x l xs (inl a))
        | inr r ↦ elim r as (λ _. Member x (o ∷ put_line f l xs)) [ inl b ↦ inl b | inr m ↦ inr (put-member f x l xs (inr m)) ]
      ]
    ]

sorted-member : {A : Type 0} (f : A → ℕ) (x : A) (xs : List A) → Member x xs → Member x (by_object f xs)
sorted-member f x [] h = absurd h
sorted-member f x (l ∷ xs) (inl h) = put-member f x l (by_object f xs) (inl h)
sorted-member f x (l ∷ xs) (inr h) = put-member f x l (by_object f xs) (inr (sorted-member f x xs h))

member-before : {A : Type 0} (x : A) (xs ys : List A) → Member x xs → Member x (xs ++ ys)
member-before x [] ys h = absurd h
member-before x (l ∷ xs) ys (inl h) = inl h
member-before x (l ∷ xs) ys (inr h) = inr (member-before x xs ys h)

member-behind : {A : Type 0} (x : A) (xs ys : List A) → Member x ys → Member x (xs ++ ys)
member-behind x [] ys h = h
member-behind x (l ∷ xs) ys h = inr (member-behind x xs ys h)

-- it is one of the first or one of the others
pub member-parts : {A : Type 0} (x : A) (xs ys : List A) → Member x (xs ++ ys) → Member x xs ⊎ Member x ys
member-parts x [] ys m = inr m
member-parts x (l ∷ xs) ys (inl h) = inl (inl h)
member-parts x (l ∷ xs) ys (inr m) = elim (member-parts x xs ys m) as (λ _. Member x (l ∷ xs) ⊎ Member x ys) [
  | inl h ↦ inl (inr h)
  | inr h ↦ inr h
]

flat-member : {A B : Type 0} (f : A → List B) (x : B) (y : A) (ys : List A) → Member y ys → Member x (f y) → Member x (flat_map f ys)
flat-member f x y [] h m = absurd h
flat-member f x y (z ∷ zs) (inl h) m = member-before x (f z) (flat_map f zs) (subst (λ a. Member x (f a)) (sym h) m)
flat-member f x y (z ∷ zs) (inr h) m = member-behind x (f z) (flat_map f zs) (flat-member f x y zs h m)

-- what is looked up is an entry
found-member : {K V : Type 0} (test : K → Bool) (es : List (K × V)) (v : V) → lookup test es ≡ Some v → (k : K) × Member (k, v) es × (test k ≡ true)
found-member test [] v h = absurd cc
found-member {K} {V} test (e ∷ es) v h =
    elim (test e.0) as (λ b. test e.0 ≡ b → (if b then Some e.1 else lookup test es) ≡ Some v → (k : K) × Member (k, v) (e ∷ es) × (test k ≡ true)) [
      | true ↦ λ t s. (let same : e.1 ≡ v = cc in (e.0, inl (ap (λ (x : V). (e.0, x)) same), t))
      | false ↦ λ t s. (let r = found-member test es v s in (r.0, inr r.1, r.2))
    ] refl h

only-member : {A : Type 0} (b : Bool) (line x : A) → b ≡ true → line ≡ x → Member x (only b line)
only-member true line x h e = inl e
only-member false line x h e = absurd (false≢true h)

not-of : (b : Bool) → b ≡ false → not b ≡ true
not-of true h = absurd (false≢true (sym h))
not-of false h = refl

-- ---- versions

unowed-listed : (filespace : ℕ) (path : List ℕ) (rule : Option RuleFound) (active : Bool) (today object place : ℕ) (versions : List Version) → has_object object versions ≡ true
    → is_owed_from rule active today object place versions ≡ false → Member (line filespace path object) (flat_from (unretained_lines filespace path rule active today) place versions)
unowed-listed filespace path rule active today object place [] h u = absurd (false≢true h)
unowed-listed filespace path rule active today object place (v ∷ older) h u =
    elim (v.object == object) as (λ b. (v.object == object) ≡ b → (b || has_object object older) ≡ true
    → (if b then is_owed rule active v.since today place else is_owed_from rule active today object (suc place) older) ≡ false
    → Member (line filespace path object) (unretained_lines filespace path rule active today place v ++ flat_from (unretained_lines filespace path rule active today) (suc place) older)) [
      | true ↦ λ e s t. member-before (line filespace path object) (unretained_lines filespace path rule active today place v) _
          (only-member (not (is_owed rule active v.since today place)) (line filespace path v.object) (line filespace path object) (not-of (is_owed rule active v.since today place) t)
          (ap (line filespace path) (eqb-true v.object object e)))
      | false ↦ λ e s t. member-behind (line filespace path object) (unretained_lines filespace path rule active today place v) _
          (unowed-listed filespace path rule active today object (suc place) older s t)
    ] refl h u

-- of the group that was found under the path
group-listed : (v : Inv) (filespace : ℕ) (path : List ℕ) (object : ℕ) (f : Filespace) → (found : Option Group) → lookup (at_path path) f.groups ≡ found → has_object object (versions_in found) ≡ true
    → is_owed_of filespace v.domains v.clients v.today object found ≡ false → Member (line filespace path object) (unretained_of_filespace v filespace f)
group-listed v filespace path object f None is h u = absurd (false≢true h)
group-listed v filespace path object f (Some g) is h u =
    let e = found-member (at_path path) f.groups g is in
    let same : path ≡ e.0 = same_path path e.0 e.2 in
    flat-member (λ (x : List ℕ × Group). unretained_of_group filespace x.0 (rule_in filespace x.1.class v) v.today x.1) (line filespace path object) (e.0, g) f.groups e.1
    (subst (λ (p : List ℕ). Member (line filespace path object) (unretained_of_group filespace p (rule_in filespace g.class v) v.today g)) same
    (unowed-listed filespace path (rule_in filespace g.class v) (has_active g.versions) v.today object 0 g.versions h u))

-- of the filespace that was found
filespace-listed : (v : Inv) (filespace : ℕ) (path : List ℕ) (object : ℕ) (found : Option Filespace) → filespace_at filespace v.clients.filespaces ≡ found
    → has_object object (versions_in (lookup (at_path path) (groups_in found))) ≡ true → is_owed_of filespace v.domains v.clients v.today object (lookup (at_path path) (groups_in found)) ≡ false
    → Member (line filespace path object) (unretained_of_filespaces v v.clients.filespaces)
filespace-listed v filespace path object None is h u = absurd (false≢true h)
filespace-listed v filespace path object (Some f) is h u =
    let e = found-member (at_number filespace) v.clients.filespaces f is in
    let same : filespace ≡ e.0 = same_number filespace e.0 e.2 in
    flat-member (λ (x : ℕ × Filespace). unretained_of_filespace v x.0 x.1) (line filespace path object) (e.0, f) v.clients.filespaces e.1
    (subst (λ (n : ℕ). Member (line filespace path object) (unretained_of_filespace v n f)) same (group-listed v filespace path object f (lookup (at_path path) f.groups) refl h u))

-- ---- held objects

held-listed : (v : Inv) (filespace : ℕ) (path : List ℕ) (object : ℕ) → AreNumbered v.clients.held → (found : Option HeldRow) → held_at object v.clients.held ≡ found
    → option_map_or (row_under filespace path) found false ≡ true
    → option_map_or (λ row. is_held_on v.today row.held.until) found false ≡ false → Member (line filespace path object) (unretained_of_held v.today v.clients.held)
held-listed v filespace path object numbered None is h u = absurd (false≢true h)
held-listed v filespace path object numbered (Some row) is h u =
    let parts = and_parts (row.filespace == filespace) _ h in
    let e = found-member (at_number object) v.clients.held row is in
    let a : row.filespace ≡ filespace = eqb-true row.filespace filespace parts.0 in
    let b : row.held.path ≡ path = same_is row.held.path path parts.1 in
    let c : row.held.version.object ≡ object = numbered object row is in
    flat-member (λ (x : ℕ × HeldRow). unretained_of_row v.today x.1) (line filespace path object) (e.0, row) v.clients.held e.1
    (only-member (not (is_held_on v.today row.held.until)) (line row.filespace row.held.path row.held.version.object) (line filespace path object) (not-of (is_held_on v.today row.held.until) u)
    (ap (λ (n : ℕ). line n row.held.path row.held.version.object) a ∙ ap (λ (p : List ℕ). line filespace p row.held.version.object) b ∙ ap (line filespace path) c))

-- ---- both

not-is : (b : Bool) → not b ≡ true → b ≡ false
not-is true h = absurd (false≢true h)
not-is false h = refl

pub expirable-listed : (v : Inv) (filespace : ℕ) (path : List ℕ) (object : ℕ) → AreNumbered v.clients.held → is_expirable filespace path object v ≡ true
    → Member (line filespace path object) (unretained v)
expirable-listed v filespace path object numbered h =
    let parts = and_parts (is_under filespace path object v) (not (is_retained filespace path object v)) h in
    let unretained_there : is_retained filespace path object v ≡ false = not-is (is_retained filespace path object v) parts.1 in
    sorted-member (λ l. l.object) (line filespace path object) (unretained_of_filespaces v v.clients.filespaces ++ unretained_of_held v.today v.clients.held)
    (elim (has_under filespace path object v.clients.held) as (λ b. has_under filespace path object v.clients.held ≡ b
    → (b || has_object object (versions_at filespace path v.clients.filespaces)) ≡ true
    → (if b then option_map_or (λ row. is_held_on v.today row.held.until) (held_at object v.clients.held) false else is_owed_of filespace v.domains v.clients v.today object
    (group_at filespace path v.clients.filespaces)) ≡ false
    → Member (line filespace path object) (unretained_of_filespaces v v.clients.filespaces ++ unretained_of_held v.today v.clients.held)) [
      | true ↦ λ e s t. member-behind (line filespace path object) (unretained_of_filespaces v v.clients.filespaces) _
          (held-listed v filespace path object numbered (held_at object v.clients.held) refl e t)
      | false ↦ λ e s t. member-before (line filespace path object) _ (unretained_of_held v.today v.clients.held)
          (filespace-listed v filespace path object (filespace_at filespace v.clients.filespaces) refl s t)
    ] refl parts.0 unretained_there)
