-- What is listed waits for its removal, and its objects ascend.
use Rattle.std.proofs.Common.{◌≡◌, inl, inr, ℕ, suc, ◌<◌, ◌≤◌, Bool, true, false, cond, eqb, not, nat_le, ◌||◌, List, [], ◌∷◌, ◌++◌, Option, Some, None, Ordering, refl, sym, ap, subst, ◌∙◌, arith, if◌then◌else◌}
use Rattle.std.proofs.lemmas.Bool.{and_from, and_parts, eq-eqb, eqb-false, eqb-true, false≢true, leb-false, leb-true, ne_eqb, not-true, or_left, or_right}
use Rattle.std.proofs.lemmas.List.Concat.{flat_map_single}
use Rattle.std.proofs.lemmas.Map.Keys.{sorted_tail}
use Rattle.std.specs.BTreeMap.{is_at}
use Rattle.std.specs.Cmp.{IsTotalOrder, nat_cmp_total, tied_itself}
use Rattle.std.specs.Cmp.Lexicographic.{nat_list_cmp_total}
use Rattle.std.specs.List.{flat_map, list_all, AllByRecursion}
use Rattle.std.specs.List.Sorted.{IsStrictlySortedBy}
use Rattle.std.specs.Map.{keys_of, lookup}
use Rattle.std.specs.Option.{is_some, option_map_or}
use Rattle.std.specs.Ordering.{is_eq}
use Rattle.kinds.specs.Names.{is_same_name}
use Rattle.kinds.specs.declared.rule.RuleFound.{RuleFound}
use Rattle.copy_groups.specs.Retention.{is_held_on, is_owed}
use Rattle.inventory_rows.specs.version_groups.declared.group.Group.{Group}
use Rattle.inventory_rows.specs.version_groups.declared.groups.Filespace.{Filespace}
use Rattle.inventory_rows.specs.version_groups.declared.versions.Version.{Version}
use Rattle.inventory_rows.specs.version_groups.Groups as grouped
use Rattle.inventory_rows.specs.version_groups.Versions.{are_distinct, has_active, has_object}
use Rattle.inventory_rows.proofs.of_version_groups.Lists.{are_of_others}
use Rattle.inventory_rows.specs.object_rows.declared.held_object.HeldRow.{HeldRow}
use Rattle.inventory_rows.specs.object_rows.Filespaces.{filespace_at, group_at, groups_in, versions_in, versions_of}
use Rattle.inventory_rows.specs.object_rows.HeldRows.{held_at, held_versions, is_held_row, is_under as row_under}
use Rattle.inventory_rows.proofs.of_object_rows.Stands.{at-eqb, passed}
use Rattle.inventory_rows.proofs.of_object_rows.VersionLists.{none_of_others, parted}
use Rattle.inventory_rows.proofs.of_pool_tables.Names.{same_itself}
use Rattle.inventory_rows.specs.Search.{rule_in, versions}
use Rattle.inventory_rows.specs.State.{Inv}
use Rattle.inventory_rules.specs.Halfway.{VersionFacts}
use Rattle.inventory_rules.specs.Ordered.{IsOrdered}
use Rattle.inventory_rules.specs.Owed.{is_owed_from, is_owed_in, is_owed_of}
use Rattle.inventory_rules.specs.Valid.{is_valid}
use Rattle.inventory_laws.proofs.Arriving.{has-append}
use Rattle.inventory_laws.proofs.Facts.{facts_of}
use Rattle.inventory_laws.proofs.Grouped.{ordered_at}
use Rattle.inventory_laws.proofs.HeldNumbers.{has-held}
use Rattle.inventory_laws.proofs.Kept.{is_held_there}
use Rattle.inventory_laws.proofs.VersionsWhole.{begins}
use Rattle.inventory_work.specs.ByObject.{by_object, put_line}
use Rattle.inventory_work.specs.Expiring.{unretained, unretained_lines, unretained_of_filespace, unretained_of_filespaces, unretained_of_group, unretained_of_held, unretained_of_row}
use Rattle.inventory_work.specs.Lists.{flat_from, only}
use Rattle.inventory_work.specs.declared.lines.UnretainedLine.{UnretainedLine}
use Rattle.expiration.proofs.InTurn.{Waits, is_until}
use Rattle.expiration.proofs.Listing.{Member, line, member-parts}
use Rattle.expiration.specs.Alone.{AreInTurn}

-- ---- members of lists

put-from : {A : Type 0} (f : A → ℕ) (x l : A) (xs : List A) → Member x (put_line f l xs) → Member x (l ∷ xs)
put-from f x l [] h = h
put-from f x l (o ∷ xs) h =
    elim (nat_le (f l) (f o)) as (λ b. Member x (if b then l ∷ o ∷ xs else o ∷ put_line f l xs) → Member x (l ∷ o ∷ xs)) [
      | true ↦ λ m. m
      | false ↦ λ m. elim m as (λ _. Member x (l ∷ o ∷ xs)) [
        | inl same ↦ inr (inl same)
        | inr rest ↦ elim (put-from f x l xs rest) as (λ _. Member x (l ∷ o ∷ xs)) [ inl same ↦ inl same | inr there ↦ inr (inr there) ]
      ]
    ] h

sorted-from : {A : Type 0} (f : A → ℕ) (x : A) (xs : List A) → Member x (by_object f xs) → Member x xs
sorted-from f x [] h = h
sorted-from f x (l ∷ xs) h = elim (put-from f x l (by_object f xs) h) as (λ _. Member x (l ∷ xs)) [ inl same ↦ inl same | inr there ↦ inr (sorted-from f x xs there) ]

flat-from : {A B : Type 0} (f : A → List B) (x : B) (ys : List A) → Member x (flat_map f ys) → (y : A) × Member y ys × Member x (f y)
flat-from f x [] h = absurd h
flat-from {A} f x (y ∷ ys) h = elim (member-parts x (f y) (flat_map f ys) h) as (λ _. (z : A) × Member z (y ∷ ys) × Member x (f z)) [
  | inl m ↦ (y, inl refl, m)
  | inr m ↦ (let r = flat-from f x ys m in (r.0, inr r.1, r.2))
]

only-from : {A : Type 0} (b : Bool) (l x : A) → Member x (only b l) → (b ≡ true) × (l ≡ x)
only-from true l x (inl same) = (refl, same)
only-from true l x (inr m) = absurd m
only-from false l x m = absurd m

-- an entry of a map is found under its key
member-found : {K X : Type 0} {R : K → K → Ordering} (o : IsTotalOrder R) (k : K) (x : X) (es : List (K × X)) → IsStrictlySortedBy R (keys_of es) → Member (k, x) es → lookup (is_at (R k)) es ≡ Some x
member-found o k x [] sorted h = absurd h
member-found {K} {X} {R} o k x (e ∷ es) sorted (inl same) = ap (λ (y : K × X). lookup (is_at (R k)) (y ∷ es)) same ∙ ap (λ b. cond b (Some x) (lookup (is_at (R k)) es)) (ap is_eq (tied_itself o k))
member-found {K} {X} {R} o k x (e ∷ es) sorted (inr m) = passed o k e es x sorted (member-found o k x es (sorted_tail R e.0 (keys_of es) sorted) m)

-- ---- versions of which no two are of one object

differs : (m o : ℕ) (vs : List Version) → are_of_others m vs ≡ true → has_object o vs ≡ true → eqb m o ≡ false
differs m o vs all has = ne_eqb m o (λ e. false≢true (sym (none_of_others m vs all) ∙ ap (λ k. has_object k vs) e ∙ has))

flat-part : {A : Type 0} (f : A → List Version) (y : A) (ys : List A) → are_distinct (flat_map f ys) ≡ true → Member y ys → are_distinct (f y) ≡ true
flat-part f y [] d m = absurd m
flat-part {A} f y (z ∷ zs) d (inl same) = subst (λ (x : A). are_distinct (f x) ≡ true) same (parted (f z) (flat_map f zs) d).front
flat-part f y (z ∷ zs) d (inr m) = flat-part f y zs (parted (f z) (flat_map f zs) d).behind m

flat-has : {A : Type 0} (k : ℕ) (f : A → List Version) (y : A) (ys : List A) → Member y ys → has_object k (f y) ≡ true → has_object k (flat_map f ys) ≡ true
flat-has k f y [] m h = absurd m
flat-has {A} k f y (z ∷ zs) (inl same) h =
    has-append k (f z) (flat_map f zs) ∙ or_left (has_object k (f z)) (has_object k (flat_map f zs)) (ap (λ (x : A). has_object k (f x)) same ∙ h)
flat-has k f y (z ∷ zs) (inr m) h = has-append k (f z) (flat_map f zs) ∙ or_right (has_object k (f z)) (has_object k (flat_map f zs)) (flat-has k f y zs m h)

-- ---- a version that is listed

record Unowed (filespace : ℕ) (path : List ℕ) (rule : Option RuleFound) (active : Bool) (today place : ℕ) (vs : List Version) (l : UnretainedLine) : Type 0 where
  pub filespace_is : l.filespace ≡ filespace
  pub path_is : l.path ≡ path
  pub has : has_object l.object vs ≡ true
  pub unowed : is_owed_from rule active today l.object place vs ≡ false

unowed-of : (filespace : ℕ) (path : List ℕ) (rule : Option RuleFound) (active : Bool) (today place : ℕ) (vs : List Version) → are_distinct vs ≡ true → (l : UnretainedLine)
    → Member l (flat_from (unretained_lines filespace path rule active today) place vs) → Unowed filespace path rule active today place vs l
unowed-of filespace path rule active today place [] d l m = absurd m
unowed-of filespace path rule active today place (v ∷ older) d l m =
    let ds = and_parts (are_of_others v.object older) (are_distinct older) d in
    elim (member-parts l (unretained_lines filespace path rule active today place v) (flat_from (unretained_lines filespace path rule active today) (suc place) older) m) as
    (λ _. Unowed filespace path rule active today place (v ∷ older) l) [
      | inl here ↦
          (let r = only-from (not (is_owed rule active v.since today place)) (line filespace path v.object) l here in
          let same : eqb v.object l.object ≡ true = eq-eqb v.object l.object (ap (λ (x : UnretainedLine). x.object) r.1) in
          record {
            filespace_is = ap (λ (x : UnretainedLine). x.filespace) (sym r.1);
            path_is = ap (λ (x : UnretainedLine). x.path) (sym r.1);
            has = ap (λ b. b || has_object l.object older) same;
            unowed = ap (λ b. cond b (is_owed rule active v.since today place) (is_owed_from rule active today l.object (suc place) older)) same
                ∙ not-true (is_owed rule active v.since today place) r.0;
          })
      | inr there ↦
          (let r = unowed-of filespace path rule active today (suc place) older ds.1 l there in
          record {
            filespace_is = r.filespace_is;
            path_is = r.path_is;
            has = or_right (eqb v.object l.object) (has_object l.object older) r.has;
            unowed = ap (λ b. cond b (is_owed rule active v.since today place) (is_owed_from rule active today l.object (suc place) older)) (differs v.object l.object older ds.0 r.has) ∙ r.unowed;
          })
    ]

-- it stands in the group of its path
record InGroup (v : Inv) (l : UnretainedLine) : Type 0 where
  pub group : Group
  pub there : group_at l.filespace l.path v.clients.filespaces ≡ Some group
  pub has : has_object l.object group.versions ≡ true
  pub unowed : is_owed_in (rule_in l.filespace group.class v) v.today l.object group.versions ≡ false
  pub kept : has_object l.object (versions_of v.clients.filespaces) ≡ true

listed-version : (v : Inv) (l : UnretainedLine) → are_distinct (versions_of v.clients.filespaces) ≡ true → IsOrdered v → Member l (unretained_of_filespaces v v.clients.filespaces) → InGroup v l
listed-version v l d ordered m =
    let fs : List (ℕ × Filespace) = v.clients.filespaces in
    let f = flat-from (λ (x : ℕ × Filespace). unretained_of_filespace v x.0 x.1) l fs m in
    let g = flat-from (λ (x : List ℕ × Group). unretained_of_group f.0.0 x.0 (rule_in f.0.0 x.1.class v) v.today x.1) l f.0.1.groups f.2 in
    let df : are_distinct (versions_in f.0.1.groups) ≡ true = flat-part (λ (x : ℕ × Filespace). versions_in x.1.groups) f.0 fs d f.1 in
    let dg : are_distinct g.0.1.versions ≡ true = flat-part (λ (x : List ℕ × Group). x.1.versions) g.0 f.0.1.groups df g.1 in
    let u = unowed-of f.0.0 g.0.0 (rule_in f.0.0 g.0.1.class v) (has_active g.0.1.versions) v.today 0 g.0.1.versions dg l g.2 in
    let found : filespace_at f.0.0 fs ≡ Some f.0.1 = member-found nat_cmp_total f.0.0 f.0.1 fs ordered.by_number f.1 in
    let at : grouped.group_at g.0.0 f.0.1.groups ≡ Some g.0.1 = member-found nat_list_cmp_total g.0.0 g.0.1 f.0.1.groups (ordered_at f.0.0 fs f.0.1 ordered.by_path found) g.1 in
    record {
      group = g.0.1;
      there = ap (λ (n : ℕ). group_at n l.path fs) u.filespace_is ∙ ap (λ (p : List ℕ). group_at f.0.0 p fs) u.path_is ∙ ap (λ (o : Option Filespace). grouped.group_at g.0.0 (groups_in o)) found ∙ at;
      has = u.has;
      unowed = ap (λ (n : ℕ). is_owed_in (rule_in n g.0.1.class v) v.today l.object g.0.1.versions) u.filespace_is ∙ u.unowed;
      kept = flat-has l.object (λ (x : ℕ × Filespace). versions_in x.1.groups) f.0 fs f.1 (flat-has l.object (λ (x : List ℕ × Group). x.1.versions) g.0 f.0.1.groups g.1 u.has);
    }

-- ---- a held object that is listed

held-has : (h : ℕ × HeldRow) (held : List (ℕ × HeldRow)) → Member h held → has_object h.1.held.version.object (held_versions held) ≡ true
held-has h [] m = absurd m
held-has h (e ∷ held) (inl same) =
    or_left (eqb e.1.held.version.object h.1.held.version.object) (has_object h.1.held.version.object (held_versions held))
    (eq-eqb e.1.held.version.object h.1.held.version.object (ap (λ (x : ℕ × HeldRow). x.1.held.version.object) same))
held-has h (e ∷ held) (inr m) = or_right (eqb e.1.held.version.object h.1.held.version.object) (has_object h.1.held.version.object (held_versions held)) (held-has h held m)

held-number : (fs : List (ℕ × Filespace)) (e : ℕ × HeldRow) → is_held_there fs e ≡ true → e.1.held.version.object ≡ e.0
held-number fs e h = eqb-true e.1.held.version.object e.0 (and_parts (eqb e.1.held.version.object e.0) _ (and_parts (is_held_row e) _ h).0).0

held-found : (fs : List (ℕ × Filespace)) (held : List (ℕ × HeldRow)) → list_all (is_held_there fs) held ≡ true → are_distinct (held_versions held) ≡ true → (h : ℕ × HeldRow) → Member h held
    → held_at h.1.held.version.object held ≡ Some h.1
held-found fs [] cite d h m = absurd m
held-found fs (e ∷ held) cite d h (inl same) =
    let k : ℕ = h.1.held.version.object in
    let number : e.1.held.version.object ≡ e.0 = held-number fs e (and_parts (is_held_there fs e) (list_all (is_held_there fs) held) cite).0 in
    ap (λ b. cond b (Some e.1) (held_at k held)) (at-eqb k e.0 ∙ eq-eqb e.0 k (sym number ∙ ap (λ (x : ℕ × HeldRow). x.1.held.version.object) same)) ∙ ap (λ (x : ℕ × HeldRow). Some x.1) same
held-found fs (e ∷ held) cite d h (inr m) =
    let k : ℕ = h.1.held.version.object in
    let cs = and_parts (is_held_there fs e) (list_all (is_held_there fs) held) cite in
    let ds = and_parts (are_of_others e.1.held.version.object (held_versions held)) (are_distinct (held_versions held)) d in
    let number : e.1.held.version.object ≡ e.0 = held-number fs e cs.0 in
    ap (λ b. cond b (Some e.1) (held_at k held)) (at-eqb k e.0 ∙ ap (λ n. eqb n k) (sym number) ∙ differs e.1.held.version.object k (held_versions held) ds.0 (held-has h held m))
    ∙ held-found fs held cs.1 ds.1 h m

record InHeld (v : Inv) (l : UnretainedLine) : Type 0 where
  pub row : HeldRow
  pub there : held_at l.object v.clients.held ≡ Some row
  pub under : row_under l.filespace l.path row ≡ true
  pub until : is_held_on v.today row.held.until ≡ false

listed-held : (v : Inv) (l : UnretainedLine) → list_all (is_held_there v.clients.filespaces) v.clients.held ≡ true → are_distinct (held_versions v.clients.held) ≡ true
    → Member l (unretained_of_held v.today v.clients.held) → InHeld v l
listed-held v l cite d m =
    let h = flat-from (λ (x : ℕ × HeldRow). unretained_of_row v.today x.1) l v.clients.held m in
    let row : HeldRow = h.0.1 in
    let r = only-from (not (is_held_on v.today row.held.until)) (line row.filespace row.held.path row.held.version.object) l h.2 in
    record {
      row = row;
      there = ap (λ (k : ℕ). held_at k v.clients.held) (sym (ap (λ (x : UnretainedLine). x.object) r.1)) ∙ held-found v.clients.filespaces v.clients.held cite d h.0 h.1;
      under = and_from (eqb row.filespace l.filespace) (is_same_name row.held.path l.path) (eq-eqb row.filespace l.filespace (ap (λ (x : UnretainedLine). x.filespace) r.1))
          (ap (is_same_name row.held.path) (sym (ap (λ (x : UnretainedLine). x.path) r.1)) ∙ same_itself row.held.path);
      until = not-true (is_held_on v.today row.held.until) r.0;
    }

-- ---- both

none-of : {A : Type 0} (o : Option A) → is_some o ≡ false → o ≡ None
none-of None h = refl
none-of (Some x) h = absurd (false≢true (sym h))

pub listed-waits : (v : Inv) → is_valid v ≡ true → IsOrdered v → AreInTurn v → (l : UnretainedLine) → Member l (unretained v) → Waits v l
listed-waits v valid ordered turn l m =
    let facts : VersionFacts v.number v = begins v (facts_of v valid) in
    let p = parted (versions_of v.clients.filespaces) (held_versions v.clients.held) facts.objects_apart in
    elim (member-parts l (unretained_of_filespaces v v.clients.filespaces) (unretained_of_held v.today v.clients.held) (sorted-from (λ (x : UnretainedLine). x.object) l _ m)) as (λ _. Waits v l) [
      | inl here ↦
          (let g : InGroup v l = listed-version v l p.front ordered here in
          let none : held_at l.object v.clients.held ≡ None = none-of (held_at l.object v.clients.held)
          (sym (has-held l.object v.clients.filespaces v.clients.held facts.held) ∙ p.apart l.object g.kept) in
          inr (record {
            unheld = ap (λ (o : Option HeldRow). option_map_or (row_under l.filespace l.path) o false) none;
            has = ap (λ (o : Option Group). has_object l.object (grouped.versions_in o)) g.there ∙ g.has;
            turn = turn l.filespace l.path;
            unowed = ap (is_owed_of l.filespace v.domains v.clients v.today l.object) g.there ∙ g.unowed;
          }))
      | inr there ↦
          (let h : InHeld v l = listed-held v l facts.held p.behind there in
          inl (record {
            held = ap (λ (o : Option HeldRow). option_map_or (row_under l.filespace l.path) o false) h.there ∙ h.under;
            until = ap (is_until v.today) h.there ∙ h.until;
          }))
    ]

-- ---- no two lines are of one object

abbrev NotAmong : ℕ → List UnretainedLine → Type 0
NotAmong n lines = (l : UnretainedLine) → Member l lines → l.object ≡ n → ⊥

abbrev Apart : List UnretainedLine → Type 0
Apart [] = Unit {0}
Apart (l ∷ lines) = NotAmong l.object lines × Apart lines

apart-both : (xs ys : List UnretainedLine) → Apart xs → Apart ys → ((l k : UnretainedLine) → Member l xs → Member k ys → k.object ≡ l.object → ⊥) → Apart (xs ++ ys)
apart-both [] ys a b c = b
apart-both (x ∷ xs) ys a b c = (
  λ l m e. elim (member-parts l xs ys m) as (λ _. ⊥) [ inl h ↦ a.0 l h e | inr h ↦ c x l (inl refl) h e ],
  apart-both xs ys a.1 b (λ l k m. c l k (inr m)),
)

module _ {A : Type 0} (f : A → List UnretainedLine) (g : A → List Version) (within : (y : A) (l : UnretainedLine) → Member l (f y) → has_object l.object (g y) ≡ true) where
  flat-within : (ys : List A) (l : UnretainedLine) → Member l (flat_map f ys) → has_object l.object (flat_map g ys) ≡ true
  flat-within ys l m = let r = flat-from f l ys m in flat-has l.object g r.0 ys r.1 (within r.0 l r.2)

  apart-flat : ((y : A) → are_distinct (g y) ≡ true → Apart (f y)) → (ys : List A) → are_distinct (flat_map g ys) ≡ true → Apart (flat_map f ys)
  apart-flat apart [] d = tt
  apart-flat apart (y ∷ ys) d =
      let p = parted (g y) (flat_map g ys) d in
      apart-both (f y) (flat_map f ys) (apart y p.front) (apart-flat apart ys p.behind)
      (λ l k m t e. false≢true (sym (p.apart l.object (within y l m)) ∙ ap (λ n. has_object n (flat_map g ys)) (sym e) ∙ flat-within ys k t))

only-apart : (b : Bool) (l : UnretainedLine) → Apart (only b l)
only-apart true l = (λ k m e. m, tt)
only-apart false l = tt

lines-within : (filespace : ℕ) (path : List ℕ) (rule : Option RuleFound) (active : Bool) (today place : ℕ) (vs : List Version) (l : UnretainedLine)
    → Member l (flat_from (unretained_lines filespace path rule active today) place vs) → has_object l.object vs ≡ true
lines-within filespace path rule active today place [] l m = absurd m
lines-within filespace path rule active today place (v ∷ older) l m =
    elim (member-parts l (unretained_lines filespace path rule active today place v) (flat_from (unretained_lines filespace path rule active today) (suc place) older) m) as
    (λ _. has_object l.object (v ∷ older) ≡ true) [
      | inl here ↦
          or_left (eqb v.object l.object) (has_object l.object older)
          (eq-eqb v.object l.object (ap (λ (x : UnretainedLine). x.object) (only-from (not (is_owed rule active v.since today place)) (line filespace path v.object) l here).1))
      | inr there ↦ or_right (eqb v.object l.object) (has_object l.object older) (lines-within filespace path rule active today (suc place) older l there)
    ]

lines-apart : (filespace : ℕ) (path : List ℕ) (rule : Option RuleFound) (active : Bool) (today place : ℕ) (vs : List Version) → are_distinct vs ≡ true
    → Apart (flat_from (unretained_lines filespace path rule active today) place vs)
lines-apart filespace path rule active today place [] d = tt
lines-apart filespace path rule active today place (v ∷ older) d =
    let ds = and_parts (are_of_others v.object older) (are_distinct older) d in
    apart-both (unretained_lines filespace path rule active today place v) (flat_from (unretained_lines filespace path rule active today) (suc place) older)
    (only-apart (not (is_owed rule active v.since today place)) (line filespace path v.object)) (lines-apart filespace path rule active today (suc place) older ds.1)
    (λ l k m t e.
    let same : v.object ≡ l.object = ap (λ (x : UnretainedLine). x.object) (only-from (not (is_owed rule active v.since today place)) (line filespace path v.object) l m).1 in
    false≢true (sym (differs v.object k.object older ds.0 (lines-within filespace path rule active today (suc place) older k t)) ∙ eq-eqb v.object k.object (same ∙ sym e)))

group-within : (v : Inv) (n : ℕ) (g : List ℕ × Group) (l : UnretainedLine) → Member l (unretained_of_group n g.0 (rule_in n g.1.class v) v.today g.1) → has_object l.object g.1.versions ≡ true
group-within v n g l m = lines-within n g.0 (rule_in n g.1.class v) (has_active g.1.versions) v.today 0 g.1.versions l m

filespace-within : (v : Inv) (f : ℕ × Filespace) (l : UnretainedLine) → Member l (unretained_of_filespace v f.0 f.1) → has_object l.object (versions_in f.1.groups) ≡ true
filespace-within v f l m = flat-within (λ (g : List ℕ × Group). unretained_of_group f.0 g.0 (rule_in f.0 g.1.class v) v.today g.1) (λ (g : List ℕ × Group). g.1.versions) (group-within v f.0)
    f.1.groups l m

filespace-apart : (v : Inv) (f : ℕ × Filespace) → are_distinct (versions_in f.1.groups) ≡ true → Apart (unretained_of_filespace v f.0 f.1)
filespace-apart v f d =
    apart-flat (λ (g : List ℕ × Group). unretained_of_group f.0 g.0 (rule_in f.0 g.1.class v) v.today g.1) (λ (g : List ℕ × Group). g.1.versions) (group-within v f.0)
    (λ g e. lines-apart f.0 g.0 (rule_in f.0 g.1.class v) (has_active g.1.versions) v.today 0 g.1.versions e) f.1.groups d

row-within : (today : ℕ) (h : ℕ × HeldRow) (l : UnretainedLine) → Member l (unretained_of_row today h.1) → has_object l.object (h.1.held.version ∷ []) ≡ true
row-within today h l m =
    let same : h.1.held.version.object ≡ l.object = ap (λ (x : UnretainedLine). x.object) (only-from (not (is_held_on today h.1.held.until))
    (line h.1.filespace h.1.held.path h.1.held.version.object) l m).1 in
    or_left (eqb h.1.held.version.object l.object) false (eq-eqb h.1.held.version.object l.object same)

held-flat : (held : List (ℕ × HeldRow)) → flat_map (λ (h : ℕ × HeldRow). h.1.held.version ∷ []) held ≡ held_versions held
held-flat held = flat_map_single (λ (h : ℕ × HeldRow). h.1.held.version) held

held-within : (today : ℕ) (held : List (ℕ × HeldRow)) (l : UnretainedLine) → Member l (unretained_of_held today held) → has_object l.object (held_versions held) ≡ true
held-within today held l m =
    ap (has_object l.object) (sym (held-flat held)) ∙ flat-within (λ (h : ℕ × HeldRow). unretained_of_row today h.1) (λ (h : ℕ × HeldRow). h.1.held.version ∷ []) (row-within today) held l m

all-apart : (v : Inv) → are_distinct (versions v) ≡ true → Apart (unretained_of_filespaces v v.clients.filespaces ++ unretained_of_held v.today v.clients.held)
all-apart v d =
    let fs : List (ℕ × Filespace) = v.clients.filespaces in
    let held : List (ℕ × HeldRow) = v.clients.held in
    let p = parted (versions_of fs) (held_versions held) d in
    apart-both (unretained_of_filespaces v fs) (unretained_of_held v.today held)
    (apart-flat (λ (f : ℕ × Filespace). unretained_of_filespace v f.0 f.1) (λ (f : ℕ × Filespace). versions_in f.1.groups) (filespace-within v) (filespace-apart v) fs p.front)
    (apart-flat (λ (h : ℕ × HeldRow). unretained_of_row v.today h.1) (λ (h : ℕ × HeldRow). h.1.held.version ∷ []) (row-within v.today)
    (λ h e. only-apart (not (is_held_on v.today h.1.held.until)) (line h.1.filespace h.1.held.path h.1.held.version.object)) held (ap are_distinct (held-flat held) ∙ p.behind))
    (λ l k m t e. false≢true (sym (p.apart l.object (flat-within (λ (f : ℕ × Filespace). unretained_of_filespace v f.0 f.1) (λ (f : ℕ × Filespace). versions_in f.1.groups) (filespace-within v) fs
    l m))
    ∙ ap (λ n. has_object n (held_versions held)) (sym e) ∙ held-within v.today held k t))

-- ---- in ascending order

-- each object is below each later one
abbrev pub Rises : List UnretainedLine → Type 0
Rises [] = Unit {0}
Rises (l ∷ lines) = AllByRecursion (λ k. l.object < k.object) lines × Rises lines

abbrev number : UnretainedLine → ℕ
number l = l.object

lower : (n m : ℕ) (lines : List UnretainedLine) → n ≤ m → AllByRecursion (λ k. m < k.object) lines → AllByRecursion (λ k. n < k.object) lines
lower n m [] le h = tt
lower n m (l ∷ lines) le h = let first = h.0 in (omega arith, lower n m lines le h.1)

above-put : (n : ℕ) (x : UnretainedLine) (ys : List UnretainedLine) → n < x.object → AllByRecursion (λ k. n < k.object) ys → AllByRecursion (λ k. n < k.object) (put_line number x ys)
above-put n x [] l h = (l, tt)
above-put n x (y ∷ ys) l h =
    elim (nat_le x.object y.object) as (λ b. AllByRecursion (λ (k : UnretainedLine). n < k.object) (cond b (x ∷ y ∷ ys) (y ∷ put_line number x ys))) [
      | true ↦ (l, h)
      | false ↦ (h.0, above-put n x ys l h.1)
    ]

below-other : (x y : ℕ) → x ≤ y → (y ≡ x → ⊥) → x < y
below-other x y le ne = elim (eqb y x) as (λ b. eqb y x ≡ b → x < y) [
  | true ↦ λ t. absurd (ne (eqb-true y x t))
  | false ↦ λ t. omega (arith, eqb-false y x t)
] refl

rises-put : (x : UnretainedLine) (ys : List UnretainedLine) → Rises ys → NotAmong x.object ys → Rises (put_line number x ys)
rises-put x [] h n = (tt, tt)
rises-put x (y ∷ ys) h n =
    elim (nat_le x.object y.object) as (λ b. nat_le x.object y.object ≡ b → Rises (cond b (x ∷ y ∷ ys) (y ∷ put_line number x ys))) [
      | true ↦ λ t.
          (let le : x.object ≤ y.object = leb-true x.object y.object t in
          let lt : x.object < y.object = below-other x.object y.object le (n y (inl refl)) in
          ((lt, lower x.object y.object ys le h.0), h))
      | false ↦ λ t. (let gt = leb-false x.object y.object t in (above-put y.object x ys (omega (arith, gt)) h.0, rises-put x ys h.1 (λ l m. n l (inr m))))
    ] refl

rises-sorted : (xs : List UnretainedLine) → Apart xs → Rises (by_object number xs)
rises-sorted [] a = tt
rises-sorted (x ∷ xs) a = rises-put x (by_object number xs) (rises-sorted xs a.1) (λ l m. a.0 l (sorted-from number l xs m))

pub listed-rises : (v : Inv) → is_valid v ≡ true → Rises (unretained v)
listed-rises v valid =
    let facts : VersionFacts v.number v = begins v (facts_of v valid) in
    rises-sorted (unretained_of_filespaces v v.clients.filespaces ++ unretained_of_held v.today v.clients.held) (all-apart v facts.objects_apart)
