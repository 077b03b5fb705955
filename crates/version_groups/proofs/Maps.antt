-- Laws of one entry of a map that changes.
use Rattle.std.proofs.Common.{◌≡◌, ℕ, ◌+◌, Bool, true, false, cond, List, [], ◌∷◌, length, Option, Some, None, Result, Ok, Err, Ordering, refl, sym, ap, subst, ◌∙◌, arith}
use Rattle.std.proofs.lemmas.Map.{lookup-none, none_passes_from_lookup}
use Rattle.std.proofs.lemmas.Map.Entries.{none_below_head}
use Rattle.std.proofs.lemmas.Map.Keys.{sorted_tail}
use Rattle.std.proofs.lemmas.Map.Steps.{set_value_same}
use Rattle.std.specs.BTreeMap.{is_at, insert_entry}
use Rattle.std.specs.Cmp.{IsTotalOrder, tied_itself}
use Rattle.std.specs.Cmp.Lexicographic.{slice_cmp, nat_list_cmp_total}
use Rattle.std.specs.List.Sorted.{IsStrictlySortedBy}
use Rattle.std.specs.Map.{lookup, set_value, remove_entry, keys_of}
use Rattle.std.specs.Ordering.{is_eq, match_ordering, nat_cmp}
use Rattle.std.specs.declared.cmp.Ordering.TheVariants.{Less, Equal, Greater}
use Rattle.kinds.specs.Answers.{Becomes, Makes}
use Rattle.kinds.specs.declared.refusal.Refusal.{Refusal}
use Rattle.version_groups.specs.declared.copies.CopyChange.{CopyChange}
use Rattle.version_groups.specs.declared.copies.CopyChange.TheVariants.{Drop}
use Rattle.version_groups.specs.declared.group.Group.{Group}
use Rattle.version_groups.specs.declared.versions.Version.{Version}
use Rattle.version_groups.specs.Copies.{Alters}
use Rattle.version_groups.specs.Entries.{on_ok, if_found, changed_at}
use Rattle.version_groups.specs.Groups.{AreByPath, at_path, group_at, group_with, groups_with}
use Rattle.version_groups.proofs.Altered.{Alters-lift, Becomes-lift}

-- a value that is there and is inserted anew is set
pub insert_present : {K X : Type 0} {R : K → K → Ordering} (o : IsTotalOrder R) (k : K) (v w : X) (es : List (K × X)) → IsStrictlySortedBy R (keys_of es) → lookup (is_at (R k)) es ≡ Some w → insert_entry R es k v ≡ set_value (is_at (R k)) es v
insert_present o k v w [] s h = absurd (cc)
insert_present {K} {X} {R} o k v w (e ∷ es) s h =
    elim (R k e.0) as (λ r. R k e.0 ≡ r → cond (is_eq r) (Some e.1) (lookup (is_at (R k)) es) ≡ Some w → match_ordering r ((k, v) ∷ e ∷ es) ((e.0, v) ∷ es) (e ∷ insert_entry R es k v) ≡ cond (is_eq r) ((e.0, v) ∷ es) (e ∷ set_value (is_at (R k)) es v)) [
      | Less ↦ λ below _.
          let none : lookup (is_at (R k)) (e ∷ es) ≡ None = lookup-none (is_at (R k)) (e ∷ es) (none_below_head o k e es s below) in
          absurd (let clash : Some w ≡ None = sym h ∙ none in cc)
      | Equal ↦ λ _ _. refl
      | Greater ↦ λ _ there. ap (λ t. e ∷ t) (insert_present o k v w es (sorted_tail R e.0 (keys_of es) s) there)
    ] refl h

-- the value that has been set is there
pub lookup-set : {K X : Type 0} (test : K → Bool) (w v : X) (es : List (K × X)) → lookup test es ≡ Some w → lookup test (set_value test es v) ≡ Some v
lookup-set test w v [] h = absurd (cc)
lookup-set test w v (e ∷ es) h =
    elim (test e.0) as (λ b. test e.0 ≡ b → cond b (Some e.1) (lookup test es) ≡ Some w → lookup test (cond b ((e.0, v) ∷ es) (e ∷ set_value test es v)) ≡ Some v) [
      | true ↦ λ yes _. ap (λ b. cond b (Some v) (lookup test es)) yes
      | false ↦ λ no there. ap (λ b. cond b (Some e.1) (lookup test (set_value test es v))) no ∙ lookup-set test w v es there
    ] refl h

-- of two values set one after the other the second stays
pub set-set : {K X : Type 0} (test : K → Bool) (v w : X) (es : List (K × X)) → set_value test (set_value test es v) w ≡ set_value test es w
set-set test v w [] = refl
set-set test v w (e ∷ es) =
    elim (test e.0) as (λ b. test e.0 ≡ b → set_value test (cond b ((e.0, v) ∷ es) (e ∷ set_value test es v)) w ≡ cond b ((e.0, w) ∷ es) (e ∷ set_value test es w)) [
      | true ↦ λ yes. ap (λ b. cond b ((e.0, w) ∷ es) ((e.0, v) ∷ set_value test es w)) yes
      | false ↦ λ no. ap (λ b. cond b ((e.0, w) ∷ set_value test es v) (e ∷ set_value test (set_value test es v) w)) no ∙ ap (λ t. e ∷ t) (set-set test v w es)
    ] refl

-- a new entry is there
pub lookup-new : {K X : Type 0} {R : K → K → Ordering} (o : IsTotalOrder R) (k : K) (v : X) (es : List (K × X)) → lookup (is_at (R k)) es ≡ None → lookup (is_at (R k)) (insert_entry R es k v) ≡ Some v
lookup-new {K} {X} {R} o k v [] h = ap (λ b. cond b (Some v) None) (ap is_eq (tied_itself o k))
lookup-new {K} {X} {R} o k v (e ∷ es) h =
    elim (R k e.0) as (λ r. R k e.0 ≡ r → cond (is_eq r) (Some e.1) (lookup (is_at (R k)) es) ≡ None → lookup (is_at (R k)) (match_ordering r ((k, v) ∷ e ∷ es) ((e.0, v) ∷ es) (e ∷ insert_entry R es k v)) ≡ Some v) [
      | Less ↦ λ _ _. ap (λ b. cond b (Some v) (lookup (is_at (R k)) (e ∷ es))) (ap is_eq (tied_itself o k))
      | Equal ↦ λ _ there. absurd (cc)
      | Greater ↦ λ above none. ap (λ r. cond (is_eq r) (Some e.1) (lookup (is_at (R k)) (insert_entry R es k v))) above ∙ lookup-new o k v es none
    ] refl h

-- a new entry that is set anew
pub set-new : {K X : Type 0} {R : K → K → Ordering} (o : IsTotalOrder R) (k : K) (v w : X) (es : List (K × X)) → lookup (is_at (R k)) es ≡ None → set_value (is_at (R k)) (insert_entry R es k v) w ≡ insert_entry R es k w
set-new {K} {X} {R} o k v w [] h = ap (λ b. cond b ((k, w) ∷ []) ((k, v) ∷ [])) (ap is_eq (tied_itself o k))
set-new {K} {X} {R} o k v w (e ∷ es) h =
    elim (R k e.0) as (λ r. R k e.0 ≡ r → cond (is_eq r) (Some e.1) (lookup (is_at (R k)) es) ≡ None
    → set_value (is_at (R k)) (match_ordering r ((k, v) ∷ e ∷ es) ((e.0, v) ∷ es) (e ∷ insert_entry R es k v)) w ≡ match_ordering r ((k, w) ∷ e ∷ es) ((e.0, w) ∷ es) (e ∷ insert_entry R es k w)) [
      | Less ↦ λ _ _. ap (λ b. cond b ((k, w) ∷ e ∷ es) ((k, v) ∷ set_value (is_at (R k)) (e ∷ es) w)) (ap is_eq (tied_itself o k))
      | Equal ↦ λ _ there. absurd (cc)
      | Greater ↦ λ above none. ap (λ r. cond (is_eq r) ((e.0, w) ∷ insert_entry R es k v) (e ∷ set_value (is_at (R k)) (insert_entry R es k v) w)) above ∙ ap (λ t. e ∷ t) (set-new o k v w es none)
    ] refl h

-- a new entry that goes again
pub remove-new : {K X : Type 0} {R : K → K → Ordering} (o : IsTotalOrder R) (k : K) (v : X) (es : List (K × X)) → lookup (is_at (R k)) es ≡ None → remove_entry (is_at (R k)) (insert_entry R es k v) ≡ es
remove-new {K} {X} {R} o k v [] h = ap (λ b. cond b [] ((k, v) ∷ [])) (ap is_eq (tied_itself o k))
remove-new {K} {X} {R} o k v (e ∷ es) h =
    elim (R k e.0) as (λ r. R k e.0 ≡ r → cond (is_eq r) (Some e.1) (lookup (is_at (R k)) es) ≡ None
    → remove_entry (is_at (R k)) (match_ordering r ((k, v) ∷ e ∷ es) ((e.0, v) ∷ es) (e ∷ insert_entry R es k v)) ≡ e ∷ es) [
      | Less ↦ λ _ _. ap (λ b. cond b (e ∷ es) ((k, v) ∷ remove_entry (is_at (R k)) (e ∷ es))) (ap is_eq (tied_itself o k))
      | Equal ↦ λ _ there. absurd (cc)
      | Greater ↦ λ above none. ap (λ r. cond (is_eq r) (insert_entry R es k v) (e ∷ remove_entry (is_at (R k)) (insert_entry R es k v))) above ∙ ap (λ t. e ∷ t) (remove-new o k v es none)
    ] refl h

-- what a change makes of the value at a key it makes of the entries
pub Alters-entry : {A K X : Type 0} (change : CopyChange) (r : Result A Refusal) (test : K → Bool) (f : X → Result X Refusal) (es : List (K × X)) (x y : X) → lookup test es ≡ Some x
    → Alters {A = A} change r x y (f x) → Alters {A = A} change r es (set_value test es y) (changed_at test f es)
Alters-entry {A} {K} {X} change r test f es x y found h =
    subst (λ (said : Result (List (K × X)) Refusal). Alters {A = A} change r es (set_value test es y) said) (ap (λ o. if_found o (λ z. on_ok (set_value test es) (f z))) (sym found))
    (subst (λ (old : List (K × X)). Alters {A = A} change r old (set_value test es y) (on_ok (set_value test es) (f x))) (set_value_same test es x found)
    (Alters-lift change r x y (f x) (set_value test es) h))

pub Makes-entry : {A K X : Type 0} (r : Result A Refusal) (test : K → Bool) (f : X → Result X Refusal) (es : List (K × X)) (x y : X) → lookup test es ≡ Some x
    → Makes {A = A} r x y (f x) → Makes {A = A} r es (set_value test es y) (changed_at test f es)
Makes-entry {A} r test f es x y found h = Alters-entry {A = A} (Drop 0) r test f es x y found h

fill : {A K X : Type 0} (r : Result A Refusal) (test : K → Bool) (es : List (K × X)) (x y z : X) → lookup test es ≡ Some x → Becomes {A = A} r x y (Ok z) → Becomes {A = A} r es (set_value test es y) (Ok (set_value test es z))
fill {A} {K} {X} r test es x y z found h =
    subst (λ (old : List (K × X)). Becomes {A = A} r old (set_value test es y) (Ok (set_value test es z))) (set_value_same test es x found) (Becomes-lift r x y (Ok z) (set_value test es) h)

-- a version that is put into a group that is there
pub Becomes-group : {A : Type 0} (r : Result A Refusal) (path class : List ℕ) (version : Version) (groups : List (List ℕ × Group)) (x y : Group) → AreByPath groups → group_at path groups ≡ Some x
    → Becomes {A = A} r x y (Ok (group_with class version (Some x))) → Becomes {A = A} r groups (set_value (at_path path) groups y) (Ok (groups_with path class version groups))
Becomes-group {A} r path class version groups x y sorted found h =
    let said : set_value (at_path path) groups (group_with class version (Some x)) ≡ groups_with path class version groups =
    sym (insert_present nat_list_cmp_total path (group_with class version (Some x)) x groups sorted found)
    ∙ ap (λ o. insert_entry (slice_cmp nat_cmp) groups path (group_with class version o)) (sym found) in
    subst (λ (t : List (List ℕ × Group)). Becomes {A = A} r groups (set_value (at_path path) groups y) (Ok t)) said
    (fill r (at_path path) groups x y (group_with class version (Some x)) found h)
