-- Changes of sets other than ACTIVE leave each rule that binds a client as it is.
use Rattle.std.proofs.Common.{◌≡◌, ℕ, Bool, true, false, cond, is_some, if◌then◌else◌, List, [], ◌∷◌, Option, Some, None, Result, Ok, Err, IfOk, refl, ap, sym, subst, ◌∙◌}
use Rattle.std.specs.Option.{option_map, option_and_then}
use Rattle.std.specs.declared.cmp.Ordering.{Ordering}
use Rattle.std.specs.declared.cmp.Ordering.TheVariants.{Less, Equal, Greater}
use Rattle.std.specs.Ordering.{nat_cmp, match_ordering, is_eq}
use Rattle.std.specs.Map.{lookup, set_value, remove_entry}
use Rattle.std.specs.BTreeMap.{insert_entry, is_at}
use Rattle.std.specs.Cmp.{tied_itself}
use Rattle.std.specs.Cmp.Lexicographic.{slice_cmp, nat_list_eq_equiv, nat_list_cmp_total}
use Rattle.std.proofs.lemmas.Map.Lookups.{exact_bytes}
use Rattle.kinds.specs.declared.change.DefineOrDelete.{DefineOrDelete}
use Rattle.kinds.specs.declared.change.DefineOrDelete.TheVariants.{Define, Delete}
use Rattle.kinds.specs.declared.change.PolicyChange.{PolicyChange}
use Rattle.kinds.specs.declared.change.PolicyChange.TheVariants.{Domain, Set, Activate}
use Rattle.kinds.specs.declared.refusal.Refusal.{Refusal}
use Rattle.kinds.specs.declared.refusal.Refusal.TheVariants.{NotFound, Exists}
use Rattle.kinds.specs.Answers.{Becomes}
use Rattle.kinds.specs.Names.{is_same_name}
use Rattle.policy_domains.specs.Rows.{SetRow, DomainRow, active_set, row_of, with_row, with_value, without_row, within, defined, deleted, changed_row, changed}
use Rattle.policy_domains.specs.Sets.{empty_set, in_sets, set_changed}
use Rattle.policy_domains.specs.Changes.{after, domain_of, names_active, set_after, set_within}
use Rattle.policy_domains.specs.Rules.{group_of, default_group, first_found, rule_in, rule_of, archive_group_of, archive_in, archive_of}
use Rattle.policy_domains.specs.Laws.{IsOfSets}
use Rattle.policy_domains.proofs.Places.{name_of}

-- rows that u finds, where t is a test that no row found by u passes
module _ {V : Type 0} (t u : List ℕ → Bool) (apart : (k : List ℕ) → t k ≡ true → u k ≡ false) where
  lookup-set_value_other : (rows : List (List ℕ × V)) (w : V) → lookup u (set_value t rows w) ≡ lookup u rows
  lookup-set_value_other [] w = refl
  lookup-set_value_other (e ∷ es) w =
      elim (t e.0) as (λ b. t e.0 ≡ b → lookup u (cond b ((e.0, w) ∷ es) (e ∷ set_value t es w)) ≡ lookup u (e ∷ es)) [
        | true ↦ λ h. ap (λ b. cond b (Some w) (lookup u es)) (apart e.0 h) ∙ sym (ap (λ b. cond b (Some e.1) (lookup u es)) (apart e.0 h))
        | false ↦ λ _. ap (λ o. cond (u e.0) (Some e.1) o) (lookup-set_value_other es w)
      ] refl

  lookup-remove_entry_other : (rows : List (List ℕ × V)) → lookup u (remove_entry t rows) ≡ lookup u rows
  lookup-remove_entry_other [] = refl
  lookup-remove_entry_other (e ∷ es) =
      elim (t e.0) as (λ b. t e.0 ≡ b → lookup u (cond b es (e ∷ remove_entry t es)) ≡ lookup u (e ∷ es)) [
        | true ↦ λ h. sym (ap (λ b. cond b (Some e.1) (lookup u es)) (apart e.0 h))
        | false ↦ λ _. ap (λ o. cond (u e.0) (Some e.1) o) (lookup-remove_entry_other es)
      ] refl

lookup-insert_entry_other : {V : Type 0} (cmp : List ℕ → List ℕ → Ordering) (k : List ℕ) (u : List ℕ → Bool) → u k ≡ false
    → ((x : List ℕ) → cmp k x ≡ Equal → u x ≡ false) → (rows : List (List ℕ × V)) (v : V) → lookup u (insert_entry cmp rows k v) ≡ lookup u rows
lookup-insert_entry_other cmp k u at apart [] v = ap (λ b. cond b (Some v) None) at
lookup-insert_entry_other cmp k u at apart (e ∷ es) v =
    elim (cmp k e.0) as (λ o. cmp k e.0 ≡ o → lookup u (match_ordering o ((k, v) ∷ e ∷ es) ((e.0, v) ∷ es) (e ∷ insert_entry cmp es k v)) ≡ lookup u (e ∷ es)) [
      | Less ↦ λ _. ap (λ b. cond b (Some v) (lookup u (e ∷ es))) at
      | Equal ↦ λ h. ap (λ b. cond b (Some v) (lookup u es)) (apart e.0 h) ∙ sym (ap (λ b. cond b (Some e.1) (lookup u es)) (apart e.0 h))
      | Greater ↦ λ _. ap (λ o. cond (u e.0) (Some e.1) o) (lookup-insert_entry_other cmp k u at apart es v)
    ] refl

-- a value that is changed to one with the same f, seen by f through any look-up
option_map-lookup-set_value : {V B : Type 0} (f : V → B) (t u : List ℕ → Bool) (rows : List (List ℕ × V)) (v w : V) → lookup t rows ≡ Some v → f w ≡ f v
    → option_map f (lookup u (set_value t rows w)) ≡ option_map f (lookup u rows)
option_map-lookup-set_value f t u [] v w = λ h same. refl
option_map-lookup-set_value f t u (e ∷ es) v w =
    elim (t e.0) as (λ b. cond b (Some e.1) (lookup t es) ≡ Some v → f w ≡ f v
    → option_map f (lookup u (cond b ((e.0, w) ∷ es) (e ∷ set_value t es w))) ≡ option_map f (lookup u (e ∷ es))) [
      | true ↦ λ h same.
          let first : e.1 ≡ v = cc in
          elim (u e.0) as (λ b. option_map f (cond b (Some w) (lookup u es)) ≡ option_map f (cond b (Some e.1) (lookup u es))) [
            | true ↦ ap Some (same ∙ ap f (sym first))
            | false ↦ refl
          ]
      | false ↦ λ h same.
          let rest = option_map-lookup-set_value f t u es v w h same in
          elim (u e.0) as (λ b. option_map f (cond b (Some e.1) (lookup u (set_value t es w))) ≡ option_map f (cond b (Some e.1) (lookup u es))) [
            | true ↦ refl
            | false ↦ rest
          ]
    ]

equal_from_is_eq : (o : Ordering) → is_eq o ≡ true → o ≡ Equal
equal_from_is_eq Less h = cc
equal_from_is_eq Equal h = refl
equal_from_is_eq Greater h = cc

equal_is_eq : (o : Ordering) → o ≡ Equal → is_eq o ≡ true
equal_is_eq o h = ap is_eq h

not_true : (b : Bool) → (b ≡ true → ⊥) → b ≡ false
not_true true f = absurd (f refl)
not_true false f = refl

module _ (set : List ℕ) (other : is_same_name set active_set ≡ false) where
  -- the set isn't named ACTIVE, so no name that is equal to its is
  apart_from_equal : (k : List ℕ) → slice_cmp nat_cmp set k ≡ Equal → is_at (slice_cmp nat_cmp active_set) k ≡ false
  apart_from_equal k h =
      not_true (is_at (slice_cmp nat_cmp active_set) k) (λ at.
      let a : active_set ≡ k = exact_bytes active_set k (equal_from_is_eq (slice_cmp nat_cmp active_set k) at) in
      let s : set ≡ k = exact_bytes set k h in
      let same : is_same_name set active_set ≡ true = subst (λ x. is_same_name set x ≡ true) (s ∙ sym a) (nat_list_eq_equiv.refl set) in
      cc (same, other))

  apart : (k : List ℕ) → is_at (slice_cmp nat_cmp set) k ≡ true → is_at (slice_cmp nat_cmp active_set) k ≡ false
  apart k h = apart_from_equal k (equal_from_is_eq (slice_cmp nat_cmp set k) h)

  apart_itself : is_at (slice_cmp nat_cmp active_set) set ≡ false
  apart_itself = apart_from_equal set (tied_itself nat_list_cmp_total set)

-- what a step keeps
pub within_keeps : {A B : Type 0} (place : A → B) (P : A → Type 0) (Q : B → Type 0) → ((a : A) → P a → Q (place a)) → (r : Result A Refusal) → IfOk r P → IfOk (within place r) Q
within_keeps place P Q f (Ok a) h = f a h
within_keeps place P Q f (Err e) h = tt

-- the set ACTIVE is found as it was
abbrev KeepsActive : List (List ℕ × SetRow) → List (List ℕ × SetRow) → Type 0
KeepsActive old new = row_of active_set new ≡ row_of active_set old

module _ (set : List ℕ) (other : is_same_name set active_set ≡ false) where
  defined_keeps : (v : SetRow) (sets : List (List ℕ × SetRow)) → IfOk (defined set v sets) (KeepsActive sets)
  defined_keeps v sets =
      elim (is_some (row_of set sets)) as (λ b. IfOk (if b then Err Exists else Ok (with_row set v sets)) (KeepsActive sets)) [
        | true ↦ tt
        | false ↦ lookup-insert_entry_other (slice_cmp nat_cmp) set (is_at (slice_cmp nat_cmp active_set)) (apart_itself set other) (apart_from_equal set other) sets v
      ]

  deleted_keeps : (sets : List (List ℕ × SetRow)) → IfOk (deleted set sets) (KeepsActive sets)
  deleted_keeps sets =
      elim (is_some (row_of set sets)) as (λ b. IfOk (if b then Ok (without_row set sets) else Err NotFound) (KeepsActive sets)) [
        | true ↦ lookup-remove_entry_other (is_at (slice_cmp nat_cmp set)) (is_at (slice_cmp nat_cmp active_set)) (apart set other) sets
        | false ↦ tt
      ]

  set_changed_keeps : (verb : DefineOrDelete) (sets : List (List ℕ × SetRow)) → IfOk (set_changed verb set sets) (KeepsActive sets)
  set_changed_keeps Define sets = defined_keeps empty_set sets
  set_changed_keeps Delete sets = deleted_keeps sets

  row_keeps : (step : SetRow → Result SetRow Refusal) (sets : List (List ℕ × SetRow)) (o : Option SetRow) → IfOk (changed_row set step sets o) (KeepsActive sets)
  row_keeps step sets None = tt
  row_keeps step sets (Some v) =
      within_keeps (λ w. with_value set w sets) (λ w. Unit {0}) (KeepsActive sets)
      (λ w _. lookup-set_value_other (is_at (slice_cmp nat_cmp set)) (is_at (slice_cmp nat_cmp active_set)) (apart set other) sets w) (step v) (any_keeps (step v))
    where
      any_keeps : (r : Result SetRow Refusal) → IfOk r (λ w. Unit {0})
      any_keeps (Ok w) = tt
      any_keeps (Err e) = tt

-- what a domain says that depends on BACKRETENTION and its set ACTIVE alone
module _ {B : Type 0} (told : DomainRow → B)
    (by_active : (old : DomainRow) (sets : List (List ℕ × SetRow)) → row_of active_set sets ≡ row_of active_set old.sets → told (record { back_retention = old.back_retention; sets = sets }) ≡ told old) where
  abbrev KeepsTold : DomainRow → DomainRow → Type 0
  KeepsTold old new = told new ≡ told old

  in_sets_keeps : (step : List (List ℕ × SetRow) → Result (List (List ℕ × SetRow)) Refusal) (row : DomainRow)
      → IfOk (step row.sets) (KeepsActive row.sets) → IfOk (in_sets step row) (KeepsTold row)
  in_sets_keeps step row =
      within_keeps (λ sets. record { back_retention = row.back_retention; sets = sets }) (KeepsActive row.sets) (KeepsTold row) (by_active row) (step row.sets)

  -- each domain says what it said
  abbrev KeepsAll : List (List ℕ × DomainRow) → List (List ℕ × DomainRow) → Type 0
  KeepsAll old new = (domain : List ℕ) → option_map told (row_of domain new) ≡ option_map told (row_of domain old)

  domain_keeps : (domain : List ℕ) (step : DomainRow → Result DomainRow Refusal) → ((row : DomainRow) → IfOk (step row) (KeepsTold row))
      → (rows : List (List ℕ × DomainRow)) → IfOk (changed domain step rows) (KeepsAll rows)
  domain_keeps domain step keeps rows =
      elim (row_of domain rows) as (λ o. row_of domain rows ≡ o → IfOk (changed_row domain step rows o) (KeepsAll rows)) [
        | None ↦ λ _. tt
        | Some v ↦ λ found.
            within_keeps (λ w. with_value domain w rows) (KeepsTold v) (KeepsAll rows)
            (λ w same d. option_map-lookup-set_value told (is_at (slice_cmp nat_cmp domain)) (is_at (slice_cmp nat_cmp d)) rows v w found same)
            (step v) (keeps v)
      ] refl

  set_keeps : (domain set : List ℕ) → is_same_name set active_set ≡ false → (step : SetRow → Result SetRow Refusal) (rows : List (List ℕ × DomainRow))
      → IfOk (changed domain (in_sets (changed set step)) rows) (KeepsAll rows)
  set_keeps domain set other step rows =
      domain_keeps domain (in_sets (changed set step)) (λ row. in_sets_keeps (changed set step) row (row_keeps set other step row.sets (row_of set row.sets))) rows

  after_keeps : (change : PolicyChange) → names_active change ≡ false → IsOfSets change → (rows : List (List ℕ × DomainRow)) → IfOk (after change rows) (KeepsAll rows)
  after_keeps (Domain verb domain days) other of_sets rows = absurd of_sets
  after_keeps (Set verb domain set) other of_sets rows =
      domain_keeps domain (in_sets (set_changed verb set)) (λ row. in_sets_keeps (set_changed verb set) row (set_changed_keeps set other verb row.sets)) rows
  after_keeps (Activate domain set) other of_sets rows = absurd of_sets
  after_keeps change other of_sets rows = set_keeps (domain_of change) (name_of (set_within change)) other (set_after change) rows

  kept : {A : Type 0} (result : Result A Refusal) (old new : List (List ℕ × DomainRow)) (said : Result (List (List ℕ × DomainRow)) Refusal)
      → Becomes result old new said → IfOk said (KeepsAll old) → KeepsAll old new
  kept (Ok _) old new said h keeps = subst (λ r. IfOk r (KeepsAll old)) h keeps
  kept (Err e) old new said h keeps = λ domain. ap (λ rows. option_map told (row_of domain rows)) h.0

  -- whatever a change of a set, a class or a copy group answers, each domain says what it said
  all_kept : {A : Type 0} (change : PolicyChange) (result : Result A Refusal) (old new : List (List ℕ × DomainRow)) → names_active change ≡ false
      → Becomes result old new (after change old) → IsOfSets change → KeepsAll old new
  all_kept change result old new other becomes of_sets = kept result old new (after change old) becomes (after_keeps change other of_sets old)

-- each rule by which versions are kept is as it was
pub unbound : {A : Type 0} (change : PolicyChange) (result : Result A Refusal) (old new : List (List ℕ × DomainRow)) → names_active change ≡ false
    → Becomes result old new (after change old) → IsOfSets change → (domain class : List ℕ) → rule_of new domain class ≡ rule_of old domain class
unbound change result old new other becomes of_sets domain class =
    all_kept (rule_in class) (λ row sets h. ap (λ o. first_found (option_and_then (group_of class) o) (option_and_then default_group o) row.back_retention) h)
    change result old new other becomes of_sets domain

joined : {A B : Type 0} (f : A → Option B) (o : Option A) → option_and_then f o ≡ option_and_then (λ b. b) (option_map f o)
joined f None = refl
joined f (Some a) = refl

-- each rule by which archived objects are kept is as it was
pub unarchived : {A : Type 0} (change : PolicyChange) (result : Result A Refusal) (old new : List (List ℕ × DomainRow)) → names_active change ≡ false
    → Becomes result old new (after change old) → IsOfSets change → (domain class : List ℕ) → archive_of new domain class ≡ archive_of old domain class
unarchived change result old new other becomes of_sets domain class =
    joined (archive_in class) (row_of domain new)
    ∙ ap (option_and_then (λ rule. rule)) (all_kept (archive_in class) (λ row sets h. ap (option_and_then (archive_group_of class)) h) change result old new other becomes of_sets domain)
    ∙ sym (joined (archive_in class) (row_of domain old))
