-- The policy sets of each domain stand by name after each change.
use Rattle.std.proofs.Common.{◌≡◌, ℕ, Bool, true, false, cond, is_some, if◌then◌else◌, List, [], ◌∷◌, Option, Some, None, Result, Ok, Err, IfOk, refl, sym, subst}
use Rattle.std.proofs.lemmas.Map.{keys-set_value}
use Rattle.std.specs.BTreeMap.{insert_entry, is_at}
use Rattle.std.specs.Cmp.Lexicographic.{slice_cmp, nat_list_cmp_total}
use Rattle.std.specs.List.Sorted.{IsStrictlySortedBy}
use Rattle.std.specs.Map.{lookup, remove_entry, set_value}
use Rattle.std.specs.Ordering.{match_ordering, nat_cmp}
use Rattle.std.specs.declared.cmp.Ordering.TheVariants.{Less, Equal, Greater}
use Rattle.kinds.specs.declared.change.DefineOrDelete.{DefineOrDelete}
use Rattle.kinds.specs.declared.change.DefineOrDelete.TheVariants.{Define, Delete}
use Rattle.kinds.specs.declared.change.PolicyChange.{PolicyChange}
use Rattle.kinds.specs.declared.change.PolicyChange.TheVariants.{Domain, Set, Activate}
use Rattle.kinds.specs.declared.change.Verb.{Verb}
use Rattle.kinds.specs.declared.change.Verb.TheVariants as verbs
use Rattle.kinds.specs.declared.refusal.Refusal.{Refusal}
use Rattle.kinds.specs.declared.refusal.Refusal.TheVariants.{NotFound, Exists}
use Rattle.kinds.specs.Answers.{Becomes}
use Rattle.policy_domains.specs.Ascending.{AreByName, SetsAscend}
use Rattle.policy_domains.specs.Changes.{after, domain_changed, domain_of, set_after, set_within}
use Rattle.policy_domains.specs.Rows.{DomainRow, SetRow, active_set, row_of, with_row, with_value, without_row, within, defined, deleted, changed_row, changed}
use Rattle.policy_domains.specs.Sets.{empty_domain, empty_set, in_sets, set_changed, to_activate, activated}
use Rattle.policy_domains.proofs.Places.{name_of}
use Rattle.policy_domains.proofs.Sorted.{sorted-insert, sorted-remove}
use Rattle.policy_domains.proofs.Unbound.{within_keeps}

-- ---- rows by name
none_by_name : AreByName {V = SetRow} []
unfolding IsStrictlySortedBy
none_by_name = tt

module _ {V : Type 0} (name : List ℕ) where
  defined_by_name : (v : V) (rows : List (List ℕ × V)) → AreByName rows → IfOk (defined name v rows) AreByName
  defined_by_name v rows h =
      elim (is_some (row_of name rows)) as (λ b. IfOk (if b then Err Exists else Ok (with_row name v rows)) AreByName) [
        | true ↦ tt
        | false ↦ sorted-insert nat_list_cmp_total name v rows h
      ]

  deleted_by_name : (rows : List (List ℕ × V)) → AreByName rows → IfOk (deleted name rows) AreByName
  deleted_by_name rows h =
      elim (is_some (row_of name rows)) as (λ b. IfOk (if b then Ok (without_row name rows) else Err NotFound) AreByName) [
        | true ↦ sorted-remove (slice_cmp nat_cmp) (is_at (slice_cmp nat_cmp name)) rows h
        | false ↦ tt
      ]

  value_by_name : (rows : List (List ℕ × V)) (r : Result V Refusal) → AreByName rows → IfOk (within (λ w. with_value name w rows) r) AreByName
  value_by_name rows (Ok w) h = subst (IsStrictlySortedBy (slice_cmp nat_cmp)) (sym (keys-set_value (is_at (slice_cmp nat_cmp name)) rows w)) h
  value_by_name rows (Err e) h = tt

  row_by_name : (step : V → Result V Refusal) (rows : List (List ℕ × V)) (o : Option V) → AreByName rows → IfOk (changed_row name step rows o) AreByName
  row_by_name step rows None h = tt
  row_by_name step rows (Some v) h = value_by_name rows (step v) h

set_by_name : (verb : DefineOrDelete) (set : List ℕ) (sets : List (List ℕ × SetRow)) → AreByName sets → IfOk (set_changed verb set sets) AreByName
set_by_name Define set sets h = defined_by_name set empty_set sets h
set_by_name Delete set sets h = deleted_by_name set sets h

-- ---- the sets of one domain
abbrev IsByName : DomainRow → Type 0
IsByName row = AreByName row.sets

-- a change of a domain that keeps the order of its sets
abbrev Keeps : (DomainRow → Result DomainRow Refusal) → Type 0
Keeps step = (row : DomainRow) → IsByName row → IfOk (step row) IsByName

in_sets_by_name : (step : List (List ℕ × SetRow) → Result (List (List ℕ × SetRow)) Refusal) → ((sets : List (List ℕ × SetRow)) → AreByName sets → IfOk (step sets) AreByName) → Keeps (in_sets step)
in_sets_by_name step keeps row h =
    within_keeps (λ sets. record { back_retention = row.back_retention; sets = sets }) AreByName IsByName (λ sets s. s) (step row.sets) (keeps row.sets h)

-- a set of a domain is changed by a step
set_step_by_name : (set : List ℕ) (step : SetRow → Result SetRow Refusal) → Keeps (in_sets (changed set step))
set_step_by_name set step = in_sets_by_name (changed set step) (λ sets h. row_by_name set step sets (row_of set sets) h)

copied_by_name : (row : DomainRow) (r : Result SetRow Refusal) → IsByName row → IfOk (within (λ copy. record { back_retention = row.back_retention; sets = with_row active_set copy row.sets }) r) IsByName
copied_by_name row (Ok copy) h = sorted-insert nat_list_cmp_total active_set copy row.sets h
copied_by_name row (Err e) h = tt

activated_by_name : (set : List ℕ) → Keeps (activated set)
activated_by_name set row h = copied_by_name row (to_activate (row_of set row.sets)) h

-- ---- the sets of all domains
ascend-insert : (name : List ℕ) (row : DomainRow) (rows : List (List ℕ × DomainRow)) → IsByName row → SetsAscend rows → SetsAscend (insert_entry (slice_cmp nat_cmp) rows name row)
ascend-insert name row [] h a = (h, tt)
ascend-insert name row (e ∷ rows) h a =
    elim (slice_cmp nat_cmp name e.0) as (λ r. SetsAscend (match_ordering r ((name, row) ∷ e ∷ rows) ((e.0, row) ∷ rows) (e ∷ insert_entry (slice_cmp nat_cmp) rows name row))) [
      | Less ↦ (h, a)
      | Equal ↦ (h, a.1)
      | Greater ↦ (a.0, ascend-insert name row rows h a.1)
    ]

ascend-remove : (test : List ℕ → Bool) (rows : List (List ℕ × DomainRow)) → SetsAscend rows → SetsAscend (remove_entry test rows)
ascend-remove test [] a = a
ascend-remove test (e ∷ rows) a = elim (test e.0) as (λ b. SetsAscend (cond b rows (e ∷ remove_entry test rows))) [ true ↦ a.1 | false ↦ (a.0, ascend-remove test rows a.1) ]

ascend-set : (test : List ℕ → Bool) (row : DomainRow) (rows : List (List ℕ × DomainRow)) → IsByName row → SetsAscend rows → SetsAscend (set_value test rows row)
ascend-set test row [] h a = a
ascend-set test row (e ∷ rows) h a = elim (test e.0) as (λ b. SetsAscend (cond b ((e.0, row) ∷ rows) (e ∷ set_value test rows row))) [ true ↦ (h, a.1) | false ↦ (a.0, ascend-set test row rows h a.1) ]

ascend-found : (test : List ℕ → Bool) (rows : List (List ℕ × DomainRow)) (row : DomainRow) → SetsAscend rows → lookup test rows ≡ Some row → IsByName row
ascend-found test [] row a = λ none. absurd (cc)
ascend-found test (e ∷ rows) row a =
    elim (test e.0) as (λ b. cond b (Some e.1) (lookup test rows) ≡ Some row → IsByName row) [
      | true ↦ λ same. let equal : e.1 ≡ row = cc in subst IsByName equal a.0
      | false ↦ λ later. ascend-found test rows row a.1 later
    ]

domain_step : (name : List ℕ) (step : DomainRow → Result DomainRow Refusal) → Keeps step → (rows : List (List ℕ × DomainRow)) → SetsAscend rows → IfOk (changed name step rows) SetsAscend
domain_step name step keeps rows a =
    elim (row_of name rows) as (λ o. row_of name rows ≡ o → IfOk (changed_row name step rows o) SetsAscend) [
      | None ↦ λ _. tt
      | Some row ↦ λ found.
          within_keeps (λ w. with_value name w rows) IsByName SetsAscend
          (λ w h. ascend-set (is_at (slice_cmp nat_cmp name)) w rows h a)
          (step row) (keeps row (ascend-found (is_at (slice_cmp nat_cmp name)) rows row a found))
    ] refl

domain_ascends : (v : Verb) (domain : List ℕ) (days : ℕ) (rows : List (List ℕ × DomainRow)) → SetsAscend rows → IfOk (domain_changed v domain days rows) SetsAscend
domain_ascends verbs.Define domain days rows a =
    elim (is_some (row_of domain rows)) as (λ b. IfOk (if b then Err Exists else Ok (with_row domain (empty_domain days) rows)) SetsAscend) [
      | true ↦ tt
      | false ↦ ascend-insert domain (empty_domain days) rows none_by_name a
    ]
domain_ascends verbs.Update domain days rows a = domain_step domain (λ row. Ok (record { back_retention = days; sets = row.sets })) (λ row h. h) rows a
domain_ascends verbs.Delete domain days rows a =
    elim (is_some (row_of domain rows)) as (λ b. IfOk (if b then Ok (without_row domain rows) else Err NotFound) SetsAscend) [
      | true ↦ ascend-remove (is_at (slice_cmp nat_cmp domain)) rows a
      | false ↦ tt
    ]

within_ascends : (domain set : List ℕ) (step : SetRow → Result SetRow Refusal) (rows : List (List ℕ × DomainRow)) → SetsAscend rows → IfOk (changed domain (in_sets (changed set step)) rows) SetsAscend
within_ascends domain set step rows a = domain_step domain (in_sets (changed set step)) (set_step_by_name set step) rows a

after_ascends : (change : PolicyChange) (rows : List (List ℕ × DomainRow)) → SetsAscend rows → IfOk (after change rows) SetsAscend
after_ascends (Domain verb domain days) rows a = domain_ascends verb domain days rows a
after_ascends (Set verb domain set) rows a = domain_step domain (in_sets (set_changed verb set)) (in_sets_by_name (set_changed verb set) (set_by_name verb set)) rows a
after_ascends (Activate domain set) rows a = domain_step domain (activated set) (activated_by_name set) rows a
after_ascends change rows a = within_ascends (domain_of change) (name_of (set_within change)) (set_after change) rows a

kept : {A : Type 0} (result : Result A Refusal) (old new : List (List ℕ × DomainRow)) (said : Result (List (List ℕ × DomainRow)) Refusal)
    → Becomes result old new said → IfOk said SetsAscend → SetsAscend old → SetsAscend new
kept (Ok _) old new said h keeps a = subst (λ r. IfOk r SetsAscend) h keeps
kept (Err e) old new said h keeps a = subst SetsAscend (sym h.0) a

-- whatever a change answers, the sets of each domain stand by name afterwards
pub ascends : {A : Type 0} (change : PolicyChange) (result : Result A Refusal) (old new : List (List ℕ × DomainRow)) → Becomes result old new (after change old) → SetsAscend old → SetsAscend new
ascends change result old new becomes a = kept result old new (after change old) becomes (after_ascends change old a) a
