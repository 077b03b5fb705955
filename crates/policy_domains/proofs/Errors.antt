-- How changes of parts are refused within the whole.
use Rattle.std.proofs.Common.{◌≡◌, ℕ, List, Option, Some, None, Result, Ok, Err, refl, ◌∙◌}
use Rattle.std.specs.Prelude.{option_and_then}
use Rattle.std.specs.Result.{result_err}
use Rattle.kinds.specs.declared.refusal.Refusal.{Refusal}
use Rattle.policy_domains.specs.Rows.{SetRow, DomainRow, row_of, with_value, with_row, active_set, within, changed_row, changed}
use Rattle.policy_domains.specs.Sets.{in_sets, to_activate, activated}
use Rattle.policy_domains.specs.Errors.{error_at, set_at}

pub error_within : {A B : Type 0} (place : A → B) (said : Result A Refusal) → result_err (within place said) ≡ result_err said
error_within place (Ok a) = refl
error_within place (Err e) = refl

row_error : {V : Type 0} (name : List ℕ) (step : V → Result V Refusal) (rows : List (List ℕ × V)) (found : Option V) → result_err (changed_row name step rows found) ≡ error_at step found
row_error name step rows None = refl
row_error name step rows (Some v) = error_within (λ w. with_value name w rows) (step v)

-- a row is changed
pub error_changed : {V : Type 0} (name : List ℕ) (step : V → Result V Refusal) (rows : List (List ℕ × V)) → result_err (changed name step rows) ≡ error_at step (row_of name rows)
error_changed name step rows = row_error name step rows (row_of name rows)

domain_error : (step : List (List ℕ × SetRow) → Result (List (List ℕ × SetRow)) Refusal) (found : Option DomainRow) → error_at (in_sets step) found ≡ error_at (λ (d : DomainRow). step d.sets) found
domain_error step None = refl
domain_error step (Some d) = error_within (λ sets. record { back_retention = d.back_retention; sets = sets }) (step d.sets)

-- the sets of a domain are changed
pub error_in_sets : (domain : List ℕ) (step : List (List ℕ × SetRow) → Result (List (List ℕ × SetRow)) Refusal) (rows : List (List ℕ × DomainRow))
    → result_err (changed domain (in_sets step) rows) ≡ error_at (λ (d : DomainRow). step d.sets) (row_of domain rows)
error_in_sets domain step rows = error_changed domain (in_sets step) rows ∙ domain_error step (row_of domain rows)

set_error : (set : List ℕ) (step : SetRow → Result SetRow Refusal) (found : Option DomainRow)
    → error_at (λ (d : DomainRow). changed set step d.sets) found ≡ error_at step (option_and_then (λ d. row_of set d.sets) found)
set_error set step None = refl
set_error set step (Some d) = error_changed set step d.sets

-- a set of a domain is changed
pub error_in_set : (domain set : List ℕ) (step : SetRow → Result SetRow Refusal) (rows : List (List ℕ × DomainRow))
    → result_err (changed domain (in_sets (changed set step)) rows) ≡ error_at step (set_at domain set rows)
error_in_set domain set step rows = error_in_sets domain (changed set step) rows ∙ set_error set step (row_of domain rows)

activation_error : (set : List ℕ) (found : Option DomainRow) → error_at (activated set) found ≡ error_at (λ (d : DomainRow). to_activate (row_of set d.sets)) found
activation_error set None = refl
activation_error set (Some d) = error_within (λ copy. record { back_retention = d.back_retention; sets = with_row active_set copy d.sets }) (to_activate (row_of set d.sets))

-- a set of a domain is activated
pub error_activated : (domain set : List ℕ) (rows : List (List ℕ × DomainRow)) → result_err (changed domain (activated set) rows) ≡ error_at (λ (d : DomainRow). to_activate (row_of set d.sets)) (row_of domain rows)
error_activated domain set rows = error_changed domain (activated set) rows ∙ activation_error set (row_of domain rows)
