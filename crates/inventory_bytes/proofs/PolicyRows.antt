-- How long the spellings of policy domains are at most.
use Rattle.std.proofs.Common.{ℕ, ◌+◌, ◌*◌, ◌≤◌, length, arith}
use Rattle.std.specs.Cmp.Lexicographic.{slice_cmp}
use Rattle.std.specs.Int.{w16, w32}
use Rattle.std.specs.List.{sum_by}
use Rattle.std.specs.Ordering.{nat_cmp}
use Rattle.std.specs.Prelude.{[], ◌∷◌, true, false, if◌then◌else◌}
use Rattle.fields.specs.Editions.{second_form}
use Rattle.fields.specs.FieldLaws.{wide16, wide32}
use Rattle.fields.specs.Forms.{flag}
use Rattle.inventory_rows.specs.Items.{items_of_domain}
use Rattle.kinds.specs.Days.{is_days}
use Rattle.kinds.specs.Rules.{is_rule, is_archive_rule}
use Rattle.kinds.specs.RuleForms.{archive_group, archive_with, archive_fields, group, limit_with, limit_number, rule_limit, rule_with, rule_fields, still, still_number}
use Rattle.kinds.specs.ValueForms.{days}
use Rattle.kinds.specs.declared.rule.Still.TheVariants.{ShrStatic, Static}
use Rattle.inventory_bytes.specs.PolicyForms.{class_with, class_fields, class_row, classes, set_with, set_fields, set_row, domain_with, domain_fields, domain_row, domains}
use Rattle.inventory_bytes.proofs.Spellings.{IsWithin, weakened, number_within, limit_within, coded_within, name_within, pair_within, viewed_within, only_within, option_within, table_of_rows, table_of_lists}

pub flag_within : IsWithin flag (λ _. 1)
flag_within = coded_within (λ b. if b then 1 else 0) (false ∷ true ∷ [])

pub days_within : IsWithin days (λ _. 2)
days_within = only_within is_days (number_within w16 wide16)

limit_of_rule : IsWithin rule_limit (λ _. 4)
limit_of_rule = viewed_within limit_with limit_number (limit_within w32 wide32)

still_within : IsWithin still (λ _. 1)
still_within = coded_within still_number (ShrStatic ∷ Static ∷ [])

pub group_within : IsWithin group (λ _. 24)
group_within = only_within is_rule (viewed_within rule_with rule_fields (pair_within (number_within w32 wide32) (pair_within (number_within w16 wide16)
    (pair_within limit_of_rule (pair_within limit_of_rule (pair_within limit_of_rule (pair_within limit_of_rule (pair_within flag_within still_within))))))))

archive_within : IsWithin archive_group (λ _. 8)
archive_within = only_within is_archive_rule (viewed_within archive_with archive_fields (pair_within (number_within w32 wide32) limit_of_rule))

class_within : IsWithin (class_row second_form) (λ _. 34)
unfolding class_row
class_within = viewed_within class_with class_fields (pair_within (option_within group_within) (option_within archive_within))

-- k bytes for each item, which is more than a row takes with its key and the counts of its lists
module _ {k : ℕ} (large : 4000 ≤ k) where
  classes_within : IsWithin (classes second_form) (λ cs. 4 + k * length cs)
  classes_within = table_of_rows k (slice_cmp nat_cmp) 4294967295 (name_within 30) class_within (omega (arith, large))

  set_within : IsWithin (set_row second_form) (λ s. 37 + k * length s.classes)
  unfolding set_row
  set_within = weakened (viewed_within set_with set_fields (pair_within (option_within (name_within 30)) classes_within)) (λ s. omega arith)

  domain_within : IsWithin (domain_row second_form) (λ d. 6 + k * items_of_domain d)
  unfolding domain_row
  domain_within =
      weakened (viewed_within domain_with domain_fields (pair_within days_within (table_of_lists k 37 (λ s. length s.classes) (slice_cmp nat_cmp) 4294967295 (name_within 30) set_within (omega (arith, large)))))
      (λ d. omega arith)

  pub domains_within : IsWithin (domains second_form) (λ ds. 4 + k * (length ds + sum_by (λ d. items_of_domain d.1) ds))
  domains_within = table_of_lists k 6 items_of_domain (slice_cmp nat_cmp) 4294967295 (name_within 30) domain_within (omega (arith, large))
