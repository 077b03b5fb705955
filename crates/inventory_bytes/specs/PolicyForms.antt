-- The bytes of policy domains, and that they are forms.
use Rattle.std.specs.Prelude.{ℕ, List, Option, None, refl}
use Rattle.std.specs.Cmp.Lexicographic.{slice_cmp}
use Rattle.std.specs.Ordering.{nat_cmp}
use Rattle.fields.specs.Forms.{Form, IsForm, pair, viewed, option, ascending}
use Rattle.fields.specs.FormLaws.{pair_form, viewed_form, option_form}
use Rattle.fields.specs.ListLaws.{ascending_form}
use Rattle.fields.specs.Editions.{Edition, added, added_form}
use Rattle.kinds.specs.declared.rule.ArchiveRule.{ArchiveRule}
use Rattle.kinds.specs.declared.rule.BackupRule.{BackupRule}
use Rattle.kinds.specs.RuleForms.{archive_group, archive_group_form, group, group_form}
use Rattle.kinds.specs.ValueForms.{name, name_form, days, days_form}
use Rattle.inventory_rows.specs.policy_domains.declared.classes.ManagementClass.{ManagementClass}
use Rattle.inventory_rows.specs.policy_domains.Rows.{SetRow, DomainRow}

-- a class: its backup copy group, where it has one, and its archive copy group, which the second form adds
abbrev pub class_with : Option BackupRule × Option ArchiveRule → ManagementClass
class_with f = record { backup = f.0; archive = f.1 }

abbrev pub class_fields : ManagementClass → Option BackupRule × Option ArchiveRule
class_fields c = (c.backup, c.archive)

unfoldable pub class_row : Edition → Form ManagementClass
class_row e = viewed class_with class_fields (pair (option group) (added e None (option archive_group)))

-- the classes of a set by name
abbrev pub classes : Edition → Form (List (List ℕ × ManagementClass))
classes e = ascending (slice_cmp nat_cmp) 4294967295 (name 30) (class_row e)

-- a policy set: the name of its default class, where it has one, and its classes
abbrev pub set_with : Option (List ℕ) × List (List ℕ × ManagementClass) → SetRow
set_with f = record { default_class = f.0; classes = f.1 }

abbrev pub set_fields : SetRow → Option (List ℕ) × List (List ℕ × ManagementClass)
set_fields s = (s.default_class, s.classes)

unfoldable pub set_row : Edition → Form SetRow
set_row e = viewed set_with set_fields (pair (option (name 30)) (classes e))

-- a policy domain: BACKRETENTION, and its sets by name
abbrev pub domain_with : ℕ × List (List ℕ × SetRow) → DomainRow
domain_with f = record { back_retention = f.0; sets = f.1 }

abbrev pub domain_fields : DomainRow → ℕ × List (List ℕ × SetRow)
domain_fields d = (d.back_retention, d.sets)

unfoldable pub domain_row : Edition → Form DomainRow
domain_row e = viewed domain_with domain_fields (pair days (ascending (slice_cmp nat_cmp) 4294967295 (name 30) (set_row e)))

-- the domains by name
abbrev pub domains : Edition → Form (List (List ℕ × DomainRow))
domains e = ascending (slice_cmp nat_cmp) 4294967295 (name 30) (domain_row e)

-- ---- laws

pub class_row_form : (e : Edition) → IsForm (class_row e)
unfolding class_row
class_row_form e = viewed_form class_with class_fields (λ _. refl) (λ _. refl) (pair_form (option_form group_form) (added_form e None (option_form archive_group_form)))

pub set_row_form : (e : Edition) → IsForm (set_row e)
unfolding set_row
set_row_form e = viewed_form set_with set_fields (λ _. refl) (λ _. refl) (pair_form (option_form (name_form 30)) (ascending_form (slice_cmp nat_cmp) 4294967295 (name_form 30) (class_row_form e)))

pub domain_row_form : (e : Edition) → IsForm (domain_row e)
unfolding domain_row
domain_row_form e = viewed_form domain_with domain_fields (λ _. refl) (λ _. refl) (pair_form days_form (ascending_form (slice_cmp nat_cmp) 4294967295 (name_form 30) (set_row_form e)))

pub domains_form : (e : Edition) → IsForm (domains e)
domains_form e = ascending_form (slice_cmp nat_cmp) 4294967295 (name_form 30) (domain_row_form e)
