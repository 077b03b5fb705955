-- The bytes of the changes of policy domains, by their tags: 2 a domain, 3 a policy set, 4 a management class, 5 a backup copy group,
-- 6 a set's default class, 7 an active set, and in the second form 26 an archive copy group.
use Rattle.std.specs.Prelude.{◌≡◌, ℕ, List, Option, Some, None, refl}
use Rattle.std.proofs.Common.{sym, ap}
use Rattle.std.proofs.lemmas.Option.{same_Some}
use Rattle.fields.specs.Forms.{Form, IsForm, pair, variant, row, no_more}
use Rattle.fields.specs.Editions.{Edition, added_rows, added_rows_table}
use Rattle.fields.specs.FormLaws.{IsTable, pair_form, row_table, no_more_table, variant_row}
use Rattle.kinds.specs.declared.change.DefineOrDelete.{DefineOrDelete}
use Rattle.kinds.specs.declared.change.PolicyChange.{PolicyChange}
use Rattle.kinds.specs.declared.change.PolicyChange.TheVariants.{Domain, Set, Class, Group, ArchiveGroup, Assign, Activate}
use Rattle.kinds.specs.declared.change.Verb.{Verb}
use Rattle.kinds.specs.declared.rule.ArchiveRule.{ArchiveRule}
use Rattle.kinds.specs.declared.rule.BackupRule.{BackupRule}
use Rattle.kinds.specs.RuleForms.{group, group_form, archive_group, archive_group_form}
use Rattle.kinds.specs.ValueForms.{name, name_form, days, days_form}
use Rattle.kinds.specs.VerbForms.{verb, verb_form, define_or_delete, define_or_delete_form}

abbrev pub policy_tag : PolicyChange → ℕ
policy_tag (Domain v d b) = 2
policy_tag (Set v d s) = 3
policy_tag (Class v d s c) = 4
policy_tag (Group v d s c r) = 5
policy_tag (ArchiveGroup v d s c r) = 26
policy_tag (Assign d s c) = 6
policy_tag (Activate d s) = 7

abbrev pub Text : Type 0
Text = List ℕ

-- a policy set: its domain's name, and its own
abbrev pub SetPath : Type 0
SetPath = Text × Text

abbrev pub set_path : Form SetPath
set_path = pair (name 30) (name 30)

-- a management class: the names of its domain and its set, and its own
abbrev pub ClassPath : Type 0
ClassPath = Text × (Text × Text)

abbrev pub class_path : Form ClassPath
class_path = pair (name 30) (pair (name 30) (name 30))

-- the verb, the name, and BACKRETENTION
abbrev pub DomainFields : Type 0
DomainFields = Verb × (Text × ℕ)

abbrev pub domain_fields : Form DomainFields
domain_fields = pair verb (pair (name 30) days)

abbrev pub domain_with : DomainFields → PolicyChange
domain_with f = Domain f.0 f.1.0 f.1.1

abbrev pub domain_of : PolicyChange → Option DomainFields
domain_of (Domain v d b) = Some (v, (d, b))
domain_of _ = None

-- the verb, and the set
abbrev pub SetFields : Type 0
SetFields = DefineOrDelete × SetPath

abbrev pub set_fields : Form SetFields
set_fields = pair define_or_delete set_path

abbrev pub set_with : SetFields → PolicyChange
set_with f = Set f.0 f.1.0 f.1.1

abbrev pub set_of : PolicyChange → Option SetFields
set_of (Set v d s) = Some (v, (d, s))
set_of _ = None

-- the verb, and the class
abbrev pub ClassFields : Type 0
ClassFields = DefineOrDelete × ClassPath

abbrev pub class_fields : Form ClassFields
class_fields = pair define_or_delete class_path

abbrev pub class_with : ClassFields → PolicyChange
class_with f = Class f.0 f.1.0 f.1.1.0 f.1.1.1

abbrev pub class_of : PolicyChange → Option ClassFields
class_of (Class v d s c) = Some (v, (d, (s, c)))
class_of _ = None

-- the verb, the class, and the rule
abbrev pub GroupFields : Type 0
GroupFields = Verb × (ClassPath × BackupRule)

abbrev pub group_fields : Form GroupFields
group_fields = pair verb (pair class_path group)

abbrev pub group_with : GroupFields → PolicyChange
group_with f = Group f.0 f.1.0.0 f.1.0.1.0 f.1.0.1.1 f.1.1

abbrev pub group_of : PolicyChange → Option GroupFields
group_of (Group v d s c r) = Some (v, ((d, (s, c)), r))
group_of _ = None

-- the verb, the class, and the rule of its archive copy group
abbrev pub ArchiveFields : Type 0
ArchiveFields = Verb × (ClassPath × ArchiveRule)

abbrev pub archive_fields : Form ArchiveFields
archive_fields = pair verb (pair class_path archive_group)

abbrev pub archive_with : ArchiveFields → PolicyChange
archive_with f = ArchiveGroup f.0 f.1.0.0 f.1.0.1.0 f.1.0.1.1 f.1.1

abbrev pub archive_of : PolicyChange → Option ArchiveFields
archive_of (ArchiveGroup v d s c r) = Some (v, ((d, (s, c)), r))
archive_of _ = None

-- the class that becomes the default
abbrev pub assign_with : ClassPath → PolicyChange
assign_with f = Assign f.0 f.1.0 f.1.1

abbrev pub assign_of : PolicyChange → Option ClassPath
assign_of (Assign d s c) = Some (d, (s, c))
assign_of _ = None

-- the set that becomes active
abbrev pub activate_with : SetPath → PolicyChange
activate_with f = Activate f.0 f.1

abbrev pub activate_of : PolicyChange → Option SetPath
activate_of (Activate d s) = Some (d, s)
activate_of _ = None

-- what follows each tag
unfoldable pub policy_body : Edition → ℕ → Form PolicyChange
policy_body e = row 2 (variant domain_with domain_of domain_fields) (row 3 (variant set_with set_of set_fields) (row 4 (variant class_with class_of class_fields)
    (row 5 (variant group_with group_of group_fields) (row 6 (variant assign_with assign_of class_path) (row 7 (variant activate_with activate_of set_path)
    (added_rows e (row 26 (variant archive_with archive_of archive_fields) no_more)))))))

-- ---- laws

domain_back : (c : PolicyChange) (f : DomainFields) → domain_of c ≡ Some f → domain_with f ≡ c
domain_back (Domain v d b) f e = ap domain_with (sym (same_Some (v, (d, b)) f e))
domain_back _ f e = absurd cc

set_back : (c : PolicyChange) (f : SetFields) → set_of c ≡ Some f → set_with f ≡ c
set_back (Set v d s) f e = ap set_with (sym (same_Some (v, (d, s)) f e))
set_back _ f e = absurd cc

class_back : (c : PolicyChange) (f : ClassFields) → class_of c ≡ Some f → class_with f ≡ c
class_back (Class v d s k) f e = ap class_with (sym (same_Some (v, (d, (s, k))) f e))
class_back _ f e = absurd cc

group_back : (c : PolicyChange) (f : GroupFields) → group_of c ≡ Some f → group_with f ≡ c
group_back (Group v d s k r) f e = ap group_with (sym (same_Some (v, ((d, (s, k)), r)) f e))
group_back _ f e = absurd cc

archive_back : (c : PolicyChange) (f : ArchiveFields) → archive_of c ≡ Some f → archive_with f ≡ c
archive_back (ArchiveGroup v d s k r) f e = ap archive_with (sym (same_Some (v, ((d, (s, k)), r)) f e))
archive_back _ f e = absurd cc

assign_back : (c : PolicyChange) (f : ClassPath) → assign_of c ≡ Some f → assign_with f ≡ c
assign_back (Assign d s k) f e = ap assign_with (sym (same_Some (d, (s, k)) f e))
assign_back _ f e = absurd cc

activate_back : (c : PolicyChange) (f : SetPath) → activate_of c ≡ Some f → activate_with f ≡ c
activate_back (Activate d s) f e = ap activate_with (sym (same_Some (d, s) f e))
activate_back _ f e = absurd cc

pub set_path_form : IsForm set_path
set_path_form = pair_form (name_form 30) (name_form 30)

pub class_path_form : IsForm class_path
class_path_form = pair_form (name_form 30) (pair_form (name_form 30) (name_form 30))

pub policy_table : (e : Edition) → IsTable policy_tag (policy_body e)
unfolding policy_body
policy_table e = row_table (variant_row policy_tag 2 domain_with domain_of (λ _. refl) (λ _. refl) domain_back (pair_form verb_form (pair_form (name_form 30) days_form)))
    (row_table (variant_row policy_tag 3 set_with set_of (λ _. refl) (λ _. refl) set_back (pair_form define_or_delete_form set_path_form))
    (row_table (variant_row policy_tag 4 class_with class_of (λ _. refl) (λ _. refl) class_back (pair_form define_or_delete_form class_path_form))
    (row_table (variant_row policy_tag 5 group_with group_of (λ _. refl) (λ _. refl) group_back (pair_form verb_form (pair_form class_path_form group_form)))
    (row_table (variant_row policy_tag 6 assign_with assign_of (λ _. refl) (λ _. refl) assign_back class_path_form)
    (row_table (variant_row policy_tag 7 activate_with activate_of (λ _. refl) (λ _. refl) activate_back set_path_form)
    (added_rows_table e (row_table (variant_row policy_tag 26 archive_with archive_of (λ _. refl) (λ _. refl) archive_back (pair_form verb_form (pair_form class_path_form archive_group_form)))
    (no_more_table policy_tag))))))))
