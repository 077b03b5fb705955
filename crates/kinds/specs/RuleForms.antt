-- The bytes of copy groups, and that they are forms.
use Rattle.std.specs.Prelude.{◌≡◌, ℕ, Bool, [], ◌∷◌, Option, Some, None, refl}
use Rattle.std.specs.Int.{w16, w32}
use Rattle.fields.specs.Forms.{Form, IsForm, number, pair, viewed, only, coded, flag, limit, value_of}
use Rattle.fields.specs.FieldLaws.{number_form, wide16, wide32}
use Rattle.fields.specs.FormLaws.{pair_form, viewed_form, only_form, coded_form, flag_form, limit_form}
use Rattle.kinds.specs.Rules.{is_rule, is_archive_rule}
use Rattle.kinds.specs.declared.rule.ArchiveRule.{ArchiveRule}
use Rattle.kinds.specs.declared.rule.BackupRule.{BackupRule}
use Rattle.kinds.specs.declared.rule.Limit.{Limit}
use Rattle.kinds.specs.declared.rule.Limit.TheVariants.{At, NoLimit}
use Rattle.kinds.specs.declared.rule.Still.{Still}
use Rattle.kinds.specs.declared.rule.Still.TheVariants.{ShrStatic, Static}

-- a limit of versions or days: a number of four bytes, all ones for NOLIMIT
abbrev pub limit_with : Option ℕ → Limit
limit_with None = NoLimit
limit_with (Some n) = At n

abbrev pub limit_number : Limit → Option ℕ
limit_number NoLimit = None
limit_number (At n) = Some n

abbrev pub rule_limit : Form Limit
rule_limit = viewed limit_with limit_number (limit w32)

-- whether a file is sent only while it stands still: 0 for SHRSTATIC, 1 for STATIC
abbrev pub still_number : Still → ℕ
still_number ShrStatic = 0
still_number Static = 1

abbrev pub still : Form Still
still = coded still_number (ShrStatic ∷ Static ∷ [])

-- the parameters of a backup copy group, in the order of their bytes
abbrev pub RuleFields : Type 0
RuleFields = ℕ × (ℕ × (Limit × (Limit × (Limit × (Limit × (Bool × Still))))))

abbrev pub rule_with : RuleFields → BackupRule
rule_with f = record {
  destination = f.0;
  frequency = f.1.0;
  ver_exists = f.1.1.0;
  ver_deleted = f.1.1.1.0;
  ret_extra = f.1.1.1.1.0;
  ret_only = f.1.1.1.1.1.0;
  absolute = f.1.1.1.1.1.1.0;
  still = f.1.1.1.1.1.1.1;
}

abbrev pub rule_fields : BackupRule → RuleFields
rule_fields r = (r.destination, (r.frequency, (r.ver_exists, (r.ver_deleted, (r.ret_extra, (r.ret_only, (r.absolute, r.still)))))))

-- DESTINATION, FREQUENCY, VEREXISTS, VERDELETED, RETEXTRA, RETONLY, whether MODE is ABSOLUTE, and SERIALIZATION
abbrev pub rule : Form BackupRule
rule = viewed rule_with rule_fields (pair (number w32) (pair (number w16) (pair rule_limit (pair rule_limit (pair rule_limit (pair rule_limit (pair flag still)))))))

-- a rule whose parameters are in their ranges
abbrev pub group : Form BackupRule
group = only is_rule rule

-- DESTINATION and RETVER of an archive copy group
abbrev pub archive_with : ℕ × Limit → ArchiveRule
archive_with f = record { destination = f.0; ret_ver = f.1 }

abbrev pub archive_fields : ArchiveRule → ℕ × Limit
archive_fields r = (r.destination, r.ret_ver)

abbrev pub archive_rule : Form ArchiveRule
archive_rule = viewed archive_with archive_fields (pair (number w32) rule_limit)

-- a rule whose parameters are in their ranges
abbrev pub archive_group : Form ArchiveRule
archive_group = only is_archive_rule archive_rule

-- ---- laws

limit_back : (o : Option ℕ) → limit_number (limit_with o) ≡ o
limit_back None = refl
limit_back (Some n) = refl

limit_forth : (l : Limit) → limit_with (limit_number l) ≡ l
limit_forth NoLimit = refl
limit_forth (At n) = refl

pub rule_limit_form : IsForm rule_limit
rule_limit_form = viewed_form limit_with limit_number limit_back limit_forth (limit_form w32 wide32)

still_told : (s : Still) → value_of still_number (ShrStatic ∷ Static ∷ []) (still_number s) ≡ Some s
still_told ShrStatic = refl
still_told Static = refl

pub still_form : IsForm still
still_form = coded_form still_number (ShrStatic ∷ Static ∷ []) still_told

pub rule_form : IsForm rule
rule_form = viewed_form rule_with rule_fields (λ _. refl) (λ _. refl)
    (pair_form (number_form w32 wide32) (pair_form (number_form w16 wide16) (pair_form rule_limit_form (pair_form rule_limit_form (pair_form rule_limit_form (pair_form rule_limit_form (pair_form flag_form still_form)))))))

pub group_form : IsForm group
group_form = only_form is_rule rule_form

pub archive_rule_form : IsForm archive_rule
archive_rule_form = viewed_form archive_with archive_fields (λ _. refl) (λ _. refl) (pair_form (number_form w32 wide32) rule_limit_form)

pub archive_group_form : IsForm archive_group
archive_group_form = only_form is_archive_rule archive_rule_form
