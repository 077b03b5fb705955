-- Changes of the copy groups of a management class.
use Rattle.std.specs.Prelude.{Option, Some, None, Result, Ok, Err}
use Rattle.kinds.specs.declared.change.Verb.{Verb}
use Rattle.kinds.specs.declared.change.Verb.TheVariants.{Define, Update, Delete}
use Rattle.kinds.specs.declared.refusal.Refusal.{Refusal}
use Rattle.kinds.specs.declared.refusal.Refusal.TheVariants.{NotFound, Exists}
use Rattle.policy_domains.specs.declared.classes.AnyGroup.{AnyGroup}
use Rattle.policy_domains.specs.declared.classes.AnyGroup.TheVariants.{Backup, Archive}
use Rattle.policy_domains.specs.declared.classes.ManagementClass.{ManagementClass}
use Rattle.policy_domains.specs.Rows.{within}

-- a copy group is defined, replaced or deleted
abbrev pub group_changed : {R : Type 0} → Verb → R → Option R → Result (Option R) Refusal
group_changed Define rule None = Ok (Some rule)
group_changed Define rule (Some _) = Err Exists
group_changed Update rule None = Err NotFound
group_changed Update rule (Some _) = Ok (Some rule)
group_changed Delete rule None = Err NotFound
group_changed Delete rule (Some _) = Ok None

-- the class whose copy group of this type is changed
abbrev pub groups_changed : Verb → AnyGroup → ManagementClass → Result ManagementClass Refusal
groups_changed verb (Backup rule) class = within (λ group. record { backup = group; archive = class.archive }) (group_changed verb rule class.backup)
groups_changed verb (Archive rule) class = within (λ group. record { backup = class.backup; archive = group }) (group_changed verb rule class.archive)
