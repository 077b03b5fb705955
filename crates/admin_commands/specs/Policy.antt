-- Changes of copy groups, and of archive copy groups.
use Rattle.std.specs.Prelude.{ℕ, Bool, true, false, List, Option, Some, None, unwrap_or, Result, Ok, Err, if◌then◌else◌}
use Rattle.kinds.specs.Refusals.{bad_value}
use Rattle.kinds.specs.Rules.{is_archive_rule, is_rule}
use Rattle.kinds.specs.declared.change.PolicyChange.TheVariants as policy
use Rattle.kinds.specs.declared.change.Verb.{Verb}
use Rattle.kinds.specs.declared.change.Verb.TheVariants as verb
use Rattle.kinds.specs.declared.refusal.Refusal.{Refusal}
use Rattle.kinds.specs.declared.rule.ArchiveRule.{ArchiveRule}
use Rattle.kinds.specs.declared.rule.BackupRule.{BackupRule}
use Rattle.entries.specs.declared.change.Change.TheVariants as change
use Rattle.inventory_rows.specs.version_groups.Entries.{if_found}
use Rattle.admin_words.specs.declared.policy.ArchiveDefinition.{ArchiveDefinition}
use Rattle.admin_words.specs.declared.policy.ArchiveUpdate.{ArchiveUpdate}
use Rattle.admin_words.specs.declared.policy.GroupDefinition.{GroupDefinition}
use Rattle.admin_words.specs.declared.policy.GroupUpdate.{GroupUpdate}
use Rattle.admin_words.specs.declared.policy.NamedClass.{NamedClass}
use Rattle.admin_words.specs.declared.words.Mode.{Mode}
use Rattle.admin_words.specs.declared.words.Mode.TheVariants.{Modified, Absolute}
use Rattle.inventory_answers.specs.declared.reply.Answer.{Answer}
use Rattle.admin_commands.specs.declared.work.Work.{Work}
use Rattle.admin_commands.specs.declared.work.Work.TheVariants as work
use Rattle.admin_commands.specs.Found.{archive_of, behind, number_found, group_of}

abbrev pub is_absolute : Mode → Bool
is_absolute Modified = false
is_absolute Absolute = true

-- a change of a copy group; a value outside its range is `BadValue`
abbrev pub group_changed : Verb → List ℕ → List ℕ → List ℕ → BackupRule → Result Work Refusal
group_changed v domain set class rule =
    if is_rule rule then Ok (work.Commit (change.Policy (policy.Group v domain set class rule))) else Err bad_value

-- the rule of a copy group that is defined
abbrev pub new_rule : GroupDefinition → ℕ → BackupRule
new_rule g destination = record {
  destination = destination;
  frequency = g.frequency;
  ver_exists = g.ver_exists;
  ver_deleted = g.ver_deleted;
  ret_extra = g.ret_extra;
  ret_only = g.ret_only;
  absolute = is_absolute g.mode;
  still = g.still;
}

abbrev pub absolute_or : Option Mode → Bool → Bool
absolute_or None old = old
absolute_or (Some mode) old = is_absolute mode

-- the rule of a copy group that is updated: what isn't given stays
abbrev pub other_rule : GroupUpdate → BackupRule → ℕ → BackupRule
other_rule g old destination = record {
  destination = destination;
  frequency = unwrap_or g.frequency old.frequency;
  ver_exists = unwrap_or g.ver_exists old.ver_exists;
  ver_deleted = unwrap_or g.ver_deleted old.ver_deleted;
  ret_extra = unwrap_or g.ret_extra old.ret_extra;
  ret_only = unwrap_or g.ret_only old.ret_only;
  absolute = absolute_or g.mode old.absolute;
  still = unwrap_or g.still old.still;
}

-- the number of the destination: that of the pool that was looked up, where one is named
abbrev pub destination_for : Option (List ℕ) → ℕ → List Answer → Option ℕ
destination_for None old answers = Some old
destination_for (Some name) old answers = number_found answers

-- DEFINE COPYGROUP
abbrev pub define_group : GroupDefinition → List Answer → Result Work Refusal
define_group g answers = if_found (number_found answers) (λ destination. group_changed verb.Define g.domain g.set g.class (new_rule g destination))

-- what is given of an update replaces what stands there
abbrev pub update_rule : GroupUpdate → BackupRule → List Answer → Result Work Refusal
update_rule g old answers =
    if_found (destination_for g.destination old.destination answers) (λ destination. group_changed verb.Update g.domain g.set g.class (other_rule g old destination))

-- UPDATE COPYGROUP, of a copy group that is there
abbrev pub update_group : GroupUpdate → List Answer → Result Work Refusal
update_group g answers = if_found (group_of g.class answers) (λ old. update_rule g old.rule (behind answers))

-- DELETE COPYGROUP: the change has the rule that stands there
abbrev pub delete_group : NamedClass → List Answer → Result Work Refusal
delete_group c answers = if_found (group_of c.class answers) (λ old. group_changed verb.Delete c.domain c.set c.class old.rule)

-- ---- archive copy groups

-- a change of an archive copy group; a value outside its range is `BadValue`
abbrev pub archive_changed : Verb → List ℕ → List ℕ → List ℕ → ArchiveRule → Result Work Refusal
archive_changed v domain set class rule =
    if is_archive_rule rule then Ok (work.Commit (change.Policy (policy.ArchiveGroup v domain set class rule))) else Err bad_value

-- the rule of an archive copy group that is defined, and of one that is updated, where what isn't given stays
abbrev pub new_archive : ArchiveDefinition → ℕ → ArchiveRule
new_archive g destination = record { destination = destination; ret_ver = g.ret_ver }

abbrev pub other_archive : ArchiveUpdate → ArchiveRule → ℕ → ArchiveRule
other_archive g old destination = record { destination = destination; ret_ver = unwrap_or g.ret_ver old.ret_ver }

-- DEFINE COPYGROUP with TYPE=ARCHIVE
abbrev pub define_archive : ArchiveDefinition → List Answer → Result Work Refusal
define_archive g answers =
    if_found (number_found answers) (λ destination. archive_changed verb.Define g.domain g.set g.class (new_archive g destination))

-- what is given of an update replaces what stands there
abbrev pub update_archive_rule : ArchiveUpdate → ArchiveRule → List Answer → Result Work Refusal
update_archive_rule g old answers =
    if_found (destination_for g.destination old.destination answers) (λ destination. archive_changed verb.Update g.domain g.set g.class (other_archive g old destination))

-- UPDATE COPYGROUP with TYPE=ARCHIVE, of a class that has an archive copy group
abbrev pub update_archive : ArchiveUpdate → List Answer → Result Work Refusal
update_archive g answers = if_found (archive_of g.class answers) (λ old. update_archive_rule g old (behind answers))

-- DELETE COPYGROUP with TYPE=ARCHIVE: the change has the rule that stands there
abbrev pub delete_archive : NamedClass → List Answer → Result Work Refusal
delete_archive c answers = if_found (archive_of c.class answers) (λ old. archive_changed verb.Delete c.domain c.set c.class old)
