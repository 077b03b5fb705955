use Rattle.std.proofs.Common.{ap, sym, ◌∙◌}
use Rattle.std.specs.Result.{result_err}
use Rattle.kinds.specs.declared.change.PolicyChange.{PolicyChange}
use Rattle.policy_domains.specs.Changes.{set_after}
use Rattle.policy_domains.proofs.changes.refusal_in.Goals as goal

pub returns-in-Group : goal.returns-in-Group
returns-in-Group c = c.group_in.ensures ∙ sym (ap (λ (change : PolicyChange). result_err (set_after change c.args.row.now)) c.in-Group.is)

pub returns-in-ArchiveGroup : goal.returns-in-ArchiveGroup
returns-in-ArchiveGroup c = c.group_in-in-ArchiveGroup.ensures ∙ sym (ap (λ (change : PolicyChange). result_err (set_after change c.args.row.now)) c.in-ArchiveGroup.is)
