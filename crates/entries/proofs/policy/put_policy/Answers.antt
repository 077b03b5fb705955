use Rattle.change_items.proofs.Joins.{four}
use Rattle.entries.specs.ChangeForm.{change, change_body}
use Rattle.entries.specs.PolicyTags.{policy_body}
use Rattle.entries.proofs.policy.put_policy.Goals as goal

pub returns-in_ok-write_to-in-Group-2 : goal.returns-in_ok-write_to-in-Group-2
unfolding change change_body policy_body
returns-in_ok-write_to-in-Group-2 c =
    rw c.in-Group.is (four _ _ _ _ _ _ _ _ _ c.in_ok-put_u8-in-Group.ensures.ok c.in_ok-write_to-in-Group.ensures c.in_ok-put_class-in-Group.ensures c.in_ok-write_to-in-Group-2.ensures)

pub returns-in_ok-write_to-in-ArchiveGroup-2 : goal.returns-in_ok-write_to-in-ArchiveGroup-2
unfolding change change_body policy_body
returns-in_ok-write_to-in-ArchiveGroup-2 c =
    rw c.in-ArchiveGroup.is (four _ _ _ _ _ _ _ _ _ c.in_ok-put_u8-in-ArchiveGroup.ensures.ok c.in_ok-write_to-in-ArchiveGroup.ensures c.in_ok-put_class-in-ArchiveGroup.ensures c.in_ok-write_to-in-ArchiveGroup-2.ensures)
