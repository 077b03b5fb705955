use Rattle.space_index.specs.Index.{HasAccess}
use Rattle.space_index.proofs.Entries.{access_entries, edited_stays}
use Rattle.space_index.proofs.random.RandomIndex.set_access.Goals as goal

pub returns : goal.returns
returns c = λ shapes others times is same access.
    let old = c.args.self.now.files.entries in
    let new = c.set_access_at.new.files.entries in
    record {
      entry = access_entries c.args.is_writable c.args.file old new shapes others times c.set_access_at.ensures same access is.entry;
      listed = c.in_ok-relist.ensures old is.listed (edited_stays (HasAccess c.args.is_writable) (λ a b edit. edit.pool) c.args.file old new c.set_access_at.ensures);
    }
