use Rattle.space_index.specs.Index.{IsPutOn}
use Rattle.space_index.proofs.Entries.{put_entries, edited_stays}
use Rattle.space_index.proofs.random.RandomIndex.put.Goals as goal

pub returns : goal.returns
returns c = λ shapes times is.
    let s = c.args.segment.now in
    let old = c.args.self.now.files.entries in
    let new = c.put_at.new.files.entries in
    record {
      entry = put_entries s old new shapes times c.in_ok-put_at.ensures is.entry;
      listed = c.in_ok-relist.ensures old is.listed (edited_stays (IsPutOn s) (λ a b edit. edit.pool) s.file old new c.in_ok-put_at.ensures);
    }
