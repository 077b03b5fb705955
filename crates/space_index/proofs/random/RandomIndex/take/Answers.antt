use Rattle.space_index.specs.Index.{IsTakenFrom}
use Rattle.space_index.proofs.Entries.{take_entries, edited_stays}
use Rattle.space_index.proofs.random.RandomIndex.take.Goals as goal

pub returns : goal.returns
returns c = λ shapes times is.
    let s = c.args.segment.now in
    let old = c.args.self.now.files.entries in
    let new = c.take_at.new.files.entries in
    record {
      entry = take_entries s old new shapes times c.take_at.ensures is.entry;
      listed = c.in_ok-relist.ensures old is.listed (edited_stays (IsTakenFrom s) (λ a b edit. edit.pool) s.file old new c.take_at.ensures);
    }
