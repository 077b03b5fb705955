use Rattle.std.proofs.Common.{Option, Some, sym, subst}
use Rattle.pool_tables.specs.Rows.{row_at}
use Rattle.pool_tables.proofs.Counting.{apart_at}
use Rattle.space_index.specs.declared.standing.Standing.{Standing}
use Rattle.space_index.specs.Index.{IsEntry}
use Rattle.space_index.specs.Listed.{IsSetAt}
use Rattle.space_index.proofs.Entries.{entries_but_one, absent_entry, inserted_stays}
use Rattle.space_index.proofs.random.RandomIndex.insert.Goals as goal

pub returns : goal.returns
returns c = λ shapes others times is same absent entry.
    let file = c.args.file in
    let e = c.args.standing in
    let old = c.args.self.now.files.entries in
    let new = c.insert.new.self.entries in
    let set : IsSetAt file (Some e) old new = record {
      here = c.in_ok-insert.ensures.updates.1;
      others = λ q apart. c.in_ok-insert.ensures.updates.2 q (apart_at file q (λ h. apart (sym h)));
    } in
    record {
      entry = entries_but_one file old new shapes others times set.others same (subst (λ (o : Option Standing). IsEntry (times file) (others file) o) (sym set.here) entry) is.entry;
      listed = c.in_ok-relist.ensures old is.listed (inserted_stays file e old new set (absent_entry (times file) (shapes file) (row_at file old) absent (is.entry file)));
    }
