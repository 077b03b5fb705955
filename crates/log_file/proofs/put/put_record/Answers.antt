-- That a record was written is looked for, and not cited: a body that makes no such call is refused for want of that fact.
use Rattle.std.proofs.Common.{rules}
use Rattle.log_file.proofs.Appending.{put_first, put_later}
use Rattle.log_file.proofs.put.put_record.Goals as goal

pub returns-then-at-sure-clause-told : goal.returns-then-at-sure-clause-told
returns-then-at-sure-clause-told g c = put_first _ _ c.args.file c.args.sure c.args.at _ _ c.args.framed.now c.bytes-bytes.result.now _ c.write_at.ensures.told (search rules) (search rules) c.bytes-bytes.ensures.bytes c.bytes-bytes.ensures.fits (search rules) c.write_at.ensures.fits

pub returns-clause-told : goal.returns-clause-told
returns-clause-told g c = put_later _ _ c.args.file c.args.sure c.args.at c.args.framed.now c.bytes-bytes.result.now _ c.write_at-2.ensures.told c.bytes-bytes.ensures.bytes c.bytes-bytes.ensures.fits c.if-at-sure.false c.write_at-2.ensures.fits
