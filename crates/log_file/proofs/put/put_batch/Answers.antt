use Rattle.log_file.proofs.Appending.{put_batch}
use Rattle.log_file.proofs.put.put_batch.Goals as goal

pub returns-clause-told : goal.returns-clause-told
returns-clause-told g c = put_batch _ _ c.args.file c.args.at c.args.batch.now c.bytes.result.now _ c.write_at.ensures.told c.bytes.ensures c.write_at.ensures.fits
