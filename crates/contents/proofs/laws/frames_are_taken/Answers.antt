use Rattle.contents.specs.Contents.{InImage}
use Rattle.contents.proofs.Taking.{took_first, took_further, took_kept, took_sealed, took_still, took_whole}
use Rattle.contents.proofs.laws.frames_are_taken.Goals as goal

pub returns-clause-first : goal.returns-clause-first
returns-clause-first c old new v object number front s back at len bytes part clear some wrote from to long any room stands taken = took_first old new object number v front s back clear at len wrote to from bytes part some long any room stands taken

pub returns-clause-further : goal.returns-clause-further
returns-clause-further c old new v object number front s back at len bytes taken part clear some wrote from to long any room stands have = took_further old new object number v front s back clear at len wrote to bytes taken some long any from part room stands have

pub returns-clause-none : goal.returns-clause-none
returns-clause-none c old new v object number front s back at len bytes clear wrote from to long taken = took_still old new object number v front s back clear at len wrote to from bytes long taken

pub returns-clause-no_further : goal.returns-clause-no_further
returns-clause-no_further c old new v object number front s back at len bytes taken clear some wrote from to long any room have = took_kept old new object number v front s back clear at len wrote to bytes taken some long any from room have

pub returns-clause-whole : goal.returns-clause-whole
returns-clause-whole c image object number segments bytes some long taken = took_whole (InImage image) object number segments bytes some long taken

pub returns-clause-sealed : goal.returns-clause-sealed
returns-clause-sealed c h object number segments bytes some long rest taken = took_sealed h object number segments bytes some long rest taken
