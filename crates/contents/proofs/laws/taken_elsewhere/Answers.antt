use Rattle.contents.proofs.Taking.{frames_beside, took_beside, took_same}
use Rattle.contents.proofs.laws.taken_elsewhere.Goals as goal

pub returns-clause-same : goal.returns-clause-same
returns-clause-same c old new object number segments bytes same taken = took_same old new object number segments bytes same taken

pub returns-clause-beside : goal.returns-clause-beside
returns-clause-beside c old new object number sequential s at len segments bytes clear wrote from to taken = took_beside old new object number sequential s at len segments bytes clear wrote from to taken

pub returns-clause-firm : goal.returns-clause-firm
returns-clause-firm c old new object number sequential s segments bytes clear wrote have = frames_beside old new object number sequential s segments bytes clear wrote have
