use Rattle.client_files.proofs.Ticketed.{sent-tickets}
use Rattle.client_files.proofs.laws.sent_files_are_ticketed.Goals as goal

pub returns : goal.returns
returns c w actor old new file pool size before after events result f none sent = sent-tickets w actor file pool size before after old new events result f none sent
