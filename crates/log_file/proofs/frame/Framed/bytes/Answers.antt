use Rattle.std.proofs.Common.{◌+◌, ◌∙◌, ap, length}
use Rattle.log_file.specs.Frames.{payload_of}
use Rattle.log_file.proofs.Frames.{length-frame}
use Rattle.log_file.proofs.frame.Framed.bytes.Goals as goal

pub returns-clause-len : goal.returns-clause-len
returns-clause-len c =
    ap length (c.deref.ensures.value ∙ c.self.invariant.whole) ∙ length-frame (payload_of c.self.inside.bytes.items) ∙ ap (λ l. 6 + length l) c.self.view_is
