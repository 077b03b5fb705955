use Rattle.std.proofs.Common.{◌∙◌, ap, arith}
use Rattle.log_file.specs.Frames.{payload_of}
use Rattle.log_file.proofs.Frames.{is_frame, payload_back}
use Rattle.log_file.proofs.frame.make_frame.Goals as goal

pub invariant_of-result : goal.invariant_of-result
invariant_of-result c = is_frame c.in-Ok.bytes.items c.args.payload.now c.in-Ok.ensures (omega arith)

pub returns-in-Ok-clause-framed : goal.returns-in-Ok-clause-framed
returns-in-Ok-clause-framed c = ap payload_of c.in-Ok.ensures ∙ payload_back c.args.payload.now
