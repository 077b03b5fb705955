use Rattle.std.proofs.Common.{arith}
use Rattle.real_edge.proofs.OpenFiles.{cut_made, cut_none, cut_failed}
use Rattle.real_edge.proofs.pieces.cut_to.Goals as goal

pub returns-in-Ok : goal.returns-in-Ok
returns-in-Ok g c = record { told = cut_made (g.F.Files.told c.args.files.now) (g.F.Files.told c.len.new.self) (g.F.Files.told c.cut.new.self) (g.F.Files.label_of c.args.handle.now) c.args.len c.in-Ok.old c.cut.result (omega (arith, c.if-len-old.true)) c.in-Ok.ensures.told c.in-Ok.ensures.length c.cut.ensures.told }

pub returns-in-Ok-2 : goal.returns-in-Ok-2
returns-in-Ok-2 g c = record { told = cut_none (g.F.Files.told c.args.files.now) (g.F.Files.told c.len.new.self) (g.F.Files.label_of c.args.handle.now) c.args.len c.in-Ok.old tt (omega (arith, c.if-len-old.false)) c.in-Ok.ensures.told c.in-Ok.ensures.length }

pub returns-in-Err : goal.returns-in-Err
returns-in-Err g c = record { told = cut_failed (Unit {0}) (g.F.Files.told c.args.files.now) (g.F.Files.told c.len.new.self) (g.F.Files.label_of c.args.handle.now) c.args.len c.in-Err.failed c.in-Err.ensures.told }
