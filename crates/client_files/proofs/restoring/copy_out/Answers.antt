use Rattle.std.proofs.Common.{◌∙◌, sym, true≢false, arith}
use Rattle.client_files.proofs.Giving.{begun, out-other, out-unbegun, out-unfinished, out-unread, out-whole}
use Rattle.client_files.proofs.restoring.copy_out.Goals as goal

pub returns-in-Err-clause-copies : goal.returns-in-Err-clause-copies
returns-in-Err-clause-copies g c =
    out-unbegun g.P.Stepper.did c.args.p.now c.args.stored.now c.args.path.now (g.T.Tree.files c.args.tree.now) (g.T.Tree.files c.create.new.self) (g.T.Tree.fault_count c.args.tree.now)
    (g.T.Tree.fault_count c.create.new.self) (g.met.P.Stepper.stays c.args.p.now) c.in-Err.ensures.cause.rose c.in-Err.ensures.files.1

pub copy_bytes-requires-clause-begun : goal.copy_bytes-requires-clause-begun
copy_bytes-requires-clause-begun g c = begun c.args.path.now (g.T.Tree.files c.args.tree.now) (g.T.Tree.files c.create.new.self) c.in-Ok.ensures.files.0

pub returns-in-Err-copy_bytes-clause-copies : goal.returns-in-Err-copy_bytes-clause-copies
returns-in-Err-copy_bytes-clause-copies g c =
    out-unread g.P.Stepper.did c.args.p.now c.copy_bytes.new.p c.args.stored.now c.args.path.now (g.T.Tree.files c.args.tree.now) (g.T.Tree.files c.create.new.self) (g.T.Tree.files c.copy_bytes.new.tree)
    (g.T.Tree.fault_count c.args.tree.now) (g.T.Tree.fault_count c.create.new.self) (g.T.Tree.fault_count c.copy_bytes.new.tree) c.in-Err-copy_bytes.refusal c.in-Ok.ensures.files.0
    c.create.ensures.cause.kept c.in-Err-copy_bytes.ensures.written

pub returns-then-not-is_same-clause-copies : goal.returns-then-not-is_same-clause-copies
returns-then-not-is_same-clause-copies g c =
    out-other g.P.Stepper.did c.args.p.now c.copy_bytes.new.p c.args.stored.now c.args.path.now (g.T.Tree.files c.args.tree.now) (g.T.Tree.files c.create.new.self) (g.T.Tree.files c.copy_bytes.new.tree)
    (g.T.Tree.fault_count c.args.tree.now) (g.T.Tree.fault_count c.create.new.self) (g.T.Tree.fault_count c.copy_bytes.new.tree) c.in-Ok-copy_bytes.digest c.in-Ok.ensures.files.0
    (λ e. absurd (true≢false (sym (c.is_same.ensures.1 e) ∙ c.if-not-is_same.true))) c.in-Ok-copy_bytes.ensures.written

pub returns-in-Ok-finish-clause-copies : goal.returns-in-Ok-finish-clause-copies
returns-in-Ok-finish-clause-copies g c =
    out-whole g.P.Stepper.did c.args.p.now c.copy_bytes.new.p c.args.stored.now c.args.path.now (g.T.Tree.files c.args.tree.now) (g.T.Tree.files c.create.new.self) (g.T.Tree.files c.copy_bytes.new.tree)
    (g.T.Tree.files c.finish.new.self) (g.T.Tree.fault_count c.args.tree.now) (g.T.Tree.fault_count c.create.new.self) (g.T.Tree.fault_count c.copy_bytes.new.tree) (g.T.Tree.fault_count c.finish.new.self)
    c.in-Ok-copy_bytes.digest c.in-Ok.ensures.files.0 (c.is_same.ensures.0 c.if-not-is_same.false) c.in-Ok-finish.ensures.files.0 c.in-Ok-copy_bytes.ensures.written

pub returns-in-Err-finish-clause-copies : goal.returns-in-Err-finish-clause-copies
returns-in-Err-finish-clause-copies g c =
    out-unfinished g.P.Stepper.did c.args.p.now c.copy_bytes.new.p c.args.stored.now c.args.path.now (g.T.Tree.files c.args.tree.now) (g.T.Tree.files c.create.new.self) (g.T.Tree.files c.copy_bytes.new.tree)
    (g.T.Tree.files c.finish.new.self) (g.T.Tree.fault_count c.args.tree.now) (g.T.Tree.fault_count c.create.new.self) (g.T.Tree.fault_count c.copy_bytes.new.tree) (g.T.Tree.fault_count c.finish.new.self)
    c.in-Ok-copy_bytes.digest c.in-Ok.ensures.files.0 (c.is_same.ensures.0 c.if-not-is_same.false) (omega (arith, c.create.ensures.cause.kept, c.copy_bytes.ensures.rises)) c.in-Err-finish.ensures.cause.rose c.in-Err-finish.ensures.files.1 c.in-Ok-copy_bytes.ensures.written
