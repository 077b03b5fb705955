use Rattle.std.proofs.Common.{ℕ, arith, length-take, length-drop}
use Rattle.std.proofs.lemmas.List.{take_rest}
use Rattle.real_edge.proofs.Keeps.{told_from}
use Rattle.real_edge.proofs.OpenFiles.{told_joined, front_more, front_failed, front_whole, front_stopped}
use Rattle.real_edge.proofs.pieces.write_all.Goals as goal

pub returns-in-Ok-eq0 : goal.returns-in-Ok-eq0
returns-in-Ok-eq0 g c = record {
  told = told_joined (g.F.Files.told c.args.files.now) (g.F.Files.told c.pieces.files) (g.F.Files.told c.write_at.new.self) c.pieces.invariant.told c.in-Ok-eq0.ensures.told (λ old mid new before writes. front_stopped (g.F.Files.label_of c.args.handle.now) c.args.offset c.args.bytes.now c.pieces.done c.in-Ok-eq0.field-0 _ _ old mid new (take_rest c.args.bytes.now c.pieces.done) c.in-Ok-eq0.ensures.bound c.pieces.invariant.within before writes);
}

pub pieces-preserved : goal.pieces-preserved
pieces-preserved g c = record {
  within = omega (arith, c.in-Ok.ensures.bound, length-take {A = ℕ}, length-drop {A = ℕ});
  told = told_joined (g.F.Files.told c.args.files.now) (g.F.Files.told c.pieces.files) (g.F.Files.told c.write_at.new.self) c.pieces.invariant.told c.in-Ok.ensures.told (λ old mid new before writes. front_more (g.F.Files.label_of c.args.handle.now) c.args.offset c.args.bytes.now c.pieces.done c.in-Ok.written _ old mid new (take_rest c.args.bytes.now c.pieces.done) c.in-Ok.ensures.bound c.pieces.invariant.within before writes);
}

pub returns-in-Err : goal.returns-in-Err
returns-in-Err g c = record {
  told = told_joined (g.F.Files.told c.args.files.now) (g.F.Files.told c.pieces.files) (g.F.Files.told c.write_at.new.self) c.pieces.invariant.told c.in-Err.ensures.told (λ old mid new before fails. front_failed (g.F.Files.label_of c.args.handle.now) c.args.offset c.args.bytes.now c.pieces.done _ _ old mid new (take_rest c.args.bytes.now c.pieces.done) c.pieces.invariant.within before fails);
}

pub returns : goal.returns
returns g c = record {
  told = told_from (g.F.Files.told c.args.files.now) (g.F.Files.told c.pieces.files) c.pieces.invariant.told (λ old new was used. front_whole (g.F.Files.label_of c.args.handle.now).name c.args.offset c.args.bytes.now c.pieces.done _ old new (omega (arith, c.pieces-test.false, c.pieces.invariant.within)) (was used));
}
