use Rattle.std.proofs.Common.{ℕ, ◌+◌, ◌∙◌, arith, length-take, length-drop, length-append}
use Rattle.real_edge.proofs.OpenFiles.{told_joined}
use Rattle.real_edge.proofs.Fills.{known_before, known_both, front_filled}
use Rattle.files_api.specs.Calls.{ReadsSome}
use Rattle.real_edge.proofs.pieces.fill_from.Goals as goal

pub pieces-preserved : goal.pieces-preserved
pieces-preserved g c = record {
  within = omega (arith, c.in-Ok.ensures.bound, c.pieces.invariant.within, length-append {A = ℕ}, length-take {A = ℕ}, length-drop {A = ℕ});
  long = omega (arith, c.pieces.invariant.long, c.pieces.invariant.within, length-append {A = ℕ}, length-take {A = ℕ}, length-drop {A = ℕ});
  told = told_joined (g.F.Files.told c.args.files.now) (g.F.Files.told c.pieces.files) (g.F.Files.told c.read_at.new.self) c.pieces.invariant.told c.in-Ok.ensures.told (λ old mid new was looks. looks ∙ was);
  front = known_both (g.F.Files.told c.args.files.now) c.pieces.invariant.front (known_before (ReadsSome (g.F.Files.label_of c.args.handle.now) (c.args.offset + c.pieces.done) c.read_at.new.into c.in-Ok.count) (g.F.Files.told c.args.files.now) (g.F.Files.told c.pieces.files) c.pieces.invariant.told c.in-Ok.ensures.bytes)
      (λ d was reads used. front_filled _ c.args.offset c.pieces.done c.in-Ok.count c.pieces.into c.read_at.new.into _ c.pieces.invariant.within c.in-Ok.ensures.bound.0 (was used) (reads used));
}
