use Rattle.std.proofs.Common.{List, ℕ, ap, refl, sym, ◌∙◌}
use Rattle.steps.specs.Events.Deed.{OpenNew, OpenCopy, WritePiece, CopyPiece, Seal, Commit, DropTicket, ReadPiece, Ask, Image, Reuse, Force}
use Rattle.steps.specs.declared.step.Step.TheVariants as step
use Rattle.hall_turns.proofs.stepping.step.Goals as goal

pub returns-in-OpenNew : goal.returns-in-OpenNew
returns-in-OpenNew g c = (OpenNew c.in-OpenNew.pool c.in-OpenNew.size c.in-OpenNew.prefer c.open_new.result, sym c.in-OpenNew.is, refl, c.open_new.ensures.step, c.open_new.ensures.goes)

pub returns-in-OpenCopy : goal.returns-in-OpenCopy
returns-in-OpenCopy g c = (OpenCopy c.in-OpenCopy.object c.in-OpenCopy.aim c.in-OpenCopy.avoid c.open_copy.result, sym c.in-OpenCopy.is, refl, c.open_copy.ensures.step, c.open_copy.ensures.goes)

pub returns-in-WritePiece : goal.returns-in-WritePiece
returns-in-WritePiece g c = (
  WritePiece c.in-WritePiece.ticket c.as_slice.result.now c.write_piece.result,
  ap (λ (b : List ℕ). step.WritePiece c.in-WritePiece.ticket b) c.as_slice.ensures ∙ sym c.in-WritePiece.is,
  refl,
  c.write_piece.ensures.step,
  c.write_piece.ensures.goes,
)

pub returns-in-CopyPiece : goal.returns-in-CopyPiece
returns-in-CopyPiece g c = (CopyPiece c.in-CopyPiece.ticket c.copy_piece.result, sym c.in-CopyPiece.is, refl, c.copy_piece.ensures.step, c.copy_piece.ensures.goes)

pub returns-in-Seal : goal.returns-in-Seal
returns-in-Seal g c = (Seal c.in-Seal.ticket c.seal.result, sym c.in-Seal.is, refl, c.seal.ensures.step, c.seal.ensures.goes)

pub returns-in-Commit : goal.returns-in-Commit
returns-in-Commit g c = (
  Commit c.in-Commit.asked c.as_slice-in-Commit.result.now c.commit.result,
  ap (λ (l : List ℕ). step.Commit c.in-Commit.asked l) c.as_slice-in-Commit.ensures ∙ sym c.in-Commit.is,
  refl,
  c.commit.ensures.step,
  c.commit.ensures.goes,
)

pub returns-in-DropTicket : goal.returns-in-DropTicket
returns-in-DropTicket g c = (DropTicket c.in-DropTicket.ticket c.drop_ticket.result, sym c.in-DropTicket.is, refl, c.drop_ticket.ensures.step, c.drop_ticket.ensures.goes)

pub returns-in-ReadPiece : goal.returns-in-ReadPiece
returns-in-ReadPiece g c = (ReadPiece c.in-ReadPiece.object c.in-ReadPiece.kept c.in-ReadPiece.from c.in-ReadPiece.offset c.in-ReadPiece.wanted c.read_listed.result, sym c.in-ReadPiece.is, refl, c.read_listed.ensures.step, c.read_listed.ensures.goes)

pub returns-in-Ask : goal.returns-in-Ask
returns-in-Ask g c = (Ask c.in-Ask.query c.ask.result, sym c.in-Ask.is, refl, c.ask.ensures.step, c.ask.ensures.goes)

pub returns-in-Image : goal.returns-in-Image
returns-in-Image g c = (Image c.in-Image.kind c.image.result, sym c.in-Image.is, refl, c.image.ensures.step, c.image.ensures.goes)

pub returns-in-Reuse : goal.returns-in-Reuse
returns-in-Reuse g c = (Reuse c.in-Reuse.file c.reuse.result, sym c.in-Reuse.is, refl, c.reuse.ensures.step, c.reuse.ensures.goes)

pub returns-in-Force : goal.returns-in-Force
returns-in-Force g c = (Force c.force.result, sym c.in-Force.is, refl, c.force.ensures.step, c.force.ensures.goes)
