use Rattle.std.proofs.Common.{◌≡◌, ◌∙◌, ◌+◌, ◌-◌, ◌++◌, ℕ, List, sym, ap, refl, arith}
use Rattle.std.proofs.lemmas.List.{append-nil}
use Rattle.space.specs.declared.piece.Piece.{Piece}
use Rattle.space.specs.Pieces.{scratch_pieces, filled}
use Rattle.space_index.proofs.Fills.{filled_none}
use Rattle.space_index.proofs.Serving.{scratch_step}
use Rattle.space_index.proofs.sequential.push_filled_scratch.Goals as goal

pub returns-then-left-eq0 : goal.returns-then-left-eq0
returns-then-left-eq0 c =
    let out = c.files.out.items in
    let free : List Piece = scratch_pieces c.args.capacity (c.args.count - c.files.i) (c.args.file + c.files.i) in
    sym (append-nil out) ∙ ap (λ (l : List Piece). out ++ l) (sym (filled_none free c.files.left c.if-left-eq0.true)) ∙ c.files.invariant

pub files-preserved : goal.files-preserved
files-preserved c =
    let p : Piece = record { file = c.args.file + c.files.i; offset = 0; room = c.min-bytes.result } in
    scratch_step c.args.capacity c.args.count c.files.i (c.files.left - c.min-bytes.result) c.files.left c.min-bytes.result c.args.file c.files.out.items c.push.new.self.items
    (c.args.out.now.items ++ filled c.args.rest (scratch_pieces c.args.capacity c.args.count c.args.file)) p (omega arith) c.if-left-eq0.false (omega (arith, c.min-bytes.ensures, c.saturating_sub-room.ensures)) refl c.in_ok-push.ensures.items refl c.files.invariant

pub returns : goal.returns
returns c =
    let out = c.files.out.items in
    let none : c.args.count - c.files.i ≡ 0 = omega arith in
    sym (append-nil out) ∙ ap (λ (n : ℕ). out ++ filled c.files.left (scratch_pieces c.args.capacity n (c.args.file + c.files.i))) (sym none) ∙ c.files.invariant
