use Rattle.std.proofs.Common.{◌^◌, ◌∙◌, ap, arith, drop, length, refl, subst, sym, take}
use Rattle.std.specs.List.{AllByRecursion}
use Rattle.std.proofs.lemmas.Bool.{ltb-true}
use Rattle.inventory_rows.specs.State.{inv_of}
use Rattle.machine.specs.Pieces.{piece_length}
use Rattle.hall.specs.Reading.{HasPiece, calls_for}
use Rattle.hall.proofs.Having.{all_have, few_calls}
use Rattle.hall.proofs.PieceReads.{in_size, version_read}
use Rattle.hall.proofs.reading.read_version.Goals as goal

pub read_any-requires-clause-pieces : goal.read_any-requires-clause-pieces
read_any-requires-clause-pieces g c =
    let w = c.args.version.now in
    let count = c.piece_length-count.result in
    let many = length (take count c.args.into.now) in
    let is = c.piece_length-count.ensures ∙ ap (λ n. piece_length (length c.args.into.now) n c.args.offset) c.bytes.ensures.value in
    let small = ltb-true w.size (2 ^ 44) c.bytes.ensures.grammar in
    subst (AllByRecursion (HasPiece (inv_of c.args.tables.now) c.args.offset many)) (sym c.as_slice-copies.ensures.value)
    (all_have (inv_of c.args.tables.now) w c.args.offset many c.requires.valid c.requires.there (in_size (length c.args.into.now) w.size c.args.offset count c.args.into.now refl is c.requires.within).1
    (omega (arith, small)))

pub read_any-requires-clause-time : goal.read_any-requires-clause-time
read_any-requires-clause-time g c =
    let w = c.args.version.now in
    let many = length (take c.piece_length-count.result c.args.into.now) in
    let few = few_calls (inv_of c.args.tables.now) w c.args.offset many c.requires.valid c.requires.there in
    let same = ap (calls_for c.args.offset many) c.as_slice-copies.ensures.value in
    omega (arith, few, same, c.requires.time)

pub returns-then-read_any-clause-told : goal.returns-then-read_any-clause-told
returns-then-read_any-clause-told g c =
    let w = c.args.version.now in
    let count = c.piece_length-count.result in
    let is = c.piece_length-count.ensures ∙ ap (λ n. piece_length (length c.args.into.now) n c.args.offset) c.bytes.ensures.value in
    version_read w c.as_slice-copies.result.now c.args.offset count c.read_any.new.into (drop count c.args.into.now) c.read_any.result _ _ c.as_slice-copies.ensures.value
    (c.read_any.ensures.len ∙ (in_size (length c.args.into.now) w.size c.args.offset count c.args.into.now refl is c.requires.within).0) c.if-read_any.true c.read_any.ensures.told

pub returns-then-read_any-clause-brief : goal.returns-then-read_any-clause-brief
returns-then-read_any-clause-brief g c =
    let many = length (take c.piece_length-count.result c.args.into.now) in
    let few = few_calls (inv_of c.args.tables.now) c.args.version.now c.args.offset many c.requires.valid c.requires.there in
    let same = ap (calls_for c.args.offset many) c.as_slice-copies.ensures.value in
    omega (arith, few, same, c.read_any.ensures.brief)

pub returns-else-read_any-clause-brief : goal.returns-else-read_any-clause-brief
returns-else-read_any-clause-brief g c =
    let many = length (take c.piece_length-count.result c.args.into.now) in
    let few = few_calls (inv_of c.args.tables.now) c.args.version.now c.args.offset many c.requires.valid c.requires.there in
    let same = ap (calls_for c.args.offset many) c.as_slice-copies.ensures.value in
    omega (arith, few, same, c.read_any.ensures.brief)
