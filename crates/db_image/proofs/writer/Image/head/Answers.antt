use Rattle.std.proofs.Common.{◌≡◌, ◌∙◌, min, ℕ, List, length, take, arith}
use Rattle.std.proofs.lemmas.List.{length-take}
use Rattle.store_api.specs.Told.{ReadsFrom}
use Rattle.log_file.proofs.Told.{looked_then, reads_both, back_reads}
use Rattle.db_image.proofs.Heads.{front_of, head_found}
use Rattle.db_image.proofs.writer.Image.head.Goals as goal

pub returns-in-Ok-read_piece-clause-looked : goal.returns-in-Ok-read_piece-clause-looked
returns-in-Ok-read_piece-clause-looked g c = looked_then _ _ _ c.in-Ok.ensures.looked c.read_piece.ensures.looked

pub returns-in-Ok-read_piece-clause-finds : goal.returns-in-Ok-read_piece-clause-finds
returns-in-Ok-read_piece-clause-finds g c =
    let told = g.S.Store.told c.args.store.now in
    let mid = g.S.Store.told c.file_len.new.store in
    let count = c.in-Ok-read_piece.count in
    let into = c.read_piece.new.into in
    let Reads : List ℕ → Type 0 = λ bytes. ReadsFrom bytes 0 into count in
    reads_both told c.args.file (λ bytes. c.in-Ok.len ≡ length bytes) Reads _ (λ bytes len reads.
    let many : count ≡ min 25 c.in-Ok.len = omega (arith, reads.many, len) in
    let front : take count into ≡ take 25 bytes = reads.same ∙ front_of bytes count c.in-Ok.len len many in
    head_found c.args.file c.args.mark bytes (take count into) c.in-Ok.len c.parse_head.result len c.in-Ok.ensures.len.0 front c.parse_head.ensures.within (c.parse_head.ensures.gives (omega (arith, many, length-take count into))))
    c.in-Ok.ensures.len.1 (back_reads told mid c.args.file Reads c.in-Ok.ensures.looked c.in-Ok-read_piece.ensures.bytes)

pub returns-in-Err-read_piece-clause-looked : goal.returns-in-Err-read_piece-clause-looked
returns-in-Err-read_piece-clause-looked g c = looked_then _ _ _ c.in-Ok.ensures.looked c.read_piece.ensures.looked
