use Rattle.std.proofs.Common.{◌≡◌, ◌∙◌, Bool, sym, length}
use Rattle.std.specs.Prelude.{nat_le}
use Rattle.volume_frames.specs.Frames.{data_end, piece}
use Rattle.copy_checks.specs.Copies.{is_header}
use Rattle.copy_checks.specs.Looks.{TakesData, TakesSegment}
use Rattle.copy_checks.proofs.Seeing.{looks_failed, looks_so, saw_then}
use Rattle.copy_checks.proofs.Taking.{segment_headless, segment_taken}
use Rattle.copy_checks.proofs.pieces.take_segment.Goals as goal

pub returns-in-Ok-false-has_header-clause-told : goal.returns-in-Ok-false-has_header-clause-told
returns-in-Ok-false-has_header-clause-told g c =
    let s = c.args.segment.now in
    saw_then _ _ _ (λ image. c.in-Ok-true.field-0 ≡ nat_le (data_end s) (length (image s.file))) (λ image. c.in-Ok-false-has_header.field-0 ≡ is_header (piece (image s.file) s.offset 32) c.args.object c.args.number s.len) _
    (λ image within header. segment_headless (image s.file) c.args.object c.args.number s c.args.hasher.now c.args.hasher.now (sym c.in-Ok-false-has_header.field-0-test ∙ header)) c.in-Ok-true.ensures.told c.in-Ok-false-has_header.ensures.told

pub returns-in-Err-has_header-clause-told : goal.returns-in-Err-has_header-clause-told
returns-in-Err-has_header-clause-told g c =
    let s = c.args.segment.now in
    looks_failed Bool Bool _ _ _ (λ image. c.in-Ok-true.field-0 ≡ nat_le (data_end s) (length (image s.file))) (λ image found. found ≡ is_header (piece (image s.file) s.offset 32) c.args.object c.args.number s.len)
    (λ image found. TakesSegment (image s.file) c.args.object c.args.number s c.args.hasher.now c.args.hasher.now found) c.in-Err-has_header.refused c.in-Ok-true.ensures.told c.in-Err-has_header.ensures.told

pub returns-clause-told : goal.returns-clause-told
returns-clause-told g c =
    let s = c.args.segment.now in
    looks_so _ _ _ _ _ (λ image. (c.in-Ok-true.field-0 ≡ nat_le (data_end s) (length (image s.file))) × (c.in-Ok-true-has_header.field-0 ≡ is_header (piece (image s.file) s.offset 32) c.args.object c.args.number s.len))
    (λ image found. TakesData (image s.file) s c.args.hasher.now c.take_data.new.hasher found) (λ image found. TakesSegment (image s.file) c.args.object c.args.number s c.args.hasher.now c.take_data.new.hasher found) c.take_data.result
    (λ image found tests takes. segment_taken (image s.file) c.args.object c.args.number s c.args.hasher.now c.take_data.new.hasher found (sym c.in-Ok-true.field-0-test ∙ tests.0) (sym c.in-Ok-true-has_header.field-0-test ∙ tests.1) takes)
    (saw_then _ _ _ (λ image. c.in-Ok-true.field-0 ≡ nat_le (data_end s) (length (image s.file))) (λ image. c.in-Ok-true-has_header.field-0 ≡ is_header (piece (image s.file) s.offset 32) c.args.object c.args.number s.len)
    (λ image. (c.in-Ok-true.field-0 ≡ nat_le (data_end s) (length (image s.file))) × (c.in-Ok-true-has_header.field-0 ≡ is_header (piece (image s.file) s.offset 32) c.args.object c.args.number s.len))
    (λ image within header. (within, header)) c.in-Ok-true.ensures.told c.in-Ok-true-has_header.ensures.told) c.take_data.ensures.told
