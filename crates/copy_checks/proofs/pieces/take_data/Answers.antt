use Rattle.std.proofs.Common.{◌≡◌, ◌+◌, ◌∙◌, ℕ, Bool, false, rules}
use Rattle.log_file.proofs.Told.{onward_then}
use Rattle.copy_checks.specs.Looks.{TakesData, TakesNext}
use Rattle.copy_checks.proofs.Seeing.{looks_failed, saw_then}
use Rattle.copy_checks.proofs.Taking.{TakenTo, taken_more, taken_short}
use Rattle.copy_checks.proofs.pieces.take_data.Goals as goal

pub returns-in-Ok-eq0-clause-told : goal.returns-in-Ok-eq0-clause-told
returns-in-Ok-eq0-clause-told g c =
    let s = c.args.segment.now in
    saw_then _ _ _ (λ image. TakenTo (image s.file) s c.pieces.done c.args.hasher.now c.pieces.hasher) (λ image. TakesNext (image s.file) s c.pieces.done c.in-Ok-eq0.field-0 c.pieces.hasher c.take_next.new.hasher)
    (λ image. TakesData (image s.file) s c.args.hasher.now c.take_next.new.hasher false)
    (λ image taken next. taken_short (image s.file) s c.pieces.done c.in-Ok-eq0.field-0 c.args.hasher.now c.pieces.hasher c.take_next.new.hasher (search rules) next) c.pieces.invariant.told c.in-Ok-eq0.ensures.told

pub pieces-preserved : goal.pieces-preserved
pieces-preserved g c =
    let s = c.args.segment.now in
    record {
      told = saw_then _ _ _ (λ image. TakenTo (image s.file) s c.pieces.done c.args.hasher.now c.pieces.hasher) (λ image. TakesNext (image s.file) s c.pieces.done c.in-Ok.count c.pieces.hasher c.take_next.new.hasher)
          (λ image. TakenTo (image s.file) s (c.pieces.done + c.in-Ok.count) c.args.hasher.now c.take_next.new.hasher)
          (λ image taken next. taken_more (image s.file) s c.pieces.done c.in-Ok.count c.args.hasher.now c.pieces.hasher c.take_next.new.hasher taken next) c.pieces.invariant.told c.in-Ok.ensures.told;
      within = c.in-Ok.ensures.bound;
      long = c.take_next.ensures.long ∙ c.pieces.invariant.long;
      onward = onward_then _ _ _ _ _ _ c.pieces.invariant.onward c.take_next.ensures.onward;
    }

pub returns-in-Err-clause-told : goal.returns-in-Err-clause-told
returns-in-Err-clause-told g c =
    let s = c.args.segment.now in
    looks_failed ℕ Bool _ _ _ (λ image. TakenTo (image s.file) s c.pieces.done c.args.hasher.now c.pieces.hasher) (λ image count. TakesNext (image s.file) s c.pieces.done count c.pieces.hasher c.take_next.new.hasher)
    (λ image found. TakesData (image s.file) s c.args.hasher.now c.take_next.new.hasher found) c.in-Err.refused c.pieces.invariant.told c.in-Err.ensures.told
