use Rattle.std.proofs.Common.{◌≡◌, ◌+◌, ◌∙◌, ◌∷◌, ap, drop, false, get_or, List, ℕ, subst, true, Bool, rules}
use Rattle.kinds.specs.declared.segment.Segment.{Segment}
use Rattle.log_file.proofs.Told.{onward_then}
use Rattle.copy_checks.specs.Looks.{TakesCopy, TakesSegment}
use Rattle.copy_checks.proofs.Seeing.{looks_failed, saw_then}
use Rattle.copy_checks.proofs.Taking.{Passed, next_segment, passed_failed, passed_more}
use Rattle.copy_checks.proofs.copies.take_copy.Goals as goal

pub returns-in-Ok-false-clause-told : goal.returns-in-Ok-false-clause-told
returns-in-Ok-false-clause-told g c =
    let all = c.args.segments.now in
    let i = c.segments.segment-index in
    let d : Segment = record { file = 0; offset = 0; len = 0 } in
    let s : Segment = get_or all i d in
    saw_then _ _ _ (λ image. Passed image c.args.object all c.segments.number (drop i all) c.args.hasher.now c.segments.hasher)
    (λ image. TakesSegment (image s.file) c.args.object c.segments.number s c.segments.hasher c.take_segment.new.hasher c.in-Ok-false.field-0)
    (λ image. TakesCopy image c.args.object 0 all c.args.hasher.now c.take_segment.new.hasher false)
    (λ image passed takes.
    passed_failed image c.args.object all c.segments.number s (drop (i + 1) all) c.args.hasher.now c.segments.hasher c.take_segment.new.hasher
    (subst (λ (l : List Segment). Passed image c.args.object all c.segments.number l c.args.hasher.now c.segments.hasher) (next_segment all i d c.segments-test.true) passed)
    (subst (λ (b : Bool). TakesSegment (image s.file) c.args.object c.segments.number s c.segments.hasher c.take_segment.new.hasher b) c.in-Ok-false.field-0-test takes))
    c.segments.invariant.told c.in-Ok-false.ensures.told

pub returns-in-Err-clause-told : goal.returns-in-Err-clause-told
returns-in-Err-clause-told g c =
    let all = c.args.segments.now in
    let i = c.segments.segment-index in
    let d : Segment = record { file = 0; offset = 0; len = 0 } in
    let s : Segment = get_or all i d in
    looks_failed Bool Bool _ _ _ (λ image. Passed image c.args.object all c.segments.number (drop i all) c.args.hasher.now c.segments.hasher)
    (λ image found. TakesSegment (image s.file) c.args.object c.segments.number s c.segments.hasher c.take_segment.new.hasher found)
    (λ image found. TakesCopy image c.args.object 0 all c.args.hasher.now c.take_segment.new.hasher found) c.in-Err.refused c.segments.invariant.told c.in-Err.ensures.told

pub segments-preserved : goal.segments-preserved
segments-preserved g c =
    let all = c.args.segments.now in
    let i = c.segments.segment-index in
    let d : Segment = record { file = 0; offset = 0; len = 0 } in
    let s : Segment = get_or all i d in
    record {
      told = saw_then _ _ _ (λ image. Passed image c.args.object all c.segments.number (drop i all) c.args.hasher.now c.segments.hasher)
          (λ image. TakesSegment (image s.file) c.args.object c.segments.number s c.segments.hasher c.take_segment.new.hasher c.in-Ok-true.field-0)
          (λ image. Passed image c.args.object all (c.segments.number + 1) (drop (i + 1) all) c.args.hasher.now c.take_segment.new.hasher)
          (λ image passed takes.
          passed_more image c.args.object all c.segments.number s (drop (i + 1) all) c.args.hasher.now c.segments.hasher c.take_segment.new.hasher
          (subst (λ (l : List Segment). Passed image c.args.object all c.segments.number l c.args.hasher.now c.segments.hasher) (next_segment all i d c.segments-test.true) passed)
          (subst (λ (b : Bool). TakesSegment (image s.file) c.args.object c.segments.number s c.segments.hasher c.take_segment.new.hasher b) c.in-Ok-true.field-0-test takes))
          c.segments.invariant.told c.in-Ok-true.ensures.told;
      number = ap (λ (n : ℕ). n + 1) c.segments.invariant.number;
      long = c.take_segment.ensures.long ∙ c.segments.invariant.long;
      onward = onward_then _ _ _ _ _ _ c.segments.invariant.onward c.take_segment.ensures.onward;
    }
