use Rattle.std.proofs.Common.{◌≡◌, Ok, Err, Result, subst, arith}
use Rattle.store_api.specs.declared.store.Failed.{Failed}
use Rattle.store_api.specs.Runs.{Wrote}
use Rattle.store_api.proofs.Runs.{told_map, told_then}
use Rattle.hall.specs.Frames.{WrotePart}
use Rattle.hall.proofs.Frames.{part_first, part_further, part_unheaded}
use Rattle.hall.proofs.frame_calls.write_part.Goals as goal

pub returns-then-from-gt0-clause-told : goal.returns-then-from-gt0-clause-told
returns-then-from-gt0-clause-told g c =
    told_map _ _ _ _ (λ old new w. part_further c.args.object c.args.number c.args.segment.now c.args.from c.args.part.now c.write_data.result old new c.if-from-gt0.true c.requires.room c.requires.some w)
    c.write_data.ensures.told

pub returns-in-Ok-clause-told : goal.returns-in-Ok-clause-told
returns-in-Ok-clause-told g c =
    let s = c.args.segment.now in
    let part = c.args.part.now in
    let none : 0 ≡ c.args.from = omega (arith, c.if-from-gt0.false) in
    let first : Result (Unit {0}) Failed = Ok tt in
    told_then _ _ _ _ _ _
    (λ old mid new h w. subst (λ n. WrotePart c.args.object c.args.number s n part c.write_data-in-Ok.result old new) none
    (part_first c.args.object c.args.number s part tt old mid new (omega (arith, c.requires.room)) c.requires.some
    (subst (λ l. Wrote s.file s.offset l first old mid) c.frame_header-header.ensures.bytes h) c.write_data-in-Ok.result w)) c.in-Ok.ensures.told c.write_data-in-Ok.ensures.told

pub returns-in-Err-clause-told : goal.returns-in-Err-clause-told
returns-in-Err-clause-told g c =
    let s = c.args.segment.now in
    let part = c.args.part.now in
    let none : 0 ≡ c.args.from = omega (arith, c.if-from-gt0.false) in
    let first : Result (Unit {0}) Failed = Err c.in-Err.failed in
    let last : Result (Unit {0}) Failed = Err c.in-Err.failed in
    told_map _ _ _ _
    (λ old new h. subst (λ n. WrotePart c.args.object c.args.number s n part last old new) none
    (part_unheaded c.args.object c.args.number s part c.in-Err.failed c.in-Err.failed old new (subst (λ l. Wrote s.file s.offset l first old new) c.frame_header-header.ensures.bytes h)))
    c.in-Err.ensures.told
