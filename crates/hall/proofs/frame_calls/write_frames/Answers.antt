use Rattle.std.proofs.Common.{◌≡◌, ℕ, length, arith}
use Rattle.std.proofs.lemmas.List.{length-map}
use Rattle.store_api.specs.declared.store.Failed.{Failed}
use Rattle.store_api.proofs.Runs.{told_map}
use Rattle.space.specs.declared.places.Placed.{Placed}
use Rattle.hall.specs.Frames.{segments_of}
use Rattle.hall.proofs.Frames.{begins_next, behind_done, behind_place, behind_place_fails, lies_there, start_ends}
use Rattle.hall.proofs.frame_calls.write_frames.Goals as goal

none : Placed
none = record { pool = 0; segment = record { file = 0; offset = 0; len = 0 } }

pub write_over-requires-clause-end : goal.write_over-requires-clause-end
unfolding none
write_over-requires-clause-end g c = omega (arith, begins_next c.args.places.now c.places.number none c.places-test.true c.places.start c.places.invariant.begins, c.requires.long)

pub overflow_add-start : goal.overflow_add-start
unfolding none
overflow_add-start g c = omega (arith, begins_next c.args.places.now c.places.number none c.places-test.true c.places.start c.places.invariant.begins, c.requires.long)

pub returns-in-Err-clause-told : goal.returns-in-Err-clause-told
unfolding none
returns-in-Err-clause-told g c =
    behind_place_fails c.args.places.now c.places.number none c.places-test.true c.args.object c.args.count c.places.start c.args.bytes.now c.places.invariant.begins (Unit {0}) Failed (Unit {0}) ℕ
    c.in-Err.field-0 _ _ _ _ c.places.invariant.told c.in-Err.ensures.told

pub returns-in-Err-clause-file : goal.returns-in-Err-clause-file
unfolding none
returns-in-Err-clause-file g c = lies_there c.args.places.now c.places.number none c.places-test.true

pub places-preserved : goal.places-preserved
unfolding none
places-preserved g c =
    let inv = c.places.invariant in
    record {
      told = behind_place c.args.places.now c.places.number none c.places-test.true c.args.object c.args.count c.places.start c.args.bytes.now inv.begins (Unit {0}) Failed tt _ _ _ inv.told
          c.in-Ok.ensures.told;
      begins = begins_next c.args.places.now c.places.number none c.places-test.true c.places.start inv.begins;
      time = omega (arith, inv.time, c.write_over.ensures.time);
      later = omega (arith, inv.later, c.write_over.ensures.later);
      counts = λ file. omega (arith, inv.counts file, c.write_over.ensures.counts file);
    }

pub returns-clause-told : goal.returns-clause-told
returns-clause-told g c =
    let all = segments_of c.args.places.now in
    let few : length all ≡ length c.args.places.now = length-map c.args.places.now (λ (p : Placed). p.segment) in
    let end = start_ends all c.places.number c.places.start (omega (arith, few, c.places-test.false)) c.places.invariant.begins in
    told_map _ _ _ _
    (λ old new b. behind_done {T = Unit {0}} {E = ℕ} c.args.object c.args.count all c.places.number c.places.start c.args.bytes.now tt old new (omega (arith, end, c.requires.room)) b) c.places.invariant.told
