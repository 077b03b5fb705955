use Rattle.std.proofs.Common.{◌≡◌, ℕ, length, arith}
use Rattle.std.proofs.lemmas.List.{length-map}
use Rattle.store_api.specs.declared.store.Failed.{Failed}
use Rattle.store_api.proofs.Runs.{told_map}
use Rattle.space.specs.declared.places.Placed.{Placed}
use Rattle.hall.specs.Frames.{segments_of}
use Rattle.hall.proofs.Frames.{lies_there}
use Rattle.hall.proofs.Syncs.{synced_done, synced_place, synced_place_fails}
use Rattle.hall.proofs.frame_calls.sync_files.Goals as goal

none : Placed
none = record { pool = 0; segment = record { file = 0; offset = 0; len = 0 } }

pub returns-in-Err-clause-told : goal.returns-in-Err-clause-told
unfolding none
returns-in-Err-clause-told g c =
    synced_place_fails c.args.places.now c.places.placed-index none c.places-test.true (Unit {0}) Failed (Unit {0}) ℕ c.in-Err.field-0 _ c.places.last _ _ _ c.places.invariant.told
    c.in-Err.ensures.told

pub returns-in-Err-clause-file : goal.returns-in-Err-clause-file
unfolding none
returns-in-Err-clause-file g c = lies_there c.args.places.now c.places.placed-index none c.places-test.true

pub places-preserved : goal.places-preserved
unfolding none
places-preserved g c =
    let inv = c.places.invariant in
    record {
      told = synced_place c.args.places.now c.places.placed-index none c.places-test.true (Unit {0}) Failed tt c.places.last _ _ _ inv.told c.in-Ok.ensures.told;
      time = omega (arith, inv.time, c.sync_once.ensures.time);
      later = omega (arith, inv.later, c.sync_once.ensures.later);
      counts = λ file. omega (arith, inv.counts file, c.sync_once.ensures.counts file);
    }

pub returns-clause-told : goal.returns-clause-told
returns-clause-told g c =
    let all = segments_of c.args.places.now in
    let few : length all ≡ length c.args.places.now = length-map c.args.places.now (λ (p : Placed). p.segment) in
    told_map _ _ _ _ (λ old new b. synced_done {T = Unit {0}} {E = ℕ} all c.places.placed-index c.places.last tt old new (omega (arith, few, c.places-test.false)) b) c.places.invariant.told
