use Rattle.std.proofs.Common.{◌∙◌, ⊎_elim, inl, inr, Option, ap, arith, subst, sym}
use Rattle.script_loop.specs.declared.ends.Halt.{Halt}
use Rattle.script_loop.proofs.Ranges.{written_back}
use Rattle.line_jobs.specs.Ran.{IsEnding}
use Rattle.line_jobs.specs.Rooms.{taken_in}
use Rattle.line_jobs.specs.Shares.{begun_jobs, given_back}
use Rattle.line_jobs.proofs.Gathering.{both_true}
use Rattle.line_jobs.proofs.Together.{ended, many_seats, map_err, map_ok, on_ok, ran}
use Rattle.line_jobs.proofs.run.run_lines.Goals as goal

pub run_block-hall-requires-after_bounds : goal.run_block-hall-requires-after_bounds
run_block-hall-requires-after_bounds g c κs within =
    let long = many_seats c.args.binder.now c.args.lines.now c.args.jobs c.len.result c.in-Ok.made.rooms.items c.as_mut_slice.result.now c.seat_all-seats.result.items c.seat_all-seats.ensures.jobs c.in-Ok.ensures.rooms in
    omega (arith, c.requires, c.seat_all-seats.result.ok, long)

pub gather-said-requires-clause-few : goal.gather-said-requires-clause-few
gather-said-requires-clause-few g c =
    let long = many_seats c.args.binder.now c.args.lines.now c.args.jobs c.len.result c.in-Ok.made.rooms.items c.as_mut_slice.result.now c.seat_all-seats.result.items c.seat_all-seats.ensures.jobs c.in-Ok.ensures.rooms in
    omega (arith, c.requires, c.run_block-hall.result.jobs.ok, c.run_block-hall.ensures.many, long)

pub returns-clause-ran : goal.returns-clause-ran
returns-clause-ran g c =
    let lines = c.args.lines.now in
    let before = c.as_mut_slice.result.now in
    let done = c.run_block-hall.result.jobs.items in
    let between = c.as_mut_slice-2.result.now in
    let behind = c.gather-said.new.trees in
    let back = c.all_back-trees.result.0 in
    map_ok _ _ c.come_to.result
    (λ said told.
    ran g.S.Store.told g.S.Store.moment_of g.S.Store.faults_of g.T.Tree.files g.T.Tree.fault_count c.args.binder.now lines c.args.jobs c.args.first c.args.hall c.run_block-hall.result.hall c.args.trees.items c.len.result
    (omega (arith, c.len.ensures, c.args.trees.ok)) c.seat_all-seats.result.items done before between behind back.items said.items
    (record {
      here = c.as_mut_slice.ensures.value ∙ c.all_here-places.ensures;
      begun = c.seat_all-seats.ensures.jobs ∙ ap (λ r. begun_jobs c.args.binder.now lines 0 (taken_in lines 0 r before)) c.in-Ok.ensures.rooms;
      lent = c.as_mut_slice-2.ensures.value ∙ written_back c.all_here-places.result.len c.seat_all-seats.new.trees _ (omega (arith, c.seat_all-seats.auto.trees, c.as_mut_slice.ensures.len)) ∙ c.seat_all-seats.ensures.trees
          ∙ ap (λ r. given_back lines 0 r before) c.in-Ok.ensures.rooms;
      given = c.gather-said.ensures.trees;
      came = on_ok _ c.run_block-hall.result.ended c.in-Ok-ended.field-0 c.in-Ok-ended.is c.run_block-hall.ensures.ran;
      same = c.run_block-hall.ensures.many;
    }) (sym (written_back c.all_here-places.result.len behind _ (omega (arith, c.gather-said.auto.trees, c.as_mut_slice-2.ensures.len))) ∙ c.all_back-trees.ensures told.2)
    (ap (λ v. v.items) told.3 ∙ c.gather-said.ensures.said (both_true c.gather-said.result.is_whole _ told.1).0) (sym c.gather-said.ensures.ended ∙ told.0))
    c.come_to.ensures.ok

pub returns-clause-ended : goal.returns-clause-ended
returns-clause-ended g c =
    let lines = c.args.lines.now in
    let before = c.as_mut_slice.result.now in
    let done = c.run_block-hall.result.jobs.items in
    let between = c.as_mut_slice-2.result.now in
    let behind = c.gather-said.new.trees in
    let back = c.all_back-trees.result.0 in
    map_err _ _ c.come_to.result
    (λ how told.
    ended g.S.Store.told g.S.Store.moment_of g.S.Store.faults_of g.T.Tree.files g.T.Tree.fault_count c.args.binder.now lines c.args.jobs c.args.first c.args.hall c.run_block-hall.result.hall c.args.trees.items c.len.result
    (omega (arith, c.len.ensures, c.args.trees.ok)) c.seat_all-seats.result.items done before between behind back.items how
    (record {
      here = c.as_mut_slice.ensures.value ∙ c.all_here-places.ensures;
      begun = c.seat_all-seats.ensures.jobs ∙ ap (λ r. begun_jobs c.args.binder.now lines 0 (taken_in lines 0 r before)) c.in-Ok.ensures.rooms;
      lent = c.as_mut_slice-2.ensures.value ∙ written_back c.all_here-places.result.len c.seat_all-seats.new.trees _ (omega (arith, c.seat_all-seats.auto.trees, c.as_mut_slice.ensures.len)) ∙ c.seat_all-seats.ensures.trees
          ∙ ap (λ r. given_back lines 0 r before) c.in-Ok.ensures.rooms;
      given = c.gather-said.ensures.trees;
      came = on_ok _ c.run_block-hall.result.ended c.in-Ok-ended.field-0 c.in-Ok-ended.is c.run_block-hall.ensures.ran;
      same = c.run_block-hall.ensures.many;
    })
    (⊎_elim (λ it. inl ((sym (written_back c.all_here-places.result.len behind _ (omega (arith, c.gather-said.auto.trees, c.as_mut_slice-2.ensures.len))) ∙ c.all_back-trees.ensures it.0), subst (λ (o : Option Halt). IsEnding o how) c.gather-said.ensures.ended it.1)) (λ wanted. inr wanted) told))
    c.come_to.ensures.err
