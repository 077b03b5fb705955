use Rattle.std.proofs.Common.{List, refl, sym, subst}
use Rattle.block_results.specs.command_steps.Clients.{all_seen}
use Rattle.block_results.specs.line_jobs.Ran.{RanLines}
use Rattle.block_results.specs.line_jobs.declared.job.Said.{Said}
use Rattle.tsm_top.proofs.Blocked.{block_ends, block_ran, err_of, jobs_end, ok_of, ran_block}
use Rattle.tsm_top.proofs.block.run_block.Goals as goal

pub returns-in-Ok-clause-served : goal.returns-in-Ok-clause-served
returns-in-Ok-clause-served g c =
    block_ran g.S.Store.told g.S.Store.moment_of g.S.Store.faults_of g.T.Tree.files g.T.Tree.fault_count c.args.session (record { hall = c.run_lines-hall.result.hall; trees = c.run_lines-hall.result.trees; binder = c.args.session.binder; buffer = c.args.session.buffer; notes = c.args.session.notes }) c.answer_jobs-answer.new.self c.args.block.now c.args.first c.number-before.result c.args.number c.as_slice.result.now c.answer_jobs-answer.result c.number-before.ensures
    (ran_block g.S.Store.told g.S.Store.moment_of g.S.Store.faults_of g.T.Tree.files g.T.Tree.fault_count c.args.session (record { hall = c.run_lines-hall.result.hall; trees = c.run_lines-hall.result.trees; binder = c.args.session.binder; buffer = c.args.session.buffer; notes = c.args.session.notes }) c.args.block.now c.args.first c.lines.result.now c.jobs.result c.as_slice.result.now c.lines.ensures c.jobs.ensures.jobs
    (subst (λ (said : List Said). RanLines g.S.Store.told g.S.Store.moment_of g.S.Store.faults_of c.args.session.binder c.lines.result.now c.jobs.result c.args.first c.args.session.hall c.run_lines-hall.result.hall (all_seen g.T.Tree.files g.T.Tree.fault_count c.args.session.trees.items) said (all_seen g.T.Tree.files g.T.Tree.fault_count c.run_lines-hall.result.trees.items))
    (sym c.as_slice.ensures.value) (ok_of _ c.run_lines-hall.result.ended c.in-Ok.said c.in-Ok.is c.run_lines-hall.ensures.ran)) refl refl)
    c.answer_jobs-answer.ensures.served

pub returns-in-Ok-clause-halted : goal.returns-in-Ok-clause-halted
returns-in-Ok-clause-halted g c =
    block_ends g.S.Store.told g.S.Store.moment_of g.S.Store.faults_of g.T.Tree.files g.T.Tree.fault_count c.args.session (record { hall = c.run_lines-hall.result.hall; trees = c.run_lines-hall.result.trees; binder = c.args.session.binder; buffer = c.args.session.buffer; notes = c.args.session.notes }) c.answer_jobs-answer.new.self c.args.block.now c.args.first c.args.number c.as_slice.result.now c.answer_jobs-answer.result
    (ran_block g.S.Store.told g.S.Store.moment_of g.S.Store.faults_of g.T.Tree.files g.T.Tree.fault_count c.args.session (record { hall = c.run_lines-hall.result.hall; trees = c.run_lines-hall.result.trees; binder = c.args.session.binder; buffer = c.args.session.buffer; notes = c.args.session.notes }) c.args.block.now c.args.first c.lines.result.now c.jobs.result c.as_slice.result.now c.lines.ensures c.jobs.ensures.jobs
    (subst (λ (said : List Said). RanLines g.S.Store.told g.S.Store.moment_of g.S.Store.faults_of c.args.session.binder c.lines.result.now c.jobs.result c.args.first c.args.session.hall c.run_lines-hall.result.hall (all_seen g.T.Tree.files g.T.Tree.fault_count c.args.session.trees.items) said (all_seen g.T.Tree.files g.T.Tree.fault_count c.run_lines-hall.result.trees.items))
    (sym c.as_slice.ensures.value) (ok_of _ c.run_lines-hall.result.ended c.in-Ok.said c.in-Ok.is c.run_lines-hall.ensures.ran)) refl refl)
    c.answer_jobs-answer.ensures.halted

pub returns-in-Err-clause-halted : goal.returns-in-Err-clause-halted
returns-in-Err-clause-halted g c =
    jobs_end g.S.Store.told g.S.Store.moment_of g.S.Store.faults_of g.T.Tree.files g.T.Tree.fault_count c.args.session (record { hall = c.run_lines-hall.result.hall; trees = c.run_lines-hall.result.trees; binder = c.args.session.binder; buffer = c.args.session.buffer; notes = c.args.session.notes }) c.args.block.now c.args.first c.args.number c.lines.result.now c.jobs.result c.in-Err.how c.borne_out-how.result c.lines.ensures c.jobs.ensures.jobs
    (err_of _ c.run_lines-hall.result.ended c.in-Err.how c.in-Err.is c.run_lines-hall.ensures.ended) c.borne_out-how.ensures.same
    (c.borne_out-how.ensures.cause c.args.session.hall.store c.count_faults-counted.ensures.images.0 c.count_faults-counted.ensures.images.1 c.count_faults-counted.ensures.logs.0 c.count_faults-counted.ensures.logs.1) refl refl
