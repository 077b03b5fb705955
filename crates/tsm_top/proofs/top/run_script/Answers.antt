use Rattle.std.proofs.Common.{◌∙◌, refl, ap, None, Some}
use Rattle.tsm_top.proofs.Opening.{from}
use Rattle.tsm_top.proofs.top.run_script.Goals as goal

pub returns : goal.returns
returns g c =
    let done = from g.S.Store.told g.S.Store.moment_of g.S.Store.faults_of c.clocks_agree.ensures c.args.hall c.requires.fresh c.rows_ascend.ensures g.T.Tree.files g.T.Tree.fault_count
    (record { only = c.lines_change_their_tree.ensures.only; written = c.lines_change_their_tree.ensures.written; erased = c.lines_change_their_tree.ensures.erased })
    c.runs_are_alone.ensures.goes c.halls_at_rest_are_there.ensures (record { hall = c.args.hall; trees = c.args.trees; binder = c.args.binder; buffer = c.args.buffer; notes = c.new.result }) refl c.blocks_are_turns.ensures.goes (record { session = record { hall = c.args.hall; trees = c.args.trees; binder = c.args.binder; buffer = c.args.buffer; notes = c.new.result }; block = None; jobs = 0 }) c.answer_script-server.result.0 refl c.answer_script-server.result.1 _ _ _ c.answer_script-server.ensures.says c.answer_script-server.result.0.session refl
    c.new.ensures.items refl refl c.trusted_halls_are_safe.ensures c.halls_leave_sound_stores.ensures
    (λ actor events old new m is known ran. (let r = c.runs_are_alone.ensures.alone actor events old new m is ran in (r.0, r.1, r.2, (λ f. absurd f), r.3)))
    (λ actor events old new m is known ran. (let r = c.runs_are_alone.ensures.exact actor events old new m is (known tt) ran in (r.0, r.1, r.2, (λ t. r.3), r.4)))
    (λ turns old new m is known ran. (let r = c.blocks_are_turns.ensures.turned turns old new m is ran in (r.0, r.1, r.2, (λ f. absurd f), r.3, (λ f. absurd f))))
    (λ turns old new m is known ran. (let r = c.blocks_are_turns.ensures.exact turns old new m is (known tt) ran in (r.0, r.1, r.2, (λ t. r.3), r.4, (λ t. r.5))))
    c.lines_come_to.ensures.answered_unknown c.lines_come_to.ensures.answered c.lines_come_to.ensures.ended_unknown c.lines_come_to.ensures.ended c.answered_lines_hold.ensures.unknown c.answered_lines_hold.ensures.trusted
    c.requires.state.0 c.requires.state.1 c.close-store.result.store c.status.result c.close-store.result.journal.items c.close-store.result.stamps.items c.answer_script-server.result.0.session.notes.items c.generation-generation.result _
    c.close-store.ensures.store c.status.ensures c.answer_script-server.ensures.end c.close-store.ensures.journal c.close-store.ensures.stamps refl c.generation-generation.ensures in
    (c.answer_script-server.result.1, done.0, ap Some (c.close-store.ensures.base ∙ done.1), c.close-store.ensures.opened ∙ done.2 ∙ c.requires.fresh.opened, c.answer_script-server.ensures.source, c.answer_script-server.ensures.sink)
