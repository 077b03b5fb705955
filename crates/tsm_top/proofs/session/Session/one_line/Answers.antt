use Rattle.tsm_top.proofs.OneLine.{comes_to}
use Rattle.tsm_top.proofs.session.Session.one_line.Goals as goal

pub returns-clause-comes : goal.returns-clause-comes
returns-clause-comes g c = λ m rests.
    comes_to g.S.Store.told g.S.Store.moment_of g.S.Store.faults_of g.T.Tree.files g.T.Tree.fault_count g.met.S.Store.clock
    (record { only = c.lines_change_their_tree.ensures.only; written = c.lines_change_their_tree.ensures.written; erased = c.lines_change_their_tree.ensures.erased })
    c.runs_are_alone.ensures.goes c.halls_at_rest_are_there.ensures c.trusted_halls_are_safe.ensures c.halls_leave_sound_stores.ensures ⊥
    (λ actor events old new at is known ran. (let r = c.runs_are_alone.ensures.alone actor events old new at is ran in (r.0, r.1, r.2, (λ f. absurd f), r.3)))
    c.lines_come_to.ensures.answered_unknown c.lines_come_to.ensures.ended_unknown c.answered_lines_hold.ensures.unknown
    c.args.self.now c.answer_noted.new.self c.args.number c.args.line.now c.rows_ascend.ensures m rests (λ f. absurd f) c.answer_noted.result c.answer_noted.ensures.served c.answer_noted.ensures.halted

pub returns-clause-exact : goal.returns-clause-exact
returns-clause-exact g c = λ m rests trusted.
    comes_to g.S.Store.told g.S.Store.moment_of g.S.Store.faults_of g.T.Tree.files g.T.Tree.fault_count g.met.S.Store.clock
    (record { only = c.lines_change_their_tree.ensures.only; written = c.lines_change_their_tree.ensures.written; erased = c.lines_change_their_tree.ensures.erased })
    c.runs_are_alone.ensures.goes c.halls_at_rest_are_there.ensures c.trusted_halls_are_safe.ensures c.halls_leave_sound_stores.ensures (Unit {0})
    (λ actor events old new at is known ran. (let r = c.runs_are_alone.ensures.exact actor events old new at is (known tt) ran in (r.0, r.1, r.2, (λ t. r.3), r.4)))
    c.lines_come_to.ensures.answered c.lines_come_to.ensures.ended c.answered_lines_hold.ensures.trusted
    c.args.self.now c.answer_noted.new.self c.args.number c.args.line.now c.rows_ascend.ensures m rests (λ t. trusted) c.answer_noted.result c.answer_noted.ensures.served c.answer_noted.ensures.halted
