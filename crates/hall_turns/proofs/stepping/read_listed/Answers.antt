use Rattle.std.proofs.Common.{◌∙◌, ℕ, List, Result, Ok, ap, length, refl, sym}
use Rattle.kinds.specs.declared.refusal.Refusal.{Refusal}
use Rattle.hall_turns.proofs.Valued.{as_read, cut_back, unread}
use Rattle.hall_turns.proofs.stepping.read_listed.Goals as goal

pub returns-in-Err-clause-step : goal.returns-in-Err-clause-step
returns-in-Err-clause-step g c = unread g.S.Store.told g.S.Store.moment_of g.S.Store.faults_of c.args.actor c.args.object c.args.kept.now c.args.from c.args.offset c.args.hall.now c.args.wanted

pub returns-in-Ok-read_piece-clause-step : goal.returns-in-Ok-read_piece-clause-step
returns-in-Ok-read_piece-clause-step g c =
    as_read g.S.Store.told g.S.Store.moment_of g.S.Store.faults_of c.args.actor c.args.object c.args.kept.now c.args.from c.args.offset c.args.hall.now c.read_piece.new.self (length c.deref_mut.result.now)
    c.buffer_length.result c.args.wanted _ (Ok c.from_vec.result) (ap length c.deref_mut.ensures.value ∙ c.in-Ok.ensures) c.buffer_length.ensures
    (sym (ap (λ (l : List ℕ). let r : Result (List ℕ) Refusal = Ok l in r) (c.from_vec.ensures ∙ c.truncate.ensures.items ∙
    cut_back c.in-Ok-read_piece.count c.in-Ok.buffer.len c.read_piece.new.into c.in-Ok.buffer.items (c.in-Ok-read_piece.ensures.len ∙ ap length c.deref_mut.ensures.value)
    (sym (ap length c.deref_mut.ensures.value) ∙ c.deref_mut.ensures.len)))) c.in-Ok-read_piece.ensures.step

pub returns-in-Err-read_piece-clause-step : goal.returns-in-Err-read_piece-clause-step
returns-in-Err-read_piece-clause-step g c =
    as_read g.S.Store.told g.S.Store.moment_of g.S.Store.faults_of c.args.actor c.args.object c.args.kept.now c.args.from c.args.offset c.args.hall.now c.read_piece.new.self (length c.deref_mut.result.now)
    c.buffer_length.result c.args.wanted _ _ (ap length c.deref_mut.ensures.value ∙ c.in-Ok.ensures) c.buffer_length.ensures refl c.in-Err-read_piece.ensures.step
