use Rattle.std.proofs.Common.{arith}
use Rattle.store_api.proofs.Runs.{told_then, told_map, goes_none}
use Rattle.vault.specs.Files.{IsOurs}
use Rattle.vault.proofs.Formatting.{First, IsClear, first_shut, both_shut, log_begun, not_cleared}
use Rattle.vault.proofs.format.clear.Goals as goal

pub returns-in-Err-clause-told : goal.returns-in-Err-clause-told
returns-in-Err-clause-told g c = told_map _ _ _ _ (λ h n shuts. not_cleared 0 0 h h n (omega arith) (goes_none IsOurs h) shuts.within.goes) c.in-Err.ensures.told

pub returns-in-Err-shut_gate-clause-told : goal.returns-in-Err-shut_gate-clause-told
returns-in-Err-shut_gate-clause-told g c =
    let first = told_map (g.S.Store.told c.args.store.now) (g.S.Store.told c.shut_gate.new.store) _ First (first_shut c.in-Ok.field-0) c.in-Ok.ensures.told in
    told_then (g.S.Store.told c.args.store.now) (g.S.Store.told c.shut_gate.new.store) (g.S.Store.told c.shut_gate-2.new.store) First _ _ (λ h k n f shuts. not_cleared 1 1 h k n (omega arith) f.goes shuts.within.goes) first c.in-Err-shut_gate.ensures.told

pub returns-in-Err-create-clause-told : goal.returns-in-Err-create-clause-told
returns-in-Err-create-clause-told g c =
    let first = told_map (g.S.Store.told c.args.store.now) (g.S.Store.told c.shut_gate.new.store) _ First (first_shut c.in-Ok.field-0) c.in-Ok.ensures.told in
    let both = told_then (g.S.Store.told c.args.store.now) (g.S.Store.told c.shut_gate.new.store) (g.S.Store.told c.shut_gate-2.new.store) First _ IsClear (both_shut c.in-Ok-shut_gate.field-0) first c.in-Ok-shut_gate.ensures.told in
    told_then (g.S.Store.told c.args.store.now) (g.S.Store.told c.shut_gate-2.new.store) (g.S.Store.told c.create.new.store) IsClear _ _ (λ h k n f begins. not_cleared 2 2 h k n (omega arith) f.goes begins.goes) both c.in-Err-create.ensures.told

pub returns-in-Ok-create-2-clause-told : goal.returns-in-Ok-create-2-clause-told
returns-in-Ok-create-2-clause-told g c =
    let first = told_map (g.S.Store.told c.args.store.now) (g.S.Store.told c.shut_gate.new.store) _ First (first_shut c.in-Ok.field-0) c.in-Ok.ensures.told in
    let both = told_then (g.S.Store.told c.args.store.now) (g.S.Store.told c.shut_gate.new.store) (g.S.Store.told c.shut_gate-2.new.store) First _ IsClear (both_shut c.in-Ok-shut_gate.field-0) first c.in-Ok-shut_gate.ensures.told in
    let more = told_then (g.S.Store.told c.args.store.now) (g.S.Store.told c.shut_gate-2.new.store) (g.S.Store.told c.create.new.store) IsClear _ IsClear (λ h k n f begins. log_begun _ 2 h k n (omega arith) (omega arith) f begins) both c.in-Ok-create.ensures.told in
    told_then (g.S.Store.told c.args.store.now) (g.S.Store.told c.create.new.store) (g.S.Store.told c.create-2.new.store) IsClear _ _ (λ h k n f begins. log_begun _ 3 h k n (omega arith) (omega arith) f begins) more c.in-Ok-create-2.ensures.told

pub returns-in-Err-create-2-clause-told : goal.returns-in-Err-create-2-clause-told
returns-in-Err-create-2-clause-told g c =
    let first = told_map (g.S.Store.told c.args.store.now) (g.S.Store.told c.shut_gate.new.store) _ First (first_shut c.in-Ok.field-0) c.in-Ok.ensures.told in
    let both = told_then (g.S.Store.told c.args.store.now) (g.S.Store.told c.shut_gate.new.store) (g.S.Store.told c.shut_gate-2.new.store) First _ IsClear (both_shut c.in-Ok-shut_gate.field-0) first c.in-Ok-shut_gate.ensures.told in
    let more = told_then (g.S.Store.told c.args.store.now) (g.S.Store.told c.shut_gate-2.new.store) (g.S.Store.told c.create.new.store) IsClear _ IsClear (λ h k n f begins. log_begun _ 2 h k n (omega arith) (omega arith) f begins) both c.in-Ok-create.ensures.told in
    told_then (g.S.Store.told c.args.store.now) (g.S.Store.told c.create.new.store) (g.S.Store.told c.create-2.new.store) IsClear _ _ (λ h k n f begins. not_cleared 3 3 h k n (omega arith) f.goes begins.goes) more c.in-Err-create-2.ensures.told
