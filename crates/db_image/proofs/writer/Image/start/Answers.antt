use Rattle.std.proofs.Common.{◌≡◌, ◌∙◌, ℕ, List, length, Result, Ok, Err, ap, subst, arith}
use Rattle.store_api.specs.declared.store.Failed.{Failed}
use Rattle.store_api.specs.Disk.{History}
use Rattle.store_api.specs.Runs.{Wrote}
use Rattle.store_api.specs.Told.{Told}
use Rattle.store_api.proofs.Runs.{told_map, told_then}
use Rattle.db_image.specs.declared.phase.Phase.TheVariants.{Failed as Stuck}
use Rattle.db_image.specs.Images.{head_bytes}
use Rattle.db_image.specs.Steps.{Shut, Started, at_phase}
use Rattle.db_image.proofs.Opening.{as_job}
use Rattle.db_image.proofs.Starting.{not_shut, no_head, started}
use Rattle.db_image.proofs.writer.Image.start.Goals as goal

pub returns-in-Err-clause-told : goal.returns-in-Err-clause-told
returns-in-Err-clause-told g c =
    let i = c.self.inside in
    let job = as_job i.file i.mark i.number i.payload.items i.phase in
    subst (λ image. Told (g.S.Store.told c.args.store.now) (g.S.Store.told c.shut_gate.new.store) (Started image (at_phase Stuck job) (Err c.in-Err.failed))) c.self.view_is
    (told_map _ _ _ _ (not_shut job c.in-Err.failed c.in-Err.failed) c.in-Err.ensures.told)

pub returns-in-Ok-write_within-clause-told : goal.returns-in-Ok-write_within-clause-told
returns-in-Ok-write_within-clause-told g c =
    let i = c.self.inside in
    let job = as_job i.file i.mark i.number i.payload.items i.phase in
    let len : c.len.result ≡ length i.payload.items = omega arith in
    let head = c.head_of-head.ensures ∙ ap (head_bytes i.mark i.number) len in
    let first : Result (Unit {0}) Failed = Ok c.in-Ok.field-0 in
    let second : Result (Unit {0}) Failed = Ok c.in-Ok-write_within.field-0 in
    let Two : History → History → Type 0 = λ old then. (mid : History) × Shut i.file first old mid × Wrote i.file 1 (head_bytes i.mark i.number (length i.payload.items)) second mid then in
    subst (λ image. Told (g.S.Store.told c.args.store.now) (g.S.Store.told c.put.new.store) (Started image c.put.new.self c.put.result)) c.self.view_is
    (told_then _ _ _ Two _ _ (λ old then new two put. started job c.in-Ok.field-0 old two.0 two.1 c.in-Ok-write_within.field-0 c.put.new.self c.put.result then new two.2 put)
    (told_then _ _ _ _ _ Two (λ old mid then shut wrote. (mid, shut, wrote)) c.in-Ok.ensures.told
    (subst (λ (l : List ℕ). Told (g.S.Store.told c.shut_gate.new.store) (g.S.Store.told c.write_within.new.store) (Wrote i.file 1 l second)) head c.in-Ok-write_within.ensures.told))
    c.put.ensures.told)

pub returns-in-Err-write_within-clause-told : goal.returns-in-Err-write_within-clause-told
returns-in-Err-write_within-clause-told g c =
    let i = c.self.inside in
    let job = as_job i.file i.mark i.number i.payload.items i.phase in
    let len : c.len.result ≡ length i.payload.items = omega arith in
    let head = c.head_of-head.ensures ∙ ap (head_bytes i.mark i.number) len in
    subst (λ image. Told (g.S.Store.told c.args.store.now) (g.S.Store.told c.write_within.new.store) (Started image (at_phase Stuck job) (Err c.in-Err-write_within.failed))) c.self.view_is
    (told_then _ _ _ _ _ _ (λ old mid new shut wrote. no_head job c.in-Ok.field-0 old mid shut c.in-Err-write_within.failed c.in-Err-write_within.failed new wrote) c.in-Ok.ensures.told
    (subst (λ (l : List ℕ). Told (g.S.Store.told c.shut_gate.new.store) (g.S.Store.told c.write_within.new.store) (Wrote {T = Unit {0}} i.file 1 l (Err c.in-Err-write_within.failed))) head c.in-Err-write_within.ensures.told))
