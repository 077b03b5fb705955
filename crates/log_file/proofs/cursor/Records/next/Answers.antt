use Rattle.std.proofs.Common.{◌+◌, ℕ, Bool, true, Option, Ok, Err, None, Some, sym, subst, refl}
use Rattle.store_api.specs.Told.{Told}
use Rattle.log_file.specs.Cursor.{Place, Shows}
use Rattle.log_file.specs.Starts.{Advanced}
use Rattle.log_file.specs.Windows.{IfReads, HeadIs}
use Rattle.log_file.proofs.Told.{looked_then}
use Rattle.log_file.proofs.Advancing.{advanced_by, step_end, step_refused, step_record, step_stopped}
use Rattle.log_file.proofs.cursor.Records.next.Goals as goal

pub returns-in-Ok-clause-told : goal.returns-in-Ok-clause-told
returns-in-Ok-clause-told g c =
    let old = g.S.Store.told c.args.store.now in
    let mid = g.S.Store.told c.head.new.store in
    let new = g.S.Store.told c.payload.new.store in
    let cursor : Place = record { held = c.self.inside.window; at = c.self.inside.at; ended = c.self.inside.ended } in
    let next : Place = record { held = c.payload.new.self; at = c.self.inside.at + 5 + c.in-Ok-Some.len; ended = c.self.inside.ended } in
    let head : IfReads old c.self.inside.window.file (λ bytes. Shows bytes c.self.inside.window → Shows bytes c.head.new.self × HeadIs bytes c.self.inside.at (Ok (Some c.in-Ok-Some.len))) =
    subst (λ (found : Option ℕ). IfReads old c.self.inside.window.file (λ bytes. Shows bytes c.self.inside.window → Shows bytes c.head.new.self × HeadIs bytes c.self.inside.at (Ok found))) c.in-Ok-Some.field-0-is c.in-Ok-Some.ensures.shows in
    subst (λ (place : Place). Told old new (Advanced place next (Ok (Some (record { at = c.self.inside.at; payload = c.in-Ok.payload }))))) c.self.view_is
    (subst (λ (ended : Bool). Told old new (Advanced cursor (record { held = c.payload.new.self; at = c.self.inside.at + 5 + c.in-Ok-Some.len; ended = ended }) (Ok (Some (record { at = c.self.inside.at; payload = c.in-Ok.payload }))))) (sym c.if-self.false)
    (advanced_by old new cursor _ _ (looked_then old mid new c.head.ensures.looked c.payload.ensures.looked)
    (step_record old mid cursor c.head.new.self c.payload.new.self c.in-Ok-Some.len (c.self.inside.at + 5 + c.in-Ok-Some.len) c.in-Ok.payload c.head.ensures.same.0 c.head.ensures.looked refl head c.in-Ok.ensures.shows c.in-Ok.ensures.bytes)))

pub returns-in-Err-payload-clause-told : goal.returns-in-Err-payload-clause-told
returns-in-Err-payload-clause-told g c =
    let old = g.S.Store.told c.args.store.now in
    let mid = g.S.Store.told c.head.new.store in
    let new = g.S.Store.told c.payload.new.store in
    let cursor : Place = record { held = c.self.inside.window; at = c.self.inside.at; ended = c.self.inside.ended } in
    let head : IfReads old c.self.inside.window.file (λ bytes. Shows bytes c.self.inside.window → Shows bytes c.head.new.self × HeadIs bytes c.self.inside.at (Ok (Some c.in-Ok-Some.len))) =
    subst (λ (found : Option ℕ). IfReads old c.self.inside.window.file (λ bytes. Shows bytes c.self.inside.window → Shows bytes c.head.new.self × HeadIs bytes c.self.inside.at (Ok found))) c.in-Ok-Some.field-0-is c.in-Ok-Some.ensures.shows in
    subst (λ (place : Place). Told old new (Advanced place (record { held = c.payload.new.self; at = c.self.inside.at; ended = c.self.inside.ended }) (Err c.in-Err-payload.refused))) c.self.view_is
    (advanced_by old new cursor (record { held = c.payload.new.self; at = c.self.inside.at; ended = c.self.inside.ended }) (Err c.in-Err-payload.refused) (looked_then old mid new c.head.ensures.looked c.payload.ensures.looked)
    (step_stopped old mid cursor c.head.new.self c.payload.new.self c.in-Ok-Some.len c.in-Err-payload.refused c.head.ensures.same.0 c.head.ensures.looked head c.in-Err-payload.ensures.shows))

pub returns-in-Ok-None-clause-told : goal.returns-in-Ok-None-clause-told
returns-in-Ok-None-clause-told g c =
    let old = g.S.Store.told c.args.store.now in
    let new = g.S.Store.told c.head.new.store in
    let cursor : Place = record { held = c.self.inside.window; at = c.self.inside.at; ended = c.self.inside.ended } in
    let head : IfReads old c.self.inside.window.file (λ bytes. Shows bytes c.self.inside.window → Shows bytes c.head.new.self × HeadIs bytes c.self.inside.at (Ok None)) =
    subst (λ (found : Option ℕ). IfReads old c.self.inside.window.file (λ bytes. Shows bytes c.self.inside.window → Shows bytes c.head.new.self × HeadIs bytes c.self.inside.at (Ok found))) c.in-Ok-None.field-0-is c.in-Ok-None.ensures.shows in
    subst (λ (place : Place). Told old new (Advanced place (record { held = c.head.new.self; at = c.self.inside.at; ended = true }) (Ok None))) c.self.view_is
    (advanced_by old new cursor _ _ c.head.ensures.looked (step_end old cursor c.head.new.self head))

pub returns-in-Err-clause-told : goal.returns-in-Err-clause-told
returns-in-Err-clause-told g c =
    let old = g.S.Store.told c.args.store.now in
    let new = g.S.Store.told c.head.new.store in
    let cursor : Place = record { held = c.self.inside.window; at = c.self.inside.at; ended = c.self.inside.ended } in
    subst (λ (place : Place). Told old new (Advanced place (record { held = c.head.new.self; at = c.self.inside.at; ended = c.self.inside.ended }) (Err c.in-Err.refused))) c.self.view_is
    (advanced_by old new cursor _ _ c.head.ensures.looked (step_refused old cursor c.head.new.self c.in-Err.refused c.in-Err.ensures.shows))
