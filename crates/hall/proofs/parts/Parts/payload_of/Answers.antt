use Rattle.std.proofs.Common.{◌≡◌, None, Some, subst, sym}
use Rattle.std.specs.Prelude.{IfOk}
use Rattle.hall.specs.Backing.{IsHolding, begin_entry}
use Rattle.hall.proofs.Following.{each_some, holds_whole, legal_as}
use Rattle.hall.proofs.parts.Parts.payload_of.Goals as goal

pub whole_payload-requires : goal.whole_payload-requires
whole_payload-requires c = legal_as c.args.entry.now.actor c.args.after c.args.self.now c.args.entry.now c.requires.begins c.requires.free

pub returns-in-Some-clause-some : goal.returns-in-Some-clause-some
returns-in-Some-clause-some c = each_some (λ bytes. bytes.items) c.args.entry.now.actor (Some c.in-Some.file) c.args.self.now c.payload_behind.result c.payload_behind.ensures.holds

pub returns-in-None-clause-holds : goal.returns-in-None-clause-holds
returns-in-None-clause-holds c =
    subst (λ a. IfOk c.whole_payload.result (λ bytes. IsHolding c.args.entry.now.actor a c.args.self.now bytes.items)) (sym c.in-None.is)
    (holds_whole (λ bytes. bytes.items) c.args.self.now c.args.entry.now c.whole_payload.result (subst (λ a. c.args.entry.now ≡ begin_entry c.args.entry.now.actor a c.args.self.now) c.in-None.is c.requires.begins) c.whole_payload.ensures.spelled)

pub returns-in-None-clause-some : goal.returns-in-None-clause-some
returns-in-None-clause-some c =
    each_some (λ bytes. bytes.items) c.args.entry.now.actor None c.args.self.now c.whole_payload.result
    (holds_whole (λ bytes. bytes.items) c.args.self.now c.args.entry.now c.whole_payload.result (subst (λ a. c.args.entry.now ≡ begin_entry c.args.entry.now.actor a c.args.self.now) c.in-None.is c.requires.begins) c.whole_payload.ensures.spelled)
