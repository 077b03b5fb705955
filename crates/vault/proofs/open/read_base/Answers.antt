use Rattle.std.proofs.Common.{◌≡◌, ◌∙◌, ◌-◌, ◌≤◌, ◌^◌, true, refl, subst, arith, List, ℕ, Bool, Option, IfSome, IfNone, Ok, Vec, Global}
use Rattle.store_api.specs.Disk.{reads}
use Rattle.db_image.specs.declared.mark.Mark.TheVariants.{Server}
use Rattle.log_file.specs.Windows.{IfReads}
use Rattle.db_image.specs.Images.{HasImage}
use Rattle.db_image.specs.Reads.{FindsImage, SaysDamage}
use Rattle.entries.specs.Meaning.{Spells}
use Rattle.vault.specs.Recovery.{IsForeign}
use Rattle.vault.specs.Openings.{form_of}
use Rattle.vault.proofs.Finding.{reads_some, image_refused, payload_is, last_spent}
use Rattle.vault.proofs.open.read_base.Goals as goal

pub returns-in-Err-clause-finds : goal.returns-in-Err-clause-finds
returns-in-Err-clause-finds g c =
    reads_some (g.S.Store.told c.args.store.now) c.image_file-file.result (λ bytes. SaysDamage c.image_file-file.result Server bytes c.in-Err.refused) _
    (λ h says. image_refused g.D.Database.meaning (reads h) c.args.generation c.image_file-file.result c.image_file-file.ensures.value c.in-Err.refused (g.S.Store.faults_of c.args.store.now) (g.S.Store.faults_of c.read.new.store) (g.S.Store.moment_of c.read.new.store) c.in-Err.ensures.refused says) c.in-Err.ensures.finds

pub returns-in-Ok-Some-decode_base-clause-finds : goal.returns-in-Ok-Some-decode_base-clause-finds
returns-in-Ok-Some-decode_base-clause-finds g c =
    let file = c.image_file-file.result in
    let has = subst (λ (found : Option (ℕ × Vec ℕ Global)). IfReads (g.S.Store.told c.args.store.now) file (λ bytes. FindsImage file Server bytes (Ok found))) c.in-Ok-Some.field-0-is c.in-Ok-Some.ensures.finds in
    let found : Spells g.D.Database.meaning (form_of c.in-Ok-Some-decode_base.found.1) c.deref.result.now c.in-Ok-Some-decode_base.found.0 = subst (λ (o : Option (g.row.D.Denot × Bool)). IfSome o (λ f. Spells g.D.Database.meaning (form_of f.1) c.deref.result.now f.0)) c.in-Ok-Some-decode_base.field-0-is c.in-Ok-Some-decode_base.ensures.found in
    reads_some (g.S.Store.told c.args.store.now) file (λ bytes. HasImage file Server bytes c.in-Ok-Some.field-0-0-0 c.in-Ok-Some.payload.items) _
    (λ h image payload newest. subst (λ (p : List ℕ). Spells g.D.Database.meaning (form_of c.in-Ok-Some-decode_base.found.1) p c.in-Ok-Some-decode_base.found.0) (c.deref.ensures.value ∙ payload_is g.D.Database.meaning (reads h) c.args.generation file c.image_file-file.ensures.value c.in-Ok-Some.field-0-0-0 c.in-Ok-Some.payload.items payload image newest) found) has

pub returns-in-Ok-None-decode_base-clause-finds : goal.returns-in-Ok-None-decode_base-clause-finds
returns-in-Ok-None-decode_base-clause-finds g c =
    let file = c.image_file-file.result in
    let has = subst (λ (found : Option (ℕ × Vec ℕ Global)). IfReads (g.S.Store.told c.args.store.now) file (λ bytes. FindsImage file Server bytes (Ok found))) c.in-Ok-Some.field-0-is c.in-Ok-Some.ensures.finds in
    let none : IsForeign g.D.Database.meaning c.deref.result.now = subst (λ (o : Option (g.row.D.Denot × Bool)). IfNone o (IsForeign g.D.Database.meaning c.deref.result.now)) c.in-Ok-None-decode_base.field-0-is c.in-Ok-None-decode_base.ensures.none in
    reads_some (g.S.Store.told c.args.store.now) file (λ bytes. HasImage file Server bytes c.in-Ok-Some.field-0-0-0 c.in-Ok-Some.payload.items) _
    (λ h image payload newest. (
      c.image_file-file.ensures.value,
      refl,
      subst (λ (p : List ℕ). IsForeign g.D.Database.meaning p) (c.deref.ensures.value ∙ payload_is g.D.Database.meaning (reads h) c.args.generation file c.image_file-file.ensures.value c.in-Ok-Some.field-0-0-0 c.in-Ok-Some.payload.items payload image newest) none,
    )) has

pub returns-then-generation-ge-LAST-clause-finds : goal.returns-then-generation-ge-LAST-clause-finds
returns-then-generation-ge-LAST-clause-finds g c =
    let file = c.image_file-file.result in
    let has = subst (λ (found : Option (ℕ × Vec ℕ Global)). IfReads (g.S.Store.told c.args.store.now) file (λ bytes. FindsImage file Server bytes (Ok found))) c.in-Ok-Some.field-0-is c.in-Ok-Some.ensures.finds in
    let found : Spells g.D.Database.meaning (form_of c.in-Ok-Some-decode_base.found.1) c.deref.result.now c.in-Ok-Some-decode_base.found.0 = subst (λ (o : Option (g.row.D.Denot × Bool)). IfSome o (λ f. Spells g.D.Database.meaning (form_of f.1) c.deref.result.now f.0)) c.in-Ok-Some-decode_base.field-0-is c.in-Ok-Some-decode_base.ensures.found in
    let first : c.in-Ok-Some-decode_base.found.1 ≡ true = c.if-found.true in
    let last : 2 ^ 62 - 1 ≤ c.args.generation = c.if-generation-ge-LAST.true in
    reads_some (g.S.Store.told c.args.store.now) file (λ bytes. HasImage file Server bytes c.in-Ok-Some.field-0-0-0 c.in-Ok-Some.payload.items) _
    (λ h image payload newest. absurd (
    last_spent g.D.Database.meaning g.met.D.Database.is_meaning (reads h) c.args.generation payload c.in-Ok-Some-decode_base.found.0
    (subst (λ (b : Bool). Spells g.D.Database.meaning (form_of b) payload c.in-Ok-Some-decode_base.found.0) first (subst (λ (p : List ℕ). Spells g.D.Database.meaning (form_of c.in-Ok-Some-decode_base.found.1) p c.in-Ok-Some-decode_base.found.0)
    (c.deref.ensures.value ∙ payload_is g.D.Database.meaning (reads h) c.args.generation file c.image_file-file.ensures.value c.in-Ok-Some.field-0-0-0 c.in-Ok-Some.payload.items payload image newest) found)) (omega (arith, last)) newest)) has
