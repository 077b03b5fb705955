use Rattle.std.proofs.Common.{◌≡◌, ◌+◌, ◌≤◌, ℕ, List, length, take, drop, subst, Option, Ok}
use Rattle.log_file.specs.Windows.{NoDamage, IfReads}
use Rattle.log_file.proofs.Told.{looked_then, reads_both, back_reads}
use Rattle.db_image.specs.declared.head.Head.{Head}
use Rattle.db_image.specs.Images.{HasHead}
use Rattle.db_image.specs.Reads.{FindsHead}
use Rattle.db_image.proofs.Reading.{image_found, head_within, says_nothing}
use Rattle.db_image.proofs.writer.Image.read.Goals as goal

pub returns-in-Ok-clause-looked : goal.returns-in-Ok-clause-looked
returns-in-Ok-clause-looked g c = looked_then _ _ _ c.in-Ok-Some.ensures.looked c.read_payload.ensures.looked

pub returns-in-Ok-clause-finds : goal.returns-in-Ok-clause-finds
returns-in-Ok-clause-finds g c =
    let told = g.S.Store.told c.args.store.now in
    let file = c.args.file in
    let mark = c.args.mark in
    let head = c.in-Ok-Some.head in
    let Has : List ℕ → Type 0 = λ bytes. HasHead file mark bytes head.number head.len in
    let Reads : List ℕ → Type 0 = λ bytes. 24 + head.len ≤ length bytes → c.in-Ok.payload.items ≡ take head.len (drop 24 bytes) in
    let has : IfReads told file Has = subst (λ (found : Option Head). IfReads told file (λ bytes. FindsHead file mark bytes (Ok found))) c.in-Ok-Some.field-0-is c.in-Ok-Some.ensures.finds in
    reads_both told file Has Reads _ (λ bytes has reads. image_found file head.number head.len mark bytes c.in-Ok.payload.items has reads)
    has (back_reads told (g.S.Store.told c.head.new.store) file Reads c.in-Ok-Some.ensures.looked c.in-Ok.ensures.bytes)

pub returns-in-Err-read_payload-clause-looked : goal.returns-in-Err-read_payload-clause-looked
returns-in-Err-read_payload-clause-looked g c = looked_then _ _ _ c.in-Ok-Some.ensures.looked c.read_payload.ensures.looked

pub returns-in-Err-read_payload-clause-finds : goal.returns-in-Err-read_payload-clause-finds
returns-in-Err-read_payload-clause-finds g c =
    let told = g.S.Store.told c.args.store.now in
    let file = c.args.file in
    let mark = c.args.mark in
    let head = c.in-Ok-Some.head in
    let Has : List ℕ → Type 0 = λ bytes. HasHead file mark bytes head.number head.len in
    let Undamaged : List ℕ → Type 0 = λ bytes. 24 + head.len ≤ length bytes → NoDamage c.in-Err-read_payload.refused in
    let has : IfReads told file Has = subst (λ (found : Option Head). IfReads told file (λ bytes. FindsHead file mark bytes (Ok found))) c.in-Ok-Some.field-0-is c.in-Ok-Some.ensures.finds in
    reads_both told file Has Undamaged _ (λ bytes has undamaged. says_nothing file mark bytes c.in-Err-read_payload.refused (undamaged (head_within file head.number head.len mark bytes has)))
    has (back_reads told (g.S.Store.told c.head.new.store) file Undamaged c.in-Ok-Some.ensures.looked c.in-Err-read_payload.ensures.undamaged)
