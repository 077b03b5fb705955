use Rattle.std.proofs.Common.{◌∷◌, ◌++◌, [], arith}
use Rattle.std.proofs.lemmas.List.Elements.{All-push}
use Rattle.backup_payloads.specs.Increments.{IsIncrement}
use Rattle.backup_payloads.specs.Holding.{IsShort, holding}
use Rattle.backup_payloads.proofs.Encoding.{whole_and}
use Rattle.backup_payloads.proofs.Wholes.{alone}
use Rattle.backup_payloads.proofs.encode.encode_increment_and.Goals as goal

pub returns-in-Ok-put_entry-clause-spelled : goal.returns-in-Ok-put_entry-clause-spelled
returns-in-Ok-put_entry-clause-spelled c =
    whole_and c.args.after c.args.number c.args.made.now c.args.last.now c.new-out.result.items c.put_front.new.out.items c.put_entries.new.out.items c.put_entry.new.out.items (omega (arith, c.ranges.after.fits)) c.requires.few
    c.requires.numbered c.in-Ok.ensures.short c.in-Ok-put_entry.ensures.short c.new-out.ensures.items c.in_ok-put_front.ensures c.in-Ok.ensures.put c.in-Ok-put_entry.ensures.put

pub returns-in-Ok-put_entry-clause-alone : goal.returns-in-Ok-put_entry-clause-alone
returns-in-Ok-put_entry-clause-alone c =
    let made : IsIncrement c.put_entry.new.out.items (holding c.args.after c.args.number (c.args.made.now ++ c.args.last.now ∷ [])) =
    whole_and c.args.after c.args.number c.args.made.now c.args.last.now c.new-out.result.items c.put_front.new.out.items c.put_entries.new.out.items c.put_entry.new.out.items (omega (arith, c.ranges.after.fits)) c.requires.few
    c.requires.numbered c.in-Ok.ensures.short c.in-Ok-put_entry.ensures.short c.new-out.ensures.items c.in_ok-put_front.ensures c.in-Ok.ensures.put c.in-Ok-put_entry.ensures.put in
    alone c.put_entry.new.out.items (holding c.args.after c.args.number (c.args.made.now ++ c.args.last.now ∷ [])) made

pub returns-in-Ok-put_entry-clause-short : goal.returns-in-Ok-put_entry-clause-short
returns-in-Ok-put_entry-clause-short c = All-push IsShort c.args.made.now c.args.last.now c.in-Ok.ensures.short c.in-Ok-put_entry.ensures.short
