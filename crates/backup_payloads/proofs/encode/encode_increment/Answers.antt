use Rattle.std.proofs.Common.{arith}
use Rattle.backup_payloads.specs.Increments.{IsIncrement}
use Rattle.backup_payloads.specs.Holding.{holding}
use Rattle.backup_payloads.proofs.Encoding.{whole}
use Rattle.backup_payloads.proofs.Wholes.{alone}
use Rattle.backup_payloads.proofs.encode.encode_increment.Goals as goal

pub returns-in-Ok-clause-spelled : goal.returns-in-Ok-clause-spelled
returns-in-Ok-clause-spelled c =
    whole c.args.after c.args.number c.args.made.now c.new-out.result.items c.put_front.new.out.items c.put_entries.new.out.items (omega (arith, c.ranges.after.fits)) c.requires.few c.requires.numbered c.in-Ok.ensures.short c.new-out.ensures.items c.in_ok-put_front.ensures c.in-Ok.ensures.put

pub returns-in-Ok-clause-alone : goal.returns-in-Ok-clause-alone
returns-in-Ok-clause-alone c =
    let made : IsIncrement c.put_entries.new.out.items (holding c.args.after c.args.number c.args.made.now) =
    whole c.args.after c.args.number c.args.made.now c.new-out.result.items c.put_front.new.out.items c.put_entries.new.out.items (omega (arith, c.ranges.after.fits)) c.requires.few c.requires.numbered c.in-Ok.ensures.short c.new-out.ensures.items c.in_ok-put_front.ensures c.in-Ok.ensures.put in
    alone c.put_entries.new.out.items (holding c.args.after c.args.number c.args.made.now) made
