use Rattle.fields.proofs.formed.take_front.Goals as goal

pub returns-in-Ok-clause-found : goal.returns-in-Ok-clause-found
returns-in-Ok-clause-found g c =
    let t = g.met.D.Decoder.is_form.takes c.args.reader.now.rest (c.in-Ok.value, c.take.new.reader.rest) c.rest-bytes.ensures.bytes c.in-Ok.ensures in (t.fits, t.parts)
