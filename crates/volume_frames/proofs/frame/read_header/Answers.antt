use Rattle.std.proofs.Common.{inl, inr}
use Rattle.std.specs.Prelude.{codes}
use Rattle.std.proofs.lemmas.Slice.Eq.{starts_is}
use Rattle.std.proofs.lemmas.Bool.Decides.{Decides-eqb}
use Rattle.volume_frames.proofs.Headers.{header_from, first_from, no_header, not_both}
use Rattle.volume_frames.proofs.frame.read_header.Goals as goal

pub returns-then-middle-eq0-clause-found : goal.returns-then-middle-eq0-clause-found
returns-then-middle-eq0-clause-found c =
    let b = c.args.bytes.now in
    inl (header_from b c.from_be_bytes-object.result c.from_be_bytes-number.result c.from_be_bytes-middle.result c.from_be_bytes-last.result c.fits-bytes c.told-bytes
    c.from_be_bytes-object.ensures c.from_be_bytes-number.ensures c.from_be_bytes-middle.ensures c.from_be_bytes-last.ensures
    ((starts_is Decides-eqb b (codes "TSMFRAM2") c.starts_with.result c.starts_with.ensures.value).0 c.if-starts_with.true) c.if-middle-eq0.true)

pub returns-then-last-eq0-clause-found : goal.returns-then-last-eq0-clause-found
returns-then-last-eq0-clause-found c =
    let b = c.args.bytes.now in
    inr (
      c.from_be_bytes-middle.type_inv,
      first_from b c.from_be_bytes-object.result c.from_be_bytes-number.result c.from_be_bytes-middle.result c.from_be_bytes-last.result c.fits-bytes c.told-bytes
          c.from_be_bytes-object.ensures c.from_be_bytes-number.ensures c.from_be_bytes-middle.ensures c.from_be_bytes-last.ensures
          ((starts_is Decides-eqb b (codes "TSMFRAME") c.starts_with-2.result c.starts_with-2.ensures.value).0 c.if-starts_with-2.true) c.if-last-eq0.true,
    )

pub returns-clause-none : goal.returns-clause-none
returns-clause-none c =
    no_header c.args.bytes.now c.from_be_bytes-object.result c.from_be_bytes-number.result c.from_be_bytes-middle.result c.from_be_bytes-last.result c.fits-bytes c.told-bytes
    c.from_be_bytes-object.ensures c.from_be_bytes-number.ensures c.from_be_bytes-middle.ensures c.from_be_bytes-last.ensures
    c.starts_with.result c.starts_with-2.result c.starts_with.ensures.value c.starts_with-2.ensures.value (not_both c.else-starts_with.either) (not_both c.else-starts_with-2.either)
