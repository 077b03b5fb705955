use Rattle.std.proofs.Common.{◌≡◌, true, false, drop}
use Rattle.db_image.proofs.Heads.{head_is}
use Rattle.db_image.proofs.head.parse_rest.Goals as goal

pub returns-clause-gives : goal.returns-clause-gives
returns-clause-gives c whole = (
  drop 23 c.args.rest.now,
  head_is c.args.rest.now c.bytes.result c.args.mark c.number_at-number.result c.number_at-len.result c.starts_with.result c.bytes.ensures c.starts_with.ensures.value c.if-not-starts_with.false c.number_at-number.ensures.spelled c.number_at-len.ensures.spelled,
  c.is_number.ensures.0 c.if-not-is_number.false,
  λ spent. let yes : c.is_spent.result ≡ true = c.is_spent.ensures.1 spent in let no : c.is_spent.result ≡ false = c.if-is_spent.false in absurd cc,
)
