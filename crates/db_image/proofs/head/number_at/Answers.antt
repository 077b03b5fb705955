use Rattle.std.proofs.Common.{◌≡◌, ◌-◌, ◌+◌, take, drop, subst, arith}
use Rattle.std.specs.Int.{w64, to_be_bytes}
use Rattle.std.proofs.lemmas.List.{length-take, length-drop}
use Rattle.std.proofs.lemmas.Nat.{be_bytes_8}
use Rattle.db_image.proofs.head.number_at.Goals as goal

pub returns-clause-spelled : goal.returns-clause-spelled
returns-clause-spelled c =
    let rest = drop c.args.at c.args.bytes.now in
    let eight : c.args.at + 8 - c.args.at ≡ 8 = omega arith in
    subst (λ n. to_be_bytes w64 c.word.result ≡ take n rest) eight
    (be_bytes_8 (take (c.args.at + 8 - c.args.at) rest) c.word.result (omega (arith, length-take (c.args.at + 8 - c.args.at) rest, length-drop c.args.at c.args.bytes.now)) c.word.ensures.bytes c.word.ensures.value)
