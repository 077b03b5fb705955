use Rattle.std.proofs.Common.{arith, ◌≤◌, ◌-◌, get_or, length}
use Rattle.command_words.proofs.Numbers.{digit_fits}
use Rattle.command_words.proofs.value.decimal.Goals as goal

pub overflow_mul-number : goal.overflow_mul-number
overflow_mul-number c =
    let bound : length c.args.text.now ≤ 13 = omega (arith, c.if-not-is_within.ensures.bound) in
    let h = digit_fits c.digits.number 0 c.digits.at (length c.args.text.now) c.digits.invariant.small c.digits-test.true bound (omega arith) in omega arith

pub overflow_add-number : goal.overflow_add-number
overflow_add-number c = let bound : length c.args.text.now ≤ 13 = omega (arith, c.if-not-is_within.ensures.bound) in
    let h = digit_fits c.digits.number (get_or c.args.text.now c.digits.at 0 - 48) c.digits.at (length c.args.text.now) c.digits.invariant.small c.digits-test.true bound (omega (arith, c.if-not-is_ascii_digit.ensures.cases)) in omega arith
