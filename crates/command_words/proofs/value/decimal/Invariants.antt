use Rattle.std.proofs.Common.{◌≡◌, ◌<◌, ◌^◌, drop}
use Rattle.command_words.specs.Values.{decimal_after}
use Rattle.command_words.proofs.value.decimal.Given as goal

abbrev pub invariant-digits : goal.invariant-digits
invariant-digits l = record {
  said : decimal_after l.number (drop l.at l.text) ≡ decimal_after 0 l.text;
  small : l.number < 10 ^ l.at;
}
