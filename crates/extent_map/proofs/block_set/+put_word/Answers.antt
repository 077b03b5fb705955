use Rattle.std.proofs.Common.{◌≡◌, ◌∙◌, ◌-◌, ◌+◌, ◌/◌, ◌<◌, arith, set, length, sym, ap, not, eqb}
use Rattle.std.proofs.lemmas.List.{length-set, get_or-set_same}
use Rattle.extent_map.specs.Levels.{is_filled}
use Rattle.extent_map.proofs.WordLists.{told_above, others_kept, filled_is}
use Rattle.extent_map.proofs.block_set.+put_word.Goals as goal

pub put_word-requires : goal.put_word-requires
put_word-requires t c =
    let next : c.args.at - 1 + 1 ≡ c.args.at = omega arith in
    let same : length (set c.args.words.now c.args.at c.args.word) ≡ length c.args.words.now = length-set c.args.words.now c.args.at c.args.word in
    let within : (c.args.at - 1) / 64 < length (set c.args.words.now c.args.at c.args.word) = omega arith in (
      omega arith,
      (
        within,
        (
          omega arith,
          (
            λ i e. c.requires.telling i (omega arith) (λ h. absurd (omega (arith, e, h))),
            told_above (set c.args.words.now c.args.at c.args.word) c.args.base c.args.at (c.args.at - 1) c.with_bits-telling.result (not (eqb c.args.word 0)) next within c.with_bits-telling.ensures (filled_is c.args.word ∙ ap is_filled (sym (get_or-set_same c.args.words.now c.args.at c.args.word 0 c.requires.within))) c.requires.telling,
          ),
        ),
      ),
    )

pub returns-then-was-word-clause-members : goal.returns-then-was-word-clause-members
returns-then-was-word-clause-members t c = λ i le.
    let same : length (set c.args.words.now c.args.at c.args.word) ≡ length c.args.words.now = length-set c.args.words.now c.args.at c.args.word in
    let within : (c.args.at - 1) / 64 < length (set c.args.words.now c.args.at c.args.word) = omega arith in
    c.put_word.ensures.members i le ∙ others_kept (set c.args.words.now c.args.at c.args.word) (c.args.at - 1) c.with_bits-telling.result (not (eqb c.args.word 0)) within c.with_bits-telling.ensures i (λ e. absurd (omega (arith, e)))
