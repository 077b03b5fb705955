-- Lemmas on sums of tallies.
use Rattle.std.proofs.Common.{◌≡◌, ℕ, ◌+◌, ◌-◌, ◌^◌, min, ap, ◌∙◌, arith}
use Rattle.script_loop.specs.declared.tally.Tally.{Tally}
use Rattle.script_loop.specs.Tally.{count_sum, added}

min_assoc : (a b c m : ℕ) → min (min (a + b) m + c) m ≡ min (a + min (b + c) m) m
min_assoc a b c m = omega arith

count_assoc : (a b c : ℕ) → count_sum (count_sum a b) c ≡ count_sum a (count_sum b c)
count_assoc a b c = min_assoc a b c (2 ^ 64 - 1)

count_comm : (a b : ℕ) → count_sum a b ≡ count_sum b a
count_comm a b = ap (λ n. min n (2 ^ 64 - 1)) (omega arith)

same_tally : (a b : Tally) → a.commands ≡ b.commands → a.refused ≡ b.refused → a.failed ≡ b.failed → a ≡ b
same_tally a b p q r =
    let first : ℕ → Tally = λ n. record { commands = n; refused = a.refused; failed = a.failed } in
    let second : ℕ → Tally = λ n. record { commands = b.commands; refused = n; failed = a.failed } in
    let third : ℕ → Tally = λ n. record { commands = b.commands; refused = b.refused; failed = n } in
    ap first p ∙ ap second q ∙ ap third r

pub added_assoc : (a b c : Tally) → added (added a b) c ≡ added a (added b c)
added_assoc a b c = same_tally (added (added a b) c) (added a (added b c)) (count_assoc a.commands b.commands c.commands) (count_assoc a.refused b.refused c.refused) (count_assoc a.failed b.failed c.failed)

pub added_comm : (a b : Tally) → added a b ≡ added b a
added_comm a b = same_tally (added a b) (added b a) (count_comm a.commands b.commands) (count_comm a.refused b.refused) (count_comm a.failed b.failed)
