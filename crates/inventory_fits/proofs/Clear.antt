-- Frames on a volume: of two that don't overlap, the one that begins first ends before the other.
use Rattle.std.proofs.Common.{◌≡◌, ℕ, ◌+◌, ◌/◌, ◌<◌, ◌≤◌, Bool, true, false, ◌||◌, nat_le, refl, arith}
use Rattle.std.proofs.lemmas.Bool.{leb-true, le-leb}
use Rattle.kinds.specs.declared.segment.Segment.{Segment}
use Rattle.inventory_rules.specs.Valid.{high_of, low_of}
use Rattle.inventory_rules.specs.Segments.{are_clear}

pub either_second : (a b : Bool) → b ≡ true → (a || b) ≡ true
either_second true b h = refl
either_second false b h = h

either_first : (a b : Bool) → a ≡ true → (a || b) ≡ true
either_first true b h = refl
either_first false b h = absurd cc

second_holds : (a b : Bool) → a ≡ false → (a || b) ≡ true → b ≡ true
second_holds true b n h = absurd cc
second_holds false b n h = h

blocks_rise : (a b : ℕ) → a ≤ b → a / 4096 ≤ b / 4096
blocks_rise a b h = omega (arith, h)

block_ends : (a n : ℕ) → a / 4096 < (a + 32 + n + 4095) / 4096
block_ends a n = omega arith

pub low_rises : (q : Bool) (a b : Segment) → a.offset ≤ b.offset → low_of q a ≤ low_of q b
low_rises true a b h = h
low_rises false a b h = blocks_rise a.offset b.offset h

pub low_before_high : (q : Bool) (s : Segment) → low_of q s < high_of q s
low_before_high true s = omega arith
low_before_high false s = block_ends s.offset s.len

-- the one that begins first ends before the other
pub first_ends : (q : Bool) (a b : Segment) → are_clear q a b ≡ true → a.offset ≤ b.offset → nat_le (high_of q a) (low_of q b) ≡ true
first_ends q a b h l =
    elim (nat_le (high_of q a) (low_of q b)) as (λ t. nat_le (high_of q a) (low_of q b) ≡ t → (t || nat_le (high_of q b) (low_of q a)) ≡ true → t ≡ true) [
      | true ↦ λ e k. refl
      | false ↦ λ e k.
          let over : high_of q b ≤ low_of q a = leb-true (high_of q b) (low_of q a) k in
          let rises : low_of q a ≤ low_of q b = low_rises q a b l in
          let ends : low_of q b < high_of q b = low_before_high q b in
          absurd (omega (arith, over, rises, ends))
    ] refl h

-- one that ends before another, which begins no later than a third, is clear of the third
pub clear_before : (q : Bool) (s a b : Segment) → nat_le (high_of q a) (low_of q b) ≡ true → b.offset ≤ s.offset → are_clear q s a ≡ true
clear_before q s a b h l =
    let ends : high_of q a ≤ low_of q b = leb-true (high_of q a) (low_of q b) h in
    let rises : low_of q b ≤ low_of q s = low_rises q b s l in
    let whole : high_of q a ≤ low_of q s = omega (arith, ends, rises) in
    either_second (nat_le (high_of q s) (low_of q a)) (nat_le (high_of q a) (low_of q s)) (le-leb (high_of q a) (low_of q s) whole)

-- one that is clear of another, which begins no earlier, is clear of what the other ends before
pub clear_behind : (q : Bool) (s b c : Segment) → are_clear q s b ≡ true → s.offset ≤ b.offset → nat_le (high_of q b) (low_of q c) ≡ true → are_clear q s c ≡ true
clear_behind q s b c h l k =
    let ends : high_of q s ≤ low_of q b = leb-true (high_of q s) (low_of q b) (first_ends q s b h l) in
    let lies : low_of q b < high_of q b = low_before_high q b in
    let next : high_of q b ≤ low_of q c = leb-true (high_of q b) (low_of q c) k in
    let whole : high_of q s ≤ low_of q c = omega (arith, ends, lies, next) in
    either_first (nat_le (high_of q s) (low_of q c)) (nat_le (high_of q c) (low_of q s)) (le-leb (high_of q s) (low_of q c) whole)
