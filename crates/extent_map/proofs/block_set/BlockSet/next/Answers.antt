use Rattle.std.proofs.Common.{◌≡◌, ℕ, ◌∙◌, ◌+◌, ◌-◌, ◌*◌, ◌<◌, ◌≤◌, List, false, arith, length, ap, get_or, subst}
use Rattle.extent_map.specs.Bits.{NoneSet, IsLowest}
use Rattle.extent_map.specs.Levels.{bit_of}
use Rattle.extent_map.proofs.Members.{length_members, none_before, found_at}
use Rattle.extent_map.proofs.block_set.BlockSet.next.Goals as goal

pub returns-then-from-self-clause-here : goal.returns-then-from-self-clause-here
returns-then-from-self-clause-here c =
    let len : length c.args.self.now ≡ c.self.inside.count = length_members c.self.inside.words.items c.self.inside.base c.self.inside.count c.args.self.now c.self.view_is in
    λ lt. absurd (omega arith)

pub overflow_add-self-inside : goal.overflow_add-self-inside
overflow_add-self-inside c =
    let len : length c.args.self.now ≡ c.self.inside.count = length_members c.self.inside.words.items c.self.inside.base c.self.inside.count c.args.self.now c.self.view_is in
    omega arith

pub next_bit-requires-clause-high : goal.next_bit-requires-clause-high
next_bit-requires-clause-high c =
    let len : length c.args.self.now ≡ c.self.inside.count = length_members c.self.inside.words.items c.self.inside.base c.self.inside.count c.args.self.now c.self.view_is in
    omega arith

pub next_bit-requires-clause-within : goal.next_bit-requires-clause-within
next_bit-requires-clause-within c =
    let len : length c.args.self.now ≡ c.self.inside.count = length_members c.self.inside.words.items c.self.inside.base c.self.inside.count c.args.self.now c.self.view_is in
    let same : length c.as_slice.result.now ≡ length c.self.inside.words.items = ap length c.as_slice.ensures.value in
    omega arith

pub returns-in-Some-clause-low : goal.returns-in-Some-clause-low
returns-in-Some-clause-low c =
    let len : length c.args.self.now ≡ c.self.inside.count = length_members c.self.inside.words.items c.self.inside.base c.self.inside.count c.args.self.now c.self.view_is in
    let found : IsLowest (bit_of c.as_slice.result.now) (c.self.inside.base + c.args.from) (64 * (c.self.inside.base + 1)) c.in-Some.bit = c.in-Some.ensures in
    omega (arith, found.from)

pub returns-in-Some-clause-high : goal.returns-in-Some-clause-high
returns-in-Some-clause-high c =
    let len : length c.args.self.now ≡ c.self.inside.count = length_members c.self.inside.words.items c.self.inside.base c.self.inside.count c.args.self.now c.self.view_is in
    omega arith

pub returns-in-Some-clause-before : goal.returns-in-Some-clause-before
returns-in-Some-clause-before c = λ k low high.
    let found : IsLowest (bit_of c.as_slice.result.now) (c.self.inside.base + c.args.from) (64 * (c.self.inside.base + 1)) c.in-Some.bit = c.in-Some.ensures in
    let here : IsLowest (bit_of c.self.inside.words.items) (c.self.inside.base + c.args.from) (64 * (c.self.inside.base + 1)) c.in-Some.bit = subst (λ (w : List ℕ). IsLowest (bit_of w) (c.self.inside.base + c.args.from) (64 * (c.self.inside.base + 1)) c.in-Some.bit) c.as_slice.ensures.value found in
    let under : k < c.self.inside.count = omega arith in
    let before : c.self.inside.base + k < c.in-Some.bit = omega arith in
    none_before c.self.inside.words.items c.self.inside.base c.self.inside.count c.args.from c.in-Some.bit c.args.self.now c.self.view_is here.none_below k low under before

pub returns-in-Some-clause-here : goal.returns-in-Some-clause-here
returns-in-Some-clause-here c = λ lt.
    let len : length c.args.self.now ≡ c.self.inside.count = length_members c.self.inside.words.items c.self.inside.base c.self.inside.count c.args.self.now c.self.view_is in
    let found : IsLowest (bit_of c.as_slice.result.now) (c.self.inside.base + c.args.from) (64 * (c.self.inside.base + 1)) c.in-Some.bit = c.in-Some.ensures in
    let here : IsLowest (bit_of c.self.inside.words.items) (c.self.inside.base + c.args.from) (64 * (c.self.inside.base + 1)) c.in-Some.bit = subst (λ (w : List ℕ). IsLowest (bit_of w) (c.self.inside.base + c.args.from) (64 * (c.self.inside.base + 1)) c.in-Some.bit) c.as_slice.ensures.value found in
    let is : c.min.result ≡ c.in-Some.bit - c.self.inside.base = omega arith in
    let under : c.in-Some.bit - c.self.inside.base < c.self.inside.count = omega arith in
    let le : c.self.inside.base ≤ c.in-Some.bit = omega (arith, here.from) in
    ap (λ (k : ℕ). get_or c.args.self.now k false) is ∙ found_at c.self.inside.words.items c.self.inside.base c.self.inside.count c.in-Some.bit c.args.self.now c.self.view_is le under here.here

pub returns-in-None-clause-low : goal.returns-in-None-clause-low
returns-in-None-clause-low c =
    let len : length c.args.self.now ≡ c.self.inside.count = length_members c.self.inside.words.items c.self.inside.base c.self.inside.count c.args.self.now c.self.view_is in
    omega arith

pub returns-in-None-clause-high : goal.returns-in-None-clause-high
returns-in-None-clause-high c =
    let len : length c.args.self.now ≡ c.self.inside.count = length_members c.self.inside.words.items c.self.inside.base c.self.inside.count c.args.self.now c.self.view_is in
    omega arith

pub returns-in-None-clause-before : goal.returns-in-None-clause-before
returns-in-None-clause-before c = λ k low high.
    let none : NoneSet (bit_of c.as_slice.result.now) (c.self.inside.base + c.args.from) (64 * (c.self.inside.base + 1)) = c.in-None.ensures in
    let here : NoneSet (bit_of c.self.inside.words.items) (c.self.inside.base + c.args.from) (64 * (c.self.inside.base + 1)) = subst (λ (w : List ℕ). NoneSet (bit_of w) (c.self.inside.base + c.args.from) (64 * (c.self.inside.base + 1))) c.as_slice.ensures.value none in
    let under : c.self.inside.base + k < 64 * (c.self.inside.base + 1) = omega arith in
    none_before c.self.inside.words.items c.self.inside.base c.self.inside.count c.args.from (64 * (c.self.inside.base + 1)) c.args.self.now c.self.view_is here k low high under

pub returns-in-None-clause-here : goal.returns-in-None-clause-here
returns-in-None-clause-here c =
    let len : length c.args.self.now ≡ c.self.inside.count = length_members c.self.inside.words.items c.self.inside.base c.self.inside.count c.args.self.now c.self.view_is in
    λ lt. absurd (omega arith)
