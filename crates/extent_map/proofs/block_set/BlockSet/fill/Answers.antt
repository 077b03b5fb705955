use Rattle.std.proofs.Common.{◌≡◌, ℕ, ◌∙◌, ◌+◌, List, arith, length, ap}
use Rattle.std.specs.Prelude.{if◌then◌else◌}
use Rattle.extent_map.specs.Bits.{is_between}
use Rattle.extent_map.specs.Levels.{bit_of, members}
use Rattle.extent_map.proofs.Members.{length_members, members_filled}
use Rattle.std.proofs.lemmas.List.{with_items_is}
use Rattle.extent_map.proofs.block_set.BlockSet.fill.Goals as goal

pub overflow_add-self-inside : goal.overflow_add-self-inside
overflow_add-self-inside c =
    let len : length c.args.self.now ≡ c.self.inside.count = length_members c.self.inside.words.items c.self.inside.base c.self.inside.count c.args.self.now c.self.view_is in
    omega arith

pub overflow_add-self-inside-2 : goal.overflow_add-self-inside-2
overflow_add-self-inside-2 c =
    let len : length c.args.self.now ≡ c.self.inside.count = length_members c.self.inside.words.items c.self.inside.base c.self.inside.count c.args.self.now c.self.view_is in
    omega arith

pub overflow_add-self-inside-3 : goal.overflow_add-self-inside-3
overflow_add-self-inside-3 c =
    let len : length c.args.self.now ≡ c.self.inside.count = length_members c.self.inside.words.items c.self.inside.base c.self.inside.count c.args.self.now c.self.view_is in
    omega arith

pub fill_bits-requires-clause-high : goal.fill_bits-requires-clause-high
fill_bits-requires-clause-high c =
    let len : length c.args.self.now ≡ c.self.inside.count = length_members c.self.inside.words.items c.self.inside.base c.self.inside.count c.args.self.now c.self.view_is in
    omega arith

pub fill_bits-requires-clause-within : goal.fill_bits-requires-clause-within
fill_bits-requires-clause-within c =
    let len : length c.args.self.now ≡ c.self.inside.count = length_members c.self.inside.words.items c.self.inside.base c.self.inside.count c.args.self.now c.self.view_is in
    let same : length c.as_mut_slice.result.now ≡ length c.self.inside.words.items = ap length c.as_mut_slice.ensures.value in
    omega arith

pub returns : goal.returns
returns c =
    let len : length c.fill_bits.new.words ≡ c.self.inside.words.len = c.fill_bits.auto.words ∙ c.as_mut_slice.ensures.len in
    ap (λ (w : List ℕ). members w c.self.inside.base c.self.inside.count) (with_items_is c.self.inside.words c.fill_bits.new.words len)
    ∙ members_filled c.self.inside.words.items c.fill_bits.new.words c.self.inside.base c.self.inside.count c.args.first c.args.blocks c.args.member c.args.self.now c.self.view_is c.requires (λ i le.
    c.fill_bits.ensures.members i le ∙ ap (λ (w : List ℕ). if is_between (c.self.inside.base + c.args.first) (c.self.inside.base + c.args.first + c.args.blocks) i then c.args.member else bit_of w i) c.as_mut_slice.ensures.value)
