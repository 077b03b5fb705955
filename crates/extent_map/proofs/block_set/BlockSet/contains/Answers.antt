use Rattle.std.proofs.Common.{◌≡◌, ℕ, ◌∙◌, ◌+◌, ◌/◌, ◌%◌, ◌^◌, ◌<◌, List, arith, length, ap, get_or, eqb}
use lib.Bits.{bit_and}
use Rattle.extent_map.proofs.Members.{length_members, tested}
use Rattle.extent_map.proofs.block_set.BlockSet.contains.Goals as goal

pub overflow_add-at : goal.overflow_add-at
overflow_add-at c =
    let len : length c.args.self.now ≡ c.self.inside.count = length_members c.self.inside.words.items c.self.inside.base c.self.inside.count c.args.self.now c.self.view_is in
    omega arith

pub bounds-words-at : goal.bounds-words-at
bounds-words-at c =
    let len : length c.args.self.now ≡ c.self.inside.count = length_members c.self.inside.words.items c.self.inside.base c.self.inside.count c.args.self.now c.self.view_is in
    let same : length c.as_slice-words.result.now ≡ length c.self.inside.words.items = ap length c.as_slice-words.ensures.value in
    omega arith

pub returns : goal.returns
returns c =
    let len : length c.args.self.now ≡ c.self.inside.count = length_members c.self.inside.words.items c.self.inside.base c.self.inside.count c.args.self.now c.self.view_is in
    let lt : c.args.number < c.self.inside.count = omega arith in
    ap (λ (w : List ℕ). eqb (bit_and (get_or w ((c.self.inside.base + c.args.number) / 64) 0 / 2 ^ ((c.self.inside.base + c.args.number) % 64)) 1) 1) c.as_slice-words.ensures.value ∙ tested c.self.inside.words.items c.self.inside.base c.self.inside.count c.args.self.now c.args.number c.self.view_is lt
