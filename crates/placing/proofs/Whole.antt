-- Numbers of bytes that are those of whole blocks.
use Rattle.std.proofs.Common.{ℕ, ◌+◌, ◌/◌, List, Option, Some, None, refl, arith}
use Rattle.std.specs.Option.{option_map_or}
use Rattle.inventory_rows.specs.volume_rows.declared.held.HeldSegment.{HeldSegment}
use Rattle.inventory_rows.specs.volume_rows.Held.{end_of}
use Rattle.placing.specs.Laws.{HasRoomForFrame, IsWhole}
use Rattle.placing.specs.Placing.{whole_blocks, block_bytes, blocks_end, last_of}

pub frame_fits : (len : ℕ) → HasRoomForFrame len
frame_fits len = omega arith

pub file_whole : (len : ℕ) → IsWhole (block_bytes len)
file_whole len = ((32 + len + 4095) / 4096, refl)

-- the blocks of a segment, where there is one
end_whole : (o : Option (HeldSegment × ℕ)) → IsWhole (option_map_or (λ e. whole_blocks (end_of e.0)) o 0)
end_whole None = (0, refl)
end_whole (Some e) = ((end_of e.0 + 4095) / 4096, refl)

pub blocks_whole : (held : List (HeldSegment × ℕ)) → IsWhole (blocks_end held)
blocks_whole held = end_whole (last_of held)
