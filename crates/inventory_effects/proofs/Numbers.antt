-- What leaves the number of the last transaction as it was.
use Rattle.std.proofs.Common.{◌≡◌, ℕ, List, [], ◌∷◌, refl, ◌∙◌}
use Rattle.kinds.specs.declared.segment.Segment.{Segment}
use Rattle.entries.specs.change_items.declared.items.MovedCopy.{MovedCopy}
use Rattle.inventory_rows.specs.State.{Inv}
use Rattle.inventory_rules.specs.Common.{each}
use Rattle.inventory_rules.specs.Copies.{put_moved}
use Rattle.inventory_rules.specs.Segments.{put}

-- segments that come leave the number of the last transaction
put-number : (object : ℕ) (segments : List Segment) (v : Inv) → (put object segments v).number ≡ v.number
put-number object [] v = refl
put-number object (s ∷ segments) v = put-number object segments (put object (s ∷ []) v)

pub put_moved-number : (items : List MovedCopy) (v : Inv) → (each put_moved items v).number ≡ v.number
put_moved-number [] v = refl
put_moved-number (x ∷ items) v = put_moved-number items (put_moved x v) ∙ put-number x.object x.segments v
