-- Things have room where what they leave of it can be told.
use Rattle.std.proofs.Common.{◌≡◌, ℕ, ◌-◌, true, false, cond, nat_le, Some, None, is_some, refl}
use Rattle.inventory_rows.specs.object_rows.Items.{left}

pub left_fits : (count room : ℕ) → is_some (left count room) ≡ nat_le count room
left_fits count room = elim (nat_le count room) as (λ b. is_some (cond b (Some (room - count)) None) ≡ b) [ true ↦ refl | false ↦ refl ]
