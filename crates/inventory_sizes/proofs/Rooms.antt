-- Room for things that are counted in parts.
use Rattle.std.proofs.Common.{◌≡◌, ℕ, ◌+◌, ◌-◌, ◌<◌, ◌≤◌, Bool, true, false, cond, min, nat_le, Some, None, refl, sym, ap, ◌∙◌, arith}
use Rattle.std.proofs.lemmas.Bool.{leb-true, leb-false, le-leb, lt-leb}
use Rattle.inventory_rows.specs.object_rows.Items.{left}
use Rattle.inventory_sizes.specs.Room.{sum_within}

left_when : (count room : ℕ) (b : Bool) → nat_le count room ≡ b → left count room ≡ cond b (Some (room - count)) None
left_when count room b h = ap (λ t. cond t (Some (room - count)) None) h

sum_when : (known n m : ℕ) (b : Bool) → nat_le (known + n) m ≡ b → sum_within known n m ≡ cond b (Some (known + n)) None
sum_when known n m b h = ap (λ t. cond t (Some (known + n)) None) h

-- things come in two parts, and the first has room
left_more : (a b room : ℕ) → a ≤ room → left (a + b) room ≡ left b (room - a)
left_more a b room h =
    elim (nat_le (a + b) room) as (λ t. nat_le (a + b) room ≡ t → left (a + b) room ≡ left b (room - a)) [
      | true ↦ λ e.
          let w : b ≤ room - a = omega (arith, leb-true (a + b) room e) in
          let same : room - (a + b) ≡ (room - a) - b = omega arith in
          left_when (a + b) room true e ∙ ap Some same ∙ sym (left_when b (room - a) true (le-leb b (room - a) w))
      | false ↦ λ e.
          let w : room - a < b = omega (arith, leb-false (a + b) room e) in
          left_when (a + b) room false e ∙ sym (left_when b (room - a) false (lt-leb b (room - a) w))
    ] refl

-- the first part has no room
left_stop : (a b room : ℕ) → room < a → left (a + b) room ≡ None
left_stop a b room h = let w : room < a + b = omega arith in left_when (a + b) room false (lt-leb (a + b) room w)

-- what was left says whether a part has room
left_some : (count room rest : ℕ) → left count room ≡ Some rest → (count ≤ room) × (rest ≡ room - count)
left_some count room rest h =
    elim (nat_le count room) as (λ t. nat_le count room ≡ t → cond t (Some (room - count)) None ≡ Some rest → (count ≤ room) × (rest ≡ room - count)) [
      | true ↦ λ e k. (leb-true count room e, cc)
      | false ↦ λ e k. absurd (cc)
    ] refl h

left_none : (count room : ℕ) → left count room ≡ None → room < count
left_none count room h =
    elim (nat_le count room) as (λ t. nat_le count room ≡ t → cond t (Some (room - count)) None ≡ None → room < count) [
      | true ↦ λ e k. absurd (cc)
      | false ↦ λ e k. leb-false count room e
    ] refl h

-- the first of two parts has room, and leaves so much for the second
pub two_more : (a b room rest : ℕ) → left a room ≡ Some rest → left (a + b) room ≡ left b rest
two_more a b room rest h = let s = left_some a room rest h in left_more a b room s.0 ∙ ap (left b) (sym s.1)

-- it has none
pub two_stop : (a b room : ℕ) → left a room ≡ None → left (a + b) room ≡ None
two_stop a b room h = left_stop a b room (left_none a room h)

-- what a count leaves of the room says how many there are, up to the room
pub rest_fits : (n m rest : ℕ) → left n m ≡ Some rest → rest ≤ m
rest_fits n m rest h = let s = left_some n m rest h in omega (arith, s.0, s.1)

pub all_counted : (n m rest : ℕ) → left n m ≡ Some rest → m - rest ≡ min n m
all_counted n m rest h = let s = left_some n m rest h in omega (arith, s.0, s.1)

pub most_counted : (n m : ℕ) → left n m ≡ None → m ≡ min n m
most_counted n m h = omega (arith, left_none n m h)

-- with what comes there are no more than there may be
pub within : (known n m rest : ℕ) → known ≤ m → left n (m - known) ≡ Some rest → Some (m - rest) ≡ sum_within known n m
within known n m rest h g =
    let s = left_some n (m - known) rest g in
    let all : m - rest ≡ known + n = omega (arith, h, s.0, s.1) in
    let fits : known + n ≤ m = omega (arith, h, s.0) in
    ap Some all ∙ sym (sum_when known n m true (le-leb (known + n) m fits))

pub beyond : (known n m : ℕ) → known ≤ m → left n (m - known) ≡ None → None ≡ sum_within known n m
beyond known n m h g = let w : m < known + n = omega (arith, h, left_none n (m - known) g) in sym (sum_when known n m false (lt-leb (known + n) m w))

pub beyond_before : (known n m : ℕ) → m < known → None ≡ sum_within known n m
beyond_before known n m h = let w : m < known + n = omega arith in sym (sum_when known n m false (lt-leb (known + n) m w))

-- what there is, with what comes, is no more than there may be, whatever goes
pub room_known : (count known n m gone rest : ℕ) → count ≤ known → sum_within known n m ≡ Some rest → nat_le (count + n) (m + gone) ≡ true
room_known count known n m gone rest h g = go (nat_le (known + n) m) refl (sym (sum_when known n m (nat_le (known + n) m) refl) ∙ g) where
  go : (b : Bool) → nat_le (known + n) m ≡ b → cond b (Some (known + n)) None ≡ Some rest → nat_le (count + n) (m + gone) ≡ true
  go true e k = let w : count + n ≤ m + gone = omega (arith, h, leb-true (known + n) m e) in le-leb (count + n) (m + gone) w
  go false e k = absurd cc
