-- A hasher's state is a function of what it holds, and what it goes on to one of its state: two messages that one hasher holds go on alike.
use Rattle.std.proofs.Common.{◌≡◌, ℕ, zero, suc, ◌+◌, ◌*◌, ◌/◌, ◌%◌, ◌^◌, ◌≤◌, List, ◌++◌, length, take, drop, Option, Some, None, true, false, refl, sym, ap, subst, ◌∙◌, arith, length-append, add-zero}
use Rattle.std.specs.Prelude.{IfSome}
use Rattle.std.proofs.lemmas.List.{drop-append-le}
use Rattle.std.proofs.Math.Seq.{drop-drop}
use Rattle.sha2.specs.Hashers.{Holds256}
use Rattle.sha2.specs.Sha256.{Holds, IsAbsorbed, compress, hash_after, initial_hash_256}
use Rattle.sha2.specs.declared.Sha256.{Sha256}
use Rattle.sha2.specs.declared.block256.Core256.{Core256}
use Rattle.sha2.proofs.Absorbing256.{Holds-IsAbsorbed, Holds_from, Holds_total, hash_after-append}
use Rattle.kinds.specs.Refusals.{foremost}
use Rattle.inventory_rows.specs.pool_tables.Rows.{row_at}
use Rattle.machine.specs.State.{is_storing}
use Rattle.hall.specs.declared.seat.Hashed.{Hashed}
use Rattle.hall.specs.declared.seat.Hashed.TheVariants.{Done, Taking, Unhashed}
use Rattle.hall.specs.declared.seat.Purpose.{Purpose as Use}
use Rattle.hall.specs.declared.seat.Purpose.TheVariants.{Copying, Storing}
use Rattle.hall.specs.declared.seat.Seat.{Seat}
use Rattle.hall.specs.Held.{Held, IsHashed, purpose_of}
use Rattle.hall.specs.Seats.{ended_at, own_seat}
use Rattle.hall.specs.Taken.{HoldsBehind, IsAhead, MoreHashed, write_refused_at}
use Rattle.hall.proofs.PieceSteps.{TakesPiece, takes_piece}

-- ---- blocks of a message, from one of them on

more_blocks : (i p : List ℕ) (q k : ℕ) → hash_after i p (q + k) ≡ hash_after (hash_after i p q) (drop (q * 64) p) k
unfolding hash_after
more_blocks i p q zero = ap (hash_after i p) (let n : q + 0 ≡ q = omega arith in n)
more_blocks i p q (suc k) =
    let tail : drop (k * 64) (drop (q * 64) p) ≡ drop ((q + k) * 64) p = drop-drop (k * 64) (q * 64) p ∙ ap (λ (n : ℕ). drop n p) (let n : q * 64 + k * 64 ≡ (q + k) * 64 = omega arith in n) in
    ap (hash_after i p) (let n : q + suc k ≡ suc (q + k) = omega arith in n) ∙ ap (λ (h : List ℕ). compress h (take 64 (drop ((q + k) * 64) p))) (more_blocks i p q k) ∙ ap (λ (l : List ℕ). compress (hash_after (hash_after i p q) (drop (q * 64) p) k) (take 64 l)) (sym tail)

-- ---- what is behind a message

module _ (i m b : List ℕ) where
  -- the bytes of the message that fill no block, with those behind it
  abbrev rest : List ℕ
  rest = drop (length m / 64 * 64) m ++ b

  -- how many blocks these are
  abbrev blocks : ℕ
  blocks = (length m % 64 + length b) / 64

  rest_is : drop (length m / 64 * 64) (m ++ b) ≡ rest
  rest_is = drop-append-le (length m / 64 * 64) m b (omega arith)

  all_blocks : length (m ++ b) / 64 ≡ length m / 64 + blocks
  all_blocks = omega (arith, length-append m b)

  goes_on : hash_after i (m ++ b) (length (m ++ b) / 64) ≡ hash_after (hash_after i m (length m / 64)) rest blocks
  goes_on =
      ap (hash_after i (m ++ b)) all_blocks ∙ more_blocks i (m ++ b) (length m / 64) blocks
      ∙ ap (λ (h : List ℕ). hash_after h (drop (length m / 64 * 64) (m ++ b)) blocks) (hash_after-append i m b (length m / 64) (omega arith))
      ∙ ap (λ (l : List ℕ). hash_after (hash_after i m (length m / 64)) l blocks) rest_is

  left_over : drop (length (m ++ b) / 64 * 64) (m ++ b) ≡ drop (blocks * 64) rest
  left_over =
      ap (λ (n : ℕ). drop n (m ++ b)) (let n : length (m ++ b) / 64 * 64 ≡ length m / 64 * 64 + blocks * 64 = omega (arith, all_blocks) in n)
      ∙ sym (drop-drop (blocks * 64) (length m / 64 * 64) (m ++ b)) ∙ ap (drop (blocks * 64)) rest_is

-- what a hasher holds that holds one message goes on to whatever another goes on to that the same hasher holds
behind_alike : (i : List ℕ) (s n : Core256) (x y b : List ℕ) → Holds i s x → Holds i s y → Holds i n (x ++ b) → Holds i n (y ++ b)
behind_alike i s n x y b one other on =
    let tx : s.total ≡ length x % 2 ^ 64 = Holds_total i s x one in
    let ty : s.total ≡ length y % 2 ^ 64 = Holds_total i s y other in
    let tn : n.total ≡ length (x ++ b) % 2 ^ 64 = Holds_total i n (x ++ b) on in
    let ax = Holds-IsAbsorbed i s x one in
    let ay = Holds-IsAbsorbed i s y other in
    let an = Holds-IsAbsorbed i n (x ++ b) on in
    let part : length x % 64 ≡ length y % 64 = omega (arith, tx, ty) in
    let head : hash_after i x (length x / 64) ≡ hash_after i y (length y / 64) = sym ax.0 ∙ ay.0 in
    let tail : rest i x b ≡ rest i y b = ap (λ (l : List ℕ). l ++ b) (sym ax.1 ∙ ap (λ (k : ℕ). take k s.buffer) part ∙ ay.1) in
    let count : blocks i x b ≡ blocks i y b = ap (λ (k : ℕ). (k + length b) / 64) part in
    let used : length (y ++ b) % 64 ≡ length (x ++ b) % 64 = omega (arith, part, length-append x b, length-append y b) in
    Holds_from i n (y ++ b) (omega (arith, tx, ty, tn, length-append x b, length-append y b)) (
      an.0 ∙ goes_on i x b ∙ ap (λ (h : List ℕ). hash_after h (rest i x b) (blocks i x b)) head
          ∙ ap (λ (l : List ℕ). hash_after (hash_after i y (length y / 64)) l (blocks i x b)) tail ∙ ap (hash_after (hash_after i y (length y / 64)) (rest i y b)) count ∙ sym (goes_on i y b),
      ap (λ (k : ℕ). take k n.buffer) used ∙ an.1 ∙ left_over i x b ∙ ap (drop (blocks i x b * 64)) tail ∙ ap (λ (k : ℕ). drop (k * 64) (rest i y b)) count ∙ sym (left_over i y b),
    )

-- ---- a ticket's hasher

-- a hasher that holds one message that the ticket's holds, with these bytes behind it, holds each so
pub holds_behind : (bytes : List ℕ) (hasher : Sha256) (s : Seat) → is_storing (purpose_of s.purpose) ≡ true → s.is_sealed ≡ false → IsAhead bytes hasher s → HoldsBehind bytes hasher s.hashed
holds_behind bytes hasher s new unsealed ahead = let it = ahead new unsealed in go s.purpose s.hashed it.0 it.1 it.2
  where
    go : (purpose : Use) (hashed : Hashed) (taken : List ℕ) → IsHashed purpose false hashed taken → Holds256 hasher (taken ++ bytes) → HoldsBehind bytes hasher hashed
    go (Storing object) (Taking old) taken is on = λ other held. behind_alike initial_hash_256 old.core hasher.core taken other bytes is held on
    go (Storing object) (Done digest) taken is on = tt
    go (Storing object) Unhashed taken is on = tt
    go (Copying object aim) (Taking old) taken is on = absurd is
    go (Copying object aim) (Done digest) taken is on = tt
    go (Copying object aim) Unhashed taken is on = tt

-- a ticket goes on by what another hasher holds
pub more_of : (bytes : List ℕ) (old new : Sha256) → ((taken : List ℕ) → Holds256 old taken → Holds256 new (taken ++ bytes)) → MoreHashed bytes (Taking old) (Taking new)
more_of bytes old new on = λ purpose taken is. go purpose taken is
  where
    go : (purpose : Use) (taken : List ℕ) → IsHashed purpose false (Taking old) taken → IsHashed purpose false (Taking new) (taken ++ bytes)
    go (Storing object) taken is = on taken is
    go (Copying object aim) taken is = absurd is

-- where nothing refuses a piece, the ticket is one that takes more
pub piece_ahead : (actor number moment : ℕ) (bytes : List ℕ) (held : Held) (ahead : Option Sha256) → foremost (ended_at moment held ++ write_refused_at actor number (length bytes) held) ≡ None
    → IfSome ahead (λ hasher. IfSome (own_seat actor number held) (IsAhead bytes hasher)) → IfSome ahead (λ hasher. IfSome (row_at number held.seats) (λ s. HoldsBehind bytes hasher s.hashed))
piece_ahead actor number moment bytes held None free is = tt
piece_ahead actor number moment bytes held (Some hasher) free is =
    let known : TakesPiece actor number (length bytes) moment held = takes_piece actor number (length bytes) moment held free in
    subst (λ o. IfSome o (λ s. HoldsBehind bytes hasher s.hashed)) (sym known.there)
    (holds_behind bytes hasher known.seat known.new known.unsealed (subst (λ o. IfSome o (IsAhead bytes hasher)) known.mine is))
