use Rattle.std.proofs.Common.{◌≡◌, ◌+◌, ◌≤◌, ℕ, sum, unwrap_or, Option, List, ap, arith}
use Rattle.std.specs.Option.{option_map}
use Rattle.std.specs.Map.{values_of}
use Rattle.std.specs.BTreeMap.{is_at}
use Rattle.std.specs.Ordering.{nat_cmp}
use Rattle.std.proofs.lemmas.Map.Entries.{sum_by-remove_entry}
use Rattle.std.proofs.lemmas.Map.Steps.{lookup-le-sum}
use Rattle.pool_tables.specs.Rows.{row_at, without_row}
use Rattle.space_index.proofs.rooms.Rooms.remove.Goals as goal

pub overflow_sub-self : goal.overflow_sub-self
overflow_sub-self c =
    let es = c.self.inside.rooms.entries in
    let le : unwrap_or (row_at c.args.file es) 0 ≤ sum (values_of es) = lookup-le-sum (is_at (nat_cmp c.args.file)) es in
    let is : c.in-Some.room ≡ unwrap_or (row_at c.args.file es) 0 = ap (λ (o : Option ℕ). unwrap_or o 0) c.in-Some.ensures.value in
    omega (arith, le, is, c.from.ensures, c.self.invariant)

pub invariant_of-self : goal.invariant_of-self
invariant_of-self c =
    let es = c.self.inside.rooms.entries in
    let sums : sum (values_of (without_row c.args.file es)) + unwrap_or (option_map (λ x. x) (row_at c.args.file es)) 0 ≡ sum (values_of es) = sum_by-remove_entry (λ x. x) (is_at (nat_cmp c.args.file)) es in
    let is : c.in-Some.room ≡ unwrap_or (option_map (λ x. x) (row_at c.args.file es)) 0 = ap (λ (o : Option ℕ). unwrap_or (option_map (λ x. x) o) 0) c.in-Some.ensures.value in
    let new : sum (values_of c.remove.new.self.entries) ≡ sum (values_of (without_row c.args.file es)) = ap (λ (l : List (ℕ × ℕ)). sum (values_of l)) c.in-Some.ensures.entries in
    omega (arith, sums, is, new, c.from.ensures, c.self.invariant)
