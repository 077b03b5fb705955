use Rattle.std.proofs.Common.{◌≡◌, ◌+◌, ◌∙◌, ℕ, sum, unwrap_or, Option, List, ap, arith}
use Rattle.std.specs.Cmp.{nat_cmp_total}
use Rattle.std.specs.Option.{option_map}
use Rattle.std.specs.Map.{values_of}
use Rattle.std.proofs.lemmas.Map.Entries.{sum_by-insert_entry}
use Rattle.pool_tables.specs.Rows.{row_at, with_row}
use Rattle.space_index.proofs.rooms.Rooms.set.Goals as goal

pub invariant_of-self-2 : goal.invariant_of-self-2
invariant_of-self-2 c =
    let es = c.self.inside.rooms.entries in
    let absent : unwrap_or (option_map (λ x. x) (row_at c.args.file es)) 0 ≡ 0 = ap (λ (o : Option ℕ). unwrap_or (option_map (λ x. x) o) 0) (ap (λ (l : List (ℕ × ℕ)). row_at c.args.file l) c.self.view_is ∙ c.remove.ensures.here) in
    let sums : sum (values_of (with_row c.args.file c.args.room es)) + unwrap_or (option_map (λ x. x) (row_at c.args.file es)) 0 ≡ sum (values_of es) + c.args.room = sum_by-insert_entry (λ x. x) nat_cmp_total es c.args.file c.args.room c.in_ok-insert.ensures.was_ordered in
    let new : sum (values_of c.insert.new.self.entries) ≡ sum (values_of (with_row c.args.file c.args.room es)) = ap (λ (l : List (ℕ × ℕ)). sum (values_of l)) c.in_ok-insert.ensures.entries in
    omega (arith, absent, sums, new, c.from.ensures, c.in-Some.ensures, c.self.invariant)
