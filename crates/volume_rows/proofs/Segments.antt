-- What a volume's segments weigh after one came or went, and that one that came goes again without a trace.
use Rattle.std.proofs.Common.{◌≡◌, ℕ, zero, suc, ◌+◌, ◌*◌, Bool, true, false, cond, List, [], ◌∷◌, Option, Some, None, Result, Ok, Err, refl, sym, ap, ◌∙◌, add-one, arith}
use Rattle.std.specs.Prelude.{is_some}
use Rattle.std.specs.List.{sum_by}
use Rattle.std.specs.Map.{lookup, set_value, remove_entry}
use Rattle.std.specs.BTreeMap.{insert_entry, is_at}
use Rattle.std.specs.declared.cmp.Ordering.{Ordering}
use Rattle.std.specs.declared.cmp.Ordering.TheVariants.{Less, Equal, Greater}
use Rattle.std.specs.Ordering.{is_eq, nat_cmp, ordering_then}
use Rattle.std.proofs.lemmas.Map.Lookups.{exact_unsigned}
use Rattle.kinds.specs.declared.refusal.Refusal.{Refusal}
use Rattle.kinds.specs.declared.refusal.Refusal.TheVariants.{NotFound}
use Rattle.volume_rows.specs.declared.held.HeldSegment.{HeldSegment}
use Rattle.volume_rows.specs.Held.{held_cmp}
use Rattle.volume_rows.specs.Holdings.{repeats_of, is_held, raised, with_segment, lowered, without_segment, taken, weight_of, least_object}
use Rattle.volume_rows.proofs.Entries.{sum_by-inserted, sum_by-set, sum_by-removed, lookup-inserted, remove_entry-inserted, lookup-set, set_value-set}

equal_is : (o : Ordering) → is_eq o ≡ true → o ≡ Equal
equal_is Less h = absurd cc
equal_is Equal h = refl
equal_is Greater h = absurd cc

both_equal : (a b : Ordering) → ordering_then a b ≡ Equal → (a ≡ Equal) × (b ≡ Equal)
both_equal Less b h = absurd cc
both_equal Equal b h = (refl, h)
both_equal Greater b h = absurd cc

nat_itself : (n : ℕ) → nat_cmp n n ≡ Equal
nat_itself n = grind arith

pub held_itself : (s : HeldSegment) → held_cmp s s ≡ Equal
held_itself s = rw (nat_itself s.offset, nat_itself s.object, nat_itself s.len) refl

abbrev with_parts : ℕ → ℕ → ℕ → HeldSegment
with_parts offset object len = record { offset = offset; object = object; len = len }

-- the order tells all segments apart
pub held_same : (s q : HeldSegment) → is_at (held_cmp s) q ≡ true → q ≡ s
held_same s q h =
    let a = both_equal (nat_cmp s.offset q.offset) (ordering_then (nat_cmp s.object q.object) (nat_cmp s.len q.len)) (equal_is (held_cmp s q) h) in
    let b = both_equal (nat_cmp s.object q.object) (nat_cmp s.len q.len) a.1 in
    let x : q.offset ≡ s.offset = sym (exact_unsigned s.offset q.offset a.0) in
    let y : q.object ≡ s.object = sym (exact_unsigned s.object q.object b.0) in
    let z : q.len ≡ s.len = sym (exact_unsigned s.len q.len b.1) in
    ap (λ (n : ℕ). with_parts n q.object q.len) x ∙ ap (λ (n : ℕ). with_parts s.offset n q.len) y ∙ ap (λ (n : ℕ). with_parts s.offset s.object n) z

pub weight_of-with : (weigh : HeldSegment → ℕ) (s : HeldSegment) (held : List (HeldSegment × ℕ)) → weight_of weigh (with_segment s held) ≡ weight_of weigh held + weigh s
weight_of-with weigh s held =
    elim (repeats_of s held) as (λ o. repeats_of s held ≡ o → weight_of weigh (raised s o held) ≡ weight_of weigh held + weigh s) [
      | None ↦ λ h. omega (arith, sum_by-inserted (λ e. weigh e.0 * (e.1 + 1)) held_cmp held s 0 h)
      | Some n ↦ λ h. omega (arith, sum_by-set (λ e. weigh e.0 * (e.1 + 1)) (is_at (held_cmp s)) s (held_same s) held n (n + 1) h)
    ] refl

pub weight_of-without : (weigh : HeldSegment → ℕ) (s : HeldSegment) (held : List (HeldSegment × ℕ)) → is_held s held ≡ true → weight_of weigh (without_segment s held) + weigh s ≡ weight_of weigh held
weight_of-without weigh s held there =
    elim (repeats_of s held) as (λ o. repeats_of s held ≡ o → is_some o ≡ true → weight_of weigh (lowered s o held) + weigh s ≡ weight_of weigh held) [
      | None ↦ λ h t. absurd cc
      | Some n ↦ λ h t. step n h
    ] refl there where
      step : (n : ℕ) → repeats_of s held ≡ Some n → weight_of weigh (lowered s (Some n) held) + weigh s ≡ weight_of weigh held
      step zero h = omega (arith, sum_by-removed (λ e. weigh e.0 * (e.1 + 1)) (is_at (held_cmp s)) s (held_same s) held 0 h)
      step (suc n) h = omega (arith, sum_by-set (λ e. weigh e.0 * (e.1 + 1)) (is_at (held_cmp s)) s (held_same s) held (suc n) n h)

-- a segment that was put there is taken away without a trace
pub taken-with : (s : HeldSegment) (held : List (HeldSegment × ℕ)) → taken s (with_segment s held) ≡ Ok held
taken-with s held =
    elim (repeats_of s held) as (λ o. repeats_of s held ≡ o → taken s (raised s o held) ≡ Ok held) [
      | None ↦ λ h. rw (lookup-inserted held_cmp held_itself held s 0 h, remove_entry-inserted held_cmp held_itself held s 0 h) refl
      | Some n ↦ λ h. again n h
    ] refl where
      again : (n : ℕ) → repeats_of s held ≡ Some n → taken s (set_value (is_at (held_cmp s)) held (n + 1)) ≡ Ok held
      again n h = rw (add-one, lookup-set (is_at (held_cmp s)) held n (suc n) h, set_value-set (is_at (held_cmp s)) held n (suc n) h) refl

same_Ok : {A : Type 0} (x y : A) → (let a : Result A Refusal = Ok x in let b : Result A Refusal = Ok y in a ≡ b) → x ≡ y
same_Ok x y h = cc

held_cases : {A : Type 0} (b : Bool) (x y : A) → cond {A = Result A Refusal} b (Ok x) (Err NotFound) ≡ Ok y → (b ≡ true) × (x ≡ y)
held_cases true x y h = (refl, same_Ok x y h)
held_cases false x y h = absurd cc

-- what is taken was there
pub held_from_taken : (s : HeldSegment) (held left : List (HeldSegment × ℕ)) → taken s held ≡ Ok left → is_held s held ≡ true
held_from_taken s held left h = (held_cases (is_held s held) (without_segment s held) left h).0

pub after_taken : (weigh : HeldSegment → ℕ) (s : HeldSegment) (held left : List (HeldSegment × ℕ)) → taken s held ≡ Ok left → weight_of weigh left + weigh s ≡ weight_of weigh held
after_taken weigh s held left h =
    let t = held_cases (is_held s held) (without_segment s held) left h in
    ap (λ (r : List (HeldSegment × ℕ)). weight_of weigh r + weigh s) (sym t.1) ∙ weight_of-without weigh s held t.0

-- what a segment that was put there weighs
pub after_put : (weigh : HeldSegment → ℕ) (s : HeldSegment) (held more : List (HeldSegment × ℕ)) → (let a : Result (List (HeldSegment × ℕ)) Refusal = Ok (with_segment s held) in a ≡ Ok more) → weight_of weigh more ≡ weight_of weigh held + weigh s
after_put weigh s held more h = ap (weight_of weigh) (sym (same_Ok (with_segment s held) more h)) ∙ weight_of-with weigh s held

pub taken_again : (s : HeldSegment) (held more : List (HeldSegment × ℕ)) → (let a : Result (List (HeldSegment × ℕ)) Refusal = Ok (with_segment s held) in a ≡ Ok more) → taken s more ≡ Ok held
taken_again s held more h = ap (taken s) (sym (same_Ok (with_segment s held) more h)) ∙ taken-with s held
