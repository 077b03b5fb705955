-- The lines of a rule file, and what is read of the first.
use Rattle.std.proofs.Common.{◌≡◌, ◌≢◌, ℕ, zero, suc, ◌+◌, ◌<◌, ◌≤◌, ◌==◌, List, [], ◌∷◌, ◌++◌, length, map, take, drop, get_or, Result, Ok, Err, refl, sym, ap, ◌∙◌, append_assoc, append-nil, arith}
use Rattle.std.specs.List.{onto_first}
use Rattle.std.specs.Str.Lines.{lines_of_parts, strip_carriage_return}
use Rattle.std.proofs.lemmas.Bool.{eq-eqb, ne_eqb}
use Rattle.std.proofs.lemmas.List.Splits.{length-slice_split}
use Rattle.kinds.specs.declared.refusal.Refusal.{Refusal}
use Rattle.choosers.specs.declared.rule.Rule.{Rule}
use Rattle.command_words.specs.Reading.{◌>>=◌}
use Rattle.choosers.specs.RuleText.{PlacedLine, rules_at, parts, parts_left, line_of, placed_from, placed_lines, rules_from, behind}

pub parts_cut : (n : ℕ) (bytes : List ℕ) → n ≤ length bytes → ((k : ℕ) → k < n → get_or bytes k 0 ≢ 10) → (n < length bytes → get_or bytes n 0 ≡ 10) →
    parts bytes ≡ take n bytes ∷ parts_left (drop n bytes)
parts_cut zero [] within before end = refl
parts_cut zero (c ∷ bytes) within before end =
    let feed : c ≡ 10 = end (omega arith) in
    rw (eq-eqb c 10 feed) refl
parts_cut (suc n) [] within before end = absurd (omega arith)
parts_cut (suc n) (c ∷ bytes) within before end =
    let other : c ≢ 10 = before 0 (omega arith) in
    rw (ne_eqb c 10 other) (ap (onto_first c) (parts_cut n bytes (omega arith) (λ k lt. before (suc k) (omega arith)) (λ lt. end (omega arith))))

-- the lines without their places
lines_shown : (first : ℕ) (ps : List (List ℕ)) → map (λ (l : PlacedLine). l.1) (placed_from first ps) ≡ lines_of_parts ps
unfolding placed_from
lines_shown first [] = refl
lines_shown first ([] ∷ []) = refl
lines_shown first ((b ∷ p) ∷ []) = let some : suc (length p) ≢ 0 = λ e. omega (arith, e) in rw (ne_eqb (suc (length p)) 0 some) refl
lines_shown first (p ∷ q ∷ more) = ap (λ ls. strip_carriage_return p ∷ ls) (lines_shown (first + length p + 1) (q ∷ more))

pub lines_placed : (bytes : List ℕ) → map (λ (l : PlacedLine). l.1) (placed_lines bytes) ≡ lines_of_parts (parts bytes)
lines_placed bytes = lines_shown 0 (parts bytes)

-- a part before a line feed
placed_further : (first : ℕ) (part : List ℕ) (ps : List (List ℕ)) → 0 < length ps → placed_from first (part ∷ ps) ≡ (first, strip_carriage_return part) ∷ placed_from (first + length part + 1) ps
unfolding placed_from
placed_further first part [] some = absurd (omega arith)
placed_further first part (q ∷ more) some = refl

some_parts : (bytes : List ℕ) → 0 < length (parts bytes)
some_parts bytes = omega (arith, length-slice_split (λ b. b == 10) bytes)

-- the line at the front of what is left of a text
pub placed_next : (first : ℕ) (part : List ℕ) (b : ℕ) (others : List ℕ) → placed_from first (part ∷ parts_left (b ∷ others)) ≡ (first, line_of part (b ∷ others)) ∷ placed_from (first + length part + 1) (parts others)
placed_next first part b others = placed_further first part (parts others) (some_parts others)

-- a line that is refused
refused_here : (front : List Rule) (e : Refusal) (rest : List Rule → Result (List Rule) Refusal) (here : Result (List Rule) Refusal) → here ≡ Err e → behind front (here >>= rest) ≡ Err e
refused_here front e rest (Ok x) h = absurd cc
refused_here front e rest (Err f) h = ap (λ (x : Refusal). let r : Result (List Rule) Refusal = Err x in r) (let same : f ≡ e = cc in same)

refused_at : (front : List Rule) (e : Refusal) (first : ℕ) (part left : List ℕ) → rules_at first (line_of part left) ≡ Err e → behind front (rules_from (placed_from first (part ∷ parts_left left))) ≡ Err e
unfolding rules_from placed_from
refused_at front e first [] [] h = absurd cc
refused_at front e first (c ∷ part) [] h = refused_here front e _ (rules_at first (c ∷ part)) h
refused_at front e first part (b ∷ others) h = rw (placed_next first part b others) (refused_here front e _ (rules_at first (strip_carriage_return part)) h)

pub refused_line : (front : List Rule) (e : Refusal) (first : ℕ) (text part left : List ℕ) → parts text ≡ part ∷ parts_left left → rules_at first (line_of part left) ≡ Err e →
    behind front (rules_from (placed_from first (parts text))) ≡ Err e
refused_line front e first text part left cut h = ap (λ ps. behind front (rules_from (placed_from first ps))) cut ∙ refused_at front e first part left h

-- the last line
last_here : (old new : List Rule) (here : Result (List Rule) Refusal) → behind old here ≡ Ok new → behind old (here >>= λ (rs : List Rule). Ok (rs ++ [])) ≡ Ok new
last_here old new (Ok rs) h = ap (λ (xs : List Rule). let r : Result (List Rule) Refusal = Ok (old ++ xs) in r) (append-nil rs) ∙ h
last_here old new (Err e) h = absurd cc

last_at : (old new : List Rule) (first : ℕ) (part : List ℕ) → behind old (rules_at first part) ≡ Ok new → behind old (rules_from (placed_from first (part ∷ []))) ≡ Ok new
unfolding rules_from placed_from
last_at old new first [] h = h
last_at old new first (c ∷ part) h = last_here old new (rules_at first (c ∷ part)) h

pub last_line : (old new : List Rule) (first : ℕ) (text part left : List ℕ) → parts text ≡ part ∷ parts_left left → length left ≡ 0 → behind old (rules_at first (line_of part left)) ≡ Ok new →
    behind old (rules_from (placed_from first (parts text))) ≡ Ok new
last_line old new first text part [] cut none h = ap (λ ps. behind old (rules_from (placed_from first ps))) cut ∙ last_at old new first part h
last_line old new first text part (b ∷ left) cut none h = absurd (omega arith)

-- a line that others follow
further_behind : (old here : List Rule) (others : Result (List Rule) Refusal) → behind old (others >>= λ (rs : List Rule). Ok (here ++ rs)) ≡ behind (old ++ here) others
further_behind old here (Ok rs) = ap (λ (xs : List Rule). let r : Result (List Rule) Refusal = Ok xs in r) (sym (append_assoc old here rs))
further_behind old here (Err e) = refl

further_here : (old new : List Rule) (here others : Result (List Rule) Refusal) → behind old here ≡ Ok new →
    behind old (here >>= λ (hs : List Rule). others >>= λ (rs : List Rule). Ok (hs ++ rs)) ≡ behind new others
further_here old new (Ok hs) others h = further_behind old hs others ∙ ap (λ (xs : List Rule). behind xs others) (let same : old ++ hs ≡ new = cc in same)
further_here old new (Err e) others h = absurd cc

further_at : (old new : List Rule) (first : ℕ) (part : List ℕ) (b : ℕ) (others : List ℕ) → behind old (rules_at first (line_of part (b ∷ others))) ≡ Ok new →
    behind old (rules_from (placed_from first (part ∷ parts_left (b ∷ others)))) ≡ behind new (rules_from (placed_from (first + length part + 1) (parts others)))
unfolding rules_from
further_at old new first part b others h =
    rw (placed_next first part b others) (further_here old new (rules_at first (strip_carriage_return part)) (rules_from (placed_from (first + length part + 1) (parts others))) h)

pub further_line : (old new : List Rule) (first next : ℕ) (text part left : List ℕ) (b : ℕ) (others : List ℕ) → parts text ≡ part ∷ parts_left left → left ≡ b ∷ others → next ≡ first + length part + 1 →
    behind old (rules_at first (line_of part left)) ≡ Ok new → behind old (rules_from (placed_from first (parts text))) ≡ behind new (rules_from (placed_from next (parts others)))
further_line old new first next text part left b others cut more place h =
    ap (λ ps. behind old (rules_from (placed_from first ps))) (cut ∙ ap (λ (l : List ℕ). part ∷ parts_left l) more)
    ∙ further_at old new first part b others (ap (λ (l : List ℕ). behind old (rules_at first (line_of part l))) (sym more) ∙ h)
    ∙ ap (λ (n : ℕ). behind new (rules_from (placed_from n (parts others)))) (sym place)
