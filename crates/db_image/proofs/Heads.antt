-- What stands in front of an image's payload, from its bytes.
use Rattle.std.proofs.Common.{◌≡◌, inl, inr, ℕ, zero, suc, ◌+◌, ◌-◌, ◌<◌, ◌≤◌, ◌^◌, min, Bool, true, Option, None, Some, Result, Ok, Err, IfOk, IfSome, List, [], ◌∷◌, ◌++◌, length, take, drop, refl, sym, ◌∙◌, ap, subst, append_assoc, arith}
use Rattle.std.proofs.lemmas.List.{take-append-drop, drop-drop, drop-take, drop_at, length-drop, take_all, take_at}
use Rattle.std.specs.Int.{w64, to_be_bytes, from_be_bytes}
use Rattle.std.proofs.lemmas.Bool.{cases_lt}
use Rattle.std.specs.Cmp.Lexicographic.{pointwise}
use Rattle.std.proofs.Math.Dec.{eqb}
use Rattle.std.proofs.lemmas.Bool.Decides.{Decides-eqb}
use Rattle.std.proofs.lemmas.Slice.Eq.{starts_is}
use Rattle.db_image.specs.declared.mark.Mark.{Mark}
use Rattle.db_image.specs.declared.mark.Mark.TheVariants.{Server, Backup}
use Rattle.db_image.specs.declared.head.Head.{Head}
use Rattle.kinds.specs.declared.refusal.OpenRefused.{OpenRefused}
use Rattle.kinds.specs.declared.refusal.OpenRefused.TheVariants.{ReadFault, NotFormatted, Damaged, RunFull, Memory}
use Rattle.log_file.specs.Blocks.{IsClosed}
use Rattle.db_image.specs.Images.{mark_bytes, head_bytes, IsNumber, IsSpent, IsWrong, number_in}
use Rattle.db_image.specs.Reads.{HeadGives, FindsHead}
use Rattle.db_image.proofs.Writing.{length-head_bytes}

-- bytes that are a mark, a number and a length, and what follows them
head_whole : (rest mark number len : List ℕ) → rest ≡ mark ++ drop 7 rest → number ≡ take 8 (drop 7 rest) → len ≡ take 8 (drop 15 rest) → rest ≡ (mark ++ (number ++ len)) ++ drop 23 rest
head_whole rest mark number len front n l =
    let behind = drop 23 rest in
    let second : drop 7 rest ≡ number ++ drop 15 rest = sym (take-append-drop 8 (drop 7 rest)) ∙ ap (λ (r : List ℕ). take 8 (drop 7 rest) ++ r) (drop-drop 8 7 rest) ∙ ap (λ (r : List ℕ). r ++ drop 15 rest) (sym n) in
    let third : drop 15 rest ≡ len ++ behind = sym (take-append-drop 8 (drop 15 rest)) ∙ ap (λ (r : List ℕ). take 8 (drop 15 rest) ++ r) (drop-drop 8 15 rest) ∙ ap (λ (r : List ℕ). r ++ behind) (sym l) in
    front ∙ ap (λ (r : List ℕ). mark ++ r) (second ∙ ap (λ (r : List ℕ). number ++ r) third ∙ sym (append_assoc number len behind)) ∙ sym (append_assoc mark (number ++ len) behind)

pub length-mark : (mark : Mark) → length (mark_bytes mark) ≡ 7
length-mark Server = refl
length-mark Backup = refl

-- bytes of which the three parts of a head were read begin with that head
pub head_is : (rest marked : List ℕ) (mark : Mark) (number len : ℕ) (begins : Bool) → marked ≡ mark_bytes mark
    → begins ≡ pointwise eqb marked (take (length marked) rest) → begins ≡ true → to_be_bytes w64 number ≡ take 8 (drop 7 rest) → to_be_bytes w64 len ≡ take 8 (drop 15 rest)
    → rest ≡ head_bytes mark number len ++ drop 23 rest
unfolding head_bytes
head_is rest marked mark number len begins is test true_ n l =
    let front : rest ≡ mark_bytes mark ++ drop 7 rest = subst (λ (m : List ℕ). rest ≡ m ++ drop 7 rest) is ((starts_is Decides-eqb rest marked begins test).0 true_ ∙ ap (λ k. marked ++ drop k rest) (ap length is ∙ length-mark mark)) in
    head_whole rest (mark_bytes mark) (to_be_bytes w64 number) (to_be_bytes w64 len) front n l

-- the front of a longer front
take_front : (n m : ℕ) (xs : List ℕ) → take n (take (n + m) xs) ≡ take n xs
take_front zero m xs = refl
take_front (suc n) m [] = subst (λ k. take (suc n) (take k []) ≡ take {A = ℕ} (suc n) []) (let e : suc (n + m) ≡ suc n + m = omega arith in e) refl
take_front (suc n) m (x ∷ xs) = subst (λ k. take (suc n) (take k (x ∷ xs)) ≡ x ∷ take n xs) (let e : suc (n + m) ≡ suc n + m = omega arith in e) (ap (λ (r : List ℕ). x ∷ r) (take_front n m xs))

-- of an image's payload the first byte alone says whether it is spent
pub spent_with : (mark : Mark) (number b : ℕ) (rest others : List ℕ) → IsSpent mark number (b ∷ rest) → IsSpent mark number (b ∷ others)
spent_with Server number b rest others spent = (spent.0, (others, ap (λ n. n ∷ others) (let same : b ∷ rest ≡ 1 ∷ spent.1.0 = spent.1.1 in let is : b ≡ 1 = cc in is)))
spent_with Backup number b rest others spent = spent

spent_of_all : (mark : Mark) (number : ℕ) (behind : List ℕ) → IsSpent mark number (take 1 behind) → IsSpent mark number behind
spent_of_all mark number [] spent = spent
spent_of_all mark number (b ∷ rest) spent = spent_with mark number b [] rest spent

spent_of_first : (mark : Mark) (number : ℕ) (behind : List ℕ) → IsSpent mark number behind → IsSpent mark number (take 1 behind)
spent_of_first mark number [] spent = spent
spent_of_first mark number (b ∷ rest) spent = spent_with mark number b rest [] spent

-- what is wrong of the first 24 bytes behind a gate is wrong of all that stands there
wrong_of_all : (file left at : ℕ) (mark : Mark) (rest : List ℕ) → IsWrong file mark left (take 24 rest) at → IsWrong file mark left rest at
wrong_of_all file left at mark rest wrong =
    let front = take 24 rest in
    let marks : take 7 front ≡ take 7 rest = take_front 7 17 rest in
    let numbers : take 8 (drop 7 front) ≡ take 8 (drop 7 rest) = ap (take 8) (drop-take 7 17 rest) ∙ take_front 8 9 (drop 7 rest) in
    let lens : take 8 (drop 15 front) ≡ take 8 (drop 15 rest) = ap (take 8) (drop-take 15 9 rest) ∙ take_front 8 1 (drop 15 rest) in
    let number : number_in front ≡ number_in rest = ap (from_be_bytes w64) numbers in
    let first : drop 23 front ≡ take 1 (drop 23 rest) = drop-take 23 1 rest in
    let spends : IsSpent mark (number_in front) (drop 23 front) → IsSpent mark (number_in rest) (drop 23 rest) =
    λ spent. spent_of_all mark (number_in rest) (drop 23 rest) (subst (IsSpent mark (number_in rest)) first (subst (λ n. IsSpent mark n (drop 23 front)) number spent)) in
    let spent_so : IsSpent mark (number_in rest) (drop 23 rest) → IsSpent mark (number_in front) (drop 23 front) =
    λ spent. subst (λ n. IsSpent mark n (drop 23 front)) (sym number) (subst (IsSpent mark (number_in rest)) (sym first) (spent_of_first mark (number_in rest) (drop 23 rest) spent)) in
    elim wrong [
      | inl first ↦ inl (first.0, elim first.1 [ inl short ↦ inl short | inr other ↦ inr (λ e. other (marks ∙ e)) ])
      | inr more ↦ elim more [
        | inl second ↦ inr (inl (second.0, second.1, sym marks ∙ second.2, elim second.3 [ inl short ↦ inl short | inr other ↦ inr (elim other [ inl none ↦ inl (λ is. none (subst (IsNumber mark file) (sym number) is)) | inr spent ↦ inr (spends spent) ]) ]))
        | inr third ↦ inr (inr (third.0, third.1, sym marks ∙ third.2, subst (IsNumber mark file) number third.3, λ spent. third.4 (spent_so spent), elim third.5 [ inl short ↦ inl short | inr past ↦ inr (subst (λ (b : List ℕ). left < 23 + from_be_bytes w64 b) lens past) ]))
      ]
    ]

-- the first bytes of a list, as many as are looked at
pub front_of : (bytes : List ℕ) (count len : ℕ) → len ≡ length bytes → count ≡ min 25 len → take count bytes ≡ take 25 bytes
front_of bytes count len is many = elim (cases_lt len 25) [
  | inl short ↦ take_all count bytes (omega arith) ∙ sym (take_all 25 bytes (omega arith))
  | inr long ↦ ap (λ n. take n bytes) (let e : count ≡ 25 = omega arith in e)
]

closed_front : (bytes : List ℕ) → IsClosed (take 25 bytes) → IsClosed bytes
closed_front [] closed = tt
closed_front (first ∷ rest) closed = closed

split_front : (bytes rest : List ℕ) → take 25 bytes ≡ 1 ∷ rest → (all : List ℕ) × (bytes ≡ 1 ∷ all) × (rest ≡ take 24 all)
split_front [] rest e = absurd cc
split_front (first ∷ all) rest e = (all, (let one : first ∷ take 24 all ≡ 1 ∷ rest = e in cc), (let one : first ∷ take 24 all ≡ 1 ∷ rest = e in cc))

-- what the first bytes of a file say, it begins with
pub head_found : (file : ℕ) (mark : Mark) (bytes front : List ℕ) (len : ℕ) (result : Result (Option Head) OpenRefused) → len ≡ length bytes → len < 2 ^ 64 → front ≡ take 25 bytes
    → IfOk result (λ found. IfSome found (λ head. 24 + head.len ≤ len)) → HeadGives file mark front len result → FindsHead file mark bytes result
head_found file mark bytes front len (Ok None) is small whole within gives = closed_front bytes (subst IsClosed whole gives)
head_found file mark bytes front len (Ok (Some head)) is small whole within gives =
    let first = head_bytes mark head.number head.len in
    let behind = gives.0 in
    let long = length-head_bytes mark head.number head.len in
    let whole_front : take 25 bytes ≡ 1 ∷ (first ++ behind) = sym whole ∙ gives.1 in
    let gate : take 24 bytes ≡ 1 ∷ first = sym (take_front 24 1 bytes) ∙ ap (take 24) whole_front ∙ take_at (1 ∷ first) behind 24 (let e : length (1 ∷ first) ≡ 24 = omega (arith, long) in e) in
    let next : take 1 (drop 24 bytes) ≡ behind = sym (drop-take 24 1 bytes) ∙ ap (drop 24) whole_front ∙ drop_at first behind 23 long in
    record {
      rest = drop 24 bytes;
      whole = sym (take-append-drop 24 bytes) ∙ ap (λ (l : List ℕ). l ++ drop 24 bytes) gate;
      allowed = gives.2;
      unspent = λ spent. gives.3 (subst (IsSpent mark head.number) next (spent_of_first mark head.number (drop 24 bytes) spent));
      within = omega (arith, within, is, length-drop 24 bytes);
      small = omega (arith, within, small);
    }
head_found file mark bytes front len (Err (Damaged which at)) is small whole within gives =
    let parts = split_front bytes gives.0 (sym whole ∙ gives.1) in (
      gives.2.0,
      record {
        rest = parts.0;
        whole = parts.1;
        wrong = wrong_of_all file (length parts.0) at mark parts.0 (subst (λ (l : List ℕ). IsWrong file mark (length parts.0) l at) parts.2 (subst (λ n. IsWrong file mark n gives.0 at) (let e : len - 1 ≡ length parts.0 = omega (arith, is, ap length parts.1) in e) gives.2.1));
      },
    )
head_found file mark bytes front len (Err (ReadFault which)) is small whole within gives = tt
head_found file mark bytes front len (Err NotFormatted) is small whole within gives = tt
head_found file mark bytes front len (Err RunFull) is small whole within gives = tt
head_found file mark bytes front len (Err Memory) is small whole within gives = tt
