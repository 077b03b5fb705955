-- Records one behind another: their bytes say which they are.
use Rattle.std.proofs.Common.{◌≡◌, ◌⊎◌, inl, inr, ℕ, zero, suc, ◌+◌, ◌<◌, ◌≤◌, ◌^◌, List, [], ◌∷◌, ◌++◌, length, get_or, take, drop, refl, sym, ◌∙◌, ap, subst, arith, length-append, append_assoc}
use Rattle.std.specs.Int.{w32, to_be_bytes, from_be_bytes}
use Rattle.std.specs.List.{AllByRecursion}
use Rattle.std.proofs.lemmas.Bool.{cases_lt, cases_eq}
use Rattle.std.proofs.lemmas.List.{append-nil, get_or_past, length-take, length-drop, length-take-le, take-append-drop, get_or-take, get_or-drop}
use Rattle.std.proofs.lemmas.Nat.{be_bytes_4, from_be_bytes-to_be_bytes_4}
use Rattle.std.proofs.Math.Seq.{take-append_seam, drop-append_seam}
use Rattle.fields.specs.Forms.{IsBytes}
use Rattle.log_file.specs.Blocks.{Fits, block, blocks, IsClosed, IsBroken, LogIs, DamagedAt}

-- the same lists in front, where they are of one length, and the same behind
same_front : (a b x y : List ℕ) → length a ≡ length b → a ++ x ≡ b ++ y → a ≡ b
same_front a b x y long e = sym (take-append_seam a x) ∙ ap (take (length a)) e ∙ ap (λ n. take n (b ++ y)) long ∙ take-append_seam b y

same_back : (a b x y : List ℕ) → length a ≡ length b → a ++ x ≡ b ++ y → x ≡ y
same_back a b x y long e = sym (drop-append_seam a x) ∙ ap (drop (length a)) e ∙ ap (λ n. drop n (b ++ y)) long ∙ drop-append_seam b y

-- the four bytes of a length
pub four : (n : ℕ) → length (to_be_bytes w32 n) ≡ 4
four n = refl

pub block_is : (payload : List ℕ) → block payload ≡ 1 ∷ (to_be_bytes w32 (length payload) ++ payload)
unfolding block
block_is payload = refl

pub length-block : (payload : List ℕ) → length (block payload) ≡ 5 + length payload
length-block payload = ap length (block_is payload) ∙ omega (arith, length-append (to_be_bytes w32 (length payload)) payload, four (length payload))

-- what stands behind a record's gate, and what follows
pub block_then : (payload rest : List ℕ) → block payload ++ rest ≡ 1 ∷ (to_be_bytes w32 (length payload) ++ (payload ++ rest))
block_then payload rest = ap (λ (b : List ℕ). b ++ rest) (block_is payload) ∙ ap (λ (l : List ℕ). 1 ∷ l) (append_assoc (to_be_bytes w32 (length payload)) payload rest)

tail_of : List ℕ → List ℕ
tail_of [] = []
tail_of (x ∷ xs) = xs

head_of : List ℕ → ℕ
head_of [] = 0
head_of (x ∷ xs) = x

-- behind the gate, where a record is at the front
behind_gate : (payload rest body : List ℕ) → 1 ∷ body ≡ block payload ++ rest → body ≡ to_be_bytes w32 (length payload) ++ (payload ++ rest)
unfolding tail_of
behind_gate payload rest body e = ap tail_of (e ∙ block_then payload rest)

-- two records at one place are one, and so is what follows
same_len : (p q x y : List ℕ) → Fits p → Fits q → block p ++ x ≡ block q ++ y → length p ≡ length q
unfolding tail_of
same_len p q x y fp fq e =
    let bodies : to_be_bytes w32 (length p) ++ (p ++ x) ≡ to_be_bytes w32 (length q) ++ (q ++ y) = ap tail_of (sym (block_then p x) ∙ e ∙ block_then q y) in
    let lens : to_be_bytes w32 (length p) ≡ to_be_bytes w32 (length q) = same_front (to_be_bytes w32 (length p)) (to_be_bytes w32 (length q)) (p ++ x) (q ++ y) refl bodies in
    sym (from_be_bytes-to_be_bytes_4 (length p) (omega arith)) ∙ ap (from_be_bytes w32) lens ∙ from_be_bytes-to_be_bytes_4 (length q) (omega arith)

same_record : (p q x y : List ℕ) → Fits p → Fits q → block p ++ x ≡ block q ++ y → (p ≡ q) × (x ≡ y)
unfolding tail_of
same_record p q x y fp fq e =
    let long : length p ≡ length q = same_len p q x y fp fq e in
    let bodies : to_be_bytes w32 (length p) ++ (p ++ x) ≡ to_be_bytes w32 (length q) ++ (q ++ y) = ap tail_of (sym (block_then p x) ∙ e ∙ block_then q y) in
    let rests : p ++ x ≡ q ++ y = same_back (to_be_bytes w32 (length p)) (to_be_bytes w32 (length q)) (p ++ x) (q ++ y) refl bodies in
    (same_front p q x y long rests, same_back p q x y long rests)

-- no record is at the front
NoRecord : List ℕ → Type 0
NoRecord bytes = (payload rest : List ℕ) → Fits payload → bytes ≡ block payload ++ rest → ⊥

closed_none : (bytes : List ℕ) → IsClosed bytes → NoRecord bytes
unfolding NoRecord head_of
closed_none [] closed payload rest fits e = let long = ap length (e ∙ block_then payload rest) in absurd (omega arith)
closed_none (gate ∷ bytes) closed payload rest fits e = closed (ap head_of (e ∙ block_then payload rest))

broken_none : (bytes : List ℕ) → IsBroken bytes → NoRecord (1 ∷ bytes)
unfolding NoRecord
broken_none bytes broken payload rest fits e =
    let body : bytes ≡ to_be_bytes w32 (length payload) ++ (payload ++ rest) = behind_gate payload rest bytes e in
    let first : take 4 bytes ≡ to_be_bytes w32 (length payload) = ap (take 4) body ∙ take-append_seam (to_be_bytes w32 (length payload)) (payload ++ rest) in
    let n : from_be_bytes w32 (take 4 bytes) ≡ length payload = ap (from_be_bytes w32) first ∙ from_be_bytes-to_be_bytes_4 (length payload) (omega arith) in
    let long : length bytes ≡ 4 + (length payload + length rest) = ap length body ∙ length-append (to_be_bytes w32 (length payload)) (payload ++ rest) ∙ ap (λ k. 4 + k) (length-append payload rest) in
    elim broken [
      | inl short ↦ omega arith
      | inr other ↦ elim other [ inl much ↦ omega arith | inr past ↦ omega arith ]
    ]

-- two lists of records, each followed by no record, are one
same_blocks : (ps qs : List (List ℕ)) (x y : List ℕ) → AllByRecursion Fits ps → AllByRecursion Fits qs → blocks ps ++ x ≡ blocks qs ++ y → NoRecord x → NoRecord y → ps ≡ qs
unfolding NoRecord
same_blocks [] [] x y fp fq e nx ny = refl
same_blocks [] (q ∷ qs) x y fp fq e nx ny = absurd (nx q (blocks qs ++ y) fq.0 (e ∙ append_assoc (block q) (blocks qs) y))
same_blocks (p ∷ ps) [] x y fp fq e nx ny = absurd (ny p (blocks ps ++ x) fp.0 (sym e ∙ append_assoc (block p) (blocks ps) x))
same_blocks (p ∷ ps) (q ∷ qs) x y fp fq e nx ny =
    let same = same_record p q (blocks ps ++ x) (blocks qs ++ y) fp.0 fq.0 (sym (append_assoc (block p) (blocks ps) x) ∙ e ∙ append_assoc (block q) (blocks qs) y) in
    ap (λ (r : List ℕ). r ∷ ps) same.0 ∙ ap (λ (rs : List (List ℕ)). q ∷ rs) (same_blocks ps qs x y fp.1 fq.1 same.1 nx ny)

pub one_log : (bytes : List ℕ) (payloads others : List (List ℕ)) → LogIs bytes payloads → LogIs bytes others → payloads ≡ others
one_log bytes payloads others a b = same_blocks payloads others a.rest b.rest a.fits b.fits (sym a.whole ∙ b.whole) (closed_none a.rest a.closed) (closed_none b.rest b.closed)

-- behind the same records is the same
same_rest : (ps qs : List (List ℕ)) (x y : List ℕ) → ps ≡ qs → blocks ps ++ x ≡ blocks qs ++ y → x ≡ y
same_rest ps qs x y same e = same_back (blocks ps) (blocks qs) x y (ap (λ (rs : List (List ℕ)). length (blocks rs)) same) e

pub not_both : (bytes : List ℕ) (payloads others : List (List ℕ)) (at : ℕ) → LogIs bytes payloads → DamagedAt bytes others at → ⊥
not_both bytes payloads others at a b =
    let same = same_blocks payloads others a.rest (1 ∷ b.rest) a.fits b.fits (sym a.whole ∙ b.whole) (closed_none a.rest a.closed) (broken_none b.rest b.broken) in
    let rest : a.rest ≡ 1 ∷ b.rest = same_rest payloads others a.rest (1 ∷ b.rest) same (sym a.whole ∙ b.whole) in
    let closed : IsClosed (1 ∷ b.rest) = subst IsClosed rest a.closed in closed refl

pub one_damage : (bytes : List ℕ) (payloads others : List (List ℕ)) (at place : ℕ) → DamagedAt bytes payloads at → DamagedAt bytes others place → (payloads ≡ others) × (at ≡ place)
one_damage bytes payloads others at place a b =
    let same = same_blocks payloads others (1 ∷ a.rest) (1 ∷ b.rest) a.fits b.fits (sym a.whole ∙ b.whole) (broken_none a.rest a.broken) (broken_none b.rest b.broken) in
    (same, a.place ∙ ap (λ (rs : List (List ℕ)). length (blocks rs) + 1) same ∙ sym b.place)

-- records that stand at the start of a log are its first
front_blocks : (ps qs : List (List ℕ)) (x y : List ℕ) → AllByRecursion Fits ps → AllByRecursion Fits qs → blocks ps ++ x ≡ blocks qs ++ y → NoRecord y → (more : List (List ℕ)) × (qs ≡ ps ++ more)
unfolding NoRecord
front_blocks [] qs x y fp fq e ny = (qs, refl)
front_blocks (p ∷ ps) [] x y fp fq e ny = absurd (ny p (blocks ps ++ x) fp.0 (sym e ∙ append_assoc (block p) (blocks ps) x))
front_blocks (p ∷ ps) (q ∷ qs) x y fp fq e ny =
    let same = same_record p q (blocks ps ++ x) (blocks qs ++ y) fp.0 fq.0 (sym (append_assoc (block p) (blocks ps) x) ∙ e ∙ append_assoc (block q) (blocks qs) y) in
    let behind = front_blocks ps qs x y fp.1 fq.1 same.1 ny in
    (behind.0, ap (λ (r : List ℕ). r ∷ qs) (sym same.0) ∙ ap (λ (rs : List (List ℕ)). p ∷ rs) behind.1)

pub log_front : (bytes rest : List ℕ) (payloads others : List (List ℕ)) → LogIs bytes payloads → AllByRecursion Fits others → bytes ≡ blocks others ++ rest → (more : List (List ℕ)) × (payloads ≡ others ++ more)
log_front bytes rest payloads others is fits e = front_blocks others payloads rest is.rest fits is.fits (sym e ∙ is.whole) (closed_none is.rest is.closed)

-- a record more at the end
pub blocks-join : (payloads more : List (List ℕ)) → blocks (payloads ++ more) ≡ blocks payloads ++ blocks more
blocks-join [] more = refl
blocks-join (p ∷ payloads) more = ap (λ (l : List ℕ). block p ++ l) (blocks-join payloads more) ∙ sym (append_assoc (block p) (blocks payloads) (blocks more))

pub blocks-append : (payloads : List (List ℕ)) (payload : List ℕ) → blocks (payloads ++ payload ∷ []) ≡ blocks payloads ++ block payload
blocks-append payloads payload = blocks-join payloads (payload ∷ []) ∙ ap (λ (l : List ℕ). blocks payloads ++ l) (append-nil (block payload))

pub fits-join : (payloads more : List (List ℕ)) → AllByRecursion Fits payloads → AllByRecursion Fits more → AllByRecursion Fits (payloads ++ more)
fits-join [] more all fits = fits
fits-join (p ∷ payloads) more all fits = (all.0, fits-join payloads more all.1 fits)

pub fits-append : (payloads : List (List ℕ)) (payload : List ℕ) → AllByRecursion Fits payloads → Fits payload → AllByRecursion Fits (payloads ++ payload ∷ [])
fits-append payloads payload all fits = fits-join payloads (payload ∷ []) all (fits, tt)

-- what four bytes and as many bytes as they say spell
pub read_block : (bytes : List ℕ) (n : ℕ) → IsBytes bytes → 4 + n ≤ length bytes → n ≡ from_be_bytes w32 (take 4 bytes) → 1 ∷ bytes ≡ block (take n (drop 4 bytes)) ++ drop n (drop 4 bytes)
read_block bytes n are fits is =
    let payload = take n (drop 4 bytes) in
    let long : length payload ≡ n = length-take-le n (drop 4 bytes) (omega (arith, length-drop 4 bytes)) in
    let first : to_be_bytes w32 (length payload) ≡ take 4 bytes = be_bytes_4 (take 4 bytes) (length payload) (length-take-le 4 bytes (omega arith)) (λ i. byte i) (long ∙ is) in
    ap (λ (l : List ℕ). 1 ∷ l) (sym (take-append-drop 4 bytes) ∙ ap (λ (l : List ℕ). l ++ drop 4 bytes) (sym first) ∙ ap (λ (l : List ℕ). to_be_bytes w32 (length payload) ++ l) (sym (take-append-drop n (drop 4 bytes))))
    ∙ sym (block_then payload (drop n (drop 4 bytes)))
  where
    byte : (i : ℕ) → get_or (take 4 bytes) i 0 < 256
    byte i = elim (cases_lt i 4) [
      | inl low ↦ subst (λ b. b < 256) (sym (get_or-take 4 bytes i 0 low)) (are i)
      | inr high ↦ subst (λ b. b < 256) (sym (get_or_past (take 4 bytes) i 0 (omega (arith, length-take 4 bytes)))) (omega arith)
    ]

LogOrDamaged : List ℕ → Type 0
LogOrDamaged bytes = (payloads : List (List ℕ)) × (LogIs bytes payloads ⊎ ((at : ℕ) × DamagedAt bytes payloads at))

-- with a record in front
one_more : (bytes payload rest : List ℕ) → Fits payload → bytes ≡ block payload ++ rest → LogOrDamaged rest → LogOrDamaged bytes
unfolding LogOrDamaged
one_more bytes payload rest fits e (payloads, inl is) = (
  payload ∷ payloads,
  inl (record {
    rest = is.rest;
    whole = e ∙ ap (λ (l : List ℕ). block payload ++ l) is.whole ∙ sym (append_assoc (block payload) (blocks payloads) is.rest);
    closed = is.closed;
    fits = (fits, is.fits);
  }),
)
one_more bytes payload rest fits e (payloads, inr (at, damaged)) = (
  payload ∷ payloads,
  inr (
    length (block payload) + at,
    record {
      rest = damaged.rest;
      whole = e ∙ ap (λ (l : List ℕ). block payload ++ l) damaged.whole ∙ sym (append_assoc (block payload) (blocks payloads) (1 ∷ damaged.rest));
      fits = (fits, damaged.fits);
      place = omega (arith, damaged.place, length-append (block payload) (blocks payloads));
      broken = damaged.broken;
    },
  ),
)

IsBytes-behind : (bytes : List ℕ) (n : ℕ) → IsBytes bytes → IsBytes (drop n bytes)
IsBytes-behind bytes n are i = subst (λ b. b < 256) (sym (get_or-drop n bytes i 0)) (are (n + i))

scan : (most : ℕ) (bytes : List ℕ) → length bytes ≤ most → IsBytes bytes → LogOrDamaged bytes
unfolding LogOrDamaged
scan most [] le are = ([], inl (record { rest = []; whole = refl; closed = tt; fits = tt }))
scan zero (gate ∷ bytes) le are = absurd (omega arith)
scan (suc most) (gate ∷ bytes) le are = elim (cases_eq gate 1) [
  | inr closed ↦ ([], inl (record { rest = gate ∷ bytes; whole = refl; closed = closed; fits = tt }))
  | inl open_gate ↦
      let whole : gate ∷ bytes ≡ 1 ∷ bytes = ap (λ g. g ∷ bytes) open_gate in
      let n = from_be_bytes w32 (take 4 bytes) in
      let damaged : IsBroken bytes → LogOrDamaged (gate ∷ bytes) = λ broken. ([], inr (1, record { rest = bytes; whole = whole; fits = tt; place = refl; broken = broken })) in
      elim (cases_lt (length bytes) 4) [
        | inl short ↦ damaged (inl short)
        | inr some ↦ elim (cases_lt (2 ^ 24) n) [
          | inl much ↦ damaged (inr (inl much))
          | inr few ↦ elim (cases_lt (length bytes) (4 + n)) [
            | inl past ↦ damaged (inr (inr past))
            | inr fits ↦
                let bytes_are : IsBytes bytes = IsBytes-behind (gate ∷ bytes) 1 are in
                one_more (gate ∷ bytes) (take n (drop 4 bytes)) (drop n (drop 4 bytes)) (omega (arith, length-take n (drop 4 bytes)))
                (whole ∙ read_block bytes n bytes_are fits refl)
                (scan most (drop n (drop 4 bytes)) (omega (arith, length-drop n (drop 4 bytes), length-drop 4 bytes)) (IsBytes-behind (drop 4 bytes) n (IsBytes-behind bytes 4 bytes_are)))
          ]
        ]
      ]
]

pub log_or_damaged : (bytes : List ℕ) → IsBytes bytes → (payloads : List (List ℕ)) × (LogIs bytes payloads ⊎ ((at : ℕ) × DamagedAt bytes payloads at))
unfolding LogOrDamaged
log_or_damaged bytes are = scan (length bytes) bytes (omega arith) are
