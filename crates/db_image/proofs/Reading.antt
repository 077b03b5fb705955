-- Reading an image, from what its steps found.
use Rattle.std.proofs.Common.{◌≡◌, ℕ, ◌+◌, ◌-◌, ◌≤◌, min, List, ◌∷◌, ◌++◌, length, take, drop, sym, ◌∙◌, ap, subst, append_assoc, length-append, arith}
use Rattle.std.proofs.Math.Seq.{take-add}
use Rattle.std.proofs.lemmas.List.{take-append-drop, drop-drop, drop_at, length-take, length-drop}
use Rattle.kinds.specs.declared.refusal.OpenRefused.{OpenRefused}
use Rattle.kinds.specs.declared.refusal.OpenRefused.TheVariants.{ReadFault, NotFormatted, Damaged, RunFull, Memory}
use Rattle.store_api.specs.Cause.{NoneFell}
use Rattle.log_file.specs.Cursor.{MayRefuse}
use Rattle.log_file.specs.Windows.{NoDamage}
use Rattle.db_image.specs.declared.mark.Mark.{Mark}
use Rattle.db_image.specs.Images.{head_bytes, IsSpent, HasHead, HasImage}
use Rattle.db_image.specs.Reads.{SaysDamage}
use Rattle.db_image.proofs.Writing.{length-head_bytes}

-- a piece more of what follows the head
pub piece_more : (bytes payload more : List ℕ) (done room len now : ℕ) → payload ≡ take done (drop 24 bytes) → more ≡ payload ++ take (min room (len - done)) (drop (24 + done) bytes)
    → done ≤ len → 24 + len ≤ length bytes → now ≡ length more → more ≡ take now (drop 24 bytes)
piece_more bytes payload more done room len now was added le long is =
    let k = min room (len - done) in
    let joined : take done (drop 24 bytes) ++ take k (drop (24 + done) bytes) ≡ take (done + k) (drop 24 bytes) =
    ap (λ (r : List ℕ). take done (drop 24 bytes) ++ take k r) (sym (drop-drop done 24 bytes)) ∙ sym (take-add done k (drop 24 bytes)) in
    let whole : more ≡ take (done + k) (drop 24 bytes) = added ∙ ap (λ (r : List ℕ). r ++ take k (drop (24 + done) bytes)) was ∙ joined in
    let many : now ≡ done + k = is ∙ ap length whole ∙ (let e : length (take (done + k) (drop 24 bytes)) ≡ done + k = omega (arith, length-take (done + k) (drop 24 bytes), length-drop 24 bytes, le, long) in e) in
    whole ∙ ap (λ n. take n (drop 24 bytes)) (sym many)

-- what refuses a later call refuses the whole
pub refused_later : (file : ℕ) (before mid after : ℕ → ℕ) (moment : ℕ) (refusal : OpenRefused) → NoneFell before mid → MayRefuse file mid after moment refusal → MayRefuse file before after moment refusal
refused_later file before mid after moment (ReadFault which) none_fell why = (why.0, omega (arith, none_fell file, why.1))
refused_later file before mid after moment (Damaged which at) none_fell why = why
refused_later file before mid after moment NotFormatted none_fell why = why
refused_later file before mid after moment RunFull none_fell why = why
refused_later file before mid after moment Memory none_fell why = why

-- the bytes behind a head
behind_head : (bytes head rest : List ℕ) → bytes ≡ 1 ∷ (head ++ rest) → length head ≡ 23 → drop 24 bytes ≡ rest
behind_head bytes head rest whole long = ap (drop 24) whole ∙ drop_at head rest 23 long

-- as many bytes behind a head as it says are its payload
pub image_found : (file number len : ℕ) (mark : Mark) (bytes payload : List ℕ) → HasHead file mark bytes number len → (24 + len ≤ length bytes → payload ≡ take len (drop 24 bytes)) → HasImage file mark bytes number payload
image_found file number len mark bytes payload has read =
    let head = head_bytes mark number len in
    let long = length-head_bytes mark number len in
    let rest : drop 24 bytes ≡ has.rest = behind_head bytes head has.rest has.whole long in
    let is : payload ≡ take len has.rest = read (omega (arith, ap length has.whole, length-append head has.rest, long, has.within)) ∙ ap (take len) rest in
    let many : length payload ≡ len = ap length is ∙ (let e : length (take len has.rest) ≡ len = omega (arith, length-take len has.rest, has.within) in e) in
    record {
      rest = drop len has.rest;
      whole = has.whole ∙ ap (λ (l : List ℕ). 1 ∷ l) (ap (λ (l : List ℕ). head ++ l) (sym (take-append-drop len has.rest) ∙ ap (λ (l : List ℕ). l ++ drop len has.rest) (sym is)) ∙ sym (append_assoc head payload (drop len has.rest)) ∙ ap (λ n. (head_bytes mark number n ++ payload) ++ drop len has.rest) (sym many));
      allowed = has.allowed;
      unspent = subst (λ (l : List ℕ). ¬ IsSpent mark number l) (sym (take-append-drop len has.rest) ∙ ap (λ (l : List ℕ). l ++ drop len has.rest) (sym is)) has.unspent;
      small = omega (arith, many, has.small);
    }

-- a head whose payload lies within the file is long enough
pub head_within : (file number len : ℕ) (mark : Mark) (bytes : List ℕ) → HasHead file mark bytes number len → 24 + len ≤ length bytes
head_within file number len mark bytes has = omega (arith, ap length has.whole, length-append (head_bytes mark number len) has.rest, length-head_bytes mark number len, has.within)

-- a refusal that says nothing of damage
pub says_nothing : (file : ℕ) (mark : Mark) (bytes : List ℕ) (refusal : OpenRefused) → NoDamage refusal → SaysDamage file mark bytes refusal
says_nothing file mark bytes (ReadFault which) none = tt
says_nothing file mark bytes (Damaged which at) none = absurd none
says_nothing file mark bytes NotFormatted none = tt
says_nothing file mark bytes RunFull none = tt
says_nothing file mark bytes Memory none = tt
