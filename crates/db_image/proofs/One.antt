-- Which image the bytes of a file have.
use Rattle.std.proofs.Common.{◌≡◌, ◌≢◌, ◌⊎◌, inl, inr, ℕ, ◌+◌, ◌<◌, ◌^◌, List, [], ◌∷◌, ◌++◌, length, take, drop, refl, sym, ◌∙◌, ap, subst, append_assoc, length-append, arith}
use Rattle.std.proofs.lemmas.List.{take_at, drop_at, take-append-drop, length-take}
use Rattle.std.proofs.lemmas.Nat.{from_be_bytes-to_be_bytes_8}
use Rattle.store_api.specs.Disk.{Standing, Leaves, History, standing, reads, settled, now}
use Rattle.store_api.specs.Runs.{Stands, Firm, GoesOn, EachImage}
use Rattle.store_api.proofs.Standings.{firm_settled}
use Rattle.store_api.proofs.Runs.{goes_standing, each_weaker}
use Rattle.store_api.proofs.Pieces.{firm_beside, firm_since}
use Rattle.log_file.specs.Blocks.{IsClosed}
use Rattle.db_image.specs.declared.mark.Mark.{Mark}
use Rattle.db_image.specs.declared.mark.Mark.TheVariants.{Server, Backup}
use Rattle.db_image.specs.declared.phase.Phase.{Phase}
use Rattle.db_image.specs.declared.phase.Phase.TheVariants.{Begun, Written, Durable, Open, Failed}
use Rattle.db_image.specs.Images.{mark_bytes, head_bytes, body_bytes, image_bytes, IsNumber, IsSpent, NeverSpent, HasHead, HasImage, IsWrong, DamagedAt, number_in, len_in}
use Rattle.db_image.specs.Steps.{Job, FirmShut, CanShut, UnderwayAs}
use Rattle.db_image.proofs.Heads.{spent_with}
use Rattle.db_image.proofs.Writing.{length-head_bytes}

bounded : (file number : ℕ) (mark : Mark) → IsNumber mark file number → number < 2 ^ 64
bounded file number Server is = omega (arith, is.0)
bounded file number Backup is = omega (arith, is)

-- what stands behind the gate of an image
marked : (mark : Mark) (number len : ℕ) (more : List ℕ) → take 7 (head_bytes mark number len ++ more) ≡ mark_bytes mark
unfolding head_bytes
marked Server number len more = refl
marked Backup number len more = refl

numbered : (mark : Mark) (number len : ℕ) (more : List ℕ) → number < 2 ^ 64 → number_in (head_bytes mark number len ++ more) ≡ number
unfolding head_bytes
numbered Server number len more small = from_be_bytes-to_be_bytes_8 number small
numbered Backup number len more small = from_be_bytes-to_be_bytes_8 number small

measured : (mark : Mark) (number len : ℕ) (more : List ℕ) → len < 2 ^ 64 → len_in (head_bytes mark number len ++ more) ≡ len
unfolding head_bytes
measured Server number len more small = from_be_bytes-to_be_bytes_8 len small
measured Backup number len more small = from_be_bytes-to_be_bytes_8 len small

-- the parts of an image's bytes
behind : (file number : ℕ) (mark : Mark) (bytes payload : List ℕ) (has : HasImage file mark bytes number payload) → bytes ≡ 1 ∷ (head_bytes mark number (length payload) ++ (payload ++ has.rest))
behind file number mark bytes payload has = has.whole ∙ ap (λ (l : List ℕ). 1 ∷ l) (append_assoc (head_bytes mark number (length payload)) payload has.rest)

pub one : (file number other : ℕ) (mark : Mark) (bytes payload others : List ℕ) → HasImage file mark bytes number payload → HasImage file mark bytes other others → (number ≡ other) × (payload ≡ others)
one file number other mark bytes payload others a b =
    let x = behind file number mark bytes payload a in
    let y = behind file other mark bytes others b in
    let same : head_bytes mark number (length payload) ++ (payload ++ a.rest) ≡ head_bytes mark other (length others) ++ (others ++ b.rest) = ap (drop 1) (sym x ∙ y) in
    let lens : length payload ≡ length others = sym (measured mark number (length payload) (payload ++ a.rest) a.small) ∙ ap len_in same ∙ measured mark other (length others) (others ++ b.rest) b.small in
    let after : payload ++ a.rest ≡ others ++ b.rest =
    sym (drop_at (head_bytes mark number (length payload)) (payload ++ a.rest) 23 (length-head_bytes mark number (length payload))) ∙ ap (drop 23) same ∙ drop_at (head_bytes mark other (length others)) (others ++ b.rest) 23 (length-head_bytes mark other (length others)) in (
      sym (numbered mark number (length payload) (payload ++ a.rest) (bounded file number mark a.allowed)) ∙ ap number_in same ∙ numbered mark other (length others) (others ++ b.rest) (bounded file other mark b.allowed),
      sym (take_at payload a.rest (length payload) refl) ∙ ap (take (length payload)) after ∙ take_at others b.rest (length payload) (sym lens),
    )

pub opened : (file number : ℕ) (mark : Mark) (bytes payload : List ℕ) → HasImage file mark bytes number payload → ¬ IsClosed bytes
opened file number mark bytes payload has closed = subst IsClosed has.whole closed refl

pub damaged_open : (file at : ℕ) (mark : Mark) (bytes : List ℕ) → DamagedAt file mark bytes at → ¬ IsClosed bytes
damaged_open file at mark bytes damaged closed = subst IsClosed damaged.whole closed refl

-- an image of a generation that has a next one isn't spent
pub never_spent_less : (mark : Mark) (number : ℕ) (payload : List ℕ) → number + 1 < 2 ^ 62 → NeverSpent mark number payload
never_spent_less Server number payload less rest spent = absurd (omega (arith, less, spent.0))
never_spent_less Backup number payload less rest spent = spent

-- a payload that begins with another byte than 1 isn't spent
pub never_spent_other : (mark : Mark) (number b : ℕ) (payload : List ℕ) → b ≢ 1 → NeverSpent mark number (b ∷ payload)
never_spent_other Server number b payload other rest spent = other (let same : b ∷ (payload ++ rest) ≡ 1 ∷ spent.1.0 = spent.1.1 in cc)
never_spent_other Backup number b payload other rest spent = spent

-- the image of a file isn't spent
pub has_never_spent : (file number b : ℕ) (mark : Mark) (bytes payload : List ℕ) → HasImage file mark bytes number (b ∷ payload) → NeverSpent mark number (b ∷ payload)
has_never_spent file number b mark bytes payload has rest spent = has.unspent (spent_with mark number b (payload ++ rest) (payload ++ has.rest) spent)

-- what stands behind a head
beyond : (mark : Mark) (number len : ℕ) (more : List ℕ) → drop 23 (head_bytes mark number len ++ more) ≡ more
beyond mark number len more = drop_at (head_bytes mark number len) more 23 (length-head_bytes mark number len)

-- an image has nothing wrong in front of its payload
nothing_wrong : (file number at : ℕ) (mark : Mark) (payload more : List ℕ) → IsNumber mark file number → ¬ IsSpent mark number (payload ++ more) → length payload < 2 ^ 64 →
    (let rest = head_bytes mark number (length payload) ++ (payload ++ more) in ¬ IsWrong file mark (length rest) rest at)
nothing_wrong file number at mark payload more allowed unspent small wrong =
    let rest = head_bytes mark number (length payload) ++ (payload ++ more) in
    let bound = bounded file number mark allowed in
    let long : length rest ≡ 23 + (length payload + length more) = omega (arith, length-append (head_bytes mark number (length payload)) (payload ++ more), length-append payload more, length-head_bytes mark number (length payload)) in
    elim wrong [
      | inl first ↦ elim first.1 [ inl short ↦ absurd (omega (arith, short, long)) | inr other ↦ other (marked mark number (length payload) (payload ++ more)) ]
      | inr more_wrong ↦ elim more_wrong [
        | inl second ↦ elim second.3 [
          | inl short ↦ absurd (omega (arith, short, long))
          | inr other ↦ elim other [
            | inl none ↦ none (subst (IsNumber mark file) (sym (numbered mark number (length payload) (payload ++ more) bound)) allowed)
            | inr spent ↦ unspent (subst (λ n. IsSpent mark n (payload ++ more)) (numbered mark number (length payload) (payload ++ more) bound) (subst (IsSpent mark (number_in rest)) (beyond mark number (length payload) (payload ++ more)) spent))
          ]
        ]
        | inr third ↦ elim third.5 [ inl short ↦ absurd (omega (arith, short, long)) | inr past ↦ absurd (omega (arith, past, long, measured mark number (length payload) (payload ++ more) small)) ]
      ]
    ]

pub not_damaged : (file number at : ℕ) (mark : Mark) (bytes payload : List ℕ) → HasImage file mark bytes number payload → ¬ DamagedAt file mark bytes at
not_damaged file number at mark bytes payload has damaged =
    let same : damaged.rest ≡ head_bytes mark number (length payload) ++ (payload ++ has.rest) = ap (drop 1) (sym damaged.whole ∙ behind file number mark bytes payload has) in
    nothing_wrong file number at mark payload has.rest has.allowed has.unspent has.small (subst (λ (r : List ℕ). IsWrong file mark (length r) r at) same damaged.wrong)

-- the first that is wrong is one
one_wrong : (file left at place : ℕ) (mark : Mark) (rest : List ℕ) → IsWrong file mark left rest at → IsWrong file mark left rest place → at ≡ place
one_wrong file left at place mark rest (inl a) (inl b) = a.0 ∙ sym b.0
one_wrong file left at place mark rest (inl a) (inr (inl b)) = absurd (elim a.1 [ inl short ↦ omega (arith, short, b.1) | inr other ↦ other b.2 ])
one_wrong file left at place mark rest (inl a) (inr (inr b)) = absurd (elim a.1 [ inl short ↦ omega (arith, short, b.1) | inr other ↦ other b.2 ])
one_wrong file left at place mark rest (inr (inl a)) (inl b) = absurd (elim b.1 [ inl short ↦ omega (arith, short, a.1) | inr other ↦ other a.2 ])
one_wrong file left at place mark rest (inr (inl a)) (inr (inl b)) = a.0 ∙ sym b.0
one_wrong file left at place mark rest (inr (inl a)) (inr (inr b)) = absurd (elim a.3 [ inl short ↦ omega (arith, short, b.1) | inr other ↦ elim other [ inl none ↦ none b.3 | inr spent ↦ b.4 spent ] ])
one_wrong file left at place mark rest (inr (inr a)) (inl b) = absurd (elim b.1 [ inl short ↦ omega (arith, short, a.1) | inr other ↦ other a.2 ])
one_wrong file left at place mark rest (inr (inr a)) (inr (inl b)) = absurd (elim b.3 [ inl short ↦ omega (arith, short, a.1) | inr other ↦ elim other [ inl none ↦ none a.3 | inr spent ↦ a.4 spent ] ])
one_wrong file left at place mark rest (inr (inr a)) (inr (inr b)) = a.0 ∙ sym b.0

pub one_place : (file at place : ℕ) (mark : Mark) (bytes : List ℕ) → DamagedAt file mark bytes at → DamagedAt file mark bytes place → at ≡ place
one_place file at place mark bytes a b =
    let same : b.rest ≡ a.rest = ap (drop 1) (sym b.whole ∙ a.whole) in
    one_wrong file (length a.rest) at place mark a.rest a.wrong (subst (λ (r : List ℕ). IsWrong file mark (length r) r place) same b.wrong)

pub stands_image : (file number : ℕ) (mark : Mark) (bytes payload : List ℕ) → IsNumber mark file number → NeverSpent mark number payload → length payload < 2 ^ 64 → Stands bytes 0 (image_bytes mark number payload) → HasImage file mark bytes number payload
stands_image file number mark bytes payload allowed never small stands =
    let image = image_bytes mark number payload in
    record { rest = drop (length image) bytes; whole = sym (take-append-drop (length image) bytes) ∙ ap (λ (l : List ℕ). l ++ drop (length image) bytes) stands.same; allowed = allowed; unspent = never (drop (length image) bytes); small = small }

pub image_settled : (file number : ℕ) (mark : Mark) (bytes payload : List ℕ) → HasImage file mark bytes number payload → Firm (settled bytes) 0 (image_bytes mark number payload)
image_settled file number mark bytes payload has =
    let image = image_bytes mark number payload in
    firm_settled bytes 0 image (record { some = omega arith; same = ap (take (length image)) has.whole ∙ take_at image has.rest (length image) refl })

pub can_shut : (bytes : List ℕ) → CanShut (settled bytes)
unfolding settled
can_shut [] = inr refl
can_shut (first ∷ rest) = inl (first, firm_settled (first ∷ rest) 0 (first ∷ []) (record { some = omega arith; same = refl }))

module _ (theirs : ℕ → Type 0) (old new : History) (goes : GoesOn theirs old new) where
  shut_beside : (file : ℕ) → ¬ theirs file → FirmShut (standing old file) → FirmShut (standing new file)
  shut_beside file beside shut = record { gate = shut.gate; closed = shut.closed; firm = firm_beside theirs old new file 0 (shut.gate ∷ []) beside goes shut.firm }

  stands_beside : (file at : ℕ) (piece : List ℕ) → ¬ theirs file → Stands (reads old file) at piece → Stands (reads new file) at piece
  stands_beside file at piece beside stands = subst (λ (s : Standing). Stands s.bytes at piece) (sym (goes_standing theirs old new file beside goes)) stands

  pub underway_beside : (phase : Phase) (job : Job) → ¬ theirs job.file → UnderwayAs phase job old → UnderwayAs phase job new
  underway_beside Begun job beside under = subst CanShut (sym (goes_standing theirs old new job.file beside goes)) under
  underway_beside (Written done) job beside under = (shut_beside job.file beside under.0, stands_beside job.file 1 _ beside under.1)
  underway_beside Durable job beside under = (shut_beside job.file beside under.0, firm_beside theirs old new job.file 1 (body_bytes job.mark job.number job.payload) beside goes under.1)
  underway_beside Open job beside under = firm_beside theirs old new job.file 0 (image_bytes job.mark job.number job.payload) beside goes under
  underway_beside Failed job beside under = tt

  pub image_since : (file number : ℕ) (mark : Mark) (payload : List ℕ) → ¬ theirs file → IsNumber mark file number → NeverSpent mark number payload → length payload < 2 ^ 64 → Firm (standing old file) 0 (image_bytes mark number payload) →
      EachImage (now old) new (λ image. HasImage file mark (image file) number payload)
  image_since file number mark payload beside allowed never small firm =
      each_weaker (now old) new _ _ (λ image stands. stands_image file number mark (image file) payload allowed never small stands) (firm_since theirs old new file 0 (image_bytes mark number payload) beside goes firm)

-- a head in front of as many bytes as it says is an image's
pub head_image : (file number len : ℕ) (mark : Mark) (bytes : List ℕ) → HasHead file mark bytes number len → (payload : List ℕ) × HasImage file mark bytes number payload × (length payload ≡ len)
head_image file number len mark bytes head =
    let long : length (take len head.rest) ≡ len = omega (arith, length-take len head.rest, head.within) in (
      take len head.rest,
      record {
        rest = drop len head.rest;
        whole = head.whole ∙ ap (λ (l : List ℕ). 1 ∷ l) (
            ap (λ (l : List ℕ). head_bytes mark number len ++ l) (sym (take-append-drop len head.rest)) ∙ sym (append_assoc (head_bytes mark number len) (take len head.rest) (drop len head.rest))
            ∙ ap (λ n. (head_bytes mark number n ++ take len head.rest) ++ drop len head.rest) (sym long));
        allowed = head.allowed;
        unspent = subst (λ (l : List ℕ). ¬ IsSpent mark number l) (sym (take-append-drop len head.rest)) head.unspent;
        small = omega (arith, long, head.small);
      },
      long,
    )

-- an open gate alone is no image
not_one : (file number : ℕ) (mark : Mark) (payload : List ℕ) → HasImage file mark (1 ∷ []) number payload → ⊥
not_one file number mark payload has =
    let long = ap length (behind file number mark (1 ∷ []) payload has) in
    absurd (omega (arith, long, length-head_bytes mark number (length payload), length-append (head_bytes mark number (length payload)) (payload ++ has.rest)))

-- where each stop leaves a shut gate or an image, a gate that is shut is there to stay
pub stays_shut : (file : ℕ) (mark : Mark) (bytes : List ℕ) → IsClosed bytes → ((left : List ℕ) → Leaves (settled bytes) left → IsClosed left ⊎ ((number : ℕ) × (payload : List ℕ) × HasImage file mark left number payload)) → FirmShut (settled bytes)
unfolding settled
stays_shut file mark [] closed each = absurd (elim (each (1 ∷ []) (record { long = omega arith; same = λ place lt not. absurd (omega (arith, lt)) })) [ inl shut ↦ shut refl | inr image ↦ not_one file image.0 mark image.1 image.2 ])
stays_shut file mark (gate ∷ rest) closed each = record { gate = gate; closed = closed; firm = firm_settled (gate ∷ rest) 0 (gate ∷ []) (record { some = omega arith; same = refl }) }
