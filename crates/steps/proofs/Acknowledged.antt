-- What is acknowledged once all was made durable.
use Rattle.std.proofs.Common.{◌≡◌, Bool, true, false, ◌||◌, List, [], ◌∷◌, ◌++◌, Ok, Err, refl, ap, ◌∙◌, if◌then◌else◌}
use Rattle.std.proofs.lemmas.List.Folds.{list_any-append}
use Rattle.steps.specs.Events.{Deed, Event}
use Rattle.steps.specs.Events.Deed.{OpenNew, OpenCopy, WritePiece, CopyPiece, Seal, Commit, DropTicket, ReadPiece, Ask, Image, Reuse, Force}
use Rattle.steps.specs.Receipts.{forces, is_forced, is_made, is_receipt, made, receipts}

or-true : (b : Bool) → (b || true) ≡ true
or-true true = refl
or-true false = refl

forced-behind : (xs ys : List Event) → is_forced ys ≡ true → is_forced (xs ++ ys) ≡ true
forced-behind xs ys h = list_any-append (λ e. forces e.deed) xs ys ∙ ap (λ b. is_forced xs || b) h ∙ or-true (is_forced xs)

receipt-made : (d : Deed) (later : List Event) → is_forced later ≡ true → is_receipt d later ≡ is_made d
receipt-made (OpenNew pool size prefer answer) later h = refl
receipt-made (OpenCopy object aim avoid answer) later h = refl
receipt-made (WritePiece ticket bytes answer) later h = refl
receipt-made (CopyPiece ticket answer) later h = refl
receipt-made (Seal ticket answer) later h = refl
receipt-made (Commit asked tickets (Ok number)) later h = h
receipt-made (Commit asked tickets (Err e)) later h = refl
receipt-made (DropTicket ticket answer) later h = refl
receipt-made (ReadPiece object kept from offset wanted answer) later h = refl
receipt-made (Ask query answer) later h = refl
receipt-made (Image kind answer) later h = refl
receipt-made (Reuse file (Ok number)) later h = refl
receipt-made (Reuse file (Err e)) later h = refl
receipt-made (Force answer) later h = refl

one-more : (b : Bool) (e : Event) (events others : List Event) → (if b then e ∷ [] else []) ++ (events ++ others) ≡ (if b then e ∷ events else events) ++ others
one-more true e events others = refl
one-more false e events others = refl

-- what joined before all was made durable is acknowledged
pub receipts-behind : (xs ys : List Event) → is_forced ys ≡ true → receipts (xs ++ ys) ≡ made xs ++ receipts ys
receipts-behind [] ys h = refl
receipts-behind (x ∷ xs) ys h =
    ap (λ (b : Bool). (if b then x ∷ [] else []) ++ receipts (xs ++ ys)) (receipt-made x.deed (xs ++ ys) (forced-behind xs ys h))
    ∙ ap (λ (r : List Event). (if is_made x.deed then x ∷ [] else []) ++ r) (receipts-behind xs ys h)
    ∙ one-more (is_made x.deed) x (made xs) (receipts ys)
