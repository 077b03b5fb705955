-- The bytes of the increment that holds transactions.
use Rattle.std.proofs.Common.{◌≡◌, ℕ, ◌+◌, ◌^◌, ◌<◌, ◌≤◌, List, [], ◌∷◌, ◌++◌, length, take, map, refl, sym, ap, ◌∙◌, append_assoc, arith, All}
use Rattle.std.specs.Int.{w32, w64, to_be_bytes}
use Rattle.std.specs.List.{flat_map, AllByRecursion}
use Rattle.std.proofs.lemmas.Bool.{lt-ltb}
use Rattle.std.specs.Prelude.{get_or}
use Rattle.std.proofs.lemmas.Grind.{take_at_read}
use Rattle.std.proofs.lemmas.List.{length-append, length-map, flat_map_more}
use Rattle.std.proofs.lemmas.List.Folds.{flat_map-map}
use Rattle.std.proofs.lemmas.List.Elements.{All-head, All-tail, All-push}
use Rattle.entries.specs.declared.entry.Entry.{Entry}
use Rattle.entries.specs.EntryForm.{entry}
use Rattle.backup_payloads.specs.Increments.{increment, record_bytes, IsIncrement}
use Rattle.backup_payloads.specs.Holding.{holding, record_of, front_bytes, IsShort}

-- what stands in front, and what follows it
front : (after number count : ℕ) (bytes : List ℕ) → front_bytes after number count ++ bytes ≡ 3 ∷ (to_be_bytes w32 after ++ (to_be_bytes w64 number ++ (to_be_bytes w32 count ++ bytes)))
front after number count bytes =
    ap (λ (rest : List ℕ). 3 ∷ rest) (append_assoc (to_be_bytes w32 after) (to_be_bytes w64 number ++ to_be_bytes w32 count) bytes ∙ ap (λ (rest : List ℕ). to_be_bytes w32 after ++ rest) (append_assoc (to_be_bytes w64 number) (to_be_bytes w32 count) bytes))

pub spelled : (after number : ℕ) (entries : List Entry) → front_bytes after number (length entries) ++ flat_map record_of entries ≡ increment.spell (holding after number entries)
unfolding increment
spelled after number entries =
    let few : length (map entry.spell entries) ≡ length entries = length-map entries entry.spell in
    let each : flat_map record_bytes.spell (map entry.spell entries) ≡ flat_map record_of entries = flat_map-map record_bytes.spell entry.spell entries in
    front after number (length entries) (flat_map record_of entries) ∙ rw (few, each) refl

short_records : (entries : List Entry) → All IsShort entries → AllByRecursion record_bytes.Fits (map entry.spell entries)
short_records [] all = tt
short_records (e ∷ es) all =
    let few : length (entry.spell e) ≤ 2 ^ 24 = (All-head IsShort e es all).1 in
    (omega (arith, few), short_records es (All-tail IsShort e es all))

pub fits : (after number : ℕ) (entries : List Entry) → after < 2 ^ 32 → length entries < 2 ^ 32 → number + length entries < 2 ^ 62 → All IsShort entries → increment.Fits (holding after number entries)
unfolding increment
fits after number entries file few last all =
    let same : length (map entry.spell entries) ≡ length entries = length-map entries entry.spell in
    (omega arith, ((omega (arith, file), (omega (arith, last), (omega (arith, few, same), omega (arith, few, same), short_records entries all))), lt-ltb _ _ (omega (arith, last, same))))

-- the records of one transaction more
pub grown : (made : List Entry) (i : ℕ) (x : Entry) (before now new : List ℕ) → i < length made → x ≡ get_or made i x → now ≡ before ++ flat_map record_of (take i made) → All IsShort (take i made) → new ≡ now ++ record_of x → IsShort x
    → (new ≡ before ++ flat_map record_of (take (i + 1) made)) × All IsShort (take (i + 1) made)
grown made i x before now new lt at so_far all more short =
    let longer : take (i + 1) made ≡ take i made ++ x ∷ [] = (take_at_read made i x lt).1 ∙ ap (λ (y : Entry). take i made ++ y ∷ []) (sym at) in
    rw longer (more ∙ ap (λ (bytes : List ℕ). bytes ++ record_of x) so_far ∙ flat_map_more record_of before (take i made) x, All-push IsShort (take i made) x all short)

-- what stands in front, and the records behind it, put after nothing
pub whole : (after number : ℕ) (made : List Entry) (nothing begun all : List ℕ) → after < 2 ^ 32 → length made < 2 ^ 32 → number + length made < 2 ^ 62 → All IsShort made
    → nothing ≡ [] → begun ≡ nothing ++ front_bytes after number (length made) → all ≡ begun ++ flat_map record_of made → IsIncrement all (holding after number made)
whole after number made nothing begun all file few last short none first then = (
  fits after number made file few last short,
  then ∙ ap (λ (bytes : List ℕ). bytes ++ flat_map record_of made) (first ∙ ap (λ (bytes : List ℕ). bytes ++ front_bytes after number (length made)) none) ∙ spelled after number made,
)

-- the same with one transaction more
pub whole_and : (after number : ℕ) (made : List Entry) (x : Entry) (nothing begun front all : List ℕ) → after < 2 ^ 32 → length made + 1 < 2 ^ 32 → number + length made + 1 < 2 ^ 62 → All IsShort made → IsShort x
    → nothing ≡ [] → begun ≡ nothing ++ front_bytes after number (length made + 1) → front ≡ begun ++ flat_map record_of made → all ≡ front ++ record_of x → IsIncrement all (holding after number (made ++ x ∷ []))
whole_and after number made x nothing begun front all file few last short one none first then more =
    let longer : length (made ++ (x ∷ [])) ≡ length made + 1 = length-append made (x ∷ []) in
    whole after number (made ++ (x ∷ [])) nothing begun all file (omega (arith, few, longer)) (omega (arith, last, longer)) (All-push IsShort made x short one) none
    (first ∙ ap (λ (n : ℕ). nothing ++ front_bytes after number n) (sym longer)) (more ∙ ap (λ (bytes : List ℕ). bytes ++ record_of x) then ∙ flat_map_more record_of begun made x)
