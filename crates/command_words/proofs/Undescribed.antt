-- The empty description.
use Rattle.std.proofs.Common.{◌≡◌, ℕ, ◌<◌, true, arith, List, [], Option, Some, None, refl, subst}
use Rattle.std.specs.Prelude.{IsSome, slice_index, if◌then◌else◌}
use Rattle.std.specs.Str.{is_utf8}
use Rattle.std.proofs.lemmas.Str.{is_utf8-from_IsUtf8, IsUtf8-from_ascii}
use Rattle.kinds.specs.Texts.{is_text}

nothing_utf8 : is_utf8 [] ≡ true
nothing_utf8 = is_utf8-from_IsUtf8 [] (IsUtf8-from_ascii [] (λ i. omega arith))

nothing_text : is_text [] ≡ true
nothing_text = rw nothing_utf8 refl

pub nothing_is_said : (items : List ℕ) (r : Option (List ℕ)) → items ≡ [] → r ≡ (if is_text items then Some items else None) → IsSome r
nothing_is_said items r empty said =
    let there : r ≡ (if is_text [] then Some [] else None) = subst (λ i. r ≡ (if is_text i then Some i else None)) empty said in
    rw (there, nothing_text) refl
