use Rattle.std.proofs.Common.{◌≡◌, ℕ, zero, suc, ◌<◌, true, false, arith, List, refl, sym, Option, Some, None, Result, Ok, Err, inl, inr}
use Rattle.std.specs.Prelude.{codes, slice_index}
use Rattle.std.specs.Str.{is_utf8}
use Rattle.std.proofs.lemmas.Str.{is_utf8-from_IsUtf8, IsUtf8-from_ascii}
use Rattle.kinds.specs.Answers.{Answers, AnswersBy}
use Rattle.kinds.specs.Paths.{is_path, read_path}
use Rattle.kinds.specs.declared.refusal.Refusal.{Refusal}
use Rattle.command_words.specs.Fields.{path_of}

slash_ascii : (i : ℕ) → slice_index (codes "/") i < 128
slash_ascii zero = omega arith
slash_ascii (suc i) = omega arith

-- a slash alone is text
slash_text : is_utf8 (codes "/") ≡ true
slash_text = is_utf8-from_IsUtf8 (codes "/") (IsUtf8-from_ascii (codes "/") slash_ascii)

-- a slash alone is a path
pub slash_64 : is_path 64 (codes "/") ≡ true
slash_64 = rw slash_text refl

pub slash_1024 : is_path 1024 (codes "/") ≡ true
slash_1024 = rw slash_text refl

-- what is read of it is the slash
pub slash_read : (most : ℕ) (r : Result (List ℕ) Refusal) → is_path most (codes "/") ≡ true → Answers r (read_path most (codes "/")) → AnswersBy (λ p. p) r (codes "/")
slash_read most (Ok x) e h = let k = rw e at h in cc
slash_read most (Err x) e (inl m) = m
slash_read most (Err x) e (inr h) = let k = rw e at h in cc

-- where no path was given
pub slash_when_none : (most : ℕ) (text : Option (List ℕ)) (r : Result (List ℕ) Refusal) → text ≡ None → is_path most (codes "/") ≡ true → Answers r (read_path most (codes "/")) → AnswersBy (λ p. p) r (path_of most text)
slash_when_none most text r none e h = rw none (slash_read most r e h)

-- where what was given is no path
pub slash_when_other : (most : ℕ) (text : Option (List ℕ)) (t : List ℕ) (r : Result (List ℕ) Refusal) → text ≡ Some t → false ≡ is_path most t → is_path most (codes "/") ≡ true → Answers r (read_path most (codes "/")) → AnswersBy (λ p. p) r (path_of most text)
slash_when_other most text t r some other e h = rw (some, sym other) (slash_read most r e h)
