-- The notes of a block's lines, one after the other.
use Rattle.std.proofs.Common.{◌≡◌, ◌∙◌, ◌<◌, ◌+◌, ◌==◌, ℕ, suc, Bool, true, false, if◌then◌else◌, List, [], ◌∷◌, ◌++◌, length, get_or, drop, refl, ap, sym, append_assoc, append-nil, arith}
use Rattle.std.proofs.Math.Seq.{drop-cons}
use Rattle.block_results.specs.line_jobs.declared.job.Said.{Said}
use Rattle.tsm_top.specs.Notes.{note_in_block, notes_of}
use Rattle.tsm_top.specs.declared.note.Note.{Note}

cases : (b : Bool) (n : Note) (rest : List Note) → (if b then rest else n ∷ rest) ≡ (if b then [] else n ∷ []) ++ rest
cases true n rest = refl
cases false n rest = refl

module _ (first before after : ℕ) where
  abbrev all : List Said → List Note
  all said = notes_of first before after said

  -- a line that counts as no command isn't noted
  pub unnoted : (s : Said) (old : List Note) → (s.reply.tally.commands == 0) ≡ true → old ≡ old ++ notes_of first before after (s ∷ [])
  unnoted s old none = sym (ap (λ (b : Bool). old ++ (if b then [] else note_in_block first before after s ∷ [])) none ∙ append-nil old)

  -- and one that does is
  pub noted : (s : Said) (old new : List Note) → (s.reply.tally.commands == 0) ≡ false → new ≡ old ++ note_in_block first before after s ∷ [] → new ≡ old ++ notes_of first before after (s ∷ [])
  noted s old new counts grown = grown ∙ sym (ap (λ (b : Bool). old ++ (if b then [] else note_in_block first before after s ∷ [])) counts)

  apart : (s : Said) (rest : List Said) → all (s ∷ rest) ≡ all (s ∷ []) ++ all rest
  apart s rest = cases (s.reply.tally.commands == 0) (note_in_block first before after s) (all rest)

  -- one line more
  pub one_more : (said : List Said) (i : ℕ) (s : Said) (old new whole : List Note) → i < length said → s ≡ get_or said i s → new ≡ old ++ notes_of first before after (s ∷ []) → old ++ notes_of first before after (drop i said) ≡ whole
      → new ++ notes_of first before after (drop (i + 1) said) ≡ whole
  one_more said i s old new whole l is grown before_is =
      ap (λ (n : ℕ). new ++ all (drop n said)) (let next : i + 1 ≡ suc i = omega arith in next) ∙ ap (λ (x : List Note). x ++ all (drop (suc i) said)) grown ∙ append_assoc old (all (s ∷ [])) (all (drop (suc i) said))
      ∙ ap (λ (x : List Note). old ++ x) (sym (apart s (drop (suc i) said))) ∙ ap (λ (xs : List Said). old ++ all xs) (sym (drop-cons said i s l ∙ ap (λ (x : Said). x ∷ drop (suc i) said) (sym is))) ∙ before_is
