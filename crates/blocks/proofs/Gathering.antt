-- What is gathered line by line is the block that the lines are.
use Rattle.std.proofs.Common.{◌≡◌, ℕ, ◌+◌, ◌-◌, Bool, true, false, List, [], ◌∷◌, ◌++◌, refl, sym, ap, subst, ◌∙◌, append_assoc, if◌then◌else◌}
use Rattle.std.proofs.lemmas.List.{append-nil}
use Rattle.blocks.specs.Parts.{part}
use Rattle.blocks.specs.Shapes.{Gathered, Placed, Shape, comes_to, in_front, is_end, opens, placed, shape, with_line}

abbrev behind : List Placed → Shape → Shape
behind lines s = record { lines = lines ++ s.lines; jobs = s.jobs }

-- a line begins a job, or it stands in one
by_opens : (opened : Bool) (lines : List Placed) (line : Placed) (rest : Shape) → behind (if opened then lines else lines ++ line ∷ []) rest ≡ behind lines (in_front opened line rest)
by_opens true lines line rest = refl
by_opens false lines line rest = ap (λ (l : List Placed). record { lines = l; jobs = rest.jobs }) (append_assoc lines (line ∷ []) rest.lines)

module _ (g : Gathered) (number : ℕ) (line : List ℕ) (lines : List (ℕ × List ℕ)) where
  abbrev rest : Bool → Shape
  rest opened = shape (g.room - 1) (if opened then g.job + 1 else g.job) lines

  abbrev one : Placed
  one = placed g.room g.job number line (part line)

  -- what is gathered then, by whether a job begins
  with_one : (opened : Bool) → comes_to (if opened then record { lines = g.lines; room = g.room - 1; job = g.job + 1 } else record { lines = g.lines ++ one ∷ []; room = g.room - 1; job = g.job }) lines
      ≡ behind g.lines (in_front opened one (rest opened))
  with_one true = refl
  with_one false = by_opens false g.lines one (rest false)

  abbrev by_end : Bool → Shape
  by_end ended = behind g.lines (if ended then record { lines = []; jobs = g.job + 1 } else in_front (opens g.room g.job (part line)) one (rest (opens g.room g.job (part line))))

  pub goes : is_end (part line) ≡ false → comes_to (with_line g number line) lines ≡ comes_to g ((number, line) ∷ lines)
  goes e = with_one (opens g.room g.job (part line)) ∙ ap (λ (b : Bool). by_end b) (sym e)

  pub ends : is_end (part line) ≡ true → comes_to g ((number, line) ∷ lines) ≡ comes_to g []
  ends e = ap (λ (b : Bool). by_end b) e

pub all_lines : (g : Gathered) → (comes_to g []).lines ≡ g.lines
all_lines g = append-nil g.lines
