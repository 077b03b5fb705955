-- What a call answers that lends a part.
use Rattle.std.specs.Prelude.{Result, Ok, Err}
use Rattle.std.specs.Borrow.{Bor}

-- what stands behind the reference that was answered, or the refusal
abbrev pub seen : {A E : Type 0} → Result (Bor A) E → Result A E
seen (Ok x) = Ok (x.now)
seen (Err e) = Err e
