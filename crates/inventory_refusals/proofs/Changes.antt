-- How the refusal of a change of rows is answered.
use Rattle.std.proofs.Common.{◌≡◌, Result, Ok, Err, refl}
use Rattle.std.specs.Result.{result_err}
use Rattle.kinds.specs.declared.refusal.Refusal.{Refusal}
use Rattle.kinds.specs.Refusals.{foremost, refusal_of}

-- a change of rows gives no refusal, or one
pub foremost_of_change : {S : Type 0} (said : Result S Refusal) → foremost (refusal_of said) ≡ result_err said
foremost_of_change (Ok s) = refl
foremost_of_change (Err e) = refl
