-- A set's activation and its validation are refused alike.
use Rattle.std.proofs.Common.{◌≡◌, None, Result, Ok, Err, refl}
use Rattle.std.specs.Result.{result_err}
use Rattle.kinds.specs.declared.refusal.Refusal.{Refusal}
use Rattle.inventory_work.specs.inventory_rows.policy_domains.Changes.{IsRefusedLike}

-- what is refused like an answer that is none isn't refused
pub not_refused : {S : Type 0} (done : Unit {0}) (said : Result S Refusal) → IsRefusedLike (Ok done) said → result_err said ≡ None
not_refused done (Ok x) h = refl
not_refused done (Err e) h = absurd h
