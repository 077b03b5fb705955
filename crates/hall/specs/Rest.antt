-- A hall in which nothing is in progress.
use Rattle.std.specs.Prelude.{◌≡◌, [], length, None}
use Rattle.hall.specs.Held.{Held}

-- There is no ticket and no image, each transaction of the run has a stamp, and no fault has halted it.
pub record Rests (held : Held) : Type 0 where
  pub seats : held.seats ≡ []
  pub image : held.image ≡ None
  pub durable : length held.stamps ≡ length held.vault.journal
  pub fault : held.vault.fault ≡ None
