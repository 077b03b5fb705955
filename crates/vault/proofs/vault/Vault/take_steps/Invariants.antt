use Rattle.std.proofs.Common.{◌≡◌, ◌≤◌, ◌^◌, ◌<◌, length, Some}
use Rattle.store_api.specs.Cause.{NoneFell}
use Rattle.store_api.specs.Told.{Told}
use Rattle.vault.specs.Images.{IsPaced}
use Rattle.vault.specs.Pieces.{Pending}
use Rattle.vault.specs.Vaults.{with_pending}
use Rattle.vault.proofs.Stepping.{Going, left_to_write}
use Rattle.vault.proofs.vault.Vault.take_steps.Given as goal

abbrev pub invariant-steps : goal.invariant-steps
invariant-steps g l =
    record {
      last : Pending;
      is : l.self ≡ with_pending l.fn.self (Some last);
      starts : last.start ≡ length l.fn.self.journal;
      all : last.copied ≡ length l.fn.self.journal;
      short : length last.job.payload < 2 ^ 36;
      paced : IsPaced last.job.phase (length last.job.payload) (g.S.Store.moment_of l.fn.store) (g.S.Store.moment_of l.store);
      told : Told (g.S.Store.told l.fn.store) (g.S.Store.told l.store) (Going g.D.Database.meaning l.fn.self l.self);
      later : g.S.Store.moment_of l.fn.store ≤ g.S.Store.moment_of l.store;
      counts : NoneFell (g.S.Store.faults_of l.fn.store) (g.S.Store.faults_of l.store);
    }

abbrev pub decreases-steps : goal.decreases-steps
decreases-steps g l = left_to_write l.self.pending
