-- A count that rose after it had not fallen has risen.
use Rattle.std.proofs.Common.{◌≡◌, ℕ, ◌≤◌, OnErr, Result, Ok, Err, arith, subst}
use Rattle.store_api.specs.Cause.{Rose, NoneFell}
use Rattle.real_edge.specs.Ledger.{Faults, faults_of}
use Rattle.real_edge.specs.Kept.{Kept}

pub rose_since : {T E : Type 0} (answer : Result T E) (before mid after : ℕ) → before ≤ mid → OnErr answer (Rose mid after) → OnErr answer (Rose before after)
rose_since (Ok done) before mid after kept rose = rose
rose_since (Err failed) before mid after kept rose = omega (arith, kept, rose)

-- The same of a store that kept what `before` says, and whose call had the counts `mid` before it ended with `after`.
pub rose_in : {T E : Type 0} (answer : Result T E) (file : ℕ) (was before : Kept) (mid after : Faults) → was ≡ before → NoneFell (faults_of was.faults) (faults_of mid)
    → OnErr answer (Rose (faults_of mid file) (faults_of after file)) → OnErr answer (Rose (faults_of before.faults file) (faults_of after file))
rose_in answer file was before mid after same called rose =
    subst (λ kept. OnErr answer (Rose (faults_of kept.faults file) (faults_of after file))) same
    (rose_since answer (faults_of was.faults file) (faults_of mid file) (faults_of after file) (called file) rose)
