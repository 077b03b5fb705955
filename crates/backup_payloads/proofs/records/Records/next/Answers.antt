use Rattle.std.proofs.Common.{◌≡◌, ◌-◌, ap, sym, ◌∙◌, suc, ℕ, arith, rules}
use Rattle.fields.specs.Reading.{Cursor}
use Rattle.backup_payloads.specs.Increments.{records_at}
use Rattle.backup_payloads.proofs.Reading.{first_record, no_record, no_records}
use Rattle.backup_payloads.proofs.records.Records.next.Goals as goal

pub returns-then-self-eq0-clause-none : goal.returns-then-self-eq0-clause-none
returns-then-self-eq0-clause-none c =
    let none = sym c.self.view_is ∙ no_records c.self.inside.count c.self.inside.bytes.now (search rules) in
    (none, none)

pub invariant_of-self : goal.invariant_of-self
invariant_of-self c =
    let n = c.self.inside.count - 1 in
    let k : c.self.inside.count ≡ suc n = omega (arith, c.if-self-eq0.false) in
    let there : c.new-reader.result.rest ≡ c.self.inside.bytes.now = ap (λ (k : Cursor). k.rest) c.new-reader.ensures in
    rw c.rest-self-inside.ensures.rest (first_record n c.self.inside.bytes.now c.in-Some.record.now c.take_record.new.reader.rest (rw there at c.in-Some.ensures) (rw k at c.self.invariant)).0

pub returns-in-Some-clause-some : goal.returns-in-Some-clause-some
returns-in-Some-clause-some c =
    let n = c.self.inside.count - 1 in
    let k : c.self.inside.count ≡ suc n = omega (arith, c.if-self-eq0.false) in
    let there : c.new-reader.result.rest ≡ c.self.inside.bytes.now = ap (λ (k : Cursor). k.rest) c.new-reader.ensures in
    let first = first_record n c.self.inside.bytes.now c.in-Some.record.now c.take_record.new.reader.rest (rw there at c.in-Some.ensures) (rw k at c.self.invariant) in
    sym c.self.view_is ∙ (ap (λ (count : ℕ). records_at count c.self.inside.bytes.now) k ∙ rw c.rest-self-inside.ensures.rest first.1)

pub returns-in-None-clause-none : goal.returns-in-None-clause-none
returns-in-None-clause-none c =
    let n = c.self.inside.count - 1 in
    let k : c.self.inside.count ≡ suc n = omega (arith, c.if-self-eq0.false) in
    let there : c.new-reader.result.rest ≡ c.self.inside.bytes.now = ap (λ (k : Cursor). k.rest) c.new-reader.ensures in
    absurd (no_record n c.self.inside.bytes.now (rw there at c.in-None.ensures) (rw k at c.self.invariant))
