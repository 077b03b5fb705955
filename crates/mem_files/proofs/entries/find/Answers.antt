use Rattle.std.proofs.Common.{◌≡◌, ◌∙◌, List, ℕ, true, sym, ap, subst}
use Rattle.std.specs.Str.{bytes_eq}
use Rattle.std.proofs.lemmas.List.{get_or_default}
use Rattle.mem_files.specs.declared.entries.Entry.{Entry}
use Rattle.mem_files.specs.Entries.{has_name}
use Rattle.mem_files.proofs.entries.find.Goals as goal

pub returns-then-eq-clause-some : goal.returns-then-eq-clause-some
returns-then-eq-clause-some c = record {
  within = c.entries-test.true;
  here = λ d. subst (λ (e : Entry). has_name c.args.name.now e ≡ true) (get_or_default c.args.entries.now c.entries.at c.index-entries-at.result d c.entries-test.true)
      (ap (λ (s : List ℕ). bytes_eq s c.args.name.now) (sym c.as_str.ensures.value) ∙ sym c.eq.ensures ∙ c.if-eq.true);
  before = c.entries.invariant;
}
