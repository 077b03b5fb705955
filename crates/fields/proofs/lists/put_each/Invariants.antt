use Rattle.std.proofs.Common.{◌≡◌, ◌++◌, take}
use Rattle.std.specs.List.{flat_map}
use Rattle.fields.proofs.lists.put_each.Given as goal

abbrev pub invariant-values : goal.invariant-values
invariant-values g l = l.out.items ≡ l.fn.out.items ++ flat_map g.C.Decoder.form.spell (take l.value-index l.values)
