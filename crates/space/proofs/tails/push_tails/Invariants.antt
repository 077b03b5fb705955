use Rattle.std.proofs.Common.{◌≡◌, ◌++◌}
use Rattle.space.specs.Pieces.{tails_in}
use Rattle.space.proofs.tails.push_tails.Given as goal

abbrev pub invariant-sites : goal.invariant-sites
invariant-sites l =
    l.out.items ++ tails_in l.turn l.number l.request.prefer l.request.avoid l.others l.file-iterator ≡ l.initial.out.items ++ tails_in l.turn l.number l.request.prefer l.request.avoid l.others l.sites.entries
