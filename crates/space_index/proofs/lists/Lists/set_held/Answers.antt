use Rattle.std.proofs.Common.{sym, ap, ◌∙◌}
use Rattle.space_index.specs.Tails.{filling_room, empty_room, scratch_room, home_by, open_home}
use Rattle.space_index.proofs.Listings.{homes_else, holds_else}
use Rattle.space_index.proofs.lists.Lists.set_held.Goals as goal

pub returns : goal.returns
returns c = λ sites others helds is same here held.
    let file = c.args.file in
    record {
      filling = c.in_ok-set.ensures (λ q. open_home filling_room (sites q) (helds q)) (λ q. open_home filling_room (others q) (helds q)) is.filling (holds_else (open_home filling_room) file sites others helds same) (ap (open_home filling_room (others file)) held);
      empty = c.in_ok-set-2.ensures (λ q. open_home empty_room (sites q) (helds q)) (λ q. open_home empty_room (others q) (helds q)) is.empty (holds_else (open_home empty_room) file sites others helds same) (ap (open_home empty_room (others file)) held);
      scratch = c.in_ok-set-3.ensures (λ q. home_by scratch_room (sites q)) (λ q. home_by scratch_room (others q)) is.scratch (homes_else (home_by scratch_room) file sites others same) (ap (home_by scratch_room) here ∙ sym c.scratch_home.ensures);
      own = λ a. c.in_ok-set_own.ensures a sites others helds (is.own a) same here held;
    }
