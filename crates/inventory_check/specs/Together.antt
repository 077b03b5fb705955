-- The conditions of validity, some of them together.
use Rattle.std.specs.Prelude.{Bool, ◌&&◌}
use Rattle.inventory_rows.specs.State.{Inv}
use Rattle.inventory_rules.specs.Valid.{are_bounded, are_by_today, are_drawn, are_past, classes_are, copies_cite, defaults_are_there, filespaces_cite, groups_are_orderly, held_cite, no_ring, nodes_cite, pools_cite, rules_cite, versions_are_copied, volumes_are, volumes_cite}

-- all that is cited is there
abbrev pub all_cited : Inv → Bool
all_cited v = nodes_cite v && (filespaces_cite v && (held_cite v && (rules_cite v && (pools_cite v && (volumes_cite v && copies_cite v)))))

-- defaults, groups, objects, volumes, the hierarchy of pools, the days and the device classes are as they have to be
abbrev pub agree : Inv → Bool
agree v = defaults_are_there v && (groups_are_orderly v && (versions_are_copied v && (volumes_are v && (no_ring v && (are_by_today v && classes_are v)))))

-- all conditions, where it is known whether things are numbered and named, and whether there is room for all
abbrev pub together : Inv → Bool → Bool → Bool → Bool
together v numbered named small = all_cited v && (are_drawn v && (are_bounded v && (numbered && (are_past v && (named && (agree v && small))))))
