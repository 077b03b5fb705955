use Rattle.inventory_bytes.proofs.Decoded.{found_alone, found_filled, found_tied, none_read, none_sound}
use Rattle.inventory_bytes.proofs.payload.decode.Goals as goal

pub returns-in-Some-clause-found : goal.returns-in-Some-clause-found
returns-in-Some-clause-found g c =
    let found = rw c.in-Some.is at c.in_ok-decode_by.ensures.found in
    found_filled g.E.InEdition.edition c.into_tables.result c.args.bytes.now c.in-Some.parts c.numbered.result c.numbered.ensures found.0 found.1 c.into_tables.ensures.found

pub returns-in-Some-clause-tied : goal.returns-in-Some-clause-tied
returns-in-Some-clause-tied g c =
    let found = rw c.in-Some.is at c.in_ok-decode_by.ensures.found in
    found_tied g.E.InEdition.edition c.into_tables.result c.in-Some.parts c.numbered.result c.numbered.ensures found.0 c.into_tables.ensures.found

pub returns-in-Some-clause-alone : goal.returns-in-Some-clause-alone
returns-in-Some-clause-alone g c =
    let found = rw c.in-Some.is at c.in_ok-decode_by.ensures.found in
    found_alone g.E.InEdition.edition c.into_tables.result c.args.bytes.now c.in-Some.parts c.numbered.result c.numbered.ensures found.0 found.1 c.into_tables.ensures.found

pub returns-in-Some-clause-none : goal.returns-in-Some-clause-none
returns-in-Some-clause-none g c =
    let found = rw c.in-Some.is at c.in_ok-decode_by.ensures.found in
    none_sound g.E.InEdition.edition c.into_tables.result c.args.bytes.now c.in-Some.parts c.numbered.result c.numbered.ensures found.0 found.1 c.into_tables.ensures.none

pub returns-in-None-clause-none : goal.returns-in-None-clause-none
returns-in-None-clause-none g c = none_read g.E.InEdition.edition c.args.bytes.now (rw c.in-None.is at c.in_ok-decode_by.ensures.none)
