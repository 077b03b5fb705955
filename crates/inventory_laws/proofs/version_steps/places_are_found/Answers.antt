use Rattle.inventory_laws.proofs.Others.{path_of_place, place_of_path}
use Rattle.inventory_laws.proofs.version_steps.places_are_found.Goals as goal

pub returns-clause-place : goal.returns-clause-place
returns-clause-place c n filespace object path v f has = place_of_path filespace object path v f.objects_apart has

pub returns-clause-path : goal.returns-clause-path
returns-clause-path c n object v at f o h = path_of_place n object v at f o h
