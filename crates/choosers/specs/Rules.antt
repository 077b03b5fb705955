-- Include-exclude lists: the last rule whose pattern matches decides.
use Rattle.std.specs.Prelude.{ℕ, suc, Bool, slice_get, List, [], ◌∷◌, Option, Some, None, unwrap_or, if◌then◌else◌}
use Rattle.std.specs.Option.{option_or}
use Rattle.choosers.specs.declared.rule.Rule.{Rule}
use Rattle.choosers.specs.declared.rule.Rule.TheVariants.{Include, Exclude}
use Rattle.choosers.specs.declared.rule.Bound.{Bound}
use Rattle.choosers.specs.declared.rule.Bound.TheVariants.{ByRule, Default, Excluded}
use Rattle.path_patterns.specs.Patterns.{is_match}

-- the pattern of a rule
abbrev pub pattern_of : Rule → List ℕ
pattern_of (Include pattern class) = pattern
pattern_of (Exclude pattern) = pattern

-- what a rule with this number says of the paths that it matches
abbrev pub said_by : ℕ → Rule → Bound
said_by number (Include pattern class) = ByRule number
said_by number (Exclude pattern) = Excluded

-- what the rules say of a path, where they are numbered from there on: the last whose pattern matches, if one does
unfoldable pub said_from : ℕ → List Rule → List ℕ → Option Bound
said_from number [] path = None
said_from number (rule ∷ rules) path =
    option_or (said_from (suc number) rules path) (if is_match (pattern_of rule) path then Some (said_by number rule) else None)

-- how a path is bound by an include-exclude list, whose rules are numbered from 0
abbrev pub bound_of : List Rule → List ℕ → Bound
bound_of rules path = unwrap_or (said_from 0 rules path) Default

-- the management class that a rule names, where it names one
abbrev pub class_named : Rule → Option (List ℕ)
class_named (Include pattern class) = class
class_named (Exclude pattern) = None

abbrev pub class_in : Option Rule → Option (List ℕ)
class_in (Some rule) = class_named rule
class_in None = None

-- the class that is named, where the active policy set has it, and else its default class
abbrev pub class_among : (List ℕ → Bool) → List ℕ → Option (List ℕ) → List ℕ
class_among has default (Some class) = if has class then class else default
class_among has default None = default

-- the class of a path that is bound so; none where it is left out
abbrev pub class_bound : (List ℕ → Bool) → List ℕ → List Rule → Bound → Option (List ℕ)
class_bound has default rules (ByRule number) = Some (class_among has default (class_in (slice_get rules number)))
class_bound has default rules Default = Some default
class_bound has default rules Excluded = None

-- the management class to which an include-exclude list binds a path, where the active policy set has these classes and this
-- default class; none where the path is left out
abbrev pub class_of : (List ℕ → Bool) → List ℕ → List Rule → List ℕ → Option (List ℕ)
class_of has default rules path = class_bound has default rules (bound_of rules path)
