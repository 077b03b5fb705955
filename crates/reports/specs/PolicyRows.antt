-- The printed rows of policy domains, policy sets, management classes and backup copy groups.
use Rattle.std.specs.Prelude.{ℕ, Bool, true, false, List, ◌++◌, codes, decimal}
use Rattle.kinds.specs.declared.rule.Limit.{Limit}
use Rattle.kinds.specs.declared.rule.Limit.TheVariants.{At, NoLimit}
use Rattle.kinds.specs.declared.rule.Still.{Still}
use Rattle.kinds.specs.declared.rule.Still.TheVariants.{ShrStatic, Static}
use Rattle.inventory_answers.specs.declared.lines.DomainLine.{DomainLine}
use Rattle.inventory_answers.specs.declared.lines.SetLine.{SetLine}
use Rattle.inventory_answers.specs.declared.lines.ClassLine.{ClassLine}
use Rattle.inventory_answers.specs.declared.lines.GroupLine.{GroupLine}
use Rattle.reports.specs.Pieces.{yes_or_no, or_dash}

-- VEREXISTS, VERDELETED, RETEXTRA and RETONLY: a number or NOLIMIT
abbrev pub limit_text : Limit → List ℕ
limit_text (At n) = decimal n
limit_text NoLimit = codes "NOLIMIT"

-- MODE, by whether it is absolute
abbrev pub mode_text : Bool → List ℕ
mode_text true = codes "ABSOLUTE"
mode_text false = codes "MODIFIED"

-- SERIALIZATION
abbrev pub still_text : Still → List ℕ
still_text ShrStatic = codes "SHRSTATIC"
still_text Static = codes "STATIC"

-- DOMAIN name backretention=n active=YES|NO
abbrev pub row_of_domain : DomainLine → List ℕ
row_of_domain d =
    codes "DOMAIN " ++ d.name
    ++ codes " backretention=" ++ decimal d.back_retention
    ++ codes " active=" ++ yes_or_no d.active

-- SET domain set default=class
abbrev pub row_of_set : SetLine → List ℕ
row_of_set s =
    codes "SET " ++ s.domain
    ++ codes " " ++ s.set
    ++ codes " default=" ++ or_dash s.default_class

-- CLASS domain set class group=YES|NO
abbrev pub row_of_class : ClassLine → List ℕ
row_of_class c =
    codes "CLASS " ++ c.domain
    ++ codes " " ++ c.set
    ++ codes " " ++ c.class
    ++ codes " group=" ++ yes_or_no c.group

-- GROUP domain set class destination=pool frequency=n verexists=n verdeleted=n retextra=n retonly=n mode=MODIFIED|ABSOLUTE serialization=SHRSTATIC|STATIC
abbrev pub row_of_group : GroupLine → List ℕ
row_of_group g =
    codes "GROUP " ++ g.domain
    ++ codes " " ++ g.set
    ++ codes " " ++ g.class
    ++ codes " destination=" ++ or_dash g.destination
    ++ codes " frequency=" ++ decimal g.rule.frequency
    ++ codes " verexists=" ++ limit_text g.rule.ver_exists
    ++ codes " verdeleted=" ++ limit_text g.rule.ver_deleted
    ++ codes " retextra=" ++ limit_text g.rule.ret_extra
    ++ codes " retonly=" ++ limit_text g.rule.ret_only
    ++ codes " mode=" ++ mode_text g.rule.absolute
    ++ codes " serialization=" ++ still_text g.rule.still
