-- Defines a value of two words.
use mir.Val.{Val, vstruct, vcons, vnil}

-- the value of two fields
abbrev pub both : Val → Val → Val
both v w = vstruct (vcons v (vcons w vnil))
