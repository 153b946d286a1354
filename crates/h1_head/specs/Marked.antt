-- What the Connection fields of a head list that goes out.
use Rattle.std.specs.Prelude.{◌≡◌, List, [], codes, Option, MatchOption}
use Rattle.h1_model.specs.Fields.{Pair, values_of}
use Rattle.h1_text.specs.Names.{AreMarked}
use Rattle.h1_text.specs.declared.names.ListedNames.{ListedNames}

-- names of which those are marked that the Connection fields of these list, where there are names; else there is no Connection field
abbrev pub IsMarkedIn : List Pair → Option ListedNames → Type 0
IsMarkedIn fields listed =
    MatchOption listed (values_of (codes "connection") fields ≡ []) (AreMarked (values_of (codes "connection") fields))
