-- What stands behind the events of a drawing.
use Rattle.std.specs.Prelude.{ℕ, ℤ, Option, Some, None, List, [], ◌∷◌, ◌++◌, codes}
use Rattle.std.specs.Fmt.{signed_decimal}
use Rattle.json.specs.Print.{print}
use Rattle.json.specs.Token.{Token, begin_object, end_object, key, string}

-- the members that tell of the times, of which this is the first that was told
abbrev pub times_told : Option ℤ → List Token
times_told None = key (codes "times") ∷ string (codes "numbers of entries as microseconds: trace with the flag timestamp or monotonic_timestamp to have times") ∷ []
times_told (Some first) = key (codes "times") ∷ string (codes "from the first one, in microseconds") ∷ key (codes "first_time_in_nanoseconds") ∷ string (signed_decimal first) ∷ []

-- the end of the events, an object that tells of their times, and the end of all
abbrev pub ending : Option ℤ → List ℕ
ending first = (codes "\n],\"otherData\":" ++ print (begin_object ∷ (times_told first ++ (end_object ∷ [])))) ++ codes "}\n"
