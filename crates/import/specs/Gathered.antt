-- How many fragments of a message are left.
use Rattle.std.specs.Prelude.{ℕ, Option, Some, None}

abbrev pub count_left : Option ℕ → ℕ
count_left None = 0
count_left (Some n) = n
