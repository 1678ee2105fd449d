-- The entries of two looks.
use Rattle.std.proofs.Common.{◌≡◌, List, [], ◌∷◌, ◌++◌, refl, ap}
use Rattle.entry_codec.specs.Entries.{Entry, Drop}
use Rattle.trace_views.specs.Taking.{in_two_looks}

-- the later one takes more
pub looks-append : (before after more : List Entry) → in_two_looks before (after ++ more) ≡ in_two_looks before after ++ more
looks-append [] after more = refl
looks-append (entry ∷ before) after more = ap (λ (l : List Entry). Drop 0 ∷ entry ∷ l) (looks-append before after more)

abbrev tail : List Entry → List Entry
tail [] = []
tail (entry ∷ entries) = entries

-- what one list tells of two looks is told once
pub first_look : (a b x y : List Entry) → in_two_looks a x ≡ in_two_looks b y → a ≡ b
first_look [] [] x y h = refl
first_look [] (entry ∷ b) x y h = absurd (cc)
first_look (entry ∷ a) [] x y h = absurd (cc)
first_look (e ∷ a) (f ∷ b) x y h =
    let rest : in_two_looks a x ≡ in_two_looks b y = ap (λ (l : List Entry). tail (tail l)) h in
    let same : e ≡ f = cc in
    rw (same, first_look a b x y rest) refl

pub second_look : (a b x y : List Entry) → in_two_looks a x ≡ in_two_looks b y → x ≡ y
second_look [] [] x y h = ap tail h
second_look [] (entry ∷ b) x y h = absurd (cc)
second_look (entry ∷ a) [] x y h = absurd (cc)
second_look (e ∷ a) (f ∷ b) x y h = second_look a b x y (ap (λ (l : List Entry). tail (tail l)) h)
