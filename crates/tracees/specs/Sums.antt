-- Accounts against the book of their desk.
use Rattle.std.specs.Prelude.{◌≡◌, ◌⊎◌, ℕ, ◌<◌, ◌≤◌, List, length, map}
use Rattle.std.specs.List.{sum_by}
use Rattle.tracees.specs.Books.{totals, IsWithin}
use Rattle.tracees.specs.declared.account.Account.{Account}
use Rattle.tracees.specs.declared.book.Totals.{Totals}

-- what each account counts
abbrev pub sums_each : {K S : Type 0} → (S → Totals) → List (Account K S) → List Totals
sums_each sums_of accounts = map (λ a. sums_of a.slip) accounts

-- what they count together
abbrev pub summed : List Totals → Totals
summed sums = totals (sum_by (λ s. s.messages) sums) (sum_by (λ s. s.drops) sums) (sum_by (λ s. s.flushed) sums)

-- a book that counts this, in which so many accounts were opened: there are as many of these, and they count together what the book does
pub record AddUp (book : Totals) (attached : ℕ) (sums : List Totals) : Type 0 where
  pub number : length sums ≡ attached
  pub totals : summed sums ≡ book

-- there are no more of them, and they count no more
pub record AreShares (book : Totals) (attached : ℕ) (sums : List Totals) : Type 0 where
  pub number : length sums ≤ attached
  pub within : IsWithin (summed sums) book

-- there are fewer of them, or they count less
abbrev pub FallShort : Totals → ℕ → List Totals → Type 0
FallShort book attached sums =
    (length sums < attached) ⊎ ((summed sums).messages < book.messages) ⊎ ((summed sums).drops < book.drops) ⊎ ((summed sums).flushed < book.flushed)
