-- When receipts agree with a window.
use Rattle.std.specs.Prelude.{◌≡◌, ℕ, ◌+◌, ◌-◌, ◌<◌, ◌≤◌, List, [], ◌∷◌, ◌++◌, length, slice_get, Some}
use Rattle.std.specs.List.{AllByRecursion}
use Rattle.entry_codec.specs.Entries.{Entry}
use Rattle.entry_codec.specs.Seen.{views}
use Rattle.tracees.specs.declared.receipt.Receipt.{Receipt}

-- an entry of this number is older than the window, or stands in it, or is past its end and not covered
pub data Agrees (first : ℕ) (window : List Entry) (covered number : ℕ) (e : Entry) : Type 0 where
  older : number < first → Agrees first window covered number e
  inside : first ≤ number → slice_get window (number - first) ≡ Some e → Agrees first window covered number e
  newer : first + length window ≤ number → covered ≤ number → Agrees first window covered number e

-- the entries agree, the first of them having this number
abbrev pub AreAgreed : ℕ → List Entry → (covered number : ℕ) → List Entry → Type 0
AreAgreed first window covered number [] = Unit {0}
AreAgreed first window covered number (e ∷ es) = Agrees first window covered number e × AreAgreed first window covered (number + 1) es

-- each entry of a receipt agrees
abbrev pub IsAgreed : ℕ → List Entry → Receipt → Type 0
IsAgreed first window receipt = AreAgreed first window receipt.covered receipt.first (views receipt.entries.items)

-- the entry of this number is the first of the receipt that doesn't agree
pub record Differs (first : ℕ) (window : List Entry) (receipt : Receipt) (number : ℕ) : Type 0 where
  pub before : List Entry
  pub entry : Entry
  pub after : List Entry
  pub parts : views receipt.entries.items ≡ before ++ entry ∷ after
  pub agreed : AreAgreed first window receipt.covered receipt.first before
  pub number_is : number ≡ receipt.first + length before
  pub differs : Agrees first window receipt.covered number entry → ⊥

-- all receipts agree
abbrev pub AllAgree : ℕ → List Entry → List Receipt → Type 0
AllAgree first window receipts = AllByRecursion (IsAgreed first window) receipts

-- the entry of this number is the first of all that doesn't
pub record FirstDiffers (first : ℕ) (window : List Entry) (receipts : List Receipt) (number : ℕ) : Type 0 where
  pub before : List Receipt
  pub receipt : Receipt
  pub after : List Receipt
  pub parts : receipts ≡ before ++ receipt ∷ after
  pub agree : AllAgree first window before
  pub differs : Differs first window receipt number
