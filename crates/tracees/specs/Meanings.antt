-- What a desk whose accounts are shared keeps of its port.
use Rattle.std.specs.Prelude.{◌≡◌, ℕ, List, IsTrue}
use Rattle.recovery.specs.Items.{Item}
use Rattle.recovery.specs.Views.{View}
use Rattle.trace_port.specs.Port.{Told, Fits}
use Rattle.tracees.specs.Books.{no_totals}
use Rattle.tracees.specs.declared.book.Bookkeeping.{Ghosts as BookGhosts}

-- a port fits a triple: what its store read as when the port was made, the items accepted since, and how many of them are covered
pub record FitsSome (port : Told) : Type 0 where
  pub view : View
  pub items : List Item
  pub covered : ℕ
  pub fits : Fits port view items covered

-- where the port's store is honest, the port fits some triple
abbrev pub KeepsMeaning : Told → Type 0
KeepsMeaning port = port.device.honest → ∥ FitsSome port ∥₁

-- what a desk is made of: a book in which nothing is counted and no account was opened; and, where the accounts are shares of their book, the number that the book's type has, and a port that fits some triple
pub record MayStand {K S : Type 0} (keep : BookGhosts K S) (book : K) (n : ℕ) (port : Told) : Type 0 where
  pub totals : keep.totals_of book ≡ no_totals
  pub attached : keep.attached_of book ≡ 0
  pub number : IsTrue keep.shared → n ≡ keep.desk
  pub fits : IsTrue keep.shared → KeepsMeaning port
