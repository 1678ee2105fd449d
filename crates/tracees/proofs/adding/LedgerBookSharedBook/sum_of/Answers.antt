use Rattle.std.proofs.Common.{arith}
use Rattle.tracees.proofs.Summed.{sum_is, same_counts, are_shares}
use Rattle.tracees.proofs.adding.LedgerBookSharedBook.sum_of.Goals as goal

pub returns-clause-sum : goal.returns-clause-sum
returns-clause-sum g c =
    let s = c.add_up-sum.ensures in
    let sum = c.add_up-sum.result in
    sum_is (λ a. a.slip.flushed.count) (λ a. a.slip.unflushed.count) (λ a. a.slip.drops.count) c.args.accounts.now.items sum.flushed sum.unflushed sum.drops s.flushed s.unflushed s.drops

pub returns-clause-shares : goal.returns-clause-shares
returns-clause-shares g c =
    let none = c.none_joined-joined.ensures in
    let s = c.add_up-sum.ensures in
    let book = c.args.self.now in
    are_shares (λ a. a.slip.flushed.count) (λ a. a.slip.unflushed.count) (λ a. a.slip.drops.count) c.args.accounts.now.items book.flushed.count book.unflushed.count book.drops.count book.accounts.count
    (omega (arith, s.within.0, s.flushed, none.amounts.0, none.book.0))
    (omega (arith, s.within.1, s.unflushed, none.amounts.1, none.book.1))
    (omega (arith, s.within.2, s.drops, none.amounts.2, none.book.2))
    (omega (arith, s.within.3, s.accounts, none.amounts.3, none.book.3))

pub returns-clause-accounts : goal.returns-clause-accounts
returns-clause-accounts g c =
    let same = c.add_up-sum.ensures.same in
    same_counts (λ a. a.slip.flushed.count) (λ a. a.slip.unflushed.count) (λ a. a.slip.drops.count) c.add_up-sum.new.accounts.items c.args.accounts.now.items same.0 same.1 same.2
