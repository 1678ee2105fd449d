use Rattle.std.proofs.Common.{suc, ◌∷◌, ◌++◌, take, drop, ap, sym, ◌∙◌, take-append-drop}
use Rattle.std.proofs.Math.Seq.{drop-cons}
use Rattle.tracees.specs.declared.receipt.Receipt.{Receipt}
use Rattle.tracees.proofs.auditing.audit.Goals as goal

pub returns-in-Some-clause-err : goal.returns-in-Some-clause-err
returns-in-Some-clause-err c =
    let receipts = c.args.receipts.now in
    let place = c.loop-receipt.receipt-index in
    let receipt = c.receipt-item.result in
    record {
      before = take place receipts;
      receipt = receipt;
      after = drop (suc place) receipts;
      parts = sym (take-append-drop place receipts) ∙ ap (λ l. take place receipts ++ l) (drop-cons receipts place receipt c.loop-receipt-test.true)
          ∙ ap (λ (r : Receipt). take place receipts ++ r ∷ drop (suc place) receipts) (sym c.receipt-item.is);
      agree = c.loop-receipt.invariant;
      differs = c.in-Some.ensures.differs;
    }
