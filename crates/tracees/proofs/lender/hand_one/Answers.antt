use Rattle.std.proofs.Common.{◌≡◌, rules, ◌∙◌}
use Rattle.tracees.specs.States.{place_of, seat_of}
use Rattle.tracees.proofs.Lenders.{hands_one}
use Rattle.tracees.proofs.lender.hand_one.Goals as goal

pub returns : goal.returns
returns g c =
    record {
      hands = let back : c.port-1.given.0 ≡ c.drop.new.self.0 = search rules in
          let place = place_of g.P.TracePort g.K.Bookkeeping in
          let seat = seat_of g.K.Bookkeeping in
          let first = c.attach-traced.new.self in
          let made = c.new-desk.ensures in
          let book : g.K.Bookkeeping.totals_of first.book ≡ g.K.Bookkeeping.totals_of c.args.book = search rules in
          record {
            same = search rules;
            did = hands_one g.P.TracePort.told c.args.number c.args.port.now c.drop.new.self.0 c.port-1.given.0 c.args.limit c.args.tracee c.detach-tracee.result.0 c.hand_over-answer.result
                (place first) (place c.hand_over-answer.new.self) (seat c.attach-traced.result) (seat c.hand_over-answer.new.traced)
                (c.attach-traced.ensures.number ∙ made.number) (c.attach-traced.ensures.port ∙ made.port) (book ∙ c.requires.may_stand.totals) (c.attach-traced.ensures.desk ∙ made.number) c.attach-traced.ensures.tracee c.attach-traced.ensures.account
                c.hand_over-answer.ensures.hands.did c.detach-tracee.ensures.tracee c.drop.ensures.finishes back;
          };
    }
