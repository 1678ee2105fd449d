use Rattle.std.proofs.Common.{◌∙◌, ap, sym, refl, take, length}
use Rattle.std.proofs.Math.Seq.{take-length}
use Rattle.shown_listings.specs.Ends.{has_empty}
use Rattle.shown_listings.proofs.Ending.{first-ends, none-before}
use Rattle.shown_listings.proofs.EndHolding.{contents-fed, contents-taken}
use Rattle.shown_listings.proofs.end_writer.EndWriterWrite.write.Goals as goal

pub end-requires-clause-fresh : goal.end-requires-clause-fresh
end-requires-clause-fresh g c = (first-ends c.args.self.now.is_fresh c.args.bytes.now c.in-Some-eq0.field-0 c.in-Some-eq0.field-0-test c.in-Some-eq0.ensures.0 c.in-Some-eq0.ensures.1).0

pub hand_on-requires-clause-none : goal.hand_on-requires-clause-none
hand_on-requires-clause-none g c =
    let was = c.args.self.now in
    ap (has_empty was.is_fresh) c.in-Some.ensures.1 ∙ none-before was.is_fresh c.args.bytes.now

pub returns-in-Some-eq0-clause-bytes : goal.returns-in-Some-eq0-clause-bytes
returns-in-Some-eq0-clause-bytes g c =
    let was = c.args.self.now in
    contents-fed was.given c.end.new.self.given c.args.bytes.now c.end.ensures.given (first-ends was.is_fresh c.args.bytes.now c.in-Some-eq0.field-0 c.in-Some-eq0.field-0-test c.in-Some-eq0.ensures.0 c.in-Some-eq0.ensures.1).1

pub returns-in-Some-clause-bytes : goal.returns-in-Some-clause-bytes
returns-in-Some-clause-bytes g c =
    let call = c.hand_on in
    contents-taken call.result c.args.self.now.given call.new.self.given c.in-Some.count (take c.in-Some.count c.args.bytes.now) c.args.bytes.now refl call.ensures.bound call.ensures.ok call.ensures.err

pub returns-in-None-clause-bytes : goal.returns-in-None-clause-bytes
returns-in-None-clause-bytes g c =
    let call = c.hand_on-in-None in
    let bytes = c.args.bytes.now in
    contents-taken call.result c.args.self.now.given call.new.self.given (length bytes) bytes bytes (sym (take-length bytes)) call.ensures.bound call.ensures.ok call.ensures.err
