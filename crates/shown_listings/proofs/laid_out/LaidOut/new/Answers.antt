use Rattle.std.proofs.Common.{◌++◌, ◌∙◌, ap, refl}
use Rattle.shown_listings.specs.Rows.{rows_in}
use Rattle.shown_listings.proofs.HeldRows.{laid-new, none_sent}
use Rattle.shown_listings.proofs.RowLemmas.{lines-new, sends-new}
use Rattle.shown_listings.proofs.laid_out.LaidOut.new.Goals as goal

pub invariant_of-result-clause-lines_whole : goal.invariant_of-result-clause-lines_whole
invariant_of-result-clause-lines_whole g c = lines-new _ _ c.new-5.ensures c.new.ensures.items

pub invariant_of-result-clause-rows_each : goal.invariant_of-result-clause-rows_each
invariant_of-result-clause-rows_each g c =
    ∣ laid-new c.args.look.rule.last c.args.look.rule _ _ refl c.new-5.ensures (ap (λ l. l ++ rows_in c.new-3.result.items) c.new-6.ensures ∙ ap (λ l. rows_in l) c.new-3.ensures.items) ∣₁

pub invariant_of-result-clause-sends_none : goal.invariant_of-result-clause-sends_none
invariant_of-result-clause-sends_none g c = none_sent c.args.look.rule.last c.new-6.result.items c.new-6.ensures

pub invariant_of-result-clause-sends : goal.invariant_of-result-clause-sends
invariant_of-result-clause-sends g c = sends-new c.new-4.result g.start _ _ _ c.new-4.ensures c.requires.1 c.new-2.ensures.items c.new-6.ensures
