use Rattle.std.proofs.Common.{◌≡◌, ◌≤◌}
use Rattle.entry_codec.specs.Entries.{Drop}
use Rattle.trace_client.proofs.Greatest.{copies}
use Rattle.trace_views.specs.Feeding.{TookText}
use Rattle.trace_views.proofs.chosen_view.ChosenView.take_copies.Given as goal

-- those so far were taken
abbrev pub invariant-loop : goal.invariant-loop
invariant-loop g l = (l.counter ≤ l.copies) × TookText (λ text. text ≡ copies (Drop 4294967295) l.counter) (g.V.View.seen l.fn.self.view) (g.V.View.seen l.self.view) × (l.self.chooser.choice ≡ l.fn.self.chooser.choice)
