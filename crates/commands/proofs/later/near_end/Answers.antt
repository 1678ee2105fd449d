use Rattle.commands.proofs.later.near_end.Goals as goal

pub returns-clause-near : goal.returns-clause-near
returns-clause-near c = record {
  shows = record {
    ahead = c.entry_before_end.ensures.looks;
    begun = c.shown_from-later.ensures;
    not_later = c.not_before-first.ensures.not_later;
    near = λ h. record { entries = c.args.entries; entry = c.in-Some.entry; before = c.in-Some.ensures.before h; is = c.not_before-first.ensures.is };
  };
  start = c.start_asked-start.ensures;
}
