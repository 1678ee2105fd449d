use Rattle.std.proofs.Common.{refl, ap, not, ◌∙◌, ◌≡◌, true, false}
use Rattle.script_lines.specs.Reading.{IsRefused}
use Rattle.script_lines.proofs.One.{one_line}
use Rattle.script_lines.proofs.Keywords.{found_at}
use Rattle.script_lines.proofs.Words.{none_found}
use Rattle.script_lines.proofs.Taken.{of_record}
use Rattle.script_lines.proofs.script.Script.allowed.Goals as goal
use Rattle.script_lines.proofs.script.Script.allowed.Goals.{in-Some+then-not-self, in-Some+else-not-self, in-None}

pub returns-clause-tells : goal.returns-clause-tells
returns-clause-tells g c =
    let not_allowed : c.match-line.is_allowed ≡ false = c.if-is_allowed.false in
    rw c.bad_command.ensures (
      refl,
      IsRefused.no_line c.requires.says (λ line k.
          elim c.match-line.branch [
            | in-Some+then-not-self w ↦ let allowed : c.match-line.is_allowed ≡ true = w.is_allowed-is ∙ ap not w.if-not-self.true in cc
            | in-Some+else-not-self w ↦
                let found = found_at _ _ _ w.in-Some.is c.requires.spelled in
                let of_desk : c.args.self.now.is_of_desk ≡ true = w.if-not-self.false in
                let same = one_line _ line c.args.self.now.text.now.items found k.spells in
                let holds = w.is_of_desk.ensures.1 (of_record _ line same (k.allowed of_desk)) in
                let allowed : c.match-line.is_allowed ≡ true = w.is_allowed-is ∙ holds in
                cc
            | in-None w ↦ none_found _ _ w.in-None.is c.requires.spelled line k.spells
          ]),
    )
