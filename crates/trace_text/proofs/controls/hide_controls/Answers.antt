use Rattle.std.proofs.Common.{◌≡◌, ◌++◌, ℕ, List, take, drop, subst, sym, ap, ◌∙◌, take-append-drop}
use Rattle.std.specs.Str.{IsAscii}
use Rattle.trace_text.proofs.Characters.{no_controls}
use Rattle.trace_text.proofs.controls.hide_controls.Goals as goal

pub returns-then-is_ascii : goal.returns-then-is_ascii
returns-then-is_ascii c =
    let line = c.args.line.now.items in
    let start = c.args.start in
    let seen : c.seen_since-text.result.now ≡ drop start line = c.seen_since-text.ensures ∙ ap (drop start) c.deref.ensures.value in
    let ascii : IsAscii (drop start line) = subst IsAscii seen c.if-is_ascii.ensures.cases in
    sym (take-append-drop start line) ∙ ap (λ (l : List ℕ). take start line ++ l) (sym (no_controls (drop start line) ascii))
