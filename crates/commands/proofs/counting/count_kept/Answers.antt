use Rattle.std.proofs.Common.{◌≡◌, ◌+◌, Option, None, refl, sym, subst, rules, arith}
use Rattle.faults.specs.declared.kept.Kept.{Kept}
use Rattle.commands.specs.Files.{CountsSo, no_mark, too_far}
use Rattle.commands.proofs.counting.count_kept.Goals as goal

pub returns-in_err-end : goal.returns-in_err-end
returns-in_err-end c =
    let none : c.from_residual-in_err-end.result ≡ None = search rules in
    let all : c.args.before + c.in_ok-entries.entries ≡ c.args.total = omega (arith, c.in_ok-entries.ensures) in
    subst (λ (k : Option Kept). CountsSo c.args.skipped c.args.before c.args.incoming.now c.args.total k) (sym none) (no_mark c.in_ok-entries.entries all (c.in_err-end.ensures.none refl))

pub returns-in_err-bytes : goal.returns-in_err-bytes
returns-in_err-bytes c =
    let none : c.from_residual-in_err-bytes.result ≡ None = search rules in
    let all : c.args.before + c.in_ok-entries.entries ≡ c.args.total = omega (arith, c.in_ok-entries.ensures) in
    subst (λ (k : Option Kept). CountsSo c.args.skipped c.args.before c.args.incoming.now c.args.total k) (sym none) (too_far c.in_ok-entries.entries c.in_ok-end.end all c.in_ok-end.ensures.some (omega (arith, c.in_err-bytes.ensures)))
