use Rattle.std.proofs.Common.{rules, ◌≡◌, true, [], refl, subst, ◌∙◌}
use Rattle.std.proofs.lemmas.Result.{err_from_is_err_and}
use Rattle.import.specs.Incoming.{outside}
use Rattle.import.specs.Beginning.{SkipsOrEnds}
use Rattle.import.proofs.Skipping.{begin_unread, begin_end}
use Rattle.import.proofs.beginning.begin.Goals as goal

pub returns-in_err-count : goal.returns-in_err-count
returns-in_err-count g c =
    let was = outside (g.S.Source.remaining c.args.source.now) (g.S.Source.reads c.args.source.now) (g.H.Host.observed c.args.host.now) in
    let mid = outside (g.S.Source.remaining c.skip.new.source) (g.S.Source.reads c.skip.new.source) (g.H.Host.observed c.skip.new.host) in
    let is = outside (g.S.Source.remaining c.read_more.new.source) (g.S.Source.reads c.read_more.new.source) (g.H.Host.observed c.read_more.new.host) in
    let all : c.in_ok-skip.field-0 ≡ true = search rules in
    let why = c.in_err-count.ensures.fault in
    let p = err_from_is_err_and c.from_residual-in_err-count.result c.from_residual-in_err-count.ensures.1 in
    rw (p.1, p.2) (begin_unread c.args.skipped was mid is [] (subst (λ all. SkipsOrEnds all c.args.skipped was mid) all c.in_ok-skip.ensures) why.1 c.in_err-count.field-0.0 why.0 refl)

pub returns-then-count-eq0 : goal.returns-then-count-eq0
returns-then-count-eq0 g c =
    let was = outside (g.S.Source.remaining c.args.source.now) (g.S.Source.reads c.args.source.now) (g.H.Host.observed c.args.host.now) in
    let mid = outside (g.S.Source.remaining c.skip.new.source) (g.S.Source.reads c.skip.new.source) (g.H.Host.observed c.skip.new.host) in
    let is = outside (g.S.Source.remaining c.read_more.new.source) (g.S.Source.reads c.read_more.new.source) (g.H.Host.observed c.read_more.new.host) in
    let all : c.in_ok-skip.field-0 ≡ true = search rules in
    let read = c.in_ok-count.ensures.read in
    begin_end c.args.skipped was mid is read.0 (subst (λ all. SkipsOrEnds all c.args.skipped was mid) all c.in_ok-skip.ensures) read.2 (read.1 ∙ c.if-count-eq0.true) (read.3 c.if-count-eq0.true)
