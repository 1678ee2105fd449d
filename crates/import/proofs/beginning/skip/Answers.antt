use Rattle.std.proofs.Common.{rules, ◌≡◌, ◌+◌, ◌-◌, ◌≤◌, length, take, length-take, refl, arith}
use Rattle.import.specs.Incoming.{longest_read, outside}
use Rattle.import.proofs.Parts.{comes_none, comes_some}
use Rattle.import.proofs.Skipping.{skips_none, skips_more, skips_end, skips_unread}
use Rattle.import.proofs.beginning.skip.Goals as goal

pub reads-init : goal.reads-init
reads-init g c =
    let was = outside (g.S.Source.remaining c.args.source.now) (g.S.Source.reads c.args.source.now) (g.H.Host.observed c.args.host.now) in
    record { within = omega arith; skips = skips_none c.args.count was was was c.args.count refl }

pub returns-in_default : goal.returns-in_default
returns-in_default g c =
    let was = outside (g.S.Source.remaining c.args.source.now) (g.S.Source.reads c.args.source.now) (g.H.Host.observed c.args.host.now) in
    let mid = outside (g.S.Source.remaining c.reads.source) (g.S.Source.reads c.reads.source) (g.H.Host.observed c.reads.host) in
    let is = outside (g.S.Source.remaining c.read_once.new.self) (g.S.Source.reads c.read_once.new.self) (g.H.Host.observed c.read_once.new.host) in
    let e = c.in_default.ensures in
    skips_unread c.args.count was mid is c.reads.left c.reads.invariant.within c.reads.invariant.skips (comes_none mid.remaining is.remaining mid.reads is.reads mid.observed is.observed e.kept e.not_counted e.not_noted)

pub returns-then-read-eq0 : goal.returns-then-read-eq0
returns-then-read-eq0 g c =
    let was = outside (g.S.Source.remaining c.args.source.now) (g.S.Source.reads c.args.source.now) (g.H.Host.observed c.args.host.now) in
    let mid = outside (g.S.Source.remaining c.reads.source) (g.S.Source.reads c.reads.source) (g.H.Host.observed c.reads.host) in
    let is = outside (g.S.Source.remaining c.read_once.new.self) (g.S.Source.reads c.read_once.new.self) (g.H.Host.observed c.read_once.new.host) in
    let e = c.in-Ok.ensures in
    let slice = c.read_once.new.slice in
    let most : length slice ≤ longest_read = search rules in
    let comes = comes_some mid.remaining is.remaining mid.reads is.reads c.in-Ok.read mid.observed is.observed slice e.bound.0 most e.bytes e.counted e.noted in
    let none : length (take c.in-Ok.read slice) ≡ 0 = omega (arith, length-take c.in-Ok.read slice, c.if-read-eq0.true) in
    skips_end c.args.count was mid is c.reads.left (take c.in-Ok.read slice) c.reads.invariant.within c.reads.invariant.skips comes none (e.end c.if-read-eq0.true (search rules))

pub reads-preserved : goal.reads-preserved
reads-preserved g c =
    let was = outside (g.S.Source.remaining c.args.source.now) (g.S.Source.reads c.args.source.now) (g.H.Host.observed c.args.host.now) in
    let mid = outside (g.S.Source.remaining c.reads.source) (g.S.Source.reads c.reads.source) (g.H.Host.observed c.reads.host) in
    let is = outside (g.S.Source.remaining c.read_once.new.self) (g.S.Source.reads c.read_once.new.self) (g.H.Host.observed c.read_once.new.host) in
    let e = c.in-Ok.ensures in
    let slice = c.read_once.new.slice in
    let most : length slice ≤ longest_read = search rules in
    let within : length slice ≤ c.reads.left = search rules in
    let comes = comes_some mid.remaining is.remaining mid.reads is.reads c.in-Ok.read mid.observed is.observed slice e.bound.0 most e.bytes e.counted e.noted in
    let less : c.reads.left - c.in-Ok.read + length (take c.in-Ok.read slice) ≡ c.reads.left = omega (arith, length-take c.in-Ok.read slice, e.bound.0, within) in
    record {
      within = omega (arith, c.reads.invariant.within);
      skips = skips_more c.args.count was mid is c.reads.left (c.reads.left - c.in-Ok.read) (take c.in-Ok.read slice) c.reads.invariant.within c.reads.invariant.skips comes less;
    }
