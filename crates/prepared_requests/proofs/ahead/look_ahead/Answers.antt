use Rattle.std.proofs.Common.{◌≡◌, ◌≤◌, ◌∙◌, ap, sym, subst, List, ℕ, length, drop, inr, arith}
use Rattle.prepared_requests.specs.Ahead.{NoneBefore, IsOpen}
use Rattle.prepared_requests.proofs.AheadStays.{none_before_read, still_within, read_further}
use Rattle.prepared_requests.proofs.ahead.look_ahead.Goals as goal

pub reads-preserved : goal.reads-preserved
reads-preserved g c =
    let start = c.args.start in
    let old = c.reads.bytes.items in
    let new = c.read_behind.new.bytes.items in
    let came = c.in_ok-read_behind.ensures.came in
    let place = c.find-found.result.place in
    let before : c.behind.result.now ≡ drop start old = c.behind.ensures ∙ ap (drop start) c.deref.ensures.value in
    let within : place ≤ length (drop start old) = subst (λ (l : List ℕ). place ≤ length l) before c.find-found.ensures.within.1 in
    record {
      read = read_further (g.I.Read.remaining c.args.input.now) (g.I.Read.remaining c.reads.input) (g.I.Read.remaining c.read_behind.new.input) old came.0 new c.reads.invariant.read came.2 came.3;
      within = subst (λ (l : List ℕ). place ≤ length (drop start l)) (sym came.3) (still_within start place old came.0 within);
      needed = inr (record { front = old; chunk = came.0; is = came.3; read = omega (arith, came.1, c.in_ok-read_behind.ensures.most); left_open = subst (IsOpen c.args.longest) before (c.find-found.ensures.unknown c.if-found.false) });
      none = λ some. subst (λ (l : List ℕ). NoneBefore c.args.longest place (drop start l)) (sym came.3)
          (none_before_read c.args.longest start place old came.0 within (subst (NoneBefore c.args.longest place) before (c.find-found.ensures.none some)) some);
    }
