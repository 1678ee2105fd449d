use Rattle.std.proofs.Common.{rules, ◌≡◌, [], refl, subst, sym}
use Rattle.segment.specs.Specification.{File}
use Rattle.recovery.specs.Views.{total}
use Rattle.trace_store.specs.Device.{device_of, Leaves, IsIdle}
use Rattle.trace_port.specs.Sound.{Sound}
use Rattle.trace_port.specs.Port.{IsSaved, Ends, has_sealed}
use Rattle.trace_port.specs.Opened.{opened_told}
use Rattle.trace_port.specs.FilePort.{file_told}
use Rattle.trace_port.proofs.Leaving.{stays_idle}
use Rattle.trace_port.proofs.Lending.{ends_after}
use Rattle.tracees.specs.Hands.{items_moved}
use Rattle.tracees.proofs.Lenders.{one_rest, one_grows, one_saved}
use Rattle.tracees.proofs.lender.record_one.Goals as goal

pub returns-clause-hands : goal.returns-clause-hands
returns-clause-hands g c =
    let told = file_told g.S.Store g.R.Room in
    let device = device_of g.S.Store in
    let back : c.store-1.given.0 ≡ c.drop.new.self.0 = search rules in
    let port = c.over-port.result in
    let over = c.over-port.ensures in
    record {
      port = port;
      end = c.hand_one-done.new.port;
      as_opened = record { state = over.live; spec = refl; limit = λ file. over.limit; covered = over.covered; total = over.total; drops = over.drops; gate = over.gate; period_start = refl; pending = over.pending };
      at_first = subst (λ s. IsIdle (device s) (told port).device) over.now (stays_idle (told port).device);
      hands = c.hand_one-done.ensures.hands.did;
      drops = subst (λ s. Ends (told c.hand_one-done.new.port) (device s)) (sym back) c.drop.ensures;
    }

pub returns-clause-rest : goal.returns-clause-rest
returns-clause-rest g c = one_rest (file_told g.S.Store g.R.Room) 0 c.over-port.result c.hand_one-done.new.port c.args.limit c.args.tracee c.hand_one-done.result.0 c.hand_one-done.result.1 c.hand_one-done.ensures.hands.did

pub returns-clause-moments : goal.returns-clause-moments
returns-clause-moments g c h v0 fits =
    let laws = g.met.S.Store g.world.𝓛 g.world.𝓜 g.world.𝓡 (λ s h. h, λ p. p, λ f. f, λ p. p) in
    let told = file_told g.S.Store g.R.Room in
    let device = device_of g.S.Store in
    let back : c.store-1.given.0 ≡ c.drop.new.self.0 = search rules in
    let port = c.over-port.result in
    let new = c.hand_one-done.new.port in
    let result = c.hand_one-done.result.1 in
    let one = c.hand_one-done.ensures.hands.did in
    let grows = one_grows told (λ p honest image left. laws.only_now p.store.now image honest left) 0 port new c.args.limit c.args.tracee c.hand_one-done.result.0 result one in
    let run = ends_after (told port) (told new) (device c.drop.new.self.0) (items_moved result) (has_sealed (told one.between.port).state (told new).state) grows c.drop.ensures (subst g.S.Store.honest back h) v0 [] (total v0) (c.over-port.ensures.fits v0 [] (total v0) fits) in
    subst (λ s. Leaves (device c.args.store.now) (device s) (Sound File v0 (items_moved result) (total v0))) (sym back)
    (subst (λ s. Leaves (device s) (device c.drop.new.self.0) (Sound File v0 (items_moved result) (total v0))) c.over-port.ensures.now run)

pub returns-clause-saved : goal.returns-clause-saved
returns-clause-saved g c h v0 fits =
    let laws = g.met.S.Store g.world.𝓛 g.world.𝓜 g.world.𝓡 (λ s h. h, λ p. p, λ f. f, λ p. p) in
    let told = file_told g.S.Store g.R.Room in
    let device = device_of g.S.Store in
    let back : c.store-1.given.0 ≡ c.drop.new.self.0 = search rules in
    let port = c.over-port.result in
    let over = c.over-port.ensures in
    let new = c.hand_one-done.new.port in
    let result = c.hand_one-done.result.1 in
    let opened = opened_told g.R.Room c.args.opening in
    let saved = one_saved told (λ p honest image left. laws.only_now p.store.now image honest left) 0 port new (device c.drop.new.self.0) c.args.limit c.args.tracee c.hand_one-done.result.0 result over.live c.hand_one-done.ensures.hands.did c.drop.ensures
    (subst g.S.Store.honest back h) v0 (total v0) (over.fits v0 [] (total v0) fits) in (
      saved.0,
      subst (λ s. IsSaved (opened (device c.args.store.now)) (device s) v0 (items_moved result) saved.0) (sym back)
          (subst (λ s. IsSaved (opened (device s)) (device c.drop.new.self.0) v0 (items_moved result) saved.0) over.now saved.1),
    )
