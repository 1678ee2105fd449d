use Rattle.std.proofs.Common.{rules, ◌≡◌, refl, sym, subst}
use Rattle.trace_store.specs.Device.{device_of}
use Rattle.trace_port.specs.Port.{Ends}
use Rattle.trace_port.specs.FilePort.{file_told}
use Rattle.wrap_port.specs.WrapPort.{wrap_told}
use Rattle.wrap_port.proofs.Specs.{wrap_no_file}
use Rattle.script_runner.specs.Answers.{opened_answer}
use Rattle.script_runner.specs.Sides.{in_desk}
use Rattle.script_runner.proofs.Running.{was_held}
use Rattle.script_runner.proofs.record.record_script.Goals as goal

pub returns-in-File : goal.returns-in-File
returns-in-File g c =
    let device = device_of g.S.Store in
    let told = file_told g.S.Store Rattle.trace_port.specs.contracts.pending.PendingRoom.TheImpl.ghosts in
    let laws = g.met.S.Store g.world.𝓛 g.world.𝓜 g.world.𝓡 (λ s h. h, λ p. p, λ f. f, λ p. p) in
    let back : c.store-1.given.0 ≡ c.drop.new.self.0 = search rules in
    let over = c.over-port.ensures in
    let run = c.record-done.ensures.run.did in
    rw c.in-File.is (
      run.0,
      was_held told (λ p honest image left. laws.only_now p.store.now image honest left) in_desk (λ p. refl) _ (opened_answer c.args.origin) c.over-port.result c.record-done.new.port (device c.store-1.given.0) 0 _ c.record-done.result _
          (λ Q q. subst (λ s. Q (device s)) over.now q)
          (record { state = over.live; spec = refl; limit = λ file. over.limit; covered = over.covered; total = over.total; drops = over.drops; gate = over.gate; period_start = refl; pending = over.pending }) over.fits
          (subst (λ s. Ends (told c.record-done.new.port) (device s)) (sym back) c.drop.ensures) run.1,
    )

pub returns-in-Wrap : goal.returns-in-Wrap
returns-in-Wrap g c =
    let device = device_of g.S.Store in
    let told = wrap_told g.S.Store Rattle.trace_port.specs.contracts.pending.PendingRoom.TheImpl.ghosts in
    let laws = g.met.S.Store g.world.𝓛 g.world.𝓜 g.world.𝓡 (λ s h. h, λ p. p, λ f. f, λ p. p) in
    let back : c.store-in-Wrap-1.given.0 ≡ c.drop-in-Wrap.new.self.0 = search rules in
    let over = c.over-port-in-Wrap.ensures in
    let run = c.record-done-in-Wrap.ensures.run.did in
    rw c.in-Wrap.is (
      run.0,
      was_held told (λ p honest image left. laws.only_now p.store.now image honest left) in_desk (λ p. refl) _ (opened_answer c.args.origin) c.over-port-in-Wrap.result c.record-done-in-Wrap.new.port (device c.store-in-Wrap-1.given.0) 0 _ c.record-done-in-Wrap.result _
          (λ Q q. subst (λ s. Q (device s)) over.now q)
          (record { state = over.live; spec = over.spec; limit = λ file. absurd (wrap_no_file c.in-Wrap.opening.spec file); covered = over.covered; total = over.total; drops = over.drops; gate = over.gate; period_start = over.period_start; pending = over.pending }) over.fits
          (subst (λ s. Ends (told c.record-done-in-Wrap.new.port) (device s)) (sym back) c.drop-in-Wrap.ensures) run.1,
    )
