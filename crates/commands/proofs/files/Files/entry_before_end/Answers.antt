use Rattle.std.proofs.Common.{◌≡◌, ◌<◌, ◌+◌, ℕ, Option, Some, None, Result, Ok, Err, arith, subst}
use Rattle.std.specs.Prelude.{IfOk, IfSome, IsOkAnd}
use Rattle.trace_store.specs.Disk.{Image}
use Rattle.stores.specs.Events.{IsHonest}
use Rattle.recovery.specs.Outlined.{Outlines}
use Rattle.recovery.specs.Stores.{readings}
use Rattle.recovery.specs.declared.fault.RecoverFault.{RecoverFault}
use Rattle.recovery.specs.declared.outlined.Outlined.{Outlined}
use Rattle.commands.specs.Later.{IsBeforeEnd}
use Rattle.commands.proofs.Readings.{looks_same}
use Rattle.commands.proofs.files.Files.entry_before_end.Goals as goal

before-end : (found : Result Outlined RecoverFault) (result : Option ℕ) (image : Image) (entries : ℕ) → IfSome result (λ entry. IsOkAnd found (λ f. (entry + entries ≡ f.total) × (f.first < entry)))
    → IfOk found (Outlines (readings image)) → IfSome result (IsBeforeEnd image entries)
before-end found None image entries is outlines = tt
before-end (Ok f) (Some entry) image entries is outlines = record { found = f; outlines = outlines; count = is.0; behind = is.1 }
before-end (Err fault) (Some entry) image entries is outlines = absurd is

pub returns-clause-before : goal.returns-clause-before
returns-clause-before c = λ h. before-end c.look_over-found.result c.entry_in.result _ c.args.entries c.entry_in.ensures (c.look_over-found.ensures.recovers (subst IsHonest c.reopen.ensures.same.past h))

pub returns-clause-looks : goal.returns-clause-looks
returns-clause-looks c =
    let same = c.reopen.ensures.same in
    record {
      place = c.reopen.ensures.place;
      only_reads = looks_same c.args.self.now.store c.look_over-found.new.store c.reopen.new.self.store c.look_over-found.ensures.device.only_reads same c.reopen.ensures.closed;
      at_most = λ h. omega (arith, same.clock, c.look_over-found.ensures.at_most (subst IsHonest same.past h));
    }
