use Rattle.std.proofs.Common.{◌≡◌, ◌≢◌, ◌⊎◌, ◌↔◌, inl, inr, ℕ, IsTrue, true, refl}
use Rattle.script_runner.specs.Faults.{IsOfStream, run_fault}
use Rattle.script_runner.specs.declared.fault.SimFault.{SimFault}
use Rattle.script_runner.specs.declared.fault.SimFault.TheVariants as faults
use Rattle.trace_client.specs.declared.fault.StreamFault.{StreamFault}
use Rattle.trace_client.specs.declared.fault.StreamFault.TheVariants as stream
use Rattle.script_runner.proofs.fault.SimFault.is_of_stream.Goals as goal

same : (fault : SimFault) (from : StreamFault) → fault ≡ run_fault from → from ≢ stream.Write → IsTrue true ↔ IsOfStream fault
same fault from is other = (λ _. inl (from, is, other), λ _. refl)

-- one of those that a stream has too
is_of : (fault : SimFault) → (fault ≡ faults.Read) ⊎ ((x : ℕ) × fault ≡ faults.Truncated x) ⊎ ((x : ℕ) × fault ≡ faults.BadOp x) ⊎ ((x : ℕ) × fault ≡ faults.ZeroDrop x) ⊎ ((x : ℕ) × fault ≡ faults.TooLong x) ⊎ (fault ≡ faults.NoMemory) ⊎ ((x : ℕ) × fault ≡ faults.BadMessage x)
    → IsTrue true ↔ IsOfStream fault
is_of fault (inl is) = same fault stream.Read is (λ e. let bad : stream.Read ≡ stream.Write = e in cc)
is_of fault (inr (inl is)) = same fault (stream.Truncated is.0) is.1 (λ e. let bad : stream.Truncated is.0 ≡ stream.Write = e in cc)
is_of fault (inr (inr (inl is))) = same fault (stream.BadOp is.0) is.1 (λ e. let bad : stream.BadOp is.0 ≡ stream.Write = e in cc)
is_of fault (inr (inr (inr (inl is)))) = same fault (stream.ZeroDrop is.0) is.1 (λ e. let bad : stream.ZeroDrop is.0 ≡ stream.Write = e in cc)
is_of fault (inr (inr (inr (inr (inl is))))) = same fault (stream.TooLong is.0) is.1 (λ e. let bad : stream.TooLong is.0 ≡ stream.Write = e in cc)
is_of fault (inr (inr (inr (inr (inr (inl is)))))) = same fault stream.NoMemory is (λ e. let bad : stream.NoMemory ≡ stream.Write = e in cc)
is_of fault (inr (inr (inr (inr (inr (inr is)))))) = (λ _. inr is, λ _. refl)

pub returns-in-Read : goal.returns-in-Read
returns-in-Read c = is_of c.args.self.now c.in-Read.is

pub returns-in-Read-2 : goal.returns-in-Read-2
returns-in-Read-2 c = is_of c.args.self.now c.in-Read.is

pub returns-in-Read-3 : goal.returns-in-Read-3
returns-in-Read-3 c = is_of c.args.self.now c.in-Read.is

pub returns-in-Read-4 : goal.returns-in-Read-4
returns-in-Read-4 c = is_of c.args.self.now c.in-Read.is

pub returns-in-Read-5 : goal.returns-in-Read-5
returns-in-Read-5 c = is_of c.args.self.now c.in-Read.is

pub returns-in-Read-6 : goal.returns-in-Read-6
returns-in-Read-6 c = is_of c.args.self.now c.in-Read.is

pub returns-in-Read-7 : goal.returns-in-Read-7
returns-in-Read-7 c = is_of c.args.self.now c.in-Read.is
