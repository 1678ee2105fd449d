-- All that is counted of a trace.
use Rattle.std.specs.Prelude.{◌≡◌, ℕ, List, Option, None, refl}
use Rattle.std.specs.Coded.{Coded, Coded-set, code_by, coded×, coded_list, coded_ℕ, coded_option}
use Rattle.entry_codec.specs.Entries.{Entry}
use Rattle.trace_views.specs.Counting.{Telling, tellings, FunctionCounts, ProcessCounts, messages, unread, lost}
use Rattle.trace_views.specs.Rows.{AreFunctionsCounted, AreNamesTold, AreProcessesCounted, AreKindsCounted}
use Rattle.trace_views.specs.declared.tallies.Tallies.{Tallies}

-- the counts are those of what is told
pub record IsCounted (tallies : Tallies) (told : List Telling) : Type 0 where
  pub functions : AreFunctionsCounted tallies.functions.rows told
  pub processes : AreProcessesCounted tallies.processes.rows told
  pub names : AreNamesTold tallies.processes.names told
  pub kinds : AreKindsCounted tallies.kinds.rows.items told
  pub messages : tallies.messages ≡ messages told
  pub unread : tallies.unread ≡ unread told
  pub lost : tallies.lost ≡ lost told

-- they are those of the entries, unless a fault came
abbrev pub IsCountedUnless : {F : Type 0} → Option F → Tallies → List Entry → Type 0
IsCountedUnless fault tallies entries = fault ≡ None → IsCounted tallies (tellings entries)

-- ---- for a ghost field

abbrev coded_function_counts : Coded FunctionCounts
coded_function_counts = code_by (ℕ × (ℕ × ℕ)) (coded× coded_ℕ (coded× coded_ℕ coded_ℕ)) (λ c. (c.calls, (c.returns, c.exceptions))) (λ p. record { calls = p.0; returns = p.1.0; exceptions = p.1.1 }) (λ _. refl)

abbrev coded_process_counts : Coded ProcessCounts
coded_process_counts =
    code_by (ℕ × (ℕ × (ℕ × (ℕ × ℕ)))) (coded× coded_ℕ (coded× coded_ℕ (coded× coded_ℕ (coded× coded_ℕ coded_ℕ)))) (λ c. (c.calls, (c.sent, (c.received, (c.waiting.now, c.waiting.most)))))
    (λ p. record { calls = p.0; sent = p.1.0; received = p.1.1.0; waiting = record { now = p.1.1.1.0; most = p.1.1.1.1 } }) (λ _. refl)

-- each has one proof at most
pub IsCounted-prop : (tallies : Tallies) (told : List Telling) → IsProp (IsCounted tallies told)
IsCounted-prop tallies told p q i = record {
  functions = λ text. Coded-set (coded_option coded_function_counts) _ _ (p.functions text) (q.functions text) i;
  processes = λ text. Coded-set (coded_option coded_process_counts) _ _ (p.processes text) (q.processes text) i;
  names = λ name. Coded-set (coded_option (coded_list coded_ℕ)) _ _ (p.names name) (q.names name) i;
  kinds = λ word. Coded-set (coded_list coded_ℕ) _ _ (p.kinds word) (q.kinds word) i;
  messages = Coded-set coded_ℕ _ _ p.messages q.messages i;
  unread = Coded-set coded_ℕ _ _ p.unread q.unread i;
  lost = Coded-set coded_ℕ _ _ p.lost q.lost i;
}

pub IsCountedUnless-prop : {F : Type 0} (fault : Option F) (tallies : Tallies) (entries : List Entry) → IsProp (IsCountedUnless fault tallies entries)
IsCountedUnless-prop fault tallies entries p q i none = IsCounted-prop tallies (tellings entries) (p none) (q none) i
