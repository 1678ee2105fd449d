use Rattle.std.proofs.Common.{◌∙◌, List, [], ◌∷◌, ap, map, rules, string_bytes}
use Rattle.entry_codec.specs.Entries.{Entry}
use Rattle.entry_codec.specs.Seen.{lent}
use Rattle.trace_views.specs.Taking.{in_two_looks}
use Rattle.trace_views.proofs.TakenLemmas.{looks-append}
use Rattle.prepared_requests.specs.Names.{as_entries, holding_of}
use Rattle.prepared_requests.proofs.NamesLemmas.{told_on}
use Rattle.prepared_requests.proofs.names_seen.NamesSeenView.take.Goals as goal

pub returns-clause-taken : goal.returns-clause-taken
returns-clause-taken c =
    let names = as_entries (map (λ s. string_bytes s) c.args.self.now.asked.items) in
    ap (λ (l : List Entry). in_two_looks names l) c.note.ensures ∙ looks-append names c.args.self.now.taken.entries (lent c.args.entry ∷ [])

pub invariant_of-self-2 : goal.invariant_of-self-2
invariant_of-self-2 c =
    let was = c.args.self.now in
    record {
      told = told_on was.fault (map (λ s. string_bytes s) was.asked.items) (map (λ s. string_bytes s) c.deref.result.now) (map holding_of was.holders.items) (map holding_of c.see_entry.new.holders.items) was.taken.entries c.note.new.self.entries (lent c.args.entry) c.see_entry.result
          (search rules) (ap (λ l. map (λ s. string_bytes s) l) c.deref.ensures.value) c.see_entry.ensures was.told c.note.ensures;
    }
