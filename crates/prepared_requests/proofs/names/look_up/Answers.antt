use Rattle.std.proofs.Common.{◌≡◌, map, string_bytes, subst}
use Rattle.std.specs.Prelude.{OnOk}
use Rattle.trace_text.specs.Choosing.{asks_of}
use Rattle.prepared_requests.specs.Names.{choice_meant, holding_of}
use Rattle.prepared_requests.specs.NamesLooked.{IsSeen, WereLookedAt, not_read}
use Rattle.prepared_requests.proofs.NamesLooking.{named_so}
use Rattle.prepared_requests.proofs.names.look_up.Goals as goal

pub returns-in-Some : goal.returns-in-Some
returns-in-Some g c =
    let names = map (λ s. string_bytes s) c.in_ok-names.names.items in
    let old = c.args.choice.now in
    let new = c.put_processes.new.choice in
    named_so g.world' c.args.asked old new names c.in-Some.seen c.put_processes.result c.in_ok-names.ensures (subst (λ seen. WereLookedAt g.world' c.args.asked (IsSeen names seen)) c.in-Some.is c.in_ok-seen.ensures)
    (subst (λ holders. OnOk c.put_processes.result (asks_of new ≡ choice_meant (map holding_of holders) (asks_of old))) c.deref.ensures.value c.put_processes.ensures)

pub returns-in-None : goal.returns-in-None
returns-in-None g c =
    let names = map (λ s. string_bytes s) c.in_ok-names.names.items in
    not_read (subst (λ seen. WereLookedAt g.world' c.args.asked (IsSeen names seen)) c.in-None.is c.in_ok-seen.ensures)
