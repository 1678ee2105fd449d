use Rattle.std.proofs.Common.{map, string_bytes}
use Rattle.prepared_requests.proofs.NamesLooking.{looked_so}
use Rattle.prepared_requests.proofs.looking.see_names.Goals as goal

pub returns : goal.returns
returns g c =
    looked_so g.world' c.args.asked c.in_ok-files.files c.look_at.new.files (map (λ s. string_bytes s) c.args.names.items) c.look_at.result c.in_ok-files.ensures.free (record { found = c.in_ok-found.found; may_be = c.in_ok-found.ensures; at = c.in_ok-files.ensures.place }) c.look_at.ensures.only_reads c.look_at.ensures.seen
