use Rattle.std.proofs.Common.{refl, arith}
use Rattle.trace_text.proofs.FactTelling.{facts_read, text_read, facts_unread, seen_as}
use Rattle.trace_text.proofs.Suiting.{term_spelled}
use Rattle.trace_text.proofs.fact_reader.FactReader.read.Goals as goal

pub returns-in_default : goal.returns-in_default
returns-in_default c =
    let unread = rw c.in_default.is at c.in_ok-kind.ensures.read in
    record { facts = facts_unread c.args.bytes.now (λ i. omega (arith, c.type_inv.bytes i)) unread; text = unread; memory = tt }

pub returns : goal.returns
returns c =
    let r = rw c.in-Some.is at c.in_ok-kind.ensures.read in
    let tells = c.in_ok-tells.ensures r.t r.is_kind (seen_as r.t _ _ _ _ c.deref.ensures.value c.deref-2.ensures.value r.is_seen) in
    record {
      facts = facts_read c.args.bytes.now _ c.in-Some.kind _ _ r (c.facts.ensures.facts r.t (record { is_kind = r.is_kind; is_seen = r.is_seen; function = tells; fifth = (rw c.in-Some.is at c.in_ok-kind.ensures.fifth) refl r.t (term_spelled c.args.bytes.now r.t r.short r.spells) }));
      text = text_read c.args.bytes.now _ _ c.in-Some.kind _ r c.facts.ensures.text;
      memory = tt;
    }
